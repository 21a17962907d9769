-- The first reference of an access may be acquired, and then the payload may go down.
use Rattle.std.proofs.Common.{◌≡◌, ℕ, ◌+◌, ◌-◌, ◌*◌, ◌<◌, List, refl, sym, ap, arith, subst}
use Rattle.atomic_table.specs.Seated.{TableId}
use Rattle.view_lists.specs.Lists.{Within}
use Rattle.one_history.specs.declared.entry.Entry.{Entry as HistoryEntry}
use Rattle.one_history.specs.declared.view.Frame.{Frame}
use Rattle.tlm_types.specs.declared.entry.Content.{Content}
use Rattle.tlm_types.specs.declared.words.TxnId.{TxnId}
use Rattle.tlm_model.specs.Plan.{Plan}
use Rattle.token_book.specs.Account.{Slip}
use Rattle.token_book.specs.Purse.{left_of}
use Rattle.payload_pool.specs.declared.baton.Baton.{Baton}
use Rattle.flow_model.specs.World.{Passage, hop_count}
use Rattle.flow_model.specs.Events.{Event}
use Rattle.cargo_model.specs.Known.{Known}
use Rattle.cargo_model.specs.Tickets.{Pulls}
use Rattle.cargo_model.specs.Travel.{GoesDown, Ready, logged_by, numbers_for, reference}
use Rattle.cargo_model.proofs.Down.{starts}
use Rattle.cargo_model.proofs.Wallets.{stocks_counts, stocks_pool}
use Rattle.cargo_net.specs.Pools.{HasAcquired, MayAcquire}
use Rattle.cargo_net.specs.Starts.{MayStart}
use Rattle.cargo_net.proofs.Grown.{asked_at}

module _ (frame : Frame Plan) (tokens : TableId) (number : ℕ) (b : Baton) (at : ℕ) (known : List (HistoryEntry Content)) (may : MayStart frame tokens number b at known) where
  abbrev p : Plan
  p = frame.world

  abbrev x : TxnId
  x = b.txn

  abbrev knows : Event → Type 0
  knows = Known p.platform known

  -- there is a hop to pass
  pub some_hop : 0 < hop_count may.pass
  some_hop = let a = may.asked in let l = ap (λ (y : Passage). hop_count y) a.way in omega (arith, l)

  pub some_ticket : 0 < left_of b.wallet number
  some_ticket = let t = may.tickets in let q = t.pool in subst (λ (n : ℕ). 0 < left_of b.wallet n) (sym (let o = may.pool in o.place)) (omega (arith, q))

  abbrev pub may_acquire : MayAcquire frame tokens number b at known
  may_acquire = record {
    pass = may.pass;
    passes = (let a = may.asked in a.passes);
    pool = may.pool;
    position = may.position;
    taken = (let f = may.taken in record { event = f.event; known = f.known; is = f.is });
    count = 0;
    few = omega arith;
    own = may.own;
    of = (let t = may.tickets in t.of);
    ticket = some_ticket;
    after = record {
      below = some_hop;
      order = record { begun = λ j q. absurd (omega arith) };
      time = (let f = may.taken in record { event = f.event; known = f.known; is = record { object = f.is.object; txn = f.is.txn; slot = b.slot; what = f.is.what }; time = f.time });
    };
  }

  module _ (more : List (HistoryEntry Content)) (w : Within known more) where
    abbrev later_knows : Event → Type 0
    later_knows = Known p.platform more

    more_known : (e : Event) → knows e → later_knows e
    more_known e k = record { entry = k.entry; has = w k.entry k.has; is = k.is }

    pub started : (new : Baton) (hold : Slip) → HasAcquired frame tokens number b at may.position 0 new hold more → GoesDown p tokens later_knows x may.pass Ready 0 (record { baton = new; hold = hold })
    started new hold a =
        subst (λ (d : Baton). GoesDown p tokens later_knows x may.pass Ready 0 (record { baton = d; hold = hold })) (sym a.baton)
        (starts (record { p = p; tokens = tokens; entries = more; x = x; pass = may.pass; c = record { baton = record b { wallet = new.wallet; own = reference p tokens x may.position (16 + (0 + 1)) }; hold = hold } })
        (asked_at p tokens knows later_knows more_known x may.pass may.asked)
        (record {
          below = some_hop;
          txn = refl;
          position = may.position;
          taken = (let f = may.taken in record { event = f.event; known = more_known f.event f.known; is = f.is });
          own = refl;
          hold = record {
            position = may.position;
            taken = (let f = may.taken in record { event = f.event; known = more_known f.event f.known; is = record { slot = b.slot; take = f.is } });
            is = a.held;
          };
          room = may.room;
        })
        (let f = a.made in record { event = f.event; known = f.known; is = f.is })
        may.status may.content
        (stocks_counts tokens (hop_count may.pass) (numbers_for p tokens knows x may.pass may.asked) (λ j left. left ≡ 4) (2 * hop_count may.pass + 1 - 1) 1 (let d = may.asked in logged_by d.access) (2 * hop_count may.pass) 1 (let d = may.asked in logged_by d.access) new.wallet (one_less (hop_count may.pass)) refl refl
        (stocks_pool tokens (hop_count may.pass) (numbers_for p tokens knows x may.pass may.asked) may.apart (λ j left. left ≡ 4) (2 * hop_count may.pass + 1) 1 (let d = may.asked in logged_by d.access) b.wallet new.wallet
        (subst (λ (n : ℕ). Pulls tokens n 0 b.wallet new.wallet) (let o = may.pool in o.place) a.pulls) may.tickets)))
      where
        one_less : (n : ℕ) → 2 * n + 1 - 1 ≡ 2 * n
        one_less n = omega arith
