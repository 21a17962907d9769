-- The next reference of a fetched request may be acquired, and then it may go down on the next hop.
use Rattle.std.proofs.Common.{◌≡◌, ℕ, ◌+◌, ◌-◌, ◌<◌, List, Option, sym, ◌∙◌, ap, arith, subst}
use Rattle.std.specs.Prelude.{◌≢◌, IfSome}
use Rattle.atomic_table.specs.Seated.{TableId}
use Rattle.view_lists.specs.Lists.{Within}
use Rattle.one_history.specs.declared.entry.Entry.{Entry as HistoryEntry}
use Rattle.one_history.specs.declared.view.Frame.{Frame}
use Rattle.tlm_types.specs.declared.entry.Content.{Content}
use Rattle.tlm_types.specs.declared.words.ObjectNo.TheVariants.{Hop}
use Rattle.tlm_types.specs.declared.words.Phase.TheVariants.{BeginReq as begin_req_phase}
use Rattle.tlm_types.specs.declared.words.ReqMode.{ReqMode}
use Rattle.tlm_types.specs.declared.words.ReqMode.TheVariants.{Accept, Short, EndReq, BeginResp, Complete}
use Rattle.tlm_types.specs.declared.words.TxnId.{TxnId}
use Rattle.tlm_model.specs.Plan.{Plan}
use Rattle.generic_payload.specs.Payload.{PayloadView}
use Rattle.token_book.specs.Account.{Slip}
use Rattle.token_book.specs.Purse.{Purse, left_of}
use Rattle.payload_pool.specs.declared.baton.Baton.{Baton}
use Rattle.flow_model.specs.World.{hop_at, row_of}
use Rattle.flow_model.specs.Events.{Event, Finds, IsPhase}
use Rattle.flow_model.specs.Platform.{world_of}
use Rattle.cargo_model.specs.declared.cargo.Cargo.{Cargo}
use Rattle.cargo_model.specs.Counts.{request_ends}
use Rattle.cargo_model.specs.Known.{Known, object_number}
use Rattle.cargo_model.specs.Laws.{Case, handed_on}
use Rattle.cargo_model.specs.Tickets.{Pulls, PullsOwed}
use Rattle.cargo_model.specs.Travel.{GoesDown, Ready, There, reference}
use Rattle.cargo_model.proofs.Down.{acquire_paid, descends, end_req_paid}
use Rattle.cargo_model.proofs.Wallets.{pulled_there}
use Rattle.cargo_net.specs.Descends.{MayDescend, owed_on}
use Rattle.cargo_net.specs.Pools.{HasAcquired, MayAcquire}
use Rattle.cargo_net.specs.Wallets.{PullsAt}
use Rattle.cargo_net.proofs.AskedLemmas.{asked_few}
use Rattle.cargo_net.proofs.Grown.{down_at}
use Rattle.cargo_net.proofs.PoolLemmas.{next_hold, next_own}

one_is_some : ◌≡◌ {A = ℕ} 1 0 → ⊥
one_is_some q = omega arith

none_is_none : ◌≡◌ {A = ℕ} 0 1 → ⊥
none_is_none q = omega arith

-- what was pulled is what was owed
owed_at : (tokens : TableId) (row : ReqMode) (n : ℕ) (v w : Purse) → PullsAt tokens (owed_on row n) v w → PullsOwed tokens (request_ends row) n v w
owed_at tokens Accept n v w p = record { none = λ q. absurd (one_is_some q); one = λ q. p }
owed_at tokens Short n v w p = record { none = λ q. p; one = λ q. absurd (none_is_none q) }
owed_at tokens EndReq n v w p = record { none = λ q. p; one = λ q. absurd (none_is_none q) }
owed_at tokens BeginResp n v w p = record { none = λ q. p; one = λ q. absurd (none_is_none q) }
owed_at tokens Complete n v w p = record { none = λ q. p; one = λ q. absurd (none_is_none q) }

left_at : (row : ReqMode) (n : ℕ) (w : Purse) → 0 < left_of w n → IfSome (owed_on row n) (λ (i : ℕ). 0 < left_of w i)
left_at Accept n w l = l
left_at Short n w l = tt
left_at EndReq n w l = tt
left_at BeginResp n w l = tt
left_at Complete n w l = tt

module _ (frame : Frame Plan) (tokens : TableId) (number : ℕ) (c : Cargo) (above : Option ℕ) (address at : ℕ) (known : List (HistoryEntry Content)) (may : MayDescend frame tokens number c above address at known) where
  abbrev pub p : Plan
  p = frame.world

  abbrev pub x : TxnId
  x = c.baton.txn

  abbrev pub knows : Event → Type 0
  knows = Known p.platform known

  abbrev pub down : GoesDown p tokens knows x may.pass There may.hop c
  down = may.down

  abbrev pub here : List (HistoryEntry Content) → Case
  here l = record { p = p; tokens = tokens; entries = l; x = x; pass = may.pass; c = c }

  -- the payload with the address behind the window
  abbrev pub turned : PayloadView
  turned = let v = c.baton.payload in record v { address = address }

  abbrev pub carried : Baton
  carried = let b = c.baton in record b { payload = turned }

  abbrev pub hop_number : ℕ
  hop_number = object_number p.platform (Hop (hop_at may.pass may.hop))

  pub few : may.hop + 1 < 15
  few = let n = may.next in let l = asked_few p tokens knows x may.pass down.asked in omega (arith, n, l)

  pub some_ticket : 0 < left_of c.baton.wallet number
  some_ticket = subst (λ (n : ℕ). 0 < left_of c.baton.wallet n) (sym (let o = may.pool in o.place)) (acquire_paid (here known) may.hop down may.next)

  pub begun_there : (j : ℕ) → may.hop + 1 ≡ j + 1 → Finds knows (IsPhase x (hop_at may.pass j) begin_req_phase)
  begun_there j q = let r : may.hop ≡ j = omega (arith, q) in subst (λ (i : ℕ). Finds knows (IsPhase x (hop_at may.pass i) begin_req_phase)) r may.begun

  abbrev pub may_acquire : MayAcquire frame tokens number carried at known
  may_acquire = record {
    pass = may.pass;
    passes = down.asked.passes;
    pool = may.pool;
    position = down.held.position;
    taken = down.held.taken;
    count = may.hop + 1;
    few = few;
    own = down.held.own;
    of = down.tickets.of;
    ticket = some_ticket;
    after = record { below = may.next; order = record { begun = begun_there }; time = may.arrival };
  }

  -- the payload with its address set
  pub may_acquire_with : (v : PayloadView) → v ≡ turned → MayAcquire frame tokens number (let b = c.baton in record b { payload = v }) at known
  may_acquire_with v q = subst (λ (u : PayloadView). MayAcquire frame tokens number (let b = c.baton in record b { payload = u }) at known) (sym q) may_acquire

  pub has_acquired : (v : PayloadView) → v ≡ turned → (new : Baton) (hold : Slip) (more : List (HistoryEntry Content))
      → ((m : MayAcquire frame tokens number (let b = c.baton in record b { payload = v }) at known) → HasAcquired frame tokens number (let b = c.baton in record b { payload = v }) at m.position m.count new hold more)
      → HasAcquired frame tokens number carried at down.held.position (may.hop + 1) new hold more
  has_acquired v q new hold more f =
      subst (λ (u : PayloadView). (m : MayAcquire frame tokens number (let b = c.baton in record b { payload = u }) at known) → HasAcquired frame tokens number (let b = c.baton in record b { payload = u }) at m.position m.count new hold more) q f may_acquire

  module _ (more : List (HistoryEntry Content)) (w : Within known more) (new : Baton) (hold : Slip) (a : HasAcquired frame tokens number carried at down.held.position (may.hop + 1) new hold more) where
    abbrev later_knows : Event → Type 0
    later_knows = Known p.platform more

    more_known : (e : Event) → knows e → later_knows e
    more_known e k = record { entry = k.entry; has = w k.entry k.has; is = k.is }

    -- the ticket of the END_REQ that is owed is there
    pub owed_left : IfSome above (λ (i : ℕ). 0 < left_of new.wallet i)
    owed_left =
        subst (λ (o : Option ℕ). IfSome o (λ (i : ℕ). 0 < left_of new.wallet i)) (sym may.above_is)
        (left_at (row_of (world_of p) may.pass may.hop) hop_number new.wallet
        (subst (λ (n : ℕ). 0 < n) (sym (pulled_there tokens number 0 c.baton.wallet new.wallet a.pulls hop_number other)) (end_req_paid (here known) may.hop down)))
      where
        other : hop_number ≢ number
        other q = may.apart.pool may.hop down.held.below (q ∙ (let o = may.pool in o.place))

    pub descended : (u : Purse) → PullsAt tokens above new.wallet u → GoesDown p tokens later_knows x may.pass Ready (may.hop + 1) (record { baton = record new { wallet = u }; hold = hold })
    descended u pulled =
        subst (GoesDown p tokens later_knows x may.pass Ready (may.hop + 1)) (sym same)
        (descends (here more) may.hop (down_at p tokens knows later_knows more_known x may.pass There may.hop c down) turned new.wallet u may.apart may.next
        (let f = may.begun in record { event = f.event; known = more_known f.event f.known; is = f.is })
        (let f = a.made in record { event = f.event; known = f.known; is = f.is })
        (ap (λ (n : ℕ). let v = c.baton.payload in record v { address = n }) may.address_is)
        (subst (λ (n : ℕ). Pulls tokens n 0 c.baton.wallet new.wallet) (let o = may.pool in o.place) a.pulls)
        (owed_at tokens (row_of (world_of p) may.pass may.hop) hop_number new.wallet u (subst (λ (o : Option ℕ). PullsAt tokens o new.wallet u) may.above_is pulled)))
      where
        next : (let o = c.baton.own in record o { name = o.name + 1 }) ≡ reference p tokens x down.held.position (16 + (may.hop + 1 + 1))
        next = ap (λ (t : Slip). record t { name = t.name + 1 }) down.held.own ∙ ap (λ (n : ℕ). let r = reference p tokens x down.held.position 0 in record r { name = n }) (next_own down.held.position (may.hop + 1))

        held : (let o = c.baton.own in record o { name = o.name - 16 }) ≡ reference p tokens x down.held.position (may.hop + 1)
        held = ap (λ (t : Slip). record t { name = t.name - 16 }) down.held.own ∙ ap (λ (n : ℕ). let r = reference p tokens x down.held.position 0 in record r { name = n }) (next_hold down.held.position (may.hop + 1))

        same : record { baton = record new { wallet = u }; hold = hold } ≡ handed_on c turned u
        same =
            ap (λ (b : Baton). record { baton = record b { wallet = u }; hold = hold }) a.baton
            ∙ ap (λ (h : Slip). record { baton = (let b = c.baton in record b { payload = turned; wallet = u; own = reference p tokens x down.held.position (16 + (may.hop + 1 + 1)) }); hold = h }) (a.held ∙ sym held)
            ∙ ap (λ (o : Slip). record { baton = (let b = c.baton in record b { payload = turned; wallet = u; own = o }); hold = (let t = c.baton.own in record t { name = t.name - 16 }) }) (sym next)
