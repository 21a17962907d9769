-- What is known of a payload on its way down, by more entries: with the same request.
use Rattle.std.proofs.Common.{ℕ}
use Rattle.atomic_table.specs.Seated.{TableId}
use Rattle.tlm_types.specs.declared.words.TxnId.{TxnId}
use Rattle.tlm_model.specs.Plan.{Plan}
use Rattle.flow_model.specs.World.{Passage, hop_count}
use Rattle.flow_model.specs.Events.{Event}
use Rattle.cargo_model.specs.declared.cargo.Cargo.{Cargo}
use Rattle.cargo_model.specs.Travel.{GoesDown, IsAsked, LeftDown, Moment, numbers_for}
use Rattle.cargo_model.proofs.More.{goes_down_more, stocks_by}

module _ (p : Plan) (tokens : TableId) (K L : Event → Type 0) (more : (e : Event) → K e → L e) (x : TxnId) (pass : Passage) where
  abbrev pub asked_at : IsAsked p tokens K x pass → IsAsked p tokens L x pass
  asked_at a = record {
    passes = a.passes;
    initiator = a.initiator;
    is = a.is;
    replies = a.replies;
    known = λ e m. (let f = a.known e m in record { event = f.event; known = more f.event f.known; is = f.is });
    request = a.request;
    asked = a.asked;
    access = a.access;
    transport = a.transport;
    way = a.way;
  }

  pub left_at : (m : Moment) (k j left : ℕ) → LeftDown p tokens K x pass m k j left → LeftDown p tokens L x pass m k j left
  left_at m k j left d = record { above = d.above; here = d.here; below = d.below }

  abbrev pub down_at : (m : Moment) (k : ℕ) (c : Cargo) → GoesDown p tokens K x pass m k c → GoesDown p tokens L x pass m k c
  down_at m k c d =
      let g = goes_down_more p tokens K L more x pass m k c d in
      let a = d.asked in
      record {
        asked = asked_at a;
        held = g.held;
        come = g.come;
        status = d.status;
        content = d.content;
        tickets = stocks_by tokens (hop_count pass) (numbers_for p tokens K x pass a) (LeftDown p tokens K x pass m k) (LeftDown p tokens L x pass m k) _ _ _ c.baton.wallet (λ j left below l. left_at m k j left l) d.tickets;
      }
