-- What a router knows stays known.
use Rattle.std.proofs.Common.{ℕ, ◌+◌, List, Option, Some, None, add-one, sym, subst}
use Rattle.atomic_table.specs.Seated.{TableId}
use Rattle.view_lists.specs.Lists.{Within}
use Rattle.one_history.specs.declared.entry.Entry.{Entry}
use Rattle.one_history.specs.declared.view.Frame.{Frame}
use Rattle.tlm_types.specs.declared.entry.Content.{Content}
use Rattle.tlm_types.specs.declared.words.TxnId.{TxnId}
use Rattle.tlm_model.specs.Plan.{Plan}
use Rattle.base_phases.specs.declared.phases.LaneState.{LaneState}
use Rattle.token_book.specs.Account.{Slip}
use Rattle.token_book.specs.declared.ticket.Ticket.{Ticket}
use Rattle.flow_model.specs.World.{Passage, World, hop_at}
use Rattle.flow_model.specs.Events.{Event, Finds, FindsAt}
use Rattle.flow_model.specs.Numbers.{ArrIs, Past}
use Rattle.flow_model.specs.Platform.{world_of}
use Rattle.cargo_model.specs.Known.{Known}
use Rattle.cargo_model.specs.Travel.{IsHoldOf}
use Rattle.cargo_net.specs.Hops.{IsLegOfLane}
use Rattle.router_moves.specs.Items.{HasDebt, IsHeld}
use Rattle.router_moves.specs.declared.items.PassedOn.{PassedOn}

pub known_more : (p : Plan) (xs ys : List (Entry Content)) → Within xs ys → (e : Event) → Known p.platform xs e → Known p.platform ys e
known_more p xs ys w e k = record { entry = k.entry; has = w k.entry k.has; is = k.is }

pub finds_more : (p : Plan) (xs ys : List (Entry Content)) → Within xs ys → {P : Event → Type 0} → Finds (Known p.platform xs) P → Finds (Known p.platform ys) P
finds_more p xs ys w f = record { event = f.event; known = known_more p xs ys w f.event f.known; is = f.is }

pub finds_at_more : (p : Plan) (xs ys : List (Entry Content)) → Within xs ys → {P : Event → Type 0} (t : ℕ) → FindsAt (Known p.platform xs) P t → FindsAt (Known p.platform ys) P t
finds_at_more p xs ys w t f = record { event = f.event; known = known_more p xs ys w f.event f.known; is = f.is; time = f.time }

pub leg_more : (frame : Frame Plan) (tokens : TableId) (number : ℕ) (xs ys : List (Entry Content)) → Within xs ys → (x : TxnId) (state : LaneState) (leg : Slip) → IsLegOfLane frame tokens number xs x state leg → IsLegOfLane frame tokens number ys x state leg
leg_more frame tokens number xs ys w x state leg h = record { table = h.table; owner = h.owner; entry = h.entry; has = w h.entry h.has; object = h.object; txn = h.txn; name = h.name }

pub hold_more : (p : Plan) (tokens : TableId) (xs ys : List (Entry Content)) → Within xs ys → (x : TxnId) (pass : Passage) (k : ℕ) (hold : Slip) → IsHoldOf p tokens (Known p.platform xs) x pass k hold → IsHoldOf p tokens (Known p.platform ys) x pass k hold
hold_more p tokens xs ys w x pass k hold h = record { position = h.position; taken = finds_more p xs ys w h.taken; is = h.is }

-- the time at which a request leaves the component that hop k leads to
pub leaves : (w : World) (K : Event → Type 0) (x : TxnId) (pass : Passage) (k t : ℕ) → Past w K x (hop_at pass k) t → ArrIs w K x pass (k + 1) t
leaves w K x pass k t past = subst (λ (n : ℕ). ArrIs w K x pass n t) (sym (add-one k)) past

pub left_at : (w : World) (K : Event → Type 0) (x : TxnId) (pass : Passage) (k t : ℕ) → ArrIs w K x pass (k + 1) t → Past w K x (hop_at pass k) t
left_at w K x pass k t arr = subst (λ (n : ℕ). ArrIs w K x pass n t) (add-one k) arr

module _ (frame : Frame Plan) (tokens : TableId) (xs ys : List (Entry Content)) (w : Within xs ys) where
  pub arrival_more : (x : TxnId) (pass : Passage) (k t : ℕ) → ArrIs (world_of frame.world) (Known frame.world.platform xs) x pass (k + 1) t → ArrIs (world_of frame.world) (Known frame.world.platform ys) x pass (k + 1) t
  arrival_more x pass k t arr =
      let past = left_at (world_of frame.world) (Known frame.world.platform xs) x pass k t arr in
      leaves (world_of frame.world) (Known frame.world.platform ys) x pass k t (record { req = past.req; is_req = finds_at_more frame.world xs ys w past.req past.is_req; sum = past.sum })

  pub debt_more : (x : TxnId) (pass : Passage) (k : ℕ) (state : LaneState) (ticket : Option Ticket) → HasDebt frame tokens xs x pass k state ticket → HasDebt frame tokens ys x pass k state ticket
  debt_more x pass k state None d = (d.0, λ q. finds_more frame.world xs ys w (d.1 q))
  debt_more x pass k state (Some ticket) d = d

  -- a transaction that it holds
  abbrev pub held_more : (h : PassedOn) (pass : Passage) (k : ℕ) (state : LaneState) → IsHeld frame tokens xs h pass k state → IsHeld frame tokens ys h pass k state
  held_more h pass k state d = record {
    passes = d.passes;
    next = d.next;
    above = d.above;
    below = d.below;
    router = d.router;
    taken = finds_more frame.world xs ys w d.taken;
    answer = d.answer;
    begun = finds_more frame.world xs ys w d.begun;
    fits = d.fits;
    responds = d.responds;
    leg_of = leg_more frame tokens _ xs ys w h.txn state h.leg d.leg_of;
    kept = hold_more frame.world tokens xs ys w h.txn pass k h.kept d.kept;
    debt = debt_more h.txn pass k state h.owed d.debt;
  }
