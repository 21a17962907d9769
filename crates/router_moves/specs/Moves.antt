-- What each move of a router does.
use Rattle.std.specs.Prelude.{ℕ, ◌≡◌, ◌<◌, ◌≤◌, Bool, true, false, List, [], ◌∷◌, ◌++◌, Option, Some, None}
use Rattle.atomic_table.specs.Seated.{TableId}
use Rattle.view_lists.specs.Lists.{Has}
use Rattle.one_history.specs.Held.{Held as HeldNote}
use Rattle.one_history.specs.declared.entry.Entry.{Entry}
use Rattle.one_history.specs.declared.view.Frame.{Frame}
use Rattle.one_history.specs.declared.view.View.{View}
use Rattle.tlm_types.specs.declared.entry.Content.{Content}
use Rattle.tlm_types.specs.declared.words.Phase.TheVariants.{BeginResp, EndReq, EndResp}
use Rattle.tlm_types.specs.declared.words.TlmSync.{TlmSync}
use Rattle.tlm_types.specs.declared.words.TlmSync.TheVariants.{Accepted, Completed}
use Rattle.tlm_types.specs.declared.words.TxnId.{TxnId}
use Rattle.tlm_model.specs.Plan.{Plan}
use Rattle.tlm_model.specs.Route.{later}
use Rattle.base_phases.specs.declared.phases.LaneState.{LaneState}
use Rattle.base_phases.specs.declared.phases.LaneState.TheVariants.{Waiting}
use Rattle.token_book.specs.Account.{Slip}
use Rattle.token_book.specs.Ticket.{IsTicket}
use Rattle.payload_pool.specs.declared.baton.Baton.{Baton}
use Rattle.flow_model.specs.World.{Passage, hop_at}
use Rattle.flow_model.specs.Events.{Finds, FindsAt, IsAccess, IsCall, IsPhase, IsReleased}
use Rattle.flow_model.specs.Numbers.{IsEnder}
use Rattle.cargo_model.specs.Known.{Known}
use Rattle.cargo_model.specs.Tickets.{Pulls}
use Rattle.plat_net.specs.HopCalls.{CanRespond}
use Rattle.plat_net.specs.Places.{hop_place}
use Rattle.node_hops.specs.Steps.{AddsAt}
use Rattle.router_moves.specs.declared.down.Passed.{Passed}
use Rattle.router_moves.specs.declared.down.Passed.TheVariants.{Gone, Now, Busy}
use Rattle.router_moves.specs.declared.items.Back.{Back}
use Rattle.router_moves.specs.declared.items.BegunBelow.{BegunBelow}
use Rattle.router_moves.specs.declared.items.Down.{Down}
use Rattle.router_moves.specs.declared.items.End.{End}
use Rattle.router_moves.specs.declared.items.End.TheVariants.{Owed, At}
use Rattle.router_moves.specs.declared.items.PassedOn.{PassedOn}
use Rattle.router_moves.specs.declared.items.RouterRequest.{RouterRequest}
use Rattle.router_moves.specs.declared.items.RouterResponse.{RouterResponse}
use Rattle.router_moves.specs.declared.items.Rest.{Rest}
use Rattle.router_moves.specs.declared.up.FromBelow.{FromBelow}
use Rattle.router_moves.specs.declared.up.Sent.{Sent}
use Rattle.router_moves.specs.declared.up.Sent.TheVariants.{Open, Ended, Refused}
use Rattle.router_moves.specs.Items.{HasGone, IsBack, IsBegun, IsDown, IsHeld, IsRest}

-- the look of a fetch: 0 for something, 1 for no request, 2 for no response
abbrev pub fetch_look : Option RouterRequest → ℕ
fetch_look None = 1
fetch_look (Some r) = 0

abbrev pub up_look : Option FromBelow → ℕ
up_look None = 2
up_look (Some r) = 0

-- and whether a transaction has ended: 0 for yes, 5 for no
abbrev pub ended_look : Bool → ℕ
ended_look true = 0
ended_look false = 5

-- the hop on which END_REQ is owed
abbrev pub owed_above : Bool → ℕ → Option ℕ
owed_above true hop = Some hop
owed_above false hop = None

-- the note that comes back
abbrev pub passed_note : Passed → HeldNote Content Plan
passed_note (Gone held at note) = note
passed_note (Now held begun note) = note
passed_note (Busy down note) = note

abbrev pub sent_note : Sent → HeldNote Content Plan
sent_note (Open at note) = note
sent_note (Ended at note) = note
sent_note (Refused response note) = note

-- where BEGIN_REQ was made, an entry was added on the hop below
abbrev pub PassAdds : Plan → ℕ → View Content Plan → Passed → Type 0
PassAdds p hop was (Gone held at note) = AddsAt (hop_place p hop) was note.knows
PassAdds p hop was (Now held begun note) = AddsAt (hop_place p hop) was note.knows
PassAdds p hop was (Busy down note) = Unit {0}

-- and where BEGIN_RESP was made, on the hop above
abbrev pub SendAdds : Plan → ℕ → View Content Plan → Sent → Type 0
SendAdds p hop was (Open at note) = AddsAt (hop_place p hop) was note.knows
SendAdds p hop was (Ended at note) = AddsAt (hop_place p hop) was note.knows
SendAdds p hop was (Refused response note) = Unit {0}

-- the END_RESP below is still to be made; or it isn't
abbrev pub IsOwing : End → Type 0
IsOwing (Owed leg ticket) = Unit {0}
IsOwing (At time) = ⊥

abbrev pub IsDone : End → Type 0
IsDone (Owed leg ticket) = ⊥
IsDone (At time) = Unit {0}

-- after BEGIN_RESP was made with an answer, at this time
abbrev pub sent_as : TlmSync → ℕ → HeldNote Content Plan → Sent
sent_as Accepted at note = Open at note
sent_as answer at note = Ended at note

-- END_RESP is owed where there is a leg for it, with a ticket; else the access has ended at this time
abbrev pub IsEndOf : TableId → ℕ → Option Slip → ℕ → End → Type 0
IsEndOf tokens number (Some leg) at (Owed same ticket) = (same ≡ leg) × IsTicket tokens number ticket
IsEndOf tokens number None at (At time) = time ≡ at
IsEndOf tokens number leg at end = ⊥

-- which was pulled
abbrev pub PullsFor : TableId → ℕ → Option Slip → Baton → Baton → Type 0
PullsFor tokens number None old new = new ≡ old
PullsFor tokens number (Some leg) old new = (new ≡ (let w = new.wallet in record old { wallet = w })) × Pulls tokens number 0 old.wallet new.wallet

-- An entry of x at a hop is known.
pub record HasBegunOn (frame : Frame Plan) (known : List (Entry Content)) (hop : ℕ) (x : TxnId) : Type 0 where
  pub entry : Entry Content
  pub has : Has known entry
  pub object : entry.object ≡ hop_place frame.world hop
  pub txn : entry.content.txn ≡ x

module _ (frame : Frame Plan) (tokens : TableId) where
  -- PASS ON. BEGIN_REQ was made on the hop below, not before the request was due: the payload is gone, or its response comes by return. Or it is
  -- refused, and may go down as before.
  abbrev pub HasPassed : Down → View Content Plan → Passed → Type 0
  HasPassed d old (Gone held at note) =
      (held ≡ d.held) × (d.due ≤ at) × HasGone frame tokens note.knows.known held at
      × (note.knows.looks ≡ old.looks ++ (hop_place frame.world d.held.below, 0) ∷ [])
  HasPassed d old (Now held begun note) =
      (held ≡ d.held) × (d.due ≤ begun.at) × IsBegun frame tokens note.knows.known held begun
      × (note.knows.looks ≡ old.looks ++ (hop_place frame.world d.held.below, 0) ∷ [])
  HasPassed d old (Busy down note) =
      (down.held ≡ d.held) × (down.due ≡ d.due) × IsDown frame tokens note.knows.known down
      × (note.knows.looks ≡ old.looks ++ (hop_place frame.world d.held.below, 3) ∷ [])

  -- A response is back for a transaction that a router holds.
  pub record IsBackFor (known : List (Entry Content)) (h : PassedOn) (b : Back) : Type 0 where
    pub pass : Passage
    pub hop : ℕ
    pub state : LaneState
    pub owed : ℕ
    pub few : owed < 2
    pub held : IsHeld frame tokens known h pass hop state
    pub back : IsBack frame tokens known h b pass hop owed

  -- SERVE BELOW. The memory was called at the time of BEGIN_REQ below, and the response may go up after its latency.
  pub record HasServedBelow (latency : ℕ) (h : PassedOn) (begun : BegunBelow) (known : List (Entry Content)) (b : Back) : Type 0 where
    pub at : b.at ≡ later begun.at latency
    pub made : FindsAt (Known frame.world.platform known) (IsAccess h.txn) begun.at
    pub back : IsBackFor known h b

  -- END ABOVE. END_REQ was made above, not before this time. What was known of the transaction is known, and nothing is owed above.
  pub record EndsAbove (known back : List (Entry Content)) (h : PassedOn) (at : ℕ) (new : PassedOn) : Type 0 where
    pub same : new ≡ record h { leg = new.leg; owed = None }
    pub time : ℕ
    pub late : at ≤ time
    pub made : FindsAt (Known frame.world.platform back) (IsCall h.txn h.above EndReq Accepted) time
    pub held : (pass : Passage) (hop : ℕ) (state : LaneState) → IsHeld frame tokens known h pass hop state → IsHeld frame tokens back new pass hop Waiting

  -- REFUSE. A request without a window has a response of its own, which is due after the router's latency.
  pub record IsRefused (known : List (Entry Content)) (latency : ℕ) (r : RouterRequest) (answer : RouterResponse) : Type 0 where
    pub hop : answer.hop ≡ r.hop
    pub due : answer.due ≡ later r.at latency
    pub txn : answer.cargo.baton.txn ≡ r.cargo.baton.txn
    pub can : CanRespond frame tokens answer.hop answer.leg answer.cargo answer.due known

  -- FETCH UP. A response of x was fetched from a hop below: its BEGIN_RESP is known with its time, and it is back for whoever holds x with this hop
  -- below.
  pub record HasFetchedUp (known : List (Entry Content)) (hop : ℕ) (f : FromBelow) : Type 0 where
    pub made : FindsAt (Known frame.world.platform known) (IsCall f.txn hop BeginResp Accepted) f.back.at
    pub back : (h : PassedOn) (pass : Passage) (k : ℕ) (state : LaneState) → IsHeld frame tokens known h pass k state → h.txn ≡ f.txn → h.below ≡ hop → IsBack frame tokens known h f.back pass k 1

  -- TURN UP. A response that is back may go up on the hop above, as soon as it is back, and what is to be made below stays.
  pub record TurnsUp (known : List (Entry Content)) (h : PassedOn) (b : Back) (answer : RouterResponse) (rest : Rest) : Type 0 where
    pub pass : Passage
    pub hop : ℕ
    pub above : hop_at pass hop ≡ h.above
    pub at : answer.hop ≡ h.above
    pub due : answer.due ≡ b.at
    pub txn : answer.cargo.baton.txn ≡ h.txn
    pub can : CanRespond frame tokens answer.hop answer.leg answer.cargo answer.due known
    pub begun : HasBegunOn frame known h.above h.txn
    pub of : (rest.txn ≡ h.txn) × (rest.below ≡ h.below)
    pub rest_of : IsRest frame tokens known rest pass hop

  -- SEND UP. BEGIN_RESP was made above at the time at which the response was due or later. By its answer the transaction has ended above, or it is
  -- still open. Or it is refused, and may be sent as before.
  abbrev pub HasSent : RouterResponse → View Content Plan → Sent → Type 0
  HasSent r old (Open at note) =
      (r.due ≤ at) × FindsAt (Known frame.world.platform note.knows.known) (IsPhase r.cargo.baton.txn r.hop BeginResp) at
      × (note.knows.looks ≡ old.looks ++ (hop_place frame.world r.hop, 0) ∷ [])
  HasSent r old (Ended at note) =
      (r.due ≤ at) × FindsAt (Known frame.world.platform note.knows.known) (IsPhase r.cargo.baton.txn r.hop BeginResp) at
      × Finds (Known frame.world.platform note.knows.known) (IsEnder r.cargo.baton.txn r.hop)
      × (note.knows.looks ≡ old.looks ++ (hop_place frame.world r.hop, 0) ∷ [])
  HasSent r old (Refused same note) =
      (same.hop ≡ r.hop) × (same.due ≡ r.due) × (same.cargo.baton.txn ≡ r.cargo.baton.txn)
      × CanRespond frame tokens same.hop same.leg same.cargo same.due note.knows.known
      × (note.knows.looks ≡ old.looks ++ (hop_place frame.world r.hop, 4) ∷ [])

  -- A transaction has ended above, where its BEGIN_RESP has this time.
  pub record HasEndedAbove (known : List (Entry Content)) (r : Rest) (at : ℕ) : Type 0 where
    pub pass : Passage
    pub hop : ℕ
    pub rest : IsRest frame tokens known r pass hop
    pub ender : Finds (Known frame.world.platform known) (IsEnder r.txn (hop_at pass hop))
    pub sent : FindsAt (Known frame.world.platform known) (IsPhase r.txn (hop_at pass hop) BeginResp) at

  -- END BELOW. END_RESP was made below, and at this time the transaction has ended there.
  pub record EndsBelow (known : List (Entry Content)) (r : Rest) (at : ℕ) (new : Rest) : Type 0 where
    pub time : ℕ
    pub late : at ≤ time
    pub same : new ≡ record r { end = At time }
    pub made : FindsAt (Known frame.world.platform known) (IsCall r.txn r.below EndResp Completed) time
    pub pass : Passage
    pub hop : ℕ
    pub rest : IsRest frame tokens known new pass hop

  -- RELEASE. What is left to be made below is the Release.
  pub record IsReleasing (known : List (Entry Content)) (r : Rest) : Type 0 where
    pub pass : Passage
    pub hop : ℕ
    pub rest : IsRest frame tokens known r pass hop

-- the Release of the reference of the hop below was made, at the time at which the transaction has ended there
abbrev pub HasReleasedAt : Frame Plan → List (Entry Content) → TxnId → End → Type 0
HasReleasedAt frame known x (Owed leg ticket) = ⊥
HasReleasedAt frame known x (At time) = (number : ℕ) × FindsAt (Known frame.world.platform known) (IsReleased x number) time

abbrev pub HasReleased : Frame Plan → List (Entry Content) → Rest → Type 0
HasReleased frame known r = HasReleasedAt frame known r.txn r.end
