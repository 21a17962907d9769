-- Actors before their first steps.
use Rattle.std.proofs.Common.{◌≡◌, ℕ, ◌+◌, ◌<◌, List, [], ◌∷◌, ◌++◌, length, Option, Some, None, ap, sym, subst, ◌∙◌, inl, inr, arith}
use Rattle.std.specs.Prelude.{IfSome, IsSomeAnd, slice_get}
use Rattle.std.proofs.lemmas.Bool.{false≢true}
use Rattle.atomic_table.specs.Seated.{TableId}
use Rattle.view_lists.specs.Lists.{Within}
use Rattle.view_lists.proofs.Members.{has_none}
use Rattle.one_history.specs.declared.entry.Entry.{Entry as HistoryEntry}
use Rattle.one_history.specs.declared.view.Frame.{Frame}
use Rattle.one_history.specs.Held.{Held}
use Rattle.one_history.specs.Lists.{StandBelow}
use Rattle.tlm_types.specs.declared.entry.Content.{Content}
use Rattle.tlm_model.specs.declared.operation.Operation.{Operation}
use Rattle.tlm_model.specs.declared.platform.InitiatorRow.{InitiatorRow}
use Rattle.tlm_model.specs.declared.platform.Style.TheVariants.{FourPhase as four_phase}
use Rattle.tlm_model.specs.Plan.{Plan, Initiator, initiators_of}
use Rattle.generic_payload.specs.Payload.{PayloadView}
use Rattle.route_plan.specs.Valid.{IsValid}
use Rattle.route_plan.proofs.ShareLemmas.{count_initiators}
use Rattle.script_engine.specs.State.{begun_engine}
use Rattle.plat_build.specs.declared.kept.Start.{Start}
use Rattle.plat_build.specs.Kept.{IsBlank, IsStart}
use Rattle.plat_build.proofs.StartLemmas.{has_style, number_begun}
use Rattle.run_outcome.proofs.ListLemmas.{at_push, has_element}
use Rattle.initiator_run.proofs.BeginLemmas.{script_from}
use Rattle.decoupled_run.specs.declared.steps.SteppedInitiator.{SteppedInitiator}
use Rattle.decoupled_run.specs.Stepped.{HasBegun as HasBegunDecoupled, SteppedStays}
use Rattle.fourphase_port.specs.Fresh.{IsFresh as IsFreshPort}
use Rattle.fourphase_port.specs.Stepped.{IsSteppedPort}
use Rattle.fourphase_port.specs.declared.steps.SteppedPort.{SteppedPort}
use Rattle.router_node.specs.Node.{IsRouter}
use Rattle.router_steps.specs.Stepped.{IsDue}
use Rattle.router_node.specs.declared.node.RouterNode.{RouterNode}
use Rattle.router_steps.specs.declared.steps.SteppedRouter.{SteppedRouter}
use Rattle.router_steps.specs.declared.steps.Due.{Due}
use Rattle.target_node.specs.Node.{IsTarget}
use Rattle.target_node.specs.declared.node.TargetNode.{TargetNode}
use Rattle.stepped_actors.specs.declared.actor.SteppedActor.{SteppedActor}
use Rattle.stepped_actors.specs.declared.actor.SteppedActor.TheVariants.{Decoupled, FourPhase, Router, Memory}
use Rattle.stepped_actors.specs.Begin.{HasBegun, HaveBegun}

-- what a note knows that has seen nothing
nothing_within : (known other : List (HistoryEntry Content)) → known ≡ [] → Within known other
nothing_within known other none = subst (λ (es : List (HistoryEntry Content)). Within es other) (sym none) (λ e has. absurd (has_none e has))

nothing_below : (known : List (HistoryEntry Content)) (n : ℕ) → known ≡ [] → StandBelow known n
nothing_below known n none = subst (λ (es : List (HistoryEntry Content)). StandBelow es n) (sym none) (λ e has. absurd (has_none e has))

module _ (table tokens : TableId) (frame : Frame Plan) (n : ℕ) where
  pub decoupled_begun : SteppedStays → n < length frame.world.platform.initiators → (s : SteppedInitiator) (note : Held Content Plan) → HasBegunDecoupled table tokens frame n s note → HasBegun table tokens frame n (Decoupled s)
  decoupled_begun stays here s note begun = record {
    number_is = begun.number_is;
    among = λ initiator. here;
    fresh = begun.fresh;
    at_start = λ i at. begun.come i (ap (slice_get (initiators_of frame.world)) (sym begun.number_is) ∙ at);
    keeps = λ back blank.
        let below = nothing_below back.knows.known back.knows.seen blank.known in
        record {
          note_of = blank.is_note;
          below = below;
          keeps = stays table tokens frame s note back begun.stepped blank.is_note (nothing_within note.knows.known back.knows.known begun.blank.known) below;
        };
  }

  module _ (valid : IsValid frame.world) (s : Start) (here : n < length frame.world.platform.initiators) (style : IsSomeAnd (slice_get frame.world.platform.initiators n) (λ (row : InitiatorRow). row.style ≡ four_phase)) (start : IsStart table tokens frame.world n s) where
    abbrev p : Plan
    p = frame.world

    -- the engine of an initiator begins with its script
    engine_begun : (i : Initiator) → slice_get (initiators_of p) n ≡ Some i → s.engine ≡ begun_engine n i.script
    engine_begun i at = subst (λ (o : Option (List Operation)). IsSomeAnd o (λ (x : List Operation). s.engine ≡ begun_engine n x)) (script_from 0 n p.platform.initiators p.scripts i at) start.engine

    its_number : s.engine.initiator ≡ n
    its_number = number_begun table tokens p n s start

    -- a four-phase initiator has what a port begins with
    fresh_with : (note : Held Content Plan) → IsBlank table note → IsFreshPort table tokens p s.engine.initiator s.engine s.payload note s.wallet
    fresh_with note blank =
        let found = has_element (initiators_of p) n (omega (arith, count_initiators 0 p.platform.initiators p.scripts valid.scripts)) in
        let i = found.element in
        subst (λ (k : ℕ). IsFreshPort table tokens p k s.engine s.payload note s.wallet) (sym its_number) (record {
          initiator = i;
          is = found.at;
          style = has_style p n i four_phase found.at style;
          engine = engine_begun i found.at;
          payload = ap (λ (b : PayloadView). b.room) start.payload;
          note_of = blank.is_note;
          seen = blank.seen;
          known = blank.known;
          of = start.wallet.of;
          places = start.wallet.places;
          few = start.wallet.few;
          left = start.wallet.left;
          bytes = start.wallet.bytes;
        })

    pub port_begun : (port : SteppedPort)
        → ((note : Held Content Plan) → IsFreshPort table tokens p s.engine.initiator s.engine s.payload note s.wallet → IsSteppedPort table tokens frame port note)
        → port.state.port.engine.initiator ≡ s.engine.initiator → HasBegun table tokens frame n (FourPhase port)
    port_begun port is number = record {
      number_is = number ∙ its_number;
      among = λ initiator. here;
      fresh = tt;
      at_start = tt;
      keeps = λ note blank. record { note_of = blank.is_note; below = nothing_below note.knows.known note.knows.seen blank.known; keeps = is note (fresh_with note blank) };
    }

-- a router and a memory that have done nothing
module _ (table tokens : TableId) (frame : Frame Plan) (here : Plan) (world : here ≡ frame.world) (k : ℕ) where
  pub router_begun : (s : SteppedRouter) (node : RouterNode) → ((known : List (HistoryEntry Content)) → IsRouter frame tokens node known) → node.router ≡ k → s.node ≡ node → s.due ≡ None → HasBegun table tokens frame (length here.platform.initiators + k) (Router s)
  router_begun s node is number node_is due = record {
    number_is = ap (λ (x : RouterNode). length frame.world.platform.initiators + x.router) node_is ∙ (ap (λ (n : ℕ). length frame.world.platform.initiators + n) number ∙ sym (ap (λ (p : Plan). length p.platform.initiators + k) world));
    among = λ initiator. absurd (false≢true (sym initiator));
    fresh = tt;
    at_start = tt;
    keeps = λ note blank. record {
      note_of = blank.is_note;
      below = nothing_below note.knows.known note.knows.seen blank.known;
      keeps = record { node = subst (λ (x : RouterNode). IsRouter frame tokens x note.knows.known) (sym node_is) (is note.knows.known); due = nothing_due note s due };
    };
  }
    where
      nothing_due : (note : Held Content Plan) (s : SteppedRouter) → s.due ≡ None → IfSome s.due (IsDue frame tokens note.knows.known (length s.node.held.items) s.node.room)
      nothing_due note s due = subst (λ (o : Option Due). IfSome o (IsDue frame tokens note.knows.known (length s.node.held.items) s.node.room)) (sym due) tt

  pub memory_begun : (s : TargetNode) → ((known : List (HistoryEntry Content)) → IsTarget frame tokens s known) → s.memory ≡ k → HasBegun table tokens frame (length here.platform.initiators + length here.platform.routers + k) (Memory s)
  memory_begun s is number = record {
    number_is = ap (λ (n : ℕ). length frame.world.platform.initiators + length frame.world.platform.routers + n) number ∙ sym (ap (λ (p : Plan). length p.platform.initiators + length p.platform.routers + k) world);
    among = λ initiator. absurd (false≢true (sym initiator));
    fresh = tt;
    at_start = tt;
    keeps = λ note blank. record { note_of = blank.is_note; below = nothing_below note.knows.known note.knows.seen blank.known; keeps = is note.knows.known };
  }

-- one more that begins, with the next number
pub begun_more : (table tokens : TableId) (frame : Frame Plan) (n : ℕ) (actors after : List SteppedActor) (a : SteppedActor) → HaveBegun table tokens frame actors → length actors ≡ n → HasBegun table tokens frame n a → after ≡ actors ++ a ∷ [] → HaveBegun table tokens frame after
begun_more table tokens frame n actors after a begun count one pushed = subst (HaveBegun table tokens frame) (sym pushed) (λ k b at.
    elim (at_push actors a k b at) [
      | inl before ↦ begun k b before
      | inr last ↦ subst (HasBegun table tokens frame k) last.1 (subst (λ (j : ℕ). HasBegun table tokens frame j a) (sym (last.0 ∙ count)) one)
    ])

pub none_begun : (table tokens : TableId) (frame : Frame Plan) (actors : List SteppedActor) → length actors ≡ 0 → HaveBegun table tokens frame actors
none_begun table tokens frame [] none = λ k a at. cc
none_begun table tokens frame (a ∷ actors) none = absurd (omega arith)
