-- The entries that the moves of a port add are its own.
use Rattle.std.proofs.Common.{◌≡◌, ℕ, true, false, List, Some, refl, sym, ap, ◌∙◌, subst}
use Rattle.atomic_table.specs.Seated.{TableId}
use Rattle.one_history.specs.Held.{Held}
use Rattle.one_history.specs.declared.entry.Entry.{Entry}
use Rattle.one_history.specs.declared.view.Frame.{Frame}
use Rattle.one_history.specs.declared.view.View.{View}
use Rattle.one_history.specs.Lists.{StandBelow}
use Rattle.tlm_types.specs.declared.entry.Content.{Content}
use Rattle.tlm_model.specs.Plan.{Plan}
use Rattle.payload_pool.specs.declared.baton.Baton.{Baton}
use Rattle.payload_pool.specs.declared.call.PoolCall.{PoolCall}
use Rattle.payload_pool.specs.declared.call.PoolReply.TheVariants.{Took}
use Rattle.cargo_net.specs.Pools.{HasPooled}
use Rattle.node_hops.specs.Steps.{HasNew, IsAccessOf, IsByPort}
use Rattle.node_hops.specs.Steps.IsByPort.{Accesses}
use Rattle.node_hops.proofs.News.{new_by}
use Rattle.dmi_grants.specs.declared.invalidation.Ending.{Ending}
use Rattle.dmi_grants.specs.declared.invalidation.Ending.TheVariants.{Closed, ByOthers, Returned}
use Rattle.node_hops.proofs.Adds.{pool_adds}
use Rattle.port_moves.specs.Reach.{own_pool}
use Rattle.port_moves.specs.State.{PortView, StateView, with_note}
use Rattle.port_moves.specs.declared.hand.Moved.{Moved}
use Rattle.port_moves.proofs.Adding.{in_pool}
use Rattle.fourphase_port.specs.Moves.{AddsOwn}
use Rattle.fourphase_port.specs.Stepped.{moved_by}

-- a state of the same initiator
pub adds_from : (frame : Frame Plan) (s t : StateView) (note : Held Content Plan) (new : PortView) (m : Moved) → t.port.engine.initiator ≡ s.port.engine.initiator → AddsOwn frame (with_note t note) new m → AddsOwn frame (with_note s note) new m
adds_from frame s t note new m q f = λ entry. subst (λ (k : ℕ). HasNew (IsByPort frame.world k) note.knows.known new.note.knows.known) q (f entry)

-- a move without an entry
pub adds_none : (frame : Frame Plan) (old new : PortView) (m k : Moved) → m ≡ k → k.entry ≡ false → AddsOwn frame old new m
adds_none frame old new m k q none = λ entry. absurd (differ (sym none ∙ (sym (ap (λ (z : Moved). z.entry) q) ∙ entry)))
  where
    differ : false ≡ true → ⊥
    differ e = cc

-- a Take
pub took_adds : (frame : Frame Plan) (tokens : TableId) (k n : ℕ) → k ≡ n → (note back : View Content Plan) → StandBelow note.known note.seen → (call : PoolCall) (baton : Baton)
    → HasPooled frame tokens (own_pool frame.world k) k note back call (Took (Some baton)) → HasNew (IsByPort frame.world n) note.known back.known
took_adds frame tokens k n who note back below call baton a = subst (λ (i : ℕ). HasNew (IsByPort frame.world i) note.known back.known) who (in_pool frame.world k note back below (pool_adds frame tokens (own_pool frame.world k) k note back call (Took (Some baton)) a tt))

-- an entry of the initiator at a memory
pub access_own : (p : Plan) (n : ℕ) (known back : List (Entry Content)) → HasNew (IsAccessOf p n) known back → HasNew (IsByPort p n) known back
access_own p n known back h = new_by (IsAccessOf p n) (IsByPort p n) known back (λ e is. Accesses is) h

-- the end of a grant
closed_made : (ending : Ending) → (moved_by ending).entry ≡ true → ending ≡ Closed
closed_made Closed q = refl
closed_made ByOthers q = cc
closed_made Returned q = cc

pub closing_adds : (frame : Frame Plan) (old new : PortView) (m : Moved) (ending : Ending) → m ≡ moved_by ending
    → (ending ≡ Closed → HasNew (IsAccessOf frame.world old.port.engine.initiator) old.note.knows.known new.note.knows.known) → AddsOwn frame old new m
closing_adds frame old new m ending is f =
    λ entry. access_own frame.world old.port.engine.initiator old.note.knows.known new.note.knows.known (f (closed_made ending (sym (ap (λ (z : Moved). z.entry) is) ∙ entry)))
