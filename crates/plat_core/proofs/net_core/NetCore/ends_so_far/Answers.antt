use Rattle.std.proofs.Common.{ℕ, List, Ok, Err, Vec, Global, Result, length, take, sym, subst, ◌∙◌}
use Rattle.std.specs.Prelude.{IfOk}
use Rattle.tlm_types.specs.declared.ends.EndOf.{EndOf}
use Rattle.tlm_types.specs.declared.words.Memory.{Memory}
use Rattle.stepped_actors.specs.declared.actor.SteppedActor.{SteppedActor}
use Rattle.plat_core.specs.NetCore.{NetView}
use Rattle.plat_core.specs.NetEnds.{AreEndsOf, AreInitiators}
use Rattle.plat_core.specs.NetOutcome.{AreEndsSoFar}
use Rattle.plat_core.proofs.EndsLemmas.{are_initiators, ends_are}
use Rattle.plat_core.proofs.net_core.NetCore.ends_so_far.Goals as goal

pub ends_of-requires : goal.ends_of-requires
ends_of-requires g c =
    let n = g.N.Naming in
    let v = c.self.inside in
    let view : NetView = record { actors = v.actors.items; finished = v.finished.items; rounds = v.rounds; note = v.note } in
    subst (λ (l : List SteppedActor). AreInitiators (take c.len.result l)) (sym c.deref.ensures.value)
    (subst (λ (k : ℕ). AreInitiators (take k v.actors.items)) (sym (c.len.ensures ∙ v.finished.ok.0)) (are_initiators n.table n.tokens n.frame view v.made c.self.invariant))

if_ok : (r : Result (Vec EndOf Global) Memory) (P Q : List EndOf → Type 0) → ((ends : List EndOf) → P ends → Q ends) → IfOk r (λ ends. P ends.items) → IfOk r (λ ends. Q ends.items)
if_ok (Ok ends) P Q f is = f ends.items is
if_ok (Err e) P Q f is = tt

pub returns : goal.returns
returns g c =
    let n = g.N.Naming in
    let p = n.frame.world in
    let v = c.self.inside in
    let view : NetView = record { actors = v.actors.items; finished = v.finished.items; rounds = v.rounds; note = v.note } in
    let actors : List SteppedActor = take (length v.finished.items) v.actors.items in
    let here : IfOk c.ends_of.result (λ ends. AreEndsOf actors ends.items) =
    subst (λ (k : ℕ). IfOk c.ends_of.result (λ ends. AreEndsOf (take k v.actors.items) ends.items)) (c.len.ensures ∙ v.finished.ok.0)
    (subst (λ (l : List SteppedActor). IfOk c.ends_of.result (λ ends. AreEndsOf (take c.len.result l) ends.items)) c.deref.ensures.value c.ends_of.ensures) in
    if_ok c.ends_of.result (AreEndsOf actors) (AreEndsSoFar p c.args.self.now)
    (λ ends are. subst (λ (w : NetView). AreEndsSoFar p w ends) c.self.view_is (ends_are n.table n.tokens n.frame view v.made c.self.invariant ends are))
    here
