use Rattle.std.proofs.Common.{◌≡◌, Option, Some, set, sym, subst, ◌∙◌}
use Rattle.one_history.specs.Held.{Held}
use Rattle.tlm_types.specs.declared.entry.Content.{Content}
use Rattle.tlm_model.specs.Plan.{Plan}
use Rattle.stepped_actors.specs.declared.actor.SteppedActor.{SteppedActor}
use Rattle.plat_core.specs.NetCore.{IsNetStep, KnowsAll, NetView}
use Rattle.plat_core.proofs.NetLemmas.{HasStepped, actor_here, at_here, core_after, flag_here, going_here, member_here, step_after}
use Rattle.plat_core.proofs.net_core.NetCore.step.Goals as goal

pub step-step-requires-clause-keeps : goal.step-step-requires-clause-keeps
step-step-requires-clause-keeps g c =
    let n = g.N.Naming in
    let v = c.self.inside in
    let was : SteppedActor = c.index_mut.result.now in
    let note : Held Content Plan = c.unwrap-note.result in
    let noted : v.note ≡ Some note = sym c.take.ensures.value ∙ c.unwrap-note.ensures in
    let here = at_here n.table n.tokens n.frame v.actors.items v.finished.items v.rounds note v.made c.args.actor was v.note c.self.invariant noted c.requires c.index_mut.ensures.value c.is_over.result c.if-is_over.false c.args.self.now c.self.view_is c.is_over.ensures.1 in
    (actor_here n.table n.tokens n.frame v.actors.items v.finished.items v.rounds note v.made c.args.actor was here).keeps

pub step-step-requires-clause-member : goal.step-step-requires-clause-member
step-step-requires-clause-member g c =
    let n = g.N.Naming in
    let v = c.self.inside in
    let was : SteppedActor = c.index_mut.result.now in
    let note : Held Content Plan = c.unwrap-note.result in
    let noted : v.note ≡ Some note = sym c.take.ensures.value ∙ c.unwrap-note.ensures in
    let here = at_here n.table n.tokens n.frame v.actors.items v.finished.items v.rounds note v.made c.args.actor was v.note c.self.invariant noted c.requires c.index_mut.ensures.value c.is_over.result c.if-is_over.false c.args.self.now c.self.view_is c.is_over.ensures.1 in
    member_here n.table n.tokens n.frame v.actors.items v.finished.items v.rounds note v.made c.args.actor was here

pub step-step-requires-clause-going : goal.step-step-requires-clause-going
step-step-requires-clause-going g c =
    let n = g.N.Naming in
    let v = c.self.inside in
    let was : SteppedActor = c.index_mut.result.now in
    let note : Held Content Plan = c.unwrap-note.result in
    let noted : v.note ≡ Some note = sym c.take.ensures.value ∙ c.unwrap-note.ensures in
    let here = at_here n.table n.tokens n.frame v.actors.items v.finished.items v.rounds note v.made c.args.actor was v.note c.self.invariant noted c.requires c.index_mut.ensures.value c.is_over.result c.if-is_over.false c.args.self.now c.self.view_is c.is_over.ensures.1 in
    going_here n.table n.tokens n.frame v.actors.items v.finished.items v.rounds note v.made c.args.actor was here

pub mark_finished-requires : goal.mark_finished-requires
mark_finished-requires g c = λ done.
    let n = g.N.Naming in
    let v = c.self.inside in
    let was : SteppedActor = c.index_mut.result.now in
    let note : Held Content Plan = c.unwrap-note.result in
    let noted : v.note ≡ Some note = sym c.take.ensures.value ∙ c.unwrap-note.ensures in
    let here = at_here n.table n.tokens n.frame v.actors.items v.finished.items v.rounds note v.made c.args.actor was v.note c.self.invariant noted c.requires c.index_mut.ensures.value c.is_over.result c.if-is_over.false c.args.self.now c.self.view_is c.is_over.ensures.1 in
    flag_here n.table n.tokens n.frame v.actors.items v.finished.items v.rounds note v.made c.args.actor was here (c.step-step.ensures.nodes done)

pub invariant_of-self : goal.invariant_of-self
invariant_of-self g c =
    let n = g.N.Naming in
    let v = c.self.inside in
    let was : SteppedActor = c.index_mut.result.now in
    let note : Held Content Plan = c.unwrap-note.result in
    let noted : v.note ≡ Some note = sym c.take.ensures.value ∙ c.unwrap-note.ensures in
    let here = at_here n.table n.tokens n.frame v.actors.items v.finished.items v.rounds note v.made c.args.actor was v.note c.self.invariant noted c.requires c.index_mut.ensures.value c.is_over.result c.if-is_over.false c.args.self.now c.self.view_is c.is_over.ensures.1 in
    let e = c.step-step.ensures in
    let seen : Held Content Plan = c.see-note.result in
    let back : Held Content Plan = c.step-step.result.1 in
    let did : HasStepped n.table n.tokens n.frame was c.step-step.new.self note back seen v.rounds c.step-step.new.rounds c.step-step.result.0 v.made = record {
      keeps = e.keeps;
      knew = e.knew;
      number = e.number;
      adds = e.adds;
      made_one = e.made;
      rounds = e.rounds;
      member = e.member;
      waits = e.waits;
      ended = e.ended;
      going = e.going;
      kind = e.kind;
      style = e.style;
      none = e.none;
      nodes = e.nodes;
      seen_of = c.see-note.ensures.note;
      saw = c.see-note.ensures.knew;
      all = subst (KnowsAll seen) c.length_after-expected.ensures c.see-note.ensures.all;
    } in
    core_after n.table n.tokens n.frame c.actors_stay.ensures v.actors.items v.finished.items v.rounds c.step-step.new.rounds note back seen v.made c.args.actor was c.step-step.new.self c.step-step.result.0 here.core here.at here.left did c.mark_finished.new.finished.items c.length_after-expected.result c.mark_finished.ensures c.length_after-expected.ensures

pub returns : goal.returns
returns g c =
    let n = g.N.Naming in
    let v = c.self.inside in
    let was : SteppedActor = c.index_mut.result.now in
    let note : Held Content Plan = c.unwrap-note.result in
    let noted : v.note ≡ Some note = sym c.take.ensures.value ∙ c.unwrap-note.ensures in
    let here = at_here n.table n.tokens n.frame v.actors.items v.finished.items v.rounds note v.made c.args.actor was v.note c.self.invariant noted c.requires c.index_mut.ensures.value c.is_over.result c.if-is_over.false c.args.self.now c.self.view_is c.is_over.ensures.1 in
    let e = c.step-step.ensures in
    let seen : Held Content Plan = c.see-note.result in
    let back : Held Content Plan = c.step-step.result.1 in
    let did : HasStepped n.table n.tokens n.frame was c.step-step.new.self note back seen v.rounds c.step-step.new.rounds c.step-step.result.0 v.made = record {
      keeps = e.keeps;
      knew = e.knew;
      number = e.number;
      adds = e.adds;
      made_one = e.made;
      rounds = e.rounds;
      member = e.member;
      waits = e.waits;
      ended = e.ended;
      going = e.going;
      kind = e.kind;
      style = e.style;
      none = e.none;
      nodes = e.nodes;
      seen_of = c.see-note.ensures.note;
      saw = c.see-note.ensures.knew;
      all = subst (KnowsAll seen) c.length_after-expected.ensures c.see-note.ensures.all;
    } in
    let new : NetView = record { actors = set v.actors.items c.args.actor c.step-step.new.self; finished = c.mark_finished.new.finished.items; rounds = c.step-step.new.rounds; note = Some seen } in
    subst (λ (w : NetView). IsNetStep n.table n.tokens n.frame w c.args.actor new c.step_as.result) c.self.view_is
    (subst (λ (o : Option (Held Content Plan)). IsNetStep n.table n.tokens n.frame (record { actors = v.actors.items; finished = v.finished.items; rounds = v.rounds; note = o }) c.args.actor new c.step_as.result) (sym noted)
    (step_after n.table n.tokens n.frame c.actors_stay.ensures v.actors.items v.finished.items v.rounds c.step-step.new.rounds note back seen v.made c.args.actor was c.step-step.new.self c.step-step.result.0 here.core here.at here.left did c.mark_finished.new.finished.items c.step_as.result c.mark_finished.ensures c.step_as.ensures))
