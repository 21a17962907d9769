use Rattle.std.proofs.Common.{◌≡◌, length, ap, subst, sym, ◌∙◌}
use Rattle.one_history.specs.declared.view.Frame.{Frame}
use Rattle.one_history.specs.Closing.{ArePlanned}
use Rattle.tlm_model.specs.Plan.{Plan}
use Rattle.plat_net.specs.Objects.{frame_of}
use Rattle.plat_build.proofs.UnusedLemmas.{add_up, none_at_all, seats_unused}
use Rattle.plat_build.proofs.unused.close_unused.Goals as goal

pub unused_seats-requires-clause-frame : goal.unused_seats-requires-clause-frame
unused_seats-requires-clause-frame g c = c.requires.frame ∙ ap frame_of c.into_parts-history.ensures.world

pub unused_seats-requires-clause-planned : goal.unused_seats-requires-clause-planned
unused_seats-requires-clause-planned g c =
    add_up c.args.built.net g.N.Naming.frame c.requires.frame (subst (λ (p : Plan). length p.scripts ≡ length p.platform.initiators) c.plan-2.ensures.plan c.script.ensures.each)

pub close-requires-clause-count : goal.close-requires-clause-count
close-requires-clause-count g c = c.in_ok-seats.ensures.count ∙ ap (λ (f : Frame Plan). length f.planned) (sym c.into_parts-history.ensures.history.1)

pub close-requires-clause-seats : goal.close-requires-clause-seats
close-requires-clause-seats g c =
    let n = g.N.Naming in
    let history = c.into_parts-history.ensures.history in
    seats_unused n.table c.into_parts-history.result.history.table n.frame c.into_parts-history.result.history.frame c.in_ok-seats.seats.items history.0 history.1 c.in_ok-seats.ensures.seats

pub returns-clause-empty : goal.returns-clause-empty
returns-clause-empty g c =
    let n = g.N.Naming in
    let seats = c.in_ok-seats.ensures in
    none_at_all n.table n.frame c.in_ok-seats.seats.items c.in-Done.sealed.entries seats.seats seats.count c.in-Done.ensures.merge
    (subst (λ (f : Frame Plan). ArePlanned f c.in-Done.sealed.entries) c.into_parts-history.ensures.history.1 c.in-Done.ensures.planned)
