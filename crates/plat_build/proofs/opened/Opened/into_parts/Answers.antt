use Rattle.std.proofs.Common.{◌≡◌, ap, ◌∙◌}
use Rattle.plat_build.specs.Opened.{OpenedView}
use Rattle.plat_build.proofs.BuildLemmas.{may_build}
use Rattle.plat_build.proofs.opened.Opened.into_parts.Goals as goal

pub returns : goal.returns
returns g c =
    let o = c.self.inside in
    let table = ap (λ (x : OpenedView). x.table) c.self.view_is ∙ c.requires.history.0 in
    let frame = ap (λ (x : OpenedView). x.frame) c.self.view_is ∙ c.requires.history.1 in
    let tokens = ap (λ (x : OpenedView). x.tokens) c.self.view_is ∙ c.requires.tickets in
    let may = may_build g.N.Naming.table g.N.Naming.tokens g.N.Naming.frame c.args.plan.now o.history.table o.tickets o.history.frame o.seats.items o.note o.books.items c.self.invariant table frame tokens c.requires.plan c.platform.ensures.valid.shape.bounded in
    record {
      frame = may.made;
      history = (table, frame);
      tickets = tokens;
      supplies = may.supplies;
      note = may.first;
    }
