use Rattle.std.proofs.Common.{ap, ◌∙◌, arith}
use Rattle.region_object.specs.Grants.{least_open}
use Rattle.region_object.specs.Region.{LoggedMemory}
use Rattle.region_object.proofs.Least.{open_is, none_is}
use Rattle.region_object.proofs.region.Region.overlapping.Goals as goal

pub returns-then-first-saturating_sub : goal.returns-then-first-saturating_sub
returns-then-first-saturating_sub c =
    let s = c.self.inside in
    none_is s.traits s.gates s.log.entries c.self.invariant.holds c.args.from c.args.first c.args.last c.args.before (let a = c.if-first-saturating_sub.true in let b = c.saturating_sub.ensures in omega arith)
    ∙ ap (λ (m : LoggedMemory). least_open m.log.entries (m.first_gate, m.traits.gates) c.args.from c.args.first c.args.last c.args.before) c.self.view_is

pub returns : goal.returns
returns c =
    let s = c.self.inside in
    c.least_given_before.ensures
    ∙ open_is s.traits s.gates s.log.entries c.self.invariant.holds c.args.from c.args.first c.args.last c.args.before (let a = c.if-first-saturating_sub.false in let b = c.saturating_sub.ensures in omega arith)
    ∙ ap (λ (m : LoggedMemory). least_open m.log.entries (m.first_gate, m.traits.gates) c.args.from c.args.first c.args.last c.args.before) c.self.view_is
