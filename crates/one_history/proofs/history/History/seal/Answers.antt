use Rattle.std.proofs.Common.{List, sym, ap, ◌∙◌, subst, arith}
use Rattle.view_lists.specs.Lists.{Has}
use Rattle.one_history.specs.Rule.{plain}
use Rattle.one_history.specs.declared.view.Owned.{Owned}
use Rattle.one_history.proofs.Wholes.{learns}
use Rattle.one_history.proofs.history.History.seal.Goals as goal

pub load-count-requires : goal.load-count-requires
load-count-requires g c =
    let v = c.self.view_is in
    let some = c.requires.frame.1 in
    (c.requires.table ∙ sym (ap (λ h. h.table) v), (let wide = c.self.invariant.0 in omega arith), learns g.W.Law.backs (plain c.self.inside.table.shared.key) _ _ c.args.master.me (omega arith))

pub returns-clause-owns : goal.returns-clause-owns
returns-clause-owns g c x has =
    let l = c.load-count.ensures.2 in
    l.owns x (subst (λ (q : List (Owned g.row.E.Denot)). Has q x) (sym l.objects) has)

pub returns-clause-planned : goal.returns-clause-planned
returns-clause-planned g c = c.load-count.ensures.2.planned c.args.self.frame c.requires.frame.0

pub returns-clause-backed : goal.returns-clause-backed
returns-clause-backed g c = c.load-count.ensures.2.backed c.args.self.frame c.requires.frame.0
