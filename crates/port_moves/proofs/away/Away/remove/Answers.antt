use Rattle.std.proofs.Common.{◌≡◌, ℕ, List, Some, slice_get, subst, arith}
use Rattle.std.proofs.lemmas.Grind.{common_steps}
use Rattle.port_moves.proofs.AwayLemmas.{removes_at}
use Rattle.port_moves.proofs.away.Away.remove.Goals as goal

pub returns-in-Some : goal.returns-in-Some
returns-in-Some c =
    let found = subst (λ (ns : List ℕ). slice_get ns c.in-Some.i ≡ Some c.args.number) c.deref.ensures.value c.in-Some.ensures.found in
    let r = removes_at c.self.inside.numbers.items c.in-Some.i c.args.number c.self.invariant.2 found in
    grind (arith, common_steps, r, c.remove.ensures.items, c.self.view_is)
