use Rattle.std.proofs.Common.{◌≡◌, ℕ, List, ◌++◌, sym, ap, subst}
use Rattle.view_lists.specs.Lists.{Has}
use Rattle.view_lists.proofs.Members.{has_right}
use Rattle.one_history.specs.declared.entry.Entry.{Entry}
use Rattle.object_bench.proofs.history.meet.Goals as goal

pub returns-clause-known : goal.returns-clause-known
returns-clause-known c = λ e has. subst (λ (l : List (Entry ℕ)). Has l e) (sym (ap (λ w. w.known) c.join.ensures.joined)) (has_right c.args.seat.knows.known c.args.note.knows.known e has)
