use Rattle.std.proofs.Common.{◌≡◌, get_or, sym, subst}
use Rattle.router_node.specs.declared.stage.Stage.{Stage}
use Rattle.router_node.proofs.Places.{stands}
use Rattle.router_node.proofs.node.take_out.Goals as goal

pub returns-clause-was : goal.returns-clause-was
returns-clause-was c = stands c.args.held.now.items c.args.at c.replace.result c.requires (subst (λ (s : Stage). s ≡ get_or c.args.held.now.items c.args.at s) (sym c.replace.ensures.value) c.index_mut.ensures.value)
