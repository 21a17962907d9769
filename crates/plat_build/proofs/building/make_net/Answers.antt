use Rattle.std.proofs.Common.{◌≡◌, sym, subst}
use Rattle.tlm_model.specs.Plan.{Plan}
use Rattle.plat_net.specs.Objects.{frame_of}
use Rattle.plat_build.proofs.building.make_net.Goals as goal

pub of_parts-requires-clause-frame : goal.of_parts-requires-clause-frame
of_parts-requires-clause-frame g c = subst (λ (p : Plan). g.N.Naming.frame ≡ frame_of p) (sym c.in_ok-plan.ensures) c.requires.frame
