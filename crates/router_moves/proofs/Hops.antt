-- A hop of the way of an access is one of the plan.
use Rattle.std.proofs.Common.{◌≡◌, ◌+◌, ◌<◌, ℕ, Some, refl, subst, arith}
use Rattle.tlm_types.specs.declared.words.ReqMode.TheVariants.{Accept}
use Rattle.tlm_types.specs.declared.words.TxnId.{TxnId}
use Rattle.tlm_model.specs.Plan.{Plan}
use Rattle.flow_model.specs.World.{Passage, hop_at, hop_count}
use Rattle.flow_model.specs.Platform.{passage_of}
use Rattle.route_plan.specs.Valid as valid
use Rattle.plat_net.proofs.Given.{above_below}

pub on_plan : (p : Plan) (x : TxnId) (pass : Passage) (k h : ℕ) → passage_of p x ≡ Some pass → k < hop_count pass → hop_at pass k ≡ h → h < valid.hop_count p.platform
on_plan p x pass k h passes below here = subst (λ (n : ℕ). n < valid.hop_count p.platform) here (above_below p x pass k Accept (Some (hop_at pass k)) passes below refl)

pub one_less : (k n : ℕ) → k + 1 < n → k < n
one_less k n l = omega (arith, l)
