-- Lists written anew, the pools of a net, and how many objects there are.
use Rattle.std.proofs.Common.{◌≡◌, ℕ, zero, suc, ◌+◌, List, [], ◌∷◌, ◌++◌, length, take, drop, map, Some, sym, ap, ◌∙◌, arith}
use Rattle.std.proofs.Math.Seq.{take-append_seam}
use Rattle.std.specs.Prelude.{slice_get}
use mathlib.Core.Option.{some, some-injective, some-ne-none}
use lib.ListN.{get_elem?}
use Rattle.one_history.specs.declared.view.Frame.{Frame}
use Rattle.shared_object.specs.Standing.{Numbers}
use Rattle.tlm_types.specs.declared.words.ObjectNo.{ObjectNo}
use Rattle.tlm_types.specs.declared.words.ObjectNo.TheVariants.{Pool}
use Rattle.tlm_model.specs.Plan.{Plan}
use Rattle.plat_net.specs.Net.{AreHops, ArePools}
use Rattle.plat_net.specs.Objects.{frame_of, pools_of}
use Rattle.plat_net.proofs.ObjectLemmas.{count_of, count_planned}
use Rattle.plat_build.proofs.PoolLemmas.{pools_long}

-- a list whose items were all written anew
pub written_back : {A : Type 0} (old new : List A) (n : ℕ) → n ≡ length new → take n (new ++ drop (length new) old) ≡ new
written_back old new n all = ap (λ (k : ℕ). take k (new ++ drop (length new) old)) all ∙ take-append_seam new (drop (length new) old)

-- the object of a pool at its place
pub pool_listed : (p : Plan) (pools : List Numbers) (k : ℕ) (s : Numbers) → ArePools p.platform pools → get_elem? pools k ≡ some s → slice_get (pools_of p.platform (length p.platform.initiators)) k ≡ Some (Pool s.own)
pool_listed p pools k s are at = ap (λ (l : List ObjectNo). slice_get l k) (sym are.objects) ∙ mapped pools k s at
  where
    mapped : (l : List Numbers) (k : ℕ) (s : Numbers) → get_elem? l k ≡ some s → slice_get (map (λ (t : Numbers). Pool t.own) l) k ≡ Some (Pool s.own)
    mapped [] k s at = absurd (some-ne-none s (sym at))
    mapped (x ∷ l) zero s at = ap (λ (t : Numbers). Some (Pool t.own)) (some-injective x s at)
    mapped (x ∷ l) (suc k) s at = mapped l k s at

-- the memories, hops and pools are all objects
pub all_objects : (p : Plan) (frame : Frame Plan) (hops pools : List Numbers) → frame ≡ frame_of p → AreHops p.platform hops → ArePools p.platform pools → length p.platform.memories + length hops + length pools ≡ length frame.planned
all_objects p frame hops pools is are are_pools =
    omega (arith, ap (λ (f : Frame Plan). length f.planned) is, count_planned p, count_of p.platform, are.count, pools_long p.platform (length p.platform.initiators) pools are_pools)
