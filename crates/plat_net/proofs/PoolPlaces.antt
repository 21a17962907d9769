-- The pool of an initiator is found among the pools.
use Rattle.std.proofs.Common.{◌≡◌, ℕ, zero, suc, List, [], ◌∷◌, length, map, Some, refl, sym, ap, subst, ◌∙◌}
use Rattle.std.specs.Prelude.{slice_get}
use Rattle.std.proofs.lemmas.List.{length-map}
use Rattle.tlm_types.specs.declared.words.ObjectNo.{ObjectNo}
use Rattle.tlm_types.specs.declared.words.ObjectNo.TheVariants.{Pool}
use Rattle.tlm_model.specs.Plan.{Plan}
use Rattle.shared_object.specs.Standing.{Numbers}
use Rattle.plat_net.specs.Net.{ArePools, HasPool, HasPoolOf}
use Rattle.plat_net.specs.Objects.{pools_of}
use Rattle.plat_net.proofs.NumberLemmas.{pool_rank}

-- the pool of an initiator that has one
pub pool_found : (p q : Plan) (pools read : List Numbers) (i : ℕ) → ArePools p.platform pools → p ≡ q → HasPool q.platform i → read ≡ pools → HasPoolOf read i
pool_found p q pools read i are same has is =
    let here : HasPool p.platform i = subst (λ (x : Plan). HasPool x.platform i) (sym same) has in
    let k : ℕ = length (pools_of p.platform i) in
    subst (λ (l : List Numbers). HasPoolOf l i) (sym is) (unmapped pools k (ap (λ (l : List ObjectNo). slice_get l k) are.objects ∙ pool_rank p.platform i here.0 here.1))
  where
    same_own : (a b : ℕ) → Some (Pool a) ≡ Some (Pool b) → a ≡ b
    same_own a b q = cc

    unmapped : (l : List Numbers) (k : ℕ) → slice_get (map (λ (t : Numbers). Pool t.own) l) k ≡ Some (Pool i) → HasPoolOf l i
    unmapped [] k at = cc
    unmapped (x ∷ l) zero at = (x, (0, refl), same_own x.own i at)
    unmapped (x ∷ l) (suc k) at = let r = unmapped l k at in (r.0, (suc r.1.0, r.1.1), r.2)

-- how many pools stand in their list
pub pools-count : (p world : Plan) (pools : List Numbers) → ArePools p.platform pools → p ≡ world → length pools ≡ length (pools_of world.platform (length world.platform.initiators))
pools-count p world pools are same =
    sym (length-map pools (λ (s : Numbers). Pool s.own)) ∙ (ap length are.objects ∙ ap (λ (q : Plan). length (pools_of q.platform (length q.platform.initiators))) same)
