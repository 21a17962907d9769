-- The looks of a node at its hops.
use Rattle.std.specs.Prelude.{ℕ, ◌≡◌, List, [], ◌∷◌, ◌++◌}
use Rattle.tlm_model.specs.Plan.{Plan}
use Rattle.plat_net.specs.Places.{hop_place}

-- looks in vain, one at each hop in order
abbrev pub vain_looks : Plan → ℕ → List ℕ → List (ℕ × ℕ)
vain_looks p look [] = []
vain_looks p look (h ∷ hs) = (hop_place p h, look) ∷ vain_looks p look hs

-- Something was fetched from the first of these hops, in order, at which something waits: there was nothing at those before it.
pub record IsFirst (p : Plan) (look : ℕ) (hops : List ℕ) (hop : ℕ) (was is : List (ℕ × ℕ)) : Type 0 where
  pub before : List ℕ
  pub after : List ℕ
  pub hops_are : hops ≡ before ++ hop ∷ after
  pub looks : is ≡ was ++ vain_looks p look before ++ (hop_place p hop, 0) ∷ []
