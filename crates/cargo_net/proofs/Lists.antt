-- Places of objects, the one item of a call, and times of calls.
use Rattle.std.proofs.Common.{◌≡◌, ◌⊎◌, ℕ, zero, suc, ◌+◌, ◌<◌, ◌≤◌, ◌||◌, cond, List, [], ◌∷◌, get_or, Bool, true, false, max, Some, find, refl, sym, ◌∙◌, ap, arith, subst}
use Rattle.std.specs.Prelude.{not, slice_get}
use Rattle.std.specs.List.{list_any, position_or_len}
use mathlib.Core.Option.{some}
use lib.ListN.{get_elem?}
use Rattle.one_history.specs.declared.entry.Entry.{Entry}
use Rattle.tlm_types.specs.declared.entry.Content.{Content}
use Rattle.tlm_types.specs.declared.words.ObjectNo.{ObjectNo}
use Rattle.tlm_types.specs.declared.words.TxnId.{TxnId}
use Rattle.shared_object.specs.Standing.{AreVouched}

-- what is read at a place
pub read_there : (os : List ObjectNo) (k : ℕ) (o d : ObjectNo) → slice_get os k ≡ Some o → get_or os k d ≡ o
read_there [] k o d q = cc
read_there (z ∷ os) zero o d q = same z o q
  where
    same : (a b : ObjectNo) → Some a ≡ Some b → a ≡ b
    same a b e = cc
read_there (z ∷ os) (suc k) o d q = read_there os k o d q

-- what stands at the first place that passes a test passes it
pub at_position : (test : ObjectNo → Bool) (os : List ObjectNo) (d : ObjectNo) → slice_get os (position_or_len test os) ≡ Some d → test d ≡ true
at_position test [] d q = cc
at_position test (z ∷ os) d q = go (λ r. at_position test os d r) (test z) refl q
  where
    one_more : (n : ℕ) → 1 + n ≡ suc n
    one_more n = omega arith

    same : (a b : ObjectNo) → Some a ≡ Some b → a ≡ b
    same a b e = cc

    go : (slice_get os (position_or_len test os) ≡ Some d → test d ≡ true) → (b : Bool) → test z ≡ b → slice_get (z ∷ os) (cond (not b) (1 + position_or_len test os) 0) ≡ Some d → test d ≡ true
    go more true t e = ap test (sym (same z d e)) ∙ t
    go more false t e = more (subst (λ (n : ℕ). slice_get (z ∷ os) n ≡ Some d) (one_more (position_or_len test os)) e)

-- the only item of a call
pub one_vouched : {I : Type 0} (V : TxnId → I → List (Entry Content) → Type 0) (x : TxnId) (item : I) (known : List (Entry Content)) → V x item known → AreVouched V ((x, item) ∷ []) known
one_vouched V x item known v z (zero, q) = subst (λ (y : TxnId × _). V y.0 y.1 known) (same (x, item) z q) v
  where
    same : {A : Type 0} (a b : A) → get_elem? (a ∷ []) 0 ≡ some b → a ≡ b
    same a b q = cc
one_vouched V x item known v z (suc k, q) = absurd (none k z q)
  where
    none : {A : Type 0} (k : ℕ) (b : A) → get_elem? [] k ≡ some b → ⊥
    none k b q = cc

-- where some pass a test, one is found
pub any_found : {X : Type 0} (p : X → Bool) (xs : List X) → list_any p xs ≡ true → (x : X) × (find p xs ≡ Some x)
any_found p [] e = cc
any_found p (z ∷ zs) e = go (p z) e (any_found p zs)
  where
    go : (b : Bool) → (b || list_any p zs) ≡ true → (list_any p zs ≡ true → (x : _) × (find p zs ≡ Some x)) → (x : _) × (cond b (Some z) (find p zs) ≡ Some x)
    go true e rest = (z, refl)
    go false e rest = rest e

-- the greater of two times, and of three
pub later_of : (at last : ℕ) → (max at last ≡ at) ⊎ ((at < max at last) × (max at last ≡ last))
later_of at last = grind arith

pub latest_of : (at last r : ℕ) → (max (max at last) r ≡ at) ⊎ (((at < max (max at last) r) × (max (max at last) r ≡ last)) ⊎ ((at < max (max at last) r) × (max (max at last) r ≡ r)))
latest_of at last r = grind arith

pub no_less : (i j : ℕ) → i ≤ max i j
no_less i j = grind arith

pub no_less_still : (a b c : ℕ) → a ≤ max (max a b) c
no_less_still a b c = grind arith
