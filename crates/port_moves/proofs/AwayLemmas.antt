-- A number is taken off a list.
use Rattle.std.proofs.Common.{◌≡◌, ℕ, zero, suc, ◌+◌, List, [], ◌∷◌, length, drop, Some, slice_get, sym, ap, ◌∙◌, subst, inl, inr, arith}
use Rattle.std.specs.Prelude.{remove}
use mathlib.Core.Option.{some, some-ne-none, some-injective}
use Rattle.view_lists.specs.Lists.{Has, AreDistinct}
use Rattle.flow_model.specs.Events.{Among}
use Rattle.port_model.specs.Laws.{Removes}

has_of : (xs : List ℕ) (x : ℕ) → Among xs x → Has xs x
has_of [] x a = absurd a
has_of (y ∷ ys) x (inl e) = (zero, ap some e)
has_of (y ∷ ys) x (inr a) = let h = has_of ys x a in (suc h.0, h.1)

pub among_of : (xs : List ℕ) (x : ℕ) → Has xs x → Among xs x
among_of [] x h = absurd (some-ne-none x (sym h.1))
among_of (y ∷ ys) x (zero, e) = inl (some-injective y x e)
among_of (y ∷ ys) x (suc k, e) = inr (among_of ys x (k, e))

-- what stands from place i on, and isn't there, stands after it
pub among_next : (xs : List ℕ) (i x y : ℕ) → slice_get xs i ≡ Some y → (y ≡ x → ⊥) → Among (drop i xs) x → Among (drop (suc i) xs) x
among_next [] i x y is apart a = grind arith
among_next (z ∷ zs) zero x y is apart (inl e) = grind arith
among_next (z ∷ zs) zero x y is apart (inr a) = a
among_next (z ∷ zs) (suc i) x y is apart a = among_next zs i x y is apart a

-- what is left stood there
among_left : (xs : List ℕ) (i x : ℕ) → Among (remove xs i) x → Among xs x
among_left [] zero x a = absurd a
among_left [] (suc i) x a = absurd a
among_left (y ∷ ys) zero x a = inr a
among_left (y ∷ ys) (suc i) x (inl e) = inl e
among_left (y ∷ ys) (suc i) x (inr a) = inr (among_left ys i x a)

-- no number stands twice in what is left
pub distinct_left : (xs : List ℕ) (i : ℕ) → AreDistinct xs → AreDistinct (remove xs i)
distinct_left [] zero d = d
distinct_left [] (suc i) d = d
distinct_left (y ∷ ys) zero d = d.1
distinct_left (y ∷ ys) (suc i) d = ((λ h. d.0 (has_of ys y (among_left ys i y (among_of (remove ys i) y h)))), distinct_left ys i d.1)

count_left : (xs : List ℕ) (i s : ℕ) → slice_get xs i ≡ Some s → length (remove xs i) + 1 ≡ length xs
count_left [] i s is = grind arith
count_left (y ∷ ys) zero s is = omega arith
count_left (y ∷ ys) (suc i) s is = let h = count_left ys i s is in omega (arith, h)

among_at : (xs : List ℕ) (i s : ℕ) → slice_get xs i ≡ Some s → Among xs s
among_at [] i s is = grind arith
among_at (y ∷ ys) zero s is = grind arith
among_at (y ∷ ys) (suc i) s is = inr (among_at ys i s is)

others_left : (xs : List ℕ) (i s : ℕ) → AreDistinct xs → slice_get xs i ≡ Some s → (k : ℕ) → Among (remove xs i) k → k ≡ s → ⊥
others_left [] i s d is k a e = grind arith
others_left (y ∷ ys) zero s d is k a e = d.0 (has_of ys y (subst (λ (z : ℕ). Among ys z) (e ∙ sym (first y s ys is)) a))
  where
    first : (y s : ℕ) (ys : List ℕ) → slice_get (y ∷ ys) zero ≡ Some s → y ≡ s
    first y s ys is = grind arith
others_left (y ∷ ys) (suc i) s d is k (inl same) e = d.0 (subst (λ (z : ℕ). Has ys z) (sym (same ∙ e)) (has_of ys s (among_at ys i s is)))
others_left (y ∷ ys) (suc i) s d is k (inr a) e = others_left ys i s d.1 is k a e

pub removes_at : (xs : List ℕ) (i s : ℕ) → AreDistinct xs → slice_get xs i ≡ Some s → Removes xs s (remove xs i)
removes_at xs i s d is = record {
  had = among_at xs i s is;
  count = count_left xs i s is;
  others = λ k a. (among_left xs i k a, others_left xs i s d is k a);
}
