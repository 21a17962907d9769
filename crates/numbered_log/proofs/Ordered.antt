-- Entries of a log whose positions rise.
use Rattle.std.proofs.Common.{◌≡◌, ℕ, zero, suc, ◌<◌, List, [], ◌∷◌, map, refl, sym, ap, ◌∙◌, subst, inl, inr, arith}
use Rattle.std.specs.List.{All, AllPairs}
use Rattle.std.proofs.lemmas.List.Elements.{All-nil, All-cons, All-head, All-tail}
use mathlib.Core.Option.{some, some-ne-none, some-injective}
use lib.ListN.{get_elem?}
use Rattle.view_lists.specs.Lists.{Has}
use Rattle.view_lists.proofs.Members.{has_later}
use Rattle.shared_object.specs.Written.{Written}
use Rattle.flow_model.specs.Events.{Among, Event}
use Rattle.numbered_log.specs.Logged.{IsBefore, written_by}

-- what stands among entries stands in their list
pub among_has : (xs : List Event) (e : Event) → Among xs e → Has xs e
among_has [] e m = absurd m
among_has (x ∷ xs) e (inl q) = (0, ap some q)
among_has (x ∷ xs) e (inr m) = has_later x xs e (among_has xs e m)

-- what stands in a list of which each has this
pub each_has : (P : Event → Type 0) (es : List Event) → All P es → (e : Event) → Has es e → P e
each_has P [] all e (k, is) = absurd (some-ne-none e (sym is))
each_has P (x ∷ xs) all e (zero, is) = subst P (some-injective x e is) (All-head P x xs all)
each_has P (x ∷ xs) all e (suc k, is) = each_has P xs (All-tail P x xs all) e (k, is)

-- each entry stands before a position that is past all that was written
pub all_past : (es : List Event) (p : ℕ) → ((x : Written) → Has (map written_by es) x → x.position < p) → All (λ (e : Event). e.position < p) es
all_past [] p h = All-nil (λ (e : Event). e.position < p)
all_past (e ∷ es) p h = All-cons (λ (y : Event). y.position < p) e es (h (written_by e) (0, refl)) (all_past es p (λ x k. h x (has_later (written_by e) (map written_by es) x k)))

-- the entries with one position are one
before_all : (x : Event) (xs : List Event) → AllPairs IsBefore (x ∷ xs) → (e : Event) → Has xs e → x.position < e.position
before_all x xs f e h = at_each xs (λ k d below. f 0 (suc k) d (omega arith) (omega arith)) h.0 h.1
  where
    at_each : (ys : List Event) → All (λ y. x.position < y.position) ys → (k : ℕ) → get_elem? ys k ≡ some e → x.position < e.position
    at_each [] g k is = absurd (some-ne-none e (sym is))
    at_each (y ∷ ys) g zero is = subst (λ (z : Event). x.position < z.position) (some-injective y e is) (g 0 y (omega arith))
    at_each (y ∷ ys) g (suc k) is = at_each ys (λ j d below. g (suc j) d (omega arith)) k is

pub one_entry : (xs : List Event) → AllPairs IsBefore xs → (d e : Event) → Has xs d → Has xs e → d.position ≡ e.position → d ≡ e
one_entry [] f d e (k, is) h same = absurd (some-ne-none d (sym is))
one_entry (x ∷ xs) f d e (zero, is) (zero, at) same = sym (some-injective x d is) ∙ some-injective x e at
one_entry (x ∷ xs) f d e (zero, is) (suc j, at) same = let p = before_all x xs f e (j, at) in let q : x.position ≡ d.position = ap (λ (y : Event). y.position) (some-injective x d is) in absurd (omega arith)
one_entry (x ∷ xs) f d e (suc k, is) (zero, at) same = let p = before_all x xs f d (k, is) in let q : x.position ≡ e.position = ap (λ (y : Event). y.position) (some-injective x e at) in absurd (omega arith)
one_entry (x ∷ xs) f d e (suc k, is) (suc j, at) same = one_entry xs (λ i l z less below. f (suc i) (suc l) z (omega arith) (omega arith)) d e (k, is) (j, at) same
