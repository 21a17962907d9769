-- Two events of a list: which stands first, and where there is only one of a kind.
use Rattle.std.proofs.Common.{◌≡◌, List, [], ◌∷◌, refl, ap, sym, ◌∙◌, subst, ◌⊎◌, inl, inr}
use Rattle.flow_model.specs.Events.{Event, Among, Finds}
use Rattle.flow_model.proofs.Forms.{AtSplits}
use Rattle.flow_model.proofs.Splits.{Split, among_split}

abbrev pub OnceOf : (Event → Type 0) → List Event → Type 0
OnceOf P h = AtSplits (λ before e. P e → ¬ Finds (Among before) P) h

once_tail : (P : Event → Type 0) (x : Event) (h : List Event) → OnceOf P (x ∷ h) → OnceOf P h
once_tail P x h once before e after q p f = once (x ∷ before) e after (ap (λ (l : List Event). x ∷ l) q) p (record { event = f.event; known = inr f.known; is = f.is })

once_first : (P : Event → Type 0) (x g : Event) (h : List Event) → OnceOf P (x ∷ h) → P x → Among h g → P g → ⊥
once_first P x g h once px m pg =
    let s = among_split h g m in
    once (x ∷ s.before) g s.after (ap (λ (l : List Event). x ∷ l) s.is) pg (record { event = x; known = inl refl; is = px })

pub once_same : (P : Event → Type 0) (h : List Event) (f g : Event) → OnceOf P h → Among h f → P f → Among h g → P g → f ≡ g
once_same P [] f g once m p n q = absurd m
once_same P (x ∷ h) f g once (inl m) p (inl n) q = sym m ∙ n
once_same P (x ∷ h) f g once (inl m) p (inr n) q = absurd (once_first P x g h once (subst P (sym m) p) n q)
once_same P (x ∷ h) f g once (inr m) p (inl n) q = absurd (once_first P x f h once (subst P (sym n) q) m p)
once_same P (x ∷ h) f g once (inr m) p (inr n) q = once_same P h f g (once_tail P x h once) m p n q

-- f stands before g
pub record Precedes (h : List Event) (f g : Event) : Type 0 where
  pub place : Split h g
  pub known : Among place.before f

later_in : (x : Event) (h : List Event) (f g : Event) → Precedes h f g → Precedes (x ∷ h) f g
later_in x h f g p = record {
  place = record { before = x ∷ p.place.before; after = p.place.after; is = ap (λ (l : List Event). x ∷ l) p.place.is };
  known = inr p.known;
}

first_in : (x : Event) (h : List Event) (f g : Event) → x ≡ f → Among h g → Precedes (x ∷ h) f g
first_in x h f g q m =
    let s = among_split h g m in
    record { place = record { before = x ∷ s.before; after = s.after; is = ap (λ (l : List Event). x ∷ l) s.is }; known = inl q }

pub among_order : (h : List Event) (f g : Event) → Among h f → Among h g → (f ≡ g) ⊎ (Precedes h f g ⊎ Precedes h g f)
among_order [] f g m n = absurd m
among_order (x ∷ h) f g (inl m) (inl n) = inl (sym m ∙ n)
among_order (x ∷ h) f g (inl m) (inr n) = inr (inl (first_in x h f g m n))
among_order (x ∷ h) f g (inr m) (inl n) = inr (inr (first_in x h g f n m))
among_order (x ∷ h) f g (inr m) (inr n) = elim (among_order h f g m n) [ inl q ↦ inl q | inr r ↦ inr (elim r [ inl p ↦ inl (later_in x h f g p) | inr p ↦ inr (later_in x h g f p) ]) ]
