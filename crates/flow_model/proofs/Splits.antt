-- Lists of events, split at one of them; the log of an object.
use Rattle.std.proofs.Common.{◌≡◌, List, [], ◌∷◌, ◌++◌, true, false, Bool, cond, eq-eqb, refl, ap, sym, ◌∙◌, subst, append_assoc, ◌⊎◌, inl, inr}
use Rattle.std.proofs.lemmas.List.Elements.{filter-append}
use Rattle.std.proofs.lemmas.Bool.{eqb-true}
use Rattle.tlm_types.specs.declared.words.ObjectNo.{ObjectNo}
use Rattle.tlm_types.specs.declared.words.ObjectNo.TheVariants.{Memory, Hop, Pool}
use Rattle.tlm_model.specs.History.{is_object}
use Rattle.flow_model.specs.Events.{Event, Among, at}
use Rattle.flow_model.proofs.Forms.{AtSplits}

pub record Split (l : List Event) (e : Event) : Type 0 where
  pub before : List Event
  pub after : List Event
  pub is : l ≡ before ++ e ∷ after

pub among_split : (l : List Event) (e : Event) → Among l e → Split l e
among_split [] e m = absurd m
among_split (x ∷ xs) e (inl q) = record { before = []; after = xs; is = ap (λ (y : Event). y ∷ xs) q }
among_split (x ∷ xs) e (inr m) =
    let s = among_split xs e m in
    record { before = x ∷ s.before; after = s.after; is = ap (λ (l : List Event). x ∷ l) s.is }

pub among_left : (a b : List Event) (e : Event) → Among a e → Among (a ++ b) e
among_left [] b e m = absurd m
among_left (x ∷ a) b e (inl q) = inl q
among_left (x ∷ a) b e (inr m) = inr (among_left a b e m)

pub among_right : (a b : List Event) (e : Event) → Among b e → Among (a ++ b) e
among_right [] b e m = m
among_right (x ∷ a) b e m = inr (among_right a b e m)

pub among_cases : (a b : List Event) (e : Event) → Among (a ++ b) e → Among a e ⊎ Among b e
among_cases [] b e m = inr m
among_cases (x ∷ a) b e (inl q) = inl (inl q)
among_cases (x ∷ a) b e (inr m) = elim (among_cases a b e m) [ inl n ↦ inl (inr n) | inr n ↦ inr n ]

-- an event among those before another, as a place of the whole list
pub earlier : (h before after : List Event) (e f : Event) → h ≡ before ++ e ∷ after → (s : Split before f) → h ≡ s.before ++ f ∷ (s.after ++ e ∷ after)
earlier h before after e f q s = q ∙ (ap (λ (l : List Event). l ++ e ∷ after) s.is ∙ append_assoc s.before (f ∷ s.after) (e ∷ after))

pub placed : (h before rest : List Event) (f : Event) → h ≡ before ++ rest → (s : Split before f) → h ≡ s.before ++ f ∷ (s.after ++ rest)
placed h before rest f q s = q ∙ (ap (λ (l : List Event). l ++ rest) s.is ∙ append_assoc s.before (f ∷ s.after) rest)

-- P at an event before another
pub at_earlier : (P : List Event → Event → Type 0) (h before after : List Event) (e f : Event) → AtSplits P h → h ≡ before ++ e ∷ after → (s : Split before f) → P s.before f
at_earlier P h before after e f each q s = each s.before f (s.after ++ e ∷ after) (earlier h before after e f q s)

pub among_whole : (h before after : List Event) (e f : Event) → h ≡ before ++ e ∷ after → Among before f → Among h f
among_whole h before after e f q m = subst (λ (l : List Event). Among l f) (sym q) (among_left before (e ∷ after) f m)

pub among_self : (h before after : List Event) (e : Event) → h ≡ before ++ e ∷ after → Among h e
among_self h before after e q = subst (λ (l : List Event). Among l e) (sym q) (among_right before (e ∷ after) e (inl refl))

pub is_object_same : (o p : ObjectNo) → p ≡ o → is_object o p ≡ true
is_object_same o p q = subst (λ (r : ObjectNo). is_object o r ≡ true) (sym q) (self o)
  where
    self : (o : ObjectNo) → is_object o o ≡ true
    self (Memory n) = eq-eqb n n refl
    self (Hop n) = eq-eqb n n refl
    self (Pool n) = eq-eqb n n refl

pub same_object : (o p : ObjectNo) → is_object o p ≡ true → p ≡ o
same_object (Memory m) (Memory n) q = ap Memory (eqb-true n m q)
same_object (Hop m) (Hop n) q = ap Hop (eqb-true n m q)
same_object (Pool m) (Pool n) q = ap Pool (eqb-true n m q)
same_object (Memory m) (Hop n) q = cc
same_object (Memory m) (Pool n) q = cc
same_object (Hop m) (Memory n) q = cc
same_object (Hop m) (Pool n) q = cc
same_object (Pool m) (Memory n) q = cc
same_object (Pool m) (Hop n) q = cc

-- the log of o splits where the history does
pub at-split : (o : ObjectNo) (h before after : List Event) (e : Event) → h ≡ before ++ e ∷ after → e.object ≡ o → at o h ≡ at o before ++ e ∷ at o after
at-split o h before after e q mine =
    ap (at o) q
    ∙ (filter-append (λ (x : Event). is_object o x.object) before (e ∷ after)
    ∙ ap (λ (b : Bool). at o before ++ cond b (e ∷ at o after) (at o after)) (is_object_same o e.object mine))

pub at_log : (P : List Event → Event → Type 0) (o : ObjectNo) (h before after : List Event) (e : Event) → AtSplits P (at o h) → h ≡ before ++ e ∷ after → e.object ≡ o → P (at o before) e
at_log P o h before after e each q mine = each (at o before) e (at o after) (at-split o h before after e q mine)

pub among_at : (o : ObjectNo) (h : List Event) (e : Event) → Among h e → e.object ≡ o → Among (at o h) e
among_at o h e m mine =
    let s = among_split h e m in
    among_self (at o h) (at o s.before) (at o s.after) e (at-split o h s.before s.after e s.is mine)

-- what stands in the log of o stands in the history, and is at o
pub record Placed (o : ObjectNo) (h : List Event) (e : Event) : Type 0 where
  pub among : Among h e
  pub mine : e.object ≡ o

pub from_at : (o : ObjectNo) (h : List Event) (e : Event) → Among (at o h) e → Placed o h e
from_at o [] e m = absurd m
from_at o (x ∷ h) e m = go (λ (r : Among (at o h) e). from_at o h e r) (is_object o x.object) refl m
  where
    onward : Placed o h e → Placed o (x ∷ h) e
    onward p = record { among = inr p.among; mine = p.mine }

    here : x ≡ e → is_object o x.object ≡ true → Placed o (x ∷ h) e
    here q b = record { among = inl q; mine = subst (λ (y : Event). y.object ≡ o) q (same_object o x.object b) }

    go : (Among (at o h) e → Placed o h e) → (b : Bool) → is_object o x.object ≡ b → Among (cond b (x ∷ at o h) (at o h)) e → Placed o (x ∷ h) e
    go f true q (inl r) = here r q
    go f true q (inr r) = onward (f r)
    go f false q r = onward (f r)
