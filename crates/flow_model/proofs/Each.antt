-- Two forms of 'at each event with those before it', and one more event.
use Rattle.std.proofs.Common.{◌≡◌, List, [], ◌∷◌, ◌++◌, refl, ap, sym, ◌∙◌, subst, append_assoc}
use Rattle.tlm_model.specs.Each.{EachFrom}
use Rattle.flow_model.specs.Events.{Event}
use Rattle.flow_model.proofs.Forms.{AtSplits}

append_nil : (l : List Event) → l ++ [] ≡ l
append_nil [] = refl
append_nil (x ∷ l) = ap (λ (m : List Event). x ∷ m) (append_nil l)

head_of : (e f : Event) (m n : List Event) → e ∷ m ≡ f ∷ n → e ≡ f
head_of e f m n q = cc

tail_of : (e f : Event) (m n : List Event) → e ∷ m ≡ f ∷ n → m ≡ n
tail_of e f m n q = cc

each_split : (P : List Event → Event → Type 0) (b h before : List Event) (e : Event) (after : List Event) → EachFrom P b h → h ≡ before ++ e ∷ after → P (b ++ before) e
each_split P b [] [] e after f q = cc
each_split P b [] (y ∷ before) e after f q = cc
each_split P b (x ∷ h) [] e after f q = subst (λ (d : Event). P (b ++ []) d) (head_of x e h after q) (subst (λ (l : List Event). P l x) (sym (append_nil b)) f.0)
each_split P b (x ∷ h) (y ∷ before) e after f q =
    let r = each_split P (b ++ x ∷ []) h before e after f.1 (tail_of x y h (before ++ e ∷ after) q) in
    let s : (b ++ x ∷ []) ++ before ≡ b ++ y ∷ before = append_assoc b (x ∷ []) before ∙ ap (λ (d : Event). b ++ d ∷ before) (head_of x y h (before ++ e ∷ after) q) in
    subst (λ (l : List Event). P l e) s r

pub at_each : (P : List Event → Event → Type 0) (h : List Event) → EachFrom P [] h → AtSplits P h
at_each P h f before e after q = each_split P [] h before e after f q

each_rest : (P : List Event → Event → Type 0) (h b rest : List Event) → AtSplits P h → h ≡ b ++ rest → EachFrom P b rest
each_rest P h b [] f q = tt
each_rest P h b (e ∷ rest) f q = (f b e rest q, each_rest P h (b ++ e ∷ []) rest f (q ∙ sym (append_assoc b (e ∷ []) rest)))

pub each_from : (P : List Event → Event → Type 0) (h : List Event) → AtSplits P h → EachFrom P [] h
each_from P h f = each_rest P h [] h f refl

each_push_from : (P : List Event → Event → Type 0) (b h : List Event) (e : Event) → EachFrom P b h → P (b ++ h) e → EachFrom P b (h ++ e ∷ [])
each_push_from P b [] e f p = (subst (λ (l : List Event). P l e) (append_nil b) p, tt)
each_push_from P b (x ∷ h) e f p = (f.0, each_push_from P (b ++ x ∷ []) h e f.1 (subst (λ (l : List Event). P l e) (sym (append_assoc b (x ∷ []) h)) p))

-- one more event
pub at_each_push : (P : List Event → Event → Type 0) (h : List Event) (e : Event) → AtSplits P h → P h e → AtSplits P (h ++ e ∷ [])
at_each_push P h e f p = at_each P (h ++ e ∷ []) (each_push_from P [] h e (each_from P h f) p)

-- a part from the front
pub at_each_front : (P : List Event → Event → Type 0) (a b : List Event) → AtSplits P (a ++ b) → AtSplits P a
at_each_front P a b f before e after q = f before e (after ++ b) (ap (λ (l : List Event). l ++ b) q ∙ append_assoc before (e ∷ after) b)
