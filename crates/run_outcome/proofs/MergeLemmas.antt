-- One more entry of a log, and the places of a history's entries.
use Rattle.std.proofs.Common.{◌≡◌, ℕ, zero, suc, ◌+◌, ◌<◌, List, [], ◌∷◌, ◌++◌, length, set, Some, Bool, true, false, cond, nat_lt, refl, ap, sym, subst, ◌∙◌, arith, append_assoc}
use Rattle.std.specs.List.{AllByRecursion}
use Rattle.std.specs.Prelude.{slice_get}
use Rattle.std.proofs.lemmas.Bool.Decides.{nat_tests}
use Rattle.tlm_types.specs.declared.entry.Entry.{Entry}
use Rattle.tlm_model.specs.History.{IsNumbered, IsNumberedFrom}
use Rattle.run_outcome.specs.Merge.{put_in, by_position, entries_in, merged}

abbrev AllBefore : ℕ → List Entry → Type 0
AllBefore n es = AllByRecursion (λ (e : Entry). e.position < n) es

by_test : (b : Bool) (x y e : Entry) (s t u : List Entry) → t ≡ u ++ e ∷ [] → cond b (x ∷ (y ∷ (s ++ e ∷ []))) (y ∷ t) ≡ cond b (x ∷ (y ∷ s)) (y ∷ u) ++ e ∷ []
by_test true x y e s t u same = refl
by_test false x y e s t u same = ap (λ (l : List Entry). y ∷ l) same

-- an entry that comes before a later one
put_in-before : (x e : Entry) (s : List Entry) → x.position < e.position → put_in x (s ++ e ∷ []) ≡ put_in x s ++ e ∷ []
put_in-before x e [] before = ap (λ (b : Bool). cond b (x ∷ e ∷ []) (e ∷ x ∷ [])) (is_before x.position e.position before)
  where
    is_before : (a b : ℕ) → a < b → nat_lt a b ≡ true
    is_before a b is = grind (arith, nat_tests)
put_in-before x e (y ∷ s) before = by_test (nat_lt x.position y.position) x y e s (put_in x (s ++ e ∷ [])) (put_in x s) (put_in-before x e s before)

-- an entry that comes after all others
put_in-after : (e : Entry) (s : List Entry) → AllBefore e.position s → put_in e s ≡ s ++ e ∷ []
put_in-after e [] before = refl
put_in-after e (y ∷ s) before =
    ap (λ (b : Bool). cond b (e ∷ y ∷ s) (y ∷ put_in e s)) (not_before e.position y.position before.0)
    ∙ ap (λ (l : List Entry). y ∷ l) (put_in-after e s before.1)
  where
    not_before : (a b : ℕ) → b < a → nat_lt a b ≡ false
    not_before a b is = grind (arith, nat_tests)

put_in-all : (P : Entry → Type 0) (e : Entry) (s : List Entry) → P e → AllByRecursion P s → AllByRecursion P (put_in e s)
put_in-all P e [] p all = (p, tt)
put_in-all P e (y ∷ s) p all = by_cases (nat_lt e.position y.position) (put_in-all P e s p all.1)
  where
    by_cases : (b : Bool) → AllByRecursion P (put_in e s) → AllByRecursion P (cond b (e ∷ (y ∷ s)) (y ∷ put_in e s))
    by_cases true rest = (p, all)
    by_cases false rest = (all.0, rest)

pub by_position-all : (P : Entry → Type 0) (es : List Entry) → AllByRecursion P es → AllByRecursion P (by_position es)
by_position-all P [] all = tt
by_position-all P (e ∷ es) all = put_in-all P e (by_position es) all.0 (by_position-all P es all.1)

-- what holds of all entries in order holds of them in any order
put_in-of : (P : Entry → Type 0) (e : Entry) (s : List Entry) → AllByRecursion P (put_in e s) → P e × AllByRecursion P s
put_in-of P e [] all = (all.0, tt)
put_in-of P e (y ∷ s) all = by_cases (nat_lt e.position y.position) (λ rest. put_in-of P e s rest) all
  where
    by_cases : (b : Bool) → (AllByRecursion P (put_in e s) → P e × AllByRecursion P s) → AllByRecursion P (cond b (e ∷ (y ∷ s)) (y ∷ put_in e s)) → P e × AllByRecursion P (y ∷ s)
    by_cases true more all = (all.0, all.1)
    by_cases false more all = let rest = more all.1 in (rest.0, (all.0, rest.1))

pub by_position-of : (P : Entry → Type 0) (es : List Entry) → AllByRecursion P (by_position es) → AllByRecursion P es
by_position-of P [] all = tt
by_position-of P (e ∷ es) all = let both = put_in-of P e (by_position es) all in (both.0, by_position-of P es both.1)

all-front : (P : Entry → Type 0) (a b : List Entry) → AllByRecursion P (a ++ b) → AllByRecursion P a × AllByRecursion P b
all-front P [] b all = (tt, all)
all-front P (x ∷ a) b all = let both = all-front P a b all.1 in ((all.0, both.0), both.1)

-- where the rest has one more entry at the end, all have
front-push : (e : Entry) (a x y : List Entry) → AllBefore e.position a → by_position x ≡ by_position y ++ e ∷ [] → by_position (a ++ x) ≡ by_position (a ++ y) ++ e ∷ []
front-push e [] x y before same = same
front-push e (z ∷ a) x y before same = ap (put_in z) (front-push e a x y before.1 same) ∙ put_in-before z e (by_position (a ++ y)) before.0

-- an entry that comes after all others
last-push : (e : Entry) (es : List Entry) → AllBefore e.position es → by_position (e ∷ es) ≡ by_position es ++ e ∷ []
last-push e es before = put_in-after e (by_position es) (by_position-all (λ (x : Entry). x.position < e.position) es before)

logs-push : (logs : List (List Entry)) (k : ℕ) (log : List Entry) (e : Entry) → slice_get logs k ≡ Some log → AllBefore e.position (entries_in logs) → merged (set logs k (log ++ e ∷ [])) ≡ merged logs ++ e ∷ []
logs-push [] k log e is before = cc
logs-push (first ∷ logs) zero log e is before =
    let same : first ≡ log = cc in
    let parts = all-front (λ (x : Entry). x.position < e.position) first (entries_in logs) before in
    ap by_position (append_assoc log (e ∷ []) (entries_in logs))
    ∙ (front-push e log (e ∷ entries_in logs) (entries_in logs) (subst (AllBefore e.position) same parts.0) (last-push e (entries_in logs) parts.1)
    ∙ ap (λ (l : List Entry). by_position (l ++ entries_in logs) ++ e ∷ []) (sym same))
logs-push (first ∷ logs) (suc k) log e is before =
    let parts = all-front (λ (x : Entry). x.position < e.position) first (entries_in logs) before in
    front-push e first (entries_in (set logs k (log ++ e ∷ []))) (entries_in logs) parts.0 (logs-push logs k log e is parts.1)

numbered_before : (n : ℕ) (h : List Entry) → IsNumberedFrom n h → AllByRecursion (λ (e : Entry). e.position < n + length h) h
numbered_before n [] numbered = tt
numbered_before n (e ∷ h) numbered = (omega (arith, numbered.0), weaker h (numbered_before (n + 1) h numbered.1))
  where
    weaker : (es : List Entry) → AllByRecursion (λ (e : Entry). e.position < n + 1 + length h) es → AllByRecursion (λ (e : Entry). e.position < n + suc (length h)) es
    weaker [] all = tt
    weaker (x ∷ es) all = (omega (arith, all.0), weaker es all.1)

-- one more entry at the end of a log: the history has it at its end
pub merged-push : (logs : List (List Entry)) (k : ℕ) (log : List Entry) (e : Entry) → slice_get logs k ≡ Some log → IsNumbered (merged logs) → e.position ≡ length (merged logs) → merged (set logs k (log ++ e ∷ [])) ≡ merged logs ++ e ∷ []
merged-push logs k log e is numbered position =
    logs-push logs k log e is
    (by_position-of (λ (x : Entry). x.position < e.position) (entries_in logs)
    (subst (λ (n : ℕ). AllByRecursion (λ (x : Entry). x.position < n) (merged logs)) (sym position) (subst (λ (n : ℕ). AllByRecursion (λ (x : Entry). x.position < n) (merged logs)) (zero_add (length (merged logs))) (numbered_before 0 (merged logs) numbered))))
  where
    zero_add : (n : ℕ) → 0 + n ≡ n
    zero_add n = omega arith

length-put : (e : Entry) (s : List Entry) → length (put_in e s) ≡ suc (length s)
length-put e [] = refl
length-put e (x ∷ s) = by_cases (nat_lt e.position x.position) (length-put e s)
  where
    by_cases : (b : Bool) → length (put_in e s) ≡ suc (length s) → length (cond b (e ∷ (x ∷ s)) (x ∷ put_in e s)) ≡ suc (suc (length s))
    by_cases true rest = refl
    by_cases false rest = ap suc rest

pub length-by_position : (es : List Entry) → length (by_position es) ≡ length es
length-by_position [] = refl
length-by_position (e ∷ es) = length-put e (by_position es) ∙ ap suc (length-by_position es)
