-- Lines are split into words in one way alone.
use Rattle.std.proofs.Common.{◌≡◌, ◌≢◌, ℕ, ◌<◌, ◌≤◌, List, [], ◌∷◌, ◌++◌, Bool, true, false, eqb, ltb, refl, ap, sym, ◌∙◌, arith, append_assoc, eq-eqb, lt-ltb, ltb-false, ltb-true}
use Rattle.std.specs.Prelude.{not, ◌&&◌}
use Rattle.std.specs.Char.{digit_value}
use Rattle.std.specs.List.{join_with_byte}
use Rattle.std.specs.Str.Parse.{AllDigits}
use Rattle.std.proofs.lemmas.List.{append_cancel_right}
use Rattle.tlm_model.specs.Text.{line_of}
use Rattle.trace_print.specs.Naming.{IsVisible, Lacks}

pub lacks-append : (c : ℕ) (a b : List ℕ) → Lacks c a → Lacks c b → Lacks c (a ++ b)
lacks-append c [] b p q = q
lacks-append c (x ∷ xs) b p q = (p.0, lacks-append c xs b p.1 q)

-- by a test, for words that are written out
abbrev pub lacks : ℕ → List ℕ → Bool
lacks c [] = true
lacks c (b ∷ bs) = not (eqb b c) && lacks c bs

and-left : (a b : Bool) → (a && b) ≡ true → a ≡ true
and-left true b e = refl
and-left false b e = cc

and-right : (a b : Bool) → (a && b) ≡ true → b ≡ true
and-right true b e = e
and-right false b e = cc

not-equal : (b c : ℕ) → not (eqb b c) ≡ true → b ≢ c
not-equal b c e same = let yes : eqb b c ≡ true = eq-eqb b c same in let no : not true ≡ true = ap not (sym yes) ∙ e in cc

pub lacks-by-test : (c : ℕ) (w : List ℕ) → lacks c w ≡ true → Lacks c w
lacks-by-test c [] e = tt
lacks-by-test c (b ∷ bs) e = (not-equal b c (and-left (not (eqb b c)) (lacks c bs) e), lacks-by-test c bs (and-right (not (eqb b c)) (lacks c bs) e))

-- digits have no byte that is no digit
pub lacks-digits : (c radix : ℕ) (ds : List ℕ) → radix ≤ digit_value c → AllDigits radix ds → Lacks c ds
lacks-digits c radix [] h d = tt
lacks-digits c radix (b ∷ bs) h d = ((λ same. let e : digit_value b ≡ digit_value c = ap digit_value same in let less = d.0 in omega (arith, e, less)), lacks-digits c radix bs h d.1)

pub visible-append : (a b : List ℕ) → IsVisible a → IsVisible b → IsVisible (a ++ b)
visible-append [] b p q = q
visible-append (x ∷ xs) b p q = (p.0, visible-append xs b p.1 q)

abbrev pub visible : List ℕ → Bool
visible [] = true
visible (b ∷ bs) = ltb 32 b && visible bs

pub visible-by-test : (w : List ℕ) → visible w ≡ true → IsVisible w
visible-by-test [] e = tt
visible-by-test (b ∷ bs) e = (ltb-true 32 b (and-left (ltb 32 b) (visible bs) e), visible-by-test bs (and-right (ltb 32 b) (visible bs) e))

digit-visible : (b radix : ℕ) → radix ≤ 36 → digit_value b < radix → 32 < b
digit-visible b radix few digit = go (ltb 32 b) refl
  where
    go : (t : Bool) → ltb 32 b ≡ t → 32 < b
    go true e = ltb-true 32 b e
    go false e =
        let low : b ≤ 32 = ltb-false 32 b e in
        let less : ltb b 48 ≡ true = lt-ltb b 48 (omega arith) in
        let none : digit_value b ≡ 36 = rw less refl in
        absurd (omega arith)

pub visible-digits : (radix : ℕ) (ds : List ℕ) → radix ≤ 36 → AllDigits radix ds → IsVisible ds
visible-digits radix [] few d = tt
visible-digits radix (b ∷ bs) few d = (digit-visible b radix few d.0, visible-digits radix bs few d.1)

lacks-visible : (c : ℕ) (w : List ℕ) → c ≤ 32 → IsVisible w → Lacks c w
lacks-visible c [] h v = tt
lacks-visible c (b ∷ bs) h v = ((λ same. let past = v.0 in omega (arith, same, past)), lacks-visible c bs h v.1)

-- a byte that a word lacks doesn't stand in it
pub lacks-middle : (c : ℕ) (a x w : List ℕ) → Lacks c w → w ≡ a ++ (c ∷ x) → ⊥
lacks-middle c [] x [] p e = cc
lacks-middle c [] x (b ∷ bs) p e = p.0 (let same : b ≡ c = cc in same)
lacks-middle c (y ∷ ys) x [] p e = cc
lacks-middle c (y ∷ ys) x (b ∷ bs) p e = lacks-middle c ys x bs p.1 (let same : bs ≡ ys ++ (c ∷ x) = cc in same)

-- the first of these bytes is at one place
pub split-at : (c : ℕ) (a b x y : List ℕ) → Lacks c a → Lacks c b → a ++ (c ∷ x) ≡ b ++ (c ∷ y) → (a ≡ b) × (x ≡ y)
split-at c [] [] x y p q e = (refl, cc)
split-at c [] (b ∷ bs) x y p q e = absurd (q.0 (let same : b ≡ c = cc in same))
split-at c (a ∷ xs) [] x y p q e = absurd (p.0 (let same : a ≡ c = cc in same))
split-at c (a ∷ xs) (b ∷ bs) x y p q e =
    let first : a ≡ b = cc in
    let more : xs ++ (c ∷ x) ≡ bs ++ (c ∷ y) = cc in
    let r = split-at c xs bs x y p.1 q.1 more in
    let rest = r.0 in
    ((let same : a ∷ xs ≡ b ∷ bs = cc in same), r.1)

abbrev pub AllLack : ℕ → List (List ℕ) → Type 0
AllLack c [] = Unit {0}
AllLack c (w ∷ ws) = Lacks c w × AllLack c ws

-- words that are joined by a byte that they lack are the same where they are joined to the same
pub join-same : (c : ℕ) (w v : List ℕ) (ws vs : List (List ℕ)) → AllLack c (w ∷ ws) → AllLack c (v ∷ vs) →
    join_with_byte c (w ∷ ws) ≡ join_with_byte c (v ∷ vs) → w ∷ ws ≡ v ∷ vs
join-same c w v [] [] p q e = ap (λ (l : List ℕ). l ∷ []) e
join-same c w v [] (z ∷ vs) p q e = absurd (lacks-middle c v (join_with_byte c (z ∷ vs)) w p.0 e)
join-same c w v (y ∷ ws) [] p q e = absurd (lacks-middle c w (join_with_byte c (y ∷ ws)) v q.0 (sym e))
join-same c w v (y ∷ ws) (z ∷ vs) p q e =
    let r = split-at c w v (join_with_byte c (y ∷ ws)) (join_with_byte c (z ∷ vs)) p.0 q.0 e in
    let first = r.0 in
    let rest = join-same c y z ws vs p.1 q.1 r.1 in
    cc

abbrev pub AllVisible : List (List ℕ) → Type 0
AllVisible [] = Unit {0}
AllVisible (w ∷ ws) = IsVisible w × AllVisible ws

all-lack : (ws : List (List ℕ)) → AllVisible ws → AllLack 32 ws
all-lack [] v = tt
all-lack (w ∷ ws) v = (lacks-visible 32 w (omega arith) v.0, all-lack ws v.1)

-- the words of a line
pub line-same : (w v : List ℕ) (ws vs : List (List ℕ)) → AllVisible (w ∷ ws) → AllVisible (v ∷ vs) →
    line_of (w ∷ ws) ≡ line_of (v ∷ vs) → w ∷ ws ≡ v ∷ vs
line-same w v ws vs p q e =
    join-same 32 w v ws vs (all-lack (w ∷ ws) p) (all-lack (v ∷ vs) q) (append_cancel_right (join_with_byte 32 (w ∷ ws)) (join_with_byte 32 (v ∷ vs)) (10 ∷ []) e)

-- a line has one line feed
pub join-lacks : (ws : List (List ℕ)) → AllVisible ws → Lacks 10 (join_with_byte 32 ws)
join-lacks [] v = tt
join-lacks (w ∷ []) v = lacks-visible 10 w (omega arith) v.0
join-lacks (w ∷ u ∷ ws) v = lacks-append 10 w (32 ∷ join_with_byte 32 (u ∷ ws)) (lacks-visible 10 w (omega arith) v.0) ((λ same. omega arith), join-lacks (u ∷ ws) v.1)

-- a line, and the text after it
pub lines-same : (ws vs : List (List ℕ)) (x y : List ℕ) → AllVisible ws → AllVisible vs → line_of ws ++ x ≡ line_of vs ++ y → (line_of ws ≡ line_of vs) × (x ≡ y)
lines-same ws vs x y p q e =
    let r = split-at 10 (join_with_byte 32 ws) (join_with_byte 32 vs) x y (join-lacks ws p) (join-lacks vs q)
    (sym (append_assoc (join_with_byte 32 ws) (10 ∷ []) x) ∙ (e ∙ append_assoc (join_with_byte 32 vs) (10 ∷ []) y)) in
    (ap (λ (l : List ℕ). l ++ (10 ∷ [])) r.0, r.1)
