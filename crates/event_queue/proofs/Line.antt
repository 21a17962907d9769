-- A line and what is early: how they are joined, as entries come and go.
use Rattle.std.proofs.Common.{◌≡◌, ◌<◌, ◌≤◌, ℕ, suc, ◌+◌, ◌-◌, ◌==◌, Bool, true, false, cond, not, List, [], ◌∷◌, ◌++◌, length, get_or, nat_lt, insert, All, Some, None, refl, sym, ap, subst, ◌∙◌, arith}
use Rattle.std.specs.Prelude.{if◌then◌else◌}
use Rattle.std.specs.List.{AllByRecursion}
use Rattle.std.proofs.lemmas.Bool.{eq-eqb, eqb-true, le-ltb, lt-ltb, ltb-false, ltb-true}
use Rattle.std.proofs.lemmas.Option.{none-some, same_Some}
use Rattle.event_queue.specs.EventQueue.{first_time, notified, place_after}
use Rattle.event_queue.specs.Line.{Ascends, AreSplit, joined, last_or, last_time}

pub time_is : {X : Type 0} (time : ℕ) (e : ℕ × X) (es rest : List (ℕ × X)) → Some time ≡ first_time es → es ≡ e ∷ rest → time ≡ e.0
time_is time e es rest is same = same_Some time e.0 (is ∙ ap first_time same)

module _ {T : Type 0} where
  filled : (e : ℕ × T) (es : List (ℕ × T)) → e ∷ es ≡ [] → ⊥
  filled e es none = let n = ap length none in omega (arith, n)

  pub weaker : (P Q : ℕ × T → Type 0) → ((x : ℕ × T) → P x → Q x) → (xs : List (ℕ × T)) → AllByRecursion P xs → AllByRecursion Q xs
  weaker P Q f [] all = tt
  weaker P Q f (x ∷ xs) all = (f x all.0, weaker P Q f xs all.1)

  insert_later : (e y : ℕ × T) (es : List (ℕ × T)) (k : ℕ) → insert (e ∷ es) (1 + k) y ≡ e ∷ insert es k y
  insert_later e y es k = let next : 1 + k ≡ suc k = omega arith in ap (λ n. insert (e ∷ es) n y) next

  -- one more stands before the first that is later
  pub notified_next : (e : ℕ × T) (es : List (ℕ × T)) (item : T) (at : ℕ) → notified (e ∷ es) item at ≡ (if nat_lt at e.0 then (at, item) ∷ e ∷ es else e ∷ notified es item at)
  notified_next e es item at = by_case (nat_lt at e.0)
    where
      by_case : (b : Bool) → insert (e ∷ es) (cond (not b) (1 + place_after es at) 0) (at, item) ≡ (if b then (at, item) ∷ e ∷ es else e ∷ notified es item at)
      by_case true = refl
      by_case false = insert_later e (at, item) es (place_after es at)

  notified_step : (e : ℕ × T) (es : List (ℕ × T)) (item : T) (at : ℕ) (b : Bool) → nat_lt at e.0 ≡ b → notified (e ∷ es) item at ≡ (if b then (at, item) ∷ e ∷ es else e ∷ notified es item at)
  notified_step e es item at b is = notified_next e es item at ∙ ap (λ c. if c then (at, item) ∷ e ∷ es else e ∷ notified es item at) is

  joined_step : (e x : ℕ × T) (es xs : List (ℕ × T)) (b : Bool) → nat_lt x.0 e.0 ≡ b → joined (e ∷ es) (x ∷ xs) ≡ (if b then x ∷ joined (e ∷ es) xs else e ∷ joined es (x ∷ xs))
  joined_step e x es xs b is = ap (λ c. if c then x ∷ joined (e ∷ es) xs else e ∷ joined es (x ∷ xs)) is

  all_notified : (P : ℕ × T → Type 0) (es : List (ℕ × T)) (item : T) (at : ℕ) → P (at, item) → AllByRecursion P es → AllByRecursion P (notified es item at)
  all_notified P [] item at here all = (here, tt)
  all_notified P (e ∷ es) item at here all = subst (AllByRecursion P) (sym (notified_next e es item at)) (by_case (nat_lt at e.0) (all_notified P es item at here all.1))
    where
      by_case : (b : Bool) → AllByRecursion P (notified es item at) → AllByRecursion P (if b then (at, item) ∷ e ∷ es else e ∷ notified es item at)
      by_case true rest = (here, all)
      by_case false rest = (all.0, rest)

  notified_last : (es : List (ℕ × T)) (item : T) (at : ℕ) → AllByRecursion (λ e. e.0 ≤ at) es → notified es item at ≡ es ++ (at, item) ∷ []
  notified_last [] item at all = refl
  notified_last (e ∷ es) item at all = notified_step e es item at false (le-ltb at e.0 all.0) ∙ ap (λ l. e ∷ l) (notified_last es item at all.1)

  joined_none : (line : List (ℕ × T)) → joined line [] ≡ line
  joined_none [] = refl
  joined_none (e ∷ es) = refl

  -- the first of what is early is the first of all
  pub joined_early : (x : ℕ × T) (line early : List (ℕ × T)) → AllByRecursion (λ e. x.0 < e.0) line → joined line (x ∷ early) ≡ x ∷ joined line early
  joined_early x [] early all = refl
  joined_early x (e ∷ es) early all = joined_step e x es early true (lt-ltb x.0 e.0 all.0)

  -- the first of the line is the first of all
  pub joined_late : (e : ℕ × T) (line early : List (ℕ × T)) → AllByRecursion (λ x. e.0 ≤ x.0) early → joined (e ∷ line) early ≡ e ∷ joined line early
  joined_late e line [] all = ap (λ l. e ∷ l) (sym (joined_none line))
  joined_late e line (x ∷ xs) all = joined_step e x line xs false (le-ltb x.0 e.0 all.0)

  all_at : (P : ℕ × T → Type 0) (e : ℕ × T) (es early : List (ℕ × T)) → AllByRecursion P (e ∷ es) → AllByRecursion P early → ((xs : List (ℕ × T)) → AllByRecursion P xs → AllByRecursion P (joined es xs)) → AllByRecursion P (joined (e ∷ es) early)
  all_at P e es [] line early rest = line
  all_at P e es (x ∷ xs) line early rest = by_case (nat_lt x.0 e.0) (all_at P e es xs line early.1 rest)
    where
      by_case : (b : Bool) → AllByRecursion P (joined (e ∷ es) xs) → AllByRecursion P (if b then x ∷ joined (e ∷ es) xs else e ∷ joined es (x ∷ xs))
      by_case true more = (early.0, more)
      by_case false more = (line.0, rest (x ∷ xs) early)

  pub all_joined : (P : ℕ × T → Type 0) (line early : List (ℕ × T)) → AllByRecursion P line → AllByRecursion P early → AllByRecursion P (joined line early)
  all_joined P [] early here there = there
  all_joined P (e ∷ es) early here there = all_at P e es early here there (λ xs all. all_joined P es xs here.1 all)

  count_at : (e : ℕ × T) (es early : List (ℕ × T)) → ((xs : List (ℕ × T)) → length (joined es xs) ≡ length es + length xs) → length (joined (e ∷ es) early) ≡ length (e ∷ es) + length early
  count_at e es [] rest = omega arith
  count_at e es (x ∷ xs) rest = by_case (nat_lt x.0 e.0) (count_at e es xs rest)
    where
      by_case : (b : Bool) → length (joined (e ∷ es) xs) ≡ length (e ∷ es) + length xs → length (if b then x ∷ joined (e ∷ es) xs else e ∷ joined es (x ∷ xs)) ≡ length (e ∷ es) + length (x ∷ xs)
      by_case true more = omega (arith, more)
      by_case false more = (let less = rest (x ∷ xs) in omega (arith, less))

  pub count_joined : (line early : List (ℕ × T)) → length (joined line early) ≡ length line + length early
  count_joined [] early = omega arith
  count_joined (e ∷ es) early = count_at e es early (λ xs. count_joined es xs)

  -- one more that is early
  notified_at : (e : ℕ × T) (es early : List (ℕ × T)) (item : T) (at : ℕ) → ((xs : List (ℕ × T)) → notified (joined es xs) item at ≡ joined es (notified xs item at)) → notified (joined (e ∷ es) early) item at ≡ joined (e ∷ es) (notified early item at)
  notified_at e es [] item at rest =
      notified_next e es item at ∙ ap (λ l. if nat_lt at e.0 then (at, item) ∷ e ∷ es else e ∷ l) (ap (λ l. notified l item at) (sym (joined_none es)) ∙ rest [])
  notified_at e es (x ∷ xs) item at rest =
      by_case (nat_lt x.0 e.0) refl (nat_lt at x.0) refl (nat_lt at e.0) refl (notified_at e es xs item at rest) ∙ ap (joined (e ∷ es)) (sym (notified_next x xs item at))
    where
      w : ℕ × T
      w = (at, item)

      by_case : (b : Bool) → nat_lt x.0 e.0 ≡ b → (c : Bool) → nat_lt at x.0 ≡ c → (d : Bool) → nat_lt at e.0 ≡ d → notified (joined (e ∷ es) xs) item at ≡ joined (e ∷ es) (notified xs item at)
          → notified (joined (e ∷ es) (x ∷ xs)) item at ≡ joined (e ∷ es) (if c then (at, item) ∷ x ∷ xs else x ∷ notified xs item at)
      by_case true eb true ec d ed more =
          let below : at < e.0 = (let lt = ltb-true at x.0 ec in let over = ltb-true x.0 e.0 eb in omega (arith, lt, over)) in
          ap (λ l. notified l item at) (joined_step e x es xs true eb) ∙ notified_step x (joined (e ∷ es) xs) item at true ec
          ∙ sym (joined_step e w es (x ∷ xs) true (lt-ltb at e.0 below) ∙ ap (λ l. w ∷ l) (joined_step e x es xs true eb))
      by_case true eb false ec d ed more =
          ap (λ l. notified l item at) (joined_step e x es xs true eb) ∙ notified_step x (joined (e ∷ es) xs) item at false ec ∙ ap (λ l. x ∷ l) more ∙ sym (joined_step e x es (notified xs item at) true eb)
      by_case false eb true ec true ed more =
          ap (λ l. notified l item at) (joined_step e x es xs false eb) ∙ notified_step e (joined es (x ∷ xs)) item at true ed
          ∙ sym (joined_step e w es (x ∷ xs) true ed ∙ ap (λ l. w ∷ l) (joined_step e x es xs false eb))
      by_case false eb true ec false ed more =
          ap (λ l. notified l item at) (joined_step e x es xs false eb) ∙ notified_step e (joined es (x ∷ xs)) item at false ed
          ∙ ap (λ l. e ∷ l) (rest (x ∷ xs) ∙ ap (joined es) (notified_step x xs item at true ec)) ∙ sym (joined_step e w es (x ∷ xs) false ed)
      by_case false eb false ec d ed more =
          let past : e.0 ≤ at = (let le = ltb-false at x.0 ec in let under = ltb-false x.0 e.0 eb in omega (arith, le, under)) in
          ap (λ l. notified l item at) (joined_step e x es xs false eb) ∙ notified_step e (joined es (x ∷ xs)) item at false (le-ltb at e.0 past)
          ∙ ap (λ l. e ∷ l) (rest (x ∷ xs) ∙ ap (joined es) (notified_step x xs item at false ec)) ∙ sym (joined_step e x es (notified xs item at) false eb)

  pub notified_joined : (line early : List (ℕ × T)) (item : T) (at : ℕ) → notified (joined line early) item at ≡ joined line (notified early item at)
  notified_joined [] early item at = refl
  notified_joined (e ∷ es) early item at = notified_at e es early item at (λ xs. notified_joined es xs item at)

  -- one more that comes last of all
  last_at : (e w : ℕ × T) (es early : List (ℕ × T)) → AllByRecursion (λ x. x.0 < w.0) early → ((xs : List (ℕ × T)) → AllByRecursion (λ x. x.0 < w.0) xs → joined (es ++ w ∷ []) xs ≡ joined es xs ++ w ∷ []) → joined (e ∷ es ++ w ∷ []) early ≡ joined (e ∷ es) early ++ w ∷ []
  last_at e w es [] all rest = refl
  last_at e w es (x ∷ xs) all rest = by_case (nat_lt x.0 e.0) (last_at e w es xs all.1 rest)
    where
      by_case : (b : Bool) → joined (e ∷ es ++ w ∷ []) xs ≡ joined (e ∷ es) xs ++ w ∷ []
          → (if b then x ∷ joined (e ∷ es ++ w ∷ []) xs else e ∷ joined (es ++ w ∷ []) (x ∷ xs)) ≡ (if b then x ∷ joined (e ∷ es) xs else e ∷ joined es (x ∷ xs)) ++ w ∷ []
      by_case true more = ap (λ l. x ∷ l) more
      by_case false more = ap (λ l. e ∷ l) (rest (x ∷ xs) all)

  last_alone : (w : ℕ × T) (early : List (ℕ × T)) → AllByRecursion (λ x. x.0 < w.0) early → joined (w ∷ []) early ≡ early ++ w ∷ []
  last_alone w [] all = refl
  last_alone w (x ∷ xs) all = joined_step w x [] xs true (lt-ltb x.0 w.0 all.0) ∙ ap (λ l. x ∷ l) (last_alone w xs all.1)

  joined_last : (line early : List (ℕ × T)) (w : ℕ × T) → AllByRecursion (λ x. x.0 < w.0) early → joined (line ++ w ∷ []) early ≡ joined line early ++ w ∷ []
  joined_last [] early w all = last_alone w early all
  joined_last (e ∷ es) early w all = last_at e w es early all (λ xs each. joined_last es xs w each)

  -- none of a line is later than its last
  no_later : (time : ℕ) (line : List (ℕ × T)) → AllByRecursion (λ e. time ≤ e.0) line → Ascends line → (time ≤ last_or time line) × AllByRecursion (λ e. e.0 ≤ last_or time line) line
  no_later time [] from ascends = (omega arith, tt)
  no_later time (e ∷ es) from ascends = let rest = no_later e.0 es ascends.0 ascends.1 in (omega (arith, rest.0, from.0), rest)

  up_to_last : (line : List (ℕ × T)) → Ascends line → AllByRecursion (λ e. e.0 ≤ last_time line) line
  up_to_last line ascends = (no_later 0 line (from_none line) ascends).1
    where
      from_none : (es : List (ℕ × T)) → AllByRecursion (λ (e : ℕ × T). 0 ≤ e.0) es
      from_none [] = tt
      from_none (e ∷ es) = (omega arith, from_none es)

  last_more : (time : ℕ) (line : List (ℕ × T)) (w : ℕ × T) → last_or time (line ++ w ∷ []) ≡ w.0
  last_more time [] w = refl
  last_more time (e ∷ es) w = last_more e.0 es w

  ascends_more : (line : List (ℕ × T)) (w : ℕ × T) → Ascends line → AllByRecursion (λ e. e.0 ≤ w.0) line → Ascends (line ++ w ∷ [])
  ascends_more [] w ascends all = (tt, tt)
  ascends_more (e ∷ es) w ascends all = (all_more es ascends.0, ascends_more es w ascends.1 all.1)
    where
      all_more : (xs : List (ℕ × T)) → AllByRecursion (λ (f : ℕ × T). e.0 ≤ f.0) xs → AllByRecursion (λ (f : ℕ × T). e.0 ≤ f.0) (xs ++ w ∷ [])
      all_more [] each = (all.0, tt)
      all_more (x ∷ xs) each = (each.0, all_more xs each.1)

  last_is : (e : ℕ × T) (es : List (ℕ × T)) (d : ℕ × T) → (get_or (e ∷ es) (length es) d).0 ≡ last_or e.0 es
  last_is e [] d = refl
  last_is e (f ∷ fs) d = last_is f fs d

  -- what is read at the end of a line has its last time
  pub back_is : (line : List (ℕ × T)) (n : ℕ) (last : ℕ × T) → n ≡ length line → 0 < n → last ≡ get_or line (n - 1) last → last.0 ≡ last_time line
  back_is [] n last is some at = absurd (omega (arith, is, some))
  back_is (e ∷ es) n last is some at = let place : n - 1 ≡ length es = omega (arith, is) in ap (λ (x : ℕ × T). x.0) (at ∙ ap (λ k. get_or (e ∷ es) k last) place) ∙ last_is e es last

  -- none of a line is earlier than its first
  pub from_first : (time : ℕ) (line : List (ℕ × T)) → Some time ≡ first_time line → Ascends line → AllByRecursion (λ e. time ≤ e.0) line
  from_first time [] is ascends = absurd (none-some time (sym is))
  from_first time (e ∷ es) is ascends =
      let same : time ≡ e.0 = same_Some time e.0 is in
      (omega (arith, same), weaker (λ f. e.0 ≤ f.0) (λ f. time ≤ f.0) (λ f le. omega (arith, le, same)) es ascends.0)

  -- a line with one more, which is no earlier than its last
  pub line_more : (line early : List (ℕ × T)) (item : T) (at : ℕ) → AreSplit line early → last_time line ≤ at → AreSplit (line ++ (at, item) ∷ []) early
  line_more line early item at is late = record {
    ascends = ascends_more line (at, item) is.ascends (weaker (λ e. e.0 ≤ last_time line) (λ e. e.0 ≤ at) (λ e le. omega (arith, le, late)) line (up_to_last line is.ascends));
    before = subst (λ t. AllByRecursion (λ (e : ℕ × T). e.0 < t) early) (sym (last_more 0 line (at, item))) (weaker (λ e. e.0 < last_time line) (λ e. e.0 < at) (λ e lt. omega (arith, lt, late)) early is.before);
  }

  pub joined_more : (line early : List (ℕ × T)) (item : T) (at : ℕ) → AreSplit line early → last_time line ≤ at → joined (line ++ (at, item) ∷ []) early ≡ notified (joined line early) item at
  joined_more line early item at is late =
      joined_last line early (at, item) (weaker (λ e. e.0 < last_time line) (λ e. e.0 < at) (λ e lt. omega (arith, lt, late)) early is.before)
      ∙ sym (notified_last (joined line early) item at (all_joined (λ e. e.0 ≤ at) line early (weaker (λ e. e.0 ≤ last_time line) (λ e. e.0 ≤ at) (λ e le. omega (arith, le, late)) line (up_to_last line is.ascends)) (weaker (λ e. e.0 < last_time line) (λ e. e.0 ≤ at) (λ e lt. omega (arith, lt, late)) early is.before)))

  -- one more is early
  pub early_more : (line early : List (ℕ × T)) (item : T) (at : ℕ) → AreSplit line early → at < last_time line → AreSplit line (notified early item at)
  early_more line early item at is below = record { ascends = is.ascends; before = all_notified (λ e. e.0 < last_time line) early item at below is.before }

  -- the first of what is early is given
  pub first_early : (line old rest : List (ℕ × T)) (x : ℕ × T) (time : ℕ) → old ≡ x ∷ rest → Some time ≡ first_time old → AllByRecursion (λ e. time < e.0) line → joined line old ≡ x ∷ joined line rest
  first_early line old rest x time is first all = ap (joined line) is ∙ joined_early x line rest (subst (λ t. AllByRecursion (λ (e : ℕ × T). t < e.0) line) (time_is time x old rest first is) all)

  pub early_on : (line old rest : List (ℕ × T)) (x : ℕ × T) → old ≡ x ∷ rest → AreSplit line old → AreSplit line rest
  early_on line old rest x is kept = record { ascends = kept.ascends; before = (subst (AllByRecursion (λ (e : ℕ × T). e.0 < last_time line)) is kept.before).1 }

  -- the first of the line is given
  pub first_late : (old rest early : List (ℕ × T)) (e : ℕ × T) (time : ℕ) → old ≡ e ∷ rest → Some time ≡ first_time old → AllByRecursion (λ x. time ≤ x.0) early → joined old early ≡ e ∷ joined rest early
  first_late old rest early e time is first all = ap (λ l. joined l early) is ∙ joined_late e rest early (subst (λ t. AllByRecursion (λ (x : ℕ × T). t ≤ x.0) early) (time_is time e old rest first is) all)

  pub line_on : (old rest early : List (ℕ × T)) (e : ℕ × T) (time : ℕ) → old ≡ e ∷ rest → Some time ≡ first_time old → AllByRecursion (λ x. time ≤ x.0) early → AreSplit old early → AreSplit rest early
  line_on old rest early e time is first late kept =
      let was : AreSplit (e ∷ rest) early = subst (λ l. AreSplit l early) is kept in
      record { ascends = was.ascends.1; before = still rest early was.before (subst (λ t. AllByRecursion (λ (x : ℕ × T). t ≤ x.0) early) (time_is time e old rest first is) late) }
    where
      still : (es xs : List (ℕ × T)) → AllByRecursion (λ (x : ℕ × T). x.0 < last_or e.0 es) xs → AllByRecursion (λ (x : ℕ × T). e.0 ≤ x.0) xs → AllByRecursion (λ (x : ℕ × T). x.0 < last_time es) xs
      still [] [] below late = tt
      still [] (x ∷ xs) below late = absurd (omega (arith, below.0, late.0))
      still (f ∷ fs) xs below late = below

  -- what was given, where its time is the first
  pub is_due : (now time : ℕ) (e : ℕ × T) (es rest : List (ℕ × T)) → Some time ≡ first_time es → es ≡ e ∷ rest → (now < time → ⊥) → e.0 ≤ now
  is_due now time e es rest first is late = let same = time_is time e es rest first is in omega (arith, same, late)

  pub is_least : (time : ℕ) (e : ℕ × T) (es rest : List (ℕ × T)) → Some time ≡ first_time es → es ≡ e ∷ rest → All (λ f. time ≤ f.0) es → All (λ f. e.0 ≤ f.0) es
  is_least time e es rest first is all = subst (λ t. All (λ (f : ℕ × T). t ≤ f.0) es) (time_is time e es rest first is) all

  -- nothing waits
  pub no_line : (line early : List (ℕ × T)) → line ≡ [] → early ≡ [] → AreSplit line early
  no_line [] [] none nor = record { ascends = tt; before = tt }
  no_line [] (x ∷ xs) none nor = absurd (filled x xs nor)
  no_line (e ∷ es) early none nor = absurd (filled e es none)

  -- nothing is early where the line is empty
  pub no_first : (line : List (ℕ × T)) → None ≡ first_time line → line ≡ []
  no_first [] is = refl
  no_first (e ∷ es) is = absurd (none-some e.0 is)

  none_early : (early : List (ℕ × T)) → AreSplit [] early → early ≡ []
  none_early [] is = refl
  none_early (x ∷ xs) is = (let below = is.before.0 in absurd (omega (arith, below)))

  pub none_joined : (line early : List (ℕ × T)) → AreSplit line early → line ≡ [] → joined line early ≡ []
  none_joined [] early is none = none_early early is
  none_joined (e ∷ es) early is none = absurd (filled e es none)

  pub empty_by_line : (line early : List (ℕ × T)) (n : ℕ) (b : Bool) → n ≡ length line → b ≡ (n == 0) → AreSplit line early → (b ≡ true → joined line early ≡ []) × (joined line early ≡ [] → b ≡ true)
  empty_by_line [] early n b is test kept = (λ e. none_early early kept, λ none. test ∙ eq-eqb n 0 is)
  empty_by_line (e ∷ es) early n b is test kept = (
    λ same. (let none = eqb-true n 0 (sym test ∙ same) in absurd (omega (arith, none, is))),
    λ none. absurd (omega (arith, count_joined (e ∷ es) early, ap length none)),
  )
