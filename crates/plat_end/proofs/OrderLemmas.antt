-- Logs that are the parts of one history make it, in the order of their entries' positions.
use Rattle.std.proofs.Common.{◌≡◌, ◌⊎◌, ℕ, zero, suc, ◌+◌, ◌<◌, ◌≤◌, Bool, true, false, cond, nat_lt, List, [], ◌∷◌, ◌++◌, Some, refl, ap, sym, subst, inl, inr, ⊎_elim, arith}
use Rattle.std.specs.Prelude.{slice_get}
use Rattle.std.proofs.lemmas.Bool.Decides.{nat_tests}
use mathlib.Core.Option.{some}
use Rattle.view_lists.specs.Lists.{Has, Within}
use Rattle.view_lists.proofs.Members.{has_either, has_later, has_left, has_none, has_right}
use Rattle.view_lists.proofs.Places.{at_once}
use Rattle.tlm_types.specs.declared.entry.Entry.{Entry}
use Rattle.tlm_model.specs.History.{IsNumberedFrom}
use Rattle.good_history.specs.Counting.{IsRising}
use Rattle.good_history.proofs.CountLemmas.{has_first, rising_same}
use Rattle.run_outcome.specs.Merge.{by_position, entries_in, merged, put_in}
use Rattle.dmi_grants.specs.Known.{position_of}

-- numbered entries rise
pub rising_from : (n : ℕ) (h : List Entry) → IsNumberedFrom n h → IsRising position_of h × ((e : Entry) → Has h e → n ≤ e.position)
rising_from n [] numbered = (tt, λ e has. absurd (has_none e has))
rising_from n (x ∷ h) numbered =
    let rest = rising_from (n + 1) h numbered.1 in
    let here = numbered.0 in (
      (λ e has. let after = rest.1 e has in omega arith, rest.0),
      λ e has. at_or_after e has rest.1,
    )
  where
    at_or_after : (e : Entry) → Has (x ∷ h) e → ((y : Entry) → Has h y → n + 1 ≤ y.position) → n ≤ e.position
    at_or_after e (zero, is) after = let same : x ≡ e = at_once (x ∷ h) 0 x e refl is in let q = ap position_of same in let here = numbered.0 in omega arith
    at_or_after e (suc k, is) after = let late = after e (k, is) in omega arith

-- no two entries have one position
AreApart : List Entry → Type 0
AreApart [] = Unit {0}
AreApart (x ∷ xs) = ((y : Entry) → Has xs y → y.position ≡ x.position → ⊥) × AreApart xs

after_test : (a b : ℕ) → nat_lt a b ≡ true → a < b
after_test a b is = grind (arith, nat_tests)

not_after : (a b : ℕ) → nat_lt a b ≡ false → b ≤ a
not_after a b is = grind (arith, nat_tests)

has_put : (e : Entry) (s : List Entry) (y : Entry) → (e ≡ y) ⊎ Has s y → Has (put_in e s) y
has_put e [] y (inl same) = (0, ap some same)
has_put e [] y (inr has) = absurd (has_none y has)
has_put e (x ∷ s) y which = by_test (nat_lt e.position x.position) which (λ more. has_put e s y more)
  where
    by_test : (b : Bool) → (e ≡ y) ⊎ Has (x ∷ s) y → ((e ≡ y) ⊎ Has s y → Has (put_in e s) y) → Has (cond b (e ∷ x ∷ s) (x ∷ put_in e s)) y
    by_test true (inl same) rest = (0, ap some same)
    by_test true (inr has) rest = has_later e (x ∷ s) y has
    by_test false (inl same) rest = has_later x (put_in e s) y (rest (inl same))
    by_test false (inr has) rest =
        ⊎_elim
        (λ (first : x ≡ y). (0, ap some first))
        (λ (other : Has s y). has_later x (put_in e s) y (rest (inr other)))
        (has_first x s y has)

put_has : (e : Entry) (s : List Entry) (y : Entry) → Has (put_in e s) y → (e ≡ y) ⊎ Has s y
put_has e [] y has = has_first e [] y has
put_has e (x ∷ s) y has = by_test (nat_lt e.position x.position) has (λ more. put_has e s y more)
  where
    by_test : (b : Bool) → Has (cond b (e ∷ x ∷ s) (x ∷ put_in e s)) y → (Has (put_in e s) y → (e ≡ y) ⊎ Has s y) → (e ≡ y) ⊎ Has (x ∷ s) y
    by_test true has rest = has_first e (x ∷ s) y has
    by_test false has rest =
        ⊎_elim
        (λ (first : x ≡ y). inr (0, ap some first))
        (λ (other : Has (put_in e s) y). ⊎_elim (λ (same : e ≡ y). inl same) (λ (later : Has s y). inr (has_later x s y later)) (rest other))
        (has_first x (put_in e s) y has)

put_rising : (e : Entry) (s : List Entry) → IsRising position_of s → ((y : Entry) → Has s y → y.position ≡ e.position → ⊥) → IsRising position_of (put_in e s)
put_rising e [] rising apart = (λ y has. absurd (has_none y has), tt)
put_rising e (x ∷ s) rising apart = by_test (nat_lt e.position x.position) refl (put_rising e s rising.1 (λ y has. apart y (has_later x s y has)))
  where
    by_test : (b : Bool) → nat_lt e.position x.position ≡ b → IsRising position_of (put_in e s) → IsRising position_of (cond b (e ∷ x ∷ s) (x ∷ put_in e s))
    by_test true is rest =
        let before = after_test e.position x.position is in (
          λ y has. ⊎_elim
              (λ (first : x ≡ y). subst (λ (z : Entry). e.position < z.position) first before)
              (λ (other : Has s y). let late = rising.0 y other in omega arith)
              (has_first x s y has),
          rising,
        )
    by_test false is rest =
        let after = not_after e.position x.position is in
        let other = apart x (0, refl) in (
          λ y has. ⊎_elim
              (λ (same : e ≡ y). subst (λ (z : Entry). x.position < z.position) same (strictly x.position e.position after other))
              (λ (later : Has s y). rising.0 y later)
              (put_has e s y has),
          rest,
        )
      where
        strictly : (a b : ℕ) → a ≤ b → (a ≡ b → ⊥) → a < b
        strictly a b below apart = omega (arith, apart)

has_ordered : (es : List Entry) (y : Entry) → Has es y → Has (by_position es) y
has_ordered [] y has = has
has_ordered (x ∷ es) y has =
    has_put x (by_position es) y (⊎_elim (λ (first : x ≡ y). inl first) (λ (other : Has es y). inr (has_ordered es y other)) (has_first x es y has))

ordered_has : (es : List Entry) (y : Entry) → Has (by_position es) y → Has es y
ordered_has [] y has = has
ordered_has (x ∷ es) y has =
    ⊎_elim (λ (first : x ≡ y). (0, ap some first)) (λ (other : Has (by_position es) y). has_later x es y (ordered_has es y other)) (put_has x (by_position es) y has)

ordered_rises : (es : List Entry) → AreApart es → IsRising position_of (by_position es)
unfolding AreApart
ordered_rises [] apart = tt
ordered_rises (x ∷ es) apart = put_rising x (by_position es) (ordered_rises es apart.1) (λ y has. apart.0 y (ordered_has es y has))

apart_append : (a b : List Entry) → AreApart a → AreApart b → ((x y : Entry) → Has a x → Has b y → y.position ≡ x.position → ⊥) → AreApart (a ++ b)
unfolding AreApart
apart_append [] b first second apart = second
apart_append (x ∷ a) b first second apart = (
  λ y has same. ⊎_elim (λ (l : Has a y). first.0 y l same) (λ (r : Has b y). apart x y (0, refl) r same) (has_either a b y has),
  apart_append a b first.1 second (λ z y l r same. apart z y (has_later x a z l) r same),
)

rising_apart : (a : List Entry) → IsRising position_of a → AreApart a
unfolding AreApart
rising_apart [] rising = tt
rising_apart (x ∷ a) rising = (λ y has same. let late = rising.0 y has in omega arith, rising_apart a rising.1)

-- an entry of the logs from number n on stands in one of them
record IsLogged (n : ℕ) (logs : List (List Entry)) (e : Entry) : Type 0 where
  pub number : ℕ
  pub log : List Entry
  pub at : slice_get logs number ≡ Some log
  pub has : Has log e

logged_in : (n : ℕ) (logs : List (List Entry)) (e : Entry) → Has (entries_in logs) e → IsLogged n logs e
logged_in n [] e has = absurd (has_none e has)
logged_in n (log ∷ logs) e has =
    ⊎_elim
    (λ (here : Has log e). record { number = 0; log = log; at = refl; has = here })
    (λ (later : Has (entries_in logs) e). let found = logged_in n logs e later in record { number = suc found.number; log = found.log; at = found.at; has = found.has })
    (has_either log (entries_in logs) e has)

in_logs : (logs : List (List Entry)) (k : ℕ) (log : List Entry) (e : Entry) → slice_get logs k ≡ Some log → Has log e → Has (entries_in logs) e
in_logs [] k log e at has = cc
in_logs (first ∷ logs) zero log e at has = let same : first ≡ log = cc in has_left first (entries_in logs) e (subst (λ (l : List Entry). Has l e) (sym same) has)
in_logs (first ∷ logs) (suc k) log e at has = has_right first (entries_in logs) e (in_logs logs k log e at has)

logs_apart : (logs : List (List Entry)) → ((k : ℕ) (log : List Entry) → slice_get logs k ≡ Some log → IsRising position_of log)
    → ((j k : ℕ) (a b : List Entry) (x y : Entry) → slice_get logs j ≡ Some a → slice_get logs k ≡ Some b → Has a x → Has b y → y.position ≡ x.position → j ≡ k)
    → AreApart (entries_in logs)
unfolding AreApart
logs_apart [] rising one = tt
logs_apart (log ∷ logs) rising one =
    apart_append log (entries_in logs) (rising_apart log (rising 0 log refl))
    (logs_apart logs (λ k l at. rising (suc k) l at) (λ j k a b x y left right has_x has_y same. let next = one (suc j) (suc k) a b x y left right has_x has_y same in omega arith))
    (λ x y here later same. let found = logged_in 0 logs y later in let q = one 0 (suc found.number) log found.log x y refl found.at here found.has same in absurd (omega arith))

-- the history whose parts these logs are
pub merged_is : (h : List Entry) (logs : List (List Entry)) → IsRising position_of h
    → ((k : ℕ) (log : List Entry) → slice_get logs k ≡ Some log → IsRising position_of log × Within log h)
    → ((e : Entry) → Has h e → (k : ℕ) × (log : List Entry) × (slice_get logs k ≡ Some log) × Has log e)
    → ((j k : ℕ) (a b : List Entry) (x y : Entry) → slice_get logs j ≡ Some a → slice_get logs k ≡ Some b → Has a x → Has b y → y.position ≡ x.position → j ≡ k)
    → merged logs ≡ h
merged_is h logs rising parts all one =
    rising_same position_of (merged logs) h (ordered_rises (entries_in logs) (logs_apart logs (λ k log at. (parts k log at).0) one)) rising
    (λ e has. let found = logged_in 0 logs e (ordered_has (entries_in logs) e has) in (parts found.number found.log found.at).1 e found.has)
    (λ e has. let found = all e has in has_ordered (entries_in logs) e (in_logs logs found.0 found.1 e found.2 found.3))
