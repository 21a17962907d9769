-- From one operation of a script's pieces to the next.
use Rattle.std.proofs.Common.{◌≡◌, ℕ, zero, suc, ◌+◌, ◌-◌, ◌<◌, ◌≤◌, Bor, List, [], ◌∷◌, ◌++◌, length, get_or, drop, refl, sym, ap, subst, ◌∙◌, arith, add-one, append_assoc, drop-cons, length-drop, inl, inr}
use Rattle.std.specs.Prelude.{Option, Some, None, slice_get}
use Rattle.std.specs.Prelude.{IfSome}
use Rattle.std.specs.List.{AllByRecursion}
use Rattle.std.specs.Option.{option_copied}
use Rattle.traffic_script.specs.Proper.{IsProper}
use Rattle.std.specs.Slice.{IsItemAt}
use Rattle.std.proofs.lemmas.Option.{slice_get_past, slice_get_read}
use Rattle.tlm_model.specs.declared.operation.Operation.{Operation}
use Rattle.traffic_script.specs.declared.piece.Piece.{Piece}
use Rattle.traffic_script.specs.Pieces.{repeated, written_out}
use Rattle.traffic_script.specs.declared.place.ScriptPlace.{ScriptPlace}
use Rattle.traffic_script.specs.Progress.{left_in, left_from, IsWithinFirst, IsWithin, IsReached}
use Rattle.std.proofs.lemmas.Bool.{cases_lt}

-- the piece at a place, and the pieces behind it
pub piece_here : (pieces : List Piece) (i : ℕ) (p : Piece) → i < length pieces → p ≡ get_or pieces i p → drop i pieces ≡ p ∷ drop (i + 1) pieces
piece_here pieces i p h e = rw (add-one, drop-cons pieces i p) (ap (λ q. q ∷ drop (suc i) pieces) (sym e))

-- one round, and the others
repeated_more : (n : ℕ) (ops : List Operation) → 0 < n → repeated n ops ≡ ops ++ repeated (n - 1) ops
repeated_more zero ops h = absurd (omega arith)
repeated_more (suc n) ops h = let e : n ≡ suc n - 1 = omega arith in ap (λ k. ops ++ repeated k ops) e

-- the rest of a list, behind which there is more
drop_one-append : (xs more : List Operation) (i : ℕ) → i < length xs → drop 1 (drop i xs ++ more) ≡ drop (suc i) xs ++ more
drop_one-append [] more i h = absurd (omega arith)
drop_one-append (x ∷ xs) more zero h = refl
drop_one-append (x ∷ xs) more (suc i) h = drop_one-append xs more i (omega arith)

-- nothing is left past the end of a list
drop_past : {X : Type 0} (xs : List X) (n : ℕ) → length xs ≤ n → drop n xs ≡ []
drop_past [] zero h = refl
drop_past [] (suc n) h = refl
drop_past (x ∷ xs) zero h = absurd (omega arith)
drop_past (x ∷ xs) (suc n) h = drop_past xs n (omega arith)

-- all rounds of a piece are left at its first operation
left_in-first : (p : Piece) (pieces : List Piece) → left_in (p.times - 1) 0 (p ∷ pieces) ≡ written_out (p ∷ pieces)
left_in-first p pieces =
    sym (append_assoc p.operations (repeated (p.times - 1) p.operations) (written_out pieces))
    ∙ ap (λ ops. ops ++ written_out pieces) (sym (repeated_more p.times p.operations p.repeated))

pub first_is_left : (pieces : List Piece) (i : ℕ) (p : Piece) → drop i pieces ≡ p ∷ drop (i + 1) pieces → left_in (p.times - 1) 0 (drop i pieces) ≡ written_out (drop i pieces)
first_is_left pieces i p e = rw e (left_in-first p (drop (i + 1) pieces))

-- the next operation of the piece
pub next_in_piece : (pieces : List Piece) (i rounds operation : ℕ) (p : Piece) → drop i pieces ≡ p ∷ drop (i + 1) pieces → operation < length p.operations → left_in rounds (operation + 1) (drop i pieces) ≡ drop 1 (left_in rounds operation (drop i pieces))
next_in_piece pieces i rounds operation p e h =
    rw (e, add-one operation) (sym (drop_one-append p.operations (repeated rounds p.operations ++ written_out (drop (i + 1) pieces)) operation h))

-- the last operation of a round
last_of_round : (p : Piece) (pieces : List Piece) (rounds operation : ℕ) → operation < length p.operations → length p.operations ≤ suc operation → drop 1 (left_in rounds operation (p ∷ pieces)) ≡ repeated rounds p.operations ++ written_out pieces
last_of_round p pieces rounds operation h last =
    let more = repeated rounds p.operations ++ written_out pieces in
    drop_one-append p.operations more operation h ∙ ap (λ ops. ops ++ more) (drop_past p.operations (suc operation) last)

-- the first operation of the next round
pub next_round : (pieces : List Piece) (i rounds operation : ℕ) (p : Piece) → drop i pieces ≡ p ∷ drop (i + 1) pieces → operation < length p.operations → length p.operations ≤ operation + 1 → 0 < rounds → left_in (rounds - 1) 0 (drop i pieces) ≡ drop 1 (left_in rounds operation (drop i pieces))
next_round pieces i rounds operation p e h last some =
    let rest = written_out (drop (i + 1) pieces) in
    rw e (sym (last_of_round p (drop (i + 1) pieces) rounds operation h (omega arith) ∙ ap (λ ops. ops ++ rest) (repeated_more rounds p.operations some) ∙ append_assoc p.operations (repeated (rounds - 1) p.operations) rest))

-- the last round of a piece is done
pub next_piece : (pieces : List Piece) (i rounds operation : ℕ) (p : Piece) → drop i pieces ≡ p ∷ drop (i + 1) pieces → operation < length p.operations → length p.operations ≤ operation + 1 → rounds ≡ 0 → written_out (drop (i + 1) pieces) ≡ drop 1 (left_in rounds operation (drop i pieces))
next_piece pieces i rounds operation p e h last none =
    rw (e, none) (sym (last_of_round p (drop (i + 1) pieces) 0 operation h (omega arith)))

-- what is within a piece
pub within_piece : (pieces : List Piece) (i operation : ℕ) (p : Piece) → drop i pieces ≡ p ∷ drop (i + 1) pieces → IsWithinFirst operation (drop i pieces) → operation < length p.operations
within_piece pieces i operation p e h = rw e at h

-- what `get` finds
pub copied_get : {X : Type 0} (xs : List X) (i : ℕ) (r : Option (Bor X)) → IsItemAt xs i r → option_copied r ≡ slice_get xs i
copied_get xs i None found = sym (slice_get_past xs i found.3)
copied_get xs i (Some x) found = sym (slice_get_read xs (length xs) i x.now refl found.3.0 found.1)

-- the first of what is left of a list, behind which there is more
slice_get-drop : (xs more : List Operation) (i : ℕ) → i < length xs → slice_get (drop i xs ++ more) 0 ≡ slice_get xs i
slice_get-drop [] more i h = absurd (omega arith)
slice_get-drop (x ∷ xs) more zero h = refl
slice_get-drop (x ∷ xs) more (suc i) h = slice_get-drop xs more i (omega arith)

-- the operation at a place
pub first_left : (pieces : List Piece) (i rounds operation : ℕ) (p : Piece) → drop i pieces ≡ p ∷ drop (i + 1) pieces → IsWithinFirst operation (drop i pieces) → slice_get p.operations operation ≡ slice_get (left_in rounds operation (drop i pieces)) 0
first_left pieces i rounds operation p e h =
    rw e (sym (slice_get-drop p.operations (repeated rounds p.operations ++ written_out (drop (i + 1) pieces)) operation (within_piece pieces i operation p e h)))

-- there is none behind the last piece
pub none_left : (pieces : List Piece) (i rounds operation : ℕ) → length pieces ≤ i → slice_get (left_in rounds operation (drop i pieces)) 0 ≡ None
none_left pieces i rounds operation past = rw (drop_past pieces i past) refl

-- the first of what is left is the next of the whole
slice_get-rest : (ops : List Operation) (n : ℕ) → slice_get (drop n ops) 0 ≡ slice_get ops n
slice_get-rest [] zero = refl
slice_get-rest [] (suc n) = refl
slice_get-rest (x ∷ ops) zero = refl
slice_get-rest (x ∷ ops) (suc n) = slice_get-rest ops n

pub next_of_whole : (rest ops : List Operation) (n : ℕ) → rest ≡ drop n ops → slice_get rest 0 ≡ slice_get ops n
next_of_whole rest ops n e = ap (λ (xs : List Operation). slice_get xs 0) e ∙ slice_get-rest ops n

-- one more is done
drop-more : (ops : List Operation) (n : ℕ) → drop 1 (drop n ops) ≡ drop (n + 1) ops
drop-more ops n = rw add-one (by_cases ops n)
  where
    by_cases : (xs : List Operation) (i : ℕ) → drop 1 (drop i xs) ≡ drop (suc i) xs
    by_cases [] zero = refl
    by_cases [] (suc i) = refl
    by_cases (x ∷ xs) zero = refl
    by_cases (x ∷ xs) (suc i) = by_cases xs i

-- a place with something left is in a piece
pub is_there : (pieces : List Piece) (i rounds operation : ℕ) (ops : List Operation) (n : ℕ) → left_in rounds operation (drop i pieces) ≡ drop n ops → n < length ops → i < length pieces
is_there pieces i rounds operation ops n e h =
    elim (cases_lt i (length pieces)) [ inl lt ↦ lt | inr past ↦ absurd (nothing past) ]
  where
    nothing : length pieces ≤ i → ⊥
    nothing past =
        let none : left_in rounds operation (drop i pieces) ≡ [] = rw (drop_past pieces i past) refl in
        let some : length (drop n ops) ≡ 0 = ap length (sym e ∙ none) in
        omega (arith, length-drop n ops)

-- and it is reached after one more operation
pub reached_next : (pieces : List Piece) (at next : ScriptPlace) (count done : ℕ) → IsReached pieces at count done → done < count → IsWithin next pieces → left_from next pieces ≡ drop 1 (left_from at pieces) → IsReached pieces next count (done + 1)
reached_next pieces at next count done r h within rest = record {
  proper = r.proper;
  counted = r.counted;
  within_count = omega arith;
  within = within;
  rest = rest ∙ ap (λ (ops : List Operation). drop 1 ops) r.rest ∙ drop-more (written_out pieces) done;
}

-- each operation of a script is proper
pub proper_at : (ops : List Operation) (n : ℕ) (r : Option (Bor Operation)) → AllByRecursion IsProper ops → option_copied r ≡ slice_get ops n → IfSome r (λ op. IsProper op.now)
proper_at ops n None each e = tt
proper_at [] zero (Some op) each e = cc
proper_at [] (suc n) (Some op) each e = cc
proper_at (x ∷ ops) zero (Some op) each e = subst IsProper (let same : x ≡ op.now = cc in same) each.0
proper_at (x ∷ ops) (suc n) (Some op) each e = proper_at ops n (Some op) each.1 e

pub asked_proper : (pieces : List Piece) (at : ScriptPlace) (count done : ℕ) (r : Option (Bor Operation)) → IsReached pieces at count done → option_copied r ≡ slice_get (written_out pieces) done → IfSome r (λ op. IsProper op.now)
asked_proper pieces at count done r reached e = proper_at (written_out pieces) done r reached.proper.each e
