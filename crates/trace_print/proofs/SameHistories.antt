-- Histories with one report of all their entries are the same.
use Rattle.std.proofs.Common.{◌≡◌, ℕ, ◌<◌, ◌≤◌, ◌^◌, List, [], ◌∷◌, ◌++◌, length, map, ap, refl, arith, codes}
use Rattle.std.specs.Char.{digit_value}
use Rattle.std.specs.Fmt.{decimal}
use Rattle.std.specs.List.{AllByRecursion, flat_map, join_with_byte}
use Rattle.std.specs.Str.Parse.{AllDigits}
use Rattle.std.proofs.lemmas.Fmt.{decimal_is_IsNumeral}
use Rattle.std.proofs.lemmas.List.{append_cancel_left}
use Rattle.tlm_types.specs.declared.entry.Entry.{Entry}
use Rattle.tlm_model.specs.declared.platform.MemoryRow.{MemoryRow}
use Rattle.tlm_model.specs.declared.platform.Platform.{Platform}
use Rattle.tlm_model.specs.History.{Store, last_store}
use Rattle.tlm_model.specs.Plan.{Initiator, Plan, initiators_of}
use Rattle.report_model.specs.Report.{entry_words, initiator_lines, memories_from, object_word, report_lines, report_of, txn_word, what_words}
use Rattle.tlm_model.specs.Text.{line_of}
use Rattle.trace_print.specs.Naming.{HasOwnNames, HasPlainNames, IsTellable, NamesHistories}
use Rattle.trace_print.specs.Told.{text_of}
use Rattle.trace_print.proofs.SameEntries.{names-entries, words-visible}
use Rattle.trace_print.proofs.SplitLemmas.{lines-same}

-- what the first byte is worth as a digit: 10 or more where it is none
abbrev first_digit : List ℕ → ℕ
first_digit [] = 36
first_digit (b ∷ bs) = digit_value b

starts-so : (ds x y z : List ℕ) → 0 < length ds → AllDigits 10 ds → first_digit (((ds ++ x) ++ y) ++ z) < 10
starts-so [] x y z some d = absurd (omega arith)
starts-so (b ∷ bs) x y z some d = d.0

-- the text of entries starts with a digit
starts-with-digit : (p : Platform) (e : Entry) (x : List ℕ) → e.position < 2 ^ 64 → first_digit (line_of (entry_words p e) ++ x) < 10
starts-with-digit p e x small =
    let d = decimal_is_IsNumeral e.position small in
    starts-so (decimal e.position) (32 ∷ join_with_byte 32 (decimal e.time ∷ txn_word p e.txn ∷ object_word p e.object ∷ what_words e.what)) (10 ∷ []) x d.0.0 d.0.1

-- the lines of the same report after its entries
abbrev rest_of : Plan → List Entry → List Initiator → List MemoryRow → Store → List (List (List ℕ))
rest_of p h is ms s = flat_map (initiator_lines p h) is ++ (memories_from 0 ms s ++ ((codes "end" ∷ decimal (length h) ∷ []) ∷ []))

-- their text starts with a letter
starts-with-letter : (p : Plan) (h : List Entry) (is : List Initiator) (ms : List MemoryRow) (s : Store) → 10 ≤ first_digit (text_of (rest_of p h is ms s))
starts-with-letter p h [] [] s = omega arith
starts-with-letter p h [] (m ∷ ms) s = omega arith
starts-with-letter p h (i ∷ is) ms s = omega arith

-- the entries of a text whose rest starts with a letter
same-entries : (p : Platform) → HasPlainNames p → HasOwnNames p → (h g : List Entry) (rest more : List (List (List ℕ))) →
    AllByRecursion (IsTellable p) h → AllByRecursion (IsTellable p) g → 10 ≤ first_digit (text_of rest) → 10 ≤ first_digit (text_of more) →
    text_of (map (entry_words p) h ++ rest) ≡ text_of (map (entry_words p) g ++ more) → h ≡ g
same-entries p names own [] [] rest more t u r s e = refl
same-entries p names own [] (d ∷ g) rest more t u r s e =
    let told = u.0 in
    let first = ap first_digit e in
    let digit = starts-with-digit p d (text_of (map (entry_words p) g ++ more)) told.position in
    absurd (omega (arith, first, digit, r))
same-entries p names own (d ∷ h) [] rest more t u r s e =
    let told = t.0 in
    let first = ap first_digit e in
    let digit = starts-with-digit p d (text_of (map (entry_words p) h ++ rest)) told.position in
    absurd (omega (arith, first, digit, s))
same-entries p names own (d ∷ h) (b ∷ g) rest more t u r s e =
    let split = lines-same (entry_words p d) (entry_words p b) (text_of (map (entry_words p) h ++ rest)) (text_of (map (entry_words p) g ++ more)) (words-visible p names d t.0) (words-visible p names b u.0) e in
    let one = names-entries p names own d b t.0 u.0 split.0 in
    let others = same-entries p names own h g rest more t.1 u.1 r s split.1 in
    λ i. one i ∷ others i

pub names-histories : NamesHistories
unfolding report_of report_lines
names-histories p names own h g t u e =
    let q = p.platform in
    let is = initiators_of p in
    let title = line_of (codes "tlm-report" ∷ codes "1" ∷ []) in
    let rest = rest_of p h is q.memories (last_store q h) in
    let more = rest_of p g is q.memories (last_store q g) in
    same-entries q names own h g rest more t u (starts-with-letter p h is q.memories (last_store q h)) (starts-with-letter p g is q.memories (last_store q g))
    (append_cancel_left title (text_of (map (entry_words q) h ++ rest)) (text_of (map (entry_words q) g ++ more)) e)
