-- The first fault of rows, a row at a time, and that rows without a fault are the valid ones.
use Rattle.std.proofs.Common.{◌≡◌, ℕ, zero, suc, ◌+◌, ◌<◌, ◌≤◌, max, Bool, true, false, cond, ltb, leb, List, [], ◌∷◌, ◌++◌, length, get_or, take, drop, Option, None, Some, option_map, position, refl, sym, ◌∙◌, ap, arith, append_assoc, append-nil, get_or-take, length-take-le}
use Rattle.std.specs.Option.{option_or}
use Rattle.std.proofs.lemmas.Bool.{cond-false, and_parts, and_from, or_parts, or_from, both_ways, false_from_ne_true, leb-true, le-leb, le-ltb, ltb-false}
use Rattle.std.proofs.lemmas.List.{drop_more, take_more}
use Rattle.std.proofs.lemmas.Option.{none-some}
use Rattle.addr_router.specs.declared.window.Window.{Window}
use Rattle.addr_router.specs.declared.window.WindowFault.{WindowFault}
use Rattle.addr_router.specs.declared.window.WindowFault.TheVariants.{Empty, PastEnd, Overlap, Memory}
use Rattle.addr_router.specs.Windows.{AreApart, IsProper, IsValid, fault_at, first_fault, greatest_address, is_overlapping, is_past_end, is_within, overlap_fault, row_fault, seen_at, window_fault}
use Rattle.addr_router.proofs.FindLemmas.{cond_none, option_map_none, option_or_none, position_is_none, position_none}

-- the row at i is tested, and then the rest
first_fault_more : (test : List Window → Window → Option WindowFault) (rows : List Window) (i : ℕ) (d : Window) → i < length rows → first_fault test (take i rows) (drop i rows) ≡ option_or (test (take i rows) (get_or rows i d)) (first_fault test (take (i + 1) rows) (drop (i + 1) rows))
first_fault_more test rows i d inside =
    let split = drop_more rows i d inside in
    let more = take_more rows i d inside in
    rw (split, more) refl

-- the first fault of all rows is that of the row at i, or else of the rows from there on
pub fault_here : (test : List Window → Window → Option WindowFault) (rows : List Window) (i : ℕ) (d : Window) (fault : WindowFault) (all : Option WindowFault) → i < length rows → Some fault ≡ test (take i rows) (get_or rows i d) → first_fault test (take i rows) (drop i rows) ≡ all → Some fault ≡ all
fault_here test rows i d fault all inside e so_far =
    let rest = first_fault test (take (i + 1) rows) (drop (i + 1) rows) in
    ap (λ (o : Option WindowFault). option_or o rest) e ∙ sym (first_fault_more test rows i d inside) ∙ so_far

pub fault_later : (test : List Window → Window → Option WindowFault) (rows : List Window) (i : ℕ) (d : Window) (all : Option WindowFault) → i < length rows → None ≡ test (take i rows) (get_or rows i d) → first_fault test (take i rows) (drop i rows) ≡ all → first_fault test (take (i + 1) rows) (drop (i + 1) rows) ≡ all
fault_later test rows i d all inside e so_far =
    let rest = first_fault test (take (i + 1) rows) (drop (i + 1) rows) in
    ap (λ (o : Option WindowFault). option_or o rest) e ∙ sym (first_fault_more test rows i d inside) ∙ so_far

-- no row has a fault
first_fault_none : (test : List Window → Window → Option WindowFault) (earlier rest : List Window) → first_fault test earlier rest ≡ None → (k : ℕ) (d : Window) → k < length rest → test (earlier ++ take k rest) (get_or rest k d) ≡ None
first_fault_none test earlier [] e k d inside = absurd (omega arith)
first_fault_none test earlier (w ∷ ws) e zero d inside =
    rw append-nil (option_or_none (test earlier w) (first_fault test (earlier ++ w ∷ []) ws) e).0
first_fault_none test earlier (w ∷ ws) e (suc k) d inside =
    let rest = (option_or_none (test earlier w) (first_fault test (earlier ++ w ∷ []) ws) e).1 in
    rw (append_assoc earlier (w ∷ []) (take k ws)) at (first_fault_none test (earlier ++ w ∷ []) ws rest k d (omega arith))

first_fault_is_none : (test : List Window → Window → Option WindowFault) (earlier rest : List Window) → ((k : ℕ) (d : Window) → k < length rest → test (earlier ++ take k rest) (get_or rest k d) ≡ None) → first_fault test earlier rest ≡ None
first_fault_is_none test earlier [] h = refl
first_fault_is_none test earlier (w ∷ ws) h =
    let first : test earlier w ≡ None = rw append-nil at (h 0 w (omega arith)) in
    let rest = first_fault_is_none test (earlier ++ w ∷ []) ws (λ k d inside. rw (append_assoc earlier (w ∷ []) (take k ws)) (h (suc k) d (omega arith))) in
    ap (λ (o : Option WindowFault). option_or o (first_fault test (earlier ++ w ∷ []) ws)) first ∙ rest

proper_from_none : (row : ℕ) (w : Window) → fault_at row w ≡ None → IsProper w
proper_from_none row w e =
    let p = cond_none (ltb w.last w.first) (Empty row) (cond (is_past_end w) (Some (PastEnd row)) None) e in
    let q = cond_none (is_past_end w) (PastEnd row) None p.1 in
    let r = or_parts (ltb greatest_address w.last) (ltb greatest_address (seen_at w w.last)) q.0 in
    record {
      not_empty = ltb-false w.last w.first p.0;
      last_fits = ltb-false greatest_address w.last r.0;
      seen_fits = ltb-false greatest_address (seen_at w w.last) r.1;
    }

none_from_proper : (row : ℕ) (w : Window) → IsProper w → fault_at row w ≡ None
none_from_proper row w h =
    let full : ltb w.last w.first ≡ false = le-ltb w.last w.first h.not_empty in
    let fits : is_past_end w ≡ false = or_from (ltb greatest_address w.last) (ltb greatest_address (seen_at w w.last)) (le-ltb greatest_address w.last h.last_fits) (le-ltb greatest_address (seen_at w w.last) h.seen_fits) in
    cond-false (ltb w.last w.first) (Some (Empty row)) (cond (is_past_end w) (Some (PastEnd row)) None) full ∙ cond-false (is_past_end w) (Some (PastEnd row)) None fits

pub within_parts : (w : Window) (a : ℕ) → is_within w a ≡ true → (w.first ≤ a) × (a ≤ w.last)
within_parts w a e =
    let p = and_parts (leb w.first a) (leb a w.last) e in
    (leb-true w.first a p.0, leb-true a w.last p.1)

pub within_from : (w : Window) (a : ℕ) → w.first ≤ a → a ≤ w.last → is_within w a ≡ true
within_from w a low high = and_from (leb w.first a) (leb a w.last) (le-leb w.first a low) (le-leb a w.last high)

apart_from_false : (v w : Window) → is_overlapping v w ≡ false → AreApart v w
apart_from_false v w e a s t =
    let p = within_parts v a s in
    let q = within_parts w a t in
    let meet = and_from (leb v.first w.last) (leb w.first v.last) (le-leb v.first w.last (omega arith)) (le-leb w.first v.last (omega arith)) in
    both_ways (is_overlapping v w) e meet

-- windows that overlap have the greater of their first addresses
false_from_apart : (v w : Window) → IsProper v → IsProper w → AreApart v w → is_overlapping v w ≡ false
false_from_apart v w proper_v proper_w apart =
    false_from_ne_true (is_overlapping v w) (λ t.
    let p = and_parts (leb v.first w.last) (leb w.first v.last) t in
    let low : v.first ≤ w.last = leb-true v.first w.last p.0 in
    let high : w.first ≤ v.last = leb-true w.first v.last p.1 in
    let a = max v.first w.first in
    apart a (within_from v a (omega arith) (omega arith)) (within_from w a (omega arith) (omega arith)))

pub valid_from_none : (rows : List Window) → window_fault rows ≡ None → IsValid rows
valid_from_none rows e =
    let parts = option_or_none (first_fault row_fault [] rows) (first_fault overlap_fault [] rows) e in
    record {
      each = λ k d inside. proper_from_none (length (take k rows)) (get_or rows k d) (first_fault_none row_fault [] rows parts.0 k d inside);
      apart = λ i j d below inside.
          let w = get_or rows j d in
          let none = first_fault_none overlap_fault [] rows parts.1 j d inside in
          let place = option_map_none (λ (a : ℕ). Overlap a (length (take j rows))) (position (λ (v : Window). is_overlapping v w) (take j rows)) none in
          let count : length (take j rows) ≡ j = length-take-le j rows (omega arith) in
          let off = position_none (λ (v : Window). is_overlapping v w) (take j rows) place i d (omega arith) in
          let here : get_or (take j rows) i d ≡ get_or rows i d = get_or-take j rows i d below in
          apart_from_false (get_or rows i d) w (rw here at off);
    }

no_overlap : (rows : List Window) → IsValid rows → (j : ℕ) (d : Window) → j < length rows → overlap_fault (take j rows) (get_or rows j d) ≡ None
no_overlap rows h j d inside =
    let w = get_or rows j d in
    let count : length (take j rows) ≡ j = length-take-le j rows (omega arith) in
    let off : (i : ℕ) → i < length (take j rows) → is_overlapping (get_or (take j rows) i d) w ≡ false =
    λ i below.
    let before : i < j = omega arith in
    let here : get_or (take j rows) i d ≡ get_or rows i d = get_or-take j rows i d before in
    rw here (false_from_apart (get_or rows i d) w (h.each i d (omega arith)) (h.each j d inside) (h.apart i j d before inside)) in
    ap (option_map (λ (a : ℕ). Overlap a (length (take j rows)))) (position_is_none (λ (v : Window). is_overlapping v w) (take j rows) d off)

pub none_from_valid : (rows : List Window) → IsValid rows → window_fault rows ≡ None
none_from_valid rows h =
    let alone = first_fault_is_none row_fault [] rows (λ k d inside. none_from_proper (length (take k rows)) (get_or rows k d) (h.each k d inside)) in
    let apart = first_fault_is_none overlap_fault [] rows (no_overlap rows h) in
    ap (λ (o : Option WindowFault). option_or o (first_fault overlap_fault [] rows)) alone ∙ apart

-- no test answers want of memory
not_memory : (o p : Option WindowFault) → (o ≡ Some Memory → ⊥) → (p ≡ Some Memory → ⊥) → option_or o p ≡ Some Memory → ⊥
not_memory None p no_o no_p e = no_p e
not_memory (Some x) p no_o no_p e = no_o e

first_fault_not_memory : (test : List Window → Window → Option WindowFault) → ((earlier : List Window) (w : Window) → test earlier w ≡ Some Memory → ⊥) → (earlier rest : List Window) → first_fault test earlier rest ≡ Some Memory → ⊥
first_fault_not_memory test h earlier [] e = none-some Memory e
first_fault_not_memory test h earlier (w ∷ ws) e =
    not_memory (test earlier w) (first_fault test (earlier ++ w ∷ []) ws) (h earlier w) (first_fault_not_memory test h (earlier ++ w ∷ []) ws) e

tests_not_memory : (a b : Bool) (row : ℕ) → cond a (Some (Empty row)) (cond b (Some (PastEnd row)) None) ≡ Some Memory → ⊥
tests_not_memory true b row e = cc
tests_not_memory false true row e = cc
tests_not_memory false false row e = cc

place_not_memory : (o : Option ℕ) (row : ℕ) → option_map (λ (a : ℕ). Overlap a row) o ≡ Some Memory → ⊥
place_not_memory None row e = cc
place_not_memory (Some a) row e = cc

pub fault_not_memory : (rows : List Window) → window_fault rows ≡ Some Memory → ⊥
fault_not_memory rows e =
    not_memory (first_fault row_fault [] rows) (first_fault overlap_fault [] rows)
    (first_fault_not_memory row_fault (λ earlier w. tests_not_memory (ltb w.last w.first) (is_past_end w) (length earlier)) [] rows)
    (first_fault_not_memory overlap_fault (λ earlier w. place_not_memory (position (λ (v : Window). is_overlapping v w) earlier) (length earlier)) [] rows)
    e

-- valid rows have no fault
pub fault_not_valid : (rows : List Window) (fault : WindowFault) → window_fault rows ≡ Some fault → IsValid rows → ⊥
fault_not_valid rows fault e h = none-some fault (sym (none_from_valid rows h) ∙ e)
