-- What the target sees of a window, and back.
use Rattle.std.proofs.Common.{◌≡◌, ℕ, suc, ◌+◌, ◌<◌, ◌≤◌, min, max, ◌==◌, false, leb, eqb, List, [], ◌∷◌, length, get_or, Option, None, Some, option_map, option_and_then, IsSomeAnd, count_by, find, refl, sym, ◌∙◌, ap, ap₂, subst, inl, inr, arith}
use Rattle.std.proofs.lemmas.Bool.{cond-true, eq-eqb, eqb-true, ne_eqb, le-leb, leb-true, cases_eq}
use Rattle.std.proofs.lemmas.List.{get_or_default}
use Rattle.addr_router.specs.declared.window.Window.{Window}
use Rattle.addr_router.specs.Windows.{HasOneWindow, IsProper, IsValid, address_of, cut_up, is_within, part_of, seen_at, translated_up}
use Rattle.addr_router.specs.Laws.{DecodesByItsWindow, DecodesInto, HasAddress, HasWindowOfEachRow, UpIsWhatDecodes, UpUndoesDecode}
use Rattle.addr_router.proofs.FindLemmas.{All-found, PassesOnce, cond_from, cond_parts, count_no, count_yes, find_at, find_found, find_only, map_from, map_parts, once_from_count, then_from, then_parts}
use Rattle.addr_router.proofs.FaultLemmas.{within_from, within_parts}

-- the address lies in the window, and its target sees it from first to last
pub record IsSeen (w : Window) (a first last : ℕ) : Type 0 where
  pub low : w.first ≤ a
  pub high : a ≤ w.last
  pub from : first ≤ seen_at w a
  pub to : seen_at w a ≤ last

seen_from_up : (w : Window) (first last a : ℕ) → IsProper w → HasAddress (cut_up w first last) a → IsSeen w a first last
seen_from_up w first last a proper h =
    let low = max first w.base in
    let high = min last (seen_at w w.last) in
    let p = cond_parts (leb low high) (address_of w low, address_of w high) (λ (r : ℕ × ℕ). (r.0 ≤ a) × (a ≤ r.1)) h in
    let meet : low ≤ high = leb-true low high p.0 in
    let from : address_of w low ≤ a = p.1.0 in
    let to : a ≤ address_of w high = p.1.1 in
    record { low = omega arith; high = omega arith; from = omega arith; to = omega arith }

up_from_seen : (w : Window) (first last a : ℕ) → IsProper w → IsSeen w a first last → HasAddress (cut_up w first last) a
up_from_seen w first last a proper h =
    let low = max first w.base in
    let high = min last (seen_at w w.last) in
    let from : address_of w low ≤ a = omega arith in
    let to : a ≤ address_of w high = omega arith in
    cond_from (leb low high) (address_of w low, address_of w high) (λ (r : ℕ × ℕ). (r.0 ≤ a) × (a ≤ r.1)) (le-leb low high (omega arith)) (from, to)

part_of_one : (w : Window) (low high a : ℕ) → low ≤ high → address_of w low ≡ a → address_of w high ≡ a → part_of w low high ≡ Some (a, a)
part_of_one w low high a meet low_is high_is =
    let pair : ℕ → ℕ → Option (ℕ × ℕ) = λ x y. Some (x, y) in
    cond-true (leb low high) (pair (address_of w low) (address_of w high)) None (le-leb low high meet) ∙ ap₂ pair low_is high_is

-- one address goes down and up
up_of_one : (w : Window) (a : ℕ) → IsProper w → w.first ≤ a → a ≤ w.last → cut_up w (seen_at w a) (seen_at w a) ≡ Some (a, a)
up_of_one w a proper inside below =
    part_of_one w (max (seen_at w a) w.base) (min (seen_at w a) (seen_at w w.last)) a (omega arith) (omega arith) (omega arith)

one_window : (rows : List Window) (a : ℕ) → IsValid rows → PassesOnce (λ (w : Window). is_within w a) rows
one_window rows a valid i j d below inside s t = valid.apart i j d below inside a s t

one_port : (rows : List Window) (port : ℕ) → HasOneWindow rows port → PassesOnce (λ (w : Window). w.port == port) rows
one_port rows port one = once_from_count (λ (w : Window). w.port == port) rows (omega arith)

pub decodes_by_its_window : DecodesByItsWindow
decodes_by_its_window rows row d a valid inside has =
    let w = get_or rows row d in
    let found = find_at (λ (v : Window). is_within v a) rows w row (one_window rows a valid) inside (get_or_default rows row w d inside) has in
    ap (option_map (λ (v : Window). (v.port, seen_at v a))) found

pub up_undoes_decode : UpUndoesDecode
up_undoes_decode rows a port seen valid one e =
    let down = map_parts (λ (w : Window). (w.port, seen_at w a)) (find (λ (w : Window). is_within w a) rows) (λ (d : ℕ × ℕ). d ≡ (port, seen)) (subst (λ (o : Option (ℕ × ℕ)). IsSomeAnd o (λ (d : ℕ × ℕ). d ≡ (port, seen))) (sym e) refl) in
    let w : Window = down.0 in
    let found = find_found (λ (w : Window). is_within w a) rows w down.1 in
    let within = within_parts w a found.passes in
    let proper = All-found IsProper (λ (w : Window). is_within w a) rows w valid.each found in
    let port_is : w.port ≡ port = ap (λ (d : ℕ × ℕ). d.0) down.2 in
    let seen_is : seen_at w a ≡ seen = ap (λ (d : ℕ × ℕ). d.1) down.2 in
    let up = find_only (λ (w : Window). w.port == port) (λ (w : Window). is_within w a) rows w (one_port rows port one) found (eq-eqb w.port port port_is) in
    ap (option_and_then (λ (w : Window). cut_up w seen seen)) up ∙ subst (λ (s : ℕ). cut_up w s s ≡ Some (a, a)) seen_is (up_of_one w a proper within.0 within.1)

up_decodes : (rows : List Window) (first last port a : ℕ) → IsValid rows → HasAddress (translated_up rows first last port) a → DecodesInto rows a port first last
up_decodes rows first last port a valid h =
    let up = then_parts (λ (w : Window). cut_up w first last) (find (λ (w : Window). w.port == port) rows) (λ (r : ℕ × ℕ). (r.0 ≤ a) × (a ≤ r.1)) h in
    let w : Window = up.0 in
    let found = find_found (λ (w : Window). w.port == port) rows w up.1 in
    let proper = All-found IsProper (λ (w : Window). w.port == port) rows w valid.each found in
    let seen = seen_from_up w first last a proper up.2 in
    let down = find_only (λ (w : Window). is_within w a) (λ (w : Window). w.port == port) rows w (one_window rows a valid) found (within_from w a seen.low seen.high) in
    map_from (λ (w : Window). (w.port, seen_at w a)) (find (λ (w : Window). is_within w a) rows) (λ (d : ℕ × ℕ). (d.0 ≡ port) × (first ≤ d.1) × (d.1 ≤ last)) w down (eqb-true w.port port found.passes, seen.from, seen.to)

decodes_up : (rows : List Window) (first last port a : ℕ) → IsValid rows → HasOneWindow rows port → DecodesInto rows a port first last → HasAddress (translated_up rows first last port) a
decodes_up rows first last port a valid one h =
    let down = map_parts (λ (w : Window). (w.port, seen_at w a)) (find (λ (w : Window). is_within w a) rows) (λ (d : ℕ × ℕ). (d.0 ≡ port) × (first ≤ d.1) × (d.1 ≤ last)) h in
    let w : Window = down.0 in
    let found = find_found (λ (w : Window). is_within w a) rows w down.1 in
    let proper = All-found IsProper (λ (w : Window). is_within w a) rows w valid.each found in
    let within = within_parts w a found.passes in
    let up = find_only (λ (w : Window). w.port == port) (λ (w : Window). is_within w a) rows w (one_port rows port one) found (eq-eqb w.port port down.2.0) in
    let seen : IsSeen w a first last = record { low = within.0; high = within.1; from = down.2.1; to = down.2.2 } in
    then_from (λ (w : Window). cut_up w first last) (find (λ (w : Window). w.port == port) rows) (λ (r : ℕ × ℕ). (r.0 ≤ a) × (a ≤ r.1)) w up (up_from_seen w first last a proper seen)

pub up_is_what_decodes : UpIsWhatDecodes
up_is_what_decodes rows first last port a valid one = (up_decodes rows first last port a valid, decodes_up rows first last port a valid one)

-- the port of each row is its place, counted from n
abbrev NumberedFrom : ℕ → List Window → Type 0
NumberedFrom n rows = (k : ℕ) (d : Window) → k < length rows → (get_or rows k d).port ≡ n + k

numbered_behind : (n : ℕ) (w : Window) (ws : List Window) → NumberedFrom n (w ∷ ws) → NumberedFrom (suc n) ws
numbered_behind n w ws h k d inside = h (suc k) d (omega arith) ∙ omega arith

numbered_first : (n : ℕ) (w : Window) (ws : List Window) → NumberedFrom n (w ∷ ws) → w.port ≡ n
numbered_first n w ws h = h 0 w (omega arith) ∙ omega arith

no_window : (n port : ℕ) (rows : List Window) → NumberedFrom n rows → port < n → count_by (λ (w : Window). w.port == port) rows ≡ 0
no_window n port [] h below = refl
no_window n port (w ∷ ws) h below =
    let first : w.port ≡ n = numbered_first n w ws h in
    let off : eqb w.port port ≡ false = ne_eqb w.port port (λ same. omega arith) in
    count_no (λ (v : Window). v.port == port) w ws off ∙ no_window (suc n) port ws (numbered_behind n w ws h) (omega arith)

window_from : (n port : ℕ) (rows : List Window) → NumberedFrom n rows → n ≤ port → port < n + length rows → count_by (λ (w : Window). w.port == port) rows ≡ 1
window_from n port [] h low high = absurd (omega arith)
window_from n port (w ∷ ws) h low high =
    let first : w.port ≡ n = numbered_first n w ws h in
    let behind = numbered_behind n w ws h in
    elim (cases_eq w.port port) [
      | inl same ↦ count_yes (λ (v : Window). v.port == port) w ws (eq-eqb w.port port same) ∙ ap (λ (c : ℕ). 1 + c) (no_window (suc n) port ws behind (omega arith))
      | inr other ↦
          let above : n < port = omega arith in
          count_no (λ (v : Window). v.port == port) w ws (ne_eqb w.port port other) ∙ window_from (suc n) port ws behind (omega arith) (omega arith)
    ]

pub each_row_has_its_window : HasWindowOfEachRow
each_row_has_its_window rows port numbered below = window_from 0 port rows (λ k d inside. numbered k d inside ∙ omega arith) (omega arith) (omega arith)
