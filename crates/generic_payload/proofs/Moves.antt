-- Laws of what a write puts and a read takes.
use Rattle.std.proofs.Common.{◌≡◌, ℕ, min, zero, suc, ◌+◌, ◌-◌, ◌<◌, ◌≤◌, ◌%◌, Bool, true, false, cond, nat_eq, List, [], ◌∷◌, ◌++◌, length, get_or, set, take, drop, map, sym, refl, ap, ◌∙◌, arith}
use Rattle.std.specs.List.{range_with_len}
use Rattle.std.proofs.Math.Nat.{mod-eq_of_lt, mod-lt, mod-le, add-zero}
use borrow.Rule.Slice.PartMut.{put_mid}
use Rattle.std.proofs.lemmas.List.{set-append_left, set-append_right, length-set, length_push, drop_more, set_at, append_assoc, drop_all, take-append-drop, length-take-le, length-drop, get_or-take, get_or-drop}
use Rattle.tlm_types.specs.declared.entry.Access.{Access}
use Rattle.tlm_types.specs.declared.words.Command.TheVariants.{Read, Write, FetchAdd}
use Rattle.tlm_types.specs.declared.words.Response.TheVariants.{Ok}
use Rattle.tlm_model.specs.Numbers.{added, le_number}
use Rattle.tlm_model.specs.Store.{put_from, taken_from, stored_by, got_by, span_of, is_enabled, place_of}
use Rattle.lane_copy.specs.Lanes.{merged, merged_byte}
use Rattle.lane_copy.proofs.Merged.{merged_from_bytes}
use Rattle.generic_payload.specs.Payload.{PayloadView, access_of, access_from_start, HasPlaces}

-- the payload's access, at a memory that begins with its first place
abbrev pub from_start : PayloadView → Access
from_start p = access_from_start p.bytes p.enables p.width

-- a byte that may be put has its place between xs and zs
put_byte-middle : (test : Bool) (xs ys zs : List ℕ) (first place b : ℕ) → length xs ≡ first → place < length ys → cond test (set (xs ++ (ys ++ zs)) (first + place) b) (xs ++ (ys ++ zs)) ≡ xs ++ (cond test (set ys (0 + place) b) ys ++ zs)
put_byte-middle false xs ys zs first place b begins within = refl
put_byte-middle true xs ys zs first place b begins within =
    let here : first + place - first ≡ place = omega arith in
    let start : 0 + place ≡ place = omega arith in
    set-append_right xs (ys ++ zs) first (first + place) b begins (omega arith) ∙ rw (here, start, set-append_left ys zs place b within) refl

length-put_byte : (test : Bool) (ys : List ℕ) (place b : ℕ) → length (cond test (set ys place b) ys) ≡ length ys
length-put_byte false ys place b = refl
length-put_byte true ys place b = length-set ys place b

-- a write touches its places alone, which lie between xs and zs
pub put_from-middle : (p : PayloadView) (k : ℕ) (bytes xs ys zs : List ℕ) → length xs ≡ p.address → ((j : ℕ) → j < k + length bytes → j % p.width < length ys) → put_from (access_of p) k bytes (xs ++ (ys ++ zs)) ≡ xs ++ (put_from (from_start p) k bytes ys ++ zs)
put_from-middle p k [] xs ys zs begins within = refl
put_from-middle p k (b ∷ bytes) xs ys zs begins within =
    let test = is_enabled (access_of p) k in
    let next = cond test (set ys (0 + k % p.width) b) ys in
    let same : length next ≡ length ys = length-put_byte test ys (0 + k % p.width) b in
    let first_byte = put_byte-middle test xs ys zs p.address (k % p.width) b begins (within k (omega arith)) in
    let later = put_from-middle p (k + 1) bytes xs next zs begins (λ j before. rw same (within j (omega arith))) in
    ap (λ (store : List ℕ). put_from (access_of p) (k + 1) bytes store) first_byte ∙ later

-- a read takes from its places alone
pub taken_from-places : (p : PayloadView) (k : ℕ) (bytes store places : List ℕ) → ((j : ℕ) → j < k + length bytes → get_or store (p.address + j % p.width) 0 ≡ get_or places (0 + j % p.width) 0) → taken_from (access_of p) k bytes store ≡ taken_from (from_start p) k bytes places
taken_from-places p k [] store places same = refl
taken_from-places p k (b ∷ bytes) store places same =
    let first_byte = same k (omega arith) in
    let later = taken_from-places p (k + 1) bytes store places (λ j before. same j (omega arith)) in
    cc

pub length-taken_from : (a : Access) (k : ℕ) (bytes store : List ℕ) → length (taken_from a k bytes store) ≡ length bytes
length-taken_from a k [] store = refl
length-taken_from a k (b ∷ bytes) store = ap suc (length-taken_from a (k + 1) bytes store)

-- byte i of what a read takes from its data byte k on
pub get_or-taken_from : (a : Access) (k : ℕ) (bytes store : List ℕ) (i : ℕ) → i < length bytes → get_or (taken_from a k bytes store) i 0 ≡ cond (is_enabled a (k + i)) (get_or store (place_of a (k + i)) 0) (get_or bytes i 0)
get_or-taken_from a k [] store i within = absurd (omega arith)
get_or-taken_from a k (b ∷ bytes) store zero within = rw add-zero refl
get_or-taken_from a k (b ∷ bytes) store (suc i) within =
    let next : k + suc i ≡ k + 1 + i = omega arith in
    rw next (get_or-taken_from a (k + 1) bytes store i (omega arith))

-- a read that doesn't stream is a masked copy
pub taken_from-merged : (bytes enables places : List ℕ) (width : ℕ) → length bytes ≤ width → taken_from (access_from_start bytes enables width) 0 bytes places ≡ merged bytes places enables
taken_from-merged bytes enables places width plain =
    let a = access_from_start bytes enables width in
    let byte_of : (k : ℕ) → k < length bytes → get_or (taken_from a 0 bytes places) k 0 ≡ merged_byte bytes places enables k =
    λ k within.
    let begin : 0 + k ≡ k = omega arith in
    let place : k % width ≡ k = mod-eq_of_lt (omega arith) in
    let taken = get_or-taken_from a 0 bytes places k within in
    rw (begin, place, begin) at taken in
    merged_from_bytes bytes places enables (taken_from a 0 bytes places) (length-taken_from a 0 bytes places) byte_of

-- a byte that may be put right behind these
put_byte-next : (test : Bool) (front rest : List ℕ) (old new k : ℕ) → length front ≡ k → cond test (set (front ++ old ∷ rest) k new) (front ++ old ∷ rest) ≡ (front ++ cond test new old ∷ []) ++ rest
put_byte-next false front rest old new k at = sym (append_assoc front (old ∷ []) rest)
put_byte-next true front rest old new k at = set_at front old rest new k at ∙ sym (append_assoc front (new ∷ []) rest)

-- of a write that doesn't stream the bytes below k are put, and m are still to be put
put_from-rest : (bytes enables places : List ℕ) (width m k : ℕ) (front : List ℕ) → length bytes ≡ length places → length bytes ≤ width → k + m ≡ length bytes → length front ≡ k → put_from (access_from_start bytes enables width) k (drop k bytes) (front ++ drop k places) ≡ front ++ map (merged_byte places bytes enables) (range_with_len k m)
put_from-rest bytes enables places width zero k front same plain all at = rw (drop_all k bytes (omega arith), drop_all k places (omega arith)) refl
put_from-rest bytes enables places width (suc m) k front same plain all at =
    let a = access_from_start bytes enables width in
    let byte = merged_byte places bytes enables k in
    let place : 0 + k % width ≡ k = rw (mod-eq_of_lt {n = k} {m = width} (omega arith)) (omega arith) in
    let put = put_byte-next (is_enabled a k) front (drop (k + 1) places) (get_or places k 0) (get_or bytes k 0) (0 + k % width) (at ∙ sym place) in
    let later = put_from-rest bytes enables places width m (k + 1) (front ++ byte ∷ []) same plain (omega arith) (rw length_push (omega arith)) in
    ap (λ (rest : List ℕ). put_from a k rest (front ++ drop k places)) (drop_more bytes k 0 (omega arith))
    ∙ ap (λ (rest : List ℕ). put_from a k (get_or bytes k 0 ∷ drop (k + 1) bytes) (front ++ rest)) (drop_more places k 0 (omega arith))
    ∙ ap (λ (store : List ℕ). put_from a (k + 1) (drop (k + 1) bytes) store) put
    ∙ later
    ∙ append_assoc front (byte ∷ []) (map (merged_byte places bytes enables) (range_with_len (k + 1) m))

-- a write that doesn't stream is a masked copy
pub put_from-merged : (bytes enables places : List ℕ) (width : ℕ) → length bytes ≡ length places → length bytes ≤ width → put_from (access_from_start bytes enables width) 0 bytes places ≡ merged places bytes enables
put_from-merged bytes enables places width same plain =
    rw (← same) (put_from-rest bytes enables places width (length bytes) 0 [] same plain (omega arith) refl)

-- a choice by a test whose answer is known
pub chosen-true : (test : Bool) (xs ys zs : List ℕ) → test ≡ true → zs ≡ xs → zs ≡ cond test xs ys
chosen-true test xs ys zs is_true same = rw is_true same

pub chosen-false : (test : Bool) (xs ys zs : List ℕ) → test ≡ false → zs ≡ ys → zs ≡ cond test xs ys
chosen-false test xs ys zs is_false same = rw is_false same

-- data byte k is put, and those after it are still to be put
pub put_from_more : (a : Access) (k : ℕ) (bytes store next : List ℕ) → k < length bytes → next ≡ cond (is_enabled a k) (set store (place_of a k) (get_or bytes k 0)) store → put_from a (k + 1) (drop (k + 1) bytes) next ≡ put_from a k (drop k bytes) store
put_from_more a k bytes store next within put =
    ap (λ (s : List ℕ). put_from a (k + 1) (drop (k + 1) bytes) s) put ∙ sym (ap (λ (rest : List ℕ). put_from a k rest store) (drop_more bytes k 0 within))

-- the span of a valid width
pub span_of-wide : (p : PayloadView) → 0 < p.width → span_of (access_of p) ≡ min (length p.bytes) p.width
span_of-wide p wide = grind arith

-- each data byte has its place in the span
place_within : (k n width : ℕ) → 0 < width → k < n → k % width < min n width
place_within k n width wide before = omega (arith, mod-lt k {m = width} wide, mod-le k width)

-- a read takes from its span alone
taken_from-span : (p : PayloadView) (store : List ℕ) (m : ℕ) → 0 < p.width → m ≡ span_of (access_of p) → taken_from (access_of p) 0 p.bytes store ≡ taken_from (from_start p) 0 p.bytes (take m (drop p.address store))
taken_from-span p store m wide spans =
    taken_from-places p 0 p.bytes store (take m (drop p.address store)) (λ j before.
    let within : j % p.width < m = omega (arith, spans, span_of-wide p wide, place_within j (length p.bytes) p.width wide (omega arith)) in
    let start : 0 + j % p.width ≡ j % p.width = omega arith in
    rw start (sym (get_or-take m (drop p.address store) (j % p.width) 0 within ∙ get_or-drop p.address store (j % p.width) 0)))

-- a write puts to its span alone
put_from-span : (p : PayloadView) (store : List ℕ) (m : ℕ) → HasPlaces (access_of p) (length store) → m ≡ span_of (access_of p) → put_from (access_of p) 0 p.bytes store ≡ take p.address store ++ (put_from (from_start p) 0 p.bytes (take m (drop p.address store)) ++ drop m (drop p.address store))
put_from-span p store m places spans =
    let rest = drop p.address store in
    let split : store ≡ take p.address store ++ (take m rest ++ drop m rest) =
    sym (ap (λ (ys : List ℕ). take p.address store ++ ys) (take-append-drop m rest) ∙ take-append-drop p.address store) in
    let begins : length (take p.address store) ≡ p.address = length-take-le p.address store (omega (arith, places.inside)) in
    let long : length (take m rest) ≡ m = length-take-le m rest (omega (arith, spans, places.inside, length-drop p.address store)) in
    ap (λ (s : List ℕ). put_from (access_of p) 0 p.bytes s) split
    ∙ put_from-middle p 0 p.bytes (take p.address store) (take m rest) (drop m rest) begins (λ j before.
    omega (arith, long, spans, span_of-wide p places.wide, place_within j (length p.bytes) p.width places.wide (omega arith)))

pub length-span : (p : PayloadView) (store : List ℕ) (m : ℕ) → HasPlaces (access_of p) (length store) → m ≡ span_of (access_of p) → length (take m (drop p.address store)) ≡ m
length-span p store m places spans =
    length-take-le m (drop p.address store) (omega (arith, spans, places.inside, length-drop p.address store))

-- a read that streams
pub got_by-streaming : (p : PayloadView) (store : List ℕ) (m : ℕ) → p.command ≡ Read → HasPlaces (access_of p) (length store) → m ≡ span_of (access_of p) → p.width < length p.bytes → taken_from (access_from_start p.bytes p.enables (length (take m (drop p.address store)))) 0 p.bytes (take m (drop p.address store)) ≡ got_by p.command Ok (access_of p) store
got_by-streaming p store m reads places spans streams =
    let long : length (take m (drop p.address store)) ≡ p.width = omega (arith, length-span p store m places spans, spans, span_of-wide p places.wide) in
    rw (reads, long) (sym (taken_from-span p store m places.wide spans))

-- a read that doesn't stream
pub got_by-plain : (p : PayloadView) (store : List ℕ) (m : ℕ) → p.command ≡ Read → HasPlaces (access_of p) (length store) → m ≡ span_of (access_of p) → length p.bytes ≤ p.width → merged p.bytes (take m (drop p.address store)) p.enables ≡ got_by p.command Ok (access_of p) store
got_by-plain p store m reads places spans plain =
    rw reads (sym (taken_from-span p store m places.wide spans ∙ taken_from-merged p.bytes p.enables (take m (drop p.address store)) p.width plain))

-- a write that streams
pub stored_by-streaming : (p : PayloadView) (store : List ℕ) (m : ℕ) → p.command ≡ Write → HasPlaces (access_of p) (length store) → m ≡ span_of (access_of p) → p.width < length p.bytes → put_mid p.address m store (put_from (access_from_start p.bytes p.enables (length (take m (drop p.address store)))) 0 p.bytes (take m (drop p.address store))) ≡ stored_by p.command Ok (access_of p) store
stored_by-streaming p store m writes places spans streams =
    let long : length (take m (drop p.address store)) ≡ p.width = omega (arith, length-span p store m places spans, spans, span_of-wide p places.wide) in
    rw (writes, long) (sym (put_from-span p store m places spans))

-- a write that doesn't stream
pub stored_by-plain : (p : PayloadView) (store : List ℕ) (m : ℕ) → p.command ≡ Write → HasPlaces (access_of p) (length store) → m ≡ span_of (access_of p) → length p.bytes ≤ p.width → put_mid p.address m store (merged (take m (drop p.address store)) p.bytes p.enables) ≡ stored_by p.command Ok (access_of p) store
stored_by-plain p store m writes places spans plain =
    let long : length p.bytes ≡ length (take m (drop p.address store)) = omega (arith, length-span p store m places spans, spans, span_of-wide p places.wide) in
    let copied = put_from-merged p.bytes p.enables (take m (drop p.address store)) p.width long plain in
    rw writes (sym (put_from-span p store m places spans ∙ rw copied refl))

-- a fetch_add finds what a read would get
pub got_by-word : (p : PayloadView) (store : List ℕ) (m : ℕ) → p.command ≡ FetchAdd → HasPlaces (access_of p) (length store) → m ≡ span_of (access_of p) → length p.bytes ≤ p.width → merged p.bytes (take m (drop p.address store)) p.enables ≡ got_by p.command Ok (access_of p) store
got_by-word p store m fetches places spans plain =
    rw fetches (sym (taken_from-span p store m places.wide spans ∙ taken_from-merged p.bytes p.enables (take m (drop p.address store)) p.width plain))

-- a fetch_add puts the sum as a write would
pub stored_by-word : (p : PayloadView) (store : List ℕ) (m : ℕ) → p.command ≡ FetchAdd → HasPlaces (access_of p) (length store) → m ≡ span_of (access_of p) → length p.bytes ≡ 4 → 4 ≤ p.width → put_mid p.address m store (merged (take m (drop p.address store)) (added (merged p.bytes (take m (drop p.address store)) p.enables) (le_number p.bytes)) p.enables) ≡ stored_by p.command Ok (access_of p) store
stored_by-word p store m fetches places spans four plain =
    let found = merged p.bytes (take m (drop p.address store)) p.enables in
    let taken : found ≡ taken_from (access_of p) 0 p.bytes store = sym (taken_from-span p store m places.wide spans ∙ taken_from-merged p.bytes p.enables (take m (drop p.address store)) p.width (omega arith)) in
    let q : PayloadView = record p { command = Write; bytes = added found (le_number p.bytes) } in
    let same : span_of (access_of q) ≡ span_of (access_of p) = ap (λ (n : ℕ). cond (nat_eq p.width 0) n (min n p.width)) (sym four) in
    let put = stored_by-plain q store m refl (record { inside = rw same places.inside; wide = places.wide }) (spans ∙ sym same) plain in
    rw fetches (put ∙ ap (λ (bytes : List ℕ). put_from (access_of p) 0 (added bytes (le_number p.bytes)) store) taken)
