-- The items of a log read the same after bytes were appended, and an access reads as its parts.
use Rattle.std.proofs.Common.{◌≡◌, ℕ, zero, suc, Option, Some, None, ◌+◌, ◌-◌, ◌^◌, ◌<◌, ◌≤◌, List, [], ◌∷◌, ◌++◌, length, drop, slice_range, slice_get, get_or, All, ap, refl, sym, ◌∙◌, arith, append_assoc, length-append}
use Rattle.std.specs.Prelude.{IfSome, option_and_then, option_map}
use Rattle.std.proofs.lemmas.Option.{slice_get-map}
use Rattle.std.proofs.lemmas.List.{map-append, take_at, drop_at, take-append-le, drop-append-le, length-drop, append-nil}
use Rattle.std.proofs.lemmas.List.Elements.{All-cons, All-head, All-nil, All-push, All-tail}
use Rattle.tlm_types.specs.declared.entry.Entry.{Entry}
use Rattle.tlm_types.specs.declared.entry.Facts.{Facts}
use Rattle.tlm_types.specs.declared.entry.Head.{Head}
use Rattle.log_items.specs.declared.brief.BriefEvent.{BriefEvent}
use Rattle.log_items.specs.declared.long.Event.{Event}
use Rattle.log_items.specs.declared.long.Event.TheVariants.{Plain as Simple, Access}
use Rattle.log_items.specs.declared.long.Plain.TheVariants as plains
use Rattle.log_items.specs.declared.long.Span.{Span}
use Rattle.tlm_types.specs.declared.words.Command.{Command}
use Rattle.tlm_types.specs.declared.words.Way.{Way}
use Rattle.tlm_types.specs.declared.words.Command.TheVariants.{Read, Write, Ignore, FetchAdd}
use Rattle.tlm_types.specs.Entries.{access_by, entry_at, facts_of, head_of, kept_of, kept_sent, plain_of, read_at, sent_by}
use Rattle.entry_log.specs.LogBytes.{HasParts, IsLast}
use Rattle.log_items.specs.Items.{FullItem, brief_item, brief_what, bytes_for, what_in, item_entry, entries_of, facts_from, head_in, item_for, placed, plain_in, stored_at, IsKept, IsWithin, IsWord}

-- a part of the bytes is the same after more were appended
pub slice_range-append : (xs ys : List ℕ) (i j : ℕ) → i ≤ j → j ≤ length xs → slice_range (xs ++ ys) i j ≡ slice_range xs i j
slice_range-append xs ys i j ordered inside =
    let below : i ≤ length xs = omega arith in
    let short : j - i ≤ length (drop i xs) = omega (arith, length-drop i xs) in
    rw (drop-append-le i xs ys below) (take-append-le (j - i) (drop i xs) ys short)

-- the part in the middle
pub slice_range-middle : (xs ys zs : List ℕ) (i j : ℕ) → i ≡ length xs → j ≡ i + length ys → slice_range (xs ++ (ys ++ zs)) i j ≡ ys
slice_range-middle xs ys zs i j start end =
    let count : length ys ≡ j - i = omega arith in
    rw (drop_at xs (ys ++ zs) i (sym start)) (take_at ys zs (j - i) count)

pub what_in-append : (bytes more : List ℕ) (start : ℕ) (event : Event) → IsKept (length bytes) start event → what_in (bytes ++ more) start event ≡ what_in bytes start event
what_in-append bytes more start (Simple plain) kept = refl
what_in-append bytes more start (Access a) kept =
    let sent = slice_range-append bytes more start a.enables_start kept.0 (omega arith) in
    let enables = slice_range-append bytes more a.enables_start a.got_start kept.1 (omega arith) in
    let got = slice_range-append bytes more a.got_start a.end kept.2 kept.3 in
    rw (sent, enables, got) refl

what_for-append : (bytes more : List ℕ) (own : Option (List ℕ)) (start : ℕ) (event : Event) → IsKept (length (bytes_for bytes own)) start event → what_in (bytes_for (bytes ++ more) own) start event ≡ what_in (bytes_for bytes own) start event
what_for-append bytes more None start event kept = what_in-append bytes more start event kept
what_for-append bytes more (Some own) start event kept = refl

pub entries_of-append : (bytes more : List ℕ) (items : List FullItem) → All (IsWithin bytes) items → entries_of (bytes ++ more) items ≡ entries_of bytes items
entries_of-append bytes more [] kept = refl
entries_of-append bytes more (item ∷ items) kept =
    let first = what_for-append bytes more item.own item.item.start item.item.event (kept 0 item (omega arith)) in
    let rest = entries_of-append bytes more items (λ k d below. kept (suc k) d (omega arith)) in
    rw (first, rest) refl

-- an access whose bytes were appended last
pub what_in-last : (bytes sent enables got : List ℕ) (f : Facts) (s : Span) → IsLast (length bytes) (length sent) (length enables) (length got) s → what_in (bytes ++ (sent ++ (enables ++ got))) s.start (Access (stored_at f s)) ≡ access_by f sent enables got
what_in-last bytes sent enables got f s last =
    let start = last.start in
    let enables_start = last.enables_start in
    let got_start = last.got_start in
    let first = slice_range-middle bytes sent (enables ++ got) s.start s.enables_start start enables_start in
    let second = slice_range-middle (bytes ++ sent) enables got s.enables_start s.got_start (omega (arith, length-append bytes sent)) got_start in
    let third = slice_range-middle ((bytes ++ sent) ++ enables) got [] s.got_start s.end (omega (arith, length-append bytes sent, length-append (bytes ++ sent) enables)) last.end in
    let two : (bytes ++ sent) ++ (enables ++ got) ≡ bytes ++ (sent ++ (enables ++ got)) = append_assoc bytes sent (enables ++ got) in
    let three : ((bytes ++ sent) ++ enables) ++ (got ++ []) ≡ bytes ++ (sent ++ (enables ++ got)) = rw append-nil (append_assoc (bytes ++ sent) enables got ∙ two) in
    let second' = rw two at second in
    let third' = rw three at third in
    rw (first, second', third') refl

-- the entries after an access whose bytes were appended
pub entries_of-access : (bytes sent enables got : List ℕ) (items : List FullItem) (head : Head) (f : Facts) (s : Span) → All (IsWithin bytes) items → IsLast (length bytes) (length sent) (length enables) (length got) s → entries_of (bytes ++ (sent ++ (enables ++ got))) (items ++ placed (item_for head s.start (Access (stored_at f s))) ∷ []) ≡ entries_of bytes items ++ entry_at head (access_by f sent enables got) ∷ []
entries_of-access bytes sent enables got items head f s kept last =
    let more = sent ++ (enables ++ got) in
    let split = map-append (item_entry (bytes ++ more)) items (placed (item_for head s.start (Access (stored_at f s))) ∷ []) in
    let before = entries_of-append bytes more items kept in
    let pushed = what_in-last bytes sent enables got f s last in
    rw (split, before, pushed) refl

IsKept-more : (m n start : ℕ) (event : Event) → m ≤ n → IsKept m start event → IsKept n start event
IsKept-more m n start (Simple plain) more kept = tt
IsKept-more m n start (Access a) more kept = (kept.0, kept.1, kept.2, omega arith)

IsKept-append : (bytes more : List ℕ) (own : Option (List ℕ)) (start : ℕ) (event : Event) → IsKept (length (bytes_for bytes own)) start event → IsKept (length (bytes_for (bytes ++ more) own)) start event
IsKept-append bytes more None start event kept = IsKept-more (length bytes) (length (bytes ++ more)) start event (omega (arith, length-append bytes more)) kept
IsKept-append bytes more (Some own) start event kept = kept

-- the items after an access whose bytes were appended
pub kept-access : (bytes sent enables got : List ℕ) (items : List FullItem) (head : Head) (f : Facts) (s : Span) → All (IsWithin bytes) items → IsLast (length bytes) (length sent) (length enables) (length got) s → All (IsWithin (bytes ++ (sent ++ (enables ++ got)))) (items ++ placed (item_for head s.start (Access (stored_at f s))) ∷ [])
kept-access bytes sent enables got items head f s kept last =
    let more = sent ++ (enables ++ got) in
    let start = last.start in
    let enables_start = last.enables_start in
    let got_start = last.got_start in
    let end = last.end in
    let all : length (bytes ++ more) ≡ length bytes + (length sent + (length enables + length got)) = simp length-append in
    let before : All (IsWithin (bytes ++ more)) items = λ k d below. IsKept-append bytes more (get_or items k d).own (get_or items k d).item.start (get_or items k d).item.event (kept k d below) in
    All-push (IsWithin (bytes ++ more)) items (placed (item_for head s.start (Access (stored_at f s)))) before (omega arith, omega arith, omega arith, omega arith)

-- the entries after an access whose bytes stood there already
pub entries_of-again : (bytes sent enables got : List ℕ) (items : List FullItem) (head : Head) (f : Facts) (s : Span) → HasParts bytes sent enables got s → entries_of bytes (items ++ placed (item_for head s.start (Access (stored_at f s))) ∷ []) ≡ entries_of bytes items ++ entry_at head (access_by f sent enables got) ∷ []
entries_of-again bytes sent enables got items head f s parts =
    let split = map-append (item_entry bytes) items (placed (item_for head s.start (Access (stored_at f s))) ∷ []) in
    rw (split, parts.sent_is, parts.enables_is, parts.got_is) refl

-- the items after it
pub kept-again : (bytes sent enables got : List ℕ) (items : List FullItem) (head : Head) (f : Facts) (s : Span) → All (IsWithin bytes) items → HasParts bytes sent enables got s → All (IsWithin bytes) (items ++ placed (item_for head s.start (Access (stored_at f s))) ∷ [])
kept-again bytes sent enables got items head f s kept parts =
    let enables_start = parts.placed.enables_start in
    let got_start = parts.placed.got_start in
    let end = parts.placed.end in
    All-push (IsWithin bytes) items (placed (item_for head s.start (Access (stored_at f s)))) kept (omega arith, omega arith, omega arith, parts.within)

kept_sent-sent_by : (command : Command) (way : Way) (n : ℕ) (sent : List ℕ) → (command ≡ Read → sent ≡ []) → kept_sent command (sent_by command way n sent) ≡ sent
kept_sent-sent_by Read way n sent none = sym (none refl)
kept_sent-sent_by Write way n sent none = refl
kept_sent-sent_by Ignore way n sent none = refl
kept_sent-sent_by FetchAdd way n sent none = refl

-- of an access those bytes are kept that were handed in
pub kept_of-access_by : (f : Facts) (sent enables got : List ℕ) → (f.command ≡ Read → sent ≡ []) → kept_of (access_by f sent enables got) ≡ length sent + length enables + length got
kept_of-access_by f sent enables got none = rw (kept_sent-sent_by f.command f.way f.length sent none) refl

-- what is read of an event is what happened, where it is no access
pub plain_of-what_in : (bytes : List ℕ) (start : ℕ) (event : Event) → plain_of (what_in bytes start event) ≡ plain_in event
plain_of-what_in bytes start (Access a) = refl
plain_of-what_in bytes start (Simple (plains.Granted gate kind first last)) = refl
plain_of-what_in bytes start (Simple (plains.Invalidated first last)) = refl
plain_of-what_in bytes start (Simple (plains.Closed gate)) = refl
plain_of-what_in bytes start (Simple (plains.Call phase answer)) = refl
plain_of-what_in bytes start (Simple (plains.Take slot)) = refl
plain_of-what_in bytes start (Simple (plains.Acquire slot)) = refl
plain_of-what_in bytes start (Simple (plains.Release slot freed)) = refl

pub read_at-plain : (bytes : List ℕ) (items : List FullItem) (index : ℕ) → read_at plain_of (entries_of bytes items) index ≡ option_and_then (λ i. plain_in i.item.event) (slice_get items index)
read_at-plain bytes [] index = refl
read_at-plain bytes (item ∷ items) zero = plain_of-what_in (bytes_for bytes item.own) item.item.start item.item.event
read_at-plain bytes (item ∷ items) (suc index) = read_at-plain bytes items index

facts_of-what_in : (bytes : List ℕ) (start : ℕ) (event : Event) → facts_of (what_in bytes start event) ≡ facts_from event
facts_of-what_in bytes start (Access a) = refl
facts_of-what_in bytes start (Simple (plains.Granted gate kind first last)) = refl
facts_of-what_in bytes start (Simple (plains.Invalidated first last)) = refl
facts_of-what_in bytes start (Simple (plains.Closed gate)) = refl
facts_of-what_in bytes start (Simple (plains.Call phase answer)) = refl
facts_of-what_in bytes start (Simple (plains.Take slot)) = refl
facts_of-what_in bytes start (Simple (plains.Acquire slot)) = refl
facts_of-what_in bytes start (Simple (plains.Release slot freed)) = refl

-- the plain parts of an access
pub read_at-facts : (bytes : List ℕ) (items : List FullItem) (index : ℕ) → read_at facts_of (entries_of bytes items) index ≡ option_and_then (λ i. facts_from i.item.event) (slice_get items index)
read_at-facts bytes [] index = refl
read_at-facts bytes (item ∷ items) zero = facts_of-what_in (bytes_for bytes item.own) item.item.start item.item.event
read_at-facts bytes (item ∷ items) (suc index) = read_at-facts bytes items index

-- the heads of entries are those of their items
pub read_head : (bytes : List ℕ) (items : List FullItem) (index : ℕ) → option_map head_of (slice_get (entries_of bytes items) index) ≡ option_map (λ i. head_in i.item) (slice_get items index)
read_head bytes [] index = refl
read_head bytes (item ∷ items) zero = refl
read_head bytes (item ∷ items) (suc index) = read_head bytes items index

-- an entry whose item is brief
pub brief_entry : (bytes : List ℕ) (items : List FullItem) (index : ℕ) (found : Option (Head × BriefEvent)) → IfSome found (λ r. slice_get items index ≡ Some (brief_item r.0 r.1)) →
    IfSome found (λ r. slice_get (entries_of bytes items) index ≡ Some (entry_at r.0 (brief_what r.1)))
brief_entry bytes items index None here = here
brief_entry bytes items index (Some r) here = slice_get-map (item_entry bytes) items index ∙ ap (option_map (item_entry bytes)) here

-- the times of entries are those of their items
pub entries_timed : (bytes : List ℕ) (items : List FullItem) → All (λ (i : FullItem). i.item.time < 2 ^ 64) items → All (λ (e : Entry). e.time < 2 ^ 64) (entries_of bytes items)
entries_timed bytes [] timed = All-nil (λ (e : Entry). e.time < 2 ^ 64)
entries_timed bytes (item ∷ items) timed =
    All-cons (λ (e : Entry). e.time < 2 ^ 64) (item_entry bytes item) (entries_of bytes items) (All-head (λ (i : FullItem). i.item.time < 2 ^ 64) item items timed) (entries_timed bytes items (All-tail (λ (i : FullItem). i.item.time < 2 ^ 64) item items timed))

-- the items after one more
pub timed-more : (items : List FullItem) (head : Head) (start : ℕ) (event : Event) → All (λ (i : FullItem). i.item.time < 2 ^ 64) items → head.time < 2 ^ 64 → All (λ (i : FullItem). i.item.time < 2 ^ 64) (items ++ placed (item_for head start event) ∷ [])
timed-more items head start event timed fits = All-push (λ (i : FullItem). i.item.time < 2 ^ 64) items (placed (item_for head start event)) timed fits

-- an item that has the bytes of its access itself, appended
pub entries_of-word : (bytes sent enables got : List ℕ) (items : List FullItem) (item : FullItem) (head : Head) (f : Facts) → IsWord head f sent enables got item → entries_of bytes (items ++ item ∷ []) ≡ entries_of bytes items ++ entry_at head (access_by f sent enables got) ∷ []
entries_of-word bytes sent enables got items item head f word =
    let split = map-append (item_entry bytes) items (item ∷ []) in
    rw (split, word.entry bytes) refl

pub kept-word : (bytes sent enables got : List ℕ) (items : List FullItem) (item : FullItem) (head : Head) (f : Facts) → All (IsWithin bytes) items → IsWord head f sent enables got item → All (IsWithin bytes) (items ++ item ∷ [])
kept-word bytes sent enables got items item head f kept word = All-push (IsWithin bytes) items item kept (word.within bytes)

pub timed-word : (sent enables got : List ℕ) (items : List FullItem) (item : FullItem) (head : Head) (f : Facts) → All (λ (i : FullItem). i.item.time < 2 ^ 64) items → IsWord head f sent enables got item → All (λ (i : FullItem). i.item.time < 2 ^ 64) (items ++ item ∷ [])
timed-word sent enables got items item head f timed word = All-push (λ (i : FullItem). i.item.time < 2 ^ 64) items item timed word.timed
