-- The lines of memories are those of the definitions, and stores keep their sizes.
use Rattle.std.proofs.Common.{◌≡◌, ℕ, ◌+◌, ◌*◌, ◌-◌, min, zero, suc, List, [], ◌∷◌, ◌++◌, length, take, drop, Option, Some, Bool, true, false, cond, nat_eq, eq-eqb, ◌==◌, refl, ap, sym, ◌∙◌, arith, length-drop, append_assoc}
use Rattle.std.specs.Prelude.{slice_get, slice_set, if◌then◌else◌}
use Rattle.std.specs.List.{All}
use Rattle.std.proofs.lemmas.Bool.{eqb-true}
use Rattle.std.proofs.lemmas.List.{append-nil, length-replicate, length-set, take_all, take_min, drop-drop}
use Rattle.std.proofs.lemmas.List.Sums.{AllPass-from_list_all, list_all-from_AllPass}
use Rattle.tlm_types.specs.declared.words.Command.{Command}
use Rattle.tlm_types.specs.declared.words.Command.TheVariants.{Read, Write, Ignore, FetchAdd}
use Rattle.tlm_types.specs.declared.words.ObjectNo.{ObjectNo}
use Rattle.tlm_types.specs.declared.words.ObjectNo.TheVariants.{Memory, Hop, Pool}
use Rattle.tlm_types.specs.declared.words.Response.{Response}
use Rattle.tlm_types.specs.declared.words.Response.TheVariants.{Ok, Incomplete, GenericError, AddressError, CommandError, BurstError, ByteEnableError}
use Rattle.tlm_types.specs.declared.words.Way.{Way}
use Rattle.tlm_types.specs.declared.words.Way.TheVariants.{Blocking, FourPhase, Direct, Debug}
use Rattle.tlm_types.specs.declared.entry.Access.{Access}
use Rattle.tlm_types.specs.declared.entry.Entry.{Entry}
use Rattle.tlm_types.specs.declared.entry.What.{What}
use Rattle.tlm_types.specs.declared.entry.What.TheVariants.{Access as Accessed, Granted, Invalidated, Closed, Call, Take, Acquire, Release}
use Rattle.tlm_model.specs.declared.platform.MemoryRow.{MemoryRow}
use Rattle.tlm_model.specs.declared.platform.Platform.{Platform}
use Rattle.tlm_model.specs.History.{Store, after, last_store, opening_store, store_from, zeros_of}
use Rattle.report_model.specs.Report.{is_zero, memories_from, memory_lines, row_lines, rows_from}
use Rattle.tlm_model.specs.Numbers.{added, le_number}
use Rattle.tlm_model.specs.Store.{is_enabled, place_of, put_from, store_after, stored_by, taken_from}
use Rattle.tlm_model.specs.Text.{hex_of, line_of, offset_word}
use Rattle.trace_print.specs.Told.{HaveSizes, stores_lines, text_of}
use Rattle.trace_print.proofs.Texts.{text-append, text-one}

length-if : (b : Bool) (store : List ℕ) (i x : ℕ) → length (cond b (slice_set store i x) store) ≡ length store
length-if true store i x = length-set store i x
length-if false store i x = refl

length-put : (a : Access) (k : ℕ) (bs store : List ℕ) → length (put_from a k bs store) ≡ length store
length-put a k [] store = refl
length-put a k (b ∷ bs) store = length-put a (k + 1) bs (cond (is_enabled a k) (slice_set store (place_of a k) b) store) ∙ length-if (is_enabled a k) store (place_of a k) b

length-stored : (c : Command) (r : Response) (a : Access) (store : List ℕ) → length (stored_by c r a store) ≡ length store
length-stored Write Ok a store = length-put a 0 a.sent store
length-stored Write Incomplete a store = refl
length-stored Write GenericError a store = refl
length-stored Write AddressError a store = refl
length-stored Write CommandError a store = refl
length-stored Write BurstError a store = refl
length-stored Write ByteEnableError a store = refl
length-stored Read r a store = refl
length-stored Ignore r a store = refl
length-stored FetchAdd Ok a store = length-put a 0 (added (taken_from a 0 a.sent store) (le_number a.sent)) store
length-stored FetchAdd Incomplete a store = refl
length-stored FetchAdd GenericError a store = refl
length-stored FetchAdd AddressError a store = refl
length-stored FetchAdd CommandError a store = refl
length-stored FetchAdd BurstError a store = refl
length-stored FetchAdd ByteEnableError a store = refl

length-after : (w : Way) (r : Response) (a : Access) (store : List ℕ) → length (store_after w r a store) ≡ length store
length-after Debug r a store = refl
length-after Blocking r a store = length-stored a.command r a store
length-after FourPhase r a store = length-stored a.command r a store
length-after (Direct g) r a store = length-stored a.command r a store

length-at : (b : Bool) (n m : ℕ) (s : Store) (bytes : List ℕ) → nat_eq n m ≡ b → length bytes ≡ length (s n) → length (cond b bytes (s m)) ≡ length (s m)
length-at true n m s bytes q e = e ∙ ap (λ (k : ℕ). length (s k)) (eqb-true n m q)
length-at false n m s bytes q e = refl

length-step : (o : ObjectNo) (w : What) (s : Store) (m : ℕ) → length (after o w s m) ≡ length (s m)
length-step (Memory n) (Accessed way a r got) s m = length-at (nat_eq n m) n m s (store_after way r a (s n)) refl (length-after way r a (s n))
length-step (Memory n) (Granted g f l k) s m = refl
length-step (Memory n) (Invalidated f l) s m = refl
length-step (Memory n) (Closed g) s m = refl
length-step (Memory n) (Call p a) s m = refl
length-step (Memory n) (Take k) s m = refl
length-step (Memory n) (Acquire k) s m = refl
length-step (Memory n) (Release k f) s m = refl
length-step (Hop n) w s m = refl
length-step (Pool n) w s m = refl

length-from : (h : List Entry) (s : Store) (m : ℕ) → length (store_from s h m) ≡ length (s m)
length-from [] s m = refl
length-from (e ∷ es) s m = length-from es (after e.object e.what s) m ∙ length-step e.object e.what s m

-- a memory has as many bytes as its size, whatever has happened
pub length-last : (p : Platform) (h : List Entry) (m : ℕ) (row : MemoryRow) → slice_get p.memories m ≡ Some row → length (last_store p h m) ≡ row.traits.size
length-last p h m row e =
    length-from h (opening_store p) m
    ∙ (ap (λ (o : Option MemoryRow). length (zeros_of o)) e ∙ length-replicate row.traits.size 0)

pub have-sizes : (rows : List MemoryRow) (stores : List (List ℕ)) → length stores ≡ length rows →
    ((k : ℕ) (row : MemoryRow) (bytes : List ℕ) → slice_get rows k ≡ Some row → slice_get stores k ≡ Some bytes → length bytes ≡ row.traits.size) →
    HaveSizes rows stores
have-sizes [] [] e are = tt
have-sizes [] (bytes ∷ stores) e are = absurd (omega (arith, e))
have-sizes (row ∷ rows) [] e are = absurd (omega (arith, e))
have-sizes (row ∷ rows) (bytes ∷ stores) e are = (are 0 row bytes refl refl, have-sizes rows stores (omega (arith, e)) (λ k r b x y. are (suc k) r b x y))

-- the lines of the memories from the n-th on
pub stores-are : (n : ℕ) (rows : List MemoryRow) (stores : List (List ℕ)) (s : Store) → length stores ≡ length rows →
    ((k : ℕ) (bytes : List ℕ) → slice_get stores k ≡ Some bytes → bytes ≡ s (n + k)) →
    stores_lines rows stores ≡ memories_from n rows s
stores-are n [] stores s e are = refl
stores-are n (row ∷ rows) [] s e are = absurd (omega (arith, e))
stores-are n (row ∷ rows) (bytes ∷ stores) s e are =
    let here : n + 0 ≡ n = omega arith in
    let first : bytes ≡ s n = are 0 bytes refl ∙ ap s here in
    ap (λ (l : List ℕ). memory_lines row.name row.traits.size l ++ stores_lines rows stores) first
    ∙ ap (λ (l : List (List (List ℕ))). memory_lines row.name row.traits.size (s n) ++ l)
    (stores-are (n + 1) rows stores s (omega (arith, e)) (λ k b q. let next : n + suc k ≡ n + 1 + k = omega arith in are (suc k) b q ∙ ap s next))

-- a row of 16 bytes, or of fewer at the end
pub row-is : (start len : ℕ) (bytes : List ℕ) → len ≡ min (length bytes - start) 16 → take (start + len - start) (drop start bytes) ≡ take 16 (drop start bytes)
row-is start len bytes e =
    let n : start + len - start ≡ min 16 (length bytes - start) = omega (arith, e) in
    rw (n, ← length-drop start bytes) (take_min 16 (drop start bytes))

-- the lines of k + 1 rows are those of k rows, and the last row's
pub rows-last : (k offset : ℕ) (bytes : List ℕ) → rows_from (suc k) offset bytes ≡ rows_from k offset bytes ++ row_lines (offset + 16 * k) (take 16 (drop (16 * k) bytes))
rows-last zero offset bytes =
    let same : offset ≡ offset + 16 * zero = omega arith in
    append-nil (row_lines offset (take 16 bytes)) ∙ ap (λ (n : ℕ). row_lines n (take 16 bytes)) same
rows-last (suc k) offset bytes =
    let next : offset + 16 + 16 * k ≡ offset + 16 * suc k = omega arith in
    let past : 16 + 16 * k ≡ 16 * suc k = omega arith in
    let rest : drop (16 * k) (drop 16 bytes) ≡ drop (16 * suc k) bytes = drop-drop (16 * k) 16 bytes ∙ ap (λ (n : ℕ). drop n bytes) past in
    let before = rows_from k (offset + 16) (drop 16 bytes) in
    let inner : rows_from (suc k) (offset + 16) (drop 16 bytes) ≡ before ++ row_lines (offset + 16 * suc k) (take 16 (drop (16 * suc k) bytes)) =
    rows-last k (offset + 16) (drop 16 bytes)
    ∙ (ap (λ (n : ℕ). before ++ row_lines n (take 16 (drop (16 * k) (drop 16 bytes)))) next
    ∙ ap (λ (l : List ℕ). before ++ row_lines (offset + 16 * suc k) (take 16 l)) rest) in
    ap (λ (l : List (List (List ℕ))). row_lines offset (take 16 bytes) ++ l) inner
    ∙ sym (append_assoc (row_lines offset (take 16 bytes)) (rows_from k (offset + 16) (drop 16 bytes)) (row_lines (offset + 16 * suc k) (take 16 (drop (16 * suc k) bytes))))

stores-next : (rows : List MemoryRow) (stores : List (List ℕ)) (k : ℕ) (row : MemoryRow) (bytes : List ℕ) → slice_get rows k ≡ Some row → slice_get stores k ≡ Some bytes →
    stores_lines (take (k + 1) rows) (take (k + 1) stores) ≡ stores_lines (take k rows) (take k stores) ++ memory_lines row.name row.traits.size bytes
stores-next [] stores k row bytes a b = cc
stores-next (r ∷ rows) [] k row bytes a b = cc
stores-next (r ∷ rows) (s ∷ stores) zero row bytes a b =
    let same : r ≡ row = cc in
    let kept : s ≡ bytes = cc in
    append-nil (memory_lines r.name r.traits.size s)
    ∙ (ap (λ (x : MemoryRow). memory_lines x.name x.traits.size s) same ∙ ap (λ (l : List ℕ). memory_lines row.name row.traits.size l) kept)
stores-next (r ∷ rows) (s ∷ stores) (suc k) row bytes a b =
    let n : suc k + 1 ≡ suc (k + 1) = omega arith in
    ap (λ (i : ℕ). stores_lines (take i (r ∷ rows)) (take i (s ∷ stores))) n
    ∙ (ap (λ (l : List (List (List ℕ))). memory_lines r.name r.traits.size s ++ l) (stores-next rows stores k row bytes a b)
    ∙ sym (append_assoc (memory_lines r.name r.traits.size s) (stores_lines (take k rows) (take k stores)) (memory_lines row.name row.traits.size bytes)))

-- the lines of one memory more
pub stores-more : (rows : List MemoryRow) (stores : List (List ℕ)) (k : ℕ) (row : MemoryRow) (bytes : List ℕ) → slice_get rows k ≡ Some row → slice_get stores k ≡ Some bytes →
    text_of (stores_lines (take k rows) (take k stores)) ++ text_of (memory_lines row.name row.traits.size bytes) ≡ text_of (stores_lines (take (k + 1) rows) (take (k + 1) stores))
stores-more rows stores k row bytes a b =
    sym (text-append (stores_lines (take k rows) (take k stores)) (memory_lines row.name row.traits.size bytes)) ∙ ap text_of (sym (stores-next rows stores k row bytes a b))

pub sizes-length : (rows : List MemoryRow) (stores : List (List ℕ)) → HaveSizes rows stores → length stores ≡ length rows
sizes-length [] [] h = refl
sizes-length [] (s ∷ stores) h = absurd h
sizes-length (r ∷ rows) [] h = absurd h
sizes-length (r ∷ rows) (s ∷ stores) h = ap (λ (n : ℕ). suc n) (sizes-length rows stores h.1)

pub size-at : (rows : List MemoryRow) (stores : List (List ℕ)) (k : ℕ) (row : MemoryRow) (bytes : List ℕ) → HaveSizes rows stores → slice_get rows k ≡ Some row → slice_get stores k ≡ Some bytes → length bytes ≡ row.traits.size
size-at [] stores k row bytes h a b = cc
size-at (r ∷ rows) [] k row bytes h a b = absurd h
size-at (r ∷ rows) (s ∷ stores) zero row bytes h a b =
    let same : r ≡ row = cc in
    let kept : s ≡ bytes = cc in
    ap length (sym kept) ∙ (h.0 ∙ ap (λ (x : MemoryRow). x.traits.size) same)
size-at (r ∷ rows) (s ∷ stores) (suc k) row bytes h a b = size-at rows stores k row bytes h.1 a b

-- the lines of all memories
pub stores-all : (rows : List MemoryRow) (stores : List (List ℕ)) (n : ℕ) → n ≡ length rows → HaveSizes rows stores → text_of (stores_lines (take n rows) (take n stores)) ≡ text_of (stores_lines rows stores)
stores-all rows stores n e h =
    let le = sizes-length rows stores h in
    let a : take n rows ≡ rows = take_all n rows (omega arith) in
    let b : take n stores ≡ stores = take_all n stores (omega arith) in
    rw (a, b) refl

zeros-all : (bytes : List ℕ) → All (λ (b : ℕ). b ≡ 0) bytes → is_zero bytes ≡ true
zeros-all bytes h = list_all-from_AllPass (λ (b : ℕ). b == 0) bytes (λ k d within. eq-eqb _ 0 (h k d within))

all-zeros : (bytes : List ℕ) → is_zero bytes ≡ true → All (λ (b : ℕ). b ≡ 0) bytes
all-zeros bytes e = λ k d within. eqb-true _ 0 (AllPass-from_list_all (λ (b : ℕ). b == 0) bytes e k d within)

-- a row of zeros has no line
pub row-zeros : (offset : ℕ) (bytes : List ℕ) → All (λ (b : ℕ). b ≡ 0) bytes → [] ≡ text_of (row_lines offset bytes)
row-zeros offset bytes h = ap (λ (c : Bool). text_of (if c then [] else ((offset_word offset ∷ hex_of bytes ∷ []) ∷ []))) (sym (zeros-all bytes h))

row-at : (offset : ℕ) (bytes : List ℕ) (b : Bool) → is_zero bytes ≡ b → (All (λ (b : ℕ). b ≡ 0) bytes → ⊥) → line_of (offset_word offset ∷ hex_of bytes ∷ []) ≡ text_of (row_lines offset bytes)
row-at offset bytes true e h = absurd (h (all-zeros bytes e))
row-at offset bytes false e h =
    sym (text-one (offset_word offset ∷ hex_of bytes ∷ []))
    ∙ ap (λ (c : Bool). text_of (if c then [] else ((offset_word offset ∷ hex_of bytes ∷ []) ∷ []))) (sym e)

-- another row has one
pub row-shown : (offset : ℕ) (bytes : List ℕ) → (All (λ (b : ℕ). b ≡ 0) bytes → ⊥) → line_of (offset_word offset ∷ hex_of bytes ∷ []) ≡ text_of (row_lines offset bytes)
row-shown offset bytes h = row-at offset bytes (is_zero bytes) refl h

-- the lines of one row more
pub rows-more : (k : ℕ) (bytes : List ℕ) → text_of (rows_from k 0 bytes) ++ text_of (row_lines (16 * k) (take 16 (drop (16 * k) bytes))) ≡ text_of (rows_from (k + 1) 0 bytes)
rows-more k bytes =
    let at : 0 + 16 * k ≡ 16 * k = omega arith in
    let n : suc k ≡ k + 1 = omega arith in
    let row = take 16 (drop (16 * k) bytes) in
    sym (text-append (rows_from k 0 bytes) (row_lines (16 * k) row))
    ∙ (ap (λ (o : ℕ). text_of (rows_from k 0 bytes ++ row_lines o row)) (sym at)
    ∙ (ap text_of (sym (rows-last k 0 bytes)) ∙ ap (λ (i : ℕ). text_of (rows_from i 0 bytes)) n))
