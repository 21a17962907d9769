-- The operations of a script are proper.
use Rattle.std.proofs.Common.{◌≡◌, ◌⊎◌, inl, inr, ℕ, ◌+◌, ◌-◌, ◌*◌, ◌^◌, ◌<◌, ◌≤◌, List, [], ◌∷◌, length, drop, Bool, true, false, cond, ◌&&◌, ◌||◌, nat_eq, nat_le, nat_lt, Option, Some, None, Result, Ok, Err, codes, refl, subst, arith}
use Rattle.std.specs.Prelude.{unwrap_or, is_some, IfSome}
use Rattle.std.specs.List.{list_all, starts_with, AllByRecursion}
use Rattle.std.specs.Char.{is_digit, digit_value}
use Rattle.std.specs.Str.Parse.{digits_value}
use Rattle.std.proofs.lemmas.Bool.{ltb-true, leb-true}
use Rattle.std.proofs.lemmas.Bool.Decides.{nat_tests}
use Rattle.tlm_model.specs.declared.operation.Operation.{Operation}
use Rattle.tlm_model.specs.declared.operation.Operation.TheVariants.{Write, Read, Ignore, Debug, Copy, Add, FetchAdd, Wait, Sync, Fence, Invalidate}
use Rattle.traffic_script.specs.declared.fault.ScriptCode.{ScriptCode}
use Rattle.traffic_script.specs.declared.fault.ScriptCode.TheVariants.{BadNumber, BadHex, BadLength, BadOption, UnknownOperation}
use Rattle.traffic_script.specs.declared.options.Options.{Options}
use Rattle.traffic_script.specs.declared.keyword.Keyword.{Keyword}
use Rattle.traffic_script.specs.declared.keyword.Keyword.TheVariants as keyword
use Rattle.traffic_script.specs.declared.statement.Statement.{Statement}
use Rattle.traffic_script.specs.declared.statement.Statement.TheVariants.{Asks, Repeats, Ends}
use Rattle.tlm_types.specs.Reading.{◌>>=◌}
use Rattle.traffic_script.specs.Words.{words_of, text_of}
use Rattle.traffic_script.specs.Numbers.{number_in, read_number, within, length_of, span_of, times_of, addend_of, byte_of, bytes_of, read_hex, few, only_enables, data_of, enables_of}
use Rattle.tlm_types.specs.Enables.{is_enable}
use Rattle.traffic_script.specs.Options.{no_options, with_enables, with_width, with_option, with_options}
use Rattle.traffic_script.specs.Statements.{keyword_of, write_of, read_of, ignore_of, debug_of, copy_of, add_of, fetch_add_of, of_version_2, wait_of, invalidate_of, alone, repeat_of, asks, statement_by, statement_in, statement_of}
use Rattle.traffic_script.specs.Proper.{IsLength, AreEnables, AreBytes, IsProper, AreTimes, IsProperStatement}
use Rattle.traffic_script.proofs.ReadLemmas.{bind-Ok, if-Ok, unless-Ok, and-true}

number_in-lt : (base : ℕ) (digits : List ℕ) (n : ℕ) → number_in base digits ≡ Ok n → n < 2 ^ 64
number_in-lt base digits n e =
    let read = if-Ok (nat_lt 0 (length digits) && list_all (λ c. is_digit c base) digits && nat_lt (digits_value base digits) (2 ^ 64)) (Ok (digits_value base digits)) BadNumber n e in
    let tests = and-true (nat_lt 0 (length digits) && list_all (λ c. is_digit c base) digits) (nat_lt (digits_value base digits) (2 ^ 64)) read.0 in
    let same : digits_value base digits ≡ n = cc in
    subst (λ m. m < 2 ^ 64) same (ltb-true _ _ tests.1)

number_of-lt : (word : List ℕ) (n : ℕ) → read_number word ≡ Ok n → n < 2 ^ 64
number_of-lt word n e = by_prefix (starts_with nat_eq word (codes "0x")) e
  where
    by_prefix : (b : Bool) → cond b (number_in 16 (drop 2 word)) (number_in 10 word) ≡ Ok n → n < 2 ^ 64
    by_prefix true q = number_in-lt 16 (drop 2 word) n q
    by_prefix false q = number_in-lt 10 word n q

within-range : (code : ScriptCode) (least most m n : ℕ) → within code least most m ≡ Ok n → (least ≤ n) × (n ≤ most)
within-range code least most m n e =
    let read = if-Ok (nat_le least m && nat_le m most) (Ok m) code n e in
    let tests = and-true (nat_le least m) (nat_le m most) read.0 in
    let same : m ≡ n = cc in
    subst (λ k. (least ≤ k) × (k ≤ most)) same (leb-true least m tests.0, leb-true m most tests.1)

length-proper : (word : List ℕ) (n : ℕ) → length_of word ≡ Ok n → IsLength n
length-proper word n e =
    let value = bind-Ok (read_number word) (within BadLength 1 4096) n e in
    let range = within-range BadLength 1 4096 value.0 n value.2 in
    record { some = range.0; few = range.1 }

span-range : (word : List ℕ) (n : ℕ) → span_of word ≡ Ok n → (0 < n) × (n < 2 ^ 64)
span-range word n e =
    let value = bind-Ok (read_number word) (within BadLength 1 (2 ^ 64 - 1)) n e in
    let range = within-range BadLength 1 (2 ^ 64 - 1) value.0 n value.2 in
    (omega (arith, range.0), omega (arith, range.1))

times-proper : (word : List ℕ) (n : ℕ) → times_of word ≡ Ok n → AreTimes n
times-proper word n e =
    let value = bind-Ok (read_number word) (within BadNumber 1 100000) n e in
    let range = within-range BadNumber 1 100000 value.0 n value.2 in
    record { some = range.0; few = range.1 }

addend-lt : (word : List ℕ) (n : ℕ) → addend_of word ≡ Ok n → n < 2 ^ 32
addend-lt word n e =
    let value = bind-Ok (read_number word) (within BadNumber 0 0xffff_ffff) n e in
    let range = within-range BadNumber 0 0xffff_ffff value.0 n value.2 in
    omega arith

-- two digits a byte
length-bytes_of : (digits bytes : List ℕ) → bytes_of digits ≡ Ok bytes → length digits ≡ 2 * length bytes
length-bytes_of [] bytes e = subst (λ bs. 0 ≡ 2 * length bs) (let same : [] ≡ bytes = cc in same) refl
length-bytes_of (high ∷ []) bytes e = cc
length-bytes_of (high ∷ low ∷ more) bytes e =
    let first = bind-Ok (byte_of high low) (λ byte. bytes_of more >>= λ bs. Ok (byte ∷ bs)) bytes e in
    let rest = bind-Ok (bytes_of more) (λ bs. Ok (first.0 ∷ bs)) bytes first.2 in
    let same : first.0 ∷ rest.0 ≡ bytes = cc in
    let count = length-bytes_of more rest.0 rest.1 in
    subst (λ bs. length (high ∷ low ∷ more) ≡ 2 * length bs) same (omega arith)

two-digits : (x y : ℕ) → x < 16 → y < 16 → 16 * x + y < 256
two-digits x y high low = omega arith

byte-small : (high low byte : ℕ) → byte_of high low ≡ Ok byte → byte < 256
byte-small high low byte e =
    let read = if-Ok (is_digit high 16 && is_digit low 16) (Ok (16 * digit_value high + digit_value low)) BadHex byte e in
    let digits = and-true (is_digit high 16) (is_digit low 16) read.0 in
    let same : 16 * digit_value high + digit_value low ≡ byte = cc in
    subst (λ b. b < 256) same (two-digits (digit_value high) (digit_value low) (ltb-true _ _ digits.0) (ltb-true _ _ digits.1))

bytes_of-bytes : (digits bytes : List ℕ) → bytes_of digits ≡ Ok bytes → AreBytes bytes
bytes_of-bytes [] bytes e = subst AreBytes (let same : [] ≡ bytes = cc in same) tt
bytes_of-bytes (high ∷ []) bytes e = cc
bytes_of-bytes (high ∷ low ∷ more) bytes e =
    let first = bind-Ok (byte_of high low) (λ byte. bytes_of more >>= λ bs. Ok (byte ∷ bs)) bytes e in
    let rest = bind-Ok (bytes_of more) (λ bs. Ok (first.0 ∷ bs)) bytes first.2 in
    let same : first.0 ∷ rest.0 ≡ bytes = cc in
    subst AreBytes same (byte-small high low first.0 first.1, bytes_of-bytes more rest.0 rest.1)

hex-some : (word bytes : List ℕ) → read_hex word ≡ Ok bytes → 1 ≤ length bytes
hex-some word bytes e =
    let read = unless-Ok (nat_eq (length word) 0) (bytes_of word) BadHex bytes e in
    let some : 0 < length word = grind (arith, nat_tests, read.0) in
    omega (arith, length-bytes_of word bytes read.1)

few-Ok : (bytes found : List ℕ) → few bytes ≡ Ok found → (bytes ≡ found) × (length found ≤ 4096)
few-Ok bytes found e =
    let read = if-Ok (nat_le (length bytes) 4096) (Ok bytes) BadLength found e in
    let same : bytes ≡ found = cc in
    (same, subst (λ bs. length bs ≤ 4096) same (leb-true (length bytes) 4096 read.0))

data-proper : (word bytes : List ℕ) → data_of word ≡ Ok bytes → IsLength (length bytes)
data-proper word bytes e =
    let read = bind-Ok (read_hex word) few bytes e in
    let kept = few-Ok read.0 bytes read.2 in
    record { some = subst (λ bs. 1 ≤ length bs) kept.0 (hex-some word read.0 read.1); few = kept.1 }

data-bytes : (word bytes : List ℕ) → data_of word ≡ Ok bytes → AreBytes bytes
data-bytes word bytes e =
    let read = bind-Ok (read_hex word) few bytes e in
    let kept = few-Ok read.0 bytes read.2 in
    let digits = unless-Ok (nat_eq (length word) 0) (bytes_of word) BadHex read.0 read.1 in
    subst AreBytes kept.0 (bytes_of-bytes word read.0 digits.1)

enable-is : (b : ℕ) → is_enable b ≡ true → (b ≡ 0) ⊎ (b ≡ 255)
enable-is b e = by_test (nat_eq b 0) (nat_eq b 255) refl refl e
  where
    by_test : (p q : Bool) → nat_eq b 0 ≡ p → nat_eq b 255 ≡ q → p || q ≡ true → (b ≡ 0) ⊎ (b ≡ 255)
    by_test true q h k r = inl (grind (arith, nat_tests))
    by_test false true h k r = inr (grind (arith, nat_tests))
    by_test false false h k r = cc

each-enable : (bytes : List ℕ) → list_all is_enable bytes ≡ true → AllByRecursion (λ b. (b ≡ 0) ⊎ (b ≡ 255)) bytes
each-enable [] e = tt
each-enable (b ∷ bytes) e =
    let both = and-true (is_enable b) (list_all is_enable bytes) e in
    (enable-is b both.0, each-enable bytes both.1)

enables-proper : (word enables : List ℕ) → enables_of word ≡ Ok enables → AreEnables enables
enables-proper word enables e =
    let last = bind-Ok (read_hex word >>= only_enables) few enables e in
    let read = bind-Ok (read_hex word) only_enables last.0 last.1 in
    let only = if-Ok (list_all is_enable read.0) (Ok read.0) BadHex last.0 read.2 in
    let kept = few-Ok last.0 enables last.2 in
    let same : read.0 ≡ enables = cc in
    record { few = kept.1; each = subst (AllByRecursion (λ b. (b ≡ 0) ⊎ (b ≡ 255))) same (each-enable read.0 only.0) }

-- options that were read
record AreProperOptions (o : Options) : Type 0 where
  enabled : IfSome o.enables AreEnables
  wide : IfSome o.width (λ w. w < 2 ^ 64)

none-proper : AreProperOptions no_options
none-proper = record { enabled = tt; wide = tt }

with_enables-proper : (o : Options) (hex : List ℕ) (found : Options) → AreProperOptions o → with_enables o hex ≡ Ok found → AreProperOptions found
with_enables-proper o hex found p e =
    let once = unless-Ok (is_some o.enables) (enables_of hex >>= λ enables. Ok (record o { enables = Some enables })) BadOption found e in
    let read = bind-Ok (enables_of hex) (λ enables. Ok (record o { enables = Some enables })) found once.1 in
    let now : Options = record o { enables = Some read.0 } in
    let same : now ≡ found = cc in
    subst AreProperOptions same (record { enabled = enables-proper hex read.0 read.1; wide = p.wide })

with_width-proper : (o : Options) (word : List ℕ) (found : Options) → AreProperOptions o → with_width o word ≡ Ok found → AreProperOptions found
with_width-proper o word found p e =
    let once = unless-Ok (is_some o.width) (read_number word >>= λ width. Ok (record o { width = Some width })) BadOption found e in
    let read = bind-Ok (read_number word) (λ width. Ok (record o { width = Some width })) found once.1 in
    let now : Options = record o { width = Some read.0 } in
    let same : now ≡ found = cc in
    subst AreProperOptions same (record { enabled = p.enabled; wide = number_of-lt word read.0 read.1 })

with_option-proper : (o : Options) (word : List ℕ) (found : Options) → AreProperOptions o → with_option o word ≡ Ok found → AreProperOptions found
with_option-proper o word found p e = by_prefix (starts_with nat_eq word (codes "be=")) (starts_with nat_eq word (codes "sw=")) e
  where
    by_prefix : (b s : Bool) → cond b (with_enables o (drop 3 word)) (cond s (with_width o (drop 3 word)) (Err BadOption)) ≡ Ok found → AreProperOptions found
    by_prefix true s q = with_enables-proper o (drop 3 word) found p q
    by_prefix false true q = with_width-proper o (drop 3 word) found p q
    by_prefix false false q = cc

with_options-proper : (words : List (List ℕ)) (o found : Options) → AreProperOptions o → with_options o words ≡ Ok found → AreProperOptions found
with_options-proper [] o found p e = subst AreProperOptions (let same : o ≡ found = cc in same) p
with_options-proper (word ∷ words) o found p e =
    let first = bind-Ok (with_option o word) (λ more. with_options more words) found e in
    with_options-proper words first.0 found (with_option-proper o word first.0 p first.1) first.2

-- without byte enables there are none
enabled-proper : (enables : Option (List ℕ)) → IfSome enables AreEnables → AreEnables (unwrap_or enables [])
enabled-proper None p = record { few = omega arith; each = tt }
enabled-proper (Some enables) p = p

write-proper : (words : List (List ℕ)) (op : Operation) → write_of words ≡ Ok op → IsProper op
write-proper [] op e = cc
write-proper (address ∷ []) op e = cc
write-proper (address ∷ data_word ∷ words) op e =
    let at = bind-Ok (read_number address) (λ at. data_of data_word >>= λ bytes. with_options no_options words >>= λ (o : Options). Ok (Write at bytes (unwrap_or o.enables []) o.width)) op e in
    let sent = bind-Ok (data_of data_word) (λ bytes. with_options no_options words >>= λ (o : Options). Ok (Write at.0 bytes (unwrap_or o.enables []) o.width)) op at.2 in
    let options = bind-Ok (with_options no_options words) (λ (o : Options). Ok (Write at.0 sent.0 (unwrap_or o.enables []) o.width)) op sent.2 in
    let same : Write at.0 sent.0 (unwrap_or options.0.enables []) options.0.width ≡ op = cc in
    let p = with_options-proper words no_options options.0 none-proper options.1 in
    subst IsProper same (record { addressed = number_of-lt address at.0 at.1; sized = data-proper data_word sent.0 sent.1; enabled = enabled-proper options.0.enables p.enabled; wide = p.wide }, data-bytes data_word sent.0 sent.1)

read-proper : (words : List (List ℕ)) (op : Operation) → read_of words ≡ Ok op → IsProper op
read-proper [] op e = cc
read-proper (address ∷ []) op e = cc
read-proper (address ∷ count ∷ words) op e =
    let at = bind-Ok (read_number address) (λ at. length_of count >>= λ n. with_options no_options words >>= λ (o : Options). Ok (Read at n (unwrap_or o.enables []) o.width)) op e in
    let n = bind-Ok (length_of count) (λ n. with_options no_options words >>= λ (o : Options). Ok (Read at.0 n (unwrap_or o.enables []) o.width)) op at.2 in
    let options = bind-Ok (with_options no_options words) (λ (o : Options). Ok (Read at.0 n.0 (unwrap_or o.enables []) o.width)) op n.2 in
    let same : Read at.0 n.0 (unwrap_or options.0.enables []) options.0.width ≡ op = cc in
    let p = with_options-proper words no_options options.0 none-proper options.1 in
    subst IsProper same (record { addressed = number_of-lt address at.0 at.1; sized = length-proper count n.0 n.1; enabled = enabled-proper options.0.enables p.enabled; wide = p.wide })

ignore-proper : (words : List (List ℕ)) (op : Operation) → ignore_of words ≡ Ok op → IsProper op
ignore-proper [] op e = cc
ignore-proper (address ∷ []) op e =
    let at = bind-Ok (read_number address) (λ at. Ok (Ignore at)) op e in
    let same : Ignore at.0 ≡ op = cc in
    subst IsProper same (number_of-lt address at.0 at.1)
ignore-proper (address ∷ more ∷ words) op e = cc

debug-proper : (words : List (List ℕ)) (op : Operation) → debug_of words ≡ Ok op → IsProper op
debug-proper [] op e = cc
debug-proper (address ∷ []) op e = cc
debug-proper (address ∷ count ∷ []) op e =
    let at = bind-Ok (read_number address) (λ at. length_of count >>= λ n. Ok (Debug at n)) op e in
    let n = bind-Ok (length_of count) (λ n. Ok (Debug at.0 n)) op at.2 in
    let same : Debug at.0 n.0 ≡ op = cc in
    subst IsProper same (number_of-lt address at.0 at.1, length-proper count n.0 n.1)
debug-proper (address ∷ count ∷ more ∷ words) op e = cc

copy-proper : (words : List (List ℕ)) (op : Operation) → copy_of words ≡ Ok op → IsProper op
copy-proper [] op e = cc
copy-proper (source ∷ []) op e = cc
copy-proper (source ∷ target ∷ []) op e = cc
copy-proper (source ∷ target ∷ count ∷ []) op e =
    let from = bind-Ok (read_number source) (λ from. read_number target >>= λ to. length_of count >>= λ n. Ok (Copy from to n)) op e in
    let to = bind-Ok (read_number target) (λ to. length_of count >>= λ n. Ok (Copy from.0 to n)) op from.2 in
    let n = bind-Ok (length_of count) (λ n. Ok (Copy from.0 to.0 n)) op to.2 in
    let same : Copy from.0 to.0 n.0 ≡ op = cc in
    subst IsProper same (number_of-lt source from.0 from.1, number_of-lt target to.0 to.1, length-proper count n.0 n.1)
copy-proper (source ∷ target ∷ count ∷ more ∷ words) op e = cc

add-proper : (words : List (List ℕ)) (op : Operation) → add_of words ≡ Ok op → IsProper op
add-proper [] op e = cc
add-proper (address ∷ []) op e = cc
add-proper (address ∷ number ∷ []) op e =
    let at = bind-Ok (read_number address) (λ at. addend_of number >>= λ n. Ok (Add at n)) op e in
    let n = bind-Ok (addend_of number) (λ n. Ok (Add at.0 n)) op at.2 in
    let same : Add at.0 n.0 ≡ op = cc in
    subst IsProper same (number_of-lt address at.0 at.1, addend-lt number n.0 n.1)
add-proper (address ∷ number ∷ more ∷ words) op e = cc

fetch_add-proper : (words : List (List ℕ)) (op : Operation) → fetch_add_of words ≡ Ok op → IsProper op
fetch_add-proper [] op e = cc
fetch_add-proper (address ∷ []) op e = cc
fetch_add-proper (address ∷ number ∷ []) op e =
    let at = bind-Ok (read_number address) (λ at. addend_of number >>= λ n. Ok (FetchAdd at n)) op e in
    let n = bind-Ok (addend_of number) (λ n. Ok (FetchAdd at.0 n)) op at.2 in
    let same : FetchAdd at.0 n.0 ≡ op = cc in
    subst IsProper same (number_of-lt address at.0 at.1, addend-lt number n.0 n.1)
fetch_add-proper (address ∷ number ∷ more ∷ words) op e = cc

version-proper : (version : ℕ) (words : List (List ℕ)) (op : Operation) → of_version_2 version (fetch_add_of words) ≡ Ok op → IsProper op
version-proper version words op e = fetch_add-proper words op (if-Ok (nat_eq version 2) (fetch_add_of words) UnknownOperation op e).1

wait-proper : (words : List (List ℕ)) (op : Operation) → wait_of words ≡ Ok op → IsProper op
wait-proper [] op e = cc
wait-proper (number ∷ []) op e =
    let time = bind-Ok (read_number number) (λ time. Ok (Wait time)) op e in
    let same : Wait time.0 ≡ op = cc in
    subst IsProper same (number_of-lt number time.0 time.1)
wait-proper (number ∷ more ∷ words) op e = cc

invalidate-proper : (words : List (List ℕ)) (op : Operation) → invalidate_of words ≡ Ok op → IsProper op
invalidate-proper [] op e = cc
invalidate-proper (address ∷ []) op e = cc
invalidate-proper (address ∷ count ∷ []) op e =
    let at = bind-Ok (read_number address) (λ at. span_of count >>= λ n. Ok (Invalidate at n)) op e in
    let n = bind-Ok (span_of count) (λ n. Ok (Invalidate at.0 n)) op at.2 in
    let same : Invalidate at.0 n.0 ≡ op = cc in
    let range = span-range count n.0 n.1 in
    subst IsProper same (number_of-lt address at.0 at.1, range.0, range.1)
invalidate-proper (address ∷ count ∷ more ∷ words) op e = cc

alone-Ok : {A : Type 0} (x found : A) (words : List (List ℕ)) → alone x words ≡ Ok found → x ≡ found
alone-Ok x found [] e = cc
alone-Ok x found (word ∷ words) e = cc

asks-proper : (r : Result Operation ScriptCode) (s : Statement) → ((op : Operation) → r ≡ Ok op → IsProper op) → asks r ≡ Ok s → IsProperStatement s
asks-proper r s p e =
    let op = bind-Ok r (λ op. Ok (Asks op)) s e in
    let same : Asks op.0 ≡ s = cc in
    subst IsProperStatement same (p op.0 op.1)

repeat-proper : (words : List (List ℕ)) (s : Statement) → repeat_of words ≡ Ok s → IsProperStatement s
repeat-proper [] s e = cc
repeat-proper (number ∷ []) s e =
    let times = bind-Ok (times_of number) (λ times. Ok (Repeats times)) s e in
    let same : Repeats times.0 ≡ s = cc in
    subst IsProperStatement same (times-proper number times.0 times.1)
repeat-proper (number ∷ more ∷ words) s e = cc

by-proper : (version : ℕ) (k : Keyword) (words : List (List ℕ)) (s : Statement) → statement_by version k words ≡ Ok s → IsProperStatement s
by-proper version keyword.Write words s e = asks-proper (write_of words) s (write-proper words) e
by-proper version keyword.Read words s e = asks-proper (read_of words) s (read-proper words) e
by-proper version keyword.Ignore words s e = asks-proper (ignore_of words) s (ignore-proper words) e
by-proper version keyword.Debug words s e = asks-proper (debug_of words) s (debug-proper words) e
by-proper version keyword.Copy words s e = asks-proper (copy_of words) s (copy-proper words) e
by-proper version keyword.Add words s e = asks-proper (add_of words) s (add-proper words) e
by-proper version keyword.FetchAdd words s e = asks-proper (of_version_2 version (fetch_add_of words)) s (version-proper version words) e
by-proper version keyword.Wait words s e = asks-proper (wait_of words) s (wait-proper words) e
by-proper version keyword.Sync words s e = asks-proper (alone Sync words) s (λ op q. subst IsProper (alone-Ok Sync op words q) tt) e
by-proper version keyword.Fence words s e = asks-proper (alone Fence words) s (λ op q. subst IsProper (alone-Ok Fence op words q) tt) e
by-proper version keyword.Invalidate words s e = asks-proper (invalidate_of words) s (invalidate-proper words) e
by-proper version keyword.Repeat words s e = repeat-proper words s e
by-proper version keyword.End words s e = subst IsProperStatement (alone-Ok Ends s words e) tt

in-proper : (version : ℕ) (words : List (List ℕ)) (s : Option Statement) → statement_in version words ≡ Ok s → IfSome s IsProperStatement
in-proper version [] s e = subst (λ found. IfSome found IsProperStatement) (let same : None ≡ s = cc in same) tt
in-proper version (word ∷ words) s e =
    let name = bind-Ok (keyword_of word) (λ name. statement_by version name words >>= λ statement. Ok (Some statement)) s e in
    let said = bind-Ok (statement_by version name.0 words) (λ statement. Ok (Some statement)) s name.2 in
    let same : Some said.0 ≡ s = cc in
    subst (λ found. IfSome found IsProperStatement) same (by-proper version name.0 words said.0 said.1)

-- what a line says is proper
pub statement_proper : (version : ℕ) (line : List ℕ) (s : Option Statement) → statement_of version line ≡ Ok s → IfSome s IsProperStatement
statement_proper version line s e =
    let text = bind-Ok (text_of line) (λ text. statement_in version (words_of text)) s e in
    in-proper version (words_of text.0) s text.2
