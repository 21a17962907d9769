-- The kinds of values that keys have.
use Rattle.std.specs.Prelude.{◌≡◌, ℕ, pos, negsuc, Bool, ◌&&◌, List, [], ◌∷◌, length, Result, Ok, Err, if◌then◌else◌, nat_le}
use Rattle.std.specs.Prelude.{Vec, String, map}
use Rattle.std.specs.BTreeMap.{BTreeMap}
use Rattle.std.specs.declared.alloc.Global.{Global}
use denote.Ref.{Bor}
use Rattle.toml.specs.View.{table_view}
use Rattle.toml.specs.declared.value.Value.{Value}
use Rattle.std.specs.Str.{bytes_eq}
use Rattle.toml.specs.Data.{Data, string, integer, boolean, array, table, Items, no_items, item, Members}
use Rattle.platform_model.specs.Name.{is_name}
use Rattle.platform_file.specs.declared.kinds.KindFault.{KindFault}
use Rattle.platform_file.specs.declared.kinds.KindFault.TheVariants as fault
use Rattle.platform_model.specs.declared.fault.PlatformCode.{PlatformCode}
use Rattle.platform_model.specs.declared.fault.PlatformCode.TheVariants.{WrongType, BadName, UnknownWord, OutOfRange}

-- an integer between two bounds
abbrev pub number : ℕ → ℕ → Data → Result ℕ PlatformCode
number least most (integer (pos n)) = if nat_le least n && nat_le n most then Ok n else Err OutOfRange
number least most (integer (negsuc n)) = Err OutOfRange
number least most _ = Err WrongType

-- a truth value
abbrev pub truth : Data → Result Bool PlatformCode
truth (boolean b) = Ok b
truth _ = Err WrongType

-- a text
abbrev pub text : Data → Result (List ℕ) PlatformCode
text (string s) = Ok s
text _ = Err WrongType

-- a text whose length in bytes is between two bounds
abbrev pub sized_text : ℕ → ℕ → Data → Result (List ℕ) PlatformCode
sized_text least most (string s) = if nat_le least (length s) && nat_le (length s) most then Ok s else Err OutOfRange
sized_text least most _ = Err WrongType

-- a name
abbrev pub name : Data → Result (List ℕ) PlatformCode
name (string s) = if is_name s then Ok s else Err BadName
name _ = Err WrongType

-- the value of a word
abbrev pub word_in : {A : Type 0} → List (List ℕ × A) → List ℕ → Result A PlatformCode
word_in [] s = Err UnknownWord
word_in (w ∷ ws) s = if bytes_eq s w.0 then Ok w.1 else word_in ws s

-- a word of a list
abbrev pub word : {A : Type 0} → List (List ℕ × A) → Data → Result A PlatformCode
word words (string s) = word_in words s
word words _ = Err WrongType

-- tables with one more at the front, where there are tables
abbrev pub with_front : Members → Result (List Members) PlatformCode → Result (List Members) PlatformCode
with_front t (Ok ts) = Ok (t ∷ ts)
with_front t (Err e) = Err e

-- some items as tables, if each is one
abbrev pub all_tables : Items → Result (List Members) PlatformCode
all_tables no_items = Ok []
all_tables (item (table t) ds) = with_front t (all_tables ds)
all_tables (item _ ds) = Err WrongType

-- tables whose number is between two bounds
abbrev pub limited_tables : ℕ → ℕ → Result (List Members) PlatformCode → Result (List Members) PlatformCode
limited_tables least most (Ok ts) = if nat_le least (length ts) && nat_le (length ts) most then Ok ts else Err OutOfRange
limited_tables least most (Err e) = Err e

-- an array of tables whose length is between two bounds: its elements come before its length
abbrev pub tables : ℕ → ℕ → Data → Result (List Members) PlatformCode
tables least most (array ds) = limited_tables least most (all_tables ds)
tables least most _ = Err WrongType

-- the code is the one that a kind gives, unless memory ran out
abbrev pub KindFails : {A : Type 0} → KindFault → Result A PlatformCode → Type 0
KindFails fault.Memory read = Unit {0}
KindFails (fault.Code code) read = read ≡ Err code

-- what was returned is what a kind reads, unless memory ran out
abbrev pub KindGives : {A : Type 0} → Result A KindFault → Result A PlatformCode → Type 0
KindGives (Ok x) read = read ≡ Ok x
KindGives (Err f) read = KindFails f read

-- the same of what is seen by a view
abbrev pub KindGivesBy : {X A : Type 0} → (X → A) → Result X KindFault → Result A PlatformCode → Type 0
KindGivesBy view (Ok x) read = read ≡ Ok (view x)
KindGivesBy view (Err f) read = KindFails f read

-- the members of some tables
abbrev pub tables_seen : Vec (Bor (BTreeMap (String Global) Value)) Global → List Members
tables_seen v = map (λ r. table_view r.now) v.items
