-- Values that are read as tables, one after the other.
use Rattle.std.proofs.Common.{◌≡◌, ℕ, ◌+◌, ◌<◌, ◌≤◌, List, [], ◌∷◌, ◌++◌, length, map, drop, get_or, Option, Some, None, Result, Ok, Err, String, Global, Bor, refl, sym, ap, ◌∙◌}
use Rattle.std.specs.Prelude.{IsErrAnd, option_map}
use Rattle.std.specs.BTreeMap.{BTreeMap}
use Rattle.std.proofs.lemmas.List.{append-nil, drop_all, drop_more, map-append}
use Rattle.toml.specs.Data.{Data, table, Items, item, Members, as_table}
use Rattle.toml.specs.View.{view, items_view, table_view}
use Rattle.toml.specs.declared.value.Value.{Value}
use Rattle.platform_model.proofs.RowLoops.{with_all}
use Rattle.platform_model.specs.declared.fault.PlatformCode.{PlatformCode}
use Rattle.platform_model.specs.declared.fault.PlatformCode.TheVariants.{WrongType}
use Rattle.platform_file.specs.declared.kinds.KindFault.{KindFault}
use Rattle.platform_file.specs.declared.kinds.KindFault.TheVariants as fault
use Rattle.platform_file.specs.Kinds.{all_tables, with_front, KindGivesBy}
use Rattle.platform_file.proofs.Loops.{with_all-front}

-- tables as they are seen
abbrev seen : List (Bor (BTreeMap (String Global) Value)) → List Members
seen ts = map (λ r. table_view r.now) ts

is_table : (d : Data) (m : Members) → as_table d ≡ Some m → d ≡ table m
is_table (table m') m h = ap table (let same : m' ≡ m = cc in same)
is_table _ m h = cc

no_table : (d : Data) (ds : Items) → as_table d ≡ None → all_tables (item d ds) ≡ Err WrongType
no_table (table m) ds h = cc
no_table _ ds h = refl

at_value : (values : List Value) (i : ℕ) (v : Value) → i < length values → v ≡ get_or values i v → drop i values ≡ v ∷ drop (i + 1) values
at_value values i v lt at = drop_more values i v lt ∙ ap (λ (x : Value). x ∷ drop (i + 1) values) (sym at)

-- a table was read
pub tables_go_on : (values : List Value) (i : ℕ) (v : Value) (t : Bor (BTreeMap (String Global) Value)) (found : Option (Bor (BTreeMap (String Global) Value))) (old new : List (Bor (BTreeMap (String Global) Value))) (total : Result (List Members) PlatformCode)
    → i < length values → v ≡ get_or values i v → option_map (λ m. table_view m.now) found ≡ as_table (view v) → found ≡ Some t → new ≡ old ++ t ∷ []
    → with_all (seen old) (all_tables (items_view (drop i values))) ≡ total → with_all (seen new) (all_tables (items_view (drop (i + 1) values))) ≡ total
tables_go_on values i v t found old new total lt at told is pushed so_far =
    let m : Members = table_view t.now in
    let rest : Items = items_view (drop (i + 1) values) in
    let there : view v ≡ table m = is_table (view v) m (sym told ∙ ap (option_map (λ m. table_view m.now)) is) in
    let here : all_tables (items_view (drop i values)) ≡ with_front m (all_tables rest) = ap (λ vs. all_tables (items_view vs)) (at_value values i v lt at) ∙ ap (λ d. all_tables (item d rest)) there in
    let more : seen new ≡ seen old ++ m ∷ [] = ap seen pushed ∙ map-append (λ r. table_view r.now) old (t ∷ []) in
    ap (λ l. with_all l (all_tables rest)) more ∙ sym (with_all-front (seen old) m (all_tables rest)) ∙ sym (ap (with_all (seen old)) here) ∙ so_far

-- a value is none
pub tables_end : (values : List Value) (i : ℕ) (v : Value) (found : Option (Bor (BTreeMap (String Global) Value))) (old : List (Bor (BTreeMap (String Global) Value))) (total : Result (List Members) PlatformCode)
    → i < length values → v ≡ get_or values i v → option_map (λ m. table_view m.now) found ≡ as_table (view v) → found ≡ None
    → with_all (seen old) (all_tables (items_view (drop i values))) ≡ total → total ≡ Err WrongType
tables_end values i v found old total lt at told is so_far =
    let none : as_table (view v) ≡ None = sym told ∙ ap (option_map (λ m. table_view m.now)) is in
    sym so_far ∙ ap (with_all (seen old)) (ap (λ vs. all_tables (items_view vs)) (at_value values i v lt at) ∙ no_table (view v) (items_view (drop (i + 1) values)) none)

-- all were read
pub tables_done : (values : List Value) (i : ℕ) (old : List (Bor (BTreeMap (String Global) Value))) (total : Result (List Members) PlatformCode) → length values ≤ i
    → with_all (seen old) (all_tables (items_view (drop i values))) ≡ total → total ≡ Ok (seen old)
tables_done values i old total le so_far = sym so_far ∙ ap (λ vs. with_all (seen old) (all_tables (items_view vs))) (drop_all i values le) ∙ ap Ok (append-nil (seen old))

-- want of memory says nothing of what is read
pub wants_memory : {X A : Type 0} (view : X → A) (result : Result X KindFault) (read : Result A PlatformCode) → IsErrAnd result (λ e. e ≡ fault.Memory) → KindGivesBy view result read
wants_memory view (Ok x) read early = absurd early
wants_memory view (Err fault.Memory) read early = tt
wants_memory view (Err (fault.Code code)) read early = cc
