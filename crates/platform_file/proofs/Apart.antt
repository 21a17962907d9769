-- The platform of a table is what its keys are bound to, and then the sums over its memories.
use Rattle.std.proofs.Common.{◌≡◌, List, Result, Ok, Err, refl, sym}
use Rattle.toml.specs.Data.{Members}
use Rattle.tlm_types.specs.Reading.{◌>>=◌}
use Rattle.tlm_model.specs.declared.platform.InitiatorRow.{InitiatorRow}
use Rattle.tlm_model.specs.declared.platform.RouterRow.{RouterRow}
use Rattle.tlm_model.specs.declared.platform.Platform.{Platform}
use Rattle.platform_model.specs.Reading.{PlatformRefusal, rows_from}
use Rattle.platform_file.specs.declared.bound.BoundRows.{BoundRows}
use Rattle.platform_file.specs.declared.top.PlatformKeys.{PlatformKeys}
use Rattle.platform_file.specs.Bound.{bound_rows}
use Rattle.platform_file.specs.Names.{names_of}
use Rattle.platform_file.specs.Platform.{bound_initiator, bound_router, checked_sums, checked_windows, platform_of_table}
use Rattle.platform_file.specs.Tables.{platform_keys}
use Rattle.platform_file.proofs.Chains.{reads_on}

-- what follows a test may as well stand behind it
tested : {A B C E : Type 0} (test : Result A E) (x : B) (next : B → Result C E) → ((test >>= λ _. Ok x) >>= next) ≡ (test >>= λ _. next x)
tested (Ok y) x next = refl
tested (Err e) x next = refl

routed : {A B C D E : Type 0} (routers : Result A E) (test : A → Result B E) (made : A → C) (next : C → Result D E)
    → ((routers >>= λ r. test r >>= λ _. Ok (made r)) >>= next) ≡ (routers >>= λ r. test r >>= λ _. next (made r))
routed (Ok r) test made next = tested (test r) (made r) next
routed (Err e) test made next = refl

bound : {A B C D F E : Type 0} (initiators : Result F E) (routers : Result A E) (test : A → Result B E) (made : F → A → C) (next : C → Result D E)
    → ((initiators >>= λ i. routers >>= λ r. test r >>= λ _. Ok (made i r)) >>= next) ≡ (initiators >>= λ i. routers >>= λ r. test r >>= λ _. next (made i r))
bound (Ok i) routers test made next = routed routers test (made i) next
bound (Err e) routers test made next = refl

named : {A B C D F G E : Type 0} (names : Result G E) (initiators : G → Result F E) (routers : G → Result A E) (test : A → Result B E) (made : F → A → C) (next : C → Result D E)
    → ((names >>= λ n. initiators n >>= λ i. routers n >>= λ r. test r >>= λ _. Ok (made i r)) >>= next)
    ≡ (names >>= λ n. initiators n >>= λ i. routers n >>= λ r. test r >>= λ _. next (made i r))
named (Ok n) initiators routers test made next = bound (initiators n) (routers n) test made next
named (Err e) initiators routers test made next = refl

abbrev bound_by : List InitiatorRow → List RouterRow → BoundRows
bound_by initiators routers = record { initiators = initiators; routers = routers }

-- what follows once all names are bound
abbrev pub summed : PlatformKeys → BoundRows → Result Platform PlatformRefusal
summed keys rows =
    checked_sums keys.memories >>= λ _.
    Ok (record { version = keys.version; quantum = keys.quantum; initiators = rows.initiators; routers = rows.routers; memories = keys.memories })

pub table_apart : (t : Members) (keys : PlatformKeys) → platform_keys t ≡ Ok keys → (bound_rows keys >>= summed keys) ≡ platform_of_table t
unfolding platform_of_table bound_rows
table_apart t keys is =
    sym (reads_on _ _ _ _ is
    (sym (named (names_of keys) (λ n. rows_from (bound_initiator n) 0 keys.initiators) (λ n. rows_from (bound_router n) 0 keys.routers) (λ r. rows_from checked_windows 0 r) bound_by (summed keys))))
