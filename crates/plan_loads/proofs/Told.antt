-- Generated files are told, and none of them is too long.
use Rattle.std.proofs.Common.{ℕ, zero, suc, ◌+◌, ◌-◌, ◌*◌, ◌%◌, ◌<◌, ◌≤◌, ◌^◌, ◌==◌, ◌||◌, Bool, true, false, List, [], ◌∷◌, ◌++◌, Some, length, replicate, refl, arith, codes, unwrap_or, if◌then◌else◌, length-append}
use Rattle.std.proofs.Math.Nat.{mod-lt}
use Rattle.std.proofs.lemmas.Bool.{leb-true}
use Rattle.std.proofs.lemmas.List.{length-replicate}
use Rattle.std.specs.Prelude.{find, nat_eq}
use Rattle.std.specs.Option.{option_map}
use Rattle.std.specs.Cmp.Lexicographic.{pointwise}
use Rattle.std.specs.Fmt.{digits}
use Rattle.std.specs.List.{AllByRecursion}
use Rattle.outside.specs.Files.{held_or_empty}
use Rattle.outside.specs.declared.libraries.NamedFile.{NamedFile}
use Rattle.tlm_model.specs.declared.platform.InitiatorRow.{InitiatorRow}
use Rattle.tlm_model.specs.Plan.{Plan}
use Rattle.tlm_model.specs.Text.{address_word}
use Rattle.line_text.proofs.HexLemmas.{length-within}
use Rattle.traffic_gen.specs.Numbers.{drawn, next}
use Rattle.traffic_gen.specs.Texts.{behind_bridge, data_of, line, lines, on_bus, platform_text, read_line, scripts, value_of, write_line}
use Rattle.command_words.specs.Words.{gen}
use Rattle.plan_loads.specs.Generated.{generated, generated_files, named_files, platform_name, script_names}
use Rattle.plan_loads.specs.Files.{generated_library, HasFailed}
use Rattle.plan_loads.specs.Told.{AreTold, IsTold}

-- ---- lines are short

next-small : (x : ℕ) → next x < 2 ^ 64
next-small x = mod-lt (x * 6364136223846793005 + 1442695040888963407) {m = 2 ^ 64} (omega arith)

data-short : (x : ℕ) → x < 2 ^ 64 → length (data_of x) ≤ 16
data-short x small =
    let ds = digits 16 false x in
    let few = length-within x small in
    omega (arith, few.0, few.1, length-append (replicate (16 - length ds) 48) ds, length-replicate {A = ℕ} (16 - length ds) 48)

address-short : (a : ℕ) → a < 2 ^ 64 → length (address_word a) ≤ 18
address-short a small = let few = length-within a small in omega (arith, few.1, length-append (codes "0x") (digits 16 false a))

write-short : (a x : ℕ) → a < 2 ^ 64 → x < 2 ^ 64 → length (write_line a x) ≤ 64
write-short a x small less =
    omega (
      arith,
      address-short a small,
      data-short x less,
      length-append (codes "write " ++ (address_word a ++ 32 ∷ data_of x)) (10 ∷ []),
      length-append (address_word a) (32 ∷ data_of x),
    )

read-short : (a : ℕ) → a < 2 ^ 64 → length (read_line a) ≤ 64
read-short a small =
    omega (
      arith,
      address-short a small,
      length-append (codes "read " ++ (address_word a ++ codes " 8")) (10 ∷ []),
      length-append (address_word a) (codes " 8"),
    )

on-bus-small : (x : ℕ) → on_bus x < 2 ^ 64
on-bus-small x = let m = mod-lt (value_of x) {m = 8192} (omega arith) in omega (arith, m)

behind-small : (first x : ℕ) → first ≤ 0x101000 → behind_bridge first x < 2 ^ 64
behind-small first x small = let m = mod-lt (value_of x) {m = 512} (omega arith) in omega (arith, m, small)

line-short : (k x : ℕ) → x < 2 ^ 64 → length (line k x) ≤ 64
line-short k x small = go ((k == 0) || (k == 2)) (k == 4) (k == 5) (k == 6)
  where
    go : (a b c d : Bool) → length (if a then write_line (on_bus x) x
        else (if b then read_line (behind_bridge 0x100000 x)
        else (if c then write_line (behind_bridge 0x101000 x) x
        else (if d then read_line (behind_bridge 0x101000 x) else read_line (on_bus x))))) ≤ 64
    go true b c d = write-short (on_bus x) x (on-bus-small x) small
    go false true c d = read-short (behind_bridge 0x100000 x) (behind-small 0x100000 x (omega arith))
    go false false true d = write-short (behind_bridge 0x101000 x) x (behind-small 0x101000 x (omega arith)) small
    go false false false true = read-short (behind_bridge 0x101000 x) (behind-small 0x101000 x (omega arith))
    go false false false false = read-short (on_bus x) (on-bus-small x)

lines-short : (k n x : ℕ) → length (lines k n x) ≤ 64 * n
unfolding lines
lines-short k zero x = omega arith
lines-short k (suc n) x =
    omega (arith, length-append (line (k % 8) (next x)) (lines (k + 1) n (next x)), line-short (k % 8) (next x) (next-small x), lines-short (k + 1) n (next x))

-- ---- so are the files

abbrev IsShort : List ℕ → Type 0
IsShort text = length text ≤ 4194304

scripts-short : (m x : ℕ) → AllByRecursion IsShort (scripts m x)
unfolding scripts
scripts-short zero x = tt
scripts-short (suc m) x = (omega (arith, lines-short 0 8000 x), scripts-short m (drawn 8000 x))

platform-short : IsShort platform_text
unfolding platform_text
platform-short = leb-true (length platform_text) 4194304 refl

named-short : (names texts : List (List ℕ)) → AllByRecursion IsShort texts → AllByRecursion (λ (f : NamedFile). IsShort f.bytes) (named_files names texts)
named-short [] texts short = tt
named-short (name ∷ names) [] short = tt
named-short (name ∷ names) (text ∷ texts) short = (short.0, named-short names texts short.1)

held-short : (files : List NamedFile) (name : List ℕ) → AllByRecursion (λ (f : NamedFile). IsShort f.bytes) files → IsShort (held_or_empty files name)
held-short [] name short = omega arith
held-short (f ∷ files) name short = go (pointwise nat_eq f.name name) (held-short files name short.1)
  where
    go : (b : Bool) → IsShort (held_or_empty files name)
        → IsShort (unwrap_or (option_map (λ (g : NamedFile). g.bytes) (if b then Some f else find (λ (g : NamedFile). pointwise nat_eq g.name name) files)) [])
    go true rest = short.0
    go false rest = rest

pub generated_is_told : (seed : ℕ) (name : List ℕ) → IsTold (generated seed) name
generated_is_told seed name = record {
  bytes = held_or_empty (generated_files seed) name;
  held = refl;
  fits = held-short (generated_files seed) name (platform-short, named-short script_names (scripts 4 seed) (scripts-short 4 seed));
}

-- ---- and no load of them fails

pub no_failed_load : (seed : ℕ) (name : List ℕ) → ¬ HasFailed (generated_library seed) name
no_failed_load seed name rose = omega (arith, rose)

rows-told : (seed : ℕ) (rows : List InitiatorRow) → AllByRecursion (λ (row : InitiatorRow). IsTold (generated seed) row.script) rows
rows-told seed [] = tt
rows-told seed (row ∷ rows) = (generated_is_told seed row.script, rows-told seed rows)

pub generated_are_told : (seed workers : ℕ) (plan : Plan) → AreTold (generated_library seed) (gen seed workers) plan
generated_are_told seed workers plan = record {
  platform = generated_is_told seed platform_name;
  scripts = rows-told seed plan.platform.initiators;
  loads = no_failed_load seed;
}
