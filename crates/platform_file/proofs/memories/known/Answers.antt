use Rattle.std.proofs.Common.{◌≡◌, ap, arith, false, nat_eq, refl}
use Rattle.std.proofs.lemmas.Bool.Decides.{nat_tests}
use Rattle.platform_file.specs.Tables.{memory_key_names}
use Rattle.platform_file.proofs.memories.known.Goals as goal

pub returns-then-version-eq2 : goal.returns-then-version-eq2
returns-then-version-eq2 c =
    let two : c.args.version ≡ 2 = omega arith in
    let names : memory_key_names c.args.version ≡ memory_key_names 2 = ap memory_key_names two in
    rw names c.known.ensures

pub returns : goal.returns
returns c =
    let other : nat_eq c.args.version 2 ≡ false = grind (arith, nat_tests) in
    let names : memory_key_names c.args.version ≡ memory_key_names 1 = rw other refl in
    rw names c.known-2.ensures
