use Rattle.std.proofs.Common.{ap, Some, Option, ℕ}
use Rattle.command_words.specs.Words.{gen_line}
use Rattle.command_words.proofs.WorkedSeeds.{signed, zero_before}
use Rattle.command_words.proofs.worked.refused_seeds.Goals as goal

pub returns-clause-zero_before : goal.returns-clause-zero_before
returns-clause-zero_before c = ap (λ (s : Option ℕ). gen_line s (Some 4)) zero_before

pub returns-clause-seed_sign : goal.returns-clause-seed_sign
returns-clause-seed_sign c = ap (λ (s : Option ℕ). gen_line s (Some 4)) signed
