use Rattle.std.proofs.Common.{ap, Some, Option, ℕ}
use Rattle.command_words.specs.Words.{gen_line}
use Rattle.command_words.proofs.WorkedSeeds.{greatest, seven, zero_is_one}
use Rattle.command_words.proofs.worked.seeded.Goals as goal

pub returns-clause-seed : goal.returns-clause-seed
returns-clause-seed c = ap (λ (s : Option ℕ). gen_line s (Some 4)) seven

pub returns-clause-zero_seed : goal.returns-clause-zero_seed
returns-clause-zero_seed c = ap (λ (s : Option ℕ). gen_line s (Some 1)) zero_is_one

pub returns-clause-last_seed : goal.returns-clause-last_seed
returns-clause-last_seed c = ap (λ (s : Option ℕ). gen_line s (Some 16)) greatest
