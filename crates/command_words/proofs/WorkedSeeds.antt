-- Words that are seeds, or none.
use Rattle.std.specs.Prelude.{◌≡◌, Some, None, codes}
use Rattle.std.proofs.Common.{refl}
use Rattle.std.specs.Fmt.{digits}
use Rattle.command_words.specs.Words.{seed_of}

pub seven : seed_of (codes "7") ≡ Some 7
unfolding digits
seven = refl

pub zero_is_one : seed_of (codes "0") ≡ Some 0
unfolding digits
zero_is_one = refl

pub greatest : seed_of (codes "18446744073709551615") ≡ Some 18446744073709551615
unfolding digits
greatest = refl

pub zero_before : seed_of (codes "07") ≡ None
unfolding digits
zero_before = refl

pub signed : seed_of (codes "+7") ≡ None
unfolding digits
signed = refl
