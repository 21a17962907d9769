-- An object's numbers are those of the object under the lock.
use Rattle.std.proofs.Common.{◌≡◌, ℕ, ap, sym, ◌∙◌}
use Rattle.shared_object.specs.Standing.{Numbers}

abbrev pub numbers : ℕ → ℕ → Numbers
numbers number own = record { number = number; own = own }

pub numbers_are : (n : Numbers) (number own number' own' : ℕ) → n ≡ numbers number own → number' ≡ number → own' ≡ own → n ≡ numbers number' own'
numbers_are n number own number' own' is first second = is ∙ ap (λ (k : ℕ). numbers k own) (sym first) ∙ ap (λ (k : ℕ). numbers number' k) (sym second)
