-- Tickets that move from one wallet to another.
use Rattle.std.specs.Prelude.{ℕ, ◌≡◌, ◌+◌, ◌==◌, if◌then◌else◌}
use Rattle.atomic_table.specs.Seated.{TableId}
use Rattle.token_book.specs.Purse.{Purse, IsOf, left_of, bytes_of}

-- so many tickets of an object are gone from a wallet, with so many bytes of it
pub record Gives (tokens : TableId) (object tickets bytes : ℕ) (old new : Purse) : Type 0 where
  pub of : IsOf tokens new
  pub places : new.places ≡ old.places
  pub left : (o : ℕ) → (if o == object then left_of new o + tickets else left_of new o) ≡ left_of old o
  pub bytes_left : (o : ℕ) → (if o == object then bytes_of new o + bytes else bytes_of new o) ≡ bytes_of old o

-- and so many came into it
pub record Gets (tokens : TableId) (object tickets bytes : ℕ) (old new : Purse) : Type 0 where
  pub of : IsOf tokens new
  pub places : new.places ≡ old.places
  pub left : (o : ℕ) → left_of new o ≡ (if o == object then left_of old o + tickets else left_of old o)
  pub bytes_got : (o : ℕ) → bytes_of new o ≡ (if o == object then bytes_of old o + bytes else bytes_of old o)
