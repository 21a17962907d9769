-- A hop that was just made.
use Rattle.std.proofs.Common.{◌≡◌, ℕ, ◌≤◌, [], refl, arith}
use Rattle.token_book.specs.Account.{Account, out_of}
use Rattle.hop_object.specs.declared.call.HopTraits.{HopTraits}
use Rattle.hop_object.specs.Hops.{Kept}

pub kept_new : {T : Type 0} (number room : ℕ) (traits : HopTraits) (book : Account) → traits.lanes ≤ 16 → ((n : ℕ) → out_of n book.out ≡ 0)
    → Kept {T = T} (record { number = number; traits = traits; lanes = []; request_end = 0; response_end = 0; log = record { events = []; room = room }; book = book })
kept_new number room traits book small none =
    record {
      few = omega arith;
      small = small;
      placed = λ k d below. absurd (omega (arith, below));
      legs = none;
      follows = record { reached = refl; ordered = λ i j d first second. absurd (omega (arith, second)); own = λ k d below. absurd (omega (arith, below)); sent = λ k d below. absurd (omega (arith, below)) };
    }
