-- Room for what the initiators hand in.
use Rattle.std.specs.Prelude.{ℕ, ◌≡◌, ◌≤◌, [], vec_capacity}
use Rattle.plat_run.specs.declared.ending.HandedIn.{HandedIn}

-- nothing is handed in yet, and there is room for what so many initiators leave
pub record AwaitsAll (count : ℕ) (h : HandedIn) : Type 0 where
  pub no_end : h.ends.items ≡ []
  pub no_wallet : h.wallets.items ≡ []
  pub no_note : h.notes.items ≡ []
  pub ends : count ≤ vec_capacity h.ends
  pub wallets : count ≤ vec_capacity h.wallets
  pub notes : count ≤ vec_capacity h.notes
