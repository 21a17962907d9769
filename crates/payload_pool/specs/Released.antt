-- A Release as a log reads it.
use Rattle.std.specs.Prelude.{ℕ, ◌≡◌, Bool, true, false, Option, Some, None}
use Rattle.tlm_types.specs.declared.entry.Head.{Head}
use Rattle.tlm_types.specs.declared.entry.What.{What}
use Rattle.tlm_types.specs.declared.entry.What.TheVariants.{Release}
use Rattle.tlm_types.specs.declared.words.ObjectNo.TheVariants.{Pool}
use Rattle.tlm_types.specs.declared.words.TxnId.{TxnId}

-- whether a reference was given back
abbrev pub was_release : Option What → Bool
was_release None = false
was_release (Some (Release slot freed)) = true
was_release (Some what) = false

-- what was read of an entry says that it is the Release of x with this number
abbrev pub IsReleaseRead : Head → Option What → ℕ → TxnId → ℕ → Type 0
IsReleaseRead head what number x wanted = (head.object ≡ Pool x.initiator) × (head.txn ≡ x) × (number ≡ wanted) × (was_release what ≡ true)
