-- What is seen of the log of an object.
use Rattle.std.specs.Prelude.{ℕ, Bool, ◌-◌, List, ◌∷◌, [], ◌++◌}
use Rattle.tlm_types.specs.declared.entry.Entry.{Entry}
use Rattle.tlm_types.specs.Entries.{kept_of}

-- its entries in order, for how many it has room, for how many more bytes of accesses, and whether all its entries are
-- in store, so that they can be read
pub record LogView : Type 0 where
  pub entries : List Entry
  pub room : ℕ
  pub room_bytes : ℕ
  pub whole : Bool

-- the log with one more entry, whose bytes come out of its room
abbrev pub with_entry : LogView → Entry → LogView
with_entry log e = record log { entries = log.entries ++ e ∷ []; room_bytes = log.room_bytes - kept_of e.what }
