-- What contracts see of a payload, and the access that it stands for (IEEE 1666-2011, clause 14).
use Rattle.std.specs.Prelude.{ℕ, ◌≡◌, ◌+◌, ◌<◌, ◌≤◌, Bool, false, List, [], length, take, drop}
use Rattle.tlm_types.specs.declared.words.Command.{Command}
use Rattle.tlm_types.specs.declared.words.Command.TheVariants.{Read, Write, Ignore, FetchAdd}
use Rattle.tlm_types.specs.declared.words.Response.{Response}
use Rattle.tlm_types.specs.declared.words.Response.TheVariants.{Incomplete}
use Rattle.tlm_types.specs.declared.entry.Access.{Access}
use Rattle.tlm_model.specs.Store.{span_of}
use Rattle.generic_payload.specs.declared.payload.Attributes.{Attributes}

-- a payload's attributes, and how many data bytes and enables it can hold
pub record PayloadView : Type 0 where
  pub command : Command
  pub address : ℕ
  pub bytes : List ℕ
  pub enables : List ℕ
  pub width : ℕ
  pub status : Response
  pub hint : Bool
  pub room : ℕ

-- what contracts see of a payload's attributes
abbrev pub viewed : Attributes → PayloadView
viewed a = record { command = a.command; address = a.address; bytes = a.bytes.items; enables = a.enables.items; width = a.width; status = a.status; hint = a.hint; room = a.room }

-- a new payload with this room
abbrev pub new_payload : ℕ → PayloadView
new_payload room = record { command = Ignore; address = 0; bytes = []; enables = []; width = 0; status = Incomplete; hint = false; room = room }

-- the access that a payload asks for
abbrev pub access_of : PayloadView → Access
access_of p = record { command = p.command; offset = p.address; length = length p.bytes; sent = p.bytes; enables = p.enables; width = p.width }

-- the access of these bytes to the first places of a memory
abbrev pub access_from_start : List ℕ → List ℕ → ℕ → Access
access_from_start bytes enables width = record { command = Write; offset = 0; length = length bytes; sent = bytes; enables = enables; width = width }

-- the data of a fetch_add is one word
abbrev pub HasWord : Command → List ℕ → ℕ → Type 0
HasWord Read bytes width = Unit {0}
HasWord Write bytes width = Unit {0}
HasWord Ignore bytes width = Unit {0}
HasWord FetchAdd bytes width = (length bytes ≡ 4) × (width ≡ 4)

-- a read, a write or a fetch_add finds its places among this many bytes
pub record HasPlaces (a : Access) (size : ℕ) : Type 0 where
  pub inside : a.offset + span_of a ≤ size
  pub wide : 0 < a.width

-- the bytes of a memory that a debug read moves
abbrev pub moved_by : PayloadView → List ℕ → List ℕ
moved_by p store = take (length p.bytes) (drop p.address store)
