-- The table of operations: what each makes its initiator do. All else that is said of operations is read off it.
use Rattle.std.specs.Prelude.{ℕ, ◌+◌, Bool, true, false, List, [], ◌∷◌, length, Option, Some, None, unwrap_or}
use Rattle.tlm_types.specs.declared.words.Command.{Command}
use Rattle.tlm_types.specs.declared.words.Command.TheVariants.{Read as read_command, Write as write_command, Ignore as ignore_command, FetchAdd as fetch_add_command}
use Rattle.tlm_types.specs.declared.entry.Access.{Access}
use Rattle.tlm_model.specs.declared.ask.Ask.{Ask}
use Rattle.tlm_model.specs.declared.ask.Ask.TheVariants.{Access as AnAccess, DebugRead as ADebugRead, Invalidation as AnInvalidation}
use Rattle.tlm_model.specs.declared.ask.Asks.{Asks}
use Rattle.tlm_model.specs.declared.ask.Asks.TheVariants.{Nothing, One, Two}
use Rattle.tlm_model.specs.declared.operation.Operation.{Operation}
use Rattle.tlm_model.specs.declared.operation.Operation.TheVariants.{Write, Read, Ignore, Debug, Copy, Add, FetchAdd, Wait, Sync, Fence, Invalidate}
use Rattle.tlm_model.specs.Numbers.{added, le_bytes}
use Rattle.tlm_model.specs.Store.{zeros}

-- What a request asks for: transport of an access, a debug read, or an invalidation of so many bytes. The
-- offset of an access is 0 here.
pub data Asked : Type 0 where
  Transport : Access → Asked
  DebugRead : Access → Asked
  Invalidation : ℕ → Asked

abbrev pub write_of : List ℕ → List ℕ → ℕ → Access
write_of bytes enables width = record { command = write_command; offset = 0; length = length bytes; sent = bytes; enables = enables; width = width }

abbrev pub read_of : ℕ → List ℕ → ℕ → Access
read_of n enables width = record { command = read_command; offset = 0; length = n; sent = zeros n; enables = enables; width = width }

abbrev pub ignore_of : Access
ignore_of = record { command = ignore_command; offset = 0; length = 0; sent = []; enables = []; width = 0 }

abbrev pub debug_of : ℕ → Access
debug_of n = record { command = read_command; offset = 0; length = n; sent = []; enables = []; width = n }

-- its operand's four bytes are what it sends
abbrev pub fetch_add_of : ℕ → Access
fetch_add_of n = record { command = fetch_add_command; offset = 0; length = 4; sent = le_bytes n; enables = []; width = 4 }

-- What an operation makes its initiator do. A plain access waits for nothing; each request of anything else is made
-- when nothing is outstanding, and so is what comes after it.
pub data Action : Type 0 where
  -- an access of this address
  Plain : ℕ → Access → Action
  -- one request of this address
  Alone : ℕ → Asked → Action
  -- a read at one address, and then a write at another, of so many bytes, of what this makes of those that were read
  Pair : ℕ → ℕ → ℕ → (List ℕ → List ℕ) → Action
  -- no request: so much time passes, if any, and there is a sync, or none
  Pause : Option ℕ → Bool → Action

abbrev pub action_of : Operation → Action
action_of (Write a bytes enables width) = Plain a (write_of bytes enables (unwrap_or width (length bytes)))
action_of (Read a n enables width) = Plain a (read_of n enables (unwrap_or width n))
action_of (Ignore a) = Plain a ignore_of
action_of (Debug a n) = Alone a (DebugRead (debug_of n))
action_of (Copy from to n) = Pair from to n (λ got. got)
action_of (Add a n) = Pair a a 4 (λ got. added got n)
action_of (FetchAdd a n) = Alone a (Transport (fetch_add_of n))
action_of (Wait n) = Pause (Some n) false
action_of Sync = Pause None true
action_of Fence = Pause None false
action_of (Invalidate a n) = Alone a (Invalidation n)

-- the data bytes that an access of so many logs: a fetch_add logs its operand and what it found
abbrev pub data_logged : Command → ℕ → ℕ
data_logged read_command n = n
data_logged write_command n = n
data_logged ignore_command n = n
data_logged fetch_add_command n = n + n

-- what is asked for, whatever is answered: an access and a debug read log their data, and an access its enables too
abbrev pub ask_for : ℕ → Asked → Ask
ask_for a (Transport access) = AnAccess a (data_logged access.command access.length + length access.enables)
ask_for a (DebugRead access) = ADebugRead a access.length
ask_for a (Invalidation n) = AnInvalidation a

abbrev pub asks_by : Action → List Ask
asks_by (Plain a access) = ask_for a (Transport access) ∷ []
asks_by (Alone a asked) = ask_for a asked ∷ []
asks_by (Pair from to n change) = AnAccess from n ∷ AnAccess to n ∷ []
asks_by (Pause time sync) = []

abbrev pub asks_of : Operation → List Ask
asks_of op = asks_by (action_of op)

-- the same as the code has it
abbrev pub listed : Asks → List Ask
listed Nothing = []
listed (One ask) = ask ∷ []
listed (Two first second) = first ∷ second ∷ []

abbrev pub syncs_in : Action → Bool
syncs_in (Pause time sync) = sync
syncs_in action = false
