-- What holds of each operation of a script.
use Rattle.std.specs.Prelude.{◌≡◌, ℕ, ◌^◌, ◌<◌, ◌≤◌, ◌⊎◌, List, [], ◌∷◌, length, Option, IfSome}
use Rattle.std.specs.List.{AllByRecursion}
use Rattle.tlm_model.specs.declared.operation.Operation.{Operation}
use Rattle.tlm_model.specs.declared.operation.Operation.TheVariants.{Write, Read, Ignore, Debug, Copy, Add, FetchAdd, Wait, Sync, Fence, Invalidate}
use Rattle.traffic_script.specs.declared.statement.Statement.{Statement}
use Rattle.traffic_script.specs.declared.statement.Statement.TheVariants.{Asks, Repeats, Ends}
use Rattle.traffic_script.specs.Drafts.{Draft, count_of, body_of}

-- a length of 1 to 4,096 bytes
pub record IsLength (n : ℕ) : Type 0 where
  pub some : 1 ≤ n
  pub few : n ≤ 4096

-- at most 4,096 byte enables, each 0 or 255
pub record AreEnables (enables : List ℕ) : Type 0 where
  pub few : length enables ≤ 4096
  pub each : AllByRecursion (λ b. (b ≡ 0) ⊎ (b ≡ 255)) enables

-- each is a byte
abbrev pub AreBytes : List ℕ → Type 0
AreBytes [] = Unit {0}
AreBytes (b ∷ bs) = (b < 256) × AreBytes bs

-- a write or a read
pub record IsProperAccess (address count : ℕ) (enables : List ℕ) (width : Option ℕ) : Type 0 where
  pub addressed : address < 2 ^ 64
  pub sized : IsLength count
  pub enabled : AreEnables enables
  pub wide : IfSome width (λ w. w < 2 ^ 64)

-- numbers are below 2^64, lengths of data 1 to 4,096, and what a write sends is bytes
abbrev pub IsProper : Operation → Type 0
IsProper (Write address bytes enables width) = IsProperAccess address (length bytes) enables width × AreBytes bytes
IsProper (Read address n enables width) = IsProperAccess address n enables width
IsProper (Ignore address) = address < 2 ^ 64
IsProper (Debug address n) = (address < 2 ^ 64) × IsLength n
IsProper (Copy from to n) = (from < 2 ^ 64) × (to < 2 ^ 64) × IsLength n
IsProper (Add address n) = (address < 2 ^ 64) × (n < 2 ^ 32)
IsProper (FetchAdd address n) = (address < 2 ^ 64) × (n < 2 ^ 32)
IsProper (Wait time) = time < 2 ^ 64
IsProper Sync = Unit {0}
IsProper Fence = Unit {0}
IsProper (Invalidate address n) = (address < 2 ^ 64) × (0 < n) × (n < 2 ^ 64)

-- the operations of a script: at most 100,000
pub record AreProper (operations : List Operation) : Type 0 where
  pub few : length operations ≤ 100000
  pub each : AllByRecursion IsProper operations

-- a repeat is done 1 to 100,000 times
pub record AreTimes (n : ℕ) : Type 0 where
  pub some : 1 ≤ n
  pub few : n ≤ 100000

abbrev pub IsProperStatement : Statement → Type 0
IsProperStatement (Asks operation) = IsProper operation
IsProperStatement (Repeats times) = AreTimes times
IsProperStatement Ends = Unit {0}

-- a script of which so many lines are read
pub record IsProperDraft (d : Draft) : Type 0 where
  pub few : count_of d ≤ 100000
  pub each : AllByRecursion IsProper d.before
  pub inner : AllByRecursion IsProper (body_of d.block)
  pub times : IfSome d.block (λ b. AreTimes b.times)

-- proper operations with their number
pub record IsCounted (count : ℕ) (operations : List Operation) : Type 0 where
  pub counted : count ≡ length operations
  pub proper : AreProper operations
