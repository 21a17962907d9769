-- Reading with the first fault: what is read, or a refusal.
use Rattle.std.specs.Prelude.{◌≡◌, ℕ, ◌+◌, List, [], ◌∷◌, Option, Some, None, Result, Ok}
use Rattle.tlm_types.specs.Reading.{◌>>=◌, FailsAs, Returns}
use Rattle.platform_model.specs.declared.fault.PlatformCode.{PlatformCode}
use Rattle.platform_model.specs.declared.fault.PlatformFault.{PlatformFault}
use Rattle.platform_model.specs.declared.fault.PlatformFault.TheVariants as fault
use Rattle.platform_model.specs.declared.place.Place.{Place}
use Rattle.platform_model.specs.Place.{table_text}

-- why a platform is refused
pub record PlatformRefusal : Type 0 where
  pub code : PlatformCode
  pub table : List ℕ
  pub key : List ℕ

-- the refusal with a code at a table and a key
abbrev pub refusal : PlatformCode → Place → List ℕ → PlatformRefusal
refusal c at k = record { code = c; table = table_text at; key = k }

-- The fault is this refusal, unless memory ran out.
abbrev pub Tells : PlatformFault → PlatformRefusal → Type 0
Tells fault.Memory r = Unit {0}
Tells (fault.Refused code table key) r = let told : PlatformRefusal = record { code = code; table = table; key = key } in r ≡ told

-- what a fault says: nothing where memory ran out
abbrev pub platform_refusal_of : PlatformFault → Option PlatformRefusal
platform_refusal_of fault.Memory = None
platform_refusal_of (fault.Refused code table key) = Some (record { code = code; table = table; key = key })

-- the fault is the one of the reading, unless memory ran out
abbrev pub Fails : {A : Type 0} → PlatformFault → Result A PlatformRefusal → Type 0
Fails f read = FailsAs (platform_refusal_of f) read

-- what a function returned, seen by a view, is what reading gives, unless memory ran out
abbrev pub GivesBy : {X A : Type 0} → (X → A) → Result X PlatformFault → Result A PlatformRefusal → Type 0
GivesBy view result read = Returns platform_refusal_of view result read

-- the same of what needs no view
abbrev pub Gives : {A : Type 0} → Result A PlatformFault → Result A PlatformRefusal → Type 0
Gives result read = Returns platform_refusal_of (λ x. x) result read

-- each of some items in order, counted from a number
unfoldable pub rows_from : {X A : Type 0} → (ℕ → X → Result A PlatformRefusal) → ℕ → List X → Result (List A) PlatformRefusal
rows_from read i [] = Ok []
rows_from read i (x ∷ xs) = do
  row ← read i x
  rows ← rows_from read (i + 1) xs
  Ok (row ∷ rows)
