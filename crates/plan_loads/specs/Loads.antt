-- Why a load or what is read of it was refused.
use Rattle.std.specs.Prelude.{ℕ, ◌≡◌, List, take, Some, Err, slice_get}
use Rattle.tlm_model.specs.declared.operation.Operation.{Operation}
use Rattle.tlm_model.specs.declared.platform.InitiatorRow.{InitiatorRow}
use Rattle.traffic_script.specs.Lines.{script_of}
use Rattle.traffic_script.specs.Reading.{ScriptRefusal}
use Rattle.outside.specs.declared.traits.LoadFault.{LoadFault}
use Rattle.outside.specs.declared.traits.LoadFault.TheVariants.{Failed, TooLong as load_too_long}
use Rattle.traffic_script.specs.declared.fault.ScriptFault.{ScriptFault}
use Rattle.traffic_script.specs.declared.fault.ScriptFault.TheVariants.{Refused}
use Rattle.plan_loads.specs.Files.{Files, Holding, IsText, IsFileRefused, AreScripts, HasFailed, IsLong}
use Rattle.plan_loads.specs.declared.exit.Exit.{Exit}
use Rattle.plan_loads.specs.declared.exit.Exit.TheVariants.{PlatformRefused, ScriptRefused, ReadFault, NoMemory, TooLong}

-- the load of a file failed
abbrev pub IsLoadFault : Files → List ℕ → Exit → Type 0
IsLoadFault f name (ReadFault n) = (n ≡ name) × HasFailed f name
IsLoadFault f name (TooLong n) = (n ≡ name) × IsLong f.holds name
IsLoadFault f name NoMemory = Unit {0}
IsLoadFault f name exit = ⊥

-- the load of a platform file failed, or its text or its shape is refused
abbrev pub IsFileFault : Files → List ℕ → Exit → Type 0
IsFileFault f file (PlatformRefused code table key) = IsFileRefused f.holds file (record { code = code; table = table; key = key })
IsFileFault f file exit = IsLoadFault f file exit

-- a text under this name is refused as a script of this version
pub record IsTextRefused (h : Holding) (version : ℕ) (name : List ℕ) (refusal : ScriptRefusal) : Type 0 where
  pub text : List ℕ
  pub loaded : IsText h name text
  pub refused : script_of version text ≡ Err refusal

-- the load of the script of initiator number n failed, or its text is refused
abbrev pub IsScriptFault : Files → ℕ → ℕ → InitiatorRow → Exit → Type 0
IsScriptFault f version n row (ScriptRefused initiator name line code) =
    (initiator ≡ n) × (name ≡ row.name) × IsTextRefused f.holds version row.script (record { line = line; code = code })
IsScriptFault f version n row exit = IsLoadFault f row.script exit

-- the first script of these initiators that isn't there
pub record IsFirstFault (f : Files) (version : ℕ) (rows : List InitiatorRow) (exit : Exit) : Type 0 where
  pub number : ℕ
  pub row : InitiatorRow
  pub next : slice_get rows number ≡ Some row
  pub scripts : List (List Operation)
  pub read : AreScripts f.holds version (take number rows) scripts
  pub fault : IsScriptFault f version number row exit

-- what a load that failed is answered with
abbrev pub IsLoadAnswer : List ℕ → LoadFault → Exit → Type 0
IsLoadAnswer name Failed (ReadFault n) = n ≡ name
IsLoadAnswer name load_too_long (TooLong n) = n ≡ name
IsLoadAnswer name fault NoMemory = Unit {0}
IsLoadAnswer name fault exit = ⊥

-- what a fault of a script is answered with
abbrev pub IsScriptAnswer : ℕ → List ℕ → ScriptFault → Exit → Type 0
IsScriptAnswer number name (Refused line code) (ScriptRefused initiator n l c) = (initiator ≡ number) × (n ≡ name) × (l ≡ line) × (c ≡ code)
IsScriptAnswer number name fault NoMemory = Unit {0}
IsScriptAnswer number name fault exit = ⊥
