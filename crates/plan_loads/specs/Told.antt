-- Files that a library tells.
use Rattle.std.specs.Prelude.{ℕ, ◌≡◌, ◌≤◌, List, length, Some}
use Rattle.std.specs.List.{AllByRecursion}
use Rattle.tlm_model.specs.declared.platform.InitiatorRow.{InitiatorRow}
use Rattle.tlm_model.specs.Plan.{Plan}
use Rattle.command_words.specs.Words.{CommandLine, run, script, gen}
use Rattle.plan_loads.specs.Files.{Files, Holding, HasFailed, file_limit}
use Rattle.plan_loads.specs.Generated.{platform_name}

-- the library tells a file, and it isn't too long
pub record IsTold (h : Holding) (name : List ℕ) : Type 0 where
  pub bytes : List ℕ
  pub held : h name ≡ Some bytes
  pub fits : length bytes ≤ file_limit

abbrev pub HasToldPlatform : Holding → CommandLine → Type 0
HasToldPlatform h (run file workers trace) = IsTold h file
HasToldPlatform h (script file) = Unit {0}
HasToldPlatform h (gen seed workers) = IsTold h platform_name

-- the files of this plan are told, and no failed load was counted
pub record AreTold (f : Files) (command : CommandLine) (plan : Plan) : Type 0 where
  pub platform : HasToldPlatform f.holds command
  pub scripts : AllByRecursion (λ (row : InitiatorRow). IsTold f.holds row.script) plan.platform.initiators
  pub loads : (name : List ℕ) → ¬ HasFailed f name
