-- What a command line has loaded: a platform, and the scripts of its initiators.
use Rattle.std.specs.Prelude.{ℕ, ◌≡◌, ◌<◌, ◌≤◌, List, [], ◌∷◌, length, take, Option, Some, IfSome, Result, Ok, Err, slice_get}
use Rattle.outside.specs.Causes.{Rose}
use Rattle.tlm_model.specs.declared.operation.Operation.{Operation}
use Rattle.tlm_model.specs.declared.platform.InitiatorRow.{InitiatorRow}
use Rattle.tlm_model.specs.declared.platform.Platform.{Platform}
use Rattle.tlm_model.specs.Plan.{Plan}
use Rattle.platform_file.specs.Platform.{platform_of}
use Rattle.platform_model.specs.Reading.{PlatformRefusal}
use Rattle.tlm_types.specs.Reading.{◌>>=◌}
use Rattle.traffic_script.specs.Lines.{script_of}
use Rattle.traffic_script.specs.Reading.{ScriptRefusal}
use Rattle.platform_shape.specs.Shape.{checked_shape}
use Rattle.route_plan.specs.Valid.{checked_plan}
use Rattle.command_words.specs.Words.{CommandLine, run, script, gen}
use Rattle.plan_loads.specs.BuiltIn.{built_in_platform}
use Rattle.plan_loads.specs.Generated.{generated, platform_name}

-- a file of more bytes isn't read
abbrev pub file_limit : ℕ
file_limit = 4194304

-- the bytes that a library holds under each name, where it tells them
abbrev pub Holding : Type 0
Holding = List ℕ → Option (List ℕ)

-- a library before and after a call: what it holds, which stays, and its counts of faults under each name
pub record Files : Type 0 where
  pub holds : Holding
  pub faults_before : List ℕ → ℕ
  pub faults_after : List ℕ → ℕ

-- the files that are generated of a number, of which no load fails
abbrev pub generated_library : ℕ → Files
generated_library seed = record { holds = generated seed; faults_before = λ _. 0; faults_after = λ _. 0 }

-- the files that a command line reads: those of the library, or those that are generated
abbrev pub files_read : Files → CommandLine → Files
files_read f (run file workers trace) = f
files_read f (script file) = f
files_read f (gen seed workers) = generated_library seed

-- a text that was loaded under this name: the one that is held, where the library tells it, and not too long
pub record IsText (h : Holding) (name text : List ℕ) : Type 0 where
  pub held : IfSome (h name) (λ bytes. text ≡ bytes)
  pub fits : length text ≤ file_limit

-- the platform that a text describes, if its shape is good, or its first refusal
abbrev pub shaped_platform : List ℕ → Result Platform PlatformRefusal
shaped_platform text = platform_of text >>= λ p. checked_shape p >>= λ _. Ok p

-- the platform of a file
pub record IsFilePlatform (h : Holding) (file : List ℕ) (p : Platform) : Type 0 where
  pub text : List ℕ
  pub loaded : IsText h file text
  pub read : shaped_platform text ≡ Ok p

-- the platform that a command line asks for: that of its file, or the built-in one with its one script, or that of the
-- generated file
abbrev pub IsPlatform : Holding → CommandLine → Platform → Type 0
IsPlatform h (run file workers trace) p = IsFilePlatform h file p
IsPlatform h (script file) p = p ≡ built_in_platform file
IsPlatform h (gen seed workers) p = IsFilePlatform h platform_name p

-- the operations of a file, read as a script of this version
pub record IsScript (h : Holding) (version : ℕ) (name : List ℕ) (operations : List Operation) : Type 0 where
  pub text : List ℕ
  pub loaded : IsText h name text
  pub read : script_of version text ≡ Ok operations

-- the operations of the files of these initiators, in order
abbrev pub AreScripts : Holding → ℕ → List InitiatorRow → List (List Operation) → Type 0
AreScripts h version [] [] = Unit {0}
AreScripts h version [] (operations ∷ scripts) = ⊥
AreScripts h version (row ∷ rows) [] = ⊥
AreScripts h version (row ∷ rows) (operations ∷ scripts) = IsScript h version row.script operations × AreScripts h version rows scripts

-- a command line asks for this plan: a platform with the scripts of its initiators, which have its version
pub record IsPlan (h : Holding) (command : CommandLine) (plan : Plan) : Type 0 where
  pub platform : IsPlatform h command plan.platform
  pub scripts : AreScripts h plan.platform.version plan.platform.initiators plan.scripts

-- the text of a platform file is refused so, or its shape
pub record IsFileRefused (h : Holding) (file : List ℕ) (refusal : PlatformRefusal) : Type 0 where
  pub text : List ℕ
  pub loaded : IsText h file text
  pub refused : shaped_platform text ≡ Err refusal

abbrev pub HasRefusedFile : Holding → CommandLine → PlatformRefusal → Type 0
HasRefusedFile h (run file workers trace) refusal = IsFileRefused h file refusal
HasRefusedFile h (script file) refusal = ⊥
HasRefusedFile h (gen seed workers) refusal = IsFileRefused h platform_name refusal

-- the counts of a plan are refused so
pub record HasRefusedPlan (h : Holding) (command : CommandLine) (refusal : PlatformRefusal) : Type 0 where
  pub plan : Plan
  pub asked : IsPlan h command plan
  pub refused : checked_plan plan ≡ Err refusal

-- why a platform is refused: its text or its shape, before any script is loaded, or its counts, after all were read
pub data IsPlatformRefused (h : Holding) (command : CommandLine) (refusal : PlatformRefusal) : Type 0 where
  by_its_file : HasRefusedFile h command refusal → IsPlatformRefused h command refusal
  by_its_counts : HasRefusedPlan h command refusal → IsPlatformRefused h command refusal

-- The next file to be loaded is the script of initiator number n, which has this row: the scripts before it are
-- read.
pub record IsNext (h : Holding) (command : CommandLine) (n : ℕ) (row : InitiatorRow) : Type 0 where
  pub platform : Platform
  pub asked : IsPlatform h command platform
  pub scripts : List (List Operation)
  pub read : AreScripts h platform.version (take n platform.initiators) scripts
  pub next : slice_get platform.initiators n ≡ Some row

-- the script of this initiator is the first that is refused, with this refusal
pub record IsScriptRefused (h : Holding) (command : CommandLine) (n : ℕ) (name : List ℕ) (refusal : ScriptRefusal) : Type 0 where
  pub row : InitiatorRow
  pub first : IsNext h command n row
  pub named : name ≡ row.name
  pub text : List ℕ
  pub loaded : IsText h row.script text
  pub refused : script_of first.platform.version text ≡ Err refusal

abbrev pub IsPlatformFile : CommandLine → List ℕ → Type 0
IsPlatformFile (run file workers trace) name = name ≡ file
IsPlatformFile (script file) name = ⊥
IsPlatformFile (gen seed workers) name = name ≡ platform_name

pub record IsNextScript (h : Holding) (command : CommandLine) (name : List ℕ) : Type 0 where
  pub number : ℕ
  pub row : InitiatorRow
  pub next : IsNext h command number row
  pub named : name ≡ row.script

-- a command line has this file loaded: as its platform, or as the next script
pub data IsLoaded (h : Holding) (command : CommandLine) (name : List ℕ) : Type 0 where
  as_platform : IsPlatformFile command name → IsLoaded h command name
  as_script : IsNextScript h command name → IsLoaded h command name

-- loads under this name have failed, or more bytes are held than are read
abbrev pub HasFailed : Files → List ℕ → Type 0
HasFailed f name = Rose (f.faults_before name) (f.faults_after name)

abbrev pub IsLong : Holding → List ℕ → Type 0
IsLong h name = IfSome (h name) (λ bytes. file_limit < length bytes)
