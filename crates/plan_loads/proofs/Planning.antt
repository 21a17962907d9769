-- The plan of a platform and its scripts.
use Rattle.std.proofs.Common.{◌≡◌, ℕ, suc, ◌≤◌, arith, List, [], ◌∷◌, length, Result, Ok, Err, refl, ap, sym, subst}
use Rattle.outside.specs.Causes.{Rose}
use Rattle.platform_model.specs.Reading.{PlatformRefusal, Fails}
use Rattle.tlm_types.specs.Reading.{◌>>=◌}
use Rattle.platform_model.specs.declared.fault.PlatformFault.{PlatformFault}
use Rattle.platform_model.specs.declared.fault.PlatformFault.TheVariants.{Refused, Memory}
use Rattle.route_plan.specs.Valid.{checked_plan, planned}
use Rattle.command_words.specs.Words.{CommandLine}
use Rattle.tlm_model.specs.declared.operation.Operation.{Operation}
use Rattle.tlm_model.specs.declared.platform.InitiatorRow.{InitiatorRow}
use Rattle.tlm_model.specs.declared.platform.Platform.{Platform}
use Rattle.tlm_model.specs.Plan.{Plan}
use Rattle.plan_loads.specs.Exits.{exit_of}
use Rattle.plan_loads.specs.Files.{Holding, Files, IsPlatform, IsPlan, AreScripts, IsNext, by_its_counts, as_script, HasFailed, IsLong}
use Rattle.plan_loads.specs.Plans.{IsRefusal}
use Rattle.plan_loads.specs.Loads.{IsFirstFault, IsScriptFault}
use Rattle.plan_loads.specs.declared.exit.Exit.{Exit}
use Rattle.plan_loads.specs.declared.exit.Exit.TheVariants.{Done, Usage, PlatformRefused, ScriptRefused, ReadFault, WriteFault, NoMemory, TooLong}
use Rattle.plan_loads.proofs.Loading.{files, held}

pub AreScripts-length : (h : Holding) (version : ℕ) (rows : List InitiatorRow) (scripts : List (List Operation)) → AreScripts h version rows scripts → length scripts ≡ length rows
AreScripts-length h version [] [] are = refl
AreScripts-length h version [] (s ∷ scripts) are = absurd are
AreScripts-length h version (row ∷ rows) [] are = absurd are
AreScripts-length h version (row ∷ rows) (s ∷ scripts) are = ap suc (AreScripts-length h version rows scripts are.1)

within : (p q : Plan) (checked : Result (Unit {0}) PlatformRefusal) → (checked >>= λ _. Ok p) ≡ Ok q → q ≡ p
within p q (Ok tt) is = let same : p ≡ q = cc in sym same
within p q (Err e) is = cc

-- a plan that was made
pub planned_is : (h : Holding) (command : CommandLine) (p q : Plan) → IsPlatform h command p.platform → AreScripts h p.platform.version p.platform.initiators p.scripts → planned p ≡ Ok q → IsPlan h command q
unfolding planned
planned_is h command p q platform scripts is = subst (IsPlan h command) (sym (within p q (checked_plan p) is)) (record { platform = platform; scripts = scripts })

refused : (p : Plan) (checked : Result (Unit {0}) PlatformRefusal) (r : PlatformRefusal) → (checked >>= λ _. Ok p) ≡ Err r → checked ≡ Err r
refused p (Ok tt) r is = cc
refused p (Err e) r is = let same : e ≡ r = cc in ap Err same

-- a plan whose counts are refused
pub plan_refused : (h : Holding) (before after : List ℕ → ℕ) (command : CommandLine) (p : Plan) (fault : PlatformFault) → IsPlatform h command p.platform → AreScripts h p.platform.version p.platform.initiators p.scripts → Fails fault (planned p) → IsRefusal (exit_of fault) (files h before after) command
unfolding planned
plan_refused h before after command p (Refused code table key) platform scripts fails =
    by_its_counts (record { plan = p; asked = record { platform = platform; scripts = scripts }; refused = refused p (checked_plan p) _ fails })
plan_refused h before after command p Memory platform scripts fails = tt

-- scripts that aren't there
pub scripts_refused : (f : Files) (command : CommandLine) (p : Platform) (exit : Exit) → IsPlatform f.holds command p → IsFirstFault f p.version p.initiators exit → IsRefusal exit f command
scripts_refused f command p exit platform first = by_exit exit first.fault
  where
    next : IsNext f.holds command first.number first.row
    next = record { platform = p; asked = platform; scripts = first.scripts; read = first.read; next = first.next }

    by_exit : (e : Exit) → IsScriptFault f p.version first.number first.row e → IsRefusal e f command
    by_exit (Done sealed) fault = fault
    by_exit Usage fault = fault
    by_exit (PlatformRefused code table key) fault = absurd fault
    by_exit (ScriptRefused initiator name line code) fault =
        record { row = first.row; first = subst (λ (n : ℕ). IsNext f.holds command n first.row) (sym fault.0) next; named = fault.1; text = fault.2.text; loaded = fault.2.loaded; refused = fault.2.refused }
    by_exit (ReadFault name) fault =
        (as_script (record { number = first.number; row = first.row; next = next; named = fault.0 }), subst (λ (x : List ℕ). HasFailed f x) (sym fault.0) fault.1)
    by_exit (WriteFault sealed) fault = fault
    by_exit NoMemory fault = tt
    by_exit (TooLong name) fault =
        (as_script (record { number = first.number; row = first.row; next = next; named = fault.0 }), subst (λ (x : List ℕ). IsLong f.holds x) (sym fault.0) fault.1)

-- a refusal of a later part of a call is one of the whole call
pub refusal-earlier : (h0 h : Holding) (f0 f f1 : List ℕ → ℕ) (command : CommandLine) (exit : Exit) → ((x : List ℕ) → h x ≡ h0 x) → ((x : List ℕ) → f0 x ≤ f x) → IsRefusal exit (files h f f1) command → IsRefusal exit (files h0 f0 f1) command
refusal-earlier h0 h f0 f f1 command exit same later is = subst (λ (g : Holding). IsRefusal exit (files g f0 f1) command) (held h0 h same) (by_exit exit is)
  where
    rose : (a b c : ℕ) → a ≤ b → Rose b c → Rose a c
    rose a b c below r = omega (arith, below, r)

    by_exit : (e : Exit) → IsRefusal e (files h f f1) command → IsRefusal e (files h f0 f1) command
    by_exit (Done sealed) is = is
    by_exit Usage is = is
    by_exit (PlatformRefused code table key) is = is
    by_exit (ScriptRefused initiator name line code) is = is
    by_exit (ReadFault name) is = (is.0, rose (f0 name) (f name) (f1 name) (later name) is.1)
    by_exit (WriteFault sealed) is = is
    by_exit NoMemory is = tt
    by_exit (TooLong name) is = is

-- the scripts that were loaded, as the plan has them
pub AreScripts-moved : (h0 h : Holding) (v w : ℕ) (rows moved : List InitiatorRow) (scripts taken : List (List Operation)) → ((x : List ℕ) → h x ≡ h0 x) → v ≡ w → rows ≡ moved → taken ≡ scripts → AreScripts h v rows scripts → AreScripts h0 w moved taken
AreScripts-moved h0 h v w rows moved scripts taken same version to from are =
    subst (λ (g : Holding). AreScripts g w moved taken) (held h0 h same)
    (subst (λ (x : ℕ). AreScripts h x moved taken) version
    (subst (λ (rs : List InitiatorRow). AreScripts h v rs taken) to (subst (λ (ss : List (List Operation)). AreScripts h v rows ss) (sym from) are)))
