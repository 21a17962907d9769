-- A command line that asks for a valid plan, of files that are told, isn't refused.
use Rattle.std.proofs.Common.{◌≡◌, ℕ, zero, suc, ◌<◌, List, [], ◌∷◌, length, Option, Some, None, Ok, Err, refl, ap, sym, subst, ◌∙◌, arith}
use Rattle.std.specs.Prelude.{slice_get, IfSome}
use Rattle.std.specs.List.{AllByRecursion}
use Rattle.platform_model.specs.Reading.{PlatformRefusal}
use Rattle.tlm_model.specs.declared.operation.Operation.{Operation}
use Rattle.tlm_model.specs.declared.platform.InitiatorRow.{InitiatorRow}
use Rattle.tlm_model.specs.declared.platform.Platform.{Platform}
use Rattle.traffic_script.specs.Lines.{script_of}
use Rattle.tlm_model.specs.Plan.{Plan}
use Rattle.route_plan.specs.Valid.{IsValid, checked_plan}
use Rattle.command_words.specs.Words.{CommandLine, run, script, gen}
use Rattle.plan_loads.specs.Generated.{platform_name}
use Rattle.plan_loads.specs.Files.{Files, Holding, shaped_platform, IsText, IsPlan, IsPlatform, IsScript, AreScripts, HasRefusedFile, HasRefusedPlan, IsPlatformRefused, by_its_file, by_its_counts, IsNext, IsScriptRefused, IsLoaded, as_platform, as_script, IsLong, file_limit}
use Rattle.plan_loads.specs.Told.{AreTold, HasToldPlatform, IsTold}

held_text : (bytes text : List ℕ) (o : Option (List ℕ)) → o ≡ Some bytes → IfSome o (λ b. text ≡ b) → text ≡ bytes
held_text bytes text None is same = cc
held_text bytes text (Some b) is same = let e : b ≡ bytes = cc in same ∙ e

-- a told file has one text
text_is : (h : Holding) (name a b : List ℕ) → IsTold h name → IsText h name a → IsText h name b → a ≡ b
text_is h name a b told first second = held_text told.bytes a (h name) told.held first.held ∙ sym (held_text told.bytes b (h name) told.held second.held)

pub not_long : (h : Holding) (name : List ℕ) → IsTold h name → ¬ IsLong h name
not_long h name told long = by_case (h name) told.held long
  where
    by_case : (o : Option (List ℕ)) → o ≡ Some told.bytes → IfSome o (λ b. file_limit < length b) → ⊥
    by_case None is l = cc
    by_case (Some b) is l = let e : b ≡ told.bytes = cc in let n = ap length e in let fits = told.fits in omega (arith, n, l, fits)

platform_is : (h : Holding) (command : CommandLine) (p q : Platform) → HasToldPlatform h command → IsPlatform h command p → IsPlatform h command q → p ≡ q
platform_is h (run file workers trace) p q told first second =
    let same = text_is h file first.text second.text told first.loaded second.loaded in
    let read : Ok p ≡ Ok q = sym first.read ∙ (ap shaped_platform same ∙ second.read) in cc
platform_is h (script file) p q told first second = first ∙ sym second
platform_is h (gen seed workers) p q told first second =
    let same = text_is h platform_name first.text second.text told first.loaded second.loaded in
    let read : Ok p ≡ Ok q = sym first.read ∙ (ap shaped_platform same ∙ second.read) in cc

script_is : (h : Holding) (version : ℕ) (name : List ℕ) (a b : List Operation) → IsTold h name → IsScript h version name a → IsScript h version name b → a ≡ b
script_is h version name a b told first second =
    let same = text_is h name first.text second.text told first.loaded second.loaded in
    let read : Ok a ≡ Ok b = sym first.read ∙ (ap (script_of version) same ∙ second.read) in cc

scripts_are : (h : Holding) (version : ℕ) (rows : List InitiatorRow) (xs ys : List (List Operation)) → AllByRecursion (λ (row : InitiatorRow). IsTold h row.script) rows → AreScripts h version rows xs → AreScripts h version rows ys → xs ≡ ys
scripts_are h version [] [] [] told first second = refl
scripts_are h version [] [] (y ∷ ys) told first second = absurd second
scripts_are h version [] (x ∷ xs) ys told first second = absurd first
scripts_are h version (row ∷ rows) [] ys told first second = absurd first
scripts_are h version (row ∷ rows) (x ∷ xs) [] told first second = absurd second
scripts_are h version (row ∷ rows) (x ∷ xs) (y ∷ ys) told first second =
    let head = script_is h version row.script x y told.0 first.0 second.0 in
    let rest = scripts_are h version rows xs ys told.1 first.1 second.1 in cc

-- a command line asks for a valid plan of these files, which are told
pub record IsAmpleOver (f : Files) (command : CommandLine) : Type 0 where
  pub plan : Plan
  pub asked : IsPlan f.holds command plan
  pub valid : IsValid plan
  pub told : AreTold f command plan

-- the script of an initiator, and that its file is told
pub record HasScript (h : Holding) (version : ℕ) (row : InitiatorRow) : Type 0 where
  pub operations : List Operation
  pub is : IsScript h version row.script operations
  pub told : IsTold h row.script

script_at : (h : Holding) (version : ℕ) (rows : List InitiatorRow) (xs : List (List Operation)) (n : ℕ) (row : InitiatorRow) → AllByRecursion (λ (r : InitiatorRow). IsTold h r.script) rows → AreScripts h version rows xs → slice_get rows n ≡ Some row → HasScript h version row
script_at h version [] xs n row told are at = cc
script_at h version (r ∷ rows) [] n row told are at = absurd are
script_at h version (r ∷ rows) (x ∷ xs) zero row told are at =
    let e : r ≡ row = cc in subst (λ (i : InitiatorRow). HasScript h version i) e (record { operations = x; is = are.0; told = told.0 })
script_at h version (r ∷ rows) (x ∷ xs) (suc n) row told are at = script_at h version rows xs n row told.1 are.1 at

-- the script that is loaded next is one of the plan
next_script : (f : Files) (command : CommandLine) (n : ℕ) (row : InitiatorRow) (ample : IsAmpleOver f command) → IsNext f.holds command n row → HasScript f.holds ample.plan.platform.version row
next_script f command n row ample next =
    let same = platform_is f.holds command next.platform ample.plan.platform ample.told.platform next.asked ample.asked.platform in
    script_at f.holds ample.plan.platform.version ample.plan.platform.initiators ample.plan.scripts n row ample.told.scripts ample.asked.scripts
    (ap (λ (p : Platform). slice_get p.initiators n) (sym same) ∙ next.next)

no_refused_file : (f : Files) (command : CommandLine) (r : PlatformRefusal) → IsAmpleOver f command → HasRefusedFile f.holds command r → ⊥
no_refused_file f (run file workers trace) r ample refused =
    let p = ample.asked.platform in
    let same = text_is f.holds file p.text refused.text ample.told.platform p.loaded refused.loaded in
    let wrong : Ok ample.plan.platform ≡ Err r = sym p.read ∙ (ap shaped_platform same ∙ refused.refused) in cc
no_refused_file f (script file) r ample refused = refused
no_refused_file f (gen seed workers) r ample refused =
    let p = ample.asked.platform in
    let same = text_is f.holds platform_name p.text refused.text ample.told.platform p.loaded refused.loaded in
    let wrong : Ok ample.plan.platform ≡ Err r = sym p.read ∙ (ap shaped_platform same ∙ refused.refused) in cc

no_refused_plan : (f : Files) (command : CommandLine) (r : PlatformRefusal) → IsAmpleOver f command → HasRefusedPlan f.holds command r → ⊥
no_refused_plan f command r ample refused =
    let same = platform_is f.holds command refused.plan.platform ample.plan.platform ample.told.platform refused.asked.platform ample.asked.platform in
    let scripts = scripts_are f.holds ample.plan.platform.version ample.plan.platform.initiators refused.plan.scripts ample.plan.scripts ample.told.scripts
    (subst (λ (p : Platform). AreScripts f.holds p.version p.initiators refused.plan.scripts) same refused.asked.scripts) ample.asked.scripts in
    let plans : refused.plan ≡ ample.plan = λ i. record { platform = same i; scripts = scripts i } in
    let wrong : Ok tt ≡ Err r = sym ample.valid.limits ∙ (ap checked_plan (sym plans) ∙ refused.refused) in cc

pub no_refused_platform : (f : Files) (command : CommandLine) (r : PlatformRefusal) → IsAmpleOver f command → IsPlatformRefused f.holds command r → ⊥
no_refused_platform f command r ample (by_its_file refused) = no_refused_file f command r ample refused
no_refused_platform f command r ample (by_its_counts refused) = no_refused_plan f command r ample refused

pub no_refused_script : (f : Files) (command : CommandLine) (n : ℕ) (name : List ℕ) (line : ℕ) → IsAmpleOver f command → (r : _) → IsScriptRefused f.holds command n name r → ⊥
no_refused_script f command n name line ample r refused =
    let s = next_script f command n refused.row ample refused.first in
    let same = text_is f.holds refused.row.script s.is.text refused.text s.told s.is.loaded refused.loaded in
    let platform = platform_is f.holds command refused.first.platform ample.plan.platform ample.told.platform refused.first.asked ample.asked.platform in
    let version = ap (λ (p : Platform). script_of p.version refused.text) platform in
    let wrong : Ok s.operations ≡ Err r = sym s.is.read ∙ (ap (script_of ample.plan.platform.version) same ∙ (sym version ∙ refused.refused)) in cc

pub loaded_is_told : (f : Files) (command : CommandLine) (name : List ℕ) → IsAmpleOver f command → IsLoaded f.holds command name → IsTold f.holds name
loaded_is_told f (run file workers trace) name ample (as_platform is) = subst (λ (n : List ℕ). IsTold f.holds n) (sym is) ample.told.platform
loaded_is_told f (script file) name ample (as_platform is) = absurd is
loaded_is_told f (gen seed workers) name ample (as_platform is) = subst (λ (n : List ℕ). IsTold f.holds n) (sym is) ample.told.platform
loaded_is_told f command name ample (as_script next) =
    subst (λ (n : List ℕ). IsTold f.holds n) (sym next.named) (next_script f command next.number next.row ample next.next).told
