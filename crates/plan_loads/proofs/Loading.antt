-- Scripts as they are loaded one after another.
use Rattle.std.proofs.Common.{◌≡◌, ℕ, ◌+◌, ◌<◌, ◌≤◌, List, [], ◌∷◌, ◌++◌, length, take, get_or, Some, ap, sym, subst, ◌∙◌, arith}
use Rattle.std.proofs.lemmas.List.{take_more}
use Rattle.std.proofs.lemmas.Option.{slice_get-get_or}
use Rattle.outside.specs.Causes.{Rose}
use Rattle.tlm_model.specs.declared.operation.Operation.{Operation}
use Rattle.tlm_model.specs.declared.platform.InitiatorRow.{InitiatorRow}
use Rattle.plan_loads.specs.Files.{Holding, Files, IsScript, AreScripts, IsLong}
use Rattle.plan_loads.specs.Loads.{IsLoadFault, IsTextRefused, IsScriptFault, IsFirstFault}
use Rattle.plan_loads.specs.declared.exit.Exit.{Exit}
use Rattle.plan_loads.specs.declared.exit.Exit.TheVariants.{Done, Usage, PlatformRefused, ScriptRefused, ReadFault, WriteFault, NoMemory, TooLong}

abbrev pub files : Holding → (List ℕ → ℕ) → (List ℕ → ℕ) → Files
files h before after = record { holds = h; faults_before = before; faults_after = after }

-- the scripts of the first n initiators are there; h0 and f0 were before, h and f are now
pub record IsLoading (h0 : Holding) (f0 : List ℕ → ℕ) (h : Holding) (f : List ℕ → ℕ) (version : ℕ) (rows : List InitiatorRow) (n : ℕ) (scripts : List (List Operation)) : Type 0 where
  pub same : (x : List ℕ) → h x ≡ h0 x
  pub later : (x : List ℕ) → f0 x ≤ f x
  pub read : AreScripts h0 version (take n rows) scripts

pub held : (g h : Holding) → ((x : List ℕ) → h x ≡ g x) → h ≡ g
held g h same = λ i x. same x i

AreScripts-push : (h : Holding) (version : ℕ) (rows : List InitiatorRow) (scripts : List (List Operation)) (row : InitiatorRow) (script : List Operation) → AreScripts h version rows scripts → IsScript h version row.script script → AreScripts h version (rows ++ row ∷ []) (scripts ++ script ∷ [])
AreScripts-push h version [] [] row script read one = (one, tt)
AreScripts-push h version [] (s ∷ scripts) row script read one = absurd read
AreScripts-push h version (r ∷ rows) [] row script read one = absurd read
AreScripts-push h version (r ∷ rows) (s ∷ scripts) row script read one = (read.0, AreScripts-push h version rows scripts row script read.1 one)

pub loading-more : (h0 : Holding) (f0 : List ℕ → ℕ) (h : Holding) (f : List ℕ → ℕ) (h1 : Holding) (f1 : List ℕ → ℕ) (version : ℕ) (rows : List InitiatorRow) (n : ℕ) (scripts : List (List Operation)) (row : InitiatorRow) (script : List Operation) →
    n < length rows → get_or rows n row ≡ row → IsLoading h0 f0 h f version rows n scripts →
    ((x : List ℕ) → h1 x ≡ h x) → ((x : List ℕ) → f x ≤ f1 x) → IsScript h version row.script script →
    IsLoading h0 f0 h1 f1 version rows (n + 1) (scripts ++ script ∷ [])
loading-more h0 f0 h f h1 f1 version rows n scripts row script below is loading same later one = record {
  same = λ x. same x ∙ loading.same x;
  later = λ x. let a = loading.later x in let b = later x in omega (arith, a, b);
  read = subst (λ (rs : List InitiatorRow). AreScripts h0 version rs (scripts ++ script ∷ [])) (sym (take_more rows n row below ∙ ap (λ (r : InitiatorRow). take n rows ++ r ∷ []) is))
      (AreScripts-push h0 version (take n rows) scripts row script loading.read (subst (λ (g : Holding). IsScript g version row.script script) (held h0 h loading.same) one));
}

rose_earlier : (a b c : ℕ) → a ≤ b → Rose b c → Rose a c
rose_earlier a b c below rose = omega (arith, below, rose)

pub LoadFault-earlier : (h0 h : Holding) (f0 f f1 : List ℕ → ℕ) (name : List ℕ) (exit : Exit) → ((x : List ℕ) → h x ≡ h0 x) → ((x : List ℕ) → f0 x ≤ f x) → IsLoadFault (files h f f1) name exit → IsLoadFault (files h0 f0 f1) name exit
LoadFault-earlier h0 h f0 f f1 name (Done sealed) same later fault = fault
LoadFault-earlier h0 h f0 f f1 name Usage same later fault = fault
LoadFault-earlier h0 h f0 f f1 name (PlatformRefused code table key) same later fault = fault
LoadFault-earlier h0 h f0 f f1 name (ScriptRefused i m line code) same later fault = fault
LoadFault-earlier h0 h f0 f f1 name (ReadFault m) same later fault = (fault.0, rose_earlier (f0 name) (f name) (f1 name) (later name) fault.1)
LoadFault-earlier h0 h f0 f f1 name (WriteFault sealed) same later fault = fault
LoadFault-earlier h0 h f0 f f1 name NoMemory same later fault = fault
LoadFault-earlier h0 h f0 f f1 name (TooLong m) same later fault = (fault.0, subst (λ (g : Holding). IsLong g name) (held h0 h same) fault.1)

ScriptFault-earlier : (h0 h : Holding) (f0 f f1 : List ℕ → ℕ) (version n : ℕ) (row : InitiatorRow) (exit : Exit) → ((x : List ℕ) → h x ≡ h0 x) → ((x : List ℕ) → f0 x ≤ f x) → IsScriptFault (files h f f1) version n row exit → IsScriptFault (files h0 f0 f1) version n row exit
ScriptFault-earlier h0 h f0 f f1 version n row (ScriptRefused i m line code) same later fault =
    (fault.0, fault.1, subst (λ (g : Holding). IsTextRefused g version row.script (record { line = line; code = code })) (held h0 h same) fault.2)
ScriptFault-earlier h0 h f0 f f1 version n row (Done sealed) same later fault = fault
ScriptFault-earlier h0 h f0 f f1 version n row Usage same later fault = fault
ScriptFault-earlier h0 h f0 f f1 version n row (PlatformRefused code table key) same later fault = fault
ScriptFault-earlier h0 h f0 f f1 version n row (ReadFault m) same later fault = LoadFault-earlier h0 h f0 f f1 row.script (ReadFault m) same later fault
ScriptFault-earlier h0 h f0 f f1 version n row (WriteFault sealed) same later fault = fault
ScriptFault-earlier h0 h f0 f f1 version n row NoMemory same later fault = fault
ScriptFault-earlier h0 h f0 f f1 version n row (TooLong m) same later fault = LoadFault-earlier h0 h f0 f f1 row.script (TooLong m) same later fault

pub loading-fails : (h0 : Holding) (f0 : List ℕ → ℕ) (h : Holding) (f f1 : List ℕ → ℕ) (version : ℕ) (rows : List InitiatorRow) (n : ℕ) (scripts : List (List Operation)) (row : InitiatorRow) (exit : Exit) →
    n < length rows → get_or rows n row ≡ row → IsLoading h0 f0 h f version rows n scripts →
    IsScriptFault (files h f f1) version n row exit → IsFirstFault (files h0 f0 f1) version rows exit
loading-fails h0 f0 h f f1 version rows n scripts row exit below is loading fault = record {
  number = n;
  row = row;
  next = slice_get-get_or rows n row below ∙ ap Some is;
  scripts = scripts;
  read = loading.read;
  fault = ScriptFault-earlier h0 h f0 f f1 version n row exit loading.same loading.later fault;
}
