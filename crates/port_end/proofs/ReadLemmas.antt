-- What a read asks for is that of its operation, by whatever replies.
use Rattle.std.proofs.Common.{◌≡◌, ℕ, zero, suc, ◌+◌, List, [], ◌∷◌, ◌++◌, Bool, Option, Some, None, refl, sym, ◌∙◌, ap, arith}
use Rattle.std.proofs.lemmas.Grind.{common_steps}
use Rattle.std.specs.List.{flat_map}
use Rattle.std.specs.Prelude.{slice_get}
use Rattle.tlm_types.specs.declared.words.Command.{Command}
use Rattle.tlm_types.specs.declared.words.Command.TheVariants as Commands
use Rattle.tlm_types.specs.declared.entry.Access.{Access}
use Rattle.tlm_types.specs.declared.entry.Entry.{Entry}
use Rattle.tlm_model.specs.declared.operation.Operation.{Operation}
use Rattle.tlm_model.specs.declared.platform.Platform.{Platform}
use Rattle.tlm_model.specs.Actions.{Action, Plain, Alone, Pair, Pause, action_of}
use Rattle.tlm_model.specs.Plan.{Initiator}
use Rattle.tlm_model.specs.Requests.{Asked, Transport, DebugRead, Invalidation, Request, buffer_of, paused, read_of, requests_by, requests_from, requests_of, time_past, using}
use Rattle.tlm_model.specs.Route.{later, latency_of}
use Rattle.tlm_model.specs.Store.{zeros}
use Rattle.generic_payload.specs.Payload.{PayloadView}
use Rattle.script_engine.specs.declared.op.Op.TheVariants as next
use Rattle.script_engine.specs.State.{Due, op_at, payload_at}

abbrev pub kept_by : Command → Access → Option Access
kept_by Commands.Read a = Some a
kept_by Commands.Write a = None
kept_by Commands.Ignore a = None
kept_by Commands.FetchAdd a = None

abbrev pub read_by : Asked → Option Access
read_by (Transport a) = kept_by a.command a
read_by (DebugRead a) = None
read_by (Invalidation n) = None

pub kept_is : (c : Command) (a b : Access) → kept_by c a ≡ Some b → (c ≡ Commands.Read) × (a ≡ b)
kept_is Commands.Read a b e = (refl, same a b e)
  where
    same : (a b : Access) → Some a ≡ Some b → a ≡ b
    same a b e = cc
kept_is Commands.Write a b e = cc
kept_is Commands.Ignore a b e = cc
kept_is Commands.FetchAdd a b e = cc

-- the reads of a script, at the numbers of its requests
abbrev reads_by : Action → List (Option Access)
reads_by (Plain a access) = kept_by access.command access ∷ []
reads_by (Alone a asked) = read_by asked ∷ []
reads_by (Pair from to n change) = Some (read_of n [] n) ∷ None ∷ []
reads_by (Pause time sync) = []

abbrev reads_of : List Operation → List (Option Access)
reads_of ops = flat_map (λ op. reads_by (action_of op)) ops

here : (q r : Request) → Some q ≡ Some r → ◌≡◌ {A = Option (Option Access)} (Some (read_by q.asked)) (Some (read_by r.asked))
here q r e = ap (λ (d : Request). Some (read_by d.asked)) (same q r e)
  where
    same : (q r : Request) → Some q ≡ Some r → q ≡ r
    same q r e = cc

module _ (p : Platform) (i : Initiator) (h : List Entry) (r : Request) where
  second : (rest : List (Option Access)) (o : Option (List ℕ)) (nx : List ℕ → Request) (after : List ℕ → List Request) → ((got : List ℕ) → ◌≡◌ {A = Option Access} None (read_by (nx got).asked))
      → ((got : List ℕ) (j : ℕ) → slice_get (after got) j ≡ Some r → slice_get rest j ≡ Some (read_by r.asked))
      → (j : ℕ) → slice_get (using o (λ got. nx got ∷ after got)) j ≡ Some r → slice_get (None ∷ rest) j ≡ Some (read_by r.asked)
  second rest None nx after q more j e = cc
  second rest (Some got) nx after q more zero e = ap (λ (b : Option Access). Some b) (q got) ∙ here (nx got) r e
  second rest (Some got) nx after q more (suc j) e = more got j e

  read_by_action : (s t g : ℕ) (action : Action) (ops : List Operation)
      → ((s t g : ℕ) (k : ℕ) → slice_get (requests_from p i h s t g ops) k ≡ Some r → slice_get (reads_of ops) k ≡ Some (read_by r.asked))
      → (k : ℕ) → slice_get (requests_by p i h s t g action (λ s t g. requests_from p i h s t g ops)) k ≡ Some r → slice_get (reads_by action ++ reads_of ops) k ≡ Some (read_by r.asked)
  read_by_action s t g (Plain b access) ops rest zero q = here _ r q
  read_by_action s t g (Plain b access) ops rest (suc k) q = rest (s + 1) (later t (latency_of p i b)) g k q
  read_by_action s t g (Alone b asked) ops rest zero q = here _ r q
  read_by_action s t g (Alone b asked) ops rest (suc k) q = rest (s + 1) (time_past p i t b asked) (g + 2) k q
  read_by_action s t g (Pair from to n change) ops rest zero q = here _ r q
  read_by_action s t g (Pair from to n change) ops rest (suc k) q = second (reads_of ops) (buffer_of p i h s from n) _ _ (λ got. refl)
      (λ got j m. rest (s + 2) (later (later t (latency_of p i from)) (latency_of p i to)) (g + 3) j m) k q
  read_by_action s t g (Pause time sync) ops rest k q = rest s (paused t time) (g + 1) k q

  read_at : (s t g : ℕ) (ops : List Operation) (k : ℕ) → slice_get (requests_from p i h s t g ops) k ≡ Some r → slice_get (reads_of ops) k ≡ Some (read_by r.asked)
  read_at s t g [] k q = cc
  read_at s t g (op ∷ ops) k q = read_by_action s t g (action_of op) ops (λ s t g. read_at s t g ops) k q

-- the requests of one number are the same read, or both none, by whatever replies
pub same_read : (p : Platform) (i : Initiator) (g h : List Entry) (q r : Request) (k : ℕ) → slice_get (requests_of p i g) k ≡ Some q → slice_get (requests_of p i h) k ≡ Some r → read_by q.asked ≡ read_by r.asked
same_read p i g h q r k a b = same _ _ (sym (read_at p i g q 0 0 0 i.script k a) ∙ read_at p i h r 0 0 0 i.script k b)
  where
    same : (u v : Option Access) → Some u ≡ Some v → u ≡ v
    same u v e = cc

-- the payload of a read that is next
pub record AsksRead (v : PayloadView) (n : ℕ) : Type 0 where
  pub command : v.command ≡ Commands.Read
  pub bytes : v.bytes ≡ zeros n

pub next_read : (s q a n : ℕ) (plain fenced : Bool) (due : Option Due) (ops : List Operation) → op_at s due ops ≡ next.Access q a n Commands.Read plain fenced → AsksRead (payload_at 4096 due ops) n
next_read s q a n plain fenced due ops e = grind (arith, common_steps)
