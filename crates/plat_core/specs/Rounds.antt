-- In which round an entry stands, and who holds others back.
use Rattle.std.specs.Prelude.{ℕ, ◌≡◌, ◌≢◌, ◌+◌, ◌<◌, ◌≤◌, Bool, true, false, ◌&&◌, List, [], ◌∷◌, Option, Some, None, if◌then◌else◌, slice_get}
use Rattle.std.specs.List.{AllByRecursion}
use Rattle.tlm_types.specs.declared.entry.Entry.{Entry}
use Rattle.tlm_types.specs.declared.words.ObjectNo.{ObjectNo}
use Rattle.tlm_types.specs.declared.words.ObjectNo.TheVariants.{Memory, Hop, Pool}
use Rattle.tlm_model.specs.declared.platform.Platform.{Platform}
use Rattle.tlm_model.specs.declared.platform.Style.{Style}
use Rattle.tlm_model.specs.declared.platform.Style.TheVariants.{Blocking, Direct, FourPhase}
use Rattle.tlm_model.specs.Each.{AtEach}
use Rattle.tlm_model.specs.Plan.{Plan, Initiator, initiators_of}
use Rattle.tlm_model.specs.Requests.{Request, requests_of}
use Rattle.tlm_model.specs.Rounds.{round_of, syncs_of}
use Rattle.tlm_model.specs.Scripts.{is_settled}
use Rattle.time_board.specs.declared.rounds.Member.{Member}
use Rattle.time_board.specs.Rounds.{member_of}

-- the round of the first of these requests that isn't settled, or that of the end
abbrev pub round_of_first : Platform → Initiator → List Entry → List Request → ℕ
round_of_first p i h [] = syncs_of p i
round_of_first p i h (q ∷ qs) = if is_settled p i h q then round_of_first p i h qs else round_of p i q.seq

-- the round that the next entry of an initiator has, or its end
abbrev pub due_round : Platform → Initiator → List Entry → ℕ
due_round p i h = round_of_first p i h (requests_of p i h)

-- the next entry of initiator n has this round, and another one, which has not finished, has not reached the round before it
pub record IsHeldBack (members : List Member) (n round : ℕ) : Type 0 where
  pub other : ℕ
  pub apart : other ≢ n
  pub unfinished : (member_of members other).finished ≡ false
  pub behind : (member_of members other).round + 1 < round

abbrev pub round_by : Platform → Option Initiator → ℕ → ℕ
round_by p None s = 0
round_by p (Some i) s = round_of p i s

-- the round of an entry
abbrev pub round_at : Plan → Entry → ℕ
round_at p e = round_by p.platform (slice_get (initiators_of p) e.txn.initiator) e.txn.seq

-- entries stand in the order of their rounds, but for those of one round and of the next: an entry of round r stands
-- after every entry whose round is at most r - 2
abbrev pub KeepsRounds : Plan → List Entry → Type 0
KeepsRounds p h = AtEach (λ before e. AllByRecursion (λ d. round_at p d ≤ round_at p e + 1) before) h

-- a blocking or direct initiator; a four-phase one takes part in no round
abbrev pub is_decoupled : Style → Bool
is_decoupled Blocking = true
is_decoupled Direct = true
is_decoupled FourPhase = false

abbrev pub is_decoupled_one : Option Initiator → Bool
is_decoupled_one None = false
is_decoupled_one (Some i) = is_decoupled i.row.style

abbrev pub is_memory : ObjectNo → Bool
is_memory (Memory m) = true
is_memory (Hop h) = false
is_memory (Pool n) = false

-- an entry of a blocking or direct initiator: all of these stand at memories
abbrev pub is_decoupled_entry : Plan → Entry → Bool
is_decoupled_entry p e = is_memory e.object && is_decoupled_one (slice_get (initiators_of p) e.txn.initiator)

-- the entries of blocking and direct initiators keep the rounds, whatever else stands between them
abbrev pub KeepsRoundsOf : Plan → List Entry → Type 0
KeepsRoundsOf p h = AtEach (λ before e. is_decoupled_entry p e ≡ true → AllByRecursion (λ d. is_decoupled_entry p d ≡ true → round_at p d ≤ round_at p e + 1) before) h

-- where all entries are such, that is to keep the rounds
abbrev pub RoundsOfAll : Type 0
RoundsOfAll = (p : Plan) (h : List Entry) → AllByRecursion (λ (e : Entry). is_decoupled_entry p e ≡ true) h → KeepsRoundsOf p h → KeepsRounds p h
