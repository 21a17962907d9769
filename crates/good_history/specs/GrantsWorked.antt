-- Worked runs of a direct initiator: plans and histories that were made by hand.
use Rattle.std.specs.Prelude.{ℕ, ◌≢◌, List, [], ◌∷◌, length, true, false, codes, Some, None}
use Rattle.tlm_types.specs.declared.words.Command.TheVariants.{Read as read_command}
use Rattle.tlm_types.specs.declared.words.Kind.TheVariants.{Both}
use Rattle.tlm_types.specs.declared.words.ReqMode.TheVariants.{Accept}
use Rattle.tlm_types.specs.declared.words.RespMode.TheVariants.{Accept as accept_response}
use Rattle.tlm_types.specs.declared.words.Response.TheVariants.{Ok}
use Rattle.tlm_types.specs.declared.words.Way.TheVariants.{Direct}
use Rattle.tlm_types.specs.declared.entry.Entry.{Entry}
use Rattle.tlm_types.specs.declared.entry.What.{What}
use Rattle.tlm_types.specs.declared.entry.What.TheVariants.{Granted, Invalidated, Closed}
use Rattle.tlm_model.specs.declared.operation.Operation.{Operation}
use Rattle.tlm_model.specs.declared.operation.Operation.TheVariants.{Write, Read, Invalidate}
use Rattle.tlm_model.specs.declared.platform.RouterRow.{RouterRow}
use Rattle.tlm_model.specs.declared.platform.Style.TheVariants.{Direct as direct_style}
use Rattle.tlm_model.specs.declared.platform.Target.{Target}
use Rattle.tlm_model.specs.declared.platform.Target.TheVariants.{Router, Memory}
use Rattle.tlm_model.specs.Plan.{Plan}
use Rattle.tlm_model.specs.Worked.{IsWorked, entry, made, read, wrote}
use Rattle.report_model.specs.Worked.{HasReport}
use Rattle.tlm_model.specs.Store.{zeros}
use Rattle.good_history.specs.Kept.{AsksAreAnswered, ClosesForInvalidations, EndsGrants, GivesGatesInOrder, GoesDirect, GrantsAreAskedFor, GrantsWholes, KeepsGrants, ReturnsClosed, UsesGrants}

-- one direct initiator `d`, and a memory `ram` of 256 bytes and 10 ps
abbrev pub direct_plan : Target → List RouterRow → ℕ → List Operation → Plan
direct_plan bind routers gates script = record {
  platform = record {
    version = 1;
    quantum = 0;
    initiators = record { name = codes "d"; style = direct_style; script = codes "a.txt"; bind = bind; pool = 4; response = accept_response } ∷ [];
    routers = routers;
    memories = record {
      name = codes "ram";
      traits = record { size = 256; latency = 10; readable = true; writable = true; fetch_add = false; enables = true; streaming = true; dmi = true; gates = gates };
      reply = Accept;
      lanes = 4;
    } ∷ [];
  };
  scripts = script ∷ [];
}

abbrev pub used : ℕ → ℕ → List ℕ → What
used gate offset got = made (Direct gate) read_command offset (length got) (zeros (length got)) [] (length got) Ok got

abbrev pub granted : ℕ → What
granted gate = Granted gate 0 0xff Both

abbrev pub aa : List ℕ
aa = 0xaa ∷ []

abbrev pub write_aa : Operation
write_aa = Write 0 aa [] None

abbrev pub read_one : Operation
read_one = Read 0 1 [] None

-- an invalidation of the upper half ends the grant of the whole
unfoldable pub revoked_plan : Plan
revoked_plan = direct_plan (Memory 0) [] 2 (write_aa ∷ read_one ∷ Invalidate 0x80 0x80 ∷ read_one ∷ read_one ∷ [])

unfoldable pub revoked : List Entry
revoked =
    entry 0 0 0 (wrote 0 aa Ok)
    ∷ entry 1 0 10 (granted 0)
    ∷ entry 2 1 10 (used 0 0 aa)
    ∷ entry 3 2 20 (Invalidated 0x80 0xff)
    ∷ entry 4 2 20 (Closed 0)
    ∷ entry 5 3 20 (read 0 aa Ok)
    ∷ entry 6 3 30 (granted 1)
    ∷ entry 7 4 30 (used 1 0 aa)
    ∷ []

abbrev pub revoked_text : List ℕ
revoked_text = codes "tlm-report 1\n0 0 d.0 ram blocking write 0x0 1 be=- sw=1 aa ok\n1 10 d.0 ram granted 0 0x0-0xff both\n2 10 d.1 ram direct:0 read 0x0 1 be=- sw=1 aa ok\n3 20 d.2 ram invalidated 0x80-0xff\n4 20 d.2 ram closed 0\n5 20 d.3 ram blocking read 0x0 1 be=- sw=1 aa ok\n6 30 d.3 ram granted 1 0x0-0xff both\n7 30 d.4 ram direct:1 read 0x0 1 be=- sw=1 aa ok\ninitiator d direct transactions 5 refused 0 syncs 5 end 40\nmemory ram 256\n00000000 aa000000000000000000000000000000\nend 8\n"

-- a grant serves the addresses of its router's window
unfoldable pub windowed_plan : Plan
windowed_plan = direct_plan (Router 0) (record { name = codes "bus"; latency = 5; accept = Accept; lanes = 4; windows = record { first = 0x100; last = 0x17f; to = Memory 0; base = 0x40 } ∷ [] } ∷ []) 16 (Write 0x100 aa [] None ∷ Read 0x100 1 [] None ∷ Read 0x17f 1 [] None ∷ [])

unfoldable pub windowed : List Entry
windowed =
    entry 0 0 5 (wrote 0x40 aa Ok)
    ∷ entry 1 0 15 (granted 0)
    ∷ entry 2 1 15 (used 0 0x40 aa)
    ∷ entry 3 2 30 (used 0 0xbf (0 ∷ []))
    ∷ []

abbrev pub windowed_text : List ℕ
windowed_text = codes "tlm-report 1\n0 5 d.0 ram blocking write 0x40 1 be=- sw=1 aa ok\n1 15 d.0 ram granted 0 0x0-0xff both\n2 15 d.1 ram direct:0 read 0x40 1 be=- sw=1 aa ok\n3 30 d.2 ram direct:0 read 0xbf 1 be=- sw=1 00 ok\ninitiator d direct transactions 3 refused 0 syncs 3 end 45\nmemory ram 256\n00000040 aa000000000000000000000000000000\nend 4\n"

-- a memory with one gate gives no other once it is closed
unfoldable pub spent_plan : Plan
spent_plan = direct_plan (Memory 0) [] 1 (read_one ∷ Invalidate 0 1 ∷ read_one ∷ Invalidate 0 1 ∷ read_one ∷ Invalidate 0 1 ∷ [])

unfoldable pub spent : List Entry
spent =
    entry 0 0 0 (read 0 (0 ∷ []) Ok)
    ∷ entry 1 0 10 (granted 0)
    ∷ entry 2 1 10 (Invalidated 0 0)
    ∷ entry 3 1 10 (Closed 0)
    ∷ entry 4 2 10 (read 0 (0 ∷ []) Ok)
    ∷ entry 5 3 20 (Invalidated 0 0)
    ∷ entry 6 4 20 (read 0 (0 ∷ []) Ok)
    ∷ entry 7 5 30 (Invalidated 0 0)
    ∷ []

abbrev pub spent_text : List ℕ
spent_text = codes "tlm-report 1\n0 0 d.0 ram blocking read 0x0 1 be=- sw=1 00 ok\n1 10 d.0 ram granted 0 0x0-0xff both\n2 10 d.1 ram invalidated 0x0-0x0\n3 10 d.1 ram closed 0\n4 10 d.2 ram blocking read 0x0 1 be=- sw=1 00 ok\n5 20 d.3 ram invalidated 0x0-0x0\n6 20 d.4 ram blocking read 0x0 1 be=- sw=1 00 ok\n7 30 d.5 ram invalidated 0x0-0x0\ninitiator d direct transactions 6 refused 0 syncs 6 end 30\nmemory ram 256\nend 8\n"

-- the run has the points of requests and those of grants, and its report is this text
pub record IsDirectRun (p : Plan) (h : List Entry) (text : List ℕ) : Type 0 where
  pub requests : IsWorked p h
  pub kept : KeepsGrants p h
  pub ended : EndsGrants p h
  pub report : HasReport p h text

-- the history misses point k, and no other
pub record MissesJust (k : ℕ) (p : Plan) (h : List Entry) : Type 0 where
  pub missed : ¬ KeepsGrants p h
  pub gates : k ≢ 0 → GivesGatesInOrder h
  pub wholes : k ≢ 1 → GrantsWholes p h
  pub asked : k ≢ 2 → GrantsAreAskedFor p h
  pub answered : k ≢ 3 → AsksAreAnswered p h
  pub uses : k ≢ 4 → UsesGrants p h
  pub ways : k ≢ 5 → GoesDirect p h
  pub closings : k ≢ 6 → ClosesForInvalidations h
  pub returns : k ≢ 7 → ReturnsClosed h

abbrev pub lone_direct : List Operation → Plan
lone_direct script = direct_plan (Memory 0) [] 2 script

-- a write, and its grant
abbrev pub granted_write : List Entry → List Entry
granted_write rest = entry 0 0 0 (wrote 0 aa Ok) ∷ entry 1 0 10 (granted 0) ∷ rest

-- gate 1 before gate 0
unfoldable pub falling : List Entry
falling =
    entry 0 0 0 (wrote 0 aa Ok)
    ∷ entry 1 0 10 (granted 1)
    ∷ entry 2 1 10 (Invalidated 0 0)
    ∷ entry 3 1 10 (Closed 1)
    ∷ entry 4 2 10 (read 0 aa Ok)
    ∷ entry 5 2 20 (granted 0)
    ∷ []

-- a grant of the lower half
unfoldable pub halved : List Entry
halved = entry 0 0 0 (wrote 0 aa Ok) ∷ entry 1 0 10 (Granted 0 0 0x7f Both) ∷ []

-- a grant for an access whose streaming width was written
unfoldable pub unasked : List Entry
unasked = granted_write []

-- an access that was OK, and no grant
unfoldable pub unanswered : List Entry
unanswered = entry 0 0 0 (wrote 0 aa Ok) ∷ entry 1 1 10 (read 0 aa Ok) ∷ []

-- a use of a closed gate
unfoldable pub late : List Entry
late = granted_write (entry 2 1 10 (Invalidated 0 0) ∷ entry 3 1 10 (Closed 0) ∷ entry 4 2 10 (used 0 0 aa) ∷ [])

-- a grant that isn't used
unfoldable pub unused : List Entry
unused = granted_write (entry 2 1 10 (read 0 aa Ok) ∷ [])

-- a closing without an invalidation
unfoldable pub causeless : List Entry
causeless = granted_write (entry 2 1 10 (Closed 0) ∷ [])

-- an invalidation that returns before it has closed
unfoldable pub hasty : List Entry
hasty = granted_write (entry 2 1 10 (Invalidated 0 0) ∷ entry 3 2 10 (read 0 aa Ok) ∷ [])

abbrev pub cut_plan : Plan
cut_plan = lone_direct (write_aa ∷ Invalidate 0 1 ∷ read_one ∷ [])

abbrev pub pair_plan : Plan
pair_plan = lone_direct (write_aa ∷ read_one ∷ [])

abbrev pub unasked_plan : Plan
unasked_plan = lone_direct (Write 0 aa [] (Some 1) ∷ [])

-- for each point a history that misses it alone
pub record EachPointCounts : Type 0 where
  pub falling_misses : MissesJust 0 cut_plan falling
  pub halved_misses : MissesJust 1 pair_plan halved
  pub unasked_misses : MissesJust 2 unasked_plan unasked
  pub unanswered_misses : MissesJust 3 pair_plan unanswered
  pub late_misses : MissesJust 4 cut_plan late
  pub unused_misses : MissesJust 5 pair_plan unused
  pub causeless_misses : MissesJust 6 cut_plan causeless
  pub hasty_misses : MissesJust 7 cut_plan hasty

-- an access that was OK, and an invalidation that hasn't closed: these have the points so far, and not those of the end
unfoldable pub asking : List Entry
asking = entry 0 0 0 (wrote 0 aa Ok) ∷ []

unfoldable pub unclosed : List Entry
unclosed = granted_write (entry 2 1 10 (Invalidated 0 0) ∷ [])

pub record EachEndCounts : Type 0 where
  pub asking_kept : KeepsGrants pair_plan asking
  pub asking_misses : ¬ EndsGrants pair_plan asking
  pub unclosed_kept : KeepsGrants cut_plan unclosed
  pub unclosed_misses : ¬ EndsGrants cut_plan unclosed
