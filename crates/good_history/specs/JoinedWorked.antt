-- A run of two initiators, made by hand.
use Rattle.std.specs.Prelude.{ℕ, List, [], ◌∷◌, None, codes, true, false}
use Rattle.tlm_types.specs.declared.words.ObjectNo.TheVariants.{Memory as memory_object}
use Rattle.tlm_types.specs.declared.words.ReqMode.TheVariants.{Accept}
use Rattle.tlm_types.specs.declared.words.RespMode.TheVariants.{Accept as accept_response}
use Rattle.tlm_types.specs.declared.words.Response.TheVariants.{Ok}
use Rattle.tlm_types.specs.declared.entry.Entry.{Entry}
use Rattle.tlm_types.specs.declared.entry.What.{What}
use Rattle.tlm_model.specs.declared.operation.Operation.TheVariants.{Write, Read}
use Rattle.tlm_model.specs.declared.platform.InitiatorRow.{InitiatorRow}
use Rattle.tlm_model.specs.declared.platform.Style.TheVariants.{Blocking}
use Rattle.tlm_model.specs.declared.platform.Target.TheVariants.{Memory}
use Rattle.tlm_model.specs.Plan.{Plan}
use Rattle.tlm_model.specs.Worked.{read, wrote}
use Rattle.good_history.specs.Good.{IsGood}
use Rattle.good_history.specs.GrantLaws.{ClosesNothing}
use Rattle.good_history.specs.Joined.{AllHaveEnded, IsJoined, OwnDecoupled}

-- a blocking initiator on the memory
abbrev pub initiator : List ℕ → InitiatorRow
initiator name = record { name = name; style = Blocking; script = codes "a.txt"; bind = Memory 0; pool = 4; response = accept_response }

-- `cpu` and `dma` on one memory of 10 ps: each writes a byte, and reads the byte of the other
unfoldable pub meeting_plan : Plan
meeting_plan = record {
  platform = record {
    version = 1;
    quantum = 0;
    initiators = initiator (codes "cpu") ∷ initiator (codes "dma") ∷ [];
    routers = [];
    memories = record {
      name = codes "ram";
      traits = record { size = 256; latency = 10; readable = true; writable = true; fetch_add = false; enables = true; streaming = true; dmi = true; gates = 16 };
      reply = Accept;
      lanes = 4;
    } ∷ [];
  };
  scripts = (Write 0x10 (0xaa ∷ []) [] None ∷ Read 0x20 1 [] None ∷ []) ∷ (Write 0x20 (0xbb ∷ []) [] None ∷ Read 0x10 1 [] None ∷ []) ∷ [];
}

abbrev pub entry : ℕ → ℕ → ℕ → ℕ → What → Entry
entry position initiator seq time what = record { position = position; object = memory_object 0; txn = record { initiator = initiator; seq = seq }; time = time; what = what }

-- their entries, interleaved
unfoldable pub meeting : List Entry
meeting =
    entry 0 0 0 0 (wrote 0x10 (0xaa ∷ []) Ok)
    ∷ entry 1 1 0 0 (wrote 0x20 (0xbb ∷ []) Ok)
    ∷ entry 2 1 1 10 (read 0x10 (0xaa ∷ []) Ok)
    ∷ entry 3 0 1 10 (read 0x20 (0xbb ∷ []) Ok)
    ∷ []

-- each initiator and the memory keep their parts, and so the whole is good
pub record MeetingIsGood : Type 0 where
  pub joined : IsJoined meeting_plan meeting
  pub decoupled : OwnDecoupled meeting_plan meeting
  pub closes : ClosesNothing meeting
  pub ended : AllHaveEnded meeting_plan meeting
  pub good : IsGood meeting_plan meeting
