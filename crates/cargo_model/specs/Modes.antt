-- What the log of a hop tells of its modes.
use Rattle.std.specs.Prelude.{◌≡◌, Bool, List}
use Rattle.tlm_types.specs.declared.words.Phase.TheVariants.{BeginReq, BeginResp}
use Rattle.tlm_types.specs.declared.entry.Entry.{Entry}
use Rattle.tlm_types.specs.declared.entry.What.{What}
use Rattle.tlm_types.specs.declared.entry.What.TheVariants.{Call as Called}
use Rattle.flow_model.specs.Answers.{request_answer, response_answer}
use Rattle.flow_model.specs.Board.{Board, Reaches, Rules, start}
use Rattle.flow_model.specs.Events.{Among}

-- a BEGIN_REQ and a BEGIN_RESP have the answers of the hop's modes
abbrev pub IsByMode : Rules → What → Type 0
IsByMode r (Called BeginReq a) = (open_response : Bool) × (a ≡ request_answer r.req open_response)
IsByMode r (Called BeginResp a) = a ≡ response_answer r.resp
IsByMode r w = Unit {0}

-- each entry of a hop's log has
abbrev pub AreByModes : Type 0
AreByModes = (r : Rules) (log : List Entry) (d : Board) → Reaches r start log d → (e : Entry) → Among log e → IsByMode r e.what
