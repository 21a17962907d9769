-- The words of the format.
use Rattle.std.specs.Prelude.{ℕ, List, [], ◌∷◌, codes}
use Rattle.tlm_types.specs.declared.words.ReqMode.{ReqMode}
use Rattle.tlm_types.specs.declared.words.ReqMode.TheVariants as req
use Rattle.tlm_types.specs.declared.words.RespMode.{RespMode}
use Rattle.tlm_types.specs.declared.words.RespMode.TheVariants as resp
use Rattle.tlm_model.specs.declared.platform.Style.{Style}
use Rattle.tlm_model.specs.declared.platform.Style.TheVariants as style

-- the styles of initiators
abbrev pub styles : List (List ℕ × Style)
styles = (codes "blocking", style.Blocking) ∷ (codes "direct", style.Direct) ∷ (codes "fourphase", style.FourPhase) ∷ []

-- how an initiator answers BEGIN_RESP
abbrev pub responses : List (List ℕ × RespMode)
responses = (codes "accept", resp.Accept) ∷ (codes "end_resp", resp.EndResp) ∷ (codes "complete", resp.Complete) ∷ []

-- how a router answers BEGIN_REQ
abbrev pub router_modes : List (List ℕ × ReqMode)
router_modes = (codes "accept", req.Accept) ∷ (codes "end_req", req.EndReq) ∷ []

-- how a memory answers BEGIN_REQ
abbrev pub memory_modes : List (List ℕ × ReqMode)
memory_modes = (codes "accept", req.Accept) ∷ (codes "short", req.Short) ∷ (codes "end_req", req.EndReq) ∷ (codes "begin_resp", req.BeginResp) ∷ (codes "complete", req.Complete) ∷ []
