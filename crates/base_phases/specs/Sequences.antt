-- The eleven sequences of a transaction's calls on a hop (IEEE 1666-2011, clause 15.2).
use Rattle.std.specs.Prelude.{◌≡◌, ℕ, List, [], ◌∷◌, ◌++◌, Some, slice_get}
use Rattle.tlm_types.specs.declared.words.Phase.{Phase}
use Rattle.tlm_types.specs.declared.words.Phase.TheVariants.{BeginReq, EndReq, BeginResp, EndResp}
use Rattle.tlm_types.specs.declared.words.TlmSync.{TlmSync}
use Rattle.tlm_types.specs.declared.words.TlmSync.TheVariants.{Accepted, Updated, Completed}

-- a call and its answer
abbrev pub Call : Type 0
Call = Phase × TlmSync

-- the eleven sequences
abbrev pub sequences : List (List Call)
sequences =
    ((BeginReq, Completed) ∷ [])
    ∷ ((BeginReq, Updated BeginResp) ∷ (EndResp, Completed) ∷ [])
    ∷ ((BeginReq, Updated EndReq) ∷ (BeginResp, Accepted) ∷ (EndResp, Completed) ∷ [])
    ∷ ((BeginReq, Updated EndReq) ∷ (BeginResp, Updated EndResp) ∷ [])
    ∷ ((BeginReq, Updated EndReq) ∷ (BeginResp, Completed) ∷ [])
    ∷ ((BeginReq, Accepted) ∷ (EndReq, Accepted) ∷ (BeginResp, Accepted) ∷ (EndResp, Completed) ∷ [])
    ∷ ((BeginReq, Accepted) ∷ (EndReq, Accepted) ∷ (BeginResp, Updated EndResp) ∷ [])
    ∷ ((BeginReq, Accepted) ∷ (EndReq, Accepted) ∷ (BeginResp, Completed) ∷ [])
    ∷ ((BeginReq, Accepted) ∷ (BeginResp, Accepted) ∷ (EndResp, Completed) ∷ [])
    ∷ ((BeginReq, Accepted) ∷ (BeginResp, Updated EndResp) ∷ [])
    ∷ ((BeginReq, Accepted) ∷ (BeginResp, Completed) ∷ [])
    ∷ []

-- the calls are one of the sequences
abbrev pub IsSequence : List Call → Type 0
IsSequence calls = (k : ℕ) × (slice_get sequences k ≡ Some calls)

-- the calls are a prefix of one of the sequences
abbrev pub IsBegun : List Call → Type 0
IsBegun calls = (k : ℕ) × (rest : List Call) × (slice_get sequences k ≡ Some (calls ++ rest))
