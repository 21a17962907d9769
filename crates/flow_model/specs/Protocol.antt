-- What the base protocol asks of a hop's log (IEEE 1666-2011, clause 15.2).
use Rattle.std.specs.Prelude.{◌≡◌, ◌≢◌, ℕ, ◌≤◌, true, false, List, [], ◌∷◌, ◌++◌, length, All, AllPairs}
use Rattle.tlm_types.specs.declared.words.TxnId.{TxnId}
use Rattle.tlm_types.specs.declared.entry.Entry.{Entry}
use Rattle.tlm_model.specs.Each.{AtEach}
use Rattle.base_phases.specs.Sequences.{IsBegun, IsSequence}
use Rattle.base_phases.specs.Walks.{HasOneBegin}
use Rattle.flow_model.specs.Calls.{begins_request, begins_response, calls_of, has_open_request, has_open_response}

-- no transaction begins twice
pub record BeginsOnce (log : List Entry) : Type 0 where
  pub once : (x : TxnId) → HasOneBegin (calls_of x log)

-- each transaction's calls are a prefix of one of the eleven sequences
abbrev pub FollowsPhases : List Entry → Type 0
FollowsPhases log = (x : TxnId) → IsBegun (calls_of x log)

-- while a request is open, no BEGIN_REQ stands
abbrev pub KeepsRequest : List Entry → Entry → Type 0
KeepsRequest before e = (x : TxnId) → has_open_request x before ≡ true → begins_request e.what ≡ false

-- while a response is open, no other begins, by a call or by return
abbrev pub KeepsResponse : List Entry → Entry → Type 0
KeepsResponse before e = (x : TxnId) → has_open_response x before ≡ true → begins_response e.what ≡ false

-- the transaction has begun and not ended
pub record IsUnderWay (log : List Entry) (x : TxnId) : Type 0 where
  pub begun : ¬ (calls_of x log ≡ [])
  pub unended : ¬ IsSequence (calls_of x log)

-- after the entry at most so many transactions are under way: no more of them can be named
abbrev pub FitsLanes : ℕ → List Entry → Entry → Type 0
FitsLanes limit before e = (xs : List TxnId) → AllPairs (λ x y. x ≢ y) xs → All (IsUnderWay (before ++ e ∷ [])) xs → length xs ≤ limit

-- one request, one response, and as many transactions as there are lanes
pub record IsExclusive (limit : ℕ) (log : List Entry) : Type 0 where
  pub requests : AtEach KeepsRequest log
  pub responses : AtEach KeepsResponse log
  pub lanes : AtEach (FitsLanes limit) log
