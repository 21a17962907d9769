-- What four-phase traffic reads of a platform: the components at the ends of each hop, and the hops of each access.
use Rattle.std.specs.Prelude.{ℕ, ◌≡◌, ◌+◌, ◌<◌, List, length, get_or, Option, Some, Bool, true, false, not, ◌&&◌, ◌==◌}
use Rattle.tlm_types.specs.declared.words.ReqMode.{ReqMode}
use Rattle.tlm_types.specs.declared.words.ReqMode.TheVariants.{Accept, Short}
use Rattle.tlm_types.specs.declared.words.TxnId.{TxnId}
use Rattle.flow_model.specs.Board.{Rules}

-- a hop: how it is made, whether it leads to a memory, and the latency of the component that it leads to
pub record HopEnds : Type 0 where
  pub rules : Rules
  pub open rules use *
  pub to_memory : Bool
  pub latency : ℕ

-- a four-phase access: the hops that it passes, in order, and whether its address has a route
pub record Passage : Type 0 where
  pub hops : List ℕ
  pub routed : Bool

-- the hops by their numbers, and the four-phase accesses by their transactions
pub record World : Type 0 where
  pub hop : ℕ → HopEnds
  pub passage : TxnId → Option Passage

-- the number of hops, and the number of the k-th hop
abbrev pub hop_count : Passage → ℕ
hop_count pass = length pass.hops

abbrev pub hop_at : Passage → ℕ → ℕ
hop_at pass k = get_or pass.hops k 0

-- a router without a window for the address answers as a short memory: its response implies END_REQ
abbrev pub row_by : Bool → ReqMode → ReqMode
row_by true Accept = Short
row_by true mode = mode
row_by false mode = mode

-- the access ends at the router that hop k leads to
abbrev pub is_refused : World → Passage → ℕ → Bool
is_refused w pass k = (k + 1 == hop_count pass) && not (w.hop (hop_at pass k)).to_memory

-- how the component that hop k leads to answers the request: the row of the table
abbrev pub row_of : World → Passage → ℕ → ReqMode
row_of w pass k = row_by (is_refused w pass k) (w.hop (hop_at pass k)).req

-- No access passes a hop twice.
pub record IsPassage (pass : Passage) : Type 0 where
  pub distinct : (j k : ℕ) → j < hop_count pass → k < hop_count pass → hop_at pass j ≡ hop_at pass k → j ≡ k

-- the accesses pass hops as they may
pub record IsWorld (w : World) : Type 0 where
  pub passages : (x : TxnId) (pass : Passage) → w.passage x ≡ Some pass → IsPassage pass
