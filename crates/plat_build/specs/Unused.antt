-- A net of which nothing was handed out.
use Rattle.std.specs.Prelude.{ℕ, ◌≡◌, ◌≤◌, ◌+◌, List, [], length, sum_by, slice_index_or, Some}
use Rattle.std.specs.List.{range_with_len}
use mathlib.Core.Option.{some}
use lib.ListN.{get_elem?}
use Rattle.atomic_table.specs.Seated.{TableId}
use Rattle.one_history.specs.declared.view.Frame.{Frame}
use Rattle.one_history.specs.Held.{Held}
use Rattle.one_history.specs.Moves.{number_of, own_of}
use Rattle.token_book.specs.Purse.{Purse, IsOf, left_of}
use Rattle.tlm_types.specs.declared.entry.Content.{Content}
use Rattle.tlm_types.specs.declared.words.ObjectNo.{ObjectNo}
use Rattle.tlm_model.specs.declared.platform.Platform.{Platform}
use Rattle.tlm_model.specs.Plan.{Plan}
use Rattle.shared_object.specs.Standing.{Numbers}
use Rattle.route_plan.specs.Counted.{share_at}
use Rattle.plat_net.specs.Objects.{HasObject}

-- the wallet of initiator i: of each object from number n on it has as many tickets as the plan counts for this initiator
pub record HasTicketsFrom (tokens : TableId) (p : Plan) (n i : ℕ) (w : Purse) : Type 0 where
  pub of : IsOf tokens w
  pub left : (k : ℕ) (o : ObjectNo) → n ≤ k → HasObject p.platform k o → left_of w k ≡ share_at p i o

-- the wallet of each initiator
pub record HaveTicketsFrom (tokens : TableId) (p : Plan) (n : ℕ) (wallets : List Purse) : Type 0 where
  pub count : length wallets ≡ length p.platform.initiators
  pub each : (i : ℕ) (w : Purse) → get_elem? wallets i ≡ some w → HasTicketsFrom tokens p n i w

-- there is an object of this number
abbrev pub IsThere : Platform → ℕ → Type 0
IsThere p n = (o : ObjectNo) × HasObject p n o

-- what all initiators may add to an object together
abbrev pub added_by_all : Plan → ObjectNo → ℕ
added_by_all p o = sum_by (λ n. share_at p n o) (range_with_len 0 (length p.platform.initiators))

-- what is planned of each object is what the initiators may add there together
abbrev pub AddUp : Frame Plan → Type 0
AddUp frame = (k : ℕ) (o : ObjectNo) → HasObject frame.world.platform k o → slice_index_or frame.planned k 0 ≡ added_by_all frame.world o

-- objects with the numbers from n on, in order, each of which there is
abbrev pub AreNumberedFrom : Frame Plan → ℕ → List Numbers → Type 0
AreNumberedFrom frame n objects = (k : ℕ) (s : Numbers) → get_elem? objects k ≡ some s → (s.number ≡ n + k) × IsThere frame.world.platform (n + k)

-- the seat of object o, which has made no entry
pub record IsUnused (table : TableId) (frame : Frame Plan) (o : ℕ) (seat : Held Content Plan) : Type 0 where
  pub of : seat.table ≡ table
  pub framed : seat.knows.frame ≡ Some frame
  pub numbered : number_of seat.knows ≡ o
  pub own : own_of seat.knows ≡ []

-- the seats of the first objects, in order
abbrev pub AreUnused : TableId → Frame Plan → List (Held Content Plan) → Type 0
AreUnused table frame seats = (o : ℕ) (s : Held Content Plan) → get_elem? seats o ≡ some s → IsUnused table frame o s
