-- A pool as an object of the history: its calls, their entries and their answers.
use Rattle.std.specs.Prelude.{ℕ, ◌≡◌, ◌<◌, ◌==◌, Bool, true, false, length, Option, Some, None, if◌then◌else◌}
use Rattle.std.specs.List.{list_any}
use Rattle.tlm_types.specs.declared.words.ObjectNo.TheVariants.{Pool as pool_number}
use Rattle.tlm_types.specs.declared.words.TxnId.{TxnId}
use Rattle.tlm_types.specs.declared.entry.Content.{Content}
use Rattle.tlm_types.specs.declared.entry.What.{What}
use Rattle.tlm_types.specs.declared.entry.What.TheVariants.{Take as TakeEntry, Acquire as AcquireEntry, Release as ReleaseEntry}
use Rattle.token_book.specs.Account.{Slip}
use Rattle.token_book.specs.Purse.{empty_purse}
use Rattle.shared_object.specs.Written.{Built}
use Rattle.payload_pool.specs.declared.baton.Baton.{Baton}
use Rattle.payload_pool.specs.declared.call.PoolCall.{PoolCall}
use Rattle.payload_pool.specs.declared.call.PoolCall.TheVariants.{Take, Acquire, Release, Stow, Live}
use Rattle.payload_pool.specs.declared.call.PoolReply.{PoolReply}
use Rattle.payload_pool.specs.declared.call.PoolReply.TheVariants.{Took, Acquired, Released, Live as LiveReply}
use Rattle.payload_pool.specs.declared.pool.PoolMade.{PoolMade}
use Rattle.payload_pool.specs.Slots.{slot_at, has_name, reference_number, acquired_of, free_place, slot_place}
use Rattle.payload_pool.specs.Pool.{PoolView, IsOut, has_free, live_of, after_take, first_baton, after_acquire, next_baton, next_hold, is_last, after_release}

-- a pool has no gates, and the book of its references
abbrev pub built_of : PoolView → Built PoolMade
built_of v = record { object = pool_number v.initiator; made = record { slots = length v.slots; room = v.room }; gates = (0, 0); book = Some (v.book.table, v.book.owner) }

-- a baton brings back a payload of the pool's room, and an empty wallet
pub record IsIntact (room : ℕ) (b : Baton) : Type 0 where
  pub payload : b.payload.room ≡ room
  pub wallet : b.wallet ≡ empty_purse 12

-- a reference of this name is out
abbrev pub is_out : PoolView → ℕ → Bool
is_out v name = list_any (has_name name) v.slots

abbrev pub admitted : PoolView → PoolCall → Bool
admitted v (Take txn time) = has_free v
admitted v (Acquire b time) = is_out v b.own.name
admitted v (Release h time) = is_out v h.name
admitted v (Stow b time) = is_out v b.own.name
admitted v Live = false

-- what the entry of a call on the slot of this name says
abbrev pub content_at : PoolView → ℕ → ℕ → What → ℕ → Content
content_at v name time what number = record { txn = (slot_at v.slots (slot_place name v.slots)).txn; time = time; what = what; number = number }

abbrev pub content_of : PoolView → PoolCall → Content
content_of v (Take txn time) = record { txn = txn; time = time; what = TakeEntry (free_place v.slots); number = 0 }
content_of v (Acquire b time) = content_at v b.own.name time (AcquireEntry (slot_place b.own.name v.slots)) (acquired_of b.own.name)
content_of v (Release h time) = content_at v h.name time (ReleaseEntry (slot_place h.name v.slots) (is_last v h.name)) (reference_number h.name)
content_of v (Stow b time) = content_at v b.own.name time (ReleaseEntry (slot_place b.own.name v.slots) (is_last v b.own.name)) (reference_number b.own.name)
content_of v Live = record { txn = record { initiator = 0; seq = 0 }; time = 0; what = TakeEntry 0; number = 0 }

-- a hold or a baton is of the pool's book; a baton is acquired with at most 15 times, and brings back what it was given
abbrev pub Fits : PoolView → PoolCall → Type 0
Fits v (Take txn time) = Unit {0}
Fits v (Acquire b time) = IsOut v b.own × (acquired_of b.own.name < 15)
Fits v (Release h time) = IsOut v h
Fits v (Stow b time) = IsOut v b.own × IsIntact v.room b
Fits v Live = Unit {0}

-- the numbers of answers that give nothing
abbrev pub look_of_take : Option Baton → ℕ
look_of_take None = 6
look_of_take (Some b) = 0

abbrev pub look_of : PoolReply → ℕ
look_of (Took baton) = look_of_take baton
look_of (LiveReply live) = if live == 0 then 0 else 7
look_of reply = 0

-- a Take gives a baton, and none exactly where all slots are live
abbrev pub Takes : PoolView → ℕ → TxnId → ℕ → Option Baton → PoolView → Type 0
Takes v position txn time None w = (has_free v ≡ false) × (w ≡ v)
Takes v position txn time (Some b) w = (has_free v ≡ true) × (w ≡ after_take v position txn time) × (b ≡ first_baton v position txn)

pub record Acquires (v : PoolView) (position : ℕ) (b : Baton) (time : ℕ) (next : Baton) (hold : Slip) (w : PoolView) : Type 0 where
  pub was : is_out v b.own.name ≡ true
  pub after : w ≡ after_acquire v position b.own time
  pub baton : next ≡ next_baton v b
  pub held : hold ≡ next_hold v b

-- freed tells that the reference was the last of its slot
pub record Releases (v : PoolView) (position : ℕ) (t : Slip) (time : ℕ) (kept : Option ℕ) (freed : Bool) (w : PoolView) : Type 0 where
  pub was : is_out v t.name ≡ true
  pub after : w ≡ after_release v position t time kept
  pub last : freed ≡ is_last v t.name

abbrev pub Applied : PoolView → ℕ → PoolCall → PoolReply → PoolView → Type 0
Applied v position (Take txn time) (Took baton) w = Takes v position txn time baton w
Applied v position (Acquire b time) (Acquired next hold) w = Acquires v position b time next hold w
Applied v position (Release h time) (Released freed) w = Releases v position h time None freed w
Applied v position (Stow b time) (Released freed) w = Releases v position b.own time (Some b.payload.room) freed w
Applied v position Live (LiveReply live) w = (live ≡ live_of v) × (w ≡ v)
Applied v position call reply w = ⊥
