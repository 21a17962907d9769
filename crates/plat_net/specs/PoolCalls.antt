-- What a component needs to know for a call at the pool of an initiator of a net. What the plan gives isn't asked: where the pool stands in the
-- history, that it is there, and that the objects of an access differ.
use Rattle.std.specs.Prelude.{ℕ, ◌≡◌, ◌+◌, ◌*◌, ◌<◌, List, Option, Some, None}
use Rattle.atomic_table.specs.Seated.{TableId}
use Rattle.one_history.specs.declared.entry.Entry.{Entry}
use Rattle.one_history.specs.declared.view.Frame.{Frame}
use Rattle.tlm_types.specs.declared.entry.Content.{Content}
use Rattle.tlm_types.specs.declared.words.Phase.TheVariants.{BeginReq}
use Rattle.tlm_types.specs.declared.words.Response.TheVariants.{Incomplete}
use Rattle.tlm_types.specs.declared.words.TxnId.{TxnId}
use Rattle.tlm_model.specs.Plan.{Plan}
use Rattle.token_book.specs.Account.{Slip}
use Rattle.token_book.specs.Purse.{IsOf, empty_purse, left_of}
use Rattle.flow_model.specs.Backed.{AcquireBacked, ReleaseBacked}
use Rattle.flow_model.specs.Events.{Finds, FindsAt, IsPhase}
use Rattle.flow_model.specs.Numbers.{ArrIs}
use Rattle.flow_model.specs.Platform.{passage_of, world_of}
use Rattle.flow_model.specs.World.{Passage, hop_at, hop_count, row_of}
use Rattle.payload_pool.specs.declared.baton.Baton.{Baton}
use Rattle.cargo_model.specs.declared.cargo.Cargo.{Cargo}
use Rattle.cargo_model.specs.Known.{Known}
use Rattle.cargo_model.specs.Tickets.{Stocks}
use Rattle.cargo_model.specs.Travel.{Asks, GoesDown, IsAsked, IsTaken, IsTakenAt, There, logged_by, numbers_for, reference, stop_for}
use Rattle.cargo_net.specs.Descends.{owed_on}
use Rattle.plat_net.specs.Places.{hop_place, own_pool}

-- x is a four-phase access of this initiator
pub record IsAccessOf (p : Plan) (initiator : ℕ) (x : TxnId) (pass : Passage) : Type 0 where
  pub of : x.initiator ≡ initiator
  pub passes : passage_of p x ≡ Some pass

-- A payload may be taken for x: it is a four-phase access of this initiator.
pub record CanTake (p : Plan) (initiator : ℕ) (x : TxnId) : Type 0 where
  pub pass : Passage
  pub access : IsAccessOf p initiator x pass

module _ (frame : Frame Plan) (tokens : TableId) (initiator : ℕ) where
  -- An access may start at the time of its Take: its payload asks for what the script asks for, at the initiator's address, and its wallet has the
  -- planned tickets but for that of the Take.
  pub record CanStart (b : Baton) (at : ℕ) (known : List (Entry Content)) : Type 0 where
    pub of : b.txn.initiator ≡ initiator
    pub pass : Passage
    pub asked : IsAsked frame.world tokens (Known frame.world.platform known) b.txn pass
    pub position : ℕ
    pub taken : FindsAt (Known frame.world.platform known) (IsTaken b.txn position b.slot) at
    pub own : b.own ≡ reference frame.world tokens b.txn position 16
    pub room : b.payload.room ≡ 4096
    pub status : b.payload.status ≡ Incomplete
    pub content : Asks asked.access asked.request.address b.payload
    pub tickets : Stocks tokens (hop_count pass) (numbers_for frame.world tokens (Known frame.world.platform known) b.txn pass asked) (λ j left. left ≡ 4) (2 * hop_count pass + 1) 1 (logged_by asked.access) b.wallet

  -- One reference more may be acquired at this time, with a ticket of this pool: so many were, of the known Take, and what the Acquire stands after
  -- is known.
  pub record CanAcquire (b : Baton) (at : ℕ) (known : List (Entry Content)) : Type 0 where
    pub pass : Passage
    pub access : IsAccessOf frame.world initiator b.txn pass
    pub position : ℕ
    pub taken : Finds (Known frame.world.platform known) (IsTaken b.txn position b.slot)
    pub count : ℕ
    pub few : count < 15
    pub own : b.own ≡ reference frame.world tokens b.txn position (16 + count)
    pub wallet : IsOf tokens b.wallet
    pub ticket : 0 < left_of b.wallet (own_pool frame.world initiator)
    pub after : AcquireBacked (world_of frame.world) (Known frame.world.platform known) b.txn pass count at

  -- A hold may be given up at this time: it is a reference of a known Take, and what its Release stands after is known.
  pub record CanRelease (hold : Slip) (at : ℕ) (known : List (Entry Content)) : Type 0 where
    pub x : TxnId
    pub pass : Passage
    pub access : IsAccessOf frame.world initiator x pass
    pub position : ℕ
    pub taken : Finds (Known frame.world.platform known) (IsTakenAt x position)
    pub count : ℕ
    pub few : count < 15
    pub is : hold ≡ reference frame.world tokens x position count
    pub after : ReleaseBacked (world_of frame.world) (Known frame.world.platform known) x pass count at

  -- A baton may be given up at this time: it has what it was given, and nothing is left in its wallet.
  pub record CanStow (b : Baton) (at : ℕ) (known : List (Entry Content)) : Type 0 where
    pub pass : Passage
    pub access : IsAccessOf frame.world initiator b.txn pass
    pub position : ℕ
    pub taken : Finds (Known frame.world.platform known) (IsTakenAt b.txn position)
    pub count : ℕ
    pub few : count < 16
    pub own : b.own ≡ reference frame.world tokens b.txn position (16 + count)
    pub room : b.payload.room ≡ 4096
    pub spent : b.wallet ≡ empty_purse 12
    pub after : ReleaseBacked (world_of frame.world) (Known frame.world.platform known) b.txn pass 15 at

  -- A request that was fetched from hop k may go on to the next one, at the time at which it leaves the router and with the address behind its
  -- window. `above` is the hop that it was fetched from, where END_REQ is owed there.
  pub record CanDescend (c : Cargo) (above : Option ℕ) (address at : ℕ) (known : List (Entry Content)) : Type 0 where
    pub of : c.baton.txn.initiator ≡ initiator
    pub pass : Passage
    pub hop : ℕ
    pub down : GoesDown frame.world tokens (Known frame.world.platform known) c.baton.txn pass There hop c
    pub next : hop + 1 < hop_count pass
    pub begun : Finds (Known frame.world.platform known) (IsPhase c.baton.txn (hop_at pass hop) BeginReq)
    pub arrival : ArrIs (world_of frame.world) (Known frame.world.platform known) c.baton.txn pass (hop + 1) at
    pub address_is : address ≡ (stop_for frame.world tokens (Known frame.world.platform known) c.baton.txn pass down.asked (hop + 1)).address
    pub above_is : above ≡ owed_on (row_of (world_of frame.world) pass hop) (hop_at pass hop)

-- where a hop stands in the history, if there is one
abbrev pub place_above : Plan → Option ℕ → Option ℕ
place_above p None = None
place_above p (Some h) = Some (hop_place p h)
