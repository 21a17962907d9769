-- What a router needs to know to send a fetched request on.
use Rattle.std.specs.Prelude.{ℕ, ◌≡◌, ◌+◌, ◌<◌, List, Option, Some, None}
use Rattle.atomic_table.specs.Seated.{TableId}
use Rattle.one_history.specs.declared.entry.Entry.{Entry}
use Rattle.one_history.specs.declared.view.Frame.{Frame}
use Rattle.tlm_types.specs.declared.entry.Content.{Content}
use Rattle.tlm_types.specs.declared.words.ObjectNo.TheVariants.{Hop}
use Rattle.tlm_types.specs.declared.words.Phase.TheVariants.{BeginReq}
use Rattle.tlm_types.specs.declared.words.ReqMode.{ReqMode}
use Rattle.tlm_types.specs.declared.words.ReqMode.TheVariants.{Accept}
use Rattle.tlm_model.specs.Plan.{Plan}
use Rattle.flow_model.specs.World.{Passage, hop_at, hop_count, row_of}
use Rattle.flow_model.specs.Events.{Finds, IsPhase}
use Rattle.flow_model.specs.Numbers.{ArrIs}
use Rattle.flow_model.specs.Platform.{world_of}
use Rattle.cargo_model.specs.declared.cargo.Cargo.{Cargo}
use Rattle.cargo_model.specs.Known.{Known, object_number}
use Rattle.cargo_model.specs.Tickets.{AreApart}
use Rattle.cargo_model.specs.Travel.{GoesDown, There, numbers_for, stop_for}
use Rattle.cargo_net.specs.Pools.{IsPoolOf}

-- the hop on which END_REQ is owed: the one with this number, where its row has one
abbrev pub owed_on : ReqMode → ℕ → Option ℕ
owed_on Accept number = Some number
owed_on row number = None

-- A request that was fetched from hop k may go on to the next one, at the time at which it leaves the router and with the address behind its window.
-- `above` is the number of the hop that it was fetched from, where END_REQ is owed there.
pub record MayDescend (frame : Frame Plan) (tokens : TableId) (number : ℕ) (c : Cargo) (above : Option ℕ) (address at : ℕ) (known : List (Entry Content)) : Type 0 where
  pub pass : Passage
  pub hop : ℕ
  pub down : GoesDown frame.world tokens (Known frame.world.platform known) c.baton.txn pass There hop c
  pub next : hop + 1 < hop_count pass
  pub pool : IsPoolOf frame number c.baton.txn
  pub apart : AreApart (hop_count pass) (numbers_for frame.world tokens (Known frame.world.platform known) c.baton.txn pass down.asked)
  pub begun : Finds (Known frame.world.platform known) (IsPhase c.baton.txn (hop_at pass hop) BeginReq)
  pub arrival : ArrIs (world_of frame.world) (Known frame.world.platform known) c.baton.txn pass (hop + 1) at
  pub address_is : address ≡ (stop_for frame.world tokens (Known frame.world.platform known) c.baton.txn pass down.asked (hop + 1)).address
  pub above_is : above ≡ owed_on (row_of (world_of frame.world) pass hop) (object_number frame.world.platform (Hop (hop_at pass hop)))
