-- What an initiator needs to know to start an access that it took a payload for.
use Rattle.std.specs.Prelude.{ℕ, ◌≡◌, ◌+◌, ◌*◌, List}
use Rattle.atomic_table.specs.Seated.{TableId}
use Rattle.one_history.specs.declared.entry.Entry.{Entry}
use Rattle.one_history.specs.declared.view.Frame.{Frame}
use Rattle.tlm_types.specs.declared.entry.Content.{Content}
use Rattle.tlm_types.specs.declared.words.Response.TheVariants.{Incomplete}
use Rattle.tlm_model.specs.Plan.{Plan}
use Rattle.flow_model.specs.World.{Passage, hop_count}
use Rattle.flow_model.specs.Events.{FindsAt}
use Rattle.payload_pool.specs.declared.baton.Baton.{Baton}
use Rattle.cargo_model.specs.Known.{Known}
use Rattle.cargo_model.specs.Tickets.{AreApart, Stocks}
use Rattle.cargo_model.specs.Travel.{Asks, IsAsked, IsTaken, logged_by, numbers_for, reference}
use Rattle.cargo_net.specs.Pools.{IsPoolOf}

-- An access may start at the time of its Take: its payload asks for what the script asks for, at the initiator's address, and its wallet has the
-- planned tickets but for that of the Take.
pub record MayStart (frame : Frame Plan) (tokens : TableId) (number : ℕ) (b : Baton) (at : ℕ) (known : List (Entry Content)) : Type 0 where
  pub pass : Passage
  pub asked : IsAsked frame.world tokens (Known frame.world.platform known) b.txn pass
  pub pool : IsPoolOf frame number b.txn
  pub position : ℕ
  pub taken : FindsAt (Known frame.world.platform known) (IsTaken b.txn position b.slot) at
  pub own : b.own ≡ reference frame.world tokens b.txn position 16
  pub room : b.payload.room ≡ 4096
  pub status : b.payload.status ≡ Incomplete
  pub content : Asks asked.access asked.request.address b.payload
  pub apart : AreApart (hop_count pass) (numbers_for frame.world tokens (Known frame.world.platform known) b.txn pass asked)
  pub tickets : Stocks tokens (hop_count pass) (numbers_for frame.world tokens (Known frame.world.platform known) b.txn pass asked) (λ j left. left ≡ 4) (2 * hop_count pass + 1) 1 (logged_by asked.access) b.wallet
