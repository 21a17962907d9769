-- What a port knows of what it works on, it knows by more entries.
use Rattle.std.proofs.Common.{ℕ, List, Option, Some, None, drop, ◌+◌}
use Rattle.atomic_table.specs.Seated.{TableId}
use Rattle.view_lists.specs.Lists.{Within}
use Rattle.one_history.specs.declared.entry.Entry.{Entry}
use Rattle.one_history.specs.declared.view.Frame.{Frame}
use Rattle.tlm_types.specs.declared.entry.Content.{Content}
use Rattle.tlm_model.specs.Plan.{Plan, Initiator}
use Rattle.token_book.specs.Account.{Slip}
use Rattle.flow_model.specs.World.{hop_at}
use Rattle.flow_model.specs.Events.{Event}
use Rattle.flow_model.specs.Platform.{world_of}
use Rattle.flow_model.proofs.More.{end_more, finds_at_more, finds_more, rsp_more}
use Rattle.cargo_model.specs.declared.cargo.Cargo.{Cargo}
use Rattle.cargo_model.specs.Known.{Known}
use Rattle.cargo_model.specs.Travel.{Back, Ready, with_wallet}
use Rattle.cargo_model.proofs.More.{goes_down_more, goes_up_more}
use Rattle.port_model.specs.Way.{Port}
use Rattle.port_moves.specs.State.{IsEnded, IsHeld, IsOwed, IsReady}

pub known_more : (p : Plan) (known more : List (Entry Content)) → Within known more → (e : Event) → Known p.platform known e → Known p.platform more e
known_more p known more w e k = record { entry = k.entry; has = w k.entry k.has; is = k.is }

module _ (frame : Frame Plan) (tokens : TableId) (i : Initiator) (port : Port) (known more : List (Entry Content)) (w : Within known more) where
  abbrev pub step : (e : Event) → Known frame.world.platform known e → Known frame.world.platform more e
  step = known_more frame.world known more w

  pub ready_more : (c : Cargo) → IsReady frame tokens i port known c → IsReady frame tokens i port more c
  ready_more c r = record {
    own = r.own;
    pass = r.pass;
    passes = r.passes;
    down = goes_down_more frame.world tokens _ _ step c.baton.txn r.pass Ready 0 c r.down;
    taken = finds_at_more (world_of frame.world) _ _ step c.baton.txn _ port.time r.taken;
  }

  -- so the request that was refused may still go down
  pub held_more : (held : Option Cargo) → IsHeld frame tokens i port known held → IsHeld frame tokens i port more held
  held_more None h = tt
  held_more (Some c) h = ready_more c h

  abbrev pub owed_more : (c : Cargo) (leg : Slip) (at : ℕ) → IsOwed frame tokens i port known c leg at → IsOwed frame tokens i port more c leg at
  owed_more c leg at o = record {
    pass = o.pass;
    passes = o.passes;
    up = goes_up_more frame.world tokens _ _ step c.baton.txn o.pass (Back 1) 0 c o.up;
    own = o.own;
    leg_of = (let l = o.leg_of in record { table = l.table; owner = l.owner; entry = l.entry; has = w l.entry l.has; object = l.object; txn = l.txn; name = l.name });
    least = rsp_more (world_of frame.world) _ _ step c.baton.txn (hop_at o.pass 0) (drop (0 + 1) (let pass = o.pass in pass.hops)) at o.least;
  }

  pub ended_more : (c : Cargo) (end : ℕ) → IsEnded frame tokens i port known c end → IsEnded frame tokens i port more c end
  ended_more c end o = record {
    pass = o.pass;
    passes = o.passes;
    owed = o.owed;
    few = o.few;
    before = o.before;
    up = goes_up_more frame.world tokens _ _ step c.baton.txn o.pass (Back o.owed) 0 (with_wallet c o.before) o.up;
    own = o.own;
    pulls = o.pulls;
    made = λ some. finds_more (world_of frame.world) _ _ step c.baton.txn _ (o.made some);
    ender = finds_more (world_of frame.world) _ _ step c.baton.txn _ o.ender;
    time = end_more (world_of frame.world) _ _ step c.baton.txn o.pass 0 end o.time;
  }
