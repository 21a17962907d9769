-- A port by one note is one by any note of its history that knows more.
use Rattle.std.proofs.Common.{List, Option, Some, None, ℕ}
use Rattle.atomic_table.specs.Seated.{TableId}
use Rattle.view_lists.specs.Lists.{Within}
use Rattle.one_history.specs.declared.entry.Entry.{Entry}
use Rattle.one_history.specs.declared.view.Frame.{Frame}
use Rattle.tlm_types.specs.declared.entry.Content.{Content}
use Rattle.tlm_types.specs.declared.words.Phase.TheVariants.{BeginResp}
use Rattle.tlm_types.specs.declared.words.TlmSync.{TlmSync}
use Rattle.tlm_types.specs.declared.words.TlmSync.TheVariants.{Completed, Updated}
use Rattle.tlm_types.specs.declared.words.TxnId.{TxnId}
use Rattle.tlm_model.specs.Plan.{Plan, Initiator}
use Rattle.token_book.specs.Account.{Slip}
use Rattle.token_book.specs.declared.ticket.Ticket.{Ticket}
use Rattle.payload_pool.specs.declared.baton.Baton.{Baton}
use Rattle.flow_model.specs.Backed.{ReleaseBacked}
use Rattle.flow_model.specs.World.{Passage}
use Rattle.flow_model.specs.Numbers.{released_hop}
use Rattle.flow_model.specs.Platform.{world_of}
use Rattle.flow_model.specs.Events.{Event}
use Rattle.flow_model.proofs.More.{end_more, finds_at_more, finds_more}
use Rattle.cargo_model.specs.declared.cargo.Cargo.{Cargo}
use Rattle.cargo_model.specs.Known.{Known}
use Rattle.cargo_model.specs.Travel.{There}
use Rattle.cargo_model.proofs.More.{goes_down_more}
use Rattle.cargo_net.specs.Begins.{HasOwedLeg}
use Rattle.cargo_net.proofs.Grown.{asked_at}
use Rattle.port_model.specs.Way.{Port}
use Rattle.port_moves.specs.Laws.{PortKnowsMore}
use Rattle.port_moves.specs.State.{IsBegun, IsInHand, IsReleased, IsTakenUp}
use Rattle.port_moves.specs.declared.hand.Hand.{Hand}
use Rattle.port_moves.specs.declared.hand.Hand.TheVariants.{Free, Taken, Acquired, Begun, Owed, Ended, Released}
use Rattle.port_moves.proofs.Goes.{goes_on}
use Rattle.port_moves.proofs.HandsMore.{ended_more, held_more, owed_more, ready_more, step}

module _ (frame : Frame Plan) (tokens : TableId) (i : Initiator) (port : Port) (known more : List (Entry Content)) (w : Within known more) where
  abbrev K : Event → Type 0
  K = Known frame.world.platform known

  abbrev L : Event → Type 0
  L = Known frame.world.platform more

  abbrev go : (e : Event) → K e → L e
  go = step frame tokens i port known more w

  taken_more : (b : Baton) → IsTakenUp frame tokens i port known b → IsTakenUp frame tokens i port more b
  taken_more b t = record {
    start = (
        let s = t.start in
        record {
          of = s.of;
          pass = s.pass;
          asked = asked_at frame.world tokens K L go b.txn s.pass s.asked;
          position = s.position;
          taken = finds_at_more (world_of frame.world) K L go b.txn _ port.time s.taken;
          own = s.own;
          room = s.room;
          status = s.status;
          content = s.content;
          tickets = s.tickets;
        });
  }

  -- the leg of END_RESP, where the response came by return
  leg_more : (number : ℕ) (x : TxnId) (answer : TlmSync) (leg : Option Slip) → HasOwedLeg frame tokens number known x answer leg → HasOwedLeg frame tokens number more x answer leg
  leg_more number x Completed None g = tt
  leg_more number x (Updated BeginResp) (Some leg) g = record { table = g.table; owner = g.owner; entry = g.entry; has = w g.entry g.has; object = g.object; txn = g.txn; name = g.name }
  leg_more number x answer leg g = absurd g

  begun_more : (c : Cargo) (at : ℕ) (leg : Option Slip) → IsBegun frame tokens i port known c at leg → IsBegun frame tokens i port more c at leg
  begun_more c at leg b = record {
    own = b.own;
    pass = b.pass;
    passes = b.passes;
    down = goes_down_more frame.world tokens K L go c.baton.txn b.pass There 0 c b.down;
    answer = b.answer;
    made = finds_at_more (world_of frame.world) K L go c.baton.txn _ at b.made;
    fits = b.fits;
    responds = b.responds;
    leg_of = leg_more _ c.baton.txn b.answer leg b.leg_of;
  }

  backs_more : (x : TxnId) (pass : Passage) (n t : ℕ) → ReleaseBacked (world_of frame.world) K x pass n t → ReleaseBacked (world_of frame.world) L x pass n t
  backs_more x pass n t r = record {
    below = r.below;
    ended = finds_more (world_of frame.world) K L go x _ r.ended;
    time = end_more (world_of frame.world) K L go x pass (released_hop n) t r.time;
    served = λ routed. finds_more (world_of frame.world) K L go x _ (r.served routed);
  }

  released_more : (b : Baton) (ticket : Ticket) (end : ℕ) → IsReleased frame tokens i port known b ticket end → IsReleased frame tokens i port more b ticket end
  released_more b ticket end r = record {
    stow = (
        let s = r.stow in
        record {
          pass = s.pass;
          access = s.access;
          position = s.position;
          taken = finds_more (world_of frame.world) K L go b.txn _ s.taken;
          count = s.count;
          few = s.few;
          own = s.own;
          room = s.room;
          spent = s.spent;
          after = backs_more b.txn s.pass 15 end s.after;
        });
    of = r.of;
  }

  hand_more : (hand : Hand) → IsInHand frame tokens i port known hand → IsInHand frame tokens i port more hand
  hand_more Free h = tt
  hand_more (Taken b) h = taken_more b h
  hand_more (Acquired c) h = ready_more frame tokens i port known more w c h
  hand_more (Begun c at leg) h = begun_more c at leg h
  hand_more (Owed c leg at) h = owed_more frame tokens i port known more w c leg at h
  hand_more (Ended c end) h = ended_more frame tokens i port known more w c end h
  hand_more (Released b ticket end) h = released_more b ticket end h

pub knows_more : PortKnowsMore
knows_more table tokens frame s note back p of within below =
    let known = note.knows.known in
    let more = back.knows.known in
    goes_on table tokens frame s note back s.hand s.held p of within below (hand_more frame tokens p.initiator s.port known more within s.hand p.in_hand)
    (held_more frame tokens p.initiator s.port known more within s.held p.is_held) p.alone
