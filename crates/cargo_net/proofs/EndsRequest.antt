-- What a note and the log of a hop know backs END_REQ, and what it leaves.
use Rattle.std.proofs.Common.{◌≡◌, ℕ, ◌+◌, ◌*◌, ◌<◌, ◌≤◌, ◌++◌, map, max, true, Option, Some, refl, sym, ◌∙◌, ap, arith, subst, inl, inr}
use Rattle.std.specs.Prelude.{◌%◌}
use Rattle.atomic_table.specs.Seated.{TableId}
use Rattle.one_history.specs.declared.view.Frame.{Frame}
use Rattle.one_history.specs.declared.view.View.{View}
use Rattle.tlm_types.specs.declared.entry.Content.{Content}
use Rattle.tlm_types.specs.declared.words.Phase.TheVariants.{EndReq as end_req_phase}
use Rattle.tlm_types.specs.declared.words.TlmSync.TheVariants.{Accepted}
use Rattle.tlm_model.specs.Plan.{Plan}
use Rattle.base_phases.specs.declared.phases.LaneState.TheVariants.{Requested, Waiting}
use Rattle.token_book.specs.Account.{Slip}
use Rattle.shared_object.specs.Standing.{IsBuiltFor, place}
use Rattle.shared_object.specs.Written.{placed, wrote}
use Rattle.flow_model.specs.World.{hop_at}
use Rattle.flow_model.specs.Platform.{world_of}
use Rattle.flow_model.proofs.More.{finds_at_more, finds_more}
use Rattle.numbered_log.specs.Logged.{written_by}
use Rattle.hop_object.specs.View.{HopView}
use Rattle.hop_object.specs.Hops.{IsLegOf}
use Rattle.hop_object.specs.Lanes.{has_leg, name_at}
use Rattle.hop_object.specs.States.{number_of_state}
use Rattle.hop_object.specs.Objects.{built_of, content_by, is_admitted, knows, lane_of, last_of}
use Rattle.hop_object.specs.declared.call.HopCall.TheVariants.{EndReq}
use Rattle.hop_object.specs.declared.call.HopReply.TheVariants.{EndedReq}
use Rattle.hop_object.specs.declared.lane.Lane.{Lane}
use Rattle.hop_object.proofs.LegLaws.{found_there}
use Rattle.hop_object.proofs.LegLemmas.{leg_parts, small}
use Rattle.hop_object.proofs.Places.{found_any}
use Rattle.cargo_model.specs.declared.cargo.Cargo.{Cargo}
use Rattle.cargo_model.specs.Known.{Known, event_of}
use Rattle.cargo_model.proofs.Backs.{call_backed}
use Rattle.cargo_net.specs.Ends.{HasEndedRequest, MayEndRequest}
use Rattle.cargo_net.specs.Hops.{HasAnswered, MeetsHop}
use Rattle.cargo_net.specs.Traffic.{Backs, IsHopBuilt}
use Rattle.cargo_net.proofs.HopLogs.{all_known, call_is, known_of_note, leg_last, leg_txn, made}
use Rattle.cargo_net.proofs.Lists.{later_of, no_less}

-- the leg that is found names the place of its lane
same_place : (a s p t : ℕ) → s < 4 → t < 4 → 4 * a + s ≡ 4 * p + t → a ≡ p
same_place a s p t few less is = omega arith

module _ (frame : Frame Plan) (tokens : TableId) (number own : ℕ) (leg : Slip) (at : ℕ) (note : View Content Plan) (may : MayEndRequest frame tokens number leg at note.known) where
  -- the leg fits each hop that may stand there
  pub fits : (o : HopView Cargo) → IsBuiltFor IsHopBuilt (place frame tokens number own) (built_of o) → IsLegOf o leg Requested
  fits o built = record {
    table = may.leg_of.table ∙ sym built.book.0;
    owner = may.leg_of.owner ∙ sym built.book.1;
    state_is = ap (λ (i : ℕ). i % 4) may.leg_of.name ∙ rest may.leg_of.entry.position;
  }
    where
      rest : (q : ℕ) → (4 * q + 1) % 4 ≡ 1
      rest q = omega arith

  pub backed : (o : HopView Cargo) (q : ℕ) → MeetsHop frame tokens number own note.known o → is_admitted o (EndReq leg at) ≡ true →
      Backs frame.world (map (placed number) (map written_by o.log.events) ++ note.known) (placed number (wrote q (content_by o (EndReq leg at))))
  backed o q meets admitted =
      let known_all = all_known frame tokens number own note may.x may.pass may.hop may.way o meets in
      let more = known_of_note frame tokens number own note may.x may.pass may.hop may.way o meets in
      let w = world_of frame.world in
      let last = leg_last frame tokens number own note may.x may.pass may.hop may.way o meets Requested leg (omega arith) may.leg_of admitted in
      let txn = leg_txn frame tokens number own note may.x may.pass may.hop may.way o meets Requested leg (omega arith) may.leg_of admitted in
      call_backed w (Known frame.world.platform known_all) may.x may.pass may.way.passes (event_of frame.world.platform (placed number (wrote q (content_by o (EndReq leg at))))) (hop_at may.pass may.hop) end_req_phase Accepted
      (call_is frame tokens number own note may.x may.pass may.hop may.way o meets (EndReq leg at) q may.x txn)
      (record {
        hop = may.hop;
        below = may.way.below;
        place = refl;
        order = record {
          taken = finds_more w (Known frame.world.platform note.known) (Known frame.world.platform known_all) more may.x _ may.way.taken;
          passed = λ l. finds_more w (Known frame.world.platform note.known) (Known frame.world.platform known_all) more may.x _ (may.passed l);
        };
        time = record {
          number = at;
          is_number = finds_at_more w (Known frame.world.platform note.known) (Known frame.world.platform known_all) more may.x _ at may.least;
          time = elim (later_of at (last_of (lane_of o leg))) [
            | inl e ↦ inl e
            | inr e ↦ inr (e.0, record { event = last.event; known = last.known; is = inl last.is; time = last.time ∙ sym e.1 })
          ];
        };
        sequence = may.row;
      })

  -- what the step leaves
  pub ended : (back : View Content Plan) (next : Slip) (time : ℕ) → HasAnswered frame tokens number own note back (EndReq leg at) (EndedReq next time) → HasEndedRequest frame tokens number at may.x may.pass may.hop next time back.known
  ended back next time a =
      let s = a.applied in
      let there : knows a.before leg ≡ true = found_any (has_leg leg.name) a.before.lanes s.lane s.leg_is in
      let txn = leg_txn frame tokens number own note may.x may.pass may.hop may.way a.before a.met Requested leg (omega arith) may.leg_of there in
      let f = made frame tokens number own note may.x may.pass may.hop may.way back (EndReq leg at) (EndedReq next time) a there may.x txn in
      let is : max at (last_of (lane_of a.before leg)) ≡ time = ap (λ (l : Option (Lane Cargo)). max at (last_of l)) s.leg_is ∙ sym s.time_is in
      record {
        leg_of = record {
          table = ap (λ (t : Slip). t.table) s.next_is ∙ a.met.built_for.book.0;
          owner = ap (λ (t : Slip). t.owner) s.next_is ∙ a.met.built_for.book.1;
          entry = may.leg_of.entry;
          has = a.enters.knew may.leg_of.entry may.leg_of.has;
          object = may.leg_of.object;
          txn = may.leg_of.txn;
          name = ap (λ (t : Slip). t.name) s.next_is ∙ ap (λ (i : ℕ). name_at i Waiting) (lane_place s.lane s.leg_is);
        };
        late = subst (λ (t : ℕ). at ≤ t) (sym s.time_is) (no_less at s.lane.last);
        made = record { event = f.event; known = f.known; is = f.is; time = f.time ∙ is };
      }
    where
      lane_place : (lane : Lane Cargo) → lane_of a.before leg ≡ Some lane → lane.position ≡ may.leg_of.entry.position
      lane_place lane found =
          let here = leg_parts leg.name lane (passes lane found) in
          same_place lane.position (number_of_state lane.state) may.leg_of.entry.position 1 (small lane.state) (omega arith) (here.1 ∙ may.leg_of.name)
        where
          passes : (lane : Lane Cargo) → lane_of a.before leg ≡ Some lane → has_leg leg.name lane ≡ true
          passes lane found = let r = found_there (has_leg leg.name) a.before.lanes (found_any (has_leg leg.name) a.before.lanes lane found) in subst (λ (l : Lane Cargo). has_leg leg.name l ≡ true) (only _ _ (sym r.found ∙ found)) r.passes
            where
              only : (a b : Lane Cargo) → Some a ≡ Some b → a ≡ b
              only a b e = cc
