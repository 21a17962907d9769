-- What a note and the log of a hop know backs END_RESP, and what it leaves.
use Rattle.std.proofs.Common.{◌≡◌, ℕ, zero, suc, ◌+◌, ◌*◌, ◌≤◌, ◌++◌, map, drop, max, true, Option, refl, sym, ◌∙◌, ap, arith, subst, inl, inr}
use Rattle.std.specs.Prelude.{◌%◌}
use Rattle.atomic_table.specs.Seated.{TableId}
use Rattle.one_history.specs.declared.view.Frame.{Frame}
use Rattle.one_history.specs.declared.view.View.{View}
use Rattle.tlm_types.specs.declared.entry.Content.{Content}
use Rattle.tlm_types.specs.declared.words.Phase.TheVariants.{EndResp as end_resp_phase}
use Rattle.tlm_types.specs.declared.words.TlmSync.TheVariants.{Completed}
use Rattle.tlm_types.specs.declared.words.TxnId.{TxnId}
use Rattle.tlm_model.specs.Plan.{Plan}
use Rattle.base_phases.specs.declared.phases.LaneState.TheVariants.{Responding}
use Rattle.token_book.specs.Account.{Slip}
use Rattle.shared_object.specs.Standing.{IsBuiltFor, place}
use Rattle.shared_object.specs.Written.{placed, wrote}
use Rattle.flow_model.specs.World.{Passage, World, hop_at}
use Rattle.flow_model.specs.Events.{Event}
use Rattle.flow_model.specs.Numbers.{NumberOf}
use Rattle.flow_model.specs.Platform.{world_of}
use Rattle.flow_model.proofs.More.{finds_more, rsp_more}
use Rattle.numbered_log.specs.Logged.{written_by}
use Rattle.hop_object.specs.View.{HopView}
use Rattle.hop_object.specs.Hops.{IsLegOf}
use Rattle.hop_object.specs.Lanes.{has_leg}
use Rattle.hop_object.specs.Objects.{built_of, content_by, is_admitted, knows, lane_of, last_of}
use Rattle.hop_object.specs.declared.call.HopCall.TheVariants.{EndResp}
use Rattle.hop_object.specs.declared.call.HopReply.TheVariants.{EndedResp}
use Rattle.hop_object.specs.declared.lane.Lane.{Lane}
use Rattle.hop_object.proofs.Places.{found_any}
use Rattle.cargo_model.specs.declared.cargo.Cargo.{Cargo}
use Rattle.cargo_model.specs.Known.{Known, event_of}
use Rattle.cargo_model.proofs.Backs.{call_backed}
use Rattle.cargo_net.specs.Ends.{HasEndedResponse, MayEndResponse}
use Rattle.cargo_net.specs.Hops.{HasAnswered, MeetsHop}
use Rattle.cargo_net.specs.Traffic.{Backs, IsHopBuilt}
use Rattle.cargo_net.proofs.HopLogs.{all_known, call_is, known_of_note, leg_last, leg_txn, made}
use Rattle.cargo_net.proofs.Lists.{later_of, no_less}

-- the time that the known entries give for END_RESP, by more of them
number_more : (w : World) (K L : Event → Type 0) → ((e : Event) → K e → L e) → (x : TxnId) (pass : Passage) (k t : ℕ) → NumberOf w K x pass k end_resp_phase t → NumberOf w L x pass k end_resp_phase t
number_more w K L more x pass zero t n = rsp_more w K L more x (hop_at pass 0) (drop (0 + 1) pass.hops) t n
number_more w K L more x pass (suc k) t n = rsp_more w K L more x (hop_at pass k) (drop (k + 1) pass.hops) t n

module _ (frame : Frame Plan) (tokens : TableId) (number own : ℕ) (leg : Slip) (at : ℕ) (note : View Content Plan) (may : MayEndResponse frame tokens number leg at note.known) where
  -- the leg fits each hop that may stand there
  pub fits : (o : HopView Cargo) → IsBuiltFor IsHopBuilt (place frame tokens number own) (built_of o) → IsLegOf o leg Responding
  fits o built = record {
    table = may.leg_of.table ∙ sym built.book.0;
    owner = may.leg_of.owner ∙ sym built.book.1;
    state_is = ap (λ (i : ℕ). i % 4) may.leg_of.name ∙ rest may.leg_of.entry.position;
  }
    where
      rest : (q : ℕ) → (4 * q + 3) % 4 ≡ 3
      rest q = omega arith

  pub backed : (o : HopView Cargo) (q : ℕ) → MeetsHop frame tokens number own note.known o → is_admitted o (EndResp leg at) ≡ true →
      Backs frame.world (map (placed number) (map written_by o.log.events) ++ note.known) (placed number (wrote q (content_by o (EndResp leg at))))
  backed o q meets admitted =
      let known_all = all_known frame tokens number own note may.x may.pass may.hop may.way o meets in
      let more = known_of_note frame tokens number own note may.x may.pass may.hop may.way o meets in
      let w = world_of frame.world in
      let last = leg_last frame tokens number own note may.x may.pass may.hop may.way o meets Responding leg (omega arith) may.leg_of admitted in
      let txn = leg_txn frame tokens number own note may.x may.pass may.hop may.way o meets Responding leg (omega arith) may.leg_of admitted in
      call_backed w (Known frame.world.platform known_all) may.x may.pass may.way.passes (event_of frame.world.platform (placed number (wrote q (content_by o (EndResp leg at))))) (hop_at may.pass may.hop) end_resp_phase Completed
      (call_is frame tokens number own note may.x may.pass may.hop may.way o meets (EndResp leg at) q may.x txn)
      (record {
        hop = may.hop;
        below = may.way.below;
        place = refl;
        order = record {
          taken = finds_more w (Known frame.world.platform note.known) (Known frame.world.platform known_all) more may.x _ may.way.taken;
          ended = λ j l. finds_more w (Known frame.world.platform note.known) (Known frame.world.platform known_all) more may.x _ (may.ended j l);
        };
        time = record {
          number = at;
          is_number = number_more w (Known frame.world.platform note.known) (Known frame.world.platform known_all) more may.x may.pass may.hop at may.least;
          time = elim (later_of at (last_of (lane_of o leg))) [
            | inl e ↦ inl e
            | inr e ↦ inr (e.0, record { event = last.event; known = last.known; is = inl last.is; time = last.time ∙ sym e.1 })
          ];
        };
        sequence = tt;
      })

  -- what the step leaves
  pub ended : (back : View Content Plan) (time : ℕ) → HasAnswered frame tokens number own note back (EndResp leg at) (EndedResp time) → HasEndedResponse frame at may.x may.pass may.hop time back.known
  ended back time a =
      let s = a.applied in
      let there : knows a.before leg ≡ true = found_any (has_leg leg.name) a.before.lanes s.lane s.leg_is in
      let txn = leg_txn frame tokens number own note may.x may.pass may.hop may.way a.before a.met Responding leg (omega arith) may.leg_of there in
      let f = made frame tokens number own note may.x may.pass may.hop may.way back (EndResp leg at) (EndedResp time) a there may.x txn in
      let is : max at (last_of (lane_of a.before leg)) ≡ time = ap (λ (l : Option (Lane Cargo)). max at (last_of l)) s.leg_is ∙ sym s.time_is in
      record {
        late = subst (λ (t : ℕ). at ≤ t) (sym s.time_is) (no_less at s.lane.last);
        made = record { event = f.event; known = f.known; is = f.is; time = f.time ∙ is };
      }
