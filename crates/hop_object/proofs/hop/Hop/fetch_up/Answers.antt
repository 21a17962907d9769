use Rattle.std.proofs.Common.{◌≡◌, get_or, ap, sym, subst, ◌∙◌, List, ℕ, true, false, Option, refl}
use Rattle.std.proofs.lemmas.List.{get_or_default}
use Rattle.base_phases.specs.declared.phases.LaneState.TheVariants.{Responding}
use Rattle.hop_object.specs.declared.lane.Lane.{Lane}
use Rattle.hop_object.specs.declared.lane.Side.TheVariants.{Up}
use Rattle.hop_object.specs.View.{HopView}
use Rattle.hop_object.specs.Lanes.{IsFirst, waits}
use Rattle.hop_object.proofs.Firsts.{waiting_carries, not_down}
use Rattle.hop_object.proofs.Places.{read_middle, read_twice}
use Rattle.std.specs.List.{All}
use Rattle.tlm_types.specs.declared.words.TxnId.{TxnId}
use Rattle.token_book.specs.Account.{Slip}
use Rattle.hop_object.specs.Calls.{FetchesUp}
use Rattle.hop_object.proofs.hop.Hop.fetch_up.Goals as goal

pub free_lane-time-requires-clause-place : goal.free_lane-time-requires-clause-place
free_lane-time-requires-clause-place g c =
    let i = c.in_ok-index.index in
    let found : IsFirst Up c.deref.result.now i = c.in_ok-index.ensures in
    let first = subst (λ (ls : List (Lane g.row.T.Denot)). IsFirst Up ls i) (c.deref.ensures.value ∙ ap (λ (v : HopView g.row.T.Denot). v.lanes) c.self.view_is) found in
    first.place

pub free_lane-time-requires-clause-carries : goal.free_lane-time-requires-clause-carries
free_lane-time-requires-clause-carries g c =
    let i = c.in_ok-index.index in
    let found : IsFirst Up c.deref.result.now i = c.in_ok-index.ensures in
    let first = subst (λ (ls : List (Lane g.row.T.Denot)). IsFirst Up ls i) (c.deref.ensures.value ∙ ap (λ (v : HopView g.row.T.Denot). v.lanes) c.self.view_is) found in
    λ d. waiting_carries Up (get_or c.args.self.now.lanes i d) (first.waiting d)

pub free_lane-time-requires-clause-ended : goal.free_lane-time-requires-clause-ended
free_lane-time-requires-clause-ended g c =
    let i = c.in_ok-index.index in
    let found : IsFirst Up c.deref.result.now i = c.in_ok-index.ensures in
    let first = subst (λ (ls : List (Lane g.row.T.Denot)). IsFirst Up ls i) (c.deref.ensures.value ∙ ap (λ (v : HopView g.row.T.Denot). v.lanes) c.self.view_is) found in
    let lane = c.index.result.now in
    let same = ap (λ (v : HopView g.row.T.Denot). get_or v.lanes i lane) (sym c.self.view_is) ∙ sym c.index.ensures in
    λ d. ap (λ (l : Lane g.row.T.Denot). l.state) (get_or_default c.args.self.now.lanes i d lane first.place ∙ same) ∙ c.in-Free.is

pub hand_out-leg-requires-clause-place : goal.hand_out-leg-requires-clause-place
hand_out-leg-requires-clause-place g c =
    let i = c.in_ok-index.index in
    let found : IsFirst Up c.deref.result.now i = c.in_ok-index.ensures in
    let first = subst (λ (ls : List (Lane g.row.T.Denot)). IsFirst Up ls i) (c.deref.ensures.value ∙ ap (λ (v : HopView g.row.T.Denot). v.lanes) c.self.view_is) found in
    first.place

pub hand_out-leg-requires-clause-carries : goal.hand_out-leg-requires-clause-carries
hand_out-leg-requires-clause-carries g c =
    let i = c.in_ok-index.index in
    let found : IsFirst Up c.deref.result.now i = c.in_ok-index.ensures in
    let first = subst (λ (ls : List (Lane g.row.T.Denot)). IsFirst Up ls i) (c.deref.ensures.value ∙ ap (λ (v : HopView g.row.T.Denot). v.lanes) c.self.view_is) found in
    λ d. waiting_carries Up (get_or c.args.self.now.lanes i d) (first.waiting d)

pub returns-in-Free : goal.returns-in-Free
returns-in-Free g c =
    let i = c.in_ok-index.index in
    let found : IsFirst Up c.deref.result.now i = c.in_ok-index.ensures in
    let first = subst (λ (ls : List (Lane g.row.T.Denot)). IsFirst Up ls i) (c.deref.ensures.value ∙ ap (λ (v : HopView g.row.T.Denot). v.lanes) c.self.view_is) found in
    (i, first, c.free_lane-time.ensures)

pub returns-in-Responding : goal.returns-in-Responding
returns-in-Responding g c =
    let i = c.in_ok-index.index in
    let found : IsFirst Up c.deref.result.now i = c.in_ok-index.ensures in
    let first = subst (λ (ls : List (Lane g.row.T.Denot)). IsFirst Up ls i) (c.deref.ensures.value ∙ ap (λ (v : HopView g.row.T.Denot). v.lanes) c.self.view_is) found in
    let out = c.hand_out-leg.ensures in
    let lane = c.index.result.now in
    let same : out.lane ≡ lane = read_twice c.args.self.now.lanes i out.lane lane first.place (read_middle c.args.self.now.lanes i out.lane first.place out.here) (c.index.ensures ∙ ap (λ (v : HopView g.row.T.Denot). get_or v.lanes i lane) c.self.view_is) in
    let state : Responding ≡ out.lane.state = sym (ap (λ (l : Lane g.row.T.Denot). l.state) same ∙ c.in-Responding.is) in
    (i, first, record { lane = out.lane; here = out.here; carried = out.carried; after = out.after; leg_is = out.leg_is; state_is = state; txn_is = out.txn_is; time_is = out.time_is })

pub hand_out-leg-requires-clause-tokens : goal.hand_out-leg-requires-clause-tokens
hand_out-leg-requires-clause-tokens g c = c.requires

pub returns-in_err-index : goal.returns-in_err-index
returns-in_err-index g c =
    let none : All (λ (l : Lane g.row.T.Denot). waits Up l ≡ false) c.deref.result.now = c.in_err-index.ensures in
    let here = subst (λ (ls : List (Lane g.row.T.Denot)). All (λ (l : Lane g.row.T.Denot). waits Up l ≡ false) ls) (c.deref.ensures.value ∙ ap (λ (v : HopView g.row.T.Denot). v.lanes) c.self.view_is) none in
    subst (λ (o : Option (Option Slip × TxnId × ℕ × g.row.T.Denot)). FetchesUp c.args.self.now c.args.self.now o) (sym c.from_residual.ensures) (refl, here)

pub unreachable-requires : goal.unreachable-requires
unreachable-requires g c =
    let i = c.in_ok-index.index in
    let lane = c.index.result.now in
    let found : IsFirst Up c.deref.result.now i = c.in_ok-index.ensures in
    let first = subst (λ (ls : List (Lane g.row.T.Denot)). IsFirst Up ls i) c.deref.ensures.value found in
    not_down lane (subst (λ (l : Lane g.row.T.Denot). waits Up l ≡ true) (sym c.index.ensures) (first.waiting lane)) c.in-Requested.is
