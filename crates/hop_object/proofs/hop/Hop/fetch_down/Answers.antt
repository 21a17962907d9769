use Rattle.std.proofs.Common.{◌≡◌, get_or, ap, subst, ◌∙◌, List, ℕ, false, Option, refl, sym}
use Rattle.hop_object.specs.declared.lane.Lane.{Lane}
use Rattle.hop_object.specs.declared.lane.Side.TheVariants.{Down}
use Rattle.hop_object.specs.View.{HopView}
use Rattle.hop_object.specs.Lanes.{IsFirst, waits}
use Rattle.hop_object.proofs.Firsts.{waiting_carries}
use Rattle.std.specs.List.{All}
use Rattle.tlm_types.specs.declared.words.TxnId.{TxnId}
use Rattle.base_phases.specs.declared.phases.LaneState.{LaneState}
use Rattle.token_book.specs.Account.{Slip}
use Rattle.hop_object.specs.Calls.{FetchesDown}
use Rattle.hop_object.proofs.hop.Hop.fetch_down.Goals as goal

pub hand_out-requires-clause-tokens : goal.hand_out-requires-clause-tokens
hand_out-requires-clause-tokens g c = c.requires

pub hand_out-requires-clause-place : goal.hand_out-requires-clause-place
hand_out-requires-clause-place g c =
    let found : IsFirst Down c.deref.result.now c.in_ok-index.index = c.in_ok-index.ensures in
    let first = subst (λ (ls : List (Lane g.row.T.Denot)). IsFirst Down ls c.in_ok-index.index) (c.deref.ensures.value ∙ ap (λ (v : HopView g.row.T.Denot). v.lanes) c.self.view_is) found in
    first.place

pub hand_out-requires-clause-carries : goal.hand_out-requires-clause-carries
hand_out-requires-clause-carries g c =
    let found : IsFirst Down c.deref.result.now c.in_ok-index.index = c.in_ok-index.ensures in
    let first = subst (λ (ls : List (Lane g.row.T.Denot)). IsFirst Down ls c.in_ok-index.index) (c.deref.ensures.value ∙ ap (λ (v : HopView g.row.T.Denot). v.lanes) c.self.view_is) found in
    λ d. waiting_carries Down (get_or c.args.self.now.lanes c.in_ok-index.index d) (first.waiting d)

pub returns : goal.returns
returns g c =
    let found : IsFirst Down c.deref.result.now c.in_ok-index.index = c.in_ok-index.ensures in
    let first = subst (λ (ls : List (Lane g.row.T.Denot)). IsFirst Down ls c.in_ok-index.index) (c.deref.ensures.value ∙ ap (λ (v : HopView g.row.T.Denot). v.lanes) c.self.view_is) found in
    (c.in_ok-index.index, first, c.hand_out.ensures)

pub returns-in_err-index : goal.returns-in_err-index
returns-in_err-index g c =
    let none : All (λ (l : Lane g.row.T.Denot). waits Down l ≡ false) c.deref.result.now = c.in_err-index.ensures in
    let here = subst (λ (ls : List (Lane g.row.T.Denot)). All (λ (l : Lane g.row.T.Denot). waits Down l ≡ false) ls) (c.deref.ensures.value ∙ ap (λ (v : HopView g.row.T.Denot). v.lanes) c.self.view_is) none in
    subst (λ (o : Option (Slip × LaneState × TxnId × ℕ × g.row.T.Denot)). FetchesDown c.args.self.now c.args.self.now o) (sym c.from_residual.ensures) (refl, here)
