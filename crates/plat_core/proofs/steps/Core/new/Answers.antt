use Rattle.std.proofs.Common.{◌≡◌, ◌∙◌, ℕ, [], false, length, map, replicate, ap, sym, arith}
use Rattle.std.proofs.lemmas.List.{length-map}
use Rattle.tlm_model.specs.declared.platform.Platform.{Platform}
use Rattle.tlm_model.specs.Plan.{Initiator, initiators_of}
use Rattle.generic_payload.specs.Payload.{PayloadView}
use Rattle.time_board.specs.Rounds.{new_member}
use Rattle.plat_core.specs.Core.{are_finished, begun_run}
use Rattle.plat_core.proofs.BeginLemmas.{core_begun, no_flags, no_history}
use Rattle.route_plan.proofs.ShareLemmas.{count_initiators}
use Rattle.plat_core.proofs.RoundsKept.{rounds_begun}
use Rattle.plat_core.proofs.ViewLemmas.{view_is}
use Rattle.plat_core.proofs.steps.Core.new.Goals as goal

pub overflow_cast-initiators : goal.overflow_cast-initiators
overflow_cast-initiators c =
    let count : length c.as_slice.result.now ≡ length c.args.plan.now.platform.initiators = ap length (c.as_slice.ensures ∙ ap (λ (x : Platform). x.initiators) c.platform.ensures.same) in
    omega (arith, c.platform.ensures.valid.shape.bounded.initiator_count)

pub invariant_of-result : goal.invariant_of-result
invariant_of-result c =
    let p = c.args.plan.now in
    let size : length c.in_ok-runs.runs.items ≡ length p.platform.initiators =
    ap length c.in_ok-runs.ensures ∙ (length-map (initiators_of p) (begun_run p) ∙ count_initiators 0 p.platform.initiators p.scripts c.platform.ensures.valid.scripts) in
    let count : length c.as_slice.result.now ≡ length p.platform.initiators = ap length (c.as_slice.ensures ∙ ap (λ (x : Platform). x.initiators) c.platform.ensures.same) in (
      core_begun p c.in_ok-runs.runs.items c.in_ok-regions.regions.items c.platform.ensures.valid c.requires.blocking c.requires.quiet c.in_ok-runs.ensures c.in_ok-regions.ensures (count_initiators 0 p.platform.initiators p.scripts c.platform.ensures.valid.scripts),
      rounds_begun p _ c.in_ok-runs.runs.items c.in_ok-rounds.rounds c.in_ok-runs.ensures (no_history p c.in_ok-regions.regions.items _ c.in_ok-regions.ensures) (c.in_ok-rounds.ensures ∙ ap (λ (n : ℕ). replicate n new_member) (count ∙ sym size)),
      ap (λ (x : PayloadView). x.room) c.in_ok-payload.ensures,
    )

pub returns : goal.returns
returns c =
    let p = c.args.plan.now in
    let count : length c.as_slice.result.now ≡ length p.platform.initiators = ap length (c.as_slice.ensures ∙ ap (λ (x : Platform). x.initiators) c.platform.ensures.same) in
    view_is p _ [] (are_finished c.in_ok-runs.runs.items) (map (λ (i : Initiator). false) (initiators_of p)) c.in_ok-rounds.rounds (replicate (length p.platform.initiators) new_member)
    (no_history p c.in_ok-regions.regions.items _ c.in_ok-regions.ensures) (ap are_finished c.in_ok-runs.ensures ∙ no_flags p (initiators_of p))
    (c.in_ok-rounds.ensures ∙ ap (λ (n : ℕ). replicate n new_member) count)
