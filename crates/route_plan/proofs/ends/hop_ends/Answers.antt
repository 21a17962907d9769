use Rattle.std.proofs.Common.{◌≡◌, ◌++◌, map, ap, ◌∙◌}
use Rattle.std.specs.List.{enumerate_from}
use Rattle.route_plan.specs.Routes.{binding_ends, window_ends, router_ends, ends_of}
use Rattle.route_plan.proofs.NumberLemmas.{joined_all, joined_more}
use Rattle.route_plan.proofs.ends.hop_ends.Goals as goal

pub loop-number-preserved : goal.loop-number-preserved
loop-number-preserved c =
    let more = c.in_ok-more.more.items in
    let here : more ≡ router_ends (c.loop-number.number, c.index-routers-number.result) = c.in_ok-more.ensures ∙ ap (λ ws. map (window_ends c.loop-number.number) (enumerate_from 0 ws)) c.as_slice-in-loop-number.ensures in
    joined_more router_ends (map binding_ends (enumerate_from 0 c.args.platform.now.initiators)) c.as_slice-routers.result.now c.loop-number.ends.items c.extend_from_slice.new.self.items more c.loop-number.number c.index-routers-number.result
    c.loop-number-test.true c.index-routers-number.is here (c.in_ok-extend_from_slice.ensures.items ∙ ap (λ xs. c.loop-number.ends.items ++ xs) c.as_slice-in-loop-number-2.ensures.value) c.loop-number.invariant

pub returns : goal.returns
unfolding ends_of
returns c =
    joined_all router_ends (map binding_ends (enumerate_from 0 c.args.platform.now.initiators)) c.as_slice-routers.result.now c.args.platform.now.routers c.loop-number.ends.items c.loop-number.number
    c.as_slice-routers.ensures c.loop-number-test.false c.loop-number.invariant
