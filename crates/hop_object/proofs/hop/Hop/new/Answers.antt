use Rattle.std.proofs.Common.{List, [], sym, subst, arith}
use Rattle.numbered_log.specs.Logged.{LoggedView}
use Rattle.hop_object.specs.declared.call.HopTraits.{HopTraits}
use Rattle.hop_object.specs.declared.lane.Lane.{Lane}
use Rattle.hop_object.specs.Hops.{Kept}
use Rattle.hop_object.proofs.NewLemmas.{kept_new}
use Rattle.hop_object.proofs.hop.Hop.new.Goals as goal

pub invariant_of-result : goal.invariant_of-result
invariant_of-result g c =
    let a = c.args in
    let traits : HopTraits = record { lanes = a.lanes; req = a.req; resp = a.resp } in
    let made = kept_new {T = g.row.T.Denot} a.number a.entries traits a.book c.requires.lanes.1 c.requires.book in
    let empty = subst (λ (lanes : List (Lane g.row.T.Denot)). Kept (record { number = a.number; traits = traits; lanes = lanes; request_end = 0; response_end = 0; log = record { events = []; room = a.entries }; book = a.book }))
    (sym c.in_ok-places.ensures.items) made in
    record {
      kept = subst (λ (log : LoggedView). Kept (record { number = a.number; traits = traits; lanes = c.in_ok-places.places.items; request_end = 0; response_end = 0; log = log; book = a.book })) (sym c.in_ok-log.ensures) empty;
      roomy = omega (arith, c.in_ok-places.ensures.capacity);
    }
