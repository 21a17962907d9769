use Rattle.std.proofs.Common.{refl, arith}
use Rattle.std.proofs.lemmas.Bool.{le-leb, leb-true}
use Rattle.event_queue.proofs.Line.{back_is}
use Rattle.event_queue.proofs.queue.is_last.Goals as goal

pub returns-in-Some : goal.returns-in-Some
returns-in-Some g c =
    let last = c.in-Some.last.now in
    let at = c.args.at in
    let line = c.args.line.now in
    let same = back_is line.items line.len last line.ok.0 (c.in-Some.ensures.variant.0 refl) c.in-Some.ensures.lookup in
    (λ e. (let le = leb-true last.0 at e in omega (arith, le, same)), λ le. le-leb last.0 at (omega (arith, le, same)))
