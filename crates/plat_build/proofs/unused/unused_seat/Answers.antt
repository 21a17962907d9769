use Rattle.std.proofs.Common.{ℕ, ◌+◌, sym, ap, ◌∙◌}
use Rattle.token_book.specs.Account.{out_of}
use Rattle.plat_build.specs.Unused.{added_by_all}
use Rattle.plat_build.proofs.UnusedLemmas.{unused_is}
use Rattle.plat_build.proofs.unused.unused_seat.Goals as goal

pub returns-clause-seat : goal.returns-clause-seat
returns-clause-seat g c =
    let frame = g.N.Naming.frame in
    let m = c.args.object.number in
    let o = c.requires.there.0 in
    let e = c.into_parts-seat.ensures in
    let left : ℕ = out_of 0 c.retire_from_all.new.book.out in
    unused_is g.N.Naming.table frame m _ _ left (added_by_all frame.world o) _ c.into_parts-seat.result.1 e.seat e.planned (c.requires.planned m o c.requires.there.1) e.book.out
    (c.retire_from_all.ensures.out o (ap (λ (k : ℕ). Rattle.std.specs.Prelude.slice_get (Rattle.cargo_model.specs.Known.objects_of frame.world.platform) k) e.book.owner ∙ c.requires.there.1))
