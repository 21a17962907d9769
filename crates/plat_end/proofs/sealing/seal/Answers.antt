use Rattle.std.proofs.Common.{◌≡◌, length, refl, sym, subst}
use Rattle.atomic_table.specs.Seated.{TableId}
use Rattle.one_history.specs.declared.view.Frame.{Frame}
use Rattle.one_history.specs.Seats.{AreNotes, AreSeats}
use Rattle.tlm_model.specs.Plan.{Plan}
use Rattle.plat_end.proofs.WholeLemmas.{are_seats, core_is, count_seats, counted, numbered, read_all, tells, whole}
use Rattle.plat_end.proofs.sealing.seal.Goals as goal

pub close-requires-clause-count : goal.close-requires-clause-count
close-requires-clause-count g c =
    let n = g.N.Naming in
    let seats = c.args.apart.seats.items in
    subst (λ (f : Frame Plan). length seats ≡ length f.planned) (sym c.requires.history.1) (count_seats n.table n.frame seats c.requires.frame c.requires.left.left.left)

pub close-requires-clause-seats : goal.close-requires-clause-seats
close-requires-clause-seats g c =
    let n = g.N.Naming in
    let seats = c.args.apart.seats.items in
    subst (λ (f : Frame Plan). AreSeats c.args.history.table f seats) (sym c.requires.history.1)
    (subst (λ (t : TableId). AreSeats t n.frame seats) (sym c.requires.history.0) (are_seats n.table n.frame seats c.requires.left.left.left))

pub close-requires-clause-notes : goal.close-requires-clause-notes
close-requires-clause-notes g c = subst (λ (t : TableId). AreNotes t c.args.notes.items) (sym c.requires.history.0) c.requires.left.of

pub of_logs-requires-clause-numbered : goal.of_logs-requires-clause-numbered
of_logs-requires-clause-numbered g c =
    let n = g.N.Naming in
    let d = c.in-Done.ensures in
    let a = c.args.apart in
    let l = c.requires.left in
    numbered n.table n.tokens n.frame c.args.ends.items l.kept a.logs.items a.stores.items a.seats.items c.in-Done.sealed.entries c.requires.valid c.requires.frame l.left c.args.history.frame c.requires.history.1 d.merge d.planned (tells l.kept c.args.notes.items c.in-Done.sealed.entries l.told d.tell) d.backed d.ended

pub of_logs-requires-clause-counted : goal.of_logs-requires-clause-counted
of_logs-requires-clause-counted g c =
    let n = g.N.Naming in
    let d = c.in-Done.ensures in
    let a = c.args.apart in
    let l = c.requires.left in
    counted n.table n.tokens n.frame c.args.ends.items l.kept a.logs.items a.stores.items a.seats.items c.in-Done.sealed.entries c.requires.valid c.requires.frame l.left c.args.history.frame c.requires.history.1 d.merge d.planned (tells l.kept c.args.notes.items c.in-Done.sealed.entries l.told d.tell) d.backed d.ended c.len.result c.len.ensures

pub returns-clause-whole : goal.returns-clause-whole
returns-clause-whole g c =
    let n = g.N.Naming in
    let d = c.in-Done.ensures in
    let a = c.args.apart in
    let l = c.requires.left in
    whole n.table n.tokens n.frame c.args.ends.items l.kept a.logs.items a.stores.items a.seats.items c.in-Done.sealed.entries c.requires.valid c.requires.frame l.left c.args.history.frame c.requires.history.1 d.merge d.planned (tells l.kept c.args.notes.items c.in-Done.sealed.entries l.told d.tell) d.backed d.ended
    (record { history = c.of_logs.result; stores = c.from_vec.result; ends = c.from_vec-2.result; complete = Rattle.std.specs.Prelude.true }) c.of_logs.ensures.entries c.from_vec.ensures c.from_vec-2.ensures refl

pub returns-clause-core : goal.returns-clause-core
returns-clause-core g c =
    let n = g.N.Naming in
    let d = c.in-Done.ensures in
    let a = c.args.apart in
    let l = c.requires.left in
    core_is n.table n.tokens n.frame c.args.ends.items l.kept a.logs.items a.stores.items a.seats.items c.in-Done.sealed.entries c.requires.valid c.requires.frame l.left c.args.history.frame c.requires.history.1 d.merge d.planned (tells l.kept c.args.notes.items c.in-Done.sealed.entries l.told d.tell) d.backed d.ended c.of_logs.result.entries c.of_logs.ensures.entries

pub returns-clause-sealed : goal.returns-clause-sealed
returns-clause-sealed g c =
    let n = g.N.Naming in
    let d = c.in-Done.ensures in
    let a = c.args.apart in
    let l = c.requires.left in
    read_all n.table n.tokens n.frame c.args.ends.items l.kept a.logs.items a.stores.items a.seats.items c.in-Done.sealed.entries c.requires.valid c.requires.frame l.left c.args.history.frame c.requires.history.1 d.merge d.planned (tells l.kept c.args.notes.items c.in-Done.sealed.entries l.told d.tell) d.backed d.ended c.of_logs.result.entries c.of_logs.ensures.entries

pub returns-clause-numbered : goal.returns-clause-numbered
returns-clause-numbered g c = c.in-Done.ensures.merge.0

pub returns-clause-told : goal.returns-clause-told
returns-clause-told g c = c.in-Done.ensures.tell
