use Rattle.std.proofs.Common.{◌<◌, length, arith, sym, subst, refl}
use Rattle.tlm_types.specs.Entries.{entry_at}
use Rattle.log_items.specs.Items.{brief_what}
use Rattle.numbered_log.specs.Logged.{LoggedView}
use Rattle.numbered_log.proofs.Written.{events_of-push, length-events_of}
use Rattle.numbered_log.proofs.log.NumberedLog.push.Goals as goal

pub unreachable-requires : goal.unreachable-requires
unreachable-requires c =
    let s = c.self.inside in
    let len = length-events_of s.log.entries s.numbers.items in
    let room = subst (λ (l : LoggedView). length l.events < l.room) (sym c.self.view_is) c.requires in
    let below : length s.log.entries < s.log.room = omega arith in
    let ok = rw c.in_default.is at (c.push_brief.ensures.roomy below) in
    cc

pub push_reserved-requires : goal.push_reserved-requires
push_reserved-requires c =
    let s = c.self.inside in
    let len = length-events_of s.log.entries s.numbers.items in
    let room = subst (λ (l : LoggedView). length l.events < l.room) (sym c.self.view_is) c.requires in
    omega (arith, s.numbers.ok.0)

pub returns : goal.returns
returns c =
    let s = c.self.inside in
    rw (c.in-Ok.ensures.ok, c.push_reserved.ensures.items, ← c.self.view_is, events_of-push s.log.entries s.numbers.items (entry_at c.args.head (brief_what c.args.event)) c.args.number c.self.invariant.same) refl
