use Rattle.std.proofs.Common.{arith, ℕ, ◌≡◌, ◌+◌, ◌-◌, List, [], ◌∷◌, length, append_assoc, refl, subst}
use Rattle.tlm_types.specs.Entries.{access_by, entry_at}
use Rattle.entry_log.specs.LogBytes.{HasParts}
use Rattle.log_items.specs.Items.{entries_of, stored_at}
use Rattle.log_items.specs.declared.long.Event.TheVariants.{Access}
use Rattle.entry_log.proofs.Stored.{entries_of-again, kept-again, kept_of-access_by, timed-more}
use Rattle.entry_log.proofs.log.Log.push_again.Goals as goal

pub returns-clause-again : goal.returns-clause-again
returns-clause-again c =
    let s = c.self.inside in
    let sent = c.args.sent.now in
    let enables = c.args.enables.now in
    let got = c.args.got.now in
    let span = c.in-Some-span_from.span in
    let parts = subst (λ (b : List ℕ). HasParts b sent enables got span) c.deref-2.ensures.value c.in-Some-span_from.ensures in
    let placed = parts.placed in
    let kept = kept_of-access_by c.args.facts sent enables got c.requires in
    let left : c.saturating_sub-self-inside.result ≡ s.room_bytes - (length sent + length enables + length got) = omega (arith, placed.enables_start, placed.got_start, placed.end) in
    let entries = entries_of-again s.bytes.items sent enables got s.items.items c.args.head c.args.facts span parts in
    λ _. rw (c.in_ok-push_access.ensures.ok, ← c.self.view_is, left, entries, append_assoc s.past.entries (entries_of s.bytes.items s.items.items) (entry_at c.args.head (access_by c.args.facts sent enables got) ∷ []), kept) refl

pub invariant_of-self-2 : goal.invariant_of-self-2
invariant_of-self-2 c =
    let s = c.self.inside in
    let sent = c.args.sent.now in
    let enables = c.args.enables.now in
    let got = c.args.got.now in
    let span = c.in-Some-span_from.span in
    let parts = subst (λ (b : List ℕ). HasParts b sent enables got span) c.deref-2.ensures.value c.in-Some-span_from.ensures in
    record {
      before = c.self.invariant.before;
      timed = rw c.in_ok-push_access.ensures.ok (timed-more s.items.items c.args.head span.start (Access (stored_at c.args.facts span)) c.self.invariant.timed (omega arith));
      kept = rw c.in_ok-push_access.ensures.ok (kept-again s.bytes.items sent enables got s.items.items c.args.head c.args.facts span c.self.invariant.kept parts);
      roomy = omega arith;
      small = omega arith;
    }
