use Rattle.std.proofs.Common.{arith, ℕ, ◌≡◌, ◌+◌, ◌-◌, ◌++◌, List, [], ◌∷◌, length, length-append, append_assoc, ap, refl, ◌∙◌}
use Rattle.entry_log.specs.LogBytes.{IsLast}
use Rattle.log_items.specs.Items.{entries_of, stored_at}
use Rattle.log_items.specs.declared.long.Event.TheVariants.{Access}
use Rattle.tlm_types.specs.Entries.{access_by, entry_at}
use Rattle.entry_log.proofs.Stored.{entries_of-access, kept-access, kept_of-access_by, timed-more}
use Rattle.entry_log.proofs.log.Log.push_new.Goals as goal

pub returns-clause-ok : goal.returns-clause-ok
returns-clause-ok c =
    let s = c.self.inside in
    let sent = c.args.sent.now in
    let enables = c.args.enables.now in
    let got = c.args.got.now in
    let span = c.in_ok-span.span in
    let after = c.in_ok-span.ensures.ok in
    let last : IsLast (length s.bytes.items) (length sent) (length enables) (length got) span = record { start = omega (arith, after.start, s.bytes.ok.0); enables_start = after.enables_start; got_start = after.got_start; end = after.end } in
    let kept = kept_of-access_by c.args.facts sent enables got c.requires in
    let left : c.saturating_sub-self-inside.result ≡ s.room_bytes - (length sent + length enables + length got) = omega (arith, after.start, after.enables_start, after.got_start, after.end) in
    let entries = entries_of-access s.bytes.items sent enables got s.items.items c.args.head c.args.facts span c.self.invariant.kept last in
    rw (c.in_ok-push_access.ensures.ok, c.append.ensures.items, c.in_ok-reserve_beyond.ensures.items, ← c.self.view_is, left, entries, append_assoc s.past.entries (entries_of s.bytes.items s.items.items) (entry_at c.args.head (access_by c.args.facts sent enables got) ∷ []), kept) refl

pub invariant_of-self-2 : goal.invariant_of-self-2
invariant_of-self-2 c =
    let s = c.self.inside in
    let sent = c.args.sent.now in
    let enables = c.args.enables.now in
    let got = c.args.got.now in
    let span = c.in_ok-span.span in
    let after = c.in_ok-span.ensures.ok in
    let last : IsLast (length s.bytes.items) (length sent) (length enables) (length got) span = record { start = omega (arith, after.start, s.bytes.ok.0); enables_start = after.enables_start; got_start = after.got_start; end = after.end } in
    let bytes : c.append.new.bytes.items ≡ s.bytes.items ++ (sent ++ (enables ++ got)) = c.append.ensures.items ∙ ap (λ (xs : List ℕ). xs ++ (sent ++ (enables ++ got))) c.in_ok-reserve_beyond.ensures.items in
    let all : length c.append.new.bytes.items ≡ length s.bytes.items + (length sent + (length enables + length got)) = ap length bytes ∙ simp length-append in
    let count : length c.append.new.bytes.items ≡ span.end = omega (arith, last.start, last.enables_start, last.got_start, last.end) in
    let items = kept-access s.bytes.items sent enables got s.items.items c.args.head c.args.facts span c.self.invariant.kept last in
    record {
      before = c.self.invariant.before;
      timed = rw c.in_ok-push_access.ensures.ok (timed-more s.items.items c.args.head span.start (Access (stored_at c.args.facts span)) c.self.invariant.timed (omega arith));
      kept = rw (c.in_ok-push_access.ensures.ok, bytes) items;
      roomy = omega (arith, last.start, last.enables_start, last.got_start, last.end);
      small = omega (arith, last.start, last.enables_start, last.got_start, last.end);
    }
