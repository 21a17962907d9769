-- What an access of a log reads as, with where its bytes stand.
use Rattle.std.proofs.Common.{◌≡◌, ℕ, zero, suc, ◌≤◌, List, [], ◌∷◌, length, Option, Some, None, refl, ap, sym, ◌∙◌, slice_range, slice_get, All, subst, arith}
use Rattle.std.specs.Prelude.{◌≢◌, option_and_then, option_map, IfSome}
use Rattle.tlm_types.specs.declared.entry.Entry.{Entry}
use Rattle.tlm_types.specs.declared.entry.Facts.{Facts}
use Rattle.tlm_types.specs.declared.entry.Head.{Head}
use Rattle.entry_log.specs.declared.log.LoggedAccess.{LoggedAccess}
use Rattle.entry_log.specs.LogBytes.{IsReadAs}
use Rattle.log_items.specs.declared.long.Event.{Event}
use Rattle.log_items.specs.declared.long.Event.TheVariants.{Plain as Simple, Access}
use Rattle.log_items.specs.declared.long.PlacedAccess.{PlacedAccess}
use Rattle.tlm_types.specs.declared.words.Command.{Command}
use Rattle.tlm_types.specs.declared.words.Command.TheVariants.{Read, Write, Ignore, FetchAdd}
use Rattle.tlm_types.specs.declared.words.Way.{Way}
use Rattle.tlm_types.specs.Entries.{enables_of, entry_at, facts_of, got_of, head_of, read_at, read_sends, sent_by, sent_of}
use Rattle.log_items.specs.Items.{FullItem, access_from, access_in, bytes_for, entries_of, facts_from, facts_in, head_in, span_in, what_in, IsKept, IsWithin}

-- an entry reads as this access, whose parts lie among the bytes
pub record IsRead (bytes : List ℕ) (e : Option Entry) (a : PlacedAccess) : Type 0 where
  pub head : option_map head_of e ≡ Some a.head
  pub facts : option_and_then (λ (x : Entry). facts_of x.what) e ≡ Some a.facts
  pub sent : a.facts.command ≢ Read → option_and_then (λ (x : Entry). sent_of x.what) e ≡ Some (slice_range bytes a.span.start a.span.enables_start)
  pub reads : a.facts.command ≡ Read → option_and_then (λ (x : Entry). sent_of x.what) e ≡ Some (read_sends a.facts.way a.facts.length)
  pub enables : option_and_then (λ (x : Entry). enables_of x.what) e ≡ Some (slice_range bytes a.span.enables_start a.span.got_start)
  pub got : option_and_then (λ (x : Entry). got_of x.what) e ≡ Some (slice_range bytes a.span.got_start a.span.end)
  pub sent_from : a.span.start ≤ a.span.enables_start
  pub sent_to : a.span.enables_start ≤ length bytes
  pub enables_from : a.span.enables_start ≤ a.span.got_start
  pub enables_to : a.span.got_start ≤ length bytes
  pub got_from : a.span.got_start ≤ a.span.end
  pub got_to : a.span.end ≤ length bytes

sent_by-other : (command : Command) (way : Way) (n : ℕ) (sent : List ℕ) → command ≢ Read → sent_by command way n sent ≡ sent
sent_by-other Read way n sent other = absurd (other refl)
sent_by-other Write way n sent other = refl
sent_by-other Ignore way n sent other = refl
sent_by-other FetchAdd way n sent other = refl

read_event : (bytes : List ℕ) (head : Head) (start : ℕ) (event : Event) (a : PlacedAccess) → IsKept (length bytes) start event → access_from head start event ≡ Some a → IsRead bytes (Some (entry_at head (what_in bytes start event))) a
read_event bytes head start (Simple plain) a kept is = absurd (cc)
read_event bytes head start (Access x) a kept is =
    let placed : PlacedAccess = record { head = head; facts = facts_in x; span = span_in start x } in
    let same : placed ≡ a = cc in
    let k0 : start ≤ x.enables_start = kept.0 in
    let k1 : x.enables_start ≤ x.got_start = kept.1 in
    let k2 : x.got_start ≤ x.end = kept.2 in
    let k3 : x.end ≤ length bytes = kept.3 in
    subst (λ (b : PlacedAccess). IsRead bytes (Some (entry_at head (what_in bytes start (Access x)))) b) same (record {
      head = refl;
      facts = refl;
      sent = λ other. ap Some (sent_by-other x.command x.way x.length (slice_range bytes start x.enables_start) other);
      reads = λ is_read. ap (λ (c : Command). Some (sent_by c x.way x.length (slice_range bytes start x.enables_start))) is_read;
      enables = refl;
      got = refl;
      sent_from = k0;
      sent_to = omega arith;
      enables_from = k1;
      enables_to = omega arith;
      got_from = k2;
      got_to = k3;
    })

-- the access that stands at a place, whose bytes stand in its item or among those of all
pub read_place : (bytes now : List ℕ) (items : List FullItem) (index : ℕ) (own : Option (List ℕ)) (a : PlacedAccess) → All (IsWithin bytes) items → Some a ≡ option_and_then (λ i. access_in i.item) (slice_get items index) → own ≡ option_and_then (λ i. i.own) (slice_get items index) → now ≡ bytes_for bytes own → IsRead now (slice_get (entries_of bytes items) index) a
read_place bytes now [] index own a kept is none from = absurd (cc)
read_place bytes now (i ∷ items) zero own a kept is same from =
    let all : now ≡ bytes_for bytes i.own = from ∙ ap (bytes_for bytes) same in
    rw all (read_event (bytes_for bytes i.own) (head_in i.item) i.item.start i.item.event a (kept 0 i (omega arith)) (sym is))
read_place bytes now (i ∷ items) (suc index) own a kept is same from = read_place bytes now items index own a (λ k d below. kept (suc k) d (omega arith)) is same from

-- the same of an access whose parts are those
pub read_as : (entries : List Entry) (index : ℕ) (now : List ℕ) (a : PlacedAccess) (l : LoggedAccess) → IsRead now (slice_get entries index) a → (l.head ≡ a.head) × (l.facts ≡ a.facts) → l.sent.now ≡ slice_range now a.span.start a.span.enables_start → l.enables.now ≡ slice_range now a.span.enables_start a.span.got_start → l.got.now ≡ slice_range now a.span.got_start a.span.end → IsReadAs entries index l
read_as entries index now a l r plain sent enables got =
    let command : l.facts.command ≡ a.facts.command = ap (λ (f : Facts). f.command) plain.1 in
    record {
      head = r.head ∙ ap Some (sym plain.0);
      facts = r.facts ∙ ap Some (sym plain.1);
      sent = λ other. r.sent (λ is. other (command ∙ is)) ∙ ap Some (sym sent);
      reads = λ is. r.reads (sym command ∙ is) ∙ ap (λ (f : Facts). Some (read_sends f.way f.length)) (sym plain.1);
      enables = r.enables ∙ ap Some (sym enables);
      got = r.got ∙ ap Some (sym got);
    }

sends_event : (bytes : List ℕ) (start : ℕ) (event : Event) → IfSome (facts_from event) (λ f. f.command ≡ Read → sent_of (what_in bytes start event) ≡ Some (read_sends f.way f.length))
sends_event bytes start (Simple plain) = tt
sends_event bytes start (Access a) = λ is_read. ap (λ (c : Command). Some (sent_by c a.way a.length (slice_range bytes start a.enables_start))) is_read

-- what the access that stands at a place sent, where it is a read
pub read_at-sends : (bytes : List ℕ) (items : List FullItem) (index : ℕ) → IfSome (option_and_then (λ i. facts_from i.item.event) (slice_get items index)) (λ f. f.command ≡ Read → read_at sent_of (entries_of bytes items) index ≡ Some (read_sends f.way f.length))
read_at-sends bytes [] index = tt
read_at-sends bytes (i ∷ items) zero = sends_event (bytes_for bytes i.own) i.item.start i.item.event
read_at-sends bytes (i ∷ items) (suc index) = read_at-sends bytes items index

no_facts : (head : Head) (start : ℕ) (event : Event) → access_from head start event ≡ None → facts_from event ≡ None
no_facts head start (Simple plain) none = refl
no_facts head start (Access a) none = absurd (cc)

-- where no access stands, there are no plain parts of one
pub read_no_place : (items : List FullItem) (index : ℕ) → option_and_then (λ i. access_in i.item) (slice_get items index) ≡ None → option_and_then (λ i. facts_from i.item.event) (slice_get items index) ≡ None
read_no_place [] index none = refl
read_no_place (i ∷ items) zero none = no_facts (head_in i.item) i.item.start i.item.event none
read_no_place (i ∷ items) (suc index) none = read_no_place items index none
