use Rattle.std.proofs.Common.{◌≡◌, ℕ, ◌+◌, ◌<◌, ◌≤◌, ◌++◌, map, List, refl, sym, ap, ◌∙◌, subst, arith}
use Rattle.std.specs.Prelude.{slice_index_or, IfSome}
use Rattle.atomic_table.specs.Seated.{TableId}
use Rattle.view_lists.specs.Lists.{Has, Within}
use Rattle.one_history.specs.declared.entry.Entry.{Entry}
use Rattle.one_history.specs.declared.view.Frame.{Frame}
use Rattle.one_history.specs.declared.view.View.{View}
use Rattle.view_lists.proofs.Members.{has_right}
use Rattle.one_history.specs.declared.view.Stay.{Stay}
use Rattle.one_history.specs.Gates.{IsGateOf, IsRevoked}
use Rattle.one_history.specs.Moves.{number_of, own_of, one_gone}
use Rattle.token_book.specs.Account.{out_of}
use Rattle.tlm_types.specs.declared.entry.Content.{Content}
use Rattle.shared_object.specs.Written.{own_number, Written, sign_of, wrote, placed, written_at}
use Rattle.shared_object.specs.Standing.{Numbered, place, HasGates, Meets, AreVouched, IsSeat, IsBook}
use Rattle.shared_object.specs.Steps.{IsNoteAt, HasTicket, addition, Enters}
use Rattle.shared_object.proofs.Seats.{knows_entries, Grew, joined_grew, grew, past, low, late, copied_seat, left_same, at_table, has_stay, at_gate, shows, stands_below}
use Rattle.shared_object.proofs.Calls.{built_for, built_again, backed_by, vouched_after, vouched_left, vouched_right, log_is, room_is, may_write, kept_book, some_of}
use Rattle.shared_object.proofs.locked.Locked.step.Goals as goal

pub enter-position-requires-clause-ticket : goal.enter-position-requires-clause-ticket
enter-position-requires-clause-ticket g c admitted state =
    let s = c.self.inside in
    let x : Numbered g.row.O.Denot = record { number = s.book.owner; object = s.object } in
    let o = c.self.inside.object in
    let stands = built_for g.W.World.builds g.O.Object.built g.N.Naming.frame g.N.Naming.tokens x c.args.self.now o c.self.view_is refl c.self.invariant.0 in
    subst (λ (t : TableId). HasTicket t s.book.owner (g.O.Object.cost c.args.call) c.args.ticket) (sym c.requires.tickets)
    (subst (λ (n : ℕ). HasTicket g.N.Naming.tokens n (g.O.Object.cost c.args.call) c.args.ticket) (sym (ap (λ (y : Numbered g.row.O.Denot). y.number) c.self.view_is))
    (c.requires.ticket o stands state admitted))

pub enter-position-requires-clause-backed : goal.enter-position-requires-clause-backed
enter-position-requires-clause-backed g c p admitted state seen mine =
    let s = c.self.inside in
    let i = c.self.invariant in
    let n = c.args.self.now in
    let x : Numbered g.row.O.Denot = record { number = s.book.owner; object = s.object } in
    let o = c.self.inside.object in
    let w = c.args.note.knows in
    let j = c.take_in.new.seat.knows in
    let content = g.O.Object.content o c.args.call in
    let num : s.book.owner ≡ n.number = ap (λ (y : Numbered g.row.O.Denot). y.number) c.self.view_is in
    let stands = built_for g.W.World.builds g.O.Object.built g.N.Naming.frame g.N.Naming.tokens x n o c.self.view_is refl i.0 in
    let numbered : number_of j ≡ s.book.owner = c.take_in.ensures.number ∙ i.1.numbered in
    let t = joined_grew g.N.Naming.table g.N.Naming.frame s.book.owner (g.O.Object.entries s.object) s.seat w j j content i.1 c.take_in.ensures.joined numbered c.take_in.ensures.own in
    let own : own_of j ≡ map (placed n.number) (g.O.Object.entries o) = t.own ∙ ap (λ (k : ℕ). map (placed k) (g.O.Object.entries s.object)) num in
    let met : Meets g.W.World.builds g.O.Object.built g.O.Object.entries g.O.Object.follows (place g.N.Naming.frame g.N.Naming.tokens n.number (own_number (g.O.Object.built n.object).object)) w.known o =
    record { built_for = stands; state = state; knows = knows_entries n.number (g.O.Object.entries o) j w.known (numbered ∙ num) own mine t.note_knew } in
    let after : w.seen ≤ p = let m = ap (λ (u : View Content g.row.G.Denot). u.seen) c.take_in.ensures.joined in omega arith in
    subst (λ (f : Frame g.row.G.Denot). g.W.Law.backs f.world j.known (placed (number_of j) (wrote p content))) (sym c.requires.history.1)
    (subst (λ (k : ℕ). g.W.Law.backs g.N.Naming.frame.world j.known (placed k (wrote p content))) (sym (numbered ∙ num))
    (backed_by g.W.Law.backs g.W.Law.grows g.N.Naming.frame.world n.number (g.O.Object.entries o) j w.known (placed n.number (wrote p content)) own t.knows t.note_knew
    (c.requires.backed o p met admitted after)))

pub enter-position-requires-clause-fits : goal.enter-position-requires-clause-fits
enter-position-requires-clause-fits g c mine =
    let s = c.self.inside in
    let i = c.self.invariant in
    let n = c.args.self.now in
    let x : Numbered g.row.O.Denot = record { number = s.book.owner; object = s.object } in
    let o = c.self.inside.object in
    let w = c.args.note.knows in
    let j = c.take_in.new.seat.knows in
    let num : s.book.owner ≡ n.number = ap (λ (y : Numbered g.row.O.Denot). y.number) c.self.view_is in
    let stands = built_for g.W.World.builds g.O.Object.built g.N.Naming.frame g.N.Naming.tokens x n o c.self.view_is refl i.0 in
    let numbered : number_of j ≡ s.book.owner = c.take_in.ensures.number ∙ i.1.numbered in
    let t = joined_grew g.N.Naming.table g.N.Naming.frame s.book.owner (g.O.Object.entries s.object) s.seat w j j (g.O.Object.content o c.args.call) i.1 c.take_in.ensures.joined numbered c.take_in.ensures.own in
    let own : own_of j ≡ map (placed n.number) (g.O.Object.entries o) = t.own ∙ ap (λ (k : ℕ). map (placed k) (g.O.Object.entries s.object)) num in
    g.met.O.Object.more_fit o c.args.call (written_at n.number w.known) (g.O.Object.entries o) (knows_entries n.number (g.O.Object.entries o) j w.known (numbered ∙ num) own mine t.note_knew) (c.requires.fits o stands)

pub enter-position-requires-clause-at : goal.enter-position-requires-clause-at
enter-position-requires-clause-at g c admitted state mine =
    let s = c.self.inside in
    let i = c.self.invariant in
    let n = c.args.self.now in
    let x : Numbered g.row.O.Denot = record { number = s.book.owner; object = s.object } in
    let o = c.self.inside.object in
    let w = c.args.note.knows in
    let j = c.take_in.new.seat.knows in
    let content = g.O.Object.content o c.args.call in
    let num : s.book.owner ≡ n.number = ap (λ (y : Numbered g.row.O.Denot). y.number) c.self.view_is in
    let stands = built_for g.W.World.builds g.O.Object.built g.N.Naming.frame g.N.Naming.tokens x n o c.self.view_is refl i.0 in
    let numbered : number_of j ≡ s.book.owner = c.take_in.ensures.number ∙ i.1.numbered in
    let t = joined_grew g.N.Naming.table g.N.Naming.frame s.book.owner (g.O.Object.entries s.object) s.seat w j j content i.1 c.take_in.ensures.joined numbered c.take_in.ensures.own in
    let own : own_of j ≡ map (placed n.number) (g.O.Object.entries o) = t.own ∙ ap (λ (k : ℕ). map (placed k) (g.O.Object.entries s.object)) num in
    let met : Meets g.W.World.builds g.O.Object.built g.O.Object.entries g.O.Object.follows (place g.N.Naming.frame g.N.Naming.tokens n.number (own_number (g.O.Object.built n.object).object)) w.known o =
    record { built_for = stands; state = state; knows = knows_entries n.number (g.O.Object.entries o) j w.known (numbered ∙ num) own mine t.note_knew } in
    at_gate g.N.Naming.table g.N.Naming.frame s.book.owner (g.O.Object.entries s.object) s.seat w j j content i.1 c.take_in.ensures.joined numbered c.take_in.ensures.own (sign_of content.what) (c.requires.gates o met admitted)

pub enter-position-requires-clause-gates : goal.enter-position-requires-clause-gates
enter-position-requires-clause-gates g c =
    let s = c.self.inside in
    let i = c.self.invariant in
    let numbered : number_of c.take_in.new.seat.knows ≡ s.book.owner = c.take_in.ensures.number ∙ i.1.numbered in
    subst (λ (f : Frame g.row.G.Denot). HasGates f (number_of c.take_in.new.seat.knows) (g.O.Object.built c.self.inside.object).gates) (sym c.requires.history.1)
    (subst (λ (n : ℕ). HasGates g.N.Naming.frame n (g.O.Object.built c.self.inside.object).gates) (sym numbered)
    (subst (λ (x : ℕ × ℕ). HasGates g.N.Naming.frame s.book.owner x) refl i.0.gates))

pub leave_if-requires-clause-stay : goal.leave_if-requires-clause-stay
leave_if-requires-clause-stay g c =
    let s = c.self.inside in
    let o = c.self.inside.object in
    let e = c.enter-position.ensures in
    let i = c.self.invariant in
    let seat = i.1 in
    let t = grew g.N.Naming.table g.N.Naming.frame s.book.owner (g.O.Object.entries o) s.seat c.args.note.knows c.take_in.new.seat.knows c.enter-position.new.seat.knows (g.O.Object.content o c.args.call) seat c.take_in.ensures.joined (c.take_in.ensures.number ∙ i.1.numbered) c.take_in.ensures.own c.enter-position.result.0 e.drawn e.table.1 in
    has_stay g.N.Naming.table c.args.gate c.args.note.knows c.enter-position.new.seat.knows (at_table g.N.Naming.table c.args.note c.args.gate c.requires.note) (t.stays ∙ ap (λ (x : List Stay). x ++ c.args.note.knows.stays) seat.outside)

pub apply-reply-requires-clause-fits : goal.apply-reply-requires-clause-fits
apply-reply-requires-clause-fits g c =
    let s = c.self.inside in
    let i = c.self.invariant in
    let n = c.args.self.now in
    let x : Numbered g.row.O.Denot = record { number = s.book.owner; object = s.object } in
    let o = c.self.inside.object in
    let w = c.args.note.knows in
    let j = c.take_in.new.seat.knows in
    let num : s.book.owner ≡ n.number = ap (λ (y : Numbered g.row.O.Denot). y.number) c.self.view_is in
    let stands = built_for g.W.World.builds g.O.Object.built g.N.Naming.frame g.N.Naming.tokens x n o c.self.view_is refl i.0 in
    let numbered : number_of j ≡ s.book.owner = c.take_in.ensures.number ∙ i.1.numbered in
    let t = joined_grew g.N.Naming.table g.N.Naming.frame s.book.owner (g.O.Object.entries s.object) s.seat w j j (g.O.Object.content o c.args.call) i.1 c.take_in.ensures.joined numbered c.take_in.ensures.own in
    let own : own_of j ≡ map (placed n.number) (g.O.Object.entries o) = t.own ∙ ap (λ (k : ℕ). map (placed k) (g.O.Object.entries s.object)) num in
    g.met.O.Object.more_fit o c.args.call (written_at n.number w.known) (g.O.Object.entries o) (knows_entries n.number (g.O.Object.entries o) j w.known (numbered ∙ num) own c.enter-position.ensures.mine t.note_knew) (c.requires.fits o stands)

pub apply-reply-requires-clause-admitted : goal.apply-reply-requires-clause-admitted
apply-reply-requires-clause-admitted g c admitted =
    let s = c.self.inside in
    let i = c.self.invariant in
    let o = c.self.inside.object in
    let e = c.enter-position.ensures in
    let b = c.enter-position.new.book in
    let at = c.enter-position.result.0 in
    let content = g.O.Object.content o c.args.call in
    let seat = i.1 in
    let numbered : number_of c.take_in.new.seat.knows ≡ s.book.owner = c.take_in.ensures.number ∙ i.1.numbered in
    may_write (g.O.Object.admitted o c.args.call) (g.O.Object.entries o) (g.O.Object.room o) (g.O.Object.bytes_left o) (g.O.Object.cost c.args.call)
    (out_of 0 s.book.out) (out_of 0 b.out) (out_of 1 s.book.out) (out_of 1 b.out) at c.unwrap_or.result c.unwrap_or.ensures e.when
    (low g.N.Naming.table g.N.Naming.frame s.book.owner (g.O.Object.entries o) s.seat c.args.note.knows c.take_in.new.seat.knows c.enter-position.new.seat.knows content seat c.take_in.ensures.joined numbered c.take_in.ensures.own at e.drawn)
    (past g.N.Naming.table g.N.Naming.frame s.book.owner (g.O.Object.entries o) s.seat c.args.note.knows c.take_in.new.seat.knows c.enter-position.new.seat.knows content seat c.take_in.ensures.joined numbered c.take_in.ensures.own at e.drawn)
    (some_of (b.out ≡ s.book.out) (λ _. (out_of 0 b.out + 1 ≡ out_of 0 s.book.out) × (out_of 1 b.out + g.O.Object.cost c.args.call ≤ out_of 1 s.book.out)) at e.retired)
    i.2.out
    i.2.fit
    admitted

-- the seat as it was
seat_now : (g : _) (c : goal.After-copy_for-note g) → IsSeat g.N.Naming.table g.N.Naming.frame c.self.inside.book.owner (g.O.Object.entries c.self.inside.object) c.self.inside.seat
seat_now g c = c.self.invariant.1

-- the note at its gate
note_at : (g : _) (c : goal.After-copy_for-note g) → IsNoteAt g.N.Naming.table c.args.gate (record { table = g.N.Naming.table; knows = c.args.note.knows })
note_at g c = at_table g.N.Naming.table c.args.note c.args.gate c.requires.note

-- the book as it was
book_now : (g : _) (c : goal.After-copy_for-note g) → IsBook g.N.Naming.tokens c.self.inside.book.owner (g.O.Object.room c.self.inside.object) (g.O.Object.bytes_left c.self.inside.object) c.self.inside.book
book_now g c = c.self.invariant.2

number_joined : (g : _) (c : goal.After-copy_for-note g) → number_of c.take_in.new.seat.knows ≡ c.self.inside.book.owner
number_joined g c = c.take_in.ensures.number ∙ c.self.invariant.1.numbered

-- what the seat knows after the draw
grown : (g : _) (c : goal.After-copy_for-note g) → Grew c.self.inside.book.owner (g.O.Object.entries c.self.inside.object ++ addition c.enter-position.result.0 (g.O.Object.content c.self.inside.object c.args.call)) c.self.inside.seat.knows c.args.note.knows c.enter-position.new.seat.knows
grown g c =
    let s = c.self.inside in
    let o = c.self.inside.object in
    let e = c.enter-position.ensures in
    grew g.N.Naming.table g.N.Naming.frame s.book.owner (g.O.Object.entries o) s.seat c.args.note.knows c.take_in.new.seat.knows c.enter-position.new.seat.knows (g.O.Object.content o c.args.call) (seat_now g c) c.take_in.ensures.joined (number_joined g c) c.take_in.ensures.own c.enter-position.result.0 e.drawn e.table.1

-- the log after the call
log_after : (g : _) (c : goal.After-copy_for-note g) → g.O.Object.entries c.apply-reply.new.self ≡ g.O.Object.entries c.self.inside.object ++ addition c.enter-position.result.0 (g.O.Object.content c.self.inside.object c.args.call)
log_after g c =
    let o = c.self.inside.object in
    let a = c.apply-reply.ensures in
    log_is (g.O.Object.admitted o c.args.call) (g.O.Object.entries o) (g.O.Object.entries c.apply-reply.new.self) (g.O.Object.content o c.args.call) c.enter-position.result.0 c.unwrap_or.result c.unwrap_or.ensures c.enter-position.ensures.when a.entry a.no_entry

-- the object that the call met
met : (g : _) (c : goal.After-copy_for-note g) → Meets g.W.World.builds g.O.Object.built g.O.Object.entries g.O.Object.follows (place g.N.Naming.frame g.N.Naming.tokens c.args.self.now.number (own_number (g.O.Object.built c.args.self.now.object).object)) c.args.note.knows.known c.self.inside.object
met g c =
    let s = c.self.inside in
    let n = c.args.self.now in
    let x : Numbered g.row.O.Denot = record { number = s.book.owner; object = s.object } in
    let o = c.self.inside.object in
    let j = c.take_in.new.seat.knows in
    let num : s.book.owner ≡ n.number = ap (λ (y : Numbered g.row.O.Denot). y.number) c.self.view_is in
    let t = joined_grew g.N.Naming.table g.N.Naming.frame s.book.owner (g.O.Object.entries o) s.seat c.args.note.knows j j (g.O.Object.content o c.args.call) (seat_now g c) c.take_in.ensures.joined (number_joined g c) c.take_in.ensures.own in
    record {
      built_for = built_for g.W.World.builds g.O.Object.built g.N.Naming.frame g.N.Naming.tokens x n o c.self.view_is refl c.self.invariant.0;
      state = c.enter-position.ensures.state;
      knows = knows_entries n.number (g.O.Object.entries o) j c.args.note.knows.known (number_joined g c ∙ num) (t.own ∙ ap (λ (k : ℕ). map (placed k) (g.O.Object.entries o)) num) c.enter-position.ensures.mine t.note_knew;
    }

-- what the seat knows vouches for all items
vouched : (g : _) (c : goal.After-copy_for-note g) → AreVouched (g.W.World.vouches g.N.Naming.frame.world g.N.Naming.tokens c.args.self.now.number) (g.O.Object.carried c.apply-reply.new.self ++ g.O.Object.given c.self.inside.object c.args.call c.apply-reply.result) c.enter-position.new.seat.knows.known
vouched g c =
    let s = c.self.inside in
    let n = c.args.self.now in
    let o = c.self.inside.object in
    let t = grown g c in
    let num : s.book.owner ≡ n.number = ap (λ (y : Numbered g.row.O.Denot). y.number) c.self.view_is in
    vouched_after (g.W.World.vouches g.N.Naming.frame.world g.N.Naming.tokens n.number) (λ txn item xs ys. g.W.World.more_vouch g.N.Naming.frame.world g.N.Naming.tokens n.number txn item xs ys)
    (g.O.Object.carried o) (g.O.Object.brought o c.args.call) (g.O.Object.carried c.apply-reply.new.self) (g.O.Object.given o c.args.call c.apply-reply.result)
    s.seat.knows.known c.args.note.knows.known c.enter-position.new.seat.knows.known
    (λ x has. subst (λ (k : ℕ). g.W.World.vouches g.N.Naming.frame.world g.N.Naming.tokens k x.0 x.1 s.seat.knows.known) num (c.self.invariant.4 x has))
    (c.requires.vouched o (met g c)) t.seat_knew t.note_knew c.apply-reply.ensures.items

pub invariant_of-self : goal.invariant_of-self
invariant_of-self g c =
    let s = c.self.inside in
    let n = c.args.self.now in
    let i = c.self.invariant in
    let o = c.self.inside.object in
    let e = c.enter-position.ensures in
    let a = c.apply-reply.ensures in
    let k = c.copy_for-note.ensures in
    let after = c.apply-reply.new.self in
    let b = c.enter-position.new.book in
    let content = g.O.Object.content o c.args.call in
    let num : s.book.owner ≡ n.number = ap (λ (y : Numbered g.row.O.Denot). y.number) c.self.view_is in (
      built_again g.W.World.builds g.O.Object.built g.N.Naming.frame g.N.Naming.tokens s.book.owner b.owner (g.O.Object.built s.object) (g.O.Object.built after) e.book.1 a.built i.0,
      subst (λ (q : ℕ). IsSeat g.N.Naming.table g.N.Naming.frame q (g.O.Object.entries after) c.copy_for-note.new.seat) (sym e.book.1)
          (subst (λ (l : List Written). IsSeat g.N.Naming.table g.N.Naming.frame s.book.owner l c.copy_for-note.new.seat) (sym (log_after g c))
          (copied_seat g.N.Naming.table g.N.Naming.frame s.book.owner (g.O.Object.entries o) s.seat c.args.note.knows c.take_in.new.seat.knows c.enter-position.new.seat.knows content (seat_now g c) c.take_in.ensures.joined (number_joined g c) c.take_in.ensures.own
          (g.O.Object.entries o ++ addition c.enter-position.result.0 content) c.copy_for-note.new.seat c.args.gate (grown g c) (note_at g c) (k.table.0 ∙ c.leave_if.ensures.table ∙ e.table.0 ∙ c.take_in.ensures.table ∙ i.1.of) (k.seat ∙ ap one_gone c.leave_if.ensures.left))),
      kept_book (g.O.Object.admitted o c.args.call) g.N.Naming.tokens s.book.owner b.owner (g.O.Object.room o) (g.O.Object.room after) (g.O.Object.bytes_left o) (g.O.Object.bytes_left after) (g.O.Object.cost c.args.call) s.book b c.enter-position.result.0 e.when e.retired e.book.0 refl a.room a.no_room a.bytes (book_now g c),
      room_is (g.O.Object.admitted o c.args.call) (g.O.Object.entries o) (g.O.Object.entries after) content (g.O.Object.room o) (g.O.Object.room after) c.enter-position.result.0 e.when (log_after g c) a.room (λ not. (a.no_room not).0)
          ∙ i.3 ∙ ap (λ (q : ℕ). slice_index_or g.N.Naming.frame.planned q 0) (sym e.book.1),
      (λ x has.
          subst (λ (l : List (Entry Content)). g.W.World.vouches g.N.Naming.frame.world g.N.Naming.tokens b.owner x.0 x.1 l) (sym (ap (λ (u : View Content g.row.G.Denot). u.known) (k.seat ∙ ap one_gone c.leave_if.ensures.left) ∙ (left_same c.args.gate c.enter-position.new.seat.knows).known))
          (subst (λ (q : ℕ). g.W.World.vouches g.N.Naming.frame.world g.N.Naming.tokens q x.0 x.1 c.enter-position.new.seat.knows.known) (sym (e.book.1 ∙ num))
          (vouched_left (g.W.World.vouches g.N.Naming.frame.world g.N.Naming.tokens n.number) (λ txn item xs ys. g.W.World.more_vouch g.N.Naming.frame.world g.N.Naming.tokens n.number txn item xs ys) (g.O.Object.carried after) (g.O.Object.given o c.args.call c.apply-reply.result) c.enter-position.new.seat.knows.known (vouched g c) x has))),
    )

pub returns-clause-answer : goal.returns-clause-answer
returns-clause-answer g c =
    let s = c.self.inside in
    let n = c.args.self.now in
    let o = c.self.inside.object in
    let e = c.enter-position.ensures in
    let k = c.copy_for-note.ensures in
    let after = c.apply-reply.new.self in
    let d = c.enter-position.new.seat.knows in
    let content = g.O.Object.content o c.args.call in
    let t = grown g c in
    let same = left_same c.args.gate d in
    let num : s.book.owner ≡ n.number = ap (λ (y : Numbered g.row.O.Denot). y.number) c.self.view_is in
    let known : c.copy_for-note.result.knows.known ≡ d.known = ap (λ (u : View Content g.row.G.Denot). u.known) k.note ∙ ap (λ (u : View Content g.row.G.Denot). u.known) c.leave_if.ensures.left ∙ same.known in
    let seen : c.copy_for-note.result.knows.seen ≡ d.seen = ap (λ (u : View Content g.row.G.Denot). u.seen) k.note ∙ ap (λ (u : View Content g.row.G.Denot). u.seen) c.leave_if.ensures.left ∙ same.seen in
    let void : c.copy_for-note.result.knows.void ≡ s.seat.knows.void ++ c.args.note.knows.void = ap (λ (u : View Content g.row.G.Denot). u.void) k.note ∙ ap (λ (u : View Content g.row.G.Denot). u.void) c.leave_if.ensures.left ∙ same.void ∙ t.void in
    let drained : c.copy_for-note.result.knows.drained ≡ s.seat.knows.drained ++ c.args.note.knows.drained = ap (λ (u : View Content g.row.G.Denot). u.drained) k.note ∙ ap (λ (u : View Content g.row.G.Denot). u.drained) c.leave_if.ensures.left ∙ same.drained ∙ t.drained in
    let own : own_of d ≡ map (placed n.number) (g.O.Object.entries after) = t.own ∙ ap (λ (q : ℕ). map (placed q) (g.O.Object.entries o ++ addition c.enter-position.result.0 content)) num ∙ ap (λ (l : List Written). map (placed n.number) l) (sym (log_after g c)) in
    let entered : Enters g.N.Naming.frame n.number (g.O.Object.entries o) (g.O.Object.entries after) (g.O.Object.admitted o c.args.call) content c.args.note.knows c.copy_for-note.result.knows c.enter-position.result.0 = record {
      when = e.when;
      log = log_after g c;
      late = subst (λ (q : ℕ). IfSome c.enter-position.result.0 (λ p. (c.args.note.knows.seen ≤ p) × (p < q))) (sym seen)
          (late g.N.Naming.table g.N.Naming.frame s.book.owner (g.O.Object.entries o) s.seat c.args.note.knows c.take_in.new.seat.knows d content (seat_now g c) c.take_in.ensures.joined (number_joined g c) c.take_in.ensures.own c.enter-position.result.0 e.drawn);
      under = low g.N.Naming.table g.N.Naming.frame s.book.owner (g.O.Object.entries o) s.seat c.args.note.knows c.take_in.new.seat.knows d content (seat_now g c) c.take_in.ensures.joined (number_joined g c) c.take_in.ensures.own c.enter-position.result.0 e.drawn;
      past = past g.N.Naming.table g.N.Naming.frame s.book.owner (g.O.Object.entries o) s.seat c.args.note.knows c.take_in.new.seat.knows d content (seat_now g c) c.take_in.ensures.joined (number_joined g c) c.take_in.ensures.own c.enter-position.result.0 e.drawn;
      knew = subst (λ (l : List (Entry Content)). Within c.args.note.knows.known l) (sym known) t.note_knew;
      knows = subst (λ (l : List (Entry Content)). Within (map (placed n.number) (g.O.Object.entries after)) l) (sym known) (subst (λ (l : List (Entry Content)). Within l d.known) own t.knows);
      below = λ x has. subst (λ (q : ℕ). x.position < q) (sym seen)
          (stands_below g.N.Naming.table g.N.Naming.frame s.book.owner (g.O.Object.entries o) s.seat c.args.note.knows c.take_in.new.seat.knows d content (seat_now g c) c.take_in.ensures.joined (number_joined g c) c.take_in.ensures.own e.mine c.enter-position.result.0 e.drawn x
          (subst (λ (l : List (Entry Content)). Has l x) known has));
      void = λ x has. subst (λ (l : List ℕ). Has l x) (sym void) (has_right s.seat.knows.void c.args.note.knows.void x has);
      drained = λ x has. subst (λ (l : List ℕ). Has l x) (sym drained) (has_right s.seat.knows.drained c.args.note.knows.drained x has);
      revoked = λ gate has of. subst (λ (q : ℕ). IsRevoked (map (placed q) (g.O.Object.entries o)) gate) num
          (shows g.N.Naming.table g.N.Naming.frame s.book.owner (g.O.Object.entries o) s.seat c.args.note.knows c.take_in.new.seat.knows d content (seat_now g c) c.take_in.ensures.joined (number_joined g c) c.take_in.ensures.own e.mine gate has (subst (λ (q : ℕ). IsGateOf g.N.Naming.frame q gate) (sym num) of));
    } in (
      o,
      after,
      met g c,
      entered,
      subst (λ (q : ℕ). g.O.Object.applied o q c.args.call c.apply-reply.result after) c.unwrap_or.ensures c.apply-reply.ensures.answer,
      c.apply-reply.ensures.state,
      (λ x has.
          subst (λ (l : List (Entry Content)). g.W.World.vouches g.N.Naming.frame.world g.N.Naming.tokens n.number x.0 x.1 l) (sym known)
          (vouched_right (g.W.World.vouches g.N.Naming.frame.world g.N.Naming.tokens n.number) (λ txn item xs ys. g.W.World.more_vouch g.N.Naming.frame.world g.N.Naming.tokens n.number txn item xs ys) (g.O.Object.carried after) (g.O.Object.given o c.args.call c.apply-reply.result) d.known (vouched g c) x has)),
    )
