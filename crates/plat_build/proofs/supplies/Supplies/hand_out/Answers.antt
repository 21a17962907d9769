use Rattle.std.proofs.Common.{◌≡◌, ℕ, ◌+◌, ◌<◌, List, length, ap, subst, sym, ◌∙◌, arith}
use Rattle.token_book.specs.Account.{Account}
use Rattle.token_book.specs.Purse.{Purse}
use Rattle.tlm_model.specs.Plan.{Plan}
use Rattle.atomic_table.specs.Seated.{TableId}
use Rattle.token_book.specs.Account.{out_of}
use Rattle.plat_build.specs.Supplies.{logged_by_all}
use Rattle.plat_build.specs.Tickets.{AreStocked}
use Rattle.plat_build.specs.Unused.{added_by_all}
use Rattle.plat_build.proofs.IdleLemmas.{written_back}
use Rattle.plat_build.proofs.KeptLemmas.{book_first, seat_first}
use Rattle.plat_build.proofs.SupplyLemmas.{supplies_more}
use Rattle.plat_build.proofs.supplies.Supplies.hand_out.Goals as goal

pub issue_all-requires-clause-wallets : goal.issue_all-requires-clause-wallets
issue_all-requires-clause-wallets g c =
    let n = g.N.Naming in
    let i = c.self.inside in
    let k : ℕ = i.next in
    let h = c.self.invariant in
    let some_seats : 0 < length i.seats.items = (let a = h.seat_count in let b = c.requires.more in let d = c.self.view_is in omega arith) in
    let some_books : 0 < length i.books.items = (let a = h.book_count in omega arith) in
    let book = book_first n.tokens k i.books.items c.remove-book.result h.books_fresh some_books c.remove-book.ensures.value in
    let owner : c.remove-book.result.owner ≡ k = ap (λ (b : Account). b.owner) book in
    subst (λ (t : TableId). AreStocked t c.args.plan.now c.remove-book.result.owner c.deref_mut.result.now) (sym c.requires.tickets)
    (subst (λ (p : Plan). AreStocked n.tokens p c.remove-book.result.owner c.deref_mut.result.now) (sym c.requires.plan)
    (subst (λ (m : ℕ). AreStocked n.tokens n.frame.world m c.deref_mut.result.now) (sym owner)
    (subst (λ (l : List Purse). AreStocked n.tokens n.frame.world k l) (sym c.deref_mut.ensures.value) h.stocked)))

pub invariant_of-self : goal.invariant_of-self
invariant_of-self g c =
    let n = g.N.Naming in
    let i = c.self.inside in
    let k : ℕ = i.next in
    let h = c.self.invariant in
    let some_seats : 0 < length i.seats.items = (let a = h.seat_count in let b = c.requires.more in let d = c.self.view_is in omega arith) in
    let some_books : 0 < length i.books.items = (let a = h.book_count in omega arith) in
    let book = book_first n.tokens k i.books.items c.remove-book.result h.books_fresh some_books c.remove-book.ensures.value in
    let owner : c.remove-book.result.owner ≡ k = ap (λ (b : Account). b.owner) book in
    let new = c.issue_all.new.wallets in
    let all : i.wallets.len ≡ length new = (let a = i.wallets.ok.0 in let b = c.deref_mut.ensures.len in let d = c.deref_mut.ensures.value in let e = c.issue_all.auto.wallets in omega (arith, ap length d)) in
    let stocked : AreStocked n.tokens n.frame.world (k + 1) new =
    subst (λ (m : ℕ). AreStocked n.tokens n.frame.world (m + 1) new) owner
    (subst (λ (p : Plan). AreStocked n.tokens p (c.remove-book.result.owner + 1) new) c.requires.plan
    (subst (λ (t : TableId). AreStocked t c.args.plan.now (c.remove-book.result.owner + 1) new) c.requires.tickets c.issue_all.ensures.wallets)) in
    supplies_more n.table n.tokens n.frame k i.seats.items c.remove-seat.new.self.items i.books.items c.remove-book.new.self.items i.seconds.items c.remove-second.new.self.items i.wallets.items _
    h (let b = c.requires.more in let d = c.self.view_is in omega arith) c.remove-seat.ensures.items c.remove-book.ensures.items c.remove-second.ensures.items
    (subst (λ (l : List Purse). AreStocked n.tokens n.frame.world (k + 1) l) (sym (written_back i.wallets.items new i.wallets.len all)) stocked)

pub returns-clause-supply : goal.returns-clause-supply
returns-clause-supply g c =
    let n = g.N.Naming in
    let i = c.self.inside in
    let k : ℕ = i.next in
    let h = c.self.invariant in
    let some_seats : 0 < length i.seats.items = (let a = h.seat_count in let b = c.requires.more in let d = c.self.view_is in omega arith) in
    let some_books : 0 < length i.books.items = (let a = h.book_count in omega arith) in
    let book = book_first n.tokens k i.books.items c.remove-book.result h.books_fresh some_books c.remove-book.ensures.value in
    let owner : c.remove-book.result.owner ≡ k = ap (λ (b : Account). b.owner) book in
    let some_seconds : 0 < length i.seconds.items = (let a = h.second_count in omega arith) in
    let seat = seat_first n.table n.frame k i.seats.items c.remove-seat.result h.seats_fresh some_seats c.remove-seat.ensures.value in
    let second = book_first n.tokens (length n.frame.planned + k) i.seconds.items c.remove-second.result h.seconds_fresh some_seconds c.remove-second.ensures.value in
    let e = c.issue_all.ensures in
    let now : k ≡ c.args.self.now = c.self.view_is in
    record {
      seat_of = seat.0;
      seat_knows = seat.1 ∙ ap (λ (m : ℕ). Rattle.one_history.specs.Moves.fresh n.frame m) now;
      book_of = e.table.0 ∙ c.requires.tickets;
      book_owner = e.table.1 ∙ (owner ∙ now);
      entries = e.entries ∙ ap (λ (p : Plan). added_by_all p c.args.object) c.requires.plan;
      bytes = e.bytes ∙ ap (λ (p : Plan). logged_by_all p c.args.object) c.requires.plan;
      second = second ∙ ap (λ (m : ℕ). Rattle.token_book.specs.Account.fresh n.tokens (length n.frame.planned + m)) now;
    }
