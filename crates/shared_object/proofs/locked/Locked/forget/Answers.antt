use Rattle.std.proofs.Common.{ℕ, ◌+◌, List, length, refl, sym, ap, ◌∙◌, subst}
use Rattle.view_lists.specs.Lists.{Has}
use Rattle.tlm_types.specs.declared.words.TxnId.{TxnId}
use Rattle.shared_object.specs.Written.{Written}
use Rattle.shared_object.specs.Standing.{IsSeat, IsBook}
use Rattle.shared_object.proofs.Calls.{built_again}
use Rattle.shared_object.proofs.locked.Locked.forget.Goals as goal

pub invariant_of-self : goal.invariant_of-self
invariant_of-self g c =
    let s = c.self.inside in
    let i = c.self.invariant in
    let a = c.forget.ensures in
    let entries = g.O.Object.entries s.object in (
      built_again g.W.World.builds g.O.Object.built g.N.Naming.frame g.N.Naming.tokens s.book.owner s.book.owner (g.O.Object.built s.object) (g.O.Object.built c.forget.new.self) refl a.built i.0,
      subst (λ (l : List Written). IsSeat g.N.Naming.table g.N.Naming.frame s.book.owner l s.seat) (sym a.entries) i.1,
      subst (λ (n : ℕ). IsBook g.N.Naming.tokens s.book.owner n (g.O.Object.bytes_left c.forget.new.self) s.book) (sym a.room)
          (subst (λ (n : ℕ). IsBook g.N.Naming.tokens s.book.owner (g.O.Object.room s.object) n s.book) (sym a.bytes) i.2),
      ap (λ (l : List Written). length l + g.O.Object.room c.forget.new.self) a.entries ∙ ap (λ (n : ℕ). length entries + n) a.room ∙ i.3,
      (λ x has. i.4 x (subst (λ (l : List (TxnId × g.row.O-Item.Denot)). Has l x) a.items has)),
    )
