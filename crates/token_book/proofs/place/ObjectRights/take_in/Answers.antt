use Rattle.std.proofs.Common.{◌≡◌, ℕ, refl, sym, ap, ◌∙◌, arith}
use Rattle.token_book.specs.Pocket.{IsPart, Pocket, with_pocket_in}
use Rattle.token_book.proofs.Parts.{IsPart-as, same_place}
use Rattle.token_book.proofs.place.ObjectRights.take_in.Goals as goal

-- the tickets after those of the other place came in
tickets : (c : goal.After-add-2) → IsPart c.args.tokens.now c.self.inside.object 0 c.add.new.kept
tickets c =
    let s = c.self.inside in
    let o = c.other.inside in
    let t = c.args.tokens.now in
    let own : o.object ≡ s.object = ap (λ (x : ℕ × Pocket). x.0) c.other.view_is ∙ c.requires.object ∙ sym (ap (λ (x : ℕ × Pocket). x.0) c.self.view_is) in
    c.add.ensures.like s.object 0
    (IsPart-as s.entries.table t s.object s.object 0 s.entries (ap (λ (x : ℕ × Pocket). x.1.table) c.self.view_is ∙ c.requires.table.0) refl c.self.invariant.0)
    (IsPart-as o.entries.table t o.object s.object 0 o.entries (ap (λ (x : ℕ × Pocket). x.1.table) c.other.view_is ∙ c.requires.table.1) own c.other.invariant.0)

-- and the bytes
bytes : (c : goal.After-add-2) → IsPart c.args.tokens.now c.self.inside.object 1 c.add-2.new.kept
bytes c =
    let s = c.self.inside in
    let o = c.other.inside in
    let t = c.args.tokens.now in
    let own : o.object ≡ s.object = ap (λ (x : ℕ × Pocket). x.0) c.other.view_is ∙ c.requires.object ∙ sym (ap (λ (x : ℕ × Pocket). x.0) c.self.view_is) in
    c.add-2.ensures.like s.object 1
    (IsPart-as s.entries.table t s.object s.object 1 s.bytes (ap (λ (x : ℕ × Pocket). x.1.table) c.self.view_is ∙ c.requires.table.0) refl c.self.invariant.1)
    (IsPart-as o.entries.table t o.object s.object 1 o.bytes (ap (λ (x : ℕ × Pocket). x.1.table) c.other.view_is ∙ c.requires.table.1) own c.other.invariant.1)

pub invariant_of-self : goal.invariant_of-self
invariant_of-self c =
    let o = c.self.inside.object in
    let n = tickets c in
    let b = bytes c in
    ((refl, n.1, n.2), IsPart-as c.args.tokens.now c.add.new.kept.table o o 1 c.add-2.new.kept (sym n.0) refl b)

pub returns : goal.returns
returns c =
    let now = c.args.self.now in
    let new : Pocket = record { table = c.add.new.kept.table; left = c.add.new.kept.amount; bytes = c.add-2.new.kept.amount } in
    let after : Pocket = with_pocket_in now.1 c.args.other.1 in
    let mine = c.self.view_is in
    let theirs = c.other.view_is in
    same_place c.self.inside.object now.0 new after (ap (λ (x : ℕ × Pocket). x.0) mine)
    ((tickets c).0 ∙ sym c.requires.table.0)
    (omega (arith, c.add.ensures.sum, ap (λ (x : ℕ × Pocket). x.1.left) mine, ap (λ (x : ℕ × Pocket). x.1.left) theirs))
    (omega (arith, c.add-2.ensures.sum, ap (λ (x : ℕ × Pocket). x.1.bytes) mine, ap (λ (x : ℕ × Pocket). x.1.bytes) theirs))
