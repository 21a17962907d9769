use Rattle.std.proofs.Common.{◌≡◌, ℕ, ◌==◌, refl, sym, ap, ◌∙◌, inr, arith}
use Rattle.std.proofs.lemmas.Bool.{cond-true, eq-eqb}
use Rattle.token_book.specs.Account.{Slip}
use Rattle.token_book.specs.Pocket.{IsPart, Pocket, with_token}
use Rattle.token_book.proofs.Parts.{IsPart-as, same_place}
use Rattle.token_book.proofs.place.ObjectRights.add.Goals as goal

-- its tickets with the token
sum : (c : goal.After-add) → IsPart c.args.tokens.now c.self.inside.object 0 c.add.new.kept
sum c =
    let s = c.self.inside in
    let t = c.args.tokens.now in
    let table : s.entries.table ≡ t = ap (λ (x : ℕ × Pocket). x.1.table) c.self.view_is ∙ c.requires.table.0 in
    let own : s.object ≡ c.args.self.now.0 = ap (λ (x : ℕ × Pocket). x.0) c.self.view_is in
    let is = c.into_amount.ensures in
    let more : IsPart t s.object 0 c.into_amount.result = (
      ap (λ (x : Slip). x.table) is ∙ c.requires.table.1,
      ap (λ (x : Slip). x.owner) is ∙ c.requires.token.0 ∙ sym own,
      inr (ap (λ (x : Slip). x.name) is ∙ sym c.name.ensures ∙ c.if-name-eq0.true),
    ) in
    c.add.ensures.like s.object 0 (IsPart-as s.entries.table t s.object s.object 0 s.entries table refl c.self.invariant.0) more

pub invariant_of-self : goal.invariant_of-self
invariant_of-self c =
    let s = c.self.inside in
    let table : s.entries.table ≡ c.args.tokens.now = ap (λ (x : ℕ × Pocket). x.1.table) c.self.view_is ∙ c.requires.table.0 in
    let n = sum c in
    ((refl, n.1, n.2), IsPart-as s.entries.table c.add.new.kept.table s.object s.object 1 s.bytes (table ∙ sym n.0) refl c.self.invariant.1)

pub invariant_of-self-else-name-eq0 : goal.invariant_of-self-else-name-eq0
invariant_of-self-else-name-eq0 c =
    let s = c.self.inside in
    let t = c.args.tokens.now in
    let table : s.entries.table ≡ t = ap (λ (x : ℕ × Pocket). x.1.table) c.self.view_is ∙ c.requires.table.0 in
    let own : s.object ≡ c.args.self.now.0 = ap (λ (x : ℕ × Pocket). x.0) c.self.view_is in
    let is = c.into_amount-else-name-eq0.ensures in
    let more : IsPart t s.object 1 c.into_amount-else-name-eq0.result = (
      ap (λ (x : Slip). x.table) is ∙ c.requires.table.1,
      ap (λ (x : Slip). x.owner) is ∙ c.requires.token.0 ∙ sym own,
      inr (let named = ap (λ (x : Slip). x.name) is in omega (arith, named, c.name.ensures, c.if-name-eq0.false, c.requires.token.1)),
    ) in
    let sum : IsPart t s.object 1 c.add-else-name-eq0.new.kept = c.add-else-name-eq0.ensures.like s.object 1 (IsPart-as s.entries.table t s.object s.object 1 s.bytes table refl c.self.invariant.1) more in (
      c.self.invariant.0,
      IsPart-as t s.entries.table s.object s.object 1 c.add-else-name-eq0.new.kept (sym table) refl sum,
    )

pub returns-then-name-eq0 : goal.returns-then-name-eq0
returns-then-name-eq0 c =
    let s = c.self.inside in
    let token = c.args.token in
    let now = c.args.self.now in
    let zero : token.name ≡ 0 = sym c.name.ensures ∙ c.if-name-eq0.true in
    let new : Pocket = record { table = c.add.new.kept.table; left = c.add.new.kept.amount; bytes = s.bytes.amount } in
    let after : Pocket = with_token token now.1 in
    same_place s.object now.0 new after (ap (λ (x : ℕ × Pocket). x.0) c.self.view_is)
    ((sum c).0 ∙ sym c.requires.table.0)
    (omega (arith, c.add.ensures.sum, ap (λ (x : ℕ × Pocket). x.1.left) c.self.view_is, ap (λ (x : Slip). x.amount) c.into_amount.ensures, cond-true (token.name == 0) token.amount 0 (eq-eqb token.name 0 zero)))
    (omega (arith, ap (λ (x : ℕ × Pocket). x.1.bytes) c.self.view_is, cond-true (token.name == 0) 0 token.amount (eq-eqb token.name 0 zero)))
