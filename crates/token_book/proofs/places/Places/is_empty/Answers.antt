use Rattle.std.proofs.Common.{◌≡◌, ℕ, ◌==◌, Bool, IsTrue, arith}
use Rattle.std.proofs.lemmas.Grind.{common_steps}
use Rattle.token_book.proofs.PlaceLists.{empty_from, none_from}
use Rattle.token_book.proofs.places.Places.is_empty.Goals as goal

tells : (b : Bool) (n : ℕ) → b ≡ (n == 0) → (IsTrue b → n ≡ 0) × (n ≡ 0 → IsTrue b)
tells b n is = grind (arith, common_steps)

pub returns : goal.returns
returns c =
    let s = c.self.inside in
    let t = tells c.is_empty.result _ c.is_empty.ensures in (
      λ yes. empty_from s.most s.places.items c.args.self.now c.self.view_is c.self.invariant.apart (let none = t.0 yes in omega (arith, none, s.places.ok.0)),
      λ empty. t.1 (let none = none_from s.most s.places.items c.args.self.now c.self.view_is c.self.invariant.apart empty in omega (arith, none, s.places.ok.0)),
    )
