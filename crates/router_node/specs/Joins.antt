-- A response from below and the transaction that it belongs to.
use Rattle.std.specs.Prelude.{ℕ, ◌≡◌, List, ◌∷◌, ◌++◌, Option, Some, None}
use Rattle.std.specs.List.{AllByRecursion}
use Rattle.router_node.specs.Places.{StandsAt}
use Rattle.router_node.specs.declared.finds.Found.{Found}
use Rattle.router_moves.specs.declared.items.PassedOn.{PassedOn}
use Rattle.router_node.specs.declared.stage.Stage.{Stage}
use Rattle.router_node.specs.declared.stage.Stage.TheVariants.{Below, Up}

-- the response is that of a transaction that has gone down there
abbrev pub IsOf : PassedOn → Found → Type 0
IsOf h f = (h.txn ≡ f.fetched.txn) × (h.below ≡ f.hop)

-- the response is this transaction's
abbrev pub IsTheOne : Found → Stage → Type 0
IsTheOne f (Below h) = IsOf h f
IsTheOne f s = ⊥

-- or it isn't
abbrev pub IsOther : Found → Stage → Type 0
IsOther f (Below h) = IsOf h f → ⊥
IsOther f s = Unit {0}

-- It was joined with the transaction, which is to go up; or it isn't that one's, and neither has changed.
abbrev pub HasJoined : Stage → Found → Stage → Option Found → Type 0
HasJoined s f t (Some g) = (t ≡ s) × (g ≡ f) × IsOther f s
HasJoined (Below h) f (Up r rest) None = IsOf h f × (r.hop ≡ h.above)
HasJoined s f t None = ⊥

-- This transaction is the first of these that it is of, and stands at this place.
pub record IsFirstOf (f : Found) (xs : List Stage) (at : ℕ) : Type 0 where
  pub stage : Stage
  pub stands : StandsAt xs at stage
  pub others : AllByRecursion (IsOther f) stands.before
  pub one : IsTheOne f stage

-- the place of the first transaction that it is of; or it is of none
abbrev pub IsPlaceOf : Found → List Stage → Option ℕ → Type 0
IsPlaceOf f xs None = AllByRecursion (IsOther f) xs
IsPlaceOf f xs (Some at) = IsFirstOf f xs at

-- It was joined with the first of these transactions that it is of, and the others are as they were.
pub record JoinsOne (f : Found) (old new : List Stage) : Type 0 where
  pub before : List Stage
  pub stage : Stage
  pub after : List Stage
  pub joined : Stage
  pub others : AllByRecursion (IsOther f) before
  pub was : old ≡ before ++ stage ∷ after
  pub is : new ≡ before ++ joined ∷ after
  pub joins : HasJoined stage f joined None

-- Or it is of none of them, and nothing has changed.
abbrev pub HasJoinedOne : Found → List Stage → List Stage → Option Found → Type 0
HasJoinedOne f old new None = JoinsOne f old new
HasJoinedOne f old new (Some g) = (new ≡ old) × (g ≡ f) × AllByRecursion (IsOther f) old
