-- Laws of the points of grants.
use Rattle.std.specs.Prelude.{List, ◌++◌, ◌≢◌}
use Rattle.std.specs.List.{AllByRecursion}
use Rattle.tlm_types.specs.declared.entry.Entry.{Entry}
use Rattle.tlm_types.specs.declared.entry.What.{What}
use Rattle.tlm_types.specs.declared.entry.What.TheVariants.{Closed}
use Rattle.tlm_model.specs.declared.operation.Operation.{Operation}
use Rattle.tlm_model.specs.declared.platform.Style.TheVariants.{Direct}
use Rattle.tlm_model.specs.Actions.{Action, Alone, Invalidation, action_of}
use Rattle.tlm_model.specs.Kept.{KeepsRequests}
use Rattle.tlm_model.specs.Plan.{Plan, initiators_of}
use Rattle.good_history.specs.Kept.{KeepsGrants, EndsGrants}

-- each beginning of a history that has the points of grants has them
abbrev pub HasGrantBeginnings : Type 0
HasGrantBeginnings = (p : Plan) (h m : List Entry) → KeepsGrants p (h ++ m) → KeepsGrants p h

-- no initiator is a direct one
abbrev pub HasNoDirect : Plan → Type 0
HasNoDirect p = AllByRecursion (λ i. i.row.style ≢ Direct) (initiators_of p)

abbrev pub IsNoClosing : What → Type 0
IsNoClosing (Closed gate) = ⊥
IsNoClosing w = Unit {0}

-- no gate is closed
abbrev pub ClosesNothing : List Entry → Type 0
ClosesNothing h = AllByRecursion (λ e. IsNoClosing e.what) h

abbrev pub InvalidatesNothing : Action → Type 0
InvalidatesNothing (Alone a (Invalidation n)) = ⊥
InvalidatesNothing action = Unit {0}

abbrev pub IsNoInvalidation : Operation → Type 0
IsNoInvalidation op = InvalidatesNothing (action_of op)

-- no script invalidates
abbrev pub HasNoInvalidation : Plan → Type 0
HasNoInvalidation p = AllByRecursion (λ i. AllByRecursion IsNoInvalidation i.script) (initiators_of p)

-- where no initiator is direct, and no gate is closed, the points of grants hold
abbrev pub UngrantedKeepsGrants : Type 0
UngrantedKeepsGrants = (p : Plan) (h : List Entry) → HasNoDirect p → ClosesNothing h → KeepsRequests p h → KeepsGrants p h × EndsGrants p h

-- without invalidations no gate is closed
abbrev pub NothingIsClosed : Type 0
NothingIsClosed = (p : Plan) (h : List Entry) → HasNoInvalidation p → KeepsRequests p h → ClosesNothing h

-- and where no initiator is direct, a history with the points of grants closes none: no gate was given
abbrev pub UngrantedClosesNothing : Type 0
UngrantedClosesNothing = (p : Plan) (h : List Entry) → HasNoDirect p → KeepsRequests p h → KeepsGrants p h → ClosesNothing h
