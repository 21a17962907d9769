-- How what an initiator tells of grants grows, an own entry at a time.
use Rattle.std.specs.Prelude.{ℕ, ◌≡◌, IsTrue, List, [], ◌∷◌, ◌++◌}
use Rattle.view_lists.specs.Lists.{Has}
use Rattle.tlm_types.specs.declared.entry.Entry.{Entry}
use Rattle.tlm_model.specs.History.{IsNumbered}
use Rattle.tlm_model.specs.Plan.{Plan}
use Rattle.tlm_model.specs.Scripts.{OfRequest}
use Rattle.good_history.specs.Grants.{gives, last_of}
use Rattle.good_history.specs.Kept.{GivesGatesInOrder, IsAskedFor}
use Rattle.joined_traffic.specs.Parts.{EarlierReturned, HasOwnWay, IsAskSettled, IsOwnClosing, IsOwnUse, KeepsOwnGrants}

-- what a turn of an initiator owes for its next entry
pub record TellsNext (p : Plan) (h mine : List Entry) (e : Entry) : Type 0 where
  pub asked : IsAskedFor p mine e e.what
  pub answered : IsAskSettled p h e.position e.what (last_of e.txn.initiator mine)
  pub uses : OfRequest p mine e (λ i r. IsOwnUse e.what p mine i r)
  pub ways : OfRequest p mine e (λ i r. HasOwnWay e.what p h e.position mine i r)
  pub closings : IsOwnClosing h mine e e.what
  pub returns : EarlierReturned h mine e

abbrev pub OwnGrantsGrow : Type 0
OwnGrantsGrow = (p : Plan) (h mine : List Entry) (e : Entry) → KeepsOwnGrants p h mine → TellsNext p h mine e → KeepsOwnGrants p h (mine ++ e ∷ [])

-- what an initiator tells stays so, as the history grows
abbrev pub OwnGrantsStand : Type 0
OwnGrantsStand = (p : Plan) (h m mine : List Entry) → KeepsOwnGrants p h mine → KeepsOwnGrants p (h ++ m) mine

-- a gate has one grant: what is told of some grant of a gate holds of this one
abbrev pub GateHasOneGrant : Type 0
GateHasOneGrant = (h : List Entry) (g : ℕ) (x z : Entry) → IsNumbered h → GivesGatesInOrder h → Has h x → Has h z → IsTrue (gives g x.what) → IsTrue (gives g z.what) → x ≡ z
