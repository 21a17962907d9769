-- The request that an entry of a history is of.
use Rattle.std.proofs.Common.{◌≡◌, ℕ, zero, suc, ◌+◌, List, [], ◌∷◌, Option, Some, None, refl, subst}
use Rattle.std.specs.Prelude.{MatchOption, slice_get}
use Rattle.std.specs.List.{AllByRecursion}
use Rattle.tlm_types.specs.declared.entry.Entry.{Entry}
use Rattle.tlm_model.specs.declared.operation.Operation.{Operation}
use Rattle.tlm_model.specs.declared.platform.InitiatorRow.{InitiatorRow}
use Rattle.tlm_model.specs.Plan.{Plan, Initiator, initiators_from, initiators_of}
use Rattle.tlm_model.specs.Requests.{Request, requests_of}
use Rattle.tlm_model.specs.Scripts.{OfRequest}
use Rattle.platform_shape.proofs.SinglePaths.{not_none, some_same}

-- the initiator and the request of an entry
pub record HasRequest (p : Plan) (before : List Entry) (e : Entry) : Type 0 where
  pub initiator : Initiator
  pub of_it : slice_get (initiators_of p) e.txn.initiator ≡ Some initiator
  pub request : Request
  pub asked_for : slice_get (requests_of p.platform initiator before) e.txn.seq ≡ Some request

pub request-of : (p : Plan) (before : List Entry) (e : Entry) (Q : Initiator → Request → Type 0) → OfRequest p before e Q → HasRequest p before e
request-of p before e Q h = first (slice_get (initiators_of p) e.txn.initiator) refl h
  where
    second : (i : Initiator) → slice_get (initiators_of p) e.txn.initiator ≡ Some i → (o : Option Request) → slice_get (requests_of p.platform i before) e.txn.seq ≡ o → MatchOption o ⊥ (λ r. Q i r) → HasRequest p before e
    second i at None is h = absurd h
    second i at (Some r) is h = record { initiator = i; of_it = at; request = r; asked_for = is }

    first : (o : Option Initiator) → slice_get (initiators_of p) e.txn.initiator ≡ o → MatchOption o ⊥ (λ i. MatchOption (slice_get (requests_of p.platform i before) e.txn.seq) ⊥ (λ r. Q i r)) → HasRequest p before e
    first None is h = absurd h
    first (Some i) is h = second i is (slice_get (requests_of p.platform i before) e.txn.seq) refl h

pub at-request : (p : Plan) (before : List Entry) (e : Entry) (Q : Initiator → Request → Type 0) → OfRequest p before e Q → (found : HasRequest p before e) → Q found.initiator found.request
at-request p before e Q h found =
    let i = found.initiator in
    let inner = subst (λ (o : Option Initiator). MatchOption o ⊥ (λ j. MatchOption (slice_get (requests_of p.platform j before) e.txn.seq) ⊥ (λ r. Q j r))) found.of_it h in
    subst (λ (o : Option Request). MatchOption o ⊥ (λ r. Q i r)) found.asked_for inner

pub script-of : (Q : List Operation → Type 0) (k n : ℕ) (rows : List InitiatorRow) (scripts : List (List Operation)) (i : Initiator) → AllByRecursion Q scripts → slice_get (initiators_from k rows scripts) n ≡ Some i → Q i.script
script-of Q k n [] scripts i all is = absurd (not_none i is)
script-of Q k n (row ∷ rows) [] i all is = absurd (not_none i is)
script-of Q k zero (row ∷ rows) (script ∷ scripts) i all is = subst (λ (x : Initiator). Q x.script) (some_same {A = Initiator} (record { number = k; row = row; script = script }) i is) all.0
script-of Q k (suc n) (row ∷ rows) (script ∷ scripts) i all is = script-of Q (k + 1) n rows scripts i all.1 is

pub all-at : {X : Type 0} (P : X → Type 0) (xs : List X) → AllByRecursion P xs → (k : ℕ) (x : X) → slice_get xs k ≡ Some x → P x
all-at P [] h k x at = absurd (not_none x at)
all-at P (y ∷ xs) h zero x at = subst P (some_same y x at) h.0
all-at P (y ∷ xs) h (suc k) x at = all-at P xs h.1 k x at
