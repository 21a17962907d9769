-- What holds of each initiator's own entries holds of the whole history.
use std.Path.{fun_ext}
use Rattle.std.proofs.Common.{◌≡◌, ℕ, ◌<◌, inl, inr, List, [], ◌∷◌, ◌++◌, length, Option, Some, None, Bool, true, false, cond, nat_eq, not, ◌||◌, refl, sym, subst, ◌∙◌, arith}
use Rattle.std.specs.List.{AllByRecursion, list_all}
use Rattle.std.specs.Prelude.{slice_get, MatchOption, IsTrue}
use Rattle.std.proofs.lemmas.Bool.{eq-eqb}
use Rattle.std.proofs.lemmas.Option.{slice_get_cases}
use Rattle.tlm_types.specs.declared.entry.Entry.{Entry}
use Rattle.tlm_model.specs.declared.platform.Platform.{Platform}
use Rattle.tlm_model.specs.Each.{AtEach, EachFrom}
use Rattle.tlm_model.specs.Plan.{Plan, Initiator, initiators_of}
use Rattle.tlm_model.specs.Requests.{Request, requests_of}
use Rattle.tlm_model.specs.Route.{route_of}
use Rattle.tlm_model.specs.Scripts.{HasWay, IsEntryOf, IsInOrder, IsPlaced, OfRequest, comes_first, is_answer, is_settled}
use Rattle.tlm_model.specs.Times.{HasTime, decoupled_time}
use Rattle.tlm_model.proofs.EachLemmas.{append_nil}
use Rattle.tlm_model.proofs.HistoryLemmas.{AllByRecursion-weaker, all_at}
use Rattle.tlm_model.proofs.InitiatorLemmas.{initiator_from}
use Rattle.good_history.specs.Own.{own}
use Rattle.good_history.specs.Joined.{HasOwners}
use Rattle.good_history.specs.JoinedLaws.{OwnScriptsJoin, OwnTimesJoin}
use Rattle.good_history.proofs.OwnLemmas.{own-append, own_is_enough}

-- what holds of each initiator's own entries holds of those of each number below their count
pub own_at : (p : Plan) (h : List Entry) (Q : List Entry → Type 0) → AllByRecursion (λ (i : Initiator). Q (own i.number h)) (initiators_of p) → (n : ℕ) → n < length (initiators_of p) → Q (own n h)
own_at p h Q each n below =
    elim (slice_get_cases (initiators_of p) n).1 [
      | inl found ↦ subst (λ (k : ℕ). Q (own k h)) (numbered found.0 found.2) (all_at (λ (i : Initiator). Q (own i.number h)) (initiators_of p) n found.0 each found.2)
      | inr past ↦ absurd (omega (arith, past.0))
    ]
  where
    numbered : (i : Initiator) → slice_get (initiators_of p) n ≡ Some i → i.number ≡ n
    numbered i at = omega (arith, (initiator_from 0 p.platform.initiators p.scripts n i at).0)

-- all entries, where each initiator's own have it
all_own : (P : Entry → Type 0) (n : ℕ) (h : List Entry) → AllByRecursion (λ (e : Entry). e.txn.initiator < n) h → ((k : ℕ) → k < n → AllByRecursion P (own k h)) → AllByRecursion P h
all_own P n [] owners each = tt
all_own P n (e ∷ h) owners each = (
  first (nat_eq e.txn.initiator e.txn.initiator) (own e.txn.initiator h) (eq-eqb e.txn.initiator e.txn.initiator refl) (each e.txn.initiator owners.0),
  all_own P n h owners.1 (λ k below. rest (nat_eq e.txn.initiator k) (own k h) (each k below)),
)
  where
    first : (b : Bool) (mine : List Entry) → b ≡ true → AllByRecursion P (cond b (e ∷ mine) mine) → P e
    first true mine is all = all.0
    first false mine is all = cc

    rest : (b : Bool) (mine : List Entry) → AllByRecursion P (cond b (e ∷ mine) mine) → AllByRecursion P mine
    rest true mine all = all.1
    rest false mine all = all

pub all_joined : (p : Plan) (h : List Entry) (P : Entry → Type 0) → HasOwners p h → AllByRecursion (λ (i : Initiator). AllByRecursion P (own i.number h)) (initiators_of p) → AllByRecursion P h
all_joined p h P owners each = all_own P (length (initiators_of p)) h owners (own_at p h (AllByRecursion P) each)

-- P holds at each entry, where it holds at it among its initiator's own entries
module _ (P : List Entry → Entry → Type 0) (up : (before : List Entry) (e : Entry) → P (own e.txn.initiator before) e → P before e) where
  each_own : (n : ℕ) (before h : List Entry) → AllByRecursion (λ (e : Entry). e.txn.initiator < n) h → ((k : ℕ) → k < n → EachFrom P (own k before) (own k h)) → EachFrom P before h
  each_own n before [] owners each = tt
  each_own n before (e ∷ h) owners each = (
    up before e (first (nat_eq e.txn.initiator e.txn.initiator) (own e.txn.initiator before) (own e.txn.initiator h) (eq-eqb e.txn.initiator e.txn.initiator refl) (each e.txn.initiator owners.0)),
    each_own n (before ++ e ∷ []) h owners.1 (λ k below.
        subst (λ (l : List Entry). EachFrom P l (own k h)) (sym (own-append k before (e ∷ []))) (rest (nat_eq e.txn.initiator k) (own k before) (own k h) (each k below))),
  )
    where
      first : (b : Bool) (mine more : List Entry) → b ≡ true → EachFrom P mine (cond b (e ∷ more) more) → P mine e
      first true mine more is all = all.0
      first false mine more is all = cc

      rest : (b : Bool) (mine more : List Entry) → EachFrom P mine (cond b (e ∷ more) more) → EachFrom P (mine ++ cond b (e ∷ []) []) more
      rest true mine more all = all.1
      rest false mine more all = subst (λ (l : List Entry). EachFrom P l more) (sym (append_nil mine)) all

  each_joined : (p : Plan) (h : List Entry) → HasOwners p h → AllByRecursion (λ (i : Initiator). EachFrom P [] (own i.number h)) (initiators_of p) → EachFrom P [] h
  each_joined p h owners each = each_own (length (initiators_of p)) [] h owners (own_at p h (EachFrom P []) each)

module _ (p : Plan) (Q : List Entry → Entry → Initiator → Request → Type 0) (up : (before : List Entry) (e : Entry) (i : Initiator) (r : Request) → Q (own i.number before) e i r → Q before e i r) where
  abbrev IsOf : Entry → List Entry → Initiator → List Request → Type 0
  IsOf e before i rs = MatchOption (slice_get rs e.txn.seq) ⊥ (λ r. Q before e i r)

  request_up : (before : List Entry) (e : Entry) (i : Initiator) (r : Option Request) → MatchOption r ⊥ (λ r. Q (own i.number before) e i r) → MatchOption r ⊥ (λ r. Q before e i r)
  request_up before e i None of = of
  request_up before e i (Some r) of = up before e i r of

  own_request : (before : List Entry) (e : Entry) (i : Initiator) → i.number ≡ e.txn.initiator → IsOf e (own e.txn.initiator before) i (requests_of p.platform i (own e.txn.initiator before)) → IsOf e before i (requests_of p.platform i before)
  own_request before e i number of =
      request_up before e i (slice_get (requests_of p.platform i before) e.txn.seq)
      (subst (IsOf e (own i.number before) i) (sym (own_is_enough p.platform i before).requests)
      (subst (λ (n : ℕ). IsOf e (own n before) i (requests_of p.platform i (own n before))) (sym number) of))

  -- an entry is of a request, where it is by its initiator's own entries
  of_request : (before : List Entry) (e : Entry) → OfRequest p (own e.txn.initiator before) e (λ i r. Q (own e.txn.initiator before) e i r) → OfRequest p before e (λ i r. Q before e i r)
  of_request before e of = by_initiator (slice_get (initiators_of p) e.txn.initiator) refl of
    where
      by_initiator : (o : Option Initiator) → slice_get (initiators_of p) e.txn.initiator ≡ o → MatchOption o ⊥ (λ i. IsOf e (own e.txn.initiator before) i (requests_of p.platform i (own e.txn.initiator before))) → MatchOption o ⊥ (λ i. IsOf e before i (requests_of p.platform i before))
      by_initiator None at of = of
      by_initiator (Some i) at of = own_request before e i (omega (arith, (initiator_from 0 p.platform.initiators p.scripts e.txn.initiator i at).0)) of

  requests_join : (h : List Entry) → HasOwners p h → AllByRecursion (λ (i : Initiator). AtEach (λ before e. OfRequest p before e (λ i r. Q before e i r)) (own i.number h)) (initiators_of p) → AtEach (λ before e. OfRequest p before e (λ i r. Q before e i r)) h
  requests_join h owners each = each_joined (λ before e. OfRequest p before e (λ i r. Q before e i r)) of_request p h owners each

in_order : (p : Platform) (i : Initiator) (before : List Entry) (q : Request) (b : Bool) → IsInOrder p i (own i.number before) q b → IsInOrder p i before q b
in_order p i before q false order = tt
in_order p i before q true order =
    let told = own_is_enough p i before in (
      told.answers q.seq ∙ order.0,
      subst (λ (rs : List Request). IsTrue (list_all (λ r. not (comes_first i.row.style r q) || is_settled p i before r) rs)) (sym told.requests)
          (subst (λ (settled : Request → Bool). IsTrue (list_all (λ r. not (comes_first i.row.style r q) || settled r) (requests_of p i (own i.number before)))) (sym (fun_ext told.settled)) order.1),
    )

pub own_scripts_join : OwnScriptsJoin
own_scripts_join p h owners each = record {
  replies = requests_join p (λ before e i r. IsEntryOf (route_of p.platform i r.address) r.asked e.object e.what) (λ before e i r is. is) h owners (AllByRecursion-weaker _ _ (initiators_of p) (λ i s. s.replies) each);
  ways = requests_join p (λ before e i r. HasWay i.row.style r.asked e.what) (λ before e i r is. is) h owners (AllByRecursion-weaker _ _ (initiators_of p) (λ i s. s.ways) each);
  order = requests_join p (λ before e i r. IsInOrder p.platform i before r (is_answer e.what)) (λ before e i r is. in_order p.platform i before r (is_answer e.what) is) h owners (AllByRecursion-weaker _ _ (initiators_of p) (λ i s. s.order) each);
  places = each_joined (λ before e. IsPlaced p.platform e.txn.initiator e.object e.what) (λ before e is. is) p h owners (AllByRecursion-weaker _ _ (initiators_of p) (λ i s. s.places) each);
}

pub own_times_join : OwnTimesJoin
own_times_join p h owners each = requests_join p (λ before e i r. HasTime i.row.style (decoupled_time p.platform i r e.what) e.time) (λ before e i r is. is) h owners each
