-- The parts of a history make the points of grants at its end.
use Rattle.std.proofs.Common.{◌≡◌, ℕ, zero, suc, ◌+◌, ◌<◌, Bool, true, false, not, nat_eq, ◌||◌, List, [], ◌∷◌, length, Option, Some, None, refl, sym, subst, arith}
use Rattle.std.specs.Prelude.{IsTrue, MatchOption, slice_get}
use Rattle.std.specs.List.{AllByRecursion}
use Rattle.std.proofs.lemmas.Bool.{and_from, eq-eqb}
use Rattle.tlm_types.specs.declared.words.ObjectNo.{ObjectNo}
use Rattle.tlm_types.specs.declared.words.ObjectNo.TheVariants.{Memory, Hop, Pool}
use Rattle.tlm_types.specs.declared.entry.Entry.{Entry}
use Rattle.tlm_model.specs.Plan.{Plan, Initiator, initiators_of}
use Rattle.tlm_model.specs.Scripts.{first_gate}
use Rattle.good_history.specs.Own.{own}
use Rattle.good_history.proofs.CountLemmas.{kept_has}
use Rattle.tlm_model.proofs.InitiatorLemmas.{initiator_from}
use Rattle.good_history.specs.Grants.{all_given, all_given_from, asks, gates_of, gives, is_given, last_of}
use Rattle.good_history.specs.Kept.{LastAskIsAnswered}
use Rattle.joined_traffic.specs.Parts.{KnowsAllGiven, Knows}
use Rattle.joined_traffic.specs.GrantLaws.{PartsEndGrants}
use Rattle.joined_traffic.proofs.Lists.{any_has}
use Rattle.joined_traffic.proofs.Wholes.{last_of-own, owner_below, returned_up}

given_at_end : (h : List Entry) (limit g n : ℕ) → ((k : ℕ) → k < n → Knows h limit (λ x. gives (g + k) x.what)) → all_given_from g n h ≡ true
given_at_end h limit g zero each = refl
given_at_end h limit g (suc n) each =
    let first = each 0 (omega arith) in
    and_from (is_given g h) (all_given_from (g + 1) n h)
    (subst (λ (k : ℕ). is_given k h ≡ true) (omega arith) (any_has (λ (x : Entry). gives (g + 0) x.what) h first.0 first.1 first.3))
    (given_at_end h limit (g + 1) n (λ k less. subst (λ (j : ℕ). Knows h limit (λ x. gives j x.what)) (omega arith) (each (k + 1) (omega (arith, less)))))

all_given_end : (p : Plan) (h : List Entry) (limit : ℕ) (o : ObjectNo) → KnowsAllGiven p h limit o → all_given p.platform o h ≡ true
all_given_end p h limit (Memory m) each = given_at_end h limit (first_gate p.platform m) (gates_of (slice_get p.platform.memories m)) each
all_given_end p h limit (Hop n) each = refl
all_given_end p h limit (Pool n) each = refl

last_answered : (p : Plan) (h : List Entry) (o : Option Entry) → MatchOption o (Unit {0}) (λ a. IsTrue (asks p a) → KnowsAllGiven p h (length h) a.object) → MatchOption o (Unit {0}) (λ a. IsTrue (not (asks p a) || all_given p.platform a.object h))
last_answered p h None is = tt
last_answered p h (Some a) is = by_ask (asks p a) is
  where
    by_ask : (b : Bool) → (IsTrue b → KnowsAllGiven p h (length h) a.object) → IsTrue (not b || all_given p.platform a.object h)
    by_ask false f = refl
    by_ask true f = all_given_end p h (length h) a.object (f refl)

-- what holds of each initiator, where it holds of each number below their count
each_initiator : (P : Initiator → Type 0) (is : List Initiator) → ((k : ℕ) (i : Initiator) → slice_get is k ≡ Some i → P i) → AllByRecursion P is
each_initiator P [] f = tt
each_initiator P (i ∷ is) f = (f 0 i refl, each_initiator P is (λ k j at. f (suc k) j at))

below_length : (is : List Initiator) (k : ℕ) (i : Initiator) → slice_get is k ≡ Some i → k < length is
below_length [] k i at = cc
below_length (j ∷ is) zero i at = omega arith
below_length (j ∷ is) (suc k) i at = let t = below_length is k i at in omega (arith, t)

pub parts_end_grants : PartsEndGrants
parts_end_grants p h k owners ended = record {
  answered = each_initiator (LastAskIsAnswered p h) (initiators_of p) (λ n i at.
      let number : i.number ≡ n = omega (arith, (initiator_from 0 p.platform.initiators p.scripts n i at).0) in
      subst (λ (o : Option Entry). MatchOption o (Unit {0}) (λ a. IsTrue (not (asks p a) || all_given p.platform a.object h))) (sym (last_of-own i.number h))
      (last_answered p h (last_of i.number (own i.number h))
      (subst (λ (j : ℕ). MatchOption (last_of j (own j h)) (Unit {0}) (λ a. IsTrue (asks p a) → KnowsAllGiven p h (length h) a.object)) (sym number) (ended n (below_length (initiators_of p) n i at)).answered)));
  returned = returned_up h h (length h) (λ y. true) k.numbered (λ x has. has) (λ x has less. has) (λ y has all invalidates.
      (ended y.txn.initiator (owner_below p h owners y has)).returns y (kept_has (λ (x : Entry). nat_eq x.txn.initiator y.txn.initiator) h y has (eq-eqb y.txn.initiator y.txn.initiator refl)) invalidates);
}
