-- How far an initiator has come, as the history grows and as it goes on.
use Rattle.std.proofs.Common.{◌≡◌, ℕ, ◌+◌, ◌<◌, List, [], ◌∷◌, ◌++◌, length, Option, None, Bool, true, false, ◌||◌, ◌&&◌, nat_eq, is_none, refl, ap, sym, ◌∙◌, arith, append_assoc, length-append}
use Rattle.std.specs.List.{list_all}
use Rattle.std.proofs.lemmas.Bool.Decides.{nat_tests}
use Rattle.std.proofs.lemmas.List.Folds.{list_all-append}
use Rattle.tlm_types.specs.declared.entry.Entry.{Entry}
use Rattle.tlm_types.specs.declared.words.TxnId.{TxnId}
use Rattle.tlm_model.specs.declared.platform.Platform.{Platform}
use Rattle.tlm_model.specs.Plan.{Initiator}
use Rattle.tlm_model.specs.Requests.{Request, requests_of, is_txn}
use Rattle.tlm_model.specs.Route.{Route, route_of}
use Rattle.tlm_model.specs.Scripts.{has_answer, is_answer, is_settled}
use Rattle.initiator_run.specs.Come.{HasMade}
use Rattle.initiator_run.proofs.AnswerLemmas.{has_answer-other, has_answer-own, all_settled-more, and_true}

another : (i s n : ℕ) (t : TxnId) → nat_eq t.initiator i ≡ false → is_txn i s t ≡ false
another i s n t apart = ap (λ (b : Bool). b && nat_eq t.seq s) apart

-- an entry of another initiator
pub HasMade-other : (p : Platform) (i : Initiator) (h : List Entry) (e : Entry) (made : List Request) (left : List Entry → List Request) → nat_eq e.txn.initiator i.number ≡ false → HasMade p i h made left → HasMade p i (h ++ e ∷ []) made left
HasMade-other p i h e made left apart has = record {
  asked = λ m.
      ap (requests_of p i) (append_assoc h (e ∷ []) m)
      ∙ (has.asked (e ∷ m) ∙ ap (λ (x : List Entry). made ++ left x) (sym (append_assoc h (e ∷ []) m)));
  settled = all_settled-more p i h (e ∷ []) made has.settled;
  fresh = λ s after. has_answer-other i.number s h e (another i.number s 0 e.txn apart) ∙ has.fresh s after;
}

-- what is left stands for the same, whatever follows
pub HasMade-quiet : (p : Platform) (i : Initiator) (h : List Entry) (made : List Request) (left next : List Entry → List Request) → ((m : List Entry) → left (h ++ m) ≡ next (h ++ m)) → HasMade p i h made left → HasMade p i h made next
HasMade-quiet p i h made left next same has = record {
  asked = λ m. has.asked m ∙ ap (λ (x : List Request). made ++ x) (same m);
  settled = has.settled;
  fresh = has.fresh;
}

one_more : (made : List Request) (r : Request) → length (made ++ r ∷ []) ≡ length made + 1
one_more made r = length-append made (r ∷ [])

settled-push : (p : Platform) (i : Initiator) (h : List Entry) (made : List Request) (r : Request) → list_all (is_settled p i h) made ≡ true → is_settled p i h r ≡ true → list_all (is_settled p i h) (made ++ r ∷ []) ≡ true
settled-push p i h made r before now =
    list_all-append (is_settled p i h) made (r ∷ [])
    ∙ and_true (list_all (is_settled p i h) made) (is_settled p i h r && true) before (and_true (is_settled p i h r) true now refl)

-- a request without a route is made, and there is nothing to answer
pub HasMade-unrouted : (p : Platform) (i : Initiator) (h : List Entry) (made : List Request) (r : Request) (left next : List Entry → List Request) → route_of p i r.address ≡ None → ((m : List Entry) → left (h ++ m) ≡ r ∷ next (h ++ m)) → HasMade p i h made left → HasMade p i h (made ++ r ∷ []) next
HasMade-unrouted p i h made r left next nowhere first has = record {
  asked = λ m. has.asked m ∙ (ap (λ (x : List Request). made ++ x) (first m) ∙ sym (append_assoc made (r ∷ []) (next (h ++ m))));
  settled = settled-push p i h made r has.settled (ap (λ (o : Option Route). is_none o || has_answer i.number r.seq h) nowhere);
  fresh = λ s after. has.fresh s (omega (arith, one_more made r));
}

same_txn : (i s : ℕ) (t : TxnId) → t.initiator ≡ i → t.seq ≡ s → is_txn i s t ≡ true
same_txn i s t mine number = grind (arith, nat_tests)

later_txn : (i s : ℕ) (t : TxnId) → t.seq < s → is_txn i s t ≡ false
later_txn i s t below = ap (λ (b : Bool). nat_eq t.initiator i && b) (apart t.seq s below) ∙ and_false (nat_eq t.initiator i)
  where
    apart : (a b : ℕ) → a < b → nat_eq a b ≡ false
    apart a b is = grind (arith, nat_tests)

    and_false : (b : Bool) → b && false ≡ false
    and_false true = refl
    and_false false = refl

or_true : (b : Bool) → b || true ≡ true
or_true true = refl
or_true false = refl

-- a request is made, and this entry answers it
pub HasMade-answered : (p : Platform) (i : Initiator) (h : List Entry) (e : Entry) (made : List Request) (r : Request) (left next : List Entry → List Request) → e.txn.initiator ≡ i.number → e.txn.seq ≡ r.seq → r.seq ≡ length made → is_answer e.what ≡ true → ((m : List Entry) → left (h ++ (e ∷ m)) ≡ r ∷ next (h ++ (e ∷ m))) → HasMade p i h made left → HasMade p i (h ++ e ∷ []) (made ++ r ∷ []) next
HasMade-answered p i h e made r left next mine number place answer first has = record {
  asked = λ m.
      ap (requests_of p i) (append_assoc h (e ∷ []) m)
      ∙ (has.asked (e ∷ m)
      ∙ (ap (λ (x : List Request). made ++ x) (first m)
      ∙ (sym (append_assoc made (r ∷ []) (next (h ++ (e ∷ m)))) ∙ ap (λ (x : List Entry). (made ++ r ∷ []) ++ next x) (sym (append_assoc h (e ∷ []) m)))));
  settled = settled-push p i (h ++ e ∷ []) made r (all_settled-more p i h (e ∷ []) made has.settled)
      (ap (λ (b : Bool). is_none (route_of p i r.address) || b) (has_answer-own i.number r.seq h e (same_txn i.number r.seq e.txn mine number) answer) ∙ or_true (is_none (route_of p i r.address)));
  fresh = λ s after.
      let below : e.txn.seq < s = omega (arith, one_more made r, after, number, place) in
      has_answer-other i.number s h e (later_txn i.number s e.txn below) ∙ has.fresh s (omega (arith, one_more made r));
}
