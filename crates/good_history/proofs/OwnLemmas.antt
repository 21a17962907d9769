-- What an initiator is told stands in its own entries.
use std.Path.{fun_ext}
use Rattle.std.proofs.Common.{◌≡◌, ℕ, List, [], ◌∷◌, ◌++◌, Option, Some, None, Bool, true, false, ◌||◌, ◌&&◌, cond, nat_eq, is_none, refl, ap, sym, ◌∙◌}
use Rattle.std.specs.List.{filter, list_all}
use Rattle.std.proofs.lemmas.List.Elements.{filter-append}
use Rattle.tlm_types.specs.declared.entry.Entry.{Entry}
use Rattle.tlm_model.specs.declared.operation.Operation.{Operation}
use Rattle.tlm_model.specs.declared.platform.Platform.{Platform}
use Rattle.tlm_model.specs.Plan.{Initiator}
use Rattle.tlm_model.specs.Requests.{Request, answered, buffer_by, buffer_of, first_of_two, got_in, is_txn, requests_from, requests_of, has_no_route}
use Rattle.tlm_model.specs.Route.{Route, route_of}
use Rattle.tlm_model.specs.Scripts.{has_answer, is_answer, is_settled}
use Rattle.tlm_model.proofs.RequestLemmas.{same_requests}
use Rattle.good_history.specs.Own.{own}
use Rattle.good_history.specs.JoinedLaws.{OwnIsEnough, OwnRequestsStand}

pub own-append : (n : ℕ) (h m : List Entry) → own n (h ++ m) ≡ own n h ++ own n m
own-append n h m = filter-append (λ (e : Entry). nat_eq e.txn.initiator n) h m

has_answer-own : (n s : ℕ) (h : List Entry) → has_answer n s h ≡ has_answer n s (own n h)
has_answer-own n s [] = refl
has_answer-own n s (e ∷ h) = by_cases (nat_eq e.txn.initiator n) refl (has_answer-own n s h)
  where
    by_cases : (b : Bool) → nat_eq e.txn.initiator n ≡ b → has_answer n s h ≡ has_answer n s (own n h) → has_answer n s (e ∷ h) ≡ has_answer n s (cond b (e ∷ own n h) (own n h))
    by_cases true mine rest = ap (λ (b : Bool). (is_txn n s e.txn && is_answer e.what) || b) rest
    by_cases false other rest = ap (λ (b : Bool). ((b && nat_eq e.txn.seq s) && is_answer e.what) || has_answer n s h) other ∙ rest

answered-own : (n s : ℕ) (h : List Entry) → answered n s h ≡ answered n s (own n h)
answered-own n s [] = refl
answered-own n s (e ∷ h) = by_cases (nat_eq e.txn.initiator n) refl (answered-own n s h)
  where
    by_cases : (b : Bool) → nat_eq e.txn.initiator n ≡ b → answered n s h ≡ answered n s (own n h) → answered n s (e ∷ h) ≡ answered n s (cond b (e ∷ own n h) (own n h))
    by_cases true mine rest = ap (first_of_two (cond (is_txn n s e.txn) (got_in e.what) None)) rest
    by_cases false other rest = ap (λ (b : Bool). first_of_two (cond (b && nat_eq e.txn.seq s) (got_in e.what) None) (answered n s h)) other ∙ rest

module _ (p : Platform) (i : Initiator) (h : List Entry) where
  buffer_of-own : (s a n : ℕ) → buffer_of p i h s a n ≡ buffer_of p i (own i.number h) s a n
  buffer_of-own s a n = by_route (route_of p i a)
    where
      by_route : (r : Option Route) → buffer_by r n i.number s h ≡ buffer_by r n i.number s (own i.number h)
      by_route None = refl
      by_route (Some r) = answered-own i.number s h

  is_settled-own : (r : Request) → is_settled p i h r ≡ is_settled p i (own i.number h) r
  is_settled-own r = ap (λ (b : Bool). is_none (route_of p i r.address) || b) (has_answer-own i.number r.seq h)

  all_settled-own : (rs : List Request) → list_all (is_settled p i h) rs ≡ list_all (is_settled p i (own i.number h)) rs
  all_settled-own rs = ap (λ (test : Request → Bool). list_all test rs) (fun_ext is_settled-own)

  requests_from-own : (s t g : ℕ) (ops : List Operation) → requests_from p i h s t g ops ≡ requests_from p i (own i.number h) s t g ops
  requests_from-own s t g ops = same_requests p i h (own i.number h) buffer_of-own s t g ops

  pub requests_of-own : requests_of p i h ≡ requests_of p i (own i.number h)
  requests_of-own = requests_from-own 0 0 0 i.script

pub own_is_enough : OwnIsEnough
own_is_enough p i h = record {
  answers = λ s. has_answer-own i.number s h;
  replies = λ s. answered-own i.number s h;
  buffers = buffer_of-own p i h;
  settled = is_settled-own p i h;
  all_settled = all_settled-own p i h;
  rest = requests_from-own p i h;
  requests = requests_of-own p i h;
  refused = ap (filter (λ (r : Request). has_no_route p i r r.asked)) (requests_of-own p i h);
}

pub own_requests_stand : OwnRequestsStand
own_requests_stand p i h made left by_own asked m =
    let mine = own i.number h in
    requests_of-own p i (h ++ m)
    ∙ (ap (requests_of p i) (own-append i.number h m)
    ∙ (asked (own i.number m)
    ∙ ap (λ (x : List Request). made ++ x) (ap left (sym (own-append i.number h m)) ∙ sym (by_own (h ++ m)))))
