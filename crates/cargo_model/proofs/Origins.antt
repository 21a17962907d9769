-- The way of a request, and the numbers of objects.
use Rattle.std.proofs.Common.{◌≡◌, ℕ, suc, ◌+◌, ◌<◌, List, [], ◌∷◌, cond, not, Bool, true, false, Option, Some, None, refl, sym, ◌∙◌, ap, arith, subst, inl, inr}
use Rattle.std.specs.Prelude.{slice_get, is_some, ◌≢◌}
use Rattle.std.specs.List.{position_or_len}
use Rattle.std.proofs.lemmas.Bool.{eq-eqb, eqb-true}
use Rattle.tlm_types.specs.declared.words.ObjectNo.{ObjectNo}
use Rattle.tlm_types.specs.declared.words.ObjectNo.TheVariants.{Memory, Hop, Pool}
use Rattle.tlm_types.specs.declared.entry.Access.{Access}
use Rattle.tlm_types.specs.declared.entry.Entry.{Entry}
use Rattle.tlm_model.specs.declared.platform.Platform.{Platform}
use Rattle.tlm_model.specs.declared.platform.Style.{Style}
use Rattle.tlm_model.specs.declared.platform.Style.TheVariants.{Blocking, Direct, FourPhase}
use Rattle.tlm_model.specs.History.{is_object}
use Rattle.tlm_model.specs.Actions.{ask_for}
use Rattle.tlm_model.specs.Plan.{Initiator}
use Rattle.tlm_model.specs.Requests.{Asked, Request, Transport, requests_of}
use Rattle.tlm_model.specs.Route.{Route, hops_of, route_of}
use Rattle.tlm_model.proofs.RequestLemmas.{ask_at}
use Rattle.flow_model.specs.World.{Passage, hop_at, hop_count}
use Rattle.flow_model.specs.Events.{Among}
use Rattle.flow_model.specs.Platform.{accessed, addresses_of, passage_by, passage_to}
use Rattle.cargo_model.specs.Known.{object_number, objects_of}
use Rattle.cargo_model.specs.Origins.{ApartLaw, AskedLaw}
use Rattle.cargo_model.specs.Travel.{memory_number}

-- an access that is asked for has the address of its operation
asked_at : (p : Platform) (i : Initiator) (h : List Entry) (r : Request) (a : Access) → r.asked ≡ Transport a → (k : ℕ) → slice_get (requests_of p i h) k ≡ Some r → slice_get (addresses_of i.script) k ≡ Some (Some r.address)
asked_at p i h r a transport k q = ask_at accessed (λ a n. refl) p i h r 0 0 0 i.script k q ∙ ap (λ (d : Asked). Some (accessed (ask_for r.address d))) transport

pub asked_law : AskedLaw
asked_law p h x pass i r a passes is asked transport =
    by_style i.row.style (asked_at p.platform i h r a transport x.seq asked) (subst (λ (j : Option Initiator). passage_by p.platform j x.seq ≡ Some pass) is passes)
  where
    by_style : (s : Style) → slice_get (addresses_of i.script) x.seq ≡ Some (Some r.address) → passage_to p.platform i s (slice_get (addresses_of i.script) x.seq) ≡ Some pass
        → pass ≡ record { hops = hops_of p.platform i r.address; routed = is_some (route_of p.platform i r.address) }
    by_style Blocking at q = cc
    by_style Direct at q = cc
    by_style FourPhase at q = same _ _ (sym q ∙ ap (passage_to p.platform i FourPhase) at)
      where
        same : (u v : Passage) → Some u ≡ Some v → u ≡ v
        same u v e = cc

-- the object of a number
pub is_that : (o q : ObjectNo) → is_object o q ≡ true → q ≡ o
is_that (Memory m) (Memory n) e = ap Memory (eqb-true n m e)
is_that (Memory m) (Hop n) e = cc
is_that (Memory m) (Pool n) e = cc
is_that (Hop m) (Memory n) e = cc
is_that (Hop m) (Hop n) e = ap Hop (eqb-true n m e)
is_that (Hop m) (Pool n) e = cc
is_that (Pool m) (Memory n) e = cc
is_that (Pool m) (Hop n) e = cc
is_that (Pool m) (Pool n) e = ap Pool (eqb-true n m e)

pub is_self : (o : ObjectNo) → is_object o o ≡ true
is_self (Memory m) = eq-eqb m m refl
is_self (Hop m) = eq-eqb m m refl
is_self (Pool m) = eq-eqb m m refl

one_more : (n : ℕ) → 1 + n ≡ suc n
one_more n = omega arith

-- an object stands at its number
pub stands : (o : ObjectNo) (os : List ObjectNo) → Among os o → slice_get os (position_or_len (is_object o) os) ≡ Some o
stands o [] m = absurd m
stands o (q ∷ os) m = go (λ n. stands o os n) m (is_object o q) refl
  where
    go : (Among os o → slice_get os (position_or_len (is_object o) os) ≡ Some o) → Among (q ∷ os) o → (b : Bool) → is_object o q ≡ b → slice_get (q ∷ os) (cond (not b) (1 + position_or_len (is_object o) os) 0) ≡ Some o
    go more m true e = ap Some (is_that o q e)
    go more (inl s) false e = let f : is_object o q ≡ true = ap (is_object o) s ∙ is_self o in cc
    go more (inr n) false e = subst (λ (k : ℕ). slice_get (q ∷ os) k ≡ Some o) (sym (one_more (position_or_len (is_object o) os))) (more n)

-- at the number of an object there is no other
found : (o : ObjectNo) (os : List ObjectNo) (q : ObjectNo) → slice_get os (position_or_len (is_object o) os) ≡ Some q → is_object o q ≡ true
found o [] q e = cc
found o (r ∷ os) q e = go (λ f. found o os q f) (is_object o r) refl e
  where
    same : (a b : ObjectNo) → Some a ≡ Some b → a ≡ b
    same a b f = cc

    go : (slice_get os (position_or_len (is_object o) os) ≡ Some q → is_object o q ≡ true) → (b : Bool) → is_object o r ≡ b → slice_get (r ∷ os) (cond (not b) (1 + position_or_len (is_object o) os) 0) ≡ Some q → is_object o q ≡ true
    go more true f g = ap (is_object o) (sym (same r q g)) ∙ f
    go more false f g = more (subst (λ (k : ℕ). slice_get (r ∷ os) k ≡ Some q) (one_more (position_or_len (is_object o) os)) g)

-- an object that has the number of one that is there is that one
pub only_object : (p : Platform) (o q : ObjectNo) → Among (objects_of p) q → object_number p o ≡ object_number p q → o ≡ q
only_object p o q n e = sym (is_that o q (found o (objects_of p) q (ap (slice_get (objects_of p)) e ∙ stands q (objects_of p) n)))

pub one_object : (p : Platform) (o q : ObjectNo) → Among (objects_of p) o → Among (objects_of p) q → object_number p o ≡ object_number p q → o ≡ q
one_object p o q m n e = same o q (sym (stands o (objects_of p) m) ∙ (ap (slice_get (objects_of p)) e ∙ stands q (objects_of p) n))
  where
    same : (o q : ObjectNo) → Some o ≡ Some q → o ≡ q
    same o q e = cc

pub apart_law : ApartLaw
apart_law p x pass route way there = record {
  hops = λ j k l m e. way.distinct j k l m (hop_same _ _ (one_object p.platform (Hop (hop_at pass j)) (Hop (hop_at pass k)) (there.hops j l) (there.hops k m) e));
  pool = λ j l e. (let f = one_object p.platform (Hop (hop_at pass j)) (Pool x.initiator) (there.hops j l) there.pool e in cc);
  memory = λ m j q l e. at_hop route refl m j q l e;
  apart = λ m q e. at_pool route refl m q e;
}
  where
    hop_same : (a b : ℕ) → Hop a ≡ Hop b → a ≡ b
    hop_same a b e = cc

    number_same : (a b : ℕ) → Some a ≡ Some b → a ≡ b
    number_same a b e = cc

    at_hop : (r : Option Route) → route ≡ r → (m j : ℕ) → memory_number p r ≡ Some m → j < hop_count pass → object_number p.platform (Hop (hop_at pass j)) ≢ m
    at_hop None s m j q l e = cc
    at_hop (Some r) s m j q l e =
        let f = one_object p.platform (Hop (hop_at pass j)) (Memory r.memory) (there.hops j l) (there.memory r s) (e ∙ sym (number_same _ _ q)) in cc

    at_pool : (r : Option Route) → route ≡ r → (m : ℕ) → memory_number p r ≡ Some m → object_number p.platform (Pool x.initiator) ≢ m
    at_pool None s m q e = cc
    at_pool (Some r) s m q e =
        let f = one_object p.platform (Pool x.initiator) (Memory r.memory) there.pool (there.memory r s) (e ∙ sym (number_same _ _ q)) in cc
