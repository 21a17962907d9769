-- A test of the premises of the law on a short history.
use Rattle.std.proofs.Common.{◌≡◌, ℕ, zero, suc, ◌≤◌, List, [], ◌∷◌, ◌++◌, Option, Some, None, true, false, Bool, cond, refl, ap, sym, ◌∙◌, arith, subst, ◌⊎◌, inl, inr}
use Rattle.std.specs.Prelude.{count_by}
use Rattle.std.specs.List.{AllByRecursion}
use Rattle.tlm_types.specs.declared.words.ObjectNo.{ObjectNo}
use Rattle.tlm_types.specs.declared.words.ObjectNo.TheVariants.{Memory, Hop, Pool}
use Rattle.tlm_types.specs.declared.words.Phase.TheVariants.{BeginResp}
use Rattle.tlm_types.specs.declared.words.TlmSync.{TlmSync}
use Rattle.tlm_types.specs.declared.words.TxnId.{TxnId}
use Rattle.tlm_types.specs.declared.entry.Entry.{Entry}
use Rattle.tlm_types.specs.declared.entry.What.{What}
use Rattle.tlm_types.specs.declared.entry.What.TheVariants.{Access as Accessed, Granted, Invalidated, Closed, Call as Called, Take, Acquire, Release}
use Rattle.tlm_model.specs.Each.{AtEach}
use Rattle.tlm_model.specs.History.{is_object}
use Rattle.tlm_model.specs.Route.{greatest_time}
use Rattle.base_phases.specs.Walks.{is_begin}
use Rattle.flow_model.specs.Board.{Reaches, start}
use Rattle.flow_model.specs.Calls.{calls_in, calls_of, has_open_request}
use Rattle.flow_model.specs.Protocol.{BeginsOnce}
use Rattle.flow_model.specs.World.{IsWorld, Passage, World}
use Rattle.flow_model.specs.Events.{Event, Among, Finds, IsAccess, IsTake, IsTakeOf, at, entries, hop_log}
use Rattle.flow_model.specs.Backed.{IsBacked}
use Rattle.flow_model.specs.Pools.{IsPoolLog, TakesOnce}
use Rattle.flow_model.specs.Law.{HasSteps, Premises}
use Rattle.flow_check.specs.Premises.{HasLogs}
use Rattle.flow_model.proofs.CallLists.{entries-at}
use Rattle.flow_model.proofs.Forms.{is_txn}
use Rattle.flow_model.proofs.Sayings.{same_txn, is_txn_self}
use Rattle.flow_model.proofs.Splits.{same_object}
use Rattle.flow_check.proofs.Decide.{bind, each, either, is_same_object, same_nat}
use Rattle.flow_check.proofs.DecideBacked.{is_backed}
use Rattle.flow_check.proofs.DecideLogs.{at_most, has_steps, pool_log}

-- facts of all elements
abbrev all_by : {X : Type 0} → (P : X → Type 0) (x : X) (xs : List X) → Option (P x) → Option (AllByRecursion P xs) → Option (AllByRecursion P (x ∷ xs))
all_by P x xs None rest = None
all_by P x xs (Some a) None = None
all_by P x xs (Some a) (Some r) = Some (a, r)

abbrev pub all : {X : Type 0} → (P : X → Type 0) → ((x : X) → Option (P x)) → (xs : List X) → Option (AllByRecursion P xs)
all P f [] = Some tt
all P f (x ∷ xs) = all_by P x xs (f x) (all P f xs)

all_among : {X : Type 0} → (P : X → Type 0) (xs : List X) (x : X) → AllByRecursion P xs → Among xs x → P x
all_among P [] x a m = absurd m
all_among P (y ∷ xs) x a (inl q) = subst P q a.0
all_among P (y ∷ xs) x a (inr m) = all_among P xs x a.1 m

-- no event of a list is of this kind
pub none_more : (P : Event → Type 0) (e : Event) (l : List Event) → ¬ P e → ¬ Finds (Among l) P → ¬ Finds (Among (e ∷ l)) P
none_more P e l a f g = go g.known
  where
    go : Among (e ∷ l) g.event → ⊥
    go (inl q) = a (subst P (sym q) g.is)
    go (inr m) = f (record { event = g.event; known = m; is = g.is })

abbrev never : (P : Event → Type 0) → ((e : Event) → Option (¬ P e)) → (l : List Event) → Option (¬ Finds (Among l) P)
never P f [] = Some (λ g. g.known)
never P f (e ∷ l) = bind (f e) (λ a. bind (never P f l) (λ n. Some (none_more P e l a n)))

pub other_txn : (x y : TxnId) → is_txn x y ≡ false → ¬ (y ≡ x)
other_txn x y q r = clash (sym (subst (λ (z : TxnId). is_txn x z ≡ true) (sym r) (is_txn_self x)) ∙ q)
  where
    clash : ◌≡◌ {A = Bool} true false → ⊥
    clash z = cc

abbrev txn_by : (x y : TxnId) (t : Bool) → is_txn x y ≡ t → Option (¬ (y ≡ x))
txn_by x y true q = None
txn_by x y false q = Some (other_txn x y q)

abbrev not_txn : (x y : TxnId) → Option (¬ (y ≡ x))
not_txn x y = txn_by x y (is_txn x y) refl

-- Takes and Accesses stand once
abbrev take_what : (v : What) → Option ((k : ℕ) → ¬ (v ≡ Take k))
take_what (Take k) = None
take_what (Accessed way access status got) = Some (λ k q. cc)
take_what (Granted g f l k) = Some (λ k q. cc)
take_what (Invalidated f l) = Some (λ k q. cc)
take_what (Closed g) = Some (λ k q. cc)
take_what (Called p a) = Some (λ k q. cc)
take_what (Acquire s) = Some (λ k q. cc)
take_what (Release s f) = Some (λ k q. cc)

abbrev not_take_of : (x : TxnId) (e : Event) → Option (¬ IsTakeOf x e)
not_take_of x e = either (bind (take_what e.what) (λ n. Some (λ t. n t.slot t.what))) (bind (not_txn x e.txn) (λ n. Some (λ t. n t.txn)))

pub take_again : (e : Event) (before : List Event) → ¬ Finds (Among before) (IsTakeOf e.txn) → (x : TxnId) → IsTakeOf x e → ¬ Finds (Among before) (IsTakeOf x)
take_again e before f x t g = f (subst (λ (y : TxnId). Finds (Among before) (IsTakeOf y)) (sym t.txn) g)

abbrev one_take : (before : List Event) (e : Event) → Option ((x : TxnId) → IsTakeOf x e → ¬ Finds (Among before) (IsTakeOf x))
one_take before e = either (bind (take_what e.what) (λ n. Some (λ x t g. n t.slot t.what))) (bind (never (IsTakeOf e.txn) (not_take_of e.txn) before) (λ f. Some (take_again e before f)))

abbrev takes_once : (log : List Event) → Option (TakesOnce log)
takes_once log = each _ one_take log

pub no_access : (e : Event) (d : ObjectNo) → e.object ≡ d → ((m : ℕ) → ¬ (d ≡ Memory m)) → (x : TxnId) → ¬ IsAccess x e
no_access e d q n x a = n a.memory (sym q ∙ a.object)

pub not_memory_hop : (o m : ℕ) → ¬ (Hop o ≡ Memory m)
not_memory_hop o m q = cc

pub not_memory_pool : (o m : ℕ) → ¬ (Pool o ≡ Memory m)
not_memory_pool o m q = cc

abbrev access_object : (e : Event) (d : ObjectNo) → e.object ≡ d → Option ((x : TxnId) → ¬ IsAccess x e)
access_object e (Memory m) q = None
access_object e (Hop o) q = Some (no_access e (Hop o) q (not_memory_hop o))
access_object e (Pool o) q = Some (no_access e (Pool o) q (not_memory_pool o))

abbrev not_access_of : (x : TxnId) (e : Event) → Option (¬ IsAccess x e)
not_access_of x e = either (bind (access_object e e.object refl) (λ n. Some (n x))) (bind (not_txn x e.txn) (λ n. Some (λ a. n a.txn)))

pub access_again : (e : Event) (before : List Event) → ¬ Finds (Among before) (IsAccess e.txn) → (x : TxnId) → IsAccess x e → ¬ Finds (Among before) (IsAccess x)
access_again e before f x t g = f (subst (λ (y : TxnId). Finds (Among before) (IsAccess y)) (sym t.txn) g)

abbrev one_access : (before : List Event) (e : Event) → Option ((x : TxnId) → IsAccess x e → ¬ Finds (Among before) (IsAccess x))
one_access before e = either (bind (access_object e e.object refl) (λ n. Some (λ x a g. n x a))) (bind (never (IsAccess e.txn) (not_access_of e.txn) before) (λ f. Some (access_again e before f)))

-- an access has a route
abbrev pub Routed : World → Event → Type 0
Routed w e = (x : TxnId) (pass : Passage) → w.passage x ≡ Some pass → pass.routed ≡ false → ¬ IsAccess x e

pub no_passage : (w : World) (e : Event) → w.passage e.txn ≡ None → Routed w e
no_passage w e n x pass q f a = clash (sym n ∙ (ap w.passage a.txn ∙ q))
  where
    clash : None ≡ Some pass → ⊥
    clash z = cc

pub with_route : (w : World) (e : Event) (pass : Passage) → w.passage e.txn ≡ Some pass → pass.routed ≡ true → Routed w e
with_route w e pass n r x other q f a = clash (sym r ∙ (ap (λ (g : Passage). g.routed) (some_same pass other (sym n ∙ (ap w.passage a.txn ∙ q))) ∙ f))
  where
    some_same : (a b : Passage) → Some a ≡ Some b → a ≡ b
    some_same a b q = cc

    clash : ◌≡◌ {A = Bool} true false → ⊥
    clash z = cc

abbrev truth : (b : Bool) → Option (b ≡ true)
truth true = Some refl
truth false = None

abbrev passage_by : (w : World) (e : Event) (f : Option Passage) → w.passage e.txn ≡ f → Option (Routed w e)
passage_by w e None q = Some (no_passage w e q)
passage_by w e (Some pass) q = bind (truth pass.routed) (λ r. Some (with_route w e pass q r))

abbrev routed : (w : World) (e : Event) → Option (Routed w e)
routed w e = either (bind (access_object e e.object refl) (λ n. Some (λ x pass q f a. n x a))) (passage_by w e (w.passage e.txn) refl)

all_routed : (w : World) (h : List Event) → AllByRecursion (Routed w) h → (x : TxnId) (pass : Passage) → w.passage x ≡ Some pass → pass.routed ≡ false → (e : Event) → Among h e → ¬ IsAccess x e
all_routed w h a x pass q f e m = all_among (Routed w) h e a m x pass q f

-- the times of Takes
abbrev pub Issued : (List Entry → TxnId → ℕ) → List Event → Event → Type 0
Issued issued before e = (x : TxnId) → IsTake x e → e.time ≡ issued (entries before) x

pub issued_at : (issued : List Entry → TxnId → ℕ) (before : List Event) (e : Event) → e.time ≡ issued (entries before) e.txn → Issued issued before e
issued_at issued before e q x t = q ∙ ap (issued (entries before)) t.txn

abbrev issued_by : (issued : List Entry → TxnId → ℕ) (before : List Event) (e : Event) → Option (Issued issued before e)
issued_by issued before e = either (bind (take_what e.what) (λ n. Some (λ x t. absurd (n t.slot t.what)))) (bind (same_nat e.time (issued (entries before) e.txn)) (λ q. Some (issued_at issued before e q)))

-- each transaction begins once
abbrev pub FewBegins : List Entry → Entry → Type 0
FewBegins log e = count_by is_begin (calls_of e.txn log) ≤ 1

calls_other : (x : TxnId) (log : List Entry) → ((e : Entry) → Among log e → is_txn x e.txn ≡ false) → calls_of x log ≡ []
calls_other x [] f = refl
calls_other x (e ∷ log) f =
    ap (λ (b : Bool). cond b (calls_in e.what) [] ++ calls_of x log) (f e (inl refl)) ∙ calls_other x log (λ g m. f g (inr m))

pub begins_once : (log : List Entry) → AllByRecursion (FewBegins log) log → BeginsOnce log
begins_once log a = record { once = λ x. go x (some_of x log) }
  where
    some_of : (x : TxnId) (l : List Entry) → ((e : Entry) × Among l e × (e.txn ≡ x)) ⊎ ((e : Entry) → Among l e → is_txn x e.txn ≡ false)
    some_of x [] = inr (λ e m. absurd m)
    some_of x (e ∷ l) = by_bool (some_of x l) (is_txn x e.txn) refl
      where
        by_bool : (((e : Entry) × Among l e × (e.txn ≡ x)) ⊎ ((e : Entry) → Among l e → is_txn x e.txn ≡ false)) → (b : Bool) → is_txn x e.txn ≡ b → ((d : Entry) × Among (e ∷ l) d × (d.txn ≡ x)) ⊎ ((d : Entry) → Among (e ∷ l) d → is_txn x d.txn ≡ false)
        by_bool r true q = inl (e, inl refl, same_txn x e.txn q)
        by_bool (inl r) false q = inl (r.0, inr r.1, r.2)
        by_bool (inr r) false q = inr (λ d m. elim m [ inl s ↦ subst (λ (c : Entry). is_txn x c.txn ≡ false) s q | inr n ↦ r d n ])

    go : (x : TxnId) → (((e : Entry) × Among log e × (e.txn ≡ x)) ⊎ ((e : Entry) → Among log e → is_txn x e.txn ≡ false)) → count_by is_begin (calls_of x log) ≤ 1
    go x (inl r) = subst (λ (y : TxnId). count_by is_begin (calls_of y log) ≤ 1) r.2 (all_among (FewBegins log) log r.0 a r.1)
    go x (inr f) = let q : count_by is_begin (calls_of x log) ≡ 0 = ap (count_by is_begin) (calls_other x log f) in omega arith

abbrev begins : (log : List Entry) → Option (BeginsOnce log)
begins log = bind (all (FewBegins log) (λ e. at_most (count_by is_begin (calls_of e.txn log)) 1) log) (λ a. Some (begins_once log a))

-- a BEGIN_RESP that is marked ends a request
abbrev IsMarked : List Event → Event → Type 0
IsMarked before e = (a : TlmSync) → e.what ≡ Called BeginResp a → e.number ≡ 1 → has_open_request e.txn (entries before) ≡ true

abbrev mark_for : (n : ℕ) (b : Bool) → Option (n ≡ 1 → b ≡ true)
mark_for n true = Some (λ q. refl)
mark_for zero false = Some (λ q. absurd (omega arith))
mark_for (suc n) false = None

abbrev is_marked : (before : List Event) (e : Event) → Option (IsMarked before e)
is_marked before e = bind (mark_for e.number (has_open_request e.txn (entries before))) (λ f. Some (λ a q n. f n))

-- what one object gives
pub record HopGives (w : World) (o : ℕ) (h : List Event) : Type 0 where
  pub steps : HasSteps w o h
  pub marks : AtEach IsMarked (at (Hop o) h)
  pub once : BeginsOnce (hop_log o h)

pub record PoolGives (slots : ℕ → ℕ) (i : ℕ) (h : List Event) : Type 0 where
  pub log : IsPoolLog (slots i) (at (Pool i) h)
  pub once : TakesOnce (at (Pool i) h)

abbrev pub Gives : World → (ℕ → ℕ) → List Event → ObjectNo → Type 0
Gives w slots h (Memory m) = Unit {0}
Gives w slots h (Hop o) = HopGives w o h
Gives w slots h (Pool i) = PoolGives slots i h

abbrev gives : (w : World) (slots : ℕ → ℕ) (h : List Event) (o : ObjectNo) → Option (Gives w slots h o)
gives w slots h (Memory m) = Some tt
gives w slots h (Hop o) = bind (has_steps w o h) (λ s. bind (each IsMarked is_marked (at (Hop o) h)) (λ m. bind (begins (hop_log o h)) (λ b. Some (record { steps = s; marks = m; once = b }))))
gives w slots h (Pool i) = bind (pool_log (slots i) (at (Pool i) h)) (λ l. bind (takes_once (at (Pool i) h)) (λ t. Some (record { log = l; once = t })))

-- an object that has no entry
elsewhere : (h : List Event) (o : ObjectNo) → ((e : Event) → Among h e → is_object o e.object ≡ false) → at o h ≡ []
elsewhere [] o f = refl
elsewhere (e ∷ h) o f = ap (λ (b : Bool). cond b (e ∷ at o h) (at o h)) (f e (inl refl)) ∙ elsewhere h o (λ g m. f g (inr m))

given_by : (w : World) (slots : ℕ → ℕ) (h : List Event) (o : ObjectNo) → at o h ≡ [] → Gives w slots h o
given_by w slots h (Memory m) q = tt
given_by w slots h (Hop o) q =
    let none : [] ≡ hop_log o h = sym (entries-at (Hop o) h ∙ ap entries q) in
    record {
      steps = record { board = start; steps = subst (λ (l : List Entry). Reaches (w.hop o).rules start l start) none refl };
      marks = subst (AtEach IsMarked) (sym q) tt;
      once = subst BeginsOnce none (record { once = λ x. omega arith });
    }
given_by w slots h (Pool i) q = record { log = subst (IsPoolLog (slots i)) (sym q) tt; once = subst TakesOnce (sym q) tt }

-- each object, from those that have entries
abbrev place_by : (d o : ObjectNo) (places : List ObjectNo) → Option (o ≡ d) → Option (Among places o) → Option (Among (d ∷ places) o)
place_by d o places (Some q) rest = Some (inl (sym q))
place_by d o places None None = None
place_by d o places None (Some m) = Some (inr m)

abbrev place_of : (places : List ObjectNo) (o : ObjectNo) → Option (Among places o)
place_of [] o = None
place_of (d ∷ places) o = place_by d o places (is_same_object d o) (place_of places o)

search : (places : List ObjectNo) (o : ObjectNo) → Among places o ⊎ ((d : ObjectNo) → Among places d → is_object o d ≡ false)
search [] o = inr (λ d m. absurd m)
search (d ∷ places) o = go (search places o) (is_object o d) refl
  where
    go : Among places o ⊎ ((c : ObjectNo) → Among places c → is_object o c ≡ false) → (b : Bool) → is_object o d ≡ b → Among (d ∷ places) o ⊎ ((c : ObjectNo) → Among (d ∷ places) c → is_object o c ≡ false)
    go r true q = inl (inl (same_object o d q))
    go (inl m) false q = inl (inr m)
    go (inr f) false q = inr (λ c m. elim m [ inl s ↦ subst (λ (a : ObjectNo). is_object o a ≡ false) s q | inr n ↦ f c n ])

gives_all : (w : World) (slots : ℕ → ℕ) (h : List Event) (places : List ObjectNo) → AllByRecursion (Gives w slots h) places → AllByRecursion (λ (e : Event). Among places e.object) h → (o : ObjectNo) → Gives w slots h o
gives_all w slots h places a b o = elim (search places o) [
  | inl m ↦ all_among (Gives w slots h) places o a m
  | inr f ↦ given_by w slots h o (elsewhere h o (λ e m. f e.object (all_among (λ (d : Event). Among places d.object) h e b m)))
]

all_times : (h : List Event) → AllByRecursion (λ (e : Event). e.time ≤ greatest_time) h → (e : Event) → Among h e → e.time ≤ greatest_time
all_times h a e m = all_among (λ (d : Event). d.time ≤ greatest_time) h e a m

-- what the test finds
pub record Tested (w : World) (slots : ℕ → ℕ) (issued : List Entry → TxnId → ℕ) (places : List ObjectNo) (h : List Event) : Type 0 where
  pub backed : AtEach (λ before e. IsBacked w (Among before) e) h
  pub objects : AllByRecursion (Gives w slots h) places
  pub placed : AllByRecursion (λ (e : Event). Among places e.object) h
  pub access : AtEach (λ before e. (x : TxnId) → IsAccess x e → ¬ Finds (Among before) (IsAccess x)) h
  pub routes : AllByRecursion (Routed w) h
  pub takes : AtEach (Issued issued) h

abbrev pub tested : (w : World) (slots : ℕ → ℕ) (issued : List Entry → TxnId → ℕ) (places : List ObjectNo) (h : List Event) → Option (Tested w slots issued places h)
tested w slots issued places h =
    bind (each (λ before e. IsBacked w (Among before) e) (is_backed w) h) (λ b. bind (all (Gives w slots h) (gives w slots h) places) (λ o. bind (all (λ (e : Event). Among places e.object) (λ e. place_of places e.object) h) (λ p.
    bind (each _ one_access h) (λ a. bind (all (Routed w) (routed w) h) (λ r. bind (each (Issued issued) (issued_by issued) h) (λ t.
    Some (record { backed = b; objects = o; placed = p; access = a; routes = r; takes = t })))))))

abbrev pub Bounded : List Event → Type 0
Bounded h = AllByRecursion (λ (e : Event). e.time ≤ greatest_time) h

abbrev pub bounded : (h : List Event) → Option (Bounded h)
bounded h = all (λ (e : Event). e.time ≤ greatest_time) (λ e. at_most e.time greatest_time) h

pub logs_of : (w : World) (slots : ℕ → ℕ) (issued : List Entry → TxnId → ℕ) (places : List ObjectNo) (h : List Event) → Tested w slots issued places h → HasLogs w slots issued h
logs_of w slots issued places h t =
    let f = gives_all w slots h places t.objects t.placed in
    record {
      backed = t.backed;
      hops = λ o. (f (Hop o)).steps;
      marks = λ o. (f (Hop o)).marks;
      pools = λ i. (f (Pool i)).log;
      one_take = λ i. (f (Pool i)).once;
      one_access = t.access;
      one_begin = λ o. (f (Hop o)).once;
      unrouted = all_routed w h t.routes;
      takes = t.takes;
    }

pub premises_of : (w : World) (slots : ℕ → ℕ) (issued : List Entry → TxnId → ℕ) (places : List ObjectNo) (h : List Event) → IsWorld w → Tested w slots issued places h → Bounded h → Premises w slots issued h
premises_of w slots issued places h good t b =
    let l = logs_of w slots issued places h t in
    record {
      world = good;
      backed = l.backed;
      hops = l.hops;
      marks = l.marks;
      pools = l.pools;
      one_take = l.one_take;
      one_access = l.one_access;
      one_begin = l.one_begin;
      unrouted = l.unrouted;
      takes = l.takes;
      times = all_times h b;
    }
