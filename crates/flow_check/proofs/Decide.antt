-- Small tests that give the fact that they test.
use Rattle.std.proofs.Common.{◌≡◌, ℕ, ◌<◌, List, [], ◌∷◌, ◌++◌, Option, Some, None, true, false, Bool, nat_eq, nat_lt, refl, inl, inr}
use Rattle.std.specs.Prelude.{IsTrue, IsSome}
use Rattle.std.proofs.lemmas.Bool.{eqb-true, ltb-true, lt-ltb}
use Rattle.tlm_types.specs.declared.words.ObjectNo.{ObjectNo}
use Rattle.tlm_types.specs.declared.words.TxnId.{TxnId}
use Rattle.tlm_types.specs.declared.words.Phase.{Phase}
use Rattle.tlm_types.specs.declared.words.Phase.TheVariants.{BeginReq, EndReq, BeginResp, EndResp}
use Rattle.tlm_types.specs.declared.words.ReqMode.{ReqMode}
use Rattle.tlm_types.specs.declared.words.ReqMode.TheVariants as Req
use Rattle.tlm_model.specs.Each.{AtEach, EachFrom}
use Rattle.tlm_model.specs.History.{is_object}
use Rattle.flow_model.specs.Events.{Event, Among, Finds, FindsAt}
use Rattle.flow_model.proofs.Forms.{is_txn}
use Rattle.flow_model.proofs.Sayings.{same_txn}
use Rattle.flow_model.proofs.Splits.{same_object}

-- what a test found
abbrev pub found : {A : Type 0} → (o : Option A) → IsSome o → A
found None q = cc
found (Some a) q = a

abbrev pub bind : {A B : Type 0} → Option A → (A → Option B) → Option B
bind None f = None
bind (Some a) f = f a

abbrev pub either : {A : Type 0} → Option A → Option A → Option A
either None b = b
either (Some a) b = Some a

abbrev nat_by : (a b : ℕ) (t : Bool) → nat_eq a b ≡ t → Option (a ≡ b)
nat_by a b true q = Some (eqb-true a b q)
nat_by a b false q = None

abbrev pub same_nat : (a b : ℕ) → Option (a ≡ b)
same_nat a b = nat_by a b (nat_eq a b) refl

abbrev less_by : (a b : ℕ) (t : Bool) → nat_lt a b ≡ t → Option (a < b)
less_by a b true q = Some (ltb-true a b q)
less_by a b false q = None

abbrev pub less : (a b : ℕ) → Option (a < b)
less a b = less_by a b (nat_lt a b) refl

pub not_less : (a b : ℕ) → nat_lt a b ≡ false → ¬ (a < b)
not_less a b q l = cc (q, lt-ltb a b l)

-- a fact that is wanted only where a is less than b
abbrev guard_by : {A : Type 0} → (a b : ℕ) (t : Bool) → nat_lt a b ≡ t → Option A → Option (a < b → A)
guard_by a b false q o = Some (λ l. absurd (not_less a b q l))
guard_by a b true q None = None
guard_by a b true q (Some x) = Some (λ l. x)

abbrev pub guard_less : {A : Type 0} → (a b : ℕ) → Option A → Option (a < b → A)
guard_less a b o = guard_by a b (nat_lt a b) refl o

pub no_truth : IsTrue false → ⊥
no_truth q = cc

-- a fact that is wanted only where a test holds
abbrev pub guard_true : {A : Type 0} → (b : Bool) → Option A → Option (IsTrue b → A)
guard_true false o = Some (λ q. absurd (no_truth q))
guard_true true None = None
guard_true true (Some x) = Some (λ q. x)

abbrev txn_by : (x y : TxnId) (t : Bool) → is_txn x y ≡ t → Option (y ≡ x)
txn_by x y true q = Some (same_txn x y q)
txn_by x y false q = None

abbrev pub is_same_txn : (x y : TxnId) → Option (y ≡ x)
is_same_txn x y = txn_by x y (is_txn x y) refl

abbrev object_by : (o d : ObjectNo) (t : Bool) → is_object o d ≡ t → Option (d ≡ o)
object_by o d true q = Some (same_object o d q)
object_by o d false q = None

abbrev pub is_same_object : (o d : ObjectNo) → Option (d ≡ o)
is_same_object o d = object_by o d (is_object o d) refl

abbrev pub is_phase : (p q : Phase) → Option (q ≡ p)
is_phase BeginReq BeginReq = Some refl
is_phase EndReq EndReq = Some refl
is_phase BeginResp BeginResp = Some refl
is_phase EndResp EndResp = Some refl
is_phase _ _ = None

abbrev pub is_mode : (p q : ReqMode) → Option (q ≡ p)
is_mode Req.Accept Req.Accept = Some refl
is_mode Req.Short Req.Short = Some refl
is_mode Req.EndReq Req.EndReq = Some refl
is_mode Req.BeginResp Req.BeginResp = Some refl
is_mode Req.Complete Req.Complete = Some refl
is_mode _ _ = None

pub accept_short : ¬ (Req.Short ≡ Req.Accept)
accept_short q = cc

pub accept_end_req : ¬ (Req.EndReq ≡ Req.Accept)
accept_end_req q = cc

pub accept_begin_resp : ¬ (Req.BeginResp ≡ Req.Accept)
accept_begin_resp q = cc

pub accept_complete : ¬ (Req.Complete ≡ Req.Accept)
accept_complete q = cc

-- a fact that is wanted only in the mode `accept`
abbrev pub guard_accept : {A : Type 0} → (r : ReqMode) → Option A → Option (r ≡ Req.Accept → A)
guard_accept Req.Accept None = None
guard_accept Req.Accept (Some x) = Some (λ q. x)
guard_accept Req.Short o = Some (λ q. absurd (accept_short q))
guard_accept Req.EndReq o = Some (λ q. absurd (accept_end_req q))
guard_accept Req.BeginResp o = Some (λ q. absurd (accept_begin_resp q))
guard_accept Req.Complete o = Some (λ q. absurd (accept_complete q))

-- the first element of a list that passes
abbrev find_by : (P : Event → Type 0) (e : Event) (l : List Event) → Option (P e) → Option (Finds (Among l) P) → Option (Finds (Among (e ∷ l)) P)
find_by P e l (Some q) rest = Some (record { event = e; known = inl refl; is = q })
find_by P e l None None = None
find_by P e l None (Some f) = Some (record { event = f.event; known = inr f.known; is = f.is })

abbrev pub find : (P : Event → Type 0) → ((e : Event) → Option (P e)) → (l : List Event) → Option (Finds (Among l) P)
find P f [] = None
find P f (e ∷ l) = find_by P e l (f e) (find P f l)

-- the first one at this time
abbrev pub find_at : (P : Event → Type 0) → ((e : Event) → Option (P e)) → (t : ℕ) → (l : List Event) → Option (FindsAt (Among l) P t)
find_at P f t l =
    bind (find (λ e. P e × (e.time ≡ t)) (λ e. bind (f e) (λ a. bind (same_nat e.time t) (λ q. Some (a, q)))) l)
    (λ g. Some (record { event = g.event; known = g.known; is = g.is.0; time = g.is.1 }))

-- a fact of each element with those before it
abbrev each_by : {X : Type 0} → (P : List X → X → Type 0) (before : List X) (x : X) (xs : List X) → Option (P before x) → Option (EachFrom P (before ++ x ∷ []) xs) → Option (EachFrom P before (x ∷ xs))
each_by P before x xs None rest = None
each_by P before x xs (Some a) None = None
each_by P before x xs (Some a) (Some r) = Some (a, r)

abbrev pub each_from : {X : Type 0} → (P : List X → X → Type 0) → ((before : List X) (x : X) → Option (P before x)) → (before xs : List X) → Option (EachFrom P before xs)
each_from P f before [] = Some tt
each_from P f before (x ∷ xs) = each_by P before x xs (f before x) (each_from P f (before ++ x ∷ []) xs)

abbrev pub each : {X : Type 0} → (P : List X → X → Type 0) → ((before : List X) (x : X) → Option (P before x)) → (xs : List X) → Option (AtEach P xs)
each P f xs = each_from P f [] xs
