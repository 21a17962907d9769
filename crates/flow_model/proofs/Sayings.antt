-- The calls of a transaction on a hop, as entries and as what they say.
use Rattle.std.proofs.Common.{◌≡◌, ℕ, List, [], ◌∷◌, ◌++◌, Option, Some, None, true, false, Bool, cond, nat_eq, eq-eqb, refl, ap, sym, ◌∙◌, subst, ◌⊎◌, inl, inr, ◌&&◌}
use Rattle.std.specs.List.{cons_option}
use Rattle.std.proofs.lemmas.List.Elements.{filter_map-append}
use Rattle.std.proofs.lemmas.Bool.{eqb-true}
use Rattle.tlm_types.specs.declared.words.ObjectNo.{ObjectNo}
use Rattle.tlm_types.specs.declared.words.ObjectNo.TheVariants.{Hop}
use Rattle.tlm_types.specs.declared.words.Phase.{Phase}
use Rattle.tlm_types.specs.declared.words.TlmSync.{TlmSync}
use Rattle.tlm_types.specs.declared.words.TxnId.{TxnId}
use Rattle.tlm_types.specs.declared.entry.What.{What}
use Rattle.tlm_types.specs.declared.entry.What.TheVariants.{Call}
use Rattle.tlm_model.specs.History.{is_object}
use Rattle.flow_model.specs.Events.{Event, Among, Finds, IsCall, at}
use Rattle.flow_model.proofs.Forms.{Saying, says, said, said_by, sayings, is_txn, IsPrefix, IsPrefixOf}

abbrev pub In : List Saying → Saying → Type 0
In [] s = ⊥
In (c ∷ cs) s = (c ≡ s) ⊎ In cs s

pub in_left : (a b : List Saying) (s : Saying) → In a s → In (a ++ b) s
in_left [] b s m = absurd m
in_left (c ∷ a) b s (inl q) = inl q
in_left (c ∷ a) b s (inr m) = inr (in_left a b s m)

pub and_left : (a b : Bool) → (a && b) ≡ true → a ≡ true
and_left true b q = refl
and_left false b q = q

pub and_right : (a b : Bool) → (a && b) ≡ true → b ≡ true
and_right true b q = q
and_right false b q = cc

pub is_txn_self : (x : TxnId) → is_txn x x ≡ true
is_txn_self x = ap (λ (b : Bool). b && nat_eq x.seq x.seq) (eq-eqb x.initiator x.initiator refl) ∙ eq-eqb x.seq x.seq refl

pub same_txn : (x y : TxnId) → is_txn x y ≡ true → y ≡ x
same_txn x y q =
    let p : y.initiator ≡ x.initiator = eqb-true y.initiator x.initiator (and_left (nat_eq y.initiator x.initiator) (nat_eq y.seq x.seq) q) in
    let r : y.seq ≡ x.seq = eqb-true y.seq x.seq (and_right (nat_eq y.initiator x.initiator) (nat_eq y.seq x.seq) q) in
    λ i. record { initiator = p i; seq = r i }

-- a call says its phase and answer
pub said_call : (x : TxnId) (o : ℕ) (p : Phase) (a : TlmSync) (e : Event) → IsCall x o p a e → said x o e ≡ Some (says p a)
said_call x o p a e c =
    ap (λ (y : TxnId). cond (is_txn x y) (said_by o e.object e.what) None) c.txn
    ∙ (ap (λ (d : ObjectNo). cond (is_txn x x) (said_by o d e.what) None) c.object
    ∙ (ap (λ (v : What). cond (is_txn x x) (said_by o (Hop o) v) None) c.what
    ∙ (ap (λ (b : Bool). cond b (cond (nat_eq o o) (Some (says p a)) None) None) (is_txn_self x)
    ∙ ap (λ (b : Bool). cond b (Some (says p a)) None) (eq-eqb o o refl))))

some_same : {X : Type 0} (a b : X) → Some a ≡ Some b → a ≡ b
some_same a b q = cc

pub call_said : (x : TxnId) (o : ℕ) (e : Event) (s : Saying) → said x o e ≡ Some s → IsCall x o s.phase s.answer e
call_said x o e s q = by_txn (is_txn x e.txn) refl q
  where
    by_hop : is_txn x e.txn ≡ true → (n : ℕ) → e.object ≡ Hop n → (p : Phase) (a : TlmSync) → e.what ≡ Call p a → (b : Bool) → nat_eq n o ≡ b → cond b (Some (says p a)) None ≡ Some s → IsCall x o s.phase s.answer e
    by_hop t n d p a v true m r =
        let same : says p a ≡ s = some_same (says p a) s r in
        record {
          object = d ∙ ap Hop (eqb-true n o m);
          txn = same_txn x e.txn t;
          what = v ∙ ap (λ (c : Saying). Call c.phase c.answer) same;
        }
    by_hop t n d p a v false m r = cc

    by_parts : is_txn x e.txn ≡ true → (d : ObjectNo) → e.object ≡ d → (v : What) → e.what ≡ v → said_by o d v ≡ Some s → IsCall x o s.phase s.answer e
    by_parts t (Hop n) d (Call p a) v r = by_hop t n d p a v (nat_eq n o) refl r
    by_parts t _ d _ v r = cc

    by_txn : (b : Bool) → is_txn x e.txn ≡ b → cond b (said_by o e.object e.what) None ≡ Some s → IsCall x o s.phase s.answer e
    by_txn true t r = by_parts t e.object refl e.what refl r
    by_txn false t r = cc

-- what x says up to a call of x, and with it
pub sayings-split : (x : TxnId) (o : ℕ) (h before after : List Event) (e : Event) (p : Phase) (a : TlmSync) → h ≡ before ++ e ∷ after → IsCall x o p a e → sayings x o h ≡ sayings x o before ++ says p a ∷ sayings x o after
sayings-split x o h before after e p a q c =
    ap (sayings x o) q
    ∙ (filter_map-append (said x o) before (e ∷ after)
    ∙ ap (λ (r : Option Saying). sayings x o before ++ cons_option r (sayings x o after)) (said_call x o p a e c))

-- an entry that is a call of x is said, and what is said is a call's
pub said_in : (x : TxnId) (o : ℕ) (h : List Event) (e : Event) (p : Phase) (a : TlmSync) → Among h e → IsCall x o p a e → In (sayings x o h) (says p a)
said_in x o [] e p a m c = absurd m
said_in x o (f ∷ h) e p a (inl q) c =
    let c' : IsCall x o p a f = subst (λ (g : Event). IsCall x o p a g) (sym q) c in
    subst (λ (r : Option Saying). In (cons_option r (sayings x o h)) (says p a)) (sym (said_call x o p a f c')) (inl refl)
said_in x o (f ∷ h) e p a (inr m) c = more (said x o f) (said_in x o h e p a m c)
  where
    more : (r : Option Saying) → In (sayings x o h) (says p a) → In (cons_option r (sayings x o h)) (says p a)
    more None i = i
    more (Some s) i = inr i

pub in_said : (x : TxnId) (o : ℕ) (h : List Event) (p : Phase) (a : TlmSync) → In (sayings x o h) (says p a) → Finds (Among h) (IsCall x o p a)
in_said x o [] p a m = absurd m
in_said x o (f ∷ h) p a m = go (λ (i : In (sayings x o h) (says p a)). onward (in_said x o h p a i)) (said x o f) refl m
  where
    onward : Finds (Among h) (IsCall x o p a) → Finds (Among (f ∷ h)) (IsCall x o p a)
    onward g = record { event = g.event; known = inr g.known; is = g.is }

    go : (In (sayings x o h) (says p a) → Finds (Among (f ∷ h)) (IsCall x o p a)) → (r : Option Saying) → said x o f ≡ r → In (cons_option r (sayings x o h)) (says p a) → Finds (Among (f ∷ h)) (IsCall x o p a)
    go k None q i = k i
    go k (Some s) q (inl r) =
        let c : IsCall x o s.phase s.answer f = call_said x o f s q in
        record { event = f; known = inl refl; is = subst (λ (u : Saying). IsCall x o u.phase u.answer f) r c }
    go k (Some s) q (inr i) = k i

-- the log of a hop says what the history says
pub sayings-at : (x : TxnId) (o : ℕ) (h : List Event) → sayings x o (at (Hop o) h) ≡ sayings x o h
sayings-at x o [] = refl
sayings-at x o (e ∷ h) = go (is_object (Hop o) e.object) refl ∙ ap (cons_option (said x o e)) (sayings-at x o h)
  where
    silent : (d : ObjectNo) (v : What) → is_object (Hop o) d ≡ false → None ≡ said_by o d v
    silent (Hop n) (Call p a) q = ap (λ (b : Bool). cond b (Some (says p a)) None) (sym q)
    silent (Hop n) _ q = refl
    silent _ _ q = refl

    still : (b : Bool) (r : Option Saying) → None ≡ r → None ≡ cond b r None
    still true r q = q
    still false r q = refl

    go : (b : Bool) → is_object (Hop o) e.object ≡ b → sayings x o (cond b (e ∷ at (Hop o) h) (at (Hop o) h)) ≡ cons_option (said x o e) (sayings x o (at (Hop o) h))
    go true q = refl
    go false q = ap (λ (r : Option Saying). cons_option r (sayings x o (at (Hop o) h))) (still (is_txn x e.txn) (said_by o e.object e.what) (silent e.object e.what q))

-- a part from the front of a prefix is one
pub prefix_front : (a b s : List Saying) → IsPrefix (a ++ b) s → IsPrefix a s
prefix_front [] b s p = tt
prefix_front (c ∷ a) b [] p = p
prefix_front (c ∷ a) b (d ∷ s) p = (p.0, prefix_front a b s p.1)

pub prefix_of_front : (ss : List (List Saying)) (a b : List Saying) → IsPrefixOf ss (a ++ b) → IsPrefixOf ss a
prefix_of_front [] a b p = p
prefix_of_front (s ∷ ss) a b (inl p) = inl (prefix_front a b s p)
prefix_of_front (s ∷ ss) a b (inr p) = inr (prefix_of_front ss a b p)
