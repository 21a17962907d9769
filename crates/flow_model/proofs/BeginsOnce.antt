-- Where the calls on a hop are no more than a whole sequence for each transaction, none begins twice.
use Rattle.std.proofs.Common.{◌≡◌, ℕ, suc, ◌+◌, ◌≤◌, List, [], ◌∷◌, ◌++◌, length, Option, Some, None, true, false, Bool, cond, refl, ap, sym, ◌∙◌, arith, subst, ◌⊎◌, inl, inr}
use Rattle.std.specs.List.{cons_option}
use Rattle.tlm_types.specs.declared.words.ObjectNo.TheVariants.{Hop}
use Rattle.tlm_types.specs.declared.words.Phase.{Phase}
use Rattle.tlm_types.specs.declared.words.Phase.TheVariants.{BeginReq, EndReq, BeginResp, EndResp}
use Rattle.tlm_types.specs.declared.words.TlmSync.{TlmSync}
use Rattle.tlm_types.specs.declared.words.TlmSync.TheVariants.{Accepted, Updated, Completed}
use Rattle.tlm_types.specs.declared.words.TxnId.{TxnId}
use Rattle.tlm_types.specs.declared.words.RespMode.TheVariants.{Accept as Accepts, EndResp as Ends, Complete as Completes}
use Rattle.flow_model.specs.Events.{Event, Among, at}
use Rattle.flow_model.proofs.Counting.{counting}
use Rattle.flow_model.proofs.Forms.{Saying, says, said_by, sayings, is_txn, eleven, completed, with_response, at_once, accepted, short, one_if, own_count, AllDiffer, AllKnown, HasSequence, sum_over}
use Rattle.flow_model.proofs.Sayings.{In, same_txn, is_txn_self}
use Rattle.std.specs.List.{count_by}
use Rattle.base_phases.specs.Walks.{is_begin as is_begin_call}
use Rattle.base_phases.proofs.WalkLemmas.{begins-cons}
use Rattle.flow_model.proofs.CallLists.{call_of, calls}

pub is_begin : Phase → Bool
is_begin BeginReq = true
is_begin EndReq = false
is_begin BeginResp = false
is_begin EndResp = false

pub begins : List Saying → ℕ
begins [] = 0
begins (s ∷ l) = one_if (is_begin s.phase) + begins l

begins-append : (a b : List Saying) → begins (a ++ b) ≡ begins a + begins b
unfolding begins
begins-append [] b = omega arith
begins-append (s ∷ a) b = let r : begins (a ++ b) ≡ begins a + begins b = begins-append a b in omega arith

begins-in : (l : List Saying) (a : TlmSync) → In l (says BeginReq a) → 1 ≤ begins l
unfolding begins is_begin
begins-in [] a m = absurd m
begins-in (s ∷ l) a (inl q) =
    let r : one_if (is_begin s.phase) ≡ 1 = ap (λ (u : Saying). one_if (is_begin u.phase)) q in
    omega arith
begins-in (s ∷ l) a (inr m) = let r : 1 ≤ begins l = begins-in l a m in omega arith

-- a list around one of its says
record Around (l : List Saying) (s : Saying) : Type 0 where
  left : List Saying
  right : List Saying
  is : l ≡ left ++ s ∷ right

around : (l : List Saying) (s : Saying) → Among l s → Around l s
around [] s m = absurd m
around (c ∷ l) s (inl q) = record { left = []; right = l; is = ap (λ (u : Saying). u ∷ l) q }
around (c ∷ l) s (inr m) = let r = around l s m in record { left = c ∷ r.left; right = r.right; is = ap (λ (k : List Saying). c ∷ k) r.is }

stands-without : (a b : List Saying) (s t : Saying) → Among (a ++ s ∷ b) t → ¬ (s ≡ t) → Among (a ++ b) t
stands-without [] b s t (inl q) d = absurd (d q)
stands-without [] b s t (inr m) d = m
stands-without (c ∷ a) b s t (inl q) d = inl q
stands-without (c ∷ a) b s t (inr m) d = inr (stands-without a b s t m d)

length-without : (a b : List Saying) (s : Saying) → length (a ++ s ∷ b) ≡ suc (length (a ++ b))
length-without [] b s = refl
length-without (c ∷ a) b s = ap suc (length-without a b s)

begins-without : (a b : List Saying) (s : Saying) → begins (a ++ s ∷ b) ≡ one_if (is_begin s.phase) + begins (a ++ b)
unfolding begins
begins-without [] b s = refl
begins-without (c ∷ a) b s = let r : begins (a ++ s ∷ b) ≡ one_if (is_begin s.phase) + begins (a ++ b) = begins-without a b s in omega arith

-- a list that holds different says has at least their number
holds_all : (ss cs : List Saying) → AllDiffer ss → ((s : Saying) → Among ss s → Among cs s) → length ss ≤ length cs
holds_all [] cs d f = omega arith
holds_all (s ∷ ss) cs d f =
    let r = around cs s (f s (inl refl)) in
    let g : length ss ≤ length (r.left ++ r.right) = holds_all ss (r.left ++ r.right) d.1
    (λ t m. stands-without r.left r.right s t (subst (λ (k : List Saying). Among k t) r.is (f t (inr m))) (λ q. d.0 (subst (λ (u : Saying). Among ss u) (sym q) m))) in
    let l : length cs ≡ suc (length (r.left ++ r.right)) = ap length r.is ∙ length-without r.left r.right s in
    omega arith

-- and where it has no more, as many BEGIN_REQs
same_begins : (ss cs : List Saying) → AllDiffer ss → ((s : Saying) → Among ss s → Among cs s) → length cs ≤ length ss → begins cs ≡ begins ss
unfolding begins
same_begins [] [] d f l = refl
same_begins [] (c ∷ cs) d f l = absurd (omega arith)
same_begins (s ∷ ss) cs d f l =
    let r = around cs s (f s (inl refl)) in
    let n : length cs ≡ suc (length (r.left ++ r.right)) = ap length r.is ∙ length-without r.left r.right s in
    let g : begins (r.left ++ r.right) ≡ begins ss = same_begins ss (r.left ++ r.right) d.1
    (λ t m. stands-without r.left r.right s t (subst (λ (k : List Saying). Among k t) r.is (f t (inr m))) (λ q. d.0 (subst (λ (u : Saying). Among ss u) (sym q) m)))
    (omega arith) in
    let b : begins cs ≡ one_if (is_begin s.phase) + begins (r.left ++ r.right) = ap begins r.is ∙ begins-without r.left r.right s in
    omega arith

differ : (s : Saying) (t : Saying) → ¬ (s.phase ≡ t.phase) → ¬ (s ≡ t)
differ s t d q = d (ap (λ (u : Saying). u.phase) q)

-- says of other phases do not hold s
abbrev Others : Saying → List Saying → Type 0
Others s [] = Unit {0}
Others s (t ∷ l) = (¬ (t.phase ≡ s.phase)) × Others s l

none_of : (s : Saying) (l : List Saying) → Others s l → ¬ Among l s
none_of s [] o m = m
none_of s (t ∷ l) o (inl q) = o.0 (ap (λ (u : Saying). u.phase) q)
none_of s (t ∷ l) o (inr m) = none_of s l o.1 m

-- each of the eleven has different says, and one BEGIN_REQ
record Once (s : List Saying) : Type 0 where
  differ : AllDiffer s
  one : begins s ≡ 1

once_1 : Once completed
unfolding begins is_begin
once_1 = record { differ = (none_of (says BeginReq Completed) ([]) tt, tt); one = refl }

once_2 : Once with_response
unfolding begins is_begin
once_2 = record { differ = (none_of (says BeginReq (Updated BeginResp)) (says EndResp Completed ∷ []) (λ q. cc, tt), (none_of (says EndResp Completed) ([]) tt, tt)); one = refl }

once_3 : Once (at_once Accepts)
unfolding begins is_begin
once_3 = record { differ = (none_of (says BeginReq (Updated EndReq)) (says BeginResp Accepted ∷ says EndResp Completed ∷ []) (λ q. cc, (λ q. cc, tt)), (none_of (says BeginResp Accepted) (says EndResp Completed ∷ []) (λ q. cc, tt), (none_of (says EndResp Completed) ([]) tt, tt))); one = refl }

once_4 : Once (at_once Ends)
unfolding begins is_begin
once_4 = record { differ = (none_of (says BeginReq (Updated EndReq)) (says BeginResp (Updated EndResp) ∷ []) (λ q. cc, tt), (none_of (says BeginResp (Updated EndResp)) ([]) tt, tt)); one = refl }

once_5 : Once (at_once Completes)
unfolding begins is_begin
once_5 = record { differ = (none_of (says BeginReq (Updated EndReq)) (says BeginResp Completed ∷ []) (λ q. cc, tt), (none_of (says BeginResp Completed) ([]) tt, tt)); one = refl }

once_6 : Once (accepted Accepts)
unfolding begins is_begin
once_6 = record { differ = (none_of (says BeginReq Accepted) (says EndReq Accepted ∷ says BeginResp Accepted ∷ says EndResp Completed ∷ []) (λ q. cc, (λ q. cc, (λ q. cc, tt))), (none_of (says EndReq Accepted) (says BeginResp Accepted ∷ says EndResp Completed ∷ []) (λ q. cc, (λ q. cc, tt)), (none_of (says BeginResp Accepted) (says EndResp Completed ∷ []) (λ q. cc, tt), (none_of (says EndResp Completed) ([]) tt, tt)))); one = refl }

once_7 : Once (accepted Ends)
unfolding begins is_begin
once_7 = record { differ = (none_of (says BeginReq Accepted) (says EndReq Accepted ∷ says BeginResp (Updated EndResp) ∷ []) (λ q. cc, (λ q. cc, tt)), (none_of (says EndReq Accepted) (says BeginResp (Updated EndResp) ∷ []) (λ q. cc, tt), (none_of (says BeginResp (Updated EndResp)) ([]) tt, tt))); one = refl }

once_8 : Once (accepted Completes)
unfolding begins is_begin
once_8 = record { differ = (none_of (says BeginReq Accepted) (says EndReq Accepted ∷ says BeginResp Completed ∷ []) (λ q. cc, (λ q. cc, tt)), (none_of (says EndReq Accepted) (says BeginResp Completed ∷ []) (λ q. cc, tt), (none_of (says BeginResp Completed) ([]) tt, tt))); one = refl }

once_9 : Once (short Accepts)
unfolding begins is_begin
once_9 = record { differ = (none_of (says BeginReq Accepted) (says BeginResp Accepted ∷ says EndResp Completed ∷ []) (λ q. cc, (λ q. cc, tt)), (none_of (says BeginResp Accepted) (says EndResp Completed ∷ []) (λ q. cc, tt), (none_of (says EndResp Completed) ([]) tt, tt))); one = refl }

once_10 : Once (short Ends)
unfolding begins is_begin
once_10 = record { differ = (none_of (says BeginReq Accepted) (says BeginResp (Updated EndResp) ∷ []) (λ q. cc, tt), (none_of (says BeginResp (Updated EndResp)) ([]) tt, tt)); one = refl }

once_11 : Once (short Completes)
unfolding begins is_begin
once_11 = record { differ = (none_of (says BeginReq Accepted) (says BeginResp Completed ∷ []) (λ q. cc, tt), (none_of (says BeginResp Completed) ([]) tt, tt)); one = refl }

once : (s : List Saying) → Among eleven s → Once s
once s m0 = elim m0 [ inl q ↦ subst Once q once_1 | inr m1 ↦ elim m1 [ inl q ↦ subst Once q once_2 | inr m2 ↦ elim m2 [ inl q ↦ subst Once q once_3 | inr m3 ↦ elim m3 [ inl q ↦ subst Once q once_4 | inr m4 ↦ elim m4 [ inl q ↦ subst Once q once_5 | inr m5 ↦ elim m5 [ inl q ↦ subst Once q once_6 | inr m6 ↦ elim m6 [ inl q ↦ subst Once q once_7 | inr m7 ↦ elim m7 [ inl q ↦ subst Once q once_8 | inr m8 ↦ elim m8 [ inl q ↦ subst Once q once_9 | inr m9 ↦ elim m9 [ inl q ↦ subst Once q once_10 | inr m10 ↦ elim m10 [ inl q ↦ subst Once q once_11 | inr m11 ↦ absurd m11 ] ] ] ] ] ] ] ] ] ] ]

-- the calls of x are among its entries
said_count : (x : TxnId) (o : ℕ) (l : List Event) → length (sayings x o l) ≤ own_count x l
said_count x o [] = omega arith
said_count x o (e ∷ l) = go (said_count x o l) (is_txn x e.txn) (said_by o e.object e.what)
  where
    go : length (sayings x o l) ≤ own_count x l → (b : Bool) (r : Option Saying) → length (cons_option (cond b r None) (sayings x o l)) ≤ one_if b + own_count x l
    go h true None = omega arith
    go h true (Some s) = omega arith
    go h false r = omega arith

begins-few : (l : List Saying) → begins l ≤ length l
unfolding begins
begins-few [] = omega arith
begins-few (s ∷ l) = go (is_begin s.phase) (begins-few l)
  where
    go : (b : Bool) → begins l ≤ length l → one_if b + begins l ≤ suc (length l)
    go true h = omega arith
    go false h = omega arith

dec_stands : (xs : List TxnId) (y : TxnId) → Among xs y ⊎ ¬ Among xs y
dec_stands [] y = inr (λ m. m)
dec_stands (x ∷ xs) y = go (dec_stands xs y) (is_txn x y) refl
  where
    go : Among xs y ⊎ ¬ Among xs y → (b : Bool) → is_txn x y ≡ b → Among (x ∷ xs) y ⊎ ¬ Among (x ∷ xs) y
    go r true q = inl (inl (sym (same_txn x y q)))
    go (inl m) false q = inl (inr m)
    go (inr d) false q = inr (λ m. elim m [ inl s ↦ clash (sym (subst (λ (z : TxnId). is_txn x z ≡ true) s (is_txn_self x)) ∙ q) | inr n ↦ d n ])
      where
        clash : ◌≡◌ {A = Bool} true false → ⊥
        clash z = cc

pub one_begin : (o : ℕ) (h : List Event) (xs : List TxnId) (spent : TxnId → ℕ) → AllDiffer xs →
    ((x : TxnId) → Among xs x → HasSequence o (at (Hop o) h) x (spent x)) → length (at (Hop o) h) ≤ sum_over spent xs → (y : TxnId) → begins (sayings y o (at (Hop o) h)) ≤ 1
one_begin o h xs spent d known few y = elim (dec_stands xs y) [
  | inl m ↦ (
      let k = known y m in
      let n = once k.sequence k.is in
      let own : own_count y log ≡ spent y = all.own y m in
      let size : length (sayings y o log) ≤ own_count y log = said_count y o log in
      let long : length k.sequence ≡ spent y = k.long in
      let same : begins (sayings y o log) ≡ begins k.sequence = same_begins k.sequence (sayings y o log) n.differ k.all (omega arith) in
      let one : begins k.sequence ≡ 1 = n.one in
      omega arith)
  | inr z ↦ (
      let none : own_count y log ≡ 0 = all.none y z in
      let size : length (sayings y o log) ≤ own_count y log = said_count y o log in
      let low : begins (sayings y o log) ≤ length (sayings y o log) = begins-few (sayings y o log) in
      omega arith)
]
  where
    log : List Event
    log = at (Hop o) h

    enough : (x : TxnId) → Among xs x → spent x ≤ own_count x (at (Hop o) h)
    enough x m =
        let k = known x m in
        let n = once k.sequence k.is in
        let a : length k.sequence ≤ length (sayings x o (at (Hop o) h)) = holds_all k.sequence (sayings x o (at (Hop o) h)) n.differ k.all in
        let b : length (sayings x o (at (Hop o) h)) ≤ own_count x (at (Hop o) h) = said_count x o (at (Hop o) h) in
        let c : length k.sequence ≡ spent x = k.long in
        omega arith

    all : AllKnown xs spent (at (Hop o) h)
    all = counting xs spent (at (Hop o) h) d enough few

counted_begin : (s : Saying) → cond {A = ℕ} (is_begin_call (call_of s)) 1 0 ≡ one_if (is_begin s.phase)
unfolding is_begin call_of
counted_begin s = by_phase s.phase
  where
    by_phase : (p : Phase) → cond {A = ℕ} (is_begin_call (p, s.answer)) 1 0 ≡ one_if (is_begin p)
    by_phase BeginReq = refl
    by_phase EndReq = refl
    by_phase BeginResp = refl
    by_phase EndResp = refl

-- the same number over the calls
pub begins_calls : (cs : List Saying) → count_by is_begin_call (calls cs) ≡ begins cs
unfolding begins calls
begins_calls [] = refl
begins_calls (s ∷ cs) =
    begins-cons (call_of s) (calls cs)
    ∙ (ap (λ (n : ℕ). n + count_by is_begin_call (calls cs)) (counted_begin s)
    ∙ ap (λ (n : ℕ). one_if (is_begin s.phase) + n) (begins_calls cs))
