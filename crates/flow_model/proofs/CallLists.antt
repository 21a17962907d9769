-- What the proofs read as a list of says is the list of calls of the hop's own words; so are the sequences.
use Rattle.std.proofs.Common.{◌≡◌, ℕ, zero, suc, List, [], ◌∷◌, ◌++◌, Some, None, true, false, Bool, cond, eq-eqb, refl, ap, sym, ◌∙◌, subst, inl, inr, map}
use Rattle.std.specs.Prelude.{slice_get}
use Rattle.std.specs.List.{cons_option}
use Rattle.tlm_types.specs.declared.words.ObjectNo.{ObjectNo}
use Rattle.tlm_types.specs.declared.words.ObjectNo.TheVariants.{Hop}
use Rattle.tlm_types.specs.declared.words.TxnId.{TxnId}
use Rattle.tlm_types.specs.declared.words.ReqMode.{ReqMode}
use Rattle.tlm_types.specs.declared.words.ReqMode.TheVariants.{Accept, Short, EndReq as AtOnce, BeginResp as WithResponse, Complete}
use Rattle.tlm_types.specs.declared.words.RespMode.{RespMode}
use Rattle.tlm_types.specs.declared.words.RespMode.TheVariants.{Accept as Accepts, EndResp as Ends, Complete as Completes}
use Rattle.tlm_types.specs.declared.entry.Entry.{Entry}
use Rattle.tlm_types.specs.declared.entry.What.{What}
use Rattle.tlm_types.specs.declared.entry.What.TheVariants.{Call as Called}
use Rattle.tlm_model.specs.History.{is_object, entries_at}
use Rattle.base_phases.specs.Sequences.{Call, IsBegun, IsSequence, sequences}
use Rattle.flow_model.specs.Calls.{calls_in, calls_of}
use Rattle.flow_model.specs.Table.{IsBegunIn, sequences_of}
use Rattle.flow_model.specs.Events.{Event, Among, at, entries, hop_log}
use Rattle.flow_model.proofs.Forms.{Saying, says, said_by, sayings, is_txn, eleven, rows, IsPrefix, IsPrefixOf, IsOneOf}
use Rattle.flow_model.proofs.Splits.{from_at}
use Rattle.flow_model.proofs.Sayings.{sayings-at}

-- the entries of an object, of events and of entries
pub entries-at : (o : ObjectNo) (h : List Event) → entries_at o (entries h) ≡ entries (at o h)
entries-at o [] = refl
entries-at o (e ∷ h) = go (is_object o e.object) (entries-at o h)
  where
    go : (b : Bool) → entries_at o (entries h) ≡ entries (at o h) → cond b (e.entry ∷ entries_at o (entries h)) (entries_at o (entries h)) ≡ entries (cond b (e ∷ at o h) (at o h))
    go true q = ap (λ (l : List Entry). e.entry ∷ l) q
    go false q = q

unfoldable pub call_of : Saying → Call
call_of s = (s.phase, s.answer)

unfoldable pub calls : List Saying → List Call
calls cs = map call_of cs

abbrev AllAt : ℕ → List Event → Type 0
AllAt o [] = Unit {0}
AllAt o (e ∷ h) = (e.object ≡ Hop o) × AllAt o h

all_at : (o : ℕ) (h : List Event) → ((e : Event) → Among h e → e.object ≡ Hop o) → AllAt o h
all_at o [] f = tt
all_at o (e ∷ h) f = (f e (inl refl), all_at o h (λ g m. f g (inr m)))

-- the calls of a list of events of a hop
calls_of_all : (x : TxnId) (o : ℕ) (h : List Event) → AllAt o h → calls_of x (entries h) ≡ calls (sayings x o h)
unfolding calls call_of
calls_of_all x o [] a = refl
calls_of_all x o (e ∷ h) a = go (is_txn x e.txn) e.what (calls_of_all x o h a.1) ∙ ap (λ (d : ObjectNo). calls (cons_option (cond (is_txn x e.txn) (said_by o d e.what) None) (sayings x o h))) (sym a.0)
  where
    here : (w : What) → calls_of x (entries h) ≡ calls (sayings x o h) → calls_in w ++ calls_of x (entries h) ≡ calls (cons_option (said_by o (Hop o) w) (sayings x o h))
    here (Called p a) q =
        ap (λ (l : List Call). (p, a) ∷ l) q
        ∙ ap (λ (b : Bool). calls (cons_option (cond b (Some (says p a)) None) (sayings x o h))) (sym (eq-eqb o o refl))
    here _ q = q

    go : (b : Bool) (w : What) → calls_of x (entries h) ≡ calls (sayings x o h) → cond b (calls_in w) [] ++ calls_of x (entries h) ≡ calls (cons_option (cond b (said_by o (Hop o) w) None) (sayings x o h))
    go true w q = here w q
    go false w q = q

pub calls_in_log : (x : TxnId) (o : ℕ) (h : List Event) → ((e : Event) → Among h e → e.object ≡ Hop o) → calls_of x (entries h) ≡ calls (sayings x o h)
calls_in_log x o h f = calls_of_all x o h (all_at o h f)

-- the calls of x on a hop
pub calls_at : (x : TxnId) (o : ℕ) (h : List Event) → calls_of x (hop_log o h) ≡ calls (sayings x o h)
calls_at x o h =
    ap (calls_of x) (entries-at (Hop o) h)
    ∙ (calls_in_log x o (at (Hop o) h) (λ e m. (from_at (Hop o) h e m).mine)
    ∙ ap calls (sayings-at x o h))

pub same_says : (c s : Saying) → call_of c ≡ call_of s → c ≡ s
unfolding call_of
same_says c s q = let p : c.phase ≡ s.phase = ap (λ (d : Call). d.0) q in let a : c.answer ≡ s.answer = ap (λ (d : Call). d.1) q in λ i. record { phase = p i; answer = a i }

-- the sequences, as lists of calls
unfoldable pub all_calls : List (List Saying) → List (List Call)
all_calls ss = map calls ss

some_list : (a b : List Call) → Some a ≡ Some b → a ≡ b
some_list a b q = cc

prefix_of_calls : (cs s : List Saying) (rest : List Call) → calls s ≡ calls cs ++ rest → IsPrefix cs s
unfolding calls
prefix_of_calls [] s rest q = tt
prefix_of_calls (c ∷ cs) [] rest q = cc
prefix_of_calls (c ∷ cs) (s ∷ ss) rest q =
    (same_says c s (sym (head_same (call_of s) (call_of c) (calls ss) (calls cs ++ rest) q)), prefix_of_calls cs ss rest (tail_same (call_of s) (call_of c) (calls ss) (calls cs ++ rest) q))
  where
    head_same : (a b : Call) (m n : List Call) → a ∷ m ≡ b ∷ n → a ≡ b
    head_same a b m n q = cc

    tail_same : (a b : Call) (m n : List Call) → a ∷ m ≡ b ∷ n → m ≡ n
    tail_same a b m n q = cc

pub prefix_from : (ss : List (List Saying)) (k : ℕ) (cs : List Saying) (rest : List Call) → slice_get (all_calls ss) k ≡ Some (calls cs ++ rest) → IsPrefixOf ss cs
unfolding all_calls
prefix_from [] k cs rest q = cc
prefix_from (s ∷ ss) zero cs rest q = inl (prefix_of_calls cs s rest (some_list (calls s) (calls cs ++ rest) q))
prefix_from (s ∷ ss) (suc k) cs rest q = inr (prefix_from ss k cs rest q)

pub record Rest (cs s : List Saying) : Type 0 where
  pub rest : List Call
  pub is : calls s ≡ calls cs ++ rest

rest_of : (cs s : List Saying) → IsPrefix cs s → Rest cs s
unfolding calls
rest_of [] s p = record { rest = calls s; is = refl }
rest_of (c ∷ cs) [] p = absurd p
rest_of (c ∷ cs) (s ∷ ss) p =
    let r = rest_of cs ss p.1 in
    let h : c ≡ s = p.0 in
    record { rest = r.rest; is = ap (λ (d : Saying). call_of d ∷ calls ss) (sym h) ∙ ap (λ (l : List Call). call_of c ∷ l) r.is }

pub prefix_to : (ss : List (List Saying)) (cs : List Saying) → IsPrefixOf ss cs → IsBegunIn (all_calls ss) (calls cs)
unfolding all_calls
prefix_to [] cs p = absurd p
prefix_to (s ∷ ss) cs (inl p) = let r = rest_of cs s p in (zero, r.rest, ap Some r.is)
prefix_to (s ∷ ss) cs (inr p) = let r = prefix_to ss cs p in (suc r.0, r.1, r.2)

pub one_to : (ss : List (List Saying)) (cs : List Saying) → IsOneOf ss cs → Among (all_calls ss) (calls cs)
unfolding all_calls
one_to [] cs p = absurd p
one_to (s ∷ ss) cs (inl q) = inl (ap calls (sym q))
one_to (s ∷ ss) cs (inr p) = inr (one_to ss cs p)

pub sequences_are : sequences ≡ all_calls eleven
unfolding all_calls calls call_of
sequences_are = refl

pub rows_are : (row : ReqMode) (resp : RespMode) → sequences_of row resp ≡ all_calls (rows row resp)
unfolding all_calls calls call_of
rows_are Accept Accepts = refl
rows_are Accept Ends = refl
rows_are Accept Completes = refl
rows_are Short Accepts = refl
rows_are Short Ends = refl
rows_are Short Completes = refl
rows_are AtOnce Accepts = refl
rows_are AtOnce Ends = refl
rows_are AtOnce Completes = refl
rows_are WithResponse Accepts = refl
rows_are WithResponse Ends = refl
rows_are WithResponse Completes = refl
rows_are Complete resp = refl

-- a prefix of one of the eleven, in the words of each
pub begun_says : (cs : List Saying) → IsBegun (calls cs) → IsPrefixOf eleven cs
begun_says cs b = prefix_from eleven b.0 cs b.1 (subst (λ (l : List (List Call)). slice_get l b.0 ≡ Some (calls cs ++ b.1)) sequences_are b.2)

pub one_slice : (ss : List (List Saying)) (cs : List Saying) → IsOneOf ss cs → (k : ℕ) × (slice_get (all_calls ss) k ≡ Some (calls cs))
unfolding all_calls
one_slice [] cs p = absurd p
one_slice (s ∷ ss) cs (inl q) = (zero, ap (λ (l : List Saying). Some (calls l)) (sym q))
one_slice (s ∷ ss) cs (inr p) = let r = one_slice ss cs p in (suc r.0, r.1)

-- one of the eleven, in the words of each
pub whole_says : (cs : List Saying) → IsOneOf eleven cs → IsSequence (calls cs)
whole_says cs p = subst (λ (l : List (List Call)). (k : ℕ) × (slice_get l k ≡ Some (calls cs))) (sym sequences_are) (one_slice eleven cs p)
