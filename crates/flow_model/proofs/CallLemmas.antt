-- The calls of a transaction in a log, and where its lanes leave it.
use Rattle.std.proofs.Common.{◌≡◌, ◌≤◌, false, cond, List, [], ◌∷◌, ◌++◌, Some, refl, sym, ap, ◌∙◌, subst, arith, append_assoc}
use Rattle.std.specs.List.{count_by}
use Rattle.tlm_types.specs.declared.words.TxnId.{TxnId}
use Rattle.tlm_types.specs.declared.entry.Entry.{Entry}
use Rattle.tlm_model.specs.Each.{EachFrom, AtEach}
use Rattle.base_phases.specs.Sequences.{Call, IsSequence}
use Rattle.base_phases.specs.Walks.{is_begin, state_after}
use Rattle.base_phases.proofs.WalkLemmas.{begins-append, begun, whole}
use Rattle.flow_model.specs.Board.{Board, Rules, Steps, Reaches, start}
use Rattle.flow_model.specs.Calls.{calls_in, calls_of, is_of}
use Rattle.flow_model.specs.Lives.{calls_on, has_lane, of_txn}
use Rattle.flow_model.specs.Protocol.{BeginsOnce, FollowsPhases}
use Rattle.flow_model.proofs.LaneLemmas.{held, none_any, state_in}
use Rattle.flow_model.proofs.StepLemmas.{held_walk, reaches_push, walk}

-- a transaction's calls are those on its lanes
own_calls : (x : TxnId) (r : Rules) (es : List Entry) (b d : Board) (h : Reaches r b es d) → calls_on (of_txn x) r b es d h ≡ calls_of x es
own_calls x r [] b d h = refl
own_calls x r (e ∷ es) b d h = ap (λ (cs : List Call). cond (is_of x e) (calls_in e.what) [] ++ cs) (own_calls x r es h.0 d h.2)

-- it has no more lanes than BEGIN_REQs
pub few_lanes : (r : Rules) (log : List Entry) (d : Board) → Reaches r start log d → (x : TxnId) → held (of_txn x) d.lanes ≤ count_by is_begin (calls_of x log)
few_lanes r log d h x = let n = ap (count_by is_begin) (own_calls x r log start d h) in let w = held_walk (of_txn x) r log start d h in omega arith

-- its calls leave it in the state of its lane
pub agrees : (r : Rules) (log : List Entry) (d : Board) → Reaches r start log d → BeginsOnce log → (x : TxnId) → state_after (calls_of x log) ≡ Some (state_in (of_txn x) d.lanes)
agrees r log d h once x =
    let same = own_calls x r log start d h in
    let n = ap (count_by is_begin) same in
    let o = once.once x in
    sym (ap state_after same) ∙ walk (of_txn x) r log start d h (omega arith)

pub follows : (r : Rules) (log : List Entry) (d : Board) → Reaches r start log d → BeginsOnce log → FollowsPhases log
follows r log d h once = λ x. begun (calls_of x log) (state_in (of_txn x) d.lanes) (agrees r log d h once x) (once.once x)

pub ended_whole : (r : Rules) (log : List Entry) (d : Board) → Reaches r start log d → BeginsOnce log → (x : TxnId) → has_lane (of_txn x) d ≡ false → ¬ (calls_of x log ≡ []) → IsSequence (calls_of x log)
ended_whole r log d h once x none some_call = whole (calls_of x log) (agrees r log d h once x ∙ ap Some (none_any (of_txn x) d.lanes none)) (once.once x) some_call

pub calls-append : (x : TxnId) (ps bs : List Entry) → calls_of x (ps ++ bs) ≡ calls_of x ps ++ calls_of x bs
calls-append x [] bs = refl
calls-append x (a ∷ ps) bs = ap (λ (cs : List Call). cond (is_of x a) (calls_in a.what) [] ++ cs) (calls-append x ps bs) ∙ sym (append_assoc (cond (is_of x a) (calls_in a.what) []) (calls_of x ps) (calls_of x bs))

-- where no transaction begins twice, none does in what stands before
pub once_before : (ps bs : List Entry) → BeginsOnce (ps ++ bs) → BeginsOnce ps
once_before ps bs o = record { once = λ x. fewer x }
  where
    fewer : (x : TxnId) → count_by is_begin (calls_of x ps) ≤ 1
    fewer x = let e = ap (count_by is_begin) (calls-append x ps bs) in let f = begins-append (calls_of x ps) (calls_of x bs) in let h = o.once x in omega arith

-- what a step gives at its entry holds at each entry of a log
module _ (r : Rules) (P : List Entry → Entry → Type 0) (one : (before : List Entry) (e : Entry) (b c : Board) → Reaches r start before b → Steps r b e c → BeginsOnce (before ++ e ∷ []) → P before e) where
  each_from : (es before : List Entry) (b d : Board) → Reaches r start before b → Reaches r b es d → BeginsOnce (before ++ es) → EachFrom P before es
  each_from [] before b d there h once = tt
  each_from (e ∷ es) before b d there h once =
      let again : (before ++ e ∷ []) ++ es ≡ before ++ e ∷ es = append_assoc before (e ∷ []) es in
      let all : BeginsOnce ((before ++ e ∷ []) ++ es) = subst (λ (l : List Entry). BeginsOnce l) (sym again) once in
      (one before e b h.0 there h.1 (once_before (before ++ e ∷ []) es all), each_from es (before ++ e ∷ []) h.0 d (reaches_push r before start b e h.0 there h.1) h.2 all)

  pub at_each : (log : List Entry) (d : Board) → Reaches r start log d → BeginsOnce log → AtEach P log
  at_each log d h once = each_from log [] start d refl h once
