-- A mark by the board is one by the log.
use Rattle.std.proofs.Common.{◌≡◌, ℕ, ◌≤◌, List, [], ◌∷◌, ◌++◌, Bool, true, false, cond, refl, sym, ◌∙◌, ap, arith, subst, append_assoc}
use Rattle.std.proofs.lemmas.List.{map-append}
use Rattle.tlm_types.specs.declared.words.Phase.TheVariants as Phases
use Rattle.tlm_types.specs.declared.words.TlmSync.{TlmSync}
use Rattle.tlm_types.specs.declared.words.TxnId.{TxnId}
use Rattle.tlm_types.specs.declared.entry.Entry.{Entry}
use Rattle.tlm_types.specs.declared.entry.What.{What}
use Rattle.tlm_types.specs.declared.entry.What.TheVariants as Whats
use Rattle.tlm_model.specs.Each.{AtEach, EachFrom}
use Rattle.tlm_model.specs.Requests.{is_txn}
use Rattle.flow_model.specs.Answers.{is_requested}
use Rattle.flow_model.specs.Board.{Board, Open, Reaches, Rules, StepsBy, start}
use Rattle.flow_model.specs.Calls.{calls_of, has_open_request}
use Rattle.flow_model.specs.Lives.{of_txn}
use Rattle.flow_model.specs.Protocol.{BeginsOnce}
use Rattle.flow_model.proofs.CallLemmas.{agrees, few_lanes, once_before}
use Rattle.flow_model.proofs.FlagLemmas.{open_request}
use Rattle.flow_model.proofs.LaneLemmas.{has, held, in_place, state_in}
use Rattle.flow_model.proofs.RuleLemmas.{same_self}
use Rattle.flow_model.proofs.StepLemmas.{reaches_push}
use Rattle.flow_model.specs.Events.{Event, entries}
use Rattle.flow_model.specs.Marked.{MarkedBy, ReachesMarked}

module _ (r : Rules) where
  tells : (before : List Event) (e : Event) (b c : Board) → Reaches r start (entries before) b → BeginsOnce (entries before) → (v : What) (m : StepsBy r b e.entry v c) → MarkedBy r b e v c m
      → (a : TlmSync) → v ≡ Whats.Call Phases.BeginResp a → e.number ≡ 1 → has_open_request e.txn (entries before) ≡ true
  tells before e b c there once (Whats.Call Phases.BeginResp a) m mark d q n =
      open_request (calls_of e.txn (entries before)) (state_in (of_txn e.txn) b.lanes) (agrees r (entries before) b there once e.txn)
      ∙ (ap is_requested place.2 ∙ by_mark (is_requested m.lane.state) (sym mark ∙ n))
    where
      mine : has (of_txn e.txn) m.lane ≡ true
      mine = subst (λ (y : TxnId). is_txn e.txn.initiator e.txn.seq y ≡ true) (sym m.txn) (same_self e.txn)

      few : held (of_txn e.txn) b.lanes ≤ 1
      few =
          let h = few_lanes r (entries before) b there e.txn in
          let o = once.once e.txn in
          omega (arith, h, o)

      place : (held (of_txn e.txn) m.before ≡ 0) × (held (of_txn e.txn) m.behind ≡ 0) × (state_in (of_txn e.txn) b.lanes ≡ m.lane.state)
      place =
          subst (λ (l : List Open). (held (of_txn e.txn) m.before ≡ 0) × (held (of_txn e.txn) m.behind ≡ 0) × (state_in (of_txn e.txn) l ≡ m.lane.state)) (sym m.here)
          (in_place (of_txn e.txn) m.before m.lane m.behind mine (subst (λ (l : List Open). held (of_txn e.txn) l ≤ 1) m.here few))

      by_mark : (u : Bool) → cond {A = ℕ} u 1 0 ≡ 1 → u ≡ true
      by_mark true t = refl
      by_mark false t = cc
  tells before e b c there once (Whats.Call Phases.BeginReq a) m mark d q n = cc
  tells before e b c there once (Whats.Call Phases.EndReq a) m mark d q n = cc
  tells before e b c there once (Whats.Call Phases.EndResp a) m mark d q n = cc
  tells before e b c there once (Whats.Access way access status got) m mark d q n = cc
  tells before e b c there once (Whats.Granted g f l k) m mark d q n = cc
  tells before e b c there once (Whats.Invalidated f l) m mark d q n = cc
  tells before e b c there once (Whats.Closed g) m mark d q n = cc
  tells before e b c there once (Whats.Take k) m mark d q n = cc
  tells before e b c there once (Whats.Acquire k) m mark d q n = cc
  tells before e b c there once (Whats.Release k f) m mark d q n = cc

  tell_from : (es before : List Event) (b d : Board) → Reaches r start (entries before) b → ReachesMarked r b es d → BeginsOnce (entries (before ++ es)) →
      EachFrom (λ before e. (a : TlmSync) → e.what ≡ Whats.Call Phases.BeginResp a → e.number ≡ 1 → has_open_request e.txn (entries before) ≡ true) before es
  tell_from [] before b d there q once = tt
  tell_from (e ∷ es) before b d there q once = (
    tells before e b q.0 there (once_before (entries before) (entries (e ∷ es)) (subst BeginsOnce (map-append (λ (f : Event). f.entry) before (e ∷ es)) once)) e.what q.1.steps q.1.marked,
    tell_from es (before ++ e ∷ []) q.0 d
        (subst (λ (l : List Entry). Reaches r start l q.0) (sym (map-append (λ (f : Event). f.entry) before (e ∷ []))) (reaches_push r (entries before) start b e.entry q.0 there q.1.steps))
        q.2 (subst (λ (l : List Event). BeginsOnce (entries l)) (sym (append_assoc before (e ∷ []) es)) once),
  )

pub marks_tell : (r : Rules) (log : List Event) (d : Board) → ReachesMarked r start log d → BeginsOnce (entries log) → AtEach (λ before e. (a : TlmSync) → e.what ≡ Whats.Call Phases.BeginResp a → e.number ≡ 1 → has_open_request e.txn (entries before) ≡ true) log
marks_tell r log d q once = tell_from r log [] start d refl q once
