-- Histories that have all premises but one, and miss a conclusion.
use Rattle.std.proofs.Common.{◌≡◌, ℕ, zero, suc, ◌<◌, ◌^◌, List, [], ◌∷◌, Some, true, refl, ap, ◌∙◌, arith, inl, inr, lit<}
use Rattle.std.specs.Prelude.{slice_get}
use Rattle.tlm_types.specs.declared.words.ObjectNo.{ObjectNo}
use Rattle.tlm_types.specs.declared.words.ObjectNo.TheVariants.{Memory, Hop, Pool}
use Rattle.tlm_types.specs.declared.words.Phase.{Phase}
use Rattle.tlm_types.specs.declared.words.Phase.TheVariants.{BeginReq, EndReq, BeginResp, EndResp}
use Rattle.tlm_types.specs.declared.words.TlmSync.{TlmSync}
use Rattle.tlm_types.specs.declared.words.TlmSync.TheVariants.{Accepted, Updated, Completed}
use Rattle.tlm_types.specs.declared.words.Way.{Way}
use Rattle.tlm_types.specs.declared.words.Response.{Response}
use Rattle.tlm_types.specs.declared.entry.Access.{Access}
use Rattle.tlm_types.specs.declared.entry.What.TheVariants.{Access as Accessed, Call, Take, Acquire}
use Rattle.tlm_model.specs.Route.{later}
use Rattle.flow_model.specs.Events.{Among, Event, IsPhase, entries, numbered}
use Rattle.flow_model.specs.Numbers.{NumberOf}
use Rattle.flow_model.specs.Points.{HasTable, IsTimed}
use Rattle.flow_check.specs.Premises.{HasLogs, four_slots, issued_at, late, late_world, looping, looping_world}
use Rattle.flow_check.specs.Worked.{acquire, call, take, written}
use Rattle.flow_check.proofs.Decide.{found}
use Rattle.flow_check.proofs.DecidePremises.{logs_of, tested}

places : List ObjectNo
places = Hop 0 ∷ Pool 0 ∷ Memory 0 ∷ []

pub late_logs : HasLogs late_world four_slots (issued_at (2 ^ 64)) late
unfolding late_world late places
late_logs = logs_of _ _ _ places late (found (tested late_world four_slots (issued_at (2 ^ 64)) places late) refl)

pub looping_logs : HasLogs looping_world four_slots (issued_at 0) looping
unfolding looping_world looping places
looping_logs = logs_of _ _ _ places looping (found (tested looping_world four_slots (issued_at 0) places looping) refl)

second : {X : Type 0} (a b c d : X) (m n : List X) → a ∷ b ∷ m ≡ c ∷ d ∷ n → b ≡ d
second a b c d m n q = cc

pub looping_wrong : ¬ HasTable looping_world (entries looping)
unfolding looping_world looping
looping_wrong t = go (t (record { initiator = 0; seq = 0 }) _ refl 1 (lit< tt)).0 (t (record { initiator = 0; seq = 0 }) _ refl 1 (lit< tt)).1 (t (record { initiator = 0; seq = 0 }) _ refl 1 (lit< tt)).2
  where
    apart : ◌≡◌ {A = Phase} BeginResp EndReq → ⊥
    apart q = cc

    some_same : (a b : List (Phase × TlmSync)) → Some a ≡ Some b → a ≡ b
    some_same a b q = cc

    row : List (Phase × TlmSync)
    row = (BeginReq, Accepted) ∷ (BeginResp, Accepted) ∷ (EndResp, Completed) ∷ []

    go : (k : ℕ) (rest : List (Phase × TlmSync)) → slice_get (((BeginReq, Accepted) ∷ (BeginResp, Accepted) ∷ (EndResp, Completed) ∷ []) ∷ []) k ≡ Some ((BeginReq, Accepted) ∷ (EndReq, Accepted) ∷ rest) → ⊥
    go zero rest q = apart (ap (λ (z : Phase × TlmSync). z.0) (second _ _ _ _ _ _ (some_same _ _ q)))
    go (suc k) rest q = cc

no_response : (e : Event) → Among (numbered (entries (take 0 (2 ^ 64) ∷ acquire 1 (2 ^ 64) 0 ∷ call 2 0 (2 ^ 64) BeginReq (Updated BeginResp) ∷ written 3 (2 ^ 64) ∷ []))) e → ¬ IsPhase (record { initiator = 0; seq = 0 }) 0 BeginResp e
no_response e (inl q) i = take_no_call 0 BeginResp i.answer (ap (λ (d : Event). d.what) q ∙ i.call.what)
  where
    take_no_call : (s : ℕ) (p : Phase) (a : TlmSync) → Take s ≡ Call p a → ⊥
    take_no_call s p a q = cc
no_response e (inr (inl q)) i = acquire_no_call 0 BeginResp i.answer (ap (λ (d : Event). d.what) q ∙ i.call.what)
  where
    acquire_no_call : (s : ℕ) (p : Phase) (a : TlmSync) → Acquire s ≡ Call p a → ⊥
    acquire_no_call s p a q = cc
no_response e (inr (inr (inl q))) i = other (Updated BeginResp) i.answer (ap (λ (d : Event). d.what) q ∙ i.call.what)
  where
    other : (a b : TlmSync) → Call BeginReq a ≡ Call BeginResp b → ⊥
    other a b q = cc
no_response e (inr (inr (inr (inl q)))) i = access_no_call _ _ _ _ BeginResp i.answer (ap (λ (d : Event). d.what) q ∙ i.call.what)
  where
    access_no_call : (way : Way) (access : Access) (status : Response) (got : List ℕ) (p : Phase) (a : TlmSync) → Accessed way access status got ≡ Call p a → ⊥
    access_no_call way access status got p a q = cc
no_response e (inr (inr (inr (inr q)))) i = q

too_late : (hop number : ℕ) → hop < 1 → NumberOf late_world (Among (numbered (entries (take 0 (2 ^ 64) ∷ acquire 1 (2 ^ 64) 0 ∷ call 2 0 (2 ^ 64) BeginReq (Updated BeginResp) ∷ written 3 (2 ^ 64) ∷ [])))) (record { initiator = 0; seq = 0 }) (record { hops = 0 ∷ []; routed = true }) hop EndResp number → ¬ (2 ^ 64 ≡ number)
unfolding late_world
too_late zero number below (inl f) q = no_response f.event f.known f.is
too_late zero number below (inr f) q =
    let s : number ≡ later f.1.req 10 = f.1.sum in
    omega arith
too_late (suc hop) number below n q = omega arith

pub late_wrong : ¬ IsTimed late_world (issued_at (2 ^ 64)) (numbered (entries late))
unfolding late_world late
late_wrong t = too_late t.1.1.1.1.0.hop t.1.1.1.1.0.number t.1.1.1.1.0.below t.1.1.1.1.0.is_number t.1.1.1.1.0.time
