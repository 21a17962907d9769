-- Each way to have come through the eleven sequences: what stands before a call, and the row of the table that fits.
use Rattle.std.proofs.Common.{◌≡◌, List, [], ◌∷◌, ◌++◌, Option, Some, None, refl, ap, sym, ◌∙◌, subst, ◌⊎◌, inl, inr}
use Rattle.tlm_types.specs.declared.words.Phase.{Phase}
use Rattle.tlm_types.specs.declared.words.Phase.TheVariants.{BeginReq, EndReq, BeginResp, EndResp}
use Rattle.tlm_types.specs.declared.words.TlmSync.{TlmSync}
use Rattle.tlm_types.specs.declared.words.TlmSync.TheVariants.{Accepted, Updated, Completed}
use Rattle.tlm_types.specs.declared.words.ReqMode.{ReqMode}
use Rattle.tlm_types.specs.declared.words.ReqMode.TheVariants.{Accept, Short, EndReq as AtOnce, BeginResp as WithResponse, Complete}
use Rattle.tlm_types.specs.declared.words.RespMode.{RespMode}
use Rattle.tlm_types.specs.declared.words.RespMode.TheVariants.{Accept as Accepts, EndResp as Ends, Complete as Completes}
use Rattle.flow_model.specs.Answers.{response_answer}
use Rattle.flow_model.proofs.Forms.{Saying, says, IsPrefix, IsPrefixOf, eleven, completed, with_response, at_once, accepted, short, rows}
use Rattle.flow_model.proofs.Sayings.{In}

pub data Node : Type 0 where
  nothing : Node
  done : Node
  brought : Node
  brought_ended : Node
  once : Node
  once_open : Node
  once_open_ended : Node
  once_ended : Node
  once_done : Node
  asked : Node
  taken : Node
  taken_open : Node
  taken_open_ended : Node
  taken_ended : Node
  taken_done : Node
  short_open : Node
  short_open_ended : Node
  short_ended : Node
  short_done : Node

abbrev pub path : Node → List Saying
path nothing = []
path done = says BeginReq Completed ∷ []
path brought = says BeginReq (Updated BeginResp) ∷ []
path brought_ended = says BeginReq (Updated BeginResp) ∷ says EndResp Completed ∷ []
path once = says BeginReq (Updated EndReq) ∷ []
path once_open = says BeginReq (Updated EndReq) ∷ says BeginResp Accepted ∷ []
path once_open_ended = says BeginReq (Updated EndReq) ∷ says BeginResp Accepted ∷ says EndResp Completed ∷ []
path once_ended = says BeginReq (Updated EndReq) ∷ says BeginResp (Updated EndResp) ∷ []
path once_done = says BeginReq (Updated EndReq) ∷ says BeginResp Completed ∷ []
path asked = says BeginReq Accepted ∷ []
path taken = says BeginReq Accepted ∷ says EndReq Accepted ∷ []
path taken_open = says BeginReq Accepted ∷ says EndReq Accepted ∷ says BeginResp Accepted ∷ []
path taken_open_ended = says BeginReq Accepted ∷ says EndReq Accepted ∷ says BeginResp Accepted ∷ says EndResp Completed ∷ []
path taken_ended = says BeginReq Accepted ∷ says EndReq Accepted ∷ says BeginResp (Updated EndResp) ∷ []
path taken_done = says BeginReq Accepted ∷ says EndReq Accepted ∷ says BeginResp Completed ∷ []
path short_open = says BeginReq Accepted ∷ says BeginResp Accepted ∷ []
path short_open_ended = says BeginReq Accepted ∷ says BeginResp Accepted ∷ says EndResp Completed ∷ []
path short_ended = says BeginReq Accepted ∷ says BeginResp (Updated EndResp) ∷ []
path short_done = says BeginReq Accepted ∷ says BeginResp Completed ∷ []

pub record Walked (cs : List Saying) : Type 0 where
  pub node : Node
  pub is : cs ≡ path node

from_1 : (cs : List Saying) → IsPrefix cs completed → Walked cs
from_1 ([]) p = record { node = nothing; is = refl }
from_1 (c ∷ []) p = record { node = done; is = (λ i. p.0 i ∷ []) }
from_1 (c ∷ d ∷ cs) p = absurd p.1

from_2 : (cs : List Saying) → IsPrefix cs with_response → Walked cs
from_2 ([]) p = record { node = nothing; is = refl }
from_2 (c ∷ []) p = record { node = brought; is = (λ i. p.0 i ∷ []) }
from_2 (c ∷ d ∷ []) p = record { node = brought_ended; is = (λ i. p.0 i ∷ p.1.0 i ∷ []) }
from_2 (c ∷ d ∷ e ∷ cs) p = absurd p.1.1

from_3 : (cs : List Saying) → IsPrefix cs (at_once Accepts) → Walked cs
from_3 ([]) p = record { node = nothing; is = refl }
from_3 (c ∷ []) p = record { node = once; is = (λ i. p.0 i ∷ []) }
from_3 (c ∷ d ∷ []) p = record { node = once_open; is = (λ i. p.0 i ∷ p.1.0 i ∷ []) }
from_3 (c ∷ d ∷ e ∷ []) p = record { node = once_open_ended; is = (λ i. p.0 i ∷ p.1.0 i ∷ p.1.1.0 i ∷ []) }
from_3 (c ∷ d ∷ e ∷ f ∷ cs) p = absurd p.1.1.1

from_4 : (cs : List Saying) → IsPrefix cs (at_once Ends) → Walked cs
from_4 ([]) p = record { node = nothing; is = refl }
from_4 (c ∷ []) p = record { node = once; is = (λ i. p.0 i ∷ []) }
from_4 (c ∷ d ∷ []) p = record { node = once_ended; is = (λ i. p.0 i ∷ p.1.0 i ∷ []) }
from_4 (c ∷ d ∷ e ∷ cs) p = absurd p.1.1

from_5 : (cs : List Saying) → IsPrefix cs (at_once Completes) → Walked cs
from_5 ([]) p = record { node = nothing; is = refl }
from_5 (c ∷ []) p = record { node = once; is = (λ i. p.0 i ∷ []) }
from_5 (c ∷ d ∷ []) p = record { node = once_done; is = (λ i. p.0 i ∷ p.1.0 i ∷ []) }
from_5 (c ∷ d ∷ e ∷ cs) p = absurd p.1.1

from_6 : (cs : List Saying) → IsPrefix cs (accepted Accepts) → Walked cs
from_6 ([]) p = record { node = nothing; is = refl }
from_6 (c ∷ []) p = record { node = asked; is = (λ i. p.0 i ∷ []) }
from_6 (c ∷ d ∷ []) p = record { node = taken; is = (λ i. p.0 i ∷ p.1.0 i ∷ []) }
from_6 (c ∷ d ∷ e ∷ []) p = record { node = taken_open; is = (λ i. p.0 i ∷ p.1.0 i ∷ p.1.1.0 i ∷ []) }
from_6 (c ∷ d ∷ e ∷ f ∷ []) p = record { node = taken_open_ended; is = (λ i. p.0 i ∷ p.1.0 i ∷ p.1.1.0 i ∷ p.1.1.1.0 i ∷ []) }
from_6 (c ∷ d ∷ e ∷ f ∷ g ∷ cs) p = absurd p.1.1.1.1

from_7 : (cs : List Saying) → IsPrefix cs (accepted Ends) → Walked cs
from_7 ([]) p = record { node = nothing; is = refl }
from_7 (c ∷ []) p = record { node = asked; is = (λ i. p.0 i ∷ []) }
from_7 (c ∷ d ∷ []) p = record { node = taken; is = (λ i. p.0 i ∷ p.1.0 i ∷ []) }
from_7 (c ∷ d ∷ e ∷ []) p = record { node = taken_ended; is = (λ i. p.0 i ∷ p.1.0 i ∷ p.1.1.0 i ∷ []) }
from_7 (c ∷ d ∷ e ∷ f ∷ cs) p = absurd p.1.1.1

from_8 : (cs : List Saying) → IsPrefix cs (accepted Completes) → Walked cs
from_8 ([]) p = record { node = nothing; is = refl }
from_8 (c ∷ []) p = record { node = asked; is = (λ i. p.0 i ∷ []) }
from_8 (c ∷ d ∷ []) p = record { node = taken; is = (λ i. p.0 i ∷ p.1.0 i ∷ []) }
from_8 (c ∷ d ∷ e ∷ []) p = record { node = taken_done; is = (λ i. p.0 i ∷ p.1.0 i ∷ p.1.1.0 i ∷ []) }
from_8 (c ∷ d ∷ e ∷ f ∷ cs) p = absurd p.1.1.1

from_9 : (cs : List Saying) → IsPrefix cs (short Accepts) → Walked cs
from_9 ([]) p = record { node = nothing; is = refl }
from_9 (c ∷ []) p = record { node = asked; is = (λ i. p.0 i ∷ []) }
from_9 (c ∷ d ∷ []) p = record { node = short_open; is = (λ i. p.0 i ∷ p.1.0 i ∷ []) }
from_9 (c ∷ d ∷ e ∷ []) p = record { node = short_open_ended; is = (λ i. p.0 i ∷ p.1.0 i ∷ p.1.1.0 i ∷ []) }
from_9 (c ∷ d ∷ e ∷ f ∷ cs) p = absurd p.1.1.1

from_10 : (cs : List Saying) → IsPrefix cs (short Ends) → Walked cs
from_10 ([]) p = record { node = nothing; is = refl }
from_10 (c ∷ []) p = record { node = asked; is = (λ i. p.0 i ∷ []) }
from_10 (c ∷ d ∷ []) p = record { node = short_ended; is = (λ i. p.0 i ∷ p.1.0 i ∷ []) }
from_10 (c ∷ d ∷ e ∷ cs) p = absurd p.1.1

from_11 : (cs : List Saying) → IsPrefix cs (short Completes) → Walked cs
from_11 ([]) p = record { node = nothing; is = refl }
from_11 (c ∷ []) p = record { node = asked; is = (λ i. p.0 i ∷ []) }
from_11 (c ∷ d ∷ []) p = record { node = short_done; is = (λ i. p.0 i ∷ p.1.0 i ∷ []) }
from_11 (c ∷ d ∷ e ∷ cs) p = absurd p.1.1

pub walked : (cs : List Saying) → IsPrefixOf eleven cs → Walked cs
walked cs q0 = elim q0 [ inl p ↦ from_1 cs p | inr q1 ↦ elim q1 [ inl p ↦ from_2 cs p | inr q2 ↦ elim q2 [ inl p ↦ from_3 cs p | inr q3 ↦ elim q3 [ inl p ↦ from_4 cs p | inr q4 ↦ elim q4 [ inl p ↦ from_5 cs p | inr q5 ↦ elim q5 [ inl p ↦ from_6 cs p | inr q6 ↦ elim q6 [ inl p ↦ from_7 cs p | inr q7 ↦ elim q7 [ inl p ↦ from_8 cs p | inr q8 ↦ elim q8 [ inl p ↦ from_9 cs p | inr q9 ↦ elim q9 [ inl p ↦ from_10 cs p | inr q10 ↦ elim q10 [ inl p ↦ from_11 cs p | inr q11 ↦ absurd q11 ] ] ] ] ] ] ] ] ] ] ]

-- one of these lists
abbrev pub OneOf : List (List Saying) → List Saying → Type 0
OneOf [] cs = ⊥
OneOf (l ∷ ls) cs = (cs ≡ l) ⊎ OneOf ls cs

-- what may stand before a call of this phase
abbrev pub before_call : Phase → List (List Saying)
before_call BeginReq = ([]) ∷ []
before_call EndReq = (says BeginReq Accepted ∷ []) ∷ []
before_call BeginResp = (says BeginReq Accepted ∷ []) ∷ (says BeginReq (Updated EndReq) ∷ []) ∷ (says BeginReq Accepted ∷ says EndReq Accepted ∷ []) ∷ []
before_call EndResp = (says BeginReq (Updated BeginResp) ∷ []) ∷ (says BeginReq (Updated EndReq) ∷ says BeginResp Accepted ∷ []) ∷ (says BeginReq Accepted ∷ says EndReq Accepted ∷ says BeginResp Accepted ∷ []) ∷ (says BeginReq Accepted ∷ says BeginResp Accepted ∷ []) ∷ []

-- the answers of END_REQ and END_RESP
abbrev pub Answers : Phase → TlmSync → Type 0
Answers BeginReq a = Unit {0}
Answers EndReq a = a ≡ Accepted
Answers BeginResp a = Unit {0}
Answers EndResp a = a ≡ Completed

front : List Saying → List Saying
front [] = []
front (c ∷ []) = []
front (c ∷ d ∷ cs) = c ∷ front (d ∷ cs)

back : List Saying → Option Saying
back [] = None
back (c ∷ []) = Some c
back (c ∷ d ∷ cs) = back (d ∷ cs)

front_push : (cs : List Saying) (c : Saying) → front (cs ++ c ∷ []) ≡ cs
unfolding front
front_push [] c = refl
front_push (d ∷ []) c = refl
front_push (d ∷ e ∷ cs) c = ap (λ (l : List Saying). d ∷ l) (front_push (e ∷ cs) c)

back_push : (cs : List Saying) (c : Saying) → back (cs ++ c ∷ []) ≡ Some c
unfolding back
back_push [] c = refl
back_push (d ∷ []) c = refl
back_push (d ∷ e ∷ cs) c = back_push (e ∷ cs) c

abbrev pub Facts : List Saying → Option Saying → Type 0
Facts cs None = Unit {0}
Facts cs (Some c) = OneOf (before_call c.phase) cs × Answers c.phase c.answer

facts : (n : Node) → Facts (front (path n)) (back (path n))
unfolding front back
facts nothing = tt
facts done = (inl refl, tt)
facts brought = (inl refl, tt)
facts brought_ended = (inl refl, refl)
facts once = (inl refl, tt)
facts once_open = (inr (inl refl), tt)
facts once_open_ended = (inr (inl refl), refl)
facts once_ended = (inr (inl refl), tt)
facts once_done = (inr (inl refl), tt)
facts asked = (inl refl, tt)
facts taken = (inl refl, refl)
facts taken_open = (inr (inr (inl refl)), tt)
facts taken_open_ended = (inr (inr (inl refl)), refl)
facts taken_ended = (inr (inr (inl refl)), tt)
facts taken_done = (inr (inr (inl refl)), tt)
facts short_open = (inl refl, tt)
facts short_open_ended = (inr (inr (inr (inl refl))), refl)
facts short_ended = (inl refl, tt)
facts short_done = (inl refl, tt)

-- what stands before a call
pub next_call : (cs : List Saying) (p : Phase) (a : TlmSync) → IsPrefixOf eleven (cs ++ says p a ∷ []) → OneOf (before_call p) cs × Answers p a
next_call cs p a q =
    let w = walked (cs ++ says p a ∷ []) q in
    let f : cs ≡ front (path w.node) = sym (front_push cs (says p a)) ∙ ap front w.is in
    let b : Some (says p a) ≡ back (path w.node) = sym (back_push cs (says p a)) ∙ ap back w.is in
    subst (λ (r : Option Saying). Facts cs r) (sym b) (subst (λ (l : List Saying). Facts l (back (path w.node))) (sym f) (facts w.node))

-- the answers of BEGIN_REQ by the row
abbrev pub RowAnswer : ReqMode → TlmSync → Type 0
RowAnswer Accept a = a ≡ Accepted
RowAnswer Short a = a ≡ Accepted
RowAnswer AtOnce a = a ≡ Updated EndReq
RowAnswer Complete a = a ≡ Completed
RowAnswer WithResponse a = (a ≡ Updated BeginResp) ⊎ (a ≡ Updated EndReq)

-- the calls agree with the row of the callee and the answer of the caller
pub record Fits (row : ReqMode) (resp : RespMode) (cs : List Saying) : Type 0 where
  pub begin_req : (a : TlmSync) → In cs (says BeginReq a) → RowAnswer row a
  pub end_req : (a : TlmSync) → In cs (says EndReq a) → row ≡ Accept
  pub begin_resp : (a : TlmSync) → In cs (says BeginResp a) → a ≡ response_answer resp
  pub has_end_req : (a : TlmSync) → In cs (says BeginResp a) → row ≡ Accept → (b : TlmSync) × In cs (says EndReq b)

pub fitting : (n : Node) (row : ReqMode) (resp : RespMode) → Fits row resp (path n) → IsPrefixOf (rows row resp) (path n)
fitting nothing Complete resp f = inl tt
fitting nothing WithResponse resp f = inl tt
fitting nothing AtOnce resp f = inl tt
fitting nothing Accept resp f = inl tt
fitting nothing Short resp f = inl tt
fitting done Complete resp f = inl (refl, tt)
fitting done WithResponse resp f = elim (f.begin_req Completed (inl refl)) [ inl q ↦ cc | inr q ↦ cc ]
fitting done AtOnce resp f = cc (f.begin_req Completed (inl refl))
fitting done Accept resp f = cc (f.begin_req Completed (inl refl))
fitting done Short resp f = cc (f.begin_req Completed (inl refl))
fitting brought Complete resp f = cc (f.begin_req (Updated BeginResp) (inl refl))
fitting brought WithResponse resp f = inl (refl, tt)
fitting brought AtOnce resp f = cc (f.begin_req (Updated BeginResp) (inl refl))
fitting brought Accept resp f = cc (f.begin_req (Updated BeginResp) (inl refl))
fitting brought Short resp f = cc (f.begin_req (Updated BeginResp) (inl refl))
fitting brought_ended Complete resp f = cc (f.begin_req (Updated BeginResp) (inl refl))
fitting brought_ended WithResponse resp f = inl (refl, (refl, tt))
fitting brought_ended AtOnce resp f = cc (f.begin_req (Updated BeginResp) (inl refl))
fitting brought_ended Accept resp f = cc (f.begin_req (Updated BeginResp) (inl refl))
fitting brought_ended Short resp f = cc (f.begin_req (Updated BeginResp) (inl refl))
fitting once Complete resp f = cc (f.begin_req (Updated EndReq) (inl refl))
fitting once WithResponse resp f = inr (inl (refl, tt))
fitting once AtOnce resp f = inl (refl, tt)
fitting once Accept resp f = cc (f.begin_req (Updated EndReq) (inl refl))
fitting once Short resp f = cc (f.begin_req (Updated EndReq) (inl refl))
fitting once_open Complete resp f = cc (f.begin_req (Updated EndReq) (inl refl))
fitting once_open WithResponse Accepts f = inr (inl (refl, (refl, tt)))
fitting once_open WithResponse Ends f = cc (f.begin_resp Accepted (inr (inl refl)))
fitting once_open WithResponse Completes f = cc (f.begin_resp Accepted (inr (inl refl)))
fitting once_open AtOnce Accepts f = inl (refl, (refl, tt))
fitting once_open AtOnce Ends f = cc (f.begin_resp Accepted (inr (inl refl)))
fitting once_open AtOnce Completes f = cc (f.begin_resp Accepted (inr (inl refl)))
fitting once_open Accept resp f = cc (f.begin_req (Updated EndReq) (inl refl))
fitting once_open Short resp f = cc (f.begin_req (Updated EndReq) (inl refl))
fitting once_open_ended Complete resp f = cc (f.begin_req (Updated EndReq) (inl refl))
fitting once_open_ended WithResponse Accepts f = inr (inl (refl, (refl, (refl, tt))))
fitting once_open_ended WithResponse Ends f = cc (f.begin_resp Accepted (inr (inl refl)))
fitting once_open_ended WithResponse Completes f = cc (f.begin_resp Accepted (inr (inl refl)))
fitting once_open_ended AtOnce Accepts f = inl (refl, (refl, (refl, tt)))
fitting once_open_ended AtOnce Ends f = cc (f.begin_resp Accepted (inr (inl refl)))
fitting once_open_ended AtOnce Completes f = cc (f.begin_resp Accepted (inr (inl refl)))
fitting once_open_ended Accept resp f = cc (f.begin_req (Updated EndReq) (inl refl))
fitting once_open_ended Short resp f = cc (f.begin_req (Updated EndReq) (inl refl))
fitting once_ended Complete resp f = cc (f.begin_req (Updated EndReq) (inl refl))
fitting once_ended WithResponse Accepts f = cc (f.begin_resp (Updated EndResp) (inr (inl refl)))
fitting once_ended WithResponse Ends f = inr (inl (refl, (refl, tt)))
fitting once_ended WithResponse Completes f = cc (f.begin_resp (Updated EndResp) (inr (inl refl)))
fitting once_ended AtOnce Accepts f = cc (f.begin_resp (Updated EndResp) (inr (inl refl)))
fitting once_ended AtOnce Ends f = inl (refl, (refl, tt))
fitting once_ended AtOnce Completes f = cc (f.begin_resp (Updated EndResp) (inr (inl refl)))
fitting once_ended Accept resp f = cc (f.begin_req (Updated EndReq) (inl refl))
fitting once_ended Short resp f = cc (f.begin_req (Updated EndReq) (inl refl))
fitting once_done Complete resp f = cc (f.begin_req (Updated EndReq) (inl refl))
fitting once_done WithResponse Accepts f = cc (f.begin_resp Completed (inr (inl refl)))
fitting once_done WithResponse Ends f = cc (f.begin_resp Completed (inr (inl refl)))
fitting once_done WithResponse Completes f = inr (inl (refl, (refl, tt)))
fitting once_done AtOnce Accepts f = cc (f.begin_resp Completed (inr (inl refl)))
fitting once_done AtOnce Ends f = cc (f.begin_resp Completed (inr (inl refl)))
fitting once_done AtOnce Completes f = inl (refl, (refl, tt))
fitting once_done Accept resp f = cc (f.begin_req (Updated EndReq) (inl refl))
fitting once_done Short resp f = cc (f.begin_req (Updated EndReq) (inl refl))
fitting asked Complete resp f = cc (f.begin_req Accepted (inl refl))
fitting asked WithResponse resp f = elim (f.begin_req Accepted (inl refl)) [ inl q ↦ cc | inr q ↦ cc ]
fitting asked AtOnce resp f = cc (f.begin_req Accepted (inl refl))
fitting asked Accept resp f = inl (refl, tt)
fitting asked Short resp f = inl (refl, tt)
fitting taken Complete resp f = cc (f.begin_req Accepted (inl refl))
fitting taken WithResponse resp f = elim (f.begin_req Accepted (inl refl)) [ inl q ↦ cc | inr q ↦ cc ]
fitting taken AtOnce resp f = cc (f.begin_req Accepted (inl refl))
fitting taken Accept resp f = inl (refl, (refl, tt))
fitting taken Short resp f = cc (f.end_req Accepted (inr (inl refl)))
fitting taken_open Complete resp f = cc (f.begin_req Accepted (inl refl))
fitting taken_open WithResponse resp f = elim (f.begin_req Accepted (inl refl)) [ inl q ↦ cc | inr q ↦ cc ]
fitting taken_open AtOnce resp f = cc (f.begin_req Accepted (inl refl))
fitting taken_open Accept Accepts f = inl (refl, (refl, (refl, tt)))
fitting taken_open Accept Ends f = cc (f.begin_resp Accepted (inr (inr (inl refl))))
fitting taken_open Accept Completes f = cc (f.begin_resp Accepted (inr (inr (inl refl))))
fitting taken_open Short resp f = cc (f.end_req Accepted (inr (inl refl)))
fitting taken_open_ended Complete resp f = cc (f.begin_req Accepted (inl refl))
fitting taken_open_ended WithResponse resp f = elim (f.begin_req Accepted (inl refl)) [ inl q ↦ cc | inr q ↦ cc ]
fitting taken_open_ended AtOnce resp f = cc (f.begin_req Accepted (inl refl))
fitting taken_open_ended Accept Accepts f = inl (refl, (refl, (refl, (refl, tt))))
fitting taken_open_ended Accept Ends f = cc (f.begin_resp Accepted (inr (inr (inl refl))))
fitting taken_open_ended Accept Completes f = cc (f.begin_resp Accepted (inr (inr (inl refl))))
fitting taken_open_ended Short resp f = cc (f.end_req Accepted (inr (inl refl)))
fitting taken_ended Complete resp f = cc (f.begin_req Accepted (inl refl))
fitting taken_ended WithResponse resp f = elim (f.begin_req Accepted (inl refl)) [ inl q ↦ cc | inr q ↦ cc ]
fitting taken_ended AtOnce resp f = cc (f.begin_req Accepted (inl refl))
fitting taken_ended Accept Accepts f = cc (f.begin_resp (Updated EndResp) (inr (inr (inl refl))))
fitting taken_ended Accept Ends f = inl (refl, (refl, (refl, tt)))
fitting taken_ended Accept Completes f = cc (f.begin_resp (Updated EndResp) (inr (inr (inl refl))))
fitting taken_ended Short resp f = cc (f.end_req Accepted (inr (inl refl)))
fitting taken_done Complete resp f = cc (f.begin_req Accepted (inl refl))
fitting taken_done WithResponse resp f = elim (f.begin_req Accepted (inl refl)) [ inl q ↦ cc | inr q ↦ cc ]
fitting taken_done AtOnce resp f = cc (f.begin_req Accepted (inl refl))
fitting taken_done Accept Accepts f = cc (f.begin_resp Completed (inr (inr (inl refl))))
fitting taken_done Accept Ends f = cc (f.begin_resp Completed (inr (inr (inl refl))))
fitting taken_done Accept Completes f = inl (refl, (refl, (refl, tt)))
fitting taken_done Short resp f = cc (f.end_req Accepted (inr (inl refl)))
fitting short_open Complete resp f = cc (f.begin_req Accepted (inl refl))
fitting short_open WithResponse resp f = elim (f.begin_req Accepted (inl refl)) [ inl q ↦ cc | inr q ↦ cc ]
fitting short_open AtOnce resp f = cc (f.begin_req Accepted (inl refl))
fitting short_open Accept Accepts f = let h = f.has_end_req Accepted (inr (inl refl)) refl in let m0 = h.1 in elim m0 [ inl q ↦ cc (ap (λ (s : Saying). s.phase) q) | inr m1 ↦ elim m1 [ inl q ↦ cc (ap (λ (s : Saying). s.phase) q) | inr m2 ↦ absurd m2 ] ]
fitting short_open Accept Ends f = cc (f.begin_resp Accepted (inr (inl refl)))
fitting short_open Accept Completes f = cc (f.begin_resp Accepted (inr (inl refl)))
fitting short_open Short Accepts f = inl (refl, (refl, tt))
fitting short_open Short Ends f = cc (f.begin_resp Accepted (inr (inl refl)))
fitting short_open Short Completes f = cc (f.begin_resp Accepted (inr (inl refl)))
fitting short_open_ended Complete resp f = cc (f.begin_req Accepted (inl refl))
fitting short_open_ended WithResponse resp f = elim (f.begin_req Accepted (inl refl)) [ inl q ↦ cc | inr q ↦ cc ]
fitting short_open_ended AtOnce resp f = cc (f.begin_req Accepted (inl refl))
fitting short_open_ended Accept Accepts f = let h = f.has_end_req Accepted (inr (inl refl)) refl in let m0 = h.1 in elim m0 [ inl q ↦ cc (ap (λ (s : Saying). s.phase) q) | inr m1 ↦ elim m1 [ inl q ↦ cc (ap (λ (s : Saying). s.phase) q) | inr m2 ↦ elim m2 [ inl q ↦ cc (ap (λ (s : Saying). s.phase) q) | inr m3 ↦ absurd m3 ] ] ]
fitting short_open_ended Accept Ends f = cc (f.begin_resp Accepted (inr (inl refl)))
fitting short_open_ended Accept Completes f = cc (f.begin_resp Accepted (inr (inl refl)))
fitting short_open_ended Short Accepts f = inl (refl, (refl, (refl, tt)))
fitting short_open_ended Short Ends f = cc (f.begin_resp Accepted (inr (inl refl)))
fitting short_open_ended Short Completes f = cc (f.begin_resp Accepted (inr (inl refl)))
fitting short_ended Complete resp f = cc (f.begin_req Accepted (inl refl))
fitting short_ended WithResponse resp f = elim (f.begin_req Accepted (inl refl)) [ inl q ↦ cc | inr q ↦ cc ]
fitting short_ended AtOnce resp f = cc (f.begin_req Accepted (inl refl))
fitting short_ended Accept Accepts f = cc (f.begin_resp (Updated EndResp) (inr (inl refl)))
fitting short_ended Accept Ends f = let h = f.has_end_req (Updated EndResp) (inr (inl refl)) refl in let m0 = h.1 in elim m0 [ inl q ↦ cc (ap (λ (s : Saying). s.phase) q) | inr m1 ↦ elim m1 [ inl q ↦ cc (ap (λ (s : Saying). s.phase) q) | inr m2 ↦ absurd m2 ] ]
fitting short_ended Accept Completes f = cc (f.begin_resp (Updated EndResp) (inr (inl refl)))
fitting short_ended Short Accepts f = cc (f.begin_resp (Updated EndResp) (inr (inl refl)))
fitting short_ended Short Ends f = inl (refl, (refl, tt))
fitting short_ended Short Completes f = cc (f.begin_resp (Updated EndResp) (inr (inl refl)))
fitting short_done Complete resp f = cc (f.begin_req Accepted (inl refl))
fitting short_done WithResponse resp f = elim (f.begin_req Accepted (inl refl)) [ inl q ↦ cc | inr q ↦ cc ]
fitting short_done AtOnce resp f = cc (f.begin_req Accepted (inl refl))
fitting short_done Accept Accepts f = cc (f.begin_resp Completed (inr (inl refl)))
fitting short_done Accept Ends f = cc (f.begin_resp Completed (inr (inl refl)))
fitting short_done Accept Completes f = let h = f.has_end_req Completed (inr (inl refl)) refl in let m0 = h.1 in elim m0 [ inl q ↦ cc (ap (λ (s : Saying). s.phase) q) | inr m1 ↦ elim m1 [ inl q ↦ cc (ap (λ (s : Saying). s.phase) q) | inr m2 ↦ absurd m2 ] ]
fitting short_done Short Accepts f = cc (f.begin_resp Completed (inr (inl refl)))
fitting short_done Short Ends f = cc (f.begin_resp Completed (inr (inl refl)))
fitting short_done Short Completes f = inl (refl, (refl, tt))
