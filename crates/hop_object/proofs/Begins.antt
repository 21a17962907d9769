-- What BEGIN_REQ answers and leaves, by the answer of the modes.
use Rattle.std.proofs.Common.{◌≡◌, ℕ, true, false, ◌≤◌, length, Option, Some, None, refl, ap, sym, ◌∙◌, Fits, arith}
use Rattle.std.proofs.lemmas.Bool.{both_ways}
use mir.Syntax.{w32}
use Rattle.tlm_types.specs.declared.words.Phase.TheVariants.{BeginResp}
use Rattle.tlm_types.specs.declared.words.TlmSync.{TlmSync}
use Rattle.tlm_types.specs.declared.words.TlmSync.TheVariants.{Accepted, Updated, Completed}
use Rattle.tlm_types.specs.declared.words.TxnId.{TxnId}
use Rattle.base_phases.specs.declared.phases.LaneState.{LaneState}
use Rattle.base_phases.specs.declared.phases.LaneState.TheVariants.{Requested, Responding}
use Rattle.token_book.specs.Account.{Slip}
use Rattle.hop_object.specs.declared.call.Begun.{Begun}
use Rattle.hop_object.specs.declared.call.Begun.TheVariants.{Busy, Left, Now}
use Rattle.hop_object.specs.View.{HopView}
use Rattle.hop_object.specs.Lanes.{requester}
use Rattle.hop_object.specs.Hops.{begin_answer, begin_entry, begin_time, can_begin, entered, leg_at, leg_out, passed}
use Rattle.hop_object.specs.Calls.{AnswersRequest, begun_as}

-- a hop has few lanes
pub few_fit : (n m k : ℕ) → n ≡ m → m ≤ k → k ≤ 16 → Fits w32 n
few_fit n m k is few small = record { fits = omega arith }

pair : {A B : Type 0} (a b : A) (x y : B) → a ≡ b → x ≡ y → ◌≡◌ {A = A × B} (a, x) (b, y)
pair {A} {B} a b x y e f = ap (λ (c : A). (c, x)) e ∙ ap (λ (z : B). (b, z)) f

module _ {T : Type 0} (v : HopView T) (p : ℕ) (txn : TxnId) (at : ℕ) (item : T) where
  -- a call that can't be taken
  pub is_refused : (holder : Option TxnId) (live : ℕ) → can_begin v ≡ false → holder ≡ requester v.lanes → live ≡ length v.lanes → AnswersRequest v p txn at item v (Busy holder live item)
  is_refused holder live shut holds lives = record {
    taken = λ can. absurd (both_ways (can_begin v) shut can);
    busy = λ b. (refl, ap (λ (h : Option TxnId). Busy h live item) holds ∙ ap (λ (n : ℕ). Busy (requester v.lanes) n item) lives);
  }

  -- one that is taken, by its answer
  taken_as : (w x : HopView T) (told is_told : Begun T) (answer : TlmSync) → can_begin v ≡ true → begin_answer v ≡ answer → w ≡ x → told ≡ is_told → ◌≡◌ {A = HopView T × Begun T} (x, is_told) (begun_as v (begin_entry v p txn at answer) item answer) → AnswersRequest v p txn at item w told
  taken_as w x told is_told answer can is left says made = record {
    taken = λ c. pair w x told is_told left says ∙ (made ∙ sym (ap (λ (b : TlmSync). begun_as v (begin_entry v p txn at b) item b) is));
    busy = λ no. absurd (both_ways (can_begin v) no can);
  }

  -- what it leaves where the item waits
  waits_as : (w : HopView T) (answer : TlmSync) (state : LaneState) → begin_answer v ≡ answer → w ≡ entered v (begin_entry v p txn at (begin_answer v)) (begin_answer v) state (Some item) v.book → w ≡ entered v (begin_entry v p txn at answer) answer state (Some item) v.book
  waits_as w answer state is left = left ∙ ap (λ (b : TlmSync). entered v (begin_entry v p txn at b) b state (Some item) v.book) is

  told_left : (a answer : TlmSync) (time : ℕ) → a ≡ answer → time ≡ begin_time v at → ◌≡◌ {A = Begun T} (Left a time) (Left answer (begin_time v at))
  told_left a answer time is timed = ap (λ (b : TlmSync). Left b time) is ∙ ap (λ (t : ℕ). Left answer t) timed

  told_now : (a answer : TlmSync) (time : ℕ) (leg owed : Option Slip) → a ≡ answer → time ≡ begin_time v at → leg ≡ owed → ◌≡◌ {A = Begun T} (Now a time leg item) (Now answer (begin_time v at) owed item)
  told_now a answer time leg owed is timed legs = ap (λ (b : TlmSync). Now b time leg item) is ∙ ap (λ (t : ℕ). Now answer t leg item) timed ∙ ap (λ (l : Option Slip). Now answer (begin_time v at) l item) legs

  pub is_accepted : (w : HopView T) (a : TlmSync) (time : ℕ) → can_begin v ≡ true → begin_answer v ≡ Accepted → a ≡ Accepted → time ≡ begin_time v at → w ≡ entered v (begin_entry v p txn at (begin_answer v)) (begin_answer v) Requested (Some item) v.book → AnswersRequest v p txn at item w (Left a time)
  is_accepted w a time can is says timed left =
      taken_as w (entered v (begin_entry v p txn at Accepted) Accepted Requested (Some item) v.book) (Left a time) (Left Accepted (begin_time v at)) Accepted can is (waits_as w Accepted Requested is left) (told_left a Accepted time says timed) refl

  pub is_completed : (w : HopView T) (a : TlmSync) (time : ℕ) → can_begin v ≡ true → begin_answer v ≡ Completed → a ≡ Completed → time ≡ begin_time v at → w ≡ passed v (begin_entry v p txn at (begin_answer v)) (begin_answer v) → AnswersRequest v p txn at item w (Now a time None item)
  is_completed w a time can is says timed left =
      taken_as w (passed v (begin_entry v p txn at Completed) Completed) (Now a time None item) (Now Completed (begin_time v at) None item) Completed can is (left ∙ ap (λ (b : TlmSync). passed v (begin_entry v p txn at b) b) is) (told_now a Completed time None None says timed refl) refl

  pub is_responded : (w : HopView T) (a : TlmSync) (time : ℕ) (leg : Slip) → can_begin v ≡ true → begin_answer v ≡ Updated BeginResp → a ≡ Updated BeginResp → time ≡ begin_time v at → w ≡ entered v (begin_entry v p txn at (begin_answer v)) (begin_answer v) Responding None (leg_out v.book p Responding) → leg ≡ leg_at v.book p Responding
      → AnswersRequest v p txn at item w (Now a time (Some leg) item)
  is_responded w a time leg can is says timed left legs =
      taken_as w (entered v (begin_entry v p txn at (Updated BeginResp)) (Updated BeginResp) Responding None (leg_out v.book p Responding)) (Now a time (Some leg) item) (Now (Updated BeginResp) (begin_time v at) (Some (leg_at v.book p Responding)) item) (Updated BeginResp) can is
      (left ∙ ap (λ (b : TlmSync). entered v (begin_entry v p txn at b) b Responding None (leg_out v.book p Responding)) is) (told_now a (Updated BeginResp) time (Some leg) (Some (leg_at v.book p Responding)) says timed (ap Some legs)) refl
