-- The times of a board are those of calls in its log.
use Rattle.std.proofs.Common.{◌≡◌, ℕ, List, [], ◌∷◌, ◌++◌, Bool, true, false, cond, max, refl, sym, ◌∙◌, ap, arith, subst, ◌⊎◌, inl, inr, append_assoc}
use Rattle.tlm_model.proofs.EachLemmas.{append_nil}
use Rattle.tlm_types.specs.declared.words.ObjectNo.TheVariants.{Hop}
use Rattle.tlm_types.specs.declared.words.Phase.{Phase}
use Rattle.tlm_types.specs.declared.words.Phase.TheVariants as Phases
use Rattle.tlm_types.specs.declared.words.TlmSync.{TlmSync}
use Rattle.tlm_types.specs.declared.words.TlmSync.TheVariants.{Accepted, Updated, Completed}
use Rattle.tlm_types.specs.declared.entry.What.{What}
use Rattle.tlm_types.specs.declared.entry.What.TheVariants as Whats
use Rattle.base_phases.specs.declared.phases.LaneState.{LaneState}
use Rattle.base_phases.specs.declared.phases.LaneState.TheVariants.{Free, Requested, Waiting, Responding}
use Rattle.flow_model.specs.Answers.{is_requested}
use Rattle.flow_model.specs.Board.{Begins, Board, Moves, Open, Rules, StepsBy, ends_response, fresh_lane, lane_after, request_end_after, response_end_after, start}
use Rattle.flow_model.specs.Events.{Among, Event, Finds, FindsAt, IsCall, IsOwn, IsPhase}
use Rattle.flow_model.specs.Backed.{EndsRequest, EndsRequestBy, EndsResponse}
use Rattle.flow_model.specs.Marked.{MarkedBy, ReachesMarked}

-- the BEGIN_REQ that holds a lane
pub record Holds (o : ℕ) (l : Open) (e : Event) : Type 0 where
  pub phase : IsPhase l.txn o Phases.BeginReq e
  pub place : e.position ≡ l.position

-- each time of the board is that of a call in the log, and each lane has its BEGIN_REQ there
pub record AreKnown (o : ℕ) (log : List Event) (b : Board) : Type 0 where
  pub request : (b.request_end ≡ 0) ⊎ FindsAt (Among log) (EndsRequest o) b.request_end
  pub response : (b.response_end ≡ 0) ⊎ FindsAt (Among log) (EndsResponse o) b.response_end
  pub last : (l : Open) → Among b.lanes l → FindsAt (Among log) (IsOwn l.txn o) l.last
  pub begun : (l : Open) → Among b.lanes l → Finds (Among log) (Holds o l)

pub in_front : {X : Type 0} (xs ys : List X) (x : X) → Among xs x → Among (xs ++ ys) x
in_front [] ys x m = absurd m
in_front (y ∷ xs) ys x (inl q) = inl q
in_front (y ∷ xs) ys x (inr m) = inr (in_front xs ys x m)

pub behind_all : {X : Type 0} (xs ys : List X) (x : X) → Among ys x → Among (xs ++ ys) x
behind_all [] ys x m = m
behind_all (y ∷ xs) ys x m = inr (behind_all xs ys x m)

either_part : {X : Type 0} (xs ys : List X) (x : X) → Among (xs ++ ys) x → Among xs x ⊎ Among ys x
either_part [] ys x m = inr m
either_part (y ∷ xs) ys x (inl q) = inl (inl q)
either_part (y ∷ xs) ys x (inr m) = elim (either_part xs ys x m) [ inl n ↦ inl (inr n) | inr n ↦ inr n ]

module _ (o : ℕ) (log : List Event) (e : Event) (at_hop : e.object ≡ Hop o) where
  older : (P : Event → Type 0) → Finds (Among log) P → Finds (Among (log ++ e ∷ [])) P
  older P f = record { event = f.event; known = in_front log (e ∷ []) f.event f.known; is = f.is }

  older_at : (P : Event → Type 0) (t : ℕ) → FindsAt (Among log) P t → FindsAt (Among (log ++ e ∷ [])) P t
  older_at P t f = record { event = f.event; known = in_front log (e ∷ []) f.event f.known; is = f.is; time = f.time }

  newest : Among (log ++ e ∷ []) e
  newest = behind_all log (e ∷ []) e (inl refl)

  -- the same, where there may be none
  older_or : (P : Event → Type 0) (t : ℕ) → (t ≡ 0) ⊎ FindsAt (Among log) P t → (t ≡ 0) ⊎ FindsAt (Among (log ++ e ∷ [])) P t
  older_or P t (inl q) = inl q
  older_or P t (inr f) = inr (older_at P t f)

  call_of : (phase : Phase) (a : TlmSync) → e.what ≡ Whats.Call phase a → IsCall e.txn o phase a e
  call_of phase a q = record { object = at_hop; txn = refl; what = q }

  ends_it : (phase : Phase) (a : TlmSync) → e.what ≡ Whats.Call phase a → EndsRequestBy e.number phase a → FindsAt (Among (log ++ e ∷ [])) (EndsRequest o) e.time
  ends_it phase a q ends = record { event = e; known = newest; is = record { phase = phase; answer = a; call = call_of phase a q; ends = ends }; time = refl }

  new_lane : (held : Open) (s : LaneState) (t : ℕ) (l : Open) → Among (lane_after held s t) l → record { txn = held.txn; position = held.position; state = s; last = t } ≡ l
  new_lane held Free t l m = absurd m
  new_lane held Requested t l (inl q) = q
  new_lane held Requested t l (inr m) = absurd m
  new_lane held Waiting t l (inl q) = q
  new_lane held Waiting t l (inr m) = absurd m
  new_lane held Responding t l (inl q) = q
  new_lane held Responding t l (inr m) = absurd m

  module _ (r : Rules) (b : Board) (k : AreKnown o log b) where
    request_begun : (a : TlmSync) → e.what ≡ Whats.Call Phases.BeginReq a → (request_end_after b.request_end false Phases.BeginReq a e.time ≡ 0) ⊎ FindsAt (Among (log ++ e ∷ [])) (EndsRequest o) (request_end_after b.request_end false Phases.BeginReq a e.time)
    request_begun Accepted q = older_or (EndsRequest o) b.request_end k.request
    request_begun (Updated p) q = inr (ends_it Phases.BeginReq (Updated p) q tt)
    request_begun Completed q = inr (ends_it Phases.BeginReq Completed q tt)

    begins_known : (a : TlmSync) (c : Board) → e.what ≡ Whats.Call Phases.BeginReq a → Begins r b e.entry a c → AreKnown o (log ++ e ∷ []) c
    begins_known a c q m = subst (AreKnown o (log ++ e ∷ [])) (sym m.after) (record {
      request = request_begun a q;
      response = older_or (EndsResponse o) b.response_end k.response;
      last = λ l i. elim (either_part b.lanes (lane_after (fresh_lane e.entry) m.state e.time) l i) [
        | inl n ↦ older_at _ l.last (k.last l n)
        | inr n ↦ subst (λ (h : Open). FindsAt (Among (log ++ e ∷ [])) (IsOwn h.txn o) h.last) (new_lane (fresh_lane e.entry) m.state e.time l n)
            (record { event = e; known = newest; is = record { phase = Phases.BeginReq; answer = a; call = call_of Phases.BeginReq a q }; time = refl })
      ];
      begun = λ l i. elim (either_part b.lanes (lane_after (fresh_lane e.entry) m.state e.time) l i) [
        | inl n ↦ older _ (k.begun l n)
        | inr n ↦ subst (λ (h : Open). Finds (Among (log ++ e ∷ [])) (Holds o h)) (new_lane (fresh_lane e.entry) m.state e.time l n)
            (record { event = e; known = newest; is = record { phase = record { answer = a; call = call_of Phases.BeginReq a q }; place = refl } })
      ];
    })

    later_time : (old t : ℕ) → (max old t ≡ t) ⊎ (max old t ≡ old)
    later_time old t = grind arith

    ends_response_at : (phase : Phase) (a : TlmSync) → e.what ≡ Whats.Call phase a → ends_response phase a ≡ true → (max b.response_end e.time ≡ 0) ⊎ FindsAt (Among (log ++ e ∷ [])) (EndsResponse o) (max b.response_end e.time)
    ends_response_at phase a q ends = elim (later_time b.response_end e.time) [
      | inl l ↦ inr (record { event = e; known = newest; is = record { phase = phase; answer = a; call = call_of phase a q; ends = ends }; time = sym l })
      | inr l ↦ subst (λ (t : ℕ). (t ≡ 0) ⊎ FindsAt (Among (log ++ e ∷ [])) (EndsResponse o) t) (sym l) (older_or (EndsResponse o) b.response_end k.response)
    ]

    response_moved : (phase : Phase) (a : TlmSync) → e.what ≡ Whats.Call phase a → (response_end_after b.response_end phase a e.time ≡ 0) ⊎ FindsAt (Among (log ++ e ∷ [])) (EndsResponse o) (response_end_after b.response_end phase a e.time)
    response_moved Phases.BeginReq a q = older_or (EndsResponse o) b.response_end k.response
    response_moved Phases.EndReq a q = older_or (EndsResponse o) b.response_end k.response
    response_moved Phases.BeginResp Accepted q = older_or (EndsResponse o) b.response_end k.response
    response_moved Phases.BeginResp (Updated p) q = ends_response_at Phases.BeginResp (Updated p) q refl
    response_moved Phases.BeginResp Completed q = ends_response_at Phases.BeginResp Completed q refl
    response_moved Phases.EndResp a q = ends_response_at Phases.EndResp a q refl

    -- of a later call, by its phase and whether the request of its lane is open
    request_moved : (phase : Phase) (a : TlmSync) (is_open : Bool) → e.what ≡ Whats.Call phase a → (phase ≡ Phases.BeginReq → ⊥) → (phase ≡ Phases.BeginResp → is_open ≡ true → e.number ≡ 1)
        → (request_end_after b.request_end is_open phase a e.time ≡ 0) ⊎ FindsAt (Among (log ++ e ∷ [])) (EndsRequest o) (request_end_after b.request_end is_open phase a e.time)
    request_moved Phases.BeginReq a is_open q n mark = absurd (n refl)
    request_moved Phases.EndReq a is_open q n mark = inr (ends_it Phases.EndReq a q tt)
    request_moved Phases.BeginResp a true q n mark = inr (ends_it Phases.BeginResp a q (mark refl refl))
    request_moved Phases.BeginResp a false q n mark = older_or (EndsRequest o) b.request_end k.request
    request_moved Phases.EndResp a is_open q n mark = older_or (EndsRequest o) b.request_end k.request

    moves_known : (phase : Phase) (a : TlmSync) (c : Board) → e.what ≡ Whats.Call phase a → (phase ≡ Phases.BeginReq → ⊥) → (m : Moves r b e.entry phase a c) → (phase ≡ Phases.BeginResp → is_requested m.lane.state ≡ true → e.number ≡ 1)
        → AreKnown o (log ++ e ∷ []) c
    moves_known phase a c q n m mark = subst (AreKnown o (log ++ e ∷ [])) (sym m.after) (record {
      request = request_moved phase a (is_requested m.lane.state) q n mark;
      response = response_moved phase a q;
      last = λ l i. elim (either_part m.before (lane_after m.lane m.state e.time ++ m.behind) l i) [
        | inl f ↦ older_at _ l.last (k.last l (front l f))
        | inr f ↦ elim (either_part (lane_after m.lane m.state e.time) m.behind l f) [
          | inl g ↦ subst (λ (h : Open). FindsAt (Among (log ++ e ∷ [])) (IsOwn h.txn o) h.last) (new_lane m.lane m.state e.time l g)
              (record { event = e; known = newest; is = record { phase = phase; answer = a; call = record { object = at_hop; txn = sym m.txn; what = q } }; time = refl })
          | inr g ↦ older_at _ l.last (k.last l (back l g))
        ]
      ];
      begun = λ l i. elim (either_part m.before (lane_after m.lane m.state e.time ++ m.behind) l i) [
        | inl f ↦ older _ (k.begun l (front l f))
        | inr f ↦ elim (either_part (lane_after m.lane m.state e.time) m.behind l f) [
          | inl g ↦ subst (λ (h : Open). Finds (Among (log ++ e ∷ [])) (Holds o h)) (new_lane m.lane m.state e.time l g) (same_hold m.state (older _ (k.begun m.lane here)))
          | inr g ↦ older _ (k.begun l (back l g))
        ]
      ];
    })
      where
        front : (l : Open) → Among m.before l → Among b.lanes l
        front l f = subst (λ (x : List Open). Among x l) (sym m.here) (in_front m.before (m.lane ∷ m.behind) l f)

        back : (l : Open) → Among m.behind l → Among b.lanes l
        back l f = subst (λ (x : List Open). Among x l) (sym m.here) (behind_all m.before (m.lane ∷ m.behind) l (inr f))

        here : Among b.lanes m.lane
        here = subst (λ (x : List Open). Among x m.lane) (sym m.here) (behind_all m.before (m.lane ∷ m.behind) m.lane (inl refl))

        same_hold : (s : LaneState) → Finds (Among (log ++ e ∷ [])) (Holds o m.lane) → Finds (Among (log ++ e ∷ [])) (Holds o (record { txn = m.lane.txn; position = m.lane.position; state = s; last = e.time }))
        same_hold s f = record { event = f.event; known = f.known; is = record { phase = f.is.phase; place = f.is.place } }

    step_known : (c : Board) (v : What) → e.what ≡ v → (m : StepsBy r b e.entry v c) → MarkedBy r b e v c m → AreKnown o (log ++ e ∷ []) c
    step_known c (Whats.Call Phases.BeginReq a) q m mark = begins_known a c q m
    step_known c (Whats.Call Phases.EndReq a) q m mark = moves_known Phases.EndReq a c q (λ z. cc) m (λ z. cc)
    step_known c (Whats.Call Phases.BeginResp a) q m mark = moves_known Phases.BeginResp a c q (λ z. cc) m (λ z t. mark ∙ ap (λ (u : Bool). cond {A = ℕ} u 1 0) t)
    step_known c (Whats.Call Phases.EndResp a) q m mark = moves_known Phases.EndResp a c q (λ z. cc) m (λ z. cc)
    step_known c (Whats.Access way access status got) q m mark = absurd m
    step_known c (Whats.Granted g f l s) q m mark = absurd m
    step_known c (Whats.Invalidated f l) q m mark = absurd m
    step_known c (Whats.Closed g) q m mark = absurd m
    step_known c (Whats.Take s) q m mark = absurd m
    step_known c (Whats.Acquire s) q m mark = absurd m
    step_known c (Whats.Release s f) q m mark = absurd m

known_from : (o : ℕ) (r : Rules) (log es : List Event) (b d : Board) → ((e : Event) → Among es e → e.object ≡ Hop o) → AreKnown o log b → ReachesMarked r b es d → AreKnown o (log ++ es) d
known_from o r log [] b d own k q = subst (λ (l : List Event). AreKnown o l d) (sym (append_nil log)) (subst (AreKnown o log) q k)
known_from o r log (e ∷ es) b d own k q =
    subst (λ (l : List Event). AreKnown o l d) (append_assoc log (e ∷ []) es)
    (known_from o r (log ++ e ∷ []) es q.0 d (λ f m. own f (inr m)) (step_known o log e (own e (inl refl)) r b k q.0 e.what refl q.1.steps q.1.marked) q.2)

pub times_are_known : (o : ℕ) (r : Rules) (log : List Event) (b : Board) → ((e : Event) → Among log e → e.object ≡ Hop o) → ReachesMarked r start log b → AreKnown o log b
times_are_known o r log b own q = known_from o r [] log start b own none q
  where
    none : AreKnown o [] start
    none = record { request = inl refl; response = inl refl; last = λ l m. absurd m; begun = λ l m. absurd m }
