-- What the steps of a hop give at each call of its log.
use Rattle.std.proofs.Common.{◌≡◌, ◌⊎◌, ℕ, ◌≤◌, List, [], ◌∷◌, ◌++◌, max, true, false, Bool, cond, refl, ap, sym, ◌∙◌, arith, subst, inl, inr, append_assoc}
use Rattle.std.specs.List.{fold}
use Rattle.std.proofs.lemmas.List.{map-append}
use Rattle.std.proofs.lemmas.List.Sums.{fold-append}
use Rattle.std.proofs.lemmas.List.Elements.{filter_map-append}
use Rattle.tlm_types.specs.declared.words.ObjectNo.TheVariants.{Hop}
use Rattle.tlm_types.specs.declared.words.Phase.{Phase}
use Rattle.tlm_types.specs.declared.words.Phase.TheVariants.{BeginReq, EndReq, BeginResp, EndResp}
use Rattle.tlm_types.specs.declared.words.TlmSync.{TlmSync}
use Rattle.tlm_types.specs.declared.words.TlmSync.TheVariants.{Accepted, Updated, Completed}
use Rattle.tlm_types.specs.declared.words.TxnId.{TxnId}
use Rattle.tlm_types.specs.declared.words.ReqMode.{ReqMode}
use Rattle.tlm_types.specs.declared.words.ReqMode.TheVariants.{Accept, Short, EndReq as AtOnce, BeginResp as WithResponse, Complete}
use Rattle.tlm_types.specs.declared.entry.Entry.{Entry}
use Rattle.tlm_types.specs.declared.entry.What.{What}
use Rattle.tlm_types.specs.declared.entry.What.TheVariants.{Call as Called, Access as Accessed, Granted, Invalidated, Closed, Take, Acquire, Release}
use Rattle.tlm_model.proofs.EachLemmas.{AtEach-at}
use Rattle.tlm_model.specs.Each.{AtEach}
use Rattle.base_phases.specs.Sequences.{IsBegun}
use Rattle.flow_model.specs.Answers.{request_answer, response_answer}
use Rattle.flow_model.specs.Board.{Board, Reaches, start, ends_response}
use Rattle.flow_model.specs.Board.{ends_request as hop_ends_request}
use Rattle.flow_model.specs.ByRules.{IsCallBy, IsInTime, KeepsRules, any_response, last_time, request_end_by, response_end, response_end_by}
use Rattle.flow_model.specs.ByRules.{request_end as hop_request_end, request_end_from as hop_request_end_from}
use Rattle.flow_model.specs.Calls.{begins_request, has_open_request, is_of, request_by}
use Rattle.flow_model.specs.Protocol.{BeginsOnce as HopBeginsOnce, KeepsRequest}
use Rattle.flow_model.proofs.CallLemmas.{follows}
use Rattle.flow_model.proofs.ExclusionLemmas.{exclusive}
use Rattle.flow_model.proofs.RuleLemmas.{keeps_rules}
use Rattle.flow_model.specs.World.{World}
use Rattle.flow_model.specs.Events.{Event, Among, IsCall, IsOwn, entries}
use Rattle.flow_model.specs.Backed.{EndsResponse}
use Rattle.flow_model.proofs.Forms.{Saying, says, said, sayings, is_txn, eleven, IsPrefixOf, RequestAnswer, IsRequested, is_requested, ends_request, ended_by, request_end_from, request_end, CallStep, HopStep, BeginsOnce, HopModel}
use Rattle.flow_model.proofs.Splits.{among_left, among_right, among_cases}
use Rattle.flow_model.proofs.Sayings.{In, said_in, sayings-split, prefix_of_front, is_txn_self, same_txn}
use Rattle.flow_model.proofs.Nodes.{Node, path, walked, next_call, nothing, done, brought, brought_ended, once, once_open, once_open_ended, once_ended, once_done, asked, taken, taken_open, taken_open_ended, taken_ended, taken_done, short_open, short_open_ended, short_ended, short_done}
use Rattle.flow_model.proofs.CallLists.{call_of, calls, calls_in_log, begun_says}

append_nil : {X : Type 0} (l : List X) → l ++ [] ≡ l
append_nil [] = refl
append_nil (x ∷ l) = ap (λ (m : List _). x ∷ m) (append_nil l)

-- the last call of a prefix of the eleven sequences is an open request where it is the only one
open_by_path : (n : Node) → fold request_by false (calls (path n)) ≡ is_requested (path n)
unfolding calls call_of
open_by_path nothing = refl
open_by_path done = refl
open_by_path brought = refl
open_by_path brought_ended = refl
open_by_path once = refl
open_by_path once_open = refl
open_by_path once_open_ended = refl
open_by_path once_ended = refl
open_by_path once_done = refl
open_by_path asked = refl
open_by_path taken = refl
open_by_path taken_open = refl
open_by_path taken_open_ended = refl
open_by_path taken_ended = refl
open_by_path taken_done = refl
open_by_path short_open = refl
open_by_path short_open_ended = refl
open_by_path short_ended = refl
open_by_path short_done = refl

open_by_says : (cs : List Saying) → IsPrefixOf eleven cs → fold request_by false (calls cs) ≡ is_requested cs
open_by_says cs p =
    let n = walked cs p in
    ap (λ (l : List Saying). fold request_by false (calls l)) n.is ∙ (open_by_path n.node ∙ sym (ap is_requested n.is))

by_mode : (r : ReqMode) (b : Bool) (a : TlmSync) → a ≡ request_answer r b → RequestAnswer r a
by_mode Accept b a q = q
by_mode Short b a q = q
by_mode AtOnce b a q = q
by_mode WithResponse true a q = inr q
by_mode WithResponse false a q = inl q
by_mode Complete b a q = q

-- the greatest time of a call that ended a response, from a time on
response_from : ℕ → List Event → ℕ
response_from t l = fold (λ (old : ℕ) (e : Entry). response_end_by old e.time e.what) t (entries l)

later_by : (w : What) (t u : ℕ) → t ≤ response_end_by t u w
later_by (Called p a) t u = by_call (ends_response p a)
  where
    by_call : (b : Bool) → t ≤ cond b (max t u) t
    by_call true = omega arith
    by_call false = omega arith
later_by (Accessed way access status got) t u = omega arith
later_by (Granted g f l k) t u = omega arith
later_by (Invalidated f l) t u = omega arith
later_by (Closed g) t u = omega arith
later_by (Take s) t u = omega arith
later_by (Acquire s) t u = omega arith
later_by (Release s f) t u = omega arith

response_grows : (l : List Event) (t : ℕ) → t ≤ response_from t l
unfolding response_from
response_grows [] t = omega arith
response_grows (e ∷ l) t =
    let a : t ≤ response_end_by t e.time e.what = later_by e.what t e.time in
    let b : response_end_by t e.time e.what ≤ response_from (response_end_by t e.time e.what) l = response_grows l (response_end_by t e.time e.what) in
    omega arith

response_least : (o : ℕ) (l : List Event) (t : ℕ) (f : Event) → Among l f → EndsResponse o f → f.time ≤ response_from t l
unfolding response_from
response_least o [] t f m r = absurd m
response_least o (e ∷ l) t f (inr m) r = response_least o l (response_end_by t e.time e.what) f m r
response_least o (e ∷ l) t f (inl q) r =
    let here : response_end_by t f.time f.what ≡ max t f.time = ap (λ (w : What). response_end_by t f.time w) r.call.what ∙ ap (λ (b : Bool). cond b (max t f.time) t) r.ends in
    let same : response_end_by t e.time e.what ≡ response_end_by t f.time f.what = ap (λ (g : Event). response_end_by t g.time g.what) q in
    let b : response_end_by t e.time e.what ≤ response_from (response_end_by t e.time e.what) l = response_grows l (response_end_by t e.time e.what) in
    omega arith

response_greatest : (o : ℕ) (l : List Event) (f : Event) → Among l f → EndsResponse o f → f.time ≤ response_end (entries l)
unfolding response_from
response_greatest o l f m r = response_least o l 0 f m r

entries_push : (b : List Event) (e : Event) → entries (b ++ e ∷ []) ≡ entries b ++ e.entry ∷ []
entries_push b e = map-append (λ (f : Event). f.entry) b (e ∷ [])

last_push : (x : TxnId) (b : List Event) (e : Event) → last_time x (entries (b ++ e ∷ [])) ≡ cond (is_txn x e.txn) e.time (last_time x (entries b))
last_push x b e =
    ap (last_time x) (entries_push b e)
    ∙ fold-append (λ (old : ℕ) (d : Entry). cond (is_of x d) d.time old) 0 (entries b) (e.entry ∷ [])

module _ (w : World) (o : ℕ) (log : List Event) (mine : (e : Event) → Among log e → e.object ≡ Hop o) (board : Board) (steps : Reaches (w.hop o).rules start (entries log) board) (once : HopBeginsOnce (entries log)) where
  proper : (x : TxnId) → IsPrefixOf eleven (sayings x o log)
  proper x = begun_says (sayings x o log) (subst IsBegun (calls_in_log x o log mine) (follows (w.hop o).rules (entries log) board steps once x))

  module _ (b c : List Event) (e : Event) (q : log ≡ b ++ e ∷ c) where
    split : entries log ≡ entries b ++ e.entry ∷ entries c
    split = ap entries q ∙ map-append (λ (f : Event). f.entry) b (e ∷ c)

    mine_before : (f : Event) → Among b f → f.object ≡ Hop o
    mine_before f m = mine f (subst (λ (l : List Event). Among l f) (sym q) (among_left b (e ∷ c) f m))

    mine_here : e.object ≡ Hop o
    mine_here = mine e (subst (λ (l : List Event). Among l e) (sym q) (among_right b (e ∷ c) e (inl refl)))

    rules_here : IsCallBy (w.hop o).rules (entries b) e.entry e.what
    rules_here = AtEach-at (λ (before : List Entry) (d : Entry). IsCallBy (w.hop o).rules before d d.what) (entries b) e.entry (entries c)
        (subst (λ (l : List Entry). KeepsRules (w.hop o).rules l) split (keeps_rules (w.hop o).rules (entries log) board steps once))

    alone_here : KeepsRequest (entries b) e.entry
    alone_here =
        let x = exclusive (w.hop o).rules (entries log) board steps once in
        AtEach-at KeepsRequest (entries b) e.entry (entries c) (subst (λ (l : List Entry). AtEach KeepsRequest l) split x.requests)

    proper_before : (x : TxnId) → IsPrefixOf eleven (sayings x o b)
    proper_before x =
        prefix_of_front eleven (sayings x o b) (sayings x o (e ∷ c))
        (subst (λ (l : List Saying). IsPrefixOf eleven l) (ap (sayings x o) q ∙ filter_map-append (said x o) b (e ∷ c)) (proper x))

    -- whether the last call of x before is an open request
    open_before : (x : TxnId) → has_open_request x (entries b) ≡ is_requested (sayings x o b)
    open_before x = ap (fold request_by false) (calls_in_log x o b mine_before) ∙ open_by_says (sayings x o b) (proper_before x)

    -- so the two ways to say which call ends a request agree
    ends_same : (p : Phase) (a : TlmSync) → hop_ends_request (has_open_request e.txn (entries b)) p a ≡ ends_request o b e.txn p a
    ends_same BeginReq Accepted = refl
    ends_same BeginReq (Updated r) = refl
    ends_same BeginReq Completed = refl
    ends_same EndReq a = refl
    ends_same BeginResp a = open_before e.txn
    ends_same EndResp a = refl

    end_same : (v : What) (t : ℕ) → request_end_by t (has_open_request e.txn (entries b)) e.time v ≡ ended_by o b e.txn e.time v t
    end_same (Called p a) t = ap (λ (d : Bool). cond d e.time t) (ends_same p a)
    end_same (Accessed way access status got) t = refl
    end_same (Granted g f l k) t = refl
    end_same (Invalidated f l) t = refl
    end_same (Closed g) t = refl
    end_same (Take s) t = refl
    end_same (Acquire s) t = refl
    end_same (Release s f) t = refl

    -- nothing of x stands before its BEGIN_REQ
    none_own : (a : TlmSync) → e.what ≡ Called BeginReq a → (f : Event) → Among b f → ¬ IsOwn e.txn o f
    none_own a v f m i =
        let call : IsCall e.txn o BeginReq a e = record { object = mine_here; txn = refl; what = v } in
        let whole : sayings e.txn o log ≡ (sayings e.txn o b ++ says BeginReq a ∷ []) ++ sayings e.txn o c = sayings-split e.txn o log b c e BeginReq a q call ∙ sym (append_assoc (sayings e.txn o b) (says BeginReq a ∷ []) (sayings e.txn o c)) in
        let n = (next_call (sayings e.txn o b) BeginReq a (prefix_of_front eleven (sayings e.txn o b ++ says BeginReq a ∷ []) (sayings e.txn o c) (subst (λ (k : List Saying). IsPrefixOf eleven k) whole (proper e.txn)))).0 in
        elim n [
          | inl r ↦ subst (λ (cs : List Saying). In cs (says i.phase i.answer)) r (said_in e.txn o b f i.phase i.answer m i.call)
          | inr r ↦ absurd r
        ]

    own_by : (p : Phase) (a : TlmSync) → e.what ≡ Called p a → IsInTime (entries b) e.entry p → ((f : Event) → Among b f → IsOwn e.txn o f → f.time ≤ last_time e.txn (entries b)) → (f : Event) → Among b f → IsOwn e.txn o f → f.time ≤ e.time
    own_by BeginReq a v t last f m i = absurd (none_own a v f m i)
    own_by EndReq a v t last f m i = let l : f.time ≤ last_time e.txn (entries b) = last f m i in omega arith
    own_by BeginResp a v t last f m i = let l : f.time ≤ last_time e.txn (entries b) = last f m i in let u : last_time e.txn (entries b) ≤ e.time = t.0 in omega arith
    own_by EndResp a v t last f m i = let l : f.time ≤ last_time e.txn (entries b) = last f m i in omega arith

    own_now : (v : What) → e.what ≡ v → IsCallBy (w.hop o).rules (entries b) e.entry v → ((f : Event) → Among b f → IsOwn e.txn o f → f.time ≤ last_time e.txn (entries b)) → (f : Event) → Among b f → IsOwn e.txn o f → f.time ≤ e.time
    own_now (Called p a) v r last f m i = own_by p a v r.1 last f m i
    own_now (Accessed way access status got) v r last f m i = absurd r
    own_now (Granted g a l k) v r last f m i = absurd r
    own_now (Invalidated a l) v r last f m i = absurd r
    own_now (Closed g) v r last f m i = absurd r
    own_now (Take s) v r last f m i = absurd r
    own_now (Acquire s) v r last f m i = absurd r
    own_now (Release s d) v r last f m i = absurd r

  -- the last time of a transaction is the greatest
  abbrev pub LastIsGreatest : List Event → Type 0
  LastIsGreatest l = (x : TxnId) (f : Event) → Among l f → IsOwn x o f → f.time ≤ last_time x (entries l)

  last_from : (rest b : List Event) → log ≡ b ++ rest → LastIsGreatest b → (l r : List Event) → rest ≡ l ++ r → LastIsGreatest (b ++ l)
  last_from rest b q known [] r s = subst LastIsGreatest (sym (append_nil b)) known
  last_from [] b q known (f ∷ l) r s = cc
  last_from (e ∷ rest) b q known (f ∷ l) r s =
      subst LastIsGreatest (append_assoc b (e ∷ []) l ∙ ap (λ (d : Event). b ++ d ∷ l) (head_of e f rest (l ++ r) s))
      (last_from rest (b ++ e ∷ []) (q ∙ sym (append_assoc b (e ∷ []) rest)) (λ x g m i. now x g i (among_cases b (e ∷ []) g m)) l r (tail_of e f rest (l ++ r) s))
    where
      head_of : (e f : Event) (m n : List Event) → e ∷ m ≡ f ∷ n → e ≡ f
      head_of e f m n q = cc

      tail_of : (e f : Event) (m n : List Event) → e ∷ m ≡ f ∷ n → m ≡ n
      tail_of e f m n q = cc

      now : (x : TxnId) (g : Event) → IsOwn x o g → Among b g ⊎ Among (e ∷ []) g → g.time ≤ last_time x (entries (b ++ e ∷ []))
      now x g i m = go m (is_txn x e.txn) refl
        where
          go : Among b g ⊎ Among (e ∷ []) g → (d : Bool) → is_txn x e.txn ≡ d → g.time ≤ last_time x (entries (b ++ e ∷ []))
          go (inl m) true t =
              let same : e.txn ≡ x = same_txn x e.txn t in
              let u : g.time ≤ e.time = own_now b rest e q e.what refl (rules_here b rest e q) (λ f n j. known e.txn f n j) g m (subst (λ (y : TxnId). IsOwn y o g) (sym same) i) in
              let v : last_time x (entries (b ++ e ∷ [])) ≡ e.time = last_push x b e ∙ ap (λ (d : Bool). cond d e.time (last_time x (entries b))) t in
              omega arith
          go (inl m) false t =
              let u : g.time ≤ last_time x (entries b) = known x g m i in
              let v : last_time x (entries (b ++ e ∷ [])) ≡ last_time x (entries b) = last_push x b e ∙ ap (λ (d : Bool). cond d e.time (last_time x (entries b))) t in
              omega arith
          go (inr (inl r)) true t =
              let u : e.time ≡ g.time = ap (λ (d : Event). d.time) r in
              let v : last_time x (entries (b ++ e ∷ [])) ≡ e.time = last_push x b e ∙ ap (λ (d : Bool). cond d e.time (last_time x (entries b))) t in
              omega arith
          go (inr (inl r)) false t = absurd (clash (sym t ∙ subst (λ (y : TxnId). is_txn x y ≡ true) (sym (ap (λ (d : Event). d.txn) r ∙ i.call.txn)) (is_txn_self x)))
            where
              clash : ◌≡◌ {A = Bool} false true → ⊥
              clash z = cc
          go (inr (inr r)) d t = absurd r

  pub last_greatest : (b c : List Event) → log ≡ b ++ c → LastIsGreatest b
  last_greatest b c q = last_from log [] refl (λ x f m. absurd m) b c q

  -- the two ways to say when the last request ended agree
  end_from_same : (rest b : List Event) (t : ℕ) → log ≡ b ++ rest → (l r : List Event) → rest ≡ l ++ r → hop_request_end_from (entries b) t (entries l) ≡ request_end_from o b t l
  end_from_same rest b t q [] r s = refl
  end_from_same [] b t q (f ∷ l) r s = cc
  end_from_same (e ∷ rest) b t q (f ∷ l) r s =
      let same : e ≡ f = head_of e f rest (l ++ r) s in
      let here : log ≡ b ++ f ∷ rest = q ∙ ap (λ (d : Event). b ++ d ∷ rest) same in
      ap (λ (k : List Entry). hop_request_end_from k (request_end_by t (has_open_request f.txn (entries b)) f.time f.what) (entries l)) (sym (entries_push b f))
      ∙ (ap (λ (u : ℕ). hop_request_end_from (entries (b ++ f ∷ [])) u (entries l)) (end_same b rest f here f.what t)
      ∙ end_from_same rest (b ++ f ∷ []) (ended_by o b f.txn f.time f.what t) (here ∙ sym (append_assoc b (f ∷ []) rest)) l r (tail_of e f rest (l ++ r) s))
    where
      head_of : (e f : Event) (m n : List Event) → e ∷ m ≡ f ∷ n → e ≡ f
      head_of e f m n q = cc

      tail_of : (e f : Event) (m n : List Event) → e ∷ m ≡ f ∷ n → m ≡ n
      tail_of e f m n q = cc

  pub request_end_same : (b c : List Event) → log ≡ b ++ c → hop_request_end (entries b) ≡ request_end o b
  request_end_same b c q = end_from_same log [] 0 refl b c q

  begins_at : (v : What) (p : Phase) (a : TlmSync) → v ≡ Called p a → p ≡ BeginReq → begins_request v ≡ true
  begins_at v p a q r = ap begins_request (q ∙ ap (λ (d : Phase). Called d a) r)

  call_step : (b c : List Event) (e : Event) → log ≡ b ++ e ∷ c → (p : Phase) (a : TlmSync) → e.what ≡ Called p a → IsCallBy (w.hop o).rules (entries b) e.entry (Called p a) → CallStep w o b e p a
  call_step b c e q p a v r = record {
    free = λ s y held. free s y held;
    request_answer = λ s. by_mode (w.hop o).req (any_response (entries b)) a (asked p s r);
    response_answer = λ s. answered p s r;
    after_requests = λ s. after p s r;
    after_own = own_now b c e q (Called p a) v r (λ f m i. last_greatest b (e ∷ c) q e.txn f m i);
    after_responses = λ s f m d. responses p s r f m d;
  }
    where
      free : p ≡ BeginReq → (y : TxnId) → ¬ IsRequested y o b
      free s y held = clash (sym (begins_at e.what p a v s) ∙ alone_here b c e q y (open_before b c e q y ∙ ap is_requested held))
        where
          clash : ◌≡◌ {A = Bool} true false → ⊥
          clash z = cc

      asked : (p : Phase) → p ≡ BeginReq → IsCallBy (w.hop o).rules (entries b) e.entry (Called p a) → a ≡ request_answer (w.hop o).req (any_response (entries b))
      asked BeginReq s r = r.0
      asked EndReq s r = cc
      asked BeginResp s r = cc
      asked EndResp s r = cc

      answered : (p : Phase) → p ≡ BeginResp → IsCallBy (w.hop o).rules (entries b) e.entry (Called p a) → a ≡ response_answer (w.hop o).resp
      answered BeginReq s r = cc
      answered EndReq s r = cc
      answered BeginResp s r = r.0
      answered EndResp s r = cc

      after : (p : Phase) → p ≡ BeginReq → IsCallBy (w.hop o).rules (entries b) e.entry (Called p a) → request_end o b ≤ e.time
      after BeginReq s r = let u : hop_request_end (entries b) ≤ e.time = r.1 in let z : hop_request_end (entries b) ≡ request_end o b = request_end_same b (e ∷ c) q in omega arith
      after EndReq s r = cc
      after BeginResp s r = cc
      after EndResp s r = cc

      responses : (p : Phase) → p ≡ BeginResp → IsCallBy (w.hop o).rules (entries b) e.entry (Called p a) → (f : Event) → Among b f → EndsResponse o f → f.time ≤ e.time
      responses BeginReq s r f m d = cc
      responses EndReq s r f m d = cc
      responses BeginResp s r f m d =
          let u : response_end (entries b) ≤ e.time = r.1.1 in
          let z : f.time ≤ response_end (entries b) = response_greatest o b f m d in
          omega arith
      responses EndResp s r f m d = cc

  hop_step : (b c : List Event) (e : Event) → log ≡ b ++ e ∷ c → (v : What) → e.what ≡ v → IsCallBy (w.hop o).rules (entries b) e.entry v → HopStep w o b e
  hop_step b c e q (Called p a) v r = record { phase = p; answer = a; what = v; step = call_step b c e q p a v r }
  hop_step b c e q (Accessed way access status got) v r = absurd r
  hop_step b c e q (Granted g f l k) v r = absurd r
  hop_step b c e q (Invalidated f l) v r = absurd r
  hop_step b c e q (Closed g) v r = absurd r
  hop_step b c e q (Take s) v r = absurd r
  hop_step b c e q (Acquire s) v r = absurd r
  hop_step b c e q (Release s f) v r = absurd r

  pub hop_model : HopModel w o log
  hop_model = record { proper = proper; steps = λ b e c q. hop_step b c e q e.what refl (rules_here b c e q) }

  pub begins_once : BeginsOnce o log
  begins_once b e c q x i f =
      none_own b c e q i.answer i.call.what f.event f.known
      (record { phase = BeginReq; answer = f.is.answer; call = subst (λ (y : TxnId). IsCall y o BeginReq f.is.answer f.event) (sym i.call.txn) f.is.call })
