-- A port takes an access.
use Rattle.std.proofs.Common.{◌≡◌, ◌⊎◌, ℕ, suc, ◌+◌, ◌<◌, ◌≤◌, IsTrue, Bool, true, false, cond, nat_eq, eq-eqb, List, [], ◌∷◌, ◌++◌, length, length-append, Some, refl, sym, ap, ◌∙◌, subst, inl, inr, arith, get_or, map}
use Rattle.std.specs.Prelude.{slice_get}
use Rattle.std.specs.List.{filter}
use Rattle.std.proofs.lemmas.List.{map-append, append-nil}
use Rattle.std.proofs.lemmas.List.Elements.{filter-append}
use Rattle.tlm_types.specs.declared.ends.RefusedItem.{RefusedItem}
use Rattle.tlm_types.specs.declared.words.ObjectNo.{ObjectNo}
use Rattle.tlm_types.specs.declared.words.ObjectNo.TheVariants.{Memory}
use Rattle.tlm_types.specs.declared.entry.Entry.{Entry}
use Rattle.tlm_model.specs.Plan.{Plan, Initiator}
use Rattle.tlm_model.specs.Requests.{Request, has_no_route}
use Rattle.flow_model.specs.Events.{Among, Event}
use Rattle.flow_model.specs.Issue.{issues_from, settled}
use Rattle.flow_model.specs.Platform.{world_of}
use Rattle.flow_model.proofs.More.{end_more}
use Rattle.report_model.specs.Ends.{refused_at}
use Rattle.joined_traffic.specs.Accesses.{sum_below, txn_of}
use Rattle.joined_traffic.specs.Issued.{Before, EndsBefore, HasReply}
use Rattle.script_engine.specs.declared.part.Part.TheVariants.{Asks}
use Rattle.script_engine.specs.declared.part.Transfer.{Transfer}
use Rattle.script_engine.specs.State.{State, next_of, payload_of}
use Rattle.script_engine.specs.Asking.{numbers_at, request_for}
use Rattle.port_model.specs.Stages.{HasTickets, IsBack, Stage, ahead, charged, count_of, end_by, moved, outstanding_by, price, under_by}
use Rattle.port_model.specs.Stages.Stage.{Ahead, Under, Back}
use Rattle.port_model.specs.Way.{Agrees, HasAccesses, HasEntries, HasWaitedFor, IsBegun, IsTimeOf, IsUnderWay, Port, Replied, pending, refused_in, top}
use Rattle.port_model.specs.Laws.{AreBelow, HasTaken, Knows, next_request, refused_for}
use Rattle.port_model.proofs.Kept.{Grows, agrees_less, get_kept, get_last, get_new, returned_more}
use Rattle.port_model.proofs.Sums.{more_differs, moved_here, moved_other, part, same_or_not, settled_same, sum_moved}
use Rattle.port_model.proofs.Ops.{IsAccessKind, more_numbers, refused_same, seq_of, transports}
use Rattle.port_model.proofs.Begins.{entries_more, old_accesses}
use Rattle.port_model.specs.Closings.{HaveReturned, invalidates_at, open_gates}
use Rattle.port_model.proofs.ClosingLemmas.{all_less, open_less}

back_ahead : (v : Stage) → v ≡ Ahead → IsBack v → ⊥
back_ahead Ahead q b = b
back_ahead Under q b = b
back_ahead (Back end calls) q b = cc

under_ahead : Under ≡ Ahead → ⊥
under_ahead q = cc

under_back : (end : ℕ) (calls : ℕ → ℕ) → Under ≡ Back end calls → ⊥
under_back end calls q = cc

-- what is not ahead and not under way is back
pub is_back : (v : Stage) → (v ≡ Ahead → ⊥) → under_by v ≡ 0 → IsBack v
is_back Ahead a u = absurd (a refl)
is_back Under a u = cc
is_back (Back end calls) a u = tt

pub back_parts : (v : Stage) → IsBack v → (end : ℕ) × (calls : ℕ → ℕ) × (v ≡ Back end calls)
back_parts Ahead b = absurd b
back_parts Under b = absurd b
back_parts (Back end calls) b = (end, calls, refl)

false_true : (b : Bool) → b ≡ false → b ≡ true → ⊥
false_true b q r = cc

pub no_pending : (b : Bool) (e : State) (u g : ℕ) → b ≡ false → pending b e u g ≡ []
no_pending b e u g q = ap (λ (c : Bool). pending c e u g) q

module _ (p : Plan) (i : Initiator) (port : Port) (known : List Event) (seen : ℕ) (left : ObjectNo → ℕ) (u : IsUnderWay p i port known seen left) where
  pub known_before : (n : ℕ) → seen ≤ n → (e : Event) → Among known e → Before known n e
  known_before n l e k = (k, (let b = u.below e k in omega arith))

  -- an entry of its own stands below what was seen
  pub reply_before : (n : ℕ) → seen ≤ n → (s : ℕ) → Replied u.mine (txn_of i.number s) → HasReply u.mine n (txn_of i.number s)
  reply_before n l s r =
      let f = u.has.within r.entry r.has in
      let b = u.below f.event f.known in
      let q : f.event.position ≡ r.entry.position = ap (λ (e : Entry). e.position) f.is in
      record { entry = r.entry; has = r.has; of = r.of; answers = r.answers; early = omega arith }

  -- at a position after all that was seen, what is back was waited for
  pub waited_at : (g n : ℕ) → seen ≤ n → ((j : ℕ) (r : Request) → slice_get u.made j ≡ Some r → r.stage < g → IsBack (u.stage j)) → HasWaitedFor p i known u.made u.mine u.stage g n
  waited_at g n l backs = record {
    back = backs;
    answered = λ j r q less some. reply_before n l j (u.accesses.replied j r q (backs j r q less) some);
    ended = λ j r pass q less passes. (
        let b = back_parts (u.stage j) (backs j r q less) in
        let f = u.accesses.returned j pass b.0 b.1 b.2 passes in
        let e : EndsBefore (world_of p) known n (txn_of i.number j) pass b.0 = record {
          ended = record { event = f.ended.event; known = known_before n l f.ended.event f.ended.known; is = f.ended.is };
          time = end_more (world_of p) (Among known) (Before known n) (known_before n l) (txn_of i.number j) pass 0 b.0 f.time;
        } in
        subst (λ (m : ℕ). EndsBefore (world_of p) known n (txn_of i.number j) pass m) (ap end_by (sym b.2)) e);
  }

  -- all requests that it has made have numbers
  pub few : port.engine.seq ≤ count_of i
  few = let n : port.engine.seq ≤ numbers_at port.engine = omega arith in let c = u.asking.numbers in omega arith

  pub made_count : port.waiting ≡ false → length u.made ≡ port.engine.seq
  made_count quiet =
      ap length (u.asking.is_made ∙ (ap (λ (l : List Request). u.asking.passed ++ l) (no_pending port.waiting port.engine u.asking.blocking u.step quiet) ∙ append-nil u.asking.passed)) ∙ u.asking.count

  pub made_passed : port.waiting ≡ false → u.made ≡ u.asking.passed
  made_passed quiet = u.asking.is_made ∙ (ap (λ (l : List Request). u.asking.passed ++ l) (no_pending port.waiting port.engine u.asking.blocking u.step quiet) ∙ append-nil u.asking.passed)

  -- where nothing is outstanding all that was made is back
  pub all_back : length port.away ≡ 0 → port.waiting ≡ false → (s : ℕ) → s < length u.made → IsBack (u.stage s)
  all_back none quiet s less =
      let c = made_count quiet in
      let f = few in
      let b : under_by (u.stage s) ≤ outstanding_by i u.stage = part (λ k. under_by (u.stage k)) s (count_of i) (omega arith) in
      let z = u.staged.outstanding in
      is_back (u.stage s) (u.staged.begun s less) (omega arith)

  pub low_made : port.waiting ≡ false → (j : ℕ) (r : Request) → slice_get u.made j ≡ Some r → r.stage ≤ u.step
  low_made quiet j r q = let l = u.asking.low j r q in let t : top port.waiting u.step ≡ u.step = ap (λ (b : Bool). top b u.step) quiet in omega arith

module _ (p : Plan) (i : Initiator) (port : Port) (known more : List Event) (seen after : ℕ) (left rest : ObjectNo → ℕ)
    (u : IsUnderWay p i port known seen left) (knows : Knows known more) (below : AreBelow more after) (quiet : port.waiting ≡ false)
    (x : Transfer) (next_is : next_of port.engine ≡ Asks x) (o : IsAccessKind x.kind) (t : HasTaken p i port more seen left rest) where
  abbrev pub s : ℕ
  s = port.engine.seq

  abbrev pub q : Request
  q = request_for x (payload_of port.engine 4096) u.asking.blocking u.step

  abbrev pub made2 : List Request
  made2 = u.made ++ q ∷ []

  abbrev pub stage2 : ℕ → Stage
  stage2 = moved u.stage s Under

  count : length u.made ≡ s
  count = made_count p i port known seen left u quiet

  ahead_now : u.stage s ≡ Ahead
  ahead_now = u.staged.ahead s (let c = count in omega arith)

  within : s < count_of i
  within = let l = more_numbers port.engine x next_is in let c = u.asking.numbers in omega arith

  pub asked_here : slice_get made2 s ≡ Some q
  asked_here = subst (λ (n : ℕ). slice_get made2 n ≡ Some q) count (get_last u.made q)

  back_kept : (k : ℕ) → IsBack (u.stage k) → stage2 k ≡ u.stage k
  back_kept k b = elim (same_or_not k s) [
    | inl e ↦ absurd (back_ahead (u.stage k) (ap u.stage e ∙ ahead_now) b)
    | inr d ↦ moved_other u.stage s Under k d
  ]

  module _ (no_less : u.step ≤ q.stage) (backs : (j : ℕ) (r : Request) → slice_get u.made j ≡ Some r → r.stage < q.stage → IsBack (u.stage j)) (is_time : IsTimeOf i u.stage s port.time) where
    pub grows : Grows known more u.made made2 u.mine u.mine u.stage stage2 u.step
    grows = record {
      knows = knows;
      kept = λ j r e. get_kept u.made (q ∷ []) j r e;
      new = λ j r e. elim (get_new u.made q j r e) [ inl a ↦ inl a | inr b ↦ inr (let c : q.stage ≡ r.stage = ap (λ (d : Request). d.stage) b.1 in omega arith) ];
      has = λ e m. m;
      back = back_kept;
      low = low_made p i port known seen left u quiet;
      cut = λ y m is. inl m;
    }

    less_agrees : (end : ℕ → ℕ) → Agrees stage2 end → Agrees u.stage end
    less_agrees = agrees_less p i known more u.made made2 u.mine u.mine u.stage stage2 u.step grows

    pub taken : IsBegun p i more made2 u.mine stage2 s
    taken = record {
      request = q;
      asked = asked_here;
      access = _;
      transport = transports x (payload_of port.engine 4096) u.asking.blocking u.step o;
      issued = port.time;
      is_issued = λ end a. is_time end (less_agrees end a);
      take = t.take;
      waited = (let w = waited_at p i port known seen left u q.stage t.take.event.position t.later backs in
          record {
            back = λ j r e less. elim (get_new u.made q j r e) [
              | inl a ↦ subst IsBack (sym (back_kept j (backs j r a less))) (backs j r a less)
              | inr b ↦ absurd (let c : q.stage ≡ r.stage = ap (λ (d : Request). d.stage) b.1 in omega arith)
            ];
            answered = λ j r e less some. elim (get_new u.made q j r e) [
              | inl a ↦ w.answered j r a less some
              | inr b ↦ absurd (let c : q.stage ≡ r.stage = ap (λ (d : Request). d.stage) b.1 in omega arith)
            ];
            ended = λ j r pass e less passes. elim (get_new u.made q j r e) [
              | inl a ↦ (let f = w.ended j r pass a less passes in
                  let f2 : EndsBefore (world_of p) known t.take.event.position (txn_of i.number j) pass (end_by (stage2 j)) = subst (λ (v : Stage). EndsBefore (world_of p) known t.take.event.position (txn_of i.number j) pass (end_by v)) (sym (back_kept j (backs j r a less))) f in
                  record {
                    ended = record { event = f2.ended.event; known = (knows f2.ended.event f2.ended.known.0, f2.ended.known.1); is = f2.ended.is };
                    time = end_more (world_of p) (Before known t.take.event.position) (Before more t.take.event.position) (λ d k. (knows d k.0, k.1)) (txn_of i.number j) pass 0 (end_by (stage2 j)) f2.time;
                  })
              | inr b ↦ absurd (let c : q.stage ≡ r.stage = ap (λ (d : Request). d.stage) b.1 in omega arith)
            ];
          });
      returned = λ y m is less h all. u.returned t.take.event.position (λ e k. (let b = u.below e k in let l = t.later in omega arith)) y m is (let c = count in omega arith) h (all_less known more h knows all);
    }

    -- its invalidations have returned, and the tickets for closings are there
    pub returned2 : (n : ℕ) → ((e : Event) → Among more e → e.position < n) → HaveReturned more u.mine (length made2) n
    returned2 n all y m is less h has =
        let b = u.has.back y m in
        u.returned n (λ e k. all e (knows e k)) y m is (below_made y.txn.seq b) h (all_less known more h knows has)
      where
        below_made : (k : ℕ) → IsBack (u.stage k) → k < length u.made
        below_made k b = elim (under_or_past k (length u.made)) [ inl l ↦ l | inr l ↦ absurd (back_ahead (u.stage k) (u.staged.ahead k l) b) ]
          where
            under_or_past : (a b : ℕ) → (a < b) ⊎ (b ≤ a)
            under_or_past a b = grind arith

    pub closes2 : (m : ℕ) → IsTrue (invalidates_at p i m) → sum_below (λ k. ahead p i (Memory m) k (stage2 k)) (count_of i) + open_gates p m more ≤ rest (Memory m)
    closes2 m is =
        let moves : sum_below (λ k. ahead p i (Memory m) k (stage2 k)) (count_of i) + ahead p i (Memory m) s (u.stage s) ≡ sum_below (λ k. ahead p i (Memory m) k (u.stage k)) (count_of i) + 0 = sum_moved (λ k v. ahead p i (Memory m) k v) u.stage s Under (count_of i) within in
        let z : ahead p i (Memory m) s (u.stage s) ≡ price p i (Memory m) s = ap (ahead p i (Memory m) s) ahead_now in
        let old = u.closes m is in
        let pay = t.pays (Memory m) in
        let l = open_less p m known more knows in
        omega arith

    not_back : (end : ℕ) (calls : ℕ → ℕ) → stage2 s ≡ Back end calls → ⊥
    not_back end calls e = under_back end calls (sym (moved_here u.stage s Under) ∙ e)

    long2 : length made2 ≡ s + 1
    long2 = let c = count in let l : length made2 ≡ length u.made + 1 = length-append u.made (q ∷ []) in omega arith

    pub accesses2 : HasAccesses p i more made2 u.mine stage2
    accesses2 = record {
      begun = λ k pass less passes. elim (same_or_not k s) [
        | inl e ↦ subst (IsBegun p i more made2 u.mine stage2) (sym e) taken
        | inr d ↦ old_accesses p i known more u.made made2 u.mine u.stage stage2 u.step grows u.accesses k pass (short k less d) passes
      ];
      returned = λ k pass end calls b passes. elim (same_or_not k s) [
        | inl e ↦ absurd (not_back end calls (ap stage2 (sym e) ∙ b))
        | inr d ↦ returned_more p i known more u.made made2 u.mine u.mine u.stage stage2 u.step grows k pass end calls (u.accesses.returned k pass end calls (sym (moved_other u.stage s Under k d) ∙ b) passes)
      ];
      no_end = λ k none. elim (same_or_not k s) [
        | inl e ↦ ap (λ (m : ℕ). end_by (stage2 m)) e ∙ ap end_by (moved_here u.stage s Under)
        | inr d ↦ ap end_by (moved_other u.stage s Under k d) ∙ u.accesses.no_end k none
      ];
      replied = λ k r e b some. elim (same_or_not k s) [
        | inl f ↦ absurd (subst IsBack (ap stage2 f ∙ moved_here u.stage s Under) b)
        | inr d ↦ elim (get_new u.made q k r e) [
          | inl a ↦ u.accesses.replied k r a (subst IsBack (moved_other u.stage s Under k d) b) some
          | inr c ↦ absurd (differs k d (c.0 ∙ count))
        ]
      ];
    }
      where
        differs : (k : ℕ) → nat_eq k s ≡ false → k ≡ s → ⊥
        differs k d e = false_true (nat_eq k s) d (eq-eqb k s e)

        short : (k : ℕ) → k < length made2 → nat_eq k s ≡ false → k < length u.made
        short k less d = elim (three k s (let l = long2 in omega arith)) [ inl e ↦ absurd (differs k d e) | inr l ↦ (let c = count in omega arith) ]
          where
            three : (k s : ℕ) → k < s + 1 → (k ≡ s) ⊎ (k < s)
            three k s l = grind arith

    pub entries2 : HasEntries p i more made2 u.mine stage2
    entries2 = entries_more p i known more u.made made2 u.mine u.stage stage2 u.step grows u.has

    pub tickets2 : HasTickets p i stage2 u.mine rest
    tickets2 = record {
      paid = λ b. (
          let m : sum_below (λ k. charged p i b k (stage2 k)) (count_of i) + charged p i b s (u.stage s) ≡ sum_below (λ k. charged p i b k (u.stage k)) (count_of i) + price p i b s = sum_moved (λ k v. charged p i b k v) u.stage s Under (count_of i) within in
          let z : charged p i b s (u.stage s) ≡ 0 = ap (charged p i b s) ahead_now in
          let old = u.tickets.paid b in
          let pay = t.pays b in
          omega arith);
      enough = λ b. (
          let m : sum_below (λ k. ahead p i b k (stage2 k)) (count_of i) + ahead p i b s (u.stage s) ≡ sum_below (λ k. ahead p i b k (u.stage k)) (count_of i) + 0 = sum_moved (λ k v. ahead p i b k v) u.stage s Under (count_of i) within in
          let z : ahead p i b s (u.stage s) ≡ price p i b s = ap (ahead p i b s) ahead_now in
          let old = u.tickets.enough b in
          let pay = t.pays b in
          omega arith);
    }

    pub outstanding2 : length (s ∷ port.away) ≡ outstanding_by i stage2
    outstanding2 =
        let m : sum_below (λ k. under_by (stage2 k)) (count_of i) + under_by (u.stage s) ≡ sum_below (λ k. under_by (u.stage k)) (count_of i) + 1 = sum_moved (λ k v. under_by v) u.stage s Under (count_of i) within in
        let z : under_by (u.stage s) ≡ 0 = ap under_by ahead_now in
        let old = u.staged.outstanding in
        let l : length (s ∷ port.away) ≡ suc (length port.away) = refl in
        omega arith

    pub under2 : (k : ℕ) → Among (s ∷ port.away) k → stage2 k ≡ Under
    under2 k (inl e) = ap stage2 (sym e) ∙ moved_here u.stage s Under
    under2 k (inr m) = elim (same_or_not k s) [
      | inl e ↦ ap stage2 e ∙ moved_here u.stage s Under
      | inr d ↦ moved_other u.stage s Under k d ∙ u.staged.under k m
    ]

    pub begun2 : (k : ℕ) → k < length made2 → stage2 k ≡ Ahead → ⊥
    begun2 k less e = elim (same_or_not k s) [
      | inl f ↦ under_ahead (sym (moved_here u.stage s Under) ∙ (ap stage2 (sym f) ∙ e))
      | inr d ↦ u.staged.begun k (let l = long2 in let c = count in smaller k d (omega arith)) (sym (moved_other u.stage s Under k d) ∙ e)
    ]
      where
        smaller : (k : ℕ) → nat_eq k s ≡ false → k < s + 1 → k < length u.made
        smaller k d less = elim (three k s less) [ inl e ↦ absurd (false_true (nat_eq k s) d (eq-eqb k s e)) | inr l ↦ (let c = count in omega arith) ]
          where
            three : (k s : ℕ) → k < s + 1 → (k ≡ s) ⊎ (k < s)
            three k s l = grind arith

    pub ahead2 : (k : ℕ) → length made2 ≤ k → stage2 k ≡ Ahead
    ahead2 k l = let g = long2 in let c = count in moved_other u.stage s Under k (more_differs k s (omega arith)) ∙ u.staged.ahead k (omega arith)

    pub latest2 : port.latest ≡ settled (λ k. end_by (stage2 k)) (count_of i) 0
    latest2 = u.issuing.latest ∙ settled_same (λ k. end_by (u.stage k)) (λ k. end_by (stage2 k)) (count_of i) 0 (λ j less. same j)
      where
        same : (j : ℕ) → end_by (u.stage j) ≡ end_by (stage2 j)
        same j = elim (same_or_not j s) [
          | inl e ↦ ap (λ (k : ℕ). end_by (u.stage k)) e ∙ (ap end_by ahead_now ∙ (ap end_by (sym (moved_here u.stage s Under)) ∙ ap (λ (k : ℕ). end_by (stage2 k)) (sym e)))
          | inr d ↦ ap end_by (sym (moved_other u.stage s Under j d))
        ]

    pub refused2 : (end : ℕ → ℕ) → Agrees stage2 end → port.refused ++ refused_for p i (next_request port x) port.time ≡ refused_in p i end made2
    refused2 end a =
        let old : port.refused ≡ map (λ (r : Request). refused_at r (get_or (issues_from end 0 0 i.script) r.seq 0)) (filter (λ (r : Request). has_no_route p.platform i r r.asked) u.made) = u.refused end (less_agrees end a) in
        let when : get_or (issues_from end 0 0 i.script) q.seq 0 ≡ port.time =
        ap (λ (n : ℕ). get_or (issues_from end 0 0 i.script) n 0) (seq_of port.engine x next_is) ∙ is_time end (less_agrees end a) in
        let same : refused_for p i (next_request port x) port.time ≡ refused_for p i q port.time = refused_same p i x (payload_of port.engine 4096) u.asking.blocking u.step port.time in
        ap (λ (l : List RefusedItem). l ++ refused_for p i (next_request port x) port.time) old
        ∙ (ap (λ (l : List RefusedItem). map (λ (r : Request). refused_at r (get_or (issues_from end 0 0 i.script) r.seq 0)) (filter (λ (r : Request). has_no_route p.platform i r r.asked) u.made) ++ l) (same ∙ one (has_no_route p.platform i q q.asked) port.time 0 (sym when))
        ∙ (sym (map-append (λ (r : Request). refused_at r (get_or (issues_from end 0 0 i.script) r.seq 0)) (filter (λ (r : Request). has_no_route p.platform i r r.asked) u.made) (filter (λ (r : Request). has_no_route p.platform i r r.asked) (q ∷ [])))
        ∙ ap (map (λ (r : Request). refused_at r (get_or (issues_from end 0 0 i.script) r.seq 0))) (sym (filter-append (λ (r : Request). has_no_route p.platform i r r.asked) u.made (q ∷ [])))))
      where
        one : (b : Bool) (x y : ℕ) → x ≡ get_or (issues_from end 0 0 i.script) q.seq 0 → cond b (refused_at q x ∷ []) [] ≡ map (λ (r : Request). refused_at r (get_or (issues_from end 0 0 i.script) r.seq 0)) (cond b (q ∷ []) [])
        one false x y e = refl
        one true x y e = ap (λ (n : ℕ). refused_at q n ∷ []) e
