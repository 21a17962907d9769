-- What each step of a pump leaves.
use Rattle.std.proofs.Common.{◌≡◌, ℕ, ◌<◌, Bool, true, false, List, [], ◌∷◌, ◌++◌, length, get_or, Option, Some, None, refl, sym, ap, subst, ◌∙◌, inl, inr, arith}
use Rattle.std.specs.List.{AllByRecursion}
use Rattle.std.specs.Prelude.{IsSome, is_some}
use Rattle.atomic_table.specs.Seated.{TableId}
use Rattle.view_lists.specs.Lists.{Within}
use Rattle.one_history.specs.declared.entry.Entry.{Entry}
use Rattle.one_history.specs.declared.view.Frame.{Frame}
use Rattle.one_history.specs.declared.view.View.{View}
use Rattle.tlm_types.specs.declared.entry.Content.{Content}
use Rattle.tlm_model.specs.declared.platform.Target.TheVariants.{Memory}
use Rattle.tlm_model.specs.Plan.{Plan}
use Rattle.tlm_model.specs.Route.{later}
use Rattle.event_queue.specs.EventQueue.{Events, first_time, notified, place_after}
use Rattle.route_plan.specs.Valid.{hop_count}
use Rattle.plat_net.specs.Places.{LeadsTo, memory_place}
use Rattle.target_node.specs.Items.{HasResponded, HasServedAt, IsWaiting}
use Rattle.target_node.specs.Node.{DoesNothing, FindsFirst, FindsNone, HasSent, HasServedFirst, IsQueued, IsTarget, IsToSend, Sends, SendsNot, Serves, ServesNext, ServesOne, TakesIn, end_looks}
use Rattle.target_node.specs.declared.items.FromHop.{FromHop}
use Rattle.target_node.specs.declared.items.MemoryRequest.{MemoryRequest}
use Rattle.target_node.specs.declared.items.MemoryResponse.{MemoryResponse}
use Rattle.target_node.specs.declared.node.TargetNode.{TargetNode}
use Rattle.node_hops.proofs.Looks.{of_some}
use Rattle.target_node.proofs.Keeps.{all_insert, held_more, keeps, queued_more, served_to_send}

same_response : (r h : MemoryResponse) → Some r ≡ Some h → r ≡ h
same_response r h q = cc

no_response : (r : MemoryResponse) → Some r ≡ None → ⊥
no_response r q = cc

module _ (frame : Frame Plan) (tokens : TableId) (t : TargetNode) where
  -- the response that was held was sent
  pub sends_gone : (o : Option MemoryResponse) (r : MemoryResponse) (was is : View Content Plan) → t.held ≡ Some r → o ≡ None → HasResponded frame tokens r was is None → Sends frame tokens t (record t { held = o }) was is
  sends_gone o r was is held gone sent = record { held = r; held_is = held; sent = sent; gone = ap (λ (q : Option MemoryResponse). record t { held = q }) gone }

  pub sends_not : (r back : MemoryResponse) (was is : View Content Plan) → t.held ≡ Some r → HasResponded frame tokens r was is (Some back) → SendsNot frame tokens t (record t { held = Some back }) was is
  sends_not r back was is held refused = record {
    none = λ q. absurd (no_response r (sym held ∙ q));
    refused = λ h at. (back, subst (λ (x : MemoryResponse). HasResponded frame tokens x was is (Some back)) (same_response r h (sym held ∙ at)) refused, refl);
  }

  module _ (known back : List (Entry Content)) (w : Within known back) (is : IsTarget frame tokens t known) where
    pub gone_keeps : (o : Option MemoryResponse) → o ≡ None → IsTarget frame tokens (record t { held = o }) back
    gone_keeps o gone = subst (λ (q : Option MemoryResponse). IsTarget frame tokens (record t { held = q }) back) (sym gone) (keeps frame tokens known back w t t.queue.entries None is (queued_more frame tokens known back w t.memory t.latency t.queue.entries is.queue) tt)

    pub refused_keeps : (r same : MemoryResponse) (was new : View Content Plan) → new.known ≡ back → t.held ≡ Some r → HasResponded frame tokens r was new (Some same) → IsTarget frame tokens (record t { held = Some same }) back
    refused_keeps r same was new at held refused =
        let old : IsToSend frame tokens t.memory known r = of_some (IsToSend frame tokens t.memory known) t.held r held is.held in
        let can = subst (λ (xs : List (Entry Content)). IsToSend frame tokens t.memory xs same) at (record { below = subst (λ (h : ℕ). h < hop_count frame.world.platform) (sym refused.0) old.below; leads = subst (λ (h : ℕ). LeadsTo frame.world.platform h (Memory t.memory)) (sym refused.0) old.leads; can = refused.4 }) in
        keeps frame tokens known back w t t.queue.entries (Some same) is (queued_more frame tokens known back w t.memory t.latency t.queue.entries is.queue) can

    pub taken_keeps : (q : Events MemoryRequest) (r : MemoryRequest) (at : ℕ) → q ≡ (let old = t.queue in record old { entries = notified old.entries r at }) → at ≡ later r.at t.latency → r.hop < hop_count frame.world.platform → IsWaiting frame tokens t.memory back r → IsTarget frame tokens (record t { queue = q }) back
    taken_keeps q r at put due below waits =
        let one : IsQueued frame tokens t.memory t.latency back (at, r) = record { due = due; below = below; waits = waits } in
        let old = queued_more frame tokens known back w t.memory t.latency t.queue.entries is.queue in
        let all = all_insert (IsQueued frame tokens t.memory t.latency back) t.queue.entries (place_after t.queue.entries at) (at, r) one old in
        subst (λ (p : Events MemoryRequest). IsTarget frame tokens (record t { queue = p }) back) (sym put) (record { memory = is.memory; hops = is.hops; accepts = is.accepts; latency = is.latency; queue = all; held = held_more frame tokens known back w t.memory t.held is.held })

    -- the first of the queue
    pub first_of : (e : ℕ × MemoryRequest) (rest : List (ℕ × MemoryRequest)) → t.queue.entries ≡ e ∷ rest → IsQueued frame tokens t.memory t.latency known e × AllByRecursion (IsQueued frame tokens t.memory t.latency known) rest
    first_of e rest at = subst (λ (es : List (ℕ × MemoryRequest)). AllByRecursion (IsQueued frame tokens t.memory t.latency known) es) at is.queue

    pub served_keeps : (q : Events MemoryRequest) (e : ℕ × MemoryRequest) (a : MemoryResponse) → q.room ≡ t.queue.room → t.queue.entries ≡ e ∷ q.entries → HasServedAt frame tokens t.latency e.1 back a → IsTarget frame tokens (record t { queue = q; held = Some a }) back
    served_keeps q e a room at s =
        let first = first_of e q.entries at in
        record {
          memory = is.memory;
          hops = is.hops;
          accepts = is.accepts;
          latency = is.latency;
          queue = queued_more frame tokens known back w t.memory t.latency q.entries first.1;
          held = (let q = first.0.waits.request in served_to_send frame tokens t.memory t.latency e.1 back a first.0.below q.leads s);
        }

  pub serves_first : (q : Events MemoryRequest) (e : ℕ × MemoryRequest) (a : MemoryResponse) (was is : View Content Plan) → q.room ≡ t.queue.room → t.queue.entries ≡ e ∷ q.entries → HasServedAt frame tokens t.latency e.1 is.known a → is.looks ≡ was.looks ++ (memory_place frame.world t.memory, 0) ∷ []
      → Serves frame tokens t (record t { queue = q; held = Some a }) was is
  serves_first q e a was is room at s look = record {
    at = e.0;
    request = e.1;
    rest = q.entries;
    first = at;
    held = a;
    served = s;
    queued = ap (λ (n : ℕ). record t { queue = record { entries = q.entries; room = n }; held = Some a }) room;
    look = look;
  }

  pub takes_in : (f : FromHop) (r : MemoryRequest) (q : Events MemoryRequest) (at : ℕ) (was mid is : View Content Plan) → FindsFirst frame tokens t.memory t.accepts t.hops.items was mid f → q ≡ (let old = t.queue in record old { entries = notified old.entries r at }) → at ≡ later r.at t.latency
      → r.hop ≡ f.request.hop → IsWaiting frame tokens t.memory is.known r → is.looks ≡ mid.looks ++ end_looks frame.world f.request.hop t.accepts → TakesIn frame tokens t (record t { queue = q }) was is
  takes_in f r q at was mid is found put due here waits looks = record {
    before = found.first.before;
    hop = f.request.hop;
    after = found.first.after;
    hops_are = found.first.hops_are;
    request = r;
    here = here;
    waits = waits;
    queued = ap (λ (p : Events MemoryRequest). record t { queue = p }) (put ∙ ap (λ (n : ℕ). (let old = t.queue in record old { entries = notified old.entries r n })) due);
    looks = looks ∙ ap (λ (l : List (ℕ × ℕ)). l ++ end_looks frame.world f.request.hop t.accepts) found.first.looks;
  }

-- a queue in which something waits gives something at its first time
pub gives_first : (es : List (ℕ × MemoryRequest)) (now : ℕ) → Some now ≡ first_time es → ((k : ℕ) (d : ℕ × MemoryRequest) → k < length es → now < (get_or es k d).0) → ⊥
gives_first [] now at all = cc
gives_first (e ∷ es) now at all = let q = one now e.0 at in let l = all 0 e (omega arith) in omega (arith, q, l)
  where
    one : (a b : ℕ) → Some a ≡ Some b → a ≡ b
    one a b q = cc

-- where nothing was served, all is as it was
module _ (frame : Frame Plan) (tokens : TableId) (old tried looked : TargetNode) (was then is : View Content Plan) (not_sent : SendsNot frame tokens old tried was then) (none : FindsNone frame tokens tried looked then is) where
  pub does_nothing_held : IsSome looked.held → DoesNothing frame tokens old looked was is
  does_nothing_held some = record { tried = tried; then = then; not_sent = not_sent; none = none; why = inl some }

  pub does_nothing_empty : (new : TargetNode) (end : View Content Plan) → looked.held ≡ None → HasServedFirst frame tokens looked new is end false → DoesNothing frame tokens old new was end
  does_nothing_empty new end free idle =
      subst (λ (v : View Content Plan). DoesNothing frame tokens old new was v) (sym idle.2) (subst (λ (n : TargetNode). DoesNothing frame tokens old n was is) (sym idle.1)
      (record { tried = tried; then = then; not_sent = not_sent; none = none; why = inr (free, idle.0) }))

  free_before : looked.held ≡ None → old.held ≡ None
  free_before free = go old.held refl
    where
      go : (o : Option MemoryResponse) → old.held ≡ o → old.held ≡ None
      go None q = q
      go (Some r) q =
          let s = not_sent.refused r q in
          let h : Some s.0 ≡ None = sym (ap (λ (n : TargetNode). n.held) s.2) ∙ (sym (ap (λ (n : TargetNode). n.held) none.same) ∙ free) in
          absurd (no_response s.0 h)

  pub serves_next : (served : TargetNode) (after : View Content Plan) → looked.held ≡ None → Serves frame tokens looked served is after → ServesNext frame tokens old served was after
  serves_next served after free serves =
      let open_hand = free_before free in
      let same = not_sent.none open_hand in
      record {
        looked = looked;
        then = is;
        free = open_hand;
        none = subst (λ (v : View Content Plan). FindsNone frame tokens old looked v is) same.1 (subst (λ (n : TargetNode). FindsNone frame tokens n looked then is) same.0 none);
        serves = serves;
      }

  pub serves_one : (served new : TargetNode) (after end : View Content Plan) (sent : Bool) → looked.held ≡ None → Serves frame tokens looked served is after → HasSent frame tokens served new after end sent → ServesOne frame tokens old new was end
  serves_one served new after end sent free serves tries =
      let open_hand = free_before free in
      let same = not_sent.none open_hand in
      record {
        looked = looked;
        then = is;
        free = open_hand;
        none = subst (λ (v : View Content Plan). FindsNone frame tokens old looked v is) same.1 (subst (λ (n : TargetNode). FindsNone frame tokens n looked then is) same.0 none);
        served = served;
        after = after;
        serves = serves;
        sent = sent;
        tries = tries;
      }

-- the option is empty
pub is_free : (o : Option MemoryResponse) → false ≡ is_some o → o ≡ None
is_free None q = refl
is_free (Some r) q = cc

pub is_held : (o : Option MemoryResponse) → true ≡ is_some o → IsSome o
is_held o q = sym q
