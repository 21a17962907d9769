-- A port that has finished hands in what the end of a run wants.
use Rattle.std.proofs.Common.{◌≡◌, ℕ, zero, suc, ◌+◌, ◌<◌, ◌≤◌, IsSome, Bool, true, false, cond, max, nat_eq, eq-eqb, List, [], ◌∷◌, ◌++◌, length, Option, Some, None, refl, sym, ap, ◌∙◌, subst, inl, inr, arith, map}
use Rattle.std.specs.Prelude.{slice_get}
use Rattle.std.specs.List.{filter}
use Rattle.std.proofs.lemmas.List.{append-nil}
use Rattle.std.proofs.lemmas.Option.{slice_get_within}
use Rattle.view_lists.specs.Lists.{Has}
use Rattle.tlm_types.specs.declared.words.ObjectNo.{ObjectNo}
use Rattle.tlm_types.specs.declared.words.TxnId.{TxnId}
use Rattle.tlm_types.specs.declared.entry.Access.{Access}
use Rattle.tlm_types.specs.declared.entry.Entry.{Entry}
use Rattle.tlm_model.specs.History.{entries_at, is_object}
use Rattle.tlm_model.specs.Plan.{Plan, Initiator}
use Rattle.tlm_model.specs.Requests.{Request, Transport, requests_of, has_no_route}
use Rattle.tlm_model.specs.Route.{route_of}
use Rattle.flow_model.specs.World.{Passage, hop_at}
use Rattle.flow_model.specs.Events.{Among, Event}
use Rattle.flow_model.specs.Issue.{current_from, settled}
use Rattle.flow_model.specs.Numbers.{EndIs}
use Rattle.flow_model.specs.Platform.{passage_of, world_of}
use Rattle.flow_model.proofs.More.{end_more}
use Rattle.report_model.specs.Ends.{refused_at}
use Rattle.joined_traffic.specs.Accesses.{sum_below, txn_of}
use Rattle.joined_traffic.specs.Issued.{Before, EndsBefore, HasReply}
use Rattle.script_engine.specs.declared.op.Op.{Op}
use Rattle.script_engine.specs.declared.op.Op.TheVariants as next
use Rattle.script_engine.specs.State.{State, is_fenced, op_of}
use Rattle.script_engine.proofs.Steps.{passes}
use Rattle.port_model.specs.Stages.{IsBack, Stage, charged, count_of, end_by}
use Rattle.port_model.specs.Issues.{current_at}
use Rattle.port_model.specs.Way.{Agrees, HasWaitedFor, IsBegun, IsUnderWay, Port, top}
use Rattle.port_model.specs.Laws.{Knows}
use Rattle.port_model.proofs.Kept.{Grows, returned_more}
use Rattle.port_model.proofs.Starts.{numbers_count}
use Rattle.port_model.proofs.Sums.{settled_from, settled_same}
use Rattle.port_model.proofs.Takes.{all_back, made_count, made_passed, q}
use Rattle.view_lists.proofs.Members.{has_later}
use Rattle.route_plan.specs.Counted.{share_at}
use Rattle.port_model.specs.Way.{IsReply}
use Rattle.port_model.proofs.Kept.{served_more}
use Rattle.port_model.proofs.Takes.{back_parts}
use Rattle.port_model.proofs.PlainTakes.{true_false}
use Rattle.std.proofs.Common.{IsTrue, ◌&&◌, ◌||◌, is_none}
use Rattle.std.specs.List.{list_all}
use Rattle.std.specs.Prelude.{is_some, sum_by}
use Rattle.std.proofs.lemmas.List.Sums.{sum_by-append, sum_by-cons}
use Rattle.tlm_types.specs.declared.ends.EndOf.{EndOf}
use Rattle.tlm_types.specs.declared.words.ObjectNo.TheVariants.{Memory, Hop, Pool}
use Rattle.tlm_types.specs.declared.entry.What.{What}
use Rattle.tlm_types.specs.declared.entry.What.TheVariants.{Access as Accessed, Granted, Invalidated, Closed, Call, Take, Acquire, Release}
use Rattle.tlm_model.specs.declared.platform.Style.{Style}
use Rattle.tlm_model.specs.declared.platform.Style.TheVariants.{FourPhase}
use Rattle.tlm_model.specs.declared.platform.Platform.{Platform}
use Rattle.tlm_model.specs.declared.operation.Operation.{Operation}
use Rattle.script_engine.specs.State.{Due, op_at}
use Rattle.port_model.specs.Issues.{current_after}
use Rattle.tlm_model.specs.Plan.{initiators_of}
use Rattle.tlm_model.specs.Requests.{Asked, DebugRead, Invalidation, is_txn}
use Rattle.tlm_model.specs.Route.{Route}
use Rattle.tlm_model.specs.Scripts.{HasWay, IsEntryOf, IsPlaced, has_answer, is_settled}
use Rattle.flow_model.specs.Events.{entries}
use Rattle.joined_traffic.specs.Accesses.{accesses_at, accesses_below, chosen, entries_of, numbers_by, visits}
use Rattle.flow_model.specs.Called.{HasCalled}
use Rattle.joined_traffic.specs.Driven.{HasDriven, HasPaid, IsDriven, spent_at}
use Rattle.joined_traffic.specs.Issued.{HasWaited, IsIssued, issued_at}
use Rattle.joined_traffic.proofs.AccessLemmas.{entry_among, has_answer_of}
use Rattle.joined_traffic.proofs.MemoryLemmas.{among_has, has_among}
use Rattle.joined_traffic.proofs.RequestLemmas.{number_of}
use Rattle.script_engine.proofs.Steps.{ends}
use Rattle.port_model.specs.Stages.{calls_by, made_by}
use Rattle.port_model.specs.Ends.{AreOf, HandsIn, HasIssuedSo, IsEndOfPort, IsPhaseEnd, PortsHandIn}
use Rattle.port_model.proofs.Ops.{not_done}
use Rattle.port_model.proofs.Origins.{address_by, has_address, origin}

is_txn_of : (n s : ℕ) (x : TxnId) → x ≡ txn_of n s → is_txn n s x ≡ true
is_txn_of n s x q = ap (is_txn n s) q ∙ (ap (λ (b : Bool). b && nat_eq s s) (eq-eqb n n refl) ∙ eq-eqb s s refl)

-- facts of lists
all_true : (f : Request → Bool) (rs : List Request) → ((j : ℕ) (r : Request) → slice_get rs j ≡ Some r → f r ≡ true) → list_all f rs ≡ true
all_true f [] g = refl
all_true f (r ∷ rs) g = ap (λ (b : Bool). b && list_all f rs) (g 0 r refl) ∙ all_true f rs (λ j q e. g (suc j) q e)

index_of : (rs : List Request) (r : Request) → Among rs r → (j : ℕ) × (slice_get rs j ≡ Some r)
index_of [] r m = absurd m
index_of (x ∷ rs) r (inl q) = (0, ap (λ (d : Request). Some d) q)
index_of (x ∷ rs) r (inr m) = let f = index_of rs r m in (suc f.0, f.1)

get_some : (rs : List Request) (j : ℕ) → j < length rs → (r : Request) × (slice_get rs j ≡ Some r)
get_some [] j l = absurd (nothing j l)
  where
    nothing : (j : ℕ) → j < 0 → ⊥
    nothing j l = omega arith
get_some (x ∷ rs) zero l = (x, refl)
get_some (x ∷ rs) (suc j) l = get_some rs j (omega arith)

one_request : (q r : Request) (o : Option Request) → o ≡ Some q → o ≡ Some r → q ≡ r
one_request q r o a b = cc

-- what is made at a memory for an access has a route
entry_routed : (p : Platform) (i : ℕ) (o : Option Route) (access : Access) (m : ℕ) (w : What) → IsPlaced p i (Memory m) w → HasWay FourPhase (Transport access) w → IsEntryOf o (Transport access) (Memory m) w → is_some o ≡ true
entry_routed p i (Some r) access m w place way_is e = refl
entry_routed p i None access m (Accessed way a status got) place way_is e = absurd e
entry_routed p i None access m (Granted g f l k) place way_is e = absurd way_is
entry_routed p i None access m (Invalidated f l) place way_is e = absurd e
entry_routed p i None access m (Closed g) place way_is e = absurd way_is
entry_routed p i None access m (Call c b) place way_is e = absurd place
entry_routed p i None access m (Take n) place way_is e = absurd place
entry_routed p i None access m (Acquire n) place way_is e = absurd place
entry_routed p i None access m (Release n f) place way_is e = absurd place

routed_address : (asked : Asked) (a b : ℕ) → ◌≡◌ {A = Option (Option ℕ)} (Some (address_by asked a)) (Some (Some b)) → a ≡ b
routed_address (Transport d) a b e = cc
routed_address (DebugRead d) a b e = cc
routed_address (Invalidation n) a b e = cc

routed_transport : (asked : Asked) (a b : ℕ) → ◌≡◌ {A = Option (Option ℕ)} (Some (address_by asked a)) (Some (Some b)) → (access : Access) × (asked ≡ Transport access)
routed_transport (Transport d) a b e = (d, refl)
routed_transport (DebugRead d) a b e = cc
routed_transport (Invalidation n) a b e = cc

none_at : (o : ObjectNo) (l : List Entry) → ((e : Entry) → Has l e → is_object o e.object ≡ false) → length (entries_at o l) ≡ 0
none_at o [] f = refl
none_at o (e ∷ l) f = go (is_object o e.object) (f e (0, refl)) (none_at o l (λ d m. f d (has_later e l d m)))
  where
    go : (b : Bool) → b ≡ false → length (entries_at o l) ≡ 0 → length (cond b (e ∷ entries_at o l) (entries_at o l)) ≡ 0
    go false q r = r
    go true q r = cc

no_hop : (h : ℕ) (o : ObjectNo) (m : ℕ) → o ≡ Memory m → is_object (Hop h) o ≡ false
no_hop h o m q = ap (is_object (Hop h)) q

no_pool : (n : ℕ) (o : ObjectNo) (m : ℕ) → o ≡ Memory m → is_object (Pool n) o ≡ false
no_pool n o m q = ap (is_object (Pool n)) q

made_zero : (b : Bool) → b ≡ false → (n : ℕ) → made_by b n ≡ 0
made_zero false q n = refl
made_zero true q n = cc

no_memory : (m : ℕ) (x : TxnId) (o : Option Passage) → visits (Memory m) x o ≡ false
no_memory m x None = refl
no_memory m x (Some pass) = refl

entries_same : (p : Plan) (calls : TxnId → ℕ → ℕ) (own : ℕ → ℕ) (o : ObjectNo) (x : TxnId) → ((h : ℕ) → calls x h ≡ own h) → entries_of p calls o x ≡ entries_of p (λ y. own) o x
entries_same p calls own (Hop h) x same = same h
entries_same p calls own (Pool n) x same = refl
entries_same p calls own (Memory m) x same = refl

sum_same : (f g : ℕ → ℕ) (n : ℕ) → ((k : ℕ) → k < n → f k ≡ g k) → sum_below f n ≡ sum_below g n
sum_same f g zero same = refl
sum_same f g (suc n) same =
    let r : sum_below f n ≡ sum_below g n = sum_same f g n (λ k l. same k (omega arith)) in
    let s : f n ≡ g n = same n (omega arith) in
    omega arith

sum_zero : (f : ℕ → ℕ) (n : ℕ) → ((k : ℕ) → k < n → f k ≡ 0) → sum_below f n ≡ 0
sum_zero f zero z = refl
sum_zero f (suc n) z = let r : sum_below f n ≡ 0 = sum_zero f n (λ k l. z k (omega arith)) in let s : f n ≡ 0 = z n (omega arith) in omega arith

-- the sum over the accesses that visit an object is that over all numbers
sum_visits : (p : Plan) (calls : TxnId → ℕ → ℕ) (o : ObjectNo) (k n : ℕ) → sum_by (entries_of p calls o) (accesses_below p o k n) ≡ sum_below (λ s. made_by (visits o (txn_of k s) (passage_of p (txn_of k s))) (entries_of p calls o (txn_of k s))) n
sum_visits p calls o k zero = refl
sum_visits p calls o k (suc s) =
    let r : sum_by (entries_of p calls o) (accesses_below p o k s) ≡ sum_below (λ s. made_by (visits o (txn_of k s) (passage_of p (txn_of k s))) (entries_of p calls o (txn_of k s))) s = sum_visits p calls o k s in
    let a : sum_by (entries_of p calls o) (chosen (visits o (txn_of k s) (passage_of p (txn_of k s))) (txn_of k s) ++ accesses_below p o k s) ≡ sum_by (entries_of p calls o) (chosen (visits o (txn_of k s) (passage_of p (txn_of k s))) (txn_of k s)) + sum_by (entries_of p calls o) (accesses_below p o k s) = sum_by-append (entries_of p calls o) (chosen (visits o (txn_of k s) (passage_of p (txn_of k s))) (txn_of k s)) (accesses_below p o k s) in
    let c : sum_by (entries_of p calls o) (chosen (visits o (txn_of k s) (passage_of p (txn_of k s))) (txn_of k s)) ≡ made_by (visits o (txn_of k s) (passage_of p (txn_of k s))) (entries_of p calls o (txn_of k s)) = one (visits o (txn_of k s) (passage_of p (txn_of k s))) in
    omega arith
  where
    one : (b : Bool) → sum_by (entries_of p calls o) (chosen b (txn_of k s)) ≡ made_by b (entries_of p calls o (txn_of k s))
    one true = let q : sum_by (entries_of p calls o) (txn_of k s ∷ []) ≡ entries_of p calls o (txn_of k s) + sum_by (entries_of p calls o) [] = sum_by-cons (entries_of p calls o) (txn_of k s) [] in let z : sum_by (entries_of p calls o) [] ≡ 0 = refl in omega arith
    one false = refl

module _ (p : Plan) (i : Initiator) (port : Port) (known : List Event) (seen : ℕ) (left : ObjectNo → ℕ) (h : List Event) (issued end : TxnId → ℕ) (calls : TxnId → ℕ → ℕ) (ending : EndOf)
    (u : IsUnderWay p i port known seen left) (is : slice_get (initiators_of p) i.number ≡ Some i) (style : i.row.style ≡ FourPhase) (done : op_of port.engine ≡ next.Done) (none : length port.away ≡ 0)
    (knows : Knows known h) (of : AreOf i u.stage issued end calls) (end_is : IsEndOfPort port ending) where
  done_free : (op : Op) → op ≡ next.Done → is_fenced op ≡ true → ⊥
  done_free op q f = let e : false ≡ true = ap is_fenced (sym q) ∙ f in true_false (sym e)

  quiet : port.waiting ≡ false
  quiet = go port.waiting refl
    where
      go : (b : Bool) → port.waiting ≡ b → port.waiting ≡ false
      go false q = q
      go true q = absurd (done_free (op_of port.engine) done (u.asking.fenced q))

  count : port.engine.seq ≡ count_of i
  count = sym (ends.numbers port.engine done) ∙ u.asking.numbers

  asked : requests_of p.platform i u.mine ≡ u.made
  asked =
      ap (requests_of p.platform i) (sym (append-nil u.mine))
      ∙ (u.asking.asked []
      ∙ (ap (λ (l : List Request). u.asking.passed ++ l) (ends.requests p.platform i (u.mine ++ []) u.asking.blocking u.step port.engine done)
      ∙ (append-nil u.asking.passed ∙ sym (made_passed p i port known seen left u quiet))))

  long : length u.made ≡ count_of i
  long = made_count p i port known seen left u quiet ∙ count

  all : (s : ℕ) → s < count_of i → IsBack (u.stage s)
  all s less = all_back p i port known seen left u none quiet s (let l = long in omega arith)

  abbrev own_end : ℕ → ℕ
  own_end s = end (txn_of i.number s)

  agrees : Agrees u.stage own_end
  agrees s b = of.of_ends s

  grown : Grows known h u.made u.made u.mine u.mine u.stage u.stage (top port.waiting u.step)
  grown = record { knows = knows; kept = λ j r q. q; new = λ j r q. inl q; has = λ e m. m; back = λ s b. refl; low = u.asking.low; cut = λ y m is. inl m }

  -- what the index of a request says is what its number says
  waited : (g n : ℕ) → HasWaitedFor p i known u.made u.mine u.stage g n → HasWaited p h i u.mine end g n
  waited g n w =
      let v = waited_at_end g n w in
      record {
        answered = λ r m less some. (let j = index_of u.made r (subst (λ (l : List Request). Among l r) asked m) in
            subst (λ (k : ℕ). HasReply u.mine n (txn_of i.number k)) (sym (number r j.0 j.1)) (v.answered j.0 r j.1 less some));
        ended = λ r pass m less passes. (let j = index_of u.made r (subst (λ (l : List Request). Among l r) asked m) in
            subst (λ (k : ℕ). EndsBefore (world_of p) h n (txn_of i.number r.seq) pass k) (sym (of.of_ends r.seq))
            (subst (λ (k : ℕ). EndsBefore (world_of p) h n (txn_of i.number k) pass (end_by (u.stage k))) (sym (number r j.0 j.1))
            (v.ended j.0 r pass j.1 less (subst (λ (k : ℕ). passage_of p (txn_of i.number k) ≡ Some pass) (number r j.0 j.1) passes))));
      }
    where
      number : (r : Request) (j : ℕ) → slice_get u.made j ≡ Some r → r.seq ≡ j
      number r j q = number_of p.platform i u.mine j r (ap (λ (l : List Request). slice_get l j) asked ∙ q)

      waited_at_end : (g n : ℕ) → HasWaitedFor p i known u.made u.mine u.stage g n → HasWaitedFor p i h u.made u.mine u.stage g n
      waited_at_end g n w = record {
        back = w.back;
        answered = w.answered;
        ended = λ j r pass q less passes. (let e = w.ended j r pass q less passes in record {
          ended = record { event = e.ended.event; known = (knows e.ended.event e.ended.known.0, e.ended.known.1); is = e.ended.is };
          time = end_more (world_of p) (Before known n) (Before h n) (λ f k. (knows f k.0, k.1)) (txn_of i.number j) pass 0 (end_by (u.stage j)) e.time;
        });
      }

  -- an access by its number
  same_txn : (x : TxnId) → x.initiator ≡ i.number → txn_of i.number x.seq ≡ x
  same_txn x q = ap (λ (n : ℕ). txn_of n x.seq) (sym q)

  begun : (s : ℕ) (pass : Passage) → passage_of p (txn_of i.number s) ≡ Some pass → IsBegun p i known u.made u.mine u.stage s
  begun s pass passes = u.accesses.begun s pass (let a = (has_address p i is s pass passes).below in let l = long in omega arith) passes

  driven_at : (s : ℕ) (pass : Passage) → passage_of p (txn_of i.number s) ≡ Some pass → IsDriven (world_of p) (Among h) (txn_of i.number s) pass (issued (txn_of i.number s)) (calls (txn_of i.number s))
  driven_at s pass passes =
      let a = has_address p i is s pass passes in
      let b = begun s pass passes in
      let v = back_parts (u.stage s) (all s a.below) in
      let r = returned_more p i known h u.made u.made u.mine u.mine u.stage u.stage (top port.waiting u.step) grown s pass v.0 v.1 (u.accesses.returned s pass v.0 v.1 v.2 passes) in
      let when : b.issued ≡ issued (txn_of i.number s) = sym (b.is_issued own_end agrees) ∙ sym (of.of_issued s) in
      record {
        taken = record { event = b.take.event; known = knows b.take.event b.take.known; is = b.take.is; time = b.take.time ∙ when };
        called = λ k less. subst (HasCalled (world_of p) (Among h) (txn_of i.number s) pass k) (sym (of.of_calls s (hop_at pass k) ∙ ap (λ (d : Stage). calls_by d (hop_at pass k)) v.2)) (r.called k less);
      }

  abbrev reply_of : (e : Entry) → Has u.mine e → IsReply p i known e
  reply_of e m = u.has.served e m

  memory_of : (e : Entry) → Has u.mine e → (m : ℕ) × (e.object ≡ Memory m)
  memory_of e m = let r = (u.has.served e m).is in (r.memory, r.stands)

  drives : HasDriven p h issued calls i.number u.mine
  drives = record {
    driven = λ x pass passes own. subst (λ (y : TxnId). IsDriven (world_of p) (Among h) y pass (issued y) (calls y)) (same_txn x own)
        (driven_at x.seq pass (ap (passage_of p) (same_txn x own) ∙ passes));
    once = u.has.once;
    routed = λ x pass e passes m q. (
        let r = u.has.served e m in
        let own : e.txn.initiator ≡ i.number = u.has.own e m in
        let here : passage_of p (txn_of i.number e.txn.seq) ≡ Some pass = ap (passage_of p) (same_txn e.txn own) ∙ (ap (passage_of p) q ∙ passes) in
        let a = has_address p i is e.txn.seq pass here in
        let from = sym (origin p.platform i r.replies r.request e.txn.seq r.asked) ∙ a.is in
        let same : r.request.address ≡ a.address = routed_address r.request.asked r.request.address a.address from in
        let t = routed_transport r.request.asked r.request.address a.address from in
        let routes = entry_routed p.platform e.txn.initiator (route_of p.platform i r.request.address) t.0 r.is.memory e.what
        (subst (λ (o : ObjectNo). IsPlaced p.platform e.txn.initiator o e.what) r.is.stands r.is.place)
        (subst (λ (d : Asked). HasWay FourPhase d e.what) t.1 (subst (λ (y : Style). HasWay y r.request.asked e.what) style r.is.way))
        (subst (λ (o : ObjectNo). IsEntryOf (route_of p.platform i r.request.address) (Transport t.0) o e.what) r.is.stands (subst (λ (d : Asked). IsEntryOf (route_of p.platform i r.request.address) d e.object e.what) t.1 r.is.entry)) in
        subst IsTrue (sym (ap (λ (d : Passage). d.routed) a.way ∙ (ap (λ (n : ℕ). is_some (route_of p.platform i n)) (sym same) ∙ routes))) is_true);
  }
    where
      is_true : IsTrue true
      is_true = refl

  numbers_here : numbers_by (slice_get (initiators_of p) i.number) ≡ count_of i
  numbers_here = ap numbers_by is

  charged_made : (o : ObjectNo) (s : ℕ) → s < count_of i → charged p i o s (u.stage s) ≡ made_by (visits o (txn_of i.number s) (passage_of p (txn_of i.number s))) (entries_of p calls o (txn_of i.number s))
  charged_made o s less =
      let v = back_parts (u.stage s) (all s less) in
      ap (charged p i o s) v.2
      ∙ ap (made_by (visits o (txn_of i.number s) (passage_of p (txn_of i.number s)))) (sym (entries_same p calls v.1 o (txn_of i.number s) (λ n. of.of_calls s n ∙ ap (λ (d : Stage). calls_by d n) v.2)))

  sum_made : (o : ObjectNo) → sum_below (λ s. charged p i o s (u.stage s)) (count_of i) ≡ sum_by (entries_of p calls o) (accesses_at p o i.number)
  sum_made o =
      sum_same (λ s. charged p i o s (u.stage s)) (λ s. made_by (visits o (txn_of i.number s) (passage_of p (txn_of i.number s))) (entries_of p calls o (txn_of i.number s))) (count_of i) (charged_made o)
      ∙ (sym (sum_visits p calls o i.number (count_of i)) ∙ ap (λ (n : ℕ). sum_by (entries_of p calls o) (accesses_below p o i.number n)) (sym numbers_here))

  paid_at : (o : ObjectNo) → share_at p i.number o ≤ spent_at p calls u.mine i.number o + left o
  paid_at (Memory m) =
      let t = u.tickets.paid (Memory m) in
      let z : sum_below (λ s. charged p i (Memory m) s (u.stage s)) (count_of i) ≡ 0 = sum_zero (λ s. charged p i (Memory m) s (u.stage s)) (count_of i)
      (λ s less. charged_made (Memory m) s less ∙ made_zero (visits (Memory m) (txn_of i.number s) (passage_of p (txn_of i.number s))) (no_memory m (txn_of i.number s) (passage_of p (txn_of i.number s))) (entries_of p calls (Memory m) (txn_of i.number s))) in
      omega arith
  paid_at (Hop n) =
      let t = u.tickets.paid (Hop n) in
      let z : length (entries_at (Hop n) u.mine) ≡ 0 = none_at (Hop n) u.mine (λ e m. (let k = memory_of e m in no_hop n e.object k.0 k.1)) in
      let s = sum_made (Hop n) in
      omega arith
  paid_at (Pool n) =
      let t = u.tickets.paid (Pool n) in
      let z : length (entries_at (Pool n) u.mine) ≡ 0 = none_at (Pool n) u.mine (λ e m. (let k = memory_of e m in no_pool n e.object k.0 k.1)) in
      let s = sum_made (Pool n) in
      omega arith

  pays : HasPaid p h calls i.number u.mine left
  pays = record {
    within = λ e m. (let f = u.has.within e m in among_has (entries h) e (subst (Among (entries h)) f.is (entry_among h f.event (knows f.event f.known))));
    distinct = u.has.distinct;
    own = u.has.own;
    paid = paid_at;
  }

  settled_request : (j : ℕ) (r : Request) → slice_get u.made j ≡ Some r → is_settled p.platform i u.mine r ≡ true
  settled_request j r q = go (route_of p.platform i r.address) refl
    where
      go : (o : Option Route) → route_of p.platform i r.address ≡ o → is_settled p.platform i u.mine r ≡ true
      go None e = ap (λ (o : Option Route). is_none o || has_answer i.number r.seq u.mine) e
      go (Some route) e =
          let b = all j (let l = long in let w = slice_get_within u.made j r q in omega arith) in
          let f = u.accesses.replied j r q b (subst IsSome (sym e) refl) in
          let n : r.seq ≡ j = number_of p.platform i u.mine j r (ap (λ (l : List Request). slice_get l j) asked ∙ q) in
          let t : is_txn i.number r.seq f.entry.txn ≡ true = is_txn_of i.number r.seq f.entry.txn (f.of ∙ ap (txn_of i.number) (sym n)) in
          ap (λ (o : Option Route). is_none o || has_answer i.number r.seq u.mine) e
          ∙ has_answer_of i.number r.seq u.mine f.entry (has_among u.mine f.entry f.has) t f.answers

  issued_access : (s : ℕ) (pass : Passage) → passage_of p (txn_of i.number s) ≡ Some pass → IsIssued p h i u.mine end (txn_of i.number s)
  issued_access s pass passes =
      let b = begun s pass passes in
      record {
        request = b.request;
        asked = ap (λ (l : List Request). slice_get l s) asked ∙ b.asked;
        access = b.access;
        transport = b.transport;
        take = record { event = b.take.event; known = knows b.take.event b.take.known; is = b.take.is };
        waited = waited b.request.stage b.take.event.position b.waited;
      }

  issues_so : HasIssuedSo p h issued end i u.mine
  issues_so = record {
    ended = subst IsTrue (sym (ap (list_all (is_settled p.platform i u.mine)) asked ∙ all_true (is_settled p.platform i u.mine) u.made settled_request)) refl;
    replies = λ e m. served_more p i known h u.made u.made u.mine u.mine u.stage u.stage (top port.waiting u.step) grown e (u.has.served e m);
    accesses = λ x pass passes own. subst (IsIssued p h i u.mine end) (same_txn x own) (issued_access x.seq pass (ap (passage_of p) (same_txn x own) ∙ passes));
    times = λ x pass passes own. ap issued (sym (same_txn x own)) ∙ of.of_issued x.seq;
    reads = λ e r m no q. (
        let w = u.has.reads e m no in
        let same : w.request ≡ r = one_request w.request r (slice_get u.made e.txn.seq) w.asked (ap (λ (l : List Request). slice_get l e.txn.seq) (sym asked) ∙ q) in
        (sym (w.is_issued own_end agrees), waited r.stage e.position (subst (λ (d : Request). HasWaitedFor p i known u.made u.mine u.stage d.stage e.position) same w.waited)));
  }

  ends_so : IsPhaseEnd p i u.mine end ending
  ends_so = record {
    transactions = end_is.transactions ∙ (count ∙ sym (numbers_count i.script));
    syncs = end_is.syncs;
    time = (
        let cur : current_from own_end 0 0 i.script ≡ port.time = u.issuing.current own_end agrees ∙ done_current own_end port.time port.engine done in
        let all_ends : settled own_end (count_of i) port.time ≡ settled (λ k. end_by (u.stage k)) (count_of i) port.time = settled_same own_end (λ k. end_by (u.stage k)) (count_of i) port.time (λ j less. of.of_ends j) in
        let from = settled_from (λ k. end_by (u.stage k)) (count_of i) port.time in
        let l = u.issuing.latest in
        end_is.time ∙ (ap (max port.time) l ∙ (sym from ∙ (sym all_ends ∙ (ap (settled own_end (count_of i)) (sym cur) ∙ ap (λ (n : ℕ). settled own_end n (current_from own_end 0 0 i.script)) (sym (numbers_count i.script)))))));
    refused = end_is.refused ∙ (u.refused own_end agrees ∙ ap (λ (l : List Request). map (λ (r : Request). refused_at r (issued_at end i r.seq)) (filter (λ (r : Request). has_no_route p.platform i r r.asked) l)) (sym asked));
  }
    where
      done_current : (f : ℕ → ℕ) (t : ℕ) (e : State) → op_of e ≡ next.Done → current_at f t e ≡ t
      done_current f t e q = by_parts e.due e.remaining e.seq q
        where
          by_parts : (due : Option Due) (ops : List Operation) (s : ℕ) → op_at s due ops ≡ next.Done → current_after f s t due ops ≡ t
          by_parts (Some w) ops s q = cc
          by_parts None [] s q = refl
          by_parts None (op ∷ ops) s q = absurd (not_done s op q)

  known_end : (s : ℕ) (pass : Passage) → passage_of p (txn_of i.number s) ≡ Some pass → EndIs (world_of p) (Among h) (txn_of i.number s) pass 0 (end (txn_of i.number s))
  known_end s pass passes =
      let a = has_address p i is s pass passes in
      let v = back_parts (u.stage s) (all s a.below) in
      let r = returned_more p i known h u.made u.made u.mine u.mine u.stage u.stage (top port.waiting u.step) grown s pass v.0 v.1 (u.accesses.returned s pass v.0 v.1 v.2 passes) in
      subst (EndIs (world_of p) (Among h) (txn_of i.number s) pass 0) (sym (of.of_ends s ∙ ap end_by v.2)) r.time

  hands_in : HandsIn p h issued end calls i u.mine left port ending
  hands_in = record { driven = drives; paid = pays; has_issued = issues_so; end_is = ends_so; known_ends = λ x pass passes own. subst (λ (y : TxnId). EndIs (world_of p) (Among h) y pass 0 (end y)) (same_txn x own) (known_end x.seq pass (ap (passage_of p) (same_txn x own) ∙ passes)) }

pub ports_hand_in : PortsHandIn
ports_hand_in p i port known seen left h issued end calls ending u is style done none knows of end_is = hands_in p i port known seen left h issued end calls ending u is style done none knows of end_is
