-- A core after a turn of an initiator.
use Rattle.std.proofs.Common.{◌≡◌, ℕ, suc, ◌+◌, ◌*◌, ◌<◌, ◌≤◌, inl, inr, List, [], ◌∷◌, ◌++◌, length, take, drop, get_or, Option, Some, None, Bool, true, false, cond, nat_eq, is_none, refl, ap, sym, subst, ◌∙◌, arith, length-append}
use Rattle.std.proofs.Math.Seq.{take-append_seam}
use Rattle.std.specs.Prelude.{slice_get, MatchOption, IsSomeAnd}
use Rattle.std.proofs.Math.ListN.{set}
use Rattle.std.proofs.lemmas.Bool.{false≢true}
use Rattle.std.proofs.lemmas.Bool.Decides.{nat_tests}
use Rattle.std.proofs.lemmas.Option.{MatchOption-at_some, slice_get_read, slice_get_past}
use Rattle.std.proofs.lemmas.List.{length-map}
use Rattle.tlm_types.specs.declared.entry.Entry.{Entry}
use Rattle.tlm_types.specs.declared.words.ObjectNo.TheVariants.{Memory as memory_object}
use Rattle.tlm_model.specs.declared.platform.MemoryRow.{MemoryRow}
use Rattle.tlm_model.specs.declared.platform.Style.TheVariants.{Blocking as blocking_style}
use Rattle.tlm_model.specs.History.{IsNumbered, entries_at, is_object}
use Rattle.tlm_model.specs.Plan.{Plan, Initiator, initiators_of}
use Rattle.tlm_model.specs.Route.{route_of}
use Rattle.tlm_model.proofs.EachLemmas.{append_nil}
use Rattle.good_history.specs.Good.{IsSound}
use Rattle.good_history.proofs.Ungranted.{sound_grows}
use Rattle.region_object.specs.Region.{LoggedMemory, with_logged}
use Rattle.time_board.specs.declared.rounds.Member.{Member}
use Rattle.route_plan.specs.declared.step.Route.{Route}
use Rattle.script_engine.specs.declared.part.Part.TheVariants.{Asks}
use Rattle.script_engine.specs.declared.part.Transfer.{Transfer}
use Rattle.script_engine.specs.Part.{is_fenced_kind}
use Rattle.script_engine.specs.State.{State, next_of, payload_of}
use Rattle.script_engine.proofs.Steps.{ends, fills}
use Rattle.initiator_run.specs.Access.{IsRouteOf, cost_next, entry_made, model_route}
use Rattle.initiator_run.specs.Come.{HasCome, has_ended}
use Rattle.plat_core.specs.Core.{CoreView, IsCore, IsInitiatorStep, IsMemoryAt, IsNodeStep, IsRunOf, IsStep, are_finished, history_of, logs_of}
use Rattle.plat_core.specs.declared.steps.CoreStep.{CoreStep}
use Rattle.initiator_run.specs.Left.{asks_left, bytes_left, leads, total_bytes, total_left}
use Rattle.run_outcome.specs.Merge.{entries_in, merged}
use Rattle.initiator_run.specs.Moves.{HasReached, IsUnderWay, Keeps}
use Rattle.initiator_run.specs.Run.{Run, engine_after}
use Rattle.initiator_run.specs.declared.turn.Turn.{Turn}
use Rattle.initiator_run.specs.declared.turn.Turn.TheVariants.{Made as turn_made, Waits as turn_waits, Ended as turn_ended}
use Rattle.initiator_run.specs.Turns.{IsTurn, HasMadeAccess, HasMovedToEnd, HasMovedToWait, HasRoomAt}
use Rattle.initiator_run.proofs.EndLemmas.{HasCome-other, HasCome-ended, HasCome-open}
use Rattle.initiator_run.proofs.EntryLemmas.{IsAtMemory, KeepsRequests-turn, HasCome-turn, entries_at-push, some_row}
use Rattle.initiator_run.proofs.LeftLemmas.{bytes_after, left_after, leads_there, total-set}
use Rattle.initiator_run.proofs.SendLemmas.{left_of_next, whole_comes_back}
use Rattle.run_outcome.proofs.ListLemmas.{HasElement, at_map, at_set, has_element, length-set', map-set, set-same, within, is_within}
use Rattle.run_outcome.proofs.MergeLemmas.{merged-push, length-by_position}
use Rattle.initiator_run.proofs.RunLemmas.{accessed_finished, accessed_step}
use Rattle.run_outcome.proofs.PlanLemmas.{blocking_at, initiator_number, no_direct, no_fourphase}
use Rattle.initiator_run.proofs.RouteLemmas.{walk_memory}
use Rattle.route_plan.proofs.ShareLemmas.{count_initiators}

-- there is an initiator of each number below the number of the runs
pub initiator_at : (p : Plan) (runs : List Run) (regions : List LoggedMemory) (made k : ℕ) → IsCore p runs regions made → k < length runs → HasElement (initiators_of p) k
initiator_at p runs regions made k core below = has_element (initiators_of p) k (omega (arith, count_initiators 0 p.platform.initiators p.scripts core.valid.scripts, core.run_count))

-- the run of a core is under way
pub run_under_way : (p : Plan) (runs : List Run) (regions : List LoggedMemory) (made k : ℕ) (r : Run) → IsCore p runs regions made → slice_get runs k ≡ Some r → IsUnderWay p r
run_under_way p runs regions made k r core at =
    let i = initiator_at p runs regions made k core (within runs k r at) in
    let own = core.each_run k i.element r i.at at in
    record {
      initiator = i.element;
      history = history_of regions;
      mine = ap (slice_get (initiators_of p)) (own.come.counted.number ∙ initiator_number p k i.element i.at) ∙ i.at;
      come = own.come;
    }

-- what is known of an initiator that takes a turn
pub record HasTurn (p : Plan) (runs : List Run) (regions : List LoggedMemory) (made k : ℕ) (r : Run) : Type 0 where
  pub initiator : Initiator
  pub at : slice_get (initiators_of p) k ≡ Some initiator
  pub number : initiator.number ≡ k
  pub mine : slice_get (initiators_of p) r.engine.initiator ≡ Some initiator
  pub own : IsRunOf p (history_of regions) initiator r
  pub run : slice_get runs k ≡ Some r
  pub blocking : initiator.row.style ≡ blocking_style

pub has_turn : (p : Plan) (runs : List Run) (regions : List LoggedMemory) (made k : ℕ) (r : Run) → IsCore p runs regions made → slice_get runs k ≡ Some r → HasTurn p runs regions made k r
has_turn p runs regions made k r core at =
    let i = initiator_at p runs regions made k core (within runs k r at) in
    let own = core.each_run k i.element r i.at at in
    let number = initiator_number p k i.element i.at in
    record {
      initiator = i.element;
      at = i.at;
      number = number;
      mine = ap (slice_get (initiators_of p)) (own.come.counted.number ∙ number) ∙ i.at;
      own = own;
      run = at;
      blocking = blocking_at p core.blocking k i.element i.at;
    }

-- a run that stands at an access with a route has not finished
not_finished : (p : Plan) (i : Initiator) (h : List Entry) (old new : Run) (x : Transfer) (route : Route) → slice_get (initiators_of p) old.engine.initiator ≡ Some i → IsRunOf p h i old → Keeps p old new → HasReached p new x route → old.finished ≡ true → ⊥
not_finished p i h old new x route mine own keeps reached finished =
    let come = keeps.come i h mine own.come in
    let leads = MatchOption-at_some ⊥ (λ (j : Initiator). IsRouteOf p j x.address route) i (ap (slice_get (initiators_of p)) keeps.initiator ∙ mine) reached.leads in
    let ended : has_ended p.platform i h ≡ true = (HasCome-ended ends p.platform i h old own.come (own.finished finished)).ended in
    let unended : has_ended p.platform i h ≡ false = HasCome-open p.platform i h new x (model_route route) reached.next leads.leads come in
    cc

-- of what all runs are still to make at memory j, so many entries and so many bytes are left no more
pub record IsLess (p : Plan) (j entries bytes : ℕ) (runs next : List Run) : Type 0 where
  pub fewer : total_left p j (initiators_of p) next + entries ≤ total_left p j (initiators_of p) runs
  pub less : total_bytes p j (initiators_of p) next + bytes ≤ total_bytes p j (initiators_of p) runs

less_by_run : (p : Plan) (runs : List Run) (k j n b : ℕ) (i : Initiator) (old new : Run) → slice_get (initiators_of p) k ≡ Some i → slice_get runs k ≡ Some old → asks_left p i j new.engine + n ≤ asks_left p i j old.engine → bytes_left p i j new.engine + b ≤ bytes_left p i j old.engine → IsLess p j n b runs (set runs k new)
less_by_run p runs k j n b i old new mine run fewer less = record {
  fewer = total-set (λ (x : Initiator) (e : State). asks_left p x j e) n (initiators_of p) runs k i old new mine run fewer;
  less = total-set (λ (x : Initiator) (e : State). bytes_left p x j e) b (initiators_of p) runs k i old new mine run less;
}

-- moves without an entry leave no more
less_by_moves : (p : Plan) (runs : List Run) (k j : ℕ) (i : Initiator) (old new : Run) → slice_get (initiators_of p) k ≡ Some i → slice_get (initiators_of p) old.engine.initiator ≡ Some i → slice_get runs k ≡ Some old → Keeps p old new → IsLess p j 0 0 runs (set runs k new)
less_by_moves p runs k j i old new mine own run keeps = less_by_run p runs k j 0 0 i old new mine run (omega (arith, keeps.left i j own)) (omega (arith, keeps.bytes i j))

-- and an access leaves one entry and the bytes of its payload less, at the memory that its address leads to
less_by_access : (p : Plan) (runs : List Run) (k j : ℕ) (i : Initiator) (old middle new : Run) (got : List ℕ) (x : Transfer) → slice_get (initiators_of p) k ≡ Some i → slice_get (initiators_of p) old.engine.initiator ≡ Some i → slice_get runs k ≡ Some old → Keeps p old middle → next_of middle.engine ≡ Asks x → (is_fenced_kind x.kind ≡ true → length got ≡ x.length) → new.engine ≡ engine_after middle.engine got
    → IsLess p j (leads p i j x.address) (cost_next middle * leads p i j x.address) runs (set runs k new)
less_by_access p runs k j i old middle new got x mine own run keeps next whole same =
    let asked : asks_left p i j new.engine ≡ asks_left p i j (engine_after middle.engine got) = ap (asks_left p i j) same in
    let logged : bytes_left p i j new.engine ≡ bytes_left p i j (engine_after middle.engine got) = ap (bytes_left p i j) same in
    let paid : bytes_left p i j (engine_after middle.engine got) + cost_next middle * leads p i j x.address ≡ bytes_left p i j middle.engine = bytes_after p i j 4096 middle.engine got x next whole in
    less_by_run p runs k j (leads p i j x.address) (cost_next middle * leads p i j x.address) i old new mine run
    (omega (arith, asked, left_after p i j middle.engine got x next, keeps.left i j own))
    (omega (arith, logged, paid, keeps.bytes i j))

-- at the memory where its route ends
less_there : (p : Plan) (runs next : List Run) (i : Initiator) (a cost : ℕ) (route : Route) → IsRouteOf p i a route → IsLess p route.memory (leads p i route.memory a) (cost * leads p i route.memory a) runs next → IsLess p route.memory 1 cost runs next
less_there p runs next i a cost route leads is =
    let one = subst (λ (n : ℕ). IsLess p route.memory n (cost * n) runs next) (leads_there p i a (model_route route) leads.leads) is in
    record { fewer = one.fewer; less = omega (arith, one.less) }

no_more : (p : Plan) (j n b : ℕ) (runs next : List Run) → IsLess p j n b runs next → IsLess p j 0 0 runs next
no_more p j n b runs next is = record { fewer = omega (arith, is.fewer); less = omega (arith, is.less) }

memory_moved : (p : Plan) (runs next : List Run) (h : List Entry) (j : ℕ) (m : LoggedMemory) → IsLess p j 0 0 runs next → IsMemoryAt p runs h j m → IsMemoryAt p next h j m
memory_moved p runs next h j m less is = record { number = is.number; row = is.row; log = is.log; few = is.few; roomy = omega (arith, is.roomy, less.fewer); roomy_bytes = omega (arith, is.roomy_bytes, less.less) }

-- the others stay where they are
runs_moved : (p : Plan) (runs : List Run) (h : List Entry) (k : ℕ) (i : Initiator) (new : Run) → slice_get (initiators_of p) k ≡ Some i → IsRunOf p h i new
    → ((j : ℕ) (x : Initiator) (r : Run) → slice_get (initiators_of p) j ≡ Some x → slice_get runs j ≡ Some r → IsRunOf p h x r)
    → (j : ℕ) (x : Initiator) (r : Run) → slice_get (initiators_of p) j ≡ Some x → slice_get (set runs k new) j ≡ Some r → IsRunOf p h x r
runs_moved p runs h k i new mine own each j x r at run =
    elim (at_set runs k j new r run) [
      | inl same ↦
          let same_i : i ≡ x = same_some i x (sym mine ∙ (ap (slice_get (initiators_of p)) (sym same.0) ∙ at)) in
          subst (λ (y : Initiator). IsRunOf p h y r) same_i (subst (IsRunOf p h i) same.1 own)
      | inr other ↦ each j x r at other.1
    ]
  where
    same_some : (a b : Initiator) → Some a ≡ Some b → a ≡ b
    same_some a b q = cc

-- a core whose run has moved to the end of its script
pub core_ended : (p : Plan) (runs : List Run) (regions after : List LoggedMemory) (made k : ℕ) (old new : Run) → IsCore p runs regions made → slice_get runs k ≡ Some old → HasMovedToEnd p old new regions after → IsCore p (set runs k new) after made
core_ended p runs regions after made k old new core at moved =
    let turn = has_turn p runs regions made k old core at in
    subst (λ (x : List LoggedMemory). IsCore p (set runs k new) x made) (sym moved.same) (record {
      valid = core.valid;
      blocking = core.blocking;
      quiet = core.quiet;
      sound = core.sound;
      count = core.count;
      run_count = length-set' runs k new ∙ core.run_count;
      region_count = core.region_count;
      each_run = runs_moved p runs (history_of regions) k turn.initiator new turn.at (record { come = moved.keeps.come turn.initiator (history_of regions) turn.mine turn.own.come; finished = λ f. moved.ended.done }) core.each_run;
      each_region = λ j m is. memory_moved p runs (set runs k new) (history_of regions) j m (less_by_moves p runs k j turn.initiator old new turn.at turn.mine at moved.keeps) (core.each_region j m is);
    })

-- a core whose run has moved to a sync that isn't let through
pub core_waited : (p : Plan) (runs : List Run) (regions after : List LoggedMemory) (members : List Member) (made k : ℕ) (old new : Run) → IsCore p runs regions made → slice_get runs k ≡ Some old → old.finished ≡ false → HasMovedToWait p old new members regions after → IsCore p (set runs k new) after made
core_waited p runs regions after members made k old new core at going moved =
    let turn = has_turn p runs regions made k old core at in
    subst (λ (x : List LoggedMemory). IsCore p (set runs k new) x made) (sym moved.same) (record {
      valid = core.valid;
      blocking = core.blocking;
      quiet = core.quiet;
      sound = core.sound;
      count = core.count;
      run_count = length-set' runs k new ∙ core.run_count;
      region_count = core.region_count;
      each_run = runs_moved p runs (history_of regions) k turn.initiator new turn.at (record { come = moved.keeps.come turn.initiator (history_of regions) turn.mine turn.own.come; finished = λ f. absurd (false≢true (sym (moved.finished ∙ going) ∙ f)) }) core.each_run;
      each_region = λ j m is. memory_moved p runs (set runs k new) (history_of regions) j m (less_by_moves p runs k j turn.initiator old new turn.at turn.mine at moved.keeps) (core.each_region j m is);
    })

-- the memory that a route leads to
record HasMemory (p : Plan) (runs : List Run) (regions : List LoggedMemory) (route : Route) : Type 0 where
  pub region : LoggedMemory
  pub at : slice_get regions route.memory ≡ Some region
  pub is : IsMemoryAt p runs (history_of regions) route.memory region

-- a route ends at a memory of the core
memory_of : (p : Plan) (runs : List Run) (regions : List LoggedMemory) (made : ℕ) (i : Initiator) (a : ℕ) (route : Route) → IsCore p runs regions made → route_of p.platform i a ≡ Some (model_route route) → HasMemory p runs regions route
memory_of p runs regions made i a route core leads =
    let there : is_none (slice_get p.platform.memories route.memory) ≡ false = walk_memory p 9 i.row.bind a 0 (model_route route) leads in
    let found = has_element regions route.memory (omega (arith, is_within p.platform.memories route.memory there, core.region_count)) in
    record { region = found.element; at = found.at; is = core.each_region route.memory found.element found.at }

pub route_at : (p : Plan) (i : Initiator) (old middle : Run) (x : Transfer) (route : Route) → slice_get (initiators_of p) old.engine.initiator ≡ Some i → Keeps p old middle → HasReached p middle x route → IsRouteOf p i x.address route
route_at p i old middle x route mine keeps reached = MatchOption-at_some ⊥ (λ (j : Initiator). IsRouteOf p j x.address route) i (ap (slice_get (initiators_of p)) keeps.initiator ∙ mine) reached.leads

-- a memory has room for the access that a run comes to
pub room_for_access : (p : Plan) (runs : List Run) (regions : List LoggedMemory) (made k : ℕ) (old middle : Run) (x : Transfer) (route : Route) → IsCore p runs regions made → slice_get runs k ≡ Some old → Keeps p old middle → HasReached p middle x route → HasRoomAt regions route.memory (cost_next middle)
room_for_access p runs regions made k old middle x route core at keeps reached =
    let turn = has_turn p runs regions made k old core at in
    let i = turn.initiator in
    let leads = route_at p i old middle x route turn.mine keeps reached in
    let memory = memory_of p runs regions made i x.address route core leads.leads in
    let got = (payload_of middle.engine 4096).bytes in
    let new : Run = record middle { engine = engine_after middle.engine got } in
    let less = less_there p runs (set runs k new) i x.address (cost_next middle) route leads
    (less_by_access p runs k route.memory i old middle new got x turn.at turn.mine at keeps reached.next (λ waits. (fills.transfer middle.engine 4096 x reached.next).1.sized) refl) in
    subst (λ (o : Option LoggedMemory). IsSomeAnd o (λ m. (length m.log.entries < m.log.room) × (cost_next middle ≤ m.log.room_bytes))) (sym memory.at)
    (omega (arith, memory.is.roomy, less.fewer), omega (arith, memory.is.roomy_bytes, less.less))

few_entries : (regions : List LoggedMemory) → ((k : ℕ) (m : LoggedMemory) → slice_get regions k ≡ Some m → length m.log.entries ≤ 1000000) → length (entries_in (logs_of regions)) ≤ 1000000 * length regions
few_entries [] each = omega arith
few_entries (m ∷ regions) each = omega (arith, length-append m.log.entries (entries_in (logs_of regions)), each 0 m refl, few_entries regions (λ k x is. each (suc k) x is))

-- the positions of a core are small
pub few_made : (p : Plan) (runs : List Run) (regions : List LoggedMemory) (made : ℕ) → IsCore p runs regions made → made ≤ 16000000
few_made p runs regions made core =
    omega (
      arith,
      core.count,
      length-by_position (entries_in (logs_of regions)),
      core.region_count,
      core.valid.shape.bounded.memory_count,
      few_entries regions (λ k m is. few_at k m (core.each_region k m is)),
    )
  where
    few_at : (k : ℕ) (m : LoggedMemory) → IsMemoryAt p runs (history_of regions) k m → length m.log.entries ≤ 1000000
    few_at k m is = omega (arith, is.roomy, is.few)

pub history_made : (p : Plan) (old new : Run) (regions after : List LoggedMemory) (made : ℕ) → IsNumbered (history_of regions) → made ≡ length (history_of regions) → (is : HasMadeAccess p old new regions after made) → history_of after ≡ history_of regions ++ entry_made is.middle is.transfer is.region is.route made ∷ []
history_made p old new regions after made numbered count is =
    let e = entry_made is.middle is.transfer is.region is.route made in
    ap history_of is.now
    ∙ (ap merged (map-set (λ (x : LoggedMemory). x.log.entries) regions is.route.memory (with_logged is.region e))
    ∙ merged-push (logs_of regions) is.route.memory is.region.log.entries e (at_map (λ (x : LoggedMemory). x.log.entries) regions is.route.memory is.region is.was) numbered count)

pub at_memory : (p : Plan) (runs : List Run) (h : List Entry) (route : Route) (m : LoggedMemory) → IsMemoryAt p runs h route.memory m → IsAtMemory p h route m
at_memory p runs h route m is =
    let found = some_row (slice_get p.platform.memories route.memory) (λ (row : MemoryRow). m.traits ≡ row.traits) is.row in
    record { row = found.row; memory = found.at; traits = found.has; number = is.number; log = is.log }

apart : (a b : ℕ) → nat_eq a b ≡ false → nat_eq b a ≡ false
apart a b is = grind (arith, nat_tests)

own_memory : (a b : ℕ) → a ≡ b → nat_eq a b ≡ true
own_memory a b is = grind (arith, nat_tests)

-- the run of an initiator, with an entry of another
other_run : (p : Plan) (h : List Entry) (e : Entry) (x : Initiator) (r : Run) (j k : ℕ) → nat_eq j k ≡ false → x.number ≡ j → e.txn.initiator ≡ k → IsRunOf p h x r → IsRunOf p (h ++ e ∷ []) x r
other_run p h e x r j k other number mine is = record {
  come = HasCome-other p.platform x h e r (ap (nat_eq e.txn.initiator) number ∙ (ap (λ (n : ℕ). nat_eq n j) mine ∙ apart j k other)) is.come;
  finished = is.finished;
}

runs_made : (p : Plan) (runs : List Run) (h : List Entry) (e : Entry) (k : ℕ) (i : Initiator) (new : Run) → slice_get (initiators_of p) k ≡ Some i → e.txn.initiator ≡ k → IsRunOf p (h ++ e ∷ []) i new
    → ((j : ℕ) (x : Initiator) (r : Run) → slice_get (initiators_of p) j ≡ Some x → slice_get runs j ≡ Some r → IsRunOf p h x r)
    → (j : ℕ) (x : Initiator) (r : Run) → slice_get (initiators_of p) j ≡ Some x → slice_get (set runs k new) j ≡ Some r → IsRunOf p (h ++ e ∷ []) x r
runs_made p runs h e k i new mine number own each j x r at run =
    elim (at_set runs k j new r run) [
      | inl same ↦
          let same_i : i ≡ x = same_some i x (sym mine ∙ (ap (slice_get (initiators_of p)) (sym same.0) ∙ at)) in
          subst (λ (y : Initiator). IsRunOf p (h ++ e ∷ []) y r) same_i (subst (IsRunOf p (h ++ e ∷ []) i) same.1 own)
      | inr other ↦ other_run p h e x r j k other.0 (initiator_number p j x at) number (each j x r at other.1)
    ]
  where
    same_some : (a b : Initiator) → Some a ≡ Some b → a ≡ b
    same_some a b q = cc

-- the memory at which the entry was made
memory_made : (p : Plan) (runs next : List Run) (h : List Entry) (e : Entry) (k cost : ℕ) (m : LoggedMemory) → IsMemoryAt p runs h k m → e.object ≡ memory_object m.number → m.log.room_bytes ≤ (with_logged m e).log.room_bytes + cost → IsLess p k 1 cost runs next → IsMemoryAt p next (h ++ e ∷ []) k (with_logged m e)
memory_made p runs next h e k cost m is object left less = record {
  number = is.number;
  row = is.row;
  log =
      ap (λ (l : List Entry). l ++ e ∷ []) is.log
      ∙ sym (entries_at-push (memory_object k) h e
      ∙ ap (λ (b : Bool). entries_at (memory_object k) h ++ cond b (e ∷ []) []) (ap (is_object (memory_object k)) object ∙ own_memory m.number k is.number));
  few = is.few;
  roomy = omega (arith, length-append m.log.entries (e ∷ []), is.roomy, less.fewer);
  roomy_bytes = omega (arith, is.roomy_bytes, left, less.less);
}

-- another memory
memory_kept : (p : Plan) (runs next_runs : List Run) (h : List Entry) (e : Entry) (j n : ℕ) (m : LoggedMemory) → IsMemoryAt p runs h j m → e.object ≡ memory_object n → nat_eq j n ≡ false → IsLess p j 0 0 runs next_runs → IsMemoryAt p next_runs (h ++ e ∷ []) j m
memory_kept p runs next_runs h e j n m is object other less = record {
  number = is.number;
  row = is.row;
  log =
      is.log
      ∙ sym (entries_at-push (memory_object j) h e
      ∙ (ap (λ (b : Bool). entries_at (memory_object j) h ++ cond b (e ∷ []) []) (ap (is_object (memory_object j)) object ∙ apart j n other)
      ∙ append_nil (entries_at (memory_object j) h)));
  few = is.few;
  roomy = omega (arith, is.roomy, less.fewer);
  roomy_bytes = omega (arith, is.roomy_bytes, less.less);
}

-- a core whose run has made an access
pub core_made : (p : Plan) (runs : List Run) (regions after : List LoggedMemory) (made k : ℕ) (old new : Run) → IsCore p runs regions made → slice_get runs k ≡ Some old → HasMadeAccess p old new regions after made → IsCore p (set runs k new) after (made + 1)
core_made p runs regions after made k old new core at is =
    let h = history_of regions in
    let turn = has_turn p runs regions made k old core at in
    let i = turn.initiator in
    let route = route_at p i old is.middle is.transfer is.route turn.mine is.keeps is.reached in
    let memory = core.each_region is.route.memory is.region is.was in
    let come = is.keeps.come i h turn.mine turn.own.come in
    let same : history_of after ≡ h ++ e ∷ [] = history_made p old new regions after made core.sound.requests.numbered core.count is in
    let mine : slice_get (initiators_of p) i.number ≡ Some i = ap (slice_get (initiators_of p)) turn.number ∙ turn.at in
    let engine : new.engine ≡ engine_after is.middle.engine is.got = ap (λ (r : Run). r.engine) is.run ∙ accessed_step is.transfer is.route.latency is.got is.middle in
    let whole : is_fenced_kind is.transfer.kind ≡ true → length is.got ≡ is.transfer.length =
    λ waits. ap length (is.told waits) ∙ whole_comes_back is.middle is.transfer is.region is.route is.reached.next waits in
    let left : (y : ℕ) → IsLess p y (leads p i y is.transfer.address) (cost_next is.middle * leads p i y is.transfer.address) runs (set runs k new) =
    λ y. less_by_access p runs k y i old is.middle new is.got is.transfer turn.at turn.mine at is.keeps is.reached.next whole engine in
    let own : IsRunOf p (h ++ e ∷ []) i new = record {
      come = subst (HasCome p.platform i (h ++ e ∷ [])) (sym is.run) (HasCome-turn p i h is.middle is.transfer is.region is.route made is.got come is.reached.next route memory.number is.told);
      finished = λ f. absurd (not_finished p i h old is.middle is.transfer is.route turn.mine turn.own is.keeps is.reached (sym is.finished ∙ (sym (ap (λ (r : Run). r.finished) is.run ∙ accessed_finished is.transfer is.route.latency is.got is.middle) ∙ f)));
    } in
    record {
      valid = core.valid;
      blocking = core.blocking;
      quiet = core.quiet;
      sound = subst (IsSound p) (sym same) (sound_grows p h e (no_fourphase p core.blocking) (no_direct p core.blocking) core.sound tt tt (KeepsRequests-turn p i h is.middle is.transfer is.region is.route made core.sound.requests mine turn.blocking come is.reached.next route (at_memory p runs h is.route is.region memory) core.count));
      count = sym (ap length same ∙ (length-append h (e ∷ []) ∙ ap (λ (n : ℕ). n + 1) (sym core.count)));
      run_count = length-set' runs k new ∙ core.run_count;
      region_count = ap length is.now ∙ (length-set' regions is.route.memory (with_logged is.region e) ∙ core.region_count);
      each_run = λ j x r at_j run. subst (λ (l : List Entry). IsRunOf p l x r) (sym same) (runs_made p runs h e k i new turn.at (come.counted.number ∙ turn.number) own core.each_run j x r at_j run);
      each_region = λ j m here. subst (λ (l : List Entry). IsMemoryAt p (set runs k new) l j m) (sym same)
          (regions_made j m memory (subst (λ (x : List LoggedMemory). slice_get x j ≡ Some m) is.now here)
          (λ y. no_more p y _ _ runs (set runs k new) (left y))
          (less_there p runs (set runs k new) i is.transfer.address (cost_next is.middle) is.route route (left is.route.memory)));
    }
  where
    e : Entry
    e = entry_made is.middle is.transfer is.region is.route made

    next : LoggedMemory
    next = with_logged is.region e

    regions_made : (j : ℕ) (m : LoggedMemory) → IsMemoryAt p runs (history_of regions) is.route.memory is.region → slice_get (set regions is.route.memory next) j ≡ Some m
        → ((y : ℕ) → IsLess p y 0 0 runs (set runs k new))
        → IsLess p is.route.memory 1 (cost_next is.middle) runs (set runs k new)
        → IsMemoryAt p (set runs k new) (history_of regions ++ e ∷ []) j m
    regions_made j m memory here less one =
        elim (at_set regions is.route.memory j next m here) [
          | inl same ↦ subst (IsMemoryAt p (set runs k new) (history_of regions ++ e ∷ []) j) same.1
              (subst (λ (n : ℕ). IsMemoryAt p (set runs k new) (history_of regions ++ e ∷ []) n next) (sym same.0)
              (memory_made p runs (set runs k new) (history_of regions) e is.route.memory (cost_next is.middle) is.region memory refl
              (left_of_next is.middle is.transfer is.region is.route made is.reached.next) one))
          | inr other ↦ memory_kept p runs (set runs k new) (history_of regions) e j is.route.memory m (core.each_region j m other.1) (ap memory_object memory.number) other.0 (less j)
        ]

-- the finished flags of the runs
pub finished_same : (runs : List Run) (k : ℕ) (old new : Run) → slice_get runs k ≡ Some old → new.finished ≡ old.finished → are_finished (set runs k new) ≡ are_finished runs
finished_same runs k old new at same =
    map-set (λ (r : Run). r.finished) runs k new
    ∙ (ap (set (are_finished runs) k) same ∙ set-same (are_finished runs) k old.finished (at_map (λ (r : Run). r.finished) runs k old at))

pub step_of : (old : CoreView) (k : ℕ) (i : Initiator) (new : CoreView) (step : CoreStep) → slice_get (initiators_of old.plan) k ≡ Some i → IsInitiatorStep old k i new step → IsStep old k new step
step_of old k i new step at is = subst (λ (o : Option Initiator). MatchOption o (IsNodeStep old new step) (λ x. IsInitiatorStep old k x new step)) (sym at) is

-- all that a slice's write leaves of a vector
pub whole_write : {X : Type 0} (n : ℕ) (xs ys : List X) → length xs ≡ n → take n (xs ++ drop (length xs) ys) ≡ xs
whole_write n xs ys same = ap (λ (k : ℕ). take k (xs ++ drop (length xs) ys)) (sym same) ∙ take-append_seam xs (drop (length xs) ys)

-- the memories after a turn's writes
abbrev pub written : ℕ → List LoggedMemory → List LoggedMemory → List LoggedMemory
written len after regions = take len (after ++ drop (length after) regions)

-- a run of the core, by its index
pub run_at : (runs : List Run) (k : ℕ) (old : Run) (finished : List Bool) → are_finished runs ≡ finished → k < length finished → old ≡ get_or runs k old → slice_get runs k ≡ Some old
run_at runs k old finished same below is = slice_get_read runs (length runs) k old refl (omega (arith, ap length same, length-map runs (λ (r : Run). r.finished))) is

pub made_access : (p : Plan) (old new : Run) (members : List Member) (before regions after : List LoggedMemory) (made : ℕ) (turn : Turn) → before ≡ regions → IsTurn p old new members before after made turn → turn ≡ turn_made → HasMadeAccess p old new regions after made
made_access p old new members before regions after made turn same is how = subst (λ (x : List LoggedMemory). HasMadeAccess p old new x after made) same (subst (IsTurn p old new members before after made) how is)

pub moved_to_end : (p : Plan) (old new : Run) (members : List Member) (before regions after : List LoggedMemory) (made : ℕ) (turn : Turn) → before ≡ regions → IsTurn p old new members before after made turn → turn ≡ turn_ended → HasMovedToEnd p old new regions after
moved_to_end p old new members before regions after made turn same is how = subst (λ (x : List LoggedMemory). HasMovedToEnd p old new x after) same (subst (IsTurn p old new members before after made) how is)

pub moved_to_wait : (p : Plan) (old new : Run) (members : List Member) (before regions after : List LoggedMemory) (made : ℕ) (turn : Turn) → before ≡ regions → IsTurn p old new members before after made turn → turn ≡ turn_waits → HasMovedToWait p old new members regions after
moved_to_wait p old new members before regions after made turn same is how = subst (λ (x : List LoggedMemory). HasMovedToWait p old new members x after) same (subst (IsTurn p old new members before after made) how is)

-- an actor that is no initiator
pub node_at : (p : Plan) (runs : List Run) (regions : List LoggedMemory) (made k : ℕ) → IsCore p runs regions made → length runs ≤ k → slice_get (initiators_of p) k ≡ None
node_at p runs regions made k core past = slice_get_past (initiators_of p) k (omega (arith, core.run_count, count_initiators 0 p.platform.initiators p.scripts core.valid.scripts))

pub node_steps : (v w : CoreView) (k : ℕ) (step : CoreStep) → v ≡ w → slice_get (initiators_of v.plan) k ≡ None → IsNodeStep w w step → IsStep w k w step
node_steps v w k step same none is =
    subst (λ (o : Option Initiator). MatchOption o (IsNodeStep w w step) (λ i. IsInitiatorStep w k i w step)) (sym (ap (λ (x : CoreView). slice_get (initiators_of x.plan) k) (sym same) ∙ none)) is

pub few_history : (p : Plan) (runs : List Run) (regions : List LoggedMemory) (made : ℕ) → IsCore p runs regions made → length (history_of regions) ≤ 16000000
few_history p runs regions made core = omega (arith, few_made p runs regions made core, core.count)
