-- The entry of a turn, and the history with it.
use Rattle.std.proofs.Common.{◌≡◌, ℕ, ◌≤◌, List, [], ◌∷◌, ◌++◌, length, Option, Some, true, refl, ap, sym, subst, ◌∙◌, None, cond, arith}
use Rattle.std.specs.List.{AllByRecursion}
use Rattle.std.specs.Prelude.{slice_get, IsSomeAnd}
use Rattle.std.proofs.lemmas.Grind.{common_steps}
use Rattle.std.proofs.lemmas.List.Elements.{filter-append}
use Rattle.tlm_types.specs.declared.entry.Entry.{Entry}
use Rattle.tlm_types.specs.declared.words.MemoryTraits.{MemoryTraits}
use Rattle.tlm_types.specs.declared.words.ObjectNo.TheVariants.{Memory as memory_object}
use Rattle.tlm_types.specs.declared.words.ObjectNo.{ObjectNo}
use Rattle.tlm_model.specs.declared.platform.MemoryRow.{MemoryRow}
use Rattle.tlm_model.specs.declared.platform.Platform.{Platform}
use Rattle.tlm_model.specs.declared.platform.Style.TheVariants.{Blocking as blocking_style}
use Rattle.tlm_model.specs.History.{entries_at, last_store, opening_store, zeros_of, is_object}
use Rattle.tlm_model.specs.Kept.{KeepsRequests}
use Rattle.tlm_model.specs.Log.{bytes_from, log_bytes}
use Rattle.tlm_model.specs.Plan.{Plan, Initiator, initiators_of}
use Rattle.tlm_model.specs.Requests.{Asked, Request}
use Rattle.tlm_model.specs.Route.{Route as RouteOfModel, before_of}
use Rattle.tlm_model.specs.Scripts.{RunsScripts}
use Rattle.tlm_model.specs.Times.{HasDecoupledTimes, access_time}
use Rattle.tlm_model.proofs.PartsLemmas.{store_from-parts}
use Rattle.generic_payload.specs.Payload.{PayloadView}
use Rattle.region_object.specs.Region.{LoggedMemory}
use Rattle.route_plan.specs.declared.step.Route.{Route}
use Rattle.script_engine.specs.declared.part.Part.TheVariants.{Asks}
use Rattle.script_engine.specs.declared.part.Transfer.{Transfer}
use Rattle.script_engine.specs.Part.{is_fenced_kind, is_fenced_part}
use Rattle.script_engine.specs.State.{next_of, op_of, payload_of}
use Rattle.script_engine.specs.Asking.{IsAnswered, arrival, request_for, requests_at}
use Rattle.quantum_keeper.specs.Keeper.{current_time}
use Rattle.initiator_run.specs.Access.{IsRouteOf, bytes_back, entry_made, model_route}
use Rattle.initiator_run.specs.Come.{HasCome}
use Rattle.initiator_run.specs.Entry.{IsAccess, access_at, answered_by, request_entry, way_of}
use Rattle.initiator_run.specs.Run.{Run, accessed}
use Rattle.initiator_run.proofs.AccessLemmas.{HasCome-answered}
use Rattle.initiator_run.proofs.NextLemmas.{request_is_first, seq_of_next, numbers_at}
use Rattle.initiator_run.proofs.ReplyLemmas.{routed_answers}
use Rattle.initiator_run.proofs.RunLemmas.{laws}
use Rattle.initiator_run.proofs.StepLemmas.{HasDecoupledTimes-push, IsNext, KeepsRequests-push, RunsScripts-push}

same_time : (p : Platform) (i : Initiator) (x : Transfer) (payload : PayloadView) (t g before : ℕ) → before ≡ before_of p i x.address → arrival x.kind t before ≡ access_time p i (request_for x payload t g) (way_of (request_for x payload t g).asked)
same_time p i x payload t g before same = grind (arith, common_steps)

is_access : (x : Transfer) (payload : PayloadView) (t g : ℕ) → IsAccess (request_for x payload t g).asked
is_access x payload t g = grind (arith, common_steps)

abbrev entry_with : ℕ → ℕ → ℕ → ℕ → ℕ → Asked → RouteOfModel → MemoryTraits → List ℕ → Entry
entry_with position number initiator seq time asked route m bytes = record {
  position = position;
  object = memory_object number;
  txn = record { initiator = initiator; seq = seq };
  time = time;
  what = answered_by m bytes (way_of asked) (access_at route asked);
}

-- the entry that a turn makes is that of the request
pub entry_is : (p : Plan) (i : Initiator) (r : Run) (x : Transfer) (m : LoggedMemory) (route : Route) (position g : ℕ) → next_of r.engine ≡ Asks x → IsRouteOf p i x.address route → m.number ≡ route.memory → r.engine.initiator ≡ i.number
    → entry_made r x m route position ≡ request_entry p.platform i (request_for x (payload_of r.engine 4096) (current_time r.keeper) g) (model_route route) m.traits (log_bytes m.traits m.log.entries) position
entry_is p i r x m route position g is leads number mine =
    let t = current_time r.keeper in
    let bytes = log_bytes m.traits m.log.entries in
    let q : Request = request_for x (payload_of r.engine 4096) t g in
    ap (λ (n : ℕ). entry_with position n r.engine.initiator r.engine.seq (arrival x.kind t route.before) q.asked (model_route route) m.traits bytes) number
    ∙ (ap (λ (n : ℕ). entry_with position route.memory n r.engine.seq (arrival x.kind t route.before) q.asked (model_route route) m.traits bytes) mine
    ∙ (ap (λ (n : ℕ). entry_with position route.memory i.number n (arrival x.kind t route.before) q.asked (model_route route) m.traits bytes) (sym (seq_of_next r.engine x is))
    ∙ ap (λ (n : ℕ). entry_with position route.memory i.number q.seq n q.asked (model_route route) m.traits bytes) (same_time p.platform i x (payload_of r.engine 4096) t g route.before leads.before)))

-- the bytes of a memory are those of the store
pub bytes_are : (p : Plan) (h log : List Entry) (k : ℕ) (row : MemoryRow) (traits : MemoryTraits) → slice_get p.platform.memories k ≡ Some row → traits ≡ row.traits → log ≡ entries_at (memory_object k) h → log_bytes traits log ≡ last_store p.platform h k
bytes_are p h log k row traits memory same is =
    ap (λ (x : List Entry). log_bytes traits x) is
    ∙ (ap (λ (x : MemoryTraits). log_bytes x (entries_at (memory_object k) h)) same
    ∙ (ap (λ (x : Option MemoryRow). bytes_from (zeros_of x) (entries_at (memory_object k) h)) (sym memory)
    ∙ sym (store_from-parts (opening_store p.platform) h k)))

-- what a turn needs of its memory
pub record IsAtMemory (p : Plan) (h : List Entry) (route : Route) (m : LoggedMemory) : Type 0 where
  pub row : MemoryRow
  pub memory : slice_get p.platform.memories route.memory ≡ Some row
  pub traits : m.traits ≡ row.traits
  pub number : m.number ≡ route.memory
  pub log : m.log.entries ≡ entries_at (memory_object route.memory) h

-- the request that a run makes next
abbrev pub request_made : Run → Transfer → ℕ → Request
request_made r x stage = request_for x (payload_of r.engine 4096) (current_time r.keeper) stage

record HasNext (p : Plan) (i : Initiator) (h : List Entry) (r : Run) (x : Transfer) (stage : ℕ) (made : List Request) (route : Route) : Type 0 where
  pub more : List Request
  pub next : IsNext p i h made more (λ m. requests_at p.platform i m (current_time r.keeper) stage r.engine) (request_made r x stage) (model_route route)

has_next : (p : Plan) (i : Initiator) (h : List Entry) (r : Run) (x : Transfer) (route : Route) → slice_get (initiators_of p) i.number ≡ Some i → i.row.style ≡ blocking_style → (come : HasCome p.platform i h r) → next_of r.engine ≡ Asks x → IsRouteOf p i x.address route → HasNext p i h r x come.stage come.made route
has_next p i h r x route mine blocking come is leads =
    let t = current_time r.keeper in
    let q : Request = request_made r x come.stage in
    let first = request_is_first p.platform i h t come.stage 4096 r.engine x is in
    let seq : q.seq ≡ r.engine.seq = seq_of_next r.engine x is in
    record {
      more = first.more;
      next = record {
        mine = mine;
        blocking = blocking;
        has = come.asked;
        first = first.first;
        number = seq ∙ sym come.count;
        later =
            subst (λ (s : ℕ). AllByRecursion (λ (y : Request). s ≤ y.seq) (q ∷ first.more)) (sym seq)
            (subst (AllByRecursion (λ (y : Request). r.engine.seq ≤ y.seq)) first.first (numbers_at p.platform i h t come.stage r.engine));
        access = is_access x (payload_of r.engine 4096) t come.stage;
        leads = leads.leads;
      };
    }

-- what the entries of a turn are part of, wherever its entry stands and whatever the memory answers
pub record GoesOnWith (p : Plan) (h : List Entry) (e : Entry) : Type 0 where
  pub scripts : RunsScripts p h → RunsScripts p (h ++ e ∷ [])
  pub times : HasDecoupledTimes p h → HasDecoupledTimes p (h ++ e ∷ [])

pub goes_on_with : (p : Plan) (i : Initiator) (h : List Entry) (r : Run) (x : Transfer) (m : LoggedMemory) (route : Route) (position : ℕ) → slice_get (initiators_of p) i.number ≡ Some i → i.row.style ≡ blocking_style → HasCome p.platform i h r → next_of r.engine ≡ Asks x → IsRouteOf p i x.address route → m.number ≡ route.memory → GoesOnWith p h (entry_made r x m route position)
goes_on_with p i h r x m route position mine blocking come is leads number =
    let has = has_next p i h r x route mine blocking come is leads in
    let bytes = log_bytes m.traits m.log.entries in
    let same : entry_made r x m route position ≡ request_entry p.platform i (request_made r x come.stage) (model_route route) m.traits bytes position = entry_is p i r x m route position come.stage is leads number come.counted.number in
    subst (GoesOnWith p h) (sym same) (record {
      scripts = RunsScripts-push p i h come.made has.more _ (request_made r x come.stage) (model_route route) has.next m.traits bytes position;
      times = HasDecoupledTimes-push p i h come.made has.more _ (request_made r x come.stage) (model_route route) has.next m.traits bytes position;
    })

-- a history with a turn's entry has the points of requests
pub KeepsRequests-turn : (p : Plan) (i : Initiator) (h : List Entry) (r : Run) (x : Transfer) (m : LoggedMemory) (route : Route) (position : ℕ) → KeepsRequests p h → slice_get (initiators_of p) i.number ≡ Some i → i.row.style ≡ blocking_style → HasCome p.platform i h r → next_of r.engine ≡ Asks x → IsRouteOf p i x.address route → IsAtMemory p h route m → position ≡ length h → KeepsRequests p (h ++ entry_made r x m route position ∷ [])
KeepsRequests-turn p i h r x m route position kept mine blocking come is leads at counted =
    let q : Request = request_made r x come.stage in
    let has = has_next p i h r x route mine blocking come is leads in
    let bytes = log_bytes m.traits m.log.entries in
    let pushed : KeepsRequests p (h ++ request_entry p.platform i q (model_route route) at.row.traits bytes (length h) ∷ []) =
    KeepsRequests-push p i h come.made has.more _ q (model_route route) at.row bytes kept has.next at.memory
    (bytes_are p h m.log.entries route.memory at.row m.traits at.memory at.traits at.log) in
    let same : entry_made r x m route position ≡ request_entry p.platform i q (model_route route) at.row.traits bytes (length h) =
    entry_is p i r x m route position come.stage is leads at.number come.counted.number
    ∙ (ap (λ (traits : MemoryTraits). request_entry p.platform i q (model_route route) traits bytes position) at.traits ∙ ap (λ (n : ℕ). request_entry p.platform i q (model_route route) at.row.traits bytes n) counted) in
    subst (λ (e : Entry). KeepsRequests p (h ++ e ∷ [])) (sym same) pushed

-- the run after its turn
pub HasCome-turn : (p : Plan) (i : Initiator) (h : List Entry) (r : Run) (x : Transfer) (m : LoggedMemory) (route : Route) (position : ℕ) (got : List ℕ) → HasCome p.platform i h r → next_of r.engine ≡ Asks x → IsRouteOf p i x.address route → m.number ≡ route.memory
    → (is_fenced_kind x.kind ≡ true → got ≡ bytes_back r x m route) → HasCome p.platform i (h ++ entry_made r x m route position ∷ []) (accessed x route.latency got r)
HasCome-turn p i h r x m route position got come is leads number told =
    HasCome-answered laws p.platform i h (entry_made r x m route position) r x route.latency 4096 got (model_route route) is leads.latency leads.leads come.counted.number refl refl
    (λ rest fresh waits.
    subst (λ (e : Entry). IsAnswered p.platform i (h ++ (e ∷ rest)) (op_of r.engine) got) (sym (entry_is p i r x m route position 0 is leads number come.counted.number))
    (subst (λ (b : List ℕ). IsAnswered p.platform i (h ++ (request_entry p.platform i (request_for x (payload_of r.engine 4096) (current_time r.keeper) 0) (model_route route) m.traits (log_bytes m.traits m.log.entries) position ∷ rest)) (op_of r.engine) b) (sym (told (ap is_fenced_part (sym is) ∙ waits)))
    (routed_answers p.platform i h rest (current_time r.keeper) 0 4096 position r.engine x (model_route route) m.traits (log_bytes m.traits m.log.entries) is leads.leads fresh)))
    come

pub entries_at-push : (o : ObjectNo) (h : List Entry) (e : Entry) → entries_at o (h ++ e ∷ []) ≡ entries_at o h ++ cond (is_object o e.object) (e ∷ []) []
entries_at-push o h e = filter-append (λ (y : Entry). is_object o y.object) h (e ∷ [])

pub record SomeRow (o : Option MemoryRow) (P : MemoryRow → Type 0) : Type 0 where
  pub row : MemoryRow
  pub at : o ≡ Some row
  pub has : P row

pub some_row : (o : Option MemoryRow) (P : MemoryRow → Type 0) → IsSomeAnd o P → SomeRow o P
some_row None P is = absurd is
some_row (Some row) P is = record { row = row; at = refl; has = is }
