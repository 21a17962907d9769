-- The entries that an initiator makes, as the note that comes back knows them.
use Rattle.std.proofs.Common.{◌≡◌, ℕ, zero, suc, ◌-◌, ◌<◌, List, [], ◌∷◌, ◌++◌, length, Some, get_or, slice_get, ap, sym, subst, ◌∙◌, arith, Option, false, true}
use Rattle.std.proofs.lemmas.Grind.{common_steps}
use Rattle.view_lists.proofs.Members.{has_map}
use Rattle.one_history.specs.declared.entry.Entry.{Entry as HistoryEntry}
use Rattle.one_history.specs.declared.view.Frame.{Frame}
use Rattle.one_history.specs.declared.view.View.{View}
use Rattle.one_history.specs.Lists.{StandBelow}
use Rattle.tlm_types.specs.declared.entry.Content.{Content}
use Rattle.tlm_types.specs.declared.entry.Entry.{Entry}
use Rattle.tlm_types.specs.declared.words.ObjectNo.{ObjectNo}
use Rattle.tlm_types.specs.declared.words.ObjectNo.TheVariants.{Hop, Memory}
use Rattle.tlm_types.specs.declared.words.TxnId.{TxnId}
use Rattle.tlm_model.specs.declared.operation.Operation.{Operation}
use Rattle.tlm_model.specs.declared.platform.Platform.{Platform}
use Rattle.tlm_model.specs.Plan.{Plan, Initiator, initiators_of}
use Rattle.tlm_model.specs.Rounds.{round_of}
use Rattle.tlm_model.specs.Scripts.{is_answer}
use Rattle.script_engine.specs.declared.part.Part.TheVariants.{Asks, Invalidates}
use Rattle.script_engine.specs.declared.part.Transfer.{Transfer}
use Rattle.script_engine.specs.Part.{part_of}
use Rattle.script_engine.specs.State.{Due, next_of, op_at}
use Rattle.quantum_keeper.specs.Keeper.{current_time}
use Rattle.initiator_run.specs.Come.{HasCome, rounds_at, rounds_behind}
use Rattle.initiator_run.specs.Run.{Run}
use Rattle.initiator_run.proofs.RoundLemmas.{no_rounds_before}
use Rattle.cargo_model.specs.Known.{objects_of}
use Rattle.cargo_net.proofs.ObjectsOnce.{stands_once}
use Rattle.plat_net.specs.Places.{memory_place}
use Rattle.node_hops.specs.Steps.{HasNew}
use Rattle.decoupled_run.specs.Known.{entry_read}
use Rattle.decoupled_run.specs.Moves.{IsEntryOfRun, txn_next}
use Rattle.decoupled_run.specs.Stepped.{IsOfRound, IsStepEntry}
use Rattle.decoupled_run.proofs.EntryLemmas.{come_granted}
use Rattle.decoupled_run.proofs.KnownLemmas.{HasEntered}
use Rattle.decoupled_run.proofs.PassLemmas.{one_value}

-- what is read as a memory stands at a place of the objects
read_memory : (os : List ObjectNo) (k m : ℕ) → get_or os k (Hop 0) ≡ Memory m → slice_get os k ≡ Some (Memory m)
read_memory [] k m is = absurd (cc (is))
read_memory (o ∷ os) zero m is = ap (λ (y : ObjectNo). Some y) is
read_memory (o ∷ os) (suc k) m is = read_memory os k m is

-- an entry that was added is new to the note
pub entered_new : (frame : Frame Plan) (m : ℕ) (e : Entry) (note back : View Content Plan) → HasEntered frame m e note back → StandBelow note.known note.seen → (P : HistoryEntry Content → Type 0)
    → ((y : HistoryEntry Content) → entry_read frame.world.platform y ≡ e → y.object ≡ memory_place frame.world m → P y) → HasNew P note.known back.known
entered_new frame m e note back entered below P each =
    let p : Platform = frame.world.platform in
    let from = has_map (entry_read p) back.known e entered.knows in
    let place : from.0.object ≡ memory_place frame.world m = stands_once p from.0.object (Memory m) (read_memory (objects_of p) from.0.object m (ap (λ (z : Entry). z.object) from.2 ∙ entered.object)) in
    let same : from.0.position ≡ e.position = ap (λ (z : Entry). z.position) from.2 in
    record {
      entry = from.0;
      has = from.1;
      past = λ y has. let under = below y has in let late = entered.late in omega (arith, under, late, same);
      is = each from.0 from.2 place;
    }

-- it is one of the run, by what the entry says
pub entry_of_run : (p : Plan) (r next : Run) (m : ℕ) (e : Entry) (i : Initiator) (y : HistoryEntry Content) → slice_get (initiators_of p) r.engine.initiator ≡ Some i → m < length p.platform.memories → e.txn ≡ txn_next r → round_of p.platform i r.engine.seq ≡ r.syncs
    → ((h : List Entry) → HasCome p.platform i h r → HasCome p.platform i (h ++ e ∷ []) next) → entry_read p.platform y ≡ e → y.object ≡ memory_place p m → IsEntryOfRun p r next y
entry_of_run p r next m e i y at there txn round come same place =
    let txn_is : y.content.txn ≡ txn_next r = ap (λ (z : Entry). z.txn) same ∙ txn in
    record {
      access = record { memory = m; there = there; object = place; own = ap (λ (x : TxnId). x.initiator) txn_is };
      round = λ j at_j.
          subst (λ (z : Initiator). round_of p.platform z y.content.txn.seq ≡ r.syncs) (one_value (slice_get (initiators_of p) r.engine.initiator) i j at at_j)
          (ap (λ (x : TxnId). round_of p.platform i x.seq) txn_is ∙ round);
      come = λ j h at_j.
          subst (λ (z : Initiator). HasCome p.platform z h r → HasCome p.platform z (h ++ entry_read p.platform y ∷ []) next) (one_value (slice_get (initiators_of p) r.engine.initiator) i j at at_j)
          (λ here. subst (λ (z : Entry). HasCome p.platform i (h ++ z ∷ []) next) (sym same) (come h here));
    }

-- an access that is next is of the round of the syncs so far
pub round_next : (p : Platform) (i : Initiator) (h : List Entry) (r : Run) (x : Transfer) → next_of r.engine ≡ Asks x → HasCome p i h r → round_of p i r.engine.seq ≡ r.syncs
round_next p i h r x is come =
    let counted = come.counted.rounds r.engine.seq (omega arith) in
    let none = no_rounds_before p i r.keeper.last_sync (current_time r.keeper) r.engine x is in
    let here : rounds_at p i r.keeper.last_sync (current_time r.keeper) r.engine (r.engine.seq - r.engine.seq) ≡ 0 = ap (rounds_at p i r.keeper.last_sync (current_time r.keeper) r.engine) (nothing r.engine.seq) ∙ none in
    omega (arith, counted, here)
  where
    nothing : (n : ℕ) → n - n ≡ 0
    nothing n = omega arith

next_invalidation_at : (p : Platform) (i : Initiator) (now t s a n q : ℕ) (due : Option Due) (ops : List Operation) → part_of (op_at q due ops) ≡ Invalidates s a n → rounds_behind p i now t due ops 0 ≡ 0
next_invalidation_at p i now t s a n q due ops is = grind (arith, common_steps)

-- so is an invalidation
pub round_next_invalidation : (p : Platform) (i : Initiator) (h : List Entry) (r : Run) (a n : ℕ) → next_of r.engine ≡ Invalidates r.engine.seq a n → HasCome p i h r → round_of p i r.engine.seq ≡ r.syncs
round_next_invalidation p i h r a n is come =
    let counted = come.counted.rounds r.engine.seq (omega arith) in
    let none = next_invalidation_at p i r.keeper.last_sync (current_time r.keeper) r.engine.seq a n r.engine.seq r.engine.due r.engine.remaining is in
    let here : rounds_at p i r.keeper.last_sync (current_time r.keeper) r.engine (r.engine.seq - r.engine.seq) ≡ 0 = ap (rounds_at p i r.keeper.last_sync (current_time r.keeper) r.engine) (nothing r.engine.seq) ∙ none in
    omega (arith, counted, here)
  where
    nothing : (n : ℕ) → n - n ≡ 0
    nothing n = omega arith

-- the round of a run whose last sync was let through
pub round_for : (p : Plan) (r next : Run) (i : Initiator) (txn : TxnId) → slice_get (initiators_of p) r.engine.initiator ≡ Some i → round_of p.platform i r.engine.seq ≡ r.syncs → r.round ≡ r.syncs → next.engine.initiator ≡ r.engine.initiator → next.round ≡ r.round → txn ≡ txn_next r → IsOfRound p next txn
round_for p r next i txn at round through number same txn_is = λ j at_j.
    subst (λ (z : Initiator). round_of p.platform z txn.seq ≡ next.round) (one_value (slice_get (initiators_of p) r.engine.initiator) i j at (ap (slice_get (initiators_of p)) (sym number) ∙ at_j))
    (ap (λ (x : TxnId). round_of p.platform i x.seq) txn_is ∙ (round ∙ (sym through ∙ sym same)))

-- an entry that answers nothing is one of a step of a run that stays
pub unanswered_entry : (p : Plan) (r : Run) (m : ℕ) (txn : TxnId) (y : HistoryEntry Content) → m < length p.platform.memories → y.object ≡ memory_place p m → y.content.txn ≡ txn → txn.initiator ≡ r.engine.initiator → IsOfRound p r txn → is_answer y.content.what ≡ false → IsStepEntry p r r y
unanswered_entry p r m txn y there place txn_is own round none = record {
  access = record { memory = m; there = there; object = place; own = ap (λ (x : TxnId). x.initiator) txn_is ∙ own };
  round = λ j at. ap (λ (x : TxnId). round_of p.platform j x.seq) txn_is ∙ round j at;
  come = λ j h at come. come_granted p.platform j h r (entry_read p.platform y) none come;
  next = λ answers. absurd (let wrong : false ≡ true = sym none ∙ answers in cc (wrong));
}
