-- An initiator before its first turn has the tickets for all that its script asks for, and a direct one for a grant of each gate.
use Rattle.std.proofs.Common.{◌≡◌, ◌≢◌, ◌⊎◌, ℕ, zero, suc, ◌+◌, ◌*◌, ◌<◌, ◌≤◌, Bool, true, List, [], ◌∷◌, length, Option, Some, slice_get, refl, ap, sym, subst, ◌∙◌, inl, inr, arith}
use Rattle.std.specs.Prelude.{IsSomeAnd}
use Rattle.std.proofs.lemmas.Bool.{cases_eq}
use Rattle.std.proofs.lemmas.List.Sums.{sum_by-take-le}
use mathlib.Core.Option.{some}
use Rattle.atomic_table.specs.Seated.{TableId}
use Rattle.view_lists.specs.Lists.{Has}
use Rattle.view_lists.proofs.Members.{has_later, has_none}
use Rattle.one_history.specs.declared.entry.Entry.{Entry as HistoryEntry}
use Rattle.one_history.specs.declared.view.Frame.{Frame}
use Rattle.one_history.specs.declared.view.View.{View}
use Rattle.token_book.specs.Purse.{Purse, bytes_of, left_of}
use Rattle.token_book.proofs.Purses.{nothing_past}
use Rattle.tlm_types.specs.declared.entry.Content.{Content}
use Rattle.tlm_types.specs.declared.words.ObjectNo.TheVariants.{Memory}
use Rattle.tlm_model.specs.declared.operation.Operation.{Operation}
use Rattle.tlm_model.specs.declared.platform.InitiatorRow.{InitiatorRow}
use Rattle.tlm_model.specs.declared.platform.MemoryRow.{MemoryRow}
use Rattle.tlm_model.specs.declared.platform.Style.{Style}
use Rattle.tlm_model.specs.declared.platform.Style.TheVariants.{FourPhase}
use Rattle.tlm_model.specs.Plan.{Plan, Initiator, initiators_of}
use Rattle.tlm_model.specs.Scripts.{first_gate}
use Rattle.tlm_model.proofs.InitiatorLemmas.{initiator_from}
use Rattle.generic_payload.specs.Payload.{PayloadView}
use Rattle.joined_traffic.proofs.Tables.{table_begins}
use Rattle.route_plan.specs.Counted.{logged_share_at, logged_share_by, share_at, share_by}
use Rattle.good_history.specs.Plain.{is_direct as is_direct_style}
use Rattle.route_plan.specs.Planned.{at_gates, logged_share, share_of}
use Rattle.route_plan.specs.Valid.{IsValid}
use Rattle.route_plan.proofs.ShareLemmas.{count_initiators}
use Rattle.script_engine.specs.State.{State, begun_engine}
use Rattle.script_engine.proofs.Remaining.{few_numbers}
use Rattle.script_engine.proofs.Steps.{begins}
use Rattle.initiator_run.specs.Come.{HasCome}
use Rattle.initiator_run.specs.Left.{asked_in, logged_in}
use Rattle.initiator_run.specs.Run.{Run, fresh_run}
use Rattle.initiator_run.proofs.BeginLemmas.{proper_at, script_from, syncs_bound}
use Rattle.initiator_run.proofs.EndLemmas.{HasCome-begun}
use Rattle.run_outcome.proofs.ListLemmas.{has_element}
use Rattle.run_outcome.proofs.PlanLemmas.{initiator_number}
use Rattle.cargo_model.specs.Known.{objects_of}
use Rattle.plat_build.specs.declared.kept.Start.{Start}
use Rattle.plat_build.specs.Kept.{HasShares, IsStart}
use Rattle.plat_net.proofs.NumberLemmas.{memory_there}
use Rattle.plat_net.proofs.ObjectLemmas.{more_objects}
use Rattle.dmi_grants.specs.Made.{IsRoomyFor, dmi_gates, is_given_in}
use Rattle.dmi_grants.specs.Table.{TableView}
use Rattle.shared_object.specs.Written.{written_at}
use Rattle.decoupled_run.specs.declared.steps.Owes.TheVariants.{Nothing}
use Rattle.decoupled_run.specs.Stepped.{HasBegun}
use Rattle.decoupled_run.specs.Job.{HasTickets, IsAtEase, IsJob, goes_direct, is_direct_row}
use Rattle.decoupled_run.specs.Known.{all_ungiven}
use Rattle.decoupled_run.proofs.AskLemmas.{dmi_below, gates_at, row_at}
use Rattle.decoupled_run.proofs.ScriptLemmas.{begins_in_script}
use Rattle.decoupled_run.proofs.TicketLemmas.{gates_shared}
use Rattle.dmi_grants.proofs.Counts.{count_most}

asks_shared : (p : Plan) (i : Initiator) (m : ℕ) → asked_in p i m i.script + at_gates p i m ≡ share_of p i (Memory m)
unfolding share_of
asks_shared p i m = refl

bytes_shared : (p : Plan) (i : Initiator) (m : ℕ) → logged_in p i m i.script ≡ logged_share p i m
unfolding logged_share
bytes_shared p i m = refl

-- no more gates aren't known to be given than there are
ungiven_most : (p : Plan) (known : List (HistoryEntry Content)) (n : ℕ) → n ≤ length p.platform.memories → all_ungiven p known n ≤ first_gate p.platform n
ungiven_most p known zero few = omega arith
ungiven_most p known (suc n) few =
    let row = row_at p.platform.memories n (omega arith) in
    let rest = ungiven_most p known n (omega arith) in
    let next : suc n ≡ n + 1 = omega arith in
    let gates : first_gate p.platform (suc n) ≡ first_gate p.platform n + row.0.traits.gates = ap (first_gate p.platform) next ∙ gates_at p.platform n row.0 row.1 (omega arith) in
    let count = count_most (is_given_in (written_at n known)) (first_gate p.platform n) (dmi_gates p n) in
    let most = dmi_below (slice_get p.platform.memories n) row.0.traits.gates (λ other at. (let same : other ≡ row.0 = one_row other row.0 (sym at ∙ row.1) in let e = ap (λ (y : MemoryRow). y.traits.gates) same in omega arith)) in
    omega arith
  where
    one_row : (x y : MemoryRow) → Some x ≡ Some y → x ≡ y
    one_row x y q = cc

-- the objects of a wallet
numbers_to : ℕ → List ℕ
numbers_to zero = []
numbers_to (suc n) = n ∷ numbers_to n

count_to : (n : ℕ) → length (numbers_to n) ≡ n
unfolding numbers_to
count_to zero = refl
count_to (suc n) = ap suc (count_to n)

has_to : (n k : ℕ) → k < n → Has (numbers_to n) k
unfolding numbers_to
has_to zero k less = absurd (omega (arith, less))
has_to (suc n) k less = by (cases_eq k n) (λ below. has_to n k below)
  where
    by : (k ≡ n) ⊎ (k ≡ n → ⊥) → (k < n → Has (numbers_to n) k) → Has (n ∷ numbers_to n) k
    by (inl same) rest = (0, ap some (sym same))
    by (inr other) rest = has_later n (numbers_to n) k (rest (omega arith))

-- a fresh run has come to the beginning of its script
pub come_begun : (frame : Frame Plan) (n : ℕ) (i : Initiator) → IsValid frame.world → slice_get (initiators_of frame.world) n ≡ Some i → HasCome frame.world.platform i [] (fresh_run n i.script frame.world.platform.quantum (2 * length i.script))
come_begun frame n i valid at =
    let p : Plan = frame.world in
    let script = proper_at p valid n i at in
    subst (λ (k : ℕ). HasCome p.platform i [] (fresh_run k i.script p.platform.quantum (2 * length i.script))) (initiator_number p n i at)
    (HasCome-begun begins p.platform i (2 * length i.script) (omega (arith, syncs_bound p.platform i 0 0 i.script, script.few)) (few_numbers i.script) script.each)

module _ (frame : Frame Plan) (valid : IsValid frame.world) (n : ℕ) (i : Initiator) (at : slice_get (initiators_of frame.world) n ≡ Some i) (decoupled : i.row.style ≢ FourPhase) (v : View Content Plan) (blank : v.known ≡ []) (w : Purse) (tokens : TableId) (shares : HasShares tokens frame.world n w) where
  abbrev p : Plan
  p = frame.world

  number : i.number ≡ n
  number = initiator_number p n i at

  abbrev run : Run
  run = fresh_run n i.script p.platform.quantum (2 * length i.script)

  tickets_begun : (m : ℕ) → m < length p.platform.memories → HasTickets p i run v w [] m
  tickets_begun m below =
      let share : share_at p i.number (Memory m) ≡ share_of p i (Memory m) = ap (λ (k : ℕ). share_at p k (Memory m)) number ∙ ap (share_by p (Memory m)) at in
      let logged : logged_share_at p n m ≡ logged_share p i m = ap (logged_share_by p m) at in
      let there = memory_there p.platform m below in
      let left : left_of w m ≡ share_at p n (Memory m) = shares.left m (Memory m) there in
      let here : share_at p n (Memory m) ≡ share_of p i (Memory m) = ap (share_by p (Memory m)) at in
      let bytes : bytes_of w m ≡ logged_share_at p n m = shares.bytes m (Memory m) there in
      let asks = asks_shared p i m in
      let logs = bytes_shared p i m in
      let gates = gates_shared p i m v.known in
      record {
        asks = omega arith;
        bytes = omega arith;
        all = omega arith;
      }

  roomy_begun : (m : ℕ) → m < length p.platform.memories → IsRoomyFor m w
  roomy_begun m below =
      let places = shares.places in
      let more = more_objects p.platform in
      record {
        objects = numbers_to (length (objects_of p.platform));
        few = omega (arith, count_to (length (objects_of p.platform)), places);
        all = λ o has. has_to (length (objects_of p.platform)) o (shares.few o has);
        has = has_to (length (objects_of p.platform)) m (omega arith);
      }

  pub initiator_begun : (room : ℕ) → (is_direct_style i.row.style ≡ true → room ≡ 2048) → IsAtEase frame run v w (record { held = []; room = room })
  initiator_begun room enough =
      let script = proper_at p valid n i at in
      record {
        is = record {
          valid = valid;
          initiator = i;
          mine = [];
          is = at;
          decoupled = decoupled;
          below = λ e has. absurd (has_none e (subst (λ (l : List (HistoryEntry Content)). Has l e) blank has));
          made = record {
            rising = tt;
            known = λ e has. absurd (has_none e has);
            own = λ e has. absurd (has_none e has);
            come = come_begun frame n i valid at;
            stands = begins_in_script i n;
            keeps = record { scripts = record { replies = tt; ways = tt; order = tt; places = tt }; times = tt };
            decoupled = tt;
          };
          holds = record {
            own = λ h all. record { asked = tt; answered = tt; uses = tt; ways = tt; closings = tt; returns = tt };
            returned = λ h limit all below y has. absurd (has_none y has);
            table = λ h limit all below. table_begins h limit;
            held = λ x has. absurd (has_none x has);
            few = (let most = ungiven_most p v.known (length p.platform.memories) (omega arith) in omega arith);
            room = λ goes. (let is = enough goes in let most = sum_by-take-le (λ (y : MemoryRow). y.traits.gates) p.platform.memories (length p.platform.memories) in let few = valid.shape.bounded.gates in omega arith);
            none = λ undirect. refl;
          };
          tickets = tickets_begun;
          roomy = roomy_begun;
          no_others = λ k past. nothing_past w (length (objects_of p.platform)) k shares.few past;
          finished = λ f. cc;
        };
        answered = tt;
      }

same_script : (a b : List Operation) → Some a ≡ Some b → a ≡ b
same_script a b q = cc

style_at : (P : Style → Type 0) (o : Option InitiatorRow) (row : InitiatorRow) → o ≡ Some row → IsSomeAnd o (λ (y : InitiatorRow). P y.style) → P row.style
style_at P o row is holds = subst (λ (y : Option InitiatorRow). IsSomeAnd y (λ (z : InitiatorRow). P z.style)) is holds

-- its run is fresh
pub run_begun : (frame : Frame Plan) (table tokens : TableId) (n : ℕ) (s : Start) (run : Run) (quantum room : ℕ) (script : List Operation) (i : Initiator) → slice_get (initiators_of frame.world) n ≡ Some i → IsStart table tokens frame.world n s → slice_get frame.world.scripts n ≡ Some script
    → quantum ≡ frame.world.platform.quantum → room ≡ 2 * length script → run ≡ record (fresh_run 0 [] quantum room) { engine = s.engine } → run ≡ fresh_run n i.script frame.world.platform.quantum (2 * length i.script)
run_begun frame table tokens n s made quantum room script i is start at quantum_is room_is run_is =
    let p : Plan = frame.world in
    let mine : i.script ≡ script = same_script i.script script (sym (script_from 0 n p.platform.initiators p.scripts i is) ∙ at) in
    let engine : s.engine ≡ begun_engine n i.script = subst (λ (o : Option (List Operation)). IsSomeAnd o (λ (x : List Operation). s.engine ≡ begun_engine n x)) at start.engine ∙ ap (begun_engine n) (sym mine) in
    run_is
    ∙ (ap (λ (q : ℕ). record (fresh_run 0 [] q room) { engine = s.engine }) quantum_is
    ∙ (ap (λ (k : ℕ). record (fresh_run 0 [] p.platform.quantum k) { engine = s.engine }) (room_is ∙ ap (λ (x : List Operation). 2 * length x) (sym mine))
    ∙ ap (λ (e : State). record (fresh_run 0 [] p.platform.quantum (2 * length i.script)) { engine = e }) engine))

-- a job before its first turn
pub job_begun : (frame : Frame Plan) (table tokens : TableId) (d : Bool) (n : ℕ) (s : Start) (run : Run) (quantum room : ℕ) (script : List Operation) (gates : ℕ) (t : TableView) → IsValid frame.world → n < length frame.world.platform.initiators → IsSomeAnd (slice_get frame.world.platform.initiators n) (λ (row : InitiatorRow). row.style ≢ FourPhase)
    → d ≡ goes_direct frame.world n → (d ≡ true → gates ≡ 2048) → IsStart table tokens frame.world n s → slice_get frame.world.scripts n ≡ Some script → quantum ≡ frame.world.platform.quantum → room ≡ 2 * length script
    → run ≡ record (fresh_run 0 [] quantum room) { engine = s.engine } → t ≡ record { held = []; room = gates } → IsJob table tokens frame d run s.payload s.note s.wallet t
job_begun frame table tokens d n s run quantum room script gates t valid below decoupled styled enough start at quantum_is room_is run_is table_is =
    let p : Plan = frame.world in
    let found = has_element (initiators_of p) n (omega (arith, count_initiators 0 p.platform.initiators p.scripts valid.scripts)) in
    let i = found.element in
    let row = (initiator_from 0 p.platform.initiators p.scripts n i found.at).1 in
    let style : i.row.style ≢ FourPhase = style_at (λ (x : Style). x ≢ FourPhase) (slice_get p.platform.initiators n) i.row row decoupled in
    let room_for : is_direct_style i.row.style ≡ true → gates ≡ 2048 = λ goes. enough (styled ∙ (ap is_direct_row row ∙ goes)) in
    let first = run_begun frame table tokens n s run quantum room script i found.at start at quantum_is room_is run_is in
    record {
      note_of = start.note.is_note;
      wallet_of = start.wallet.of;
      roomy = ap (λ (x : PayloadView). x.room) start.payload;
      styled = styled ∙ ap (λ (r : Run). goes_direct p r.engine.initiator) (sym first);
      is = subst (λ (r : Run). IsAtEase frame r s.note.knows s.wallet t) (sym first) (subst (IsAtEase frame (fresh_run n i.script p.platform.quantum (2 * length i.script)) s.note.knows s.wallet) (sym table_is)
          (initiator_begun frame valid n i found.at style s.note.knows start.note.known s.wallet tokens start.wallet gates room_for));
    }

-- so does one that is stepped
pub stepped_begun : (frame : Frame Plan) (table tokens : TableId) (d : Bool) (n : ℕ) (s : Start) (run : Run) (quantum room : ℕ) (script : List Operation) (t : TableView) → IsValid frame.world → IsStart table tokens frame.world n s → slice_get frame.world.scripts n ≡ Some script → quantum ≡ frame.world.platform.quantum → room ≡ 2 * length script
    → run ≡ record (fresh_run 0 [] quantum room) { engine = s.engine } → IsJob table tokens frame d run s.payload s.note s.wallet t → HasBegun table tokens frame n (record { run = run; payload = Some s.payload; wallet = s.wallet; grants = t; is_direct = d; owes = Nothing }) s.note
stepped_begun frame table tokens d n s run quantum room script t valid start at quantum_is room_is run_is job = record {
  stepped = record {
    payload = s.payload;
    has_payload = refl;
    roomy = job.roomy;
    note_of = job.note_of;
    below = job.is.is.below;
    wallet_of = job.wallet_of;
    styled = job.styled;
    is = job.is;
    settled = λ finished. refl;
  };
  blank = start.note;
  number_is =
      ap (λ (r : Run). r.engine.initiator) run_is
      ∙ ap (λ (e : State). e.initiator) (subst (λ (o : Option (List Operation)). IsSomeAnd o (λ (x : List Operation). s.engine ≡ begun_engine n x)) at start.engine);
  fresh = (ap (λ (r : Run). r.syncs) run_is, ap (λ (r : Run). r.round) run_is, ap (λ (r : Run). r.finished) run_is);
  free = refl;
  come = λ i is. subst (HasCome frame.world.platform i []) (sym (run_begun frame table tokens n s run quantum room script i is start at quantum_is room_is run_is)) (come_begun frame n i valid is);
}
