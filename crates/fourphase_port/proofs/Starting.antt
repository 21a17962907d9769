-- A port that begins is a port.
use Rattle.std.proofs.Common.{◌≡◌, ℕ, ◌+◌, ◌*◌, ◌<◌, ◌≤◌, List, [], length, Some, refl, sym, ap, ◌∙◌, subst, arith}
use Rattle.std.specs.Prelude.{slice_get}
use Rattle.std.specs.List.{AllByRecursion}
use Rattle.view_lists.proofs.Members.{has_none}
use Rattle.atomic_table.specs.Seated.{TableId}
use Rattle.one_history.specs.Held.{Held}
use Rattle.one_history.specs.declared.entry.Entry.{Entry}
use Rattle.one_history.specs.declared.view.Frame.{Frame}
use Rattle.tlm_types.specs.declared.entry.Content.{Content}
use Rattle.tlm_types.specs.declared.words.ObjectNo.TheVariants.{Memory}
use Rattle.tlm_model.specs.declared.operation.Operation.{Operation}
use Rattle.tlm_model.specs.Plan.{Plan, Initiator, initiators_of}
use Rattle.traffic_script.specs.Proper.{IsProper}
use Rattle.token_book.specs.Purse.{Purse, bytes_of}
use Rattle.generic_payload.specs.Payload.{PayloadView}
use Rattle.route_plan.specs.Counted.{logged_share_at, logged_share_by, share_at}
use Rattle.route_plan.specs.Planned.{logged_share}
use Rattle.route_plan.specs.Valid.{IsValid}
use Rattle.initiator_run.specs.Left.{bytes_left, logged_in}
use Rattle.initiator_run.proofs.BeginLemmas.{proper_at}
use Rattle.plat_net.proofs.NoCycle.{shapes_law}
use Rattle.plat_net.proofs.NumberLemmas.{memory_there}
use Rattle.port_end.specs.Arrives.{StandBelow, events_of}
use Rattle.port_model.specs.Stages.{count_of}
use Rattle.port_model.specs.Way.{IsUnderWay, Port}
use Rattle.port_model.proofs.Starts.{begins_law, numbers_count}
use Rattle.run_outcome.proofs.PlanLemmas.{initiator_number, initiator_within}
use Rattle.initiator_run.proofs.BeginLemmas.{script_from}
use Rattle.script_engine.specs.State.{State, begun_engine}
use Rattle.script_engine.proofs.Remaining.{few_numbers}
use Rattle.fourphase_port.specs.Fresh.{IsFresh}
use Rattle.port_moves.specs.State.{IsPort, StateView, begun_state, left_at, with_note}
use Rattle.fourphase_port.specs.Rest.{IsAtRest}
use Rattle.fourphase_port.proofs.Shares.{all_left}

no_bytes_more : (p : Plan) (i : Initiator) (m : ℕ) → logged_in p i m i.script ≡ logged_share p i m
unfolding logged_share
no_bytes_more p i m = refl

none_more : (a : ℕ) → a ≤ a + 0
none_more a = omega arith

-- room for all that a script may have outstanding
pub room_enough : (p q : Plan) (n : ℕ) (script : List Operation) (long : ℕ) → q ≡ p → slice_get q.scripts n ≡ Some script → long ≡ length script → (i : Initiator) → slice_get (initiators_of p) n ≡ Some i → count_of i ≤ 2 * long
room_enough p q n script long plan at count i is =
    let own = script_from 0 n p.platform.initiators p.scripts i is in
    let same : i.script ≡ script = one i.script script (sym own ∙ (ap (λ (z : Plan). slice_get z.scripts n) (sym plan) ∙ at)) in
    let few = few_numbers i.script in
    let all = numbers_count i.script in
    let long_is : long ≡ length i.script = count ∙ ap length (sym same) in
    omega (arith, few, all, long_is)
  where
    one : (a b : List Operation) → Some a ≡ Some b → a ≡ b
    one a b q = cc

module _ (table tokens : TableId) (frame : Frame Plan) (n : ℕ) (e : State) (b : PayloadView) (note : Held Content Plan) (w : Purse) (f : IsFresh table tokens frame.world n e b note w) (valid : IsValid frame.world) where
  abbrev p : Plan
  p = frame.world

  abbrev i : Initiator
  i = f.initiator

  number : i.number ≡ n
  number = initiator_number p n i f.is

  its : slice_get (initiators_of p) i.number ≡ Some i
  its = subst (λ (k : ℕ). slice_get (initiators_of p) k ≡ Some i) (sym number) f.is

  engine_is : e ≡ begun_engine i.number i.script
  engine_is = f.engine ∙ ap (λ (k : ℕ). begun_engine k i.script) (sym number)

  who : e.initiator ≡ n
  who = ap (λ (x : State). x.initiator) f.engine

  pub within : (k : ℕ) → k ≡ e.initiator → k < length p.platform.initiators
  within k same = subst (λ (j : ℕ). j < length p.platform.initiators) (sym (same ∙ who)) (initiator_within p n i f.is)

  shares : (o : _) → left_at p w o ≡ share_at p i.number o
  shares = all_left p i its f.style w f.few (λ k o has. f.left k o has ∙ ap (λ (j : ℕ). share_at p j o) (sym number))

  abbrev begun_port : State → Port
  begun_port x = let s = begun_state x b 0 w in s.port

  way_begun : IsUnderWay p i (begun_port (begun_engine i.number i.script)) [] 0 (left_at p w)
  way_begun = begins_law p i (left_at p w) shares its

  way : IsUnderWay p i (begun_port e) (events_of p.platform note.knows.known) note.knows.seen (left_at p w)
  way = subst (λ (k : ℕ). IsUnderWay p i (begun_port e) (events_of p.platform note.knows.known) k (left_at p w)) (sym f.seen)
      (subst (λ (l : List (Entry Content)). IsUnderWay p i (begun_port e) (events_of p.platform l) 0 (left_at p w)) (sym f.known)
      (subst (λ (x : State). IsUnderWay p i (begun_port x) [] 0 (left_at p w)) (sym engine_is) way_begun))

  bytes : (m : ℕ) → m < length p.platform.memories → bytes_left p i m e ≤ bytes_of w m + 0
  bytes m below =
      let had = f.bytes m (Memory m) (memory_there p.platform m below) in
      let shared : logged_share_at p n m ≡ logged_share p i m = ap (logged_share_by p m) f.is in
      let all = no_bytes_more p i m in
      let left : bytes_left p i m e ≡ 0 + logged_in p i m i.script = ap (bytes_left p i m) engine_is in
      omega (arith, had, shared, all, left)

  pub fresh_port : (room : ℕ) → count_of i ≤ room → IsPort table tokens frame (with_note (begun_state e b room w) note)
  fresh_port room all = record {
    no_cycle = shapes_law p.platform valid.shape;
    initiator = i;
    is = subst (λ (k : ℕ). slice_get (initiators_of p) k ≡ Some i) (sym who) f.is;
    style = f.style;
    number = number ∙ sym who;
    note_of = f.note_of;
    below = subst (λ (l : List (Entry Content)). StandBelow l note.knows.seen) (sym f.known) (λ x has. absurd (has_none x has));
    wallet_of = f.of;
    places = f.places;
    few_places = f.few;
    bytes = bytes;
    way = way;
    in_hand = tt;
    is_held = tt;
    alone = λ c q. tt;
    payload = f.payload;
    has_payload = refl;
    roomy = all;
    proper = subst (λ (x : State). AllByRecursion IsProper x.remaining) (sym engine_is) (proper_at p valid n i f.is).each;
  }

  -- as the code has made it
  pub begun_as : (room : ℕ) (s : StateView) → s ≡ begun_state e b room w → count_of i ≤ room → IsPort table tokens frame (with_note s note)
  begun_as room s is all = subst (λ (x : StateView). IsPort table tokens frame (with_note x note)) (sym is) (fresh_port room all)

  pub begun_by : (room : ℕ) (s : StateView) → s ≡ begun_state e b room w → count_of i ≤ room → IsAtRest table tokens frame (record { state = s; note = Some note })
  begun_by room s is all = record { its_note = note; has_note = refl; is_port = begun_as room s is all }
