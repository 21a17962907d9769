-- A port may make the debug read that is next.
use Rattle.std.proofs.Common.{◌≡◌, ℕ, ◌+◌, ◌*◌, ◌<◌, Bool, List, length, Option, Some, None, refl, sym, ap, ◌∙◌, subst, arith}
use Rattle.std.specs.Prelude.{slice_get}
use Rattle.std.proofs.lemmas.List.{length-replicate}
use Rattle.tlm_types.specs.declared.words.ObjectNo.TheVariants.{Memory}
use Rattle.tlm_model.specs.declared.ask.Ask.TheVariants.{DebugRead as ADebugRead}
use Rattle.tlm_model.specs.Plan.{Initiator, initiators_of}
use Rattle.tlm_model.specs.Route.{route_of}
use Rattle.tlm_model.specs.Store.{zeros}
use Rattle.token_book.specs.Purse.{left_of}
use Rattle.region_object.specs.Call.{payload_cost}
use Rattle.route_plan.specs.declared.step.Route.{Route}
use Rattle.route_plan.specs.Plans.{walk_by}
use Rattle.route_plan.specs.Routes.{route_by}
use Rattle.flow_model.specs.Platform.{passage_of}
use Rattle.cargo_model.specs.Known.{object_number}
use Rattle.initiator_run.specs.Left.{bytes_left, leads}
use Rattle.initiator_run.specs.Run.{engine_after}
use Rattle.initiator_run.proofs.LeftLemmas.{bytes_after, leads_there}
use Rattle.joined_traffic.specs.Accesses.{txn_of}
use Rattle.plat_net.specs.Calls.{route_at}
use Rattle.plat_net.proofs.NumberLemmas.{memory_number}
use Rattle.plat_net.proofs.WalkLemmas.{leads_to_memory}
use Rattle.port_end.specs.Arrives.{events_of}
use Rattle.port_model.specs.Laws.{price_by_kind}
use Rattle.port_model.specs.Stages.{price_of}
use Rattle.port_model.proofs.NextAsks.{is_priced}
use Rattle.port_model.proofs.Starts.{planned}
use Rattle.script_engine.specs.State.{next_of, payload_of}
use Rattle.fourphase_port.specs.Laws.{NextMayBeRead}
use Rattle.port_moves.specs.State.{bytes_under, bytes_while, left_at}
use Rattle.fourphase_port.proofs.NextIsAsked.{read_passes_none}
use Rattle.fourphase_port.proofs.SeenRoute.{Seen, seen_route}

pub may_be_read : NextMayBeRead
may_be_read table tokens frame v s quiet x next_is kind = record {
  no_passage = subst (λ (n : ℕ). passage_of frame.world (txn_of n v.port.engine.seq) ≡ None) s.number
      (read_passes_none frame.world s.initiator v.port v.note.knows.known v.note.knows.seen (left_at frame.world v.wallet) s.way its s.style x next_is kind);
  ticket = λ r q. (
      let f = seen r q in
      let low = planned frame.world s.initiator v.port (events_of frame.world.platform v.note.knows.known) v.note.knows.seen (left_at frame.world v.wallet) s.way quiet v.port.engine.seq (Memory r.memory) refl in
      let cost = is_priced frame.world s.initiator v.port (events_of frame.world.platform v.note.knows.known) v.note.knows.seen (left_at frame.world v.wallet) s.way x next_is (Memory r.memory) ∙ ap (price_by_kind frame.world s.initiator (Memory r.memory) x.address) kind in
      let one : price_of frame.world s.initiator (Memory r.memory) (ADebugRead x.address 0) ≡ 1 = subst (λ (m : ℕ). price_of frame.world s.initiator (Memory m) (ADebugRead x.address 0) ≡ 1) f.memory (leads_there frame.world s.initiator x.address f.route f.is) in
      let number : left_of v.wallet (object_number frame.world.platform (Memory r.memory)) ≡ left_of v.wallet r.memory = ap (left_of v.wallet) (memory_number frame.world.platform r.memory (there r q)) in
      omega (arith, low, cost ∙ one, number)
      );
  bytes = λ r q. (
      let f = seen r q in
      let e = v.port.engine in
      let got : List ℕ = zeros x.length in
      let after = bytes_after frame.world s.initiator r.memory 4096 e got x next_is (λ fenced. length-replicate {A = ℕ} x.length 0) in
      let one : leads frame.world s.initiator r.memory x.address ≡ 1 = subst (λ (m : ℕ). leads frame.world s.initiator m x.address ≡ 1) f.memory (leads_there frame.world s.initiator x.address f.route f.is) in
      let paid : bytes_left frame.world s.initiator r.memory (engine_after e got) + payload_cost (payload_of e 4096) * 1 ≡ bytes_left frame.world s.initiator r.memory e =
      subst (λ (k : ℕ). bytes_left frame.world s.initiator r.memory (engine_after e got) + payload_cost (payload_of e 4096) * k ≡ bytes_left frame.world s.initiator r.memory e) one after in
      let mine = s.bytes r.memory (there r q) in
      let none : bytes_under frame.world s.initiator r.memory v.port ≡ 0 = ap (λ (b : Bool). bytes_while frame.world s.initiator r.memory b e (next_of e)) quiet in
      omega (arith, paid, mine, none)
      );
}
  where
    its : slice_get (initiators_of frame.world) s.initiator.number ≡ Some s.initiator
    its = subst (λ (n : ℕ). slice_get (initiators_of frame.world) n ≡ Some s.initiator) (sym s.number) s.is

    seen : (r : Route) → route_at frame.world v.port.engine.initiator x.address ≡ Some r → Seen (route_of frame.world.platform s.initiator x.address) r
    seen r q = seen_route _ _ (route_of frame.world.platform s.initiator x.address) r (sym (ap (λ (o : Option Initiator). route_by (walk_by frame.world.platform o x.address)) s.is) ∙ q)

    there : (r : Route) → route_at frame.world v.port.engine.initiator x.address ≡ Some r → r.memory < length frame.world.platform.memories
    there r q = leads_to_memory frame.world v.port.engine.initiator x.address r (sym q)
