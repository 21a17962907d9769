-- The access that is next was taken: its payload is filled, and its tickets have left the port's wallet.
use Rattle.std.proofs.Common.{◌≡◌, ℕ, ◌+◌, ◌*◌, ◌-◌, if◌then◌else◌, Bool, Option, Some, None, refl, sym, ap, ◌∙◌, subst, inl, inr, arith}
use Rattle.std.specs.Prelude.{is_some, slice_get}
use Rattle.std.proofs.lemmas.Bool.{cases_eq, eq-eqb, ne_eqb}
use Rattle.atomic_table.specs.Seated.{TableId}
use Rattle.tlm_model.specs.Plan.{Plan, Initiator, initiators_of}
use Rattle.tlm_model.specs.Route as model
use Rattle.tlm_model.specs.Route.{route_of}
use Rattle.generic_payload.specs.Payload.{PayloadView}
use Rattle.token_book.specs.Purse.{Purse, bytes_of}
use Rattle.region_object.specs.Call.{payload_cost}
use Rattle.payload_pool.specs.declared.baton.Baton.{Baton}
use Rattle.cargo_model.specs.Tickets.{Pulls}
use Rattle.route_plan.specs.declared.step.Route.{Route}
use Rattle.route_plan.specs.Plans.{walk_by}
use Rattle.route_plan.specs.Routes.{route_by, route_seen}
use Rattle.initiator_run.specs.Left.{leads}
use Rattle.initiator_run.proofs.LeftLemmas.{leads_elsewhere, leads_nowhere, leads_there}
use Rattle.plat_net.specs.Calls.{route_at}
use Rattle.script_engine.specs.declared.part.Transfer.{Transfer}
use Rattle.script_engine.specs.Part.{is_fenced_kind}
use Rattle.script_engine.specs.State.{payload_of}
use Rattle.port_moves.specs.declared.hand.Hand.TheVariants.{Taken}
use Rattle.port_moves.specs.Loaded.{IsLoaded}
use Rattle.port_moves.specs.Moves.{port_taken}
use Rattle.port_moves.specs.Returned.{with_port}
use Rattle.port_moves.specs.State.{StateView}
use Rattle.port_moves.specs.Stocks.{HasPaid, IsStocked}

pub loaded : (tokens : TableId) (w : Plan) (s g t v : StateView) (x : Transfer) (b : Baton) (y : PayloadView) (z : Purse) (n : ℕ) → n ≡ s.port.engine.initiator → y ≡ payload_of s.port.engine 4096
    → g ≡ (let wallet = g.wallet in record s { wallet = wallet }) → HasPaid tokens w n x.address (payload_cost y) s.wallet g.wallet → IsStocked tokens w n x.address (payload_cost y) z
    → (routed : Bool) → routed ≡ is_some (route_at w n x.address)
    → ((p : Plan) (i : Initiator) → slice_get (initiators_of p) g.port.engine.initiator ≡ Some i → routed ≡ is_some (route_at p g.port.engine.initiator x.address) → t ≡ with_port g (port_taken p i g.port x (is_fenced_kind x.kind)))
    → v ≡ record t { hand = Taken (record b { payload = y; wallet = z }) } → IsLoaded tokens w x b s v
loaded tokens w s g t v x b y z n number filled gave paid stocked routed tells noted is = record {
  stock = z;
  left = g.wallet;
  is = λ i q. (
      let u = g.wallet in
      let same : g.port.engine.initiator ≡ s.port.engine.initiator = ap (λ (k : StateView). k.port.engine.initiator) gave in
      let there : slice_get (initiators_of w) g.port.engine.initiator ≡ Some i = ap (slice_get (initiators_of w)) same ∙ q in
      let told : routed ≡ is_some (route_at w g.port.engine.initiator x.address) = subst (λ (k : ℕ). routed ≡ is_some (route_at w k x.address)) (number ∙ sym same) tells in
      is ∙ (ap (λ (k : StateView). record k { hand = Taken (record b { payload = y; wallet = z }) }) (noted w i there told)
      ∙ (ap (λ (k : StateView). record (with_port k (port_taken w i k.port x (is_fenced_kind x.kind))) { hand = Taken (record b { payload = y; wallet = z }) }) gave
      ∙ ap (λ (k : PayloadView). record s { port = port_taken w i s.port x (is_fenced_kind x.kind); hand = Taken (record b { payload = k; wallet = z }); wallet = u }) filled))
      );
  paid = subst (λ (k : PayloadView). HasPaid tokens w s.port.engine.initiator x.address (payload_cost k) s.wallet g.wallet) filled (subst (λ (k : ℕ). HasPaid tokens w k x.address (payload_cost y) s.wallet g.wallet) number paid);
  stocked = subst (λ (k : PayloadView). IsStocked tokens w s.port.engine.initiator x.address (payload_cost k) z) filled (subst (λ (k : ℕ). IsStocked tokens w k x.address (payload_cost y) z) number stocked);
}

-- a ticket without bytes leaves all bytes
pub same_bytes : (tokens : TableId) (object : ℕ) (v w : Purse) → Pulls tokens object 0 v w → (o : ℕ) → bytes_of w o ≡ bytes_of v o
same_bytes tokens object v w pulls o = elim (cases_eq o object) [
  | inl same ↦ (
      let b : bytes_of w o ≡ bytes_of v object - 0 = pulls.bytes_left o ∙ ap (λ (t : Bool). if t then bytes_of v object - 0 else bytes_of v o) (eq-eqb o object same) in
      let b2 : bytes_of v o ≡ bytes_of v object = ap (bytes_of v) same in
      omega (arith, b, b2)
      )
  | inr other ↦ pulls.bytes_left o ∙ ap (λ (t : Bool). if t then bytes_of v object - 0 else bytes_of v o) (ne_eqb o object other)
]

module _ (tokens : TableId) (p : Plan) (i : Initiator) (n a cost : ℕ) (is : slice_get (initiators_of p) n ≡ Some i) (w u : Purse) (paid : HasPaid tokens p n a cost w u) where
  route_is : (o : Option model.Route) → route_of p.platform i a ≡ o → route_at p n a ≡ route_seen (let k = walk_by p.platform (Some i) a in k.before) (let k = walk_by p.platform (Some i) a in k.latency) o
  route_is o q = ap (λ (k : Option Initiator). route_by (walk_by p.platform k a)) is ∙ ap (route_seen _ _) q

  no_such : (q r : Option Route) (x : Route) → q ≡ None → q ≡ Some x → ⊥
  no_such q r x e f = cc

  same_memory : (q : Option Route) (r x : Route) → q ≡ Some r → q ≡ Some x → x.memory ≡ r.memory
  same_memory q r x e f = by (sym f ∙ e)
    where
      by : Some x ≡ Some r → x.memory ≡ r.memory
      by g = cc

  -- the bytes that it has paid are those of the memory that the address leads to
  pub bytes_paid : (m : ℕ) → bytes_of u m + cost * leads p i m a ≡ bytes_of w m
  bytes_paid m = by (route_of p.platform i a) refl
    where
      by : (o : Option model.Route) → route_of p.platform i a ≡ o → bytes_of u m + cost * leads p i m a ≡ bytes_of w m
      by None f =
          let none = leads_nowhere p i m a f in
          let kept = paid.other_bytes m (λ r q e. no_such (route_at p n a) None r (route_is None f) q) in
          let zeroth : cost * leads p i m a ≡ cost * 0 = ap (λ (k : ℕ). cost * k) none in
          omega (arith, kept, zeroth)
      by (Some q) f = elim (cases_eq m q.memory) [
        | inl same ↦ (
            let one : leads p i m a ≡ 1 = subst (λ (k : ℕ). leads p i k a ≡ 1) (sym same) (leads_there p i a q f) in
            let all : cost * leads p i m a ≡ cost * 1 = ap (λ (k : ℕ). cost * k) one in
            let gave = subst (λ (k : ℕ). bytes_of u k + cost ≡ bytes_of w k) (sym same) (paid.memory _ (route_is (Some q) f)).1 in
            omega (arith, all, gave)
            )
        | inr other ↦ (
            let none = leads_elsewhere p i m a q f other in
            let kept = paid.other_bytes m (λ r g e. other (e ∙ same_memory (route_at p n a) _ r (route_is (Some q) f) g)) in
            let zeroth : cost * leads p i m a ≡ cost * 0 = ap (λ (k : ℕ). cost * k) none in
            omega (arith, kept, zeroth)
            )
      ]
