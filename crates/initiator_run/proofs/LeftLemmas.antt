-- What is still asked of a memory, as a run goes on.
use Rattle.std.proofs.Common.{◌≡◌, ℕ, zero, suc, ◌+◌, ◌≤◌, List, [], ◌∷◌, length, Option, Some, None, Bool, true, cond, nat_eq, ap, sym, ◌∙◌, arith}
use Rattle.std.specs.Prelude.{slice_get}
use Rattle.std.proofs.Math.ListN.{set}
use Rattle.std.proofs.lemmas.Grind.{common_steps}
use Rattle.std.proofs.lemmas.List.Sums.{sum_by-cons}
use Rattle.std.proofs.lemmas.Bool.{ne_eqb}
use Rattle.std.proofs.lemmas.Bool.Decides.{nat_tests}
use Rattle.tlm_model.specs.declared.operation.Operation.{Operation}
use Rattle.tlm_model.specs.Plan.{Plan, Initiator}
use Rattle.tlm_model.specs.Route.{Route, route_of}
use Rattle.script_engine.specs.declared.part.Part.TheVariants.{Asks, Pauses}
use Rattle.script_engine.specs.declared.part.Pause.{Pause}
use Rattle.script_engine.specs.declared.part.Transfer.{Transfer}
use Rattle.script_engine.specs.Part.{is_fenced_kind, part_of}
use Rattle.script_engine.specs.State.{Due, State, next_of, op_at, passed_by, payload_at}
use Rattle.script_engine.proofs.States.{state}
use Rattle.platform_shape.specs.Paths.{once}
use Rattle.route_plan.specs.Planned.{leads_to}
use Rattle.region_object.specs.Call.{payload_cost}
use Rattle.initiator_run.specs.Left.{asks_left, bytes_at, bytes_left, leads, total_of}
use Rattle.initiator_run.specs.Run.{Run, engine_after}

left_paused : (p : Plan) (i : Initiator) (m n s : ℕ) (due : Option Due) (ops : List Operation) (b : Bool) (pause : Pause) → part_of (op_at s due ops) ≡ Pauses pause
    → (asks_left p i m (passed_by (state n s due ops b)) ≡ asks_left p i m (state n s due ops b)) × (bytes_left p i m (passed_by (state n s due ops b)) ≡ bytes_left p i m (state n s due ops b))
left_paused p i m n s due ops b pause is = grind (arith, common_steps)

-- a wait, a sync or a fence asks for nothing, and logs nothing
pub left_passed : (p : Plan) (i : Initiator) (m : ℕ) (e : State) (pause : Pause) → next_of e ≡ Pauses pause
    → (asks_left p i m (passed_by e) ≡ asks_left p i m e) × (bytes_left p i m (passed_by e) ≡ bytes_left p i m e)
left_passed p i m e pause is = left_paused p i m e.initiator e.seq e.due e.remaining e.ended pause is

left_at : (p : Plan) (i : Initiator) (m n s : ℕ) (due : Option Due) (ops : List Operation) (b : Bool) (got : List ℕ) (x : Transfer) → part_of (op_at s due ops) ≡ Asks x
    → asks_left p i m (engine_after (state n s due ops b) got) + leads p i m x.address ≡ asks_left p i m (state n s due ops b)
left_at p i m n s due ops b got x is = grind (arith, common_steps, sum_by-cons)

-- a transfer is asked for once
pub left_after : (p : Plan) (i : Initiator) (m : ℕ) (e : State) (got : List ℕ) (x : Transfer) → next_of e ≡ Asks x → asks_left p i m (engine_after e got) + leads p i m x.address ≡ asks_left p i m e
left_after p i m e got x is = left_at p i m e.initiator e.seq e.due e.remaining e.ended got x is

-- the bytes that the payload of what is next logs
abbrev pub cost_at : ℕ → Option Due → List Operation → ℕ
cost_at room due ops = payload_cost (payload_at room due ops)

bytes_left_at : (p : Plan) (i : Initiator) (m room n s : ℕ) (due : Option Due) (ops : List Operation) (b : Bool) (got : List ℕ) (x : Transfer) → part_of (op_at s due ops) ≡ Asks x
    → (is_fenced_kind x.kind ≡ true → length got ≡ x.length)
    → bytes_left p i m (engine_after (state n s due ops b) got) + bytes_at p i m x.address (cost_at room due ops) ≡ bytes_left p i m (state n s due ops b)
bytes_left_at p i m room n s due ops b got x is whole = grind (arith, common_steps, sum_by-cons)

-- a transfer logs the bytes of its payload
pub bytes_after : (p : Plan) (i : Initiator) (m room : ℕ) (e : State) (got : List ℕ) (x : Transfer) → next_of e ≡ Asks x → (is_fenced_kind x.kind ≡ true → length got ≡ x.length)
    → bytes_left p i m (engine_after e got) + bytes_at p i m x.address (cost_at room e.due e.remaining) ≡ bytes_left p i m e
bytes_after p i m room e got x is whole = bytes_left_at p i m room e.initiator e.seq e.due e.remaining e.ended got x is whole

-- an address whose route ends at a memory leads to it
pub leads_there : (p : Plan) (i : Initiator) (a : ℕ) (route : Route) → route_of p.platform i a ≡ Some route → leads p i route.memory a ≡ 1
leads_there p i a route is = rw is (own route.memory)
  where
    own : (m : ℕ) → ◌≡◌ {A = ℕ} (cond (nat_eq m m) 1 0) 1
    own m = grind (arith, nat_tests)

-- an address without a route leads nowhere
pub leads_nowhere : (p : Plan) (i : Initiator) (m a : ℕ) → route_of p.platform i a ≡ None → leads p i m a ≡ 0
leads_nowhere p i m a is = ap (λ (o : Option Route). once (leads_to o m)) is

-- and an address whose route ends at another memory doesn't lead here
pub leads_elsewhere : (p : Plan) (i : Initiator) (m a : ℕ) (route : Route) → route_of p.platform i a ≡ Some route → (m ≡ route.memory → ⊥) → leads p i m a ≡ 0
leads_elsewhere p i m a route is other = ap (λ (o : Option Route). once (leads_to o m)) is ∙ ap once (ne_eqb route.memory m (λ same. other (sym same)))

-- what is counted of all runs, where one of them has come further
pub total-set : (count : Initiator → State → ℕ) (d : ℕ) (is : List Initiator) (rs : List Run) (k : ℕ) (i : Initiator) (r new : Run) → slice_get is k ≡ Some i → slice_get rs k ≡ Some r → count i new.engine + d ≤ count i r.engine → total_of count is (set rs k new) + d ≤ total_of count is rs
total-set count d [] rs k i r new mine run less = cc
total-set count d (j ∷ is) [] k i r new mine run less = cc
total-set count d (j ∷ is) (q ∷ rs) zero i r new mine run less =
    let same_i : j ≡ i = cc in
    let same_r : q ≡ r = cc in
    omega (arith, ap (λ (x : Initiator). count x new.engine) same_i, ap (λ (x : Initiator). count x q.engine) same_i, ap (λ (x : Run). count i x.engine) same_r)
total-set count d (j ∷ is) (q ∷ rs) (suc k) i r new mine run less = omega (arith, total-set count d is rs k i r new mine run less)
