-- What a port under way says of its numbers.
use Rattle.std.proofs.Common.{◌≡◌, ◌⊎◌, ℕ, zero, suc, ◌+◌, ◌<◌, ◌≤◌, Bool, true, false, List, length, length-append, ap, ◌∙◌, subst, inl, inr, arith}
use Rattle.tlm_types.specs.declared.words.ObjectNo.{ObjectNo}
use Rattle.tlm_model.specs.Plan.{Plan, Initiator}
use Rattle.flow_model.specs.Events.{Among, Event}
use Rattle.joined_traffic.specs.Accesses.{sum_below}
use Rattle.script_engine.specs.State.{State, is_fenced, op_of, payload_of}
use Rattle.script_engine.specs.Part.{part_of}
use Rattle.port_model.specs.Stages.{IsBack, Stage, count_of, under_by}
use Rattle.port_model.specs.Stages.Stage.{Ahead, Under, Back}
use Rattle.port_model.specs.Way.{IsUnderWay, Port, pending}
use Rattle.port_model.proofs.Ops.{asks_one, fenced_transfer, more_numbers}
use Rattle.port_model.proofs.Sums.{part}

under_ahead : (v : Stage) → v ≡ Under → v ≡ Ahead → ⊥
under_ahead v q r = cc

under_back : (v : Stage) → v ≡ Under → IsBack v → ⊥
under_back Ahead q b = b
under_back Under q b = b
under_back (Back end calls) q b = cc

one_under : (v : Stage) → v ≡ Under → under_by v ≡ 1
one_under v q = ap under_by q

low_or_not : (s n : ℕ) → (s < n) ⊎ (n ≤ s)
low_or_not s n = grind arith

nothing_pending : (b : Bool) (e : State) (t g : ℕ) → b ≡ false → length (pending b e t g) ≡ 0
nothing_pending b e t g q = ap (λ (c : Bool). length (pending c e t g)) q

module _ (p : Plan) (i : Initiator) (port : Port) (known : List Event) (seen : ℕ) (left : ObjectNo → ℕ) (u : IsUnderWay p i port known seen left) where
  -- the access that it waits for is next in its script
  one_pending : (b : Bool) → b ≡ true → is_fenced (op_of port.engine) ≡ true → (t g : ℕ) → length (pending b port.engine t g) ≡ 1
  one_pending b q fenced t g =
      let f = fenced_transfer (part_of (op_of port.engine)) fenced in
      let asked = ap length (asks_one (op_of port.engine) f.transfer (payload_of port.engine 4096) t g f.is) in
      ap (λ (c : Bool). length (pending c port.engine t g)) q ∙ asked

  long : (n : ℕ) → length (pending port.waiting port.engine u.asking.blocking u.step) ≡ n → length u.made ≡ port.engine.seq + n
  long n q =
      let parts = ap length u.asking.is_made ∙ length-append u.asking.passed (pending port.waiting port.engine u.asking.blocking u.step) in
      omega (arith, parts, q, u.asking.count)

  -- what is next isn't outstanding, where it waits for nothing
  pub next_is_new : port.waiting ≡ false → Among port.away port.engine.seq → ⊥
  next_is_new free away =
      let q = long 0 (nothing_pending port.waiting port.engine u.asking.blocking u.step free) in
      under_ahead (u.stage port.engine.seq) (u.staged.under port.engine.seq away) (u.staged.ahead port.engine.seq (omega (arith, q)))

  -- what is outstanding was made
  made_under : (s : ℕ) → Among port.away s → s < length u.made
  made_under s away = elim (low_or_not s (length u.made)) [
    | inl l ↦ l
    | inr l ↦ absurd (under_ahead (u.stage s) (u.staged.under s away) (u.staged.ahead s l))
  ]

  -- where it waits for an access, that alone is outstanding
  pub waits_for_it : port.waiting ≡ true → (s : ℕ) → Among port.away s → s ≡ port.engine.seq
  waits_for_it waiting s away =
      let q = long 1 (one_pending port.waiting waiting (u.asking.fenced waiting) u.asking.blocking u.step) in
      let l = made_under s away in
      elim (low_or_not s port.engine.seq) [
        | inl low ↦ absurd (under_back (u.stage s) (u.staged.under s away) (u.staged.alone waiting s low))
        | inr high ↦ omega (arith, q, l, high)
      ]

  -- and it is: so a port of which nothing is outstanding waits for nothing
  pub waits_for_one : port.waiting ≡ true → 0 < length port.away
  waits_for_one waiting =
      let f = fenced_transfer (part_of (op_of port.engine)) (u.asking.fenced waiting) in
      let l : port.engine.seq < count_of i = subst (λ (n : ℕ). port.engine.seq < n) u.asking.numbers (more_numbers port.engine f.transfer f.is) in
      let one = part (λ s. under_by (u.stage s)) port.engine.seq (count_of i) l in
      let here = one_under (u.stage port.engine.seq) (u.staged.waits waiting) in
      omega (arith, one, here, u.staged.outstanding)

  -- no more are outstanding than there are numbers
  pub few_away : length port.away ≤ count_of i
  few_away =
      let low = few_under u.stage (count_of i) in
      omega (arith, low, u.staged.outstanding)
    where
      few_by : (v : Stage) → under_by v ≤ 1
      few_by Ahead = omega arith
      few_by Under = omega arith
      few_by (Back end calls) = omega arith

      few_under : (stage : ℕ → Stage) (n : ℕ) → sum_below (λ s. under_by (stage s)) n ≤ n
      few_under stage zero = omega arith
      few_under stage (suc n) = let r = few_under stage n in let b = few_by (stage n) in omega (arith, r, b)
