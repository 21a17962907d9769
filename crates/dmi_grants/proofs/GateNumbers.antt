-- The gates of a memory of a net, by their numbers.
use Rattle.std.proofs.Common.{◌≡◌, ℕ, zero, suc, ◌+◌, ◌<◌, ◌≤◌, true, IsTrue, List, [], ◌∷◌, ◌++◌, length, take, sum, get_or, Option, Some, None, slice_get, refl, sym, ap, ◌∙◌, ⊎_elim, arith}
use Rattle.std.specs.Prelude.{IsSomeAnd, slice_index_or}
use Rattle.std.proofs.lemmas.Bool.{cases_lt, cond-true, or_cases, eqb-true}
use Rattle.std.proofs.lemmas.List.{get_or_past}
use Rattle.std.proofs.lemmas.List.Sums.{sum_by_more, sum_by_more_le, sum_by-take-le}
use Rattle.std.proofs.lemmas.Option.{get_or_from_slice_get}
use Rattle.one_history.specs.declared.view.Frame.{Frame}
use Rattle.one_history.specs.Gates.{IsGateOf, total_gates}
use Rattle.shared_object.specs.Standing.{HasGates}
use Rattle.shared_object.specs.Written.{IsAmong}
use Rattle.shared_object.proofs.Gates.{own_gate}
use Rattle.tlm_types.specs.declared.entry.Entry.{Entry}
use Rattle.tlm_types.specs.declared.entry.What.{What}
use Rattle.tlm_types.specs.declared.entry.What.TheVariants.{Access, Granted, Invalidated, Closed, Call, Take, Acquire, Release}
use Rattle.tlm_types.specs.declared.words.MemoryTraits.{MemoryTraits}
use Rattle.tlm_model.specs.declared.platform.MemoryRow.{MemoryRow}
use Rattle.tlm_model.specs.declared.platform.Platform.{Platform}
use Rattle.tlm_model.specs.Each.{EachFrom}
use Rattle.tlm_model.specs.Plan.{Plan}
use Rattle.tlm_model.specs.Scripts.{first_gate}
use Rattle.region_object.specs.Grants.{IsGrantLog, IsGrantStep, gives, is_given}
use Rattle.region_object.specs.Region.{LoggedMemory}
use Rattle.region_object.specs.Written.{built_of}
use Rattle.cargo_net.specs.Gates.{gates_of}
use Rattle.cargo_net.specs.Traffic.{IsMemoryBuilt}
use Rattle.plat_net.proofs.Lookups.{row_in}
use Rattle.plat_net.proofs.ObjectLemmas.{gates_more}
use Rattle.dmi_grants.specs.Made.{dmi_gates, dmi_gates_of}

-- the gates of the memories below m, as the history counts them
pub first_gate_is : (p : Platform) (m : ℕ) → m ≤ length p.memories → sum (take m (gates_of p)) ≡ first_gate p m
first_gate_is p zero le = refl
first_gate_is p (suc m) le =
    let below : m < length p.memories = omega arith in
    let row = row_in p.memories m below in
    let rest = first_gate_is p m (omega arith) in
    let next : suc m ≡ m + 1 = omega arith in
    let here : get_or p.memories m row.0 ≡ row.0 = get_or_from_slice_get p.memories m row.0 row.0 row.1 in
    ap (λ (k : ℕ). sum (take k (gates_of p))) next
    ∙ gates_more p m row.0 row.1 below
    ∙ ap (λ (n : ℕ). n + row.0.traits.gates) rest
    ∙ ap (λ (r : MemoryRow). first_gate p m + r.traits.gates) (sym here)
    ∙ sym (sum_by_more (λ (r : MemoryRow). r.traits.gates) p.memories m row.0 below)
    ∙ ap (λ (k : ℕ). first_gate p k) (sym next)

dmi_by : (o : Option MemoryRow) (t : MemoryTraits) → IsSomeAnd o (λ (row : MemoryRow). t ≡ row.traits) → t.dmi ≡ true → dmi_gates_of o ≡ t.gates
dmi_by None t is dmi = absurd is
dmi_by (Some row) t is dmi =
    cond-true row.traits.dmi row.traits.gates 0 (ap (λ (x : MemoryTraits). x.dmi) (sym is) ∙ dmi) ∙ ap (λ (x : MemoryTraits). x.gates) (sym is)

-- what a grant says of the memory that gave it
step_gives : (first : ℕ) (m : MemoryTraits) (before : List Entry) (g : ℕ) (w : What) → IsGrantStep first m before w → IsTrue (gives g w) → IsAmong (first, m.gates) g × (m.dmi ≡ true)
step_gives first m before g (Granted gate f l k) step is =
    let same : gate ≡ g = eqb-true gate g is in
    let next = step.0 in
    let few = step.1 in
    ((omega arith, omega arith), step.5)
step_gives first m before g (Access way access status got) step is = absurd (cc (is))
step_gives first m before g (Invalidated f l) step is = absurd (cc (is))
step_gives first m before g (Closed gate) step is = absurd (cc (is))
step_gives first m before g (Call phase answer) step is = absurd (cc (is))
step_gives first m before g (Take slot) step is = absurd (cc (is))
step_gives first m before g (Acquire slot) step is = absurd (cc (is))
step_gives first m before g (Release slot freed) step is = absurd (cc (is))

pub given_among : (first : ℕ) (m : MemoryTraits) (g : ℕ) (before log : List Entry) → EachFrom (λ xs e. IsGrantStep first m xs e.what) before log → IsTrue (is_given g log) → IsAmong (first, m.gates) g × (m.dmi ≡ true)
given_among first m g before [] each is = absurd (cc (is))
given_among first m g before (e ∷ es) each is = ⊎_elim
    (λ (here : gives g e.what ≡ true). step_gives first m before g e.what each.0 here)
    (λ (there : is_given g es ≡ true). given_among first m g (before ++ e ∷ []) es each.1 there)
    (or_cases (gives g e.what) (is_given g es) is)

pub below_total : (gates : List ℕ) (m g : ℕ) → g < sum (take m gates) + slice_index_or gates m 0 → g < sum gates
below_total gates m g below = ⊎_elim
    (λ (there : m < length gates). let q = sum_by_more_le (λ (x : ℕ). x) gates m 0 there in omega (arith, q))
    (λ (past : length gates ≤ m). let none = get_or_past gates m 0 past in let q = sum_by-take-le (λ (x : ℕ). x) gates m in omega (arith, q, none))
    (cases_lt m (length gates))

-- a gate of memory m that was given
pub record IsThere (frame : Frame Plan) (m g : ℕ) : Type 0 where
  pub own : IsGateOf frame m g
  pub total : g < total_gates frame
  pub from : first_gate frame.world.platform m ≤ g
  pub below : g < first_gate frame.world.platform m + dmi_gates frame.world m

module _ (frame : Frame Plan) (m : ℕ) (memory : LoggedMemory) (built : IsMemoryBuilt frame.world m (built_of memory)) (there : m < length frame.world.platform.memories) where
  pub first_is : memory.first_gate ≡ first_gate frame.world.platform m
  first_is = ap (λ (x : ℕ × ℕ). x.0) built.gates ∙ first_gate_is frame.world.platform m (omega arith)

  pub gates_are : memory.traits.dmi ≡ true → dmi_gates frame.world m ≡ memory.traits.gates
  gates_are dmi = dmi_by (slice_get frame.world.platform.memories m) memory.traits built.row dmi

  pub given_there : HasGates frame m (memory.first_gate, memory.traits.gates) → IsGrantLog memory.first_gate memory.traits memory.log.entries → (g : ℕ) → IsTrue (is_given g memory.log.entries) → IsThere frame m g
  given_there gates log g is =
      let a = given_among memory.first_gate memory.traits g [] memory.log.entries log is in
      let own : IsGateOf frame m g = own_gate frame m g (memory.first_gate, memory.traits.gates) gates a.0 in
      let first = first_is in
      let count = gates_are a.1 in
      let low = a.0.0 in
      let high = a.0.1 in
      record { own = own; total = below_total frame.gates m g own.1; from = omega arith; below = omega arith }
