-- The rounds of what is still to be asked for.
use Rattle.std.proofs.Common.{◌≡◌, ℕ, ◌+◌, ◌-◌, List, [], ◌∷◌, Option, Some, None, Bool, true, false, cond, nat_lt, refl, ap, ◌∙◌, arith}
use Rattle.std.proofs.lemmas.Bool.Decides.{nat_tests}
use Rattle.std.proofs.lemmas.Grind.{common_steps}
use Rattle.tlm_model.specs.declared.operation.Operation.{Operation}
use Rattle.tlm_model.specs.declared.operation.Operation.TheVariants.{Copy, Add, FetchAdd}
use Rattle.tlm_model.specs.declared.platform.Platform.{Platform}
use Rattle.tlm_model.specs.Plan.{Initiator}
use Rattle.tlm_model.specs.Requests.{numbers_of, time_after}
use Rattle.tlm_model.specs.Rounds.{rounds_from, syncs_after}
use Rattle.tlm_model.specs.Route.{later, latency_of}
use Rattle.script_engine.specs.declared.op.Op.TheVariants.{Done}
use Rattle.script_engine.specs.declared.part.Part.TheVariants.{Asks}
use Rattle.script_engine.specs.declared.part.Transfer.{Transfer}
use Rattle.script_engine.specs.Part.{part_of}
use Rattle.script_engine.specs.State.{Due, State, is_fenced, next_of, op_at, op_for, op_of, passed_by, told_by}
use Rattle.script_engine.specs.Asking.{time_after_op}
use Rattle.script_engine.proofs.States.{state}
use Rattle.initiator_run.specs.Come.{rounds_at, rounds_behind, rounds_once}
use Rattle.initiator_run.proofs.CountLemmas.{rounds_then}

-- past the requests of an operation
skip : (s n : ℕ) (f : ℕ → ℕ) → cond (nat_lt (s + n) n) 0 (f (s + n - n)) ≡ f s
skip s n f = ap (λ (b : Bool). cond b 0 (f (s + n - n))) (past s n) ∙ ap f (back s n)
  where
    past : (s n : ℕ) → nat_lt (s + n) n ≡ false
    past s n = grind (arith, nat_tests)

    back : (s n : ℕ) → s + n - n ≡ s
    back s n = omega arith

-- past the first of two requests
skip_one : (s : ℕ) (f : ℕ → ℕ) → cond (nat_lt (s + 1) 2) 0 (f (s + 1 - 2)) ≡ cond (nat_lt s 1) 0 (f (s - 1))
skip_one s f = ap (λ (b : Bool). cond b 0 (f (s + 1 - 2))) (first s) ∙ ap (λ (n : ℕ). cond (nat_lt s 1) 0 (f n)) (one s)
  where
    first : (s : ℕ) → nat_lt (s + 1) 2 ≡ nat_lt s 1
    first s = grind (arith, nat_tests)

    one : (s : ℕ) → s + 1 - 2 ≡ s - 1
    one s = omega arith

-- the number of requests, as an engine's numbers tell it
taken : (s n k : ℕ) → s + (n + k - n) ≡ s + k
taken s n k = omega arith

-- the syncs before a request behind an operation
behind_op : Platform → Initiator → ℕ → ℕ → Operation → List Operation → ℕ → ℕ
behind_op p i now t op ops s = cond (syncs_after p.quantum now (time_after p i t op) op) (rounds_from p i (time_after p i t op) (time_after p i t op) ops s + 1) (rounds_from p i now (time_after p i t op) ops s)

first_passed : (p : Platform) (i : Initiator) (now t s : ℕ) (op : Operation) (ops : List Operation) → rounds_from p i now t (op ∷ ops) (s + numbers_of op) ≡ behind_op p i now t op ops s
unfolding behind_op
first_passed p i now t s op ops = skip s (numbers_of op) (behind_op p i now t op ops)

then_passed : (p : Platform) (i : Initiator) (now t n q s : ℕ) (b : Bool) (op : Operation) (ops : List Operation) → is_fenced (op_for q op) ≡ false
    → behind_op p i now t op ops s ≡ rounds_then p i now (time_after_op p i t (op_for q op)) (op_for q op) (passed_by (state n q None (op ∷ ops) b)) s
unfolding behind_op
then_passed p i now t n q s b op ops h = grind (arith, common_steps)

passed_at : (p : Platform) (i : Initiator) (now t n q s : ℕ) (b : Bool) (due : Option Due) (ops : List Operation) → is_fenced (op_at q due ops) ≡ false → (op_at q due ops ≡ Done → ⊥)
    → rounds_behind p i now t due ops (s + ((passed_by (state n q due ops b)).seq - q)) ≡ rounds_then p i now (time_after_op p i t (op_at q due ops)) (op_at q due ops) (passed_by (state n q due ops b)) s
passed_at p i now t n q s b (Some w) ops h more = cc
passed_at p i now t n q s b None [] h more = absurd (more refl)
passed_at p i now t n q s b None (op ∷ ops) h more =
    ap (rounds_from p i now t (op ∷ ops)) (taken s q (numbers_of op)) ∙ (first_passed p i now t s op ops ∙ then_passed p i now t n q s b op ops h)

-- the rounds behind what an engine passes
pub rounds_passed : (p : Platform) (i : Initiator) (now t s : ℕ) (e : State) → is_fenced (op_of e) ≡ false → (op_of e ≡ Done → ⊥)
    → rounds_at p i now t e (s + ((passed_by e).seq - e.seq)) ≡ rounds_then p i now (time_after_op p i t (op_of e)) (op_of e) (passed_by e) s
rounds_passed p i now t s e h more = passed_at p i now t e.initiator e.seq s e.ended e.due e.remaining h more

-- an operation whose one request the engine waits for
then_told : (p : Platform) (i : Initiator) (now t n q s : ℕ) (b : Bool) (got : List ℕ) (a m : ℕ) (ops : List Operation)
    → behind_op p i now t (FetchAdd a m) ops s ≡ rounds_then p i now (time_after_op p i t (op_for q (FetchAdd a m))) (op_for q (FetchAdd a m)) (told_by (state n q None (FetchAdd a m ∷ ops) b) got) s
unfolding behind_op
then_told p i now t n q s b got a m ops = grind (arith, common_steps)

told_to : (p : Platform) (i : Initiator) (now t n q s : ℕ) (b : Bool) (got : List ℕ) (due : Option Due) (ops : List Operation) → is_fenced (op_at q due ops) ≡ true
    → rounds_behind p i now t due ops (s + ((told_by (state n q due ops b) got).seq - q)) ≡ rounds_then p i now (time_after_op p i t (op_at q due ops)) (op_at q due ops) (told_by (state n q due ops b) got) s
told_to p i now t n q s b got (Some w) ops h =
    ap (rounds_behind p i now t (Some w) ops) (taken s q 1) ∙ skip s 1 (rounds_once p i now (later t (latency_of p i w.address)) ops)
told_to p i now t n q s b got None [] h = cc
told_to p i now t n q s b got None (Copy from to m ∷ ops) h =
    ap (rounds_from p i now t (Copy from to m ∷ ops)) (taken s q 1) ∙ skip_one s (rounds_once p i now (later (later t (latency_of p i from)) (latency_of p i to)) ops)
told_to p i now t n q s b got None (Add a m ∷ ops) h =
    ap (rounds_from p i now t (Add a m ∷ ops)) (taken s q 1) ∙ skip_one s (rounds_once p i now (later (later t (latency_of p i a)) (latency_of p i a)) ops)
told_to p i now t n q s b got None (FetchAdd a m ∷ ops) h =
    ap (rounds_from p i now t (FetchAdd a m ∷ ops)) (taken s q 1) ∙ (first_passed p i now t s (FetchAdd a m) ops ∙ then_told p i now t n q s b got a m ops)
told_to p i now t n q s b got None (op ∷ ops) h = cc

-- the rounds behind an access or a debug read
pub rounds_after : (p : Platform) (i : Initiator) (now t s : ℕ) (e : State) (got : List ℕ) (b : Bool) → is_fenced (op_of e) ≡ b → (op_of e ≡ Done → ⊥)
    → rounds_at p i now t e (s + ((cond b (told_by e got) (passed_by e)).seq - e.seq)) ≡ rounds_then p i now (time_after_op p i t (op_of e)) (op_of e) (cond b (told_by e got) (passed_by e)) s
rounds_after p i now t s e got true h more = told_to p i now t e.initiator e.seq s e.ended got e.due e.remaining h
rounds_after p i now t s e got false h more = rounds_passed p i now t s e h more

next_at : (p : Platform) (i : Initiator) (now t q : ℕ) (due : Option Due) (ops : List Operation) (x : Transfer) → part_of (op_at q due ops) ≡ Asks x → rounds_behind p i now t due ops 0 ≡ 0
next_at p i now t q due ops x is = grind (arith, common_steps)

-- no sync stands before a transfer that is next
pub no_rounds_before : (p : Platform) (i : Initiator) (now t : ℕ) (e : State) (x : Transfer) → next_of e ≡ Asks x → rounds_at p i now t e 0 ≡ 0
no_rounds_before p i now t e x is = next_at p i now t e.seq e.due e.remaining x is
