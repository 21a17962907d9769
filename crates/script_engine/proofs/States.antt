-- An engine's steps.
use Rattle.std.proofs.Common.{◌≡◌, ℕ, ◌+◌, Bool, true, false, List, [], ◌∷◌, length, drop, slice_get, Option, Some, None, is_some, is_none, not, refl, sym, ap, ◌∙◌, subst, arith}
use Rattle.std.proofs.lemmas.Grind.{common_steps}
use Rattle.tlm_model.specs.declared.operation.Operation.{Operation}
use Rattle.tlm_model.specs.declared.operation.Operation.TheVariants.{Write, Read, Ignore, Debug, Copy, Add, FetchAdd, Wait, Sync, Fence, Invalidate}
use Rattle.tlm_model.specs.Requests.{numbers_of}
use Rattle.traffic_script.specs.Progress.{Progress, advanced}
use Rattle.traffic_script.specs.Proper.{AreProper, IsProper}
use Rattle.script_engine.specs.State.{Due, IsRead, State, begun_engine, due_after, due_at, is_fenced, length_of, op_at, op_for, op_of, passed_by, told_by}
use Rattle.script_engine.specs.Asking.{numbers_due}
use Rattle.script_engine.specs.Ready.{HasBytes, IsReady}
use Rattle.script_engine.proofs.Remaining.{IsFirst, drop_past, few_numbers, left, left_advanced}

-- the state with its parts written out
abbrev pub state : ℕ → ℕ → Option Due → List Operation → Bool → State
state initiator seq due remaining ended = record { initiator = initiator; seq = seq; due = due; remaining = remaining; ended = ended }

length_of_op : (seq : ℕ) (op : Operation) → length_of (op_for seq op) ≡ length_of (op_for 0 op)
length_of_op seq op = grind (arith, common_steps)

-- whether it reads doesn't depend on its number
read_of_op : (seq : ℕ) (op : Operation) → IsRead (op_for 0 op) → IsRead (op_for seq op)
read_of_op seq (Write a bytes enables width) is = is
read_of_op seq (Read a n enables width) is = is
read_of_op seq (Ignore a) is = is
read_of_op seq (Debug a n) is = is
read_of_op seq (Copy from to n) is = is
read_of_op seq (Add a n) is = is
read_of_op seq (FetchAdd a n) is = is
read_of_op seq (Wait n) is = is
read_of_op seq Sync is = is
read_of_op seq Fence is = is
read_of_op seq (Invalidate a n) is = is

-- the state where a script has come so far
abbrev pub state_at : ℕ → ℕ → Option Due → Progress → Bool → State
state_at initiator seq due p ended = state initiator seq due (drop p.done p.operations) ended

-- no write is due
pub no_due : (due : Option ℕ) (buffer : List ℕ) → is_some due ≡ false → due_at due buffer ≡ None
no_due None buffer h = refl
no_due (Some a) buffer h = cc

-- a write is due where it has an address
pub none_due : (none : Bool) (due : Option ℕ) (buffer : List ℕ) → not none ≡ is_some due → none ≡ is_none (due_at due buffer)
none_due true None buffer h = refl
none_due true (Some a) buffer h = cc
none_due false None buffer h = cc
none_due false (Some a) buffer h = refl

module _ (n seq : ℕ) (due : Option Due) (p : Progress) (b : Bool) (now : State) (is : state_at n seq due p b ≡ now) where
  pub passed_to : (op : Operation) (q : Progress) (m : ℕ) → IsFirst p op → q ≡ advanced p → m ≡ numbers_of op →
      state_at n (seq + m) due q true ≡ passed_by now
  passed_to op q m first next taken = rw (next, taken, ← is, left_advanced p op first, left p op first) refl

  pub passed_past : None ≡ slice_get p.operations p.done → now ≡ passed_by now
  passed_past past = rw (← is, drop_past p.operations p.done (sym past)) refl

  pub first_whole : (op : Operation) (got : List ℕ) → IsFirst p op → due ≡ None → (IsRead (op_of now) → length got ≡ length_of (op_of now)) → IsRead (op_for 0 op) → length got ≡ length_of (op_for 0 op)
  first_whole op got first none whole read =
      let at : op_of now ≡ op_for seq op = rw (← is, none, left p op first) refl in
      whole (subst IsRead (sym at) (read_of_op seq op read)) ∙ (ap length_of at ∙ length_of_op seq op)

  pub told_to : (op : Operation) (q : Progress) (later_due : Option Due) (got kept : List ℕ) (ended : Bool) → IsFirst p op → due ≡ None →
      q ≡ advanced p → kept ≡ got → later_due ≡ due_after op kept → ended ≡ is_none later_due →
      state_at n (seq + 1) later_due q ended ≡ told_by now got
  told_to op q later_due got kept ended first none next same gives closed = rw (next, closed, gives, same, ← is, none, left_advanced p op first, left p op first) refl

  pub not_fenced : None ≡ slice_get p.operations p.done → due ≡ None → is_fenced (op_of now) ≡ true → ⊥
  not_fenced past none fenced =
      let done : is_fenced (op_of now) ≡ false = rw (← is, none, drop_past p.operations p.done (sym past)) refl in
      cc

pub ready_begun : (n : ℕ) (script : List Operation) → AreProper script → IsReady (begun_engine n script)
ready_begun n script proper = record { numbered = omega (arith, few_numbers script, proper.few); due = tt; proper = proper.each }

passed_ready : (n seq : ℕ) (due : Option Due) (ops : List Operation) (b : Bool) → is_fenced (op_at seq due ops) ≡ false →
    IsReady (state n seq due ops b) → IsReady (passed_by (state n seq due ops b))
passed_ready n seq (Some w) ops b free ready = cc
passed_ready n seq None [] b free ready = ready
passed_ready n seq None (op ∷ ops) b free ready =
    record { numbered = omega (arith, ready.numbered); due = tt; proper = ready.proper.1 }

pub ready_passed : (e : State) → is_fenced (op_of e) ≡ false → IsReady e → IsReady (passed_by e)
ready_passed e free ready = passed_ready e.initiator e.seq e.due e.remaining e.ended free ready

-- the write that is due after a read
read_bytes : (seq : ℕ) (op : Operation) (got : List ℕ) → is_fenced (op_for seq op) ≡ true → IsProper op → length got ≡ length_of (op_for seq op) →
    HasBytes (due_after op got)
read_bytes seq op got fenced proper whole = grind (arith, common_steps)

due_bytes : (seq : ℕ) (op : Operation) (got : List ℕ) → is_fenced (op_for seq op) ≡ true → IsProper op → (IsRead (op_for seq op) → length got ≡ length_of (op_for seq op)) →
    HasBytes (due_after op got)
due_bytes seq (Write a bytes enables width) got fenced proper whole = tt
due_bytes seq (Read a n enables width) got fenced proper whole = tt
due_bytes seq (Ignore a) got fenced proper whole = tt
due_bytes seq (Debug a n) got fenced proper whole = tt
due_bytes seq (Copy from to n) got fenced proper whole = read_bytes seq (Copy from to n) got fenced proper (whole refl)
due_bytes seq (Add a n) got fenced proper whole = read_bytes seq (Add a n) got fenced proper (whole refl)
due_bytes seq (FetchAdd a n) got fenced proper whole = tt
due_bytes seq (Wait n) got fenced proper whole = tt
due_bytes seq Sync got fenced proper whole = tt
due_bytes seq Fence got fenced proper whole = tt
due_bytes seq (Invalidate a n) got fenced proper whole = tt

-- one of two numbers is taken
due_numbers : (seq : ℕ) (op : Operation) (got : List ℕ) → is_fenced (op_for seq op) ≡ true → numbers_of op ≡ 1 + numbers_due (due_after op got)
due_numbers seq op got fenced = grind (arith, common_steps)

told_ready : (n seq : ℕ) (due : Option Due) (ops : List Operation) (b : Bool) (got : List ℕ) → is_fenced (op_at seq due ops) ≡ true →
    (IsRead (op_at seq due ops) → length got ≡ length_of (op_at seq due ops)) → IsReady (state n seq due ops b) → IsReady (told_by (state n seq due ops b) got)
told_ready n seq (Some w) ops b got fenced whole ready = record { numbered = omega (arith, ready.numbered); due = tt; proper = ready.proper }
told_ready n seq None [] b got fenced whole ready = cc
told_ready n seq None (op ∷ ops) b got fenced whole ready = record {
  numbered = omega (arith, ready.numbered, due_numbers seq op got fenced);
  due = due_bytes seq op got fenced ready.proper.0 whole;
  proper = ready.proper.1;
}

pub ready_told : (e : State) (got : List ℕ) → is_fenced (op_of e) ≡ true → (IsRead (op_of e) → length got ≡ length_of (op_of e)) → IsReady e → IsReady (told_by e got)
ready_told e got fenced whole ready = told_ready e.initiator e.seq e.due e.remaining e.ended got fenced whole ready
