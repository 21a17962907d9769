-- The log of a memory that gives its gates in turn.
use Rattle.std.proofs.Common.{◌≡◌, ℕ, ◌+◌, ◌<◌, ◌||◌, Bool, true, false, not, List, [], ◌∷◌, ◌++◌, All, Option, Some, refl, sym, ap, ◌∙◌, subst, ⊎_elim, arith}
use Rattle.std.specs.Prelude.{slice_get, nat_lt, if◌then◌else◌}
use Rattle.std.specs.List.{list_any}
use Rattle.std.proofs.lemmas.Bool.{cases_Bool, eq-eqb}
use Rattle.std.proofs.lemmas.Bool.Decides.{nat_tests}
use Rattle.std.proofs.lemmas.List.Elements.{All-head, All-tail}
use Rattle.view_lists.specs.Lists.{Has}
use Rattle.tlm_types.specs.declared.words.MemoryTraits.{MemoryTraits}
use Rattle.tlm_types.specs.declared.words.ObjectNo.{ObjectNo}
use Rattle.tlm_types.specs.declared.words.ObjectNo.TheVariants.{Memory}
use Rattle.tlm_types.specs.declared.entry.Entry.{Entry}
use Rattle.tlm_types.specs.declared.entry.What.{What}
use Rattle.tlm_types.specs.declared.entry.What.TheVariants.{Access, Granted, Invalidated, Closed, Call, Take, Acquire, Release}
use Rattle.tlm_model.specs.declared.platform.MemoryRow.{MemoryRow}
use Rattle.tlm_model.specs.Each.{EachFrom}
use Rattle.tlm_model.specs.History.{is_object}
use Rattle.tlm_model.specs.Plan.{Plan}
use Rattle.tlm_model.proofs.EachLemmas.{AtEach-push, EachFrom-weaker}
use Rattle.good_history.specs.Grants as model
use Rattle.good_history.specs.Kept.{GrantsAll, IsGateInOrder, IsWholeOf, is_below}
use Rattle.joined_traffic.specs.GateLog as turn
use Rattle.joined_traffic.proofs.GateLog.{gives_no_other}
use Rattle.joined_traffic.proofs.Lists.{all_has, any_has}
use Rattle.region_object.specs.Grants.{IsGrantStep, closes, gives, grants_in, is_closed, is_given, is_grant}
use Rattle.gate_logs.specs.Laws.{MemoriesKeepGateLogs, MemoriesTakeGatesInTurn}

-- a memory's words for grants are those of a history
same_grant : (w : What) → is_grant w ≡ model.is_grant w
same_grant (Access way access status got) = refl
same_grant (Granted gate first last kind) = refl
same_grant (Invalidated first last) = refl
same_grant (Closed gate) = refl
same_grant (Call phase answer) = refl
same_grant (Take slot) = refl
same_grant (Acquire slot) = refl
same_grant (Release slot freed) = refl

same_gives : (g : ℕ) (w : What) → gives g w ≡ model.gives g w
same_gives g (Access way access status got) = refl
same_gives g (Granted gate first last kind) = refl
same_gives g (Invalidated first last) = refl
same_gives g (Closed gate) = refl
same_gives g (Call phase answer) = refl
same_gives g (Take slot) = refl
same_gives g (Acquire slot) = refl
same_gives g (Release slot freed) = refl

same_closes : (g : ℕ) (w : What) → closes g w ≡ model.closes g w
same_closes g (Access way access status got) = refl
same_closes g (Granted gate first last kind) = refl
same_closes g (Invalidated first last) = refl
same_closes g (Closed gate) = refl
same_closes g (Call phase answer) = refl
same_closes g (Take slot) = refl
same_closes g (Acquire slot) = refl
same_closes g (Release slot freed) = refl

same_any : (p q : Entry → Bool) → ((e : Entry) → p e ≡ q e) → (log : List Entry) → list_any p log ≡ list_any q log
same_any p q same [] = refl
same_any p q same (e ∷ es) = ap (λ (b : Bool). b || list_any p es) (same e) ∙ ap (λ (b : Bool). q e || b) (same_any p q same es)

same_given : (g : ℕ) (log : List Entry) → is_given g log ≡ model.is_given g log
same_given g log = same_any (λ e. gives g e.what) (λ e. model.gives g e.what) (λ e. same_gives g e.what) log

same_closed : (g : ℕ) (log : List Entry) → is_closed g log ≡ model.is_closed g log
same_closed g log = same_any (λ e. closes g e.what) (λ e. model.closes g e.what) (λ e. same_closes g e.what) log

same_count : (log : List Entry) → grants_in log ≡ turn.grants_in log
same_count [] = refl
same_count (e ∷ es) = ap (λ (b : Bool). (if b then 1 else 0) + grants_in es) (same_grant e.what) ∙ ap (λ (n : ℕ). (if model.is_grant e.what then 1 else 0) + n) (same_count es)

step_turn : (first : ℕ) (m : MemoryTraits) (before : List Entry) (w : What) → IsGrantStep first m before w → turn.TakesNextGate first before w
step_turn first m before (Granted gate f l k) s = s.0 ∙ ap (λ (n : ℕ). first + n) (same_count before)
step_turn first m before (Access way access status got) s = tt
step_turn first m before (Invalidated f l) s = tt
step_turn first m before (Closed gate) s = tt
step_turn first m before (Call phase answer) s = tt
step_turn first m before (Take slot) s = tt
step_turn first m before (Acquire slot) s = tt
step_turn first m before (Release slot freed) s = tt

pub take_in_turn : MemoriesTakeGatesInTurn
take_in_turn first m log is = EachFrom-weaker (λ before e. IsGrantStep first m before e.what) (λ before e. turn.TakesNextGate first before e.what) (λ before e s. step_turn first m before e.what s) [] log is

step_whole : (p : Plan) (m : ℕ) (row : MemoryRow) (first : ℕ) (before : List Entry) → slice_get p.platform.memories m ≡ Some row → (w : What) → IsGrantStep first row.traits before w → GrantsAll p (Memory m) w
step_whole p m row first before is (Granted gate f l k) s = subst (λ (o : Option MemoryRow). IsWholeOf o f l k) (sym is) (s.2, s.3, s.4)
step_whole p m row first before is (Access way access status got) s = tt
step_whole p m row first before is (Invalidated f l) s = tt
step_whole p m row first before is (Closed gate) s = tt
step_whole p m row first before is (Call phase answer) s = tt
step_whole p m row first before is (Take slot) s = tt
step_whole p m row first before is (Acquire slot) s = tt
step_whole p m row first before is (Release slot freed) s = tt

wholes_from : (p : Plan) (m : ℕ) (row : MemoryRow) (first : ℕ) → slice_get p.platform.memories m ≡ Some row → (before log : List Entry) → All (λ (e : Entry). e.object ≡ Memory m) log → EachFrom (λ xs e. IsGrantStep first row.traits xs e.what) before log → EachFrom (λ xs e. GrantsAll p e.object e.what) before log
wholes_from p m row first is before [] all each = tt
wholes_from p m row first is before (e ∷ es) all each =
    let P : Entry → Type 0 = λ (x : Entry). x.object ≡ Memory m in
    let here : e.object ≡ Memory m = All-head P e es all in (
      subst (λ (o : ObjectNo). GrantsAll p o e.what) (sym here) (step_whole p m row first before is e.what each.0),
      wholes_from p m row first is (before ++ e ∷ []) es (All-tail P e es all) each.1,
    )

below_is : (a b : ℕ) → a < b → nat_lt a b ≡ true
below_is a b h = grind (arith, nat_tests)

or_second : (a b : Bool) → b ≡ true → (a || b) ≡ true
or_second true b is = refl
or_second false b is = is

-- a gate that is given next is above all that were given
above_all : (first gate : ℕ) (before : List Entry) → turn.TakesGatesInTurn first before → gate ≡ first + turn.grants_in before → (x : Entry) → Has before x → (w : What) → x.what ≡ w → is_below gate w ≡ true
above_all first gate before in_turn next x has (Granted g f l k) is =
    let given : model.is_given g before ≡ true = any_has (λ (e : Entry). model.gives g e.what) before x has (ap (model.gives g) is ∙ eq-eqb g g refl) in
    let less = gives_no_other first before in_turn g given in
    below_is g gate (omega arith)
above_all first gate before in_turn next x has (Access way access status got) is = refl
above_all first gate before in_turn next x has (Invalidated f l) is = refl
above_all first gate before in_turn next x has (Closed g) is = refl
above_all first gate before in_turn next x has (Call phase answer) is = refl
above_all first gate before in_turn next x has (Take slot) is = refl
above_all first gate before in_turn next x has (Acquire slot) is = refl
above_all first gate before in_turn next x has (Release slot freed) is = refl

never_given : (first gate : ℕ) (before : List Entry) → turn.TakesGatesInTurn first before → gate ≡ first + turn.grants_in before → model.is_given gate before ≡ false
never_given first gate before in_turn next = ⊎_elim
    (λ (given : model.is_given gate before ≡ true). let less = gives_no_other first before in_turn gate given in absurd (omega arith))
    (λ (fresh : model.is_given gate before ≡ false). fresh)
    (cases_Bool (model.is_given gate before))

step_order : (first : ℕ) (m : MemoryTraits) (before : List Entry) (o : ObjectNo) → turn.TakesGatesInTurn first before → (w : What) → IsGrantStep first m before w → IsGateInOrder before o w
step_order first m before o in_turn (Granted gate f l k) s =
    let next : gate ≡ first + turn.grants_in before = step_turn first m before (Granted gate f l k) s in (
      never_given first gate before in_turn next,
      all_has (λ (x : Entry). not (is_object o x.object) || is_below gate x.what) before (λ x has. or_second (not (is_object o x.object)) (is_below gate x.what) (above_all first gate before in_turn next x has x.what refl)),
    )
step_order first m before o in_turn (Closed gate) s = (sym (same_given gate before) ∙ s.0, sym (same_closed gate before) ∙ s.1)
step_order first m before o in_turn (Access way access status got) s = tt
step_order first m before o in_turn (Invalidated f l) s = tt
step_order first m before o in_turn (Call phase answer) s = tt
step_order first m before o in_turn (Take slot) s = tt
step_order first m before o in_turn (Acquire slot) s = tt
step_order first m before o in_turn (Release slot freed) s = tt

order_from : (first : ℕ) (m : MemoryTraits) (before log : List Entry) → turn.TakesGatesInTurn first before → EachFrom (λ xs e. IsGrantStep first m xs e.what) before log → EachFrom (λ xs e. IsGateInOrder xs e.object e.what) before log
order_from first m before [] in_turn each = tt
order_from first m before (e ∷ es) in_turn each = (
  step_order first m before e.object in_turn e.what each.0,
  order_from first m (before ++ e ∷ []) es (AtEach-push (λ xs x. turn.TakesNextGate first xs x.what) before e in_turn (step_turn first m before e.what each.0)) each.1,
)

pub keep_logs : MemoriesKeepGateLogs
keep_logs p m row first log is all grants = record { gates = order_from first row.traits [] log tt grants; wholes = wholes_from p m row first is [] log all grants }
