-- The tickets for the gates that an initiator may still be granted and close.
use Rattle.std.proofs.Common.{◌≡◌, ℕ, ◌+◌, ◌*◌, ◌≤◌, ◌&&◌, Bool, true, false, cond, List, [], ◌∷◌, ◌++◌, Option, Some, None, slice_get, refl, ap, subst, ◌∙◌, arith}
use Rattle.std.specs.List.{flat_map, list_any}
use Rattle.std.proofs.lemmas.Bool.{eqb-true, or_left, or_right}
use Rattle.std.proofs.lemmas.List.Folds.{list_any-append}
use Rattle.view_lists.specs.Lists.{Within}
use Rattle.one_history.specs.declared.entry.Entry.{Entry as HistoryEntry}
use Rattle.shared_object.specs.Written.{written_at}
use Rattle.tlm_types.specs.declared.entry.Content.{Content}
use Rattle.tlm_model.specs.declared.operation.Operation.{Operation}
use Rattle.tlm_model.specs.declared.operation.Operation.TheVariants.{Invalidate}
use Rattle.tlm_model.specs.declared.platform.MemoryRow.{MemoryRow}
use Rattle.tlm_model.specs.declared.platform.Style.{Style}
use Rattle.tlm_model.specs.declared.platform.Style.TheVariants.{Direct}
use Rattle.tlm_model.specs.declared.platform.Target.TheVariants.{Memory as memory_target}
use Rattle.tlm_model.specs.Actions.{asks_of}
use Rattle.tlm_model.specs.Plan.{Plan, Initiator}
use Rattle.tlm_model.specs.Route.{Route as RouteOfModel, route_of}
use Rattle.tlm_model.specs.Scripts.{first_gate}
use Rattle.platform_shape.specs.Paths.{has_path, once}
use Rattle.route_plan.specs.Planned.{asks_in, at_gates, gates_by, invalidates, is_direct, is_routed_to, leads_to}
use Rattle.route_plan.specs.Valid.{IsValid}
use Rattle.script_engine.specs.declared.part.Part.TheVariants.{Invalidates}
use Rattle.script_engine.specs.Part.{part_of}
use Rattle.script_engine.specs.State.{Due, State, next_of, op_at}
use Rattle.dmi_grants.specs.Made.{dmi_gates, dmi_gates_of, is_closed_in, is_given_in, unclosed}
use Rattle.dmi_grants.proofs.Counts.{count_most}
use Rattle.dmi_grants.proofs.OnlyWay.{walked_has_path}
use Rattle.dmi_grants.proofs.Telling.{fewer_unclosed}
use Rattle.decoupled_run.specs.Known.{gates_left, ungiven}
use Rattle.decoupled_run.specs.Script.{IsInScript}
use Rattle.decoupled_run.proofs.KnownLemmas.{ungiven_less}

-- an address that leads to a memory makes a path
pub routed_path : (p : Plan) (i : Initiator) (m a : ℕ) → IsValid p → (o : Option RouteOfModel) → route_of p.platform i a ≡ o → leads_to o m ≡ true → has_path p.platform i.row (memory_target m) ≡ true
routed_path p i m a valid None is leads = absurd (let wrong : false ≡ true = leads in cc (wrong))
routed_path p i m a valid (Some r) is leads =
    let same : r.memory ≡ m = eqb-true r.memory m leads in
    subst (λ (k : ℕ). has_path p.platform i.row (memory_target k) ≡ true) same (walked_has_path p.platform valid.shape i.row a r.memory r.offset is)

less_if : (b : Bool) (x y : ℕ) → x ≤ y → cond b x 0 ≤ cond b y 0
less_if true x y less = less
less_if false x y less = omega arith

none_if : (b : Bool) (x n y : ℕ) → b ≡ true → x + n ≤ y → cond b x 0 + n ≤ cond b y 0
none_if true x n y is less = less
none_if false x n y is less = absurd (cc (is))

some_if : (b : Bool) (x : ℕ) → b ≡ true → x ≤ cond b x 0
some_if true x is = omega arith
some_if false x is = absurd (cc (is))

module _ (p : Plan) (i : Initiator) (m : ℕ) where
  abbrev pub granted : Bool
  granted = is_direct i.row.style && has_path p.platform i.row (memory_target m)

  abbrev pub closes : Bool
  closes = list_any (invalidates p i m) (asks_in i)

  -- a direct initiator with a path to the memory may be granted its gates
  pub may_be_granted : i.row.style ≡ Direct → has_path p.platform i.row (memory_target m) ≡ true → granted ≡ true
  may_be_granted direct path = ap (λ (s : Style). is_direct s && has_path p.platform i.row (memory_target m)) direct ∙ path

  -- they are no more as the note learns more
  pub gates_left_less : (xs ys : List (HistoryEntry Content)) → Within xs ys → gates_left p i ys m ≤ gates_left p i xs m
  gates_left_less xs ys more =
      let one = less_if granted (ungiven p ys m) (ungiven p xs m) (ungiven_less p xs ys m more) in
      let two = less_if closes (unclosed p m (written_at m ys)) (unclosed p m (written_at m xs)) (fewer_unclosed p m xs ys more) in
      omega arith

  -- one less, where one more is known to be given
  pub gates_left_given : (xs ys : List (HistoryEntry Content)) → Within xs ys → granted ≡ true → ungiven p ys m + 1 ≤ ungiven p xs m → gates_left p i ys m + 1 ≤ gates_left p i xs m
  gates_left_given xs ys more goes less =
      let one = none_if granted (ungiven p ys m) 1 (ungiven p xs m) goes less in
      let two = less_if closes (unclosed p m (written_at m ys)) (unclosed p m (written_at m xs)) (fewer_unclosed p m xs ys more) in
      omega arith

  -- so many less, where so many more are known to be closed
  pub gates_left_closed : (xs ys : List (HistoryEntry Content)) (n : ℕ) → Within xs ys → closes ≡ true → unclosed p m (written_at m ys) + n ≤ unclosed p m (written_at m xs) → gates_left p i ys m + n ≤ gates_left p i xs m
  gates_left_closed xs ys n more goes less =
      let one = less_if granted (ungiven p ys m) (ungiven p xs m) (ungiven_less p xs ys m more) in
      let two = none_if closes (unclosed p m (written_at m ys)) n (unclosed p m (written_at m xs)) goes less in
      omega arith

  pub some_ungiven : (xs : List (HistoryEntry Content)) → granted ≡ true → ungiven p xs m ≤ gates_left p i xs m
  some_ungiven xs goes = let one = some_if granted (ungiven p xs m) goes in omega arith

  pub some_unclosed : (xs : List (HistoryEntry Content)) → closes ≡ true → unclosed p m (written_at m xs) ≤ gates_left p i xs m
  some_unclosed xs goes = let one = some_if closes (unclosed p m (written_at m xs)) goes in omega arith

  both_if : (a b : Bool) (x y g : ℕ) → x ≤ g → y ≤ g → cond a x 0 + cond b y 0 ≤ g * (once a + once b)
  both_if true true x y g less under = omega arith
  both_if true false x y g less under = omega arith
  both_if false true x y g less under = omega arith
  both_if false false x y g less under = omega arith

  shared_by : (row : Option MemoryRow) (x y : ℕ) → x ≤ dmi_gates_of row → y ≤ dmi_gates_of row → cond granted x 0 + cond closes y 0 ≤ gates_by p i m row
  shared_by None x y less under =
      let one = less_if granted x 0 less in
      let two = less_if closes y 0 under in
      let none = nothing granted in
      let too = nothing closes in
      omega arith
    where
      nothing : (b : Bool) → cond {A = ℕ} b 0 0 ≡ 0
      nothing true = refl
      nothing false = refl
  shared_by (Some row) x y less under = by row.traits.dmi less under
    where
      nothing : (b : Bool) → cond {A = ℕ} b 0 0 ≡ 0
      nothing true = refl
      nothing false = refl

      by : (d : Bool) → x ≤ cond d row.traits.gates 0 → y ≤ cond d row.traits.gates 0 → cond granted x 0 + cond closes y 0 ≤ cond d (row.traits.gates * (once granted + once closes)) 0
      by true few under = both_if granted closes x y row.traits.gates few under
      by false few under =
          let one = less_if granted x 0 few in
          let two = less_if closes y 0 under in
          let none = nothing granted in
          let too = nothing closes in
          omega arith

  -- its share has them
  pub gates_shared : (xs : List (HistoryEntry Content)) → gates_left p i xs m ≤ at_gates p i m
  gates_shared xs =
      shared_by (slice_get p.platform.memories m) (ungiven p xs m) (unclosed p m (written_at m xs))
      (count_most (is_given_in (written_at m xs)) (first_gate p.platform m) (dmi_gates p m))
      (count_most (is_closed_in (written_at m xs)) (first_gate p.platform m) (dmi_gates p m))

  -- an invalidation that is next and is routed to the memory is among what is asked for
  asks_next : (s a n : ℕ) (due : Option Due) (ops : List Operation) → part_of (op_at s due ops) ≡ Invalidates s a n → is_routed_to p i m a ≡ true → list_any (invalidates p i m) (flat_map asks_of ops) ≡ true
  asks_next s a n (Some w) ops is led = cc (is)
  asks_next s a n None [] is led = cc (is)
  asks_next s a n None (Invalidate b k ∷ ops) is led =
      let same : b ≡ a = cc (is) in
      or_left (is_routed_to p i m b) (list_any (invalidates p i m) (flat_map asks_of ops)) (ap (is_routed_to p i m) same ∙ led)
  asks_next s a n None (op ∷ ops) is led = cc (is)

  asks_behind : (front ops : List Operation) → list_any (invalidates p i m) (flat_map asks_of ops) ≡ true → list_any (invalidates p i m) (flat_map asks_of (front ++ ops)) ≡ true
  asks_behind [] ops is = is
  asks_behind (op ∷ front) ops is =
      list_any-append (invalidates p i m) (asks_of op) (flat_map asks_of (front ++ ops))
      ∙ or_right (list_any (invalidates p i m) (asks_of op)) (list_any (invalidates p i m) (flat_map asks_of (front ++ ops))) (asks_behind front ops is)

  -- so its script closes gates of the memory
  pub closes_next : (e : State) (a n : ℕ) → IsInScript i e → next_of e ≡ Invalidates e.seq a n → is_routed_to p i m a ≡ true → closes ≡ true
  closes_next e a n stands is led =
      ap (λ (ops : List Operation). list_any (invalidates p i m) (flat_map asks_of ops)) stands.whole
      ∙ asks_behind stands.before e.remaining (asks_next e.seq a n e.due e.remaining is led)
