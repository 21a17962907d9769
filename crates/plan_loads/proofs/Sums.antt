-- What the ends of a run count in all is what its plan says, and fits 64 bits.
use Rattle.std.proofs.Common.{◌≡◌, ℕ, suc, ◌+◌, ◌*◌, ◌≤◌, Bool, true, false, List, [], ◌∷◌, Some, length, slice_get, refl, ap, sym, ◌∙◌, arith, if◌then◌else◌}
use Rattle.std.proofs.lemmas.Grind.{common_steps}
use Rattle.std.proofs.lemmas.List.Sums.{sum_by-cons}
use Rattle.std.specs.Prelude.{sum_by}
use Rattle.std.specs.List.{AllByRecursion}
use Rattle.tlm_types.specs.declared.ends.EndOf.{EndOf}
use Rattle.tlm_model.specs.declared.operation.Operation.{Operation}
use Rattle.tlm_model.specs.declared.platform.InitiatorRow.{InitiatorRow}
use Rattle.tlm_model.specs.declared.platform.Platform.{Platform}
use Rattle.tlm_model.specs.declared.platform.Style.{Style}
use Rattle.tlm_model.specs.declared.platform.Style.TheVariants.{Blocking, Direct, FourPhase}
use Rattle.tlm_model.specs.Plan.{Plan, Initiator, initiators_from, initiators_of}
use Rattle.tlm_model.specs.Requests.{numbers_in, numbers_of, time_after}
use Rattle.tlm_model.specs.Rounds.{syncs_after, syncs_by, syncs_from, syncs_of}
use Rattle.traffic_script.specs.Proper.{AreProper}
use Rattle.route_plan.specs.Valid.{IsValid}
use Rattle.run_outcome.specs.Outcome.{IsReportable}
use Rattle.run_outcome.specs.declared.outcome.Outcome.{Outcome}
use Rattle.plan_loads.specs.Totals.{HasSmallTotals, syncs_in, totals_in, totals_of, transactions_in}

-- two sums whose terms are the same
same-sums : (f : EndOf → ℕ) (g : Initiator → ℕ) (ends : List EndOf) (all : List Initiator) → length ends ≡ length all
    → ((n : ℕ) (i : Initiator) (e : EndOf) → slice_get all n ≡ Some i → slice_get ends n ≡ Some e → f e ≡ g i) → sum_by f ends ≡ sum_by g all
same-sums f g [] [] many same = refl
same-sums f g [] (i ∷ all) many same = absurd (omega (arith, many))
same-sums f g (e ∷ ends) [] many same = absurd (omega (arith, many))
same-sums f g (e ∷ ends) (i ∷ all) many same =
    let here = same 0 i e refl refl in
    let rest = same-sums f g ends all (omega (arith, many)) (λ n j x at there. same (suc n) j x at there) in
    omega (arith, sum_by-cons f e ends, sum_by-cons g i all, here, rest)

initiators-many : (n : ℕ) (rows : List InitiatorRow) (scripts : List (List Operation)) → length scripts ≡ length rows → length (initiators_from n rows scripts) ≡ length rows
initiators-many n [] scripts many = refl
initiators-many n (row ∷ rows) [] many = absurd (omega (arith, many))
initiators-many n (row ∷ rows) (script ∷ scripts) many = ap suc (initiators-many (n + 1) rows scripts (omega (arith, many)))

two-numbers : (op : Operation) → numbers_of op ≤ 2
two-numbers op = grind (arith, common_steps)

few-numbers : (ops : List Operation) → numbers_in ops ≤ 2 * length ops
few-numbers [] = omega arith
few-numbers (op ∷ ops) = omega (arith, two-numbers op, few-numbers ops)

few-syncs : (p : Platform) (i : Initiator) (now t : ℕ) (ops : List Operation) → syncs_from p i now t ops ≤ length ops
few-syncs p i now t [] = omega arith
few-syncs p i now t (op ∷ ops) = go (syncs_after p.quantum now (time_after p i t op) op) (few-syncs p i (time_after p i t op) (time_after p i t op) ops) (few-syncs p i now (time_after p i t op) ops)
  where
    go : (b : Bool) → syncs_from p i (time_after p i t op) (time_after p i t op) ops ≤ length ops → syncs_from p i now (time_after p i t op) ops ≤ length ops
        → (if b then syncs_from p i (time_after p i t op) (time_after p i t op) ops + 1 else syncs_from p i now (time_after p i t op) ops) ≤ suc (length ops)
    go true x y = omega (arith, x)
    go false x y = omega (arith, y)

syncs-at-most : (style : Style) (n : ℕ) → syncs_by style n ≤ n
syncs-at-most Blocking n = omega arith
syncs-at-most Direct n = omega arith
syncs-at-most FourPhase n = omega arith

numbers-bound : (n : ℕ) (rows : List InitiatorRow) (scripts : List (List Operation)) → AllByRecursion AreProper scripts
    → sum_by (λ (i : Initiator). numbers_in i.script) (initiators_from n rows scripts) ≤ 200000 * length rows
numbers-bound n [] scripts proper = omega arith
numbers-bound n (row ∷ rows) [] proper = omega arith
numbers-bound n (row ∷ rows) (script ∷ scripts) proper =
    let first : Initiator = record { number = n; row = row; script = script } in
    let more = sum_by-cons (λ (i : Initiator). numbers_in i.script) first (initiators_from (n + 1) rows scripts) in
    omega (arith, more, few-numbers script, proper.0.few, numbers-bound (n + 1) rows scripts proper.1)

syncs-bound : (p : Platform) (n : ℕ) (rows : List InitiatorRow) (scripts : List (List Operation)) → AllByRecursion AreProper scripts
    → sum_by (λ (i : Initiator). syncs_of p i) (initiators_from n rows scripts) ≤ 200000 * length rows
syncs-bound p n [] scripts proper = omega arith
syncs-bound p n (row ∷ rows) [] proper = omega arith
syncs-bound p n (row ∷ rows) (script ∷ scripts) proper =
    let first : Initiator = record { number = n; row = row; script = script } in
    let more = sum_by-cons (λ (i : Initiator). syncs_of p i) first (initiators_from (n + 1) rows scripts) in
    let here = syncs-at-most row.style (syncs_from p first 0 0 script) in
    omega (arith, more, here, few-syncs p first 0 0 script, proper.0.few, syncs-bound p (n + 1) rows scripts proper.1)

module _ (p : Plan) (o : Outcome) (told : IsReportable p o) where
  many-ends : length o.ends ≡ length (initiators_of p)
  many-ends = told.initiators ∙ sym (initiators-many 0 p.platform.initiators p.scripts told.scripts)

  pub transactions-are : transactions_in o.ends ≡ sum_by (λ (i : Initiator). numbers_in i.script) (initiators_of p)
  transactions-are = same-sums (λ (e : EndOf). e.transactions) (λ (i : Initiator). numbers_in i.script) o.ends (initiators_of p) many-ends (λ n i e at there. (told.ends n i e at there).transactions)

  pub syncs-are : syncs_in o.ends ≡ sum_by (λ (i : Initiator). syncs_of p.platform i) (initiators_of p)
  syncs-are = same-sums (λ (e : EndOf). e.syncs) (λ (i : Initiator). syncs_of p.platform i) o.ends (initiators_of p) many-ends (λ n i e at there. (told.ends n i e at there).syncs)

  pub totals-are : totals_in o ≡ totals_of p o.history.entries
  totals-are = rw (transactions-are, syncs-are) refl

  pub totals-are-small : IsValid p → HasSmallTotals o
  totals-are-small valid = record {
    transactions = omega (arith, transactions-are, numbers-bound 0 p.platform.initiators p.scripts valid.proper, valid.shape.bounded.initiator_count);
    syncs = omega (arith, syncs-are, syncs-bound p.platform 0 p.platform.initiators p.scripts valid.proper, valid.shape.bounded.initiator_count);
  }
