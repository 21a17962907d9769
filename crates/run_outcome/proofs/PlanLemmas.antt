-- The initiators of a plan.
use Rattle.std.proofs.Common.{◌≡◌, ◌≢◌, ℕ, zero, suc, ◌+◌, ◌<◌, List, [], ◌∷◌, length, Some, slice_get, sym, subst, ◌∙◌, arith}
use Rattle.std.specs.List.{AllByRecursion}
use Rattle.std.specs.Prelude.{All}
use Rattle.std.proofs.lemmas.List.Elements.{All-head, All-tail}
use Rattle.tlm_model.specs.declared.operation.Operation.{Operation}
use Rattle.tlm_model.specs.declared.platform.InitiatorRow.{InitiatorRow}
use Rattle.tlm_model.specs.declared.platform.Platform.{Platform}
use Rattle.tlm_model.specs.declared.platform.Style.{Style}
use Rattle.tlm_model.specs.declared.platform.Style.TheVariants.{Blocking, Direct, FourPhase}
use Rattle.tlm_model.specs.Plan.{Plan, Initiator, initiators_from, initiators_of}
use Rattle.flow_model.specs.Plans.{HasNoFourPhase}
use Rattle.tlm_model.proofs.InitiatorLemmas.{initiator_from}
use Rattle.good_history.specs.GrantLaws.{HasNoDirect}
use Rattle.platform_shape.specs.Shape.{IsBlocking}
use Rattle.run_outcome.proofs.ListLemmas.{within}

-- initiators are numbered in order
pub initiator_number : (p : Plan) (n : ℕ) (i : Initiator) → slice_get (initiators_of p) n ≡ Some i → i.number ≡ n
initiator_number p n i is = omega (arith, (initiator_from 0 p.platform.initiators p.scripts n i is).0)

-- the number of an initiator is below the number of the initiators
pub initiator_within : (p : Plan) (n : ℕ) (i : Initiator) → slice_get (initiators_of p) n ≡ Some i → n < length p.platform.initiators
initiator_within p n i is = within p.platform.initiators n i.row (initiator_from 0 p.platform.initiators p.scripts n i is).1

-- what holds of all rows holds of each in turn
rows_in_turn : (P : Style → Type 0) (rows : List InitiatorRow) → All (λ (row : InitiatorRow). P row.style) rows → AllByRecursion (λ (row : InitiatorRow). P row.style) rows
rows_in_turn P [] all = tt
rows_in_turn P (row ∷ rows) all =
    let Q : InitiatorRow → Type 0 = λ r. P r.style in
    (All-head Q row rows all, rows_in_turn P rows (All-tail Q row rows all))

-- the initiators of a blocking platform, in turn
are_blocking : (p : Platform) → IsBlocking p → AllByRecursion (λ (row : InitiatorRow). row.style ≡ Blocking) p.initiators
are_blocking p blocking = rows_in_turn (λ style. style ≡ Blocking) p.initiators blocking

-- an initiator of blocking rows is blocking
blocking_from : (k n : ℕ) (rows : List InitiatorRow) (scripts : List (List Operation)) (i : Initiator) → AllByRecursion (λ (row : InitiatorRow). row.style ≡ Blocking) rows → slice_get (initiators_from k rows scripts) n ≡ Some i → i.row.style ≡ Blocking
blocking_from k n [] scripts i all is = cc
blocking_from k n (row ∷ rows) [] i all is = cc
blocking_from k zero (row ∷ rows) (script ∷ scripts) i all is =
    let same : record { number = k; row = row; script = script } ≡ i = cc in
    subst (λ (x : Initiator). x.row.style ≡ Blocking) same all.0
blocking_from k (suc n) (row ∷ rows) (script ∷ scripts) i all is = blocking_from (k + 1) n rows scripts i all.1 is

-- an initiator of a plan of blocking initiators is blocking
pub blocking_at : (p : Plan) → IsBlocking p.platform → (n : ℕ) (i : Initiator) → slice_get (initiators_of p) n ≡ Some i → i.row.style ≡ Blocking
blocking_at p blocking n i is = blocking_from 0 n p.platform.initiators p.scripts i (are_blocking p.platform blocking) is

pub blocking_apart : (style : Style) → style ≡ Blocking → style ≢ FourPhase
blocking_apart style is four = let wrong : Blocking ≡ FourPhase = sym is ∙ four in cc

-- what holds of each row holds of each initiator
rows_hold : (P Q : Style → Type 0) → ((style : Style) → P style → Q style) → (n : ℕ) (rows : List InitiatorRow) (scripts : List (List Operation)) → AllByRecursion (λ (row : InitiatorRow). P row.style) rows → AllByRecursion (λ i. Q i.row.style) (initiators_from n rows scripts)
rows_hold P Q f n [] scripts all = tt
rows_hold P Q f n (row ∷ rows) [] all = tt
rows_hold P Q f n (row ∷ rows) (script ∷ scripts) all = (f row.style all.0, rows_hold P Q f (n + 1) rows scripts all.1)

-- blocking initiators have no four phases
pub no_fourphase : (p : Plan) → IsBlocking p.platform → HasNoFourPhase p
no_fourphase p blocking = rows_hold (λ style. style ≡ Blocking) (λ style. style ≢ FourPhase) blocking_apart 0 p.platform.initiators p.scripts (are_blocking p.platform blocking)

blocking_undirect : (style : Style) → style ≡ Blocking → style ≢ Direct
blocking_undirect style is = λ direct. let wrong : Blocking ≡ Direct = sym is ∙ direct in cc

-- blocking initiators aren't direct
pub no_direct : (p : Plan) → IsBlocking p.platform → HasNoDirect p
no_direct p blocking = rows_hold (λ style. style ≡ Blocking) (λ style. style ≢ Direct) blocking_undirect 0 p.platform.initiators p.scripts (are_blocking p.platform blocking)
