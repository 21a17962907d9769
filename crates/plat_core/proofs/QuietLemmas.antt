-- Scripts that don't invalidate, and a run of one.
use Rattle.std.proofs.Common.{◌≡◌, ℕ, zero, suc, ◌+◌, ◌<◌, List, [], ◌∷◌, ◌++◌, length, Some, ap, sym, ◌∙◌, arith}
use Rattle.std.specs.Prelude.{All, slice_get}
use Rattle.std.specs.List.{AllByRecursion}
use Rattle.std.proofs.lemmas.List.Elements.{All-cons, All-from_recursion, All-head, All-nil, All-tail, recursion_from_All}
use Rattle.tlm_types.specs.declared.entry.Entry.{Entry}
use Rattle.tlm_model.specs.declared.operation.Operation.{Operation}
use Rattle.tlm_model.specs.declared.platform.InitiatorRow.{InitiatorRow}
use Rattle.tlm_model.specs.declared.platform.Platform.{Platform}
use Rattle.tlm_model.specs.Plan.{Plan, Initiator, initiators_from, initiators_of}
use Rattle.tlm_model.specs.Requests.{Request, requests_of}
use Rattle.tlm_model.proofs.HistoryLemmas.{all_at}
use Rattle.good_history.specs.GrantLaws.{HasNoInvalidation, IsNoInvalidation}
use Rattle.good_history.proofs.GrantsNone.{IsNoCloser, no_closers}
use Rattle.traffic_script.specs.declared.piece.Piece.{Piece}
use Rattle.traffic_script.specs.Pieces.{repeated, written_out}
use Rattle.quantum_keeper.specs.Keeper.{current_time}
use Rattle.script_engine.specs.declared.part.Part.TheVariants.{Invalidates}
use Rattle.script_engine.specs.State.{next_of, op_of, passed_by}
use Rattle.script_engine.specs.Asking.{requests_at, stage_after}
use Rattle.initiator_run.specs.declared.run.NextInvalidation.{NextInvalidation}
use Rattle.initiator_run.specs.Come.{HasCome}
use Rattle.initiator_run.specs.Moves.{HasToInvalidate, IsUnderWay}
use Rattle.initiator_run.specs.Run.{Run}
use Rattle.initiator_run.proofs.EndLemmas.{requests_now}
use Rattle.initiator_run.proofs.InvalidationLemmas.{left_after, request_to_invalidate}
use Rattle.initiator_run.proofs.StepLemmas.{slice_get-after}

-- an invalidation that is next is among the requests of its initiator, with the next number
invalidation_is_asked : (p : Platform) (i : Initiator) (r : Run) (a n : ℕ) → next_of r.engine ≡ Invalidates r.engine.seq a n → (h : List Entry) (come : HasCome p i h r) → slice_get (requests_of p i h) r.engine.seq ≡ Some (request_to_invalidate r.engine.seq a n (current_time r.keeper) come.stage)
invalidation_is_asked p i r a n is h come =
    let q = request_to_invalidate r.engine.seq a n (current_time r.keeper) come.stage in
    ap (λ (rs : List Request). slice_get rs r.engine.seq) (requests_now p i h r come ∙ ap (λ (rs : List Request). come.made ++ rs) (left_after p i r a n is h come.stage))
    ∙ slice_get-after come.made q (requests_at p i h (current_time r.keeper) (stage_after (op_of r.engine) come.stage) (passed_by r.engine)) r.engine.seq (sym come.count)

-- where no script invalidates, no run comes to an invalidation
pub never_invalidates : (p : Plan) (r : Run) (x : NextInvalidation) → HasNoInvalidation p → IsUnderWay p r → HasToInvalidate p r x → ⊥
never_invalidates p r x none way to =
    let i = way.initiator in
    let quiet = all_at (λ (j : Initiator). AllByRecursion IsNoInvalidation j.script) (initiators_of p) r.engine.initiator i none way.mine in
    all_at IsNoCloser (requests_of p.platform i way.history) r.engine.seq _ (no_closers p.platform i way.history 0 0 0 i.script quiet) (invalidation_is_asked p.platform i r to.address to.bytes to.next way.history way.come) tt

-- no operation of these is an invalidation
abbrev pub IsQuiet : List Operation → Type 0
IsQuiet ops = AllByRecursion IsNoInvalidation ops

joined : (xs ys : List Operation) → IsQuiet xs → IsQuiet ys → IsQuiet (xs ++ ys)
joined [] ys front back = back
joined (x ∷ xs) ys front back = (front.0, joined xs ys front.1 back)

apart : (xs ys : List Operation) → IsQuiet (xs ++ ys) → IsQuiet xs × IsQuiet ys
apart [] ys all = (tt, all)
apart (x ∷ xs) ys all = let rest = apart xs ys all.1 in ((all.0, rest.0), rest.1)

repeated_quiet : (n : ℕ) (ops : List Operation) → IsQuiet ops → IsQuiet (repeated n ops)
repeated_quiet zero ops all = tt
repeated_quiet (suc n) ops all = joined ops (repeated n ops) all (repeated_quiet n ops all)

quiet_once : (n : ℕ) (ops : List Operation) → 0 < n → IsQuiet (repeated n ops) → IsQuiet ops
quiet_once zero ops some all = absurd (omega arith)
quiet_once (suc n) ops some all = (apart ops (repeated n ops) all).0

abbrev pub IsQuietPiece : Piece → Type 0
IsQuietPiece piece = All IsNoInvalidation piece.operations

-- the operations of quiet pieces, and of none else, are quiet
pub quiet_written : (pieces : List Piece) → All IsQuietPiece pieces → IsQuiet (written_out pieces)
quiet_written [] all = tt
quiet_written (p ∷ pieces) all =
    joined (repeated p.times p.operations) (written_out pieces)
    (repeated_quiet p.times p.operations (recursion_from_All IsNoInvalidation p.operations (All-head IsQuietPiece p pieces all)))
    (quiet_written pieces (All-tail IsQuietPiece p pieces all))

pub written_quiet : (pieces : List Piece) → IsQuiet (written_out pieces) → All IsQuietPiece pieces
written_quiet [] all = All-nil IsQuietPiece
written_quiet (p ∷ pieces) all =
    let parts = apart (repeated p.times p.operations) (written_out pieces) all in
    All-cons IsQuietPiece p pieces (All-from_recursion IsNoInvalidation p.operations (quiet_once p.times p.operations p.repeated parts.0)) (written_quiet pieces parts.1)

quiet_from : (n : ℕ) (rows : List InitiatorRow) (scripts : List (List Operation)) → AllByRecursion IsQuiet scripts → AllByRecursion (λ (i : Initiator). IsQuiet i.script) (initiators_from n rows scripts)
quiet_from n [] scripts all = tt
quiet_from n (row ∷ rows) [] all = tt
quiet_from n (row ∷ rows) (script ∷ scripts) all = (all.0, quiet_from (n + 1) rows scripts all.1)

from_quiet : (n : ℕ) (rows : List InitiatorRow) (scripts : List (List Operation)) → length scripts ≡ length rows → AllByRecursion (λ (i : Initiator). IsQuiet i.script) (initiators_from n rows scripts) → AllByRecursion IsQuiet scripts
from_quiet n rows [] same all = tt
from_quiet n [] (script ∷ scripts) same all = absurd (omega arith)
from_quiet n (row ∷ rows) (script ∷ scripts) same all = (all.0, from_quiet (n + 1) rows scripts (omega arith) all.1)

-- a plan of quiet scripts
pub quiet_plan : (p : Plan) → AllByRecursion IsQuiet p.scripts → HasNoInvalidation p
quiet_plan p all = quiet_from 0 p.platform.initiators p.scripts all

-- each script of a plan that invalidates nothing is quiet
pub quiet_script : (p : Plan) (n : ℕ) (script : List Operation) → length p.scripts ≡ length p.platform.initiators → slice_get p.scripts n ≡ Some script → HasNoInvalidation p → IsQuiet script
quiet_script p n script same at none = all_at IsQuiet p.scripts n script (from_quiet 0 p.platform.initiators p.scripts same none) at
