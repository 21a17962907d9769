-- Initiators, routers and memories before their first turns.
use Rattle.std.proofs.Common.{◌≡◌, ℕ, zero, suc, ◌+◌, ◌<◌, ◌≤◌, Bool, true, false, List, [], ◌∷◌, ◌++◌, length, set, Option, Some, None, ap, sym, subst, ◌∙◌, arith}
use Rattle.std.specs.Prelude.{IsSomeAnd, slice_get}
use Rattle.std.proofs.lemmas.List.{length_push}
use Rattle.atomic_table.specs.Seated.{TableId}
use Rattle.tlm_model.specs.declared.operation.Operation.{Operation}
use Rattle.tlm_model.specs.declared.platform.InitiatorRow.{InitiatorRow}
use Rattle.tlm_model.specs.declared.platform.Style.{Style}
use Rattle.tlm_model.specs.Plan.{Plan, Initiator, initiators_of}
use Rattle.tlm_model.proofs.InitiatorLemmas.{initiator_from}
use Rattle.script_engine.specs.State.{State, begun_engine}
use Rattle.plat_build.specs.declared.kept.Start.{Start}
use Rattle.plat_build.specs.Kept.{IsStart, Waiting}

-- an initiator has the style of its row
pub has_style : (p : Plan) (n : ℕ) (i : Initiator) (style : Style) → slice_get (initiators_of p) n ≡ Some i → IsSomeAnd (slice_get p.platform.initiators n) (λ (row : InitiatorRow). row.style ≡ style) → i.row.style ≡ style
has_style p n i style at is = subst (λ (o : Option InitiatorRow). IsSomeAnd o (λ (row : InitiatorRow). row.style ≡ style)) (initiator_from 0 p.platform.initiators p.scripts n i at).1 is

-- the engine of an initiator that begins has its number
pub number_begun : (table tokens : TableId) (p : Plan) (n : ℕ) (s : Start) → IsStart table tokens p n s → s.engine.initiator ≡ n
number_begun table tokens p n s start = by (slice_get p.scripts n) start.engine
  where
    by : (o : Option (List Operation)) → IsSomeAnd o (λ (script : List Operation). s.engine ≡ begun_engine n script) → s.engine.initiator ≡ n
    by None none = absurd none
    by (Some script) is = ap (λ (e : State). e.initiator) is

-- those after the one that is handed out still wait
still_wait : (waiting : List Bool) (n k : ℕ) → n < k → slice_get waiting k ≡ Some true → slice_get (set waiting n false) k ≡ Some true
still_wait [] n k late at = at
still_wait (x ∷ waiting) zero zero late at = absurd (omega arith)
still_wait (x ∷ waiting) zero (suc k) late at = at
still_wait (x ∷ waiting) (suc n) zero late at = absurd (omega arith)
still_wait (x ∷ waiting) (suc n) (suc k) late at = still_wait waiting n k (omega arith) at

pub starts_still_wait : (old new : Waiting) (n k : ℕ) → new ≡ record old { starts = set old.starts n false } → n + 1 ≤ k → slice_get old.starts k ≡ Some true → slice_get new.starts k ≡ Some true
starts_still_wait old new n k is late at = subst (λ (w : Waiting). slice_get w.starts k ≡ Some true) (sym is) (still_wait old.starts n k (omega arith) at)

pub routers_still_wait : (old new : Waiting) (n k : ℕ) → new ≡ record old { routers = set old.routers n false } → n + 1 ≤ k → slice_get old.routers k ≡ Some true → slice_get new.routers k ≡ Some true
routers_still_wait old new n k is late at = subst (λ (w : Waiting). slice_get w.routers k ≡ Some true) (sym is) (still_wait old.routers n k (omega arith) at)

pub memories_still_wait : (old new : Waiting) (n k : ℕ) → new ≡ record old { memories = set old.memories n false } → n + 1 ≤ k → slice_get old.memories k ≡ Some true → slice_get new.memories k ≡ Some true
memories_still_wait old new n k is late at = subst (λ (w : Waiting). slice_get w.memories k ≡ Some true) (sym is) (still_wait old.memories n k (omega arith) at)

-- one more that begins
pub counted_more : {J : Type 0} (jobs after : List J) (job : J) (n : ℕ) → length jobs ≡ n → after ≡ jobs ++ job ∷ [] → length after ≡ n + 1
counted_more jobs after job n count pushed = ap length pushed ∙ (length_push jobs job ∙ ap (λ (k : ℕ). k + 1) count)
