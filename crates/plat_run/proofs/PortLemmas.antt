-- A four-phase initiator, before its first turn and after its last one.
use Rattle.std.proofs.Common.{◌≡◌, ℕ, ◌<◌, List, length, Option, Some, true, refl, ap, sym, subst, arith}
use Rattle.std.specs.Prelude.{IsSomeAnd, slice_get}
use Rattle.std.proofs.lemmas.Bool.{false≢true}
use Rattle.atomic_table.specs.Seated.{TableId}
use Rattle.tlm_model.specs.declared.operation.Operation.{Operation}
use Rattle.tlm_model.specs.declared.platform.InitiatorRow.{InitiatorRow}
use Rattle.tlm_model.specs.declared.platform.Style.TheVariants.{FourPhase}
use Rattle.tlm_model.specs.Plan.{Plan, Initiator, initiators_of}
use Rattle.generic_payload.specs.Payload.{PayloadView}
use Rattle.route_plan.specs.Valid.{IsValid}
use Rattle.route_plan.proofs.ShareLemmas.{count_initiators}
use Rattle.script_engine.specs.State.{begun_engine}
use Rattle.fourphase_port.specs.Fresh.{IsFresh}
use Rattle.port_moves.specs.declared.hand.Pumped.{Pumped}
use Rattle.port_moves.specs.declared.hand.Pumped.TheVariants.{Did, Nothing, Finished}
use Rattle.plat_build.specs.declared.kept.Start.{Start}
use Rattle.plat_build.specs.Kept.{IsStart}
use Rattle.plat_build.proofs.StartLemmas.{has_style, number_begun}
use Rattle.run_outcome.proofs.ListLemmas.{has_element}
use Rattle.plat_run.specs.Turn.{finishes}
use Rattle.initiator_run.proofs.BeginLemmas.{script_from}

module _ (table tokens : TableId) (p : Plan) (valid : IsValid p) (n : ℕ) (s : Start) (below : n < length p.platform.initiators) (style : IsSomeAnd (slice_get p.platform.initiators n) (λ (row : InitiatorRow). row.style ≡ FourPhase)) (start : IsStart table tokens p n s) where
  -- the engine of an initiator begins with its script
  engine_begun : (i : Initiator) → slice_get (initiators_of p) n ≡ Some i → s.engine ≡ begun_engine n i.script
  engine_begun i at = subst (λ (o : Option (List Operation)). IsSomeAnd o (λ (x : List Operation). s.engine ≡ begun_engine n x)) (script_from 0 n p.platform.initiators p.scripts i at) start.engine

  -- a four-phase initiator has what a port begins with
  pub port_begun : IsFresh table tokens p s.engine.initiator s.engine s.payload s.note s.wallet
  port_begun =
      let found = has_element (initiators_of p) n (omega (arith, count_initiators 0 p.platform.initiators p.scripts valid.scripts)) in
      let i = found.element in
      subst (λ (k : ℕ). IsFresh table tokens p k s.engine s.payload s.note s.wallet) (sym (number_begun table tokens p n s start)) (record {
        initiator = i;
        is = found.at;
        style = has_style p n i FourPhase found.at style;
        engine = engine_begun i found.at;
        payload = ap (λ (b : PayloadView). b.room) start.payload;
        note_of = start.note.is_note;
        seen = start.note.seen;
        known = start.note.known;
        of = start.wallet.of;
        places = start.wallet.places;
        few = start.wallet.few;
        left = start.wallet.left;
        bytes = start.wallet.bytes;
      })

-- the pump that finishes is the last one
pub last_pump : (pumped : Pumped) → finishes pumped ≡ true → pumped ≡ Finished
last_pump Did is = absurd (false≢true is)
last_pump Nothing is = absurd (false≢true is)
last_pump Finished is = refl
