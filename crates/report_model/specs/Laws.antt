-- How initiators end, style by style.
use Rattle.std.specs.Prelude.{◌≡◌, ◌≢◌, ◌↔◌, List, map}
use Rattle.tlm_types.specs.declared.ends.EndOf.{EndOf}
use Rattle.tlm_types.specs.declared.entry.Entry.{Entry}
use Rattle.tlm_model.specs.declared.platform.Platform.{Platform}
use Rattle.tlm_model.specs.declared.platform.Style.TheVariants.{FourPhase}
use Rattle.tlm_model.specs.Plan.{Plan, Initiator}
use Rattle.tlm_model.specs.Requests.{end_of, numbers_in, refused_of}
use Rattle.tlm_model.specs.Rounds.{syncs_from}
use Rattle.flow_model.specs.Issue.{ends_of}
use Rattle.report_model.specs.Ends.{IsEndOf, end_with, issued_with, refused_at}

-- how a blocking or direct initiator ended, by its latencies
pub record IsEndByLatencies (p : Platform) (i : Initiator) (h : List Entry) (end : EndOf) : Type 0 where
  pub transactions : end.transactions ≡ numbers_in i.script
  pub syncs : end.syncs ≡ syncs_from p i 0 0 i.script
  pub time : end.end ≡ end_of p i
  pub refused : end.refused.items ≡ map (λ r. refused_at r r.time) (refused_of p i h)

-- how a four-phase initiator ended, by the ends of its accesses
pub record IsEndByAccesses (p : Plan) (i : Initiator) (h : List Entry) (end : EndOf) : Type 0 where
  pub transactions : end.transactions ≡ numbers_in i.script
  pub syncs : end.syncs ≡ 0
  pub time : end.end ≡ end_with (ends_of p h i.number) i
  pub refused : end.refused.items ≡ map (λ r. refused_at r (issued_with (ends_of p h i.number) i r.seq)) (refused_of p.platform i h)

abbrev pub EndsByLatencies : Type 0
EndsByLatencies = (p : Plan) (i : Initiator) (h : List Entry) (end : EndOf) → i.row.style ≢ FourPhase → IsEndOf p i h end ↔ IsEndByLatencies p.platform i h end

abbrev pub EndsByAccesses : Type 0
EndsByAccesses = (p : Plan) (i : Initiator) (h : List Entry) (end : EndOf) → i.row.style ≡ FourPhase → IsEndOf p i h end ↔ IsEndByAccesses p i h end
