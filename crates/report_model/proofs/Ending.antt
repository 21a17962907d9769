-- How initiators end, style by style.
use Rattle.std.proofs.Common.{◌≡◌, ◌≢◌, ℕ, List, map, refl, ap, ◌∙◌, sym}
use Rattle.tlm_types.specs.declared.entry.Entry.{Entry}
use Rattle.tlm_model.specs.declared.platform.Style.{Style}
use Rattle.tlm_model.specs.declared.platform.Style.TheVariants.{Blocking, Direct, FourPhase}
use Rattle.tlm_model.specs.Plan.{Plan, Initiator}
use Rattle.tlm_model.specs.Requests.{Request, end_of, refused_of}
use Rattle.tlm_model.specs.Rounds.{syncs_by, syncs_from}
use Rattle.report_model.specs.Ends.{end_by_style, issue_by_style, refused_at}
use Rattle.report_model.specs.Laws.{EndsByAccesses, EndsByLatencies}

-- what the definitions by style give
decoupled_syncs : (s : Style) (n : ℕ) → s ≢ FourPhase → syncs_by s n ≡ n
decoupled_syncs Blocking n apart = refl
decoupled_syncs Direct n apart = refl
decoupled_syncs FourPhase n apart = absurd (apart refl)

decoupled_end : (s : Style) (p : Plan) (h : List Entry) (i : Initiator) → s ≢ FourPhase → end_by_style s p h i ≡ end_of p.platform i
decoupled_end Blocking p h i apart = refl
decoupled_end Direct p h i apart = refl
decoupled_end FourPhase p h i apart = absurd (apart refl)

decoupled_refused : (s : Style) (p : Plan) (h : List Entry) (i : Initiator) (rs : List Request) → s ≢ FourPhase → map (λ (r : Request). refused_at r (issue_by_style s p h i r)) rs ≡ map (λ (r : Request). refused_at r r.time) rs
decoupled_refused Blocking p h i rs apart = refl
decoupled_refused Direct p h i rs apart = refl
decoupled_refused FourPhase p h i rs apart = absurd (apart refl)

pub ends_by_latencies : EndsByLatencies
ends_by_latencies p i h end apart =
    let syncs = decoupled_syncs i.row.style (syncs_from p.platform i 0 0 i.script) apart in
    let time = decoupled_end i.row.style p h i apart in
    let refused = decoupled_refused i.row.style p h i (refused_of p.platform i h) apart in (
      λ is. record { transactions = is.transactions; syncs = is.syncs ∙ syncs; time = is.time ∙ time; refused = is.refused ∙ refused },
      λ is. record { transactions = is.transactions; syncs = is.syncs ∙ sym syncs; time = is.time ∙ sym time; refused = is.refused ∙ sym refused },
    )

pub ends_by_accesses : EndsByAccesses
ends_by_accesses p i h end four =
    let syncs = ap (λ (s : Style). syncs_by s (syncs_from p.platform i 0 0 i.script)) four in
    let time = ap (λ (s : Style). end_by_style s p h i) four in
    let refused = ap (λ (s : Style). map (λ (r : Request). refused_at r (issue_by_style s p h i r)) (refused_of p.platform i h)) four in (
      λ is. record { transactions = is.transactions; syncs = is.syncs ∙ syncs; time = is.time ∙ time; refused = is.refused ∙ refused },
      λ is. record { transactions = is.transactions; syncs = is.syncs ∙ sym syncs; time = is.time ∙ sym time; refused = is.refused ∙ sym refused },
    )
