-- Good histories of valid plans.
use Rattle.std.specs.Prelude.{◌≡◌, List}
use Rattle.std.specs.List.{AllByRecursion}
use Rattle.tlm_types.specs.declared.entry.Entry.{Entry}
use Rattle.tlm_model.specs.declared.trace.Trace.TheVariants.{All}
use Rattle.good_history.specs.Good.{IsGood}
use Rattle.tlm_model.specs.Plan.{Plan}
use Rattle.report_model.specs.Report.{report_of}
use Rattle.route_plan.specs.Valid.{IsValid}
use Rattle.trace_print.specs.Naming.{IsTellable}

-- histories of a valid plan, of entries as a run has them, are the same where their reports are
abbrev pub NamesValidHistories : Type 0
NamesValidHistories = (p : Plan) → IsValid p → (h g : List Entry) → AllByRecursion (IsTellable p.platform) h → AllByRecursion (IsTellable p.platform) g → report_of All p h ≡ report_of All p g → h ≡ g

-- good histories of a valid plan are the same where their reports are
abbrev pub NamesGoodHistories : Type 0
NamesGoodHistories = (p : Plan) → IsValid p → (h g : List Entry) → IsGood p h → IsGood p g → report_of All p h ≡ report_of All p g → h ≡ g
