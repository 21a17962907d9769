use Rattle.std.proofs.Common.{◌∙◌, List, length, ap, sym, subst}
use Rattle.tlm_model.specs.History.{IsNumbered}
use Rattle.tlm_types.specs.declared.entry.Entry.{Entry}
use Rattle.run_outcome.specs.Merge.{merged}
use Rattle.plat_core.proofs.OutcomeLemmas.{outcome_is}
use Rattle.plat_core.proofs.steps.Core.into_outcome.Goals as goal

pub of_logs-history-requires-clause-numbered : goal.of_logs-history-requires-clause-numbered
of_logs-history-requires-clause-numbered c =
    subst (λ (logs : List (List Entry)). IsNumbered (merged logs)) (sym c.in_ok-logs.ensures.logs) c.self.invariant.0.sound.requests.numbered

pub of_logs-history-requires-clause-counted : goal.of_logs-history-requires-clause-counted
of_logs-history-requires-clause-counted c =
    c.self.invariant.0.count ∙ ap (λ (logs : List (List Entry)). length (merged logs)) (sym c.in_ok-logs.ensures.logs)

pub returns : goal.returns
returns c =
    outcome_is c.self.inside.plan.now c.self.inside.runs.items c.self.inside.regions.items c.self.inside.rounds c.self.inside.made c.args.self _ c.self.invariant.0 c.self.invariant.1 c.self.view_is
    (c.of_logs-history.ensures.entries ∙ ap merged c.in_ok-logs.ensures.logs) c.in_ok-logs.ensures.stores c.in_ok-ends.ensures c.has_finished-complete.ensures.all
