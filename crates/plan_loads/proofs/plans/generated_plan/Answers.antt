use Rattle.std.proofs.Common.{List, Some, IfErr, IfOk, subst}
use Rattle.outside.specs.Files.{held_or_empty}
use Rattle.outside.specs.declared.libraries.NamedFile.{NamedFile}
use Rattle.tlm_model.specs.Plan.{Plan}
use Rattle.command_words.specs.Commands.{line_of}
use Rattle.plan_loads.specs.declared.exit.Exit.{Exit}
use Rattle.plan_loads.specs.Files.{IsPlan}
use Rattle.plan_loads.specs.Plans.{IsRefusal}
use Rattle.plan_loads.proofs.plans.generated_plan.Goals as goal

pub returns-clause-plan : goal.returns-clause-plan
returns-clause-plan c = subst (λ (files : List NamedFile). IfOk c.plan_over.result (λ (p : Plan). IsPlan (λ n. Some (held_or_empty files n)) (line_of c.args.command) p))
    c.in_ok-files.ensures c.plan_over.ensures.plan

pub returns-clause-refused : goal.returns-clause-refused
returns-clause-refused c = subst (λ (files : List NamedFile). IfErr c.plan_over.result (λ (exit : Exit). IsRefusal exit (record { holds = λ n. Some (held_or_empty files n); faults_before = λ n. 0; faults_after = λ n. 0 }) (line_of c.args.command)))
    c.in_ok-files.ensures c.plan_over.ensures.refused
