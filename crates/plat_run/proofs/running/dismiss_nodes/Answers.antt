use Rattle.std.proofs.Common.{◌<◌, ◌≤◌, ℕ, length, sym, subst, arith}
use Rattle.std.specs.Prelude.{count_by}
use Rattle.plat_run.specs.Actors.{is_done, number_of}
use Rattle.plat_run.proofs.GatherLemmas.{all_pass, one_let_go}
use Rattle.plat_run.proofs.running.dismiss_nodes.Goals as goal

-- the last one has too great a number to be done
pub nodes-preserved : goal.nodes-preserved
nodes-preserved g c =
    let old = c.nodes.jobs in
    let job = c.in-Some.job in
    let more : c.args.count < length old.items = (let len = old.ok.0 in let test = c.nodes-test.true in let is = c.len.ensures in omega arith) in
    one_let_go number_of is_done c.args.count old.items c.pop.new.self.items job c.in-Some.ensures.items more
    (λ done. subst (λ (n : ℕ). number_of job < n) (sym c.requires.initiators) (c.let_go.ensures done)) c.nodes.invariant

pub returns-clause-done : goal.returns-clause-done
returns-clause-done g c =
    let jobs = c.nodes.jobs in
    let enough = c.nodes.invariant.enough in
    let many : length jobs.items ≤ count_by is_done jobs.items = (let len = jobs.ok.0 in let test = c.nodes-test.false in let is = c.len.ensures in omega arith) in
    all_pass is_done jobs.items many
