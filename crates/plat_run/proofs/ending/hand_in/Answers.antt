use Rattle.std.proofs.Common.{◌≡◌, ℕ, [], ◌∷◌, length, true, subst, arith, length-append}
use Rattle.one_history.specs.Held.{Held}
use Rattle.token_book.specs.Purse.{Purse}
use Rattle.tlm_types.specs.declared.ends.EndOf.{EndOf}
use Rattle.tlm_types.specs.declared.entry.Content.{Content}
use Rattle.tlm_model.specs.Plan.{Plan}
use Rattle.plat_build.proofs.KeptLemmas.{next_is, whole_next}
use Rattle.plat_run.specs.Actors.{is_done, number_of}
use Rattle.net_end.specs.Leaves.{IsFinished}
use Rattle.plat_run.proofs.GatherLemmas.{each_there, finished_next}
use Rattle.plat_run.proofs.ending.hand_in.Goals as goal

pub finish-end-requires : goal.finish-end-requires
finish-end-requires g c =
    let jobs = c.args.jobs.items in
    let past = c.loop-job.yielded in
    let at = next_is jobs past c.next.new.self.rest.items c.loop-job.job-iterator.rest.items c.in-Some.job c.loop-job.invariant.whole c.in-Some.ensures.steps.0 in
    each_there (λ k x. is_done x ≡ true) jobs (length past) c.in-Some.job c.requires.done at

pub loop-job-preserved : goal.loop-job-preserved
loop-job-preserved g c =
    let n = g.N.Naming in
    let p : Plan = n.frame.world in
    let i = c.loop-job.invariant in
    let jobs = c.args.jobs.items in
    let past = c.loop-job.yielded in
    let k : ℕ = length past in
    let job = c.in-Some.job in
    let at = next_is jobs past c.next.new.self.rest.items c.loop-job.job-iterator.rest.items job i.whole c.in-Some.ensures.steps.0 in
    let number : number_of job ≡ k = each_there (λ m x. number_of x ≡ m) jobs k job c.requires.numbered at in
    let end : EndOf = c.finish-end.result.0 in
    let wallet : Purse = c.finish-end.result.1 in
    let note : Held Content Plan = c.finish-end.result.2 in
    let ends = c.loop-job.ends.items in
    let wallets = c.loop-job.wallets.items in
    let is : IsFinished n.table n.tokens p k end note wallet = subst (λ (m : ℕ). IsFinished n.table n.tokens p m end note wallet) number c.finish-end.ensures in
    record {
      whole = whole_next jobs past c.next.new.self.rest.items c.loop-job.job-iterator.rest.items job i.whole c.in-Some.ensures.steps.0;
      are = finished_next n.table n.tokens p k _ ends _ wallets _ c.loop-job.notes.items _ end wallet note (length-append past (job ∷ [])) c.push_reserved.ensures.items c.push_reserved-in-loop-job.ensures.items c.push_reserved-in-loop-job-2.ensures.items i.are is;
      ends = omega (arith, i.ends, c.push_reserved.ensures.capacity);
      wallets = omega (arith, i.wallets, c.push_reserved-in-loop-job.ensures.capacity);
      notes = omega (arith, i.notes, c.push_reserved-in-loop-job-2.ensures.capacity);
    }
