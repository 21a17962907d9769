use Rattle.std.proofs.Common.{false, slice_get, sym, subst, ◌∙◌}
use Rattle.std.specs.Prelude.{IsSomeAnd, IsTrue}
use Rattle.tlm_types.specs.declared.words.Command.{Command}
use Rattle.dmi_grants.specs.Table.{covers}
use Rattle.decoupled_run.proofs.Finding.{found_passes}
use Rattle.decoupled_run.proofs.MoveLemmas.{made_before}
use Rattle.decoupled_run.proofs.access.make_plain.Goals as goal

pub use_held-requires-clause-which : goal.use_held-requires-clause-which
use_held-requires-clause-which g c =
    let x = c.args.next.transfer in
    subst (λ (k : Command). IsSomeAnd (slice_get c.loop-which.grants.held c.in-Some.which) (λ h. IsTrue (covers x.address x.length k h))) c.command_of.ensures
    (found_passes (covers x.address x.length c.command_of.result) c.loop-which.grants.held c.in-Some.which (sym c.find.ensures ∙ c.in-Some.is))

pub use_held-requires-clause-ready : goal.use_held-requires-clause-ready
use_held-requires-clause-ready g c = c.loop-which.invariant.ready

pub use_held-requires-clause-plain : goal.use_held-requires-clause-plain
use_held-requires-clause-plain g c = c.requires.plain

pub transport-requires-clause-ready : goal.transport-requires-clause-ready
transport-requires-clause-ready g c = c.loop-which.invariant.ready

pub transport-requires-clause-styled : goal.transport-requires-clause-styled
transport-requires-clause-styled g c = sym c.requires.direct

pub returns-in-Used : goal.returns-in-Used
returns-in-Used g c =
    let n = g.N.Naming in
    let x = c.args.next.transfer in
    made_before n.table n.tokens n.frame c.args.note.knows.known c.loop-which.note.knows.known c.args.run.now x c.args.next.route false c.in-Used.payload c.in-Used.note c.use_held.new.wallet c.use_held.new.grants c.loop-which.invariant.knew c.in-Used.ensures.comes

pub returns : goal.returns
returns g c =
    let n = g.N.Naming in
    let sent = c.transport in
    made_before n.table n.tokens n.frame c.args.note.knows.known c.loop-which.note.knows.known c.args.run.now c.args.next.transfer c.args.next.route sent.result.wants sent.result.payload sent.result.note sent.new.wallet c.loop-which.grants c.loop-which.invariant.knew sent.ensures
