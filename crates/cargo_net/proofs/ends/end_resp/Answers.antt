use Rattle.std.proofs.Common.{subst}
use Rattle.hop_object.specs.declared.call.HopReply.{HopReply}
use Rattle.hop_object.specs.declared.call.HopCall.TheVariants.{EndResp}
use Rattle.cargo_model.specs.declared.cargo.Cargo.{Cargo}
use Rattle.cargo_net.specs.Hops.{HasAnswered}
use Rattle.cargo_net.proofs.EndsResponse.{backed, ended, fits}
use Rattle.cargo_net.proofs.ends.end_resp.Goals as goal

pub step_hop-reply-requires-clause-fits : goal.step_hop-reply-requires-clause-fits
step_hop-reply-requires-clause-fits g c = fits g.N.Naming.frame g.N.Naming.tokens c.args.hop.now.number c.args.hop.now.own c.args.leg c.args.at c.args.note.knows c.requires.may

pub step_hop-reply-requires-clause-backed : goal.step_hop-reply-requires-clause-backed
step_hop-reply-requires-clause-backed g c = λ o q meets admitted. backed g.N.Naming.frame g.N.Naming.tokens c.args.hop.now.number c.args.hop.now.own c.args.leg c.args.at c.args.note.knows c.requires.may o q meets admitted

pub returns-clause-answer : goal.returns-clause-answer
returns-clause-answer g c =
    subst (λ (r : HopReply Cargo). HasAnswered g.N.Naming.frame g.N.Naming.tokens c.args.hop.now.number c.args.hop.now.own c.args.note.knows c.step_hop-reply.result.1.knows (EndResp c.args.leg c.args.at) r) c.ended_resp.ensures c.step_hop-reply.ensures.stepped.answered

pub returns-clause-ended : goal.returns-clause-ended
returns-clause-ended g c = λ may. ended g.N.Naming.frame g.N.Naming.tokens c.args.hop.now.number c.args.hop.now.own c.args.leg c.args.at c.args.note.knows may c.step_hop-reply.result.1.knows c.ended_resp.result (returns-clause-answer g c)

pub step_hop-reply-requires-clause-history : goal.step_hop-reply-requires-clause-history
step_hop-reply-requires-clause-history g c = c.requires.history

pub step_hop-reply-requires-clause-tickets : goal.step_hop-reply-requires-clause-tickets
step_hop-reply-requires-clause-tickets g c = c.requires.tickets

pub step_hop-reply-requires-clause-note : goal.step_hop-reply-requires-clause-note
step_hop-reply-requires-clause-note g c = c.requires.note

pub returns-clause-note : goal.returns-clause-note
returns-clause-note g c = c.step_hop-reply.ensures.note

pub returns-clause-knew : goal.returns-clause-knew
returns-clause-knew g c = c.step_hop-reply.ensures.stepped.answered.enters.knew

pub returns-clause-below : goal.returns-clause-below
returns-clause-below g c = c.step_hop-reply.ensures.stepped.answered.enters.below
