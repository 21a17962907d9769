use Rattle.std.proofs.Common.{ap, ◌∙◌}
use Rattle.hop_object.specs.Lanes.{any_responding}
use Rattle.hop_object.specs.Objects.{is_admitted, knows}
use Rattle.hop_object.proofs.Meanings.{both_true}
use Rattle.hop_object.proofs.hop.Hop.answer.Goals as goal

pub end_req-next-requires-clause-may : goal.end_req-next-requires-clause-may
end_req-next-requires-clause-may g c = λ k. c.requires.may (ap (is_admitted c.args.self.now) c.in-EndReq.is ∙ k)

pub begin_resp-requires-clause-may : goal.begin_resp-requires-clause-may
begin_resp-requires-clause-may g c = λ k r. c.requires.may (ap (is_admitted c.args.self.now) c.in-BeginResp.is ∙ both_true (knows c.args.self.now c.in-BeginResp.leg) (any_responding c.args.self.now.lanes) k r)

pub end_resp-requires-clause-may : goal.end_resp-requires-clause-may
end_resp-requires-clause-may g c = λ k. c.requires.may (ap (is_admitted c.args.self.now) c.in-EndResp.is ∙ k)
