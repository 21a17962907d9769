-- Reports of four-phase histories, by computing the definitions.
use Rattle.std.proofs.Common.{refl}
use Rattle.std.specs.Fmt.{digits}
use Rattle.tlm_types.specs.declared.words.ReqMode.TheVariants as Req
use Rattle.tlm_types.specs.declared.words.RespMode.TheVariants as Resp
use Rattle.flow_model.specs.Events.{entries}
use Rattle.report_model.specs.Report.{report_lines, report_of}
use Rattle.report_model.specs.Worked.{HasReport}
use Rattle.flow_check.specs.Reported.{accepting_text, completing_text, overlapping, overlapping_plan, overlapping_text, turned_away, turned_away_plan, turned_away_text}
use Rattle.flow_check.specs.Worked.{accepting, completing, lone}

pub accepting_is_reported : HasReport (lone Req.Accept Resp.Accept) (entries accepting) accepting_text
unfolding lone accepting report_of report_lines digits
accepting_is_reported = refl

pub completing_is_reported : HasReport (lone Req.Complete Resp.Accept) (entries completing) completing_text
unfolding lone completing report_of report_lines digits
completing_is_reported = refl

pub overlapping_is_reported : HasReport overlapping_plan (entries overlapping) overlapping_text
unfolding overlapping_plan overlapping report_of report_lines digits
overlapping_is_reported = refl

pub turned_away_is_reported : HasReport turned_away_plan turned_away turned_away_text
unfolding turned_away_plan turned_away report_of report_lines digits
turned_away_is_reported = refl
