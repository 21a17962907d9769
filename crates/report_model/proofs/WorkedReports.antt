-- Reports of worked runs, by computing the definitions.
use Rattle.std.proofs.Common.{[], refl, codes}
use Rattle.std.specs.Fmt.{digits}
use Rattle.tlm_model.specs.Worked.{debug_plan, debugged, empty_plan, enables, enables_plan, ignore_plan, ignored, past_end, past_end_plan, quantum_plan, readback, readback_plan, routed, routed_plan, seven_reads, streaming, streaming_plan, sum_plan, summed}
use Rattle.report_model.specs.Report.{report_lines, report_of}
use Rattle.report_model.specs.Worked.{HasReport, debug_text, empty_text, enables_text, ignore_text, past_end_text, readback_text, routed_text, seven_reads_text, streaming_text, sum_text}

pub readback_is_reported : HasReport readback_plan readback readback_text
unfolding readback readback_plan report_of report_lines digits
readback_is_reported = refl

pub empty_is_reported : HasReport empty_plan [] empty_text
unfolding empty_plan report_of report_lines digits
empty_is_reported = refl

pub past_end_is_reported : HasReport past_end_plan past_end past_end_text
unfolding past_end past_end_plan report_of report_lines digits
past_end_is_reported = refl

pub enables_is_reported : HasReport enables_plan enables enables_text
unfolding enables enables_plan report_of report_lines digits
enables_is_reported = refl

pub streaming_is_reported : HasReport streaming_plan streaming streaming_text
unfolding streaming streaming_plan report_of report_lines digits
streaming_is_reported = refl

pub ignore_is_reported : HasReport ignore_plan ignored ignore_text
unfolding ignored ignore_plan report_of report_lines digits
ignore_is_reported = refl

pub debug_is_reported : HasReport debug_plan debugged debug_text
unfolding debugged debug_plan report_of report_lines digits
debug_is_reported = refl

pub sum_is_reported : HasReport sum_plan summed sum_text
unfolding summed sum_plan report_of report_lines digits
sum_is_reported = refl

pub routed_is_reported : HasReport routed_plan routed routed_text
unfolding routed routed_plan report_of report_lines digits
routed_is_reported = refl

pub quantum_is_reported : HasReport (quantum_plan 100) seven_reads (seven_reads_text (codes "2"))
unfolding seven_reads quantum_plan report_of report_lines digits
quantum_is_reported = refl

pub no_quantum_is_reported : HasReport (quantum_plan 0) seven_reads (seven_reads_text (codes "7"))
unfolding seven_reads quantum_plan report_of report_lines digits
no_quantum_is_reported = refl
