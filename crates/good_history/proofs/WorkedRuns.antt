-- The runs that were made by hand, by the whole definitions.
use Rattle.std.proofs.Common.{◌≢◌, []}
use Rattle.tlm_model.specs.declared.platform.Style.TheVariants.{Blocking, Direct, FourPhase}
use Rattle.tlm_model.specs.Worked.{debug_plan, debugged, empty_plan, enables, enables_plan, ignore_plan, ignored, past_end, past_end_plan, quantum_plan, readback, readback_plan, routed, routed_plan, seven_reads, streaming, streaming_plan, sum_plan, summed}
use Rattle.tlm_model.proofs.WorkedRuns.{cut_short_is_not_right, debug_is_worked, doubled_is_not_right, empty_is_worked, enables_is_worked, hasty_is_not_right, ignore_is_worked, no_quantum_is_worked, past_end_is_worked, quantum_is_worked, readback_is_worked, routed_is_worked, streaming_is_worked, sum_is_worked, swapped_is_not_right, wrong_byte_is_not_right, wrong_status_is_not_right}
use Rattle.good_history.specs.GrantsWorked.{revoked, revoked_plan, spent, spent_plan, windowed, windowed_plan}
use Rattle.good_history.proofs.GrantsWorked.{each_end_counts, each_point_counts, revoked_is_worked, spent_is_worked, windowed_is_worked}
use Rattle.good_history.specs.Good.{IsGood}
use Rattle.good_history.specs.Worked.{GrantsCount, WorkedAreGood, WrongAreNotGood}
use Rattle.good_history.proofs.Decoupled.{decoupled_is_good}
use Rattle.good_history.proofs.Ungranted.{blocking_is_good}

blocking : Blocking ≢ FourPhase
blocking same = cc

undirect : Blocking ≢ Direct
undirect same = cc

direct : Direct ≢ FourPhase
direct same = cc

readback_is_good : IsGood readback_plan readback
unfolding readback readback_plan
readback_is_good = blocking_is_good readback_plan readback (blocking, tt) (undirect, tt) (tt, (tt, tt)) (tt, (tt, tt)) readback_is_worked.kept readback_is_worked.ended

empty_is_good : IsGood empty_plan []
unfolding empty_plan
empty_is_good = blocking_is_good empty_plan [] (blocking, tt) (undirect, tt) tt tt empty_is_worked.kept empty_is_worked.ended

past_end_is_good : IsGood past_end_plan past_end
unfolding past_end past_end_plan
past_end_is_good = blocking_is_good past_end_plan past_end (blocking, tt) (undirect, tt) (tt, (tt, tt)) (tt, (tt, tt)) past_end_is_worked.kept past_end_is_worked.ended

enables_is_good : IsGood enables_plan enables
unfolding enables enables_plan
enables_is_good = blocking_is_good enables_plan enables (blocking, tt) (undirect, tt) (tt, tt) (tt, tt) enables_is_worked.kept enables_is_worked.ended

streaming_is_good : IsGood streaming_plan streaming
unfolding streaming streaming_plan
streaming_is_good = blocking_is_good streaming_plan streaming (blocking, tt) (undirect, tt) (tt, tt) (tt, tt) streaming_is_worked.kept streaming_is_worked.ended

ignore_is_good : IsGood ignore_plan ignored
unfolding ignore_plan ignored
ignore_is_good = blocking_is_good ignore_plan ignored (blocking, tt) (undirect, tt) (tt, tt) (tt, tt) ignore_is_worked.kept ignore_is_worked.ended

debug_is_good : IsGood debug_plan debugged
unfolding debug_plan debugged
debug_is_good = blocking_is_good debug_plan debugged (blocking, tt) (undirect, tt) (tt, (tt, tt)) (tt, (tt, tt)) debug_is_worked.kept debug_is_worked.ended

sum_is_good : IsGood sum_plan summed
unfolding sum_plan summed
sum_is_good = blocking_is_good sum_plan summed (blocking, tt) (undirect, tt) (tt, (tt, (tt, (tt, (tt, tt))))) (tt, (tt, (tt, (tt, (tt, tt))))) sum_is_worked.kept sum_is_worked.ended

routed_is_good : IsGood routed_plan routed
unfolding routed routed_plan
routed_is_good = blocking_is_good routed_plan routed (blocking, tt) (undirect, tt) (tt, (tt, tt)) (tt, (tt, tt)) routed_is_worked.kept routed_is_worked.ended

quantum_is_good : IsGood (quantum_plan 100) seven_reads
unfolding quantum_plan seven_reads
quantum_is_good = blocking_is_good (quantum_plan 100) seven_reads (blocking, tt) (undirect, tt) (tt, (tt, (tt, (tt, (tt, (tt, (tt, tt))))))) (tt, (tt, (tt, (tt, (tt, (tt, (tt, tt))))))) quantum_is_worked.kept quantum_is_worked.ended

no_quantum_is_good : IsGood (quantum_plan 0) seven_reads
unfolding quantum_plan seven_reads
no_quantum_is_good = blocking_is_good (quantum_plan 0) seven_reads (blocking, tt) (undirect, tt) (tt, (tt, (tt, (tt, (tt, (tt, (tt, tt))))))) (tt, (tt, (tt, (tt, (tt, (tt, (tt, tt))))))) no_quantum_is_worked.kept no_quantum_is_worked.ended

revoked_is_good : IsGood revoked_plan revoked
unfolding revoked revoked_plan
revoked_is_good = decoupled_is_good revoked_plan revoked (direct, tt) (tt, (tt, (tt, (tt, (tt, (tt, (tt, (tt, tt)))))))) revoked_is_worked.requests.kept revoked_is_worked.kept revoked_is_worked.requests.ended revoked_is_worked.ended

windowed_is_good : IsGood windowed_plan windowed
unfolding windowed windowed_plan
windowed_is_good = decoupled_is_good windowed_plan windowed (direct, tt) (tt, (tt, (tt, (tt, tt)))) windowed_is_worked.requests.kept windowed_is_worked.kept windowed_is_worked.requests.ended windowed_is_worked.ended

spent_is_good : IsGood spent_plan spent
unfolding spent spent_plan
spent_is_good = decoupled_is_good spent_plan spent (direct, tt) (tt, (tt, (tt, (tt, (tt, (tt, (tt, (tt, tt)))))))) spent_is_worked.requests.kept spent_is_worked.kept spent_is_worked.requests.ended spent_is_worked.ended

pub worked_are_good : WorkedAreGood
worked_are_good = record {
  readback_is = readback_is_good;
  empty_is = empty_is_good;
  past_end_is = past_end_is_good;
  enables_is = enables_is_good;
  streaming_is = streaming_is_good;
  ignore_is = ignore_is_good;
  debug_is = debug_is_good;
  sum_is = sum_is_good;
  routed_is = routed_is_good;
  quantum_is = quantum_is_good;
  no_quantum_is = no_quantum_is_good;
  revoked_is = revoked_is_good;
  windowed_is = windowed_is_good;
  spent_is = spent_is_good;
}

pub wrong_are_not_good : WrongAreNotGood
wrong_are_not_good = record {
  wrong_byte_is = λ g. wrong_byte_is_not_right g.sound.requests;
  wrong_status_is = λ g. wrong_status_is_not_right g.sound.requests;
  swapped_is = λ g. swapped_is_not_right g.sound.requests;
  doubled_is = λ g. doubled_is_not_right g.sound.requests;
  cut_short_is = λ g. cut_short_is_not_right g.requests;
  hasty_is = λ g. hasty_is_not_right g.sound.requests;
}

pub grants_count : GrantsCount
grants_count = record {
  falling_is = λ s. each_point_counts.falling_misses.missed s.grants;
  halved_is = λ s. each_point_counts.halved_misses.missed s.grants;
  unasked_is = λ s. each_point_counts.unasked_misses.missed s.grants;
  unanswered_is = λ s. each_point_counts.unanswered_misses.missed s.grants;
  late_is = λ s. each_point_counts.late_misses.missed s.grants;
  unused_is = λ s. each_point_counts.unused_misses.missed s.grants;
  causeless_is = λ s. each_point_counts.causeless_misses.missed s.grants;
  hasty_return_is = λ s. each_point_counts.hasty_misses.missed s.grants;
  asking_is = λ g. each_end_counts.asking_misses g.grants;
  unclosed_is = λ g. each_end_counts.unclosed_misses g.grants;
}
