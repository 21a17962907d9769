-- The runs that were made by hand: those of blocking initiators, those of a direct one, and histories that miss a point.
use Rattle.std.specs.Prelude.{[]}
use Rattle.tlm_model.specs.Worked.{cut_short, debug_plan, debugged, doubled, empty_plan, enables, enables_plan, hasty, ignore_plan, ignored, past_end, past_end_plan, quantum_plan, readback, readback_plan, routed, routed_plan, seven_reads, streaming, streaming_plan, sum_plan, summed, swapped, wrong_byte, wrong_status}
use Rattle.good_history.specs.GrantsWorked.{asking, causeless, cut_plan, falling, halved, late, pair_plan, revoked, revoked_plan, spent, spent_plan, unanswered, unasked, unasked_plan, unclosed, unused, windowed, windowed_plan}
use Rattle.good_history.specs.GrantsWorked.{hasty as hasty_return}
use Rattle.good_history.specs.Good.{IsGood, IsSound}

pub record WorkedAreGood : Type 0 where
  pub readback_is : IsGood readback_plan readback
  pub empty_is : IsGood empty_plan []
  pub past_end_is : IsGood past_end_plan past_end
  pub enables_is : IsGood enables_plan enables
  pub streaming_is : IsGood streaming_plan streaming
  pub ignore_is : IsGood ignore_plan ignored
  pub debug_is : IsGood debug_plan debugged
  pub sum_is : IsGood sum_plan summed
  pub routed_is : IsGood routed_plan routed
  pub quantum_is : IsGood (quantum_plan 100) seven_reads
  pub no_quantum_is : IsGood (quantum_plan 0) seven_reads
  pub revoked_is : IsGood revoked_plan revoked
  pub windowed_is : IsGood windowed_plan windowed
  pub spent_is : IsGood spent_plan spent

pub record WrongAreNotGood : Type 0 where
  pub wrong_byte_is : ¬ IsGood readback_plan wrong_byte
  pub wrong_status_is : ¬ IsGood readback_plan wrong_status
  pub swapped_is : ¬ IsGood readback_plan swapped
  pub doubled_is : ¬ IsGood readback_plan doubled
  pub cut_short_is : ¬ IsGood readback_plan cut_short
  pub hasty_is : ¬ IsGood readback_plan hasty

-- each point of grants counts
pub record GrantsCount : Type 0 where
  pub falling_is : ¬ IsSound cut_plan falling
  pub halved_is : ¬ IsSound pair_plan halved
  pub unasked_is : ¬ IsSound unasked_plan unasked
  pub unanswered_is : ¬ IsSound pair_plan unanswered
  pub late_is : ¬ IsSound cut_plan late
  pub unused_is : ¬ IsSound pair_plan unused
  pub causeless_is : ¬ IsSound cut_plan causeless
  pub hasty_return_is : ¬ IsSound cut_plan hasty_return
  pub asking_is : ¬ IsGood pair_plan asking
  pub unclosed_is : ¬ IsGood cut_plan unclosed
