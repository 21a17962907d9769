-- Worked runs, by computing the definitions.
use Rattle.std.proofs.Common.{◌≡◌, ℕ, List, [], ap, refl}
use Rattle.std.specs.Prelude.{slice_index}
use Rattle.tlm_types.specs.declared.entry.Access.{Access}
use Rattle.tlm_model.specs.Kept.{KeepsRequests, EndsRequests}
use Rattle.tlm_model.specs.Worked.{IsWorked, cut_short, debug_plan, debugged, doubled, empty_plan, enables, enables_plan, fetch_plan, fetched, fetched_by_two, hasty, ignore_plan, ignored, operand_answered, past_end, past_end_plan, quantum_plan, readback, readback_plan, routed, routed_plan, seven_reads, streaming, streaming_plan, sum_plan, summed, swapped, wrong_byte, wrong_status}

pub readback_is_worked : IsWorked readback_plan readback
unfolding readback readback_plan
readback_is_worked = record {
  kept = record {
    numbered = (refl, (refl, tt));
    legal = ((refl, refl), ((refl, refl), tt));
    scripts = record {
      replies = ((refl, refl), ((refl, refl), tt));
      ways = (refl, (refl, tt));
      order = ((refl, refl), ((refl, refl), tt));
      places = (tt, (tt, tt));
    };
    times = (refl, (refl, tt));
  };
  ended = record { answers = (refl, tt) };
}

pub empty_is_worked : IsWorked empty_plan []
unfolding empty_plan
empty_is_worked = record {
  kept = record {
    numbered = tt;
    legal = tt;
    scripts = record {
      replies = tt;
      ways = tt;
      order = tt;
      places = tt;
    };
    times = tt;
  };
  ended = record { answers = (refl, tt) };
}

pub past_end_is_worked : IsWorked past_end_plan past_end
unfolding past_end past_end_plan
past_end_is_worked = record {
  kept = record {
    numbered = (refl, (refl, tt));
    legal = ((refl, refl), ((refl, refl), tt));
    scripts = record {
      replies = ((refl, refl), ((refl, refl), tt));
      ways = (refl, (refl, tt));
      order = ((refl, refl), ((refl, refl), tt));
      places = (tt, (tt, tt));
    };
    times = (refl, (refl, tt));
  };
  ended = record { answers = (refl, tt) };
}

pub enables_is_worked : IsWorked enables_plan enables
unfolding enables enables_plan
enables_is_worked = record {
  kept = record {
    numbered = (refl, tt);
    legal = ((refl, refl), tt);
    scripts = record {
      replies = ((refl, refl), tt);
      ways = (refl, tt);
      order = ((refl, refl), tt);
      places = (tt, tt);
    };
    times = (refl, tt);
  };
  ended = record { answers = (refl, tt) };
}

pub streaming_is_worked : IsWorked streaming_plan streaming
unfolding streaming streaming_plan
streaming_is_worked = record {
  kept = record {
    numbered = (refl, tt);
    legal = ((refl, refl), tt);
    scripts = record {
      replies = ((refl, refl), tt);
      ways = (refl, tt);
      order = ((refl, refl), tt);
      places = (tt, tt);
    };
    times = (refl, tt);
  };
  ended = record { answers = (refl, tt) };
}

pub ignore_is_worked : IsWorked ignore_plan ignored
unfolding ignore_plan ignored
ignore_is_worked = record {
  kept = record {
    numbered = (refl, tt);
    legal = ((refl, refl), tt);
    scripts = record {
      replies = ((refl, refl), tt);
      ways = (refl, tt);
      order = ((refl, refl), tt);
      places = (tt, tt);
    };
    times = (refl, tt);
  };
  ended = record { answers = (refl, tt) };
}

pub debug_is_worked : IsWorked debug_plan debugged
unfolding debug_plan debugged
debug_is_worked = record {
  kept = record {
    numbered = (refl, (refl, tt));
    legal = ((refl, refl), ((refl, refl), tt));
    scripts = record {
      replies = ((refl, refl), ((refl, refl), tt));
      ways = (refl, (refl, tt));
      order = ((refl, refl), ((refl, refl), tt));
      places = (tt, (tt, tt));
    };
    times = (refl, (refl, tt));
  };
  ended = record { answers = (refl, tt) };
}

pub sum_is_worked : IsWorked sum_plan summed
unfolding sum_plan summed
sum_is_worked = record {
  kept = record {
    numbered = (refl, (refl, (refl, (refl, (refl, tt)))));
    legal = ((refl, refl), ((refl, refl), ((refl, refl), ((refl, refl), ((refl, refl), tt)))));
    scripts = record {
      replies = ((refl, refl), ((refl, refl), ((refl, refl), ((refl, refl), ((refl, refl), tt)))));
      ways = (refl, (refl, (refl, (refl, (refl, tt)))));
      order = ((refl, refl), ((refl, refl), ((refl, refl), ((refl, refl), ((refl, refl), tt)))));
      places = (tt, (tt, (tt, (tt, (tt, tt)))));
    };
    times = (refl, (refl, (refl, (refl, (refl, tt)))));
  };
  ended = record { answers = (refl, tt) };
}

pub fetch_is_worked : IsWorked fetch_plan fetched
unfolding fetch_plan fetched
fetch_is_worked = record {
  kept = record {
    numbered = (refl, (refl, (refl, (refl, tt))));
    legal = ((refl, refl), ((refl, refl), ((refl, refl), ((refl, refl), tt))));
    scripts = record {
      replies = ((refl, refl), ((refl, refl), ((refl, refl), ((refl, refl), tt))));
      ways = (refl, (refl, (refl, (refl, tt))));
      order = ((refl, refl), ((refl, refl), ((refl, refl), ((refl, refl), tt))));
      places = (tt, (tt, (tt, (tt, tt))));
    };
    times = (refl, (refl, (refl, (refl, tt))));
  };
  ended = record { answers = (refl, tt) };
}

pub routed_is_worked : IsWorked routed_plan routed
unfolding routed routed_plan
routed_is_worked = record {
  kept = record {
    numbered = (refl, (refl, tt));
    legal = ((refl, refl), ((refl, refl), tt));
    scripts = record {
      replies = ((refl, refl), ((refl, refl), tt));
      ways = (refl, (refl, tt));
      order = ((refl, refl), ((refl, refl), tt));
      places = (tt, (tt, tt));
    };
    times = (refl, (refl, tt));
  };
  ended = record { answers = (refl, tt) };
}

pub quantum_is_worked : IsWorked (quantum_plan 100) seven_reads
unfolding quantum_plan seven_reads
quantum_is_worked = record {
  kept = record {
    numbered = (refl, (refl, (refl, (refl, (refl, (refl, (refl, tt)))))));
    legal = ((refl, refl), ((refl, refl), ((refl, refl), ((refl, refl), ((refl, refl), ((refl, refl), ((refl, refl), tt)))))));
    scripts = record {
      replies = ((refl, refl), ((refl, refl), ((refl, refl), ((refl, refl), ((refl, refl), ((refl, refl), ((refl, refl), tt)))))));
      ways = (refl, (refl, (refl, (refl, (refl, (refl, (refl, tt)))))));
      order = ((refl, refl), ((refl, refl), ((refl, refl), ((refl, refl), ((refl, refl), ((refl, refl), ((refl, refl), tt)))))));
      places = (tt, (tt, (tt, (tt, (tt, (tt, (tt, tt)))))));
    };
    times = (refl, (refl, (refl, (refl, (refl, (refl, (refl, tt)))))));
  };
  ended = record { answers = (refl, tt) };
}

pub no_quantum_is_worked : IsWorked (quantum_plan 0) seven_reads
unfolding quantum_plan seven_reads
no_quantum_is_worked = record {
  kept = record {
    numbered = (refl, (refl, (refl, (refl, (refl, (refl, (refl, tt)))))));
    legal = ((refl, refl), ((refl, refl), ((refl, refl), ((refl, refl), ((refl, refl), ((refl, refl), ((refl, refl), tt)))))));
    scripts = record {
      replies = ((refl, refl), ((refl, refl), ((refl, refl), ((refl, refl), ((refl, refl), ((refl, refl), ((refl, refl), tt)))))));
      ways = (refl, (refl, (refl, (refl, (refl, (refl, (refl, tt)))))));
      order = ((refl, refl), ((refl, refl), ((refl, refl), ((refl, refl), ((refl, refl), ((refl, refl), ((refl, refl), tt)))))));
      places = (tt, (tt, (tt, (tt, (tt, (tt, (tt, tt)))))));
    };
    times = (refl, (refl, (refl, (refl, (refl, (refl, (refl, tt)))))));
  };
  ended = record { answers = (refl, tt) };
}

pub wrong_byte_is_not_right : ¬ KeepsRequests readback_plan wrong_byte
unfolding readback_plan wrong_byte
wrong_byte_is_not_right k = let first : 0 ≡ 0xde = ap (λ (bytes : List ℕ). slice_index bytes 0) k.legal.1.0.1 in cc

pub fetched_by_two_is_not_right : ¬ KeepsRequests fetch_plan fetched_by_two
unfolding fetch_plan fetched_by_two
fetched_by_two_is_not_right k = let wrong = ap (λ (a : Access). a.command) k.scripts.replies.1.0.1 in cc

pub operand_answered_is_not_right : ¬ KeepsRequests fetch_plan operand_answered
unfolding fetch_plan operand_answered
operand_answered_is_not_right k = let first : 2 ≡ 0xff = ap (λ (bytes : List ℕ). slice_index bytes 0) k.legal.1.0.1 in cc

pub wrong_status_is_not_right : ¬ KeepsRequests readback_plan wrong_status
unfolding readback_plan wrong_status
wrong_status_is_not_right k = let wrong = k.legal.0.0 in cc

pub swapped_is_not_right : ¬ KeepsRequests readback_plan swapped
unfolding readback_plan swapped
swapped_is_not_right k = let wrong = k.scripts.order.0.1 in cc

pub doubled_is_not_right : ¬ KeepsRequests readback_plan doubled
unfolding readback_plan doubled
doubled_is_not_right k = let wrong = k.scripts.order.1.0.0 in cc

pub cut_short_is_not_right : ¬ EndsRequests readback_plan cut_short
unfolding readback_plan cut_short
cut_short_is_not_right k = let wrong = k.answers.0 in cc

pub hasty_is_not_right : ¬ KeepsRequests readback_plan hasty
unfolding readback_plan hasty
hasty_is_not_right k = let wrong = k.times.1.0 in cc
