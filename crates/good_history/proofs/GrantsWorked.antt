-- Runs of a direct initiator, by computing the definitions.
use Rattle.std.proofs.Common.{◌≡◌, refl, arith}
use Rattle.std.specs.Fmt.{digits}
use Rattle.report_model.specs.Report.{report_of, report_lines}
use Rattle.good_history.specs.GrantsWorked.{EachEndCounts, EachPointCounts, IsDirectRun, MissesJust, asking, causeless, cut_plan, falling, halved, hasty, late, pair_plan, revoked, revoked_plan, revoked_text, spent, spent_plan, spent_text, unanswered, unasked, unasked_plan, unclosed, unused, windowed, windowed_plan, windowed_text}

pub revoked_is_worked : IsDirectRun revoked_plan revoked revoked_text
unfolding revoked revoked_plan report_of report_lines digits
revoked_is_worked = record {
  requests = record {
    kept = record {
      numbered = (refl, (refl, (refl, (refl, (refl, (refl, (refl, (refl, tt))))))));
      legal = ((refl, refl), (tt, ((refl, refl), (tt, (tt, ((refl, refl), (tt, ((refl, refl), tt))))))));
      scripts = record {
        replies = ((refl, refl), (tt, ((refl, refl), ((refl, refl, refl), (tt, ((refl, refl), (tt, ((refl, refl), tt))))))));
        ways = (tt, (tt, (tt, (tt, (tt, (tt, (tt, (tt, tt))))))));
        order = ((refl, refl), (tt, ((refl, refl), ((refl, refl), (tt, ((refl, refl), (tt, ((refl, refl), tt))))))));
        places = (tt, (refl, (tt, (tt, (refl, (tt, (refl, (tt, tt))))))));
      };
      times = (refl, (refl, (refl, (refl, (refl, (refl, (refl, (refl, tt))))))));
    };
    ended = record { answers = (refl, tt) };
  };
  kept = record {
    gates = (tt, ((refl, refl), (tt, (tt, ((refl, refl), (tt, ((refl, refl), (tt, tt))))))));
    wholes = (tt, ((refl, refl, refl), (tt, (tt, (tt, (tt, ((refl, refl, refl), (tt, tt))))))));
    asked = (tt, (refl, (tt, (tt, (tt, (tt, (refl, (tt, tt))))))));
    answered = (tt, (refl, (refl, (refl, (refl, (refl, (refl, (refl, tt))))))));
    uses = (tt, (tt, ((refl, refl, refl, refl), (tt, (tt, (tt, (tt, ((refl, refl, refl, refl), tt))))))));
    ways = (refl, (tt, (refl, (tt, (tt, (refl, (tt, (refl, tt))))))));
    closings = (tt, (tt, (tt, (tt, (refl, (tt, (tt, (tt, tt))))))));
    returns = (refl, (refl, (refl, (refl, (refl, (refl, (refl, (refl, tt))))))));
  };
  ended = record { answered = (refl, tt); returned = refl };
  report = refl;
}

pub windowed_is_worked : IsDirectRun windowed_plan windowed windowed_text
unfolding windowed windowed_plan report_of report_lines digits
windowed_is_worked = record {
  requests = record {
    kept = record {
      numbered = (refl, (refl, (refl, (refl, tt))));
      legal = ((refl, refl), (tt, ((refl, refl), ((refl, refl), tt))));
      scripts = record {
        replies = ((refl, refl), (tt, ((refl, refl), ((refl, refl), tt))));
        ways = (tt, (tt, (tt, (tt, tt))));
        order = ((refl, refl), (tt, ((refl, refl), ((refl, refl), tt))));
        places = (tt, (refl, (tt, (tt, tt))));
      };
      times = (refl, (refl, (refl, (refl, tt))));
    };
    ended = record { answers = (refl, tt) };
  };
  kept = record {
    gates = (tt, ((refl, refl), (tt, (tt, tt))));
    wholes = (tt, ((refl, refl, refl), (tt, (tt, tt))));
    asked = (tt, (refl, (tt, (tt, tt))));
    answered = (tt, (refl, (refl, (refl, tt))));
    uses = (tt, (tt, ((refl, refl, refl, refl), ((refl, refl, refl, refl), tt))));
    ways = (refl, (tt, (refl, (refl, tt))));
    closings = (tt, (tt, (tt, (tt, tt))));
    returns = (refl, (refl, (refl, (refl, tt))));
  };
  ended = record { answered = (refl, tt); returned = refl };
  report = refl;
}

pub spent_is_worked : IsDirectRun spent_plan spent spent_text
unfolding spent spent_plan report_of report_lines digits
spent_is_worked = record {
  requests = record {
    kept = record {
      numbered = (refl, (refl, (refl, (refl, (refl, (refl, (refl, (refl, tt))))))));
      legal = ((refl, refl), (tt, (tt, (tt, ((refl, refl), (tt, ((refl, refl), (tt, tt))))))));
      scripts = record {
        replies = ((refl, refl), (tt, ((refl, refl, refl), (tt, ((refl, refl), ((refl, refl, refl), ((refl, refl), ((refl, refl, refl), tt))))))));
        ways = (tt, (tt, (tt, (tt, (tt, (tt, (tt, (tt, tt))))))));
        order = ((refl, refl), (tt, ((refl, refl), (tt, ((refl, refl), ((refl, refl), ((refl, refl), ((refl, refl), tt))))))));
        places = (tt, (refl, (tt, (refl, (tt, (tt, (tt, (tt, tt))))))));
      };
      times = (refl, (refl, (refl, (refl, (refl, (refl, (refl, (refl, tt))))))));
    };
    ended = record { answers = (refl, tt) };
  };
  kept = record {
    gates = (tt, ((refl, refl), (tt, ((refl, refl), (tt, (tt, (tt, (tt, tt))))))));
    wholes = (tt, ((refl, refl, refl), (tt, (tt, (tt, (tt, (tt, (tt, tt))))))));
    asked = (tt, (refl, (tt, (tt, (tt, (tt, (tt, (tt, tt))))))));
    answered = (tt, (refl, (refl, (refl, (refl, (refl, (refl, (refl, tt))))))));
    uses = (tt, (tt, (tt, (tt, (tt, (tt, (tt, (tt, tt))))))));
    ways = (refl, (tt, (tt, (tt, (refl, (tt, (refl, (tt, tt))))))));
    closings = (tt, (tt, (tt, (refl, (tt, (tt, (tt, (tt, tt))))))));
    returns = (refl, (refl, (refl, (refl, (refl, (refl, (refl, (refl, tt))))))));
  };
  ended = record { answered = (refl, tt); returned = refl };
  report = refl;
}

falling_misses : MissesJust 0 cut_plan falling
unfolding falling
falling_misses = record {
  missed = λ k. let wrong = k.gates.1.1.1.1.1.0.1 in cc;
  gates = λ other. absurd (other refl);
  wholes = λ other. (tt, ((refl, refl, refl), (tt, (tt, (tt, ((refl, refl, refl), tt))))));
  asked = λ other. (tt, (refl, (tt, (tt, (tt, (refl, tt))))));
  answered = λ other. (tt, (refl, (refl, (refl, (refl, (refl, tt))))));
  uses = λ other. (tt, (tt, (tt, (tt, (tt, (tt, tt))))));
  ways = λ other. (refl, (tt, (tt, (tt, (refl, (tt, tt))))));
  closings = λ other. (tt, (tt, (tt, (refl, (tt, (tt, tt))))));
  returns = λ other. (refl, (refl, (refl, (refl, (refl, (refl, tt))))));
}

halved_misses : MissesJust 1 pair_plan halved
unfolding halved
halved_misses = record {
  missed = λ k. let wrong : 0x7f ≡ 0xff = k.wholes.1.0.1 in absurd (omega arith);
  gates = λ other. (tt, ((refl, refl), tt));
  wholes = λ other. absurd (other refl);
  asked = λ other. (tt, (refl, tt));
  answered = λ other. (tt, (refl, tt));
  uses = λ other. (tt, (tt, tt));
  ways = λ other. (refl, (tt, tt));
  closings = λ other. (tt, (tt, tt));
  returns = λ other. (refl, (refl, tt));
}

unasked_misses : MissesJust 2 unasked_plan unasked
unfolding unasked
unasked_misses = record {
  missed = λ k. let wrong = k.asked.1.0 in cc;
  gates = λ other. (tt, ((refl, refl), tt));
  wholes = λ other. (tt, ((refl, refl, refl), tt));
  asked = λ other. absurd (other refl);
  answered = λ other. (tt, (refl, tt));
  uses = λ other. (tt, (tt, tt));
  ways = λ other. (refl, (tt, tt));
  closings = λ other. (tt, (tt, tt));
  returns = λ other. (refl, (refl, tt));
}

unanswered_misses : MissesJust 3 pair_plan unanswered
unfolding unanswered
unanswered_misses = record {
  missed = λ k. let wrong = k.answered.1.0 in cc;
  gates = λ other. (tt, (tt, tt));
  wholes = λ other. (tt, (tt, tt));
  asked = λ other. (tt, (tt, tt));
  answered = λ other. absurd (other refl);
  uses = λ other. (tt, (tt, tt));
  ways = λ other. (refl, (refl, tt));
  closings = λ other. (tt, (tt, tt));
  returns = λ other. (refl, (refl, tt));
}

late_misses : MissesJust 4 cut_plan late
unfolding late
late_misses = record {
  missed = λ k. let wrong = k.uses.1.1.1.1.0.3 in cc;
  gates = λ other. (tt, ((refl, refl), (tt, ((refl, refl), (tt, tt)))));
  wholes = λ other. (tt, ((refl, refl, refl), (tt, (tt, (tt, tt)))));
  asked = λ other. (tt, (refl, (tt, (tt, (tt, tt)))));
  answered = λ other. (tt, (refl, (refl, (refl, (refl, tt)))));
  uses = λ other. absurd (other refl);
  ways = λ other. (refl, (tt, (tt, (tt, (refl, tt)))));
  closings = λ other. (tt, (tt, (tt, (refl, (tt, tt)))));
  returns = λ other. (refl, (refl, (refl, (refl, (refl, tt)))));
}

unused_misses : MissesJust 5 pair_plan unused
unfolding unused
unused_misses = record {
  missed = λ k. let wrong = k.ways.1.1.0 in cc;
  gates = λ other. (tt, ((refl, refl), (tt, tt)));
  wholes = λ other. (tt, ((refl, refl, refl), (tt, tt)));
  asked = λ other. (tt, (refl, (tt, tt)));
  answered = λ other. (tt, (refl, (refl, tt)));
  uses = λ other. (tt, (tt, (tt, tt)));
  ways = λ other. absurd (other refl);
  closings = λ other. (tt, (tt, (tt, tt)));
  returns = λ other. (refl, (refl, (refl, tt)));
}

causeless_misses : MissesJust 6 cut_plan causeless
unfolding causeless
causeless_misses = record {
  missed = λ k. let wrong = k.closings.1.1.0 in cc;
  gates = λ other. (tt, ((refl, refl), ((refl, refl), tt)));
  wholes = λ other. (tt, ((refl, refl, refl), (tt, tt)));
  asked = λ other. (tt, (refl, (tt, tt)));
  answered = λ other. (tt, (refl, (refl, tt)));
  uses = λ other. (tt, (tt, (tt, tt)));
  ways = λ other. (refl, (tt, (tt, tt)));
  closings = λ other. absurd (other refl);
  returns = λ other. (refl, (refl, (refl, tt)));
}

hasty_misses : MissesJust 7 cut_plan hasty
unfolding hasty
hasty_misses = record {
  missed = λ k. let wrong = k.returns.1.1.1.0 in cc;
  gates = λ other. (tt, ((refl, refl), (tt, (tt, tt))));
  wholes = λ other. (tt, ((refl, refl, refl), (tt, (tt, tt))));
  asked = λ other. (tt, (refl, (tt, (tt, tt))));
  answered = λ other. (tt, (refl, (refl, (refl, tt))));
  uses = λ other. (tt, (tt, (tt, (tt, tt))));
  ways = λ other. (refl, (tt, (tt, (refl, tt))));
  closings = λ other. (tt, (tt, (tt, (tt, tt))));
  returns = λ other. absurd (other refl);
}

pub each_point_counts : EachPointCounts
each_point_counts = record {
  falling_misses = falling_misses;
  halved_misses = halved_misses;
  unasked_misses = unasked_misses;
  unanswered_misses = unanswered_misses;
  late_misses = late_misses;
  unused_misses = unused_misses;
  causeless_misses = causeless_misses;
  hasty_misses = hasty_misses;
}

pub each_end_counts : EachEndCounts
unfolding asking unclosed
each_end_counts = record {
  asking_kept = record {
    gates = (tt, tt);
    wholes = (tt, tt);
    asked = (tt, tt);
    answered = (tt, tt);
    uses = (tt, tt);
    ways = (refl, tt);
    closings = (tt, tt);
    returns = (refl, tt);
  };
  asking_misses = λ k. let wrong = k.answered.0 in cc;
  unclosed_kept = record {
    gates = (tt, ((refl, refl), (tt, tt)));
    wholes = (tt, ((refl, refl, refl), (tt, tt)));
    asked = (tt, (refl, (tt, tt)));
    answered = (tt, (refl, (refl, tt)));
    uses = (tt, (tt, (tt, tt)));
    ways = (refl, (tt, (tt, tt)));
    closings = (tt, (tt, (tt, tt)));
    returns = (refl, (refl, (refl, tt)));
  };
  unclosed_misses = λ k. let wrong = k.returned in cc;
}
