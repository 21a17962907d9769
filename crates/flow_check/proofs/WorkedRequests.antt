-- The histories run their scripts, by computing the definitions.
use Rattle.std.proofs.Common.{List, refl}
use Rattle.tlm_types.specs.declared.words.ReqMode.TheVariants as Req
use Rattle.tlm_types.specs.declared.words.RespMode.TheVariants as Resp
use Rattle.tlm_types.specs.declared.entry.Entry.{Entry}
use Rattle.tlm_model.specs.Kept.{KeepsRequests, EndsRequests}
use Rattle.tlm_model.specs.Plan.{Plan}
use Rattle.flow_model.specs.Events.{entries}
use Rattle.flow_check.specs.Worked.{accepting, answering, completing, debug_plan, ending, fenced_plan, late_debug, lone, refused, refused_plan, routed, routed_plan, unfenced}

-- the points of requests, also that of the end
pub record RunsRequests (p : Plan) (h : List Entry) : Type 0 where
  pub keeps : KeepsRequests p h
  pub ends : EndsRequests p h

pub accepting_runs : RunsRequests (lone Req.Accept Resp.Accept) (entries accepting)
unfolding lone accepting
accepting_runs = record {
  keeps = record {
    numbered = (refl, (refl, (refl, (refl, (refl, (refl, (refl, (refl, (refl, tt)))))))));
    legal = (tt, (tt, (tt, (tt, ((refl, refl), (tt, (tt, (tt, (tt, tt)))))))));
    scripts = record {
      replies = (tt, (tt, (tt, (tt, ((refl, refl), (tt, (tt, (tt, (tt, tt)))))))));
      ways = (tt, (tt, (tt, (tt, (refl, (tt, (tt, (tt, (tt, tt)))))))));
      order = (tt, (tt, (tt, (tt, ((refl, refl), (tt, (tt, (tt, (tt, tt)))))))));
      places = (refl, (refl, (tt, (tt, (tt, (tt, (tt, (refl, (refl, tt)))))))));
    };
    times = (tt, (tt, (tt, (tt, (tt, (tt, (tt, (tt, (tt, tt)))))))));
  };
  ends = record { answers = (refl, tt) };
}

pub completing_runs : RunsRequests (lone Req.Complete Resp.Accept) (entries completing)
unfolding lone completing
completing_runs = record {
  keeps = record {
    numbered = (refl, (refl, (refl, (refl, (refl, (refl, tt))))));
    legal = (tt, (tt, (tt, ((refl, refl), (tt, (tt, tt))))));
    scripts = record {
      replies = (tt, (tt, (tt, ((refl, refl), (tt, (tt, tt))))));
      ways = (tt, (tt, (tt, (refl, (tt, (tt, tt))))));
      order = (tt, (tt, (tt, ((refl, refl), (tt, (tt, tt))))));
      places = (refl, (refl, (tt, (tt, (refl, (refl, tt))))));
    };
    times = (tt, (tt, (tt, (tt, (tt, (tt, tt))))));
  };
  ends = record { answers = (refl, tt) };
}

pub answering_runs : RunsRequests (lone Req.BeginResp Resp.Accept) (entries answering)
unfolding lone answering
answering_runs = record {
  keeps = record {
    numbered = (refl, (refl, (refl, (refl, (refl, (refl, (refl, tt)))))));
    legal = (tt, (tt, (tt, ((refl, refl), (tt, (tt, (tt, tt)))))));
    scripts = record {
      replies = (tt, (tt, (tt, ((refl, refl), (tt, (tt, (tt, tt)))))));
      ways = (tt, (tt, (tt, (refl, (tt, (tt, (tt, tt)))))));
      order = (tt, (tt, (tt, ((refl, refl), (tt, (tt, (tt, tt)))))));
      places = (refl, (refl, (tt, (tt, (tt, (refl, (refl, tt)))))));
    };
    times = (tt, (tt, (tt, (tt, (tt, (tt, (tt, tt)))))));
  };
  ends = record { answers = (refl, tt) };
}

pub ending_runs : RunsRequests (lone Req.EndReq Resp.EndResp) (entries ending)
unfolding lone ending
ending_runs = record {
  keeps = record {
    numbered = (refl, (refl, (refl, (refl, (refl, (refl, (refl, tt)))))));
    legal = (tt, (tt, (tt, ((refl, refl), (tt, (tt, (tt, tt)))))));
    scripts = record {
      replies = (tt, (tt, (tt, ((refl, refl), (tt, (tt, (tt, tt)))))));
      ways = (tt, (tt, (tt, (refl, (tt, (tt, (tt, tt)))))));
      order = (tt, (tt, (tt, ((refl, refl), (tt, (tt, (tt, tt)))))));
      places = (refl, (refl, (tt, (tt, (tt, (refl, (refl, tt)))))));
    };
    times = (tt, (tt, (tt, (tt, (tt, (tt, (tt, tt)))))));
  };
  ends = record { answers = (refl, tt) };
}

pub refused_runs : RunsRequests refused_plan (entries refused)
unfolding refused_plan refused
refused_runs = record {
  keeps = record {
    numbered = (refl, (refl, (refl, (refl, (refl, (refl, (refl, tt)))))));
    legal = (tt, (tt, (tt, (tt, (tt, (tt, (tt, tt)))))));
    scripts = record {
      replies = (tt, (tt, (tt, (tt, (tt, (tt, (tt, tt)))))));
      ways = (tt, (tt, (tt, (tt, (tt, (tt, (tt, tt)))))));
      order = (tt, (tt, (tt, (tt, (tt, (tt, (tt, tt)))))));
      places = (refl, (refl, (tt, (tt, (tt, (refl, (refl, tt)))))));
    };
    times = (tt, (tt, (tt, (tt, (tt, (tt, (tt, tt)))))));
  };
  ends = record { answers = (refl, tt) };
}

pub routed_runs : RunsRequests routed_plan (entries routed)
unfolding routed_plan routed
routed_runs = record {
  keeps = record {
    numbered = (refl, (refl, (refl, (refl, (refl, (refl, (refl, (refl, (refl, (refl, (refl, (refl, (refl, (refl, (refl, (refl, (refl, (refl, (refl, (refl, (refl, tt)))))))))))))))))))));
    legal = (tt, (tt, (tt, (tt, (tt, (tt, (tt, (tt, (tt, (tt, ((refl, refl), (tt, (tt, (tt, (tt, (tt, (tt, (tt, (tt, (tt, (tt, tt)))))))))))))))))))));
    scripts = record {
      replies = (tt, (tt, (tt, (tt, (tt, (tt, (tt, (tt, (tt, (tt, ((refl, refl), (tt, (tt, (tt, (tt, (tt, (tt, (tt, (tt, (tt, (tt, tt)))))))))))))))))))));
      ways = (tt, (tt, (tt, (tt, (tt, (tt, (tt, (tt, (tt, (tt, (refl, (tt, (tt, (tt, (tt, (tt, (tt, (tt, (tt, (tt, (tt, tt)))))))))))))))))))));
      order = (tt, (tt, (tt, (tt, (tt, (tt, (tt, (tt, (tt, (tt, ((refl, refl), (tt, (tt, (tt, (tt, (tt, (tt, (tt, (tt, (tt, (tt, tt)))))))))))))))))))));
      places = (refl, (refl, (tt, (refl, (tt, (tt, (refl, (tt, (tt, (tt, (tt, (tt, (tt, (tt, (tt, (refl, (refl, (tt, (refl, (tt, (refl, tt)))))))))))))))))))));
    };
    times = (tt, (tt, (tt, (tt, (tt, (tt, (tt, (tt, (tt, (tt, (tt, (tt, (tt, (tt, (tt, (tt, (tt, (tt, (tt, (tt, (tt, tt)))))))))))))))))))));
  };
  ends = record { answers = (refl, tt) };
}

pub late_debug_keeps : KeepsRequests debug_plan (entries late_debug)
unfolding debug_plan late_debug
late_debug_keeps = record {
  numbered = (refl, tt);
  legal = ((refl, refl), tt);
  scripts = record {
    replies = ((refl, refl), tt);
    ways = (refl, tt);
    order = ((refl, refl), tt);
    places = (tt, tt);
  };
  times = (tt, tt);
}

pub unfenced_keeps : KeepsRequests fenced_plan (entries unfenced)
unfolding fenced_plan unfenced
unfenced_keeps = record {
  numbered = (refl, (refl, tt));
  legal = (tt, (tt, tt));
  scripts = record {
    replies = (tt, (tt, tt));
    ways = (tt, (tt, tt));
    order = (tt, (tt, tt));
    places = (refl, (refl, tt));
  };
  times = (tt, (tt, tt));
}
