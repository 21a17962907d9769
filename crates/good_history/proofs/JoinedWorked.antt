-- The run of two initiators, by computing the definitions.
use Rattle.std.proofs.Common.{◌≡◌, ◌≢◌, zero, suc, false, nat_eq, refl, arith, lit<}
use Rattle.std.proofs.lemmas.Bool.Decides.{nat_tests}
use Rattle.tlm_model.specs.declared.platform.Style.TheVariants.{Blocking, Direct, FourPhase}
use Rattle.good_history.specs.GrantLaws.{ClosesNothing}
use Rattle.good_history.specs.Joined.{AllHaveEnded, HasLogs, IsJoined, OwnDecoupled}
use Rattle.good_history.specs.JoinedWorked.{MeetingIsGood, meeting, meeting_plan}
use Rattle.good_history.proofs.WholeLemmas.{joined_is_good}

blocking : Blocking ≢ FourPhase
blocking same = cc

undirect : Blocking ≢ Direct
undirect same = cc

meeting_is_joined : IsJoined meeting_plan meeting
unfolding meeting meeting_plan
meeting_is_joined = record {
  numbered = (refl, (refl, (refl, (refl, tt))));
  owners = (lit< tt, (lit< tt, (lit< tt, (lit< tt, tt))));
  initiators = (
    record {
      scripts = record {
        replies = ((refl, refl), ((refl, refl), tt));
        ways = (refl, (refl, tt));
        order = ((refl, refl), ((refl, refl), tt));
        places = (tt, (tt, tt));
      };
      times = (refl, (refl, tt));
    },
    (
      record {
        scripts = record {
          replies = ((refl, refl), ((refl, refl), tt));
          ways = (refl, (refl, tt));
          order = ((refl, refl), ((refl, refl), tt));
          places = (tt, (tt, tt));
        };
        times = (refl, (refl, tt));
      },
      tt,
    ),
  );
  memories = logs;
}
  where
    logs : HasLogs meeting_plan.platform meeting
    logs zero = ((refl, refl), ((refl, refl), ((refl, refl), ((refl, refl), tt))))
    logs (suc m) = let elsewhere : nat_eq 0 (suc m) ≡ false = grind (arith, nat_tests) in rw elsewhere refl

meeting_is_decoupled : OwnDecoupled meeting_plan meeting
unfolding meeting meeting_plan
meeting_is_decoupled = ((tt, (tt, tt)), ((tt, (tt, tt)), tt))

meeting_closes_nothing : ClosesNothing meeting
unfolding meeting
meeting_closes_nothing = (tt, (tt, (tt, (tt, tt))))

meeting_has_ended : AllHaveEnded meeting_plan meeting
unfolding meeting meeting_plan
meeting_has_ended = (refl, (refl, tt))

pub meeting_is_good : MeetingIsGood
unfolding meeting_plan
meeting_is_good = record {
  joined = meeting_is_joined;
  decoupled = meeting_is_decoupled;
  closes = meeting_closes_nothing;
  ended = meeting_has_ended;
  good = joined_is_good meeting_plan meeting (blocking, (blocking, tt)) (undirect, (undirect, tt)) meeting_is_decoupled meeting_closes_nothing meeting_is_joined meeting_has_ended;
}
