-- Which histories are right for a plan.
use Rattle.std.specs.Prelude.{List}
use Rattle.tlm_types.specs.declared.entry.Entry.{Entry}
use Rattle.tlm_model.specs.Kept.{KeepsRequests, EndsRequests}
use Rattle.tlm_model.specs.Plan.{Plan}
use Rattle.flow_model.specs.Plans.{KeepsTraffic, EndsTraffic}
use Rattle.good_history.specs.Kept.{KeepsGrants, EndsGrants}

-- A history is sound as far as it has come: it has the points of requests, those of four-phase traffic and those of
-- grants.
pub record IsSound (p : Plan) (h : List Entry) : Type 0 where
  pub requests : KeepsRequests p h
  pub traffic : KeepsTraffic p h
  pub grants : KeepsGrants p h

-- a sound history of whole scripts: its requests are answered, its traffic has ended, each access that asked for a grant
-- was answered, and each invalidation has closed what it overlaps
pub record IsGood (p : Plan) (h : List Entry) : Type 0 where
  pub sound : IsSound p h
  pub requests : EndsRequests p h
  pub traffic : EndsTraffic p h
  pub grants : EndsGrants p h
