-- The points of requests: what the entries of a history keep of the scripts of a plan.
use Rattle.std.specs.Prelude.{IsTrue, List}
use Rattle.std.specs.List.{list_all, AllByRecursion}
use Rattle.tlm_types.specs.declared.entry.Entry.{Entry}
use Rattle.tlm_model.specs.History.{IsNumbered, IsStoreLegal}
use Rattle.tlm_model.specs.Plan.{Plan, initiators_of}
use Rattle.tlm_model.specs.Requests.{requests_of}
use Rattle.tlm_model.specs.Scripts.{RunsScripts, is_settled}
use Rattle.tlm_model.specs.Times.{HasDecoupledTimes}

-- The points that hold as far as a history has come. They hold of each of its beginnings too: each speaks of an
-- entry and those before it.
pub record KeepsRequests (p : Plan) (h : List Entry) : Type 0 where
  pub numbered : IsNumbered h
  pub legal : IsStoreLegal p.platform h
  pub scripts : RunsScripts p h
  pub times : HasDecoupledTimes p h

-- the point that holds at the end
pub record EndsRequests (p : Plan) (h : List Entry) : Type 0 where
  -- each request whose address has a route is answered
  pub answers : AllByRecursion (λ i. IsTrue (list_all (is_settled p.platform i h) (requests_of p.platform i h))) (initiators_of p)
