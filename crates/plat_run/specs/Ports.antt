-- A four-phase initiator that is given turns.
use Rattle.std.specs.Prelude.{ℕ, ◌≡◌, ◌<◌, Bool, true, length}
use Rattle.one_history.specs.declared.view.Frame.{Frame}
use Rattle.tlm_model.specs.Plan.{Plan}
use Rattle.fourphase_port.specs.Pumps.{HasFinished}
use Rattle.fourphase_port.specs.Rest.{RestView}

-- its port, and whether it has finished
pub record PortRun : Type 0 where
  pub port : RestView
  pub finished : Bool

-- The port is that of this initiator of the plan. Where it has finished, its script has ended, nothing is outstanding, and it works on nothing.
pub record IsPortRun (frame : Frame Plan) (number : ℕ) (port : RestView) (finished : Bool) : Type 0 where
  pub number_is : port.port.engine.initiator ≡ number
  pub below : number < length frame.world.platform.initiators
  pub ended : finished ≡ true → HasFinished port.state
