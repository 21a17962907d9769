-- What a try adds to the history.
use Rattle.std.proofs.Common.{◌≡◌, Bool, true, false, List, refl}
use Rattle.view_lists.specs.Lists.{Within}
use Rattle.one_history.specs.declared.entry.Entry.{Entry}
use Rattle.tlm_types.specs.declared.entry.Content.{Content}
use Rattle.tlm_model.specs.Plan.{Plan}
use Rattle.node_hops.specs.Steps.{HasNew}
use Rattle.node_hops.proofs.News.{new_after}
use Rattle.router_node.specs.Stages.{IsByRouter}
use Rattle.router_steps.specs.Stepped.{TryAdds, come_in}
use Rattle.router_steps.specs.declared.tries.Tried.{Tried}
use Rattle.router_steps.specs.declared.tries.Tried.TheVariants.{Made, Moved, Nothing}

-- it is new to who knew less before
pub try_after : (p : Plan) (known mid back : List (Entry Content)) (t : Tried) → Within known mid → TryAdds p mid back t → TryAdds p known back t
try_after p known mid back (Made due) w a = new_after (IsByRouter p) known mid back w a
try_after p known mid back Moved w a = tt
try_after p known mid back Nothing w a = tt

pub come_adds : (p : Plan) (known back : List (Entry Content)) (down : Bool) → (down ≡ true → HasNew (IsByRouter p) known back) → TryAdds p known back (come_in down)
come_adds p known back true f = f refl
come_adds p known back false f = tt
