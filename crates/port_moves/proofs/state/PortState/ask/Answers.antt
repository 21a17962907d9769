use Rattle.std.proofs.Common.{◌<◌, ◌≤◌, sym, ap, subst}
use Rattle.token_book.specs.Purse.{Purse, bytes_of, left_of}
use Rattle.region_object.specs.Call.{payload_cost}
use Rattle.port_moves.specs.State.{StateView}
use Rattle.port_moves.proofs.state.PortState.ask.Goals as goal

pub ask-requires-clause-ticket : goal.ask-requires-clause-ticket
ask-requires-clause-ticket g c = λ r here. subst (λ (w : Purse). (0 < left_of w r.memory) × (payload_cost c.args.payload ≤ bytes_of w r.memory)) (sym (ap (λ (t : StateView). t.wallet) c.self.view_is)) (c.requires.ticket r here)
