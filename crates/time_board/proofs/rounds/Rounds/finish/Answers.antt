use Rattle.time_board.proofs.Tallies.{running_from, tallied_left}
use Rattle.time_board.proofs.rounds.Rounds.finish.Goals as goal

pub invariant_of-self : goal.invariant_of-self
invariant_of-self c =
    let members = c.self.inside.members.items in
    let leaving = c.find_member-leaving.result in
    let is = running_from leaving _ members c.args.who c.find_member-leaving.ensures c.deref.ensures.value c.if-leaving.false in
    tallied_left members c.self.inside.tally c.self.invariant c.left-self-inside.result c.args.who leaving.round is c.left-self-inside.ensures.lower c.left-self-inside.ensures.upper
