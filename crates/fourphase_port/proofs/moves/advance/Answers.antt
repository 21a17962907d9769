use Rattle.std.proofs.Common.{refl, sym, ap}
use Rattle.port_moves.specs.State.{with_note, StateView}
use Rattle.fourphase_port.proofs.GoesOnward.{emptied_port, free_move, hand_of, none_behind, hand_move, fetch_move}
use Rattle.port_moves.specs.declared.hand.Hand.TheVariants.{Taken, Acquired, Begun, Owed, Ended, Released}
use Rattle.port_moves.specs.Moved.{went}
use Rattle.fourphase_port.proofs.Adding.{adds_from, adds_none}
use Rattle.fourphase_port.proofs.moves.advance.Goals as goal

pub acquire-requires-clause-port : goal.acquire-requires-clause-port
acquire-requires-clause-port g c = emptied_port g.N.Naming.table g.N.Naming.tokens g.N.Naming.frame c.args.state.now c.args.note c.requires.port c.take_hand.new.self c.take_hand.ensures.state

pub begin-requires-clause-port : goal.begin-requires-clause-port
begin-requires-clause-port g c = emptied_port g.N.Naming.table g.N.Naming.tokens g.N.Naming.frame c.args.state.now c.args.note c.requires.port c.take_hand.new.self c.take_hand.ensures.state

pub serve-requires-clause-port : goal.serve-requires-clause-port
serve-requires-clause-port g c = emptied_port g.N.Naming.table g.N.Naming.tokens g.N.Naming.frame c.args.state.now c.args.note c.requires.port c.take_hand.new.self c.take_hand.ensures.state

pub end-requires-clause-port : goal.end-requires-clause-port
end-requires-clause-port g c = emptied_port g.N.Naming.table g.N.Naming.tokens g.N.Naming.frame c.args.state.now c.args.note c.requires.port c.take_hand.new.self c.take_hand.ensures.state

pub take_back-requires-clause-port : goal.take_back-requires-clause-port
take_back-requires-clause-port g c = emptied_port g.N.Naming.table g.N.Naming.tokens g.N.Naming.frame c.args.state.now c.args.note c.requires.port c.take_hand.new.self c.take_hand.ensures.state

pub stow-requires-clause-port : goal.stow-requires-clause-port
stow-requires-clause-port g c = emptied_port g.N.Naming.table g.N.Naming.tokens g.N.Naming.frame c.args.state.now c.args.note c.requires.port c.take_hand.new.self c.take_hand.ensures.state

pub returns-then-fetched-clause-moved : goal.returns-then-fetched-clause-moved
returns-then-fetched-clause-moved g c = free_move g.N.Naming.frame c.args.state.now c.take_hand.new.self c.args.note c.args.fetched (with_note c.go_on.new.state c.go_on.result.1) c.go_on.result.0 c.if-fetched.true (sym c.in-Free.ensures.hand) c.take_hand.ensures.state c.go_on.ensures.moved

pub acquire-requires-clause-free : goal.acquire-requires-clause-free
acquire-requires-clause-free g c = none_behind g.N.Naming.table g.N.Naming.tokens g.N.Naming.frame c.args.state.now c.args.note c.requires.port c.take_hand.new.self c.take_hand.ensures.state (Taken c.in-Taken.baton) (sym c.in-Taken.ensures.hand) (λ b. b)

pub acquire-requires-clause-taken : goal.acquire-requires-clause-taken
acquire-requires-clause-taken g c = hand_of g.N.Naming.table g.N.Naming.tokens g.N.Naming.frame c.args.state.now c.args.note c.requires.port c.take_hand.new.self c.take_hand.ensures.state (Taken c.in-Taken.baton) (sym c.in-Taken.ensures.hand)

pub returns-in-Taken-clause-port : goal.returns-in-Taken-clause-port
returns-in-Taken-clause-port g c = c.acquire.ensures.port

pub returns-in-Taken-clause-moved : goal.returns-in-Taken-clause-moved
returns-in-Taken-clause-moved g c = hand_move g.N.Naming.frame c.args.state.now c.take_hand.new.self c.args.note c.args.fetched (with_note c.acquire.new.self c.acquire.result.1) c.acquire.result.0 (Taken c.in-Taken.baton) (sym c.in-Taken.ensures.hand) c.take_hand.ensures.state (c.acquire.ensures.acquired, c.acquire.ensures.moved)

pub begin-requires-clause-free : goal.begin-requires-clause-free
begin-requires-clause-free g c = none_behind g.N.Naming.table g.N.Naming.tokens g.N.Naming.frame c.args.state.now c.args.note c.requires.port c.take_hand.new.self c.take_hand.ensures.state (Acquired c.in-Acquired.cargo) (sym c.in-Acquired.ensures.hand) (λ b. b)

pub begin-requires-clause-ready : goal.begin-requires-clause-ready
begin-requires-clause-ready g c = hand_of g.N.Naming.table g.N.Naming.tokens g.N.Naming.frame c.args.state.now c.args.note c.requires.port c.take_hand.new.self c.take_hand.ensures.state (Acquired c.in-Acquired.cargo) (sym c.in-Acquired.ensures.hand)

pub returns-in-Acquired-clause-port : goal.returns-in-Acquired-clause-port
returns-in-Acquired-clause-port g c = c.begin.ensures.port

pub returns-in-Acquired-clause-moved : goal.returns-in-Acquired-clause-moved
returns-in-Acquired-clause-moved g c = hand_move g.N.Naming.frame c.args.state.now c.take_hand.new.self c.args.note c.args.fetched (with_note c.begin.new.self c.begin.result.1) c.begin.result.0 (Acquired c.in-Acquired.cargo) (sym c.in-Acquired.ensures.hand) c.take_hand.ensures.state c.begin.ensures.begun

pub serve-requires-clause-free : goal.serve-requires-clause-free
serve-requires-clause-free g c = ap (λ (u : StateView). u.hand) c.take_hand.ensures.state

pub serve-requires-clause-begun : goal.serve-requires-clause-begun
serve-requires-clause-begun g c = hand_of g.N.Naming.table g.N.Naming.tokens g.N.Naming.frame c.args.state.now c.args.note c.requires.port c.take_hand.new.self c.take_hand.ensures.state (Begun c.in-Begun.cargo c.in-Begun.at c.in-Begun.leg) (sym c.in-Begun.ensures.hand)

pub returns-in-Begun-clause-port : goal.returns-in-Begun-clause-port
returns-in-Begun-clause-port g c = c.serve.ensures.port

pub returns-in-Begun-clause-moved : goal.returns-in-Begun-clause-moved
returns-in-Begun-clause-moved g c = hand_move g.N.Naming.frame c.args.state.now c.take_hand.new.self c.args.note c.args.fetched (with_note c.serve.new.self c.serve.result.1) c.serve.result.0 (Begun c.in-Begun.cargo c.in-Begun.at c.in-Begun.leg) (sym c.in-Begun.ensures.hand) c.take_hand.ensures.state (c.serve.ensures.served, c.serve.ensures.moved)

pub end-requires-clause-free : goal.end-requires-clause-free
end-requires-clause-free g c = ap (λ (u : StateView). u.hand) c.take_hand.ensures.state

pub end-requires-clause-owed : goal.end-requires-clause-owed
end-requires-clause-owed g c = hand_of g.N.Naming.table g.N.Naming.tokens g.N.Naming.frame c.args.state.now c.args.note c.requires.port c.take_hand.new.self c.take_hand.ensures.state (Owed c.in-Owed.cargo c.in-Owed.leg c.in-Owed.at) (sym c.in-Owed.ensures.hand)

pub returns-in-Owed-clause-port : goal.returns-in-Owed-clause-port
returns-in-Owed-clause-port g c = c.end.ensures.port

pub returns-in-Owed-clause-moved : goal.returns-in-Owed-clause-moved
returns-in-Owed-clause-moved g c = hand_move g.N.Naming.frame c.args.state.now c.take_hand.new.self c.args.note c.args.fetched (with_note c.end.new.self c.end.result.1) c.end.result.0 (Owed c.in-Owed.cargo c.in-Owed.leg c.in-Owed.at) (sym c.in-Owed.ensures.hand) c.take_hand.ensures.state (c.end.ensures.ended, c.end.ensures.moved)

pub take_back-requires-clause-free : goal.take_back-requires-clause-free
take_back-requires-clause-free g c = ap (λ (u : StateView). u.hand) c.take_hand.ensures.state

pub take_back-requires-clause-ended : goal.take_back-requires-clause-ended
take_back-requires-clause-ended g c = hand_of g.N.Naming.table g.N.Naming.tokens g.N.Naming.frame c.args.state.now c.args.note c.requires.port c.take_hand.new.self c.take_hand.ensures.state (Ended c.in-Ended.cargo c.in-Ended.end) (sym c.in-Ended.ensures.hand)

pub returns-in-Ended-clause-port : goal.returns-in-Ended-clause-port
returns-in-Ended-clause-port g c = c.take_back.ensures.port

pub returns-in-Ended-clause-moved : goal.returns-in-Ended-clause-moved
returns-in-Ended-clause-moved g c = hand_move g.N.Naming.frame c.args.state.now c.take_hand.new.self c.args.note c.args.fetched (with_note c.take_back.new.self c.take_back.result.1) c.take_back.result.0 (Ended c.in-Ended.cargo c.in-Ended.end) (sym c.in-Ended.ensures.hand) c.take_hand.ensures.state (c.take_back.ensures.back, c.take_back.ensures.moved)

pub stow-requires-clause-free : goal.stow-requires-clause-free
stow-requires-clause-free g c = ap (λ (u : StateView). u.hand) c.take_hand.ensures.state

pub stow-requires-clause-released : goal.stow-requires-clause-released
stow-requires-clause-released g c = hand_of g.N.Naming.table g.N.Naming.tokens g.N.Naming.frame c.args.state.now c.args.note c.requires.port c.take_hand.new.self c.take_hand.ensures.state (Released c.in-Released.baton c.in-Released.ticket c.in-Released.end) (sym c.in-Released.ensures.hand)

pub returns-in-Released-clause-port : goal.returns-in-Released-clause-port
returns-in-Released-clause-port g c = c.stow.ensures.port

pub returns-in-Released-clause-moved : goal.returns-in-Released-clause-moved
returns-in-Released-clause-moved g c = hand_move g.N.Naming.frame c.args.state.now c.take_hand.new.self c.args.note c.args.fetched (with_note c.stow.new.self c.stow.result.1) c.stow.result.0 (Released c.in-Released.baton c.in-Released.ticket c.in-Released.end) (sym c.in-Released.ensures.hand) c.take_hand.ensures.state (c.stow.ensures.stowed, c.stow.ensures.moved)

pub go_on-requires-clause-port : goal.go_on-requires-clause-port
go_on-requires-clause-port g c = emptied_port g.N.Naming.table g.N.Naming.tokens g.N.Naming.frame c.args.state.now c.args.note c.requires.port c.take_hand.new.self c.take_hand.ensures.state

pub go_on-requires-clause-free : goal.go_on-requires-clause-free
go_on-requires-clause-free g c = ap (λ (u : StateView). u.hand) c.take_hand.ensures.state

pub fetch-requires-clause-port : goal.fetch-requires-clause-port
fetch-requires-clause-port g c = emptied_port g.N.Naming.table g.N.Naming.tokens g.N.Naming.frame c.args.state.now c.args.note c.requires.port c.take_hand.new.self c.take_hand.ensures.state

pub fetch-requires-clause-free : goal.fetch-requires-clause-free
fetch-requires-clause-free g c = ap (λ (u : StateView). u.hand) c.take_hand.ensures.state

pub returns-then-fetched-clause-port : goal.returns-then-fetched-clause-port
returns-then-fetched-clause-port g c = c.go_on.ensures.port

pub returns-else-fetched-clause-port : goal.returns-else-fetched-clause-port
returns-else-fetched-clause-port g c = c.fetch.ensures.port

pub returns-else-fetched-clause-moved : goal.returns-else-fetched-clause-moved
returns-else-fetched-clause-moved g c = fetch_move g.N.Naming.frame c.args.state.now c.take_hand.new.self c.args.note c.args.fetched (with_note c.fetch.new.self c.fetch.result.1) c.fetch.result.0 c.if-fetched.false (sym c.in-Free.ensures.hand) c.take_hand.ensures.state c.fetch.ensures.fetched c.fetch.ensures.moved

pub returns-in-Taken-clause-adds : goal.returns-in-Taken-clause-adds
returns-in-Taken-clause-adds g c = adds_from g.N.Naming.frame c.args.state.now c.take_hand.new.self c.args.note (with_note c.acquire.new.self c.acquire.result.1) c.acquire.result.0 (ap (λ (u : StateView). u.port.engine.initiator) c.take_hand.ensures.state) (λ entry. c.acquire.ensures.adds)

pub returns-in-Acquired-clause-adds : goal.returns-in-Acquired-clause-adds
returns-in-Acquired-clause-adds g c = adds_from g.N.Naming.frame c.args.state.now c.take_hand.new.self c.args.note (with_note c.begin.new.self c.begin.result.1) c.begin.result.0 (ap (λ (u : StateView). u.port.engine.initiator) c.take_hand.ensures.state) c.begin.ensures.adds

pub returns-in-Begun-clause-adds : goal.returns-in-Begun-clause-adds
returns-in-Begun-clause-adds g c = adds_from g.N.Naming.frame c.args.state.now c.take_hand.new.self c.args.note (with_note c.serve.new.self c.serve.result.1) c.serve.result.0 (ap (λ (u : StateView). u.port.engine.initiator) c.take_hand.ensures.state) (λ entry. c.serve.ensures.adds)

pub returns-in-Owed-clause-adds : goal.returns-in-Owed-clause-adds
returns-in-Owed-clause-adds g c = adds_from g.N.Naming.frame c.args.state.now c.take_hand.new.self c.args.note (with_note c.end.new.self c.end.result.1) c.end.result.0 (ap (λ (u : StateView). u.port.engine.initiator) c.take_hand.ensures.state) (λ entry. c.end.ensures.adds)

pub returns-in-Ended-clause-adds : goal.returns-in-Ended-clause-adds
returns-in-Ended-clause-adds g c = adds_from g.N.Naming.frame c.args.state.now c.take_hand.new.self c.args.note (with_note c.take_back.new.self c.take_back.result.1) c.take_back.result.0 (ap (λ (u : StateView). u.port.engine.initiator) c.take_hand.ensures.state) (λ entry. c.take_back.ensures.adds)

pub returns-in-Released-clause-adds : goal.returns-in-Released-clause-adds
returns-in-Released-clause-adds g c = adds_from g.N.Naming.frame c.args.state.now c.take_hand.new.self c.args.note (with_note c.stow.new.self c.stow.result.1) c.stow.result.0 (ap (λ (u : StateView). u.port.engine.initiator) c.take_hand.ensures.state) (λ entry. c.stow.ensures.adds)

pub returns-then-fetched-clause-adds : goal.returns-then-fetched-clause-adds
returns-then-fetched-clause-adds g c = adds_from g.N.Naming.frame c.args.state.now c.take_hand.new.self c.args.note (with_note c.go_on.new.state c.go_on.result.1) c.go_on.result.0 (ap (λ (u : StateView). u.port.engine.initiator) c.take_hand.ensures.state) c.go_on.ensures.adds

pub returns-else-fetched-clause-adds : goal.returns-else-fetched-clause-adds
returns-else-fetched-clause-adds g c = adds_none g.N.Naming.frame (with_note c.args.state.now c.args.note) (with_note c.fetch.new.self c.fetch.result.1) c.fetch.result.0 went c.fetch.ensures.moved refl
