use Rattle.std.proofs.Common.{◌≡◌, length, refl, sym, ap, ◌∙◌, subst}
use Rattle.port_model.specs.Issues.{IsPlainPart}
use Rattle.script_engine.specs.State.{next_of}
use Rattle.port_moves.specs.State.{StateView, with_note}
use Rattle.fourphase_port.proofs.GoesOnward.{does_other, none_of_held, takes_plain, unheld_port, held_of, tries_again, unheld_free}
use Rattle.fourphase_port.proofs.onwards.go_on.Goals as goal

pub begin-requires-clause-port : goal.begin-requires-clause-port
begin-requires-clause-port g c = unheld_port g.N.Naming.table g.N.Naming.tokens g.N.Naming.frame c.args.state.now c.args.note c.requires.port c.take_held.new.self c.take_held.ensures.state

pub returns-in-Some-plain_access-clause-moved : goal.returns-in-Some-plain_access-clause-moved
returns-in-Some-plain_access-clause-moved g c =
    takes_plain g.N.Naming.frame c.args.state.now c.take_held.new.self c.args.note (none_of_held c.take_held.result c.args.state.now.held c.take_held.ensures.held c.in_default.not-Some) c.take_held.ensures.state (with_note c.take.new.state c.take.result.1) c.take.result.0
    c.in-Some-plain_access.transfer (sym (c.part-part.ensures ∙ ap (λ (t : StateView). next_of t.port.engine) c.take_held.ensures.state) ∙ c.in-Some-plain_access.ensures.plain.0) c.in-Some-plain_access.ensures.plain.1 c.take.ensures.taken

pub returns-clause-moved : goal.returns-clause-moved
returns-clause-moved g c =
    does_other g.N.Naming.frame c.args.state.now c.take_held.new.self c.args.note (none_of_held c.take_held.result c.args.state.now.held c.take_held.ensures.held c.in_default.not-Some) c.take_held.ensures.state (with_note c.do_next.new.state c.do_next.result.1) c.do_next.result.0
    (λ plain. c.in_default-plain_access.ensures.other (subst IsPlainPart (sym (c.part-part.ensures ∙ ap (λ (t : StateView). next_of t.port.engine) c.take_held.ensures.state)) plain)) (subst (λ (t : StateView). length t.port.away ≡ 0) c.take_held.ensures.state (c.if-not-is_alone.ensures.0 refl)) c.part-part.result (c.part-part.ensures ∙ ap (λ (t : StateView). next_of t.port.engine) c.take_held.ensures.state) c.do_next.ensures.does

pub begin-requires-clause-free : goal.begin-requires-clause-free
begin-requires-clause-free g c = unheld_free c.args.state.now c.take_held.new.self c.requires.free c.take_held.ensures.state

pub begin-requires-clause-ready : goal.begin-requires-clause-ready
begin-requires-clause-ready g c = held_of g.N.Naming.table g.N.Naming.tokens g.N.Naming.frame c.args.state.now c.args.note c.requires.port c.take_held.new.self c.take_held.ensures.state c.in-Some.cargo c.in-Some.ensures.held

pub returns-in-Some-clause-port : goal.returns-in-Some-clause-port
returns-in-Some-clause-port g c = c.begin.ensures.port

pub returns-in-Some-clause-moved : goal.returns-in-Some-clause-moved
returns-in-Some-clause-moved g c = tries_again g.N.Naming.frame c.args.state.now c.take_held.new.self c.args.note (with_note c.begin.new.self c.begin.result.1) c.begin.result.0 c.in-Some.cargo c.in-Some.ensures.held c.take_held.ensures.state c.begin.ensures.begun

pub take-requires-clause-port : goal.take-requires-clause-port
take-requires-clause-port g c = unheld_port g.N.Naming.table g.N.Naming.tokens g.N.Naming.frame c.args.state.now c.args.note c.requires.port c.take_held.new.self c.take_held.ensures.state

pub take-requires-clause-free : goal.take-requires-clause-free
take-requires-clause-free g c = unheld_free c.args.state.now c.take_held.new.self c.requires.free c.take_held.ensures.state

pub returns-in-Some-plain_access-clause-port : goal.returns-in-Some-plain_access-clause-port
returns-in-Some-plain_access-clause-port g c = c.take.ensures.port

pub do_next-requires-clause-port : goal.do_next-requires-clause-port
do_next-requires-clause-port g c = unheld_port g.N.Naming.table g.N.Naming.tokens g.N.Naming.frame c.args.state.now c.args.note c.requires.port c.take_held.new.self c.take_held.ensures.state

pub do_next-requires-clause-free : goal.do_next-requires-clause-free
do_next-requires-clause-free g c = unheld_free c.args.state.now c.take_held.new.self c.requires.free c.take_held.ensures.state

pub returns-clause-port : goal.returns-clause-port
returns-clause-port g c = c.do_next.ensures.port
