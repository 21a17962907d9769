use Rattle.std.proofs.Common.{sym, subst, arith}
use Rattle.script_engine.specs.State.{State, due_at}
use Rattle.script_engine.specs.Ready.{IsReady}
use Rattle.script_engine.proofs.Remaining.{first_proper, left}
use Rattle.script_engine.proofs.States.{passed_past, passed_to, ready_passed}
use Rattle.script_engine.proofs.walk.ScriptWalk.passed.Goals as goal

pub numbers_of-requires : goal.numbers_of-requires
numbers_of-requires c = first_proper c.self.inside.cursor c.in-Some.operation.now c.in-Some.ensures.next c.self.invariant.proper

pub overflow_add-self : goal.overflow_add-self
overflow_add-self c =
    let rest = left c.self.inside.cursor c.in-Some.operation.now c.in-Some.ensures.next in
    omega (arith, rw rest at c.self.invariant.numbered, c.numbers_of.ensures)

pub invariant_of-self : goal.invariant_of-self
invariant_of-self c =
    let to = passed_to c.self.inside.initiator c.self.inside.seq (due_at c.self.inside.due c.self.inside.buffer) c.self.inside.cursor c.self.inside.ended
    c.args.self.now c.self.view_is c.in-Some.operation.now c.advance.new.self c.numbers_of.result c.in-Some.ensures.next c.advance.ensures c.numbers_of.ensures in
    let ready = subst (λ (e : State). IsReady e) c.self.view_is c.self.invariant in
    subst (λ (e : State). IsReady e) (sym to) (ready_passed c.args.self.now c.requires ready)

pub returns-in-Some : goal.returns-in-Some
returns-in-Some c =
    passed_to c.self.inside.initiator c.self.inside.seq (due_at c.self.inside.due c.self.inside.buffer) c.self.inside.cursor c.self.inside.ended
    c.args.self.now c.self.view_is c.in-Some.operation.now c.advance.new.self c.numbers_of.result c.in-Some.ensures.next c.advance.ensures c.numbers_of.ensures

pub returns-in_default : goal.returns-in_default
returns-in_default c =
    passed_past c.self.inside.initiator c.self.inside.seq (due_at c.self.inside.due c.self.inside.buffer) c.self.inside.cursor c.self.inside.ended
    c.args.self.now c.self.view_is c.in_default.ensures.next
