use Rattle.std.proofs.Common.{sym, subst, ◌∙◌}
use Rattle.script_engine.specs.State.{State, due_at}
use Rattle.script_engine.specs.Ready.{IsReady}
use Rattle.script_engine.proofs.Remaining.{first_proper}
use Rattle.script_engine.proofs.States.{first_whole, no_due, none_due, not_fenced, ready_told, told_to}
use Rattle.script_engine.proofs.walk.ScriptWalk.told.Goals as goal

pub due_after-self-inside-requires-clause-proper : goal.due_after-self-inside-requires-clause-proper
due_after-self-inside-requires-clause-proper c = first_proper c.self.inside.cursor c.in-Some.operation.now c.in-Some.ensures.next c.self.invariant.proper

pub due_after-self-inside-requires-clause-whole : goal.due_after-self-inside-requires-clause-whole
due_after-self-inside-requires-clause-whole c =
    let none = no_due c.self.inside.due c.self.inside.buffer (sym c.is_some-self-inside.ensures ∙ c.if-self.false) in
    λ read. rw c.bytes.ensures.value (first_whole c.self.inside.initiator c.self.inside.seq (due_at c.self.inside.due c.self.inside.buffer) c.self.inside.cursor c.self.inside.ended
    c.args.self.now c.self.view_is c.in-Some.operation.now c.args.payload.now.bytes c.in-Some.ensures.next none c.requires.whole read)

pub invariant_of-self-in-Some : goal.invariant_of-self-in-Some
invariant_of-self-in-Some c =
    let none = no_due c.self.inside.due c.self.inside.buffer (sym c.is_some-self-inside.ensures ∙ c.if-self.false) in
    let to = told_to c.self.inside.initiator c.self.inside.seq (due_at c.self.inside.due c.self.inside.buffer) c.self.inside.cursor c.self.inside.ended
    c.args.self.now c.self.view_is c.in-Some.operation.now c.advance.new.self (due_at c.due_after-self-inside.result c.due_after-self-inside.new.buffer)
    c.args.payload.now.bytes c.bytes.result.now c.is_none-self-inside.result c.in-Some.ensures.next none c.advance.ensures c.bytes.ensures.value
    c.due_after-self-inside.ensures (none_due c.is_none-self-inside.result c.due_after-self-inside.result c.due_after-self-inside.new.buffer (sym c.is_none-self-inside.ensures)) in
    let ready = subst (λ (e : State). IsReady e) c.self.view_is c.self.invariant in
    subst (λ (e : State). IsReady e) (sym to) (ready_told c.args.self.now c.args.payload.now.bytes c.requires.fenced c.requires.whole ready)

pub returns-in-Some : goal.returns-in-Some
returns-in-Some c =
    let none = no_due c.self.inside.due c.self.inside.buffer (sym c.is_some-self-inside.ensures ∙ c.if-self.false) in
    told_to c.self.inside.initiator c.self.inside.seq (due_at c.self.inside.due c.self.inside.buffer) c.self.inside.cursor c.self.inside.ended
    c.args.self.now c.self.view_is c.in-Some.operation.now c.advance.new.self (due_at c.due_after-self-inside.result c.due_after-self-inside.new.buffer)
    c.args.payload.now.bytes c.bytes.result.now c.is_none-self-inside.result c.in-Some.ensures.next none c.advance.ensures c.bytes.ensures.value
    c.due_after-self-inside.ensures (none_due c.is_none-self-inside.result c.due_after-self-inside.result c.due_after-self-inside.new.buffer (sym c.is_none-self-inside.ensures))

pub invariant_of-self-in_default : goal.invariant_of-self-in_default
invariant_of-self-in_default c =
    let none = no_due c.self.inside.due c.self.inside.buffer (sym c.is_some-self-inside.ensures ∙ c.if-self.false) in
    absurd (not_fenced c.self.inside.initiator c.self.inside.seq (due_at c.self.inside.due c.self.inside.buffer) c.self.inside.cursor c.self.inside.ended
    c.args.self.now c.self.view_is c.in_default.ensures.next none c.requires.fenced)

pub returns-in_default : goal.returns-in_default
returns-in_default c =
    let none = no_due c.self.inside.due c.self.inside.buffer (sym c.is_some-self-inside.ensures ∙ c.if-self.false) in
    absurd (not_fenced c.self.inside.initiator c.self.inside.seq (due_at c.self.inside.due c.self.inside.buffer) c.self.inside.cursor c.self.inside.ended
    c.args.self.now c.self.view_is c.in_default.ensures.next none c.requires.fenced)
