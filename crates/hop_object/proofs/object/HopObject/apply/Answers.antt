use Rattle.std.proofs.Common.{refl}
use Rattle.hop_object.proofs.Meanings.{leaves, may_call, none_less, none_written, one_less, one_written}
use Rattle.hop_object.proofs.Carried.{all_given}
use Rattle.hop_object.proofs.object.HopObject.apply.Goals as goal

pub answer-reply-requires-clause-tokens : goal.answer-reply-requires-clause-tokens
answer-reply-requires-clause-tokens g c = let v = c.args.self.now in c.requires.tokens (v.book.table, v.book.owner) refl

pub answer-reply-requires-clause-may : goal.answer-reply-requires-clause-may
answer-reply-requires-clause-may g c = λ is. may_call c.args.self.now c.args.position (c.requires.admitted is)

pub returns-clause-built : goal.returns-clause-built
returns-clause-built g c = (leaves c.args.self.now c.args.position c.args.call c.answer-reply.result c.answer-reply.new.self c.answer-reply.ensures).built

pub returns-clause-entry : goal.returns-clause-entry
returns-clause-entry g c = λ is.
    let l = leaves c.args.self.now c.args.position c.args.call c.answer-reply.result c.answer-reply.new.self c.answer-reply.ensures in
    one_written c.args.self.now c.answer-reply.new.self c.args.position c.args.call (l.taken is)

pub returns-clause-room : goal.returns-clause-room
returns-clause-room g c = λ is.
    let l = leaves c.args.self.now c.args.position c.args.call c.answer-reply.result c.answer-reply.new.self c.answer-reply.ensures in
    one_less c.args.self.now c.answer-reply.new.self c.args.position c.args.call (l.taken is) (c.requires.admitted is).room

pub returns-clause-no_entry : goal.returns-clause-no_entry
returns-clause-no_entry g c = λ not.
    let l = leaves c.args.self.now c.args.position c.args.call c.answer-reply.result c.answer-reply.new.self c.answer-reply.ensures in
    none_written c.args.self.now c.answer-reply.new.self (l.other not)

pub returns-clause-no_room : goal.returns-clause-no_room
returns-clause-no_room g c = λ not.
    let l = leaves c.args.self.now c.args.position c.args.call c.answer-reply.result c.answer-reply.new.self c.answer-reply.ensures in
    (none_less c.args.self.now c.answer-reply.new.self (l.other not), refl)

pub returns-clause-items : goal.returns-clause-items
returns-clause-items g c = all_given c.args.self.now c.args.position c.args.call c.answer-reply.result c.answer-reply.new.self c.answer-reply.ensures
