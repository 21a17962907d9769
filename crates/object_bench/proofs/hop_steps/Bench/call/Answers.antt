use Rattle.std.proofs.Common.{sym, ap, ◌∙◌}
use Rattle.std.proofs.lemmas.List.Elements.{All-weaker}
use Rattle.object_bench.specs.declared.hop_steps.Held.{Held}
use Rattle.hop_object.specs.Laws.{IsHeld}
use Rattle.object_bench.proofs.Benches.{held_next, may_write, past_next, room_next, same_table, table_or}
use Rattle.hop_object.proofs.LegLaws.{legs_fit}
use Rattle.hop_object.proofs.Meanings.{leaves}
use Rattle.object_bench.proofs.hop_steps.Bench.call.Goals as goal

pub apply-reply-requires-clause-tokens : goal.apply-reply-requires-clause-tokens
apply-reply-requires-clause-tokens c = λ b is. let s = c.args.self.now in ap (table_or s.hop.book.table) (sym is) ∙ s.table

pub apply-reply-requires-clause-admitted : goal.apply-reply-requires-clause-admitted
apply-reply-requires-clause-admitted c = λ is.
    let s = c.args.self.now in
    may_write s.hop.log.events s.hop.log.room s.left c.position_for-position.result s.position (c.position_for-position.ensures.admitted is) s.low c.requires.left s.past s.room

pub invariant_of-self-clause-table : goal.invariant_of-self-clause-table
invariant_of-self-clause-table c =
    let s = c.args.self.now in
    let p = c.position_for-position.result in
    let w = c.apply-reply.new.self in
    same_table s.hop w p c.args.call (leaves s.hop p c.args.call c.apply-reply.result w c.apply-reply.ensures.answer) ∙ s.table

pub invariant_of-self-clause-own : goal.invariant_of-self-clause-own
invariant_of-self-clause-own c =
    let s = c.args.self.now in
    let p = c.position_for-position.result in
    let w = c.apply-reply.new.self in
    let l = leaves s.hop p c.args.call c.apply-reply.result w c.apply-reply.ensures.answer in
    All-weaker (λ (h : Held). IsHeld s.hop.book h.leg) (λ (h : Held). IsHeld w.book h.leg) (λ h k. held_next s.hop w p c.args.call l h.leg k) s.legs.items s.own

pub invariant_of-self-clause-past : goal.invariant_of-self-clause-past
invariant_of-self-clause-past c =
    let s = c.args.self.now in
    let p = c.position_for-position.result in
    let w = c.apply-reply.new.self in
    past_next s.hop w p s.position c.args.call (leaves s.hop p c.args.call c.apply-reply.result w c.apply-reply.ensures.answer) c.position_for-position.ensures.admitted s.past

pub invariant_of-self-clause-room : goal.invariant_of-self-clause-room
invariant_of-self-clause-room c =
    let s = c.args.self.now in
    let p = c.position_for-position.result in
    let w = c.apply-reply.new.self in
    room_next s.hop w p s.left c.args.call (leaves s.hop p c.args.call c.apply-reply.result w c.apply-reply.ensures.answer) c.requires.left s.room

pub returns : goal.returns
returns c =
    let s = c.args.self.now in
    legs_fit s.hop c.position_for-position.result c.args.call c.apply-reply.result c.apply-reply.new.self c.requires.fit c.apply-reply.ensures.answer
