use Rattle.std.proofs.Common.{ℕ, [], ◌∷◌, length, sym, subst, arith, length-append}
use Rattle.token_book.specs.Purse.{Purse}
use Rattle.tlm_types.specs.declared.ends.EndOf.{EndOf}
use Rattle.tlm_model.specs.Plan.{Plan}
use Rattle.net_end.specs.Leaves.{IsFinished}
use Rattle.plat_build.proofs.KeptLemmas.{next_is, whole_next}
use Rattle.plat_core.proofs.NetEnding.{left_more, none_left, to_leave}
use Rattle.plat_core.proofs.net_schedule.hand_in.Goals as goal

pub loop-actor-init : goal.loop-actor-init
loop-actor-init g c =
    let n = g.N.Naming in
    record {
      whole = sym c.into_iter-actor-iterator.ensures.into_iter_gives.0;
      left = none_left n.table n.tokens n.frame.world c.args.note.now c.args.ends.now.items c.args.wallets.now.items c.requires.none.0 c.requires.none.1;
      ends = c.requires.room.0;
      wallets = c.requires.room.1;
    }

pub finish-end-requires : goal.finish-end-requires
finish-end-requires g c =
    let n = g.N.Naming in
    let past = c.loop-actor.yielded in
    let at = next_is c.args.actors.items past c.next.new.self.rest.items c.loop-actor.actor-iterator.rest.items c.in-Some.actor c.loop-actor.invariant.whole c.in-Some.ensures.steps.0 in
    let leaves = to_leave n.table n.tokens n.frame c.args.note.now c.args.actors.items (length past) c.in-Some.actor c.requires.leave at in
    record { keeps = leaves.keeps; ended = leaves.ended }

pub loop-actor-preserved : goal.loop-actor-preserved
loop-actor-preserved g c =
    let n = g.N.Naming in
    let p : Plan = n.frame.world in
    let i = c.loop-actor.invariant in
    let actors = c.args.actors.items in
    let past = c.loop-actor.yielded in
    let actor = c.in-Some.actor in
    let at = next_is actors past c.next.new.self.rest.items c.loop-actor.actor-iterator.rest.items actor i.whole c.in-Some.ensures.steps.0 in
    let leaves = to_leave n.table n.tokens n.frame c.args.note.now actors (length past) actor c.requires.leave at in
    let end : EndOf = c.finish-end.result.0 in
    let wallet : Purse = c.finish-end.result.1 in
    let is : IsFinished n.table n.tokens p (length past) end c.args.note.now wallet = subst (λ (m : ℕ). IsFinished n.table n.tokens p m end c.args.note.now wallet) leaves.number c.finish-end.ensures in
    record {
      whole = whole_next actors past c.next.new.self.rest.items c.loop-actor.actor-iterator.rest.items actor i.whole c.in-Some.ensures.steps.0;
      left = left_more n.table n.tokens p (length past) _ c.args.note.now _ _ _ _ end wallet (length-append past (actor ∷ [])) c.push_reserved.ensures.items c.push_reserved-in-loop-actor.ensures.items i.left is;
      ends = omega (arith, i.ends, c.push_reserved.ensures.capacity);
      wallets = omega (arith, i.wallets, c.push_reserved-in-loop-actor.ensures.capacity);
    }
