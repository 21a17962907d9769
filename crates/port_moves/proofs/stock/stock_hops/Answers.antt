use Rattle.std.proofs.Common.{◌≡◌, ℕ, ◌<◌, ◌≤◌, ◌⊎◌, length, sym, ap, ◌∙◌, subst, arith}
use Rattle.std.proofs.lemmas.Option.{get_or_from_slice_get, slice_get_within}
use Rattle.token_book.specs.Purse.{HasPlace, HasRoom, left_of}
use Rattle.route_plan.specs.Valid.{hop_count}
use Rattle.port_moves.specs.Reach.{first_hop}
use Rattle.port_moves.specs.Stocks.{HasMoved, hops_at, place_at}
use Rattle.port_moves.proofs.Stocking.{enough_next, few_at, found_at, gets_at, gives_at, moved_next, none_at, room_for_hop}
use Rattle.port_moves.proofs.stock.stock_hops.Goals as goal

pub hop_place-requires : goal.hop_place-requires
hop_place-requires g c = subst (λ (n : ℕ). n < hop_count g.N.Naming.frame.world.platform) (get_or_from_slice_get (hops_at g.N.Naming.frame.world c.args.initiator c.args.address) c.loop-hop.index c.in-Some.hop 0 (found_at c.plan.result.now c.args.net.now g.N.Naming.frame.world c.args.initiator c.args.address c.loop-hop.index c.in-Some.hop c.hops.result c.plan.ensures.plan c.plan.ensures.world c.hops.ensures.hop c.in-Some.is)) (c.requires.may.there c.loop-hop.index (slice_get_within (hops_at g.N.Naming.frame.world c.args.initiator c.args.address) c.loop-hop.index c.in-Some.hop (found_at c.plan.result.now c.args.net.now g.N.Naming.frame.world c.args.initiator c.args.address c.loop-hop.index c.in-Some.hop c.hops.result c.plan.ensures.plan c.plan.ensures.world c.hops.ensures.hop c.in-Some.is)))

pub hand_over-requires-clause-left : goal.hand_over-requires-clause-left
hand_over-requires-clause-left g c =
    subst (λ (n : ℕ). 4 ≤ left_of c.loop-hop.from n) (sym (c.hop_place.ensures ∙ ap (first_hop g.N.Naming.frame.world) (sym (get_or_from_slice_get (hops_at g.N.Naming.frame.world c.args.initiator c.args.address) c.loop-hop.index c.in-Some.hop 0 (found_at c.plan.result.now c.args.net.now g.N.Naming.frame.world c.args.initiator c.args.address c.loop-hop.index c.in-Some.hop c.hops.result c.plan.ensures.plan c.plan.ensures.world c.hops.ensures.hop c.in-Some.is)))))
    (enough_next g.N.Naming.tokens (place_at g.N.Naming.frame.world c.args.initiator c.args.address) (length (hops_at g.N.Naming.frame.world c.args.initiator c.args.address)) c.loop-hop.index (slice_get_within (hops_at g.N.Naming.frame.world c.args.initiator c.args.address) c.loop-hop.index c.in-Some.hop (found_at c.plan.result.now c.args.net.now g.N.Naming.frame.world c.args.initiator c.args.address c.loop-hop.index c.in-Some.hop c.hops.result c.plan.ensures.plan c.plan.ensures.world c.hops.ensures.hop c.in-Some.is)) c.requires.may.apart c.args.from.now c.args.to.now c.loop-hop.from c.loop-hop.to c.loop-hop.invariant.moved (c.requires.may.enough c.loop-hop.index (slice_get_within (hops_at g.N.Naming.frame.world c.args.initiator c.args.address) c.loop-hop.index c.in-Some.hop (found_at c.plan.result.now c.args.net.now g.N.Naming.frame.world c.args.initiator c.args.address c.loop-hop.index c.in-Some.hop c.hops.result c.plan.ensures.plan c.plan.ensures.world c.hops.ensures.hop c.in-Some.is))))

pub hand_over-requires-clause-room : goal.hand_over-requires-clause-room
hand_over-requires-clause-room g c =
    subst (λ (n : ℕ). HasRoom c.loop-hop.to n) (sym (c.hop_place.ensures ∙ ap (first_hop g.N.Naming.frame.world) (sym (get_or_from_slice_get (hops_at g.N.Naming.frame.world c.args.initiator c.args.address) c.loop-hop.index c.in-Some.hop 0 (found_at c.plan.result.now c.args.net.now g.N.Naming.frame.world c.args.initiator c.args.address c.loop-hop.index c.in-Some.hop c.hops.result c.plan.ensures.plan c.plan.ensures.world c.hops.ensures.hop c.in-Some.is)))))
    (room_for_hop g.N.Naming.tokens (place_at g.N.Naming.frame.world c.args.initiator c.args.address) (length (hops_at g.N.Naming.frame.world c.args.initiator c.args.address)) c.loop-hop.index (slice_get_within (hops_at g.N.Naming.frame.world c.args.initiator c.args.address) c.loop-hop.index c.in-Some.hop (found_at c.plan.result.now c.args.net.now g.N.Naming.frame.world c.args.initiator c.args.address c.loop-hop.index c.in-Some.hop c.hops.result c.plan.ensures.plan c.plan.ensures.world c.hops.ensures.hop c.in-Some.is)) (few_at c.plan.result.now c.args.net.now g.N.Naming.frame.world c.args.initiator c.args.address c.plan.ensures.plan c.plan.ensures.world c.hops.ensures.few) c.args.from.now c.args.to.now c.loop-hop.from c.loop-hop.to c.loop-hop.invariant.moved c.requires.empty)

pub loop-hop-preserved : goal.loop-hop-preserved
loop-hop-preserved g c =
    let e = c.hand_over.ensures in
    record {
      below = (let l = (slice_get_within (hops_at g.N.Naming.frame.world c.args.initiator c.args.address) c.loop-hop.index c.in-Some.hop (found_at c.plan.result.now c.args.net.now g.N.Naming.frame.world c.args.initiator c.args.address c.loop-hop.index c.in-Some.hop c.hops.result c.plan.ensures.plan c.plan.ensures.world c.hops.ensures.hop c.in-Some.is)) in omega (arith, l));
      moved = moved_next g.N.Naming.tokens (place_at g.N.Naming.frame.world c.args.initiator c.args.address) (length (hops_at g.N.Naming.frame.world c.args.initiator c.args.address)) c.loop-hop.index (slice_get_within (hops_at g.N.Naming.frame.world c.args.initiator c.args.address) c.loop-hop.index c.in-Some.hop (found_at c.plan.result.now c.args.net.now g.N.Naming.frame.world c.args.initiator c.args.address c.loop-hop.index c.in-Some.hop c.hops.result c.plan.ensures.plan c.plan.ensures.world c.hops.ensures.hop c.in-Some.is)) c.requires.may.apart c.args.from.now c.args.to.now c.loop-hop.from c.loop-hop.to c.loop-hop.invariant.moved c.hand_over.new.from c.hand_over.new.to
          (gives_at c.tickets.result.now g.N.Naming.tokens c.hop_place.result (place_at g.N.Naming.frame.world c.args.initiator c.args.address c.loop-hop.index) c.loop-hop.from c.hand_over.new.from c.tickets.ensures (c.hop_place.ensures ∙ ap (first_hop g.N.Naming.frame.world) (sym (get_or_from_slice_get (hops_at g.N.Naming.frame.world c.args.initiator c.args.address) c.loop-hop.index c.in-Some.hop 0 (found_at c.plan.result.now c.args.net.now g.N.Naming.frame.world c.args.initiator c.args.address c.loop-hop.index c.in-Some.hop c.hops.result c.plan.ensures.plan c.plan.ensures.world c.hops.ensures.hop c.in-Some.is)))) e.from)
          (gets_at c.tickets.result.now g.N.Naming.tokens c.hop_place.result (place_at g.N.Naming.frame.world c.args.initiator c.args.address c.loop-hop.index) c.loop-hop.to c.hand_over.new.to c.tickets.ensures (c.hop_place.ensures ∙ ap (first_hop g.N.Naming.frame.world) (sym (get_or_from_slice_get (hops_at g.N.Naming.frame.world c.args.initiator c.args.address) c.loop-hop.index c.in-Some.hop 0 (found_at c.plan.result.now c.args.net.now g.N.Naming.frame.world c.args.initiator c.args.address c.loop-hop.index c.in-Some.hop c.hops.result c.plan.ensures.plan c.plan.ensures.world c.hops.ensures.hop c.in-Some.is)))) e.to)
          e.from_in (subst (λ (n : ℕ). (o : ℕ) → HasPlace c.hand_over.new.to o → HasPlace c.loop-hop.to o ⊎ (o ≡ n)) (c.hop_place.ensures ∙ ap (first_hop g.N.Naming.frame.world) (sym (get_or_from_slice_get (hops_at g.N.Naming.frame.world c.args.initiator c.args.address) c.loop-hop.index c.in-Some.hop 0 (found_at c.plan.result.now c.args.net.now g.N.Naming.frame.world c.args.initiator c.args.address c.loop-hop.index c.in-Some.hop c.hops.result c.plan.ensures.plan c.plan.ensures.world c.hops.ensures.hop c.in-Some.is)))) e.to_in);
    }

pub returns-clause-count : goal.returns-clause-count
returns-clause-count g c =
    let past = none_at c.plan.result.now c.args.net.now g.N.Naming.frame.world c.args.initiator c.args.address c.loop-hop.index c.hops.result c.plan.ensures.plan c.plan.ensures.world c.hops.ensures.hop c.in_default.is in
    let below = c.loop-hop.invariant.below in
    omega (arith, past, below)

pub returns-clause-moved : goal.returns-clause-moved
returns-clause-moved g c =
    let past = none_at c.plan.result.now c.args.net.now g.N.Naming.frame.world c.args.initiator c.args.address c.loop-hop.index c.hops.result c.plan.ensures.plan c.plan.ensures.world c.hops.ensures.hop c.in_default.is in
    let below = c.loop-hop.invariant.below in
    let all : c.loop-hop.index ≡ length (hops_at g.N.Naming.frame.world c.args.initiator c.args.address) = omega (arith, past, below) in
    subst (λ (k : ℕ). HasMoved g.N.Naming.tokens (place_at g.N.Naming.frame.world c.args.initiator c.args.address) k c.args.from.now c.args.to.now c.loop-hop.from c.loop-hop.to) all c.loop-hop.invariant.moved

pub returns-clause-few : goal.returns-clause-few
returns-clause-few g c =
    let below = c.loop-hop.invariant.below in
    let few = few_at c.plan.result.now c.args.net.now g.N.Naming.frame.world c.args.initiator c.args.address c.plan.ensures.plan c.plan.ensures.world c.hops.ensures.few in
    omega (arith, few, below)
