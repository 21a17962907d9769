use Rattle.std.proofs.Common.{◌≡◌, ◌≤◌, sym, ap, subst, ◌∙◌, arith}
use Rattle.token_book.specs.Account.{Account, Slip, out_of, retired}
use Rattle.hop_object.proofs.LegLemmas.{leg_is_out, out_retired}
use Rattle.hop_object.proofs.legs.redeem.Goals as goal

pub retire_one-requires-clause-token : goal.retire_one-requires-clause-token
retire_one-requires-clause-token g c = (ap (λ (s : Slip). s.table) c.into_token.ensures ∙ c.requires.leg.0, ap (λ (s : Slip). s.owner) c.into_token.ensures ∙ c.requires.leg.1)

pub lane_of-requires-clause-placed : goal.lane_of-requires-clause-placed
lane_of-requires-clause-placed g c = c.requires.placed

pub lane_of-requires-clause-out : goal.lane_of-requires-clause-out
lane_of-requires-clause-out g c =
    let one = sym (ap (λ (s : Slip). s.amount) c.leg.view_is) ∙ c.leg.invariant in
    leg_is_out c.args.leg c.into_token.result c.name-name.result c.args.book.now c.args.lanes.now (c.name-name.ensures ∙ ap (λ (s : Slip). s.name) c.leg.view_is) c.into_token.ensures one c.retire_one.ensures.out c.requires.legs

pub returns-clause-book : goal.returns-clause-book
returns-clause-book g c = c.retire_one.ensures.book ∙ ap (retired c.args.book.now) c.into_token.ensures

pub returns-clause-few : goal.returns-clause-few
returns-clause-few g c =
    let t = c.into_token.result in
    let one : t.amount ≡ 1 = ap (λ (s : Slip). s.amount) (c.into_token.ensures ∙ sym c.leg.view_is) ∙ c.leg.invariant in
    let was = c.retire_one.ensures.out in
    λ n. let e = out_retired n c.args.book.now t one (omega (arith, one, was)) in subst (λ (b : Account). out_of n b.out ≤ out_of n c.args.book.now.out) (sym c.retire_one.ensures.book) (omega (arith, e))
