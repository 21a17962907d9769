use Rattle.std.proofs.Common.{◌≡◌, Option, sym, subst, ap, true, ◌∙◌, false, refl}
use Rattle.std.specs.Option.{IsSome}
use Rattle.tlm_types.specs.declared.words.TxnId.{TxnId}
use Rattle.flow_model.specs.Answers.{is_responding}
use Rattle.hop_object.specs.declared.lane.Lane.{Lane}
use Rattle.hop_object.specs.Lanes.{any_responding, responder}
use Rattle.hop_object.proofs.Places.{finds}
use Rattle.std.proofs.lemmas.Bool.{both_ways}
use Rattle.hop_object.specs.View.{HopView}
use Rattle.hop_object.proofs.hop.Hop.begin_resp.Goals as goal

pub unwrap-requires : goal.unwrap-requires
unwrap-requires g c =
    let xs = c.self.inside.lanes.items in
    let any : any_responding xs ≡ true = sym (c.if-any_responding.ensures ∙ ap any_responding c.deref.ensures.value) in
    subst (λ (o : Option TxnId). IsSome o) (sym (c.responder.ensures ∙ ap responder c.deref-then-any_responding.ensures.value)) (finds (λ (l : Lane g.row.T.Denot). l.txn) (λ (l : Lane g.row.T.Denot). is_responding l.state) xs any)

pub returns-then-any_responding : goal.returns-then-any_responding
returns-then-any_responding g c =
    let same = c.deref.ensures.value ∙ ap (λ (v : HopView g.row.T.Denot). v.lanes) c.self.view_is in
    let any : any_responding c.args.self.now.lanes ≡ true = sym (c.any_responding.ensures ∙ ap any_responding same) ∙ c.if-any_responding.true in
    let again = c.deref-then-any_responding.ensures.value ∙ ap (λ (v : HopView g.row.T.Denot). v.lanes) c.self.view_is in
    record {
      sent = λ none. absurd (both_ways (any_responding c.args.self.now.lanes) none any);
      busy = λ some. record { holder = c.unwrap.result; same = refl; holder_is = sym (c.responder.ensures ∙ ap responder again) ∙ c.unwrap.ensures; answer_is = refl };
    }

pub respond-requires-clause-tokens : goal.respond-requires-clause-tokens
respond-requires-clause-tokens g c = c.requires.tokens

pub respond-requires-clause-leg : goal.respond-requires-clause-leg
respond-requires-clause-leg g c = c.requires.leg

pub respond-requires-clause-may : goal.respond-requires-clause-may
respond-requires-clause-may g c =
    let same = c.deref.ensures.value ∙ ap (λ (v : HopView g.row.T.Denot). v.lanes) c.self.view_is in
    let free : any_responding c.args.self.now.lanes ≡ false = sym (c.any_responding.ensures ∙ ap any_responding same) ∙ c.if-any_responding.false in
    λ has. c.requires.may has free

pub respond-requires-clause-turn : goal.respond-requires-clause-turn
respond-requires-clause-turn g c =
    let same = c.deref.ensures.value ∙ ap (λ (v : HopView g.row.T.Denot). v.lanes) c.self.view_is in
    let free : any_responding c.args.self.now.lanes ≡ false = sym (c.any_responding.ensures ∙ ap any_responding same) ∙ c.if-any_responding.false in
    free

pub returns : goal.returns
returns g c =
    let same = c.deref.ensures.value ∙ ap (λ (v : HopView g.row.T.Denot). v.lanes) c.self.view_is in
    let free : any_responding c.args.self.now.lanes ≡ false = sym (c.any_responding.ensures ∙ ap any_responding same) ∙ c.if-any_responding.false in
    record { sent = λ none. c.respond.ensures; busy = λ some. absurd (both_ways (any_responding c.args.self.now.lanes) free some) }
