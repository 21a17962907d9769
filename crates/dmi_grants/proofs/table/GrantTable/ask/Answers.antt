use Rattle.std.proofs.Common.{◌≡◌, ℕ, Option, Some, sym, ap, ◌∙◌, subst}
use Rattle.std.specs.Prelude.{IsSomeAnd}
use Rattle.one_history.specs.declared.view.View.{View}
use Rattle.tlm_types.specs.declared.entry.Content.{Content}
use Rattle.token_book.specs.Purse.{Purse}
use Rattle.tlm_types.specs.declared.words.Command.{Command}
use Rattle.tlm_model.specs.Plan.{Plan}
use Rattle.route_plan.specs.declared.step.Route.{Route}
use Rattle.plat_net.specs.Calls.{route_at}
use Rattle.dmi_grants.specs.Asking.{HasAsked, MayAsk}
use Rattle.dmi_grants.specs.Table.{TableView}
use Rattle.dmi_grants.specs.Made.{IsRoomyFor}
use Rattle.dmi_grants.proofs.table.GrantTable.ask.Goals as goal

-- the route that was looked up is that of the address
at : (plan net world : Plan) (who a : ℕ) (o : Option Route) (route : Route) → plan ≡ net → net ≡ world → o ≡ route_at plan who a → o ≡ Some route → route_at world who a ≡ Some route
at plan net world who a o route one two made is = sym (ap (λ (p : Plan). route_at p who a) (one ∙ two)) ∙ sym made ∙ is

may_at : (world : Plan) (command : Command) (table : TableView) (note : View Content Plan) (w : Purse) (who a : ℕ) (route : Route) → IsSomeAnd (route_at world who a) (MayAsk world command table note w) → route_at world who a ≡ Some route → MayAsk world command table note w route
may_at world command table note w who a route may is = subst (λ (o : Option Route). IsSomeAnd o (MayAsk world command table note w)) is may

some_route : (x y : Route) → Some x ≡ Some y → x ≡ y
some_route x y same = cc

pub ask_at-requires-clause-route : goal.ask_at-requires-clause-route
ask_at-requires-clause-route g c = at c.plan.result.now c.args.net.now g.N.Naming.frame.world c.args.who c.args.address c.route.result c.in-Some.route c.plan.ensures.plan c.plan.ensures.world c.route.ensures c.in-Some.is

pub ask_at-requires-clause-may : goal.ask_at-requires-clause-may
ask_at-requires-clause-may g c =
    let world = g.N.Naming.frame.world in
    let is = at c.plan.result.now c.args.net.now world c.args.who c.args.address c.route.result c.in-Some.route c.plan.ensures.plan c.plan.ensures.world c.route.ensures c.in-Some.is in
    may_at world c.args.command c.args.self.now c.args.note.knows c.args.wallet.now c.args.who c.args.address c.in-Some.route c.requires.may is

pub returns-clause-asked : goal.returns-clause-asked
returns-clause-asked g c = λ x at_x.
    let is = at c.plan.result.now c.args.net.now g.N.Naming.frame.world c.args.who c.args.address c.route.result c.in-Some.route c.plan.ensures.plan c.plan.ensures.world c.route.ensures c.in-Some.is in
    subst (λ (y : Route). HasAsked g.N.Naming.frame c.args.who c.args.command c.args.address y c.args.txn c.args.at c.args.self.now c.ask_at.new.self c.args.note.knows c.ask_at.result.1.knows c.args.wallet.now c.ask_at.new.wallet c.ask_at.result.0) (some_route c.in-Some.route x (sym is ∙ at_x)) c.ask_at.ensures.asked

pub returns-clause-room : goal.returns-clause-room
returns-clause-room g c = λ x at_x.
    let is = at c.plan.result.now c.args.net.now g.N.Naming.frame.world c.args.who c.args.address c.route.result c.in-Some.route c.plan.ensures.plan c.plan.ensures.world c.route.ensures c.in-Some.is in
    subst (λ (y : Route). IsRoomyFor y.memory c.ask_at.new.wallet) (some_route c.in-Some.route x (sym is ∙ at_x)) c.ask_at.ensures.room

pub returns-then-left-eq0-clause-note : goal.returns-then-left-eq0-clause-note
returns-then-left-eq0-clause-note g c = c.requires.note

pub returns-then-left-eq0-clause-wallet : goal.returns-then-left-eq0-clause-wallet
returns-then-left-eq0-clause-wallet g c = c.requires.wallet

pub returns-then-left-eq0-clause-rooms : goal.returns-then-left-eq0-clause-rooms
returns-then-left-eq0-clause-rooms g c = λ m room. room

pub returns-then-left-eq0-clause-room : goal.returns-then-left-eq0-clause-room
returns-then-left-eq0-clause-room g c = λ x at_x. (may_at g.N.Naming.frame.world c.args.command c.args.self.now c.args.note.knows c.args.wallet.now c.args.who c.args.address x c.requires.may at_x).room
