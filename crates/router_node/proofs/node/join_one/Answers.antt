use Rattle.std.proofs.Common.{◌≡◌, ℕ, List, Option, None, set, sym, ap, subst, ◌∙◌, refl}
use Rattle.std.specs.List.{AllByRecursion}
use Rattle.router_node.specs.Joins.{IsFirstOf, IsPlaceOf}
use Rattle.router_node.specs.Node.{gap}
use Rattle.router_node.specs.Stages.{IsStage}
use Rattle.router_node.specs.declared.stage.Stage.{Stage}
use Rattle.router_node.proofs.JoinsOne.{joined_there}
use Rattle.router_node.proofs.Places.{is_within, that_one, with_another}
use Rattle.router_node.proofs.node.join_one.Goals as goal

pub take_out-stage-requires : goal.take_out-stage-requires
take_out-stage-requires g c =
    let items = c.args.held.now.items in
    let first : IsFirstOf c.args.found items c.in-Some.at = subst (λ (l : List Stage). IsFirstOf c.args.found l c.in-Some.at) c.deref.ensures.value (subst (λ (o : Option ℕ). IsPlaceOf c.args.found c.deref.result.now o) c.in-Some.is c.place_of.ensures) in
    is_within items c.in-Some.at first.stage first.stands

pub join-stage-requires-clause-stage : goal.join-stage-requires-clause-stage
join-stage-requires-clause-stage g c = that_one (IsStage g.N.Naming.frame g.N.Naming.tokens c.args.note.now.knows.known) c.args.held.now.items c.in-Some.at c.take_out-stage.result c.take_out-stage.ensures.was c.requires.held

pub returns-clause-held : goal.returns-clause-held
returns-clause-held g c =
    let items = c.args.held.now.items in
    let at = c.in-Some.at in
    let t = c.join-stage.result.0 in
    let known = IsStage g.N.Naming.frame g.N.Naming.tokens c.args.note.now.knows.known in
    let put : c.put_back.new.held.items ≡ set (set items at gap) at t = c.put_back.ensures.items ∙ ap (λ (l : List Stage). set l at t) c.take_out-stage.ensures.items in
    subst (λ (l : List Stage). AllByRecursion known l) (sym {A = List Stage} put) (with_another known items at c.take_out-stage.result c.take_out-stage.ensures.was c.requires.held gap t c.join-stage.ensures.stage)

pub returns-clause-joined : goal.returns-clause-joined
returns-clause-joined g c =
    let items = c.args.held.now.items in
    let at = c.in-Some.at in
    let t = c.join-stage.result.0 in
    let first : IsFirstOf c.args.found items at = subst (λ (l : List Stage). IsFirstOf c.args.found l c.in-Some.at) c.deref.ensures.value (subst (λ (o : Option ℕ). IsPlaceOf c.args.found c.deref.result.now o) c.in-Some.is c.place_of.ensures) in
    let put : c.put_back.new.held.items ≡ set (set items at gap) at t = c.put_back.ensures.items ∙ ap (λ (l : List Stage). set l at t) c.take_out-stage.ensures.items in
    joined_there c.args.found items c.put_back.new.held.items at c.take_out-stage.result gap t c.join-stage.result.1 first c.take_out-stage.ensures.was put c.join-stage.ensures.joined

pub returns-clause-capacity : goal.returns-clause-capacity
returns-clause-capacity g c = c.put_back.ensures.capacity ∙ c.take_out-stage.ensures.capacity

pub returns-clause-found : goal.returns-clause-found
returns-clause-found g c = c.join-stage.ensures.found

pub returns-in_default-clause-found : goal.returns-in_default-clause-found
returns-in_default-clause-found g c = c.requires.found

pub returns-in_default-clause-held : goal.returns-in_default-clause-held
returns-in_default-clause-held g c = c.requires.held

pub returns-in_default-clause-capacity : goal.returns-in_default-clause-capacity
returns-in_default-clause-capacity g c = refl

pub join-stage-requires-clause-found : goal.join-stage-requires-clause-found
join-stage-requires-clause-found g c = c.requires.found

pub returns-in_default-clause-joined : goal.returns-in_default-clause-joined
returns-in_default-clause-joined g c =
    let others = subst (λ (l : List Stage). IsPlaceOf c.args.found l None) c.deref.ensures.value (subst (λ (o : Option ℕ). IsPlaceOf c.args.found c.deref.result.now o) c.in_default.is c.place_of.ensures) in
    (refl, refl, others)
