-- A pump in which nothing was moved.
use Rattle.std.proofs.Common.{◌≡◌, ℕ, Bool, true, false, List, [], ◌++◌, length, map, refl, sym, ap, subst, ◌∙◌}
use Rattle.std.specs.Prelude.{nat_lt, ◌||◌}
use Rattle.std.proofs.lemmas.List.{append-nil, length-map}
use Rattle.atomic_table.specs.Seated.{TableId}
use Rattle.one_history.specs.Held.{Held as HeldNote}
use Rattle.one_history.specs.declared.view.Frame.{Frame}
use Rattle.tlm_types.specs.declared.entry.Content.{Content}
use Rattle.tlm_model.specs.Plan.{Plan}
use Rattle.router_node.specs.Node.{DoesNothing, GoesOn, GoesThrough, HasPumped, HasTakenBack, HasTakenIn, StandsStill, back_looks, in_looks, has_room, pumped_by, vain_steps}
use Rattle.router_node.specs.Stages.{Standing, standing}
use Rattle.router_node.specs.declared.node.RouterNode.{RouterNode}
use Rattle.router_node.specs.declared.stage.Stage.{Stage}
use Rattle.router_node.specs.declared.stage.Step.{Step}
use Rattle.router_node.specs.declared.stage.Step.TheVariants.{End, Send, Pass}
use Rattle.router_node.proofs.Sweeps.{Grows, first_not, grows_on, second_not, sweeps_still, sweeps_vain}

abbrev Looks : Type 0
Looks = List (ℕ × ℕ)

-- as many stand there
as_many : (xs ys : List Stage) → map standing ys ≡ map standing xs → length ys ≡ length xs
as_many xs ys same = sym (length-map ys standing) ∙ (ap (λ (l : List Standing). length l) same ∙ length-map xs standing)

both : (a b c d : Looks) → a ≡ b → c ≡ d → a ++ c ≡ b ++ d
both a b c d p q = ap (λ (l : Looks). l ++ c) p ∙ ap (λ (l : Looks). b ++ l) q

module _ (frame : Frame Plan) (tokens : TableId) (hasty : Bool) (old new : RouterNode) (was is : HeldNote Content Plan) where
  abbrev p : Plan
  p = frame.world

  -- Nothing was moved.
  module _ (g : GoesThrough frame tokens hasty old new was is false) where
    none : (g.ends || (g.sends || (g.passes || (g.joins || g.takes)))) ≡ false
    none = sym g.moved_is

    no_ends : g.ends ≡ false
    no_ends = first_not g.ends (g.sends || (g.passes || (g.joins || g.takes))) none

    none_1 : (g.sends || (g.passes || (g.joins || g.takes))) ≡ false
    none_1 = second_not g.ends (g.sends || (g.passes || (g.joins || g.takes))) none

    no_sends : g.sends ≡ false
    no_sends = first_not g.sends (g.passes || (g.joins || g.takes)) none_1

    none_2 : (g.passes || (g.joins || g.takes)) ≡ false
    none_2 = second_not g.sends (g.passes || (g.joins || g.takes)) none_1

    no_passes : g.passes ≡ false
    no_passes = first_not g.passes (g.joins || g.takes) none_2

    none_3 : (g.joins || g.takes) ≡ false
    none_3 = second_not g.passes (g.joins || g.takes) none_2

    no_joins : g.joins ≡ false
    no_joins = first_not g.joins g.takes none_3

    no_takes : g.takes ≡ false
    no_takes = second_not g.joins g.takes none_3

    -- the steps
    abbrev stands : List Standing
    stands = map standing old.held.items

    e : (map standing g.ended.held.items ≡ stands) × Grows was.knows.looks g.after_end.knows.looks
    e = sweeps_still frame hasty End old.held.items g.ended.held.items was.knows g.after_end.knows g.ends no_ends g.end_all.swept

    s : (map standing g.sent.held.items ≡ map standing g.ended.held.items) × Grows g.after_end.knows.looks g.after_send.knows.looks
    s = sweeps_still frame hasty Send g.ended.held.items g.sent.held.items g.after_end.knows g.after_send.knows g.sends no_sends g.send_all.swept

    t : (map standing g.passed.held.items ≡ map standing g.sent.held.items) × Grows g.after_send.knows.looks g.after_pass.knows.looks
    t = sweeps_still frame hasty Pass g.sent.held.items g.passed.held.items g.after_send.knows g.after_pass.knows g.passes no_passes g.pass_all.swept

    b : HasTakenBack frame tokens hasty g.passed g.joined g.after_pass.knows g.after_back.knows false
    b = subst (λ (f : Bool). HasTakenBack frame tokens hasty g.passed g.joined g.after_pass.knows g.after_back.knows f) no_joins g.take_back

    i : HasTakenIn frame tokens hasty g.joined new g.after_back is false
    i = subst (λ (f : Bool). HasTakenIn frame tokens hasty g.joined new g.after_back is f) no_takes g.take_in

    -- the router
    passed_is : g.passed ≡ record old { held = (let r = g.passed in r.held) }
    passed_is =
        g.pass_all.same
        ∙ (ap (λ (r : RouterNode). record r { held = (let q = g.passed in q.held) }) g.send_all.same
        ∙ ap (λ (r : RouterNode). record r { held = (let q = g.passed in q.held) }) g.end_all.same)

    new_is : new ≡ g.passed
    new_is = i.0 ∙ b.0

    stand : map standing g.passed.held.items ≡ stands
    stand = t.0 ∙ (s.0 ∙ e.0)

    grows : Grows was.knows.looks is.knows.looks
    grows =
        grows_on was.knows.looks g.after_end.knows.looks is.knows.looks e.1
        (grows_on g.after_end.knows.looks g.after_send.knows.looks is.knows.looks s.1
        (grows_on g.after_send.knows.looks g.after_pass.knows.looks is.knows.looks t.1
        (grows_on g.after_pass.knows.looks g.after_back.knows.looks is.knows.looks
        (back_looks p g.passed.stray b.1.0, b.1.2) (in_looks p (has_room g.joined) i.1.0, i.1.2))))

    pub still : StandsStill frame tokens old new was.knows is.knows
    still = record {
      same = new_is ∙ (passed_is ∙ sym (ap (λ (r : RouterNode). record old { held = r.held }) new_is));
      stand = ap (λ (r : RouterNode). map standing r.held.items) new_is ∙ stand;
      knew = λ x has. g.knew_in x (g.knew_back x (g.pass_all.knew x (g.send_all.knew x (g.end_all.knew x has))));
      earlier = grows.0;
      looks = grows.1;
    }

    -- Every look was had.
    module _ (exact : hasty ≡ false) where
      after_end : g.after_end.knows.looks ≡ was.knows.looks ++ vain_steps p End stands
      after_end = (sweeps_vain frame hasty End old.held.items g.ended.held.items was.knows g.after_end.knows g.ends exact no_ends g.end_all.swept).1

      after_send : g.after_send.knows.looks ≡ was.knows.looks ++ vain_steps p End stands ++ vain_steps p Send stands
      after_send =
          (sweeps_vain frame hasty Send g.ended.held.items g.sent.held.items g.after_end.knows g.after_send.knows g.sends exact no_sends g.send_all.swept).1
          ∙ both _ _ _ _ after_end (ap (λ (l : List Standing). vain_steps p Send l) e.0)

      after_pass : g.after_pass.knows.looks ≡ was.knows.looks ++ vain_steps p End stands ++ vain_steps p Send stands ++ vain_steps p Pass stands
      after_pass =
          (sweeps_vain frame hasty Pass g.sent.held.items g.passed.held.items g.after_send.knows g.after_pass.knows g.passes exact no_passes g.pass_all.swept).1
          ∙ both _ _ _ _ after_send (ap (λ (l : List Standing). vain_steps p Pass l) (s.0 ∙ e.0))

      back_are : back_looks p g.passed.stray b.1.0 ≡ back_looks p old.stray old.below.items
      back_are = ap (λ (l : List ℕ). back_looks p g.passed.stray l) (b.1.1.all exact) ∙ ap (λ (r : RouterNode). back_looks p r.stray r.below.items) passed_is

      in_are : in_looks p (has_room g.joined) i.1.0 ≡ in_looks p (has_room old) old.above.items
      in_are =
          ap (λ (l : List ℕ). in_looks p (has_room g.joined) l) (i.1.1.all exact)
          ∙ (ap (λ (r : RouterNode). in_looks p (has_room r) r.above.items) (b.0 ∙ passed_is) ∙ ap (λ (n : ℕ). in_looks p (nat_lt n old.room) old.above.items) (as_many old.held.items g.passed.held.items stand))

      pub every_look : is.knows.looks
          ≡ was.knows.looks ++ vain_steps p End stands ++ vain_steps p Send stands ++ vain_steps p Pass stands ++ back_looks p old.stray old.below.items ++ in_looks p (has_room old) old.above.items
      every_look = i.1.2 ∙ both _ _ _ _ (b.1.2 ∙ both _ _ _ _ after_pass back_are) in_are

module _ (frame : Frame Plan) (tokens : TableId) (old new : RouterNode) (was is : HeldNote Content Plan) where
  -- a going through in haste has moved something
  pub at_once : (moved : Bool) → moved ≡ true → GoesThrough frame tokens true old new was is moved → GoesOn frame tokens old new was is true
  at_once moved did g = record {
    start = old;
    note = was;
    still = record { same = refl; stand = refl; knew = λ x has. has; earlier = []; looks = sym (append-nil was.knows.looks) };
    hasty = true;
    goes = subst (λ (f : Bool). GoesThrough frame tokens true old new was is f) did g;
    every_look = λ q. cc;
  }

  -- or not, and there was a second one
  pub once_more : (mid : RouterNode) (note : HeldNote Content Plan) (moved did : Bool) → moved ≡ false → GoesThrough frame tokens true old mid was note moved → GoesThrough frame tokens false mid new note is did → GoesOn frame tokens old new was is did
  once_more mid note moved did none g more = record {
    start = mid;
    note = note;
    still = still frame tokens true old mid was note (subst (λ (f : Bool). GoesThrough frame tokens true old mid was note f) none g);
    hasty = false;
    goes = more;
    every_look = λ q. refl;
  }

  does_nothing : GoesOn frame tokens old new was is false → DoesNothing frame tokens old new was.knows is.knows
  does_nothing o =
      let k = o.still in
      let n = still frame tokens o.hasty o.start new o.note is o.goes in
      let back : back_looks frame.world o.start.stray o.start.below.items ≡ back_looks frame.world old.stray old.below.items = ap (λ (r : RouterNode). back_looks frame.world r.stray r.below.items) k.same in
      let ins : in_looks frame.world (has_room o.start) o.start.above.items ≡ in_looks frame.world (has_room old) old.above.items =
      ap (λ (r : RouterNode). in_looks frame.world (has_room r) r.above.items) k.same ∙ ap (λ (m : ℕ). in_looks frame.world (nat_lt m old.room) old.above.items) (as_many old.held.items o.start.held.items k.stand) in
      record {
        same = n.same ∙ ap (λ (r : RouterNode). record r { held = (let q = new in q.held) }) k.same;
        stand = n.stand ∙ k.stand;
        earlier = k.earlier;
        looks = every_look frame tokens o.hasty o.start new o.note is o.goes (o.every_look refl)
            ∙ both _ _ _ _ (both _ _ _ _ (both _ _ _ _ (both _ _ _ _ (both _ _ _ _ k.looks (vain_as End k.stand)) (vain_as Send k.stand)) (vain_as Pass k.stand)) back) ins;
      }
    where
      vain_as : (w : Step) {a b : List Standing} → a ≡ b → vain_steps frame.world w a ≡ vain_steps frame.world w b
      vain_as w same = ap (λ (l : List Standing). vain_steps frame.world w l) same

  -- the answer tells whether something was moved
  pub has_pumped : (moved : Bool) → GoesOn frame tokens old new was is moved → HasPumped frame tokens old new was is (pumped_by moved)
  has_pumped true g = g
  has_pumped false g = does_nothing g
