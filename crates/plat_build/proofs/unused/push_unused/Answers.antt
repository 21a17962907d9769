use Rattle.std.proofs.Common.{◌≡◌, ℕ, ◌+◌, ◌++◌, List, [], ◌∷◌, length, sym, ap, subst, ◌∙◌, arith, length-append}
use mathlib.Core.Option.{some}
use lib.ListN.{get_elem?}
use Rattle.view_lists.proofs.Places.{each_end}
use Rattle.one_history.specs.Held.{Held}
use Rattle.tlm_types.specs.declared.entry.Content.{Content}
use Rattle.tlm_model.specs.Plan.{Plan}
use Rattle.plat_build.specs.Unused.{HaveTicketsFrom, IsThere, IsUnused}
use Rattle.plat_build.proofs.KeptLemmas.{next_is, whole_next}
use Rattle.plat_build.proofs.unused.push_unused.Goals as goal

pub unused_seat-requires-clause-there : goal.unused_seat-requires-clause-there
unused_seat-requires-clause-there g c =
    let i = c.loop-object.invariant in
    let at = next_is c.args.objects.items c.loop-object.yielded c.next.new.self.rest.items c.loop-object.object-iterator.rest.items c.in-Some.object i.whole c.in-Some.ensures.steps.0 in
    let is = c.requires.numbered (length c.loop-object.yielded) c.in-Some.object at in
    subst (IsThere g.N.Naming.frame.world.platform) (sym is.0) is.1

pub unused_seat-requires-clause-wallets : goal.unused_seat-requires-clause-wallets
unused_seat-requires-clause-wallets g c =
    let i = c.loop-object.invariant in
    let at = next_is c.args.objects.items c.loop-object.yielded c.next.new.self.rest.items c.loop-object.object-iterator.rest.items c.in-Some.object i.whole c.in-Some.ensures.steps.0 in
    let is = c.requires.numbered (length c.loop-object.yielded) c.in-Some.object at in
    subst (λ (n : ℕ). HaveTicketsFrom g.N.Naming.tokens g.N.Naming.frame.world n c.loop-object.wallets) (i.count ∙ sym is.0) i.wallets

pub loop-object-preserved : goal.loop-object-preserved
loop-object-preserved g c =
    let table = g.N.Naming.table in
    let frame = g.N.Naming.frame in
    let i = c.loop-object.invariant in
    let past = c.loop-object.yielded in
    let object = c.in-Some.object in
    let at = next_is c.args.objects.items past c.next.new.self.rest.items c.loop-object.object-iterator.rest.items object i.whole c.in-Some.ensures.steps.0 in
    let number = (c.requires.numbered (length past) object at).0 ∙ sym i.count in
    let seats : List (Held Content Plan) = c.loop-object.seats.items in
    let seat : Held Content Plan = c.unused_seat.result in
    let items = c.in_ok-push.ensures.items in
    let longer : length (past ++ object ∷ []) ≡ length past + 1 = length-append past (object ∷ []) in
    let more : length c.push.new.self.items ≡ length seats + 1 = ap length items ∙ length-append seats (seat ∷ []) in
    let e = c.unused_seat.ensures in
    record {
      whole = whole_next c.args.objects.items past c.next.new.self.rest.items c.loop-object.object-iterator.rest.items object i.whole c.in-Some.ensures.steps.0;
      seats_are = λ o s there. each_end (λ j x. IsUnused table frame j x) seats seat i.seats_are
          (subst (λ (j : ℕ). IsUnused table frame j seat) number e.seat) o s
          (subst (λ (l : List (Held Content Plan)). get_elem? l o ≡ some s) items there);
      count = omega (arith, more, i.count, longer);
      wallets = subst (λ (n : ℕ). HaveTicketsFrom g.N.Naming.tokens frame.world n c.unused_seat.new.wallets) (ap (λ (n : ℕ). n + 1) number ∙ sym more) e.wallets;
    }

pub returns-clause-count : goal.returns-clause-count
returns-clause-count g c =
    let i = c.loop-object.invariant in
    let whole = ap length i.whole ∙ length-append c.loop-object.yielded c.loop-object.object-iterator.rest.items in
    let rest = c.loop-object.object-iterator.rest.ok.0 in
    let end = c.in-None.ensures.steps.0 in
    let count = i.count in
    omega (arith, whole)
