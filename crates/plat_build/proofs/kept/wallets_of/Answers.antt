use Rattle.std.proofs.Common.{◌≡◌, ℕ, ◌+◌, List, [], ◌∷◌, length, Option, sym, ap, subst, ◌∙◌, arith, length-append}
use mathlib.Core.Option.{some}
use lib.ListN.{get_elem?}
use Rattle.view_lists.proofs.Places.{each_end}
use Rattle.token_book.specs.Purse.{Purse}
use Rattle.plat_build.specs.declared.kept.Start.{Start}
use Rattle.plat_build.specs.Unused.{HasTicketsFrom}
use Rattle.plat_build.proofs.KeptLemmas.{next_is, whole_next}
use Rattle.plat_build.proofs.WaitLemmas.{count_waiting, none_missing}
use Rattle.plat_build.proofs.kept.wallets_of.Goals as goal

pub unreachable-requires : goal.unreachable-requires
unreachable-requires g c =
    let starts : List (Option Start) = c.args.starts.items in
    let k : ℕ = length c.loop-place.yielded in
    let at = next_is starts c.loop-place.yielded c.next.new.self.rest.items c.loop-place.place-iterator.rest.items c.in-Some.place c.loop-place.invariant.whole c.in-Some.ensures.steps.0 in
    none_missing starts _ k c.requires.all (subst (λ (o : Option Start). get_elem? starts k ≡ some o) c.in_default.is at)

pub loop-place-preserved : goal.loop-place-preserved
loop-place-preserved g c =
    let tokens = g.N.Naming.tokens in
    let p = g.N.Naming.frame.world in
    let i = c.loop-place.invariant in
    let starts : List (Option Start) = c.args.starts.items in
    let past : List (Option Start) = c.loop-place.yielded in
    let k : ℕ = length past in
    let place : Option Start = c.in-Some.place in
    let at = next_is starts past c.next.new.self.rest.items c.loop-place.place-iterator.rest.items place i.whole c.in-Some.ensures.steps.0 in
    let start : Start = c.in-Some-place.start in
    let is = c.requires.starts k start (subst (λ (o : Option Start). get_elem? starts k ≡ some o) c.in-Some-place.is at) in
    let wallets : List Purse = c.loop-place.wallets.items in
    let one : HasTicketsFrom tokens p 0 k start.wallet = record { of = is.wallet.of; left = λ n o late there. is.wallet.left n o there } in
    let items = c.in_ok-push.ensures.items in
    record {
      whole = whole_next starts past c.next.new.self.rest.items c.loop-place.place-iterator.rest.items place i.whole c.in-Some.ensures.steps.0;
      count = ap length items ∙ (length-append wallets (start.wallet ∷ []) ∙ (ap (λ (n : ℕ). n + 1) i.count ∙ sym (length-append past (place ∷ []))));
      each = λ j w there. each_end (λ n u. HasTicketsFrom tokens p 0 n u) wallets start.wallet i.each
          (subst (λ (n : ℕ). HasTicketsFrom tokens p 0 n start.wallet) (sym i.count) one) j w
          (subst (λ (l : List Purse). get_elem? l j ≡ some w) items there);
    }

pub returns : goal.returns
returns g c =
    let i = c.loop-place.invariant in
    let all = count_waiting c.args.starts.items _ c.requires.all in
    let whole : length c.args.starts.items ≡ length c.loop-place.yielded + length c.loop-place.place-iterator.rest.items = ap length i.whole ∙ length-append c.loop-place.yielded c.loop-place.place-iterator.rest.items in
    let rest = c.loop-place.place-iterator.rest.ok.0 in
    let end = c.in-None.ensures.steps.0 in
    let count = i.count in
    record { count = omega arith; each = i.each }
