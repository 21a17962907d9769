use Rattle.std.proofs.Common.{◌≡◌, ℕ, ◌+◌, ◌<◌, ◌++◌, [], ◌∷◌, length, map, replicate, true, sym, ap, subst, ◌∙◌, arith, length-append}
use Rattle.std.specs.Prelude.{All, IfSome, Option, Some, vec_len}
use Rattle.std.proofs.lemmas.List.Elements.{All-pop}
use Rattle.one_history.specs.Held.{Held}
use Rattle.view_lists.proofs.Places.{at_short}
use Rattle.tlm_types.specs.declared.entry.Content.{Content}
use Rattle.tlm_model.specs.Plan.{Plan}
use Rattle.cargo_model.specs.Known.{objects_of}
use Rattle.plat_build.specs.Kept.{IsBlank, IsStart}
use Rattle.plat_build.specs.Tickets.{IsStocked}
use Rattle.plat_build.proofs.KeptLemmas.{added_kept, all_wait_more, next_is, whole_next}
use Rattle.plat_build.proofs.kept.make_starts.Goals as goal

pub overflow_cast-initiator : goal.overflow_cast-initiator
overflow_cast-initiator g c =
    let i = c.loop-wallet.invariant in
    let number : length c.loop-wallet.yielded ≡ c.len-initiator.result = (let a = i.count in let b = c.len-initiator.ensures in let d = c.loop-wallet.starts.ok.0 in omega arith) in
    let at = next_is c.args.wallets.items c.loop-wallet.yielded c.next.new.self.rest.items c.loop-wallet.wallet-iterator.rest.items c.in-Some.wallet i.whole c.in-Some.ensures.steps.0 in
    let below : length c.loop-wallet.yielded < length c.args.wallets.items = at_short c.args.wallets.items (length c.loop-wallet.yielded) c.in-Some.wallet at in
    omega (arith, number, below, c.requires.wallets.count, c.platform.ensures.valid.shape.bounded.initiator_count)

pub make_start-requires-clause-note : goal.make_start-requires-clause-note
make_start-requires-clause-note g c =
    let popped = All-pop (IsBlank g.N.Naming.table) c.loop-wallet.notes.items c.pop.new.self.items c.pop.result c.pop.ensures.items c.loop-wallet.invariant.left in
    subst (λ (o : Option (Held Content Plan)). IfSome o (IsBlank g.N.Naming.table)) c.in-Some-pop.is popped.1

pub make_start-requires-clause-wallet : goal.make_start-requires-clause-wallet
make_start-requires-clause-wallet g c =
    let i = c.loop-wallet.invariant in
    let number : length c.loop-wallet.yielded ≡ c.len-initiator.result = (let a = i.count in let b = c.len-initiator.ensures in let d = c.loop-wallet.starts.ok.0 in omega arith) in
    let at = next_is c.args.wallets.items c.loop-wallet.yielded c.next.new.self.rest.items c.loop-wallet.wallet-iterator.rest.items c.in-Some.wallet i.whole c.in-Some.ensures.steps.0 in
    subst (λ (k : ℕ). IsStocked g.N.Naming.tokens c.args.plan.now (length (objects_of c.args.plan.now.platform)) k c.in-Some.wallet) number (c.requires.wallets.each (length c.loop-wallet.yielded) c.in-Some.wallet at)

pub loop-wallet-preserved : goal.loop-wallet-preserved
loop-wallet-preserved g c =
    let i = c.loop-wallet.invariant in
    let done = c.loop-wallet.yielded in
    let w = c.in-Some.wallet in
    let items = c.in_ok-push.ensures.items in
    let number : c.len-initiator.result ≡ length c.loop-wallet.starts.items = (let b = c.len-initiator.ensures in let d = c.loop-wallet.starts.ok.0 in omega arith) in
    let longer : length (done ++ w ∷ []) ≡ length done + 1 = length-append done (w ∷ []) in
    let popped = All-pop (IsBlank g.N.Naming.table) c.loop-wallet.notes.items c.pop.new.self.items c.pop.result c.pop.ensures.items i.left in
    let gone : length c.loop-wallet.notes.items ≡ length c.pop.new.self.items + 1 = ap length c.in-Some-pop.ensures.items ∙ length-append c.pop.new.self.items (c.in-Some-pop.note ∷ []) in
    record {
      whole = whole_next c.args.wallets.items done c.next.new.self.rest.items c.loop-wallet.wallet-iterator.rest.items w i.whole c.in-Some.ensures.steps.0;
      starts_are = added_kept (λ k s. IsStart g.N.Naming.table g.N.Naming.tokens c.args.plan.now k s) c.loop-wallet.starts.items c.push.new.self.items c.in_ok-start.start i.starts_are items
          (subst (λ (k : ℕ). IsStart g.N.Naming.table g.N.Naming.tokens c.args.plan.now k c.in_ok-start.start) number c.in_ok-start.ensures);
      started_all = subst (λ (n : ℕ). map (λ start. Rattle.std.specs.Prelude.is_some start) c.push.new.self.items ≡ replicate n true) (sym longer) (all_wait_more c.loop-wallet.starts.items c.push.new.self.items c.in_ok-start.start (length done) i.started_all items);
      count = ap length items ∙ (length-append c.loop-wallet.starts.items (Some c.in_ok-start.start ∷ []) ∙ (ap (λ (n : ℕ). n + 1) i.count ∙ sym longer));
      left = popped.0;
      fewer = omega (arith, i.fewer, gone, longer);
    }
