use Rattle.std.proofs.Common.{◌≡◌, ◌+◌, [], ◌∷◌, length, ap, subst, ◌∙◌, arith, length-append}
use Rattle.std.specs.Prelude.{IfSome, Option}
use Rattle.std.proofs.lemmas.List.Elements.{All-pop}
use Rattle.one_history.specs.Held.{Held}
use Rattle.tlm_types.specs.declared.entry.Content.{Content}
use Rattle.tlm_model.specs.Plan.{Plan}
use Rattle.plat_build.specs.Kept.{IsBlank}
use Rattle.plat_build.proofs.KeptLemmas.{added_kept, all_wait_more}
use Rattle.plat_build.proofs.kept.take_notes.Goals as goal

pub loop-place-preserved : goal.loop-place-preserved
loop-place-preserved g c =
    let i = c.loop-place.invariant in
    let items = c.in_ok-push.ensures.items in
    let popped = All-pop (IsBlank g.N.Naming.table) c.loop-place.notes.items c.pop.new.self.items c.pop.result c.pop.ensures.items i.left in
    let gone : length c.loop-place.notes.items ≡ length c.pop.new.self.items + 1 = ap length c.in-Some.ensures.items ∙ length-append c.pop.new.self.items (c.in-Some.note ∷ []) in
    record {
      blank = added_kept (λ k n. IsBlank g.N.Naming.table n) c.loop-place.taken.items c.push.new.self.items c.in-Some.note i.blank items
          (subst (λ (o : Option (Held Content Plan)). IfSome o (IsBlank g.N.Naming.table)) c.in-Some.is popped.1);
      taken_all = all_wait_more c.loop-place.taken.items c.push.new.self.items c.in-Some.note c.loop-place._place i.taken_all items;
      left = popped.0;
      fewer = omega (arith, i.fewer, gone);
    }
