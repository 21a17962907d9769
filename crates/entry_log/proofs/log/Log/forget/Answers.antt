use Rattle.std.proofs.Common.{◌^◌, ◌<◌, List, length, append-nil, All, ap, arith, subst, sym, ◌∙◌}
use Rattle.std.proofs.lemmas.List.Elements.{All-nil}
use Rattle.tlm_types.specs.declared.entry.Entry.{Entry}
use Rattle.log_items.specs.Items.{FullItem, IsWithin}
use Rattle.entry_log.proofs.log.Log.forget.Goals as goal

pub invariant_of-self-2 : goal.invariant_of-self-2
invariant_of-self-2 c =
    let count = ap length c.of-past.ensures in
    let bytes = ap length c.clear-2.ensures.items in
    record {
      before = record {
        none = λ keeps. absurd (cc);
        count = c.len-count.ensures.len ∙ sym count;
        timed = subst (λ (es : List Entry). All (λ (e : Entry). e.time < 2 ^ 64) es) (sym c.of-past.ensures) c.len-count.ensures.timed;
        few = omega arith;
      };
      timed = rw c.clear.ensures (All-nil (λ (i : FullItem). i.item.time < 2 ^ 64));
      kept = rw c.clear.ensures (All-nil (IsWithin c.clear-2.new.self.items));
      roomy = omega arith;
      small = omega arith;
    }

pub returns-clause-entries : goal.returns-clause-entries
returns-clause-entries c = rw (c.clear.ensures, c.of-past.ensures) (append-nil c.args.self.now.entries)
