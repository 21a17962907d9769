use Rattle.std.proofs.Common.{rules, ◌≡◌, codes, arith, refl}
use Rattle.std.proofs.lemmas.Slice.Eq.{text_from_reads}
use Rattle.command_words.proofs.values.trace_of.Goals as goal

pub returns-in-accesses : goal.returns-in-accesses
returns-in-accesses c =
    let e : c.args.value.now ≡ codes "accesses" =
    text_from_reads _ _ (omega arith) (search rules) in
    rw e refl
