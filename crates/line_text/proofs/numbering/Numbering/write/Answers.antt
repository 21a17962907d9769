use Rattle.std.proofs.Common.{◌≡◌, ◌≤◌, ◌/◌, ◌∙◌, ap, arith, sym}
use Rattle.std.proofs.lemmas.Fmt.{length-decimal-le}
use Rattle.line_text.specs.Numbering.{NumberingView, numbered_text}
use Rattle.line_text.proofs.Adding.{adds-as, adds-more}
use Rattle.line_text.proofs.NumberingLemmas.{numbered-is}
use Rattle.line_text.proofs.numbering.Numbering.write.Goals as goal

pub write_short_decimal-end-requires : goal.write_short_decimal-end-requires
write_short_decimal-end-requires c =
    (c.if-number-lt100.true, omega (arith, c.requires.room, c.write-digits.ensures.within, c.write-digits.auto.bytes, length-decimal-le 2 c.args.number (omega arith) (omega arith) (omega (arith, c.if-number-lt100.true))))

pub write_word-requires : goal.write_word-requires
write_word-requires c =
    (omega arith, omega (arith, c.requires.room, c.write-digits.ensures.within, c.write-digits.auto.bytes, c.write_short_decimal-end.ensures.ends, c.write_short_decimal-end.auto.bytes, length-decimal-le 2 c.args.number (omega arith) (omega arith) (omega (arith, c.if-number-lt100.true))))

pub returns-then-number-lt100-clause-within : goal.returns-then-number-lt100-clause-within
returns-then-number-lt100-clause-within c =
    omega (arith, c.write-digits.ensures.within, c.write_short_decimal-end.ensures.ends, c.write_word.ensures.ends, length-decimal-le 2 c.args.number (omega arith) (omega arith) (omega (arith, c.if-number-lt100.true)))

pub returns-else-number-lt100-clause-adds : goal.returns-else-number-lt100-clause-adds
returns-else-number-lt100-clause-adds c =
    let s = c.self.inside in
    let long : 100 ≤ c.args.number = omega (arith, c.if-number-lt100.false) in
    let same : c.args.number / 100 ≡ s.first / 100 = c.requires.ready ∙ sym (ap (λ (v : NumberingView). v.hundred) c.self.view_is) in
    let text = numbered-is s.word s.front c.decimal_pair.result c.args.number s.first c.self.invariant.0 c.self.invariant.1 same long (omega arith) c.decimal_pair.ensures in
    adds-as _ _ _ _ _ _ (adds-more _ _ _ _ _ _ _ _ c.write-pair.ensures.adds (adds-more _ _ _ _ _ _ _ _ c.write_word-end.ensures c.write_word-else-number-lt100.ensures))
    (text ∙ ap (λ (v : NumberingView). numbered_text v.word c.args.number) c.self.view_is)
