use Rattle.std.proofs.Common.{◌≡◌, ◌+◌, ◌*◌, arith}
use Rattle.line_text.specs.CallText.{call_row}
use Rattle.line_text.proofs.CallLemmas.{adds-call}
use Rattle.line_text.proofs.call.write_call.Goals as goal

pub returns-clause-adds : goal.returns-clause-adds
returns-clause-adds c =
    let row : 4 * c.answer_number.result + c.phase_number.result ≡ call_row c.args.phase c.args.answer = omega (arith, c.answer_number.ensures.number, c.phase_number.ensures.number) in
    rw row (adds-call _ _ _ _ _ _ (omega (arith, c.requires)) (rw row at c.write_word.ensures))
