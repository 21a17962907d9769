use Rattle.std.proofs.Common.{◌≡◌, ℕ, ◌+◌, ◌-◌, ◌*◌, ◌≤◌, length, take, drop, ap, sym, ◌∙◌, arith}
use Rattle.std.proofs.lemmas.List.{length-drop, length-take-le, take_all}
use borrow.Rule.Slice.PartMut.{put_mid}
use Rattle.tlm_model.specs.Text.{hex_of}
use Rattle.line_text.proofs.VectorLemmas.{hex_put}
use Rattle.line_text.proofs.pieces.write_many_pairs.Goals as goal

pub loop-done-preserved : goal.loop-done-preserved
loop-done-preserved c =
    let bytes = c.args.bytes.now in
    let l = c.loop-done in
    let new = c.write_vector.new.digits in
    let room : l.done + 16 ≤ length bytes = omega (arith, c.loop-done-test.true, l.invariant.within) in
    let enough : 2 * (l.done + 16) ≤ length l.digits = omega (arith, room, c.requires, l.auto.digits) in
    let long : length new ≡ 32 = omega (arith, c.write_vector.auto.digits, length-take-le (2 * (l.done + 16) - 2 * l.done) (drop (2 * l.done) l.digits) (omega (arith, length-drop (2 * l.done) l.digits, enough))) in
    let count : l.done + 16 - l.done ≡ 16 = omega arith in
    record {
      within = room;
      written = hex_put bytes l.digits new l.done 16 _ enough (omega (arith, long)) l.invariant.written
          (take_all 32 new (omega (arith, long)) ∙ c.write_vector.ensures ∙ ap (λ (n : ℕ). hex_of (take n (drop l.done bytes))) count);
    }

pub returns : goal.returns
returns c =
    let bytes = c.args.bytes.now in
    let l = c.loop-done in
    let new = c.write_few_pairs.new.digits in
    let rest = length bytes - l.done in
    let within = l.invariant.within in
    let left : length (take rest (drop l.done bytes)) ≡ rest = length-take-le rest (drop l.done bytes) (omega (arith, length-drop l.done bytes, within)) in
    let enough : 2 * (l.done + rest) ≤ length l.digits = omega (arith, within, c.requires, l.auto.digits) in
    let long : 2 * rest ≤ length new = omega (arith, c.write_few_pairs.auto.digits, length-take-le (length l.digits - 2 * l.done) (drop (2 * l.done) l.digits) (omega (arith, length-drop (2 * l.done) l.digits, enough)), enough) in
    let count : 2 * length bytes ≡ 2 * (l.done + rest) = omega (arith, within) in
    let all : l.done + rest ≡ length bytes = omega (arith, within) in
    ap (λ (n : ℕ). take n (put_mid (2 * l.done) (length l.digits - 2 * l.done) l.digits new)) count
    ∙ hex_put bytes l.digits new l.done rest _ enough long l.invariant.written (ap (λ (n : ℕ). take (2 * n) new) (sym left) ∙ c.write_few_pairs.ensures)
    ∙ ap (λ (n : ℕ). hex_of (take n bytes)) all
    ∙ ap hex_of (take_all (length bytes) bytes (omega arith))
