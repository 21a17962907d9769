use Rattle.std.proofs.Common.{◌≡◌, ◌∙◌, refl}
use Rattle.std.proofs.lemmas.Result.{err_from_is_err_and}
use Rattle.platform_shape.proofs.CopyLemmas.{copied_rows, copies_fail}
use Rattle.platform_shape.proofs.copies.RouterRowCopied.copied.Goals as goal

pub returns-in_err-windows : goal.returns-in_err-windows
returns-in_err-windows c =
    let p = err_from_is_err_and c.from_residual-in_err-windows.result c.from_residual-in_err-windows.ensures.1 in
    rw (p.1, p.2) (copies_fail c.in_err-windows.field-0.0 c.as_slice.result.now c.args.self.now c.in_err-windows.ensures.read)

pub returns : goal.returns
returns c =
    let w : c.in_ok-windows.windows ≡ c.args.self.now.windows = copied_rows c.as_slice.result.now c.in_ok-windows.windows c.args.self.now.windows c.in_ok-windows.ensures.read c.as_slice.ensures in
    let n : c.in_ok-name.name ≡ c.args.self.now.name = c.in_ok-name.ensures ∙ c.as_text.ensures in
    rw (w, n) refl
