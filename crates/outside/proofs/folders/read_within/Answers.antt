use Rattle.std.proofs.Common.{◌≡◌, ◌<◌, List, ℕ, length, IfSome, arith, subst}
use Rattle.outside.proofs.Known.{IfSome-take_all}
use Rattle.outside.proofs.folders.read_within.Goals as goal

pub returns-in-Ok-2-clause-all : goal.returns-in-Ok-2-clause-all
returns-in-Ok-2-clause-all g c =
    let bytes = c.read_to_end.new.buf in
    let len : length bytes.items ≡ c.len.result = omega (arith, bytes.ok.0, c.len.ensures) in
    let short : length bytes.items < c.take.result.limit =
    omega (arith, bytes.ok.1, bytes.small, c.take.ensures.limit, c.saturating_add.ensures, c.if-len-limit.false) in
    subst (λ file. IfSome (g.F.Read.remaining file) (λ (ys : List ℕ). bytes.items ≡ ys)) c.take.ensures.inner
    (IfSome-take_all _ _ _ bytes.items c.in-Ok.ensures.items short c.in-Ok-2.ensures.bytes)
