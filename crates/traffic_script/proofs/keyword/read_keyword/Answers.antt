use Rattle.std.proofs.Common.{◌≡◌, codes, refl, rules, arith}
use Rattle.std.proofs.lemmas.Slice.Eq.{text_from_reads}
use Rattle.traffic_script.proofs.keyword.read_keyword.Goals as goal

pub returns-in-ignore : goal.returns-in-ignore
returns-in-ignore c =
    let e : c.args.word.now ≡ codes "ignore" = text_from_reads c.args.word.now (codes "ignore") (omega arith) (search rules) in
    rw e refl

pub returns-in-repeat : goal.returns-in-repeat
returns-in-repeat c =
    let e : c.args.word.now ≡ codes "repeat" = text_from_reads c.args.word.now (codes "repeat") (omega arith) (search rules) in
    rw e refl

pub returns-in-invalidate : goal.returns-in-invalidate
returns-in-invalidate c =
    let e : c.args.word.now ≡ codes "invalidate" = text_from_reads c.args.word.now (codes "invalidate") (omega arith) (search rules) in
    rw e refl

pub returns-in-102 : goal.returns-in-102
returns-in-102 c =
    let e : c.args.word.now ≡ codes "fetch_add" = text_from_reads c.args.word.now (codes "fetch_add") (omega arith) (search rules) in
    rw e refl
