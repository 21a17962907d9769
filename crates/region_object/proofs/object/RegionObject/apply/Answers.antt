use Rattle.std.proofs.Common.{ℕ, [], ◌∷◌, ◌++◌, length, ap, ◌∙◌, zero-add}
use Rattle.std.proofs.lemmas.Bool.{cond-true}
use Rattle.shared_object.specs.Written.{noted}
use Rattle.region_object.specs.Region.{LoggedMemory, is_admitted, region_entry, with_logged}
use Rattle.region_object.specs.Written.{written_from}
use Rattle.region_object.proofs.Written.{written_from-more}
use Rattle.region_object.proofs.object.RegionObject.apply.Goals as goal

pub returns-clause-entry : goal.returns-clause-entry
returns-clause-entry c is =
    let r = c.args.self.now in
    let e = region_entry r c.args.position c.args.call in
    ap (λ (m : LoggedMemory). written_from 0 m.log.entries) (c.apply-reply.ensures.memory ∙ cond-true (is_admitted r c.args.call) (with_logged r e) r is)
    ∙ written_from-more 0 r.log.entries e
    ∙ ap (λ (k : ℕ). written_from 0 r.log.entries ++ noted k e ∷ []) (zero-add (length r.log.entries))
