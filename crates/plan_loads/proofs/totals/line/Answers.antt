use Rattle.std.proofs.Common.{rules, ◌≡◌, ◌++◌, ◌∙◌, ℕ, List, ap, codes, string_bytes}
use Rattle.std.specs.Fmt.{decimal}
use Rattle.plan_loads.specs.Totals.{counted}
use Rattle.plan_loads.proofs.Lines.{totals-put}
use Rattle.plan_loads.proofs.totals.line.Goals as goal

pub returns : goal.returns
returns c =
    let t = c.args.totals in
    let begun : string_bytes c.write.new.self ≡ codes "gen " ++ decimal c.args.seed = search rules in
    let ended : string_bytes c.writeln.new.self ≡ string_bytes c.put_count-4.new.text ++ codes "\n" = search rules in
    ended ∙ ap (λ (x : List ℕ). x ++ codes "\n")
    (c.in_ok-put_count-4.ensures ∙ ap (λ (x : List ℕ). x ++ counted (codes "syncs") t.syncs)
    (c.in_ok-put_count-3.ensures ∙ ap (λ (x : List ℕ). x ++ counted (codes "payloads") t.payloads)
    (c.in_ok-put_count-2.ensures ∙ ap (λ (x : List ℕ). x ++ counted (codes "accesses") t.accesses)
    (c.in_ok-put_count.ensures ∙ ap (λ (x : List ℕ). x ++ counted (codes "transactions") t.transactions) begun))))
    ∙ totals-put (decimal c.args.seed) (decimal t.transactions) (decimal t.accesses) (decimal t.payloads) (decimal t.syncs)
