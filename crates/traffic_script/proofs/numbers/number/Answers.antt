use Rattle.std.proofs.Common.{◌≡◌, ℕ, Bool, true, false, List, codes, drop, nat_eq, sym, ap, ◌∙◌}
use Rattle.std.specs.Prelude.{if◌then◌else◌}
use Rattle.std.specs.List.{starts_with}
use Rattle.traffic_script.specs.Numbers.{number_in, read_number}
use Rattle.traffic_script.proofs.Parts.{rest_is}
use Rattle.traffic_script.proofs.numbers.number.Goals as goal

by_prefix : (word : List ℕ) (b : Bool) → starts_with nat_eq word (codes "0x") ≡ b → read_number word ≡ (if b then number_in 16 (drop 2 word) else number_in 10 word)
by_prefix word b is = ap (λ (b : Bool). if b then number_in 16 (drop 2 word) else number_in 10 word) is

pub slice_bounds-number_in-count : goal.slice_bounds-number_in-count
slice_bounds-number_in-count c = c.starts_with.ensures.bound c.if-starts_with.true

pub returns-then-starts_with : goal.returns-then-starts_with
returns-then-starts_with c =
    c.number_in.ensures ∙ ap (number_in 16) (rest_is c.args.word.now 2) ∙ sym (by_prefix c.args.word.now true (sym c.starts_with.ensures.value ∙ c.if-starts_with.true))

pub returns : goal.returns
returns c = c.number_in-2.ensures ∙ sym (by_prefix c.args.word.now false (sym c.starts_with.ensures.value ∙ c.if-starts_with.false))
