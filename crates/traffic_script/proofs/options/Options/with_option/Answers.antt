use Rattle.std.proofs.Common.{◌≡◌, ℕ, Bool, true, false, List, Err, codes, drop, nat_eq, sym, ap, subst, ◌∙◌}
use Rattle.std.specs.Prelude.{if◌then◌else◌}
use Rattle.std.specs.List.{starts_with}
use Rattle.traffic_script.specs.declared.fault.ScriptCode.TheVariants.{BadOption}
use Rattle.traffic_script.specs.declared.options.Options.{Options}
use Rattle.traffic_script.specs.Options.{with_enables, with_width, with_option}
use Rattle.traffic_script.specs.Reading.{GivesCode}
use Rattle.traffic_script.proofs.Parts.{rest_is}
use Rattle.traffic_script.proofs.options.Options.with_option.Goals as goal

by_be : (o : Options) (word : List ℕ) → starts_with nat_eq word (codes "be=") ≡ true → with_option o word ≡ with_enables o (drop 3 word)
by_be o word be = ap (λ (b : Bool). if b then with_enables o (drop 3 word) else (if starts_with nat_eq word (codes "sw=") then with_width o (drop 3 word) else Err BadOption)) be

by_other : (o : Options) (word : List ℕ) (b : Bool) → starts_with nat_eq word (codes "be=") ≡ false → starts_with nat_eq word (codes "sw=") ≡ b → with_option o word ≡ (if b then with_width o (drop 3 word) else Err BadOption)
by_other o word b be sw =
    ap (λ (b : Bool). if b then with_enables o (drop 3 word) else (if starts_with nat_eq word (codes "sw=") then with_width o (drop 3 word) else Err BadOption)) be
    ∙ ap (λ (b : Bool). if b then with_width o (drop 3 word) else Err BadOption) sw

pub slice_bounds-with_enables-count : goal.slice_bounds-with_enables-count
slice_bounds-with_enables-count c = c.starts_with.ensures.bound c.if-starts_with.true

pub slice_bounds-with_width-count : goal.slice_bounds-with_width-count
slice_bounds-with_width-count c = c.starts_with-2.ensures.bound c.if-starts_with-2.true

pub returns-then-starts_with : goal.returns-then-starts_with
returns-then-starts_with c =
    subst (λ read. GivesCode c.with_enables.result read) (sym (by_be c.args.self c.args.word.now (sym c.starts_with.ensures.value ∙ c.if-starts_with.true)))
    (subst (λ (hex : List ℕ). GivesCode c.with_enables.result (with_enables c.args.self hex)) (rest_is c.args.word.now 3) c.with_enables.ensures)

pub returns-then-starts_with-2 : goal.returns-then-starts_with-2
returns-then-starts_with-2 c =
    subst (λ read. GivesCode c.with_width.result read) (sym (by_other c.args.self c.args.word.now true (sym c.starts_with.ensures.value ∙ c.if-starts_with.false) (sym c.starts_with-2.ensures.value ∙ c.if-starts_with-2.true)))
    (subst (λ (number : List ℕ). GivesCode c.with_width.result (with_width c.args.self number)) (rest_is c.args.word.now 3) c.with_width.ensures)

pub returns : goal.returns
returns c = by_other c.args.self c.args.word.now false (sym c.starts_with.ensures.value ∙ c.if-starts_with.false) (sym c.starts_with-2.ensures.value ∙ c.if-starts_with-2.false)
