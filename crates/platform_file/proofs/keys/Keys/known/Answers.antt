use Rattle.std.proofs.Common.{map, filter, ap, ◌∙◌, string_bytes}
use Rattle.std.proofs.lemmas.Map.Iter.{rest_more}
use Rattle.std.specs.Map.Iter.{deref}
use Rattle.platform_file.specs.Keys.{is_unknown, least_of, refused_key}
use Rattle.platform_file.proofs.KnownKeys.{among_known, first_is_least, keys_of-view, passes_known, stops_unknown, fails_as_told}
use Rattle.platform_file.proofs.keys.Keys.known.Goals as goal

pub loop-key-init : goal.loop-key-init
loop-key-init c =
    ap (λ ks. among_known (map (λ x. x.now) c.args.keys.now) c.args.self.now.place (map string_bytes ks)) (c.into_iter-key-iterator.ensures.into_iter_gives ∙ c.keys-key-items.ensures.rest)
    ∙ first_is_least (map (λ x. x.now) c.args.keys.now) c.args.self.now.place _ c.keys-key-items.ensures.ordered
    ∙ ap (λ ks. refused_key c.args.self.now.place (least_of (filter (is_unknown (map (λ x. x.now) c.args.keys.now)) ks))) (keys_of-view c.args.self.now.table.now.entries)

pub returns-then-not-is_among : goal.returns-then-not-is_among
returns-then-not-is_among c =
    fails_as_told _ _ _ c.refuse.ensures
    (stops_unknown c.args.keys.now c.args.self.now.place c.loop-key.key-iterator c.in-Some.key.now c.next.new.self c.as_str.result.now c.as_str-then-not-is_among.result.now c.is_among.result _
    (rest_more deref _ _ _ _ c.in-Some.is c.next.ensures.steps) c.as_str.ensures.value c.as_str-then-not-is_among.ensures.value c.is_among.ensures c.if-not-is_among.true c.loop-key.invariant)

pub loop-key-preserved : goal.loop-key-preserved
loop-key-preserved c =
    passes_known c.args.keys.now c.args.self.now.place c.loop-key.key-iterator c.in-Some.key.now c.next.new.self c.as_str.result.now c.is_among.result _
    (rest_more deref _ _ _ _ c.in-Some.is c.next.ensures.steps) c.as_str.ensures.value c.is_among.ensures c.if-not-is_among.false c.loop-key.invariant
