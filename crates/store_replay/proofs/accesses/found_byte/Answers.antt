use Rattle.std.proofs.Common.{sym, ◌∙◌, length}
use Rattle.store_replay.specs.Replay.{access_in}
use Rattle.store_replay.proofs.AccessLemmas.{found_beyond, found_none, found_plain, found_there, is_below, not_below}
use Rattle.store_replay.proofs.accesses.found_byte.Goals as goal

pub returns-in_default : goal.returns-in_default
returns-in_default c =
    let a = c.args.access.now in
    found_none (access_in a) a.sent.now c.args.store.now c.args.k (not_below c.args.k (length a.sent.now) c.in_default.ensures.lookup.0)

pub returns-then-not-is_enabled : goal.returns-then-not-is_enabled
returns-then-not-is_enabled c =
    let a = c.args.access.now in
    let there = is_below c.args.k (length a.sent.now) c.in-Some.ensures.lookup.0 in
    c.in-Some.ensures.lookup.3.1 0 ∙ found_plain (access_in a) a.sent.now c.args.store.now c.args.k there (sym c.is_enabled.ensures ∙ c.if-not-is_enabled.true)

pub returns-in-Some-place_of : goal.returns-in-Some-place_of
returns-in-Some-place_of c =
    let a = c.args.access.now in
    let there = is_below c.args.k (length a.sent.now) c.in-Some.ensures.lookup.0 in
    found_there (access_in a) a.sent.now c.args.store.now c.args.k c.in-Some-place_of.place there (sym c.is_enabled.ensures ∙ c.if-not-is_enabled.false) c.in-Some-place_of.ensures.0

pub returns-in-None : goal.returns-in-None
returns-in-None c =
    let a = c.args.access.now in
    let there = is_below c.args.k (length a.sent.now) c.in-Some.ensures.lookup.0 in
    found_beyond (access_in a) a.sent.now c.args.store.now c.args.k there (sym c.is_enabled.ensures ∙ c.if-not-is_enabled.false) c.in-None.ensures
