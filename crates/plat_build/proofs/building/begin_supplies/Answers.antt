use Rattle.std.proofs.Common.{◌≤◌, length, arith}
use Rattle.plat_build.proofs.building.begin_supplies.Goals as goal

pub overflow_cast-len : goal.overflow_cast-len
overflow_cast-len g c = let count = c.args.seats.ok.0 in omega (arith, c.requires.supplied.planned, c.requires.supplied.few, c.len.ensures, count)

pub empty_wallets-requires : goal.empty_wallets-requires
empty_wallets-requires g c = let count = c.args.seats.ok.0 in omega (arith, c.requires.supplied.places, c.len.ensures, count)

pub new-requires-clause-seats : goal.new-requires-clause-seats
new-requires-clause-seats g c = c.requires.supplied.fresh_seats

pub new-requires-clause-books : goal.new-requires-clause-books
new-requires-clause-books g c = c.requires.supplied.fresh_books

pub new-requires-clause-count : goal.new-requires-clause-count
new-requires-clause-count g c = c.requires.supplied.planned

pub new-requires-clause-twice : goal.new-requires-clause-twice
new-requires-clause-twice g c = c.requires.supplied.twice

pub new-requires-clause-few : goal.new-requires-clause-few
new-requires-clause-few g c = c.requires.supplied.few
