use Rattle.std.proofs.Common.{ℕ, zero, suc, ◌<◌, ◌≤◌, List, [], ◌∷◌, length, get_or, set, refl, ap, ◌∙◌, arith}
use Rattle.std.proofs.lemmas.Option.{slice_get-get_or}
use Rattle.region_object.specs.Region.{LoggedMemory}
use Rattle.initiator_run.specs.Access.{cost_next}
use Rattle.initiator_run.specs.Turns.{HasRoomAt}
use Rattle.initiator_run.proofs.AdvanceLemmas.{gone_accessed}
use Rattle.initiator_run.proofs.turn.take_turn.Goals as goal

-- a memory that has room is there
room_there : (regions : List LoggedMemory) (k bytes : ℕ) (d : LoggedMemory) → HasRoomAt regions k bytes → (length (get_or regions k d).log.entries < (get_or regions k d).log.room) × (bytes ≤ (get_or regions k d).log.room_bytes)
room_there [] k bytes d h = absurd h
room_there (m ∷ regions) zero bytes d h = h
room_there (m ∷ regions) (suc k) bytes d h = room_there regions k bytes d h

is_there : (regions : List LoggedMemory) (k bytes : ℕ) → HasRoomAt regions k bytes → k < length regions
is_there [] k bytes h = absurd h
is_there (m ∷ regions) zero bytes h = omega arith
is_there (m ∷ regions) (suc k) bytes h = omega (arith, is_there regions k bytes h)

pub bounds-regions-next : goal.bounds-regions-next
bounds-regions-next g c =
    let next = c.in-Reached.next in
    is_there c.args.regions.now next.route.memory (cost_next c.advance.new.self) (c.requires.room c.advance.new.self next.transfer next.route c.advance.ensures.keeps c.in-Reached.ensures.cases.0)

pub access-requires-clause-next : goal.access-requires-clause-next
access-requires-clause-next g c = c.in-Reached.ensures.cases.0.next

pub access-requires-clause-room : goal.access-requires-clause-room
access-requires-clause-room g c =
    let next = c.in-Reached.next in
    (room_there c.args.regions.now next.route.memory (cost_next c.advance.new.self) c.index-regions-next.result (c.requires.room c.advance.new.self next.transfer next.route c.advance.ensures.keeps c.in-Reached.ensures.cases.0)).0

pub access-requires-clause-room_bytes : goal.access-requires-clause-room_bytes
access-requires-clause-room_bytes g c =
    let next = c.in-Reached.next in
    (room_there c.args.regions.now next.route.memory (cost_next c.advance.new.self) c.index-regions-next.result (c.requires.room c.advance.new.self next.transfer next.route c.advance.ensures.keeps c.in-Reached.ensures.cases.0)).1

pub access-requires-clause-roomy : goal.access-requires-clause-roomy
access-requires-clause-roomy g c = c.advance.ensures.roomy ∙ c.requires.roomy

pub returns-clause-turn : goal.returns-clause-turn
returns-clause-turn g c =
    let next = c.in-Reached.next in
    let reached = c.in-Reached.ensures.cases in
    let k = next.route.memory in
    let there = is_there c.args.regions.now k (cost_next c.advance.new.self) (c.requires.room c.advance.new.self next.transfer next.route c.advance.ensures.keeps reached.0) in
    record {
      middle = c.advance.new.self;
      transfer = next.transfer;
      route = next.route;
      region = get_or c.args.regions.now k c.index-regions-next.result;
      got = c.access.new.payload.bytes;
      keeps = c.advance.ensures.keeps;
      finished = reached.1;
      reached = reached.0;
      through = reached.2;
      was = slice_get-get_or c.args.regions.now k c.index-regions-next.result there;
      now = ap (λ (m : LoggedMemory). set c.args.regions.now k m) c.access.ensures.memory;
      told = c.access.ensures.told;
      run = c.access.ensures.run;
    }

pub returns-clause-rounds : goal.returns-clause-rounds
returns-clause-rounds g c =
    let reached = c.in-Reached.ensures.cases in
    gone_accessed c.args.plan.now c.args.run.now c.advance.new.self c.access.new.self c.args.rounds.now c.advance.new.rounds c.in-Reached.next.transfer c.in-Reached.next.route.latency c.access.new.payload.bytes
    c.requires.way c.advance.ensures.keeps c.advance.ensures.rounds reached.2 c.access.ensures.run

pub returns-in-Invalidates-clause-turn : goal.returns-in-Invalidates-clause-turn
returns-in-Invalidates-clause-turn g c =
    let reached = c.in-Invalidates.ensures.cases in
    record { keeps = c.advance.ensures.keeps; finished = reached.1; reached = reached.0; through = reached.2; same = refl }

pub returns-in-Invalidates-clause-rounds : goal.returns-in-Invalidates-clause-rounds
returns-in-Invalidates-clause-rounds g c = c.advance.ensures.rounds

pub returns-in-Waits-clause-turn : goal.returns-in-Waits-clause-turn
returns-in-Waits-clause-turn g c =
    let waits = c.in-Waits.ensures.cases in
    record { keeps = c.advance.ensures.keeps; finished = waits.1; waiting = waits.0; same = refl }

pub returns-in-Waits-clause-rounds : goal.returns-in-Waits-clause-rounds
returns-in-Waits-clause-rounds g c = c.advance.ensures.rounds

pub returns-in-Ended-clause-turn : goal.returns-in-Ended-clause-turn
returns-in-Ended-clause-turn g c =
    let ended = c.in-Ended.ensures.cases in
    record { keeps = c.advance.ensures.keeps; ended = ended.0; through = ended.1; same = refl }

pub returns-in-Ended-clause-rounds : goal.returns-in-Ended-clause-rounds
returns-in-Ended-clause-rounds g c = c.advance.ensures.rounds
