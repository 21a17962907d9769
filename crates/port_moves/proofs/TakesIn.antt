-- A port takes an access back: its tickets, what the last two Releases need, and that the port is one again.
use Rattle.std.proofs.Common.{◌≡◌, ◌⊎◌, ℕ, zero, suc, ◌+◌, ◌-◌, ◌<◌, ◌≤◌, if◌then◌else◌, zero-add, Bool, List, length, Option, Some, None, IsSome, refl, sym, ap, ◌∙◌, subst, inl, inr, arith}
use Rattle.std.specs.Prelude.{is_some, slice_get}
use Rattle.std.specs.FinMap as fin
use Rattle.std.proofs.lemmas.Bool.{cases_eq, eq-eqb, ne_eqb}
use Rattle.std.specs.List.{range_with_len}
use Rattle.std.proofs.lemmas.List.FromFn.{get_or-range_with_len, length-range_with_len}
use Rattle.std.proofs.lemmas.Option.{slice_get_within}
use Rattle.atomic_table.specs.Seated.{TableId}
use Rattle.view_lists.specs.Lists.{Has}
use Rattle.one_history.specs.Held.{Held}
use Rattle.one_history.specs.declared.entry.Entry.{Entry}
use Rattle.one_history.specs.declared.view.Frame.{Frame}
use Rattle.tlm_types.specs.declared.entry.Content.{Content}
use Rattle.tlm_types.specs.declared.words.ObjectNo.{ObjectNo}
use Rattle.tlm_types.specs.declared.words.ObjectNo.TheVariants.{Hop, Memory, Pool}
use Rattle.tlm_model.specs.declared.platform.Style.TheVariants.{FourPhase}
use Rattle.tlm_model.specs.Plan.{Plan, Initiator, initiators_of}
use Rattle.tlm_model.specs.Route.{Route}
use Rattle.token_book.specs.Pocket.{Pocket}
use Rattle.token_book.specs.Purse.{HasPlace, HasRoomForAll, IsOf, Purse, bytes_left_in, bytes_of, left_in, left_of}
use Rattle.flow_model.specs.World.{Passage, hop_at, hop_count}
use Rattle.flow_model.specs.Events.{Among}
use Rattle.flow_model.proofs.Ways.{world_law}
use Rattle.cargo_model.specs.declared.cargo.Cargo.{Cargo}
use Rattle.cargo_model.specs.Known.{Known, object_number, objects_of}
use Rattle.cargo_model.specs.Origins.{AreThere}
use Rattle.cargo_model.specs.Tickets.{AreApart, Pulls, PullsOwed}
use Rattle.cargo_model.specs.Travel.{memory_number, numbers_for, route_for}
use Rattle.cargo_model.proofs.Origins.{apart_law, stands}
use Rattle.cargo_model.proofs.There.{there_law}
use Rattle.cargo_net.specs.Pools.{HasReleased}
use Rattle.plat_net.specs.PoolCalls.{CanRelease}
use Rattle.plat_net.proofs.Lookups.{at_read}
use Rattle.port_moves.specs.Reach.{own_pool}
use Rattle.port_moves.specs.Returned.{TakesAll}
use Rattle.port_moves.specs.State.{IsEnded, IsHandOf, IsPort, StateView, with_note}
use Rattle.port_moves.specs.declared.hand.Hand.TheVariants.{Ended}
use Rattle.port_moves.proofs.Backs.{its}
use Rattle.port_moves.proofs.Goes.{ended_releases}

pub in_range : (n k : ℕ) → k < n → Has (range_with_len 0 n) k
in_range n k below = (k, at_read (range_with_len 0 n) k k (omega (arith, length-range_with_len 0 n)) (sym (get_or-range_with_len 0 n k k below ∙ zero-add k)))

-- an object of the history has a number below their count
pub numbered_below : (p : Plan) (o : ObjectNo) → Among (objects_of p.platform) o → object_number p.platform o < length (objects_of p.platform)
numbered_below p o there = slice_get_within (objects_of p.platform) (object_number p.platform o) o (stands o (objects_of p.platform) there)

-- what a pull leaves of an object of which there is nothing, and of another one
pub none_pulled : (tokens : TableId) (object : ℕ) (v w : Purse) → Pulls tokens object 0 v w → (o : ℕ) → left_of v o + bytes_of v o ≡ 0 → left_of w o + bytes_of w o ≡ 0
none_pulled tokens object v w pulls o none = elim (cases_eq o object) [
  | inl same ↦ (
      let l : left_of w o ≡ left_of v object - 1 = pulls.left o ∙ ap (λ (t : Bool). if t then left_of v object - 1 else left_of v o) (eq-eqb o object same) in
      let b : bytes_of w o ≡ bytes_of v object - 0 = pulls.bytes_left o ∙ ap (λ (t : Bool). if t then bytes_of v object - 0 else bytes_of v o) (eq-eqb o object same) in
      let l2 : left_of v o ≡ left_of v object = ap (left_of v) same in
      let b2 : bytes_of v o ≡ bytes_of v object = ap (bytes_of v) same in
      omega (arith, l, b, l2, b2, none)
      )
  | inr other ↦ (
      let l : left_of w o ≡ left_of v o = pulls.left o ∙ ap (λ (t : Bool). if t then left_of v object - 1 else left_of v o) (ne_eqb o object other) in
      let b : bytes_of w o ≡ bytes_of v o = pulls.bytes_left o ∙ ap (λ (t : Bool). if t then bytes_of v object - 0 else bytes_of v o) (ne_eqb o object other) in
      omega (arith, l, b, none)
      )
]

pub other_pulled : (tokens : TableId) (object : ℕ) (v w : Purse) → Pulls tokens object 0 v w → (o : ℕ) → (o ≡ object → ⊥) → left_of w o ≡ left_of v o
other_pulled tokens object v w pulls o other = pulls.left o ∙ ap (λ (t : Bool). if t then left_of v object - 1 else left_of v o) (ne_eqb o object other)

pub same_pulled : (tokens : TableId) (object : ℕ) (v w : Purse) → Pulls tokens object 0 v w → left_of w object ≡ left_of v object - 1
same_pulled tokens object v w pulls = pulls.left object ∙ ap (λ (t : Bool). if t then left_of v object - 1 else left_of v object) (eq-eqb object object refl)

-- what a ticket that may be owed leaves
pub record Leaves (tokens : TableId) (object : ℕ) (v w : Purse) : Type 0 where
  pub of : IsOf tokens v → IsOf tokens w
  pub places : w.places ≡ v.places
  pub none : (o : ℕ) → left_of v o + bytes_of v o ≡ 0 → left_of w o + bytes_of w o ≡ 0
  pub other : (o : ℕ) → (o ≡ object → ⊥) → left_of w o ≡ left_of v o

pub owed_leaves : (tokens : TableId) (owed object : ℕ) (v w : Purse) → owed < 2 → PullsOwed tokens owed object v w → Leaves tokens object v w
owed_leaves tokens zero object v w few pulls =
    subst (λ (x : Purse). Leaves tokens object v x) (sym (pulls.none refl)) (record { of = λ f. f; places = refl; none = λ o q. q; other = λ o q. refl })
owed_leaves tokens (suc zero) object v w few pulls =
    let one = pulls.one refl in
    record { of = λ f. one.of; places = one.places; none = none_pulled tokens object v w one; other = other_pulled tokens object v w one }
owed_leaves tokens (suc (suc n)) object v w few pulls = absurd (omega (arith, few))

same_owner : (a b : Initiator) → Some a ≡ Some b → a ≡ b
same_owner a b e = cc

low_or_high : (o n : ℕ) → (o < n) ⊎ (n ≤ o)
low_or_high o n = grind arith

module _ (table tokens : TableId) (frame : Frame Plan) (s : StateView) (note : Held Content Plan) (p : IsPort table tokens frame (with_note s note)) (c : Cargo) (end : ℕ)
    (h : IsHandOf frame tokens (with_note s note) (Ended c end)) where
  abbrev pub over : IsEnded frame tokens p.initiator s.port note.knows.known c end
  over = h p.initiator p.is

  abbrev pub count : ℕ
  count = length (objects_of frame.world.platform)

  -- it asks for what its own initiator does
  own_style : over.up.asked.initiator.row.style ≡ FourPhase
  own_style =
      let same = same_owner over.up.asked.initiator p.initiator (sym over.up.asked.is ∙ (ap (λ (n : ℕ). slice_get (initiators_of frame.world) n) over.own ∙ its table tokens frame s note p)) in
      subst (λ (j : Initiator). j.row.style ≡ FourPhase) (sym same) p.style

  abbrev route : Option Route
  route = route_for frame.world tokens (Known frame.world.platform note.knows.known) c.baton.txn over.pass over.up.asked

  there : AreThere frame.world c.baton.txn over.pass route
  there = subst (λ (g : Passage). AreThere frame.world c.baton.txn g route) (sym over.up.asked.way) (there_law frame.world c.baton.txn over.up.asked.initiator over.up.asked.request.address (is_some route) over.up.asked.is own_style)

  apart : AreApart (hop_count over.pass) (numbers_for frame.world tokens (Known frame.world.platform note.knows.known) c.baton.txn over.pass over.up.asked)
  apart = apart_law frame.world c.baton.txn over.pass route ((world_law frame.world p.no_cycle).passages c.baton.txn over.pass over.up.asked.passes) there

  leaves : Leaves tokens (object_number frame.world.platform (Hop (hop_at over.pass 0))) over.before c.baton.wallet
  leaves = owed_leaves tokens over.owed (object_number frame.world.platform (Hop (hop_at over.pass 0))) over.before c.baton.wallet over.few over.pulls

  -- its wallet has nothing of what isn't there
  beyond : (o : ℕ) → count ≤ o → left_of c.baton.wallet o + bytes_of c.baton.wallet o ≡ 0
  beyond o high =
      let t = over.up.tickets in
      let l = t.none o (λ j l e. absurd (let m = numbered_below frame.world (Hop (hop_at over.pass j)) (there.hops j l) in omega (arith, m, e, high)))
      (λ e. absurd (let m = numbered_below frame.world (Pool (let x = c.baton.txn in x.initiator)) there.pool in omega (arith, m, e, high)))
      (λ m q e. no_memory m q e) in
      let b = t.no_bytes o (λ m q e. no_memory m q e) in
      leaves.none o (omega (arith, l, b))
    where
      by : (r : Option Route) → route ≡ r → (m : ℕ) → memory_number frame.world r ≡ Some m → o ≡ m → ⊥
      by None f m q e = cc
      by (Some r) f m q e =
          let n = numbered_below frame.world (Memory r.memory) (there.memory r f) in
          let same : object_number frame.world.platform (Memory r.memory) ≡ m = one _ m q in
          absurd (omega (arith, n, same, e, high))
        where
          one : (a b : ℕ) → Some a ≡ Some b → a ≡ b
          one a b q = cc

      no_memory : (m : ℕ) → memory_number frame.world route ≡ Some m → o ≡ m → ⊥
      no_memory m q e = by route refl m q e

  pub taken_of : IsOf tokens c.baton.wallet
  taken_of = leaves.of over.up.tickets.of

  pub taken_places : c.baton.wallet.places ≡ 12
  taken_places = leaves.places ∙ over.up.tickets.places

  abbrev pub pool : ℕ
  pool = own_pool frame.world s.port.engine.initiator

  pool_is : object_number frame.world.platform (Pool (let x = c.baton.txn in x.initiator)) ≡ pool
  pool_is = ap (λ (n : ℕ). object_number frame.world.platform (Pool n)) (over.own ∙ p.number)

  -- and two tickets of the pool
  pub two_left : left_of c.baton.wallet pool ≡ 2
  two_left =
      let t = over.up.tickets in
      let own : left_of c.baton.wallet (object_number frame.world.platform (Pool (let x = c.baton.txn in x.initiator))) ≡ 2 = leaves.other _ (λ e. apart.pool 0 over.up.held.below (sym e)) ∙ t.pool in
      subst (λ (n : ℕ). left_of c.baton.wallet n ≡ 2) pool_is own

  pub can_release : (n : ℕ) → n ≡ s.port.engine.initiator → CanRelease frame tokens n c.hold end note.knows.known
  can_release n who = subst (λ (k : ℕ). CanRelease frame tokens k c.hold end note.knows.known) (p.number ∙ sym who) (ended_releases frame tokens p.initiator s.port note.knows.known note.knows.known (λ e q. q) c end over)

  pub released_here : (n : ℕ) → n ≡ s.port.engine.initiator → (freed : Bool) (known : List (Entry Content))
      → ((can : CanRelease frame tokens n c.hold end note.knows.known) → HasReleased frame can.x can.count end freed known) → HasReleased frame c.baton.txn 0 end freed known
  released_here n who freed known f =
      subst (λ (k : ℕ). (can : CanRelease frame tokens k c.hold end note.knows.known) → HasReleased frame can.x can.count end freed known) (who ∙ sym p.number) f
      (ended_releases frame tokens p.initiator s.port note.knows.known note.knows.known (λ e q. q) c end over)

  pub one_left : (second : Purse) → Pulls tokens pool 0 c.baton.wallet second → 0 < left_of second pool
  one_left second first = let m = same_pulled tokens pool c.baton.wallet second first in omega (arith, m, two_left)

  module _ (second z : Purse) (first : Pulls tokens pool 0 c.baton.wallet second) (last : Pulls tokens pool 0 second z) where
    pub small : (o : ℕ) → 0 < left_of z o + bytes_of z o → o < count
    small o some = elim (low_or_high o count) [
      | inl low ↦ low
      | inr high ↦ absurd (let n = none_pulled tokens pool second z last o (none_pulled tokens pool c.baton.wallet second first o (beyond o high)) in omega (arith, n, some))
    ]

    pub room_for : HasRoomForAll s.wallet z
    room_for = record {
      objects = range_with_len 0 count;
      few = (let n = length-range_with_len 0 count in let m = p.places in omega (arith, n, m));
      own = λ o has. in_range count o (p.few_places o has);
      others = λ o some. in_range count o (small o some);
    }

    pub left_places : z.places ≡ 12
    left_places = last.places ∙ (first.places ∙ taken_places)

    some_place : (w : Purse) (o : ℕ) → 0 < left_of w o + bytes_of w o → HasPlace w o
    some_place w o some = by (fin.get w.held o) some
      where
        by : (q : Option Pocket) → 0 < left_in q + bytes_left_in q → IsSome q
        by None some = absurd (omega (arith, some))
        by (Some k) some = refl

    module _ (w : Purse) (takes : TakesAll tokens s.wallet z w) where
      pub few_then : (o : ℕ) → HasPlace w o → o < count
      few_then o has =
          let some = takes.full o has in
          let l = takes.left o in
          let b = takes.bytes_left o in
          elim (low_or_high o count) [
            | inl low ↦ low
            | inr high ↦ absurd (
                let mine : (left_of s.wallet o + bytes_of s.wallet o ≡ 0) = nothing o high in
                let none = none_pulled tokens pool second z last o (none_pulled tokens pool c.baton.wallet second first o (beyond o high)) in
                omega (arith, some, l, b, mine, none)
                )
          ]
        where
          nothing : (o : ℕ) → count ≤ o → left_of s.wallet o + bytes_of s.wallet o ≡ 0
          nothing o high = elim (zero_or_some (left_of s.wallet o + bytes_of s.wallet o)) [
            | inl zeroth ↦ zeroth
            | inr some ↦ absurd (let low = p.few_places o (some_place s.wallet o some) in omega (arith, low, high))
          ]
            where
              zero_or_some : (n : ℕ) → (n ≡ 0) ⊎ (0 < n)
              zero_or_some n = grind arith
