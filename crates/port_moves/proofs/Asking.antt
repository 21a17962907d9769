-- The ticket of a debug read goes out of a wallet, through a purse.
use Rattle.std.proofs.Common.{◌≡◌, ℕ, ◌+◌, ◌-◌, ◌<◌, ◌==◌, if◌then◌else◌, Bool, [], ◌∷◌, Option, Some, None, IsSome, refl, sym, ap, ◌∙◌, subst, inl, inr, arith}
use Rattle.std.specs.Prelude.{IfSome, MatchOption}
use Rattle.std.specs.FinMap as map
use Rattle.std.specs.FinMap.{get-empty}
use Rattle.std.specs.List.{range_with_len}
use Rattle.std.specs.Ordering.{nat_cmp}
use Rattle.std.proofs.lemmas.Bool.{cases_eq, eq-eqb, ne_eqb}
use Rattle.std.proofs.lemmas.List.FromFn.{length-range_with_len}
use Rattle.atomic_table.specs.Seated.{TableId}
use Rattle.one_history.specs.Held.{Held}
use Rattle.one_history.specs.declared.view.View.{View}
use Rattle.tlm_types.specs.declared.entry.Content.{Content}
use Rattle.tlm_types.specs.declared.words.TxnId.{TxnId}
use Rattle.generic_payload.specs.Payload.{PayloadView}
use Rattle.region_object.specs.declared.call.RegionCall.TheVariants.{Debug}
use Rattle.region_object.specs.Call.{payload_cost}
use Rattle.tlm_model.specs.Plan.{Plan}
use Rattle.token_book.specs.Pocket.{Pocket}
use Rattle.token_book.specs.Purse.{HasPlace, HasRoom, HasRoomForAll, IsOf, Purse, bytes_left_in, bytes_of, empty_purse, left_in, left_of}
use Rattle.token_book.proofs.Rooms.{place-empty, room_within}
use Rattle.route_plan.specs.declared.step.Route.{Route}
use Rattle.plat_net.specs.Calls.{IsCalled, OneTicketLess, route_at}
use Rattle.port_moves.specs.Reads.{HasAsked, HasSpent, debug_call}
use Rattle.port_moves.specs.Wallets.{Gets, Gives}
use Rattle.port_moves.proofs.Stocking.{got_bytes_else, got_bytes_here, got_else, got_here}
use Rattle.port_moves.proofs.TakesIn.{in_range}

pub none_of : (t : TableId) (v : Purse) (n : ℕ) → v ≡ empty_purse n → IsOf t v
none_of t v n q o k e = absurd (clash _ (ap (λ (w : Purse). map.get w.held o) q ∙ get-empty nat_cmp o) e)
  where
    clash : (z : Option Pocket) → z ≡ None → z ≡ Some k → ⊥
    clash z f g = cc

pub room_of_one : (v : Purse) (o : ℕ) → v ≡ empty_purse 1 → HasRoom v o
room_of_one v o q = subst (λ (w : Purse). HasRoom w o) (sym q) (room_within (empty_purse 1) (o ∷ []) (omega arith) (λ k has. absurd (place-empty 1 k has)) o (0, refl))

nothing_left : (v : Purse) (o n : ℕ) → v ≡ empty_purse n → (left_of v o ≡ 0) × (bytes_of v o ≡ 0)
nothing_left v o n q = let e = ap (λ (w : Purse). map.get w.held o) q ∙ get-empty nat_cmp o in (ap left_in e, ap bytes_left_in e)

pub route_here : (q r : Plan) (n a b : ℕ) (o e : Option Route) → q ≡ r → b ≡ a → o ≡ route_at q n b → o ≡ e → route_at r n a ≡ e
route_here q r n a b o e plan at is found = ap (λ (x : Plan). route_at x n a) (sym plan) ∙ (ap (route_at q n) (sym at) ∙ (sym is ∙ found))

pub less_by : (o : Option Route) (r : Route) (u w v : Purse) (cost : ℕ) → o ≡ Some r → MatchOption o (w ≡ u) (λ route. OneTicketLess route.memory cost u v) → OneTicketLess r.memory cost u v
less_by o r u w v cost is m = subst (λ (x : Option Route). MatchOption x (w ≡ u) (λ route. OneTicketLess route.memory cost u v)) is m

-- the same of what happened at the memory
pub called_by : (o : Option Route) (r : Route) (p : Plan) (x : TxnId) (at : ℕ) (b : PayloadView) (note back : View Content Plan) (v : PayloadView) → o ≡ Some r → IfSome o (λ route. IsCalled p route.memory (Debug x at (record b { address = route.offset })) note back v)
    → IsCalled p r.memory (debug_call x at b r) note back v
called_by o r p x at b note back v is m = subst (λ (z : Option Route). IfSome z (λ route. IsCalled p route.memory (Debug x at (record b { address = route.offset })) note back v)) is m

pub asked_there : (tokens : TableId) (p : Plan) (n : ℕ) (x : TxnId) (at : ℕ) (asked v : PayloadView) (note back : Held Content Plan) (old new : Purse) (r : Route) → route_at p n asked.address ≡ Some r
    → IsCalled p r.memory (debug_call x at asked r) note.knows back.knows v → HasSpent tokens r.memory (payload_cost asked) old new → HasAsked tokens p n x at asked v note back old new
asked_there tokens p n x at asked v note back old new r here called spent = record {
  called = λ q e. subst (λ (z : Route). IsCalled p z.memory (debug_call x at asked z) note.knows back.knows v) (one r q (sym here ∙ e)) called;
  spent = λ q e. subst (λ (z : Route). HasSpent tokens z.memory (payload_cost asked) old new) (one r q (sym here ∙ e)) spent;
  none = λ e. absurd (other (sym e ∙ here));
}
  where
    one : (a b : Route) → Some a ≡ Some b → a ≡ b
    one a b q = cc

    other : None ≡ Some r → ⊥
    other q = cc

place_of_left : (v : Purse) (o : ℕ) → 0 < left_of v o + bytes_of v o → HasPlace v o
place_of_left v o more = by (map.get v.held o) more
  where
    by : (q : Option Pocket) → 0 < left_in q + bytes_left_in q → IsSome q
    by None more = absurd (omega (arith, more))
    by (Some k) more = refl

module _ (tokens : TableId) (m cost : ℕ) (wallet purse w1 purse1 : Purse) (empty : purse ≡ empty_purse 1) (gives : Gives tokens m 1 cost wallet w1) (within : (o : ℕ) → HasPlace w1 o → HasPlace wallet o) (gets : Gets tokens m 1 cost purse purse1)
    (low : (o : ℕ) → HasPlace wallet o → o < wallet.places) (purse2 : Purse) (less : OneTicketLess m cost purse1 purse2) where
  none_left : (o : ℕ) → left_of purse2 o ≡ 0
  none_left o = elim (cases_eq o m) [
    | inl same ↦ (
        let l : left_of purse2 o ≡ left_of purse1 m - 1 = less.left o ∙ ap (λ (t : Bool). if t then left_of purse1 m - 1 else left_of purse1 o) (eq-eqb o m same) in
        let g = got_here tokens m 1 cost purse purse1 gets in
        let z = (nothing_left purse m 1 empty).0 in
        omega (arith, l, g, z)
        )
    | inr other ↦ (
        let l : left_of purse2 o ≡ left_of purse1 o = less.left o ∙ ap (λ (t : Bool). if t then left_of purse1 m - 1 else left_of purse1 o) (ne_eqb o m other) in
        l ∙ (got_else tokens m 1 cost purse purse1 gets o other ∙ (nothing_left purse o 1 empty).0)
        )
  ]

  no_bytes : (o : ℕ) → bytes_of purse2 o ≡ 0
  no_bytes o = elim (cases_eq o m) [
    | inl same ↦ (
        let l : bytes_of purse2 o ≡ bytes_of purse1 m - cost = less.bytes_left o ∙ ap (λ (t : Bool). if t then bytes_of purse1 m - cost else bytes_of purse1 o) (eq-eqb o m same) in
        let g = got_bytes_here tokens m 1 cost purse purse1 gets in
        let z = (nothing_left purse m 1 empty).1 in
        omega (arith, l, g, z)
        )
    | inr other ↦ (
        let l : bytes_of purse2 o ≡ bytes_of purse1 o = less.bytes_left o ∙ ap (λ (t : Bool). if t then bytes_of purse1 m - cost else bytes_of purse1 o) (ne_eqb o m other) in
        l ∙ (got_bytes_else tokens m 1 cost purse purse1 gets o other ∙ (nothing_left purse o 1 empty).1)
        )
  ]

  pub room_for_it : HasRoomForAll w1 purse2
  room_for_it = record {
    objects = range_with_len 0 w1.places;
    few = omega (arith, length-range_with_len 0 w1.places);
    own = λ o has. in_range w1.places o (subst (λ (n : ℕ). o < n) (sym gives.places) (low o (within o has)));
    others = λ o more. absurd (let l = none_left o in let b = no_bytes o in omega (arith, l, b, more));
  }

  -- what came back into the wallet is nothing
  module _ (w2 : Purse) (of : IsOf tokens w2) (places : w2.places ≡ w1.places) (left : (o : ℕ) → left_of w2 o ≡ left_of w1 o + left_of purse2 o) (bytes : (o : ℕ) → bytes_of w2 o ≡ bytes_of w1 o + bytes_of purse2 o)
      (full : (o : ℕ) → HasPlace w2 o → 0 < left_of w2 o + bytes_of w2 o) where
    same_left : (o : ℕ) → left_of w2 o ≡ left_of w1 o
    same_left o = let a = left o in let b = none_left o in omega (arith, a, b)

    same_bytes : (o : ℕ) → bytes_of w2 o ≡ bytes_of w1 o
    same_bytes o = let a = bytes o in let b = no_bytes o in omega (arith, a, b)

    pub spent : HasSpent tokens m cost wallet w2
    spent = record {
      gives = record {
        of = of;
        places = places ∙ gives.places;
        left = λ o. ap (λ (n : ℕ). if o == m then n + 1 else n) (same_left o) ∙ gives.left o;
        bytes_left = λ o. ap (λ (n : ℕ). if o == m then n + cost else n) (same_bytes o) ∙ gives.bytes_left o;
      };
      within = λ o has. within o (place_of_left w1 o (let f = full o has in let l = same_left o in let b = same_bytes o in omega (arith, f, l, b)));
    }
