-- Tickets that move hop by hop.
use Rattle.std.proofs.Common.{◌≡◌, ◌⊎◌, ℕ, zero, suc, ◌+◌, ◌<◌, ◌≤◌, ◌==◌, Bool, true, false, if◌then◌else◌, List, [], ◌∷◌, length, Option, Some, None, refl, sym, ap, ◌∙◌, subst, inl, inr, arith}
use Rattle.std.specs.Prelude.{slice_get}
use mathlib.Core.Option.{some}
use Rattle.std.proofs.lemmas.Bool.{eq-eqb, ne_eqb}
use Rattle.atomic_table.specs.Seated.{TableId}
use Rattle.view_lists.specs.Lists.{Has}
use Rattle.token_book.specs.Purse.{HasPlace, HasRoom, IsOf, Purse, bytes_of, empty_purse, left_of}
use Rattle.token_book.proofs.Rooms.{place-empty, room_within}
use Rattle.tlm_model.specs.Plan.{Plan}
use Rattle.route_plan.specs.Plans.{walk_at}
use Rattle.port_moves.specs.Stocks.{HasMoved, hops_at}
use Rattle.port_moves.specs.Wallets.{Gets, Gives}

-- at its object, and elsewhere
pub gave_here : (t : TableId) (object n b : ℕ) (v w : Purse) → Gives t object n b v w → left_of w object + n ≡ left_of v object
gave_here t object n b v w g = sym (ap (λ (c : Bool). if c then left_of w object + n else left_of w object) (eq-eqb object object refl)) ∙ g.left object

pub gave_else : (t : TableId) (object n b : ℕ) (v w : Purse) → Gives t object n b v w → (o : ℕ) → (o ≡ object → ⊥) → left_of w o ≡ left_of v o
gave_else t object n b v w g o other = sym (ap (λ (c : Bool). if c then left_of w o + n else left_of w o) (ne_eqb o object other)) ∙ g.left o

pub gave_bytes_here : (t : TableId) (object n b : ℕ) (v w : Purse) → Gives t object n b v w → bytes_of w object + b ≡ bytes_of v object
gave_bytes_here t object n b v w g = sym (ap (λ (c : Bool). if c then bytes_of w object + b else bytes_of w object) (eq-eqb object object refl)) ∙ g.bytes_left object

pub gave_bytes_else : (t : TableId) (object n b : ℕ) (v w : Purse) → Gives t object n b v w → (o : ℕ) → (o ≡ object → ⊥) → bytes_of w o ≡ bytes_of v o
gave_bytes_else t object n b v w g o other = sym (ap (λ (c : Bool). if c then bytes_of w o + b else bytes_of w o) (ne_eqb o object other)) ∙ g.bytes_left o

pub gave_bytes : (t : TableId) (object n : ℕ) (v w : Purse) → Gives t object n 0 v w → (o : ℕ) → bytes_of w o ≡ bytes_of v o
gave_bytes t object n v w g o = same (o == object) (bytes_of w o) (bytes_of v o) (g.bytes_left o)
  where
    same : (b : Bool) (m k : ℕ) → (if b then m + 0 else m) ≡ k → m ≡ k
    same true m k e = omega (arith, e)
    same false m k e = e

pub got_here : (t : TableId) (object n b : ℕ) (v w : Purse) → Gets t object n b v w → left_of w object ≡ left_of v object + n
got_here t object n b v w g = g.left object ∙ ap (λ (c : Bool). if c then left_of v object + n else left_of v object) (eq-eqb object object refl)

pub got_else : (t : TableId) (object n b : ℕ) (v w : Purse) → Gets t object n b v w → (o : ℕ) → (o ≡ object → ⊥) → left_of w o ≡ left_of v o
got_else t object n b v w g o other = g.left o ∙ ap (λ (c : Bool). if c then left_of v o + n else left_of v o) (ne_eqb o object other)

pub got_bytes_here : (t : TableId) (object n b : ℕ) (v w : Purse) → Gets t object n b v w → bytes_of w object ≡ bytes_of v object + b
got_bytes_here t object n b v w g = g.bytes_got object ∙ ap (λ (c : Bool). if c then bytes_of v object + b else bytes_of v object) (eq-eqb object object refl)

pub got_bytes_else : (t : TableId) (object n b : ℕ) (v w : Purse) → Gets t object n b v w → (o : ℕ) → (o ≡ object → ⊥) → bytes_of w o ≡ bytes_of v o
got_bytes_else t object n b v w g o other = g.bytes_got o ∙ ap (λ (c : Bool). if c then bytes_of v o + b else bytes_of v o) (ne_eqb o object other)

pub got_bytes : (t : TableId) (object n : ℕ) (v w : Purse) → Gets t object n 0 v w → (o : ℕ) → bytes_of w o ≡ bytes_of v o
got_bytes t object n v w g o = g.bytes_got o ∙ same (o == object) (bytes_of v o)
  where
    same : (b : Bool) (m : ℕ) → (if b then m + 0 else m) ≡ m
    same true m = omega arith
    same false m = refl

less_or_same : (j k : ℕ) → j < k + 1 → (j < k) ⊎ (j ≡ k)
less_or_same j k l = grind arith

module _ (tokens : TableId) (hop : ℕ → ℕ) (n k : ℕ) (below : k < n) (apart : (i j : ℕ) → i < n → j < n → hop i ≡ hop j → i ≡ j) (u v from to : Purse) (m : HasMoved tokens hop k u v from to) where
  fresh : (j : ℕ) → j < k → hop k ≡ hop j → ⊥
  fresh j l e = let q : k ≡ j = apart k j below (omega (arith, l, below)) e in omega (arith, q, l)

  -- the next hop has what it had, and room
  pub enough_next : 4 ≤ left_of u (hop k) → 4 ≤ left_of from (hop k)
  enough_next few = let q = m.from_others (hop k) fresh in omega (arith, q, few)

  pub moved_next : (f t : Purse) → Gives tokens (hop k) 4 0 from f → Gets tokens (hop k) 4 0 to t → ((o : ℕ) → HasPlace f o → HasPlace from o) → ((o : ℕ) → HasPlace t o → HasPlace to o ⊎ (o ≡ hop k)) → HasMoved tokens hop (k + 1) u v f t
  moved_next f t gives gets from_in to_in = record {
    of_from = gives.of;
    of_to = gets.of;
    from_places = gives.places ∙ m.from_places;
    to_places = gets.places ∙ m.to_places;
    given = λ j l. elim (less_or_same j k l) [
      | inl less ↦ (let a = gave_else tokens (hop k) 4 0 from f gives (hop j) (λ e. fresh j less (sym e)) in let b = m.given j less in omega (arith, a, b))
      | inr same ↦ subst (λ (i : ℕ). left_of f (hop i) + 4 ≡ left_of u (hop i)) (sym same) (gave_here tokens (hop k) 4 0 from f gives ∙ m.from_others (hop k) fresh)
    ];
    got = λ j l. elim (less_or_same j k l) [
      | inl less ↦ (let a = got_else tokens (hop k) 4 0 to t gets (hop j) (λ e. fresh j less (sym e)) in let b = m.got j less in omega (arith, a, b))
      | inr same ↦ subst (λ (i : ℕ). left_of t (hop i) ≡ left_of v (hop i) + 4) (sym same) (let a = got_here tokens (hop k) 4 0 to t gets in let b = m.to_others (hop k) fresh in omega (arith, a, b))
    ];
    from_others = λ o none. gave_else tokens (hop k) 4 0 from f gives o (none k (omega arith)) ∙ m.from_others o (λ j l. none j (omega (arith, l)));
    to_others = λ o none. got_else tokens (hop k) 4 0 to t gets o (none k (omega arith)) ∙ m.to_others o (λ j l. none j (omega (arith, l)));
    from_bytes = λ o. gave_bytes tokens (hop k) 4 from f gives o ∙ m.from_bytes o;
    to_bytes = λ o. got_bytes tokens (hop k) 4 to t gets o ∙ m.to_bytes o;
    from_in = λ o has. m.from_in o (from_in o has);
    to_in = λ o has. elim (to_in o has) [
      | inl there ↦ (elim (m.to_in o there) [ inl old ↦ inl old | inr new ↦ inr (new.0, (let l = new.1 in omega (arith, l)), new.2) ])
      | inr same ↦ inr (k, omega arith, same)
    ];
  }

-- nothing has moved
pub moved_none : (tokens : TableId) (hop : ℕ → ℕ) (u v : Purse) → IsOf tokens u → IsOf tokens v → HasMoved tokens hop 0 u v u v
moved_none tokens hop u v of_u of_v = record {
  of_from = of_u;
  of_to = of_v;
  from_places = refl;
  to_places = refl;
  given = λ j l. absurd (omega (arith, l));
  got = λ j l. absurd (omega (arith, l));
  from_others = λ o none. refl;
  to_others = λ o none. refl;
  from_bytes = λ o. refl;
  to_bytes = λ o. refl;
  from_in = λ o has. has;
  to_in = λ o has. inl has;
}

-- the first k hops' places
abbrev pub places_up : (ℕ → ℕ) → ℕ → List ℕ
places_up hop zero = []
places_up hop (suc k) = hop k ∷ places_up hop k

pub places_count : (hop : ℕ → ℕ) (k : ℕ) → length (places_up hop k) ≡ k
places_count hop zero = refl
places_count hop (suc k) = let r = places_count hop k in omega (arith, r)

pub has_up : (hop : ℕ → ℕ) (k j : ℕ) → j < k → Has (places_up hop k) (hop j)
has_up hop zero j l = absurd (omega (arith, l))
has_up hop (suc k) j l = elim (less_or_same j k (omega (arith, l))) [
  | inl less ↦ (let h = has_up hop k j less in (suc h.0, h.1))
  | inr same ↦ (0, ap (λ (i : ℕ). some (hop i)) (sym same))
]

-- one object more has room
pub room_more : (w : Purse) (l : List ℕ) (o : ℕ) → length l < w.places → ((q : ℕ) → HasPlace w q → Has l q) → HasRoom w o
room_more w l o few within = room_within w (o ∷ l) (omega (arith, few)) (λ q has. (let h = within q has in (suc h.0, h.1))) o (0, refl)

-- where nothing was there before, only those that came have a place
pub among_moved : (tokens : TableId) (hop : ℕ → ℕ) (k : ℕ) (u v from to : Purse) → HasMoved tokens hop k u v from to → v ≡ empty_purse 12 → (q : ℕ) → HasPlace to q → Has (places_up hop k) q
among_moved tokens hop k u v from to m none q has = elim (m.to_in q has) [
  | inl old ↦ absurd (place-empty 12 q (subst (λ (x : Purse). HasPlace x q) none old))
  | inr new ↦ subst (Has (places_up hop k)) (sym new.2) (has_up hop k new.0 new.1)
]

pub room_for_hop : (tokens : TableId) (hop : ℕ → ℕ) (n k : ℕ) → k < n → n ≤ 9 → (u v from to : Purse) → HasMoved tokens hop k u v from to → v ≡ empty_purse 12 → HasRoom to (hop k)
room_for_hop tokens hop n k below few u v from to m none =
    let c = places_count hop k in
    let p : to.places ≡ 12 = m.to_places ∙ ap (λ (x : Purse). x.places) none in
    room_more to (places_up hop k) (hop k) (omega (arith, c, p, below, few)) (among_moved tokens hop k u v from to m none)

pub none_past : (xs : List ℕ) (k : ℕ) → slice_get xs k ≡ None → length xs ≤ k
none_past [] k e = omega arith
none_past (x ∷ xs) zero e = cc
none_past (x ∷ xs) (suc k) e = let r = none_past xs k e in omega (arith, r)

-- the hop that a plan tells
pub found_at : (p q w : Plan) (n a k h : ℕ) (o : Option ℕ) → p ≡ q → q ≡ w → o ≡ slice_get (walk_at p n a).hops k → o ≡ Some h → slice_get (hops_at w n a) k ≡ Some h
found_at p q w n a k h o first second told is = ap (λ (r : Plan). slice_get (walk_at r n a).hops k) (sym (first ∙ second)) ∙ (sym told ∙ is)

pub none_at : (p q w : Plan) (n a k : ℕ) (o : Option ℕ) → p ≡ q → q ≡ w → o ≡ slice_get (walk_at p n a).hops k → o ≡ None → length (hops_at w n a) ≤ k
none_at p q w n a k o first second told is = none_past (hops_at w n a) k (ap (λ (r : Plan). slice_get (walk_at r n a).hops k) (sym (first ∙ second)) ∙ (sym told ∙ is))

pub few_at : (p q w : Plan) (n a : ℕ) → p ≡ q → q ≡ w → length (walk_at p n a).hops ≤ 9 → length (hops_at w n a) ≤ 9
few_at p q w n a first second few = subst (λ (r : Plan). length (walk_at r n a).hops ≤ 9) (first ∙ second) few

pub gives_at : (t u : TableId) (o k : ℕ) (v w : Purse) → t ≡ u → o ≡ k → Gives t o 4 0 v w → Gives u k 4 0 v w
gives_at t u o k v w q e g = subst (λ (x : TableId). Gives x k 4 0 v w) q (subst (λ (n : ℕ). Gives t n 4 0 v w) e g)

pub gets_at : (t u : TableId) (o k : ℕ) (v w : Purse) → t ≡ u → o ≡ k → Gets t o 4 0 v w → Gets u k 4 0 v w
gets_at t u o k v w q e g = subst (λ (x : TableId). Gets x k 4 0 v w) q (subst (λ (n : ℕ). Gets t n 4 0 v w) e g)
