-- A grant covers just what it serves.
use Rattle.std.proofs.Common.{◌≡◌, ℕ, zero, suc, ◌+◌, ◌<◌, ◌≤◌, Bool, true, false, ◌&&◌, refl, sym, ap, ◌∙◌, arith}
use Rattle.std.specs.Prelude.{nat_le}
use Rattle.std.proofs.lemmas.Bool.{and_from, and_parts, eq-eqb, le-leb, leb-true}
use Rattle.tlm_types.specs.declared.words.ObjectNo.{ObjectNo}
use Rattle.tlm_types.specs.declared.entry.Access.{Access}
use Rattle.tlm_types.specs.declared.entry.What.{What}
use Rattle.tlm_types.specs.declared.entry.What.TheVariants.{Access as Accessed, Granted, Invalidated, Closed, Call, Take, Acquire, Release}
use Rattle.tlm_model.specs.declared.platform.Platform.{Platform}
use Rattle.tlm_model.specs.Plan.{Initiator}
use Rattle.tlm_model.specs.Route.{route_of}
use Rattle.good_history.specs.Grants.{all_inside, allows, is_inside, serves_by}
use Rattle.joined_traffic.specs.Finding.{CoversWhatServes, covers_by, leads_to}

module _ (p : Platform) (i : Initiator) (o : ObjectNo) (first last low high : ℕ) (led : (a : ℕ) → low ≤ a → a ≤ high → is_inside (route_of p i a) o first last ≡ true) (others : (a : ℕ) → is_inside (route_of p i a) o first last ≡ true → (low ≤ a) × (a ≤ high)) where
  inside_by : (a n : ℕ) → low ≤ a → a + n ≤ high + 1 → all_inside p i o first last a n ≡ true
  inside_by a zero from to = refl
  inside_by a (suc n) from to =
      and_from (is_inside (route_of p i a) o first last) (all_inside p i o first last (a + 1) n)
      (led a from (omega (arith, to)))
      (inside_by (a + 1) n (omega (arith, from)) (omega (arith, to)))

  ends_by : (a n : ℕ) → all_inside p i o first last a (suc n) ≡ true → a + n ≤ high
  ends_by a zero is = let t = others a (and_parts (is_inside (route_of p i a) o first last) true is).0 in let end = t.1 in omega (arith, end)
  ends_by a (suc n) is =
      let rest = ends_by (a + 1) n (and_parts (is_inside (route_of p i a) o first last) (all_inside p i o first last (a + 1) (suc n)) is).1 in
      omega (arith, rest)

  between : (a n : ℕ) → 0 < n → all_inside p i o first last a n ≡ true → (nat_le low a && nat_le (a + n) (high + 1)) ≡ true
  between a zero some is = absurd (omega (arith, some))
  between a (suc n) some is =
      let end = ends_by a n is in
      let begin = others a (and_parts (is_inside (route_of p i a) o first last) (all_inside p i o first last (a + 1) n) is).0 in
      let from = begin.0 in
      and_from (nat_le low a) (nat_le (a + suc n) (high + 1)) (le-leb low a from) (le-leb (a + suc n) (high + 1) (omega (arith, end)))

  inside_is : (a n : ℕ) → 0 < n → (nat_le low a && nat_le (a + n) (high + 1)) ≡ all_inside p i o first last a n
  inside_is a n some = same (nat_le low a && nat_le (a + n) (high + 1)) (all_inside p i o first last a n)
      (λ c. let t = and_parts (nat_le low a) (nat_le (a + n) (high + 1)) c in inside_by a n (leb-true low a t.0) (leb-true (a + n) (high + 1) t.1))
      (between a n some)
    where
      same : (b c : Bool) → (b ≡ true → c ≡ true) → (c ≡ true → b ≡ true) → b ≡ c
      same true c f g = sym (f refl)
      same false true f g = g refl
      same false false f g = refl

serves_is : (p : Platform) (i : Initiator) (o : ObjectNo) (w : What) (low high a : ℕ) (access : Access) → ((a : ℕ) → low ≤ a → a ≤ high → leads_to p i o w a ≡ true) → ((a : ℕ) → leads_to p i o w a ≡ true → (low ≤ a) × (a ≤ high)) → 0 < access.length → covers_by w low high a access ≡ serves_by p i o w a access
serves_is p i o (Granted gate first last kind) low high a access led others some =
    ap (λ (b : Bool). allows kind access.command && b) (inside_is p i o first last low high led others a access.length some)
serves_is p i o (Accessed way c s got) low high a access led others some = refl
serves_is p i o (Invalidated f l) low high a access led others some = refl
serves_is p i o (Closed gate) low high a access led others some = refl
serves_is p i o (Call c r) low high a access led others some = refl
serves_is p i o (Take s) low high a access led others some = refl
serves_is p i o (Acquire s) low high a access led others some = refl
serves_is p i o (Release s f) low high a access led others some = refl

pub covers_what_serves : CoversWhatServes
covers_what_serves p i x low high a access are mine some =
    serves_is p i x.object x.what low high a access are.led are.others some
    ∙ ap (λ (b : Bool). b && serves_by p i x.object x.what a access) (sym (eq-eqb x.txn.initiator i.number mine))
