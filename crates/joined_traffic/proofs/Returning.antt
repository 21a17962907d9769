-- What the places of a log tell, and what stays.
use Rattle.std.proofs.Common.{◌≡◌, ℕ, zero, suc, ◌<◌, ◌≤◌, Bool, List, [], ◌∷◌, ◌++◌, sym, ap, ◌∙◌, subst, arith, append_assoc}
use Rattle.std.specs.Prelude.{IsTrue}
use Rattle.std.proofs.lemmas.List.Elements.{filter-append}
use mathlib.Core.Option.{some, some-injective, some-ne-none}
use lib.ListN.{get_elem?}
use Rattle.view_lists.specs.Lists.{Has}
use Rattle.view_lists.proofs.Members.{has_left}
use Rattle.view_lists.proofs.Places.{at_once}
use Rattle.tlm_types.specs.declared.entry.Entry.{Entry}
use Rattle.tlm_types.specs.declared.entry.What.{What}
use Rattle.tlm_types.specs.declared.entry.What.TheVariants.{Granted}
use Rattle.tlm_model.specs.History.{entries_at, is_object}
use Rattle.good_history.specs.Grants.{closes, is_cut_by}
use Rattle.joined_traffic.specs.Parts.{Knows, KnowsClosing}
use Rattle.joined_traffic.specs.Returning.{PlacesTellReturn, ReturnStays}

-- a list, parted at a place
record Split {A : Type 0} (xs : List A) (place : ℕ) (y : A) : Type 0 where
  pub front : List A
  pub back : List A
  pub is : xs ≡ front ++ y ∷ back
  pub early : (x : A) → Has front x → (k : ℕ) × (k < place) × (get_elem? xs k ≡ some x)

split_at : {A : Type 0} (xs : List A) (place : ℕ) (y : A) → get_elem? xs place ≡ some y → Split xs place y
split_at [] place y at = absurd (some-ne-none y (sym at))
split_at (x ∷ xs) zero y at = record { front = []; back = xs; is = ap (λ z. z ∷ xs) (some-injective x y at); early = λ z has. absurd (some-ne-none z (sym has.1)) }
split_at {A} (x ∷ xs) (suc n) y at = let t = split_at xs n y at in record { front = x ∷ t.front; back = t.back; is = ap (λ l. x ∷ l) t.is; early = early_in t }
  where
    early_in : (t : Split xs n y) → (z : A) → Has (x ∷ t.front) z → (k : ℕ) × (k < suc n) × (get_elem? (x ∷ xs) k ≡ some z)
    early_in t z (zero, e) = (0, omega arith, e)
    early_in t z (suc j, e) = let r = t.early z (j, e) in (suc r.0, (let less = r.1 in omega (arith, less)), r.2)

pub places_tell_return : PlacesTellReturn
places_tell_return h limit y known =
    let s = split_at (entries_at y.object h) known.place y known.here in
    record {
      log = s.front;
      rest = s.back;
      log_is = s.is;
      closed = λ x has cut.
          let r = s.early x has in
          let t = known.each r.0 r.1 in
          let same : t.0 ≡ x = at_once (entries_at y.object h) r.0 t.0 x t.1 r.2 in
          subst (λ (z : Entry). KnowsClosing h limit z.what) same (t.2 (subst (λ (z : Entry). IsTrue (is_cut_by z y)) (sym same) cut));
    }

pub knows_later : (h m : List Entry) (limit more : ℕ) (Q : Entry → Bool) → limit ≤ more → Knows h limit Q → Knows (h ++ m) more Q
knows_later h m limit more Q less k = let early = k.2 in (k.0, has_left h m k.0 k.1, omega (arith, less, early), k.3)

closing_later : (h m : List Entry) (limit more : ℕ) (w : What) → limit ≤ more → KnowsClosing h limit w → KnowsClosing (h ++ m) more w
closing_later h m limit more (Granted gate f l k) less known = knows_later h m limit more (λ z. closes gate z.what) less known
closing_later h m limit more w less known = tt

pub return_stays : ReturnStays
return_stays h m limit more y less returned = record {
  log = returned.log;
  rest = returned.rest ++ entries_at y.object m;
  log_is = filter-append (λ (e : Entry). is_object y.object e.object) h m ∙ (ap (λ (l : List Entry). l ++ entries_at y.object m) returned.log_is ∙ append_assoc returned.log (y ∷ returned.rest) (entries_at y.object m));
  closed = λ x has cut. closing_later h m limit more x.what less (returned.closed x has cut);
}
