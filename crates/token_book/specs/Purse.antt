-- What contracts see of a wallet, and what the calls make of it.
use Rattle.std.specs.Prelude.{◌≡◌, ℕ, ◌+◌, ◌<◌, ◌≤◌, ◌==◌, ◌⊎◌, List, [], ◌∷◌, length, Vec, vec_len, vec_capacity, IsSome, Option, Some, None, if◌then◌else◌, unwrap_or, refl}
use Rattle.std.specs.declared.alloc.Global.{Global}
use Rattle.std.specs.Ordering.{nat_cmp}
use Rattle.std.specs.FinMap as map
use Rattle.std.specs.FinMap.{FinMap}
use Rattle.std.specs.Coded.{Coded, code_by, coded×, coded_ℕ}
use Rattle.atomic_table.specs.Seated.{TableId}
use Rattle.view_lists.specs.Lists.{Has}
use Rattle.token_book.specs.Account.{Slip}
use Rattle.token_book.specs.Pocket.{Pocket, pocket_code, no_pocket, with_pocket_in, with_token, without_rights, without_ticket}

-- how many places a wallet has, and what it holds of each object that has one
pub record Purse : Type 0 where
  pub places : ℕ
  pub held : FinMap nat_cmp Pocket

-- the code by which proofs tell wallets apart
abbrev pub purse_code : Coded Purse
purse_code = code_by (ℕ × FinMap nat_cmp Pocket) (coded× coded_ℕ (map.code coded_ℕ pocket_code)) (λ w. (w.places, w.held)) (λ p. record { places = p.0; held = p.1 }) (λ _. refl)

-- a wallet with so many places and nothing in it
abbrev pub empty_purse : ℕ → Purse
empty_purse places = record { places = places; held = map.empty }

-- the tickets of a pocket, if there is one
abbrev pub left_in : Option Pocket → ℕ
left_in None = 0
left_in (Some p) = p.left

-- the bytes of a pocket, if there is one
abbrev pub bytes_left_in : Option Pocket → ℕ
bytes_left_in None = 0
bytes_left_in (Some p) = p.bytes

-- how many tickets of an object a wallet holds
abbrev pub left_of : Purse → ℕ → ℕ
left_of w object = left_in (map.get w.held object)

-- the bytes of an object that a wallet holds
abbrev pub bytes_of : Purse → ℕ → ℕ
bytes_of w object = bytes_left_in (map.get w.held object)

-- the object has a place in the wallet
abbrev pub HasPlace : Purse → ℕ → Type 0
HasPlace w object = IsSome (map.get w.held object)

-- the object has a place, or a place is free
abbrev pub HasRoom : Purse → ℕ → Type 0
HasRoom w object = HasPlace w object ⊎ (map.len w.held < w.places)

-- all that the wallet holds is of this table
abbrev pub IsOf : TableId → Purse → Type 0
IsOf table w = (object : ℕ) (p : Pocket) → map.get w.held object ≡ Some p → p.table ≡ table

-- the wallet with this pocket of an object, which has a place only while the pocket isn't empty
abbrev pub with_pocket : Purse → ℕ → Pocket → Purse
with_pocket w object p = record { places = w.places; held = if p.left + p.bytes == 0 then map.remove w.held object else map.insert w.held object p }

-- the pocket of an object, or an empty one
abbrev pub pocket_of : TableId → Purse → ℕ → Pocket
pocket_of table w object = unwrap_or (map.get w.held object) (no_pocket table)

-- the wallet after a ticket of an object for so many bytes was taken out
abbrev pub pulled : TableId → Purse → ℕ → ℕ → Purse
pulled table w object bytes = with_pocket w object (without_ticket bytes (pocket_of table w object))

-- the wallet after so many tickets of an object and so many bytes of it were taken out at once
abbrev pub pulled_rights : TableId → Purse → ℕ → ℕ → ℕ → Purse
pulled_rights table w object tickets bytes = with_pocket w object (without_rights tickets bytes (pocket_of table w object))

-- the wallet after a token was put in
abbrev pub put_in : Purse → Slip → Purse
put_in w t = with_pocket w t.owner (with_token t (pocket_of t.table w t.owner))

-- the wallet with what another pocket of an object has
abbrev pub with_more : TableId → Purse → ℕ → Pocket → Purse
with_more table w object p = with_pocket w object (with_pocket_in (pocket_of table w object) p)

-- a wallet has room for all that it and another one hold: a list that is no longer than its places has each object of which one of
-- them holds something
pub record HasRoomForAll (w v : Purse) : Type 0 where
  pub objects : List ℕ
  pub few : length objects ≤ w.places
  pub own : (o : ℕ) → HasPlace w o → Has objects o
  pub others : (o : ℕ) → 0 < left_of v o + bytes_of v o → Has objects o

-- the wallet that a list of places stands for
abbrev pub purse : ℕ → List (ℕ × Pocket) → Purse
purse most es = record { places = most; held = map.from_entries es }

-- no object has two places
abbrev pub AreApart : List (ℕ × Pocket) → Type 0
AreApart [] = Unit {0}
AreApart (e ∷ es) = (map.find nat_cmp e.0 es ≡ None) × AreApart es

-- each place holds something
abbrev pub AreFull : List (ℕ × Pocket) → Type 0
AreFull [] = Unit {0}
AreFull (e ∷ es) = (0 < e.1.left + e.1.bytes) × AreFull es

-- the places of a wallet, which has room for all of them
pub record IsPurse (most : ℕ) (places : Vec (ℕ × Pocket) Global) : Type 0 where
  pub apart : AreApart places.items
  pub full : AreFull places.items
  pub few : vec_len places ≤ most
  pub room : most ≤ vec_capacity places
