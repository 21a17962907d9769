-- What the name of a component is.
use Rattle.std.specs.Prelude.{ℕ, Bool, false, ◌&&◌, ◌||◌, ◌==◌, List, [], ◌∷◌, length, nat_le}
use Rattle.std.specs.List.{list_all}

-- a lower-case letter
abbrev pub is_lower : ℕ → Bool
is_lower c = nat_le 97 c && nat_le c 122

-- a lower-case letter, a digit or `_`
abbrev pub is_name_byte : ℕ → Bool
is_name_byte c = (is_lower c || (nat_le 48 c && nat_le c 57)) || c == 95

-- a lower-case letter followed by at most 15 lower-case letters, digits or `_`
abbrev pub is_name : List ℕ → Bool
is_name [] = false
is_name (c ∷ cs) = (is_lower c && nat_le (length cs) 15) && list_all is_name_byte cs
