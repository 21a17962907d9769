-- The keys of a table.
use Rattle.std.specs.Prelude.{◌≡◌, ℕ, Bool, not, List, [], ◌∷◌, filter, Option, Some, None, Result, Ok, Err}
use Rattle.std.specs.List.{list_any}
use Rattle.std.specs.Str.{bytes_eq}
use Rattle.std.specs.Ordering.{nat_cmp, match_ordering}
use Rattle.std.specs.Cmp.Lexicographic.{slice_cmp}
use Rattle.toml.specs.Data.{Data, Members, no_members, member, get_member}
use Rattle.platform_model.specs.declared.fault.PlatformCode.{PlatformCode}
use Rattle.platform_model.specs.declared.fault.PlatformCode.TheVariants.{UnknownKey, MissingKey}
use Rattle.platform_model.specs.declared.place.Place.{Place}
use Rattle.platform_model.specs.declared.fault.PlatformFault.{PlatformFault}
use Rattle.platform_model.specs.declared.fault.PlatformFault.TheVariants as fault
use Rattle.platform_file.specs.declared.kinds.KindFault.{KindFault}
use Rattle.platform_file.specs.declared.kinds.KindFault.TheVariants as kind
use Rattle.platform_model.specs.Reading.{PlatformRefusal, refusal, Tells}

-- the keys of a table
abbrev pub keys_of : Members → List (List ℕ)
keys_of no_members = []
keys_of (member k d ms) = k ∷ keys_of ms

-- the lesser of two keys in byte order
abbrev pub lesser_of : List ℕ → Option (List ℕ) → List ℕ
lesser_of k None = k
lesser_of k (Some l) = match_ordering (slice_cmp nat_cmp k l) k k l

-- the least of some keys in byte order
abbrev pub least_of : List (List ℕ) → Option (List ℕ)
least_of [] = None
least_of (k ∷ ks) = Some (lesser_of k (least_of ks))

-- a key is none of these
abbrev pub is_unknown : List (List ℕ) → List ℕ → Bool
is_unknown keys k = not (list_any (λ x. bytes_eq x k) keys)

-- the refusal of an unknown key, if there is one
abbrev pub refused_key : Place → Option (List ℕ) → Result (Unit {0}) PlatformRefusal
refused_key at None = Ok tt
refused_key at (Some k) = Err (refusal UnknownKey at k)

-- that a table has no key but these: the refusal names the least unknown one
abbrev pub known_keys : List (List ℕ) → Place → Members → Result (Unit {0}) PlatformRefusal
known_keys keys at t = refused_key at (least_of (filter (is_unknown keys) (keys_of t)))

-- a code at a table and a key
abbrev pub placed_at : {A : Type 0} → Place → List ℕ → Result A PlatformCode → Result A PlatformRefusal
placed_at at key (Ok x) = Ok x
placed_at at key (Err code) = Err (refusal code at key)

-- a value that has to be there
abbrev pub required_value : {A : Type 0} → (Data → Result A PlatformCode) → Place → List ℕ → Option Data → Result A PlatformRefusal
required_value kind at key None = Err (refusal MissingKey at key)
required_value kind at key (Some d) = placed_at at key (kind d)

-- the value of a key that has to be there
abbrev pub required_key : {A : Type 0} → (Data → Result A PlatformCode) → Place → List ℕ → Members → Result A PlatformRefusal
required_key kind at key t = required_value kind at key (get_member key t)

-- a value with a default
abbrev pub optional_value : {A : Type 0} → (Data → Result A PlatformCode) → A → Place → List ℕ → Option Data → Result A PlatformRefusal
optional_value kind default at key None = Ok default
optional_value kind default at key (Some d) = placed_at at key (kind d)

-- the value of a key that may be left out
abbrev pub optional_key : {A : Type 0} → (Data → Result A PlatformCode) → A → Place → List ℕ → Members → Result A PlatformRefusal
optional_key kind default at key t = optional_value kind default at key (get_member key t)

-- a fault tells what is wrong with a key's value, unless memory ran out on the way
abbrev pub TellsKindFault : KindFault → Place → List ℕ → PlatformFault → Type 0
TellsKindFault kind.Memory at key f = f ≡ fault.Memory
TellsKindFault (kind.Code code) at key f = Tells f (refusal code at key)
