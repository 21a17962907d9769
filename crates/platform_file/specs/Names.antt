-- The names of a platform, and what they lead to.
use Rattle.std.specs.Prelude.{ℕ, ◌+◌, List, [], ◌∷◌, ◌++◌, Option, Some, None, Result, Ok, Err, if◌then◌else◌, codes}
use Rattle.std.specs.Str.{bytes_eq}
use Rattle.platform_model.specs.declared.fault.PlatformCode.TheVariants.{NameTwice, UnknownTarget}
use Rattle.platform_model.specs.declared.place.Place.{Place}
use Rattle.platform_model.specs.declared.place.Place.TheVariants as place
use Rattle.tlm_model.specs.declared.platform.Target.{Target}
use Rattle.tlm_model.specs.declared.platform.Target.TheVariants as target
use Rattle.tlm_model.specs.declared.platform.MemoryRow.{MemoryRow}
use Rattle.platform_file.specs.declared.initiators.InitiatorKeys.{InitiatorKeys}
use Rattle.platform_file.specs.declared.routers.RouterKeys.{RouterKeys}
use Rattle.platform_file.specs.declared.top.PlatformKeys.{PlatformKeys}
use Rattle.platform_model.specs.Reading.{PlatformRefusal, refusal}
use Rattle.tlm_types.specs.Reading.{◌>>=◌}

-- names in order, each with what it leads to: nothing for an initiator
abbrev pub Names : Type 0
Names = List (List ℕ × Option Target)

-- what stands with a name, if it stands there
abbrev pub find_name : List ℕ → Names → Option (Option Target)
find_name name [] = None
find_name name (n ∷ ns) = if bytes_eq name n.0 then Some n.1 else find_name name ns

-- a row's table, its name and what the name leads to
pub record Bearer : Type 0 where
  pub place : Place
  pub name : List ℕ
  pub target : Option Target

-- names and a bearer, by what stood with its name before
abbrev pub named_after : Option (Option Target) → Names → Bearer → Result Names PlatformRefusal
named_after None names b = Ok (names ++ (b.name, b.target) ∷ [])
named_after (Some t) names b = Err (refusal NameTwice b.place (codes "name"))

-- one more name, which has to be new
abbrev pub with_name : Names → Bearer → Result Names PlatformRefusal
with_name names b = named_after (find_name b.name names) names b

-- the names of some rows, counted from a number, after those before them
unfoldable pub with_names : {A : Type 0} → (ℕ → A → Bearer) → ℕ → List A → Names → Result Names PlatformRefusal
with_names bears i [] names = Ok names
with_names bears i (r ∷ rs) names = with_name names (bears i r) >>= λ more. with_names bears (i + 1) rs more

-- an initiator's name leads to nothing
abbrev pub initiator_bears : ℕ → InitiatorKeys → Bearer
initiator_bears i r = record { place = place.Initiator i; name = r.name; target = None }

-- a router's name leads to it
abbrev pub router_bears : ℕ → RouterKeys → Bearer
router_bears i r = record { place = place.Router i; name = r.name; target = Some (target.Router i) }

-- a memory's name leads to it
abbrev pub memory_bears : ℕ → MemoryRow → Bearer
memory_bears i r = record { place = place.Memory i; name = r.name; target = Some (target.Memory i) }

-- the names of a platform, none of which stands twice
unfoldable pub names_of : PlatformKeys → Result Names PlatformRefusal
names_of p = do
  names ← with_names initiator_bears 0 p.initiators []
  names ← with_names router_bears 0 p.routers names
  with_names memory_bears 0 p.memories names

-- the target that was found, or the refusal
abbrev pub found_target : Place → List ℕ → Option (Option Target) → Result Target PlatformRefusal
found_target at key (Some (Some t)) = Ok t
found_target at key (Some None) = Err (refusal UnknownTarget at key)
found_target at key None = Err (refusal UnknownTarget at key)

-- what a name leads to
abbrev pub target_of : Names → Place → List ℕ → List ℕ → Result Target PlatformRefusal
target_of names at key name = found_target at key (find_name name names)
