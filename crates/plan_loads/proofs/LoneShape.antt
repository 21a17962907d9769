-- The built-in platform has a good shape.
use Rattle.std.proofs.Common.{◌≡◌, ◌≢◌, ℕ, zero, suc, ◌<◌, List, [], ◌∷◌, get_or, Ok, refl, sym, ap, ◌∙◌, arith, codes}
use Rattle.std.specs.List.{AllPairs}
use Rattle.platform_model.specs.Reading.{Fails, rows_from}
use Rattle.platform_model.specs.declared.fault.PlatformFault.{PlatformFault}
use Rattle.platform_model.specs.declared.fault.PlatformFault.TheVariants.{Refused, Memory}
use Rattle.platform_model.specs.Bounded.{IsBounded, IsBoundedInitiator, IsBoundedMemory}
use Rattle.platform_shape.specs.Shape.{checked_shape}
use Rattle.plan_loads.specs.BuiltIn.{cpu_row, ram_row, built_in_platform}
use Rattle.plan_loads.specs.Exits.{exit_of}
use Rattle.plan_loads.specs.declared.exit.Exit.TheVariants.{NoMemory}

pub built_in_is_shaped : (file : List ℕ) → checked_shape (built_in_platform file) ≡ Ok tt
unfolding checked_shape rows_from
built_in_is_shaped file = refl

-- so it is never refused
pub never_refused : (file : List ℕ) (fault : PlatformFault) → Fails fault (checked_shape (built_in_platform file)) → exit_of fault ≡ NoMemory
never_refused file (Refused code table key) fails = let wrong = sym (built_in_is_shaped file) ∙ fails in cc
never_refused file Memory fails = refl

all_of_one : {X : Type 0} (P : X → Type 0) (x : X) → P x → (k : ℕ) (d : X) → k < 1 → P (get_or (x ∷ []) k d)
all_of_one P x is zero d below = is
all_of_one P x is (suc k) d below = absurd (omega (arith, below))

own_two : {X : Type 0} (x y : X) → x ≢ y → AllPairs (λ a b. a ≢ b) (x ∷ y ∷ [])
own_two x y apart zero zero d lt below = absurd (omega (arith, lt))
own_two x y apart zero (suc zero) d lt below = apart
own_two x y apart zero (suc (suc j)) d lt below = absurd (omega (arith, below))
own_two x y apart (suc i) j d lt below = absurd (omega (arith, lt, below))

cpu_not_ram : codes "cpu" ≢ codes "ram"
cpu_not_ram e = let first : 99 ≡ 114 = ap (λ (name : List ℕ). get_or name 0 0) e in absurd (omega (arith, first))

pub built_in_is_bounded : (file : List ℕ) → IsBounded (built_in_platform file)
built_in_is_bounded file = record {
  quantum = omega arith;
  some_initiator = omega arith;
  initiator_count = omega arith;
  router_count = omega arith;
  some_memory = omega arith;
  memory_count = omega arith;
  initiators = all_of_one (IsBoundedInitiator (built_in_platform file)) (cpu_row file) (record { named = refl; bind = refl; some_slots = omega arith; slots = omega arith });
  routers = λ k d below. absurd (omega (arith, below));
  memories = all_of_one IsBoundedMemory ram_row (record {
    named = refl;
    some_bytes = omega arith;
    size = omega arith;
    latency = omega arith;
    access = refl;
    some_gates = omega arith;
    gates = omega arith;
    some_lanes = omega arith;
    lanes = omega arith;
  });
  bytes = omega arith;
  gates = omega arith;
  own_names = own_two (codes "cpu") (codes "ram") cpu_not_ram;
}
