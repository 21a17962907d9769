-- What was read, step by step.
use Rattle.std.proofs.Common.{◌≡◌, Bool, true, false, cond, ◌&&◌, Result, Ok, Err, refl}
use Rattle.tlm_types.specs.Reading.{◌>>=◌}

-- what is read after something was read
pub bind-Ok : {A B E : Type 0} (r : Result A E) (f : A → Result B E) (y : B) → r >>= f ≡ Ok y → (x : A) × (r ≡ Ok x) × (f x ≡ Ok y)
bind-Ok (Ok x) f y e = (x, refl, e)
bind-Ok (Err code) f y e = cc

-- what is read where a test passes
pub if-Ok : {A E : Type 0} (b : Bool) (r : Result A E) (code : E) (y : A) → cond b r (Err code) ≡ Ok y → (b ≡ true) × (r ≡ Ok y)
if-Ok true r code y e = (refl, e)
if-Ok false r code y e = cc

-- and where it fails
pub unless-Ok : {A E : Type 0} (b : Bool) (r : Result A E) (code : E) (y : A) → cond b (Err code) r ≡ Ok y → (b ≡ false) × (r ≡ Ok y)
unless-Ok true r code y e = cc
unless-Ok false r code y e = (refl, e)

pub and-true : (a b : Bool) → a && b ≡ true → (a ≡ true) × (b ≡ true)
and-true true b e = (refl, e)
and-true false b e = cc
