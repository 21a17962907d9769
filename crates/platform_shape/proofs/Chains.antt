-- Readings one after the other: what was read before is known, and the first that fails has the fault of all.
use Rattle.std.proofs.Common.{◌≡◌, ℕ, List, Result, Ok, Err, sym, ap, subst, ◌∙◌}
use Rattle.std.specs.Prelude.{IsErrAnd}
use Rattle.tlm_types.specs.Reading.{◌>>=◌}
use Rattle.platform_model.specs.declared.fault.PlatformFault.{PlatformFault}
use Rattle.platform_model.specs.declared.fault.PlatformFault.TheVariants as fault
use Rattle.platform_model.specs.Reading.{PlatformRefusal, Fails, Gives, rows_from}

-- what is returned early is the fault of a reading that fails
pub returned : {A : Type 0} (result : Result A PlatformFault) (f : PlatformFault) (read : Result A PlatformRefusal) → IsErrAnd result (λ e. e ≡ f) → Fails f read → Gives result read
returned (Ok x) f read early fails = absurd early
returned (Err e) f read early fails = subst (λ (e : PlatformFault). Fails e read) (sym early) fails

-- the first reading fails
pub fails_now : {A B : Type 0} (f : PlatformFault) (r : Result A PlatformRefusal) (next : A → Result B PlatformRefusal) → Fails f r → Fails f (r >>= next)
fails_now fault.Memory r next fails = tt
fails_now (fault.Refused code table key) r next fails = ap (λ r. r >>= next) fails

-- a later one fails
pub fails_later : {A B : Type 0} (f : PlatformFault) (r : Result A PlatformRefusal) (x : A) (next : A → Result B PlatformRefusal) → r ≡ Ok x → Fails f (next x) → Fails f (r >>= next)
fails_later {A} f r x next is fails = subst (λ (r : Result A PlatformRefusal). Fails f (r >>= next)) (sym is) fails

-- what is read first, and then the rest
pub reads_on : {A B : Type 0} (r : Result A PlatformRefusal) (x : A) (next : A → Result B PlatformRefusal) (all : Result B PlatformRefusal) → r ≡ Ok x → next x ≡ all → (r >>= next) ≡ all
reads_on r x next all is rest = ap (λ r. r >>= next) is ∙ rest

-- rows that were read of a list that is the same
pub rows_same : {A X : Type 0} (read : ℕ → X → Result A PlatformRefusal) (xs ys : List X) (rows : List A) → xs ≡ ys → rows_from read 0 xs ≡ Ok rows → rows_from read 0 ys ≡ Ok rows
rows_same {A} {X} read xs ys rows same is = subst (λ (l : List X). rows_from read 0 l ≡ Ok rows) same is

pub rows_fail_same : {A X : Type 0} (f : PlatformFault) (read : ℕ → X → Result A PlatformRefusal) (xs ys : List X) → xs ≡ ys → Fails f (rows_from read 0 xs) → Fails f (rows_from read 0 ys)
rows_fail_same {A} {X} f read xs ys same fails = subst (λ (l : List X). Fails f (rows_from read 0 l)) same fails
