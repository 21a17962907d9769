-- Reading with the first fault: what is read, or a refusal. A function that reads may run out of memory besides.
use Rattle.std.specs.Prelude.{◌≡◌, Option, Some, None, Result, Ok, Err}

-- what is read next, where something was read before
infixl 10 ◌>>=◌
abbrev pub ◌>>=◌ : {A B E : Type 0} → Result A E → (A → Result B E) → Result B E
(Ok x) >>= f = f x
(Err e) >>= f = Err e

-- a fault that says this refusal is the one of the reading; one that says none is want of memory
abbrev pub FailsAs : {A R : Type 0} → Option R → Result A R → Type 0
FailsAs None read = Unit {0}
FailsAs (Some r) read = read ≡ Err r

-- what a function returned is what reading gives: its value by a view, its fault by what it says
abbrev pub Returns : {X A F R : Type 0} → (F → Option R) → (X → A) → Result X F → Result A R → Type 0
Returns said view (Ok x) read = read ≡ Ok (view x)
Returns said view (Err f) read = FailsAs (said f) read
