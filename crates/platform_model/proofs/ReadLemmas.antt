-- What is known of a reading that gave a value.
use Rattle.std.proofs.Common.{◌≡◌, ℕ, ◌+◌, Bool, true, false, List, [], ◌∷◌, length, Result, Ok, Err, refl, sym, ap, arith}
use Rattle.std.specs.Prelude.{All, if◌then◌else◌}
use Rattle.std.proofs.lemmas.List.Elements.{All-nil, All-cons, All-same}
use Rattle.tlm_types.specs.Reading.{◌>>=◌}
use Rattle.platform_model.specs.Reading.{PlatformRefusal, rows_from}

pub no_ok : {A E : Type 0} (e : E) (x : A) → ◌≡◌ {A = Result A E} (Err e) (Ok x) → ⊥
no_ok e x h = cc

pub ok_same : {A E : Type 0} (x y : A) → ◌≡◌ {A = Result A E} (Ok x) (Ok y) → x ≡ y
ok_same x y h = cc

-- what was read first, and then what was read next
pub bind_ok : {A B C : Type 0} (r : Result A PlatformRefusal) (f : A → Result B PlatformRefusal) (x : B) → (r >>= f) ≡ Ok x → ((y : A) → r ≡ Ok y → f y ≡ Ok x → C) → C
bind_ok (Ok y) f x h next = next y refl h
bind_ok (Err e) f x h next = absurd (no_ok e x h)

pub if_ok : {A E : Type 0} (b : Bool) (x : A) (e : E) (y : A) → ◌≡◌ {A = Result A E} (if b then Ok x else Err e) (Ok y) → (b ≡ true) × (x ≡ y)
if_ok true x e y h = (refl, ok_same x y h)
if_ok false x e y h = absurd (no_ok e y h)

pub unless_ok : {A E : Type 0} (b : Bool) (e : E) (r : Result A E) (y : A) → (if b then Err e else r) ≡ Ok y → (b ≡ false) × (r ≡ Ok y)
unless_ok true e r y h = absurd (no_ok e y h)
unless_ok false e r y h = (refl, h)

-- what holds of each row that is read
pub rows_all : {A X : Type 0} (P : A → Type 0) (read : ℕ → X → Result A PlatformRefusal) → ((i : ℕ) (x : X) (a : A) → read i x ≡ Ok a → P a) → (i : ℕ) (xs : List X) (rows : List A) → rows_from read i xs ≡ Ok rows → All P rows
unfolding rows_from
rows_all P read each i [] rows h = All-same P rows [] (sym (ok_same _ _ h)) (All-nil P)
rows_all P read each i (x ∷ xs) rows h =
    bind_ok _ _ _ h (λ a first h1. bind_ok _ _ _ h1 (λ more rest h2. All-same P rows (a ∷ more) (sym (ok_same _ _ h2)) (All-cons P a more (each i x a first) (rows_all P read each (i + 1) xs more rest))))

pub rows_count : {A X : Type 0} (read : ℕ → X → Result A PlatformRefusal) (i : ℕ) (xs : List X) (rows : List A) → rows_from read i xs ≡ Ok rows → length rows ≡ length xs
unfolding rows_from
rows_count read i [] rows h = ap length (sym (ok_same _ _ h))
rows_count {A} read i (x ∷ xs) rows h =
    bind_ok (read i x) (λ row. rows_from read (i + 1) xs >>= λ rows. Ok (row ∷ rows)) rows h (λ a first h1.
    bind_ok (rows_from read (i + 1) xs) (λ rows. Ok (a ∷ rows)) rows h1 (λ more rest h2.
    let whole : List A = a ∷ more in
    let same : length whole ≡ length rows = ap length (ok_same whole rows h2) in
    let count : length more ≡ length xs = rows_count read (i + 1) xs more rest in
    omega arith))

-- each row has passed a test
pub rows_passed : {X : Type 0} (P : X → Type 0) (test : ℕ → X → Result (Unit {0}) PlatformRefusal) → ((i : ℕ) (x : X) → test i x ≡ Ok tt → P x) → (i : ℕ) (xs : List X) (done : List (Unit {0})) → rows_from test i xs ≡ Ok done → All P xs
unfolding rows_from
rows_passed P test each i [] done h = All-nil P
rows_passed P test each i (x ∷ xs) done h =
    bind_ok _ _ _ h (λ a first h1. bind_ok _ _ _ h1 (λ more rest h2. All-cons P x xs (each i x first) (rows_passed P test each (i + 1) xs more rest)))
