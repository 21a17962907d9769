-- Rows that are copied.
use Rattle.std.proofs.Common.{◌≡◌, ℕ, ◌+◌, List, [], ◌∷◌, Result, Ok, Err, refl, sym, ◌∙◌}
use Rattle.platform_model.specs.declared.fault.PlatformFault.{PlatformFault}
use Rattle.platform_model.specs.declared.fault.PlatformFault.TheVariants as fault
use Rattle.platform_model.specs.Reading.{PlatformRefusal, Fails, rows_from}

-- rows that are read as they are
pub rows_from-itself : {A : Type 0} (i : ℕ) (xs : List A) → rows_from (λ _ (x : A). Ok x) i xs ≡ Ok xs
unfolding rows_from
rows_from-itself i [] = refl
rows_from-itself i (x ∷ xs) = rw (rows_from-itself (i + 1) xs) refl

-- the copies of rows are the rows
pub copied_rows : {A : Type 0} (xs ys rows : List A) → rows_from (λ _ (x : A). Ok x) 0 xs ≡ Ok ys → xs ≡ rows → ys ≡ rows
copied_rows {A} xs ys rows h same =
    let e : ◌≡◌ {A = Result (List A) PlatformRefusal} (Ok xs) (Ok ys) = sym (rows_from-itself 0 xs) ∙ h in
    cc

-- copying fails by want of memory alone
pub copies_fail : {A B : Type 0} (f : PlatformFault) (xs : List A) (x : B) → Fails f (rows_from (λ _ (x : A). Ok x) 0 xs) → Fails f (let read : Result B PlatformRefusal = Ok x in read)
copies_fail fault.Memory xs x h = tt
copies_fail {A} (fault.Refused code table key) xs x h =
    let e : ◌≡◌ {A = Result (List A) PlatformRefusal} (Ok xs) (Err (record { code = code; table = table; key = key })) = sym (rows_from-itself 0 xs) ∙ h in
    cc
