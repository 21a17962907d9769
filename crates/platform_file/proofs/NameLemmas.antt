-- The map of names beside the names in order.
use Rattle.std.proofs.Common.{◌≡◌, ℕ, ◌+◌, ◌<◌, ◌≤◌, List, [], ◌∷◌, ◌++◌, length, drop, get_or, Option, Some, None, Result, Ok, Err, String, Global, string_bytes, codes, refl, sym, ap, ◌∙◌}
use Rattle.std.proofs.lemmas.List.{map-append, drop_more, drop_all}
use Rattle.std.specs.Map.{lookup}
use Rattle.std.specs.Str.{bytes_eq}
use Rattle.std.specs.String.{string_eq}
use Rattle.indexmap.specs.IndexMap.{insert_entry}
use Rattle.indexmap.proofs.MapLemmas.{insert_entry-absent, absent_from_lookup}
use Rattle.platform_model.specs.declared.fault.PlatformFault.{PlatformFault}
use Rattle.platform_model.specs.declared.fault.PlatformFault.TheVariants as fault
use Rattle.platform_model.specs.declared.fault.PlatformCode.TheVariants.{NameTwice}
use Rattle.platform_model.specs.declared.place.Place.{Place}
use Rattle.tlm_model.specs.declared.platform.Target.{Target}
use Rattle.platform_model.specs.Reading.{PlatformRefusal, refusal, Fails}
use Rattle.tlm_types.specs.Reading.{◌>>=◌}
use Rattle.platform_file.specs.Names.{Names, Bearer, find_name, with_name, with_names, named_after}
use Rattle.platform_file.specs.NamesView.{entries_view}

pub find_name-view : (k : String Global) (es : List (String Global × Option Target)) → find_name (string_bytes k) (entries_view es) ≡ lookup (string_eq k) es
find_name-view k [] = refl
find_name-view k (e ∷ es) = rw (find_name-view k es) refl

-- a new name goes to the end
pub name_added : (k : String Global) (t : Option Target) (at : Place) (name : List ℕ) (es es' : List (String Global × Option Target))
    → string_bytes k ≡ name → None ≡ lookup (string_eq k) es → es' ≡ insert_entry string_eq es k t
    → with_name (entries_view es) (record { place = at; name = name; target = t }) ≡ Ok (entries_view es')
name_added k t at name es es' same none made =
    let new : find_name name (entries_view es) ≡ None = rw (← same) (find_name-view k es ∙ sym none) in
    let last : es' ≡ es ++ (k, t) ∷ [] = made ∙ insert_entry-absent string_eq k t es (absent_from_lookup (string_eq k) es (sym none)) in
    let seen : entries_view es' ≡ entries_view es ++ (name, t) ∷ [] = ap entries_view last ∙ map-append _ es ((k, t) ∷ []) ∙ ap (λ x. entries_view es ++ (x, t) ∷ []) same in
    ap (λ o. named_after o (entries_view es) (record { place = at; name = name; target = t })) new ∙ ap Ok (sym seen)

-- a name that stood before is refused
pub name_stood : (k : String Global) (t old : Option Target) (at : Place) (name : List ℕ) (es : List (String Global × Option Target))
    → string_bytes k ≡ name → Some old ≡ lookup (string_eq k) es
    → with_name (entries_view es) (record { place = at; name = name; target = t }) ≡ Err (refusal NameTwice at (codes "name"))
name_stood k t old at name es same some =
    let stood : find_name name (entries_view es) ≡ Some old = rw (← same) (find_name-view k es ∙ sym some) in
    ap (λ o. named_after o (entries_view es) (record { place = at; name = name; target = t })) stood

-- a row's name was added
pub names_go_on : {A : Type 0} (bears : ℕ → A → Bearer) (i : ℕ) (rows : List A) (r : A) (b : Bearer) (old new : Names) (total : Result Names PlatformRefusal)
    → i < length rows → r ≡ get_or rows i r → b ≡ bears i r → with_name old b ≡ Ok new
    → with_names bears i (drop i rows) old ≡ total → with_names bears (i + 1) (drop (i + 1) rows) new ≡ total
unfolding with_names
names_go_on bears i rows r b old new total lt at bearer given so_far =
    let more : drop i rows ≡ r ∷ drop (i + 1) rows = drop_more rows i r lt ∙ ap (λ x. x ∷ drop (i + 1) rows) (sym at) in
    let here : with_name old (bears i r) ≡ Ok new = ap (with_name old) (sym bearer) ∙ given in
    let one : with_names bears i (drop i rows) old ≡ with_names bears (i + 1) (drop (i + 1) rows) new = ap (λ rs. with_names bears i rs old) more ∙ ap (λ x. x >>= λ more. with_names bears (i + 1) (drop (i + 1) rows) more) here in
    sym one ∙ so_far

-- a row's name was refused
pub names_end : {A : Type 0} (bears : ℕ → A → Bearer) (f : PlatformFault) (i : ℕ) (rows : List A) (r : A) (b : Bearer) (old : Names) (total : Result Names PlatformRefusal)
    → i < length rows → r ≡ get_or rows i r → b ≡ bears i r → Fails f (with_name old b)
    → with_names bears i (drop i rows) old ≡ total → Fails f total
unfolding with_names
names_end bears fault.Memory i rows r b old total lt at bearer given so_far = tt
names_end bears (fault.Refused code table key) i rows r b old total lt at bearer given so_far =
    let more : drop i rows ≡ r ∷ drop (i + 1) rows = drop_more rows i r lt ∙ ap (λ x. x ∷ drop (i + 1) rows) (sym at) in
    let here : with_name old (bears i r) ≡ Err (record { code = code; table = table; key = key }) = ap (with_name old) (sym bearer) ∙ given in
    let one : with_names bears i (drop i rows) old ≡ Err (record { code = code; table = table; key = key }) = ap (λ rs. with_names bears i rs old) more ∙ ap (λ x. x >>= λ more. with_names bears (i + 1) (drop (i + 1) rows) more) here in
    sym so_far ∙ one

-- all names were added
pub names_done : {A : Type 0} (bears : ℕ → A → Bearer) (i : ℕ) (rows : List A) (names : Names) (total : Result Names PlatformRefusal)
    → length rows ≤ i → with_names bears i (drop i rows) names ≡ total → total ≡ Ok names
unfolding with_names
names_done bears i rows names total le so_far = sym so_far ∙ ap (λ rs. with_names bears i rs names) (drop_all i rows le)

-- a bearer of these parts
pub bearer_is : (place : Place) (name : List ℕ) (target : Option Target) (b : Bearer) → place ≡ b.place → name ≡ b.name → target ≡ b.target
    → (let made : Bearer = record { place = place; name = name; target = target } in made ≡ b)
bearer_is place name target b p q r = rw (p, q, r)

-- what the map finds at a text
pub found_name : (name : List ℕ) (es : List (String Global × Option Target)) → lookup (λ k. bytes_eq name (string_bytes k)) es ≡ find_name name (entries_view es)
found_name name [] = refl
found_name name (e ∷ es) = rw (found_name name es) refl
