-- No two names of a platform are the same.
use Rattle.std.proofs.Common.{◌≡◌, ◌≢◌, ℕ, zero, suc, ◌+◌, ◌<◌, Bool, true, false, List, [], ◌∷◌, ◌++◌, length, map, get_or, Option, Some, None, Result, Ok, refl, sym, ap, subst, ◌∙◌, arith, append_assoc, append-nil}
use Rattle.std.specs.Prelude.{if◌then◌else◌}
use Rattle.std.specs.List.{AllPairs}
use Rattle.std.specs.Str.{bytes_eq}
use Rattle.std.proofs.lemmas.Bool.{false≢true}
use Rattle.std.proofs.lemmas.List.{map-append}
use Rattle.std.proofs.lemmas.List.Quantifiers.{all_pairs_push}
use Rattle.std.proofs.lemmas.Slice.Eq.{bytes_eq-Decides}
use Rattle.tlm_model.specs.declared.platform.MemoryRow.{MemoryRow}
use Rattle.tlm_model.specs.declared.platform.Target.{Target}
use Rattle.platform_file.specs.declared.initiators.InitiatorKeys.{InitiatorKeys}
use Rattle.platform_file.specs.declared.routers.RouterKeys.{RouterKeys}
use Rattle.platform_file.specs.declared.top.PlatformKeys.{PlatformKeys}
use Rattle.platform_model.specs.Reading.{PlatformRefusal, rows_from}
use Rattle.platform_file.specs.Names.{Names, Bearer, find_name, named_after, with_name, with_names, initiator_bears, router_bears, memory_bears, names_of}
use Rattle.platform_model.proofs.ReadLemmas.{no_ok, ok_same, bind_ok}

names_seen : Names → List (List ℕ)
names_seen names = map (λ (n : List ℕ × Option Target). n.0) names

not_first : (same : Bool) (t : Option Target) (others : Option (Option Target)) → (if same then Some t else others) ≡ None → (same ≡ false) × (others ≡ None)
not_first true t others h = cc
not_first false t others h = (refl, h)

-- a name that isn't found differs from each
not_found : (name : List ℕ) (names : Names) → find_name name names ≡ None → (k : ℕ) (d : List ℕ) → k < length (names_seen names) → get_or (names_seen names) k d ≢ name
unfolding names_seen
not_found name [] h k d below = absurd (omega (arith, below))
not_found name (n ∷ ns) h zero d below =
    let p = not_first (bytes_eq name n.0) n.1 (find_name name ns) h in
    λ same. false≢true (sym p.0 ∙ (bytes_eq-Decides name n.0).1 (sym same))
not_found name (n ∷ ns) h (suc k) d below =
    let p = not_first (bytes_eq name n.0) n.1 (find_name name ns) h in
    not_found name ns p.1 k d (omega (arith, below))

was_new : (found : Option (Option Target)) (names next : Names) (b : Bearer) → named_after found names b ≡ Ok next → (found ≡ None) × (next ≡ names ++ (b.name, b.target) ∷ [])
was_new None names next b h = (refl, sym (ok_same _ _ h))
was_new (Some t) names next b h = absurd (no_ok _ next h)

seen_more : (names next : Names) (b : Bearer) → next ≡ names ++ (b.name, b.target) ∷ [] → names_seen next ≡ names_seen names ++ b.name ∷ []
unfolding names_seen
seen_more names next b h = ap names_seen h ∙ map-append (λ (n : List ℕ × Option Target). n.0) names ((b.name, b.target) ∷ [])

-- the names of so many rows come after those before them, and none is the same as another
record AreAdded (before added after : List (List ℕ)) : Type 0 where
  seen : after ≡ before ++ added
  own : AllPairs (λ x y. x ≢ y) after

names_added : {A : Type 0} (bears : ℕ → A → Bearer) (name : A → List ℕ) → ((i : ℕ) (x : A) → (bears i x).name ≡ name x) → (i : ℕ) (rows : List A) (names more : Names)
    → AllPairs (λ x y. x ≢ y) (names_seen names) → with_names bears i rows names ≡ Ok more → AreAdded (names_seen names) (map name rows) (names_seen more)
unfolding with_names
names_added bears name is i [] names more own h =
    let same : names_seen names ≡ names_seen more = ap names_seen (ok_same _ _ h) in
    record { seen = sym same ∙ sym (append-nil (names_seen names)); own = subst (AllPairs (λ x y. x ≢ y)) same own }
names_added bears name is i (x ∷ rows) names more own h =
    bind_ok (with_name names (bears i x)) _ _ h (λ next next_read h1.
    let p = was_new (find_name (bears i x).name names) names next (bears i x) next_read in
    let one : names_seen next ≡ names_seen names ++ (bears i x).name ∷ [] = seen_more names next (bears i x) p.1 in
    let apart = all_pairs_push (λ x y. x ≢ y) (names_seen names) (bears i x).name own (not_found (bears i x).name names p.0) in
    let rest = names_added bears name is (i + 1) rows next more (subst (AllPairs (λ x y. x ≢ y)) (sym one) apart) h1 in
    record {
      seen = rest.seen ∙ ap (λ l. l ++ map name rows) one ∙ append_assoc (names_seen names) ((bears i x).name ∷ []) (map name rows)
          ∙ ap (λ n. names_seen names ++ n ∷ map name rows) (is i x);
      own = rest.own;
    })

-- the names of keys in order
unfoldable pub key_names : PlatformKeys → List (List ℕ)
key_names k = map (λ (i : InitiatorKeys). i.name) k.initiators ++ map (λ (r : RouterKeys). r.name) k.routers ++ map (λ (m : MemoryRow). m.name) k.memories

no_names : AllPairs (λ (x y : List ℕ). x ≢ y) (names_seen [])
unfolding names_seen
no_names i j d below there = absurd (omega (arith, there))

pub own_key_names : (k : PlatformKeys) (names : Names) → names_of k ≡ Ok names → AllPairs (λ x y. x ≢ y) (key_names k)
unfolding names_of names_seen key_names
own_key_names k names h =
    bind_ok (with_names initiator_bears 0 k.initiators []) _ _ h (λ first first_read h1.
    bind_ok (with_names router_bears 0 k.routers first) _ _ h1 (λ second second_read third_read.
    let a = names_added initiator_bears (λ (i : InitiatorKeys). i.name) (λ i x. refl) 0 k.initiators [] first no_names first_read in
    let b = names_added router_bears (λ (r : RouterKeys). r.name) (λ i x. refl) 0 k.routers first second a.own second_read in
    let c = names_added memory_bears (λ (m : MemoryRow). m.name) (λ i x. refl) 0 k.memories second names b.own third_read in
    let all : names_seen names ≡ key_names k =
    c.seen ∙ ap (λ l. l ++ map (λ (m : MemoryRow). m.name) k.memories) (b.seen ∙ ap (λ l. l ++ map (λ (r : RouterKeys). r.name) k.routers) a.seen) in
    subst (AllPairs (λ x y. x ≢ y)) all c.own))

-- the names of rows are those of what each was made of
pub rows_named : {A X : Type 0} (f : A → List ℕ) (g : X → List ℕ) (read : ℕ → X → Result A PlatformRefusal) → ((i : ℕ) (x : X) (a : A) → read i x ≡ Ok a → f a ≡ g x)
    → (i : ℕ) (xs : List X) (rows : List A) → rows_from read i xs ≡ Ok rows → map f rows ≡ map g xs
unfolding rows_from
rows_named f g read each i [] rows h = ap (map f) (sym (ok_same _ _ h))
rows_named f g read each i (x ∷ xs) rows h =
    bind_ok (read i x) _ _ h (λ a first h1. bind_ok _ _ _ h1 (λ more rest h2.
    ap (map f) (sym (ok_same _ _ h2)) ∙ ap (λ n. n ∷ map f more) (each i x a first) ∙ ap (λ l. g x ∷ l) (rows_named f g read each (i + 1) xs more rest)))
