-- The names of hops by their ends.
use Rattle.std.proofs.Common.{◌≡◌, ℕ, ◌+◌, ◌<◌, zero, suc, length, List, [], ◌∷◌, ◌++◌, map, set, Option, Some, inl, inr, refl, ap, sym, ◌∙◌, arith}
use Rattle.std.specs.Prelude.{option_map, slice_get, unwrap_or}
use Rattle.std.specs.List.{enumerate_from, flat_map}
use Rattle.std.proofs.lemmas.List.{map-append}
use Rattle.std.proofs.lemmas.Option.{slice_get-map}
use Rattle.tlm_types.specs.declared.words.ObjectNo.{ObjectNo}
use Rattle.tlm_types.specs.declared.words.ObjectNo.TheVariants.{Memory as memory_object, Hop, Pool}
use Rattle.tlm_model.specs.declared.platform.InitiatorRow.{InitiatorRow}
use Rattle.tlm_model.specs.declared.platform.Platform.{Platform}
use Rattle.tlm_model.specs.declared.platform.RouterRow.{RouterRow}
use Rattle.tlm_model.specs.declared.platform.WindowRow.{WindowRow}
use Rattle.report_model.specs.Report.{hop_word, hop_words, name_of_initiator, name_of_router, object_word, target_name}
use Rattle.route_plan.specs.declared.ends.HopEnds.{HopEnds}
use Rattle.route_plan.specs.Routes.{binding_ends, ends_of, router_ends, window_ends}
use Rattle.run_outcome.proofs.ListLemmas.{at_push, at_set}
use Rattle.trace_print.specs.Hops.{ends_at, hop_word_by, hop_word_of, object_word_by, up_name, AreEach}

-- the rows from the n-th on are these
abbrev Continues : {X : Type 0} → List X → ℕ → List X → Type 0
Continues {X} all n rows = (k : ℕ) → slice_get all (n + k) ≡ slice_get rows k

continues-next : {X : Type 0} (all : List X) (n : ℕ) (x : X) (rows : List X) → Continues all n (x ∷ rows) → Continues all (n + 1) rows
continues-next all n x rows c k = let e : n + 1 + k ≡ n + suc k = omega arith in ap (λ (i : ℕ). slice_get all i) e ∙ c (suc k)

continues-first : {X : Type 0} (all : List X) (n : ℕ) (x : X) (rows : List X) → Continues all n (x ∷ rows) → slice_get all n ≡ Some x
continues-first all n x rows c = let e : n ≡ n + zero = omega arith in ap (λ (i : ℕ). slice_get all i) e ∙ c zero

bindings : (p : Platform) (n : ℕ) (rows : List InitiatorRow) → Continues p.initiators n rows →
    map (hop_word_of p) (map binding_ends (enumerate_from n rows)) ≡ map (λ (i : InitiatorRow). hop_word i.name (target_name p i.bind)) rows
bindings p n [] c = refl
bindings p n (row ∷ rows) c =
    let first = ap (λ (o : Option InitiatorRow). hop_word (name_of_initiator o) (target_name p row.bind)) (continues-first p.initiators n row rows c) in
    ap (λ (w : List ℕ). w ∷ map (hop_word_of p) (map binding_ends (enumerate_from (n + 1) rows))) first
    ∙ ap (λ (ws : List (List ℕ)). hop_word row.name (target_name p row.bind) ∷ ws) (bindings p (n + 1) rows (continues-next p.initiators n row rows c))

windows : (p : Platform) (r : ℕ) (row : RouterRow) (k : ℕ) (ws : List WindowRow) → slice_get p.routers r ≡ Some row →
    map (hop_word_of p) (map (window_ends r) (enumerate_from k ws)) ≡ map (λ (w : WindowRow). hop_word row.name (target_name p w.to)) ws
windows p r row k [] e = refl
windows p r row k (w ∷ ws) e =
    ap (λ (o : Option RouterRow). hop_word (name_of_router o) (target_name p w.to) ∷ map (hop_word_of p) (map (window_ends r) (enumerate_from (k + 1) ws))) e
    ∙ ap (λ (l : List (List ℕ)). hop_word row.name (target_name p w.to) ∷ l) (windows p r row (k + 1) ws e)

routers : (p : Platform) (n : ℕ) (rows : List RouterRow) → Continues p.routers n rows →
    map (hop_word_of p) (flat_map router_ends (enumerate_from n rows)) ≡ flat_map (λ (r : RouterRow). map (λ (w : WindowRow). hop_word r.name (target_name p w.to)) r.windows) rows
routers p n [] c = refl
routers p n (row ∷ rows) c =
    map-append (hop_word_of p) (router_ends (n, row)) (flat_map router_ends (enumerate_from (n + 1) rows))
    ∙ (ap (λ (l : List (List ℕ)). l ++ map (hop_word_of p) (flat_map router_ends (enumerate_from (n + 1) rows))) (windows p n row 0 row.windows (continues-first p.routers n row rows c))
    ∙ ap (λ (l : List (List ℕ)). map (λ (w : WindowRow). hop_word row.name (target_name p w.to)) row.windows ++ l) (routers p (n + 1) rows (continues-next p.routers n row rows c)))

start : {X : Type 0} (all : List X) → Continues all 0 all
start all k = let e : 0 + k ≡ k = omega arith in ap (λ (i : ℕ). slice_get all i) e

-- the words of the hops are those of their ends
pub words-of-ends : (p : Platform) → map (hop_word_of p) (ends_of p) ≡ hop_words p
unfolding ends_of
words-of-ends p =
    map-append (hop_word_of p) (map binding_ends (enumerate_from 0 p.initiators)) (flat_map router_ends (enumerate_from 0 p.routers))
    ∙ (ap (λ (l : List (List ℕ)). l ++ map (hop_word_of p) (flat_map router_ends (enumerate_from 0 p.routers))) (bindings p 0 p.initiators (start p.initiators))
    ∙ ap (λ (l : List (List ℕ)). map (λ (i : InitiatorRow). hop_word i.name (target_name p i.bind)) p.initiators ++ l) (routers p 0 p.routers (start p.routers)))

-- the word of the hop with these ends
pub hop-named : (p : Platform) (h : ℕ) (ends : HopEnds) → slice_get (ends_of p) h ≡ Some ends → slice_get (hop_words p) h ≡ Some (hop_word_of p ends)
hop-named p h ends there =
    ap (λ (l : List (List ℕ)). slice_get l h) (sym (words-of-ends p)) ∙ (slice_get-map (hop_word_of p) (ends_of p) h ∙ ap (option_map (hop_word_of p)) there)

-- rows with one more
pub each-push : {X : Type 0} (P : ℕ → X → Type 0) (rows : List X) (row : X) → AreEach P rows → P (length rows) row → AreEach P (rows ++ row ∷ [])
each-push P rows row are next n r there =
    elim (at_push rows row n r there) [
      | inl early ↦ are n r early
      | inr last ↦ rw (last.0, ← last.1) next
    ]

-- rows of which one is another
pub each-set : {X : Type 0} (P : ℕ → X → Type 0) (rows : List X) (k : ℕ) (row : X) → AreEach P rows → P k row → AreEach P (set rows k row)
each-set P rows k row are this n r there =
    elim (at_set rows k n row r there) [
      | inl same ↦ rw (same.0, ← same.1) this
      | inr other ↦ are n r other.1
    ]

word-at : (p : Platform) (ends : List HopEnds) (h : ℕ) → hop_word_by p (slice_get ends h) ≡ unwrap_or (slice_get (map (hop_word_of p) ends) h) []
word-at p [] h = refl
word-at p (e ∷ es) zero = refl
word-at p (e ∷ es) (suc h) = word-at p es h

pub object-is : (p : Platform) (o : ObjectNo) → object_word_by p o (ends_at p o) ≡ object_word p o
object-is p (memory_object m) = refl
object-is p (Hop h) = word-at p (ends_of p) h ∙ ap (λ (l : List (List ℕ)). unwrap_or (slice_get l h) []) (words-of-ends p)
object-is p (Pool i) = refl

ends-parts : (p : Platform) (ends : List HopEnds) (h : ℕ) → h < length (map (hop_word_of p) ends) → (up : List ℕ) × (down : List ℕ) × (hop_word_by p (slice_get ends h) ≡ up ++ (62 ∷ down))
ends-parts p [] h there = absurd (omega arith)
ends-parts p (e ∷ es) zero there = (up_name p e.up, target_name p e.down, refl)
ends-parts p (e ∷ es) (suc h) there = ends-parts p es h (omega arith)

-- the word of a hop that is there has a `>`
pub hop-parts : (p : Platform) (h : ℕ) → h < length (hop_words p) → (up : List ℕ) × (down : List ℕ) × (object_word p (Hop h) ≡ up ++ (62 ∷ down))
hop-parts p h there =
    let n = ap length (words-of-ends p) in
    let r = ends-parts p (ends_of p) h (omega (arith, n)) in
    (r.0, r.1, sym (object-is p (Hop h)) ∙ r.2)
