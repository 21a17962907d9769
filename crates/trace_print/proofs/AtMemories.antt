-- Entries at memories stand at memories that there are, and their gates have small numbers.
use Rattle.std.proofs.Common.{◌≡◌, ℕ, ◌+◌, ◌<◌, ◌≤◌, true, List, [], ◌∷◌, ◌++◌, length, sum_by, Option, Some, None, leb, ltb, refl, sym, ap, ◌∙◌, ⊎_elim, arith}
use Rattle.std.specs.List.{AllByRecursion}
use Rattle.std.proofs.lemmas.Bool.{and_parts, cases_lt, eq-eqb, leb-true, ltb-true, true≢false}
use Rattle.std.proofs.lemmas.List.{take_all}
use Rattle.std.proofs.lemmas.List.Sums.{sum_by-take-le}
use Rattle.tlm_types.specs.declared.words.ObjectNo.{ObjectNo}
use Rattle.tlm_types.specs.declared.words.ObjectNo.TheVariants.{Memory, Hop, Pool}
use Rattle.tlm_types.specs.declared.entry.Access.{Access}
use Rattle.tlm_types.specs.declared.entry.Entry.{Entry}
use Rattle.tlm_types.specs.declared.entry.What.{What}
use Rattle.tlm_types.specs.declared.entry.What.TheVariants.{Access as Accessed, Granted, Invalidated, Closed}
use Rattle.tlm_model.specs.declared.platform.MemoryRow.{MemoryRow}
use Rattle.tlm_model.specs.declared.platform.Platform.{Platform}
use Rattle.tlm_model.specs.Each.{EachFrom}
use Rattle.tlm_model.specs.Plan.{Initiator, Plan}
use Rattle.tlm_model.specs.Requests.{Asked, DebugRead, Invalidation, Request, Transport}
use Rattle.tlm_model.specs.Route.{Route, route_of}
use Rattle.tlm_model.specs.Scripts.{IsAccessOf, IsEntryOf, IsInvalidationOf, IsPlaced, first_gate, has_gate}
use Rattle.platform_model.specs.Bounded.{IsBounded}
use Rattle.route_plan.specs.Planned.{leads_to}
use Rattle.route_plan.proofs.WayLemmas.{walk_within}
use Rattle.trace_print.proofs.EntryKinds.{Places, Replies}
use Rattle.trace_print.proofs.OfRequests.{at-request, request-of}

-- an address leads to a memory that is there
pub route-there : (p : Platform) (i : Initiator) (a : ℕ) (r : Route) → route_of p i a ≡ Some r → r.memory < length p.memories
route-there p i a r leads =
    let within = walk_within 9 p i.row.bind a 0 in
    ⊎_elim (λ (there : r.memory < length p.memories). there)
    (λ (past : length p.memories ≤ r.memory). absurd (true≢false (sym (eq-eqb r.memory r.memory refl) ∙ (ap (λ (o : Option Route). leads_to o r.memory) (sym leads) ∙ within.end r.memory past))))
    (cases_lt r.memory (length p.memories))

-- gates

abbrev gates_in : MemoryRow → ℕ
gates_in row = row.traits.gates

gate-low : (p : Platform) (m g : ℕ) → has_gate p m g ≡ true → first_gate p m ≤ g
gate-low p m g has = leb-true (first_gate p m) g (and_parts (leb (first_gate p m) g) (ltb g (first_gate p (m + 1))) has).0

gate-high : (p : Platform) (m g : ℕ) → has_gate p m g ≡ true → g < first_gate p (m + 1)
gate-high p m g has = ltb-true g (first_gate p (m + 1)) (and_parts (leb (first_gate p m) g) (ltb g (first_gate p (m + 1))) has).1

-- a memory that has a gate is there
gate-there : (p : Platform) (m g : ℕ) → has_gate p m g ≡ true → m < length p.memories
gate-there p m g has =
    ⊎_elim (λ (there : m < length p.memories). there)
    (λ (past : length p.memories ≤ m). (
    let here : first_gate p m ≡ sum_by gates_in p.memories = ap (sum_by gates_in) (take_all m p.memories past) in
    let next : first_gate p (m + 1) ≡ sum_by gates_in p.memories = ap (sum_by gates_in) (take_all (m + 1) p.memories (omega (arith, past))) in
    absurd (omega (arith, here, next, gate-low p m g has, gate-high p m g has))))
    (cases_lt m (length p.memories))

-- a platform has few gates
pub gate-few : (p : Platform) → IsBounded p → (m g : ℕ) → has_gate p m g ≡ true → g < 1024
gate-few p bounded m g has = omega (arith, gate-high p m g has, sum_by-take-le gates_in p.memories (m + 1), bounded.gates)

-- a memory of the platform, or another object
abbrev pub IsMemoryThere : Platform → ObjectNo → Type 0
IsMemoryThere p (Memory m) = m < length p.memories
IsMemoryThere p (Hop h) = Unit {0}
IsMemoryThere p (Pool i) = Unit {0}

same-memory : (m n k : ℕ) → Memory m ≡ Memory n → n < k → m < k
same-memory m n k same below = let e : m ≡ n = cc in omega (arith, e, below)

access-there : (k : ℕ) (route : Option Route) → ((q : Route) → route ≡ Some q → q.memory < k) → (asked : Asked) (m : ℕ) (a : Access) → IsAccessOf route asked (Memory m) a → m < k
access-there k None there asked m a is = absurd is
access-there k (Some q) there (Transport b) m a is = same-memory m q.memory k is.0 (there q refl)
access-there k (Some q) there (DebugRead b) m a is = same-memory m q.memory k is.0 (there q refl)
access-there k (Some q) there (Invalidation n) m a is = absurd is

invalidation-there : (k : ℕ) (route : Option Route) → ((q : Route) → route ≡ Some q → q.memory < k) → (asked : Asked) (m f l : ℕ) → IsInvalidationOf route asked (Memory m) f l → m < k
invalidation-there k None there asked m f l is = absurd is
invalidation-there k (Some q) there (Transport b) m f l is = absurd is
invalidation-there k (Some q) there (DebugRead b) m f l is = absurd is
invalidation-there k (Some q) there (Invalidation n) m f l is = same-memory m q.memory k is.0 (there q refl)

-- an entry of a request, where it stands
there-by : (p : Platform) (i : Initiator) (r : Request) (n : ℕ) (o : ObjectNo) (w : What) → IsEntryOf (route_of p i r.address) r.asked o w → IsPlaced p n o w → IsMemoryThere p o
there-by p i r n (Memory m) (Accessed way access status got) is placed = access-there (length p.memories) (route_of p i r.address) (λ q leads. route-there p i r.address q leads) r.asked m access is
there-by p i r n (Memory m) (Granted g f l k) is placed = gate-there p m g placed
there-by p i r n (Memory m) (Invalidated f l) is placed = invalidation-there (length p.memories) (route_of p i r.address) (λ q leads. route-there p i r.address q leads) r.asked m f l is
there-by p i r n (Memory m) (Closed g) is placed = gate-there p m g placed
there-by p i r n (Memory m) w is placed = absurd placed
there-by p i r n (Hop h) w is placed = tt
there-by p i r n (Pool k) w is placed = tt

pub memories-there : (p : Plan) (before h : List Entry) → EachFrom (Replies p) before h → EachFrom (Places p) before h → AllByRecursion (λ (e : Entry). IsMemoryThere p.platform e.object) h
memories-there p before [] replies places = tt
memories-there p before (e ∷ h) replies places =
    let found = request-of p before e (λ i r. IsEntryOf (route_of p.platform i r.address) r.asked e.object e.what) replies.0 in
    let is = at-request p before e (λ i r. IsEntryOf (route_of p.platform i r.address) r.asked e.object e.what) replies.0 found in
    (there-by p.platform found.initiator found.request e.txn.initiator e.object e.what is places.0, memories-there p (before ++ e ∷ []) h replies.1 places.1)
