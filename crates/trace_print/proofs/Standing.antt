-- The entries of a history stand at objects of the platform, and those at hops and pools are of four-phase accesses.
use Rattle.std.proofs.Common.{◌≡◌, ℕ, ◌<◌, List, [], ◌∷◌, ◌++◌, length, Option, Some, None, refl, subst, arith}
use Rattle.std.specs.List.{AllByRecursion}
use Rattle.tlm_types.specs.declared.words.ObjectNo.{ObjectNo}
use Rattle.tlm_types.specs.declared.words.ObjectNo.TheVariants.{Memory, Hop, Pool}
use Rattle.tlm_types.specs.declared.words.TxnId.{TxnId}
use Rattle.tlm_types.specs.declared.entry.Entry.{Entry}
use Rattle.tlm_types.specs.declared.entry.What.{What}
use Rattle.tlm_types.specs.declared.entry.What.TheVariants.{Call, Take, Acquire, Release}
use Rattle.tlm_model.specs.Each.{EachFrom}
use Rattle.tlm_model.specs.Plan.{Plan}
use Rattle.flow_model.specs.World.{Passage, hop_at}
use Rattle.flow_model.specs.World.{hop_count as passed_count}
use Rattle.flow_model.specs.Events.{Event, number_in, numbered_from}
use Rattle.flow_model.specs.Platform.{passage_of, world_of}
use Rattle.flow_model.specs.Points.{InOrderBy}
use Rattle.platform_shape.specs.Shape.{IsShape}
use Rattle.route_plan.specs.Valid.{IsObject, hop_count}
use Rattle.trace_print.proofs.AtMemories.{IsMemoryThere}
use Rattle.trace_print.proofs.EntryKinds.{HaveKinds, IsKind}
use Rattle.trace_print.proofs.Passages.{hop-at-place, is-passed}

-- an entry at a hop is of an access that passes it, and one at a pool of an access of its initiator
abbrev pub Stands : Plan → TxnId → ObjectNo → Type 0
Stands p x (Memory m) = Unit {0}
Stands p x (Hop o) = (pass : Passage) × (passage_of p x ≡ Some pass) × (k : ℕ) × (k < passed_count pass) × (hop_at pass k ≡ o)
Stands p x (Pool i) = (pass : Passage) × (passage_of p x ≡ Some pass) × (i ≡ x.initiator)

stands-by : (p : Plan) (be : List Event) (x : TxnId) (f : Option Passage) → passage_of p x ≡ f → (o : ObjectNo) (n : ℕ) (w : What) → IsKind o w → InOrderBy (world_of p) be x f o n w → Stands p x o
stands-by p be x f is (Memory m) n w kind order = tt
stands-by p be x None is (Hop o) n (Call c a) kind order = absurd order
stands-by p be x (Some pass) is (Hop o) n (Call c a) kind order = (pass, is, order.hop, order.below, order.place)
stands-by p be x f is (Hop o) n w kind order = absurd kind
stands-by p be x None is (Pool i) n (Take k) kind order = absurd order
stands-by p be x (Some pass) is (Pool i) n (Take k) kind order = (pass, is, order)
stands-by p be x None is (Pool i) n (Acquire k) kind order = absurd order
stands-by p be x (Some pass) is (Pool i) n (Acquire k) kind order = (pass, is, order.0)
stands-by p be x None is (Pool i) n (Release k g) kind order = absurd order
stands-by p be x (Some pass) is (Pool i) n (Release k g) kind order = (pass, is, order.0)
stands-by p be x f is (Pool i) n w kind order = absurd kind

pub all-stand : (p : Plan) (be : List Event) (before h : List Entry) → HaveKinds h → EachFrom (λ be e. InOrderBy (world_of p) be e.txn (passage_of p e.txn) e.object e.number e.what) be (numbered_from before h) → AllByRecursion (λ (e : Entry). Stands p e.txn e.object) h
all-stand p be before [] kinds orders = tt
all-stand p be before (e ∷ h) kinds orders = (stands-by p be e.txn (passage_of p e.txn) refl e.object _ e.what kinds.0 orders.0, all-stand p (be ++ record { entry = e; number = number_in before e.txn e.what } ∷ []) (before ++ e ∷ []) h kinds.1 orders.1)

object-by : (p : Plan) → IsShape p.platform → (x : TxnId) → x.initiator < length p.platform.initiators → (o : ObjectNo) → IsMemoryThere p.platform o → Stands p x o → IsObject p.platform o
object-by p shape x who (Memory m) there stands = there
object-by p shape x who (Hop o) there stands =
    let passed = is-passed p shape x stands.0 stands.1 in
    subst (λ (h : ℕ). h < hop_count p.platform) stands.4 (hop-at-place (λ h. h < hop_count p.platform) (let g = stands.0 in g.hops) stands.2 passed.there stands.3)
object-by p shape x who (Pool i) there stands = omega (arith, who, stands.2)

-- the initiator of each entry is there
abbrev pub HaveInitiators : Plan → List Entry → Type 0
HaveInitiators p h = AllByRecursion (λ (e : Entry). e.txn.initiator < length p.platform.initiators) h

-- the objects of a history are there
pub objects-there : (p : Plan) → IsShape p.platform → (h : List Entry) → HaveInitiators p h → AllByRecursion (λ (e : Entry). IsMemoryThere p.platform e.object) h → AllByRecursion (λ (e : Entry). Stands p e.txn e.object) h → AllByRecursion (λ (e : Entry). IsObject p.platform e.object) h
objects-there p shape [] whos there stand = tt
objects-there p shape (e ∷ h) whos there stand = (object-by p shape e.txn whos.0 e.object there.0 stand.0, objects-there p shape h whos.1 there.1 stand.1)
