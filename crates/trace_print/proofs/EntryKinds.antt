-- The entries of a history that runs the scripts of a plan: accesses, grants, invalidations and closings at memories, calls at
-- hops, and moves of pools.
use Rattle.std.proofs.Common.{ℕ, List, [], ◌∷◌, ◌++◌}
use Rattle.std.specs.List.{AllByRecursion}
use Rattle.tlm_types.specs.declared.words.ObjectNo.{ObjectNo}
use Rattle.tlm_types.specs.declared.words.ObjectNo.TheVariants.{Memory, Hop, Pool}
use Rattle.tlm_types.specs.declared.entry.Entry.{Entry}
use Rattle.tlm_types.specs.declared.entry.What.{What}
use Rattle.tlm_types.specs.declared.entry.What.TheVariants.{Access as Accessed, Granted, Invalidated, Closed, Call, Take, Acquire, Release}
use Rattle.tlm_model.specs.declared.platform.Platform.{Platform}
use Rattle.tlm_model.specs.Each.{EachFrom}
use Rattle.tlm_model.specs.Plan.{Plan}
use Rattle.tlm_model.specs.Route.{route_of}
use Rattle.tlm_model.specs.Scripts.{HasWay, IsEntryOf, IsPlaced, OfRequest, RunsScripts}

-- an access, a grant, an invalidation or a closing at a memory, a call at a hop, or a move of a pool
abbrev pub IsKind : ObjectNo → What → Type 0
IsKind (Memory m) (Accessed way access status got) = Unit {0}
IsKind (Memory m) (Granted g f l k) = Unit {0}
IsKind (Memory m) (Invalidated f l) = Unit {0}
IsKind (Memory m) (Closed g) = Unit {0}
IsKind (Hop h) (Call c a) = Unit {0}
IsKind (Pool n) (Take s) = Unit {0}
IsKind (Pool n) (Acquire s) = Unit {0}
IsKind (Pool n) (Release s f) = Unit {0}
IsKind o w = ⊥

abbrev pub HaveKinds : List Entry → Type 0
HaveKinds h = AllByRecursion (λ (e : Entry). IsKind e.object e.what) h

-- what a sound history says of each entry with those before it
abbrev pub Replies : Plan → List Entry → Entry → Type 0
Replies p before e = OfRequest p before e (λ i r. IsEntryOf (route_of p.platform i r.address) r.asked e.object e.what)

abbrev pub Ways : Plan → List Entry → Entry → Type 0
Ways p before e = OfRequest p before e (λ i r. HasWay i.row.style r.asked e.what)

abbrev pub Places : Plan → List Entry → Entry → Type 0
Places p before e = IsPlaced p.platform e.txn.initiator e.object e.what

-- an entry that stands at an object of its kind
kind-by : (p : Platform) (n : ℕ) (o : ObjectNo) (w : What) → IsPlaced p n o w → IsKind o w
kind-by p n (Memory m) (Accessed way access status got) placed = tt
kind-by p n (Memory m) (Granted g f l k) placed = tt
kind-by p n (Memory m) (Invalidated f l) placed = tt
kind-by p n (Memory m) (Closed g) placed = tt
kind-by p n (Memory m) w placed = absurd placed
kind-by p n (Hop h) (Call c a) placed = tt
kind-by p n (Hop h) w placed = absurd placed
kind-by p n (Pool i) (Take k) placed = tt
kind-by p n (Pool i) (Acquire k) placed = tt
kind-by p n (Pool i) (Release k f) placed = tt
kind-by p n (Pool i) w placed = absurd placed

kinds-from : (p : Plan) (before h : List Entry) → EachFrom (Places p) before h → HaveKinds h
kinds-from p before [] places = tt
kinds-from p before (e ∷ h) places = (kind-by p.platform e.txn.initiator e.object e.what places.0, kinds-from p (before ++ e ∷ []) h places.1)

pub have-kinds : (p : Plan) (h : List Entry) → RunsScripts p h → HaveKinds h
have-kinds p h runs = kinds-from p [] h runs.places
