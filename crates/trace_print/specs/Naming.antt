-- What the line of an entry says of it.
use Rattle.std.specs.Prelude.{ℕ, ◌≡◌, ◌≢◌, ◌<◌, ◌^◌, List, [], ◌∷◌, length, slice_get}
use Rattle.std.specs.List.{AllByRecursion}
use Rattle.tlm_types.specs.declared.words.Command.{Command}
use Rattle.tlm_types.specs.declared.words.Command.TheVariants.{Read, Write, Ignore, FetchAdd}
use Rattle.tlm_types.specs.declared.words.ObjectNo.{ObjectNo}
use Rattle.tlm_types.specs.declared.words.ObjectNo.TheVariants.{Memory as memory_object, Hop, Pool}
use Rattle.tlm_types.specs.declared.words.Way.{Way}
use Rattle.tlm_types.specs.declared.words.Way.TheVariants.{Blocking, FourPhase, Direct, Debug}
use Rattle.tlm_types.specs.declared.entry.Access.{Access}
use Rattle.tlm_types.specs.declared.entry.Entry.{Entry}
use Rattle.tlm_types.specs.declared.entry.What.{What}
use Rattle.tlm_types.specs.declared.entry.What.TheVariants.{Access as Accessed, Granted, Invalidated, Closed, Call, Take, Acquire, Release}
use Rattle.tlm_types.specs.Entries.{read_sends}
use Rattle.tlm_model.specs.declared.platform.Platform.{Platform}
use Rattle.tlm_model.specs.declared.trace.Trace.TheVariants.{All}
use Rattle.tlm_model.specs.Plan.{Plan}
use Rattle.report_model.specs.Report.{entry_words, hop_words, initiator_name, memory_name, name_of_router, object_word, operand_in, report_of, shown_by}
use Rattle.tlm_model.specs.Text.{line_of}
use Rattle.traffic_script.specs.Proper.{AreBytes}

-- none of these bytes is that one
abbrev pub Lacks : ℕ → List ℕ → Type 0
Lacks c [] = Unit {0}
Lacks c (b ∷ bs) = (b ≢ c) × Lacks c bs

-- each of these bytes is past the space
abbrev pub IsVisible : List ℕ → Type 0
IsVisible [] = Unit {0}
IsVisible (b ∷ bs) = (32 < b) × IsVisible bs

-- a name of visible bytes with no `.` or `>`
abbrev pub IsPlainName : List ℕ → Type 0
IsPlainName name = IsVisible name × Lacks 46 name × Lacks 62 name

-- the names of a platform's components are plain
pub record HasPlainNames (p : Platform) : Type 0 where
  pub initiators : (n : ℕ) → IsPlainName (initiator_name p n)
  pub routers : (n : ℕ) → IsPlainName (name_of_router (slice_get p.routers n))
  pub memories : (n : ℕ) → IsPlainName (memory_name p n)

-- No two initiators, and no two memories, have one name, and no two hops have the same two ends: no router has two
-- windows that lead to one component.
pub record HasOwnNames (p : Platform) : Type 0 where
  pub initiators : (n m : ℕ) → n < length p.initiators → m < length p.initiators → initiator_name p n ≡ initiator_name p m → n ≡ m
  pub memories : (n m : ℕ) → n < length p.memories → m < length p.memories → memory_name p n ≡ memory_name p m → n ≡ m
  pub hops : (h k : ℕ) → h < length (hop_words p) → k < length (hop_words p) → object_word p (Hop h) ≡ object_word p (Hop k) → h ≡ k

-- the object is one of the platform
abbrev pub IsObject : Platform → ObjectNo → Type 0
IsObject p (memory_object m) = m < length p.memories
IsObject p (Hop h) = h < length (hop_words p)
IsObject p (Pool i) = i < length p.initiators

abbrev pub HasGate : Way → Type 0
HasGate Blocking = Unit {0}
HasGate FourPhase = Unit {0}
HasGate (Direct g) = g < 2 ^ 64
HasGate Debug = Unit {0}

-- numbers as the program has them
abbrev pub HasNumbers : What → Type 0
HasNumbers (Accessed way a status got) =
    HasGate way × (a.offset < 2 ^ 64) × (a.length < 2 ^ 64) × (a.width < 2 ^ 64) × AreBytes a.enables × AreBytes (shown_by a.command a got)
    × AreBytes (operand_in a.command a.sent)
HasNumbers (Granted g f l k) = (g < 2 ^ 64) × (f < 2 ^ 64) × (l < 2 ^ 64)
HasNumbers (Invalidated f l) = (f < 2 ^ 64) × (l < 2 ^ 64)
HasNumbers (Closed g) = g < 2 ^ 64
HasNumbers (Call f a) = Unit {0}
HasNumbers (Take s) = s < 2 ^ 64
HasNumbers (Acquire s) = s < 2 ^ 64
HasNumbers (Release s f) = s < 2 ^ 64

-- what the line of an access doesn't show is as in every such access: a read sends zeros, a write gets nothing, and an
-- ignore has no bytes; of a fetch_add it shows all
abbrev pub AreUsual : Command → Way → Access → List ℕ → Type 0
AreUsual Read way a got = a.sent ≡ read_sends way a.length
AreUsual Write way a got = got ≡ []
AreUsual Ignore way a got = (a.sent ≡ []) × (got ≡ [])
AreUsual FetchAdd way a got = Unit {0}

abbrev pub HasUsualBytes : What → Type 0
HasUsualBytes (Accessed way a status got) = AreUsual a.command way a got
HasUsualBytes w = Unit {0}

-- an entry as a run has one, of a component of the platform
pub record IsTellable (p : Platform) (e : Entry) : Type 0 where
  pub position : e.position < 2 ^ 64
  pub time : e.time < 2 ^ 64
  pub seq : e.txn.seq < 2 ^ 64
  pub initiator : e.txn.initiator < length p.initiators
  pub object : IsObject p e.object
  pub numbers : HasNumbers e.what
  pub bytes : HasUsualBytes e.what

-- entries with one line are the same
abbrev pub NamesEntries : Type 0
NamesEntries = (p : Platform) → HasPlainNames p → HasOwnNames p → (d e : Entry) → IsTellable p d → IsTellable p e → line_of (entry_words p d) ≡ line_of (entry_words p e) → d ≡ e

-- histories with one report of all entries are the same
abbrev pub NamesHistories : Type 0
NamesHistories = (p : Plan) → HasPlainNames p.platform → HasOwnNames p.platform → (h g : List Entry) → AllByRecursion (IsTellable p.platform) h → AllByRecursion (IsTellable p.platform) g → report_of All p h ≡ report_of All p g → h ≡ g

-- what the laws ask of a plan and a history
pub record AreNamed (p : Plan) (h : List Entry) : Type 0 where
  pub names : HasPlainNames p.platform
  pub own : HasOwnNames p.platform
  pub entries : AllByRecursion (IsTellable p.platform) h
