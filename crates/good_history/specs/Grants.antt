-- Grants, invalidations and closings (IEEE 1666-2011, clause 11.2: the direct memory interface).
use Rattle.std.specs.Prelude.{ℕ, zero, suc, ◌+◌, Bool, true, false, ◌&&◌, List, [], ◌∷◌, Option, Some, None, slice_get, if◌then◌else◌, ◌==◌, nat_le, nat_lt}
use Rattle.std.specs.List.{list_any}
use Rattle.std.specs.Option.{option_or}
use Rattle.tlm_types.specs.declared.words.Command.{Command}
use Rattle.tlm_types.specs.declared.words.Command.TheVariants.{Read, Write, Ignore, FetchAdd}
use Rattle.tlm_types.specs.declared.words.Kind.{Kind}
use Rattle.tlm_types.specs.declared.words.Kind.TheVariants.{Read as read_kind, Write as write_kind, Both}
use Rattle.tlm_types.specs.declared.words.ObjectNo.{ObjectNo}
use Rattle.tlm_types.specs.declared.words.ObjectNo.TheVariants.{Memory}
use Rattle.tlm_types.specs.declared.words.Response.{Response}
use Rattle.tlm_types.specs.declared.words.Response.TheVariants.{Ok}
use Rattle.tlm_types.specs.declared.words.Way.{Way}
use Rattle.tlm_types.specs.declared.words.Way.TheVariants.{Blocking}
use Rattle.tlm_types.specs.declared.entry.Access.{Access}
use Rattle.tlm_types.specs.declared.entry.Entry.{Entry}
use Rattle.tlm_types.specs.declared.entry.What.{What}
use Rattle.tlm_types.specs.declared.entry.What.TheVariants.{Access as Accessed, Granted, Invalidated, Closed}
use Rattle.tlm_model.specs.declared.platform.MemoryRow.{MemoryRow}
use Rattle.tlm_model.specs.declared.platform.Platform.{Platform}
use Rattle.tlm_model.specs.History.{is_object}
use Rattle.tlm_model.specs.Plan.{Plan, Initiator, initiators_of}
use Rattle.tlm_model.specs.Route.{Route, route_of}
use Rattle.tlm_model.specs.Scripts.{first_gate}
use Rattle.good_history.specs.Plain.{may_go_direct}

abbrev pub is_grant : What → Bool
is_grant (Granted gate first last kind) = true
is_grant w = false

-- the grant of gate g
abbrev pub gives : ℕ → What → Bool
gives g (Granted gate first last kind) = gate == g
gives g w = false

-- the closing of gate g
abbrev pub closes : ℕ → What → Bool
closes g (Closed gate) = gate == g
closes g w = false

abbrev pub is_given : ℕ → List Entry → Bool
is_given g h = list_any (λ e. gives g e.what) h

abbrev pub is_closed : ℕ → List Entry → Bool
is_closed g h = list_any (λ e. closes g e.what) h

-- a grant whose gate is closed in the history
abbrev pub has_closing : What → List Entry → Bool
has_closing (Granted gate first last kind) h = is_closed gate h
has_closing w h = true

-- the ranges from first to last and from low to high have an offset in common
abbrev pub meets : ℕ → ℕ → What → Bool
meets first last (Invalidated low high) = nat_le first high && nat_le low last
meets first last w = false

abbrev pub is_overlapped : What → What → Bool
is_overlapped (Granted gate first last kind) w = meets first last w
is_overlapped v w = false

-- y is an invalidation after the grant x, at its memory, that overlaps its range
abbrev pub is_cut_by : Entry → Entry → Bool
is_cut_by x y = nat_lt x.position y.position && (is_object x.object y.object && is_overlapped x.what y.what)

-- the kind allows the command
abbrev pub allows : Kind → Command → Bool
allows read_kind Read = true
allows read_kind Write = false
allows write_kind Read = false
allows write_kind Write = true
allows Both Read = true
allows Both Write = true
allows kind Ignore = false
allows kind FetchAdd = false

abbrev pub is_inside : Option Route → ObjectNo → ℕ → ℕ → Bool
is_inside None o first last = false
is_inside (Some r) o first last = is_object (Memory r.memory) o && (nat_le first r.offset && nat_le r.offset last)

-- the n addresses from a on lead to the object, at offsets from first to last
abbrev pub all_inside : Platform → Initiator → ObjectNo → ℕ → ℕ → ℕ → ℕ → Bool
all_inside p i o first last a zero = true
all_inside p i o first last a (suc n) = is_inside (route_of p i a) o first last && all_inside p i o first last (a + 1) n

abbrev pub serves_by : Platform → Initiator → ObjectNo → What → ℕ → Access → Bool
serves_by p i o (Granted gate first last kind) a access = allows kind access.command && all_inside p i o first last a access.length
serves_by p i o w a access = false

-- x is a grant to the initiator that serves an access at address a: its kind allows the command, and each address of the
-- access leads into its range
abbrev pub serves : Platform → Initiator → Entry → ℕ → Access → Bool
serves p i x a access = (x.txn.initiator == i.number) && serves_by p i x.object x.what a access

abbrev pub is_blocking : Way → Bool
is_blocking Blocking = true
is_blocking way = false

abbrev pub is_ok : Response → Bool
is_ok Ok = true
is_ok r = false

abbrev pub is_hinting : What → Bool
is_hinting (Accessed way access status got) = is_blocking way && is_ok status
is_hinting w = false

abbrev pub dmi_of : Option MemoryRow → Bool
dmi_of None = false
dmi_of (Some row) = row.traits.dmi

abbrev pub has_dmi : Platform → ObjectNo → Bool
has_dmi p (Memory m) = dmi_of (slice_get p.memories m)
has_dmi p o = false

abbrev pub plain_of : Option Initiator → ℕ → Bool
plain_of None s = false
plain_of (Some i) s = may_go_direct i s

-- after this entry its initiator asks for a grant: a plain blocking access of a direct initiator that was OK and had
-- the DMI hint (11.2.5)
abbrev pub asks : Plan → Entry → Bool
asks p e = plain_of (slice_get (initiators_of p) e.txn.initiator) e.txn.seq && (is_hinting e.what && has_dmi p.platform e.object)

-- the last entry of initiator n
abbrev pub last_of : ℕ → List Entry → Option Entry
last_of n [] = None
last_of n (e ∷ es) = option_or (last_of n es) (if e.txn.initiator == n then Some e else None)

-- the n gates from g on were given
abbrev pub all_given_from : ℕ → ℕ → List Entry → Bool
all_given_from g zero h = true
all_given_from g (suc n) h = is_given g h && all_given_from (g + 1) n h

abbrev pub gates_of : Option MemoryRow → ℕ
gates_of None = 0
gates_of (Some row) = row.traits.gates

-- all gates of the memory were given
abbrev pub all_given : Platform → ObjectNo → List Entry → Bool
all_given p (Memory m) h = all_given_from (first_gate p m) (gates_of (slice_get p.memories m)) h
all_given p o h = true
