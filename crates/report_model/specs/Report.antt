-- The report of a history: its lines, each a list of words.
use Rattle.std.specs.Prelude.{ℕ, zero, suc, ◌+◌, ◌/◌, List, [], ◌∷◌, ◌++◌, length, take, drop, map, Bool, true, false, Option, Some, None, slice_get, unwrap_or, if◌then◌else◌, ◌==◌, codes}
use Rattle.std.specs.Fmt.{decimal}
use Rattle.std.specs.List.{list_all, concat, filter, flat_map}
use Rattle.tlm_types.specs.declared.words.ObjectNo.{ObjectNo}
use Rattle.tlm_types.specs.declared.words.ObjectNo.TheVariants.{Memory as memory_object, Hop, Pool}
use Rattle.tlm_types.specs.declared.words.Command.{Command}
use Rattle.tlm_types.specs.declared.words.Command.TheVariants.{Read, Write, Ignore, FetchAdd}
use Rattle.tlm_types.specs.declared.words.Kind.{Kind}
use Rattle.tlm_types.specs.declared.words.Kind.TheVariants.{Read as read_kind, Write as write_kind, Both}
use Rattle.tlm_types.specs.declared.words.Phase.{Phase}
use Rattle.tlm_types.specs.declared.words.Phase.TheVariants.{BeginReq, EndReq, BeginResp, EndResp}
use Rattle.tlm_types.specs.declared.words.Response.{Response}
use Rattle.tlm_types.specs.declared.words.Response.TheVariants.{Ok, Incomplete, GenericError, AddressError, CommandError, BurstError, ByteEnableError}
use Rattle.tlm_types.specs.declared.words.TlmSync.{TlmSync}
use Rattle.tlm_types.specs.declared.words.TlmSync.TheVariants.{Accepted, Updated, Completed}
use Rattle.tlm_types.specs.declared.words.Way.{Way}
use Rattle.tlm_types.specs.declared.words.Way.TheVariants.{Blocking, FourPhase, Direct, Debug}
use Rattle.tlm_types.specs.declared.words.TxnId.{TxnId}
use Rattle.tlm_types.specs.declared.entry.Access.{Access}
use Rattle.tlm_types.specs.declared.entry.Entry.{Entry}
use Rattle.tlm_types.specs.declared.entry.What.{What}
use Rattle.tlm_types.specs.Entries.{is_access}
use Rattle.tlm_types.specs.declared.entry.What.TheVariants.{Access as Accessed, Granted, Invalidated, Closed, Call, Take, Acquire, Release}
use Rattle.tlm_model.specs.declared.platform.InitiatorRow.{InitiatorRow}
use Rattle.tlm_model.specs.declared.platform.MemoryRow.{MemoryRow}
use Rattle.tlm_model.specs.declared.platform.Platform.{Platform}
use Rattle.tlm_model.specs.declared.platform.RouterRow.{RouterRow}
use Rattle.tlm_model.specs.declared.platform.Style.{Style}
use Rattle.tlm_model.specs.declared.platform.Style.TheVariants.{Blocking as blocking_style, Direct as direct_style, FourPhase as fourphase_style}
use Rattle.tlm_model.specs.declared.platform.Target.{Target}
use Rattle.tlm_model.specs.declared.platform.Target.TheVariants.{Router, Memory}
use Rattle.tlm_model.specs.declared.platform.WindowRow.{WindowRow}
use Rattle.tlm_model.specs.declared.trace.Trace.{Trace}
use Rattle.tlm_model.specs.declared.trace.Trace.TheVariants.{All as all_entries, Accesses as accesses_alone, None as no_entries}
use Rattle.tlm_model.specs.History.{Store, last_store}
use Rattle.tlm_model.specs.Plan.{Plan, Initiator, initiators_of}
use Rattle.tlm_model.specs.Requests.{Asked, Transport, DebugRead, Invalidation, Request, numbers_in, refused_of}
use Rattle.tlm_model.specs.Rounds.{syncs_of}
use Rattle.tlm_model.specs.Text.{address_word, hex_of, data_word, offset_word, line_of}
use Rattle.report_model.specs.Ends.{end_of_initiator, time_of_issue}

abbrev pub command_word : Command → List ℕ
command_word Read = codes "read"
command_word Write = codes "write"
command_word Ignore = codes "ignore"
command_word FetchAdd = codes "fetch_add"

abbrev pub status_word : Response → List ℕ
status_word Ok = codes "ok"
status_word Incomplete = codes "incomplete"
status_word GenericError = codes "generic_error"
status_word AddressError = codes "address_error"
status_word CommandError = codes "command_error"
status_word BurstError = codes "burst_error"
status_word ByteEnableError = codes "byte_enable_error"

abbrev pub way_word : Way → List ℕ
way_word Blocking = codes "blocking"
way_word FourPhase = codes "fourphase"
way_word (Direct g) = codes "direct:" ++ decimal g
way_word Debug = codes "debug"

abbrev pub style_word : Style → List ℕ
style_word blocking_style = codes "blocking"
style_word direct_style = codes "direct"
style_word fourphase_style = codes "fourphase"

abbrev pub kind_word : Kind → List ℕ
kind_word read_kind = codes "read"
kind_word write_kind = codes "write"
kind_word Both = codes "both"

abbrev pub phase_word : Phase → List ℕ
phase_word BeginReq = codes "BEGIN_REQ"
phase_word EndReq = codes "END_REQ"
phase_word BeginResp = codes "BEGIN_RESP"
phase_word EndResp = codes "END_RESP"

abbrev pub sync_words : TlmSync → List (List ℕ)
sync_words Accepted = codes "ACCEPTED" ∷ []
sync_words (Updated phase) = codes "UPDATED" ∷ phase_word phase ∷ []
sync_words Completed = codes "COMPLETED" ∷ []

-- an inclusive range
abbrev pub range_word : ℕ → ℕ → List ℕ
range_word first last = address_word first ++ (codes "-" ++ address_word last)

-- the bytes that the line of an access shows: those that a write sent, or those that a read or a fetch_add got
abbrev pub shown_by : Command → Access → List ℕ → List ℕ
shown_by Read a got = got
shown_by Write a got = a.sent
shown_by Ignore a got = []
shown_by FetchAdd a got = got

-- the bytes that it shows before them, of those that were sent: the operand of a fetch_add
abbrev pub operand_in : Command → List ℕ → List ℕ
operand_in Read sent = []
operand_in Write sent = []
operand_in Ignore sent = []
operand_in FetchAdd sent = sent

abbrev pub has_operand : Command → Bool
has_operand Read = false
has_operand Write = false
has_operand Ignore = false
has_operand FetchAdd = true

-- the operand with a colon, where there is one
abbrev pub operand_text : Command → List ℕ → List ℕ
operand_text command sent = if has_operand command then data_word sent ++ codes ":" else []

abbrev pub bytes_word : Command → Access → List ℕ → List ℕ
bytes_word command a got = operand_text command a.sent ++ data_word (shown_by command a got)

abbrev pub freed_words : Bool → List (List ℕ)
freed_words true = codes "freed" ∷ []
freed_words false = []

abbrev pub what_words : What → List (List ℕ)
what_words (Accessed way a status got) =
    way_word way ∷ command_word a.command ∷ address_word a.offset ∷ decimal a.length ∷ (codes "be=" ++ data_word a.enables) ∷
    (codes "sw=" ++ decimal a.width) ∷ bytes_word a.command a got ∷ status_word status ∷ []
what_words (Granted gate first last kind) = codes "granted" ∷ decimal gate ∷ range_word first last ∷ kind_word kind ∷ []
what_words (Invalidated first last) = codes "invalidated" ∷ range_word first last ∷ []
what_words (Closed gate) = codes "closed" ∷ decimal gate ∷ []
what_words (Call phase answer) = phase_word phase ∷ sync_words answer
what_words (Take slot) = codes "take" ∷ decimal slot ∷ []
what_words (Acquire slot) = codes "acquire" ∷ decimal slot ∷ []
what_words (Release slot freed) = codes "release" ∷ decimal slot ∷ freed_words freed

abbrev pub name_of_initiator : Option InitiatorRow → List ℕ
name_of_initiator None = []
name_of_initiator (Some row) = row.name

abbrev pub name_of_router : Option RouterRow → List ℕ
name_of_router None = []
name_of_router (Some row) = row.name

abbrev pub name_of_memory : Option MemoryRow → List ℕ
name_of_memory None = []
name_of_memory (Some row) = row.name

abbrev pub initiator_name : Platform → ℕ → List ℕ
initiator_name p n = name_of_initiator (slice_get p.initiators n)

abbrev pub memory_name : Platform → ℕ → List ℕ
memory_name p n = name_of_memory (slice_get p.memories n)

abbrev pub target_name : Platform → Target → List ℕ
target_name p (Router r) = name_of_router (slice_get p.routers r)
target_name p (Memory m) = memory_name p m

abbrev pub hop_word : List ℕ → List ℕ → List ℕ
hop_word up down = up ++ (codes ">" ++ down)

-- the hops: the bindings of the initiators, and then the windows of each router
abbrev pub hop_words : Platform → List (List ℕ)
hop_words p =
    map (λ (i : InitiatorRow). hop_word i.name (target_name p i.bind)) p.initiators
    ++ flat_map (λ (r : RouterRow). map (λ (w : WindowRow). hop_word r.name (target_name p w.to)) r.windows) p.routers

abbrev pub seq_word : List ℕ → ℕ → List ℕ
seq_word name seq = name ++ (codes "." ++ decimal seq)

abbrev pub txn_word : Platform → TxnId → List ℕ
txn_word p t = seq_word (initiator_name p t.initiator) t.seq

abbrev pub object_word : Platform → ObjectNo → List ℕ
object_word p (memory_object m) = memory_name p m
object_word p (Hop h) = unwrap_or (slice_get (hop_words p) h) []
object_word p (Pool i) = initiator_name p i ++ codes ".pool"

abbrev pub entry_words : Platform → Entry → List (List ℕ)
entry_words p e = decimal e.position ∷ decimal e.time ∷ txn_word p e.txn ∷ object_word p e.object ∷ what_words e.what

-- the entries that a trace shows
abbrev pub traced : Trace → List Entry → List Entry
traced all_entries h = h
traced accesses_alone h = filter (λ (e : Entry). is_access e.what) h
traced no_entries h = []

abbrev pub asked_word : Asked → List ℕ
asked_word (Transport a) = command_word a.command
asked_word (DebugRead a) = codes "debug"
asked_word (Invalidation n) = []

-- a request that was refused, with the time at which it was issued
abbrev pub refused_words : List ℕ → Request → ℕ → List (List ℕ)
refused_words name r time = codes "refused" ∷ seq_word name r.seq ∷ decimal time ∷ asked_word r.asked ∷ address_word r.address ∷ []

abbrev pub ends_words : List ℕ → Style → ℕ → ℕ → ℕ → ℕ → List (List ℕ)
ends_words name style transactions refused syncs end =
    codes "initiator" ∷ name ∷ style_word style ∷ codes "transactions" ∷ decimal transactions ∷ codes "refused" ∷ decimal refused ∷
    codes "syncs" ∷ decimal syncs ∷ codes "end" ∷ decimal end ∷ []

-- an initiator's ends, and what was refused to it
abbrev pub initiator_lines : Plan → List Entry → Initiator → List (List (List ℕ))
initiator_lines p h i =
    ends_words i.row.name i.row.style (numbers_in i.script) (length (refused_of p.platform i h)) (syncs_of p.platform i) (end_of_initiator p h i)
    ∷ map (λ r. refused_words i.row.name r (time_of_issue p h i r)) (refused_of p.platform i h)

abbrev pub is_zero : List ℕ → Bool
is_zero bytes = list_all (λ b. b == 0) bytes

-- the line of a row of bytes that aren't all zeros
abbrev pub row_lines : ℕ → List ℕ → List (List (List ℕ))
row_lines offset bytes = if is_zero bytes then [] else ((offset_word offset ∷ hex_of bytes ∷ []) ∷ [])

-- the next k rows of 16 bytes
abbrev pub rows_from : ℕ → ℕ → List ℕ → List (List (List ℕ))
rows_from zero offset bytes = []
rows_from (suc k) offset bytes = row_lines offset (take 16 bytes) ++ rows_from k (offset + 16) (drop 16 bytes)

abbrev pub memory_lines : List ℕ → ℕ → List ℕ → List (List (List ℕ))
memory_lines name size bytes = (codes "memory" ∷ name ∷ decimal size ∷ []) ∷ rows_from ((size + 15) / 16) 0 bytes

abbrev pub memories_from : ℕ → List MemoryRow → Store → List (List (List ℕ))
memories_from n [] s = []
memories_from n (m ∷ ms) s = memory_lines m.name m.traits.size (s n) ++ memories_from (n + 1) ms s

unfoldable pub report_lines : Trace → Plan → List Entry → List (List (List ℕ))
report_lines trace p h =
    (codes "tlm-report" ∷ codes "1" ∷ []) ∷ (map (entry_words p.platform) (traced trace h)
    ++ (flat_map (initiator_lines p h) (initiators_of p)
    ++ (memories_from 0 p.platform.memories (last_store p.platform h) ++ ((codes "end" ∷ decimal (length h) ∷ []) ∷ []))))

-- the report's bytes
unfoldable pub report_of : Trace → Plan → List Entry → List ℕ
report_of trace p h = concat (map line_of (report_lines trace p h))
