-- Worked runs: plans and histories that were made by hand.
use Rattle.std.specs.Prelude.{ℕ, List, [], ◌∷◌, length, true, codes, Some, None}
use Rattle.tlm_types.specs.declared.words.Command.{Command}
use Rattle.tlm_types.specs.declared.words.Command.TheVariants.{Read as read_command, Write as write_command, Ignore as ignore_command, FetchAdd as fetch_add_command}
use Rattle.tlm_types.specs.declared.words.ObjectNo.TheVariants.{Memory as memory_object}
use Rattle.tlm_types.specs.declared.words.ReqMode.TheVariants.{Accept}
use Rattle.tlm_types.specs.declared.words.RespMode.TheVariants.{Accept as accept_response}
use Rattle.tlm_types.specs.declared.words.Response.{Response}
use Rattle.tlm_types.specs.declared.words.Response.TheVariants.{Ok, AddressError}
use Rattle.tlm_types.specs.declared.words.Way.{Way}
use Rattle.tlm_types.specs.declared.words.Way.TheVariants.{Blocking, Debug as by_debug}
use Rattle.tlm_types.specs.declared.entry.Entry.{Entry}
use Rattle.tlm_types.specs.declared.entry.What.{What}
use Rattle.tlm_types.specs.declared.entry.What.TheVariants.{Access as Accessed}
use Rattle.tlm_model.specs.declared.operation.Operation.{Operation}
use Rattle.tlm_model.specs.declared.operation.Operation.TheVariants.{Write, Read, Ignore, Debug, Copy, Add, FetchAdd}
use Rattle.tlm_model.specs.declared.platform.RouterRow.{RouterRow}
use Rattle.tlm_model.specs.declared.platform.Style.TheVariants.{Blocking as blocking_style}
use Rattle.tlm_model.specs.declared.platform.Target.{Target}
use Rattle.tlm_model.specs.declared.platform.Target.TheVariants.{Router, Memory}
use Rattle.tlm_model.specs.Kept.{KeepsRequests, EndsRequests}
use Rattle.tlm_model.specs.Plan.{Plan}
use Rattle.tlm_model.specs.Store.{zeros}

-- the history has the points of requests, also those of its end
pub record IsWorked (p : Plan) (h : List Entry) : Type 0 where
  pub kept : KeepsRequests p h
  pub ended : EndsRequests p h

-- one blocking initiator `cpu`, and a memory `ram` of 256 bytes
abbrev pub plan_of : ℕ → ℕ → Target → List RouterRow → List Operation → Plan
plan_of quantum latency bind routers script = record {
  platform = record {
    version = 2;
    quantum = quantum;
    initiators = record { name = codes "cpu"; style = blocking_style; script = codes "a.txt"; bind = bind; pool = 4; response = accept_response } ∷ [];
    routers = routers;
    memories = record {
      name = codes "ram";
      traits = record { size = 256; latency = latency; readable = true; writable = true; fetch_add = true; enables = true; streaming = true; dmi = true; gates = 16 };
      reply = Accept;
      lanes = 4;
    } ∷ [];
  };
  scripts = script ∷ [];
}

-- the platform of a lone script: `cpu` on `ram`, 10 ps, and a sync after each operation
abbrev pub lone : List Operation → Plan
lone script = plan_of 0 10 (Memory 0) [] script

-- an entry of `cpu` at `ram`
abbrev pub entry : ℕ → ℕ → ℕ → What → Entry
entry position seq time what = record { position = position; object = memory_object 0; txn = record { initiator = 0; seq = seq }; time = time; what = what }

abbrev pub made : Way → Command → ℕ → ℕ → List ℕ → List ℕ → ℕ → Response → List ℕ → What
made way command offset n sent enables width status got = Accessed way (record { command = command; offset = offset; length = n; sent = sent; enables = enables; width = width }) status got

-- a write and a read without options
abbrev pub wrote : ℕ → List ℕ → Response → What
wrote offset bytes status = made Blocking write_command offset (length bytes) bytes [] (length bytes) status []

abbrev pub read : ℕ → List ℕ → Response → What
read offset got status = made Blocking read_command offset (length got) (zeros (length got)) [] (length got) status got

abbrev pub deadbeef : List ℕ
deadbeef = 0xde ∷ 0xad ∷ 0xbe ∷ 0xef ∷ []

-- what was written is read back
unfoldable pub readback_plan : Plan
readback_plan = lone (Write 0x10 deadbeef [] None ∷ Read 0x10 4 [] None ∷ [])

unfoldable pub readback : List Entry
readback = entry 0 0 0 (wrote 0x10 deadbeef Ok) ∷ entry 1 1 10 (read 0x10 deadbeef Ok) ∷ []

-- an empty script
unfoldable pub empty_plan : Plan
empty_plan = lone []

-- a write that ends at the last byte, and one that goes past it
unfoldable pub past_end_plan : Plan
past_end_plan = lone (Write 0xfe (0xaa ∷ 0xbb ∷ []) [] None ∷ Write 0xff (0xcc ∷ 0xdd ∷ []) [] None ∷ [])

unfoldable pub past_end : List Entry
past_end = entry 0 0 0 (wrote 0xfe (0xaa ∷ 0xbb ∷ []) Ok) ∷ entry 1 1 10 (wrote 0xff (0xcc ∷ 0xdd ∷ []) AddressError) ∷ []

-- a write whose second enable is off: the enables repeat
unfoldable pub enables_plan : Plan
enables_plan = lone (Write 0x0 (1 ∷ 2 ∷ 3 ∷ 4 ∷ []) (0xff ∷ 0 ∷ []) None ∷ [])

unfoldable pub enables : List Entry
enables = entry 0 0 0 (made Blocking write_command 0 4 (1 ∷ 2 ∷ 3 ∷ 4 ∷ []) (0xff ∷ 0 ∷ []) 4 Ok []) ∷ []

-- a write of five bytes that streams over two places: the last byte at a place wins
unfoldable pub streaming_plan : Plan
streaming_plan = lone (Write 0x0 (1 ∷ 2 ∷ 3 ∷ 4 ∷ 5 ∷ []) [] (Some 2) ∷ [])

unfoldable pub streaming : List Entry
streaming = entry 0 0 0 (made Blocking write_command 0 5 (1 ∷ 2 ∷ 3 ∷ 4 ∷ 5 ∷ []) [] 2 Ok []) ∷ []

-- an ignore command needs no place in the memory
unfoldable pub ignore_plan : Plan
ignore_plan = lone (Ignore 0xfff ∷ [])

unfoldable pub ignored : List Entry
ignored = entry 0 0 0 (made Blocking ignore_command 0xfff 0 [] [] 0 Ok []) ∷ []

-- a debug read takes no time, and moves the bytes up to the memory's end
unfoldable pub debug_plan : Plan
debug_plan = lone (Write 0xfe (0xaa ∷ 0xbb ∷ []) [] None ∷ Debug 0xfe 4 ∷ [])

unfoldable pub debugged : List Entry
debugged = entry 0 0 0 (wrote 0xfe (0xaa ∷ 0xbb ∷ []) Ok) ∷ entry 1 1 10 (made by_debug read_command 0xfe 4 [] [] 4 Ok (0xaa ∷ 0xbb ∷ [])) ∷ []

-- an `add` that wraps, and a `copy`: each asks for a second access by what the first one read
abbrev pub ones : List ℕ
ones = 0xff ∷ 0xff ∷ 0xff ∷ 0xff ∷ []

abbrev pub one : List ℕ
one = 1 ∷ 0 ∷ 0 ∷ 0 ∷ []

unfoldable pub sum_plan : Plan
sum_plan = lone (Write 0x0 ones [] None ∷ Add 0x0 2 ∷ Copy 0x0 0x8 4 ∷ [])

unfoldable pub summed : List Entry
summed = entry 0 0 0 (wrote 0 ones Ok) ∷ entry 1 1 10 (read 0 ones Ok) ∷ entry 2 2 20 (wrote 0 one Ok) ∷ entry 3 3 30 (read 0 one Ok) ∷ entry 4 4 40 (wrote 8 one Ok) ∷ []

-- a fetch_add that wraps, and one that goes past the end: each is one entry
unfoldable pub fetch_plan : Plan
fetch_plan = lone (Write 0x0 ones [] None ∷ FetchAdd 0x0 2 ∷ Read 0x0 4 [] None ∷ FetchAdd 0xfd 1 ∷ [])

abbrev pub two : List ℕ
two = 2 ∷ 0 ∷ 0 ∷ 0 ∷ []

unfoldable pub fetched : List Entry
fetched = entry 0 0 0 (wrote 0 ones Ok) ∷ entry 1 1 10 (made Blocking fetch_add_command 0 4 two [] 4 Ok ones) ∷ entry 2 2 20 (read 0 one Ok) ∷ entry 3 3 30 (made Blocking fetch_add_command 0xfd 4 one [] 4 AddressError one) ∷ []

abbrev pub byte_read : ℕ → Operation
byte_read address = Read address 1 [] None

abbrev pub zero_read : ℕ → What
zero_read offset = read offset (0 ∷ []) Ok

-- a router of 5 ps in front of the memory: one address has no window
unfoldable pub routed_plan : Plan
routed_plan = plan_of 0 10 (Router 0) (record { name = codes "bus"; latency = 5; accept = Accept; lanes = 4; windows = record { first = 0; last = 0xff; to = Memory 0; base = 0 } ∷ [] } ∷ []) (byte_read 0x0 ∷ byte_read 0x1000 ∷ byte_read 0x1 ∷ [])

unfoldable pub routed : List Entry
routed = entry 0 0 5 (zero_read 0) ∷ entry 1 2 25 (zero_read 1) ∷ []

-- seven reads of 30 ps, under this quantum
unfoldable pub quantum_plan : ℕ → Plan
quantum_plan quantum = plan_of quantum 30 (Memory 0) [] (byte_read 0 ∷ byte_read 0 ∷ byte_read 0 ∷ byte_read 0 ∷ byte_read 0 ∷ byte_read 0 ∷ byte_read 0 ∷ [])

unfoldable pub seven_reads : List Entry
seven_reads = entry 0 0 0 (zero_read 0) ∷ entry 1 1 30 (zero_read 0) ∷ entry 2 2 60 (zero_read 0) ∷ entry 3 3 90 (zero_read 0) ∷ entry 4 4 120 (zero_read 0) ∷ entry 5 5 150 (zero_read 0) ∷ entry 6 6 180 (zero_read 0) ∷ []

-- of the plan that fetches and adds: a read and a write in the place of its first fetch_add
unfoldable pub fetched_by_two : List Entry
fetched_by_two = entry 0 0 0 (wrote 0 ones Ok) ∷ entry 1 1 10 (read 0 ones Ok) ∷ entry 2 1 10 (wrote 0 one Ok) ∷ []

-- of the same plan: the operand is answered, and not what stood there
unfoldable pub operand_answered : List Entry
operand_answered = entry 0 0 0 (wrote 0 ones Ok) ∷ entry 1 1 10 (made Blocking fetch_add_command 0 4 two [] 4 Ok two) ∷ []

-- of the plan that reads back: a read of a byte that isn't there
unfoldable pub wrong_byte : List Entry
wrong_byte = entry 0 0 0 (wrote 0x10 deadbeef Ok) ∷ entry 1 1 10 (read 0x10 (0 ∷ 0xad ∷ 0xbe ∷ 0xef ∷ []) Ok) ∷ []

-- a write that is refused at an address that there is
unfoldable pub wrong_status : List Entry
wrong_status = entry 0 0 0 (wrote 0x10 deadbeef AddressError) ∷ entry 1 1 10 (read 0x10 (zeros 4) Ok) ∷ []

-- the read stands before the write, and reads zeros
unfoldable pub swapped : List Entry
swapped = entry 0 1 10 (read 0x10 (zeros 4) Ok) ∷ entry 1 0 0 (wrote 0x10 deadbeef Ok) ∷ []

-- the write stands twice
unfoldable pub doubled : List Entry
doubled = entry 0 0 0 (wrote 0x10 deadbeef Ok) ∷ entry 1 0 0 (wrote 0x10 deadbeef Ok) ∷ entry 2 1 10 (read 0x10 deadbeef Ok) ∷ []

-- the read is missing
unfoldable pub cut_short : List Entry
cut_short = entry 0 0 0 (wrote 0x10 deadbeef Ok) ∷ []

-- the read is made at once
unfoldable pub hasty : List Entry
hasty = entry 0 0 0 (wrote 0x10 deadbeef Ok) ∷ entry 1 1 0 (read 0x10 deadbeef Ok) ∷ []
