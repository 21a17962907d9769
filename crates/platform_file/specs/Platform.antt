-- The platform of some bytes, or its first fault.
use Rattle.std.specs.Prelude.{ℕ, List, sum_by, Option, Some, None, Result, Ok, Err, if◌then◌else◌, nat_lt, codes}
use Rattle.std.specs.Str.{is_utf8}
use Rattle.addr_router.specs.declared.window.WindowFault.{WindowFault}
use Rattle.addr_router.specs.declared.window.WindowFault.TheVariants as window
use Rattle.addr_router.specs.Windows.{window_fault}
use Rattle.toml.specs.Data.{Members}
use Rattle.toml.specs.Parse.{parse_document}
use Rattle.platform_model.specs.declared.fault.PlatformCode.TheVariants.{Syntax, EmptyWindow, PastEnd, Overlap, TooMuchMemory, TooManyGates}
use Rattle.platform_model.specs.declared.place.Place.TheVariants as place
use Rattle.tlm_model.specs.declared.platform.InitiatorRow.{InitiatorRow}
use Rattle.tlm_model.specs.declared.platform.WindowRow.{WindowRow}
use Rattle.tlm_model.specs.declared.platform.RouterRow.{RouterRow}
use Rattle.tlm_model.specs.declared.platform.MemoryRow.{MemoryRow}
use Rattle.tlm_model.specs.declared.platform.Platform.{Platform}
use Rattle.platform_file.specs.declared.initiators.InitiatorKeys.{InitiatorKeys}
use Rattle.platform_file.specs.declared.routers.WindowKeys.{WindowKeys}
use Rattle.platform_file.specs.declared.routers.RouterKeys.{RouterKeys}
use Rattle.platform_model.specs.Place.{indexed}
use Rattle.platform_model.specs.Reading.{PlatformRefusal, refusal, rows_from}
use Rattle.platform_model.specs.Windows.{windows_of}
use Rattle.tlm_types.specs.Reading.{◌>>=◌}
use Rattle.platform_file.specs.Names.{Names, names_of, target_of}
use Rattle.platform_file.specs.Tables.{platform_keys}

-- an initiator with what its socket is bound to
unfoldable pub bound_initiator : Names → ℕ → InitiatorKeys → Result InitiatorRow PlatformRefusal
bound_initiator names i r = do
  target ← target_of names (place.Initiator i) (codes "bind") r.bind
  Ok (record { name = r.name; style = r.style; script = r.script; bind = target; pool = r.pool; response = r.response })

-- a window with what it leads to
unfoldable pub bound_window : Names → ℕ → ℕ → WindowKeys → Result WindowRow PlatformRefusal
bound_window names router i w = do
  target ← target_of names (place.Window router i) (codes "to") w.to
  Ok (record { first = w.first; last = w.last; to = target; base = w.base })

-- a router with what its windows lead to
unfoldable pub bound_router : Names → ℕ → RouterKeys → Result RouterRow PlatformRefusal
bound_router names i r = do
  windows ← rows_from (bound_window names i) 0 r.windows
  Ok (record { name = r.name; latency = r.latency; accept = r.accept; lanes = r.lanes; windows = windows })

-- that the windows of a router have no fault: want of memory is none
abbrev pub refused_windows : ℕ → Option WindowFault → Result (Unit {0}) PlatformRefusal
refused_windows router None = Ok tt
refused_windows router (Some (window.Empty row)) = Err (refusal EmptyWindow (place.Window router row) (codes "first"))
refused_windows router (Some (window.PastEnd row)) = Err (refusal PastEnd (place.Window router row) (codes "base"))
refused_windows router (Some (window.Overlap a b)) = Err (refusal Overlap (place.Window router b) (indexed (codes "window[") a (codes "]")))
refused_windows router (Some window.Memory) = Ok tt

-- the test of a router's windows
abbrev pub checked_windows : ℕ → RouterRow → Result (Unit {0}) PlatformRefusal
checked_windows i r = refused_windows i (window_fault (windows_of r))

-- that the sizes of the memories, and then their gates, are within their limits
abbrev pub checked_sums : List MemoryRow → Result (Unit {0}) PlatformRefusal
checked_sums ms =
    if nat_lt 67108864 (sum_by (λ m. m.traits.size) ms) then Err (refusal TooMuchMemory place.Top (codes "memory"))
    else if nat_lt 1024 (sum_by (λ m. m.traits.gates) ms) then Err (refusal TooManyGates place.Top (codes "memory"))
    else Ok tt

-- the platform of a document's table
unfoldable pub platform_of_table : Members → Result Platform PlatformRefusal
platform_of_table t = do
  keys ← platform_keys t
  names ← names_of keys
  initiators ← rows_from (bound_initiator names) 0 keys.initiators
  routers ← rows_from (bound_router names) 0 keys.routers
  _ ← rows_from checked_windows 0 routers
  _ ← checked_sums keys.memories
  Ok (record { version = keys.version; quantum = keys.quantum; initiators = initiators; routers = routers; memories = keys.memories })

-- the table of the document that some bytes are
unfoldable pub document_of : List ℕ → Option Members
document_of bytes = if is_utf8 bytes then parse_document bytes else None

-- the platform of a document, if there is one
abbrev pub platform_of_document : Option Members → Result Platform PlatformRefusal
platform_of_document None = Err (refusal Syntax place.Top (codes "-"))
platform_of_document (Some t) = platform_of_table t

-- the platform of some bytes
abbrev pub platform_of : List ℕ → Result Platform PlatformRefusal
platform_of bytes = platform_of_document (document_of bytes)
