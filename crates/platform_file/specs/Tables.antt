-- The tables of a platform file, key by key.
use Rattle.std.specs.Prelude.{ℕ, ◌-◌, ◌^◌, Bool, true, false, ◌||◌, ◌==◌, List, [], ◌∷◌, Result, Ok, Err, if◌then◌else◌, codes}
use Rattle.toml.specs.Data.{Members}
use Rattle.tlm_types.specs.declared.words.MemoryTraits.{MemoryTraits}
use Rattle.tlm_types.specs.declared.words.ReqMode.TheVariants as req
use Rattle.tlm_types.specs.declared.words.RespMode.TheVariants as resp
use Rattle.platform_model.specs.declared.fault.PlatformCode.TheVariants.{NoAccess}
use Rattle.platform_model.specs.declared.place.Place.{Place}
use Rattle.platform_model.specs.declared.place.Place.TheVariants as place
use Rattle.tlm_model.specs.declared.platform.MemoryRow.{MemoryRow}
use Rattle.platform_file.specs.declared.initiators.InitiatorKeys.{InitiatorKeys}
use Rattle.platform_file.specs.declared.routers.WindowKeys.{WindowKeys}
use Rattle.platform_file.specs.declared.routers.RouterKeys.{RouterKeys}
use Rattle.platform_file.specs.declared.top.PlatformKeys.{PlatformKeys}
use Rattle.platform_model.specs.Reading.{PlatformRefusal, refusal, rows_from}
use Rattle.tlm_types.specs.Reading.{◌>>=◌}
use Rattle.platform_file.specs.Kinds.{number, truth, name, text, sized_text, word, tables}
use Rattle.platform_file.specs.Words.{styles, responses, router_modes, memory_modes}
use Rattle.platform_file.specs.Keys.{known_keys, required_key, optional_key}

-- the names of the keys of each kind of tables
abbrev pub initiator_key_names : List (List ℕ)
initiator_key_names = codes "name" ∷ codes "style" ∷ codes "script" ∷ codes "bind" ∷ codes "pool" ∷ codes "response" ∷ []

abbrev pub window_key_names : List (List ℕ)
window_key_names = codes "first" ∷ codes "last" ∷ codes "to" ∷ codes "base" ∷ []

abbrev pub router_key_names : List (List ℕ)
router_key_names = codes "name" ∷ codes "latency" ∷ codes "accept" ∷ codes "lanes" ∷ codes "window" ∷ []

-- only version 2 has `fetch_add`
abbrev pub memory_key_names : ℕ → List (List ℕ)
memory_key_names version =
    codes "name" ∷ codes "size" ∷ codes "latency" ∷ codes "read" ∷ codes "write" ∷ codes "byte_enables"
    ∷ codes "streaming" ∷ codes "dmi" ∷ codes "gates" ∷ codes "reply" ∷ codes "lanes" ∷ (if version == 2 then codes "fetch_add" ∷ [] else [])

abbrev pub top_key_names : List (List ℕ)
top_key_names = codes "version" ∷ codes "quantum" ∷ codes "initiator" ∷ codes "router" ∷ codes "memory" ∷ []

-- an initiator
unfoldable pub initiator_keys : ℕ → Members → Result InitiatorKeys PlatformRefusal
initiator_keys i t = do
  let at = place.Initiator i
  _ ← known_keys initiator_key_names at t
  name ← required_key name at (codes "name") t
  style ← required_key (word styles) at (codes "style") t
  script ← required_key (sized_text 1 200) at (codes "script") t
  bind ← required_key text at (codes "bind") t
  pool ← optional_key (number 1 16) 4 at (codes "pool") t
  response ← optional_key (word responses) resp.Accept at (codes "response") t
  Ok (record { name = name; style = style; script = script; bind = bind; pool = pool; response = response })

-- a window of the router with this number
unfoldable pub window_keys : ℕ → ℕ → Members → Result WindowKeys PlatformRefusal
window_keys router i t = do
  let at = place.Window router i
  _ ← known_keys window_key_names at t
  first ← required_key (number 0 (2 ^ 63 - 1)) at (codes "first") t
  last ← required_key (number 0 (2 ^ 63 - 1)) at (codes "last") t
  to ← required_key text at (codes "to") t
  base ← optional_key (number 0 (2 ^ 63 - 1)) 0 at (codes "base") t
  Ok (record { first = first; last = last; to = to; base = base })

-- a router with its windows
unfoldable pub router_keys : ℕ → Members → Result RouterKeys PlatformRefusal
router_keys i t = do
  let at = place.Router i
  _ ← known_keys router_key_names at t
  name ← required_key name at (codes "name") t
  latency ← optional_key (number 0 (10 ^ 12)) 0 at (codes "latency") t
  accept ← optional_key (word router_modes) req.Accept at (codes "accept") t
  lanes ← optional_key (number 1 16) 4 at (codes "lanes") t
  windows ← optional_key (tables 0 16) [] at (codes "window") t
  windows ← rows_from (window_keys i) 0 windows
  Ok (record { name = name; latency = latency; accept = accept; lanes = lanes; windows = windows })

-- whether a memory allows a fetch_add beside its reads and writes: in version 1 none does
abbrev pub fetch_add_key : ℕ → Place → Members → Result Bool PlatformRefusal
fetch_add_key version at t = if version == 2 then optional_key truth true at (codes "fetch_add") t else Ok false

-- the traits of a memory of this version
unfoldable pub memory_traits : ℕ → Place → Members → Result MemoryTraits PlatformRefusal
memory_traits version at t = do
  size ← required_key (number 1 16777216) at (codes "size") t
  latency ← optional_key (number 0 (10 ^ 12)) 0 at (codes "latency") t
  read ← optional_key truth true at (codes "read") t
  write ← optional_key truth true at (codes "write") t
  fetch_add ← fetch_add_key version at t
  enables ← optional_key truth true at (codes "byte_enables") t
  streaming ← optional_key truth true at (codes "streaming") t
  dmi ← optional_key truth true at (codes "dmi") t
  gates ← optional_key (number 1 256) 16 at (codes "gates") t
  Ok (record { size = size; latency = latency; readable = read; writable = write; fetch_add = fetch_add; enables = enables; streaming = streaming; dmi = dmi; gates = gates })

-- a memory of this version, which can be read or written
unfoldable pub memory_row : ℕ → ℕ → Members → Result MemoryRow PlatformRefusal
memory_row version i t = do
  let at = place.Memory i
  _ ← known_keys (memory_key_names version) at t
  name ← required_key name at (codes "name") t
  traits ← memory_traits version at t
  reply ← optional_key (word memory_modes) req.Accept at (codes "reply") t
  lanes ← optional_key (number 1 16) 4 at (codes "lanes") t
  if traits.readable || traits.writable then Ok (record { name = name; traits = traits; reply = reply; lanes = lanes }) else Err (refusal NoAccess at (codes "read"))

-- the top table, then the initiators, the routers with their windows, and the memories
unfoldable pub platform_keys : Members → Result PlatformKeys PlatformRefusal
platform_keys t = do
  let at = place.Top
  _ ← known_keys top_key_names at t
  version ← required_key (number 1 2) at (codes "version") t
  quantum ← optional_key (number 0 (10 ^ 15)) 0 at (codes "quantum") t
  initiators ← required_key (tables 1 32) at (codes "initiator") t
  routers ← optional_key (tables 0 16) [] at (codes "router") t
  memories ← required_key (tables 1 16) at (codes "memory") t
  initiators ← rows_from initiator_keys 0 initiators
  routers ← rows_from router_keys 0 routers
  memories ← rows_from (memory_row version) 0 memories
  Ok (record { version = version; quantum = quantum; initiators = initiators; routers = routers; memories = memories })
