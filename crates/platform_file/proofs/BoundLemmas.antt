-- A platform that a file describes is bounded.
use Rattle.std.proofs.Common.{◌≡◌, ◌≢◌, ℕ, suc, ◌+◌, ◌^◌, ◌<◌, ◌≤◌, Bool, true, false, ◌||◌, List, [], ◌∷◌, ◌++◌, length, map, get_or, Option, Some, None, Result, Ok, Err, refl, sym, ap, subst, ◌∙◌, arith, ltb, sum_by, lit≤}
use Rattle.std.specs.Prelude.{All, IfOk, IsTrue, codes, if◌then◌else◌}
use Rattle.std.specs.List.{AllPairs}
use Rattle.std.specs.Str.{bytes_eq}
use Rattle.std.proofs.lemmas.Bool.{lt-ltb, ltb-false}
use Rattle.std.proofs.lemmas.List.Elements.{All-nil, All-cons, All-same, All-push, All-tail, All-head}
use Rattle.addr_router.proofs.FaultLemmas.{fault_not_memory, valid_from_none}
use Rattle.addr_router.specs.declared.window.WindowFault.{WindowFault}
use Rattle.addr_router.specs.declared.window.WindowFault.TheVariants as window
use Rattle.addr_router.specs.Windows.{IsValid, window_fault}
use Rattle.toml.specs.Data.{Members, get_member}
use Rattle.tlm_types.specs.declared.words.MemoryTraits.{MemoryTraits}
use Rattle.tlm_types.specs.declared.words.ReqMode.{ReqMode}
use Rattle.tlm_types.specs.declared.words.ReqMode.TheVariants as req
use Rattle.tlm_types.specs.declared.words.RespMode.TheVariants as resp
use Rattle.tlm_model.specs.declared.platform.InitiatorRow.{InitiatorRow}
use Rattle.tlm_model.specs.declared.platform.MemoryRow.{MemoryRow}
use Rattle.tlm_model.specs.declared.platform.Platform.{Platform}
use Rattle.tlm_model.specs.declared.platform.RouterRow.{RouterRow}
use Rattle.tlm_model.specs.declared.platform.WindowRow.{WindowRow}
use Rattle.tlm_model.specs.declared.platform.Target.{Target}
use Rattle.tlm_model.specs.declared.platform.Target.TheVariants.{Router, Memory}
use Rattle.platform_model.specs.declared.fault.PlatformFault.{PlatformFault}
use Rattle.platform_model.specs.declared.place.Place.{Place}
use Rattle.platform_model.specs.declared.place.Place.TheVariants as place
use Rattle.platform_file.specs.declared.initiators.InitiatorKeys.{InitiatorKeys}
use Rattle.platform_file.specs.declared.routers.WindowKeys.{WindowKeys}
use Rattle.platform_file.specs.declared.routers.RouterKeys.{RouterKeys}
use Rattle.platform_file.specs.declared.top.PlatformKeys.{PlatformKeys}
use Rattle.platform_model.specs.Reading.{PlatformRefusal, Gives, rows_from}
use Rattle.platform_file.specs.Keys.{known_keys, required_key, optional_key}
use Rattle.platform_model.specs.Name.{is_name}
use Rattle.platform_file.specs.Kinds.{number, truth, name, text, sized_text, word, tables}
use Rattle.platform_file.specs.Words.{styles, responses, router_modes, memory_modes}
use Rattle.platform_file.specs.Names.{Names, Bearer, find_name, named_after, with_name, with_names, initiator_bears, router_bears, memory_bears, names_of, found_target, target_of}
use Rattle.platform_file.specs.Tables.{initiator_key_names, router_key_names, memory_key_names, top_key_names, initiator_keys, window_keys, router_keys, fetch_add_key, memory_traits, memory_row, platform_keys}
use Rattle.platform_model.specs.Windows.{windows_of}
use Rattle.platform_file.specs.Platform.{bound_initiator, bound_window, bound_router, refused_windows, checked_windows, checked_sums, platform_of_table}
use Rattle.platform_model.specs.Bounded.{is_there, is_router_mode, names_in, IsBoundedInitiator, IsBoundedRouter, IsBoundedMemory, IsBounded}
use Rattle.platform_file.proofs.OwnNames.{key_names, own_key_names, rows_named}
use Rattle.platform_model.proofs.ReadLemmas.{no_ok, ok_same, bind_ok, if_ok, unless_ok, rows_all, rows_count, rows_passed}
use Rattle.platform_file.proofs.KeyLemmas.{required_name, required_number, optional_number, optional_word, required_tables, optional_tables}

record TraitsAreBounded (t : MemoryTraits) : Type 0 where
  some_bytes : 1 ≤ t.size
  size : t.size ≤ 16777216
  latency : t.latency ≤ 10 ^ 12
  some_gates : 1 ≤ t.gates
  gates : t.gates ≤ 256

traits_are_bounded : (version : ℕ) (at : Place) (t : Members) (traits : MemoryTraits) → memory_traits version at t ≡ Ok traits → TraitsAreBounded traits
unfolding memory_traits
traits_are_bounded version at t traits h =
    bind_ok (required_key (number 1 16777216) at (codes "size") t) _ _ h (λ size size_read h1.
    bind_ok (optional_key (number 0 (10 ^ 12)) 0 at (codes "latency") t) _ _ h1 (λ latency latency_read h2.
    bind_ok (optional_key truth true at (codes "read") t) _ _ h2 (λ read read_read h3.
    bind_ok (optional_key truth true at (codes "write") t) _ _ h3 (λ write write_read h4.
    bind_ok (fetch_add_key version at t) _ _ h4 (λ fetch fetch_read h5.
    bind_ok (optional_key truth true at (codes "byte_enables") t) _ _ h5 (λ enables enables_read h6.
    bind_ok (optional_key truth true at (codes "streaming") t) _ _ h6 (λ streaming streaming_read h7.
    bind_ok (optional_key truth true at (codes "dmi") t) _ _ h7 (λ dmi dmi_read h8.
    bind_ok (optional_key (number 1 256) 16 at (codes "gates") t) _ _ h8 (λ gates gates_read h9.
    let s = required_number 1 16777216 at (codes "size") (get_member (codes "size") t) size size_read in
    let l = optional_number 0 (10 ^ 12) 0 at (codes "latency") (get_member (codes "latency") t) latency (lit≤ tt) (lit≤ tt) latency_read in
    let g = optional_number 1 256 16 at (codes "gates") (get_member (codes "gates") t) gates (lit≤ tt) (lit≤ tt) gates_read in
    subst TraitsAreBounded (ok_same (record { size = size; latency = latency; readable = read; writable = write; fetch_add = fetch; enables = enables; streaming = streaming; dmi = dmi; gates = gates }) traits h9) (record { some_bytes = s.0; size = s.1; latency = l.1; some_gates = g.0; gates = g.1 }))))))))))

memory_is_bounded : (version i : ℕ) (t : Members) (m : MemoryRow) → memory_row version i t ≡ Ok m → IsBoundedMemory m
unfolding memory_row
memory_is_bounded version i t m h =
    bind_ok (known_keys (memory_key_names version) (place.Memory i) t) _ _ h (λ known known_read h1.
    bind_ok (required_key name (place.Memory i) (codes "name") t) _ _ h1 (λ n name_read h2.
    bind_ok (memory_traits version (place.Memory i) t) _ _ h2 (λ traits traits_read h3.
    bind_ok (optional_key (word memory_modes) req.Accept (place.Memory i) (codes "reply") t) _ _ h3 (λ reply reply_read h4.
    bind_ok (optional_key (number 1 16) 4 (place.Memory i) (codes "lanes") t) _ _ h4 (λ lanes lanes_read h5.
    let b = traits_are_bounded version (place.Memory i) t traits traits_read in
    let l = optional_number 1 16 4 (place.Memory i) (codes "lanes") (get_member (codes "lanes") t) lanes (lit≤ tt) (lit≤ tt) lanes_read in
    let p = if_ok (traits.readable || traits.writable) (record { name = n; traits = traits; reply = reply; lanes = lanes }) _ m h5 in
    let named = required_name (place.Memory i) (codes "name") (get_member (codes "name") t) n name_read in
    subst IsBoundedMemory p.1 (record { named = named; some_bytes = b.some_bytes; size = b.size; latency = b.latency; access = p.0; some_gates = b.some_gates; gates = b.gates; some_lanes = l.0; lanes = l.1 }))))))

record InitiatorKeysAreBounded (i : InitiatorKeys) : Type 0 where
  named : IsTrue (is_name i.name)
  some_slots : 1 ≤ i.pool
  slots : i.pool ≤ 16

initiator_keys_are_bounded : (i : ℕ) (t : Members) (k : InitiatorKeys) → initiator_keys i t ≡ Ok k → InitiatorKeysAreBounded k
unfolding initiator_keys
initiator_keys_are_bounded i t k h =
    bind_ok (known_keys initiator_key_names (place.Initiator i) t) _ _ h (λ known known_read h1.
    bind_ok (required_key name (place.Initiator i) (codes "name") t) _ _ h1 (λ n name_read h2.
    bind_ok (required_key (word styles) (place.Initiator i) (codes "style") t) _ _ h2 (λ style style_read h3.
    bind_ok (required_key (sized_text 1 200) (place.Initiator i) (codes "script") t) _ _ h3 (λ script script_read h4.
    bind_ok (required_key text (place.Initiator i) (codes "bind") t) _ _ h4 (λ bind bind_read h5.
    bind_ok (optional_key (number 1 16) 4 (place.Initiator i) (codes "pool") t) _ _ h5 (λ pool pool_read h6.
    bind_ok (optional_key (word responses) resp.Accept (place.Initiator i) (codes "response") t) _ _ h6 (λ response response_read h7.
    let p = optional_number 1 16 4 (place.Initiator i) (codes "pool") (get_member (codes "pool") t) pool (lit≤ tt) (lit≤ tt) pool_read in
    let named = required_name (place.Initiator i) (codes "name") (get_member (codes "name") t) n name_read in
    subst InitiatorKeysAreBounded (ok_same (record { name = n; style = style; script = script; bind = bind; pool = pool; response = response }) k h7) (record { named = named; some_slots = p.0; slots = p.1 }))))))))

record RouterKeysAreBounded (r : RouterKeys) : Type 0 where
  named : IsTrue (is_name r.name)
  latency : r.latency ≤ 10 ^ 12
  accept : IsTrue (is_router_mode r.accept)
  some_lanes : 1 ≤ r.lanes
  lanes : r.lanes ≤ 16
  windows : length r.windows ≤ 16

router_keys_are_bounded : (i : ℕ) (t : Members) (r : RouterKeys) → router_keys i t ≡ Ok r → RouterKeysAreBounded r
unfolding router_keys
router_keys_are_bounded i t r h =
    bind_ok (known_keys router_key_names (place.Router i) t) _ _ h (λ known known_read h1.
    bind_ok (required_key name (place.Router i) (codes "name") t) _ _ h1 (λ n name_read h2.
    bind_ok (optional_key (number 0 (10 ^ 12)) 0 (place.Router i) (codes "latency") t) _ _ h2 (λ latency latency_read h3.
    bind_ok (optional_key (word router_modes) req.Accept (place.Router i) (codes "accept") t) _ _ h3 (λ accept accept_read h4.
    bind_ok (optional_key (number 1 16) 4 (place.Router i) (codes "lanes") t) _ _ h4 (λ lanes lanes_read h5.
    bind_ok (optional_key (tables 0 16) [] (place.Router i) (codes "window") t) _ _ h5 (λ ts ts_read h6.
    bind_ok (rows_from (window_keys i) 0 ts) _ _ h6 (λ windows windows_read h7.
    let y = optional_number 0 (10 ^ 12) 0 (place.Router i) (codes "latency") (get_member (codes "latency") t) latency (lit≤ tt) (lit≤ tt) latency_read in
    let l = optional_number 1 16 4 (place.Router i) (codes "lanes") (get_member (codes "lanes") t) lanes (lit≤ tt) (lit≤ tt) lanes_read in
    let a = optional_word (λ (m : ReqMode). IsTrue (is_router_mode m)) router_modes req.Accept (place.Router i) (codes "accept") (get_member (codes "accept") t) accept (refl, (refl, tt)) refl accept_read in
    let w = optional_tables 16 (place.Router i) (codes "window") (get_member (codes "window") t) ts ts_read in
    let count = rows_count (window_keys i) 0 ts windows windows_read in
    let named = required_name (place.Router i) (codes "name") (get_member (codes "name") t) n name_read in
    subst RouterKeysAreBounded (ok_same (record { name = n; latency = latency; accept = accept; lanes = lanes; windows = windows }) r h7) (record { named = named; latency = y.1; accept = a; some_lanes = l.0; lanes = l.1; windows = omega arith }))))))))

record KeysAreBounded (k : PlatformKeys) : Type 0 where
  quantum : k.quantum ≤ 10 ^ 15
  some_initiator : 1 ≤ length k.initiators
  initiator_count : length k.initiators ≤ 32
  router_count : length k.routers ≤ 16
  some_memory : 1 ≤ length k.memories
  memory_count : length k.memories ≤ 16
  initiators : All InitiatorKeysAreBounded k.initiators
  routers : All RouterKeysAreBounded k.routers
  memories : All IsBoundedMemory k.memories

keys_are_bounded : (t : Members) (k : PlatformKeys) → platform_keys t ≡ Ok k → KeysAreBounded k
unfolding platform_keys
keys_are_bounded t k h =
    bind_ok (known_keys top_key_names place.Top t) _ _ h (λ known known_read h1.
    bind_ok (required_key (number 1 2) place.Top (codes "version") t) _ _ h1 (λ version version_read h2.
    bind_ok (optional_key (number 0 (10 ^ 15)) 0 place.Top (codes "quantum") t) _ _ h2 (λ quantum quantum_read h3.
    bind_ok (required_key (tables 1 32) place.Top (codes "initiator") t) _ _ h3 (λ is is_read h4.
    bind_ok (optional_key (tables 0 16) [] place.Top (codes "router") t) _ _ h4 (λ rs rs_read h5.
    bind_ok (required_key (tables 1 16) place.Top (codes "memory") t) _ _ h5 (λ ms ms_read h6.
    bind_ok (rows_from initiator_keys 0 is) _ _ h6 (λ initiators initiators_read h7.
    bind_ok (rows_from router_keys 0 rs) _ _ h7 (λ routers routers_read h8.
    bind_ok (rows_from (memory_row version) 0 ms) _ _ h8 (λ memories memories_read h9.
    let q = optional_number 0 (10 ^ 15) 0 place.Top (codes "quantum") (get_member (codes "quantum") t) quantum (lit≤ tt) (lit≤ tt) quantum_read in
    let i = required_tables 1 32 place.Top (codes "initiator") (get_member (codes "initiator") t) is is_read in
    let r = optional_tables 16 place.Top (codes "router") (get_member (codes "router") t) rs rs_read in
    let m = required_tables 1 16 place.Top (codes "memory") (get_member (codes "memory") t) ms ms_read in
    let ni = rows_count initiator_keys 0 is initiators initiators_read in
    let nr = rows_count router_keys 0 rs routers routers_read in
    let nm = rows_count (memory_row version) 0 ms memories memories_read in
    subst KeysAreBounded (ok_same (record { version = version; quantum = quantum; initiators = initiators; routers = routers; memories = memories }) k h9) (record {
      quantum = q.1;
      some_initiator = omega arith;
      initiator_count = omega arith;
      router_count = omega arith;
      some_memory = omega arith;
      memory_count = omega arith;
      initiators = rows_all InitiatorKeysAreBounded initiator_keys initiator_keys_are_bounded 0 is initiators initiators_read;
      routers = rows_all RouterKeysAreBounded router_keys router_keys_are_bounded 0 rs routers routers_read;
      memories = rows_all IsBoundedMemory (memory_row version) (memory_is_bounded version) 0 ms memories memories_read;
    }))))))))))

-- a target is one of so many routers and memories
abbrev there : ℕ → ℕ → Target → Bool
there rs ms (Router r) = ltb r rs
there rs ms (Memory m) = ltb m ms

abbrev NameIsThere : ℕ → ℕ → List ℕ × Option Target → Type 0
NameIsThere rs ms n = (t : Target) → n.1 ≡ Some t → there rs ms t ≡ true

named_are_there : (rs ms : ℕ) (found : Option (Option Target)) (names more : Names) (b : Bearer) → All (NameIsThere rs ms) names → NameIsThere rs ms (b.name, b.target) → named_after found names b ≡ Ok more → All (NameIsThere rs ms) more
named_are_there rs ms None names more b all one h = All-same (NameIsThere rs ms) more (names ++ (b.name, b.target) ∷ []) (sym (ok_same _ _ h)) (All-push (NameIsThere rs ms) names (b.name, b.target) all one)
named_are_there rs ms (Some t) names more b all one h = absurd (no_ok _ more h)

with_names_are_there : {A : Type 0} (rs ms : ℕ) (bears : ℕ → A → Bearer) (i : ℕ) (rows : List A) (names more : Names)
    → ((k : ℕ) (x : A) → k < length rows → NameIsThere rs ms ((bears (i + k) x).name, (bears (i + k) x).target))
    → All (NameIsThere rs ms) names → with_names bears i rows names ≡ Ok more → All (NameIsThere rs ms) more
unfolding with_names
with_names_are_there rs ms bears i [] names more each all h = All-same (NameIsThere rs ms) more names (sym (ok_same _ _ h)) all
with_names_are_there rs ms bears i (x ∷ rows) names more each all h =
    bind_ok (with_name names (bears i x)) _ _ h (λ next next_read h1.
    let first : i + 0 ≡ i = omega arith in
    let one : NameIsThere rs ms ((bears i x).name, (bears i x).target) = subst (λ (n : ℕ). NameIsThere rs ms ((bears n x).name, (bears n x).target)) first (each 0 x (omega arith)) in
    let step : (k : ℕ) → i + suc k ≡ i + 1 + k = λ k. omega arith in
    with_names_are_there rs ms bears (i + 1) rows next more
    (λ k y below. subst (λ (n : ℕ). NameIsThere rs ms ((bears n y).name, (bears n y).target)) (step k) (each (suc k) y (omega arith)))
    (named_are_there rs ms (find_name (bears i x).name names) names next (bears i x) all one next_read) h1)

some_same : {A : Type 0} (x y : A) → ◌≡◌ {A = Option A} (Some x) (Some y) → x ≡ y
some_same x y h = cc

none_is_there : (rs ms : ℕ) (name : List ℕ) → NameIsThere rs ms (name, None)
none_is_there rs ms name t h = cc

router_is_there : (rs ms r : ℕ) (name : List ℕ) → r < rs → NameIsThere rs ms (name, Some (Router r))
router_is_there rs ms r name below t h = subst (λ (t : Target). there rs ms t ≡ true) (some_same _ t h) (lt-ltb r rs below)

memory_is_there : (rs ms m : ℕ) (name : List ℕ) → m < ms → NameIsThere rs ms (name, Some (Memory m))
memory_is_there rs ms m name below t h = subst (λ (t : Target). there rs ms t ≡ true) (some_same _ t h) (lt-ltb m ms below)

names_are_there : (k : PlatformKeys) (names : Names) → names_of k ≡ Ok names → All (NameIsThere (length k.routers) (length k.memories)) names
unfolding names_of
names_are_there k names h =
    let rs : ℕ = length k.routers in
    let ms : ℕ = length k.memories in
    bind_ok (with_names initiator_bears 0 k.initiators []) _ _ h (λ first first_read h1.
    bind_ok (with_names router_bears 0 k.routers first) _ _ h1 (λ second second_read third_read.
    with_names_are_there rs ms memory_bears 0 k.memories second names (λ n x below. memory_is_there rs ms (0 + n) x.name (omega arith))
    (with_names_are_there rs ms router_bears 0 k.routers first second (λ n x below. router_is_there rs ms (0 + n) x.name (omega arith))
    (with_names_are_there rs ms initiator_bears 0 k.initiators [] first (λ n x below. none_is_there rs ms x.name) (All-nil (NameIsThere rs ms)) first_read) second_read) third_read))

found_by : (rs ms : ℕ) (same : Bool) (n : List ℕ × Option Target) (others : Option (Option Target)) (t : Target) → NameIsThere rs ms n → (others ≡ Some (Some t) → there rs ms t ≡ true) → (if same then Some n.1 else others) ≡ Some (Some t) → there rs ms t ≡ true
found_by rs ms true n others t one rest h = one t (some_same _ _ h)
found_by rs ms false n others t one rest h = rest h

found_is_there : (rs ms : ℕ) (name : List ℕ) (names : Names) (t : Target) → All (NameIsThere rs ms) names → find_name name names ≡ Some (Some t) → there rs ms t ≡ true
found_is_there rs ms name [] t all h = cc
found_is_there rs ms name (n ∷ names) t all h =
    found_by rs ms (bytes_eq name n.0) n (find_name name names) t (All-head (NameIsThere rs ms) n names all)
    (λ rest. found_is_there rs ms name names t (All-tail (NameIsThere rs ms) n names all) rest) h

found_ok : (at : Place) (key : List ℕ) (found : Option (Option Target)) (t : Target) → found_target at key found ≡ Ok t → found ≡ Some (Some t)
found_ok at key (Some (Some u)) t h = ap (λ (x : Target). Some (Some x)) (ok_same _ _ h)
found_ok at key (Some None) t h = absurd (no_ok _ t h)
found_ok at key None t h = absurd (no_ok _ t h)

target_is_there : (rs ms : ℕ) (names : Names) (at : Place) (key name : List ℕ) (t : Target) → All (NameIsThere rs ms) names → target_of names at key name ≡ Ok t → there rs ms t ≡ true
target_is_there rs ms names at key name t all h = found_is_there rs ms name names t all (found_ok at key (find_name name names) t h)

-- a row with what its name leads to
record InitiatorIsBound (rs ms : ℕ) (k : InitiatorKeys) (i : InitiatorRow) : Type 0 where
  name : i.name ≡ k.name
  pool : i.pool ≡ k.pool
  bind : there rs ms i.bind ≡ true

initiator_is_bound : (rs ms : ℕ) (names : Names) → All (NameIsThere rs ms) names → (n : ℕ) (k : InitiatorKeys) (i : InitiatorRow) → bound_initiator names n k ≡ Ok i → InitiatorIsBound rs ms k i
unfolding bound_initiator
initiator_is_bound rs ms names all n k i h =
    bind_ok (target_of names (place.Initiator n) (codes "bind") k.bind) _ _ h (λ target target_read h1.
    subst (InitiatorIsBound rs ms k) (ok_same _ i h1) (record { name = refl; pool = refl; bind = target_is_there rs ms names (place.Initiator n) (codes "bind") k.bind target all target_read }))

window_leads : (rs ms : ℕ) (names : Names) → All (NameIsThere rs ms) names → (router n : ℕ) (k : WindowKeys) (w : WindowRow) → bound_window names router n k ≡ Ok w → there rs ms w.to ≡ true
unfolding bound_window
window_leads rs ms names all router n k w h =
    bind_ok (target_of names (place.Window router n) (codes "to") k.to) _ _ h (λ target target_read h1.
    subst (λ (w : WindowRow). there rs ms w.to ≡ true) (ok_same _ w h1) (target_is_there rs ms names (place.Window router n) (codes "to") k.to target all target_read))

record RouterIsBound (rs ms : ℕ) (k : RouterKeys) (r : RouterRow) : Type 0 where
  name : r.name ≡ k.name
  latency : r.latency ≡ k.latency
  accept : r.accept ≡ k.accept
  lanes : r.lanes ≡ k.lanes
  windows : length r.windows ≡ length k.windows
  targets : All (λ (w : WindowRow). there rs ms w.to ≡ true) r.windows

router_is_bound : (rs ms : ℕ) (names : Names) → All (NameIsThere rs ms) names → (n : ℕ) (k : RouterKeys) (r : RouterRow) → bound_router names n k ≡ Ok r → RouterIsBound rs ms k r
unfolding bound_router
router_is_bound rs ms names all n k r h =
    bind_ok (rows_from (bound_window names n) 0 k.windows) _ _ h (λ windows windows_read h1.
    subst (RouterIsBound rs ms k) (ok_same _ r h1) (record {
      name = refl;
      latency = refl;
      accept = refl;
      lanes = refl;
      windows = rows_count (bound_window names n) 0 k.windows windows windows_read;
      targets = rows_all (λ (w : WindowRow). there rs ms w.to ≡ true) (bound_window names n) (window_leads rs ms names all n) 0 k.windows windows windows_read;
    }))

no_fault : (i : ℕ) (fault : Option WindowFault) → (fault ≡ Some window.Memory → ⊥) → refused_windows i fault ≡ Ok tt → fault ≡ None
no_fault i None other h = refl
no_fault i (Some (window.Empty row)) other h = absurd (no_ok _ tt h)
no_fault i (Some (window.PastEnd row)) other h = absurd (no_ok _ tt h)
no_fault i (Some (window.Overlap a b)) other h = absurd (no_ok _ tt h)
no_fault i (Some window.Memory) other h = absurd (other refl)

windows_are_valid : (i : ℕ) (r : RouterRow) → checked_windows i r ≡ Ok tt → IsValid (windows_of r)
windows_are_valid i r h = valid_from_none (windows_of r) (no_fault i (window_fault (windows_of r)) (fault_not_memory (windows_of r)) h)

sums_are_bounded : (ms : List MemoryRow) (u : Unit {0}) → checked_sums ms ≡ Ok u → (sum_by (λ (m : MemoryRow). m.traits.size) ms ≤ 67108864) × (sum_by (λ (m : MemoryRow). m.traits.gates) ms ≤ 1024)
sums_are_bounded ms u h =
    let size = sum_by (λ (m : MemoryRow). m.traits.size) ms in
    let gates = sum_by (λ (m : MemoryRow). m.traits.gates) ms in
    let p = unless_ok (ltb 67108864 size) _ _ u h in
    let q = unless_ok (ltb 1024 gates) _ _ u p.1 in
    (ltb-false 67108864 size p.0, ltb-false 1024 gates q.0)

is_there_by_counts : (p : Platform) (rs ms : ℕ) (t : Target) → length p.routers ≡ rs → length p.memories ≡ ms → there rs ms t ≡ true → is_there p t ≡ true
is_there_by_counts p rs ms (Router r) same_rs same_ms h = ap (ltb r) same_rs ∙ h
is_there_by_counts p rs ms (Memory m) same_rs same_ms h = ap (ltb m) same_ms ∙ h

-- what holds of rows and of what each was made of
rows_made : {A X : Type 0} (P : X → Type 0) (R : X → A → Type 0) (Q : A → Type 0) (read : ℕ → X → Result A PlatformRefusal)
    → ((i : ℕ) (x : X) (a : A) → read i x ≡ Ok a → R x a) → ((x : X) (a : A) → P x → R x a → Q a)
    → (i : ℕ) (xs : List X) (rows : List A) → All P xs → rows_from read i xs ≡ Ok rows → All Q rows
unfolding rows_from
rows_made P R Q read each made i [] rows all h = All-same Q rows [] (sym (ok_same _ _ h)) (All-nil Q)
rows_made P R Q read each made i (x ∷ xs) rows all h =
    bind_ok (read i x) _ _ h (λ a first h1. bind_ok _ _ _ h1 (λ more rest h2.
    All-same Q rows (a ∷ more) (sym (ok_same _ _ h2))
    (All-cons Q a more (made x a (All-head P x xs all) (each i x a first)) (rows_made P R Q read each made (i + 1) xs more (All-tail P x xs all) rest))))

-- a router of a platform whose routers have passed the test of windows
record RouterParts (rs ms : ℕ) (r : RouterRow) : Type 0 where
  named : IsTrue (is_name r.name)
  latency : r.latency ≤ 10 ^ 12
  accept : IsTrue (is_router_mode r.accept)
  some_lanes : 1 ≤ r.lanes
  lanes : r.lanes ≤ 16
  window_count : length r.windows ≤ 16
  targets : All (λ (w : WindowRow). there rs ms w.to ≡ true) r.windows

router_parts : (rs ms : ℕ) (k : RouterKeys) (r : RouterRow) → RouterKeysAreBounded k → RouterIsBound rs ms k r → RouterParts rs ms r
router_parts rs ms k r keys bound = record {
  named = subst (λ (n : List ℕ). IsTrue (is_name n)) (sym bound.name) keys.named;
  latency = omega (arith, keys.latency, bound.latency);
  accept = subst (λ (m : ReqMode). IsTrue (is_router_mode m)) (sym bound.accept) keys.accept;
  some_lanes = omega (arith, keys.some_lanes, bound.lanes);
  lanes = omega (arith, keys.lanes, bound.lanes);
  window_count = omega (arith, keys.windows, bound.windows);
  targets = bound.targets;
}

both : {X : Type 0} (P Q R : X → Type 0) → ((x : X) → P x → Q x → R x) → (xs : List X) → All P xs → All Q xs → All R xs
both P Q R h xs p q k d below = h (get_or xs k d) (p k d below) (q k d below)

-- a platform has the names of its keys
same_names : (k : PlatformKeys) (names : Names) (initiators : List InitiatorRow) (routers : List RouterRow) → All (NameIsThere (length k.routers) (length k.memories)) names
    → rows_from (bound_initiator names) 0 k.initiators ≡ Ok initiators → rows_from (bound_router names) 0 k.routers ≡ Ok routers
    → names_in (record { version = k.version; quantum = k.quantum; initiators = initiators; routers = routers; memories = k.memories }) ≡ key_names k
unfolding key_names
same_names k names initiators routers all initiators_read routers_read =
    let rs : ℕ = length k.routers in
    let ms : ℕ = length k.memories in
    let memories : List (List ℕ) = map (λ (m : MemoryRow). m.name) k.memories in
    let first = rows_named (λ (i : InitiatorRow). i.name) (λ (i : InitiatorKeys). i.name) (bound_initiator names) (λ i x a read. let b = initiator_is_bound rs ms names all i x a read in b.name) 0 k.initiators initiators initiators_read in
    let second = rows_named (λ (r : RouterRow). r.name) (λ (r : RouterKeys). r.name) (bound_router names) (λ i x a read. let b = router_is_bound rs ms names all i x a read in b.name) 0 k.routers routers routers_read in
    λ i. (first i ++ second i) ++ memories

platform_is_bounded : (k : PlatformKeys) (names : Names) (initiators : List InitiatorRow) (routers : List RouterRow)
    → KeysAreBounded k → All (NameIsThere (length k.routers) (length k.memories)) names
    → rows_from (bound_initiator names) 0 k.initiators ≡ Ok initiators → rows_from (bound_router names) 0 k.routers ≡ Ok routers
    → All (λ (r : RouterRow). IsValid (windows_of r)) routers
    → (sum_by (λ (m : MemoryRow). m.traits.size) k.memories ≤ 67108864) × (sum_by (λ (m : MemoryRow). m.traits.gates) k.memories ≤ 1024)
    → AllPairs (λ x y. x ≢ y) (key_names k)
    → IsBounded (record { version = k.version; quantum = k.quantum; initiators = initiators; routers = routers; memories = k.memories })
platform_is_bounded k names initiators routers keys all initiators_read routers_read valid sums own =
    let rs : ℕ = length k.routers in
    let ms : ℕ = length k.memories in
    let p : Platform = record { version = k.version; quantum = k.quantum; initiators = initiators; routers = routers; memories = k.memories } in
    let ni : length initiators ≡ length k.initiators = rows_count (bound_initiator names) 0 k.initiators initiators initiators_read in
    let nr : length routers ≡ rs = rows_count (bound_router names) 0 k.routers routers routers_read in
    let reach : (t : Target) → there rs ms t ≡ true → is_there p t ≡ true = λ t h. is_there_by_counts p rs ms t nr refl h in
    record {
      quantum = keys.quantum;
      some_initiator = omega (arith, keys.some_initiator);
      initiator_count = omega (arith, keys.initiator_count);
      router_count = omega (arith, keys.router_count);
      some_memory = keys.some_memory;
      memory_count = keys.memory_count;
      initiators = rows_made InitiatorKeysAreBounded (InitiatorIsBound rs ms) (IsBoundedInitiator p) (bound_initiator names) (initiator_is_bound rs ms names all)
          (λ x a keys bound. record { named = subst (λ (n : List ℕ). IsTrue (is_name n)) (sym bound.name) keys.named; bind = reach a.bind bound.bind; some_slots = omega (arith, keys.some_slots, bound.pool); slots = omega (arith, keys.slots, bound.pool) })
          0 k.initiators initiators keys.initiators initiators_read;
      routers = both (RouterParts rs ms) (λ (r : RouterRow). IsValid (windows_of r)) (IsBoundedRouter p)
          (λ r parts windows. record {
            named = parts.named;
            latency = parts.latency;
            accept = parts.accept;
            some_lanes = parts.some_lanes;
            lanes = parts.lanes;
            window_count = parts.window_count;
            windows = windows;
            targets = λ n d below. reach (get_or r.windows n d).to (parts.targets n d below);
          })
          routers
          (rows_made RouterKeysAreBounded (RouterIsBound rs ms) (RouterParts rs ms) (bound_router names) (router_is_bound rs ms names all) (router_parts rs ms) 0 k.routers routers keys.routers routers_read)
          valid;
      memories = keys.memories;
      bytes = sums.0;
      gates = sums.1;
      own_names = subst (AllPairs (λ x y. x ≢ y)) (sym (same_names k names initiators routers all initiators_read routers_read)) own;
    }

table_is_bounded : (t : Members) (p : Platform) → platform_of_table t ≡ Ok p → IsBounded p
unfolding platform_of_table
table_is_bounded t p h =
    bind_ok (platform_keys t) _ _ h (λ keys keys_read h1.
    bind_ok (names_of keys) _ _ h1 (λ names names_read h2.
    bind_ok (rows_from (bound_initiator names) 0 keys.initiators) _ _ h2 (λ initiators initiators_read h3.
    bind_ok (rows_from (bound_router names) 0 keys.routers) _ _ h3 (λ routers routers_read h4.
    bind_ok (rows_from checked_windows 0 routers) _ _ h4 (λ done done_read h5.
    bind_ok (checked_sums keys.memories) _ _ h5 (λ u sums_read h6.
    subst IsBounded (ok_same (record { version = keys.version; quantum = keys.quantum; initiators = initiators; routers = routers; memories = keys.memories }) p h6)
    (platform_is_bounded keys names initiators routers (keys_are_bounded t keys keys_read) (names_are_there keys names names_read) initiators_read routers_read
    (rows_passed (λ (r : RouterRow). IsValid (windows_of r)) checked_windows windows_are_valid 0 routers done done_read)
    (sums_are_bounded keys.memories u sums_read) (own_key_names keys names names_read))))))))

-- what was given of a table is bounded
pub given_is_bounded : (r : Result Platform PlatformFault) (t : Members) → Gives r (platform_of_table t) → IfOk r IsBounded
given_is_bounded (Ok p) t h = table_is_bounded t p h
given_is_bounded (Err f) t h = tt
