-- What a memory, a hop and a pool leave.
use Rattle.std.proofs.Common.{◌≡◌, ℕ, ◌<◌, ◌≤◌, ◌^◌, List, [], ◌∷◌, length, map, Option, Some, None, refl, ap, sym, subst, ◌∙◌, arith}
use Rattle.std.specs.Prelude.{All, IsSomeAnd, slice_get}
use Rattle.std.proofs.lemmas.List.Elements.{All-nil, All-cons, All-head, All-tail, All-weaker}
use Rattle.atomic_table.specs.Seated.{TableId}
use Rattle.one_history.specs.declared.view.Frame.{Frame}
use Rattle.one_history.specs.Held.{Held}
use Rattle.tlm_types.specs.declared.entry.Content.{Content}
use Rattle.tlm_types.specs.declared.entry.Entry.{Entry}
use Rattle.tlm_types.specs.declared.words.ObjectNo.TheVariants.{Memory, Hop, Pool}
use Rattle.entry_log.specs.Log.{LogView}
use Rattle.tlm_model.specs.declared.platform.InitiatorRow.{InitiatorRow}
use Rattle.tlm_model.specs.declared.platform.MemoryRow.{MemoryRow}
use Rattle.tlm_types.specs.declared.words.MemoryTraits.{MemoryTraits}
use Rattle.tlm_model.specs.Log.{IsLog, log_bytes}
use Rattle.tlm_model.specs.Plan.{Plan}
use Rattle.tlm_model.specs.Route.{greatest_time}
use Rattle.shared_object.specs.Standing.{IsBuiltFor, IsSeat, Numbers, place}
use Rattle.region_object.specs.Region.{LoggedMemory}
use Rattle.region_object.specs.Written.{built_of as memory_built, written_from}
use Rattle.numbered_log.specs.Logged.{written_by}
use Rattle.flow_model.specs.Events.{Event, entries}
use Rattle.flow_model.specs.Platform.{hop_in}
use Rattle.flow_model.specs.Traffic.{slots_by, slots_of}
use Rattle.hop_object.specs.Hops.{Follows}
use Rattle.hop_object.specs.Objects.{built_of as hop_built}
use Rattle.hop_object.specs.View.{HopView}
use Rattle.payload_pool.specs.Calls.{built_of as pool_built}
use Rattle.payload_pool.specs.Pool.{IsPool, PoolView, live_of}
use Rattle.cargo_model.specs.declared.cargo.Cargo.{Cargo}
use Rattle.cargo_model.specs.Known.{object_number}
use Rattle.cargo_net.specs.Traffic.{IsHopBuilt, IsMemoryBuilt, IsPoolBuilt}
use Rattle.region_object.specs.Grants.{IsGrantLog}
use Rattle.net_end.specs.Closed.{IsTimed}
use Rattle.plat_net.specs.Net.{hop_numbers, memory_numbers, pool_numbers}
use Rattle.plat_net.proofs.Lookups.{short_at}
use Rattle.plat_net.proofs.NumberLemmas.{memory_number}
use Rattle.plat_end.specs.Apart.{HasLeftLog}

-- times of 64 bits are those that there are
timed_entries : (es : List Entry) → All (λ (e : Entry). e.time < 2 ^ 64) es → All (λ (e : Entry). e.time ≤ greatest_time) es
timed_entries es all = All-weaker (λ (e : Entry). e.time < 2 ^ 64) (λ (e : Entry). e.time ≤ greatest_time) (λ e less. omega arith) es all

timed_events : (es : List Event) → All (λ (e : Entry). e.time < 2 ^ 64) (entries es) → IsTimed es
timed_events [] all = All-nil (λ (e : Event). e.time ≤ greatest_time)
timed_events (e ∷ es) all =
    let first = All-head (λ (d : Entry). d.time < 2 ^ 64) e.entry (entries es) all in
    All-cons (λ (d : Event). d.time ≤ greatest_time) e es (omega arith) (timed_events es (All-tail (λ (d : Entry). d.time < 2 ^ 64) e.entry (entries es) all))

-- the row that there is
record RowAt (frame : Frame Plan) (m : ℕ) (traits : MemoryTraits) : Type 0 where
  row : MemoryRow
  at : slice_get frame.world.platform.memories m ≡ Some row
  is : traits ≡ row.traits

row_there : (frame : Frame Plan) (m : ℕ) (traits : MemoryTraits) → IsSomeAnd (slice_get frame.world.platform.memories m) (λ (row : MemoryRow). traits ≡ row.traits) → RowAt frame m traits
row_there frame m traits some = by (slice_get frame.world.platform.memories m) refl some
  where
    by : (o : Option MemoryRow) → slice_get frame.world.platform.memories m ≡ o → IsSomeAnd o (λ (row : MemoryRow). traits ≡ row.traits) → RowAt frame m traits
    by None q none = absurd none
    by (Some row) q is = record { row = row; at = q; is = is }

module _ (table tokens : TableId) (frame : Frame Plan) (s : Numbers) (seat : Held Content Plan) where
  module _ (memory : LoggedMemory) (are : s ≡ memory_numbers s.own) (built : IsBuiltFor IsMemoryBuilt (place frame tokens s.number s.own) (memory_built memory)) where
    -- a memory has the traits of its row
    memory_row : RowAt frame s.own memory.traits
    memory_row =
        let number : s.number ≡ s.own = ap (λ (n : Numbers). n.number) are in
        row_there frame s.own memory.traits (subst (λ (k : ℕ). IsSomeAnd (slice_get frame.world.platform.memories k) (λ (row : MemoryRow). memory.traits ≡ row.traits)) number built.world.row)

    pub memory_bytes : (log : LogView) (bytes : List ℕ) → log ≡ memory.log → bytes ≡ log_bytes memory.traits memory.log.entries → (row : MemoryRow) → slice_get frame.world.platform.memories s.own ≡ Some row → bytes ≡ log_bytes row.traits log.entries
    memory_bytes log bytes log_is bytes_are row at =
        let r = memory_row in
        let same : r.row ≡ row = same_row r.row row (sym r.at ∙ at) in
        bytes_are ∙ (ap (λ (t : MemoryTraits). log_bytes t memory.log.entries) (r.is ∙ ap (λ (x : MemoryRow). x.traits) same) ∙ ap (λ (l : LogView). log_bytes row.traits l.entries) (sym log_is))
      where
        same_row : (x y : MemoryRow) → Some x ≡ Some y → x ≡ y
        same_row x y q = cc

    pub memory_left : (log : LogView) → log ≡ memory.log → IsSeat table frame s.number (written_from 0 memory.log.entries) seat → IsLog memory.traits memory.log.entries → IsGrantLog memory.first_gate memory.traits memory.log.entries
        → All (λ (e : Entry). e.object ≡ Memory memory.number) memory.log.entries → All (λ (e : Entry). e.time < 2 ^ 64) memory.log.entries → HasLeftLog table frame (Memory s.own) log seat
    memory_left log log_is seat_is lawful granted own timed =
        let r = memory_row in
        let own_is : memory.number ≡ s.own = built.own in
        let number : s.number ≡ s.own = ap (λ (n : Numbers). n.number) are in
        let here : object_number frame.world.platform (Memory s.own) ≡ s.own = memory_number frame.world.platform s.own (short_at frame.world.platform.memories s.own r.row r.at) in
        record {
          left = record {
            log = memory.log.entries;
            row = r.row;
            at = r.at;
            lawful = subst (λ (t : MemoryTraits). IsLog t memory.log.entries) r.is lawful;
            first = memory.first_gate;
            granted = subst (λ (t : MemoryTraits). IsGrantLog memory.first_gate t memory.log.entries) r.is granted;
            own = subst (λ (k : ℕ). All (λ (e : Entry). e.object ≡ Memory k) memory.log.entries) own_is own;
            timed = timed_entries memory.log.entries timed;
            seat_is = subst (λ (k : ℕ). IsSeat table frame k (written_from 0 memory.log.entries) seat) (number ∙ sym here) seat_is;
          };
          log_is = ap (λ (l : LogView). l.entries) log_is;
        }

  -- a hop has the lanes and modes of the components at its ends
  pub hop_left : (hop : HopView Cargo) (log : LogView) → s ≡ hop_numbers frame.world.platform s.own → IsBuiltFor IsHopBuilt (place frame tokens s.number s.own) (hop_built hop) → IsSeat table frame s.number (map written_by hop.log.events) seat
      → Follows hop → All (λ (e : Entry). e.time < 2 ^ 64) (entries hop.log.events) → log.entries ≡ entries hop.log.events → HasLeftLog table frame (Hop s.own) log seat
  hop_left hop log are built seat_is follows timed log_is =
      let p = frame.world.platform in
      let own_is : hop.number ≡ s.own = built.own in
      let which : built.world.hop ≡ s.own = sym (same_hop hop.number built.world.hop built.world.object) ∙ own_is in
      record {
        left = record {
          hop = hop;
          number = own_is;
          lanes = built.world.lanes ∙ ap (λ (k : ℕ). (hop_in p k).limit) which;
          req = built.world.req ∙ ap (λ (k : ℕ). (hop_in p k).req) which;
          resp = built.world.resp ∙ ap (λ (k : ℕ). (hop_in p k).resp) which;
          follows = follows;
          timed = timed_events hop.log.events timed;
          seat_is = subst (λ (k : ℕ). IsSeat table frame k (map written_by hop.log.events) seat) (ap (λ (n : Numbers). n.number) are) seat_is;
        };
        log_is = log_is;
      }
    where
      same_hop : (a b : ℕ) → Hop a ≡ Hop b → a ≡ b
      same_hop a b q = cc

  -- a pool has the slots of its initiator's row
  pub pool_left : (pool : PoolView) (log : LogView) → s ≡ pool_numbers frame.world.platform s.own → IsBuiltFor IsPoolBuilt (place frame tokens s.number s.own) (pool_built pool) → IsSeat table frame s.number (map written_by pool.log.events) seat
      → IsPool pool → live_of pool ≡ 0 → All (λ (e : Entry). e.time < 2 ^ 64) (entries pool.log.events) → log.entries ≡ entries pool.log.events → HasLeftLog table frame (Pool s.own) log seat
  pool_left pool log are built seat_is is free timed log_is =
      let own_is : pool.initiator ≡ s.own = built.own in
      let whose : built.world.initiator ≡ s.own = sym (same_pool pool.initiator built.world.initiator built.world.object) ∙ own_is in
      record {
        left = record {
          pool = pool;
          number = own_is;
          slots = slots_there (slice_get frame.world.platform.initiators built.world.initiator) (length pool.slots) built.world.row ∙ ap (λ (i : ℕ). slots_of frame.world i) whose;
          is = is;
          free = free;
          timed = timed_events pool.log.events timed;
          seat_is = subst (λ (k : ℕ). IsSeat table frame k (map written_by pool.log.events) seat) (ap (λ (n : Numbers). n.number) are) seat_is;
        };
        log_is = log_is;
      }
    where
      same_pool : (a b : ℕ) → Pool a ≡ Pool b → a ≡ b
      same_pool a b q = cc

      slots_there : (o : Option InitiatorRow) (n : ℕ) → IsSomeAnd o (λ (row : InitiatorRow). n ≡ row.pool) → n ≡ slots_by o
      slots_there None n none = absurd none
      slots_there (Some row) n is = is
