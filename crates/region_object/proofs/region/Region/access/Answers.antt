use Rattle.std.proofs.Common.{◌≡◌, ℕ, ◌+◌, ◌++◌, ◌∷◌, [], ◌<◌, length, drop, arith, refl, sym, ap, subst, ◌∙◌}
use Rattle.std.proofs.lemmas.List.{take_at}
use Rattle.tlm_types.specs.declared.words.ObjectNo.TheVariants.{Memory}
use Rattle.tlm_types.specs.declared.entry.What.{What}
use Rattle.tlm_types.specs.Entries.{entry_at}
use Rattle.entry_log.specs.Log.{LogView, with_entry}
use Rattle.tlm_model.specs.Store.{status_by, status_of, store_after}
use Rattle.generic_payload.specs.Payload.{HasPlaces, access_of}
use Rattle.tlm_model.specs.Actions.{data_logged}
use Rattle.region_object.specs.Call.{payload_cost}
use Rattle.region_object.specs.Region.{LoggedMemory, accessed, answered, hint_of, with_logged}
use Rattle.region_object.proofs.Consistent.{IsConsistent-push}
use Rattle.region_object.proofs.Told.{accessed-access, hint_not, hint_there, payload_after, told_by-access, buffer-told, store_after-transport, status_of-transport}
use Rattle.region_object.proofs.region.Region.access.Goals.{then-self, else-self}
use Rattle.region_object.proofs.region.Region.access.Goals as goal

pub log_access-requires-clause-room_bytes : goal.log_access-requires-clause-room_bytes
log_access-requires-clause-room_bytes c =
    let s = c.self.inside in
    let p = c.args.payload.now in
    let a = access_of p in
    let r = status_by s.traits a p.command in
    let after : c.set_hint.new.self ≡ payload_after p r c.if-self.set_hint s.store.items = rw (c.set_hint.ensures, c.set_status.ensures, c.move_bytes.ensures.payload, c.deref_mut.ensures.value, c.check-status.ensures.status) refl in
    let size = (buffer-told p.command r a s.store.items c.operand_of-operand.result c.requires.zeros c.operand_of-operand.ensures).size in
    let room = ap (λ (m : LoggedMemory). m.log.room_bytes) c.self.view_is in
    let cost : payload_cost (payload_after p r c.if-self.set_hint s.store.items) ≡ payload_cost p = ap (λ (n : ℕ). data_logged p.command n + length p.enables) size in
    rw after (omega (arith, cost, room, c.requires.room_bytes))

pub invariant_of-self : goal.invariant_of-self
invariant_of-self c =
    let s = c.self.inside in
    let p = c.args.payload.now in
    let a = access_of p in
    let r = status_by s.traits a p.command in
    let after : c.set_hint.new.self ≡ payload_after p r c.if-self.set_hint s.store.items = rw (c.set_hint.ensures, c.set_status.ensures, c.move_bytes.ensures.payload, c.deref_mut.ensures.value, c.check-status.ensures.status) refl in
    let told = told_by-access s.traits s.log.entries s.store.items c.operand_of-operand.result c.args.way p c.if-self.set_hint c.self.invariant.bytes_are c.requires.way c.requires.zeros c.operand_of-operand.ensures in
    let log : c.log_access.new.log.entries ≡ s.log.entries ++ entry_at c.args.head (answered s.traits s.log.entries c.args.way a) ∷ [] = rw (c.log_access.ensures, after, told) refl in
    let stored : c.move_bytes.new.store ≡ store_after c.args.way (status_of s.traits c.args.way a) a s.store.items = rw (c.move_bytes.ensures.store, c.deref_mut.ensures.value, c.check-status.ensures.status, store_after-transport c.args.way (status_of s.traits c.args.way a) a s.store.items c.requires.way, status_of-transport c.args.way s.traits a c.requires.way) refl in
    let size : length c.move_bytes.new.store ≡ length s.store.items = c.move_bytes.auto.store ∙ ap length c.deref_mut.ensures.value in
    let whole = take_at c.move_bytes.new.store (drop (length c.move_bytes.new.store) s.store.items) s.store.len (c.move_bytes.auto.store ∙ c.deref_mut.ensures.len) in
    rw (whole, log) (IsConsistent-push s.number s.traits s.store.items c.move_bytes.new.store s.gates s.log.entries c.args.head c.args.way a (c.requires.head ∙ ap (λ (m : LoggedMemory). Memory m.number) (sym c.self.view_is)) c.self.invariant stored size)

pub returns-clause-memory : goal.returns-clause-memory
returns-clause-memory c =
    let s = c.self.inside in
    let p = c.args.payload.now in
    let a = access_of p in
    let r = status_by s.traits a p.command in
    let after : c.set_hint.new.self ≡ payload_after p r c.if-self.set_hint s.store.items = rw (c.set_hint.ensures, c.set_status.ensures, c.move_bytes.ensures.payload, c.deref_mut.ensures.value, c.check-status.ensures.status) refl in
    let told = told_by-access s.traits s.log.entries s.store.items c.operand_of-operand.result c.args.way p c.if-self.set_hint c.self.invariant.bytes_are c.requires.way c.requires.zeros c.operand_of-operand.ensures in
    let log : c.log_access.new.log ≡ with_entry s.log (entry_at c.args.head (answered s.traits s.log.entries c.args.way a)) = rw (c.log_access.ensures, after) (ap (λ (w : What). with_entry s.log (entry_at c.args.head w)) told) in
    ap (λ (l : LogView). record { number = s.number; traits = s.traits; first_gate = s.gates.first; log = l }) log
    ∙ ap (λ (m : LoggedMemory). with_logged m (entry_at c.args.head (answered m.traits m.log.entries c.args.way a))) c.self.view_is

pub log_access-requires-clause-room : goal.log_access-requires-clause-room
log_access-requires-clause-room c = subst (λ (m : LoggedMemory). length m.log.entries < m.log.room) (sym c.self.view_is) c.requires.room

pub log_access-requires-clause-way : goal.log_access-requires-clause-way
log_access-requires-clause-way c = c.requires.way

pub move_bytes-requires : goal.move_bytes-requires
move_bytes-requires c = λ ok moves. subst (λ (n : ℕ). HasPlaces (access_of c.args.payload.now) n) (sym (ap length c.deref_mut.ensures.value ∙ c.self.invariant.size_is)) (c.check-status.ensures.places ok moves)

pub returns-clause-payload : goal.returns-clause-payload
returns-clause-payload c =
    let s = c.self.inside in
    let p = c.args.payload.now in
    let r = status_by s.traits (access_of p) p.command in
    let m : LoggedMemory = record { number = s.number; traits = s.traits; first_gate = s.gates.first; log = s.log } in
    let after : c.set_hint.new.self ≡ payload_after p r c.if-self.set_hint s.store.items = rw (c.set_hint.ensures, c.set_status.ensures, c.move_bytes.ensures.payload, c.deref_mut.ensures.value, c.check-status.ensures.status) refl in
    let hint : c.if-self.set_hint ≡ hint_of s.traits c.check-status.result = elim c.if-self.branch [ then-self w ↦ w.set_hint-is ∙ w.eq.ensures ∙ hint_there s.traits c.check-status.result w.if-self.true | else-self w ↦ w.set_hint-is ∙ w.if-self.false ∙ hint_not s.traits c.check-status.result w.if-self.false ] in
    after ∙ (accessed-access m s.store.items c.args.way p c.if-self.set_hint c.self.invariant.bytes_are c.requires.way (hint ∙ ap (hint_of s.traits) c.check-status.ensures.status) ∙ ap (λ (n : LoggedMemory). accessed n c.args.way p) c.self.view_is)
