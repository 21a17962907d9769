-- What a note knows of a fetched request pays for its access and backs it, and what the access leaves.
use Rattle.std.proofs.Common.{◌≡◌, ◌⊎◌, ℕ, ◌+◌, ◌<◌, ◌&&◌, ◌||◌, ◌==◌, cond, List, [], ◌∷◌, ◌++◌, length, drop, map, get_or, Bool, true, false, Option, Some, None, refl, sym, ◌∙◌, ap, arith, subst, inl, inr}
use Rattle.std.specs.Prelude.{◌≢◌, MatchOption, nat_lt, not, slice_get}
use Rattle.std.proofs.Math.Seq.{drop-length}
use Rattle.atomic_table.specs.Seated.{TableId}
use Rattle.view_lists.specs.Lists.{Has, Within}
use Rattle.view_lists.proofs.Members.{has_mapped, has_right}
use Rattle.one_history.specs.declared.entry.Entry.{Entry as HistoryEntry}
use Rattle.one_history.specs.declared.view.Frame.{Frame}
use Rattle.one_history.specs.declared.view.View.{View}
use Rattle.tlm_types.specs.declared.entry.Access.{Access}
use Rattle.tlm_types.specs.declared.entry.Content.{Content}
use Rattle.tlm_types.specs.declared.entry.What.TheVariants.{Access as AccessEntry}
use Rattle.tlm_types.specs.declared.words.Command.{Command}
use Rattle.tlm_types.specs.declared.words.Command.TheVariants as Commands
use Rattle.tlm_types.specs.declared.words.MemoryTraits.{MemoryTraits}
use Rattle.tlm_types.specs.declared.words.ObjectNo.TheVariants.{Memory, Hop}
use Rattle.tlm_types.specs.declared.words.Phase.TheVariants.{BeginReq}
use Rattle.tlm_types.specs.declared.words.Response.{Response}
use Rattle.tlm_types.specs.declared.words.Response.TheVariants.{Incomplete, Ok, GenericError, AddressError, CommandError, BurstError, ByteEnableError}
use Rattle.tlm_types.specs.declared.words.TxnId.{TxnId}
use Rattle.tlm_types.specs.declared.words.Way.TheVariants.{FourPhase}
use Rattle.tlm_model.specs.Log.{log_bytes}
use Rattle.tlm_model.specs.Plan.{Plan}
use Rattle.tlm_model.specs.Route.{later}
use Rattle.tlm_model.specs.Store.{got_by, got_of, is_allowed, span_of, status_by, status_of, zeros}
use Rattle.generic_payload.specs.Payload.{PayloadView, access_of}
use Rattle.generic_payload.proofs.Moves.{length-taken_from}
use Rattle.token_book.specs.Purse.{IsOf, Purse, bytes_of, left_of}
use Rattle.shared_object.specs.Steps.{addition}
use Rattle.shared_object.specs.Written.{Written, placed, wrote}
use Rattle.region_object.specs.declared.call.RegionReply.TheVariants.{Accessed}
use Rattle.region_object.specs.Call.{IsFit}
use Rattle.region_object.specs.Region.{LoggedMemory, accessed, buffer_after}
use Rattle.region_object.specs.Written.{content_of, written_from}
use Rattle.flow_model.specs.World.{hop_at, hop_count, row_of}
use Rattle.flow_model.specs.Events.{Event, FindsAt, IsPhase}
use Rattle.flow_model.specs.Numbers.{UpFrom}
use Rattle.flow_model.specs.Platform.{world_of}
use Rattle.cargo_model.specs.declared.cargo.Cargo.{Cargo}
use Rattle.cargo_model.specs.Counts.{request_ends}
use Rattle.cargo_model.specs.Known.{Known, event_of, object_number, objects_of}
use Rattle.cargo_model.specs.Laws.{Case, with_contents}
use Rattle.cargo_model.specs.Tickets.{Pulls, PullsOwed}
use Rattle.cargo_model.specs.Travel.{GoesDown, IsServed, LeftDown, There, logged_by, memory_number, numbers_for, with_wallet}
use Rattle.cargo_model.proofs.Backs.{access_backed}
use Rattle.cargo_model.proofs.Down.{few_ends}
use Rattle.cargo_model.proofs.More.{goes_down_more, stocks_by}
use Rattle.cargo_model.proofs.Origins.{stands}
use Rattle.cargo_model.proofs.Up.{access_paid, serves}
use Rattle.cargo_model.proofs.Wallets.{bytes_there, pulled_there}
use Rattle.cargo_net.specs.Memories.{HasServedCall}
use Rattle.cargo_net.specs.Serves.{HasServed, MayServe, access_call}
use Rattle.cargo_net.specs.Traffic.{Backs}
use Rattle.cargo_net.proofs.AskedLemmas.{asked_reads_zeros, last_offset}
use Rattle.cargo_net.proofs.Lists.{read_there}

-- a read comes back as long as it was
read_long : (r : Response) (c : Command) (a : Access) (bytes store : List ℕ) → c ≡ Commands.Read → length (buffer_after c (got_by c r a store) bytes) ≡ length a.sent
read_long Ok Commands.Read a bytes store is = length-taken_from a 0 a.sent store
read_long Incomplete Commands.Read a bytes store is = refl
read_long GenericError Commands.Read a bytes store is = refl
read_long AddressError Commands.Read a bytes store is = refl
read_long CommandError Commands.Read a bytes store is = refl
read_long BurstError Commands.Read a bytes store is = refl
read_long ByteEnableError Commands.Read a bytes store is = refl
read_long r Commands.Write a bytes store is = cc
read_long r Commands.Ignore a bytes store is = cc
read_long r Commands.FetchAdd a bytes store is = cc

-- a memory answers each access
one_of_five : (b c d e : Bool) → cond b AddressError (cond c CommandError (cond d ByteEnableError (cond e BurstError Ok))) ≡ Incomplete → ⊥
one_of_five true c d e q = cc
one_of_five false true d e q = cc
one_of_five false false true e q = cc
one_of_five false false false true q = cc
one_of_five false false false false q = cc

answered_by : (m : MemoryTraits) (a : Access) (c : Command) → status_by m a c ≡ Incomplete → ⊥
answered_by m a Commands.Ignore q = cc
answered_by m a Commands.Read q = one_of_five (nat_lt m.size (a.offset + span_of a)) (not (is_allowed m a.command)) (nat_lt 0 (length a.enables) && not m.enables) ((a.width == 0) || (nat_lt a.width a.length && not m.streaming)) q
answered_by m a Commands.Write q = one_of_five (nat_lt m.size (a.offset + span_of a)) (not (is_allowed m a.command)) (nat_lt 0 (length a.enables) && not m.enables) ((a.width == 0) || (nat_lt a.width a.length && not m.streaming)) q
answered_by m a Commands.FetchAdd q = one_of_five (nat_lt m.size (a.offset + span_of a)) (not (is_allowed m a.command)) (nat_lt 0 (length a.enables) && not m.enables) ((a.width == 0) || (nat_lt a.width a.length && not m.streaming)) q

-- where a ticket of one object may have been pulled, those of others are there
none_or_one : (i : ℕ) → i < 2 → (i ≡ 0) ⊎ (i ≡ 1)
none_or_one i l = grind arith

owed_elsewhere : (tokens : TableId) (owed i : ℕ) (w v : Purse) → owed < 2 → PullsOwed tokens owed i w v → (o : ℕ) → o ≢ i → (left_of v o ≡ left_of w o) × (bytes_of v o ≡ bytes_of w o)
owed_elsewhere tokens owed i w v few p o d = elim (none_or_one owed few) [
  | inl q ↦ (ap (λ (u : Purse). left_of u o) (p.none q), ap (λ (u : Purse). bytes_of u o) (p.none q))
  | inr q ↦ (pulled_there tokens i 0 w v (p.one q) o d, bytes_there tokens i 0 w v (p.one q) o d)
]

owed_of : (tokens : TableId) (owed i : ℕ) (w v : Purse) → owed < 2 → PullsOwed tokens owed i w v → IsOf tokens w → IsOf tokens v
owed_of tokens owed i w v few p of = elim (none_or_one owed few) [
  | inl q ↦ subst (IsOf tokens) (sym (p.none q)) of
  | inr q ↦ (let o = p.one q in o.of)
]

all_dropped : (k : ℕ) (hops : List ℕ) → k ≡ length hops → drop k hops ≡ []
all_dropped k hops q = subst (λ (i : ℕ). drop i hops ≡ []) (sym q) (drop-length hops)

same_payload : (a b : PayloadView) → Accessed a ≡ Accessed b → a ≡ b
same_payload a b q = cc

module _ (frame : Frame Plan) (tokens : TableId) (number own : ℕ) (c : Cargo) (at : ℕ) (note : View Content Plan) (may : MayServe frame tokens number c at note.known) where
  abbrev p : Plan
  p = frame.world

  abbrev x : TxnId
  x = c.baton.txn

  abbrev asks : PayloadView
  asks = c.baton.payload

  abbrev known : Event → Type 0
  known = Known p.platform note.known

  abbrev fetched : Cargo
  fetched = with_wallet c may.fetched.before

  abbrev down : GoesDown p tokens known x may.pass There may.hop fetched
  down = may.fetched.down

  abbrev here : List (HistoryEntry Content) → Case
  here l = record { p = p; tokens = tokens; entries = l; x = x; pass = may.pass; c = fetched }

  memory_is : (numbers_for p tokens known x may.pass down.asked).memory ≡ Some number
  memory_is = ap (memory_number p) may.routed ∙ ap (λ (n : ℕ). Some n) (sym may.place)

  hop_apart : number ≢ object_number p.platform (Hop (hop_at may.pass may.hop))
  hop_apart q = may.apart.memory number may.hop memory_is down.held.below (sym q)

  abbrev owed : ℕ
  owed = request_ends (row_of (world_of p) may.pass may.hop)

  -- there is a ticket of the memory for the bytes of the access
  pub paid : (0 < left_of c.baton.wallet number) × (bytes_of c.baton.wallet number ≡ logged_by (access_of asks))
  paid =
      let a = access_paid (here note.known) may.hop down may.route may.routed number memory_is in
      let o = owed_elsewhere tokens owed (object_number p.platform (Hop (hop_at may.pass may.hop))) may.fetched.before c.baton.wallet (few_ends (row_of (world_of p) may.pass may.hop)) may.fetched.pulled number hop_apart in
      (subst (λ (n : ℕ). 0 < n) (sym o.0) a.0, o.1 ∙ a.1)

  pub of_table : IsOf tokens c.baton.wallet
  of_table = owed_of tokens owed (object_number p.platform (Hop (hop_at may.pass may.hop))) may.fetched.before c.baton.wallet (few_ends (row_of (world_of p) may.pass may.hop)) may.fetched.pulled down.tickets.of

  -- what is read into are zeros
  pub fit : IsFit (access_call c at)
  fit = (tt, zeros_there)
    where
      sent : asks.bytes ≡ down.asked.access.sent
      sent = ap (λ (a : Access). a.sent) down.content

      zeros_there : asks.command ≡ Commands.Read → asks.bytes ≡ zeros (length asks.bytes)
      zeros_there q =
          let read : down.asked.access.command ≡ Commands.Read = sym (ap (λ (a : Access). a.command) down.content) ∙ q in
          sent ∙ asked_reads_zeros p tokens known x may.pass down.asked read ∙ ap (λ (bytes : List ℕ). zeros (length bytes)) (sym sent)

  object_is : get_or (objects_of p.platform) number (Hop 0) ≡ Memory may.route.memory
  object_is =
      read_there (objects_of p.platform) number (Memory may.route.memory) (Hop 0)
      (subst (λ (i : ℕ). slice_get (objects_of p.platform) i ≡ Some (Memory may.route.memory)) (sym may.place) (stands (Memory may.route.memory) (objects_of p.platform) may.there))

  abbrev status : LoggedMemory → Response
  status m = status_of m.traits FourPhase (access_of asks)

  abbrev got : LoggedMemory → List ℕ
  got m = got_of FourPhase (status m) (access_of asks) (log_bytes m.traits m.log.entries)

  pub backed : (m : LoggedMemory) (q : ℕ) → Backs p (map (placed number) (written_from 0 m.log.entries) ++ note.known) (placed number (wrote q (content_of m (access_call c at))))
  backed m q =
      let all = map (placed number) (written_from 0 m.log.entries) ++ note.known in
      let more : (e : Event) → known e → Known p.platform all e = λ e k. record { entry = k.entry; has = has_right (map (placed number) (written_from 0 m.log.entries)) note.known k.entry k.has; is = k.is } in
      access_backed (here all) may.hop (goes_down_more p tokens known (Known p.platform all) more x may.pass There may.hop fetched down) may.last
      (event_of p.platform (placed number (wrote q (content_of m (access_call c at)))))
      (record { memory = may.route.memory; object = object_is; txn = refl; way = FourPhase; access = access_of asks; status = status m; got = got m; what = refl })
      (record { event = may.begun.event; known = more may.begun.event may.begun.known; is = may.begun.is; time = may.begun.time })

  -- the request, as more entries tell of it
  module _ (l : List (HistoryEntry Content)) (w : Within note.known l) where
    abbrev later_known : Event → Type 0
    later_known = Known p.platform l

    more_known : (e : Event) → known e → later_known e
    more_known e k = record { entry = k.entry; has = w k.entry k.has; is = k.is }

    left_more : (j left : ℕ) → LeftDown p tokens known x may.pass There may.hop j left → LeftDown p tokens later_known x may.pass There may.hop j left
    left_more j left d = record { above = d.above; here = d.here; below = d.below }

    abbrev grown : GoesDown p tokens later_known x may.pass There may.hop fetched
    grown =
        let g = goes_down_more p tokens known later_known more_known x may.pass There may.hop fetched down in
        let a = down.asked in
        record {
          asked = record {
            passes = a.passes;
            initiator = a.initiator;
            is = a.is;
            replies = a.replies;
            known = λ e m. (let f = a.known e m in record { event = f.event; known = more_known f.event f.known; is = f.is });
            request = a.request;
            asked = a.asked;
            access = a.access;
            transport = a.transport;
            way = a.way;
          };
          held = g.held;
          come = g.come;
          status = down.status;
          content = down.content;
          tickets = stocks_by tokens (hop_count may.pass) (numbers_for p tokens known x may.pass a) (LeftDown p tokens known x may.pass There may.hop) (LeftDown p tokens later_known x may.pass There may.hop) _ _ _ may.fetched.before
              (λ j left below d. left_more j left d) down.tickets;
        }

  module _ (back : View Content Plan) (v : PayloadView) (u : Purse) (a : HasServedCall frame tokens number own note back (access_call c at) (Accessed v)) (pulls : Pulls tokens number (logged_by (access_of asks)) c.baton.wallet u) where
    abbrev m : LoggedMemory
    m = a.before

    -- the entry that was added
    entry_at : (z : Option ℕ) → MatchOption z (true ≡ false) (λ (i : ℕ). true ≡ true) → written_from 0 a.after.log.entries ≡ written_from 0 m.log.entries ++ addition z (content_of m (access_call c at))
        → (position : ℕ) × Has back.known (placed number (wrote position (content_of m (access_call c at))))
    entry_at None when log = absurd (never when)
      where
        never : true ≡ false → ⊥
        never q = cc
    entry_at (Some z) when log = (
      z,
      a.enters.knows _ (has_mapped (placed number) (written_from 0 a.after.log.entries) (wrote z (content_of m (access_call c at)))
          (subst (λ (l : List Written). Has l (wrote z (content_of m (access_call c at)))) (sym log)
          (has_right (written_from 0 m.log.entries) (wrote z (content_of m (access_call c at)) ∷ []) _ (0, refl)))),
    )

    entry : (position : ℕ) × Has back.known (placed number (wrote position (content_of m (access_call c at))))
    entry = entry_at a.position a.enters.when a.enters.log

    answer : v ≡ accessed m FourPhase asks
    answer = same_payload v (accessed m FourPhase asks) a.applied.1

    content_at : access_of asks ≡ (let b = down.asked.access in record b { offset = may.route.offset })
    content_at = down.content ∙ ap (λ (o : ℕ). let b = down.asked.access in record b { offset = o }) (last_offset p tokens known x may.pass down.asked may.hop may.route may.last may.routed)

    made : FindsAt (Known p.platform back.known) (IsServed x down.asked.access may.route v) at
    made = record {
      event = event_of p.platform (placed number (wrote entry.0 (content_of m (access_call c at))));
      known = record { entry = placed number (wrote entry.0 (content_of m (access_call c at))); has = entry.1; is = refl };
      is = record {
        object = object_is;
        txn = refl;
        status = status m;
        got = got m;
        what = ap (λ (b : Access). AccessEntry FourPhase b (status m) (got m)) content_at;
        same_status = ap (λ (y : PayloadView). y.status) answer;
        same_bytes = λ read. ap (λ (y : PayloadView). y.bytes) answer ∙ ap (λ (d : Command). buffer_after d (got m) asks.bytes) (ap (λ (b : Access). b.command) down.content ∙ read);
        long = λ read. ap (λ (y : PayloadView). length y.bytes) answer
            ∙ read_long (status m) asks.command (access_of asks) asks.bytes (log_bytes m.traits m.log.entries) (ap (λ (b : Access). b.command) down.content ∙ read)
            ∙ ap (λ (b : Access). length b.sent) down.content;
      };
      time = refl;
    }

    begun_later : FindsAt (Known p.platform back.known) (IsPhase x (hop_at may.pass may.hop) BeginReq) at
    begun_later = record { event = may.begun.event; known = more_known back.known a.enters.knew may.begun.event may.begun.known; is = may.begun.is; time = may.begun.time }

    pub served : HasServed frame tokens number c at may.pass may.hop down.asked.access may.route (with_contents c v u) back.known
    served = record {
      made = made;
      same = refl;
      pulls = pulls;
      up = serves (here back.known) may.hop (grown back.known a.enters.knew) may.route v c.baton.wallet u number may.apart may.last may.routed memory_is
          (record { event = begun_later.event; known = begun_later.known; is = begun_later.is }) (record { event = made.event; known = made.known; is = made.is })
          (λ q. answered_by m.traits (access_of asks) asks.command (sym (ap (λ (y : PayloadView). y.status) answer) ∙ q)) (ap (λ (y : PayloadView). y.room) answer) may.fetched.pulled pulls;
      due = subst (λ (rest : List ℕ). UpFrom (world_of p) (Known p.platform back.known) x (hop_at may.pass may.hop) rest (later at ((world_of p).hop (hop_at may.pass may.hop)).latency)) (sym (all_dropped (may.hop + 1) may.pass.hops may.last))
          (record { req = at; is_req = begun_later; sum = refl });
    }
