-- A direct access that was made through a gate, and a look at a gate that is void.
use Rattle.std.proofs.Common.{◌≡◌, ◌⊎◌, ℕ, ◌+◌, ◌-◌, ◌<◌, ◌≤◌, ◌&&◌, true, IsTrue, List, All, length, map, Option, Some, None, slice_get, refl, sym, ap, ◌∙◌, subst, inl, inr, ⊎_elim, arith}
use Rattle.std.specs.Prelude.{IsSomeAnd, nat_le, remove}
use Rattle.std.proofs.lemmas.Bool.{and_parts, leb-true, or_cases}
use Rattle.std.proofs.lemmas.Option.{get_or_from_slice_get, slice_get_within}
use Rattle.atomic_table.specs.Seated.{TableId}
use Rattle.view_lists.specs.Lists.{Has, Within}
use Rattle.view_lists.proofs.Members.{has_map}
use Rattle.one_history.specs.declared.entry.Entry.{Entry as HistoryEntry}
use Rattle.one_history.specs.declared.view.Frame.{Frame}
use Rattle.one_history.specs.declared.view.View.{View}
use Rattle.one_history.specs.Gates.{IsRevoked}
use Rattle.one_history.specs.Lists.{StandBelow}
use Rattle.one_history.specs.declared.entry.Sign.TheVariants.{Granted as GrantedSign, Invalidated as InvalidatedSign}
use Rattle.shared_object.specs.Written.{Written, placed, sign_of, written_at}
use Rattle.token_book.specs.Purse.{Purse}
use Rattle.tlm_types.specs.declared.entry.Content.{Content}
use Rattle.tlm_types.specs.declared.entry.What.{What}
use Rattle.tlm_types.specs.declared.entry.What.TheVariants.{Access as AccessOf, Granted, Invalidated, Closed, Call, Take, Acquire, Release}
use Rattle.tlm_types.specs.declared.words.Kind.{Kind}
use Rattle.tlm_types.specs.declared.words.Command.{Command}
use Rattle.tlm_types.specs.declared.words.MemoryTraits.{MemoryTraits}
use Rattle.tlm_types.specs.declared.words.Response.TheVariants.{Ok}
use Rattle.tlm_types.specs.declared.words.TxnId.{TxnId}
use Rattle.tlm_types.specs.declared.words.Way.TheVariants.{Blocking, FourPhase, Direct, Debug}
use Rattle.tlm_model.specs.declared.platform.MemoryRow.{MemoryRow}
use Rattle.tlm_model.specs.Plan.{Plan}
use Rattle.platform_model.specs.Bounded.{IsBoundedMemory}
use Rattle.route_plan.specs.Valid.{IsValid}
use Rattle.generic_payload.specs.Payload.{PayloadView}
use Rattle.region_object.specs.declared.call.RegionCall.TheVariants.{Overlapping, Direct as DirectCall}
use Rattle.region_object.specs.declared.call.RegionReply.{RegionReply}
use Rattle.region_object.specs.declared.call.RegionReply.TheVariants.{Direct as DirectReply}
use Rattle.region_object.specs.Call.{IsDirectFit, payload_cost}
use Rattle.region_object.specs.Fitting.{more_fit}
use Rattle.region_object.specs.Grants.{IsGrantLog, allows}
use Rattle.region_object.specs.Region.{LoggedMemory, accessed}
use Rattle.region_object.specs.Written.{written_from}
use Rattle.plat_net.specs.Calls.{OneTicketLess, entries_of}
use Rattle.dmi_grants.specs.declared.table.Held.{Held}
use Rattle.dmi_grants.specs.Made.{IsMade, is_given_in}
use Rattle.dmi_grants.specs.Table.{TableView, covers}
use Rattle.dmi_grants.specs.Using.{HasGoneDirect, IsCutIn, IsFoundStale, MayUse, at_offset}
use Rattle.dmi_grants.proofs.Known.{given_more, granted_in, log_given, log_known}
use Rattle.dmi_grants.proofs.GateNumbers.{given_there}

-- a gate that is revoked among some entries is so among more
pub revoked_more : (xs ys : List (HistoryEntry Content)) (g : ℕ) → Within xs ys → IsRevoked xs g → IsRevoked ys g
revoked_more xs ys g more r = record { grant = r.grant; cut = r.cut; first = r.first; last = r.last; from = r.from; to = r.to; has_grant = more r.grant r.has_grant; has_cut = more r.cut r.has_cut; is_grant = r.is_grant; is_cut = r.is_cut; later = r.later; object = r.object; meet = r.meet }

-- a look by a note to which a gate is void shows why
pub learns : (frame : Frame Plan) (m low high told : ℕ) (note back : View Content Plan) (reply : RegionReply) (g : ℕ) → m < length frame.world.platform.memories → IsMade frame m (Overlapping 0 low high told) note back None reply → Has note.void g → IsTrue (is_given_in (written_at m note.known) g) → IsRevoked back.known g
learns frame m low high told note back reply g there made void given =
    let log = entries_of made.memory in
    let in_log : IsTrue (is_given_in log g) = given_more (written_at m note.known) log g made.known given in
    let gate = given_there frame m made.memory made.built there made.gates made.granted g (log_given made.memory.log.entries g in_log) in
    revoked_more (map (placed m) log) back.known g made.enters.knows (made.enters.revoked g void gate.own)

-- what was given, of what the history reads of an entry
record WasGranted (w : What) (g first last : ℕ) : Type 0 where
  pub kind : Kind
  pub is : w ≡ Granted g first last kind

was_granted : (w : What) (g first last : ℕ) → sign_of w ≡ GrantedSign g first last → WasGranted w g first last
was_granted (Granted gate f l kind) g first last is = record { kind = kind; is = (let a : gate ≡ g = cc (is) in let b : f ≡ first = cc (is) in let c : l ≡ last = cc (is) in cc (a, b, c)) }
was_granted (AccessOf Blocking access status got) g first last is = absurd (cc (is))
was_granted (AccessOf FourPhase access status got) g first last is = absurd (cc (is))
was_granted (AccessOf (Direct gate) access status got) g first last is = absurd (cc (is))
was_granted (AccessOf Debug access status got) g first last is = absurd (cc (is))
was_granted (Invalidated f l) g first last is = absurd (cc (is))
was_granted (Closed gate) g first last is = absurd (cc (is))
was_granted (Call phase answer) g first last is = absurd (cc (is))
was_granted (Take slot) g first last is = absurd (cc (is))
was_granted (Acquire slot) g first last is = absurd (cc (is))
was_granted (Release slot freed) g first last is = absurd (cc (is))

was_invalidated : (w : What) (low high : ℕ) → sign_of w ≡ InvalidatedSign low high → w ≡ Invalidated low high
was_invalidated (Invalidated f l) low high is = let a : f ≡ low = cc (is) in let b : l ≡ high = cc (is) in cc (a, b)
was_invalidated (Granted gate f l kind) low high is = absurd (cc (is))
was_invalidated (AccessOf Blocking access status got) low high is = absurd (cc (is))
was_invalidated (AccessOf FourPhase access status got) low high is = absurd (cc (is))
was_invalidated (AccessOf (Direct gate) access status got) low high is = absurd (cc (is))
was_invalidated (AccessOf Debug access status got) low high is = absurd (cc (is))
was_invalidated (Closed gate) low high is = absurd (cc (is))
was_invalidated (Call phase answer) low high is = absurd (cc (is))
was_invalidated (Take slot) low high is = absurd (cc (is))
was_invalidated (Acquire slot) low high is = absurd (cc (is))
was_invalidated (Release slot freed) low high is = absurd (cc (is))

-- what a memory has written shows it
cut_in : (m : ℕ) (log : List Written) (g : ℕ) → IsRevoked (map (placed m) log) g → IsCutIn log g
cut_in m log g r =
    let grant = has_map (placed m) log r.grant r.has_grant in
    let cut = has_map (placed m) log r.cut r.has_cut in
    let granted = was_granted grant.0.content.what g r.first r.last (ap (λ (e : HistoryEntry Content). e.sign) grant.2 ∙ r.is_grant) in
    record {
      grant = grant.0;
      cut = cut.0;
      first = r.first;
      last = r.last;
      kind = granted.kind;
      low = r.from;
      high = r.to;
      has_grant = grant.1;
      has_cut = cut.1;
      is_grant = granted.is;
      is_cut = was_invalidated cut.0.content.what r.from r.to (ap (λ (e : HistoryEntry Content). e.sign) cut.2 ∙ r.is_cut);
      later = (let a = ap (λ (e : HistoryEntry Content). e.position) grant.2 in let b = ap (λ (e : HistoryEntry Content). e.position) cut.2 in let c = r.later in omega arith);
      meet = r.meet;
    }

cut_more : (xs ys : List Written) (g : ℕ) → Within xs ys → IsCutIn xs g → IsCutIn ys g
cut_more xs ys g more c = record { grant = c.grant; cut = c.cut; first = c.first; last = c.last; kind = c.kind; low = c.low; high = c.high; has_grant = more c.grant c.has_grant; has_cut = more c.cut c.has_cut; is_grant = c.is_grant; is_cut = c.is_cut; later = c.later; meet = c.meet }

pub learns_cut : (frame : Frame Plan) (m low high told : ℕ) (note back : View Content Plan) (reply : RegionReply) (g : ℕ) → m < length frame.world.platform.memories → IsMade frame m (Overlapping 0 low high told) note back None reply → Has note.void g → IsTrue (is_given_in (written_at m note.known) g) → IsCutIn (written_at m back.known) g
learns_cut frame m low high told note back reply g there made void given =
    let log = entries_of made.memory in
    let in_log : IsTrue (is_given_in log g) = given_more (written_at m note.known) log g made.known given in
    let gate = given_there frame m made.memory made.built there made.gates made.granted g (log_given made.memory.log.entries g in_log) in
    cut_more log (written_at m back.known) g (log_known m log back.known made.enters.knows) (cut_in m log g (made.enters.revoked g void gate.own))

-- what a grant that covers an access says of its range
pub record IsCovered (h : Held) (a n : ℕ) (c : Command) : Type 0 where
  pub allowed : IsTrue (allows h.kind c)
  pub low : h.low ≤ a
  pub high : a + n ≤ h.high + 1

pub covered : (h : Held) (a n : ℕ) (c : Command) → IsTrue (covers a n c h) → IsCovered h a n c
covered h a n c is =
    let x = and_parts (allows h.kind c) (nat_le h.low a && nat_le (a + n) (h.high + 1)) is in
    let y = and_parts (nat_le h.low a) (nat_le (a + n) (h.high + 1)) x.1 in
    record { allowed = x.0; low = leb-true h.low a y.0; high = leb-true (a + n) (h.high + 1) y.1 }

-- the offset that the access has in the memory lies in the grant's range
pub offset_inside : (frame : Frame Plan) (p : PayloadView) (note : View Content Plan) (w : Purse) (h : Held) → MayUse frame p note w h → (h.first ≤ h.base + (p.address - h.low)) × (h.base + (p.address - h.low) + length p.bytes ≤ h.last + 1)
offset_inside frame p note w h may =
    let c = covered h p.address (length p.bytes) p.command may.covered in
    let some = may.some_bytes in
    let i = may.usable.inside.0 in
    let j = may.usable.inside.1 in
    let l = c.low in
    let u = c.high in
    (omega arith, omega arith)

-- the direct access that is made fits
pub fits_direct : (frame : Frame Plan) (p q : PayloadView) (note : View Content Plan) (w : Purse) (h : Held) → MayUse frame p note w h → q ≡ at_offset h p → IsDirectFit (written_at h.memory note.known) h.gate q
fits_direct frame p q note w h may is =
    let c = covered h p.address (length p.bytes) p.command may.covered in
    let inside = offset_inside frame p note w h may in
    subst (λ (x : PayloadView). IsDirectFit (written_at h.memory note.known) h.gate x) (sym is) (record {
      first = h.first;
      last = h.last;
      kind = h.kind;
      granted = may.usable.granted;
      plain = record {
        unmasked = may.unmasked;
        wide = may.unstreamed.0;
        unstreamed = may.unstreamed.1;
        blank = may.blank;
        low = inside.0;
        high = inside.1;
        allowed = c.allowed;
      };
    })

-- a memory of a platform has bytes, and allows reads or writes
row_bounds : (o : Option MemoryRow) (t : MemoryTraits) (rows : List MemoryRow) (m : ℕ) → slice_get rows m ≡ o → All IsBoundedMemory rows → IsSomeAnd o (λ (row : MemoryRow). t ≡ row.traits) → (0 < t.size) × ((t.readable ≡ true) ⊎ (t.writable ≡ true))
row_bounds None t rows m at all is = absurd is
row_bounds (Some row) t rows m at all is =
    let below : m < length rows = slice_get_within rows m row at in
    let bounded : IsBoundedMemory row = subst IsBoundedMemory (get_or_from_slice_get rows m row row at) (all m row below) in
    let size : t.size ≡ row.traits.size = ap (λ (x : MemoryTraits). x.size) is in
    let some = bounded.some_bytes in (
      omega arith,
      ⊎_elim
          (λ (r : row.traits.readable ≡ true). inl (ap (λ (x : MemoryTraits). x.readable) is ∙ r))
          (λ (w : row.traits.writable ≡ true). inr (ap (λ (x : MemoryTraits). x.writable) is ∙ w))
          (or_cases row.traits.readable row.traits.writable bounded.access),
    )

direct_reply : (x y : PayloadView) → ◌≡◌ {A = RegionReply} (DirectReply x) (DirectReply y) → x ≡ y
direct_reply x y same = cc

-- an access was made through the gate
pub gone_direct : (frame : Frame Plan) (tokens : TableId) (h : Held) (p q back : PayloadView) (txn : TxnId) (time : ℕ) (note known : View Content Plan) (before after : Purse) (position : Option ℕ) (reply : RegionReply)
    → ((m : LoggedMemory) (gate : ℕ) (x : PayloadView) → 0 < m.traits.size → (m.traits.readable ≡ true) ⊎ (m.traits.writable ≡ true) → IsGrantLog m.first_gate m.traits m.log.entries → IsDirectFit (written_from 0 m.log.entries) gate x → (accessed m (Direct gate) x).status ≡ Ok)
    → IsValid frame.world → MayUse frame p note before h → q ≡ at_offset h p → IsMade frame h.memory (DirectCall h.gate txn time q) note known position reply → reply ≡ DirectReply back
    → OneTicketLess h.memory (payload_cost p) before after → HasGoneDirect frame h p txn time note before after back known
gone_direct frame tokens h p q back txn time note known before after None reply law valid may is made says ticket = absurd (let n = made.enters.when in cc (n))
gone_direct frame tokens h p q back txn time note known before after (Some position) reply law valid may is made says ticket =
    let bounds = row_bounds (slice_get frame.world.platform.memories h.memory) made.memory.traits frame.world.platform.memories h.memory refl valid.shape.bounded.memories made.built.row in
    let fit = more_fit (DirectCall h.gate txn time q) (written_at h.memory note.known) (entries_of made.memory) made.known (fits_direct frame p q note before h may is) in
    let same : back ≡ accessed made.memory (Direct h.gate) q = direct_reply back (accessed made.memory (Direct h.gate) q) (sym says ∙ made.answer) in
    record {
      position = position;
      entered = note;
      same = refl;
      saw = refl;
      made = subst (λ (x : PayloadView). IsMade frame h.memory (DirectCall h.gate txn time x) note known (Some position) (DirectReply back)) is (subst (λ (r : RegionReply). IsMade frame h.memory (DirectCall h.gate txn time q) note known (Some position) r) says made);
      ok = ap (λ (x : PayloadView). x.status) same ∙ law made.memory h.gate q bounds.0 bounds.1 made.granted fit;
      ticket = ticket;
    }

-- the grant at an index is one that may be used
pub may_at : (frame : Frame Plan) (p : PayloadView) (note : View Content Plan) (w : Purse) (held : List Held) (which : ℕ) (h : Held) → IsSomeAnd (slice_get held which) (MayUse frame p note w) → slice_get held which ≡ Some h → MayUse frame p note w h
may_at frame p note w held which h may at = subst (λ (o : Option Held). IsSomeAnd o (MayUse frame p note w)) at may

-- its gate is known to be given
pub use_given : (frame : Frame Plan) (p : PayloadView) (note seen : View Content Plan) (w : Purse) (h : Held) → MayUse frame p note w h → seen.known ≡ note.known → IsTrue (is_given_in (written_at h.memory seen.known) h.gate)
use_given frame p note seen w h may same =
    subst (λ (l : List (HistoryEntry Content)). IsTrue (is_given_in (written_at h.memory l) h.gate)) (sym same) (granted_in (written_at h.memory note.known) h.gate h.first h.last h.kind may.usable.granted)

-- a grant that was found stale
pub found_stale : (h x : Held) (which : ℕ) (old new : TableView) (note seen known : View Content Plan) (w : Purse) → Some h ≡ Some x → new ≡ record { held = remove old.held which; room = old.room } → seen.known ≡ note.known → Within seen.known known.known → IsRevoked known.known h.gate → IsCutIn (written_at h.memory known.known) h.gate → StandBelow known.known known.seen → IsFoundStale x which old new note w w known
found_stale h x which old new note seen known w is table same keeps revoked cut below =
    let e : h ≡ x = cc (is) in
    record {
      table = table;
      keeps = subst (λ (l : List (HistoryEntry Content)). Within l known.known) same keeps;
      revoked = subst (λ (y : Held). IsRevoked known.known y.gate) e revoked;
      cut = subst (λ (y : Held). IsCutIn (written_at y.memory known.known) y.gate) e cut;
      below = below;
      wallet = refl;
    }
