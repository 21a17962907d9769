-- What an invalidation adds to the own entries of its initiator.
use Rattle.std.proofs.Common.{◌≡◌, ℕ, zero, suc, ◌+◌, ◌<◌, ◌≤◌, ◌&&◌, nat_lt, nat_le, Bool, true, false, List, [], ◌∷◌, ◌++◌, length, map, cond, Option, Some, None, slice_get, refl, ap, sym, subst, ◌∙◌, ⊎_elim, arith}
use Rattle.std.specs.Prelude.{IsTrue}
use Rattle.std.proofs.lemmas.Bool.{and_from, and_parts, eq-eqb, le-leb, lt-ltb, ltb-true}
use Rattle.std.proofs.lemmas.Grind.{common_steps}
use Rattle.std.proofs.lemmas.List.{length-map}
use Rattle.std.proofs.lemmas.List.Sums.{sum_by_more}
use Rattle.std.proofs.lemmas.Option.{get_or_from_slice_get}
use mathlib.Core.Option.{some}
use lib.ListN.{get_elem?}
use Rattle.view_lists.specs.Lists.{Has, Within}
use Rattle.view_lists.proofs.Members.{has_either, has_later, has_left, has_map, has_mapped, has_one, has_right}
use Rattle.one_history.specs.declared.entry.Entry.{Entry as HistoryEntry}
use Rattle.one_history.specs.declared.view.Frame.{Frame}
use Rattle.one_history.specs.declared.view.View.{View}
use Rattle.shared_object.specs.Written.{Written, logged, noted, placed, written_at, wrote}
use Rattle.token_book.specs.Purse.{Purse}
use Rattle.tlm_types.specs.declared.entry.Content.{Content}
use Rattle.tlm_types.specs.declared.entry.Entry.{Entry}
use Rattle.tlm_types.specs.declared.entry.What.{What}
use Rattle.tlm_types.specs.declared.entry.What.TheVariants.{Access as Accessed, Granted, Invalidated, Closed, Call, Take, Acquire, Release}
use Rattle.tlm_types.specs.declared.words.Kind.{Kind}
use Rattle.tlm_types.specs.declared.words.ObjectNo.TheVariants.{Memory}
use Rattle.tlm_types.specs.declared.words.TxnId.{TxnId}
use Rattle.tlm_model.specs.declared.platform.MemoryRow.{MemoryRow}
use Rattle.tlm_model.specs.History.{entries_at, is_object}
use Rattle.tlm_model.specs.Plan.{Plan}
use Rattle.tlm_model.specs.Scripts.{first_gate, has_gate}
use Rattle.good_history.specs.Grants.{closes, gives, is_cut_by, is_overlapped}
use Rattle.good_history.specs.Counting.{IsRising}
use Rattle.joined_traffic.specs.Parts.{HasReturned, Knows, KnowsClosing}
use Rattle.joined_traffic.specs.Returning.{KnowsPlaces}
use Rattle.joined_traffic.proofs.Returning.{places_tell_return}
use Rattle.region_object.specs.declared.call.RegionCall.TheVariants.{Invalidate}
use Rattle.region_object.specs.Grants.{gives as gives_at, closes as closes_at, overlaps}
use Rattle.region_object.specs.Region.{after_call}
use Rattle.region_object.specs.Written.{content_of, written_from}
use Rattle.plat_net.specs.Calls.{entries_of}
use Rattle.plat_net.proofs.Lookups.{row_in}
use Rattle.dmi_grants.specs.Invalidating.{HasInvalidated, IsOverlapped, position_in}
use Rattle.dmi_grants.specs.Known.{AreBelow, HasAllOf, known_to, position_of}
use Rattle.dmi_grants.specs.Made.{HasSpent, dmi_gates, dmi_gates_of, is_closed_in, is_given_in, unclosed}
use Rattle.dmi_grants.specs.Telling.{AddsOwn, InvalidationAdds, IsClosingFor}
use Rattle.dmi_grants.proofs.Counts.{fewer}
use Rattle.dmi_grants.proofs.GateNumbers.{given_there}
use Rattle.dmi_grants.proofs.Known.{closed_more, known_more, log_given}
use Rattle.dmi_grants.proofs.Lists.{any_has, has_any}
use Rattle.dmi_grants.proofs.Reading.{closes_same, gives_same, placed_at, read_at, read_placed}
use Rattle.dmi_grants.proofs.Tickets.{spent_both}

-- the gates of a memory come after those of the memories before it
dmi_few : (o : Option MemoryRow) (row : MemoryRow) → o ≡ Some row → dmi_gates_of o ≤ row.traits.gates
dmi_few None row at = absurd (cc (at))
dmi_few (Some other) row at = let same : other ≡ row = cc (at) in subst (λ (y : MemoryRow). dmi_gates_of (Some other) ≤ y.traits.gates) same (by other.traits.dmi)
  where
    by : (b : Bool) → cond b other.traits.gates 0 ≤ other.traits.gates
    by true = omega arith
    by false = omega arith

own_gate : (p : Plan) (m g : ℕ) → m < length p.platform.memories → first_gate p.platform m ≤ g → g < first_gate p.platform m + dmi_gates p m → IsTrue (has_gate p.platform m g)
own_gate p m g below from under =
    let row = row_in p.platform.memories m below in
    let few = dmi_few (slice_get p.platform.memories m) row.0 row.1 in
    let after : first_gate p.platform (m + 1) ≡ first_gate p.platform m + row.0.traits.gates =
    sum_by_more (λ (y : MemoryRow). y.traits.gates) p.platform.memories m row.0 below
    ∙ ap (λ (y : MemoryRow). first_gate p.platform m + y.traits.gates) (get_or_from_slice_get p.platform.memories m row.0 row.0 row.1) in
    and_from (nat_le (first_gate p.platform m) g) (nat_lt g (first_gate p.platform (m + 1))) (le-leb (first_gate p.platform m) g from) (lt-ltb g (first_gate p.platform (m + 1)) (omega arith))

-- both ways of saying that a grant is overlapped
overlaps_same : (low high : ℕ) (w : What) → overlaps low high w ≡ is_overlapped w (Invalidated low high)
overlaps_same low high w = grind (arith, common_steps)

rising_logged : (m : ℕ) (ws : List Written) → IsRising position_in ws → IsRising position_of (map (logged (Memory m)) ws)
rising_logged m [] rising = tt
rising_logged m (w ∷ ws) rising = (
  λ y has. let from = has_map (logged (Memory m)) ws y has in subst (λ (z : Entry). w.position < z.position) from.2 (rising.0 from.0 from.1),
  rising_logged m ws rising.1,
)

-- each place of a log has an entry, with its number
written_there : (n : ℕ) (log : List Entry) (k : ℕ) → k < length log → (w : Written) × Has (written_from n log) w × (w.content.number ≡ n + k)
written_there n [] k less = absurd (omega (arith, less))
written_there n (e ∷ es) zero less = (noted n e, (0, refl), omega arith)
written_there n (e ∷ es) (suc k) less =
    let r = written_there (n + 1) es k (omega arith) in
    (r.0, has_later (noted n e) (written_from (n + 1) es) r.0 r.1, (let same = r.2 in omega arith))

-- a closing is known where the grants among these are known to be closed
closing_by : (h : List Entry) (limit : ℕ) (w : What) → ((gate first last : ℕ) (kind : Kind) → w ≡ Granted gate first last kind → Knows h limit (λ z. closes gate z.what)) → KnowsClosing h limit w
closing_by h limit (Granted gate first last kind) f = f gate first last kind refl
closing_by h limit (Accessed way access status got) f = tt
closing_by h limit (Invalidated first last) f = tt
closing_by h limit (Closed gate) f = tt
closing_by h limit (Call phase answer) f = tt
closing_by h limit (Take slot) f = tt
closing_by h limit (Acquire slot) f = tt
closing_by h limit (Release slot freed) f = tt

-- more gates are closed
pub fewer_unclosed : (p : Plan) (m : ℕ) (xs ys : List (HistoryEntry Content)) → Within xs ys → unclosed p m (written_at m ys) ≤ unclosed p m (written_at m xs)
fewer_unclosed p m xs ys more =
    fewer (is_closed_in (written_at m xs)) (is_closed_in (written_at m ys)) (first_gate p.platform m) (dmi_gates p m) (λ k is. closed_more (written_at m xs) (written_at m ys) k (known_more m xs ys more) is)

module _ (frame : Frame Plan) (m : ℕ) (txn : TxnId) (time first last : ℕ) (note back : View Content Plan) (before after : Purse) (there : m < length frame.world.platform.memories) (inv : HasInvalidated frame m txn time first last note back before after) where
  abbrev p : Plan
  p = frame.world

  abbrev log : List Entry
  log = inv.made.memory.log.entries

  abbrev own : List Written
  own = inv.all.own

  abbrev looked : View Content Plan
  looked = inv.all.looked

  abbrev w : Written
  w = wrote inv.position (content_of inv.made.memory (Invalidate txn time first last))

  abbrev told : Entry
  told = logged (Memory m) w

  abbrev closings : List Entry
  closings = map (logged (Memory m)) own

  told_to_back : Within inv.told.known back.known
  told_to_back e has = inv.all.last_look.enters.knew e (inv.all.ended.keeps e has)

  keeps : Within note.known back.known
  keeps e has = told_to_back e (inv.made.enters.knew e has)

  -- what the log has after the invalidation is known
  after_known : (x : Written) → Has (entries_of inv.made.memory ++ w ∷ []) x → Has inv.told.known (placed m x)
  after_known x has =
      inv.made.enters.knows (placed m x)
      (has_mapped (placed m) (entries_of (after_call inv.made.memory inv.position (Invalidate txn time first last))) x (subst (λ (l : List Written). Has l x) (sym inv.made.enters.log) has))

  told_known : Has inv.told.known (placed m w)
  told_known = after_known w (has_right (entries_of inv.made.memory) (w ∷ []) w (0, refl))

  own_after : (x : Written) → Has own x → (w).position < x.position
  own_after x has = inv.all.ended.above x (placed m w) has told_known

  own_known : (x : Written) → Has own x → Has (known_to p back) (logged (Memory m) x)
  own_known x has = read_at (p).platform back.known m x there (known_more m (looked).known back.known inv.all.last_look.enters.knew x (inv.all.ended.knows x has))

  -- a closing's gate is one of its memory
  its_gate : (gate : ℕ) → IsOverlapped (written_at m (looked).known) first last inv.position gate → IsTrue (has_gate (p).platform m gate)
  its_gate gate over =
      let memory = inv.all.last_look.memory in
      let given : is_given_in (entries_of memory) gate ≡ true = any_has (λ (y : Written). gives_at gate y.content.what) (entries_of memory) over.grant (inv.all.last_look.known over.grant over.has) over.gives_it in
      let is = given_there frame m memory inv.all.last_look.built there inv.all.last_look.gates inv.all.last_look.granted gate (log_given memory.log.entries gate given) in
      own_gate p m gate there is.from is.below

  each_of : (x : Written) → Has own x → IsClosingFor p m txn time (logged (Memory m) x)
  each_of x has =
      let c = inv.all.ended.each x has in
      record { gate = c.gate; object = refl; of = c.of.0; at = c.of.1; says = c.says; its_gate = its_gate c.gate c.overlapped }

  each : (c : Entry) → Has closings c → IsClosingFor p m txn time c
  each c has = let from = has_map (logged (Memory m)) own c has in subst (IsClosingFor p m txn time) from.2 (each_of from.0 from.1)

  rising : IsRising position_of (told ∷ closings)
  rising = (
    λ c has. let from = has_map (logged (Memory m)) own c has in subst (λ (z : Entry). inv.position < z.position) from.2 (own_after from.0 from.1),
    rising_logged m own inv.all.ended.rising,
  )

  late_of : (e : Entry) → Has (told ∷ closings) e → note.seen ≤ e.position
  late_of e has = ⊎_elim
      (λ (is : Has (told ∷ []) e). subst (λ (z : Entry). note.seen ≤ z.position) (has_one told e is) inv.made.enters.late.0)
      (λ (is : Has closings e).
      let past = rising.0 e is in
      let from = inv.made.enters.late.0 in
      omega arith)
      (has_either (told ∷ []) closings e has)

  known : Within (told ∷ closings) (known_to p back)
  known e has = ⊎_elim
      (λ (is : Has (told ∷ []) e). subst (Has (known_to p back)) (has_one told e is) (read_placed (p).platform back.known m w there (told_to_back (placed m w) told_known)))
      (λ (is : Has closings e). let from = has_map (logged (Memory m)) own e is in subst (Has (known_to p back)) from.2 (own_known from.0 from.1))
      (has_either (told ∷ []) closings e has)

  -- a grant of the memory that stands before the invalidation, and that it overlaps
  cut_by : (g : Written) → g.position < inv.position → overlaps first last g.content.what ≡ true → is_cut_by (logged (Memory m) g) told ≡ true
  cut_by g less over =
      and_from (nat_lt g.position inv.position) (is_object (Memory m) (Memory m) && is_overlapped g.content.what (Invalidated first last)) (lt-ltb g.position inv.position less)
      (and_from (is_object (Memory m) (Memory m)) (is_overlapped g.content.what (Invalidated first last)) (eq-eqb m m refl) (sym (overlaps_same first last g.content.what) ∙ over))

  same_gate : (a b : ℕ) → Closed a ≡ Closed b → a ≡ b
  same_gate a b same = cc (same)

  cuts_of : (h : List Entry) → HasAllOf p back h → (x : Written) (gate : ℕ) → Has own x → x.content.what ≡ Closed gate → Knows h x.position (λ y. gives gate y.what && is_cut_by y told)
  cuts_of h all x gate has says =
      let c = inv.all.ended.each x has in
      let o = c.overlapped in
      let less = o.below in
      let past = own_after x has in
      let same : c.gate ≡ gate = same_gate c.gate gate (sym c.says ∙ says) in
      let given : gives gate o.grant.content.what ≡ true = ap (λ (g : ℕ). gives g o.grant.content.what) (sym same) ∙ (sym (gives_same c.gate o.grant.content.what) ∙ o.gives_it) in (
        logged (Memory m) o.grant,
        all.within (logged (Memory m) o.grant) (read_at (p).platform back.known m o.grant there (known_more m (looked).known back.known inv.all.last_look.enters.knew o.grant o.has)),
        omega arith,
        and_from (gives gate o.grant.content.what) (is_cut_by (logged (Memory m) o.grant) told) given (cut_by o.grant less o.over),
      )

  cuts : (h : List Entry) → HasAllOf p back h → (c : Entry) (gate : ℕ) → Has closings c → c.what ≡ Closed gate → Knows h c.position (λ y. gives gate y.what && is_cut_by y told)
  cuts h all c gate has says =
      let from = has_map (logged (Memory m)) own c has in
      subst (λ (z : Entry). Knows h z.position (λ y. gives gate y.what && is_cut_by y told)) from.2
      (cuts_of h all from.0 gate from.1 (subst (λ (z : Entry). z.what ≡ Closed gate) (sym from.2) says))

  module _ (h : List Entry) (limit : ℕ) (all : HasAllOf p back h) (below : AreBelow (known_to p back) limit) where
    closed_if : (x : Written) → Has (entries_of inv.made.memory) x → is_cut_by (logged (Memory m) x) told ≡ true → KnowsClosing h limit x.content.what
    closed_if x has cut = closing_by h limit x.content.what (λ gate low high kind is.
        let a = and_parts (nat_lt x.position inv.position) (is_object (Memory m) (Memory m) && is_overlapped x.content.what (Invalidated first last)) cut in
        let b = and_parts (is_object (Memory m) (Memory m)) (is_overlapped x.content.what (Invalidated first last)) a.1 in
        let closed = inv.closed gate (record {
          grant = x;
          has = has;
          below = ltb-true x.position inv.position a.0;
          gives_it = ap (gives_at gate) is ∙ eq-eqb gate gate refl;
          over = overlaps_same first last x.content.what ∙ b.1;
        }) in
        let c = has_any (λ (y : Written). closes_at gate y.content.what) (written_at m back.known) closed in
        let has_c = read_at (p).platform back.known m c.0 there c.1 in
        (logged (Memory m) c.0, all.within (logged (Memory m) c.0) has_c, below (logged (Memory m) c.0) has_c, sym (closes_same gate c.0.content.what) ∙ c.2))

    each_place : (k : ℕ) → k < length log → (x : Entry) × (get_elem? (entries_at (Memory m) h) k ≡ some x) × (IsTrue (is_cut_by x told) → KnowsClosing h limit x.what)
    each_place k less =
        let x = written_there 0 log k less in
        let number : x.0.content.number ≡ k = (let same = x.2 in omega arith) in
        let known_x = told_to_back (placed m x.0) (after_known x.0 (has_left (entries_of inv.made.memory) (w ∷ []) x.0 x.1)) in
        (logged (Memory m) x.0, ap (get_elem? (entries_at (Memory m) h)) (sym number) ∙ placed_at p back h m x.0 there all known_x, λ cut. closed_if x.0 x.1 cut)

    knows_places : KnowsPlaces h limit told
    knows_places = record { place = length log; here = placed_at p back h m w there all (told_to_back (placed m w) told_known); each = each_place }

    has_returned : HasReturned h limit told
    has_returned = places_tell_return h limit told knows_places

  wallet : HasSpent m (length (told ∷ closings)) before after
  wallet =
      let count = length-map own (logged (Memory m)) in
      subst (λ (n : ℕ). HasSpent m n before after) (omega arith) (spent_both m 1 (length own) before inv.left after inv.paid inv.all.ended.wallet)

  fewer_left : unclosed p m (written_at m back.known) + length closings ≤ unclosed p m (written_at m note.known)
  fewer_left =
      let count = length-map own (logged (Memory m)) in
      let one = fewer_unclosed p m note.known inv.told.known inv.made.enters.knew in
      let two = inv.all.ended.fewer in
      let three = fewer_unclosed p m (looked).known back.known inv.all.last_look.enters.knew in
      omega arith

  pub adds_own : AddsOwn frame m txn time first last note back before after
  adds_own = record {
    told = told;
    closings = closings;
    added = record {
      told_is = refl;
      each = each;
      rising = rising;
      late = late_of;
      keeps = keeps;
      below = inv.all.last_look.enters.below;
      known = known;
      cuts = cuts;
      returned = has_returned;
      wallet = wallet;
      fewer = fewer_left;
    };
  }

pub invalidation_adds : InvalidationAdds
invalidation_adds frame m txn time first last note back before after there inv = adds_own frame m txn time first last note back before after there inv
