-- How an invalidation ends grants.
use Rattle.std.proofs.Common.{◌≡◌, ℕ, ◌<◌, ◌≤◌, ◌&&◌, true, false, IsTrue, List, [], ◌∷◌, ◌++◌, length, Option, Some, None, refl, sym, ap, ◌∙◌, subst, ⊎_elim, arith, length-append}
use Rattle.std.specs.Prelude.{nat_le}
use Rattle.std.proofs.lemmas.Bool.{and_parts, and_cases, cases_Bool, eq-eqb, le-leb, not-false}
use Rattle.view_lists.specs.Lists.{Has, Within}
use Rattle.view_lists.proofs.Members.{has_either, has_left, has_none, has_one, has_right, has_later}
use Rattle.one_history.specs.declared.view.Frame.{Frame}
use Rattle.one_history.specs.declared.view.View.{View}
use Rattle.one_history.specs.Gates.{IsRevoked, total_gates}
use Rattle.one_history.specs.Lists.{StandBelow}
use Rattle.shared_object.specs.Steps.{addition}
use Rattle.shared_object.specs.Written.{Written, wrote, written_at}
use Rattle.token_book.specs.Purse.{Purse, left_of}
use Rattle.tlm_types.specs.declared.entry.Content.{Content}
use Rattle.tlm_types.specs.declared.words.TxnId.{TxnId}
use Rattle.tlm_model.specs.Plan.{Plan}
use Rattle.tlm_model.specs.Scripts.{first_gate}
use Rattle.good_history.specs.Counting.{IsRising}
use Rattle.region_object.specs.declared.call.RegionCall.{RegionCall}
use Rattle.region_object.specs.declared.call.RegionCall.TheVariants.{Close, Invalidate, Overlapping}
use Rattle.region_object.specs.declared.call.RegionReply.{RegionReply}
use Rattle.region_object.specs.declared.call.RegionReply.TheVariants.{Invalidated as InvalidatedReply, Overlapping as OverlappingReply}
use Rattle.region_object.specs.Grants.{closes, is_closed, is_open, least_from, least_open}
use Rattle.region_object.specs.Written.{content_of}
use Rattle.plat_net.specs.Calls.{entries_of}
use Rattle.dmi_grants.specs.Made.{HasSpent, IsMade, added, dmi_gates, is_closed_in, is_given_in, unclosed}
use Rattle.dmi_grants.specs.Invalidating.{HasClosed, HasEnded, HasEndedAll, HasInvalidated, IsOverlapped, IsOwnClosing, IsToldIn, position_in}
use Rattle.dmi_grants.proofs.Lists.{any_has, least_none, least_some}
use Rattle.dmi_grants.proofs.Known.{closed_more, closed_of_log, given_more, known_more, log_closed, log_given, log_known, not_open, open_grant, open_unclosed, overlapped_more, revoked_by, told_more}
use Rattle.dmi_grants.proofs.Counts.{fewer, fewer_by_one, some_left}
use Rattle.dmi_grants.proofs.GateNumbers.{IsThere, given_among, given_there}
use Rattle.dmi_grants.proofs.Tickets.{spent_both, spent_none}

-- the gate that a look found open
pub record IsFoundOpen (frame : Frame Plan) (m low high told gate : ℕ) (log : List Written) (known : List Written) (note : List Written) (back : View Content Plan) : Type 0 where
  pub there : IsThere frame m gate
  pub overlapped : IsOverlapped log low high told gate
  pub given : IsTrue (is_given_in known gate)
  pub revoked : IsToldIn note low high told → IsRevoked back.known gate
  pub unclosed : is_closed_in note gate ≡ false

module _ (frame : Frame Plan) (m : ℕ) (there : m < length frame.world.platform.memories) where
  least_reply : (log : _) (gates : ℕ × ℕ) (low high told : ℕ) (o : Option ℕ) → OverlappingReply o ≡ OverlappingReply (least_open log gates 0 low high told) → o ≡ least_open log gates 0 low high told
  least_reply log gates low high told o same = cc

  pub found_open : (low high told gate : ℕ) (note back : View Content Plan) (made : IsMade frame m (Overlapping 0 low high told) note back None (OverlappingReply (Some gate)))
      → IsFoundOpen frame m low high told gate (entries_of made.memory) (written_at m back.known) (written_at m note.known) back
  found_open low high told gate note back made =
      let log = made.memory.log.entries in
      let gates : ℕ × ℕ = (made.memory.first_gate, made.memory.traits.gates) in
      let found : least_from (λ g. nat_le 0 g && is_open log low high told g) made.memory.first_gate made.memory.traits.gates ≡ Some gate = sym (least_reply log gates low high told (Some gate) made.answer) in
      let least = least_some (λ g. nat_le 0 g && is_open log low high told g) made.memory.first_gate made.memory.traits.gates gate found in
      let open_ : IsTrue (is_open log low high told gate) = (and_parts (nat_le 0 gate) (is_open log low high told gate) least.is).1 in
      let over = open_grant log low high told gate open_ in
      let given : IsTrue (is_given_in (entries_of made.memory) gate) = any_has _ (entries_of made.memory) over.grant over.has over.gives_it in
      record {
        there = given_there frame m made.memory made.built there made.gates made.granted gate (log_given log gate given);
        overlapped = over;
        given = given_more (entries_of made.memory) (written_at m back.known) gate (log_known m (entries_of made.memory) back.known made.enters.knows) given;
        revoked = λ told_in. revoked_by m (entries_of made.memory) back.known low high told gate made.enters.knows (told_more (written_at m note.known) (entries_of made.memory) low high told made.known told_in) over;
        unclosed = ⊎_elim
            (λ (yes' : is_closed_in (written_at m note.known) gate ≡ true).
            let shut = log_closed log gate (closed_more (written_at m note.known) (entries_of made.memory) gate made.known yes') in
            absurd (let e : true ≡ false = sym shut ∙ open_unclosed log low high told gate open_ in cc (e)))
            (λ (no' : is_closed_in (written_at m note.known) gate ≡ false). no')
            (cases_Bool (is_closed_in (written_at m note.known) gate));
      }

  -- the log before a call is known after it
  pub before_known : (call : RegionCall) (note back : View Content Plan) (position : Option ℕ) (reply : RegionReply) (made : IsMade frame m call note back position reply) → Within (entries_of made.memory) (written_at m back.known)
  before_known call note back position reply made x has =
      log_known m _ back.known made.enters.knows x (subst (λ l. Has l x) (sym made.enters.log) (has_left (entries_of made.memory) (addition position (content_of made.memory call)) x has))

  -- it pays for its closing
  pub can_close : (low high told gate left : ℕ) (log known note : List Written) (back : View Content Plan) → IsFoundOpen frame m low high told gate log known note back → unclosed frame.world m note ≤ left → 0 < left
  can_close low high told gate left log known note back found few =
      let one = some_left (is_closed_in note) (first_gate frame.world.platform m) (dmi_gates frame.world m) gate found.there.from found.there.below found.unclosed in
      omega (arith, one)

  -- the gate was closed, now or before
  closes_by : (txn : TxnId) (time gate : ℕ) (note d back : View Content Plan) (reply : RegionReply) (before after : Purse) (position : Option ℕ) → d.known ≡ note.known → StandBelow note.known d.seen → IsMade frame m (Close txn time gate) d back position reply → HasSpent m (added position) before after → HasClosed frame m txn time gate note back before after
  closes_by txn time gate note d back reply before after None same below made spent =
      let shut : is_closed gate made.memory.log.entries ≡ true = not-false (is_closed gate made.memory.log.entries) made.enters.when in
      record {
        own = [];
        each = λ w has. absurd (has_none w has);
        past = λ w x has known. absurd (has_none w has);
        above = λ w e has known. absurd (has_none w has);
        few = omega arith;
        keeps = subst (λ l. Within l back.known) same made.enters.knew;
        knows = λ w has. absurd (has_none w has);
        wallet = spent;
        closed = closed_more (entries_of made.memory) (written_at m back.known) gate (before_known (Close txn time gate) d back None reply made) (closed_of_log made.memory.log.entries gate shut);
      }
  closes_by txn time gate note d back reply before after (Some p) same below made spent =
      let w : Written = wrote p (content_of made.memory (Close txn time gate)) in
      let there_ : Has (written_at m back.known) w = log_known m _ back.known made.enters.knows w (subst (λ l. Has l w) (sym made.enters.log) (has_right (entries_of made.memory) (w ∷ []) w (0, refl))) in
      record {
        own = w ∷ [];
        each = λ x has. let is : w ≡ x = has_one w x has in (ap (λ (y : Written). y.content.what) (sym is), ap (λ (y : Written). y.content.txn) (sym is), ap (λ (y : Written). y.content.time) (sym is));
        past = λ x y has known.
            let is : w ≡ x = has_one w x has in
            let under = made.enters.past y (made.known y (subst (λ l. Has (written_at m l) y) (sym same) known)) in
            subst (λ (z : Written). y.position < z.position) is under;
        above = λ x e has known.
            let is : w ≡ x = has_one w x has in
            let under = below e known in
            let late = made.enters.late.0 in
            let lower : e.position < w.position = omega (arith, under, late) in
            subst (λ (z : Written). e.position < z.position) is lower;
        few = omega arith;
        keeps = subst (λ l. Within l back.known) same made.enters.knew;
        knows = λ x has. subst (λ (z : Written). Has (written_at m back.known) z) (has_one w x has) there_;
        wallet = spent;
        closed = any_has (λ (x : Written). closes gate x.content.what) (written_at m back.known) w there_ (eq-eqb gate gate refl);
      }

  pub closed_by : (txn : TxnId) (time gate : ℕ) (note d back : View Content Plan) (reply : RegionReply) (before after : Purse) (position : Option ℕ) → d.known ≡ note.known → StandBelow note.known d.seen → IsMade frame m (Close txn time gate) d back position reply → HasSpent m (added position) before after → HasClosed frame m txn time gate note back before after
  closed_by = closes_by

rising_short : (own : List Written) → length own ≤ 1 → IsRising position_in own
rising_short [] few = tt
rising_short (x ∷ []) few = ((λ y has. absurd (has_none y has)), tt)
rising_short (x ∷ y ∷ ys) few = absurd (omega arith)

module _ (frame : Frame Plan) (m : ℕ) (txn : TxnId) (time low high told : ℕ) where
  -- one gate more was ended
  pub ended_one : (gate : ℕ) (log : List Written) (note seen back : View Content Plan) (before after : Purse) → Within note.known seen.known → Within log (written_at m seen.known)
      → IsFoundOpen frame m low high told gate log (written_at m seen.known) (written_at m note.known) seen → (c : HasClosed frame m txn time gate seen back before after) → HasEnded frame m txn time low high told c.own note back before after
  ended_one gate log note seen back before after knew logged found c = record {
    each = λ w has. let e = c.each w has in record {
      gate = gate;
      says = e.0;
      of = (e.1, e.2);
      overlapped = overlapped_more log (written_at m back.known) low high told gate (λ x in_log. known_more m seen.known back.known c.keeps x (logged x in_log)) found.overlapped;
    };
    past = λ w x has known. c.past w x has (known_more m note.known seen.known knew x known);
    above = λ w e has known. c.above w e has (knew e known);
    rising = rising_short c.own c.few;
    keeps = λ e has. c.keeps e (knew e has);
    knows = c.knows;
    wallet = c.wallet;
    fewer =
        let one = fewer_by_one (is_closed_in (written_at m note.known)) (is_closed_in (written_at m back.known)) (first_gate frame.world.platform m) (dmi_gates frame.world m) gate
        (λ k is. closed_more (written_at m note.known) (written_at m back.known) k (known_more m note.known back.known (λ e has. c.keeps e (knew e has))) is)
        found.there.from found.there.below found.unclosed c.closed in
        let few = c.few in
        omega (arith, one);
  }

  -- nothing was ended, while others may have made entries
  pub ended_none : (note back : View Content Plan) (w : Purse) → Within note.known back.known → HasEnded frame m txn time low high told [] note back w w
  ended_none note back w knew = record {
    each = λ x has. absurd (has_none x has);
    past = λ x y has known. absurd (has_none x has);
    above = λ x e has known. absurd (has_none x has);
    rising = tt;
    keeps = knew;
    knows = λ x has. absurd (has_none x has);
    wallet = spent_none m w;
    fewer =
        let less = fewer (is_closed_in (written_at m note.known)) (is_closed_in (written_at m back.known)) (first_gate frame.world.platform m) (dmi_gates frame.world m) (λ k is. closed_more (written_at m note.known) (written_at m back.known) k (known_more m note.known back.known knew) is) in
        omega (arith, less);
  }

  rising_both : (xs ys : List Written) → IsRising position_in xs → IsRising position_in ys → ((x y : Written) → Has xs x → Has ys y → x.position < y.position) → IsRising position_in (xs ++ ys)
  rising_both [] ys first second apart = second
  rising_both (x ∷ xs) ys first second apart = (
    (λ y has. ⊎_elim (λ (a : Has xs y). first.0 y a) (λ (b : Has ys y). apart x y (0, refl) b) (has_either xs ys y has)),
    rising_both xs ys first.1 second (λ a b in_xs in_ys. apart a b (has_later x xs a in_xs) in_ys),
  )

  own_more : (w : Written) (a b : View Content Plan) → Within a.known b.known → IsOwnClosing (written_at m a.known) txn time low high told w → IsOwnClosing (written_at m b.known) txn time low high told w
  own_more w a b keeps o = record { gate = o.gate; says = o.says; of = o.of; overlapped = overlapped_more (written_at m a.known) (written_at m b.known) low high told o.gate (known_more m a.known b.known keeps) o.overlapped }

  -- what was ended one after the other
  pub ended_both : (xs ys : List Written) (a b c : View Content Plan) (u v w : Purse) → HasEnded frame m txn time low high told xs a b u v → HasEnded frame m txn time low high told ys b c v w → HasEnded frame m txn time low high told (xs ++ ys) a c u w
  ended_both xs ys a b c u v w first second = record {
    each = λ z has. ⊎_elim (λ (l : Has xs z). own_more z b c second.keeps (first.each z l)) (λ (r : Has ys z). second.each z r) (has_either xs ys z has);
    past = λ z x has known. ⊎_elim (λ (l : Has xs z). first.past z x l known) (λ (r : Has ys z). second.past z x r (known_more m a.known b.known first.keeps x known)) (has_either xs ys z has);
    above = λ z e has known. ⊎_elim (λ (l : Has xs z). first.above z e l known) (λ (r : Has ys z). second.above z e r (first.keeps e known)) (has_either xs ys z has);
    rising = rising_both xs ys first.rising second.rising (λ x y in_xs in_ys. second.past y x in_ys (first.knows x in_xs));
    keeps = λ e has. second.keeps e (first.keeps e has);
    knows = λ z has. ⊎_elim (λ (l : Has xs z). known_more m b.known c.known second.keeps z (first.knows z l)) (λ (r : Has ys z). second.knows z r) (has_either xs ys z has);
    wallet = subst (λ (n : ℕ). HasSpent m n u w) (sym (length-append xs ys)) (spent_both m (length xs) (length ys) u v w first.wallet second.wallet);
    fewer = (let f = first.fewer in let s = second.fewer in let n = length-append xs ys in omega arith);
  }

-- the entry of an invalidation is known
pub told_in : (frame : Frame Plan) (m : ℕ) (txn : TxnId) (time first last p : ℕ) (note back : View Content Plan) (reply : RegionReply) → IsMade frame m (Invalidate txn time first last) note back (Some p) reply → IsToldIn (written_at m back.known) first last p
told_in frame m txn time first last p note back reply made =
    let w : Written = wrote p (content_of made.memory (Invalidate txn time first last)) in
    record {
      entry = w;
      has = log_known m _ back.known made.enters.knows w (subst (λ l. Has l w) (sym made.enters.log) (has_right (entries_of made.memory) (w ∷ []) w (0, refl)));
      at = refl;
      says = refl;
    }

-- all grants that were overlapped are closed, once a look found none open
pub all_closed : (frame : Frame Plan) (m low high told gate : ℕ) (log : List Written) (note back : View Content Plan) (made : IsMade frame m (Overlapping 0 low high told) note back None (OverlappingReply None)) → Within log (written_at m note.known) → IsOverlapped log low high told gate → IsTrue (is_closed_in (written_at m back.known) gate)
all_closed frame m low high told gate log note back made knew over =
    let entries = made.memory.log.entries in
    let here : IsOverlapped (entries_of made.memory) low high told gate = overlapped_more log (entries_of made.memory) low high told gate (λ x has. made.known x (knew x has)) over in
    let given : IsTrue (is_given_in (entries_of made.memory) gate) = any_has _ (entries_of made.memory) here.grant here.has here.gives_it in
    let among = (given_among made.memory.first_gate made.memory.traits gate [] entries made.granted (log_given entries gate given)).0 in
    let none : least_from (λ g. nat_le 0 g && is_open entries low high told g) made.memory.first_gate made.memory.traits.gates ≡ None = (let a = made.answer in cc) in
    let shut : (nat_le 0 gate && is_open entries low high told gate) ≡ false = least_none (λ g. nat_le 0 g && is_open entries low high told g) made.memory.first_gate made.memory.traits.gates gate none among.0 among.1 in
    let unopen : is_open entries low high told gate ≡ false =
    ⊎_elim
    (λ (no' : nat_le 0 gate ≡ false). absurd (let e : true ≡ false = sym (le-leb 0 gate (omega arith)) ∙ no' in cc (e)))
    (λ (no' : is_open entries low high told gate ≡ false). no')
    (and_cases (nat_le 0 gate) (is_open entries low high told gate) shut) in
    closed_more (entries_of made.memory) (written_at m back.known) gate (log_known m (entries_of made.memory) back.known made.enters.knows) (closed_of_log entries gate (not_open entries low high told gate unopen here))

-- what a gate that was found open gives its ending
pub record MayEnd (frame : Frame Plan) (m low high told gate : ℕ) (note seen : View Content Plan) : Type 0 where
  pub total : gate < total_gates frame
  pub given : IsTrue (is_given_in (written_at m seen.known) gate)
  pub revoked : IsToldIn (written_at m note.known) low high told → IsRevoked seen.known gate
  pub pays : (left : ℕ) → unclosed frame.world m (written_at m note.known) ≤ left → 0 < left

module _ (frame : Frame Plan) (m : ℕ) (there : m < length frame.world.platform.memories) (low high told gate : ℕ) (note seen : View Content Plan) (o : Option ℕ) (some_gate : o ≡ Some gate) (look : IsMade frame m (Overlapping 0 low high told) note seen None (OverlappingReply o)) where
  made_some : IsMade frame m (Overlapping 0 low high told) note seen None (OverlappingReply (Some gate))
  made_some = subst (λ (x : Option ℕ). IsMade frame m (Overlapping 0 low high told) note seen None (OverlappingReply x)) some_gate look

  pub may_end : MayEnd frame m low high told gate note seen
  may_end =
      let found = found_open frame m there low high told gate note seen made_some in
      record {
        total = found.there.total;
        given = found.given;
        revoked = found.revoked;
        pays = λ left few. can_close frame m there low high told gate left (entries_of made_some.memory) (written_at m seen.known) (written_at m note.known) seen found few;
      }

  pub next_ended : (txn : TxnId) (time : ℕ) (back : View Content Plan) (before after : Purse) → HasClosed frame m txn time gate seen back before after → (own : List Written) × HasEnded frame m txn time low high told own note back before after
  next_ended txn time back before after c =
      let found = found_open frame m there low high told gate note seen made_some in (
        c.own,
        ended_one frame m txn time low high told gate (entries_of made_some.memory) note seen back before after made_some.enters.knew
            (before_known frame m there (Overlapping 0 low high told) note seen None (OverlappingReply (Some gate)) made_some) found c,
      )

-- an invalidation has returned
pub returned : (frame : Frame Plan) (m : ℕ) (txn : TxnId) (time first last p : ℕ) (note told back : View Content Plan) (before left after : Purse) → m < length frame.world.platform.memories
    → IsMade frame m (Invalidate txn time first last) note told (Some p) InvalidatedReply → HasSpent m 1 before left → HasEndedAll frame m txn time first last p told back left after → HasInvalidated frame m txn time first last note back before after
returned frame m txn time first last p note told back before left after there made paid all = record {
  told = told;
  position = p;
  made = made;
  left = left;
  paid = paid;
  all = all;
  closed = λ gate over. all_closed frame m first last p gate (entries_of made.memory) all.looked back all.last_look
      (λ x has. known_more m told.known all.looked.known all.ended.keeps x (before_known frame m there (Invalidate txn time first last) note told (Some p) InvalidatedReply made x has)) over;
}

-- the tickets of an invalidation suffice for what it may close
pub tickets_left : (frame : Frame Plan) (m : ℕ) (note told : View Content Plan) (before left : Purse) → Within note.known told.known → HasSpent m 1 before left → unclosed frame.world m (written_at m note.known) < left_of before m → unclosed frame.world m (written_at m told.known) ≤ left_of left m
tickets_left frame m note told before left knew paid few =
    let less = fewer (is_closed_in (written_at m note.known)) (is_closed_in (written_at m told.known)) (first_gate frame.world.platform m) (dmi_gates frame.world m) (λ k is. closed_more (written_at m note.known) (written_at m told.known) k (known_more m note.known told.known knew) is) in
    let here = paid.here in
    omega (arith, less)
