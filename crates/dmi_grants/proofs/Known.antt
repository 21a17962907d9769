-- What is known of a memory, and what its log tells of gates.
use Rattle.std.proofs.Common.{◌≡◌, ℕ, zero, suc, ◌+◌, ◌≤◌, ◌&&◌, true, false, not, IsTrue, List, [], ◌∷◌, map, refl, sym, ap, ◌∙◌, subst, ⊎_elim, arith}
use Rattle.std.specs.Prelude.{nat_lt, nat_le}
use Rattle.std.proofs.lemmas.Bool.{and_parts, ltb-true, leb-true, eqb-true, eq-eqb, lt-ltb, and_from, cases_Bool, not-true}
use mathlib.Core.Option.{some-injective}
use Rattle.view_lists.specs.Lists.{Has, Within}
use Rattle.view_lists.proofs.Members.{has_none, has_later, has_map, has_mapped}
use Rattle.view_lists.proofs.Keys.{of_key-has, of_key-key, of_key-within}
use Rattle.one_history.specs.declared.entry.Entry.{Entry as HistoryEntry}
use Rattle.one_history.specs.Gates.{IsRevoked}
use Rattle.one_history.specs.Lists.{entries_at, object_of}
use Rattle.shared_object.specs.Written.{Written, noted, placed, sign_of, written, written_at}
use Rattle.tlm_types.specs.declared.entry.Content.{Content}
use Rattle.tlm_types.specs.declared.entry.Entry.{Entry}
use Rattle.tlm_types.specs.declared.entry.What.{What}
use Rattle.tlm_types.specs.declared.entry.What.TheVariants.{Access, Granted, Invalidated, Closed, Call, Take, Acquire, Release}
use Rattle.tlm_types.specs.declared.words.Kind.{Kind}
use Rattle.region_object.specs.Call.{HasGrant, IsCloseFit}
use Rattle.region_object.specs.Grants.{closes, gives, gives_over, is_closed, is_given, is_open, overlaps}
use Rattle.region_object.specs.Written.{written_from}
use Rattle.dmi_grants.specs.Made.{is_closed_in, is_given_in}
use Rattle.dmi_grants.specs.Invalidating.{IsOverlapped, IsToldIn}
use Rattle.dmi_grants.proofs.Lists.{any_has, has_any}

-- what is known at a memory grows with what is known
pub known_more : (m : ℕ) (xs ys : List (HistoryEntry Content)) → Within xs ys → Within (written_at m xs) (written_at m ys)
known_more m xs ys more w has =
    let e = has_map written (entries_at m xs) w has in
    let key : e.0.object ≡ m = of_key-key object_of m xs e.0 e.1 in
    let there : Has (entries_at e.0.object ys) e.0 = of_key-has object_of ys e.0 (more e.0 (of_key-within object_of m xs e.0 e.1)) in
    subst (λ (x : Written). Has (written_at m ys) x) e.2 (has_mapped written (entries_at m ys) e.0 (subst (λ (n : ℕ). Has (entries_at n ys) e.0) key there))

-- a log that is known
pub log_known : (m : ℕ) (log : List Written) (known : List (HistoryEntry Content)) → Within (map (placed m) log) known → Within log (written_at m known)
log_known m log known within w has =
    has_mapped written (entries_at m known) (placed m w) (of_key-has object_of known (placed m w) (within (placed m w) (has_mapped (placed m) log w has)))

-- an entry of the history that is known at a memory
pub entry_known : (m : ℕ) (known : List (HistoryEntry Content)) (w : Written) → Has (written_at m known) w → (e : HistoryEntry Content) × Has known e × (e.object ≡ m) × (written e ≡ w)
entry_known m known w has =
    let e = has_map written (entries_at m known) w has in
    (e.0, of_key-within object_of m known e.0 e.1, of_key-key object_of m known e.0 e.1, e.2)

pub given_more : (xs ys : List Written) (g : ℕ) → Within xs ys → IsTrue (is_given_in xs g) → IsTrue (is_given_in ys g)
given_more xs ys g more is = let w = has_any (λ (w : Written). gives g w.content.what) xs is in any_has (λ (w : Written). gives g w.content.what) ys w.0 (more w.0 w.1) w.2

pub closed_more : (xs ys : List Written) (g : ℕ) → Within xs ys → IsTrue (is_closed_in xs g) → IsTrue (is_closed_in ys g)
closed_more xs ys g more is = let w = has_any (λ (w : Written). closes g w.content.what) xs is in any_has (λ (w : Written). closes g w.content.what) ys w.0 (more w.0 w.1) w.2

-- entries of a log, and what was written of them
pub record Tells (e : Entry) (w : Written) : Type 0 where
  pub position : w.position ≡ e.position
  pub what : w.content.what ≡ e.what

pub written_of : (n : ℕ) (log : List Entry) (e : Entry) → Has log e → (w : Written) × Has (written_from n log) w × Tells e w
written_of n [] e has = absurd (has_none e has)
written_of n (x ∷ xs) e (zero, at) =
    let same : x ≡ e = some-injective x e at in
    (noted n x, (0, refl), record { position = ap (λ (y : Entry). y.position) same; what = ap (λ (y : Entry). y.what) same })
written_of n (x ∷ xs) e (suc k, at) = let r = written_of (n + 1) xs e (k, at) in (r.0, has_later (noted n x) (written_from (n + 1) xs) r.0 r.1, r.2)

pub entry_of : (n : ℕ) (log : List Entry) (w : Written) → Has (written_from n log) w → (e : Entry) × Has log e × Tells e w
entry_of n [] w has = absurd (has_none w has)
entry_of n (x ∷ xs) w (zero, at) =
    let same : noted n x ≡ w = some-injective (noted n x) w at in
    (x, (0, refl), record { position = ap (λ (y : Written). y.position) (sym same); what = ap (λ (y : Written). y.content.what) (sym same) })
entry_of n (x ∷ xs) w (suc k, at) = let r = entry_of (n + 1) xs w (k, at) in (r.0, has_later x xs r.0 r.1, r.2)

-- the log of a memory has a gate's grant, or its closing, where what was written has it
pub given_of_log : (log : List Entry) (g : ℕ) → IsTrue (is_given g log) → IsTrue (is_given_in (written_from 0 log) g)
given_of_log log g is =
    let e = has_any (λ (e : Entry). gives g e.what) log is in
    let w = written_of 0 log e.0 e.1 in
    any_has (λ (w : Written). gives g w.content.what) (written_from 0 log) w.0 w.1 (ap (gives g) w.2.what ∙ e.2)

pub log_given : (log : List Entry) (g : ℕ) → IsTrue (is_given_in (written_from 0 log) g) → IsTrue (is_given g log)
log_given log g is =
    let w = has_any (λ (w : Written). gives g w.content.what) (written_from 0 log) is in
    let e = entry_of 0 log w.0 w.1 in
    any_has (λ (e : Entry). gives g e.what) log e.0 e.1 (ap (gives g) (sym e.2.what) ∙ w.2)

pub closed_of_log : (log : List Entry) (g : ℕ) → IsTrue (is_closed g log) → IsTrue (is_closed_in (written_from 0 log) g)
closed_of_log log g is =
    let e = has_any (λ (e : Entry). closes g e.what) log is in
    let w = written_of 0 log e.0 e.1 in
    any_has (λ (w : Written). closes g w.content.what) (written_from 0 log) w.0 w.1 (ap (closes g) w.2.what ∙ e.2)

pub log_closed : (log : List Entry) (g : ℕ) → IsTrue (is_closed_in (written_from 0 log) g) → IsTrue (is_closed g log)
log_closed log g is =
    let w = has_any (λ (w : Written). closes g w.content.what) (written_from 0 log) is in
    let e = entry_of 0 log w.0 w.1 in
    any_has (λ (e : Entry). closes g e.what) log e.0 e.1 (ap (closes g) (sym e.2.what) ∙ w.2)

-- a grant's gate, range and kind
pub record IsGrantOf (g : ℕ) (w : What) : Type 0 where
  pub first : ℕ
  pub last : ℕ
  pub kind : Kind
  pub is : w ≡ Granted g first last kind

pub grant_of : (g : ℕ) (w : What) → IsTrue (gives g w) → IsGrantOf g w
grant_of g (Granted gate first last kind) is = record { first = first; last = last; kind = kind; is = ap (λ (n : ℕ). Granted n first last kind) (eqb-true gate g is) }
grant_of g (Access way access status got) is = absurd (cc (is))
grant_of g (Invalidated first last) is = absurd (cc (is))
grant_of g (Closed gate) is = absurd (cc (is))
grant_of g (Call phase answer) is = absurd (cc (is))
grant_of g (Take slot) is = absurd (cc (is))
grant_of g (Acquire slot) is = absurd (cc (is))
grant_of g (Release slot freed) is = absurd (cc (is))

-- a gate that is known to be given may be closed
pub close_fits : (known : List Written) (g : ℕ) → IsTrue (is_given_in known g) → IsCloseFit known g
close_fits known g is =
    let w = has_any (λ (w : Written). gives g w.content.what) known is in
    let o = grant_of g w.0.content.what w.2 in
    record { first = o.first; last = o.last; kind = o.kind; granted = (w.0, w.1, o.is) }

pub granted_in : (known : List Written) (g first last : ℕ) (kind : Kind) → HasGrant known g first last kind → IsTrue (is_given_in known g)
granted_in known g first last kind has = any_has (λ (w : Written). gives g w.content.what) known has.0 has.1 (ap (gives g) has.2 ∙ eq-eqb g g refl)

pub grant_more : (xs ys : List Written) (g first last : ℕ) (kind : Kind) → Within xs ys → HasGrant xs g first last kind → HasGrant ys g first last kind
grant_more xs ys g first last kind more has = (has.0, more has.0 has.1, has.2)

-- a gate that is open in a log, and its grant
pub open_grant : (log : List Entry) (low high told g : ℕ) → IsTrue (is_open log low high told g) → IsOverlapped (written_from 0 log) low high told g
open_grant log low high told g is =
    let e = has_any (gives_over g low high told) log (and_parts _ _ is).0 in
    let a = and_parts (gives g e.0.what) (nat_lt e.0.position told && overlaps low high e.0.what) e.2 in
    let b = and_parts (nat_lt e.0.position told) (overlaps low high e.0.what) a.1 in
    let w = written_of 0 log e.0 e.1 in
    record {
      grant = w.0;
      has = w.1;
      below = (let p = w.2.position in let l = ltb-true e.0.position told b.0 in omega arith);
      gives_it = ap (gives g) w.2.what ∙ a.0;
      over = ap (overlaps low high) w.2.what ∙ b.1;
    }

pub open_unclosed : (log : List Entry) (low high told g : ℕ) → IsTrue (is_open log low high told g) → is_closed g log ≡ false
open_unclosed log low high told g is = not-true (is_closed g log) (and_parts _ _ is).1

-- a gate that isn't open, and whose grant is overlapped, is closed
pub not_open : (log : List Entry) (low high told g : ℕ) → is_open log low high told g ≡ false → IsOverlapped (written_from 0 log) low high told g → IsTrue (is_closed g log)
not_open log low high told g shut o =
    let e = entry_of 0 log o.grant o.has in
    let over : gives_over g low high told e.0 ≡ true =
    and_from (gives g e.0.what) (nat_lt e.0.position told && overlaps low high e.0.what) (ap (gives g) (sym e.2.what) ∙ o.gives_it)
    (and_from (nat_lt e.0.position told) (overlaps low high e.0.what) (lt-ltb e.0.position told (let p = e.2.position in let b = o.below in omega arith)) (ap (overlaps low high) (sym e.2.what) ∙ o.over)) in
    let any = any_has (gives_over g low high told) log e.0 e.1 over in
    ⊎_elim
    (λ (yes' : is_closed g log ≡ true). yes')
    (λ (no' : is_closed g log ≡ false). let is : is_open log low high told g ≡ true = and_from _ _ any (ap not no') in absurd (let x : true ≡ false = sym is ∙ shut in cc (x)))
    (cases_Bool (is_closed g log))

pub overlapped_more : (xs ys : List Written) (low high told g : ℕ) → Within xs ys → IsOverlapped xs low high told g → IsOverlapped ys low high told g
overlapped_more xs ys low high told g more o = record { grant = o.grant; has = more o.grant o.has; below = o.below; gives_it = o.gives_it; over = o.over }

pub told_more : (xs ys : List Written) (low high told : ℕ) → Within xs ys → IsToldIn xs low high told → IsToldIn ys low high told
told_more xs ys low high told more t = record { entry = t.entry; has = more t.entry t.has; at = t.at; says = t.says }

-- a gate whose grant is known before the invalidation that overlaps it is revoked
meets_by : (low high : ℕ) (w : What) (g first last : ℕ) (kind : Kind) → w ≡ Granted g first last kind → IsTrue (overlaps low high w) → (low ≤ last) × (first ≤ high)
meets_by low high w g first last kind is over =
    let both = and_parts (nat_le first high) (nat_le low last) (ap (overlaps low high) (sym is) ∙ over) in
    (leb-true low last both.1, leb-true first high both.0)

pub revoked_by : (m : ℕ) (log : List Written) (known : List (HistoryEntry Content)) (low high told g : ℕ) → Within (map (placed m) log) known → IsToldIn log low high told → IsOverlapped log low high told g → IsRevoked known g
revoked_by m log known low high told g within t o =
    let is = grant_of g o.grant.content.what o.gives_it in
    let meet = meets_by low high o.grant.content.what g is.first is.last is.kind is.is o.over in
    record {
      grant = placed m o.grant;
      cut = placed m t.entry;
      first = is.first;
      last = is.last;
      from = low;
      to = high;
      has_grant = within (placed m o.grant) (has_mapped (placed m) log o.grant o.has);
      has_cut = within (placed m t.entry) (has_mapped (placed m) log t.entry t.has);
      is_grant = ap sign_of is.is;
      is_cut = ap sign_of t.says;
      later = (let b = o.below in let p = t.at in omega arith);
      object = refl;
      meet = meet;
    }
