-- A direct access that fits is OK.
use Rattle.std.proofs.Common.{◌≡◌, ℕ, zero, suc, ◌+◌, ◌-◌, ◌<◌, ◌≤◌, ◌⊎◌, ◌==◌, Bool, true, false, IsTrue, List, [], ◌∷◌, ◌++◌, length, refl, sym, ap, ◌∙◌, subst, ⊎_elim, arith}
use Rattle.std.specs.Prelude.{nat_lt}
use Rattle.std.proofs.lemmas.Bool.{ne_eqb}
use Rattle.std.proofs.lemmas.Bool.Decides.{nat_tests}
use mathlib.Core.Option.{some, some-ne-none, some-injective}
use lib.ListN.{get_elem?}
use Rattle.tlm_types.specs.declared.words.Command.{Command}
use Rattle.tlm_types.specs.declared.words.Command.TheVariants.{Read, Write, Ignore, FetchAdd}
use Rattle.tlm_types.specs.declared.words.Kind.{Kind}
use Rattle.tlm_types.specs.declared.words.Kind.TheVariants.{Read as read_kind, Write as write_kind, Both}
use Rattle.tlm_types.specs.declared.words.MemoryTraits.{MemoryTraits}
use Rattle.tlm_types.specs.declared.words.Response.TheVariants.{Ok}
use Rattle.tlm_types.specs.declared.words.Way.TheVariants.{Direct}
use Rattle.tlm_types.specs.declared.entry.Access.{Access}
use Rattle.tlm_types.specs.declared.entry.Entry.{Entry}
use Rattle.tlm_types.specs.declared.entry.What.{What}
use Rattle.tlm_types.specs.declared.entry.What.TheVariants.{Granted}
use Rattle.tlm_types.specs.Traits.{allowed_kind}
use Rattle.tlm_model.specs.Each.{EachFrom}
use Rattle.tlm_model.specs.Store.{checked, is_allowed, span_of, status_by}
use Rattle.generic_payload.specs.Payload.{PayloadView, access_of}
use Rattle.shared_object.specs.Written.{Written, noted}
use Rattle.region_object.specs.Call.{HasGrant, IsDirectFit}
use Rattle.region_object.specs.Grants.{IsGrantLog, IsGrantStep, allows}
use Rattle.region_object.specs.Region.{LoggedMemory, accessed}
use Rattle.region_object.specs.Written.{written_from}

-- each grant of the log is of the whole memory, and of its kind
pub record IsWholeGrant (m : MemoryTraits) (first last : ℕ) (kind : Kind) : Type 0 where
  pub low : first ≡ 0
  pub high : last ≡ m.size - 1
  pub of : kind ≡ allowed_kind m.readable m.writable

whole_from : (gates n : ℕ) (m : MemoryTraits) (before log : List Entry) (gate first last : ℕ) (kind : Kind) (k : ℕ) (w : Written) → EachFrom (λ xs e. IsGrantStep gates m xs e.what) before log → get_elem? (written_from n log) k ≡ some w → w.content.what ≡ Granted gate first last kind → IsWholeGrant m first last kind
whole_from gates n m before [] gate first last kind k w each at is = absurd (some-ne-none w (sym at))
whole_from gates n m before (e ∷ es) gate first last kind zero w each at is =
    let what : e.what ≡ Granted gate first last kind = ap (λ (x : Written). x.content.what) (some-injective (noted n e) w at) ∙ is in
    let step : IsGrantStep gates m before (Granted gate first last kind) = subst (λ (x : What). IsGrantStep gates m before x) what each.0 in
    record { low = step.2; high = step.3; of = step.4 }
whole_from gates n m before (e ∷ es) gate first last kind (suc k) w each at is = whole_from gates (n + 1) m (before ++ e ∷ []) es gate first last kind k w each.1 at is

grant_is_whole : (m : LoggedMemory) (gate first last : ℕ) (kind : Kind) → IsGrantLog m.first_gate m.traits m.log.entries → HasGrant (written_from 0 m.log.entries) gate first last kind → IsWholeGrant m.traits first last kind
grant_is_whole m gate first last kind log has = whole_from m.first_gate 0 m.traits [] m.log.entries gate first last kind has.1.0 has.0 log has.1.1 has.2

-- the kind that a memory allows allows no more than the memory
allowed : (r w : Bool) (c : Command) (m : MemoryTraits) → m.readable ≡ r → m.writable ≡ w → (r ≡ true) ⊎ (w ≡ true) → IsTrue (allows (allowed_kind r w) c) → is_allowed m c ≡ true
allowed true true Read m x y access is = x
allowed true true Write m x y access is = y
allowed true false Read m x y access is = x
allowed true false Write m x y access is = absurd (cc (is))
allowed false true Read m x y access is = absurd (cc (is))
allowed false true Write m x y access is = y
allowed false false c m x y access is = absurd (⊎_elim (λ (n : false ≡ true). cc (n)) (λ (n : false ≡ true). cc (n)) access)
allowed true true Ignore m x y access is = absurd (cc (is))
allowed true true FetchAdd m x y access is = absurd (cc (is))
allowed true false Ignore m x y access is = absurd (cc (is))
allowed true false FetchAdd m x y access is = absurd (cc (is))
allowed false true Ignore m x y access is = absurd (cc (is))
allowed false true FetchAdd m x y access is = absurd (cc (is))

-- a command that the kind of a grant allows is a read or a write, which is checked
none_ignores : (k : Kind) → allows k Ignore ≡ false
none_ignores read_kind = refl
none_ignores write_kind = refl
none_ignores Both = refl

none_adds : (k : Kind) → allows k FetchAdd ≡ false
none_adds read_kind = refl
none_adds write_kind = refl
none_adds Both = refl

by_command : (k : Kind) (m : MemoryTraits) (p : PayloadView) (c : Command) → IsTrue (allows k c) → status_by m (access_of p) c ≡ checked m (access_of p)
by_command k m p Read is = refl
by_command k m p Write is = refl
by_command k m p Ignore is = let none = none_ignores k in absurd (cc (none, is))
by_command k m p FetchAdd is = let none = none_adds k in absurd (cc (none, is))

passes : (m : MemoryTraits) (a : Access) → nat_lt m.size (a.offset + span_of a) ≡ false → is_allowed m a.command ≡ true → nat_lt 0 (length a.enables) ≡ false → (a.width == 0) ≡ false → nat_lt a.width a.length ≡ false → checked m a ≡ Ok
passes m a inside allowed unmasked wide unstreamed = rw (inside, allowed, unmasked, wide, unstreamed) refl

not_below : (a b : ℕ) → b ≤ a → nat_lt a b ≡ false
not_below a b h = grind (arith, nat_tests)

span_short : (a : Access) → (a.width == 0) ≡ false → span_of a ≤ a.length
span_short a wide = rw wide (omega arith)

pub direct_is_ok : (m : LoggedMemory) (gate : ℕ) (p : PayloadView) → 0 < m.traits.size → (m.traits.readable ≡ true) ⊎ (m.traits.writable ≡ true) → IsGrantLog m.first_gate m.traits m.log.entries → IsDirectFit (written_from 0 m.log.entries) gate p → (accessed m (Direct gate) p).status ≡ Ok
direct_is_ok m gate p size access log fit =
    let a = access_of p in
    let plain = fit.plain in
    let whole = grant_is_whole m gate fit.first fit.last fit.kind log fit.granted in
    let kind : IsTrue (allows (allowed_kind m.traits.readable m.traits.writable) p.command) = subst (λ (k : Kind). IsTrue (allows k p.command)) whole.of plain.allowed in
    let wide : (p.width == 0) ≡ false = ne_eqb p.width 0 (λ q. let w = plain.wide in omega arith) in
    let span = span_short a wide in
    let high = plain.high in
    let last = whole.high in
    let unmasked : length p.enables ≡ 0 = ap length plain.unmasked in
    by_command (allowed_kind m.traits.readable m.traits.writable) m.traits p p.command kind
    ∙ passes m.traits a
    (not_below m.traits.size (p.address + span_of a) (omega arith))
    (allowed m.traits.readable m.traits.writable p.command m.traits refl refl access kind)
    (not_below 0 (length p.enables) (omega arith))
    wide
    (not_below p.width (length p.bytes) plain.unstreamed)
