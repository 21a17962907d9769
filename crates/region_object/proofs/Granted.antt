-- A grant among what a memory has written stands in its log.
use Rattle.std.proofs.Common.{◌≡◌, ℕ, zero, suc, ◌+◌, ◌-◌, ◌||◌, Bool, true, false, IsTrue, List, [], ◌∷◌, length, Option, Some, None, refl, sym, ap, ◌∙◌, subst}
use Rattle.std.specs.Prelude.{is_none, if◌then◌else◌}
use Rattle.std.proofs.lemmas.Bool.{eq-eqb}
use mathlib.Core.Option.{some, some-ne-none, some-injective}
use lib.ListN.{get_elem?}
use Rattle.view_lists.specs.Lists.{Has}
use Rattle.view_lists.proofs.Members.{has_right}
use Rattle.tlm_types.specs.declared.words.Command.{Command}
use Rattle.tlm_types.specs.declared.words.Kind.{Kind}
use Rattle.tlm_types.specs.declared.words.TxnId.{TxnId}
use Rattle.tlm_types.specs.declared.entry.Entry.{Entry}
use Rattle.tlm_types.specs.declared.entry.What.TheVariants.{Granted}
use Rattle.tlm_types.specs.Traits.{allowed_kind}
use Rattle.shared_object.specs.Written.{Written, noted}
use Rattle.region_object.specs.declared.call.Denial.{Denial}
use Rattle.region_object.specs.declared.call.RegionCall.TheVariants.{Grant}
use Rattle.region_object.specs.Call.{HasGrant, TellsGrant}
use Rattle.region_object.specs.Grants.{gives, is_given}
use Rattle.region_object.specs.Region.{LoggedMemory, after_call, denial_of, grant_reply, next_gate, region_entry, reply_of, with_logged}
use Rattle.region_object.specs.Written.{written_from}
use Rattle.region_object.proofs.Written.{written_from-more}

either : (a b : Bool) → b ≡ true → (a || b) ≡ true
either true b is = refl
either false b is = is

first_of : (a b : Bool) → a ≡ true → (a || b) ≡ true
first_of true b is = refl
first_of false b is = absurd (cc (is))

granted_from : (n : ℕ) (log : List Entry) (gate first last : ℕ) (kind : Kind) (k : ℕ) (w : Written) → get_elem? (written_from n log) k ≡ some w → w.content.what ≡ Granted gate first last kind → IsTrue (is_given gate log)
granted_from n [] gate first last kind k w at is = absurd (some-ne-none w (sym at))
granted_from n (e ∷ es) gate first last kind zero w at is =
    let what : e.what ≡ Granted gate first last kind = ap (λ (x : Written). x.content.what) (some-injective (noted n e) w at) ∙ is in
    first_of (gives gate e.what) (is_given gate es) (ap (gives gate) what ∙ eq-eqb gate gate refl)
granted_from n (e ∷ es) gate first last kind (suc k) w at is = either (gives gate e.what) (is_given gate es) (granted_from (n + 1) es gate first last kind k w at is)

pub granted_in : (log : List Entry) (gate first last : ℕ) (kind : Kind) → HasGrant (written_from 0 log) gate first last kind → IsTrue (is_given gate log)
granted_in log gate first last kind has = granted_from 0 log gate first last kind has.1.0 has.0 has.1.1 has.2

-- a grant that isn't denied stands in the log afterwards
pub grant_told : (m : LoggedMemory) (position : ℕ) (txn : TxnId) (time : ℕ) (command : Command) → denial_of m command ≡ None → HasGrant (written_from 0 (after_call m position (Grant txn time command)).log.entries) (next_gate m) 0 (m.traits.size - 1) (allowed_kind m.traits.readable m.traits.writable)
grant_told m position txn time command given =
    let e = region_entry m position (Grant txn time command) in
    let after : after_call m position (Grant txn time command) ≡ with_logged m e = ap (λ (d : Option Denial). if is_none d then with_logged m e else m) given in
    let w : Written = noted (0 + length m.log.entries) e in
    let log = ap (λ (v : LoggedMemory). written_from 0 v.log.entries) after ∙ written_from-more 0 m.log.entries e in
    (w, subst (λ (l : List Written). Has l w) (sym log) (has_right (written_from 0 m.log.entries) (w ∷ []) w (0, refl)), refl)

by_denial : (m : LoggedMemory) (position : ℕ) (txn : TxnId) (time : ℕ) (command : Command) (d : Option Denial) → denial_of m command ≡ d → TellsGrant (written_from 0 (after_call m position (Grant txn time command)).log.entries) (grant_reply m d)
by_denial m position txn time command None is = grant_told m position txn time command is
by_denial m position txn time command (Some denial) is = tt

pub reply_tells : (m : LoggedMemory) (position : ℕ) (txn : TxnId) (time : ℕ) (command : Command) → TellsGrant (written_from 0 (after_call m position (Grant txn time command)).log.entries) (reply_of m (Grant txn time command))
reply_tells m position txn time command = by_denial m position txn time command (denial_of m command) refl
