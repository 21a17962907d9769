-- A call takes no more of the log's room than it costs.
use Rattle.std.proofs.Common.{◌≡◌, ℕ, ◌+◌, ◌≤◌, true, false, List, length, drop, ap, arith}
use Rattle.std.specs.Prelude.{if◌then◌else◌}
use Rattle.std.proofs.lemmas.List.{length-take}
use Rattle.tlm_types.specs.declared.words.Command.{Command}
use Rattle.tlm_types.specs.declared.words.Command.TheVariants.{Read, Write, Ignore, FetchAdd}
use Rattle.tlm_types.specs.declared.words.Response.{Response}
use Rattle.tlm_types.specs.declared.words.Way.{Way}
use Rattle.tlm_types.specs.declared.words.Way.TheVariants.{Direct as by_grant}
use Rattle.tlm_types.specs.declared.entry.Access.{Access as AccessFacts}
use Rattle.tlm_types.specs.Entries.{kept_of, kept_sent}
use Rattle.tlm_model.specs.Actions.{data_logged}
use Rattle.tlm_model.specs.Log.{log_bytes}
use Rattle.tlm_model.specs.Store.{status_of, got_by}
use Rattle.generic_payload.specs.Payload.{PayloadView, access_of}
use Rattle.region_object.specs.declared.call.RegionCall.{RegionCall}
use Rattle.region_object.specs.declared.call.RegionCall.TheVariants.{Access, Debug, Grant, Direct, Invalidate, Overlapping, Close}
use Rattle.region_object.specs.Call.{Fits, MovesData, payload_cost, cost_of}
use Rattle.shared_object.specs.Written.{Written}
use Rattle.region_object.specs.Region.{LoggedMemory, after_call, answered, is_admitted, region_entry, with_logged}
use Rattle.region_object.proofs.Told.{transport_moves, length-found, length-got_by, got_of-transport}

-- of the data of an access either what it sent or what it got is kept, and of a fetch_add both
length-kept : (c : Command) (r : Response) (a : AccessFacts) (store : List ℕ) → length (kept_sent c a.sent) + length (got_by c r a store) ≡ data_logged c (length a.sent)
length-kept Read r a store = omega (arith, length-got_by r a store)
length-kept Write r a store = omega arith
length-kept Ignore r a store = omega arith
length-kept FetchAdd r a store = omega (arith, length-found r a store)

kept_of-access : (m : LoggedMemory) (way : Way) (p : PayloadView) → MovesData way → kept_of (answered m.traits m.log.entries way (access_of p)) ≤ payload_cost p
kept_of-access m way p moves =
    let a = access_of p in
    let r = status_of m.traits way a in
    let bytes = log_bytes m.traits m.log.entries in
    let kept = length-kept p.command r a bytes in
    let same = ap (λ (got : List ℕ). length got) (got_of-transport way r a bytes moves) in
    omega (arith, kept, same)

-- an entry keeps no more bytes than its call costs
pub kept_of-call : (m : LoggedMemory) (position : ℕ) (known : List Written) (call : RegionCall) → Fits known call → kept_of (region_entry m position call).what ≤ cost_of call
kept_of-call m position known (Access txn time way p) fit = kept_of-access m way p (transport_moves way fit.0)
kept_of-call m position known (Debug txn time p) fit =
    let bytes : data_logged p.command (length p.bytes) ≡ length p.bytes = ap (λ (c : Command). data_logged c (length p.bytes)) fit in
    omega (arith, bytes, length-take (length p.bytes) (drop p.address (log_bytes m.traits m.log.entries)))
kept_of-call m position known (Grant txn time command) fit = omega arith
kept_of-call m position known (Direct gate txn time p) fit = kept_of-access m (by_grant gate) p tt
kept_of-call m position known (Invalidate txn time first last) fit = omega arith
kept_of-call m position known (Overlapping from first last before) fit = omega arith
kept_of-call m position known (Close txn time gate) fit = omega arith

-- what a call takes of the room of its log
pub left_of-call : (m : LoggedMemory) (position : ℕ) (known : List Written) (call : RegionCall) → Fits known call → m.log.room_bytes ≤ (after_call m position call).log.room_bytes + cost_of call
left_of-call m position known call fit =
    let kept = kept_of-call m position known call fit in
    elim (is_admitted m call) as (λ b. m.log.room_bytes ≤ (if b then with_logged m (region_entry m position call) else m).log.room_bytes + cost_of call) [ true ↦ omega (arith, kept) | false ↦ omega arith ]
