-- The entries of a good history of a valid plan can be told.
use Rattle.std.proofs.Common.{◌≡◌, ℕ, zero, suc, ◌+◌, ◌-◌, ◌%◌, ◌^◌, ◌<◌, ◌≤◌, ◌==◌, ◌&&◌, ◌||◌, Bool, true, false, List, [], ◌∷◌, ◌++◌, length, map, take, drop, Option, Some, None, leb, refl, sym, ap, subst, ◌∙◌, arith}
use Rattle.std.specs.Prelude.{IfSome, if◌then◌else◌, slice_get, slice_index, slice_set}
use Rattle.std.specs.List.{AllByRecursion, list_any}
use Rattle.std.specs.Option.{option_map}
use Rattle.std.proofs.lemmas.Bool.{and_parts, eq-eqb, eqb-true, leb-true, true≢false}
use Rattle.std.proofs.lemmas.List.{length-take, map-append}
use Rattle.std.proofs.lemmas.Option.{slice_get-map, slice_get_within}
use Rattle.addr_router.specs.Windows.{IsProper as IsProperWindow}
use Rattle.tlm_types.specs.declared.words.Command.{Command}
use Rattle.tlm_types.specs.declared.words.Command.TheVariants.{Read, Write, Ignore, FetchAdd}
use Rattle.tlm_types.specs.declared.words.Kind.{Kind}
use Rattle.tlm_types.specs.declared.words.ObjectNo.{ObjectNo}
use Rattle.tlm_types.specs.declared.words.ObjectNo.TheVariants.{Memory as memory_object, Hop, Pool}
use Rattle.tlm_types.specs.declared.words.Response.{Response}
use Rattle.tlm_types.specs.declared.words.Response.TheVariants.{Ok as ok_response}
use Rattle.tlm_types.specs.declared.words.Way.{Way}
use Rattle.tlm_types.specs.declared.words.Way.TheVariants.{Blocking, FourPhase, Direct, Debug}
use Rattle.tlm_types.specs.declared.entry.Access.{Access}
use Rattle.tlm_types.specs.declared.entry.Entry.{Entry}
use Rattle.tlm_types.specs.declared.entry.What.{What}
use Rattle.tlm_types.specs.declared.entry.What.TheVariants.{Access as Accessed, Granted, Invalidated, Closed, Call, Take, Acquire, Release}
use Rattle.tlm_model.specs.declared.platform.MemoryRow.{MemoryRow}
use Rattle.tlm_model.specs.declared.platform.Platform.{Platform}
use Rattle.tlm_model.specs.declared.platform.RouterRow.{RouterRow}
use Rattle.tlm_model.specs.declared.platform.Style.{Style}
use Rattle.tlm_model.specs.declared.platform.Style.TheVariants.{Blocking as blocking_style, Direct as direct_style, FourPhase as fourphase_style}
use Rattle.tlm_model.specs.declared.platform.Target.{Target}
use Rattle.tlm_model.specs.declared.platform.Target.TheVariants.{Router, Memory}
use Rattle.tlm_model.specs.declared.platform.WindowRow.{WindowRow}
use Rattle.tlm_model.specs.Each.{EachFrom}
use Rattle.good_history.specs.Good.{IsGood}
use Rattle.tlm_model.specs.History.{IsAnswer, IsLegalEntry, IsLegalFrom, IsNumberedFrom, Store, after, is_object, opening_store, put, zeros_of}
use Rattle.tlm_model.specs.Plan.{Plan, Initiator, initiators_of}
use Rattle.report_model.specs.Report.{operand_in, shown_by}
use Rattle.tlm_types.specs.Entries.{read_sends}
use Rattle.tlm_model.specs.Numbers.{added, le_number}
use Rattle.tlm_model.specs.Requests.{Asked, Transport, DebugRead, Invalidation, Request, got_in, requests_of}
use Rattle.tlm_model.specs.Route.{Found, Route, into_memory, into_router, into_window, window_has, later, latency_of, before_of, route_of, walk, window_of}
use Rattle.tlm_model.specs.Scripts.{HasWay, IsAccessOf, IsEntryOf, IsInvalidationOf, IsPlaced, IsWay, OfRequest, has_gate}
use Rattle.tlm_model.specs.Store.{got_by, got_of, is_enabled, place_of, put_from, store_after, stored_by, taken_from, zeros}
use Rattle.tlm_model.specs.Times.{HasTime, decoupled_time}
use Rattle.tlm_model.proofs.HistoryLemmas.{AllByRecursion-push, AllByRecursion-weaker}
use Rattle.flow_model.specs.World.{Passage}
use Rattle.flow_model.specs.Events.{Event, entries, number_in, numbered_from}
use Rattle.flow_model.specs.Issue.{issue_time}
use Rattle.flow_model.specs.Platform.{passage_of, world_of}
use Rattle.flow_model.specs.Points.{InOrderBy, TimedBy}
use Rattle.flow_model.specs.Traffic.{IsIssuedBy, slots_of}
use Rattle.generic_payload.proofs.Moves.{length-taken_from}
use Rattle.good_history.specs.Grants.{gives, serves}
use Rattle.good_history.specs.Kept.{GrantsAll, IsUse, IsWholeOf}
use Rattle.platform_model.specs.Bounded.{IsBounded, IsBoundedMemory, IsBoundedRouter}
use Rattle.platform_model.specs.Windows.{window_at}
use Rattle.traffic_script.specs.Proper.{AreBytes, AreProper}
use Rattle.platform_shape.proofs.SinglePaths.{not_none, some_same}
use Rattle.route_plan.specs.Valid.{IsValid}
use Rattle.route_plan.specs.Valid.{IsObject as IsObjectOf}
use Rattle.run_outcome.proofs.PlanLemmas.{initiator_within}
use Rattle.trace_print.specs.Naming.{AreUsual, HasGate, HasNumbers, HasUsualBytes, IsObject, IsTellable}
use Rattle.trace_print.proofs.AtMemories.{gate-few}
use Rattle.trace_print.proofs.FewEntries.{few-entries, good-objects}
use Rattle.trace_print.proofs.GoodNames.{all_got}
use Rattle.trace_print.proofs.EntryKinds.{HaveKinds, IsKind, Places, Replies, Ways, have-kinds}
use Rattle.trace_print.proofs.OfRequests.{all-at, at-request, request-of, script-of}
use Rattle.trace_print.proofs.Passages.{count-hop-words, is-passed}
use Rattle.trace_print.proofs.Requested.{IsBuffer, IsGotten, IsSentAsUsual, IsToldAsked, IsToldDebugRead, IsToldRequest, IsToldTransport, later-small, le-bytes, requests-few, requests-told, zeros-bytes}
use Rattle.trace_print.proofs.SmallSlots.{HasSlot, IsSlotBelow, few-slots, have-slots}
use Rattle.trace_print.proofs.SmallTimes.{HaveSmallTimes, IsSmallTime, passed-small, unpassed-small}
use Rattle.trace_print.proofs.Standing.{all-stand}

-- bytes of memories

index-byte : (xs : List ℕ) (k : ℕ) → AreBytes xs → slice_index xs k < 256
index-byte [] zero h = omega arith
index-byte [] (suc k) h = omega arith
index-byte (x ∷ xs) zero h = h.0
index-byte (x ∷ xs) (suc k) h = index-byte xs k h.1

set-bytes : (xs : List ℕ) (k b : ℕ) → AreBytes xs → b < 256 → AreBytes (slice_set xs k b)
set-bytes [] zero b h s = tt
set-bytes [] (suc k) b h s = tt
set-bytes (x ∷ xs) zero b h s = (s, h.1)
set-bytes (x ∷ xs) (suc k) b h s = (h.0, set-bytes xs k b h.1 s)

take-bytes : (n : ℕ) (xs : List ℕ) → AreBytes xs → AreBytes (take n xs)
take-bytes zero xs h = tt
take-bytes (suc n) [] h = tt
take-bytes (suc n) (x ∷ xs) h = (h.0, take-bytes n xs h.1)

drop-bytes : (n : ℕ) (xs : List ℕ) → AreBytes xs → AreBytes (drop n xs)
drop-bytes zero xs h = h
drop-bytes (suc n) [] h = tt
drop-bytes (suc n) (x ∷ xs) h = drop-bytes n xs h.1

one-byte : (b : Bool) (x y : ℕ) → x < 256 → y < 256 → (if b then x else y) < 256
one-byte true x y h g = h
one-byte false x y h g = g

either-bytes : (b : Bool) (xs ys : List ℕ) → AreBytes xs → AreBytes ys → AreBytes (if b then xs else ys)
either-bytes true xs ys h g = h
either-bytes false xs ys h g = g

taken-bytes : (a : Access) (k : ℕ) (bs store : List ℕ) → AreBytes bs → AreBytes store → AreBytes (taken_from a k bs store)
taken-bytes a k [] store h g = tt
taken-bytes a k (b ∷ bs) store h g = (one-byte (is_enabled a k) (slice_index store (place_of a k)) b (index-byte store (place_of a k) g) h.0, taken-bytes a (k + 1) bs store h.1 g)

put-bytes : (a : Access) (k : ℕ) (bs store : List ℕ) → AreBytes bs → AreBytes store → AreBytes (put_from a k bs store)
put-bytes a k [] store h g = g
put-bytes a k (b ∷ bs) store h g =
    put-bytes a (k + 1) bs (if is_enabled a k then slice_set store (place_of a k) b else store) h.1
    (either-bytes (is_enabled a k) (slice_set store (place_of a k) b) store (set-bytes store (place_of a k) b g h.0) g)

abbrev HasStoredBytes : Store → Type 0
HasStoredBytes s = (m : ℕ) → AreBytes (s m)

zeros_of-bytes : (o : Option MemoryRow) → AreBytes (zeros_of o)
zeros_of-bytes None = tt
zeros_of-bytes (Some row) = zeros-bytes row.traits.size

put-stored : (s : Store) → HasStoredBytes s → (m : ℕ) (bytes : List ℕ) → AreBytes bytes → HasStoredBytes (put s m bytes)
put-stored s h m bytes g k = either-bytes (m == k) bytes (s k) g (h k)

stored-bytes : (c : Command) (r : Response) (a : Access) (store : List ℕ) → AreBytes a.sent → AreBytes store → AreBytes (stored_by c r a store)
stored-bytes Write ok_response a store h g = put-bytes a 0 a.sent store h g
stored-bytes FetchAdd ok_response a store h g = put-bytes a 0 (added (taken_from a 0 a.sent store) (le_number a.sent)) store (le-bytes ((le_number (taken_from a 0 a.sent store) + le_number a.sent) % 2 ^ 32)) g
stored-bytes c r a store h g = g

-- what accesses get and show

got-buffer : (c : Command) (r : Response) (a : Access) (store : List ℕ) → AreBytes a.sent → length a.sent < 2 ^ 64 → AreBytes store → IsBuffer (got_by c r a store)
got-buffer Read ok_response a store h few g = record { bytes = taken-bytes a 0 a.sent store h g; few = omega (arith, few, length-taken_from a 0 a.sent store) }
got-buffer Read r a store h few g = record { bytes = h; few = few }
got-buffer Write r a store h few g = record { bytes = tt; few = omega arith }
got-buffer Ignore r a store h few g = record { bytes = tt; few = omega arith }
got-buffer FetchAdd ok_response a store h few g = record { bytes = taken-bytes a 0 a.sent store h g; few = omega (arith, few, length-taken_from a 0 a.sent store) }
got-buffer FetchAdd r a store h few g = record { bytes = h; few = few }

shown-bytes : (c : Command) (a : Access) (got : List ℕ) → AreBytes a.sent → AreBytes got → AreBytes (shown_by c a got)
shown-bytes Read a got h g = g
shown-bytes Write a got h g = h
shown-bytes Ignore a got h g = tt
shown-bytes FetchAdd a got h g = g

operand-bytes : (c : Command) (sent : List ℕ) → AreBytes sent → AreBytes (operand_in c sent)
operand-bytes Read sent h = tt
operand-bytes Write sent h = tt
operand-bytes Ignore sent h = tt
operand-bytes FetchAdd sent h = h

-- an access by blocking or non-blocking transport, or through a gate that can be told
abbrev IsTransportWay : Way → Type 0
IsTransportWay Blocking = Unit {0}
IsTransportWay FourPhase = Unit {0}
IsTransportWay (Direct g) = g < 2 ^ 64
IsTransportWay Debug = ⊥

gate-of : (way : Way) → IsTransportWay way → HasGate way
gate-of Blocking is = tt
gate-of FourPhase is = tt
gate-of (Direct g) is = is
gate-of Debug is = tt

got-is : (way : Way) → IsTransportWay way → (status : Response) (a : Access) (store : List ℕ) → got_of way status a store ≡ got_by a.command status a store
got-is Blocking is status a store = refl
got-is FourPhase is status a store = refl
got-is (Direct g) is status a store = refl
got-is Debug is status a store = absurd is

stored-is : (way : Way) → IsTransportWay way → (status : Response) (a : Access) (store : List ℕ) → store_after way status a store ≡ stored_by a.command status a store
stored-is Blocking is status a store = refl
stored-is FourPhase is status a store = refl
stored-is (Direct g) is status a store = refl
stored-is Debug is status a store = absurd is

zeros-sent : (way : Way) → IsTransportWay way → (n : ℕ) → read_sends way n ≡ zeros n
zeros-sent Blocking is n = refl
zeros-sent FourPhase is n = refl
zeros-sent (Direct g) is n = refl
zeros-sent Debug is n = absurd is

usual-bytes : (c : Command) (way : Way) → IsTransportWay way → (r : Response) (a : Access) (offset : ℕ) (store got : List ℕ) → IsSentAsUsual c a → got ≡ got_by c r (record a { offset = offset }) store → AreUsual c way (record a { offset = offset }) got
usual-bytes Read way is r a offset store got sent e = sent ∙ sym (zeros-sent way is a.length)
usual-bytes Write way is r a offset store got sent e = e
usual-bytes Ignore way is r a offset store got sent e = (sent, e)
usual-bytes FetchAdd way is r a offset store got sent e = tt

-- what is told of an entry, where this is the store before it
record IsToldWhat (s : Store) (o : ObjectNo) (w : What) : Type 0 where
  numbers : HasNumbers w
  usual : HasUsualBytes w
  gotten : IfSome (got_in w) IsBuffer
  stored : HasStoredBytes (after o w s)

answer-got : (o : Option MemoryRow) (bytes : List ℕ) (way : Way) (a : Access) (status : Response) (got : List ℕ) → IsAnswer o bytes way a status got → got ≡ got_of way status a bytes
answer-got None bytes way a status got h = absurd h
answer-got (Some row) bytes way a status got h = h.1

transport-told : (p : Platform) (s : Store) → HasStoredBytes s → (way : Way) → IsTransportWay way → (m offset : ℕ) → offset < 2 ^ 64 → (a : Access) → IsToldTransport a → (status : Response) (got : List ℕ)
    → IsLegalEntry p s (memory_object m) (Accessed way (record a { offset = offset }) status got) → IsToldWhat s (memory_object m) (Accessed way (record a { offset = offset }) status got)
transport-told p s stored way is m offset small a told status got legal =
    let b : Access = record a { offset = offset } in
    let row = slice_get p.memories m in
    let e : got ≡ got_by a.command status b (s m) = answer-got row (s m) way b status got legal ∙ got-is way is status b (s m) in
    let buffer = subst IsBuffer (sym e) (got-buffer a.command status b (s m) told.bytes told.few (stored m)) in
    record {
      numbers = (gate-of way is, small, told.count, told.wide, told.enabled, shown-bytes a.command b got told.bytes buffer.bytes, operand-bytes a.command a.sent told.bytes);
      usual = usual-bytes a.command way is status a offset (s m) got told.usual e;
      gotten = buffer;
      stored = put-stored s stored m (store_after way status b (s m)) (subst AreBytes (sym (stored-is way is status b (s m))) (stored-bytes a.command status b (s m) told.bytes (stored m)));
    }

debug-told : (p : Platform) (s : Store) → HasStoredBytes s → (m offset : ℕ) → offset < 2 ^ 64 → (a : Access) → IsToldDebugRead a → (status : Response) (got : List ℕ)
    → IsLegalEntry p s (memory_object m) (Accessed Debug (record a { offset = offset }) status got) → IsToldWhat s (memory_object m) (Accessed Debug (record a { offset = offset }) status got)
debug-told p s stored m offset small a told status got legal =
    let b : Access = record a { offset = offset } in
    let row = slice_get p.memories m in
    let e : got ≡ take a.length (drop offset (s m)) = answer-got row (s m) Debug b status got legal in
    let moved : IsBuffer (take a.length (drop offset (s m))) = record {
      bytes = take-bytes a.length (drop offset (s m)) (drop-bytes offset (s m) (stored m));
      few = omega (arith, told.count, length-take a.length (drop offset (s m)));
    } in
    let buffer = subst IsBuffer (sym e) moved in
    let none : AreBytes a.sent = subst AreBytes (sym told.none_sent) tt in
    record {
      numbers = (tt, small, told.count, told.wide, told.enabled, shown-bytes a.command b got none buffer.bytes, operand-bytes a.command a.sent none);
      usual = subst (λ (c : Command). AreUsual c Debug b got) (sym told.reads) told.none_sent;
      gotten = buffer;
      stored = put-stored s stored m (s m) (stored m);
    }

-- the way of an access, whose gate can be told
way-is : (style : Style) (a : Access) (way : Way) → HasGate way → IsWay style (Transport a) way → IsTransportWay way
way-is blocking_style a way gate is = subst IsTransportWay (sym is) tt
way-is direct_style a Blocking gate is = tt
way-is direct_style a (Direct g) gate is = gate
way-is direct_style a FourPhase gate is = absurd is
way-is direct_style a Debug gate is = absurd is
way-is fourphase_style a way gate is = subst IsTransportWay (sym is) tt

debug-way : (style : Style) (a : Access) (way : Way) → IsWay style (DebugRead a) way → Debug ≡ way
debug-way blocking_style a way is = sym is
debug-way direct_style a way is = sym is
debug-way fourphase_style a way is = sym is

no-way : (style : Style) (n : ℕ) (way : Way) → IsWay style (Invalidation n) way → ⊥
no-way blocking_style n way is = is
no-way direct_style n way is = is
no-way fourphase_style n way is = is

told-access : (p : Platform) (s : Store) → HasStoredBytes s → (style : Style) (route : Option Route) → ((r : Route) → route ≡ Some r → r.offset < 2 ^ 64) → (asked : Asked) → IsToldAsked asked
    → (o : ObjectNo) (way : Way) (a : Access) (status : Response) (got : List ℕ) → HasGate way → IsAccessOf route asked o a → IsWay style asked way
    → IsLegalEntry p s o (Accessed way a status got) → IsToldWhat s o (Accessed way a status got)
told-access p s stored style None small asked told o way a status got gate is came legal = absurd is
told-access p s stored style (Some r) small (Transport b) told o way a status got gate is came legal =
    let P : ObjectNo × Access → Type 0 = λ x. IsLegalEntry p s x.0 (Accessed way x.1 status got) → IsToldWhat s x.0 (Accessed way x.1 status got) in
    let from : ObjectNo × Access = (memory_object r.memory, record b { offset = r.offset }) in
    let to : ObjectNo × Access = (o, a) in
    let same : from ≡ to = λ i. (sym is.0 i, sym is.1 i) in
    subst P same (transport-told p s stored way (way-is style b way gate came) r.memory r.offset (small r refl) b told status got) legal
told-access p s stored style (Some r) small (DebugRead b) told o way a status got gate is came legal =
    let P : ObjectNo × Way × Access → Type 0 = λ x. IsLegalEntry p s x.0 (Accessed x.1 x.2 status got) → IsToldWhat s x.0 (Accessed x.1 x.2 status got) in
    let from : ObjectNo × Way × Access = (memory_object r.memory, Debug, record b { offset = r.offset }) in
    let to : ObjectNo × Way × Access = (o, way, a) in
    let same : from ≡ to = λ i. (sym is.0 i, debug-way style b way came i, sym is.1 i) in
    subst P same (debug-told p s stored r.memory r.offset (small r refl) b told status got) legal
told-access p s stored style (Some r) small (Invalidation n) told o way a status got gate is came legal = absurd (no-way style n way came)

-- the numbers of a grant: it is of a whole memory
granted-numbers : (p : Platform) → IsBounded p → (m g f l : ℕ) (k : Kind) → has_gate p m g ≡ true → (o : Option MemoryRow) → slice_get p.memories m ≡ o → IsWholeOf o f l k → (g < 2 ^ 64) × (f < 2 ^ 64) × (l < 2 ^ 64)
granted-numbers p bounded m g f l k has None at whole = absurd whole
granted-numbers p bounded m g f l k has (Some row) at whole =
    let r = all_got IsBoundedMemory p.memories bounded.memories m row at in
    (omega (arith, gate-few p bounded m g has), omega (arith, whole.0), omega (arith, whole.1, r.size))

-- those of an invalidation
invalidated-numbers : (route : Option Route) → ((r : Route) → route ≡ Some r → r.offset < 2 ^ 64) → (asked : Asked) (o : ObjectNo) (f l : ℕ) → IsInvalidationOf route asked o f l → (f < 2 ^ 64) × (l < 2 ^ 64)
invalidated-numbers None small asked o f l is = absurd is
invalidated-numbers (Some r) small (Transport b) o f l is = absurd is
invalidated-numbers (Some r) small (DebugRead b) o f l is = absurd is
invalidated-numbers (Some r) small (Invalidation n) o f l is = (omega (arith, is.1, small r refl), omega (arith, is.2))

-- the slot of a move
abbrev IsSlotSmall : What → Type 0
IsSlotSmall w = IsSlotBelow (2 ^ 64) w

-- the gate of a direct access
abbrev IsGateSmall : What → Type 0
IsGateSmall (Accessed way a status got) = HasGate way
IsGateSmall w = Unit {0}

-- what is known of what happened, by itself: what it is, where, and that its slot and its gate are small
record IsFit (p : Plan) (n : ℕ) (o : ObjectNo) (w : What) : Type 0 where
  kind : IsKind o w
  slot : IsSlotSmall w
  gate : IsGateSmall w
  placed : IsPlaced p.platform n o w
  whole : GrantsAll p o w

told-what : (p : Plan) → IsBounded p.platform → (s : Store) → HasStoredBytes s → (style : Style) (route : Option Route) → ((r : Route) → route ≡ Some r → r.offset < 2 ^ 64) → (asked : Asked) → IsToldAsked asked
    → (n : ℕ) (o : ObjectNo) (w : What) → IsFit p n o w → IsEntryOf route asked o w → HasWay style asked w → IsLegalEntry p.platform s o w → IsToldWhat s o w
told-what p bounded s stored style route small asked told n (memory_object m) (Accessed way a status got) fit is came legal = told-access p.platform s stored style route small asked told (memory_object m) way a status got fit.gate is came legal
told-what p bounded s stored style route small asked told n (memory_object m) (Granted g f l k) fit is came legal =
    record { numbers = granted-numbers p.platform bounded m g f l k fit.placed (slice_get p.platform.memories m) refl fit.whole; usual = tt; gotten = tt; stored = stored }
told-what p bounded s stored style route small asked told n (memory_object m) (Invalidated f l) fit is came legal =
    record { numbers = invalidated-numbers route small asked (memory_object m) f l is; usual = tt; gotten = tt; stored = stored }
told-what p bounded s stored style route small asked told n (memory_object m) (Closed g) fit is came legal =
    record { numbers = omega (arith, gate-few p.platform bounded m g fit.placed); usual = tt; gotten = tt; stored = stored }
told-what p bounded s stored style route small asked told n (memory_object m) w fit is came legal = absurd fit.kind
told-what p bounded s stored style route small asked told n (Hop h) (Call c a) fit is came legal = record { numbers = tt; usual = tt; gotten = tt; stored = stored }
told-what p bounded s stored style route small asked told n (Hop h) w fit is came legal = absurd fit.kind
told-what p bounded s stored style route small asked told n (Pool i) (Take k) fit is came legal = record { numbers = fit.slot; usual = tt; gotten = tt; stored = stored }
told-what p bounded s stored style route small asked told n (Pool i) (Acquire k) fit is came legal = record { numbers = fit.slot; usual = tt; gotten = tt; stored = stored }
told-what p bounded s stored style route small asked told n (Pool i) (Release k f) fit is came legal = record { numbers = fit.slot; usual = tt; gotten = tt; stored = stored }
told-what p bounded s stored style route small asked told n (Pool i) w fit is came legal = absurd fit.kind

-- A gate that a grant of these entries has given can be told: its grant can.
given-small : (p : Platform) (g : ℕ) (test : Entry → Bool) (before : List Entry) → AllByRecursion (IsTellable p) before → list_any (λ x. gives g x.what && test x) before ≡ true → g < 2 ^ 64
given-small p g test [] told given = absurd (true≢false (sym given))
given-small p g test (e ∷ before) told given = go (λ rest. given-small p g test before told.1 rest) (gives g e.what) refl (test e) given
  where
    here : (w : What) → HasNumbers w → gives g w ≡ true → g < 2 ^ 64
    here (Granted n f l k) numbers is = omega (arith, numbers.0, eqb-true n g is)
    here w numbers is = absurd (true≢false (sym is))

    go : (list_any (λ x. gives g x.what && test x) before ≡ true → g < 2 ^ 64) → (b : Bool) → gives g e.what ≡ b → (c : Bool) → ((b && c) || list_any (λ x. gives g x.what && test x) before) ≡ true → g < 2 ^ 64
    go next true is true given = (let first = told.0 in here e.what first.numbers is)
    go next true is false given = next given
    go next false is c given = next given

-- so can that of each use
gate-used : (p : Plan) (before : List Entry) → AllByRecursion (IsTellable p.platform) before → (e : Entry) (i : Initiator) (r : Request) (w : What) → IsUse w p before e i r → IsGateSmall w
gate-used p before told e i r (Accessed Blocking a status got) used = tt
gate-used p before told e i r (Accessed FourPhase a status got) used = tt
gate-used p before told e i r (Accessed (Direct g) a status got) used = given-small p.platform g (λ x. serves p.platform i x r.address a) before told used.2
gate-used p before told e i r (Accessed Debug a status got) used = tt
gate-used p before told e i r w used = tt

-- where addresses lead

found-within : (n : ℕ) (ws : List WindowRow) (a : ℕ) (f : Found) → window_of n ws a ≡ Some f → (k : ℕ) × (slice_get ws k ≡ Some f.window) × (window_has f.window a ≡ true)
found-within n [] a f h = absurd (not_none f h)
found-within n (w ∷ ws) a f h = go (λ rest. found-within (n + 1) ws a f rest) (window_has w a) refl h
  where
    go : (window_of (n + 1) ws a ≡ Some f → (k : ℕ) × (slice_get ws k ≡ Some f.window) × (window_has f.window a ≡ true)) → (b : Bool) → window_has w a ≡ b
        → (if b then Some (record { index = n; window = w }) else window_of (n + 1) ws a) ≡ Some f → (k : ℕ) × (slice_get (w ∷ ws) k ≡ Some f.window) × (window_has f.window a ≡ true)
    go next true e h = let same : w ≡ f.window = ap (λ (x : Found). x.window) (some_same {A = Found} (record { index = n; window = w }) f h) in (0, ap (λ (x : WindowRow). Some x) same, subst (λ (x : WindowRow). window_has x a ≡ true) same e)
    go next false e h = let t = next h in (suc t.0, t.1, t.2)

leads-small : (p : Platform) → IsBounded p → (r : ℕ) (row : RouterRow) → slice_get p.routers r ≡ Some row → (a : ℕ) (f : Found) → window_of 0 row.windows a ≡ Some f → a - f.window.first + f.window.base < 2 ^ 64
leads-small p bounded r row at a f h =
    let t = found-within 0 row.windows a f h in
    let router = all_got (IsBoundedRouter p) p.routers bounded.routers r row at in
    let windows = router.windows in
    let window = all_got IsProperWindow (map (window_at 0) row.windows) windows.each t.0 (window_at 0 f.window) (slice_get-map (window_at 0) row.windows t.0 ∙ ap (option_map (window_at 0)) t.1) in
    let within = and_parts (leb f.window.first a) (leb a f.window.last) t.2 in
    let high : a ≤ f.window.last = leb-true a f.window.last within.1 in
    let seen = window.seen_fits in
    omega (arith, high, seen)

memory-small : (o : Option MemoryRow) (m a before : ℕ) (route : Route) → a < 2 ^ 64 → (into_memory o m a before).end ≡ Some route → route.offset < 2 ^ 64
memory-small None m a before route small h = absurd (not_none route h)
memory-small (Some row) m a before route small h =
    let same = ap (λ (r : Route). r.offset) (some_same {A = Route} (record { memory = m; offset = a }) route h) in
    omega (arith, small, same)

offset-small : (k : ℕ) (p : Platform) → IsBounded p → (t : Target) (a before : ℕ) (route : Route) → a < 2 ^ 64 → (walk k p t a before).end ≡ Some route → route.offset < 2 ^ 64
offset-small zero p bounded t a before route small h = absurd (not_none route h)
offset-small (suc k) p bounded (Memory m) a before route small h = memory-small (slice_get p.memories m) m a before route small h
offset-small (suc k) p bounded (Router r) a before route small h = go (λ t b c small h. offset-small k p bounded t b c route small h) (slice_get p.routers r) refl h
  where
    window : ((t : Target) (b c : ℕ) → b < 2 ^ 64 → (walk k p t b c).end ≡ Some route → route.offset < 2 ^ 64) → (row : RouterRow) → slice_get p.routers r ≡ Some row → (f : Option Found) → window_of 0 row.windows a ≡ f
        → (into_window p r f a (later before row.latency) (λ t b c. walk k p t b c)).end ≡ Some route → route.offset < 2 ^ 64
    window next row at None is h = absurd (not_none route h)
    window next row at (Some f) is h = next f.window.to (a - f.window.first + f.window.base) (later before row.latency) (leads-small p bounded r row at a f is) h

    go : ((t : Target) (b c : ℕ) → b < 2 ^ 64 → (walk k p t b c).end ≡ Some route → route.offset < 2 ^ 64) → (row : Option RouterRow) → slice_get p.routers r ≡ row
        → (into_router p r row a before (λ t b c. walk k p t b c)).end ≡ Some route → route.offset < 2 ^ 64
    go next None is h = absurd (not_none route h)
    go next (Some row) is h = window next row is (window_of 0 row.windows a) refl h

time-small : (p : Platform) (i : Initiator) (r : Request) (w : What) → r.time < 2 ^ 64 → decoupled_time p i r w < 2 ^ 64
time-small p i r (Accessed Blocking a status got) small = later-small r.time (before_of p i r.address)
time-small p i r (Accessed FourPhase a status got) small = small
time-small p i r (Accessed (Direct g) a status got) small = small
time-small p i r (Accessed Debug a status got) small = small
time-small p i r (Granted g f l k) small = later-small r.time (latency_of p i r.address)
time-small p i r (Invalidated f l) small = small
time-small p i r (Closed g) small = small
time-small p i r (Call c a) small = small
time-small p i r (Take s) small = small
time-small p i r (Acquire s) small = small
time-small p i r (Release s f) small = small

-- an object of the plan is one that can be told
tellable-object : (p : Platform) (o : ObjectNo) → IsObjectOf p o → IsObject p o
tellable-object p (memory_object m) there = there
tellable-object p (Hop h) there = omega (arith, there, count-hop-words p)
tellable-object p (Pool i) there = there

-- what a good history says of the time of each entry, with those before it
abbrev pub Times : Plan → List Entry → Entry → Type 0
Times p before e = OfRequest p before e (λ i r. HasTime i.row.style (decoupled_time p.platform i r e.what) e.time)

abbrev Uses : Plan → List Entry → Entry → Type 0
Uses p before e = OfRequest p before e (λ i r. IsUse e.what p before e i r)

abbrev Issues : Plan → List Entry → Entry → Type 0
Issues p before e = OfRequest p before e (λ i r. IsIssuedBy i.row.style e.time (issue_time p before e.txn) e.what)

-- an entry as an event has the points of four-phase traffic, after these
record IsInTraffic (p : Plan) (be : List Event) (before : List Entry) (e : Entry) (n : ℕ) : Type 0 where
  same : entries be ≡ before
  order : InOrderBy (world_of p) be e.txn (passage_of p e.txn) e.object n e.what
  timed : TimedBy (world_of p) (issue_time p) be e.txn (passage_of p e.txn) e.object e.time n e.what

-- what is known of an entry by itself: what it is, where, and that its slot is small
record IsKnown (p : Plan) (e : Entry) : Type 0 where
  kind : IsKind e.object e.what
  there : IsObjectOf p.platform e.object
  slot : IsSlotSmall e.what

-- what a good history says of an entry after these
record IsSaid (p : Plan) (before : List Entry) (e : Entry) : Type 0 where
  reply : Replies p before e
  way : Ways p before e
  place : Places p before e
  whole : GrantsAll p e.object e.what
  used : Uses p before e
  time : Times p before e
  issue : Issues p before e

-- an entry that can be told, and what comes of it
record IsToldEntry (p : Platform) (s : Store) (e : Entry) : Type 0 where
  entry : IsTellable p e
  gotten : IsGotten e
  stored : HasStoredBytes (after e.object e.what s)

module _ (p : Plan) (valid : IsValid p) where
  -- the time of an entry of a four-phase initiator
  fourphase-small : (be : List Event) (before : List Entry) (e : Entry) (n : ℕ) → IsInTraffic p be before e n → HaveSmallTimes before → IsKind e.object e.what → (i : Initiator) (r : Request) → slice_get (initiators_of p) e.txn.initiator ≡ Some i
      → i.row.style ≡ fourphase_style → slice_get (requests_of p.platform i before) e.txn.seq ≡ Some r → IsEntryOf (route_of p.platform i r.address) r.asked e.object e.what → HasWay fourphase_style r.asked e.what
      → IsIssuedBy fourphase_style e.time (issue_time p before e.txn) e.what → e.time < 2 ^ 64
  fourphase-small be before e n traffic small kind i r of_it style asked is came issued = by_passage (passage_of p e.txn) refl
    where
      all : HaveSmallTimes (entries be)
      all = subst HaveSmallTimes (sym traffic.same) small

      issued_at : IsIssuedBy fourphase_style e.time (issue_time p (entries be) e.txn) e.what
      issued_at = subst (λ (h : List Entry). IsIssuedBy fourphase_style e.time (issue_time p h e.txn) e.what) (sym traffic.same) issued

      order_at : (f : Option Passage) → passage_of p e.txn ≡ f → InOrderBy (world_of p) be e.txn f e.object n e.what
      order_at f at = subst (λ (g : Option Passage). InOrderBy (world_of p) be e.txn g e.object n e.what) at traffic.order

      timed_at : (f : Option Passage) → passage_of p e.txn ≡ f → TimedBy (world_of p) (issue_time p) be e.txn f e.object e.time n e.what
      timed_at f at = subst (λ (g : Option Passage). TimedBy (world_of p) (issue_time p) be e.txn g e.object e.time n e.what) at traffic.timed

      by_passage : (f : Option Passage) → passage_of p e.txn ≡ f → e.time < 2 ^ 64
      by_passage None at =
          unpassed-small p be all e.txn e.object e.what e.time n i r before kind (order_at None at) of_it style asked at is came
          issued_at
      by_passage (Some pass) at = passed-small p be all e.txn pass (is-passed p valid.shape e.txn pass at) e.object e.what e.time n r.asked kind (timed_at (Some pass) at) came issued_at

  -- and of any one
  entry-small : (be : List Event) (before : List Entry) (e : Entry) (n : ℕ) → IsInTraffic p be before e n → HaveSmallTimes before → IsKind e.object e.what → (i : Initiator) (r : Request) → slice_get (initiators_of p) e.txn.initiator ≡ Some i
      → slice_get (requests_of p.platform i before) e.txn.seq ≡ Some r → IsEntryOf (route_of p.platform i r.address) r.asked e.object e.what → HasWay i.row.style r.asked e.what
      → HasTime i.row.style (decoupled_time p.platform i r e.what) e.time → IsIssuedBy i.row.style e.time (issue_time p before e.txn) e.what → r.time < 2 ^ 64 → e.time < 2 ^ 64
  entry-small be before e n traffic small kind i r of_it asked is came time issued few = by_style i.row.style refl came time issued
    where
      by_style : (s : Style) → i.row.style ≡ s → HasWay s r.asked e.what → HasTime s (decoupled_time p.platform i r e.what) e.time → IsIssuedBy s e.time (issue_time p before e.txn) e.what → e.time < 2 ^ 64
      by_style blocking_style style came time issued = omega (arith, time, time-small p.platform i r e.what few)
      by_style direct_style style came time issued = omega (arith, time, time-small p.platform i r e.what few)
      by_style fourphase_style style came time issued = fourphase-small be before e n traffic small kind i r of_it style asked is came issued

  told-entry : (be : List Event) (before : List Entry) → AllByRecursion IsGotten before → AllByRecursion (IsTellable p.platform) before → (s : Store) → HasStoredBytes s → (e : Entry) (n : ℕ) → e.position < 2 ^ 64 → IsKnown p e → IsSaid p before e → IsInTraffic p be before e n
      → IsLegalEntry p.platform s e.object e.what → IsToldEntry p.platform s e
  told-entry be before got past s stored e n position known said traffic legal =
      let small = AllByRecursion-weaker (IsTellable p.platform) IsSmallTime before (λ d told. told.time) past in
      let found = request-of p before e (λ i r. IsEntryOf (route_of p.platform i r.address) r.asked e.object e.what) said.reply in
      let i = found.initiator in
      let r = found.request in
      let shape = valid.shape in
      let proper = script-of AreProper 0 e.txn.initiator p.platform.initiators p.scripts i valid.proper found.of_it in
      let all = requests-told p.platform i before got 0 0 0 (omega arith) i.script proper.each in
      let told = all-at IsToldRequest (requests_of p.platform i before) all e.txn.seq r found.asked_for in
      let within = slice_get_within (requests_of p.platform i before) e.txn.seq r found.asked_for in
      let few = requests-few p.platform i before 0 0 0 i.script in
      let is = at-request p before e (λ i r. IsEntryOf (route_of p.platform i r.address) r.asked e.object e.what) said.reply found in
      let came = at-request p before e (λ i r. HasWay i.row.style r.asked e.what) said.way found in
      let time = at-request p before e (λ i r. HasTime i.row.style (decoupled_time p.platform i r e.what) e.time) said.time found in
      let issued = at-request p before e (λ i r. IsIssuedBy i.row.style e.time (issue_time p before e.txn) e.what) said.issue found in
      let used = at-request p before e (λ i r. IsUse e.what p before e i r) said.used found in
      let fit : IsFit p e.txn.initiator e.object e.what = record { kind = known.kind; slot = known.slot; gate = gate-used p before past e i r e.what used; placed = said.place; whole = said.whole } in
      let what = told-what p shape.bounded s stored i.row.style (route_of p.platform i r.address) (λ route leads. offset-small 9 p.platform shape.bounded i.row.bind r.address 0 route told.addressed leads) r.asked told.asks
      e.txn.initiator e.object e.what fit is came legal in
      record {
        entry = record {
          position = position;
          time = entry-small be before e n traffic small known.kind i r found.of_it found.asked_for is came time issued told.timed;
          seq = omega (arith, within, few, proper.few);
          initiator = initiator_within p e.txn.initiator i found.of_it;
          object = tellable-object p.platform e.object known.there;
          numbers = what.numbers;
          bytes = what.usual;
        };
        gotten = record { got = what.gotten };
        stored = what.stored;
      }

  told-from : (n : ℕ) (be : List Event) (before h : List Entry) → entries be ≡ before → AllByRecursion IsGotten before → AllByRecursion (IsTellable p.platform) before → (s : Store) → HasStoredBytes s → n + length h ≤ 2 ^ 64 → IsNumberedFrom n h
      → AllByRecursion (IsKnown p) h → IsLegalFrom p.platform s h → EachFrom (IsSaid p) before h
      → EachFrom (λ be e. InOrderBy (world_of p) be e.txn (passage_of p e.txn) e.object e.number e.what) be (numbered_from before h)
      → EachFrom (λ be e. TimedBy (world_of p) (issue_time p) be e.txn (passage_of p e.txn) e.object e.time e.number e.what) be (numbered_from before h)
      → AllByRecursion (IsTellable p.platform) h
  told-from n be before [] same got past s stored few numbered known legal said orders times = tt
  told-from n be before (e ∷ h) same got past s stored few numbered known legal said orders times =
      let number = number_in before e.txn e.what in
      let event : Event = record { entry = e; number = number } in
      let one = told-entry be before got past s stored e number (omega (arith, few, numbered.0)) known.0 said.0 (record { same = same; order = orders.0; timed = times.0 }) legal.0 in
      let tellable = one.entry in (
        tellable,
        told-from (n + 1) (be ++ event ∷ []) (before ++ e ∷ []) h (map-append (λ (d : Event). d.entry) be (event ∷ []) ∙ ap (λ (l : List Entry). l ++ e ∷ []) same) (AllByRecursion-push IsGotten before e got one.gotten)
            (AllByRecursion-push (IsTellable p.platform) before e past tellable) (after e.object e.what s) one.stored (omega (arith, few)) numbered.1 known.1 legal.1 said.1 orders.1 times.1,
      )

  known-each : (h : List Entry) → HaveKinds h → AllByRecursion (λ (e : Entry). IsObjectOf p.platform e.object) h → AllByRecursion (HasSlot p) h → AllByRecursion (IsKnown p) h
  known-each [] kinds there slots = tt
  known-each (e ∷ h) kinds there slots = (record { kind = kinds.0; there = there.0; slot = slot-of e.object e.what kinds.0 slots.0 }, known-each h kinds.1 there.1 slots.1)
    where
      slot-of : (o : ObjectNo) (w : What) → IsKind o w → ((i : ℕ) → is_object (Pool i) o ≡ true → IsSlotBelow (slots_of p i) w) → IsSlotSmall w
      slot-of (memory_object m) (Accessed way a status got) kind f = tt
      slot-of (memory_object m) (Granted g a l k) kind f = tt
      slot-of (memory_object m) (Invalidated a l) kind f = tt
      slot-of (memory_object m) (Closed g) kind f = tt
      slot-of (memory_object m) w kind f = absurd kind
      slot-of (Hop o) (Call c a) kind f = tt
      slot-of (Hop o) w kind f = absurd kind
      slot-of (Pool i) (Take k) kind f = let shape = valid.shape in omega (arith, f i (eq-eqb i i refl), few-slots p shape.bounded i)
      slot-of (Pool i) (Acquire k) kind f = let shape = valid.shape in omega (arith, f i (eq-eqb i i refl), few-slots p shape.bounded i)
      slot-of (Pool i) (Release k g) kind f = let shape = valid.shape in omega (arith, f i (eq-eqb i i refl), few-slots p shape.bounded i)
      slot-of (Pool i) w kind f = absurd kind

  said-each : (before h : List Entry) → EachFrom (Replies p) before h → EachFrom (Ways p) before h → EachFrom (Places p) before h → EachFrom (λ before e. GrantsAll p e.object e.what) before h → EachFrom (Uses p) before h
      → EachFrom (Times p) before h → EachFrom (Issues p) before h → EachFrom (IsSaid p) before h
  said-each before [] replies ways places wholes uses times issues = tt
  said-each before (e ∷ h) replies ways places wholes uses times issues = (
    record { reply = replies.0; way = ways.0; place = places.0; whole = wholes.0; used = uses.0; time = times.0; issue = issues.0 },
    said-each (before ++ e ∷ []) h replies.1 ways.1 places.1 wholes.1 uses.1 times.1 issues.1,
  )

  pub good-told : (h : List Entry) → IsGood p h → AllByRecursion (IsTellable p.platform) h
  good-told h good =
      let sound = good.sound in
      let kept = sound.requests in
      let scripts = kept.scripts in
      let traffic = sound.traffic in
      let passes = traffic.passes in
      let pools = traffic.pools in
      let times = traffic.times in
      let kinds = have-kinds p h scripts in
      let grants = sound.grants in
      let stand = all-stand p [] [] h kinds passes.orders in
      let there = good-objects p valid h good stand in
      let few = few-entries p valid h good kinds stand in
      let known = known-each h kinds there (have-slots p h pools.counts) in
      let said = said-each [] h scripts.replies scripts.ways scripts.places grants.wholes grants.uses kept.times times.others in
      told-from 0 [] [] h refl tt tt (opening_store p.platform) (λ m. zeros_of-bytes (slice_get p.platform.memories m)) (omega (arith, few)) kept.numbered known kept.legal said passes.orders times.calls
