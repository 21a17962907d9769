-- What proper scripts ask for can be told.
use Rattle.std.proofs.Common.{◌≡◌, ◌⊎◌, ℕ, zero, suc, ◌+◌, ◌*◌, ◌%◌, ◌^◌, ◌<◌, ◌≤◌, Bool, true, false, List, [], ◌∷◌, length, Option, Some, None, refl, subst, inl, inr, ⊎_elim, arith}
use Rattle.std.specs.Prelude.{IfSome, unwrap_or, if◌then◌else◌}
use Rattle.std.specs.List.{AllByRecursion}
use Rattle.std.proofs.Math.ListN.{length-replicate}
use Rattle.tlm_types.specs.declared.words.Command.{Command}
use Rattle.tlm_types.specs.declared.words.Command.TheVariants.{Read as read_command, Write as write_command, Ignore as ignore_command, FetchAdd as fetch_add_command}
use Rattle.tlm_types.specs.declared.entry.Access.{Access}
use Rattle.tlm_types.specs.declared.entry.Entry.{Entry}
use Rattle.tlm_model.specs.declared.operation.Operation.{Operation}
use Rattle.tlm_model.specs.declared.operation.Operation.TheVariants.{Write, Read, Ignore, Debug, Copy, Add, FetchAdd, Wait, Sync, Fence, Invalidate}
use Rattle.tlm_model.specs.declared.platform.Platform.{Platform}
use Rattle.tlm_model.specs.Plan.{Initiator}
use Rattle.tlm_model.specs.Requests.{Asked, Transport, DebugRead, Invalidation, Request, added, answered, buffer_by, buffer_of, debug_of, fetch_add_of, first_of_two, got_in, ignore_of, is_txn, le_bytes, le_number, read_of, requests_from, using, write_of}
use Rattle.tlm_model.specs.Route.{Route, later, latency_of, route_of}
use Rattle.tlm_model.specs.Store.{zeros}
use Rattle.traffic_script.specs.Proper.{AreBytes, IsProper}
use Rattle.platform_shape.proofs.SinglePaths.{some_same}

-- a buffer as a run has one
pub record IsBuffer (got : List ℕ) : Type 0 where
  pub bytes : AreBytes got
  pub few : length got < 2 ^ 64

-- what an entry got is a buffer
pub record IsGotten (e : Entry) : Type 0 where
  pub got : IfSome (got_in e.what) IsBuffer

-- a read sends zeros, and an ignore nothing
abbrev pub IsSentAsUsual : Command → Access → Type 0
IsSentAsUsual read_command a = a.sent ≡ zeros a.length
IsSentAsUsual write_command a = Unit {0}
IsSentAsUsual ignore_command a = a.sent ≡ []
IsSentAsUsual fetch_add_command a = Unit {0}

pub record IsToldTransport (a : Access) : Type 0 where
  pub count : a.length < 2 ^ 64
  pub wide : a.width < 2 ^ 64
  pub enabled : AreBytes a.enables
  pub bytes : AreBytes a.sent
  pub few : length a.sent < 2 ^ 64
  pub usual : IsSentAsUsual a.command a

pub record IsToldDebugRead (a : Access) : Type 0 where
  pub reads : a.command ≡ read_command
  pub count : a.length < 2 ^ 64
  pub wide : a.width < 2 ^ 64
  pub enabled : AreBytes a.enables
  pub none_sent : a.sent ≡ []

abbrev pub IsToldAsked : Asked → Type 0
IsToldAsked (Transport a) = IsToldTransport a
IsToldAsked (DebugRead a) = IsToldDebugRead a
IsToldAsked (Invalidation n) = Unit {0}

pub record IsToldRequest (r : Request) : Type 0 where
  pub addressed : r.address < 2 ^ 64
  pub timed : r.time < 2 ^ 64
  pub asks : IsToldAsked r.asked

pub zeros-bytes : (n : ℕ) → AreBytes (zeros n)
zeros-bytes zero = tt
zeros-bytes (suc n) = (omega arith, zeros-bytes n)

zeros-buffer : (n : ℕ) → n < 2 ^ 64 → IsBuffer (zeros n)
zeros-buffer n small = record { bytes = zeros-bytes n; few = omega (arith, small, length-replicate {A = ℕ} n 0) }

enables-bytes : (enables : List ℕ) → AllByRecursion (λ b. (b ≡ 0) ⊎ (b ≡ 255)) enables → AreBytes enables
enables-bytes [] h = tt
enables-bytes (b ∷ bs) h = (⊎_elim (λ (e : b ≡ 0). omega (arith, e)) (λ (e : b ≡ 255). omega (arith, e)) h.0, enables-bytes bs h.1)

width-small : (width : Option ℕ) (n : ℕ) → IfSome width (λ w. w < 2 ^ 64) → n < 2 ^ 64 → unwrap_or width n < 2 ^ 64
width-small None n wide small = small
width-small (Some w) n wide small = wide

pub later-small : (t n : ℕ) → later t n < 2 ^ 64
later-small t n = omega arith

write-told : (bytes enables : List ℕ) (width : ℕ) → length bytes < 2 ^ 64 → AreBytes bytes → AreBytes enables → width < 2 ^ 64 → IsToldTransport (write_of bytes enables width)
write-told bytes enables width few are enabled wide = record { count = few; wide = wide; enabled = enabled; bytes = are; few = few; usual = tt }

read-told : (n : ℕ) (enables : List ℕ) (width : ℕ) → n < 2 ^ 64 → AreBytes enables → width < 2 ^ 64 → IsToldTransport (read_of n enables width)
read-told n enables width few enabled wide =
    record { count = few; wide = wide; enabled = enabled; bytes = zeros-bytes n; few = omega (arith, few, length-replicate {A = ℕ} n 0); usual = refl }

ignore-told : IsToldTransport ignore_of
ignore-told = record { count = omega arith; wide = omega arith; enabled = tt; bytes = tt; few = omega arith; usual = refl }

debug-told : (n : ℕ) → n < 2 ^ 64 → IsToldDebugRead (debug_of n)
debug-told n small = record { reads = refl; count = small; wide = small; enabled = tt; none_sent = refl }

pub le-bytes : (x : ℕ) → AreBytes (le_bytes x)
le-bytes x = (omega arith, (omega arith, (omega arith, (omega arith, tt))))

fetch_add-told : (n : ℕ) → IsToldTransport (fetch_add_of n)
fetch_add-told n = record { count = omega arith; wide = omega arith; enabled = tt; bytes = le-bytes n; few = omega arith; usual = tt }

-- one of two answers
of_two : (b : Bool) (o rest : Option (List ℕ)) (got : List ℕ) → first_of_two (if b then o else None) rest ≡ Some got → (o ≡ Some got) ⊎ (rest ≡ Some got)
of_two true None rest got h = inr h
of_two true (Some x) rest got h = inl h
of_two false o rest got h = inr h

pub answered-buffer : (i s : ℕ) (h : List Entry) → AllByRecursion IsGotten h → (got : List ℕ) → answered i s h ≡ Some got → IsBuffer got
answered-buffer i s [] all got h = cc
answered-buffer i s (e ∷ es) all got h =
    let first = all.0 in
    ⊎_elim
    (λ (here : got_in e.what ≡ Some got). subst (λ (o : Option (List ℕ)). IfSome o IsBuffer) here first.got)
    (λ (rest : answered i s es ≡ Some got). answered-buffer i s es all.1 got rest)
    (of_two (is_txn i s e.txn) (got_in e.what) (answered i s es) got h)

pub used-each : (Q : Request → Type 0) (o : Option (List ℕ)) (next : List ℕ → List Request) → ((got : List ℕ) → o ≡ Some got → AllByRecursion Q (next got)) → AllByRecursion Q (using o next)
used-each Q None next f = tt
used-each Q (Some got) next f = f got refl

by-route : (route : Option Route) (n i s : ℕ) (h : List Entry) → AllByRecursion IsGotten h → n < 2 ^ 64 → (got : List ℕ) → buffer_by route n i s h ≡ Some got → IsBuffer got
by-route None n i s h all small got e = subst IsBuffer (some_same (zeros n) got e) (zeros-buffer n small)
by-route (Some r) n i s h all small got e = answered-buffer i s h all got e

-- the address of a proper invalidation, whatever else is asked of one
invalidation-addressed : (a n : ℕ) → IsProper (Invalidate a n) → a < 2 ^ 64
invalidation-addressed a n proper = omega (arith, proper)

pub requests-told : (p : Platform) (i : Initiator) (h : List Entry) → AllByRecursion IsGotten h → (s t g : ℕ) → t < 2 ^ 64 → (ops : List Operation) → AllByRecursion IsProper ops
    → AllByRecursion IsToldRequest (requests_from p i h s t g ops)
requests-told p i h all s t g small [] proper = tt
requests-told p i h all s t g small (Write a bs enables width ∷ ops) proper =
    let q = proper.0.0 in
    let count = q.sized in
    let enabled = q.enabled in
    let few : length bs < 2 ^ 64 = omega (arith, count.few) in (
      record { addressed = q.addressed; timed = small; asks = write-told bs enables (unwrap_or width (length bs)) few proper.0.1 (enables-bytes enables enabled.each) (width-small width (length bs) q.wide few) },
      requests-told p i h all (s + 1) (later t (latency_of p i a)) g (later-small t (latency_of p i a)) ops proper.1,
    )
requests-told p i h all s t g small (Read a n enables width ∷ ops) proper =
    let q = proper.0 in
    let count = q.sized in
    let enabled = q.enabled in
    let few : n < 2 ^ 64 = omega (arith, count.few) in (
      record { addressed = q.addressed; timed = small; asks = read-told n enables (unwrap_or width n) few (enables-bytes enables enabled.each) (width-small width n q.wide few) },
      requests-told p i h all (s + 1) (later t (latency_of p i a)) g (later-small t (latency_of p i a)) ops proper.1,
    )
requests-told p i h all s t g small (Ignore a ∷ ops) proper = (
  record { addressed = proper.0; timed = small; asks = ignore-told },
  requests-told p i h all (s + 1) (later t (latency_of p i a)) g (later-small t (latency_of p i a)) ops proper.1,
)
requests-told p i h all s t g small (Debug a n ∷ ops) proper =
    let q = proper.0 in
    let count = q.1 in (
      record { addressed = q.0; timed = small; asks = debug-told n (omega (arith, count.few)) },
      requests-told p i h all (s + 1) t (g + 2) small ops proper.1,
    )
requests-told p i h all s t g small (Copy from to n ∷ ops) proper =
    let q = proper.0 in
    let count = q.2 in
    let few : n < 2 ^ 64 = omega (arith, count.few) in (
      record { addressed = q.0; timed = small; asks = read-told n [] n few tt few },
      used-each IsToldRequest (buffer_of p i h s from n) _ (λ got is.
          let b = by-route (route_of p i from) n i.number s h all few got is in (
            record { addressed = q.1; timed = later-small t (latency_of p i from); asks = write-told got [] n b.few b.bytes tt few },
            requests-told p i h all (s + 2) (later (later t (latency_of p i from)) (latency_of p i to)) (g + 3) (later-small (later t (latency_of p i from)) (latency_of p i to)) ops proper.1,
          )),
    )
requests-told p i h all s t g small (Add a n ∷ ops) proper =
    let q = proper.0 in
    let four : 4 < 2 ^ 64 = omega arith in (
      record { addressed = q.0; timed = small; asks = read-told 4 [] 4 four tt four },
      used-each IsToldRequest (buffer_of p i h s a 4) _ (λ got is. (
        record { addressed = q.0; timed = later-small t (latency_of p i a); asks = write-told (added got n) [] 4 four (le-bytes ((le_number got + n) % 2 ^ 32)) tt four },
        requests-told p i h all (s + 2) (later (later t (latency_of p i a)) (latency_of p i a)) (g + 3) (later-small (later t (latency_of p i a)) (latency_of p i a)) ops proper.1,
      )),
    )
requests-told p i h all s t g small (FetchAdd a n ∷ ops) proper = (
  record { addressed = proper.0.0; timed = small; asks = fetch_add-told n },
  requests-told p i h all (s + 1) (later t (latency_of p i a)) (g + 2) (later-small t (latency_of p i a)) ops proper.1,
)
requests-told p i h all s t g small (Wait n ∷ ops) proper = requests-told p i h all s (later t n) (g + 1) (later-small t n) ops proper.1
requests-told p i h all s t g small (Sync ∷ ops) proper = requests-told p i h all s t (g + 1) small ops proper.1
requests-told p i h all s t g small (Fence ∷ ops) proper = requests-told p i h all s t (g + 1) small ops proper.1
requests-told p i h all s t g small (Invalidate a n ∷ ops) proper = (
  record { addressed = invalidation-addressed a n proper.0; timed = small; asks = tt },
  requests-told p i h all (s + 1) t (g + 2) small ops proper.1,
)

used-few : (o : Option (List ℕ)) (next : List ℕ → List Request) (m : ℕ) → ((got : List ℕ) → length (next got) ≤ m) → length (using o next) ≤ m
used-few None next m f = omega arith
used-few (Some got) next m f = f got

-- an operation asks for at most two things
pub requests-few : (p : Platform) (i : Initiator) (h : List Entry) (s t g : ℕ) (ops : List Operation) → length (requests_from p i h s t g ops) ≤ 2 * length ops
requests-few p i h s t g [] = omega arith
requests-few p i h s t g (Write a bs enables width ∷ ops) = let rest = requests-few p i h (s + 1) (later t (latency_of p i a)) g ops in omega (arith, rest)
requests-few p i h s t g (Read a n enables width ∷ ops) = let rest = requests-few p i h (s + 1) (later t (latency_of p i a)) g ops in omega (arith, rest)
requests-few p i h s t g (Ignore a ∷ ops) = let rest = requests-few p i h (s + 1) (later t (latency_of p i a)) g ops in omega (arith, rest)
requests-few p i h s t g (Debug a n ∷ ops) = let rest = requests-few p i h (s + 1) t (g + 2) ops in omega (arith, rest)
requests-few p i h s t g (Copy from to n ∷ ops) =
    let rest = requests-few p i h (s + 2) (later (later t (latency_of p i from)) (latency_of p i to)) (g + 3) ops in
    let more = used-few (buffer_of p i h s from n) (λ got. record { seq = s + 1; address = to; asked = Transport (write_of got [] n); time = later t (latency_of p i from); stage = g + 2 } ∷
    requests_from p i h (s + 2) (later (later t (latency_of p i from)) (latency_of p i to)) (g + 3) ops) (suc (2 * length ops)) (λ got. omega (arith, rest)) in
    omega (arith, more)
requests-few p i h s t g (Add a n ∷ ops) =
    let rest = requests-few p i h (s + 2) (later (later t (latency_of p i a)) (latency_of p i a)) (g + 3) ops in
    let more = used-few (buffer_of p i h s a 4) (λ got. record { seq = s + 1; address = a; asked = Transport (write_of (added got n) [] 4); time = later t (latency_of p i a); stage = g + 2 } ∷
    requests_from p i h (s + 2) (later (later t (latency_of p i a)) (latency_of p i a)) (g + 3) ops) (suc (2 * length ops)) (λ got. omega (arith, rest)) in
    omega (arith, more)
requests-few p i h s t g (FetchAdd a n ∷ ops) = let rest = requests-few p i h (s + 1) (later t (latency_of p i a)) (g + 2) ops in omega (arith, rest)
requests-few p i h s t g (Wait n ∷ ops) = let rest = requests-few p i h s (later t n) (g + 1) ops in omega (arith, rest)
requests-few p i h s t g (Sync ∷ ops) = let rest = requests-few p i h s t (g + 1) ops in omega (arith, rest)
requests-few p i h s t g (Fence ∷ ops) = let rest = requests-few p i h s t (g + 1) ops in omega (arith, rest)
requests-few p i h s t g (Invalidate a n ∷ ops) = let rest = requests-few p i h (s + 1) t (g + 2) ops in omega (arith, rest)
