-- One more object that is taken apart, and all of them.
use Rattle.std.proofs.Common.{◌≡◌, ◌≢◌, ◌⊎◌, ℕ, zero, suc, ◌+◌, ◌<◌, ◌≤◌, List, [], ◌∷◌, ◌++◌, length, Some, refl, ap, sym, subst, ◌∙◌, inl, inr, ⊎_elim, arith, length-append}
use Rattle.std.specs.Prelude.{slice_get}
use mathlib.Core.Option.{some}
use lib.ListN.{get_elem?}
use Rattle.atomic_table.specs.Seated.{TableId}
use Rattle.view_lists.proofs.Places.{at_short, each_end}
use Rattle.one_history.specs.declared.view.Frame.{Frame}
use Rattle.one_history.specs.Held.{Held}
use Rattle.shared_object.specs.Standing.{Numbers}
use Rattle.token_book.specs.Purse.{Purse}
use Rattle.tlm_types.specs.declared.entry.Content.{Content}
use Rattle.tlm_types.specs.declared.words.ObjectNo.{ObjectNo}
use Rattle.tlm_types.specs.declared.words.ObjectNo.TheVariants.{Memory, Hop, Pool}
use Rattle.entry_log.specs.Log.{LogView}
use Rattle.tlm_model.specs.declared.platform.MemoryRow.{MemoryRow}
use Rattle.tlm_model.specs.declared.platform.Platform.{Platform}
use Rattle.tlm_model.specs.Log.{log_bytes}
use Rattle.tlm_model.specs.Plan.{Plan}
use Rattle.route_plan.specs.Valid.{hop_count}
use Rattle.cargo_model.specs.Known.{object_number, objects_of}
use Rattle.net_end.specs.Closed.{AreLeft}
use Rattle.plat_net.specs.Net.{AreHops, AreMemories, ArePools, hop_numbers, memory_numbers, pool_numbers}
use Rattle.plat_net.specs.Objects.{HasObject, pools_start}
use Rattle.plat_net.proofs.NumberLemmas.{hop_number, hop_there, memory_there, pool_at_place}
use Rattle.plat_net.proofs.Lookups.{short_at}
use Rattle.plat_build.proofs.IdleLemmas.{pool_listed}
use Rattle.plat_end.specs.Apart.{HasLeftLog, HaveLeftLogs}
use Rattle.plat_end.specs.Taking.{HaveSameBut, IsPaid, IsTaken}

module _ {A : Type 0} where
  -- what is read in a list with one more at its end
  read_end : (xs : List A) (v : A) (j : ℕ) (y : A) → slice_get (xs ++ v ∷ []) j ≡ Some y → (slice_get xs j ≡ Some y) ⊎ ((j ≡ length xs) × (v ≡ y))
  read_end [] v zero y is = inr (refl, cc)
  read_end [] v (suc j) y is = cc
  read_end (x ∷ xs) v zero y is = inl is
  read_end (x ∷ xs) v (suc j) y is = ⊎_elim (λ (same : slice_get xs j ≡ Some y). inl same) (λ (last : (j ≡ length xs) × (v ≡ y)). inr (ap suc last.0, last.1)) (read_end xs v j y is)

  -- what holds of each item that is read, after one was added
  each_read : (P : ℕ → A → Type 0) (xs : List A) (v : A) → ((j : ℕ) (y : A) → slice_get xs j ≡ Some y → P j y) → P (length xs) v → (j : ℕ) (y : A) → slice_get (xs ++ v ∷ []) j ≡ Some y → P j y
  each_read P xs v each here j y is = ⊎_elim
      (λ (old : slice_get xs j ≡ Some y). each j y old)
      (λ (new : (j ≡ length xs) × (v ≡ y)). subst (λ (k : ℕ). P k y) (sym new.0) (subst (P (length xs)) new.1 here))
      (read_end xs v j y is)

  -- what is read in the front
  front_read : (xs ys : List A) (j : ℕ) → j < length xs → slice_get (xs ++ ys) j ≡ slice_get xs j
  front_read [] ys j below = absurd (omega arith)
  front_read (x ∷ xs) ys zero below = refl
  front_read (x ∷ xs) ys (suc j) below = front_read xs ys j (omega arith)

  some_same : (x y : A) → Some x ≡ Some y → x ≡ y
  some_same x y q = cc

  one_longer : (xs : List A) (x : A) → length (xs ++ x ∷ []) ≡ length xs + 1
  one_longer xs x = length-append xs (x ∷ [])

  pub longer_by : (xs more : List A) (x : A) → more ≡ xs ++ x ∷ [] → length more ≡ length xs + 1
  longer_by xs more x is = ap length is ∙ one_longer xs x

module _ (table : TableId) (frame : Frame Plan) where
  -- one more log, with its seat
  logs_more : (logs : List LogView) (seats : List (Held Content Plan)) (log : LogView) (seat : Held Content Plan) (o : ObjectNo) → HaveLeftLogs table frame logs seats → slice_get (objects_of frame.world.platform) (length seats) ≡ Some o → HasLeftLog table frame o log seat
      → HaveLeftLogs table frame (logs ++ log ∷ []) (seats ++ seat ∷ [])
  logs_more logs seats log seat o have at left = record {
    count = omega (arith, one_longer logs log, one_longer seats seat, have.count);
    each = λ k other l s there reads sits. each_read
        (λ j m. slice_get (objects_of frame.world.platform) j ≡ Some other → get_elem? (seats ++ seat ∷ []) j ≡ some s → HasLeftLog table frame other m s) logs log
        (λ j m read is stands. each_end (λ i t. i ≡ j → HasLeftLog table frame other m t) seats seat
        (λ i t place same. have.each j other m t is read (subst (λ (n : ℕ). get_elem? seats n ≡ some t) same place))
        (λ same. absurd (let less = short_at logs j m read in let c = have.count in omega arith)) j s stands refl)
        (λ is stands. each_end (λ i t. i ≡ length logs → HasLeftLog table frame other log t) seats seat
        (λ i t place same. absurd (let less = at_short seats i t place in let c = have.count in omega arith))
        (λ same. subst (λ (x : ObjectNo). HasLeftLog table frame x log seat) (some_same o other (sym at ∙ (ap (slice_get (objects_of frame.world.platform)) same ∙ is))) left) (length logs) s stands refl)
        k l reads there sits;
  }

  -- one more object is taken apart
  pub taken_more : (start now new : List Purse) (logs : List LogView) (seats : List (Held Content Plan)) (log : LogView) (seat : Held Content Plan) (o : ObjectNo) → IsTaken table frame start now logs seats → HasObject frame.world.platform (length seats) o
      → HasLeftLog table frame o log seat → IsPaid frame (length seats) now seat → HaveSameBut (length seats) now new → IsTaken table frame start new (logs ++ log ∷ []) (seats ++ seat ∷ [])
  taken_more start now new logs seats log seat o taken at left paid others = record {
    logs_left = logs_more logs seats log seat o taken.logs_left at left;
    paid = each_end (λ k s. IsPaid frame k start s) seats seat taken.paid (let same = taken.same (length seats) (omega arith) in omega (arith, paid, same));
    same = λ k past.
        let longer = one_longer seats seat in
        let differs : k ≢ length seats = λ e. omega arith in
        others k differs ∙ taken.same k (omega arith);
  }

  -- all objects are left
  pub all_left : (start now : List Purse) (logs : List LogView) (seats : List (Held Content Plan)) → IsTaken table frame start now logs seats → length seats ≡ length (objects_of frame.world.platform) → AreLeft table frame seats
  all_left start now logs seats taken count = record {
    count = count;
    each = λ k o seat at sits.
        let below = at_short seats k seat sits in
        let log = log_there logs k (let c = taken.logs_left.count in omega arith) in
        (taken.logs_left.each k o log.0 seat at log.1 sits).left;
  }
    where
      log_there : (l : List LogView) (k : ℕ) → k < length l → (x : LogView) × (slice_get l k ≡ Some x)
      log_there [] k less = absurd (omega arith)
      log_there (x ∷ l) zero less = (x, refl)
      log_there (x ∷ l) (suc k) less = log_there l k (omega arith)

-- the bytes of the first memories, as many as there are logs
pub record HaveStores (p : Platform) (logs : List LogView) (stores : List (List ℕ)) : Type 0 where
  pub count : length stores ≡ length logs
  pub each : (m : ℕ) (row : MemoryRow) (log : LogView) (bytes : List ℕ) → slice_get p.memories m ≡ Some row → slice_get logs m ≡ Some log → slice_get stores m ≡ Some bytes → bytes ≡ log_bytes row.traits log.entries

stores_more : (p : Platform) (logs : List LogView) (stores : List (List ℕ)) (log : LogView) (bytes : List ℕ) → HaveStores p logs stores → ((row : MemoryRow) → slice_get p.memories (length logs) ≡ Some row → bytes ≡ log_bytes row.traits log.entries)
    → HaveStores p (logs ++ log ∷ []) (stores ++ bytes ∷ [])
stores_more p logs stores log bytes have new = record {
  count = omega (arith, one_longer logs log, one_longer stores bytes, have.count);
  each = λ m row l b at reads is. each_read
      (λ j x. slice_get p.memories j ≡ Some row → slice_get (stores ++ bytes ∷ []) j ≡ Some b → b ≡ log_bytes row.traits x.entries) logs log
      (λ j x read here stands. have.each j row x b here read (sym (front_read stores (bytes ∷ []) j (let less = short_at logs j x read in let c = have.count in omega arith)) ∙ stands))
      (λ here stands.
      let last : slice_get (stores ++ bytes ∷ []) (length logs) ≡ Some bytes = ap (slice_get (stores ++ bytes ∷ [])) (sym have.count) ∙ read_last stores bytes in
      some_same b bytes (sym stands ∙ last) ∙ new row here)
      m l reads at is;
}
  where
    read_last : (xs : List (List ℕ)) (x : List ℕ) → slice_get (xs ++ x ∷ []) (length xs) ≡ Some x
    read_last [] x = refl
    read_last (y ∷ xs) x = read_last xs x

pub stores_next : (p : Platform) (logs more_logs : List LogView) (stores more_stores : List (List ℕ)) (log : LogView) (bytes : List ℕ) → more_logs ≡ logs ++ log ∷ [] → more_stores ≡ stores ++ bytes ∷ [] → HaveStores p logs stores
    → ((row : MemoryRow) → slice_get p.memories (length logs) ≡ Some row → bytes ≡ log_bytes row.traits log.entries) → HaveStores p more_logs more_stores
stores_next p logs more_logs stores more_stores log bytes logs_are stores_are have new =
    subst (λ (l : List LogView). HaveStores p l more_stores) (sym logs_are) (subst (λ (l : List (List ℕ)). HaveStores p (logs ++ log ∷ []) l) (sym stores_are) (stores_more p logs stores log bytes have new))

-- The object with these numbers comes next, as number n of the history, with its number among those of its kind.
pub record IsNext (p : Platform) (n : ℕ) (kind : ℕ → ObjectNo) (s : Numbers) : Type 0 where
  pub number : s.number ≡ n
  pub at : HasObject p s.number (kind s.own)

-- so there is room for what it leaves
pub next_fits : (p : Platform) (n : ℕ) (kind : ℕ → ObjectNo) (s : Numbers) → IsNext p n kind s → n < length (objects_of p)
next_fits p n kind s next = subst (λ (k : ℕ). k < length (objects_of p)) next.number (short_at (objects_of p) s.number (kind s.own) next.at)

pub next_memory : (p : Plan) (memories : List Numbers) (m : ℕ) (s : Numbers) → AreMemories p memories → get_elem? memories m ≡ some s → IsNext p.platform m Memory s × (s ≡ memory_numbers s.own)
next_memory p memories m s are at =
    let is : s ≡ memory_numbers m = are.each m s at in
    let there = memory_there p.platform m (omega (arith, at_short memories m s at, are.count)) in (
      record { number = ap (λ (t : Numbers). t.number) is; at = subst (λ (t : Numbers). HasObject p.platform t.number (Memory t.own)) (sym is) there },
      is ∙ ap memory_numbers (sym (ap (λ (t : Numbers). t.own) is)),
    )

pub next_hop : (p : Platform) (hops : List Numbers) (h : ℕ) (s : Numbers) → AreHops p hops → get_elem? hops h ≡ some s → IsNext p (length p.memories + h) Hop s × (s ≡ hop_numbers p s.own)
next_hop p hops h s are at =
    let is : s ≡ hop_numbers p h = are.each h s at in
    let below : h < hop_count p = omega (arith, at_short hops h s at, are.count) in
    let number : object_number p (Hop h) ≡ length p.memories + h = hop_number p h below in
    let there : HasObject p (object_number p (Hop h)) (Hop h) = subst (λ (n : ℕ). HasObject p n (Hop h)) (sym number) (hop_there p h below) in (
      record { number = ap (λ (t : Numbers). t.number) is ∙ number; at = subst (λ (t : Numbers). HasObject p t.number (Hop t.own)) (sym is) there },
      is ∙ ap (hop_numbers p) (sym (ap (λ (t : Numbers). t.own) is)),
    )

pub next_pool : (p : Plan) (pools : List Numbers) (k : ℕ) (s : Numbers) → ArePools p.platform pools → get_elem? pools k ≡ some s → IsNext p.platform (pools_start p.platform + k) Pool s × (s ≡ pool_numbers p.platform s.own)
next_pool p pools k s are at =
    let is : s ≡ pool_numbers p.platform s.own = are.each k s at in
    let place = pool_at_place p.platform k s.own (pool_listed p pools k s are at) in
    let number : s.number ≡ pools_start p.platform + k = ap (λ (t : Numbers). t.number) is ∙ place.0 in
    (record { number = number; at = subst (λ (n : ℕ). HasObject p.platform n (Pool s.own)) (sym number) place.1 }, is)

-- it is taken apart
pub taken_next : (table : TableId) (frame : Frame Plan) (n : ℕ) (kind : ℕ → ObjectNo) (s : Numbers) (start now new : List Purse) (logs more_logs : List LogView) (seats more_seats : List (Held Content Plan)) (log : LogView) (seat : Held Content Plan)
    → IsNext frame.world.platform n kind s → length seats ≡ n → HasLeftLog table frame (kind s.own) log seat → IsPaid frame s.number now seat → HaveSameBut s.number now new → more_logs ≡ logs ++ log ∷ [] → more_seats ≡ seats ++ seat ∷ []
    → IsTaken table frame start now logs seats → IsTaken table frame start new more_logs more_seats
taken_next table frame n kind s start now new logs more_logs seats more_seats log seat next sits left paid others logs_are seats_are taken =
    let here : s.number ≡ length seats = next.number ∙ sym sits in
    let more : IsTaken table frame start new (logs ++ log ∷ []) (seats ++ seat ∷ []) = taken_more table frame start now new logs seats log seat (kind s.own) taken (subst (λ (k : ℕ). HasObject frame.world.platform k (kind s.own)) here next.at) left
    (subst (λ (k : ℕ). IsPaid frame k now seat) here paid) (subst (λ (k : ℕ). HaveSameBut k now new) here others) in
    subst (λ (l : List LogView). IsTaken table frame start new l more_seats) (sym logs_are) (subst (λ (l : List (Held Content Plan)). IsTaken table frame start new (logs ++ log ∷ []) l) (sym seats_are) more)

-- one more log leaves the earlier ones
pub earlier_more : (old logs more : List LogView) (log : LogView) → ((k : ℕ) → k < length old → slice_get logs k ≡ slice_get old k) → length old ≤ length logs → more ≡ logs ++ log ∷ [] → (k : ℕ) → k < length old → slice_get more k ≡ slice_get old k
earlier_more old logs more log same longer is k below = ap (λ (l : List LogView). slice_get l k) is ∙ (front_read logs (log ∷ []) k (omega arith) ∙ same k below)
