-- The logs of memories make the store of the whole history.
use Rattle.std.proofs.Common.{◌≡◌, ℕ, List, [], ◌∷◌, Option, Some, None, Bool, true, false, cond, IsSome, refl, ap, subst, ◌∙◌}
use Rattle.std.specs.List.{AllByRecursion}
use Rattle.std.specs.Prelude.{slice_get}
use Rattle.std.proofs.lemmas.Bool.{eq-eqb}
use Rattle.tlm_types.specs.declared.words.ObjectNo.{ObjectNo}
use Rattle.tlm_types.specs.declared.words.ObjectNo.TheVariants.{Memory, Hop, Pool}
use Rattle.tlm_types.specs.declared.entry.Entry.{Entry}
use Rattle.tlm_types.specs.declared.entry.What.{What}
use Rattle.tlm_types.specs.declared.entry.What.TheVariants.{Access as Accessed, Granted, Invalidated, Closed, Call, Take, Acquire, Release}
use Rattle.tlm_model.specs.declared.platform.MemoryRow.{MemoryRow}
use Rattle.tlm_model.specs.declared.platform.Platform.{Platform}
use Rattle.tlm_model.specs.History.{entries_at, is_object, opening_store, zeros_of}
use Rattle.tlm_model.specs.Log.{IsLogFrom, bytes_from}
use Rattle.tlm_model.specs.Scripts.{IsPlaced}
use Rattle.tlm_model.specs.Store.{zeros}
use Rattle.tlm_model.proofs.PartsLemmas.{HasMemory, IsLegalFrom-parts, store_from-parts}
use Rattle.good_history.specs.Joined.{IsLogOf}
use Rattle.good_history.specs.JoinedLaws.{LogsMakeLastStore, LogsMakeStore}

-- an entry at a memory that there is, or one elsewhere that is no access
has_memory : (p : Platform) (i : ℕ) (o : ObjectNo) (w : What) → IsPlaced p i o w → ((m : ℕ) → o ≡ Memory m → IsSome (slice_get p.memories m)) → HasMemory p o w
has_memory p i (Memory m) w placed there = there m refl
has_memory p i (Hop h) (Accessed way access status got) placed there = placed
has_memory p i (Hop h) (Granted g f l k) placed there = tt
has_memory p i (Hop h) (Invalidated f l) placed there = tt
has_memory p i (Hop h) (Closed g) placed there = tt
has_memory p i (Hop h) (Call c a) placed there = tt
has_memory p i (Hop h) (Take s) placed there = tt
has_memory p i (Hop h) (Acquire s) placed there = tt
has_memory p i (Hop h) (Release s f) placed there = tt
has_memory p i (Pool n) (Accessed way access status got) placed there = placed
has_memory p i (Pool n) (Granted g f l k) placed there = tt
has_memory p i (Pool n) (Invalidated f l) placed there = tt
has_memory p i (Pool n) (Closed g) placed there = tt
has_memory p i (Pool n) (Call c a) placed there = tt
has_memory p i (Pool n) (Take s) placed there = tt
has_memory p i (Pool n) (Acquire s) placed there = tt
has_memory p i (Pool n) (Release s f) placed there = tt

-- where no entry stands at a memory that isn't there, each stands at one that there is
all_have_memories : (p : Platform) (h : List Entry) → ((m : ℕ) → slice_get p.memories m ≡ None → entries_at (Memory m) h ≡ []) → AllByRecursion (λ (e : Entry). IsPlaced p e.txn.initiator e.object e.what) h → AllByRecursion (λ (e : Entry). HasMemory p e.object e.what) h
all_have_memories p [] none placed = tt
all_have_memories p (e ∷ h) none placed = (
  has_memory p e.txn.initiator e.object e.what placed.0 (λ m at. by_row m at (slice_get p.memories m) refl),
  all_have_memories p h (λ m gone. rest (is_object (Memory m) e.object) (entries_at (Memory m) h) (none m gone)) placed.1,
)
  where
    rest : (b : Bool) (others : List Entry) → cond b (e ∷ others) others ≡ [] → others ≡ []
    rest true others is = cc
    rest false others is = is

    first : (b : Bool) (others : List Entry) → b ≡ true → cond b (e ∷ others) others ≡ [] → ⊥
    first true others is empty = cc
    first false others is empty = cc

    here : (m : ℕ) → e.object ≡ Memory m → is_object (Memory m) e.object ≡ true
    here m at = ap (is_object (Memory m)) at ∙ eq-eqb m m refl

    by_row : (m : ℕ) → e.object ≡ Memory m → (o : Option MemoryRow) → slice_get p.memories m ≡ o → IsSome o
    by_row m at None gone = absurd (first (is_object (Memory m) e.object) (entries_at (Memory m) h) (here m at) (none m gone))
    by_row m at (Some row) is = refl

-- the log of a memory that there is, from the bytes that it opens with
log_at : (o : Option MemoryRow) (row : MemoryRow) (log : List Entry) → o ≡ Some row → IsLogOf o log → IsLogFrom row.traits (zeros_of o) log
log_at None row log at is = cc
log_at (Some found) row log at is =
    let same : found ≡ row = cc in
    subst (λ (r : MemoryRow). IsLogFrom r.traits (zeros found.traits.size) log) same is

pub logs_make_store : LogsMakeStore
logs_make_store p h logs placed =
    IsLegalFrom-parts p (opening_store p) h
    (λ m row at. log_at (slice_get p.memories m) row (entries_at (Memory m) h) at (logs m))
    (all_have_memories p h (λ m gone. subst (λ (o : Option MemoryRow). IsLogOf o (entries_at (Memory m) h)) gone (logs m)) placed)

pub logs_make_last_store : LogsMakeLastStore
logs_make_last_store p h m row at =
    store_from-parts (opening_store p) h m
    ∙ ap (λ (o : Option MemoryRow). bytes_from (zeros_of o) (entries_at (Memory m) h)) at
