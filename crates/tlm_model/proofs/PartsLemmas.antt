-- A history whose memories' logs are lawful is lawful as one list, and its last store is that of the logs.
use Rattle.std.proofs.Common.{◌≡◌, ℕ, List, [], ◌∷◌, Option, Some, None, Bool, true, false, cond, nat_eq, IsSome, refl, ap, sym, subst, ◌∙◌}
use Rattle.std.specs.List.{AllByRecursion}
use Rattle.std.specs.Prelude.{slice_get}
use Rattle.std.proofs.lemmas.Bool.{eq-eqb, eqb-true}
use Rattle.tlm_types.specs.declared.words.ObjectNo.{ObjectNo}
use Rattle.tlm_types.specs.declared.words.ObjectNo.TheVariants.{Memory, Hop, Pool}
use Rattle.tlm_types.specs.declared.words.MemoryTraits.{MemoryTraits}
use Rattle.tlm_types.specs.declared.entry.Entry.{Entry}
use Rattle.tlm_types.specs.declared.entry.What.{What}
use Rattle.tlm_types.specs.declared.entry.What.TheVariants.{Access as Accessed, Granted, Invalidated, Closed, Call, Take, Acquire, Release}
use Rattle.tlm_model.specs.declared.platform.MemoryRow.{MemoryRow}
use Rattle.tlm_model.specs.declared.platform.Platform.{Platform}
use Rattle.tlm_model.specs.Store.{store_after}
use Rattle.tlm_model.specs.History.{Store, after, is_object, entries_at, IsAnswer, IsLegalEntry, IsLegalFrom, store_from}
use Rattle.tlm_model.specs.Log.{bytes_after, bytes_from, AnswersByBytes, IsLogFrom}

-- an access stands at a memory that there is
abbrev pub HasMemory : Platform → ObjectNo → What → Type 0
HasMemory p (Memory m) w = IsSome (slice_get p.memories m)
HasMemory p (Hop h) (Accessed way access status got) = ⊥
HasMemory p (Pool h) (Accessed way access status got) = ⊥
HasMemory p o w = Unit {0}

cond_same : {X : Type 0} (b : Bool) (x : X) → x ≡ cond b x x
cond_same true x = refl
cond_same false x = refl

put_at : (b : Bool) (n m : ℕ) (s : Store) (f : List ℕ → List ℕ) → nat_eq n m ≡ b → cond b (f (s n)) (s m) ≡ cond b (f (s m)) (s m)
put_at true n m s f q = ap (λ (k : ℕ). f (s k)) (eqb-true n m q)
put_at false n m s f q = refl

-- the store after an entry, at memory m
after_at : (o : ObjectNo) (w : What) (s : Store) (m : ℕ) → after o w s m ≡ cond (is_object (Memory m) o) (bytes_after w (s m)) (s m)
after_at (Memory n) (Accessed way a r got) s m = put_at (nat_eq n m) n m s (store_after way r a) refl
after_at (Memory n) (Granted g f l k) s m = cond_same (nat_eq n m) (s m)
after_at (Memory n) (Invalidated f l) s m = cond_same (nat_eq n m) (s m)
after_at (Memory n) (Closed g) s m = cond_same (nat_eq n m) (s m)
after_at (Memory n) (Call p a) s m = cond_same (nat_eq n m) (s m)
after_at (Memory n) (Take k) s m = cond_same (nat_eq n m) (s m)
after_at (Memory n) (Acquire k) s m = cond_same (nat_eq n m) (s m)
after_at (Memory n) (Release k f) s m = cond_same (nat_eq n m) (s m)
after_at (Hop h) w s m = refl
after_at (Pool h) w s m = refl

-- the log of memory m after the first entry
rest_at : (t : MemoryTraits) (b : Bool) (e : Entry) (bytes : List ℕ) (rest : List Entry) → IsLogFrom t bytes (cond b (e ∷ rest) rest) → IsLogFrom t (cond b (bytes_after e.what bytes) bytes) rest
rest_at t true e bytes rest h = h.1
rest_at t false e bytes rest h = h

first_at : (t : MemoryTraits) (b : Bool) (e : Entry) (bytes : List ℕ) (rest : List Entry) → IsLogFrom t bytes (cond b (e ∷ rest) rest) → b ≡ true → AnswersByBytes t bytes e.what
first_at t true e bytes rest h q = h.0
first_at t false e bytes rest h q = cc

answer_at : (part : Option MemoryRow) (bytes : List ℕ) (way : _) (a : _) (r : _) (got : _) → IsSome part → ((p : MemoryRow) → part ≡ Some p → AnswersByBytes p.traits bytes (Accessed way a r got)) → IsAnswer part bytes way a r got
answer_at None bytes way a r got h f = cc
answer_at (Some p) bytes way a r got h f = f p refl

legal_at : (p : Platform) (s : Store) (o : ObjectNo) (w : What) → HasMemory p o w → ((m : ℕ) (part : MemoryRow) → slice_get p.memories m ≡ Some part → is_object (Memory m) o ≡ true → AnswersByBytes part.traits (s m) w) → IsLegalEntry p s o w
legal_at p s (Memory n) (Accessed way a r got) h f = answer_at (slice_get p.memories n) (s n) way a r got h (λ part q. f n part q (eq-eqb n n refl))
legal_at p s (Memory n) (Granted g k l d) h f = tt
legal_at p s (Memory n) (Invalidated k l) h f = tt
legal_at p s (Memory n) (Closed g) h f = tt
legal_at p s (Memory n) (Call q a) h f = tt
legal_at p s (Memory n) (Take k) h f = tt
legal_at p s (Memory n) (Acquire k) h f = tt
legal_at p s (Memory n) (Release k d) h f = tt
legal_at p s (Hop n) (Accessed way a r got) h f = h
legal_at p s (Hop n) (Granted g k l d) h f = tt
legal_at p s (Hop n) (Invalidated k l) h f = tt
legal_at p s (Hop n) (Closed g) h f = tt
legal_at p s (Hop n) (Call q a) h f = tt
legal_at p s (Hop n) (Take k) h f = tt
legal_at p s (Hop n) (Acquire k) h f = tt
legal_at p s (Hop n) (Release k d) h f = tt
legal_at p s (Pool n) (Accessed way a r got) h f = h
legal_at p s (Pool n) (Granted g k l d) h f = tt
legal_at p s (Pool n) (Invalidated k l) h f = tt
legal_at p s (Pool n) (Closed g) h f = tt
legal_at p s (Pool n) (Call q a) h f = tt
legal_at p s (Pool n) (Take k) h f = tt
legal_at p s (Pool n) (Acquire k) h f = tt
legal_at p s (Pool n) (Release k d) h f = tt

pub IsLegalFrom-parts : (p : Platform) (s : Store) (h : List Entry) → ((m : ℕ) (part : MemoryRow) → slice_get p.memories m ≡ Some part → IsLogFrom part.traits (s m) (entries_at (Memory m) h)) → AllByRecursion (λ e. HasMemory p e.object e.what) h → IsLegalFrom p s h
IsLegalFrom-parts p s [] logs places = tt
IsLegalFrom-parts p s (e ∷ es) logs places = (
  legal_at p s e.object e.what places.0 (λ m part q b. first_at part.traits (is_object (Memory m) e.object) e (s m) (entries_at (Memory m) es) (logs m part q) b),
  IsLegalFrom-parts p (after e.object e.what s) es
      (λ m part q. subst (λ (bytes : List ℕ). IsLogFrom part.traits bytes (entries_at (Memory m) es)) (sym (after_at e.object e.what s m)) (rest_at part.traits (is_object (Memory m) e.object) e (s m) (entries_at (Memory m) es) (logs m part q)))
      places.1,
)

bytes_at : (b : Bool) (e : Entry) (bytes : List ℕ) (rest : List Entry) → bytes_from (cond b (bytes_after e.what bytes) bytes) rest ≡ bytes_from bytes (cond b (e ∷ rest) rest)
bytes_at true e bytes rest = refl
bytes_at false e bytes rest = refl

-- the last store, at memory m
pub store_from-parts : (s : Store) (h : List Entry) (m : ℕ) → store_from s h m ≡ bytes_from (s m) (entries_at (Memory m) h)
store_from-parts s [] m = refl
store_from-parts s (e ∷ es) m =
    store_from-parts (after e.object e.what s) es m
    ∙ (ap (λ (bytes : List ℕ). bytes_from bytes (entries_at (Memory m) es)) (after_at e.object e.what s m)
    ∙ bytes_at (is_object (Memory m) e.object) e (s m) (entries_at (Memory m) es))
