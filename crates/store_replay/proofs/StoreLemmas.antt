-- What entries do to the bytes of all memories.
use Rattle.std.proofs.Common.{◌≡◌, ℕ, zero, suc, ◌+◌, ◌<◌, ◌≤◌, ◌≢◌, ◌⊎◌, inl, inr, List, [], ◌∷◌, ◌++◌, length, take, map, set, get_or, cond, nat_eq, Bool, true, false, Option, Some, refl, ap, sym, subst, ◌∙◌, arith}
use Rattle.std.specs.Prelude.{slice_get, option_map, option_and_then}
use Rattle.std.proofs.lemmas.List.{length-map}
use Rattle.std.proofs.lemmas.Option.{get_or_from_slice_get}
use Rattle.std.proofs.lemmas.Bool.{eq-eqb}
use Rattle.std.proofs.lemmas.Bool.Decides.{nat_tests}
use Rattle.tlm_types.specs.declared.entry.Access.{Access}
use Rattle.tlm_types.specs.declared.entry.Entry.{Entry}
use Rattle.tlm_types.specs.declared.entry.Facts.{Facts}
use Rattle.tlm_types.specs.declared.entry.Head.{Head}
use Rattle.tlm_types.specs.declared.entry.What.{What}
use Rattle.tlm_types.specs.declared.entry.What.TheVariants.{Access as Accessed, Granted, Invalidated, Closed, Call, Take, Acquire, Release}
use Rattle.tlm_types.specs.declared.words.Command.{Command}
use Rattle.tlm_types.specs.declared.words.Command.TheVariants.{Read, Write, Ignore, FetchAdd}
use Rattle.tlm_types.specs.declared.words.ObjectNo.{ObjectNo}
use Rattle.tlm_types.specs.declared.words.ObjectNo.TheVariants.{Memory}
use Rattle.tlm_types.specs.declared.words.Way.{Way}
use Rattle.tlm_types.specs.declared.words.Way.TheVariants.{Blocking, FourPhase, Direct, Debug}
use Rattle.tlm_types.specs.declared.words.Response.{Response}
use Rattle.tlm_types.specs.Entries.{enables_of, facts_of, head_of, read_at, sent_of}
use Rattle.tlm_model.specs.declared.platform.MemoryRow.{MemoryRow}
use Rattle.tlm_model.specs.declared.platform.Platform.{Platform}
use Rattle.tlm_model.specs.History.{Store, after, opening_store, put, store_from, zeros_of}
use Rattle.tlm_model.specs.Store.{zeros, store_after, stored_by}
use Rattle.run_outcome.proofs.ListLemmas.{at_set, has_element, length-set', take_all, take_next, within}
use Rattle.entry_log.specs.declared.log.LoggedAccess.{LoggedAccess}
use Rattle.store_replay.specs.Replay.{AreOpening, AreStoresAfter, GoesOn, HaveGoneOn, Hold, access_in}

-- what is made of a row stands where the row stands
made_at : (rows : List MemoryRow) (m : ℕ) (bytes : List ℕ) → slice_get (map (λ (row : MemoryRow). zeros row.traits.size) rows) m ≡ Some bytes → bytes ≡ zeros_of (slice_get rows m)
made_at [] m bytes at = cc
made_at (row ∷ rows) zero bytes at = cc
made_at (row ∷ rows) (suc m) bytes at = made_at rows m bytes at

pub opening : (p : Platform) (stores : List (List ℕ)) → stores ≡ map (λ (row : MemoryRow). zeros row.traits.size) p.memories → AreOpening p stores
opening p stores is = record {
  count = ap length is ∙ length-map p.memories (λ (row : MemoryRow). zeros row.traits.size);
  bytes = λ m bytes at. made_at p.memories m bytes (ap (λ (l : List (List ℕ)). slice_get l m) (sym is) ∙ at);
}

-- a read changes nothing
stored_read : (c : Command) (r : Response) (a : Access) (bytes : List ℕ) → c ≡ Read → stored_by c r a bytes ≡ bytes
stored_read Read r a bytes is = refl
stored_read Write r a bytes is = cc
stored_read Ignore r a bytes is = cc
stored_read FetchAdd r a bytes is = cc

read_keeps : (way : Way) (a : Access) (r : Response) (bytes : List ℕ) → a.command ≡ Read → store_after way r a bytes ≡ bytes
read_keeps Debug a r bytes is = refl
read_keeps Blocking a r bytes is = stored_read a.command r a bytes is
read_keeps FourPhase a r bytes is = stored_read a.command r a bytes is
read_keeps (Direct g) a r bytes is = stored_read a.command r a bytes is

is_read : (c : Command) → (c ≡ Read) ⊎ (c ≢ Read)
is_read Read = inl refl
is_read Write = inr (λ is. cc)
is_read Ignore = inr (λ is. cc)
is_read FetchAdd = inr (λ is. cc)

-- what is kept of an access is the access, where it isn't a read
same_access : (a : Access) (x : LoggedAccess) → a.command ≡ x.facts.command → a.offset ≡ x.facts.offset → a.length ≡ x.facts.length → a.sent ≡ x.sent.now → a.enables ≡ x.enables.now → a.width ≡ x.facts.width → a ≡ access_in x
same_access a x command offset count sent enables width =
    ap (λ (c : Command). record a { command = c }) command
    ∙ (ap (λ (n : ℕ). record a { command = x.facts.command; offset = n }) offset
    ∙ (ap (λ (n : ℕ). record a { command = x.facts.command; offset = x.facts.offset; length = n }) count
    ∙ (ap (λ (l : List ℕ). record a { command = x.facts.command; offset = x.facts.offset; length = x.facts.length; sent = l }) sent
    ∙ (ap (λ (l : List ℕ). record a { command = x.facts.command; offset = x.facts.offset; length = x.facts.length; sent = x.sent.now; enables = l }) enables
    ∙ ap (λ (n : ℕ). record (access_in x) { width = n }) width))))

-- an access that was read from a log does what its entry did
read_does : (way : Way) (a : Access) (r : Response) (x : LoggedAccess) (bytes : List ℕ) → facts_of (Accessed way a r []) ≡ Some x.facts → (x.facts.command ≢ Read → Some a.sent ≡ Some x.sent.now) → Some a.enables ≡ Some x.enables.now → store_after way r a bytes ≡ store_after x.facts.way x.facts.status (access_in x) bytes
read_does way a r x bytes facts sent enables =
    elim (is_read a.command) [
      | inl read ↦ read_keeps way a r bytes read ∙ sym (read_keeps x.facts.way (access_in x) x.facts.status bytes (sym command ∙ read))
      | inr other ↦
          let whole = same_access a x command (ap (λ (f : Facts). f.offset) same) (ap (λ (f : Facts). f.length) same) (bytes_same a.sent x.sent.now (sent (λ is. other (command ∙ is)))) (bytes_same a.enables x.enables.now enables) (ap (λ (f : Facts). f.width) same) in
          ap (λ (w : Way). store_after w r a bytes) (ap (λ (f : Facts). f.way) same)
          ∙ (ap (λ (s : Response). store_after x.facts.way s a bytes) (ap (λ (f : Facts). f.status) same)
          ∙ ap (λ (y : Access). store_after x.facts.way x.facts.status y bytes) whole)
    ]
  where
    bytes_same : (b d : List ℕ) → Some b ≡ Some d → b ≡ d
    bytes_same b d is = cc

    same_facts : (f g : Facts) → Some f ≡ Some g → f ≡ g
    same_facts f g is = cc

    same : record { way = way; command = a.command; offset = a.offset; length = a.length; width = a.width; status = r } ≡ x.facts
    same = same_facts _ _ facts

    command : a.command ≡ x.facts.command
    command = ap (λ (f : Facts). f.command) same

-- the store after what happened at a memory, by what was read of it
after_read : (w : What) (x : LoggedAccess) (n : ℕ) (s : Store) → facts_of w ≡ Some x.facts → (x.facts.command ≢ Read → sent_of w ≡ Some x.sent.now) → enables_of w ≡ Some x.enables.now → after (Memory n) w s ≡ put s n (store_after x.facts.way x.facts.status (access_in x) (s n))
after_read (Accessed way a r got) x n s facts sent enables = ap (λ (l : List ℕ). put s n l) (read_does way a r x (s n) facts sent enables)
after_read (Granted g f l k) x n s facts sent enables = cc
after_read (Invalidated f l) x n s facts sent enables = cc
after_read (Closed g) x n s facts sent enables = cc
after_read (Call p a) x n s facts sent enables = cc
after_read (Take k) x n s facts sent enables = cc
after_read (Acquire k) x n s facts sent enables = cc
after_read (Release k f) x n s facts sent enables = cc

-- an element that stands there
pub there_at : (xs : List (List ℕ)) (n : ℕ) (v : List ℕ) → n < length xs → v ≡ get_or xs n v → slice_get xs n ≡ Some v
there_at xs n v below is =
    let e = has_element xs n below in
    e.at ∙ ap (λ (l : List ℕ). Some l) (sym (get_or_from_slice_get xs n e.element v e.at) ∙ sym is)

-- the bytes of one memory are others
hold_put : (old : List (List ℕ)) (s : Store) (n : ℕ) (new t : List ℕ) → Hold old s → new ≡ t → Hold (set old n new) (put s n t)
hold_put old s n new t hold is m bytes at =
    elim (at_set old n m new bytes at) [
      | inl same ↦ sym same.1 ∙ (is ∙ here (nat_eq n m) (eq-eqb n m (sym same.0)))
      | inr other ↦ hold m bytes other.1 ∙ there (nat_eq n m) (apart other.0)
    ]
  where
    here : (b : Bool) → b ≡ true → t ≡ cond b t (s m)
    here b true_is = rw true_is refl

    there : (b : Bool) → b ≡ false → s m ≡ cond b t (s m)
    there b false_is = rw false_is refl

    apart : nat_eq m n ≡ false → nat_eq n m ≡ false
    apart is = grind (arith, nat_tests)

-- those of a memory that isn't there are
hold_beyond : (old : List (List ℕ)) (s : Store) (n : ℕ) (t : List ℕ) → Hold old s → length old ≤ n → Hold old (put s n t)
hold_beyond old s n t hold beyond m bytes at = hold m bytes at ∙ there (nat_eq n m) (apart (within old m bytes at))
  where
    there : (b : Bool) → b ≡ false → s m ≡ cond b t (s m)
    there b false_is = rw false_is refl

    apart : m < length old → nat_eq n m ≡ false
    apart below = grind (arith, nat_tests)

-- what a log tells of an entry that is an access
pub record IsReadOf (e : Entry) (x : LoggedAccess) : Type 0 where
  pub object : e.object ≡ x.head.object
  pub facts : facts_of e.what ≡ Some x.facts
  pub sent : x.facts.command ≢ Read → sent_of e.what ≡ Some x.sent.now
  pub enables : enables_of e.what ≡ Some x.enables.now

after_is : (e : Entry) (x : LoggedAccess) (n : ℕ) (s : Store) → IsReadOf e x → x.head.object ≡ Memory n → after e.object e.what s ≡ put s n (store_after x.facts.way x.facts.status (access_in x) (s n))
after_is e x n s is at = ap (λ (o : ObjectNo). after o e.what s) (is.object ∙ at) ∙ after_read e.what x n s is.facts is.sent is.enables

-- an access at a memory that there is, and one at a memory that there isn't
pub goes_on : (e : Entry) (x : LoggedAccess) (n : ℕ) (old : List (List ℕ)) (was new : List ℕ) → IsReadOf e x → x.head.object ≡ Memory n → slice_get old n ≡ Some was → new ≡ store_after x.facts.way x.facts.status (access_in x) was → GoesOn e old (set old n new)
goes_on e x n old was new is at there does = record {
  count = length-set' old n new;
  bytes = λ s hold. subst (Hold (set old n new)) (sym (after_is e x n s is at))
      (hold_put old s n new _ hold (does ∙ ap (λ (b : List ℕ). store_after x.facts.way x.facts.status (access_in x) b) (hold n was there)));
}

pub stays : (e : Entry) (x : LoggedAccess) (n : ℕ) (old : List (List ℕ)) → IsReadOf e x → x.head.object ≡ Memory n → length old ≤ n → GoesOn e old old
stays e x n old is at beyond = record {
  count = refl;
  bytes = λ s hold. subst (Hold old) (sym (after_is e x n s is at)) (hold_beyond old s n _ hold beyond);
}

-- the entry at an index, as a log tells it
pub read_of : (entries : List Entry) (index : ℕ) (e : Entry) (x : LoggedAccess) → slice_get entries index ≡ Some e → option_map head_of (slice_get entries index) ≡ Some x.head → Some x.facts ≡ read_at facts_of entries index → (x.facts.command ≢ Read → read_at sent_of entries index ≡ Some x.sent.now) → read_at enables_of entries index ≡ Some x.enables.now → IsReadOf e x
read_of entries index e x at head facts sent enables = record {
  object = ap (λ (h : Head). h.object) (same_head _ _ (sym (ap (λ (o : Option Entry). option_map head_of o) at) ∙ head));
  facts = sym (there facts_of) ∙ sym facts;
  sent = λ other. sym (there sent_of) ∙ sent other;
  enables = sym (there enables_of) ∙ enables;
}
  where
    there : {T : Type 0} (f : What → Option T) → read_at f entries index ≡ f e.what
    there f = ap (λ (o : Option Entry). option_and_then (λ (y : Entry). f y.what) o) at

    same_head : (f g : Head) → Some f ≡ Some g → f ≡ g
    same_head f g is = cc

-- several entries, and one more
store_from-push : (es : List Entry) (e : Entry) (s : Store) → store_from s (es ++ e ∷ []) ≡ after e.object e.what (store_from s es)
store_from-push [] e s = refl
store_from-push (x ∷ es) e s = store_from-push es e (after x.object x.what s)

pub gone_none : (old : List (List ℕ)) → HaveGoneOn [] old old
gone_none old = record { count = refl; bytes = λ s hold. hold }

pub gone_more : (entries : List Entry) (k : ℕ) (e : Entry) (old middle new : List (List ℕ)) → slice_get entries k ≡ Some e → HaveGoneOn (take k entries) old middle → GoesOn e middle new → HaveGoneOn (take (k + 1) entries) old new
gone_more entries k e old middle new at before goes = record {
  count = goes.count ∙ before.count;
  bytes = λ s hold. subst (Hold new) (sym (ap (λ (l : List Entry). store_from s l) (take_next entries k e at) ∙ store_from-push (take k entries) e s)) (goes.bytes (store_from s (take k entries)) (before.bytes s hold));
}

pub gone_all : (entries : List Entry) (k : ℕ) (old new : List (List ℕ)) → length entries ≤ k → HaveGoneOn (take k entries) old new → HaveGoneOn entries old new
gone_all entries k old new all gone = subst (λ (l : List Entry). HaveGoneOn l old new) (take_all k entries all) gone

-- from the first entry on
pub whole : (p : Platform) (h : List Entry) (old new : List (List ℕ)) → AreOpening p old → HaveGoneOn h old new → AreStoresAfter p h new
whole p h old new begun gone = record { count = gone.count ∙ begun.count; bytes = gone.bytes (opening_store p) begun.bytes }
