-- The other laws, in the words of their contracts.
use Rattle.std.proofs.Common.{◌≡◌, ℕ, zero, suc, ◌+◌, ◌<◌, ◌≤◌, List, [], ◌∷◌, length, map, Some, true, false, Bool, cond, refl, ap, sym, ◌∙◌, arith, subst, inl, inr}
use Rattle.std.specs.Prelude.{sum_by, count_by, slice_index_or, slice_get}
use Rattle.std.proofs.lemmas.List.Sums.{sum_by-cons}
use Rattle.std.proofs.lemmas.List.{length-map}
use Rattle.tlm_types.specs.declared.words.ObjectNo.TheVariants.{Hop}
use Rattle.tlm_types.specs.declared.words.TxnId.{TxnId}
use Rattle.tlm_types.specs.declared.entry.Entry.{Entry}
use Rattle.base_phases.specs.Sequences.{Call, IsSequence}
use Rattle.base_phases.specs.Walks.{is_begin}
use Rattle.flow_model.specs.Calls.{calls_of, is_of}
use Rattle.flow_model.specs.Events.{Event, Among, at, entries, hop_log}
use Rattle.flow_model.specs.Ending.{EndingLaw, NumbersLaw, CountLaw, AllFreedLaw}
use Rattle.flow_model.specs.Counting.{CountingLaw, BeginsOnceLaw}
use Rattle.flow_model.specs.Counting.{own_count as entry_count, AllDiffer as AllPairsDiffer, HasSequence as HasCalls}
use Rattle.flow_model.proofs.AllFreed.{all_freed}
use Rattle.flow_model.proofs.BeginsOnce.{begins, begins_calls, one_begin}
use Rattle.flow_model.proofs.CallLists.{all_calls, call_of, calls, calls_at, entries-at, same_says, sequences_are}
use Rattle.flow_model.proofs.Counting.{counting}
use Rattle.flow_model.proofs.Each.{at_each, each_from}
use Rattle.flow_model.proofs.Ending.{ending}
use Rattle.flow_model.proofs.Forms.{AllDiffer, HasSequence, Saying, eleven, is_txn, one_if, own_count, sayings, sum_over}
use Rattle.flow_model.proofs.OneNumber.{numbers}
use Rattle.flow_model.proofs.Sayings.{sayings-at}
use Rattle.flow_model.proofs.TheLaw.{counted as counted_acquires, given}

pub ending_law : EndingLaw
ending_law w slots issued h pr x pass is f = ending w slots issued h (given w slots issued h pr) x pass is f

pub numbers_law : NumbersLaw
numbers_law w slots issued h pr x pass is k = numbers w slots issued h (given w slots issued h pr) x pass is k

pub count_law : CountLaw
count_law w slots issued h pr = each_from _ h (counted_acquires w slots issued h pr)

pub all_freed_law : AllFreedLaw
all_freed_law slots log steps none x f = all_freed slots log (at_each _ log steps) none x f

-- a list of which no two elements are the same, in both forms
record Place (xs : List TxnId) (y : TxnId) : Type 0 where
  index : ℕ
  below : index < length xs
  there : (d : TxnId) → slice_index_or xs index d ≡ y

place_of : (xs : List TxnId) (y : TxnId) → Among xs y → Place xs y
place_of [] y m = absurd m
place_of (x ∷ xs) y (inl q) = record { index = zero; below = omega arith; there = λ d. q }
place_of (x ∷ xs) y (inr m) = let p = place_of xs y m in let b : p.index < length xs = p.below in record { index = suc p.index; below = omega arith; there = λ d. p.there d }

differ_of : (xs : List TxnId) → AllPairsDiffer xs → AllDiffer xs
differ_of [] a = tt
differ_of (x ∷ xs) a = (first, differ_of xs (λ i j d l m. a (suc i) (suc j) d (omega arith) (omega arith)))
  where
    first : ¬ Among xs x
    first m = let p = place_of xs x m in let b : p.index < length xs = p.below in a zero (suc p.index) x (omega arith) (omega arith) (sym (p.there x))

sum_same : (f : TxnId → ℕ) (xs : List TxnId) → sum_by f xs ≡ sum_over f xs
sum_same f [] = refl
sum_same f (x ∷ xs) = sum_by-cons f x xs ∙ ap (λ (n : ℕ). f x + n) (sum_same f xs)

one_same : (b : Bool) → cond {A = ℕ} b 1 0 ≡ one_if b
one_same true = refl
one_same false = refl

count_same : (x : TxnId) (l : List Event) → entry_count x (entries l) ≡ own_count x l
count_same x [] = refl
count_same x (e ∷ l) =
    sum_by-cons (λ (d : Entry). cond {A = ℕ} (is_of x d) 1 0) e.entry (entries l)
    ∙ (ap (λ (n : ℕ). n + entry_count x (entries l)) (one_same (is_txn x e.txn))
    ∙ ap (λ (n : ℕ). one_if (is_txn x e.txn) + n) (count_same x l))

-- entries as events
event_of : Entry → Event
event_of e = record { entry = e; number = 0 }

events : List Entry → List Event
events l = map event_of l

entries_events : (l : List Entry) → entries (events l) ≡ l
unfolding events event_of
entries_events [] = refl
entries_events (e ∷ l) = ap (λ (k : List Entry). e ∷ k) (entries_events l)

counted : (x : TxnId) (l : List Entry) → entry_count x l ≡ own_count x (events l)
counted x l = ap (entry_count x) (sym (entries_events l)) ∙ count_same x (events l)

pub counting_law : CountingLaw
counting_law xs spent log d known few =
    let long : length (entries (events log)) ≡ length (events log) = length-map (events log) (λ (e : Event). e.entry) in
    let same : length (entries (events log)) ≡ length log = ap length (entries_events log) in
    let sum : sum_by spent xs ≡ sum_over spent xs = sum_same spent xs in
    let all = counting xs spent (events log) (differ_of xs d) (λ x m. (let a : spent x ≤ entry_count x log = known x m in let b : entry_count x log ≡ own_count x (events log) = counted x log in omega arith)) (omega arith) in
    record { own = λ x m. counted x log ∙ all.own x m; none = λ y m. counted y log ∙ all.none y m }

-- the says of a whole sequence of calls
record Told (sequence : List Call) : Type 0 where
  says : List Saying
  among : Among eleven says
  is : calls says ≡ sequence

told_from : (ss : List (List Saying)) (k : ℕ) (sequence : List Call) → slice_get (all_calls ss) k ≡ Some sequence → (all : List (List Saying)) → ((s : List Saying) → Among ss s → Among all s) → (s : List Saying) × Among all s × (calls s ≡ sequence)
unfolding all_calls
told_from [] k sequence q all f = cc
told_from (s ∷ ss) zero sequence q all f = (s, f s (inl refl), some_list (calls s) sequence q)
  where
    some_list : (a b : List Call) → Some a ≡ Some b → a ≡ b
    some_list a b q = cc
told_from (s ∷ ss) (suc k) sequence q all f = told_from ss k sequence q all (λ t m. f t (inr m))

told : (sequence : List Call) → IsSequence sequence → Told sequence
told sequence w =
    let r = told_from eleven w.0 sequence (subst (λ (l : List (List Call)). slice_get l w.0 ≡ Some sequence) sequences_are w.1) eleven (λ s m. m) in
    record { says = r.0; among = r.1; is = r.2 }

among_calls : (cs : List Saying) (s : Saying) → Among cs s → Among (calls cs) (call_of s)
unfolding calls
among_calls [] s m = absurd m
among_calls (c ∷ cs) s (inl q) = inl (ap call_of q)
among_calls (c ∷ cs) s (inr m) = inr (among_calls cs s m)

among_says : (cs : List Saying) (s : Saying) → Among (calls cs) (call_of s) → Among cs s
unfolding calls
among_says [] s m = absurd m
among_says (c ∷ cs) s (inl q) = inl (same_says c s q)
among_says (c ∷ cs) s (inr m) = inr (among_says cs s m)

length_calls : (cs : List Saying) → length (calls cs) ≡ length cs
unfolding calls
length_calls cs = length-map cs call_of

says_of : (o : ℕ) (h : List Event) (x : TxnId) (n : ℕ) → HasCalls (hop_log o h) x n → HasSequence o (at (Hop o) h) x n
says_of o h x n k =
    let t = told k.sequence k.is in
    record {
      sequence = t.says;
      is = t.among;
      long = sym (length_calls t.says) ∙ (ap length t.is ∙ k.long);
      all = λ s m. subst (λ (l : List Saying). Among l s) (sym (sayings-at x o h)) (among_says (sayings x o h) s
          (subst (λ (l : List Call). Among l (call_of s)) (calls_at x o h) (k.all (call_of s) (subst (λ (l : List Call). Among l (call_of s)) t.is (among_calls t.says s m)))));
    }

pub begins_once_law : BeginsOnceLaw
begins_once_law o h xs spent d known few =
    let log_long : length (hop_log o h) ≡ length (at (Hop o) h) = ap length (entries-at (Hop o) h) ∙ length-map (at (Hop o) h) (λ (e : Event). e.entry) in
    let sum : sum_by spent xs ≡ sum_over spent xs = sum_same spent xs in
    record {
      once = λ y. (
          let low : begins (sayings y o (at (Hop o) h)) ≤ 1 = one_begin o h xs spent (differ_of xs d) (λ x m. says_of o h x (spent x) (known x m)) (omega arith) y in
          let same : count_by is_begin (calls_of y (hop_log o h)) ≡ begins (sayings y o (at (Hop o) h)) =
          ap (count_by is_begin) (calls_at y o h ∙ ap calls (sym (sayings-at y o h))) ∙ begins_calls (sayings y o (at (Hop o) h)) in
          omega arith);
    }
