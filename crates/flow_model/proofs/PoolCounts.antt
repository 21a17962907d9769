-- A pool whose references are numbered counts them.
use Rattle.std.proofs.Common.{◌≡◌, ℕ, ◌+◌, ◌-◌, ◌<◌, List, [], ◌∷◌, ◌++◌, length, Option, Some, None, true, false, Bool, cond, nat_eq, refl, ap, sym, ◌∙◌, arith, subst, inl, inr}
use Rattle.std.specs.Prelude.{IsSome, MatchOption}
use Rattle.std.proofs.lemmas.Bool.{eq-eqb, eqb-true}
use Rattle.std.proofs.lemmas.List.{map-append}
use Rattle.tlm_types.specs.declared.words.TxnId.{TxnId}
use Rattle.tlm_types.specs.declared.entry.Entry.{Entry}
use Rattle.tlm_types.specs.declared.entry.What.{What}
use Rattle.tlm_types.specs.declared.entry.What.TheVariants.{Access as Accessed, Granted, Invalidated, Closed, Call, Take, Acquire, Release}
use Rattle.tlm_model.specs.Each.{EachFrom}
use Rattle.flow_model.specs.Events.{Event, Among, Finds, IsTakeOf, entries}
use Rattle.flow_model.proofs.Forms.{is_txn}
use Rattle.flow_model.proofs.Sayings.{same_txn}
use Rattle.flow_model.specs.Pools.{Life, Slots, PoolStepBy, IsPoolLog, TakesOnce, fewer, more, slots_after, slots_by}
use Rattle.flow_model.specs.Slots.{no_slots}
use Rattle.flow_model.specs.Counts.{Counted, Counts, CountStep, KeepsCounts, TakesAtMostOnce, counts_after, counts_by, one_less, one_more, take_by, takes}

-- a slot in both forms
abbrev Agrees : Option Life → Option Counted → Type 0
Agrees None None = Unit {0}
Agrees None (Some c) = ⊥
Agrees (Some l) None = ⊥
Agrees (Some l) (Some c) = (c.txn ≡ l.txn) × (c.count + length l.released ≡ l.acquired + 1) × (0 < c.count)

abbrev AllAgree : Slots → Counts → Type 0
AllAgree s c = (k : ℕ) → Agrees (s k) (c k)

slots_push : (s : Slots) (l : List Event) (e : Event) → slots_after s (l ++ e ∷ []) ≡ slots_by (slots_after s l) e.txn e.number e.what
slots_push s [] e = refl
slots_push s (f ∷ l) e = slots_push (slots_by s f.txn f.number f.what) l e

counts_push : (s : Counts) (l : List Entry) (e : Entry) → counts_after s (l ++ e ∷ []) ≡ counts_by (counts_after s l) e.txn e.what
counts_push s [] e = refl
counts_push s (f ∷ l) e = counts_push (counts_by s f.txn f.what) l e

put_agrees : (s : Slots) (c : Counts) (k : ℕ) (l : Option Life) (d : Option Counted) → AllAgree s c → Agrees l d → (j : ℕ) → Agrees (cond (nat_eq j k) l (s j)) (cond (nat_eq j k) d (c j))
put_agrees s c k l d a b j = go (nat_eq j k)
  where
    go : (t : Bool) → Agrees (cond t l (s j)) (cond t d (c j))
    go true = b
    go false = a j

none_agrees : (l : Option Life) (d : Option Counted) → Agrees l d → l ≡ None → d ≡ None
none_agrees None None a q = refl
none_agrees None (Some c) a q = absurd a
none_agrees (Some l) d a q = cc

some_agrees : (l : Option Life) (d : Option Counted) → Agrees l d → IsSome l → IsSome d
some_agrees None None a q = q
some_agrees None (Some c) a q = absurd a
some_agrees (Some l) None a q = absurd a
some_agrees (Some l) (Some c) a q = refl

txn_agrees : (l : Option Life) (d : Option Counted) (life : Life) (x : TxnId) → Agrees l d → l ≡ Some life → life.txn ≡ x → MatchOption d ⊥ (λ c. c.txn ≡ x)
txn_agrees None d life x a q t = cc
txn_agrees (Some l) None life x a q t = absurd a
txn_agrees (Some l) (Some c) life x a q t = a.0 ∙ (ap (λ (m : Life). m.txn) (some_same l life q) ∙ t)
  where
    some_same : (a b : Life) → Some a ≡ Some b → a ≡ b
    some_same a b q = cc

more_agrees : (l : Option Life) (d : Option Counted) → Agrees l d → Agrees (more l) (one_more d)
more_agrees None None a = tt
more_agrees None (Some c) a = absurd a
more_agrees (Some l) None a = absurd a
more_agrees (Some l) (Some c) a = let s : c.count + length l.released ≡ l.acquired + 1 = a.1 in let z : 0 < c.count = a.2 in (a.0, omega arith, omega arith)

-- the count is 1 where as many are released as were acquired
last_same : (r a n : ℕ) → n + r ≡ a + 1 → nat_eq r a ≡ nat_eq n 1
last_same r a n s = go (nat_eq r a) refl (nat_eq n 1) refl
  where
    go : (b : Bool) → nat_eq r a ≡ b → (c : Bool) → nat_eq n 1 ≡ c → b ≡ c
    go true p true q = refl
    go false p false q = refl
    go true p false q = let t : r ≡ a = eqb-true r a p in let u : ¬ (n ≡ 1) = λ v. cc (eq-eqb n 1 v) in absurd (u (omega arith))
    go false p true q = let t : n ≡ 1 = eqb-true n 1 q in let u : ¬ (r ≡ a) = λ v. cc (eq-eqb r a v) in absurd (u (omega arith))

freed_agrees : (l : Option Life) (d : Option Counted) (life : Life) (x : TxnId) (freed : Bool) → Agrees l d → l ≡ Some life → life.txn ≡ x → freed ≡ nat_eq (length life.released) life.acquired → MatchOption d ⊥ (λ c. (c.txn ≡ x) × (freed ≡ nat_eq c.count 1))
freed_agrees None d life x freed a q t f = cc
freed_agrees (Some l) None life x freed a q t f = absurd a
freed_agrees (Some l) (Some c) life x freed a q t f =
    let same : l ≡ life = some_same l life q in (
      a.0 ∙ (ap (λ (m : Life). m.txn) same ∙ t),
      f ∙ (ap (λ (m : Life). nat_eq (length m.released) m.acquired) (sym same) ∙ last_same (length l.released) l.acquired c.count a.1),
    )
  where
    some_same : (a b : Life) → Some a ≡ Some b → a ≡ b
    some_same a b q = cc

fewer_agrees : (l : Option Life) (d : Option Counted) (n : ℕ) (life : Life) (freed : Bool) → Agrees l d → l ≡ Some life → freed ≡ nat_eq (length life.released) life.acquired → Agrees (fewer l n freed) (one_less d)
fewer_agrees None d n life freed a q f = cc
fewer_agrees (Some l) None n life freed a q f = absurd a
fewer_agrees (Some l) (Some c) n life freed a q f = go freed (f ∙ (ap (λ (m : Life). nat_eq (length m.released) m.acquired) (sym (some_same l life q)) ∙ last_same (length l.released) l.acquired c.count a.1))
  where
    some_same : (a b : Life) → Some a ≡ Some b → a ≡ b
    some_same a b q = cc

    less : Option Counted
    less = Some (record { txn = c.txn; count = c.count - 1 })

    go : (b : Bool) → b ≡ nat_eq c.count 1 → Agrees (fewer (Some l) n b) (cond (nat_eq c.count 1) None (Some (record { txn = c.txn; count = c.count - 1 })))
    go true p = subst (λ (t : Bool). Agrees None (cond t None (Some (record { txn = c.txn; count = c.count - 1 })))) p tt
    go false p =
        let s : c.count + length l.released ≡ l.acquired + 1 = a.1 in
        let z : 0 < c.count = a.2 in
        let u : ¬ (c.count ≡ 1) = λ v. cc (p, eq-eqb c.count 1 v) in
        subst (λ (t : Bool). Agrees (fewer (Some l) n false) (cond t None (Some (record { txn = c.txn; count = c.count - 1 })))) p
        (a.0, omega arith, omega arith)

module _ (slots : ℕ) (s : Slots) (c : Counts) (agree : AllAgree s c) where
  step_agrees : (x : TxnId) (n : ℕ) (v : What) → PoolStepBy slots s x n v → CountStep slots c x v
  step_agrees x n (Take k) t = record { below = t.below; free = none_agrees (s k) (c k) (agree k) t.free; least = λ j l. some_agrees (s j) (c j) (agree j) (t.least j l) }
  step_agrees x n (Acquire k) t = txn_agrees (s k) (c k) t.live.life x (agree k) t.live.is t.live.txn
  step_agrees x n (Release k freed) t = freed_agrees (s k) (c k) t.live.life x freed (agree k) t.live.is t.live.txn t.is_freed
  step_agrees x n (Accessed way access status got) t = t
  step_agrees x n (Granted g f l k) t = t
  step_agrees x n (Invalidated f l) t = t
  step_agrees x n (Closed g) t = t
  step_agrees x n (Call p a) t = t

  after_agrees : (x : TxnId) (n : ℕ) (v : What) → PoolStepBy slots s x n v → AllAgree (slots_by s x n v) (counts_by c x v)
  after_agrees x n (Take k) t = put_agrees s c k _ _ agree (refl, omega arith, omega arith)
  after_agrees x n (Acquire k) t = put_agrees s c k _ _ agree (more_agrees (s k) (c k) (agree k))
  after_agrees x n (Release k freed) t = put_agrees s c k _ _ agree (fewer_agrees (s k) (c k) n t.live.life freed (agree k) t.live.is t.is_freed)
  after_agrees x n (Accessed way access status got) t = absurd t
  after_agrees x n (Granted g f l k) t = absurd t
  after_agrees x n (Invalidated f l) t = absurd t
  after_agrees x n (Closed g) t = absurd t
  after_agrees x n (Call p a) t = absurd t

entries_push : (b : List Event) (e : Event) → entries (b ++ e ∷ []) ≡ entries b ++ e.entry ∷ []
entries_push b e = map-append (λ (f : Event). f.entry) b (e ∷ [])

kept_from : (slots : ℕ) (b rest : List Event) → AllAgree (slots_after no_slots b) (counts_after no_slots (entries b))
    → EachFrom (λ before e. PoolStepBy slots (slots_after no_slots before) e.txn e.number e.what) b rest
    → EachFrom (λ before e. CountStep slots (counts_after no_slots before) e.txn e.what) (entries b) (entries rest)
kept_from slots b [] a f = tt
kept_from slots b (e ∷ rest) a f =
    let s = slots_after no_slots b in
    let c = counts_after no_slots (entries b) in
    let more : AllAgree (slots_after no_slots (b ++ e ∷ [])) (counts_after no_slots (entries (b ++ e ∷ []))) =
    subst (λ (t : Slots). AllAgree t (counts_after no_slots (entries (b ++ e ∷ [])))) (sym (slots_push no_slots b e))
    (subst (λ (t : Counts). AllAgree (slots_by s e.txn e.number e.what) t) (sym (ap (counts_after no_slots) (entries_push b e) ∙ counts_push no_slots (entries b) e.entry))
    (after_agrees slots s c a e.txn e.number e.what f.0)) in (
      step_agrees slots s c a e.txn e.number e.what f.0,
      subst (λ (l : List Entry). EachFrom (λ before e. CountStep slots (counts_after no_slots before) e.txn e.what) l (entries rest)) (entries_push b e) (kept_from slots (b ++ e ∷ []) rest more f.1),
    )

pub counted : (slots : ℕ) (log : List Event) → IsPoolLog slots log → KeepsCounts slots (entries log)
counted slots log f = kept_from slots [] log (λ k. tt) f

-- one Take
no_takes : (x : TxnId) (l : List Event) → ¬ Finds (Among l) (IsTakeOf x) → takes x (entries l) ≡ 0
no_takes x [] f = refl
no_takes x (e ∷ l) f = go (no_takes x l (λ g. f (record { event = g.event; known = inr g.known; is = g.is }))) (is_txn x e.txn) refl e.what refl
  where
    go : takes x (entries l) ≡ 0 → (b : Bool) → is_txn x e.txn ≡ b → (v : What) → e.what ≡ v → take_by b v + takes x (entries l) ≡ 0
    go rest true q (Take k) v = absurd (f (record { event = e; known = inl refl; is = record { txn = same_txn x e.txn q; slot = k; what = v } }))
    go rest true q (Accessed way access status got) v = omega arith
    go rest true q (Granted g a b k) v = omega arith
    go rest true q (Invalidated a b) v = omega arith
    go rest true q (Closed g) v = omega arith
    go rest true q (Call p a) v = omega arith
    go rest true q (Acquire k) v = omega arith
    go rest true q (Release k d) v = omega arith
    go rest false q v r = omega arith

each_more : (P : List Event → Event → Type 0) (Q : List Entry → Entry → Type 0) → ((before : List Event) (e : Event) → P before e → Q (entries before) e.entry) → (b rest : List Event) → EachFrom P b rest → EachFrom Q (entries b) (entries rest)
each_more P Q f b [] a = tt
each_more P Q f b (e ∷ rest) a = (f b e a.0, subst (λ (l : List Entry). EachFrom Q l (entries rest)) (entries_push b e) (each_more P Q f (b ++ e ∷ []) rest a.1))

pub taken_once : (log : List Event) → TakesOnce log → TakesAtMostOnce (entries log)
taken_once log f = each_more _ _ here [] log f
  where
    take_of : (v : What) (e : Event) → e.what ≡ v → take_by true v ≡ 1 → IsTakeOf e.txn e
    take_of (Take k) e v q = record { txn = refl; slot = k; what = v }
    take_of (Accessed way access status got) e v q = absurd (omega arith)
    take_of (Granted g a b k) e v q = absurd (omega arith)
    take_of (Invalidated a b) e v q = absurd (omega arith)
    take_of (Closed g) e v q = absurd (omega arith)
    take_of (Call p a) e v q = absurd (omega arith)
    take_of (Acquire k) e v q = absurd (omega arith)
    take_of (Release k d) e v q = absurd (omega arith)

    here : (before : List Event) (e : Event) → ((x : TxnId) → IsTakeOf x e → ¬ Finds (Among before) (IsTakeOf x)) → take_by true e.what ≡ 1 → takes e.txn (entries before) ≡ 0
    here before e once q = no_takes e.txn before (once e.txn (take_of e.what e refl q))
