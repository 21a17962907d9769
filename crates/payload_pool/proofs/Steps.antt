-- The slots and the log after one more entry.
use Rattle.std.proofs.Common.{◌≡◌, ℕ, ◌+◌, ◌<◌, ◌≤◌, ◌==◌, Bool, true, false, cond, List, [], ◌∷◌, ◌++◌, length, Option, Some, refl, sym, ap, ◌∙◌, subst, ⊎_elim, arith, set, length-set}
use Rattle.std.specs.Prelude.{IsSome}
use Rattle.std.specs.List.{All}
use Rattle.std.proofs.lemmas.Bool.{cases_eq, cond-true, cond-false, eq-eqb, ne_eqb, eqb-true, eqb-false}
use Rattle.std.proofs.lemmas.List.{get_or-set_same, get_or-set_other, nil_from_length}
use Rattle.std.proofs.lemmas.List.Quantifiers.{all_pairs_push}
use Rattle.tlm_types.specs.declared.words.ObjectNo.{ObjectNo}
use Rattle.tlm_types.specs.declared.words.TxnId.{TxnId}
use Rattle.tlm_types.specs.declared.entry.What.{What}
use Rattle.tlm_types.specs.declared.entry.What.TheVariants.{Take, Acquire, Release}
use Rattle.tlm_model.proofs.EachLemmas.{AtEach-push}
use Rattle.flow_model.specs.Events.{Event}
use Rattle.flow_model.specs.Pools.{Life, Slots, PoolStepBy, IsPoolLog, slots_after, slots_by, fewer, more}
use Rattle.flow_model.specs.Slots.{no_slots}
use Rattle.numbered_log.specs.Logged.{event_of, IsBefore}
use Rattle.payload_pool.specs.Slots.{SlotView, slot_at, tally, without, taken_slot, acquired_more, given_back}
use Rattle.payload_pool.specs.Lives.{IsOfLog, FitsLog, no_takes, takes_after, takes_by}
use Rattle.payload_pool.proofs.Tallies.{length_without, tally_few}
use Rattle.payload_pool.proofs.Lives.{HasLife, free_life, live_life, first_life, more_life, less_life, acquire_step, release_step}

slots_push : (s : Slots) (l : List Event) (e : Event) → slots_after s (l ++ e ∷ []) ≡ slots_by (slots_after s l) e.txn e.number e.what
slots_push s [] e = refl
slots_push s (x ∷ l) e = slots_push (slots_by s x.txn x.number x.what) l e

takes_push : (at : ℕ → ℕ) (l : List Event) (e : Event) → takes_after at (l ++ e ∷ []) ≡ takes_by (takes_after at l) e.position e.what
takes_push at [] e = refl
takes_push at (x ∷ l) e = takes_push (takes_by at x.position x.what) l e

like : (s t : SlotView) (m n : ℕ) (o u : Option Life) → s ≡ t → m ≡ n → o ≡ u → IsOfLog t n u → IsOfLog s m o
like s t m n o u p q r h =
    let a : IsOfLog s n u = subst (λ (x : SlotView). IsOfLog x n u) (sym p) h in
    let b : IsOfLog s m u = subst (λ (k : ℕ). IsOfLog s k u) (sym q) a in
    subst (λ (x : Option Life). IsOfLog s m x) (sym r) b

-- the log after an entry that changes one slot
record Changes (slots : List SlotView) (events : List Event) (k : ℕ) (next : SlotView) (e : Event) : Type 0 where
  pub below : k < length slots
  pub past : All (λ (y : Event). y.position < e.position) events
  pub step : PoolStepBy (length slots) (slots_after no_slots events) e.txn e.number e.what
  pub others : (j : ℕ) → (j ≡ k → ⊥) → slots_by (slots_after no_slots events) e.txn e.number e.what j ≡ slots_after no_slots events j
  pub other_takes : (j : ℕ) → (j ≡ k → ⊥) → takes_by (takes_after no_takes events) e.position e.what j ≡ takes_after no_takes events j
  pub here : IsOfLog next (takes_by (takes_after no_takes events) e.position e.what k) (slots_by (slots_after no_slots events) e.txn e.number e.what k)

fits_changed : (slots : List SlotView) (events : List Event) (k : ℕ) (next : SlotView) (e : Event) → FitsLog slots events → Changes slots events k next e → FitsLog (set slots k next) (events ++ e ∷ [])
fits_changed slots events k next e f c =
    let more = events ++ e ∷ [] in
    let put = set slots k next in
    let taken = takes_push no_takes events e in
    let lived = slots_push no_slots events e in
    let Is : ℕ → Type 0 = λ j. IsOfLog (slot_at put j) (takes_after no_takes more j) (slots_after no_slots more j) in
    let here : Is k = like (slot_at put k) next (takes_after no_takes more k) (takes_by (takes_after no_takes events) e.position e.what k) (slots_after no_slots more k) (slots_by (slots_after no_slots events) e.txn e.number e.what k)
    (get_or-set_same slots k next _ c.below) (ap (λ (t : ℕ → ℕ). t k) taken) (ap (λ (t : Slots). t k) lived) c.here in
    record {
      steps =
          let step = AtEach-push (λ (before : List Event) (x : Event). PoolStepBy (length slots) (slots_after no_slots before) x.txn x.number x.what) events e f.steps c.step in
          subst (λ (n : ℕ). IsPoolLog n more) (sym (length-set slots k next)) step;
      lives = λ j.
          ⊎_elim
          (λ (same : j ≡ k). subst Is (sym same) here)
          (λ (other : j ≡ k → ⊥).
          like (slot_at put j) (slot_at slots j) (takes_after no_takes more j) (takes_after no_takes events j) (slots_after no_slots more j) (slots_after no_slots events j)
          (get_or-set_other slots k j next _ other) (ap (λ (t : ℕ → ℕ). t j) taken ∙ c.other_takes j other) (ap (λ (t : Slots). t j) lived ∙ c.others j other) (f.lives j))
          (cases_eq j k);
      ordered = all_pairs_push IsBefore events e f.ordered (λ i d b. c.past i d b);
    }

module _ {X : Type 0} where
  put_same : (k : ℕ) (x y : X) → cond (k == k) x y ≡ x
  put_same k x y = cond-true (k == k) x y (eq-eqb k k refl)

  put_other : (k j : ℕ) (x y : X) → (j ≡ k → ⊥) → cond (j == k) x y ≡ y
  put_other k j x y other = cond-false (j == k) x y (ne_eqb j k other)

-- an entry of the pool
abbrev entry_by : ℕ → ObjectNo → TxnId → ℕ → What → ℕ → Event
entry_by position object txn time what number = event_of (record { position = position; object = object; txn = txn; time = time; what = what }) number

module _ (slots : List SlotView) (events : List Event) (f : FitsLog slots events) (k : ℕ) (below : k < length slots) where
  abbrev lives : Slots
  lives = slots_after no_slots events

  abbrev takes : ℕ → ℕ
  takes = takes_after no_takes events

  pub fits_take : (position : ℕ) (o : ObjectNo) (x : TxnId) (time : ℕ) → All (λ (y : Event). y.position < position) events → length (slot_at slots k).out ≡ 0 → ((j : ℕ) → j < k → 0 < length (slot_at slots j).out)
      → FitsLog (set slots k (taken_slot x position)) (events ++ entry_by position o x time (Take k) 0 ∷ [])
  fits_take position o x time past free least =
      fits_changed slots events k (taken_slot x position) (entry_by position o x time (Take k) 0) f (record {
        below = below;
        past = past;
        step = record {
          below = below;
          free = free_life (slot_at slots k) (takes k) (lives k) free (f.lives k);
          least = λ j h. let l = live_life (slot_at slots j) (takes j) (lives j) (least j h) (f.lives j) in subst (λ (o : Option Life). IsSome o) (sym l.is) refl;
        };
        others = λ j other. put_other k j _ _ other;
        other_takes = λ j other. put_other k j _ _ other;
        here =
            like (taken_slot x position) (taken_slot x position) (cond (k == k) position (takes k)) position (cond (k == k) (Some (record { txn = x; acquired = 0; released = [] })) (lives k)) (Some (record { txn = x; acquired = 0; released = [] }))
            refl (put_same k position (takes k)) (put_same k _ _) (first_life x position, refl);
      })

  pub fits_acquire : (position : ℕ) (o : ObjectNo) (time n : ℕ) → All (λ (y : Event). y.position < position) events → 0 < length (slot_at slots k).out → (slot_at slots k).acquired < 15 → n ≡ (slot_at slots k).acquired
      → FitsLog (set slots k (acquired_more (slot_at slots k))) (events ++ entry_by position o (slot_at slots k).txn time (Acquire k) n ∷ [])
  fits_acquire position o time n past live few number =
      let s = slot_at slots k in
      let h = live_life s (takes k) (lives k) live (f.lives k) in
      let l = h.life in
      fits_changed slots events k (acquired_more s) (entry_by position o s.txn time (Acquire k) n) f (record {
        below = below;
        past = past;
        step = acquire_step lives k s (takes k) n h few number;
        others = λ j other. put_other k j _ _ other;
        other_takes = λ j other. refl;
        here =
            like (acquired_more s) (acquired_more s) (takes k) (takes k) (cond (k == k) (more (lives k)) (lives k)) (Some (record { txn = l.txn; acquired = l.acquired + 1; released = l.released }))
            refl refl (put_same k _ _ ∙ ap more h.is) (more_life s l h.of few, h.at);
      })

  -- the slot is free where the last reference was given back
  given_life : (s : SlotView) (n : ℕ) (kept : Option ℕ) (h : HasLife s (takes k) (lives k)) → 1 ≤ tally n s.out → (b : Bool) → (length s.out == 1) ≡ b
      → IsOfLog (given_back n kept s) (takes k) (fewer (Some h.life) n b)
  given_life s n kept h some true e =
      let one = length_without n s.out some in
      let count = eqb-true (length s.out) 1 e in
      nil_from_length (without n s.out) (omega arith)
  given_life s n kept h some false e =
      let count = eqb-false (length s.out) 1 e in
      let live = h.of.live in
      (less_life s h.life n kept h.of some (grind arith), h.at)

  pub fits_release : (position : ℕ) (o : ObjectNo) (time n : ℕ) (kept : Option ℕ) → All (λ (y : Event). y.position < position) events → 1 ≤ tally n (slot_at slots k).out
      → FitsLog (set slots k (given_back n kept (slot_at slots k))) (events ++ entry_by position o (slot_at slots k).txn time (Release k (length (slot_at slots k).out == 1)) n ∷ [])
  fits_release position o time n kept past some =
      let s = slot_at slots k in
      let many = tally_few n s.out in
      let h = live_life s (takes k) (lives k) (omega arith) (f.lives k) in
      let b = length s.out == 1 in
      fits_changed slots events k (given_back n kept s) (entry_by position o s.txn time (Release k b) n) f (record {
        below = below;
        past = past;
        step = release_step lives k s (takes k) n h some;
        others = λ j other. put_other k j _ _ other;
        other_takes = λ j other. refl;
        here =
            like (given_back n kept s) (given_back n kept s) (takes k) (takes k) (cond (k == k) (fewer (lives k) n b) (lives k)) (fewer (Some h.life) n b)
            refl refl (put_same k _ _ ∙ ap (λ (t : Option Life). fewer t n b) h.is) (given_life s n kept h some b refl);
      })
