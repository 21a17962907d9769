-- The end of a core over a net: its actors have left what they have, and the outcome is cut back.
use Rattle.std.proofs.Common.{Result, ◌≡◌, ℕ, zero, suc, ◌+◌, ◌<◌, ◌≤◌, Bool, true, false, List, [], ◌∷◌, ◌++◌, length, take, replicate, Option, Some, Ok, Err, refl, sym, ap, subst, ◌∙◌, inl, inr, arith, length-append}
use Rattle.std.specs.Prelude.{IfOk, slice_get}
use Rattle.std.proofs.lemmas.Bool.{false≢true}
use Rattle.std.proofs.lemmas.List.{length-map, length-replicate, take-map}
use mathlib.Core.Option.{some, some-injective, some-ne-none}
use lib.ListN.{get_elem?}
use Rattle.atomic_table.specs.Seated.{TableId}
use Rattle.view_lists.specs.Lists.{Has, Within}
use Rattle.one_history.specs.declared.entry.Entry.{Entry as HistoryEntry}
use Rattle.one_history.specs.declared.view.Frame.{Frame}
use Rattle.one_history.specs.Closing.{Numbered}
use Rattle.one_history.specs.Held.{Held}
use Rattle.one_history.specs.Seats.{AreNotes, Tell}
use Rattle.shared_object.specs.Steps.{IsNote}
use Rattle.one_history.proofs.Alike.{begin_alike}
use Rattle.token_book.specs.Purse.{Purse}
use Rattle.tlm_types.specs.declared.ends.EndOf.{EndOf}
use Rattle.tlm_types.specs.declared.words.Memory.{Memory}
use Rattle.tlm_types.specs.declared.entry.Content.{Content}
use Rattle.tlm_types.specs.declared.entry.Entry.{Entry}
use Rattle.tlm_model.specs.declared.platform.Platform.{Platform}
use Rattle.tlm_model.specs.History.{last_store}
use Rattle.tlm_model.specs.Plan.{Plan}
use Rattle.report_model.specs.Ends.{IsEndOf}
use Rattle.good_history.specs.Good.{IsSound}
use Rattle.net_end.specs.Leaves.{IsFinished}
use Rattle.plat_end.specs.End.{AreFinished}
use Rattle.plat_end.specs.Entries.{entries_read, entry_read}
use Rattle.plat_end.specs.Run.{IsCoreRun}
use Rattle.run_outcome.specs.declared.outcome.Outcome.{Outcome}
use Rattle.run_outcome.specs.Outcome.{IsWhole}
use Rattle.run_outcome.proofs.ListLemmas.{at_push, at_taken, take_all, within}
use Rattle.store_replay.specs.Replay.{AreStoresAfter, StoresFollow}
use Rattle.stepped_actors.specs.declared.actor.SteppedActor.{SteppedActor}
use Rattle.plat_core.specs.Core.{all_true}
use Rattle.plat_core.proofs.ReportLemmas.{flag_of_all}
use Rattle.plat_core.specs.Rounds.{KeepsRoundsOf}
use Rattle.plat_core.specs.NetCore.{IsActor, IsNetCore, NetView, history_in, known_by, known_in}
use Rattle.plat_core.specs.declared.net_schedule.SoFar.{SoFar}
use Rattle.plat_core.specs.NetOutcome.{TellsSoFar, HasToLeave, HaveLeftBy, HaveToLeave, IsCut, IsCutBack, TellsOf}

pub have_to_leave : (table tokens : TableId) (frame : Frame Plan) (v : NetView) (made : ℕ) (note : Held Content Plan) (actors : List SteppedActor) → IsNetCore table tokens frame v made → v.note ≡ Some note → all_true v.finished ≡ true → actors ≡ take (length v.finished) v.actors → HaveToLeave table tokens frame note actors
have_to_leave table tokens frame v made note actors core is all taken = subst (HaveToLeave table tokens frame note) (sym taken) (λ k a at.
    let short = within (take (length v.finished) v.actors) k a at in
    let here : slice_get v.actors k ≡ Some a = sym (at_taken (length v.finished) v.actors k short) ∙ at in
    let same : core.its_note ≡ note = same_note (sym core.has_note ∙ is) in
    let i : IsActor table tokens frame v note k a = subst (λ (m : Held Content Plan). IsActor table tokens frame v m k a) same (core.each k a here) in
    record { number = i.number; keeps = i.keeps; ended = i.ended (flag_of_all v.finished k all (few k a at)) })
  where
    same_note : {x y : Held Content Plan} → Some x ≡ Some y → x ≡ y
    same_note q = cc

    few : (k : ℕ) (a : SteppedActor) → slice_get (take (length v.finished) v.actors) k ≡ Some a → k < length v.finished
    few k a at = shorter (length v.finished) v.actors k a at
      where
        shorter : {X : Type 0} (n : ℕ) (xs : List X) (k : ℕ) (x : X) → slice_get (take n xs) k ≡ Some x → k < n
        shorter zero xs k x at = cc
        shorter (suc n) [] k x at = cc
        shorter (suc n) (y ∷ xs) zero x at = omega arith
        shorter (suc n) (y ∷ xs) (suc k) x at = let less = shorter n xs k x at in omega arith

-- what stands at a place may leave
pub to_leave : (table tokens : TableId) (frame : Frame Plan) (note : Held Content Plan) (actors : List SteppedActor) (k : ℕ) (a : SteppedActor) → HaveToLeave table tokens frame note actors → get_elem? actors k ≡ some a → HasToLeave table tokens frame note k a
to_leave table tokens frame note actors k a leave at = leave k a (stands actors k a at)
  where
    stands : {X : Type 0} (xs : List X) (k : ℕ) (x : X) → get_elem? xs k ≡ some x → slice_get xs k ≡ Some x
    stands [] k x at = absurd (some-ne-none x (sym at))
    stands (y ∷ xs) zero x at = ap (λ z. Some z) (some-injective y x at)
    stands (y ∷ xs) (suc k) x at = stands xs k x at

-- one more has left
pub left_more : (table tokens : TableId) (p : Plan) (n m : ℕ) (note : Held Content Plan) (ends more_ends : List EndOf) (wallets more_wallets : List Purse) (end : EndOf) (wallet : Purse) → m ≡ n + 1 → more_ends ≡ ends ++ end ∷ [] → more_wallets ≡ wallets ++ wallet ∷ []
    → HaveLeftBy table tokens p n note ends wallets → IsFinished table tokens p n end note wallet → HaveLeftBy table tokens p m note more_ends more_wallets
left_more table tokens p n m note ends more_ends wallets more_wallets end wallet one ends_are wallets_are left is = record {
  ends_count = ap length ends_are ∙ (length-append ends (end ∷ []) ∙ (ap (λ (k : ℕ). k + 1) left.ends_count ∙ sym one));
  wallets_count = ap length wallets_are ∙ (length-append wallets (wallet ∷ []) ∙ (ap (λ (k : ℕ). k + 1) left.wallets_count ∙ sym one));
  each = λ k e w at_end at_wallet.
      let a = left.ends_count in
      let b = left.wallets_count in
      elim (at_push ends end k e (ap (λ (l : List EndOf). slice_get l k) (sym ends_are) ∙ at_end)) [
        | inl early ↦ elim (at_push wallets wallet k w (ap (λ (l : List Purse). slice_get l k) (sym wallets_are) ∙ at_wallet)) [
          | inl soon ↦ left.each k e w early soon
          | inr late ↦ let less = within ends k e early in let q = late.0 in absurd (omega arith)
        ]
        | inr last ↦ elim (at_push wallets wallet k w (ap (λ (l : List Purse). slice_get l k) (sym wallets_are) ∙ at_wallet)) [
          | inl soon ↦ let less = within wallets k w soon in let q = last.0 in absurd (omega arith)
          | inr late ↦
              let place : n ≡ k = let q = last.0 in omega arith in
              subst (λ (j : ℕ). IsFinished table tokens p j e note w) place (subst (λ (x : EndOf). IsFinished table tokens p n x note w) last.1 (subst (λ (x : Purse). IsFinished table tokens p n end note x) late.1 is))
        ]
      ];
}

pub none_left : (table tokens : TableId) (p : Plan) (note : Held Content Plan) (ends : List EndOf) (wallets : List Purse) → length ends ≡ 0 → length wallets ≡ 0 → HaveLeftBy table tokens p 0 note ends wallets
none_left table tokens p note ends wallets no_end no_wallet = record {
  ends_count = no_end;
  wallets_count = no_wallet;
  each = λ k e w at_end at_wallet. let less = within ends k e at_end in absurd (omega arith);
}

same_noted : (n : ℕ) (note m : Held Content Plan) (k : ℕ) → get_elem? (replicate n note) k ≡ some m → note ≡ m
same_noted zero note m k at = absurd (some-ne-none m (sym at))
same_noted (suc n) note m zero at = some-injective note m at
same_noted (suc n) note m (suc k) at = same_noted n note m k at

-- they had one note in turn
pub are_finished_by : (table tokens : TableId) (p : Plan) (n : ℕ) (note : Held Content Plan) (ends : List EndOf) (wallets : List Purse) → HaveLeftBy table tokens p n note ends wallets → AreFinished table tokens p n ends wallets (replicate n note)
are_finished_by table tokens p n note ends wallets left = record {
  ends_count = left.ends_count;
  wallets_count = left.wallets_count;
  notes_count = length-replicate n note;
  each = λ k e w m at_end at_wallet at_note. subst (λ (x : Held Content Plan). IsFinished table tokens p k e x w) (same_noted n note m k at_note) (left.each k e w at_end at_wallet);
}

pub told_by_one : (n : ℕ) (note : Held Content Plan) (notes : List (Held Content Plan)) → notes ≡ note ∷ [] → (k : ℕ) (m : Held Content Plan) → get_elem? (replicate n note) k ≡ some m → Has notes m
told_by_one n note notes is k m at = subst (λ (l : List (Held Content Plan)). Has l m) (sym is) (0, ap (λ (x : Held Content Plan). some x) (same_noted n note m k at))

pub note_of_one : (table : TableId) (note : Held Content Plan) (notes : List (Held Content Plan)) → notes ≡ note ∷ [] → IsNote table note → AreNotes table notes
note_of_one table note notes is of = subst (AreNotes table) (sym is) (λ k m at. at_one k m at)
  where
    at_one : (k : ℕ) (m : Held Content Plan) → get_elem? (note ∷ []) k ≡ some m → m.table ≡ table
    at_one zero m at = subst (λ (x : Held Content Plan). x.table ≡ table) (some-injective note m at) of.of
    at_one (suc k) m at = absurd (some-ne-none m (sym at))

-- a history that is closed begins with what one of its notes knew
pub tells_of : (p : Platform) (note : Held Content Plan) (notes : List (Held Content Plan)) (sealed : List (HistoryEntry Content)) (whole : List Entry) → notes ≡ note ∷ [] → Numbered sealed → Tell notes 0 sealed → entries_read p sealed ≡ whole → TellsOf p note.knows.known whole
tells_of p note notes sealed whole is numbered tell read es of within =
    let all : Within note.knows.known sealed = subst (λ (l : List (Held Content Plan)). Tell l 0 sealed) is tell 0 note (omega arith) refl in
    let begins : es ≡ take (length es) sealed = begin_alike es sealed of numbered (λ e has. all e (within e has)) in
    ap (entries_read p) begins ∙ (sym (take-map (entry_read p) (length es) sealed) ∙ ap (take (length es)) read)

-- what a core knew is a beginning of the whole history
pub few_cut : (p : Platform) (known : List (HistoryEntry Content)) (whole : List Entry) → entries_read p known ≡ take (length known) whole → length known ≤ length whole
few_cut p known whole begins = shorter (length known) whole (sym (ap length begins) ∙ length-map known (entry_read p))
  where
    shorter : {X : Type 0} (n : ℕ) (xs : List X) → length (take n xs) ≡ n → n ≤ length xs
    shorter zero xs same = omega arith
    shorter (suc n) [] same = omega arith
    shorter (suc n) (x ∷ xs) same = let less = shorter n xs (omega arith) in omega arith

-- what a core knows stands in order of positions
pub known_numbered : (table tokens : TableId) (frame : Frame Plan) (v now : NetView) (made : ℕ) → IsNetCore table tokens frame v made → v ≡ now → Numbered (known_in now)
known_numbered table tokens frame v now made core same = subst (λ (w : NetView). Numbered (known_in w)) same (subst (λ (o : Option (Held Content Plan)). Numbered (known_by o)) (sym core.has_note) core.all.numbered)

module _ (p : Plan) (last : NetView) (made : ℕ) (count : made ≡ length (known_in last)) (outcome : Outcome) (begins : history_in p last ≡ take (length (known_in last)) outcome.history.entries) (whole : IsWhole p outcome) (core : IsCoreRun p outcome.history.entries) (so_far : SoFar) (tells : TellsSoFar p last so_far) (replayed : StoresFollow) where
  cut_history : history_in p last ≡ take made outcome.history.entries
  cut_history = begins ∙ ap (λ (n : ℕ). take n outcome.history.entries) (sym count)

  cut_sound : IsSound p (history_in p last)
  cut_sound = subst (IsSound p) (sym cut_history) (core made)

  -- the stores that were made anew
  after : (result : Outcome) → IsCutBack false made so_far outcome result → AreStoresAfter p.platform result.history.entries result.stores
  after result cut = replayed p.platform result.history.entries so_far.stores result.stores tells.stores cut.2

  pub cut_is : (complete : Bool) (result : Outcome) → KeepsRoundsOf p (history_in p last) → complete ≡ all_true last.finished → IsCutBack complete made so_far outcome result → IsCut p last result
  cut_is true result rounds is cut = record {
    history = ap (λ (o : Outcome). o.history.entries) cut.0 ∙ (sym (take_all made outcome.history.entries (let long = cut.1 in omega arith)) ∙ sym cut_history);
    sound = cut_sound;
    rounds = rounds;
    complete = ap (λ (o : Outcome). o.complete) cut.0 ∙ (whole.complete ∙ is);
    whole = λ all. subst (IsWhole p) (sym cut.0) whole;
    memories = ap (λ (o : Outcome). length o.stores) cut.0 ∙ whole.reportable.memories;
    stores = λ m bytes at.
        whole.reportable.stores m bytes (ap (λ (o : Outcome). slice_get o.stores m) (sym cut.0) ∙ at)
        ∙ ap (λ (h : List Entry). last_store p.platform h m) (sym (take_all made outcome.history.entries (let long = cut.1 in omega arith)) ∙ sym cut_history);
    initiators = ap (λ (o : Outcome). length o.ends) cut.0 ∙ whole.reportable.initiators;
    ends = λ n i end flag at style here.
        subst (λ (h : List Entry). IsEndOf p i h end) (sym (take_all made outcome.history.entries (let long = cut.1 in omega arith)) ∙ sym cut_history)
        (whole.reportable.ends n i end at (ap (λ (o : Outcome). slice_get o.ends n) (sym cut.0) ∙ here));
  }
  cut_is false result rounds is cut = record {
    history = cut.1 ∙ sym cut_history;
    sound = cut_sound;
    rounds = rounds;
    complete = cut.0 ∙ is;
    whole = λ all. absurd (false≢true (is ∙ all));
    memories = (after result cut).count;
    stores = λ m bytes at. (after result cut).bytes m bytes at ∙ ap (λ (h : List Entry). last_store p.platform h m) (cut.1 ∙ sym cut_history);
    initiators = ap length cut.3 ∙ tells.ends.count;
    ends = λ n i end flag at style here. tells.ends.each cut_sound n i end flag at style (ap (λ (l : List EndOf). slice_get l n) (sym cut.3) ∙ here);
  }

  pub cut_is_so : (r : Result Outcome Memory) (complete : Bool) → KeepsRoundsOf p (history_in p last) → complete ≡ all_true last.finished → IfOk r (IsCutBack complete made so_far outcome) → IfOk r (IsCut p last)
  cut_is_so (Ok result) complete rounds is cut = cut_is complete result rounds is cut
  cut_is_so (Err e) complete rounds is cut = tt
