-- A memory stays consistent with one more access.
use Rattle.std.proofs.Common.{◌≡◌, ℕ, ◌+◌, ◌-◌, ◌<◌, IsTrue, true, false, List, [], ◌∷◌, ◌++◌, length, refl, sym, ap, ◌∙◌, arith}
use Rattle.std.specs.Prelude.{slice_set}
use Rattle.tlm_model.specs.Log.{bytes_after, log_bytes, AnswersByBytes}
use Rattle.std.proofs.lemmas.List.Elements.{All-append, All-cons, All-nil}
use Rattle.tlm_types.specs.declared.words.MemoryTraits.{MemoryTraits}
use Rattle.tlm_types.specs.declared.words.ObjectNo.TheVariants.{Memory}
use Rattle.tlm_types.specs.declared.words.Way.{Way}
use Rattle.tlm_types.specs.declared.entry.Access.{Access}
use Rattle.tlm_types.specs.declared.entry.Entry.{Entry}
use Rattle.tlm_types.specs.declared.entry.Head.{Head}
use Rattle.tlm_types.specs.Entries.{entry_at}
use Rattle.tlm_model.specs.Store.{zeros, status_of, store_after}
use Rattle.tlm_model.proofs.LogLemmas.{bytes_from-push, IsLogFrom-push}
use Rattle.tlm_types.specs.declared.entry.What.{What}
use Rattle.tlm_types.specs.declared.entry.What.TheVariants.{Granted, Invalidated, Closed}
use Rattle.tlm_types.specs.Traits.{allowed_kind}
use Rattle.tlm_model.proofs.EachLemmas.{AtEach-push}
use Rattle.region_object.specs.declared.gates.Gate.TheVariants.{Given, Shut}
use Rattle.region_object.specs.Gates.{GatesView, HoldsGates}
use Rattle.region_object.specs.Grants.{IsGrantStep, is_given, is_closed}
use Rattle.region_object.specs.Region.{IsConsistent, answered}
use Rattle.region_object.proofs.GateLemmas.{holds_quiet, holds_given, holds_shut}

-- a memory that gave an access its answer is consistent with the entry that tells it
pub IsConsistent-push : (number : ℕ) (m : MemoryTraits) (bytes bytes' : List ℕ) (gates : GatesView) (log : List Entry) (head : Head) (way : Way) (a : Access) → head.object ≡ Memory number → IsConsistent number m bytes gates log → bytes' ≡ store_after way (status_of m way a) a bytes → length bytes' ≡ length bytes → IsConsistent number m bytes' gates (log ++ entry_at head (answered m log way a) ∷ [])
IsConsistent-push number m bytes bytes' gates log head way a here before after size =
    let e = entry_at head (answered m log way a) in
    record {
      bytes_are = rw (bytes_from-push (zeros m.size) log e) (after ∙ ap (store_after way (status_of m way a) a) before.bytes_are);
      size_is = size ∙ before.size_is;
      lawful = IsLogFrom-push m (zeros m.size) log e before.lawful (refl, refl);
      granted = AtEach-push (λ xs x. IsGrantStep gates.first m xs x.what) log e before.granted tt;
      holds = holds_quiet m gates log before.holds e refl (λ g. (refl, refl));
      own = let P : Entry → Type 0 = λ x. x.object ≡ Memory number in All-append P log (e ∷ []) before.own (All-cons P e [] here (All-nil P));
    }

module _ (number : ℕ) (m : MemoryTraits) (bytes : List ℕ) (gates : GatesView) (log : List Entry) (before : IsConsistent number m bytes gates log) (head : Head) (here : head.object ≡ Memory number) where
  -- an entry that isn't an access leaves the bytes
  told : (what : What) (after : GatesView) → after.first ≡ gates.first → bytes_after what bytes ≡ bytes → AnswersByBytes m (log_bytes m log) what → bytes_after what (log_bytes m log) ≡ log_bytes m log → IsGrantStep gates.first m log what → HoldsGates m after (log ++ entry_at head what ∷ []) → IsConsistent number m bytes after (log ++ entry_at head what ∷ [])
  told what after first same answers stays step holds =
      let e = entry_at head what in
      record {
        bytes_are = rw (bytes_from-push (zeros m.size) log e) (before.bytes_are ∙ sym stays);
        size_is = before.size_is;
        lawful = IsLogFrom-push m (zeros m.size) log e before.lawful answers;
        granted = rw first (AtEach-push (λ xs x. IsGrantStep gates.first m xs x.what) log e before.granted step);
        holds = holds;
        own = let P : Entry → Type 0 = λ x. x.object ≡ Memory number in All-append P log (e ∷ []) before.own (All-cons P e [] here (All-nil P));
      }

  pub tells_invalidation : (first last : ℕ) → IsConsistent number m bytes gates (log ++ entry_at head (Invalidated first last) ∷ [])
  tells_invalidation first last = told (Invalidated first last) gates refl refl tt refl tt (holds_quiet m gates log before.holds (entry_at head (Invalidated first last)) refl (λ g. (refl, refl)))

  pub tells_grant : m.dmi ≡ true → gates.given < length gates.gates → IsConsistent number m bytes (record { first = gates.first; gates = slice_set gates.gates gates.given (Given head.position); given = gates.given + 1 }) (log ++ entry_at head (Granted (gates.first + gates.given) 0 (m.size - 1) (allowed_kind m.readable m.writable)) ∷ [])
  tells_grant dmi left =
      let h = before.holds in
      told (Granted (gates.first + gates.given) 0 (m.size - 1) (allowed_kind m.readable m.writable)) (record { first = gates.first; gates = slice_set gates.gates gates.given (Given head.position); given = gates.given + 1 }) refl refl tt refl
      ((let c = h.count in omega arith), (let c = h.count in let l = h.long in omega arith), refl, refl, refl, dmi)
      (holds_given m gates log h head (allowed_kind m.readable m.writable) left)

  pub tells_closing : (gate : ℕ) → IsTrue (is_given gate log) → is_closed gate log ≡ false → IsConsistent number m bytes (record { first = gates.first; gates = slice_set gates.gates (gate - gates.first) Shut; given = gates.given }) (log ++ entry_at head (Closed gate) ∷ [])
  tells_closing gate given fresh =
      told (Closed gate) (record { first = gates.first; gates = slice_set gates.gates (gate - gates.first) Shut; given = gates.given }) refl refl tt refl (given, fresh) (holds_shut m gates log before.holds head gate given)
