-- One more entry of a history, and a history's beginning.
use Rattle.std.proofs.Common.{◌≡◌, ℕ, zero, suc, ◌+◌, List, [], ◌∷◌, ◌++◌, length, Some, slice_get, subst, arith}
use Rattle.std.specs.List.{AllByRecursion}
use Rattle.tlm_types.specs.declared.entry.Entry.{Entry}
use Rattle.tlm_model.specs.declared.platform.Platform.{Platform}
use Rattle.tlm_model.specs.Kept.{KeepsRequests}
use Rattle.tlm_model.specs.History.{Store, after, IsNumberedFrom, IsLegalFrom, opening_store}
use Rattle.tlm_model.specs.Plan.{Plan}
use Rattle.tlm_model.proofs.EachLemmas.{AtEach-front}

pub AllByRecursion-push : {X : Type 0} (P : X → Type 0) (xs : List X) (x : X) → AllByRecursion P xs → P x → AllByRecursion P (xs ++ x ∷ [])
AllByRecursion-push P [] x h p = (p, h)
AllByRecursion-push P (y ∷ xs) x h p = (h.0, AllByRecursion-push P xs x h.1 p)

pub AllByRecursion-weaker : {X : Type 0} (P Q : X → Type 0) (xs : List X) → ((x : X) → P x → Q x) → AllByRecursion P xs → AllByRecursion Q xs
AllByRecursion-weaker P Q [] f h = h
AllByRecursion-weaker P Q (x ∷ xs) f h = (f x h.0, AllByRecursion-weaker P Q xs f h.1)

-- what holds of each holds of the one at place k
pub all_at : {X : Type 0} (P : X → Type 0) (xs : List X) (k : ℕ) (x : X) → AllByRecursion P xs → slice_get xs k ≡ Some x → P x
all_at P [] k x a q = cc
all_at P (y ∷ xs) zero x a q = subst P (some_same y x q) a.0
  where
    some_same : {X : Type 0} (a b : X) → Some a ≡ Some b → a ≡ b
    some_same a b q = cc
all_at P (y ∷ xs) (suc k) x a q = all_at P xs k x a.1 q

pub IsNumberedFrom-push : (n : ℕ) (h : List Entry) (e : Entry) → IsNumberedFrom n h → e.position ≡ n + length h → IsNumberedFrom n (h ++ e ∷ [])
IsNumberedFrom-push n [] e i p = (omega arith, tt)
IsNumberedFrom-push n (x ∷ h) e i p = (i.0, IsNumberedFrom-push (n + 1) h e i.1 (omega arith))

IsNumberedFrom-front : (n : ℕ) (h m : List Entry) → IsNumberedFrom n (h ++ m) → IsNumberedFrom n h
IsNumberedFrom-front n [] m i = tt
IsNumberedFrom-front n (e ∷ h) m i = (i.0, IsNumberedFrom-front (n + 1) h m i.1)

IsLegalFrom-front : (p : Platform) (s : Store) (h m : List Entry) → IsLegalFrom p s (h ++ m) → IsLegalFrom p s h
IsLegalFrom-front p s [] m l = tt
IsLegalFrom-front p s (e ∷ h) m l = (l.0, IsLegalFrom-front p (after e.object e.what s) h m l.1)

-- each beginning of a history that has the points of requests has them
pub KeepsRequests-front : (p : Plan) (h m : List Entry) → KeepsRequests p (h ++ m) → KeepsRequests p h
KeepsRequests-front p h m s = record {
  numbered = IsNumberedFrom-front 0 h m s.numbered;
  legal = IsLegalFrom-front p.platform (opening_store p.platform) h m s.legal;
  scripts = record {
    replies = AtEach-front _ h m s.scripts.replies;
    ways = AtEach-front _ h m s.scripts.ways;
    order = AtEach-front _ h m s.scripts.order;
    places = AtEach-front _ h m s.scripts.places;
  };
  times = AtEach-front _ h m s.times;
}
