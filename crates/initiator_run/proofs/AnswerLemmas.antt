-- What a history has answered, as it grows.
use Rattle.std.proofs.Common.{◌≡◌, ℕ, List, [], ◌∷◌, ◌++◌, Option, None, Bool, true, false, ◌||◌, ◌&&◌, cond, is_none, refl, ap, ◌∙◌}
use Rattle.std.specs.List.{list_all}
use Rattle.std.proofs.lemmas.List.Folds.{list_any-append}
use Rattle.tlm_types.specs.declared.entry.Entry.{Entry}
use Rattle.tlm_types.specs.declared.entry.What.{What}
use Rattle.tlm_types.specs.declared.entry.What.TheVariants.{Access as Accessed, Granted, Invalidated, Closed, Call, Take, Acquire, Release}
use Rattle.tlm_model.specs.declared.platform.Platform.{Platform}
use Rattle.tlm_model.specs.Plan.{Initiator}
use Rattle.tlm_model.specs.Requests.{Request, is_txn, got_in, first_of_two, answered}
use Rattle.tlm_model.specs.Route.{route_of}
use Rattle.tlm_model.specs.Scripts.{is_answer, has_answer, is_settled}

-- an answer stays
pub has_answer-more : (i s : ℕ) (h m : List Entry) → has_answer i s h ≡ true → has_answer i s (h ++ m) ≡ true
has_answer-more i s h m is =
    list_any-append (λ (e : Entry). is_txn i s e.txn && is_answer e.what) h m
    ∙ ap (λ (b : Bool). b || has_answer i s m) is

-- an entry of another transaction answers nothing
pub has_answer-other : (i s : ℕ) (h : List Entry) (e : Entry) → is_txn i s e.txn ≡ false → has_answer i s (h ++ e ∷ []) ≡ has_answer i s h
has_answer-other i s h e other =
    list_any-append (λ (x : Entry). is_txn i s x.txn && is_answer x.what) h (e ∷ [])
    ∙ (ap (λ (b : Bool). has_answer i s h || ((b && is_answer e.what) || false)) other ∙ or_false (has_answer i s h))
  where
    or_false : (b : Bool) → b || false ≡ b
    or_false true = refl
    or_false false = refl

-- the answer of a transaction
pub has_answer-own : (i s : ℕ) (h : List Entry) (e : Entry) → is_txn i s e.txn ≡ true → is_answer e.what ≡ true → has_answer i s (h ++ e ∷ []) ≡ true
has_answer-own i s h e own answer =
    list_any-append (λ (x : Entry). is_txn i s x.txn && is_answer x.what) h (e ∷ [])
    ∙ (ap (λ (b : Bool). has_answer i s h || ((b && is_answer e.what) || false)) own
    ∙ (ap (λ (b : Bool). has_answer i s h || (b || false)) answer ∙ or_true (has_answer i s h)))
  where
    or_true : (b : Bool) → b || true ≡ true
    or_true true = refl
    or_true false = refl

settled_by : (none before after : Bool) → (before ≡ true → after ≡ true) → none || before ≡ true → none || after ≡ true
settled_by true before after f is = refl
settled_by false before after f is = f is

-- what is settled stays settled
pub is_settled-more : (p : Platform) (i : Initiator) (h m : List Entry) (r : Request) → is_settled p i h r ≡ true → is_settled p i (h ++ m) r ≡ true
is_settled-more p i h m r is =
    settled_by (is_none (route_of p i r.address)) (has_answer i.number r.seq h) (has_answer i.number r.seq (h ++ m)) (has_answer-more i.number r.seq h m) is

pub and_left : (a b : Bool) → a && b ≡ true → a ≡ true
and_left true b is = refl
and_left false b is = is

pub and_right : (a b : Bool) → a && b ≡ true → b ≡ true
and_right true b is = is
and_right false b is = cc

pub and_true : (a b : Bool) → a ≡ true → b ≡ true → a && b ≡ true
and_true a b x y = ap (λ (c : Bool). c && b) x ∙ y

pub all_settled-more : (p : Platform) (i : Initiator) (h m : List Entry) (rs : List Request) → list_all (is_settled p i h) rs ≡ true → list_all (is_settled p i (h ++ m)) rs ≡ true
all_settled-more p i h m [] is = refl
all_settled-more p i h m (r ∷ rs) is =
    and_true (is_settled p i (h ++ m) r) (list_all (is_settled p i (h ++ m)) rs)
    (is_settled-more p i h m r (and_left (is_settled p i h r) (list_all (is_settled p i h) rs) is))
    (all_settled-more p i h m rs (and_right (is_settled p i h r) (list_all (is_settled p i h) rs) is))

-- what no entry answers, a later one may
no_buffer : (i s : ℕ) (e : Entry) (w : What) → is_txn i s e.txn && is_answer w ≡ false → cond (is_txn i s e.txn) (got_in w) None ≡ None
no_buffer i s e w none = by_cases (is_txn i s e.txn) w none
  where
    by_cases : (b : Bool) (w : What) → b && is_answer w ≡ false → cond b (got_in w) None ≡ None
    by_cases true (Accessed way access status got) q = cc
    by_cases true (Granted g f l k) q = refl
    by_cases true (Invalidated f l) q = refl
    by_cases true (Closed g) q = refl
    by_cases true (Call p a) q = refl
    by_cases true (Take n) q = refl
    by_cases true (Acquire n) q = refl
    by_cases true (Release n f) q = refl
    by_cases false w q = refl

or_left : (a b : Bool) → a || b ≡ false → a ≡ false
or_left true b is = is
or_left false b is = refl

or_right : (a b : Bool) → a || b ≡ false → b ≡ false
or_right true b is = cc
or_right false b is = is

-- the buffer of a request that wasn't answered yet comes from what follows
pub answered-fresh : (i s : ℕ) (h m : List Entry) → has_answer i s h ≡ false → answered i s (h ++ m) ≡ answered i s m
answered-fresh i s [] m none = refl
answered-fresh i s (e ∷ h) m none =
    ap (λ (x : Option (List ℕ)). first_of_two x (answered i s (h ++ m))) (no_buffer i s e e.what (or_left (is_txn i s e.txn && is_answer e.what) (has_answer i s h) none))
    ∙ answered-fresh i s h m (or_right (is_txn i s e.txn && is_answer e.what) (has_answer i s h) none)
