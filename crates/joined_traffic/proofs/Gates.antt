-- Gates and their memories, and the logs of gates.
use Rattle.std.proofs.Common.{◌≡◌, ◌⊎◌, ℕ, zero, suc, ◌+◌, ◌<◌, ◌≤◌, Bool, true, false, not, nat_eq, ◌||◌, List, [], ◌∷◌, ◌++◌, take, sum_by, refl, sym, ap, subst, inl, inr, ⊎_elim, arith}
use Rattle.std.specs.Prelude.{nat_le, nat_lt}
use Rattle.std.proofs.lemmas.Bool.{and_parts, eq-eqb, eqb-true, leb-true, ltb-false, ltb-true}
use Rattle.std.proofs.lemmas.List.Sums.{sum_by_from}
use Rattle.view_lists.specs.Lists.{Has}
use Rattle.tlm_types.specs.declared.words.ObjectNo.{ObjectNo}
use Rattle.tlm_types.specs.declared.words.ObjectNo.TheVariants.{Memory, Hop, Pool}
use Rattle.tlm_types.specs.declared.entry.Entry.{Entry}
use Rattle.tlm_types.specs.declared.entry.What.{What}
use Rattle.tlm_types.specs.declared.entry.What.TheVariants.{Access as Accessed, Granted, Invalidated, Closed, Call, Take, Acquire, Release}
use Rattle.tlm_model.specs.declared.platform.MemoryRow.{MemoryRow}
use Rattle.tlm_model.specs.declared.platform.Platform.{Platform}
use Rattle.tlm_model.specs.Each.{EachFrom}
use Rattle.tlm_model.specs.History.{entries_at, is_object}
use Rattle.tlm_model.specs.Scripts.{IsPlaced, first_gate, has_gate}
use Rattle.good_history.proofs.CountLemmas.{has_first, has_kept, kept_has}
use Rattle.view_lists.proofs.Members.{has_none}
use Rattle.good_history.specs.Grants.{closes, gives, is_closed, is_given}
use Rattle.good_history.specs.Kept.{IsGateInOrder, is_below}
use Rattle.joined_traffic.proofs.Lists.{all_has, any_has, any_none, has_all, has_any}

pub same_object : (a b : ObjectNo) → is_object a b ≡ true → a ≡ b
same_object (Memory m) (Memory n) is = ap Memory (sym (eqb-true n m is))
same_object (Memory m) (Hop n) is = cc
same_object (Memory m) (Pool n) is = cc
same_object (Hop m) (Memory n) is = cc
same_object (Hop m) (Hop n) is = ap Hop (sym (eqb-true n m is))
same_object (Hop m) (Pool n) is = cc
same_object (Pool m) (Memory n) is = cc
same_object (Pool m) (Hop n) is = cc
same_object (Pool m) (Pool n) is = ap Pool (sym (eqb-true n m is))

pub object_itself : (o : ObjectNo) → is_object o o ≡ true
object_itself (Memory m) = eq-eqb m m refl
object_itself (Hop m) = eq-eqb m m refl
object_itself (Pool m) = eq-eqb m m refl

sum_take : (rows : List MemoryRow) (m n : ℕ) → m ≤ n → sum_by (λ (row : MemoryRow). row.traits.gates) (take m rows) ≤ sum_by (λ (row : MemoryRow). row.traits.gates) (take n rows)
sum_take [] zero n less = omega arith
sum_take [] (suc m) n less = omega arith
sum_take (row ∷ rows) zero n less = omega arith
sum_take (row ∷ rows) (suc m) zero less = absurd (omega (arith, less))
sum_take (row ∷ rows) (suc m) (suc n) less =
    let rest = sum_take rows m n (omega (arith, less)) in
    let a : sum_by (λ (r : MemoryRow). r.traits.gates) (take (suc m) (row ∷ rows)) ≡ 0 + row.traits.gates + sum_by (λ (r : MemoryRow). r.traits.gates) (take m rows) = sum_by_from (λ (r : MemoryRow). r.traits.gates) (0 + row.traits.gates) (take m rows) in
    let b : sum_by (λ (r : MemoryRow). r.traits.gates) (take (suc n) (row ∷ rows)) ≡ 0 + row.traits.gates + sum_by (λ (r : MemoryRow). r.traits.gates) (take n rows) = sum_by_from (λ (r : MemoryRow). r.traits.gates) (0 + row.traits.gates) (take n rows) in
    omega (arith, rest, a, b)

-- a gate is of one memory
one_home : (p : Platform) (m n g : ℕ) → has_gate p m g ≡ true → has_gate p n g ≡ true → m ≡ n
one_home p m n g first second =
    let a = and_parts (nat_le (first_gate p m) g) (nat_lt g (first_gate p (m + 1))) first in
    let b = and_parts (nat_le (first_gate p n) g) (nat_lt g (first_gate p (n + 1))) second in
    let c = leb-true (first_gate p m) g a.0 in
    let d = ltb-true g (first_gate p (m + 1)) a.1 in
    let e = leb-true (first_gate p n) g b.0 in
    let f = ltb-true g (first_gate p (n + 1)) b.1 in
    by_order c d e f (order m n)
  where
    order_by : (x y : ℕ) (b c : Bool) → nat_lt x y ≡ b → nat_lt y x ≡ c → (x ≡ y) ⊎ ((x + 1 ≤ y) ⊎ (y + 1 ≤ x))
    order_by x y true c less more = let t = ltb-true x y less in inr (inl (omega (arith, t)))
    order_by x y false true less more = let t = ltb-true y x more in inr (inr (omega (arith, t)))
    order_by x y false false less more = let t = ltb-false x y less in let u = ltb-false y x more in inl (omega (arith, t, u))

    order : (x y : ℕ) → (x ≡ y) ⊎ ((x + 1 ≤ y) ⊎ (y + 1 ≤ x))
    order x y = order_by x y (nat_lt x y) (nat_lt y x) refl refl

    by_order : first_gate p m ≤ g → g < first_gate p (m + 1) → first_gate p n ≤ g → g < first_gate p (n + 1) → (m ≡ n) ⊎ ((m + 1 ≤ n) ⊎ (n + 1 ≤ m)) → m ≡ n
    by_order c d e f (inl same) = same
    by_order c d e f (inr (inl less)) = let t : first_gate p (m + 1) ≤ first_gate p n = sum_take p.memories (m + 1) n less in absurd (omega (arith, d, e, t))
    by_order c d e f (inr (inr less)) = let t : first_gate p (n + 1) ≤ first_gate p m = sum_take p.memories (n + 1) m less in absurd (omega (arith, c, f, t))

-- a grant or a closing of a gate stands at the gate's memory
module _ (p : Platform) (i m g : ℕ) (home : has_gate p m g ≡ true) where
  same_home : (n gate : ℕ) → has_gate p n gate ≡ true → nat_eq gate g ≡ true → nat_eq n m ≡ true
  same_home n gate placed is = eq-eqb n m (sym (one_home p m n g home (subst (λ (k : ℕ). has_gate p n k ≡ true) (eqb-true gate g is) placed)))

  pub grant_home : (o : ObjectNo) (w : What) → IsPlaced p i o w → gives g w ≡ true → is_object (Memory m) o ≡ true
  grant_home (Memory n) (Granted gate f l k) placed is = same_home n gate placed is
  grant_home (Hop n) (Granted gate f l k) placed is = absurd placed
  grant_home (Pool n) (Granted gate f l k) placed is = absurd placed
  grant_home o (Accessed way a s got) placed is = cc
  grant_home o (Invalidated f l) placed is = cc
  grant_home o (Closed gate) placed is = cc
  grant_home o (Call c a) placed is = cc
  grant_home o (Take s) placed is = cc
  grant_home o (Acquire s) placed is = cc
  grant_home o (Release s f) placed is = cc

  pub closing_home : (o : ObjectNo) (w : What) → IsPlaced p i o w → closes g w ≡ true → is_object (Memory m) o ≡ true
  closing_home (Memory n) (Closed gate) placed is = same_home n gate placed is
  closing_home (Hop n) (Closed gate) placed is = absurd placed
  closing_home (Pool n) (Closed gate) placed is = absurd placed
  closing_home o (Accessed way a s got) placed is = cc
  closing_home o (Invalidated f l) placed is = cc
  closing_home o (Granted gate f l k) placed is = cc
  closing_home o (Call c a) placed is = cc
  closing_home o (Take s) placed is = cc
  closing_home o (Acquire s) placed is = cc
  closing_home o (Release s f) placed is = cc

-- what holds at each entry, whatever stands before it
pub each_has : (P : Entry → Type 0) (before h : List Entry) → EachFrom (λ b e. P e) before h → (x : Entry) → Has h x → P x
each_has P before [] each x has = absurd (has_none x has)
each_has P before (e ∷ h) each x has =
    ⊎_elim (λ (same : e ≡ x). subst P same each.0) (λ (other : Has h x). each_has P (before ++ e ∷ []) h each.1 x other) (has_first e h x has)

-- the order of gates at their memory is their order in the history
module _ (p : Platform) (before : List Entry) (placed : (x : Entry) → Has before x → IsPlaced p x.txn.initiator x.object x.what) where
  kept_at : (m : ℕ) (x : Entry) → Has before x → is_object (Memory m) x.object ≡ true → Has (entries_at (Memory m) before) x
  kept_at m x has is = kept_has (λ (e : Entry). is_object (Memory m) e.object) before x has is

  not_given : (m g : ℕ) → has_gate p m g ≡ true → is_given g (entries_at (Memory m) before) ≡ false → is_given g before ≡ false
  not_given m g home none = any_none (λ (e : Entry). gives g e.what) before (λ x has is.
      let there : is_given g (entries_at (Memory m) before) ≡ true = any_has (λ (e : Entry). gives g e.what) (entries_at (Memory m) before) x (kept_at m x has (grant_home p x.txn.initiator m g home x.object x.what (placed x has) is)) is in
      cc)

  not_closed : (m g : ℕ) → has_gate p m g ≡ true → is_closed g (entries_at (Memory m) before) ≡ false → is_closed g before ≡ false
  not_closed m g home none = any_none (λ (e : Entry). closes g e.what) before (λ x has is.
      let there : is_closed g (entries_at (Memory m) before) ≡ true = any_has (λ (e : Entry). closes g e.what) (entries_at (Memory m) before) x (kept_at m x has (closing_home p x.txn.initiator m g home x.object x.what (placed x has) is)) is in
      cc)

  pub gates_up : (i : ℕ) (o : ObjectNo) (w : What) → IsPlaced p i o w → IsGateInOrder (entries_at o before) o w → IsGateInOrder before o w
  gates_up i (Memory m) (Granted gate f l k) home order = (
    not_given m gate home order.0,
    all_has (λ (x : Entry). not (is_object (Memory m) x.object) || is_below gate x.what) before (λ x has. by_object x has (is_object (Memory m) x.object) refl),
  )
    where
      by_object : (x : Entry) → Has before x → (b : Bool) → is_object (Memory m) x.object ≡ b → (not b || is_below gate x.what) ≡ true
      by_object x has false other = refl
      by_object x has true here =
          let t = has_all (λ (x : Entry). not (is_object (Memory m) x.object) || is_below gate x.what) (entries_at (Memory m) before) x order.1 (kept_at m x has here) in
          subst (λ (b : Bool). (not b || is_below gate x.what) ≡ true) here t
  gates_up i (Memory m) (Closed gate) home order =
      let t = has_any (λ (e : Entry). gives gate e.what) (entries_at (Memory m) before) order.0 in (
        any_has (λ (e : Entry). gives gate e.what) before t.0 (has_kept (λ (e : Entry). is_object (Memory m) e.object) before t.0 t.1).0 t.2,
        not_closed m gate home order.1,
      )
  gates_up i (Hop n) (Granted gate f l k) placed order = absurd placed
  gates_up i (Pool n) (Granted gate f l k) placed order = absurd placed
  gates_up i (Hop n) (Closed gate) placed order = absurd placed
  gates_up i (Pool n) (Closed gate) placed order = absurd placed
  gates_up i o (Accessed way a s got) placed order = tt
  gates_up i o (Invalidated f l) placed order = tt
  gates_up i o (Call c a) placed order = tt
  gates_up i o (Take s) placed order = tt
  gates_up i o (Acquire s) placed order = tt
  gates_up i o (Release s f) placed order = tt
