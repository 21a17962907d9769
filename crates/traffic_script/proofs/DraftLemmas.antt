-- A script that is read line by line keeps proper.
use Rattle.std.proofs.Common.{◌≡◌, ℕ, zero, suc, ◌+◌, ◌*◌, ◌<◌, ◌≤◌, List, [], ◌∷◌, ◌++◌, length, cond, nat_eq, nat_le, nat_lt, Option, Some, None, Ok, Err, subst, arith, length-append}
use Rattle.std.specs.Prelude.{IfSome}
use Rattle.std.specs.List.{AllByRecursion}
use Rattle.std.proofs.lemmas.Bool.{ltb-true, leb-true}
use Rattle.tlm_model.specs.declared.operation.Operation.{Operation}
use Rattle.traffic_script.specs.declared.fault.ScriptCode.TheVariants.{EmptyRepeat, TooManyOperations}
use Rattle.traffic_script.specs.declared.statement.Statement.{Statement}
use Rattle.traffic_script.specs.declared.statement.Statement.TheVariants.{Asks, Repeats, Ends}
use Rattle.traffic_script.specs.Pieces.{repeated}
use Rattle.traffic_script.specs.Drafts.{Block, Draft, body_of, count_of, added_in, added, begun_in, ended_in, taken, finished_in, finished}
use Rattle.traffic_script.specs.Statements.{statement_of}
use Rattle.traffic_script.specs.Lines.{with_line}
use Rattle.traffic_script.specs.Proper.{IsProper, AreTimes, IsProperStatement, IsProperDraft, AreProper}
use Rattle.traffic_script.proofs.ReadLemmas.{bind-Ok, if-Ok, unless-Ok}
use Rattle.traffic_script.proofs.ProperLemmas.{statement_proper}

-- proper operations, one after another
pub all-append : (xs ys : List Operation) → AllByRecursion IsProper xs → AllByRecursion IsProper ys → AllByRecursion IsProper (xs ++ ys)
all-append [] ys p q = q
all-append (x ∷ xs) ys p q = (p.0, all-append xs ys p.1 q)

all-repeated : (n : ℕ) (xs : List Operation) → AllByRecursion IsProper xs → AllByRecursion IsProper (repeated n xs)
all-repeated zero xs p = tt
all-repeated (suc n) xs p = all-append xs (repeated n xs) p (all-repeated n xs p)

-- the operations of all rounds
pub length-repeated : (n : ℕ) (xs : List Operation) → length (repeated n xs) ≡ n * length xs
length-repeated zero xs = grind arith
length-repeated (suc n) xs = grind (arith, length-append xs (repeated n xs), length-repeated n xs)

added_in-proper : (before : List Operation) (block : Option Block) (op : Operation) → length before + length (body_of block) < 100000 → AllByRecursion IsProper before → AllByRecursion IsProper (body_of block) → IfSome block (λ b. AreTimes b.times) → IsProper op → IsProperDraft (added_in before block op)
added_in-proper before None op h each inner times p = record {
  few = omega (arith, length-append before (op ∷ []));
  each = all-append before (op ∷ []) each (p, tt);
  inner = tt;
  times = tt;
}
added_in-proper before (Some b) op h each inner times p = record {
  few = omega (arith, length-append b.body (op ∷ []));
  each = each;
  inner = all-append b.body (op ∷ []) inner (p, tt);
  times = times;
}

added-proper : (d next : Draft) (op : Operation) → IsProperDraft d → IsProper op → added d op ≡ Ok next → IsProperDraft next
added-proper d next op d_ok p e =
    let read = if-Ok (nat_lt (count_of d) 100000) (Ok (added_in d.before d.block op)) TooManyOperations next e in
    let same : added_in d.before d.block op ≡ next = cc in
    subst IsProperDraft same (added_in-proper d.before d.block op (ltb-true (count_of d) 100000 read.0) d_ok.each d_ok.inner d_ok.times p)

begun_in-proper : (before : List Operation) (block : Option Block) (n times : ℕ) (next : Draft) → length before + length (body_of block) ≤ 100000 → AllByRecursion IsProper before → AreTimes times → begun_in before block n times ≡ Ok next → IsProperDraft next
begun_in-proper before None n times next h each p e =
    let now : Draft = record { before = before; block = Some (record { line = n; times = times; body = [] }) } in
    let same : now ≡ next = cc in
    subst IsProperDraft same (record { few = omega arith; each = each; inner = tt; times = p })
begun_in-proper before (Some b) n times next h each p e = cc

ended_in-proper : (before : List Operation) (block : Option Block) (next : Draft) → AllByRecursion IsProper before → AllByRecursion IsProper (body_of block) → ended_in before block ≡ Ok next → IsProperDraft next
ended_in-proper before None next each inner e = cc
ended_in-proper before (Some b) next each inner e =
    let now : Draft = record { before = before ++ repeated b.times b.body; block = None } in
    let some = unless-Ok (nat_eq (length b.body) 0) (cond (nat_le (length before + b.times * length b.body) 100000) (Ok now) (Err TooManyOperations)) EmptyRepeat next e in
    let few = if-Ok (nat_le (length before + b.times * length b.body) 100000) (Ok now) TooManyOperations next some.1 in
    let bound : length before + b.times * length b.body ≤ 100000 = leb-true (length before + b.times * length b.body) 100000 few.0 in
    let same : now ≡ next = cc in
    subst IsProperDraft same (record { few = omega (arith, length-append before (repeated b.times b.body), length-repeated b.times b.body); each = all-append before (repeated b.times b.body) each (all-repeated b.times b.body inner); inner = tt; times = tt })

-- with one more line
pub taken_proper : (n : ℕ) (d next : Draft) (s : Option Statement) → IsProperDraft d → IfSome s IsProperStatement → taken n d s ≡ Ok next → IsProperDraft next
taken_proper n d next None d_ok p e = subst IsProperDraft (let same : d ≡ next = cc in same) d_ok
taken_proper n d next (Some (Asks op)) d_ok p e = added-proper d next op d_ok p e
taken_proper n d next (Some (Repeats times)) d_ok p e = begun_in-proper d.before d.block n times next d_ok.few d_ok.each p e
taken_proper n d next (Some Ends) d_ok p e = ended_in-proper d.before d.block next d_ok.each d_ok.inner e

finished_in-proper : (before : List Operation) (block : Option Block) (ops : List Operation) → length before + length (body_of block) ≤ 100000 → AllByRecursion IsProper before → finished_in before block ≡ Ok ops → AreProper ops
finished_in-proper before None ops few each e = subst AreProper (let same : before ≡ ops = cc in same) (record { few = omega arith; each = each })
finished_in-proper before (Some b) ops few each e = cc

-- and at the end
pub finished_proper : (d : Draft) (ops : List Operation) → IsProperDraft d → finished d ≡ Ok ops → AreProper ops
finished_proper d ops d_ok e = finished_in-proper d.before d.block ops d_ok.few d_ok.each e

-- with one more line
pub with_line_proper : (version n : ℕ) (d next : Draft) (line : List ℕ) → IsProperDraft d → with_line version n d line ≡ Ok next → IsProperDraft next
with_line_proper version n d next line d_ok e =
    let said = bind-Ok (statement_of version line) (λ s. taken n d s) next e in
    taken_proper n d next said.0 d_ok (statement_proper version line said.0 said.1) said.2
