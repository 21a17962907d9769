-- One thing put into a line after another.
use Rattle.std.proofs.Common.{◌≡◌, ℕ, ◌+◌, ◌≤◌, List, [], ◌++◌, length, take, Bool, true, false, refl, ap, sym, subst, ◌∙◌, arith, append_assoc, length-append, Option}
use Rattle.std.proofs.Math.Seq.{take-append-add}
use Rattle.std.proofs.lemmas.List.{take-append-le, append-nil}
use Rattle.outside.specs.Causes.{Rose}
use Rattle.outside.specs.Pieces.{TakesAll, TakesPrefix}
use Rattle.trace_print.specs.LineView.{LineView}
use Rattle.trace_print.specs.Putting.{Page, Moves, Puts, page}
use Rattle.trace_print.proofs.Writing.{takes-more, takes-nothing}

-- what has gone, and what is put after it
gone-all : (gone a b x y : List ℕ) → gone ++ b ≡ a ++ x → gone ++ (b ++ y) ≡ a ++ (x ++ y)
gone-all gone a b x y e = sym (append_assoc gone b y) ∙ (ap (λ (l : List ℕ). l ++ y) e ∙ append_assoc a x y)

moves-more : (a b c : Page) (x y : List ℕ) → Moves a b x → Moves b c y → Moves a c (x ++ y)
moves-more a b c x y m n = (
  m.0 ++ n.0,
  append_assoc m.0 n.0 c.waiting ∙ (ap (λ (l : List ℕ). m.0 ++ l) n.1 ∙ gone-all m.0 a.waiting b.waiting x y m.1),
  takes-more a.taken b.taken c.taken m.0 n.0 m.2 n.2,
)

part-more : (a b c : Page) (x y : List ℕ) → Puts a b x → Puts b c y → (f : Bool) → b.failed ≡ f → a.failed ≡ false → c.failed ≡ true → TakesPrefix a.taken c.taken (a.waiting ++ (x ++ y)) × Rose a.faults c.faults
part-more a b c x y p q true failed began ended =
    let r = p.part began failed in
    let same = (q.over failed).1 in
    let fits : r.0.0 ≤ length (a.waiting ++ (x ++ y)) = omega (arith, length-append a.waiting x, length-append a.waiting (x ++ y), length-append x y, r.0.1) in
    let rose : Rose a.faults c.faults = omega (arith, r.1, q.later) in
    ((r.0.0, fits, rw (same, ← append_assoc a.waiting x y, take-append-le r.0.0 (a.waiting ++ x) y r.0.1) r.0.2), rose)
part-more a b c x y p q false going began ended =
    let m = p.whole going in
    let r = q.part going ended in
    let all = gone-all m.0 a.waiting b.waiting x y m.1 in
    let fits : length m.0 + r.0.0 ≤ length (a.waiting ++ (x ++ y)) = omega (arith, length-append m.0 (b.waiting ++ y), ap length all, r.0.1) in
    let rose : Rose a.faults c.faults = omega (arith, r.1, p.later) in
    ((length m.0 + r.0.0, fits, rw (← all, take-append-add m.0 (b.waiting ++ y) r.0.0) (takes-more a.taken b.taken c.taken m.0 (take r.0.0 (b.waiting ++ y)) m.2 r.0.2)), rose)

-- one thing after another
pub puts-more : (a b c : Page) (x y : List ℕ) → Puts a b x → Puts b c y → Puts a c (x ++ y)
puts-more a b c x y p q = record {
  began = λ ok. p.began (q.began ok);
  whole = λ ok. moves-more a b c x y (p.whole (q.began ok)) (q.whole ok);
  part = λ began ended. part-more a b c x y p q b.failed refl began ended;
  over = λ f. let o = p.over f in let u = q.over o.0 in (u.0, u.1 ∙ o.1);
  later = omega (arith, p.later, q.later);
}

pub puts-nothing : (a : Page) → Puts a a []
puts-nothing a = record {
  began = λ ok. ok;
  whole = λ ok. ([], sym (append-nil a.waiting), takes-nothing a.taken);
  part = λ began ended. cc;
  over = λ f. (f, refl);
  later = omega arith;
}

-- the same bytes, written otherwise
pub puts-as : (a b : Page) (x y : List ℕ) → Puts a b x → x ≡ y → Puts a b y
puts-as a b x y p e = let P : List ℕ → Type 0 = λ z. Puts a b z in subst P e p

-- what waits in the line, with nothing written
pub puts-waiting : (a b : Page) (x : List ℕ) → b.failed ≡ a.failed → b.taken ≡ a.taken → b.faults ≡ a.faults → b.waiting ≡ a.waiting ++ x → Puts a b x
puts-waiting a b x failed taken faults waiting = record {
  began = λ ok. sym failed ∙ ok;
  whole = λ ok. ([], waiting, rw taken (takes-nothing a.taken));
  part = λ began ended. cc;
  over = λ g. (failed ∙ g, taken);
  later = omega (arith, faults);
}

-- what waits in the line, with a text that was written behind it
pub puts-adds : (taken : Option (List ℕ)) (faults : ℕ) (v : LineView) (failed : Bool) (old new kept x : List ℕ) (len end : ℕ) → take len old ≡ v.waiting → failed ≡ v.failed → kept ≡ new →
    take end new ≡ take len old ++ x → Puts (page taken faults v) (page taken faults (record { waiting = take end kept; failed = failed })) x
puts-adds taken faults v failed old new kept x len end waited same k holds =
    puts-waiting _ _ x same refl refl (ap (take end) k ∙ (holds ∙ ap (λ (l : List ℕ). l ++ x) waited))

-- what came of a report that failed, where nothing waited before
pub printed-part : (a b : Page) (x : List ℕ) → a.failed ≡ false → b.failed ≡ true → a.waiting ≡ [] → Puts a b x → TakesPrefix a.taken b.taken x × Rose a.faults b.faults
printed-part a b x fa fb ea p =
    let r = p.part fa fb in
    let same : a.waiting ++ x ≡ x = ap (λ (l : List ℕ). l ++ x) ea in
    let P : List ℕ → Type 0 = λ l. TakesPrefix a.taken b.taken l in
    (subst P same r.0, r.1)

-- what came of a report that was written whole, where nothing waited before and nothing waits
pub printed-all : (a b : Page) (x : List ℕ) → b.failed ≡ false → a.waiting ≡ [] → b.waiting ≡ [] → Puts a b x → TakesAll a.taken b.taken x
printed-all a b x fb ea eb p =
    let moved = p.whole fb in
    let gone : moved.0 ≡ x = sym (append-nil moved.0) ∙ (ap (λ (l : List ℕ). moved.0 ++ l) (sym eb) ∙ (moved.1 ∙ ap (λ (l : List ℕ). l ++ x) ea)) in
    subst (TakesAll a.taken b.taken) gone moved.2
