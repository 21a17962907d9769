-- One write after another.
use Rattle.std.proofs.Common.{◌≡◌, ℕ, ◌+◌, List, [], ◌++◌, length, take, Option, Some, None, Bool, true, false, refl, ap, sym, ◌∙◌, arith, append_assoc, length-append}
use Rattle.std.proofs.Math.Seq.{take-append-add}
use Rattle.std.proofs.lemmas.List.{append-nil, take-append-le}
use Rattle.outside.specs.Pieces.{TakesAll}
use Rattle.trace_print.specs.Writes.{SinkChange, Writes}

pub takes-more : (old mid new : Option (List ℕ)) (a b : List ℕ) → TakesAll old mid a → TakesAll mid new b → TakesAll old new (a ++ b)
takes-more old mid None a b p q = tt
takes-more old None (Some n) a b p q = let wrong = q.1 in cc
takes-more old (Some m) (Some n) a b p q =
    let same : m ≡ q.0 = let e = q.1 in cc in
    (p.0, p.1, q.2 ∙ (ap (λ (x : List ℕ). x ++ b) (sym same ∙ p.2) ∙ append_assoc p.0 a b))

pub takes-nothing : (taken : Option (List ℕ)) → TakesAll taken taken []
takes-nothing None = tt
takes-nothing (Some n) = (n, refl, sym (append-nil n))

abbrev pub change : Option (List ℕ) → Option (List ℕ) → ℕ → ℕ → SinkChange
change before after faults_before faults_after = record { taken_before = before; taken_after = after; faults_before = faults_before; faults_after = faults_after }

-- a write after a whole one
pub writes-more : (old mid new : Option (List ℕ)) (f g h : ℕ) (a b : List ℕ) (done : Bool) → Writes (change old mid f g) a true → Writes (change mid new g h) b done → Writes (change old new f h) (a ++ b) done
writes-more old mid new f g h a b done p q = record {
  all = λ d. takes-more old mid new a b (p.all refl) (q.all d);
  part = λ d. let r = q.part d in
      (length a + r.0, omega (arith, length-append a b, r.1), rw (take-append-add a b r.0) (takes-more old mid new a (take r.0 b) (p.all refl) r.2));
  later = omega (arith, p.later, q.later);
  failed = λ d. let rose = q.failed d in omega (arith, p.later, rose);
}

-- a write that failed, and more that isn't written
pub writes-part : (old new : Option (List ℕ)) (f h : ℕ) (a b : List ℕ) → Writes (change old new f h) a false → Writes (change old new f h) (a ++ b) false
writes-part old new f h a b p = record {
  all = λ d. cc;
  part = λ d. let r = p.part refl in (r.0, omega (arith, length-append a b, r.1), rw (take-append-le r.0 a b r.1) r.2);
  later = p.later;
  failed = p.failed;
}
