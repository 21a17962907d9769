use Rattle.std.proofs.Common.{refl, sym}
use Rattle.std.proofs.lemmas.Bool.{false≢true}
use Rattle.addr_router.proofs.FaultLemmas.{fault_not_memory, fault_not_valid, valid_from_none}
use Rattle.addr_router.proofs.windows.Windows.new.Goals as goal

pub returns-in-Some-clause-valid : goal.returns-in-Some-clause-valid
returns-in-Some-clause-valid c =
    let fault = rw c.deref.ensures.value at c.in-Some.ensures in
    (λ same. absurd (false≢true same), λ valid. absurd (fault_not_valid c.args.rows.items c.in-Some.fault (sym fault) valid))

pub returns-in-Some-clause-no_memory : goal.returns-in-Some-clause-no_memory
returns-in-Some-clause-no_memory c =
    let fault = rw c.deref.ensures.value at c.in-Some.ensures in
    λ same. fault_not_memory c.args.rows.items (cc)

pub invariant_of-result : goal.invariant_of-result
invariant_of-result c =
    let none = rw c.deref.ensures.value at c.in_default.ensures in
    (valid_from_none c.args.rows.items (sym none), rw c.deref-2.ensures.value at c.ordered-in_order.ensures)

pub returns-clause-valid : goal.returns-clause-valid
returns-clause-valid c =
    let none = rw c.deref.ensures.value at c.in_default.ensures in
    (λ same. valid_from_none c.args.rows.items (sym none), λ valid. refl)
