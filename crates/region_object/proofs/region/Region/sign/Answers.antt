use Rattle.std.proofs.Common.{IsTrue, sym, ap, subst, arith}
use Rattle.region_object.specs.declared.call.RegionCall.{RegionCall}
use Rattle.region_object.specs.Call.{Fits, IsCloseFit}
use Rattle.region_object.specs.Grants.{is_given}
use Rattle.region_object.specs.Region.{LoggedMemory}
use Rattle.region_object.specs.Written.{written_from}
use Rattle.region_object.proofs.Granted.{granted_in}
use Rattle.region_object.proofs.region.Region.sign.Goals as goal

pub returns-in-Close-clause-gates : goal.returns-in-Close-clause-gates
returns-in-Close-clause-gates c = λ fits.
    let s = c.self.inside in
    let g = c.in-Close.gate in
    let f : IsCloseFit (written_from 0 c.args.self.now.log.entries) g = subst (λ (call : RegionCall). Fits (written_from 0 c.args.self.now.log.entries) call) c.in-Close.is fits in
    let given : IsTrue (is_given g s.log.entries) = subst (λ (m : LoggedMemory). IsTrue (is_given g m.log.entries)) (sym c.self.view_is) (granted_in c.args.self.now.log.entries g f.first f.last f.kind f.granted) in
    let w = c.self.invariant.holds.within g given in
    let n = c.self.invariant.holds.few in
    let v = c.self.view_is in
    let first = ap (λ (m : LoggedMemory). m.first_gate) v in
    let gates = ap (λ (m : LoggedMemory). m.traits.gates) v in
    (omega arith, omega arith)
