use Rattle.std.proofs.Common.{Option, sym, ◌∙◌, subst, inl, inr}
use Rattle.dmi_grants.specs.declared.invalidation.Revocation.{Revocation}
use Rattle.port_moves.specs.State.{with_note}
use Rattle.fourphase_port.specs.Stepped.{Stands, stepped_with}
use Rattle.fourphase_port.proofs.Adding.{closing_adds}
use Rattle.fourphase_port.proofs.Stepping.{moved_own}
use Rattle.fourphase_port.proofs.steps.SteppedPort.close.Goals as goal

pub returns : goal.returns
returns g c =
    let e = c.end_next-ending.ensures in
    let new = c.end_next-ending.new.state in
    let ending = c.end_next-ending.result.0 in
    let back = c.end_next-ending.result.1 in
    record {
      port = record {
        note_of = e.note;
        below = e.below;
        stands = subst (λ (o : Option Revocation). Stands g.N.Naming.table g.N.Naming.tokens g.N.Naming.frame new o back) (sym c.requires.closes) (e.more c.in_default.not-Returned);
      };
      number = e.number;
      knew = e.knew;
      adds = closing_adds g.N.Naming.frame (stepped_with c.args.self.now c.args.note) (with_note new back) c.moved_by.result ending c.moved_by.ensures e.adds;
      moved = elim (moved_own ending) [ inl q ↦ inl (c.moved_by.ensures ∙ q) | inr q ↦ inr (c.moved_by.ensures ∙ q) ];
    }
