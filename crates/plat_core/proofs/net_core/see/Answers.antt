use Rattle.std.proofs.Common.{sym, ◌∙◌, arith}
use Rattle.plat_core.proofs.LearnLemmas.{learned_note}
use Rattle.plat_core.proofs.net_core.see.Goals as goal

pub loop-init : goal.loop-init
loop-init g c = record { can = tt; finite = tt; note = c.requires.note; knew = λ e has. has }

pub learn-requires : goal.learn-requires
learn-requires g c = let one = c.loop.invariant.note.one in record { note = c.loop.invariant.note.of ∙ sym c.history.ensures.0; notes = omega arith }

pub loop-preserved : goal.loop-preserved
loop-preserved g c = record {
  can = tt;
  finite = tt;
  note = learned_note g.N.Naming.table c.loop.note c.learn.new.note c.learn.ensures.table c.learn.ensures.learnt c.loop.invariant.note;
  knew = λ e has. c.learn.ensures.keeps e (c.loop.invariant.knew e has);
}
