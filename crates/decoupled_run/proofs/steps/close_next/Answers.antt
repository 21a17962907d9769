use Rattle.std.proofs.Common.{◌≡◌, true, false}
use Rattle.dmi_grants.specs.declared.invalidation.Ending.{Ending}
use Rattle.dmi_grants.specs.declared.invalidation.Ending.TheVariants.{ByOthers, Closed, Returned}
use Rattle.dmi_grants.specs.Revoking.{IsClosingEntry}
use Rattle.dmi_grants.proofs.Revoking.{new_before, revoking_can_pay, revoking_is_told}
use Rattle.decoupled_run.proofs.steps.close_next.Goals as goal

goes_on : (e : Ending) → e ≡ Closed → e ≡ Returned → ⊥
goes_on e is wrong = cc (is, wrong)

by_others : (e : Ending) → e ≡ ByOthers → e ≡ Returned → ⊥
by_others e is wrong = cc (is, wrong)

pub loop-init : goal.loop-init
loop-init g c = record {
  can = tt;
  finite = tt;
  note = c.requires.note;
  wallet = c.requires.wallet;
  knew = λ e has. has;
  roomy = λ m room. room;
  more = λ before start is. is;
}

pub loop-preserved : goal.loop-preserved
loop-preserved g c =
    let i = c.loop.invariant in
    let e = c.end_next_grant-ending in
    record {
      can = tt;
      finite = tt;
      note = e.ensures.note;
      wallet = e.ensures.wallet;
      knew = λ x has. e.ensures.keeps x (i.knew x has);
      roomy = λ m room. e.ensures.rooms m (i.roomy m room);
      more = λ before start is. e.ensures.more (by_others e.result.0 c.in-ByOthers.is) before start (i.more before start is);
    }

pub end_next_grant-ending-requires-clause-memory : goal.end_next_grant-ending-requires-clause-memory
end_next_grant-ending-requires-clause-memory g c = c.requires.closes.there

pub end_next_grant-ending-requires-clause-passage : goal.end_next_grant-ending-requires-clause-passage
end_next_grant-ending-requires-clause-passage g c = c.requires.closes.passes

pub end_next_grant-ending-requires-clause-note : goal.end_next_grant-ending-requires-clause-note
end_next_grant-ending-requires-clause-note g c = c.loop.invariant.note

pub end_next_grant-ending-requires-clause-told : goal.end_next_grant-ending-requires-clause-told
end_next_grant-ending-requires-clause-told g c =
    let q = c.requires.closes in
    (revoking_is_told g.N.Naming.frame c.args.revocation.now q.before c.loop.now.knows q.start c.loop.wallet (c.loop.invariant.more q.before q.start q.revoking)).1

pub end_next_grant-ending-requires-clause-wallet : goal.end_next_grant-ending-requires-clause-wallet
end_next_grant-ending-requires-clause-wallet g c = c.loop.invariant.wallet

pub end_next_grant-ending-requires-clause-room : goal.end_next_grant-ending-requires-clause-room
end_next_grant-ending-requires-clause-room g c = c.loop.invariant.roomy c.args.revocation.now.memory c.requires.closes.roomy

pub end_next_grant-ending-requires-clause-tickets : goal.end_next_grant-ending-requires-clause-tickets
end_next_grant-ending-requires-clause-tickets g c =
    let q = c.requires.closes in
    revoking_can_pay g.N.Naming.frame c.args.revocation.now q.before c.loop.now.knows q.start c.loop.wallet q.pays (c.loop.invariant.more q.before q.start q.revoking)

pub returns-in-Closed : goal.returns-in-Closed
returns-in-Closed g c =
    let i = c.loop.invariant in
    let e = c.end_next_grant-ending in
    record {
      note_of = e.ensures.note;
      wallet_of = e.ensures.wallet;
      knew = λ x has. e.ensures.keeps x (i.knew x has);
      below = e.ensures.below;
      roomy = λ m room. e.ensures.rooms m (i.roomy m room);
      more = λ yes' before start is. e.ensures.more (goes_on e.result.0 c.in-Closed.is) before start (i.more before start is);
      all = λ no'. absurd (let wrong : true ≡ false = no' in cc (wrong));
      adds = λ yes'. new_before (IsClosingEntry g.N.Naming.frame.world c.args.revocation.now) c.args.note.knows.known c.loop.now.knows.known e.result.1.knows.known i.knew (e.ensures.closed c.in-Closed.is);
    }

pub returns-in-Returned : goal.returns-in-Returned
returns-in-Returned g c =
    let i = c.loop.invariant in
    let e = c.end_next_grant-ending in
    record {
      note_of = e.ensures.note;
      wallet_of = e.ensures.wallet;
      knew = λ x has. e.ensures.keeps x (i.knew x has);
      below = e.ensures.below;
      roomy = λ m room. e.ensures.rooms m (i.roomy m room);
      more = λ yes'. absurd (let wrong : false ≡ true = yes' in cc (wrong));
      all = λ no' before start is. e.ensures.all c.in-Returned.is before start (i.more before start is);
      adds = λ yes'. absurd (let wrong : false ≡ true = yes' in cc (wrong));
    }
