use Rattle.node_hops.proofs.Looks.{within_on}
use Rattle.std.proofs.Common.{◌≡◌, ℕ, List, sym, ap, subst}
use Rattle.one_history.specs.declared.entry.Entry.{Entry}
use Rattle.one_history.specs.declared.view.Frame.{Frame}
use Rattle.tlm_types.specs.declared.entry.Content.{Content}
use Rattle.tlm_types.specs.declared.words.TxnId.{TxnId}
use Rattle.tlm_model.specs.Plan.{Plan}
use Rattle.router_moves.specs.Moves.{HasReleasedAt, IsDone, IsOwing}
use Rattle.router_node.specs.Stages.{WasReleased}
use Rattle.router_moves.specs.declared.items.End.{End}
use Rattle.router_moves.specs.declared.items.End.TheVariants.{Owed, At}
use Rattle.router_moves.specs.declared.items.Rest.{Rest}
use Rattle.router_node.proofs.stage.finish_below.Goals as goal

-- END_RESP was made
done_then : (r new : Rest) (time : ℕ) → new ≡ record r { end = At time } → IsDone new.end
done_then r new time same = subst (λ (s : Rest). IsDone s.end) (sym same) tt

-- the Release that was made
was_released : (frame : Frame Plan) (known : List (Entry Content)) (x : TxnId) (e : End) → HasReleasedAt frame known x e → WasReleased frame known x
was_released frame known x (Owed leg ticket) r = absurd r
was_released frame known x (At time) r = (time, r.0, r.1)

pub release-requires-clause-note : goal.release-requires-clause-note
release-requires-clause-note g c = c.requires.note

pub release-requires-clause-rest : goal.release-requires-clause-rest
release-requires-clause-rest g c = let e = c.requires.ended in record { pass = e.pass; hop = e.hop; rest = e.rest }

pub end_below-rest-requires-clause-note : goal.end_below-rest-requires-clause-note
end_below-rest-requires-clause-note g c = c.requires.note

pub end_below-rest-requires-clause-ended : goal.end_below-rest-requires-clause-ended
end_below-rest-requires-clause-ended g c = c.requires.ended

pub release-requires-in-Owed-clause-note : goal.release-requires-in-Owed-clause-note
release-requires-in-Owed-clause-note g c = c.end_below-rest.ensures.note

pub release-requires-in-Owed-clause-rest : goal.release-requires-in-Owed-clause-rest
release-requires-in-Owed-clause-rest g c = let e = c.end_below-rest.ensures.ended in record { pass = e.pass; hop = e.hop; rest = e.rest }

pub returns-in-At-clause-note : goal.returns-in-At-clause-note
returns-in-At-clause-note g c = c.release.ensures.note

pub returns-in-At-clause-knew : goal.returns-in-At-clause-knew
returns-in-At-clause-knew g c = c.release.ensures.knew

pub returns-in-At-clause-below : goal.returns-in-At-clause-below
returns-in-At-clause-below g c = c.release.ensures.below

pub returns-in-Owed-clause-note : goal.returns-in-Owed-clause-note
returns-in-Owed-clause-note g c = c.release-in-Owed.ensures.note

pub returns-in-Owed-clause-knew : goal.returns-in-Owed-clause-knew
returns-in-Owed-clause-knew g c = within_on c.args.note.knows.known c.end_below-rest.result.1.knows.known c.release-in-Owed.result.knows.known c.end_below-rest.ensures.knew c.release-in-Owed.ensures.knew

pub returns-in-Owed-clause-below : goal.returns-in-Owed-clause-below
returns-in-Owed-clause-below g c = c.release-in-Owed.ensures.below

pub release-requires-clause-done : goal.release-requires-clause-done
release-requires-clause-done g c = subst IsDone (sym c.in-At.is) tt

pub end_below-rest-requires-clause-owed : goal.end_below-rest-requires-clause-owed
end_below-rest-requires-clause-owed g c = subst IsOwing (sym c.in-Owed.is) tt

pub release-requires-in-Owed-clause-done : goal.release-requires-in-Owed-clause-done
release-requires-in-Owed-clause-done g c = let e = c.end_below-rest.ensures.ended in done_then c.args.rest c.end_below-rest.result.0 e.time e.same

pub returns-in-At-clause-released : goal.returns-in-At-clause-released
returns-in-At-clause-released g c = was_released g.N.Naming.frame c.release.result.knows.known c.args.rest.txn c.args.rest.end c.release.ensures.released

pub returns-in-Owed-clause-released : goal.returns-in-Owed-clause-released
returns-in-Owed-clause-released g c =
    let e = c.end_below-rest.ensures.ended in
    let r = c.end_below-rest.result.0 in
    subst (λ (x : TxnId). WasReleased g.N.Naming.frame c.release-in-Owed.result.knows.known x) (ap (λ (s : Rest). s.txn) e.same) (was_released g.N.Naming.frame c.release-in-Owed.result.knows.known r.txn r.end c.release-in-Owed.ensures.released)
