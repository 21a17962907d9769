use Rattle.std.proofs.Common.{rules, ◌+◌, ◌≡◌, ℕ, ◌<◌, ◌≤◌, List, [], ◌∷◌, ◌++◌, take, sum, refl, sym, ap, ◌∙◌, subst, inl, arith}
use Rattle.std.specs.Prelude.{slice_index_or}
use lib.ListN.{get_elem?}
use Rattle.view_lists.specs.Lists.{Has}
use Rattle.view_lists.proofs.Members.{has_left, has_right}
use Rattle.one_history.specs.declared.entry.Entry.{Entry}
use Rattle.one_history.specs.declared.entry.Sign.TheVariants.{Granted, Invalidated}
use Rattle.one_history.specs.declared.view.Frame.{Frame}
use Rattle.one_history.specs.Gates.{IsGateOf}
use Rattle.one_history.specs.Moves.{number_of, entry}
use Rattle.object_bench.proofs.gates.shut.Goals as goal

pub mark-requires-clause-saw : goal.mark-requires-clause-saw
mark-requires-clause-saw g c =
    let seat = c.args.seat.knows in
    let other = c.args.note.knows in
    let grant : Entry ℕ = entry c.args.granted 0 (Granted 0 0 9) 7 in
    let cut : Entry ℕ = entry c.draw.result (number_of c.join.new.seat.knows) (Invalidated 5 5) 7 in
    let known : c.copy-note.result.knows.known ≡ (seat.known ++ other.known) ++ cut ∷ [] =
    ap (λ v. v.known) c.copy-note.ensures.note ∙ ap (λ v. v.known) c.draw.ensures.drawn ∙ ap (λ v. v.known ++ cut ∷ []) c.join.ensures.joined in
    let after = c.draw.ensures.after in
    let seen = ap (λ v. v.seen) c.join.ensures.joined in
    let before = c.requires.granted.1 in
    inl (record {
      grant = grant;
      cut = cut;
      first = 0;
      last = 9;
      from = 5;
      to = 5;
      has_grant = subst (λ (l : List (Entry ℕ)). Has l grant) (sym known) (has_left (seat.known ++ other.known) (cut ∷ []) grant (has_left seat.known other.known grant c.requires.granted.0));
      has_cut = subst (λ (l : List (Entry ℕ)). Has l cut) (sym known) (has_right (seat.known ++ other.known) (cut ∷ []) cut (0, refl));
      is_grant = refl;
      is_cut = refl;
      later = omega arith;
      object = sym (c.join.ensures.number ∙ c.requires.seat.0.2);
      meet = (omega arith, omega arith);
    })

pub draw-requires-2-clause-gates : goal.draw-requires-2-clause-gates
draw-requires-2-clause-gates g c mine =
    let seat = c.join-2.new.seat.knows in
    let number : number_of seat ≡ 0 = search rules in
    let drained : seat.drained ≡ c.copy-note.new.seat.knows.drained ++ c.drain.new.note.knows.drained = ap (λ v. v.drained) c.join-2.ensures.joined in
    let here : Has c.drain.new.note.knows.drained 0 = (0, ap (λ v. get_elem? v.drained 0) c.drain.ensures.drained) in (
      (subst (λ (o : ℕ). IsGateOf c.args.past.now.frame o 0) (sym number) (subst (λ (l : List ℕ). (sum (take 0 l) ≤ 0) × (0 < sum (take 0 l) + slice_index_or l 0 0)) (sym c.requires.frame.1) (omega arith, omega arith))),
      subst (λ (l : List ℕ). Has l 0) (sym drained) (has_right c.copy-note.new.seat.knows.drained c.drain.new.note.knows.drained 0 here),
    )
