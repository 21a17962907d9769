use Rattle.std.proofs.Common.{◌≡◌, length, map, sym, ap, ◌∙◌, arith}
use Rattle.one_history.specs.Moves.{counting}
use Rattle.tlm_model.specs.declared.platform.Platform.{Platform}
use Rattle.cargo_net.specs.Gates.{gates_at, gates_of}
use Rattle.plat_net.specs.Objects.{frame_of, planned_of}
use Rattle.plat_net.proofs.ObjectLemmas.{count_planned}
use Rattle.plat_build.proofs.OpenLemmas.{frame_again, frame_is, gates_are, may_open, planned_is}
use Rattle.plat_build.proofs.opened.Opened.new.Goals as goal

pub new-made-requires-clause-lists : goal.new-made-requires-clause-lists
new-made-requires-clause-lists c =
    let p = c.args.plan.now in
    let e = c.in_ok-objects.ensures.objects in
    let planned : c.as_slice-3.result.now ≡ planned_of p = c.as_slice-3.ensures.value ∙ planned_is p c.as_slice.result.now c.in_ok-planned.planned.items (c.as_slice.ensures.value ∙ e) c.in_ok-planned.ensures in
    let gates : c.as_slice-4.result.now ≡ gates_of p.platform =
    c.as_slice-4.ensures.value ∙ gates_are p.platform c.as_slice-2.result.now c.in_ok-gates.gates.items (c.as_slice-2.ensures.value ∙ e) (c.in_ok-gates.ensures ∙ ap (λ (x : Platform). map (gates_at x) c.as_slice-2.result.now) c.platform.ensures.same) in
    let may = may_open p c.in_ok-objects.objects.items c.as_slice-3.result.now c.as_slice-4.result.now c.platform.ensures.valid.shape.bounded c.platform.ensures.valid.limits planned gates in
    (may.long, may.some_objects)

pub new-made-requires-clause-few : goal.new-made-requires-clause-few
new-made-requires-clause-few c =
    let p = c.args.plan.now in
    let e = c.in_ok-objects.ensures.objects in
    let planned : c.as_slice-3.result.now ≡ planned_of p = c.as_slice-3.ensures.value ∙ planned_is p c.as_slice.result.now c.in_ok-planned.planned.items (c.as_slice.ensures.value ∙ e) c.in_ok-planned.ensures in
    let gates : c.as_slice-4.result.now ≡ gates_of p.platform =
    c.as_slice-4.ensures.value ∙ gates_are p.platform c.as_slice-2.result.now c.in_ok-gates.gates.items (c.as_slice-2.ensures.value ∙ e) (c.in_ok-gates.ensures ∙ ap (λ (x : Platform). map (gates_at x) c.as_slice-2.result.now) c.platform.ensures.same) in
    let may = may_open p c.in_ok-objects.objects.items c.as_slice-3.result.now c.as_slice-4.result.now c.platform.ensures.valid.shape.bounded c.platform.ensures.valid.limits planned gates in
    may.few

pub new-made-requires-clause-gates : goal.new-made-requires-clause-gates
new-made-requires-clause-gates c =
    let p = c.args.plan.now in
    let e = c.in_ok-objects.ensures.objects in
    let planned : c.as_slice-3.result.now ≡ planned_of p = c.as_slice-3.ensures.value ∙ planned_is p c.as_slice.result.now c.in_ok-planned.planned.items (c.as_slice.ensures.value ∙ e) c.in_ok-planned.ensures in
    let gates : c.as_slice-4.result.now ≡ gates_of p.platform =
    c.as_slice-4.ensures.value ∙ gates_are p.platform c.as_slice-2.result.now c.in_ok-gates.gates.items (c.as_slice-2.ensures.value ∙ e) (c.in_ok-gates.ensures ∙ ap (λ (x : Platform). map (gates_at x) c.as_slice-2.result.now) c.platform.ensures.same) in
    let may = may_open p c.in_ok-objects.objects.items c.as_slice-3.result.now c.as_slice-4.result.now c.platform.ensures.valid.shape.bounded c.platform.ensures.valid.limits planned gates in
    may.few_gates

pub returns : goal.returns
returns c =
    let p = c.args.plan.now in
    let e = c.in_ok-objects.ensures.objects in
    let planned : c.as_slice-3.result.now ≡ planned_of p = c.as_slice-3.ensures.value ∙ planned_is p c.as_slice.result.now c.in_ok-planned.planned.items (c.as_slice.ensures.value ∙ e) c.in_ok-planned.ensures in
    let gates : c.as_slice-4.result.now ≡ gates_of p.platform =
    c.as_slice-4.ensures.value ∙ gates_are p.platform c.as_slice-2.result.now c.in_ok-gates.gates.items (c.as_slice-2.ensures.value ∙ e) (c.in_ok-gates.ensures ∙ ap (λ (x : Platform). map (gates_at x) c.as_slice-2.result.now) c.platform.ensures.same) in
    frame_is p c.in_ok-history.history.frame c.as_slice-3.result.now c.as_slice-4.result.now c.notes_of-notes.result c.in_ok-history.ensures.frame planned gates c.notes_of-notes.ensures.notes

pub invariant_of-result : goal.invariant_of-result
invariant_of-result c =
    let p = c.args.plan.now in
    let e = c.in_ok-objects.ensures.objects in
    let planned : c.as_slice-3.result.now ≡ planned_of p = c.as_slice-3.ensures.value ∙ planned_is p c.as_slice.result.now c.in_ok-planned.planned.items (c.as_slice.ensures.value ∙ e) c.in_ok-planned.ensures in
    let gates : c.as_slice-4.result.now ≡ gates_of p.platform =
    c.as_slice-4.ensures.value ∙ gates_are p.platform c.as_slice-2.result.now c.in_ok-gates.gates.items (c.as_slice-2.ensures.value ∙ e) (c.in_ok-gates.ensures ∙ ap (λ (x : Platform). map (gates_at x) c.as_slice-2.result.now) c.platform.ensures.same) in
    let h = c.in_ok-history.ensures in
    let frame : c.in_ok-history.history.frame ≡ frame_of p = frame_is p c.in_ok-history.history.frame c.as_slice-3.result.now c.as_slice-4.result.now c.notes_of-notes.result h.frame planned gates c.notes_of-notes.ensures.notes in
    let same : length c.as_slice-3.result.now ≡ length c.in_ok-history.history.frame.planned = sym (ap length h.frame.1) in
    let count : length c.in_ok-objects.objects.items ≡ length c.in_ok-history.history.frame.planned = ap length e ∙ (sym (count_planned p) ∙ (sym (ap length planned) ∙ same)) in
    record {
      made = frame_again p c.in_ok-history.history.frame frame;
      seat_count = h.seats.0 ∙ same;
      seats_fresh = h.seats.1;
      note_of = h.note.0;
      note_knows = h.note.1 ∙ ap (counting c.in_ok-history.history.frame) same;
      book_count = (let a = c.in_ok-tickets.ensures.count in let b = c.len.ensures in let d = c.in_ok-objects.objects.ok.0 in omega (arith, count));
      books_fresh = c.in_ok-tickets.ensures.fresh;
    }
