use Rattle.std.proofs.Common.{Bor, List, ℕ, Some, None, slice_get, subst, ap, refl, sym, ◌∙◌}
use Rattle.std.specs.Prelude.{option_map}
use Rattle.tlm_types.specs.Entries.{facts_of, read_at}
use Rattle.tlm_types.specs.declared.entry.Entry.{Entry}
use Rattle.entry_log.proofs.Accesses.{IsRead, read_as, read_no_place, read_place}
use Rattle.entry_log.proofs.Pasts.{stored_whole}
use Rattle.entry_log.proofs.Stored.{read_at-facts}
use Rattle.entry_log.proofs.log.Log.read.Goals as goal
use Rattle.entry_log.proofs.log.Log.read.Goals.{in-Some, in-None}

pub returns-in_err-access : goal.returns-in_err-access
returns-in_err-access c =
    let s = c.self.inside in
    let i = c.args.index in
    let none = read_no_place s.items.items i (sym c.access.ensures.access ∙ ap (option_map (λ r. r.0)) c.in_err-access.was) in
    let same = stored_whole s c.args.self.now c.self.invariant.before c.self.view_is c.requires.whole in
    rw c.from_residual.ensures (ap (λ (es : List Entry). read_at facts_of es i) (sym same) ∙ read_at-facts s.bytes.items s.items.items i ∙ none)

pub logged-requires-clause-ordered : goal.logged-requires-clause-ordered
logged-requires-clause-ordered c =
    let s = c.self.inside in
    let own = c.in-Some.own.now in
    let same = ap (option_map (λ (b : Bor (List ℕ)). b.now)) (sym c.in-Some.is) ∙ c.in_ok-access.ensures.own in
    let r = read_place s.bytes.items own s.items.items c.args.index (Some own) c.in_ok-access.access c.self.invariant.kept c.in_ok-access.ensures.access same refl in
    (r.sent_from, r.enables_from, r.got_from)

pub logged-requires-clause-within : goal.logged-requires-clause-within
logged-requires-clause-within c =
    let s = c.self.inside in
    let own = c.in-Some.own.now in
    let same = ap (option_map (λ (b : Bor (List ℕ)). b.now)) (sym c.in-Some.is) ∙ c.in_ok-access.ensures.own in
    let r = read_place s.bytes.items own s.items.items c.args.index (Some own) c.in_ok-access.access c.self.invariant.kept c.in_ok-access.ensures.access same refl in
    r.got_to

pub logged-requires-in-None-clause-ordered : goal.logged-requires-in-None-clause-ordered
logged-requires-in-None-clause-ordered c =
    let s = c.self.inside in
    let same = ap (option_map (λ (b : Bor (List ℕ)). b.now)) (sym c.in-None.is) ∙ c.in_ok-access.ensures.own in
    let r = read_place s.bytes.items c.as_slice-bytes.result.now s.items.items c.args.index None c.in_ok-access.access c.self.invariant.kept c.in_ok-access.ensures.access same c.as_slice-bytes.ensures.value in
    (r.sent_from, r.enables_from, r.got_from)

pub logged-requires-in-None-clause-within : goal.logged-requires-in-None-clause-within
logged-requires-in-None-clause-within c =
    let s = c.self.inside in
    let same = ap (option_map (λ (b : Bor (List ℕ)). b.now)) (sym c.in-None.is) ∙ c.in_ok-access.ensures.own in
    let r = read_place s.bytes.items c.as_slice-bytes.result.now s.items.items c.args.index None c.in_ok-access.access c.self.invariant.kept c.in_ok-access.ensures.access same c.as_slice-bytes.ensures.value in
    r.got_to

pub returns : goal.returns
returns c =
    let s = c.self.inside in
    let i = c.args.index in
    let a = c.in_ok-access.access in
    let es = c.args.self.now.entries in
    let whole = stored_whole s c.args.self.now c.self.invariant.before c.self.view_is c.requires.whole in
    elim c.match-own.branch [
      | in-Some w ↦
          let own = w.in-Some.own.now in
          let same = ap (option_map (λ (b : Bor (List ℕ)). b.now)) (sym w.in-Some.is) ∙ c.in_ok-access.ensures.own in
          let r = read_place s.bytes.items own s.items.items i (Some own) a c.self.invariant.kept c.in_ok-access.ensures.access same refl in
          let r' = subst (λ (es : List Entry). IsRead own (slice_get es i) a) whole r in
          rw w.result-is (read_as es i own a w.logged.result r' w.logged.ensures.plain w.logged.ensures.sent w.logged.ensures.enables w.logged.ensures.got)
      | in-None w ↦
          let now = c.as_slice-bytes.result.now in
          let same = ap (option_map (λ (b : Bor (List ℕ)). b.now)) (sym w.in-None.is) ∙ c.in_ok-access.ensures.own in
          let r = read_place s.bytes.items now s.items.items i None a c.self.invariant.kept c.in_ok-access.ensures.access same c.as_slice-bytes.ensures.value in
          let r' = subst (λ (es : List Entry). IsRead now (slice_get es i) a) whole r in
          rw w.result-is (read_as es i now a w.logged-in-None.result r' w.logged-in-None.ensures.plain w.logged-in-None.ensures.sent w.logged-in-None.ensures.enables w.logged-in-None.ensures.got)
    ]
