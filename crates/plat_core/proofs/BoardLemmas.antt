-- The members of a core's runs, of which one goes on.
use Rattle.std.proofs.Common.{◌≡◌, ◌≢◌, ℕ, ◌<◌, ◌≤◌, false, List, length, set, sym, ap, ◌∙◌, ⊎_elim, arith}
use Rattle.std.proofs.lemmas.Bool.{cases_eq}
use Rattle.time_board.specs.declared.rounds.Member.{Member}
use Rattle.time_board.specs.Rounds.{member_of}
use Rattle.time_board.proofs.Tallies.{unfinished_is_member}
use Rattle.initiator_run.specs.Board.{HasGoneOn, IsInRound, IsNear, IsWaiting}
use Rattle.plat_core.specs.Rounds.{IsHeldBack}
use Rattle.initiator_run.specs.Run.{Run}
use Rattle.initiator_run.proofs.BoardLemmas.{at_round, member_is, member_other, member_set}

-- what is known of a member that goes on
pub record HasMember (members after : List Member) (n : ℕ) (old new : Run) : Type 0 where
  pub within : n < length members
  pub was : member_of members n ≡ at_round old.round false
  pub set : after ≡ set members n (at_round new.round new.finished)
  pub now : member_of after n ≡ at_round new.round new.finished
  pub others : (k : ℕ) → k ≢ n → member_of after k ≡ member_of members k

pub has_member : (members after : List Member) (n : ℕ) (old new : Run) → old.engine.initiator ≡ n → IsInRound members n old → old.finished ≡ false → HasGoneOn old new members after → HasMember members after n old new
has_member members after n old new mine is going gone =
    let was = member_is members n old is going in
    let within = unfinished_is_member members n (ap (λ (m : Member). m.finished) was) in
    let own : after ≡ set members n (at_round new.round new.finished) = gone.member ∙ ap (λ (k : ℕ). set members k (at_round new.round new.finished)) mine in
    record {
      within = within;
      was = was;
      set = own;
      now = ap (λ (l : List Member). member_of l n) own ∙ member_set members n (at_round new.round new.finished) within;
      others = λ k other. ap (λ (l : List Member). member_of l k) own ∙ member_other members n k (at_round new.round new.finished) other;
    }

-- who was near is near
pub near_after : (members after : List Member) (n : ℕ) (old new : Run) (round : ℕ) → HasMember members after n old new → old.round ≤ new.round → IsNear members round → IsNear after round
near_after members after n old new round has more near k unfinished =
    ⊎_elim
    (λ (same : k ≡ n).
    let before = near n (ap (λ (m : Member). m.finished) has.was) in
    let was = ap (λ (m : Member). m.round) has.was in
    let now = ap (λ (x : ℕ). (member_of after x).round) same ∙ ap (λ (m : Member). m.round) has.now in
    omega arith)
    (λ (other : k ≢ n).
    let same = has.others k other in
    let before = near k (sym (ap (λ (m : Member). m.finished) same) ∙ unfinished) in
    let that = ap (λ (m : Member). m.round) same in
    omega arith)
    (cases_eq k n)

-- who goes on is not held back
pub not_held : (members after : List Member) (n due : ℕ) (old new : Run) → HasMember members after n old new → HasGoneOn old new members after → due ≡ new.round → IsHeldBack members n due → ⊥
not_held members after n due old new has gone is held =
    let same = has.others held.other held.apart in
    let near = gone.near held.other (ap (λ (m : Member). m.finished) same ∙ held.unfinished) in
    let that = ap (λ (m : Member). m.round) same in
    let behind = held.behind in
    omega arith

-- nor is who has finished
pub not_held_done : (members : List Member) (n due : ℕ) (r : Run) → IsInRound members n r → due ≡ r.round → ((k : ℕ) → IsNear members (member_of members k).round) → IsHeldBack members n due → ⊥
not_held_done members n due r is same close held =
    let near = close n held.other held.unfinished in
    let own = ap (λ (m : Member). m.round) is.member in
    let behind = held.behind in
    omega arith

-- who waits is held back
pub is_held : (members after : List Member) (n due : ℕ) (old new : Run) → HasMember members after n old new → IsWaiting after new → new.syncs ≤ due → IsHeldBack members n due
is_held members after n due old new has waits later =
    ⊎_elim
    (λ (same : waits.other ≡ n).
    let now = ap (λ (x : ℕ). (member_of after x).round) same ∙ ap (λ (m : Member). m.round) has.now in
    let behind = waits.behind in
    absurd (omega arith))
    (λ (other : waits.other ≢ n).
    let same = has.others waits.other other in
    let that = ap (λ (m : Member). m.round) same in
    let behind = waits.behind in
    let held = waits.held in
    record { other = waits.other; apart = other; unfinished = sym (ap (λ (m : Member). m.finished) same) ∙ waits.unfinished; behind = omega arith })
    (cases_eq waits.other n)
