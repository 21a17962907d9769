-- Runs and their members of the rounds.
use Rattle.std.proofs.Common.{◌≡◌, ◌≢◌, ℕ, zero, suc, ◌+◌, ◌^◌, ◌<◌, ◌≤◌, Bool, true, false, not, ◌&&◌, cond, ltb, List, [], ◌∷◌, length, set, Option, Some, None, refl, sym, ap, subst, ◌∙◌, ⊎_elim, arith}
use Rattle.std.specs.List.{position_or_len}
use Rattle.std.proofs.lemmas.Bool.{ltb-true, le-ltb, cases_lt, cases_eq, false≢true}
use Rattle.std.proofs.lemmas.List.{get_or-set_same, get_or-set_other, set-get_or}
use Rattle.std.proofs.lemmas.List.Sums.{passes_at_first}
use Rattle.time_board.specs.declared.rounds.Member.{Member}
use Rattle.time_board.specs.declared.rounds.Advance.{Advance}
use Rattle.time_board.specs.declared.rounds.Advance.TheVariants.{Advanced, NotYet}
use Rattle.time_board.specs.Rounds.{AreClose, answer_at, answer_of, first_behind, is_behind, member_of, members_after, members_at, members_finished, next_round}
use Rattle.time_board.proofs.Tallies.{unfinished_is_member}
use Rattle.initiator_run.specs.Board.{HasGoneOn, IsInRound, IsNear, IsWaiting, SyncsOnce}
use Rattle.initiator_run.specs.Run.{Run}

-- a member that isn't there
abbrev pub absent : Member
absent = record { round = 0; finished = true }

abbrev pub at_round : ℕ → Bool → Member
at_round round finished = record { round = round; finished = finished }

pub member_set : (members : List Member) (n : ℕ) (m : Member) → n < length members → member_of (set members n m) n ≡ m
member_set members n m within = get_or-set_same members n m absent within

pub member_other : (members : List Member) (n k : ℕ) (m : Member) → k ≢ n → member_of (set members n m) k ≡ member_of members k
member_other members n k m other = get_or-set_other members n k m absent other

-- who is behind a round
pub record IsBehind (members : List Member) (round k : ℕ) : Type 0 where
  pub unfinished : (member_of members k).finished ≡ false
  pub behind : (member_of members k).round < round

behind_means : (finished : Bool) (round at : ℕ) → (not finished && ltb round at) ≡ true → (finished ≡ false) × (round < at)
behind_means true round at holds = absurd (false≢true holds)
behind_means false round at holds = (refl, ltb-true round at holds)

pub first_is_behind : (members : List Member) (round k : ℕ) → first_behind members round ≡ Some k → IsBehind members round k
first_is_behind members round k first =
    let n = position_or_len (is_behind round) members in
    ⊎_elim
    (λ (within : n < length members).
    let same : n ≡ k = found n (length members) k within first in
    let means = behind_means (member_of members n).finished (member_of members n).round round (passes_at_first (is_behind round) members absent within) in
    subst (IsBehind members round) same (record { unfinished = means.0; behind = means.1 }))
    (λ (past : length members ≤ n). absurd (nothing n (length members) k past first))
    (cases_lt n (length members))
  where
    found : (n size k : ℕ) → n < size → cond (ltb n size) (Some n) None ≡ Some k → n ≡ k
    found n size k within is = grind (arith)

    nothing : (n size k : ℕ) → size ≤ n → cond (ltb n size) (Some n) None ≡ Some k → ⊥
    nothing n size k past is =
        let none : None ≡ Some k = sym (ap (λ (b : Bool). cond b (Some n) None) (le-ltb n size past)) ∙ is in
        cc

-- a member that is set to what it is
pub set_own : (members : List Member) (n : ℕ) (m : Member) → member_of members n ≡ m → set members n m ≡ members
set_own members n m is = ap (set members n) (sym is) ∙ set-get_or members n absent

set_twice : (members : List Member) (n : ℕ) (a b : Member) → set (set members n a) n b ≡ set members n b
set_twice [] n a b = refl
set_twice (x ∷ members) zero a b = refl
set_twice (x ∷ members) (suc n) a b = ap (λ (l : List Member). x ∷ l) (set_twice members n a b)

-- who is close to an unfinished member is near its round
pub near_of : (members : List Member) (n round : ℕ) → AreClose members → member_of members n ≡ at_round round false → IsNear members round
near_of members n round close is k unfinished =
    let near = close k n unfinished (ap (λ (m : Member). m.finished) is) in
    let same : (member_of members n).round ≡ round = ap (λ (m : Member). m.round) is in
    omega arith

-- the member of a run that goes on
pub member_is : (members : List Member) (n : ℕ) (r : Run) → IsInRound members n r → r.finished ≡ false → member_of members n ≡ at_round r.round false
member_is members n r is going = is.member ∙ ap (at_round r.round) going

pub HasGoneOn-same : (members : List Member) (r : Run) → IsInRound members r.engine.initiator r → r.finished ≡ false → AreClose members → HasGoneOn r r members members
HasGoneOn-same members r is going close = record {
  member = sym (set_own members r.engine.initiator (at_round r.round r.finished) is.member);
  more = omega arith;
  reached = is.reached;
  ahead = is.ahead;
  close = close;
  near = near_of members r.engine.initiator r.round close (member_is members r.engine.initiator r is going);
}

pub HasGoneOn-then : (a b c : Run) (before middle after : List Member) → b.engine.initiator ≡ a.engine.initiator → HasGoneOn a b before middle → HasGoneOn b c middle after → HasGoneOn a c before after
HasGoneOn-then a b c before middle after same first second =
    let n = a.engine.initiator in
    let here = at_round b.round b.finished in
    let next = at_round c.round c.finished in
    let member : after ≡ set before n next =
    second.member
    ∙ (ap (λ (k : ℕ). set middle k next) same
    ∙ (ap (λ (l : List Member). set l n next) first.member ∙ set_twice before n here next)) in
    record {
      member = member;
      more = omega (arith, first.more, second.more);
      reached = second.reached;
      ahead = second.ahead;
      close = second.close;
      near = second.near;
    }

-- the run of a member that has gone on
pub IsInRound-gone : (a b : Run) (before after : List Member) → IsInRound before a.engine.initiator a → a.finished ≡ false → HasGoneOn a b before after → (b.finished ≡ true → b.round ≡ b.syncs) → IsInRound after a.engine.initiator b
IsInRound-gone a b before after is going gone through =
    let within = unfinished_is_member before a.engine.initiator (ap (λ (m : Member). m.finished) (member_is before a.engine.initiator a is going)) in
    record {
      member = ap (λ (l : List Member). member_of l a.engine.initiator) gone.member ∙ member_set before a.engine.initiator (at_round b.round b.finished) within;
      reached = gone.reached;
      ahead = gone.ahead;
      through = through;
    }

-- a run that has made moves without an entry
pub HasGoneOn-moved : (a b c : Run) (before after : List Member) → HasGoneOn a b before after → b.round ≡ b.syncs → SyncsOnce b c → c.finished ≡ b.finished → HasGoneOn a c before after
HasGoneOn-moved a b c before after gone let_in once finished = record {
  member = gone.member ∙ (ap (λ (n : ℕ). set before a.engine.initiator (at_round n b.finished)) (sym once.round) ∙ ap (λ (f : Bool). set before a.engine.initiator (at_round c.round f)) (sym finished));
  more = omega (arith, gone.more, once.round);
  reached = omega (arith, once.round, once.more);
  ahead = omega (arith, once.round, once.once);
  close = gone.close;
  near = λ k unfinished. omega (arith, gone.near k unfinished, once.round);
}

-- a run whose member has finished
pub HasGoneOn-finished : (a b c : Run) (before middle after : List Member) → IsInRound before a.engine.initiator a → a.finished ≡ false → b.finished ≡ false → HasGoneOn a b before middle → b.round ≡ b.syncs → c.round ≡ b.round → c.syncs ≡ b.syncs → c.finished ≡ true
    → after ≡ members_finished middle a.engine.initiator → AreClose after → HasGoneOn a c before after
HasGoneOn-finished a b c before middle after is going still gone let_in round syncs finished left close =
    let n = a.engine.initiator in
    let here = IsInRound-gone a b before middle is going gone (λ f. let_in) in
    let within = unfinished_is_member middle n (ap (λ (m : Member). m.finished) (member_is middle n b here still)) in
    let own : after ≡ set middle n (at_round c.round c.finished) =
    left
    ∙ (ap (λ (k : ℕ). set middle n (at_round k true)) (ap (λ (m : Member). m.round) here.member ∙ sym round)
    ∙ ap (λ (f : Bool). set middle n (at_round c.round f)) (sym finished)) in
    let now : member_of after n ≡ at_round c.round c.finished = ap (λ (l : List Member). member_of l n) own ∙ member_set middle n (at_round c.round c.finished) within in
    record {
      member = own ∙ (ap (λ (l : List Member). set l n (at_round c.round c.finished)) gone.member ∙ set_twice before n (at_round b.round b.finished) (at_round c.round c.finished));
      more = omega (arith, gone.more);
      reached = omega (arith, let_in);
      ahead = omega (arith, let_in);
      close = close;
      near = λ k unfinished.
          ⊎_elim
          (λ (same : k ≡ n). absurd (false≢true (sym unfinished ∙ (ap (λ (x : ℕ). (member_of after x).finished) same ∙ (ap (λ (m : Member). m.finished) now ∙ finished)))))
          (λ (other : k ≢ n).
          let same : member_of after k ≡ member_of middle k = ap (λ (l : List Member). member_of l k) own ∙ member_other middle n k (at_round c.round c.finished) other in
          let near = gone.near k (sym (ap (λ (m : Member). m.finished) same) ∙ unfinished) in
          let that = ap (λ (m : Member). m.round) same in
          omega (arith, round))
          (cases_eq k n);
    }

-- what an advance answers, and leaves
answer_is : (members : List Member) (n : ℕ) (r : Run) → member_of members n ≡ at_round r.round false → answer_of members n ≡ answer_at members r.round (first_behind members r.round)
answer_is members n r is = ap (λ (m : Member). cond m.finished (Advanced 0) (answer_at members m.round (first_behind members m.round))) is

after_is : (members : List Member) (n : ℕ) (r : Run) → member_of members n ≡ at_round r.round false → members_after members n ≡ members_at members n r.round (first_behind members r.round)
after_is members n r is = ap (λ (m : Member). cond m.finished members (members_at members n m.round (first_behind members m.round))) is

-- the member is let into the next round
record IsLetOn (members after : List Member) (n : ℕ) (r : Run) (round : ℕ) : Type 0 where
  pub next : round ≡ next_round r.round
  pub member : after ≡ set members n (at_round round false)

let_on : (members after : List Member) (n : ℕ) (r : Run) (round : ℕ) (o : Option ℕ) → answer_at members r.round o ≡ Advanced round → after ≡ members_at members n r.round o → IsLetOn members after n r round
let_on members after n r round None answer left =
    let next : round ≡ next_round r.round = same (next_round r.round) round answer in
    record { next = next; member = left ∙ ap (λ (k : ℕ). set members n (at_round k false)) (sym next) }
  where
    same : (a b : ℕ) → Advanced a ≡ Advanced b → b ≡ a
    same a b is = cc
let_on members after n r round (Some k) answer left = cc

pub HasGoneOn-let : (members after : List Member) (r : Run) (answer : Advance) (round : ℕ) → IsInRound members r.engine.initiator r → r.finished ≡ false → r.syncs < 2 ^ 64 → (r.round ≡ r.syncs → ⊥) → AreClose after
    → answer ≡ answer_of members r.engine.initiator → after ≡ members_after members r.engine.initiator → answer ≡ Advanced round
    → HasGoneOn r (record r { round = round }) members after × (round ≡ r.syncs)
HasGoneOn-let members after r answer round is going few held close answered left how =
    let n = r.engine.initiator in
    let mine = member_is members n r is going in
    let on = let_on members after n r round (first_behind members r.round) (sym (answer_is members n r mine) ∙ (sym answered ∙ how)) (left ∙ after_is members n r mine) in
    let next : round ≡ r.round + 1 = next_is r.round r.syncs round is.reached held few on.next in
    let within = unfinished_is_member members n (ap (λ (m : Member). m.finished) mine) in
    let own : member_of after n ≡ at_round round false = ap (λ (l : List Member). member_of l n) on.member ∙ member_set members n (at_round round false) within in
    let top : round ≡ r.syncs = last r.round r.syncs round next is.reached is.ahead held in (
      record {
        member = on.member ∙ ap (λ (f : Bool). set members n (at_round round f)) (sym going);
        more = omega arith;
        reached = omega arith;
        ahead = omega arith;
        close = close;
        near = near_of after n round close own;
      },
      top,
    )
  where
    next_is : (a syncs b : ℕ) → a ≤ syncs → (a ≡ syncs → ⊥) → syncs < 2 ^ 64 → b ≡ next_round a → b ≡ a + 1
    next_is a syncs b less apart few is = omega arith

    last : (a syncs b : ℕ) → b ≡ a + 1 → a ≤ syncs → syncs ≤ a + 1 → (a ≡ syncs → ⊥) → b ≡ syncs
    last a syncs b is less more apart = omega arith

-- the member is held back
record IsHeld (members after : List Member) (round : ℕ) : Type 0 where
  pub other : ℕ
  pub is : IsBehind members round other
  pub same : after ≡ members

held_by : (members after : List Member) (n round k at : ℕ) (o : Option ℕ) → first_behind members round ≡ o → answer_at members round o ≡ NotYet k at → after ≡ members_at members n round o → IsHeld members after round
held_by members after n round k at None first answer left = cc
held_by members after n round k at (Some j) first answer left = record { other = j; is = first_is_behind members round j first; same = left }

pub HasGoneOn-held : (members after : List Member) (r : Run) (answer : Advance) (k at : ℕ) → IsInRound members r.engine.initiator r → r.finished ≡ false → (r.round ≡ r.syncs → ⊥) → AreClose members
    → answer ≡ answer_of members r.engine.initiator → after ≡ members_after members r.engine.initiator → answer ≡ NotYet k at
    → HasGoneOn r r members after × IsWaiting after r
HasGoneOn-held members after r answer k at is going apart close answered left how =
    let n = r.engine.initiator in
    let mine = member_is members n r is going in
    let held = held_by members after n r.round k at (first_behind members r.round) refl (sym (answer_is members n r mine) ∙ (sym answered ∙ how)) (left ∙ after_is members n r mine) in (
      subst (λ (l : List Member). HasGoneOn r r members l) (sym held.same) (HasGoneOn-same members r is going close),
      subst (λ (l : List Member). IsWaiting l r) (sym held.same) (record { held = below r.round r.syncs is.reached apart; other = held.other; unfinished = held.is.unfinished; behind = held.is.behind }),
    )
  where
    below : (a b : ℕ) → a ≤ b → (a ≡ b → ⊥) → a < b
    below a b less apart = omega arith
