-- What a step of one member does to the tally.
use Rattle.std.proofs.Common.{◌≡◌, ◌≢◌, ℕ, suc, ◌+◌, ◌-◌, ◌<◌, ◌≤◌, Bool, true, false, not, ◌&&◌, cond, eqb, ltb, List, [], ◌∷◌, length, set, Option, Some, None, IsSome, count_by, refl, sym, ap, subst, ◌∙◌, ⊎_elim, arith}
use Rattle.std.proofs.lemmas.Bool.{eq-eqb, ne_eqb, lt-ltb, le-ltb, ltb-true, cases_lt, cases_eq, false≢true}
use Rattle.std.proofs.lemmas.List.{get_or_past, get_or-set_same, get_or-set_other, length-set}
use Rattle.std.proofs.lemmas.List.Sums.{sum_by-set, sum_by-cons, get_or-le-sum_by, count_by-le-length, fails_before_first, passes_at_first}
use Rattle.std.specs.List.{position_or_len}
use Rattle.time_board.specs.declared.rounds.Member.{Member}
use Rattle.time_board.specs.declared.tally.Tally.{Tally}
use Rattle.time_board.specs.declared.rounds.Advance.TheVariants.{Advanced}
use Rattle.time_board.specs.Rounds.{member_of, is_behind, first_behind, next_round, answer_at, answer_of, members_at, members_after}
use Rattle.time_board.specs.Tally.{is_in, IsWithin, IsTallied}

-- a member of this round that has not finished
abbrev pub running : ℕ → Member
running round = record { round = round; finished = false }

abbrev absent : Member
absent = record { round = 0; finished = true }

abbrev one_if : Bool → ℕ
one_if b = cond b 1 0

one_if-same : (n : ℕ) → one_if (eqb n n) ≡ 1
one_if-same n = ap one_if (eq-eqb n n refl)

one_if-other : (m n : ℕ) → m ≢ n → one_if (eqb m n) ≡ 0
one_if-other m n other = ap one_if (ne_eqb m n other)

is_in-other : (finished : Bool) (round at : ℕ) → (finished ≡ false → round ≢ at) → (not finished && eqb round at) ≡ false
is_in-other true round at other = refl
is_in-other false round at other = ne_eqb round at (other refl)

not_in : (m : Member) (round : ℕ) → (m.finished ≡ false → m.round ≢ round) → is_in round m ≡ false
not_in m round other = is_in-other m.finished m.round round other

is_in-unfinished : (finished : Bool) (round at : ℕ) → finished ≡ false → round ≡ at → (not finished && eqb round at) ≡ true
is_in-unfinished true round at against same = absurd (false≢true (sym against))
is_in-unfinished false round at against same = eq-eqb round at same

behind_means : (finished : Bool) (round at : ℕ) → (not finished && ltb round at) ≡ true → (finished ≡ false) × (round < at)
behind_means true round at holds = absurd (false≢true holds)
behind_means false round at holds = (refl, ltb-true round at holds)

not_behind_means : (finished : Bool) (round at : ℕ) → (not finished && ltb round at) ≡ false → finished ≡ false → at ≤ round
not_behind_means true round at against unfinished = absurd (false≢true (sym unfinished))
not_behind_means false round at against unfinished =
    ⊎_elim (λ (below : round < at). absurd (false≢true (sym against ∙ lt-ltb round at below))) (λ (above : at ≤ round). above) (cases_lt round at)

-- what none passes is counted 0 times
count_by-none : (p : Member → Bool) (xs : List Member) → ((k : ℕ) → k < length xs → p (member_of xs k) ≡ false) → count_by p xs ≡ 0
count_by-none p [] none = refl
count_by-none p (x ∷ xs) none =
    let first : one_if (p x) ≡ 0 = ap one_if (none 0 (omega arith)) in
    let rest : count_by p xs ≡ 0 = count_by-none p xs (λ k within. none (suc k) (omega arith)) in
    omega (arith, sum_by-cons (λ (m : Member). one_if (p m)) x xs)

-- what one passes is counted
count_by-some : (p : Member → Bool) (xs : List Member) (k : ℕ) → k < length xs → p (member_of xs k) ≡ true → 0 < count_by p xs
count_by-some p xs k within passes =
    let one : one_if (p (member_of xs k)) ≡ 1 = ap one_if passes in
    omega (arith, get_or-le-sum_by (λ (m : Member). one_if (p m)) xs k absent within)

-- who has not finished is a member
pub unfinished_is_member : (members : List Member) (who : ℕ) → (member_of members who).finished ≡ false → who < length members
unfinished_is_member members who unfinished =
    ⊎_elim (λ (within : who < length members). within)
    (λ (past : length members ≤ who). absurd (false≢true (sym unfinished ∙ ap (λ (m : Member). m.finished) (get_or_past members who absent past))))
    (cases_lt who (length members))

-- where a member has not finished and is in a lower round, somebody is behind
first_behind-some : (members : List Member) (round k : ℕ) → (member_of members k).finished ≡ false → (member_of members k).round < round → IsSome (first_behind members round)
first_behind-some members round k unfinished below =
    let p = is_behind round in
    let m = member_of members k in
    let n = position_or_len p members in
    ⊎_elim
    (λ (within : n < length members). subst (λ (b : Bool). IsSome (cond b (Some n) None)) (sym (lt-ltb n (length members) within)) refl)
    (λ (past : length members ≤ n).
    let passed : p m ≡ false = fails_before_first p members k absent (omega (arith, unfinished_is_member members k unfinished)) in
    absurd (omega (arith, not_behind_means m.finished m.round round passed unfinished)))
    (cases_lt n (length members))

-- what holds of each member and of the new one holds of each after the change
each_set : (P : Member → Type 0) (members : List Member) (who : ℕ) (new : Member) → who < length members → P new → ((k : ℕ) → P (member_of members k)) → (k : ℕ) → P (member_of (set members who new) k)
each_set P members who new within here each k =
    ⊎_elim
    (λ (same : k ≡ who). subst P (sym (ap (member_of (set members who new)) same ∙ get_or-set_same members who new absent within)) here)
    (λ (other : k ≢ who). subst P (sym (get_or-set_other members who k new absent other)) (each k))
    (cases_eq k who)

module _ (members : List Member) (t : Tally) (tallied : IsTallied members t) where
  -- where nobody is counted in the lowest round, each unfinished member is in the next one
  above_lowest : t.behind ≡ 0 → (k : ℕ) → (member_of members k).finished ≡ false → (member_of members k).round ≡ t.lowest + 1
  above_lowest empty k unfinished =
      let round = (member_of members k).round in
      ⊎_elim
      (λ (same : round ≡ t.lowest).
      let counted = count_by-some (is_in t.lowest) members k (unfinished_is_member members k unfinished) (is_in-unfinished _ _ _ unfinished same) in
      absurd (omega (arith, tallied.lower)))
      (λ (other : round ≢ t.lowest). omega (arith, (tallied.within k unfinished).0, (tallied.within k unfinished).1))
      (cases_eq round t.lowest)

  nobody_above : t.behind ≡ 0 → (k : ℕ) → is_in (t.lowest + 1 + 1) (member_of members k) ≡ false
  nobody_above empty k =
      not_in (member_of members k) (t.lowest + 1 + 1) (λ unfinished same. omega (arith, above_lowest empty k unfinished))

  -- where nobody is behind, the round of an unfinished member may be the lowest
  raised : t.behind ≡ 0 → IsTallied members (record { lowest = t.lowest + 1; behind = t.ahead; ahead = 0 })
  raised empty =
      record {
        within =
            λ k unfinished.
            let at = above_lowest empty k unfinished in
            (omega arith, omega arith);
        lower = tallied.upper;
        upper =
            count_by-none (is_in (t.lowest + 1 + 1)) members (λ k within. nobody_above empty k);
        few = tallied.few;
      }

  pub tallied_leveled : (level : Tally) (who round : ℕ) → member_of members who ≡ running round → ((t.lowest < round) × (0 < t.behind) → ⊥) → (round ≤ t.lowest → level ≡ t) → (t.lowest < round → level ≡ record { lowest = round; behind = t.ahead; ahead = 0 }) → IsTallied members level × (level.lowest ≡ round)
  tallied_leveled level who round is free same up =
      let within = tallied.within who (ap (λ (m : Member). m.finished) is) in
      let here : (member_of members who).round ≡ round = ap (λ (m : Member). m.round) is in
      ⊎_elim
      (λ (above : t.lowest < round).
      let next : t.lowest + 1 ≡ round = omega (arith, within.1) in
      let empty : t.behind ≡ 0 = ⊎_elim (λ (some : 0 < t.behind). absurd (free (above, some))) (λ (none : t.behind ≤ 0). omega arith) (cases_lt 0 t.behind) in
      let now : IsTallied members (record { lowest = round; behind = t.ahead; ahead = 0 }) = subst (λ (n : ℕ). IsTallied members (record { lowest = n; behind = t.ahead; ahead = 0 })) next (raised empty) in
      (subst (IsTallied members) (sym (up above)) now, ap (λ (u : Tally). u.lowest) (up above)))
      (λ (below : round ≤ t.lowest).
      let at : t.lowest ≡ round = omega (arith, within.0) in
      (subst (IsTallied members) (sym (same below)) tallied, ap (λ (u : Tally). u.lowest) (same below) ∙ at))
      (cases_lt t.lowest round)

  -- a member of the lowest round goes on
  pub tallied_moved : (who : ℕ) → member_of members who ≡ running t.lowest → IsTallied (set members who (running (t.lowest + 1))) (record { lowest = t.lowest; behind = t.behind - 1; ahead = t.ahead + 1 })
  tallied_moved who is =
      let within : who < length members = unfinished_is_member members who (ap (λ (m : Member). m.finished) is) in
      record {
        within = each_set (IsWithin t.lowest) members who (running (t.lowest + 1)) within (λ _. (omega arith, omega arith)) tallied.within;
        lower =
            let old : one_if (is_in t.lowest (member_of members who)) ≡ 1 = ap (λ (m : Member). one_if (is_in t.lowest m)) is ∙ one_if-same t.lowest in
            let new = one_if-other (t.lowest + 1) t.lowest (λ same. omega arith) in
            omega (arith, tallied.lower, sum_by-set (λ (m : Member). one_if (is_in t.lowest m)) members who (running (t.lowest + 1)) absent within);
        upper =
            let old : one_if (is_in (t.lowest + 1) (member_of members who)) ≡ 0 = ap (λ (m : Member). one_if (is_in (t.lowest + 1) m)) is ∙ one_if-other t.lowest (t.lowest + 1) (λ same. omega arith) in
            let new = one_if-same (t.lowest + 1) in
            omega (arith, tallied.upper, sum_by-set (λ (m : Member). one_if (is_in (t.lowest + 1) m)) members who (running (t.lowest + 1)) absent within);
        few = omega (arith, tallied.few, length-set members who (running (t.lowest + 1)));
      }

  -- after that move fewer are counted in the next round than there can be members
  pub moved_fits : (who : ℕ) → member_of members who ≡ running t.lowest → t.ahead + 1 ≤ length members
  moved_fits who is =
      omega (arith, (tallied_moved who is).upper, count_by-le-length (is_in (t.lowest + 1)) (set members who (running (t.lowest + 1))), length-set members who (running (t.lowest + 1)))

  -- a member finishes
  pub tallied_left : (left : Tally) (who round : ℕ) → member_of members who ≡ running round → (round ≤ t.lowest → left ≡ record { lowest = t.lowest; behind = t.behind - 1; ahead = t.ahead }) → (t.lowest < round → left ≡ record { lowest = t.lowest; behind = t.behind; ahead = t.ahead - 1 }) → IsTallied (set members who (record { round = round; finished = true })) left
  tallied_left left who round is lower upper =
      let done : Member = record { round = round; finished = true } in
      let unfinished = ap (λ (m : Member). m.finished) is in
      let here : (member_of members who).round ≡ round = ap (λ (m : Member). m.round) is in
      let bounds = tallied.within who unfinished in
      let within : who < length members = unfinished_is_member members who unfinished in
      let each : (k : ℕ) → IsWithin t.lowest (member_of (set members who done) k) = each_set (IsWithin t.lowest) members who done within (λ against. absurd (false≢true (sym against))) tallied.within in
      let count : (n : ℕ) → count_by (is_in n) (set members who done) + one_if (is_in n (member_of members who)) ≡ count_by (is_in n) members + 0 = λ n. sum_by-set (λ (m : Member). one_if (is_in n m)) members who done absent within in
      let few : length (set members who done) < 4294967296 = omega (arith, tallied.few, length-set members who done) in
      ⊎_elim
      (λ (above : t.lowest < round).
      let next : round ≡ t.lowest + 1 = omega (arith, bounds.1) in
      let old_lower : one_if (is_in t.lowest (member_of members who)) ≡ 0 = ap (λ (m : Member). one_if (is_in t.lowest m)) is ∙ one_if-other round t.lowest (λ same. omega arith) in
      let old_upper : one_if (is_in (t.lowest + 1) (member_of members who)) ≡ 1 = ap (λ (m : Member). one_if (is_in (t.lowest + 1) m)) is ∙ ap one_if (eq-eqb round (t.lowest + 1) next) in
      subst (IsTallied (set members who done)) (sym (upper above))
      (record { within = each; lower = omega (arith, tallied.lower, count t.lowest); upper = omega (arith, tallied.upper, count (t.lowest + 1)); few = few }))
      (λ (below : round ≤ t.lowest).
      let at : round ≡ t.lowest = omega (arith, bounds.0) in
      let old_lower : one_if (is_in t.lowest (member_of members who)) ≡ 1 = ap (λ (m : Member). one_if (is_in t.lowest m)) is ∙ ap one_if (eq-eqb round t.lowest at) in
      let old_upper : one_if (is_in (t.lowest + 1) (member_of members who)) ≡ 0 = ap (λ (m : Member). one_if (is_in (t.lowest + 1) m)) is ∙ one_if-other round (t.lowest + 1) (λ same. omega arith) in
      subst (IsTallied (set members who done)) (sym (lower below))
      (record { within = each; lower = omega (arith, tallied.lower, count t.lowest); upper = omega (arith, tallied.upper, count (t.lowest + 1)); few = few }))
      (cases_lt t.lowest round)

  -- where no lower round has a member, nobody is below
  nobody_below : (who round : ℕ) → member_of members who ≡ running round → ((t.lowest < round) × (0 < t.behind) → ⊥) → (k : ℕ) → (member_of members k).finished ≡ false → round ≤ (member_of members k).round
  nobody_below who round is free k unfinished =
      let within = tallied.within who (ap (λ (m : Member). m.finished) is) in
      let here : (member_of members who).round ≡ round = ap (λ (m : Member). m.round) is in
      ⊎_elim
      (λ (above : t.lowest < round).
      let empty : t.behind ≡ 0 = ⊎_elim (λ (some : 0 < t.behind). absurd (free (above, some))) (λ (none : t.behind ≤ 0). omega arith) (cases_lt 0 t.behind) in
      omega (arith, within.1, above_lowest empty k unfinished))
      (λ (below : round ≤ t.lowest). omega (arith, (tallied.within k unfinished).0))
      (cases_lt t.lowest round)

  -- where no lower round has a member, nobody is behind
  pub first_behind-free : (who round : ℕ) → member_of members who ≡ running round → ((t.lowest < round) × (0 < t.behind) → ⊥) → first_behind members round ≡ None
  first_behind-free who round is free =
      let p = is_behind round in
      let n = position_or_len p members in
      ⊎_elim
      (λ (within : n < length members).
      let m = member_of members n in
      let behind = behind_means m.finished m.round round (passes_at_first p members absent within) in
      absurd (omega (arith, behind.1, nobody_below who round is free n behind.0)))
      (λ (past : length members ≤ n). ap (λ (b : Bool). cond b (Some n) None) (le-ltb n (length members) past))
      (cases_lt n (length members))

  -- where the search for one behind comes to the end, nobody is in the lowest round
  nobody_passed : (round : ℕ) → t.lowest < round → length members ≤ position_or_len (is_behind round) members → (k : ℕ) → k < length members → is_in t.lowest (member_of members k) ≡ false
  nobody_passed round above past k within =
      let m = member_of members k in
      let passed : is_behind round m ≡ false = fails_before_first (is_behind round) members k absent (omega arith) in
      not_in m t.lowest (λ unfinished same. omega (arith, not_behind_means m.finished m.round round passed unfinished))

  -- where a member is counted in a lower round, somebody is behind
  pub first_behind-above : (round : ℕ) → t.lowest < round → 0 < t.behind → IsSome (first_behind members round)
  first_behind-above round above some =
      let p = is_behind round in
      let n = position_or_len p members in
      ⊎_elim
      (λ (within : n < length members). subst (λ (b : Bool). IsSome (cond b (Some n) None)) (sym (lt-ltb n (length members) within)) refl)
      (λ (past : length members ≤ n).
      let none = count_by-none (is_in t.lowest) members (λ k within. nobody_passed round above past k within) in
      absurd (omega (arith, tallied.lower)))
      (cases_lt n (length members))

  -- all unfinished members have reached the lowest round that one is in
  pub reached_by_all : (round : ℕ) → (0 < t.behind → round ≡ t.lowest) → (t.behind ≡ 0 → round ≤ t.lowest + 1) → (k : ℕ) → (member_of members k).finished ≡ false → round ≤ (member_of members k).round
  reached_by_all round lower upper k unfinished =
      ⊎_elim (λ (some : 0 < t.behind). omega (arith, lower some, (tallied.within k unfinished).0))
      (λ (none : t.behind ≤ 0). (let empty : t.behind ≡ 0 = omega arith in omega (arith, upper empty, above_lowest empty k unfinished)))
      (cases_lt 0 t.behind)

  -- and one is in it
  pub reached_by_one : (round : ℕ) → (0 < t.behind → round ≡ t.lowest) → (t.behind ≡ 0 → t.lowest + 1 ≤ round) → (k : ℕ) → (member_of members k).finished ≡ false → IsSome (first_behind members (round + 1))
  reached_by_one round lower upper k unfinished =
      ⊎_elim (λ (some : 0 < t.behind). first_behind-above (round + 1) (omega (arith, lower some)) some)
      (λ (none : t.behind ≤ 0).
      let empty : t.behind ≡ 0 = omega arith in
      first_behind-some members (round + 1) k unfinished (omega (arith, upper empty, above_lowest empty k unfinished)))
      (cases_lt 0 t.behind)

-- what was found is an unfinished member
pub running_from : (found : Member) (xs members : List Member) (who : ℕ) → found ≡ member_of xs who → xs ≡ members → found.finished ≡ false → member_of members who ≡ running found.round
running_from found xs members who is same unfinished =
    ap (λ (ys : List Member). member_of ys who) (sym same) ∙ sym is ∙ ap (λ (b : Bool). record { round = found.round; finished = b }) unfinished

module _ (members : List Member) (who round : ℕ) (is : member_of members who ≡ running round) where
  answer_of-running : answer_of members who ≡ answer_at members round (first_behind members round)
  answer_of-running = ap (λ (m : Member). cond m.finished (Advanced 0) (answer_at members m.round (first_behind members m.round))) is

  members_after-running : members_after members who ≡ members_at members who round (first_behind members round)
  members_after-running = ap (λ (m : Member). cond m.finished members (members_at members who m.round (first_behind members m.round))) is

  pub answer_of-free : first_behind members round ≡ None → answer_of members who ≡ Advanced (next_round round)
  answer_of-free none = answer_of-running ∙ ap (answer_at members round) none

  pub members_after-free : first_behind members round ≡ None → members_after members who ≡ set members who (running (next_round round))
  members_after-free none = members_after-running ∙ ap (members_at members who round) none

  members_at-some : (behind : Option ℕ) → IsSome behind → members_at members who round behind ≡ members
  members_at-some None some = absurd (false≢true some)
  members_at-some (Some k) some = refl

  pub members_after-held : IsSome (first_behind members round) → members_after members who ≡ members
  members_after-held some = members_after-running ∙ members_at-some (first_behind members round) some
