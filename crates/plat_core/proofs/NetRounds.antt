-- A history and the rounds, where only blocking and direct initiators take part in rounds.
use Rattle.std.proofs.Common.{◌≡◌, ℕ, ◌+◌, ◌≤◌, true, false, List, [], ◌∷◌, ◌++◌, sym, ap, subst, ◌∙◌, arith}
use Rattle.std.specs.List.{AllByRecursion}
use Rattle.tlm_types.specs.declared.entry.Entry.{Entry}
use Rattle.tlm_model.specs.Each.{EachFrom}
use Rattle.tlm_model.specs.Plan.{Plan}
use Rattle.tlm_model.proofs.EachLemmas.{AtEach-push}
use Rattle.tlm_model.proofs.HistoryLemmas.{AllByRecursion-push, AllByRecursion-weaker}
use Rattle.time_board.specs.declared.rounds.Member.{Member}
use Rattle.initiator_run.specs.Board.{HasGoneOn, IsNear}
use Rattle.initiator_run.specs.Run.{Run}
use Rattle.plat_core.specs.Rounds.{RoundsOfAll, is_decoupled_entry, round_at}
use Rattle.plat_core.specs.NetRounds.{IsCurrent, StandsInRounds}
use Rattle.plat_core.proofs.BoardLemmas.{HasMember}

-- where all entries are those of blocking and direct initiators
each_kept : (p : Plan) (x : Entry) (before : List Entry) → AllByRecursion (λ (e : Entry). is_decoupled_entry p e ≡ true) before → AllByRecursion (λ (d : Entry). is_decoupled_entry p d ≡ true → round_at p d ≤ round_at p x + 1) before → AllByRecursion (λ (d : Entry). round_at p d ≤ round_at p x + 1) before
each_kept p x [] all kept = tt
each_kept p x (d ∷ before) all kept = (kept.0 all.0, each_kept p x before all.1 kept.1)

all_kept : (p : Plan) (before h : List Entry) → AllByRecursion (λ (e : Entry). is_decoupled_entry p e ≡ true) before → AllByRecursion (λ (e : Entry). is_decoupled_entry p e ≡ true) h
    → EachFrom (λ before e. is_decoupled_entry p e ≡ true → AllByRecursion (λ (d : Entry). is_decoupled_entry p d ≡ true → round_at p d ≤ round_at p e + 1) before) before h → EachFrom (λ before e. AllByRecursion (λ (d : Entry). round_at p d ≤ round_at p e + 1) before) before h
all_kept p before [] early all kept = tt
all_kept p before (e ∷ h) early all kept = (
  each_kept p e before early (kept.0 all.0),
  all_kept p (before ++ e ∷ []) h (AllByRecursion-push (λ (x : Entry). is_decoupled_entry p x ≡ true) before e early all.0) all.1 kept.1,
)

pub rounds_of_all : RoundsOfAll
rounds_of_all p h all kept = all_kept p [] h tt all kept

-- before the first entry
pub none_stands : (p : Plan) (h : List Entry) (members : List Member) → h ≡ [] → StandsInRounds p h members
none_stands p h members empty = subst (λ (l : List Entry). StandsInRounds p l members) (sym empty) (record { near = tt; kept = tt })

-- while no entry is made
pub still_stands : (p : Plan) (h : List Entry) (members after : List Member) → ((round : ℕ) → IsNear members round → IsNear after round) → StandsInRounds p h members → StandsInRounds p h after
still_stands p h members after more stands = record {
  near = AllByRecursion-weaker (λ (e : Entry). is_decoupled_entry p e ≡ true → IsNear members (round_at p e)) (λ (e : Entry). is_decoupled_entry p e ≡ true → IsNear after (round_at p e)) h (λ e near own. more (round_at p e) (near own)) stands.near;
  kept = stands.kept;
}

-- one more entry: one of a blocking or direct initiator is of a round in which somebody is
pub one_stands : (p : Plan) (h : List Entry) (e : Entry) (members : List Member) → (is_decoupled_entry p e ≡ true → IsCurrent members (round_at p e)) → StandsInRounds p h members → StandsInRounds p (h ++ e ∷ []) members
one_stands p h e members current stands = record {
  near = AllByRecursion-push (λ (x : Entry). is_decoupled_entry p x ≡ true → IsNear members (round_at p x)) h e stands.near (λ own. (current own).near);
  kept = AtEach-push (λ before x. is_decoupled_entry p x ≡ true → AllByRecursion (λ (d : Entry). is_decoupled_entry p d ≡ true → round_at p d ≤ round_at p x + 1) before) h e stands.kept
      (λ own. AllByRecursion-weaker (λ (d : Entry). is_decoupled_entry p d ≡ true → IsNear members (round_at p d)) (λ (d : Entry). is_decoupled_entry p d ≡ true → round_at p d ≤ round_at p e + 1) h
      (λ d near its. (current own).least (round_at p d) (near its)) stands.near);
}

-- a run that has gone on and hasn't finished is in a round that others are near
pub current_after : (members after : List Member) (n : ℕ) (old new : Run) → HasMember members after n old new → HasGoneOn old new members after → new.finished ≡ false → IsCurrent after new.round
current_after members after n old new has gone going = record {
  near = gone.near;
  least = λ other near.
      let here = ap (λ (m : Member). m.round) has.now in
      let before = near n (ap (λ (m : Member). m.finished) has.now ∙ going) in
      omega arith;
}
