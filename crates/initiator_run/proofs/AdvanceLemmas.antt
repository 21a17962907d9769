-- A run that goes on, move by move.
use Rattle.std.proofs.Common.{◌≡◌, ℕ, List, true, false, ap, ◌∙◌}
use Rattle.time_board.specs.declared.rounds.Member.{Member}
use Rattle.time_board.specs.Rounds.{AreClose, members_finished}
use Rattle.tlm_model.specs.Plan.{Plan}
use Rattle.initiator_run.specs.Board.{HasGoneOn, IsInRound, SyncsOnce}
use Rattle.script_engine.specs.declared.part.Transfer.{Transfer}
use Rattle.initiator_run.specs.Moves.{HasAdvanced, IsUnderWay, Keeps}
use Rattle.initiator_run.specs.Run.{Run, accessed}
use Rattle.initiator_run.proofs.BoardLemmas.{HasGoneOn-finished, HasGoneOn-moved, HasGoneOn-then}
use Rattle.initiator_run.proofs.RunLemmas.{IsUnderWay-kept, Keeps-round, Keeps-then, SyncsOnce-by_access, accessed_finished, few_syncs}

-- a run has gone on from where it began
pub record Goes (p : Plan) (a b : Run) (before after : List Member) : Type 0 where
  pub advanced : HasAdvanced p a b
  pub gone : HasGoneOn a b before after

-- into another round
pub Goes-let : (p : Plan) (a b c : Run) (before middle after : List Member) → HasAdvanced p a b → HasGoneOn a b before middle → c ≡ record b { round = c.round } → HasGoneOn b c middle after → Goes p a c before after
Goes-let p a b c before middle after advanced gone same more =
    let keeps = Keeps-round p b c c.round same in
    record {
      advanced = record { way = IsUnderWay-kept p b c advanced.way keeps; keeps = Keeps-then p a b c advanced.keeps keeps; finished = ap (λ (r : Run). r.finished) same ∙ advanced.finished };
      gone = HasGoneOn-then a b c before middle after advanced.keeps.initiator gone more;
    }

-- by a move without an entry
pub Goes-moved : (p : Plan) (a b c : Run) (before after : List Member) → Goes p a b before after → b.round ≡ b.syncs → Keeps p b c → SyncsOnce b c → c.finished ≡ b.finished → Goes p a c before after
Goes-moved p a b c before after goes let_in keeps once finished = record {
  advanced = record { way = IsUnderWay-kept p b c goes.advanced.way keeps; keeps = Keeps-then p a b c goes.advanced.keeps keeps; finished = finished ∙ goes.advanced.finished };
  gone = HasGoneOn-moved a b c before after goes.gone let_in once finished;
}

-- to its end
pub Goes-ended : (p : Plan) (a b c : Run) (before middle after : List Member) (who : ℕ) → IsInRound before a.engine.initiator a → a.finished ≡ false → Goes p a b before middle → b.round ≡ b.syncs → c ≡ record b { finished = true } → who ≡ c.engine.initiator → after ≡ members_finished middle who → AreClose after → HasGoneOn a c before after
Goes-ended p a b c before middle after who is going goes let_in same mine left close =
    let number : who ≡ a.engine.initiator = mine ∙ (ap (λ (r : Run). r.engine.initiator) same ∙ goes.advanced.keeps.initiator) in
    HasGoneOn-finished a b c before middle after is going (goes.advanced.finished ∙ going) goes.gone let_in (ap (λ (r : Run). r.round) same) (ap (λ (r : Run). r.syncs) same) (ap (λ (r : Run). r.finished) same)
    (left ∙ ap (members_finished middle) number) close

-- by an access
pub gone_accessed : (p : Plan) (a b c : Run) (before after : List Member) (x : Transfer) (by : ℕ) (got : List ℕ) → IsUnderWay p a → Keeps p a b → HasGoneOn a b before after → b.round ≡ b.syncs → c ≡ accessed x by got b → HasGoneOn a c before after
gone_accessed p a b c before after x by got way keeps gone let_in run =
    HasGoneOn-moved a b c before after gone let_in (SyncsOnce-by_access b c x by got run (few_syncs p b (IsUnderWay-kept p a b way keeps)))
    (ap (λ (r : Run). r.finished) run ∙ accessed_finished x by got b)
