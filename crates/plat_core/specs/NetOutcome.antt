-- The outcome of a core over a net, and of a schedule.
use Rattle.std.specs.Prelude.{ℕ, ◌≡◌, ◌<◌, ◌≤◌, Bool, true, false, List, [], ◌∷◌, length, take, slice_get, Some, vec_capacity}
use Rattle.atomic_table.specs.Seated.{TableId}
use Rattle.view_lists.specs.Lists.{Within}
use Rattle.one_history.specs.declared.entry.Entry.{Entry as HistoryEntry}
use Rattle.one_history.specs.declared.view.Frame.{Frame}
use Rattle.one_history.specs.Closing.{Numbered}
use Rattle.one_history.specs.Held.{Held}
use Rattle.token_book.specs.Purse.{Purse}
use Rattle.tlm_types.specs.declared.ends.EndOf.{EndOf}
use Rattle.tlm_types.specs.declared.entry.Content.{Content}
use Rattle.tlm_types.specs.declared.entry.Entry.{Entry}
use Rattle.tlm_model.specs.declared.platform.Platform.{Platform}
use Rattle.tlm_model.specs.History.{last_store}
use Rattle.tlm_model.specs.Plan.{Plan, Initiator, initiators_of}
use Rattle.report_model.specs.Ends.{IsEndOf}
use Rattle.good_history.specs.Good.{IsSound}
use Rattle.cargo_model.specs.Known.{objects_of}
use Rattle.net_end.specs.Leaves.{IsFinished}
use Rattle.plat_end.specs.Entries.{entries_read}
use Rattle.plat_end.specs.Room.{HasRoom}
use Rattle.run_outcome.specs.declared.outcome.Outcome.{Outcome}
use Rattle.run_outcome.specs.Outcome.{IsWhole}
use Rattle.store_replay.specs.Replay.{AreOpening, HaveGoneOn}
use Rattle.stepped_actors.specs.declared.actor.SteppedActor.{SteppedActor}
use Rattle.stepped_actors.specs.Actors.{HasEnded, KeepsBy, number_of}
use Rattle.stepped_actors.specs.Begin.{actors_of}
use Rattle.plat_core.specs.declared.net_schedule.Room.{Room}
use Rattle.plat_core.specs.declared.net_schedule.SoFar.{SoFar}
use Rattle.plat_core.specs.declared.steps.CoreStep.{CoreStep}
use Rattle.plat_core.specs.Core.{all_true}
use Rattle.plat_core.specs.Rounds.{KeepsRoundsOf, is_decoupled}
use Rattle.plat_core.specs.NetCore.{IsBegunNet, IsCoreAt, IsNetStep, NetView, history_in, known_in}

-- nothing is left yet, and there is room for what so many initiators and all objects leave
pub record IsRoomFor (p : Platform) (room : Room) : Type 0 where
  pub no_end : room.ends.items ≡ []
  pub no_wallet : room.wallets.items ≡ []
  pub no_note : room.notes.items ≡ []
  pub ends : length p.initiators ≤ vec_capacity room.ends
  pub wallets : length p.initiators ≤ vec_capacity room.wallets
  pub notes : 1 ≤ vec_capacity room.notes
  pub apart : HasRoom (length (objects_of p)) (length p.memories) room.apart

-- actor k may leave what it has: it keeps its promise by the note, and an initiator has finished
pub record HasToLeave (table tokens : TableId) (frame : Frame Plan) (note : Held Content Plan) (k : ℕ) (a : SteppedActor) : Type 0 where
  pub number : number_of frame.world.platform a ≡ k
  pub keeps : KeepsBy table tokens frame a note
  pub ended : HasEnded a

abbrev pub HaveToLeave : TableId → TableId → Frame Plan → Held Content Plan → List SteppedActor → Type 0
HaveToLeave table tokens frame note actors = (k : ℕ) (a : SteppedActor) → slice_get actors k ≡ Some a → HasToLeave table tokens frame note k a

-- so many initiators have finished, with one note that they had in turn: these are their ends and their wallets, in order
pub record HaveLeftBy (table tokens : TableId) (p : Plan) (count : ℕ) (note : Held Content Plan) (ends : List EndOf) (wallets : List Purse) : Type 0 where
  pub ends_count : length ends ≡ count
  pub wallets_count : length wallets ≡ count
  pub each : (k : ℕ) (end : EndOf) (wallet : Purse) → slice_get ends k ≡ Some end → slice_get wallets k ≡ Some wallet → IsFinished table tokens p k end note wallet

-- all that was known is known
abbrev pub GoesOnFrom : NetView → NetView → Type 0
GoesOnFrom old new = Within (known_in old) (known_in new)

-- a whole history begins with each numbered one of whose entries all are known
abbrev pub TellsOf : Platform → List (HistoryEntry Content) → List Entry → Type 0
TellsOf p known whole = (es : List (HistoryEntry Content)) → Numbered es → Within es known → entries_read p es ≡ take (length es) whole

-- A blocking or direct initiator that has finished has ended so, by a history.
abbrev pub HaveEndedSo : Plan → NetView → List Entry → List EndOf → Type 0
HaveEndedSo p v h ends =
    (n : ℕ) (i : Initiator) (end : EndOf) → slice_get v.finished n ≡ Some true → slice_get (initiators_of p) n ≡ Some i → is_decoupled i.row.style ≡ true → slice_get ends n ≡ Some end → IsEndOf p i h end

-- For each initiator there is an end. It is that of the history, if this is sound, for a blocking or direct one that has finished.
pub record AreEndsSoFar (p : Plan) (v : NetView) (ends : List EndOf) : Type 0 where
  pub count : length ends ≡ length p.platform.initiators
  pub each : IsSound p (history_in p v) → HaveEndedSo p v (history_in p v) ends

-- how far each initiator has come, and the bytes of the memories before the first entry
pub record TellsSoFar (p : Plan) (v : NetView) (s : SoFar) : Type 0 where
  pub ends : AreEndsSoFar p v s.ends.items
  pub stores : AreOpening p.platform s.stores

-- An outcome was cut back to so many entries, where it isn't to be complete: its stores are those after them, and its ends those from before the core
-- ran on. Else it has just so many.
abbrev pub IsCutBack : Bool → ℕ → SoFar → Outcome → Outcome → Type 0
IsCutBack true made s old new = (new ≡ old) × (length old.history.entries ≡ made)
IsCutBack false made s old new = (new.complete ≡ false) × (new.history.entries ≡ take made old.history.entries) × HaveGoneOn new.history.entries s.stores new.stores × (new.ends ≡ s.ends.items)

-- An outcome is that of a core that came so far: its history is the one of the core, and it is sound and keeps the rounds; it has the bytes that this
-- history leaves in the memories, and an end of each initiator. It is complete where all initiators have finished, and
-- then all of it is as the definitions say.
pub record IsCut (p : Plan) (last : NetView) (outcome : Outcome) : Type 0 where
  pub history : outcome.history.entries ≡ history_in p last
  pub sound : IsSound p (history_in p last)
  pub rounds : KeepsRoundsOf p (history_in p last)
  pub complete : outcome.complete ≡ all_true last.finished
  pub whole : all_true last.finished ≡ true → IsWhole p outcome
  pub memories : length outcome.stores ≡ length p.platform.memories
  pub stores : (m : ℕ) (bytes : List ℕ) → slice_get outcome.stores m ≡ Some bytes → bytes ≡ last_store p.platform (history_in p last) m
  pub initiators : length outcome.ends ≡ length p.platform.initiators
  pub ends : HaveEndedSo p last (history_in p last) outcome.ends

-- one number of a schedule: a step of the actor that it names, or nothing
pub data IsNetTurn (table tokens : TableId) (frame : Frame Plan) (old : NetView) (n : ℕ) (new : NetView) : Type 0 where
  Steps : n < actors_of frame.world.platform → (step : CoreStep) → IsNetStep table tokens frame old n new step → IsNetTurn table tokens frame old n new
  Passes : actors_of frame.world.platform ≤ n → new ≡ old → IsNetTurn table tokens frame old n new

-- a core that has gone through a schedule, and was one after each number
abbrev pub HasFollowedNet : TableId → TableId → Frame Plan → NetView → List ℕ → NetView → Type 0
HasFollowedNet table tokens frame old [] new = new ≡ old
HasFollowedNet table tokens frame old (n ∷ ns) new = (middle : NetView) × IsNetTurn table tokens frame old n middle × IsCoreAt table tokens frame middle × HasFollowedNet table tokens frame middle ns new

-- the outcome of a schedule: that of a new core that has followed it
pub record IsScheduledNet (table tokens : TableId) (frame : Frame Plan) (schedule : List ℕ) (outcome : Outcome) : Type 0 where
  pub first : NetView
  pub begun : IsBegunNet table tokens frame first
  pub core : IsCoreAt table tokens frame first
  pub last : NetView
  pub followed : HasFollowedNet table tokens frame first schedule last
  pub cut : IsCut frame.world last outcome

-- the same of a plan: there are a history and tokens of it by which this is so
pub record IsScheduledBy (p : Plan) (schedule : List ℕ) (outcome : Outcome) : Type 0 where
  pub table : TableId
  pub tokens : TableId
  pub frame : Frame Plan
  pub world : frame.world ≡ p
  pub is : IsScheduledNet table tokens frame schedule outcome

-- What any outcome of a plan is, however far it has come: its history is sound, and where it is complete, all of it is as the definitions say.
pub record IsSoFarAsMade (p : Plan) (outcome : Outcome) : Type 0 where
  pub sound : IsSound p outcome.history.entries
  pub whole : outcome.complete ≡ true → IsWhole p outcome
