-- What is seen of a core over a net, and its steps.
use Rattle.std.specs.Prelude.{ℕ, ◌≡◌, ◌⊎◌, ◌+◌, ◌-◌, ◌^◌, ◌<◌, min, Bool, true, false, List, [], ◌∷◌, ◌++◌, length, replicate, Option, Some, None, MatchOption, slice_get, slice_set}
use Rattle.atomic_table.specs.Seated.{TableId}
use Rattle.view_lists.specs.Lists.{Within}
use Rattle.one_history.specs.declared.entry.Entry.{Entry as HistoryEntry}
use Rattle.one_history.specs.declared.view.Frame.{Frame}
use Rattle.one_history.specs.Closing.{Numbered}
use Rattle.one_history.specs.Held.{Held}
use Rattle.shared_object.specs.Steps.{IsNote}
use Rattle.tlm_types.specs.declared.entry.Content.{Content}
use Rattle.tlm_types.specs.declared.entry.Entry.{Entry}
use Rattle.tlm_model.specs.Plan.{Plan}
use Rattle.time_board.specs.declared.rounds.Member.{Member}
use Rattle.time_board.specs.Rounds.{member_of, members_finished, new_member}
use Rattle.initiator_run.specs.Board.{IsNear}
use Rattle.plat_end.specs.Entries.{entries_read}
use Rattle.node_hops.specs.declared.node.OneStep.{OneStep}
use Rattle.node_hops.specs.declared.node.OneStep.TheVariants as steps
use Rattle.stepped_actors.specs.declared.actor.SteppedActor.{SteppedActor}
use Rattle.stepped_actors.specs.declared.actor.SteppedActor.TheVariants.{Decoupled, FourPhase}
use Rattle.stepped_actors.specs.Actors.{HasEnded, IsGoing, IsMadeBy, IsMember, KeepsBy, MovesRounds, WaitsFor, is_node, number_of}
use Rattle.stepped_actors.specs.Begin.{HaveBegun, actors_of}
use Rattle.plat_core.specs.Core.{all_true}
use Rattle.plat_core.specs.NetRounds.{StandsInRounds}
use Rattle.plat_core.specs.NetRuns.{HasComeBy, MayFinish, MayMake, MayWait}
use Rattle.plat_core.specs.declared.steps.CoreStep.{CoreStep}
use Rattle.plat_core.specs.declared.steps.CoreStep.TheVariants.{Made, Waits, Finished}

-- the actors, for each initiator whether it has finished, the rounds, and the note that the actors have in turn
pub record NetView : Type 0 where
  pub actors : List SteppedActor
  pub finished : List Bool
  pub rounds : List Member
  pub note : Option (Held Content Plan)

-- what the note knows, which is all of the history so far
abbrev pub known_by : Option (Held Content Plan) → List (HistoryEntry Content)
known_by None = []
known_by (Some note) = note.knows.known

abbrev pub known_in : NetView → List (HistoryEntry Content)
known_in v = known_by v.note

abbrev pub history_in : Plan → NetView → List Entry
history_in p v = entries_read p.platform (known_in v)

-- the note knows the whole history, which has so many entries
pub record KnowsAll (note : Held Content Plan) (made : ℕ) : Type 0 where
  pub numbered : Numbered note.knows.known
  pub seen : note.knows.seen ≡ length note.knows.known
  pub count : length note.knows.known ≡ made

-- Actor k of a core, by the note: it keeps what it has to, it is an initiator of the plan or else a router or a memory, and where it is told to have
-- finished it has. Where it isn't, the rounds know of it.
pub record IsActor (table tokens : TableId) (frame : Frame Plan) (v : NetView) (note : Held Content Plan) (k : ℕ) (a : SteppedActor) : Type 0 where
  pub number : number_of frame.world.platform a ≡ k
  pub among : is_node a ≡ false → k < length frame.world.platform.initiators
  pub keeps : KeepsBy table tokens frame a note
  pub ended : slice_get v.finished k ≡ Some true → HasEnded a
  pub going : (slice_get v.finished k ≡ Some true → ⊥) → IsGoing a
  pub member : (slice_get v.finished k ≡ Some true → ⊥) → IsMember v.rounds a

-- the parts of a core
pub record IsNetCore (table tokens : TableId) (frame : Frame Plan) (v : NetView) (made : ℕ) : Type 0 where
  pub its_note : Held Content Plan
  pub has_note : v.note ≡ Some its_note
  pub note_of : IsNote table its_note
  pub all : KnowsAll its_note made
  pub count : length v.actors ≡ actors_of frame.world.platform
  pub flags : length v.finished ≡ length frame.world.platform.initiators
  pub members : length v.rounds ≡ length frame.world.platform.initiators
  pub each : (k : ℕ) (a : SteppedActor) → slice_get v.actors k ≡ Some a → IsActor table tokens frame v its_note k a
  pub close : (k : ℕ) → IsNear v.rounds (member_of v.rounds k).round
  pub rounds : StandsInRounds frame.world (history_in frame.world v) v.rounds
  pub come : (k : ℕ) (a : SteppedActor) → slice_get v.actors k ≡ Some a → HasComeBy frame.world (history_in frame.world v) a

-- these are the parts of a core
abbrev pub IsCoreAt : TableId → TableId → Frame Plan → NetView → Type 0
IsCoreAt table tokens frame v = (made : ℕ) × IsNetCore table tokens frame v made

-- a core before its first step: all actors of the plan begin
pub record IsBegunNet (table tokens : TableId) (frame : Frame Plan) (v : NetView) : Type 0 where
  pub none : known_in v ≡ []
  pub actors : HaveBegun table tokens frame v.actors
  pub count : length v.actors ≡ actors_of frame.world.platform
  pub finished : v.finished ≡ replicate (length frame.world.platform.initiators) false

-- a four-phase initiator takes part in no round
abbrev pub left_out : List Member → ℕ → SteppedActor → List Member
left_out members n (FourPhase s) = members_finished members n
left_out members n other = members

-- what the rounds know of an actor before the first step
abbrev pub IsBegunMember : List Member → ℕ → SteppedActor → Type 0
IsBegunMember members k (Decoupled s) = member_of members k ≡ new_member
IsBegunMember members k (FourPhase s) = (member_of members k).finished ≡ true
IsBegunMember members k other = Unit {0}

-- rounds of so many initiators, the first of these actors, before the first step
pub record AreBegunRounds (actors : List SteppedActor) (count : ℕ) (members : List Member) : Type 0 where
  pub members_count : length members ≡ count
  pub low : (k : ℕ) → (member_of members k).round ≡ 0
  pub each : (k : ℕ) (a : SteppedActor) → k < count → slice_get actors k ≡ Some a → IsBegunMember members k a

-- nothing is left to do for actor n: an initiator has finished; for a router or a memory all initiators have
abbrev pub IsOver : NetView → ℕ → Type 0
IsOver v n = MatchOption (slice_get v.finished n) (all_true v.finished ≡ true) (λ (b : Bool). b ≡ true)

-- how many entries there are after a step, who has finished, and what the step is for who asked for it
abbrev pub length_after : ℕ → OneStep → ℕ
length_after made steps.Made = min (made + 1) (2 ^ 64 - 1)
length_after made other = made

abbrev pub finished_after : List Bool → ℕ → OneStep → List Bool
finished_after finished n steps.Finished = slice_set finished n true
finished_after finished n other = finished

abbrev pub step_as : OneStep → ℕ → CoreStep
step_as steps.Made position = Made position
step_as steps.Waits position = Waits
step_as steps.Finished position = Finished

-- an actor has moved, from one to the other
pub record HasMoved (old : NetView) (n : ℕ) (new : NetView) : Type 0 where
  pub was : SteppedActor
  pub is : SteppedActor
  pub at : slice_get old.actors n ≡ Some was
  pub after : new.actors ≡ slice_set old.actors n is
  pub unfinished : IsOver old n → ⊥
  pub rounds : MovesRounds was is old.rounds new.rounds

-- it has made one entry, which is its own, at the end of the history
pub record HasMadeEntry (p : Plan) (old : NetView) (n : ℕ) (new : NetView) (position : ℕ) : Type 0 where
  pub moved : HasMoved old n new
  pub entry : HistoryEntry Content
  pub after : known_in new ≡ known_in old ++ entry ∷ []
  pub own : IsMadeBy p moved.was entry
  pub may : MayMake p (history_in p old) old.rounds moved.was entry
  pub at_end : position ≡ length (known_in old)
  pub finished : new.finished ≡ old.finished

-- It has found nothing that it could do, and the history is as it was. The note by which it found that knows the history and nothing else.
pub record HasWaited (frame : Frame Plan) (tokens : TableId) (old : NetView) (n : ℕ) (new : NetView) : Type 0 where
  pub moved : HasMoved old n new
  pub same : known_in new ≡ known_in old
  pub finished : new.finished ≡ old.finished
  pub note : Held Content Plan
  pub has_note : old.note ≡ Some note
  pub back : Held Content Plan
  pub knew : Within note.knows.known back.knows.known
  pub knows : Within back.knows.known (known_in new)
  pub why : WaitsFor frame tokens moved.was moved.is note back new.rounds
  pub may : MayWait frame.world (history_in frame.world old) old.rounds moved.was

-- it has finished, and the history is as it was
pub record HasFinished (p : Plan) (old : NetView) (n : ℕ) (new : NetView) : Type 0 where
  pub moved : HasMoved old n new
  pub same : known_in new ≡ known_in old
  pub ended : HasEnded moved.is
  pub may : MayFinish p (history_in p old) old.rounds moved.was
  pub finished : new.finished ≡ slice_set old.finished n true

-- a step of an actor for which nothing is left to do changes nothing
abbrev pub IsIdle : NetView → ℕ → NetView → Type 0
IsIdle old n new = IsOver old n × (new ≡ old)

abbrev pub IsNetStep : TableId → TableId → Frame Plan → NetView → ℕ → NetView → CoreStep → Type 0
IsNetStep table tokens frame old n new (Made position) = HasMadeEntry frame.world old n new position
IsNetStep table tokens frame old n new Waits = HasWaited frame tokens old n new
IsNetStep table tokens frame old n new Finished = IsIdle old n new ⊎ HasFinished frame.world old n new
