-- The steps of an initiator, an entry at a time.
use Rattle.std.proofs.Common.{◌≡◌, ◌≢◌, ℕ, ◌<◌, Bool, List, true, false, length, Some, refl, ap, sym, subst, ◌∙◌, arith, [], ◌∷◌, ◌++◌, slice_get, inl, inr}
use Rattle.std.specs.Prelude.{IsSomeAnd}
use Rattle.std.specs.Option.{ForSome}
use Rattle.atomic_table.specs.Seated.{TableId}
use Rattle.view_lists.specs.Lists.{Within}
use Rattle.one_history.specs.declared.entry.Entry.{Entry as HistoryEntry}
use Rattle.one_history.specs.declared.view.Frame.{Frame}
use Rattle.one_history.specs.declared.view.View.{View}
use Rattle.one_history.specs.Held.{Held as Noted}
use Rattle.one_history.specs.Lists.{StandBelow}
use Rattle.shared_object.specs.Steps.{IsNote}
use Rattle.shared_object.specs.Written.{written_at}
use Rattle.token_book.specs.Purse.{Purse, IsOf, left_of}
use Rattle.tlm_types.specs.declared.entry.Content.{Content}
use Rattle.tlm_types.specs.declared.entry.What.TheVariants.{Invalidated}
use Rattle.tlm_types.specs.declared.ends.EndOf.{EndOf}
use Rattle.tlm_types.specs.declared.words.Command.{Command}
use Rattle.tlm_types.specs.declared.words.TxnId.{TxnId}
use Rattle.tlm_model.specs.Plan.{Plan, initiators_of}
use Rattle.tlm_model.specs.Rounds.{round_of}
use Rattle.tlm_model.specs.Scripts.{is_answer}
use Rattle.tlm_model.specs.Route.{later}
use Rattle.generic_payload.specs.Payload.{PayloadView}
use Rattle.region_object.specs.Call.{IsReadOrWrite}
use Rattle.route_plan.specs.declared.step.Route.{Route}
use Rattle.script_engine.specs.declared.part.Transfer.{Transfer}
use Rattle.script_engine.specs.declared.op.Op.TheVariants as next
use Rattle.script_engine.specs.State.{op_of, passed_by}
use Rattle.script_engine.specs.declared.part.TransferKind.TheVariants.{Access as AccessKind}
use Rattle.quantum_keeper.specs.Keeper.{current_time}
use Rattle.initiator_run.specs.declared.run.NextInvalidation.{NextInvalidation}
use Rattle.time_board.specs.declared.rounds.Member.{Member}
use Rattle.time_board.specs.Rounds.{AreClose}
use Rattle.initiator_run.specs.Board.{HasGoneOn, IsInRound, IsWaiting}
use Rattle.initiator_run.specs.Come.{HasCome}
use Rattle.initiator_run.specs.Moves.{HasNoMore, HasReached, HasToInvalidate, IsUnderWay, Keeps}
use Rattle.initiator_run.specs.Run.{Run, accessed, end_at, invalidated}
use Rattle.initiator_run.specs.Steps.{HasMoved}
use Rattle.initiator_run.proofs.AccessLemmas.{transfer_is_not_done}
use Rattle.initiator_run.proofs.BoardLemmas.{HasGoneOn-moved, HasGoneOn-same, IsInRound-gone}
use Rattle.initiator_run.proofs.CountLemmas.{with_sync_round}
use Rattle.initiator_run.proofs.InvalidationLemmas.{HasCome-invalidated, SyncsOnce-invalidated, finished_invalidated, initiator_invalidated, invalidation_is_not_done}
use Rattle.initiator_run.proofs.RunLemmas.{SyncsOnce-by_access, accessed_finished, accessed_round, few_syncs, Keeps-same, Keeps-then}
use Rattle.run_outcome.proofs.PlanLemmas.{initiator_number}
use Rattle.plat_net.specs.Calls.{HasNoPassage, route_at}
use Rattle.node_hops.specs.declared.node.OneStep.{OneStep}
use Rattle.node_hops.specs.declared.node.OneStep.TheVariants.{Finished, Made, Waits}
use Rattle.node_hops.specs.Steps.{HasNew, IsAccessOf, StepAdds}
use Rattle.dmi_grants.specs.declared.ask.Asked.{Asked}
use Rattle.dmi_grants.specs.declared.ask.Asked.TheVariants.{Held, Denied}
use Rattle.dmi_grants.specs.declared.invalidation.Revocation.{Revocation}
use Rattle.dmi_grants.specs.Asking.{HasAsked, MayAsk}
use Rattle.dmi_grants.specs.Invalidating.{HasInvalidated}
use Rattle.dmi_grants.specs.Made.{IsRoomyFor, unclosed}
use Rattle.dmi_grants.specs.Revoking.{HasRevoked, IsClosingEntry, IsRevocationEntry, IsRevoking}
use Rattle.dmi_grants.specs.Table.{TableView}
use Rattle.dmi_grants.proofs.Revoking.{new_as, new_before}
use Rattle.decoupled_run.specs.declared.steps.Owes.{Owes}
use Rattle.decoupled_run.specs.declared.steps.Owes.TheVariants.{Nothing, Grant, Closings}
use Rattle.decoupled_run.specs.declared.steps.SteppedInitiator.{SteppedInitiator}
use Rattle.decoupled_run.specs.End.{IsFinished}
use Rattle.decoupled_run.specs.Job.{IsAtEase, IsJob, IsToAsk, goes_direct}
use Rattle.decoupled_run.specs.Known.{entry_read}
use Rattle.decoupled_run.specs.Moves.{HasMadeNext, IsEntryOfRun, IsLeft, txn_next}
use Rattle.decoupled_run.specs.Stepped.{HasClosedNext, HasMadeOne, HasSettled, IsOfRound, IsOwing, IsRevokingFor, IsStepEntry, IsStepped, MayCloseNext, is_held, owed_after}
use Rattle.decoupled_run.proofs.AskLemmas.{granted_new}
use Rattle.decoupled_run.proofs.EndLemmas.{job_finished}
use Rattle.decoupled_run.proofs.InvalidateLemmas.{at_ease_with, can_invalidate, memory_there, roomy_there}
use Rattle.decoupled_run.proofs.JobLemmas.{number}
use Rattle.decoupled_run.proofs.MoveLemmas.{asker_below, asker_passes, left_as, may_wish, none_pass, number_past, wished}
use Rattle.decoupled_run.proofs.PassLemmas.{moved_along, one_value, under_way}
use Rattle.decoupled_run.proofs.RunEntries.{round_for, round_next, round_next_invalidation, unanswered_entry}

module _ (table tokens : TableId) (frame : Frame Plan) (s : SteppedInitiator) (note : Noted Content Plan) (stepped : IsStepped table tokens frame s note) where
  -- where it owes nothing it is at ease
  pub at_ease : s.owes ≡ Nothing → IsAtEase frame s.run note.knows s.wallet s.grants
  at_ease nothing = subst (λ (o : Owes). IsOwing frame s.run note.knows s.wallet s.grants o) nothing stepped.is

  -- then it is the same as one that keeps its note
  pub stepped_job : s.owes ≡ Nothing → (payload : PayloadView) → s.payload ≡ Some payload → IsJob table tokens frame s.is_direct s.run payload note s.wallet s.grants
  stepped_job nothing payload is = record {
    note_of = stepped.note_of;
    wallet_of = stepped.wallet_of;
    roomy = subst (λ (x : PayloadView). x.room ≡ 4096) (one_value s.payload stepped.payload payload stepped.has_payload is) stepped.roomy;
    styled = stepped.styled;
    is = at_ease nothing;
  }

  pub stepped_finished : s.run.finished ≡ true → (end : EndOf) → end ≡ end_at s.run → IsFinished table tokens frame.world s.run.engine.initiator end note s.wallet
  stepped_finished finished end is =
      subst (λ (e : EndOf). IsFinished table tokens frame.world s.run.engine.initiator e note s.wallet) (sym is)
      (job_finished table tokens frame s.is_direct s.run stepped.payload note s.wallet s.grants (stepped_job (stepped.settled finished) stepped.payload stepped.has_payload) finished)

-- it owed nothing
pub nothing_settled : (table tokens : TableId) (frame : Frame Plan) (s : SteppedInitiator) (note : Noted Content Plan) → IsStepped table tokens frame s note → s.owes ≡ Nothing → HasSettled table tokens frame s s note note false
nothing_settled table tokens frame s note stepped nothing = record {
  stepped = stepped;
  run = refl;
  knew = λ e has. has;
  settled = λ no'. nothing;
  adds = λ yes'. absurd (let wrong : false ≡ true = yes' in cc (wrong));
}

-- a transfer of which the command and the address matter
abbrev pub wish_of : Command → ℕ → Transfer
wish_of command address = record { seq = 0; address = address; length = 0; kind = AccessKind command true false }

module _ (table tokens : TableId) (frame : Frame Plan) (s : SteppedInitiator) (note : Noted Content Plan) (stepped : IsStepped table tokens frame s note) where
  -- it has a wish
  module _ (command : Command) (address : ℕ) (txn : TxnId) (time : ℕ) (owes : s.owes ≡ Grant command address txn time) where
    pub wishes : (route : Route) × IsToAsk frame s.run note.knows s.wallet s.grants command address route txn time × IsReadOrWrite command × IsOfRound frame.world s.run txn
    wishes = subst (λ (o : Owes). IsOwing frame s.run note.knows s.wallet s.grants o) owes stepped.is

    module _ (who : ℕ) (who_is : who ≡ s.run.engine.initiator) where
      pub wisher_below : who < length frame.world.platform.initiators
      wisher_below = asker_below frame s.run (wish_of command address) wishes.0 txn time note.knows s.wallet s.grants wishes.1 who who_is

      pub wisher_passes : HasNoPassage frame.world txn
      wisher_passes = asker_passes frame s.run (wish_of command address) wishes.0 txn time note.knows s.wallet s.grants wishes.1 who who_is

      pub wish_may : IsSomeAnd (route_at frame.world who address) (MayAsk frame.world command s.grants note.knows s.wallet)
      wish_may = may_wish frame s.run (wish_of command address) wishes.0 txn time note.knows s.wallet s.grants wishes.1 who who_is

      its_number : who ≡ (wishes.1).is.initiator.number
      its_number = who_is ∙ sym (number frame s.run note.knows note.knows s.wallet s.grants (wishes.1).is)

      leads : route_at frame.world who address ≡ Some wishes.0
      leads = ap (λ (n : ℕ). route_at frame.world n address) its_number ∙ (wishes.1).asking.leads

      -- what was asked for there
      module _ (back : Noted Content Plan) (new_t : TableView) (new : Purse) (answer : Asked) (came : ForSome (route_at frame.world who address) (λ (y : Route). HasAsked frame who command address y txn time s.grants new_t note.knows back.knows s.wallet new answer))
          (rooms : (k : ℕ) → IsRoomyFor k s.wallet → IsRoomyFor k new) (note_of : IsNote table back) (wallet_of : IsOf tokens new) where
        abbrev after : SteppedInitiator
        after = record { run = s.run; payload = s.payload; wallet = new; grants = new_t; is_direct = s.is_direct; owes = Nothing }

        at_rest : IsAtEase frame s.run back.knows new new_t
        at_rest = wished frame s.run (wish_of command address) wishes.0 txn time note.knows s.wallet s.grants wishes.1 who who_is back.knows new_t new answer came rooms

        knew_by : (o : Asked) → HasAsked frame who command address wishes.0 txn time s.grants new_t note.knows back.knows s.wallet new o → Within note.knows.known back.knows.known
        knew_by (Held which) is = is.0.made.enters.knew
        knew_by (Denied denial) is = is.0.keeps

        adds_by : (o : Asked) → HasAsked frame (wishes.1).is.initiator.number command address wishes.0 txn time s.grants new_t note.knows back.knows s.wallet new o → is_held o ≡ true → HasNew (IsStepEntry frame.world s.run s.run) note.knows.known back.knows.known
        adds_by (Held which) is yes' = granted_new frame s.run note.knows s.wallet s.grants (wishes.1).is command address wishes.0 txn time (wishes.1).asking back.knows new_t new which is.0 is.1 rooms wishes.3
        adds_by (Denied denial) is yes' = absurd (let wrong : false ≡ true = yes' in cc (wrong))

        pub wish_settled : (held : Bool) → held ≡ is_held answer → HasSettled table tokens frame s after note back held
        wish_settled held held_is =
            let here = came wishes.0 leads in
            record {
              stepped = record {
                payload = stepped.payload;
                has_payload = stepped.has_payload;
                roomy = stepped.roomy;
                note_of = note_of;
                below = at_rest.is.below;
                wallet_of = wallet_of;
                styled = stepped.styled;
                is = at_rest;
                settled = λ finished. refl;
              };
              run = refl;
              knew = knew_by answer here;
              settled = λ no'. refl;
              adds = λ yes'. adds_by answer (subst (λ (n : ℕ). HasAsked frame n command address wishes.0 txn time s.grants new_t note.knows back.knows s.wallet new answer) its_number here) (sym held_is ∙ yes');
            }

  -- it has closings to make
  module _ (k : Revocation) (owes : s.owes ≡ Closings k) where
    pub revokes : IsRevokingFor frame s.run note.knows s.wallet s.grants k
    revokes = subst (λ (o : Owes). IsOwing frame s.run note.knows s.wallet s.grants o) owes stepped.is

    to_itself : k.txn.initiator ≡ s.run.engine.initiator
    to_itself = ap (λ (x : Revocation). x.txn.initiator) (revokes).is ∙ sym (initiator_invalidated (revokes).past s.run (revokes).run)

    pub may_close : MayCloseNext frame k note.knows s.wallet
    may_close =
        let is = revokes in
        let same : is.next.route.memory ≡ k.memory = sym (ap (λ (x : Revocation). x.memory) is.is) in
        record {
          before = is.before;
          start = is.start;
          revoking = is.revoking;
          there = subst (λ (n : ℕ). n < length frame.world.platform.memories) same (memory_there frame is.past is.before is.start s.grants is.ease is.next is.reached);
          passes = none_pass frame is.past is.before is.start s.grants is.ease.is k.txn (ap (λ (x : Revocation). x.txn.initiator) is.is);
          pays = subst (λ (n : ℕ). unclosed frame.world n (written_at n is.before.known) < left_of is.start n) same (can_invalidate frame is.past is.before is.start s.grants is.ease is.next is.reached);
          roomy = is.roomy k.memory (subst (λ (n : ℕ). IsRoomyFor n is.start) same (roomy_there frame is.past is.before is.start s.grants is.ease is.next is.reached));
        }

    module _ (back : Noted Content Plan) (new : Purse) where
      -- one was made
      pub closing_settled : HasClosedNext table tokens frame k note back s.wallet new true → HasSettled table tokens frame s (record { run = s.run; payload = s.payload; wallet = new; grants = s.grants; is_direct = s.is_direct; owes = s.owes }) note back true
      closing_settled closed =
          let is = revokes in
          let now : IsRevokingFor frame s.run back.knows new s.grants k = record {
            past = is.past;
            before = is.before;
            start = is.start;
            ease = is.ease;
            next = is.next;
            reached = is.reached;
            run = is.run;
            is = is.is;
            revoking = closed.more refl is.before is.start is.revoking;
            roomy = λ m room. closed.roomy m (is.roomy m room);
            of_round = is.of_round;
          } in
          record {
            stepped = record {
              payload = stepped.payload;
              has_payload = stepped.has_payload;
              roomy = stepped.roomy;
              note_of = closed.note_of;
              below = closed.below;
              wallet_of = closed.wallet_of;
              styled = stepped.styled;
              is = subst (λ (o : Owes). IsOwing frame s.run back.knows new s.grants o) (sym owes) now;
              settled = stepped.settled;
            };
            run = refl;
            knew = closed.knew;
            settled = λ no'. absurd (let wrong : true ≡ false = no' in cc (wrong));
            adds = λ yes'. new_as (IsClosingEntry frame.world k) (IsStepEntry frame.world s.run s.run) note.knows.known back.knows.known
                (λ e of. unanswered_entry frame.world s.run k.memory k.txn e of.1.there of.1.object of.1.of to_itself is.of_round (ap is_answer of.1.says)) (closed.adds refl);
          }

      -- none was left
      pub all_settled : HasClosedNext table tokens frame k note back s.wallet new false → HasSettled table tokens frame s (record { run = s.run; payload = s.payload; wallet = new; grants = s.grants; is_direct = s.is_direct; owes = Nothing }) note back false
      all_settled closed =
          let is = revokes in
          let inv : HasInvalidated frame is.next.route.memory (txn_next is.past) (current_time is.past.keeper) is.next.first is.next.last is.before back.knows is.start new =
          subst (λ (x : Revocation). HasRevoked frame x is.before back.knows is.start new) is.is (closed.all refl is.before is.start is.revoking) in
          let ease = at_ease_with frame is.past s.run is.before back.knows is.start new s.grants is.ease is.next is.reached (txn_next is.past) (current_time is.past.keeper) refl refl inv (λ m room. closed.roomy m (is.roomy m room)) is.run in
          record {
            stepped = record {
              payload = stepped.payload;
              has_payload = stepped.has_payload;
              roomy = stepped.roomy;
              note_of = closed.note_of;
              below = closed.below;
              wallet_of = closed.wallet_of;
              styled = stepped.styled;
              is = ease;
              settled = λ finished. refl;
            };
            run = refl;
            knew = closed.knew;
            settled = λ no'. refl;
            adds = λ yes'. absurd (let wrong : false ≡ true = yes' in cc (wrong));
          }

  -- at an invalidation that is next
  module _ (nothing : s.owes ≡ Nothing) (through : s.run.round ≡ s.run.syncs) (x : NextInvalidation) (reached : HasToInvalidate frame.world s.run x) where
    abbrev ease : IsAtEase frame s.run note.knows s.wallet s.grants
    ease = at_ease table tokens frame s note stepped nothing

    pub telling_there : x.route.memory < length frame.world.platform.memories
    telling_there = memory_there frame s.run note.knows s.wallet s.grants ease x reached

    pub telling_passes : (txn : TxnId) → txn ≡ txn_next s.run → HasNoPassage frame.world txn
    telling_passes txn is = none_pass frame s.run note.knows s.wallet s.grants (ease).is txn (ap (λ (y : TxnId). y.initiator) is)

    pub telling_roomy : IsRoomyFor x.route.memory s.wallet
    telling_roomy = roomy_there frame s.run note.knows s.wallet s.grants ease x reached

    pub telling_pays : 0 < left_of s.wallet x.route.memory
    telling_pays = let enough = can_invalidate frame s.run note.knows s.wallet s.grants ease x reached in omega (arith, enough)

    module _ (txn : TxnId) (time : ℕ) (txn_is : txn ≡ txn_next s.run) (time_is : time ≡ current_time s.run.keeper) (k : Revocation) (is : k ≡ record { memory = x.route.memory; first = x.first; last = x.last; position = k.position; txn = txn; at = time })
        (back : Noted Content Plan) (new : Purse) (run : Run) (run_is : run ≡ invalidated s.run) (note_of : IsNote table back) (wallet_of : IsOf tokens new) (knew : Within note.knows.known back.knows.known) (below : StandBelow back.knows.known back.knows.seen)
        (revoking : IsRevoking frame k note.knows back.knows s.wallet new) (rooms : (m : ℕ) → IsRoomyFor m s.wallet → IsRoomyFor m new) (told : HasNew (IsRevocationEntry frame.world k (Invalidated x.first x.last)) note.knows.known back.knows.known) where
      same_number : run.engine.initiator ≡ s.run.engine.initiator
      same_number = initiator_invalidated s.run run run_is

      same_finished : run.finished ≡ s.run.finished
      same_finished = finished_invalidated s.run run run_is

      same_round : run.round ≡ s.run.round
      same_round = ap (λ (r : Run). r.round) run_is ∙ with_sync_round false (record s.run { engine = passed_by s.run.engine })

      round_is : round_of frame.world.platform (ease).is.initiator s.run.engine.seq ≡ s.run.syncs
      round_is = round_next_invalidation frame.world.platform (ease).is.initiator (ease).is.mine s.run reached.address reached.bytes reached.next (ease).is.made.come

      of_round : IsOfRound frame.world run k.txn
      of_round = round_for frame.world s.run run (ease).is.initiator k.txn (ease).is.is round_is through same_number same_round (ap (λ (y : Revocation). y.txn) is ∙ txn_is)

      told_entry : (e : HistoryEntry Content) → IsRevocationEntry frame.world k (Invalidated x.first x.last) e → IsStepEntry frame.world s.run run e
      told_entry e of =
          let id : e.content.txn ≡ txn_next s.run = of.of ∙ (ap (λ (y : Revocation). y.txn) is ∙ txn_is) in
          record {
            access = record { memory = k.memory; there = of.there; object = of.object; own = ap (λ (y : TxnId). y.initiator) id };
            round = λ j at. ap (λ (y : TxnId). round_of frame.world.platform j y.seq) of.of ∙ of_round j (ap (slice_get (initiators_of frame.world)) same_number ∙ at);
            come = λ j h at come. subst (HasCome frame.world.platform j (h ++ entry_read frame.world.platform e ∷ [])) (sym run_is)
                (HasCome-invalidated frame.world.platform j s.run reached.address reached.bytes reached.next h (entry_read frame.world.platform e)
                (ap (λ (y : TxnId). y.initiator) id ∙ sym (initiator_number frame.world s.run.engine.initiator j at)) (ap (λ (y : TxnId). y.seq) id) (ap is_answer of.says) come);
            next = λ answers. record { middle = s.run; keeps = Keeps-same frame.world s.run; through = through; round = same_round; next = inr (x, reached) };
          }

      pub invalidation_told : HasMadeOne table tokens frame s (record { run = run; payload = s.payload; wallet = new; grants = s.grants; is_direct = s.is_direct; owes = Closings k }) note back
      invalidation_told = record {
        stepped = record {
          payload = stepped.payload;
          has_payload = stepped.has_payload;
          roomy = stepped.roomy;
          note_of = note_of;
          below = below;
          wallet_of = wallet_of;
          styled = stepped.styled ∙ ap (goes_direct frame.world) (sym same_number);
          is = record {
            past = s.run;
            before = note.knows;
            start = s.wallet;
            ease = ease;
            next = x;
            reached = reached;
            run = run_is;
            is = is
                ∙ (ap (λ (y : TxnId). record { memory = x.route.memory; first = x.first; last = x.last; position = k.position; txn = y; at = time }) txn_is
                ∙ ap (λ (u : ℕ). record { memory = x.route.memory; first = x.first; last = x.last; position = k.position; txn = txn_next s.run; at = u }) time_is);
            revoking = revoking;
            roomy = rooms;
            of_round = of_round;
          };
          settled = λ finished. absurd (invalidation_is_not_done (op_of s.run.engine) s.run.engine.seq reached.address reached.bytes reached.next ((ease).is.finished (sym same_finished ∙ finished)));
        };
        knew = knew;
        number = same_number;
        syncs = SyncsOnce-invalidated s.run run run_is (few_syncs frame.world s.run (under_way frame s.run note.knows s.wallet s.grants (ease).is));
        finished = same_finished;
        adds = new_as (IsRevocationEntry frame.world k (Invalidated x.first x.last)) (IsStepEntry frame.world s.run run) note.knows.known back.knows.known told_entry told;
      }

-- what is left after an access is what is owed
owing_left : (wants : Bool) (frame : Frame Plan) (x : Transfer) (route : Route) (txn : TxnId) (time : ℕ) (r : Run) (v : View Content Plan) (w : Purse) (t : TableView) → IsLeft wants frame x route txn time r v w t → IsOfRound frame.world r txn → IsOwing frame r v w t (owed_after wants x txn time)
owing_left false frame x route txn time r v w t left round = left
owing_left true frame x route txn time r v w t left round = (route, left.0, left.1, round)

below_left : (wants : Bool) (frame : Frame Plan) (x : Transfer) (route : Route) (txn : TxnId) (time : ℕ) (r : Run) (v : View Content Plan) (w : Purse) (t : TableView) → IsLeft wants frame x route txn time r v w t → StandBelow v.known v.seen
below_left false frame x route txn time r v w t left = left.is.below
below_left true frame x route txn time r v w t left = left.0.is.below

module _ (table tokens : TableId) (frame : Frame Plan) (s : SteppedInitiator) (note : Noted Content Plan) (stepped : IsStepped table tokens frame s note) (nothing : s.owes ≡ Nothing) (through : s.run.round ≡ s.run.syncs) (x : Transfer) (route : Route) (reached : HasReached frame.world s.run x route) where
  abbrev rest : IsAtEase frame s.run note.knows s.wallet s.grants
  rest = at_ease table tokens frame s note stepped nothing

  module _ (wants : Bool) (payload : PayloadView) (back : Noted Content Plan) (new : Purse) (new_t : TableView) (made : HasMadeNext table tokens frame note.knows.known s.run x route wants payload back new new_t)
      (run : Run) (run_is : run ≡ accessed x route.latency payload.bytes s.run) (txn : TxnId) (txn_is : txn ≡ txn_next s.run) (time : ℕ) (time_is : time ≡ later (current_time s.run.keeper) route.latency)
      (owes : Owes) (owes_is : owes ≡ owed_after wants x txn time) where
    left : IsLeft wants frame x route txn time run back.knows new new_t
    left = left_as wants frame x route s.run run txn time payload.bytes back.knows new new_t made.left txn_is time_is run_is

    number_after : run.engine.initiator ≡ s.run.engine.initiator
    number_after = number_past x route.latency payload.bytes s.run run run_is

    finished_after : run.finished ≡ s.run.finished
    finished_after = ap (λ (r : Run). r.finished) run_is ∙ accessed_finished x route.latency payload.bytes s.run

    round_after : run.round ≡ s.run.round
    round_after = ap (λ (r : Run). r.round) run_is ∙ accessed_round x route.latency payload.bytes s.run

    round_left : IsOfRound frame.world run txn
    round_left =
        round_for frame.world s.run run (rest).is.initiator txn (rest).is.is (round_next frame.world.platform (rest).is.initiator (rest).is.mine s.run x reached.next (rest).is.made.come) through number_after round_after txn_is

    pub access_made : HasMadeOne table tokens frame s (record { run = run; payload = Some payload; wallet = new; grants = new_t; is_direct = s.is_direct; owes = owes }) note back
    access_made = record {
      stepped = record {
        payload = payload;
        has_payload = refl;
        roomy = made.room;
        note_of = made.note_of;
        below = below_left wants frame x route txn time run back.knows new new_t left;
        wallet_of = made.wallet_of;
        styled = stepped.styled ∙ ap (goes_direct frame.world) (sym number_after);
        is = subst (λ (o : Owes). IsOwing frame run back.knows new new_t o) (sym owes_is) (owing_left wants frame x route txn time run back.knows new new_t left round_left);
        settled = λ finished. absurd (transfer_is_not_done (op_of s.run.engine) x reached.next ((rest).is.finished (sym finished_after ∙ finished)));
      };
      knew = made.knew;
      number = number_after;
      syncs = SyncsOnce-by_access s.run run x route.latency payload.bytes run_is (few_syncs frame.world s.run (under_way frame s.run note.knows s.wallet s.grants (rest).is));
      finished = finished_after;
      adds = new_as (IsEntryOfRun frame.world s.run (accessed x route.latency payload.bytes s.run)) (IsStepEntry frame.world s.run run) note.knows.known back.knows.known
          (λ e is. record {
            access = is.access;
            round = λ j at. is.round j at ∙ (sym through ∙ sym round_after);
            come = λ j h at come. subst (HasCome frame.world.platform j (h ++ entry_read frame.world.platform e ∷ [])) (sym run_is) (is.come j h at come);
            next = λ answers. record { middle = s.run; keeps = Keeps-same frame.world s.run; through = through; round = round_after; next = inl (x, route, reached) };
          }) made.new;
    }

-- what a step comes to
pub record HasStepped (table tokens : TableId) (frame : Frame Plan) (old new : SteppedInitiator) (note back : Noted Content Plan) (before after : List Member) (step : OneStep) : Type 0 where
  pub stepped : IsStepped table tokens frame new back
  pub number : new.run.engine.initiator ≡ old.run.engine.initiator
  pub adds : StepAdds (IsAccessOf frame.world old.run.engine.initiator) step note.knows.known back.knows.known
  pub made : StepAdds (IsStepEntry frame.world old.run new.run) step note.knows.known back.knows.known
  pub keeps : Within note.knows.known back.knows.known
  pub rounds : HasGoneOn old.run new.run before after
  pub in_round : IsInRound after old.run.engine.initiator new.run
  pub none : step ≢ Made → Keeps frame.world old.run new.run
  pub waits : step ≡ Waits → IsWaiting after new.run
  pub finished : step ≡ Finished → new.run.finished ≡ true
  pub going : step ≢ Finished → new.run.finished ≡ false

module _ (table tokens : TableId) (frame : Frame Plan) (old : SteppedInitiator) (note : Noted Content Plan) (before : List Member) (round : IsInRound before old.run.engine.initiator old.run) (close : AreClose before) (going : old.run.finished ≡ false) where
  -- each entry of a step is an access of the initiator
  access_of : (r new : Run) (known back : List (HistoryEntry Content)) → HasNew (IsStepEntry frame.world r new) known back → HasNew (IsAccessOf frame.world r.engine.initiator) known back
  access_of r new known back made = new_as (IsStepEntry frame.world r new) (IsAccessOf frame.world r.engine.initiator) known back (λ e is. is.access) made

  -- by what it owed
  pub step_settled : (new : SteppedInitiator) (back : Noted Content Plan) → HasSettled table tokens frame old new note back true → HasStepped table tokens frame old new note back before before Made
  step_settled new back settled = record {
    stepped = settled.stepped;
    number = ap (λ (r : Run). r.engine.initiator) settled.run;
    adds = λ made. access_of old.run new.run note.knows.known back.knows.known (settled.adds refl);
    made = λ made. settled.adds refl;
    keeps = settled.knew;
    rounds = subst (λ (r : Run). HasGoneOn old.run r before before) (sym settled.run) (HasGoneOn-same before old.run round going close);
    in_round = subst (λ (r : Run). IsInRound before old.run.engine.initiator r) (sym settled.run) round;
    none = λ unmade. absurd (unmade refl);
    waits = λ is. absurd (let wrong : Made ≡ Waits = is in cc (wrong));
    finished = λ is. absurd (let wrong : Made ≡ Finished = is in cc (wrong));
    going = λ unfinished. ap (λ (r : Run). r.finished) settled.run ∙ going;
  }

  -- it owes nothing more, and goes on
  module _ (middle : SteppedInitiator) (on : Noted Content Plan) (settled : HasSettled table tokens frame old middle note on false) where
    abbrev ready : IsAtEase frame middle.run on.knows middle.wallet middle.grants
    ready = at_ease table tokens frame middle on settled.stepped (settled.settled refl)

    pub middle_way : IsUnderWay frame.world middle.run
    middle_way = under_way frame middle.run on.knows middle.wallet middle.grants (ready).is

    pub middle_going : middle.run.finished ≡ false
    middle_going = ap (λ (r : Run). r.finished) settled.run ∙ going

    pub middle_round : IsInRound before middle.run.engine.initiator middle.run
    middle_round = subst (λ (r : Run). IsInRound before r.engine.initiator r) (sym settled.run) round

    pub middle_roomy : (payload : PayloadView) → middle.payload ≡ Some payload → payload.room ≡ 4096
    middle_roomy payload is = ap (λ (y : PayloadView). y.room) (one_value middle.payload payload settled.stepped.payload is settled.stepped.has_payload) ∙ settled.stepped.roomy

    module _ (q : Plan) (there : q ≡ frame.world) (run : Run) (payload : PayloadView) (room : payload.room ≡ 4096) (after : List Member) (kept : Keeps q middle.run run) (went : HasMoved q middle.run run) (rounds : HasGoneOn middle.run run before after) where
      keeps : Keeps frame.world middle.run run
      keeps = subst (λ (p : Plan). Keeps p middle.run run) there kept

      moved : HasMoved frame.world middle.run run
      moved = subst (λ (p : Plan). HasMoved p middle.run run) there went

      abbrev moved_on : SteppedInitiator
      moved_on = record { run = run; payload = Some payload; wallet = middle.wallet; grants = middle.grants; is_direct = middle.is_direct; owes = middle.owes }

      keeps_all : Keeps frame.world old.run run
      keeps_all = subst (λ (r : Run). Keeps frame.world r run) settled.run keeps

      rounds_all : HasGoneOn old.run run before after
      rounds_all = subst (λ (r : Run). HasGoneOn r run before after) settled.run rounds

      round_on : (run.finished ≡ true → run.round ≡ run.syncs) → IsInRound after old.run.engine.initiator run
      round_on through = IsInRound-gone old.run run before after round going rounds_all through

      pub stepped_on : (run.finished ≡ true → op_of run.engine ≡ next.Done) → IsStepped table tokens frame moved_on on
      stepped_on done = record {
        payload = payload;
        has_payload = refl;
        roomy = room;
        note_of = settled.stepped.note_of;
        below = settled.stepped.below;
        wallet_of = settled.stepped.wallet_of;
        styled = settled.stepped.styled ∙ ap (goes_direct frame.world) (sym keeps.initiator);
        is = subst (λ (o : Owes). IsOwing frame run on.knows middle.wallet middle.grants o) (sym (settled.settled refl)) (moved_along frame middle.run run on.knows middle.wallet middle.grants ready keeps moved done);
        settled = λ finished. settled.settled refl;
      }

      not_finished : run.finished ≡ middle.run.finished → run.finished ≡ false
      not_finished same = same ∙ middle_going

      pub on_going : run.finished ≡ middle.run.finished → IsStepped table tokens frame moved_on on
      on_going same = stepped_on (λ f. absurd (let wrong : false ≡ true = sym (not_finished same) ∙ f in cc (wrong)))

      -- it waits
      pub step_waits : run.finished ≡ middle.run.finished → IsWaiting after run → HasStepped table tokens frame old moved_on note on before after Waits
      step_waits same waiting = record {
        stepped = on_going same;
        number = keeps_all.initiator;
        adds = λ is. absurd (let wrong : Waits ≡ Made = is in cc (wrong));
        made = λ is. absurd (let wrong : Waits ≡ Made = is in cc (wrong));
        keeps = settled.knew;
        rounds = rounds_all;
        in_round = round_on (λ f. absurd (let wrong : false ≡ true = sym (not_finished same) ∙ f in cc (wrong)));
        none = λ unmade. keeps_all;
        waits = λ is. waiting;
        finished = λ is. absurd (let wrong : Waits ≡ Finished = is in cc (wrong));
        going = λ unfinished. not_finished same;
      }

      -- it has finished
      pub step_ends : HasNoMore run → run.round ≡ run.syncs → HasStepped table tokens frame old moved_on note on before after Finished
      step_ends ended through = record {
        stepped = stepped_on (λ f. ended.done);
        number = keeps_all.initiator;
        adds = λ is. absurd (let wrong : Finished ≡ Made = is in cc (wrong));
        made = λ is. absurd (let wrong : Finished ≡ Made = is in cc (wrong));
        keeps = settled.knew;
        rounds = rounds_all;
        in_round = round_on (λ f. through);
        none = λ unmade. keeps_all;
        waits = λ is. absurd (let wrong : Finished ≡ Waits = is in cc (wrong));
        finished = λ is. ended.finished;
        going = λ unfinished. absurd (unfinished refl);
      }

      -- the entry that it has made then is one of the whole step
      entry_made_on : (new : SteppedInitiator) (back : Noted Content Plan) → HasMadeOne table tokens frame moved_on new on back → HasNew (IsStepEntry frame.world old.run new.run) note.knows.known back.knows.known
      entry_made_on new back made =
          new_before (IsStepEntry frame.world old.run new.run) note.knows.known on.knows.known back.knows.known settled.knew
          (new_as (IsStepEntry frame.world run new.run) (IsStepEntry frame.world old.run new.run) on.knows.known back.knows.known
          (λ e is. record {
            access = subst (λ (n : ℕ). IsAccessOf frame.world n e) keeps_all.initiator is.access;
            round = λ j at. is.round j (ap (slice_get (initiators_of frame.world)) keeps_all.initiator ∙ at);
            come = λ j h at come. is.come j h (ap (slice_get (initiators_of frame.world)) keeps_all.initiator ∙ at) (keeps_all.come j h at come);
            next = λ answers.
                let n = is.next answers in
                record { middle = n.middle; keeps = Keeps-then frame.world old.run run n.middle keeps_all n.keeps; through = n.through; round = n.round; next = n.next };
          }) made.adds)

      -- it has made the entry that was next
      pub step_makes : run.finished ≡ middle.run.finished → run.round ≡ run.syncs → (new : SteppedInitiator) (back : Noted Content Plan) → HasMadeOne table tokens frame moved_on new on back → HasStepped table tokens frame old new note back before after Made
      step_makes same through new back made = record {
        stepped = made.stepped;
        number = made.number ∙ keeps_all.initiator;
        adds = λ is. access_of old.run new.run note.knows.known back.knows.known (entry_made_on new back made);
        made = λ is. entry_made_on new back made;
        keeps = λ e has. made.knew e (settled.knew e has);
        rounds = HasGoneOn-moved old.run run new.run before after rounds_all through made.syncs made.finished;
        in_round = IsInRound-gone old.run new.run before after round going (HasGoneOn-moved old.run run new.run before after rounds_all through made.syncs made.finished)
            (λ f. absurd (let wrong : false ≡ true = sym (made.finished ∙ not_finished same) ∙ f in cc (wrong)));
        none = λ unmade. absurd (unmade refl);
        waits = λ is. absurd (let wrong : Made ≡ Waits = is in cc (wrong));
        finished = λ is. absurd (let wrong : Made ≡ Finished = is in cc (wrong));
        going = λ unfinished. made.finished ∙ not_finished same;
      }
