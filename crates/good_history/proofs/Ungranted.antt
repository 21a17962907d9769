-- Right histories of plans without direct initiators.
use Rattle.std.proofs.Common.{List, [], ◌∷◌, ◌++◌}
use Rattle.tlm_types.specs.declared.entry.Entry.{Entry}
use Rattle.tlm_model.specs.Kept.{KeepsRequests, EndsRequests}
use Rattle.tlm_model.specs.Plan.{Plan}
use Rattle.tlm_model.proofs.HistoryLemmas.{AllByRecursion-push}
use Rattle.flow_model.specs.Plans.{HasNoFourPhase, IsDecoupled}
use Rattle.good_history.specs.GrantLaws.{ClosesNothing, HasNoDirect, IsNoClosing}
use Rattle.good_history.proofs.GrantsNone.{ungranted_closes_nothing, ungranted_keeps_grants}
use Rattle.good_history.specs.Good.{IsGood, IsSound}
use Rattle.good_history.specs.Laws.{AllDecoupled, SoundIsUngranted, UngrantedIsGood, UngrantedIsSound}
use Rattle.good_history.proofs.Decoupled.{decoupled_is_good, decoupled_is_sound, sound_is_decoupled}

pub sound_is_ungranted : SoundIsUngranted
sound_is_ungranted p h direct s = ungranted_closes_nothing p h direct s.requests s.grants

pub ungranted_is_sound : UngrantedIsSound
ungranted_is_sound p h direct closes k traffic = record { requests = k; traffic = traffic; grants = (ungranted_keeps_grants p h direct closes k).0 }

pub ungranted_is_good : UngrantedIsGood
ungranted_is_good p h direct closes k traffic ends ended = record {
  sound = ungranted_is_sound p h direct closes k traffic;
  requests = ends;
  traffic = ended;
  grants = (ungranted_keeps_grants p h direct closes k).1;
}

-- where all initiators are blocking, and no gate is closed, the points of requests are all
pub blocking_is_sound : (p : Plan) (h : List Entry) → HasNoFourPhase p → HasNoDirect p → AllDecoupled h → ClosesNothing h → KeepsRequests p h → IsSound p h
blocking_is_sound p h none direct decoupled closes k = decoupled_is_sound p h none decoupled k (ungranted_keeps_grants p h direct closes k).0

pub blocking_is_good : (p : Plan) (h : List Entry) → HasNoFourPhase p → HasNoDirect p → AllDecoupled h → ClosesNothing h → KeepsRequests p h → EndsRequests p h → IsGood p h
blocking_is_good p h none direct decoupled closes k ends =
    let grants = ungranted_keeps_grants p h direct closes k in
    decoupled_is_good p h none decoupled k grants.0 ends grants.1

-- such a history begins, grows by an entry, and ends
pub sound_empty : (p : Plan) → HasNoFourPhase p → HasNoDirect p → IsSound p []
sound_empty p none direct = blocking_is_sound p [] none direct tt tt (record {
  numbered = tt;
  legal = tt;
  scripts = record { replies = tt; ways = tt; order = tt; places = tt };
  times = tt;
})

pub sound_grows : (p : Plan) (h : List Entry) (e : Entry) → HasNoFourPhase p → HasNoDirect p → IsSound p h → IsDecoupled e.object e.what → IsNoClosing e.what → KeepsRequests p (h ++ e ∷ []) → IsSound p (h ++ e ∷ [])
sound_grows p h e none direct s decoupled open_still k =
    blocking_is_sound p (h ++ e ∷ []) none direct
    (AllByRecursion-push (λ (f : Entry). IsDecoupled f.object f.what) h e (sound_is_decoupled p h none s) decoupled)
    (AllByRecursion-push (λ (f : Entry). IsNoClosing f.what) h e (sound_is_ungranted p h direct s) open_still)
    k

pub sound_ends : (p : Plan) (h : List Entry) → HasNoFourPhase p → HasNoDirect p → IsSound p h → EndsRequests p h → IsGood p h
sound_ends p h none direct s ends = blocking_is_good p h none direct (sound_is_decoupled p h none s) (sound_is_ungranted p h direct s) s.requests ends
