-- Each beginning of a sound history is sound.
use Rattle.tlm_model.proofs.HistoryLemmas.{KeepsRequests-front}
use Rattle.flow_model.proofs.Beginnings.{beginnings}
use Rattle.good_history.proofs.GrantBeginnings.{grant_beginnings}
use Rattle.good_history.specs.Laws.{HasSoundBeginnings}

pub sound_beginnings : HasSoundBeginnings
sound_beginnings p h m s = record {
  requests = KeepsRequests-front p h m s.requests;
  traffic = beginnings p h m s.traffic;
  grants = grant_beginnings p h m s.grants;
}
