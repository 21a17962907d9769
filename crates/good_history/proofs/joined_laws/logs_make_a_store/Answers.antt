use Rattle.good_history.proofs.StoreLemmas.{logs_make_last_store, logs_make_store}
use Rattle.good_history.proofs.joined_laws.logs_make_a_store.Goals as goal

pub returns : goal.returns
returns c = record { legal = logs_make_store; last = logs_make_last_store }
