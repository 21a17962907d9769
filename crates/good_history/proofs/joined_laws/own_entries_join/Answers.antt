use Rattle.good_history.proofs.ScriptLemmas.{own_scripts_join, own_times_join}
use Rattle.good_history.proofs.joined_laws.own_entries_join.Goals as goal

pub returns : goal.returns
returns c = record { scripts = own_scripts_join; times = own_times_join }
