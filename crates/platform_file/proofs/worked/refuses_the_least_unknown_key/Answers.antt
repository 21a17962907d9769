use Rattle.platform_file.proofs.WorkedDocuments.{unknown_keys_refused}
use Rattle.platform_file.proofs.worked.refuses_the_least_unknown_key.Goals as goal

pub returns : goal.returns
returns c = unknown_keys_refused
