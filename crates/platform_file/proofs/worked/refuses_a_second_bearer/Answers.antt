use Rattle.platform_file.proofs.WorkedDocuments.{shared_name_refused}
use Rattle.platform_file.proofs.worked.refuses_a_second_bearer.Goals as goal

pub returns : goal.returns
returns c = shared_name_refused
