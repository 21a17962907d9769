use Rattle.platform_file.proofs.WorkedDocuments.{key_of_version_2_refused}
use Rattle.platform_file.proofs.worked.refuses_a_key_of_version_2.Goals as goal

pub returns : goal.returns
returns c = key_of_version_2_refused
