use Rattle.platform_file.proofs.WorkedDocuments.{version_2_read}
use Rattle.platform_file.proofs.worked.reads_version_2.Goals as goal

pub returns : goal.returns
returns c = version_2_read
