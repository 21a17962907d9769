use Rattle.platform_file.proofs.WorkedDocuments.{example_read}
use Rattle.platform_file.proofs.worked.reads_an_example.Goals as goal

pub returns : goal.returns
returns c = example_read
