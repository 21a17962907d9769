use Rattle.addr_router.proofs.UpLemmas.{decodes_by_its_window}
use Rattle.addr_router.proofs.laws.each_address_has_its_window.Goals as goal

pub returns : goal.returns
returns c = decodes_by_its_window
