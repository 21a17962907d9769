use Rattle.addr_router.proofs.UpLemmas.{each_row_has_its_window}
use Rattle.addr_router.proofs.laws.each_row_has_its_window.Goals as goal

pub returns : goal.returns
returns c = each_row_has_its_window
