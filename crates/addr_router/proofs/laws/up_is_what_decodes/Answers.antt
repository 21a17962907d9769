use Rattle.addr_router.proofs.UpLemmas.{up_is_what_decodes}
use Rattle.addr_router.proofs.laws.up_is_what_decodes.Goals as goal

pub returns : goal.returns
returns c = up_is_what_decodes
