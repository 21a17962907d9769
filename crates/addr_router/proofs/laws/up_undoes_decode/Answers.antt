use Rattle.addr_router.proofs.UpLemmas.{up_undoes_decode}
use Rattle.addr_router.proofs.laws.up_undoes_decode.Goals as goal

pub returns : goal.returns
returns c = up_undoes_decode
