-- A joined history with grants is sound, and good.
use Rattle.good_history.proofs.Decoupled.{decoupled_is_good, decoupled_is_sound}
use Rattle.good_history.proofs.WholeLemmas.{joined_ends_requests, joined_is_decoupled, joined_keeps_requests}
use Rattle.joined_traffic.specs.GrantLaws.{PartsMakeGood, PartsMakeSound}
use Rattle.joined_traffic.proofs.Ends.{parts_end_grants}
use Rattle.joined_traffic.proofs.Wholes.{parts_keep_grants}

pub parts_make_sound : PartsMakeSound
parts_make_sound p h none decoupled joined parts =
    let k = joined_keeps_requests p h joined in
    decoupled_is_sound p h none (joined_is_decoupled p h decoupled joined) k (parts_keep_grants p h k joined.owners parts)

pub parts_make_good : PartsMakeGood
parts_make_good p h none decoupled joined parts ended returned =
    let k = joined_keeps_requests p h joined in
    decoupled_is_good p h none (joined_is_decoupled p h decoupled joined) k (parts_keep_grants p h k joined.owners parts) (joined_ends_requests p h ended) (parts_end_grants p h k joined.owners returned)
