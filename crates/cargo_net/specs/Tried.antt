-- What BEGIN_REQ answers.
use Rattle.std.specs.Prelude.{ℕ, ◌≡◌, ◌++◌, [], ◌∷◌}
use Rattle.atomic_table.specs.Seated.{TableId}
use Rattle.one_history.specs.Held.{Held}
use Rattle.one_history.specs.declared.view.Frame.{Frame}
use Rattle.one_history.specs.declared.view.View.{View}
use Rattle.tlm_types.specs.declared.entry.Content.{Content}
use Rattle.tlm_model.specs.Plan.{Plan}
use Rattle.flow_model.specs.World.{Passage}
use Rattle.hop_object.specs.declared.call.Begun.TheVariants as Replies
use Rattle.hop_object.specs.declared.call.HopReply.{HopReply}
use Rattle.hop_object.specs.declared.call.HopReply.TheVariants.{Begun}
use Rattle.cargo_model.specs.declared.cargo.Cargo.{Cargo}
use Rattle.cargo_model.specs.Known.{Known}
use Rattle.cargo_model.specs.Travel.{GoesDown, Ready, There, with_wallet}
use Rattle.cargo_net.specs.declared.requests.Tried.{Tried}
use Rattle.cargo_net.specs.declared.requests.Tried.TheVariants.{Left, Now, Busy}
use Rattle.cargo_net.specs.Begins.{HasRequested, HasOwedLeg}
use Rattle.cargo_net.specs.Wallets.{HoldsSame, item_given}

-- the note that comes back
abbrev pub tried_note : Tried → Held Content Plan
tried_note (Left answer time note) = note
tried_note (Now answer time leg cargo note) = note
tried_note (Busy holder live cargo note) = note

-- the reply of the hop: where it is Busy, the item as it was given
abbrev pub begun_reply : Cargo → Tried → HopReply Cargo
begun_reply item (Left answer time note) = Begun (Replies.Left answer time)
begun_reply item (Now answer time leg cargo note) = Begun (Replies.Now answer time leg cargo)
begun_reply item (Busy holder live cargo note) = Begun (Replies.Busy holder live item)

-- BEGIN_REQ was made, and is known with its time: the payload waits below, or its response comes by return and it comes back without the ticket
-- that was spent. Or a request is open or no lane free, and the same payload may go down as before, with all its tickets.
abbrev pub IsTried : Frame Plan → TableId → ℕ → Cargo → ℕ → Passage → ℕ → View Content Plan → Tried → Type 0
IsTried frame tokens number c at pass hop old (Left answer time note) =
    HasRequested frame at c.baton.txn pass hop answer 1 time note.knows.known
    × (note.knows.looks ≡ old.looks ++ (number, 0) ∷ [])
IsTried frame tokens number c at pass hop old (Now answer time leg cargo note) =
    HasRequested frame at c.baton.txn pass hop answer 0 time note.knows.known
    × HasOwedLeg frame tokens number note.knows.known c.baton.txn answer leg
    × (cargo ≡ item_given tokens number c)
    × GoesDown frame.world tokens (Known frame.world.platform note.knows.known) c.baton.txn pass There hop cargo
    × (note.knows.looks ≡ old.looks ++ (number, 0) ∷ [])
IsTried frame tokens number c at pass hop old (Busy holder live cargo note) =
    (cargo ≡ with_wallet c cargo.baton.wallet) × HoldsSame cargo.baton.wallet c.baton.wallet
    × GoesDown frame.world tokens (Known frame.world.platform note.knows.known) c.baton.txn pass Ready hop cargo
    × (note.knows.looks ≡ old.looks ++ (number, 3) ∷ [])
