-- What BEGIN_RESP answers.
use Rattle.std.specs.Prelude.{ℕ, ◌≡◌, ◌++◌, [], ◌∷◌}
use Rattle.atomic_table.specs.Seated.{TableId}
use Rattle.one_history.specs.Held.{Held}
use Rattle.one_history.specs.declared.view.Frame.{Frame}
use Rattle.one_history.specs.declared.view.View.{View}
use Rattle.tlm_types.specs.declared.entry.Content.{Content}
use Rattle.tlm_model.specs.Plan.{Plan}
use Rattle.token_book.specs.Account.{Slip}
use Rattle.flow_model.specs.World.{Passage}
use Rattle.hop_object.specs.declared.call.HopReply.{HopReply}
use Rattle.hop_object.specs.declared.call.HopReply.TheVariants.{Responded}
use Rattle.hop_object.specs.declared.call.Responded.TheVariants as Replies
use Rattle.cargo_model.specs.declared.cargo.Cargo.{Cargo}
use Rattle.cargo_model.specs.Known.{Known}
use Rattle.cargo_model.specs.Travel.{GoesUp, Ready, with_wallet}
use Rattle.cargo_net.specs.declared.responses.Answered.{Answered}
use Rattle.cargo_net.specs.declared.responses.Answered.TheVariants.{Sent, Busy}
use Rattle.cargo_net.specs.Responds.{HasResponded}
use Rattle.cargo_net.specs.Wallets.{HoldsSame}

-- the note that comes back
abbrev pub answered_note : Answered → Held Content Plan
answered_note (Sent answer time note) = note
answered_note (Busy holder leg cargo note) = note

-- the reply of the hop: where it is Busy, the item as it was given
abbrev pub responded_reply : Cargo → Answered → HopReply Cargo
responded_reply item (Sent answer time note) = Responded (Replies.Sent answer time)
responded_reply item (Busy holder leg cargo note) = Responded (Replies.Busy holder leg item)

-- BEGIN_RESP was made, and is known with its time; or a response was open, and the same payload may go up as before, by the same leg and with
-- all its tickets
abbrev pub IsAnsweredAs : Frame Plan → TableId → ℕ → Slip → Cargo → ℕ → Passage → ℕ → View Content Plan → Answered → Type 0
IsAnsweredAs frame tokens number leg c at pass hop old (Sent answer time note) =
    HasResponded frame at c.baton.txn pass hop answer time note.knows.known
    × (note.knows.looks ≡ old.looks ++ (number, 0) ∷ [])
IsAnsweredAs frame tokens number leg c at pass hop old (Busy holder same cargo note) =
    (same ≡ leg) × (cargo ≡ with_wallet c cargo.baton.wallet) × HoldsSame cargo.baton.wallet c.baton.wallet
    × GoesUp frame.world tokens (Known frame.world.platform note.knows.known) c.baton.txn pass Ready hop cargo
    × (note.knows.looks ≡ old.looks ++ (number, 4) ∷ [])
