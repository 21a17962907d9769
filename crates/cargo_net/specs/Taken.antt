-- What a pool answers to a Take.
use Rattle.std.specs.Prelude.{ℕ, ◌≡◌, ◌++◌, [], ◌∷◌, Some, None}
use Rattle.atomic_table.specs.Seated.{TableId}
use Rattle.one_history.specs.Held.{Held}
use Rattle.one_history.specs.declared.view.Frame.{Frame}
use Rattle.one_history.specs.declared.view.View.{View}
use Rattle.tlm_types.specs.declared.entry.Content.{Content}
use Rattle.tlm_types.specs.declared.words.TxnId.{TxnId}
use Rattle.tlm_model.specs.Plan.{Plan}
use Rattle.token_book.specs.declared.ticket.Ticket.{Ticket}
use Rattle.payload_pool.specs.declared.call.PoolReply.{PoolReply}
use Rattle.payload_pool.specs.declared.call.PoolReply.TheVariants as Replies
use Rattle.cargo_net.specs.declared.pools.Taken.{Taken}
use Rattle.cargo_net.specs.declared.pools.Taken.TheVariants.{Took, Full}
use Rattle.cargo_net.specs.Pools.{HasTaken}

-- the note that comes back
abbrev pub taken_note : Taken → Held Content Plan
taken_note (Took baton note) = note
taken_note (Full ticket note) = note

-- the reply of the pool
abbrev pub took_reply : Taken → PoolReply
took_reply (Took baton note) = Replies.Took (Some baton)
took_reply (Full ticket note) = Replies.Took None

-- a payload was taken, or all slots are live and the ticket comes back
abbrev pub IsTakenAs : Frame Plan → TableId → ℕ → Ticket → TxnId → ℕ → View Content Plan → Taken → Type 0
IsTakenAs frame tokens number given x at old (Took baton note) =
    HasTaken frame tokens x at old.seen baton note.knows.known
    × (note.knows.looks ≡ old.looks ++ (number, 0) ∷ [])
IsTakenAs frame tokens number given x at old (Full ticket note) =
    (ticket ≡ given)
    × (note.knows.looks ≡ old.looks ++ (number, 6) ∷ [])
