-- A blocking or direct initiator that has finished is done, with its grants.
use Rattle.std.proofs.Common.{ℕ, inr}
use Rattle.atomic_table.specs.Seated.{TableId}
use Rattle.one_history.specs.Held.{Held}
use Rattle.token_book.specs.Purse.{Purse}
use Rattle.tlm_types.specs.declared.ends.EndOf.{EndOf}
use Rattle.tlm_types.specs.declared.entry.Content.{Content}
use Rattle.tlm_model.specs.Plan.{Plan}
use Rattle.decoupled_run.specs.End.{IsFinished as IsDecoupledFinished}
use Rattle.net_end.specs.Leaves.{IsFinished}

pub decoupled_finished : (table tokens : TableId) (p : Plan) (k : ℕ) (end : EndOf) (note : Held Content Plan) (wallet : Purse) → IsDecoupledFinished table tokens p k end note wallet → IsFinished table tokens p k end note wallet
decoupled_finished table tokens p k end note wallet is = record {
  note_of = is.note_of;
  wallet_of = is.wallet_of;
  no_others = is.no_others;
  done = λ all tells. record {
    initiator = is.initiator;
    at = is.at;
    by_style = inr (is.decoupled, record { run = is.done all tells; grants = is.grants all tells });
  };
}
