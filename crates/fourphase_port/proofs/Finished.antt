-- What a four-phase initiator leaves that has finished.
use Rattle.std.proofs.Common.{◌≡◌, List, length, sym, subst, inl}
use Rattle.atomic_table.specs.Seated.{TableId}
use Rattle.view_lists.specs.Lists.{Within}
use Rattle.one_history.specs.declared.entry.Entry.{Entry as HistoryEntry}
use Rattle.one_history.specs.declared.view.Frame.{Frame}
use Rattle.one_history.specs.Held.{Held}
use Rattle.token_book.specs.Purse.{Purse, left_of}
use Rattle.token_book.proofs.Purses.{nothing_past}
use Rattle.tlm_types.specs.declared.ends.EndOf.{EndOf}
use Rattle.tlm_types.specs.declared.entry.Content.{Content}
use Rattle.tlm_model.specs.Plan.{Plan}
use Rattle.cargo_model.specs.Known.{object_number, objects_of}
use Rattle.port_model.specs.Ends.{IsEndOfPort}
use Rattle.port_end.specs.Arrives.{events_of}
use Rattle.port_end.proofs.Arrives.{knows_more}
use Rattle.fourphase_port.specs.Pumps.{HasFinished}
use Rattle.port_moves.specs.State.{IsPort, StateView, with_note}
use Rattle.net_end.specs.Closed.{events_in}
use Rattle.net_end.specs.Done.{IsDoneWithGrants}
use Rattle.net_end.specs.Leaves.{IsFinished}

-- A port that has finished leaves what is wanted of one that has.
module _ (table tokens : TableId) (frame : Frame Plan) (s : StateView) (note : Held Content Plan) (end : EndOf) (port : IsPort table tokens frame (with_note s note)) (finished : HasFinished s) (end_is : IsEndOfPort s.port end) where
  abbrev p : Plan
  p = frame.world

  port_done : (all : List (HistoryEntry Content)) → Within note.knows.known all → IsDoneWithGrants p (events_in p.platform all) s.port.engine.initiator (λ o. left_of s.wallet (object_number p.platform o)) end
  port_done all tells = record {
    initiator = port.initiator;
    at = port.is;
    by_style = inl (
      port.style,
      record {
        port = s.port;
        known = events_of p.platform note.knows.known;
        seen = note.knows.seen;
        under_way = port.way;
        told = knows_more p.platform note.knows.known all tells;
        ended = finished.ended;
        none = finished.none;
        end_is = end_is;
      },
    );
  }

  pub port_finished : (wallet : Purse) → wallet ≡ s.wallet → IsFinished table tokens p s.port.engine.initiator end note wallet
  port_finished wallet same = subst (λ (w : Purse). IsFinished table tokens p s.port.engine.initiator end note w) (sym same) (record {
    note_of = port.note_of;
    wallet_of = port.wallet_of;
    no_others = λ k past. nothing_past s.wallet (length (objects_of p.platform)) k port.few_places past;
    done = port_done;
  })
