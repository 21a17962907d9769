-- The law.
use Rattle.std.proofs.Common.{true, ◌≡◌, ℕ, ◌+◌, List, [], ◌∷◌, ◌++◌, refl, ap, sym, ◌∙◌, subst}
use Rattle.std.proofs.lemmas.List.Elements.{filter-append}
use Rattle.tlm_types.specs.declared.words.ObjectNo.TheVariants.{Hop, Pool}
use Rattle.tlm_types.specs.declared.words.TxnId.{TxnId}
use Rattle.tlm_types.specs.declared.entry.Entry.{Entry}
use Rattle.tlm_model.specs.History.{entries_at, is_object}
use Rattle.base_phases.specs.Sequences.{Call}
use Rattle.flow_model.specs.Board.{Reaches, start}
use Rattle.flow_model.specs.ByRules.{request_end as hop_request_end}
use Rattle.flow_model.specs.Calls.{calls_of}
use Rattle.flow_model.specs.Protocol.{BeginsOnce as HopBeginsOnce}
use Rattle.flow_model.specs.Table.{IsBegunIn}
use Rattle.flow_model.proofs.ExclusionLemmas.{exclusive}
use Rattle.flow_model.proofs.RuleLemmas.{keeps_rules}
use Rattle.flow_model.specs.World.{World, hop_at, row_of}
use Rattle.flow_model.specs.Events.{Event, Among, IsAcquire, at, entries, hop_log}
use Rattle.flow_model.specs.Events.{acquires as entry_acquires}
use Rattle.flow_model.specs.Points.{HasTable}
use Rattle.flow_model.specs.Law.{Premises, Law}
use Rattle.flow_model.proofs.CallLists.{all_calls, calls_at, entries-at, prefix_to, rows_are}
use Rattle.flow_model.proofs.Each.{at_each, each_from}
use Rattle.flow_model.proofs.Ending.{in_turn}
use Rattle.flow_model.proofs.Forms.{AtSplits, Given, acquire_by, acquires, is_txn, request_end, rows, sayings}
use Rattle.flow_model.proofs.Freed.{freed_last}
use Rattle.flow_model.proofs.HopLogs.{hop_model, begins_once, request_end_same}
use Rattle.flow_model.proofs.OneNumber.{counts}
use Rattle.flow_model.proofs.Orders.{orders}
use Rattle.flow_model.proofs.Renumbered.{orders as numbered_orders, freed_last as numbered_freed_last, in_turn as numbered_in_turn, times as numbered_times}
use Rattle.flow_model.proofs.Splits.{at-split, from_at}
use Rattle.flow_model.specs.Calls.{has_open_request}
use Rattle.flow_model.proofs.Table.{table}
use Rattle.flow_model.proofs.Times.{times}

pub acquires_same : (x : TxnId) (l : List Event) → entry_acquires x (entries l) ≡ acquires x l
acquires_same x [] = refl
acquires_same x (e ∷ l) = ap (λ (n : ℕ). acquire_by (is_txn x e.txn) e.what + n) (acquires_same x l)

module _ (w : World) (slots : ℕ → ℕ) (issued : List Entry → TxnId → ℕ) (h : List Event) (pr : Premises w slots issued h) where
  mine : (o : ℕ) (e : Event) → Among (at (Hop o) h) e → e.object ≡ Hop o
  mine o e m = (from_at (Hop o) h e m).mine

  steps : (o : ℕ) → Reaches (w.hop o).rules start (entries (at (Hop o) h)) (pr.hops o).board
  steps o = subst (λ (l : List Entry). Reaches (w.hop o).rules start l (pr.hops o).board) (entries-at (Hop o) h) (pr.hops o).steps

  once : (o : ℕ) → HopBeginsOnce (entries (at (Hop o) h))
  once o = subst HopBeginsOnce (entries-at (Hop o) h) (pr.one_begin o)

  ends : (o : ℕ) (before after : List Event) → h ≡ before ++ after → hop_request_end (hop_log o before) ≡ request_end o (at (Hop o) before)
  ends o before after q =
      ap hop_request_end (entries-at (Hop o) before)
      ∙ request_end_same w o (at (Hop o) h) (mine o) (pr.hops o).board (steps o) (once o) (at (Hop o) before) (at (Hop o) after)
      (ap (at (Hop o)) q ∙ filter-append (λ (e : Event). is_object (Hop o) e.object) before after)

  pub given : Given w slots issued h
  given = record {
    world = pr.world;
    backed = at_each _ h pr.backed;
    hops = λ o. hop_model w o (at (Hop o) h) (mine o) (pr.hops o).board (steps o) (once o);
    marks = λ before e after q o a c n.
        subst (λ (l : List Entry). has_open_request e.txn l ≡ true) (sym (entries-at (Hop o) before))
        (at_each _ (at (Hop o) h) (pr.marks o) (at (Hop o) before) e (at (Hop o) after) (at-split (Hop o) h before after e q c.object) a c.what n);
    pools = λ i. at_each _ (at (Pool i) h) (pr.pools i);
    one_take = λ i. at_each _ (at (Pool i) h) (pr.one_take i);
    one_access = at_each _ h pr.one_access;
    one_begin = λ o. begins_once w o (at (Hop o) h) (mine o) (pr.hops o).board (steps o) (once o);
    unrouted = pr.unrouted;
    takes = at_each _ h pr.takes;
    times = pr.times;
    request_ends = ends;
  }

  has_table : HasTable w (entries h)
  has_table x pass is k below =
      let row = row_of w pass k in
      let resp = (w.hop (hop_at pass k)).resp in
      subst (λ (l : List (List Call)). IsBegunIn l (calls_of x (hop_log (hop_at pass k) h))) (sym (rows_are row resp))
      (subst (λ (l : List Call). IsBegunIn (all_calls (rows row resp)) l) (sym (calls_at x (hop_at pass k) h))
      (prefix_to (rows row resp) (sayings x (hop_at pass k) h) (table w slots issued h given x pass is k below)))

  -- the number of an Acquire is that of the Acquires before
  pub counted : AtSplits (λ before e. (x : TxnId) (n : ℕ) → IsAcquire x n e → n ≡ entry_acquires x (entries_at (Pool x.initiator) (entries before))) h
  counted before e after q x n c =
      counts w slots issued h given before e after q x n c
      ∙ (sym (acquires_same x (at (Pool x.initiator) before)) ∙ ap (entry_acquires x) (sym (entries-at (Pool x.initiator) before)))

pub law : Law
law w slots issued h pr =
    let g = given w slots issued h pr in
    let n = counted w slots issued h pr in
    let order = orders w h g.backed in
    record {
      orders = numbered_orders w issued h n order;
      freed_last = numbered_freed_last w issued h n (freed_last w slots issued h g);
      ends_in_turn = numbered_in_turn w issued h n (each_from _ h (in_turn w slots issued h g));
      table = has_table w slots issued h pr;
      modes = λ o. keeps_rules (w.hop o).rules (hop_log o h) (pr.hops o).board (pr.hops o).steps (pr.one_begin o);
      exclusive = λ o. exclusive (w.hop o).rules (hop_log o h) (pr.hops o).board (pr.hops o).steps (pr.one_begin o);
      times = numbered_times w issued h n order (times w slots issued h g);
    }
