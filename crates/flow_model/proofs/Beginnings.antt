-- Each beginning of a history that has the points has them.
use Rattle.std.proofs.Common.{◌≡◌, ℕ, List, [], ◌∷◌, ◌++◌, Some, ap, sym, ◌∙◌, subst, append_assoc}
use Rattle.std.proofs.lemmas.List.Elements.{filter-append}
use Rattle.tlm_types.specs.declared.words.ObjectNo.{ObjectNo}
use Rattle.tlm_types.specs.declared.words.ObjectNo.TheVariants.{Hop, Pool}
use Rattle.tlm_types.specs.declared.words.TxnId.{TxnId}
use Rattle.tlm_types.specs.declared.entry.Entry.{Entry}
use Rattle.tlm_model.specs.Each.{AtEach}
use Rattle.tlm_model.specs.History.{entries_at, is_object}
use Rattle.tlm_model.proofs.EachLemmas.{AtEach-front, append_nil}
use Rattle.base_phases.specs.Sequences.{Call}
use Rattle.flow_model.specs.Calls.{calls_of}
use Rattle.flow_model.specs.Table.{IsBegunIn, sequences_of}
use Rattle.flow_model.proofs.CallLemmas.{calls-append}
use Rattle.flow_model.specs.World.{hop_at, row_of}
use Rattle.flow_model.specs.Platform.{world_of}
use Rattle.flow_model.specs.Events.{Event, number_in, numbered, numbered_from}
use Rattle.flow_model.specs.Plans.{HasTrafficBeginnings}

log-append : (o : ObjectNo) (h m : List Entry) → entries_at o (h ++ m) ≡ entries_at o h ++ entries_at o m
log-append o h m = filter-append (λ (e : Entry). is_object o e.object) h m

numbered-append : (b h m : List Entry) → numbered_from b (h ++ m) ≡ numbered_from b h ++ numbered_from (b ++ h) m
numbered-append b [] m = ap (λ (l : List Entry). numbered_from l m) (sym (append_nil b))
numbered-append b (e ∷ h) m =
    ap (λ (l : List Event). record { entry = e; number = number_in b e.txn e.what } ∷ l)
    (numbered-append (b ++ e ∷ []) h m ∙ ap (λ (l : List Entry). numbered_from (b ++ e ∷ []) h ++ numbered_from l m) (append_assoc b (e ∷ []) h))

begun_front : (rows : List (List Call)) (a b : List Call) → IsBegunIn rows (a ++ b) → IsBegunIn rows a
begun_front rows a b s = (s.0, b ++ s.1, s.2 ∙ ap Some (append_assoc a b s.1))

-- what holds at each entry of a log or of the numbered history
log_front : (P : List Entry → Entry → Type 0) (o : ObjectNo) (h m : List Entry) → AtEach P (entries_at o (h ++ m)) → AtEach P (entries_at o h)
log_front P o h m f = AtEach-front P (entries_at o h) (entries_at o m) (subst (AtEach P) (log-append o h m) f)

numbered_front : (P : List Event → Event → Type 0) (h m : List Entry) → AtEach P (numbered (h ++ m)) → AtEach P (numbered h)
numbered_front P h m f = AtEach-front P (numbered h) (numbered_from h m) (subst (AtEach P) (numbered-append [] h m) f)

table_front : (rows : List (List Call)) (x : TxnId) (o : ℕ) (h m : List Entry) → IsBegunIn rows (calls_of x (entries_at (Hop o) (h ++ m))) → IsBegunIn rows (calls_of x (entries_at (Hop o) h))
table_front rows x o h m b =
    begun_front rows (calls_of x (entries_at (Hop o) h)) (calls_of x (entries_at (Hop o) m))
    (subst (λ (l : List Call). IsBegunIn rows l) (ap (calls_of x) (log-append (Hop o) h m) ∙ calls-append x (entries_at (Hop o) h) (entries_at (Hop o) m)) b)

pub beginnings : HasTrafficBeginnings
beginnings p h m k = record {
  phases = record {
    table = λ x pass is j below. table_front (sequences_of (row_of (world_of p) pass j) ((world_of p).hop (hop_at pass j)).resp) x (hop_at pass j) h m (k.phases.table x pass is j below);
    modes = λ o. log_front _ (Hop o) h m (k.phases.modes o);
  };
  exclusive = record {
    hops = λ o. (
        let x = k.exclusive.hops o in
        record { requests = log_front _ (Hop o) h m x.requests; responses = log_front _ (Hop o) h m x.responses; lanes = log_front _ (Hop o) h m x.lanes });
  };
  passes = record { orders = numbered_front _ h m k.passes.orders; ends_in_turn = numbered_front _ h m k.passes.ends_in_turn };
  pools = record {
    counts = λ i. log_front _ (Pool i) h m (k.pools.counts i);
    one_take = λ i. log_front _ (Pool i) h m (k.pools.one_take i);
    freed_last = numbered_front _ h m k.pools.freed_last;
  };
  times = record { calls = numbered_front _ h m k.times.calls; others = AtEach-front _ h m k.times.others; waits = AtEach-front _ h m k.times.waits };
}
