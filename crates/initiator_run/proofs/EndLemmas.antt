-- The end of a run.
use Rattle.std.proofs.Math.Nat.{zero-add}
use Rattle.std.proofs.Common.{◌≡◌, ℕ, ◌+◌, ◌-◌, ◌^◌, ◌<◌, ◌≤◌, List, [], ◌∷◌, ◌++◌, map, Option, Some, Bool, true, false, ◌||◌, ◌&&◌, nat_eq, is_none, refl, ap, sym, ◌∙◌, arith, add-zero}
use Rattle.std.specs.List.{AllByRecursion, filter, list_all}
use Rattle.std.proofs.lemmas.List.Folds.{list_all-append}
use Rattle.tlm_types.specs.declared.entry.Entry.{Entry}
use Rattle.tlm_model.specs.declared.platform.Platform.{Platform}
use Rattle.tlm_model.specs.declared.platform.Style.{Style}
use Rattle.tlm_model.specs.declared.platform.Style.TheVariants.{Blocking as blocking_style}
use Rattle.tlm_model.specs.Plan.{Initiator}
use Rattle.tlm_model.specs.Requests.{Request, requests_of, numbers_in, end_of, has_no_route, refused_of}
use Rattle.tlm_model.specs.Rounds.{round_of, syncs_by, syncs_from}
use Rattle.tlm_model.specs.Route.{Route, route_of}
use Rattle.tlm_model.specs.Scripts.{has_answer, is_settled}
use Rattle.tlm_model.proofs.EachLemmas.{append_nil}
use Rattle.quantum_keeper.specs.Keeper.{current_time}
use Rattle.script_engine.specs.declared.op.Op.TheVariants as next
use Rattle.script_engine.specs.Laws.{BeginsAtTheStart, EndsWithNothingLeft}
use Rattle.script_engine.specs.State.{begun_engine, next_of, op_of, payload_of}
use Rattle.script_engine.specs.declared.part.Part.TheVariants.{Asks}
use Rattle.script_engine.specs.declared.part.Transfer.{Transfer}
use Rattle.script_engine.specs.Asking.{request_for, requests_at, syncs_at}
use Rattle.initiator_run.specs.Come.{HasCome, has_ended, rounds_at}
use Rattle.traffic_script.specs.Proper.{IsProper}
use Rattle.initiator_run.specs.Run.{Run, fresh_run, refused_item}
use Rattle.initiator_run.proofs.ComeLemmas.{HasMade-other}
use Rattle.initiator_run.proofs.NextLemmas.{request_is_first, seq_of_next}

-- all that a run has come to, while another initiator makes an entry
pub HasCome-other : (p : Platform) (i : Initiator) (h : List Entry) (e : Entry) (r : Run) → nat_eq e.txn.initiator i.number ≡ false → HasCome p i h r → HasCome p i (h ++ e ∷ []) r
HasCome-other p i h e r apart come = record {
  stage = come.stage;
  made = come.made;
  asked = HasMade-other p i h e come.made _ apart come.asked;
  count = come.count;
  refused = come.refused;
  counted = come.counted;
  proper = come.proper;
}

-- a run that was finished is where it was
pub HasCome-finished : (p : Platform) (i : Initiator) (h : List Entry) (r : Run) (b : Bool) → HasCome p i h r → HasCome p i h (record r { finished = b })
HasCome-finished p i h r b come = record {
  stage = come.stage;
  made = come.made;
  asked = come.asked;
  count = come.count;
  refused = come.refused;
  counted = record {
    number = come.counted.number;
    quantum = come.counted.quantum;
    end = come.counted.end;
    syncs = come.counted.syncs;
    rounds = come.counted.rounds;
    numbers = come.counted.numbers;
    few = come.counted.few;
    roomy = come.counted.roomy;
  };
  proper = come.proper;
}

-- so is one that is let into another round
pub HasCome-round : (p : Platform) (i : Initiator) (h : List Entry) (r : Run) (n : ℕ) → HasCome p i h r → HasCome p i h (record r { round = n })
HasCome-round p i h r n come = record {
  stage = come.stage;
  made = come.made;
  asked = come.asked;
  count = come.count;
  refused = come.refused;
  counted = record {
    number = come.counted.number;
    quantum = come.counted.quantum;
    end = come.counted.end;
    syncs = come.counted.syncs;
    rounds = come.counted.rounds;
    numbers = come.counted.numbers;
    few = come.counted.few;
    roomy = come.counted.roomy;
  };
  proper = come.proper;
}

-- the requests of a history, as they were made and are left
pub requests_now : (p : Platform) (i : Initiator) (h : List Entry) (r : Run) (come : HasCome p i h r) → requests_of p i h ≡ come.made ++ requests_at p i h (current_time r.keeper) come.stage r.engine
requests_now p i h r come =
    ap (requests_of p i) (sym (append_nil h))
    ∙ (come.asked.asked []
    ∙ ap (λ (x : List Entry). come.made ++ requests_at p i x (current_time r.keeper) come.stage r.engine) (append_nil h))

pub all_made : (ends : EndsWithNothingLeft) (p : Platform) (i : Initiator) (h : List Entry) (r : Run) (come : HasCome p i h r) → op_of r.engine ≡ next.Done → requests_of p i h ≡ come.made
all_made ends p i h r come done =
    requests_now p i h r come
    ∙ (ap (λ (x : List Request). come.made ++ x) (ends.requests p i h (current_time r.keeper) come.stage r.engine done) ∙ append_nil come.made)

-- what a run has come to where its script has ended
pub record HasReachedEnd (p : Platform) (i : Initiator) (h : List Entry) (r : Run) : Type 0 where
  pub ended : has_ended p i h ≡ true
  pub transactions : r.engine.seq ≡ numbers_in i.script
  pub syncs : r.syncs ≡ syncs_from p i 0 0 i.script
  pub end : current_time r.keeper ≡ end_of p i
  pub refused : r.refused.items ≡ map refused_item (refused_of p i h)

pub HasCome-ended : (ends : EndsWithNothingLeft) (p : Platform) (i : Initiator) (h : List Entry) (r : Run) → HasCome p i h r → op_of r.engine ≡ next.Done → HasReachedEnd p i h r
HasCome-ended ends p i h r come done = record {
  ended = ap (list_all (is_settled p i h)) (all_made ends p i h r come done) ∙ come.asked.settled;
  transactions = sym (ends.numbers r.engine done) ∙ come.counted.numbers;
  syncs = sym (ap (λ (n : ℕ). r.syncs + n) (ends.syncs p i r.keeper.last_sync (current_time r.keeper) r.engine done) ∙ add-zero r.syncs) ∙ come.counted.syncs;
  end = sym (ends.end p i (current_time r.keeper) r.engine done) ∙ come.counted.end;
  refused = come.refused ∙ sym (ap (λ (x : List Request). map refused_item (filter (λ q. has_no_route p i q q.asked) x)) (all_made ends p i h r come done));
}

one_unsettled : (p : Platform) (i : Initiator) (h : List Entry) (made more : List Request) (q : Request) → is_settled p i h q ≡ false → list_all (is_settled p i h) (made ++ q ∷ more) ≡ false
one_unsettled p i h made more q is =
    list_all-append (is_settled p i h) made (q ∷ more)
    ∙ (ap (λ (b : Bool). list_all (is_settled p i h) made && (b && list_all (is_settled p i h) more)) is ∙ and_false (list_all (is_settled p i h) made))
  where
    and_false : (b : Bool) → b && false ≡ false
    and_false true = refl
    and_false false = refl

-- the syncs of a blocking initiator
pub blocking_syncs : (style : Style) (n : ℕ) → style ≡ blocking_style → syncs_by style n ≡ n
blocking_syncs style n is = ap (λ (s : Style). syncs_by s n) is

-- a request with a route that is next has no answer yet
pub request_is_open : (p : Platform) (i : Initiator) (h : List Entry) (r : Run) (x : Transfer) (route : Route) → next_of r.engine ≡ Asks x → route_of p i x.address ≡ Some route → (come : HasCome p i h r)
    → is_settled p i h (request_for x (payload_of r.engine 0) (current_time r.keeper) come.stage) ≡ false
request_is_open p i h r x route is leads come =
    ap (λ (o : Option Route). is_none o || has_answer i.number x.seq h) leads
    ∙ (ap (λ (s : ℕ). has_answer i.number s h) (seq_of_next r.engine x is)
    ∙ come.asked.fresh r.engine.seq (omega (arith, come.count)))

-- a script has not ended where a request with a route is next
pub HasCome-open : (p : Platform) (i : Initiator) (h : List Entry) (r : Run) (x : Transfer) (route : Route) → next_of r.engine ≡ Asks x → route_of p i x.address ≡ Some route → HasCome p i h r → has_ended p i h ≡ false
HasCome-open p i h r x route is leads come =
    let q = request_for x (payload_of r.engine 0) (current_time r.keeper) come.stage in
    let first = request_is_first p i h (current_time r.keeper) come.stage 0 r.engine x is in
    ap (list_all (is_settled p i h)) (requests_now p i h r come ∙ ap (λ (asked : List Request). come.made ++ asked) first.first)
    ∙ one_unsettled p i h come.made first.more q (request_is_open p i h r x route is leads come)

-- a run that has not begun
pub HasCome-begun : (begins : BeginsAtTheStart) (p : Platform) (i : Initiator) (room : ℕ) → syncs_from p i 0 0 i.script < 2 ^ 64 → numbers_in i.script ≤ room → AllByRecursion IsProper i.script → HasCome p i [] (fresh_run i.number i.script p.quantum room)
HasCome-begun begins p i room few roomy proper = record {
  stage = 0;
  made = [];
  asked = record {
    asked = λ m. sym (begins.requests p i m i.number);
    settled = refl;
    fresh = λ s after. refl;
  };
  count = refl;
  refused = refl;
  counted = record {
    number = refl;
    quantum = refl;
    end = begins.end p i i.number;
    syncs = zero-add (syncs_at p i 0 0 (begun_engine i.number i.script)) ∙ begins.syncs p i i.number;
    rounds = λ s after. zero-add (rounds_at p i 0 0 (begun_engine i.number i.script) (s - 0)) ∙ ap (round_of p i) (whole s);
    numbers = begins.numbers i i.number;
    few = few;
    roomy = roomy;
  };
  proper = proper;
}
  where
    whole : (s : ℕ) → s - 0 ≡ s
    whole s = omega arith
