-- A history without four-phase traffic has the points.
use Rattle.std.proofs.Common.{◌≡◌, ◌≢◌, ℕ, zero, suc, List, [], ◌∷◌, ◌++◌, Option, Some, None, true, false, Bool, cond, refl, ap, sym, ◌∙◌, subst, inl, inr}
use Rattle.std.specs.Prelude.{slice_get, MatchOption}
use Rattle.std.specs.List.{AllByRecursion}
use Rattle.tlm_types.specs.declared.words.ObjectNo.{ObjectNo}
use Rattle.tlm_types.specs.declared.words.ObjectNo.TheVariants.{Memory, Hop, Pool}
use Rattle.tlm_types.specs.declared.words.TxnId.{TxnId}
use Rattle.tlm_types.specs.declared.entry.Entry.{Entry}
use Rattle.tlm_types.specs.declared.entry.What.{What}
use Rattle.tlm_types.specs.declared.entry.What.TheVariants.{Access as Accessed, Granted, Invalidated, Closed, Call, Take, Acquire, Release}
use Rattle.tlm_model.specs.declared.platform.Style.{Style}
use Rattle.tlm_model.specs.declared.platform.Style.TheVariants.{Blocking, Direct, FourPhase}
use Rattle.tlm_model.specs.Each.{EachFrom}
use Rattle.tlm_model.specs.History.{entries_at, is_object}
use Rattle.tlm_model.specs.Plan.{Plan, Initiator, initiators_of}
use Rattle.tlm_model.specs.Requests.{Request, requests_of}
use Rattle.tlm_model.specs.Scripts.{OfRequest}
use Rattle.tlm_model.proofs.EachLemmas.{EachFrom-weaker}
use Rattle.tlm_model.proofs.HistoryLemmas.{AllByRecursion-push, all_at}
use Rattle.flow_model.specs.ByRules.{KeepsRules}
use Rattle.flow_model.specs.Protocol.{IsExclusive}
use Rattle.flow_model.specs.World.{World, Passage}
use Rattle.flow_model.specs.Events.{Event, Among, Finds, number_in, numbered, numbered_from}
use Rattle.flow_model.specs.Counts.{KeepsCounts, TakesAtMostOnce}
use Rattle.flow_model.specs.Issue.{issue_time}
use Rattle.flow_model.specs.Platform.{addresses_of, passage_by, passage_to, world_of}
use Rattle.flow_model.specs.Points.{InOrderBy, IsFreed, TimedBy}
use Rattle.flow_model.specs.Traffic.{HasEnded, IsIssuedBy, IsWaitedFor, slots_of}
use Rattle.flow_model.specs.Plans.{DecoupledTraffic, HasNoFourPhase, IsAsked, IsDecoupled, KeepsTraffic, EndsTraffic}

-- nobody passes a hop
pub no_passage : (p : Plan) → HasNoFourPhase p → (x : TxnId) → (world_of p).passage x ≡ None
no_passage p none x = go (slice_get (initiators_of p) x.initiator) refl
  where
    by_style : (i : Initiator) (s : Style) → s ≢ FourPhase → (a : Option (Option ℕ)) → passage_to p.platform i s a ≡ None
    by_style i Blocking n a = refl
    by_style i Direct n a = refl
    by_style i FourPhase n a = absurd (n refl)

    go : (i : Option Initiator) → slice_get (initiators_of p) x.initiator ≡ i → passage_by p.platform i x.seq ≡ None
    go None q = refl
    go (Some i) q = by_style i i.row.style (all_at (λ (j : Initiator). j.row.style ≢ FourPhase) (initiators_of p) x.initiator i none q) (slice_get (addresses_of i.script) x.seq)

abbrev AllDecoupled : List Entry → Type 0
AllDecoupled h = AllByRecursion (λ e. IsDecoupled e.object e.what) h

-- no hop and no pool has entries
no_log : (o : ObjectNo) (h : List Entry) → ((d : ObjectNo) (v : What) → IsDecoupled d v → is_object o d ≡ false) → AllDecoupled h → entries_at o h ≡ []
no_log o [] f a = refl
no_log o (e ∷ h) f a =
    ap (λ (b : Bool). cond b (e ∷ entries_at o h) (entries_at o h)) (f e.object e.what a.0) ∙ no_log o h f a.1

not_hop : (n : ℕ) (d : ObjectNo) (v : What) → IsDecoupled d v → is_object (Hop n) d ≡ false
not_hop n (Memory m) v i = refl
not_hop n (Hop o) v i = absurd i
not_hop n (Pool o) v i = absurd i

not_pool : (n : ℕ) (d : ObjectNo) (v : What) → IsDecoupled d v → is_object (Pool n) d ≡ false
not_pool n (Memory m) v i = refl
not_pool n (Hop o) v i = absurd i
not_pool n (Pool o) v i = absurd i

-- a fact of each numbered entry, from what stands before
each_numbered : (P : List Event → Event → Type 0)
    → ((before : List Event) (e : Event) → AllByRecursion (λ (f : Event). IsDecoupled f.object f.what) before → IsDecoupled e.object e.what → P before e)
    → (before : List Event) (b h : List Entry) → AllByRecursion (λ (f : Event). IsDecoupled f.object f.what) before → AllDecoupled h → EachFrom P before (numbered_from b h)
each_numbered P f before b [] c a = tt
each_numbered P f before b (e ∷ h) c a =
    let g : Event = record { entry = e; number = number_in b e.txn e.what } in
    (f before g c a.0, each_numbered P f (before ++ g ∷ []) (b ++ e ∷ []) h (AllByRecursion-push (λ (d : Event). IsDecoupled d.object d.what) before g c a.0) a.1)

each_true : {X : Type 0} (P : List X → X → Type 0) → ((before : List X) (x : X) → P before x) → (before xs : List X) → EachFrom P before xs
each_true P f before [] = tt
each_true P f before (x ∷ xs) = (f before x, each_true P f (before ++ x ∷ []) xs)

all_true : {X : Type 0} (P : X → Type 0) → ((x : X) → P x) → (xs : List X) → AllByRecursion P xs
all_true P f [] = tt
all_true P f (x ∷ xs) = (f x, all_true P f xs)

in_order : (w : World) (before : List Event) (x : TxnId) (n : ℕ) (d : ObjectNo) (v : What) → IsDecoupled d v → InOrderBy w before x None d n v
in_order w before x n (Memory m) (Accessed way access status got) i = tt
in_order w before x n (Memory m) (Granted g f l k) i = tt
in_order w before x n (Memory m) (Invalidated f l) i = tt
in_order w before x n (Memory m) (Closed g) i = tt
in_order w before x n (Memory m) (Call p a) i = absurd i
in_order w before x n (Memory m) (Take s) i = absurd i
in_order w before x n (Memory m) (Acquire s) i = absurd i
in_order w before x n (Memory m) (Release s f) i = absurd i
in_order w before x n (Hop o) v i = absurd i
in_order w before x n (Pool o) v i = absurd i

timed : (w : World) (issued : List Entry → TxnId → ℕ) (before : List Event) (x : TxnId) (t n : ℕ) (d : ObjectNo) (v : What) → IsDecoupled d v → TimedBy w issued before x None d t n v
timed w issued before x t n (Memory m) (Accessed way access status got) i = tt
timed w issued before x t n (Memory m) (Granted g f l k) i = tt
timed w issued before x t n (Memory m) (Invalidated f l) i = tt
timed w issued before x t n (Memory m) (Closed g) i = tt
timed w issued before x t n (Memory m) (Call p a) i = absurd i
timed w issued before x t n (Memory m) (Take s) i = absurd i
timed w issued before x t n (Memory m) (Acquire s) i = absurd i
timed w issued before x t n (Memory m) (Release s f) i = absurd i
timed w issued before x t n (Hop o) v i = absurd i
timed w issued before x t n (Pool o) v i = absurd i

no_release : (d : ObjectNo) (v : What) (slot : ℕ) (freed : Bool) → IsDecoupled d v → ¬ (v ≡ Release slot freed)
no_release (Memory m) (Accessed way access status got) slot freed i q = cc
no_release (Memory m) (Granted g f l k) slot freed i q = cc
no_release (Memory m) (Invalidated f l) slot freed i q = cc
no_release (Memory m) (Closed g) slot freed i q = cc
no_release (Memory m) (Call p a) slot freed i q = absurd i
no_release (Memory m) (Take s) slot freed i q = absurd i
no_release (Memory m) (Acquire s) slot freed i q = absurd i
no_release (Memory m) (Release s f) slot freed i q = absurd i
no_release (Hop o) v slot freed i q = absurd i
no_release (Pool o) v slot freed i q = absurd i

none_freed : (x : TxnId) (l : List Event) → AllByRecursion (λ (f : Event). IsDecoupled f.object f.what) l → ¬ Finds (Among l) (IsFreed x)
none_freed x [] a f = f.known
none_freed x (e ∷ l) a f = go (λ m. none_freed x l a.1 (record { event = f.event; known = m; is = f.is })) f.known
  where
    go : (Among l f.event → ⊥) → Among (e ∷ l) f.event → ⊥
    go more (inl q) = no_release e.object e.what f.is.release.slot true a.0 (ap (λ (d : Event). d.what) q ∙ f.is.release.what)
    go more (inr m) = more m

issued_by : (s : Style) (time issued : ℕ) (v : What) → s ≢ FourPhase → IsIssuedBy s time issued v
issued_by Blocking time issued v n = tt
issued_by Direct time issued v n = tt
issued_by FourPhase time issued v n = absurd (n refl)

module _ (p : Plan) (none : HasNoFourPhase p) where
  -- a fact of each request of an initiator that isn't of four phases
  of_request : (Q : Initiator → Request → Type 0) → ((i : Initiator) (r : Request) → i.row.style ≢ FourPhase → Q i r) → (before : List Entry) (e : Entry) → OfRequest p before e (λ i r. Unit {0}) → OfRequest p before e Q
  of_request Q f before e asked = go (slice_get (initiators_of p) e.txn.initiator) refl asked
    where
      by_request : (i : Initiator) → i.row.style ≢ FourPhase → (r : Option Request) → MatchOption r ⊥ (λ r. Unit {0}) → MatchOption r ⊥ (λ r. Q i r)
      by_request i n None a = a
      by_request i n (Some r) a = f i r n

      go : (i : Option Initiator) → slice_get (initiators_of p) e.txn.initiator ≡ i
          → MatchOption i ⊥ (λ i. MatchOption (slice_get (requests_of p.platform i before) e.txn.seq) ⊥ (λ r. Unit {0})) → MatchOption i ⊥ (λ i. MatchOption (slice_get (requests_of p.platform i before) e.txn.seq) ⊥ (λ r. Q i r))
      go None q a = a
      go (Some i) q a = by_request i (all_at (λ (j : Initiator). j.row.style ≢ FourPhase) (initiators_of p) e.txn.initiator i none q) (slice_get (requests_of p.platform i before) e.txn.seq) a

  waited : (before : List Entry) (i : Initiator) (q r : Request) → IsWaitedFor p before i q r
  waited before i q r first = subst (HasEnded p before i r) (sym (no_passage p none (record { initiator = i.number; seq = r.seq }))) tt

  passes_none : (x : TxnId) (pass : Passage) → (world_of p).passage x ≡ Some pass → {A : Type 0} → A
  passes_none x pass is = clash (sym (no_passage p none x) ∙ is)
    where
      clash : None ≡ Some pass → {A : Type 0} → A
      clash q = cc

  module _ (h : List Entry) (asked : IsAsked p h) (decoupled : AllDecoupled h) where
    keeps : KeepsTraffic p h
    keeps = record {
      phases = record {
        table = λ x pass is. passes_none x pass is;
        modes = λ o. subst (KeepsRules ((world_of p).hop o).rules) (sym (no_log (Hop o) h (not_hop o) decoupled)) tt;
      };
      exclusive = record { hops = λ o. subst (IsExclusive ((world_of p).hop o).limit) (sym (no_log (Hop o) h (not_hop o) decoupled)) (record { requests = tt; responses = tt; lanes = tt }) };
      passes = record {
        orders = each_numbered _ (λ before e c i. subst (λ (f : Option Passage). InOrderBy (world_of p) before e.txn f e.object e.number e.what) (sym (no_passage p none e.txn)) (in_order (world_of p) before e.txn e.number e.object e.what i)) [] [] h tt decoupled;
        ends_in_turn = each_true _ (λ before e x pass is. passes_none x pass is) [] (numbered h);
      };
      pools = record {
        counts = λ i. subst (KeepsCounts (slots_of p i)) (sym (no_log (Pool i) h (not_pool i) decoupled)) tt;
        one_take = λ i. subst TakesAtMostOnce (sym (no_log (Pool i) h (not_pool i) decoupled)) tt;
        freed_last = each_numbered _ (λ before e c i x z. none_freed x before c) [] [] h tt decoupled;
      };
      times = record {
        calls = each_numbered _ (λ before e c i. subst (λ (f : Option Passage). TimedBy (world_of p) (issue_time p) before e.txn f e.object e.time e.number e.what) (sym (no_passage p none e.txn)) (timed (world_of p) (issue_time p) before e.txn e.time e.number e.object e.what i)) [] [] h tt decoupled;
        others = EachFrom-weaker _ _ (λ before e a. of_request _ (λ i r n. issued_by i.row.style e.time (issue_time p before e.txn) e.what n) before e a) [] h asked;
        waits = EachFrom-weaker _ _ (λ before e a. of_request _ (λ i q n. all_true _ (λ r. waited before i q r) (requests_of p.platform i before)) before e a) [] h asked;
      };
    }

    ends : EndsTraffic p h
    ends = record {
      sequences = record { whole = λ x pass is. passes_none x pass is };
      payloads = record { taken = λ x pass is. passes_none x pass is; acquired = λ x pass is. passes_none x pass is; freed = λ x pass is. passes_none x pass is; released = λ x pass is. passes_none x pass is };
      releases = record { times = λ x pass is. passes_none x pass is };
    }

pub decoupled_traffic : DecoupledTraffic
decoupled_traffic p h none asked decoupled = (keeps p none h asked decoupled, ends p none h asked decoupled)
