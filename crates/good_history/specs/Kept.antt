-- The points of grants (IEEE 1666-2011, clause 11.2).
use Rattle.std.specs.Prelude.{ℕ, ◌≡◌, ◌-◌, Bool, true, false, not, ◌&&◌, ◌||◌, IsTrue, List, Option, Some, None, MatchOption, slice_get, ◌==◌, nat_lt}
use Rattle.std.specs.List.{list_any, list_all, AllByRecursion}
use Rattle.tlm_types.specs.declared.words.Kind.{Kind}
use Rattle.tlm_types.specs.declared.words.ObjectNo.{ObjectNo}
use Rattle.tlm_types.specs.declared.words.ObjectNo.TheVariants.{Memory}
use Rattle.tlm_types.specs.declared.words.Response.{Response}
use Rattle.tlm_types.specs.declared.words.Response.TheVariants.{Ok}
use Rattle.tlm_types.specs.declared.words.Way.{Way}
use Rattle.tlm_types.specs.declared.words.Way.TheVariants.{Direct}
use Rattle.tlm_types.specs.declared.entry.Access.{Access}
use Rattle.tlm_types.specs.declared.entry.Entry.{Entry}
use Rattle.tlm_types.specs.declared.entry.What.{What}
use Rattle.tlm_types.specs.declared.entry.What.TheVariants.{Access as Accessed, Granted, Closed}
use Rattle.tlm_types.specs.Traits.{allowed_kind}
use Rattle.tlm_model.specs.declared.platform.MemoryRow.{MemoryRow}
use Rattle.tlm_model.specs.Each.{AtEach}
use Rattle.tlm_model.specs.History.{is_object}
use Rattle.tlm_model.specs.Plan.{Plan, Initiator, initiators_of}
use Rattle.tlm_model.specs.Requests.{Request, is_txn}
use Rattle.tlm_model.specs.Scripts.{OfRequest}
use Rattle.good_history.specs.Grants.{all_given, asks, gives, has_closing, is_closed, is_cut_by, is_given, is_grant, last_of, serves}
use Rattle.good_history.specs.Plain.{may_go_direct}

abbrev pub is_below : ℕ → What → Bool
is_below g (Granted gate first last kind) = nat_lt gate g
is_below g w = true

-- a gate is given once, after all lower ones of its memory that are given at all, and closed once, after it was given
abbrev pub IsGateInOrder : List Entry → ObjectNo → What → Type 0
IsGateInOrder before o (Granted gate first last kind) =
    (is_given gate before ≡ false) × IsTrue (list_all (λ x. not (is_object o x.object) || is_below gate x.what) before)
IsGateInOrder before o (Closed gate) = IsTrue (is_given gate before) × (is_closed gate before ≡ false)
IsGateInOrder before o w = Unit {0}

abbrev pub IsWholeOf : Option MemoryRow → ℕ → ℕ → Kind → Type 0
IsWholeOf None first last kind = ⊥
IsWholeOf (Some row) first last kind =
    (first ≡ 0) × (last ≡ row.traits.size - 1) × (kind ≡ allowed_kind row.traits.readable row.traits.writable)

-- a grant is of the whole memory, and of the kind that the memory allows
abbrev pub GrantsAll : Plan → ObjectNo → What → Type 0
GrantsAll p (Memory m) (Granted gate first last kind) = IsWholeOf (slice_get p.platform.memories m) first last kind
GrantsAll p o w = Unit {0}

-- a grant goes to the access that asked for it: the last entry of its initiator
abbrev pub IsAskedFor : Plan → List Entry → Entry → What → Type 0
IsAskedFor p before e (Granted gate first last kind) =
    MatchOption (last_of e.txn.initiator before) ⊥ (λ a. IsTrue (asks p a && (is_txn a.txn.initiator a.txn.seq e.txn && is_object a.object e.object)))
IsAskedFor p before e w = Unit {0}

-- each access that asks is given a grant before its initiator goes on, or all gates of the memory were given
abbrev pub IsGivenGrant : Plan → List Entry → Entry → Type 0
IsGivenGrant p before e =
    MatchOption (last_of e.txn.initiator before) (Unit {0}) (λ a. IsTrue (not (asks p a) || (is_grant e.what || all_given p.platform a.object before)))

abbrev pub IsUseOf : Way → Plan → List Entry → Entry → Access → Response → Initiator → Request → Type 0
IsUseOf (Direct g) p before e access status i r =
    IsTrue (may_go_direct i r.seq)
    × (status ≡ Ok)
    × IsTrue (list_any (λ x. gives g x.what && serves p.platform i x r.address access) before)
    × (is_closed g before ≡ false)
IsUseOf way p before e access status i r = Unit {0}

-- a direct access is a plain one, and OK, and a grant serves it that was given and isn't closed
abbrev pub IsUse : What → Plan → List Entry → Entry → Initiator → Request → Type 0
IsUse (Accessed way access status got) p before e i r = IsUseOf way p before e access status i r
IsUse w p before e i r = Unit {0}

abbrev pub is_direct_way : Way → Bool
is_direct_way (Direct g) = true
is_direct_way way = false

abbrev pub HasDirectWay : What → Plan → List Entry → Initiator → Request → Type 0
HasDirectWay (Accessed way access status got) p before i r =
    IsTrue (is_direct_way way || (not (may_go_direct i r.seq) || list_all (λ x. not (serves p.platform i x r.address access) || list_any (is_cut_by x) before) before))
HasDirectWay w p before i r = Unit {0}

-- a gate is closed by an invalidation that stands after its grant and overlaps it
abbrev pub IsClosing : List Entry → Entry → What → Type 0
IsClosing before e (Closed gate) =
    IsTrue (list_any (λ x. gives gate x.what && list_any (λ y. is_txn y.txn.initiator y.txn.seq e.txn && is_cut_by x y) before) before)
IsClosing before e w = Unit {0}

-- y is of an earlier request of the initiator of e
abbrev pub is_earlier : Entry → Entry → Bool
is_earlier y e = (y.txn.initiator == e.txn.initiator) && nat_lt y.txn.seq e.txn.seq

-- each grant that such an invalidation overlaps is closed
abbrev pub have_returned : (Entry → Bool) → List Entry → Bool
have_returned test h = list_all (λ x. list_all (λ y. not (test y && is_cut_by x y) || has_closing x.what h) h) h

abbrev pub GivesGatesInOrder : List Entry → Type 0
GivesGatesInOrder h = AtEach (λ before e. IsGateInOrder before e.object e.what) h

abbrev pub GrantsWholes : Plan → List Entry → Type 0
GrantsWholes p h = AtEach (λ before e. GrantsAll p e.object e.what) h

abbrev pub GrantsAreAskedFor : Plan → List Entry → Type 0
GrantsAreAskedFor p h = AtEach (λ before e. IsAskedFor p before e e.what) h

abbrev pub AsksAreAnswered : Plan → List Entry → Type 0
AsksAreAnswered p h = AtEach (λ before e. IsGivenGrant p before e) h

abbrev pub UsesGrants : Plan → List Entry → Type 0
UsesGrants p h = AtEach (λ before e. OfRequest p before e (λ i r. IsUse e.what p before e i r)) h

-- where a grant serves a plain access, and no invalidation has overlapped it since, the access is direct
abbrev pub GoesDirect : Plan → List Entry → Type 0
GoesDirect p h = AtEach (λ before e. OfRequest p before e (λ i r. HasDirectWay e.what p before i r)) h

abbrev pub ClosesForInvalidations : List Entry → Type 0
ClosesForInvalidations h = AtEach (λ before e. IsClosing before e e.what) h

-- before its initiator's next request an invalidation has closed each grant before it that it overlaps
abbrev pub ReturnsClosed : List Entry → Type 0
ReturnsClosed h = AtEach (λ before e. IsTrue (have_returned (λ y. is_earlier y e) before)) h

-- The points of grants that hold as far as a history has come.
pub record KeepsGrants (p : Plan) (h : List Entry) : Type 0 where
  pub gates : GivesGatesInOrder h
  pub wholes : GrantsWholes p h
  pub asked : GrantsAreAskedFor p h
  pub answered : AsksAreAnswered p h
  pub uses : UsesGrants p h
  pub ways : GoesDirect p h
  pub closings : ClosesForInvalidations h
  pub returns : ReturnsClosed h

abbrev pub LastAskIsAnswered : Plan → List Entry → Initiator → Type 0
LastAskIsAnswered p h i = MatchOption (last_of i.number h) (Unit {0}) (λ a. IsTrue (not (asks p a) || all_given p.platform a.object h))

-- the points of grants that hold at the end
pub record EndsGrants (p : Plan) (h : List Entry) : Type 0 where
  pub answered : AllByRecursion (LastAskIsAnswered p h) (initiators_of p)
  pub returned : IsTrue (have_returned (λ y. true) h)
