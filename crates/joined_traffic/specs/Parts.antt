-- What each initiator, each memory and the closed history tell of grants.
use Rattle.std.specs.Prelude.{ℕ, ◌≡◌, ◌⊎◌, ◌+◌, ◌<◌, Bool, true, false, ◌&&◌, IsTrue, List, ◌∷◌, ◌++◌, length, Option, MatchOption, slice_get, ◌==◌}
use Rattle.std.specs.List.{list_any}
use Rattle.view_lists.specs.Lists.{Has}
use Rattle.tlm_types.specs.declared.words.ObjectNo.{ObjectNo}
use Rattle.tlm_types.specs.declared.words.ObjectNo.TheVariants.{Memory}
use Rattle.tlm_types.specs.declared.words.Response.{Response}
use Rattle.tlm_types.specs.declared.words.Response.TheVariants.{Ok}
use Rattle.tlm_types.specs.declared.words.Way.{Way}
use Rattle.tlm_types.specs.declared.words.Way.TheVariants.{Direct}
use Rattle.tlm_types.specs.declared.entry.Access.{Access}
use Rattle.tlm_types.specs.declared.entry.Entry.{Entry}
use Rattle.tlm_types.specs.declared.entry.What.{What}
use Rattle.tlm_types.specs.declared.entry.What.TheVariants.{Access as Accessed, Granted, Invalidated, Closed}
use Rattle.tlm_model.specs.Each.{AtEach}
use Rattle.tlm_model.specs.History.{entries_at}
use Rattle.tlm_model.specs.Plan.{Plan, Initiator, initiators_of}
use Rattle.tlm_model.specs.Requests.{Request, is_txn}
use Rattle.tlm_model.specs.Scripts.{OfRequest, first_gate}
use Rattle.good_history.specs.Grants.{asks, closes, gates_of, gives, is_cut_by, is_grant, last_of, serves}
use Rattle.good_history.specs.Kept.{GivesGatesInOrder, GrantsAreAskedFor, GrantsWholes, is_direct_way, is_earlier}
use Rattle.good_history.specs.Plain.{may_go_direct}
use Rattle.good_history.specs.Own.{own}

-- an entry with Q stands in the history below a position
abbrev pub Knows : List Entry → ℕ → (Entry → Bool) → Type 0
Knows h limit Q = (x : Entry) × Has h x × (x.position < limit) × IsTrue (Q x)

-- the grant of each gate of the memory stands below the position
abbrev pub KnowsAllGiven : Plan → List Entry → ℕ → ObjectNo → Type 0
KnowsAllGiven p h limit (Memory m) = (k : ℕ) → k < gates_of (slice_get p.platform.memories m) → Knows h limit (λ x. gives (first_gate p.platform m + k) x.what)
KnowsAllGiven p h limit o = Unit {0}

-- the last access asked, and this entry is its grant, or the memory had no gate left
abbrev pub IsAskSettled : Plan → List Entry → ℕ → What → Option Entry → Type 0
IsAskSettled p h limit w last = MatchOption last (Unit {0}) (λ a. IsTrue (asks p a) → IsTrue (is_grant w) ⊎ KnowsAllGiven p h limit a.object)

abbrev pub IsOwnUseOf : Way → Plan → List Entry → Access → Response → Initiator → Request → Type 0
IsOwnUseOf (Direct g) p mine access status i r =
    IsTrue (may_go_direct i r.seq) × (status ≡ Ok) × IsTrue (list_any (λ x. gives g x.what && serves p.platform i x r.address access) mine)
IsOwnUseOf way p mine access status i r = Unit {0}

-- a direct access is a plain one, and OK, and an own grant serves it
abbrev pub IsOwnUse : What → Plan → List Entry → Initiator → Request → Type 0
IsOwnUse (Accessed way access status got) p mine i r = IsOwnUseOf way p mine access status i r
IsOwnUse w p mine i r = Unit {0}

-- of each own grant that serves a plain access that isn't direct, an invalidation is known that overlapped it since
abbrev pub HasOwnWay : What → Plan → List Entry → ℕ → List Entry → Initiator → Request → Type 0
HasOwnWay (Accessed way access status got) p h limit mine i r =
    (is_direct_way way ≡ false) → IsTrue (may_go_direct i r.seq)
    → (x : Entry) → Has mine x → IsTrue (serves p.platform i x r.address access) → Knows h limit (λ y. is_cut_by x y)
HasOwnWay w p h limit mine i r = Unit {0}

-- a closing is for an own invalidation of the same request, and the grant is known that it overlaps
abbrev pub IsOwnClosing : List Entry → List Entry → Entry → What → Type 0
IsOwnClosing h mine e (Closed gate) =
    (y : Entry) × Has mine y × IsTrue (is_txn y.txn.initiator y.txn.seq e.txn) × (y.position < e.position) × Knows h e.position (λ x. gives gate x.what && is_cut_by x y)
IsOwnClosing h mine e w = Unit {0}

abbrev pub is_invalidation : What → Bool
is_invalidation (Invalidated first last) = true
is_invalidation w = false

abbrev pub KnowsClosing : List Entry → ℕ → What → Type 0
KnowsClosing h limit (Granted gate first last kind) = Knows h limit (λ z. closes gate z.what)
KnowsClosing h limit w = Unit {0}

-- An invalidation has returned: these were all the entries of its memory before it, and each grant of them that it
-- overlaps is known to be closed.
pub record HasReturned (h : List Entry) (limit : ℕ) (y : Entry) : Type 0 where
  pub log : List Entry
  pub rest : List Entry
  pub log_is : entries_at y.object h ≡ log ++ y ∷ rest
  pub closed : (x : Entry) → Has log x → IsTrue (is_cut_by x y) → KnowsClosing h limit x.what

abbrev pub EarlierReturned : List Entry → List Entry → Entry → Type 0
EarlierReturned h mine e = (y : Entry) → Has mine y → IsTrue (is_invalidation y.what) → IsTrue (is_earlier y e) → HasReturned h e.position y

-- What an initiator's own entries and its note tell.
pub record KeepsOwnGrants (p : Plan) (h mine : List Entry) : Type 0 where
  pub asked : GrantsAreAskedFor p mine
  pub answered : AtEach (λ before e. IsAskSettled p h e.position e.what (last_of e.txn.initiator before)) mine
  pub uses : AtEach (λ before e. OfRequest p before e (λ i r. IsOwnUse e.what p before i r)) mine
  pub ways : AtEach (λ before e. OfRequest p before e (λ i r. HasOwnWay e.what p h e.position before i r)) mine
  pub closings : AtEach (λ before e. IsOwnClosing h before e e.what) mine
  pub returns : AtEach (λ before e. EarlierReturned h before e) mine

-- and at its end
pub record EndsOwnGrants (p : Plan) (h : List Entry) (n : ℕ) (mine : List Entry) : Type 0 where
  pub answered : MatchOption (last_of n mine) (Unit {0}) (λ a. IsTrue (asks p a) → KnowsAllGiven p h (length h) a.object)
  pub returns : (y : Entry) → Has mine y → IsTrue (is_invalidation y.what) → HasReturned h (length h) y

-- These entries of an initiator that has finished keep what a history of grants asks of them, at its end too.
pub record HasDoneGrants (p : Plan) (i : Initiator) (h mine : List Entry) : Type 0 where
  pub keeps : KeepsOwnGrants p h mine
  pub ends : EndsOwnGrants p h i.number mine

-- What a memory's log tells.
pub record KeepsGateLog (p : Plan) (log : List Entry) : Type 0 where
  pub gates : GivesGatesInOrder log
  pub wholes : GrantsWholes p log

abbrev pub is_way_of : ℕ → Way → Bool
is_way_of g (Direct gate) = gate == g
is_way_of g way = false

-- a direct access by gate g
abbrev pub uses_gate : ℕ → What → Bool
uses_gate g (Accessed way access status got) = is_way_of g way
uses_gate g w = false

-- A history of grants of which each initiator, each memory and the gates keep their parts.
pub record HasGrantParts (p : Plan) (h : List Entry) : Type 0 where
  pub initiators : (n : ℕ) → n < length (initiators_of p) → KeepsOwnGrants p h (own n h)
  pub memories : (m : ℕ) → KeepsGateLog p (entries_at (Memory m) h)
  -- after its closing a gate isn't used
  pub last : (d c : Entry) (g : ℕ) → Has h d → Has h c → IsTrue (uses_gate g d.what) → IsTrue (closes g c.what) → d.position < c.position

abbrev pub AllHaveReturned : Plan → List Entry → Type 0
AllHaveReturned p h = (n : ℕ) → n < length (initiators_of p) → EndsOwnGrants p h n (own n h)
