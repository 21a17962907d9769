-- The laws of payloads on their way: what each step of an initiator, a router and a memory keeps.
use Rattle.std.specs.Prelude.{ℕ, ◌≡◌, ◌≢◌, ◌+◌, ◌*◌, ◌-◌, ◌<◌, ◌≤◌, ◌⊎◌, List, length, Some, None, IsTrue, Bool, false}
use Rattle.atomic_table.specs.Seated.{TableId}
use Rattle.view_lists.specs.Lists.{Within}
use Rattle.one_history.specs.declared.entry.Entry.{Entry as HistoryEntry}
use Rattle.tlm_types.specs.declared.entry.Content.{Content}
use Rattle.tlm_types.specs.declared.words.Phase.{Phase}
use Rattle.tlm_types.specs.declared.words.Phase.TheVariants.{BeginReq, EndReq, BeginResp, EndResp}
use Rattle.tlm_types.specs.declared.words.Response.TheVariants.{Incomplete, AddressError}
use Rattle.tlm_types.specs.declared.words.ReqMode.{ReqMode}
use Rattle.tlm_types.specs.declared.words.ReqMode.TheVariants.{Accept}
use Rattle.tlm_types.specs.declared.words.RespMode.{RespMode}
use Rattle.tlm_types.specs.declared.words.TlmSync.{TlmSync}
use Rattle.tlm_types.specs.declared.words.TlmSync.TheVariants.{Accepted, Completed}
use Rattle.tlm_types.specs.declared.words.TxnId.{TxnId}
use Rattle.tlm_model.specs.Plan.{Plan}
use Rattle.tlm_model.specs.Route.{Route}
use Rattle.generic_payload.specs.Payload.{PayloadView, access_of}
use Rattle.token_book.specs.Account.{Slip}
use Rattle.token_book.specs.Purse.{Purse, left_of, bytes_of}
use Rattle.flow_model.specs.Answers.{request_answer, response_answer}
use Rattle.flow_model.specs.World.{Passage, World, hop_at, hop_count, row_by, row_of}
use Rattle.flow_model.specs.Events.{Event, Finds, FindsAt, IsAccess, IsAcquire, IsCall, IsOwn, IsPhase, IsReleased, IsTake}
use Rattle.flow_model.specs.Numbers.{ArrIs, EndIs, IsEnder, IsResponse, NumberOf, ReqIs, UpIs, released_hop, served_hop}
use Rattle.flow_model.specs.Platform.{world_of}
use Rattle.flow_model.specs.Backed.{Delays, IsBacked}
use Rattle.cargo_model.specs.declared.cargo.Cargo.{Cargo}
use Rattle.flow_model.specs.Called.{HasCalled}
use Rattle.cargo_model.specs.Called.{IsAnswerIn, IsCalled, IsReturned}
use Rattle.cargo_model.specs.Counts.{calls_in, owed_by, request_ends, response_ends, responses}
use Rattle.cargo_model.specs.Known.{Known}
use Rattle.cargo_model.specs.Tickets.{AreApart, Pulls, PullsOwed, Puts, Stocks}
use Rattle.cargo_model.specs.Travel.{Asks, Back, GoesDown, GoesUp, HasComeUp, IsAsked, IsHeld, IsHoldOf, IsServed, IsVouched, Ready, There, logged_by, numbers_for, route_for, stop_for, with_wallet}

-- the cargo with another payload and another wallet
abbrev pub with_contents : Cargo → PayloadView → Purse → Cargo
with_contents c v w = let b = c.baton in record c { baton = record b { payload = v; wallet = w } }

-- the cargo after an Acquire: the baton's token is the next one, and the hold is the one that the baton's counted
abbrev pub handed_on : Cargo → PayloadView → Purse → Cargo
handed_on c v w =
    let b = c.baton in
    let own = b.own in
    record c { baton = record b { payload = v; wallet = w; own = record own { name = own.name + 1 } }; hold = record own { name = own.name - 16 } }

-- More entries vouch for no less.
abbrev pub MoreVouch : Type 0
MoreVouch = (p : Plan) (tokens : TableId) (number : ℕ) (x : TxnId) (c : Cargo) (known more : List (HistoryEntry Content)) → Within known more →
    IsVouched p tokens number x c known → IsVouched p tokens number x c more

-- and back no less
abbrev pub MoreBack : Type 0
MoreBack = (p : Plan) (known more : List (HistoryEntry Content)) → Within known more → (e : Event) →
    IsBacked (world_of p) (Known p.platform known) e → IsBacked (world_of p) (Known p.platform more) e

-- the answers of a hop are those that the row has
abbrev pub AnswersFit : Type 0
AnswersFit = (mode : ReqMode) (refused open_response : Bool) → IsAnswerIn (row_by refused mode) (request_answer mode open_response)

-- The number of an access's calls on a hop is that of the row and of the answer of a known BEGIN_REQ.
pub record IsCounted (w : World) (K : Event → Type 0) (x : TxnId) (pass : Passage) (k n : ℕ) : Type 0 where
  pub answer : TlmSync
  pub begun : Finds K (IsCall x (hop_at pass k) BeginReq answer)
  pub count : n ≡ calls_in (row_of w pass k) (w.hop (hop_at pass k)).resp answer

-- What each law is about: an access of a plan by known entries, and the cargo that it has.
pub record Case : Type 0 where
  pub p : Plan
  pub tokens : TableId
  pub entries : List (HistoryEntry Content)
  pub x : TxnId
  pub pass : Passage
  pub c : Cargo

module _ (s : Case) where
  abbrev pub knows : Event → Type 0
  knows = Known s.p.platform s.entries

  abbrev pub Down : (k : ℕ) → Type 0
  Down k = GoesDown s.p s.tokens knows s.x s.pass Ready k s.c

  -- a call on a hop of the access
  pub record IsCallOf (k : ℕ) (phase : Phase) (e : Event) : Type 0 where
    pub answer : TlmSync
    pub call : IsCall s.x (hop_at s.pass k) phase answer e

  -- the time of a call is that at which it was tried, or a greater one of an earlier call that may delay it
  abbrev pub IsTimely : ℕ → Phase → ℕ → ℕ → Type 0
  IsTimely k phase at t = (t ≡ at) ⊎ ((at < t) × FindsAt knows (λ f. IsOwn s.x (hop_at s.pass k) f ⊎ Delays (hop_at s.pass k) phase f) t)

  -- the time that END_REQ on hop k has at least: that of BEGIN_REQ there where the hop leads to a memory, else on the next hop
  abbrev pub IsEndOfRequest : ℕ → ℕ → Type 0
  IsEndOfRequest k at = ReqIs (world_of s.p) knows s.x (served_hop ((world_of s.p).hop (hop_at s.pass k)).to_memory s.pass k) at

  -- START. After Take and the first Acquire, with the planned tickets but for these two.
  abbrev pub Starts : Type 0
  Starts = (asked : IsAsked s.p s.tokens knows s.x s.pass) → IsHeld s.p s.tokens knows s.x s.pass 0 1 s.c → Finds knows (IsAcquire s.x 0) →
      s.c.baton.payload.status ≡ Incomplete → Asks asked.access asked.request.address s.c.baton.payload →
      Stocks s.tokens (hop_count s.pass) (numbers_for s.p s.tokens knows s.x s.pass asked) (λ j left. left ≡ 4) (2 * hop_count s.pass) 1 (logged_by asked.access) s.c.baton.wallet →
      Down 0

  -- each Take of an access is backed
  abbrev pub TakeBacked : Type 0
  TakeBacked = (world_of s.p).passage s.x ≡ Some s.pass → (e : Event) → IsTake s.x e → IsBacked (world_of s.p) knows e

  -- and the first Acquire by the Take
  abbrev pub FirstBacked : Type 0
  FirstBacked = (world_of s.p).passage s.x ≡ Some s.pass → 0 < hop_count s.pass → (e : Event) → IsAcquire s.x 0 e → FindsAt knows (IsTake s.x) e.time → IsBacked (world_of s.p) knows e

  -- BEGIN. There is a ticket for BEGIN_REQ; the entry is backed; and once the ticket is pulled the cargo is vouched for.
  abbrev pub BeginsPaid : Type 0
  BeginsPaid = (k : ℕ) (d : Down k) → 0 < left_of s.c.baton.wallet ((numbers_for s.p s.tokens knows s.x s.pass d.asked).hop k)

  abbrev pub BeginsBacked : Type 0
  BeginsBacked = (k : ℕ) → Down k → (e : Event) → IsCallOf k BeginReq e → (at : ℕ) → ArrIs (world_of s.p) knows s.x s.pass k at → IsTimely k BeginReq at e.time →
      IsBacked (world_of s.p) knows e

  abbrev pub Begins : Type 0
  Begins = (k : ℕ) (d : Down k) (w : Purse) → AreApart (hop_count s.pass) (numbers_for s.p s.tokens knows s.x s.pass d.asked) →
      Pulls s.tokens ((numbers_for s.p s.tokens knows s.x s.pass d.asked).hop k) 0 s.c.baton.wallet w →
      GoesDown s.p s.tokens knows s.x s.pass There k (with_wallet s.c w)

  -- a refused BEGIN_REQ gives its ticket back
  abbrev pub BeginsRefused : Type 0
  BeginsRefused = (k : ℕ) (d : Down k) (v w : Purse) →
      Pulls s.tokens ((numbers_for s.p s.tokens knows s.x s.pass d.asked).hop k) 0 s.c.baton.wallet v →
      Puts s.tokens ((numbers_for s.p s.tokens knows s.x s.pass d.asked).hop k) v w →
      GoesDown s.p s.tokens knows s.x s.pass Ready k (with_wallet s.c w)

  abbrev pub Taken : (k : ℕ) → Type 0
  Taken k = GoesDown s.p s.tokens knows s.x s.pass There k s.c

  abbrev pub Up : (k : ℕ) → Type 0
  Up k = GoesUp s.p s.tokens knows s.x s.pass Ready k s.c

  abbrev pub Answered : (k : ℕ) → Type 0
  Answered k = GoesUp s.p s.tokens knows s.x s.pass There k s.c

  -- the response has come back upstream of hop k
  abbrev pub IsBack : (owed k : ℕ) → Type 0
  IsBack owed k = GoesUp s.p s.tokens knows s.x s.pass (Back owed) k s.c

  abbrev pub resp : ℕ → RespMode
  resp k = ((world_of s.p).hop (hop_at s.pass k)).resp

  abbrev pub row : ℕ → ReqMode
  row k = row_of (world_of s.p) s.pass k

  -- DESCEND. A router fetched it from hop k: the next Acquire has a ticket and is backed, and then the END_REQ that is owed has one.
  abbrev pub AcquirePaid : Type 0
  AcquirePaid = (k : ℕ) (d : Taken k) → k + 1 < hop_count s.pass → 0 < left_of s.c.baton.wallet (numbers_for s.p s.tokens knows s.x s.pass d.asked).pool

  abbrev pub EndReqPaid : Type 0
  EndReqPaid = (k : ℕ) (d : Taken k) → 0 < left_of s.c.baton.wallet ((numbers_for s.p s.tokens knows s.x s.pass d.asked).hop k)

  abbrev pub AcquireBacked : Type 0
  AcquireBacked = (k : ℕ) → Taken k → k + 1 < hop_count s.pass → Finds knows (IsPhase s.x (hop_at s.pass k) BeginReq) → (e : Event) → IsAcquire s.x (k + 1) e →
      ArrIs (world_of s.p) knows s.x s.pass (k + 1) e.time → IsBacked (world_of s.p) knows e

  abbrev pub Descends : Type 0
  Descends = (k : ℕ) (d : Taken k) (v : PayloadView) (w u : Purse) → AreApart (hop_count s.pass) (numbers_for s.p s.tokens knows s.x s.pass d.asked) → k + 1 < hop_count s.pass →
      Finds knows (IsPhase s.x (hop_at s.pass k) BeginReq) → Finds knows (IsAcquire s.x (k + 1)) →
      v ≡ (let old = s.c.baton.payload in record old { address = (stop_for s.p s.tokens knows s.x s.pass d.asked (k + 1)).address }) →
      Pulls s.tokens (numbers_for s.p s.tokens knows s.x s.pass d.asked).pool 0 s.c.baton.wallet w →
      PullsOwed s.tokens (request_ends (row k)) ((numbers_for s.p s.tokens knows s.x s.pass d.asked).hop k) w u →
      GoesDown s.p s.tokens knows s.x s.pass Ready (k + 1) (handed_on s.c v u)

  -- END_REQ on hop k, of a memory or a router: by what it keeps, since the payload may have gone on
  abbrev pub EndReqBacked : Type 0
  EndReqBacked = (world_of s.p).passage s.x ≡ Some s.pass → (k : ℕ) → k < hop_count s.pass → Finds knows (IsTake s.x) → row k ≡ Accept → (e : Event) → IsCallOf k EndReq e → (at : ℕ) →
      (k + 1 < hop_count s.pass → Finds knows (IsPhase s.x (hop_at s.pass (k + 1)) BeginReq)) →
      IsEndOfRequest k at → IsTimely k EndReq at e.time → IsBacked (world_of s.p) knows e

  -- SERVE. At the last hop the memory's Access has a ticket for its bytes and is backed by BEGIN_REQ.
  abbrev pub AccessPaid : Type 0
  AccessPaid = (k : ℕ) (d : Taken k) (r : Route) → route_for s.p s.tokens knows s.x s.pass d.asked ≡ Some r → (m : ℕ) → (numbers_for s.p s.tokens knows s.x s.pass d.asked).memory ≡ Some m →
      (0 < left_of s.c.baton.wallet m) × (bytes_of s.c.baton.wallet m ≡ logged_by (access_of s.c.baton.payload))

  -- the payload that a memory gives back, which stands for the access that it made
  abbrev pub Served : (k : ℕ) → Type 0
  Served k = (d : Taken k) (r : Route) (v : PayloadView) (w u : Purse) (m : ℕ) → AreApart (hop_count s.pass) (numbers_for s.p s.tokens knows s.x s.pass d.asked) → k + 1 ≡ hop_count s.pass →
      route_for s.p s.tokens knows s.x s.pass d.asked ≡ Some r → (numbers_for s.p s.tokens knows s.x s.pass d.asked).memory ≡ Some m →
      Finds knows (IsPhase s.x (hop_at s.pass k) BeginReq) → Finds knows (IsServed s.x d.asked.access r v) → v.status ≢ Incomplete → v.room ≡ s.c.baton.payload.room →
      PullsOwed s.tokens (request_ends (row k)) ((numbers_for s.p s.tokens knows s.x s.pass d.asked).hop k) s.c.baton.wallet w →
      Pulls s.tokens m (logged_by (access_of s.c.baton.payload)) w u →
      GoesUp s.p s.tokens knows s.x s.pass Ready k (with_contents s.c v u)

  abbrev pub Serves : Type 0
  Serves = (k : ℕ) → Served k

  abbrev pub AccessBacked : Type 0
  AccessBacked = (k : ℕ) → Taken k → k + 1 ≡ hop_count s.pass → (e : Event) → IsAccess s.x e → ReqIs (world_of s.p) knows s.x (hop_at s.pass k) e.time → IsBacked (world_of s.p) knows e

  -- REFUSE. A router without a window for the address.
  abbrev pub Refuses : Type 0
  Refuses = (k : ℕ) (d : Taken k) (v : PayloadView) → k + 1 ≡ hop_count s.pass → ((world_of s.p).hop (hop_at s.pass k)).to_memory ≡ false →
      route_for s.p s.tokens knows s.x s.pass d.asked ≡ None → Finds knows (IsPhase s.x (hop_at s.pass k) BeginReq) →
      v ≡ (let old = s.c.baton.payload in record old { status = AddressError }) →
      GoesUp s.p s.tokens knows s.x s.pass Ready k (with_contents s.c v s.c.baton.wallet)

  -- RESPOND. There is a ticket for BEGIN_RESP; it is backed; and once the ticket is pulled the cargo is vouched for.
  abbrev pub RespondsPaid : Type 0
  RespondsPaid = (k : ℕ) (u : Up k) → 0 < left_of s.c.baton.wallet ((numbers_for s.p s.tokens knows s.x s.pass u.asked).hop k)

  abbrev pub RespondsBacked : Type 0
  RespondsBacked = (k : ℕ) → Up k → (e : Event) → IsCallOf k BeginResp e → (at : ℕ) → UpIs (world_of s.p) knows s.x s.pass k at → IsTimely k BeginResp at e.time →
      (row k ≡ Accept → Finds knows (IsPhase s.x (hop_at s.pass k) EndReq)) → IsBacked (world_of s.p) knows e

  -- Who makes it knows the calls before it: BEGIN_REQ with its answer, and END_REQ where the row has one.
  abbrev pub Responds : Type 0
  Responds = (k : ℕ) (u : Up k) (answer : TlmSync) (w : Purse) → AreApart (hop_count s.pass) (numbers_for s.p s.tokens knows s.x s.pass u.asked) →
      Finds knows (IsCall s.x (hop_at s.pass k) BeginReq answer) → IsAnswerIn (row k) answer → responses (row k) answer ≡ 1 →
      (row k ≡ Accept → Finds knows (IsCall s.x (hop_at s.pass k) EndReq Accepted)) →
      Pulls s.tokens ((numbers_for s.p s.tokens knows s.x s.pass u.asked).hop k) 0 s.c.baton.wallet w →
      GoesUp s.p s.tokens knows s.x s.pass There k (with_wallet s.c w)

  abbrev pub RespondsRefused : Type 0
  RespondsRefused = (k : ℕ) (u : Up k) (v w : Purse) →
      Pulls s.tokens ((numbers_for s.p s.tokens knows s.x s.pass u.asked).hop k) 0 s.c.baton.wallet v →
      Puts s.tokens ((numbers_for s.p s.tokens knows s.x s.pass u.asked).hop k) v w →
      GoesUp s.p s.tokens knows s.x s.pass Ready k (with_wallet s.c w)

  -- BACK. The response that was fetched from hop k, where its BEGIN_RESP is known; and the one that came with the answer of BEGIN_REQ.
  abbrev pub Fetches : Type 0
  Fetches = (k : ℕ) → Answered k → Finds knows (IsCall s.x (hop_at s.pass k) BeginResp (response_answer (resp k))) → IsBack (owed_by (resp k)) k

  abbrev pub Returns : Type 0
  Returns = (k : ℕ) → Up k → (answer : TlmSync) → Finds knows (IsCall s.x (hop_at s.pass k) BeginReq answer) → IsAnswerIn (row k) answer → responses (row k) answer ≡ 0 →
      IsBack (response_ends (row k) (resp k) answer) k

  -- there is a ticket for the END_RESP that is owed
  abbrev pub EndRespPaid : Type 0
  EndRespPaid = (k owed : ℕ) (u : IsBack owed k) → owed ≤ left_of s.c.baton.wallet ((numbers_for s.p s.tokens knows s.x s.pass u.asked).hop k)

  -- ASCEND. A router has it from the hop k + 1 below: the END_RESP that is owed there and the Release have tickets, and it may go up on hop k.
  abbrev pub Ascends : Type 0
  Ascends = (k owed : ℕ) (u : IsBack owed (k + 1)) (w v : Purse) → AreApart (hop_count s.pass) (numbers_for s.p s.tokens knows s.x s.pass u.asked) → owed < 2 →
      PullsOwed s.tokens owed ((numbers_for s.p s.tokens knows s.x s.pass u.asked).hop (k + 1)) s.c.baton.wallet w →
      Pulls s.tokens (numbers_for s.p s.tokens knows s.x s.pass u.asked).pool 0 w v →
      (next : Slip) → IsHoldOf s.p s.tokens knows s.x s.pass k next →
      GoesUp s.p s.tokens knows s.x s.pass Ready k (let b = s.c.baton in record { baton = record b { wallet = v }; hold = next })

  abbrev pub CallsCount : Type 0
  CallsCount = (k n : ℕ) → HasCalled (world_of s.p) knows s.x s.pass k n → IsCounted (world_of s.p) knows s.x s.pass k n

  -- what is known of the response that is back is enough for the entries that stand after it
  abbrev pub BackKnows : Type 0
  BackKnows = (k owed : ℕ) → IsBack owed k → Finds knows (IsResponse s.x (hop_at s.pass k))

  -- The access has ended on hop k, by what its component upstream keeps of it: its response was back, and the END_RESP that was owed was made.
  pub record HasEnded (k : ℕ) : Type 0 where
    pub ender : Finds knows (IsEnder s.x (hop_at s.pass k))
    pub time : ℕ
    pub is : EndIs (world_of s.p) knows s.x s.pass k time

  abbrev pub Ends : Type 0
  Ends = (k owed left : ℕ) → HasComeUp s.p s.tokens knows s.x s.pass k → IsReturned (world_of s.p) knows s.x s.pass k owed left →
      (0 < owed → Finds knows (IsCall s.x (hop_at s.pass k) EndResp Completed)) → HasEnded k

  -- the END_RESP on hop k, and the Release of a reference, by what the component upstream knows
  abbrev pub EndRespBacked : Type 0
  EndRespBacked = (world_of s.p).passage s.x ≡ Some s.pass → (k : ℕ) → k < hop_count s.pass → Finds knows (IsTake s.x) →
      ((j : ℕ) → k ≡ j + 1 → Finds knows (IsEnder s.x (hop_at s.pass j))) → (e : Event) → IsCallOf k EndResp e → (at : ℕ) → NumberOf (world_of s.p) knows s.x s.pass k EndResp at →
      IsTimely k EndResp at e.time → IsBacked (world_of s.p) knows e

  abbrev pub ReleaseBacked : Type 0
  ReleaseBacked = (world_of s.p).passage s.x ≡ Some s.pass → (n : ℕ) → released_hop n < hop_count s.pass → (IsTrue s.pass.routed → Finds knows (IsAccess s.x)) →
      Finds knows (IsEnder s.x (hop_at s.pass (released_hop n))) → (e : Event) → IsReleased s.x n e → EndIs (world_of s.p) knows s.x s.pass (released_hop n) e.time → IsBacked (world_of s.p) knows e

  -- ARRIVE. What is left in the wallet at the end, once the tickets of the END_RESP that is owed on hop 0 and of the last two Releases were pulled:
  -- of each hop what a sequence didn't need whose calls are known, and nothing else.
  abbrev pub LeftAtEnd : ℕ → ℕ → Type 0
  LeftAtEnd j left = IsCalled (world_of s.p) knows s.x s.pass j left

  abbrev pub Arrives : Type 0
  Arrives = (owed : ℕ) (u : IsBack owed 0) (w v z : Purse) → AreApart (hop_count s.pass) (numbers_for s.p s.tokens knows s.x s.pass u.asked) → owed < 2 →
      PullsOwed s.tokens owed ((numbers_for s.p s.tokens knows s.x s.pass u.asked).hop 0) s.c.baton.wallet w →
      Pulls s.tokens (numbers_for s.p s.tokens knows s.x s.pass u.asked).pool 0 w v → Pulls s.tokens (numbers_for s.p s.tokens knows s.x s.pass u.asked).pool 0 v z →
      Stocks s.tokens (hop_count s.pass) (numbers_for s.p s.tokens knows s.x s.pass u.asked) LeftAtEnd 0 0 0 z
