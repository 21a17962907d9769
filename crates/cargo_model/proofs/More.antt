-- More entries vouch for no less.
use Rattle.std.proofs.Common.{ℕ, ◌+◌, ◌<◌, List, drop, Option, Some, None, inl, inr}
use Rattle.atomic_table.specs.Seated.{TableId}
use Rattle.view_lists.specs.Lists.{Within}
use Rattle.one_history.specs.declared.entry.Entry.{Entry as HistoryEntry}
use Rattle.tlm_types.specs.declared.entry.Access.{Access}
use Rattle.tlm_types.specs.declared.entry.Content.{Content}
use Rattle.tlm_types.specs.declared.words.TxnId.{TxnId}
use Rattle.tlm_model.specs.Plan.{Plan}
use Rattle.tlm_model.specs.Route.{Route}
use Rattle.generic_payload.specs.Payload.{PayloadView}
use Rattle.token_book.specs.Account.{Slip}
use Rattle.token_book.specs.Purse.{Purse, left_of}
use Rattle.flow_model.specs.World.{Passage, hop_at}
use Rattle.flow_model.specs.Events.{Event, Finds}
use Rattle.flow_model.specs.Platform.{world_of}
use Rattle.flow_model.proofs.More.{is_backed_more, up_more}
use Rattle.cargo_model.specs.declared.cargo.Cargo.{Cargo}
use Rattle.flow_model.specs.Called.{HasCalled}
use Rattle.cargo_model.specs.Called.{IsCalled, IsReturned, IsSent}
use Rattle.cargo_model.specs.Known.{Known}
use Rattle.cargo_model.specs.Laws.{MoreBack, MoreVouch}
use Rattle.cargo_model.specs.Tickets.{Numbers, Stocks}
use Rattle.cargo_model.specs.Travel.{Back, GoesDown, GoesUp, HasComeDown, HasComeUp, IsAsked, IsFetched, IsHeld, IsHoldOf, IsReplied, LeftDown, LeftHere, LeftUp, Moment, Ready, There, with_wallet}

-- a wallet that stocks as one relation allows does as a weaker one allows
pub stocks_by : (tokens : TableId) (n : ℕ) (at : Numbers) (L M : ℕ → ℕ → Type 0) (a b c : ℕ) (w : Purse) → ((j left : ℕ) → j < n → L j left → M j left) →
    Stocks tokens n at L a b c w → Stocks tokens n at M a b c w
stocks_by tokens n at L M a b c w f s = record {
  of = s.of;
  places = s.places;
  hops = λ j l. f j (left_of w (at.hop j)) l (s.hops j l);
  pool = s.pool;
  memory = s.memory;
  none = s.none;
  no_bytes = s.no_bytes;
}

module _ (p : Plan) (tokens : TableId) (K L : Event → Type 0) (more : (e : Event) → K e → L e) (x : TxnId) (pass : Passage) where
  find : (P : Event → Type 0) → Finds K P → Finds L P
  find P f = record { event = f.event; known = more f.event f.known; is = f.is }

  abbrev asked_more : IsAsked p tokens K x pass → IsAsked p tokens L x pass
  asked_more a = record {
    passes = a.passes;
    initiator = a.initiator;
    is = a.is;
    replies = a.replies;
    known = λ e m. find _ (a.known e m);
    request = a.request;
    asked = a.asked;
    access = a.access;
    transport = a.transport;
    way = a.way;
  }

  hold_more : (k : ℕ) (hold : Slip) → IsHoldOf p tokens K x pass k hold → IsHoldOf p tokens L x pass k hold
  hold_more k hold h = record { position = h.position; taken = find _ h.taken; is = h.is }

  held_more : (k acquired : ℕ) (c : Cargo) → IsHeld p tokens K x pass k acquired c → IsHeld p tokens L x pass k acquired c
  held_more k acquired c h = record { below = h.below; txn = h.txn; position = h.position; taken = find _ h.taken; own = h.own; hold = hold_more k c.hold h.hold; room = h.room }

  down_more : (k : ℕ) → HasComeDown p tokens K x pass k → HasComeDown p tokens L x pass k
  down_more k h = record { acquired = λ j l. find _ (h.acquired j l); begun = λ j l. find _ (h.begun j l) }

  pub up_known : (k : ℕ) → HasComeUp p tokens K x pass k → HasComeUp p tokens L x pass k
  up_known k h = record {
    acquired = λ j l. find _ (h.acquired j l);
    begun = λ j l. find _ (h.begun j l);
    answered = λ l. find _ (h.answered l);
    time = h.time;
    up = up_more (world_of p) K L more x (hop_at pass k) (drop (k + 1) pass.hops) h.time h.up;
  }

  pub has_called_more : (j n : ℕ) → HasCalled (world_of p) K x pass j n → HasCalled (world_of p) L x pass j n
  has_called_more j n c = record { sequence = c.sequence; given = c.given; long = c.long; known = λ phase answer m d. find _ (c.known phase answer m d) }

  pub returned_more : (j owed left : ℕ) → IsReturned (world_of p) K x pass j owed left → IsReturned (world_of p) L x pass j owed left
  unfolding has_called_more
  returned_more j owed left c = record { calls = c.calls; called = has_called_more j c.calls c.called; sum = c.sum; ends = c.ends }

  pub called_more : (j left : ℕ) → IsCalled (world_of p) K x pass j left → IsCalled (world_of p) L x pass j left
  called_more j left c = record { calls = c.calls; called = has_called_more j c.calls c.called; sum = c.sum }

  sent_more : (j left : ℕ) → IsSent (world_of p) K x pass j left → IsSent (world_of p) L x pass j left
  sent_more j left s = record { answer = s.answer; fits = s.fits; begun = find _ s.begun; ended = λ q. find _ (s.ended q); responds = s.responds; sum = s.sum }

  left_down_more : (m : Moment) (k j left : ℕ) → LeftDown p tokens K x pass m k j left → LeftDown p tokens L x pass m k j left
  left_down_more m k j left l = record { above = l.above; here = l.here; below = l.below }

  here_more : (m : Moment) (k left : ℕ) → LeftHere p tokens K x pass m k left → LeftHere p tokens L x pass m k left
  here_more Ready k left h = h
  here_more There k left h = sent_more k left h
  here_more (Back owed) k left h = returned_more k owed left h

  left_up_more : (m : Moment) (k j left : ℕ) → LeftUp p tokens K x pass m k j left → LeftUp p tokens L x pass m k j left
  left_up_more m k j left l = record { above = l.above; here = λ q. here_more m k left (l.here q); below = λ q. called_more j left (l.below q) }

  replied_more : (a : Access) (r : Option Route) (v : PayloadView) → IsReplied p tokens K x pass a r v → IsReplied p tokens L x pass a r v
  replied_more a None v h = h
  replied_more a (Some r) v h = find _ h

  pub goes_down_more : (m : Moment) (k : ℕ) (c : Cargo) → GoesDown p tokens K x pass m k c → GoesDown p tokens L x pass m k c
  goes_down_more m k c g = record {
    asked = asked_more g.asked;
    held = held_more k _ c g.held;
    come = down_more k g.come;
    status = g.status;
    content = g.content;
    tickets = stocks_by tokens _ _ _ _ _ _ _ _ (λ j left l. left_down_more m k j left) g.tickets;
  }

  pub goes_up_more : (m : Moment) (k : ℕ) (c : Cargo) → GoesUp p tokens K x pass m k c → GoesUp p tokens L x pass m k c
  goes_up_more m k c g = record {
    asked = asked_more g.asked;
    held = held_more k _ c g.held;
    come = up_known k g.come;
    status = g.status;
    content = replied_more g.asked.access _ c.baton.payload g.content;
    tickets = stocks_by tokens _ _ _ _ _ _ _ _ (λ j left l. left_up_more m k j left) g.tickets;
  }

  pub is_fetched_more : (k : ℕ) (c : Cargo) → IsFetched p tokens K x pass k c → IsFetched p tokens L x pass k c
  unfolding goes_down_more
  is_fetched_more k c f = record { before = f.before; down = goes_down_more There k (with_wallet c f.before) f.down; pulled = f.pulled }

known_more : (p : Plan) (known more : List (HistoryEntry Content)) → Within known more → (e : Event) → Known p.platform known e → Known p.platform more e
known_more p known more w e k = record { entry = k.entry; has = w k.entry k.has; is = k.is }

pub more_vouch : MoreVouch
more_vouch p tokens number x c known more w v = record {
  pass = v.pass;
  hop = v.hop;
  place = v.place;
  way = elim v.way [
    | inl d ↦ inl (goes_down_more p tokens _ _ (known_more p known more w) x v.pass There v.hop c d)
    | inr u ↦ inr (goes_up_more p tokens _ _ (known_more p known more w) x v.pass There v.hop c u)
  ];
}

pub more_back : MoreBack
more_back p known more w e b = is_backed_more (world_of p) _ _ (known_more p known more w) e b
