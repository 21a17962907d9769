-- A payload whose response comes by return may be served, and is then back.
use Rattle.std.proofs.Common.{◌≡◌, ℕ, Bool, List, [], ◌∷◌, ◌++◌, Option, Some, None, refl, sym, ◌∙◌, ap, arith, subst}
use Rattle.std.proofs.lemmas.Grind.{common_steps}
use Rattle.std.specs.Option.{option_map}
use Rattle.atomic_table.specs.Seated.{TableId}
use Rattle.view_lists.specs.Lists.{Within}
use Rattle.one_history.specs.declared.entry.Entry.{Entry as HistoryEntry}
use Rattle.one_history.specs.declared.view.Frame.{Frame}
use Rattle.tlm_types.specs.declared.entry.Access.{Access}
use Rattle.tlm_types.specs.declared.entry.Content.{Content}
use Rattle.tlm_types.specs.declared.words.ReqMode.{ReqMode}
use Rattle.tlm_types.specs.declared.words.Phase.TheVariants.{BeginResp}
use Rattle.tlm_types.specs.declared.words.TlmSync.{TlmSync}
use Rattle.tlm_types.specs.declared.words.TlmSync.TheVariants.{Updated, Completed}
use Rattle.tlm_types.specs.declared.words.TxnId.{TxnId}
use Rattle.tlm_types.specs.declared.words.Way.TheVariants.{FourPhase}
use Rattle.tlm_model.specs.Plan.{Plan}
use Rattle.tlm_model.specs.Route.{Route, later}
use Rattle.token_book.specs.Account.{Slip}
use Rattle.flow_model.specs.World.{Passage, hop_at, hop_count, is_refused, row_by, row_of}
use Rattle.flow_model.specs.Numbers.{UpIs}
use Rattle.flow_model.specs.Platform.{world_of}
use Rattle.cargo_model.specs.declared.cargo.Cargo.{Cargo}
use Rattle.cargo_model.specs.Counts.{request_ends, responses}
use Rattle.cargo_model.specs.Known.{Known}
use Rattle.cargo_model.specs.Tickets.{AreApart}
use Rattle.cargo_model.specs.Travel.{GoesDown, There, numbers_of, route_for}
use Rattle.cargo_model.proofs.Up.{returns}
use Rattle.cargo_net.specs.Begins.{HasOwedLeg, HasRequested}
use Rattle.cargo_net.specs.Forwards.{EndsAt, HasReturned, IsRouterMode, LeadsTo, MayForward, looks_at}
use Rattle.cargo_net.specs.Serves.{HasServed, MayServe}
use Rattle.cargo_net.specs.Wallets.{item_given}
use Rattle.cargo_net.proofs.AskedLemmas.{one_route}

-- where the response comes by return, no END_REQ is owed
no_end : (row : ReqMode) (answer : TlmSync) → responses row answer ≡ 0 → request_ends row ≡ 0
no_end row answer none = grind (arith, common_steps)

-- and the component below is no router
no_router : (refused : Bool) (mode : ReqMode) (answer : TlmSync) → IsRouterMode mode → responses (row_by refused mode) answer ≡ 0 → ⊥
no_router refused mode answer router none = grind (arith, common_steps)

module _ (frame : Frame Plan) (tokens : TableId) (number : ℕ) (memory : Option ℕ) (latency : ℕ) (c : Cargo) (at : ℕ) (old : List (HistoryEntry Content)) (may : MayForward frame tokens number memory latency c at old) where
  abbrev p : Plan
  p = frame.world

  abbrev x : TxnId
  x = c.baton.txn

  abbrev pass : Passage
  pass = may.begins.pass

  abbrev k : ℕ
  k = may.begins.hop

  abbrev item : Cargo
  item = item_given tokens number c

  -- a router never answers so
  pub by_memory : (answer : TlmSync) (time : ℕ) (l : List (HistoryEntry Content)) → HasRequested frame at x pass k answer 0 time l → memory ≡ None → ⊥
  by_memory answer time l r none =
      no_router (is_refused (world_of p) pass k) ((world_of p).hop (hop_at pass k)).req answer
      (subst (LeadsTo p pass k (route_for p tokens (Known p.platform old) x pass may.begins.down.asked)) none may.leads) r.responds

  module _ (number_at : ℕ) (is : memory ≡ Some number_at) where
    ends : EndsAt p pass k (route_for p tokens (Known p.platform old) x pass may.begins.down.asked) number_at
    ends = subst (LeadsTo p pass k (route_for p tokens (Known p.platform old) x pass may.begins.down.asked)) is may.leads

    -- the request that came back with its answer may be served
    pub serves_now : (answer : TlmSync) (time : ℕ) (l : List (HistoryEntry Content)) → HasRequested frame at x pass k answer 0 time l → GoesDown p tokens (Known p.platform l) x pass There k item → MayServe frame tokens number_at item time l
    serves_now answer time l r g = record {
      pass = pass;
      hop = k;
      fetched = record {
        before = item.baton.wallet;
        down = g;
        pulled = record { none = λ q. refl; one = λ q. absurd (never _ (no_end (row_of (world_of p) pass k) answer r.responds) q) };
      };
      last = ends.last;
      apart = subst (λ (t : Option Route). AreApart (hop_count pass) (numbers_of p x pass t)) same may.begins.apart;
      route = ends.to;
      routed = sym same ∙ ends.routed;
      place = ends.place;
      there = ends.there;
      begun = record { event = r.made.event; known = r.made.known; is = record { answer = answer; call = r.made.is }; time = r.made.time };
    }
      where
        same : route_for p tokens (Known p.platform old) x pass may.begins.down.asked ≡ route_for p tokens (Known p.platform l) x pass g.asked
        same = one_route p tokens (Known p.platform old) (Known p.platform l) x pass may.begins.down.asked g.asked

        never : (n : ℕ) → n ≡ 0 → n ≡ 1 → ⊥
        never n q r = omega arith

    -- BEGIN_REQ as a later note knows it
    pub requested_more : (answer : TlmSync) (to_come time : ℕ) (l m : List (HistoryEntry Content)) → Within l m → HasRequested frame at x pass k answer to_come time l → HasRequested frame at x pass k answer to_come time m
    requested_more answer to_come time l m w r = (
        let f = r.made in
        record { late = r.late; fits = r.fits; responds = r.responds; made = record { event = f.event; known = (let e = f.known in record { entry = e.entry; has = w e.entry e.has; is = e.is }); is = f.is; time = f.time } }
        )

    leg_more : (l m : List (HistoryEntry Content)) → Within l m → (answer : TlmSync) (leg : Option Slip) → HasOwedLeg frame tokens number l x answer leg → HasOwedLeg frame tokens number m x answer leg
    leg_more l m w Completed None h = tt
    leg_more l m w (Updated BeginResp) (Some leg) h = record { table = h.table; owner = h.owner; entry = h.entry; has = w h.entry h.has; object = h.object; txn = h.txn; name = h.name }
    leg_more l m w answer leg h = absurd h

    -- and is then back
    pub returned : (answer : TlmSync) (time : ℕ) (leg : Option Slip) (l m : List (HistoryEntry Content)) (asked : Access) (route : Route) (new : Cargo) → Within l m → HasRequested frame at x pass k answer 0 time l → HasOwedLeg frame tokens number l x answer leg
        → HasServed frame tokens number_at item time pass k asked route new m → HasReturned frame tokens number c pass k latency answer time (later time latency) leg new m
    returned answer time leg l m asked route new w r leg_of s =
        let later_r = requested_more answer 0 time l m w r in
        let f = later_r.made in
        record {
          leg_of = leg_more l m w answer leg leg_of;
          same = s.same;
          served = (
              let d = s.made in
              record {
                event = d.event;
                known = d.known;
                is = record { memory = route.memory; object = d.is.object; txn = d.is.txn; way = FourPhase; access = record asked { offset = route.offset }; status = d.is.status; got = d.is.got; what = d.is.what };
                time = d.time;
              }
              );
          up = returns (record { p = p; tokens = tokens; entries = m; x = x; pass = pass; c = new }) k s.up answer (record { event = f.event; known = f.known; is = f.is }) r.fits r.responds;
          due_is = refl;
          due_up = subst (λ (n : ℕ). UpIs (world_of p) (Known p.platform m) x pass k (later time n)) (sym may.latency_is) s.due;
        }

    -- what the call at the memory gives, for the item that the hop gave back
    pub come_back : (answer : TlmSync) (time : ℕ) (leg : Option Slip) (l m : List (HistoryEntry Content)) (cargo new : Cargo) → Within l m → HasRequested frame at x pass k answer 0 time l → HasOwedLeg frame tokens number l x answer leg → cargo ≡ item
        → GoesDown p tokens (Known p.platform l) x pass There k cargo
        → ((s : MayServe frame tokens number_at cargo time l) → HasServed frame tokens number_at cargo time s.pass s.hop s.fetched.down.asked.access s.route new m)
        → HasRequested frame at x pass k answer 0 time m × HasReturned frame tokens number c pass k latency answer time (later time latency) leg new m
    unfolding serves_now
    come_back answer time leg l m cargo new w r leg_of same g served =
        let may_serve = serves_now answer time l r (subst (GoesDown p tokens (Known p.platform l) x pass There k) same g) in
        let clause = subst (λ (d : Cargo). (s : MayServe frame tokens number_at d time l) → HasServed frame tokens number_at d time s.pass s.hop s.fetched.down.asked.access s.route new m) same served in (
          requested_more answer 0 time l m w r,
          returned answer time leg l m may_serve.fetched.down.asked.access may_serve.route new w r leg_of (clause may_serve),
        )

    -- it may be served as it came back
    pub serves_back : (answer : TlmSync) (time : ℕ) (l : List (HistoryEntry Content)) (cargo : Cargo) → HasRequested frame at x pass k answer 0 time l → cargo ≡ item → GoesDown p tokens (Known p.platform l) x pass There k cargo → MayServe frame tokens number_at cargo time l
    serves_back answer time l cargo r same g =
        subst (λ (d : Cargo). MayServe frame tokens number_at d time l) (sym same) (serves_now answer time l r (subst (GoesDown p tokens (Known p.platform l) x pass There k) same g))

-- the memory that a hop leads to, by its number
pub number_some : {T : Type 0} (f : T → ℕ) (o : Option T) (v : T) → o ≡ Some v → option_map f o ≡ Some (f v)
number_some f o v q = ap (option_map f) q

pub number_none : {T : Type 0} (f : T → ℕ) (o : Option T) → o ≡ None → option_map f o ≡ None
number_none f o q = ap (option_map f) q

pub looks_with : (old mid new : List (ℕ × ℕ)) (number n : ℕ) (memory : Option ℕ) → memory ≡ Some n → mid ≡ old ++ (number, 0) ∷ [] → new ≡ mid ++ (n, 0) ∷ [] → new ≡ (old ++ (number, 0) ∷ []) ++ looks_at memory
looks_with old mid new number n memory is first second =
    second ∙ ap (λ (l : List (ℕ × ℕ)). l ++ (n, 0) ∷ []) first ∙ ap (λ (o : Option ℕ). (old ++ (number, 0) ∷ []) ++ looks_at o) (sym is)
