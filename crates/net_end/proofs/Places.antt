-- Where the entries of a closed history stand, and what is read off them.
use Rattle.std.proofs.Common.{◌≡◌, ℕ, zero, suc, ◌+◌, ◌<◌, List, [], ◌∷◌, All, length, map, get_or, Some, slice_get, refl, ap, sym, subst, ◌∙◌, arith}
use Rattle.std.specs.Prelude.{IsTrue}
use Rattle.std.proofs.lemmas.Bool.{eqb-true}
use Rattle.std.proofs.lemmas.List.Elements.{All-head, All-tail}
use mathlib.Core.Option.{some, some-injective}
use lib.ListN.{get_elem?}
use Rattle.view_lists.specs.Lists.{Has}
use Rattle.view_lists.proofs.Keys.{of_key-has}
use Rattle.view_lists.proofs.Members.{has_map, has_none}
use Rattle.atomic_table.specs.Seated.{TableId}
use Rattle.one_history.specs.declared.entry.Entry.{Entry as HistoryEntry}
use Rattle.one_history.specs.declared.entry.Sign.TheVariants.{Direct as DirectSign, Closed as ClosedSign}
use Rattle.one_history.specs.declared.view.Frame.{Frame}
use Rattle.one_history.specs.Gates.{NoneAfterClosed}
use Rattle.one_history.specs.Held.{Held}
use Rattle.one_history.specs.Lists.{object_of}
use Rattle.one_history.specs.Moves.{own_of}
use Rattle.shared_object.specs.Written.{Written, logged, noted, placed, sign_of}
use Rattle.tlm_types.specs.declared.entry.Content.{Content}
use Rattle.tlm_types.specs.declared.entry.Entry.{Entry}
use Rattle.tlm_types.specs.declared.entry.What.{What}
use Rattle.tlm_types.specs.declared.entry.What.TheVariants.{Access as Accessed, Granted, Invalidated, Closed, Call, Take, Acquire, Release}
use Rattle.tlm_types.specs.declared.words.ObjectNo.{ObjectNo}
use Rattle.tlm_types.specs.declared.words.ObjectNo.TheVariants.{Memory, Hop, Pool}
use Rattle.tlm_types.specs.declared.words.Way.TheVariants.{Blocking, FourPhase, Direct, Debug}
use Rattle.tlm_model.specs.History.{entries_at}
use Rattle.tlm_model.specs.Plan.{Plan}
use Rattle.flow_model.specs.Events.{Event, entries}
use Rattle.good_history.specs.Grants.{closes}
use Rattle.joined_traffic.specs.Parts.{uses_gate}
use Rattle.region_object.specs.Written.{written_from}
use Rattle.cargo_model.specs.Known.{event_of, object_number, objects_of}
use Rattle.cargo_net.proofs.Lists.{read_there}
use Rattle.cargo_net.proofs.ObjectsOnce.{stands_once}
use Rattle.net_end.specs.Closed.{AreLeft, IsClosed, IsLeft, IsPlanned, events_in}
use Rattle.net_end.proofs.Reading.{at_number, entries_read, is_there, memory_read, there}
use Rattle.joined_traffic.specs.Places.{AreInPlace}
use Rattle.net_end.specs.GrantLaws.{ClosesLast}

-- what stands at a place of a list of seats
record IsThere {A : Type 0} (l : List A) (k : ℕ) : Type 0 where
  pub item : A
  pub at : get_elem? l k ≡ some item

seat_there : {A : Type 0} (l : List A) (k : ℕ) → k < length l → IsThere l k
seat_there [] k below = absurd (omega arith)
seat_there (x ∷ l) zero below = record { item = x; at = refl }
seat_there (x ∷ l) (suc k) below = let rest = seat_there l k (omega arith) in record { item = rest.item; at = rest.at }

-- what a memory has written stands in its log at its number
record IsPlacedIn (m n : ℕ) (log : List Entry) (w : Written) : Type 0 where
  place : ℕ
  number : w.content.number ≡ n + place
  at : get_elem? log place ≡ some (logged (Memory m) w)

placed_in : (m n : ℕ) (log : List Entry) (w : Written) → All (λ (e : Entry). e.object ≡ Memory m) log → Has (written_from n log) w → IsPlacedIn m n log w
placed_in m n [] w own has = absurd (has_none w has)
placed_in m n (e ∷ es) w own (zero, is) =
    let same : noted n e ≡ w = some-injective (noted n e) w is in
    let here : e ≡ logged (Memory m) (noted n e) = ap (λ (o : ObjectNo). record { position = e.position; object = o; txn = e.txn; time = e.time; what = e.what }) (All-head (λ (x : Entry). x.object ≡ Memory m) e es own) in
    record {
      place = 0;
      number = (let number : w.content.number ≡ n = ap (λ (x : Written). x.content.number) (sym same) in omega arith);
      at = ap some (here ∙ ap (logged (Memory m)) same);
    }
placed_in m n (e ∷ es) w own (suc k, is) =
    let rest = placed_in m (n + 1) es w (All-tail (λ (x : Entry). x.object ≡ Memory m) e es own) (k, is) in
    record { place = suc rest.place; number = (let number = rest.number in omega arith); at = rest.at }

-- the sign of what was written is read off its content
sign_placed : (n : ℕ) (ws : List Written) (x : HistoryEntry Content) → Has (map (placed n) ws) x → x.sign ≡ sign_of x.content.what
sign_placed n ws x has = let from = has_map (placed n) ws x has in subst (λ (z : HistoryEntry Content). z.sign ≡ sign_of z.content.what) from.2 refl

closing_sign : (g : ℕ) (w : What) → IsTrue (closes g w) → sign_of w ≡ ClosedSign g
closing_sign g (Closed gate) is = ap ClosedSign (eqb-true gate g is)
closing_sign g (Accessed way access status got) is = absurd (cc (is))
closing_sign g (Granted gate first last kind) is = absurd (cc (is))
closing_sign g (Invalidated first last) is = absurd (cc (is))
closing_sign g (Call phase answer) is = absurd (cc (is))
closing_sign g (Take slot) is = absurd (cc (is))
closing_sign g (Acquire slot) is = absurd (cc (is))
closing_sign g (Release slot freed) is = absurd (cc (is))

direct_sign : (g : ℕ) (w : What) → IsTrue (uses_gate g w) → sign_of w ≡ DirectSign g
direct_sign g (Accessed (Direct gate) access status got) is = ap DirectSign (eqb-true gate g is)
direct_sign g (Accessed Blocking access status got) is = absurd (cc (is))
direct_sign g (Accessed FourPhase access status got) is = absurd (cc (is))
direct_sign g (Accessed Debug access status got) is = absurd (cc (is))
direct_sign g (Granted gate first last kind) is = absurd (cc (is))
direct_sign g (Invalidated first last) is = absurd (cc (is))
direct_sign g (Closed gate) is = absurd (cc (is))
direct_sign g (Call phase answer) is = absurd (cc (is))
direct_sign g (Take slot) is = absurd (cc (is))
direct_sign g (Acquire slot) is = absurd (cc (is))
direct_sign g (Release slot freed) is = absurd (cc (is))

module _ (table : TableId) (frame : Frame Plan) (seats notes : List (Held Content Plan)) (all : List (HistoryEntry Content)) (planned : IsPlanned frame) (closed : IsClosed frame seats notes all) (are : AreLeft table frame seats) where
  abbrev p : Plan
  p = frame.world

  abbrev os : List ObjectNo
  os = objects_of (p).platform

  abbrev h : List Event
  h = events_in (p).platform all

  below : (x : HistoryEntry Content) → Has all x → x.object < length os
  below = is_there frame all planned closed.planned

  -- the seat of an entry's object, by its kind
  record Sits (x : HistoryEntry Content) : Type 0 where
    object : ObjectNo
    here : slice_get os x.object ≡ Some object
    seat : Held Content Plan
    at_seat : get_elem? seats x.object ≡ some seat
    is : IsLeft table frame object seat
    among : Has (own_of seat.knows) x

  sits : (x : HistoryEntry Content) → Has all x → Sits x
  sits x has =
      let found = there os x.object (below x has) in
      let seat = seat_there seats x.object (let count = are.count in let less = below x has in omega arith) in
      record {
        object = found.0;
        here = found.1;
        seat = seat.item;
        at_seat = seat.at;
        is = are.each x.object found.0 seat.item found.1 seat.at;
        among = subst (λ (l : List (HistoryEntry Content)). Has l x) (closed.merge.1 x.object seat.item seat.at) (of_key-has object_of all x has);
      }

  signed : (x : HistoryEntry Content) → Has all x → x.sign ≡ sign_of x.content.what
  signed x has = by (sits x has).object (sits x has).seat (sits x has).is (sits x has).among
    where
      by : (o : ObjectNo) (seat : Held Content Plan) → IsLeft table frame o seat → Has (own_of seat.knows) x → x.sign ≡ sign_of x.content.what
      by (Memory m) seat is among = sign_placed _ _ x (subst (λ (l : List (HistoryEntry Content)). Has l x) is.seat_is.own among)
      by (Hop n) seat is among = sign_placed _ _ x (subst (λ (l : List (HistoryEntry Content)). Has l x) is.seat_is.own among)
      by (Pool n) seat is among = sign_placed _ _ x (subst (λ (l : List (HistoryEntry Content)). Has l x) is.seat_is.own among)

  pub are_in_place : AreInPlace h
  are_in_place m e has object =
      let from = has_map (event_of (p).platform) all e has in
      subst (λ (z : Event). get_elem? (entries_at (Memory m) (entries h)) z.number ≡ some z.entry) from.2 (here from.0 from.1 (ap (λ (z : Event). z.object) from.2 ∙ object))
    where
      here : (x : HistoryEntry Content) → Has all x → get_or os x.object (Hop 0) ≡ Memory m → get_elem? (entries_at (Memory m) (entries h)) x.content.number ≡ some (event_of (p).platform x).entry
      here x in_all read = by s.object s.seat s.is s.among (sym (read_there os x.object s.object (Hop 0) s.here) ∙ read) s.here s.at_seat
        where
          s : Sits x
          s = sits x in_all

          by : (o : ObjectNo) (seat : Held Content Plan) → IsLeft table frame o seat → Has (own_of seat.knows) x → o ≡ Memory m → slice_get os x.object ≡ Some o → get_elem? seats x.object ≡ some seat → get_elem? (entries_at (Memory m) (entries h)) x.content.number ≡ some (event_of (p).platform x).entry
          by o seat is among same there_at at_seat =
              let left = subst (λ (q : ObjectNo). IsLeft table frame q seat) same is in
              let here_at : slice_get os x.object ≡ Some (Memory m) = there_at ∙ ap (λ (q : ObjectNo). Some q) same in
              let number : object_number (p).platform (Memory m) ≡ x.object = sym (stands_once (p).platform x.object (Memory m) here_at) in
              let log : entries_at (Memory m) (entries h) ≡ left.log =
              entries_read (Memory m) h
              ∙ (ap entries (at_number (p).platform x.object (Memory m) here_at all below ∙ (ap (map (event_of (p).platform)) (closed.merge.1 x.object seat at_seat) ∙ ap (map (event_of (p).platform)) left.seat_is.own))
              ∙ (ap (λ (n : ℕ). entries (map (event_of (p).platform) (map (placed n) (written_from 0 left.log)))) number ∙ memory_read (p).platform x.object m here_at 0 left.log left.own)) in
              let w = has_map (placed (object_number (p).platform (Memory m))) (written_from 0 left.log) x (subst (λ (l : List (HistoryEntry Content)). Has l x) left.seat_is.own among) in
              let place = placed_in m 0 left.log w.0 left.own w.1 in
              let at_number_of : place.place ≡ x.content.number = (let counted = place.number in let content : w.0.content.number ≡ x.content.number = ap (λ (z : HistoryEntry Content). z.content.number) w.2 in omega arith) in
              let entry : logged (Memory m) w.0 ≡ (event_of (p).platform x).entry =
              ap (λ (o : ObjectNo). record { position = w.0.position; object = o; txn = w.0.content.txn; time = w.0.content.time; what = w.0.content.what }) (sym read)
              ∙ ap (λ (z : HistoryEntry Content). record { position = z.position; object = get_or os x.object (Hop 0); txn = z.content.txn; time = z.content.time; what = z.content.what }) w.2 in
              ap (get_elem? (entries_at (Memory m) (entries h))) (sym at_number_of) ∙ (ap (λ (l : List Entry). get_elem? l place.place) log ∙ (place.at ∙ ap some entry))

  pub closes_last : NoneAfterClosed all → ClosesLast (entries h)
  closes_last last d c g has_d has_c uses_it closes_it =
      let a = has_map (λ (z : Event). z.entry) h d has_d in
      let x = has_map (event_of (p).platform) all a.0 a.1 in
      let b = has_map (λ (z : Event). z.entry) h c has_c in
      let y = has_map (event_of (p).platform) all b.0 b.1 in
      let d_is : (event_of (p).platform x.0).entry ≡ d = ap (λ (z : Event). z.entry) x.2 ∙ a.2 in
      let c_is : (event_of (p).platform y.0).entry ≡ c = ap (λ (z : Event). z.entry) y.2 ∙ b.2 in
      let uses_sign = signed x.0 x.1 ∙ direct_sign g x.0.content.what (ap (λ (z : Entry). uses_gate g z.what) d_is ∙ uses_it) in
      let closes_sign = signed y.0 y.1 ∙ closing_sign g y.0.content.what (ap (λ (z : Entry). closes g z.what) c_is ∙ closes_it) in
      let less = last y.1.0 x.1.0 y.0 x.0 y.1.1 x.1.1 g closes_sign uses_sign in
      let at_x : x.0.position ≡ x.1.0 = closed.merge.0 x.1.0 x.0 x.1.1 in
      let at_y : y.0.position ≡ y.1.0 = closed.merge.0 y.1.0 y.0 y.1.1 in
      let d_at : x.0.position ≡ d.position = ap (λ (z : Entry). z.position) d_is in
      let c_at : y.0.position ≡ c.position = ap (λ (z : Entry). z.position) c_is in
      omega arith
