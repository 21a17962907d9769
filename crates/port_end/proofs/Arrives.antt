-- What vouched for an access that has arrived, and what its wallet has left, is what its port takes back.
use Rattle.std.proofs.Common.{◌≡◌, ℕ, ◌+◌, ◌<◌, ◌≤◌, IsSome, Bool, true, false, List, [], ◌∷◌, ◌++◌, length, map, Option, Some, None, refl, sym, ap, ◌∙◌, subst, inl, inr, arith}
use Rattle.std.specs.Prelude.{is_some, slice_get, sum_by}
use Rattle.std.proofs.lemmas.List.{length-replicate}
use Rattle.std.proofs.lemmas.List.Sums.{sum_by-cons}
use Rattle.view_lists.specs.Lists.{Within}
use Rattle.one_history.specs.declared.entry.Entry.{Entry as HistoryEntry}
use Rattle.tlm_types.specs.declared.entry.Content.{Content}
use Rattle.tlm_types.specs.declared.words.Command.{Command}
use Rattle.tlm_types.specs.declared.words.Command.TheVariants.{Read}
use Rattle.tlm_types.specs.declared.words.ObjectNo.{ObjectNo}
use Rattle.tlm_types.specs.declared.words.ObjectNo.TheVariants.{Memory, Hop, Pool}
use Rattle.tlm_types.specs.declared.words.TxnId.{TxnId}
use Rattle.tlm_types.specs.declared.entry.Access.{Access}
use Rattle.tlm_types.specs.declared.entry.Entry.{Entry}
use Rattle.tlm_model.specs.declared.platform.Platform.{Platform}
use Rattle.tlm_model.specs.declared.platform.Style.TheVariants.{FourPhase}
use Rattle.tlm_model.specs.declared.ask.Ask.TheVariants.{Access as AnAccess}
use Rattle.tlm_model.specs.History.{entries_at}
use Rattle.tlm_model.specs.Plan.{Plan, Initiator, initiators_of}
use Rattle.tlm_model.specs.Requests.{Asked as AskedFor, Request, got_in, requests_of}
use Rattle.tlm_model.specs.Route.{Route, route_of}
use Rattle.tlm_model.specs.Store.{zeros}
use Rattle.token_book.specs.Purse.{Purse, left_of}
use Rattle.generic_payload.specs.Payload.{PayloadView}
use Rattle.flow_model.specs.World.{Passage, hop_at}
use Rattle.flow_model.specs.Events.{Among, Event, Finds}
use Rattle.flow_model.specs.Numbers.{EndIs, IsEnder}
use Rattle.flow_model.specs.Platform.{passage_of, world_of}
use Rattle.flow_model.proofs.More.{end_more, finds_more}
use Rattle.flow_model.specs.Valid.{HasNoCycle}
use Rattle.flow_model.proofs.Ways.{world_law}
use Rattle.cargo_model.specs.Known.{event_of, object_number}
use Rattle.cargo_model.specs.Laws.{Case, knows}
use Rattle.cargo_model.specs.Origins.{AreThere}
use Rattle.cargo_model.specs.Travel.{IsReplied}
use Rattle.cargo_model.proofs.Origins.{apart_law}
use Rattle.cargo_model.proofs.There.{there_law}
use Rattle.cargo_model.proofs.Up.{arrives, ends}
use Rattle.joined_traffic.specs.Accesses.{chosen, entries_of, txn_of, visits}
use Rattle.flow_model.specs.Called.{HasCalled}
use Rattle.joined_traffic.specs.Issued.{IsReplyOf}
use Rattle.joined_traffic.proofs.ScriptLemmas.{made_for}
use Rattle.joined_traffic.proofs.MemoryLemmas.{among_has, has_among}
use Rattle.cargo_end.specs.Arrival.{AreReplies, Replies, calls_by, given_at, route, spent_by}
use Rattle.cargo_end.proofs.Arrival.{calls_left, paid, replied}
use Rattle.port_model.specs.Stages.{made_at, made_by, price, price_of}
use Rattle.port_model.specs.Way.{HasReturned, IsUnderWay, Port}
use Rattle.script_engine.specs.declared.op.Op.{Op}
use Rattle.script_engine.specs.declared.op.Op.TheVariants as next
use Rattle.script_engine.specs.declared.part.Transfer.{Transfer}
use Rattle.script_engine.specs.declared.part.TransferKind.TheVariants as transfer
use Rattle.script_engine.specs.Part.{IsRead, part_of}
use Rattle.script_engine.specs.State.{length_of, op_of, payload_of}
use Rattle.script_engine.specs.Asking.{IsAnswered, asked_access, request_for}
use Rattle.port_model.specs.Laws.{AreBelow, HasBytes, IsReplyTo, Knows, replies_of}
use Rattle.port_model.proofs.Answering.{replies_answer}
use Rattle.port_model.proofs.NextAsks.{next_asked, passes_its_way, price_at, priced}
use Rattle.port_model.proofs.Origins.{address_by, origin}
use Rattle.port_model.proofs.Returns.{fenced_returned, plain_returned}
use Rattle.port_end.proofs.ReadLemmas.{AsksRead, kept_by, kept_is, next_read, read_by, same_read}
use Rattle.port_end.specs.Arrives.{ArrivedComesBack, FinishedArrives, HasArrived, IsTakenBack, PutsBack, StandBelow, TakesBackFenced, TakesBackPlain, events_of}

module _ {A B : Type 0} (f : A → B) where
  among_map : (xs : List A) (x : A) → Among xs x → Among (map f xs) (f x)
  among_map [] x m = absurd m
  among_map (y ∷ xs) x (inl q) = inl (ap f q)
  among_map (y ∷ xs) x (inr m) = inr (among_map xs x m)

made_sum : (f : TxnId → ℕ) (b : Bool) (x : TxnId) → sum_by f (chosen b x) ≡ made_by b (f x)
made_sum f true x = let t = sum_by-cons f x [] in omega (arith, t)
made_sum f false x = refl

given_price : (p : Plan) (i : Initiator) (a : ℕ) (o : ObjectNo) → given_at p i a o ≡ price_of p i o (AnAccess a 0)
given_price p i a (Memory m) = refl
given_price p i a (Hop h) = refl
given_price p i a (Pool n) = refl

same_initiator : (a b : Initiator) → Some a ≡ Some b → a ≡ b
same_initiator a b e = cc

same_entry : (a b : Entry) → Some a ≡ Some b → a ≡ b
same_entry a b e = cc

no_entry : (e : Entry) → None ≡ Some e → ⊥
no_entry e q = cc

-- the transfer of a read
abbrev a_read : ℕ → ℕ → ℕ → Bool → Bool → Transfer
a_read q c n plain fenced = record { seq = q; address = c; length = n; kind = transfer.Access Read plain fenced }

module _ (s : Case) (i : Initiator) (port : Port) (known : List Event) (seen : ℕ) (left rest : ObjectNo → ℕ) (u : IsUnderWay s.p i port known seen left) (free : HasNoCycle s.p.platform)
    (is : slice_get (initiators_of s.p) i.number ≡ Some i) (style : i.row.style ≡ FourPhase) (seq : ℕ) (its : s.x ≡ txn_of i.number seq) (z : Purse) (v : PayloadView) (a : HasArrived s z v)
    (puts : PutsBack s.p z left rest) where
  abbrev more : List Event
  more = events_of s.p.platform s.entries

  abbrev calls : ℕ → ℕ
  calls = calls_by s z

  also_known : (e : Event) → knows s e → Among more e
  also_known e k = subst (Among more) (sym k.is) (among_map (event_of s.p.platform) s.entries k.entry (has_among s.entries k.entry k.has))

  own : a.asked.initiator ≡ i
  own = same_initiator a.asked.initiator i (sym a.asked.is ∙ (ap (λ (x : TxnId). slice_get (initiators_of s.p) x.initiator) its ∙ is))

  own_style : a.asked.initiator.row.style ≡ FourPhase
  own_style = ap (λ (j : Initiator). j.row.style) own ∙ style

  number : a.asked.initiator.number ≡ s.x.initiator
  number = ap (λ (j : Initiator). j.number) own ∙ sym (ap (λ (x : TxnId). x.initiator) its)

  there : AreThere s.p s.x s.pass (route s a.asked)
  there = subst (λ (g : Passage). AreThere s.p s.x g (route s a.asked)) (sym a.asked.way)
      (there_law s.p s.x a.asked.initiator a.asked.request.address (is_some (route_of s.p.platform a.asked.initiator a.asked.request.address)) a.asked.is own_style)

  passes : passage_of s.p (txn_of i.number seq) ≡ Some s.pass
  passes = subst (λ (x : TxnId). passage_of s.p x ≡ Some s.pass) its a.asked.passes

  asked : slice_get (requests_of s.p.platform i a.asked.replies) seq ≡ Some a.asked.request
  asked = subst (λ (j : Initiator). slice_get (requests_of s.p.platform j a.asked.replies) seq ≡ Some a.asked.request) own
      (subst (λ (x : TxnId). slice_get (requests_of s.p.platform a.asked.initiator a.asked.replies) x.seq ≡ Some a.asked.request) its a.asked.asked)

  called_more : (k n : ℕ) → HasCalled (world_of s.p) (knows s) s.x s.pass k n → HasCalled (world_of s.p) (Among more) s.x s.pass k n
  called_more k n c = record { sequence = c.sequence; given = c.given; long = c.long; known = λ phase answer m d. finds_more (world_of s.p) (knows s) (Among more) also_known s.x _ (c.known phase answer m d) }

  returned : HasReturned s.p i more seq s.pass a.ended.time calls
  returned = record {
    called = λ k l. subst (λ (x : TxnId). HasCalled (world_of s.p) (Among more) x s.pass k (calls (hop_at s.pass k))) its (called_more k (calls (hop_at s.pass k)) (calls_left s k _ (a.left.hops k l)));
    ended = subst (λ (x : TxnId). Finds (Among more) (IsEnder x (hop_at s.pass 0))) its (finds_more (world_of s.p) (knows s) (Among more) also_known s.x _ a.ended.ender);
    time = subst (λ (x : TxnId). EndIs (world_of s.p) (Among more) x s.pass 0 a.ended.time) its (end_more (world_of s.p) (knows s) (Among more) also_known s.x s.pass 0 a.ended.time a.ended.is);
  }

  -- what it was given is what the port reckons with
  is_price : (o : ObjectNo) → price s.p i o seq ≡ given_at s.p a.asked.initiator a.asked.request.address o
  is_price o =
      price_at s.p i o a.asked.replies a.asked.request seq asked
      ∙ (ap (λ (d : AskedFor). priced s.p i o d a.asked.request.address) a.asked.transport
      ∙ (sym (given_price s.p i a.asked.request.address o)
      ∙ ap (λ (j : Initiator). given_at s.p j a.asked.request.address o) (sym own)))

  spent : (replies : List Entry) (o : ObjectNo) → spent_by s z replies o ≤ length (entries_at o replies) + made_at s.p o (txn_of i.number seq) calls
  spent replies (Memory m) = omega arith
  spent replies (Hop h) =
      let e : spent_by s z replies (Hop h) ≡ made_at s.p (Hop h) (txn_of i.number seq) calls =
      made_sum (entries_of s.p (λ x. calls) (Hop h)) (visits (Hop h) s.x (passage_of s.p s.x)) s.x ∙ ap (λ (x : TxnId). made_at s.p (Hop h) x calls) its in
      less _ _ _ e
    where
      less : (b c d : ℕ) → b ≡ c → b ≤ d + c
      less b c d e = omega arith
  spent replies (Pool n) =
      let e : spent_by s z replies (Pool n) ≡ made_at s.p (Pool n) (txn_of i.number seq) calls =
      made_sum (entries_of s.p (λ x. calls) (Pool n)) (visits (Pool n) s.x (passage_of s.p s.x)) s.x ∙ ap (λ (x : TxnId). made_at s.p (Pool n) x calls) its in
      less _ _ _ e
    where
      less : (b c d : ℕ) → b ≡ c → b ≤ d + c
      less b c d e = omega arith

  fewer : (o : ObjectNo) → left o ≤ rest o
  fewer o = let e : rest o ≡ left o + left_of z (object_number s.p.platform o) = puts o in omega arith

  pays : (replies : List Entry) → AreReplies (route s a.asked) replies → (o : ObjectNo) → price s.p i o seq + left o ≤ (length (entries_at o replies) + made_at s.p o (txn_of i.number seq) calls) + rest o
  pays replies are o =
      sums _ _ _ _ _ _ _ (is_price o) (spent replies o) (puts o)
      (paid s a.asked z replies ((world_law s.p free).passages s.x s.pass a.asked.passes) there own_style number a.left are o)
    where
      sums : (cost given used counted back before after : ℕ) → cost ≡ given → used ≤ counted → after ≡ before + back → used + back ≡ given → cost + before ≤ counted + after
      sums cost given used counted back before after q l e t = omega arith

  -- a request that was made has a route where that of the vouching has one
  same_route : (r : Request) → slice_get u.made seq ≡ Some r → is_some (route_of s.p.platform i r.address) ≡ is_some (route s a.asked)
  same_route r q =
      sym (ap (λ (g : Passage). g.routed) (passes_its_way s.p i port known seen left u is seq r s.pass q passes))
      ∙ ap (λ (g : Passage). g.routed) a.asked.way

  -- what is next is a read
  module _ (q c n : ℕ) (plain fenced : Bool) (next_is : op_of port.engine ≡ next.Access q c n Read plain fenced) (at : seq ≡ port.engine.seq) where
    abbrev payload : PayloadView
    payload = payload_of port.engine 4096

    abbrev next_asked_for : Request
    next_asked_for = request_for (a_read q c n plain fenced) payload u.asking.blocking u.step

    next_at : slice_get (requests_of s.p.platform i (u.mine ++ [])) seq ≡ Some next_asked_for
    next_at = subst (λ (k : ℕ). slice_get (requests_of s.p.platform i (u.mine ++ [])) k ≡ Some next_asked_for) (sym at)
        (next_asked s.p i port known seen left u (a_read q c n plain fenced) (ap part_of next_is))

    read : AsksRead payload n
    read = next_read port.engine.seq q c n plain fenced port.engine.due port.engine.remaining next_is

    is_that : (a.asked.access.command ≡ Read) × (a.asked.access ≡ asked_access payload)
    is_that = kept_is a.asked.access.command a.asked.access (asked_access payload)
        (sym (ap read_by a.asked.transport)
        ∙ (sym (same_read s.p.platform i (u.mine ++ []) a.asked.replies next_asked_for a.asked.request seq next_at asked)
        ∙ ap (λ (d : Command). kept_by d (asked_access payload)) read.command))

    sent : a.asked.access.sent ≡ zeros n
    sent = ap (λ (d : Access). d.sent) is_that.1 ∙ read.bytes

    same_address : c ≡ a.asked.request.address
    same_address = same c a.asked.request.address
        (option_same _ _ (sym (origin s.p.platform i (u.mine ++ []) next_asked_for seq next_at) ∙ origin s.p.platform i a.asked.replies a.asked.request seq asked)
        ∙ ap (λ (d : AskedFor). address_by d a.asked.request.address) a.asked.transport)
      where
        same : (m n : ℕ) → Some m ≡ Some n → m ≡ n
        same m n e = cc

        option_same : (m n : Option ℕ) → Some m ≡ Some n → m ≡ n
        option_same m n e = cc

    next_route : route_of s.p.platform i c ≡ route s a.asked
    next_route = ap (route_of s.p.platform i) same_address ∙ ap (λ (j : Initiator). route_of s.p.platform j a.asked.request.address) (sym own)

    -- and comes back with as many bytes as it asked for
    read_long : length v.bytes ≡ n
    read_long = by_route (route s a.asked) a.content ∙ ap (λ (l : List ℕ). length l) sent ∙ length-replicate {A = ℕ} n 0
      where
        by_route : (t : Option Route) → IsReplied s.p s.tokens (knows s) s.x s.pass a.asked.access t v → length v.bytes ≡ length a.asked.access.sent
        by_route None c = ap (λ (l : List ℕ). length l) c.1
        by_route (Some r) c = c.is.long is_that.0

  -- a read comes back with as many bytes as it asked for
  next_long : seq ≡ port.engine.seq → IsRead (op_of port.engine) → length v.bytes ≡ length_of (op_of port.engine)
  next_long at = by_op (op_of port.engine) refl
    where
      by_op : (o : Op) → op_of port.engine ≡ o → IsRead o → length v.bytes ≡ length_of o
      by_op (next.Access q c n command plain fenced) e is = read_long q c n plain fenced (e ∙ ap (λ (d : Command). next.Access q c n d plain fenced) is) at
      by_op (next.Debug q c n) e is = absurd is
      by_op (next.Wait n) e is = absurd is
      by_op next.Sync e is = absurd is
      by_op next.Fence e is = absurd is
      by_op (next.Invalidate q c n) e is = absurd is
      by_op next.Done e is = absurd is

  -- the payload's bytes are the answer, where it is so for a read
  told_next : (reply : Option Entry) → port.waiting ≡ true →
      ((q c n : ℕ) (plain fenced : Bool) → op_of port.engine ≡ next.Access q c n Read plain fenced → HasBytes s.p i port (a_read q c n plain fenced) reply v.bytes) →
      (m : List Entry) → IsAnswered s.p.platform i ((u.mine ++ replies_of reply) ++ m) (op_of port.engine) v.bytes
  told_next reply waits has m = by_op (op_of port.engine) refl
    where
      by_op : (o : Op) → op_of port.engine ≡ o → IsAnswered s.p.platform i ((u.mine ++ replies_of reply) ++ m) o v.bytes
      by_op (next.Access q c n Read plain fenced) e =
          subst (λ (o : Op). IsAnswered s.p.platform i ((u.mine ++ replies_of reply) ++ m) o v.bytes) e
          (replies_answer s.p i port known seen left reply v.bytes u waits (a_read q c n plain fenced) (ap part_of e) (has q c n plain fenced e) m)
      by_op op e = tt

  taken_back : (t : Option Route) → route s a.asked ≡ t → IsTakenBack s i port known seen left rest u seq a.ended.time z v
  taken_back None q = record {
    reply = None;
    back = record {
      passes = passes;
      returned = returned;
      entry = λ e f. absurd (no_entry e f);
      routed = λ r m some. absurd (nothing (same_route r m ∙ ap (λ (t : Option Route). is_some t) q) some);
      fewer = fewer;
      pays = pays [] (subst (λ (t : Option Route). AreReplies t []) (sym q) refl);
    };
    long = λ waits at. next_long at;
    told = λ waits at. told_next None waits (λ k c n plain fenced e. record {
      long = read_long k c n plain fenced e at;
      with_route = λ d f. absurd (no_entry d f);
      without = λ f. (
        next_route k c n plain fenced e at ∙ q,
        (subst (λ (t : Option Route). IsReplied s.p s.tokens (knows s) s.x s.pass a.asked.access t v) q a.content).1 ∙ sent k c n plain fenced e at,
      );
    });
  }
    where
      nothing : {b : Bool} → b ≡ false → b ≡ true → ⊥
      nothing e f = cc
  taken_back (Some r) q = record {
    reply = Some f.event.entry;
    back = record {
      passes = passes;
      returned = returned;
      entry = λ e m. subst (λ (d : Entry). IsReplyTo s.p i more seq d) (same_entry f.event.entry e m) is_reply;
      routed = λ r m some. refl;
      fewer = fewer;
      pays = pays (f.event.entry ∷ []) (subst (λ (t : Option Route). AreReplies t (f.event.entry ∷ [])) (sym q) (f.event.entry, refl, f.is.object));
    };
    long = λ waits at. next_long at;
    told = λ waits at. told_next (Some f.event.entry) waits (λ k c n plain fenced e. record {
      long = read_long k c n plain fenced e at;
      with_route = λ d m. subst (λ (d : Entry). (d.txn ≡ txn_of i.number port.engine.seq) × (got_in d.what ≡ Some v.bytes) × IsSome (route_of s.p.platform i c)) (same_entry f.event.entry d m) (
        f.is.txn ∙ (its ∙ ap (txn_of i.number) at),
        f.is.read (is_that k c n plain fenced e at).0,
        subst (λ (t : Option Route). IsSome t) (sym (next_route k c n plain fenced e at ∙ q)) refl,
      );
      without = λ m. absurd (no_none m);
    });
  }
    where
      no_none : {e : Entry} → Some e ≡ None → ⊥
      no_none q = cc

      f : Finds (knows s) (Replies s a.asked v r)
      f = replied s a.asked v own_style a.content r q

      is_reply : IsReplyTo s.p i more seq f.event.entry
      is_reply = record {
        txn = f.is.txn ∙ its;
        stands = record { event = f.event; known = also_known f.event f.known; is = refl };
        reply = record {
          replies = a.asked.replies;
          stand = λ e m. finds_more (world_of s.p) (knows s) (Among more) also_known s.x _ (a.asked.known e m);
          request = a.asked.request;
          asked = subst (λ (x : TxnId). slice_get (requests_of s.p.platform i a.asked.replies) x.seq ≡ Some a.asked.request) (sym (f.is.txn ∙ its)) asked;
          is = made_for s.p i f.event.entry a.asked.request (subst (λ (j : Initiator). IsReplyOf s.p j f.event.entry a.asked.request) own f.is.reply);
        };
        access = f.is.reply.access;
      }

pub finished : FinishedArrives
finished s owed u z free style f = record {
  asked = u.asked;
  content = u.content;
  left = arrives s owed u f.first f.second z (apart_law s.p s.x s.pass (route s u.asked) ((world_law s.p free).passages s.x s.pass u.asked.passes) there_at) f.few f.pulls_end f.pulls_first f.pulls_second;
  ended = ends s 0 owed _ u.come ((u.tickets.hops 0 u.held.below).here refl) f.ended;
}
  where
    there_at : AreThere s.p s.x s.pass (route s u.asked)
    there_at = subst (λ (g : Passage). AreThere s.p s.x g (route s u.asked)) (sym u.asked.way)
        (there_law s.p s.x u.asked.initiator u.asked.request.address (is_some (route_of s.p.platform u.asked.initiator u.asked.request.address)) u.asked.is style)

pub comes_back : ArrivedComesBack
comes_back s i port known seen left rest u free is style seq its z v a puts = taken_back s i port known seen left rest u free is style seq its z v a puts (route s a.asked) refl

-- what stands in a list of images comes from an element
record From {A B : Type 0} (f : A → B) (xs : List A) (y : B) : Type 0 where
  x : A
  among : Among xs x
  is : f x ≡ y

module _ {A B : Type 0} (f : A → B) where
  among_from : (xs : List A) (y : B) → Among (map f xs) y → From f xs y
  among_from [] y m = absurd m
  among_from (x ∷ xs) y (inl q) = record { x = x; among = inl refl; is = q }
  among_from (x ∷ xs) y (inr m) = let r = among_from xs y m in record { x = r.x; among = inr r.among; is = r.is }

module _ (p : Platform) (old new : List (HistoryEntry Content)) where
  pub knows_more : Within old new → Knows (events_of p old) (events_of p new)
  knows_more within e m =
      let r = among_from (event_of p) old e m in
      subst (Among (events_of p new)) r.is (among_map (event_of p) new r.x (has_among new r.x (within r.x (among_has old r.x r.among))))

  pub stand_below : (after : ℕ) → StandBelow new after → AreBelow (events_of p new) after
  stand_below after below e m =
      let r = among_from (event_of p) new e m in
      subst (λ (f : Event). f.position < after) r.is (below r.x (among_has new r.x r.among))

pub plain_back : TakesBackPlain
plain_back s i port old seen after left rest u within below free is style quiet seq away off its z v a puts =
    let t = comes_back s i port (events_of s.p.platform old) seen left rest u free is style seq its z v a puts in
    plain_returned s.p i port (events_of s.p.platform old) (events_of s.p.platform s.entries) seen after left rest u (knows_more s.p.platform old s.entries within) (stand_below s.p.platform old s.entries after below) quiet
    seq s.pass t.reply a.ended.time (calls_by s z) away off t.back

pub fenced_back : TakesBackFenced
fenced_back s i port old seen after left rest u within below free is style waits away off its z v a puts =
    let t = comes_back s i port (events_of s.p.platform old) seen left rest u free is style port.engine.seq its z v a puts in
    fenced_returned s.p i port (events_of s.p.platform old) (events_of s.p.platform s.entries) seen after left rest u (knows_more s.p.platform old s.entries within) (stand_below s.p.platform old s.entries after below) waits
    s.pass t.reply a.ended.time (calls_by s z) away v.bytes off t.back (t.told waits refl)
