-- Own entries that keep the points of grants keep them with those that an invalidation adds.
use Rattle.std.proofs.Common.{◌≡◌, ℕ, ◌≤◌, ◌==◌, ◌&&◌, nat_lt, Bool, true, false, List, [], ◌∷◌, ◌++◌, cond, Option, Some, None, slice_get, refl, ap, sym, subst, ◌∙◌, inr, ⊎_elim, arith, append_assoc, append-nil}
use Rattle.std.specs.Prelude.{IsTrue, MatchOption}
use Rattle.std.specs.Option.{option_or}
use Rattle.std.proofs.lemmas.Bool.{and_parts, cond-true, eq-eqb, ltb-true}
use Rattle.std.proofs.lemmas.Bool.Decides.{nat_tests}
use Rattle.view_lists.specs.Lists.{Has, Within}
use Rattle.view_lists.proofs.Members.{has_either, has_later, has_left, has_none, has_one, has_right}
use Rattle.one_history.specs.declared.view.Frame.{Frame}
use Rattle.one_history.specs.declared.view.View.{View}
use Rattle.one_history.specs.Lists.{StandBelow}
use Rattle.token_book.specs.Purse.{Purse}
use Rattle.tlm_types.specs.declared.entry.Content.{Content}
use Rattle.tlm_types.specs.declared.entry.Entry.{Entry}
use Rattle.tlm_types.specs.declared.entry.What.{What}
use Rattle.tlm_types.specs.declared.entry.What.TheVariants.{Invalidated}
use Rattle.tlm_types.specs.declared.words.TxnId.{TxnId}
use Rattle.tlm_model.specs.Plan.{Plan, Initiator, initiators_of}
use Rattle.tlm_model.specs.Requests.{Request, is_txn, requests_of}
use Rattle.tlm_model.specs.Scripts.{OfRequest}
use Rattle.good_history.specs.Grants.{asks, has_dmi, is_hinting, last_of, plain_of}
use Rattle.good_history.specs.Kept.{IsAskedFor, is_earlier}
use Rattle.joined_traffic.specs.Growing.{TellsNext}
use Rattle.joined_traffic.specs.Parts.{EarlierReturned, HasOwnWay, HasReturned, IsAskSettled, IsOwnClosing, IsOwnUse, KeepsOwnGrants, KnowsAllGiven, is_invalidation}
use Rattle.joined_traffic.proofs.Growing.{own_grants_grow}
use Rattle.dmi_grants.specs.Known.{AreBelow, HasAllOf, known_to}
use Rattle.dmi_grants.specs.Telling.{AsksAfter, HasAdded, InvalidationKeepsPoints, IsClosingFor, KeepsOwnPoints}
use Rattle.dmi_grants.proofs.Reading.{all_of, given_on, read_below, read_more}

-- the last entry of a list that is an initiator's
pub last_push : (n : ℕ) (es : List Entry) (e : Entry) → e.txn.initiator ≡ n → last_of n (es ++ e ∷ []) ≡ Some e
last_push n [] e own = cond-true (e.txn.initiator == n) (Some e) None (eq-eqb e.txn.initiator n own)
last_push n (x ∷ es) e own = ap (λ (o : Option Entry). option_or o (cond (x.txn.initiator == n) (Some x) None)) (last_push n es e own)

no_and : (b : Bool) → b && false ≡ false
no_and true = refl
no_and false = refl

-- what is no access asks for no grant
never_asks : (p : Plan) (e : Entry) → is_hinting e.what ≡ false → IsTrue (asks p e) → ⊥
never_asks p e quiet ask =
    let none : asks p e ≡ false =
    ap (λ (b : Bool). plain_of (slice_get (initiators_of p) e.txn.initiator) e.txn.seq && (b && has_dmi p.platform e.object)) quiet
    ∙ no_and (plain_of (slice_get (initiators_of p) e.txn.initiator) e.txn.seq) in
    let wrong : false ≡ true = sym none ∙ ask in
    cc (wrong)

own_txn : (i s : ℕ) → is_txn i s (record { initiator = i; seq = s }) ≡ true
own_txn i s = grind (arith, nat_tests)

not_earlier : (x y : Entry) → x.txn ≡ y.txn → IsTrue (is_earlier x y) → ⊥
not_earlier x y same earlier =
    let parts = and_parts (x.txn.initiator == y.txn.initiator) (nat_lt x.txn.seq y.txn.seq) earlier in
    let less = ltb-true x.txn.seq y.txn.seq parts.1 in
    let seq : x.txn.seq ≡ y.txn.seq = ap (λ (t : TxnId). t.seq) same in
    omega arith

module _ (frame : Frame Plan) (m : ℕ) (txn : TxnId) (time first last : ℕ) (note back : View Content Plan) (before after : Purse) (told : Entry) (closings mine : List Entry) (d : HasAdded frame m txn time first last note back before after told closings) (below : StandBelow note.known note.seen)
    (request : AsksAfter frame.world mine txn) (points : KeepsOwnPoints frame.world note txn.initiator mine) where
  abbrev p : Plan
  p = frame.world

  told_txn : told.txn ≡ txn
  told_txn = ap (λ (e : Entry). e.txn) d.told_is

  told_what : told.what ≡ Invalidated first last
  told_what = ap (λ (e : Entry). e.what) d.told_is

  -- what an entry of the transaction owes of its request
  of_it : (xs : List Entry) (e : Entry) (Q : Initiator → Request → Type 0) → e.txn ≡ txn → ((i : Initiator) (r : Request) → Q i r) → OfRequest p (mine ++ xs) e Q
  of_it xs e Q is f =
      subst (λ (o : Option Initiator). MatchOption o ⊥ (λ j. MatchOption (slice_get (requests_of (p).platform j (mine ++ xs)) e.txn.seq) ⊥ (λ x. Q j x))) (sym (ap (λ (t : TxnId). slice_get (initiators_of p) t.initiator) is ∙ request.is))
      (subst (λ (o : Option Request). MatchOption o ⊥ (λ x. Q request.initiator x)) (sym (ap (λ (t : TxnId). slice_get (requests_of (p).platform request.initiator (mine ++ xs)) t.seq) is ∙ request.asked xs))
      (f request.initiator request.request))

  -- the entries so far: its own invalidation is among them, and the last asks for nothing
  record Stands (xs : List Entry) : Type 0 where
    has_told : Has (mine ++ xs) told
    of : (y : Entry) → Has xs y → y.txn ≡ txn
    quiet : (a : Entry) → last_of txn.initiator (mine ++ xs) ≡ Some a → IsTrue (asks p a) → ⊥

  pushed : (xs : List Entry) (e : Entry) → Stands xs → e.txn ≡ txn → is_hinting e.what ≡ false → Stands (xs ++ e ∷ [])
  pushed xs e s is none = record {
    has_told = subst (λ (l : List Entry). Has l told) (append_assoc mine xs (e ∷ [])) (has_left (mine ++ xs) (e ∷ []) told s.has_told);
    of = λ y has. ⊎_elim
        (λ (early : Has xs y). s.of y early)
        (λ (late : Has (e ∷ []) y). subst (λ (z : Entry). z.txn ≡ txn) (has_one e y late) is)
        (has_either xs (e ∷ []) y has);
    quiet = λ a last_is ask.
        let same : Some e ≡ Some a = sym (last_push txn.initiator (mine ++ xs) e (ap (λ (t : TxnId). t.initiator) is)) ∙ (ap (last_of txn.initiator) (append_assoc mine xs (e ∷ [])) ∙ last_is) in
        let one : e ≡ a = one_of e a same in
        never_asks p e none (subst (λ (z : Entry). IsTrue (asks p z)) (sym one) ask);
  }
    where
      one_of : (x y : Entry) → Some x ≡ Some y → x ≡ y
      one_of x y same = cc (same)

  begun : Stands (told ∷ [])
  begun = record {
    has_told = has_right mine (told ∷ []) told (0, refl);
    of = λ y has. subst (λ (z : Entry). z.txn ≡ txn) (has_one told y has) told_txn;
    quiet = λ a last_is ask.
        let same : Some told ≡ Some a = sym (last_push txn.initiator mine told (ap (λ (t : TxnId). t.initiator) told_txn)) ∙ last_is in
        let one : told ≡ a = one_of told a same in
        never_asks p told (ap is_hinting told_what) (subst (λ (z : Entry). IsTrue (asks p z)) (sym one) ask);
  }
    where
      one_of : (x y : Entry) → Some x ≡ Some y → x ≡ y
      one_of x y same = cc (same)

  all_stand : (xs cs : List Entry) → Stands xs → ((c : Entry) → Has cs c → IsClosingFor p m txn time c) → Stands (xs ++ cs)
  all_stand xs [] s each = subst Stands (sym (append-nil xs)) s
  all_stand xs (c ∷ cs) s each =
      let is = each c (0, refl) in
      subst Stands (append_assoc xs (c ∷ []) cs) (all_stand (xs ++ c ∷ []) cs (pushed xs c s is.of (ap is_hinting is.says)) (λ x has. each x (has_later c cs x has)))

  module _ (h : List Entry) (all : HasAllOf p back h) where
    before_it : HasAllOf p note h
    before_it = all_of p note back h d.keeps all

    early : (e : Entry) → note.seen ≤ e.position → AreBelow (known_to p note) e.position
    early e late x has = let b = read_below (p).platform note.known note.seen below x has in omega arith

    returns : (xs : List Entry) (e : Entry) → note.seen ≤ e.position → e.txn ≡ txn → ((y : Entry) → Has xs y → y.txn ≡ txn) → EarlierReturned h (mine ++ xs) e
    returns xs e late is of y has invalidates earlier = ⊎_elim
        (λ (before : Has mine y). points.returned h e.position before_it (early e late) y before invalidates)
        (λ (new : Has xs y). absurd (not_earlier y e (of y new ∙ sym is) earlier))
        (has_either mine xs y has)

    settled_first : (o : Option Entry) → MatchOption o (Unit {0}) (λ a. IsTrue (asks p a) → KnowsAllGiven p (known_to p note) note.seen a.object) → IsAskSettled p h told.position told.what o
    settled_first None nothing = tt
    settled_first (Some a) nothing = λ ask. inr (given_on p (known_to p note) h note.seen told.position a.object before_it.within (early told (d.late told (0, refl))) (nothing ask))

    tells_told : TellsNext p h (mine ++ []) told
    tells_told = record {
      asked = subst (λ (w : What). IsAskedFor p (mine ++ []) told w) (sym told_what) tt;
      answered = subst (λ (l : List Entry). IsAskSettled p h told.position told.what (last_of told.txn.initiator l)) (sym (append-nil mine))
          (subst (λ (t : TxnId). IsAskSettled p h told.position told.what (last_of t.initiator mine)) (sym told_txn) (settled_first (last_of txn.initiator mine) points.settled));
      uses = of_it [] told (λ i r. IsOwnUse told.what p (mine ++ []) i r) told_txn (λ i r. subst (λ (w : What). IsOwnUse w p (mine ++ []) i r) (sym told_what) tt);
      ways = of_it [] told (λ i r. HasOwnWay told.what p h told.position (mine ++ []) i r) told_txn (λ i r. subst (λ (w : What). HasOwnWay w p h told.position (mine ++ []) i r) (sym told_what) tt);
      closings = subst (λ (w : What). IsOwnClosing h (mine ++ []) told w) (sym told_what) tt;
      returns = returns [] told (d.late told (0, refl)) told_txn (λ y has. absurd (has_none y has));
    }

    settled_later : (o : Option Entry) (limit : ℕ) (w : What) → ((a : Entry) → o ≡ Some a → IsTrue (asks p a) → ⊥) → IsAskSettled p h limit w o
    settled_later None limit w quiet = tt
    settled_later (Some a) limit w quiet = λ ask. absurd (quiet a refl ask)

    tells_closing : (xs : List Entry) (c : Entry) → Stands xs → Has closings c → TellsNext p h (mine ++ xs) c
    tells_closing xs c s has =
        let is = d.each c has in
        let late = d.late c (has_later told closings c has) in
        record {
          asked = subst (λ (w : What). IsAskedFor p (mine ++ xs) c w) (sym is.says) tt;
          answered = subst (λ (t : TxnId). IsAskSettled p h c.position c.what (last_of t.initiator (mine ++ xs))) (sym is.of) (settled_later (last_of txn.initiator (mine ++ xs)) c.position c.what s.quiet);
          uses = of_it xs c (λ i r. IsOwnUse c.what p (mine ++ xs) i r) is.of (λ i r. subst (λ (w : What). IsOwnUse w p (mine ++ xs) i r) (sym is.says) tt);
          ways = of_it xs c (λ i r. HasOwnWay c.what p h c.position (mine ++ xs) i r) is.of (λ i r. subst (λ (w : What). HasOwnWay w p h c.position (mine ++ xs) i r) (sym is.says) tt);
          closings = subst (λ (w : What). IsOwnClosing h (mine ++ xs) c w) (sym is.says)
              (told, s.has_told, subst (λ (t : TxnId). IsTrue (is_txn told.txn.initiator told.txn.seq t)) (told_txn ∙ sym is.of) (own_txn told.txn.initiator told.txn.seq), d.rising.0 c has, d.cuts h all c is.gate has is.says);
          returns = returns xs c late is.of s.of;
        }

    grown : (xs cs : List Entry) → Stands xs → Within cs closings → KeepsOwnGrants p h (mine ++ xs) → KeepsOwnGrants p h (mine ++ (xs ++ cs))
    grown xs [] s within k = subst (λ (l : List Entry). KeepsOwnGrants p h (mine ++ l)) (sym (append-nil xs)) k
    grown xs (c ∷ cs) s within k =
        let has : Has closings c = within c (0, refl) in
        let is = d.each c has in
        let next : KeepsOwnGrants p h (mine ++ (xs ++ c ∷ [])) = subst (KeepsOwnGrants p h) (append_assoc mine xs (c ∷ [])) (own_grants_grow p h (mine ++ xs) c k (tells_closing xs c s has)) in
        subst (λ (l : List Entry). KeepsOwnGrants p h (mine ++ l)) (append_assoc xs (c ∷ []) cs)
        (grown (xs ++ c ∷ []) cs (pushed xs c s is.of (ap is_hinting is.says)) (λ x in_rest. within x (has_later c cs x in_rest)) next)

    own_of_all : KeepsOwnGrants p h (mine ++ told ∷ closings)
    own_of_all =
        let first_one : KeepsOwnGrants p h (mine ++ told ∷ []) =
        own_grants_grow p h mine told (points.own h before_it) (subst (λ (l : List Entry). TellsNext p h l told) (append-nil mine) tells_told) in
        grown (told ∷ []) closings begun (λ x has. has) first_one

  returned_of_all : (h : List Entry) (limit : ℕ) → HasAllOf p back h → AreBelow (known_to p back) limit → (y : Entry) → Has (mine ++ told ∷ closings) y → IsTrue (is_invalidation y.what) → HasReturned h limit y
  returned_of_all h limit all under y has invalidates = ⊎_elim
      (λ (before : Has mine y). points.returned h limit (before_it h all) (λ e in_known. under e (read_keeps e in_known)) y before invalidates)
      (λ (new : Has (told ∷ closings) y). ⊎_elim
      (λ (itself : Has (told ∷ []) y). subst (HasReturned h limit) (has_one told y itself) (d.returned h limit all under))
      (λ (closing : Has closings y). let is = d.each y closing in let wrong : false ≡ true = ap is_invalidation (sym is.says) ∙ invalidates in absurd (cc (wrong)))
      (has_either (told ∷ []) closings y new))
      (has_either mine (told ∷ closings) y has)
    where
      read_keeps : Within (known_to p note) (known_to p back)
      read_keeps = read_more (p).platform note.known back.known d.keeps

  settled_of_all : MatchOption (last_of txn.initiator (mine ++ told ∷ closings)) (Unit {0}) (λ a. IsTrue (asks p a) → KnowsAllGiven p (known_to p back) back.seen a.object)
  settled_of_all = by (last_of txn.initiator (mine ++ told ∷ closings)) (all_stand (told ∷ []) closings begun d.each).quiet
    where
      by : (o : Option Entry) → ((a : Entry) → o ≡ Some a → IsTrue (asks p a) → ⊥) → MatchOption o (Unit {0}) (λ a. IsTrue (asks p a) → KnowsAllGiven p (known_to p back) back.seen a.object)
      by None quiet = tt
      by (Some a) quiet = λ ask. absurd (quiet a refl ask)

  pub points_of_all : KeepsOwnPoints p back txn.initiator (mine ++ told ∷ closings)
  points_of_all = record { own = own_of_all; returned = returned_of_all; settled = settled_of_all }

pub invalidation_keeps_points : InvalidationKeepsPoints
invalidation_keeps_points frame m txn time first last note back before after told closings mine d below request points = points_of_all frame m txn time first last note back before after told closings mine d below request points
