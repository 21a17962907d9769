-- In a sound history a blocking or direct initiator is answered at memories alone.
use std.Path.{fun_ext}
use Rattle.std.proofs.Common.{◌≡◌, ℕ, Bool, true, false, ◌&&◌, ◌||◌, cond, List, [], ◌∷◌, ◌++◌, Option, Some, None, nat_eq, is_none, refl, sym, ap, subst, ◌∙◌}
use Rattle.std.specs.Prelude.{slice_get}
use Rattle.std.specs.List.{AllByRecursion, list_all}
use Rattle.std.proofs.lemmas.Bool.{eqb-true}
use Rattle.tlm_types.specs.declared.entry.Entry.{Entry}
use Rattle.tlm_types.specs.declared.entry.What.{What}
use Rattle.tlm_types.specs.declared.entry.What.TheVariants.{Access as Accessed, Granted, Invalidated, Closed, Call, Take, Acquire, Release}
use Rattle.tlm_types.specs.declared.words.ObjectNo.{ObjectNo}
use Rattle.tlm_types.specs.declared.words.ObjectNo.TheVariants.{Memory, Hop, Pool}
use Rattle.tlm_model.specs.declared.platform.Platform.{Platform}
use Rattle.tlm_model.specs.Each.{EachFrom}
use Rattle.tlm_model.specs.Plan.{Plan, Initiator, initiators_of}
use Rattle.tlm_model.specs.Requests.{Request, answered, buffer_by, buffer_of, first_of_two, got_in, is_txn, requests_of}
use Rattle.tlm_model.specs.Route.{Route, route_of}
use Rattle.tlm_model.specs.Rounds.{round_of}
use Rattle.tlm_model.specs.Scripts.{IsPlaced, has_answer, is_answer, is_settled}
use Rattle.tlm_model.proofs.RequestLemmas.{same_requests}
use Rattle.initiator_run.proofs.AnswerLemmas.{and_left}
use Rattle.run_outcome.proofs.PlanLemmas.{initiator_number}
use Rattle.plat_core.specs.NetRuns.{PartIsEnough, PartTells, decoupled_part}
use Rattle.plat_core.specs.Rounds.{is_decoupled, is_decoupled_entry, is_decoupled_one, is_memory, round_of_first}

-- what answers stands at a memory
elsewhere_mute : (p : Platform) (n : ℕ) (o : ObjectNo) (w : What) → IsPlaced p n o w → is_memory o ≡ false → is_answer w ≡ false
elsewhere_mute p n (Memory m) w placed other = cc
elsewhere_mute p n (Hop h) (Accessed way access status got) placed other = absurd placed
elsewhere_mute p n (Hop h) (Granted g f l k) placed other = refl
elsewhere_mute p n (Hop h) (Invalidated f l) placed other = absurd placed
elsewhere_mute p n (Hop h) (Closed g) placed other = refl
elsewhere_mute p n (Hop h) (Call c a) placed other = refl
elsewhere_mute p n (Hop h) (Take s) placed other = refl
elsewhere_mute p n (Hop h) (Acquire s) placed other = refl
elsewhere_mute p n (Hop h) (Release s f) placed other = refl
elsewhere_mute p n (Pool i) (Accessed way access status got) placed other = absurd placed
elsewhere_mute p n (Pool i) (Granted g f l k) placed other = refl
elsewhere_mute p n (Pool i) (Invalidated f l) placed other = absurd placed
elsewhere_mute p n (Pool i) (Closed g) placed other = refl
elsewhere_mute p n (Pool i) (Call c a) placed other = refl
elsewhere_mute p n (Pool i) (Take s) placed other = refl
elsewhere_mute p n (Pool i) (Acquire s) placed other = refl
elsewhere_mute p n (Pool i) (Release s f) placed other = refl

no_buffer : (b : Bool) (w : What) → b && is_answer w ≡ false → cond b (got_in w) None ≡ None
no_buffer false w mute = refl
no_buffer true (Accessed way access status got) mute = cc
no_buffer true (Granted g f l k) mute = refl
no_buffer true (Invalidated f l) mute = refl
no_buffer true (Closed g) mute = refl
no_buffer true (Call c a) mute = refl
no_buffer true (Take s) mute = refl
no_buffer true (Acquire s) mute = refl
no_buffer true (Release s f) mute = refl

all_placed : (p : Plan) (before h : List Entry) → EachFrom (λ before e. IsPlaced p.platform e.txn.initiator e.object e.what) before h → AllByRecursion (λ (e : Entry). IsPlaced p.platform e.txn.initiator e.object e.what) h
all_placed p before [] each = tt
all_placed p before (e ∷ h) each = (each.0, all_placed p (before ++ e ∷ []) h each.1)

module _ (p : Plan) (n : ℕ) (i : Initiator) (at : slice_get (initiators_of p) n ≡ Some i) (style : is_decoupled i.row.style ≡ true) where
  -- an entry that isn't in the part answers none of its requests
  mute : (s : ℕ) (e : Entry) → IsPlaced p.platform e.txn.initiator e.object e.what → is_decoupled_entry p e ≡ false → is_txn n s e.txn && is_answer e.what ≡ false
  mute s e placed other = by (is_txn n s e.txn) refl
    where
      by : (b : Bool) → is_txn n s e.txn ≡ b → b && is_answer e.what ≡ false
      by false is = refl
      by true is =
          let own : e.txn.initiator ≡ n = eqb-true e.txn.initiator n (and_left (nat_eq e.txn.initiator n) (nat_eq e.txn.seq s) is) in
          let decoupled : is_decoupled_one (slice_get (initiators_of p) e.txn.initiator) ≡ true = ap (λ (k : ℕ). is_decoupled_one (slice_get (initiators_of p) k)) own ∙ (ap is_decoupled_one at ∙ style) in
          elsewhere_mute p.platform e.txn.initiator e.object e.what placed (first (is_memory e.object) (sym (ap (λ (b : Bool). is_memory e.object && b) decoupled) ∙ other))
        where
          first : (b : Bool) → b && true ≡ false → b ≡ false
          first true is = is
          first false is = refl

  abbrev Placed : List Entry → Type 0
  Placed h = AllByRecursion (λ (e : Entry). IsPlaced p.platform e.txn.initiator e.object e.what) h

  same_answers : (s : ℕ) (h : List Entry) → Placed h → has_answer n s (decoupled_part p h) ≡ has_answer n s h
  same_answers s [] placed = refl
  same_answers s (e ∷ h) placed = by (is_decoupled_entry p e) refl (same_answers s h placed.1)
    where
      by : (b : Bool) → is_decoupled_entry p e ≡ b → has_answer n s (decoupled_part p h) ≡ has_answer n s h → has_answer n s (cond b (e ∷ decoupled_part p h) (decoupled_part p h)) ≡ has_answer n s (e ∷ h)
      by true is rest = ap (λ (b : Bool). (is_txn n s e.txn && is_answer e.what) || b) rest
      by false is rest = rest ∙ sym (ap (λ (b : Bool). b || has_answer n s h) (mute s e placed.0 is))

  same_buffers : (s : ℕ) (h : List Entry) → Placed h → answered n s (decoupled_part p h) ≡ answered n s h
  same_buffers s [] placed = refl
  same_buffers s (e ∷ h) placed = by (is_decoupled_entry p e) refl (same_buffers s h placed.1)
    where
      by : (b : Bool) → is_decoupled_entry p e ≡ b → answered n s (decoupled_part p h) ≡ answered n s h → answered n s (cond b (e ∷ decoupled_part p h) (decoupled_part p h)) ≡ answered n s (e ∷ h)
      by true is rest = ap (first_of_two (cond (is_txn n s e.txn) (got_in e.what) None)) rest
      by false is rest = rest ∙ sym (ap (λ (o : Option (List ℕ)). first_of_two o (answered n s h)) (no_buffer (is_txn n s e.txn) e.what (mute s e placed.0 is)))

  module _ (number : i.number ≡ n) (h : List Entry) (placed : AllByRecursion (λ (e : Entry). IsPlaced p.platform e.txn.initiator e.object e.what) h) where
    buffers : (s a k : ℕ) → buffer_of p.platform i (decoupled_part p h) s a k ≡ buffer_of p.platform i h s a k
    buffers s a k = by (route_of p.platform i a)
      where
        by : (r : Option Route) → buffer_by r k i.number s (decoupled_part p h) ≡ buffer_by r k i.number s h
        by None = refl
        by (Some r) = subst (λ (j : ℕ). answered j s (decoupled_part p h) ≡ answered j s h) (sym number) (same_buffers s h placed)

    settled : (r : Request) → is_settled p.platform i (decoupled_part p h) r ≡ is_settled p.platform i h r
    settled r = ap (λ (b : Bool). is_none (route_of p.platform i r.address) || b) (subst (λ (j : ℕ). has_answer j r.seq (decoupled_part p h) ≡ has_answer j r.seq h) (sym number) (same_answers r.seq h placed))

    asked : requests_of p.platform i (decoupled_part p h) ≡ requests_of p.platform i h
    asked = same_requests p.platform i (decoupled_part p h) h buffers 0 0 0 i.script

    same_first : (qs : List Request) → round_of_first p.platform i (decoupled_part p h) qs ≡ round_of_first p.platform i h qs
    same_first [] = refl
    same_first (q ∷ qs) =
        ap (λ (b : Bool). cond b (round_of_first p.platform i (decoupled_part p h) qs) (round_of p.platform i q.seq)) (settled q)
        ∙ ap (λ (k : ℕ). cond (is_settled p.platform i h q) k (round_of p.platform i q.seq)) (same_first qs)

    tells : PartTells p h i
    tells = record {
      requests = asked;
      ended = ap (λ (rs : List Request). list_all (is_settled p.platform i (decoupled_part p h)) rs) asked ∙ ap (λ (test : Request → Bool). list_all test (requests_of p.platform i h)) (fun_ext settled);
      due = ap (round_of_first p.platform i (decoupled_part p h)) asked ∙ same_first (requests_of p.platform i h);
    }

pub part_is_enough : PartIsEnough
part_is_enough p h n i at style sound = tells p n i at style (initiator_number p n i at) h (all_placed p [] h sound.requests.scripts.places)
