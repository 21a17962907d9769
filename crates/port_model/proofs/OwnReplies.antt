-- What answers the requests of a four-phase initiator in the whole history is what it knows.
use Rattle.std.proofs.Common.{◌≡◌, ℕ, ◌<◌, true, IsTrue, MatchOption, List, length, map, Option, Some, None, refl, sym, ap, ◌∙◌, subst, inl, inr, ◌⊎◌, arith, get_or}
use Rattle.std.specs.Prelude.{slice_get}
use Rattle.std.specs.List.{filter}
use Rattle.std.proofs.lemmas.Option.{slice_get_within}
use Rattle.view_lists.specs.Lists.{Has}
use Rattle.tlm_types.specs.declared.words.ObjectNo.{ObjectNo}
use Rattle.tlm_types.specs.declared.words.ObjectNo.TheVariants.{Memory, Hop, Pool}
use Rattle.tlm_types.specs.declared.words.TxnId.{TxnId}
use Rattle.tlm_types.specs.declared.entry.Entry.{Entry}
use Rattle.tlm_types.specs.declared.entry.What.{What}
use Rattle.tlm_types.specs.declared.entry.What.TheVariants.{Access as Accessed, Granted, Invalidated, Closed, Call, Take, Acquire, Release}
use Rattle.tlm_model.specs.declared.platform.Platform.{Platform}
use Rattle.tlm_model.specs.declared.platform.Style.TheVariants.{FourPhase}
use Rattle.tlm_model.specs.Plan.{Plan, Initiator, initiators_of}
use Rattle.tlm_model.specs.Requests.{Request, answered, buffer_by, buffer_of, got_in, is_txn, requests_of, has_no_route, refused_of}
use Rattle.tlm_model.specs.Route.{Route, hops_of, route_of}
use Rattle.tlm_model.specs.Scripts.{is_answer}
use Rattle.tlm_model.proofs.RequestLemmas.{same_requests}
use Rattle.flow_model.specs.World.{Passage, hop_count}
use Rattle.flow_model.specs.Ends.{end_by}
use Rattle.flow_model.specs.Events.{Among, Event, at, entries}
use Rattle.flow_model.specs.Issue.{ends_of, issues_from}
use Rattle.flow_model.specs.Platform.{passage_of, world_of}
use Rattle.flow_model.specs.Pools.{PoolStepBy, slots_after}
use Rattle.flow_model.specs.Slots.{no_slots}
use Rattle.flow_model.specs.Traffic.{slots_of}
use Rattle.flow_model.proofs.Each.{at_each}
use Rattle.flow_model.proofs.Sayings.{same_txn}
use Rattle.flow_model.proofs.Splits.{among_at, among_split}
use Rattle.report_model.specs.Ends.{end_with, refused_at}
use Rattle.report_model.proofs.Ending.{ends_by_accesses}
use Rattle.joined_traffic.specs.Accesses.{txn_of}
use Rattle.joined_traffic.specs.Ended.{HaveEnded}
use Rattle.joined_traffic.specs.Driven.{HasDriven}
use Rattle.joined_traffic.specs.Issued.{IsMadeFor}
use Rattle.joined_traffic.proofs.AccessLemmas.{entry_among}
use Rattle.joined_traffic.proofs.AskedLemmas.{got_answers}
use Rattle.joined_traffic.proofs.BeginningLemmas.{end_there}
use Rattle.joined_traffic.proofs.HopEnds.{InLog, entry_fits, entry_from}
use Rattle.joined_traffic.proofs.MemoryLemmas.{among_has, has_among, known_there}
use Rattle.joined_traffic.proofs.PremiseLemmas.{ended_has_premises}
use Rattle.joined_traffic.proofs.StartLemmas.{IsKind, hop_kind, pool_kind}
use Rattle.joined_traffic.proofs.ToldLemmas.{answered_by, only_any, requests_kept}
use Rattle.port_model.specs.Ends.{EndsAreTheirs, HasIssuedSo, RepliesAreOwn}
use Rattle.port_model.proofs.Origins.{has_address}

hop_none : (o : ℕ) (v : What) (got : List ℕ) → IsKind (Hop o) v → got_in v ≡ Some got → ⊥
hop_none o (Accessed way access status g) got k e = absurd k
hop_none o (Granted g f l n) got k e = absurd k
hop_none o (Invalidated f l) got k e = absurd k
hop_none o (Closed g) got k e = absurd k
hop_none o (Call p a) got k e = cc
hop_none o (Take s) got k e = absurd k
hop_none o (Acquire s) got k e = absurd k
hop_none o (Release s f) got k e = absurd k

pool_none : (o : ℕ) (v : What) (got : List ℕ) → IsKind (Pool o) v → got_in v ≡ Some got → ⊥
pool_none o (Accessed way access status g) got k e = absurd k
pool_none o (Granted g f l n) got k e = absurd k
pool_none o (Invalidated f l) got k e = absurd k
pool_none o (Closed g) got k e = absurd k
pool_none o (Call p a) got k e = absurd k
pool_none o (Take s) got k e = cc
pool_none o (Acquire s) got k e = cc
pool_none o (Release s f) got k e = cc

-- what two histories ask for that answer the same
module _ (p : Platform) (i : Initiator) (h m : List Entry) (same : (s : ℕ) → answered i.number s h ≡ answered i.number s m) where
  buffer_same : (s a n : ℕ) → buffer_of p i h s a n ≡ buffer_of p i m s a n
  buffer_same s a n = go (route_of p i a)
    where
      go : (r : Option Route) → buffer_by r n i.number s h ≡ buffer_by r n i.number s m
      go None = refl
      go (Some r) = same s

  requests_same : requests_of p i h ≡ requests_of p i m
  requests_same = same_requests p i h m buffer_same 0 0 0 i.script

module _ (p : Plan) (h : List Event) (issued : TxnId → ℕ) (calls : TxnId → ℕ → ℕ) (mine : ℕ → List Entry) (left : ℕ → ObjectNo → ℕ)
    (ended : HaveEnded p h issued calls mine left) where
  -- an access stands at a memory
  access_place : (e : Event) → Among h e → (got : List ℕ) → got_in e.what ≡ Some got → (m : ℕ) × (e.object ≡ Memory m)
  access_place e m got g = go e.object refl
    where
      go : (o : ObjectNo) → e.object ≡ o → (m : ℕ) × (e.object ≡ Memory m)
      go (Hop o) q = absurd (hop_none o e.what got (hop_kind ((world_of p).hop o).rules (InLog (world_of p) o h (ended.objects.hops o)) o e.txn e.what (entry_fits (world_of p) o h (ended.objects.hops o) e m q)) g)
      go (Pool n) q =
          let l = among_at (Pool n) h e m q in
          let s = among_split (at (Pool n) h) e l in
          absurd (pool_none n e.what got (pool_kind (slots_of p n) n (slots_after no_slots s.before) e.txn e.number e.what (at_each (λ before f. PoolStepBy (slots_of p n) (slots_after no_slots before) f.txn f.number f.what) (at (Pool n) h) (ended.objects.pools n).log s.before e s.after s.is)) g)
      go (Memory k) q = (k, q)

  module _ (i : Initiator) (is : slice_get (initiators_of p) i.number ≡ Some i) (style : i.row.style ≡ FourPhase) where
    below : i.number < length (initiators_of p)
    below = slice_get_within (initiators_of p) i.number i is

    drives : HasDriven p h issued calls i.number (mine i.number)
    drives =
        let f = ended.initiators i.number below in
        elim f.by_style [
          | inl d ↦ d.1
          | inr r ↦ absurd (r.0 (ap (λ (j : Initiator). j.row.style) (same f.initiator i (sym f.at ∙ is)) ∙ style))
        ]
      where
        same : (a b : Initiator) → Some a ≡ Some b → a ≡ b
        same a b q = cc

    answer_mine : (f : Entry) → Among (entries h) f → f.txn.initiator ≡ i.number → (got : List ℕ) → got_in f.what ≡ Some got → Has (mine i.number) f
    answer_mine f m own got g =
        let e = entry_from h f m in
        let place = access_place e.event e.known got (ap (λ (d : Entry). got_in d.what) e.is ∙ g) in
        let k = known_there p h issued calls mine left ended place.0 f (among_has (entries h) f m) (sym (ap (λ (d : Entry). d.object) e.is) ∙ place.1) in
        subst (λ (n : ℕ). Has (mine n) f) own k.1

    only_in : (l : List Entry) → ((f : Entry) → Among l f → Among (entries h) f) → (s : ℕ) (e : Entry) → Has (mine i.number) e → e.txn ≡ txn_of i.number s → IsTrue (is_answer e.what) → (f : Entry) → Among l f → is_txn i.number s f.txn ≡ true → (got_in f.what ≡ None) ⊎ (f ≡ e)
    only_in l within s e has txn answers f m t = go (got_in f.what) refl
      where
        go : (x : Option (List ℕ)) → got_in f.what ≡ x → (got_in f.what ≡ None) ⊎ (f ≡ e)
        go None q = inl q
        go (Some got) q =
            let same : f.txn ≡ txn_of i.number s = same_txn (txn_of i.number s) f.txn t in
            inr (drives.once f e (answer_mine f (within f m) (ap (λ (x : TxnId). x.initiator) same) got q) has (same ∙ sym txn) (got_answers f.what got q) answers)

    mine_within : (f : Entry) → Among (mine i.number) f → Among (entries h) f
    mine_within f m = has_among (entries h) f ((ended.initiators i.number below).paid.within f (among_has (mine i.number) f m))

    -- what some entries of the history answer, others that have this answer do too
    told_by_others : (l k : List Entry) → ((f : Entry) → Among l f → Among (entries h) f) → ((f : Entry) → Among k f → Among (entries h) f) → ((f : Entry) → Has (mine i.number) f → Among k f)
        → (s : ℕ) (got : List ℕ) → answered i.number s l ≡ Some got → answered i.number s k ≡ Some got
    told_by_others l k first second all s got e =
        let a = answered_by i.number s l got e in
        let same : a.entry.txn ≡ txn_of i.number s = same_txn (txn_of i.number s) a.entry.txn a.txn in
        let m = answer_mine a.entry (first a.entry a.among) (ap (λ (x : TxnId). x.initiator) same) got a.got_is in
        only_any i.number s a.entry k (only_in k second s a.entry m same (got_answers a.entry.what got a.got_is)) a.txn (all a.entry m) ∙ a.got_is

    in_mine : (f : Entry) → Has (mine i.number) f → Among (mine i.number) f
    in_mine f m = has_among (mine i.number) f m

    answered_same : (s : ℕ) → answered i.number s (entries h) ≡ answered i.number s (mine i.number)
    answered_same s = go (answered i.number s (entries h)) (answered i.number s (mine i.number)) refl refl
      where
        go : (a b : Option (List ℕ)) → answered i.number s (entries h) ≡ a → answered i.number s (mine i.number) ≡ b → answered i.number s (entries h) ≡ answered i.number s (mine i.number)
        go (Some got) b q r = q ∙ sym (told_by_others (entries h) (mine i.number) (λ f m. m) mine_within in_mine s got q)
        go None (Some got) q r = told_by_others (mine i.number) (entries h) mine_within (λ f m. m) (λ f m. mine_within f (in_mine f m)) s got r ∙ sym r
        go None None q r = q ∙ sym r

    served_own : (ends : TxnId → ℕ) → HasIssuedSo p h issued ends i (mine i.number) → (e : Entry) → Has (mine i.number) e → MatchOption (slice_get (requests_of p.platform i (mine i.number)) e.txn.seq) ⊥ (λ r. IsMadeFor p i e r)
    served_own ends so e m =
        let r = so.replies e m in
        let within : (f : Entry) → Among r.replies f → Among (entries h) f = λ f k. (let g = r.stand f k in subst (Among (entries h)) g.is (entry_among h g.event g.known)) in
        let q : slice_get (requests_of p.platform i (mine i.number)) e.txn.seq ≡ Some r.request =
        requests_kept p.platform i r.replies (mine i.number) (λ s got a. told_by_others r.replies (mine i.number) within mine_within in_mine s got a) e.txn.seq r.request r.asked in
        subst (λ (o : Option Request). MatchOption o ⊥ (λ d. IsMadeFor p i e d)) (sym q) r.is

pub replies_are_own : RepliesAreOwn
replies_are_own p h issued ends calls mine left ended i is style so = record {
  ended = so.ended;
  served = served_own p h issued calls mine left ended i is style ends so;
  accesses = so.accesses;
  times = so.times;
  reads = so.reads;
}

some_hops : (p : Platform) (i : Initiator) (a : ℕ) → 0 < length (hops_of p i a)
some_hops p i a = omega arith

pub ends_are_theirs : EndsAreTheirs
ends_are_theirs p h issued ends calls mine left free ended no_ends i is style knows end e = (ends_by_accesses p i (entries h) end style).1 (record {
  transactions = e.transactions;
  syncs = e.syncs;
  time = e.time ∙ ap (λ (f : ℕ → ℕ). end_with f i) same_ends;
  refused = e.refused ∙ (
      ap (λ (f : ℕ → ℕ). map (λ (r : Request). refused_at r (get_or (issues_from f 0 0 i.script) r.seq 0)) (refused_of p.platform i (mine i.number))) same_ends
      ∙ ap (λ (l : List Request). map (λ (r : Request). refused_at r (get_or (issues_from (ends_of p (entries h) i.number) 0 0 i.script) r.seq 0)) (filter (λ (r : Request). has_no_route p.platform i r r.asked) l))
      (sym (requests_same p.platform i (entries h) (mine i.number) (answered_same p h issued calls mine left ended i is style))));
})
  where
    end_is : (s : ℕ) → ends (txn_of i.number s) ≡ ends_of p (entries h) i.number s
    end_is s = go (passage_of p (txn_of i.number s)) refl
      where
        go : (o : Option Passage) → passage_of p (txn_of i.number s) ≡ o → ends (txn_of i.number s) ≡ ends_of p (entries h) i.number s
        go None q = no_ends (txn_of i.number s) q ∙ sym (ap (end_by (world_of p) (txn_of i.number s) (entries h)) q)
        go (Some pass) q =
            let a = has_address p i is s pass q in
            let some : 0 < hop_count pass = subst (λ (d : Passage). 0 < hop_count d) (sym a.way) (some_hops p.platform i a.address) in
            end_there (world_of p) (slots_of p) (λ before x. issued x) h (ended_has_premises p h issued calls mine left free ended) (txn_of i.number s) pass some (ends (txn_of i.number s)) (knows (txn_of i.number s) pass q refl)
            ∙ sym (ap (end_by (world_of p) (txn_of i.number s) (entries h)) q)

    same_ends : (λ s. ends (txn_of i.number s)) ≡ ends_of p (entries h) i.number
    same_ends = λ j s. end_is s j
