-- From initiators that have finished to the points of grants.
use Rattle.std.proofs.Common.{◌≡◌, ◌⊎◌, ℕ, ◌<◌, ◌≤◌, true, List, [], ◌∷◌, ◌++◌, length, Some, slice_get, ◌+◌, refl, ap, sym, subst, inl, inr, arith}
use Rattle.std.proofs.lemmas.Bool.{cases_lt}
use mathlib.Core.Option.{some}
use Rattle.view_lists.specs.Lists.{Has}
use Rattle.view_lists.proofs.Members.{has_later, has_mapped}
use Rattle.port_model.specs.Closings.{HasAllOf}
use Rattle.tlm_types.specs.declared.ends.EndOf.{EndOf}
use Rattle.tlm_types.specs.declared.entry.Entry.{Entry}
use Rattle.tlm_types.specs.declared.entry.What.{What}
use Rattle.tlm_types.specs.declared.entry.What.TheVariants.{Granted, Closed}
use Rattle.tlm_types.specs.declared.words.ObjectNo.{ObjectNo}
use Rattle.tlm_types.specs.declared.words.ObjectNo.TheVariants.{Memory}
use Rattle.tlm_model.specs.declared.platform.Style.TheVariants.{FourPhase}
use Rattle.tlm_model.specs.History.{entries_at, is_object}
use Rattle.tlm_model.specs.Kept.{KeepsRequests}
use Rattle.tlm_model.specs.Plan.{Plan, Initiator, initiators_of}
use Rattle.tlm_model.specs.Scripts.{IsPlaced}
use Rattle.flow_model.specs.Events.{Among, Event, entries}
use Rattle.flow_model.specs.Valid.{HasNoCycle}
use Rattle.tlm_model.proofs.InitiatorLemmas.{initiator_from}
use Rattle.good_history.specs.Kept.{EndsGrants, GivesGatesInOrder, IsGateInOrder, KeepsGrants}
use Rattle.joined_traffic.specs.Parts.{EndsOwnGrants, HasGrantParts, KeepsGateLog, KeepsOwnGrants}
use Rattle.joined_traffic.proofs.Ends.{parts_end_grants}
use Rattle.joined_traffic.proofs.Gates.{each_has, gates_up, object_itself}
use Rattle.joined_traffic.proofs.Lists.{at_each, at_part, parted}
use Rattle.joined_traffic.proofs.Wholes.{parts_keep_grants}
use Rattle.good_history.specs.Joined.{IsJoined}
use Rattle.good_history.specs.Own.{own}
use Rattle.joined_traffic.specs.Ended.{HaveLeft}
use Rattle.joined_traffic.proofs.FinalLemmas.{ended_has_requests}
use Rattle.joined_traffic.proofs.JoinLemmas.{joined}
use Rattle.joined_traffic.proofs.PremiseLemmas.{ended_has_premises}
use Rattle.net_end.specs.Finished.{HasEndedWhole, IsDone, IsPortDone, IsRunDone}
use Rattle.net_end.proofs.Finishing.{initiators_end, own_is, ports_tell_grants}
use Rattle.joined_traffic.specs.Places.{AreInPlace}
use Rattle.net_end.specs.Done.{HasRunGrants, IsDoneWithGrants}
use Rattle.net_end.specs.GrantLaws.{ClosesLast, DoneHasGrants}

-- gates that are in order at their memories are so in the history
module _ (p : Plan) (h : List Entry) (k : KeepsRequests p h) (logs : (m : ℕ) → KeepsGateLog p (entries_at (Memory m) h)) where
  placed : (x : Entry) → Has h x → IsPlaced p.platform x.txn.initiator x.object x.what
  placed x has = each_has (λ (x : Entry). IsPlaced p.platform x.txn.initiator x.object x.what) [] h k.scripts.places x has

  no_gates : (before : List Entry) (i : ℕ) (o : ObjectNo) (w : What) → ((m : ℕ) → o ≡ Memory m → IsGateInOrder before (Memory m) w) → IsPlaced p.platform i o w → IsGateInOrder before o w
  no_gates before i (Memory m) w at there = at m refl
  no_gates before i o (Granted gate f l d) at there = absurd there
  no_gates before i o (Closed gate) at there = absurd there
  no_gates before i o w at there = tt

  gates_here : (before : List Entry) (e : Entry) (rest : List Entry) → h ≡ before ++ e ∷ rest → IsGateInOrder before e.object e.what
  gates_here before e rest is =
      let part = parted h before e rest k.numbered is in
      no_gates before e.txn.initiator e.object e.what
      (λ m at. gates_up p.platform before (λ x has. placed x (part.up x has)) e.txn.initiator (Memory m) e.what
      (subst (λ (o : ObjectNo). IsPlaced p.platform e.txn.initiator o e.what) at (placed e part.here))
      (subst (λ (o : ObjectNo). IsGateInOrder (entries_at (Memory m) before) o e.what) at
      (at_part (λ b e. IsGateInOrder b e.object e.what) (λ (x : Entry). is_object (Memory m) x.object) h before e rest is (subst (λ (o : ObjectNo). is_object (Memory m) o ≡ true) (sym at) (object_itself (Memory m))) (logs m).gates)))
      (placed e part.here)

  gates_in_order : GivesGatesInOrder h
  gates_in_order = at_each (λ before e. IsGateInOrder before e.object e.what) h gates_here

-- an event among those of a list stands in it, and its entry among the entries
has_event : (h : List Event) (e : Event) → Among h e → Has h e
has_event [] e among = absurd among
has_event (x ∷ h) e (inl same) = (0, ap some same)
has_event (x ∷ h) e (inr among) = has_later x h e (has_event h e among)

has_entry : (h : List Event) (e : Event) → Among h e → Has (entries h) e.entry
has_entry h e among = has_mapped (λ (x : Event). x.entry) h e (has_event h e among)

-- one that has finished has, without its grants
abbrev style_alone : (p : Plan) (i : Initiator) (h : List Event) (left : ObjectNo → ℕ) (end : EndOf) → ((i.row.style ≡ FourPhase) × IsPortDone p i h left end) ⊎ ((i.row.style ≡ FourPhase → ⊥) × HasRunGrants p i h left end) → ((i.row.style ≡ FourPhase) × IsPortDone p i h left end) ⊎ ((i.row.style ≡ FourPhase → ⊥) × IsRunDone p i h left end)
style_alone p i h left end (inl port) = inl port
style_alone p i h left end (inr run) = inr (run.0, run.1.run)

abbrev pub without_grants : (p : Plan) (h : List Event) (k : ℕ) (left : ObjectNo → ℕ) (end : EndOf) → IsDoneWithGrants p h k left end → IsDone p h k left end
without_grants p h k left end done = record { initiator = done.initiator; at = done.at; by_style = style_alone p done.initiator h left end done.by_style }

module _ (p : Plan) (h : List Event) (left : ℕ → ObjectNo → ℕ) (end : ℕ → EndOf) (acyclic : HasNoCycle p.platform) (objects : HaveLeft p h left) (finished : (k : ℕ) → k < length (initiators_of p) → IsDoneWithGrants p h k (left k) (end k))
    (logs : (m : ℕ) → KeepsGateLog p (entries_at (Memory m) (entries h))) (places : AreInPlace h) (last : ClosesLast (entries h)) where
  abbrev n : ℕ
  n = length (initiators_of p)

  abbrev run_of_style : (k : ℕ) (i : Initiator) → ((i.row.style ≡ FourPhase) × IsPortDone p i h (left k) (end k)) ⊎ ((i.row.style ≡ FourPhase → ⊥) × HasRunGrants p i h (left k) (end k)) → ((i.row.style ≡ FourPhase) × IsPortDone p i h (left k) (end k)) ⊎ ((i.row.style ≡ FourPhase → ⊥) × IsRunDone p i h (left k) (end k))
  run_of_style k i = style_alone p i h (left k) (end k)

  abbrev done : (k : ℕ) → k < n → IsDone p h k (left k) (end k)
  done k b = without_grants p h k (left k) (end k) (finished k b)

  whole : HasEndedWhole p h left end
  whole = initiators_end p h left end acyclic objects done

  kept : KeepsRequests p (entries h)
  kept = (ended_has_requests p h whole.issued whole.ends whole.calls whole.mine left acyclic whole.ended whole.was_issued).kept

  join : IsJoined p (entries h)
  join = joined p h whole.issued whole.ends whole.calls whole.mine left whole.ended whole.was_issued (ended_has_premises p h whole.issued whole.calls whole.mine left acyclic whole.ended)

  gates : GivesGatesInOrder (entries h)
  gates = gates_in_order p (entries h) kept logs

  record Part (k : ℕ) : Type 0 where
    keeps : KeepsOwnGrants p (entries h) (own k (entries h))
    ends : EndsOwnGrants p (entries h) k (own k (entries h))

  number_is : (k : ℕ) (i : Initiator) → slice_get (initiators_of p) k ≡ Some i → i.number ≡ k
  number_is k i at = let r : i.number ≡ 0 + k = (initiator_from 0 p.platform.initiators p.scripts k i at).0 in omega arith

  -- the history has all of its events
  has_all : HasAllOf h (entries h)
  has_all = record { within = λ e among. has_entry h e among; numbered = join.numbered; gates = gates; places = λ m e among object. places m e (has_event h e among) object }

  -- a four-phase one
  ported : (k : ℕ) (i : Initiator) → slice_get (initiators_of p) k ≡ Some i → i.row.style ≡ FourPhase → Part k
  ported k i at four = let told = ports_tell_grants p h left end acyclic objects done has_all k i at four in record { keeps = told.0; ends = told.1 }

  -- another one
  used : (k : ℕ) (b : k < n) → cases_lt k n ≡ inl b → (other : (finished k b).initiator.row.style ≡ FourPhase → ⊥) (g : HasRunGrants p (finished k b).initiator h (left k) (end k)) → (finished k b).by_style ≡ inr (other, g) → Part k
  used k b q other g is =
      let d = finished k b in
      let same : d.initiator.number ≡ k = number_is k d.initiator d.at in
      let part = g.grants join.numbered gates places in
      let own_mine : own k (entries h) ≡ g.run.mine = by_run in
      record {
        keeps = subst (KeepsOwnGrants p (entries h)) (sym own_mine) part.keeps;
        ends = subst (λ (j : ℕ). EndsOwnGrants p (entries h) j (own k (entries h))) same (subst (EndsOwnGrants p (entries h) d.initiator.number) (sym own_mine) part.ends);
      }
    where
      by_run : own k (entries h) ≡ g.run.mine
      by_run = own_is p h left end acyclic objects done k b q other g.run (ap (run_of_style k (finished k b).initiator) is)

  part_at : (k : ℕ) (c : (k < n) ⊎ (n ≤ k)) → cases_lt k n ≡ c → k < n → Part k
  part_at k (inr past) q less = absurd (omega arith)
  part_at k (inl b) q less = by (finished k b).by_style refl
    where
      by : (s : (((finished k b).initiator.row.style ≡ FourPhase) × IsPortDone p (finished k b).initiator h (left k) (end k)) ⊎ (((finished k b).initiator.row.style ≡ FourPhase → ⊥) × HasRunGrants p (finished k b).initiator h (left k) (end k))) → (finished k b).by_style ≡ s → Part k
      by (inl port) is = ported k (finished k b).initiator (finished k b).at port.0
      by (inr run) is = used k b q run.0 run.1 is

  parts : HasGrantParts p (entries h)
  parts = record {
    initiators = λ k less. (part_at k (cases_lt k n) refl less).keeps;
    memories = logs;
    last = last;
  }

  pub grants_of_all : KeepsGrants p (entries h) × EndsGrants p (entries h)
  grants_of_all = (parts_keep_grants p (entries h) kept join.owners parts, parts_end_grants p (entries h) kept join.owners (λ k less. (part_at k (cases_lt k n) refl less).ends))

pub done_has_grants : DoneHasGrants
done_has_grants p h left end acyclic objects finished logs places last = grants_of_all p h left end acyclic objects finished logs places last
