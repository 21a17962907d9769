-- The first hop of an access is the one to which its initiator is bound, and no other hop of a way is a binding: so a response that is fetched there
-- is of that initiator, and is on its first hop.
use Rattle.std.proofs.Common.{◌≡◌, ℕ, zero, suc, ◌+◌, ◌<◌, List, length, get_or, Some, refl, sym, ap, ◌∙◌, subst, true, arith}
use Rattle.std.specs.Prelude.{slice_get}
use Rattle.std.proofs.lemmas.Option.{slice_get_within}
use Rattle.atomic_table.specs.Seated.{TableId}
use Rattle.tlm_types.specs.declared.words.ObjectNo.{ObjectNo}
use Rattle.tlm_types.specs.declared.words.ObjectNo.TheVariants.{Hop}
use Rattle.tlm_types.specs.declared.words.TxnId.{TxnId}
use Rattle.tlm_model.specs.declared.platform.Platform.{Platform}
use Rattle.tlm_model.specs.declared.platform.Style.TheVariants.{FourPhase}
use Rattle.tlm_model.specs.Plan.{Plan, Initiator, initiators_of}
use Rattle.tlm_model.specs.Route.{hops_of, walk}
use Rattle.flow_model.specs.World.{Passage, hop_at, hop_count}
use Rattle.flow_model.specs.Events.{Among, Event}
use Rattle.tlm_model.proofs.InitiatorLemmas.{initiator_from}
use Rattle.flow_model.proofs.Ways.{past_bindings, walk_way}
use Rattle.cargo_model.specs.Known.{has_pool, object_number, objects_of, row_has_pool}
use Rattle.cargo_model.specs.Travel.{IsAsked}
use Rattle.cargo_model.proofs.Origins.{only_object}
use Rattle.cargo_model.proofs.There.{there_law}
use Rattle.joined_traffic.specs.Accesses.{txn_of}
use Rattle.plat_net.specs.Net.{HasPool}
use Rattle.port_moves.specs.Reach.{first_hop}

-- a hop of a way that is a binding is its first one
own_hop : (p : Platform) (j : Initiator) (a k : ℕ) → k < length (hops_of p j a) → get_or (hops_of p j a) k 0 < length p.initiators → k ≡ 0
own_hop p j a zero l b = refl
own_hop p j a (suc k) l b =
    let past = past_bindings p k j.row.bind (walk 9 p j.row.bind a 0).hops (walk_way 9 p j.row.bind a 0) (omega (arith, l)) in
    absurd (omega (arith, past, b))

same_hop : (a b : ℕ) → ◌≡◌ {A = ObjectNo} (Hop a) (Hop b) → a ≡ b
same_hop a b e = cc

-- the first hop of an initiator's accesses
first_is : (p : Platform) (j : Initiator) (a : ℕ) → get_or (hops_of p j a) 0 0 ≡ j.number
first_is p j a = refl

module _ (p : Plan) (i : Initiator) (is : slice_get (initiators_of p) i.number ≡ Some i) (style : i.row.style ≡ FourPhase) where
  pub low : i.number < length p.platform.initiators
  low = slice_get_within p.platform.initiators i.number i.row (initiator_from 0 p.platform.initiators p.scripts i.number i is).1

  -- the hop that it is bound to is one of the history
  pub hop_there : Among (objects_of p.platform) (Hop i.number)
  hop_there = (there_law p (txn_of i.number 0) i 0 true is style).hops 0 (omega arith)

  -- and it has a pool
  pub has_its_pool : HasPool p.platform i.number
  has_its_pool = (low, ap row_has_pool (initiator_from 0 p.platform.initiators p.scripts i.number i is).1 ∙ ap has_pool style)

  -- an access that passes this hop as its k-th
  pub is_first : (tokens : TableId) (K : Event → Type 0) (x : TxnId) (pass : Passage) (asked : IsAsked p tokens K x pass) (k : ℕ) → k < hop_count pass → first_hop p i.number ≡ object_number p.platform (Hop (hop_at pass k))
      → (k ≡ 0) × (x.initiator ≡ i.number) × (hop_at pass k ≡ i.number)
  is_first tokens K x pass asked k below place =
      let here : hop_at pass k ≡ i.number = same_hop (hop_at pass k) i.number (only_object p.platform (Hop (hop_at pass k)) (Hop i.number) hop_there (sym place)) in
      let hops : pass.hops ≡ hops_of p.platform asked.initiator asked.request.address = ap (λ (g : Passage). g.hops) asked.way in
      let at : get_or (hops_of p.platform asked.initiator asked.request.address) k 0 ≡ i.number = subst (λ (l : List ℕ). get_or l k 0 ≡ i.number) hops here in
      let within : k < length (hops_of p.platform asked.initiator asked.request.address) = subst (λ (l : List ℕ). k < length l) hops below in
      let zeroth : k ≡ 0 = own_hop p.platform asked.initiator asked.request.address k within (subst (λ (n : ℕ). n < length p.platform.initiators) (sym at) low) in
      let bound : asked.initiator.number ≡ i.number = subst (λ (n : ℕ). get_or (hops_of p.platform asked.initiator asked.request.address) n 0 ≡ i.number) zeroth at in
      let number : asked.initiator.number ≡ 0 + x.initiator = (initiator_from 0 p.platform.initiators p.scripts x.initiator asked.initiator asked.is).0 in
      (zeroth, omega (arith, bound, number), here)

  -- the first hop of an access of this initiator
  pub first_of : (tokens : TableId) (K : Event → Type 0) (x : TxnId) (pass : Passage) (asked : IsAsked p tokens K x pass) → x.initiator ≡ i.number → hop_at pass 0 ≡ i.number
  first_of tokens K x pass asked own =
      let bound : hop_at pass 0 ≡ asked.initiator.number = ap (λ (g : Passage). get_or g.hops 0 0) asked.way in
      let number : asked.initiator.number ≡ 0 + x.initiator = (initiator_from 0 p.platform.initiators p.scripts x.initiator asked.initiator asked.is).0 in
      omega (arith, bound, number, own)
