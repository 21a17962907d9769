-- The gates of a memory that a note doesn't know to be closed, by its entries and by its events.
use Rattle.std.proofs.Common.{◌≡◌, ℕ, zero, suc, ◌+◌, ◌<◌, Bool, true, false, cond, List, [], ◌∷◌, length, get_or, Some, refl, sym, ap, subst, ◌∙◌, arith}
use Rattle.std.specs.Prelude.{slice_get}
use Rattle.std.proofs.lemmas.Bool.{and_parts, and_from}
use Rattle.std.proofs.lemmas.Grind.{common_steps}
use Rattle.view_lists.specs.Lists.{Has}
use Rattle.view_lists.proofs.Keys.{of_key-has}
use Rattle.view_lists.proofs.Members.{has_mapped}
use Rattle.one_history.specs.declared.entry.Entry.{Entry as HistoryEntry}
use Rattle.one_history.specs.Lists.{entries_at, object_of}
use Rattle.shared_object.specs.Written.{Written, written, written_at}
use Rattle.tlm_types.specs.declared.entry.Content.{Content}
use Rattle.tlm_types.specs.declared.entry.What.{What}
use Rattle.tlm_types.specs.declared.words.ObjectNo.{ObjectNo}
use Rattle.tlm_types.specs.declared.words.ObjectNo.TheVariants.{Hop, Memory}
use Rattle.tlm_model.specs.declared.platform.Platform.{Platform}
use Rattle.tlm_model.specs.History.{is_object}
use Rattle.tlm_model.specs.Plan.{Plan}
use Rattle.tlm_model.specs.Scripts.{first_gate}
use Rattle.flow_model.specs.Events.{Event}
use Rattle.good_history.specs.Grants.{closes}
use Rattle.joined_traffic.proofs.Gates.{same_object}
use Rattle.region_object.specs.Grants.{closes as closes_at}
use Rattle.cargo_model.specs.Known.{event_of, objects_of}
use Rattle.cargo_model.proofs.Origins.{is_self}
use Rattle.cargo_net.proofs.ObjectsOnce.{stands_once}
use Rattle.plat_net.proofs.NumberLemmas.{memory_number}
use Rattle.plat_net.proofs.ObjectLemmas.{memory_at}
use Rattle.dmi_grants.specs.Made.{count_without, dmi_gates, is_closed_in, unclosed}
use Rattle.dmi_grants.proofs.Known.{entry_known}
use Rattle.dmi_grants.proofs.Lists.{any_has, has_any}
use Rattle.port_model.specs.Closings.{count_open, is_closed_at, open_gates}
use Rattle.port_model.proofs.ClosingLemmas.{among_any, any_among}
use Rattle.port_end.specs.Arrives.{events_of}
use Rattle.fourphase_port.proofs.NextIsAsked.{known_of}
use Rattle.fourphase_port.proofs.Taking.{among_known}

closes_same : (g : ℕ) (w : What) → closes_at g w ≡ closes g w
closes_same g w = grind (arith, common_steps)

-- what is read at a place beyond the last is the default
read_some : (os : List ObjectNo) (i : ℕ) (o d : ObjectNo) → get_or os i d ≡ o → ¬ (d ≡ o) → slice_get os i ≡ Some o
read_some [] i o d q n = absurd (n q)
read_some (z ∷ os) zero o d q n = ap (λ (y : ObjectNo). Some y) q
read_some (z ∷ os) (suc i) o d q n = read_some os i o d q n

bool_same : (a b : Bool) → (a ≡ true → b ≡ true) → (b ≡ true → a ≡ true) → a ≡ b
bool_same true b f g = sym (f refl)
bool_same false true f g = g refl
bool_same false false f g = refl

count_same : (f g : ℕ → Bool) → ((k : ℕ) → f k ≡ g k) → (a n : ℕ) → count_open f a n ≡ count_without g a n
count_same f g same a zero = refl
count_same f g same a (suc n) = ap (λ (b : Bool). cond b 0 1 + count_open f (a + 1) n) (same a) ∙ ap (λ (k : ℕ). cond (g a) 0 1 + k) (count_same f g same (a + 1) n)

module _ (p : Platform) (m : ℕ) (below : m < length p.memories) where
  -- an entry whose event stands at the memory has its number
  number_of : (e : HistoryEntry Content) → get_or (objects_of p) e.object (Hop 0) ≡ Memory m → e.object ≡ m
  number_of e at = stands_once p e.object (Memory m) (read_some (objects_of p) e.object (Memory m) (Hop 0) at no_hop) ∙ memory_number p m below
    where
      no_hop : ¬ (Hop 0 ≡ Memory m)
      no_hop q = cc

  object_is : (e : HistoryEntry Content) → e.object ≡ m → get_or (objects_of p) e.object (Hop 0) ≡ Memory m
  object_is e is = ap (λ (k : ℕ). get_or (objects_of p) k (Hop 0)) is ∙ memory_at p m (Hop 0) below

  -- a gate is known to be closed by its events where it is by its entries
  closed_same : (known : List (HistoryEntry Content)) (g : ℕ) → is_closed_at m (events_of p known) g ≡ is_closed_in (written_at m known) g
  closed_same known g = bool_same (is_closed_at m (events_of p known) g) (is_closed_in (written_at m known) g) to back
    where
      to : is_closed_at m (events_of p known) g ≡ true → is_closed_in (written_at m known) g ≡ true
      to closed =
          let f = any_among _ (events_of p known) closed in
          let parts = and_parts (is_object (Memory m) (f.0).object) (closes g (f.0).what) f.2 in
          let k = known_of p known f.0 f.1 in
          let e : HistoryEntry Content = k.entry in
          let at : get_or (objects_of p) e.object (Hop 0) ≡ Memory m = sym (ap (λ (d : Event). d.object) k.is) ∙ sym (same_object (Memory m) (f.0).object parts.0) in
          let here = of_key-has object_of known e k.has in
          let there : Has (entries_at m known) e = subst (λ (n : ℕ). Has (entries_at n known) e) (number_of e at) here in
          any_has (λ (w : Written). closes_at g w.content.what) (written_at m known) (written e) (has_mapped written (entries_at m known) e there)
          (closes_same g (written e).content.what ∙ (ap (λ (d : Event). closes g d.what) (sym k.is) ∙ parts.1))

      back : is_closed_in (written_at m known) g ≡ true → is_closed_at m (events_of p known) g ≡ true
      back closed =
          let w = has_any (λ (w : Written). closes_at g w.content.what) (written_at m known) closed in
          let e = entry_known m known w.0 w.1 in
          among_any _ (events_of p known) (event_of p e.0) (among_known p known (event_of p e.0) (record { entry = e.0; has = e.1; is = refl }))
          (and_from (is_object (Memory m) (event_of p e.0).object) (closes g (event_of p e.0).what) (ap (is_object (Memory m)) (object_is e.0 e.2) ∙ is_self (Memory m))
          (sym (closes_same g (event_of p e.0).what) ∙ (ap (λ (x : Written). closes_at g x.content.what) e.3 ∙ w.2)))

-- as many gates are open by the events as by the entries
pub open_same : (p : Plan) (m : ℕ) (known : List (HistoryEntry Content)) → m < length p.platform.memories → open_gates p m (events_of p.platform known) ≡ unclosed p m (written_at m known)
open_same p m known below =
    count_same (is_closed_at m (events_of p.platform known)) (is_closed_in (written_at m known)) (closed_same p.platform m below known) (first_gate p.platform m) (dmi_gates p m)
