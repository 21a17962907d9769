-- The access that is next in a port's script is one that its initiator asks for, by the port's own entries; so a payload that was taken and filled
-- for it may start.
use Rattle.std.proofs.Common.{◌≡◌, ℕ, zero, suc, List, [], ◌∷◌, ◌++◌, Option, Some, None, refl, sym, ap, ◌∙◌, subst, inl, inr, arith}
use Rattle.std.specs.Prelude.{is_some, slice_get}
use Rattle.std.proofs.lemmas.Grind.{common_steps}
use Rattle.std.proofs.lemmas.List.{append-nil}
use mathlib.Core.Option.{some}
use Rattle.atomic_table.specs.Seated.{TableId}
use Rattle.view_lists.specs.Lists.{Has}
use Rattle.one_history.specs.declared.entry.Entry.{Entry as HistoryEntry}
use Rattle.tlm_types.specs.declared.entry.Content.{Content}
use Rattle.tlm_types.specs.declared.entry.Entry.{Entry}
use Rattle.tlm_types.specs.declared.words.ObjectNo.{ObjectNo}
use Rattle.tlm_types.specs.declared.words.Response.TheVariants.{Incomplete}
use Rattle.tlm_model.specs.declared.operation.Operation.{Operation}
use Rattle.tlm_model.specs.declared.platform.Platform.{Platform}
use Rattle.tlm_model.specs.declared.platform.Style.{Style}
use Rattle.tlm_model.specs.declared.platform.Style.TheVariants.{FourPhase}
use Rattle.tlm_model.specs.Plan.{Plan, Initiator, initiators_of}
use Rattle.tlm_model.specs.Requests.{Asked, Transport, Request}
use Rattle.tlm_model.specs.Route.{hops_of, route_of}
use Rattle.generic_payload.specs.Payload.{access_of}
use Rattle.flow_model.specs.World.{Passage}
use Rattle.flow_model.specs.Events.{Among, Event}
use Rattle.flow_model.specs.Platform.{addresses_of, passage_by, passage_of, passage_to}
use Rattle.cargo_model.specs.Known.{Known}
use Rattle.cargo_model.specs.Travel.{Asks as AsksFor, IsAsked}
use Rattle.joined_traffic.specs.Accesses.{txn_of}
use Rattle.script_engine.specs.declared.part.Part.TheVariants.{Asks}
use Rattle.script_engine.specs.declared.part.Transfer.{Transfer}
use Rattle.script_engine.specs.declared.part.TransferKind.{TransferKind}
use Rattle.script_engine.specs.declared.part.TransferKind.TheVariants as kinds
use Rattle.script_engine.specs.State.{Due, next_of, payload_at, payload_of}
use Rattle.script_engine.specs.Asking.{asked_access, asked_for}
use Rattle.script_engine.proofs.Payloads.{room_of_payload}
use Rattle.script_engine.proofs.Steps.{fills}
use Rattle.port_model.specs.Way.{IsUnderWay, Port}
use Rattle.port_model.proofs.NextAsks.{next_asked, r}
use Rattle.port_model.proofs.Ops.{IsAccessKind, transports}
use Rattle.port_model.proofs.Origins.{address_by, origin}
use Rattle.port_end.specs.Arrives.{events_of}

-- an event of the known entries is known
pub known_of : (p : Platform) (entries : List (HistoryEntry Content)) (e : Event) → Among (events_of p entries) e → Known p entries e
known_of p [] e a = absurd a
known_of p (x ∷ xs) e (inl q) = record { entry = x; has = (zero, refl); is = sym q }
known_of p (x ∷ xs) e (inr a) = let k = known_of p xs e a in record { entry = k.entry; has = (let h = k.has in (suc h.0, h.1)); is = k.is }

pub has_of : (xs : List Entry) (e : Entry) → Among xs e → Has xs e
has_of [] e a = absurd a
has_of (x ∷ xs) e (inl q) = (zero, ap some q)
has_of (x ∷ xs) e (inr a) = let h = has_of xs e a in (suc h.0, h.1)

status_at : (room : ℕ) (due : Option Due) (ops : List Operation) → (payload_at room due ops).status ≡ Incomplete
status_at room due ops = grind (arith, common_steps)

module _ (p : Plan) (i : Initiator) (port : Port) (entries : List (HistoryEntry Content)) (seen : ℕ) (left : ObjectNo → ℕ) (u : IsUnderWay p i port (events_of p.platform entries) seen left)
    (is : slice_get (initiators_of p) i.number ≡ Some i) (style : i.row.style ≡ FourPhase) (x : Transfer) (next_is : next_of port.engine ≡ Asks x) where
  -- the way of its address
  abbrev pub way : Passage
  way = record { hops = hops_of p.platform i x.address; routed = is_some (route_of p.platform i x.address) }

  abbrev pub request : Request
  request = r p i port (events_of p.platform entries) seen left u x

  -- what the script has at its number, by the kind of its request
  passes : (o : Option (Option ℕ)) → slice_get (addresses_of i.script) port.engine.seq ≡ o → passage_of p (txn_of i.number port.engine.seq) ≡ passage_to p.platform i FourPhase o
  passes o e =
      ap (λ (j : Option Initiator). passage_by p.platform j port.engine.seq) is
      ∙ (ap (λ (s : Style). passage_to p.platform i s (slice_get (addresses_of i.script) port.engine.seq)) style ∙ ap (passage_to p.platform i FourPhase) e)

  address : slice_get (addresses_of i.script) port.engine.seq ≡ Some (address_by request.asked x.address)
  address = origin p.platform i (u.mine ++ []) request port.engine.seq (next_asked p i port (events_of p.platform entries) seen left u x next_is)

  -- a debug read passes no hop
  pub read_passes_none : x.kind ≡ kinds.DebugRead → passage_of p (txn_of i.number port.engine.seq) ≡ None
  read_passes_none kind =
      passes (Some None) (address ∙ ap (λ (k : TransferKind). Some (address_by (asked_for k x.length (payload_of port.engine 4096)) x.address)) kind)

  module _ (access : IsAccessKind x.kind) where
    pub asks : request.asked ≡ Transport (asked_access (payload_of port.engine 4096))
    asks = transports x (payload_of port.engine 4096) u.asking.blocking u.step access

    pub access_passes : passage_of p (txn_of i.number port.engine.seq) ≡ Some way
    access_passes = passes (Some (Some x.address)) (address ∙ ap (λ (a : Asked). Some (address_by a x.address)) asks)

    -- an access is asked for, by the entries that its port has made
    abbrev pub taken_asked : (tokens : TableId) → IsAsked p tokens (Known p.platform entries) (txn_of i.number port.engine.seq) way
    taken_asked tokens = record {
      passes = access_passes;
      initiator = i;
      is = is;
      replies = u.mine ++ [];
      known = λ e m. (
          let f = u.has.within e (has_of u.mine e (subst (λ (l : List Entry). Among l e) (append-nil u.mine) m)) in
          record { event = f.event; known = known_of p.platform entries f.event f.known; is = f.is }
          );
      request = request;
      asked = next_asked p i port (events_of p.platform entries) seen left u x next_is;
      access = asked_access (payload_of port.engine 4096);
      transport = asks;
      way = refl;
    }

    -- its payload asks for it, at the initiator's address
    pub filled_asks : AsksFor (asked_access (payload_of port.engine 4096)) x.address (payload_of port.engine 4096)
    filled_asks = ap (λ (a : ℕ). let access = access_of (payload_of port.engine 4096) in record access { offset = a }) (fills.transfer port.engine 4096 x next_is).1.address

  pub filled_room : (payload_of port.engine 4096).room ≡ 4096
  filled_room = room_of_payload 4096 port.engine

  pub filled_new : (payload_of port.engine 4096).status ≡ Incomplete
  filled_new = (let e = port.engine in status_at 4096 e.due e.remaining)
