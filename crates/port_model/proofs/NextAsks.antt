-- What is next, and each access that was made, is what the script has at its number.
use Rattle.std.proofs.Common.{◌≡◌, ℕ, zero, suc, ◌+◌, List, [], ◌∷◌, Option, Some, refl, ◌∙◌, ap, subst, ◌++◌, length, map, inl, inr, Bool, true, false, sym, arith}
use Rattle.std.specs.Prelude.{slice_get, is_some}
use Rattle.tlm_types.specs.declared.entry.Entry.{Entry}
use Rattle.tlm_model.specs.declared.operation.Operation.{Operation}
use Rattle.tlm_model.specs.declared.platform.Platform.{Platform}
use Rattle.tlm_model.specs.declared.ask.Ask.{Ask}
use Rattle.tlm_model.specs.declared.ask.Ask.TheVariants.{Access as AnAccess, DebugRead as ADebugRead, Invalidation as AnInvalidation}
use Rattle.tlm_model.specs.Actions.{ask_for, asks_of}
use Rattle.tlm_model.specs.Plan.{Plan, Initiator}
use Rattle.tlm_model.specs.Requests.{Asked, Transport, DebugRead, Invalidation, Request, data_logged, requests_of}
use Rattle.tlm_model.specs.Route.{hops_of, route_of}
use Rattle.tlm_model.proofs.RequestLemmas.{ask_at}
use Rattle.std.proofs.lemmas.Grind.{common_steps}
use Rattle.tlm_model.specs.Store.{zeros}
use Rattle.std.proofs.lemmas.List.{append-nil}
use Rattle.std.specs.List.{flat_map}
use Rattle.tlm_types.specs.declared.words.ObjectNo.{ObjectNo}
use Rattle.tlm_types.specs.declared.words.ObjectNo.TheVariants.{Memory, Hop, Pool}
use Rattle.generic_payload.specs.Payload.{PayloadView}
use Rattle.flow_model.specs.Events.{Event}
use Rattle.script_engine.specs.declared.part.Part.TheVariants.{Asks}
use Rattle.script_engine.specs.declared.part.Transfer.{Transfer}
use Rattle.script_engine.specs.Part.{part_of}
use Rattle.script_engine.specs.State.{Due, next_of, op_at, op_of, payload_at, payload_of}
use Rattle.script_engine.specs.Asking.{request_for, requests_after, requests_at}
use Rattle.port_model.specs.Stages.{price_by, price_of}
use Rattle.port_model.specs.Way.{IsUnderWay, Port, pending}
use Rattle.port_model.specs.Laws.{IsPriced, PassesItsWay, price_for}
use Rattle.port_model.proofs.Kept.{get_kept, get_new}
use Rattle.port_model.proofs.Ops.{asks_one, fenced_transfer}
use Rattle.port_model.proofs.Origins.{address_by, has_address, origin}

zeros_long : (n : ℕ) → length (zeros n) ≡ n
zeros_long n = grind (arith, common_steps)

-- the first of what an engine is to ask for is the request of what is next
head_after : (p : Platform) (i : Initiator) (h : List Entry) (s t g : ℕ) (due : Option Due) (ops : List Operation) (x : Transfer) → part_of (op_at s due ops) ≡ Asks x →
    slice_get (requests_after p i h s t g due ops) 0 ≡ Some (request_for x (payload_at 4096 due ops) t g)
head_after p i h s t g due ops x next_is = grind (arith, common_steps, zeros_long)

pub get_after : (rs ms : List Request) (r : Request) → slice_get ms 0 ≡ Some r → slice_get (rs ++ ms) (length rs) ≡ Some r
get_after [] ms r q = q
get_after (x ∷ rs) ms r q = get_after rs ms r q

-- what a request may add to an object
abbrev pub priced : Plan → Initiator → ObjectNo → Asked → ℕ → ℕ
priced p i o (Transport a) address = price_of p i o (AnAccess address 0)
priced p i o (DebugRead a) address = price_of p i o (ADebugRead address 0)
priced p i o (Invalidation n) address = price_of p i o (AnInvalidation address)

module _ (p : Plan) (i : Initiator) (o : ObjectNo) where
  any_bytes : (b : ObjectNo) (a n : ℕ) → price_of p i b (AnAccess a n) ≡ price_of p i b (AnAccess a 0)
  any_bytes (Memory m) a n = refl
  any_bytes (Hop m) a n = refl
  any_bytes (Pool m) a n = refl

  any_read : (b : ObjectNo) (a n : ℕ) → price_of p i b (ADebugRead a n) ≡ price_of p i b (ADebugRead a 0)
  any_read (Memory m) a n = refl
  any_read (Hop m) a n = refl
  any_read (Pool m) a n = refl

  price_asked : (asked : Asked) (a : ℕ) → price_of p i o (ask_for a asked) ≡ priced p i o asked a
  price_asked (Transport d) a = any_bytes o a (data_logged d.command d.length + length d.enables)
  price_asked (DebugRead d) a = any_read o a d.length
  price_asked (Invalidation n) a = refl

  price_get : (asks : List Ask) (k n : ℕ) → slice_get (map (price_of p i o) asks) k ≡ Some n → price_by p i o (slice_get asks k) ≡ n
  price_get [] k n e = cc
  price_get (ask ∷ asks) zero n e = cc
  price_get (ask ∷ asks) (suc k) n e = price_get asks k n e

  pub price_at : (h : List Entry) (r : Request) (k : ℕ) → slice_get (requests_of p.platform i h) k ≡ Some r → price_by p i o (slice_get (flat_map asks_of i.script) k) ≡ priced p i o r.asked r.address
  price_at h r k q = price_get (flat_map asks_of i.script) k _ (ask_at (price_of p i o) (any_bytes o) p.platform i h r 0 0 0 i.script k q) ∙ price_asked r.asked r.address

price_of_request : (p : Plan) (i : Initiator) (b : ObjectNo) (x : Transfer) (payload : PayloadView) (t g : ℕ) → priced p i b (request_for x payload t g).asked x.address ≡ price_for p i b x
price_of_request p i b x payload t g = grind (arith, common_steps)

module _ (p : Plan) (i : Initiator) (port : Port) (known : List Event) (seen : ℕ) (left : ObjectNo → ℕ) (u : IsUnderWay p i port known seen left) where
  abbrev pub r : Transfer → Request
  r x = request_for x (payload_of port.engine 4096) u.asking.blocking u.step

  -- the request of what is next stands at the next number
  pub next_asked : (x : Transfer) → next_of port.engine ≡ Asks x → slice_get (requests_of p.platform i (u.mine ++ [])) port.engine.seq ≡ Some (r x)
  next_asked x next_is =
      ap (λ (l : List Request). slice_get l port.engine.seq) (u.asking.asked [])
      ∙ subst (λ (n : ℕ). slice_get (u.asking.passed ++ requests_at p.platform i (u.mine ++ []) u.asking.blocking u.step port.engine) n ≡ Some (r x)) u.asking.count
      (get_after u.asking.passed (requests_at p.platform i (u.mine ++ []) u.asking.blocking u.step port.engine) (r x) (head_after p.platform i (u.mine ++ []) port.engine.seq u.asking.blocking u.step port.engine.due port.engine.remaining x next_is))

  -- each request that was made is what its history asks for
  made_asked : (s : ℕ) (d : Request) → slice_get u.made s ≡ Some d → slice_get (requests_of p.platform i (u.mine ++ [])) s ≡ Some d
  made_asked s d q = go port.waiting refl (ap (λ (l : List Request). slice_get l s) (sym u.asking.is_made) ∙ q)
    where
      passed_asked : slice_get u.asking.passed s ≡ Some d → slice_get (requests_of p.platform i (u.mine ++ [])) s ≡ Some d
      passed_asked e = ap (λ (l : List Request). slice_get l s) (u.asking.asked []) ∙ get_kept u.asking.passed (requests_at p.platform i (u.mine ++ []) u.asking.blocking u.step port.engine) s d e

      go : (b : Bool) → port.waiting ≡ b → slice_get (u.asking.passed ++ pending b port.engine u.asking.blocking u.step) s ≡ Some d → slice_get (requests_of p.platform i (u.mine ++ [])) s ≡ Some d
      go false w e = passed_asked (ap (λ (l : List Request). slice_get l s) (sym (append-nil u.asking.passed)) ∙ e)
      go true w e =
          let awaited = fenced_transfer (next_of port.engine) (u.asking.fenced w) in
          elim (get_new u.asking.passed (r awaited.transfer) s d (ap (λ (l : List Request). slice_get (u.asking.passed ++ l) s) (sym (asks_one (op_of port.engine) awaited.transfer (payload_of port.engine 4096) u.asking.blocking u.step awaited.is)) ∙ e)) [
            | inl a ↦ passed_asked a
            | inr b ↦ ap (slice_get (requests_of p.platform i (u.mine ++ []))) (b.0 ∙ u.asking.count) ∙ (next_asked awaited.transfer awaited.is ∙ ap (λ (q : Request). Some q) b.1)
          ]

pub is_priced : IsPriced
is_priced p i port known seen left u x next_is o =
    price_at p i o (u.mine ++ []) (r p i port known seen left u x) port.engine.seq (next_asked p i port known seen left u x next_is)
    ∙ price_of_request p i o x (payload_of port.engine 4096) u.asking.blocking u.step

same_address : (asked : Asked) (a b : ℕ) → ◌≡◌ {A = Option (Option ℕ)} (Some (address_by asked a)) (Some (Some b)) → b ≡ a
same_address (Transport d) a b e = cc
same_address (DebugRead d) a b e = cc
same_address (Invalidation n) a b e = cc

pub passes_its_way : PassesItsWay
passes_its_way p i port known seen left u is s d pass q passes =
    let a = has_address p i is s pass passes in
    let e : a.address ≡ d.address = same_address d.asked d.address a.address (sym (origin p.platform i (u.mine ++ []) d s (made_asked p i port known seen left u s d q)) ∙ a.is) in
    a.way ∙ ap (λ (n : ℕ). record { hops = hops_of p.platform i n; routed = is_some (route_of p.platform i n) }) e
