-- Each entry stands after those that it has to stand after.
use Rattle.std.proofs.Common.{◌≡◌, ℕ, zero, suc, ◌+◌, List, Option, Some, None, arith, subst}
use Rattle.tlm_types.specs.declared.words.ObjectNo.{ObjectNo}
use Rattle.tlm_types.specs.declared.words.ObjectNo.TheVariants.{Memory, Hop, Pool}
use Rattle.tlm_types.specs.declared.words.Phase.{Phase}
use Rattle.tlm_types.specs.declared.words.Phase.TheVariants.{BeginReq, EndReq, BeginResp, EndResp}
use Rattle.tlm_types.specs.declared.words.TxnId.{TxnId}
use Rattle.tlm_types.specs.declared.entry.What.{What}
use Rattle.tlm_types.specs.declared.entry.What.TheVariants.{Access as Accessed, Call, Take, Acquire, Release}
use Rattle.flow_model.specs.Backed.{IsBacked, BackedBy, CallBacked}
use Rattle.flow_model.specs.Events.{Event, Among, Finds, IsPhase}
use Rattle.flow_model.specs.Numbers.{ArrIs}
use Rattle.flow_model.specs.Points.{InOrderBy, IsInOrder, CallInOrder}
use Rattle.flow_model.specs.World.{World, Passage, hop_at}
use Rattle.flow_model.proofs.Forms.{AtSplits}
use Rattle.flow_model.proofs.Each.{each_from}

-- an arr of a later hop tells the BEGIN_REQ of the hop before
begun_before : (w : World) (K : Event → Type 0) (x : TxnId) (pass : Passage) (k : ℕ) (t : ℕ) → ArrIs w K x pass k t → (j : ℕ) → k ≡ j + 1 → Finds K (IsPhase x (hop_at pass j) BeginReq)
begun_before w K x pass zero t a j q = absurd (omega arith)
begun_before w K x pass (suc k) t a j q =
    let same : k ≡ j = omega arith in
    subst (λ (i : ℕ). Finds K (IsPhase x (hop_at pass i) BeginReq)) same (record { event = a.is_req.event; known = a.is_req.known; is = a.is_req.is })

call_in_order : (w : World) (before : List Event) (x : TxnId) (pass : Passage) (o t : ℕ) (p : Phase) → CallBacked w (Among before) x pass o t p → CallInOrder w before x pass o p
call_in_order w before x pass o t BeginReq b = record { hop = b.hop; below = b.below; place = b.place; order = b.order; begun = λ q j r. begun_before w (Among before) x pass b.hop b.time.number b.time.is_number j r }
call_in_order w before x pass o t EndReq b = record { hop = b.hop; below = b.below; place = b.place; order = b.order; begun = λ q. cc }
call_in_order w before x pass o t BeginResp b = record { hop = b.hop; below = b.below; place = b.place; order = b.order; begun = λ q. cc }
call_in_order w before x pass o t EndResp b = record { hop = b.hop; below = b.below; place = b.place; order = b.order; begun = λ q. cc }

in_order_by : (w : World) (before : List Event) (x : TxnId) (f : Option Passage) (o : ObjectNo) (t n : ℕ) (v : What) → BackedBy w (Among before) x f o t n v → InOrderBy w before x f o n v
in_order_by w before x (Some pass) (Hop o) t n (Call p a) b = call_in_order w before x pass o t p b
in_order_by w before x (Some pass) (Pool i) t n (Take s) b = b
in_order_by w before x (Some pass) (Pool i) t n (Acquire s) b = (b.0, b.1.below, b.1.order)
in_order_by w before x (Some pass) (Pool i) t n (Release s freed) b = (b.0, record { served = b.1.served })
in_order_by w before x (Some pass) (Memory m) t n (Accessed way access status got) b = b.order
in_order_by w before x None (Hop o) t n (Call p a) b = absurd b
in_order_by w before x None (Pool i) t n (Take s) b = absurd b
in_order_by w before x None (Pool i) t n (Acquire s) b = absurd b
in_order_by w before x None (Pool i) t n (Release s freed) b = absurd b
in_order_by w before x _ _ t n _ b = tt

pub orders : (w : World) (h : List Event) → AtSplits (λ before e. IsBacked w (Among before) e) h → IsInOrder w h
orders w h backed = each_from _ h (λ before e after q. in_order_by w before e.txn (w.passage e.txn) e.object e.time e.number e.what (backed before e after q))
