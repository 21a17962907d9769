-- The calls of each access on each of its hops follow the table.
use Rattle.std.proofs.Common.{◌≡◌, ℕ, ◌<◌, List, Some, true, false, Bool, refl, sym, subst, inl, inr}
use Rattle.tlm_types.specs.declared.words.Phase.TheVariants.{BeginReq, EndReq, BeginResp}
use Rattle.tlm_types.specs.declared.words.TlmSync.{TlmSync}
use Rattle.tlm_types.specs.declared.entry.Entry.{Entry}
use Rattle.tlm_types.specs.declared.words.TxnId.{TxnId}
use Rattle.tlm_types.specs.declared.words.ReqMode.{ReqMode}
use Rattle.tlm_types.specs.declared.words.ReqMode.TheVariants.{Accept, Short, EndReq as AtOnce, BeginResp as WithResponse, Complete}
use Rattle.flow_model.specs.Events.{Event}
use Rattle.flow_model.specs.World.{World, Passage, hop_count, hop_at, row_by, row_of, is_refused}
use Rattle.flow_model.proofs.Forms.{Saying, sayings, IsPrefixOf, rows, RequestAnswer, Given}
use Rattle.flow_model.proofs.Nodes.{walked, RowAnswer, Fits, fitting}
use Rattle.flow_model.proofs.Sayings.{in_said, said_in}
use Rattle.flow_model.proofs.Splits.{among_split, among_whole}
use Rattle.flow_model.proofs.Steps.{step, backed_at, proper}

pub row_answer : (b : Bool) (r : ReqMode) (a : TlmSync) → RequestAnswer r a → RowAnswer (row_by b r) a
row_answer true Accept a q = q
row_answer true Short a q = q
row_answer true AtOnce a q = q
row_answer true WithResponse a (inl q) = inl q
row_answer true WithResponse a (inr q) = inr q
row_answer true Complete a q = q
row_answer false Accept a q = q
row_answer false Short a q = q
row_answer false AtOnce a q = q
row_answer false WithResponse a (inl q) = inl q
row_answer false WithResponse a (inr q) = inr q
row_answer false Complete a q = q

module _ (w : World) (slots : ℕ → ℕ) (issued : List Entry → TxnId → ℕ) (h : List Event) (pr : Given w slots issued h) where
  fits : (x : TxnId) (pass : Passage) → w.passage x ≡ Some pass → (k : ℕ) → k < hop_count pass → Fits (row_of w pass k) (w.hop (hop_at pass k)).resp (sayings x (hop_at pass k) h)
  fits x pass is k below = record {
    begin_req = λ a i.
        let f = in_said x (hop_at pass k) h BeginReq a i in
        let s = among_split h f.event f.known in
        row_answer (is_refused w pass k) (w.hop (hop_at pass k)).req a
        ((step w slots issued h pr s.before s.after f.event s.is x (hop_at pass k) BeginReq a f.is).request_answer refl);
    end_req = λ a i.
        let f = in_said x (hop_at pass k) h EndReq a i in
        let s = among_split h f.event f.known in
        (backed_at w slots issued h pr s.before s.after f.event s.is x (hop_at pass k) EndReq a f.is pass is k below refl).sequence;
    begin_resp = λ a i.
        let f = in_said x (hop_at pass k) h BeginResp a i in
        let s = among_split h f.event f.known in
        (step w slots issued h pr s.before s.after f.event s.is x (hop_at pass k) BeginResp a f.is).response_answer refl;
    has_end_req = λ a i r.
        let f = in_said x (hop_at pass k) h BeginResp a i in
        let s = among_split h f.event f.known in
        let g = (backed_at w slots issued h pr s.before s.after f.event s.is x (hop_at pass k) BeginResp a f.is pass is k below refl).sequence r in
        (g.is.answer, said_in x (hop_at pass k) h g.event EndReq g.is.answer (among_whole h s.before s.after f.event g.event s.is g.known) g.is.call);
  }

  pub table : (x : TxnId) (pass : Passage) → w.passage x ≡ Some pass → (k : ℕ) → k < hop_count pass →
      IsPrefixOf (rows (row_of w pass k) (w.hop (hop_at pass k)).resp) (sayings x (hop_at pass k) h)
  table x pass is k below =
      let n = walked (sayings x (hop_at pass k) h) (proper w slots issued h pr x (hop_at pass k)) in
      let row = row_of w pass k in
      let resp = (w.hop (hop_at pass k)).resp in
      subst (λ (l : List Saying). IsPrefixOf (rows row resp) l) (sym n.is)
      (fitting n.node row resp (subst (λ (l : List Saying). Fits row resp l) n.is (fits x pass is k below)))
