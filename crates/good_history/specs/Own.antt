-- What of a history an initiator's own entries say.
use Rattle.std.specs.Prelude.{ℕ, ◌≡◌, List, ◌==◌}
use Rattle.std.specs.List.{filter, list_all}
use Rattle.tlm_types.specs.declared.entry.Entry.{Entry}
use Rattle.tlm_model.specs.declared.operation.Operation.{Operation}
use Rattle.tlm_model.specs.declared.platform.Platform.{Platform}
use Rattle.tlm_model.specs.Plan.{Initiator}
use Rattle.tlm_model.specs.Requests.{Request, answered, buffer_of, requests_from, requests_of, refused_of}
use Rattle.tlm_model.specs.Scripts.{has_answer, is_settled}

-- the entries of initiator number n, in order
abbrev pub own : ℕ → List Entry → List Entry
own n h = filter (λ e. e.txn.initiator == n) h

-- what an initiator is still to ask for follows from its own entries
abbrev pub AsksByOwn : ℕ → (List Entry → List Request) → Type 0
AsksByOwn n left = (h : List Entry) → left h ≡ left (own n h)

-- What a history tells an initiator, its own entries tell it: which of its requests are answered, with which bytes, and so
-- what it asks for.
pub record IsToldByOwn (p : Platform) (i : Initiator) (h : List Entry) : Type 0 where
  pub answers : (s : ℕ) → has_answer i.number s h ≡ has_answer i.number s (own i.number h)
  pub replies : (s : ℕ) → answered i.number s h ≡ answered i.number s (own i.number h)
  pub buffers : (s a n : ℕ) → buffer_of p i h s a n ≡ buffer_of p i (own i.number h) s a n
  pub settled : (r : Request) → is_settled p i h r ≡ is_settled p i (own i.number h) r
  pub all_settled : (rs : List Request) → list_all (is_settled p i h) rs ≡ list_all (is_settled p i (own i.number h)) rs
  -- what operations ask for, from a number, a time and a stage on
  pub rest : (s t g : ℕ) (ops : List Operation) → requests_from p i h s t g ops ≡ requests_from p i (own i.number h) s t g ops
  pub requests : requests_of p i h ≡ requests_of p i (own i.number h)
  pub refused : refused_of p i h ≡ refused_of p i (own i.number h)
