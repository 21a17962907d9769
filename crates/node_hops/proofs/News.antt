-- What has come to be known.
use Rattle.std.proofs.Common.{◌≡◌, ℕ, ◌<◌, ◌≤◌, List, arith}
use Rattle.view_lists.specs.Lists.{Has, Within}
use Rattle.one_history.specs.declared.entry.Entry.{Entry}
use Rattle.one_history.specs.declared.view.View.{View}
use Rattle.one_history.specs.Lists.{StandBelow}
use Rattle.tlm_types.specs.declared.entry.Content.{Content}
use Rattle.tlm_types.specs.declared.words.TxnId.{TxnId}
use Rattle.tlm_model.specs.Plan.{Plan}
use Rattle.node_hops.specs.Laws.{IsNewOf}
use Rattle.node_hops.specs.Steps.{AddsAt, AddsOf, HasNew}

-- who knows more knows what was added
pub added_at_more : (number : ℕ) (note mid back : View Content Plan) → Within mid.known back.known → AddsAt number note mid → AddsAt number note back
added_at_more number note mid back w a = record { entry = a.entry; has = w a.entry a.has; late = a.late; object = a.object }

pub added_more : (number : ℕ) (x : TxnId) (note mid back : View Content Plan) → Within mid.known back.known → AddsOf number x note mid → AddsOf number x note back
added_more number x note mid back w a =
    let at = a.added in
    record { added = record { entry = at.entry; has = w at.entry at.has; late = at.late; object = at.object }; txn = a.txn }

below_late : (a s b : ℕ) → a < s → s ≤ b → a < b
below_late a s b below late = omega arith

-- what was added is new to a note that has seen past all that it knows
pub added_past : (number : ℕ) (note back : View Content Plan) → StandBelow note.known note.seen → (a : AddsAt number note back) → (e : Entry Content) → Has note.known e → e.position < a.entry.position
added_past number note back below a e has = below_late e.position note.seen a.entry.position (below e has) a.late

pub new_at : (number : ℕ) (note back : View Content Plan) → StandBelow note.known note.seen → AddsAt number note back → HasNew (λ (e : Entry Content). e.object ≡ number) note.known back.known
new_at number note back below a = record { entry = a.entry; has = a.has; past = added_past number note back below a; is = a.object }

pub new_of : (number : ℕ) (x : TxnId) (note back : View Content Plan) → StandBelow note.known note.seen → AddsOf number x note back → HasNew (IsNewOf number x) note.known back.known
new_of number x note back below a =
    let at = a.added in
    record { entry = at.entry; has = at.has; past = added_past number note back below at; is = record { object = at.object; txn = a.txn } }

module _ (P : Entry Content → Type 0) where
  -- one of fewer is one of more
  pub new_by : (Q : Entry Content → Type 0) (known back : List (Entry Content)) → ((e : Entry Content) → P e → Q e) → HasNew P known back → HasNew Q known back
  new_by Q known back f n = record { entry = n.entry; has = n.has; past = n.past; is = f n.entry n.is }

  -- it is new to who knew less before
  pub new_after : (known mid back : List (Entry Content)) → Within known mid → HasNew P mid back → HasNew P known back
  new_after known mid back w n = record { entry = n.entry; has = n.has; past = λ e has. n.past e (w e has); is = n.is }

  -- and known to who knows more afterwards
  pub new_more : (known mid back : List (Entry Content)) → HasNew P known mid → Within mid back → HasNew P known back
  new_more known mid back n w = record { entry = n.entry; has = w n.entry n.has; past = n.past; is = n.is }

  pub new_stays : (known early late back : List (Entry Content)) → Within known early → Within late back → HasNew P early late → HasNew P known back
  new_stays known early late back w v n = new_more known late back (new_after known early late w n) v
