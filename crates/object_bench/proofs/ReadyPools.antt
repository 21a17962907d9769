-- A pool of the tests after each call.
use Rattle.std.proofs.Common.{◌≡◌, ℕ, ◌+◌, ◌-◌, ◌<◌, Bool, [], length, Option, Some, None, refl, sym, ap, ◌∙◌, subst, arith}
use Rattle.std.specs.Prelude.{IfSome}
use Rattle.std.specs.List.{All}
use Rattle.std.proofs.lemmas.List.{length_push}
use Rattle.std.proofs.lemmas.List.Elements.{All-nil, All-push, All-weaker}
use Rattle.atomic_table.specs.Seated.{TableId}
use Rattle.tlm_types.specs.declared.words.TxnId.{TxnId}
use Rattle.token_book.specs.Account.{Account, Slip}
use Rattle.flow_model.specs.Events.{Event}
use Rattle.numbered_log.specs.Logged.{LoggedView}
use Rattle.payload_pool.specs.declared.baton.Baton.{Baton}
use Rattle.payload_pool.specs.Slots.{SlotView, acquired_of}
use Rattle.payload_pool.specs.Pool.{PoolView, IsOut, changed, first_baton}
use Rattle.payload_pool.specs.Calls.{Takes, Acquires, Releases}
use Rattle.object_bench.specs.Ready.{IsReady, IsMine, IsBaton}

-- a new pool
pub ready_new : (n : ℕ) (tokens : TableId) (v : PoolView) → n < 1000 → v.book.table ≡ tokens → v.book.owner ≡ 1 → v.room ≡ 16 → v.log ≡ record { events = []; room = n } → IsReady n tokens 0 v
ready_new n tokens v few table owner bytes log = record {
  table = table;
  owner = owner;
  bytes = bytes;
  past = subst (λ (l : LoggedView). All (λ (e : Event). e.position < 0) l.events) (sym log) (All-nil (λ (e : Event). e.position < 0));
  room = let a = ap (λ (l : LoggedView). length l.events) log in let b = ap (λ (l : LoggedView). l.room) log in omega arith;
  low = omega arith;
}

module _ (n p : ℕ) (tokens : TableId) (v : PoolView) (ready : IsReady n tokens p v) (some : 0 < n) where
  old_past : All (λ (e : Event). e.position < p + 1) v.log.events
  old_past = All-weaker (λ (e : Event). e.position < p) (λ (e : Event). e.position < p + 1) (λ e h. omega arith) v.log.events ready.past

  ready_changed : (k : ℕ) (s : SlotView) (e : Event) (book : Account) → e.position ≡ p → book.table ≡ v.book.table → book.owner ≡ v.book.owner → IsReady (n - 1) tokens (p + 1) (changed v k s e book)
  ready_changed k s e book at table owner =
      let more = length_push v.log.events e in
      let room = ready.room in
      let low = ready.low in
      record {
        table = table ∙ ready.table;
        owner = owner ∙ ready.owner;
        bytes = ready.bytes;
        past = All-push (λ (x : Event). x.position < p + 1) v.log.events e old_past (omega arith);
        room = omega arith;
        low = omega arith;
      }

  pub ready_takes : (x : TxnId) (t : ℕ) (b : Option Baton) (w : PoolView) → Takes v p x t b w → IsReady (n - 1) tokens (p + 1) w
  ready_takes x t None w is =
      let room = ready.room in
      let low = ready.low in
      subst (IsReady (n - 1) tokens (p + 1)) (sym is.1) (record {
        table = ready.table;
        owner = ready.owner;
        bytes = ready.bytes;
        past = old_past;
        room = omega arith;
        low = omega arith;
      })
  ready_takes x t (Some b) w is = subst (IsReady (n - 1) tokens (p + 1)) (sym is.1) (ready_changed _ _ _ _ refl refl refl)

  pub ready_acquires : (b : Baton) (t : ℕ) (next : Baton) (hold : Slip) (w : PoolView) → Acquires v p b t next hold w → IsReady (n - 1) tokens (p + 1) w
  ready_acquires b t next hold w is = subst (IsReady (n - 1) tokens (p + 1)) (sym is.after) (ready_changed _ _ _ _ refl refl refl)

  pub ready_releases : (s : Slip) (t : ℕ) (kept : Option ℕ) (freed : Bool) (w : PoolView) → Releases v p s t kept freed w → IsReady (n - 1) tokens (p + 1) w
  ready_releases s t kept freed w is = subst (IsReady (n - 1) tokens (p + 1)) (sym is.after) (ready_changed _ _ _ _ refl refl refl)

  baton_first : (x : TxnId) → IsBaton tokens (first_baton v p x)
  baton_first x = record {
    mine = record { table = ready.table; owner = ready.owner };
    whole = record { payload = ready.bytes; wallet = refl };
  }

  pub baton_takes : (x : TxnId) (t : ℕ) (b : Option Baton) (w : PoolView) → Takes v p x t b w → IfSome b (IsBaton tokens)
  baton_takes x t None w is = tt
  baton_takes x t (Some b) w is = subst (IsBaton tokens) (sym is.2) (baton_first x)

  pub fresh_takes : (x : TxnId) (t : ℕ) (b : Option Baton) (w : PoolView) → Takes v p x t b w → IfSome b (λ b. acquired_of b.own.name ≡ 0)
  fresh_takes x t None w is = tt
  fresh_takes x t (Some b) w is = let e = ap (λ (y : Baton). y.own.name) is.2 in omega arith

  pub out_of_book : (t : Slip) → IsMine tokens t → IsOut v t
  out_of_book t mine = record { table = mine.table ∙ sym ready.table; owner = mine.owner ∙ sym ready.owner }

  pub baton_acquires : (b : Baton) (t : ℕ) (next : Baton) (hold : Slip) (w : PoolView) → Acquires v p b t next hold w → IsBaton tokens b → IsBaton tokens next
  baton_acquires b t next hold w is old =
      subst (IsBaton tokens) (sym is.baton) (record {
        mine = record { table = ready.table; owner = ready.owner };
        whole = record { payload = old.whole.payload; wallet = old.whole.wallet };
      })

  pub more_acquires : (b : Baton) (t : ℕ) (next : Baton) (hold : Slip) (w : PoolView) → Acquires v p b t next hold w → acquired_of b.own.name < 15 → acquired_of next.own.name ≡ acquired_of b.own.name + 1
  more_acquires b t next hold w is few = let e = ap (λ (y : Baton). y.own.name) is.baton in omega arith

  pub hold_acquires : (b : Baton) (t : ℕ) (next : Baton) (hold : Slip) (w : PoolView) → Acquires v p b t next hold w → IsMine tokens hold
  hold_acquires b t next hold w is = subst (IsMine tokens) (sym is.held) (record { table = ready.table; owner = ready.owner })
