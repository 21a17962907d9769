use Rattle.std.proofs.Common.{◌≡◌, List, ℕ, Ok, Err, Result, sym, subst}
use Rattle.std.specs.Prelude.{IfOk}
use Rattle.tlm_types.specs.declared.words.Memory.{Memory}
use Rattle.store_replay.specs.Replay.{HaveGoneOn}
use Rattle.store_replay.proofs.replay.OpeningStores.after.Goals as goal

same_rows : (r : Result (List (List ℕ)) Memory) (stores : List (List ℕ)) (P : List (List ℕ) → Type 0) → IfOk r (λ rows. rows ≡ stores) → P stores → IfOk r P
same_rows (Ok rows) stores P is holds = subst P (sym is) holds
same_rows (Err e) stores P is holds = tt

pub returns : goal.returns
returns c =
    same_rows _ c.replay_all.new.stores.items (HaveGoneOn c.args.history.now.entries c.args.self) c.in_rows.ensures
    (subst (λ (old : List (List ℕ)). HaveGoneOn c.args.history.now.entries old c.replay_all.new.stores.items) c.self.view_is c.in_ok-replay_all.ensures)
