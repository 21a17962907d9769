-- What a queue keeps.
use Rattle.std.specs.Prelude.{ℕ, List}
use Rattle.std.specs.BinaryHeap.{IsHeap}
use Rattle.event_queue.specs.declared.waiting.Waiting.{Waiting}
use Rattle.event_queue.specs.Waiting.{AreNumbered, given_sooner}

module _ {T : Type 0} where
  -- what waits is a heap, with numbers below the next one
  pub record AreWaiting (next : ℕ) (ws : List (Waiting T)) : Type 0 where
    pub heap : IsHeap given_sooner ws
    pub numbered : AreNumbered next ws
