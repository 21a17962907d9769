-- The bytes of all memories, and what an entry does to them.
use Rattle.std.specs.Prelude.{ℕ, ◌≡◌, List, length, Some, slice_get}
use Rattle.tlm_types.specs.declared.entry.Access.{Access}
use Rattle.tlm_types.specs.declared.entry.Entry.{Entry}
use Rattle.tlm_model.specs.declared.platform.Platform.{Platform}
use Rattle.tlm_model.specs.History.{Store, after, last_store, opening_store, store_from}
use Rattle.entry_log.specs.declared.log.LoggedAccess.{LoggedAccess}

-- an access that was read from a log; what a read sent isn't kept
abbrev pub access_in : LoggedAccess → Access
access_in a = record { command = a.facts.command; offset = a.facts.offset; length = a.facts.length; sent = a.sent.now; enables = a.enables.now; width = a.facts.width }

-- the memories that there are have the bytes that a store gives them
abbrev pub Hold : List (List ℕ) → Store → Type 0
Hold stores s = (m : ℕ) (bytes : List ℕ) → slice_get stores m ≡ Some bytes → bytes ≡ s m

-- what they have before the first entry
pub record AreOpening (p : Platform) (stores : List (List ℕ)) : Type 0 where
  pub count : length stores ≡ length p.memories
  pub bytes : Hold stores (opening_store p)

-- an entry happened, or several did, and each memory has the bytes that it has then
pub record GoesOn (e : Entry) (old new : List (List ℕ)) : Type 0 where
  pub count : length new ≡ length old
  pub bytes : (s : Store) → Hold old s → Hold new (after e.object e.what s)

pub record HaveGoneOn (es : List Entry) (old new : List (List ℕ)) : Type 0 where
  pub count : length new ≡ length old
  pub bytes : (s : Store) → Hold old s → Hold new (store_from s es)

-- The bytes of all memories of a platform after a history: for each memory those that the history leaves there.
pub record AreStoresAfter (p : Platform) (h : List Entry) (stores : List (List ℕ)) : Type 0 where
  pub count : length stores ≡ length p.memories
  pub bytes : Hold stores (last_store p h)

-- from the opening stores of a platform on, all entries of a history lead to the stores that the history leaves
abbrev pub StoresFollow : Type 0
StoresFollow = (p : Platform) (h : List Entry) (old new : List (List ℕ)) → AreOpening p old → HaveGoneOn h old new → AreStoresAfter p h new
