-- What a log keeps beside the entries that it forgot.
use Rattle.std.proofs.Common.{◌≡◌, ℕ, ◌+◌, ◌^◌, ◌<◌, true, List, [], ◌∷◌, ◌++◌, length, length-append, All, ap, sym, refl, ◌∙◌, arith}
use Rattle.std.proofs.lemmas.List.{length-map}
use Rattle.std.proofs.lemmas.List.Elements.{All-append}
use Rattle.tlm_types.specs.declared.entry.Entry.{Entry}
use Rattle.entry_log.specs.declared.log.Log.TheInside.{Inside}
use Rattle.entry_log.specs.Log.{LogView}
use Rattle.entry_log.specs.LogBytes.{IsPast}
use Rattle.log_items.specs.Items.{FullItem, item_entry, entries_of}
use Rattle.entry_log.proofs.Stored.{entries_timed}

-- a list without elements adds none
pub none_before : (past stored : List Entry) → length past ≡ 0 → past ++ stored ≡ stored
none_before [] stored none = refl
none_before (e ∷ past) stored none = absurd (cc)

-- the fields of a log are seen as this log
abbrev IsSeen : Inside → LogView → Type 0
IsSeen s log = record { entries = s.past.entries ++ entries_of s.bytes.items s.items.items; room = s.items.room; room_bytes = s.room_bytes; whole = s.keeps } ≡ log

-- a log that is whole forgot no entry, so its entries are those in store
pub forgot_whole : (s : Inside) (log : LogView) → IsPast s.keeps s.past.entries s.forgotten → IsSeen s log → log.whole ≡ true → length s.past.entries ≡ 0
forgot_whole s log past seen whole = sym past.count ∙ past.none (ap (λ (l : LogView). l.whole) seen ∙ whole)

pub stored_whole : (s : Inside) (log : LogView) → IsPast s.keeps s.past.entries s.forgotten → IsSeen s log → log.whole ≡ true → entries_of s.bytes.items s.items.items ≡ log.entries
stored_whole s log past seen whole = sym (none_before s.past.entries (entries_of s.bytes.items s.items.items) (forgot_whole s log past seen whole)) ∙ ap (λ (l : LogView). l.entries) seen

-- the entries that a log forgot and those in store have times that there are
pub timed_all : (past : List Entry) (bytes : List ℕ) (items : List FullItem) → All (λ (e : Entry). e.time < 2 ^ 64) past → All (λ (i : FullItem). i.item.time < 2 ^ 64) items → All (λ (e : Entry). e.time < 2 ^ 64) (past ++ entries_of bytes items)
timed_all past bytes items given timed = All-append (λ (e : Entry). e.time < 2 ^ 64) past (entries_of bytes items) given (entries_timed bytes items timed)

-- and there are so many of them
pub count_all : (past : List Entry) (bytes : List ℕ) (items : List FullItem) → length (past ++ entries_of bytes items) ≡ length past + length items
count_all past bytes items = omega (arith, length-append past (entries_of bytes items), length-map items (item_entry bytes))
