-- The entries of a history, as the definitions of a platform read them.
use Rattle.std.specs.Prelude.{List, map}
use Rattle.one_history.specs.declared.entry.Entry.{Entry as HistoryEntry}
use Rattle.tlm_types.specs.declared.entry.Content.{Content}
use Rattle.tlm_types.specs.declared.entry.Entry.{Entry}
use Rattle.tlm_model.specs.declared.platform.Platform.{Platform}
use Rattle.cargo_model.specs.Known.{event_of}

-- the number of an object says which memory, hop or pool it is
abbrev pub entry_read : Platform → HistoryEntry Content → Entry
entry_read p e = (event_of p e).entry

abbrev pub entries_read : Platform → List (HistoryEntry Content) → List Entry
entries_read p es = map (entry_read p) es
