-- Lists in which each entry stands at its position.
use Rattle.std.specs.Prelude.{◌≡◌, List, length, take}
use Rattle.view_lists.specs.Lists.{Within}
use Rattle.one_history.specs.declared.entry.Entry.{Entry}
use Rattle.one_history.specs.Closing.{Numbered}

-- one that has all entries of another begins with it
abbrev pub BeginAlike : Type 0 → Type 0
BeginAlike E = (short long : List (Entry E)) → Numbered short → Numbered long → Within short long → short ≡ take (length short) long
