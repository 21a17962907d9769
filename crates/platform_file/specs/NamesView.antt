-- The map of the code as names in order.
use Rattle.std.specs.Prelude.{List, map, Option, String, string_bytes}
use Rattle.std.specs.declared.alloc.Global.{Global}
use Rattle.std.specs.declared.hash.FoldHasher.{FoldHasher}
use Rattle.std.specs.declared.hash.BuildHasherDefault.{BuildHasherDefault}
use Rattle.indexmap.specs.IndexMap.{IndexMap}
use Rattle.tlm_model.specs.declared.platform.Target.{Target}
use Rattle.platform_file.specs.Names.{Names}

-- the entries of the map as names
abbrev pub entries_view : List (String Global × Option Target) → Names
entries_view es = map (λ e. (string_bytes e.0, e.1)) es

-- the map as names
abbrev pub names_view : IndexMap (String Global) (Option Target) (BuildHasherDefault FoldHasher) → Names
names_view m = entries_view m.entries
