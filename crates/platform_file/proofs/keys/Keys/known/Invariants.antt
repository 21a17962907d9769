use Rattle.std.proofs.Common.{◌≡◌, map, string_bytes}
use Rattle.toml.specs.View.{table_view}
use Rattle.platform_file.specs.Keys.{known_keys}
use Rattle.platform_file.proofs.KnownKeys.{among_known}
use Rattle.platform_file.proofs.keys.Keys.known.Given as goal

abbrev pub invariant-loop-key : goal.invariant-loop-key
invariant-loop-key l = among_known (map (λ k. k.now) l.keys) l.self.place (map string_bytes l.key-iterator) ≡ known_keys (map (λ k. k.now) l.keys) l.self.place (table_view l.self.table.now)
