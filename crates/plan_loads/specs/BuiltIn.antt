-- The platform of a lone script: one blocking initiator `cpu` on one memory `ram`.
use Rattle.std.specs.Prelude.{ℕ, List, [], ◌∷◌, true, false, codes}
use Rattle.tlm_types.specs.declared.words.MemoryTraits.{MemoryTraits}
use Rattle.tlm_types.specs.declared.words.ReqMode.TheVariants.{Accept}
use Rattle.tlm_types.specs.declared.words.RespMode.TheVariants.{Accept as accept_response}
use Rattle.tlm_model.specs.declared.platform.InitiatorRow.{InitiatorRow}
use Rattle.tlm_model.specs.declared.platform.MemoryRow.{MemoryRow}
use Rattle.tlm_model.specs.declared.platform.Platform.{Platform}
use Rattle.tlm_model.specs.declared.platform.Style.TheVariants.{Blocking}
use Rattle.tlm_model.specs.declared.platform.Target.TheVariants.{Memory}

-- 256 bytes, 10 ps, and all else as in a platform file that says no more
abbrev pub ram : MemoryTraits
ram = record { size = 256; latency = 10; readable = true; writable = true; fetch_add = false; enables = true; streaming = true; dmi = true; gates = 16 }

abbrev pub ram_row : MemoryRow
ram_row = record { name = codes "ram"; traits = ram; reply = Accept; lanes = 4 }

abbrev pub cpu_row : List ℕ → InitiatorRow
cpu_row file = record { name = codes "cpu"; style = Blocking; script = file; bind = Memory 0; pool = 4; response = accept_response }

-- the platform whose one script is this file's: its quantum is 0
abbrev pub built_in_platform : List ℕ → Platform
built_in_platform file = record { version = 1; quantum = 0; initiators = cpu_row file ∷ []; routers = []; memories = ram_row ∷ [] }
