-- Worked documents: texts, platforms and refusals that were made by hand.
use Rattle.std.specs.Prelude.{ℕ, List, [], ◌∷◌, ◌++◌, true, false, codes}
use Rattle.tlm_types.specs.declared.words.ReqMode.TheVariants as req
use Rattle.tlm_types.specs.declared.words.RespMode.TheVariants as resp
use Rattle.tlm_model.specs.declared.platform.Platform.{Platform}
use Rattle.tlm_model.specs.declared.platform.Style.TheVariants as style
use Rattle.tlm_model.specs.declared.platform.Target.TheVariants as target
use Rattle.platform_model.specs.declared.fault.PlatformCode.TheVariants.{UnknownKey, NameTwice}
use Rattle.platform_model.specs.Reading.{PlatformRefusal}

-- an initiator, a router with two windows, and two memories
unfoldable pub example : List ℕ
example =
    codes "# A processor that runs a script, behind a bus with data and constants.\n"
    ++ codes "version = 1             # of the format\n"
    ++ codes "quantum = 1000          # in picoseconds; 0 syncs after each operation\n"
    ++ codes "\n"
    ++ codes "[[initiator]]\n"
    ++ codes "name = \"cpu\"\n"
    ++ codes "style = \"blocking\"      # or \"direct\", \"fourphase\"\n"
    ++ codes "script = \"cpu.txt\"      # a text of 1 to 200 bytes\n"
    ++ codes "bind = \"bus\"            # a router or a memory\n"
    ++ codes "\n"
    ++ codes "[[router]]\n"
    ++ codes "name = \"bus\"\n"
    ++ codes "latency = 5             # in picoseconds\n"
    ++ codes "\n"
    ++ codes "[[router.window]]       # addresses first to last lead to `to`\n"
    ++ codes "first = 0x0000\n"
    ++ codes "last = 0xffff\n"
    ++ codes "to = \"ram\"              # where `first` is seen as 0\n"
    ++ codes "\n"
    ++ codes "[[router.window]]\n"
    ++ codes "first = 0x1_0000\n"
    ++ codes "last = 0x1_00ff\n"
    ++ codes "to = \"rom\"\n"
    ++ codes "base = 0x100            # where `first` is seen as 256\n"
    ++ codes "\n"
    ++ codes "[[memory]]\n"
    ++ codes "name = \"ram\"\n"
    ++ codes "size = 65536            # in bytes\n"
    ++ codes "latency = 20\n"
    ++ codes "\n"
    ++ codes "[[memory]]\n"
    ++ codes "name = \"rom\"\n"
    ++ codes "size = 0x200\n"
    ++ codes "latency = 30\n"
    ++ codes "write = false           # writes are refused\n"

-- the platform of the example
unfoldable pub example_platform : Platform
example_platform = record {
  version = 1;
  quantum = 1000;
  initiators = record { name = codes "cpu"; style = style.Blocking; script = codes "cpu.txt"; bind = target.Router 0; pool = 4; response = resp.Accept } ∷ [];
  routers = record {
    name = codes "bus";
    latency = 5;
    accept = req.Accept;
    lanes = 4;
    windows =
        record { first = 0; last = 65535; to = target.Memory 0; base = 0 }
        ∷ record { first = 65536; last = 65791; to = target.Memory 1; base = 256 }
        ∷ [];
  } ∷ [];
  memories = record {
    name = codes "ram";
    traits = record { size = 65536; latency = 20; readable = true; writable = true; fetch_add = false; enables = true; streaming = true; dmi = true; gates = 16 };
    reply = req.Accept;
    lanes = 4;
  } ∷ record {
    name = codes "rom";
    traits = record { size = 512; latency = 30; readable = true; writable = false; fetch_add = false; enables = true; streaming = true; dmi = true; gates = 16 };
    reply = req.Accept;
    lanes = 4;
  } ∷ [];
}

-- a platform of version 2, one of whose memories allows no fetch_add
unfoldable pub version_2 : List ℕ
version_2 =
    codes "version = 2\n"
    ++ codes "[[initiator]]\nname = 'cpu'\nstyle = 'blocking'\nscript = 'a.txt'\nbind = 'ram'\n"
    ++ codes "[[memory]]\nname = 'ram'\nsize = 16\n"
    ++ codes "[[memory]]\nname = 'rom'\nsize = 16\nfetch_add = false\n"

unfoldable pub version_2_platform : Platform
version_2_platform = record {
  version = 2;
  quantum = 0;
  initiators = record { name = codes "cpu"; style = style.Blocking; script = codes "a.txt"; bind = target.Memory 0; pool = 4; response = resp.Accept } ∷ [];
  routers = [];
  memories = record {
    name = codes "ram";
    traits = record { size = 16; latency = 0; readable = true; writable = true; fetch_add = true; enables = true; streaming = true; dmi = true; gates = 16 };
    reply = req.Accept;
    lanes = 4;
  } ∷ record {
    name = codes "rom";
    traits = record { size = 16; latency = 0; readable = true; writable = true; fetch_add = false; enables = true; streaming = true; dmi = true; gates = 16 };
    reply = req.Accept;
    lanes = 4;
  } ∷ [];
}

-- the key of version 2 in version 1
unfoldable pub key_of_version_2 : List ℕ
key_of_version_2 =
    codes "version = 1\n"
    ++ codes "[[initiator]]\nname = 'cpu'\nstyle = 'blocking'\nscript = 'a.txt'\nbind = 'ram'\n"
    ++ codes "[[memory]]\nname = 'ram'\nsize = 16\nfetch_add = true\n"

-- its refusal
abbrev pub unknown_in_version_1 : PlatformRefusal
unknown_in_version_1 = record { code = UnknownKey; table = codes "memory[0]"; key = codes "fetch_add" }

-- two unknown keys
unfoldable pub unknown_keys : List ℕ
unknown_keys = codes "version = 1\nb = 1\na = 2\n"

-- the refusal of the lesser one
abbrev pub least_unknown_key : PlatformRefusal
least_unknown_key = record { code = UnknownKey; table = codes "platform"; key = codes "a" }

-- an initiator and a memory of one name
unfoldable pub shared_name : List ℕ
shared_name =
    codes "version = 1\n"
    ++ codes "[[initiator]]\nname = 'ram'\nstyle = 'direct'\nscript = 'a.txt'\nbind = 'ram'\n"
    ++ codes "[[memory]]\nname = 'ram'\nsize = 1\n"

-- the refusal of the memory, which comes second
abbrev pub second_bearer : PlatformRefusal
second_bearer = record { code = NameTwice; table = codes "memory[0]"; key = codes "name" }
