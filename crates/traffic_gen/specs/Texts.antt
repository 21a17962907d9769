-- The texts that are generated of a number.
use Rattle.std.specs.Prelude.{ℕ, ◌+◌, ◌-◌, ◌*◌, ◌/◌, ◌%◌, ◌^◌, zero, suc, List, [], ◌∷◌, ◌++◌, false, codes, length, replicate, flat_map, if◌then◌else◌, ◌==◌, ◌||◌}
use Rattle.std.specs.Fmt.{digits}
use Rattle.tlm_model.specs.Text.{address_word, line_of}
use Rattle.traffic_gen.specs.Numbers.{drawn, next}

-- a number below 2^64 as 16 lower-case hexadecimal digits
abbrev pub data_of : ℕ → List ℕ
data_of x = let ds = digits 16 false x in replicate (16 - length ds) 48 ++ ds

-- what a line's addresses are made of
abbrev pub value_of : ℕ → ℕ
value_of x = x / 2 ^ 33

-- an address at the memory on the bus, and at those behind the bridge
abbrev pub on_bus : ℕ → ℕ
on_bus x = 8 * (value_of x % 8192)

abbrev pub behind_bridge : ℕ → ℕ → ℕ
behind_bridge first x = first + 8 * (value_of x % 512)

abbrev pub write_line : ℕ → ℕ → List ℕ
write_line address x = line_of (codes "write" ∷ address_word address ∷ data_of x ∷ [])

abbrev pub read_line : ℕ → List ℕ
read_line address = line_of (codes "read" ∷ address_word address ∷ codes "8" ∷ [])

-- the line of a number, by its place among eight
abbrev pub line : ℕ → ℕ → List ℕ
line k x =
    if (k == 0) || (k == 2) then write_line (on_bus x) x
    else (if k == 4 then read_line (behind_bridge 0x100000 x)
    else (if k == 5 then write_line (behind_bridge 0x101000 x) x
    else (if k == 6 then read_line (behind_bridge 0x101000 x) else read_line (on_bus x))))

-- n lines of a script, from line k on; the first is made of the number that follows x
unfoldable pub lines : ℕ → ℕ → ℕ → List ℕ
lines k zero x = []
lines k (suc n) x = line (k % 8) (next x) ++ lines (k + 1) n (next x)

-- so many scripts of 8,000 lines each; a script goes on where the one before ended
unfoldable pub scripts : ℕ → ℕ → List (List ℕ)
scripts zero x = []
scripts (suc m) x = lines 0 8000 x ∷ scripts m (drawn 8000 x)

-- the platform
unfoldable pub platform_text : List ℕ
platform_text = flat_map (λ words. codes words ++ 10 ∷ [])
    ("version = 1"
    ∷ "quantum = 1000"
    ∷ "[[initiator]]"
    ∷ "name = \"c0\""
    ∷ "style = \"blocking\""
    ∷ "script = \"c0.txt\""
    ∷ "bind = \"bus\""
    ∷ "[[initiator]]"
    ∷ "name = \"c1\""
    ∷ "style = \"blocking\""
    ∷ "script = \"c1.txt\""
    ∷ "bind = \"bus\""
    ∷ "[[initiator]]"
    ∷ "name = \"d0\""
    ∷ "style = \"direct\""
    ∷ "script = \"d0.txt\""
    ∷ "bind = \"bus\""
    ∷ "[[initiator]]"
    ∷ "name = \"f0\""
    ∷ "style = \"fourphase\""
    ∷ "script = \"f0.txt\""
    ∷ "bind = \"bus\""
    ∷ "[[router]]"
    ∷ "name = \"bus\""
    ∷ "latency = 5"
    ∷ "[[router.window]]"
    ∷ "first = 0x0"
    ∷ "last = 0xffff"
    ∷ "to = \"ram\""
    ∷ "[[router.window]]"
    ∷ "first = 0x100000"
    ∷ "last = 0x1fffff"
    ∷ "to = \"bridge\""
    ∷ "[[router]]"
    ∷ "name = \"bridge\""
    ∷ "latency = 10"
    ∷ "[[router.window]]"
    ∷ "first = 0x0"
    ∷ "last = 0xfff"
    ∷ "to = \"rom\""
    ∷ "[[router.window]]"
    ∷ "first = 0x1000"
    ∷ "last = 0x1fff"
    ∷ "to = \"scratch\""
    ∷ "[[memory]]"
    ∷ "name = \"ram\""
    ∷ "size = 65536"
    ∷ "latency = 20"
    ∷ "[[memory]]"
    ∷ "name = \"rom\""
    ∷ "size = 4096"
    ∷ "latency = 30"
    ∷ "write = false"
    ∷ "[[memory]]"
    ∷ "name = \"scratch\""
    ∷ "size = 4096"
    ∷ "latency = 15" ∷ [])
