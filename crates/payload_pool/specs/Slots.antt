-- The slots of a pool, and the references to the payload of each that are out.
use Rattle.std.specs.Prelude.{ℕ, ◌≡◌, ◌+◌, ◌*◌, ◌/◌, ◌%◌, ◌<◌, ◌==◌, Bool, true, false, not, nat_lt, List, [], ◌∷◌, ◌++◌, length, Option, Some, None, slice_index_or, if◌then◌else◌, min}
use Rattle.std.specs.List.{count_by, position_or_len, remove, sum_by}
use Rattle.std.specs.Option.{option_or}
use Rattle.tlm_types.specs.declared.words.TxnId.{TxnId}

-- A slot: how many bytes its payload can hold, while no baton has it, and its latest life: for which transaction, the position of its Take,
-- how many Acquires it has, and the numbers of its references that are out. A hold's is the number of Acquires before its own, the
-- baton's is 15.
pub record SlotView : Type 0 where
  pub kept : Option ℕ
  pub txn : TxnId
  pub position : ℕ
  pub acquired : ℕ
  pub out : List ℕ

-- a slot without a life
abbrev pub blank_slot : SlotView
blank_slot = record { kept = None; txn = record { initiator = 0; seq = 0 }; position = 0; acquired = 0; out = [] }

-- a free slot with a payload that can hold so many bytes
abbrev pub fresh_slot : ℕ → SlotView
fresh_slot room = record blank_slot { kept = Some room }

-- the slot at a place
abbrev pub slot_at : List SlotView → ℕ → SlotView
slot_at slots k = slice_index_or slots k blank_slot

-- no reference to its payload is out
abbrev pub is_free : SlotView → Bool
is_free s = length s.out == 0

abbrev pub is_live : SlotView → Bool
is_live s = not (is_free s)

-- how often a number stands in a list
abbrev pub tally : ℕ → List ℕ → ℕ
tally n xs = count_by (λ m. m == n) xs

-- Names of tokens: a hold's is 32 times the position of its Take and its number, and a baton's that product, 16 and the number of
-- Acquires so far. So a part of 16 and more is a baton's.
abbrev pub name_of : ℕ → ℕ → ℕ
name_of position part = 32 * position + part

-- the number of a name's reference: 15 for a baton's
abbrev pub reference_number : ℕ → ℕ
reference_number name = min (name % 32) 15

-- how many Acquires a baton of this name counts, and the number of a hold of this name
abbrev pub acquired_of : ℕ → ℕ
acquired_of name = name % 16

-- how many references of a slot have names with this part
abbrev pub parts_out : ℕ → SlotView → ℕ
parts_out part s = if nat_lt part 15 then tally part s.out else if part == 16 + s.acquired then tally 15 s.out else 0

-- how many references of a slot have this name
abbrev pub names_out : ℕ → SlotView → ℕ
names_out name s = if name / 32 == s.position then parts_out (name % 32) s else 0

abbrev pub has_name : ℕ → SlotView → Bool
has_name name s = nat_lt 0 (names_out name s)

-- how many references of all slots have this name
abbrev pub all_out : ℕ → List SlotView → ℕ
all_out name slots = sum_by (names_out name) slots

-- the least free slot, and the slot of a reference
abbrev pub free_place : List SlotView → ℕ
free_place slots = position_or_len is_free slots

abbrev pub slot_place : ℕ → List SlotView → ℕ
slot_place name slots = position_or_len (has_name name) slots

-- the slot after its Take
abbrev pub taken_slot : TxnId → ℕ → SlotView
taken_slot txn position = record { kept = None; txn = txn; position = position; acquired = 0; out = 15 ∷ [] }

-- after an Acquire
abbrev pub acquired_more : SlotView → SlotView
acquired_more s = record s { acquired = s.acquired + 1; out = s.out ++ s.acquired ∷ [] }

-- the list without the first that is this number
abbrev pub without : ℕ → List ℕ → List ℕ
without n xs = remove xs (position_or_len (λ m. m == n) xs)

-- after the reference of this number was given back, with a payload that it brought back
abbrev pub given_back : ℕ → Option ℕ → SlotView → SlotView
given_back n kept s = record s { kept = option_or kept s.kept; out = without n s.out }
