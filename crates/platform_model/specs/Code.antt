-- The codes as they are printed.
use Rattle.std.specs.Prelude.{ℕ, List, codes}
use Rattle.platform_model.specs.declared.fault.PlatformCode.{PlatformCode}
use Rattle.platform_model.specs.declared.fault.PlatformCode.TheVariants.{Syntax, UnknownKey, MissingKey, WrongType, BadName, UnknownWord, OutOfRange, NoAccess, NameTwice, UnknownTarget, EmptyWindow, PastEnd, Overlap, TooMuchMemory, TooManyGates, Unbound, Cycle, TooDeep, TwoPaths, TooManyEntries, TooMuchData}

-- the word of a code
abbrev pub platform_code_word : PlatformCode → List ℕ
platform_code_word Syntax = codes "syntax"
platform_code_word UnknownKey = codes "unknown_key"
platform_code_word MissingKey = codes "missing_key"
platform_code_word WrongType = codes "wrong_type"
platform_code_word BadName = codes "bad_name"
platform_code_word UnknownWord = codes "unknown_word"
platform_code_word OutOfRange = codes "out_of_range"
platform_code_word NoAccess = codes "no_access"
platform_code_word NameTwice = codes "name_twice"
platform_code_word UnknownTarget = codes "unknown_target"
platform_code_word EmptyWindow = codes "empty_window"
platform_code_word PastEnd = codes "past_end"
platform_code_word Overlap = codes "overlap"
platform_code_word TooMuchMemory = codes "too_much_memory"
platform_code_word TooManyGates = codes "too_many_gates"
platform_code_word Unbound = codes "unbound"
platform_code_word Cycle = codes "cycle"
platform_code_word TooDeep = codes "too_deep"
platform_code_word TwoPaths = codes "two_paths"
platform_code_word TooManyEntries = codes "too_many_entries"
platform_code_word TooMuchData = codes "too_much_data"
