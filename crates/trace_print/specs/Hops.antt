-- The name of a hop by its two ends.
use Rattle.std.specs.Prelude.{ℕ, ◌≡◌, List, [], ◌++◌, Option, Some, None, slice_get, codes}
use Rattle.tlm_model.specs.declared.platform.Platform.{Platform}
use Rattle.tlm_types.specs.declared.words.ObjectNo.{ObjectNo}
use Rattle.tlm_types.specs.declared.words.ObjectNo.TheVariants.{Memory as memory_object, Hop, Pool}
use Rattle.report_model.specs.Report.{hop_word, hop_words, initiator_name, memory_name, name_of_router, target_name}
use Rattle.std.specs.Fmt.{decimal}
use Rattle.tlm_types.specs.declared.entry.Head.{Head}
use Rattle.trace_print.specs.declared.names.InitiatorWords.{InitiatorWords}
use Rattle.route_plan.specs.declared.ends.HopEnds.{HopEnds}
use Rattle.route_plan.specs.declared.ends.Up.{Up}
use Rattle.route_plan.specs.declared.ends.Up.TheVariants.{Initiator, Router}
use Rattle.route_plan.specs.Routes.{ends_of}

-- the name of what stands before a hop
abbrev pub up_name : Platform → Up → List ℕ
up_name p (Initiator i) = initiator_name p i
up_name p (Router r w) = name_of_router (slice_get p.routers r)

abbrev pub hop_word_of : Platform → HopEnds → List ℕ
hop_word_of p ends = hop_word (up_name p ends.up) (target_name p ends.down)

abbrev pub hop_word_by : Platform → Option HopEnds → List ℕ
hop_word_by p None = []
hop_word_by p (Some ends) = hop_word_of p ends

-- the ends of a hop, and of no other object
abbrev pub ends_at : Platform → ObjectNo → Option HopEnds
ends_at p (memory_object m) = None
ends_at p (Hop h) = slice_get (ends_of p) h
ends_at p (Pool i) = None

-- the name of an object, where the ends of a hop are given
abbrev pub object_word_by : Platform → ObjectNo → Option HopEnds → List ℕ
object_word_by p (memory_object m) ends = memory_name p m
object_word_by p (Hop h) ends = hop_word_by p ends
object_word_by p (Pool i) ends = initiator_name p i ++ codes ".pool"

-- this holds of each row and its number
abbrev pub AreEach : {X : Type 0} → (ℕ → X → Type 0) → List X → Type 0
AreEach P rows = (n : ℕ) (row : _) → slice_get rows n ≡ Some row → P n row

-- these are the words of the initiator of this number
pub record AreInitiatorWords (p : Platform) (number : ℕ) (words : InitiatorWords) : Type 0 where
  pub txns : words.txns.word ≡ initiator_name p number ++ codes "."
  pub pool : words.pool ≡ initiator_name p number ++ codes ".pool"

abbrev pub IsHopWord : Platform → ℕ → List ℕ → Type 0
IsHopWord p number word = slice_get (hop_words p) number ≡ Some word

abbrev pub IsMemoryWord : Platform → ℕ → List ℕ → Type 0
IsMemoryWord p number word = word ≡ memory_name p number

-- what the line of an entry with this head begins with
abbrev pub front_of : Platform → Head → List ℕ
front_of p head =
    (decimal head.position ++ codes " ") ++ ((decimal head.time ++ codes " ") ++ ((initiator_name p head.txn.initiator ++ codes ".") ++ (decimal head.txn.seq ++ codes " ")))
