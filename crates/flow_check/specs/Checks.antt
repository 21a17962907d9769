-- Tests of the sequences of a hop, and the times of short histories.
use Rattle.std.specs.Prelude.{Bool, true, false, ◌&&◌, ◌||◌, List, [], ◌∷◌, IsTrue}
use Rattle.std.specs.List.{list_any}
use Rattle.tlm_types.specs.declared.words.TlmSync.{TlmSync}
use Rattle.tlm_types.specs.declared.words.TlmSync.TheVariants.{Accepted, Updated, Completed}
use Rattle.tlm_types.specs.declared.words.ReqMode.{ReqMode}
use Rattle.tlm_types.specs.declared.words.RespMode.{RespMode}
use Rattle.tlm_types.specs.declared.words.RespMode.TheVariants as Resp
use Rattle.base_phases.specs.Sequences.{Call, IsSequence, sequences}
use Rattle.flow_model.specs.Table.{IsBegunIn, ending, sequences_of}
use Rattle.flow_model.specs.Ends.{is_same_phase}

abbrev pub is_same_answer : TlmSync → TlmSync → Bool
is_same_answer Accepted Accepted = true
is_same_answer (Updated p) (Updated q) = is_same_phase p q
is_same_answer Completed Completed = true
is_same_answer _ _ = false

abbrev pub is_same_call : Call → Call → Bool
is_same_call c d = is_same_phase c.0 d.0 && is_same_answer c.1 d.1

-- the calls are a prefix of the sequence
abbrev pub is_prefix : List Call → List Call → Bool
is_prefix sequence [] = true
is_prefix [] (c ∷ calls) = false
is_prefix (s ∷ sequence) (c ∷ calls) = is_same_call s c && is_prefix sequence calls

-- the calls are the sequence
abbrev pub is_sequence : List Call → List Call → Bool
is_sequence [] [] = true
is_sequence [] (c ∷ calls) = false
is_sequence (s ∷ sequence) [] = false
is_sequence (s ∷ sequence) (c ∷ calls) = is_same_call s c && is_sequence sequence calls

-- the calls are a prefix of one of these sequences
abbrev pub begins_one : List (List Call) → List Call → Bool
begins_one [] calls = false
begins_one (s ∷ []) calls = is_prefix s calls
begins_one (s ∷ t ∷ ss) calls = is_prefix s calls || begins_one (t ∷ ss) calls

-- the calls begin a sequence of the row
abbrev pub begins_row : ReqMode → RespMode → List Call → Bool
begins_row row resp calls = begins_one (sequences_of row resp) calls

-- the calls are one of the eleven sequences
abbrev pub is_whole : List Call → Bool
is_whole calls = list_any (λ s. is_sequence s calls) sequences

-- the tests find what the definitions say
abbrev pub RowsAreFound : Type 0
RowsAreFound = (row : ReqMode) (resp : RespMode) (calls : List Call) → (IsTrue (begins_row row resp calls) → IsBegunIn (sequences_of row resp) calls) × (IsBegunIn (sequences_of row resp) calls → IsTrue (begins_row row resp calls))

abbrev pub WholesAreFound : Type 0
WholesAreFound = (calls : List Call) → (IsTrue (is_whole calls) → IsSequence calls) × (IsSequence calls → IsTrue (is_whole calls))

-- the calls are one of the three endings
abbrev pub is_ending : List Call → Bool
is_ending calls = list_any (λ r. is_sequence (ending r) calls) (Resp.Accept ∷ Resp.EndResp ∷ Resp.Complete ∷ [])
