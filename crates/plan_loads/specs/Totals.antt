-- What a run counts in all, and the line that tells it.
use Rattle.std.specs.Prelude.{ℕ, ◌<◌, ◌^◌, List, [], ◌∷◌, ◌++◌, Bool, true, false, count_by, sum_by, codes}
use Rattle.std.specs.Fmt.{decimal}
use Rattle.tlm_types.specs.declared.ends.EndOf.{EndOf}
use Rattle.tlm_types.specs.declared.entry.Entry.{Entry}
use Rattle.tlm_types.specs.declared.entry.What.{What}
use Rattle.tlm_types.specs.declared.entry.What.TheVariants.{Take}
use Rattle.tlm_types.specs.Entries.{is_access}
use Rattle.tlm_model.specs.Plan.{Plan, Initiator, initiators_of}
use Rattle.tlm_model.specs.Requests.{numbers_in}
use Rattle.tlm_model.specs.Rounds.{syncs_of}
use Rattle.tlm_model.specs.Text.{line_of}
use Rattle.run_outcome.specs.declared.outcome.Outcome.{Outcome}
use Rattle.plan_loads.specs.declared.totals.Totals.{Totals}

abbrev pub is_take : What → Bool
is_take (Take slot) = true
is_take w = false

-- how many accesses a history has, and how many payloads were taken in it
abbrev pub accesses_in : List Entry → ℕ
accesses_in h = count_by (λ (e : Entry). is_access e.what) h

abbrev pub takes_in : List Entry → ℕ
takes_in h = count_by (λ (e : Entry). is_take e.what) h

-- the totals of a plan and its history: the sequence numbers of all scripts, the accesses and the takes of the history,
-- and the syncs of all initiators
abbrev pub totals_of : Plan → List Entry → Totals
totals_of p h = record {
  transactions = sum_by (λ (i : Initiator). numbers_in i.script) (initiators_of p);
  accesses = accesses_in h;
  payloads = takes_in h;
  syncs = sum_by (λ (i : Initiator). syncs_of p.platform i) (initiators_of p);
}

-- the line that tells the totals of what was generated of a seed
abbrev pub totals_line : ℕ → Totals → List ℕ
totals_line seed t = line_of
    (codes "gen" ∷ decimal seed ∷ codes "transactions" ∷ decimal t.transactions ∷ codes "accesses" ∷ decimal t.accesses
    ∷ codes "payloads" ∷ decimal t.payloads ∷ codes "syncs" ∷ decimal t.syncs ∷ [])

-- a word of it with its count, each after a space
abbrev pub counted : List ℕ → ℕ → List ℕ
counted word n = 32 ∷ word ++ 32 ∷ decimal n

-- what the ends of initiators count
abbrev pub transactions_in : List EndOf → ℕ
transactions_in ends = sum_by (λ (e : EndOf). e.transactions) ends

abbrev pub syncs_in : List EndOf → ℕ
syncs_in ends = sum_by (λ (e : EndOf). e.syncs) ends

-- the totals of an outcome
abbrev pub totals_in : Outcome → Totals
totals_in o = record {
  transactions = transactions_in o.ends;
  accesses = accesses_in o.history.entries;
  payloads = takes_in o.history.entries;
  syncs = syncs_in o.ends;
}

-- its sums fit 64 bits
pub record HasSmallTotals (o : Outcome) : Type 0 where
  pub transactions : transactions_in o.ends < 2 ^ 64
  pub syncs : syncs_in o.ends < 2 ^ 64
