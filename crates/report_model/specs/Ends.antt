-- How an initiator ends, by its style, and when it issued what was refused to it.
use Rattle.std.specs.Prelude.{ℕ, ◌≡◌, Bool, true, false, List, map, get_or}
use Rattle.tlm_types.specs.declared.ends.EndOf.{EndOf}
use Rattle.tlm_types.specs.declared.ends.RefusedItem.{RefusedItem}
use Rattle.tlm_types.specs.declared.entry.Entry.{Entry}
use Rattle.tlm_types.specs.declared.words.Command.{Command}
use Rattle.tlm_types.specs.declared.words.Command.TheVariants.{Read, Ignore}
use Rattle.tlm_model.specs.declared.platform.Style.{Style}
use Rattle.tlm_model.specs.declared.platform.Style.TheVariants.{Blocking, Direct, FourPhase}
use Rattle.tlm_model.specs.Plan.{Plan, Initiator}
use Rattle.tlm_model.specs.Requests.{Asked, Transport, DebugRead, Invalidation, Request, end_of, numbers_in, refused_of}
use Rattle.tlm_model.specs.Rounds.{syncs_of}
use Rattle.flow_model.specs.Issue.{current_from, ends_of, issues_from, settled}

-- the end of a four-phase initiator by the ends of its accesses: the greatest of them and of its current time
abbrev pub end_with : (ℕ → ℕ) → Initiator → ℕ
end_with ends i = settled ends (numbers_in i.script) (current_from ends 0 0 i.script)

-- the current time at which a four-phase initiator issues request s, by the ends of its accesses
abbrev pub issued_with : (ℕ → ℕ) → Initiator → ℕ → ℕ
issued_with ends i s = get_or (issues_from ends 0 0 i.script) s 0

abbrev pub end_by_style : Style → Plan → List Entry → Initiator → ℕ
end_by_style Blocking p h i = end_of p.platform i
end_by_style Direct p h i = end_of p.platform i
end_by_style FourPhase p h i = end_with (ends_of p h i.number) i

-- the end of an initiator
abbrev pub end_of_initiator : Plan → List Entry → Initiator → ℕ
end_of_initiator p h i = end_by_style i.row.style p h i

abbrev pub issue_by_style : Style → Plan → List Entry → Initiator → Request → ℕ
issue_by_style Blocking p h i r = r.time
issue_by_style Direct p h i r = r.time
issue_by_style FourPhase p h i r = issued_with (ends_of p h i.number) i r.seq

-- the time at which an initiator issued a request
abbrev pub time_of_issue : Plan → List Entry → Initiator → Request → ℕ
time_of_issue p h i r = issue_by_style i.row.style p h i r

abbrev is_debug : Asked → Bool
is_debug (Transport a) = false
is_debug (DebugRead a) = true
is_debug (Invalidation n) = false

abbrev command_of : Asked → Command
command_of (Transport a) = a.command
command_of (DebugRead a) = Read
command_of (Invalidation n) = Ignore

-- how a request without a route is told that was issued at this time
abbrev pub refused_at : Request → ℕ → RefusedItem
refused_at r t = record { seq = r.seq; time = t; debug = is_debug r.asked; command = command_of r.asked; address = r.address }

-- how an initiator ended is what the report says of it
pub record IsEndOf (p : Plan) (i : Initiator) (h : List Entry) (end : EndOf) : Type 0 where
  pub transactions : end.transactions ≡ numbers_in i.script
  pub syncs : end.syncs ≡ syncs_of p.platform i
  pub time : end.end ≡ end_of_initiator p h i
  pub refused : end.refused.items ≡ map (λ r. refused_at r (time_of_issue p h i r)) (refused_of p.platform i h)
