-- What a note knows, as the definitions of a platform read it, and what tickets may still be wanted for.
use Rattle.std.specs.Prelude.{ℕ, ◌+◌, ◌&&◌, List, zero, suc, if◌then◌else◌}
use Rattle.std.specs.List.{list_any}
use Rattle.one_history.specs.declared.entry.Entry.{Entry as HistoryEntry}
use Rattle.shared_object.specs.Written.{written_at}
use Rattle.tlm_types.specs.declared.entry.Content.{Content}
use Rattle.tlm_model.specs.declared.platform.Target.TheVariants.{Memory}
use Rattle.tlm_model.specs.Plan.{Plan, Initiator}
use Rattle.tlm_model.specs.Scripts.{first_gate}
use Rattle.platform_shape.specs.Paths.{has_path}
use Rattle.route_plan.specs.Planned.{asks_in, invalidates, is_direct}
use Rattle.dmi_grants.specs.Made.{count_without, dmi_gates, is_given_in, unclosed}
pub use Rattle.dmi_grants.specs.Known.{entries_read, entry_read, known_to}

-- how many gates of memory m aren't known to be given
abbrev pub ungiven : Plan → List (HistoryEntry Content) → ℕ → ℕ
ungiven p known m = count_without (is_given_in (written_at m known)) (first_gate p.platform m) (dmi_gates p m)

-- and how many of the first n memories
abbrev pub all_ungiven : Plan → List (HistoryEntry Content) → ℕ → ℕ
all_ungiven p known zero = 0
all_ungiven p known (suc n) = all_ungiven p known n + ungiven p known n

-- For so many gates of memory m an initiator may still want a ticket: a direct one with a path to it for a grant of each that isn't known to be given,
-- and one whose script has an invalidation that is routed to it for a closing of each that isn't known to be closed.
abbrev pub gates_left : Plan → Initiator → List (HistoryEntry Content) → ℕ → ℕ
gates_left p i known m =
    (if is_direct i.row.style && has_path p.platform i.row (Memory m) then ungiven p known m else 0)
    + (if list_any (invalidates p i m) (asks_in i) then unclosed p m (written_at m known) else 0)
