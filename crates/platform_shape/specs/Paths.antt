-- Paths of a platform: where initiators' bindings and routers' windows lead, whatever the addresses.
use Rattle.std.specs.Prelude.{ℕ, zero, suc, ◌+◌, Bool, true, false, ◌||◌, ◌==◌, List, [], length, map, sum_by, Option, Some, None, slice_get, if◌then◌else◌}
use Rattle.std.specs.List.{list_any}
use Rattle.tlm_model.specs.declared.platform.InitiatorRow.{InitiatorRow}
use Rattle.tlm_model.specs.declared.platform.Platform.{Platform}
use Rattle.tlm_model.specs.declared.platform.RouterRow.{RouterRow}
use Rattle.tlm_model.specs.declared.platform.Target.{Target}
use Rattle.tlm_model.specs.declared.platform.Target.TheVariants.{Router, Memory}
use Rattle.tlm_model.specs.declared.platform.WindowRow.{WindowRow}

-- a test as a count
abbrev pub once : Bool → ℕ
once b = if b then 1 else 0

abbrev pub is_target : Target → Target → Bool
is_target (Router r) (Router s) = r == s
is_target (Router r) (Memory m) = false
is_target (Memory m) (Router r) = false
is_target (Memory m) (Memory n) = m == n

abbrev targets_of_row : Option RouterRow → List Target
targets_of_row None = []
targets_of_row (Some row) = map (λ (w : WindowRow). w.to) row.windows

-- where the windows of a router lead; nothing leads on from a memory
abbrev pub targets_of : Platform → Target → List Target
targets_of p (Router r) = targets_of_row (slice_get p.routers r)
targets_of p (Memory m) = []

-- a path of at most k windows leads from t to c
abbrev pub reaches : ℕ → Platform → Target → Target → Bool
reaches zero p t c = is_target t c
reaches (suc k) p t c = is_target t c || list_any (λ u. reaches k p u c) (targets_of p t)

-- some path leads from an initiator to c: one that comes twice to a router can be cut short
abbrev pub has_path : Platform → InitiatorRow → Target → Bool
has_path p i c = reaches (length p.routers) p i.bind c

-- a path leads from a router back to it
abbrev pub is_on_cycle : Platform → ℕ → Bool
is_on_cycle p r = list_any (λ u. reaches (length p.routers) p u (Router r)) (targets_of p (Router r))

-- a path from t visits more than k routers
abbrev pub is_deeper : ℕ → Platform → Target → Bool
is_deeper k p (Memory m) = false
is_deeper zero p (Router r) = true
is_deeper (suc k) p (Router r) = list_any (λ u. is_deeper k p u) (targets_of p (Router r))

-- how many paths of at most k windows lead from t to c
abbrev pub paths_to : ℕ → Platform → Target → Target → ℕ
paths_to zero p t c = once (is_target t c)
paths_to (suc k) p t c = once (is_target t c) + sum_by (λ u. paths_to k p u c) (targets_of p t)

-- something leads to c: a binding or a window, of whatever router
abbrev pub is_named : Platform → Target → Bool
is_named p c =
    list_any (λ (i : InitiatorRow). is_target i.bind c) p.initiators
    || list_any (λ (r : RouterRow). list_any (λ (w : WindowRow). is_target w.to c) r.windows) p.routers
