-- The first of several hops at which something waits.
use Rattle.std.specs.Prelude.{ℕ, ◌≡◌, ◌<◌, ◌≤◌, Bool, false, List, ◌++◌, length, Option, Some, None}
use Rattle.atomic_table.specs.Seated.{TableId}
use Rattle.one_history.specs.declared.entry.Entry.{Entry}
use Rattle.one_history.specs.declared.view.Frame.{Frame}
use Rattle.one_history.specs.declared.view.View.{View}
use Rattle.tlm_types.specs.declared.entry.Content.{Content}
use Rattle.tlm_model.specs.Plan.{Plan}
use Rattle.route_plan.specs.Valid.{hop_count}
use Rattle.node_hops.specs.Looks.{IsFirst, vain_looks}
use Rattle.router_moves.specs.Items.{IsRequest}
use Rattle.router_moves.specs.Moves.{HasFetchedUp}
use Rattle.router_node.specs.declared.finds.Found.{Found}
use Rattle.router_moves.specs.declared.items.RouterRequest.{RouterRequest}

-- the hop of a window
pub record IsHopBelow (p : Plan) (hop : ℕ) : Type 0 where
  pub there : hop < hop_count p.platform
  pub window : length p.platform.initiators ≤ hop

-- a response that was fetched from a hop below
pub record IsFound (frame : Frame Plan) (tokens : TableId) (known : List (Entry Content)) (f : Found) : Type 0 where
  pub below : IsHopBelow frame.world f.hop
  pub fetched : HasFetchedUp frame tokens known f.hop f.fetched

-- The hops at which a pump looks: all of these; in haste some that stand together.
pub record AreLookedAt (hasty : Bool) (hops some : List ℕ) : Type 0 where
  pub before : List ℕ
  pub after : List ℕ
  pub part : hops ≡ before ++ (some ++ after)
  pub all : hasty ≡ false → some ≡ hops

-- A response was fetched from a hop below; or none waits at any.
abbrev pub HasFoundBack : Frame Plan → TableId → List ℕ → View Content Plan → View Content Plan → Option Found → Type 0
HasFoundBack frame tokens hops was is None = is.looks ≡ was.looks ++ vain_looks frame.world 2 hops
HasFoundBack frame tokens hops was is (Some f) = IsFirst frame.world 2 hops f.hop was.looks is.looks × IsFound frame tokens is.known f

-- A request was fetched from a hop above; or none waits at any.
abbrev pub HasFoundRequest : Frame Plan → TableId → ℕ → List ℕ → View Content Plan → View Content Plan → Option RouterRequest → Type 0
HasFoundRequest frame tokens router hops was is None = is.looks ≡ was.looks ++ vain_looks frame.world 1 hops
HasFoundRequest frame tokens router hops was is (Some r) = IsFirst frame.world 1 hops r.hop was.looks is.looks × (r.hop < hop_count frame.world.platform) × IsRequest frame tokens is.known router r
