-- What a memory has fetched from the first hop at which a request waits.
use Rattle.std.proofs.Common.{◌≡◌, ℕ, ◌<◌, Bool, true, false, List, [], ◌∷◌, ◌++◌, length, take, get_or, Option, Some, None, sym, subst}
use Rattle.std.specs.List.{AllByRecursion}
use Rattle.atomic_table.specs.Seated.{TableId}
use Rattle.one_history.specs.declared.entry.Entry.{Entry}
use Rattle.one_history.specs.declared.view.Frame.{Frame}
use Rattle.one_history.specs.declared.view.View.{View}
use Rattle.tlm_types.specs.declared.entry.Content.{Content}
use Rattle.tlm_model.specs.declared.platform.Target.TheVariants.{Memory}
use Rattle.tlm_model.specs.Plan.{Plan}
use Rattle.token_book.specs.declared.ticket.Ticket.{Ticket}
use Rattle.route_plan.specs.Valid.{hop_count}
use Rattle.plat_net.specs.Places.{hop_place}
use Rattle.node_hops.specs.Hops.{IsHopTo}
use Rattle.node_hops.specs.Looks.{IsFirst, vain_looks}
use Rattle.node_hops.proofs.Looks.{each_at, is_first}
use Rattle.target_node.specs.Items.{IsFetchedAs, IsFetchedWith}
use Rattle.target_node.specs.Node.{FindsFirst}
use Rattle.target_node.specs.declared.items.FromHop.{FromHop}
use Rattle.target_node.specs.declared.items.MemoryRequest.{MemoryRequest}

module _ (frame : Frame Plan) (tokens : TableId) (memory : ℕ) where
  -- a request was fetched from the hop that was asked
  pub hop_of : (known : List (Entry Content)) (at : ℕ) (accepting : Bool) (r : MemoryRequest) (t : Option Ticket) → IsFetchedWith frame tokens memory known at accepting r t → r.hop ≡ at
  hop_of known at true r (Some t) is = is.0
  hop_of known at true r None is = absurd is
  hop_of known at false r None is = is.0
  hop_of known at false r (Some t) is = absurd is

  pub found_first : (accepts : Bool) (xs : List ℕ) (i : ℕ) (old mid new : View Content Plan) (f : FromHop) → i < length xs → AllByRecursion (λ (h : ℕ). IsHopTo frame.world (Memory memory) h) xs → mid.looks ≡ old.looks ++ vain_looks frame.world 1 (take i xs)
      → new.looks ≡ mid.looks ++ (hop_place frame.world (get_or xs i 0), 0) ∷ [] → IsFetchedAs frame tokens memory (get_or xs i 0) accepts new.known f → FindsFirst frame tokens memory accepts xs old new f
  found_first accepts xs i old mid new f below hops before here is =
      let hop : f.request.hop ≡ get_or xs i 0 = hop_of new.known (get_or xs i 0) accepts f.request f.ticket is in
      record {
        first = subst (λ (h : ℕ). IsFirst frame.world 1 xs h old.looks new.looks) (sym hop) (is_first frame.world 1 xs i old.looks mid.looks new.looks below before here);
        below = subst (λ (h : ℕ). h < hop_count frame.world.platform) (sym hop) (each_at (λ (h : ℕ). IsHopTo frame.world (Memory memory) h) xs i 0 below hops).there;
        is = subst (λ (h : ℕ). IsFetchedAs frame tokens memory h accepts new.known f) (sym hop) is;
      }
