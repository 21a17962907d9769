-- A new memory behind hops.
use Rattle.std.proofs.Common.{◌≡◌, ℕ, ◌*◌, ◌<◌, List, [], length, Option, None, refl, sym, ap, subst, ◌∙◌}
use Rattle.std.specs.List.{AllByRecursion}
use Rattle.std.specs.Prelude.{IfSome}
use Rattle.atomic_table.specs.Seated.{TableId}
use Rattle.one_history.specs.declared.view.Frame.{Frame}
use Rattle.tlm_model.specs.declared.platform.Target.TheVariants.{Memory}
use Rattle.tlm_model.specs.Plan.{Plan}
use Rattle.event_queue.specs.EventQueue.{Events}
use Rattle.node_hops.specs.Hops.{IsHopTo, hops_to}
use Rattle.node_hops.specs.Traits.{is_accepting, lanes_of, latency_of}
use Rattle.node_hops.proofs.HopLists.{all_lead}
use Rattle.target_node.specs.Hops.{IsNew}
use Rattle.target_node.specs.Node.{IsQueued, IsToSend}
use Rattle.target_node.specs.declared.items.MemoryRequest.{MemoryRequest}
use Rattle.target_node.specs.declared.items.MemoryResponse.{MemoryResponse}
use Rattle.target_node.specs.declared.node.TargetNode.{TargetNode}

-- a memory with all of its hops, of which nothing waits and nothing is held, is a new one
pub new_is : (frame : Frame Plan) (tokens : TableId) (p : Plan) (t : TargetNode) (room : ℕ) → p ≡ frame.world → t.memory < length frame.world.platform.memories → t.hops.items ≡ hops_to p.platform (Memory t.memory) → t.accepts ≡ is_accepting p.platform (Memory t.memory) → t.latency ≡ latency_of p.platform (Memory t.memory)
    → t.queue ≡ record { entries = []; room = room } → room ≡ lanes_of p.platform (Memory t.memory) * length t.hops.items → t.held ≡ None → IsNew frame tokens t.memory t
new_is frame tokens p t room world there hops accepts latency queue long free =
    let q = frame.world in
    let hops_are : t.hops.items ≡ hops_to q.platform (Memory t.memory) = subst (λ (r : Plan). t.hops.items ≡ hops_to r.platform (Memory t.memory)) world hops in
    record {
      memory_is = refl;
      hops_are = hops_are;
      empty = ap (λ (e : Events MemoryRequest). e.entries) queue;
      room = ap (λ (e : Events MemoryRequest). e.room) queue ∙ subst (λ (r : Plan). room ≡ lanes_of r.platform (Memory t.memory) * length t.hops.items) world long;
      free = free;
      target = λ known. record {
        memory = there;
        hops = subst (λ (l : List ℕ). AllByRecursion (λ (h : ℕ). IsHopTo q (Memory t.memory) h) l) (sym hops_are) (all_lead q (Memory t.memory));
        accepts = subst (λ (r : Plan). t.accepts ≡ is_accepting r.platform (Memory t.memory)) world accepts;
        latency = subst (λ (r : Plan). t.latency ≡ latency_of r.platform (Memory t.memory)) world latency;
        queue = subst (λ (es : List (ℕ × MemoryRequest)). AllByRecursion (IsQueued frame tokens t.memory t.latency known) es) (sym (ap (λ (e : Events MemoryRequest). e.entries) queue)) tt;
        held = subst (λ (o : Option MemoryResponse). IfSome o (IsToSend frame tokens t.memory known)) (sym free) tt;
      };
    }
