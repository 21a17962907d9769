-- What a router knows of what it holds stays known.
use Rattle.std.proofs.Common.{◌≡◌, ℕ, ◌+◌, List, drop, Option, Some, None, refl, sym, ap, subst}
use Rattle.atomic_table.specs.Seated.{TableId}
use Rattle.view_lists.specs.Lists.{Within}
use Rattle.one_history.specs.declared.entry.Entry.{Entry}
use Rattle.one_history.specs.declared.view.Frame.{Frame}
use Rattle.tlm_types.specs.declared.entry.Content.{Content}
use Rattle.tlm_types.specs.declared.words.Phase.TheVariants.{BeginReq, BeginResp}
use Rattle.tlm_types.specs.declared.words.TlmSync.{TlmSync}
use Rattle.tlm_types.specs.declared.words.TlmSync.TheVariants.{Completed, Updated}
use Rattle.tlm_types.specs.declared.words.TxnId.{TxnId}
use Rattle.tlm_model.specs.Plan.{Plan}
use Rattle.base_phases.specs.declared.phases.LaneState.TheVariants.{Responding, Waiting}
use Rattle.token_book.specs.Account.{Slip}
use Rattle.flow_model.specs.World.{Passage, hop_at}
use Rattle.flow_model.specs.Events.{Event, FindsAt, IsCall}
use Rattle.flow_model.specs.Numbers.{UpIs}
use Rattle.flow_model.specs.Platform.{world_of}
use Rattle.flow_model.proofs.More.{end_more, up_more}
use Rattle.cargo_model.specs.Known.{Known}
use Rattle.cargo_model.specs.Travel.{Back as IsBackAt, GoesDown, GoesUp, Ready, There}
use Rattle.cargo_model.proofs.More.{goes_down_more, goes_up_more}
use Rattle.cargo_net.specs.Begins.{HasOwedLeg}
use Rattle.plat_net.specs.HopCalls.{CanRespond}
use Rattle.plat_net.specs.Places.{hop_place}
use Rattle.router_moves.specs.Items.{HasEndedAt, HasGone, IsBack, IsBegun, IsDown, IsEnd, IsHeld, IsHolding, IsRest, OwesEnd}
use Rattle.router_node.specs.Laws.{HoldsOn, StaysKnown}
use Rattle.router_moves.specs.Moves.{EndsAbove, HasBegunOn, HasEndedAbove, IsBackFor}
use Rattle.router_moves.specs.declared.items.Back.{Back}
use Rattle.router_moves.specs.declared.items.BegunBelow.{BegunBelow}
use Rattle.router_moves.specs.declared.items.Down.{Down}
use Rattle.router_moves.specs.declared.items.End.{End}
use Rattle.router_moves.specs.declared.items.End.TheVariants.{Owed, At}
use Rattle.router_moves.specs.declared.items.PassedOn.{PassedOn}
use Rattle.router_moves.specs.declared.items.RouterResponse.{RouterResponse}
use Rattle.router_moves.specs.declared.items.Rest.{Rest}
use Rattle.router_moves.proofs.Grown.{arrival_more, finds_at_more, finds_more, held_more, hold_more, known_more, leg_more}

module _ (frame : Frame Plan) (tokens : TableId) (xs ys : List (Entry Content)) (w : Within xs ys) where
  abbrev p : Plan
  p = frame.world

  abbrev K : Event → Type 0
  K = Known frame.world.platform xs

  abbrev L : Event → Type 0
  L = Known frame.world.platform ys

  abbrev more : (e : Event) → K e → L e
  more e k = known_more p xs ys w e k

  down_more : (d : Down) → IsDown frame tokens xs d → IsDown frame tokens ys d
  down_more d i = record {
    pass = i.pass;
    hop = i.hop;
    state = i.state;
    held = held_more frame tokens xs ys w d.held i.pass i.hop i.state i.held;
    down = goes_down_more p tokens K L more d.held.txn i.pass Ready (i.hop + 1) d.cargo i.down;
    least = arrival_more frame tokens xs ys w d.held.txn i.pass i.hop d.due i.least;
  }

  gone_more : (h : PassedOn) (at : ℕ) → HasGone frame tokens xs h at → HasGone frame tokens ys h at
  gone_more h at i = record {
    pass = i.pass;
    hop = i.hop;
    state = i.state;
    held = held_more frame tokens xs ys w h i.pass i.hop i.state i.held;
    begun = finds_at_more p xs ys w at i.begun;
  }

  holding_more : (h : PassedOn) → IsHolding frame tokens xs h → IsHolding frame tokens ys h
  holding_more h i = record { pass = i.pass; hop = i.hop; state = i.state; held = held_more frame tokens xs ys w h i.pass i.hop i.state i.held }

  owed_more : (number : ℕ) (x : TxnId) (answer : TlmSync) (leg : Option Slip) → HasOwedLeg frame tokens number xs x answer leg → HasOwedLeg frame tokens number ys x answer leg
  owed_more number x Completed None h = tt
  owed_more number x (Updated BeginResp) (Some leg) h = leg_more frame tokens number xs ys w x Responding leg h
  owed_more number x answer leg h = absurd h

  begun_with : (h new : PassedOn) (b : BegunBelow) (i : IsBegun frame tokens xs h b) → new.txn ≡ h.txn → (s : _) → IsHeld frame tokens ys new i.pass i.hop s → IsBegun frame tokens ys new b
  begun_with h new b i same s held = record {
    pass = i.pass;
    hop = i.hop;
    state = s;
    held = held;
    down = subst (λ (x : TxnId). GoesDown p tokens L x i.pass There (i.hop + 1) b.cargo) (sym same) (goes_down_more p tokens K L more h.txn i.pass There (i.hop + 1) b.cargo i.down);
    answer = i.answer;
    made = subst (λ (x : TxnId). FindsAt L (IsCall x (hop_at i.pass (i.hop + 1)) BeginReq i.answer) b.at) (sym same) (finds_at_more p xs ys w b.at i.made);
    fits = i.fits;
    responds = i.responds;
    leg_of = subst (λ (x : TxnId). HasOwedLeg frame tokens (hop_place p (hop_at i.pass (i.hop + 1))) ys x i.answer b.leg) (sym same) (owed_more (hop_place p (hop_at i.pass (i.hop + 1))) h.txn i.answer b.leg i.leg_of);
  }

  begun_more : (h : PassedOn) (b : BegunBelow) → IsBegun frame tokens xs h b → IsBegun frame tokens ys h b
  begun_more h b i = begun_with h h b i refl i.state (held_more frame tokens xs ys w h i.pass i.hop i.state i.held)

  ended_more : (x : TxnId) (pass : Passage) (k at : ℕ) → HasEndedAt frame tokens xs x pass k at → HasEndedAt frame tokens ys x pass k at
  ended_more x pass k at e = record { ender = finds_more p xs ys w e.ender; time = end_more (world_of p) K L more x pass k at e.time }

  owes_more : (x : TxnId) (pass : Passage) (k at owed : ℕ) (leg : Option Slip) → OwesEnd frame tokens xs x pass k at owed leg → OwesEnd frame tokens ys x pass k at owed leg
  owes_more x pass k at owed None e = (e.0, ended_more x pass k at e.1)
  owes_more x pass k at owed (Some leg) e = (e.0, leg_more frame tokens (hop_place p (hop_at pass k)) xs ys w x Responding leg e.1)

  is_back_more : (h : PassedOn) (b : Back) (pass : Passage) (k owed : ℕ) → IsBack frame tokens xs h b pass k owed → IsBack frame tokens ys h b pass k owed
  is_back_more h b pass k owed i = record {
    up = goes_up_more p tokens K L more h.txn pass (IsBackAt owed) (k + 1) b.cargo i.up;
    end = owes_more h.txn pass (k + 1) b.at owed b.leg i.end;
    least = up_more (world_of p) K L more h.txn (hop_at pass k) (drop (k + 1) pass.hops) b.at i.least;
  }

  back_with : (h new : PassedOn) (b : Back) (i : IsBackFor frame tokens xs h b) → new.txn ≡ h.txn → (s : _) → IsHeld frame tokens ys new i.pass i.hop s → IsBackFor frame tokens ys new b
  back_with h new b i same s held = record {
    pass = i.pass;
    hop = i.hop;
    state = s;
    owed = i.owed;
    few = i.few;
    held = held;
    back = (
        let m = is_back_more h b i.pass i.hop i.owed i.back in
        record {
          up = subst (λ (x : TxnId). GoesUp p tokens L x i.pass (IsBackAt i.owed) (i.hop + 1) b.cargo) (sym same) m.up;
          end = subst (λ (x : TxnId). OwesEnd frame tokens ys x i.pass (i.hop + 1) b.at i.owed b.leg) (sym same) m.end;
          least = subst (λ (x : TxnId). UpIs (world_of p) L x i.pass i.hop b.at) (sym same) m.least;
        }
        );
  }

  back_more : (h : PassedOn) (b : Back) → IsBackFor frame tokens xs h b → IsBackFor frame tokens ys h b
  back_more h b i = back_with h h b i refl i.state (held_more frame tokens xs ys w h i.pass i.hop i.state i.held)

  response_more : (r : RouterResponse) → CanRespond frame tokens r.hop r.leg r.cargo r.due xs → CanRespond frame tokens r.hop r.leg r.cargo r.due ys
  response_more r c = record {
    pass = c.pass;
    hop = c.hop;
    here = c.here;
    up = goes_up_more p tokens K L more r.cargo.baton.txn c.pass Ready c.hop r.cargo c.up;
    state = c.state;
    open_lane = c.open_lane;
    leg_of = leg_more frame tokens (hop_place p r.hop) xs ys w r.cargo.baton.txn c.state r.leg c.leg_of;
    answer = c.answer;
    begun = finds_more p xs ys w c.begun;
    fits = c.fits;
    responds = c.responds;
    ended = λ q. finds_more p xs ys w (c.ended q);
    least = up_more (world_of p) K L more r.cargo.baton.txn (hop_at c.pass c.hop) (drop (c.hop + 1) c.pass.hops) r.due c.least;
  }

  entry_more : (hop : ℕ) (x : TxnId) → HasBegunOn frame xs hop x → HasBegunOn frame ys hop x
  entry_more hop x b = record { entry = b.entry; has = w b.entry b.has; object = b.object; txn = b.txn }

  end_is_more : (x : TxnId) (pass : Passage) (k : ℕ) (end : End) → IsEnd frame tokens xs x pass k end → IsEnd frame tokens ys x pass k end
  end_is_more x pass k (Owed leg ticket) e = (leg_more frame tokens (hop_place p (hop_at pass k)) xs ys w x Responding leg e.0, e.1)
  end_is_more x pass k (At time) e = ended_more x pass k time e

  rest_more : (r : Rest) (pass : Passage) (k : ℕ) → IsRest frame tokens xs r pass k → IsRest frame tokens ys r pass k
  rest_more r pass k i = record {
    passes = i.passes;
    next = i.next;
    few = i.few;
    below = i.below;
    taken = finds_more p xs ys w i.taken;
    served = λ t. finds_more p xs ys w (i.served t);
    end = end_is_more r.txn pass (k + 1) r.end i.end;
    hold = hold_more p tokens xs ys w r.txn pass (k + 1) r.hold i.hold;
    ticket = i.ticket;
  }

  ended_above_more : (r : Rest) (at : ℕ) → HasEndedAbove frame tokens xs r at → HasEndedAbove frame tokens ys r at
  ended_above_more r at i = record { pass = i.pass; hop = i.hop; rest = rest_more r i.pass i.hop i.rest; ender = finds_more p xs ys w i.ender; sent = finds_at_more p xs ys w at i.sent }

  pub stays : StaysKnown frame tokens xs ys
  stays = record {
    down = down_more;
    gone = gone_more;
    holding = holding_more;
    begun = begun_more;
    back = back_more;
    response = response_more;
    entry = entry_more;
    rest = rest_more;
    ended = ended_above_more;
  }

  -- after END_REQ above
  pub holds_on : (h : PassedOn) (at : ℕ) (new : PassedOn) → EndsAbove frame tokens xs ys h at new → HoldsOn frame tokens xs ys h new
  holds_on h at new e =
      let same : new.txn ≡ h.txn = ap (λ (d : PassedOn). d.txn) e.same in
      record {
        begun = λ b i. begun_with h new b i same Waiting (e.held i.pass i.hop i.state i.held);
        back = λ b i. back_with h new b i same Waiting (e.held i.pass i.hop i.state i.held);
        holding = λ i. record { pass = i.pass; hop = i.hop; state = Waiting; held = e.held i.pass i.hop i.state i.held };
      }
