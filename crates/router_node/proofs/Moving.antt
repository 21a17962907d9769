-- A step with the transaction at a place.
use Rattle.std.proofs.Common.{◌≡◌, ℕ, ◌+◌, Bool, true, false, List, [], ◌∷◌, ◌++◌, set, Option, Some, None, refl, sym, ap, ◌∙◌, inl, inr, arith}
use Rattle.std.proofs.lemmas.List.{append-nil}
use Rattle.std.specs.List.{remove}
use Rattle.one_history.specs.declared.view.Frame.{Frame}
use Rattle.one_history.specs.declared.view.View.{View}
use Rattle.tlm_types.specs.declared.entry.Content.{Content}
use Rattle.tlm_model.specs.Plan.{Plan}
use Rattle.plat_net.specs.Places.{hop_place}
use Rattle.router_node.specs.Node.{MovesAt}
use Rattle.router_node.specs.Places.{StandsAt}
use Rattle.router_node.specs.Stages.{ComesBy, HasEnded, HasStepped, is_about, standing, vain}
use Rattle.router_moves.specs.declared.items.Down.{Down as ToPass}
use Rattle.router_moves.specs.declared.items.RouterResponse.{RouterResponse}
use Rattle.router_moves.specs.declared.items.Rest.{Rest}
use Rattle.router_node.specs.declared.stage.SentUp.{SentUp}
use Rattle.router_node.specs.declared.stage.Stage.{Stage}
use Rattle.router_node.specs.declared.stage.Stage.TheVariants.{Down, Below, Up, Sent}
use Rattle.router_node.specs.declared.stage.Step.{Step}
use Rattle.router_node.specs.declared.stage.Step.TheVariants.{End, Send, Pass}
use Rattle.router_node.proofs.Places.{remove_here, same_there, set_again}

-- a step gives no look for a transaction that it isn't one for
silent : (p : Plan) (w : Step) (s : Stage) → is_about w s ≡ false → vain p w (standing s) ≡ []
silent p End (Down d) off = refl
silent p End (Below h) off = refl
silent p End (Up r rest) off = refl
silent p End (Sent a) off = cc
silent p Send (Down d) off = refl
silent p Send (Below h) off = refl
silent p Send (Up r rest) off = cc
silent p Send (Sent a) off = refl
silent p Pass (Down d) off = cc
silent p Pass (Below h) off = refl
silent p Pass (Up r rest) off = refl
silent p Pass (Sent a) off = refl

module _ (frame : Frame Plan) where
  -- it stays where it is
  idle : (w : Step) (at : ℕ) (old : List Stage) (s : Stage) (v : View Content Plan) → StandsAt old at s → is_about w s ≡ false → MovesAt frame false w at old old v v (at + 1) false
  idle w at old s v t off = record {
    stage = s;
    stands = t;
    after = Some s;
    stepped = inl (refl, sym (ap (λ (l : List (ℕ × ℕ)). v.looks ++ l) (silent frame.world w s off) ∙ append-nil v.looks));
    line = t.line;
    next_is = refl;
  }

  -- in haste as well
  comes_by : (hasty : Bool) (w : Step) (s : Stage) (was is : View Content Plan) (moved : Bool) (o : Option Stage) → ComesBy frame false w s was is moved o → ComesBy frame hasty w s was is moved o
  comes_by hasty w s was is moved o (inl x) = inl x
  comes_by hasty w s was is moved o (inr x) = let q = x.0 in cc

  pub in_haste : (hasty : Bool) (w : Step) (at : ℕ) (old new : List Stage) (was is : View Content Plan) (next : ℕ) (moved : Bool) → MovesAt frame false w at old new was is next moved → MovesAt frame hasty w at old new was is next moved
  in_haste hasty w at old new was is next moved m = record {
    stage = m.stage;
    stands = m.stands;
    after = m.after;
    stepped = comes_by hasty w m.stage was is moved m.after m.stepped;
    line = m.line;
    next_is = m.next_is;
  }

  -- it was left out
  pub left_out : (hasty : Bool) (w : Step) (at : ℕ) (old : List Stage) (s : Stage) (v : View Content Plan) → hasty ≡ true → StandsAt old at s → MovesAt frame hasty w at old old v v (at + 1) false
  left_out hasty w at old s v in_a_hurry t = record { stage = s; stands = t; after = Some s; stepped = inr (in_a_hurry, refl, refl, refl); line = t.line; next_is = refl }

  not_sent : (s : Stage) → ((a : SentUp) → s ≡ Sent a → ⊥) → is_about End s ≡ false
  not_sent (Down d) n = refl
  not_sent (Below h) n = refl
  not_sent (Up r rest) n = refl
  not_sent (Sent a) n = absurd (n a refl)

  -- so does one that wasn't sent, in the step that is for those
  pub passed_by : (at : ℕ) (old : List Stage) (s : Stage) (v : View Content Plan) → StandsAt old at s → ((a : SentUp) → s ≡ Sent a → ⊥) → MovesAt frame false End at old old v v (at + 1) false
  passed_by at old s v t n = idle End at old s v t (not_sent s n)

  not_up : (s : Stage) → ((r : RouterResponse) (rest : Option Rest) → s ≡ Up r rest → ⊥) → is_about Send s ≡ false
  not_up (Down d) n = refl
  not_up (Below h) n = refl
  not_up (Up r rest) n = absurd (n r rest refl)
  not_up (Sent a) n = refl

  -- or one that isn't to go up
  pub passed_by_up : (at : ℕ) (old : List Stage) (s : Stage) (v : View Content Plan) → StandsAt old at s → ((r : RouterResponse) (rest : Option Rest) → s ≡ Up r rest → ⊥) → MovesAt frame false Send at old old v v (at + 1) false
  passed_by_up at old s v t n = idle Send at old s v t (not_up s n)

  not_down : (s : Stage) → ((d : ToPass) → s ≡ Down d → ⊥) → is_about Pass s ≡ false
  not_down (Down d) n = absurd (n d refl)
  not_down (Below h) n = refl
  not_down (Up r rest) n = refl
  not_down (Sent a) n = refl

  -- or to go down
  pub passed_by_down : (at : ℕ) (old : List Stage) (s : Stage) (v : View Content Plan) → StandsAt old at s → ((d : ToPass) → s ≡ Down d → ⊥) → MovesAt frame false Pass at old old v v (at + 1) false
  passed_by_down at old s v t n = idle Pass at old s v t (not_down s n)

  -- and one that was sent and hasn't ended
  pub waits : (at : ℕ) (old : List Stage) (a : SentUp) (was is : View Content Plan) → StandsAt old at (Sent a) → is.looks ≡ was.looks ++ (hop_place frame.world a.above, 5) ∷ [] → MovesAt frame false End at old old was is (at + 1) false
  waits at old a was is t look = record { stage = Sent a; stands = t; after = Some (Sent a); stepped = inl (refl, look); line = t.line; next_is = refl }

  -- one that has ended is forgotten
  pub goes : (at : ℕ) (old new : List Stage) (a : SentUp) (was is : View Content Plan) → StandsAt old at (Sent a) → new ≡ remove old at → HasEnded frame is.known a → MovesAt frame false End at old new was is at true
  goes at old new a was is t gone end = record { stage = Sent a; stands = t; after = None; stepped = inl end; line = gone ∙ remove_here old at (Sent a) t; next_is = omega arith }

  -- one that was tried stays at its place
  pub tried : (w : Step) (at : ℕ) (old new : List Stage) (s gap t : Stage) (was is : View Content Plan) (moved : Bool) → StandsAt old at s → new ≡ set (set old at gap) at t → HasStepped frame w s was is moved (Some t) → MovesAt frame false w at old new was is (at + 1) moved
  tried w at old new s gap t was is moved there put step = record { stage = s; stands = there; after = Some t; stepped = inl step; line = put ∙ set_again old at s gap t there; next_is = refl }

-- one response that was sent stands at a place
pub same_sent : (old : List Stage) (at : ℕ) (a b : SentUp) → StandsAt old at (Sent a) → StandsAt old at (Sent b) → a ≡ b
same_sent old at a b x y = let e = same_there old at (Sent a) (Sent b) x y in cc
