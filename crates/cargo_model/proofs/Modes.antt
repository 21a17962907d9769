-- The answers in a hop's log are those of its modes.
use Rattle.std.proofs.Common.{List, [], ◌∷◌, subst, inl, inr}
use Rattle.tlm_types.specs.declared.words.Phase.TheVariants.{BeginReq, EndReq, BeginResp, EndResp}
use Rattle.tlm_types.specs.declared.entry.Entry.{Entry}
use Rattle.tlm_types.specs.declared.entry.What.{What}
use Rattle.tlm_types.specs.declared.entry.What.TheVariants as Whats
use Rattle.flow_model.specs.Answers.{is_responding}
use Rattle.flow_model.specs.Board.{Board, Reaches, Rules, StepsBy, any_in, start}
use Rattle.flow_model.specs.Events.{Among}
use Rattle.cargo_model.specs.Modes.{AreByModes, IsByMode}

by_step : (r : Rules) (b : Board) (e : Entry) (w : What) (c : Board) → StepsBy r b e w c → IsByMode r w
by_step r b e (Whats.Call BeginReq a) c m = (any_in is_responding b.lanes, m.answered)
by_step r b e (Whats.Call BeginResp a) c m = m.turn.1
by_step r b e (Whats.Call EndReq a) c m = tt
by_step r b e (Whats.Call EndResp a) c m = tt
by_step r b e (Whats.Access way access status got) c m = tt
by_step r b e (Whats.Granted g f l k) c m = tt
by_step r b e (Whats.Invalidated f l) c m = tt
by_step r b e (Whats.Closed g) c m = tt
by_step r b e (Whats.Take s) c m = tt
by_step r b e (Whats.Acquire s) c m = tt
by_step r b e (Whats.Release s f) c m = tt

by_modes : (r : Rules) (b : Board) (log : List Entry) (d : Board) → Reaches r b log d → (e : Entry) → Among log e → IsByMode r e.what
by_modes r b [] d q e m = absurd m
by_modes r b (z ∷ log) d q e (inl s) = subst (λ (f : Entry). IsByMode r f.what) s (by_step r b z z.what q.0 q.1)
by_modes r b (z ∷ log) d q e (inr m) = by_modes r q.0 log d q.2 e m

pub are_by_modes : AreByModes
are_by_modes r log d q e m = by_modes r start log d q e m
