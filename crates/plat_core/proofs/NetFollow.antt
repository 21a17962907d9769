-- A core over a net that follows a schedule.
use Rattle.std.proofs.Common.{◌≡◌, ℕ, ◌+◌, ◌<◌, ◌≤◌, List, [], ◌∷◌, ◌++◌, length, get_or, take, Some, refl, sym, ap, subst, ◌∙◌}
use Rattle.std.proofs.lemmas.Option.{slice_get-get_or}
use Rattle.atomic_table.specs.Seated.{TableId}
use Rattle.one_history.specs.declared.view.Frame.{Frame}
use Rattle.tlm_model.specs.Plan.{Plan}
use Rattle.run_outcome.specs.declared.outcome.Outcome.{Outcome}
use Rattle.run_outcome.proofs.ListLemmas.{take_all, take_next}
use Rattle.plat_core.specs.NetCore.{IsBegunNet, IsCoreAt, NetView}
use Rattle.plat_core.specs.NetOutcome.{HasFollowedNet, IsCut, IsNetTurn, IsScheduledBy}

module _ (table tokens : TableId) (frame : Frame Plan) where
  followed_more : (a b c : NetView) (ns : List ℕ) (n : ℕ) → HasFollowedNet table tokens frame a ns b → IsNetTurn table tokens frame b n c → IsCoreAt table tokens frame c → HasFollowedNet table tokens frame a (ns ++ n ∷ []) c
  followed_more a b c [] n before turn core = (c, subst (λ (x : NetView). IsNetTurn table tokens frame x n c) before turn, core, refl)
  followed_more a b c (k ∷ ns) n before turn core = (before.0, before.1, before.2, followed_more before.0 b c ns n before.3 turn core)

  pub net_followed_next : (a b c : NetView) (schedule : List ℕ) (k n : ℕ) → k < length schedule → n ≡ get_or schedule k 0 → HasFollowedNet table tokens frame a (take k schedule) b → IsNetTurn table tokens frame b n c → IsCoreAt table tokens frame c → HasFollowedNet table tokens frame a (take (k + 1) schedule) c
  net_followed_next a b c schedule k n below is before turn core =
      subst (λ (ns : List ℕ). HasFollowedNet table tokens frame a ns c) (sym (take_next schedule k n (slice_get-get_or schedule k 0 below ∙ ap (λ (x : ℕ). Some x) (sym is)))) (followed_more a b c (take k schedule) n before turn core)

  pub net_scheduled : (p : Plan) (schedule : List ℕ) (k : ℕ) (first last : NetView) (o : Outcome) → frame.world ≡ p → length schedule ≤ k → IsBegunNet table tokens frame first → IsCoreAt table tokens frame first → HasFollowedNet table tokens frame first (take k schedule) last → IsCut frame.world last o → IsScheduledBy p schedule o
  net_scheduled p schedule k first last o world all begun core followed is = record {
    table = table;
    tokens = tokens;
    frame = frame;
    world = world;
    is = record {
      first = first;
      begun = begun;
      core = core;
      last = last;
      followed = subst (λ (ns : List ℕ). HasFollowedNet table tokens frame first ns last) (take_all k schedule all) followed;
      cut = is;
    };
  }
