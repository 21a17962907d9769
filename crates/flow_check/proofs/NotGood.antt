-- Histories that are not good: one has come to no end, one breaks its script, and two miss what no backing tells.
use Rattle.std.proofs.Common.{◌≡◌, ℕ, ◌+◌, List, [], ◌∷◌, refl, ap, arith}
use Rattle.tlm_types.specs.declared.words.ObjectNo.{ObjectNo}
use Rattle.tlm_types.specs.declared.words.ObjectNo.TheVariants.{Memory, Hop, Pool}
use Rattle.tlm_types.specs.declared.words.ReqMode.TheVariants as Req
use Rattle.tlm_types.specs.declared.words.RespMode.TheVariants as Resp
use Rattle.tlm_types.specs.declared.entry.Access.{Access}
use Rattle.base_phases.proofs.WalkLemmas.{whole_round}
use Rattle.flow_model.specs.Events.{entries}
use Rattle.flow_model.specs.Traffic.{HasPhaseTimes}
use Rattle.flow_model.specs.Plans.{HasBackedTraffic}
use Rattle.flow_model.proofs.Backed.{traffic_law}
use Rattle.good_history.specs.Good.{IsGood, IsSound}
use Rattle.good_history.proofs.Beginnings.{sound_beginnings}
use Rattle.flow_check.specs.Worked.{accepting, debug_plan, fenced_plan, freed, late_debug, lone, miswritten, unfenced, unreleased}
use Rattle.flow_check.proofs.Decide.{found}
use Rattle.flow_check.proofs.DecidePremises.{bounded, premises_of, tested}
use Rattle.flow_check.proofs.WorkedHistories.{accepting_works, direct_world}

-- the objects that have entries
places : List ObjectNo
places = Hop 0 ∷ Pool 0 ∷ Memory 0 ∷ []

pub unreleased_sound : IsSound (lone Req.Accept Resp.Accept) (entries unreleased)
unfolding accepting unreleased
unreleased_sound = sound_beginnings (lone Req.Accept Resp.Accept) (entries unreleased) (entries (freed 8 10 ∷ [])) accepting_works.good.sound

pub unreleased_wrong : ¬ IsGood (lone Req.Accept Resp.Accept) (entries unreleased)
unfolding lone unreleased
unreleased_wrong g = let q : ◌≡◌ {A = ℕ} 1 (1 + 1) = g.traffic.payloads.released (record { initiator = 0; seq = 0 }) _ refl in omega arith

pub miswritten_wrong : ¬ IsGood (lone Req.Accept Resp.Accept) (entries miswritten)
unfolding lone miswritten
miswritten_wrong g = apart (ap (λ (a : Access). a.sent) g.sound.requests.scripts.replies.1.1.1.1.0.1)
  where
    first : (a b : ℕ) → a ∷ [] ≡ b ∷ [] → a ≡ b
    first a b q = cc

    apart : ◌≡◌ {A = List ℕ} (0xbb ∷ []) (0xaa ∷ []) → ⊥
    apart q = let s : ◌≡◌ {A = ℕ} 0xbb 0xaa = first 0xbb 0xaa q in omega arith

pub late_debug_backed : HasBackedTraffic debug_plan (entries late_debug)
unfolding debug_plan late_debug places
late_debug_backed = traffic_law debug_plan late_debug (premises_of _ _ _ places late_debug (direct_world Req.Accept Resp.Accept 16 _) (found (tested _ _ _ places late_debug) refl) (found (bounded late_debug) refl))

pub late_debug_wrong : ¬ HasPhaseTimes debug_plan (entries late_debug)
unfolding debug_plan late_debug
late_debug_wrong t = let q : ◌≡◌ {A = ℕ} 7 0 = t.others.0 in omega arith

pub unfenced_backed : HasBackedTraffic fenced_plan (entries unfenced)
unfolding fenced_plan unfenced places
unfenced_backed = traffic_law fenced_plan unfenced (premises_of _ _ _ places unfenced (direct_world Req.Accept Resp.Accept 16 _) (found (tested _ _ _ places unfenced) refl) (found (bounded unfenced) refl))

pub unfenced_wrong : ¬ HasPhaseTimes fenced_plan (entries unfenced)
unfolding fenced_plan unfenced
unfenced_wrong t = (whole_round [] (t.waits.1.0.0 refl)).some refl
