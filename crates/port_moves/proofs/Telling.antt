-- The steps by which a port is told that an access is back.
use Rattle.std.proofs.Common.{◌≡◌, ℕ, true, false, List, sym, ap, ◌∙◌, inl, inr}
use Rattle.flow_model.specs.Events.{Among}
use Rattle.port_moves.specs.Moves.{port_back}
use Rattle.port_moves.specs.Returned.{HasLeft, IsTold, with_latest, with_port, with_told}
use Rattle.port_moves.specs.State.{StateView}

pub told_stray : (s t : StateView) (number end : ℕ) (got : List ℕ) → (t ≡ s) × (Among s.port.away number → ⊥) → IsTold number end got s t
told_stray s t number end got q = inr q

pub told_plain : (s t u : StateView) (number end : ℕ) (got : List ℕ) → HasLeft number s t → u ≡ with_latest t end → s.port.waiting ≡ false → IsTold number end got s u
told_plain s t u number end got l is quiet =
    inl (record {
      away = l.away;
      removes = l.removes;
      is = is ∙ (ap (λ (v : StateView). with_latest v end) l.is ∙ ap (λ (b : _). with_port s (port_back s.port l.away end got b)) (sym quiet));
    })

pub told_fenced : (s t u v : StateView) (number end : ℕ) (got : List ℕ) → HasLeft number s t → u ≡ with_latest t end → v ≡ with_told u got → s.port.waiting ≡ true → IsTold number end got s v
told_fenced s t u v number end got l is then waits =
    inl (record {
      away = l.away;
      removes = l.removes;
      is = then ∙ (ap (λ (x : StateView). with_told x got) (is ∙ ap (λ (x : StateView). with_latest x end) l.is) ∙ ap (λ (b : _). with_port s (port_back s.port l.away end got b)) (sym waits));
    })
