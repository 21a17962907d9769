-- Laws of the ways of a plan.
use Rattle.std.specs.Prelude.{ℕ, ◌≡◌, ◌<◌, List}
use Rattle.atomic_table.specs.Seated.{TableId}
use Rattle.one_history.specs.declared.entry.Entry.{Entry}
use Rattle.tlm_types.specs.declared.entry.Content.{Content}
use Rattle.tlm_types.specs.declared.words.TxnId.{TxnId}
use Rattle.tlm_model.specs.declared.platform.Platform.{Platform}
use Rattle.tlm_model.specs.declared.platform.Target.{Target}
use Rattle.tlm_model.specs.Plan.{Plan}
use Rattle.flow_model.specs.World.{Passage, hop_at, hop_count}
use Rattle.flow_model.specs.Valid.{HasNoCycle}
use Rattle.platform_shape.specs.Shape.{IsShape}
use Rattle.cargo_model.specs.Known.{Known}
use Rattle.cargo_model.specs.Tickets.{AreApart}
use Rattle.cargo_model.specs.Travel.{IsAsked, numbers_for, stop_for}
use Rattle.plat_net.specs.Places.{LeadsTo}

abbrev pub ShapesHaveNoCycle : Type 0
ShapesHaveNoCycle = (p : Platform) → IsShape p → HasNoCycle p

abbrev pub EndsAreStops : Type 0
EndsAreStops = (p : Plan) (tokens : TableId) (known : List (Entry Content)) (x : TxnId) (pass : Passage) (asked : IsAsked p tokens (Known p.platform known) x pass) (k : ℕ) (to : Target) →
    k < hop_count pass → LeadsTo p.platform (hop_at pass k) to → (stop_for p tokens (Known p.platform known) x pass asked k).to ≡ to

abbrev pub AccessesAreApart : Type 0
AccessesAreApart = (p : Plan) (tokens : TableId) (known : List (Entry Content)) (x : TxnId) (pass : Passage) (asked : IsAsked p tokens (Known p.platform known) x pass) → IsShape p.platform →
    AreApart (hop_count pass) (numbers_for p tokens (Known p.platform known) x pass asked)
