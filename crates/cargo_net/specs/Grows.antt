-- More entries back no less, and vouch for no less.
use Rattle.std.proofs.Common.{inl, inr}
use Rattle.std.specs.Prelude.{ℕ, ◌⊎◌, List}
use Rattle.atomic_table.specs.Seated.{TableId}
use Rattle.view_lists.specs.Lists.{Within}
use Rattle.one_history.specs.declared.entry.Entry.{Entry}
use Rattle.tlm_types.specs.declared.entry.Content.{Content}
use Rattle.tlm_types.specs.declared.words.TxnId.{TxnId}
use Rattle.tlm_model.specs.Plan.{Plan}
use Rattle.flow_model.specs.World.{Passage}
use Rattle.hop_object.specs.declared.lane.Side.{Side}
use Rattle.hop_object.specs.declared.lane.Side.TheVariants.{Down, Up}
use Rattle.cargo_model.specs.declared.cargo.Cargo.{Cargo}
use Rattle.cargo_model.specs.Known.{Known, event_of}
use Rattle.cargo_model.specs.Travel.{GoesDown, GoesUp, There}
use Rattle.cargo_model.proofs.More.{goes_down_more, goes_up_more, more_back}
use Rattle.cargo_net.specs.Carried.{IsAtSide, IsCarried}
use Rattle.cargo_net.specs.Traffic.{Backs}

pub grows : (p : Plan) (xs ys : List (Entry Content)) (e : Entry Content) → Within xs ys → Backs p xs e → Backs p ys e
grows p xs ys e w b = more_back p xs ys w (event_of p.platform e) b

-- on its way down, or up, by what is known
abbrev Ways : Plan → TableId → TxnId → Passage → ℕ → Cargo → List (Entry Content) → Type 0
Ways p tokens x pass hop c known = GoesDown p tokens (Known p.platform known) x pass There hop c ⊎ GoesUp p tokens (Known p.platform known) x pass There hop c

ways_grow : (p : Plan) (tokens : TableId) (x : TxnId) (pass : Passage) (hop : ℕ) (c : Cargo) (xs ys : List (Entry Content)) → Within xs ys
    → (side : Side) (way : Ways p tokens x pass hop c xs) → IsAtSide side way → (new : Ways p tokens x pass hop c ys) × IsAtSide side new
ways_grow p tokens x pass hop c xs ys w Down (inl d) at =
    (inl (goes_down_more p tokens (Known p.platform xs) (Known p.platform ys) (λ e k. record { entry = k.entry; has = w k.entry k.has; is = k.is }) x pass There hop c d), tt)
ways_grow p tokens x pass hop c xs ys w Down (inr u) at = absurd at
ways_grow p tokens x pass hop c xs ys w Up (inl d) at = absurd at
ways_grow p tokens x pass hop c xs ys w Up (inr u) at =
    (inr (goes_up_more p tokens (Known p.platform xs) (Known p.platform ys) (λ e k. record { entry = k.entry; has = w k.entry k.has; is = k.is }) x pass There hop c u), tt)

pub carried_grows : (p : Plan) (tokens : TableId) (number : ℕ) (x : TxnId) (item : Side × Cargo) (xs ys : List (Entry Content)) → Within xs ys → IsCarried p tokens number x item xs → IsCarried p tokens number x item ys
carried_grows p tokens number x item xs ys w c =
    let r = ways_grow p tokens x c.vouched.pass c.vouched.hop item.1 xs ys w item.0 c.vouched.way c.side in
    record { vouched = record { pass = c.vouched.pass; hop = c.vouched.hop; place = c.vouched.place; way = r.0 }; side = r.1 }
