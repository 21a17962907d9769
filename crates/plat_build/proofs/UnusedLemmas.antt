-- A net of which nothing was handed out has an empty history.
use Rattle.std.proofs.Common.{◌≡◌, ◌≢◌, ◌⊎◌, ℕ, zero, suc, ◌+◌, ◌<◌, ◌≤◌, List, [], ◌∷◌, ◌++◌, length, map, set, Some, refl, ap, sym, subst, ◌∙◌, inl, inr, ⊎_elim, arith, length-set}
use Rattle.std.specs.Prelude.{slice_index_or}
use Rattle.std.proofs.lemmas.Bool.{cases_lt}
use mathlib.Core.Option.{some}
use lib.ListN.{get_elem?}
use Rattle.atomic_table.specs.Seated.{TableId}
use Rattle.view_lists.specs.Lists.{Has}
use Rattle.view_lists.proofs.Keys.{of_key-has}
use Rattle.view_lists.proofs.Members.{has_none}
use Rattle.view_lists.proofs.Places.{at_short, each_put, empty}
use Rattle.one_history.specs.declared.entry.Entry.{Entry}
use Rattle.one_history.specs.declared.view.Frame.{Frame}
use Rattle.one_history.specs.declared.view.View.{View}
use Rattle.one_history.specs.Closing.{ArePlanned}
use Rattle.one_history.specs.Held.{Held}
use Rattle.one_history.specs.Lists.{entries_at, object_of}
use Rattle.one_history.specs.Moves.{number_of, own_of}
use Rattle.one_history.specs.Seats.{AreSeats, IsMerge}
use Rattle.shared_object.specs.Standing.{IsSeat, Numbers}
use Rattle.shared_object.specs.Written.{Written, placed}
use Rattle.token_book.specs.Purse.{Purse, IsOf, left_of}
use Rattle.tlm_types.specs.declared.entry.Content.{Content}
use Rattle.tlm_types.specs.declared.words.ObjectNo.{ObjectNo}
use Rattle.tlm_types.specs.declared.words.ObjectNo.TheVariants.{Memory, Hop, Pool}
use Rattle.tlm_model.specs.Plan.{Plan}
use Rattle.route_plan.specs.Counted.{share_at}
use Rattle.route_plan.specs.Valid.{hop_count}
use Rattle.route_plan.proofs.TotalLemmas.{shares_add_up}
use Rattle.cargo_model.specs.Known.{object_number}
use Rattle.plat_net.specs.Net.{AreHops, AreMemories, ArePools}
use Rattle.plat_net.specs.Objects.{HasObject, frame_of, pools_start}
use Rattle.plat_build.specs.Unused.{AddUp, AreNumberedFrom, AreUnused, HasTicketsFrom, HaveTicketsFrom, IsThere, IsUnused}
use Rattle.plat_build.proofs.IdleLemmas.{pool_listed}
use Rattle.plat_net.proofs.NumberLemmas.{hop_number, hop_there, memory_there, pool_at_place}
use Rattle.plat_net.proofs.ObjectLemmas.{planned_at_object}

-- the tickets that the plan counts are all that is planned
pub add_up : (p : Plan) (f : Frame Plan) → f ≡ frame_of p → length p.scripts ≡ length p.platform.initiators → AddUp f
add_up p f is scripts = subst AddUp (sym is) (λ k o at. planned_at_object p k o at ∙ sym (shares_add_up p o scripts))

-- The tickets of object n are retired from the wallets of the first k initiators, and those of later objects from none.
pub record AreLeftTo (tokens : TableId) (p : Plan) (n k : ℕ) (wallets : List Purse) : Type 0 where
  pub count : length wallets ≡ length p.platform.initiators
  pub each : (i : ℕ) (w : Purse) → get_elem? wallets i ≡ some w → HasTicketsFrom tokens p (n + 1) i w
  pub here : (i : ℕ) (w : Purse) (o : ObjectNo) → k ≤ i → get_elem? wallets i ≡ some w → HasObject p.platform n o → left_of w n ≡ share_at p i o

pub left_begin : (tokens : TableId) (p : Plan) (n : ℕ) (wallets : List Purse) → HaveTicketsFrom tokens p n wallets → AreLeftTo tokens p n 0 wallets
left_begin tokens p n wallets h = record {
  count = h.count;
  each = λ i w at. let t = h.each i w at in record { of = t.of; left = λ m o late there. t.left m o (omega arith) there };
  here = λ i w o late at there. (h.each i w at).left n o (omega arith) there;
}

pub left_next : (tokens : TableId) (p : Plan) (n k : ℕ) (wallets : List Purse) (w v : Purse) → AreLeftTo tokens p n k wallets → get_elem? wallets k ≡ some w → IsOf tokens v → ((o : ℕ) → o ≢ n → left_of v o ≡ left_of w o)
    → AreLeftTo tokens p n (k + 1) (set wallets k v)
left_next tokens p n k wallets w v h at of others =
    let P : ℕ → Purse → Type 0 = λ j u. HasTicketsFrom tokens p (n + 1) j u × ((o : ObjectNo) → k + 1 ≤ j → HasObject p.platform n o → left_of u n ≡ share_at p j o) in
    let old = h.each k w at in
    let new : HasTicketsFrom tokens p (n + 1) k v = record { of = of; left = λ m o late there. others m (λ e. omega arith) ∙ old.left m o late there } in
    let all = each_put P wallets k v (λ j u ne there. (h.each j u there, (λ o more is. h.here j u o (omega arith) there is))) (new, (λ o more is. absurd (omega arith))) in
    record {
      count = length-set wallets k v ∙ h.count;
      each = λ i u there. (all i u there).0;
      here = λ i u o late there is. (all i u there).1 o late is;
    }

pub left_end : (tokens : TableId) (p : Plan) (n k : ℕ) (wallets : List Purse) → AreLeftTo tokens p n k wallets → HaveTicketsFrom tokens p (n + 1) wallets
left_end tokens p n k wallets h = record { count = h.count; each = h.each }

-- Where as many tickets came back to the book as entries are planned, the log has none: one is out for each entry that was planned and isn't there.
pub unused_is : (table : TableId) (frame : Frame Plan) (m room out left sum : ℕ) (entries : List Written) (seat : Held Content Plan) → IsSeat table frame m entries seat → length entries + room ≡ slice_index_or frame.planned m 0 → slice_index_or frame.planned m 0 ≡ sum
    → out ≡ room → left + sum ≡ out → IsUnused table frame m seat
unused_is table frame m room out left sum entries seat is planned shares book retired = record {
  of = is.of;
  framed = is.framed;
  numbered = is.numbered;
  own = is.own ∙ ap (map (placed m)) (empty entries (omega arith));
}

-- the numbers of memories, hops and pools
pub memories_numbered : (frame : Frame Plan) (p : Plan) (n : ℕ) (memories : List Numbers) → p ≡ frame.world → n ≡ 0 → AreMemories p memories → AreNumberedFrom frame n memories
memories_numbered frame p n memories world none are k s at =
    let q = frame.world in
    let below : k < length q.platform.memories = omega (arith, at_short memories k s at, are.count, ap (λ (x : Plan). length x.platform.memories) world) in
    let same : k ≡ n + k = omega arith in
    (ap (λ (t : Numbers). t.number) (are.each k s at) ∙ same, subst (IsThere q.platform) same (Memory k, memory_there q.platform k below))

pub hops_numbered : (frame : Frame Plan) (p : Plan) (n : ℕ) (hops : List Numbers) → p ≡ frame.world → n ≡ length frame.world.platform.memories → AreHops p.platform hops → AreNumberedFrom frame n hops
hops_numbered frame p n hops world first are k s at =
    let q = frame.world in
    let below : k < hop_count p.platform = omega (arith, at_short hops k s at, are.count) in
    let below_too : k < hop_count q.platform = subst (λ (x : Plan). k < hop_count x.platform) world below in
    let same : length q.platform.memories + k ≡ n + k = ap (λ (j : ℕ). j + k) (sym first) in (
      ap (λ (t : Numbers). t.number) (are.each k s at) ∙ (ap (λ (x : Plan). object_number x.platform (Hop k)) world ∙ (hop_number q.platform k below_too ∙ same)),
      subst (IsThere q.platform) same (Hop k, hop_there q.platform k below_too),
    )

pub pools_numbered : (frame : Frame Plan) (p : Plan) (n : ℕ) (pools : List Numbers) → p ≡ frame.world → n ≡ pools_start frame.world.platform → ArePools p.platform pools → AreNumberedFrom frame n pools
pools_numbered frame p n pools world first are k s at =
    let q = frame.world in
    let is = pool_at_place p.platform k s.own (pool_listed p pools k s are at) in
    let same : pools_start p.platform + k ≡ n + k = ap (λ (x : Plan). pools_start x.platform + k) world ∙ ap (λ (j : ℕ). j + k) (sym first) in (
      ap (λ (t : Numbers). t.number) (are.each k s at) ∙ (is.0 ∙ same),
      subst (λ (x : Plan). IsThere x.platform (n + k)) world (subst (IsThere p.platform) same (Pool s.own, is.1)),
    )

pub seats_unused : (table there : TableId) (frame made : Frame Plan) (seats : List (Held Content Plan)) → there ≡ table → made ≡ frame → AreUnused table frame seats → AreSeats there made seats
seats_unused table there frame made seats same_table same_frame unused o s at = let is = unused o s at in (is.of ∙ sym same_table, is.framed ∙ ap Some (sym same_frame), is.numbered)

stands : {A : Type 0} (l : List A) (k : ℕ) → k < length l → (x : A) × (get_elem? l k ≡ some x)
stands [] k below = absurd (omega arith)
stands (x ∷ l) zero below = (x, refl)
stands (x ∷ l) (suc k) below = stands l k (omega arith)

none_past : (l : List ℕ) (k : ℕ) → length l ≤ k → slice_index_or l k 0 ≡ 0
none_past [] k past = refl
none_past (x ∷ l) zero past = absurd (omega arith)
none_past (x ∷ l) (suc k) past = none_past l k (omega arith)

-- no object has an entry
none_at : (table : TableId) (frame : Frame Plan) (seats : List (Held Content Plan)) (log : List (Entry Content)) (o : ℕ) → AreUnused table frame seats → length seats ≡ length frame.planned → IsMerge seats log → ArePlanned frame log → entries_at o log ≡ []
none_at table frame seats log o unused count merge planned = ⊎_elim
    (λ (here : o < length seats). let seat = stands seats o here in merge.1 o seat.0 seat.1 ∙ (unused o seat.0 seat.1).own)
    (λ (past : length seats ≤ o). let few = planned o in let none = none_past frame.planned o (omega arith) in empty (entries_at o log) (omega arith))
    (cases_lt o (length seats))

-- so that the history is empty
pub none_at_all : (table : TableId) (frame : Frame Plan) (seats : List (Held Content Plan)) (log : List (Entry Content)) → AreUnused table frame seats → length seats ≡ length frame.planned → IsMerge seats log → ArePlanned frame log → log ≡ []
none_at_all table frame seats [] unused count merge planned = refl
none_at_all table frame seats (e ∷ log) unused count merge planned =
    absurd (has_none e (subst (λ (l : List (Entry Content)). Has l e) (none_at table frame seats (e ∷ log) e.object unused count merge planned) (of_key-has object_of (e ∷ log) e (0, refl))))
