-- What a plan answers of the shares that it keeps.
use Rattle.std.proofs.Common.{◌≡◌, ℕ, ◌<◌, ◌≤◌, List, length, get_or, ap, subst, ◌∙◌, arith}
use Rattle.tlm_types.specs.declared.words.ObjectNo.{ObjectNo}
use Rattle.tlm_model.specs.Plan.{Plan}
use Rattle.route_plan.specs.declared.plans.Plan.TheInside.{Inside}
use Rattle.route_plan.specs.declared.shares.Share.{Share}
use Rattle.route_plan.specs.Counted.{logged_share_at, share_at}
use Rattle.route_plan.specs.Counts.{capped}
use Rattle.route_plan.specs.Places.{object_at, object_count, object_place}
use Rattle.route_plan.specs.Planned.{logged_bytes, planned_at}
use Rattle.route_plan.specs.Ready.{IsReady}
use Rattle.route_plan.specs.Shares.{entries_in, logged_in, object_shares, pair_share, shares_of, with_scripts}
use Rattle.route_plan.specs.Valid.{IsObject, IsValid}
use Rattle.route_plan.proofs.NumberLemmas.{few_objects}
use Rattle.route_plan.proofs.PlaceLemmas.{object_of_place, place_there}
use Rattle.route_plan.proofs.TotalLemmas.{bytes_at, bytes_le, count_objects, count_shares, entries_at, few_bytes, few_entries, object_kept, share_kept, share_le}

pub valid_by_parts : (inside : Inside) (p : Plan) → with_scripts inside.routes inside.scripts ≡ p → IsReady inside → IsValid p
valid_by_parts inside p is ready = subst IsValid is ready.valid

pub kept_by_parts : (inside : Inside) (p : Plan) → with_scripts inside.routes inside.scripts ≡ p → IsReady inside → inside.shares ≡ shares_of p
kept_by_parts inside p is ready = ready.shares ∙ ap shares_of is

-- the place of an object of a plan, as its routes tell it
pub place_by_parts : (inside : Inside) (p : Plan) (o : ObjectNo) (k : ℕ) → with_scripts inside.routes inside.scripts ≡ p → k ≡ object_place inside.routes o → k ≡ object_place p.platform o
place_by_parts inside p o k is at = at ∙ ap (λ (p : Plan). object_place p.platform o) is

pub place_below : (p : Plan) (o : ObjectNo) (k : ℕ) → k ≡ object_place p.platform o → IsObject p.platform o → k < object_count p.platform
place_below p o k at there = omega (arith, at, place_there p.platform o there)

-- an object's place is low
pub place_fits : (inside : Inside) (p : Plan) (o : ObjectNo) (k : ℕ) → with_scripts inside.routes inside.scripts ≡ p → IsReady inside → k ≡ object_place inside.routes o → IsObject p.platform o → k < 336
place_fits inside p o k is ready at there =
    let below : k < object_count p.platform = place_below p o k (place_by_parts inside p o k is at) there in
    omega (arith, below, few_objects p.platform (valid_by_parts inside p is ready).shape.bounded)

pub object_here : (p : Plan) (o : ObjectNo) (k : ℕ) → k ≡ object_place p.platform o → IsObject p.platform o → object_at p.platform k ≡ o
object_here p o k at there = ap (object_at p.platform) at ∙ object_of_place p.platform o there

pub memory_below : (p : Plan) (m : ℕ) → m < length p.platform.memories → m < object_count p.platform
memory_below p m lt = omega (arith, lt)

pub place_within : (p : Plan) (kept seen : List (List Share)) (k : ℕ) → kept ≡ shares_of p → seen ≡ kept → k < object_count p.platform → k < length seen
place_within p kept seen k same at lt = omega (arith, ap length (at ∙ same), count_objects p)

row_kept : (p : Plan) (kept seen : List (List Share)) (k : ℕ) (row shares : List Share) → kept ≡ shares_of p → seen ≡ kept → k < object_count p.platform → row ≡ get_or seen k row → shares ≡ row → shares ≡ object_shares p k
row_kept p kept seen k row shares same at lt read again = again ∙ object_kept p seen k row (at ∙ same) lt read

pub initiator_within : (p : Plan) (kept seen : List (List Share)) (k n : ℕ) (row shares : List Share) → kept ≡ shares_of p → seen ≡ kept → k < object_count p.platform → row ≡ get_or seen k row → shares ≡ row
    → n < length p.platform.initiators → n < length shares
initiator_within p kept seen k n row shares same at lt read again below = omega (arith, ap length (row_kept p kept seen k row shares same at lt read again), count_shares p k)

pub share_read : (p : Plan) (kept seen : List (List Share)) (k n : ℕ) (row shares : List Share) (d : Share) → kept ≡ shares_of p → seen ≡ kept → k < object_count p.platform → row ≡ get_or seen k row → shares ≡ row
    → n < length p.platform.initiators → get_or shares n d ≡ pair_share p k n
share_read p kept seen k n row shares d same at lt read again below = ap (λ (xs : List Share). get_or xs n d) (row_kept p kept seen k row shares same at lt read again) ∙ share_kept p k n d below

pub entries_read : (p : Plan) (kept seen : List (List Share)) (k sum : ℕ) (o : ObjectNo) (row shares : List Share) → IsValid p → kept ≡ shares_of p → seen ≡ kept → k ≡ object_place p.platform o → IsObject p.platform o
    → row ≡ get_or seen k row → shares ≡ row → sum ≡ capped (entries_in shares) → sum ≡ planned_at p o
entries_read p kept seen k sum o row shares made same at place there read again summed =
    let total : entries_in shares ≡ planned_at p o =
    ap entries_in (row_kept p kept seen k row shares same at (place_below p o k place there) read again) ∙ entries_at p k made.scripts ∙ ap (planned_at p) (object_here p o k place there) in
    let few : planned_at p o ≤ 1000000 = few_entries p o made.limits there in
    omega (arith, total, few, summed)

pub bytes_read : (p : Plan) (kept seen : List (List Share)) (m sum : ℕ) (row shares : List Share) → IsValid p → kept ≡ shares_of p → seen ≡ kept → m < length p.platform.memories → row ≡ get_or seen m row → shares ≡ row
    → sum ≡ capped (logged_in shares) → sum ≡ logged_bytes p m
bytes_read p kept seen m sum row shares made same at lt read again summed =
    let total : logged_in shares ≡ logged_bytes p m = ap logged_in (row_kept p kept seen m row shares same at (memory_below p m lt) read again) ∙ bytes_at p m made.scripts in
    let few : logged_bytes p m ≤ 67108864 = few_bytes p m made.limits lt in
    omega (arith, total, few, summed)

pub few_shares : (p : Plan) (n : ℕ) (o : ObjectNo) → IsValid p → IsObject p.platform o → n < length p.platform.initiators → share_at p n o ≤ 1000000
few_shares p n o made there lt = omega (arith, share_le p n o made.scripts lt, few_entries p o made.limits there)

pub few_shared_bytes : (p : Plan) (n m : ℕ) → IsValid p → m < length p.platform.memories → n < length p.platform.initiators → logged_share_at p n m ≤ 67108864
few_shared_bytes p n m made there lt = omega (arith, bytes_le p n m made.scripts lt, few_bytes p m made.limits there)
