-- A pool is built as the plan says, and the pools are those of the initiators that have one.
use Rattle.std.proofs.Common.{◌≡◌, ℕ, ◌+◌, ◌<◌, Bool, true, false, cond, List, [], ◌∷◌, ◌++◌, length, map, get_or, replicate, Some, refl, sym, ap, subst, ◌∙◌, zero-add, arith, ⊎_elim}
use Rattle.std.specs.Prelude.{IsSomeAnd, slice_get}
use Rattle.std.proofs.lemmas.List.{length-map, length-replicate, map-append}
use mathlib.Core.Option.{some}
use lib.ListN.{get_elem?}
use Rattle.atomic_table.specs.Seated.{TableId}
use Rattle.view_lists.proofs.Places.{each_end}
use Rattle.one_history.specs.declared.view.Frame.{Frame}
use Rattle.shared_object.specs.Written.{own_number}
use Rattle.shared_object.specs.Standing.{Numbers, place, IsBuiltFor}
use Rattle.tlm_types.specs.declared.words.ObjectNo.{ObjectNo}
use Rattle.tlm_types.specs.declared.words.ObjectNo.TheVariants.{Pool}
use Rattle.tlm_model.specs.declared.platform.InitiatorRow.{InitiatorRow}
use Rattle.tlm_model.specs.declared.platform.Platform.{Platform}
use Rattle.tlm_model.specs.Plan.{Plan}
use Rattle.token_book.specs.Account.{Account}
use Rattle.payload_pool.specs.Calls.{built_of}
use Rattle.payload_pool.specs.Pool.{PoolView}
use Rattle.payload_pool.specs.Slots.{fresh_slot}
use Rattle.cargo_model.specs.Known.{has_pool, is_used, object_number}
use Rattle.cargo_net.specs.Traffic.{IsPoolBuilt}
use Rattle.plat_net.specs.Net.{ArePoolsTo, pool_numbers}
use Rattle.plat_net.specs.Objects.{HasObject, frame_of, pools_of, pools_start}
use Rattle.plat_build.specs.Supplies.{IsSupply}
use Rattle.plat_build.specs.declared.supplies.Supply.{Supply}
use Rattle.plat_net.proofs.ObjectLemmas.{gates_at_object, pools_more}

-- a new pool
abbrev pub blank_pool : ℕ → ℕ → ℕ → Account → PoolView
blank_pool initiator slots entries book = record { initiator = initiator; room = 4096; slots = replicate slots (fresh_slot 4096); log = record { events = []; room = entries }; book = book }

-- it may stand there
pub pool_built : (p : Plan) (f : Frame Plan) (table tokens : TableId) (i slots entries : ℕ) (s : Supply) (pool : PoolView) → f ≡ frame_of p → IsSomeAnd (slice_get p.platform.initiators i) (λ (row : InitiatorRow). slots ≡ row.pool)
    → HasObject p.platform (object_number p.platform (Pool i)) (Pool i) → IsSupply table tokens f (object_number p.platform (Pool i)) (Pool i) s → pool ≡ blank_pool i slots entries s.second
    → IsBuiltFor IsPoolBuilt (place f tokens s.book.owner (own_number (built_of pool).object)) (built_of pool)
pool_built p f table tokens i slots entries s pool frame row there supply is =
    let blank : PoolView = blank_pool i slots entries s.second in
    let n : ℕ = object_number p.platform (Pool i) in
    let owner : s.book.owner ≡ n = supply.book_owner in
    let many : length (replicate slots (fresh_slot 4096)) ≡ slots = length-replicate slots (fresh_slot 4096) in
    let base : IsBuiltFor IsPoolBuilt (place f tokens s.book.owner (own_number (built_of blank).object)) (built_of blank) = record {
      own = refl;
      world = record {
        initiator = i;
        object = refl;
        place = owner ∙ ap (λ (x : Frame Plan). object_number x.world.platform (Pool i)) (sym frame);
        row = subst (λ (x : Frame Plan). IsSomeAnd (slice_get x.world.platform.initiators i) (λ (r : InitiatorRow). length (replicate slots (fresh_slot 4096)) ≡ r.pool)) (sym frame)
            (subst (λ (k : ℕ). IsSomeAnd (slice_get p.platform.initiators i) (λ (r : InitiatorRow). k ≡ r.pool)) (sym many) row);
        room = refl;
      };
      gates = record {
        count = sym (ap (λ (k : ℕ). get_or f.gates k 0) owner ∙ (ap (λ (x : Frame Plan). get_or x.gates n 0) frame ∙ gates_at_object p.platform n (Pool i) there));
        first = λ some. absurd (omega (arith, some));
      };
      book = (ap (λ (b : Account). b.table) supply.second, ap (λ (b : Account). b.owner) supply.second ∙ ap (λ (k : ℕ). length f.planned + k) (sym owner));
    } in
    subst (λ (x : PoolView). IsBuiltFor IsPoolBuilt (place f tokens s.book.owner (own_number (built_of x).object)) (built_of x)) (sym is) base

-- the object of a pool
pool_of : Numbers → ObjectNo
pool_of s = Pool s.own

-- as many pools as there are of these initiators
pub pools_long : (p : Platform) (n : ℕ) (pools : List Numbers) → ArePoolsTo p n pools → length pools ≡ length (pools_of p n)
pools_long p n pools are = sym (length-map pools (λ (s : Numbers). Pool s.own)) ∙ ap length are.objects

-- one initiator more, without a pool
pub pools_same : (p : Platform) (n : ℕ) (row : InitiatorRow) (pools : List Numbers) → slice_get p.initiators n ≡ Some row → has_pool row.style ≡ false → ArePoolsTo p n pools → ArePoolsTo p (n + 1) pools
pools_same p n row pools at none are =
    let xs : List ObjectNo = map (λ (s : Numbers). Pool s.own) pools in
    let added : xs ≡ xs ++ cond (has_pool row.style) (Pool n ∷ []) [] = sym (nothing xs) ∙ ap (λ (b : Bool). xs ++ cond b (Pool n ∷ []) []) (sym none) in
    record { objects = pools_more p [] xs xs n row at are.objects added; each = are.each }
  where
    nothing : (l : List ObjectNo) → l ++ [] ≡ l
    nothing [] = refl
    nothing (x ∷ l) = ap (λ (m : List ObjectNo). x ∷ m) (nothing l)

-- and with one
pub pools_pushed : (p : Platform) (n : ℕ) (row : InitiatorRow) (pools new : List Numbers) (s : Numbers) → slice_get p.initiators n ≡ Some row → has_pool row.style ≡ true → ArePoolsTo p n pools → s ≡ pool_numbers p n → new ≡ pools ++ s ∷ [] → ArePoolsTo p (n + 1) new
pools_pushed p n row pools new s at has are is pushed =
    let xs : List ObjectNo = map (λ (t : Numbers). Pool t.own) pools in
    let last : Pool s.own ∷ [] ≡ cond (has_pool row.style) (Pool n ∷ []) [] = ap (λ (t : Numbers). Pool t.own ∷ []) is ∙ ap (λ (b : Bool). cond b (Pool n ∷ []) []) (sym has) in
    let added : map (λ (t : Numbers). Pool t.own) new ≡ xs ++ cond (has_pool row.style) (Pool n ∷ []) [] =
    ap (map (λ (t : Numbers). Pool t.own)) pushed ∙ (map-append (λ (t : Numbers). Pool t.own) pools (s ∷ []) ∙ ap (λ (l : List ObjectNo). xs ++ l) last) in
    record {
      objects = pools_more p [] xs (map (λ (t : Numbers). Pool t.own) new) n row at are.objects added;
      each = λ k t there. each_end (λ (j : ℕ) (u : Numbers). u ≡ pool_numbers p u.own) pools s are.each (is ∙ ap (λ (t : Numbers). pool_numbers p t.own) (sym is)) k t (subst (λ (l : List Numbers). get_elem? l k ≡ some t) pushed there);
    }
