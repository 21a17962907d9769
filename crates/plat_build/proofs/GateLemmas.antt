-- The gates of all objects are those of the memories.
use Rattle.std.proofs.Common.{◌≡◌, ℕ, zero, suc, ◌+◌, ◌<◌, ◌≤◌, Bool, true, false, cond, List, [], ◌∷◌, ◌++◌, length, map, filter, get_or, take, drop, sum, Some, None, refl, sym, ap, ◌∙◌, ⊎_elim, arith}
use Rattle.std.specs.Prelude.{slice_get}
use Rattle.std.specs.List.{sum_by, range_with_len}
use Rattle.std.proofs.lemmas.List.{take_all}
use Rattle.std.proofs.lemmas.List.Sums.{sum_by-cons, sum_by-append, sum_by-drop_more, sum_by-take-drop}
use Rattle.std.proofs.lemmas.Option.{slice_get_cases}
use Rattle.tlm_types.specs.declared.words.ObjectNo.{ObjectNo}
use Rattle.tlm_types.specs.declared.words.ObjectNo.TheVariants.{Memory, Hop, Pool}
use Rattle.tlm_model.specs.declared.platform.MemoryRow.{MemoryRow}
use Rattle.tlm_model.specs.declared.platform.Platform.{Platform}
use Rattle.route_plan.specs.Valid.{hop_count}
use Rattle.cargo_model.specs.Known.{is_used, objects_of}
use Rattle.cargo_net.specs.Gates.{gates_at, gates_of, row_gates}
use Rattle.plat_net.specs.Objects.{pools_of}

sum_map : {A : Type 0} (f : A → ℕ) (l : List A) → sum (map f l) ≡ sum_by f l
sum_map f [] = refl
sum_map f (x ∷ xs) = let h = sum_map f xs in omega (arith, sum_by-cons (λ (y : ℕ). y) (f x) (map f xs), sum_by-cons f x xs)

module _ (p : Platform) where
  gates_in : ObjectNo → ℕ
  gates_in o = gates_at p o

  row_in : MemoryRow → ℕ
  row_in m = m.traits.gates

  -- the memories from the given one on
  memories_from : (a n : ℕ) → a + n ≡ length p.memories → sum_by gates_in (map Memory (range_with_len a n)) ≡ sum_by row_in (drop a p.memories)
  unfolding gates_in row_in
  memories_from a zero all =
      let both = sum_by-take-drop row_in p.memories a in
      let whole = ap (λ (l : List MemoryRow). sum_by row_in l) (take_all a p.memories (omega arith)) in
      omega arith
  memories_from a (suc n) all = ⊎_elim
      (λ h.
      let here : gates_in (Memory a) ≡ row_in h.0 = ap row_gates h.2 in
      let same : row_in (get_or p.memories a h.0) ≡ row_in h.0 = ap row_in h.3 in
      let rest = memories_from (a + 1) n (omega arith) in
      omega (arith, sum_by-cons gates_in (Memory a) (map Memory (range_with_len (a + 1) n)), sum_by-drop_more row_in p.memories a h.0 h.1))
      (λ past. let long = past.0 in absurd (omega arith))
      (slice_get_cases p.memories a).1

  none_of_hops : (l : List ℕ) → sum_by gates_in (map Hop l) ≡ 0
  unfolding gates_in
  none_of_hops [] = refl
  none_of_hops (x ∷ xs) = let h = none_of_hops xs in omega (arith, sum_by-cons gates_in (Hop x) (map Hop xs))

  none_of_pools : (l : List ℕ) → sum_by gates_in (filter (is_used p) (map Pool l)) ≡ 0
  unfolding gates_in
  none_of_pools [] = refl
  none_of_pools (x ∷ xs) =
      let h = none_of_pools xs in
      elim (is_used p (Pool x)) as (λ (b : Bool). sum_by gates_in (cond b (Pool x ∷ filter (is_used p) (map Pool xs)) (filter (is_used p) (map Pool xs))) ≡ 0) [
        | true ↦ omega (arith, sum_by-cons gates_in (Pool x) (filter (is_used p) (map Pool xs)))
        | false ↦ h
      ]

  pub few_gates : sum_by (λ (m : MemoryRow). m.traits.gates) p.memories ≤ 1024 → sum (gates_of p) ≤ 1024
  unfolding gates_of objects_of gates_in row_in
  few_gates few =
      let ms : List ObjectNo = map Memory (range_with_len 0 (length p.memories)) in
      let hs : List ObjectNo = map Hop (range_with_len 0 (hop_count p)) in
      let ps : List ObjectNo = pools_of p (length p.initiators) in
      let a = sum_map (λ o. gates_at p o) (ms ++ hs ++ ps) in
      let b = memories_from 0 (length p.memories) (omega arith) in
      let c = none_of_hops (range_with_len 0 (hop_count p)) in
      let d = none_of_pools (range_with_len 0 (length p.initiators)) in
      omega (arith, sum_by-append gates_in (ms ++ hs) ps, sum_by-append gates_in ms hs)
