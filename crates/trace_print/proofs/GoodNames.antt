-- The names of a platform of a good shape are plain, and no two of its components or hops have the same.
use Rattle.std.proofs.Common.{◌≡◌, ◌≢◌, ◌⊎◌, ℕ, zero, suc, ◌+◌, ◌-◌, ◌<◌, ◌≤◌, true, ◌&&◌, ◌||◌, List, [], ◌∷◌, ◌++◌, length, map, take, get_or, sum_by, Option, Some, None, eqb, leb, refl, sym, ap, subst, ◌∙◌, inl, inr, ⊎_elim, arith, length-append}
use Rattle.std.specs.Prelude.{All, slice_get}
use Rattle.std.specs.List.{AllPairs, flat_map, list_all}
use Rattle.std.proofs.lemmas.Bool.{and_parts, cases_lt, eqb-true, leb-true, ltb-true}
use Rattle.std.proofs.lemmas.List.{get_or-append-add, get_or_append_left, length-map}
use Rattle.std.proofs.lemmas.List.Sums.{sum_by-cons}
use Rattle.std.proofs.lemmas.Option.{get_or_from_slice_get, slice_get_within, unwrap_or-slice_get}
use Rattle.platform_model.specs.Bounded.{IsBounded, IsBoundedInitiator, IsBoundedMemory, IsBoundedRouter, is_there, names_in}
use Rattle.platform_model.specs.Name.{is_lower, is_name, is_name_byte}
use Rattle.tlm_types.specs.declared.words.ObjectNo.TheVariants.{Hop}
use Rattle.tlm_model.specs.declared.platform.InitiatorRow.{InitiatorRow}
use Rattle.tlm_model.specs.declared.platform.MemoryRow.{MemoryRow}
use Rattle.tlm_model.specs.declared.platform.Platform.{Platform}
use Rattle.tlm_model.specs.declared.platform.RouterRow.{RouterRow}
use Rattle.tlm_model.specs.declared.platform.Target.{Target}
use Rattle.tlm_model.specs.declared.platform.Target.TheVariants.{Router, Memory}
use Rattle.tlm_model.specs.declared.platform.WindowRow.{WindowRow}
use Rattle.report_model.specs.Report.{hop_word, hop_words, initiator_name, memory_name, name_of_initiator, name_of_memory, name_of_router, object_word, target_name}
use Rattle.platform_shape.specs.Shape.{IsShape}
use Rattle.platform_shape.proofs.SinglePaths.{or_true, some_same, windows_apart}
use Rattle.trace_print.specs.Naming.{HasOwnNames, HasPlainNames, IsPlainName}
use Rattle.trace_print.proofs.SplitLemmas.{split-at}

-- a letter or a digit is visible, and no `.` or `>`
record IsPlainByte (c : ℕ) : Type 0 where
  visible : 48 ≤ c
  other : c ≢ 62

plain-lower : (c : ℕ) → is_lower c ≡ true → IsPlainByte c
plain-lower c h =
    let p = and_parts (leb 97 c) (leb c 122) h in
    let low : 97 ≤ c = leb-true 97 c p.0 in
    record { visible = omega arith; other = λ e. omega arith }

plain-byte : (c : ℕ) → is_name_byte c ≡ true → IsPlainByte c
plain-byte c h =
    ⊎_elim
    (λ (a : (is_lower c || (leb 48 c && leb c 57)) ≡ true). ⊎_elim
    (λ (b : is_lower c ≡ true). plain-lower c b)
    (λ (b : (leb 48 c && leb c 57) ≡ true).
    let p = and_parts (leb 48 c) (leb c 57) b in
    let low : 48 ≤ c = leb-true 48 c p.0 in
    let high : c ≤ 57 = leb-true c 57 p.1 in
    record { visible = low; other = λ e. omega arith })
    (or_true (is_lower c) (leb 48 c && leb c 57) a))
    (λ (a : eqb c 95 ≡ true). let same : c ≡ 95 = eqb-true c 95 a in record { visible = omega arith; other = λ e. omega arith })
    (or_true (is_lower c || (leb 48 c && leb c 57)) (eqb c 95) h)

plain-more : (c : ℕ) (cs : List ℕ) → IsPlainByte c → IsPlainName cs → IsPlainName (c ∷ cs)
plain-more c cs b p =
    let v = b.visible in
    ((omega (arith, v), p.0), ((λ e. omega (arith, v, e)), p.1), (b.other, p.2))

plain-bytes : (cs : List ℕ) → list_all is_name_byte cs ≡ true → IsPlainName cs
plain-bytes [] h = (tt, tt, tt)
plain-bytes (c ∷ cs) h =
    let p = and_parts (is_name_byte c) (list_all is_name_byte cs) h in
    plain-more c cs (plain-byte c p.0) (plain-bytes cs p.1)

plain-name : (name : List ℕ) → is_name name ≡ true → IsPlainName name
plain-name [] h = cc
plain-name (c ∷ cs) h =
    let p = and_parts (is_lower c && leb (length cs) 15) (list_all is_name_byte cs) h in
    let q = and_parts (is_lower c) (leb (length cs) 15) p.0 in
    plain-more c cs (plain-lower c q.0) (plain-bytes cs p.1)

pub all_got : {X : Type 0} (P : X → Type 0) (xs : List X) → All P xs → (n : ℕ) (x : X) → slice_get xs n ≡ Some x → P x
all_got P xs h n x at = subst P (get_or_from_slice_get xs n x x at) (h n x (slice_get_within xs n x at))

initiator-plain : (p : Platform) → IsBounded p → (n : ℕ) (o : Option InitiatorRow) → slice_get p.initiators n ≡ o → IsPlainName (name_of_initiator o)
initiator-plain p b n None e = (tt, tt, tt)
initiator-plain p b n (Some row) e = let r = all_got (IsBoundedInitiator p) p.initiators b.initiators n row e in plain-name row.name r.named

router-plain : (p : Platform) → IsBounded p → (n : ℕ) (o : Option RouterRow) → slice_get p.routers n ≡ o → IsPlainName (name_of_router o)
router-plain p b n None e = (tt, tt, tt)
router-plain p b n (Some row) e = let r = all_got (IsBoundedRouter p) p.routers b.routers n row e in plain-name row.name r.named

memory-plain : (p : Platform) → IsBounded p → (n : ℕ) (o : Option MemoryRow) → slice_get p.memories n ≡ o → IsPlainName (name_of_memory o)
memory-plain p b n None e = (tt, tt, tt)
memory-plain p b n (Some row) e = let r = all_got IsBoundedMemory p.memories b.memories n row e in plain-name row.name r.named

pub names-plain : (p : Platform) → IsBounded p → HasPlainNames p
names-plain p b = record {
  initiators = λ n. initiator-plain p b n (slice_get p.initiators n) refl;
  routers = λ n. router-plain p b n (slice_get p.routers n) refl;
  memories = λ n. memory-plain p b n (slice_get p.memories n) refl;
}

-- items of which no two are the same have one place each
own_place : {X : Type 0} (xs : List X) → AllPairs (λ x y. x ≢ y) xs → (i j : ℕ) (d : X) → i < length xs → j < length xs → get_or xs i d ≡ get_or xs j d → i ≡ j
own_place xs own i j d hi hj e =
    ⊎_elim
    (λ (lt : i < j). absurd (own i j d lt hj e))
    (λ (le : j ≤ i). ⊎_elim (λ (lt : j < i). absurd (own j i d lt hi (sym e))) (λ (ge : i ≤ j). omega (arith, le, ge)) (cases_lt j i))
    (cases_lt i j)

initiators_named : (xs : List InitiatorRow) (n : ℕ) → get_or (map (λ (i : InitiatorRow). i.name) xs) n [] ≡ name_of_initiator (slice_get xs n)
initiators_named [] n = refl
initiators_named (x ∷ xs) zero = refl
initiators_named (x ∷ xs) (suc n) = initiators_named xs n

routers_named : (xs : List RouterRow) (n : ℕ) → get_or (map (λ (r : RouterRow). r.name) xs) n [] ≡ name_of_router (slice_get xs n)
routers_named [] n = refl
routers_named (x ∷ xs) zero = refl
routers_named (x ∷ xs) (suc n) = routers_named xs n

memories_named : (xs : List MemoryRow) (n : ℕ) → get_or (map (λ (m : MemoryRow). m.name) xs) n [] ≡ name_of_memory (slice_get xs n)
memories_named [] n = refl
memories_named (x ∷ xs) zero = refl
memories_named (x ∷ xs) (suc n) = memories_named xs n

-- a component's place among the names of its platform
record IsNamedAt (p : Platform) (n : ℕ) (name : List ℕ) : Type 0 where
  within : n < length (names_in p)
  at : get_or (names_in p) n [] ≡ name

same_place : (p : Platform) → IsBounded p → (n m : ℕ) (a b : List ℕ) → IsNamedAt p n a → IsNamedAt p m b → a ≡ b → n ≡ m
same_place p bounded n m a b x y e = own_place (names_in p) bounded.own_names n m [] x.within y.within (x.at ∙ (e ∙ sym y.at))

module _ (p : Platform) where
  is : List (List ℕ)
  is = map (λ (i : InitiatorRow). i.name) p.initiators

  rs : List (List ℕ)
  rs = map (λ (r : RouterRow). r.name) p.routers

  ms : List (List ℕ)
  ms = map (λ (m : MemoryRow). m.name) p.memories

  initiator_at : (n : ℕ) → n < length p.initiators → IsNamedAt p n (initiator_name p n)
  unfolding is rs ms
  initiator_at n lt =
      let some : n < length is = omega (arith, length-map p.initiators (λ (i : InitiatorRow). i.name)) in
      let more : n < length (is ++ rs) = omega (arith, length-append is rs) in
      record {
        within = omega (arith, length-append (is ++ rs) ms);
        at = get_or_append_left (is ++ rs) ms [] n more ∙ get_or_append_left is rs [] n some ∙ initiators_named p.initiators n;
      }

  router_at : (r : ℕ) → r < length p.routers → IsNamedAt p (length p.initiators + r) (name_of_router (slice_get p.routers r))
  unfolding is rs ms
  router_at r lt =
      let first = length-map p.initiators (λ (i : InitiatorRow). i.name) in
      let second = length-map p.routers (λ (r : RouterRow). r.name) in
      let more : length p.initiators + r < length (is ++ rs) = omega (arith, length-append is rs, first, second) in
      let here : length p.initiators + r ≡ length is + r = omega (arith, first) in
      record {
        within = omega (arith, length-append (is ++ rs) ms);
        at = get_or_append_left (is ++ rs) ms [] (length p.initiators + r) more ∙ ap (λ n. get_or (is ++ rs) n []) here ∙ get_or-append-add is rs r [] ∙ routers_named p.routers r;
      }

  memory_at : (m : ℕ) → m < length p.memories → IsNamedAt p (length p.initiators + length p.routers + m) (memory_name p m)
  unfolding is rs ms
  memory_at m lt =
      let first = length-map p.initiators (λ (i : InitiatorRow). i.name) in
      let second = length-map p.routers (λ (r : RouterRow). r.name) in
      let third = length-map p.memories (λ (m : MemoryRow). m.name) in
      let here : length p.initiators + length p.routers + m ≡ length (is ++ rs) + m = omega (arith, length-append is rs, first, second) in
      record {
        within = omega (arith, length-append (is ++ rs) ms, length-append is rs, first, second, third);
        at = ap (λ n. get_or ((is ++ rs) ++ ms) n []) here ∙ get_or-append-add (is ++ rs) ms m [] ∙ memories_named p.memories m;
      }

own_initiators : (p : Platform) → IsBounded p → (n m : ℕ) → n < length p.initiators → m < length p.initiators → initiator_name p n ≡ initiator_name p m → n ≡ m
own_initiators p b n m hn hm e = same_place p b n m (initiator_name p n) (initiator_name p m) (initiator_at p n hn) (initiator_at p m hm) e

own_memories : (p : Platform) → IsBounded p → (n m : ℕ) → n < length p.memories → m < length p.memories → memory_name p n ≡ memory_name p m → n ≡ m
own_memories p b n m hn hm e =
    let same = same_place p b _ _ (memory_name p n) (memory_name p m) (memory_at p n hn) (memory_at p m hm) e in
    omega (arith, same)

own_routers : (p : Platform) → IsBounded p → (r s : ℕ) → r < length p.routers → s < length p.routers → name_of_router (slice_get p.routers r) ≡ name_of_router (slice_get p.routers s) → r ≡ s
own_routers p b r s hr hs e =
    let same = same_place p b _ _ (name_of_router (slice_get p.routers r)) (name_of_router (slice_get p.routers s)) (router_at p r hr) (router_at p s hs) e in
    omega (arith, same)

apart : (p : Platform) → IsBounded p → (n r : ℕ) → n < length p.initiators → r < length p.routers → initiator_name p n ≡ name_of_router (slice_get p.routers r) → ⊥
apart p b n r hn hr e =
    let same = same_place p b _ _ (initiator_name p n) (name_of_router (slice_get p.routers r)) (initiator_at p n hn) (router_at p r hr) e in
    omega (arith, same, hn)

-- components that are there, of one name, are the same
own_targets : (p : Platform) → IsBounded p → (t u : Target) → is_there p t ≡ true → is_there p u ≡ true → target_name p t ≡ target_name p u → t ≡ u
own_targets p b (Router r) (Router s) ht hu e = ap Router (own_routers p b r s (ltb-true r (length p.routers) ht) (ltb-true s (length p.routers) hu) e)
own_targets p b (Router r) (Memory m) ht hu e =
    let hr = ltb-true r (length p.routers) ht in
    let same = same_place p b _ _ (name_of_router (slice_get p.routers r)) (memory_name p m) (router_at p r hr) (memory_at p m (ltb-true m (length p.memories) hu)) e in
    absurd (omega (arith, same, hr))
own_targets p b (Memory m) (Router r) ht hu e =
    let hr = ltb-true r (length p.routers) hu in
    let same = same_place p b _ _ (memory_name p m) (name_of_router (slice_get p.routers r)) (memory_at p m (ltb-true m (length p.memories) ht)) (router_at p r hr) e in
    absurd (omega (arith, same, hr))
own_targets p b (Memory m) (Memory n) ht hu e = ap Memory (own_memories p b m n (ltb-true m (length p.memories) ht) (ltb-true n (length p.memories) hu) e)

-- the words of a router's hops
abbrev window_words : Platform → RouterRow → List (List ℕ)
window_words p r = map (λ (w : WindowRow). hop_word r.name (target_name p w.to)) r.windows

-- a word stands at the window with this number of the router with that
record IsWindow (p : Platform) (rows : List RouterRow) (h : ℕ) (word : List ℕ) : Type 0 where
  router : ℕ
  row : RouterRow
  there : slice_get rows router ≡ Some row
  number : ℕ
  window : WindowRow
  at : slice_get row.windows number ≡ Some window
  place : h ≡ sum_by (λ (r : RouterRow). length r.windows) (take router rows) + number
  word_is : word ≡ hop_word row.name (target_name p window.to)

mapped : {X : Type 0} (f : X → List ℕ) (xs : List X) (h : ℕ) → h < length (map f xs) → (x : X) × (slice_get xs h ≡ Some x) × (get_or (map f xs) h [] ≡ f x)
mapped f [] h lt = absurd (omega (arith, lt))
mapped f (x ∷ xs) zero lt = (x, refl, refl)
mapped f (x ∷ xs) (suc h) lt = mapped f xs h (omega (arith, lt))

window_at : (p : Platform) (rows : List RouterRow) (h : ℕ) → h < length (flat_map (window_words p) rows) → IsWindow p rows h (get_or (flat_map (window_words p) rows) h [])
window_at p [] h lt = absurd (omega (arith, lt))
window_at p (row ∷ rows) h lt =
    let ws = window_words p row in
    let more = flat_map (window_words p) rows in
    let count = length-map row.windows (λ (w : WindowRow). hop_word row.name (target_name p w.to)) in
    ⊎_elim
    (λ (low : h < length ws).
    let m = mapped (λ (w : WindowRow). hop_word row.name (target_name p w.to)) row.windows h low in
    record { router = 0; row = row; there = refl; number = h; window = m.0; at = m.1; place = omega arith; word_is = get_or_append_left ws more [] h low ∙ m.2 })
    (λ (high : length ws ≤ h).
    let k : ℕ = h - length ws in
    let here : h ≡ length ws + k = omega arith in
    let w = window_at p rows k (omega (arith, length-append ws more)) in
    record {
      router = suc w.router;
      row = w.row;
      there = w.there;
      number = w.number;
      window = w.window;
      at = w.at;
      place = omega (arith, here, count, w.place, sum_by-cons (λ (r : RouterRow). length r.windows) row (take w.router rows));
      word_is = ap (λ n. get_or (ws ++ more) n []) here ∙ get_or-append-add ws more k [] ∙ w.word_is;
    })
    (cases_lt h (length ws))

-- a hop is the binding of an initiator
record IsBinding (p : Platform) (h : ℕ) : Type 0 where
  row : InitiatorRow
  there : slice_get p.initiators h ≡ Some row
  word_is : object_word p (Hop h) ≡ hop_word row.name (target_name p row.bind)

-- or a window of a router
record IsWindowHop (p : Platform) (h : ℕ) : Type 0 where
  past : ℕ
  place : h ≡ length p.initiators + past
  window : IsWindow p p.routers past (object_word p (Hop h))

hop_at : (p : Platform) (h : ℕ) → h < length (hop_words p) → IsBinding p h ⊎ IsWindowHop p h
hop_at p h lt =
    let bindings = map (λ (i : InitiatorRow). hop_word i.name (target_name p i.bind)) p.initiators in
    let windows = flat_map (window_words p) p.routers in
    let count = length-map p.initiators (λ (i : InitiatorRow). hop_word i.name (target_name p i.bind)) in
    let word : object_word p (Hop h) ≡ get_or (bindings ++ windows) h [] = unwrap_or-slice_get (bindings ++ windows) h [] in
    ⊎_elim
    (λ (low : h < length bindings).
    let m = mapped (λ (i : InitiatorRow). hop_word i.name (target_name p i.bind)) p.initiators h low in
    inl (record { row = m.0; there = m.1; word_is = word ∙ get_or_append_left bindings windows [] h low ∙ m.2 }))
    (λ (high : length bindings ≤ h).
    let k : ℕ = h - length bindings in
    let here : h ≡ length bindings + k = omega arith in
    let w = window_at p p.routers k (omega (arith, length-append bindings windows)) in
    let same : object_word p (Hop h) ≡ get_or windows k [] = word ∙ ap (λ n. get_or (bindings ++ windows) n []) here ∙ get_or-append-add bindings windows k [] in
    inr (record { past = k; place = omega (arith, here, count); window = subst (IsWindow p p.routers k) (sym same) w }))
    (cases_lt h (length bindings))

-- the words of hops that are the same have the same ends
same_ends : (p : Platform) → IsBounded p → (a b x y : List ℕ) → IsPlainName a → IsPlainName b → hop_word a x ≡ hop_word b y → (a ≡ b) × (x ≡ y)
same_ends p bounded a b x y ha hb e = split-at 62 a b x y ha.2 hb.2 e

initiator_row : (p : Platform) → IsBounded p → (n : ℕ) (row : InitiatorRow) → slice_get p.initiators n ≡ Some row → IsPlainName row.name × (initiator_name p n ≡ row.name)
initiator_row p b n row at = (initiator-plain p b n (Some row) at, ap name_of_initiator at)

router_row : (p : Platform) → IsBounded p → (n : ℕ) (row : RouterRow) → slice_get p.routers n ≡ Some row → IsPlainName row.name × (name_of_router (slice_get p.routers n) ≡ row.name)
router_row p b n row at = (router-plain p b n (Some row) at, ap name_of_router at)

binding_binding : (p : Platform) → IsBounded p → (h k : ℕ) → IsBinding p h → IsBinding p k → object_word p (Hop h) ≡ object_word p (Hop k) → h ≡ k
binding_binding p b h k x y e =
    let i = initiator_row p b h x.row x.there in
    let j = initiator_row p b k y.row y.there in
    let ends = same_ends p b x.row.name y.row.name (target_name p x.row.bind) (target_name p y.row.bind) i.0 j.0 (sym x.word_is ∙ (e ∙ y.word_is)) in
    own_initiators p b h k (slice_get_within p.initiators h x.row x.there) (slice_get_within p.initiators k y.row y.there) (i.1 ∙ (ends.0 ∙ sym j.1))

binding_window : (p : Platform) → IsBounded p → (h k : ℕ) → IsBinding p h → IsWindowHop p k → object_word p (Hop h) ≡ object_word p (Hop k) → ⊥
binding_window p b h k x y e =
    let w = y.window in
    let i = initiator_row p b h x.row x.there in
    let r = router_row p b w.router w.row w.there in
    let ends = same_ends p b x.row.name w.row.name (target_name p x.row.bind) (target_name p w.window.to) i.0 r.0 (sym x.word_is ∙ (e ∙ w.word_is)) in
    apart p b h w.router (slice_get_within p.initiators h x.row x.there) (slice_get_within p.routers w.router w.row w.there) (i.1 ∙ (ends.0 ∙ sym r.1))

window_window : (p : Platform) → IsShape p → (h k : ℕ) → IsWindowHop p h → IsWindowHop p k → object_word p (Hop h) ≡ object_word p (Hop k) → h ≡ k
window_window p shape h k x y e =
    let b = shape.bounded in
    let v = x.window in
    let w = y.window in
    let i = router_row p b v.router v.row v.there in
    let j = router_row p b w.router w.row w.there in
    let ends = same_ends p b v.row.name w.row.name (target_name p v.window.to) (target_name p w.window.to) i.0 j.0 (sym v.word_is ∙ (e ∙ w.word_is)) in
    let routers : v.router ≡ w.router = own_routers p b v.router w.router (slice_get_within p.routers v.router v.row v.there) (slice_get_within p.routers w.router w.row w.there) (i.1 ∙ (ends.0 ∙ sym j.1)) in
    let rows : v.row ≡ w.row = some_same v.row w.row (sym v.there ∙ (ap (slice_get p.routers) routers ∙ w.there)) in
    let at : slice_get v.row.windows w.number ≡ Some w.window = ap (λ (r : RouterRow). slice_get r.windows w.number) rows ∙ w.at in
    let router = all_got (IsBoundedRouter p) p.routers b.routers v.router v.row v.there in
    let down : v.window.to ≡ w.window.to = own_targets p b v.window.to w.window.to
    (all_got (λ (w : WindowRow). is_there p w.to ≡ true) v.row.windows router.targets v.number v.window v.at)
    (all_got (λ (w : WindowRow). is_there p w.to ≡ true) v.row.windows router.targets w.number w.window at) ends.1 in
    let numbers = window_number v.row.windows (windows_apart p shape v.router v.row v.there) v.number w.number v.window w.window v.at at down in
    omega (arith, x.place, y.place, v.place, w.place, numbers, ap (λ n. sum_by (λ (r : RouterRow). length r.windows) (take n p.routers)) routers)
  where
    window_number : (ws : List WindowRow) → AllPairs (λ (v w : WindowRow). v.to ≢ w.to) ws → (i j : ℕ) (v w : WindowRow) → slice_get ws i ≡ Some v → slice_get ws j ≡ Some w → v.to ≡ w.to → i ≡ j
    window_number ws own i j v w at here e =
        let first : get_or ws i w ≡ v = get_or_from_slice_get ws i v w at in
        let second : get_or ws j w ≡ w = get_or_from_slice_get ws j w w here in
        let same : (get_or ws i w).to ≡ (get_or ws j w).to = ap (λ (x : WindowRow). x.to) first ∙ (e ∙ ap (λ (x : WindowRow). x.to) (sym second)) in
        ⊎_elim
        (λ (lt : i < j). absurd (own i j w lt (slice_get_within ws j w here) same))
        (λ (le : j ≤ i). ⊎_elim (λ (lt : j < i). absurd (own j i w lt (slice_get_within ws i v at) (sym same))) (λ (ge : i ≤ j). omega (arith, le, ge)) (cases_lt j i))
        (cases_lt i j)

own_hops : (p : Platform) → IsShape p → (h k : ℕ) → h < length (hop_words p) → k < length (hop_words p) → object_word p (Hop h) ≡ object_word p (Hop k) → h ≡ k
own_hops p shape h k hh hk e =
    let b = shape.bounded in
    ⊎_elim
    (λ (x : IsBinding p h). ⊎_elim (λ (y : IsBinding p k). binding_binding p b h k x y e) (λ (y : IsWindowHop p k). absurd (binding_window p b h k x y e)) (hop_at p k hk))
    (λ (x : IsWindowHop p h). ⊎_elim (λ (y : IsBinding p k). absurd (binding_window p b k h y x (sym e))) (λ (y : IsWindowHop p k). window_window p shape h k x y e) (hop_at p k hk))
    (hop_at p h hh)

pub names-own : (p : Platform) → IsShape p → HasOwnNames p
names-own p shape = record {
  initiators = own_initiators p shape.bounded;
  memories = own_memories p shape.bounded;
  hops = own_hops p shape;
}
