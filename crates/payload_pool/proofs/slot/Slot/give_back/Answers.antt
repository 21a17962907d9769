use Rattle.std.proofs.Common.{◌≡◌, List, ℕ, ◌==◌, ◌≤◌, Bool, Option, Some, None, refl, sym, ap, ◌∙◌, subst, arith}
use Rattle.std.specs.List.{position}
use Rattle.std.specs.Option.{option_map, option_or}
use Rattle.std.proofs.lemmas.Bool.{both_ways, lt-ltb}
use Rattle.payload_pool.specs.declared.slot.KeptPayload.{KeptPayload}
use Rattle.payload_pool.specs.Slots.{SlotView, tally}
use Rattle.payload_pool.proofs.Found.{found}
use Rattle.payload_pool.proofs.slot.Slot.give_back.Goals as goal

map_or : (a b : Option KeptPayload) → option_map (λ (k : KeptPayload). k.payload.room) (option_or a b) ≡ option_or (option_map (λ (k : KeptPayload). k.payload.room) a) (option_map (λ (k : KeptPayload). k.payload.room) b)
map_or None b = refl
map_or (Some k) b = refl

pub place_in-place-requires : goal.place_in-place-requires
place_in-place-requires c =
    let some = subst (λ (s : SlotView). 1 ≤ tally c.args.number s.out) (sym c.self.view_is) c.requires.number in
    subst (λ (l : List ℕ). 1 ≤ tally c.args.number l) (sym {A = List ℕ} c.deref.ensures.value) some

pub returns-clause-slot : goal.returns-clause-slot
returns-clause-slot c =
    let s = c.self.inside in
    let p : ℕ → Bool = λ m. m == c.args.number in
    let f = found p s.out.items c.place_in-place.result (ap (λ (l : List ℕ). position p l) (sym {A = List ℕ} c.deref.ensures.value) ∙ c.place_in-place.ensures) in
    rw (c.or.ensures, c.take.ensures.value, c.take_from.ensures.items, ← c.self.view_is, map_or c.args.kept s.kept, f.first) refl
