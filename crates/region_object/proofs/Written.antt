-- What a memory has written is its log.
use Rattle.std.proofs.Common.{◌≡◌, ℕ, ◌+◌, List, [], ◌∷◌, ◌++◌, All, map, length, true, false, refl, sym, ap, ◌∙◌, subst, arith}
use Rattle.std.specs.Prelude.{if◌then◌else◌}
use Rattle.view_lists.specs.Lists.{Has, Within}
use Rattle.view_lists.proofs.Members.{has_left}
use Rattle.std.proofs.lemmas.List.Elements.{All-head, All-tail}
use Rattle.tlm_types.specs.declared.words.ObjectNo.{ObjectNo}
use Rattle.tlm_types.specs.declared.entry.Entry.{Entry}
use Rattle.shared_object.specs.Written.{Written, logged, noted}
use Rattle.region_object.specs.declared.call.RegionCall.{RegionCall}
use Rattle.region_object.specs.Region.{LoggedMemory, after_call, is_admitted, region_entry, with_logged}
use Rattle.region_object.specs.Written.{written_from}

-- one more entry is written with the next number
pub written_from-more : (n : ℕ) (es : List Entry) (e : Entry) → written_from n (es ++ e ∷ []) ≡ written_from n es ++ noted (n + length es) e ∷ []
written_from-more n [] e =
    let sum : n ≡ n + 0 = omega arith in
    ap (λ (k : ℕ). noted k e ∷ []) sum
written_from-more n (x ∷ xs) e =
    let sum : n + 1 + length xs ≡ n + length (x ∷ xs) = omega arith in
    ap (λ (l : List Written). noted n x ∷ l) (written_from-more (n + 1) xs e ∙ ap (λ (k : ℕ). written_from (n + 1) xs ++ noted k e ∷ []) sum)

-- the log has just what was written
pub logged_written : (o : ObjectNo) (n : ℕ) (es : List Entry) → All (λ e. e.object ≡ o) es → es ≡ map (logged o) (written_from n es)
logged_written o n [] all = refl
logged_written o n (e ∷ es) all =
    let P : Entry → Type 0 = λ y. y.object ≡ o in
    let here : e ≡ logged o (noted n e) = ap (λ (x : ObjectNo). record { position = e.position; object = x; txn = e.txn; time = e.time; what = e.what }) (All-head P e es all) in
    ap (λ (x : Entry). x ∷ es) here ∙ ap (λ (l : List Entry). logged o (noted n e) ∷ l) (logged_written o (n + 1) es (All-tail P e es all))

-- what was written before a call is written after it
pub written_stays : (m : LoggedMemory) (position : ℕ) (call : RegionCall) → Within (written_from 0 m.log.entries) (written_from 0 (after_call m position call).log.entries)
written_stays m position call = λ w has.
    let e = region_entry m position call in
    elim (is_admitted m call) as (λ b. Has (written_from 0 (if b then with_logged m e else m).log.entries) w) [
      | true ↦ subst (λ (l : List Written). Has l w) (sym (written_from-more 0 m.log.entries e)) (has_left (written_from 0 m.log.entries) (noted (0 + length m.log.entries) e ∷ []) w has)
      | false ↦ has
    ]
