use Rattle.std.proofs.Common.{◌≡◌, ℕ, ◌+◌, ◌<◌, List, [], ◌∷◌, ◌++◌, length, map, take, get_or, sym, ap, subst, ◌∙◌}
use Rattle.std.proofs.lemmas.List.{get_or_default, map-append, take_all, take_more}
use Rattle.route_plan.specs.declared.shares.Share.{Share}
use Rattle.route_plan.specs.Shares.{no_share}
use Rattle.route_plan.proofs.shares.object_shares.Goals as goal

-- one row more
shares_more : (rows : List (List Share)) (place i : ℕ) (row seen items new : List Share) (d : Share) → i < length rows → row ≡ get_or rows i row → seen ≡ row → place < length seen
    → items ≡ map (λ (r : List Share). get_or r place no_share) (take i rows) → new ≡ items ++ get_or seen place d ∷ [] → new ≡ map (λ (r : List Share). get_or r place no_share) (take (i + 1) rows)
shares_more rows place i row seen items new d lt at same there so_far pushed =
    let f : List Share → Share = λ (r : List Share). get_or r place no_share in
    let more : map f (take (i + 1) rows) ≡ map f (take i rows) ++ f (get_or rows i row) ∷ [] = ap (map f) (take_more rows i row lt) ∙ map-append f (take i rows) (get_or rows i row ∷ []) in
    let last : get_or seen place d ≡ f (get_or rows i row) = get_or_default seen place d no_share there ∙ ap f (same ∙ at) in
    pushed ∙ ap (λ (l : List Share). l ++ get_or seen place d ∷ []) so_far ∙ ap (λ (x : Share). map f (take i rows) ++ x ∷ []) last ∙ sym more

pub bounds-as_slice-place : goal.bounds-as_slice-place
bounds-as_slice-place c =
    subst (λ (r : List Share). c.args.place < length r) (sym (c.as_slice.ensures ∙ c.row-item.is)) (c.requires c.loop-row.row-index c.row-item.result c.loop-row-test.true)

pub loop-row-preserved : goal.loop-row-preserved
loop-row-preserved c =
    let there : c.args.place < length c.as_slice.result.now = subst (λ (r : List Share). c.args.place < length r) (sym (c.as_slice.ensures ∙ c.row-item.is)) (c.requires c.loop-row.row-index c.row-item.result c.loop-row-test.true) in
    shares_more c.args.rows.now c.args.place c.loop-row.row-index c.row-item.result c.as_slice.result.now c.loop-row.shares.items c.push.new.self.items _ c.loop-row-test.true c.row-item.is c.as_slice.ensures there c.loop-row.invariant c.in_ok-push.ensures.items

pub returns : goal.returns
returns c =
    c.from_vec.ensures ∙ c.loop-row.invariant ∙ ap (map (λ (r : List Share). get_or r c.args.place no_share)) (take_all c.loop-row.row-index c.args.rows.now c.loop-row-test.false)
