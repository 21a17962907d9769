-- What a hop carries and gives afterwards was carried or brought before.
use Rattle.std.proofs.Common.{◌≡◌, List, [], ◌∷◌, ◌++◌, refl, sym, ap, ◌∙◌, subst, ⊎_elim, append_assoc}
use Rattle.tlm_types.specs.declared.words.TxnId.{TxnId}
use Rattle.view_lists.specs.Lists.{Has, Within}
use Rattle.view_lists.proofs.Members.{has_left, has_right, has_either}
use Rattle.hop_object.specs.declared.lane.Lane.{Lane}
use Rattle.hop_object.specs.declared.lane.Side.{Side}
use Rattle.hop_object.specs.Lanes.{side_of}
use Rattle.hop_object.specs.Objects.{carried_by, of_item}

module _ {A : Type 0} where
  pub within_same : (xs ys : List A) → xs ≡ ys → Within xs ys
  within_same xs ys e x h = subst (λ (l : List A). Has l x) e h

  -- the parts of a list stand in another
  pub within_both : (xs ys zs : List A) → Within xs zs → Within ys zs → Within (xs ++ ys) zs
  within_both xs ys zs f g x h = ⊎_elim (λ (a : Has xs x). f x a) (λ (b : Has ys x). g x b) (has_either xs ys x h)

  pub within_left : (xs ys : List A) → Within xs (xs ++ ys)
  within_left xs ys x h = has_left xs ys x h

  pub within_right : (xs ys : List A) → Within ys (xs ++ ys)
  within_right xs ys x h = has_right xs ys x h

  pub within_over : (xs ys zs : List A) → Within xs ys → Within ys zs → Within xs zs
  within_over xs ys zs f g x h = g x (f x h)

  -- a part in the middle was changed, and some was given
  pub within_middle : (before old new behind given brought : List A) → Within (new ++ given) (old ++ brought) → Within ((before ++ (new ++ behind)) ++ given) ((before ++ (old ++ behind)) ++ brought)
  within_middle before old new behind given brought f =
      let all = (before ++ (old ++ behind)) ++ brought in
      let front : Within before all = λ x h. has_left (before ++ (old ++ behind)) brought x (has_left before (old ++ behind) x h) in
      let back : Within behind all = λ x h. has_left (before ++ (old ++ behind)) brought x (has_right before (old ++ behind) x (has_right old behind x h)) in
      let place : Within (old ++ brought) all = within_both old brought all (λ x h. has_left (before ++ (old ++ behind)) brought x (has_right before (old ++ behind) x (has_left old behind x h))) (λ x h. has_right (before ++ (old ++ behind)) brought x h) in
      let rest : Within (new ++ given) all = within_over (new ++ given) (old ++ brought) all f place in
      within_both (before ++ (new ++ behind)) given all
      (within_both before (new ++ behind) all front (within_both new behind all (λ x h. rest x (has_left new given x h)) back))
      (λ x h. rest x (has_right new given x h))

module _ {T : Type 0} where
  pub carried-append : (xs ys : List (Lane T)) → carried_by (xs ++ ys) ≡ carried_by xs ++ carried_by ys
  carried-append [] ys = refl
  carried-append (l ∷ ls) ys = ap (λ (t : List (TxnId × (Side × T))). of_item l.txn (side_of l.state) l.item ++ t) (carried-append ls ys) ∙ sym (append_assoc (of_item l.txn (side_of l.state) l.item) (carried_by ls) (carried_by ys))

  -- the lanes before and after a call differ in these
  pub items_changed : (lanes next before : List (Lane T)) (lane : Lane T) (behind mid : List (Lane T)) (given brought : List (TxnId × (Side × T)))
      → lanes ≡ before ++ lane ∷ behind → next ≡ before ++ (mid ++ behind)
      → Within (carried_by mid ++ given) (of_item lane.txn (side_of lane.state) lane.item ++ brought) → Within (carried_by next ++ given) (carried_by lanes ++ brought)
  items_changed lanes next before lane behind mid given brought here after f =
      let old : carried_by lanes ≡ carried_by before ++ (of_item lane.txn (side_of lane.state) lane.item ++ carried_by behind) = ap carried_by here ∙ carried-append before (lane ∷ behind) in
      let new : carried_by next ≡ carried_by before ++ (carried_by mid ++ carried_by behind) = ap carried_by after ∙ carried-append before (mid ++ behind) ∙ ap (λ (t : List (TxnId × (Side × T))). carried_by before ++ t) (carried-append mid behind) in
      subst (λ (t : List (TxnId × (Side × T))). Within (t ++ given) (carried_by lanes ++ brought)) (sym new)
      (subst (λ (t : List (TxnId × (Side × T))). Within ((carried_by before ++ (carried_by mid ++ carried_by behind)) ++ given) (t ++ brought)) (sym old)
      (within_middle (carried_by before) (of_item lane.txn (side_of lane.state) lane.item) (carried_by mid) (carried_by behind) given brought f))

  -- a lane was added, and some was given
  pub items_added : (lanes next mid : List (Lane T)) (given brought : List (TxnId × (Side × T))) → next ≡ lanes ++ mid → Within (carried_by mid ++ given) brought → Within (carried_by next ++ given) (carried_by lanes ++ brought)
  items_added lanes next mid given brought after f =
      let all = carried_by lanes ++ brought in
      let new : carried_by next ≡ carried_by lanes ++ carried_by mid = ap carried_by after ∙ carried-append lanes mid in
      subst (λ (t : List (TxnId × (Side × T))). Within (t ++ given) all) (sym new)
      (within_both (carried_by lanes ++ carried_by mid) given all
      (within_both (carried_by lanes) (carried_by mid) all (within_left (carried_by lanes) brought) (λ x h. has_right (carried_by lanes) brought x (f x (has_left (carried_by mid) given x h))))
      (λ x h. has_right (carried_by lanes) brought x (f x (has_right (carried_by mid) given x h))))

  -- nothing of a lane is given or kept
  pub nothing : (xs : List (TxnId × (Side × T))) → Within [] xs
  nothing xs x h = has_left [] xs x h
