-- Each step keeps the rule.
use Rattle.std.proofs.Common.{◌≡◌, ◌≢◌, ℕ, zero, suc, ◌+◌, ◌-◌, ◌^◌, ◌<◌, ◌≤◌, ◌==◌, false, cond, List, [], ◌∷◌, ◌++◌, length, set, Option, Some, None, refl, sym, ap, ◌∙◌, subst, ⊎_elim, arith, length-set}
use Rattle.std.specs.Prelude.{slice_index, slice_set}
use Rattle.std.specs.List.{sum_by}
use Rattle.std.proofs.lemmas.List.Sums.{sum_by-cons}
use Rattle.std.proofs.lemmas.Bool.{cases_eq, cond-true, cond-false, eq-eqb, ne_eqb}
use mathlib.Core.Option.{some, none, some-injective, some-ne-none}
use lib.ListN.{get_elem?}
use Rattle.atomic_table.specs.Table.{State, step, keeps, Allows, Splits, Joins, opening}
use Rattle.atomic_table.proofs.Lists.{at_longer, at_last, set_else}
use Rattle.view_lists.proofs.Places.{at_once, at_put, each_put, each_split, each_join}
use Rattle.view_lists.proofs.Totals.{total_put, total_split, total_join, one_in, total_none}
use Rattle.token_book.specs.declared.view.Page.{Page}
use Rattle.token_book.specs.declared.view.View.{View}
use Rattle.token_book.specs.declared.view.View.TheVariants.{Book, Token, Spent}
use Rattle.token_book.specs.Account.{out_of}
use Rattle.token_book.specs.Rule.{a_book, a_token, first_book, book_owner, counts_for, taken_for, held_of, IsPage, Fits, HasBook, IsCounted, one_more, next_book, put_out, more_out, new_token, less_by, part_of, merged, taking_in, struck_off, Settled, Weighed}
use Rattle.token_book.proofs.Amounts.{counts_for-own, counts_for-other, counts_for-sum, counts_for-parts, out_of-put_out, out_of-struck_off}

-- a view fits as before where nothing changed for the owner whose book it is
fits_again : (xs ys : List View) (place : ℕ → ℕ) (made j : ℕ) → ((o n : ℕ) → place o ≡ j → sum_by (held_of o n) ys ≡ sum_by (held_of o n) xs)
    → (u : View) → Fits xs place made j u → Fits ys place made j u
fits_again xs ys place made j same (Book p) f = record { below = f.below; alone = f.alone; counts = f.counts; sums = λ n. same p.owner n f.alone ∙ f.sums n; small = f.small }
fits_again xs ys place made j same (Token t) f = f
fits_again xs ys place made j same Spent f = tt

-- an owner's book stays where it is
book_put : (views : List View) (id i o : ℕ) (v w : View) → get_elem? views id ≡ some v → book_owner w ≡ book_owner v → HasBook views i o → HasBook (set views id w) i o
book_put views id i o v w mine same h =
    ⊎_elim
    (λ (is : i ≡ id).
    let e : h.0 ≡ v = at_once views id h.0 v (subst (λ (k : ℕ). get_elem? views k ≡ some h.0) is h.1) mine in
    (w, subst (λ (k : ℕ). get_elem? (set views id w) k ≡ some w) (sym is) (at_put views id v w mine), same ∙ ap book_owner (sym e) ∙ h.2))
    (λ (no : i ≢ id). (h.0, set_else views id i w no ∙ h.1, h.2))
    (cases_eq i id)

book_end : (views : List View) (i o : ℕ) (w : View) → HasBook views i o → HasBook (views ++ w ∷ []) i o
book_end views i o w h = (h.0, at_longer views (w ∷ []) i h.0 h.1, h.2)

-- the page of an owner
page_of : (v : View) (o : ℕ) → book_owner v ≡ Some o → (p : Page) × (v ≡ Book p) × (p.owner ≡ o)
page_of (Book p) o e = (p, refl, cc (e))
page_of (Token t) o e = absurd (cc (e))
page_of Spent o e = absurd (cc (e))

module _ (s : State ℕ View) (h : IsCounted s) where
  -- one view became two, and the books are the same
  kept_split : (id : ℕ) (v left right : View) → get_elem? s.views id ≡ some v → book_owner left ≡ book_owner v
      → ((o n : ℕ) → h.place o ≢ id → sum_by (held_of o n) (set s.views id left ++ right ∷ []) ≡ sum_by (held_of o n) s.views)
      → Fits (set s.views id left ++ right ∷ []) h.place h.made id left → Fits (set s.views id left ++ right ∷ []) h.place h.made (length s.views) right
      → IsCounted (record { words = s.words; homes = s.homes; views = set s.views id left ++ right ∷ [] })
  kept_split id v left right mine same sums l r = record {
    made = h.made;
    place = h.place;
    word = h.word;
    books = λ o less. book_end (set s.views id left) (h.place o) o right (book_put s.views id (h.place o) o v left mine same (h.books o less));
    fits = each_split (λ j u. Fits (set s.views id left ++ right ∷ []) h.place h.made j u) s.views id left right
        (λ j u apart at. fits_again s.views (set s.views id left ++ right ∷ []) h.place h.made j (λ o n is. sums o n (λ e. apart (sym is ∙ e))) u (h.fits j u at))
        l r;
  }

  -- two views became one and a spent one, and nothing is held that wasn't
  kept_join : (id other : ℕ) (v w both : View) → get_elem? s.views id ≡ some v → other ≢ id → get_elem? (set s.views id both) other ≡ some w → book_owner both ≡ book_owner v → book_owner w ≡ None
      → ((o n : ℕ) → held_of o n both ≡ held_of o n v + held_of o n w)
      → Fits (set (set s.views id both) other Spent) h.place h.made id both
      → IsCounted (record { words = s.words; homes = s.homes; views = set (set s.views id both) other Spent })
  kept_join id other v w both mine apart theirs same loose sums l = record {
    made = h.made;
    place = h.place;
    word = h.word;
    books = λ o less. book_put (set s.views id both) other (h.place o) o w Spent theirs (sym loose) (book_put s.views id (h.place o) o v both mine same (h.books o less));
    fits = each_join (λ j u. Fits (set (set s.views id both) other Spent) h.place h.made j u) s.views id other both Spent
        (λ j u _ _ at. fits_again s.views (set (set s.views id both) other Spent) h.place h.made j (λ o n _. joined o n) u (h.fits j u at))
        l tt;
  }
    where
      joined : (o n : ℕ) → sum_by (held_of o n) (set (set s.views id both) other Spent) ≡ sum_by (held_of o n) s.views
      joined o n = let t = total_join (held_of o n) s.views id other v w both Spent mine theirs in let q = sums o n in omega arith

  -- a look, after which one view is another
  kept_look : (id : ℕ) (v w : View) → get_elem? s.views id ≡ some v → book_owner w ≡ book_owner v
      → ((o n : ℕ) → h.place o ≢ id → sum_by (held_of o n) (set s.views id w) ≡ sum_by (held_of o n) s.views)
      → Fits (set s.views id w) h.place h.made id w
      → IsCounted (record { words = slice_set s.words 0 (slice_index s.words 0); homes = s.homes; views = set s.views id w })
  kept_look id v w mine same sums l = record {
    made = h.made;
    place = h.place;
    word = ap (λ (ws : List ℕ). slice_set ws 0 (slice_index ws 0)) h.word;
    books = λ o less. book_put s.views id (h.place o) o v w mine same (h.books o less);
    fits = each_put (λ j u. Fits (set s.views id w) h.place h.made j u) s.views id w
        (λ j u apart at. fits_again s.views (set s.views id w) h.place h.made j (λ o n is. sums o n (λ e. apart (sym is ∙ e))) u (h.fits j u at))
        l;
  }

-- a book issues a token
pub issues : (id o : ℕ) (out : List (ℕ × ℕ)) (made : Option ℕ) (name amount : ℕ) → out_of name out + amount < 2 ^ 64
    → Splits IsCounted id (a_book o out made) (more_out name amount (a_book o out made)) (new_token name amount (a_book o out made))
issues id o out made name amount fits s h mine =
    let v = a_book o out made in
    let left = a_book o (put_out name amount out) made in
    let right = a_token o name amount in
    let f : IsPage s.views h.place h.made id (record { owner = o; out = out; taking = None; made = made }) = h.fits id v mine in
    let sum : (p n : ℕ) → sum_by (held_of p n) (set s.views id left ++ right ∷ []) ≡ sum_by (held_of p n) s.views + counts_for p n o name amount = λ p n. let t = total_split (held_of p n) s.views id v left right mine in omega arith in
    kept_split s h id v left right mine refl
    (λ p n apart. let t = sum p n in let z = counts_for-other p n o name amount (λ e. apart (sym (ap h.place e) ∙ f.alone)) in omega arith)
    (record {
      below = f.below;
      alone = f.alone;
      counts = f.counts;
      sums = λ n. sum o n ∙ ap (λ (k : ℕ). k + counts_for o n o name amount) (f.sums n) ∙ sym (out_of-put_out o n name amount out);
      small = λ n. small n (f.small n);
    })
    f.below
  where
    small : (n : ℕ) → out_of n out < 2 ^ 64 → out_of n (put_out name amount out) < 2 ^ 64
    small n old =
        ⊎_elim
        (λ (same : name ≡ n). let e = cond-true (name == n) (out_of name out + amount) (out_of n out) (eq-eqb name n same) in subst (λ (k : ℕ). k < 2 ^ 64) (sym e) fits)
        (λ (other : name ≢ n). let e = cond-false (name == n) (out_of name out + amount) (out_of n out) (ne_eqb name n other) in subst (λ (k : ℕ). k < 2 ^ 64) (sym e) old)
        (cases_eq name n)

-- a part is taken off a token
pub parts : (id o name amount x : ℕ) → x ≤ amount → Splits IsCounted id (a_token o name amount) (less_by x (a_token o name amount)) (part_of x (a_token o name amount))
parts id o name amount x less s h mine =
    let v = a_token o name amount in
    let left = a_token o name (amount - x) in
    let right = a_token o name x in
    let f : o < h.made = h.fits id v mine in
    kept_split s h id v left right mine refl
    (λ p n apart. let t = total_split (held_of p n) s.views id v left right mine in let q = counts_for-parts p n o name amount x less in omega arith)
    f f

-- two tokens of one owner and name become one
pub merges : (id other o name a b : ℕ) → Joins IsCounted id (a_token o name a) other (a_token o name b) (merged (a_token o name a) (a_token o name b)) Spent
merges id other o name a b s h mine apart theirs =
    let f : o < h.made = h.fits id (a_token o name a) mine in
    kept_join s h id other (a_token o name a) (a_token o name b) (a_token o name (a + b)) mine apart theirs refl refl (λ p n. counts_for-sum p n o name a b) f

-- a book takes a token of its owner in
pub takes_in : (id other o : ℕ) (out : List (ℕ × ℕ)) (made : Option ℕ) (name amount : ℕ) → Joins IsCounted id (a_book o out made) other (a_token o name amount) (taking_in (a_book o out made) (a_token o name amount)) Spent
takes_in id other o out made name amount s h mine apart theirs =
    let v = a_book o out made in
    let w = a_token o name amount in
    let both = taking_in v w in
    let f : IsPage s.views h.place h.made id (record { owner = o; out = out; taking = None; made = made }) = h.fits id v mine in
    kept_join s h id other v w both mine apart theirs refl refl (λ p n. omega arith)
    (record {
      below = f.below;
      alone = f.alone;
      counts = f.counts;
      sums = λ n. (let t = total_join (held_of o n) s.views id other v w both Spent mine theirs in let q = f.sums n in omega arith);
      small = f.small;
    })

-- a book strikes off what it took in, which was out
pub settles : (slots id o : ℕ) (out : List (ℕ × ℕ)) (made : Option ℕ) (name amount : ℕ)
    → Allows IsCounted slots id (taking_in (a_book o out made) (a_token o name amount), []) 0 (λ n. n) (Settled (step slots 0 0 0 none) (taking_in (a_book o out made) (a_token o name amount), []))
settles slots id o out made name amount s h homes mine wide =
    let v = taking_in (a_book o out made) (a_token o name amount) in
    let w = a_book o (struck_off (Some (name, amount)) out) made in
    let f : IsPage s.views h.place h.made id (record { owner = o; out = out; taking = Some (name, amount); made = made }) = h.fits id v mine in
    let was : amount ≤ out_of name out = (let one = one_in (held_of o name) s.views id v mine in let own = counts_for-own o name amount in let q = f.sums name in omega arith) in
    let sum : (p n : ℕ) → sum_by (held_of p n) (set s.views id w) + counts_for p n o name amount ≡ sum_by (held_of p n) s.views = λ p n. let t = total_put (held_of p n) s.views id v w mine in omega arith in (
      w,
      keeps,
      tt,
      kept_look s h id v w mine refl
          (λ p n apart. let t = sum p n in let z = counts_for-other p n o name amount (λ e. apart (sym (ap h.place e) ∙ f.alone)) in omega arith)
          (record {
            below = f.below;
            alone = f.alone;
            counts = f.counts;
            sums = λ n. (let t = sum o n in let q = f.sums n in let r = out_of-struck_off o n name amount out was in omega arith);
            small = λ n. (let q = f.small n in let r = out_of-struck_off o n name amount out was in omega arith);
          }),
      (refl, was),
    )

-- a token is no more than what is out, so its amount fits
pub weighs : (slots id o name amount : ℕ) → Allows IsCounted slots id (a_token o name amount, []) 0 (λ n. n) (Weighed (step slots 0 0 0 none) (a_token o name amount, []))
weighs slots id o name amount s h homes mine wide =
    let v = a_token o name amount in
    let f : o < h.made = h.fits id v mine in
    let b = h.books o f in
    let p = page_of b.0 o b.2 in
    let g : IsPage s.views h.place h.made (h.place o) p.0 = h.fits (h.place o) (Book p.0) (b.1 ∙ ap some p.1) in
    let out : sum_by (held_of o name) s.views ≡ out_of name p.0.out = subst (λ (k : ℕ). sum_by (held_of k name) s.views ≡ out_of name p.0.out) p.2 (g.sums name) in
    let few : amount < 2 ^ 64 = (let one = one_in (held_of o name) s.views id v mine in let own = counts_for-own o name amount in let q = g.small name in omega arith) in (
      v,
      keeps,
      tt,
      kept_look s h id v v mine refl (λ o n _. let t = total_put (held_of o n) s.views id v v mine in omega arith) f,
      (refl, few),
    )

-- nothing is held of an owner that has no book
none_held : (views : List View) (place : ℕ → ℕ) (made n i : ℕ) (v : View) → Fits views place made i v → held_of made n v ≡ 0
none_held views place made n i (Book p) f = none_taken p.taking
  where
    none_taken : (t : Option (ℕ × ℕ)) → taken_for made n p.owner t ≡ 0
    none_taken None = refl
    none_taken (Some t) = counts_for-other made n p.owner t.0 t.1 (λ e. let less = f.below in omega arith)
none_held views place made n i (Token t) f = counts_for-other made n t.owner t.name t.amount (λ e. omega arith)
none_held views place made n i Spent f = refl

-- the book of a new owner is the last seat
place_with : (ℕ → ℕ) → ℕ → ℕ → ℕ → ℕ
place_with place made last o = cond (o == made) last (place o)

place_old : (place : ℕ → ℕ) (made last o : ℕ) → o < made → place_with place made last o ≡ place o
unfolding place_with
place_old place made last o less = cond-false (o == made) last (place o) (ne_eqb o made (λ e. omega arith))

place_new : (place : ℕ → ℕ) (made last : ℕ) → place_with place made last made ≡ last
unfolding place_with
place_new place made last = cond-true (made == made) last (place made) (eq-eqb made made refl)

-- a seat that doesn't count the books fits when there is one more
fits_more : (xs ys : List View) (place : ℕ → ℕ) (made last j : ℕ) → ((o n : ℕ) → sum_by (held_of o n) ys ≡ sum_by (held_of o n) xs) → place 0 ≢ j
    → (u : View) → Fits xs place made j u → Fits ys (place_with place made last) (made + 1) j u
fits_more xs ys place made last j same apart (Book p) f =
    let less = f.below in
    let none : (p.owner == 0) ≡ false = ne_eqb p.owner 0 (λ e. apart (ap place (sym e) ∙ f.alone)) in
    record {
      below = omega arith;
      alone = place_old place made last p.owner less ∙ f.alone;
      counts = f.counts ∙ cond-false (p.owner == 0) (Some made) None none ∙ sym (cond-false (p.owner == 0) (Some (made + 1)) None none);
      sums = λ n. same p.owner n ∙ f.sums n;
      small = f.small;
    }
fits_more xs ys place made last j same apart (Token t) f = omega arith
fits_more xs ys place made last j same apart Spent f = tt

-- the first book makes the next owner's
pub makes : (id k : ℕ) (out : List (ℕ × ℕ)) → Splits IsCounted id (a_book 0 out (Some k)) (one_more (a_book 0 out (Some k))) (next_book (a_book 0 out (Some k)))
makes id k out s h mine =
    let v = a_book 0 out (Some k) in
    let left = a_book 0 out (Some (k + 1)) in
    let right = a_book k [] None in
    let ys = set s.views id left ++ right ∷ [] in
    let last = length s.views in
    let f : IsPage s.views h.place h.made id (record { owner = 0; out = out; taking = None; made = Some k }) = h.fits id v mine in
    let made : k ≡ h.made = (let e : Some k ≡ Some h.made = f.counts in cc (e)) in
    let some : 0 < h.made = f.below in
    let place = place_with h.place h.made last in
    let here : place k ≡ last = ap place made ∙ place_new h.place h.made last in
    let same : (o n : ℕ) → sum_by (held_of o n) ys ≡ sum_by (held_of o n) s.views = λ o n. let t = total_split (held_of o n) s.views id v left right mine in omega arith in
    let none : (n : ℕ) → sum_by (held_of k n) s.views ≡ 0 = λ n. subst (λ (m : ℕ). sum_by (held_of m n) s.views ≡ 0) (sym made) (total_none (held_of h.made n) s.views (λ j u at. none_held s.views h.place h.made n j u (h.fits j u at))) in
    record {
      made = h.made + 1;
      place = place;
      word = h.word;
      books = λ o less. ⊎_elim
          (λ (is : o ≡ h.made).
          let e : o ≡ k = is ∙ sym made in
          (right, ap (λ (i : ℕ). get_elem? ys i) (ap place e ∙ here) ∙ at_last (set s.views id left) right last (length-set s.views id left), ap (λ (i : ℕ). Some i) (sym e)))
          (λ (no : o ≢ h.made).
          let old : o < h.made = omega arith in
          subst (λ (i : ℕ). HasBook ys i o) (sym (place_old h.place h.made last o old)) (book_end (set s.views id left) (h.place o) o right (book_put s.views id (h.place o) o v left mine refl (h.books o old))))
          (cases_eq o h.made);
      fits = each_split (λ j u. Fits ys place (h.made + 1) j u) s.views id left right
          (λ j u apart at. fits_more s.views ys h.place h.made last j same (λ e. apart (sym e ∙ f.alone)) u (h.fits j u at))
          (record {
            below = omega arith;
            alone = place_old h.place h.made last 0 some ∙ f.alone;
            counts = ap (λ (m : ℕ). Some (m + 1)) made;
            sums = λ n. same 0 n ∙ f.sums n;
            small = f.small;
          })
          (record {
            below = omega arith;
            alone = here;
            counts = sym (cond-false (k == 0) (Some (h.made + 1)) None (ne_eqb k 0 (λ e. omega arith)));
            sums = λ n. same k n ∙ none n;
            small = λ n. omega arith;
          });
    }

-- the table at the start has one book with nothing out
pub opens : IsCounted (opening (0 ∷ []) [] first_book)
opens = record {
  made = 1;
  place = λ o. 0;
  word = refl;
  books = λ o less. (first_book, refl, ap (λ (n : ℕ). Some n) (omega arith));
  fits = first;
}
  where
    first : (i : ℕ) (v : View) → get_elem? (first_book ∷ []) i ≡ some v → Fits (first_book ∷ []) (λ o. 0) 1 i v
    first zero v is = subst (λ (u : View). Fits (first_book ∷ []) (λ o. 0) 1 0 u) (some-injective first_book v is) (record {
      below = omega arith;
      alone = refl;
      counts = refl;
      sums = λ n. omega (arith, sum_by-cons (held_of 0 n) first_book []);
      small = λ n. omega arith;
    })
    first (suc i) v is = absurd (some-ne-none v (sym is))
