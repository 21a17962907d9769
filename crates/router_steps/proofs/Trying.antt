-- Tries of a router that is stepped.
use Rattle.std.proofs.Common.{◌≡◌, ℕ, suc, ◌+◌, ◌≤◌, Bool, true, false, List, [], ◌∷◌, ◌++◌, length, take, drop, get_or, Option, Some, None, refl, sym, ap, subst, ◌∙◌, inl, inr, length-append, arith}
use Rattle.std.specs.List.{AllByRecursion, insert, remove}
use Rattle.std.specs.Prelude.{IfSome, IsSome, is_some}
use Rattle.std.proofs.lemmas.List.{append-nil, take-append-drop}
use Rattle.atomic_table.specs.Seated.{TableId}
use Rattle.one_history.specs.Held.{Held as HeldNote}
use Rattle.one_history.specs.declared.entry.Entry.{Entry}
use Rattle.one_history.specs.declared.view.Frame.{Frame}
use Rattle.one_history.specs.declared.view.View.{View}
use Rattle.tlm_types.specs.declared.entry.Content.{Content}
use Rattle.tlm_model.specs.Plan.{Plan}
use Rattle.router_node.specs.Node.{DoesNothing, GoesThrough, MovesAt, left}
use Rattle.router_node.specs.Places.{StandsAt}
use Rattle.plat_net.specs.Places.{hop_place}
use Rattle.router_moves.specs.declared.items.Down.{Down as ToPass}
use Rattle.router_node.specs.Stages.{ComesBy, standing}
use Rattle.router_steps.specs.Stepped.{FetchesNone, HasTried, IsDue, MovesNone}
use Rattle.router_node.specs.Stages.{is_down}
use Rattle.router_node.specs.declared.node.RouterNode.{RouterNode}
use Rattle.router_node.specs.declared.stage.Stage.{Stage}
use Rattle.router_node.specs.declared.stage.Stage.TheVariants.{Down, Below, Up, Sent}
use Rattle.router_node.specs.declared.stage.Step.{Step}
use Rattle.router_node.specs.declared.stage.Step.TheVariants.{Pass}
use Rattle.router_steps.specs.declared.steps.Due.{Due}
use Rattle.router_steps.specs.declared.steps.Due.TheVariants.{EndAbove, Serve, Release}
use Rattle.router_steps.specs.declared.tries.Tried.{Tried}
use Rattle.router_steps.specs.declared.tries.Tried.TheVariants.{Made, Moved, Nothing}
use Rattle.router_node.proofs.Places.{all_before, all_behind, all_joined, remove_here, take_at}
use Rattle.router_node.proofs.Pumps.{has_pumped}
use Rattle.router_node.proofs.Sweeps.{few_left}

-- another one where one was taken out
insert_at : {A : Type 0} (before rest : List A) (y : A) → insert (before ++ rest) (length before) y ≡ before ++ y ∷ rest
insert_at before rest y = ap (λ (l : List _). l ++ y ∷ drop (length before) (before ++ rest)) (take_at before rest) ∙ ap (λ (l : List _). before ++ y ∷ l) (drop_front before rest)
  where
    drop_front : {A : Type 0} (b r : List A) → drop (length b) (b ++ r) ≡ r
    drop_front [] r = refl
    drop_front (x ∷ b) r = drop_front b r

pub insert_there : {A : Type 0} (xs : List A) (i : ℕ) (x y : A) (s : StandsAt xs i x) → insert (remove xs i) i y ≡ s.before ++ y ∷ s.rest
insert_there xs i x y s = ap (λ (l : List _). insert l i y) (remove_here xs i x s) ∙ (ap (λ (k : ℕ). insert (s.before ++ s.rest) k y) s.place ∙ insert_at s.before s.rest y)

pub all_insert : {A : Type 0} (P : A → Type 0) (xs : List A) (i : ℕ) (y : A) → AllByRecursion P xs → P y → AllByRecursion P (insert xs i y)
all_insert P xs i y all one =
    let parts = subst (λ (l : List _). AllByRecursion P l) (sym (take-append-drop i xs)) all in
    all_joined P (take i xs) (y ∷ drop i xs) (all_before P (take i xs) (drop i xs) parts) (one, all_behind P (take i xs) (drop i xs) parts)

pub count_without : {A : Type 0} (xs : List A) (i : ℕ) (x : A) → StandsAt xs i x → (length (remove xs i) + 1 ≡ length xs) × (i ≤ length (remove xs i))
count_without xs i x s =
    let l : length xs ≡ length s.before + suc (length s.rest) = ap (λ (l : List _). length l) s.line ∙ length-append s.before (x ∷ s.rest) in
    let r : length (remove xs i) ≡ length s.before + length s.rest = ap (λ (l : List _). length l) (remove_here xs i x s) ∙ length-append s.before s.rest in
    let p = s.place in (
      omega (arith, l, r),
      omega (arith, p, r),
    )

-- what is owed, or isn't
pub some_owed : {A : Type 0} (o : Option A) → is_some o ≡ true → IsSome o
some_owed None q = cc
some_owed (Some x) q = refl

pub none_owed : {A : Type 0} (o : Option A) → is_some o ≡ false → o ≡ None
none_owed None q = refl
none_owed (Some x) q = cc

-- one that isn't to go down
pub isnt_down : (s : Stage) → ((d : ToPass) → s ≡ Down d → ⊥) → is_down s ≡ false
isnt_down (Down d) n = absurd (n d refl)
isnt_down (Below h) n = refl
isnt_down (Up r rest) n = refl
isnt_down (Sent a) n = refl

-- who stands last
at_last : {A : Type 0} (before : List A) (x d : A) → get_or (before ++ x ∷ []) (length before) d ≡ x
at_last [] x d = refl
at_last (b ∷ before) x d = at_last before x d

pub is_last : {A : Type 0} (xs before : List A) (x y : A) (k : ℕ) → xs ≡ before ++ x ∷ [] → k + 1 ≡ length xs → y ≡ get_or xs k y → y ≡ x
is_last xs before x y k is count here =
    let l : length xs ≡ length before + 1 = ap (λ (l : List _). length l) is ∙ length-append before (x ∷ []) in
    let e : k ≡ length before = omega (arith, count, l) in
    here ∙ (ap (λ (l : List _). get_or l k y) is ∙ (ap (λ (i : ℕ). get_or (before ++ x ∷ []) i y) e ∙ at_last before x y))

module _ (frame : Frame Plan) where
  -- a request that was refused is tried again
  pub busy_again : (at : ℕ) (old new : List Stage) (d e : ToPass) (was is : View Content Plan) → StandsAt old at (Down d) → new ≡ insert (remove old at) at (Down e) → e.held ≡ d.held → e.due ≡ d.due → is.looks ≡ was.looks ++ (hop_place frame.world (let h = d.held in h.below), 3) ∷ []
      → MovesAt frame false Pass at old new was is (at + 1) false
  busy_again at old new d e was is t put held due look = let same : standing (Down e) ≡ standing (Down d) = cc in record {
    stage = Down d;
    stands = t;
    after = Some (Down e);
    stepped = inl (same, look);
    line = put ∙ insert_there old at (Down d) (Down e) t;
    next_is = refl;
  }

  -- one that wasn't moved is still there
  one_left : (w : Step) (s : Stage) (was is : View Content Plan) (o : Option Stage) → ComesBy frame false w s was is false o → length (left o) ≡ 1
  one_left w s was is None (inl x) = absurd x.0
  one_left w s was is (Some t) (inl x) = refl
  one_left w s was is o (inr x) = let q = x.0 in cc

  pub still_next : (w : Step) (at : ℕ) (old new : List Stage) (was is : View Content Plan) (next : ℕ) (moved : Bool) → moved ≡ false → MovesAt frame false w at old new was is next moved → MovesAt frame false w at old new was is (at + 1) false
  still_next w at old new was is next moved off m =
      let st = subst (λ (b : Bool). ComesBy frame false w m.stage was is b m.after) off m.stepped in
      record { stage = m.stage; stands = m.stands; after = m.after; stepped = st; line = m.line; next_is = ap (λ (n : ℕ). at + n) (sym (one_left w m.stage was is m.after st)) }

  pub moves_few : (w : Step) (at : ℕ) (old new : List Stage) (was is : View Content Plan) (next : ℕ) (moved : Bool) → MovesAt frame false w at old new was is next moved → length new ≤ length old
  moves_few w at old new was is next moved m =
      let s = m.stands in
      let l : length old ≡ length s.before + suc (length s.rest) = ap (λ (l : List Stage). length l) s.line ∙ length-append s.before (m.stage ∷ s.rest) in
      let n : length new ≡ length s.before + (length (left m.after) + length s.rest) = ap (λ (l : List Stage). length l) m.line ∙ (length-append s.before (left m.after ++ s.rest) ∙ ap (λ (k : ℕ). length s.before + k) (length-append (left m.after) s.rest)) in
      let f = few_left m.after in
      omega (arith, l, n, f)

module _ (frame : Frame Plan) (tokens : TableId) where
  -- where there is more room
  due_room : (known : List (Entry Content)) (count room more : ℕ) (d : Due) → room ≤ more → IsDue frame tokens known count room d → IsDue frame tokens known count more d
  due_room known count room more (EndAbove at h time begun) w i = (record { there = (let p = i.0 in p.there); free = (let p = i.0 in omega (arith, p, w)) }, i.1, i.2)
  due_room known count room more (Serve at h begun) w i = (record { there = (let p = i.0 in p.there); free = (let p = i.0 in omega (arith, p, w)) }, i.1, i.2)
  due_room known count room more (Release rest) w i = i

  pub dues_room : (known : List (Entry Content)) (count room more : ℕ) (o : Option Due) → room ≤ more → IfSome o (IsDue frame tokens known count room) → IfSome o (IsDue frame tokens known count more)
  dues_room known count room more None w i = tt
  dues_room known count room more (Some d) w i = due_room known count room more d w i

  pub tried_as : (known : List (Entry Content)) (count room more : ℕ) (P Q : Type 0) (t : Tried) → room ≤ more → (P → Q) → HasTried frame tokens known count room P t → HasTried frame tokens known count more Q t
  tried_as known count room more P Q (Made o) w f i = dues_room known count room more o w i
  tried_as known count room more P Q Moved w f i = tt
  tried_as known count room more P Q Nothing w f i = f i

  -- where something was moved
  pub any_moved : (known : List (Entry Content)) (count room more : ℕ) (P Q : Type 0) (t : Tried) → room ≤ more → (t ≡ Nothing → ⊥) → HasTried frame tokens known count room P t → HasTried frame tokens known count more Q t
  any_moved known count room more P Q (Made o) w n i = dues_room known count room more o w i
  any_moved known count room more P Q Moved w n i = tt
  any_moved known count room more P Q Nothing w n i = absurd (n refl)

  -- or nothing was
  pub was_nothing : (known : List (Entry Content)) (count room : ℕ) (P : Type 0) (t : Tried) → t ≡ Nothing → HasTried frame tokens known count room P t → P
  was_nothing known count room P t is i = subst (λ (u : Tried). HasTried frame tokens known count room P u) is i

  -- a going through in which nothing was moved
  pub goes_by : (old mid new : RouterNode) (was between is : HeldNote Content Plan) → MovesNone frame tokens old mid was between → FetchesNone frame tokens mid new between is → GoesThrough frame tokens false old new was is false
  goes_by old mid new was between is m f = record {
    ended = m.ended;
    after_end = m.after_end;
    ends = false;
    end_all = m.end_all;
    sent = m.sent;
    after_send = m.after_send;
    sends = false;
    send_all = m.send_all;
    passed = mid;
    after_pass = between;
    passes = false;
    pass_all = m.pass_all;
    joined = f.joined;
    after_back = f.after_back;
    joins = false;
    take_back = f.take_back;
    knew_back = f.knew_back;
    takes = false;
    take_in = f.take_in;
    knew_in = f.knew_in;
    moved_is = refl;
  }

  pub none_moved : (old new : RouterNode) (was is : HeldNote Content Plan) → GoesThrough frame tokens false old new was is false → DoesNothing frame tokens old new was.knows is.knows
  none_moved old new was is g = has_pumped frame tokens old new was is false (record { start = old; note = was; still = record { same = refl; stand = refl; knew = λ x has. has; earlier = []; looks = sym (append-nil was.knows.looks) }; hasty = false; goes = g; every_look = λ q. refl })
