-- What is told of closings stays as more is known, and fewer gates are open then.
use Rattle.std.proofs.Common.{◌≡◌, ℕ, zero, suc, ◌+◌, ◌≤◌, Bool, true, false, ◌||◌, cond, IsTrue, IsSome, List, [], ◌∷◌, refl, sym, ap, ◌∙◌, inl, inr, arith}
use Rattle.std.specs.Prelude.{slice_get}
use Rattle.std.specs.List.{list_any}
use Rattle.view_lists.specs.Lists.{Has}
use Rattle.tlm_types.specs.declared.entry.Entry.{Entry}
use Rattle.tlm_types.specs.declared.entry.What.{What}
use Rattle.tlm_types.specs.declared.entry.What.TheVariants.{Access as Accessed, Granted, Invalidated, Closed, Call, Take, Acquire, Release}
use Rattle.tlm_model.specs.Plan.{Plan}
use Rattle.tlm_model.specs.Requests.{got_in}
use Rattle.tlm_model.specs.Scripts.{first_gate}
use Rattle.flow_model.specs.Events.{Among, Event}
use Rattle.joined_traffic.specs.Parts.{IsOwnClosing, is_invalidation}
use Rattle.port_model.specs.Closings.{HasAllOf, IsClosingOf, count_open, gates_given_by, is_closed_at, open_gates}

-- a history with more events has those of before
pub all_less : (known more : List Event) (h : List Entry) → ((e : Event) → Among known e → Among more e) → HasAllOf more h → HasAllOf known h
all_less known more h knows all = record {
  within = λ e m. all.within e (knows e m);
  numbered = all.numbered;
  gates = all.gates;
  places = λ m e a at. all.places m e (knows e a) at;
}

pub own_closing_more : (h mine more : List Entry) (e : Entry) (w : What) → ((y : Entry) → Has mine y → Has more y) → IsOwnClosing h mine e w → IsOwnClosing h more e w
own_closing_more h mine more e (Closed g) has c = (c.0, has c.0 c.1, c.2, c.3, c.4)
own_closing_more h mine more e (Accessed way access status got) has c = tt
own_closing_more h mine more e (Granted g f l k) has c = tt
own_closing_more h mine more e (Invalidated f l) has c = tt
own_closing_more h mine more e (Call k a) has c = tt
own_closing_more h mine more e (Take k) has c = tt
own_closing_more h mine more e (Acquire k) has c = tt
own_closing_more h mine more e (Release k f) has c = tt

pub closing_more : (known more : List Event) (mine mine2 : List Entry) (e : Entry) → ((d : Event) → Among known d → Among more d) → ((y : Entry) → Has mine y → Has mine2 y) → IsClosingOf known mine e → IsClosingOf more mine2 e
closing_more known more mine mine2 e knows has c h all = own_closing_more h mine mine2 e e.what has (c h (all_less known more h knows all))

-- an access closes nothing
pub access_closing : (h mine : List Entry) (e : Entry) (w : What) → IsSome (got_in w) → IsOwnClosing h mine e w
access_closing h mine e (Accessed way access status got) some = tt
access_closing h mine e (Closed g) some = let wrong : false ≡ true = some in cc (wrong)
access_closing h mine e (Granted g f l k) some = tt
access_closing h mine e (Invalidated f l) some = tt
access_closing h mine e (Call k a) some = tt
access_closing h mine e (Take k) some = tt
access_closing h mine e (Acquire k) some = tt
access_closing h mine e (Release k f) some = tt

-- and is no invalidation
pub no_invalidation : (w : What) → IsSome (got_in w) → IsTrue (is_invalidation w) → ⊥
no_invalidation (Accessed way access status got) some is = let wrong : false ≡ true = is in cc (wrong)
no_invalidation (Granted g f l k) some is = let wrong : false ≡ true = is in cc (wrong)
no_invalidation (Invalidated f l) some is = let wrong : false ≡ true = some in cc (wrong)
no_invalidation (Closed g) some is = let wrong : false ≡ true = is in cc (wrong)
no_invalidation (Call k a) some is = let wrong : false ≡ true = is in cc (wrong)
no_invalidation (Take k) some is = let wrong : false ≡ true = is in cc (wrong)
no_invalidation (Acquire k) some is = let wrong : false ≡ true = is in cc (wrong)
no_invalidation (Release k f) some is = let wrong : false ≡ true = is in cc (wrong)

pub any_among : (test : Event → Bool) (l : List Event) → list_any test l ≡ true → (e : Event) × Among l e × (test e ≡ true)
any_among test [] q = cc
any_among test (x ∷ l) q = by (test x) refl q (λ r. any_among test l r)
  where
    by : (b : Bool) → test x ≡ b → (b || list_any test l) ≡ true → (list_any test l ≡ true → (e : Event) × Among l e × (test e ≡ true)) → (e : Event) × Among (x ∷ l) e × (test e ≡ true)
    by true at r rest = (x, inl refl, at)
    by false at r rest = let f = rest r in (f.0, inr f.1, f.2)

pub among_any : (test : Event → Bool) (l : List Event) (e : Event) → Among l e → test e ≡ true → list_any test l ≡ true
among_any test [] e m is = absurd m
among_any test (x ∷ l) e (inl q) is = ap (λ (b : Bool). b || list_any test l) (ap test q ∙ is)
among_any test (x ∷ l) e (inr m) is = by (test x) (among_any test l e m is)
  where
    by : (b : Bool) → list_any test l ≡ true → (b || list_any test l) ≡ true
    by true r = refl
    by false r = r

pub count_less : (f g : ℕ → Bool) → ((k : ℕ) → f k ≡ true → g k ≡ true) → (a n : ℕ) → count_open g a n ≤ count_open f a n
count_less f g more a zero = omega arith
count_less f g more a (suc n) = by (f a) (g a) refl refl (count_less f g more (a + 1) n)
  where
    by : (b c : Bool) → f a ≡ b → g a ≡ c → count_open g (a + 1) n ≤ count_open f (a + 1) n → (cond c 0 1) + count_open g (a + 1) n ≤ (cond b 0 1) + count_open f (a + 1) n
    by true true x y l = omega arith
    by true false x y l = let wrong : false ≡ true = sym y ∙ more a x in cc (wrong)
    by false true x y l = omega arith
    by false false x y l = omega arith

-- who knows more knows of more closings
pub open_less : (p : Plan) (m : ℕ) (known more : List Event) → ((e : Event) → Among known e → Among more e) → open_gates p m more ≤ open_gates p m known
open_less p m known more knows = count_less (is_closed_at m known) (is_closed_at m more)
    (λ g closed. (let f = any_among _ known closed in among_any _ more f.0 (knows f.0 f.1) f.2)) (first_gate p.platform m) (gates_given_by (slice_get p.platform.memories m))
