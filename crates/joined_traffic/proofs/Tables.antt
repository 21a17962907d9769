-- What the table of a direct initiator keeps.
use Rattle.std.proofs.Common.{◌≡◌, ℕ, true, false, nat_eq, [], ◌∷◌, ◌++◌, refl, ap, subst, inl, inr, ⊎_elim, arith}
use Rattle.std.proofs.lemmas.Bool.{and_parts}
use Rattle.view_lists.specs.Lists.{Has}
use Rattle.view_lists.proofs.Members.{has_either, has_left, has_none, has_one, has_right}
use Rattle.tlm_types.specs.declared.words.ObjectNo.{ObjectNo}
use Rattle.tlm_types.specs.declared.entry.Access.{Access}
use Rattle.tlm_types.specs.declared.entry.Entry.{Entry}
use Rattle.tlm_types.specs.declared.entry.What.{What}
use Rattle.tlm_types.specs.declared.entry.What.TheVariants.{Access as Accessed, Granted, Invalidated, Closed, Call, Take, Acquire, Release}
use Rattle.tlm_model.specs.declared.platform.Platform.{Platform}
use Rattle.tlm_model.specs.Plan.{Initiator}
use Rattle.good_history.specs.Grants.{is_cut_by, is_grant, serves, serves_by}
use Rattle.joined_traffic.specs.Parts.{Knows}
use Rattle.joined_traffic.specs.Table.{NoneFound, TableBegins, TableDrops, TablePasses, TableStays, TableTakes}
use Rattle.good_history.proofs.CountLemmas.{has_first}

-- what serves is a grant
served_by : (p : Platform) (i : Initiator) (o : ObjectNo) (w : What) (a : ℕ) (access : Access) → serves_by p i o w a access ≡ true → is_grant w ≡ true
served_by p i o (Accessed way c s g) a access is = cc
served_by p i o (Granted gate f l k) a access is = refl
served_by p i o (Invalidated f l) a access is = cc
served_by p i o (Closed gate) a access is = cc
served_by p i o (Call c r) a access is = cc
served_by p i o (Take s) a access is = cc
served_by p i o (Acquire s) a access is = cc
served_by p i o (Release s f) a access is = cc

pub serves_grant : (p : Platform) (i : Initiator) (x : Entry) (a : ℕ) (access : Access) → serves p i x a access ≡ true → is_grant x.what ≡ true
serves_grant p i x a access is = served_by p i x.object x.what a access (and_parts (nat_eq x.txn.initiator i.number) (serves_by p i x.object x.what a access) is).1

pub table_begins : TableBegins
table_begins h limit x has grant = absurd (has_none x has)

pub table_stays : TableStays
table_stays h m limit more mine table less is x has grant =
    ⊎_elim
    (λ (held : Has table x). inl held)
    (λ (cut : Knows h limit (λ y. is_cut_by x y)). let early = cut.2 in inr (cut.0, has_left h m cut.0 cut.1, omega (arith, less, early), cut.3))
    (is x has grant)

pub table_passes : TablePasses
table_passes h limit mine table e other is x has grant =
    ⊎_elim
    (λ (early : Has mine x). is x early grant)
    (λ (last : Has (e ∷ []) x). let same : e ≡ x = has_one e x last in absurd (cc (ap (λ (f : Entry). is_grant f.what) same)))
    (has_either mine (e ∷ []) x has)

pub table_takes : TableTakes
table_takes h limit mine table e is x has grant =
    ⊎_elim
    (λ (early : Has mine x). ⊎_elim (λ (held : Has table x). inl (has_left table (e ∷ []) x held)) (λ (cut : Knows h limit (λ y. is_cut_by x y)). inr cut) (is x early grant))
    (λ (last : Has (e ∷ []) x). inl (has_right table (e ∷ []) x last))
    (has_either mine (e ∷ []) x has)

pub table_drops : TableDrops
table_drops h limit mine front back x stale is y has grant =
    ⊎_elim
    (λ (held : Has (front ++ x ∷ back) y).
    ⊎_elim
    (λ (l : Has front y). inl (has_left front back y l))
    (λ (r : Has (x ∷ back) y).
    ⊎_elim
    (λ (same : x ≡ y). inr (subst (λ (z : Entry). Knows h limit (λ c. is_cut_by z c)) same stale))
    (λ (other : Has back y). inl (has_right front back y other))
    (has_first x back y r))
    (has_either front (x ∷ back) y held))
    (λ (cut : Knows h limit (λ c. is_cut_by y c)). inr cut)
    (is y has grant)

pub none_found : NoneFound
none_found h limit mine table p i a access is none x has serving =
    ⊎_elim
    (λ (held : Has table x). let found : serves p i x a access ≡ false = none x held in absurd (cc (found, serving)))
    (λ (cut : Knows h limit (λ y. is_cut_by x y)). cut)
    (is x has (serves_grant p i x a access serving))
