-- The table of a direct initiator: its grants without those that it found stale.
use Rattle.std.specs.Prelude.{ℕ, ◌≡◌, ◌⊎◌, ◌≤◌, false, IsTrue, List, [], ◌∷◌, ◌++◌}
use Rattle.view_lists.specs.Lists.{Has}
use Rattle.tlm_types.specs.declared.entry.Access.{Access}
use Rattle.tlm_types.specs.declared.entry.Entry.{Entry}
use Rattle.tlm_model.specs.declared.platform.Platform.{Platform}
use Rattle.tlm_model.specs.Plan.{Initiator}
use Rattle.good_history.specs.Grants.{is_cut_by, is_grant, serves}
use Rattle.joined_traffic.specs.Parts.{Knows}

-- Each own grant is held, or an invalidation is known that overlapped it since.
abbrev pub IsTableOf : List Entry → ℕ → List Entry → List Entry → Type 0
IsTableOf h limit mine table = (x : Entry) → Has mine x → IsTrue (is_grant x.what) → Has table x ⊎ Knows h limit (λ y. is_cut_by x y)

-- a table begins empty
abbrev pub TableBegins : Type 0
TableBegins = (h : List Entry) (limit : ℕ) → IsTableOf h limit [] []

-- it stays as the history grows and more of it is known
abbrev pub TableStays : Type 0
TableStays = (h m : List Entry) (limit more : ℕ) (mine table : List Entry) → limit ≤ more → IsTableOf h limit mine table → IsTableOf (h ++ m) more mine table

-- an own entry that is no grant leaves it
abbrev pub TablePasses : Type 0
TablePasses = (h : List Entry) (limit : ℕ) (mine table : List Entry) (e : Entry) → is_grant e.what ≡ false → IsTableOf h limit mine table → IsTableOf h limit (mine ++ e ∷ []) table

-- a grant is held
abbrev pub TableTakes : Type 0
TableTakes = (h : List Entry) (limit : ℕ) (mine table : List Entry) (e : Entry) → IsTableOf h limit mine table → IsTableOf h limit (mine ++ e ∷ []) (table ++ e ∷ [])

-- a stale one is dropped: an invalidation is known that overlaps it
abbrev pub TableDrops : Type 0
TableDrops =
    (h : List Entry) (limit : ℕ) (mine front back : List Entry) (x : Entry)
    → Knows h limit (λ y. is_cut_by x y)
    → IsTableOf h limit mine (front ++ x ∷ back) → IsTableOf h limit mine (front ++ back)

-- where no held grant serves an access, each own grant that serves it was overlapped since
abbrev pub NoneFound : Type 0
NoneFound =
    (h : List Entry) (limit : ℕ) (mine table : List Entry) (p : Platform) (i : Initiator) (a : ℕ) (access : Access)
    → IsTableOf h limit mine table
    → ((x : Entry) → Has table x → serves p i x a access ≡ false)
    → (x : Entry) → Has mine x → IsTrue (serves p i x a access) → Knows h limit (λ y. is_cut_by x y)
