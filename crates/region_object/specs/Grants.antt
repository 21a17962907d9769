-- What a memory's log tells of its grants (IEEE 1666-2011, clause 11.2), and what the memory answers by it.
use Rattle.std.specs.Prelude.{ℕ, zero, suc, ◌≡◌, ◌+◌, ◌-◌, ◌<◌, Bool, true, false, not, ◌&&◌, IsTrue, List, [], ◌∷◌, Option, Some, None, if◌then◌else◌, ◌==◌, nat_le, nat_lt}
use Rattle.std.specs.List.{list_any}
use Rattle.tlm_types.specs.declared.words.Command.{Command}
use Rattle.tlm_types.specs.declared.words.Command.TheVariants.{Read, Write, Ignore, FetchAdd}
use Rattle.tlm_types.specs.declared.words.Kind.{Kind}
use Rattle.tlm_types.specs.declared.words.Kind.TheVariants.{Read as read_kind, Write as write_kind, Both}
use Rattle.tlm_types.specs.declared.words.MemoryTraits.{MemoryTraits}
use Rattle.tlm_types.specs.declared.entry.Entry.{Entry}
use Rattle.tlm_types.specs.declared.entry.What.{What}
use Rattle.tlm_types.specs.declared.entry.What.TheVariants.{Granted, Closed}
use Rattle.tlm_types.specs.Traits.{allowed_kind}
use Rattle.tlm_model.specs.Each.{AtEach}
use Rattle.tlm_model.specs.Store.{is_allowed}
use Rattle.region_object.specs.declared.call.Denial.{Denial}
use Rattle.region_object.specs.declared.call.Denial.TheVariants.{NoDmi, NotAllowed, GatesSpent}

abbrev pub is_grant : What → Bool
is_grant (Granted gate first last kind) = true
is_grant w = false

-- the grant of gate g
abbrev pub gives : ℕ → What → Bool
gives g (Granted gate first last kind) = gate == g
gives g w = false

-- the closing of gate g
abbrev pub closes : ℕ → What → Bool
closes g (Closed gate) = gate == g
closes g w = false

abbrev pub is_given : ℕ → List Entry → Bool
is_given g log = list_any (λ e. gives g e.what) log

abbrev pub is_closed : ℕ → List Entry → Bool
is_closed g log = list_any (λ e. closes g e.what) log

-- how many grants a log has
abbrev pub grants_in : List Entry → ℕ
grants_in [] = 0
grants_in (e ∷ es) = (if is_grant e.what then 1 else 0) + grants_in es

-- the grant's range and that from low to high have an offset in common
abbrev pub overlaps : ℕ → ℕ → What → Bool
overlaps low high (Granted gate first last kind) = nat_le first high && nat_le low last
overlaps low high w = false

-- the grant of gate g, if it stands before this position and overlaps the range from low to high
abbrev pub gives_over : ℕ → ℕ → ℕ → ℕ → Entry → Bool
gives_over g low high before e = gives g e.what && (nat_lt e.position before && overlaps low high e.what)

-- gate g was given before this position, by a grant that overlaps the range from low to high, and isn't closed
abbrev pub is_open : List Entry → ℕ → ℕ → ℕ → ℕ → Bool
is_open log low high before g = list_any (gives_over g low high before) log && not (is_closed g log)

-- the least of the n numbers from g on that has this
abbrev pub least_from : (ℕ → Bool) → ℕ → ℕ → Option ℕ
least_from test g zero = None
least_from test g (suc n) = if test g then Some g else least_from test (g + 1) n

-- the least of these gates from `from` on that is open so
abbrev pub least_open : List Entry → ℕ × ℕ → ℕ → ℕ → ℕ → ℕ → Option ℕ
least_open log gates from low high before = least_from (λ g. nat_le from g && is_open log low high before g) gates.0 gates.1

-- why no grant is given for a command, if none is: the first of these causes
abbrev pub denial_by : MemoryTraits → ℕ → Command → Option Denial
denial_by m given c =
    if not m.dmi then Some NoDmi else
    (if not (is_allowed m c) then Some NotAllowed else
    (if nat_le m.gates given then Some GatesSpent else None))

-- the kind allows the command
abbrev pub allows : Kind → Command → Bool
allows read_kind Read = true
allows read_kind Write = false
allows write_kind Read = false
allows write_kind Write = true
allows Both Read = true
allows Both Write = true
allows kind Ignore = false
allows kind FetchAdd = false

-- a grant is given where the memory grants direct access, takes the least gate that was never given, and is of the whole memory and of the
-- kind that it allows; a closing is the first of a gate that was given
abbrev pub IsGrantStep : ℕ → MemoryTraits → List Entry → What → Type 0
IsGrantStep first_gate m before (Granted gate first last kind) =
    (gate ≡ first_gate + grants_in before)
    × (grants_in before < m.gates)
    × (first ≡ 0)
    × (last ≡ m.size - 1)
    × (kind ≡ allowed_kind m.readable m.writable)
    × (m.dmi ≡ true)
IsGrantStep first_gate m before (Closed gate) = IsTrue (is_given gate before) × (is_closed gate before ≡ false)
IsGrantStep first_gate m before w = Unit {0}

-- the grants and closings of a log are those of its memory
abbrev pub IsGrantLog : ℕ → MemoryTraits → List Entry → Type 0
IsGrantLog first_gate m log = AtEach (λ before e. IsGrantStep first_gate m before e.what) log
