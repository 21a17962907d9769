-- What each step does to the views.
use Rattle.std.specs.Prelude.{◌≡◌, ℕ, ◌+◌, ◌-◌, ◌<◌, ◌≤◌, ◌==◌, ◌⊎◌, true, false, List, [], ◌∷◌, ◌++◌, length, map, cond, max, Option, Some, None}
use lib.Dec.{ltb}
use Rattle.atomic_table.specs.Table.{Step, Me}
use Rattle.one_history.specs.declared.entry.Entry.{Entry}
use Rattle.one_history.specs.declared.entry.Sign.{Sign}
use Rattle.one_history.specs.declared.entry.Sign.TheVariants.{Direct, Closed}
use Rattle.one_history.specs.declared.view.Frame.{Frame}
use Rattle.one_history.specs.declared.view.Owned.{Owned}
use Rattle.one_history.specs.declared.view.Stay.{Stay}
use Rattle.one_history.specs.declared.view.View.{View}
use Rattle.view_lists.specs.Lists.{Has, Within}
use Rattle.one_history.specs.Lists.{StandBelow, entries_at}
use Rattle.one_history.specs.Gates.{IsRevoked, IsGateOf, NamesOwn, inside_of}

-- how many seats a view counts
abbrev pub made_of : Option ℕ → ℕ
made_of None = 0
made_of (Some n) = n

-- without the first stay at the gate
abbrev pub unstay : ℕ → List Stay → List Stay
unstay g [] = []
unstay g (x ∷ xs) = cond (x.gate == g) xs (x ∷ unstay g xs)

module _ {E : Type 0} where
  -- an entry at this position
  abbrev pub entry : ℕ → ℕ → Sign → E → Entry E
  entry p o s c = record { position = p; object = o; sign = s; content = c }

  -- the number of the first object
  abbrev pub first_number : List (Owned E) → ℕ
  first_number [] = 0
  first_number (x ∷ xs) = x.number

  -- the entries of the first object
  abbrev pub first_own : List (Owned E) → List (Entry E)
  first_own [] = []
  first_own (x ∷ xs) = x.own

  -- the object with this entry, if it is its own
  abbrev pub with_own : Entry E → Owned E → Owned E
  with_own e x = cond (e.object == x.number) (record { number = x.number; own = x.own ++ e ∷ [] }) x

module _ {E G : Type 0} where
  -- the object of a seat
  abbrev pub number_of : View E G → ℕ
  number_of v = first_number v.objects

  -- the own entries of a seat
  abbrev pub own_of : View E G → List (Entry E)
  own_of v = first_own v.objects

  -- a seat after it drew an entry
  abbrev pub drawn : View E G → Entry E → View E G
  drawn v e = record { frame = v.frame; notes = v.notes; seen = e.position + 1; known = v.known ++ e ∷ []; looks = v.looks; objects = map (with_own e) v.objects; counts = v.counts; stays = v.stays; void = v.void; drained = v.drained }

  -- what a seat knows stands below what it has seen, what it knows of its object is among its own entries, and where a gate of its
  -- object is void to it, they show why
  pub record KnowsOwn (v : View E G) : Type 0 where
    pub below : StandBelow v.known v.seen
    pub among : Within (entries_at (number_of v) v.known) (own_of v)
    pub void : (key : Frame G) (g : ℕ) → v.frame ≡ Some key → Has v.void g → IsGateOf key (number_of v) g → IsRevoked (own_of v) g

  -- where the seat or the note is, as an entry with this sign needs it: inside the gate for a direct access, and the gate is drained
  -- to it for a closing
  abbrev pub IsAtGate : View E G → Sign → Type 0
  IsAtGate v (Direct g) = 1 ≤ inside_of g v
  IsAtGate v (Closed g) = Has v.drained g
  IsAtGate v sign = Unit {0}

  -- a seat of this history may draw an entry with this sign
  abbrev pub MayDraw : Frame G → View E G → Sign → Type 0
  MayDraw key v sign = NamesOwn key (number_of v) sign × IsAtGate v sign

  -- the step that looks at what the seat knows of its object
  abbrev pub Recalled : Step ℕ → Me ℕ (View E G) → ℕ → Me ℕ (View E G) → Type 0
  Recalled st m r m' = (m' ≡ m) × KnowsOwn m.0

  -- the step that draws: its position is past all that the seat had seen
  abbrev pub Drew : E → Sign → Step ℕ → Me ℕ (View E G) → ℕ → Me ℕ (View E G) → Type 0
  Drew c s st m r m' = (m'.1 ≡ m.1) × (r < 1000000) × (m.0.seen ≤ r) × (m'.0 ≡ drawn m.0 (entry r (number_of m.0) s c)) × KnowsOwn m.0

  -- a note after one of its notes was given away
  abbrev pub one_less : View E G → View E G
  one_less v = record { frame = v.frame; notes = v.notes - 1; seen = v.seen; known = v.known; looks = v.looks; objects = v.objects; counts = v.counts; stays = v.stays; void = v.void; drained = v.drained }

  -- a seat after a copy: one note and its looks are gone
  abbrev pub one_gone : View E G → View E G
  one_gone v = record { frame = v.frame; notes = v.notes - 1; seen = v.seen; known = v.known; looks = []; objects = v.objects; counts = v.counts; stays = v.stays; void = v.void; drained = v.drained }

  -- the copy: it knows what the seat knows, and has the seat's looks and one more
  abbrev pub copied : ℕ → View E G → View E G
  copied n v = record { frame = v.frame; notes = 1; seen = v.seen; known = v.known; looks = v.looks ++ (number_of v, n) ∷ []; objects = []; counts = None; stays = []; void = v.void; drained = v.drained }

  -- the note that was given away: it knows as much, and has no looks
  abbrev pub parted : View E G → View E G
  parted v = record { frame = v.frame; notes = 1; seen = v.seen; known = v.known; looks = []; objects = []; counts = None; stays = []; void = v.void; drained = v.drained }

  -- the first note after it made one more seat
  abbrev pub one_more : View E G → View E G
  one_more v = record { frame = v.frame; notes = v.notes; seen = v.seen; known = v.known; looks = v.looks; objects = v.objects; counts = Some (made_of v.counts + 1); stays = v.stays; void = v.void; drained = v.drained }

  -- the seat that it made
  abbrev pub blank_seat : View E G → View E G
  blank_seat v = record { frame = v.frame; notes = 0; seen = 0; known = []; looks = []; objects = record { number = made_of v.counts; own = [] } ∷ []; counts = None; stays = []; void = []; drained = [] }

  -- what two know together
  abbrev pub joined : View E G → View E G → View E G
  joined v w = record { frame = v.frame; notes = v.notes + w.notes; seen = max v.seen w.seen; known = v.known ++ w.known; looks = v.looks ++ w.looks; objects = v.objects ++ w.objects; counts = v.counts; stays = v.stays ++ w.stays; void = v.void ++ w.void; drained = v.drained ++ w.drained }

  -- what the note of `new` knows when n seats are made
  abbrev pub counting : Frame G → ℕ → View E G
  counting key n = record { frame = Some key; notes = key.notes; seen = 0; known = []; looks = []; objects = []; counts = Some n; stays = []; void = []; drained = [] }

  -- the seat of the object o
  abbrev pub fresh : Frame G → ℕ → View E G
  fresh key o = record { frame = Some key; notes = 0; seen = 0; known = []; looks = []; objects = record { number = o; own = [] } ∷ []; counts = None; stays = []; void = []; drained = [] }

  -- a seat that knows the whole log
  abbrev pub learnt : View E G → List (Entry E) → View E G
  learnt v log = record { frame = v.frame; notes = v.notes; seen = length log; known = log; looks = v.looks; objects = v.objects; counts = v.counts; stays = v.stays; void = v.void; drained = v.drained }

  -- a note that went inside a gate
  abbrev pub entered : ℕ → View E G → View E G
  entered g v = record { frame = v.frame; notes = v.notes; seen = v.seen; known = v.known; looks = v.looks; objects = v.objects; counts = v.counts; stays = record { gate = g; inside = true } ∷ v.stays; void = v.void; drained = v.drained }

  -- a note that was turned away at a gate
  abbrev pub away : ℕ → View E G → View E G
  away g v = record { frame = v.frame; notes = v.notes; seen = v.seen; known = v.known; looks = v.looks; objects = v.objects; counts = v.counts; stays = record { gate = g; inside = false } ∷ v.stays; void = g ∷ v.void; drained = v.drained }

  -- a seat or a note after a stay of it ended
  abbrev pub left : ℕ → View E G → View E G
  left g v = record { frame = v.frame; notes = v.notes; seen = v.seen; known = v.known; looks = v.looks; objects = v.objects; counts = v.counts; stays = unstay g v.stays; void = v.void; drained = v.drained }

  -- a note to which a gate is void
  abbrev pub voided : ℕ → View E G → View E G
  voided g v = record { frame = v.frame; notes = v.notes; seen = v.seen; known = v.known; looks = v.looks; objects = v.objects; counts = v.counts; stays = v.stays; void = g ∷ v.void; drained = v.drained }

  -- a note to which a gate is drained
  abbrev pub drained_at : ℕ → View E G → View E G
  drained_at g v = record { frame = v.frame; notes = v.notes; seen = v.seen; known = v.known; looks = v.looks; objects = v.objects; counts = v.counts; stays = v.stays; void = v.void; drained = g ∷ v.drained }

  -- the note has seen an invalidation over the gate's grant
  abbrev pub SawInvalidated : View E G → ℕ → Type 0
  SawInvalidated v g = IsRevoked v.known g ⊎ Has v.void g

  -- the step that comes to a gate: it is inside where the word had no mark
  abbrev pub Came : Step ℕ → Me ℕ (View E G) → ℕ → Me ℕ (View E G) → Type 0
  Came st m r m' = (m'.1 ≡ m.1) × (m'.0 ≡ cond (ltb r 9223372036854775808) (entered (st.word - 1) m.0) (away (st.word - 1) m.0))

  -- the step that ends a stay
  abbrev pub Left : Step ℕ → Me ℕ (View E G) → ℕ → Me ℕ (View E G) → Type 0
  Left st m r m' = (m'.1 ≡ m.1) × (m'.0 ≡ left (st.word - 1) m.0)

  -- the step that marks a gate
  abbrev pub Marked : Step ℕ → Me ℕ (View E G) → ℕ → Me ℕ (View E G) → Type 0
  Marked st m r m' = (m'.1 ≡ m.1) × (m'.0 ≡ voided (st.word - 1) m.0)

  -- the step that looks at a gate: it is drained where the word is the mark alone
  abbrev pub Watched : Step ℕ → Me ℕ (View E G) → ℕ → Me ℕ (View E G) → Type 0
  Watched st m r m' = (m'.1 ≡ m.1) × (m'.0 ≡ cond (r == 9223372036854775808) (drained_at (st.word - 1) m.0) m.0)

module _ {G : Type 0} where
  -- the facts that were given to `new`
  abbrev pub IsFrame : Frame G → G → List ℕ → List ℕ → ℕ → Type 0
  IsFrame f world planned gates notes = (f.world ≡ world) × (f.planned ≡ planned) × (f.gates ≡ gates) × (f.notes ≡ notes)
