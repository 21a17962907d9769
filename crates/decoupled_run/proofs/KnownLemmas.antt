-- What a note knows, as it learns more.
use Rattle.std.proofs.Common.{◌≡◌, ◌⊎◌, ℕ, zero, suc, ◌+◌, ◌<◌, ◌≤◌, true, List, [], ◌∷◌, length, Option, Some, None, slice_get, refl, ap, sym, subst, ◌∙◌, inl, inr, arith}
use Rattle.std.proofs.lemmas.Bool.{cases_eq, cond-true}
use Rattle.view_lists.specs.Lists.{Has, Within}
use Rattle.view_lists.proofs.Members.{has_mapped, has_right}
use Rattle.one_history.specs.declared.entry.Entry.{Entry as HistoryEntry}
use Rattle.one_history.specs.declared.view.Frame.{Frame}
use Rattle.one_history.specs.declared.view.View.{View}
use Rattle.one_history.specs.Lists.{StandBelow}
use Rattle.shared_object.specs.Written.{Written, logged, placed, written_at, wrote}
use Rattle.tlm_types.specs.declared.entry.Content.{Content}
use Rattle.tlm_types.specs.declared.entry.Entry.{Entry}
use Rattle.tlm_types.specs.declared.words.ObjectNo.TheVariants.{Memory}
use Rattle.tlm_model.specs.declared.platform.MemoryRow.{MemoryRow}
use Rattle.tlm_model.specs.Plan.{Plan}
use Rattle.tlm_model.specs.Scripts.{first_gate}
use Rattle.good_history.specs.Grants.{gates_of}
use Rattle.region_object.specs.declared.call.RegionCall.{RegionCall}
use Rattle.region_object.specs.declared.call.RegionReply.{RegionReply}
use Rattle.region_object.specs.Grants.{gives as gives_at}
use Rattle.region_object.specs.Region.{after_call}
use Rattle.region_object.specs.Written.{content_of}
use Rattle.joined_traffic.specs.Parts.{KnowsAllGiven}
use Rattle.plat_net.specs.Calls.{entries_of}
use Rattle.dmi_grants.specs.Asking.{AreGiven}
use Rattle.dmi_grants.specs.Made.{IsMade, dmi_gates, dmi_gates_of, is_given_in}
use Rattle.dmi_grants.proofs.Counts.{fewer}
use Rattle.dmi_grants.proofs.Known.{given_more, known_more}
use Rattle.dmi_grants.proofs.Lists.{has_any}
pub use Rattle.dmi_grants.proofs.Reading.{all_of, below_of, given_on, gives_same, knows_on, read_at, read_below, read_more, read_placed, still_below}
use Rattle.decoupled_run.specs.Known.{all_ungiven, known_to, ungiven}

-- the gates of a memory that grants direct access
gates_by : (o : Option MemoryRow) (k : ℕ) → (dmi : (row : MemoryRow) → o ≡ Some row → row.traits.dmi ≡ true) → k < gates_of o → k < dmi_gates_of o
gates_by None k dmi less = absurd (omega (arith, less))
gates_by (Some row) k dmi less = let same = cond-true row.traits.dmi row.traits.gates 0 (dmi row refl) in omega (arith, same, less)

-- all gates are known to be given
pub all_given : (p : Plan) (v : View Content Plan) (m : ℕ) → m < length p.platform.memories → StandBelow v.known v.seen → ((row : MemoryRow) → slice_get p.platform.memories m ≡ Some row → row.traits.dmi ≡ true) → AreGiven p m (written_at m v.known) → KnowsAllGiven p (known_to p v) v.seen (Memory m)
all_given p v m there below dmi given = λ k less.
    let w = has_any (λ (w : Written). gives_at (first_gate p.platform m + k) w.content.what) (written_at m v.known) (given k (gates_by (slice_get p.platform.memories m) k dmi less)) in
    let has = read_at p.platform v.known m w.0 there w.1 in
    (logged (Memory m) w.0, has, read_below p.platform v.known v.seen below (logged (Memory m) w.0) has, sym (gives_same (first_gate p.platform m + k) w.0.content.what) ∙ w.2)

-- fewer gates aren't known to be given
pub ungiven_less : (p : Plan) (xs ys : List (HistoryEntry Content)) (m : ℕ) → Within xs ys → ungiven p ys m ≤ ungiven p xs m
ungiven_less p xs ys m more = fewer (is_given_in (written_at m xs)) (is_given_in (written_at m ys)) (first_gate p.platform m) (dmi_gates p m) (λ k given. given_more (written_at m xs) (written_at m ys) k (known_more m xs ys more) given)

pub all_ungiven_less : (p : Plan) (xs ys : List (HistoryEntry Content)) (n : ℕ) → Within xs ys → all_ungiven p ys n ≤ all_ungiven p xs n
all_ungiven_less p xs ys zero more = omega arith
all_ungiven_less p xs ys (suc n) more = let rest = all_ungiven_less p xs ys n more in let here = ungiven_less p xs ys n more in omega arith

-- one less, where one of them is less by one
pub all_ungiven_one : (p : Plan) (xs ys : List (HistoryEntry Content)) (n m : ℕ) → Within xs ys → m < n → ungiven p ys m + 1 ≤ ungiven p xs m → all_ungiven p ys n + 1 ≤ all_ungiven p xs n
all_ungiven_one p xs ys zero m more below one = absurd (omega (arith, below))
all_ungiven_one p xs ys (suc n) m more below one = by (cases_eq m n) (λ less. all_ungiven_one p xs ys n m more less one)
  where
    by : (m ≡ n) ⊎ (m ≡ n → ⊥) → (m < n → all_ungiven p ys n + 1 ≤ all_ungiven p xs n) → all_ungiven p ys (suc n) + 1 ≤ all_ungiven p xs (suc n)
    by (inl same) rest =
        let others = all_ungiven_less p xs ys n more in
        let here : ungiven p ys n + 1 ≤ ungiven p xs n = subst (λ (k : ℕ). ungiven p ys k + 1 ≤ ungiven p xs k) same one in
        omega arith
    by (inr other) rest =
        let others = rest (omega arith) in
        let here = ungiven_less p xs ys n more in
        omega arith

pub one_of_all : (p : Plan) (known : List (HistoryEntry Content)) (n m : ℕ) → m < n → ungiven p known m ≤ all_ungiven p known n
one_of_all p known zero m below = absurd (omega (arith, below))
one_of_all p known (suc n) m below = by (cases_eq m n) (one_of_all p known n m)
  where
    by : (m ≡ n) ⊎ (m ≡ n → ⊥) → (m < n → ungiven p known m ≤ all_ungiven p known n) → ungiven p known m ≤ all_ungiven p known (suc n)
    by (inl same) rest = let here = ap (ungiven p known) same in omega arith
    by (inr other) rest = let others = rest (omega arith) in omega arith

-- One entry of memory m was added, past all that the note had seen, and the note that comes back knows it.
pub record HasEntered (frame : Frame Plan) (m : ℕ) (e : Entry) (note back : View Content Plan) : Type 0 where
  pub there : m < length frame.world.platform.memories
  pub object : e.object ≡ Memory m
  pub late : note.seen ≤ e.position
  pub seen : e.position < back.seen
  pub keeps : Within note.known back.known
  pub below : StandBelow back.known back.seen
  pub knows : Has (known_to frame.world back) e

-- the entry that a call adds at this position
abbrev pub entry_by : (frame : Frame Plan) (m : ℕ) (call : RegionCall) (note back : View Content Plan) (position : ℕ) (reply : RegionReply) → IsMade frame m call note back (Some position) reply → Entry
entry_by frame m call note back position reply made = logged (Memory m) (wrote position (content_of made.memory call))

pub made_enters : (frame : Frame Plan) (m : ℕ) (call : RegionCall) (note back : View Content Plan) (position : ℕ) (reply : RegionReply) (made : IsMade frame m call note back (Some position) reply) → m < length frame.world.platform.memories
    → HasEntered frame m (entry_by frame m call note back position reply made) note back
made_enters frame m call note back position reply made there =
    let w = wrote position (content_of made.memory call) in
    let after : Has (entries_of (after_call made.memory position call)) w = subst (λ (l : List Written). Has l w) (sym made.enters.log) (has_right (entries_of made.memory) (w ∷ []) w (0, refl)) in
    let late = made.enters.late in
    record {
      there = there;
      object = refl;
      late = late.0;
      seen = late.1;
      keeps = made.enters.knew;
      below = made.enters.below;
      knows = read_placed frame.world.platform back.known m w there (made.enters.knows (placed m w) (has_mapped (placed m) (entries_of (after_call made.memory position call)) w after));
    }
