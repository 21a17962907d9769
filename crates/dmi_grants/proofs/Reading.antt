-- What a note knows, as the definitions of a platform read it, and as it learns more.
use Rattle.std.proofs.Common.{◌≡◌, ℕ, ◌+◌, ◌<◌, Bool, List, get_or, length, refl, ap, subst, ◌∙◌, arith}
use mathlib.Core.Option.{some}
use lib.ListN.{get_elem?}
use Rattle.std.proofs.lemmas.Grind.{common_steps}
use Rattle.view_lists.specs.Lists.{Has, Within}
use Rattle.view_lists.proofs.Members.{has_map, has_mapped}
use Rattle.one_history.specs.declared.entry.Entry.{Entry as HistoryEntry}
use Rattle.one_history.specs.declared.view.View.{View}
use Rattle.one_history.specs.Lists.{StandBelow}
use Rattle.shared_object.specs.Written.{Written, logged, placed, written, written_at}
use Rattle.tlm_types.specs.declared.entry.Content.{Content}
use Rattle.tlm_types.specs.declared.entry.Entry.{Entry}
use Rattle.tlm_types.specs.declared.entry.What.{What}
use Rattle.tlm_types.specs.declared.words.ObjectNo.{ObjectNo}
use Rattle.tlm_types.specs.declared.words.ObjectNo.TheVariants.{Hop, Memory, Pool}
use Rattle.tlm_model.specs.declared.platform.Platform.{Platform}
use Rattle.tlm_model.specs.History.{entries_at}
use Rattle.tlm_model.specs.Plan.{Plan}
use Rattle.tlm_model.specs.Scripts.{first_gate}
use Rattle.good_history.specs.Grants.{closes, gives}
use Rattle.region_object.specs.Grants.{closes as closes_at, gives as gives_at}
use Rattle.joined_traffic.specs.Parts.{Knows, KnowsAllGiven}
use Rattle.cargo_model.specs.Known.{objects_of}
use Rattle.plat_net.proofs.ObjectLemmas.{memory_at}
use Rattle.dmi_grants.specs.Known.{AreBelow, HasAllOf, entries_read, entry_read, known_to}
use Rattle.dmi_grants.proofs.Known.{entry_known}

pub read_more : (p : Platform) (xs ys : List (HistoryEntry Content)) → Within xs ys → Within (entries_read p xs) (entries_read p ys)
read_more p xs ys more e has =
    let h = has_map (entry_read p) xs e has in
    subst (Has (entries_read p ys)) h.2 (has_mapped (entry_read p) ys h.0 (more h.0 h.1))

pub read_below : (p : Platform) (xs : List (HistoryEntry Content)) (n : ℕ) → StandBelow xs n → AreBelow (entries_read p xs) n
read_below p xs n below e has =
    let h = has_map (entry_read p) xs e has in
    subst (λ (x : Entry). x.position < n) h.2 (below h.0 h.1)

-- what is known among some entries is known among more, below each position that these are below
pub knows_on : (xs ys : List Entry) (n limit : ℕ) (Q : Entry → Bool) → Within xs ys → AreBelow xs limit → Knows xs n Q → Knows ys limit Q
knows_on xs ys n limit Q more below k = (k.0, more k.0 k.1, below k.0 k.1, k.3)

pub given_on : (p : Plan) (xs ys : List Entry) (n limit : ℕ) (o : ObjectNo) → Within xs ys → AreBelow xs limit → KnowsAllGiven p xs n o → KnowsAllGiven p ys limit o
given_on p xs ys n limit (Memory m) more below all = λ k less. knows_on xs ys n limit (λ x. gives (first_gate p.platform m + k) x.what) more below (all k less)
given_on p xs ys n limit (Hop h) more below all = tt
given_on p xs ys n limit (Pool h) more below all = tt

-- a history with all that is known later has all that was known before
pub all_of : (p : Plan) (note back : View Content Plan) (h : List Entry) → Within note.known back.known → HasAllOf p back h → HasAllOf p note h
all_of p note back h keeps all = record {
  within = λ e has. all.within e (read_more p.platform note.known back.known keeps e has);
  numbered = all.numbered;
  gates = all.gates;
  places = λ m e has at. all.places m e (keeps e has) at;
}

pub below_of : (p : Plan) (note back : View Content Plan) (limit : ℕ) → Within note.known back.known → AreBelow (known_to p back) limit → AreBelow (known_to p note) limit
below_of p note back limit keeps below e has = below e (read_more p.platform note.known back.known keeps e has)

-- all that is known stands below what the note has seen, and so does what it knew before
pub still_below : (p : Plan) (note back : View Content Plan) → Within note.known back.known → StandBelow back.known back.seen → AreBelow (known_to p note) back.seen
still_below p note back keeps below e has = read_below p.platform back.known back.seen below e (read_more p.platform note.known back.known keeps e has)

pub read_is : (p : Platform) (m : ℕ) (e : HistoryEntry Content) → m < length p.memories → e.object ≡ m → entry_read p e ≡ logged (Memory m) (written e)
read_is p m e below is =
    ap (λ (o : ObjectNo). record { position = e.position; object = o; txn = e.content.txn; time = e.content.time; what = e.content.what })
    (ap (λ (n : ℕ). get_or (objects_of p) n (Hop 0)) is ∙ memory_at p m (Hop 0) below)

-- what a memory wrote, among the entries that are known
pub read_at : (p : Platform) (known : List (HistoryEntry Content)) (m : ℕ) (w : Written) → m < length p.memories → Has (written_at m known) w → Has (entries_read p known) (logged (Memory m) w)
read_at p known m w below has =
    let e = entry_known m known w has in
    subst (Has (entries_read p known)) (read_is p m e.0 below e.2 ∙ ap (logged (Memory m)) e.3) (has_mapped (entry_read p) known e.0 e.1)

pub read_placed : (p : Platform) (known : List (HistoryEntry Content)) (m : ℕ) (w : Written) → m < length p.memories → Has known (placed m w) → Has (entries_read p known) (logged (Memory m) w)
read_placed p known m w below has = subst (Has (entries_read p known)) (read_is p m (placed m w) below refl) (has_mapped (entry_read p) known (placed m w) has)

-- what is known of a memory stands in its log at its number
pub placed_at : (p : Plan) (v : View Content Plan) (h : List Entry) (m : ℕ) (w : Written) → m < length p.platform.memories → HasAllOf p v h → Has v.known (placed m w) → get_elem? (entries_at (Memory m) h) w.content.number ≡ some (logged (Memory m) w)
placed_at p v h m w below all has =
    let same : entry_read p.platform (placed m w) ≡ logged (Memory m) w = read_is p.platform m (placed m w) below refl in
    all.places m (placed m w) has (ap (λ (e : Entry). e.object) same) ∙ ap some same

pub gives_same : (g : ℕ) (w : What) → gives_at g w ≡ gives g w
gives_same g w = grind (arith, common_steps)

pub closes_same : (g : ℕ) (w : What) → closes_at g w ≡ closes g w
closes_same g w = grind (arith, common_steps)
