-- What an invalidation adds to the own entries of its initiator, whatever its style (IEEE 1666-2011, clause 11.2.6).
use Rattle.std.specs.Prelude.{ℕ, ◌≡◌, ◌+◌, ◌<◌, ◌≤◌, ◌&&◌, IsTrue, List, ◌∷◌, ◌++◌, length, Some, MatchOption, slice_get}
use Rattle.view_lists.specs.Lists.{Has, Within}
use Rattle.one_history.specs.declared.view.Frame.{Frame}
use Rattle.one_history.specs.declared.view.View.{View}
use Rattle.one_history.specs.Lists.{StandBelow}
use Rattle.shared_object.specs.Written.{written_at}
use Rattle.token_book.specs.Purse.{Purse}
use Rattle.tlm_types.specs.declared.entry.Content.{Content}
use Rattle.tlm_types.specs.declared.entry.Entry.{Entry}
use Rattle.tlm_types.specs.declared.entry.What.TheVariants.{Closed, Invalidated}
use Rattle.tlm_types.specs.declared.words.ObjectNo.TheVariants.{Memory}
use Rattle.tlm_types.specs.declared.words.TxnId.{TxnId}
use Rattle.tlm_model.specs.Plan.{Plan, Initiator, initiators_of}
use Rattle.tlm_model.specs.Requests.{Request, requests_of}
use Rattle.tlm_model.specs.Scripts.{has_gate}
use Rattle.good_history.specs.Grants.{asks, gives, is_cut_by, last_of}
use Rattle.good_history.specs.Counting.{IsRising}
use Rattle.joined_traffic.specs.Parts.{HasReturned, KeepsOwnGrants, Knows, KnowsAllGiven, is_invalidation}
use Rattle.dmi_grants.specs.Invalidating.{HasInvalidated}
use Rattle.dmi_grants.specs.Known.{AreBelow, HasAllOf, known_to, position_of}
use Rattle.dmi_grants.specs.Made.{HasSpent, unclosed}

-- the entry of an invalidation of memory m
abbrev pub invalidation_at : ℕ → ℕ → TxnId → ℕ → ℕ → ℕ → Entry
invalidation_at position m txn time first last = record { position = position; object = Memory m; txn = txn; time = time; what = Invalidated first last }

-- an entry closes a gate of memory m, for the invalidation of this transaction at this time
pub record IsClosingFor (p : Plan) (m : ℕ) (txn : TxnId) (time : ℕ) (c : Entry) : Type 0 where
  pub gate : ℕ
  pub object : c.object ≡ Memory m
  pub of : c.txn ≡ txn
  pub at : c.time ≡ time
  pub says : c.what ≡ Closed gate
  pub its_gate : IsTrue (has_gate p.platform m gate)

-- An invalidation of memory m added its own entry and these closings, in rising order and past all that its note had seen, and the note knows
-- them. A ticket was spent for each. In each history that has all that the note knows, each closing ends a grant that the invalidation
-- overlaps, and the invalidation has returned.
pub record HasAdded (frame : Frame Plan) (m : ℕ) (txn : TxnId) (time first last : ℕ) (note back : View Content Plan) (before after : Purse) (told : Entry) (closings : List Entry) : Type 0 where
  pub told_is : told ≡ invalidation_at told.position m txn time first last
  pub each : (c : Entry) → Has closings c → IsClosingFor frame.world m txn time c
  pub rising : IsRising position_of (told ∷ closings)
  pub late : (e : Entry) → Has (told ∷ closings) e → note.seen ≤ e.position
  pub keeps : Within note.known back.known
  pub below : StandBelow back.known back.seen
  pub known : Within (told ∷ closings) (known_to frame.world back)
  pub cuts : (h : List Entry) → HasAllOf frame.world back h → (c : Entry) (gate : ℕ) → Has closings c → c.what ≡ Closed gate → Knows h c.position (λ x. gives gate x.what && is_cut_by x told)
  pub returned : (h : List Entry) (limit : ℕ) → HasAllOf frame.world back h → AreBelow (known_to frame.world back) limit → HasReturned h limit told
  pub wallet : HasSpent m (length (told ∷ closings)) before after
  pub fewer : unclosed frame.world m (written_at m back.known) + length closings ≤ unclosed frame.world m (written_at m note.known)

-- these are its own entries
pub record AddsOwn (frame : Frame Plan) (m : ℕ) (txn : TxnId) (time first last : ℕ) (note back : View Content Plan) (before after : Purse) : Type 0 where
  pub told : Entry
  pub closings : List Entry
  pub added : HasAdded frame m txn time first last note back before after told closings

-- each invalidation adds such entries
abbrev pub InvalidationAdds : Type 0
InvalidationAdds = (frame : Frame Plan) (m : ℕ) (txn : TxnId) (time first last : ℕ) (note back : View Content Plan) (before after : Purse)
    → m < length frame.world.platform.memories → HasInvalidated frame m txn time first last note back before after → AddsOwn frame m txn time first last note back before after

-- In each history that has all that a note with this view knows, these own entries keep what a history of grants asks of them, and the
-- invalidations among them have returned. Where the last of initiator n asks for a grant, all gates of its memory are known to be given.
pub record KeepsOwnPoints (p : Plan) (v : View Content Plan) (n : ℕ) (mine : List Entry) : Type 0 where
  pub own : (h : List Entry) → HasAllOf p v h → KeepsOwnGrants p h mine
  pub returned : (h : List Entry) (limit : ℕ) → HasAllOf p v h → AreBelow (known_to p v) limit → (y : Entry) → Has mine y → IsTrue (is_invalidation y.what) → HasReturned h limit y
  pub settled : MatchOption (last_of n mine) (Unit {0}) (λ a. IsTrue (asks p a) → KnowsAllGiven p (known_to p v) v.seen a.object)

-- an initiator has asked for the request of a transaction, whatever is answered after these entries
pub record AsksAfter (p : Plan) (mine : List Entry) (txn : TxnId) : Type 0 where
  pub initiator : Initiator
  pub request : Request
  pub is : slice_get (initiators_of p) txn.initiator ≡ Some initiator
  pub asked : (more : List Entry) → slice_get (requests_of p.platform initiator (mine ++ more)) txn.seq ≡ Some request

-- own entries that keep these points keep them with those that an invalidation adds
abbrev pub InvalidationKeepsPoints : Type 0
InvalidationKeepsPoints = (frame : Frame Plan) (m : ℕ) (txn : TxnId) (time first last : ℕ) (note back : View Content Plan) (before after : Purse) (told : Entry) (closings mine : List Entry)
    → HasAdded frame m txn time first last note back before after told closings → StandBelow note.known note.seen → AsksAfter frame.world mine txn
    → KeepsOwnPoints frame.world note txn.initiator mine → KeepsOwnPoints frame.world back txn.initiator (mine ++ told ∷ closings)
