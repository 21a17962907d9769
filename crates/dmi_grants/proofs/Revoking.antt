-- An invalidation that is under way, and the entries that it makes.
use Rattle.std.proofs.Common.{◌≡◌, Bool, ℕ, ◌<◌, List, [], ◌∷◌, ◌++◌, length, Option, Some, None, refl, sym, ap, subst, arith}
use Rattle.std.specs.Prelude.{IsSome, is_some}
use Rattle.view_lists.specs.Lists.{Has, Within}
use Rattle.view_lists.proofs.Members.{has_mapped, has_right}
use Rattle.one_history.specs.declared.entry.Entry.{Entry}
use Rattle.one_history.specs.declared.view.Frame.{Frame}
use Rattle.one_history.specs.declared.view.View.{View}
use Rattle.one_history.specs.Lists.{StandBelow}
use Rattle.shared_object.specs.Written.{Written, placed, wrote, written_at}
use Rattle.token_book.specs.Purse.{Purse}
use Rattle.tlm_types.specs.declared.entry.Content.{Content}
use Rattle.tlm_types.specs.declared.entry.What.{What}
use Rattle.tlm_types.specs.declared.entry.What.TheVariants.{Closed, Invalidated}
use Rattle.tlm_types.specs.declared.words.TxnId.{TxnId}
use Rattle.tlm_model.specs.Plan.{Plan}
use Rattle.node_hops.specs.Steps.{HasNew, IsAccessOf}
use Rattle.region_object.specs.declared.call.RegionCall.{RegionCall}
use Rattle.region_object.specs.declared.call.RegionCall.TheVariants.{Close, Invalidate, Overlapping}
use Rattle.region_object.specs.declared.call.RegionReply.{RegionReply}
use Rattle.region_object.specs.declared.call.RegionReply.TheVariants.{Invalidated as InvalidatedReply, Overlapping as OverlappingReply}
use Rattle.region_object.specs.Region.{after_call}
use Rattle.region_object.specs.Written.{content_of}
use Rattle.plat_net.specs.Calls.{entries_of}
use Rattle.plat_net.proofs.NumberLemmas.{memory_number}
use Rattle.dmi_grants.specs.declared.invalidation.Revocation.{Revocation}
use Rattle.dmi_grants.specs.Invalidating.{HasEnded}
use Rattle.dmi_grants.specs.Made.{HasSpent, IsMade, added}
use Rattle.dmi_grants.specs.Revoking.{HasRevoked, IsEntryFor, IsRevoking, RevokingCanPay, RevokingGoesOn, RevokingIsTold, one_if}
use Rattle.dmi_grants.proofs.Endings.{ended_both, ended_none, returned, tickets_left, told_in}
use Rattle.dmi_grants.proofs.Known.{known_more, told_more}

-- an invalidation that was told is under way
pub begins : (frame : Frame Plan) (m first last position : ℕ) (txn : TxnId) (time : ℕ) (note back : View Content Plan) (before after : Purse) (o : Option ℕ) (reply : RegionReply) → o ≡ Some position → IsMade frame m (Invalidate txn time first last) note back o reply → HasSpent m (added o) before after
    → IsRevoking frame (record { memory = m; first = first; last = last; position = position; txn = txn; at = time }) note back before after
begins frame m first last position txn time note back before after o reply is made paid = record {
  told = back;
  made = subst (λ (x : Option ℕ). IsMade frame m (Invalidate txn time first last) note back x InvalidatedReply) is (subst (IsMade frame m (Invalidate txn time first last) note back o) made.answer made);
  rest = after;
  paid = subst (λ (x : Option ℕ). HasSpent m (added x) before after) is paid;
  own = [];
  ended = ended_none frame m txn time first last position back back after (λ e has. has);
}

-- more closings were added
pub revokes_more : (frame : Frame Plan) (r : Revocation) (before now later : View Content Plan) (start left after : Purse) (own : List Written) → IsRevoking frame r before now start left
    → HasEnded frame r.memory r.txn r.at r.first r.last r.position own now later left after → IsRevoking frame r before later start after
revokes_more frame r before now later start left after own is more = record {
  told = is.told;
  made = is.made;
  rest = is.rest;
  paid = is.paid;
  own = is.own ++ own;
  ended = ended_both frame r.memory r.txn r.at r.first r.last r.position is.own own is.told now later is.rest left after is.ended more;
}

pub revoking_goes_on : RevokingGoesOn
revoking_goes_on frame r before now later start left is knew = revokes_more frame r before now later start left left [] is (ended_none frame r.memory r.txn r.at r.first r.last r.position now later left knew)

pub revoking_is_told : RevokingIsTold
revoking_is_told frame r before now start left is = (
  λ e has. is.ended.keeps e (is.made.enters.knew e has),
  told_more (written_at r.memory is.told.known) (written_at r.memory now.known) r.first r.last r.position (known_more r.memory is.told.known now.known is.ended.keeps)
      (told_in frame r.memory r.txn r.at r.first r.last r.position before is.told _ is.made),
)

pub revoking_can_pay : RevokingCanPay
revoking_can_pay frame r before now start left enough is =
    let begun = tickets_left frame r.memory before is.told start is.rest is.made.enters.knew is.paid enough in
    let less = is.ended.fewer in
    let spent = is.ended.wallet.here in
    omega arith

-- none was left to close
pub has_revoked : (frame : Frame Plan) (r : Revocation) (before now back : View Content Plan) (start left : Purse) → r.memory < length frame.world.platform.memories → IsRevoking frame r before now start left
    → (o : Option ℕ) → o ≡ None → IsMade frame r.memory (Overlapping 0 r.first r.last r.position) now back None (OverlappingReply o) → HasRevoked frame r before back start left
has_revoked frame r before now back start left there is o none look = returned frame r.memory r.txn r.at r.first r.last r.position before is.told back start is.rest left there is.made is.paid
    (record { own = is.own; looked = now; ended = is.ended; last_look = subst (λ (x : Option ℕ). IsMade frame r.memory (Overlapping 0 r.first r.last r.position) now back None (OverlappingReply x)) none look })

module _ (frame : Frame Plan) (m : ℕ) (there : m < length frame.world.platform.memories) where
  -- a call has made its entry, past all that stood below what the note had seen
  pub entry_made : (call : RegionCall) (note back : View Content Plan) (position : ℕ) (reply : RegionReply) (known : List (Entry Content)) (made : IsMade frame m call note back (Some position) reply) → StandBelow known note.seen
      → HasNew (IsEntryFor frame.world m (content_of made.memory call).txn (content_of made.memory call).time (content_of made.memory call).what) known back.known
  entry_made call note back position reply known made below =
      let w : Written = wrote position (content_of made.memory call) in
      let after : Has (entries_of (after_call made.memory position call)) w = subst (λ (l : List Written). Has l w) (sym made.enters.log) (has_right (entries_of made.memory) (w ∷ []) w (0, refl)) in
      record {
        entry = placed m w;
        has = made.enters.knows (placed m w) (has_mapped (placed m) (entries_of (after_call made.memory position call)) w after);
        past = λ e has. let under = below e has in let late = made.enters.late.0 in omega arith;
        is = record { there = there; object = sym (memory_number frame.world.platform m there); of = refl; at = refl; says = refl };
      }

  -- a gate was closed by it
  pub closing_made : (txn : TxnId) (time gate : ℕ) (note back : View Content Plan) (position : Option ℕ) (reply : RegionReply) (known : List (Entry Content)) → IsSome position → IsMade frame m (Close txn time gate) note back position reply → StandBelow known note.seen
      → HasNew (IsEntryFor frame.world m txn time (Closed gate)) known back.known
  closing_made txn time gate note back None reply known some made below = absurd (cc (some))
  closing_made txn time gate note back (Some position) reply known some made below = entry_made (Close txn time gate) note back position reply known made below

  -- an invalidation was told by it
  pub telling_made : (txn : TxnId) (time first last position : ℕ) (note back : View Content Plan) (o : Option ℕ) (reply : RegionReply) → o ≡ Some position → IsMade frame m (Invalidate txn time first last) note back o reply → StandBelow note.known note.seen
      → HasNew (IsEntryFor frame.world m txn time (Invalidated first last)) note.known back.known
  telling_made txn time first last position note back o reply is made below =
      entry_made (Invalidate txn time first last) note back position reply note.known (subst (λ (x : Option ℕ). IsMade frame m (Invalidate txn time first last) note back x reply) is made) below

-- what is new past what was known later is new past what was known before
pub new_before : (P : Entry Content → Type 0) (xs ys back : List (Entry Content)) → Within xs ys → HasNew P ys back → HasNew P xs back
new_before P xs ys back more n = record { entry = n.entry; has = n.has; past = λ e has. n.past e (more e has); is = n.is }

-- what is one of these is one of those
pub new_as : (P Q : Entry Content → Type 0) (xs back : List (Entry Content)) → ((e : Entry Content) → P e → Q e) → HasNew P xs back → HasNew Q xs back
new_as P Q xs back is n = record { entry = n.entry; has = n.has; past = n.past; is = is n.entry n.is }

-- an entry of an initiator's transaction is one of the initiator's
pub access_by : (p : Plan) (m : ℕ) (txn : TxnId) (time : ℕ) (what : What) (e : Entry Content) → IsEntryFor p m txn time what e → IsAccessOf p txn.initiator e
access_by p m txn time what e is = record { memory = m; there = is.there; object = is.object; own = ap (λ (x : TxnId). x.initiator) is.of }

-- a ticket is spent where an entry was added
pub spent_if : (m : ℕ) (o : Option ℕ) (own : Bool) (before after : Purse) → own ≡ is_some o → HasSpent m (added o) before after → HasSpent m (one_if own) before after
spent_if m None own before after is spent = subst (λ (b : Bool). HasSpent m (one_if b) before after) (sym is) spent
spent_if m (Some position) own before after is spent = subst (λ (b : Bool). HasSpent m (one_if b) before after) (sym is) spent
