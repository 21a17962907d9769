-- What a call owes and keeps.
use Rattle.std.proofs.Common.{◌≡◌, ℕ, ◌+◌, ◌<◌, ◌≤◌, Bool, true, false, Option, Some, None, List, [], ◌∷◌, ◌++◌, map, length, sym, ap, ◌∙◌, subst, ⊎_elim, arith, append-nil, length-append}
use Rattle.std.specs.Prelude.{MatchOption, IfSome}
use Rattle.std.specs.Option.{unwrap_or}
use Rattle.atomic_table.specs.Seated.{TableId}
use Rattle.view_lists.specs.Lists.{Has, Within}
use Rattle.view_lists.proofs.Members.{has_left, has_right, has_either}
use Rattle.one_history.specs.declared.entry.Entry.{Entry}
use Rattle.one_history.specs.declared.view.Frame.{Frame}
use Rattle.one_history.specs.declared.view.View.{View}
use Rattle.one_history.specs.Moves.{own_of}
use Rattle.token_book.specs.Account.{Account, out_of}
use Rattle.tlm_types.specs.declared.words.TxnId.{TxnId}
use Rattle.tlm_types.specs.declared.entry.Content.{Content}
use Rattle.shared_object.specs.Written.{Built, Written, MayWrite, own_number, wrote, placed}
use Rattle.shared_object.specs.Standing.{Numbered, place, IsBuiltFor, AreVouched, IsBook}
use Rattle.shared_object.specs.Steps.{addition}

module _ {O G M : Type 0} (builds : G → ℕ → Built M → Type 0) (built : O → Built M) (frame : Frame G) (tokens : TableId) where
  -- an object that is built as before may stand where it stood
  pub built_for : (x n : Numbered O) (o : O) → x ≡ n → built o ≡ built x.object → IsBuiltFor builds (place frame tokens x.number (own_number (built x.object).object)) (built x.object) → IsBuiltFor builds (place frame tokens n.number (own_number (built n.object).object)) (built o)
  built_for x n o is same h =
      let there = subst (λ (y : Numbered O). IsBuiltFor builds (place frame tokens y.number (own_number (built y.object).object)) (built y.object)) is h in
      subst (λ (b : Built M). IsBuiltFor builds (place frame tokens n.number (own_number (built n.object).object)) b) (sym (same ∙ ap (λ (y : Numbered O). built y.object) is)) there

  -- its numbers are those that it had
  pub built_again : (number after : ℕ) (b c : Built M) → after ≡ number → c ≡ b → IsBuiltFor builds (place frame tokens number (own_number b.object)) b → IsBuiltFor builds (place frame tokens after (own_number c.object)) c
  built_again number after b c is same h =
      subst (λ (n : ℕ). IsBuiltFor builds (place frame tokens n (own_number c.object)) c) (sym is) (subst (λ (x : Built M). IsBuiltFor builds (place frame tokens number (own_number x.object)) x) (sym same) h)

module _ {G : Type 0} (backs : G → List (Entry Content) → Entry Content → Type 0) (grows : (world : G) (xs ys : List (Entry Content)) (e : Entry Content) → Within xs ys → backs world xs e → backs world ys e) where
  -- what the log and the note back, the seat backs
  pub backed_by : (world : G) (number : ℕ) (entries : List Written) (j : View Content G) (known : List (Entry Content)) (e : Entry Content) → own_of j ≡ map (placed number) entries → Within (own_of j) j.known → Within known j.known → backs world (map (placed number) entries ++ known) e → backs world j.known e
  backed_by world number entries j known e own knows knew h = grows world (map (placed number) entries ++ known) j.known e
      (λ x has. ⊎_elim
      (λ (a : Has (map (placed number) entries) x). knows x (subst (λ (l : List (Entry Content)). Has l x) (sym own) a))
      (λ (b : Has known x). knew x b)
      (has_either (map (placed number) entries) known x has))
      h

module _ {I : Type 0} (vouches : TxnId → I → List (Entry Content) → Type 0) (more : (txn : TxnId) (item : I) (xs ys : List (Entry Content)) → Within xs ys → vouches txn item xs → vouches txn item ys) where
  -- what vouches for the items before a call vouches for those after it
  pub vouched_after : (kept brought after given : List (TxnId × I)) (seat note known : List (Entry Content)) → AreVouched vouches kept seat → AreVouched vouches brought note → Within seat known → Within note known → Within (after ++ given) (kept ++ brought) → AreVouched vouches (after ++ given) known
  vouched_after kept brought after given seat note known by_seat by_note seat_knew note_knew from x has = ⊎_elim
      (λ (a : Has kept x). more x.0 x.1 seat known seat_knew (by_seat x a))
      (λ (b : Has brought x). more x.0 x.1 note known note_knew (by_note x b))
      (has_either kept brought x (from x has))

  pub vouched_left : (after given : List (TxnId × I)) (known : List (Entry Content)) → AreVouched vouches (after ++ given) known → AreVouched vouches after known
  vouched_left after given known h x has = h x (has_left after given x has)

  pub vouched_right : (after given : List (TxnId × I)) (known : List (Entry Content)) → AreVouched vouches (after ++ given) known → AreVouched vouches given known
  vouched_right after given known h x has = h x (has_right after given x has)

module _ (admitted : Bool) where
  -- what the log has after a call
  pub log_is : (before after : List Written) (content : Content) (position : Option ℕ) (at : ℕ) → at ≡ unwrap_or position 0 → MatchOption position (admitted ≡ false) (λ _. admitted ≡ true) → (admitted ≡ true → after ≡ before ++ wrote at content ∷ []) → (admitted ≡ false → after ≡ before) → after ≡ before ++ addition position content
  log_is before after content None at is when some_added none_added = none_added when ∙ sym (append-nil before)
  log_is before after content (Some p) at is when some_added none_added = some_added when ∙ ap (λ (n : ℕ). before ++ wrote n content ∷ []) is

  -- the room that is left goes with the log
  pub room_is : (before after : List Written) (content : Content) (room room' : ℕ) (position : Option ℕ) → MatchOption position (admitted ≡ false) (λ _. admitted ≡ true) → after ≡ before ++ addition position content → (admitted ≡ true → room' + 1 ≡ room) → (admitted ≡ false → room' ≡ room) → length after + room' ≡ length before + room
  room_is before after content room room' None when log some_left none_left = let l = ap length log ∙ length-append before [] in let r = none_left when in omega arith
  room_is before after content room room' (Some p) when log some_left none_left = let l = ap length log ∙ length-append before (wrote p content ∷ []) in let r = some_left when in omega arith

  -- an entry may be written where its ticket was retired
  pub may_write : (before : List Written) (room bytes cost : ℕ) (out out' out1 out1' : ℕ) (position : Option ℕ) (at : ℕ) → at ≡ unwrap_or position 0 → MatchOption position (admitted ≡ false) (λ _. admitted ≡ true) → IfSome position (λ p. p < 1000000) → IfSome position (λ p. (x : Written) → Has before x → x.position < p)
      → IfSome position (λ _. (out' + 1 ≡ out) × (out1' + cost ≤ out1)) → out ≡ room → out1 ≤ bytes → admitted ≡ true → MayWrite before room bytes at cost
  may_write before room bytes cost out out' out1 out1' None at is when low past retired entries fit told = absurd (cc (told, when))
  may_write before room bytes cost out out' out1 out1' (Some p) at is when low past retired entries fit told =
      let a = retired.0 in let b = retired.1 in
      subst (λ (n : ℕ). MayWrite before room bytes n cost) (sym is) (record { below = low; past = past; room = omega arith; fit = omega arith })

  -- the book goes with the room
  pub kept_book : (tokens : TableId) (number number' room room' bytes bytes' cost : ℕ) (b c : Account) (position : Option ℕ) → MatchOption position (admitted ≡ false) (λ _. admitted ≡ true) → MatchOption position (c.out ≡ b.out) (λ _. (out_of 0 c.out + 1 ≡ out_of 0 b.out) × (out_of 1 c.out + cost ≤ out_of 1 b.out))
      → c.table ≡ b.table → c.owner ≡ number' → (admitted ≡ true → room' + 1 ≡ room) → (admitted ≡ false → (room' ≡ room) × (bytes' ≡ bytes)) → (admitted ≡ true → bytes ≤ bytes' + cost) → IsBook tokens number room bytes b → IsBook tokens number' room' bytes' c
  kept_book tokens number number' room room' bytes bytes' cost b c None when retired table owner some_left none_left some_fit h =
      let n = none_left when in
      let o = h.out in
      let f = h.fit in
      let z = ap (λ (l : List (ℕ × ℕ)). out_of 0 l) retired in
      let u = ap (λ (l : List (ℕ × ℕ)). out_of 1 l) retired in
      let n0 = n.0 in let n1 = n.1 in
      record { of = table ∙ h.of; owner = owner; out = omega arith; fit = omega arith }
  kept_book tokens number number' room room' bytes bytes' cost b c (Some p) when retired table owner some_left none_left some_fit h =
      let l = some_left when in
      let m = some_fit when in
      let o = h.out in
      let f = h.fit in
      let z = retired.0 in
      let u = retired.1 in
      record { of = table ∙ h.of; owner = owner; out = omega arith; fit = omega arith }

-- what stands where a position is
pub some_of : (P : Type 0) (Q : ℕ → Type 0) (position : Option ℕ) → MatchOption position P Q → IfSome position Q
some_of P Q None h = tt
some_of P Q (Some p) h = h

-- where a ticket is out, fewer entries stand than were planned
pub left_planned : (n before after planned : ℕ) → n + before ≡ planned → after + 1 ≡ before → n < planned
left_planned n before after planned all one = omega arith
