-- The lines of entries, put together from their parts.
use Rattle.std.proofs.Common.{◌≡◌, ℕ, zero, suc, ◌+◌, ◌<◌, List, [], ◌∷◌, ◌++◌, length, take, map, Option, Some, None, Bool, true, false, cond, refl, ap, sym, ◌∙◌, arith, append_assoc}
use Rattle.std.specs.Prelude.{◌≢◌, codes, is_some, option_and_then, slice_get, if◌then◌else◌}
use Rattle.std.specs.Fmt.{decimal}
use Rattle.std.specs.List.{join_with_byte}
use Rattle.std.proofs.lemmas.List.{map-append}
use Rattle.std.proofs.lemmas.List.Elements.{filter-append}
use Rattle.tlm_types.specs.declared.words.Command.{Command}
use Rattle.tlm_types.specs.declared.words.Command.TheVariants.{Read, Write, Ignore, FetchAdd}
use Rattle.tlm_types.specs.declared.words.ObjectNo.TheVariants.{Memory as memory_object}
use Rattle.tlm_types.specs.declared.words.TlmSync.{TlmSync}
use Rattle.tlm_types.specs.declared.words.TlmSync.TheVariants.{Accepted, Updated, Completed}
use Rattle.tlm_types.specs.declared.entry.Entry.{Entry}
use Rattle.tlm_types.specs.declared.entry.Facts.{Facts}
use Rattle.tlm_types.specs.declared.entry.What.{What}
use Rattle.tlm_types.specs.declared.entry.What.TheVariants.{Access as Accessed, Granted, Invalidated, Closed, Call, Take, Acquire, Release}
use Rattle.tlm_types.specs.Entries.{enables_of, facts_of, got_of, head_of, plain_of, sent_of}
use Rattle.tlm_model.specs.declared.platform.Platform.{Platform}
use Rattle.tlm_model.specs.declared.trace.Trace.{Trace}
use Rattle.tlm_model.specs.declared.trace.Trace.TheVariants.{All, Accesses, None as no_entries}
use Rattle.report_model.specs.Report.{bytes_word, command_word, entry_words, freed_words, has_operand, initiator_name, kind_word, memory_name, object_word, operand_text, phase_word, range_word, shown_by, status_word, sync_words, traced, txn_word, way_word, what_words}
use Rattle.tlm_types.specs.Entries.{is_access}
use Rattle.tlm_model.specs.Text.{address_word, data_word, line_of}
use Rattle.line_text.specs.EventText.{freed_text}
use Rattle.line_text.specs.Pieces.{asked_text, status_text, unmasked_text, width_text}
use Rattle.trace_print.specs.Hops.{front_of}
use Rattle.trace_print.specs.Told.{access_words, operand_at, shown_at, shown_of, text_of}
use Rattle.trace_print.proofs.TextLemmas.{access-line, head-front}
pub use Rattle.trace_print.proofs.Texts.{text-append, text-one}

traced-append : (t : Trace) (a b : List Entry) → traced t (a ++ b) ≡ traced t a ++ traced t b
traced-append All a b = refl
traced-append Accesses a b = filter-append (λ (e : Entry). is_access e.what) a b
traced-append no_entries a b = refl

-- no entry
pub traced-nothing : (p : Platform) (t : Trace) → [] ≡ text_of (map (entry_words p) (traced t []))
traced-nothing p All = refl
traced-nothing p Accesses = refl
traced-nothing p no_entries = refl

-- one more entry
pub entries-more : (p : Platform) (t : Trace) (a : List Entry) (e : Entry) →
    text_of (map (entry_words p) (traced t (a ++ e ∷ []))) ≡ text_of (map (entry_words p) (traced t a)) ++ text_of (map (entry_words p) (traced t (e ∷ [])))
entries-more p t a e =
    ap (λ (l : List Entry). text_of (map (entry_words p) l)) (traced-append t a (e ∷ []))
    ∙ (ap text_of (map-append (entry_words p) (traced t a) (traced t (e ∷ []))) ∙ text-append (map (entry_words p) (traced t a)) (map (entry_words p) (traced t (e ∷ []))))

-- words in front of other words
pub join-append : (w v : List ℕ) (ws vs : List (List ℕ)) → join_with_byte 32 (w ∷ ws) ++ (codes " " ++ join_with_byte 32 (v ∷ vs)) ≡ join_with_byte 32 (w ∷ (ws ++ v ∷ vs))
join-append w v [] vs = refl
join-append w v (u ∷ ws) vs =
    append_assoc w (32 ∷ join_with_byte 32 (u ∷ ws)) (codes " " ++ join_with_byte 32 (v ∷ vs))
    ∙ ap (λ (l : List ℕ). w ++ (32 ∷ l)) (join-append u v ws vs)

-- the line of an entry: its head with a space, what it was, and a line feed
pub line-is : (p t n o v : List ℕ) (vs : List (List ℕ)) →
    (join_with_byte 32 (p ∷ t ∷ n ∷ o ∷ []) ++ codes " ") ++ (join_with_byte 32 (v ∷ vs) ++ (10 ∷ [])) ≡ line_of (p ∷ t ∷ n ∷ o ∷ v ∷ vs)
line-is p t n o v vs =
    append_assoc (join_with_byte 32 (p ∷ t ∷ n ∷ o ∷ [])) (codes " ") (join_with_byte 32 (v ∷ vs) ++ (10 ∷ []))
    ∙ (sym (append_assoc (join_with_byte 32 (p ∷ t ∷ n ∷ o ∷ [])) (codes " " ++ join_with_byte 32 (v ∷ vs)) (10 ∷ []))
    ∙ ap (λ (l : List ℕ). l ++ (10 ∷ [])) (join-append p v (t ∷ n ∷ o ∷ []) vs))

-- the same, whatever happened
pub entry-line-is : (p t n o : List ℕ) (w : What) →
    (join_with_byte 32 (p ∷ t ∷ n ∷ o ∷ []) ++ codes " ") ++ (join_with_byte 32 (what_words w) ++ (10 ∷ [])) ≡ line_of (p ∷ t ∷ n ∷ o ∷ what_words w)
entry-line-is p t n o (Accessed way a status got) =
    line-is p t n o (way_word way) (command_word a.command ∷ address_word a.offset ∷ decimal a.length ∷ (codes "be=" ++ data_word a.enables) ∷
    (codes "sw=" ++ decimal a.width) ∷ bytes_word a.command a got ∷ status_word status ∷ [])
entry-line-is p t n o (Granted g f l k) = line-is p t n o (codes "granted") (decimal g ∷ range_word f l ∷ kind_word k ∷ [])
entry-line-is p t n o (Invalidated f l) = line-is p t n o (codes "invalidated") (range_word f l ∷ [])
entry-line-is p t n o (Closed g) = line-is p t n o (codes "closed") (decimal g ∷ [])
entry-line-is p t n o (Call f a) = line-is p t n o (phase_word f) (sync_words a)
entry-line-is p t n o (Take s) = line-is p t n o (codes "take") (decimal s ∷ [])
entry-line-is p t n o (Acquire s) = line-is p t n o (codes "acquire") (decimal s ∷ [])
entry-line-is p t n o (Release s f) = line-is p t n o (codes "release") (decimal s ∷ freed_words f)

-- the same, where the space stands in front of what happened
pub entry-text-is : (p t n o : List ℕ) (w : What) →
    join_with_byte 32 (p ∷ t ∷ n ∷ o ∷ []) ++ (codes " " ++ line_of (what_words w)) ≡ line_of (p ∷ t ∷ n ∷ o ∷ what_words w)
entry-text-is p t n o w =
    sym (append_assoc (join_with_byte 32 (p ∷ t ∷ n ∷ o ∷ [])) (codes " ") (line_of (what_words w))) ∙ entry-line-is p t n o w

-- the words of a call
pub call-words : (w : List ℕ) (a : TlmSync) → w ++ (codes " " ++ join_with_byte 32 (sync_words a)) ≡ join_with_byte 32 (w ∷ sync_words a)
call-words w Accepted = refl
call-words w (Updated f) = refl
call-words w Completed = refl

-- the same from the space before them to the end of the line
pub call-line : (w : List ℕ) (a : TlmSync) → (codes " " ++ w) ++ (codes " " ++ line_of (sync_words a)) ≡ codes " " ++ line_of (w ∷ sync_words a)
call-line w Accepted = ap (λ (l : List ℕ). 32 ∷ l) (sym (append_assoc w (codes " ACCEPTED") (codes "\n")))
call-line w (Updated f) = ap (λ (l : List ℕ). 32 ∷ l) (sym (append_assoc w (codes " UPDATED " ++ phase_word f) (codes "\n")))
call-line w Completed = ap (λ (l : List ℕ). 32 ∷ l) (sym (append_assoc w (codes " COMPLETED") (codes "\n")))

-- the words of a release, with what stands behind its slot
pub release-line : (s : List ℕ) (f : Bool) → (codes " release " ++ s) ++ freed_text f ≡ codes " " ++ line_of (codes "release" ∷ s ∷ freed_words f)
release-line s true = ap (λ (l : List ℕ). codes " release " ++ l) (sym (append_assoc s (codes " freed") (codes "\n")))
release-line s false = refl

-- an access is told by its plain parts, its enables and the bytes that it shows
pub access-is : (w : What) (f : Facts) (enables operand shown : List ℕ) → facts_of w ≡ Some f → enables_of w ≡ Some enables → operand_at w ≡ Some operand → shown_at w ≡ Some shown → access_words f enables operand shown ≡ what_words w
access-is (Accessed way a status got) f enables operand shown ef ee eo es =
    let facts : f ≡ record { way = way; command = a.command; offset = a.offset; length = a.length; width = a.width; status = status } = cc in
    let here : enables ≡ a.enables = cc in
    let before : operand ≡ operand_text a.command a.sent = cc in
    let bytes : shown ≡ shown_by a.command a got = cc in
    rw (facts, here, before, bytes) refl
access-is (Granted g f l k) facts enables operand shown ef ee eo es = cc
access-is (Invalidated f l) facts enables operand shown ef ee eo es = cc
access-is (Closed g) facts enables operand shown ef ee eo es = cc
access-is (Call f a) facts enables operand shown ef ee eo es = cc
access-is (Take s) facts enables operand shown ef ee eo es = cc
access-is (Acquire s) facts enables operand shown ef ee eo es = cc
access-is (Release s f) facts enables operand shown ef ee eo es = cc

-- the line of an entry, from its front, its object and what it was
pub parts-text-is : (p : Platform) (e : Entry) (object : List ℕ) (w : What) → object ≡ object_word p e.object → w ≡ e.what →
    front_of p (head_of e) ++ (object ++ (codes " " ++ line_of (what_words w))) ≡ line_of (entry_words p e)
parts-text-is p e object w at what =
    head-front (decimal e.position) (decimal e.time) (initiator_name p e.txn.initiator) (codes ".") (decimal e.txn.seq) object (codes " ") (codes " " ++ line_of (what_words w))
    ∙ (entry-text-is (decimal e.position) (decimal e.time) (txn_word p e.txn) object w
    ∙ (ap (λ (o : List ℕ). line_of (decimal e.position ∷ decimal e.time ∷ txn_word p e.txn ∷ o ∷ what_words w)) at
    ∙ ap (λ (v : What). line_of (decimal e.position ∷ decimal e.time ∷ txn_word p e.txn ∷ object_word p e.object ∷ what_words v)) what))

-- the line of an access at a memory, from its parts, where no byte is masked
pub access-text-is : (p : Platform) (e : Entry) (memory : ℕ) (f : Facts) (enables shown : List ℕ) → e.object ≡ memory_object memory → facts_of e.what ≡ Some f → enables_of e.what ≡ Some enables → operand_at e.what ≡ Some [] → shown_at e.what ≡ Some shown → codes "-" ≡ data_word enables →
    front_of p (head_of e) ++ (memory_name p memory ++ (unmasked_text f ++ (data_word shown ++ status_text f.status))) ≡ line_of (entry_words p e)
access-text-is p e memory f enables shown at facts masks alone bytes none =
    let behind = unmasked_text f ++ (data_word shown ++ status_text f.status) in
    let words = access-is e.what f enables [] shown facts masks alone bytes in
    let told : behind ≡ codes " " ++ line_of (what_words e.what) =
    ap (λ (dash : List ℕ). (asked_text f ++ (dash ++ width_text f.width)) ++ (data_word shown ++ status_text f.status)) none
    ∙ (access-line (way_word f.way) (codes " ") (command_word f.command) (address_word f.offset) (decimal f.length) (codes "be=") (data_word enables) (codes "sw=") (decimal f.width) (data_word shown) (status_word f.status) (codes "\n")
    ∙ ap (λ (ws : List (List ℕ)). codes " " ++ line_of ws) words) in
    ap (λ (l : List ℕ). front_of p (head_of e) ++ (memory_name p memory ++ l)) told
    ∙ parts-text-is p e (memory_name p memory) e.what (ap (object_word p) (sym at)) refl

pub has-facts : (w : What) → is_some (facts_of w) ≡ is_access w
has-facts (Accessed way a status got) = refl
has-facts (Granted g f l k) = refl
has-facts (Invalidated f l) = refl
has-facts (Closed g) = refl
has-facts (Call f a) = refl
has-facts (Take s) = refl
has-facts (Acquire s) = refl
has-facts (Release s f) = refl

-- what isn't kept as an access is as it happened
pub plain-is : (w v : What) → plain_of w ≡ Some v → (v ≡ w) × (is_access v ≡ false)
plain-is (Accessed way a status got) v e = cc
plain-is (Granted g f l k) v e = let same : v ≡ Granted g f l k = cc in (same, rw same refl)
plain-is (Invalidated f l) v e = let same : v ≡ Invalidated f l = cc in (same, rw same refl)
plain-is (Closed g) v e = let same : v ≡ Closed g = cc in (same, rw same refl)
plain-is (Call f a) v e = let same : v ≡ Call f a = cc in (same, rw same refl)
plain-is (Take s) v e = let same : v ≡ Take s = cc in (same, rw same refl)
plain-is (Acquire s) v e = let same : v ≡ Acquire s = cc in (same, rw same refl)
plain-is (Release s f) v e = let same : v ≡ Release s f = cc in (same, rw same refl)

some-same : {X : Type 0} (x y : X) → Some x ≡ Some y → x ≡ y
some-same x y e = cc

-- the bytes that a read shows are those that it got
pub shown-read : (w : What) (f : Facts) (got : List ℕ) → facts_of w ≡ Some f → f.command ≡ Read → got_of w ≡ Some got → shown_at w ≡ Some got
shown-read (Accessed way a status g) f got ef ec eg = let c : a.command ≡ Read = ap (λ (r : Facts). r.command) (some-same _ f ef) ∙ ec in let b : g ≡ got = cc in rw (c, b) refl
shown-read (Granted g x l k) f got ef ec eg = cc
shown-read (Invalidated x l) f got ef ec eg = cc
shown-read (Closed g) f got ef ec eg = cc
shown-read (Call x a) f got ef ec eg = cc
shown-read (Take s) f got ef ec eg = cc
shown-read (Acquire s) f got ef ec eg = cc
shown-read (Release s x) f got ef ec eg = cc

-- those that a write shows are those that it sent
pub shown-write : (w : What) (f : Facts) (sent : List ℕ) → facts_of w ≡ Some f → f.command ≡ Write → sent_of w ≡ Some sent → shown_at w ≡ Some sent
shown-write (Accessed way a status g) f sent ef ec es = let c : a.command ≡ Write = ap (λ (r : Facts). r.command) (some-same _ f ef) ∙ ec in let b : a.sent ≡ sent = cc in rw (c, b) refl
shown-write (Granted g x l k) f sent ef ec es = cc
shown-write (Invalidated x l) f sent ef ec es = cc
shown-write (Closed g) f sent ef ec es = cc
shown-write (Call x a) f sent ef ec es = cc
shown-write (Take s) f sent ef ec es = cc
shown-write (Acquire s) f sent ef ec es = cc
shown-write (Release s x) f sent ef ec es = cc

-- and an ignore shows none
pub shown-ignore : (w : What) (f : Facts) → facts_of w ≡ Some f → f.command ≡ Ignore → shown_at w ≡ Some []
shown-ignore (Accessed way a status g) f ef ec = let c : a.command ≡ Ignore = ap (λ (r : Facts). r.command) (some-same _ f ef) ∙ ec in rw c refl
shown-ignore (Granted g x l k) f ef ec = cc
shown-ignore (Invalidated x l) f ef ec = cc
shown-ignore (Closed g) f ef ec = cc
shown-ignore (Call x a) f ef ec = cc
shown-ignore (Take s) f ef ec = cc
shown-ignore (Acquire s) f ef ec = cc
shown-ignore (Release s x) f ef ec = cc

pub shown-fetch : (w : What) (f : Facts) (got : List ℕ) → facts_of w ≡ Some f → f.command ≡ FetchAdd → got_of w ≡ Some got → shown_at w ≡ Some got
shown-fetch (Accessed way a status g) f got ef ec eg = let c : a.command ≡ FetchAdd = ap (λ (r : Facts). r.command) (some-same _ f ef) ∙ ec in let b : g ≡ got = cc in rw (c, b) refl
shown-fetch (Granted g x l k) f got ef ec eg = cc
shown-fetch (Invalidated x l) f got ef ec eg = cc
shown-fetch (Closed g) f got ef ec eg = cc
shown-fetch (Call x a) f got ef ec eg = cc
shown-fetch (Take s) f got ef ec eg = cc
shown-fetch (Acquire s) f got ef ec eg = cc
shown-fetch (Release s x) f got ef ec eg = cc

-- without an operand nothing is printed before the bytes
pub no-operand : (c : Command) (sent : List ℕ) → has_operand c ≡ false → operand_text c sent ≡ []
no-operand c sent none = rw none refl

operand-by : (c d : Command) (x sent : List ℕ) → d ≡ c → (d ≢ Read → x ≡ sent) → operand_text d sent ≡ operand_text c x
operand-by Read d x sent e s = rw e refl
operand-by Write d x sent e s = rw e refl
operand-by Ignore d x sent e s = rw e refl
operand-by FetchAdd d x sent e s =
    let same : x ≡ sent = s (λ r. let no : FetchAdd ≡ Read = sym e ∙ r in cc (no)) in
    rw (e, same) refl

operand-of : (w : What) (f : Facts) (sent : List ℕ) → facts_of w ≡ Some f → (f.command ≢ Read → sent_of w ≡ Some sent) → Some (operand_text f.command sent) ≡ operand_at w
operand-of (Accessed way a status g) f sent ef es =
    let c : f.command ≡ a.command = sym (ap (λ (r : Facts). r.command) (some-same _ f ef)) in
    ap Some (operand-by a.command f.command a.sent sent c (λ r. some-same a.sent sent (es r)))
operand-of (Granted g x l k) f sent ef es = cc
operand-of (Invalidated x l) f sent ef es = cc
operand-of (Closed g) f sent ef es = cc
operand-of (Call x a) f sent ef es = cc
operand-of (Take s) f sent ef es = cc
operand-of (Acquire s) f sent ef es = cc
operand-of (Release s x) f sent ef es = cc

-- the same at a place of a history
pub operand-access-at : (o : Option Entry) (f : Facts) (sent : List ℕ) → option_and_then (λ (e : Entry). facts_of e.what) o ≡ Some f → (f.command ≢ Read → option_and_then (λ (e : Entry). sent_of e.what) o ≡ Some sent) → Some (operand_text f.command sent) ≡ option_and_then (λ (e : Entry). operand_at e.what) o
operand-access-at None f sent facts s = cc
operand-access-at (Some e) f sent facts s = operand-of e.what f sent facts s

pub shown-read-at : (o : Option Entry) (f : Facts) (got : List ℕ) → option_and_then (λ (e : Entry). facts_of e.what) o ≡ Some f → f.command ≡ Read → option_and_then (λ (e : Entry). got_of e.what) o ≡ Some got → Some got ≡ option_and_then (λ (e : Entry). shown_at e.what) o
shown-read-at None f got a c b = cc
shown-read-at (Some e) f got a c b = sym (shown-read e.what f got a c b)

pub shown-write-at : (o : Option Entry) (f : Facts) (sent : List ℕ) → option_and_then (λ (e : Entry). facts_of e.what) o ≡ Some f → f.command ≡ Write → option_and_then (λ (e : Entry). sent_of e.what) o ≡ Some sent → Some sent ≡ option_and_then (λ (e : Entry). shown_at e.what) o
shown-write-at None f sent a c b = cc
shown-write-at (Some e) f sent a c b = sym (shown-write e.what f sent a c b)

pub shown-ignore-at : (o : Option Entry) (f : Facts) → option_and_then (λ (e : Entry). facts_of e.what) o ≡ Some f → f.command ≡ Ignore → Some [] ≡ option_and_then (λ (e : Entry). shown_at e.what) o
shown-ignore-at None f a c = cc
shown-ignore-at (Some e) f a c = sym (shown-ignore e.what f a c)

pub shown-fetch-at : (o : Option Entry) (f : Facts) (got : List ℕ) → option_and_then (λ (e : Entry). facts_of e.what) o ≡ Some f → f.command ≡ FetchAdd → option_and_then (λ (e : Entry). got_of e.what) o ≡ Some got → Some got ≡ option_and_then (λ (e : Entry). shown_at e.what) o
shown-fetch-at None f got a c b = cc
shown-fetch-at (Some e) f got a c b = sym (shown-fetch e.what f got a c b)

shown-by-command : (o : Option Entry) (f : Facts) (sent got : List ℕ) (c : Command) → f.command ≡ c → option_and_then (λ (e : Entry). facts_of e.what) o ≡ Some f → (f.command ≢ Read → option_and_then (λ (e : Entry). sent_of e.what) o ≡ Some sent) →
    option_and_then (λ (e : Entry). got_of e.what) o ≡ Some got → Some (shown_of c sent got) ≡ option_and_then (λ (e : Entry). shown_at e.what) o
shown-by-command o f sent got Read e facts s g = shown-read-at o f got facts e g
shown-by-command o f sent got Write e facts s g = shown-write-at o f sent facts e (s (λ r. let no : Write ≡ Read = sym e ∙ r in cc (no)))
shown-by-command o f sent got Ignore e facts s g = shown-ignore-at o f facts e
shown-by-command o f sent got FetchAdd e facts s g = shown-fetch-at o f got facts e g

pub shown-access-at : (o : Option Entry) (f : Facts) (sent got : List ℕ) → option_and_then (λ (e : Entry). facts_of e.what) o ≡ Some f → (f.command ≢ Read → option_and_then (λ (e : Entry). sent_of e.what) o ≡ Some sent) →
    option_and_then (λ (e : Entry). got_of e.what) o ≡ Some got → Some (shown_of f.command sent got) ≡ option_and_then (λ (e : Entry). shown_at e.what) o
shown-access-at o f sent got facts s g = shown-by-command o f sent got f.command refl facts s g

-- an entry's own facts at its place
pub plain-at : (o : Option Entry) (w : What) → Some w ≡ option_and_then (λ (e : Entry). plain_of e.what) o → is_access w ≡ false
plain-at None w h = cc
plain-at (Some e) w h = (plain-is e.what w (sym h)).1

-- each entry is an access or kept as it happened
pub either-kept : (w : What) → None ≡ facts_of w → None ≡ plain_of w → ⊥
either-kept (Accessed way a status got) f k = cc
either-kept (Granted g x l d) f k = cc
either-kept (Invalidated x l) f k = cc
either-kept (Closed g) f k = cc
either-kept (Call x a) f k = cc
either-kept (Take s) f k = cc
either-kept (Acquire s) f k = cc
either-kept (Release s x) f k = cc

-- the accesses among one entry
pub accesses-one : (e : Entry) (b : Bool) → b ≡ is_some (facts_of e.what) → traced Accesses (e ∷ []) ≡ (if b then e ∷ [] else [])
accesses-one e b h = ap (λ (c : Bool). cond c (e ∷ []) []) (sym (has-facts e.what) ∙ sym h)

-- the line of one entry that is shown, and none of one that isn't
pub shown-one : (p : Platform) (t : Trace) (e : Entry) (b : Bool) → traced t (e ∷ []) ≡ (if b then e ∷ [] else []) → b ≡ true → line_of (entry_words p e) ≡ text_of (map (entry_words p) (traced t (e ∷ [])))
shown-one p t e b h is = rw (h, is) (sym (text-one (entry_words p e)))

pub hidden-one : (p : Platform) (t : Trace) (e : Entry) (b : Bool) → traced t (e ∷ []) ≡ (if b then e ∷ [] else []) → b ≡ false → [] ≡ text_of (map (entry_words p) (traced t (e ∷ [])))
hidden-one p t e b h is = rw (h, is) refl

-- the entry at a place, and those up to it
pub next-entry : (h : List Entry) (i : ℕ) → i < length h → (e : Entry) × (slice_get h i ≡ Some e) × (take (i + 1) h ≡ take i h ++ e ∷ [])
next-entry [] i within = absurd (omega arith)
next-entry (x ∷ xs) zero within = (x, refl, refl)
next-entry (x ∷ xs) (suc i) within =
    let r = next-entry xs i (omega arith) in
    let n : suc i + 1 ≡ suc (i + 1) = omega arith in
    (r.0, r.1, rw n (ap (λ (l : List Entry). x ∷ l) r.2))

-- the lines of the entries up to a place, and of one more
pub entries-next : (p : Platform) (t : Trace) (h : List Entry) (i : ℕ) (e : Entry) → take (i + 1) h ≡ take i h ++ e ∷ [] →
    text_of (map (entry_words p) (traced t (take i h))) ++ text_of (map (entry_words p) (traced t (e ∷ []))) ≡ text_of (map (entry_words p) (traced t (take (i + 1) h)))
entries-next p t h i e more = sym (entries-more p t (take i h) e) ∙ ap (λ (l : List Entry). text_of (map (entry_words p) (traced t l))) (sym more)
