-- Entries with one line are the same.
use Rattle.std.proofs.Common.{◌≡◌, ℕ, ◌<◌, ◌^◌, List, [], ◌∷◌, ◌++◌, length, Option, Some, None, cond, eqb, refl, ap, sym, ◌∙◌, arith, codes}
use Rattle.std.specs.Fmt.{decimal}
use Rattle.std.proofs.lemmas.Fmt.{decimal_injective}
use Rattle.std.proofs.lemmas.List.{append_cancel_right}
use Rattle.tlm_types.specs.declared.words.Command.{Command}
use Rattle.tlm_types.specs.declared.words.Command.TheVariants.{Read, Write, Ignore, FetchAdd}
use Rattle.tlm_types.specs.declared.words.ObjectNo.{ObjectNo}
use Rattle.tlm_types.specs.declared.words.ObjectNo.TheVariants.{Memory as memory_object, Hop, Pool}
use Rattle.tlm_types.specs.declared.words.Way.{Way}
use Rattle.tlm_types.specs.declared.words.Way.TheVariants.{Blocking, FourPhase, Direct, Debug}
use Rattle.tlm_types.specs.declared.words.Phase.TheVariants.{BeginReq, EndReq, BeginResp, EndResp}
use Rattle.tlm_types.specs.declared.entry.Access.{Access}
use Rattle.tlm_types.specs.declared.entry.Entry.{Entry}
use Rattle.tlm_types.specs.declared.entry.What.{What}
use Rattle.tlm_types.specs.declared.entry.What.TheVariants.{Access as Accessed, Granted, Invalidated, Closed, Call, Take, Acquire, Release}
use Rattle.tlm_types.specs.Entries.{read_sends}
use Rattle.tlm_model.specs.declared.platform.Platform.{Platform}
use Rattle.tlm_model.specs.declared.platform.Target.{Target}
use Rattle.tlm_model.specs.declared.platform.Target.TheVariants.{Router as to_router, Memory as to_memory}
use Rattle.report_model.specs.Report.{command_word, entry_words, freed_words, hop_words, initiator_name, kind_word, memory_name, object_word, operand_in, operand_text, phase_word, range_word, shown_by, status_word, sync_words, target_name, txn_word, way_word, what_words}
use Rattle.tlm_model.specs.Text.{address_word, data_word}
use Rattle.route_plan.specs.declared.ends.HopEnds.{HopEnds}
use Rattle.route_plan.specs.declared.ends.Up.{Up}
use Rattle.route_plan.specs.declared.ends.Up.TheVariants.{Initiator, Router}
use Rattle.trace_print.specs.Hops.{ends_at, object_word_by, up_name}
use Rattle.trace_print.specs.Naming.{AreUsual, HasNumbers, HasOwnNames, HasPlainNames, HasUsualBytes, IsObject, IsTellable, IsVisible, NamesEntries}
use Rattle.trace_print.proofs.HopLemmas.{hop-parts, object-is}
use Rattle.trace_print.proofs.SameWords.{same-address, same-command, same-data, same-freed, same-kind, same-phase, same-range, same-seq, same-shown, same-status, same-sync, same-way, visible-address, visible-command, visible-data, visible-decimal, visible-freed, visible-kind, visible-operand, visible-phase, visible-range, visible-status, visible-sync, visible-way}
use Rattle.trace_print.proofs.SplitLemmas.{AllVisible, lacks-append, lacks-by-test, lacks-middle, line-same, visible-append, visible-by-test}

what-visible : (w : What) → HasNumbers w → AllVisible (what_words w)
what-visible (Accessed way a status got) n = (
  visible-way way n.0,
  (
    visible-command a.command,
    (
      visible-address a.offset n.1,
      (
        visible-decimal a.length n.2,
        (
          visible-append (codes "be=") (data_word a.enables) (visible-by-test (codes "be=") refl) (visible-data a.enables n.4),
          (
            visible-append (codes "sw=") (decimal a.width) (visible-by-test (codes "sw=") refl) (visible-decimal a.width n.3),
            (
              visible-append (operand_text a.command a.sent) (data_word (shown_by a.command a got)) (visible-operand a.command a.sent n.6) (visible-data (shown_by a.command a got) n.5),
              (visible-status status, tt),
            ),
          ),
        ),
      ),
    ),
  ),
)
what-visible (Granted g f l k) n = (visible-by-test (codes "granted") refl, (visible-decimal g n.0, (visible-range f l n.1 n.2, (visible-kind k, tt))))
what-visible (Invalidated f l) n = (visible-by-test (codes "invalidated") refl, (visible-range f l n.0 n.1, tt))
what-visible (Closed g) n = (visible-by-test (codes "closed") refl, (visible-decimal g n, tt))
what-visible (Call f a) n = (visible-phase f, visible-sync a)
what-visible (Take s) n = (visible-by-test (codes "take") refl, (visible-decimal s n, tt))
what-visible (Acquire s) n = (visible-by-test (codes "acquire") refl, (visible-decimal s n, tt))
what-visible (Release s f) n = (visible-by-test (codes "release") refl, (visible-decimal s n, visible-freed f))

up-visible : (p : Platform) → HasPlainNames p → (u : Up) → IsVisible (up_name p u)
up-visible p names (Initiator i) = let n = names.initiators i in n.0
up-visible p names (Router r w) = let n = names.routers r in n.0

target-visible : (p : Platform) → HasPlainNames p → (t : Target) → IsVisible (target_name p t)
target-visible p names (to_router r) = let n = names.routers r in n.0
target-visible p names (to_memory m) = let n = names.memories m in n.0

object-by-visible : (p : Platform) → HasPlainNames p → (o : ObjectNo) (ends : Option HopEnds) → IsVisible (object_word_by p o ends)
object-by-visible p names (memory_object m) ends = let n = names.memories m in n.0
object-by-visible p names (Hop h) None = tt
object-by-visible p names (Hop h) (Some ends) =
    visible-append (up_name p ends.up) (codes ">" ++ target_name p ends.down) (up-visible p names ends.up)
    (visible-append (codes ">") (target_name p ends.down) (visible-by-test (codes ">") refl) (target-visible p names ends.down))
object-by-visible p names (Pool i) ends = let n = names.initiators i in visible-append (initiator_name p i) (codes ".pool") n.0 (visible-by-test (codes ".pool") refl)

object-visible : (p : Platform) → HasPlainNames p → (o : ObjectNo) → IsVisible (object_word p o)
object-visible p names o = rw (← object-is p o) (object-by-visible p names o (ends_at p o))

txn-visible : (p : Platform) → HasPlainNames p → (e : Entry) → e.txn.seq < 2 ^ 64 → IsVisible (txn_word p e.txn)
txn-visible p names e small =
    let n = names.initiators e.txn.initiator in
    visible-append (initiator_name p e.txn.initiator) (codes "." ++ decimal e.txn.seq) n.0
    (visible-append (codes ".") (decimal e.txn.seq) (visible-by-test (codes ".") refl) (visible-decimal e.txn.seq small))

pub words-visible : (p : Platform) → HasPlainNames p → (e : Entry) → IsTellable p e → AllVisible (entry_words p e)
words-visible p names e t =
    (visible-decimal e.position t.position, (visible-decimal e.time t.time, (txn-visible p names e t.seq, (object-visible p names e.object, what-visible e.what t.numbers))))

-- which kind of entry it is
abbrev kind_of : What → ℕ
kind_of (Accessed way a status got) = 0
kind_of (Granted g f l k) = 1
kind_of (Invalidated f l) = 2
kind_of (Closed g) = 3
kind_of (Call f a) = 4
kind_of (Take s) = 5
kind_of (Acquire s) = 6
kind_of (Release s f) = 7

-- the same by the first letter of its words
abbrev letter : List (List ℕ) → ℕ
letter [] = 0
letter ([] ∷ ws) = 0
letter ((b ∷ bs) ∷ ws) = b

abbrev kind_by : ℕ → ℕ
kind_by b = cond (eqb b 103) 1 (cond (eqb b 105) 2 (cond (eqb b 99) 3 (cond (eqb b 66) 4 (cond (eqb b 69) 4 (cond (eqb b 116) 5 (cond (eqb b 97) 6 (cond (eqb b 114) 7 0)))))))

kind-is : (w : What) → kind_by (letter (what_words w)) ≡ kind_of w
kind-is (Accessed Blocking a status got) = refl
kind-is (Accessed FourPhase a status got) = refl
kind-is (Accessed (Direct g) a status got) = refl
kind-is (Accessed Debug a status got) = refl
kind-is (Granted g f l k) = refl
kind-is (Invalidated f l) = refl
kind-is (Closed g) = refl
kind-is (Call BeginReq a) = refl
kind-is (Call EndReq a) = refl
kind-is (Call BeginResp a) = refl
kind-is (Call EndResp a) = refl
kind-is (Take s) = refl
kind-is (Acquire s) = refl
kind-is (Release s f) = refl

-- the bytes of accesses that show the same bytes
same-bytes : (c d : Command) (way gate : Way) (a b : Access) (got bytes : List ℕ) → c ≡ d → way ≡ gate → a.length ≡ b.length →
    AreUsual c way a got → AreUsual d gate b bytes → operand_in c a.sent ≡ operand_in d b.sent → shown_by c a got ≡ shown_by d b bytes → (a.sent ≡ b.sent) × (got ≡ bytes)
same-bytes Read Read way gate a b got bytes k w n p q o s = let zeros : read_sends way a.length ≡ read_sends gate b.length = λ i. read_sends (w i) (n i) in (p ∙ (zeros ∙ sym q), s)
same-bytes Write Write way gate a b got bytes k w n p q o s = (s, p ∙ sym q)
same-bytes Ignore Ignore way gate a b got bytes k w n p q o s = (p.0 ∙ sym q.0, p.1 ∙ sym q.1)
same-bytes FetchAdd FetchAdd way gate a b got bytes k w n p q o s = (o, s)
same-bytes c d way gate a b got bytes k w n p q o s = absurd (cc)

same-what : (w v : What) → HasNumbers w → HasNumbers v → HasUsualBytes w → HasUsualBytes v → kind_of w ≡ kind_of v → what_words w ≡ what_words v → w ≡ v
same-what (Accessed way a status got) (Accessed gate b answer bytes) p q r s k e =
    let e0 : way_word way ≡ way_word gate = cc in
    let e1 : command_word a.command ≡ command_word b.command = cc in
    let e2 : address_word a.offset ≡ address_word b.offset = cc in
    let e3 : decimal a.length ≡ decimal b.length = cc in
    let e4 : data_word a.enables ≡ data_word b.enables = cc in
    let e5 : decimal a.width ≡ decimal b.width = cc in
    let e6 : operand_text a.command a.sent ++ data_word (shown_by a.command a got) ≡ operand_text b.command b.sent ++ data_word (shown_by b.command b bytes) = cc in
    let e7 : status_word status ≡ status_word answer = cc in
    let s0 = same-way way gate p.0 q.0 e0 in
    let s1 = same-command a.command b.command e1 in
    let s2 = same-address a.offset b.offset p.1 q.1 e2 in
    let s3 = decimal_injective a.length b.length p.2 q.2 e3 in
    let s4 = same-data a.enables b.enables p.4 q.4 e4 in
    let s5 = decimal_injective a.width b.width p.3 q.3 e5 in
    let s6 = same-shown a.command b.command a.sent b.sent (shown_by a.command a got) (shown_by b.command b bytes) s1 p.6 q.6 p.5 q.5 e6 in
    let s7 = same-status status answer e7 in
    let s8 = same-bytes a.command b.command way gate a b got bytes s1 s0 s3 r s s6.0 s6.1 in
    λ i. Accessed (s0 i) (record { command = s1 i; offset = s2 i; length = s3 i; sent = s8.0 i; enables = s4 i; width = s5 i }) (s7 i) (s8.1 i)
same-what (Granted g f l k) (Granted h x m j) p q r s n e =
    let e0 : decimal g ≡ decimal h = cc in
    let e1 : range_word f l ≡ range_word x m = cc in
    let e2 : kind_word k ≡ kind_word j = cc in
    let s0 = decimal_injective g h p.0 q.0 e0 in
    let s1 = same-range f x l m p.1 q.1 p.2 q.2 e1 in
    let s2 = same-kind k j e2 in
    λ i. Granted (s0 i) (s1.0 i) (s1.1 i) (s2 i)
same-what (Invalidated f l) (Invalidated x m) p q r s n e =
    let e0 : range_word f l ≡ range_word x m = cc in
    let s0 = same-range f x l m p.0 q.0 p.1 q.1 e0 in
    λ i. Invalidated (s0.0 i) (s0.1 i)
same-what (Closed g) (Closed h) p q r s n e = let e0 : decimal g ≡ decimal h = cc in ap Closed (decimal_injective g h p q e0)
same-what (Call f a) (Call x b) p q r s n e =
    let e0 : phase_word f ≡ phase_word x = cc in
    let e1 : sync_words a ≡ sync_words b = cc in
    let s0 = same-phase f x e0 in
    let s1 = same-sync a b e1 in
    λ i. Call (s0 i) (s1 i)
same-what (Take g) (Take h) p q r s n e = let e0 : decimal g ≡ decimal h = cc in ap Take (decimal_injective g h p q e0)
same-what (Acquire g) (Acquire h) p q r s n e = let e0 : decimal g ≡ decimal h = cc in ap Acquire (decimal_injective g h p q e0)
same-what (Release g f) (Release h x) p q r s n e =
    let e0 : decimal g ≡ decimal h = cc in
    let e1 : freed_words f ≡ freed_words x = cc in
    let s0 = decimal_injective g h p q e0 in
    let s1 = same-freed f x e1 in
    λ i. Release (s0 i) (s1 i)
same-what w v p q r s n e = absurd (omega arith)

-- the name of a memory isn't that of a hop or a pool, and the name of a hop isn't that of a pool
memory-hop : (p : Platform) → HasPlainNames p → (m h : ℕ) → h < length (hop_words p) → memory_name p m ≡ object_word p (Hop h) → ⊥
memory-hop p names m h there e =
    let n = names.memories m in
    let parts = hop-parts p h there in
    lacks-middle 62 parts.0 parts.1 (memory_name p m) n.2 (e ∙ parts.2)

memory-pool : (p : Platform) → HasPlainNames p → (m i : ℕ) → memory_name p m ≡ object_word p (Pool i) → ⊥
memory-pool p names m i e = let n = names.memories m in lacks-middle 46 (initiator_name p i) (codes "pool") (memory_name p m) n.1 e

pool-hop : (p : Platform) → HasPlainNames p → (i h : ℕ) → h < length (hop_words p) → object_word p (Pool i) ≡ object_word p (Hop h) → ⊥
pool-hop p names i h there e =
    let n = names.initiators i in
    let parts = hop-parts p h there in
    lacks-middle 62 parts.0 parts.1 (initiator_name p i ++ codes ".pool") (lacks-append 62 (initiator_name p i) (codes ".pool") n.2 (lacks-by-test 62 (codes ".pool") refl)) (e ∙ parts.2)

same-object : (p : Platform) → HasPlainNames p → HasOwnNames p → (o q : ObjectNo) → IsObject p o → IsObject p q → object_word p o ≡ object_word p q → o ≡ q
same-object p names own (memory_object m) (memory_object n) s t e = ap memory_object (own.memories m n s t e)
same-object p names own (memory_object m) (Hop h) s t e = absurd (memory-hop p names m h t e)
same-object p names own (memory_object m) (Pool i) s t e = absurd (memory-pool p names m i e)
same-object p names own (Hop h) (memory_object m) s t e = absurd (memory-hop p names m h s (sym e))
same-object p names own (Hop h) (Hop k) s t e = ap Hop (own.hops h k s t e)
same-object p names own (Hop h) (Pool i) s t e = absurd (pool-hop p names i h s (sym e))
same-object p names own (Pool i) (memory_object m) s t e = absurd (memory-pool p names m i (sym e))
same-object p names own (Pool i) (Hop h) s t e = absurd (pool-hop p names i h t e)
same-object p names own (Pool i) (Pool j) s t e = ap Pool (own.initiators i j s t (append_cancel_right (initiator_name p i) (initiator_name p j) (codes ".pool") e))

-- four words in front of others
front-same : (a b c d t u v w : List ℕ) (ws vs : List (List ℕ)) → a ∷ b ∷ c ∷ d ∷ ws ≡ t ∷ u ∷ v ∷ w ∷ vs → (a ≡ t) × (b ≡ u) × (c ≡ v) × (d ≡ w) × (ws ≡ vs)
front-same a b c d t u v w ws vs e = (cc, cc, cc, cc, cc)

pub names-entries : NamesEntries
names-entries p names own d e t u same =
    let words = line-same (decimal d.position) (decimal e.position) (decimal d.time ∷ txn_word p d.txn ∷ object_word p d.object ∷ what_words d.what)
    (decimal e.time ∷ txn_word p e.txn ∷ object_word p e.object ∷ what_words e.what) (words-visible p names d t) (words-visible p names e u) same in
    let parts = front-same (decimal d.position) (decimal d.time) (txn_word p d.txn) (object_word p d.object) (decimal e.position) (decimal e.time) (txn_word p e.txn) (object_word p e.object) (what_words d.what) (what_words e.what) words in
    let kinds = sym (kind-is d.what) ∙ (ap (λ (ws : List (List ℕ)). kind_by (letter ws)) parts.4 ∙ kind-is e.what) in
    let n = names.initiators d.txn.initiator in
    let m = names.initiators e.txn.initiator in
    let txn = same-seq (initiator_name p d.txn.initiator) (initiator_name p e.txn.initiator) d.txn.seq e.txn.seq n.1 m.1 t.seq u.seq parts.2 in
    let who = own.initiators d.txn.initiator e.txn.initiator t.initiator u.initiator txn.0 in
    let position = decimal_injective d.position e.position t.position u.position parts.0 in
    let time = decimal_injective d.time e.time t.time u.time parts.1 in
    let object = same-object p names own d.object e.object t.object u.object parts.3 in
    let what = same-what d.what e.what t.numbers u.numbers t.bytes u.bytes kinds parts.4 in
    λ i. record { position = position i; object = object i; txn = record { initiator = who i; seq = txn.1 i }; time = time i; what = what i }
