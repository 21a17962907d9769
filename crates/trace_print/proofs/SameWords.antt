-- Words are the same alone where they say the same.
use Rattle.std.proofs.Common.{◌≡◌, ℕ, ◌+◌, ◌*◌, ◌/◌, ◌%◌, ◌^◌, ◌<◌, ◌≤◌, List, [], ◌∷◌, ◌++◌, Bool, true, false, refl, ap, sym, subst, ◌∙◌, arith, append_assoc, codes}
use Rattle.std.specs.Char.{digit_value}
use Rattle.std.specs.Fmt.{decimal, digits, digit_glyph}
use Rattle.std.specs.Str.Parse.{IsNumeral, digits_value}
use Rattle.std.proofs.lemmas.Fmt.{decimal_injective, decimal_is_IsNumeral, digits_is_IsNumeral, hex_one_digit}
use Rattle.tlm_types.specs.declared.words.Command.{Command}
use Rattle.tlm_types.specs.declared.words.Command.TheVariants.{Read, Write, Ignore, FetchAdd}
use Rattle.tlm_types.specs.declared.words.Kind.{Kind}
use Rattle.tlm_types.specs.declared.words.Kind.TheVariants.{Read as read_kind, Write as write_kind, Both}
use Rattle.tlm_types.specs.declared.words.Phase.{Phase}
use Rattle.tlm_types.specs.declared.words.Phase.TheVariants.{BeginReq, EndReq, BeginResp, EndResp}
use Rattle.tlm_types.specs.declared.words.Response.{Response}
use Rattle.tlm_types.specs.declared.words.Response.TheVariants.{Ok, Incomplete, GenericError, AddressError, CommandError, BurstError, ByteEnableError}
use Rattle.tlm_types.specs.declared.words.TlmSync.{TlmSync}
use Rattle.tlm_types.specs.declared.words.TlmSync.TheVariants.{Accepted, Updated, Completed}
use Rattle.tlm_types.specs.declared.words.Way.{Way}
use Rattle.tlm_types.specs.declared.words.Way.TheVariants.{Blocking, FourPhase, Direct, Debug}
use Rattle.report_model.specs.Report.{command_word, freed_words, kind_word, operand_in, operand_text, phase_word, range_word, seq_word, status_word, sync_words, way_word}
use Rattle.tlm_model.specs.Text.{address_word, data_word, hex_of}
use Rattle.traffic_script.specs.Proper.{AreBytes}
use Rattle.trace_print.specs.Naming.{HasGate, IsVisible, Lacks}
use Rattle.trace_print.proofs.SplitLemmas.{AllVisible, lacks, lacks-append, lacks-by-test, lacks-digits, split-at, visible-append, visible-by-test, visible-digits}

numeral : (n : ℕ) → n < 2 ^ 64 → IsNumeral 16 (digits 16 false n) × (digits_value 16 (digits 16 false n) ≡ n)
numeral n small = digits_is_IsNumeral 16 false (omega arith) (omega arith) n (omega arith)

pub visible-decimal : (n : ℕ) → n < 2 ^ 64 → IsVisible (decimal n)
visible-decimal n small = let d = decimal_is_IsNumeral n small in visible-digits 10 (decimal n) (omega arith) d.0.1

pub visible-address : (n : ℕ) → n < 2 ^ 64 → IsVisible (address_word n)
visible-address n small = let d = numeral n small in visible-append (codes "0x") (digits 16 false n) (visible-by-test (codes "0x") refl) (visible-digits 16 (digits 16 false n) (omega arith) d.0.1)

lacks-address : (c n : ℕ) → 16 ≤ digit_value c → lacks c (codes "0x") ≡ true → n < 2 ^ 64 → Lacks c (address_word n)
lacks-address c n h t small = let d = numeral n small in lacks-append c (codes "0x") (digits 16 false n) (lacks-by-test c (codes "0x") t) (lacks-digits c 16 (digits 16 false n) h d.0.1)

visible-glyph : (d : ℕ) → d < 16 → 32 < digit_glyph false d
visible-glyph d small =
    let n = numeral d (omega arith) in
    let P : List ℕ → Type 0 = λ l. IsVisible l in
    let one : IsVisible (digit_glyph false d ∷ []) = subst P (hex_one_digit false d small) (visible-digits 16 (digits 16 false d) (omega arith) n.0.1) in
    one.0

visible-hex : (bytes : List ℕ) → AreBytes bytes → IsVisible (hex_of bytes)
visible-hex [] p = tt
visible-hex (b ∷ bs) p = let low = p.0 in (visible-glyph (b / 16) (omega arith), (visible-glyph (b % 16) (omega arith), visible-hex bs p.1))

pub visible-data : (bytes : List ℕ) → AreBytes bytes → IsVisible (data_word bytes)
visible-data [] p = visible-by-test (codes "-") refl
visible-data (b ∷ bs) p = visible-hex (b ∷ bs) p

-- the colon after an operand is no digit
lacks-glyph : (d : ℕ) → d < 16 → Lacks 58 (digit_glyph false d ∷ [])
lacks-glyph d small =
    let n = numeral d (omega arith) in
    subst (Lacks 58) (hex_one_digit false d small) (lacks-digits 58 16 (digits 16 false d) (omega arith) n.0.1)

lacks-hex : (bytes : List ℕ) → AreBytes bytes → Lacks 58 (hex_of bytes)
lacks-hex [] p = tt
lacks-hex (b ∷ bs) p =
    let low = p.0 in
    let first = lacks-glyph (b / 16) (omega arith) in
    let second = lacks-glyph (b % 16) (omega arith) in
    (first.0, (second.0, lacks-hex bs p.1))

lacks-data : (bytes : List ℕ) → AreBytes bytes → Lacks 58 (data_word bytes)
lacks-data [] p = lacks-by-test 58 (codes "-") refl
lacks-data (b ∷ bs) p = lacks-hex (b ∷ bs) p

pub visible-operand : (c : Command) (sent : List ℕ) → AreBytes (operand_in c sent) → IsVisible (operand_text c sent)
visible-operand Read sent p = tt
visible-operand Write sent p = tt
visible-operand Ignore sent p = tt
visible-operand FetchAdd sent p = visible-append (data_word sent) (codes ":") (visible-data sent p) (visible-by-test (codes ":") refl)

pub visible-range : (f l : ℕ) → f < 2 ^ 64 → l < 2 ^ 64 → IsVisible (range_word f l)
visible-range f l small more =
    visible-append (address_word f) (codes "-" ++ address_word l) (visible-address f small)
    (visible-append (codes "-") (address_word l) (visible-by-test (codes "-") refl) (visible-address l more))

pub visible-command : (c : Command) → IsVisible (command_word c)
visible-command Read = visible-by-test (codes "read") refl
visible-command Write = visible-by-test (codes "write") refl
visible-command Ignore = visible-by-test (codes "ignore") refl
visible-command FetchAdd = visible-by-test (codes "fetch_add") refl

pub visible-status : (s : Response) → IsVisible (status_word s)
visible-status Ok = visible-by-test (codes "ok") refl
visible-status Incomplete = visible-by-test (codes "incomplete") refl
visible-status GenericError = visible-by-test (codes "generic_error") refl
visible-status AddressError = visible-by-test (codes "address_error") refl
visible-status CommandError = visible-by-test (codes "command_error") refl
visible-status BurstError = visible-by-test (codes "burst_error") refl
visible-status ByteEnableError = visible-by-test (codes "byte_enable_error") refl

pub visible-way : (w : Way) → HasGate w → IsVisible (way_word w)
visible-way Blocking h = visible-by-test (codes "blocking") refl
visible-way FourPhase h = visible-by-test (codes "fourphase") refl
visible-way (Direct g) h = visible-append (codes "direct:") (decimal g) (visible-by-test (codes "direct:") refl) (visible-decimal g h)
visible-way Debug h = visible-by-test (codes "debug") refl

pub visible-kind : (k : Kind) → IsVisible (kind_word k)
visible-kind read_kind = visible-by-test (codes "read") refl
visible-kind write_kind = visible-by-test (codes "write") refl
visible-kind Both = visible-by-test (codes "both") refl

pub visible-phase : (f : Phase) → IsVisible (phase_word f)
visible-phase BeginReq = visible-by-test (codes "BEGIN_REQ") refl
visible-phase EndReq = visible-by-test (codes "END_REQ") refl
visible-phase BeginResp = visible-by-test (codes "BEGIN_RESP") refl
visible-phase EndResp = visible-by-test (codes "END_RESP") refl

pub visible-sync : (a : TlmSync) → AllVisible (sync_words a)
visible-sync Accepted = (visible-by-test (codes "ACCEPTED") refl, tt)
visible-sync (Updated f) = (visible-by-test (codes "UPDATED") refl, (visible-phase f, tt))
visible-sync Completed = (visible-by-test (codes "COMPLETED") refl, tt)

pub visible-freed : (b : Bool) → AllVisible (freed_words b)
visible-freed true = (visible-by-test (codes "freed") refl, tt)
visible-freed false = tt

same-digits : (m n : ℕ) → m < 2 ^ 64 → n < 2 ^ 64 → digits 16 false m ≡ digits 16 false n → m ≡ n
same-digits m n hm hn e = let a = numeral m hm in let b = numeral n hn in sym a.1 ∙ (ap (digits_value 16) e ∙ b.1)

pub same-address : (m n : ℕ) → m < 2 ^ 64 → n < 2 ^ 64 → address_word m ≡ address_word n → m ≡ n
same-address m n hm hn e = same-digits m n hm hn (let d : digits 16 false m ≡ digits 16 false n = cc in d)

same-glyph : (a b : ℕ) → a < 16 → b < 16 → digit_glyph false a ≡ digit_glyph false b → a ≡ b
same-glyph a b ha hb e = same-digits a b (omega arith) (omega arith) (hex_one_digit false a ha ∙ (ap (λ (g : ℕ). g ∷ []) e ∙ sym (hex_one_digit false b hb)))

same-hex : (xs ys : List ℕ) → AreBytes xs → AreBytes ys → hex_of xs ≡ hex_of ys → xs ≡ ys
same-hex [] [] p q e = refl
same-hex [] (y ∷ ys) p q e = cc
same-hex (x ∷ xs) [] p q e = cc
same-hex (x ∷ xs) (y ∷ ys) p q e =
    let low = p.0 in
    let small = q.0 in
    let high : digit_glyph false (x / 16) ≡ digit_glyph false (y / 16) = cc in
    let rest : digit_glyph false (x % 16) ≡ digit_glyph false (y % 16) = cc in
    let more : hex_of xs ≡ hex_of ys = cc in
    let h = same-glyph (x / 16) (y / 16) (omega arith) (omega arith) high in
    let r = same-glyph (x % 16) (y % 16) (omega arith) (omega arith) rest in
    let first : x ≡ y = omega (arith, h, r) in
    let others = same-hex xs ys p.1 q.1 more in
    cc

pub same-data : (xs ys : List ℕ) → AreBytes xs → AreBytes ys → data_word xs ≡ data_word ys → xs ≡ ys
same-data [] [] p q e = refl
same-data [] (y ∷ ys) p q e = cc
same-data (x ∷ xs) [] p q e = cc
same-data (x ∷ xs) (y ∷ ys) p q e = same-hex (x ∷ xs) (y ∷ ys) p q e

-- the bytes that a line shows
pub same-shown : (c d : Command) (sent taken got bytes : List ℕ) → c ≡ d → AreBytes (operand_in c sent) → AreBytes (operand_in d taken) → AreBytes got → AreBytes bytes
    → operand_text c sent ++ data_word got ≡ operand_text d taken ++ data_word bytes → (operand_in c sent ≡ operand_in d taken) × (got ≡ bytes)
same-shown Read Read sent taken got bytes k p q r s e = (refl, same-data got bytes r s e)
same-shown Write Write sent taken got bytes k p q r s e = (refl, same-data got bytes r s e)
same-shown Ignore Ignore sent taken got bytes k p q r s e = (refl, same-data got bytes r s e)
same-shown FetchAdd FetchAdd sent taken got bytes k p q r s e =
    let parted = sym (append_assoc (data_word sent) (codes ":") (data_word got)) ∙ (e ∙ append_assoc (data_word taken) (codes ":") (data_word bytes)) in
    let two = split-at 58 (data_word sent) (data_word taken) (data_word got) (data_word bytes) (lacks-data sent p) (lacks-data taken q) parted in
    (same-data sent taken p q two.0, same-data got bytes r s two.1)
same-shown c d sent taken got bytes k p q r s e = absurd (cc)

pub same-seq : (n m : List ℕ) (s t : ℕ) → Lacks 46 n → Lacks 46 m → s < 2 ^ 64 → t < 2 ^ 64 → seq_word n s ≡ seq_word m t → (n ≡ m) × (s ≡ t)
same-seq n m s t p q hs ht e = let r = split-at 46 n m (decimal s) (decimal t) p q e in (r.0, decimal_injective s t hs ht r.1)

pub same-range : (f g l m : ℕ) → f < 2 ^ 64 → g < 2 ^ 64 → l < 2 ^ 64 → m < 2 ^ 64 → range_word f l ≡ range_word g m → (f ≡ g) × (l ≡ m)
same-range f g l m hf hg hl hm e =
    let r = split-at 45 (address_word f) (address_word g) (address_word l) (address_word m) (lacks-address 45 f (omega arith) refl hf) (lacks-address 45 g (omega arith) refl hg) e in
    (same-address f g hf hg r.0, same-address l m hl hm r.1)

-- the first two letters of a word
abbrev key : List ℕ → ℕ
key [] = 0
key (a ∷ []) = a
key (a ∷ b ∷ bs) = a * 256 + b

pub same-command : (c d : Command) → command_word c ≡ command_word d → c ≡ d
same-command Read Read e = refl
same-command Write Write e = refl
same-command Ignore Ignore e = refl
same-command FetchAdd FetchAdd e = refl
same-command c d e = cc

pub same-status : (r s : Response) → status_word r ≡ status_word s → r ≡ s
same-status Ok Ok e = refl
same-status Incomplete Incomplete e = refl
same-status GenericError GenericError e = refl
same-status AddressError AddressError e = refl
same-status CommandError CommandError e = refl
same-status BurstError BurstError e = refl
same-status ByteEnableError ByteEnableError e = refl
same-status r s e = let k : key (status_word r) ≡ key (status_word s) = ap key e in absurd (omega arith)

pub same-kind : (k l : Kind) → kind_word k ≡ kind_word l → k ≡ l
same-kind read_kind read_kind e = refl
same-kind write_kind write_kind e = refl
same-kind Both Both e = refl
same-kind k l e = let n : key (kind_word k) ≡ key (kind_word l) = ap key e in absurd (omega arith)

pub same-phase : (f g : Phase) → phase_word f ≡ phase_word g → f ≡ g
same-phase BeginReq BeginReq e = refl
same-phase EndReq EndReq e = refl
same-phase BeginResp BeginResp e = refl
same-phase EndResp EndResp e = refl
same-phase f g e = cc

pub same-way : (w v : Way) → HasGate w → HasGate v → way_word w ≡ way_word v → w ≡ v
same-way Blocking Blocking p q e = refl
same-way FourPhase FourPhase p q e = refl
same-way (Direct g) (Direct h) p q e = let d : decimal g ≡ decimal h = cc in ap Direct (decimal_injective g h p q d)
same-way Debug Debug p q e = refl
same-way w v p q e = let k : key (way_word w) ≡ key (way_word v) = ap key e in absurd (omega arith)

pub same-sync : (a b : TlmSync) → sync_words a ≡ sync_words b → a ≡ b
same-sync Accepted Accepted e = refl
same-sync (Updated f) (Updated g) e = ap Updated (same-phase f g (let w : phase_word f ≡ phase_word g = cc in w))
same-sync Completed Completed e = refl
same-sync a b e = cc

pub same-freed : (a b : Bool) → freed_words a ≡ freed_words b → a ≡ b
same-freed true true e = refl
same-freed false false e = refl
same-freed a b e = cc
