-- Lines that are written piece by piece.
use Rattle.std.proofs.Common.{◌≡◌, ℕ, List, [], ◌∷◌, ◌++◌, Option, Bool, true, false, ap, subst, ◌∙◌, append_assoc, codes}
use Rattle.tlm_model.specs.Text.{line_of}
use Rattle.trace_print.specs.Writes.{Writes}
use Rattle.trace_print.proofs.Writing.{change, writes-more, writes-part}

pub three-and : (a b c rest : List ℕ) → (a ++ (b ++ c)) ++ rest ≡ a ++ (b ++ (c ++ rest))
three-and a b c rest = append_assoc a (b ++ c) rest ∙ ap (λ (x : List ℕ). a ++ x) (append_assoc b c rest)

-- a line of seven pieces: its first three failed
pub first-fails : (old new : Option (List ℕ)) (f h : ℕ) (a b c d e g l : List ℕ) → Writes (change old new f h) (a ++ (b ++ c)) false →
    Writes (change old new f h) (a ++ (b ++ (c ++ (d ++ (e ++ (g ++ l)))))) false
first-fails old new f h a b c d e g l first =
    subst (λ (x : List ℕ). Writes (change old new f h) x false) (three-and a b c (d ++ (e ++ (g ++ l))))
    (writes-part old new f h (a ++ (b ++ c)) (d ++ (e ++ (g ++ l))) first)

-- its next three failed
pub second-fails : (old mid new : Option (List ℕ)) (f i h : ℕ) (a b c d e g l : List ℕ) → Writes (change old mid f i) (a ++ (b ++ c)) true →
    Writes (change mid new i h) (d ++ (e ++ g)) false →
    Writes (change old new f h) (a ++ (b ++ (c ++ (d ++ (e ++ (g ++ l)))))) false
second-fails old mid new f i h a b c d e g l first second =
    subst (λ (x : List ℕ). Writes (change old new f h) x false) (three-and a b c (d ++ (e ++ (g ++ l))))
    (writes-more old mid new f i h (a ++ (b ++ c)) (d ++ (e ++ (g ++ l))) false first
    (subst (λ (x : List ℕ). Writes (change mid new i h) x false) (three-and d e g l) (writes-part mid new i h (d ++ (e ++ g)) l second)))

-- all but the last were written
pub last-is : (old mid next new : Option (List ℕ)) (f i j h : ℕ) (a b c d e g l : List ℕ) (done : Bool) → Writes (change old mid f i) (a ++ (b ++ c)) true →
    Writes (change mid next i j) (d ++ (e ++ g)) true → Writes (change next new j h) l done →
    Writes (change old new f h) (a ++ (b ++ (c ++ (d ++ (e ++ (g ++ l)))))) done
last-is old mid next new f i j h a b c d e g l done first second last =
    subst (λ (x : List ℕ). Writes (change old new f h) x done) (three-and a b c (d ++ (e ++ (g ++ l))))
    (writes-more old mid new f i h (a ++ (b ++ c)) (d ++ (e ++ (g ++ l))) done first
    (subst (λ (x : List ℕ). Writes (change mid new i h) x done) (three-and d e g l)
    (writes-more mid next new i j h (d ++ (e ++ g)) l done second last)))

-- the line of a seed's totals, as it is put piece by piece
pub totals-put : (s a b c d : List ℕ) → (((((codes "gen " ++ s) ++ (codes " transactions " ++ a)) ++ (codes " accesses " ++ b)) ++ (codes " payloads " ++ c)) ++ (codes " syncs " ++ d)) ++ codes "\n"
    ≡ line_of (codes "gen" ∷ s ∷ codes "transactions" ∷ a ∷ codes "accesses" ∷ b ∷ codes "payloads" ∷ c ∷ codes "syncs" ∷ d ∷ [])
totals-put s a b c d =
    let begun = codes "gen " ++ s in
    let one = codes " transactions " ++ a in
    let two = codes " accesses " ++ b in
    let three = codes " payloads " ++ c in
    let last = codes " syncs " ++ d in
    ap (λ (x : List ℕ). x ++ codes "\n")
    (append_assoc ((begun ++ one) ++ two) three last ∙ append_assoc (begun ++ one) two (three ++ last) ∙ append_assoc begun one (two ++ (three ++ last)))
