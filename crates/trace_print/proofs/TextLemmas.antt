-- Lines put together from their parts, with their fixed parts as variables.
use Rattle.std.proofs.Common.{◌≡◌, ℕ, List, ◌++◌, append_assoc}

-- parts that follow one another, but for the last
pub last-of-3 : (a b z : List ℕ) → a ++ (b ++ z) ≡ (a ++ b) ++ z
last-of-3 a b z = simp append_assoc

pub last-of-4 : (a b c z : List ℕ) → a ++ (b ++ (c ++ z)) ≡ (a ++ (b ++ c)) ++ z
last-of-4 a b c z = simp append_assoc

pub last-of-5 : (a b c d z : List ℕ) → a ++ (b ++ (c ++ (d ++ z))) ≡ (a ++ (b ++ (c ++ d))) ++ z
last-of-5 a b c d z = simp append_assoc

-- the words of an access, from the space before them to the end of the line
pub access-line : (w sp c o l be d sw n x s nl : List ℕ) →
    ((sp ++ ((w ++ sp) ++ ((c ++ sp) ++ (o ++ (sp ++ (l ++ (sp ++ be))))))) ++ (d ++ ((sp ++ sw) ++ (n ++ sp)))) ++ (x ++ (sp ++ (s ++ nl)))
    ≡ sp ++ ((w ++ (sp ++ (c ++ (sp ++ (o ++ (sp ++ (l ++ (sp ++ ((be ++ d) ++ (sp ++ ((sw ++ n) ++ (sp ++ (x ++ (sp ++ s)))))))))))))) ++ nl)
access-line w sp c o l be d sw n x s nl = simp append_assoc

-- the words of an entry up to its object
pub head-words : (p t n o sp : List ℕ) → ((p ++ sp) ++ (t ++ sp)) ++ ((n ++ sp) ++ o) ≡ p ++ (sp ++ (t ++ (sp ++ (n ++ (sp ++ o)))))
head-words p t n o sp = simp append_assoc

-- the same, written from the front of the line on, with what comes behind the object
pub head-front : (p t i d n o sp rest : List ℕ) → ((p ++ sp) ++ ((t ++ sp) ++ ((i ++ d) ++ (n ++ sp)))) ++ (o ++ rest) ≡ (p ++ (sp ++ (t ++ (sp ++ ((i ++ (d ++ n)) ++ (sp ++ o)))))) ++ rest
head-front p t i d n o sp rest = simp append_assoc

-- the words of a refused request, where a space stands behind one of them
pub refused-words : (w q sp t c a nl : List ℕ) → w ++ ((q ++ sp) ++ (t ++ (sp ++ (c ++ (sp ++ (a ++ nl)))))) ≡ (w ++ (q ++ (sp ++ (t ++ (sp ++ (c ++ (sp ++ a))))))) ++ nl
refused-words w q sp t c a nl = simp append_assoc

-- the words of a grant
pub granted-words : (word g sp r k : List ℕ) → (word ++ g) ++ (sp ++ (r ++ (sp ++ k))) ≡ word ++ (g ++ (sp ++ (r ++ (sp ++ k))))
granted-words word g sp r k = simp append_assoc

-- the line of how an initiator ended
pub end-words : (w name sp style tr t re r sy s en e nl : List ℕ) →
    (w ++ (name ++ (sp ++ style))) ++ ((tr ++ t) ++ ((re ++ r) ++ ((sy ++ s) ++ ((en ++ e) ++ nl))))
    ≡ (w ++ (name ++ (sp ++ (style ++ (tr ++ (t ++ (re ++ (r ++ (sy ++ (s ++ (en ++ e))))))))))) ++ nl
end-words w name sp style tr t re r sy s en e nl = simp append_assoc
