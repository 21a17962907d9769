use Rattle.std.proofs.Common.{◌≡◌, Bool, true, false, List, ◌∷◌, None, codes, refl, subst}
use Rattle.std.specs.Str.{bytes_eq}
use Rattle.std.proofs.lemmas.Slice.Eq.{bytes_eq-Decides}
use Rattle.command_words.specs.Words.{Text, command_of}
use Rattle.command_words.specs.Commands.{texts}
use Rattle.command_words.proofs.read.read_words.Goals as goal

-- no other word begins a command line
other_word : (word : Text) (rest : List Text) → (word ≡ codes "run" → ⊥) → (word ≡ codes "script" → ⊥) → (word ≡ codes "gen" → ⊥) → None ≡ command_of (word ∷ rest)
other_word word rest not_run not_script not_gen = go (bytes_eq word (codes "run")) (bytes_eq word (codes "script")) (bytes_eq word (codes "gen")) refl refl refl
  where
    go : (a b c : Bool) → bytes_eq word (codes "run") ≡ a → bytes_eq word (codes "script") ≡ b → bytes_eq word (codes "gen") ≡ c → None ≡ command_of (word ∷ rest)
    go true b c e f g = absurd (not_run ((bytes_eq-Decides word (codes "run")).0 e))
    go false true c e f g = absurd (not_script ((bytes_eq-Decides word (codes "script")).0 f))
    go false false true e f g = absurd (not_gen ((bytes_eq-Decides word (codes "gen")).0 g))
    go false false false e f g = rw (e, f, g) refl

pub returns-in_default-as_str-clause-read : goal.returns-in_default-as_str-clause-read
returns-in_default-as_str-clause-read c =
    rw c.in-Some.ensures.cases.0
    (subst (λ (word : Text). None ≡ command_of (word ∷ texts c.in-Some.rest.now)) c.as_str.ensures.value
    (other_word c.as_str.result.now (texts c.in-Some.rest.now) c.in_default-as_str.not-run c.in_default-as_str.not-script c.in_default-as_str.not-gen))
