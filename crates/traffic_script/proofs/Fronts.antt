-- What is read from here on, behind what was read so far.
use Rattle.std.proofs.Common.{◌≡◌, List, [], ◌∷◌, ◌++◌, Result, Ok, Err, refl, ap, append_assoc}
use Rattle.traffic_script.specs.declared.fault.ScriptCode.{ScriptCode}
use Rattle.tlm_types.specs.Reading.{◌>>=◌}

-- the front and then what is read
abbrev pub behind : {A : Type 0} → List A → Result (List A) ScriptCode → Result (List A) ScriptCode
behind front read = read >>= λ xs. Ok (front ++ xs)

-- one more was read
pub behind_more : {A : Type 0} (front : List A) (x : A) (read : Result (List A) ScriptCode) → behind front (read >>= λ xs. Ok (x ∷ xs)) ≡ behind (front ++ x ∷ []) read
behind_more front x (Ok xs) = ap Ok (simp append_assoc)
behind_more front x (Err code) = refl
