-- The entries of a log with their numbers, and what was written of them.
use Rattle.std.proofs.Common.{◌≡◌, ℕ, suc, List, [], ◌∷◌, ◌++◌, length, map, refl, ap, ◌∙◌, arith}
use Rattle.std.specs.List.{All}
use Rattle.std.proofs.lemmas.List.Elements.{All-head, All-tail}
use Rattle.tlm_types.specs.declared.words.ObjectNo.{ObjectNo}
use Rattle.tlm_types.specs.declared.entry.Entry.{Entry}
use Rattle.shared_object.specs.Written.{logged}
use Rattle.flow_model.specs.Events.{Event, entries}
use Rattle.numbered_log.specs.Logged.{events_of, event_of, written_by}

-- one entry more has the number that is added
pub events_of-push : (es : List Entry) (ns : List ℕ) (e : Entry) (n : ℕ) → length es ≡ length ns → events_of (es ++ e ∷ []) (ns ++ n ∷ []) ≡ events_of es ns ++ event_of e n ∷ []
events_of-push [] [] e n h = refl
events_of-push [] (m ∷ ns) e n h = absurd (omega arith)
events_of-push (x ∷ es) [] e n h = absurd (omega arith)
events_of-push (x ∷ es) (m ∷ ns) e n h = ap (λ (l : List Event). event_of x m ∷ l) (events_of-push es ns e n (omega arith))

pub entries-events_of : (es : List Entry) (ns : List ℕ) → entries (events_of es ns) ≡ es
entries-events_of [] ns = refl
entries-events_of (e ∷ es) [] = ap (λ (l : List Entry). e ∷ l) (entries-events_of es [])
entries-events_of (e ∷ es) (n ∷ ns) = ap (λ (l : List Entry). e ∷ l) (entries-events_of es ns)

pub length-events_of : (es : List Entry) (ns : List ℕ) → length (events_of es ns) ≡ length es
length-events_of [] ns = refl
length-events_of (e ∷ es) [] = ap suc (length-events_of es [])
length-events_of (e ∷ es) (n ∷ ns) = ap suc (length-events_of es ns)

pub numbers-events_of : (es : List Entry) (ns : List ℕ) → length es ≡ length ns → map (λ (e : Event). e.number) (events_of es ns) ≡ ns
numbers-events_of [] [] h = refl
numbers-events_of [] (n ∷ ns) h = absurd (omega arith)
numbers-events_of (e ∷ es) [] h = absurd (omega arith)
numbers-events_of (e ∷ es) (n ∷ ns) h = ap (λ (l : List ℕ). n ∷ l) (numbers-events_of es ns (omega arith))

-- the log has just what was written
pub logged_written : (o : ObjectNo) (es : List Event) → All (λ (e : Event). e.object ≡ o) es → entries es ≡ map (logged o) (map written_by es)
logged_written o [] all = refl
logged_written o (e ∷ es) all =
    let P : Event → Type 0 = λ y. y.object ≡ o in
    let here : e.entry ≡ logged o (written_by e) = ap (λ (x : ObjectNo). record { position = e.position; object = x; txn = e.txn; time = e.time; what = e.what }) (All-head P e es all) in
    ap (λ (x : Entry). x ∷ entries es) here ∙ ap (λ (l : List Entry). logged o (written_by e) ∷ l) (logged_written o es (All-tail P e es all))
