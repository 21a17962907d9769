-- The answer after the rest of what two sinks collected was written.
use Rattle.std.proofs.Common.{◌≡◌, ℕ, ◌≤◌, List, [], ◌++◌, length, Option, Some, None, Bool, true, false, refl, sym, subst, arith, take_all}
use Rattle.std.proofs.lemmas.List.{append-nil}
use Rattle.outside.specs.Causes.{Rose}
use Rattle.outside.specs.Pieces.{TakesAll, TakesPrefix}
use Rattle.trace_print.specs.Writes.{Tells}
use Rattle.trace_print.proofs.Writing.{change, takes-more}
use Rattle.command_words.specs.Words.{CommandLine, command_of}
use Rattle.one_history.specs.Held.{Ended}
use Rattle.tlm_types.specs.declared.entry.Content.{Content}
use Rattle.tlm_model.specs.Plan.{Plan}
use Rattle.plan_loads.specs.Files.{Files}
use Rattle.plan_loads.specs.Exits.{told_of, told_after, answer_after}
use Rattle.outside.specs.StreamState.{StreamState}
use Rattle.tlm_top.specs.Serving.{IsWritten}
use Rattle.tlm_top.specs.Headline.{Outside, IsReported, IsAnswer, IsExplainedBy, IsExplained}
use Rattle.plan_loads.specs.declared.exit.Exit.{Exit}
use Rattle.plan_loads.specs.declared.exit.Exit.TheVariants.{Done, Usage, PlatformRefused, ScriptRefused, ReadFault, WriteFault, NoMemory, TooLong}

abbrev outside_by : Files → Option (List ℕ) → Option (List ℕ) → ℕ → ℕ → Outside
outside_by files b a f g = record { files = files; out = change b a f g }

rose_later : (f g h : ℕ) → g ≤ h → Rose f g → Rose f h
rose_later f g h later rose = omega (arith, later, rose)

rose_more : (f g h : ℕ) → f ≤ g → Rose g h → Rose f h
rose_more f g h earlier rose = omega (arith, earlier, rose)

reported_later : (files : Files) (b a : Option (List ℕ)) (f g h : ℕ) (command : CommandLine) (sealed : Ended Content Plan) (takes : Option (List ℕ) → Option (List ℕ) → List ℕ → Type 0)
    → IsReported (outside_by files b a f g) command sealed takes → IsReported (outside_by files b a f h) command sealed takes
reported_later files b a f g h command sealed takes r = record { asked = r.asked; valid = r.valid; good = r.good; taken = r.taken }

prefix_of_all : (old new : Option (List ℕ)) (bytes : List ℕ) → TakesAll old new bytes → TakesPrefix old new bytes
prefix_of_all old new bytes all =
    (length bytes, omega arith, subst (λ (xs : List ℕ). TakesAll old new xs) (sym (take_all (length bytes) bytes (omega arith))) all)

reported_part : (files : Files) (b a : Option (List ℕ)) (f g h : ℕ) (command : CommandLine) (sealed : Ended Content Plan)
    → IsReported (outside_by files b a f g) command sealed TakesAll → IsReported (outside_by files b a f h) command sealed TakesPrefix
reported_part files b a f g h command sealed r = record { asked = r.asked; valid = r.valid; good = r.good; taken = prefix_of_all b a _ r.taken }

answer_later : (exit : Exit) (done : Bool) (files : Files) (b a : Option (List ℕ)) (f g h : ℕ) (command : CommandLine) → f ≤ g → g ≤ h → (done ≡ false → Rose g h)
    → IsAnswer exit (outside_by files b a f g) command → IsAnswer (answer_after done exit) (outside_by files b a f h) command
answer_later (Done sealed) true files b a f g h command earlier later failed is = reported_later files b a f g h command sealed TakesAll is
answer_later (Done sealed) false files b a f g h command earlier later failed is = (reported_part files b a f g h command sealed is, rose_more f g h earlier (failed refl))
answer_later (WriteFault sealed) true files b a f g h command earlier later failed is = (reported_later files b a f g h command sealed TakesPrefix is.0, rose_later f g h later is.1)
answer_later (WriteFault sealed) false files b a f g h command earlier later failed is = (reported_later files b a f g h command sealed TakesPrefix is.0, rose_later f g h later is.1)
answer_later Usage true files b a f g h command earlier later failed is = is
answer_later Usage false files b a f g h command earlier later failed is = is
answer_later (PlatformRefused code table key) true files b a f g h command earlier later failed is = is
answer_later (PlatformRefused code table key) false files b a f g h command earlier later failed is = is
answer_later (ScriptRefused initiator name line code) true files b a f g h command earlier later failed is = is
answer_later (ScriptRefused initiator name line code) false files b a f g h command earlier later failed is = is
answer_later (ReadFault name) true files b a f g h command earlier later failed is = is
answer_later (ReadFault name) false files b a f g h command earlier later failed is = is
answer_later NoMemory true files b a f g h command earlier later failed is = is
answer_later NoMemory false files b a f g h command earlier later failed is = is
answer_later (TooLong name) true files b a f g h command earlier later failed is = is
answer_later (TooLong name) false files b a f g h command earlier later failed is = is

usage_stays : (exit : Exit) (done : Bool) → exit ≡ Usage → answer_after done exit ≡ Usage
usage_stays exit true is = subst (λ (e : Exit). answer_after true e ≡ Usage) (sym is) refl
usage_stays exit false is = subst (λ (e : Exit). answer_after false e ≡ Usage) (sym is) refl

explained_by : (asked : Option CommandLine) (exit : Exit) (done : Bool) (files : Files) (b a : Option (List ℕ)) (f g h : ℕ) → f ≤ g → g ≤ h → (done ≡ false → Rose g h)
    → IsExplainedBy asked exit (outside_by files b a f g) → IsExplainedBy asked (answer_after done exit) (outside_by files b a f h)
explained_by None exit done files b a f g h earlier later failed is = (usage_stays exit done is.0, is.1)
explained_by (Some command) exit done files b a f g h earlier later failed is = answer_later exit done files b a f g h command earlier later failed is

-- an answer is explained after the rest was written, or wasn't: what was taken stays, and the count rose if it wasn't
pub explained_after : (exit : Exit) (done : Bool) (files : Files) (b a c : Option (List ℕ)) (f g h : ℕ) (words : List (List ℕ)) → c ≡ a → f ≤ g → g ≤ h → (done ≡ false → Rose g h)
    → IsExplained exit (outside_by files b a f g) words → IsExplained (answer_after done exit) (outside_by files b c f h) words
explained_after exit done files b a c f g h words same earlier later failed is =
    subst (λ (x : Option (List ℕ)). IsExplained (answer_after done exit) (outside_by files b x f h) words) (sym same)
    (explained_by (command_of words) exit done files b a f g h earlier later failed is)

-- what is told of the answer in the end
told_in_all : (exit : Exit) (done : Bool) → told_of exit ++ told_after done exit ≡ told_of (answer_after done exit)
told_in_all (Done sealed) true = refl
told_in_all (Done sealed) false = refl
told_in_all Usage true = append-nil _
told_in_all Usage false = append-nil _
told_in_all (PlatformRefused code table key) true = append-nil _
told_in_all (PlatformRefused code table key) false = append-nil _
told_in_all (ScriptRefused initiator name line code) true = append-nil _
told_in_all (ScriptRefused initiator name line code) false = append-nil _
told_in_all (ReadFault name) true = append-nil _
told_in_all (ReadFault name) false = append-nil _
told_in_all (WriteFault sealed) true = append-nil _
told_in_all (WriteFault sealed) false = append-nil _
told_in_all NoMemory true = append-nil _
told_in_all NoMemory false = append-nil _
told_in_all (TooLong name) true = append-nil _
told_in_all (TooLong name) false = append-nil _

-- it was told first of an answer and then of what the flush made of it, and what was taken stays in the end
pub tells_in_all : (exit : Exit) (done : Bool) (a b c d : Option (List ℕ)) (f g h k : ℕ) → f ≤ g → g ≤ h → h ≤ k → d ≡ c → Tells (change a b f g) (told_of exit) → Tells (change b c g h) (told_after done exit)
    → Tells (change a d f k) (told_of (answer_after done exit))
tells_in_all exit done a b c d f g h k first second third same before after calm =
    let one : TakesAll a b (told_of exit) = before (λ rose. calm (rose_later f g k (omega (arith, second, third)) rose)) in
    let two : TakesAll b c (told_after done exit) = after (λ rose. calm (rose_later f h k third (rose_more f g h first rose))) in
    subst (λ (x : Option (List ℕ)). TakesAll a x (told_of (answer_after done exit))) (sym same)
    (subst (λ (xs : List ℕ). TakesAll a c xs) (told_in_all exit done) (takes-more a b c (told_of exit) (told_after done exit) one two))

-- nothing waits of what is done in the end, since what couldn't be written isn't done
pub written_after : (exit : Exit) (done : Bool) (s : StreamState) → (done ≡ true → s.waiting ≡ []) → IsWritten (answer_after done exit) s
written_after (Done sealed) true s empty = empty refl
written_after (Done sealed) false s empty = tt
written_after Usage true s empty = tt
written_after Usage false s empty = tt
written_after (PlatformRefused code table key) true s empty = tt
written_after (PlatformRefused code table key) false s empty = tt
written_after (ScriptRefused initiator name line code) true s empty = tt
written_after (ScriptRefused initiator name line code) false s empty = tt
written_after (ReadFault name) true s empty = tt
written_after (ReadFault name) false s empty = tt
written_after (WriteFault sealed) true s empty = tt
written_after (WriteFault sealed) false s empty = tt
written_after NoMemory true s empty = tt
written_after NoMemory false s empty = tt
written_after (TooLong name) true s empty = tt
written_after (TooLong name) false s empty = tt

-- nothing waits where the count didn't rise
pub emptied : (done : Bool) (f h k : ℕ) (waiting : List ℕ) → f ≤ h → (done ≡ false → Rose h k) → (done ≡ true → waiting ≡ []) → ¬ Rose f k → waiting ≡ []
emptied true f h k waiting earlier failed empty calm = empty refl
emptied false f h k waiting earlier failed empty calm = absurd (calm (rose_more f h k earlier (failed refl)))
