-- The rule of all seats of a table, and what each step does to a seat.
use Rattle.std.specs.Prelude.{◌≡◌, ℕ, ◌+◌, ◌-◌, ◌<◌, ◌≤◌, ◌^◌, ◌==◌, List, [], ◌∷◌, Option, Some, None, cond}
use Rattle.std.specs.List.{sum_by}
use mathlib.Core.Option.{some}
use lib.ListN.{get_elem?}
use Rattle.atomic_table.specs.Table.{State, Step, Me}
use Rattle.token_book.specs.declared.view.Page.{Page}
use Rattle.token_book.specs.declared.view.View.{View}
use Rattle.token_book.specs.declared.view.View.TheVariants.{Book, Token, Spent}
use Rattle.token_book.specs.Account.{out_of}

-- the seat of a book that has taken in no token
abbrev pub a_book : ℕ → List (ℕ × ℕ) → Option ℕ → View
a_book owner out made = Book (record { owner = owner; out = out; taking = None; made = made })

-- the seat of a token
abbrev pub a_token : ℕ → ℕ → ℕ → View
a_token owner name amount = Token (record { owner = owner; name = name; amount = amount })

-- the first seat: the book of owner 0, the one book that there is
abbrev pub first_book : View
first_book = a_book 0 [] (Some 1)

-- what is out of a seat's book
abbrev pub out_in : View → List (ℕ × ℕ)
out_in (Book p) = p.out
out_in (Token t) = []
out_in Spent = []

-- how many books a seat counts
abbrev pub made_in : View → Option ℕ
made_in (Book p) = p.made
made_in (Token t) = None
made_in Spent = None

-- whose book a seat is
abbrev pub book_owner : View → Option ℕ
book_owner (Book p) = Some p.owner
book_owner (Token t) = None
book_owner Spent = None

-- whose a seat is
abbrev pub owner_in : View → ℕ
owner_in (Book p) = p.owner
owner_in (Token t) = t.owner
owner_in Spent = 0

-- the name of a seat's token
abbrev pub name_in : View → ℕ
name_in (Book p) = 0
name_in (Token t) = t.name
name_in Spent = 0

-- what an amount of an owner's name counts for the owner o and the name n
abbrev pub counts_for : ℕ → ℕ → ℕ → ℕ → ℕ → ℕ
counts_for o n owner name amount = cond (owner == o) (cond (name == n) amount 0) 0

-- what the token that a book has taken in counts for the owner o and the name n
abbrev pub taken_for : ℕ → ℕ → ℕ → Option (ℕ × ℕ) → ℕ
taken_for o n owner None = 0
taken_for o n owner (Some t) = counts_for o n owner t.0 t.1

-- what a seat holds of the name n of the owner o
abbrev pub held_of : ℕ → ℕ → View → ℕ
held_of o n (Book p) = taken_for o n p.owner p.taking
held_of o n (Token t) = counts_for o n t.owner t.name t.amount
held_of o n Spent = 0

-- what the rule says of an owner's book that is seat i
pub record IsPage (views : List View) (place : ℕ → ℕ) (made i : ℕ) (p : Page) : Type 0 where
  -- there are more books than its number
  pub below : p.owner < made
  -- its owner has no other
  pub alone : place p.owner ≡ i
  -- the book of owner 0 counts the books
  pub counts : p.made ≡ cond (p.owner == 0) (Some made) None
  -- what all tokens of its owner and a name amount to is what it has out
  pub sums : (n : ℕ) → sum_by (held_of p.owner n) views ≡ out_of n p.out
  -- what is out fits a token
  pub small : (n : ℕ) → out_of n p.out < 2 ^ 64

-- what the rule says of seat i
abbrev pub Fits : List View → (ℕ → ℕ) → ℕ → ℕ → View → Type 0
Fits views place made i (Book p) = IsPage views place made i p
Fits views place made i (Token t) = t.owner < made
Fits views place made i Spent = Unit {0}

-- the owner o has a book, which is seat i
abbrev pub HasBook : List View → ℕ → ℕ → Type 0
HasBook views i o = (v : View) × (get_elem? views i ≡ some v) × (book_owner v ≡ Some o)

-- the rule: for each owner and name, all tokens amount to what the owner's one book has out
pub record IsCounted (s : State ℕ View) : Type 0 where
  pub made : ℕ
  pub place : ℕ → ℕ
  pub word : s.words ≡ 0 ∷ []
  pub books : (o : ℕ) → o < made → HasBook s.views (place o) o
  pub fits : (i : ℕ) (v : View) → get_elem? s.views i ≡ some v → Fits s.views place made i v

-- a number, or 0 without one
abbrev pub or_zero : Option ℕ → ℕ
or_zero None = 0
or_zero (Some n) = n

-- the first book, after it made one more
abbrev pub one_more : View → View
one_more (Book p) = Book (record { owner = p.owner; out = p.out; taking = p.taking; made = Some (or_zero p.made + 1) })
one_more (Token t) = Token t
one_more Spent = Spent

-- the book that it made
abbrev pub next_book : View → View
next_book v = a_book (or_zero (made_in v)) [] None

-- the list of what is out, with this amount more of the name
abbrev pub put_out : ℕ → ℕ → List (ℕ × ℕ) → List (ℕ × ℕ)
put_out name amount out = (name, out_of name out + amount) ∷ out

-- a book, after it issued an amount of a name
abbrev pub more_out : ℕ → ℕ → View → View
more_out name amount (Book p) = Book (record { owner = p.owner; out = put_out name amount p.out; taking = p.taking; made = p.made })
more_out name amount (Token t) = Token t
more_out name amount Spent = Spent

-- the token that it issued
abbrev pub new_token : ℕ → ℕ → View → View
new_token name amount v = a_token (or_zero (book_owner v)) name amount

-- a token, after an amount was taken off
abbrev pub less_by : ℕ → View → View
less_by amount (Book p) = Book p
less_by amount (Token t) = a_token t.owner t.name (t.amount - amount)
less_by amount Spent = Spent

-- the token of that amount
abbrev pub part_of : ℕ → View → View
part_of amount (Book p) = Spent
part_of amount (Token t) = a_token t.owner t.name amount
part_of amount Spent = Spent

-- how much a seat's token is
abbrev pub amount_in : View → ℕ
amount_in (Book p) = 0
amount_in (Token t) = t.amount
amount_in Spent = 0

-- the name and the amount of a seat's token
abbrev pub named_amount : View → Option (ℕ × ℕ)
named_amount (Book p) = None
named_amount (Token t) = Some (t.name, t.amount)
named_amount Spent = None

-- a token, after another was merged into it
abbrev pub merged : View → View → View
merged (Book p) w = Book p
merged (Token t) w = a_token t.owner t.name (t.amount + amount_in w)
merged Spent w = Spent

-- a book, after it took a token in
abbrev pub taking_in : View → View → View
taking_in (Book p) w = Book (record { owner = p.owner; out = p.out; taking = named_amount w; made = p.made })
taking_in (Token t) w = Token t
taking_in Spent w = Spent

-- what is out after the token that a book took in was struck off
abbrev pub struck_off : Option (ℕ × ℕ) → List (ℕ × ℕ) → List (ℕ × ℕ)
struck_off None out = out
struck_off (Some t) out = (t.0, out_of t.0 out - t.1) ∷ out

-- a book, after it struck off the token that it took in
abbrev pub settled : View → View
settled (Book p) = a_book p.owner (struck_off p.taking p.out) p.made
settled (Token t) = Token t
settled Spent = Spent

-- this much was out
abbrev pub WasOut : Option (ℕ × ℕ) → List (ℕ × ℕ) → Type 0
WasOut None out = Unit {0}
WasOut (Some t) out = t.1 ≤ out_of t.0 out

-- what a book took in was out
abbrev pub TookWhatWasOut : View → Type 0
TookWhatWasOut (Book p) = WasOut p.taking p.out
TookWhatWasOut (Token t) = Unit {0}
TookWhatWasOut Spent = Unit {0}

-- the look by which a book strikes off what it took in
abbrev pub Settled : Step ℕ → Me ℕ View → ℕ → Me ℕ View → Type 0
Settled st me found me' = (me' ≡ (settled me.0, me.1)) × TookWhatWasOut me.0

-- the look by which a token learns that its amount fits
abbrev pub Weighed : Step ℕ → Me ℕ View → ℕ → Me ℕ View → Type 0
Weighed st me found me' = (me' ≡ me) × (amount_in me.0 < 2 ^ 64)
