use Rattle.std.proofs.Common.{◌≡◌, ℕ, ◌+◌, [], length, Some}
use Rattle.std.specs.Prelude.{slice_get}
use Rattle.token_book.specs.Account.{fresh, Account}
use Rattle.token_book.specs.Rule.{a_book}
use Rattle.token_book.proofs.tokens.Tokens.make_all.Given as goal

abbrev pub invariant-loop-owner : goal.invariant-loop-owner
invariant-loop-owner l = record {
  table : l.first.table_id ≡ l.self;
  first : l.first.me ≡ (a_book 0 [] (Some l.owner), []);
  count : length l.books.items + 1 ≡ l.owner;
  books : (o : ℕ) (b : Account) → slice_get l.books.items o ≡ Some b → b ≡ fresh l.self (o + 1);
}
