use Rattle.token_book.proofs.tokens.Tokens.part_amount.Given as goal

abbrev pub ghosts-part_as : goal.ghosts-part_as
ghosts-part_as a = record { amount = a.amount }
