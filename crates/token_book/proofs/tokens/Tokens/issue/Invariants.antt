use Rattle.token_book.proofs.tokens.Tokens.issue.Given as goal

abbrev pub ghosts-issue_as-N-Names : goal.ghosts-issue_as-N-Names
ghosts-issue_as-N-Names a = record { name = a.name }

abbrev pub ghosts-issue_as-A-Amounts : goal.ghosts-issue_as-A-Amounts
ghosts-issue_as-A-Amounts a = record { amount = a.amount }
