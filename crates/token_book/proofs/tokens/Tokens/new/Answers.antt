use Rattle.token_book.proofs.Keeps.{opens}
use Rattle.token_book.proofs.tokens.Tokens.new.Goals as goal

pub of_words-requires : goal.of_words-requires
of_words-requires c = opens
