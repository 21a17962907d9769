use Rattle.time_board.proofs.board.Board.advance.Goals as goal

pub returns : goal.returns
returns g c = (c.deref_mut.result.now, c.advance.ensures.were_close, c.advance.ensures.answer)
