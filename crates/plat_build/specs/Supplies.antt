-- What the objects of a net are made with.
use Rattle.std.specs.Prelude.{ℕ, ◌≡◌, ◌+◌, ◌≤◌, List, length, sum_by}
use Rattle.std.specs.List.{range_with_len}
use Rattle.atomic_table.specs.Seated.{TableId}
use Rattle.one_history.specs.declared.view.Frame.{Frame}
use Rattle.one_history.specs.Held.{Held}
use Rattle.one_history.specs.Moves.{fresh}
use Rattle.token_book.specs.Account.{Account, fresh as fresh_book, out_of}
use Rattle.token_book.specs.Purse.{Purse}
use Rattle.tlm_types.specs.declared.entry.Content.{Content}
use Rattle.tlm_types.specs.declared.words.ObjectNo.{ObjectNo}
use Rattle.tlm_model.specs.Plan.{Plan}
use Rattle.plat_build.specs.Kept.{AreFreshFrom, AreFreshBooksFrom}
use Rattle.plat_net.specs.Objects.{bytes_at}
use Rattle.plat_build.specs.Tickets.{AreStocked}
use Rattle.plat_build.specs.Unused.{added_by_all}
use Rattle.plat_build.specs.declared.supplies.Supply.{Supply}

-- The seat and the two books of each object from number n on, in order, and the wallets with the tickets of those before it. The owners of second
-- books come after those of all first ones.
pub record AreSupplies (table tokens : TableId) (frame : Frame Plan) (n : ℕ) (seats : List (Held Content Plan)) (books seconds : List Account) (wallets : List Purse) : Type 0 where
  pub few : length frame.planned ≤ 336
  pub seats_fresh : AreFreshFrom table frame n seats
  pub books_fresh : AreFreshBooksFrom tokens n books
  pub seconds_fresh : AreFreshBooksFrom tokens (length frame.planned + n) seconds
  pub seat_count : n + length seats ≡ length frame.planned
  pub book_count : length books ≡ length seats
  pub second_count : length seconds ≡ length seats
  pub stocked : AreStocked tokens frame.world n wallets

-- the bytes that all initiators may log at an object together
abbrev pub logged_by_all : Plan → ObjectNo → ℕ
logged_by_all p o = sum_by (λ n. bytes_at p n o) (range_with_len 0 (length p.platform.initiators))

-- What object number n is made with: an empty seat, a book of which the tickets of all initiators are out, and an empty second book.
pub record IsSupply (table tokens : TableId) (frame : Frame Plan) (n : ℕ) (o : ObjectNo) (s : Supply) : Type 0 where
  pub seat_of : s.seat.table ≡ table
  pub seat_knows : s.seat.knows ≡ fresh frame n
  pub book_of : s.book.table ≡ tokens
  pub book_owner : s.book.owner ≡ n
  pub entries : out_of 0 s.book.out ≡ added_by_all frame.world o
  pub bytes : out_of 1 s.book.out ≡ logged_by_all frame.world o
  pub second : s.second ≡ fresh_book tokens (length frame.planned + n)
