-- What was opened for a plan is what building its net needs.
use Rattle.std.proofs.Common.{◌≡◌, ℕ, ◌≤◌, ◌*◌, List, [], length, sym, ap, subst, ◌∙◌, arith}
use Rattle.atomic_table.specs.Seated.{TableId}
use Rattle.one_history.specs.declared.view.Frame.{Frame}
use Rattle.one_history.specs.declared.view.View.{View}
use Rattle.one_history.specs.Held.{Held}
use Rattle.one_history.specs.Moves.{counting}
use Rattle.one_history.specs.Seats.{AreFresh}
use Rattle.token_book.specs.Account.{Account, AreFresh as AreFreshBooks}
use Rattle.tlm_types.specs.declared.entry.Content.{Content}
use Rattle.tlm_model.specs.Plan.{Plan}
use Rattle.platform_model.specs.Bounded.{IsBounded}
use Rattle.plat_build.specs.Kept.{AreFreshFrom, AreFreshBooksFrom}
use Rattle.cargo_model.specs.Known.{objects_of}
use Rattle.plat_net.specs.Objects.{frame_of, notes_of}
use Rattle.plat_build.specs.Opened.{AreAllSupplies, IsFirstNote, IsOpened}
use Rattle.plat_build.proofs.KeptLemmas.{books_from, seats_from}
use Rattle.plat_net.proofs.ObjectLemmas.{count_planned, few_objects}

-- what the net of a plan is built of
pub record MayBuild (table tokens : TableId) (frame : Frame Plan) (p : Plan) (seats : List (Held Content Plan)) (note : Held Content Plan) (books : List Account) : Type 0 where
  pub made : frame ≡ frame_of p
  pub supplies : AreAllSupplies table tokens frame p seats books
  pub first : IsFirstNote table p.platform note

pub may_build : (table tokens : TableId) (frame : Frame Plan) (p : Plan) (table_there tokens_there : TableId) (frame_there : Frame Plan) (seats : List (Held Content Plan)) (note : Held Content Plan) (books : List Account)
    → IsOpened table_there tokens_there frame_there seats note books → table_there ≡ table → frame_there ≡ frame → tokens_there ≡ tokens → p ≡ frame.world → IsBounded p.platform → MayBuild table tokens frame p seats note books
may_build table tokens frame p table_there tokens_there frame_there seats note books h same_table same_frame same_tokens plan bounded =
    let made : frame ≡ frame_of p = sym same_frame ∙ (h.made ∙ (ap (λ (f : Frame Plan). frame_of f.world) same_frame ∙ ap frame_of (sym plan))) in
    let planned : length seats ≡ length frame.planned = h.seat_count ∙ ap (λ (f : Frame Plan). length f.planned) same_frame in
    let places : length seats ≡ length (objects_of p.platform) = planned ∙ (ap (λ (f : Frame Plan). length f.planned) made ∙ count_planned p) in
    let seats_fresh : AreFresh table frame seats = subst (λ (t : TableId). AreFresh t frame seats) same_table (subst (λ (f : Frame Plan). AreFresh table_there f seats) same_frame h.seats_fresh) in
    let books_fresh : AreFreshBooks tokens books = subst (λ (t : TableId). AreFreshBooks t books) same_tokens h.books_fresh in
    let knows : note.knows ≡ counting frame (length frame.planned) = subst (λ (f : Frame Plan). note.knows ≡ counting f (length f.planned)) same_frame h.note_knows in
    let twice : length books ≡ 2 * length frame.planned = h.book_count ∙ ap (λ (f : Frame Plan). 2 * length f.planned) same_frame in
    record {
      made = made;
      supplies = record {
        planned = planned;
        places = places;
        fresh_seats = seats_from table frame seats seats_fresh;
        fresh_books = books_from tokens books books_fresh;
        twice = twice;
        few = omega (arith, planned, places, few_objects p.platform bounded);
      };
      first = record {
        note_of = h.note_of ∙ same_table;
        notes = ap (λ (v : View Content Plan). v.notes) knows ∙ ap (λ (f : Frame Plan). f.notes) made;
        unseen = ap (λ (v : View Content Plan). v.seen) knows;
        unknown = ap (λ (v : View Content Plan). v.known) knows;
        unlooked = ap (λ (v : View Content Plan). v.looks) knows;
        outside = ap (λ (v : View Content Plan). v.stays) knows;
      };
    }
