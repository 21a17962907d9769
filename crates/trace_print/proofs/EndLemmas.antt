-- The lines of the ends are those of the definitions.
use Rattle.std.proofs.Common.{◌≡◌, ℕ, ◌+◌, zero, suc, List, [], ◌∷◌, ◌++◌, length, map, Some, Bool, true, false, refl, ap, sym, ◌∙◌, arith, append_assoc, take}
use Rattle.std.specs.Prelude.{slice_get}
use Rattle.std.specs.List.{filter, flat_map}
use Rattle.std.proofs.lemmas.List.{append-nil, length-map, take_all}
use Rattle.tlm_types.specs.declared.ends.EndOf.{EndOf}
use Rattle.tlm_types.specs.declared.ends.RefusedItem.{RefusedItem}
use Rattle.tlm_types.specs.declared.entry.Entry.{Entry}
use Rattle.tlm_model.specs.declared.operation.Operation.{Operation}
use Rattle.tlm_model.specs.declared.platform.InitiatorRow.{InitiatorRow}
use Rattle.tlm_model.specs.declared.platform.Platform.{Platform}
use Rattle.tlm_model.specs.Plan.{Initiator, Plan, initiators_from}
use Rattle.tlm_model.specs.Requests.{Asked, Transport, DebugRead, Invalidation, Request, numbers_in, requests_of, has_no_route, refused_of}
use Rattle.tlm_model.specs.Rounds.{syncs_of}
use Rattle.tlm_model.specs.Text.{line_of}
use Rattle.report_model.specs.Ends.{IsEndOf, end_of_initiator, refused_at, time_of_issue}
use Rattle.report_model.specs.Report.{ends_words, initiator_lines, refused_words}
use Rattle.trace_print.specs.Told.{end_lines, ends_lines, refused_item_words, text_of}
use Rattle.trace_print.proofs.Texts.{map-more, text-append, text-one}

-- an invalidation is never refused: what has no route is an access or a debug read
words-is : (p : Platform) (i : Initiator) (name : List ℕ) (r : Request) (t : ℕ) (a : Asked) → r.asked ≡ a → has_no_route p i r a ≡ true → refused_item_words name (refused_at r t) ≡ refused_words name r t
words-is p i name r t (Transport a) e h = rw e refl
words-is p i name r t (DebugRead a) e h = rw e refl
words-is p i name r t (Invalidation n) e h = cc

-- each refused request, issued at the time that `issued` gives
module _ (p : Platform) (i : Initiator) (name : List ℕ) (issued : Request → ℕ) where
  abbrev told : List Request → List (List (List ℕ))
  told rs = map (refused_item_words name) (map (λ q. refused_at q (issued q)) (filter (λ q. has_no_route p i q q.asked) rs))

  abbrev reported : List Request → List (List (List ℕ))
  reported rs = map (λ q. refused_words name q (issued q)) (filter (λ q. has_no_route p i q q.asked) rs)

  refused-step : (r : Request) (rs : List Request) (b : Bool) → has_no_route p i r r.asked ≡ b → told rs ≡ reported rs → told (r ∷ rs) ≡ reported (r ∷ rs)
  refused-step r rs true e rest =
      rw e (ap (λ (w : List (List ℕ)). w ∷ told rs) (words-is p i name r (issued r) r.asked refl e)
      ∙ ap (λ (l : List (List (List ℕ))). refused_words name r (issued r) ∷ l) rest)
  refused-step r rs false e rest = rw e rest

  refused-lines : (rs : List Request) → told rs ≡ reported rs
  refused-lines [] = refl
  refused-lines (r ∷ rs) = refused-step r rs (has_no_route p i r r.asked) refl (refused-lines rs)

pub end-is : (p : Plan) (h : List Entry) (i : Initiator) (end : EndOf) → IsEndOf p i h end → end_lines i.row end ≡ initiator_lines p h i
end-is p h i end is =
    let refused = refused_of p.platform i h in
    let count : length end.refused.items ≡ length refused = ap length is.refused ∙ length-map refused (λ (r : Request). refused_at r (time_of_issue p h i r)) in
    let lines : map (refused_item_words i.row.name) end.refused.items ≡ map (λ (r : Request). refused_words i.row.name r (time_of_issue p h i r)) refused =
    ap (map (refused_item_words i.row.name)) is.refused ∙ refused-lines p.platform i i.row.name (time_of_issue p h i) (requests_of p.platform i h) in
    rw (is.transactions, is.syncs, is.time, count) (ap (λ (l : List (List (List ℕ))). ends_words i.row.name i.row.style (numbers_in i.script) (length refused) (syncs_of p.platform i) (end_of_initiator p h i) ∷ l) lines)

-- the lines of all initiators, from the n-th on
pub ends-are : (p : Plan) (h : List Entry) (n : ℕ) (rows : List InitiatorRow) (scripts : List (List Operation)) (ends : List EndOf) →
    length scripts ≡ length rows → length ends ≡ length rows →
    ((k : ℕ) (i : Initiator) (end : EndOf) → slice_get (initiators_from n rows scripts) k ≡ Some i → slice_get ends k ≡ Some end → IsEndOf p i h end) →
    ends_lines rows ends ≡ flat_map (initiator_lines p h) (initiators_from n rows scripts)
ends-are p h n [] scripts ends ls le are = refl
ends-are p h n (row ∷ rows) [] ends ls le are = absurd (omega (arith, ls))
ends-are p h n (row ∷ rows) (script ∷ scripts) [] ls le are = absurd (omega (arith, le))
ends-are p h n (row ∷ rows) (script ∷ scripts) (end ∷ ends) ls le are =
    let i : Initiator = record { number = n; row = row; script = script } in
    ap (λ (l : List (List (List ℕ))). l ++ ends_lines rows ends) (end-is p h i end (are 0 i end refl refl))
    ∙ ap (λ (l : List (List (List ℕ))). initiator_lines p h i ++ l)
    (ends-are p h (n + 1) rows scripts ends (omega (arith, ls)) (omega (arith, le)) (λ k j e a b. are (suc k) j e a b))

-- the lines of one refusal more
pub refusals-more : (name : List ℕ) (items : List RefusedItem) (k : ℕ) (item : RefusedItem) → slice_get items k ≡ Some item →
    text_of (map (refused_item_words name) (take k items)) ++ line_of (refused_item_words name item) ≡ text_of (map (refused_item_words name) (take (k + 1) items))
refusals-more name items k item e =
    let before = map (refused_item_words name) (take k items) in
    let last = refused_item_words name item in
    ap (λ (l : List ℕ). text_of before ++ l) (sym (text-one last))
    ∙ (sym (text-append before (last ∷ []))
    ∙ ap text_of (sym (map-more (refused_item_words name) items k item e)))

ends-next : (rows : List InitiatorRow) (ends : List EndOf) (k : ℕ) (row : InitiatorRow) (end : EndOf) → slice_get rows k ≡ Some row → slice_get ends k ≡ Some end →
    ends_lines (take (k + 1) rows) (take (k + 1) ends) ≡ ends_lines (take k rows) (take k ends) ++ end_lines row end
ends-next [] ends k row end a b = cc
ends-next (r ∷ rows) [] k row end a b = cc
ends-next (r ∷ rows) (e ∷ ends) zero row end a b =
    let same : r ≡ row = cc in
    let kept : e ≡ end = cc in
    append-nil (end_lines r e) ∙ (ap (λ (x : InitiatorRow). end_lines x e) same ∙ ap (λ (x : EndOf). end_lines row x) kept)
ends-next (r ∷ rows) (e ∷ ends) (suc k) row end a b =
    let n : suc k + 1 ≡ suc (k + 1) = omega arith in
    ap (λ (i : ℕ). ends_lines (take i (r ∷ rows)) (take i (e ∷ ends))) n
    ∙ (ap (λ (l : List (List (List ℕ))). end_lines r e ++ l) (ends-next rows ends k row end a b)
    ∙ sym (append_assoc (end_lines r e) (ends_lines (take k rows) (take k ends)) (end_lines row end)))

-- the lines of one initiator more
pub ends-more : (rows : List InitiatorRow) (ends : List EndOf) (k : ℕ) (row : InitiatorRow) (end : EndOf) → slice_get rows k ≡ Some row → slice_get ends k ≡ Some end →
    text_of (ends_lines (take k rows) (take k ends)) ++ text_of (end_lines row end) ≡ text_of (ends_lines (take (k + 1) rows) (take (k + 1) ends))
ends-more rows ends k row end a b =
    sym (text-append (ends_lines (take k rows) (take k ends)) (end_lines row end)) ∙ ap text_of (sym (ends-next rows ends k row end a b))

-- the lines of all rows
pub ends-all : (rows : List InitiatorRow) (ends : List EndOf) (n : ℕ) → n ≡ length rows → length ends ≡ length rows → text_of (ends_lines (take n rows) (take n ends)) ≡ text_of (ends_lines rows ends)
ends-all rows ends n e le =
    let a : take n rows ≡ rows = take_all n rows (omega arith) in
    let b : take n ends ≡ ends = take_all n ends (omega arith) in
    rw (a, b) refl
