-- The line of a call at a hop, or of an entry of a pool.
use Rattle.std.specs.Prelude.{ℕ, List, ◌++◌, Bool, true, false, codes}
use Rattle.log_items.specs.Items.{brief_what}
use Rattle.report_model.specs.Report.{what_words}
use Rattle.tlm_model.specs.Text.{line_of}
use Rattle.line_text.specs.declared.event.EventLine.{EventLine}
use Rattle.line_text.specs.FrontText.{front_text}

-- what stands behind the slot of a release
abbrev pub freed_text : Bool → List ℕ
freed_text true = codes " freed\n"
freed_text false = codes "\n"

-- the whole line
abbrev pub event_text : EventLine → List ℕ
event_text a = front_text a.front ++ (a.object.now ++ (codes " " ++ line_of (what_words (brief_what a.event))))
