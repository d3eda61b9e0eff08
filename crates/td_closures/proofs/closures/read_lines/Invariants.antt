use Rattle.std.proofs.Common.{◌≡◌, ◌+◌, ◌≤◌, length}
use denote.Text.{Utf8}
use denote.Shadow.{shadow}
use Rattle.td_plan.specs.Text.{text_lines}
use Rattle.td_closures.specs.Drafts.{no_draft}
use Rattle.td_closures.specs.Texts.{lines_from}
use Rattle.td_closures.specs.Kept.{draft_by}
use Rattle.td_closures.proofs.closures.read_lines.Given as goal

abbrev pub invariant-loop-line : goal.invariant-loop-line
invariant-loop-line l =
    shadow (Utf8 l.rest) × (lines_from no_draft 0 (text_lines l.fn.text) ≡ lines_from (draft_by l.draft) l.number (text_lines l.rest)) × (l.number + length l.rest ≤ length l.fn.text)

abbrev pub decreases-loop-line : goal.decreases-loop-line
decreases-loop-line l = length l.rest
