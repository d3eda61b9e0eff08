-- What the reader answers, computed line by line: the first pass, and then the second.
use Rattle.std.specs.Prelude.{◌≡◌, ◌⊎◌, ℕ, ◌+◌, Bool, not, ◌&&◌, ◌||◌, false, if◌then◌else◌, List, [], ◌∷◌, ◌++◌, length, find, Option, Some, None, option_map, Result, Ok, Err}
use Rattle.std.specs.List.{slice_get}
use Rattle.td_plan.specs.declared.error.PlanError.{PlanError}
use Rattle.td_plan.specs.declared.error.PlanError.TheVariants as errors
use Rattle.td_plan.specs.declared.vertex.Kind.{Kind}
use Rattle.td_plan.specs.declared.vertex.Loop.{Loop}
use Rattle.td_plan.specs.declared.reader.Feedback.{Feedback}
use Rattle.td_plan.specs.Text.{text_lines}
use Rattle.td_plan.specs.Lines.{Line}
use Rattle.td_plan.specs.Lines.Line.{vertex}
use Rattle.td_plan.specs.Blocks.{PlacedVertex, scope_of, vertices}
use Rattle.td_plan.specs.Faults.{Fault, fault_of, has_ends, is_feedback, is_in_loop, is_of_loops, is_of_outermost, is_nil, is_stray_feedback}
use Rattle.td_plan.specs.Steps.Words.{reading_of}

-- a kind does not belong where these loops are open
abbrev pub is_misplaced : List Loop → Kind → Bool
is_misplaced loops kind = (is_in_loop loops && is_of_outermost kind) || (not (is_in_loop loops) && is_of_loops kind)

-- a number is that of a stray feedback
abbrev pub is_stray_at : List PlacedVertex → ℕ → Bool
is_stray_at placed number = elim (slice_get placed number) [ None ↦ false | Some p ↦ is_stray_feedback placed p ]

-- the refusal for a fault at a line
abbrev pub error_of : Fault → ℕ → PlanError
error_of Fault.syntax n = errors.Syntax n
error_of Fault.number n = errors.Number n
error_of Fault.order n = errors.Order n
error_of Fault.nest n = errors.Nest n
error_of Fault.bound n = errors.Bound n
error_of Fault.fold_in_loop n = errors.FoldInLoop n
error_of Fault.again n = errors.Again n
error_of Fault.too_many n = errors.TooMany n

-- THE FIRST PASS
-- What was read: the lines of the plan so far, and the feedbacks among them
pub record Draft : Type 0 where
  pub lines : List Line
  pub feedbacks : List Feedback

abbrev pub no_draft : Draft
no_draft = record { lines = []; feedbacks = [] }

-- the feedback at line n of the text, if this is one
abbrev pub feedback_of : ℕ → Line → List Feedback
feedback_of n (vertex v) = if is_feedback v.kind then record { line = n; number = v.number } ∷ [] else []
feedback_of n line = []

-- the draft with this line of the plan, or the line's first fault, at line n of the text
abbrev pub line_or_fault : Draft → ℕ → Line → Option Fault → Result Draft PlanError
line_or_fault draft n line None = Ok (record { lines = draft.lines ++ line ∷ []; feedbacks = draft.feedbacks ++ feedback_of n line })
line_or_fault draft n line (Some fault) = Err (error_of fault n)

abbrev pub with_line : Draft → ℕ → Line → Result Draft PlanError
with_line draft n line = line_or_fault draft n line (fault_of (scope_of draft.lines) line)

-- and with this line of the text
abbrev pub with_reading : Draft → ℕ → Option (Option Line) → Result Draft PlanError
with_reading draft n None = Err (errors.Syntax n)
with_reading draft n (Some None) = Ok draft
with_reading draft n (Some (Some line)) = with_line draft n line

abbrev pub with_text : Draft → ℕ → List ℕ → Result Draft PlanError
with_text draft n text = with_reading draft n (reading_of text)

-- what comes after an answer, unless it is a refusal
abbrev pub answer_then : {X Y : Type 0} → (X → Result Y PlanError) → Result X PlanError → Result Y PlanError
answer_then next (Ok x) = next x
answer_then next (Err e) = Err e

-- the draft with these lines of the text, after n others, or the first fault
abbrev pub lines_from : Draft → ℕ → List (List ℕ) → Result Draft PlanError
lines_from draft n [] = Ok draft
lines_from draft n (text ∷ texts) = answer_then (λ longer. lines_from longer (n + 1) texts) (with_text draft (n + 1) text)

-- a loop that is open after the last line is a fault of the line after it
abbrev pub if_closed : ℕ → Draft → Result Draft PlanError
if_closed n draft = if is_nil (scope_of draft.lines).loops then Ok draft else Err (errors.Syntax n)

abbrev pub first_pass : List ℕ → Result Draft PlanError
first_pass text = answer_then (if_closed (length (text_lines text) + 1)) (lines_from no_draft 0 (text_lines text))

-- THE SECOND
-- the line of the first stray feedback
abbrev pub stray_line : Draft → Option ℕ
stray_line draft = option_map (λ f. f.line) (find (λ f. is_stray_at (vertices draft.lines) f.number) draft.feedbacks)

abbrev pub plan_unless : Draft → Option ℕ → Result (List Line) PlanError
plan_unless draft None = if has_ends (vertices draft.lines) then Ok draft.lines else Err errors.NoInputOrOutput
plan_unless draft (Some n) = Err (errors.Again n)

abbrev pub second_pass : Draft → Result (List Line) PlanError
second_pass draft = plan_unless draft (stray_line draft)

-- the reader's answer to a text, where no growth is refused
abbrev pub answer_of : List ℕ → Result (List Line) PlanError
answer_of text = answer_then second_pass (first_pass text)

-- a call gave this answer, or was refused a growth
abbrev pub Answers : {X : Type 0} → Result X PlanError → Result X PlanError → Type 0
Answers (Ok x) wanted = wanted ≡ Ok x
Answers (Err e) wanted = (e ≡ errors.Memory) ⊎ (wanted ≡ Err e)
