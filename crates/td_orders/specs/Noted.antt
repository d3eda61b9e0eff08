-- What a stream writes beside the lines of its keeper's replies.
use Rattle.std.specs.Prelude.{◌≡◌, ℕ, ◌+◌, ◌^◌, ◌==◌, nat_lt, not, ◌&&◌, ◌||◌, Bool, true, false, if◌then◌else◌, List, [], ◌∷◌, ◌++◌, map, take, drop, slice_index, Option, Some, None, codes}
use Rattle.std.specs.List.{list_all, list_any}
use Rattle.std.specs.Char.{is_ascii, is_ascii_digit}
use Rattle.std.specs.Str.{bytes_eq}
use Rattle.std.specs.Fmt.{decimal}
use Rattle.td_plan.specs.Text.{words, is_printable, natural_of}
use Rattle.td_console.specs.Refusals.{line_fault_text}
use Rattle.td_console.specs.declared.faults.LineFault.{LineFault}
use Rattle.td_console.specs.declared.faults.LineFault.TheVariants as fault
use Rattle.td_orders.specs.declared.note.Cause.{Cause}
use Rattle.td_orders.specs.declared.note.Cause.TheVariants.{Line, CarriageReturn, NotAscii, NumberTooLarge, TooManyRecords}
use Rattle.td_orders.specs.declared.note.Flaw.{Flaw}
use Rattle.td_orders.specs.declared.note.Note.{Note}
use Rattle.td_orders.specs.declared.note.Note.TheVariants.{Refused, There, Gap}
use Rattle.td_questions.specs.declared.question.Wanted.{Wanted}
use Rattle.td_head.specs.Layout.{Sizes}

-- WHAT IS ASKED FOR BESIDE epochs and cuts: a note that is to be written, the answer to what is wanted of a fold, or a copy of this name and
-- shape, with the epoch up to which it goes, once it is made
pub data Aside : Type 0 where
  to_say : Note → Aside
  to_answer : ℕ → Wanted → Aside
  to_copy : List ℕ → Sizes → Option ℕ → Aside

-- as it is asked for: no copy is made yet
abbrev pub as_asked : Aside → Aside
as_asked (to_copy name shape made) = to_copy name shape None
as_asked aside = aside

-- THESE CAME OF THOSE that were asked for: each is the same one, and a copy was made or not
abbrev pub ComeOf : List Aside → List Aside → Type 0
ComeOf asked done = map as_asked done ≡ asked

-- the copies that were made: their names, and the epochs up to which they go
abbrev pub copied_in : List Aside → List (List ℕ × ℕ)
copied_in [] = []
copied_in (to_copy name shape (Some epoch) ∷ more) = (name, epoch) ∷ copied_in more
copied_in (_ ∷ more) = copied_in more

-- why an epoch is refused
abbrev pub cause_text : Cause → List ℕ
cause_text (Line fault) = line_fault_text fault
cause_text CarriageReturn = codes "carriage return"
cause_text NotAscii = codes "a byte above 127"
cause_text NumberTooLarge = codes "number too large"
cause_text TooManyRecords = codes "too many records"

-- a byte as it is shown: `?` for one that is no printable ASCII character
abbrev pub shown : ℕ → ℕ
shown b = if is_printable b then b else 63

-- the first 80 characters of a line
abbrev pub excerpt : List ℕ → List ℕ
excerpt line = map shown (take 80 line)

-- a number that is not below this one
abbrev pub is_from : ℕ → Option ℕ → Bool
is_from limit None = true
is_from limit (Some n) = not (nat_lt n limit)

-- digits, of which the first is not 0, that write a number of this size or above
abbrev pub is_too_large : ℕ → List ℕ → Bool
is_too_large limit word = nat_lt 48 (slice_index word 0) && (list_all is_ascii_digit word && is_from limit (natural_of word))

-- the same of a number that may have a minus sign, of which there is one more
abbrev pub is_too_large_value : List ℕ → Bool
is_too_large_value word = if slice_index word 0 == 45 then is_too_large (2 ^ 63 + 1) (drop 1 word) else is_too_large (2 ^ 63) word

-- whether the words of a line have a number that is too large: an input's, a key, a value, or a request number
abbrev pub has_large : List (List ℕ) → Bool
has_large (input ∷ key ∷ val ∷ []) = is_too_large 1000000000 input || (is_too_large (2 ^ 64) key || is_too_large_value val)
has_large (word ∷ number ∷ []) = bytes_eq word (codes "req") && is_too_large (2 ^ 64) number
has_large _ = false

-- why a line has no form
abbrev pub cause_of : List ℕ → Cause
cause_of line =
    if list_any (λ b. b == 13) line then CarriageReturn
    else if not (list_all is_ascii line) then NotAscii
    else if has_large (words line) then NumberTooLarge else Line fault.Syntax

-- the cause of a line's fault
abbrev pub cause_in : List ℕ → LineFault → Cause
cause_in line fault.Syntax = cause_of line
cause_in line fault = Line fault

-- AN EPOCH'S FLAW: its cause, and how its line begins
abbrev pub flaw_of : Cause → List ℕ → Flaw
flaw_of cause line = record { cause = cause; text = excerpt line }

-- why an epoch is refused, with its line
abbrev pub flaw_text : Flaw → List ℕ
flaw_text flaw = cause_text flaw.cause ++ (codes ": " ++ flaw.text)

-- `no Q L: WHAT: TEXT`, and `no - L: WHAT: TEXT` of an epoch without a request number
abbrev pub no_line : ℕ → ℕ → Flaw → List ℕ
no_line request line flaw =
    if request == 0 then codes "no - " ++ decimal line ++ codes ": " ++ flaw_text flaw ++ 10 ∷ []
    else codes "no " ++ decimal request ++ 32 ∷ decimal line ++ codes ": " ++ flaw_text flaw ++ 10 ∷ []

-- `there E` and `gap E`
abbrev pub there_line : ℕ → List ℕ
there_line epoch = codes "there " ++ decimal epoch ++ 10 ∷ []

abbrev pub gap_line : ℕ → List ℕ
gap_line epoch = codes "gap " ++ decimal epoch ++ 10 ∷ []

-- THE LINE OF A NOTE
abbrev pub note_line : Note → List ℕ
note_line (Refused request line flaw) = no_line request line flaw
note_line (There epoch) = there_line epoch
note_line (Gap epoch) = gap_line epoch
