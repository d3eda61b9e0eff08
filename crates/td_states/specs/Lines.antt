-- A checkpoint in lines: how it is written, and what such a line says.
use Rattle.std.specs.Prelude.{ℕ, zero, suc, ℤ, if◌then◌else◌, List, [], ◌∷◌, ◌++◌, codes, flat_map, Option, Some, None, option_map}
use Rattle.std.specs.List.{list_all}
use Rattle.std.specs.Char.{is_ascii}
use Rattle.std.specs.Str.{bytes_eq}
use Rattle.std.specs.Fmt.{decimal, signed_decimal}
use Rattle.td_stamp.specs.declared.values.State.{State}
use Rattle.td_plan.specs.Text.{words, is_passed_over, natural_of}
use Rattle.td_slots.specs.declared.slots.Checkpoint.{Checkpoint}
use Rattle.td_console.specs.Number.{integer_of}
use Rattle.td_states.specs.declared.line.StatesLine.{StatesLine}
use Rattle.td_states.specs.declared.line.StatesLine.TheVariants.{PassedOver, Kept, Last, Held}

-- `kept E`
abbrev pub kept_line : ℕ → List ℕ
kept_line epoch = codes "kept " ++ decimal epoch ++ 10 ∷ []

-- `last Q`, where there is a request number
abbrev pub last_line : ℕ → List ℕ
last_line zero = []
last_line (suc n) = codes "last " ++ decimal (suc n) ++ 10 ∷ []

-- `state VERTEX KEY A B`
abbrev pub state_line : (ℕ × ℕ) × State → List ℕ
state_line ((vertex, key), state) =
    codes "state " ++ decimal vertex ++ 32 ∷ decimal key ++ 32 ∷ signed_decimal state.a ++ 32 ∷ signed_decimal state.b ++ 10 ∷ []

-- THE TEXT OF A CHECKPOINT: its epoch, its greatest request number, and its states in order
abbrev pub checkpoint_text : Checkpoint → List ℕ
checkpoint_text c = kept_line c.epoch ++ last_line c.last ++ flat_map state_line c.states

-- a state, from its four numbers
abbrev pub held_of : Option ℕ → Option ℕ → Option ℤ → Option ℤ → Option StatesLine
held_of (Some vertex) (Some key) (Some a) (Some b) = Some (Held vertex key (record { a = a; b = b }))
held_of _ _ _ _ = None

-- what two words say, and what five do
abbrev pub two_words : List ℕ → List ℕ → Option StatesLine
two_words word number =
    if bytes_eq word (codes "kept") then option_map Kept (natural_of number)
    else (if bytes_eq word (codes "last") then option_map Last (natural_of number) else None)

abbrev pub five_words : List ℕ → List ℕ → List ℕ → List ℕ → List ℕ → Option StatesLine
five_words word vertex key a b =
    if bytes_eq word (codes "state") then held_of (natural_of vertex) (natural_of key) (integer_of a) (integer_of b) else None

abbrev pub said_by : List (List ℕ) → Option StatesLine
said_by (word ∷ number ∷ []) = two_words word number
said_by (word ∷ vertex ∷ key ∷ a ∷ b ∷ []) = five_words word vertex key a b
said_by _ = None

-- what a line of printable words says, if it has a form
abbrev pub said_in : List ℕ → Option StatesLine
said_in line = if is_passed_over line then Some PassedOver else said_by (words line)

-- WHAT A LINE SAYS, if it has a form
abbrev pub line_of : List ℕ → Option StatesLine
line_of line = if list_all is_ascii line then said_in line else None
