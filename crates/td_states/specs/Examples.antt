-- Worked examples, by computation: the text of a checkpoint of epoch 4, of a plan whose vertex 1 is a fold.
use Rattle.std.specs.Prelude.{◌≡◌, [], ◌∷◌, codes, pos, negsuc, Some, None}
use Rattle.std.proofs.Common.{refl}
use Rattle.std.specs.Fmt.{digits}
use Rattle.td_plan.specs.Text.{natural_of, text_lines}
use Rattle.td_slots.specs.declared.slots.Checkpoint.{Checkpoint}
use Rattle.td_states.specs.declared.line.StatesLine.TheVariants.{PassedOver, Kept, Last, Held}
use Rattle.td_states.specs.declared.error.StatesFault.TheVariants.{Syntax, NoSuchFold, Order}
use Rattle.td_states.specs.Lines.{checkpoint_text, line_of}
use Rattle.td_states.specs.Renames.{rename_of}
use Rattle.td_states.specs.Spelled.{said_of, sayings, renamed_vertex, fault_after}

-- the states of epoch 4, up to the request 9: fold 1 keeps 5 and -1 for the key 7
abbrev pub of_epoch_4 : Checkpoint
of_epoch_4 = record { slot = 0; epoch = 4; last = 9; states = ((1, 7), record { a = pos 5; b = negsuc 0 }) ∷ [] }

written : checkpoint_text of_epoch_4 ≡ codes "kept 4\nlast 9\nstate 1 7 5 -1\n"
unfolding digits
written = refl

said : said_of (text_lines (codes "# of May\nkept 4\nlast 9\n\nstate 1 7 5 -1\n")) ≡ sayings 4 9 of_epoch_4.states
unfolding natural_of
said = refl

-- a line with a form, and two without: a number with a leading zero, a state without its second number
comment : line_of (codes "# kept 4") ≡ Some PassedOver
comment = refl

leading : line_of (codes "kept 04") ≡ None
unfolding natural_of
leading = refl

short : line_of (codes "state 1 7 5") ≡ None
short = refl

-- a pair, and three parts
pair : rename_of (codes "1=3") ≡ Some (record { from = 1; to = 3 })
unfolding natural_of
pair = refl

parts : rename_of (codes "1=2=3") ≡ None
parts = refl

-- vertex 1 is called 3, by the first of two renamings
first : renamed_vertex (record { from = 1; to = 3 } ∷ record { from = 1; to = 4 } ∷ []) 1 ≡ 3
first = refl

-- an epoch of 2 ^ 63, and a state before the epoch
epoch : fault_after (1 ∷ []) [] None (Some (Kept 9223372036854775808)) ≡ Some Syntax
epoch = refl

before : fault_after (1 ∷ []) [] None (Some (Held 1 7 (record { a = pos 0; b = pos 0 }))) ≡ Some Syntax
before = refl

-- the same key twice, a vertex that is no fold, and a request number behind a state
twice : fault_after (1 ∷ []) [] (Some of_epoch_4) (Some (Held 1 7 (record { a = pos 0; b = pos 0 }))) ≡ Some Order
twice = refl

stranger : fault_after (1 ∷ []) [] (Some of_epoch_4) (Some (Held 2 7 (record { a = pos 0; b = pos 0 }))) ≡ Some NoSuchFold
stranger = refl

behind : fault_after (1 ∷ []) [] (Some of_epoch_4) (Some (Last 10)) ≡ Some Syntax
behind = refl
