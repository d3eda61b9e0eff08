-- Which checkpoint a text spells for a plan, and the first fault of a text that spells none.
use Rattle.std.specs.Prelude.{◌≡◌, ◌⊎◌, ℕ, zero, suc, ◌+◌, ◌^◌, ◌<◌, Bool, true, false, ◌&&◌, ◌==◌, nat_lt, if◌then◌else◌, List, [], ◌∷◌, ◌++◌, length, map, find, flat_map, Option, Some, None, is_some, is_none}
use Rattle.std.specs.List.{list_all, list_any}
use Rattle.td_stamp.specs.declared.values.State.{State}
use Rattle.td_stamp.specs.States.{StateList}
use Rattle.td_plan.specs.Text.{text_lines}
use Rattle.td_plan.specs.Lines.{Line as PlanLine}
use Rattle.td_slots.specs.declared.slots.Checkpoint.{Checkpoint}
use Rattle.td_slots.specs.Slot.{are_states}
use Rattle.td_slots.specs.Parsed.{last_place, may_come_after}
use Rattle.td_store.specs.standing.Told.{folds_of}
use Rattle.td_states.specs.declared.rename.Rename.{Rename}
use Rattle.td_states.specs.declared.line.StatesLine.{StatesLine}
use Rattle.td_states.specs.declared.line.StatesLine.TheVariants.{PassedOver, Kept, Last, Held}
use Rattle.td_states.specs.declared.error.StatesFault.{StatesFault}
use Rattle.td_states.specs.declared.error.StatesFault.TheVariants.{Syntax, NoSuchFold, Order}
use Rattle.td_states.specs.declared.error.StatesError.{StatesError}
use Rattle.td_states.specs.declared.error.StatesError.TheVariants as errors
use Rattle.td_states.specs.Lines.{line_of}

-- the vertex that a renaming has for one, or that one itself
abbrev pub vertex_in : ℕ → Option Rename → ℕ
vertex_in vertex None = vertex
vertex_in vertex (Some rename) = rename.to

-- THE VERTEX FOR ONE, by the first renaming of it
abbrev pub renamed_vertex : List Rename → ℕ → ℕ
renamed_vertex renames vertex = vertex_in vertex (find (λ r. r.from == vertex) renames)

abbrev pub renamed : List Rename → (ℕ × ℕ) × State → (ℕ × ℕ) × State
renamed renames ((vertex, key), state) = ((renamed_vertex renames vertex, key), state)

-- what the lines of a checkpoint say
abbrev pub last_said : ℕ → List StatesLine
last_said zero = []
last_said (suc n) = Last (suc n) ∷ []

abbrev pub state_said : (ℕ × ℕ) × State → StatesLine
state_said ((vertex, key), state) = Held vertex key state

abbrev pub sayings : ℕ → ℕ → StateList → List StatesLine
sayings epoch last states = Kept epoch ∷ (last_said last ++ map state_said states)

-- whether a line has a form
abbrev pub has_form : List ℕ → Bool
has_form line = is_some (line_of line)

-- what some lines say, but for those that are passed over
abbrev pub said_once : Option StatesLine → List StatesLine
said_once None = []
said_once (Some PassedOver) = []
said_once (Some (Kept epoch)) = Kept epoch ∷ []
said_once (Some (Last request)) = Last request ∷ []
said_once (Some (Held vertex key state)) = Held vertex key state ∷ []

abbrev pub said_of : List (List ℕ) → List StatesLine
said_of lines = flat_map (λ line. said_once (line_of line)) lines

-- SOME LINES SPELL A CHECKPOINT: each has a form, and together they say its epoch, its greatest request number, and states that are its own
-- once they are renamed. These are kept by some of these folds, and rise strictly by vertex and key
pub record Spells (folds : List ℕ) (renames : List Rename) (lines : List (List ℕ)) (c : Checkpoint) : Type 0 where
  pub written : StateList
  pub forms : list_all has_form lines ≡ true
  pub said : said_of lines ≡ sayings c.epoch c.last written
  pub renames_to : c.states ≡ map (renamed renames) written
  pub lawful : are_states folds c.states ≡ true
  pub small : c.epoch < 2 ^ 63
  pub slot : c.slot ≡ 0

-- A TEXT SPELLS A CHECKPOINT for a plan
abbrev pub StatesText : List PlanLine → List Rename → List ℕ → Checkpoint → Type 0
StatesText plan renames text c = Spells (folds_of plan) renames (text_lines text) c

-- some lines are read so: they say nothing yet, or spell a checkpoint
abbrev pub AreRead : List ℕ → List Rename → List (List ℕ) → Option Checkpoint → Type 0
AreRead folds renames lines None = (list_all has_form lines ≡ true) × (said_of lines ≡ [])
AreRead folds renames lines (Some c) = Spells folds renames lines c

-- a fault, unless this holds
abbrev pub unless : Bool → StatesFault → Option StatesFault
unless true fault = None
unless false fault = Some fault

-- the first line that says anything says the epoch, which is below 2 ^ 63
abbrev pub first_fault : StatesLine → Option StatesFault
first_fault PassedOver = None
first_fault (Kept epoch) = unless (nat_lt epoch (2 ^ 63)) Syntax
first_fault (Last request) = Some Syntax
first_fault (Held vertex key state) = Some Syntax

-- a request number is not 0, and stands once, before the states
abbrev pub takes_last : Checkpoint → ℕ → Bool
takes_last c request = nat_lt 0 request && ((c.last == 0) && is_none (last_place c.states))

-- a state is kept by a fold, and comes after those before it
abbrev pub state_fault : List ℕ → StateList → ℕ × ℕ → Option StatesFault
state_fault folds states place =
    if list_any (λ v. v == place.0) folds then unless (may_come_after (last_place states) place) Order else Some NoSuchFold

-- what is wrong with a line after those that spell a checkpoint
abbrev pub next_fault : List ℕ → List Rename → Checkpoint → StatesLine → Option StatesFault
next_fault folds renames c PassedOver = None
next_fault folds renames c (Kept epoch) = Some Syntax
next_fault folds renames c (Last request) = unless (takes_last c request) Syntax
next_fault folds renames c (Held vertex key state) = state_fault folds c.states (renamed_vertex renames vertex, key)

-- THE FAULT OF A LINE after those that are read so, if it has one
abbrev pub fault_after : List ℕ → List Rename → Option Checkpoint → Option StatesLine → Option StatesFault
fault_after folds renames read None = Some Syntax
fault_after folds renames None (Some said) = first_fault said
fault_after folds renames (Some c) (Some said) = next_fault folds renames c said

-- the first line with a fault is this one, and this is its fault
pub record IsFirstFault (folds : List ℕ) (renames : List Rename) (lines : List (List ℕ)) (n : ℕ) (fault : StatesFault) : Type 0 where
  pub front : List (List ℕ)
  pub line : List ℕ
  pub rest : List (List ℕ)
  pub splits : lines ≡ front ++ line ∷ rest
  pub so_far : Option Checkpoint
  pub read : AreRead folds renames front so_far
  pub number : n ≡ length front + 1
  pub has : fault_after folds renames so_far (line_of line) ≡ Some fault

-- no line says anything, which is a fault of the line after the last
pub record SaysNothing (folds : List ℕ) (renames : List Rename) (lines : List (List ℕ)) (n : ℕ) (fault : StatesFault) : Type 0 where
  pub read : AreRead folds renames lines None
  pub number : n ≡ length lines + 1
  pub is : fault ≡ Syntax

-- WHY A TEXT SPELLS NO CHECKPOINT for a plan
abbrev pub StatesTextFault : List PlanLine → List Rename → List ℕ → StatesError → Type 0
StatesTextFault plan renames text (errors.Line n fault) =
    IsFirstFault (folds_of plan) renames (text_lines text) n fault ⊎ SaysNothing (folds_of plan) renames (text_lines text) n fault
StatesTextFault plan renames text errors.Map = ⊥
StatesTextFault plan renames text errors.Input = ⊥
StatesTextFault plan renames text errors.Memory = ⊥
