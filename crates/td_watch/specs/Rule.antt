-- The rule of a watch, over its three words and the views of all seats, and what each kind of step tells.
use Rattle.std.specs.Prelude.{◌≡◌, ℕ, ◌≤◌, List, [], ◌∷◌, true, false, length, slice_index, slice_set}
use mathlib.Core.Option.{some}
use lib.ListN.{get_elem?}
use Rattle.atomic_table.specs.Seated.{TableId}
use Rattle.atomic_table.specs.Table.{State, Step, Me}
use Rattle.td_watch.specs.declared.rule.SeatView.{SeatView}
use Rattle.td_watch.specs.Words.{KeepsOrder}

-- no word of the first is above the same word of the second, whatever the place: the form in which the rule says it
abbrev pub EachAtMost : List ℕ → List ℕ → Type 0
EachAtMost first second = (place : ℕ) → slice_index first place ≤ slice_index second place

-- the words of a view that has seen nothing
abbrev pub zeros : List ℕ
zeros = 0 ∷ 0 ∷ 0 ∷ []

-- the view of the writer's seat
abbrev pub writer_seat : List ℕ → SeatView
writer_seat words = record { is_writer = true; words = words; joined = zeros }

-- the view of a reader's seat
abbrev pub reader_seat : List ℕ → SeatView
reader_seat words = record { is_writer = false; words = words; joined = zeros }

-- the view of a seat that was joined to another: three zeros
abbrev pub spent_seat : SeatView
spent_seat = reader_seat zeros

-- the first seat's view, once the second seat is joined to it
abbrev pub joined_seat : SeatView → SeatView → SeatView
joined_seat first second = record { is_writer = first.is_writer; words = first.words; joined = second.words }

-- the view of the seat with this number: what it saw and what was joined to it is at most the words, and the writer's view is the words
abbrev pub IsTrueView : ℕ → List ℕ → ℕ → SeatView → Type 0
IsTrueView writer words id view =
    EachAtMost view.words words
    × EachAtMost view.joined words
    × (view.is_writer ≡ true → (id ≡ writer) × (view.words ≡ words))

-- the rule: there are three words, which keep their order, one seat may be the writer's, and each seat's view is true
abbrev pub KeepsRule : {S : Type 0} → State S SeatView → Type 0
KeepsRule state =
    (length state.words ≡ 3)
    × KeepsOrder state.words
    × (writer : ℕ)
    × ((id : ℕ) (view : SeatView) → get_elem? state.views id ≡ some view → IsTrueView writer state.words id view)

-- a reader loaded a number: that is its view of this word from now on, and it is no less than its view of this word and of each later one
abbrev pub LoadsWord : {S : Type 0} → Step S → Me S SeatView → ℕ → Me S SeatView → Type 0
LoadsWord step before number after =
    (after ≡ (reader_seat (slice_set before.0.words step.word number), before.1))
    × ((place : ℕ) → step.word ≤ place → slice_index before.0.words place ≤ number)

-- the writer stored a number: that is its view of this word from now on
abbrev pub StoresWord : {S : Type 0} → Step S → Me S SeatView → ℕ → Me S SeatView → Type 0
StoresWord step before number after =
    after ≡ (writer_seat (slice_set before.0.words step.word number), before.1)

-- the writer compared what was joined to it with its words: it was at most these
abbrev pub ComparesJoined : {S : Type 0} → Step S → Me S SeatView → ℕ → Me S SeatView → Type 0
ComparesJoined step before number after =
    (after ≡ (writer_seat before.0.words, before.1)) × EachAtMost before.0.joined before.0.words

-- a seat belongs to this table of three words, has this view and holds no slot
pub record IsSeatOf {S : Type 0} (table seat : TableId) (me : Me S SeatView) (view : SeatView) : Type 0 where
  pub same_table : seat ≡ table
  pub has_three : seat.words ≡ 3
  pub has_view : me ≡ (view, [])
  pub sees_three : length view.words ≡ 3
