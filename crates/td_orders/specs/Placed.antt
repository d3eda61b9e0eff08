-- Epochs that name their places: compare and append.
use Rattle.std.specs.Prelude.{ℕ, ◌≡◌, ◌+◌, ◌==◌, nat_lt, Bool, true, false, if◌then◌else◌, List, [], ◌∷◌, length, Option, Some, None}
use Rattle.td_journal.specs.declared.payload.Submitted.{Submitted}
use Rattle.td_journal.specs.Numbers.{greatest}
use Rattle.td_orders.specs.declared.note.Note.TheVariants.{There, Gap}
use Rattle.td_orders.specs.declared.source.Asked.{Asked}
use Rattle.td_orders.specs.declared.source.Asked.TheVariants.{One}
use Rattle.td_orders.specs.declared.order.Order.{Order}
use Rattle.td_orders.specs.declared.order.Order.TheVariants.{SubmitAt, Say}
use Rattle.td_orders.specs.Orders.{submissions, new_after}
use Rattle.td_console.specs.declared.faults.LineFault.TheVariants.{Gap as GapFault}
use Rattle.td_console.specs.declared.faults.Fault.{Fault}
use Rattle.td_console.specs.declared.faults.Fault.TheVariants.{Line}
use Rattle.td_orders.specs.Scripts.{Script, after_order, faulty, asked_for}

-- the last epoch of a disk, and its greatest request number, after what is new of these
abbrev pub told_after : ℕ → ℕ → List Submitted → ℕ
told_after told last x = told + length (new_after last x)

abbrev pub last_after : ℕ → List Submitted → ℕ
last_after last x = greatest last (new_after last x)

-- where epochs are refused, one after a gap is; else it is a fault
abbrev pub after_gap : Bool → ℕ → Option Order
after_gap true epoch = Some (Say (Gap epoch))
after_gap false epoch = None

abbrev pub not_in_place : Bool → ℕ → ℕ → Option Order
not_in_place refuses told epoch = if nat_lt told epoch then after_gap refuses epoch else Some (Say (There epoch))

-- AN ORDER AT A DISK whose last epoch is this one: an epoch in its place is put there; one that is there already, and one after a gap,
-- are not. None for a gap that is a fault
abbrev pub at_disk : Bool → ℕ → Order → Option Order
at_disk refuses told (SubmitAt place request batch) =
    if place.epoch == told + 1 then Some (SubmitAt place request batch) else not_in_place refuses told place.epoch
at_disk refuses told order = Some order

-- a gap is a fault of the line that names the epoch's place
abbrev pub line_of_place : Order → ℕ
line_of_place (SubmitAt place request batch) = place.line
line_of_place order = 0

abbrev pub gap_at : Order → Fault
gap_at order = Line (line_of_place order) GapFault

-- WHAT IS ASKED FOR AT THAT DISK: an order as it is there, or a group as it is; or a gap
abbrev pub StandsAt : Bool → ℕ → Option Asked → Option Asked → Type 0
StandsAt refuses told (Some (One order)) (Some (One there)) = at_disk refuses told order ≡ Some there
StandsAt refuses told (Some (One order)) there = ⊥
StandsAt refuses told asked there = there ≡ asked

abbrev pub IsGapAt : Bool → ℕ → Option Asked → Fault → Type 0
IsGapAt refuses told (Some (One order)) fault = (at_disk refuses told order ≡ None) × (fault ≡ gap_at order)
IsGapAt refuses told asked fault = ⊥

-- what comes after an order, unless that is a fault
abbrev pub unless_gap : Fault → (Order → Script) → Option Order → Script
unless_gap gap next None = faulty gap
unless_gap gap next (Some order) = after_order (Some order) (next order)

-- some orders at a disk with this last epoch and this greatest request number, before the end, or the fault, of their input
abbrev pub placed_from : Option Fault → Bool → ℕ → ℕ → List Order → Script
placed_from fault refuses told last [] = record { orders = []; fault = fault }
placed_from fault refuses told last (order ∷ orders) =
    unless_gap (gap_at order) (λ next. placed_from fault refuses (told_after told last (submissions (next ∷ []))) (last_after last (submissions (next ∷ []))) orders) (at_disk refuses told order)

-- A SCRIPT AT A DISK with this last epoch and this greatest request number
abbrev pub placed : Bool → ℕ → ℕ → Script → Script
placed refuses told last script = placed_from script.fault refuses told last script.orders

-- the last epoch and the greatest request number after what was asked for
abbrev pub told_by : ℕ → ℕ → Option Asked → ℕ
told_by told last None = told
told_by told last (Some asked) = told_after told last (asked_for asked)

abbrev pub last_by : ℕ → Option Asked → ℕ
last_by last None = last
last_by last (Some asked) = last_after last (asked_for asked)
