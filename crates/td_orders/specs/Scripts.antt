-- What an input asks for that is read line by line.
use Rattle.std.specs.Prelude.{◌≡◌, ◌⊎◌, ◌≤◌, ℕ, ◌+◌, ◌==◌, nat_lt, if◌then◌else◌, Bool, true, false, List, [], ◌∷◌, ◌++◌, length, All, Option, Some, None, option_map, Result, Ok, Err}
use Rattle.td_plan.specs.Lines.{Line as PlanLine}
use Rattle.td_plan.specs.Text.{text_lines}
use Rattle.td_console.specs.declared.data_line.DataLine.TheVariants.{Close}
use Rattle.td_console.specs.declared.faults.LineFault.{LineFault}
use Rattle.td_console.specs.declared.faults.LineFault.TheVariants.{Syntax, NotClosed}
use Rattle.td_console.specs.declared.faults.Fault.{Fault}
use Rattle.td_console.specs.declared.faults.Fault.TheVariants.{Input, Line, Memory, Keeper}
use Rattle.td_store.specs.declared.standing.error.KeeperError.TheVariants.{TooManyRecords}
use Rattle.td_journal.specs.declared.payload.Submitted.{Submitted}
use Rattle.td_store.specs.group.Groups.{may_follow}
use Rattle.td_journal.specs.Numbers.{may_come}
use Rattle.td_orders.specs.declared.note.Flaw.{Flaw}
use Rattle.td_orders.specs.declared.note.Cause.TheVariants as cause
use Rattle.td_orders.specs.declared.note.Note.{Note}
use Rattle.td_orders.specs.declared.note.Note.TheVariants.{Refused}
use Rattle.td_orders.specs.declared.order.FeedLine.{FeedLine}
use Rattle.td_orders.specs.declared.order.FeedLine.TheVariants.{Data, Request}
use Rattle.td_orders.specs.declared.order.Order.{Order}
use Rattle.td_orders.specs.declared.order.Order.TheVariants as order
use Rattle.td_orders.specs.declared.epoch.Reading.{Reading as AnyReading}
use Rattle.td_orders.specs.declared.source.Asked.{Asked}
use Rattle.td_orders.specs.declared.source.Room.{Room}
use Rattle.td_store.specs.standing.Standing.{submission}
use Rattle.td_orders.specs.declared.source.Asked.TheVariants.{One, Epochs}
use Rattle.td_orders.specs.Noted.{Aside, flaw_of, cause_in}
use Rattle.td_orders.specs.Orders.{Orders, no_orders, numbered, is_between, service_line_of, with_line, with_order, submissions, notes_in}

-- the orders up to the first fault of an input, or to its end; and that fault, if it has one
pub record Script : Type 0 where
  pub orders : List Order
  pub fault : Option Fault

-- what was read, and why the epoch that is open is refused, if it is, with the number of a line
abbrev pub ReadSoFar : Type 0
ReadSoFar = Option (ℕ × Flaw) × Orders

-- AN EPOCH IS REFUSED for the line with this number
abbrev pub refused : ℕ → Orders → Flaw → ReadSoFar
refused n read why = (Some (n, why), numbered read.request read)

-- whether epochs are refused: where there is a limit of their records
abbrev pub is_given : Option ℕ → Bool
is_given None = false
is_given (Some most) = true

-- whether an epoch has more records than it may have, where it is refused then
abbrev pub is_over : Option ℕ → ℕ → Bool
is_over None n = false
is_over (Some most) n = nat_lt most n

-- with one line more, unless the epoch is refused for what it has then
abbrev pub unless_over : ℕ → List ℕ → Orders → Orders → Bool → ReadSoFar
unless_over n line read next true = refused n read (flaw_of cause.TooManyRecords line)
unless_over n line read next false = (None, next)

-- a fault, for which an epoch is refused where that is to be
abbrev pub fault_in : Fault → LineFault
fault_in (Line n fault) = fault
fault_in _ = Syntax

abbrev pub flaw_in : List ℕ → Fault → Flaw
flaw_in line fault = flaw_of (cause_in line (fault_in fault)) line

abbrev pub unless_refused : ℕ → List ℕ → Orders → Fault → Option ℕ → Result ReadSoFar Fault
unless_refused n line read fault None = Err fault
unless_refused n line read fault (Some most) = Ok (refused n read (flaw_in line fault))

abbrev pub judged : Option ℕ → ℕ → List ℕ → Orders → Result Orders Fault → Result ReadSoFar Fault
judged limit n line read (Ok next) = Ok (unless_over n line read next (is_over limit (length next.current)))
judged limit n line read (Err fault) = unless_refused n line read fault limit

-- a request number stands in an epoch that is refused, where there is none yet
abbrev pub first_number : ℕ → ℕ → ℕ
first_number request q = if request == 0 then q else request

-- the note for an epoch that is refused
abbrev pub note_of : ℕ → ℕ × Flaw → Note
note_of request why = Refused request why.0 why.1

-- A LINE OF AN EPOCH THAT IS REFUSED: a `.` ends it, and its note is to be written; a request number is its own; all others are passed over
abbrev pub passed_over : ℕ × Flaw → Orders → Option FeedLine → ReadSoFar
passed_over why read (Some (Data Close)) = (None, with_order (order.Say (note_of read.request why)) read)
passed_over why read (Some (Request q)) = (Some why, numbered (first_number read.request q) read)
passed_over why read _ = (Some why, numbered read.request read)

-- WITH ONE LINE MORE, which has the number n and says this, or its fault: an epoch with a faulty line, or with too many records, is refused where
-- there is a limit of these
abbrev pub with_said : List PlanLine → Option ℕ → ℕ → Option (ℕ × Flaw) → Orders → List ℕ → Option FeedLine → Result ReadSoFar Fault
with_said plan limit n (Some why) read line said = Ok (passed_over why read said)
with_said plan limit n None read line said = judged limit n line read (with_line plan n read said)

-- WHERE A STREAM IS in its input: its plan; whether epochs may have places; whether outputs are held; whether questions are answered; whether
-- copies are made; where it refuses epochs, how many records one may have; the number of the next line; why the epoch that is open is
-- refused, if it is; and what was read
pub record Reading : Type 0 where
  pub plan : List PlanLine
  pub placing : Bool
  pub hold : Bool
  pub questions : Bool
  pub copies : Bool
  pub limit : Option ℕ
  pub number : ℕ
  pub flaw : Option (ℕ × Flaw)
  pub read : Orders

-- of a reader of lines
abbrev pub place : AnyReading → Reading
place r = record { plan = r.plan.now; placing = r.placing; hold = r.hold; questions = r.questions; copies = r.copies; limit = r.limit; number = r.number; flaw = r.flaw; read = r.read }

-- before the first line
abbrev pub at_start : Bool → Bool → Bool → Bool → Option ℕ → List PlanLine → Reading
at_start placing hold questions copies limit plan = record { plan = plan; placing = placing; hold = hold; questions = questions; copies = copies; limit = limit; number = 1; flaw = None; read = no_orders }

-- after one line more, or its fault
abbrev pub after_line : Reading → ReadSoFar → Reading
after_line r next = record { plan = r.plan; placing = r.placing; hold = r.hold; questions = r.questions; copies = r.copies; limit = r.limit; number = r.number + 1; flaw = next.0; read = next.1 }

abbrev pub onward : Reading → Result ReadSoFar Fault → Result Reading Fault
onward r (Ok next) = Ok (after_line r next)
onward r (Err fault) = Err fault

abbrev pub with_next : Reading → List ℕ → Result Reading Fault
with_next r line = onward r (with_said r.plan r.limit r.number r.flaw r.read line (service_line_of r.placing r.hold r.questions r.copies line))

-- at the end, no epoch may have begun; else the line after the last one has a fault
abbrev pub may_end : Option (ℕ × Flaw) → Bool → Bool
may_end (Some why) between = false
may_end None between = between

abbrev pub fault_at_end : ℕ → Bool → Option Fault
fault_at_end n true = None
fault_at_end n false = Some (Line n NotClosed)

-- what comes after a line, unless it is a fault
abbrev pub script_after : Orders → (Reading → Script) → Result Reading Fault → Script
script_after read next (Ok more) = next more
script_after read next (Err fault) = record { orders = read.orders; fault = Some fault }

-- the script with some more lines
abbrev pub script_from : Reading → List (List ℕ) → Script
script_from r [] = record { orders = r.read.orders; fault = fault_at_end r.number (may_end r.flaw (is_between r.read)) }
script_from r (line ∷ lines) = script_after r.read (λ more. script_from more lines) (with_next r line)

-- THE SCRIPT OF AN INPUT, of a stream whose epochs may have places or not, that holds outputs or not, that answers questions or not, that
-- makes copies or not, and that refuses epochs, with so many records at most, or not
abbrev pub script_of : Bool → Bool → Bool → Bool → Option ℕ → List PlanLine → List ℕ → Script
script_of placing hold questions copies limit plan input = script_from (at_start placing hold questions copies limit plan) (text_lines input)

-- what is left of a script, where the rest of the input is known
abbrev pub script_left : Option (List ℕ) → Reading → Option Script
script_left rest r = option_map (λ input. script_from r (text_lines input)) rest

-- a script after some orders, and one that has come to a fault
abbrev pub after_orders : List Order → Script → Script
after_orders orders script = record { orders = orders ++ script.orders; fault = script.fault }

abbrev pub faulty : Fault → Script
faulty fault = record { orders = []; fault = Some fault }

-- the script with some more lines, where orders were read ahead, and perhaps the fault after them
abbrev pub script_on : Reading → List Order → Option (ℕ × LineFault) → List (List ℕ) → Script
script_on r ahead None lines = after_orders ahead (script_from r lines)
script_on r ahead (Some stop) lines = after_orders ahead (faulty (Line stop.0 stop.1))

-- what is left of it, where the rest of the input is known
abbrev pub script_ahead : Option (List ℕ) → Reading → List Order → Option (ℕ × LineFault) → Option Script
script_ahead rest r ahead stopped = option_map (λ input. script_on r ahead stopped (text_lines input)) rest

-- THE ORDERS OF A READER as they come: what is left of the input, where it is known; where it is in it; what was read ahead, and perhaps the fault after
-- that; and whether epochs are refused
pub record Streaming : Type 0 where
  pub rest : Option (List ℕ)
  pub place : Reading
  pub ahead : List Order
  pub stopped : Option (ℕ × LineFault)
  pub refuses : Bool

-- its script
abbrev pub script_in : Streaming → Option Script
script_in s = script_ahead s.rest s.place s.ahead s.stopped

-- a script before an order, if there is one
abbrev pub after_order : Option Order → Script → Script
after_order None script = script
after_order (Some order) script = record { orders = order ∷ script.orders; fault = script.fault }

-- one line more, by which an order was completed, or none
abbrev pub Completes : Reading → Reading → List ℕ → Option Order → Type 0
Completes r next line order = (more : List (List ℕ)) → script_from r (line ∷ more) ≡ after_order order (script_from next more)

-- one line more, which has this fault
abbrev pub HasFault : Reading → List ℕ → Fault → Type 0
HasFault r line fault = (more : List (List ℕ)) → script_from r (line ∷ more) ≡ faulty fault

-- a script is the same where it is known
abbrev pub SameScript : Option Script → Option Script → Type 0
SameScript None new = Unit {0}
SameScript (Some old) None = ⊥
SameScript (Some old) (Some new) = old ≡ new

-- an epoch finds this room: it has no more records than a cell holds, and no request number where the format has none
abbrev pub FitsOne : Room → Submitted → Type 0
FitsOne room s = (length s.batch ≤ room.records) × (room.is_numbered ≡ false → s.request ≡ 0)

abbrev pub AllFit : Room → List Submitted → Type 0
AllFit room group = All (FitsOne room) group

-- an order submits an epoch that finds this room, whose request number may come after this one
abbrev pub IsNext : Room → ℕ → Order → Type 0
IsNext room last (order.Submit batch) = FitsOne room (submission 0 batch)
IsNext room last (order.SubmitAs request batch) = (may_come (Some last) request ≡ true) × FitsOne room (submission request batch)
IsNext room last (order.SubmitAt place request batch) = ⊥
IsNext room last order.Cut = ⊥
IsNext room last (order.Seen line epoch) = ⊥
IsNext room last (order.Answer vertex wanted) = ⊥
IsNext room last (order.Copy copy) = ⊥
IsNext room last (order.Say note) = ⊥

-- what is asked for at once submits these
abbrev pub asked_for : Asked → List Submitted
asked_for (One order) = submissions (order ∷ [])
asked_for (Epochs group) = group.items

-- and has these notes written, these questions answered, and these copies made
abbrev pub notes_for : Asked → List Aside
notes_for (One order) = notes_in (order ∷ [])
notes_for (Epochs group) = []

-- no order has a place
abbrev pub HaveNoPlace : List Order → Type 0
HaveNoPlace [] = Unit {0}
HaveNoPlace (order.SubmitAt place request batch ∷ orders) = ⊥
HaveNoPlace (_ ∷ orders) = HaveNoPlace orders

-- nor says what was seen
abbrev pub SeeNothing : List Order → Type 0
SeeNothing [] = Unit {0}
SeeNothing (order.Seen line epoch ∷ orders) = ⊥
SeeNothing (_ ∷ orders) = SeeNothing orders

-- and is these orders: one alone, or some that submit a group, in no place
abbrev pub IsOf : Asked → List Order → Type 0
IsOf (One order) orders = orders ≡ order ∷ []
IsOf (Epochs group) orders = (submissions orders ≡ group.items) × (notes_in orders ≡ []) × HaveNoPlace orders × SeeNothing orders

-- something was asked for, the first of a script; or nothing, and the script has ended without a fault
abbrev pub Asks : Option Script → Option Script → Option Asked → Type 0
Asks None new asked = Unit {0}
Asks (Some old) None asked = ⊥
Asks (Some old) (Some new) (Some asked) = (orders : List Order) × IsOf asked orders × (old.orders ≡ orders ++ new.orders) × (old.fault ≡ new.fault)
Asks (Some old) (Some new) None = (old.orders ≡ []) × (old.fault ≡ None)

-- A GROUP FINDS THIS ROOM: its request numbers rise after the greatest so far, it has no more epochs, and each of them finds room
pub record FindsRoom (room : Room) (group : List Submitted) : Type 0 where
  pub rising : may_follow (Some room.last) group ≡ true
  pub few : length group ≤ room.epochs
  pub each : AllFit room group

abbrev pub FitsRoom : Room → Option Asked → Type 0
FitsRoom room (Some (Epochs group)) = FindsRoom room group.items
FitsRoom room _ = Unit {0}

-- a group has request numbers that may come after this one
abbrev pub MayFollow : ℕ → Option Asked → Type 0
MayFollow last (Some (Epochs group)) = may_follow (Some last) group.items ≡ true
MayFollow last _ = Unit {0}

-- A SCRIPT HAS COME TO ITS FAULT: no order stands before it
abbrev pub ComesTo : Option Script → Fault → Type 0
ComesTo None fault = Unit {0}
ComesTo (Some s) fault = (s.orders ≡ []) × (s.fault ≡ Some fault)

-- A LINE'S FAULT THAT IS TOLD is the script's; or the line is too long
abbrev pub TellsLine : Bool → Option Script → Fault → Type 0
TellsLine overlong s (Line n fault) = ComesTo s (Line n fault) ⊎ ((fault ≡ Syntax) × (overlong ≡ true))
TellsLine overlong s _ = Unit {0}

-- a line's fault is that of one line more
abbrev pub FaultOfNext : Reading → List ℕ → Fault → Type 0
FaultOfNext r line (Line n fault) = HasFault r line (Line n fault)
FaultOfNext r line _ = Unit {0}

-- a fault of a reader, of its lines, or for want of memory
abbrev pub is_of_lines : Fault → Bool
is_of_lines Input = true
is_of_lines (Line n fault) = true
is_of_lines Memory = true
is_of_lines _ = false

-- or of the epoch that they begin
abbrev pub is_of_reader : Fault → Bool
is_of_reader Input = true
is_of_reader (Line n fault) = true
is_of_reader (Keeper TooManyRecords) = true
is_of_reader Memory = true
is_of_reader _ = false
