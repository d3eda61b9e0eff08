-- What the input of a feed asks for, or its first fault.
use Rattle.std.specs.Prelude.{◌≡◌, ◌⊎◌, ℕ, zero, suc, ◌+◌, ◌<◌, ◌==◌, ◌&&◌, max, Bool, true, false, IsTrue, if◌then◌else◌, List, [], ◌∷◌, ◌++◌, length, codes, Option, Some, None, option_map, Result, Ok, Err}
use Rattle.std.specs.List.{list_all}
use Rattle.std.specs.Str.{bytes_eq}
use Rattle.std.specs.Char.{is_ascii}
use Rattle.td_stamp.specs.declared.values.Entry.{Entry}
use Rattle.td_stamp.specs.Orders.{entry_cmp}
use Rattle.td_stamp.specs.Bag.{bag_of}
use Rattle.td_plan.specs.Lines.{Line as PlanLine}
use Rattle.td_plan.specs.Text.{text_lines, words, natural_of, number_of}
use Rattle.td_plan.specs.Inputs.{is_input_of}
use Rattle.td_head.specs.Layout.{Sizes, is_shape}
use Rattle.td_journal.specs.declared.payload.Submitted.{Submitted}
use Rattle.td_journal.specs.Numbers.{may_come}
use Rattle.td_store.specs.standing.Standing.{submission}
use Rattle.td_console.specs.declared.data_line.DataLine.TheVariants.{PassedOver, Record, Close}
use Rattle.td_console.specs.declared.faults.LineFault.TheVariants.{Syntax, NoSuchInput, NotClosed, NoSuchFold}
use Rattle.td_console.specs.declared.faults.Fault.{Fault}
use Rattle.td_console.specs.declared.faults.Fault.TheVariants.{Line, Memory}
use Rattle.td_console.specs.Data.{data_line_of}
use Rattle.td_orders.specs.declared.order.FeedLine.{FeedLine}
use Rattle.td_orders.specs.declared.order.FeedLine.TheVariants.{Data, Request, At, Cut, Seen, Ask, Copy}
use Rattle.td_orders.specs.declared.order.Place.{Place}
use Rattle.td_orders.specs.declared.order.CopyTo.{CopyTo}
use Rattle.td_orders.specs.declared.order.Order.{Order}
use Rattle.td_orders.specs.declared.order.Order.TheVariants as order
use Rattle.td_questions.specs.declared.question.Question.{Question}
use Rattle.td_questions.specs.declared.question.Wanted.{Wanted}
use Rattle.td_questions.specs.Words.{question_of, fold_of}
use Rattle.td_orders.specs.Noted.{Aside}
use Rattle.td_orders.specs.Noted.Aside.{to_say, to_answer, to_copy}
use Rattle.td_orders.specs.Names.{is_plain_name}

-- whether the one word is `cut`
abbrev pub is_cut : List (List ℕ) → Bool
is_cut (word ∷ []) = bytes_eq word (codes "cut")
is_cut _ = false

-- a number that is not 0
abbrev pub positive : Option ℕ → Option ℕ
positive None = None
positive (Some zero) = None
positive (Some (suc q)) = Some (suc q)

-- the request number of the words `req Q`
abbrev pub request_of : List (List ℕ) → Option ℕ
request_of (word ∷ number ∷ []) = if bytes_eq word (codes "req") then positive (natural_of number) else None
request_of _ = None

-- a request number, or what a data line says
abbrev pub or_data : List ℕ → Option ℕ → Option FeedLine
or_data line (Some q) = Some (Request q)
or_data line None = option_map Data (data_line_of line)

-- what a line says, if it has a form
abbrev pub feed_line_of : List ℕ → Option FeedLine
feed_line_of line =
    if list_all is_ascii line then (if is_cut (words line) then Some Cut else or_data line (request_of (words line))) else None

-- the epoch of the words `seen E`
abbrev pub seen_of : List (List ℕ) → Option ℕ
seen_of (word ∷ number ∷ []) = if bytes_eq word (codes "seen") then natural_of number else None
seen_of _ = None

-- an epoch that was seen, or what a line of a feed says
abbrev pub or_feed_line : List ℕ → Option ℕ → Option FeedLine
or_feed_line line (Some epoch) = Some (Seen epoch)
or_feed_line line None = feed_line_of line

-- what a line says, if it has a form, where epochs have no places: where outputs are held, also which epoch was seen
abbrev pub held_line_of : Bool → List ℕ → Option FeedLine
held_line_of false line = feed_line_of line
held_line_of true line = if list_all is_ascii line then or_feed_line line (seen_of (words line)) else None

-- the epoch of the words `at E`
abbrev pub place_of : List (List ℕ) → Option ℕ
place_of (word ∷ number ∷ []) = if bytes_eq word (codes "at") then positive (natural_of number) else None
place_of _ = None

-- the place of an epoch, or what else a line says
abbrev pub or_held_line : Bool → List ℕ → Option ℕ → Option FeedLine
or_held_line hold line (Some epoch) = Some (At epoch)
or_held_line hold line None = held_line_of hold line

-- what a line of a stream says, if it has a form: where epochs have places, also the place of one
abbrev pub stream_line_of : Bool → Bool → List ℕ → Option FeedLine
stream_line_of false hold line = held_line_of hold line
stream_line_of true hold line = if list_all is_ascii line then or_held_line hold line (place_of (words line)) else None

-- a question, or what a line of a stream says
abbrev pub or_stream_line : Bool → Bool → List ℕ → Option Question → Option FeedLine
or_stream_line placing hold line (Some question) = Some (Ask question)
or_stream_line placing hold line None = stream_line_of placing hold line

-- and where questions are answered, also what it asks
abbrev pub session_line_of : Bool → Bool → Bool → List ℕ → Option FeedLine
session_line_of placing hold false line = stream_line_of placing hold line
session_line_of placing hold true line = if list_all is_ascii line then or_stream_line placing hold line (question_of (words line)) else None

-- the shape of three numbers, where each keeps its limits
abbrev pub shape_if : Sizes → Option Sizes
shape_if sizes = if is_shape sizes then Some sizes else None

abbrev pub shape_with : Option ℕ → Option ℕ → Option ℕ → Option Sizes
shape_with (Some m) (Some n) (Some k) = shape_if (record { m = m; n = n; k = k })
shape_with _ _ _ = None

abbrev pub shape_in : List (List ℕ) → Option Sizes
shape_in (m ∷ n ∷ k ∷ []) = shape_with (number_of m) (number_of n) (number_of k)
shape_in _ = None

-- a copy of this name and shape, where the name is plain
abbrev pub copy_named : List ℕ → Option Sizes → Option CopyTo
copy_named name None = None
copy_named name (Some shape) = if is_plain_name name then Some (record { name = name; shape = shape }) else None

-- the copy of the words `copy NEW M N K`
abbrev pub copy_of : List (List ℕ) → Option CopyTo
copy_of (word ∷ name ∷ more) = if bytes_eq word (codes "copy") then copy_named name (shape_in more) else None
copy_of _ = None

-- a copy, or what another line says
abbrev pub or_session_line : Bool → Bool → Bool → List ℕ → Option CopyTo → Option FeedLine
or_session_line placing hold questions line (Some copy) = Some (Copy copy)
or_session_line placing hold questions line None = session_line_of placing hold questions line

-- and where copies are made, also which
abbrev pub service_line_of : Bool → Bool → Bool → Bool → List ℕ → Option FeedLine
service_line_of placing hold questions false line = session_line_of placing hold questions line
service_line_of placing hold questions true line = if list_all is_ascii line then or_session_line placing hold questions line (copy_of (words line)) else None

-- Orders that were read so far; and of the epoch that is not closed its place, if it has one, its request number, 0 for none, and its
-- entries as they were read
pub record Orders : Type 0 where
  pub orders : List Order
  pub place : Option Place
  pub request : ℕ
  pub current : List Entry

-- before the first line
abbrev pub no_orders : Orders
no_orders = record { orders = []; place = None; request = 0; current = [] }

-- with one order more, and nothing after it
abbrev pub with_order : Order → Orders → Orders
with_order o read = record { orders = read.orders ++ o ∷ []; place = None; request = 0; current = [] }

-- with this request number, of an epoch without a place and without records
abbrev pub numbered : ℕ → Orders → Orders
numbered request read = record { orders = read.orders; place = None; request = request; current = [] }

-- whether there is no record
abbrev pub has_none : List Entry → Bool
has_none [] = true
has_none (entry ∷ entries) = false

-- whether there is no place
abbrev pub has_no_place : Option Place → Bool
has_no_place None = true
has_no_place (Some place) = false

-- whether neither a request number nor a record stands in an epoch, and neither a place nor a record
abbrev pub has_no_number : Orders → Bool
has_no_number read = (read.request == 0) && has_none read.current

abbrev pub may_be_placed : Orders → Bool
may_be_placed read = has_no_place read.place && has_none read.current

-- whether an epoch has not begun: neither a place nor a request number nor a record stands in it
abbrev pub is_between : Orders → Bool
is_between read = has_no_place read.place && has_no_number read

-- a cut stands between epochs alone
abbrev pub with_cut : ℕ → Orders → Bool → Result Orders Fault
with_cut n read true = Ok (record { orders = read.orders ++ order.Cut ∷ []; place = read.place; request = read.request; current = read.current })
with_cut n read false = Err (Line n Syntax)

-- and so does an epoch that was seen
abbrev pub with_seen : ℕ → ℕ → Orders → Bool → Result Orders Fault
with_seen n epoch read true = Ok (record { orders = read.orders ++ order.Seen n epoch ∷ []; place = read.place; request = read.request; current = read.current })
with_seen n epoch read false = Err (Line n Syntax)

-- and a question to a fold of the plan
abbrev pub with_answer : ℕ → Wanted → Orders → Option ℕ → Result Orders Fault
with_answer n wanted read None = Err (Line n NoSuchFold)
with_answer n wanted read (Some vertex) = Ok (record { orders = read.orders ++ order.Answer vertex wanted ∷ []; place = read.place; request = read.request; current = read.current })

abbrev pub with_question : List PlanLine → ℕ → Question → Orders → Bool → Result Orders Fault
with_question plan n question read true = with_answer n question.wanted read (fold_of plan question.vertex)
with_question plan n question read false = Err (Line n Syntax)

-- and a copy
abbrev pub with_copy : ℕ → CopyTo → Orders → Bool → Result Orders Fault
with_copy n copy read true = Ok (record { orders = read.orders ++ order.Copy copy ∷ []; place = read.place; request = read.request; current = read.current })
with_copy n copy read false = Err (Line n Syntax)

-- a request number is of the epoch after it, and stands before its records
abbrev pub with_request : ℕ → ℕ → Orders → Bool → Result Orders Fault
with_request n q read true = Ok (record { orders = read.orders; place = read.place; request = q; current = read.current })
with_request n q read false = Err (Line n Syntax)

-- and so does its place
abbrev pub with_place : ℕ → ℕ → Orders → Bool → Result Orders Fault
with_place n epoch read true = Ok (record { orders = read.orders; place = Some (record { epoch = epoch; line = n }); request = read.request; current = read.current })
with_place n epoch read false = Err (Line n Syntax)

-- what submits a batch under a request number, or without one
abbrev pub order_for : ℕ → List Entry → Order
order_for zero batch = order.Submit batch
order_for (suc q) batch = order.SubmitAs (suc q) batch

-- and at a place, if it has one
abbrev pub order_at : Option Place → ℕ → List Entry → Order
order_at None request batch = order_for request batch
order_at (Some place) request batch = order.SubmitAt place request batch

-- with one line more, which has the number n, or its fault
abbrev pub with_line : List PlanLine → ℕ → Orders → Option FeedLine → Result Orders Fault
with_line plan n read None = Err (Line n Syntax)
with_line plan n read (Some Cut) = with_cut n read (is_between read)
with_line plan n read (Some (Request q)) = with_request n q read (has_no_number read)
with_line plan n read (Some (At epoch)) = with_place n epoch read (may_be_placed read)
with_line plan n read (Some (Seen epoch)) = with_seen n epoch read (is_between read)
with_line plan n read (Some (Ask question)) = with_question plan n question read (is_between read)
with_line plan n read (Some (Copy copy)) = with_copy n copy read (is_between read)
with_line plan n read (Some (Data PassedOver)) = Ok read
with_line plan n read (Some (Data Close)) = Ok (with_order (order_at read.place read.request (bag_of entry_cmp read.current)) read)
with_line plan n read (Some (Data (Record input rec))) =
    if is_input_of plan input then Ok (record { orders = read.orders; place = read.place; request = read.request; current = read.current ++ record { input = input; rec = rec } ∷ [] })
    else Err (Line n NoSuchInput)

-- what comes after an answer, unless it is a fault
abbrev pub and_then : (Orders → Result (List Order) Fault) → Result Orders Fault → Result (List Order) Fault
and_then next (Ok read) = next read
and_then next (Err fault) = Err fault

-- at the end of the lines, which is counted as the line after the last one
abbrev pub ended : ℕ → List Order → Bool → Result (List Order) Fault
ended n orders true = Ok orders
ended n orders false = Err (Line n NotClosed)

-- the orders with some more lines, of which the first has the number n
abbrev pub orders_from : List PlanLine → ℕ → Orders → List (List ℕ) → Result (List Order) Fault
orders_from plan n read [] = ended n read.orders (is_between read)
orders_from plan n read (line ∷ lines) = and_then (λ more. orders_from plan (n + 1) more lines) (with_line plan n read (feed_line_of line))

-- THE ORDERS OF AN INPUT, or its first fault
abbrev pub orders_of : List PlanLine → List ℕ → Result (List Order) Fault
orders_of plan input = orders_from plan 1 no_orders (text_lines input)

-- what orders would submit, each with its request number, 0 for none
abbrev pub submissions : List Order → List Submitted
submissions [] = []
submissions (order.Submit batch ∷ orders) = submission 0 batch ∷ submissions orders
submissions (order.SubmitAs request batch ∷ orders) = submission request batch ∷ submissions orders
submissions (order.SubmitAt place request batch ∷ orders) = submission request batch ∷ submissions orders
submissions (order.Cut ∷ orders) = submissions orders
submissions (order.Seen line epoch ∷ orders) = submissions orders
submissions (order.Answer vertex wanted ∷ orders) = submissions orders
submissions (order.Copy copy ∷ orders) = submissions orders
submissions (order.Say note ∷ orders) = submissions orders

-- what orders would have done beside: no copy is made yet
abbrev pub notes_in : List Order → List Aside
notes_in [] = []
notes_in (order.Submit batch ∷ orders) = notes_in orders
notes_in (order.SubmitAs request batch ∷ orders) = notes_in orders
notes_in (order.SubmitAt place request batch ∷ orders) = notes_in orders
notes_in (order.Cut ∷ orders) = notes_in orders
notes_in (order.Seen line epoch ∷ orders) = notes_in orders
notes_in (order.Answer vertex wanted ∷ orders) = to_answer vertex wanted ∷ notes_in orders
notes_in (order.Copy copy ∷ orders) = to_copy copy.name copy.shape None ∷ notes_in orders
notes_in (order.Say note ∷ orders) = to_say note ∷ notes_in orders

-- WHICH OF THESE ARE NEW after a greatest request number: each that has no number, and each whose number is above all before
abbrev pub new_after : ℕ → List Submitted → List Submitted
new_after last [] = []
new_after last (s ∷ more) = if may_come (Some last) s.request then s ∷ new_after (max last s.request) more else new_after last more

-- the epochs of an input without a fault
abbrev pub submitted_by : Result (List Order) Fault → List Submitted
submitted_by (Ok orders) = submissions orders
submitted_by (Err fault) = []

-- what an order of a feed submits names inputs of the plan; it has no places, no notes, no questions and no copies, and says of no epoch that it was seen
abbrev pub IsAccepted : List PlanLine → Order → Type 0
IsAccepted plan (order.Submit batch) = IsTrue (list_all (λ e. is_input_of plan e.input) batch)
IsAccepted plan (order.SubmitAs request batch) = IsTrue (list_all (λ e. is_input_of plan e.input) batch)
IsAccepted plan (order.SubmitAt place request batch) = ⊥
IsAccepted plan order.Cut = Unit {0}
IsAccepted plan (order.Seen line epoch) = ⊥
IsAccepted plan (order.Answer vertex wanted) = ⊥
IsAccepted plan (order.Copy copy) = ⊥
IsAccepted plan (order.Say note) = ⊥

-- a fault of an input: of a line, or for want of memory
abbrev pub is_of_input : Fault → Bool
is_of_input (Line n fault) = true
is_of_input Memory = true
is_of_input _ = false

-- a call gave this answer, or was refused a growth
abbrev pub Gives : {A : Type 0} → Result A Fault → Result A Fault → Type 0
Gives (Ok read) wanted = wanted ≡ Ok read
Gives (Err fault) wanted = (fault ≡ Memory) ⊎ (wanted ≡ Err fault)

-- WHAT THE FIRST LINE of some bytes says, and what comes after it
pub record IsFirstLine (bytes : List ℕ) (said : Option FeedLine) (rest : List ℕ) : Type 0 where
  pub line : List ℕ
  pub lines : text_lines bytes ≡ line ∷ text_lines rest
  pub says : said ≡ feed_line_of line
  pub shorter : length rest < length bytes
