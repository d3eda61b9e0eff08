-- A script without places.
use Rattle.std.proofs.Common.{◌≡◌, ℕ, zero, suc, ◌+◌, Bool, true, false, List, [], ◌∷◌, ◌++◌, length, refl, sym, subst}
use Rattle.std.specs.Prelude.{Option, Some, None, if◌then◌else◌, Result, Ok, Err, IfOk}
use Rattle.std.specs.List.{list_all}
use Rattle.std.specs.Char.{is_ascii}
use Rattle.td_stamp.specs.declared.values.Entry.{Entry}
use Rattle.td_stamp.specs.Orders.{entry_cmp}
use Rattle.td_stamp.specs.Bag.{bag_of}
use Rattle.td_plan.specs.Lines.{Line as PlanLine}
use Rattle.td_plan.specs.Inputs.{is_input_of}
use Rattle.td_plan.specs.Text.{text_lines, words}
use Rattle.td_questions.specs.declared.question.Question.{Question}
use Rattle.td_questions.specs.Words.{question_of, fold_of}
use Rattle.td_console.specs.declared.data_line.DataLine.TheVariants.{PassedOver, Record, Close}
use Rattle.td_console.specs.declared.faults.LineFault.TheVariants.{NoSuchInput}
use Rattle.td_console.specs.declared.faults.Fault.{Fault}
use Rattle.td_console.specs.declared.faults.Fault.TheVariants.{Line}
use Rattle.td_orders.specs.declared.note.Flaw.{Flaw}
use Rattle.td_orders.specs.declared.order.Place.{Place}
use Rattle.td_orders.specs.declared.order.CopyTo.{CopyTo}
use Rattle.td_orders.specs.declared.order.FeedLine.{FeedLine}
use Rattle.td_orders.specs.declared.order.FeedLine.TheVariants.{Data, Request, At, Cut, Seen, Ask, Copy}
use Rattle.td_orders.specs.declared.order.Order.TheVariants as order
use Rattle.td_orders.specs.Orders.{Orders, no_orders, order_for, order_at, is_between, has_no_number, with_cut, with_request, with_seen, with_answer, with_question, with_line, held_line_of, or_stream_line, session_line_of, or_session_line, service_line_of, copy_of, with_copy}
use Rattle.td_orders.specs.Scripts.{Reading, ReadSoFar, HaveNoPlace, note_of, judged, unless_over, is_over, with_said, onward, after_line, script_after, script_from, script_of}
use Rattle.td_orders.specs.Placed.{placed}
use Rattle.td_orders.proofs.Accepted.{IsOfHeld, of_held}
use Rattle.td_orders.proofs.Placed.{no_place-append, all_placed}

-- a line names no place
abbrev NamesNoPlace : Option FeedLine → Type 0
NamesNoPlace (Some (At epoch)) = ⊥
NamesNoPlace _ = Unit {0}

no_place_in : (said : Option FeedLine) → IsOfHeld said → NamesNoPlace said
no_place_in None of = tt
no_place_in (Some (Data said)) of = tt
no_place_in (Some (Request q)) of = tt
no_place_in (Some (At epoch)) of = of
no_place_in (Some Cut) of = tt
no_place_in (Some (Seen epoch)) of = tt
no_place_in (Some (Ask question)) of = tt
no_place_in (Some (Copy copy)) of = tt

-- where epochs have no places, no line of a stream does, and no question
of_session : (hold questions : Bool) (line : List ℕ) → NamesNoPlace (session_line_of false hold questions line)
of_session hold false line = no_place_in (held_line_of hold line) (of_held hold line)
of_session hold true line = by (list_all is_ascii line) (question_of (words line))
  where
    by : (ascii : Bool) (question : Option Question) → NamesNoPlace (if ascii then or_stream_line false hold line question else None)
    by false question = tt
    by true (Some question) = tt
    by true None = no_place_in (held_line_of hold line) (of_held hold line)

-- nor does one that asks for a copy
of_service : (hold questions copies : Bool) (line : List ℕ) → NamesNoPlace (service_line_of false hold questions copies line)
of_service hold questions false line = of_session hold questions line
of_service hold questions true line = by (list_all is_ascii line) (copy_of (words line))
  where
    by : (ascii : Bool) (copy : Option CopyTo) → NamesNoPlace (if ascii then or_session_line false hold questions line copy else None)
    by false copy = tt
    by true (Some copy) = tt
    by true None = of_session hold questions line

-- neither the orders so far nor the open epoch have places
abbrev IsPlain : Orders → Type 0
IsPlain read = (read.place ≡ None) × HaveNoPlace read.orders

one_plain : (place : Option Place) (q : ℕ) (batch : List Entry) → place ≡ None → HaveNoPlace (order_at place q batch ∷ [])
one_plain place q batch is = subst (λ (p : Option Place). HaveNoPlace (order_at p q batch ∷ [])) (sym is) (by q)
  where
    by : (q : ℕ) → HaveNoPlace (order_for q batch ∷ [])
    by zero = tt
    by (suc q) = tt

line_plain : (plan : List PlanLine) (n : ℕ) (read : Orders) (said : Option FeedLine) → NamesNoPlace said → IsPlain read → IfOk (with_line plan n read said) IsPlain
line_plain plan n read None of is = tt
line_plain plan n read (Some Cut) of is = by (is_between read)
  where
    by : (b : Bool) → IfOk (with_cut n read b) IsPlain
    by true = (is.0, no_place-append read.orders (order.Cut ∷ []) is.1 tt)
    by false = tt
line_plain plan n read (Some (Seen epoch)) of is = by (is_between read)
  where
    by : (b : Bool) → IfOk (with_seen n epoch read b) IsPlain
    by true = (is.0, no_place-append read.orders (order.Seen n epoch ∷ []) is.1 tt)
    by false = tt
line_plain plan n read (Some (Ask question)) of is = by (is_between read)
  where
    to : (o : Option ℕ) → IfOk (with_answer n question.wanted read o) IsPlain
    to None = tt
    to (Some vertex) = (is.0, no_place-append read.orders (order.Answer vertex question.wanted ∷ []) is.1 tt)

    by : (b : Bool) → IfOk (with_question plan n question read b) IsPlain
    by true = to (fold_of plan question.vertex)
    by false = tt
line_plain plan n read (Some (Copy copy)) of is = by (is_between read)
  where
    by : (b : Bool) → IfOk (with_copy n copy read b) IsPlain
    by true = (is.0, no_place-append read.orders (order.Copy copy ∷ []) is.1 tt)
    by false = tt
line_plain plan n read (Some (Request q)) of is = by (has_no_number read)
  where
    by : (b : Bool) → IfOk (with_request n q read b) IsPlain
    by true = is
    by false = tt
line_plain plan n read (Some (At epoch)) of is = absurd of
line_plain plan n read (Some (Data PassedOver)) of is = is
line_plain plan n read (Some (Data Close)) of is =
    let bag = bag_of entry_cmp read.current in
    (refl, no_place-append read.orders (order_at read.place read.request bag ∷ []) is.1 (one_plain read.place read.request bag is.0))
line_plain plan n read (Some (Data (Record input rec))) of is = by (is_input_of plan input)
  where
    by : (b : Bool) → IfOk (if b then Ok (record { orders = read.orders; place = read.place; request = read.request; current = read.current ++ record { input = input; rec = rec } ∷ [] }) else Err (Line n NoSuchInput)) IsPlain
    by true = is
    by false = tt

abbrev IsPlainSoFar : ReadSoFar → Type 0
IsPlainSoFar next = IsPlain next.1

judged_plain : (limit : Option ℕ) (n : ℕ) (line : List ℕ) (read : Orders) (w : Result Orders Fault) → IsPlain read → IfOk w IsPlain → IfOk (judged limit n line read w) IsPlainSoFar
judged_plain limit n line read (Ok next) is more = by (is_over limit (length next.current))
  where
    by : (b : Bool) → IsPlainSoFar (unless_over n line read next b)
    by true = (refl, is.1)
    by false = more
judged_plain None n line read (Err fault) is more = tt
judged_plain (Some most) n line read (Err fault) is more = (refl, is.1)

said_plain : (plan : List PlanLine) (limit : Option ℕ) (n : ℕ) (flaw : Option (ℕ × Flaw)) (read : Orders) (line : List ℕ) (said : Option FeedLine) → NamesNoPlace said → IsPlain read
    → IfOk (with_said plan limit n flaw read line said) IsPlainSoFar
said_plain plan limit n None read line said of is = judged_plain limit n line read (with_line plan n read said) is (line_plain plan n read said of is)
said_plain plan limit n (Some why) read line None of is = (refl, is.1)
said_plain plan limit n (Some why) read line (Some Cut) of is = (refl, is.1)
said_plain plan limit n (Some why) read line (Some (Seen epoch)) of is = (refl, is.1)
said_plain plan limit n (Some why) read line (Some (Ask question)) of is = (refl, is.1)
said_plain plan limit n (Some why) read line (Some (Copy copy)) of is = (refl, is.1)
said_plain plan limit n (Some why) read line (Some (Request q)) of is = (refl, is.1)
said_plain plan limit n (Some why) read line (Some (At epoch)) of is = absurd of
said_plain plan limit n (Some why) read line (Some (Data PassedOver)) of is = (refl, is.1)
said_plain plan limit n (Some why) read line (Some (Data (Record input rec))) of is = (refl, is.1)
said_plain plan limit n (Some why) read line (Some (Data Close)) of is = (refl, no_place-append read.orders (order.Say (note_of read.request why) ∷ []) is.1 tt)

script_plain : (plan : List PlanLine) (hold questions copies : Bool) (limit : Option ℕ) (n : ℕ) (flaw : Option (ℕ × Flaw)) (read : Orders) (lines : List (List ℕ)) → IsPlain read
    → HaveNoPlace (script_from (record { plan = plan; placing = false; hold = hold; questions = questions; copies = copies; limit = limit; number = n; flaw = flaw; read = read }) lines).orders
script_plain plan hold questions copies limit n flaw read [] is = is.1
script_plain plan hold questions copies limit n flaw read (line ∷ lines) is =
    by (with_said plan limit n flaw read line (service_line_of false hold questions copies line)) (said_plain plan limit n flaw read line (service_line_of false hold questions copies line) (of_service hold questions copies line) is)
    (λ next plain. script_plain plan hold questions copies limit (n + 1) next.0 next.1 lines plain)
  where
    here : Reading
    here = record { plan = plan; placing = false; hold = hold; questions = questions; copies = copies; limit = limit; number = n; flaw = flaw; read = read }

    by : (w : Result ReadSoFar Fault) → IfOk w IsPlainSoFar → ((next : ReadSoFar) → IsPlainSoFar next → HaveNoPlace (script_from (after_line here next) lines).orders)
        → HaveNoPlace (script_after read (λ more. script_from more lines) (onward here w)).orders
    by (Ok next) plain more = more next plain
    by (Err fault) plain more = is.1

-- WHERE EPOCHS HAVE NO PLACES, a script is the same at each disk
pub same_anywhere : (hold questions copies : Bool) (limit : Option ℕ) (plan : List PlanLine) (input : List ℕ) (refuses : Bool) (told last : ℕ) → placed refuses told last (script_of false hold questions copies limit plan input) ≡ script_of false hold questions copies limit plan input
same_anywhere hold questions copies limit plan input refuses told last =
    let script = script_of false hold questions copies limit plan input in
    all_placed script.fault refuses told last script.orders (script_plain plan hold questions copies limit 1 None no_orders (text_lines input) (refl, tt))
