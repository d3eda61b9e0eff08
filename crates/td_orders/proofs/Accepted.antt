-- The batches that are submitted name input vertices alone.
use Rattle.std.proofs.Common.{◌≡◌, ℕ, zero, suc, ◌+◌, Bool, true, false, ◌&&◌, List, [], ◌∷◌, ◌++◌, Option, Some, None, Result, Ok, Err, refl, cond, All, IsTrue, subst, ap, ◌∙◌}
use Rattle.std.specs.Prelude.{option_map, if◌then◌else◌}
use Rattle.std.specs.declared.cmp.Ordering.{Ordering}
use Rattle.std.specs.declared.cmp.Ordering.TheVariants.{Less, Equal, Greater}
use Rattle.std.specs.List.{list_all}
use Rattle.std.proofs.lemmas.List.Folds.{list_all-append}
use Rattle.std.proofs.lemmas.List.Elements.{All-nil, All-cons, All-append}
use Rattle.td_stamp.specs.declared.values.Entry.{Entry}
use Rattle.td_stamp.specs.Orders.{entry_cmp}
use Rattle.td_stamp.specs.Bag.{bag_of, bag_insert}
use Rattle.td_plan.specs.Lines.{Line as PlanLine}
use Rattle.std.specs.Char.{is_ascii}
use Rattle.td_plan.specs.Text.{text_lines, words}
use Rattle.td_plan.specs.Inputs.{is_input_of}
use Rattle.td_console.specs.declared.data_line.DataLine.{DataLine}
use Rattle.td_console.specs.declared.data_line.DataLine.TheVariants.{PassedOver, Record, Close}
use Rattle.td_console.specs.Data.{data_line_of}
use Rattle.td_console.specs.declared.faults.LineFault.TheVariants.{NoSuchInput}
use Rattle.td_console.specs.declared.faults.Fault.{Fault}
use Rattle.td_console.specs.declared.faults.Fault.TheVariants.{Line}
use Rattle.td_orders.specs.declared.order.FeedLine.{FeedLine}
use Rattle.td_orders.specs.declared.order.FeedLine.TheVariants.{Data, Request, At, Cut, Seen, Ask, Copy}
use Rattle.td_orders.specs.declared.order.Order.{Order}
use Rattle.td_orders.specs.declared.order.Order.TheVariants as order
use Rattle.td_orders.specs.Orders.{Orders, IsAccepted, is_cut, request_of, seen_of, or_data, or_feed_line, has_no_number, is_between, order_for, with_cut, with_request, with_line, and_then, ended, orders_from, orders_of, feed_line_of, held_line_of}

-- entries that all name inputs
abbrev AreInputs : List PlanLine → List Entry → Type 0
AreInputs plan entries = IsTrue (list_all (λ e. is_input_of plan e.input) entries)

-- a bag passes a test where its list does
swapped : (a b c : Bool) → (a && (b && c)) ≡ (b && (a && c))
swapped true b c = refl
swapped false true c = refl
swapped false false c = refl

inserted : (test : Entry → Bool) (e : Entry) (xs : List Entry) → list_all test (bag_insert entry_cmp e xs) ≡ (test e && list_all test xs)
inserted test e [] = refl
inserted test e (x ∷ xs) = by (entry_cmp e x) (inserted test e xs)
  where
    by : (o : Ordering) → list_all test (bag_insert entry_cmp e xs) ≡ (test e && list_all test xs) → list_all test (elim o [ Greater ↦ x ∷ bag_insert entry_cmp e xs | _ ↦ e ∷ x ∷ xs ]) ≡ (test e && (test x && list_all test xs))
    by Less more = refl
    by Equal more = refl
    by Greater more = ap (λ b. test x && b) more ∙ swapped (test x) (test e) (list_all test xs)

bagged : (test : Entry → Bool) (xs : List Entry) → list_all test (bag_of entry_cmp xs) ≡ list_all test xs
bagged test [] = refl
bagged test (x ∷ xs) = inserted test x (bag_of entry_cmp xs) ∙ ap (λ b. test x && b) (bagged test xs)

-- one order more
pushed : (plan : List PlanLine) (orders : List Order) (o : Order) → All (IsAccepted plan) orders → IsAccepted plan o → All (IsAccepted plan) (orders ++ o ∷ [])
pushed plan orders o h k = All-append (IsAccepted plan) orders (o ∷ []) h (All-cons (IsAccepted plan) o [] k (All-nil (IsAccepted plan)))

at_end : (plan : List PlanLine) (n : ℕ) (orders : List Order) (between : Bool) (os : List Order) → All (IsAccepted plan) orders → ended n orders between ≡ Ok os → All (IsAccepted plan) os
at_end plan n orders true os h e = let same : orders ≡ os = cc in subst (All (IsAccepted plan)) same h
at_end plan n orders false os h e = cc

-- what submits a batch is accepted where the batch is
submits : (plan : List PlanLine) (request : ℕ) (batch : List Entry) → AreInputs plan batch → IsAccepted plan (order_for request batch)
submits plan zero batch inputs = inputs
submits plan (suc q) batch inputs = inputs

-- a line of a feed has no place, asks nothing, and says of no epoch that it was seen
abbrev pub IsOfFeed : Option FeedLine → Type 0
IsOfFeed (Some (At epoch)) = ⊥
IsOfFeed (Some (Seen epoch)) = ⊥
IsOfFeed (Some (Ask question)) = ⊥
IsOfFeed (Some (Copy copy)) = ⊥
IsOfFeed _ = Unit {0}

-- one of a stream where outputs are held may say that
abbrev pub IsOfHeld : Option FeedLine → Type 0
IsOfHeld (Some (Seen epoch)) = Unit {0}
IsOfHeld said = IsOfFeed said

held_of : (said : Option FeedLine) → IsOfFeed said → IsOfHeld said
held_of None of = tt
held_of (Some (Data said)) of = tt
held_of (Some (Request q)) of = tt
held_of (Some (At epoch)) of = of
held_of (Some Cut) of = tt
held_of (Some (Seen epoch)) of = tt
held_of (Some (Ask question)) of = of
held_of (Some (Copy copy)) of = of

pub of_feed : (line : List ℕ) → IsOfFeed (feed_line_of line)
of_feed line = by (list_all is_ascii line) (is_cut (words line)) (request_of (words line))
  where
    of_data : (said : Option DataLine) → IsOfFeed (option_map Data said)
    of_data None = tt
    of_data (Some said) = tt

    by : (ascii cut : Bool) (request : Option ℕ) → IsOfFeed (if ascii then (if cut then Some Cut else or_data line request) else None)
    by false cut request = tt
    by true true request = tt
    by true false (Some q) = tt
    by true false None = of_data (data_line_of line)

-- nor does one of a stream where epochs have no places and nothing is answered
pub of_held : (hold : Bool) (line : List ℕ) → IsOfHeld (held_line_of hold line)
of_held false line = held_of (feed_line_of line) (of_feed line)
of_held true line = by (list_all is_ascii line) (seen_of (words line))
  where
    by : (ascii : Bool) (epoch : Option ℕ) → IsOfHeld (if ascii then or_feed_line line epoch else None)
    by false epoch = tt
    by true (Some epoch) = tt
    by true None = held_of (feed_line_of line) (of_feed line)

-- between lines of a feed
abbrev begun : List Order → ℕ → List Entry → Orders
begun orders request current = record { orders = orders; place = None; request = request; current = current }

-- one line more, where it holds of those after it
step : (plan : List PlanLine) (n : ℕ) (orders : List Order) (request : ℕ) (current : List Entry) (os : List Order) (next : Orders → Result (List Order) Fault) →
    ((orders : List Order) (request : ℕ) (current : List Entry) → All (IsAccepted plan) orders → AreInputs plan current → next (begun orders request current) ≡ Ok os → All (IsAccepted plan) os) →
    (o : Option FeedLine) → IsOfFeed o → All (IsAccepted plan) orders → AreInputs plan current →
    and_then next (with_line plan n (begun orders request current) o) ≡ Ok os → All (IsAccepted plan) os
step plan n orders request current os next more None of h k e = cc
step plan n orders request current os next more (Some (Ask question)) of h k e = absurd of
step plan n orders request current os next more (Some (Copy copy)) of h k e = absurd of
step plan n orders request current os next more (Some Cut) of h k e = by (is_between (begun orders request current)) e
  where
    by : (between : Bool) → and_then next (with_cut n (begun orders request current) between) ≡ Ok os → All (IsAccepted plan) os
    by true f = more (orders ++ order.Cut ∷ []) request current (pushed plan orders order.Cut h tt) k f
    by false f = cc
step plan n orders request current os next more (Some (Seen epoch)) of h k e = absurd of
step plan n orders request current os next more (Some (Request q)) of h k e = by (has_no_number (begun orders request current)) e
  where
    by : (unnumbered : Bool) → and_then next (with_request n q (begun orders request current) unnumbered) ≡ Ok os → All (IsAccepted plan) os
    by true f = more orders q current h k f
    by false f = cc
step plan n orders request current os next more (Some (At epoch)) of h k e = absurd of
step plan n orders request current os next more (Some (Data PassedOver)) of h k e = more orders request current h k e
step plan n orders request current os next more (Some (Data Close)) of h k e =
    let bag = bag_of entry_cmp current in
    let inputs : AreInputs plan bag = bagged (λ x. is_input_of plan x.input) current ∙ k in
    more (orders ++ order_for request bag ∷ []) 0 [] (pushed plan orders (order_for request bag) h (submits plan request bag inputs)) refl e
step plan n orders request current os next more (Some (Data (Record input rec))) of h k e = by (is_input_of plan input) refl e
  where
    by : (b : Bool) → is_input_of plan input ≡ b →
        and_then next (cond b (Ok (begun orders request (current ++ record { input = input; rec = rec } ∷ []))) (Err (Line n NoSuchInput))) ≡ Ok os → All (IsAccepted plan) os
    by true is f =
        let one = record { input = input; rec = rec } ∷ [] in
        let inputs : AreInputs plan (current ++ one) = list_all-append (λ x. is_input_of plan x.input) current one ∙ rw (k, is) refl in
        more orders request (current ++ one) h inputs f
    by false is f = cc

from : (plan : List PlanLine) (n : ℕ) (orders : List Order) (request : ℕ) (current : List Entry) (lines : List (List ℕ)) (os : List Order) →
    All (IsAccepted plan) orders → AreInputs plan current → orders_from plan n (begun orders request current) lines ≡ Ok os → All (IsAccepted plan) os
from plan n orders request current [] os h k e = at_end plan n orders (is_between (begun orders request current)) os h e
from plan n orders request current (line ∷ lines) os h k e =
    step plan n orders request current os (λ more. orders_from plan (n + 1) more lines) (λ orders request current. from plan (n + 1) orders request current lines os) (feed_line_of line) (of_feed line) h k e

-- THE ORDERS OF AN INPUT are accepted
pub accepted : (plan : List PlanLine) (input : List ℕ) (os : List Order) → orders_of plan input ≡ Ok os → All (IsAccepted plan) os
accepted plan input os e = from plan 1 [] 0 [] (text_lines input) os (All-nil (IsAccepted plan)) refl e
