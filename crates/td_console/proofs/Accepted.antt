-- The batches that are read name input vertices alone.
use Rattle.std.proofs.Common.{◌≡◌, ℕ, ◌+◌, Bool, true, false, ◌&&◌, List, [], ◌∷◌, ◌++◌, Option, Some, None, Result, Ok, Err, refl, cond, All, IsTrue, subst, IfOk, ap, ◌∙◌}
use Rattle.std.specs.declared.cmp.Ordering.{Ordering}
use Rattle.std.specs.declared.cmp.Ordering.TheVariants.{Less, Equal, Greater}
use Rattle.std.specs.List.{list_all}
use Rattle.std.proofs.lemmas.List.Folds.{list_all-append}
use Rattle.std.proofs.lemmas.List.Elements.{All-nil, All-cons, All-append}
use Rattle.td_stamp.specs.declared.values.Entry.{Entry}
use Rattle.td_stamp.specs.Orders.{entry_cmp}
use Rattle.td_stamp.specs.Bag.{bag_of, bag_insert}
use Rattle.td_plan.specs.Lines.{Line as PlanLine}
use Rattle.td_plan.specs.Inputs.{is_input_of}
use Rattle.td_console.specs.declared.data_line.DataLine.{DataLine}
use Rattle.td_console.specs.declared.data_line.DataLine.TheVariants.{PassedOver, Record, Close}
use Rattle.td_console.specs.declared.faults.LineFault.TheVariants.{NoSuchInput}
use Rattle.td_console.specs.declared.faults.Fault.{Fault}
use Rattle.td_console.specs.declared.faults.Fault.TheVariants.{Line}
use Rattle.td_console.specs.Data.{data_line_of}
use Rattle.td_console.specs.CodeSteps.{no_epochs, with_data_line, epochs_then, closed_batches, read_from}

-- entries that all name inputs
abbrev AreInputs : List PlanLine → List Entry → Type 0
AreInputs plan entries = IsTrue (list_all (λ e. is_input_of plan e.input) entries)

-- a bag passes a test where its list does
swapped : (a b c : Bool) → (a && (b && c)) ≡ (b && (a && c))
swapped true b c = refl
swapped false true c = refl
swapped false false c = refl

inserted : (test : Entry → Bool) (e : Entry) (xs : List Entry) → list_all test (bag_insert entry_cmp e xs) ≡ (test e && list_all test xs)
inserted test e [] = refl
inserted test e (x ∷ xs) = by (entry_cmp e x) (inserted test e xs)
  where
    by : (o : Ordering) → list_all test (bag_insert entry_cmp e xs) ≡ (test e && list_all test xs) → list_all test (elim o [ Greater ↦ x ∷ bag_insert entry_cmp e xs | _ ↦ e ∷ x ∷ xs ]) ≡ (test e && (test x && list_all test xs))
    by Less more = refl
    by Equal more = refl
    by Greater more = ap (λ b. test x && b) more ∙ swapped (test x) (test e) (list_all test xs)

bagged : (test : Entry → Bool) (xs : List Entry) → list_all test (bag_of entry_cmp xs) ≡ list_all test xs
bagged test [] = refl
bagged test (x ∷ xs) = inserted test x (bag_of entry_cmp xs) ∙ ap (λ b. test x && b) (bagged test xs)

at_end : (plan : List PlanLine) (n : ℕ) (closed : List (List Entry)) (current : List Entry) (bs : List (List Entry)) → All (AreInputs plan) closed → closed_batches n closed current ≡ Ok bs → All (AreInputs plan) bs
at_end plan n closed [] bs h e = let same : closed ≡ bs = cc in subst (All (AreInputs plan)) same h
at_end plan n closed (x ∷ current) bs h e = cc

step : (plan : List PlanLine) (n : ℕ) (closed : List (List Entry)) (current : List Entry) (lines : List (List ℕ)) (bs : List (List Entry)) →
    ((closed : List (List Entry)) (current : List Entry) → All (AreInputs plan) closed → AreInputs plan current → read_from plan (n + 1) (record { closed = closed; current = current }) lines ≡ Ok bs → All (AreInputs plan) bs) →
    (o : Option DataLine) → All (AreInputs plan) closed → AreInputs plan current →
    epochs_then (λ more. read_from plan (n + 1) more lines) (with_data_line plan n (record { closed = closed; current = current }) o) ≡ Ok bs → All (AreInputs plan) bs
step plan n closed current lines bs more None h k e = cc
step plan n closed current lines bs more (Some PassedOver) h k e = more closed current h k e
step plan n closed current lines bs more (Some Close) h k e =
    let bag = bag_of entry_cmp current in
    let inputs : AreInputs plan bag = bagged (λ x. is_input_of plan x.input) current ∙ k in
    more (closed ++ bag ∷ []) [] (All-append (AreInputs plan) closed (bag ∷ []) h (All-cons (AreInputs plan) bag [] inputs (All-nil (AreInputs plan)))) refl e
step plan n closed current lines bs more (Some (Record input rec)) h k e = by (is_input_of plan input) refl e
  where
    by : (b : Bool) → is_input_of plan input ≡ b →
        epochs_then (λ more. read_from plan (n + 1) more lines) (cond b (Ok (record { closed = closed; current = current ++ record { input = input; rec = rec } ∷ [] })) (Err (Line n NoSuchInput))) ≡ Ok bs → All (AreInputs plan) bs
    by true is f =
        let one = record { input = input; rec = rec } ∷ [] in
        let inputs : AreInputs plan (current ++ one) = list_all-append (λ x. is_input_of plan x.input) current one ∙ rw (k, is) refl in
        more closed (current ++ one) h inputs f
    by false is f = cc

from : (plan : List PlanLine) (n : ℕ) (closed : List (List Entry)) (current : List Entry) (lines : List (List ℕ)) (bs : List (List Entry)) →
    All (AreInputs plan) closed → AreInputs plan current → read_from plan n (record { closed = closed; current = current }) lines ≡ Ok bs → All (AreInputs plan) bs
from plan n closed current [] bs h k e = at_end plan n closed current bs h e
from plan n closed current (line ∷ lines) bs h k e = step plan n closed current lines bs (λ closed current. from plan (n + 1) closed current lines bs) (data_line_of line) h k e

pub accepted : {V : Type 0} (items : V → List (List Entry)) (plan : List PlanLine) (n : ℕ) (lines : List (List ℕ)) (r : Result V Fault) →
    IfOk r (λ b. read_from plan n no_epochs lines ≡ Ok (items b)) → IfOk r (λ b. All (λ batch. IsTrue (list_all (λ e. is_input_of plan e.input) batch)) (items b))
accepted items plan n lines (Ok b) e = from plan n [] [] lines (items b) (All-nil (AreInputs plan)) refl e
accepted items plan n lines (Err f) e = tt
