-- What the reader of data lines answers line by line is what the definitions say of all lines.
use Rattle.std.proofs.Common.{◌≡◌, ℕ, suc, ◌+◌, Bool, true, false, List, [], ◌∷◌, ◌++◌, map, length, Option, Some, None, Result, Ok, Err, refl, ap, sym, ◌∙◌, cond, arith, append-nil, IfOk, IfErr, ◌⊎◌, inl, inr}
use Rattle.std.proofs.lemmas.List.{append_assoc}
use Rattle.std.specs.List.{filter_map, slice_split, slice_get, enumerate_from, onto_first, cons_option}
use Rattle.td_stamp.specs.declared.values.Entry.{Entry}
use Rattle.td_stamp.specs.declared.values.Rec.{Rec}
use Rattle.td_stamp.specs.Orders.{entry_cmp}
use Rattle.td_stamp.specs.Bag.{bag_of}
use Rattle.td_plan.specs.Lines.{Line as PlanLine}
use Rattle.td_plan.specs.Inputs.{is_input_of}
use Rattle.td_console.specs.declared.data_line.DataLine.{DataLine}
use Rattle.td_console.specs.declared.data_line.DataLine.TheVariants.{PassedOver, Record, Close}
use Rattle.td_console.specs.declared.faults.LineFault.TheVariants.{NoSuchInput}
use Rattle.td_console.specs.declared.faults.Fault.{Fault}
use Rattle.td_console.specs.declared.faults.Fault.TheVariants.{Line, Memory}
use Rattle.td_console.specs.Data.{data_line_of, closes, entry_of, but_last, last, batches_of, line_fault, end_faults, data_fault}
use Rattle.td_console.specs.CodeSteps.{no_epochs, with_data_line, epochs_then, closed_batches, read_from}

-- further entries before the first list
abbrev onto : List Entry → List (List Entry) → List (List Entry)
onto xs [] = xs ∷ []
onto xs (p ∷ ps) = (xs ++ p) ∷ ps

-- all lists but the last, as bags
abbrev bags_of : List (List Entry) → List (List Entry)
bags_of lists = map (bag_of entry_cmp) (but_last lists)

abbrev line_faults : List PlanLine → ℕ → List (List ℕ) → List Fault
line_faults plan n lines = filter_map (λ p. line_fault plan p.0 (data_line_of p.1)) (enumerate_from n lines)

-- the answer by its first fault, else its batches
abbrev answer : List (List Entry) → Option Fault → Result (List (List Entry)) Fault
answer batches None = Ok batches
answer batches (Some fault) = Err fault

-- the answer to faults of lines, and to lists of entries after closed epochs, where n is the number of the end
abbrev judged : List (List Entry) → List Fault → ℕ → List (List Entry) → Result (List (List Entry)) Fault
judged closed faults n lists = answer (closed ++ bags_of lists) (slice_get (faults ++ end_faults n (last lists)) 0)

-- the lists of entries of what some lines spell
abbrev lists_of : List DataLine → List (List Entry)
lists_of said = map (filter_map entry_of) (slice_split closes said)

-- there is always a list
some_list : (said : List DataLine) → (p : List Entry) × (ps : List (List Entry)) × (lists_of said ≡ p ∷ ps)
some_list [] = ([], [], refl)
some_list (d ∷ said) = by (closes d) (slice_split closes said)
  where
    by : (b : Bool) (rest : List (List DataLine)) → (p : List Entry) × (ps : List (List Entry)) × (map (filter_map entry_of) (cond b ([] ∷ rest) (onto_first d rest)) ≡ p ∷ ps)
    by true rest = ([], map (filter_map entry_of) rest, refl)
    by false [] = (filter_map entry_of (d ∷ []), [], refl)
    by false (part ∷ parts) = (filter_map entry_of (d ∷ part), map (filter_map entry_of) parts, refl)

-- nothing before the first list
onto-nil : (said : List DataLine) → onto [] (lists_of said) ≡ lists_of said
onto-nil said = let s = some_list said in rw s.2 refl

-- a line that is passed over, or a record, goes to the first list
onto-passed : (xs : List Entry) (said : List DataLine) → onto xs (lists_of (PassedOver ∷ said)) ≡ onto xs (lists_of said)
onto-passed xs said = by (slice_split closes said)
  where
    by : (parts : List (List DataLine)) → onto xs (map (filter_map entry_of) (onto_first PassedOver parts)) ≡ onto xs (map (filter_map entry_of) parts)
    by [] = ap (λ l. l ∷ []) (append-nil xs)
    by (part ∷ parts) = refl

abbrev entry : ℕ → Rec → Entry
entry input rec = record { input = input; rec = rec }

onto-record : (xs : List Entry) (input : ℕ) (rec : Rec) (said : List DataLine) →
    onto xs (lists_of (Record input rec ∷ said)) ≡ onto (xs ++ entry input rec ∷ []) (lists_of said)
onto-record xs input rec said = by (slice_split closes said)
  where
    by : (parts : List (List DataLine)) → onto xs (map (filter_map entry_of) (onto_first (Record input rec) parts)) ≡ onto (xs ++ entry input rec ∷ []) (map (filter_map entry_of) parts)
    by [] = refl
    by (part ∷ parts) = ap (λ l. l ∷ map (filter_map entry_of) parts) (sym (append_assoc xs (entry input rec ∷ []) (filter_map entry_of part)))

-- a line that closes begins a new list
judged-close : (closed : List (List Entry)) (xs : List Entry) (faults : List Fault) (n : ℕ) (said : List DataLine) →
    judged closed faults n (onto xs (lists_of (Close ∷ said))) ≡ judged (closed ++ bag_of entry_cmp xs ∷ []) faults n (onto [] (lists_of said))
judged-close closed xs faults n said = let s = some_list said in rw s.2 (by s.0 s.1)
  where
    by : (p : List Entry) (ps : List (List Entry)) → judged closed faults n ((xs ++ []) ∷ p ∷ ps) ≡ judged (closed ++ bag_of entry_cmp xs ∷ []) faults n (p ∷ ps)
    by p ps =
        ap (λ ys. judged closed faults n (ys ∷ p ∷ ps)) (append-nil xs)
        ∙ ap (λ bs. answer bs (slice_get (faults ++ end_faults n (last (p ∷ ps))) 0)) (sym (append_assoc closed (bag_of entry_cmp xs ∷ []) (bags_of (p ∷ ps))))

-- at the end
at_end : (n : ℕ) (closed : List (List Entry)) (xs : List Entry) → closed_batches n closed xs ≡ judged closed [] n (onto xs (lists_of []))
at_end n closed [] = ap Ok (sym (append-nil closed))
at_end n closed (e ∷ xs) = refl

-- one more line, where the answer is known of those after it
step : (plan : List PlanLine) (n : ℕ) (closed : List (List Entry)) (xs : List Entry) (lines : List (List ℕ)) →
    ((closed : List (List Entry)) (xs : List Entry) → read_from plan (n + 1) (record { closed = closed; current = xs }) lines ≡ judged closed (line_faults plan (n + 1) lines) (n + suc (length lines)) (onto xs (lists_of (filter_map data_line_of lines)))) →
    (o : Option DataLine) → epochs_then (λ more. read_from plan (n + 1) more lines) (with_data_line plan n (record { closed = closed; current = xs }) o)
    ≡ judged closed (cons_option (line_fault plan n o) (line_faults plan (n + 1) lines)) (n + suc (length lines)) (onto xs (lists_of (cons_option o (filter_map data_line_of lines))))
step plan n closed xs lines more None = refl
step plan n closed xs lines more (Some PassedOver) =
    more closed xs ∙ ap (judged closed (line_faults plan (n + 1) lines) (n + suc (length lines))) (sym (onto-passed xs (filter_map data_line_of lines)))
step plan n closed xs lines more (Some Close) =
    more (closed ++ bag_of entry_cmp xs ∷ []) [] ∙ sym (judged-close closed xs (line_faults plan (n + 1) lines) (n + suc (length lines)) (filter_map data_line_of lines))
step plan n closed xs lines more (Some (Record input rec)) = by (is_input_of plan input)
  where
    by : (b : Bool) →
        epochs_then (λ more. read_from plan (n + 1) more lines) (cond b (Ok (record { closed = closed; current = xs ++ entry input rec ∷ [] })) (Err (Line n NoSuchInput)))
        ≡ judged closed (cons_option (cond b None (Some (Line n NoSuchInput))) (line_faults plan (n + 1) lines)) (n + suc (length lines)) (onto xs (lists_of (Record input rec ∷ filter_map data_line_of lines)))
    by true =
        more closed (xs ++ entry input rec ∷ [])
        ∙ ap (judged closed (line_faults plan (n + 1) lines) (n + suc (length lines))) (sym (onto-record xs input rec (filter_map data_line_of lines)))
    by false = refl

-- THE READER'S ANSWER from some epochs on
answered : (plan : List PlanLine) (n : ℕ) (closed : List (List Entry)) (xs : List Entry) (lines : List (List ℕ)) →
    read_from plan n (record { closed = closed; current = xs }) lines
    ≡ judged closed (line_faults plan n lines) (n + length lines) (onto xs (lists_of (filter_map data_line_of lines)))
answered plan n closed xs [] = let e : n + 0 ≡ n = omega arith in rw e (at_end n closed xs)
answered plan n closed xs (line ∷ lines) =
    let e : (n + 1) + length lines ≡ n + suc (length lines) = omega arith in
    step plan n closed xs lines (λ closed xs. answered plan (n + 1) closed xs lines ∙ ap (λ m. judged closed (line_faults plan (n + 1) lines) m (onto xs (lists_of (filter_map data_line_of lines)))) e) (data_line_of line)

-- AND FROM THE START
pub read_is : (plan : List PlanLine) (n : ℕ) (lines : List (List ℕ)) → read_from plan n no_epochs lines ≡ answer (batches_of lines) (data_fault plan n lines)
read_is plan n lines =
    answered plan n [] [] lines ∙ ap (judged [] (line_faults plan n lines) (n + length lines)) (onto-nil (filter_map data_line_of lines))

-- in the words of a call's result
module _ {V : Type 0} (items : V → List (List Entry)) (plan : List PlanLine) (n : ℕ) (lines : List (List ℕ)) where
  pub batches_are : (r : Result V Fault) → IfOk r (λ b. read_from plan n no_epochs lines ≡ Ok (items b)) → IfOk r (λ b. items b ≡ batches_of lines)
  batches_are (Ok b) h = by (data_fault plan n lines) (sym (read_is plan n lines) ∙ h)
    where
      by : (o : Option Fault) → answer (batches_of lines) o ≡ Ok (items b) → items b ≡ batches_of lines
      by None e = cc
      by (Some f) e = cc
  batches_are (Err f) h = tt

  pub faultless : (r : Result V Fault) → IfOk r (λ b. read_from plan n no_epochs lines ≡ Ok (items b)) → IfOk r (λ b. data_fault plan n lines ≡ None)
  faultless (Ok b) h = by (data_fault plan n lines) (sym (read_is plan n lines) ∙ h)
    where
      by : (o : Option Fault) → answer (batches_of lines) o ≡ Ok (items b) → o ≡ None
      by None e = refl
      by (Some f) e = cc
  faultless (Err f) h = tt

  pub fault_is : (r : Result V Fault) → IfErr r (λ f. (f ≡ Memory) ⊎ (read_from plan n no_epochs lines ≡ Err f)) → IfErr r (λ f. (f ≡ Memory) ⊎ (data_fault plan n lines ≡ Some f))
  fault_is (Ok b) h = tt
  fault_is (Err f) (inl e) = inl e
  fault_is (Err f) (inr e) = inr (by (data_fault plan n lines) (sym (read_is plan n lines) ∙ e))
    where
      by : (o : Option Fault) → answer (batches_of lines) o ≡ Err f → o ≡ Some f
      by None e = cc
      by (Some g) e = cc
