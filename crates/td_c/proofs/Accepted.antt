-- The batch of records that all name inputs names inputs alone.
use Rattle.std.proofs.Common.{◌≡◌, Bool, true, false, ◌&&◌, List, [], ◌∷◌, map, refl, ap, ◌∙◌}
use Rattle.std.specs.declared.cmp.Ordering.{Ordering}
use Rattle.std.specs.declared.cmp.Ordering.TheVariants.{Less, Equal, Greater}
use Rattle.std.specs.List.{list_all}
use Rattle.td_stamp.specs.declared.values.Entry.{Entry}
use Rattle.td_stamp.specs.Orders.{entry_cmp}
use Rattle.td_stamp.specs.Bag.{bag_of, bag_insert}
use Rattle.td_plan.specs.Lines.{Line}
use Rattle.td_plan.specs.Inputs.{is_input_of}
use Rattle.td_c.specs.declared.values.TdRecord.{TdRecord}
use Rattle.td_c.specs.Rows.{entry_of, batch_of}

swapped : (a b c : Bool) → (a && (b && c)) ≡ (b && (a && c))
swapped true b c = refl
swapped false true c = refl
swapped false false c = refl

inserted : (test : Entry → Bool) (e : Entry) (xs : List Entry) → list_all test (bag_insert entry_cmp e xs) ≡ (test e && list_all test xs)
inserted test e [] = refl
inserted test e (x ∷ xs) = by (entry_cmp e x) (inserted test e xs)
  where
    by : (o : Ordering) → list_all test (bag_insert entry_cmp e xs) ≡ (test e && list_all test xs) → list_all test (elim o [ Greater ↦ x ∷ bag_insert entry_cmp e xs | _ ↦ e ∷ x ∷ xs ]) ≡ (test e && (test x && list_all test xs))
    by Less more = refl
    by Equal more = refl
    by Greater more = ap (λ b. test x && b) more ∙ swapped (test x) (test e) (list_all test xs)

bagged : (test : Entry → Bool) (xs : List Entry) → list_all test (bag_of entry_cmp xs) ≡ list_all test xs
bagged test [] = refl
bagged test (x ∷ xs) = inserted test x (bag_of entry_cmp xs) ∙ ap (λ b. test x && b) (bagged test xs)

mapped : (plan : List Line) (records : List TdRecord) → list_all (λ e. is_input_of plan e.input) (map entry_of records) ≡ list_all (λ r. is_input_of plan r.vertex) records
mapped plan [] = refl
mapped plan (r ∷ records) = ap (λ b. is_input_of plan r.vertex && b) (mapped plan records)

pub accepted : (plan : List Line) (records : List TdRecord) → list_all (λ e. is_input_of plan e.input) (batch_of records) ≡ list_all (λ r. is_input_of plan r.vertex) records
accepted plan records = bagged (λ e. is_input_of plan e.input) (map entry_of records) ∙ mapped plan records
