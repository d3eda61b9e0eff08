-- A batch is what it gives to each of the inputs of a plan, one after another: its entries stand in the order of their inputs.
use Rattle.std.proofs.Common.{◌≡◌, ℕ, zero, suc, ◌+◌, ◌<◌, ◌≤◌, ◌==◌, nat_lt, Bool, true, false, cond, inl, inr, List, [], ◌∷◌, ◌++◌, map, filter, flat_map, refl, ap, sym, ◌∙◌, subst, arith}
use Rattle.std.specs.Prelude.{◌⊎◌, ◌&&◌, Option, Some, None}
use Rattle.std.specs.List.{AllByRecursion, slice_get}
use Rattle.std.specs.declared.cmp.Ordering.{Ordering}
use Rattle.std.specs.declared.cmp.Ordering.TheVariants.{Less, Equal, Greater}
use Rattle.std.specs.Ordering.{nat_cmp, is_gt, ordering_then, MatchOrdering}
use Rattle.std.specs.Cmp.{ranks}
use Rattle.std.proofs.lemmas.Bool.Decides.{nat_tests}
use Rattle.td_stamp.specs.declared.values.Entry.{Entry}
use Rattle.td_stamp.specs.Orders.{rec_cmp, entry_cmp}
use Rattle.td_stamp.specs.Rises.{IsBelowAll, Rises}
use Rattle.td_plan.specs.declared.vertex.Kind.{Kind}
use Rattle.td_plan.specs.declared.vertex.Kind.TheVariants.{Input, Map, Distinct, Group, Fold, Enter, Feedback, Leave, Output}
use Rattle.td_plan.specs.Lines.{Line}
use Rattle.td_plan.specs.Blocks.{PlacedVertex, vertices}
use Rattle.td_plan.specs.Faults.{is_input}
use Rattle.td_plan.specs.Inputs.{is_input_of}
use Rattle.td_machine.specs.Active.{kind_of, kind_or, inputs_of}
use Rattle.td_machine.specs.Steps.{accepts}

-- ENTRIES IN THE ORDER of their inputs
abbrev InOrder : List Entry → Type 0
InOrder [] = Unit {0}
InOrder (x ∷ xs) = AllByRecursion (λ (y : Entry). x.input ≤ y.input) xs × InOrder xs

not_above : (x y : Entry) → is_gt (entry_cmp x y) ≡ false → x.input ≤ y.input
not_above x y e = by (nat_cmp x.input y.input) (ranks x.input y.input) e
  where
    by : (o : Ordering) → MatchOrdering o (x.input < y.input) (x.input ≡ y.input) (y.input < x.input) → is_gt (ordering_then o (rec_cmp x.rec y.rec)) ≡ false → x.input ≤ y.input
    by Less h f = omega (arith, h)
    by Equal h f = omega (arith, h)
    by Greater h f = absurd (cc)

none_above : (x : Entry) (xs : List Entry) → IsBelowAll entry_cmp x xs → AllByRecursion (λ (y : Entry). x.input ≤ y.input) xs
none_above x [] h = tt
none_above x (y ∷ xs) h = (not_above x y h.0, none_above x xs h.1)

pub in_order : (xs : List Entry) → Rises entry_cmp xs → InOrder xs
in_order [] h = tt
in_order (x ∷ xs) h = (none_above x xs h.0, in_order xs h.1)

-- those of an input, and those of later ones
abbrev pub of_input : ℕ → List Entry → List Entry
of_input i xs = filter (λ e. e.input == i) xs

abbrev later : ℕ → List Entry → List Entry
later i xs = filter (λ e. nat_lt i e.input) xs

none_here : (i : ℕ) (xs : List Entry) → AllByRecursion (λ (e : Entry). i < e.input) xs → of_input i xs ≡ []
none_here i [] h = refl
none_here i (x ∷ xs) h =
    let above = h.0 in
    let other : (x.input == i) ≡ false = grind (arith, nat_tests, above) in
    ap (λ b. cond b (x ∷ of_input i xs) (of_input i xs)) other ∙ none_here i xs h.1

all_later : (i : ℕ) (xs : List Entry) → AllByRecursion (λ (e : Entry). i < e.input) xs → later i xs ≡ xs
all_later i [] h = refl
all_later i (x ∷ xs) h =
    let above = h.0 in
    let yes : nat_lt i x.input ≡ true = grind (arith, nat_tests, above) in
    ap (λ b. cond b (x ∷ later i xs) (later i xs)) yes ∙ ap (λ l. x ∷ l) (all_later i xs h.1)

all_above : (i n : ℕ) (xs : List Entry) → i < n → AllByRecursion (λ (y : Entry). n ≤ y.input) xs → AllByRecursion (λ (e : Entry). i < e.input) xs
all_above i n [] l h = tt
all_above i n (x ∷ xs) l h = (let from = h.0 in omega (arith, l, from), all_above i n xs l h.1)

split : (i : ℕ) (xs : List Entry) → InOrder xs → AllByRecursion (λ (e : Entry). i ≤ e.input) xs → xs ≡ of_input i xs ++ later i xs
split i [] h from = refl
split i (x ∷ xs) h from = by (x.input == i) refl (split i xs h.1 from.1)
  where
    by : (b : Bool) → (x.input == i) ≡ b → xs ≡ of_input i xs ++ later i xs → x ∷ xs ≡ of_input i (x ∷ xs) ++ later i (x ∷ xs)
    by true e rest =
        let not_later : nat_lt i x.input ≡ false = grind (arith, nat_tests, e) in
        ap (λ l. x ∷ l) rest ∙ sym (λ j. cond (e j) (x ∷ of_input i xs) (of_input i xs) ++ cond (not_later j) (x ∷ later i xs) (later i xs))
    by false e rest =
        let start = from.0 in
        let above : i < x.input = grind (arith, nat_tests, e, start) in
        let all : AllByRecursion (λ (e : Entry). i < e.input) (x ∷ xs) = (above, all_above i x.input xs above h.0) in
        sym (λ j. none_here i (x ∷ xs) all j ++ all_later i (x ∷ xs) all j)

-- of a later input are those of the later ones
of_later : (i n : ℕ) → i < n → (xs : List Entry) → of_input n xs ≡ of_input n (later i xs)
of_later i n l [] = refl
of_later i n l (x ∷ xs) = by (nat_lt i x.input) refl (of_later i n l xs)
  where
    by : (b : Bool) → nat_lt i x.input ≡ b → of_input n xs ≡ of_input n (later i xs) → of_input n (x ∷ xs) ≡ of_input n (cond b (x ∷ later i xs) (later i xs))
    by true e rest = ap (λ l. cond (x.input == n) (x ∷ l) l) rest
    by false e rest =
        let other : (x.input == n) ≡ false = grind (arith, nat_tests, e, l) in
        ap (λ b. cond b (x ∷ of_input n xs) (of_input n xs)) other ∙ rest

later_in_order : (i : ℕ) (xs : List Entry) → InOrder xs → InOrder (later i xs)
later_in_order i [] h = tt
later_in_order i (x ∷ xs) h = by (nat_lt i x.input) (later_in_order i xs h.1)
  where
    still : (n : ℕ) (ys : List Entry) → AllByRecursion (λ (y : Entry). n ≤ y.input) ys → AllByRecursion (λ (y : Entry). n ≤ y.input) (later i ys)
    still n [] k = tt
    still n (y ∷ ys) k = pick (nat_lt i y.input) (still n ys k.1)
      where
        pick : (b : Bool) → AllByRecursion (λ (y : Entry). n ≤ y.input) (later i ys) → AllByRecursion (λ (y : Entry). n ≤ y.input) (cond b (y ∷ later i ys) (later i ys))
        pick true rest = (k.0, rest)
        pick false rest = rest

    by : (b : Bool) → InOrder (later i xs) → InOrder (cond b (x ∷ later i xs) (later i xs))
    by true rest = (still x.input xs h.0, rest)
    by false rest = rest

-- INPUTS that change
abbrev pub Among : ℕ → List ℕ → Type 0
Among n [] = ⊥
Among n (i ∷ is) = (n ≡ i) ⊎ Among n is

abbrev pub Ascends : List ℕ → Type 0
Ascends [] = Unit {0}
Ascends (i ∷ is) = AllByRecursion (λ j. i < j) is × Ascends is

among_above : (i n : ℕ) (is : List ℕ) → AllByRecursion (λ j. i < j) is → Among n is → i < n
among_above i n [] h a = absurd a
among_above i n (j ∷ is) h (inl e) = let above = h.0 in omega (arith, above, e)
among_above i n (j ∷ is) h (inr a) = among_above i n is h.1 a

from_first : (i : ℕ) (is : List ℕ) → AllByRecursion (λ j. i < j) is → (xs : List Entry) → AllByRecursion (λ (e : Entry). Among e.input (i ∷ is)) xs → AllByRecursion (λ (e : Entry). i ≤ e.input) xs
from_first i is h [] a = tt
from_first i is h (x ∷ xs) a = (by a.0, from_first i is h xs a.1)
  where
    by : Among x.input (i ∷ is) → i ≤ x.input
    by (inl e) = omega (arith, e)
    by (inr b) = let above = among_above i x.input is h b in omega (arith, above)

among_later : (i : ℕ) (is : List ℕ) (xs : List Entry) → AllByRecursion (λ (e : Entry). Among e.input (i ∷ is)) xs → AllByRecursion (λ (e : Entry). Among e.input is) (later i xs)
among_later i is [] a = tt
among_later i is (x ∷ xs) a = by (nat_lt i x.input) refl a.0 (among_later i is xs a.1)
  where
    by : (b : Bool) → nat_lt i x.input ≡ b → Among x.input (i ∷ is) → AllByRecursion (λ (e : Entry). Among e.input is) (later i xs)
        → AllByRecursion (λ (e : Entry). Among e.input is) (cond b (x ∷ later i xs) (later i xs))
    by true e (inl same) rest = absurd (let no : nat_lt i x.input ≡ false = grind (arith, nat_tests, same) in let f : true ≡ false = sym e ∙ no in cc)
    by true e (inr b) rest = (b, rest)
    by false e b rest = rest

same_later : (i : ℕ) (is : List ℕ) → AllByRecursion (λ j. i < j) is → (xs : List Entry) → flat_map (λ j. of_input j xs) is ≡ flat_map (λ j. of_input j (later i xs)) is
same_later i [] h xs = refl
same_later i (j ∷ is) h xs = λ k. of_later i j h.0 xs k ++ same_later i is h.1 xs k

-- A BATCH IN PARTS
pub in_parts : (is : List ℕ) → Ascends is → (xs : List Entry) → InOrder xs → AllByRecursion (λ (e : Entry). Among e.input is) xs → flat_map (λ i. of_input i xs) is ≡ xs
in_parts [] up [] h a = refl
in_parts [] up (x ∷ xs) h a = absurd a.0
in_parts (i ∷ is) up xs h a =
    ap (λ l. of_input i xs ++ l) (same_later i is up.0 xs ∙ in_parts is up.1 (later i xs) (later_in_order i xs h) (among_later i is xs a)) ∙ sym (split i xs h (from_first i is up.0 xs a))

-- THE INPUTS OF A PLAN change
abbrev numbers : List PlacedVertex → List ℕ
numbers vs = map (λ p. p.vertex.number) (filter (λ p. is_input p.vertex.kind) vs)

abbrev pub AreNumbered : ℕ → List PlacedVertex → Type 0
AreNumbered n vs = (k : ℕ) (p : PlacedVertex) → slice_get vs k ≡ Some p → p.vertex.number ≡ n + k

numbered_next : (n : ℕ) (v : PlacedVertex) (vs : List PlacedVertex) → AreNumbered n (v ∷ vs) → AreNumbered (n + 1) vs
numbered_next n v vs h k p at = let here = h (suc k) p at in omega (arith, here)

less_than : (n : ℕ) (is : List ℕ) → AllByRecursion (λ j. n + 1 ≤ j) is → AllByRecursion (λ j. n < j) is
less_than n [] k = tt
less_than n (i ∷ is) k = (let above = k.0 in omega (arith, above), less_than n is k.1)

at_most : (n : ℕ) (is : List ℕ) → AllByRecursion (λ j. n < j) is → AllByRecursion (λ j. n ≤ j) is
at_most n [] k = tt
at_most n (i ∷ is) k = (let above = k.0 in omega (arith, above), at_most n is k.1)

from_number : (n : ℕ) (vs : List PlacedVertex) → AreNumbered n vs → AllByRecursion (λ j. n ≤ j) (numbers vs)
from_number n [] h = tt
from_number n (v ∷ vs) h = by (is_input v.vertex.kind) (from_number (n + 1) vs (numbered_next n v vs h))
  where
    by : (b : Bool) → AllByRecursion (λ j. n + 1 ≤ j) (numbers vs)
        → AllByRecursion (λ j. n ≤ j) (map (λ (p : PlacedVertex). p.vertex.number) (cond b (v ∷ filter (λ (p : PlacedVertex). is_input p.vertex.kind) vs) (filter (λ (p : PlacedVertex). is_input p.vertex.kind) vs)))
    by true k = (let here = h 0 v refl in omega (arith, here), at_most n (numbers vs) (less_than n (numbers vs) k))
    by false k = at_most n (numbers vs) (less_than n (numbers vs) k)

ascending : (n : ℕ) (vs : List PlacedVertex) → AreNumbered n vs → Ascends (numbers vs)
ascending n [] h = tt
ascending n (v ∷ vs) h = by (is_input v.vertex.kind) (ascending (n + 1) vs (numbered_next n v vs h))
  where
    own : v.vertex.number ≡ n
    own = let here = h 0 v refl in omega (arith, here)

    by : (b : Bool) → Ascends (numbers vs)
        → Ascends (map (λ (p : PlacedVertex). p.vertex.number) (cond b (v ∷ filter (λ (p : PlacedVertex). is_input p.vertex.kind) vs) (filter (λ (p : PlacedVertex). is_input p.vertex.kind) vs)))
    by true rest = (subst (λ m. AllByRecursion (λ j. m < j) (numbers vs)) (sym own) (less_than n (numbers vs) (from_number (n + 1) vs (numbered_next n v vs h))), rest)
    by false rest = rest

one_among : (vs : List PlacedVertex) (k : ℕ) (p : PlacedVertex) → slice_get vs k ≡ Some p → is_input p.vertex.kind ≡ true → Among p.vertex.number (numbers vs)
one_among [] k p at e = absurd (cc)
one_among (v ∷ vs) zero p at e =
    let same : v ≡ p = cc in
    let yes : is_input v.vertex.kind ≡ true = ap (λ (q : PlacedVertex). is_input q.vertex.kind) same ∙ e in
    subst (λ b. Among p.vertex.number (map (λ (q : PlacedVertex). q.vertex.number) (cond b (v ∷ filter (λ (q : PlacedVertex). is_input q.vertex.kind) vs) (filter (λ (q : PlacedVertex). is_input q.vertex.kind) vs)))) (sym yes)
    (inl (ap (λ (q : PlacedVertex). q.vertex.number) (sym same)))
one_among (v ∷ vs) (suc k) p at e = by (is_input v.vertex.kind) (one_among vs k p at e)
  where
    by : (b : Bool) → Among p.vertex.number (numbers vs)
        → Among p.vertex.number (map (λ (q : PlacedVertex). q.vertex.number) (cond b (v ∷ filter (λ (q : PlacedVertex). is_input q.vertex.kind) vs) (filter (λ (q : PlacedVertex). is_input q.vertex.kind) vs)))
    by true rest = inr rest
    by false rest = rest

input_kind : (kind : Kind) → is_input kind ≡ true → kind ≡ Input
input_kind Input e = refl
input_kind (Map code) e = absurd (cc)
input_kind Distinct e = absurd (cc)
input_kind (Group code) e = absurd (cc)
input_kind (Fold code) e = absurd (cc)
input_kind Enter e = absurd (cc)
input_kind Feedback e = absurd (cc)
input_kind Leave e = absurd (cc)
input_kind Output e = absurd (cc)

both_true : (a b : Bool) → (a && b) ≡ true → (a ≡ true) × (b ≡ true)
both_true true b e = (refl, e)
both_true false b e = absurd (cc)

module _ (plan : List Line) (numbered : (v : ℕ) (p : PlacedVertex) → slice_get (vertices plan) v ≡ Some p → p.vertex.number ≡ v) where
  pub inputs_ascend : Ascends (inputs_of plan)
  inputs_ascend = ascending 0 (vertices plan) (λ k p at. let here = numbered k p at in omega (arith, here))

  input_among : (v : ℕ) → is_input_of plan v ≡ true → Among v (inputs_of plan)
  input_among v h = by (slice_get (vertices plan) v) refl
    where
      by : (o : Option PlacedVertex) → slice_get (vertices plan) v ≡ o → Among v (inputs_of plan)
      by None at = absurd (let no : false ≡ true = sym (ap (λ (x : Option PlacedVertex). elim x [ None ↦ false | Some q ↦ is_input q.vertex.kind ]) at) ∙ h in cc)
      by (Some p) at = subst (λ n. Among n (inputs_of plan)) (numbered v p at)
          (one_among (vertices plan) v p at (sym (ap (λ (x : Option PlacedVertex). elim x [ None ↦ false | Some q ↦ is_input q.vertex.kind ]) at) ∙ h))

  accepted_among : (batch : List Entry) → accepts plan batch ≡ true → AllByRecursion (λ (e : Entry). Among e.input (inputs_of plan)) batch
  accepted_among [] h = tt
  accepted_among (x ∷ batch) h = let both = both_true (is_input_of plan x.input) (accepts plan batch) h in (input_among x.input both.0, accepted_among batch both.1)

  -- an accepted batch, by its inputs
  pub batch_in_parts : (batch : List Entry) → Rises entry_cmp batch → accepts plan batch ≡ true → flat_map (λ i. of_input i batch) (inputs_of plan) ≡ batch
  batch_in_parts batch up h = in_parts (inputs_of plan) inputs_ascend batch (in_order batch up) (accepted_among batch h)

  -- they are inputs
  kinds_from : (vs : List PlacedVertex) (n : ℕ) → ((k : ℕ) (p : PlacedVertex) → slice_get vs k ≡ Some p → slice_get (vertices plan) (n + k) ≡ Some p) → AreNumbered n vs
      → AllByRecursion (λ i. kind_of plan i ≡ Input) (numbers vs)
  kinds_from [] n there h = tt
  kinds_from (v ∷ vs) n there h = by (is_input v.vertex.kind) refl
      (kinds_from vs (n + 1) (λ k p at. let same : n + 1 + k ≡ n + suc k = omega arith in ap (slice_get (vertices plan)) same ∙ there (suc k) p at) (numbered_next n v vs h))
    where
      at_number : slice_get (vertices plan) v.vertex.number ≡ Some v
      at_number = ap (slice_get (vertices plan)) (h 0 v refl) ∙ there 0 v refl

      by : (b : Bool) → is_input v.vertex.kind ≡ b → AllByRecursion (λ i. kind_of plan i ≡ Input) (numbers vs)
          → AllByRecursion (λ i. kind_of plan i ≡ Input) (map (λ (p : PlacedVertex). p.vertex.number) (cond b (v ∷ filter (λ (p : PlacedVertex). is_input p.vertex.kind) vs) (filter (λ (p : PlacedVertex). is_input p.vertex.kind) vs)))
      by true e rest = (ap (λ (o : Option PlacedVertex). kind_or (elim o [ None ↦ None | Some q ↦ Some q.vertex.kind ])) at_number ∙ input_kind v.vertex.kind e, rest)
      by false e rest = rest

  pub inputs_are : AllByRecursion (λ i. kind_of plan i ≡ Input) (inputs_of plan)
  inputs_are = kinds_from (vertices plan) 0 (λ k p at. let same : 0 + k ≡ k = omega arith in ap (slice_get (vertices plan)) same ∙ at) (λ k p at. let here = numbered k p at in omega (arith, here))
