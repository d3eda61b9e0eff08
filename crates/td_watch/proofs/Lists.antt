-- Facts about lists of three words in which one was changed.
use Rattle.std.proofs.Common.{◌≡◌, ◌≢◌, ℕ, zero, suc, ◌<◌, ◌≤◌, List, [], ◌∷◌, length, refl, ap, ◌∙◌, subst, arith, le_refl, le_trans, zero-le}
use Rattle.std.proofs.lemmas.List.{get_or-set_same}
use Rattle.std.specs.Prelude.{slice_index, slice_set}
use Rattle.td_watch.specs.Words.{KeepsOrder}
use Rattle.td_watch.specs.Rule.{EachAtMost, zeros}

-- a list in which one word was changed is at most a bound
pub set_at_most : (xs : List ℕ) (i j n m : ℕ) → (j ≡ i → n ≤ m) → (j ≢ i → slice_index xs j ≤ m) → slice_index (slice_set xs i n) j ≤ m
set_at_most [] i j n m here else = zero-le
set_at_most (x ∷ xs) zero zero n m here else = here refl
set_at_most (x ∷ xs) zero (suc j) n m here else = else (λ e. omega arith)
set_at_most (x ∷ xs) (suc i) zero n m here else = else (λ e. omega arith)
set_at_most (x ∷ xs) (suc i) (suc j) n m here else = set_at_most xs i j n m (λ e. here (ap suc e)) (λ ne. else (λ e. ne (omega arith)))

-- a bound is at most a list in which one word was changed
pub at_most_set : (xs : List ℕ) (i j n m : ℕ) → m ≤ slice_index xs j → (j ≡ i → m ≤ n) → m ≤ slice_index (slice_set xs i n) j
at_most_set [] i j n m old here = old
at_most_set (x ∷ xs) zero zero n m old here = here refl
at_most_set (x ∷ xs) zero (suc j) n m old here = old
at_most_set (x ∷ xs) (suc i) zero n m old here = old
at_most_set (x ∷ xs) (suc i) (suc j) n m old here = at_most_set xs i j n m old (λ e. here (ap suc e))

pub zeros_at_most : (xs : List ℕ) → EachAtMost zeros xs
zeros_at_most xs zero = zero-le
zeros_at_most xs (suc zero) = zero-le
zeros_at_most xs (suc (suc zero)) = zero-le
zeros_at_most xs (suc (suc (suc j))) = zero-le

-- a later word is at most an earlier one
pub later_at_most : (xs : List ℕ) → length xs ≡ 3 → KeepsOrder xs → (i j : ℕ) → i ≤ j → slice_index xs j ≤ slice_index xs i
later_at_most [] len o i j le = absurd (omega arith)
later_at_most (a ∷ []) len o i j le = absurd (omega arith)
later_at_most (a ∷ b ∷ []) len o i j le = absurd (omega arith)
later_at_most (a ∷ b ∷ c ∷ d ∷ ds) len o i j le = absurd (omega arith)
later_at_most (a ∷ b ∷ c ∷ []) len o zero zero le = le_refl a
later_at_most (a ∷ b ∷ c ∷ []) len o zero (suc zero) le = o.1
later_at_most (a ∷ b ∷ c ∷ []) len o zero (suc (suc zero)) le = le_trans o.0 o.1
later_at_most (a ∷ b ∷ c ∷ []) len o (suc i) zero le = absurd (omega arith)
later_at_most (a ∷ b ∷ c ∷ []) len o (suc zero) (suc zero) le = le_refl b
later_at_most (a ∷ b ∷ c ∷ []) len o (suc zero) (suc (suc zero)) le = o.0
later_at_most (a ∷ b ∷ c ∷ []) len o (suc (suc i)) (suc zero) le = absurd (omega arith)
later_at_most (a ∷ b ∷ c ∷ []) len o (suc (suc zero)) (suc (suc zero)) le = le_refl c
later_at_most (a ∷ b ∷ c ∷ []) len o (suc (suc (suc i))) (suc (suc zero)) le = absurd (omega arith)
later_at_most (a ∷ b ∷ c ∷ []) len o i (suc (suc (suc j))) le = zero-le

-- the order stays where a word rises to at most the words before it
pub order_set : (xs : List ℕ) (i n : ℕ) → length xs ≡ 3 → KeepsOrder xs → slice_index xs i ≤ n → ((k : ℕ) → k < i → n ≤ slice_index xs k) → KeepsOrder (slice_set xs i n)
order_set [] i n len o up down = absurd (omega arith)
order_set (a ∷ []) i n len o up down = absurd (omega arith)
order_set (a ∷ b ∷ []) i n len o up down = absurd (omega arith)
order_set (a ∷ b ∷ c ∷ d ∷ ds) i n len o up down = absurd (omega arith)
order_set (a ∷ b ∷ c ∷ []) zero n len o up down = (o.0, le_trans o.1 up)
order_set (a ∷ b ∷ c ∷ []) (suc zero) n len o up down = (le_trans o.0 up, down 0 (omega arith))
order_set (a ∷ b ∷ c ∷ []) (suc (suc zero)) n len o up down = (down 1 (omega arith), o.1)
order_set (a ∷ b ∷ c ∷ []) (suc (suc (suc i))) n len o up down = o

-- what a load put into the view is at most what bounds that word of the view
pub loaded_at_most : (xs ys : List ℕ) (i n m : ℕ) → ys ≡ slice_set xs i n → i < length xs → slice_index ys i ≤ m → n ≤ m
loaded_at_most xs ys i n m e lt h = subst (λ (k : ℕ). k ≤ m) (ap (λ (l : List ℕ). slice_index l i) e ∙ get_or-set_same xs i n 0 lt) h

-- the second_store store of a publication, and the third_store
pub second_store : (v : List ℕ) (x y : ℕ) → length v ≡ 3 → slice_index v 1 ≤ y → y ≤ x → (slice_index (slice_set v 0 x) 1 ≤ y) × ((k : ℕ) → k < 1 → y ≤ slice_index (slice_set v 0 x) k)
second_store [] x y len up le = absurd (omega arith)
second_store (a ∷ rest) x y len up le = (up, down)
  where
    down : (k : ℕ) → k < 1 → y ≤ slice_index (x ∷ rest) k
    down zero lt = le
    down (suc k) lt = absurd (omega arith)

pub third_store : (v : List ℕ) (x y z : ℕ) → length v ≡ 3 → slice_index v 2 ≤ z → z ≤ y → y ≤ x → (slice_index (slice_set (slice_set v 0 x) 1 y) 2 ≤ z) × ((k : ℕ) → k < 2 → z ≤ slice_index (slice_set (slice_set v 0 x) 1 y) k)
third_store [] x y z len up le le' = absurd (omega arith)
third_store (a ∷ []) x y z len up le le' = absurd (omega arith)
third_store (a ∷ b ∷ rest) x y z len up le le' = (up, down)
  where
    down : (k : ℕ) → k < 2 → z ≤ slice_index (x ∷ y ∷ rest) k
    down zero lt = le_trans le le'
    down (suc zero) lt = le
    down (suc (suc k)) lt = absurd (omega arith)

pub three_stores : (v ns : List ℕ) → length v ≡ 3 → length ns ≡ 3 → slice_set (slice_set (slice_set v 0 (slice_index ns 0)) 1 (slice_index ns 1)) 2 (slice_index ns 2) ≡ ns
three_stores (a ∷ b ∷ c ∷ []) (x ∷ y ∷ z ∷ []) l m = refl
three_stores [] ns l m = absurd (omega arith)
three_stores (a ∷ []) ns l m = absurd (omega arith)
three_stores (a ∷ b ∷ []) ns l m = absurd (omega arith)
three_stores (a ∷ b ∷ c ∷ d ∷ ds) ns l m = absurd (omega arith)
three_stores (a ∷ b ∷ c ∷ []) [] l m = absurd (omega arith)
three_stores (a ∷ b ∷ c ∷ []) (x ∷ []) l m = absurd (omega arith)
three_stores (a ∷ b ∷ c ∷ []) (x ∷ y ∷ []) l m = absurd (omega arith)
three_stores (a ∷ b ∷ c ∷ []) (x ∷ y ∷ z ∷ w ∷ ws) l m = absurd (omega arith)
