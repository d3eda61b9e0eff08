-- Proofs: numbers in order stand for members in order. They stand here and not in proofs/ since the impls of traits take
-- from specs/ alone.
use Rattle.std.specs.Prelude.{◌≡◌, ℕ, ℤ, ◌+◌, ◌*◌, ◌/◌, ◌%◌, ◌^◌, ◌<◌, ◌≤◌, ◌<ℤ◌, ◌≤ℤ◌, ◌⊎◌, false}
use Rattle.std.proofs.Common.{refl, inl, inr, ap, arith}
use Rattle.std.specs.declared.cmp.Ordering.{Ordering}
use Rattle.std.specs.declared.cmp.Ordering.TheVariants.{Less, Equal, Greater}
use Rattle.std.specs.Ordering.{ordering_then, is_gt, nat_cmp, int_cmp, MatchOrdering}
use Rattle.std.specs.Cmp.{ranks, int_ranks}
use Rattle.std.proofs.Math.Nat.{div-mul-le_self}
use Rattle.std.proofs.lemmas.Bool.{cases_lt}
use Rattle.std.proofs.lemmas.Cmp.{tied_itself}
use Rattle.std.proofs.lemmas.Int.{ints}
use Rattle.std.proofs.lemmas.Nat.{le-div, div-add-mod'}
use Rattle.td_stamp.specs.declared.values.Item.{Item}
use Rattle.td_stamp.specs.declared.values.Entry.{Entry}
use Rattle.td_stamp.specs.declared.values.Output.{Output}
use Rattle.td_stamp.specs.Orders.{rec_cmp, item_cmp, arrival_cmp, entry_cmp, output_cmp}
use Rattle.td_stamp.specs.ProvedOrders.{item_total}
use Rattle.td_stamp.specs.Numbers.{val_of, rec_of_number, arrival_of_number, vertex_of_number, placed_rec_of_number, entry_of_number, output_of_number}

-- an order by a number first: it comes before, or it ties and the rest is not after
first_decides : (a b : ℕ) (rest : Ordering) → (a < b) ⊎ ((a ≡ b) × (is_gt rest ≡ false)) → is_gt (ordering_then (nat_cmp a b) rest) ≡ false
first_decides a b rest h = by (nat_cmp a b) (ranks a b) h
  where
    by : (r : Ordering) → MatchOrdering r (a < b) (a ≡ b) (b < a) → (a < b) ⊎ ((a ≡ b) × (is_gt rest ≡ false)) → is_gt (ordering_then r rest) ≡ false
    by Less m h = refl
    by Equal m (inl lt) = absurd (omega arith)
    by Equal m (inr k) = k.1
    by Greater m (inl lt) = absurd (omega arith)
    by Greater m (inr k) = absurd (omega (arith, k.0))

not_after : (x y : ℤ) → x ≤ℤ y → is_gt (int_cmp x y) ≡ false
not_after x y le = by (int_cmp x y) (int_ranks x y)
  where
    by : (r : Ordering) → MatchOrdering r (x <ℤ y) (x ≡ y) (y <ℤ x) → is_gt r ≡ false
    by Less m = refl
    by Equal m = refl
    by Greater m = absurd (omega (arith, ints))

-- of two numbers in order the high parts are in order, and where those tie the low parts
parts : (k : ℕ) → 0 < k → (m n : ℕ) → m ≤ n → (m / k < n / k) ⊎ ((m / k ≡ n / k) × (m % k ≤ n % k))
parts k positive m n le = elim (cases_lt (m / k) (n / k)) [
  | inl lt ↦ inl lt
  | inr ge ↦
      let up : m / k ≤ n / k = le-div (m / k) n k positive (omega (arith, div-mul-le_self m k)) in
      let tie : m / k ≡ n / k = omega arith in
      inr (tie, omega (arith, div-add-mod' m k, div-add-mod' n k, ap (λ (q : ℕ). q * k) tie))
]

vals_rise : (m n : ℕ) → m % 2 ^ 32 ≤ n % 2 ^ 32 → is_gt (int_cmp (val_of m) (val_of n)) ≡ false
vals_rise m n le = not_after (val_of m) (val_of n) (omega (arith, ints))

pub recs_rise : (m n : ℕ) → m ≤ n → is_gt (rec_cmp (rec_of_number m) (rec_of_number n)) ≡ false
recs_rise m n le = first_decides (m / 2 ^ 32) (n / 2 ^ 32) (int_cmp (val_of m) (val_of n)) (elim (parts (2 ^ 32) (omega arith) m n le) [
  | inl lt ↦ inl lt
  | inr k ↦ inr (k.0, vals_rise m n k.1)
])

-- the same where the number above the value has two parts, at k
above_rise : (k : ℕ) → 0 < k → (m n : ℕ) → m ≤ n
    → (m / 2 ^ 32 / k < n / 2 ^ 32 / k) ⊎ ((m / 2 ^ 32 / k ≡ n / 2 ^ 32 / k) × (is_gt (ordering_then (nat_cmp (m / 2 ^ 32 % k) (n / 2 ^ 32 % k)) (int_cmp (val_of m) (val_of n))) ≡ false))
above_rise k positive m n le = elim (parts (2 ^ 32) (omega arith) m n le) [
  | inl lt ↦ elim (parts k positive (m / 2 ^ 32) (n / 2 ^ 32) (omega arith)) [
    | inl high ↦ inl high
    | inr same ↦ inr (
      same.0,
      first_decides (m / 2 ^ 32 % k) (n / 2 ^ 32 % k) (int_cmp (val_of m) (val_of n))
          (inl (omega (arith, lt, same.1, div-add-mod' (m / 2 ^ 32) k, div-add-mod' (n / 2 ^ 32) k, ap (λ (q : ℕ). q * k) same.0))),
    )
  ]
  | inr tie ↦ inr (
    ap (λ (q : ℕ). q / k) tie.0,
    first_decides (m / 2 ^ 32 % k) (n / 2 ^ 32 % k) (int_cmp (val_of m) (val_of n)) (inr (ap (λ (q : ℕ). q % k) tie.0, vals_rise m n tie.1)),
  )
]

pub arrivals_rise : (m n : ℕ) → m ≤ n → is_gt (arrival_cmp (arrival_of_number m) (arrival_of_number n)) ≡ false
arrivals_rise m n le =
    first_decides (m / 2 ^ 32 / 16) (n / 2 ^ 32 / 16) (item_cmp (arrival_of_number m).item (arrival_of_number n).item) (above_rise 16 (omega arith) m n le)

placed_rise : (first m n : ℕ) → m ≤ n
    → is_gt (ordering_then (nat_cmp (vertex_of_number first m) (vertex_of_number first n)) (rec_cmp (placed_rec_of_number m) (placed_rec_of_number n))) ≡ false
placed_rise first m n le =
    first_decides (vertex_of_number first m) (vertex_of_number first n) (rec_cmp (placed_rec_of_number m) (placed_rec_of_number n)) (elim (above_rise (2 ^ 28) (omega arith) m n le) [
      | inl lt ↦ inl (omega arith)
      | inr k ↦ inr (ap (λ (q : ℕ). first / 16 * 16 + q) k.0, k.1)
    ])

pub entries_rise : (first : Entry) (m n : ℕ) → m ≤ n → is_gt (entry_cmp (entry_of_number first m) (entry_of_number first n)) ≡ false
entries_rise first m n le = placed_rise first.input m n le

pub outputs_rise : (first : Output) (m n : ℕ) → m ≤ n → is_gt (output_cmp (output_of_number first m) (output_of_number first n)) ≡ false
outputs_rise first m n le = placed_rise first.vertex m n le

pub items_rise : (first : Item) (m n : ℕ) → m ≤ n → is_gt (item_cmp first first) ≡ false
items_rise first m n le = ap is_gt (tied_itself item_total first)
