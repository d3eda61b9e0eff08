-- Outputs that are taken epoch by epoch.
use Rattle.std.proofs.Common.{◌≡◌, ℕ, zero, suc, ◌+◌, ◌-◌, ◌≤◌, ◌<◌, ◌==◌, nat_lt, nat_le, Bool, true, false, not, ◌&&◌, ◌||◌, cond, List, [], ◌∷◌, ◌++◌, map, filter, length, refl, sym, ap, ◌∙◌, arith}
use Rattle.std.proofs.lemmas.Bool.Decides.{nat_tests}
use Rattle.td_batch.specs.Flow.{numbers_from}
use Rattle.td_machine.specs.declared.records.OutputAt.{OutputAt}
use Rattle.td_core.specs.Came.{came_at, out_of, later_than}

-- two tests after one another
twice : {X : Type 0} (p q r : X → Bool) → ((x : X) → (q x && p x) ≡ r x) → (xs : List X) → filter p (filter q xs) ≡ filter r xs
twice p q r same [] = refl
twice p q r same (x ∷ xs) = by (q x) (p x) (r x) (same x) refl (twice p q r same xs)
  where
    by : (a b c : Bool) → (a && b) ≡ c → p x ≡ b → filter p (filter q xs) ≡ filter r xs → filter p (cond a (x ∷ filter q xs) (filter q xs)) ≡ cond c (x ∷ filter r xs) (filter r xs)
    by true b c e h later =
        ap (λ d. cond d (x ∷ filter p (filter q xs)) (filter p (filter q xs))) h ∙ (ap (λ d. cond d (x ∷ filter p (filter q xs)) (filter p (filter q xs))) e ∙ ap (λ l. cond c (x ∷ l) l) later)
    by false b c e h later = later ∙ ap (λ d. cond d (x ∷ filter r xs) (filter r xs)) e

-- the outputs that are left when those of epochs after one, and before another, are taken
abbrev pub stays : ℕ → ℕ → OutputAt → Bool
stays after epoch o = nat_le o.epoch after || nat_le epoch o.epoch

all_stay : (after : ℕ) (xs : List OutputAt) → filter (stays after (after + 1)) xs ≡ xs
all_stay after [] = refl
all_stay after (o ∷ xs) =
    let here : stays after (after + 1) o ≡ true = grind (arith, nat_tests) in
    ap (λ b. cond b (o ∷ filter (stays after (after + 1)) xs) (filter (stays after (after + 1)) xs)) here ∙ ap (λ l. o ∷ l) (all_stay after xs)

pub none_taken : (after : ℕ) (xs : List OutputAt) → xs ≡ filter (stays after (after + 1)) xs
none_taken after xs = sym (all_stay after xs)

-- one more epoch is taken
of_it : (after e n : ℕ) → after < e → ((nat_le n after || nat_le e n) && (n == e)) ≡ (n == e)
of_it after e n l = grind (arith, nat_tests)

without_it : (after e n : ℕ) → after < e → ((nat_le n after || nat_le e n) && not (n == e)) ≡ (nat_le n after || nat_le (e + 1) n)
without_it after e n l = grind (arith, nat_tests)

later_ones : (after e last n : ℕ) → e ≤ last + 1 → ((nat_le n after || nat_le e n) && nat_lt last n) ≡ nat_lt last n
later_ones after e last n l = grind (arith, nat_tests)

pub taken_now : (after e : ℕ) → after < e → (xs : List OutputAt) → came_at e (filter (stays after e) xs) ≡ came_at e xs
taken_now after e l xs = ap (map (λ o. o.output)) (twice (λ o. o.epoch == e) (stays after e) (λ o. o.epoch == e) (λ o. of_it after e o.epoch l) xs)

pub left_now : (after e : ℕ) → after < e → (xs : List OutputAt) → filter (λ o. not (o.epoch == e)) (filter (stays after e) xs) ≡ filter (stays after (e + 1)) xs
left_now after e l xs = twice (λ o. not (o.epoch == e)) (stays after e) (stays after (e + 1)) (λ o. without_it after e o.epoch l) xs

pub left_then : (after e last : ℕ) → e ≤ last + 1 → (xs : List OutputAt) → later_than last (filter (stays after e) xs) ≡ later_than last xs
left_then after e last l xs = twice (λ o. nat_lt last o.epoch) (stays after e) (λ o. nat_lt last o.epoch) (λ o. later_ones after e last o.epoch l) xs

-- numbers, and one more
pub one_more : (k n : ℕ) → numbers_from k (suc n) ≡ numbers_from k n ++ (k + n) ∷ []
one_more k zero = let same : k + 0 ≡ k = omega arith in ap (λ m. m ∷ []) (sym same)
one_more k (suc n) = let same : suc k + n ≡ k + suc n = omega arith in ap (λ l. k ∷ l) (one_more (suc k) n ∙ ap (λ m. numbers_from (suc k) n ++ m ∷ []) same)

pub as_many : (k n : ℕ) → length (numbers_from k n) ≡ n
as_many k zero = refl
as_many k (suc n) = ap suc (as_many (suc k) n)

map-two : {X Y : Type 0} (f : X → Y) (xs ys : List X) → map f (xs ++ ys) ≡ map f xs ++ map f ys
map-two f [] ys = refl
map-two f (x ∷ xs) ys = ap (λ l. f x ∷ l) (map-two f xs ys)

-- one more epoch that is taken comes out after the others
pub out_next : (outputs : List OutputAt) (after e : ℕ) → after ≤ e
    → map (out_of outputs) (numbers_from (after + 1) (e + 1 - after)) ≡ map (out_of outputs) (numbers_from (after + 1) (e - after)) ++ out_of outputs (e + 1) ∷ []
out_next outputs after e l =
    let many : e + 1 - after ≡ suc (e - after) = omega (arith, l) in
    let last : after + 1 + (e - after) ≡ e + 1 = omega (arith, l) in
    ap (map (out_of outputs)) (ap (numbers_from (after + 1)) many ∙ (one_more (after + 1) (e - after) ∙ ap (λ m. numbers_from (after + 1) (e - after) ++ m ∷ []) last))
    ∙ map-two (out_of outputs) (numbers_from (after + 1) (e - after)) ((e + 1) ∷ [])
