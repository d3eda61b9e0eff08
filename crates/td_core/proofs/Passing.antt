-- Passed epochs stand before those that have not passed.
use Rattle.std.proofs.Common.{◌≡◌, ℕ, zero, suc, ◌+◌, ◌-◌, ◌≤◌, ◌<◌, nat_lt, Bool, true, false, cond, List, [], ◌∷◌, filter, not, find, Option, Some, None, refl, sym, ap, ◌∙◌, true≢false, arith, ◌&&◌}
use Rattle.td_batch.specs.Flow.{numbers_from}
use Rattle.td_reach.specs.declared.stamp.Stamp.{Stamp}
use Rattle.td_reach.specs.Frontier.{has_passed}
use Rattle.td_core.specs.Came.{next_below}

lt-of : (a b : ℕ) → a < b → nat_lt a b ≡ true
lt-of a b h = grind (arith)

of-lt : (a b : ℕ) → nat_lt a b ≡ true → a < b
of-lt a b h = grind (arith)

both : (a b : Bool) → (a && b) ≡ true → (a ≡ true) × (b ≡ true)
both true b e = (refl, e)
both false b e = absurd (true≢false (sym e))

and-of : (a b : Bool) → a ≡ true → b ≡ true → (a && b) ≡ true
and-of a b e f = ap (λ x. x && b) e ∙ f

not_true : (b : Bool) → (b ≡ true → ⊥) → b ≡ false
not_true true h = absurd (h refl)
not_true false h = refl

-- an epoch before one that has passed has passed
pub earlier : (active : List Stamp) (d e : ℕ) → d ≤ e → has_passed active e ≡ true → has_passed active d ≡ true
earlier [] d e l h = refl
earlier (p ∷ active) d e l h =
    let two = both (nat_lt e p.time.epoch) (has_passed active e) h in
    let later = of-lt e p.time.epoch two.0 in
    and-of (nat_lt d p.time.epoch) (has_passed active d) (lt-of d p.time.epoch (omega (arith, l, later))) (earlier active d e l two.1)

-- none passes after one that has not
none_after : (active : List Stamp) (k n e : ℕ) → e ≤ k → has_passed active e ≡ false → filter (has_passed active) (numbers_from k n) ≡ []
none_after active k zero e l h = refl
none_after active k (suc n) e l h =
    ap (λ b. cond b (k ∷ filter (has_passed active) (numbers_from (suc k) n)) (filter (has_passed active) (numbers_from (suc k) n)))
    (not_true (has_passed active k) (λ t. true≢false (sym (earlier active e k l t) ∙ h)))
    ∙ none_after active (suc k) n e (omega (arith, l)) h

-- those that have passed are the numbers up to the last of them
pub up_to : (active : List Stamp) (k n m : ℕ) → k ≤ m + 1 → m < k + n → (k ≤ m → has_passed active m ≡ true) → (m + 1 < k + n → has_passed active (m + 1) ≡ false)
    → filter (has_passed active) (numbers_from k n) ≡ numbers_from k (m + 1 - k)
up_to active k zero m from before passed stops = let none : m + 1 - k ≡ 0 = omega (arith, from, before) in sym (ap (numbers_from k) none)
up_to active k (suc n) m from before passed stops = by (nat_lt m k) refl (up_to active (suc k) n m)
  where
    by : (b : Bool) → nat_lt m k ≡ b
        → (suc k ≤ m + 1 → m < suc k + n → (suc k ≤ m → has_passed active m ≡ true) → (m + 1 < suc k + n → has_passed active (m + 1) ≡ false) → filter (has_passed active) (numbers_from (suc k) n) ≡ numbers_from (suc k) (m + 1 - suc k))
        → filter (has_passed active) (numbers_from k (suc n)) ≡ numbers_from k (m + 1 - k)
    by true less later =
        let l = of-lt m k less in
        let here : m + 1 ≡ k = omega (arith, l, from) in
        let none : m + 1 - k ≡ 0 = omega (arith, here) in
        none_after active k (suc n) (m + 1) (omega (arith, here)) (stops (omega (arith, here))) ∙ sym (ap (numbers_from k) none)
    by false more later =
        let m_is : k ≤ m = grind (arith, more) in
        let one : m + 1 - k ≡ suc (m + 1 - suc k) = omega (arith, m_is) in
        ap (λ b. cond b (k ∷ filter (has_passed active) (numbers_from (suc k) n)) (filter (has_passed active) (numbers_from (suc k) n))) (earlier active k m m_is (passed m_is))
        ∙ (ap (λ l. k ∷ l) (later (omega (arith, m_is)) (omega (arith, before)) (λ l. passed m_is) (λ l. stops (omega (arith, l)))) ∙ sym (ap (numbers_from k) one))

-- the first that has not passed comes after them
pub first_after : (active : List Stamp) (k n m : ℕ) → k ≤ m + 1 → m < k + n → (k ≤ m → has_passed active m ≡ true) → (m + 1 < k + n → has_passed active (m + 1) ≡ false)
    → find (λ e. not (has_passed active e)) (numbers_from k n) ≡ next_below (m + 1) (k + n)
first_after active k zero m from before passed stops =
    let end : nat_lt (m + 1) (k + 0) ≡ false = grind (arith, from, before) in
    sym (ap (λ b. cond b (Some (m + 1)) None) end)
first_after active k (suc n) m from before passed stops = by (nat_lt m k) refl (first_after active (suc k) n m)
  where
    rest : Option ℕ
    rest = find (λ e. not (has_passed active e)) (numbers_from (suc k) n)

    by : (b : Bool) → nat_lt m k ≡ b
        → (suc k ≤ m + 1 → m < suc k + n → (suc k ≤ m → has_passed active m ≡ true) → (m + 1 < suc k + n → has_passed active (m + 1) ≡ false) → rest ≡ next_below (m + 1) (suc k + n))
        → find (λ e. not (has_passed active e)) (numbers_from k (suc n)) ≡ next_below (m + 1) (k + suc n)
    by true less later =
        let l = of-lt m k less in
        let here : m + 1 ≡ k = omega (arith, l, from) in
        let in_it : m + 1 < k + suc n = omega (arith, here) in
        ap (λ b. cond (not b) (Some k) rest) (ap (has_passed active) (sym here) ∙ stops in_it) ∙ (ap Some (sym here) ∙ sym (ap (λ b. cond b (Some (m + 1)) None) (lt-of (m + 1) (k + suc n) in_it)))
    by false more later =
        let m_is : k ≤ m = grind (arith, more) in
        let end : suc k + n ≡ k + suc n = omega arith in
        ap (λ b. cond (not b) (Some k) rest) (earlier active k m m_is (passed m_is))
        ∙ (later (omega (arith, m_is)) (omega (arith, before)) (λ l. passed m_is) (λ l. stops (omega (arith, l))) ∙ ap (next_below (m + 1)) end)
