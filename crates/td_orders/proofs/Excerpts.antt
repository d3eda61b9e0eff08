-- How a line begins, and why it has no form.
use Rattle.std.proofs.Common.{◌≡◌, ◌≢◌, ℕ, zero, suc, ◌<◌, ◌^◌, ◌==◌, false, List, [], ◌∷◌, length, take, refl, ap, get_or, arith}
use Rattle.std.proofs.lemmas.Bool.{ne_eqb}
use Rattle.td_orders.specs.Noted.{is_too_large, is_too_large_value}

no_minus : (word : List ℕ) → ((rest : List ℕ) → word ≢ 45 ∷ rest) → (get_or word 0 0 == 45) ≡ false
no_minus [] h = refl
no_minus (b ∷ rest) h = ne_eqb b 45 (λ e. h rest (λ i. e i ∷ rest))

-- a value without a minus sign
pub without_minus : (word : List ℕ) → ((rest : List ℕ) → word ≢ 45 ∷ rest) → is_too_large_value word ≡ is_too_large (2 ^ 63) word
without_minus word h = rw (no_minus word h) refl

-- a list that is shorter than what is taken of it
pub take_short : (n : ℕ) (xs : List ℕ) → length xs < n → take n xs ≡ xs
take_short zero [] h = refl
take_short zero (x ∷ xs) h = absurd (omega (arith, h))
take_short (suc n) [] h = refl
take_short (suc n) (x ∷ xs) h = ap (λ rest. x ∷ rest) (take_short n xs (omega (arith, h)))
