-- Words with a minus sign before their digits, and without.
use Rattle.std.proofs.Common.{◌≡◌, ◌≢◌, ℕ, zero, suc, ◌<◌, ◌^◌, ◌==◌, Bool, true, false, cond, nat_lt, List, [], ◌∷◌, ℤ, pos, negsuc, Some, None, IfNone, FitsSigned, refl, sym, ap, ◌∙◌, get_or, drop, arith, ltb-false, ltb-true, ◌≤◌, ◌&&◌}
use Rattle.std.specs.Int.{w64}
use Rattle.std.specs.Fmt.{decimal, signed_decimal}
use Rattle.std.proofs.lemmas.Bool.{ne_eqb}
use Rattle.std.proofs.lemmas.Fmt.{decimal_injective, decimal_digit, first_decimal}
use Rattle.std.specs.Str.Parse.{digits_value}
use Rattle.td_plan.specs.Text.{natural_of, is_numeral}
use Rattle.td_console.specs.Number.{integer_of, positive, negative}

no_minus : (word : List ℕ) → ((rest : List ℕ) → word ≢ 45 ∷ rest) → (get_or word 0 0 == 45) ≡ false
no_minus [] h = refl
no_minus (b ∷ rest) h = ne_eqb b 45 (λ e. h rest (λ i. e i ∷ rest))

pub integer_plain : (word : List ℕ) → ((rest : List ℕ) → word ≢ 45 ∷ rest) → integer_of word ≡ positive (natural_of word)
integer_plain word h = rw (no_minus word h) refl

-- a number with no sign begins with no minus sign
decimal-ne_minus : (n : ℕ) (rest : List ℕ) → n < 2 ^ 64 → decimal n ≢ 45 ∷ rest
decimal-ne_minus zero rest h e = let digit : 48 ≡ 45 = ap (λ w. get_or w 0 0) (sym (decimal_digit 0 (omega arith)) ∙ e) in absurd (omega (arith, digit))
decimal-ne_minus (suc n) rest h e = let digit : get_or (decimal (suc n)) 0 0 ≡ 45 = ap (λ w. get_or w 0 0) e in absurd (omega (arith, first_decimal (suc n) (omega arith) h, digit))

-- no i64 prints this word
abbrev pub IsNoInteger : List ℕ → Type 0
IsNoInteger word = (z : ℤ) → FitsSigned w64 z → word ≡ signed_decimal z → ⊥

-- a word without a minus sign that no u64 prints
pub none_plain : (word : List ℕ) → ((rest : List ℕ) → word ≢ 45 ∷ rest) → ((n : ℕ) → n < 2 ^ 64 → word ≡ decimal n → ⊥) → IsNoInteger word
none_plain word plain none (pos n) fits e = none n (omega (arith, fits)) e
none_plain word plain none (negsuc n) fits e = plain (decimal (suc n)) e

-- or that prints a number too great
too_great_plain : (word : List ℕ) → ((rest : List ℕ) → word ≢ 45 ∷ rest) → (n : ℕ) → n < 2 ^ 64 → 2 ^ 63 ≤ n → word ≡ decimal n → IsNoInteger word
too_great_plain word plain n h great w (pos m) fits e = absurd (omega (arith, fits, great, decimal_injective m n (omega (arith, fits)) h (sym e ∙ w)))
too_great_plain word plain n h great w (negsuc m) fits e = plain (decimal (suc m)) e

pub great_plain : (word : List ℕ) → ((rest : List ℕ) → word ≢ 45 ∷ rest) → (n : ℕ) → n < 2 ^ 64 → word ≡ decimal n → IfNone (positive (Some n)) (IsNoInteger word)
great_plain word plain n h w = by (nat_lt n (2 ^ 63)) refl
  where
    by : (b : Bool) → nat_lt n (2 ^ 63) ≡ b → IfNone (cond b (Some (pos n)) None) (IsNoInteger word)
    by true is = tt
    by false is = too_great_plain word plain n h (ltb-false n (2 ^ 63) is) w

-- a word with a minus sign, and digits that no u64 prints
pub none_minus : (word digits : List ℕ) → word ≡ 45 ∷ digits → ((n : ℕ) → n < 2 ^ 64 → digits ≡ decimal n → ⊥) → IsNoInteger word
none_minus word digits w none (pos n) fits e = decimal-ne_minus n digits (omega (arith, fits)) (sym e ∙ w)
none_minus word digits w none (negsuc n) fits e = none (suc n) (omega (arith, fits)) (ap (drop 1) (sym w ∙ e))

-- or that print a number too great, or 0
too_great_minus : (word digits : List ℕ) → word ≡ 45 ∷ digits → (n : ℕ) → n < 2 ^ 64 → 2 ^ 63 < n → digits ≡ decimal n → IsNoInteger word
too_great_minus word digits w n h great d (pos m) fits e = decimal-ne_minus m digits (omega (arith, fits)) (sym e ∙ w)
too_great_minus word digits w n h great d (negsuc m) fits e =
    absurd (omega (arith, fits, great, decimal_injective (suc m) n (omega (arith, fits)) h (ap (drop 1) (sym e ∙ w) ∙ d)))

zero_minus : (word digits : List ℕ) → word ≡ 45 ∷ digits → digits ≡ decimal 0 → IsNoInteger word
zero_minus word digits w d (pos m) fits e = decimal-ne_minus m digits (omega (arith, fits)) (sym e ∙ w)
zero_minus word digits w d (negsuc m) fits e = absurd (omega (arith, decimal_injective (suc m) 0 (omega (arith, fits)) (omega arith) (ap (drop 1) (sym e ∙ w) ∙ d)))

pub great_minus : (word digits : List ℕ) → word ≡ 45 ∷ digits → (n : ℕ) → n < 2 ^ 64 → digits ≡ decimal n → IfNone (negative (Some n)) (IsNoInteger word)
great_minus word digits w zero h d = zero_minus word digits w d
great_minus word digits w (suc n) h d = by (nat_lt n (2 ^ 63)) refl
  where
    by : (b : Bool) → nat_lt n (2 ^ 63) ≡ b → IfNone (cond b (Some (negsuc n)) None) (IsNoInteger word)
    by true is = tt
    by false is = let least = ltb-false n (2 ^ 63) is in too_great_minus word digits w (suc n) h (omega (arith, least)) d

-- what is read is a u64
pub natural_fits : (word : List ℕ) (n : ℕ) → Some n ≡ natural_of word → n < 2 ^ 64
unfolding natural_of
natural_fits word n e = by (is_numeral word) (nat_lt (digits_value 10 word) (2 ^ 64)) refl e
  where
    by : (a b : Bool) → nat_lt (digits_value 10 word) (2 ^ 64) ≡ b → Some n ≡ cond (a && b) (Some (digits_value 10 word)) None → n < 2 ^ 64
    by true true is e = let same : n ≡ digits_value 10 word = cc in omega (arith, same, ltb-true (digits_value 10 word) (2 ^ 64) is)
    by true false is e = cc
    by false b is e = cc
