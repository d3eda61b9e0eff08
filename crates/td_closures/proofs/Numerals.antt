-- A number as a word: its digits, what it is not, and that it is read again.
use Rattle.std.specs.Prelude.{◌≡◌, ◌≤◌, ◌<◌, ◌^◌, ℕ, ◌==◌, Bool, true, false, not, ◌&&◌, ◌||◌, nat_le, List, [], ◌∷◌, length, get_or, Some, None}
use Rattle.std.proofs.Common.{refl, arith, rules, lit≤}
use Rattle.std.specs.Char.{is_ascii_digit}
use Rattle.std.specs.List.{list_all}
use Rattle.std.specs.Fmt.{decimal}
use Rattle.std.specs.Str.Parse.{digits_value}
use Rattle.std.proofs.lemmas.Str.Parse.{IsNumeralModel, IsDigitsTest, numerals_by_value}
use Rattle.std.proofs.lemmas.Bool.{lt-ltb, leb-true}
use Rattle.std.proofs.lemmas.Bool.Decides.{nat_tests}
use Rattle.std.proofs.lemmas.Fmt.{digits_decimal, digits_value-decimal, decimal_nonempty, first_decimal, decimal_digit}
use Rattle.td_plan.specs.Text.{natural_of}
use Rattle.td_closures.specs.Words.{is_letter, is_of_word, head_word, plain_word, test_word, sum_word, name_word}
use Rattle.td_closures.proofs.Complete.{and_left, and_right}

test : IsDigitsTest (λ ds. list_all is_ascii_digit ds ≡ true)
test = search rules

own : IsNumeralModel (λ ds. list_all is_ascii_digit ds ≡ true) (digits_value 10)
own = numerals_by_value _ test

alone : (a n : ℕ) → (a ≡ 48 → n ≡ 1) → (not (a == 48) || (n == 1)) ≡ true
alone a n h = grind arith

-- what a number prints is read
pub natural_again : (n : ℕ) → n < 2 ^ 64 → natural_of (decimal n) ≡ Some n
unfolding natural_of
natural_again n small =
    let first : get_or (decimal n) 0 0 ≡ 48 → length (decimal n) ≡ 1 = (λ e. grind (arith, first_decimal n, decimal_digit n)) in
    let digits : list_all is_ascii_digit (decimal n) ≡ true = digits_decimal own n small in
    let value : digits_value 10 (decimal n) ≡ n = digits_value-decimal own n small in
    rw (digits, lt-ltb 0 (length (decimal n)) (decimal_nonempty n small), alone (get_or (decimal n) 0 0) (length (decimal n)) first, value, lt-ltb n (2 ^ 64) small) refl

-- its digits are of one word
digits_of_word : (ds : List ℕ) → list_all is_ascii_digit ds ≡ true → list_all is_of_word ds ≡ true
digits_of_word [] h = refl
digits_of_word (d ∷ ds) h =
    let of : is_of_word d ≡ true = digit d (and_left (is_ascii_digit d) (list_all is_ascii_digit ds) h) in
    rw (of, digits_of_word ds (and_right (is_ascii_digit d) (list_all is_ascii_digit ds) h)) refl
  where
    either : (a b : Bool) → b ≡ true → (a || b) ≡ true
    either true b h = refl
    either false b h = h

    digit : (d : ℕ) → is_ascii_digit d ≡ true → is_of_word d ≡ true
    digit d h = either (is_letter d) (nat_le 48 d && nat_le d 57) h

pub record IsDigits (w : List ℕ) : Type 0 where
  pub first : ℕ
  pub others : List ℕ
  pub digits : w ≡ first ∷ others
  pub least : 48 ≤ first
  pub most : first ≤ 57
  pub of_word : list_all is_of_word w ≡ true

digits_by : (w : List ℕ) → list_all is_ascii_digit w ≡ true → 0 < length w → IsDigits w
digits_by [] h some = absurd (omega arith)
digits_by (d ∷ ds) h some =
    let digit : is_ascii_digit d ≡ true = and_left (is_ascii_digit d) (list_all is_ascii_digit ds) h in
    record {
      first = d;
      others = ds;
      digits = refl;
      least = leb-true 48 d (and_left (nat_le 48 d) (nat_le d 57) digit);
      most = leb-true d 57 (and_right (nat_le 48 d) (nat_le d 57) digit);
      of_word = digits_of_word (d ∷ ds) h;
    }

pub decimal_digits : (n : ℕ) → n < 2 ^ 64 → IsDigits (decimal n)
decimal_digits n small = digits_by (decimal n) (digits_decimal own n small) (decimal_nonempty n small)

-- and none of the words of the language
above : (d c : ℕ) → d ≤ 57 → 58 ≤ c → (d == c) ≡ false
above d c h k = grind (arith, nat_tests)

below : (d c : ℕ) → 48 ≤ d → c ≤ 47 → (d == c) ≡ false
below d c h k = grind (arith, nat_tests)

-- a word that begins so is none of them
pub record IsFree (w : List ℕ) : Type 0 where
  pub no_head : head_word w ≡ None
  pub no_plain : plain_word w ≡ None
  pub no_test : test_word w ≡ None
  pub no_sum : sum_word w ≡ None
  pub no_name : name_word w ≡ None

pub digit_free : (d : ℕ) (ds : List ℕ) → 48 ≤ d → d ≤ 57 → IsFree (d ∷ ds)
digit_free d ds l m =
    let at = λ (c : ℕ) (h : 58 ≤ c). above d c m h in
    record {
      no_head = rw (at 109 (lit≤ tt), at 103 (lit≤ tt), at 102 (lit≤ tt), at 108 (lit≤ tt), at 105 (lit≤ tt), at 101 (lit≤ tt), at 115 (lit≤ tt), at 107 (lit≤ tt)) refl;
      no_plain = rw (at 105 (lit≤ tt), at 116 (lit≤ tt), at 101 (lit≤ tt), at 119 (lit≤ tt), at 110 (lit≤ tt), at 97 (lit≤ tt), at 109 (lit≤ tt)) refl;
      no_test = rw (at 111 (lit≤ tt), at 97 (lit≤ tt), at 61 (lit≤ tt), below d 33 l (lit≤ tt), at 60 (lit≤ tt), at 62 (lit≤ tt)) refl;
      no_sum = rw (below d 43 l (lit≤ tt), below d 45 l (lit≤ tt), below d 42 l (lit≤ tt), below d 47 l (lit≤ tt), below d 37 l (lit≤ tt), below d 40 l (lit≤ tt), below d 41 l (lit≤ tt), below d 44 l (lit≤ tt)) refl;
      no_name = rw (at 107 (lit≤ tt), at 118 (lit≤ tt), at 112 (lit≤ tt), at 97 (lit≤ tt), at 98 (lit≤ tt), at 105 (lit≤ tt), at 108 (lit≤ tt)) refl;
    }
