-- Words, numbers and lines are read as they were written.
use Rattle.std.proofs.Common.{◌≡◌, ℕ, suc, zero, ◌+◌, ◌<◌, ◌≤◌, ◌^◌, ◌==◌, ◌/◌, ◌%◌, ◌&&◌, ◌||◌, not, Bool, true, false, cond, nat_lt, nat_le, List, [], ◌∷◌, ◌++◌, length, filter, get_or, ℤ, pos, negsuc, Some, refl, sym, ap, ◌∙◌, arith, rules}
use Rattle.std.specs.Char.{is_ascii, is_ascii_digit}
use Rattle.std.specs.List.{list_all, slice_split, onto_first}
use Rattle.std.specs.Fmt.{digits, digits_onto, digit_glyph, decimal, signed_decimal}
use Rattle.std.specs.Str.Parse.{digits_value}
use Rattle.std.proofs.lemmas.Bool.{ltb-true, leb-true, lt-ltb, le-leb}
use Rattle.std.proofs.lemmas.Bool.Decides.{nat_tests}
use Rattle.std.proofs.lemmas.Fmt.{digits_decimal, digits_value-decimal, decimal_nonempty, first_decimal, decimal_digit}
use Rattle.std.proofs.lemmas.Str.Parse.{IsNumeralModel, IsDigitsTest, numerals_by_value}
use Rattle.td_plan.specs.Text.{text_lines, without_empty_last, words, natural_of, is_printable}

pub both : (p q : Bool) → (p && q) ≡ true → (p ≡ true) × (q ≡ true)
both true q e = (refl, e)
both false q e = cc

-- a printable character other than the space, and a word of them
abbrev pub is_letter : ℕ → Bool
is_letter b = nat_lt 32 b && nat_le b 126

abbrev pub is_word : List ℕ → Bool
is_word w = list_all is_letter w && nat_lt 0 (length w)

-- what all of a list pass, they pass by a wider test
wider : (narrow wide : ℕ → Bool) → ((b : ℕ) → narrow b ≡ true → wide b ≡ true) → (xs : List ℕ) → list_all narrow xs ≡ true → list_all wide xs ≡ true
wider narrow wide step [] h = refl
wider narrow wide step (x ∷ xs) h = let p = both (narrow x) (list_all narrow xs) h in rw (step x p.0, wider narrow wide step xs p.1) refl

letter_printable : (b : ℕ) → is_letter b ≡ true → is_printable b ≡ true
letter_printable b h =
    let p = both (nat_lt 32 b) (nat_le b 126) h in
    let low : 32 < b = ltb-true 32 b p.0 in rw (le-leb 32 b (omega arith), p.1) refl

printable_ascii : (b : ℕ) → is_printable b ≡ true → is_ascii b ≡ true
printable_ascii b h =
    let p = both (nat_le 32 b) (nat_le b 126) h in
    let high : b ≤ 126 = leb-true b 126 p.1 in lt-ltb b 128 (omega arith)

pub word_printable : (w : List ℕ) → is_word w ≡ true → list_all is_printable w ≡ true
word_printable w h = wider is_letter is_printable letter_printable w (both (list_all is_letter w) (nat_lt 0 (length w)) h).0

pub line_ascii : (line : List ℕ) → list_all is_printable line ≡ true → list_all is_ascii line ≡ true
line_ascii line h = wider is_printable is_ascii printable_ascii line h

-- NUMBERS
glyph : (d : ℕ) → d < 10 → is_letter (digit_glyph false d) ≡ true
glyph d h =
    let low : 32 < 48 + d = omega arith in
    let high : 48 + d ≤ 126 = omega arith in
    rw (lt-ltb d 10 h, lt-ltb 32 (48 + d) low, le-leb (48 + d) 126 high) refl

onto : (k n : ℕ) (acc : List ℕ) → list_all is_letter acc ≡ true → list_all is_letter (digits_onto k 10 false n acc) ≡ true
onto zero n acc h = h
onto (suc k) n acc h = by (n / 10 == 0) (onto k (n / 10) (digit_glyph false (n % 10) ∷ acc) more)
  where
    more : list_all is_letter (digit_glyph false (n % 10) ∷ acc) ≡ true
    more = rw (glyph (n % 10) (omega arith), h) refl

    by : (t : Bool) → list_all is_letter (digits_onto k 10 false (n / 10) (digit_glyph false (n % 10) ∷ acc)) ≡ true
        → list_all is_letter (cond t (digit_glyph false (n % 10) ∷ acc) (digits_onto k 10 false (n / 10) (digit_glyph false (n % 10) ∷ acc))) ≡ true
    by true rest = more
    by false rest = rest

-- there is one digit at least
some_onto : (k n : ℕ) (acc : List ℕ) → 0 < length acc → 0 < length (digits_onto k 10 false n acc)
some_onto zero n acc h = h
some_onto (suc k) n acc h = by (n / 10 == 0) (some_onto k (n / 10) (digit_glyph false (n % 10) ∷ acc) (omega arith))
  where
    by : (t : Bool) → 0 < length (digits_onto k 10 false (n / 10) (digit_glyph false (n % 10) ∷ acc))
        → 0 < length (cond t (digit_glyph false (n % 10) ∷ acc) (digits_onto k 10 false (n / 10) (digit_glyph false (n % 10) ∷ acc)))
    by true rest = omega arith
    by false rest = rest

some_first : (k n : ℕ) → 0 < length (digits_onto (suc k) 10 false n [])
some_first k n = by (n / 10 == 0) (some_onto k (n / 10) (digit_glyph false (n % 10) ∷ []) (omega arith))
  where
    by : (t : Bool) → 0 < length (digits_onto k 10 false (n / 10) (digit_glyph false (n % 10) ∷ []))
        → 0 < length (cond t (digit_glyph false (n % 10) ∷ []) (digits_onto k 10 false (n / 10) (digit_glyph false (n % 10) ∷ [])))
    by true rest = omega arith
    by false rest = rest

pub number_word : (n : ℕ) → is_word (decimal n) ≡ true
unfolding digits
number_word n = rw (onto 64 n [] refl, lt-ltb 0 (length (digits_onto 64 10 false n [])) (some_first 63 n)) refl

pub signed_word : (z : ℤ) → is_word (signed_decimal z) ≡ true
signed_word (pos n) = number_word n
signed_word (negsuc n) = let p = both (list_all is_letter (decimal (suc n))) (nat_lt 0 (length (decimal (suc n)))) (number_word (suc n)) in rw (p.0, lt-ltb 0 (suc (length (decimal (suc n)))) (omega arith)) refl

test : IsDigitsTest (λ ds. list_all is_ascii_digit ds ≡ true)
test = search rules

own : IsNumeralModel (λ ds. list_all is_ascii_digit ds ≡ true) (digits_value 10)
own = numerals_by_value _ test

alone : (a n : ℕ) → (a ≡ 48 → n ≡ 1) → (not (a == 48) || (n == 1)) ≡ true
alone a n h = grind arith

natural_at : (ds : List ℕ) (n : ℕ) → list_all is_ascii_digit ds ≡ true → 0 < length ds → (get_or ds 0 0 ≡ 48 → length ds ≡ 1) → digits_value 10 ds ≡ n → n < 2 ^ 64 → natural_of ds ≡ Some n
unfolding natural_of
natural_at ds n all some first value small = rw (all, lt-ltb 0 (length ds) some, alone (get_or ds 0 0) (length ds) first, value, lt-ltb n (2 ^ 64) small) refl

pub natural_again : (n : ℕ) → n < 2 ^ 64 → natural_of (decimal n) ≡ Some n
natural_again n small =
    natural_at (decimal n) n (digits_decimal own n small) (decimal_nonempty n small) (λ e. grind (arith, first_decimal n, decimal_digit n)) (digits_value-decimal own n small) small

-- A LIST THAT IS CUT at a byte that its first part lacks
same_test : (c : ℕ) → (c == c) ≡ true
same_test c = grind (arith, nat_tests)

module _ (test : ℕ → Bool) (c : ℕ) (apart : (x : ℕ) → test x ≡ true → (x == c) ≡ false) where
  split_first : (xs ys : List ℕ) → list_all test xs ≡ true → slice_split (λ b. b == c) (xs ++ c ∷ ys) ≡ xs ∷ slice_split (λ b. b == c) ys
  split_first [] ys h = rw (same_test c) refl
  split_first (x ∷ xs) ys h = let p = both (test x) (list_all test xs) h in rw (apart x p.0, split_first xs ys p.1) refl

  split_only : (xs : List ℕ) → list_all test xs ≡ true → slice_split (λ b. b == c) xs ≡ xs ∷ []
  split_only [] h = refl
  split_only (x ∷ xs) h = let p = both (test x) (list_all test xs) h in rw (apart x p.0, split_only xs p.1) refl

letter_apart : (x : ℕ) → is_letter x ≡ true → (x == 32) ≡ false
letter_apart x h = let p = both (nat_lt 32 x) (nat_le x 126) h in let lt : 32 < x = ltb-true 32 x p.0 in grind (arith, nat_tests)

printable_apart : (x : ℕ) → is_printable x ≡ true → (x == 10) ≡ false
printable_apart x h = let p = both (nat_le 32 x) (nat_le x 126) h in let le : 32 ≤ x = leb-true 32 x p.0 in grind (arith, nat_tests)

-- THE WORDS OF A LINE, one after another
module _ (w : List ℕ) (is : is_word w ≡ true) where
  letters : list_all is_letter w ≡ true
  letters = (both (list_all is_letter w) (nat_lt 0 (length w)) is).0

  some : nat_lt 0 (length w) ≡ true
  some = (both (list_all is_letter w) (nat_lt 0 (length w)) is).1

  pub word_first : (rest : List ℕ) → words (w ++ 32 ∷ rest) ≡ w ∷ words rest
  word_first rest = ap (filter (λ v. nat_lt 0 (length v))) (split_first is_letter 32 letter_apart w rest letters) ∙ rw some refl

  pub word_last : words w ≡ w ∷ []
  word_last = ap (filter (λ v. nat_lt 0 (length v))) (split_only is_letter 32 letter_apart w letters) ∙ rw some refl

-- THE LINES OF A TEXT
some_part : (p : ℕ → Bool) (xs : List ℕ) → (part : List ℕ) × (parts : List (List ℕ)) × (slice_split p xs ≡ part ∷ parts)
some_part p [] = ([], [], refl)
some_part p (x ∷ xs) = by (p x) (slice_split p xs)
  where
    by : (b : Bool) (rest : List (List ℕ)) → (part : List ℕ) × (parts : List (List ℕ)) × (cond b ([] ∷ rest) (onto_first x rest) ≡ part ∷ parts)
    by true rest = ([], rest, refl)
    by false [] = (x ∷ [], [], refl)
    by false (part ∷ parts) = (x ∷ part, parts, refl)

without-more : (part next : List ℕ) (parts : List (List ℕ)) → without_empty_last (part ∷ next ∷ parts) ≡ part ∷ without_empty_last (next ∷ parts)
without-more [] next parts = refl
without-more (b ∷ bs) next parts = refl

pub line_first : (line rest : List ℕ) → list_all is_printable line ≡ true → text_lines (line ++ 10 ∷ rest) ≡ line ∷ text_lines rest
line_first line rest h =
    let cut = split_first is_printable 10 printable_apart line rest h in
    let part = some_part (λ b. b == 10) rest in
    ap without_empty_last (cut ∙ ap (λ parts. line ∷ parts) part.2) ∙ without-more line part.0 part.1 ∙ ap (λ parts. line ∷ without_empty_last parts) (sym part.2)
