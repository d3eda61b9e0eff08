-- The registers of a canonical text: r0, r1 and so on.
use Rattle.std.specs.Prelude.{◌≡◌, ◌≤◌, ◌<◌, ◌^◌, ℕ, zero, suc, ◌+◌, ◌==◌, pos, Bool, true, false, ◌&&◌, if◌then◌else◌, List, [], ◌∷◌, ◌++◌, length, Option, Some, None}
use Rattle.std.proofs.Common.{refl, ap, sym, ◌∙◌, arith}
use Rattle.std.specs.List.{list_all}
use Rattle.std.specs.Fmt.{decimal}
use Rattle.std.specs.Str.{bytes_eq}
use Rattle.std.proofs.lemmas.Bool.{lt-ltb}
use Rattle.std.proofs.lemmas.Bool.Decides.{nat_tests}
use Rattle.std.proofs.lemmas.Fmt.{decimal_digit}
use Rattle.td_formula.specs.declared.expression.Name.{Name}
use Rattle.td_formula.specs.declared.expression.Name.TheVariants as names
use Rattle.td_plan.specs.Text.{natural_of}
use Rattle.td_closures.specs.declared.token.Token.{Token}
use Rattle.td_closures.specs.declared.token.Token.TheVariants as tokens
use Rattle.td_closures.specs.declared.words.Scope.{Scope}
use Rattle.td_closures.specs.Words.{is_of_word, head_word, plain_word, test_word, sum_word, name_word, or_else, named_word, number_word, register_word, register_from, token_of, with_register}
use Rattle.td_closures.specs.Spelled.{register, registers_from, registers}
use Rattle.td_closures.proofs.Numerals.{IsDigits, decimal_digits, IsFree, digit_free, natural_again}

one_digit : (i k : ℕ) → ((48 + i == 48 + k) && true) ≡ (i == k)
one_digit i k = grind (arith, nat_tests)

same_register : (i k : ℕ) → i < 10 → k < 10 → bytes_eq (register i) (register k) ≡ (i == k)
same_register i k h l = rw (decimal_digit i h, decimal_digit k l) (one_digit i k)

-- A REGISTER THAT IS THERE
found_by : (k r : ℕ) (rest : Option ℕ) (b : Bool) → (k == r) ≡ b → ((k == r) ≡ false → rest ≡ Some r) → (if b then Some k else rest) ≡ Some r
found_by k r rest true e h = let same : k ≡ r = grind (arith, nat_tests) in ap Some same
found_by k r rest false e h = h e

apart : (k r : ℕ) → (k == r) ≡ false → k ≤ r → k < r
apart k r h l = grind (arith, nat_tests)

found : (k n r : ℕ) → k ≤ r → r < k + n → k + n ≤ 8 → register_from k (registers_from k n) (register r) ≡ Some r
found k zero r h l m = absurd (omega arith)
found k (suc n) r h l m =
    ap (λ (b : Bool). (let o : Option ℕ = if b then Some k else register_from (k + 1) (registers_from (k + 1) n) (register r) in o)) (same_register k r (omega arith) (omega arith))
    ∙ found_by k r (register_from (k + 1) (registers_from (k + 1) n) (register r)) (k == r) refl (λ e. (let below : k < r = apart k r e h in found (k + 1) n r (omega arith) (omega arith) (omega arith)))

-- ONE THAT IS NOT
differs : (k r : ℕ) → k < r → (k == r) ≡ false
differs k r h = grind (arith, nat_tests)

missing : (k n r : ℕ) → k + n ≤ r → r < 10 → register_from k (registers_from k n) (register r) ≡ None
missing k zero r h l = refl
missing k (suc n) r h l =
    ap (λ (b : Bool). (let o : Option ℕ = if b then Some k else register_from (k + 1) (registers_from (k + 1) n) (register r) in o)) (same_register k r (omega arith) l ∙ differs k r (omega arith))
    ∙ missing (k + 1) n r (omega arith) l

no_digit : (d : ℕ) → d ≤ 57 → (114 == d) ≡ false
no_digit d h = grind (arith, nat_tests)

none_of_digits : (k n d : ℕ) (ds : List ℕ) → d ≤ 57 → register_from k (registers_from k n) (d ∷ ds) ≡ None
none_of_digits k zero d ds h = refl
none_of_digits k (suc n) d ds h = rw (no_digit d h) (none_of_digits (k + 1) n d ds h)

-- ONE MORE
pub how_many : (k n : ℕ) → length (registers_from k n) ≡ n
how_many k zero = refl
how_many k (suc n) = ap suc (how_many (k + 1) n)

more_from : (k n : ℕ) → registers_from k n ++ register (k + n) ∷ [] ≡ registers_from k (suc n)
more_from k zero = (let e : k + 0 ≡ k = omega arith in ap (λ (i : ℕ). register i ∷ []) e)
more_from k (suc n) = (let e : k + suc n ≡ k + 1 + n = omega arith in ap (λ (i : ℕ). register k ∷ (registers_from (k + 1) n ++ register i ∷ [])) e ∙ ap (λ (rs : List (List ℕ)). register k ∷ rs) (more_from (k + 1) n))

pub one_more : (n : ℕ) → registers n ++ register n ∷ [] ≡ registers (suc n)
one_more n = (let e : 0 + n ≡ n = omega arith in ap (λ (i : ℕ). registers n ++ register i ∷ []) (sym e) ∙ more_from 0 n)

-- THEIR TOKENS
pub register_token : (scope : Scope) (n r : ℕ) → n ≤ 8 → r < n → token_of scope (registers n) (register r) ≡ tokens.Named (names.Register r)
register_token scope n r small there = rw (found 0 n r (omega arith) (omega arith) (omega arith)) refl

natural_letter : (ds : List ℕ) → natural_of (114 ∷ ds) ≡ None
unfolding natural_of
natural_letter ds = refl

pub new_token : (scope : Scope) (n : ℕ) → n < 8 → scope.may_name ≡ true → token_of scope (registers n) (register n) ≡ tokens.New n
new_token scope n small may = rw (missing 0 n n (omega arith) (omega arith), natural_letter (decimal n), may, how_many 0 n) refl

pub with_new : (n : ℕ) → n < 8 → with_register (registers n) (register n) (tokens.New n) ≡ registers (suc n)
with_new n small = rw (how_many 0 n, lt-ltb n 8 small) (one_more n)

pub register_of_word : (r : ℕ) → r < 8 → list_all is_of_word (register r) ≡ true
register_of_word r h = (decimal_digits r (omega arith)).of_word

-- a number is none of them
none_of_them : (a b c d : Option Token) (e : Option Name) (scope : Scope) (t : Token) → a ≡ None → b ≡ None → c ≡ None → d ≡ None → e ≡ None → or_else a (or_else b (or_else c (or_else d (named_word scope e t)))) ≡ t
none_of_them a b c d e scope t p q r s u = rw (p, q, r, s, u) refl

digits_token : (scope : Scope) (n m d : ℕ) (ds : List ℕ) → IsFree (d ∷ ds) → d ≤ 57 → natural_of (d ∷ ds) ≡ Some m → token_of scope (registers n) (d ∷ ds) ≡ tokens.Number (pos m)
digits_token scope n m d ds free most again =
    none_of_them (head_word (d ∷ ds)) (plain_word (d ∷ ds)) (test_word (d ∷ ds)) (sum_word (d ∷ ds)) (name_word (d ∷ ds)) scope (register_word scope (length (registers n)) (d ∷ ds) (register_from 0 (registers n) (d ∷ ds)))
    free.no_head free.no_plain free.no_test free.no_sum free.no_name
    ∙ (ap (register_word scope (length (registers n)) (d ∷ ds)) (none_of_digits 0 n d ds most) ∙ ap (number_word scope (length (registers n)) (d ∷ ds)) again)

pub number_token : (scope : Scope) (n m : ℕ) → m < 2 ^ 64 → token_of scope (registers n) (decimal m) ≡ tokens.Number (pos m)
number_token scope n m small =
    let w : IsDigits (decimal m) = decimal_digits m small in
    let again : natural_of (w.first ∷ w.others) ≡ Some m = ap natural_of (sym w.digits) ∙ natural_again m small in
    ap (token_of scope (registers n)) w.digits ∙ digits_token scope n m w.first w.others (digit_free w.first w.others w.least w.most) w.most again
