-- What `parse` reads, in the words of `natural_of`, and that it is what a number prints.
use Rattle.std.proofs.Common.{◌≡◌, ℕ, ◌<◌, ◌^◌, ◌==◌, ◌&&◌, ◌||◌, Bool, true, false, not, List, length, get_or, Option, Some, None, Ok, Err, Result, refl, rules, arith, nat_lt, cond, sym, ◌∙◌, ap, IfSome, IfNone}
use Rattle.std.specs.Char.{is_ascii_digit}
use Rattle.std.proofs.lemmas.Str.Parse.{IsNumeralModel, IsDigitsTest, numerals_by_value, parse_digits}
use Rattle.std.proofs.lemmas.Option.{cond_some, none-some}
use Rattle.std.proofs.lemmas.Bool.{ltb-true, lt-ltb}
use Rattle.std.proofs.lemmas.Fmt.{decimal-digits_value, digits_decimal, digits_value-decimal, decimal_nonempty, first_decimal, decimal_digit, IsAscii-from_digits}
use Rattle.std.specs.List.{list_all}
use Rattle.std.specs.Str.{IsUtf8}
use Rattle.std.proofs.lemmas.Str.{IsUtf8-from_ascii}
use Rattle.std.specs.Str.Parse.{digits_value, ParsesUnsigned}
use Rattle.std.specs.Result.{result_ok}
use Rattle.std.specs.Fmt.{decimal}
use Rattle.td_plan.specs.Text.{natural_of, is_numeral}

test : IsDigitsTest (λ ds. list_all is_ascii_digit ds ≡ true)
test = search rules

pub own : IsNumeralModel (λ ds. list_all is_ascii_digit ds ≡ true) (digits_value 10)
own = numerals_by_value _ test

both : (a b : Bool) → (a && b) ≡ true → (a ≡ true) × (b ≡ true)
both true b h = (refl, h)
both false b h = absurd (grind arith)

alone : (a n : ℕ) → (not (a == 48) || (n == 1)) ≡ true → a ≡ 48 → n ≡ 1
alone a n h e = grind arith

alone_again : (a n : ℕ) → (a ≡ 48 → n ≡ 1) → (not (a == 48) || (n == 1)) ≡ true
alone_again a n h = grind arith

-- what a test of a numeral says
pub record IsPlain (bs : List ℕ) : Type 0 where
  pub digits : list_all is_ascii_digit bs ≡ true
  pub some : 0 < length bs
  pub alone : get_or bs 0 0 ≡ 48 → length bs ≡ 1

pub plain : (bs : List ℕ) → is_numeral bs ≡ true → IsPlain bs
plain bs h =
    let parts = both (list_all is_ascii_digit bs) _ h in
    let rest = both (nat_lt 0 (length bs)) _ parts.1 in
    record { digits = parts.0; some = ltb-true _ _ rest.0; alone = alone _ _ rest.1 }

pub plain_again : (bs : List ℕ) → IsPlain bs → is_numeral bs ≡ true
plain_again bs p = rw (p.digits, lt-ltb 0 (length bs) p.some, alone_again (get_or bs 0 0) (length bs) p.alone) refl

-- what is read is what the number prints
pub natural_reads : (bs : List ℕ) (n : ℕ) → natural_of bs ≡ Some n → bs ≡ decimal n
unfolding natural_of
natural_reads bs n h =
    let test : ((is_numeral bs && nat_lt (digits_value 10 bs) (2 ^ 64)) ≡ true) × (digits_value 10 bs ≡ n) = cond_some _ _ _ h in
    let parts = both (is_numeral bs) (nat_lt (digits_value 10 bs) (2 ^ 64)) test.0 in
    let p = plain bs parts.0 in
    sym (decimal-digits_value own bs p.digits p.some p.alone (ltb-true _ _ parts.1)) ∙ ap decimal test.1

-- what a number prints is read
natural_at : (bs : List ℕ) (n : ℕ) → IsPlain bs → digits_value 10 bs ≡ n → n < 2 ^ 64 → natural_of bs ≡ Some n
unfolding natural_of
natural_at bs n p e small = rw (plain_again bs p, e, lt-ltb n (2 ^ 64) small) refl

plain_decimal : (n : ℕ) → n < 2 ^ 64 → IsPlain (decimal n)
plain_decimal n small = record {
  digits = digits_decimal own n small;
  some = decimal_nonempty n small;
  alone = λ e. grind (arith, first_decimal n, decimal_digit n);
}

pub natural_again : (n : ℕ) → n < 2 ^ 64 → natural_of (decimal n) ≡ Some n
natural_again n small = natural_at (decimal n) n (plain_decimal n small) (digits_value-decimal own n small) small

none_unless : (b c : Bool) (x : ℕ) → (b ≡ true → c ≡ true → ⊥) → cond (b && c) (Some x) None ≡ None
none_unless true true x h = absurd (h refl refl)
none_unless true false x h = refl
none_unless false c x h = refl

natural_not : (bs : List ℕ) → (IsPlain bs → digits_value 10 bs < 2 ^ 64 → ⊥) → natural_of bs ≡ None
unfolding natural_of
natural_not bs h = none_unless (is_numeral bs) (nat_lt (digits_value 10 bs) (2 ^ 64)) (digits_value 10 bs) (λ a b. h (plain bs a) (ltb-true _ _ b))

-- what is no numeral is not read
pub natural_unplain : (bs : List ℕ) → is_numeral bs ≡ false → None ≡ natural_of bs
unfolding natural_of
natural_unplain bs h = rw h refl

-- `parse` at a numeral
pub natural_parse : {E : Type 0} (bs : List ℕ) (r : Result ℕ E) → ParsesUnsigned 64 10 bs r → is_numeral bs ≡ true → result_ok r ≡ natural_of bs
natural_parse {E} bs (Ok x) h t =
    let p = plain bs t in
    let q = parse_digits own {E = E} 64 bs (Ok x) h p.digits in
    ap Some q.1 ∙ sym (natural_at bs (digits_value 10 bs) p refl q.0.1)
natural_parse {E} bs (Err e) h t =
    let p = plain bs t in
    let q = parse_digits own {E = E} 64 bs (Err e) h p.digits in
    sym (natural_not bs (λ plain small. q (plain.some, small)))

pub printed : (bs : List ℕ) (o : Option ℕ) → o ≡ natural_of bs → IfSome o (λ n. bs ≡ decimal n)
printed bs (Some n) e = natural_reads bs n (sym e)
printed bs None e = tt

pub only : (bs : List ℕ) (o : Option ℕ) → o ≡ natural_of bs → IfNone o ((n : ℕ) → n < 2 ^ 64 → bs ≡ decimal n → ⊥)
only bs (Some n) e = tt
only bs None e = λ n small at. none-some n (e ∙ ap natural_of at ∙ natural_again n small)

-- what is no text is not read
pub natural_not_text : (bs : List ℕ) → (IsUtf8 bs → ⊥) → natural_of bs ≡ None
natural_not_text bs h = natural_not bs (λ p small. h (IsUtf8-from_ascii bs (IsAscii-from_digits bs (own.to bs p.digits))))

-- what is read above a bound is no smaller number
pub only_below : (bound m n : ℕ) (word : List ℕ) → bound < 2 ^ 64 → natural_of word ≡ Some m → (m < bound → ⊥) → n < bound → word ≡ decimal n → ⊥
only_below bound m n word fits e above below w =
    let same : Some m ≡ Some n = sym e ∙ ap natural_of w ∙ natural_again n (omega arith) in
    let h : m ≡ n = cc in
    above (omega arith)
