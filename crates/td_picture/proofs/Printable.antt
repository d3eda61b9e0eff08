-- What is printed of closures and of lines are printable characters.
use Rattle.std.proofs.Common.{◌≡◌, ℕ, ◌+◌, ◌-◌, ◌*◌, ◌<◌, ◌≤◌, ◌^◌, Bool, true, false, ◌&&◌, ◌==◌, nat_le, nat_lt, if◌then◌else◌, List, [], ◌∷◌, ◌++◌, length, map, codes, refl, ◌∙◌, arith, rules}
use Rattle.std.specs.Prelude.{Some, cond, decimal, option_map, unwrap_or}
use Rattle.std.specs.List.{find, list_all, join_with_byte}
use Rattle.std.specs.Char.{is_ascii_digit}
use Rattle.std.specs.Str.Parse.{digits_value}
use Rattle.std.proofs.lemmas.List.Folds.{list_all-append}
use Rattle.std.proofs.lemmas.Bool.{ltb-true, leb-true, le-leb}
use Rattle.std.proofs.lemmas.Fmt.{digits_decimal}
use Rattle.std.proofs.lemmas.Str.Parse.{IsNumeralModel, IsDigitsTest, numerals_by_value}
use Rattle.td_plan.specs.declared.vertex.Kind.{Kind}
use Rattle.td_plan.specs.declared.vertex.Kind.TheVariants.{Input, Map, Distinct, Group, Fold, Enter, Feedback, Leave, Output}
use Rattle.td_plan.specs.Text.{is_printable, has_nine_digits}
use Rattle.td_plan.specs.Lines.{Line, words_of as line_words, words_of_kind, has_form, has_code, has_arity}
use Rattle.td_plan.specs.Lines.Line.{vertex, loop, end}
use Rattle.td_picture.specs.declared.table.Form.{Form}
use Rattle.td_picture.specs.declared.table.Form.TheVariants.{Plain, Number, Divisor, Count, Eight}
use Rattle.td_picture.specs.Words.{Text, Row, map_rows, group_rows, fold_rows, divisor, words_in, words_at, is_in, unknown, told_of}
use Rattle.td_picture.proofs.Rows.{both}

abbrev pub is_plain : Text → Bool
is_plain text = list_all is_printable text

-- NUMBERS
test : IsDigitsTest (λ ds. list_all is_ascii_digit ds ≡ true)
test = search rules

own : IsNumeralModel (λ ds. list_all is_ascii_digit ds ≡ true) (digits_value 10)
own = numerals_by_value _ test

digits_plain : (ds : Text) → list_all is_ascii_digit ds ≡ true → is_plain ds ≡ true
digits_plain [] h = refl
digits_plain (d ∷ ds) h =
    let p = both (is_ascii_digit d) (list_all is_ascii_digit ds) h in
    rw (digit_plain d p.0, digits_plain ds p.1) refl
  where
    digit_plain : (d : ℕ) → is_ascii_digit d ≡ true → is_printable d ≡ true
    digit_plain d h =
        let p = both (nat_le 48 d) (nat_le d 57) h in
        let low : 48 ≤ d = leb-true 48 d p.0 in
        let high : d ≤ 57 = leb-true d 57 p.1 in
        rw (le-leb 32 d (omega arith), le-leb d 126 (omega arith)) refl

number : (n : ℕ) → n < 2 ^ 64 → is_plain (decimal n) ≡ true
number n h = digits_plain (decimal n) (digits_decimal own n h)

before : (n : ℕ) (rest : Text) → n < 2 ^ 64 → is_plain rest ≡ true → is_plain (decimal n ++ rest) ≡ true
before n rest h e = list_all-append is_printable (decimal n) rest ∙ rw (number n h, e) refl

-- THE WORDS OF A CLOSURE
-- whether the texts of a row are printable, and its codes those of a program
abbrev is_fit : Row → Bool
is_fit row = nat_lt row.1 65536 && (is_plain row.3 && is_plain row.4)

divided : (p : ℕ) → p < 65536 → is_plain (decimal (divisor p)) ≡ true
divided p h = by (p == 0)
  where
    by : (b : Bool) → is_plain (decimal (if b then 1000 else p)) ≡ true
    by true = number 1000 (omega arith)
    by false = number p (omega arith)

between : (front back : Text) (n : ℕ) → n < 2 ^ 64 → is_plain front ≡ true → is_plain back ≡ true → is_plain (front ++ (decimal n ++ back)) ≡ true
between front back n h f b = list_all-append is_printable front (decimal n ++ back) ∙ rw (f, before n back h b) refl

in_plain : (form : Form) (front back : Text) (p : ℕ) → p < 65536 → is_plain front ≡ true → is_plain back ≡ true → is_plain (words_in form front back p) ≡ true
in_plain Plain front back p small f b = f
in_plain Number front back p small f b = between front back p (omega arith) f b
in_plain Divisor front back p small f b = list_all-append is_printable front (decimal (divisor p)) ∙ rw (f, divided p small) refl
in_plain Count front back p small f b = by (p == 0)
  where
    behind : is_plain (codes " " ++ (back ++ codes "s")) ≡ true
    behind = list_all-append is_printable back (codes "s") ∙ rw b refl

    by : (first : Bool) → is_plain (if first then front ++ back else front ++ (decimal (p + 1) ++ (codes " " ++ (back ++ codes "s")))) ≡ true
    by true = list_all-append is_printable front back ∙ rw (f, b) refl
    by false = between front (codes " " ++ (back ++ codes "s")) (p + 1) (omega (arith, small)) f behind
in_plain Eight front back p small f b =
    let last = number (8 * p + 8) (omega (arith, small)) in
    let eight = before (8 * p + 1) (codes " to " ++ decimal (8 * p + 8)) (omega (arith, small)) last in
    list_all-append is_printable front (codes ", from number " ++ (decimal (8 * p + 1) ++ (codes " to " ++ decimal (8 * p + 8)))) ∙ rw (f, eight) refl

row_plain : (row : Row) (code : ℕ) → is_fit row ≡ true → is_in code row ≡ true → is_plain (words_in row.2 row.3 row.4 (code - row.0)) ≡ true
row_plain row code fit found =
    let parts = both (nat_lt row.1 65536) (is_plain row.3 && is_plain row.4) fit in
    let texts = both (is_plain row.3) (is_plain row.4) parts.1 in
    let bounds = both (nat_le row.0 code) (nat_le code row.1) found in
    let least : row.1 < 65536 = ltb-true row.1 65536 parts.0 in
    let below : code ≤ row.1 = leb-true code row.1 bounds.1 in
    in_plain row.2 row.3 row.4 (code - row.0) (omega (arith, least, below)) texts.0 texts.1

rows_plain : (rows : List Row) (code : ℕ) → list_all is_fit rows ≡ true → is_plain (unwrap_or (words_at rows code) unknown) ≡ true
rows_plain [] code h = refl
rows_plain (row ∷ rows) code h = by (is_in code row) refl (rows_plain rows code parts.1)
  where
    parts : (is_fit row ≡ true) × (list_all is_fit rows ≡ true)
    parts = both (is_fit row) (list_all is_fit rows) h

    by : (b : Bool) → is_in code row ≡ b → is_plain (unwrap_or (words_at rows code) unknown) ≡ true
        → is_plain (unwrap_or (option_map (λ r. words_in r.2 r.3 r.4 (code - r.0)) (cond b (Some row) (find (is_in code) rows))) unknown) ≡ true
    by true found rest = row_plain row code parts.0 found
    by false found rest = rest

pub words_plain : (k : Kind) → is_plain (told_of k) ≡ true
words_plain (Map code) = rows_plain map_rows code refl
words_plain (Group code) = rows_plain group_rows code refl
words_plain (Fold code) = rows_plain fold_rows code refl
words_plain _ = refl

-- THE WORDS OF A LINE
small : (n : ℕ) → has_nine_digits n ≡ true → n < 2 ^ 64
small n e = let h : n < 1000000000 = ltb-true n 1000000000 e in omega arith

code_plain : (c : ℕ) → nat_le c 65535 ≡ true → is_plain (decimal c) ≡ true
code_plain c h = let le : c ≤ 65535 = leb-true c 65535 h in number c (omega arith)

kind_plain : (k : Kind) → has_code k ≡ true → list_all is_plain (words_of_kind k) ≡ true
kind_plain Input h = refl
kind_plain Distinct h = refl
kind_plain Enter h = refl
kind_plain Feedback h = refl
kind_plain Leave h = refl
kind_plain Output h = refl
kind_plain (Map c) h = rw (code_plain c h) refl
kind_plain (Group c) h = rw (code_plain c h) refl
kind_plain (Fold c) h = rw (code_plain c h) refl

numbers_plain : (ns : List ℕ) → list_all has_nine_digits ns ≡ true → list_all is_plain (map decimal ns) ≡ true
numbers_plain [] h = refl
numbers_plain (n ∷ ns) h = let p = both (has_nine_digits n) (list_all has_nine_digits ns) h in rw (number n (small n p.0), numbers_plain ns p.1) refl

each_plain : (l : Line) → has_form l ≡ true → list_all is_plain (line_words l) ≡ true
each_plain (loop b) h = rw (number b (small b h)) refl
each_plain end h = refl
each_plain (vertex v) h =
    let arity = both (has_nine_digits v.number && has_code v.kind && list_all has_nine_digits v.sources) (has_arity v.kind (length v.sources)) h in
    let nine = both (has_nine_digits v.number && has_code v.kind) (list_all has_nine_digits v.sources) arity.0 in
    let code = both (has_nine_digits v.number) (has_code v.kind) nine.0 in
    rw (number v.number (small v.number code.0), list_all-append is_plain (words_of_kind v.kind) (map decimal v.sources), kind_plain v.kind code.1, numbers_plain v.sources nine.1) refl

joined_plain : (ws : List Text) → list_all is_plain ws ≡ true → is_plain (join_with_byte 32 ws) ≡ true
joined_plain [] h = refl
joined_plain (w ∷ []) h = (both (is_plain w) true h).0
joined_plain (w ∷ v ∷ ws) h =
    let p = both (is_plain w) (list_all is_plain (v ∷ ws)) h in
    list_all-append is_printable w (32 ∷ join_with_byte 32 (v ∷ ws)) ∙ rw (p.0, joined_plain (v ∷ ws) p.1) refl

pub line_plain : (l : Line) → has_form l ≡ true → is_plain (join_with_byte 32 (line_words l)) ≡ true
line_plain l h = joined_plain (line_words l) (each_plain l h)
