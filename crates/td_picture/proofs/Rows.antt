-- What the rows of the catalogue's table have in common is tested row by row, and so it holds of the words of each code.
use Rattle.std.proofs.Common.{◌≡◌, ℕ, ◌+◌, ◌-◌, ◌*◌, Bool, true, false, not, ◌&&◌, ◌||◌, ◌==◌, if◌then◌else◌, List, [], ◌∷◌, ◌++◌, codes, refl, sym, ap, subst, ◌∙◌}
use Rattle.std.specs.Prelude.{decimal, Option, Some, None, cond, is_some, option_map, unwrap_or}
use Rattle.std.specs.List.{find, list_all, list_any}
use Rattle.std.proofs.lemmas.List.{append-nil}
use Rattle.td_picture.specs.declared.table.Form.{Form}
use Rattle.td_picture.specs.declared.table.Form.TheVariants.{Plain, Number, Divisor, Count, Eight}
use Rattle.td_picture.specs.Words.{Text, Row, divisor, words_in, words_at, is_in, unknown}

pub both : (p q : Bool) → (p && q) ≡ true → (p ≡ true) × (q ≡ true)
both true q e = (refl, e)
both false q e = cc

-- WHICH CODES HAVE WORDS: those that a row has
pub has_words : (rows : List Row) (code : ℕ) → is_some (words_at rows code) ≡ list_any (is_in code) rows
has_words [] code = refl
has_words (row ∷ rows) code = by (is_in code row) (has_words rows code)
  where
    by : (b : Bool) → is_some (words_at rows code) ≡ list_any (is_in code) rows
        → is_some (option_map (λ r. words_in r.2 r.3 r.4 (code - r.0)) (cond b (Some row) (find (is_in code) rows))) ≡ (b || list_any (is_in code) rows)
    by true rest = refl
    by false rest = rest

-- NO WORDS ARE THE TEXT FOR AN UNKNOWN CODE: none begin as it does
abbrev pub begins_other : Text → Bool
begins_other [] = false
begins_other (a ∷ []) = false
begins_other (a ∷ b ∷ rest) = not (a == 110 && b == 111)

abbrev first_of : Text → ℕ
first_of [] = 0
first_of (x ∷ xs) = x

abbrev rest_of : Text → Text
rest_of [] = []
rest_of (x ∷ xs) = xs

other_front : (front rest : Text) → begins_other front ≡ true → front ++ rest ≡ unknown → true ≡ false
other_front [] rest h e = sym h
other_front (a ∷ []) rest h e = sym h
other_front (a ∷ b ∷ front) rest h e =
    let first : a ≡ 110 = ap first_of e in
    let second : b ≡ 111 = ap (λ (text : Text). first_of (rest_of text)) e in
    sym (subst (λ y. not (110 == 110 && y == 111) ≡ true) second (subst (λ x. not (x == 110 && b == 111) ≡ true) first h))

other : (form : Form) (front back : Text) (p : ℕ) → begins_other front ≡ true → words_in form front back p ≡ unknown → true ≡ false
other Plain front back p h e = other_front front [] h (append-nil front ∙ e)
other Number front back p h e = other_front front (decimal p ++ back) h e
other Divisor front back p h e = other_front front (decimal (divisor p)) h e
other Eight front back p h e = other_front front (codes ", from number " ++ (decimal (8 * p + 1) ++ (codes " to " ++ decimal (8 * p + 8)))) h e
other Count front back p h e = by (p == 0) e
  where
    by : (b : Bool) → (if b then front ++ back else front ++ (decimal (p + 1) ++ (codes " " ++ (back ++ codes "s")))) ≡ unknown → true ≡ false
    by true e = other_front front back h e
    by false e = other_front front (decimal (p + 1) ++ (codes " " ++ (back ++ codes "s"))) h e

pub told_unknown : (rows : List Row) (code : ℕ) → list_all (λ row. begins_other row.3) rows ≡ true → unwrap_or (words_at rows code) unknown ≡ unknown → is_some (words_at rows code) ≡ false
told_unknown [] code h e = refl
told_unknown (row ∷ rows) code h e = by (is_in code row) e (told_unknown rows code parts.1)
  where
    parts : (begins_other row.3 ≡ true) × (list_all (λ row. begins_other row.3) rows ≡ true)
    parts = both (begins_other row.3) (list_all (λ row. begins_other row.3) rows) h

    by : (b : Bool) → unwrap_or (option_map (λ r. words_in r.2 r.3 r.4 (code - r.0)) (cond b (Some row) (find (is_in code) rows))) unknown ≡ unknown
        → (unwrap_or (words_at rows code) unknown ≡ unknown → is_some (words_at rows code) ≡ false)
        → is_some (option_map (λ r. words_in r.2 r.3 r.4 (code - r.0)) (cond b (Some row) (find (is_in code) rows))) ≡ false
    by true e rest = other row.2 row.3 row.4 (code - row.0) parts.0 e
    by false e rest = rest e

pub no_words : (words : Option Text) → is_some words ≡ false → unwrap_or words unknown ≡ unknown
no_words (Some text) none = cc
no_words None none = refl
