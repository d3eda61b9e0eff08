-- The lines before and after the first separator, line by line.
use Rattle.std.proofs.Common.{◌≡◌, ℕ, suc, ◌+◌, ◌-◌, Bool, true, false, not, ◌&&◌, List, [], ◌∷◌, ◌++◌, length, take, drop, refl, sym, ap, ◌∙◌, cond, arith, append-nil, length-append, ◌⊎◌, inl, inr}
use Rattle.std.specs.List.{list_any, before_first, after_first, position_or_len}
use Rattle.std.proofs.lemmas.List.{append_assoc}
use Rattle.std.proofs.Math.Seq.{take-append_seam}
use Rattle.std.specs.Str.{IsUtf8, IsCharBoundary}
use Rattle.std.proofs.lemmas.Str.{IsCharBoundary-at_seam}
use Rattle.std.proofs.lemmas.List.Sums.{take_while-cons}
use Rattle.td_plan.specs.Text.{text_lines}
use Rattle.td_console.specs.Parts.{is_separator, joined, plan_text, data_lines, first_data_line}

pub both : (a b : Bool) → (a && b) ≡ true → (a ≡ true) × (b ≡ true)
both true b e = (refl, e)
both false b e = cc

-- a line that separates, and one that does not
pub before-yes : (line : List ℕ) (lines : List (List ℕ)) → is_separator line ≡ true → before_first is_separator (line ∷ lines) ≡ []
before-yes line lines h = take_while-cons (λ l. not (is_separator l)) line lines ∙ rw h refl

pub before-no : (line : List ℕ) (lines : List (List ℕ)) → is_separator line ≡ false → before_first is_separator (line ∷ lines) ≡ line ∷ before_first is_separator lines
before-no line lines h = take_while-cons (λ l. not (is_separator l)) line lines ∙ rw h refl

pub after-yes : (line : List ℕ) (lines : List (List ℕ)) → is_separator line ≡ true → after_first is_separator (line ∷ lines) ≡ lines
after-yes line lines h = rw h refl

pub after-no : (line : List ℕ) (lines : List (List ℕ)) → is_separator line ≡ false → after_first is_separator (line ∷ lines) ≡ after_first is_separator lines
after-no line lines h =
    let e : 1 + position_or_len is_separator lines + 1 ≡ suc (position_or_len is_separator lines + 1) = omega arith in
    ap (λ b. drop (cond (not b) (1 + position_or_len is_separator lines) 0 + 1) (line ∷ lines)) h ∙ ap (λ k. drop k (line ∷ lines)) e

any-yes : (line : List ℕ) (lines : List (List ℕ)) → is_separator line ≡ true → list_any is_separator (line ∷ lines) ≡ true
any-yes line lines h = rw h refl

any-no : (line : List ℕ) (lines : List (List ℕ)) → is_separator line ≡ false → list_any is_separator (line ∷ lines) ≡ list_any is_separator lines
any-no line lines h = rw h refl

-- the bytes before what is left, which are those of the lines before it
abbrev Front : List ℕ → List ℕ → Type 0
Front text rest = (front : List ℕ) × (text ≡ front ++ rest) × (joined (before_first is_separator (text_lines text)) ≡ front ++ joined (before_first is_separator (text_lines rest)))

-- n lines were read, none of which separates, and the rest is left
pub record IsLeft (text rest : List ℕ) (n : ℕ) : Type 0 where
  pub any : list_any is_separator (text_lines text) ≡ list_any is_separator (text_lines rest)
  pub count : length (before_first is_separator (text_lines text)) ≡ n + length (before_first is_separator (text_lines rest))
  pub after : after_first is_separator (text_lines text) ≡ after_first is_separator (text_lines rest)
  pub bytes : (rest ≡ []) ⊎ Front text rest

pub left_all : (text : List ℕ) → IsLeft text text 0
left_all text = record { any = refl; count = omega arith; after = refl; bytes = inr ([], refl, refl) }

-- one more line
longer : (text rest line others : List ℕ) → text_lines rest ≡ line ∷ text_lines others → is_separator line ≡ false → rest ≡ line ++ 10 ∷ others → Front text rest → Front text others
longer text rest line others e stays cut h = (
  h.0 ++ (line ++ 10 ∷ []),
  h.1 ∙ ap (λ r. h.0 ++ r) cut ∙ ap (λ r. h.0 ++ r) (sym (append_assoc line (10 ∷ []) others)) ∙ sym (append_assoc h.0 (line ++ 10 ∷ []) others),
  h.2 ∙ ap (λ ls. h.0 ++ joined (before_first is_separator ls)) e ∙ ap (λ ls. h.0 ++ joined ls) (before-no line (text_lines others) stays) ∙ sym (append_assoc h.0 (line ++ 10 ∷ []) (joined (before_first is_separator (text_lines others)))),
)

none_left : {A : Type 0} (rest line others : List ℕ) → text_lines rest ≡ line ∷ text_lines others → rest ≡ [] → A
none_left rest line others e nil = let f : [] ≡ line ∷ text_lines others = sym (ap text_lines nil) ∙ e in cc

pub left_more : (text rest line others : List ℕ) (n : ℕ) → text_lines rest ≡ line ∷ text_lines others → is_separator line ≡ false →
    (rest ≡ line ++ 10 ∷ others) ⊎ ((rest ≡ line) × (others ≡ [])) → IsLeft text rest n → IsLeft text others (n + 1)
left_more text rest line others n e stays cut h =
    let count : length (before_first is_separator (text_lines rest)) ≡ suc (length (before_first is_separator (text_lines others))) = ap (λ ls. length (before_first is_separator ls)) e ∙ ap length (before-no line (text_lines others) stays) in
    let counted = h.count in
    record {
      any = h.any ∙ ap (list_any is_separator) e ∙ any-no line (text_lines others) stays;
      count = omega arith;
      after = h.after ∙ ap (after_first is_separator) e ∙ after-no line (text_lines others) stays;
      bytes = by cut h.bytes;
    }
  where
    by : (rest ≡ line ++ 10 ∷ others) ⊎ ((rest ≡ line) × (others ≡ [])) → (rest ≡ []) ⊎ Front text rest → (others ≡ []) ⊎ Front text others
    by (inr c) b = inl c.1
    by (inl c) (inl nil) = none_left rest line others e nil
    by (inl c) (inr front) = inr (longer text rest line others e stays c front)

-- what stands before the rest
front_of : (text front rest : List ℕ) → text ≡ front ++ rest → take (length text - length rest) text ≡ front
front_of text front rest e =
    let size : length text ≡ length front + length rest = ap length e ∙ length-append front rest in
    let k : length text - length rest ≡ length front = omega arith in
    rw (k, e) (take-append_seam front rest)

-- and where it begins, a character begins
pub boundary : (text rest line others : List ℕ) (n : ℕ) → text_lines rest ≡ line ∷ text_lines others → IsLeft text rest n → IsUtf8 rest → IsCharBoundary text (length text - length rest)
boundary text rest line others n e h utf8 = by h.bytes
  where
    by : (rest ≡ []) ⊎ Front text rest → IsCharBoundary text (length text - length rest)
    by (inl nil) = none_left rest line others e nil
    by (inr f) =
        let size : length text ≡ length f.0 + length rest = ap length f.1 ∙ length-append f.0 rest in
        let k : length text - length rest ≡ length f.0 = omega arith in
        rw k (IsCharBoundary-at_seam text f.0 rest f.1 utf8)

-- where the next line separates
pub plan_found : (text rest line others : List ℕ) (n : ℕ) → text_lines rest ≡ line ∷ text_lines others → is_separator line ≡ true → IsLeft text rest n → take (length text - length rest) text ≡ plan_text text
plan_found text rest line others n e parts h = by h.bytes
  where
    by : (rest ≡ []) ⊎ Front text rest → take (length text - length rest) text ≡ plan_text text
    by (inl nil) = none_left rest line others e nil
    by (inr f) =
        let any : list_any is_separator (text_lines text) ≡ true = h.any ∙ ap (list_any is_separator) e ∙ any-yes line (text_lines others) parts in
        let none : before_first is_separator (text_lines rest) ≡ [] = ap (before_first is_separator) e ∙ before-yes line (text_lines others) parts in
        front_of text f.0 rest f.1 ∙ sym (ap (λ b. cond b (joined (before_first is_separator (text_lines text))) text) any ∙ f.2 ∙ ap (λ ls. f.0 ++ joined ls) none ∙ append-nil f.0)

pub lines_found : (text rest line others : List ℕ) (n : ℕ) → text_lines rest ≡ line ∷ text_lines others → is_separator line ≡ true → IsLeft text rest n → text_lines others ≡ data_lines text
lines_found text rest line others n e parts h = sym (h.after ∙ ap (after_first is_separator) e ∙ after-yes line (text_lines others) parts)

pub first_found : (text rest line others : List ℕ) (n : ℕ) → text_lines rest ≡ line ∷ text_lines others → is_separator line ≡ true → IsLeft text rest n → n + 2 ≡ first_data_line text
first_found text rest line others n e parts h =
    let count : length (before_first is_separator (text_lines rest)) ≡ 0 = ap (λ ls. length (before_first is_separator ls)) e ∙ ap length (before-yes line (text_lines others) parts) in
    let counted = h.count in omega arith

-- where none is left
pub plan_whole : (text rest : List ℕ) (n : ℕ) → text_lines rest ≡ [] → IsLeft text rest n → text ≡ plan_text text
plan_whole text rest n e h =
    let any : list_any is_separator (text_lines text) ≡ false = h.any ∙ ap (list_any is_separator) e in
    sym (ap (λ b. cond b (joined (before_first is_separator (text_lines text))) text) any)

pub lines_whole : (text rest : List ℕ) (n : ℕ) → text_lines rest ≡ [] → IsLeft text rest n → [] ≡ data_lines text
lines_whole text rest n e h = sym (h.after ∙ ap (after_first is_separator) e)

pub first_whole : (text rest : List ℕ) (n : ℕ) → text_lines rest ≡ [] → IsLeft text rest n → n + 2 ≡ first_data_line text
first_whole text rest n e h =
    let count : length (before_first is_separator (text_lines rest)) ≡ 0 = ap (λ ls. length (before_first is_separator ls)) e in
    let counted = h.count in omega arith
