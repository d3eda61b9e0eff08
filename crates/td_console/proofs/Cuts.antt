-- The first line of a text, cut at its line feed.
use Rattle.std.proofs.Common.{◌≡◌, ℕ, suc, ◌+◌, ◌-◌, ◌<◌, ◌≤◌, Bool, true, false, not, ◌==◌, List, [], ◌∷◌, length, take, drop, refl, sym, ap, ◌∙◌, cond, arith}
use Rattle.std.specs.List.{slice_split, onto_first, position_or_len}
use Rattle.std.proofs.lemmas.List.Splits.{slice_split_first}
use Rattle.std.proofs.lemmas.List.{take_all, length-drop}
use Rattle.td_plan.specs.Text.{text_lines, without_empty_last}

-- there is always a part
some_part : (p : ℕ → Bool) (xs : List ℕ) → (part : List ℕ) × (parts : List (List ℕ)) × (slice_split p xs ≡ part ∷ parts)
some_part p [] = ([], [], refl)
some_part p (x ∷ xs) = by (p x) (slice_split p xs)
  where
    by : (b : Bool) (rest : List (List ℕ)) → (part : List ℕ) × (parts : List (List ℕ)) × (cond b ([] ∷ rest) (onto_first x rest) ≡ part ∷ parts)
    by true rest = ([], rest, refl)
    by false [] = (x ∷ [], [], refl)
    by false (part ∷ parts) = (x ∷ part, parts, refl)

without-more : (part next : List ℕ) (parts : List (List ℕ)) → without_empty_last (part ∷ next ∷ parts) ≡ part ∷ without_empty_last (next ∷ parts)
without-more [] next parts = refl
without-more (b ∷ bs) next parts = refl

-- a text with a line feed
pub lines_cut : (text line rest : List ℕ) → slice_split (λ b. b == 10) text ≡ line ∷ slice_split (λ b. b == 10) rest → text_lines text ≡ line ∷ text_lines rest
lines_cut text line rest e =
    let some = some_part (λ b. b == 10) rest in
    let more : text_lines text ≡ without_empty_last (line ∷ some.0 ∷ some.1) = ap without_empty_last (e ∙ ap (λ parts. line ∷ parts) some.2) in
    more ∙ without-more line some.0 some.1 ∙ ap (λ parts. line ∷ without_empty_last parts) (sym some.2)

pub first_cut : (text : List ℕ) (at : ℕ) → at ≡ position_or_len (λ b. b == 10) text → at < length text →
    text_lines text ≡ take at text ∷ text_lines (take (length text - (at + 1)) (drop (at + 1) text))
first_cut text at e lt =
    let bound = length-drop (at + 1) text in
    let below : position_or_len (λ b. b == 10) text < length text = omega arith in
    let rest : take (length text - (at + 1)) (drop (at + 1) text) ≡ drop (at + 1) text = take_all (length text - (at + 1)) (drop (at + 1) text) (omega arith) in
    let cut : slice_split (λ b. b == 10) text ≡ take at text ∷ slice_split (λ b. b == 10) (drop (at + 1) text) = rw e (slice_split_first (λ b. b == 10) text 0 below) in
    lines_cut text (take at text) (drop (at + 1) text) cut ∙ ap (λ r. take at text ∷ text_lines r) (sym rest)

-- a text without one
no_feed : (text : List ℕ) → length text ≡ position_or_len (λ b. b == 10) text → slice_split (λ b. b == 10) text ≡ text ∷ []
no_feed [] e = refl
no_feed (b ∷ text) e = by (b == 10) e (no_feed text)
  where
    by : (t : Bool) → suc (length text) ≡ cond (not t) (1 + position_or_len (λ b. b == 10) text) 0 →
        (length text ≡ position_or_len (λ b. b == 10) text → slice_split (λ b. b == 10) text ≡ text ∷ []) →
        cond t ([] ∷ slice_split (λ b. b == 10) text) (onto_first b (slice_split (λ b. b == 10) text)) ≡ (b ∷ text) ∷ []
    by true f more = absurd (omega arith)
    by false f more = ap (onto_first b) (more (omega arith))

last_line : (text : List ℕ) → length text ≡ position_or_len (λ b. b == 10) text → (length text == 0) ≡ false → text_lines text ≡ text ∷ []
last_line [] e some = cc
last_line (b ∷ text) e some = ap without_empty_last (no_feed (b ∷ text) e)

pub whole_line : (text : List ℕ) (at : ℕ) → at ≡ position_or_len (λ b. b == 10) text → at ≤ length text → length text ≤ at → (length text == 0) ≡ false → text_lines text ≡ text ∷ []
whole_line text at e le ge some = last_line text (omega arith) some
