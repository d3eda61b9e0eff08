-- A text that is cut at a byte, and its lines and words.
use Rattle.std.proofs.Common.{◌≡◌, ◌≢◌, ℕ, ◌+◌, ◌<◌, Bool, true, false, ◌==◌, List, [], ◌∷◌, ◌++◌, length, get_or, refl, sym, ap, ◌∙◌, arith, cond, filter, nat_lt}
use Rattle.std.proofs.lemmas.Bool.Decides.{nat_tests}
use Rattle.std.proofs.lemmas.Bool.{lt-ltb}
use Rattle.std.proofs.lemmas.Grind.{common_steps}
use Rattle.std.specs.List.{slice_split, onto_first}
use Rattle.td_plan.specs.Text.{text_lines, without_empty_last, words}

-- no byte of the list is c
abbrev pub Lacks : ℕ → List ℕ → Type 0
Lacks c xs = (i : ℕ) → i < length xs → get_or xs i 0 ≢ c

head_differs : (c x : ℕ) (xs : List ℕ) → Lacks c (x ∷ xs) → (x == c) ≡ false
head_differs c x xs h = let ne : x ≢ c = h 0 (grind (arith, common_steps)) in grind (arith, nat_tests)

Lacks-tail : (c x : ℕ) (xs : List ℕ) → Lacks c (x ∷ xs) → Lacks c xs
Lacks-tail c x xs h i lt = let k = h (i + 1) (grind (arith, common_steps)) in grind (arith, common_steps)

same_test : (c : ℕ) → (c == c) ≡ true
same_test c = grind (arith, nat_tests)

pub slice_split-Lacks : (c : ℕ) (xs : List ℕ) → Lacks c xs → slice_split (λ x. x == c) xs ≡ xs ∷ []
slice_split-Lacks c [] h = refl
slice_split-Lacks c (x ∷ xs) h = rw (head_differs c x xs h, slice_split-Lacks c xs (Lacks-tail c x xs h))

pub slice_split-at : (c : ℕ) (xs ys : List ℕ) → Lacks c xs → slice_split (λ x. x == c) (xs ++ c ∷ ys) ≡ xs ∷ slice_split (λ x. x == c) ys
slice_split-at c [] ys h = rw (same_test c)
slice_split-at c (x ∷ xs) ys h = rw (head_differs c x xs h, slice_split-at c xs ys (Lacks-tail c x xs h))

-- there is always a part
some_part : (p : ℕ → Bool) (xs : List ℕ) → (part : List ℕ) × (parts : List (List ℕ)) × (slice_split p xs ≡ part ∷ parts)
some_part p [] = ([], [], refl)
some_part p (x ∷ xs) = by (p x) (slice_split p xs)
  where
    by : (b : Bool) (rest : List (List ℕ)) → (part : List ℕ) × (parts : List (List ℕ)) × (cond b ([] ∷ rest) (onto_first x rest) ≡ part ∷ parts)
    by true rest = ([], rest, refl)
    by false [] = (x ∷ [], [], refl)
    by false (part ∷ parts) = (x ∷ part, parts, refl)

without-more : (part next : List ℕ) (parts : List (List ℕ)) → without_empty_last (part ∷ next ∷ parts) ≡ part ∷ without_empty_last (next ∷ parts)
without-more [] next parts = refl
without-more (b ∷ bs) next parts = refl

-- the first line of a text with a line feed
pub lines_cut : (text line rest : List ℕ) → slice_split (λ b. b == 10) text ≡ line ∷ slice_split (λ b. b == 10) rest → text_lines text ≡ line ∷ text_lines rest
lines_cut text line rest e =
    let some = some_part (λ b. b == 10) rest in
    let more : text_lines text ≡ without_empty_last (line ∷ some.0 ∷ some.1) = ap without_empty_last (e ∙ ap (λ parts. line ∷ parts) some.2) in
    more ∙ without-more line some.0 some.1 ∙ ap (λ parts. line ∷ without_empty_last parts) (sym some.2)

-- and of one without
pub lines_last : (text : List ℕ) → 0 < length text → slice_split (λ b. b == 10) text ≡ text ∷ [] → text_lines text ≡ text ∷ []
lines_last [] some e = absurd (omega arith)
lines_last (b ∷ bs) some e = ap without_empty_last e

-- a first word, and a first part that is none
pub words_cut : (line word : List ℕ) (parts : List (List ℕ)) → 0 < length word → slice_split (λ b. b == 32) line ≡ word ∷ parts → words line ≡ word ∷ filter (λ w. nat_lt 0 (length w)) parts
words_cut line word parts some e = ap (filter (λ w. nat_lt 0 (length w))) e ∙ rw (lt-ltb 0 (length word) some) refl

pub words_skip : (line : List ℕ) (parts : List (List ℕ)) → slice_split (λ b. b == 32) line ≡ [] ∷ parts → words line ≡ filter (λ w. nat_lt 0 (length w)) parts
words_skip line parts e = ap (filter (λ w. nat_lt 0 (length w))) e
