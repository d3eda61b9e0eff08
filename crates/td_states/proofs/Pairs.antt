-- A text that is cut at a byte, and lists of pairs.
use Rattle.std.proofs.Common.{◌≡◌, ◌≢◌, ℕ, zero, suc, ◌+◌, ◌<◌, Bool, true, false, cond, ◌==◌, List, [], ◌∷◌, ◌++◌, Option, Some, None, is_some, map, length, get_or, refl, sym, ap, ◌∙◌, arith}
use Rattle.std.proofs.lemmas.Bool.Decides.{nat_tests}
use Rattle.std.proofs.lemmas.Grind.{common_steps}
use Rattle.std.specs.Borrow.{Bor}
use Rattle.std.specs.List.{slice_split, onto_first}
use Rattle.std.specs.Option.{option_map_or}
use Rattle.td_states.specs.declared.rename.Rename.{Rename}
use Rattle.td_states.specs.Renames.{rename_in, rename_of}

-- no byte of the list is c
abbrev pub Lacks : ℕ → List ℕ → Type 0
Lacks c xs = (i : ℕ) → i < length xs → get_or xs i 0 ≢ c

head_differs : (c x : ℕ) (xs : List ℕ) → Lacks c (x ∷ xs) → (x == c) ≡ false
head_differs c x xs h = let ne : x ≢ c = h 0 (grind (arith, common_steps)) in grind (arith, nat_tests)

Lacks-tail : (c x : ℕ) (xs : List ℕ) → Lacks c (x ∷ xs) → Lacks c xs
Lacks-tail c x xs h i lt = let k = h (i + 1) (grind (arith, common_steps)) in grind (arith, common_steps)

same_test : (c : ℕ) → (c == c) ≡ true
same_test c = grind (arith, nat_tests)

pub slice_split-Lacks : (c : ℕ) (xs : List ℕ) → Lacks c xs → slice_split (λ x. x == c) xs ≡ xs ∷ []
slice_split-Lacks c [] h = refl
slice_split-Lacks c (x ∷ xs) h = rw (head_differs c x xs h, slice_split-Lacks c xs (Lacks-tail c x xs h))

pub slice_split-at : (c : ℕ) (xs ys : List ℕ) → Lacks c xs → slice_split (λ x. x == c) (xs ++ c ∷ ys) ≡ xs ∷ slice_split (λ x. x == c) ys
slice_split-at c [] ys h = rw (same_test c)
slice_split-at c (x ∷ xs) ys h = rw (head_differs c x xs h, slice_split-at c xs ys (Lacks-tail c x xs h))

-- there is always a part
some_part : (p : ℕ → Bool) (xs : List ℕ) → (part : List ℕ) × (parts : List (List ℕ)) × (slice_split p xs ≡ part ∷ parts)
some_part p [] = ([], [], refl)
some_part p (x ∷ xs) = by (p x) (slice_split p xs)
  where
    by : (b : Bool) (rest : List (List ℕ)) → (part : List ℕ) × (parts : List (List ℕ)) × (cond b ([] ∷ rest) (onto_first x rest) ≡ part ∷ parts)
    by true rest = ([], rest, refl)
    by false [] = (x ∷ [], [], refl)
    by false (part ∷ parts) = (x ∷ part, parts, refl)

-- and three parts are no pair
pub third_part : (pair from rest to : List ℕ) (more : Option (Bor (List ℕ))) → slice_split (λ b. b == 61) pair ≡ from ∷ slice_split (λ b. b == 61) rest
    → slice_split (λ b. b == 61) rest ≡ to ∷ option_map_or (λ r. slice_split (λ b. b == 61) r.now) more [] → is_some more ≡ true → rename_of pair ≡ None
third_part pair from rest to None one two never = absurd (let h = never in cc)
third_part pair from rest to (Some more) one two is =
    let last = some_part (λ b. b == 61) more.now in
    ap rename_in (one ∙ ap (λ (l : List (List ℕ)). from ∷ l) (two ∙ ap (λ (l : List (List ℕ)). to ∷ l) last.2))

-- a pair among them that writes no renaming
pub no_pairs : (pairs : List (List ℕ)) (pair : List ℕ) (k : ℕ) → k < length pairs → pair ≡ get_or pairs k pair → rename_of pair ≡ None → (renames : List Rename) → map rename_of pairs ≡ map Some renames → ⊥
no_pairs [] pair k below at none renames e = omega (arith, below)
no_pairs (w ∷ pairs) pair k below at none [] e = cc
no_pairs (w ∷ pairs) pair zero below at none (p ∷ renames) e = let here : rename_of w ≡ Some p = cc in let same : rename_of pair ≡ rename_of w = ap rename_of at in cc
no_pairs (w ∷ pairs) pair (suc k) below at none (p ∷ renames) e = no_pairs pairs pair k (omega (arith, below)) at none renames (cc)

-- all pairs, and what they write
pub all_pairs : (seen : List (Bor (List ℕ))) (pairs : List (List ℕ)) (renames : List Rename) → map (λ w. w.now) seen ≡ pairs → map (λ w. rename_of w.now) seen ≡ map Some renames → map rename_of pairs ≡ map Some renames
all_pairs seen pairs renames is e = ap (map rename_of) (sym is) ∙ maps seen ∙ e
  where
    maps : (seen : List (Bor (List ℕ))) → map rename_of (map (λ w. w.now) seen) ≡ map (λ w. rename_of w.now) seen
    maps [] = refl
    maps (w ∷ seen) = ap (λ l. rename_of w.now ∷ l) (maps seen)
