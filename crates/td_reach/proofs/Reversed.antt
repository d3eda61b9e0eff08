-- Counters with the outermost first, as the code keeps them.
use Rattle.std.proofs.Common.{◌≡◌, ℕ, suc, ◌+◌, ◌-◌, ◌<◌, ◌≤◌, ◌⊎◌, inl, inr, List, [], ◌∷◌, ◌++◌, length, take, drop, reverse, get_or, ap, sym, ◌∙◌, subst, arith, length-drop}
use Rattle.std.specs.Ordering.{nat_cmp}
use Rattle.std.specs.Cmp.Lexicographic.{slice_cmp}
use Rattle.std.proofs.lemmas.List.{reverse-append, reverse-reverse, length-reverse, take-append-drop}
use Rattle.std.proofs.lemmas.Bool.{cases_lt}
use Rattle.std.proofs.Math.ListN.{drop_of_length-le}
use Rattle.td_stamp.specs.Time.{raised, counters_cmp}
use Rattle.td_reach.proofs.Effects.{whole_drop}
use Rattle.td_reach.proofs.Small.{AreAtMost, drop_AreAtMost, append_AreAtMost}

pub reverse-take : (d : ℕ) (xs : List ℕ) → reverse (take (length xs - d) xs) ≡ drop d (reverse xs)
reverse-take d xs = by (cases_lt (length xs) d)
  where
    n : ℕ
    n = length xs - d

    by : (length xs < d) ⊎ (d ≤ length xs) → reverse (take (length xs - d) xs) ≡ drop d (reverse xs)
    by (inl h) = let e : length xs - d ≡ 0 = omega (arith, h) in ap (λ k. reverse (take k xs)) e ∙ sym (drop_of_length-le (reverse xs) (omega (arith, h, length-reverse xs)))
    by (inr h) =
        let parts : reverse xs ≡ reverse (drop (length xs - d) xs) ++ reverse (take (length xs - d) xs) =
        ap reverse (sym (take-append-drop (length xs - d) xs)) ∙ reverse-append (take (length xs - d) xs) (drop (length xs - d) xs) in
        let long : d ≡ length (reverse (drop (length xs - d) xs)) = omega (arith, h, length-reverse (drop (length xs - d) xs), length-drop (length xs - d) xs) in
        sym (ap (drop d) parts ∙ whole_drop d (reverse (drop (length xs - d) xs)) (reverse (take (length xs - d) xs)) long)

-- the innermost of those that are left
pub innermost_left : (d : ℕ) (xs left : List ℕ) (x : ℕ) → take (length xs - d) xs ≡ left ++ x ∷ [] → drop d (reverse xs) ≡ x ∷ reverse left
innermost_left d xs left x e = sym (reverse-take d xs) ∙ (ap reverse e ∙ reverse-append left (x ∷ []))

pub innermost_small : (b d : ℕ) (xs left : List ℕ) (x : ℕ) → take (length xs - d) xs ≡ left ++ x ∷ [] → AreAtMost b (reverse xs) → x ≤ b
innermost_small b d xs left x e small = (subst (AreAtMost b) (innermost_left d xs left x e) (drop_AreAtMost d b (reverse xs) small)).0

pub kept_raised : (a d : ℕ) (xs left : List ℕ) (x : ℕ) → take (length xs - d) xs ≡ left ++ x ∷ [] → reverse (left ++ (x + a) ∷ []) ≡ raised a (drop d (reverse xs))
kept_raised a d xs left x e = reverse-append left ((x + a) ∷ []) ∙ sym (ap (raised a) (innermost_left d xs left x e))

pub none_kept : (a d : ℕ) (xs : List ℕ) → take (length xs - d) xs ≡ [] → reverse {A = ℕ} [] ≡ raised a (drop d (reverse xs))
none_kept a d xs e = ap (raised a) (ap reverse (sym e) ∙ reverse-take d xs)

-- COMPARED
-- counters compared with the outermost first
pub counters_cmp-reverse : (xs ys : List ℕ) → slice_cmp nat_cmp xs ys ≡ counters_cmp (reverse xs) (reverse ys)
counters_cmp-reverse xs ys = λ i. slice_cmp nat_cmp (sym (reverse-reverse xs) i) (sym (reverse-reverse ys) i)

-- SMALL
pub reversed_AreAtMost : (b : ℕ) (xs : List ℕ) → AreAtMost b xs → AreAtMost b (reverse xs)
reversed_AreAtMost b [] p = tt
reversed_AreAtMost b (x ∷ xs) p = subst (AreAtMost b) (sym (reverse-append (x ∷ []) xs)) (append_AreAtMost b (reverse xs) (x ∷ []) (reversed_AreAtMost b xs p.1) (p.0, tt))

pub each_AreAtMost : (b : ℕ) (xs : List ℕ) → ((i : ℕ) → get_or xs i 0 ≤ b) → AreAtMost b xs
each_AreAtMost b [] h = tt
each_AreAtMost b (x ∷ xs) h = (h 0, each_AreAtMost b xs (λ i. h (suc i)))
