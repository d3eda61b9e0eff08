-- Lists that are kept end to end.
use Rattle.std.proofs.Common.{◌≡◌, ℕ, zero, suc, ◌+◌, ◌-◌, ◌<◌, ◌≤◌, List, [], ◌∷◌, ◌++◌, length, take, drop, get_or, set, refl, ap, sym, ◌∙◌, arith, length-append}
use Rattle.std.specs.Prelude.{slice_get, slice_range, Some}
use Rattle.std.specs.List.{flat_map}
use Rattle.std.specs.Option.{option_map}
use Rattle.std.proofs.lemmas.List.{drop-append-le, take-append-le, length-drop, length-take-le, drop_all, take_all}
use Rattle.std.proofs.lemmas.List.Folds.{drop_split}
use Rattle.std.proofs.Math.Seq.{drop-append_seam}
use Rattle.td_task.specs.Cuts.{cut, EndsAt, start_of, with_last}

-- what begins somewhere ends before the end of all
pub ends_within : (start n : ℕ) (ends : List ℕ) → EndsAt start ends n → start ≤ n
ends_within start n [] h = omega arith
ends_within start n (e ∷ ends) h = let k : e ≤ n = ends_within e n ends h.1 in let j : start ≤ e = h.0 in omega arith

-- ONE MORE LIST
pub EndsAt-add : (start n k : ℕ) (ends : List ℕ) → EndsAt start ends n → EndsAt start (ends ++ (n + k) ∷ []) (n + k)
EndsAt-add start n k [] h = (omega arith, refl)
EndsAt-add start n k (e ∷ ends) h = (h.0, EndsAt-add e n k ends h.1)

slice_range-append : {X : Type 0} (all xs : List X) (a b : ℕ) → a ≤ b → b ≤ length all → slice_range (all ++ xs) a b ≡ slice_range all a b
slice_range-append all xs a b h k =
    let l : a ≤ length all = omega arith in
    let m : b - a ≤ length (drop a all) = omega (arith, length-drop a all) in
    ap (take (b - a)) (drop-append-le a all xs l) ∙ take-append-le (b - a) (drop a all) xs m

slice_range-last : {X : Type 0} (all xs : List X) (a : ℕ) → a ≡ length all → slice_range (all ++ xs) a (length all + length xs) ≡ xs
slice_range-last all xs a h =
    let m : length xs ≤ (length all + length xs) - a = omega arith in
    ap (λ k. take ((length all + length xs) - a) (drop k (all ++ xs))) h ∙ ap (take ((length all + length xs) - a)) (drop-append_seam all xs) ∙ take_all _ xs m

pub cut-add : {X : Type 0} (start : ℕ) (ends : List ℕ) (all xs : List X) → EndsAt start ends (length all) →
    cut start (ends ++ (length all + length xs) ∷ []) (all ++ xs) ≡ cut start ends all ++ xs ∷ []
cut-add start [] all xs h = ap (λ l. l ∷ []) (slice_range-last all xs start h)
cut-add start (e ∷ ends) all xs h =
    ap (λ l. l ∷ cut e (ends ++ (length all + length xs) ∷ []) (all ++ xs)) (slice_range-append all xs start e h.0 (ends_within e (length all) ends h.1))
    ∙ ap (λ ls. slice_range all start e ∷ ls) (cut-add e ends all xs h.1)

-- ONE MORE MEMBER of the last list
slice_range-longer : {X : Type 0} (all : List X) (x : X) (a : ℕ) → a ≤ length all → slice_range (all ++ x ∷ []) a (length all + 1) ≡ slice_range all a (length all) ++ x ∷ []
slice_range-longer all x a h =
    let short : length (drop a all) ≤ length all - a = omega (arith, length-drop a all) in
    let long : length (drop a (all ++ x ∷ [])) ≤ (length all + 1) - a = omega (arith, length-drop a (all ++ x ∷ []), length-append all (x ∷ [])) in
    take_all _ (drop a (all ++ x ∷ [])) long ∙ drop-append-le a all (x ∷ []) h ∙ ap (λ l. l ++ x ∷ []) (sym (take_all _ (drop a all) short))

pub EndsAt-longer : (start n i : ℕ) (ends : List ℕ) → suc i ≡ length ends → EndsAt start ends n → EndsAt start (set ends i (n + 1)) (n + 1)
EndsAt-longer start n i [] last h = absurd (omega (arith, last))
EndsAt-longer start n zero (e ∷ []) last h = let k : start ≤ e = h.0 in let l : e ≡ n = h.1 in (omega (arith, k, l), refl)
EndsAt-longer start n zero (e ∷ f ∷ ends) last h = absurd (omega (arith, last))
EndsAt-longer start n (suc i) (e ∷ ends) last h = (h.0, EndsAt-longer e n i ends (omega (arith, last)) h.1)

pub cut-longer : {X : Type 0} (start i : ℕ) (ends : List ℕ) (all : List X) (x : X) → suc i ≡ length ends → EndsAt start ends (length all) →
    cut start (set ends i (length all + 1)) (all ++ x ∷ []) ≡ with_last (cut start ends all) x
cut-longer start i [] all x last h = absurd (omega (arith, last))
cut-longer start zero (e ∷ []) all x last h =
    let k : start ≤ e = h.0 in
    let l : e ≡ length all = h.1 in
    ap (λ l. l ∷ []) (slice_range-longer all x start (omega (arith, k, l)) ∙ ap (λ n. slice_range all start n ++ x ∷ []) (sym l))
cut-longer start zero (e ∷ f ∷ ends) all x last h = absurd (omega (arith, last))
cut-longer start (suc i) (e ∷ []) all x last h = absurd (omega (arith, last))
cut-longer start (suc i) (e ∷ f ∷ ends) all x last h =
    ap (λ l. l ∷ cut e (set (f ∷ ends) i (length all + 1)) (all ++ x ∷ [])) (slice_range-append all (x ∷ []) start e h.0 (ends_within e (length all) (f ∷ ends) h.1))
    ∙ ap (λ ls. slice_range all start e ∷ ls) (cut-longer e i (f ∷ ends) all x (omega (arith, last)) h.1)

pub length-with_last : {X : Type 0} (lists : List (List X)) (x : X) → length (with_last lists x) ≡ length lists
length-with_last [] x = refl
length-with_last (l ∷ []) x = refl
length-with_last (l ∷ m ∷ lists) x = ap suc (length-with_last (m ∷ lists) x)

-- ALL MEMBERS
pub all_of_cut : {X : Type 0} (start : ℕ) (ends : List ℕ) (all : List X) → EndsAt start ends (length all) →
    flat_map (λ list. list) (cut start ends all) ≡ drop start all
all_of_cut start [] all h = let k : length all ≤ start = omega arith in sym (drop_all start all k)
all_of_cut start (e ∷ ends) all h = ap (λ l. slice_range all start e ++ l) (all_of_cut e ends all h.1) ∙ sym (drop_split all start e h.0)

-- ONE LIST
pub length-cut : {X : Type 0} (start : ℕ) (ends : List ℕ) (all : List X) → length (cut start ends all) ≡ length ends
length-cut start [] all = refl
length-cut start (e ∷ ends) all = ap suc (length-cut e ends all)

pub get_of_cut : {X : Type 0} (start : ℕ) (ends : List ℕ) (all : List X) (i : ℕ) →
    slice_get (cut start ends all) i ≡ option_map (λ end. slice_range all (start_of start i ends) end) (slice_get ends i)
get_of_cut start [] all i = refl
get_of_cut start (e ∷ ends) all zero = refl
get_of_cut start (e ∷ ends) all (suc i) = get_of_cut e ends all i

pub starts_at_end : (start i : ℕ) (ends : List ℕ) → i < length ends → start_of start (suc i) ends ≡ get_or ends i 0
starts_at_end start i [] h = absurd (omega arith)
starts_at_end start zero (e ∷ ends) h = refl
starts_at_end start (suc i) (e ∷ ends) h = starts_at_end e i ends (omega arith)

-- where a list begins and ends
pub starts_before : (start n i end : ℕ) (ends : List ℕ) → EndsAt start ends n → slice_get ends i ≡ Some end → start_of start i ends ≤ end
starts_before start n i end [] h e = absurd (cc)
starts_before start n zero end (x ∷ ends) h e = let k : x ≡ end = cc in let j : start ≤ x = h.0 in omega arith
starts_before start n (suc i) end (x ∷ ends) h e = starts_before x n i end ends h.1 e

pub ends_before_all : (start n i end : ℕ) (ends : List ℕ) → EndsAt start ends n → slice_get ends i ≡ Some end → end ≤ n
ends_before_all start n i end [] h e = absurd (cc)
ends_before_all start n zero end (x ∷ ends) h e = let k : x ≡ end = cc in let j : x ≤ n = ends_within x n ends h.1 in omega arith
ends_before_all start n (suc i) end (x ∷ ends) h e = ends_before_all x n i end ends h.1 e

-- THE SAME LISTS have the same ends: those that their lengths give
abbrev ends_of : {X : Type 0} → ℕ → List (List X) → List ℕ
ends_of start [] = []
ends_of start (l ∷ ls) = (start + length l) ∷ ends_of (start + length l) ls

ends_of_cut : {X : Type 0} (start : ℕ) (ends : List ℕ) (all : List X) → EndsAt start ends (length all) → ends_of start (cut start ends all) ≡ ends
ends_of_cut start [] all h = refl
ends_of_cut start (e ∷ ends) all h =
    let j : start ≤ e = h.0 in
    let k : e ≤ length all = ends_within e (length all) ends h.1 in
    let m : e - start ≤ length (drop start all) = omega (arith, length-drop start all) in
    let n : start + length (slice_range all start e) ≡ e = omega (arith, length-take-le (e - start) (drop start all) m) in
    ap (λ x. x ∷ ends_of x (cut e ends all)) n ∙ ap (λ l. e ∷ l) (ends_of_cut e ends all h.1)

pub same_ends : {X : Type 0} (ends others : List ℕ) (all more : List X) → EndsAt 0 ends (length all) → EndsAt 0 others (length more) →
    cut 0 ends all ≡ cut 0 others more → ends ≡ others
same_ends ends others all more h k e = sym (ends_of_cut 0 ends all h) ∙ ap (ends_of 0) e ∙ ends_of_cut 0 others more k

pub same_members : {X : Type 0} (ends others : List ℕ) (all more : List X) → EndsAt 0 ends (length all) → EndsAt 0 others (length more) →
    cut 0 ends all ≡ cut 0 others more → all ≡ more
same_members ends others all more h k e = sym (all_of_cut 0 ends all h) ∙ ap (flat_map (λ list. list)) e ∙ all_of_cut 0 others more k
