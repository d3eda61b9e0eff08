-- A `for` over the members of a bag or of a list, which tests each.
use Rattle.std.proofs.Common.{◌≡◌, ℕ, ◌+◌, ◌<◌, ◌≤◌, zero, suc, Bool, true, false, ◌&&◌, List, [], ◌∷◌, ◌++◌, length, take, get_or, cond, ap, sym, ◌∙◌, append-nil, refl, arith}
use Rattle.std.specs.Prelude.{Some, None, find}
use Rattle.std.specs.List.{list_all}
use Rattle.std.specs.Iterator.{Yields, YieldsFirst}
use Rattle.std.proofs.lemmas.List.{map-id, take_more, take_all}
use Rattle.std.proofs.lemmas.List.Folds.{list_all-append}
use Rattle.std.proofs.lemmas.Map.Iter.{rest_so_far}

-- those yielded so far, and those left
listed_so_far : {X : Type 0} (all xs s t : List X) → s ≡ all → Yields (YieldsFirst (λ l. l)) s xs t → all ≡ xs ++ t
listed_so_far all xs s t start yields = sym start ∙ rest_so_far (λ x. x) xs s t yields ∙ ap (λ l. l ++ t) (map-id xs)

-- at the end, all passed
pub all_passed : {X : Type 0} (p : X → Bool) (all xs s t : List X) → s ≡ all → Yields (YieldsFirst (λ l. l)) s xs t → t ≡ [] → list_all p xs ≡ true → true ≡ list_all p all
all_passed p all xs s t start yields none passed = sym passed ∙ ap (list_all p) (sym (listed_so_far all xs s t start yields ∙ ap (λ l. xs ++ l) none ∙ append-nil xs))

and_false : (a b : Bool) → b ≡ false → (a && b) ≡ false
and_false true b e = e
and_false false b e = refl

here_false : (a b : Bool) → a ≡ false → (a && b) ≡ false
here_false true b e = absurd (cc)
here_false false b e = refl

-- at one that does not pass
pub one_failed : {X : Type 0} (p : X → Bool) (all xs s t u : List X) (x : X) → s ≡ all → Yields (YieldsFirst (λ l. l)) s xs t → t ≡ x ∷ u → p x ≡ false → false ≡ list_all p all
one_failed p all xs s t u x start yields step failed =
    sym (ap (list_all p) (listed_so_far all xs s t start yields ∙ ap (λ l. xs ++ l) step) ∙ list_all-append p xs (x ∷ u) ∙ and_false (list_all p xs) (list_all p (x ∷ u)) (here_false (p x) (list_all p u) failed))

-- IN A LIST
-- one more that passes
pub passed_more : {X : Type 0} (p : X → Bool) (xs : List X) (i : ℕ) (d : X) → i < length xs → list_all p (take i xs) ≡ true → p (get_or xs i d) ≡ true → list_all p (take (i + 1) xs) ≡ true
passed_more p xs i d h so_far here = ap (list_all p) (take_more xs i d h) ∙ list_all-append p (take i xs) (get_or xs i d ∷ []) ∙ rw (so_far, here) refl

-- one that does not
pub failed_at : {X : Type 0} (p : X → Bool) (xs : List X) (i : ℕ) (d : X) → i < length xs → p (get_or xs i d) ≡ false → list_all p xs ≡ false
failed_at p [] i d h failed = absurd (omega arith)
failed_at p (x ∷ xs) zero d h failed = ap (λ b. b && list_all p xs) failed
failed_at p (x ∷ xs) (suc i) d h failed = and_false (p x) (list_all p xs) (failed_at p xs i d (omega arith) failed)

pub passed_whole : {X : Type 0} (p : X → Bool) (xs : List X) (i : ℕ) → length xs ≤ i → list_all p (take i xs) ≡ true → list_all p xs ≡ true
passed_whole p xs i h so_far = ap (list_all p) (sym (take_all i xs h)) ∙ so_far

-- the first that is found
not_here : {X : Type 0} (p : X → Bool) (x : X) (xs : List X) → find p (x ∷ xs) ≡ None → (p x ≡ false) × (find p xs ≡ None)
not_here p x xs e = by (p x) refl e
  where
    by : (b : Bool) → p x ≡ b → cond b (Some x) (find p xs) ≡ None → (p x ≡ false) × (find p xs ≡ None)
    by true t e = absurd (cc)
    by false t e = (t, e)

not_here_again : {X : Type 0} (p : X → Bool) (x : X) (xs : List X) → p x ≡ false → find p xs ≡ None → find p (x ∷ xs) ≡ None
not_here_again p x xs t e = ap (λ b. cond b (Some x) (find p xs)) t ∙ e

pub found_at : {X : Type 0} (p : X → Bool) (xs : List X) (i : ℕ) (d : X) → i < length xs → find p (take i xs) ≡ None → p (get_or xs i d) ≡ true → find p xs ≡ Some (get_or xs i d)
found_at p [] i d h none here = absurd (omega arith)
found_at p (x ∷ xs) zero d h none here = ap (λ b. cond b (Some x) (find p xs)) here
found_at p (x ∷ xs) (suc i) d h none here =
    let parts = not_here p x (take i xs) none in
    ap (λ b. cond b (Some x) (find p xs)) parts.0 ∙ found_at p xs i d (omega arith) parts.1 here

pub none_more : {X : Type 0} (p : X → Bool) (xs : List X) (i : ℕ) (d : X) → i < length xs → find p (take i xs) ≡ None → p (get_or xs i d) ≡ false → find p (take (i + 1) xs) ≡ None
none_more {X} p xs i d h none here = ap (find p) (take_more xs i d h) ∙ after (take i xs) none
  where
    after : (ys : List X) → find p ys ≡ None → find p (ys ++ get_or xs i d ∷ []) ≡ None
    after [] e = not_here_again p (get_or xs i d) [] here refl
    after (y ∷ ys) e = let parts = not_here p y ys e in not_here_again p y (ys ++ get_or xs i d ∷ []) parts.0 (after ys parts.1)

pub none_whole : {X : Type 0} (p : X → Bool) (xs : List X) (i : ℕ) → length xs ≤ i → find p (take i xs) ≡ None → find p xs ≡ None
none_whole p xs i h none = ap (find p) (sym (take_all i xs h)) ∙ none
