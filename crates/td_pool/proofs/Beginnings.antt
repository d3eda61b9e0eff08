-- Beginnings of one list, and the last of a list.
use Rattle.std.proofs.Common.{◌≡◌, ℕ, suc, ◌≤◌, List, [], ◌∷◌, ◌++◌, length, refl, ap, sym, arith}
use mathlib.Core.List.{IsPrefix}
use Rattle.td_machine.specs.State.{HallState}
use Rattle.td_pool.specs.Courses.{last_after, last_of}

-- of two beginnings of one list the shorter begins the longer
pub shorter : {A : Type 0} (xs ys zs : List A) → IsPrefix xs zs → IsPrefix ys zs → length xs ≤ length ys → IsPrefix xs ys
shorter [] ys zs p q le = (ys, refl)
shorter (x ∷ xs) [] zs p q le = absurd (omega arith)
shorter (x ∷ xs) (y ∷ ys) [] p q le = absurd (cc (p.1))
shorter (x ∷ xs) (y ∷ ys) (z ∷ zs) p q le =
    let heads : x ≡ y = cc (p.1, q.1) in
    let rest = shorter xs ys zs (p.0, cc (p.1)) (q.0, cc (q.1)) (omega arith) in
    (rest.0, cc (heads, rest.1))

-- a beginning as long as the whole is the whole
pub whole : {A : Type 0} (xs ys : List A) → IsPrefix xs ys → length ys ≤ length xs → xs ≡ ys
whole [] [] p le = refl
whole [] (y ∷ ys) p le = absurd (omega arith)
whole (x ∷ xs) [] p le = absurd (cc (p.1))
whole (x ∷ xs) (y ∷ ys) p le =
    let rest = whole xs ys (p.0, cc (p.1)) (omega arith) in cc (p.1, rest)

-- two beginnings of one list that are as long are the same
pub same : {A : Type 0} (xs ys zs : List A) → IsPrefix xs zs → IsPrefix ys zs → length xs ≡ length ys → xs ≡ ys
same xs ys zs p q e = whole xs ys (shorter xs ys zs p q (omega (arith, e))) (omega (arith, e))

-- the last of a list is what was added to it
last_added : (S T : HallState) (log : List HallState) → last_after S (log ++ T ∷ []) ≡ T
last_added S T [] = refl
last_added S T (U ∷ rest) = last_added U T rest

pub last_is : (T : HallState) (log : List HallState) → last_of (log ++ T ∷ []) ≡ T
last_is T log = last_added _ T log
