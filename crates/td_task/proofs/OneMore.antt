-- What the members of a list give so far, and what one more of them gives.
use Rattle.std.proofs.Common.{◌≡◌, ℕ, zero, suc, ◌+◌, ◌<◌, ◌≤◌, List, [], ◌∷◌, ◌++◌, length, get_or, map, take, ap, sym, ◌∙◌, arith}
use Rattle.std.specs.Prelude.{slice_get, Some, None}

one_more_suc : {X Y : Type 0} (f : X → Y) (xs : List X) (i : ℕ) (x : X) → slice_get xs i ≡ Some x → map f (take (suc i) xs) ≡ map f (take i xs) ++ f x ∷ []
one_more_suc f [] i x e = absurd (cc)
one_more_suc f (y ∷ ys) zero x e = let k : y ≡ x = cc in ap (λ z. f z ∷ []) k
one_more_suc f (y ∷ ys) (suc i) x e = ap (λ l. f y ∷ l) (one_more_suc f ys i x e)

pub one_more : {X Y : Type 0} (f : X → Y) (xs : List X) (i : ℕ) (x : X) → slice_get xs i ≡ Some x → map f (take (i + 1) xs) ≡ map f (take i xs) ++ f x ∷ []
one_more f xs i x e = let k : i + 1 ≡ suc i = omega arith in ap (λ n. map f (take n xs)) k ∙ one_more_suc f xs i x e

-- the member at a place, and none past the end
pub some_at : {X : Type 0} (xs : List X) (i : ℕ) (x : X) → i < length xs → x ≡ get_or xs i x → slice_get xs i ≡ Some x
some_at [] i x h e = absurd (omega arith)
some_at (y ∷ ys) zero x h e = ap Some (sym e)
some_at (y ∷ ys) (suc i) x h e = some_at ys i x (omega arith) e

pub none_past : {X : Type 0} (xs : List X) (i : ℕ) → slice_get xs i ≡ None → length xs ≤ i
none_past [] i e = omega arith
none_past (y ∷ ys) zero e = absurd (cc)
none_past (y ∷ ys) (suc i) e = let k : length ys ≤ i = none_past ys i e in omega arith

pub one_more_at : {X Y : Type 0} (f : X → Y) (xs : List X) (i : ℕ) (x : X) → Some x ≡ slice_get xs i → map f (take i xs) ++ f x ∷ [] ≡ map f (take (i + 1) xs)
one_more_at f xs i x e = sym (one_more f xs i x (sym e))
