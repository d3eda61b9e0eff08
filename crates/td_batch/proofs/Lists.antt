-- What holds of all elements of a list.
use Rattle.std.proofs.Common.{◌≡◌, ℕ, ◌==◌, Bool, true, false, ◌||◌, List, [], ◌∷◌, ◌++◌, map, refl, subst}
use Rattle.std.specs.List.{AllByRecursion, list_any}
use Rattle.std.proofs.lemmas.Bool.{eqb-true}

-- each of some numbers is among others
abbrev pub AreAmong : List ℕ → List ℕ → Type 0
AreAmong xs sources = AllByRecursion (λ s. list_any (λ x. x == s) xs ≡ true) sources

-- what holds of all holds of one that stands among them
pub pick : (P : ℕ → Type 0) (xs : List ℕ) (s : ℕ) → AllByRecursion P xs → list_any (λ x. x == s) xs ≡ true → P s
pick P [] s all found = cc
pick P (x ∷ xs) s all found = by (x == s) refl (pick P xs s all.1) found
  where
    by : (b : Bool) → (x == s) ≡ b → (list_any (λ y. y == s) xs ≡ true → P s) → (b || list_any (λ y. y == s) xs) ≡ true → P s
    by true e rest f = subst P (eqb-true x s e) all.0
    by false e rest f = rest f

pub all_append : (P : ℕ → Type 0) (xs ys : List ℕ) → AllByRecursion P xs → AllByRecursion P ys → AllByRecursion P (xs ++ ys)
all_append P [] ys p q = q
all_append P (x ∷ xs) ys p q = (p.0, all_append P xs ys p.1 q)

pub all_left : {X : Type 0} (P : X → Type 0) (xs ys : List X) → AllByRecursion P (xs ++ ys) → AllByRecursion P xs
all_left P [] ys h = tt
all_left P (x ∷ xs) ys h = (h.0, all_left P xs ys h.1)

pub all_right : {X : Type 0} (P : X → Type 0) (xs ys : List X) → AllByRecursion P (xs ++ ys) → AllByRecursion P ys
all_right P [] ys h = h
all_right P (x ∷ xs) ys h = all_right P xs ys h.1

pub all_map : (P Q : ℕ → Type 0) → ((x : ℕ) → P x → Q x) → (xs : List ℕ) → AllByRecursion P xs → AllByRecursion Q xs
all_map P Q f [] p = tt
all_map P Q f (x ∷ xs) p = (f x p.0, all_map P Q f xs p.1)

-- functions that agree on all elements give the same list
pub map_alike : {X : Type 0} (f g : ℕ → X) (xs : List ℕ) → AllByRecursion (λ x. f x ≡ g x) xs → map f xs ≡ map g xs
map_alike f g [] h = refl
map_alike f g (x ∷ xs) h = λ i. h.0 i ∷ map_alike f g xs h.1 i
