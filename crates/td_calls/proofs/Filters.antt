-- Filters of lists.
use Rattle.std.proofs.Common.{◌≡◌, List, [], ◌∷◌, map, filter, refl, ap, sym, ◌∙◌, Bool, true, false, ◌&&◌}
use Rattle.std.specs.List.{AllByRecursion}

pub filter_yes : {X : Type 0} (p : X → Bool) (x : X) (xs : List X) → p x ≡ true → filter p (x ∷ xs) ≡ x ∷ filter p xs
filter_yes p x xs e = rw (e, filter) refl

pub filter_no : {X : Type 0} (p : X → Bool) (x : X) (xs : List X) → p x ≡ false → filter p (x ∷ xs) ≡ filter p xs
filter_no p x xs e = rw (e, filter) refl

pub filter_all : {X : Type 0} (p : X → Bool) (xs : List X) → AllByRecursion (λ x. p x ≡ true) xs → filter p xs ≡ xs
filter_all p [] h = refl
filter_all p (x ∷ xs) h = filter_yes p x xs h.0 ∙ ap (λ l. x ∷ l) (filter_all p xs h.1)

pub all_filter : {X : Type 0} (P : X → Type 0) (p : X → Bool) (xs : List X) → AllByRecursion P xs → AllByRecursion P (filter p xs)
all_filter P p [] h = tt
all_filter P p (x ∷ xs) h = by (p x) refl (all_filter P p xs h.1)
  where
    by : (b : Bool) → p x ≡ b → AllByRecursion P (filter p xs) → AllByRecursion P (filter p (x ∷ xs))
    by true e rest = rw (filter_yes p x xs e) (h.0, rest)
    by false e rest = rw (filter_no p x xs e) rest

pub filter-filter : {X : Type 0} (p q : X → Bool) (xs : List X) → filter p (filter q xs) ≡ filter (λ x. q x && p x) xs
filter-filter p q [] = refl
filter-filter p q (x ∷ xs) = by (q x) refl (p x) refl (filter-filter p q xs)
  where
    both : (b c : Bool) → q x ≡ b → p x ≡ c → (q x && p x) ≡ (b && c)
    both b c e f = λ i. e i && f i

    by : (b : Bool) → q x ≡ b → (c : Bool) → p x ≡ c → filter p (filter q xs) ≡ filter (λ x. q x && p x) xs → filter p (filter q (x ∷ xs)) ≡ filter (λ x. q x && p x) (x ∷ xs)
    by true e true f rest = ap (filter p) (filter_yes q x xs e) ∙ filter_yes p x (filter q xs) f ∙ ap (λ l. x ∷ l) rest ∙ sym (filter_yes (λ x. q x && p x) x xs (both true true e f))
    by true e false f rest = ap (filter p) (filter_yes q x xs e) ∙ filter_no p x (filter q xs) f ∙ rest ∙ sym (filter_no (λ x. q x && p x) x xs (both true false e f))
    by false e c f rest = ap (filter p) (filter_no q x xs e) ∙ rest ∙ sym (filter_no (λ x. q x && p x) x xs (both false c e f))

pub filter-map : {X Y : Type 0} (p : Y → Bool) (f : X → Y) (xs : List X) → filter p (map f xs) ≡ map f (filter (λ x. p (f x)) xs)
filter-map p f [] = refl
filter-map p f (x ∷ xs) = by (p (f x)) refl (filter-map p f xs)
  where
    by : (b : Bool) → p (f x) ≡ b → filter p (map f xs) ≡ map f (filter (λ x. p (f x)) xs) → filter p (map f (x ∷ xs)) ≡ map f (filter (λ x. p (f x)) (x ∷ xs))
    by true e rest = filter_yes p (f x) (map f xs) e ∙ ap (λ l. f x ∷ l) rest ∙ ap (map f) (sym (filter_yes (λ x. p (f x)) x xs e))
    by false e rest = filter_no p (f x) (map f xs) e ∙ rest ∙ ap (map f) (sym (filter_no (λ x. p (f x)) x xs e))

-- what is made of the elements that pass a test
pub map_passed : {X Y : Type 0} (p : X → Bool) (f g : X → Y) → ((x : X) → p x ≡ true → f x ≡ g x) → (xs : List X) → map f (filter p xs) ≡ map g (filter p xs)
map_passed p f g h [] = refl
map_passed p f g h (x ∷ xs) = by (p x) refl (map_passed p f g h xs)
  where
    by : (b : Bool) → p x ≡ b → map f (filter p xs) ≡ map g (filter p xs) → map f (filter p (x ∷ xs)) ≡ map g (filter p (x ∷ xs))
    by true e rest = ap (map f) (filter_yes p x xs e) ∙ (λ i. h x e i ∷ rest i) ∙ ap (map g) (sym (filter_yes p x xs e))
    by false e rest = ap (map f) (filter_no p x xs e) ∙ rest ∙ ap (map g) (sym (filter_no p x xs e))
