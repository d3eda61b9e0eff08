-- The message at a place among all, by the number of its record.
use Rattle.std.proofs.Common.{◌≡◌, ℕ, zero, suc, ◌+◌, ◌<◌, ◌≤◌, ◌==◌, inl, inr, nat_lt, Bool, true, false, cond, List, [], ◌∷◌, ◌++◌, map, length, get_or, take, drop, refl, sym, ap, ◌∙◌, subst, arith, length-append, ◌-◌}
use Rattle.std.specs.List.{AllByRecursion}
use Rattle.std.proofs.lemmas.Bool.Decides.{nat_tests}
use Rattle.std.proofs.lemmas.List.{length-map}
use Rattle.td_machine.specs.declared.records.Message.{Message}
use Rattle.td_shard.specs.declared.runs.Lane.{Lane}
use Rattle.td_shard.specs.declared.runs.Numbered.{Numbered}
use Rattle.td_shard.specs.Order.{at_number, few, AreAscending}
use Rattle.td_shard.specs.Runs.{Part, message, on_lane, its, all_of, rank, FrontWaits, IsUpTo, IsOlder, AreGrouped}
use Rattle.td_shard.proofs.Numbers.{AreBelow, AreFrom, all_append, is_equal, is_other, at_append, none_at, few_append, few_all, few_from, from_earlier}

module _ {X : Type 0} where
  pub no_more : (n : ℕ) (xs : List (ℕ × X)) → few n xs ≤ length xs
  no_more n [] = omega arith
  no_more n (x ∷ xs) = by (nat_lt x.0 n) (no_more n xs)
    where
      by : (b : Bool) → few n xs ≤ length xs → cond b (suc (few n xs)) (few n xs) ≤ suc (length xs)
      by true l = omega (arith, l)
      by false l = omega (arith, l)

  pub few_none : (xs : List (ℕ × X)) → few 0 xs ≡ 0
  few_none [] = refl
  few_none (x ∷ xs) = by (nat_lt x.0 0) refl (few_none xs)
    where
      by : (b : Bool) → nat_lt x.0 0 ≡ b → few 0 xs ≡ 0 → cond b (suc (few 0 xs)) (few 0 xs) ≡ 0
      by true e rest = absurd (grind (arith, nat_tests, e))
      by false e rest = rest

  pub some_next : (n m : ℕ) (xs : List (ℕ × X)) → m < few n xs → 0 < n
  some_next zero m xs l = let none = few_none xs in absurd (omega (arith, l, none))
  some_next (suc n) m xs l = omega arith

-- IN A RUN
module _ (n : ℕ) (k : Lane) where
  abbrev tags : List Numbered → List (ℕ × Message)
  tags rs = map (on_lane k) rs

  lower : (r : Numbered) (rs : List Numbered) → r.number < n → few n (tags (r ∷ rs)) ≡ suc (few n (tags rs))
  lower r rs l = ap (λ b. cond b (suc (few n (tags rs))) (few n (tags rs))) (is (nat_lt r.number n) refl)
    where
      is : (b : Bool) → nat_lt r.number n ≡ b → nat_lt r.number n ≡ true
      is true e = e
      is false e = absurd (grind (arith, nat_tests, e, l))

  above : (r : Numbered) (rs : List Numbered) (m : ℕ) → m ≤ r.number → AllByRecursion (λ y. r.number < y.0) (tags rs) → AreFrom m (tags (r ∷ rs))
  above r rs m l h = (l, reach rs h)
    where
      reach : (zs : List Numbered) → AllByRecursion (λ y. r.number < y.0) (tags zs) → AreFrom m (tags zs)
      reach [] h = tt
      reach (z ∷ zs) h = let here = h.0 in (omega (arith, here, l), reach zs h.1)

  pub few_its : (rs : List Numbered) (i : ℕ) → AreAscending (tags rs) → AreBelow n (take i (tags rs)) → i ≤ length rs → (i < length rs → (d : Numbered) → n ≤ (get_or rs i d).number) → few n (tags rs) ≡ i
  few_its [] i a b l h = omega (arith, l)
  few_its (r ∷ rs) zero a b l h = few_from n (tags (r ∷ rs)) (above r rs n (h (omega arith) r) a.0)
  few_its (r ∷ rs) (suc i) a b l h = lower r rs b.0 ∙ ap suc (few_its rs i a.1 b.1 (omega (arith, l)) (λ m. h (omega (arith, m))))

  number_at : (rs : List Numbered) (m i : ℕ) (d : Numbered) → i < length rs → AllByRecursion (λ y. m < y.0) (tags rs) → m < (get_or rs i d).number
  number_at [] m i d l h = absurd (omega (arith, l))
  number_at (r ∷ rs) m zero d l h = h.0
  number_at (r ∷ rs) m (suc i) d l h = number_at rs m i d (omega (arith, l)) h.1

  -- with one all before it are below
  pub all_lower : (rs : List Numbered) (i : ℕ) → AreAscending (tags rs) → i < length rs → ((d : Numbered) → (get_or rs i d).number < n) → AreBelow n (take (i + 1) (tags rs))
  all_lower [] i a l h = absurd (omega (arith, l))
  all_lower (r ∷ rs) zero a l h = (h r, tt)
  all_lower (r ∷ rs) (suc i) a l h =
      let next : suc i + 1 ≡ suc (i + 1) = omega arith in
      let later = number_at rs r.number i r (omega (arith, l)) a.0 in
      let less = h r in
      subst (λ m. AreBelow n (take m (tags (r ∷ rs)))) (sym next) (omega (arith, later, less), all_lower rs i a.1 (omega (arith, l)) h)

  -- a number stands once in a run, or not at all
  after_it : (rs : List Numbered) (r : Numbered) → n ≤ r.number → AllByRecursion (λ y. r.number < y.0) (tags rs) → at_number n (tags rs) ≡ []
  after_it rs r l h = none_at n (n + 1) (tags rs) (omega arith) (reach rs h)
    where
      reach : (zs : List Numbered) → AllByRecursion (λ y. r.number < y.0) (tags zs) → AreFrom (n + 1) (tags zs)
      reach [] h = tt
      reach (z ∷ zs) h = let here = h.0 in (omega (arith, here, l), reach zs h.1)

  pub is_there : (rs : List Numbered) (i : ℕ) → AreAscending (tags rs) → few n (tags rs) ≡ i → i < length rs → ((d : Numbered) → (get_or rs i d).number ≡ n) → length (at_number n (tags rs)) ≡ 1
  is_there [] i a e l h = absurd (omega (arith, l))
  is_there (r ∷ rs) i a e l h = by (nat_lt r.number n) (r.number == n) refl refl i e l h (is_there rs)
    where
      by : (b c : Bool) → nat_lt r.number n ≡ b → (r.number == n) ≡ c → (j : ℕ) → cond b (suc (few n (tags rs))) (few n (tags rs)) ≡ j → j < suc (length rs) → ((d : Numbered) → (get_or (r ∷ rs) j d).number ≡ n)
          → ((m : ℕ) → AreAscending (tags rs) → few n (tags rs) ≡ m → m < length rs → ((d : Numbered) → (get_or rs m d).number ≡ n) → length (at_number n (tags rs)) ≡ 1)
          → length (cond c (message k r.rec ∷ at_number n (tags rs)) (at_number n (tags rs))) ≡ 1
      by true true f g j e l h rest = absurd (grind (arith, nat_tests, f, g))
      by true false f g zero e l h rest = absurd (omega (arith, e))
      by true false f g (suc j) e l h rest = rest j a.1 (omega (arith, e)) (omega (arith, l)) h
      by false true f g j e l h rest = let same = is_equal r.number n g in ap (λ xs. suc (length xs)) (after_it rs r (omega (arith, same)) a.0)
      by false false f g j e l h rest =
          let other = is_other r.number n g in
          let more : n ≤ r.number = grind (arith, nat_tests, f) in
          let none : few n (tags rs) ≡ 0 = few_from n (tags rs) (above r rs n more a.0).1 in
          absurd (other (subst (λ m. (get_or (r ∷ rs) m r).number ≡ n) (sym e ∙ none) (h r)))

  pub not_there : (rs : List Numbered) (i : ℕ) → AreAscending (tags rs) → few n (tags rs) ≡ i → (i < length rs → (d : Numbered) → (get_or rs i d).number ≡ n → ⊥) → length (at_number n (tags rs)) ≡ 0
  not_there [] i a e h = refl
  not_there (r ∷ rs) i a e h = by (nat_lt r.number n) (r.number == n) refl refl i e h (not_there rs)
    where
      by : (b c : Bool) → nat_lt r.number n ≡ b → (r.number == n) ≡ c → (j : ℕ) → cond b (suc (few n (tags rs))) (few n (tags rs)) ≡ j → (j < suc (length rs) → (d : Numbered) → (get_or (r ∷ rs) j d).number ≡ n → ⊥)
          → ((m : ℕ) → AreAscending (tags rs) → few n (tags rs) ≡ m → (m < length rs → (d : Numbered) → (get_or rs m d).number ≡ n → ⊥) → length (at_number n (tags rs)) ≡ 0)
          → length (cond c (message k r.rec ∷ at_number n (tags rs)) (at_number n (tags rs))) ≡ 0
      by true true f g j e h rest = absurd (grind (arith, nat_tests, f, g))
      by true false f g zero e h rest = absurd (omega (arith, e))
      by true false f g (suc j) e h rest = rest j a.1 (omega (arith, e)) (λ l d. h (omega (arith, l)) d)
      by false true f g j e h rest =
          let same = is_equal r.number n g in
          let none : few n (tags rs) ≡ 0 = few_from n (tags rs) (above r rs n (omega (arith, same)) a.0).1 in
          absurd (subst (λ m. m < suc (length rs) → (d : Numbered) → (get_or (r ∷ rs) m d).number ≡ n → ⊥) (sym e ∙ none) h (omega arith) r same)
      by false false f g j e h rest =
          let more : n ≤ r.number = grind (arith, nat_tests, f) in
          ap length (after_it rs r more a.0)

-- RUN BY RUN
module _ (n : ℕ) where
  pub few_next : (ps : List Part) (i : ℕ) (d : Part) → i < length ps → few n (all_of (take (i + 1) ps)) ≡ few n (all_of (take i ps)) + few n (its (get_or ps i d))
  few_next [] i d h = absurd (omega (arith, h))
  few_next (p ∷ ps) zero d h = few_append n (its p) [] ∙ omega arith
  few_next (p ∷ ps) (suc i) d h =
      let next : suc i + 1 ≡ suc (i + 1) = omega arith in
      let rest = few_next ps i d (omega (arith, h)) in
      let more = few_append n (its p) (all_of (take (i + 1) ps)) in
      let less = few_append n (its p) (all_of (take i ps)) in
      ap (λ m. few n (all_of (take m (p ∷ ps)))) next ∙ omega (arith, rest, more, less)

  pub few_within : (ps : List Part) (i : ℕ) → few n (all_of (take i ps)) ≤ few n (all_of ps)
  few_within ps zero = omega arith
  few_within [] (suc i) = omega arith
  few_within (p ∷ ps) (suc i) =
      let rest = few_within ps i in
      let more = few_append n (its p) (all_of ps) in
      let less = few_append n (its p) (all_of (take i ps)) in
      omega (arith, rest, more, less)

  pub at_next : (ps : List Part) (i : ℕ) (d : Part) → i < length ps → length (at_number n (all_of (take (i + 1) ps))) ≡ length (at_number n (all_of (take i ps))) + length (at_number n (its (get_or ps i d)))
  at_next [] i d h = absurd (omega (arith, h))
  at_next (p ∷ ps) zero d h = ap length (at_append n (its p) []) ∙ (length-append (at_number n (its p)) [] ∙ omega arith)
  at_next (p ∷ ps) (suc i) d h =
      let next : suc i + 1 ≡ suc (i + 1) = omega arith in
      let rest = at_next ps i d (omega (arith, h)) in
      let more = ap length (at_append n (its p) (all_of (take (i + 1) ps))) ∙ length-append (at_number n (its p)) (at_number n (all_of (take (i + 1) ps))) in
      let less = ap length (at_append n (its p) (all_of (take i ps))) ∙ length-append (at_number n (its p)) (at_number n (all_of (take i ps))) in
      ap (λ m. length (at_number n (all_of (take m (p ∷ ps))))) next ∙ omega (arith, rest, more, less)

  pub at_behind : (ps : List Part) (i : ℕ) (d : Part) → i < length ps → length (at_number n (all_of (drop i ps))) ≡ length (at_number n (its (get_or ps i d))) + length (at_number n (all_of (drop (i + 1) ps)))
  at_behind [] i d h = absurd (omega (arith, h))
  at_behind (p ∷ ps) zero d h = ap length (at_append n (its p) (all_of ps)) ∙ length-append (at_number n (its p)) (at_number n (all_of ps))
  at_behind (p ∷ ps) (suc i) d h = let next : suc i + 1 ≡ suc (i + 1) = omega arith in at_behind ps i d (omega (arith, h)) ∙ ap (λ m. length (at_number n (its (get_or ps i d))) + length (at_number n (all_of (drop m (p ∷ ps))))) (sym next)

  pub still_within : (ps : List Part) (i m : ℕ) → m < length (at_number n (all_of (drop i ps))) → i < length ps
  still_within [] zero m l = absurd (omega (arith, l))
  still_within [] (suc i) m l = absurd (omega (arith, l))
  still_within (p ∷ ps) zero m l = omega arith
  still_within (p ∷ ps) (suc i) m l = let rest = still_within ps i m l in omega (arith, rest)

-- THE FIRST MESSAGE
pub front_least : (k : Lane) (rs : List Numbered) (m : ℕ) → AreAscending (map (on_lane k) rs) → (0 < length rs → (d : Numbered) → m ≤ (get_or rs 0 d).number) → AreFrom m (map (on_lane k) rs)
front_least k [] m a h = tt
front_least k (r ∷ rs) m a h = above 0 k r rs m (h (omega arith) r) a.0

pub all_next : (P : ℕ × Message → Type 0) (ps : List Part) (i : ℕ) (d : Part) → i < length ps → AllByRecursion P (all_of (take i ps)) → AllByRecursion P (its (get_or ps i d)) → AllByRecursion P (all_of (take (i + 1) ps))
all_next P [] i d h a b = absurd (omega (arith, h))
all_next P (p ∷ ps) zero d h a b = all_append P (its p) [] b tt
all_next P (p ∷ ps) (suc i) d h a b =
    let next : suc i + 1 ≡ suc (i + 1) = omega arith in
    let both = parts (its p) a in
    subst (λ m. AllByRecursion P (all_of (take m (p ∷ ps)))) (sym next) (all_append P (its p) (all_of (take (i + 1) ps)) both.0 (all_next P ps i d (omega (arith, h)) both.1 b))
  where
    parts : (xs : List (ℕ × Message)) → AllByRecursion P (xs ++ all_of (take i ps)) → AllByRecursion P xs × AllByRecursion P (all_of (take i ps))
    parts [] h = (tt, h)
    parts (x ∷ xs) h = let rest = parts xs h.1 in ((h.0, rest.0), rest.1)

all_from : (m : ℕ) (k : Lane) (rs : List Numbered) → AllByRecursion (λ r. m ≤ r.number) rs → AreFrom m (map (on_lane k) rs)
all_from m k [] h = tt
all_from m k (r ∷ rs) h = (h.0, all_from m k rs h.1)

from_base : (m : ℕ) (q : Part) → m ≤ q.base → AllByRecursion (λ r. q.base ≤ r.number) q.recs → AreFrom m (its q)
from_base m q l h = from_earlier q.base m (its q) l (all_from q.base q.lane q.recs h)

-- runs of another base come after the first
older_of : (p q : Part) → (p.base ≡ q.base → ⊥) → IsUpTo q.base p → IsOlder q.base p
older_of p q other (inl e) = absurd (other e)
older_of p q other (inr h) = h

base_up : (p q : Part) → IsUpTo q.base p → p.base ≤ q.base
base_up p q (inl e) = omega (arith, e)
base_up p q (inr h) = let l = h.0 in omega (arith, l)

number_below : (m : ℕ) (rs : List Numbered) → 0 < length rs → AllByRecursion (λ r. r.number < m) rs → (d : Numbered) → (get_or rs 0 d).number < m
number_below m [] l h d = absurd (omega (arith, l))
number_below m (r ∷ rs) l h d = h.0

later_from : (p : Part) (d : Numbered) → 0 < length p.recs → (qs : List Part) → AllByRecursion (λ q. IsUpTo q.base p) qs → AllByRecursion (λ q. p.base < q.base) qs → AreGrouped qs → AreFrom (get_or p.recs 0 d).number (all_of qs)
later_from p d some [] u a g = tt
later_from p d some (q ∷ qs) u a g =
    let less = a.0 in
    let older = older_of p q (λ e. omega (arith, less, e)) u.0 in
    let low = number_below q.base p.recs some older.1 d in
    all_append (λ x. (get_or p.recs 0 d).number ≤ x.0) (its q) (all_of qs) (from_base (get_or p.recs 0 d).number q (omega (arith, low)) g.0) (later_from p d some qs u.1 a.1 g.2)

bases_up : (p q : Part) → p.base < q.base → (qs : List Part) → AllByRecursion (λ t. IsUpTo t.base q) qs → AllByRecursion (λ t. p.base < t.base) qs
bases_up p q l [] h = tt
bases_up p q l (t ∷ qs) h = let up = base_up q t h.0 in (omega (arith, l, up), bases_up p q l qs h.1)

other_base : (p : Part) (d : Numbered) → 0 < length p.recs → (qs : List Part) → AllByRecursion (λ q. IsUpTo q.base p) qs → AreGrouped qs → (0 < length qs → (e : Part) → p.base ≡ (get_or qs 0 e).base → ⊥) → AreFrom (get_or p.recs 0 d).number (all_of qs)
other_base p d some [] u g h = tt
other_base p d some (q ∷ qs) u g h =
    let older = older_of p q (h (omega arith) q) u.0 in
    later_from p d some (q ∷ qs) u (older.0, bases_up p q older.0 qs g.1) g

grouped_drop : (ps : List Part) (i : ℕ) → AreGrouped ps → AreGrouped (drop i ps)
grouped_drop ps zero g = g
grouped_drop [] (suc i) g = tt
grouped_drop (p ∷ ps) (suc i) g = grouped_drop ps i g.2

all_drop : (P : Part → Type 0) (ps : List Part) (i : ℕ) → AllByRecursion P ps → AllByRecursion P (drop i ps)
all_drop P ps zero h = h
all_drop P [] (suc i) h = tt
all_drop P (p ∷ ps) (suc i) h = all_drop P ps i h.1

up_to_it : (ps : List Part) (i j : ℕ) (d : Part) → i < j → j ≤ length ps → AreGrouped ps → AllByRecursion (λ q. IsUpTo q.base (get_or ps i d)) (drop j ps)
up_to_it [] i j d l h g = absurd (omega (arith, l, h))
up_to_it (p ∷ ps) i zero d l h g = absurd (omega (arith, l))
up_to_it (p ∷ ps) zero (suc j) d l h g = all_drop (λ q. IsUpTo q.base p) ps j g.1
up_to_it (p ∷ ps) (suc i) (suc j) d l h g = up_to_it ps i j d (omega (arith, l)) (omega (arith, h)) g.2

get_or-dropped : (ps : List Part) (j : ℕ) (e : Part) → get_or (drop j ps) 0 e ≡ get_or ps j e
get_or-dropped ps zero e = refl
get_or-dropped [] (suc j) e = refl
get_or-dropped (p ∷ ps) (suc j) e = get_or-dropped ps j e

length-dropped : (ps : List Part) (j : ℕ) → 0 < length (drop j ps) → j < length ps
length-dropped ps zero l = l
length-dropped [] (suc j) l = absurd (omega (arith, l))
length-dropped (p ∷ ps) (suc j) l = let rest = length-dropped ps j l in omega (arith, rest)

all_two : (P : ℕ × Message → Type 0) (ps : List Part) (j : ℕ) → AllByRecursion P (all_of (take j ps)) → AllByRecursion P (all_of (drop j ps)) → AllByRecursion P (all_of ps)
all_two P ps zero a b = b
all_two P [] (suc j) a b = tt
all_two P (p ∷ ps) (suc j) a b = let both = parts (its p) a in all_append P (its p) (all_of ps) both.0 (all_two P ps j both.1 b)
  where
    parts : (xs : List (ℕ × Message)) → AllByRecursion P (xs ++ all_of (take j ps)) → AllByRecursion P xs × AllByRecursion P (all_of (take j ps))
    parts [] h = (tt, h)
    parts (x ∷ xs) h = let rest = parts xs h.1 in ((h.0, rest.0), rest.1)

-- none stands before the first of the least number
pub none_before : (ps : List Part) (i j : ℕ) (p d : Part) (r : Numbered) → p ≡ get_or ps i d → i < j → j ≤ length ps → AreGrouped ps → 0 < length p.recs
    → AllByRecursion (λ x. (get_or p.recs 0 r).number < x.0) (all_of (take i ps)) → AreFrom (get_or p.recs 0 r).number (all_of (take j ps)) → (j < length ps → (e : Part) → p.base ≡ (get_or ps j e).base → ⊥)
    → rank ps i (get_or p.recs 0 r).number ≡ 0
none_before ps i j p d r at l h g some before all other =
    let n = (get_or p.recs 0 r).number in
    let behind = other_base p r some (drop j ps) (subst (λ (x : Part). AllByRecursion (λ q. IsUpTo q.base x) (drop j ps)) (sym at) (up_to_it ps i j d l h g)) (grouped_drop ps j g)
    (λ m e same. other (length-dropped ps j m) e (same ∙ ap (λ (x : Part). x.base) (get_or-dropped ps j e))) in
    let none = few_from n (all_of ps) (all_two (λ x. n ≤ x.0) ps j all behind) in
    let first : at_number n (all_of (take i ps)) ≡ [] = none_at n (n + 1) (all_of (take i ps)) (omega arith) (next (all_of (take i ps)) before) in
    omega (arith, none, ap length first)
  where
    next : (xs : List (ℕ × Message)) → AllByRecursion (λ x. (get_or p.recs 0 r).number < x.0) xs → AreFrom ((get_or p.recs 0 r).number + 1) xs
    next [] h = tt
    next (x ∷ xs) h = let here = h.0 in (omega (arith, here), next xs h.1)

pub front_waits : (ps : List Part) (d : Part) → 0 < length ps → FrontWaits ps → 0 < length (get_or ps 0 d).recs
front_waits [] d l f = absurd (omega (arith, l))
front_waits (p ∷ ps) d l f = f

-- or of the first run, where its number is the base of all
bases_from : (p : Part) (qs : List Part) → AllByRecursion (λ q. IsUpTo q.base p) qs → AreGrouped qs → AreFrom p.base (all_of qs)
bases_from p [] u g = tt
bases_from p (q ∷ qs) u g = all_append (λ x. p.base ≤ x.0) (its q) (all_of qs) (from_base p.base q (base_up p q u.0) g.0) (bases_from p qs u.1 g.2)

pub base_first : (ps : List Part) (d : Part) (r : Numbered) → 0 < length ps → AreGrouped ps → (get_or (get_or ps 0 d).recs 0 r).number ≡ (get_or ps 0 d).base → rank ps 0 (get_or (get_or ps 0 d).recs 0 r).number ≡ 0
base_first [] d r l g e = absurd (omega (arith, l))
base_first (p ∷ ps) d r l g e =
    let from = all_append (λ x. p.base ≤ x.0) (its p) (all_of ps) (from_base p.base p (omega arith) g.0) (bases_from p ps g.1 g.2) in
    let none = few_from p.base (all_of (p ∷ ps)) from in
    let same = ap (λ n. few n (all_of (p ∷ ps))) e in
    omega (arith, none, same)

-- FEWER below a lower number
few_up : (n : ℕ) (m : ℕ) (xs : List (ℕ × Message)) → few n xs ≤ few (n + m) xs
few_up n m [] = omega arith
few_up n m (x ∷ xs) = by (nat_lt x.0 n) (nat_lt x.0 (n + m)) refl refl (few_up n m xs)
  where
    by : (a b : Bool) → nat_lt x.0 n ≡ a → nat_lt x.0 (n + m) ≡ b → few n xs ≤ few (n + m) xs → cond a (suc (few n xs)) (few n xs) ≤ cond b (suc (few (n + m) xs)) (few (n + m) xs)
    by true true e f l = omega (arith, l)
    by true false e f l = absurd (grind (arith, nat_tests, e, f))
    by false true e f l = omega (arith, l)
    by false false e f l = l

pub few_ascend : (n m : ℕ) (xs : List (ℕ × Message)) → few n xs < few m xs → n < m
few_ascend n m xs l = by (nat_lt n m) refl
  where
    by : (b : Bool) → nat_lt n m ≡ b → n < m
    by true e = grind (arith, nat_tests, e)
    by false e =
        let up : m ≤ n = grind (arith, nat_tests, e) in
        let same : m + (n - m) ≡ n = omega (arith, up) in
        let fewer = few_up m (n - m) xs in
        let at = ap (λ k. few k xs) same in
        absurd (omega (arith, fewer, at, l))

-- A NEW GROUP begins behind what is below its base
two_parts : (n : ℕ) (ps : List Part) (i : ℕ) → few n (all_of ps) ≡ few n (all_of (take i ps)) + few n (all_of (drop i ps))
two_parts n ps zero = omega arith
two_parts n [] (suc i) = omega arith
two_parts n (p ∷ ps) (suc i) =
    let rest = two_parts n ps i in
    let all = few_append n (its p) (all_of ps) in
    let front = few_append n (its p) (all_of (take i ps)) in
    omega (arith, rest, all, front)

its_lower : (b : ℕ) (k : Lane) (rs : List Numbered) → AllByRecursion (λ r. r.number < b) rs → AreBelow b (map (on_lane k) rs)
its_lower b k [] h = tt
its_lower b k (r ∷ rs) h = (h.0, its_lower b k rs h.1)

up_to_at : (ps : List Part) (i j : ℕ) (d : Part) → i < j → j < length ps → AreGrouped ps → IsUpTo (get_or ps j d).base (get_or ps i d)
up_to_at ps i j d l h g = first (drop j ps) (get_or-dropped ps j d) (left ps j h) (up_to_it ps i j d l (omega (arith, h)) g)
  where
    left : (qs : List Part) (k : ℕ) → k < length qs → 0 < length (drop k qs)
    left [] k l = absurd (omega (arith, l))
    left (q ∷ qs) zero l = omega arith
    left (q ∷ qs) (suc k) l = left qs k (omega (arith, l))

    first : (qs : List Part) → get_or qs 0 d ≡ get_or ps j d → 0 < length qs → AllByRecursion (λ q. IsUpTo q.base (get_or ps i d)) qs → IsUpTo (get_or ps j d).base (get_or ps i d)
    first [] e l h = absurd (omega (arith, l))
    first (q ∷ qs) e l h = subst (λ (x : Part). IsUpTo x.base (get_or ps i d)) e h.0

-- runs before it are of lower numbers, where the last of them has another base
all_older : (ps : List Part) (place : ℕ) (d : Part) → place < length ps → AreGrouped ps → (0 < place → (get_or ps (place - 1) d).base < (get_or ps place d).base) → AreBelow (get_or ps place d).base (all_of (take place ps))
all_older [] place d l g h = absurd (omega (arith, l))
all_older (p ∷ ps) zero d l g h = tt
all_older (p ∷ ps) (suc i) d l g h =
    let b = (get_or ps i d).base in
    let up : IsUpTo b p = up_to_at (p ∷ ps) 0 (suc i) d (omega arith) l g in
    let lower : p.base < b = before i refl in
    let older = older_of p (get_or ps i d) (λ e. omega (arith, lower, e)) up in
    all_append (λ x. x.0 < b) (its p) (all_of (take i ps)) (its_lower b p.lane p.recs older.1) (all_older ps i d (omega (arith, l)) g.2 (later i refl))
  where
    before : (j : ℕ) → i ≡ j → p.base < (get_or ps i d).base
    before zero e = let now = h (omega arith) in subst (λ k. (get_or (p ∷ ps) k d).base < (get_or ps i d).base) (let z : suc i - 1 ≡ 0 = omega (arith, e) in z) now
    before (suc j) e =
        let now = h (omega arith) in
        let at : suc i - 1 ≡ suc j = omega (arith, e) in
        let last : (get_or ps j d).base < (get_or ps i d).base = subst (λ k. (get_or (p ∷ ps) k d).base < (get_or ps i d).base) at now in
        let up = base_up p (get_or ps j d) (up_to_at (p ∷ ps) 0 (suc j) d (omega arith) (omega (arith, l, e)) g) in
        omega (arith, up, last)

    later : (j : ℕ) → i ≡ j → 0 < i → (get_or ps (i - 1) d).base < (get_or ps i d).base
    later zero e some = absurd (omega (arith, e, some))
    later (suc j) e some =
        let now = h (omega arith) in
        let at : suc i - 1 ≡ suc j = omega (arith, e) in
        let here : i - 1 ≡ j = omega (arith, e) in
        subst (λ k. (get_or ps k d).base < (get_or ps i d).base) (sym here) (subst (λ k. (get_or (p ∷ ps) k d).base < (get_or ps i d).base) at now)

behind_from : (ps : List Part) (place : ℕ) (d : Part) → place < length ps → AreGrouped ps → AreFrom (get_or ps place d).base (all_of (drop place ps))
behind_from [] place d l g = absurd (omega (arith, l))
behind_from (p ∷ ps) zero d l g = all_append (λ x. p.base ≤ x.0) (its p) (all_of ps) (from_base p.base p (omega arith) g.0) (bases_from p ps g.1 g.2)
behind_from (p ∷ ps) (suc i) d l g = behind_from ps i d (omega (arith, l)) g.2

pub few_before : (ps : List Part) (place : ℕ) (d : Part) → place < length ps → AreGrouped ps → (0 < place → (get_or ps (place - 1) d).base ≡ (get_or ps place d).base → ⊥) → few (get_or ps place d).base (all_of ps) ≡ length (all_of (take place ps))
few_before ps place d l g other =
    let b = (get_or ps place d).base in
    let two = two_parts b ps place in
    let all = few_all b (all_of (take place ps)) (all_older ps place d l g less) in
    let none = few_from b (all_of (drop place ps)) (behind_from ps place d l g) in
    omega (arith, two, all, none)
  where
    less : 0 < place → (get_or ps (place - 1) d).base < (get_or ps place d).base
    less some = (older_of (get_or ps (place - 1) d) (get_or ps place d) (other some) (up_to_at ps (place - 1) place d (omega (arith, some)) l g)).0

-- HOW MANY wait in the runs before a place
pub all_more : (ps : List Part) (i : ℕ) (d : Part) → i < length ps → length (all_of (take (i + 1) ps)) ≡ length (all_of (take i ps)) + length (get_or ps i d).recs
all_more [] i d h = absurd (omega (arith, h))
all_more (p ∷ ps) zero d h = length-append (its p) [] ∙ omega (arith, length-map p.recs (on_lane p.lane))
all_more (p ∷ ps) (suc i) d h =
    let next : suc i + 1 ≡ suc (i + 1) = omega arith in
    let rest = all_more ps i d (omega (arith, h)) in
    let more = length-append (its p) (all_of (take (i + 1) ps)) in
    let less = length-append (its p) (all_of (take i ps)) in
    ap (λ m. length (all_of (take m (p ∷ ps)))) next ∙ omega (arith, rest, more, less)

pub all_within : (ps : List Part) (i : ℕ) → length (all_of (take i ps)) ≤ length (all_of ps)
all_within ps zero = omega arith
all_within [] (suc i) = omega arith
all_within (p ∷ ps) (suc i) =
    let rest = all_within ps i in
    let more = length-append (its p) (all_of ps) in
    let less = length-append (its p) (all_of (take i ps)) in
    omega (arith, rest, more, less)
