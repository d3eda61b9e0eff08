-- Numbered things in the order of their numbers, and those of one number as they stand.
use Rattle.std.proofs.Common.{◌≡◌, ℕ, zero, suc, ◌+◌, ◌-◌, ◌<◌, ◌≤◌, ◌==◌, Bool, true, false, cond, List, [], ◌∷◌, ◌++◌, map, filter, length, nat_lt, refl, sym, ap, ◌∙◌, subst, arith, append_assoc, append-nil, length-append}
use Rattle.std.specs.List.{AllByRecursion}
use Rattle.std.proofs.lemmas.Bool.Decides.{nat_tests}
use Rattle.std.proofs.lemmas.List.Elements.{filter-append}
use Rattle.td_shard.specs.Messages.{without_first}
use Rattle.td_shard.specs.Order.{at_number, below, few, most, in_order, AreAscending}

pub equal : (a b : ℕ) → a ≡ b → (a == b) ≡ true
equal a b e = grind (arith, nat_tests)

pub not_equal : (a b : ℕ) → (a ≡ b → ⊥) → (a == b) ≡ false
not_equal a b h = by (a == b) refl
  where
    by : (t : Bool) → (a == b) ≡ t → (a == b) ≡ false
    by true e = absurd (h (grind (arith, nat_tests)))
    by false e = e

pub is_equal : (a b : ℕ) → (a == b) ≡ true → a ≡ b
is_equal a b e = grind (arith, nat_tests)

pub is_other : (a b : ℕ) → (a == b) ≡ false → a ≡ b → ⊥
is_other a b e same = grind (arith, nat_tests)

module _ {X : Type 0} where
  -- all numbers are below one, or none is
  abbrev pub AreBelow : ℕ → List (ℕ × X) → Type 0
  AreBelow b xs = AllByRecursion (λ x. x.0 < b) xs

  abbrev pub AreFrom : ℕ → List (ℕ × X) → Type 0
  AreFrom b xs = AllByRecursion (λ x. b ≤ x.0) xs

  pub below_later : (b c : ℕ) (xs : List (ℕ × X)) → b ≤ c → AreBelow b xs → AreBelow c xs
  below_later b c [] l h = tt
  below_later b c (x ∷ xs) l h = let here = h.0 in (omega (arith, l, here), below_later b c xs l h.1)

  pub from_earlier : (b c : ℕ) (xs : List (ℕ × X)) → c ≤ b → AreFrom b xs → AreFrom c xs
  from_earlier b c [] l h = tt
  from_earlier b c (x ∷ xs) l h = let here = h.0 in (omega (arith, l, here), from_earlier b c xs l h.1)

  pub all_append : (P : ℕ × X → Type 0) (xs ys : List (ℕ × X)) → AllByRecursion P xs → AllByRecursion P ys → AllByRecursion P (xs ++ ys)
  all_append P [] ys h j = j
  all_append P (x ∷ xs) ys h j = (h.0, all_append P xs ys h.1 j)

  -- OF ONE NUMBER
  at_here : (n : ℕ) (x : ℕ × X) (xs : List (ℕ × X)) → x.0 ≡ n → at_number n (x ∷ xs) ≡ x.1 ∷ at_number n xs
  at_here n x xs e = ap (λ b. cond b (x.1 ∷ at_number n xs) (at_number n xs)) (equal x.0 n e)

  at_other : (n : ℕ) (x : ℕ × X) (xs : List (ℕ × X)) → (x.0 ≡ n → ⊥) → at_number n (x ∷ xs) ≡ at_number n xs
  at_other n x xs h = ap (λ b. cond b (x.1 ∷ at_number n xs) (at_number n xs)) (not_equal x.0 n h)

  pub at_append : (n : ℕ) (xs ys : List (ℕ × X)) → at_number n (xs ++ ys) ≡ at_number n xs ++ at_number n ys
  at_append n [] ys = refl
  at_append n (x ∷ xs) ys = by (x.0 == n) (at_append n xs ys)
    where
      by : (b : Bool) → at_number n (xs ++ ys) ≡ at_number n xs ++ at_number n ys
          → cond b (x.1 ∷ at_number n (xs ++ ys)) (at_number n (xs ++ ys)) ≡ cond b (x.1 ∷ at_number n xs) (at_number n xs) ++ at_number n ys
      by true rest = ap (λ l. x.1 ∷ l) rest
      by false rest = rest

  pub at_none : (n b : ℕ) (xs : List (ℕ × X)) → b ≤ n → AreBelow b xs → at_number n xs ≡ []
  at_none n b [] l h = refl
  at_none n b (x ∷ xs) l h = let here = h.0 in at_other n x xs (λ e. omega (arith, l, here, e)) ∙ at_none n b xs l h.1

  pub none_at : (n b : ℕ) (xs : List (ℕ × X)) → n < b → AreFrom b xs → at_number n xs ≡ []
  none_at n b [] l h = refl
  none_at n b (x ∷ xs) l h = let here = h.0 in at_other n x xs (λ e. omega (arith, l, here, e)) ∙ none_at n b xs l h.1

  at_filter : (n : ℕ) (p : X → Bool) (xs : List (ℕ × X)) → filter p (at_number n xs) ≡ at_number n (filter (λ x. p x.1) xs)
  at_filter n p [] = refl
  at_filter n p (x ∷ xs) = by (x.0 == n) (p x.1) refl refl (at_filter n p xs)
    where
      by : (b q : Bool) → (x.0 == n) ≡ b → p x.1 ≡ q → filter p (at_number n xs) ≡ at_number n (filter (λ x. p x.1) xs)
          → filter p (cond b (x.1 ∷ at_number n xs) (at_number n xs)) ≡ at_number n (cond q (x ∷ filter (λ x. p x.1) xs) (filter (λ x. p x.1) xs))
      by true true e f rest = ap (λ b. cond b (x.1 ∷ filter p (at_number n xs)) (filter p (at_number n xs))) f ∙ (ap (λ l. x.1 ∷ l) rest ∙ sym (at_here n x (filter (λ x. p x.1) xs) (is_equal x.0 n e)))
      by true false e f rest = ap (λ b. cond b (x.1 ∷ filter p (at_number n xs)) (filter p (at_number n xs))) f ∙ rest
      by false true e f rest = rest ∙ sym (at_other n x (filter (λ x. p x.1) xs) (is_other x.0 n e))
      by false false e f rest = rest

  -- BELOW A NUMBER
  pub nothing_below : (b : ℕ) → below {X = X} b [] ≡ []
  nothing_below zero = refl
  nothing_below (suc b) = ap (λ l. l ++ []) (nothing_below b)

  pub below_more : (b m : ℕ) (xs : List (ℕ × X)) → AreBelow b xs → below (b + m) xs ≡ below b xs
  below_more b zero xs h = let none : b + 0 ≡ b = omega arith in ap (λ n. below n xs) none
  below_more b (suc m) xs h =
      let next : b + suc m ≡ suc (b + m) = omega arith in
      ap (λ n. below n xs) next ∙ ((λ i. below_more b m xs h i ++ at_none (b + m) b xs (omega arith) h i) ∙ append-nil (below b xs))

  pub none_below : (b : ℕ) (xs : List (ℕ × X)) → AreFrom b xs → below b xs ≡ []
  none_below zero xs h = refl
  none_below (suc b) xs h = λ i. none_below b xs (from_earlier (suc b) b xs (omega arith) h) i ++ none_at b (suc b) xs (omega arith) h i

  pub same_below : (b c : ℕ) (xs : List (ℕ × X)) → AreBelow b xs → AreBelow c xs → below b xs ≡ below c xs
  same_below b c xs h j = let either : b + c ≡ c + b = omega arith in sym (below_more b c xs h) ∙ (ap (λ n. below n xs) either ∙ below_more c b xs j)

  pub most_below : (xs : List (ℕ × X)) → AreBelow (most xs) xs
  most_below [] = tt
  most_below (x ∷ xs) = (omega arith, below_later (most xs) (most (x ∷ xs)) xs (omega arith) (most_below xs))

  -- in order, by any number above all
  pub by_number : (b : ℕ) (xs : List (ℕ × X)) → AreBelow b xs → in_order xs ≡ below b xs
  by_number b xs h = same_below (most xs) b xs (most_below xs) h

  -- older ones come first
  pub older_first : (b m : ℕ) (xs ys : List (ℕ × X)) → AreBelow b xs → AreFrom b ys → below (b + m) (xs ++ ys) ≡ below b xs ++ below (b + m) ys
  older_first b zero xs ys h j =
      let none : b + 0 ≡ b = omega arith in
      ap (λ n. below n (xs ++ ys)) none ∙ (first b (omega arith) ∙ (sym (append-nil (below b xs)) ∙ ap (λ l. below b xs ++ l) (sym (ap (λ n. below n ys) none ∙ none_below b ys j))))
    where
      first : (n : ℕ) → n ≤ b → below n (xs ++ ys) ≡ below n xs
      first zero l = refl
      first (suc n) l =
          (λ i. first n (omega (arith, l)) i ++ at_append n xs ys i)
          ∙ ap (λ l. below n xs ++ l) (ap (λ l. at_number n xs ++ l) (none_at n b ys (omega (arith, l)) j) ∙ append-nil (at_number n xs))
  older_first b (suc m) xs ys h j =
      let next : b + suc m ≡ suc (b + m) = omega arith in
      ap (λ n. below n (xs ++ ys)) next
      ∙ ((λ i. older_first b m xs ys h j i ++ (at_append (b + m) xs ys ∙ ap (λ l. l ++ at_number (b + m) ys) (at_none (b + m) b xs (omega arith) h)) i)
      ∙ (append_assoc (below b xs) (below (b + m) ys) (at_number (b + m) ys) ∙ ap (λ n. below b xs ++ below n ys) (sym next)))

  -- THOSE THAT PASS A TEST
  pub below_filter : (b : ℕ) (p : X → Bool) (xs : List (ℕ × X)) → filter p (below b xs) ≡ below b (filter (λ x. p x.1) xs)
  below_filter zero p xs = refl
  below_filter (suc b) p xs = filter-append p (below b xs) (at_number b xs) ∙ (λ i. below_filter b p xs i ++ at_filter b p xs i)

  -- THE LEAST comes first, and where all ascend they are in order
  least_first : (b : ℕ) (x : ℕ × X) (xs : List (ℕ × X)) → AreFrom x.0 xs → x.0 < b → below b (x ∷ xs) ≡ x.1 ∷ below b xs
  least_first zero x xs h l = absurd (omega (arith, l))
  least_first (suc n) x xs h l = by (x.0 == n) refl (λ less. least_first n x xs h less)
    where
      by : (t : Bool) → (x.0 == n) ≡ t → (x.0 < n → below n (x ∷ xs) ≡ x.1 ∷ below n xs) → below (suc n) (x ∷ xs) ≡ x.1 ∷ below (suc n) xs
      by true e rest =
          let same = is_equal x.0 n e in
          let from : AreFrom n xs = subst (λ m. AreFrom m xs) same h in
          (λ i. none_below n (x ∷ xs) (omega (arith, same), from) i ++ at_here n x xs same i) ∙ ap (λ l. x.1 ∷ (l ++ at_number n xs)) (sym (none_below n xs from))
      by false e rest =
          let other = is_other x.0 n e in
          λ i. rest (omega (arith, l, other)) i ++ at_other n x xs other i

  pub ascending_below : (b : ℕ) (xs : List (ℕ × X)) → AreAscending xs → AreBelow b xs → below b xs ≡ map (λ x. x.1) xs
  ascending_below b [] a h = nothing_below b
  ascending_below b (x ∷ xs) a h = least_first b x xs (reach xs a.0) h.0 ∙ ap (λ l. x.1 ∷ l) (ascending_below b xs a.1 h.1)
    where
      reach : (ys : List (ℕ × X)) → AllByRecursion (λ y. x.0 < y.0) ys → AreFrom x.0 ys
      reach [] h = tt
      reach (y ∷ ys) h = let here = h.0 in (omega (arith, here), reach ys h.1)

  -- HOW MANY are below
  pub few_next : (n : ℕ) (xs : List (ℕ × X)) → few (suc n) xs ≡ few n xs + length (at_number n xs)
  few_next n [] = omega arith
  few_next n (x ∷ xs) = by (nat_lt x.0 n) (nat_lt x.0 (suc n)) (x.0 == n) refl refl refl (few_next n xs)
    where
      by : (a b c : Bool) → nat_lt x.0 n ≡ a → nat_lt x.0 (suc n) ≡ b → (x.0 == n) ≡ c → few (suc n) xs ≡ few n xs + length (at_number n xs)
          → cond b (suc (few (suc n) xs)) (few (suc n) xs) ≡ cond a (suc (few n xs)) (few n xs) + length (cond c (x.1 ∷ at_number n xs) (at_number n xs))
      by true true true e f g rest = absurd (grind (arith, nat_tests, e, g))
      by true true false e f g rest = omega (arith, rest)
      by true false c e f g rest = absurd (grind (arith, nat_tests, e, f))
      by false true true e f g rest = omega (arith, rest)
      by false true false e f g rest = absurd (grind (arith, nat_tests, e, f, g))
      by false false true e f g rest = absurd (grind (arith, nat_tests, f, g))
      by false false false e f g rest = omega (arith, rest)

  pub length-below : (b : ℕ) (xs : List (ℕ × X)) → length (below b xs) ≡ few b xs
  length-below zero xs = sym (none xs)
    where
      none : (ys : List (ℕ × X)) → few 0 ys ≡ 0
      none [] = refl
      none (y ∷ ys) = by (nat_lt y.0 0) refl (none ys)
        where
          by : (t : Bool) → nat_lt y.0 0 ≡ t → few 0 ys ≡ 0 → cond t (suc (few 0 ys)) (few 0 ys) ≡ 0
          by true e rest = absurd (grind (arith, nat_tests, e))
          by false e rest = rest
  length-below (suc b) xs = let all = length-append (below b xs) (at_number b xs) in let rest = length-below b xs in let next = few_next b xs in omega (arith, all, rest, next)

  pub few_from : (b : ℕ) (xs : List (ℕ × X)) → AreFrom b xs → few b xs ≡ 0
  few_from b xs h = sym (length-below b xs) ∙ ap length (none_below b xs h)

  pub few_all : (b : ℕ) (xs : List (ℕ × X)) → AreBelow b xs → few b xs ≡ length xs
  few_all b [] h = refl
  few_all b (x ∷ xs) h = by (nat_lt x.0 b) refl (few_all b xs h.1)
    where
      by : (t : Bool) → nat_lt x.0 b ≡ t → few b xs ≡ length xs → cond t (suc (few b xs)) (few b xs) ≡ suc (length xs)
      by true e rest = ap suc rest
      by false e rest = let here = h.0 in absurd (grind (arith, nat_tests, e, here))

  -- as many in order
  pub length-in_order : (xs : List (ℕ × X)) → length (in_order xs) ≡ length xs
  length-in_order xs = length-below (most xs) xs ∙ few_all (most xs) xs (most_below xs)

  pub few_append : (b : ℕ) (xs ys : List (ℕ × X)) → few b (xs ++ ys) ≡ few b xs + few b ys
  few_append b [] ys = omega arith
  few_append b (x ∷ xs) ys = by (nat_lt x.0 b) (few_append b xs ys)
    where
      by : (t : Bool) → few b (xs ++ ys) ≡ few b xs + few b ys → cond t (suc (few b (xs ++ ys))) (few b (xs ++ ys)) ≡ cond t (suc (few b xs)) (few b xs) + few b ys
      by true rest = omega (arith, rest)
      by false rest = rest

  -- ONE AMONG THE OTHERS stands behind those of lower numbers, and those of its own that stand before it
  abbrev pub before_it : List (ℕ × X) → ℕ × X → List (ℕ × X) → List X
  before_it xs x ys = below x.0 (xs ++ ys) ++ at_number x.0 xs

  pub record IsAmong (b : ℕ) (xs : List (ℕ × X)) (x : ℕ × X) (ys : List (ℕ × X)) : Type 0 where
    pub after : List X
    pub all : below b (xs ++ x ∷ ys) ≡ before_it xs x ys ++ x.1 ∷ after
    pub others : below b (xs ++ ys) ≡ before_it xs x ys ++ after

  not_yet : (n : ℕ) (xs : List (ℕ × X)) (x : ℕ × X) (ys : List (ℕ × X)) → n ≤ x.0 → below n (xs ++ x ∷ ys) ≡ below n (xs ++ ys)
  not_yet zero xs x ys l = refl
  not_yet (suc n) xs x ys l = λ i. not_yet n xs x ys (omega (arith, l)) i ++ (at_append n xs (x ∷ ys) ∙ (ap (λ l. at_number n xs ++ l) (at_other n x ys (λ e. omega (arith, l, e))) ∙ sym (at_append n xs ys))) i

  among_by : (m : ℕ) (xs : List (ℕ × X)) (x : ℕ × X) (ys : List (ℕ × X)) → IsAmong (suc (x.0 + m)) xs x ys
  among_by zero xs x ys =
      let here : x.0 + 0 ≡ x.0 = omega arith in
      let front = below x.0 (xs ++ ys) in
      subst (λ n. IsAmong (suc n) xs x ys) (sym here) (record {
        after = at_number x.0 ys;
        all = (λ i. not_yet x.0 xs x ys (omega arith) i ++ (at_append x.0 xs (x ∷ ys) ∙ ap (λ l. at_number x.0 xs ++ l) (at_here x.0 x ys refl)) i) ∙ sym (append_assoc front (at_number x.0 xs) (x.1 ∷ at_number x.0 ys));
        others = ap (λ l. front ++ l) (at_append x.0 xs ys) ∙ sym (append_assoc front (at_number x.0 xs) (at_number x.0 ys));
      })
  among_by (suc m) xs x ys =
      let was = among_by m xs x ys in
      let n = suc (x.0 + m) in
      let next : suc (x.0 + suc m) ≡ suc n = omega arith in
      let more = at_number n (xs ++ ys) in
      let same : at_number n (xs ++ x ∷ ys) ≡ more = at_append n xs (x ∷ ys) ∙ (ap (λ l. at_number n xs ++ l) (at_other n x ys (λ e. omega (arith, e))) ∙ sym (at_append n xs ys)) in
      subst (λ k. IsAmong k xs x ys) (sym next) (record {
        after = was.after ++ more;
        all = (λ i. was.all i ++ same i) ∙ append_assoc (before_it xs x ys) (x.1 ∷ was.after) more;
        others = ap (λ l. l ++ more) was.others ∙ append_assoc (before_it xs x ys) was.after more;
      })

  pub among : (b : ℕ) (xs : List (ℕ × X)) (x : ℕ × X) (ys : List (ℕ × X)) → x.0 < b → IsAmong b xs x ys
  among b xs x ys l = let to : suc (x.0 + (b - suc x.0)) ≡ b = omega (arith, l) in subst (λ k. IsAmong k xs x ys) to (among_by (b - suc x.0) xs x ys)

  -- THE FIRST n THAT PASS A TEST, where these ascend
  none_taken : (p : X → Bool) (n : ℕ) (xs : List X) → filter p xs ≡ [] → without_first p n xs ≡ xs
  none_taken p zero xs e = refl
  none_taken p (suc n) [] e = refl
  none_taken p (suc n) (x ∷ xs) e = by (p x) refl e (λ f. none_taken p (suc n) xs f)
    where
      by : (b : Bool) → p x ≡ b → cond b (x ∷ filter p xs) (filter p xs) ≡ [] → (filter p xs ≡ [] → without_first p (suc n) xs ≡ xs) → cond (p x) (without_first p n xs) (x ∷ without_first p (suc n) xs) ≡ x ∷ xs
      by true f e rest = absurd (cc)
      by false f e rest = ap (λ b. cond b (without_first p n xs) (x ∷ without_first p (suc n) xs)) f ∙ ap (λ l. x ∷ l) (rest e)

  taken_append : (p : X → Bool) (n : ℕ) (xs ys : List X) → without_first p n (xs ++ ys) ≡ without_first p n xs ++ without_first p (n - length (filter p xs)) ys
  taken_append p zero xs ys = let none : 0 - length (filter p xs) ≡ 0 = omega arith in ap (λ m. xs ++ without_first p m ys) (sym none)
  taken_append p (suc n) [] ys = let all : suc n - 0 ≡ suc n = omega arith in ap (λ m. without_first p m ys) (sym all)
  taken_append p (suc n) (x ∷ xs) ys = by (p x) (taken_append p n xs ys) (taken_append p (suc n) xs ys)
    where
      by : (b : Bool) → without_first p n (xs ++ ys) ≡ without_first p n xs ++ without_first p (n - length (filter p xs)) ys
          → without_first p (suc n) (xs ++ ys) ≡ without_first p (suc n) xs ++ without_first p (suc n - length (filter p xs)) ys
          → cond b (without_first p n (xs ++ ys)) (x ∷ without_first p (suc n) (xs ++ ys)) ≡ cond b (without_first p n xs) (x ∷ without_first p (suc n) xs) ++ without_first p (suc n - length (cond b (x ∷ filter p xs) (filter p xs))) ys
      by true less more = let one : suc n - suc (length (filter p xs)) ≡ n - length (filter p xs) = omega arith in less ∙ ap (λ m. without_first p n xs ++ without_first p m ys) (sym one)
      by false less more = ap (λ l. x ∷ l) more

  -- of one number those that are left
  left_at : (n s : ℕ) (p : X → Bool) (xs : List (ℕ × X)) → AreAscending (filter (λ x. p x.1) xs)
      → at_number s (without_first (λ x. p x.1) n xs) ≡ without_first p (n - few s (filter (λ x. p x.1) xs)) (at_number s xs)
  left_at zero s p xs a = let none : 0 - few s (filter (λ x. p x.1) xs) ≡ 0 = omega arith in ap (λ m. without_first p m (at_number s xs)) (sym none)
  left_at (suc n) s p [] a = sym (none_taken p (suc n - 0) [] refl)
  left_at (suc n) s p (x ∷ xs) a = by (p x.1) refl a (left_at n s p xs) (left_at (suc n) s p xs)
    where
      mine : List (ℕ × X)
      mine = filter (λ y. p y.1) xs

      here : (m : ℕ) → p x.1 ≡ false → without_first p m (x.1 ∷ at_number s xs) ≡ x.1 ∷ without_first p m (at_number s xs)
      here zero e = refl
      here (suc m) e = ap (λ b. cond b (without_first p m (at_number s xs)) (x.1 ∷ without_first p (suc m) (at_number s xs))) e

      reach : (ys : List (ℕ × X)) → AllByRecursion (λ y. x.0 < y.0) ys → (m : ℕ) → m ≤ suc x.0 → AreFrom m ys
      reach [] h m l = tt
      reach (y ∷ ys) h m l = let more = h.0 in (omega (arith, more, l), reach ys h.1 m l)

      by : (b : Bool) → p x.1 ≡ b → AreAscending (cond b (x ∷ mine) mine)
          → (AreAscending mine → at_number s (without_first (λ y. p y.1) n xs) ≡ without_first p (n - few s mine) (at_number s xs))
          → (AreAscending mine → at_number s (without_first (λ y. p y.1) (suc n) xs) ≡ without_first p (suc n - few s mine) (at_number s xs))
          → at_number s (cond b (without_first (λ y. p y.1) n xs) (x ∷ without_first (λ y. p y.1) (suc n) xs))
          ≡ without_first p (suc n - few s (cond b (x ∷ mine) mine)) (at_number s (x ∷ xs))
      by false e a less more = passed (x.0 == s) refl
        where
          passed : (c : Bool) → (x.0 == s) ≡ c → at_number s (x ∷ without_first (λ y. p y.1) (suc n) xs) ≡ without_first p (suc n - few s mine) (at_number s (x ∷ xs))
          passed true f =
              at_here s x (without_first (λ y. p y.1) (suc n) xs) (is_equal x.0 s f)
              ∙ (ap (λ l. x.1 ∷ l) (more a) ∙ (sym (here (suc n - few s mine) e) ∙ ap (without_first p (suc n - few s mine)) (sym (at_here s x xs (is_equal x.0 s f)))))
          passed false f =
              at_other s x (without_first (λ y. p y.1) (suc n) xs) (is_other x.0 s f) ∙ (more a ∙ ap (without_first p (suc n - few s mine)) (sym (at_other s x xs (is_other x.0 s f))))
      by true e a less more = passed (nat_lt x.0 s) (x.0 == s) refl refl
        where
          passed : (lower same : Bool) → nat_lt x.0 s ≡ lower → (x.0 == s) ≡ same
              → at_number s (without_first (λ y. p y.1) n xs) ≡ without_first p (suc n - cond lower (suc (few s mine)) (few s mine)) (at_number s (x ∷ xs))
          passed true true f g = absurd (grind (arith, nat_tests, f, g))
          passed true false f g =
              let one : suc n - suc (few s mine) ≡ n - few s mine = omega arith in
              less a.1 ∙ (ap (λ m. without_first p m (at_number s xs)) (sym one) ∙ ap (without_first p (suc n - suc (few s mine))) (sym (at_other s x xs (is_other x.0 s g))))
          passed false true f g =
              let equal = is_equal x.0 s g in
              let none = few_from s mine (reach mine a.0 s (omega (arith, equal))) in
              let all : n - few s mine ≡ n = omega (arith, none) in
              let more_all : suc n - few s mine ≡ suc n = omega (arith, none) in
              less a.1 ∙ (ap (λ m. without_first p m (at_number s xs)) all
              ∙ (sym (ap (λ b. cond b (without_first p n (at_number s xs)) (x.1 ∷ without_first p (suc n) (at_number s xs))) e)
              ∙ (ap (λ m. without_first p m (x.1 ∷ at_number s xs)) (sym more_all) ∙ ap (without_first p (suc n - few s mine)) (sym (at_here s x xs equal)))))
          passed false false f g =
              let other = is_other x.0 s g in
              let later : suc s ≤ suc x.0 = grind (arith, nat_tests, f, other) in
              let mine_later = reach mine a.0 (suc s) later in
              let none : filter p (at_number s xs) ≡ [] = at_filter s p xs ∙ none_at s (suc s) mine (omega arith) mine_later in
              less a.1 ∙ (none_taken p (n - few s mine) (at_number s xs) none
              ∙ (sym (none_taken p (suc n - few s mine) (at_number s xs) none) ∙ ap (without_first p (suc n - few s mine)) (sym (at_other s x xs other))))

  pub left_below : (b n : ℕ) (p : X → Bool) (xs : List (ℕ × X)) → AreAscending (filter (λ x. p x.1) xs) → below b (without_first (λ x. p x.1) n xs) ≡ without_first p n (below b xs)
  left_below zero n p xs a = sym (none_taken p n [] refl)
  left_below (suc b) n p xs a =
      let taken : length (filter p (below b xs)) ≡ few b (filter (λ x. p x.1) xs) = ap length (below_filter b p xs) ∙ length-below b (filter (λ x. p x.1) xs) in
      (λ i. left_below b n p xs a i ++ left_at n b p xs a i)
      ∙ (ap (λ m. without_first p n (below b xs) ++ without_first p (n - m) (at_number b xs)) (sym taken) ∙ sym (taken_append p n (below b xs) (at_number b xs)))

  pub below_left : (b n : ℕ) (p : ℕ × X → Bool) (xs : List (ℕ × X)) → AreBelow b xs → AreBelow b (without_first p n xs)
  below_left b zero p xs h = h
  below_left b (suc n) p [] h = tt
  below_left b (suc n) p (x ∷ xs) h = by (p x) (below_left b n p xs h.1) (below_left b (suc n) p xs h.1)
    where
      by : (t : Bool) → AreBelow b (without_first p n xs) → AreBelow b (without_first p (suc n) xs) → AreBelow b (cond t (without_first p n xs) (x ∷ without_first p (suc n) xs))
      by true less more = less
      by false less more = (h.0, more)
