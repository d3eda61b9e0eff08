-- Runs of a lane whose records are taken.
use Rattle.std.proofs.Common.{◌≡◌, ℕ, zero, suc, ◌+◌, ◌-◌, ◌<◌, ◌≤◌, Bool, true, false, cond, List, [], ◌∷◌, ◌++◌, length, get_or, take, drop, Option, Some, None, refl, sym, ap, ◌∙◌, subst, arith, append_assoc, ◌⊎◌, inl, inr, length-take, length-drop, length-append}
use Rattle.std.proofs.lemmas.List.{get_or-drop, take-append-drop, drop-drop, drop_more, length-map}
use Rattle.std.proofs.Math.Seq.{take-add}
use Rattle.std.specs.Option.{option_map, IsSome}
use Rattle.std.specs.Cmp.{IsEquivalence}
use Rattle.td_shard.specs.declared.runs.Numbered.{Numbered}
use Rattle.td_shard.specs.declared.runs.Lane.{Lane}
use Rattle.td_shard.specs.Runs.{Part, its, all_of, changed_at, without_front, ahead_of, last_by, first_on, last_on, AreLinked, taken_on, lane_recs}

-- any run
pub nothing : Part
nothing = record { lane = record { vertex = 0; port = 0; time = record { epoch = 0; turns = [] } }; base = 0; ahead = 0; recs = [] }

-- LISTS
module _ {X : Type 0} where
  -- the first n of two lists
  pub take-append : (n : ℕ) (xs ys : List X) → take n (xs ++ ys) ≡ take n xs ++ take (n - length xs) ys
  take-append zero xs ys = let none : zero - length xs ≡ zero = omega arith in ap (λ i. take i ys) (sym none)
  take-append (suc n) [] ys = let all : suc n - zero ≡ suc n = omega arith in ap (λ i. take i ys) (sym all)
  take-append (suc n) (x ∷ xs) ys =
      let fewer : suc n - suc (length xs) ≡ n - length xs = omega arith in
      ap (λ l. x ∷ l) (take-append n xs ys ∙ ap (λ i. take n xs ++ take i ys) (sym fewer))

  -- how many of a task of 64 are still to come
  pub still : (m : ℕ) (xs : List X) → m ≤ 64 → 64 - (m + length (take (64 - m) xs)) ≡ 64 - m - length xs
  still m xs h = omega (arith, h, length-take (64 - m) xs)

  pub full : (m : ℕ) (xs : List X) → m ≤ 64 → m + length (take (64 - m) xs) ≤ 64
  full m xs h = omega (arith, h, length-take (64 - m) xs)

pub length-its : (p : Part) → length (its p) ≡ length p.recs
length-its p = length-map p.recs _

-- A RUN THAT IS CHANGED
module _ (f : Part → Part) where
  pub length-changed_at : (i : ℕ) (ps : List Part) → length (changed_at f i ps) ≡ length ps
  length-changed_at i [] = refl
  length-changed_at zero (p ∷ ps) = refl
  length-changed_at (suc i) (p ∷ ps) = ap suc (length-changed_at i ps)

  pub changed_at-here : (i : ℕ) (ps : List Part) (d : Part) → i < length ps → get_or (changed_at f i ps) i d ≡ f (get_or ps i d)
  changed_at-here i [] d h = absurd (omega (arith, h))
  changed_at-here zero (p ∷ ps) d h = refl
  changed_at-here (suc i) (p ∷ ps) d h = changed_at-here i ps d (omega (arith, h))

  pub changed_at-apart : (i j : ℕ) (ps : List Part) (d : Part) → (j ≡ i → ⊥) → get_or (changed_at f i ps) j d ≡ get_or ps j d
  changed_at-apart i j [] d h = refl
  changed_at-apart zero zero (p ∷ ps) d h = absurd (h refl)
  changed_at-apart zero (suc j) (p ∷ ps) d h = refl
  changed_at-apart (suc i) zero (p ∷ ps) d h = refl
  changed_at-apart (suc i) (suc j) (p ∷ ps) d h = changed_at-apart i j ps d (λ e. h (ap suc e))

  pub drop-changed_at : (i : ℕ) (ps : List Part) → drop (suc i) (changed_at f i ps) ≡ drop (suc i) ps
  drop-changed_at i [] = refl
  drop-changed_at zero (p ∷ ps) = refl
  drop-changed_at (suc i) (p ∷ ps) = drop-changed_at i ps

  module _ (aheads : (p : Part) → (f p).ahead ≡ p.ahead) where
    pub changed_at-ahead : (i j : ℕ) (ps : List Part) (d : Part) → (get_or (changed_at f i ps) j d).ahead ≡ (get_or ps j d).ahead
    changed_at-ahead i j [] d = refl
    changed_at-ahead zero zero (p ∷ ps) d = aheads p
    changed_at-ahead zero (suc j) (p ∷ ps) d = refl
    changed_at-ahead (suc i) zero (p ∷ ps) d = refl
    changed_at-ahead (suc i) (suc j) (p ∷ ps) d = changed_at-ahead i j ps d

  module _ (lanes : (p : Part) → (f p).lane ≡ p.lane) where
    pub changed_at-lane : (i j : ℕ) (ps : List Part) (d : Part) → (get_or (changed_at f i ps) j d).lane ≡ (get_or ps j d).lane
    changed_at-lane i j [] d = refl
    changed_at-lane zero zero (p ∷ ps) d = lanes p
    changed_at-lane zero (suc j) (p ∷ ps) d = refl
    changed_at-lane (suc i) zero (p ∷ ps) d = refl
    changed_at-lane (suc i) (suc j) (p ∷ ps) d = changed_at-lane i j ps d

    module _ (same : Lane → Lane → Bool) where
      pub first-changed_at : (j : Lane) (i : ℕ) (ps : List Part) → first_on same j (changed_at f i ps) ≡ first_on same j ps
      first-changed_at j i [] = refl
      first-changed_at j zero (p ∷ ps) = ap (λ l. cond (same j l) (Some 0) (option_map suc (first_on same j ps))) (lanes p)
      first-changed_at j (suc i) (p ∷ ps) = ap (λ o. cond (same j p.lane) (Some 0) (option_map suc o)) (first-changed_at j i ps)

      pub last-changed_at : (j : Lane) (i : ℕ) (ps : List Part) → last_on same j (changed_at f i ps) ≡ last_on same j ps
      last-changed_at j i [] = refl
      last-changed_at j zero (p ∷ ps) = ap (λ l. last_by (same j l) (last_on same j ps)) (lanes p)
      last-changed_at j (suc i) (p ∷ ps) = ap (last_by (same j p.lane)) (last-changed_at j i ps)

      module _ (aheads : (p : Part) → (f p).ahead ≡ p.ahead) where
        pub linked-changed_at : (i : ℕ) (ps : List Part) → AreLinked same ps → AreLinked same (changed_at f i ps)
        linked-changed_at i [] h = h
        linked-changed_at zero (p ∷ ps) h = (aheads p ∙ (h.0 ∙ ap (λ l. ahead_of (first_on same l ps)) (sym (lanes p))), h.1)
        linked-changed_at (suc i) (p ∷ ps) h = (h.0 ∙ ap ahead_of (sym (first-changed_at p.lane i ps)), linked-changed_at i ps h.1)

-- with records of a run taken the messages are fewer by these
pub less : (n i : ℕ) (ps : List Part) (d : Part) → i < length ps → length (all_of (changed_at (without_front n) i ps)) + length (take n (get_or ps i d).recs) ≡ length (all_of ps)
less n i [] d h = absurd (omega (arith, h))
less n zero (p ∷ ps) d h =
    omega (arith, length-append (its p) (all_of ps), length-append (its (without_front n p)) (all_of ps), length-its p, length-its (without_front n p), length-take n p.recs, length-drop n p.recs)
less n (suc i) (p ∷ ps) d h =
    let rest = less n i ps d (omega (arith, h)) in
    omega (arith, rest, length-append (its p) (all_of ps), length-append (its p) (all_of (changed_at (without_front n) i ps)))

-- LANES
module _ (same : Lane → Lane → Bool) where
  -- a run knows the next of its lane
  linked-at : (i : ℕ) (ps : List Part) (s d : Part) → i < length ps → s ≡ get_or ps i d → AreLinked same ps → s.ahead ≡ ahead_of (first_on same s.lane (drop (suc i) ps))
  linked-at i [] s d h e l = absurd (omega (arith, h))
  linked-at zero (t ∷ ps) s d h e l = subst (λ (x : Part). x.ahead ≡ ahead_of (first_on same x.lane ps)) (sym e) l.0
  linked-at (suc i) (t ∷ ps) s d h e l = linked-at i ps s d (omega (arith, h)) e l.1

  is_first : (b : Bool) (o : Option ℕ) → cond b (Some 0) (option_map suc o) ≡ Some zero → b ≡ true
  is_first true o e = refl
  is_first false None e = absurd (cc)
  is_first false (Some i) e = absurd (cc)

  is_later : (b : Bool) (o : Option ℕ) (i : ℕ) → cond b (Some 0) (option_map suc o) ≡ Some (suc i) → (b ≡ false) × (o ≡ Some i)
  is_later true o i e = absurd (cc)
  is_later false None i e = absurd (cc)
  is_later false (Some j) i e = (refl, cc)

  is_none : (b : Bool) (o : Option ℕ) → cond b (Some 0) (option_map suc o) ≡ None → (b ≡ false) × (o ≡ None)
  is_none true o e = absurd (cc)
  is_none false None e = (refl, refl)
  is_none false (Some i) e = absurd (cc)

  module _ (k : Lane) where
    pub first-below : (ps : List Part) (i : ℕ) → first_on same k ps ≡ Some i → i < length ps
    first-below [] i e = absurd (cc)
    first-below (p ∷ ps) zero e = omega arith
    first-below (p ∷ ps) (suc i) e = let h = first-below ps i (is_later (same k p.lane) (first_on same k ps) i e).1 in omega (arith, h)

    pub first-same : (ps : List Part) (i : ℕ) (d : Part) → first_on same k ps ≡ Some i → same k (get_or ps i d).lane ≡ true
    first-same [] i d e = absurd (cc)
    first-same (p ∷ ps) zero d e = is_first (same k p.lane) (first_on same k ps) e
    first-same (p ∷ ps) (suc i) d e = first-same ps i d (is_later (same k p.lane) (first_on same k ps) i e).1

    passed_by : (n : ℕ) (p : Part) (ps : List Part) → same k p.lane ≡ false → taken_on same k n (p ∷ ps) ≡ p ∷ taken_on same k n ps
    passed_by n p ps e = ap (λ b. cond b (without_front n p ∷ taken_on same k (n - length p.recs) ps) (p ∷ taken_on same k n ps)) e

    no_record : (p : Part) (ps : List Part) → same k p.lane ≡ false → lane_recs same k (p ∷ ps) ≡ lane_recs same k ps
    no_record p ps e = ap (λ b. cond b (p.recs ++ lane_recs same k ps) (lane_recs same k ps)) e

    -- runs before the first of a lane are passed by
    pub skip : (n : ℕ) (ps : List Part) (i : ℕ) → first_on same k ps ≡ Some i → taken_on same k n ps ≡ take i ps ++ taken_on same k n (drop i ps)
    skip n [] i e = absurd (cc)
    skip n (p ∷ ps) zero e = refl
    skip n (p ∷ ps) (suc i) e =
        let w = is_later (same k p.lane) (first_on same k ps) i e in
        passed_by n p ps w.0 ∙ ap (λ l. p ∷ l) (skip n ps i w.1)

    pub skip-recs : (ps : List Part) (i : ℕ) → first_on same k ps ≡ Some i → lane_recs same k ps ≡ lane_recs same k (drop i ps)
    skip-recs [] i e = absurd (cc)
    skip-recs (p ∷ ps) zero e = refl
    skip-recs (p ∷ ps) (suc i) e =
        let w = is_later (same k p.lane) (first_on same k ps) i e in
        no_record p ps w.0 ∙ skip-recs ps i w.1

    skip_all : (n : ℕ) (ps : List Part) → first_on same k ps ≡ None → taken_on same k n ps ≡ ps
    skip_all n [] e = refl
    skip_all n (p ∷ ps) e =
        let w = is_none (same k p.lane) (first_on same k ps) e in
        passed_by n p ps w.0 ∙ ap (λ l. p ∷ l) (skip_all n ps w.1)

    pub skip_all-recs : (ps : List Part) → first_on same k ps ≡ None → lane_recs same k ps ≡ []
    skip_all-recs [] e = refl
    skip_all-recs (p ∷ ps) e =
        let w = is_none (same k p.lane) (first_on same k ps) e in
        no_record p ps w.0 ∙ skip_all-recs ps w.1

    none_taken-by : (p : Part) (ps : List Part) (b : Bool) → taken_on same k 0 ps ≡ ps → cond b (without_front 0 p ∷ taken_on same k (0 - length p.recs) ps) (p ∷ taken_on same k 0 ps) ≡ p ∷ ps
    none_taken-by p ps true e = let none : 0 - length p.recs ≡ 0 = omega arith in ap (λ n. p ∷ taken_on same k n ps) none ∙ ap (λ l. p ∷ l) e
    none_taken-by p ps false e = ap (λ l. p ∷ l) e

    none_taken : (ps : List Part) → taken_on same k 0 ps ≡ ps
    none_taken [] = refl
    none_taken (p ∷ ps) = none_taken-by p ps (same k p.lane) (none_taken ps)

    -- a run of the lane is visited: what is taken in the end stays the same
    pub visit : (n i : ℕ) (ps : List Part) (s d : Part) → i < length ps → s ≡ get_or ps i d → same k s.lane ≡ true
        → take i ps ++ taken_on same k n (drop i ps) ≡ take (suc i) (changed_at (without_front n) i ps) ++ taken_on same k (n - length s.recs) (drop (suc i) (changed_at (without_front n) i ps))
    visit n i [] s d h e f = absurd (omega (arith, h))
    visit n zero (t ∷ ps) s d h e f = subst (λ (x : Part). taken_on same k n (x ∷ ps) ≡ without_front n x ∷ taken_on same k (n - length s.recs) ps) e (ap (λ b. cond b (without_front n s ∷ taken_on same k (n - length s.recs) ps) (s ∷ taken_on same k n ps)) f)
    visit n (suc i) (t ∷ ps) s d h e f = ap (λ l. t ∷ l) (visit n i ps s d (omega (arith, h)) e f)

    pub visit-recs : (i : ℕ) (ps : List Part) (s d : Part) → i < length ps → s ≡ get_or ps i d → same k s.lane ≡ true → lane_recs same k (drop i ps) ≡ s.recs ++ lane_recs same k (drop (suc i) ps)
    visit-recs i [] s d h e f = absurd (omega (arith, h))
    visit-recs zero (t ∷ ps) s d h e f = subst (λ (x : Part). lane_recs same k (x ∷ ps) ≡ s.recs ++ lane_recs same k ps) e (ap (λ b. cond b (s.recs ++ lane_recs same k ps) (lane_recs same k ps)) f)
    visit-recs (suc i) (t ∷ ps) s d h e f = visit-recs i ps s d (omega (arith, h)) e f

module _ (same : Lane → Lane → Bool) (laws : IsEquivalence same) where
  first-congr : (j k : Lane) (ps : List Part) → same j k ≡ true → first_on same j ps ≡ first_on same k ps
  first-congr j k [] h = refl
  first-congr j k (p ∷ ps) h = rw (laws.congr j k p.lane h, first-congr j k ps h) refl

  -- the next run of a lane, from one of its runs
  pub record Moved (k : Lane) (ps : List Part) (p at : ℕ) : Type 0 where
    pub within : at < length ps
    pub on : (d : Part) → same k (get_or ps at d).lane ≡ true
    pub parts : (n : ℕ) → take (suc p) ps ++ taken_on same k n (drop (suc p) ps) ≡ take at ps ++ taken_on same k n (drop at ps)
    pub recs : lane_recs same k (drop (suc p) ps) ≡ lane_recs same k (drop at ps)

  moved-by : (k : Lane) (ps : List Part) (p at i : ℕ) → first_on same k (drop (suc p) ps) ≡ Some i → at ≡ suc p + i → Moved k ps p at
  moved-by k ps p at i e h =
      let below = first-below same k (drop (suc p) ps) i e in
      let dropped : drop i (drop (suc p) ps) ≡ drop at ps = drop-drop i (suc p) ps ∙ ap (λ n. drop n ps) (sym h) in record {
        within = omega (arith, below, length-drop (suc p) ps);
        on = λ d. ap (λ (s : Part). same k s.lane) (ap (λ n. get_or ps n d) h ∙ sym (get_or-drop (suc p) ps i d)) ∙ first-same same k (drop (suc p) ps) i d e;
        parts = λ n. ap (λ l. take (suc p) ps ++ l) (skip same k n (drop (suc p) ps) i e)
            ∙ (sym (append_assoc (take (suc p) ps) (take i (drop (suc p) ps)) (taken_on same k n (drop i (drop (suc p) ps))))
            ∙ (ap (λ l. l ++ taken_on same k n (drop i (drop (suc p) ps))) (sym (take-add (suc p) i ps) ∙ ap (λ m. take m ps) (sym h))
            ∙ ap (λ l. take at ps ++ taken_on same k n l) dropped));
        recs = skip-recs same k (drop (suc p) ps) i e ∙ ap (lane_recs same k) dropped;
      }

  some_ahead : (o : Option ℕ) (a : ℕ) → a ≡ ahead_of o → 0 < a → (i : ℕ) × (o ≡ Some i) × (a ≡ suc i)
  some_ahead None a e h = absurd (omega (arith, e, h))
  some_ahead (Some i) a e h = (i, refl, e)

  none_ahead : (o : Option ℕ) (a : ℕ) → a ≡ ahead_of o → a ≡ 0 → o ≡ None
  none_ahead None a e h = refl
  none_ahead (Some i) a e h = absurd (omega (arith, e, h))

  pub moved : (k : Lane) (ps : List Part) (p a : ℕ) → a ≡ ahead_of (first_on same k (drop (suc p) ps)) → 0 < a → Moved k ps p (p + a)
  moved k ps p a e h = let w = some_ahead (first_on same k (drop (suc p) ps)) a e h in moved-by k ps p (p + a) w.0 w.1 (omega (arith, w.2))

  -- the end of a lane, or of the task
  pub ended : (k : Lane) (ps : List Part) (p a n : ℕ) → a ≡ ahead_of (first_on same k (drop (suc p) ps)) → (a ≡ 0) ⊎ (n ≡ 0) → (take (suc p) ps ++ taken_on same k n (drop (suc p) ps) ≡ ps) × (take n (lane_recs same k (drop (suc p) ps)) ≡ [])
  ended k ps p a n e (inl h) =
      let none = none_ahead (first_on same k (drop (suc p) ps)) a e h in
      (ap (λ l. take (suc p) ps ++ l) (skip_all same k n (drop (suc p) ps) none) ∙ take-append-drop (suc p) ps, ap (take n) (skip_all-recs same k (drop (suc p) ps) none) ∙ take-none n)
    where
      take-none : (n : ℕ) → ◌≡◌ {A = List Numbered} (take n []) []
      take-none zero = refl
      take-none (suc n) = refl
  ended k ps p a n e (inr h) = (
    ap (λ m. take (suc p) ps ++ taken_on same k m (drop (suc p) ps)) h ∙ (ap (λ l. take (suc p) ps ++ l) (none_taken same k (drop (suc p) ps)) ∙ take-append-drop (suc p) ps),
    ap (λ m. take m (lane_recs same k (drop (suc p) ps))) h,
  )

  -- after a run of the lane was visited, it is known how far ahead the next is
  pub next_ahead : (f : Part → Part) (k : Lane) (ps : List Part) (at : ℕ) (s d : Part) → at < length ps → s ≡ get_or ps at d → same k s.lane ≡ true → AreLinked same ps → s.ahead ≡ ahead_of (first_on same k (drop (suc at) (changed_at f at ps)))
  next_ahead f k ps at s d h e g l =
      linked-at same at ps s d h e l ∙ ap ahead_of (first-congr s.lane k (drop (suc at) ps) (laws.symm s.lane k ∙ g) ∙ ap (first_on same k) (sym (drop-changed_at f at ps)))

-- THE FIRST RUN OF A LANE
module _ (same : Lane → Lane → Bool) (k : Lane) where
  -- the first of a lane is not here, but further on
  pub not_here : (ps : List Part) (p : ℕ) (s d : Part) → p < length ps → s ≡ get_or ps p d → same k s.lane ≡ false → option_map (λ i. p + i) (first_on same k (drop p ps)) ≡ option_map (λ i. p + 1 + i) (first_on same k (drop (p + 1) ps))
  not_here ps p s d h e f =
      ap (λ l. option_map (λ i. p + i) (first_on same k l)) (drop_more ps p d h)
      ∙ (ap (λ b. option_map (λ i. p + i) (cond b (Some 0) (option_map suc (first_on same k (drop (p + 1) ps))))) (ap (λ (t : Part). same k t.lane) (sym e) ∙ f)
      ∙ shifted (first_on same k (drop (p + 1) ps)))
    where
      shifted : (o : Option ℕ) → option_map (λ i. p + i) (option_map suc o) ≡ option_map (λ i. p + 1 + i) o
      shifted None = refl
      shifted (Some i) = ap Some (omega arith)

  -- the first of a lane is here
  pub is_here : (ps : List Part) (p : ℕ) (s d : Part) → p < length ps → s ≡ get_or ps p d → same k s.lane ≡ true → option_map (λ i. p + i) (first_on same k (drop p ps)) ≡ Some p
  is_here ps p s d h e f =
      ap (λ l. option_map (λ i. p + i) (first_on same k l)) (drop_more ps p d h)
      ∙ (ap (λ b. option_map (λ i. p + i) (cond b (Some 0) (option_map suc (first_on same k (drop (p + 1) ps))))) (ap (λ (t : Part). same k t.lane) (sym e) ∙ f)
      ∙ ap Some (omega arith))

  not_past-drop : (p : ℕ) (ps : List Part) (n : ℕ) → first_on same k (drop p ps) ≡ Some n → p < length ps
  not_past-drop zero [] n e = absurd (cc)
  not_past-drop (suc p) [] n e = absurd (cc)
  not_past-drop zero (s ∷ ps) n e = omega arith
  not_past-drop (suc p) (s ∷ ps) n e = let h = not_past-drop p ps n e in omega (arith, h)

  not_past-by : (p : ℕ) (ps : List Part) (o : Option ℕ) → first_on same k (drop p ps) ≡ o → IsSome (option_map (λ i. p + i) o) → p < length ps
  not_past-by p ps None e h = absurd (cc)
  not_past-by p ps (Some n) e h = not_past-drop p ps n e

  -- where the first is still to come, the place is within the runs
  pub not_past : (p : ℕ) (ps : List Part) → IsSome (first_on same k ps) → first_on same k ps ≡ option_map (λ i. p + i) (first_on same k (drop p ps)) → p < length ps
  not_past p ps h e = not_past-by p ps (first_on same k (drop p ps)) refl (subst IsSome e h)
