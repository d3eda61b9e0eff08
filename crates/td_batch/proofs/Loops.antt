-- The turns of a loop, one after the other, until nothing comes back.
use Rattle.std.proofs.Common.{◌≡◌, ℕ, zero, suc, ◌+◌, ◌<◌, ◌≤◌, ◌==◌, ◌||◌, Bool, true, false, List, [], ◌∷◌, ◌++◌, map, flat_map, take, drop, replicate, length, Option, Some, None, refl, ap, sym, ◌∙◌, subst, arith, length-append, append-nil, eq-eqb, eqb-true, inl, inr}
use Rattle.std.specs.List.{AllByRecursion, list_any}
use Rattle.std.specs.Prelude.{is_none, ◌⊎◌}
use Rattle.std.proofs.lemmas.List.{append_assoc, get_or_append_left}
use Rattle.td_stamp.specs.declared.values.Rec.{Rec}
use Rattle.td_stamp.specs.Orders.{rec_cmp}
use Rattle.td_stamp.specs.Bag.{bag_of}
use Rattle.td_plan.specs.Tree.{Nodes, size}
use Rattle.td_batch.specs.Meaning.{EpochInput, Bags, emitted, returned, turn, turns, over_turns}
use Rattle.td_batch.specs.Quiet.{fed_back, entered_from, IsLoopBody, NothingReturns}
use Rattle.td_batch.specs.Steps.Tree.{reads, AreAlike}
use Rattle.td_batch.proofs.Lists.{all_left, all_right, all_map}
use Rattle.td_batch.proofs.Turns.{emitted-over_turns, length-over_turns, turn_keeps}
use Rattle.td_batch.proofs.Quiet.{past_end, nothing_yet, quiet_later, body_range, fed_back_in}
use Rattle.td_batch.proofs.Alike.{SameTurn, alike_same, alike_then, turn_alike}

-- all of a list are in it
all_more : (P Q : ℕ → Type 0) (xs : List ℕ) → ((x : ℕ) → P x → Q x) → AllByRecursion P xs → AllByRecursion Q xs
all_more P Q xs f h = all_map P Q f xs h

or_right : (a b : Bool) → b ≡ true → (a || b) ≡ true
or_right true b e = refl
or_right false b e = e

pub members : (xs : List ℕ) → AllByRecursion (λ s. list_any (λ x. x == s) xs ≡ true) xs
members [] = tt
members (x ∷ xs) = (
  ap (λ b. b || list_any (λ y. y == x) xs) (eq-eqb x x refl),
  all_map (λ s. list_any (λ y. y == s) xs ≡ true) (λ s. list_any (λ y. y == s) (x ∷ xs) ≡ true) (λ s e. or_right (x == s) (list_any (λ y. y == s) xs) e) xs (members xs),
)

zip : (P Q R : ℕ → Type 0) (xs : List ℕ) → ((x : ℕ) → P x → Q x → R x) → AllByRecursion P xs → AllByRecursion Q xs → AllByRecursion R xs
zip P Q R [] f p q = tt
zip P Q R (x ∷ xs) f p q = (f x p.0 q.0, zip P Q R xs f p.1 q.1)

blank : (n s : ℕ) → emitted (replicate n [] ++ []) s ≡ []
blank zero s = refl
blank (suc n) zero = refl
blank (suc n) (suc s) = blank n s

-- the bags of a turn without those before the loop
emitted_drop : (n : ℕ) (bags : Bags) (s : ℕ) → n ≤ s → emitted (replicate n [] ++ drop n bags) s ≡ emitted bags s
emitted_drop zero bags s h = refl
emitted_drop (suc n) bags zero h = absurd (omega arith)
emitted_drop (suc n) [] (suc s) h = blank n s
emitted_drop (suc n) (b ∷ bags) (suc s) h = emitted_drop n bags s (omega arith)

emitted_after : (n : ℕ) (bags : Bags) (i : ℕ) → emitted (drop n bags) i ≡ emitted bags (n + i)
emitted_after zero bags i = ap (emitted bags) (let e : i ≡ 0 + i = omega arith in e)
emitted_after (suc n) [] i = refl
emitted_after (suc n) (b ∷ bags) i = emitted_after n bags i ∙ ap (emitted (b ∷ bags)) (let e : suc (n + i) ≡ suc n + i = omega arith in e)

emitted_past : (xs ys : Bags) (i s : ℕ) → s ≡ length xs + i → emitted (xs ++ ys) s ≡ emitted ys i
emitted_past [] ys i s e = let f : s ≡ 0 + i = e in let r : s ≡ i = omega (arith, f) in ap (emitted ys) r
emitted_past (x ∷ xs) ys i zero e = absurd (omega (arith, e))
emitted_past (x ∷ xs) ys i (suc s) e = emitted_past xs ys i s (omega (arith, e))

emitted_take : (n : ℕ) (bags : Bags) (s : ℕ) → s < n → emitted (take n bags) s ≡ emitted bags s
emitted_take zero bags s h = absurd (omega arith)
emitted_take (suc n) [] s h = refl
emitted_take (suc n) (b ∷ bags) zero h = refl
emitted_take (suc n) (b ∷ bags) (suc s) h = emitted_take n bags s (omega arith)

taken_length : (n : ℕ) (bags : Bags) → n ≤ length bags → length (take n bags) ≡ n
taken_length zero bags h = refl
taken_length (suc n) [] h = absurd (omega arith)
taken_length (suc n) (b ∷ bags) h = ap suc (taken_length n bags (omega arith))

dropped_length : (n m : ℕ) (bags : Bags) → length bags ≡ n + m → length (drop n bags) ≡ m
dropped_length zero m bags h = let e : length bags ≡ 0 + m = h in omega (arith, e)
dropped_length (suc n) m [] h = absurd (omega (arith, h))
dropped_length (suc n) m (b ∷ bags) h = dropped_length n m bags (let e : suc (length bags) ≡ suc n + m = h in omega (arith, e))

emitted_map : (bags : Bags) (i : ℕ) → i < length bags → emitted (map (bag_of rec_cmp) bags) i ≡ bag_of rec_cmp (emitted bags i)
emitted_map [] i h = absurd (omega arith)
emitted_map (b ∷ bags) zero h = refl
emitted_map (b ∷ bags) (suc i) h = emitted_map bags i (omega arith)

mapped_length : (bags : Bags) → length (map (bag_of rec_cmp) bags) ≡ length bags
mapped_length [] = refl
mapped_length (b ∷ bags) = ap suc (mapped_length bags)

module _ (epoch : EpochInput) (body : Nodes) (rest_reads : List ℕ) (start : Bags) where
  -- those that are read after the loop are `rest_reads`
  abbrev pub inside : List ℕ
  inside = rest_reads ++ (fed_back body ++ reads false body)

  abbrev pub step : Option Bags → Bags
  step earlier = turn epoch body earlier start

  -- what is collected of a vertex, with what the turns that are left bring, is what all turns bring
  abbrev pub IsTold : ℕ → Bags → ℕ → Option Bags → ℕ → Type 0
  IsTold bound collected left exact s =
      (i : ℕ) → s ≡ length start + i → emitted collected i ++ flat_map (λ bs. emitted bs s) (turns step left exact) ≡ flat_map (λ bs. emitted bs s) (turns step bound None)

  -- The bags outside the loop, those of the turn before, and what is collected, with so many turns left; `exact` are all
  -- bags of the turn before
  pub record Rounding (bound : ℕ) (bags : Bags) (before : Option Bags) (collected : Bags) (left : ℕ) : Type 0 where
    pub exact : Option Bags
    pub same : SameTurn before exact
    pub back : AreAlike (fed_back body) (returned before) (returned exact)
    pub long : length bags ≡ length start
    pub alike : AreAlike inside bags start
    pub at_first : is_none before ≡ true → bags ≡ start
    pub few : length collected ≤ size body
    pub sized : is_none before ≡ false → length collected ≡ size body
    pub once : is_none before ≡ true → 1 ≤ left
    pub told : AllByRecursion (IsTold bound collected left exact) rest_reads

  pub rounding_begins : (bound : ℕ) (bags : Bags) (before : Option Bags) (collected : Bags) → 1 ≤ bound → bags ≡ start → before ≡ None → collected ≡ [] → Rounding bound bags before collected bound
  rounding_begins bound bags before collected positive same_bags none empty = record {
    exact = None;
    same = subst (λ b. SameTurn b None) (sym none) tt;
    back = alike_same (fed_back body) (returned before) (returned None) (ap returned none);
    long = ap length same_bags;
    alike = alike_same inside bags start same_bags;
    at_first = λ e. same_bags;
    few = subst (λ (xs : Bags). length xs ≤ size body) (sym empty) (omega arith);
    sized = λ e. absurd (let f : true ≡ false = sym (ap is_none none) ∙ e in cc);
    once = λ e. positive;
    told = each rest_reads;
  }
    where
      each : (xs : List ℕ) → AllByRecursion (IsTold bound collected bound None) xs
      each [] = tt
      each (x ∷ xs) = (λ i e. ap (λ (bs : Bags). emitted bs i ++ flat_map (λ b. emitted b x) (turns step bound None)) empty, each xs)

  module _ (bound left next : ℕ) (bags walked : Bags) (before : Option Bags) (collected now : Bags) (outer : List ℕ) (is : IsLoopBody outer (length start) body) where
    -- past a turn, after which so many are left: one less, or none where nothing comes back
    pub past_turn : Rounding bound bags before collected (suc left) → length walked ≡ length bags + size body → AreAlike inside walked (turn epoch body before bags)
        → length now ≡ size body
        → ((i : ℕ) → list_any (λ s. s == length start + i) rest_reads ≡ true → emitted now i ≡ emitted collected i ++ emitted (drop (length start) walked) i)
        → (next ≡ left) ⊎ ((next ≡ 0) × NothingReturns (Some (replicate (length start) [] ++ drop (length start) walked)) body)
        → Rounding bound (take (length start) walked) (Some (replicate (length start) [] ++ drop (length start) walked)) now next
    past_turn r long alike sized put goes = record {
      exact = Some T;
      same = tt;
      back = fed;
      long = taken_length n walked (omega (arith, longer));
      alike = all_map (λ s. emitted walked s ≡ emitted T s) (λ s. emitted (take n walked) s ≡ emitted start s) outside inside as_exact;
      at_first = λ e. absurd (let f : false ≡ true = e in cc);
      few = subst (λ m. m ≤ size body) (sym sized) (omega arith);
      sized = λ e. sized;
      once = λ e. absurd (let f : false ≡ true = e in cc);
      told = zip (λ s. list_any (λ x. x == s) rest_reads ≡ true) (λ s. (emitted walked s ≡ emitted T s) × IsTold bound collected (suc left) r.exact s) (IsTold bound now next (Some T)) rest_reads tell (members rest_reads)
          (zip (λ s. emitted walked s ≡ emitted T s) (IsTold bound collected (suc left) r.exact) (λ s. (emitted walked s ≡ emitted T s) × IsTold bound collected (suc left) r.exact s) rest_reads (λ s a b. (a, b))
          (all_left (λ s. emitted walked s ≡ emitted T s) rest_reads (fed_back body ++ reads false body) as_exact) r.told);
    }
      where
        n : ℕ
        n = length start

        T : Bags
        T = step r.exact

        made : Bags
        made = drop n walked

        longer : length walked ≡ n + size body
        longer = long ∙ ap (λ m. m + size body) r.long

        read_is : (b : Option Bags) → before ≡ b → AreAlike (reads (is_none b) body) bags start
        read_is None e = alike_same (reads true body) bags start (r.at_first (ap is_none e))
        read_is (Some x) e =
            all_right (λ s. emitted bags s ≡ emitted start s) (fed_back body) (reads false body) (all_right (λ s. emitted bags s ≡ emitted start s) rest_reads (fed_back body ++ reads false body) r.alike)

        as_exact : AreAlike inside walked T
        as_exact = alike_then inside walked (turn epoch body before bags) T alike (turn_alike epoch body inside before r.exact bags start r.long r.same (read_is before refl) r.alike r.back)

        fed_low : AllByRecursion (λ s. n ≤ s) (fed_back body)
        fed_low = all_map (λ s. (n ≤ s) × (s < n + size body)) (λ s. n ≤ s) (λ s b. b.0) (fed_back body) (fed_back_in body 0 n (n + size body) n (body_range body outer n is))

        fed : AreAlike (fed_back body) (replicate n [] ++ made) T
        fed =
            zip (λ s. n ≤ s) (λ s. emitted walked s ≡ emitted T s) (λ s. emitted (replicate n [] ++ made) s ≡ emitted T s) (fed_back body) (λ s l e. emitted_drop n walked s l ∙ e) fed_low
            (all_left (λ s. emitted walked s ≡ emitted T s) (fed_back body) (reads false body) (all_right (λ s. emitted walked s ≡ emitted T s) rest_reads (fed_back body ++ reads false body) as_exact))

        outside : (s : ℕ) → emitted walked s ≡ emitted T s → emitted (take n walked) s ≡ emitted start s
        outside s e = by (nat_cases s n)
          where
            nat_cases : (a b : ℕ) → (a < b) ⊎ (b ≤ a)
            nat_cases zero zero = inr (omega arith)
            nat_cases zero (suc b) = inl (omega arith)
            nat_cases (suc a) zero = inr (omega arith)
            nat_cases (suc a) (suc b) = elim (nat_cases a b) [ inl h ↦ inl (omega arith) | inr h ↦ inr (omega arith) ]

            by : (s < n) ⊎ (n ≤ s) → emitted (take n walked) s ≡ emitted start s
            by (inl h) = emitted_take n walked s h ∙ e ∙ turn_keeps epoch body r.exact start s h
            by (inr h) = past_end (take n walked) s (let l = taken_length n walked (omega (arith, longer)) in omega (arith, l, h)) ∙ sym (past_end start s h)

        -- the turns that are left bring the same as all that could be made
        left_is : (s : ℕ) → n ≤ s → flat_map (λ bs. emitted bs s) (turns step next (Some T)) ≡ flat_map (λ bs. emitted bs s) (turns step left (Some T))
        left_is s h = by goes
          where
            by : (next ≡ left) ⊎ ((next ≡ 0) × NothingReturns (Some (replicate n [] ++ made)) body) → flat_map (λ bs. emitted bs s) (turns step next (Some T)) ≡ flat_map (λ bs. emitted bs s) (turns step left (Some T))
            by (inl e) = ap (λ m. flat_map (λ bs. emitted bs s) (turns step m (Some T))) e
            by (inr q) =
                let returns : NothingReturns (Some T) body =
                zip (λ t. emitted (replicate n [] ++ made) t ≡ emitted T t) (λ t. emitted (replicate n [] ++ made) t ≡ []) (λ t. emitted T t ≡ []) (fed_back body) (λ t a b. sym a ∙ b) fed q.1 in
                ap (λ m. flat_map (λ bs. emitted bs s) (turns step m (Some T))) q.0 ∙ sym (quiet_later epoch body outer (Some T) start is (nothing_yet (entered_from body)) returns left s h)

        tell : (s : ℕ) → list_any (λ x. x == s) rest_reads ≡ true → (emitted walked s ≡ emitted T s) × IsTold bound collected (suc left) r.exact s → IsTold bound now next (Some T) s
        tell s found h i at =
            let low : n ≤ s = omega (arith, at) in
            let mine : emitted made i ≡ emitted T s = emitted_after n walked i ∙ ap (emitted walked) (sym at) ∙ h.0 in
            let later : List Rec = flat_map (λ bs. emitted bs s) (turns step left (Some T)) in
            ap (λ l. emitted now i ++ l) (left_is s low) ∙ ap (λ l. l ++ later) (put i (ap (λ m. list_any (λ x. x == m) rest_reads) (sym at) ∙ found) ∙ ap (λ l. emitted collected i ++ l) mine)
            ∙ append_assoc (emitted collected i) (emitted T s) later ∙ h.1 i at

    -- the same, where these are what is kept
    pub turn_past : (first : ℕ) (kept made : Bags) (after : Option Bags) → first ≡ length start → kept ≡ take first walked → made ≡ drop first walked → after ≡ Some (replicate first [] ++ made)
        → Rounding bound bags before collected (suc left) → length walked ≡ length bags + size body → AreAlike inside walked (turn epoch body before bags) → length now ≡ length made
        → ((i : ℕ) → list_any (λ s. s == first + i) rest_reads ≡ true → emitted now i ≡ emitted collected i ++ emitted made i)
        → (next ≡ left) ⊎ ((next ≡ 0) × NothingReturns after body) → Rounding bound kept after now next
    turn_past first kept made after f k m a r long alike sized put goes =
        let n = length start in
        let made_is : made ≡ drop n walked = m ∙ ap (λ x. drop x walked) f in
        let after_is : after ≡ Some (replicate n [] ++ drop n walked) = a ∙ (λ i. Some (replicate (f i) [] ++ made_is i)) in
        let kept_is : kept ≡ take n walked = k ∙ ap (λ x. take x walked) f in
        subst (λ b. Rounding bound kept b now next) (sym after_is)
        (subst (λ b. Rounding bound b (Some (replicate n [] ++ drop n walked)) now next) (sym kept_is)
        (past_turn r long alike (sized ∙ ap length made_is ∙ dropped_length n (size body) walked (long ∙ ap (λ x. x + size body) r.long))
        (λ i e. put i (ap (λ x. list_any (λ s. s == x + i) rest_reads) f ∙ e) ∙ ap (λ bs. emitted collected i ++ emitted bs i) made_is) (goes_on after_is goes)))
      where
        goes_on : after ≡ Some (replicate (length start) [] ++ drop (length start) walked) → (next ≡ left) ⊎ ((next ≡ 0) × NothingReturns after body)
            → (next ≡ left) ⊎ ((next ≡ 0) × NothingReturns (Some (replicate (length start) [] ++ drop (length start) walked)) body)
        goes_on is (inl e) = inl e
        goes_on is (inr q) = inr (q.0, subst (λ b. NothingReturns b body) is q.1)

  -- at the end
  pub rounding_ends : (bound : ℕ) (bags : Bags) (before : Option Bags) (collected : Bags) → Rounding bound bags before collected 0
      → (length (bags ++ map (bag_of rec_cmp) collected) ≡ length start + size body)
      × AreAlike rest_reads (bags ++ map (bag_of rec_cmp) collected) (start ++ over_turns (turns step bound None) (length start) (size body))
  rounding_ends bound bags before collected r = (whole, zip (λ s. emitted bags s ≡ emitted start s) (IsTold bound collected 0 r.exact) (λ s. emitted (bags ++ sorted) s ≡ emitted (start ++ all) s) rest_reads at (all_left (λ s. emitted bags s ≡ emitted start s) rest_reads (fed_back body ++ reads false body) r.alike) r.told)
    where
      sorted : Bags
      sorted = map (bag_of rec_cmp) collected

      all : Bags
      all = over_turns (turns step bound None) (length start) (size body)

      full : (b : Bool) → is_none before ≡ b → length collected ≡ size body
      full true e = absurd (let l = r.once e in omega (arith, l))
      full false e = r.sized e

      collected_long : length collected ≡ size body
      collected_long = full (is_none before) refl

      sorted_long : length sorted ≡ size body
      sorted_long = mapped_length collected ∙ collected_long

      whole : length (bags ++ sorted) ≡ length start + size body
      whole = length-append bags sorted ∙ ap (λ m. m + length sorted) r.long ∙ ap (λ m. length start + m) sorted_long

      all_long : length (start ++ all) ≡ length start + size body
      all_long = length-append start all ∙ ap (λ m. length start + m) (length-over_turns (turns step bound None) (length start) (size body))

      cases : (a b : ℕ) → (a < b) ⊎ ((i : ℕ) × (a ≡ b + i))
      cases a zero = inr (a, omega arith)
      cases zero (suc b) = inl (omega arith)
      cases (suc a) (suc b) = elim (cases a b) [ inl h ↦ inl (omega arith) | inr p ↦ inr (p.0, (let e = p.1 in omega (arith, e))) ]

      at : (s : ℕ) → emitted bags s ≡ emitted start s → IsTold bound collected 0 r.exact s → emitted (bags ++ sorted) s ≡ emitted (start ++ all) s
      at s same told = by (cases s (length start))
        where
          inner : (i : ℕ) → s ≡ length start + i → (i < size body) ⊎ ((j : ℕ) × (i ≡ size body + j)) → emitted (bags ++ sorted) s ≡ emitted (start ++ all) s
          inner i e (inl l) =
              emitted_past bags sorted i s (e ∙ ap (λ m. m + i) (sym r.long)) ∙ emitted_map collected i (omega (arith, l, collected_long))
              ∙ ap (bag_of rec_cmp) (sym (append-nil (emitted collected i)) ∙ told i e ∙ ap (λ m. flat_map (λ bs. emitted bs m) (turns step bound None)) e)
              ∙ sym (emitted-over_turns (turns step bound None) (length start) (size body) i l) ∙ sym (emitted_past start all i s e)
          inner i e (inr p) = let f = p.1 in past_end (bags ++ sorted) s (omega (arith, e, f, whole)) ∙ sym (past_end (start ++ all) s (omega (arith, e, f, all_long)))

          by : (s < length start) ⊎ ((i : ℕ) × (s ≡ length start + i)) → emitted (bags ++ sorted) s ≡ emitted (start ++ all) s
          by (inl l) = let long = r.long in get_or_append_left bags sorted [] s (omega (arith, l, long)) ∙ same ∙ sym (get_or_append_left start all [] s l)
          by (inr p) = inner p.0 p.1 (cases p.0 (size body))

-- the bag of one more place is appended, where it is asked for
module _ (asked : ℕ → Bool) (orig made old now : Bags) (place : ℕ) (so_far : (i : ℕ) → i < place → asked i ≡ true → emitted old i ≡ emitted orig i ++ emitted made i)
    (later : (i : ℕ) → place ≤ i → emitted old i ≡ emitted orig i) (others : (i : ℕ) → (i ≡ place → ⊥) → emitted now i ≡ emitted old i) where
  pub put_so_far : (asked place ≡ true → emitted now place ≡ emitted old place ++ emitted made place) → (i : ℕ) → i < place + 1 → asked i ≡ true → emitted now i ≡ emitted orig i ++ emitted made i
  put_so_far put i h e = by (i == place) refl
    where
      by : (b : Bool) → (i == place) ≡ b → emitted now i ≡ emitted orig i ++ emitted made i
      by true f =
          let is : i ≡ place = eqb-true i place f in
          ap (emitted now) is ∙ put (sym (ap asked is) ∙ e) ∙ ap (λ l. l ++ emitted made place) (later place (omega arith)) ∙ ap (λ j. emitted orig j ++ emitted made j) (sym is)
      by false f =
          let other : i ≡ place → ⊥ = λ is. (let c : true ≡ false = sym (eq-eqb i place is) ∙ f in absurd (cc)) in
          others i other ∙ so_far i (omega (arith, h, other)) e

  pub put_later : (i : ℕ) → place + 1 ≤ i → emitted now i ≡ emitted orig i
  put_later i h = others i (λ is. absurd (omega (arith, h, is))) ∙ later i (omega arith)

same_turn : (b : Option Bags) → SameTurn b b
same_turn None = tt
same_turn (Some x) = tt

module _ (epoch : EpochInput) where
  -- a turn goes on from the bags that are kept
  pub walk_on : (rest : Nodes) (need : List ℕ) (before : Option Bags) (bags exact last : Bags) → length bags ≡ length exact → AreAlike (reads (is_none before) rest ++ need) bags exact
      → AreAlike need last (turn epoch rest before bags) → AreAlike need last (turn epoch rest before exact)
  walk_on rest need before bags exact last long alike h =
      alike_then need last (turn epoch rest before bags) (turn epoch rest before exact) h
      (turn_alike epoch rest need before before bags exact long (same_turn before) (all_left (λ s. emitted bags s ≡ emitted exact s) (reads (is_none before) rest) need alike)
      (all_right (λ s. emitted bags s ≡ emitted exact s) (reads (is_none before) rest) need alike) (alike_same (fed_back rest) (returned before) (returned before) refl))
