-- Runs that are linked, and one more at the end.
use Rattle.std.proofs.Common.{◌≡◌, ℕ, zero, suc, ◌+◌, ◌<◌, ◌≤◌, inl, Bool, true, false, cond, List, [], ◌∷◌, ◌++◌, length, Option, Some, None, refl, sym, ap, ◌∙◌, subst, arith, append_assoc, append-nil}
use Rattle.std.specs.Option.{option_map}
use Rattle.std.specs.List.{AllByRecursion}
use Rattle.std.specs.Cmp.{IsEquivalence}
use Rattle.td_shard.specs.declared.runs.Lane.{Lane}
use Rattle.td_shard.specs.Runs.{Part, its, all_of, changed_at, linked_to, ahead_of, last_by, FrontWaits, IsUpTo, AreUpTo, IsOlder, AreOlder, AreGrouped, first_on, last_on, AreLinked}

-- the runs with that at a place linked to one that comes behind the last
abbrev pub to_end : ℕ → List Part → List Part
to_end i [] = []
to_end zero (s ∷ ss) = record s { ahead = suc (length ss) } ∷ ss
to_end (suc i) (s ∷ ss) = s ∷ to_end i ss

-- the runs with one more at the end, to which the last of its lane is linked
abbrev pub appended : Option ℕ → List Part → Part → List Part
appended None ss x = ss ++ x ∷ []
appended (Some i) ss x = to_end i ss ++ x ∷ []

abbrev or_then : Option ℕ → Option ℕ → Option ℕ
or_then None b = b
or_then (Some i) b = Some i

pub messages-to_end : (i : ℕ) (ss : List Part) → all_of (to_end i ss) ≡ all_of ss
messages-to_end i [] = refl
messages-to_end zero (s ∷ ss) = refl
messages-to_end (suc i) (s ∷ ss) = ap (λ ms. its s ++ ms) (messages-to_end i ss)

pub length-to_end : (i : ℕ) (ss : List Part) → length (to_end i ss) ≡ length ss
length-to_end i [] = refl
length-to_end zero (s ∷ ss) = refl
length-to_end (suc i) (s ∷ ss) = ap suc (length-to_end i ss)

pub front-to_end : (i : ℕ) (ss : List Part) → FrontWaits ss → FrontWaits (to_end i ss)
front-to_end i [] h = h
front-to_end zero (s ∷ ss) h = h
front-to_end (suc i) (s ∷ ss) h = h

-- as the code links it
pub linked-to_end : (i n : ℕ) (ss : List Part) → i < length ss → n + i ≡ length ss → changed_at (linked_to n) i ss ≡ to_end i ss
linked-to_end i n [] h e = absurd (omega (arith, h))
linked-to_end zero n (s ∷ ss) h e = let e2 : n ≡ suc (length ss) = omega (arith, e) in ap (λ a. record s { ahead = a } ∷ ss) e2
linked-to_end (suc i) n (s ∷ ss) h e = ap (λ l. s ∷ l) (linked-to_end i n ss (omega (arith, h)) (omega (arith, e)))

pub messages-append : (ss : List Part) (x : Part) → all_of (ss ++ x ∷ []) ≡ all_of ss ++ its x
messages-append [] x = append-nil (its x)
messages-append (s ∷ ss) x = ap (λ ms. its s ++ ms) (messages-append ss x) ∙ sym (append_assoc (its s) (all_of ss) (its x))

front-append : (ss : List Part) (x : Part) → 0 < length x.recs → FrontWaits ss → FrontWaits (ss ++ x ∷ [])
front-append [] x h f = h
front-append (s ∷ ss) x h f = f

module _ (same : Lane → Lane → Bool) where
  pub first-to_end : (j : Lane) (i : ℕ) (ss : List Part) → first_on same j (to_end i ss) ≡ first_on same j ss
  first-to_end j i [] = refl
  first-to_end j zero (s ∷ ss) = refl
  first-to_end j (suc i) (s ∷ ss) = ap (λ o. cond (same j s.lane) (Some 0) (option_map suc o)) (first-to_end j i ss)

  pub last-to_end : (j : Lane) (i : ℕ) (ss : List Part) → last_on same j (to_end i ss) ≡ last_on same j ss
  last-to_end j i [] = refl
  last-to_end j zero (s ∷ ss) = refl
  last-to_end j (suc i) (s ∷ ss) = ap (last_by (same j s.lane)) (last-to_end j i ss)

  first-step : (b h : Bool) (o : Option ℕ) (n : ℕ) → cond h (Some 0) (option_map suc (or_then o (cond b (Some n) None))) ≡ or_then (cond h (Some 0) (option_map suc o)) (cond b (Some (suc n)) None)
  first-step b true o n = refl
  first-step b false (Some i) n = refl
  first-step true false None n = refl
  first-step false false None n = refl

  pub first-append : (j : Lane) (ss : List Part) (x : Part) → first_on same j (ss ++ x ∷ []) ≡ or_then (first_on same j ss) (cond (same j x.lane) (Some (length ss)) None)
  first-append j [] x = refl
  first-append j (s ∷ ss) x = ap (λ o. cond (same j s.lane) (Some 0) (option_map suc o)) (first-append j ss x) ∙ first-step (same j x.lane) (same j s.lane) (first_on same j ss) (length ss)

  last-step : (b h : Bool) (o : Option ℕ) (n : ℕ) → last_by h (cond b (Some n) o) ≡ cond b (Some (suc n)) (last_by h o)
  last-step true h o n = refl
  last-step false h o n = refl

  pub last-append : (q : Lane) (ss : List Part) (x : Part) → last_on same q (ss ++ x ∷ []) ≡ cond (same q x.lane) (Some (length ss)) (last_on same q ss)
  last-append q [] x = refl
  last-append q (s ∷ ss) x = ap (last_by (same q s.lane)) (last-append q ss x) ∙ last-step (same q x.lane) (same q s.lane) (last_on same q ss) (length ss)

  module _ (laws : IsEquivalence same) where
    none-by : (b : Bool) (o : Option ℕ) → cond b (Some 0) (option_map suc o) ≡ None → (b ≡ false) × (o ≡ None)
    none-by true o e = absurd (cc)
    none-by false None e = (refl, refl)
    none-by false (Some i) e = absurd (cc)

    last_by-none : (b : Bool) (o : Option ℕ) → b ≡ false → o ≡ None → last_by b o ≡ None
    last_by-none b o e f = rw (e, f) refl

    -- where no run is the first of a lane, none is the last
    pub none_on : (j k : Lane) (ss : List Part) → same j k ≡ true → first_on same j ss ≡ None → last_on same k ss ≡ None
    none_on j k [] h e = refl
    none_on j k (s ∷ ss) h e =
        let w = none-by (same j s.lane) (first_on same j ss) e in
        last_by-none (same k s.lane) (last_on same k ss) (sym (laws.congr j k s.lane h) ∙ w.0) (none_on j k ss h w.1)

    some-by : (b : Bool) (o : Option ℕ) → last_by b o ≡ None → (b ≡ false) × (o ≡ None)
    some-by b (Some i) e = absurd (cc)
    some-by true None e = absurd (cc)
    some-by false None e = (refl, refl)

    first-none : (b : Bool) (o : Option ℕ) → b ≡ false → o ≡ None → cond b (Some 0) (option_map suc o) ≡ None
    first-none b o e f = rw (e, f) refl

    -- and where none is the last, none is the first
    pub first_none : (j k : Lane) (ss : List Part) → same j k ≡ true → last_on same k ss ≡ None → first_on same j ss ≡ None
    first_none j k [] h e = refl
    first_none j k (s ∷ ss) h e =
        let w = some-by (same k s.lane) (last_on same k ss) e in
        first-none (same j s.lane) (first_on same j ss) (laws.congr j k s.lane h ∙ w.0) (first_none j k ss h w.1)

    -- the first of a lane stays where the last of the run's own lane is known
    stays : (s x : Part) (b : Bool) (o p : Option ℕ) (n i : ℕ) → p ≡ Some i → (o ≡ None → b ≡ true → p ≡ None) → s.ahead ≡ ahead_of o → s.ahead ≡ ahead_of (or_then o (cond b (Some n) None))
    stays s x b (Some j) p n i e h f = f
    stays s x false None p n i e h f = f
    stays s x true None p n i e h f = absurd (let none : p ≡ None = h refl refl in cc)

    linked_step : (k : Lane) (x s : Part) (ss : List Part) (b : Bool) (o : Option ℕ) → same k s.lane ≡ b → last_on same k ss ≡ o → same k x.lane ≡ true → s.ahead ≡ ahead_of (first_on same s.lane ss) → AreLinked same (appended o ss x) → AreLinked same (appended (last_by b o) (s ∷ ss) x)
    linked_step k x s ss b (Some i) eb eo h f rest = (
      subst (λ w. s.ahead ≡ ahead_of w) (sym (first-append s.lane (to_end i ss) x))
          (subst (λ w. s.ahead ≡ ahead_of (or_then w (cond (same s.lane x.lane) (Some (length (to_end i ss))) None))) (sym (first-to_end s.lane i ss))
          (stays s x (same s.lane x.lane) (first_on same s.lane ss) (last_on same k ss) (length (to_end i ss)) i eo
          (λ none here. none_on s.lane k ss (laws.congr s.lane x.lane k here ∙ (laws.symm x.lane k ∙ h)) none) f)),
      rest,
    )
    linked_step k x s ss true None eb eo h f rest = (linked_first, rest)
      where
        joined : same s.lane x.lane ≡ true
        joined = sym (laws.congr k s.lane x.lane eb) ∙ h

        -- none of the lane follows
        none : first_on same s.lane ss ≡ None
        none = first_none s.lane k ss (laws.symm s.lane k ∙ eb) eo

        linked_first : suc (length ss) ≡ ahead_of (first_on same s.lane (ss ++ x ∷ []))
        linked_first = subst (λ w. suc (length ss) ≡ ahead_of w) (sym (first-append s.lane ss x)) (rw (none, joined) refl)
    linked_step k x s ss false None eb eo h f rest =
        (subst (λ w. s.ahead ≡ ahead_of w) (sym (first-append s.lane ss x)) (unchanged (first_on same s.lane ss) (same s.lane x.lane) apart f), rest)
      where
        unchanged : (o : Option ℕ) (b : Bool) → b ≡ false → s.ahead ≡ ahead_of o → s.ahead ≡ ahead_of (or_then o (cond b (Some (length ss)) None))
        unchanged (Some i) b e g = g
        unchanged None true e g = absurd (cc)
        unchanged None false e g = g

        apart : same s.lane x.lane ≡ false
        apart = laws.symm s.lane x.lane ∙ (sym (laws.congr k x.lane s.lane h) ∙ eb)

    -- linked runs stay linked with one more at the end
    pub linked_appended : (k : Lane) (x : Part) (ss : List Part) → same k x.lane ≡ true → x.ahead ≡ 0 → AreLinked same ss → AreLinked same (appended (last_on same k ss) ss x)
    linked_appended k x [] h z l = (z, tt)
    linked_appended k x (s ∷ ss) h z l = linked_step k x s ss (same k s.lane) (last_on same k ss) refl refl h l.0 (linked_appended k x ss h z l.1)

  last_by-below : (b : Bool) (o : Option ℕ) (n i : ℕ) → ((j : ℕ) → o ≡ Some j → j < n) → last_by b o ≡ Some i → i < suc n
  last_by-below b (Some j) n i f e = let g : j < n = f j refl in let h : suc j ≡ i = some_is e in omega arith
    where
      some_is : Some (suc j) ≡ Some i → suc j ≡ i
      some_is e = cc
  last_by-below true None n i f e = let h : 0 ≡ i = zero_is e in omega arith
    where
      zero_is : Some 0 ≡ Some i → 0 ≡ i
      zero_is e = cc
  last_by-below false None n i f e = absurd (cc)

  -- the last of a lane stands within the runs
  pub last-below : (k : Lane) (ss : List Part) (i : ℕ) → last_on same k ss ≡ Some i → i < length ss
  last-below k [] i e = absurd (cc)
  last-below k (s ∷ ss) i e = last_by-below (same k s.lane) (last_on same k ss) (length ss) i (last-below k ss) e

  pub last-appended : (q : Lane) (o : Option ℕ) (ss : List Part) (x : Part) → last_on same q (appended o ss x) ≡ cond (same q x.lane) (Some (length ss)) (last_on same q ss)
  last-appended q None ss x = last-append q ss x
  last-appended q (Some i) ss x = last-append q (to_end i ss) x ∙ (ap (λ n. cond (same q x.lane) (Some n) (last_on same q (to_end i ss))) (length-to_end i ss) ∙ ap (cond (same q x.lane) (Some (length ss))) (last-to_end q i ss))

pub messages-appended : (o : Option ℕ) (ss : List Part) (x : Part) → all_of (appended o ss x) ≡ all_of ss ++ its x
messages-appended None ss x = messages-append ss x
messages-appended (Some i) ss x = messages-append (to_end i ss) x ∙ ap (λ ms. ms ++ its x) (messages-to_end i ss)

pub front-appended : (o : Option ℕ) (ss : List Part) (x : Part) → 0 < length x.recs → FrontWaits ss → FrontWaits (appended o ss x)
front-appended None ss x h f = front-append ss x h f
front-appended (Some i) ss x h f = front-append (to_end i ss) x h (front-to_end i ss f)

-- THEIR NUMBERS, with one more at the end
module _ (P : Part → Type 0) (alike : (p : Part) (a : ℕ) → P p → P (linked_to a p)) where
  all-to_end : (i : ℕ) (ss : List Part) → AllByRecursion P ss → AllByRecursion P (to_end i ss)
  all-to_end i [] h = tt
  all-to_end zero (s ∷ ss) h = (alike s (suc (length ss)) h.0, h.1)
  all-to_end (suc i) (s ∷ ss) h = (h.0, all-to_end i ss h.1)

  all-append : (ss : List Part) (x : Part) → P x → AllByRecursion P ss → AllByRecursion P (ss ++ x ∷ [])
  all-append [] x it h = (it, tt)
  all-append (s ∷ ss) x it h = (h.0, all-append ss x it h.1)

  pub all-appended : (o : Option ℕ) (ss : List Part) (x : Part) → P x → AllByRecursion P ss → AllByRecursion P (appended o ss x)
  all-appended None ss x it h = all-append ss x it h
  all-appended (Some i) ss x it h = all-append (to_end i ss) x it (all-to_end i ss h)

pub up_to-appended : (n : ℕ) (o : Option ℕ) (ss : List Part) (x : Part) → x.base ≡ n → AreUpTo n ss → AreUpTo n (appended o ss x)
up_to-appended n o ss x e h = all-appended (IsUpTo n) (λ p a it. it) o ss x (inl e) h

pub older-appended : (n : ℕ) (o : Option ℕ) (ss : List Part) (x : Part) → IsOlder n x → AreOlder n ss → AreOlder n (appended o ss x)
older-appended n o ss x it h = all-appended (IsOlder n) (λ p a i. i) o ss x it h

grouped-to_end : (i : ℕ) (ss : List Part) → AreGrouped ss → AreGrouped (to_end i ss)
grouped-to_end i [] h = tt
grouped-to_end zero (s ∷ ss) h = h
grouped-to_end (suc i) (s ∷ ss) h = (h.0, all-to_end (λ q. IsUpTo q.base s) (λ p a it. it) i ss h.1, grouped-to_end i ss h.2)

grouped-append : (ss : List Part) (x : Part) → AllByRecursion (λ r. x.base ≤ r.number) x.recs → AreUpTo x.base ss → AreGrouped ss → AreGrouped (ss ++ x ∷ [])
grouped-append [] x from u h = (from, tt, tt)
grouped-append (s ∷ ss) x from u h = (h.0, all-append (λ q. IsUpTo q.base s) (λ p a it. it) ss x u.0 h.1, grouped-append ss x from u.1 h.2)

pub grouped-appended : (o : Option ℕ) (ss : List Part) (x : Part) → AllByRecursion (λ r. x.base ≤ r.number) x.recs → AreUpTo x.base ss → AreGrouped ss → AreGrouped (appended o ss x)
grouped-appended None ss x from u h = grouped-append ss x from u h
grouped-appended (Some i) ss x from u h = grouped-append (to_end i ss) x from (all-to_end (IsUpTo x.base) (λ p a it. it) i ss u) (grouped-to_end i ss h)
