-- Of numbers in a row, those that pass a test that no number passes after one that does not; and the first that does not.
use Rattle.std.proofs.Common.{◌≡◌, ℕ, zero, suc, ◌+◌, ◌-◌, ◌≤◌, ◌<◌, Bool, true, false, cond, not, List, [], ◌∷◌, filter, find, length, Option, Some, None, refl, sym, ap, ◌∙◌, subst, true≢false, arith}
use Rattle.std.proofs.lemmas.Option.{none-some}
use Rattle.td_batch.specs.Flow.{numbers_from}
use Rattle.td_keeper.specs.Halls.{before_unpassed}

-- what passes, all below it pass
abbrev pub Falls : (ℕ → Bool) → Type 0
Falls p = (d e : ℕ) → d ≤ e → p e ≡ true → p d ≡ true

-- THE LAST of some numbers in a row, up to which all pass
pub record IsLast (p : ℕ → Bool) (base next last : ℕ) : Type 0 where
  pub after : base ≤ last
  pub before : last < next
  pub passed : (e : ℕ) → base < e → e ≤ last → p e ≡ true

not_true : (b : Bool) → (b ≡ true → ⊥) → b ≡ false
not_true true h = absurd (h refl)
not_true false h = refl

module _ (p : ℕ → Bool) where
  -- at most all pass
  pub at_most : (k n : ℕ) → length (filter p (numbers_from k n)) ≤ n
  at_most k zero = omega arith
  at_most k (suc n) = by (p k) (at_most (suc k) n)
    where
      by : (b : Bool) → length (filter p (numbers_from (suc k) n)) ≤ n → length (cond b (k ∷ filter p (numbers_from (suc k) n)) (filter p (numbers_from (suc k) n))) ≤ suc n
      by true later = omega (arith, later)
      by false later = omega (arith, later)

  -- as many pass as pass in a row from the first on
  pub at_least : (k n m : ℕ) → m ≤ n → ((i : ℕ) → i < m → p (k + i) ≡ true) → m ≤ length (filter p (numbers_from k n))
  at_least k n zero l h = omega arith
  at_least k zero (suc m) l h = absurd (omega (arith, l))
  at_least k (suc n) (suc m) l h =
      let here : k ≡ k + 0 = omega arith in
      let first : p k ≡ true = ap p here ∙ h 0 (omega arith) in
      let later = at_least (suc k) n m (omega (arith, l)) (λ i b. let there : suc k + i ≡ k + suc i = omega arith in ap p there ∙ h (suc i) (omega (arith, b))) in
      subst (λ b. suc m ≤ length (cond b (k ∷ filter p (numbers_from (suc k) n)) (filter p (numbers_from (suc k) n)))) (sym first) (omega (arith, later))

  -- of those that are found not to pass, none is before the first
  found : (k n e : ℕ) → find (λ d. not (p d)) (numbers_from k n) ≡ Some e → (k ≤ e) × (e < k + n) × ((i : ℕ) → k + i < e → p (k + i) ≡ true)
  found k zero e h = absurd (none-some e h)
  found k (suc n) e h = by (p k) refl h (found (suc k) n e)
    where
      rest : Option ℕ
      rest = find (λ d. not (p d)) (numbers_from (suc k) n)

      by : (b : Bool) → p k ≡ b → cond (not b) (Some k) rest ≡ Some e → (rest ≡ Some e → (suc k ≤ e) × (e < suc k + n) × ((i : ℕ) → suc k + i < e → p (suc k + i) ≡ true))
          → (k ≤ e) × (e < k + suc n) × ((i : ℕ) → k + i < e → p (k + i) ≡ true)
      by false q is later =
          let here : k ≡ e = cc in
          (omega (arith, here), omega (arith, here), λ i l. absurd (omega (arith, here, l)))
      by true q is later =
          let then = later is in
          (omega (arith, then.0), omega (arith, then.1), λ i. before i)
        where
          before : (i : ℕ) → k + i < e → p (k + i) ≡ true
          before zero l = let here : k + 0 ≡ k = omega arith in ap p here ∙ q
          before (suc i) l = let there : k + suc i ≡ suc k + i = omega arith in ap p there ∙ (later is).2 i (omega (arith, l))

  -- where none is found, all pass
  all_pass : (k n : ℕ) → find (λ d. not (p d)) (numbers_from k n) ≡ None → (i : ℕ) → i < n → p (k + i) ≡ true
  all_pass k zero h i l = absurd (omega (arith, l))
  all_pass k (suc n) h i l = by (p k) refl h (all_pass (suc k) n) i l
    where
      rest : Option ℕ
      rest = find (λ d. not (p d)) (numbers_from (suc k) n)

      by : (b : Bool) → p k ≡ b → cond (not b) (Some k) rest ≡ None → (rest ≡ None → (i : ℕ) → i < n → p (suc k + i) ≡ true) → (i : ℕ) → i < suc n → p (k + i) ≡ true
      by false q is later i l = absurd (none-some k (sym is))
      by true q is later zero l = let here : k + 0 ≡ k = omega arith in ap p here ∙ q
      by true q is later (suc i) l = let next : k + suc i ≡ suc k + i = omega arith in ap p next ∙ later is i (omega (arith, l))

  -- so the number before the first that is found not to pass, or else before the next, is the last
  pub last_is : (base next : ℕ) → base < next → (o : Option ℕ) → find (λ d. not (p d)) (numbers_from (base + 1) (next - (base + 1))) ≡ o → IsLast p base next (before_unpassed next o)
  last_is base next l None h = record {
    after = omega (arith, l);
    before = omega (arith, l);
    passed = λ e from to.
        let is : e ≡ base + 1 + (e - (base + 1)) = omega (arith, from) in
        ap p is ∙ all_pass (base + 1) (next - (base + 1)) h (e - (base + 1)) (omega (arith, from, to, l));
  }
  last_is base next l (Some d) h =
      let at = found (base + 1) (next - (base + 1)) d h in
      record {
        after = omega (arith, at.0);
        before = omega (arith, at.0, at.1, l);
        passed = λ e from to.
            let is : e ≡ base + 1 + (e - (base + 1)) = omega (arith, from) in
            ap p is ∙ at.2 (e - (base + 1)) (omega (arith, from, to, at.0));
      }

  module _ (falls : Falls p) where
    none_after : (k n e : ℕ) → e ≤ k → p e ≡ false → filter p (numbers_from k n) ≡ []
    none_after k zero e l h = refl
    none_after k (suc n) e l h =
        ap (λ b. cond b (k ∷ filter p (numbers_from (suc k) n)) (filter p (numbers_from (suc k) n))) (not_true (p k) (λ t. true≢false (sym (falls e k l t) ∙ h)))
        ∙ none_after (suc k) n e (omega (arith, l)) h

    -- those that pass are the first ones
    pub row : (k n : ℕ) → filter p (numbers_from k n) ≡ numbers_from k (length (filter p (numbers_from k n)))
    row k zero = refl
    row k (suc n) = by (p k) refl (row (suc k) n)
      where
        rest : List ℕ
        rest = filter p (numbers_from (suc k) n)

        by : (b : Bool) → p k ≡ b → rest ≡ numbers_from (suc k) (length rest) → cond b (k ∷ rest) rest ≡ numbers_from k (length (cond b (k ∷ rest) rest))
        by true e later = ap (λ l. k ∷ l) later
        by false e later = let none = none_after (suc k) n k (omega arith) e in none ∙ sym (ap (λ l. numbers_from k (length l)) none)

    pub passes : (k n i : ℕ) → i < length (filter p (numbers_from k n)) → p (k + i) ≡ true
    passes k zero i l = absurd (omega (arith, l))
    passes k (suc n) i l = by (p k) refl (passes (suc k) n) i l
      where
        rest : List ℕ
        rest = filter p (numbers_from (suc k) n)

        by : (b : Bool) → p k ≡ b → ((i : ℕ) → i < length rest → p (suc k + i) ≡ true) → (i : ℕ) → i < length (cond b (k ∷ rest) rest) → p (k + i) ≡ true
        by true e later zero l = let here : k + 0 ≡ k = omega arith in ap p here ∙ e
        by true e later (suc i) l = let next : k + suc i ≡ suc k + i = omega arith in ap p next ∙ later i (omega (arith, l))
        by false e later i l = let none = ap length (none_after (suc k) n k (omega arith) e) in absurd (omega (arith, l, none))
