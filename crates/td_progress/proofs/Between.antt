-- How many could result in a place and counters, as pointstamps come and go.
use Rattle.std.proofs.Common.{◌≡◌, ℕ, suc, ◌+◌, ◌^◌, ◌<◌, ◌≤◌, Bool, true, false, cond, List, [], ◌∷◌, map, length, Some, is_some, unwrap_or, refl, sym, ap, ◌∙◌, subst, true≢false, arith}
use Rattle.std.proofs.lemmas.List.Sums.{sum_by-cons}
use Rattle.std.specs.List.{AllByRecursion}
use Rattle.std.specs.Map.{keys_of, lookup}
use Rattle.std.specs.BTreeMap.{is_at}
use Rattle.std.specs.Ordering.{nat_cmp}
use Rattle.td_plan.specs.Lines.{Line}
use Rattle.td_reach.specs.declared.stamp.Stamp.{Stamp}
use Rattle.td_reach.specs.Paths.{IsOf}
use Rattle.td_reach.specs.Tables.{could_test}
use Rattle.td_progress.specs.Bag.{is_stamp}
use Rattle.td_progress.specs.Gaps.{Mark, timed, within, start_of, changed_from, plus, minus, with_epoch, without_epoch, AreGaps}
use Rattle.td_progress.specs.Held.{total, between, chain_at, with_stamp, without_stamp, timed_stamp, shifted, IsChain}
use Rattle.td_progress.proofs.Same.{Decides-is_stamp}
use Rattle.td_progress.proofs.Gaps.{Gaps, covers, Splits, gaps_raised, gaps_lowered, gaps_same, gaps_with, gaps_without, within_le, within_splits, within_changed, within_with, within_without, within_timed, length_changed, length_without, length_timed, gaps_timed}

abbrev pub Chains : Type 0
Chains = List (Stamp × Gaps)

abbrev pub HasEpoch : ℕ → Gaps → Type 0
HasEpoch e gs = is_some (lookup (is_at (nat_cmp e)) gs) ≡ true

abbrev pub HasNot : ℕ → Gaps → Type 0
HasNot e gs = is_some (lookup (is_at (nat_cmp e)) gs) ≡ false

module _ (plan : List Line) where
  pub between-cons : (k : Stamp × Gaps) (ks : Chains) (c : Stamp) (lo f : ℕ) → between plan (k ∷ ks) c lo f ≡ cond (could_test plan k.0 c) (within lo f k.1) 0 + between plan ks c lo f
  between-cons k ks c lo f = sum_by-cons (λ j. cond (could_test plan j.0 c) (within lo f j.1) 0) k ks

  if_within : (b : Bool) (lo f : ℕ) (gs : Gaps) → cond b (within lo f gs) 0 ≤ length gs
  if_within true lo f gs = within_le lo f gs
  if_within false lo f gs = omega arith

  pub between_le : (ks : Chains) (c : Stamp) (lo f : ℕ) → between plan ks c lo f ≤ total ks
  between_le [] c lo f = omega arith
  between_le (k ∷ ks) c lo f =
      let a = between-cons k ks c lo f in
      let b = if_within (could_test plan k.0 c) lo f k.1 in
      let d = sum_by-cons (λ (j : Stamp × Gaps). length j.1) k ks in
      let rest = between_le ks c lo f in
      omega (arith, a, b, d, rest)

  if_splits : (b : Bool) (lo e f : ℕ) (gs : Gaps) → lo ≤ e → e < f → cond b (within lo e gs) 0 + cond b (within (suc e) f gs) 0 ≡ cond b (within lo f gs) 0
  if_splits true lo e f gs low high = within_splits lo e f gs low high
  if_splits false lo e f gs low high = refl

  pub between_splits : (ks : Chains) (c : Stamp) → Splits (between plan ks c)
  between_splits [] c lo e f low high = refl
  between_splits (k ∷ ks) c lo e f low high =
      let a = between-cons k ks c lo e in
      let b = between-cons k ks c (suc e) f in
      let d = between-cons k ks c lo f in
      let here = if_splits (could_test plan k.0 c) lo e f k.1 low high in
      let rest = between_splits ks c lo e f low high in
      omega (arith, a, b, d, here, rest)

  -- one that comes
  abbrev pub counts_one : Stamp → Stamp → ℕ → ℕ → ℕ → ℕ
  counts_one c d e lo f = cond (could_test plan c d) (covers e lo f) 0

  if_with : (b : Bool) (lo f e : ℕ) (n : Mark) (gs : Gaps) → cond b (within lo f (with_epoch e n gs)) 0 ≡ cond b (within lo f gs) 0 + cond b (covers e lo f) 0
  if_with true lo f e n gs = within_with lo f e n gs
  if_with false lo f e n gs = refl

  pub between_with : (ks : Chains) (c : Stamp) (e : ℕ) (n : Mark) (d : Stamp) (lo f : ℕ) → between plan (with_stamp c e n ks) d lo f ≡ between plan ks d lo f + counts_one c d e lo f
  between_with [] c e n d lo f =
      let a = between-cons (c, with_epoch e n []) [] d lo f in
      let b = if_with (could_test plan c d) lo f e n [] in
      let none = if_none (could_test plan c d) lo f in
      omega (arith, a, b, none)
    where
      if_none : (b : Bool) (lo f : ℕ) → cond b (within lo f []) 0 ≡ 0
      if_none true lo f = refl
      if_none false lo f = refl
  between_with (k ∷ ks) c e n d lo f = by (is_stamp c k.0) refl (between_with ks c e n d lo f)
    where
      by : (b : Bool) → is_stamp c k.0 ≡ b → between plan (with_stamp c e n ks) d lo f ≡ between plan ks d lo f + counts_one c d e lo f → between plan (cond b ((k.0, with_epoch e n k.1) ∷ ks) (k ∷ with_stamp c e n ks)) d lo f ≡ between plan (k ∷ ks) d lo f + counts_one c d e lo f
      by true same rest =
          let a = between-cons (k.0, with_epoch e n k.1) ks d lo f in
          let b = if_with (could_test plan k.0 d) lo f e n k.1 in
          let g = between-cons k ks d lo f in
          let is = ap (λ s. counts_one s d e lo f) ((Decides-is_stamp c k.0).0 same) in
          omega (arith, a, b, g, is)
      by false apart rest =
          let a = between-cons k (with_stamp c e n ks) d lo f in
          let g = between-cons k ks d lo f in
          omega (arith, a, g, rest)

  -- one that goes
  if_without : (b : Bool) (lo f e : ℕ) (gs : Gaps) → HasEpoch e gs → cond b (within lo f gs) 0 ≡ cond b (within lo f (without_epoch e gs)) 0 + cond b (covers e lo f) 0
  if_without true lo f e gs there = within_without lo f e gs there
  if_without false lo f e gs there = refl

  pub between_without : (ks : Chains) (c : Stamp) (e : ℕ) → HasEpoch e (chain_at c ks) → (d : Stamp) (lo f : ℕ)
      → between plan ks d lo f ≡ between plan (without_stamp c e ks) d lo f + counts_one c d e lo f
  between_without [] c e there d lo f = absurd (true≢false (sym there))
  between_without (k ∷ ks) c e there d lo f = by (is_stamp c k.0) refl (λ h. between_without ks c e h d lo f)
    where
      by : (b : Bool) → is_stamp c k.0 ≡ b
          → (HasEpoch e (chain_at c ks) → between plan ks d lo f ≡ between plan (without_stamp c e ks) d lo f + counts_one c d e lo f) → between plan (k ∷ ks) d lo f ≡ between plan (cond b ((k.0, without_epoch e k.1) ∷ ks) (k ∷ without_stamp c e ks)) d lo f + counts_one c d e lo f
      by true same rest' =
          let own : HasEpoch e k.1 = sym (ap (λ b. is_some (lookup (is_at (nat_cmp e)) (unwrap_or (cond b (Some k.1) (lookup (is_stamp c) ks)) []))) same) ∙ there in
          let a = between-cons (k.0, without_epoch e k.1) ks d lo f in
          let b = if_without (could_test plan k.0 d) lo f e k.1 own in
          let g = between-cons k ks d lo f in
          let is = ap (λ s. counts_one s d e lo f) ((Decides-is_stamp c k.0).0 same) in
          omega (arith, a, b, g, is)
      by false apart rest' =
          let a = between-cons k (without_stamp c e ks) d lo f in
          let g = between-cons k ks d lo f in
          let rest = rest' (sym (ap (λ b. is_some (lookup (is_at (nat_cmp e)) (unwrap_or (cond b (Some k.1) (lookup (is_stamp c) ks)) []))) apart) ∙ there) in
          omega (arith, a, g, rest)

  -- all shifted
  abbrev pub all_shifted : Stamp → ℕ → (ℕ → ℕ) → Chains → Chains
  all_shifted c e h ks = map (shifted plan c e h) ks

  if_changed : (b d : Bool) (lo f e : ℕ) (h : ℕ → ℕ) (gs : Gaps) → cond d (within lo f (cond b (changed_from e h gs) gs)) 0 ≡ cond d (within lo f gs) 0
  if_changed true true lo f e h gs = within_changed lo f e h gs
  if_changed true false lo f e h gs = refl
  if_changed false d lo f e h gs = refl

  pub between_shifted : (ks : Chains) (c : Stamp) (e : ℕ) (h : ℕ → ℕ) (d : Stamp) (lo f : ℕ) → between plan (all_shifted c e h ks) d lo f ≡ between plan ks d lo f
  between_shifted [] c e h d lo f = refl
  between_shifted (k ∷ ks) c e h d lo f =
      let a = between-cons (shifted plan c e h k) (all_shifted c e h ks) d lo f in
      let b = between-cons k ks d lo f in
      let here = if_changed (could_test plan c k.0) (could_test plan k.0 d) lo f e h k.1 in
      let rest = between_shifted ks c e h d lo f in
      omega (arith, a, b, here, rest)

  if_length : (b : Bool) (e : ℕ) (h : ℕ → ℕ) (gs : Gaps) → length (cond b (changed_from e h gs) gs) ≡ length gs
  if_length true e h gs = length_changed e h gs
  if_length false e h gs = refl

  pub total_shifted : (ks : Chains) (c : Stamp) (e : ℕ) (h : ℕ → ℕ) → total (all_shifted c e h ks) ≡ total ks
  total_shifted [] c e h = refl
  total_shifted (k ∷ ks) c e h =
      let a = sum_by-cons (λ (j : Stamp × Gaps). length j.1) (shifted plan c e h k) (all_shifted c e h ks) in
      let b = sum_by-cons (λ (j : Stamp × Gaps). length j.1) k ks in
      let here = if_length (could_test plan c k.0) e h k.1 in
      let rest = total_shifted ks c e h in
      omega (arith, a, b, here, rest)

  pub keys_shifted : (ks : Chains) (c : Stamp) (e : ℕ) (h : ℕ → ℕ) → keys_of (all_shifted c e h ks) ≡ keys_of ks
  keys_shifted [] c e h = refl
  keys_shifted (k ∷ ks) c e h = ap (λ js. k.0 ∷ js) (keys_shifted ks c e h)

  -- What the chains keep
  module _ (count : Stamp → ℕ → ℕ → ℕ) where
    pub kept_with : ((d : Stamp) → Splits (count d)) → (ks : Chains) (c : Stamp) (e : ℕ) (n : Mark) → IsOf plan c → c.time.epoch ≡ 0 → n.gap ≡ count c (start_of 0 e (chain_at c ks)) e
        → HasNot e (chain_at c ks) → AllByRecursion (IsChain plan count) ks → AllByRecursion (IsChain plan count) (with_stamp c e n ks)
    kept_with splits [] c e n of_plan class is new h =
        (record { of_plan = λ l. of_plan; class = class; gaps = gaps_with (count c) (splits c) e n 0 [] (omega arith) is new tt }, tt)
    kept_with splits (k ∷ ks) c e n of_plan class is new h = by (is_stamp c k.0) refl (λ i j. kept_with splits ks c e n of_plan class i j h.1)
      where
        by : (b : Bool) → is_stamp c k.0 ≡ b
            → (n.gap ≡ count c (start_of 0 e (chain_at c ks)) e → HasNot e (chain_at c ks) → AllByRecursion (IsChain plan count) (with_stamp c e n ks)) → AllByRecursion (IsChain plan count) (cond b ((k.0, with_epoch e n k.1) ∷ ks) (k ∷ with_stamp c e n ks))
        by true same rest =
            let own : chain_at c (k ∷ ks) ≡ k.1 = ap (λ b. unwrap_or (cond b (Some k.1) (lookup (is_stamp c) ks)) []) same in
            let it = (Decides-is_stamp c k.0).0 same in
            let is' : n.gap ≡ count k.0 (start_of 0 e k.1) e = is ∙ ap (λ gs. count c (start_of 0 e gs) e) own ∙ ap (λ s. count s (start_of 0 e k.1) e) it in (
              record {
                of_plan = λ l. subst (IsOf plan) it of_plan;
                class = h.0.class;
                gaps = gaps_with (count k.0) (splits k.0) e n 0 k.1 (omega arith) is' (subst (HasNot e) own new) h.0.gaps;
              },
              h.1,
            )
        by false apart rest =
            let own : chain_at c (k ∷ ks) ≡ chain_at c ks = ap (λ b. unwrap_or (cond b (Some k.1) (lookup (is_stamp c) ks)) []) apart in
            (h.0, rest (is ∙ ap (λ gs. count c (start_of 0 e gs) e) own) (subst (HasNot e) own new))

    pub kept_without : ((d : Stamp) → Splits (count d)) → ((d : Stamp) (lo f : ℕ) → count d lo f < 2 ^ 64) → (ks : Chains) (c : Stamp) (e : ℕ)
        → HasEpoch e (chain_at c ks) → AllByRecursion (IsChain plan count) ks → AllByRecursion (IsChain plan count) (without_stamp c e ks)
    kept_without splits small [] c e there h = tt
    kept_without splits small (k ∷ ks) c e there h = by (is_stamp c k.0) refl (λ i. kept_without splits small ks c e i h.1)
      where
        by : (b : Bool) → is_stamp c k.0 ≡ b → (HasEpoch e (chain_at c ks) → AllByRecursion (IsChain plan count) (without_stamp c e ks)) → AllByRecursion (IsChain plan count) (cond b ((k.0, without_epoch e k.1) ∷ ks) (k ∷ without_stamp c e ks))
        by true same rest =
            let own : chain_at c (k ∷ ks) ≡ k.1 = ap (λ b. unwrap_or (cond b (Some k.1) (lookup (is_stamp c) ks)) []) same in (
              record {
                of_plan = λ l. h.0.of_plan (omega (arith, length_without e k.1 (subst (HasEpoch e) own there)));
                class = h.0.class;
                gaps = gaps_without (count k.0) (splits k.0) e (small k.0) 0 k.1 (subst (HasEpoch e) own there) h.0.gaps;
              },
              h.1,
            )
        by false apart rest =
            let own : chain_at c (k ∷ ks) ≡ chain_at c ks = ap (λ b. unwrap_or (cond b (Some k.1) (lookup (is_stamp c) ks)) []) apart in
            (h.0, rest (subst (HasEpoch e) own there))

    module _ (after : Stamp → ℕ → ℕ → ℕ) (c : Stamp) (e : ℕ) (more : (d : Stamp) (lo f : ℕ) → after d lo f ≡ count d lo f + counts_one c d e lo f) where
      pub kept_raised : ((d : Stamp) (lo f : ℕ) → after d lo f < 2 ^ 64) → (ks : Chains) → AllByRecursion (IsChain plan count) ks
          → AllByRecursion (IsChain plan after) (all_shifted c e (plus 1) ks)
      kept_raised small [] h = tt
      kept_raised small (k ∷ ks) h =
          (record { of_plan = λ l. h.0.of_plan (subst (λ n. 0 < n) (if_length (could_test plan c k.0) e (plus 1) k.1) l); class = h.0.class; gaps = by (could_test plan c k.0) refl }, kept_raised small ks h.1)
        where
          by : (b : Bool) → could_test plan c k.0 ≡ b → AreGaps (after k.0) 0 (cond b (changed_from e (plus 1) k.1) k.1)
          by true could =
              gaps_raised (count k.0) (after k.0) e (λ lo f. more k.0 lo f ∙ ap (λ b. count k.0 lo f + cond b (covers e lo f) 0) could) (small k.0) 0 k.1 (omega arith) h.0.gaps
          by false not =
              gaps_same (count k.0) (after k.0) (λ lo f. let m = more k.0 lo f ∙ ap (λ b. count k.0 lo f + cond b (covers e lo f) 0) not in omega (arith, m)) 0 k.1 h.0.gaps

      pub kept_lowered : (ks : Chains) → AllByRecursion (IsChain plan after) ks → AllByRecursion (IsChain plan count) (all_shifted c e (minus 1) ks)
      kept_lowered [] h = tt
      kept_lowered (k ∷ ks) h =
          (record { of_plan = λ l. h.0.of_plan (subst (λ n. 0 < n) (if_length (could_test plan c k.0) e (minus 1) k.1) l); class = h.0.class; gaps = by (could_test plan c k.0) refl }, kept_lowered ks h.1)
        where
          by : (b : Bool) → could_test plan c k.0 ≡ b → AreGaps (count k.0) 0 (cond b (changed_from e (minus 1) k.1) k.1)
          by true could =
              gaps_lowered (count k.0) (after k.0) e (λ lo f. more k.0 lo f ∙ ap (λ b. count k.0 lo f + cond b (covers e lo f) 0) could) 0 k.1 (omega arith) h.0.gaps
          by false not =
              gaps_same (after k.0) (count k.0) (λ lo f. let m = more k.0 lo f ∙ ap (λ b. count k.0 lo f + cond b (covers e lo f) 0) not in omega (arith, m)) 0 k.1 h.0.gaps

  -- One that occurs more often, or less
  if_timed : (b : Bool) (lo f e : ℕ) (h : ℕ → ℕ) (gs : Gaps) → cond b (within lo f (timed e h gs)) 0 ≡ cond b (within lo f gs) 0
  if_timed true lo f e h gs = within_timed lo f e h gs
  if_timed false lo f e h gs = refl

  pub between_timed : (ks : Chains) (c : Stamp) (e : ℕ) (h : ℕ → ℕ) (d : Stamp) (lo f : ℕ) → between plan (timed_stamp c e h ks) d lo f ≡ between plan ks d lo f
  between_timed [] c e h d lo f = refl
  between_timed (k ∷ ks) c e h d lo f = by (is_stamp c k.0) (between_timed ks c e h d lo f)
    where
      by : (b : Bool) → between plan (timed_stamp c e h ks) d lo f ≡ between plan ks d lo f
          → between plan (cond b ((k.0, timed e h k.1) ∷ ks) (k ∷ timed_stamp c e h ks)) d lo f ≡ between plan (k ∷ ks) d lo f
      by true rest =
          let a = between-cons (k.0, timed e h k.1) ks d lo f in
          let b = between-cons k ks d lo f in
          let here = if_timed (could_test plan k.0 d) lo f e h k.1 in
          omega (arith, a, b, here)
      by false rest =
          let a = between-cons k (timed_stamp c e h ks) d lo f in
          let b = between-cons k ks d lo f in
          omega (arith, a, b, rest)

  pub kept_timed : (count after : Stamp → ℕ → ℕ → ℕ) → ((d : Stamp) (lo f : ℕ) → after d lo f ≡ count d lo f) → (ks : Chains) (c : Stamp) (e : ℕ) (h : ℕ → ℕ)
      → AllByRecursion (IsChain plan count) ks → AllByRecursion (IsChain plan after) (timed_stamp c e h ks)
  kept_timed count after same [] c e h each = tt
  kept_timed count after same (k ∷ ks) c e h each = by (is_stamp c k.0) (kept_timed count after same ks c e h each.1)
    where
      stays : (j : Stamp × Gaps) → IsChain plan count j → IsChain plan after j
      stays j is = record { of_plan = is.of_plan; class = is.class; gaps = gaps_same (count j.0) (after j.0) (same j.0) 0 j.1 is.gaps }

      all_stay : (js : Chains) → AllByRecursion (IsChain plan count) js → AllByRecursion (IsChain plan after) js
      all_stay [] h' = tt
      all_stay (j ∷ js) h' = (stays j h'.0, all_stay js h'.1)

      by : (b : Bool) → AllByRecursion (IsChain plan after) (timed_stamp c e h ks) → AllByRecursion (IsChain plan after) (cond b ((k.0, timed e h k.1) ∷ ks) (k ∷ timed_stamp c e h ks))
      by true rest = (
        record {
          of_plan = λ l. each.0.of_plan (subst (λ n. 0 < n) (length_timed e h k.1) l);
          class = each.0.class;
          gaps = gaps_same (count k.0) (after k.0) (same k.0) 0 (timed e h k.1) (gaps_timed (count k.0) 0 e h k.1 each.0.gaps);
        },
        all_stay ks each.1,
      )
      by false rest = (stays k each.0, rest)

  pub keys_timed : (ks : Chains) (c : Stamp) (e : ℕ) (h : ℕ → ℕ) → keys_of (timed_stamp c e h ks) ≡ keys_of ks
  keys_timed [] c e h = refl
  keys_timed (k ∷ ks) c e h = by (is_stamp c k.0) (keys_timed ks c e h)
    where
      by : (b : Bool) → keys_of (timed_stamp c e h ks) ≡ keys_of ks → keys_of (cond b ((k.0, timed e h k.1) ∷ ks) (k ∷ timed_stamp c e h ks)) ≡ k.0 ∷ keys_of ks
      by true rest = refl
      by false rest = ap (λ js. k.0 ∷ js) rest

  pub total_timed : (ks : Chains) (c : Stamp) (e : ℕ) (h : ℕ → ℕ) → total (timed_stamp c e h ks) ≡ total ks
  total_timed [] c e h = refl
  total_timed (k ∷ ks) c e h = by (is_stamp c k.0) (total_timed ks c e h)
    where
      by : (b : Bool) → total (timed_stamp c e h ks) ≡ total ks → total (cond b ((k.0, timed e h k.1) ∷ ks) (k ∷ timed_stamp c e h ks)) ≡ total (k ∷ ks)
      by true rest =
          let a = sum_by-cons (λ (j : Stamp × Gaps). length j.1) (k.0, timed e h k.1) ks in
          let b = sum_by-cons (λ (j : Stamp × Gaps). length j.1) k ks in
          let d = length_timed e h k.1 in
          omega (arith, a, b, d)
      by false rest =
          let a = sum_by-cons (λ (j : Stamp × Gaps). length j.1) k (timed_stamp c e h ks) in
          let b = sum_by-cons (λ (j : Stamp × Gaps). length j.1) k ks in
          omega (arith, a, b, rest)
