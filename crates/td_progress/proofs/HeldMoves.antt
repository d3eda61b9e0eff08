-- A pointstamp comes, or goes: what is held stays as it is to be.
use Rattle.std.proofs.Common.{◌≡◌, ℕ, suc, ◌+◌, ◌^◌, ◌<◌, Bool, true, false, cond, List, [], ◌∷◌, length, Some, is_some, unwrap_or, ◌⊎◌, inl, inr, refl, sym, ap, ◌∙◌, subst, arith, nat_le}
use Rattle.std.proofs.lemmas.List.Sums.{sum_by-cons}
use Rattle.std.specs.List.{AllByRecursion, IsDistinct}
use Rattle.std.specs.Map.{keys_of, lookup, remove_entry}
use Rattle.std.specs.BTreeMap.{is_at}
use Rattle.std.specs.Ordering.{nat_cmp}
use Rattle.td_stamp.specs.Time.{depth}
use Rattle.td_plan.specs.Lines.{Line}
use Rattle.td_reach.specs.declared.stamp.Stamp.{Stamp}
use Rattle.td_reach.specs.Paths.{IsOf}
use Rattle.td_reach.specs.Tables.{could_test}
use Rattle.td_progress.specs.Bag.{is_stamp, occurrences}
use Rattle.td_progress.specs.Gaps.{Mark, with_gap, has_epoch, within, start_of, changed_from, plus, minus}
use Rattle.td_progress.specs.Held.{class_of, held, total, between, chain_at, with_stamp, without_stamp, IsChain, IsLaidOut, AreHeld}
use Rattle.td_progress.proofs.Counted.{one}
use Rattle.td_progress.proofs.Gaps.{Gaps, gaps_same}
use Rattle.td_progress.proofs.Between.{Chains, HasEpoch, HasNot, between_le, between_splits, between-cons, between_with, between_without, between_shifted, total_shifted, keys_shifted, all_shifted, counts_one, kept_with, kept_without, kept_raised, kept_lowered}
use Rattle.td_progress.proofs.HeldBags.{total_with, total_without, occurs_held}
use Rattle.td_progress.proofs.Laid.{laid_come, laid_go, laid_removed}
use Rattle.td_progress.proofs.HeldCounts.{other_epoch, one_is}

one_not : (b : Bool) → one b ≡ 0 → b ≡ false
one_not true e = absurd (omega (arith, e))
one_not false e = refl

module _ (plan : List Line) (ks : Chains) (kept : AreHeld plan ks) (p : Stamp) where
  -- One comes
  pub new_epoch : occurrences p (held ks) ≡ 0 → HasNot p.time.epoch (chain_at (class_of p) ks)
  new_epoch none = one_not _ (sym (occurs_held plan (between plan ks) p ks kept.once kept.each) ∙ none)

  module _ (n : Mark) where
    abbrev pub come_to : Chains
    come_to = all_shifted plan (class_of p) p.time.epoch (plus 1) (with_stamp (class_of p) p.time.epoch n ks)

    pub come_total : total come_to ≡ suc (total ks)
    come_total =
        total_shifted plan (with_stamp (class_of p) p.time.epoch n ks) (class_of p) p.time.epoch (plus 1) ∙ total_with ks (class_of p) p.time.epoch n

    come_more : (d : Stamp) (lo f : ℕ) → between plan come_to d lo f ≡ between plan ks d lo f + counts_one plan (class_of p) d p.time.epoch lo f
    come_more d lo f =
        between_shifted plan (with_stamp (class_of p) p.time.epoch n ks) (class_of p) p.time.epoch (plus 1) d lo f
        ∙ between_with plan ks (class_of p) p.time.epoch n d lo f

    pub come_kept : IsOf plan p → occurrences p (held ks) ≡ 0 → n.gap ≡ between plan ks (class_of p) (start_of 0 p.time.epoch (chain_at (class_of p) ks)) p.time.epoch
        → total ks + 1 < 2 ^ 64 → IsDistinct is_stamp (keys_of (with_stamp (class_of p) p.time.epoch n ks)) → AreHeld plan come_to
    come_kept of_plan none is fits once = record {
      once = subst (λ js. IsDistinct is_stamp js) (sym (keys_shifted plan (with_stamp (class_of p) p.time.epoch n ks) (class_of p) p.time.epoch (plus 1))) once;
      laid = laid_come plan (class_of p) p.time.epoch n (plus 1) ks kept.laid;
      each =
          kept_raised plan (between plan ks) (between plan come_to) (class_of p) p.time.epoch come_more
          (λ d lo f. let a = between_le plan come_to d lo f in let b = come_total in omega (arith, a, b, fits))
          (with_stamp (class_of p) p.time.epoch n ks)
          (kept_with plan (between plan ks) (λ d. between_splits plan ks d) ks (class_of p) p.time.epoch n (other_epoch plan p 0 of_plan) refl is (new_epoch none) kept.each);
    }

  -- One goes
  module _ (some : 0 < occurrences p (held ks)) where
    pub there : HasEpoch p.time.epoch (chain_at (class_of p) ks)
    there = one_is _ (subst (λ n. 0 < n) (occurs_held plan (between plan ks) p ks kept.once kept.each) some)

    abbrev pub lowered : Chains
    lowered = all_shifted plan (class_of p) p.time.epoch (minus 1) ks

    abbrev pub go_to : Chains
    go_to = without_stamp (class_of p) p.time.epoch lowered

    there_changed : (x : ℕ) (gs : Gaps) → has_epoch p.time.epoch (changed_from x (minus 1) gs) ≡ has_epoch p.time.epoch gs
    there_changed x [] = refl
    there_changed x (g ∷ gs) = by (nat_le x g.0) (there_changed x gs)
      where
        by : (b : Bool) → has_epoch p.time.epoch (changed_from x (minus 1) gs) ≡ has_epoch p.time.epoch gs
            → has_epoch p.time.epoch (cond b ((g.0, with_gap (minus 1) g.1) ∷ gs) (g ∷ changed_from x (minus 1) gs)) ≡ has_epoch p.time.epoch (g ∷ gs)
        by true rest = same (is_at (nat_cmp p.time.epoch) g.0)
          where
            same : (b : Bool) → is_some (cond b (Some (with_gap (minus 1) g.1)) (lookup (is_at (nat_cmp p.time.epoch)) gs)) ≡ is_some (cond b (Some g.1) (lookup (is_at (nat_cmp p.time.epoch)) gs))
            same true = refl
            same false = refl
        by false rest = same (is_at (nat_cmp p.time.epoch) g.0)
          where
            same : (b : Bool) → is_some (cond b (Some g.1) (lookup (is_at (nat_cmp p.time.epoch)) (changed_from x (minus 1) gs))) ≡ is_some (cond b (Some g.1) (lookup (is_at (nat_cmp p.time.epoch)) gs))
            same true = refl
            same false = rest

    there_shifted : (js : Chains) → has_epoch p.time.epoch (chain_at (class_of p) (all_shifted plan (class_of p) p.time.epoch (minus 1) js)) ≡ has_epoch p.time.epoch (chain_at (class_of p) js)
    there_shifted [] = refl
    there_shifted (k ∷ js) = by (is_stamp (class_of p) k.0) (there_shifted js)
      where
        here : (b : Bool) → has_epoch p.time.epoch (cond b (changed_from p.time.epoch (minus 1) k.1) k.1) ≡ has_epoch p.time.epoch k.1
        here true = there_changed p.time.epoch k.1
        here false = refl

        by : (b : Bool) → has_epoch p.time.epoch (chain_at (class_of p) (all_shifted plan (class_of p) p.time.epoch (minus 1) js)) ≡ has_epoch p.time.epoch (chain_at (class_of p) js)
            → has_epoch p.time.epoch (unwrap_or (cond b (Some (cond (could_test plan (class_of p) k.0) (changed_from p.time.epoch (minus 1) k.1) k.1))
            (lookup (is_stamp (class_of p)) (all_shifted plan (class_of p) p.time.epoch (minus 1) js))) [])
            ≡ has_epoch p.time.epoch (unwrap_or (cond b (Some k.1) (lookup (is_stamp (class_of p)) js)) [])
        by true rest = here (could_test plan (class_of p) k.0)
        by false rest = rest

    pub there_lowered : HasEpoch p.time.epoch (chain_at (class_of p) lowered)
    there_lowered = there_shifted ks ∙ there

    pub go_total : total ks ≡ suc (total go_to)
    go_total = sym (total_shifted plan ks (class_of p) p.time.epoch (minus 1)) ∙ total_without lowered (class_of p) p.time.epoch there_lowered

    go_more : (d : Stamp) (lo f : ℕ) → between plan ks d lo f ≡ between plan go_to d lo f + counts_one plan (class_of p) d p.time.epoch lo f
    go_more d lo f =
        sym (between_shifted plan ks (class_of p) p.time.epoch (minus 1) d lo f) ∙ between_without plan lowered (class_of p) p.time.epoch there_lowered d lo f

    pub go_each : total ks < 2 ^ 64 → AllByRecursion (IsChain plan (between plan go_to)) go_to
    go_each fits =
        kept_without plan (between plan go_to) (λ d. between_splits plan go_to d)
        (λ d lo f. let a = between_le plan go_to d lo f in let b = go_total in omega (arith, a, b, fits))
        lowered (class_of p) p.time.epoch there_lowered
        (kept_lowered plan (between plan go_to) (between plan ks) (class_of p) p.time.epoch go_more ks kept.each)

    pub go_laid : IsLaidOut plan (keys_of go_to)
    go_laid = laid_go plan (class_of p) p.time.epoch (minus 1) ks kept.laid

-- An empty chain is let go
module _ (c : Stamp) where
  abbrev pub without_chain : Chains → Chains
  without_chain ks = remove_entry (is_stamp c) ks

  pub total_emptied : (ks : Chains) → chain_at c ks ≡ [] → total (without_chain ks) ≡ total ks
  total_emptied [] none = refl
  total_emptied (k ∷ ks) none = by (is_stamp c k.0) (total_emptied ks) none
    where
      by : (b : Bool) → (chain_at c ks ≡ [] → total (without_chain ks) ≡ total ks) → unwrap_or (cond b (Some k.1) (lookup (is_stamp c) ks)) [] ≡ []
          → total (cond b ks (k ∷ without_chain ks)) ≡ total (k ∷ ks)
      by true rest e = let a = sum_by-cons (λ (j : Stamp × Gaps). length j.1) k ks in let b = ap length e in omega (arith, a, b)
      by false rest e =
          let a = sum_by-cons (λ (j : Stamp × Gaps). length j.1) k ks in
          let b = sum_by-cons (λ (j : Stamp × Gaps). length j.1) k (without_chain ks) in
          let d = rest e in
          omega (arith, a, b, d)

  module _ (plan : List Line) where
    nothing_within : (b : Bool) (lo f : ℕ) (gs : Gaps) → gs ≡ [] → cond b (within lo f gs) 0 ≡ 0
    nothing_within true lo f gs e = ap (within lo f) e
    nothing_within false lo f gs e = refl

    between_emptied : (ks : Chains) → chain_at c ks ≡ [] → (d : Stamp) (lo f : ℕ) → between plan (without_chain ks) d lo f ≡ between plan ks d lo f
    between_emptied [] none d lo f = refl
    between_emptied (k ∷ ks) none d lo f = by (is_stamp c k.0) (λ e. between_emptied ks e d lo f) none
      where
        by : (b : Bool) → (chain_at c ks ≡ [] → between plan (without_chain ks) d lo f ≡ between plan ks d lo f) → unwrap_or (cond b (Some k.1) (lookup (is_stamp c) ks)) [] ≡ []
            → between plan (cond b ks (k ∷ without_chain ks)) d lo f ≡ between plan (k ∷ ks) d lo f
        by true rest e =
            let a = between-cons plan k ks d lo f in
            let b = nothing_within (could_test plan k.0 d) lo f k.1 e in
            omega (arith, a, b)
        by false rest e =
            let a = between-cons plan k ks d lo f in
            let b = between-cons plan k (without_chain ks) d lo f in
            let g = rest e in
            omega (arith, a, b, g)

    all_but : (P : Stamp × Gaps → Type 0) (ks : Chains) → AllByRecursion P ks → AllByRecursion P (without_chain ks)
    all_but P [] h = tt
    all_but P (k ∷ ks) h = by (is_stamp c k.0) (all_but P ks h.1)
      where
        by : (b : Bool) → AllByRecursion P (without_chain ks) → AllByRecursion P (cond b ks (k ∷ without_chain ks))
        by true rest = h.1
        by false rest = (h.0, rest)

    recounted : (count after : Stamp → ℕ → ℕ → ℕ) → ((d : Stamp) (lo f : ℕ) → after d lo f ≡ count d lo f) → (ks : Chains)
        → AllByRecursion (IsChain plan count) ks → AllByRecursion (IsChain plan after) ks
    recounted count after same [] h = tt
    recounted count after same (k ∷ ks) h =
        (record { of_plan = h.0.of_plan; class = h.0.class; gaps = gaps_same (count k.0) (after k.0) (same k.0) 0 k.1 h.0.gaps }, recounted count after same ks h.1)

    pub each_emptied : (ks : Chains) → chain_at c ks ≡ [] → AllByRecursion (IsChain plan (between plan ks)) ks → AllByRecursion (IsChain plan (between plan (without_chain ks))) (without_chain ks)
    each_emptied ks none h =
        recounted (between plan ks) (between plan (without_chain ks)) (between_emptied ks none) (without_chain ks) (all_but (IsChain plan (between plan ks)) ks h)

-- what is left after one went, its chain let go where it is empty
abbrev pub IsLeft : Stamp → Chains → Chains → Type 0
IsLeft c ks js = (js ≡ ks) ⊎ ((0 < depth c.time) × (chain_at c ks ≡ []) × (js ≡ remove_entry (is_stamp c) ks))

module _ (plan : List Line) (c : Stamp) (ks js : Chains) where
  pub left_total : IsLeft c ks js → total js ≡ total ks
  left_total (inl e) = ap total e
  left_total (inr h) = ap total h.2 ∙ total_emptied c ks h.1

  pub left_each : IsLeft c ks js → AllByRecursion (IsChain plan (between plan ks)) ks → AllByRecursion (IsChain plan (between plan js)) js
  left_each (inl e) h = subst (λ ls. AllByRecursion (IsChain plan (between plan ls)) ls) (sym e) h
  left_each (inr h) each = subst (λ ls. AllByRecursion (IsChain plan (between plan ls)) ls) (sym h.2) (each_emptied c plan ks h.1 each)

  pub left_laid : IsLeft c ks js → IsLaidOut plan (keys_of ks) → IsLaidOut plan (keys_of js)
  left_laid (inl e) h = subst (λ ls. IsLaidOut plan (keys_of ls)) (sym e) h
  left_laid (inr h) laid = subst (λ ls. IsLaidOut plan (keys_of ls)) (sym h.2) (laid_removed plan c ks h.0 laid)
