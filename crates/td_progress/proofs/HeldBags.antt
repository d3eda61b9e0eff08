-- The pointstamps that are held, as one comes and goes.
use Rattle.std.proofs.Common.{◌≡◌, ℕ, suc, ◌+◌, Bool, true, false, ◌&&◌, cond, List, [], ◌∷◌, map, length, Some, is_some, unwrap_or, refl, sym, ap, ◌∙◌, true≢false, arith}
use Rattle.std.proofs.lemmas.List.Sums.{sum_by-cons}
use Rattle.std.specs.List.{AllByRecursion, IsDistinct}
use Rattle.std.specs.Map.{keys_of, lookup}
use Rattle.std.specs.BTreeMap.{is_at}
use Rattle.std.specs.Ordering.{nat_cmp}
use Rattle.std.specs.Bool.{Decides}
use Rattle.std.proofs.lemmas.Bool.Decides.{same_from_decides}
use Rattle.std.proofs.lemmas.Map.{NonePasses}
use Rattle.std.proofs.lemmas.Map.Entries.{none_past_head}
use Rattle.td_plan.specs.Lines.{Line}
use Rattle.td_reach.specs.declared.stamp.Stamp.{Stamp}
use Rattle.td_progress.specs.Bag.{is_stamp, occurrences}
use Rattle.td_progress.specs.Gaps.{Mark, has_epoch, with_epoch, without_epoch, AreGaps}
use Rattle.td_progress.specs.Held.{at, class_of, held, total, chain_at, with_stamp, without_stamp, IsChain}
use Rattle.td_progress.proofs.Same.{Decides-is_stamp, is_stamp-equiv}
use Rattle.td_progress.proofs.Counted.{one, occurrences-cons, occurrences-append}
use Rattle.td_progress.proofs.Gaps.{Gaps, at_is, at_not, has_above, length_with, length_without}
use Rattle.td_progress.proofs.Between.{Chains, HasEpoch}

-- the pointstamps of one chain
abbrev pub stamps_of : Stamp → Gaps → List Stamp
stamps_of k gs = map (λ g. at g.0 k) gs

-- how many there are
pub total_with : (ks : Chains) (c : Stamp) (e : ℕ) (n : Mark) → total (with_stamp c e n ks) ≡ suc (total ks)
total_with [] c e n = refl
total_with (k ∷ ks) c e n = by (is_stamp c k.0) (total_with ks c e n)
  where
    by : (b : Bool) → total (with_stamp c e n ks) ≡ suc (total ks) → total (cond b ((k.0, with_epoch e n k.1) ∷ ks) (k ∷ with_stamp c e n ks)) ≡ suc (total (k ∷ ks))
    by true rest =
        let a = sum_by-cons (λ (j : Stamp × Gaps). length j.1) (k.0, with_epoch e n k.1) ks in
        let b = sum_by-cons (λ (j : Stamp × Gaps). length j.1) k ks in
        let d = length_with e n k.1 in
        omega (arith, a, b, d)
    by false d =
        let a = sum_by-cons (λ (j : Stamp × Gaps). length j.1) k (with_stamp c e n ks) in
        let b = sum_by-cons (λ (j : Stamp × Gaps). length j.1) k ks in
        omega (arith, a, b, d)

pub total_without : (ks : Chains) (c : Stamp) (e : ℕ) → HasEpoch e (chain_at c ks) → total ks ≡ suc (total (without_stamp c e ks))
total_without [] c e there = absurd (true≢false (sym there))
total_without (k ∷ ks) c e there = by (is_stamp c k.0) refl (total_without ks c e)
  where
    by : (b : Bool) → is_stamp c k.0 ≡ b → (HasEpoch e (chain_at c ks) → total ks ≡ suc (total (without_stamp c e ks))) → total (k ∷ ks) ≡ suc (total (cond b ((k.0, without_epoch e k.1) ∷ ks) (k ∷ without_stamp c e ks)))
    by true same rest =
        let own : HasEpoch e k.1 = sym (ap (λ b. is_some (lookup (is_at (nat_cmp e)) (unwrap_or (cond b (Some k.1) (lookup (is_stamp c) ks)) []))) same) ∙ there in
        let a = sum_by-cons (λ (j : Stamp × Gaps). length j.1) k ks in
        let b = sum_by-cons (λ (j : Stamp × Gaps). length j.1) (k.0, without_epoch e k.1) ks in
        let d = length_without e k.1 own in
        omega (arith, a, b, d)
    by false apart rest =
        let a = sum_by-cons (λ (j : Stamp × Gaps). length j.1) k ks in
        let b = sum_by-cons (λ (j : Stamp × Gaps). length j.1) k (without_stamp c e ks) in
        let d = rest (sym (ap (λ b. is_some (lookup (is_at (nat_cmp e)) (unwrap_or (cond b (Some k.1) (lookup (is_stamp c) ks)) []))) apart) ∙ there) in
        omega (arith, a, b, d)

-- What is held: a pointstamp is held once where its epoch is in its chain, and not otherwise
pub at_class : (k : Stamp) → k.time.epoch ≡ 0 → at 0 k ≡ k
at_class k h = λ i. record { time = record { epoch = sym h i; turns = k.time.turns }; place = k.place }

same_both : (x : ℕ) (p k : Stamp) → p.time.epoch ≡ x → class_of p ≡ k → at x k ≡ p
same_both x p k e c = (λ i. at (sym e i) (sym c i))

Decides-at : (x : ℕ) (p k : Stamp) → k.time.epoch ≡ 0 → Decides (is_at (nat_cmp p.time.epoch) x && is_stamp (class_of p) k) (p ≡ at x k)
Decides-at x p k class = by (is_at (nat_cmp p.time.epoch) x) refl (is_stamp (class_of p) k) refl
  where
    by : (a : Bool) → is_at (nat_cmp p.time.epoch) x ≡ a → (b : Bool) → is_stamp (class_of p) k ≡ b → Decides (a && b) (p ≡ at x k)
    by true e true f = (λ h. sym (same_both x p k (at_is p.time.epoch x e) ((Decides-is_stamp (class_of p) k).0 f)), λ h. refl)
    by true e false f =
        (λ h. absurd (true≢false (sym h)), λ h. absurd (true≢false (sym ((Decides-is_stamp (class_of p) k).1 (ap class_of h ∙ at_class k class)) ∙ f)))
    by false e b f = (λ h. absurd (true≢false (sym h)), λ h. absurd (at_not p.time.epoch x e (ap (λ s. s.time.epoch) h)))

pub is_stamp-at : (x : ℕ) (p k : Stamp) → k.time.epoch ≡ 0 → is_stamp p (at x k) ≡ (is_at (nat_cmp p.time.epoch) x && is_stamp (class_of p) k)
is_stamp-at x p k class = same_from_decides _ _ (Decides-is_stamp p (at x k)) (Decides-at x p k class)

module _ (count : ℕ → ℕ → ℕ) (p k : Stamp) (class : k.time.epoch ≡ 0) where
  occurs_chain : (lo : ℕ) (gs : Gaps) → AreGaps count lo gs → occurrences p (stamps_of k gs) ≡ cond (is_stamp (class_of p) k) (one (has_epoch p.time.epoch gs)) 0
  occurs_chain lo [] h = by (is_stamp (class_of p) k)
    where
      by : (b : Bool) → ◌≡◌ {A = ℕ} 0 (cond b 0 0)
      by true = refl
      by false = refl
  occurs_chain lo (g ∷ gs) h =
      occurrences-cons p (at g.0 k) (stamps_of k gs)
      ∙ ap (λ b. one b + occurrences p (stamps_of k gs)) (is_stamp-at g.0 p k class)
      ∙ by (is_at (nat_cmp p.time.epoch) g.0) refl (is_stamp (class_of p) k) (occurs_chain (suc g.0) gs h.2)
    where
      by : (a : Bool) → is_at (nat_cmp p.time.epoch) g.0 ≡ a → (b : Bool) → occurrences p (stamps_of k gs) ≡ cond b (one (has_epoch p.time.epoch gs)) 0
          → one (a && b) + occurrences p (stamps_of k gs) ≡ cond b (one (is_some (cond a (Some g.1) (lookup (is_at (nat_cmp p.time.epoch)) gs)))) 0
      by true e true rest = none (has_epoch p.time.epoch gs) refl rest
        where
          none : (b : Bool) → has_epoch p.time.epoch gs ≡ b → occurrences p (stamps_of k gs) ≡ one b → 1 + occurrences p (stamps_of k gs) ≡ 1
          none true there rest' = (let above = has_above count p.time.epoch (suc g.0) gs h.2 there in let is = at_is p.time.epoch g.0 e in absurd (omega (arith, above, is)))
          none false gone rest' = omega (arith, rest')
      by true e false rest = omega (arith, rest)
      by false e true rest = omega (arith, rest)
      by false e false rest = omega (arith, rest)

distinct_tail : (k : Stamp × Gaps) (ks : Chains) → IsDistinct is_stamp (keys_of (k ∷ ks)) → IsDistinct is_stamp (keys_of ks)
unfolding IsDistinct
distinct_tail k ks h = h.1

module _ (plan : List Line) (count : Stamp → ℕ → ℕ → ℕ) (p : Stamp) where
  absent : (ks : Chains) → AllByRecursion (IsChain plan count) ks → NonePasses (is_stamp (class_of p)) ks → occurrences p (held ks) ≡ 0
  absent [] each none = refl
  absent (k ∷ ks) each none =
      let a = occurrences-append p (stamps_of k.0 k.1) (held ks) in
      let b = occurs_chain (count k.0) p k.0 each.0.class 0 k.1 each.0.gaps ∙ ap (λ b. cond b (one (has_epoch p.time.epoch k.1)) 0) none.0 in
      let rest = absent ks each.1 none.1 in
      omega (arith, a, b, rest)

  pub occurs_held : (ks : Chains) → IsDistinct is_stamp (keys_of ks) → AllByRecursion (IsChain plan count) ks → occurrences p (held ks) ≡ one (has_epoch p.time.epoch (chain_at (class_of p) ks))
  occurs_held [] once each = refl
  occurs_held (k ∷ ks) once each =
      occurrences-append p (stamps_of k.0 k.1) (held ks)
      ∙ ap (λ n. n + occurrences p (held ks)) (occurs_chain (count k.0) p k.0 each.0.class 0 k.1 each.0.gaps)
      ∙ by (is_stamp (class_of p) k.0) refl (occurs_held ks (distinct_tail k ks once) each.1)
    where
      by : (b : Bool) → is_stamp (class_of p) k.0 ≡ b → occurrences p (held ks) ≡ one (has_epoch p.time.epoch (chain_at (class_of p) ks))
          → cond b (one (has_epoch p.time.epoch k.1)) 0 + occurrences p (held ks) ≡ one (has_epoch p.time.epoch (unwrap_or (cond b (Some k.1) (lookup (is_stamp (class_of p)) ks)) []))
      by true same rest = let none = absent ks each.1 (none_past_head is_stamp-equiv (class_of p) k ks once same) in omega (arith, none)
      by false apart rest = omega (arith, rest)
