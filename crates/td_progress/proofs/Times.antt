-- How often each pointstamp occurs, as one comes, goes, or occurs more often or less.
use Rattle.std.proofs.Common.{◌≡◌, ℕ, zero, suc, ◌+◌, ◌-◌, ◌<◌, ◌≤◌, Bool, true, false, ◌&&◌, cond, List, [], ◌∷◌, ◌++◌, replicate, length, slice_get, Option, Some, None, is_some, unwrap_or, inl, inr, refl, sym, ap, ◌∙◌, subst, true≢false, arith, nat_lt, nat_le}
use Rattle.std.specs.List.{AllByRecursion, IsDistinct, list_all}
use Rattle.std.specs.Map.{keys_of, lookup, remove_entry}
use Rattle.std.specs.BTreeMap.{is_at}
use Rattle.std.specs.Ordering.{nat_cmp}
use Rattle.std.proofs.lemmas.Map.{NonePasses}
use Rattle.std.proofs.lemmas.Map.Entries.{none_past_head}
use Rattle.td_plan.specs.Lines.{Line}
use Rattle.td_reach.specs.declared.stamp.Stamp.{Stamp}
use Rattle.td_reach.specs.Paths.{IsOf}
use Rattle.td_reach.specs.Frontier.{has_passed}
use Rattle.td_reach.specs.Tables.{could_test}
use Rattle.td_progress.specs.Bag.{is_stamp, occurrences}
use Rattle.td_progress.specs.Gaps.{Mark, with_gap, with_times, nothing, changed_from, plus, minus, with_epoch, without_epoch, timed, gap_at, times_at, AreGaps, AreTimed}
use Rattle.td_progress.specs.Held.{at, class_of, held, marked, all_marked, between, chain_at, with_stamp, without_stamp, timed_stamp, shifted, AllTimed, IsChain, IsLaidOut, IsPosition, AreHeld}
use Rattle.td_progress.proofs.Same.{Decides-is_stamp, is_stamp-equiv}
use Rattle.td_progress.proofs.Counted.{one, if_so, none_is_some, occurrences-append, occurrences-more, stands}
use Rattle.td_progress.proofs.Free.{all-has, all-append, all-replicate}
use Rattle.td_progress.proofs.Gaps.{Gaps, at_is, has_above}
use Rattle.td_progress.proofs.Between.{Chains, HasEpoch, all_shifted, keys_shifted, between_timed, kept_timed, keys_timed}
use Rattle.td_progress.proofs.HeldBags.{occurs_held, is_stamp-at}
use Rattle.td_progress.proofs.Laid.{keys_without}
use Rattle.td_progress.proofs.HeldCounts.{other_epoch}
use Rattle.td_progress.proofs.HeldMoves.{IsLeft, lowered, go_to, there_lowered}
use Rattle.td_progress.proofs.Marked.{AreMarked, mark, mark_some}

-- A gap changes: nothing else does
marked_changed : (k : Stamp) (e : ℕ) (h : ℕ → ℕ) (gs : Gaps) → marked (k, changed_from e h gs) ≡ marked (k, gs)
marked_changed k e h [] = refl
marked_changed k e h (g ∷ gs) = by (nat_le e g.0) (marked_changed k e h gs)
  where
    by : (b : Bool) → marked (k, changed_from e h gs) ≡ marked (k, gs) → marked (k, cond b ((g.0, with_gap h g.1) ∷ gs) (g ∷ changed_from e h gs)) ≡ marked (k, g ∷ gs)
    by true rest = refl
    by false rest = ap (λ xs. replicate g.1.times (at g.0 k) ++ xs) rest

pub all_marked_shifted : (plan : List Line) (ks : Chains) (c : Stamp) (e : ℕ) (h : ℕ → ℕ) → all_marked (all_shifted plan c e h ks) ≡ all_marked ks
all_marked_shifted plan [] c e h = refl
all_marked_shifted plan (k ∷ ks) c e h = (λ i. by (could_test plan c k.0) i ++ all_marked_shifted plan ks c e h i)
  where
    by : (b : Bool) → marked (k.0, cond b (changed_from e h k.1) k.1) ≡ marked k
    by true = marked_changed k.0 e h k.1
    by false = refl

module _ (q : Stamp) where
  first_marked : (k : Stamp) (g : ℕ × Mark) (gs : Gaps) → occurrences q (marked (k, g ∷ gs)) ≡ if_so (is_stamp q (at g.0 k)) g.1.times + occurrences q (marked (k, gs))
  first_marked k g gs = occurrences-more q g.1.times (at g.0 k) (marked (k, gs))

  -- One comes
  marked_with : (k : Stamp) (e : ℕ) (m : Mark) (gs : Gaps) → occurrences q (marked (k, with_epoch e m gs)) ≡ if_so (is_stamp q (at e k)) m.times + occurrences q (marked (k, gs))
  marked_with k e m [] = first_marked k (e, m) []
  marked_with k e m (g ∷ gs) = by (nat_lt e g.0) (marked_with k e m gs)
    where
      by : (b : Bool) → occurrences q (marked (k, with_epoch e m gs)) ≡ if_so (is_stamp q (at e k)) m.times + occurrences q (marked (k, gs))
          → occurrences q (marked (k, cond b ((e, m) ∷ (g.0, with_gap (minus m.gap) g.1) ∷ gs) (g ∷ with_epoch e m gs))) ≡ if_so (is_stamp q (at e k)) m.times + occurrences q (marked (k, g ∷ gs))
      by true rest = first_marked k (e, m) ((g.0, with_gap (minus m.gap) g.1) ∷ gs)
      by false rest =
          let a = first_marked k g (with_epoch e m gs) in
          let b = first_marked k g gs in
          omega (arith, a, b, rest)

  pub all_marked_with : (ks : Chains) (c : Stamp) (e : ℕ) (m : Mark) → occurrences q (all_marked (with_stamp c e m ks)) ≡ if_so (is_stamp q (at e c)) m.times + occurrences q (all_marked ks)
  all_marked_with [] c e m =
      let a = occurrences-append q (marked (c, with_epoch e m [])) [] in
      let b = marked_with c e m [] in
      omega (arith, a, b)
  all_marked_with (k ∷ ks) c e m = by (is_stamp c k.0) refl (all_marked_with ks c e m)
    where
      by : (b : Bool) → is_stamp c k.0 ≡ b → occurrences q (all_marked (with_stamp c e m ks)) ≡ if_so (is_stamp q (at e c)) m.times + occurrences q (all_marked ks)
          → occurrences q (all_marked (cond b ((k.0, with_epoch e m k.1) ∷ ks) (k ∷ with_stamp c e m ks))) ≡ if_so (is_stamp q (at e c)) m.times + occurrences q (all_marked (k ∷ ks))
      by true same rest =
          let a = occurrences-append q (marked (k.0, with_epoch e m k.1)) (all_marked ks) in
          let b = marked_with k.0 e m k.1 in
          let d = occurrences-append q (marked k) (all_marked ks) in
          let is = ap (λ s. if_so (is_stamp q (at e s)) m.times) ((Decides-is_stamp c k.0).0 same) in
          omega (arith, a, b, d, is)
      by false apart rest =
          let a = occurrences-append q (marked k) (all_marked (with_stamp c e m ks)) in
          let d = occurrences-append q (marked k) (all_marked ks) in
          omega (arith, a, d, rest)

  -- One goes
  marked_removed : (k : Stamp) (e : ℕ) (gs : Gaps) → HasEpoch e gs
      → occurrences q (marked (k, gs)) ≡ if_so (is_stamp q (at e k)) (times_at e gs) + occurrences q (marked (k, remove_entry (is_at (nat_cmp e)) gs))
  marked_removed k e [] there = absurd (true≢false (sym there))
  marked_removed k e (g ∷ gs) there = by (is_at (nat_cmp e) g.0) refl there (marked_removed k e gs)
    where
      by : (b : Bool) → is_at (nat_cmp e) g.0 ≡ b → is_some (cond b (Some g.1) (lookup (is_at (nat_cmp e)) gs)) ≡ true
          → (HasEpoch e gs → occurrences q (marked (k, gs)) ≡ if_so (is_stamp q (at e k)) (times_at e gs) + occurrences q (marked (k, remove_entry (is_at (nat_cmp e)) gs)))
          → occurrences q (marked (k, g ∷ gs)) ≡ if_so (is_stamp q (at e k)) ((unwrap_or (cond b (Some g.1) (lookup (is_at (nat_cmp e)) gs)) nothing).times)
          + occurrences q (marked (k, cond b gs (g ∷ remove_entry (is_at (nat_cmp e)) gs)))
      by true same h rest = first_marked k g gs ∙ ap (λ x. if_so (is_stamp q (at x k)) g.1.times + occurrences q (marked (k, gs))) (sym (at_is e g.0 same))
      by false apart h rest =
          let a = first_marked k g gs in
          let b = rest h in
          let d = first_marked k g (remove_entry (is_at (nat_cmp e)) gs) in
          omega (arith, a, b, d)

  marked_without : (k : Stamp) (e : ℕ) (gs : Gaps) → HasEpoch e gs → occurrences q (marked (k, gs)) ≡ if_so (is_stamp q (at e k)) (times_at e gs) + occurrences q (marked (k, without_epoch e gs))
  marked_without k e gs there =
      marked_removed k e gs there
      ∙ ap (λ xs. if_so (is_stamp q (at e k)) (times_at e gs) + occurrences q xs) (sym (marked_changed k e (plus (gap_at e gs)) (remove_entry (is_at (nat_cmp e)) gs)))

  pub all_marked_without : (ks : Chains) (c : Stamp) (e : ℕ) → HasEpoch e (chain_at c ks)
      → occurrences q (all_marked ks) ≡ if_so (is_stamp q (at e c)) (times_at e (chain_at c ks)) + occurrences q (all_marked (without_stamp c e ks))
  all_marked_without [] c e there = absurd (true≢false (sym there))
  all_marked_without (k ∷ ks) c e there = by (is_stamp c k.0) refl there (all_marked_without ks c e)
    where
      by : (b : Bool) → is_stamp c k.0 ≡ b → HasEpoch e (unwrap_or (cond b (Some k.1) (lookup (is_stamp c) ks)) [])
          → (HasEpoch e (chain_at c ks) → occurrences q (all_marked ks) ≡ if_so (is_stamp q (at e c)) (times_at e (chain_at c ks)) + occurrences q (all_marked (without_stamp c e ks)))
          → occurrences q (all_marked (k ∷ ks)) ≡ if_so (is_stamp q (at e c)) (times_at e (unwrap_or (cond b (Some k.1) (lookup (is_stamp c) ks)) []))
          + occurrences q (all_marked (cond b ((k.0, without_epoch e k.1) ∷ ks) (k ∷ without_stamp c e ks)))
      by true same h rest =
          let a = occurrences-append q (marked k) (all_marked ks) in
          let b = marked_without k.0 e k.1 h in
          let d = occurrences-append q (marked (k.0, without_epoch e k.1)) (all_marked ks) in
          let is = ap (λ s. if_so (is_stamp q (at e s)) (times_at e k.1)) ((Decides-is_stamp c k.0).0 same) in
          omega (arith, a, b, d, is)
      by false apart h rest =
          let a = occurrences-append q (marked k) (all_marked ks) in
          let b = rest h in
          let d = occurrences-append q (marked k) (all_marked (without_stamp c e ks)) in
          omega (arith, a, b, d)

  -- One occurs more often, or less
  marked_timed : (k : Stamp) (e : ℕ) (f : ℕ → ℕ) (gs : Gaps) → HasEpoch e gs
      → occurrences q (marked (k, timed e f gs)) + if_so (is_stamp q (at e k)) (times_at e gs) ≡ if_so (is_stamp q (at e k)) (f (times_at e gs)) + occurrences q (marked (k, gs))
  marked_timed k e f [] there = absurd (true≢false (sym there))
  marked_timed k e f (g ∷ gs) there = by (is_at (nat_cmp e) g.0) refl there (marked_timed k e f gs)
    where
      by : (b : Bool) → is_at (nat_cmp e) g.0 ≡ b → is_some (cond b (Some g.1) (lookup (is_at (nat_cmp e)) gs)) ≡ true
          → (HasEpoch e gs
          → occurrences q (marked (k, timed e f gs)) + if_so (is_stamp q (at e k)) (times_at e gs) ≡ if_so (is_stamp q (at e k)) (f (times_at e gs)) + occurrences q (marked (k, gs)))
          → occurrences q (marked (k, cond b ((g.0, with_times f g.1) ∷ gs) (g ∷ timed e f gs))) + if_so (is_stamp q (at e k)) ((unwrap_or (cond b (Some g.1) (lookup (is_at (nat_cmp e)) gs)) nothing).times)
          ≡ if_so (is_stamp q (at e k)) (f (unwrap_or (cond b (Some g.1) (lookup (is_at (nat_cmp e)) gs)) nothing).times) + occurrences q (marked (k, g ∷ gs))
      by true same h rest =
          let a = first_marked k (g.0, with_times f g.1) gs in
          let b = first_marked k g gs in
          let is = ap (λ x. if_so (is_stamp q (at x k)) g.1.times) (at_is e g.0 same) in
          let on = ap (λ x. if_so (is_stamp q (at x k)) (f g.1.times)) (at_is e g.0 same) in
          omega (arith, a, b, is, on)
      by false apart h rest =
          let a = first_marked k g (timed e f gs) in
          let b = first_marked k g gs in
          let d = rest h in
          omega (arith, a, b, d)

  pub all_marked_timed : (ks : Chains) (c : Stamp) (e : ℕ) (f : ℕ → ℕ) → HasEpoch e (chain_at c ks)
      → occurrences q (all_marked (timed_stamp c e f ks)) + if_so (is_stamp q (at e c)) (times_at e (chain_at c ks))
      ≡ if_so (is_stamp q (at e c)) (f (times_at e (chain_at c ks))) + occurrences q (all_marked ks)
  all_marked_timed [] c e f there = absurd (true≢false (sym there))
  all_marked_timed (k ∷ ks) c e f there = by (is_stamp c k.0) refl there (all_marked_timed ks c e f)
    where
      by : (b : Bool) → is_stamp c k.0 ≡ b → HasEpoch e (unwrap_or (cond b (Some k.1) (lookup (is_stamp c) ks)) [])
          → (HasEpoch e (chain_at c ks)
          → occurrences q (all_marked (timed_stamp c e f ks)) + if_so (is_stamp q (at e c)) (times_at e (chain_at c ks))
          ≡ if_so (is_stamp q (at e c)) (f (times_at e (chain_at c ks))) + occurrences q (all_marked ks))
          → occurrences q (all_marked (cond b ((k.0, timed e f k.1) ∷ ks) (k ∷ timed_stamp c e f ks)))
          + if_so (is_stamp q (at e c)) (times_at e (unwrap_or (cond b (Some k.1) (lookup (is_stamp c) ks)) []))
          ≡ if_so (is_stamp q (at e c)) (f (times_at e (unwrap_or (cond b (Some k.1) (lookup (is_stamp c) ks)) []))) + occurrences q (all_marked (k ∷ ks))
      by true same h rest =
          let a = occurrences-append q (marked (k.0, timed e f k.1)) (all_marked ks) in
          let b = marked_timed k.0 e f k.1 h in
          let d = occurrences-append q (marked k) (all_marked ks) in
          let is = ap (λ s. if_so (is_stamp q (at e s)) (times_at e k.1)) ((Decides-is_stamp c k.0).0 same) in
          let on = ap (λ s. if_so (is_stamp q (at e s)) (f (times_at e k.1))) ((Decides-is_stamp c k.0).0 same) in
          omega (arith, a, b, d, is, on)
      by false apart h rest =
          let a = occurrences-append q (marked k) (all_marked (timed_stamp c e f ks)) in
          let b = rest h in
          let d = occurrences-append q (marked k) (all_marked ks) in
          omega (arith, a, b, d)

-- An empty chain is let go
pub all_marked_left : (c : Stamp) (ks js : Chains) → IsLeft c ks js → all_marked js ≡ all_marked ks
all_marked_left c ks js (inl e) = ap all_marked e
all_marked_left c ks js (inr h) = ap all_marked h.2 ∙ emptied ks h.1
  where
    emptied : (ks : Chains) → chain_at c ks ≡ [] → all_marked (remove_entry (is_stamp c) ks) ≡ all_marked ks
    emptied [] none = refl
    emptied (k ∷ ks) none = by (is_stamp c k.0) (emptied ks) none
      where
        by : (b : Bool) → (chain_at c ks ≡ [] → all_marked (remove_entry (is_stamp c) ks) ≡ all_marked ks) → unwrap_or (cond b (Some k.1) (lookup (is_stamp c) ks)) [] ≡ []
            → all_marked (cond b ks (k ∷ remove_entry (is_stamp c) ks)) ≡ all_marked (k ∷ ks)
        by true rest e = ap (λ (gs : Gaps). marked (k.0, gs) ++ all_marked ks) (sym e)
        by false rest e = ap (λ xs. marked k ++ xs) (rest e)

-- A POINTSTAMP OCCURS as often as its place and counters have it for its epoch
module _ (count : ℕ → ℕ → ℕ) (p k : Stamp) (class : k.time.epoch ≡ 0) where
  none_of : (gs : Gaps) → is_some (lookup (is_at (nat_cmp p.time.epoch)) gs) ≡ false → times_at p.time.epoch gs ≡ 0
  none_of gs gone = of (lookup (is_at (nat_cmp p.time.epoch)) gs) gone
    where
      of : (o : Option Mark) → is_some o ≡ false → (unwrap_or o nothing).times ≡ 0
      of None h = refl
      of (Some m) h = absurd (true≢false h)

  occurs_marked : (lo : ℕ) (gs : Gaps) → AreGaps count lo gs → occurrences p (marked (k, gs)) ≡ if_so (is_stamp (class_of p) k) (times_at p.time.epoch gs)
  occurs_marked lo [] h = by (is_stamp (class_of p) k)
    where
      by : (b : Bool) → ◌≡◌ {A = ℕ} 0 (if_so b 0)
      by true = refl
      by false = refl
  occurs_marked lo (g ∷ gs) h =
      first_marked p k g gs
      ∙ ap (λ b. if_so b g.1.times + occurrences p (marked (k, gs))) (is_stamp-at g.0 p k class)
      ∙ by (is_at (nat_cmp p.time.epoch) g.0) refl (is_stamp (class_of p) k) (occurs_marked (suc g.0) gs h.2)
    where
      gone : is_at (nat_cmp p.time.epoch) g.0 ≡ true → times_at p.time.epoch gs ≡ 0
      gone same = none_of gs (not_later (is_some (lookup (is_at (nat_cmp p.time.epoch)) gs)) refl)
        where
          not_later : (b : Bool) → is_some (lookup (is_at (nat_cmp p.time.epoch)) gs) ≡ b → is_some (lookup (is_at (nat_cmp p.time.epoch)) gs) ≡ false
          not_later true there =
              let above = has_above count p.time.epoch (suc g.0) gs h.2 there in
              let is = at_is p.time.epoch g.0 same in
              absurd (omega (arith, above, is))
          not_later false there = there

      by : (a : Bool) → is_at (nat_cmp p.time.epoch) g.0 ≡ a → (b : Bool) → occurrences p (marked (k, gs)) ≡ if_so b (times_at p.time.epoch gs)
          → if_so (a && b) g.1.times + occurrences p (marked (k, gs)) ≡ if_so b ((unwrap_or (cond a (Some g.1) (lookup (is_at (nat_cmp p.time.epoch)) gs)) nothing).times)
      by true e true rest = let none = gone e in omega (arith, rest, none)
      by true e false rest = omega (arith, rest)
      by false e true rest = omega (arith, rest)
      by false e false rest = omega (arith, rest)

distinct_tail : (k : Stamp × Gaps) (ks : Chains) → IsDistinct is_stamp (keys_of (k ∷ ks)) → IsDistinct is_stamp (keys_of ks)
unfolding IsDistinct
distinct_tail k ks h = h.1

module _ (plan : List Line) (count : Stamp → ℕ → ℕ → ℕ) (p : Stamp) where
  absent : (ks : Chains) → AllByRecursion (IsChain plan count) ks → NonePasses (is_stamp (class_of p)) ks → occurrences p (all_marked ks) ≡ 0
  absent [] each none = refl
  absent (k ∷ ks) each none =
      let a = occurrences-append p (marked k) (all_marked ks) in
      let b = occurs_marked (count k.0) p k.0 each.0.class 0 k.1 each.0.gaps ∙ ap (λ b. if_so b (times_at p.time.epoch k.1)) none.0 in
      let rest = absent ks each.1 none.1 in
      omega (arith, a, b, rest)

  pub occurs_in_all : (ks : Chains) → IsDistinct is_stamp (keys_of ks) → AllByRecursion (IsChain plan count) ks → occurrences p (all_marked ks) ≡ times_at p.time.epoch (chain_at (class_of p) ks)
  occurs_in_all [] once each = refl
  occurs_in_all (k ∷ ks) once each =
      occurrences-append p (marked k) (all_marked ks)
      ∙ ap (λ n. n + occurrences p (all_marked ks)) (occurs_marked (count k.0) p k.0 each.0.class 0 k.1 each.0.gaps)
      ∙ by (is_stamp (class_of p) k.0) refl (occurs_in_all ks (distinct_tail k ks once) each.1)
    where
      by : (b : Bool) → is_stamp (class_of p) k.0 ≡ b → occurrences p (all_marked ks) ≡ times_at p.time.epoch (chain_at (class_of p) ks)
          → if_so b (times_at p.time.epoch k.1) + occurrences p (all_marked ks) ≡ times_at p.time.epoch (unwrap_or (cond b (Some k.1) (lookup (is_stamp (class_of p)) ks)) [])
      by true same rest = let none = absent ks each.1 (none_past_head is_stamp-equiv (class_of p) k ks once same) in omega (arith, none)
      by false other rest = omega (arith, rest)

-- and is held once where it does
some_timed : (e : ℕ) (gs : Gaps) → AreTimed gs → HasEpoch e gs → 0 < times_at e gs
some_timed e [] all there = absurd (true≢false (sym there))
some_timed e (g ∷ gs) all there = by (is_at (nat_cmp e) g.0) there (some_timed e gs all.1)
  where
    by : (b : Bool) → is_some (cond b (Some g.1) (lookup (is_at (nat_cmp e)) gs)) ≡ true → (HasEpoch e gs → 0 < times_at e gs) → 0 < (unwrap_or (cond b (Some g.1) (lookup (is_at (nat_cmp e)) gs)) nothing).times
    by true h rest = all.0
    by false h rest = rest h

timed_of : (c : Stamp) (ks : Chains) → AllTimed ks → AreTimed (chain_at c ks)
timed_of c [] all = tt
timed_of c (k ∷ ks) all = by (is_stamp c k.0) (timed_of c ks all.1)
  where
    by : (b : Bool) → AreTimed (chain_at c ks) → AreTimed (unwrap_or (cond b (Some k.1) (lookup (is_stamp c) ks)) [])
    by true rest = all.0
    by false rest = rest

module _ (plan : List Line) (ks : Chains) (kept : AreHeld plan ks) (p : Stamp) where
  pub occurs_at : occurrences p (all_marked ks) ≡ times_at p.time.epoch (chain_at (class_of p) ks)
  occurs_at = occurs_in_all plan (between plan ks) p ks kept.once kept.each

  pub stands_at : 0 < occurrences p (all_marked ks) → HasEpoch p.time.epoch (chain_at (class_of p) ks)
  stands_at some = by (lookup (is_at (nat_cmp p.time.epoch)) (chain_at (class_of p) ks)) (subst (λ n. 0 < n) occurs_at some)
    where
      by : (o : Option Mark) → 0 < (unwrap_or o nothing).times → is_some o ≡ true
      by None h = absurd (omega (arith, h))
      by (Some m) h = refl

pub are_marked : (plan : List Line) (ks : Chains) → AreHeld plan ks → AllTimed ks → AreMarked ks (all_marked ks)
are_marked plan ks kept all p =
    occurs_held plan (between plan ks) p ks kept.once kept.each
    ∙ (by (lookup (is_at (nat_cmp p.time.epoch)) (chain_at (class_of p) ks)) (some_timed p.time.epoch (chain_at (class_of p) ks) (timed_of (class_of p) ks all)) ∙ ap mark (sym (occurs_at plan ks kept p)))
  where
    by : (o : Option Mark) → (is_some o ≡ true → 0 < (unwrap_or o nothing).times) → one (is_some o) ≡ mark (unwrap_or o nothing).times
    by None h = refl
    by (Some m) h = sym (mark_some m.times (h refl))

-- EACH THAT IS HELD OCCURS, as one comes, goes, or occurs more often or less
timed_changed : (e : ℕ) (f : ℕ → ℕ) (gs : Gaps) → AreTimed gs → AreTimed (changed_from e f gs)
timed_changed e f [] all = tt
timed_changed e f (g ∷ gs) all = by (nat_le e g.0) (timed_changed e f gs all.1)
  where
    by : (b : Bool) → AreTimed (changed_from e f gs) → AreTimed (cond b ((g.0, with_gap f g.1) ∷ gs) (g ∷ changed_from e f gs))
    by true rest = all
    by false rest = (all.0, rest)

pub timed_shifted : (plan : List Line) (c : Stamp) (e : ℕ) (f : ℕ → ℕ) (ks : Chains) → AllTimed ks → AllTimed (all_shifted plan c e f ks)
timed_shifted plan c e f [] all = tt
timed_shifted plan c e f (k ∷ ks) all = (by (could_test plan c k.0), timed_shifted plan c e f ks all.1)
  where
    by : (b : Bool) → AreTimed (cond b (changed_from e f k.1) k.1)
    by true = timed_changed e f k.1 all.0
    by false = all.0

timed_with : (e : ℕ) (m : Mark) (gs : Gaps) → 0 < m.times → AreTimed gs → AreTimed (with_epoch e m gs)
timed_with e m [] some all = (some, tt)
timed_with e m (g ∷ gs) some all = by (nat_lt e g.0) (timed_with e m gs some all.1)
  where
    by : (b : Bool) → AreTimed (with_epoch e m gs) → AreTimed (cond b ((e, m) ∷ (g.0, with_gap (minus m.gap) g.1) ∷ gs) (g ∷ with_epoch e m gs))
    by true rest = (some, all)
    by false rest = (all.0, rest)

pub all_timed_with : (c : Stamp) (e : ℕ) (m : Mark) (ks : Chains) → 0 < m.times → AllTimed ks → AllTimed (with_stamp c e m ks)
all_timed_with c e m [] some all = (timed_with e m [] some tt, tt)
all_timed_with c e m (k ∷ ks) some all = by (is_stamp c k.0) (all_timed_with c e m ks some all.1)
  where
    by : (b : Bool) → AllTimed (with_stamp c e m ks) → AllTimed (cond b ((k.0, with_epoch e m k.1) ∷ ks) (k ∷ with_stamp c e m ks))
    by true rest = (timed_with e m k.1 some all.0, all.1)
    by false rest = (all.0, rest)

timed_removed : (e : ℕ) (gs : Gaps) → AreTimed gs → AreTimed (remove_entry (is_at (nat_cmp e)) gs)
timed_removed e [] all = tt
timed_removed e (g ∷ gs) all = by (is_at (nat_cmp e) g.0) (timed_removed e gs all.1)
  where
    by : (b : Bool) → AreTimed (remove_entry (is_at (nat_cmp e)) gs) → AreTimed (cond b gs (g ∷ remove_entry (is_at (nat_cmp e)) gs))
    by true rest = all.1
    by false rest = (all.0, rest)

pub all_timed_without : (c : Stamp) (e : ℕ) (ks : Chains) → AllTimed ks → AllTimed (without_stamp c e ks)
all_timed_without c e [] all = tt
all_timed_without c e (k ∷ ks) all = by (is_stamp c k.0) (all_timed_without c e ks all.1)
  where
    by : (b : Bool) → AllTimed (without_stamp c e ks) → AllTimed (cond b ((k.0, without_epoch e k.1) ∷ ks) (k ∷ without_stamp c e ks))
    by true rest = (timed_changed e (plus (gap_at e k.1)) (remove_entry (is_at (nat_cmp e)) k.1) (timed_removed e k.1 all.0), all.1)
    by false rest = (all.0, rest)

pub all_timed_left : (c : Stamp) (ks js : Chains) → IsLeft c ks js → AllTimed ks → AllTimed js
all_timed_left c ks js (inl e) all = subst AllTimed (sym e) all
all_timed_left c ks js (inr h) all = subst AllTimed (sym h.2) (but ks all)
  where
    but : (ks : Chains) → AllTimed ks → AllTimed (remove_entry (is_stamp c) ks)
    but [] all' = tt
    but (k ∷ ks) all' = by (is_stamp c k.0) (but ks all'.1)
      where
        by : (b : Bool) → AllTimed (remove_entry (is_stamp c) ks) → AllTimed (cond b ks (k ∷ remove_entry (is_stamp c) ks))
        by true rest = all'.1
        by false rest = (all'.0, rest)

timed_timed : (e : ℕ) (f : ℕ → ℕ) (gs : Gaps) → 0 < f (times_at e gs) → AreTimed gs → AreTimed (timed e f gs)
timed_timed e f [] some all = tt
timed_timed e f (g ∷ gs) some all = by (is_at (nat_cmp e) g.0) some (λ h. timed_timed e f gs h all.1)
  where
    by : (b : Bool) → 0 < f (unwrap_or (cond b (Some g.1) (lookup (is_at (nat_cmp e)) gs)) nothing).times → (0 < f (times_at e gs) → AreTimed (timed e f gs))
        → AreTimed (cond b ((g.0, with_times f g.1) ∷ gs) (g ∷ timed e f gs))
    by true h rest = (h, all.1)
    by false h rest = (all.0, rest h)

pub all_timed_timed : (c : Stamp) (e : ℕ) (f : ℕ → ℕ) (ks : Chains) → 0 < f (times_at e (chain_at c ks)) → AllTimed ks → AllTimed (timed_stamp c e f ks)
all_timed_timed c e f [] some all = tt
all_timed_timed c e f (k ∷ ks) some all = by (is_stamp c k.0) some (λ h. all_timed_timed c e f ks h all.1)
  where
    by : (b : Bool) → 0 < f (times_at e (unwrap_or (cond b (Some k.1) (lookup (is_stamp c) ks)) [])) → (0 < f (times_at e (chain_at c ks)) → AllTimed (timed_stamp c e f ks))
        → AllTimed (cond b ((k.0, timed e f k.1) ∷ ks) (k ∷ timed_stamp c e f ks))
    by true h rest = (timed_timed e f k.1 h all.0, all.1)
    by false h rest = (all.0, rest h)

pub held_timed : (plan : List Line) (ks : Chains) (c : Stamp) (e : ℕ) (f : ℕ → ℕ) → AreHeld plan ks → AreHeld plan (timed_stamp c e f ks)
held_timed plan ks c e f kept = record {
  once = subst (λ js. IsDistinct is_stamp js) (sym (keys_timed plan ks c e f)) kept.once;
  laid = subst (λ js. IsLaidOut plan js) (sym (keys_timed plan ks c e f)) kept.laid;
  each = kept_timed plan (between plan ks) (between plan (timed_stamp c e f ks)) (λ d lo x. between_timed plan ks c e f d lo x) ks c e f kept.each;
}

-- each that occurs is of the plan
pub all_of_plan_marked : (plan : List Line) (count : Stamp → ℕ → ℕ → ℕ) (ks : Chains) → AllByRecursion (IsChain plan count) ks → AllByRecursion (IsOf plan) (all_marked ks)
all_of_plan_marked plan count [] h = tt
all_of_plan_marked plan count (k ∷ ks) h = all-append (IsOf plan) (marked k) (all_marked ks) (own k.1 h.0.of_plan) (all_of_plan_marked plan count ks h.1)
  where
    own : (gs : Gaps) → (0 < length gs → IsOf plan k.0) → AllByRecursion (IsOf plan) (marked (k.0, gs))
    own [] of_plan = tt
    own (g ∷ gs) of_plan =
        all-append (IsOf plan) (replicate g.1.times (at g.0 k.0)) (marked (k.0, gs))
        (all-replicate (IsOf plan) g.1.times (at g.0 k.0) (other_epoch plan k.0 g.0 (of_plan (omega arith))))
        (own gs (λ l. of_plan (omega arith)))

-- What occurs first in each chain is the first to hold an epoch back
passed-append : (xs ys : List Stamp) (e : ℕ) → has_passed (xs ++ ys) e ≡ (has_passed xs e && has_passed ys e)
passed-append [] ys e = refl
passed-append (x ∷ xs) ys e = ap (λ b. nat_lt e x.time.epoch && b) (passed-append xs ys e) ∙ and_assoc (nat_lt e x.time.epoch)
  where
    and_assoc : (b : Bool) → (b && (has_passed xs e && has_passed ys e)) ≡ ((b && has_passed xs e) && has_passed ys e)
    and_assoc true = refl
    and_assoc false = refl

passed-replicate : (n : ℕ) (x : Stamp) (e : ℕ) → 0 < n → has_passed (replicate n x) e ≡ nat_lt e x.time.epoch
passed-replicate zero x e h = absurd (omega (arith, h))
passed-replicate (suc zero) x e h = by (nat_lt e x.time.epoch)
  where
    by : (b : Bool) → (b && true) ≡ b
    by true = refl
    by false = refl
passed-replicate (suc (suc n)) x e h = ap (λ b. nat_lt e x.time.epoch && b) (passed-replicate (suc n) x e (omega arith)) ∙ by (nat_lt e x.time.epoch)
  where
    by : (b : Bool) → (b && b) ≡ b
    by true = refl
    by false = refl

pub passed_chain : (k : Stamp) (gs : Gaps) (e : ℕ) → AreTimed gs → has_passed (marked (k, gs)) e ≡ list_all (λ (g : ℕ × Mark). nat_lt e g.0) gs
passed_chain k [] e all = refl
passed_chain k (g ∷ gs) e all =
    passed-append (replicate g.1.times (at g.0 k)) (marked (k, gs)) e
    ∙ (λ i. passed-replicate g.1.times (at g.0 k) e all.0 i && passed_chain k gs e all.1 i)

pub passed_next : (k : Stamp × Gaps) (ks : Chains) (e : ℕ) → AreTimed k.1 → has_passed (all_marked (k ∷ ks)) e ≡ (list_all (λ (g : ℕ × Mark). nat_lt e g.0) k.1 && has_passed (all_marked ks) e)
passed_next k ks e all = passed-append (marked k) (all_marked ks) e ∙ ap (λ b. b && has_passed (all_marked ks) e) (passed_chain k.0 k.1 e all)

-- where one occurs, the plan has its place and counters
pub class_of_plan : (plan : List Line) (ks : Chains) → AreHeld plan ks → (p : Stamp) → 0 < occurrences p (all_marked ks) → IsOf plan (class_of p)
class_of_plan plan ks kept p some =
    other_epoch plan p 0 (all-has (IsOf plan) (all_marked ks) p (all_of_plan_marked plan (between plan ks) ks kept.each) (stands p (all_marked ks) some))

-- one that occurs stands there
pub stands_where : (e : ℕ) (gs : Gaps) → 0 < times_at e gs → HasEpoch e gs
stands_where e gs some = by (lookup (is_at (nat_cmp e)) gs) some
  where
    by : (o : Option Mark) → 0 < (unwrap_or o nothing).times → is_some o ≡ true
    by None h = absurd (omega (arith, h))
    by (Some m) h = refl

-- one that occurs n times more, and less
module _ (q p : Stamp) (n : ℕ) (ks js : Chains) (there : HasEpoch p.time.epoch (chain_at (class_of p) ks)) where
  splits : (b : Bool) (t : ℕ) → if_so b (t + n) ≡ if_so b t + if_so b n
  splits true t = refl
  splits false t = refl

  pub added : js ≡ timed_stamp (class_of p) p.time.epoch (λ t. t + n) ks → occurrences q (all_marked js) ≡ occurrences q (replicate n p ++ all_marked ks)
  added is =
      let a = ap (λ ls. occurrences q (all_marked ls)) is in
      let b = all_marked_timed q ks (class_of p) p.time.epoch (λ t. t + n) there in
      let d = occurrences-more q n p (all_marked ks) in
      let e = splits (is_stamp q p) (times_at p.time.epoch (chain_at (class_of p) ks)) in
      omega (arith, a, b, d, e)

  fewer : (b : Bool) (t : ℕ) → n ≤ t → if_so b t ≡ if_so b (t - n) + if_so b n
  fewer true t le = omega (arith, le)
  fewer false t le = refl

  pub taken : js ≡ timed_stamp (class_of p) p.time.epoch (λ t. t - n) ks → n ≤ times_at p.time.epoch (chain_at (class_of p) ks)
      → occurrences q (all_marked ks) ≡ occurrences q (replicate n p ++ all_marked js)
  taken is le =
      let a = ap (λ ls. occurrences q (all_marked ls)) is in
      let b = all_marked_timed q ks (class_of p) p.time.epoch (λ t. t - n) there in
      let d = occurrences-more q n p (all_marked js) in
      let e = fewer (is_stamp q p) (times_at p.time.epoch (chain_at (class_of p) ks)) le in
      omega (arith, a, b, d, e)

-- One comes
pub came : (plan : List Line) (q p : Stamp) (m : Mark) (ks : Chains)
    → occurrences q (all_marked (all_shifted plan (class_of p) p.time.epoch (plus 1) (with_stamp (class_of p) p.time.epoch m ks))) ≡ occurrences q (replicate m.times p ++ all_marked ks)
came plan q p m ks =
    ap (occurrences q) (all_marked_shifted plan (with_stamp (class_of p) p.time.epoch m ks) (class_of p) p.time.epoch (plus 1))
    ∙ all_marked_with q ks (class_of p) p.time.epoch m
    ∙ sym (occurrences-more q m.times p (all_marked ks))

-- One goes: where it stands, and how often it occurs, no gap changes
module _ (plan : List Line) (c : Stamp) (e : ℕ) (f : ℕ → ℕ) where
  times_changed : (x y : ℕ) (gs : Gaps) → times_at x (changed_from y f gs) ≡ times_at x gs
  times_changed x y [] = refl
  times_changed x y (g ∷ gs) = by (nat_le y g.0) (times_changed x y gs)
    where
      by : (b : Bool) → times_at x (changed_from y f gs) ≡ times_at x gs → times_at x (cond b ((g.0, with_gap f g.1) ∷ gs) (g ∷ changed_from y f gs)) ≡ times_at x (g ∷ gs)
      by true rest = same (is_at (nat_cmp x) g.0)
        where
          same : (b : Bool) → (unwrap_or (cond b (Some (with_gap f g.1)) (lookup (is_at (nat_cmp x)) gs)) nothing).times ≡ (unwrap_or (cond b (Some g.1) (lookup (is_at (nat_cmp x)) gs)) nothing).times
          same true = refl
          same false = refl
      by false rest = same (is_at (nat_cmp x) g.0)
        where
          same : (b : Bool) → (unwrap_or (cond b (Some g.1) (lookup (is_at (nat_cmp x)) (changed_from y f gs))) nothing).times ≡ (unwrap_or (cond b (Some g.1) (lookup (is_at (nat_cmp x)) gs)) nothing).times
          same true = refl
          same false = rest

  pub times_shifted : (d : Stamp) (x : ℕ) (ks : Chains) → times_at x (chain_at d (all_shifted plan c e f ks)) ≡ times_at x (chain_at d ks)
  times_shifted d x [] = refl
  times_shifted d x (k ∷ ks) = by (is_stamp d k.0) (times_shifted d x ks)
    where
      here : (b : Bool) → times_at x (cond b (changed_from e f k.1) k.1) ≡ times_at x k.1
      here true = times_changed x e k.1
      here false = refl

      by : (b : Bool) → times_at x (chain_at d (all_shifted plan c e f ks)) ≡ times_at x (chain_at d ks)
          → times_at x (unwrap_or (cond b (Some (cond (could_test plan c k.0) (changed_from e f k.1) k.1)) (lookup (is_stamp d) (all_shifted plan c e f ks))) [])
          ≡ times_at x (unwrap_or (cond b (Some k.1) (lookup (is_stamp d) ks)) [])
      by true rest = here (could_test plan c k.0)
      by false rest = rest

  nowhere_shifted : (d : Stamp) (ks : Chains) → lookup (is_stamp d) ks ≡ None → lookup (is_stamp d) (all_shifted plan c e f ks) ≡ None
  nowhere_shifted d [] none = refl
  nowhere_shifted d (k ∷ ks) none = by (is_stamp d k.0) none (nowhere_shifted d ks)
    where
      by : (b : Bool) → cond b (Some k.1) (lookup (is_stamp d) ks) ≡ None → (lookup (is_stamp d) ks ≡ None → lookup (is_stamp d) (all_shifted plan c e f ks) ≡ None)
          → cond b (Some (shifted plan c e f k).1) (lookup (is_stamp d) (all_shifted plan c e f ks)) ≡ None
      by true h rest = absurd (none_is_some (sym h))
      by false h rest = rest h

  pub position_shifted : (d : Stamp) (ks : Chains) (o : Option ℕ) → IsPosition d ks o → IsPosition d (all_shifted plan c e f ks) o
  position_shifted d ks None at = nowhere_shifted d ks at
  position_shifted d ks (Some i) at = ap (λ js. slice_get js i) (keys_shifted plan ks c e f) ∙ at

module _ (c : Stamp) (e : ℕ) where
  nowhere_without : (d : Stamp) (ks : Chains) → lookup (is_stamp d) ks ≡ None → lookup (is_stamp d) (without_stamp c e ks) ≡ None
  nowhere_without d [] none = refl
  nowhere_without d (k ∷ ks) none = by (is_stamp c k.0) (is_stamp d k.0) refl none (nowhere_without d ks)
    where
      by : (a b : Bool) → is_stamp d k.0 ≡ b → cond b (Some k.1) (lookup (is_stamp d) ks) ≡ None → (lookup (is_stamp d) ks ≡ None → lookup (is_stamp d) (without_stamp c e ks) ≡ None)
          → lookup (is_stamp d) (cond a ((k.0, without_epoch e k.1) ∷ ks) (k ∷ without_stamp c e ks)) ≡ None
      by a true is h rest = absurd (none_is_some (sym h))
      by true false is h rest = ap (λ b. cond b (Some (without_epoch e k.1)) (lookup (is_stamp d) ks)) is ∙ h
      by false false is h rest = ap (λ b. cond b (Some k.1) (lookup (is_stamp d) (without_stamp c e ks))) is ∙ rest h

  pub position_without : (d : Stamp) (ks : Chains) (o : Option ℕ) → IsPosition d ks o → IsPosition d (without_stamp c e ks) o
  position_without d ks None at = nowhere_without d ks at
  position_without d ks (Some i) at = ap (λ js. slice_get js i) (keys_without c e ks) ∙ at

module _ (plan : List Line) (ks : Chains) (kept : AreHeld plan ks) (p : Stamp) (n : ℕ) (all : occurrences p (all_marked ks) ≡ n) (held_some : 0 < occurrences p (held ks)) where
  pub went : (q : Stamp) → occurrences q (all_marked ks) ≡ occurrences q (replicate n p ++ all_marked (go_to plan ks kept p held_some))
  went q =
      let low = lowered plan ks kept p held_some in
      let a = ap (occurrences q) (all_marked_shifted plan ks (class_of p) p.time.epoch (minus 1)) in
      let b = all_marked_without q low (class_of p) p.time.epoch (there_lowered plan ks kept p held_some) in
      let t = times_shifted plan (class_of p) p.time.epoch (minus 1) (class_of p) p.time.epoch ks in
      let o = occurs_at plan ks kept p in
      let s = ap (λ m. if_so (is_stamp q p) m) (t ∙ (sym o ∙ all)) in
      let d = occurrences-more q n p (all_marked (go_to plan ks kept p held_some)) in
      omega (arith, a, b, s, d)

-- one that is not of the plan does not occur
pub none_unless : (plan : List Line) (ks : Chains) → AreHeld plan ks → (p : Stamp) → (IsOf plan p → ⊥) → occurrences p (all_marked ks) ≡ 0
none_unless plan ks kept p not_of = by (occurrences p (all_marked ks)) refl
  where
    by : (n : ℕ) → occurrences p (all_marked ks) ≡ n → occurrences p (all_marked ks) ≡ 0
    by zero is = is
    by (suc n) is =
        absurd (not_of (all-has (IsOf plan) (all_marked ks) p (all_of_plan_marked plan (between plan ks) ks kept.each) (stands p (all_marked ks) (omega (arith, is)))))

-- where one occurs, it is of the plan
pub of_plan_where : (plan : List Line) (ks : Chains) → AreHeld plan ks → (p : Stamp) → 0 < occurrences p (all_marked ks) → IsOf plan p
of_plan_where plan ks kept p some = all-has (IsOf plan) (all_marked ks) p (all_of_plan_marked plan (between plan ks) ks kept.each) (stands p (all_marked ks) some)
