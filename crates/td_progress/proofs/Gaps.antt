-- Epochs and gaps: what a change of them keeps.
use Rattle.std.proofs.Common.{◌≡◌, ℕ, suc, ◌+◌, ◌-◌, ◌^◌, ◌<◌, ◌≤◌, Bool, true, false, ◌&&◌, cond, List, [], ◌∷◌, length, Some, is_some, unwrap_or, refl, sym, ap, ◌∙◌, subst, true≢false, arith, nat_lt, nat_le}
use Rattle.std.proofs.lemmas.Bool.Decides.{nat_tests}
use Rattle.std.proofs.Math.Nat.{min-eq_left}
use Rattle.std.proofs.lemmas.List.Sums.{sum_by-cons, count_by-le-length}
use Rattle.std.specs.Map.{lookup, remove_entry}
use Rattle.std.specs.BTreeMap.{is_at}
use Rattle.std.specs.Ordering.{nat_cmp}
use Rattle.td_progress.specs.Gaps.{Mark, with_gap, with_times, nothing, timed, within, sum_to, start_of, changed_from, plus, minus, with_epoch, gap_at, without_epoch, AreGaps}
use Rattle.td_progress.proofs.Counted.{one}

pub le_is : (a b : ℕ) → nat_le a b ≡ true → a ≤ b
le_is a b e = grind (arith, nat_tests)

pub le_not : (a b : ℕ) → nat_le a b ≡ false → b < a
le_not a b e = grind (arith, nat_tests)

pub is_le : (a b : ℕ) → a ≤ b → nat_le a b ≡ true
is_le a b h = grind (arith, nat_tests)

pub not_le : (a b : ℕ) → b < a → nat_le a b ≡ false
not_le a b h = grind (arith, nat_tests)

pub at_is : (a b : ℕ) → is_at (nat_cmp a) b ≡ true → a ≡ b
at_is a b e = grind (arith, nat_tests)

pub at_not : (a b : ℕ) → is_at (nat_cmp a) b ≡ false → a ≡ b → ⊥
at_not a b e = grind (arith, nat_tests)

pub is_at_same : (a b : ℕ) → a ≡ b → is_at (nat_cmp a) b ≡ true
is_at_same a b h = grind (arith, nat_tests)

pub is_at_apart : (a b : ℕ) → (a ≡ b → ⊥) → is_at (nat_cmp a) b ≡ false
is_at_apart a b h = grind (arith, nat_tests)

plus_is : (n g m : ℕ) → g + n ≡ m → m < 2 ^ 64 → plus n g ≡ m
plus_is n g m e h = min-eq_left {n = g + n} {m = 2 ^ 64 - 1} (omega (arith, e, h)) ∙ e

and_no : (b : Bool) → one (b && false) ≡ 0
and_no true = refl
and_no false = refl

-- 1 where an epoch e is counted from lo to f
abbrev pub covers : ℕ → ℕ → ℕ → ℕ
covers e lo f = one (nat_le lo e && nat_le e f)

pub covers_in : (e lo f : ℕ) → lo ≤ e → e ≤ f → covers e lo f ≡ 1
covers_in e lo f low high = λ i. one (is_le lo e low i && is_le e f high i)

pub covers_before : (e lo f : ℕ) → f < e → covers e lo f ≡ 0
covers_before e lo f before = ap (λ b. one (nat_le lo e && b)) (not_le e f before) ∙ and_no (nat_le lo e)

pub covers_after : (e lo f : ℕ) → e < lo → covers e lo f ≡ 0
covers_after e lo f after = ap (λ b. one (b && nat_le e f)) (not_le lo e after)

covers_splits : (x lo e f : ℕ) → lo ≤ e → e < f → covers x lo e + covers x (suc e) f ≡ covers x lo f
covers_splits x lo e f low high = by (nat_le x e) refl
  where
    by : (b : Bool) → nat_le x e ≡ b → covers x lo e + covers x (suc e) f ≡ covers x lo f
    by true k =
        let below = le_is x e k in
        let a : covers x lo e ≡ covers x lo f = ap (λ b. one (nat_le lo x && b)) (k ∙ sym (is_le x f (omega (arith, below, high)))) in
        let z = covers_after x (suc e) f (omega (arith, below)) in
        omega (arith, a, z)
    by false k =
        let above = le_not x e k in
        let a : covers x (suc e) f ≡ covers x lo f = ap (λ b. one (b && nat_le x f)) (is_le (suc e) x (omega (arith, above)) ∙ sym (is_le lo x (omega (arith, above, low)))) in
        let z = covers_before x lo e above in
        omega (arith, a, z)

abbrev pub Gaps : Type 0
Gaps = List (ℕ × Mark)

-- a count that one at epoch e more changes
module _ (count after : ℕ → ℕ → ℕ) (e : ℕ) (more : (lo f : ℕ) → after lo f ≡ count lo f + covers e lo f) where
  beyond : (lo : ℕ) (gs : Gaps) → e < lo → AreGaps count lo gs → AreGaps after lo gs
  beyond lo [] late h = tt
  beyond lo (g ∷ gs) late h =
      let m = more lo g.0 in
      let n = covers_after e lo g.0 late in
      (h.0, omega (arith, h.1, m, n), beyond (suc g.0) gs (omega (arith, late, h.0)) h.2)

  back_beyond : (lo : ℕ) (gs : Gaps) → e < lo → AreGaps after lo gs → AreGaps count lo gs
  back_beyond lo [] late h = tt
  back_beyond lo (g ∷ gs) late h =
      let m = more lo g.0 in
      let n = covers_after e lo g.0 late in
      (h.0, omega (arith, h.1, m, n), back_beyond (suc g.0) gs (omega (arith, late, h.0)) h.2)

  pub gaps_raised : ((lo f : ℕ) → after lo f < 2 ^ 64) → (lo : ℕ) (gs : Gaps) → lo ≤ e → AreGaps count lo gs → AreGaps after lo (changed_from e (plus 1) gs)
  gaps_raised small lo [] low h = tt
  gaps_raised small lo (g ∷ gs) low h = by (nat_le e g.0) refl (λ l. gaps_raised small (suc g.0) gs l h.2)
    where
      by : (b : Bool) → nat_le e g.0 ≡ b → (suc g.0 ≤ e → AreGaps after (suc g.0) (changed_from e (plus 1) gs)) → AreGaps after lo (cond b ((g.0, with_gap (plus 1) g.1) ∷ gs) (g ∷ changed_from e (plus 1) gs))
      by true here rest =
          let m = more lo g.0 in
          let n = covers_in e lo g.0 low (le_is e g.0 here) in
          (h.0, plus_is 1 g.1.gap (after lo g.0) (omega (arith, h.1, m, n)) (small lo g.0), beyond (suc g.0) gs (let k = le_is e g.0 here in omega (arith, k)) h.2)
      by false later rest =
          let m = more lo g.0 in
          let n = covers_before e lo g.0 (le_not e g.0 later) in
          (h.0, omega (arith, h.1, m, n), rest (let k = le_not e g.0 later in omega (arith, k)))

  pub gaps_lowered : (lo : ℕ) (gs : Gaps) → lo ≤ e → AreGaps after lo gs → AreGaps count lo (changed_from e (minus 1) gs)
  gaps_lowered lo [] low h = tt
  gaps_lowered lo (g ∷ gs) low h = by (nat_le e g.0) refl (λ l. gaps_lowered (suc g.0) gs l h.2)
    where
      by : (b : Bool) → nat_le e g.0 ≡ b → (suc g.0 ≤ e → AreGaps count (suc g.0) (changed_from e (minus 1) gs)) → AreGaps count lo (cond b ((g.0, with_gap (minus 1) g.1) ∷ gs) (g ∷ changed_from e (minus 1) gs))
      by true here rest =
          let m = more lo g.0 in
          let n = covers_in e lo g.0 low (le_is e g.0 here) in
          (h.0, omega (arith, h.1, m, n), back_beyond (suc g.0) gs (let k = le_is e g.0 here in omega (arith, k)) h.2)
      by false later rest =
          let m = more lo g.0 in
          let n = covers_before e lo g.0 (le_not e g.0 later) in
          (h.0, omega (arith, h.1, m, n), rest (let k = le_not e g.0 later in omega (arith, k)))

pub gaps_same : (count after : ℕ → ℕ → ℕ) → ((lo f : ℕ) → after lo f ≡ count lo f) → (lo : ℕ) (gs : Gaps) → AreGaps count lo gs → AreGaps after lo gs
gaps_same count after same lo [] h = tt
gaps_same count after same lo (g ∷ gs) h = (h.0, h.1 ∙ sym (same lo g.0), gaps_same count after same (suc g.0) gs h.2)

module _ (count : ℕ → ℕ → ℕ) (e : ℕ) where
  -- what rises from lo on is at least lo
  pub has_above : (lo : ℕ) (gs : Gaps) → AreGaps count lo gs → is_some (lookup (is_at (nat_cmp e)) gs) ≡ true → lo ≤ e
  has_above lo [] h there = absurd (true≢false (sym there))
  has_above lo (g ∷ gs) h there = by (is_at (nat_cmp e) g.0) refl (has_above (suc g.0) gs h.2)
    where
      by : (b : Bool) → is_at (nat_cmp e) g.0 ≡ b → (is_some (lookup (is_at (nat_cmp e)) gs) ≡ true → suc g.0 ≤ e) → lo ≤ e
      by true same rest = let k = at_is e g.0 same in omega (arith, k, h.0)
      by false apart rest =
          let k = rest (sym (ap (λ b. is_some (cond b (Some g.1) (lookup (is_at (nat_cmp e)) gs))) apart) ∙ there) in
          omega (arith, k, h.0)

abbrev pub Splits : (ℕ → ℕ → ℕ) → Type 0
Splits count = (lo e f : ℕ) → lo ≤ e → e < f → count lo e + count (suc e) f ≡ count lo f

module _ (count : ℕ → ℕ → ℕ) (splits : Splits count) (e : ℕ) where
  pub gaps_with : (n : Mark) (lo : ℕ) (gs : Gaps) → lo ≤ e → n.gap ≡ count (start_of lo e gs) e → is_some (lookup (is_at (nat_cmp e)) gs) ≡ false
      → AreGaps count lo gs → AreGaps count lo (with_epoch e n gs)
  gaps_with n lo [] low is new h = (low, is, tt)
  gaps_with n lo (g ∷ gs) low is new h = by (nat_lt e g.0) refl (λ l m k. gaps_with n (suc g.0) gs l m k h.2)
    where
      new_apart : (b : Bool) → is_at (nat_cmp e) g.0 ≡ b → is_at (nat_cmp e) g.0 ≡ false
      new_apart true same = absurd (true≢false (sym (ap (λ b. is_some (cond b (Some g.1) (lookup (is_at (nat_cmp e)) gs))) same) ∙ new))
      new_apart false apart = apart

      by : (b : Bool) → nat_lt e g.0 ≡ b
          → (suc g.0 ≤ e → n.gap ≡ count (start_of (suc g.0) e gs) e → is_some (lookup (is_at (nat_cmp e)) gs) ≡ false → AreGaps count (suc g.0) (with_epoch e n gs))
          → AreGaps count lo (cond b ((e, n) ∷ (g.0, with_gap (minus n.gap) g.1) ∷ gs) (g ∷ with_epoch e n gs))
      by true before rest =
          let k = le_is (suc e) g.0 before in
          let s = splits lo e g.0 low k in
          let from : start_of lo e (g ∷ gs) ≡ lo = ap (λ b. cond b (start_of (suc g.0) e gs) lo) (not_le (suc g.0) e (omega (arith, k))) in
          let own = is ∙ ap (λ l. count l e) from in
          (low, own, (omega (arith, k), omega (arith, own, h.1, s), h.2))
      by false other rest =
          let k = le_not (suc e) g.0 other in
          let apart : is_at (nat_cmp e) g.0 ≡ false = new_apart (is_at (nat_cmp e) g.0) refl in
          let later : is_some (lookup (is_at (nat_cmp e)) gs) ≡ false = sym (ap (λ b. is_some (cond b (Some g.1) (lookup (is_at (nat_cmp e)) gs))) apart) ∙ new in
          let above : g.0 < e = grind (arith, k, at_not e g.0 apart) in
          let from : start_of lo e (g ∷ gs) ≡ start_of (suc g.0) e gs = ap (λ b. cond b (start_of (suc g.0) e gs) lo) (is_le (suc g.0) e (omega (arith, above))) in
          (h.0, h.1, rest (omega (arith, above)) (is ∙ ap (λ l. count l e) from) later)

  pub gaps_without : ((lo f : ℕ) → count lo f < 2 ^ 64) → (lo : ℕ) (gs : Gaps) → is_some (lookup (is_at (nat_cmp e)) gs) ≡ true
      → AreGaps count lo gs → AreGaps count lo (without_epoch e gs)
  gaps_without small lo [] there h = tt
  gaps_without small lo (g ∷ gs) there h = by (is_at (nat_cmp e) g.0) refl (λ k. gaps_without small (suc g.0) gs k h.2)
    where
      first : (hs : Gaps) → e ≡ g.0 → AreGaps count (suc g.0) hs → AreGaps count lo (changed_from e (plus g.1.gap) hs)
      first [] same k = tt
      first (k ∷ hs) same rest =
          let s = splits lo g.0 k.0 h.0 rest.0 in
          subst (AreGaps count lo) (sym (ap (λ b. cond b ((k.0, with_gap (plus g.1.gap) k.1) ∷ hs) (k ∷ changed_from e (plus g.1.gap) hs)) (is_le e k.0 (omega (arith, same, rest.0)))))
          (omega (arith, h.0, rest.0), plus_is g.1.gap k.1.gap (count lo k.0) (omega (arith, s, h.1, rest.1)) (small lo k.0), rest.2)

      by : (b : Bool) → is_at (nat_cmp e) g.0 ≡ b → (is_some (lookup (is_at (nat_cmp e)) gs) ≡ true → AreGaps count (suc g.0) (without_epoch e gs))
          → AreGaps count lo (changed_from e (plus (unwrap_or (cond b (Some g.1) (lookup (is_at (nat_cmp e)) gs)) nothing).gap) (cond b gs (g ∷ remove_entry (is_at (nat_cmp e)) gs)))
      by true same rest' = first gs (at_is e g.0 same) h.2
      by false apart rest' =
          let later = sym (ap (λ b. is_some (cond b (Some g.1) (lookup (is_at (nat_cmp e)) gs))) apart) ∙ there in
          let above = has_above count e (suc g.0) gs h.2 later in
          let gap = gap_at e gs in
          let rest = remove_entry (is_at (nat_cmp e)) gs in
          subst (AreGaps count lo) (sym (ap (λ b. cond b ((g.0, with_gap (plus gap) g.1) ∷ rest) (g ∷ changed_from e (plus gap) rest)) (not_le e g.0 (omega (arith, above)))))
          (h.0, h.1, rest' later)

  pub sum_is : (lo : ℕ) (gs : Gaps) → is_some (lookup (is_at (nat_cmp e)) gs) ≡ true → AreGaps count lo gs → sum_to e gs ≡ count lo e
  sum_is lo [] there h = absurd (true≢false (sym there))
  sum_is lo (g ∷ gs) there h = by (is_at (nat_cmp e) g.0) refl (λ k. sum_is (suc g.0) gs k h.2)
    where
      nothing : (hs : Gaps) → e ≡ g.0 → AreGaps count (suc g.0) hs → sum_to e hs ≡ 0
      nothing [] same rest = refl
      nothing (k ∷ hs) same rest = ap (λ b. cond b (k.1.gap + sum_to e hs) 0) (not_le k.0 e (omega (arith, same, rest.0)))

      by : (b : Bool) → is_at (nat_cmp e) g.0 ≡ b → (is_some (lookup (is_at (nat_cmp e)) gs) ≡ true → sum_to e gs ≡ count (suc g.0) e) → sum_to e (g ∷ gs) ≡ count lo e
      by true same rest' =
          let k = at_is e g.0 same in
          let none = nothing gs k h.2 in
          ap (λ b. cond b (g.1.gap + sum_to e gs) 0) (is_le g.0 e (omega (arith, k))) ∙ omega (arith, none, h.1) ∙ ap (count lo) (sym k)
      by false apart rest' =
          let later = sym (ap (λ b. is_some (cond b (Some g.1) (lookup (is_at (nat_cmp e)) gs))) apart) ∙ there in
          let above = has_above count e (suc g.0) gs h.2 later in
          let rest = rest' later in
          let s = splits lo g.0 e h.0 above in
          ap (λ b. cond b (g.1.gap + sum_to e gs) 0) (is_le g.0 e (omega (arith, above))) ∙ omega (arith, rest, h.1, s)

-- How many are within
pub within-cons : (lo f : ℕ) (g : ℕ × Mark) (gs : Gaps) → within lo f (g ∷ gs) ≡ covers g.0 lo f + within lo f gs
within-cons lo f g gs = sum_by-cons (λ k. one (nat_le lo k.0 && nat_le k.0 f)) g gs

pub within_le : (lo f : ℕ) (gs : Gaps) → within lo f gs ≤ length gs
within_le lo f gs = count_by-le-length (λ k. nat_le lo k.0 && nat_le k.0 f) gs

pub within_splits : (lo e f : ℕ) (gs : Gaps) → lo ≤ e → e < f → within lo e gs + within (suc e) f gs ≡ within lo f gs
within_splits lo e f [] low high = refl
within_splits lo e f (g ∷ gs) low high =
    let a = within-cons lo e g gs in
    let b = within-cons (suc e) f g gs in
    let c = within-cons lo f g gs in
    let d = covers_splits g.0 lo e f low high in
    let rest = within_splits lo e f gs low high in
    omega (arith, a, b, c, d, rest)

pub within_changed : (lo f e : ℕ) (h : ℕ → ℕ) (gs : Gaps) → within lo f (changed_from e h gs) ≡ within lo f gs
within_changed lo f e h [] = refl
within_changed lo f e h (g ∷ gs) = by (nat_le e g.0) (within_changed lo f e h gs)
  where
    by : (b : Bool) → within lo f (changed_from e h gs) ≡ within lo f gs → within lo f (cond b ((g.0, with_gap h g.1) ∷ gs) (g ∷ changed_from e h gs)) ≡ within lo f (g ∷ gs)
    by true rest = within-cons lo f (g.0, with_gap h g.1) gs ∙ sym (within-cons lo f g gs)
    by false rest = within-cons lo f g (changed_from e h gs) ∙ ap (λ n. covers g.0 lo f + n) rest ∙ sym (within-cons lo f g gs)

pub within_with : (lo f e : ℕ) (n : Mark) (gs : Gaps) → within lo f (with_epoch e n gs) ≡ within lo f gs + covers e lo f
within_with lo f e n [] = let a = within-cons lo f (e, n) [] in omega (arith, a)
within_with lo f e n (g ∷ gs) = by (nat_lt e g.0) (within_with lo f e n gs)
  where
    by : (b : Bool) → within lo f (with_epoch e n gs) ≡ within lo f gs + covers e lo f → within lo f (cond b ((e, n) ∷ (g.0, with_gap (minus n.gap) g.1) ∷ gs) (g ∷ with_epoch e n gs)) ≡ within lo f (g ∷ gs) + covers e lo f
    by true rest =
        let a = within-cons lo f (e, n) ((g.0, with_gap (minus n.gap) g.1) ∷ gs) in
        let b = within-cons lo f (g.0, with_gap (minus n.gap) g.1) gs in
        let c = within-cons lo f g gs in
        omega (arith, a, b, c)
    by false rest =
        let a = within-cons lo f g (with_epoch e n gs) in
        let c = within-cons lo f g gs in
        omega (arith, a, rest, c)

pub within_without : (lo f e : ℕ) (gs : Gaps) → is_some (lookup (is_at (nat_cmp e)) gs) ≡ true → within lo f gs ≡ within lo f (without_epoch e gs) + covers e lo f
within_without lo f e gs there = removed gs there ∙ ap (λ n. n + covers e lo f) (sym (within_changed lo f e (plus (gap_at e gs)) (remove_entry (is_at (nat_cmp e)) gs)))
  where
    removed : (gs : Gaps) → is_some (lookup (is_at (nat_cmp e)) gs) ≡ true → within lo f gs ≡ within lo f (remove_entry (is_at (nat_cmp e)) gs) + covers e lo f
    removed [] there = absurd (true≢false (sym there))
    removed (g ∷ gs) there = by (is_at (nat_cmp e) g.0) refl (removed gs)
      where
        by : (b : Bool) → is_at (nat_cmp e) g.0 ≡ b
            → (is_some (lookup (is_at (nat_cmp e)) gs) ≡ true → within lo f gs ≡ within lo f (remove_entry (is_at (nat_cmp e)) gs) + covers e lo f) → within lo f (g ∷ gs) ≡ within lo f (cond b gs (g ∷ remove_entry (is_at (nat_cmp e)) gs)) + covers e lo f
        by true same rest =
            let a = within-cons lo f g gs in
            let b = ap (λ x. covers x lo f) (at_is e g.0 same) in
            omega (arith, a, b)
        by false apart rest =
            let a = within-cons lo f g gs in
            let b = rest (sym (ap (λ b. is_some (cond b (Some g.1) (lookup (is_at (nat_cmp e)) gs))) apart) ∙ there) in
            let c = within-cons lo f g (remove_entry (is_at (nat_cmp e)) gs) in
            omega (arith, a, b, c)

pub length_changed : (e : ℕ) (h : ℕ → ℕ) (gs : Gaps) → length (changed_from e h gs) ≡ length gs
length_changed e h [] = refl
length_changed e h (g ∷ gs) = by (nat_le e g.0) (length_changed e h gs)
  where
    by : (b : Bool) → length (changed_from e h gs) ≡ length gs → length (cond b ((g.0, with_gap h g.1) ∷ gs) (g ∷ changed_from e h gs)) ≡ length (g ∷ gs)
    by true rest = refl
    by false rest = ap suc rest

pub length_with : (e : ℕ) (n : Mark) (gs : Gaps) → length (with_epoch e n gs) ≡ suc (length gs)
length_with e n [] = refl
length_with e n (g ∷ gs) = by (nat_lt e g.0) (length_with e n gs)
  where
    by : (b : Bool) → length (with_epoch e n gs) ≡ suc (length gs) → length (cond b ((e, n) ∷ (g.0, with_gap (minus n.gap) g.1) ∷ gs) (g ∷ with_epoch e n gs)) ≡ suc (length (g ∷ gs))
    by true rest = refl
    by false rest = ap suc rest

pub length_without : (e : ℕ) (gs : Gaps) → is_some (lookup (is_at (nat_cmp e)) gs) ≡ true → length gs ≡ suc (length (without_epoch e gs))
length_without e gs there = removed gs there ∙ ap suc (sym (length_changed e (plus (gap_at e gs)) (remove_entry (is_at (nat_cmp e)) gs)))
  where
    removed : (gs : Gaps) → is_some (lookup (is_at (nat_cmp e)) gs) ≡ true → length gs ≡ suc (length (remove_entry (is_at (nat_cmp e)) gs))
    removed [] there = absurd (true≢false (sym there))
    removed (g ∷ gs) there = by (is_at (nat_cmp e) g.0) refl (removed gs)
      where
        by : (b : Bool) → is_at (nat_cmp e) g.0 ≡ b → (is_some (lookup (is_at (nat_cmp e)) gs) ≡ true → length gs ≡ suc (length (remove_entry (is_at (nat_cmp e)) gs))) → length (g ∷ gs) ≡ suc (length (cond b gs (g ∷ remove_entry (is_at (nat_cmp e)) gs)))
        by true same rest = refl
        by false apart rest = ap suc (rest (sym (ap (λ b. is_some (cond b (Some g.1) (lookup (is_at (nat_cmp e)) gs))) apart) ∙ there))

-- One that occurs more often, or less
pub within_timed : (lo f e : ℕ) (h : ℕ → ℕ) (gs : Gaps) → within lo f (timed e h gs) ≡ within lo f gs
within_timed lo f e h [] = refl
within_timed lo f e h (g ∷ gs) = by (is_at (nat_cmp e) g.0) (within_timed lo f e h gs)
  where
    by : (b : Bool) → within lo f (timed e h gs) ≡ within lo f gs → within lo f (cond b ((g.0, with_times h g.1) ∷ gs) (g ∷ timed e h gs)) ≡ within lo f (g ∷ gs)
    by true rest = within-cons lo f (g.0, with_times h g.1) gs ∙ sym (within-cons lo f g gs)
    by false rest = within-cons lo f g (timed e h gs) ∙ ap (λ n. covers g.0 lo f + n) rest ∙ sym (within-cons lo f g gs)

pub length_timed : (e : ℕ) (h : ℕ → ℕ) (gs : Gaps) → length (timed e h gs) ≡ length gs
length_timed e h [] = refl
length_timed e h (g ∷ gs) = by (is_at (nat_cmp e) g.0) (length_timed e h gs)
  where
    by : (b : Bool) → length (timed e h gs) ≡ length gs → length (cond b ((g.0, with_times h g.1) ∷ gs) (g ∷ timed e h gs)) ≡ length (g ∷ gs)
    by true rest = refl
    by false rest = ap suc rest

pub gaps_timed : (count : ℕ → ℕ → ℕ) (lo e : ℕ) (h : ℕ → ℕ) (gs : Gaps) → AreGaps count lo gs → AreGaps count lo (timed e h gs)
gaps_timed count lo e h [] are = tt
gaps_timed count lo e h (g ∷ gs) are = by (is_at (nat_cmp e) g.0) (gaps_timed count (suc g.0) e h gs are.2)
  where
    by : (b : Bool) → AreGaps count (suc g.0) (timed e h gs) → AreGaps count lo (cond b ((g.0, with_times h g.1) ∷ gs) (g ∷ timed e h gs))
    by true rest = are
    by false rest = (are.0, are.1, rest)
