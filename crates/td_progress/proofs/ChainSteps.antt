-- What the code of a chain does to its cells, in the words of its contracts.
use Rattle.std.proofs.Common.{◌≡◌, ℕ, zero, suc, ◌+◌, ◌<◌, ◌≤◌, Bool, true, false, ◌&&◌, ◌==◌, cond, List, [], ◌∷◌, ◌++◌, length, take, drop, get_or, set, insert, remove, Option, Some, None, is_some, is_none, unwrap_or, refl, sym, ap, ◌∙◌, true≢false, arith, nat_lt, nat_le}
use Rattle.std.proofs.lemmas.Bool.Decides.{nat_tests}
use Rattle.std.proofs.lemmas.List.{map-append, take-map, drop-map}
use Rattle.std.specs.List.{list_all}
use Rattle.std.specs.List.Sorted.{IsPartitionedBy, IsPartitionPoint}
use Rattle.std.specs.Map.{lookup, remove_entry}
use Rattle.std.specs.BTreeMap.{is_at}
use Rattle.std.specs.Ordering.{nat_cmp}
use Rattle.td_progress.specs.declared.chain.Cell.{Cell}
use Rattle.td_progress.specs.Cells.{gaps_of}
use Rattle.td_progress.specs.Gaps.{Mark, with_gap, with_times, within, first_from, start_of, changed_at, changed_from, minus, plus, with_epoch, without_epoch, nothing, gap_at, times_at, timed, place, AreRising}
use Rattle.td_progress.proofs.Counted.{one, none_is_some}
use Rattle.td_progress.proofs.Gaps.{Gaps, covers_in, covers_before, covers_after, within-cons, le_is, le_not, is_le, not_le, at_is, at_not, is_at_apart}

pub none_from : (e : ℕ) (f : ℕ → ℕ) (gs : Gaps) → first_from e gs ≡ None → changed_from e f gs ≡ gs
none_from e f [] h = refl
none_from e f (g ∷ gs) h = by (nat_le e g.0) (none_from e f gs) h
  where
    by : (b : Bool) → (first_from e gs ≡ None → changed_from e f gs ≡ gs) → cond b (Some g.0) (first_from e gs) ≡ None → cond b ((g.0, with_gap f g.1) ∷ gs) (g ∷ changed_from e f gs) ≡ g ∷ gs
    by true rest k = absurd (none_is_some (sym k))
    by false rest k = ap (λ r. g ∷ r) (rest k)

pub start_le : (e lo : ℕ) (gs : Gaps) → lo ≤ e → start_of lo e gs ≤ e
start_le e lo [] low = low
start_le e lo (g ∷ gs) low = by (nat_lt g.0 e) refl (start_le e (suc g.0) gs)
  where
    by : (b : Bool) → nat_lt g.0 e ≡ b → (suc g.0 ≤ e → start_of (suc g.0) e gs ≤ e) → cond b (start_of (suc g.0) e gs) lo ≤ e
    by true k rest = rest (le_is (suc g.0) e k)
    by false k rest = low

-- what is kept of a cell's epoch
abbrev pub mark_of : Cell → Mark
mark_of c = record { gap = c.gap; times = c.times }

pub length_gaps : (cs : List Cell) → length (gaps_of cs) ≡ length cs
length_gaps [] = refl
length_gaps (x ∷ cs) = ap suc (length_gaps cs)

-- An epoch that is before all
not_above : (e lo : ℕ) (gs : Gaps) → AreRising lo gs → e < lo → is_some (lookup (is_at (nat_cmp e)) gs) ≡ false
not_above e lo [] rising low = refl
not_above e lo (g ∷ gs) rising low =
    ap (λ b. is_some (cond b (Some g.1) (lookup (is_at (nat_cmp e)) gs))) (is_at_apart e g.0 (λ s. omega (arith, s, low, rising.0)))
    ∙ not_above e (suc g.0) gs rising.1 (omega (arith, low, rising.0))

zero_place : (e lo : ℕ) (gs : Gaps) → AreRising lo gs → e ≤ lo → place e gs ≡ 0
zero_place e lo [] rising low = refl
zero_place e lo (g ∷ gs) rising low = ap (λ b. cond b (suc (place e gs)) 0) (not_le (suc g.0) e (omega (arith, low, rising.0)))

weaker : (lo low : ℕ) (gs : Gaps) → low ≤ lo → AreRising lo gs → AreRising low gs
weaker lo low [] h rising = tt
weaker lo low (g ∷ gs) h rising = (omega (arith, h, rising.0), rising.1)

-- Places
pub past_all : (e : ℕ) (gs : Gaps) → is_none (first_from e gs) ≡ true → place e gs ≡ length gs
past_all e [] h = refl
past_all e (g ∷ gs) h = by (nat_le e g.0) refl (past_all e gs) h
  where
    by : (b : Bool) → nat_le e g.0 ≡ b → (is_none (first_from e gs) ≡ true → place e gs ≡ length gs) → is_none (cond b (Some g.0) (first_from e gs)) ≡ true
        → cond (nat_lt g.0 e) (suc (place e gs)) 0 ≡ suc (length gs)
    by true here rest k = absurd (true≢false (sym k))
    by false later rest k = ap (λ b. cond b (suc (place e gs)) 0) (is_le (suc g.0) e (let l = le_not e g.0 later in omega (arith, l))) ∙ ap suc (rest k)

-- the last is no lower than what the epochs rise from
last_high : (lo i : ℕ) (cs : List Cell) (c : Cell) → AreRising lo (gaps_of cs) → i < length cs → c ≡ get_or cs i c → lo ≤ c.epoch
last_high lo i [] c rising l is = absurd (omega (arith, l))
last_high lo zero (x ∷ cs) c rising l is = let same : c.epoch ≡ x.epoch = ap (λ (y : Cell). y.epoch) is in omega (arith, same, rising.0)
last_high lo (suc i) (x ∷ cs) c rising l is = let rest = last_high (suc x.epoch) i cs c rising.1 (omega (arith, l)) is in omega (arith, rest, rising.0)

pub last_decides : (e lo i : ℕ) (cs : List Cell) (c : Cell) → AreRising lo (gaps_of cs) → length cs ≡ suc i → c ≡ get_or cs i c → nat_lt c.epoch e ≡ is_none (first_from e (gaps_of cs))
last_decides e lo i [] c rising l is = absurd (omega (arith, l))
last_decides e lo zero (x ∷ []) c rising l is = ap (λ (y : Cell). nat_lt y.epoch e) is ∙ by (nat_le e x.epoch) refl
  where
    by : (b : Bool) → nat_le e x.epoch ≡ b → nat_lt x.epoch e ≡ is_none (cond b (Some x.epoch) None)
    by true here = not_le (suc x.epoch) e (let k = le_is e x.epoch here in omega (arith, k))
    by false later = is_le (suc x.epoch) e (let k = le_not e x.epoch later in omega (arith, k))
last_decides e lo (suc i) (x ∷ []) c rising l is = absurd (omega (arith, l))
last_decides e lo zero (x ∷ y ∷ cs) c rising l is = absurd (omega (arith, l))
last_decides e lo (suc i) (x ∷ y ∷ cs) c rising l is = by (nat_le e x.epoch) refl (last_decides e (suc x.epoch) i (y ∷ cs) c rising.1 (omega (arith, l)) is)
  where
    high : suc x.epoch ≤ c.epoch
    high = last_high (suc x.epoch) i (y ∷ cs) c rising.1 (omega (arith, l)) is

    by : (b : Bool) → nat_le e x.epoch ≡ b → nat_lt c.epoch e ≡ is_none (first_from e (gaps_of (y ∷ cs)))
        → nat_lt c.epoch e ≡ is_none (cond b (Some x.epoch) (first_from e (gaps_of (y ∷ cs))))
    by true here rest = not_le (suc c.epoch) e (let k = le_is e x.epoch here in omega (arith, k, high))
    by false later rest = rest

pub parted : (e lo : ℕ) (cs : List Cell) → AreRising lo (gaps_of cs) → IsPartitionedBy (λ (c : Cell). nat_lt c.epoch e) cs
parted e lo [] rising i j d le l t = absurd (omega (arith, l))
parted e lo (x ∷ cs) rising zero zero d le l t = t
parted e lo (x ∷ cs) rising zero (suc j) d le l t =
    let high = last_high (suc x.epoch) j cs (get_or cs j d) rising.1 (omega (arith, l)) (get_or_again cs j d (omega (arith, l))) in
    let k = le_is (suc (get_or cs j d).epoch) e t in
    is_le (suc x.epoch) e (omega (arith, k, high))
  where
    get_or_again : (ys : List Cell) (i : ℕ) (d : Cell) → i < length ys → get_or ys i d ≡ get_or ys i (get_or ys i d)
    get_or_again [] i d l = absurd (omega (arith, l))
    get_or_again (y ∷ ys) zero d l = refl
    get_or_again (y ∷ ys) (suc i) d l = get_or_again ys i d (omega (arith, l))
parted e lo (x ∷ cs) rising (suc i) zero d le l t = absurd (omega (arith, le))
parted e lo (x ∷ cs) rising (suc i) (suc j) d le l t = parted e (suc x.epoch) cs rising.1 i j d (omega (arith, le)) (omega (arith, l)) t

pub point_is : (e : ℕ) (cs : List Cell) (n : ℕ) → n ≤ length cs → IsPartitionPoint (λ (c : Cell). nat_lt c.epoch e ≡ true) (λ (c : Cell). nat_lt c.epoch e ≡ false) cs n → place e (gaps_of cs) ≡ n
point_is e [] n l w = omega (arith, l)
point_is e (x ∷ cs) zero l w = ap (λ b. cond b (suc (place e (gaps_of cs))) 0) (w.1 0 x (omega arith) (omega arith))
point_is e (x ∷ cs) (suc n) l w =
    ap (λ b. cond b (suc (place e (gaps_of cs))) 0) (w.0 0 x (omega arith) (omega arith))
    ∙ ap suc (point_is e cs n (omega (arith, l)) (λ k d low high. w.0 (suc k) d (omega arith) (omega (arith, high)), λ k d low high. w.1 (suc k) d (omega (arith, low)) (omega (arith, high))))

-- What stands there
pub nothing_there : (e : ℕ) (gs : Gaps) → length gs ≤ place e gs → is_some (lookup (is_at (nat_cmp e)) gs) ≡ false
nothing_there e [] h = refl
nothing_there e (g ∷ gs) h = by (nat_lt g.0 e) refl (nothing_there e gs) h
  where
    by : (b : Bool) → nat_lt g.0 e ≡ b → (length gs ≤ place e gs → is_some (lookup (is_at (nat_cmp e)) gs) ≡ false) → suc (length gs) ≤ cond b (suc (place e gs)) 0
        → is_some (cond (is_at (nat_cmp e) g.0) (Some g.1) (lookup (is_at (nat_cmp e)) gs)) ≡ false
    by true below rest k =
        let l = le_is (suc g.0) e below in
        ap (λ b. is_some (cond b (Some g.1) (lookup (is_at (nat_cmp e)) gs))) (is_at_apart e g.0 (λ s. omega (arith, s, l))) ∙ rest (omega (arith, k))
    by false other rest k = absurd (omega (arith, k))

pub there_decides : (e lo : ℕ) (cs : List Cell) (c : Cell) → AreRising lo (gaps_of cs) → place e (gaps_of cs) < length cs → c ≡ get_or cs (place e (gaps_of cs)) c
    → (c.epoch == e) ≡ is_some (lookup (is_at (nat_cmp e)) (gaps_of cs))
there_decides e lo [] c rising l is = absurd (omega (arith, l))
there_decides e lo (x ∷ cs) c rising l is = by (nat_lt x.epoch e) refl (there_decides e (suc x.epoch) cs c rising.1) l is
  where
    own : (b : Bool) → is_at (nat_cmp e) x.epoch ≡ b → e ≤ x.epoch → (x.epoch == e) ≡ is_some (cond b (Some (mark_of x)) (lookup (is_at (nat_cmp e)) (gaps_of cs)))
    own true same low = let k = at_is e x.epoch same in grind (arith, nat_tests, k)
    own false apart low =
        let k : (x.epoch == e) ≡ false = (let m = at_not e x.epoch apart in grind (arith, nat_tests, m)) in
        k ∙ sym (not_above e (suc x.epoch) (gaps_of cs) rising.1 (omega (arith, low)))

    by : (b : Bool) → nat_lt x.epoch e ≡ b
        → (place e (gaps_of cs) < length cs → c ≡ get_or cs (place e (gaps_of cs)) c → (c.epoch == e) ≡ is_some (lookup (is_at (nat_cmp e)) (gaps_of cs)))
        → cond b (suc (place e (gaps_of cs))) 0 < suc (length cs) → c ≡ get_or (x ∷ cs) (cond b (suc (place e (gaps_of cs))) 0) c
        → (c.epoch == e) ≡ is_some (cond (is_at (nat_cmp e) x.epoch) (Some (mark_of x)) (lookup (is_at (nat_cmp e)) (gaps_of cs)))
    by true below rest m s =
        let k = le_is (suc x.epoch) e below in
        rest (omega (arith, m)) s ∙ sym (ap (λ b. is_some (cond b (Some (mark_of x)) (lookup (is_at (nat_cmp e)) (gaps_of cs)))) (is_at_apart e x.epoch (λ t. omega (arith, t, k))))
    by false other rest m s = ap (λ (y : Cell). y.epoch == e) s ∙ own (is_at (nat_cmp e) x.epoch) refl (let k = le_not (suc x.epoch) e other in omega (arith, k))

-- Where a gap counts from
pub start_first : (e lo : ℕ) (gs : Gaps) → place e gs ≡ 0 → start_of lo e gs ≡ lo
start_first e lo [] h = refl
start_first e lo (g ∷ gs) h = by (nat_lt g.0 e) h
  where
    by : (b : Bool) → cond b (suc (place e gs)) 0 ≡ 0 → cond b (start_of (suc g.0) e gs) lo ≡ lo
    by true k = absurd (omega (arith, k))
    by false k = refl

pub start_after : (e lo i : ℕ) (cs : List Cell) (c : Cell) → place e (gaps_of cs) ≡ suc i → c ≡ get_or cs i c → (start_of lo e (gaps_of cs) ≡ suc c.epoch) × (c.epoch < e)
start_after e lo i [] c h is = absurd (omega (arith, h))
start_after e lo i (x ∷ cs) c h is = by (nat_lt x.epoch e) refl i h is (λ j k s. start_after e (suc x.epoch) j cs c k s)
  where
    by : (b : Bool) → nat_lt x.epoch e ≡ b → (i : ℕ) → cond b (suc (place e (gaps_of cs))) 0 ≡ suc i → c ≡ get_or (x ∷ cs) i c
        → ((j : ℕ) → place e (gaps_of cs) ≡ suc j → c ≡ get_or cs j c → (start_of (suc x.epoch) e (gaps_of cs) ≡ suc c.epoch) × (c.epoch < e))
        → (cond b (start_of (suc x.epoch) e (gaps_of cs)) lo ≡ suc c.epoch) × (c.epoch < e)
    by false other i k s rest = absurd (omega (arith, k))
    by true below zero k s rest =
        let same : c.epoch ≡ x.epoch = ap (λ (y : Cell). y.epoch) s in
        let l = le_is (suc x.epoch) e below in
        (start_first e (suc x.epoch) (gaps_of cs) (omega (arith, k)) ∙ ap suc (sym same), omega (arith, same, l))
    by true below (suc i) k s rest = rest i (omega (arith, k)) s

-- How many there are in a range
pub count_is : (lo upto from : ℕ) (gs : Gaps) → AreRising lo gs → from ≤ upto
    → place from gs + within from upto gs ≡ place upto gs + one (is_some (lookup (is_at (nat_cmp upto)) gs))
count_is lo upto from [] rising le = refl
count_is lo upto from (g ∷ gs) rising le = by (nat_lt g.0 from) refl (nat_lt g.0 upto) refl (is_at (nat_cmp upto) g.0) refl (count_is (suc g.0) upto from gs rising.1 le)
  where
    by : (a : Bool) → nat_lt g.0 from ≡ a → (b : Bool) → nat_lt g.0 upto ≡ b → (d : Bool) → is_at (nat_cmp upto) g.0 ≡ d
        → place from gs + within from upto gs ≡ place upto gs + one (is_some (lookup (is_at (nat_cmp upto)) gs))
        → cond a (suc (place from gs)) 0 + within from upto (g ∷ gs) ≡ cond b (suc (place upto gs)) 0 + one (is_some (cond d (Some g.1) (lookup (is_at (nat_cmp upto)) gs)))
    by true low true high true same rest =
        let k = at_is upto g.0 same in
        let l = le_is (suc g.0) upto high in
        absurd (omega (arith, k, l))
    by true low true high false other rest =
        let a = within-cons from upto g gs in
        let l = le_is (suc g.0) from low in
        let z = covers_after g.0 from upto (omega (arith, l)) in
        omega (arith, a, z, rest)
    by true low false high d is rest =
        let k = le_is (suc g.0) from low in
        let l = le_not (suc g.0) upto high in
        absurd (omega (arith, k, l, le))
    by false high true low true same rest =
        let k = at_is upto g.0 same in
        let l = le_is (suc g.0) upto low in
        absurd (omega (arith, k, l))
    by false high true low false other rest =
        let a = within-cons from upto g gs in
        let k = le_not (suc g.0) from high in
        let l = le_is (suc g.0) upto low in
        let z = covers_in g.0 from upto (omega (arith, k)) (omega (arith, l)) in
        let n = zero_place from (suc g.0) gs rising.1 (omega (arith, k)) in
        omega (arith, a, z, n, rest)
    by false high false over true same rest =
        let a = within-cons from upto g gs in
        let k = le_not (suc g.0) from high in
        let e = at_is upto g.0 same in
        let z = covers_in g.0 from upto (omega (arith, k)) (omega (arith, e)) in
        let n = zero_place from (suc g.0) gs rising.1 (omega (arith, k)) in
        let m = zero_place upto (suc g.0) gs rising.1 (omega (arith, e)) in
        let none = ap one (not_above upto (suc g.0) gs rising.1 (omega (arith, e))) in
        omega (arith, a, z, n, m, none, rest)
    by false high false over false other rest =
        let a = within-cons from upto g gs in
        let k = le_not (suc g.0) from high in
        let l = le_not (suc g.0) upto over in
        let apart : upto < g.0 = grind (arith, l, at_not upto g.0 other) in
        let z = covers_before g.0 from upto apart in
        let n = zero_place from (suc g.0) gs rising.1 (omega (arith, k)) in
        let m = zero_place upto (suc g.0) gs rising.1 (omega (arith, apart)) in
        let none = ap one (not_above upto (suc g.0) gs rising.1 (omega (arith, apart))) in
        omega (arith, a, z, n, m, none, rest)

-- Cells that change
pub gaps_insert : (cs : List Cell) (i : ℕ) (c : Cell) → gaps_of (insert cs i c) ≡ insert (gaps_of cs) i (c.epoch, mark_of c)
gaps_insert cs i c =
    map-append (λ (d : Cell). (d.epoch, mark_of d)) (take i cs) (c ∷ drop i cs)
    ∙ (λ j. sym (take-map (λ (d : Cell). (d.epoch, mark_of d)) i cs) j ++ (c.epoch, mark_of c) ∷ sym (drop-map (λ (d : Cell). (d.epoch, mark_of d)) i cs) j)

pub gaps_remove : (cs : List Cell) (i : ℕ) → gaps_of (remove cs i) ≡ remove (gaps_of cs) i
gaps_remove cs i =
    map-append (λ (d : Cell). (d.epoch, mark_of d)) (take i cs) (drop (suc i) cs)
    ∙ (λ j. sym (take-map (λ (d : Cell). (d.epoch, mark_of d)) i cs) j ++ sym (drop-map (λ (d : Cell). (d.epoch, mark_of d)) (suc i) cs) j)

pub cell_changed : (f : ℕ → ℕ) (cs : List Cell) (i : ℕ) (c : Cell) → c ≡ get_or cs i c
    → gaps_of (set cs i (record { epoch = c.epoch; gap = f c.gap; times = c.times })) ≡ changed_at i f (gaps_of cs)
cell_changed f [] i c is = refl
cell_changed f (x ∷ cs) zero c is = ap (λ (y : Cell). (y.epoch, with_gap f (mark_of y)) ∷ gaps_of cs) is
cell_changed f (x ∷ cs) (suc i) c is = ap (λ r. (x.epoch, mark_of x) ∷ r) (cell_changed f cs i c is)

pub none_changed : (f : ℕ → ℕ) (gs : Gaps) (i : ℕ) → length gs ≤ i → changed_at i f gs ≡ gs
none_changed f [] i h = refl
none_changed f (g ∷ gs) zero h = absurd (omega (arith, h))
none_changed f (g ∷ gs) (suc i) h = ap (λ r. g ∷ r) (none_changed f gs i (omega (arith, h)))

pub step_at_place : (e : ℕ) (f : ℕ → ℕ) (gs : Gaps) → changed_at (place e gs) f gs ≡ changed_from e f gs
step_at_place e f [] = refl
step_at_place e f (g ∷ gs) = by (nat_lt g.0 e) refl (step_at_place e f gs)
  where
    by : (b : Bool) → nat_lt g.0 e ≡ b → changed_at (place e gs) f gs ≡ changed_from e f gs
        → changed_at (cond b (suc (place e gs)) 0) f (g ∷ gs) ≡ cond (nat_le e g.0) ((g.0, with_gap f g.1) ∷ gs) (g ∷ changed_from e f gs)
    by true below rest =
        ap (λ r. g ∷ r) rest ∙ sym (ap (λ b. cond b ((g.0, with_gap f g.1) ∷ gs) (g ∷ changed_from e f gs)) (not_le e g.0 (le_is (suc g.0) e below)))
    by false other rest = sym (ap (λ b. cond b ((g.0, with_gap f g.1) ∷ gs) (g ∷ changed_from e f gs)) (is_le e g.0 (let k = le_not (suc g.0) e other in omega (arith, k))))

pub put_at_place : (e : ℕ) (m : Mark) (gs : Gaps) → is_some (lookup (is_at (nat_cmp e)) gs) ≡ false → changed_at (suc (place e gs)) (minus m.gap) (insert gs (place e gs) (e, m)) ≡ with_epoch e m gs
put_at_place e m [] new = refl
put_at_place e m (g ∷ gs) new = by (nat_lt g.0 e) refl (put_at_place e m gs)
  where
    apart : (b : Bool) → is_at (nat_cmp e) g.0 ≡ b → is_some (cond b (Some g.1) (lookup (is_at (nat_cmp e)) gs)) ≡ false → (b ≡ false) × (is_some (lookup (is_at (nat_cmp e)) gs) ≡ false)
    apart true is k = absurd (true≢false k)
    apart false is k = (refl, k)

    by : (b : Bool) → nat_lt g.0 e ≡ b → (is_some (lookup (is_at (nat_cmp e)) gs) ≡ false → changed_at (suc (place e gs)) (minus m.gap) (insert gs (place e gs) (e, m)) ≡ with_epoch e m gs)
        → changed_at (suc (cond b (suc (place e gs)) 0)) (minus m.gap) (insert (g ∷ gs) (cond b (suc (place e gs)) 0) (e, m)) ≡ cond (nat_lt e g.0) ((e, m) ∷ (g.0, with_gap (minus m.gap) g.1) ∷ gs) (g ∷ with_epoch e m gs)
    by true below rest =
        let k = le_is (suc g.0) e below in
        ap (λ r. g ∷ r) (rest (apart (is_at (nat_cmp e) g.0) refl new).1)
        ∙ sym (ap (λ b. cond b ((e, m) ∷ (g.0, with_gap (minus m.gap) g.1) ∷ gs) (g ∷ with_epoch e m gs)) (not_le (suc e) g.0 (omega (arith, k))))
    by false other rest =
        let k = le_not (suc g.0) e other in
        let l = at_not e g.0 (apart (is_at (nat_cmp e) g.0) refl new).0 in
        let above : e < g.0 = grind (arith, k, l) in
        sym (ap (λ b. cond b ((e, m) ∷ (g.0, with_gap (minus m.gap) g.1) ∷ gs) (g ∷ with_epoch e m gs)) (is_le (suc e) g.0 (omega (arith, above))))

pub take_at_place : (e lo : ℕ) (cs : List Cell) (c : Cell) → AreRising lo (gaps_of cs) → is_some (lookup (is_at (nat_cmp e)) (gaps_of cs)) ≡ true → c ≡ get_or cs (place e (gaps_of cs)) c
    → changed_at (place e (gaps_of cs)) (plus c.gap) (remove (gaps_of cs) (place e (gaps_of cs))) ≡ without_epoch e (gaps_of cs)
take_at_place e lo [] c rising there is = absurd (true≢false (sym there))
take_at_place e lo (x ∷ cs) c rising there is = by (nat_lt x.epoch e) refl (is_at (nat_cmp e) x.epoch) refl there is (take_at_place e (suc x.epoch) cs c rising.1)
  where
    all_after : (hs : Gaps) → AreRising (suc x.epoch) hs → e ≤ x.epoch → (f : ℕ → ℕ) → changed_at 0 f hs ≡ changed_from e f hs
    all_after [] rising' low f = refl
    all_after (h ∷ hs) rising' low f = sym (ap (λ b. cond b ((h.0, with_gap f h.1) ∷ hs) (h ∷ changed_from e f hs)) (is_le e h.0 (omega (arith, low, rising'.0))))

    by : (b : Bool) → nat_lt x.epoch e ≡ b → (d : Bool) → is_at (nat_cmp e) x.epoch ≡ d → is_some (cond d (Some (mark_of x)) (lookup (is_at (nat_cmp e)) (gaps_of cs))) ≡ true
        → c ≡ get_or (x ∷ cs) (cond b (suc (place e (gaps_of cs))) 0) c
        → (is_some (lookup (is_at (nat_cmp e)) (gaps_of cs)) ≡ true → c ≡ get_or cs (place e (gaps_of cs)) c → changed_at (place e (gaps_of cs)) (plus c.gap) (remove (gaps_of cs) (place e (gaps_of cs))) ≡ without_epoch e (gaps_of cs))
        → changed_at (cond b (suc (place e (gaps_of cs))) 0) (plus c.gap) (remove ((x.epoch, mark_of x) ∷ (gaps_of cs)) (cond b (suc (place e (gaps_of cs))) 0))
        ≡ changed_from e (plus (unwrap_or (cond d (Some (mark_of x)) (lookup (is_at (nat_cmp e)) (gaps_of cs))) nothing).gap) (cond d (gaps_of cs) ((x.epoch, mark_of x) ∷ remove_entry (is_at (nat_cmp e)) (gaps_of cs)))
    by true below true same k s rest =
        let l = le_is (suc x.epoch) e below in
        let m = at_is e x.epoch same in
        absurd (omega (arith, l, m))
    by true below false apart k s rest =
        let f = plus (gap_at e (gaps_of cs)) in
        ap (λ r. (x.epoch, mark_of x) ∷ r) (rest k s)
        ∙ sym (ap (λ b. cond b ((x.epoch, with_gap f (mark_of x)) ∷ remove_entry (is_at (nat_cmp e)) (gaps_of cs)) ((x.epoch, mark_of x) ∷ changed_from e f (remove_entry (is_at (nat_cmp e)) (gaps_of cs)))) (not_le e x.epoch (le_is (suc x.epoch) e below)))
    by false other true same k s rest =
        ap (λ (y : Cell). changed_at 0 (plus y.gap) (gaps_of cs)) s ∙ all_after (gaps_of cs) rising.1 (let m = at_is e x.epoch same in omega (arith, m)) (plus x.gap)
    by false other false apart k s rest =
        let l = le_not (suc x.epoch) e other in
        absurd (true≢false (sym k ∙ not_above e (suc x.epoch) (gaps_of cs) rising.1 (omega (arith, l))))

-- The epochs rise
pub rising_changed : (lo e : ℕ) (f : ℕ → ℕ) (gs : Gaps) → AreRising lo gs → AreRising lo (changed_from e f gs)
rising_changed lo e f [] rising = tt
rising_changed lo e f (g ∷ gs) rising = by (nat_le e g.0) (rising_changed (suc g.0) e f gs rising.1)
  where
    by : (b : Bool) → AreRising (suc g.0) (changed_from e f gs) → AreRising lo (cond b ((g.0, with_gap f g.1) ∷ gs) (g ∷ changed_from e f gs))
    by true rest = rising
    by false rest = (rising.0, rest)

pub rising_with : (lo e : ℕ) (m : Mark) (gs : Gaps) → AreRising lo gs → lo ≤ e → is_some (lookup (is_at (nat_cmp e)) gs) ≡ false → AreRising lo (with_epoch e m gs)
rising_with lo e m [] rising low new = (low, tt)
rising_with lo e m (g ∷ gs) rising low new = by (nat_lt e g.0) refl (is_at (nat_cmp e) g.0) refl new (rising_with (suc g.0) e m gs rising.1)
  where
    by : (b : Bool) → nat_lt e g.0 ≡ b → (d : Bool) → is_at (nat_cmp e) g.0 ≡ d → is_some (cond d (Some g.1) (lookup (is_at (nat_cmp e)) gs)) ≡ false
        → (suc g.0 ≤ e → is_some (lookup (is_at (nat_cmp e)) gs) ≡ false → AreRising (suc g.0) (with_epoch e m gs))
        → AreRising lo (cond b ((e, m) ∷ (g.0, with_gap (minus m.gap) g.1) ∷ gs) (g ∷ with_epoch e m gs))
    by true before d is k rest = (low, (le_is (suc e) g.0 before, rising.1))
    by false other true same k rest = absurd (true≢false k)
    by false other false apart k rest =
        let l = le_not (suc e) g.0 other in
        let k' = at_not e g.0 apart in
        (rising.0, rest (grind (arith, l, k')) k)

rising_removed : (lo e : ℕ) (gs : Gaps) → AreRising lo gs → AreRising lo (remove_entry (is_at (nat_cmp e)) gs)
rising_removed lo e [] rising = tt
rising_removed lo e (g ∷ gs) rising = by (is_at (nat_cmp e) g.0) (rising_removed (suc g.0) e gs rising.1)
  where
    by : (b : Bool) → AreRising (suc g.0) (remove_entry (is_at (nat_cmp e)) gs) → AreRising lo (cond b gs (g ∷ remove_entry (is_at (nat_cmp e)) gs))
    by true rest = weaker (suc g.0) lo gs (let k = rising.0 in omega (arith, k)) rising.1
    by false rest = (rising.0, rest)

pub rising_without : (lo e : ℕ) (gs : Gaps) → AreRising lo gs → AreRising lo (without_epoch e gs)
rising_without lo e gs rising = rising_changed lo e (plus (gap_at e gs)) (remove_entry (is_at (nat_cmp e)) gs) (rising_removed lo e gs rising)

-- How often a pointstamp occurs
pub times_there : (e lo : ℕ) (cs : List Cell) (c : Cell) → AreRising lo (gaps_of cs) → place e (gaps_of cs) < length cs → c ≡ get_or cs (place e (gaps_of cs)) c
    → times_at e (gaps_of cs) ≡ cond (c.epoch == e) c.times 0
times_there e lo [] c rising l is = absurd (omega (arith, l))
times_there e lo (x ∷ cs) c rising l is = by (nat_lt x.epoch e) refl (times_there e (suc x.epoch) cs c rising.1) l is
  where
    none : (gs : Gaps) → is_some (lookup (is_at (nat_cmp e)) gs) ≡ false → times_at e gs ≡ 0
    none gs h = of (lookup (is_at (nat_cmp e)) gs) h
      where
        of : (o : Option Mark) → is_some o ≡ false → (unwrap_or o nothing).times ≡ 0
        of None h' = refl
        of (Some m) h' = absurd (true≢false h')

    own : (b : Bool) → is_at (nat_cmp e) x.epoch ≡ b → e ≤ x.epoch → (unwrap_or (cond b (Some (mark_of x)) (lookup (is_at (nat_cmp e)) (gaps_of cs))) nothing).times ≡ cond (x.epoch == e) x.times 0
    own true same low =
        let k : (x.epoch == e) ≡ true = (let m = at_is e x.epoch same in grind (arith, nat_tests, m)) in
        sym (ap (λ d. cond d x.times 0) k)
    own false apart low =
        let k : (x.epoch == e) ≡ false = (let m = at_not e x.epoch apart in grind (arith, nat_tests, m)) in
        none (gaps_of cs) (not_above e (suc x.epoch) (gaps_of cs) rising.1 (omega (arith, low))) ∙ sym (ap (λ d. cond d x.times 0) k)

    by : (b : Bool) → nat_lt x.epoch e ≡ b
        → (place e (gaps_of cs) < length cs → c ≡ get_or cs (place e (gaps_of cs)) c → times_at e (gaps_of cs) ≡ cond (c.epoch == e) c.times 0)
        → cond b (suc (place e (gaps_of cs))) 0 < suc (length cs) → c ≡ get_or (x ∷ cs) (cond b (suc (place e (gaps_of cs))) 0) c
        → (unwrap_or (cond (is_at (nat_cmp e) x.epoch) (Some (mark_of x)) (lookup (is_at (nat_cmp e)) (gaps_of cs))) nothing).times ≡ cond (c.epoch == e) c.times 0
    by true below rest m s =
        let k = le_is (suc x.epoch) e below in
        ap (λ b. (unwrap_or (cond b (Some (mark_of x)) (lookup (is_at (nat_cmp e)) (gaps_of cs))) nothing).times) (is_at_apart e x.epoch (λ t. omega (arith, t, k)))
        ∙ rest (omega (arith, m)) s
    by false other rest m s =
        own (is_at (nat_cmp e) x.epoch) refl (let k = le_not (suc x.epoch) e other in omega (arith, k))
        ∙ sym (ap (λ (y : Cell). cond (y.epoch == e) y.times 0) s)

pub times_past : (e : ℕ) (gs : Gaps) → length gs ≤ place e gs → times_at e gs ≡ 0
times_past e gs h = of (lookup (is_at (nat_cmp e)) gs) (nothing_there e gs h)
  where
    of : (o : Option Mark) → is_some o ≡ false → (unwrap_or o nothing).times ≡ 0
    of None h' = refl
    of (Some m) h' = absurd (true≢false h')

-- an epoch that is there, at its place
pub stands_there : (e lo : ℕ) (gs : Gaps) → AreRising lo gs → is_some (lookup (is_at (nat_cmp e)) gs) ≡ true → place e gs < length gs
stands_there e lo gs rising there = by (nat_lt (place e gs) (length gs)) refl
  where
    by : (b : Bool) → nat_lt (place e gs) (length gs) ≡ b → place e gs < length gs
    by true l = le_is (suc (place e gs)) (length gs) l
    by false l = absurd (true≢false (sym there ∙ nothing_there e gs (let k = le_not (suc (place e gs)) (length gs) l in omega (arith, k))))

pub timed_there : (e lo : ℕ) (f : ℕ → ℕ) (cs : List Cell) (c : Cell) → AreRising lo (gaps_of cs) → is_some (lookup (is_at (nat_cmp e)) (gaps_of cs)) ≡ true → c ≡ get_or cs (place e (gaps_of cs)) c
    → (gaps_of (set cs (place e (gaps_of cs)) (record { epoch = c.epoch; gap = c.gap; times = f c.times })) ≡ timed e f (gaps_of cs)) × (times_at e (gaps_of cs) ≡ c.times)
timed_there e lo f [] c rising there is = absurd (true≢false (sym there))
timed_there e lo f (x ∷ cs) c rising there is = by (nat_lt x.epoch e) refl (is_at (nat_cmp e) x.epoch) refl there is (timed_there e (suc x.epoch) f cs c rising.1)
  where
    by : (b : Bool) → nat_lt x.epoch e ≡ b → (d : Bool) → is_at (nat_cmp e) x.epoch ≡ d → is_some (cond d (Some (mark_of x)) (lookup (is_at (nat_cmp e)) (gaps_of cs))) ≡ true
        → c ≡ get_or (x ∷ cs) (cond b (suc (place e (gaps_of cs))) 0) c
        → (is_some (lookup (is_at (nat_cmp e)) (gaps_of cs)) ≡ true → c ≡ get_or cs (place e (gaps_of cs)) c
        → (gaps_of (set cs (place e (gaps_of cs)) (record { epoch = c.epoch; gap = c.gap; times = f c.times })) ≡ timed e f (gaps_of cs)) × (times_at e (gaps_of cs) ≡ c.times))
        → (gaps_of (set (x ∷ cs) (cond b (suc (place e (gaps_of cs))) 0) (record { epoch = c.epoch; gap = c.gap; times = f c.times })) ≡ cond d ((x.epoch, with_times f (mark_of x)) ∷ (gaps_of cs)) ((x.epoch, mark_of x) ∷ timed e f (gaps_of cs)))
        × ((unwrap_or (cond d (Some (mark_of x)) (lookup (is_at (nat_cmp e)) (gaps_of cs))) nothing).times ≡ c.times)
    by true below true same k s rest =
        let l = le_is (suc x.epoch) e below in
        let m = at_is e x.epoch same in
        absurd (omega (arith, l, m))
    by true below false apart k s rest =
        let r = rest k s in
        (ap (λ hs. (x.epoch, mark_of x) ∷ hs) r.0, r.1)
    by false other true same k s rest =
        (ap (λ (y : Cell). (y.epoch, with_times f (mark_of y)) ∷ (gaps_of cs)) s, sym (ap (λ (y : Cell). y.times) s))
    by false other false apart k s rest =
        let l = le_not (suc x.epoch) e other in
        absurd (true≢false (sym k ∙ not_above e (suc x.epoch) (gaps_of cs) rising.1 (omega (arith, l))))

pub rising_timed : (lo e : ℕ) (f : ℕ → ℕ) (gs : Gaps) → AreRising lo gs → AreRising lo (timed e f gs)
rising_timed lo e f [] rising = tt
rising_timed lo e f (g ∷ gs) rising = by (is_at (nat_cmp e) g.0) (rising_timed (suc g.0) e f gs rising.1)
  where
    by : (b : Bool) → AreRising (suc g.0) (timed e f gs) → AreRising lo (cond b ((g.0, with_times f g.1) ∷ gs) (g ∷ timed e f gs))
    by true rest = rising
    by false rest = (rising.0, rest)

-- all are after an epoch, where the first is
pub after_first : (e lo : ℕ) (cs : List Cell) (c : Cell) → AreRising lo (gaps_of cs) → 0 < length cs → c ≡ get_or cs 0 c → nat_lt e c.epoch ≡ list_all (λ (g : ℕ × Mark). nat_lt e g.0) (gaps_of cs)
after_first e lo [] c rising some is = absurd (omega (arith, some))
after_first e lo (x ∷ cs) c rising some is = ap (λ (y : Cell). nat_lt e y.epoch) is ∙ by (nat_lt e x.epoch) refl
  where
    all : (lo' : ℕ) (gs : Gaps) → AreRising lo' gs → e < lo' → list_all (λ (g : ℕ × Mark). nat_lt e g.0) gs ≡ true
    all lo' [] rising' low = refl
    all lo' (g ∷ gs) rising' low = (λ i. is_le (suc e) g.0 (omega (arith, low, rising'.0)) i && all (suc g.0) gs rising'.1 (omega (arith, low, rising'.0)) i)

    by : (b : Bool) → nat_lt e x.epoch ≡ b → b ≡ (b && list_all (λ (g : ℕ × Mark). nat_lt e g.0) (gaps_of cs))
    by true before = sym (all (suc x.epoch) (gaps_of cs) rising.1 (let k = le_is (suc e) x.epoch before in omega (arith, k)))
    by false other = refl
