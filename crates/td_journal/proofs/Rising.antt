-- Request numbers rise.
use Rattle.std.proofs.Common.{◌≡◌, ℕ, zero, suc, ◌≤◌, ◌<◌, Bool, true, false, ◌&&◌, ◌||◌, ◌==◌, not, max, cond, nat_lt, inl, inr, List, [], ◌∷◌, ◌++◌, map, Option, Some, None, refl, sym, ap, ◌∙◌, arith}
use Rattle.std.specs.Prelude.{All, filter}
use Rattle.std.proofs.Math.Nat.{le-max_left, le-max_right, max-eq_left, max-eq_right}
use Rattle.std.proofs.lemmas.Bool.{cases_Bool, and_from, and_left, eqb-true, ltb-true}
use Rattle.td_gate.specs.Fields.{is_chain}
use Rattle.td_journal.specs.declared.payload.Submitted.{Submitted}
use Rattle.td_journal.specs.Numbers.{may_come, raised, greatest, floor_after, rise}
use Rattle.td_journal.specs.Cell.{Found}
use Rattle.td_journal.specs.Cell.Found.{submitted}
use Rattle.td_journal.proofs.Ring.{Runs, floor_none, floor_more}

-- one number before the others
first : (q r : ℕ) (rest : List ℕ) → is_chain nat_lt (q ∷ cond (not (r == 0)) (r ∷ rest) rest) ≡ (((r == 0) || nat_lt q r) && is_chain nat_lt (max q r ∷ rest))
first q r rest = elim (cases_Bool (r == 0)) [
  | inl none ↦
      let is : r ≡ 0 = eqb-true r 0 none in
      let same : q ≡ max q r = sym (max-eq_left (omega (arith, is))) in
      ap (λ (t : Bool). is_chain nat_lt (q ∷ cond (not t) (r ∷ rest) rest)) none ∙ ap (λ (x : ℕ). is_chain nat_lt (x ∷ rest)) same
      ∙ sym (ap (λ (t : Bool). (t || nat_lt q r) && is_chain nat_lt (max q r ∷ rest)) none)
  | inr some ↦ ap (λ (t : Bool). is_chain nat_lt (q ∷ cond (not t) (r ∷ rest) rest)) some ∙ above q r rest
      ∙ sym (ap (λ (t : Bool). (t || nat_lt q r) && is_chain nat_lt (max q r ∷ rest)) some)
]
  where
    above : (q r : ℕ) (rest : List ℕ) → (nat_lt q r && is_chain nat_lt (r ∷ rest)) ≡ (nat_lt q r && is_chain nat_lt (max q r ∷ rest))
    above q r rest = elim (cases_Bool (nat_lt q r)) [
      | inl lt ↦
          let low : q < r = ltb-true q r lt in
          ap (λ (x : ℕ). nat_lt q r && is_chain nat_lt (x ∷ rest)) (sym (max-eq_right (omega (arith, low))))
      | inr not_ ↦ and_left (nat_lt q r) (is_chain nat_lt (r ∷ rest)) not_ ∙ sym (and_left (nat_lt q r) (is_chain nat_lt (max q r ∷ rest)) not_)
    ]

-- one epoch before the others
pub rise_first : (floor : Option ℕ) (s : Submitted) (w : List Submitted) → rise floor (s ∷ w) ≡ (may_come floor s.request && rise (raised floor s.request) w)
rise_first None s w = refl
rise_first (Some q) s w = first q s.request (filter (λ r. not (r == 0)) (map (λ s. s.request) w))

rise_none : (floor : Option ℕ) → rise floor [] ≡ true
rise_none None = refl
rise_none (Some q) = refl

and_true : (a : Bool) → (a && true) ≡ a
and_true true = refl
and_true false = refl

and_assoc : (a b c : Bool) → (a && (b && c)) ≡ ((a && b) && c)
and_assoc true b c = refl
and_assoc false b c = refl

-- one epoch after the others
pub rise_last : (floor : Option ℕ) (w : List Submitted) (x : Submitted) → rise floor (w ++ x ∷ []) ≡ (rise floor w && may_come (floor_after floor w) x.request)
rise_last floor [] x =
    rise_first floor x [] ∙ ap (λ (t : Bool). may_come floor x.request && t) (rise_none (raised floor x.request)) ∙ and_true (may_come floor x.request)
    ∙ ap (λ (o : Option ℕ). may_come o x.request) (sym (floor_none floor)) ∙ sym (ap (λ (t : Bool). t && may_come (floor_after floor []) x.request) (rise_none floor))
rise_last floor (s ∷ w) x =
    let after = raised floor s.request in
    rise_first floor s (w ++ x ∷ []) ∙ ap (λ (t : Bool). may_come floor s.request && t) (rise_last after w x)
    ∙ and_assoc (may_come floor s.request) (rise after w) (may_come (floor_after after w) x.request)
    ∙ ap (λ (t : Bool). t && may_come (floor_after after w) x.request) (sym (rise_first floor s w))
    ∙ ap (λ (o : Option ℕ). rise floor (s ∷ w) && may_come o x.request) (sym (floor_more floor s w))

-- the numbers of what stands in a ring rise, where each may come
pub runs_rise : (find : Option ℕ → ℕ → Found) → ((o : Option ℕ) (e : ℕ) (s : Submitted) → find o e ≡ submitted s → may_come o s.request ≡ true)
    → (floor : Option ℕ) (epoch : ℕ) (w : List Submitted) → Runs find floor epoch w → rise floor w ≡ true
runs_rise find may floor epoch [] r = rise_none floor
runs_rise find may floor epoch (s ∷ w) r =
    rise_first floor s w ∙ and_from (may_come floor s.request) (rise (raised floor s.request) w) (may floor epoch s r.0) (runs_rise find may (raised floor s.request) (suc epoch) w r.1)

-- the greatest number
pub greatest_joined : (q : ℕ) (v w : List Submitted) → greatest q (v ++ w) ≡ greatest (greatest q v) w
greatest_joined q [] w = refl
greatest_joined q (s ∷ v) w = greatest_joined (max q s.request) v w

pub greatest_at_least : (q : ℕ) (w : List Submitted) → q ≤ greatest q w
greatest_at_least q [] = omega arith
greatest_at_least q (s ∷ w) = let more = greatest_at_least (max q s.request) w in let left : q ≤ max q s.request = le-max_left q s.request in omega (arith, more, left)

pub greatest_of_each : (q : ℕ) (w : List Submitted) → All (λ s. s.request ≤ greatest q w) w
greatest_of_each q [] k d lt = absurd (omega (arith, lt))
greatest_of_each q (s ∷ w) zero d lt =
    let more = greatest_at_least (max q s.request) w in
    let right : s.request ≤ max q s.request = le-max_right q s.request in
    omega (arith, more, right)
greatest_of_each q (s ∷ w) (suc k) d lt = greatest_of_each (max q s.request) w k d (omega (arith, lt))
