use Rattle.std.proofs.Common.{◌≡◌, ◌<◌, ◌≤◌, ◌==◌, nat_lt, ℕ, Bool, true, false, cond, length, get_or, refl, sym, ap, ◌∙◌, arith}
use Rattle.std.proofs.lemmas.Bool.Decides.{nat_tests}
use Rattle.td_shard.specs.Order.{at_number, few}
use Rattle.td_shard.specs.Runs.{Part, AscendIn, its}
use Rattle.td_shard.specs.declared.runs.Numbered.{Numbered}
use Rattle.td_shard.proofs.Numbers.{is_equal, is_other}
use Rattle.td_shard.proofs.Search.{is_there, not_there}
use Rattle.td_shard.proofs.Tasks.{own_ascends}
use Rattle.td_shard.proofs.take.has_number.Goals as goal

-- whether the number is that of the record behind those of lower numbers
once : (n m i : ℕ) (p : Part) → AscendIn p → few n (its p) ≡ i → i < length p.recs → ((d : Numbered) → m ≡ (get_or p.recs i d).number) → length (at_number n (its p)) ≡ cond (m == n) 1 0
once n m i p a e l is = by (m == n) refl
  where
    by : (b : Bool) → (m == n) ≡ b → length (at_number n (its p)) ≡ cond b 1 0
    by true f = is_there n p.lane p.recs i a e l (λ d. sym (is d) ∙ is_equal m n f)
    by false f = not_there n p.lane p.recs i a e (λ k d same. is_other m n f (is d ∙ same))

not_less : (a b : ℕ) → b ≤ a → nat_lt a b ≡ false
not_less a b l = by (nat_lt a b) refl
  where
    by : (t : Bool) → nat_lt a b ≡ t → nat_lt a b ≡ false
    by true e = absurd (grind (arith, nat_tests, e, l))
    by false e = e

pub returns-then-offset-waiting-clause-count : goal.returns-then-offset-waiting-clause-count
returns-then-offset-waiting-clause-count c d =
    let p = get_or c.args.runs.now.parts c.args.place d in
    let some = c.waiting.ensures.count d in
    once c.args.number c.number.result c.below_in-offset.result p (own_ascends c.args.runs.now.parts c.args.place d c.requires.within c.requires.ascending) (sym (c.below_in-offset.ensures.count d)) (omega (arith, some, c.if-offset-waiting.true)) (c.number.ensures d)

pub returns-else-offset-waiting-clause-count : goal.returns-else-offset-waiting-clause-count
returns-else-offset-waiting-clause-count c d =
    let p = get_or c.args.runs.now.parts c.args.place d in
    let some = c.waiting.ensures.count d in
    not_there c.args.number p.lane p.recs c.below_in-offset.result (own_ascends c.args.runs.now.parts c.args.place d c.requires.within c.requires.ascending) (sym (c.below_in-offset.ensures.count d)) (λ l e same. omega (arith, l, some, c.if-offset-waiting.false))
    ∙ ap (λ b. cond b 1 0) (sym (not_less c.below_in-offset.result c.waiting.result c.if-offset-waiting.false))
