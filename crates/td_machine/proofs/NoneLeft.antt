-- Where a shard has no task, and which epoch has not passed.
use Rattle.std.proofs.Common.{◌≡◌, ℕ, zero, suc, ◌+◌, ◌-◌, ◌≤◌, List, [], ◌∷◌, filter, find, refl, ap, sym, ◌∙◌, subst, Bool, true, false, not, cond, arith}
use Rattle.std.specs.Prelude.{Some, None, nat_lt}
use Rattle.std.specs.List.{AllByRecursion}
use Rattle.std.proofs.lemmas.Bool.{lt-ltb, le-ltb, ltb-true, ltb-false}
use Rattle.td_stamp.specs.declared.values.Rec.{Rec}
use Rattle.td_batch.specs.Flow.{numbers_from}
use Rattle.td_machine.specs.declared.records.Message.{Message}
use Rattle.td_machine.specs.State.{Content, message_cmp, shard_of_key}
use Rattle.td_machine.specs.State.Content.{messages, notification}
use Rattle.td_machine.specs.Active.{has_passed}
use Rattle.td_machine.specs.Steps.{IsContent, coming}
use Rattle.td_machine.specs.NoneLeft.{NoneToTake, FirstUnpassed}
use Rattle.td_machine.proofs.Bags.{from_join}
use Rattle.td_machine.proofs.Lists.{filter_yes, filter_no, all_weaken, all_filter}

pub none_to_take : NoneToTake
none_to_take S s none unasked task may = by task.content may.content
  where
    some : (port : ℕ) (recs : List Rec) → IsContent S s task.vertex task.time (messages port recs) → ⊥
    some port [] c = let l = c.0 in omega (arith, l)
    some port (r ∷ recs) c =
        (from_join message_cmp (λ (c : Message). shard_of_key S.workers c.rec.key ≡ s → ⊥) (coming task.vertex port task.time (r ∷ recs)) c.3.0
        (subst (AllByRecursion (λ (c : Message). shard_of_key S.workers c.rec.key ≡ s → ⊥)) c.3.1 none)).0.0 c.2.0

    by : (content : Content) → IsContent S s task.vertex task.time content → ⊥
    by (messages port recs) c = some port recs c
    by (notification items) c = unasked task.vertex task.time c.0 c.1

-- numbers from one on are not below it
from_above : (k n : ℕ) → AllByRecursion (λ (m : ℕ). k ≤ m) (numbers_from k n)
from_above k zero = tt
from_above k (suc n) = (omega arith, all_weaken (λ (m : ℕ). suc k ≤ m) (λ m. k ≤ m) (λ m l. omega (arith, l)) (numbers_from (suc k) n) (from_above (suc k) n))

heads : (k m : ℕ) (xs : List ℕ) → xs ≡ numbers_from k m → AllByRecursion (λ (x : ℕ). suc k ≤ x) xs → m ≡ 0
heads k zero xs e h = refl
heads k (suc m) xs e h = let l = (subst (AllByRecursion (λ (x : ℕ). suc k ≤ x)) e h).0 in absurd (omega (arith, l))

-- where the numbers that pass are the first ones
first_other : (p : ℕ → Bool) (k n many : ℕ) → filter p (numbers_from k n) ≡ numbers_from k many
    → find (λ e. not (p e)) (numbers_from k n) ≡ elim (nat_lt (k + many) (k + n)) [ true ↦ Some (k + many) | false ↦ None ]
first_other p k zero zero h = ap (λ b. elim b [ true ↦ Some (k + 0) | false ↦ None ]) (sym (le-ltb (k + 0) (k + 0) (omega arith)))
first_other p k zero (suc many) h = absurd (let no : [] ≡ k ∷ numbers_from (suc k) many = h in cc)
first_other p k (suc n) many h = by (p k) refl many h (first_other p (suc k) n)
  where
    found : (b : Bool) → p k ≡ b → find (λ e. not (p e)) (numbers_from k (suc n)) ≡ cond (not b) (Some k) (find (λ e. not (p e)) (numbers_from (suc k) n))
    found b e = ap (λ b. cond (not b) (Some k) (find (λ e. not (p e)) (numbers_from (suc k) n))) e

    by : (b : Bool) → p k ≡ b → (many : ℕ) → filter p (numbers_from k (suc n)) ≡ numbers_from k many
        → ((many : ℕ) → filter p (numbers_from (suc k) n) ≡ numbers_from (suc k) many
        → find (λ e. not (p e)) (numbers_from (suc k) n) ≡ elim (nat_lt (suc k + many) (suc k + n)) [ true ↦ Some (suc k + many) | false ↦ None ])
        → find (λ e. not (p e)) (numbers_from k (suc n)) ≡ elim (nat_lt (k + many) (k + suc n)) [ true ↦ Some (k + many) | false ↦ None ]
    by true e zero h rest = absurd (let no : k ∷ filter p (numbers_from (suc k) n) ≡ [] = sym (filter_yes p k (numbers_from (suc k) n) e) ∙ h in cc)
    by true e (suc many) h rest =
        let tails : filter p (numbers_from (suc k) n) ≡ numbers_from (suc k) many = let both : k ∷ filter p (numbers_from (suc k) n) ≡ k ∷ numbers_from (suc k) many = sym
        (filter_yes p k (numbers_from (suc k) n) e) ∙ h in cc in
        let a : suc k + many ≡ k + suc many = omega arith in
        let b : suc k + n ≡ k + suc n = omega arith in
        found true e ∙ rest many tails ∙ (λ i. elim (nat_lt (a i) (b i)) [ true ↦ Some (a i) | false ↦ None ])
    by false e many h rest =
        let others : AllByRecursion (λ (x : ℕ). suc k ≤ x) (filter p (numbers_from (suc k) n)) =
        all_weaken (λ (x : ℕ). (suc k ≤ x) × (p x ≡ true)) (λ x. suc k ≤ x) (λ x l. l.0) (filter p (numbers_from (suc k) n))
        (all_filter (λ (x : ℕ). suc k ≤ x) p (numbers_from (suc k) n) (from_above (suc k) n)) in
        let none : many ≡ 0 = heads k many (filter p (numbers_from (suc k) n)) (sym (filter_no p k (numbers_from (suc k) n) e) ∙ h) others in
        let here : k ≡ k + many = omega (arith, none) in
        let below_end : nat_lt (k + many) (k + suc n) ≡ true = lt-ltb (k + many) (k + suc n) (omega (arith, none)) in
        found false e ∙ ap Some here ∙ ap (λ b. elim b [ true ↦ Some (k + many) | false ↦ None ]) (sym below_end)

pub first_unpassed : FirstUnpassed
first_unpassed S many h =
    first_other (has_passed S) (S.base + 1) (S.next - (S.base + 1)) many h
    ∙ ap (λ b. elim b [ true ↦ Some (S.base + 1 + many) | false ↦ None ]) (same_end (nat_lt S.base S.next) refl)
  where
    same_end : (b : Bool) → nat_lt S.base S.next ≡ b → nat_lt (S.base + 1 + many) (S.base + 1 + (S.next - (S.base + 1))) ≡ nat_lt (S.base + 1 + many) S.next
    same_end true e = let l = ltb-true S.base S.next e in let same : S.base + 1 + (S.next - (S.base + 1)) ≡ S.next = omega (arith, l) in ap (nat_lt (S.base + 1 + many)) same
    same_end false e =
        let l = ltb-false S.base S.next e in
        le-ltb (S.base + 1 + many) (S.base + 1 + (S.next - (S.base + 1))) (omega (arith, l)) ∙ sym (le-ltb (S.base + 1 + many) S.next (omega (arith, l)))
