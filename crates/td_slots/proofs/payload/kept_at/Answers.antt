use Rattle.std.proofs.Common.{◌≡◌, ℕ, ◌+◌, ◌==◌, true, false, List, drop, ap, sym, ◌∙◌, subst, arith}
use Rattle.std.specs.List.{list_any}
use Rattle.td_gate.specs.Fields.{number_at}
use Rattle.td_gate.specs.Reading.{number_dropped}
use Rattle.td_slots.proofs.payload.kept_at.Goals as goal

-- the number at a place, as that of what stands there
at_start : (at : ℕ) (payload : List ℕ) → number_at 8 at payload ≡ number_at 8 0 (drop at payload)
at_start at payload = let place : at ≡ at + 0 = omega arith in ap (λ (i : ℕ). number_at 8 i payload) place ∙ sym (number_dropped 8 at 0 payload)

pub returns-in-Some-clause-some : goal.returns-in-Some-clause-some
returns-in-Some-clause-some c =
    let at = c.args.at in
    let payload = c.args.payload.now in
    let fold = c.in-Some.ensures.some ∙ c.u64_at.ensures ∙ at_start at payload in
    let key = c.u64_at-in-Some.ensures ∙ sym (number_dropped 8 at 8 payload) in
    λ i. (fold i, key i)

pub returns-in-Some-clause-named : goal.returns-in-Some-clause-named
returns-in-Some-clause-named c =
    subst (λ (n : ℕ). list_any (λ v. v == n) c.args.folds.now ≡ true) (c.u64_at.ensures ∙ at_start c.args.at c.args.payload.now) c.in-Some.ensures.named

pub returns-in-None-clause-none : goal.returns-in-None-clause-none
returns-in-None-clause-none c =
    subst (λ (n : ℕ). list_any (λ v. v == n) c.args.folds.now ≡ false) (c.u64_at.ensures ∙ at_start c.args.at c.args.payload.now) c.in-None.ensures.none
