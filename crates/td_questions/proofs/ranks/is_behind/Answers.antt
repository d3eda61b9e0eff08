use Rattle.std.proofs.Common.{◌≡◌, ◌≤◌, Bool, true, false, length, sym, ap, ◌∙◌, subst, arith}
use Rattle.std.specs.Bool.{OnTrue}
use Rattle.std.specs.Ordering.{is_lt, is_le}
use Rattle.std.proofs.lemmas.List.Elements.{recursion_from_All}
use Rattle.td_stamp.specs.Bag.{set_insert}
use Rattle.td_questions.specs.declared.ranks.Ranked.{Ranked}
use Rattle.td_questions.specs.Asked.{at_most}
use Rattle.td_questions.specs.Ranks.{ranked_cmp}
use Rattle.td_questions.specs.Weighed.{IsFew}
use Rattle.td_questions.proofs.Firsts.{behind}
use Rattle.td_questions.proofs.Weights.{ranked_total, ranked_apart}
use Rattle.td_questions.proofs.ranks.is_behind.Goals as goal

on_true : (b : Bool) (P : Type 0) → (b ≡ true → P) → OnTrue b P
on_true true P h = h cc
on_true false P h = tt

pub returns-then-most-len : goal.returns-then-most-len
returns-then-most-len c = on_true c.is_le.result _ (λ h.
    let set = c.args.first.now.keys in
    let one = c.args.one.now in
    let last = c.in-Some-Some.last.now in
    let most = c.in-Some-Some.most in
    let few : length set ≤ most = subst (λ o. IsFew o set) c.in-Some-Some.is-0 c.requires.few in
    let many : most ≡ length set = omega (arith, few, c.len.ensures.len, c.if-most-len.true) in
    ap (λ o. at_most o (set_insert ranked_cmp one set)) c.in-Some-Some.is-0
    ∙ behind ranked_cmp ranked_total ranked_apart most one last set many
    (sym (c.is_le.ensures ∙ ap is_le c.cmp.ensures) ∙ h)
    (recursion_from_All (λ (q : Ranked). is_lt (ranked_cmp last q) ≡ false) set c.in-Some-Some.ensures.all_up_to))
