use Rattle.std.proofs.Common.{◌≡◌, ◌≤◌, length, sym, ◌∙◌, subst, rules}
use Rattle.std.specs.Prelude.{IfSome}
use Rattle.td_questions.specs.Asked.{kept_from}
use Rattle.td_questions.proofs.Firsts.{full}
use Rattle.td_questions.proofs.answers.entries_from.Goals as goal

pub returns-then-is_full : goal.returns-then-is_full
returns-then-is_full c =
    let listed = c.loop-place.entries.items in
    let size : c.len.result ≡ length listed = search rules in
    sym (full c.args.count listed (kept_from c.args.vertex c.args.from c.loop-place.place-iterator) c.loop-place.invariant.few
    (subst (λ n. IfSome c.args.count (λ m. m ≤ n)) size c.if-is_full.ensures.full) c.if-is_full.ensures.some)
    ∙ c.loop-place.invariant.so_far
