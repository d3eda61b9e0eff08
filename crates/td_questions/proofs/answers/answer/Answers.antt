use Rattle.std.proofs.Common.{◌≡◌, ℕ, Result, Ok, Err, IfOk, Vec, Global, sym, ap, ◌∙◌}
use Rattle.td_stamp.specs.declared.values.State.{State}
use Rattle.td_stamp.specs.States.{StateList}
use Rattle.td_stamp.specs.declared.error.StampError.{StampError}
use Rattle.td_questions.specs.Asked.{answer_to, at_most, at_percentile, kept_from}
use Rattle.td_questions.proofs.answers.answer.Goals as goal

carried : (xs ys : StateList) → xs ≡ ys → (r : Result (Vec ((ℕ × ℕ) × State) Global) StampError) → IfOk r (λ v. v.items ≡ xs) → IfOk r (λ v. v.items ≡ ys)
carried xs ys is (Ok v) h = h ∙ is
carried xs ys is (Err why) h = tt

pub returns-in_ok-states-in-Range : goal.returns-in_ok-states-in-Range
returns-in_ok-states-in-Range c =
    carried _ _ ((λ i. at_most c.in-Range.count (kept_from c.args.vertex c.in-Range.from (c.in_ok-states-in-Range.ensures i))) ∙ sym (ap (λ w. answer_to c.args.vertex w c.args.states.now) c.in-Range.is))
    c.entries_from.result c.entries_from.ensures

pub returns-in-Top : goal.returns-in-Top
returns-in-Top c = carried _ _ (sym (ap (λ w. answer_to c.args.vertex w c.args.states.now) c.in-Top.is)) c.first_entries.result c.first_entries.ensures

pub returns-in-Least : goal.returns-in-Least
returns-in-Least c = carried _ _ (sym (ap (λ w. answer_to c.args.vertex w c.args.states.now) c.in-Least.is)) c.first_entries-in-Least.result c.first_entries-in-Least.ensures

pub returns-in_ok-all-in-Rank : goal.returns-in_ok-all-in-Rank
returns-in_ok-all-in-Rank c =
    carried _ _ (ap (at_percentile c.in-Rank.percent) (c.as_slice.ensures.value ∙ c.in_ok-all-in-Rank.ensures) ∙ sym (ap (λ w. answer_to c.args.vertex w c.args.states.now) c.in-Rank.is))
    c.at_percentile.result c.at_percentile.ensures
