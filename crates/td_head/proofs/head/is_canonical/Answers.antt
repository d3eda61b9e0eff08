use Rattle.std.proofs.Common.{◌≡◌, ⊎_elim, ℕ, Bool, List, sym, ap, ◌∙◌, subst}
use Rattle.std.specs.Prelude.{Decides, bytes_eq}
use Rattle.td_head.specs.Head.{IsCanonical}
use Rattle.td_plan.specs.Lines.{text_of}
use Rattle.td_plan.specs.Texts.{PlanText, PlanFault}
use Rattle.td_head.proofs.Canonical.{not_utf8, not_spelled, spelled}
use Rattle.td_head.proofs.head.is_canonical.Goals as goal

pub returns-in_default-clause-ok : goal.returns-in_default-clause-ok
returns-in_default-clause-ok c = not_utf8 c.args.text.now c.in_default.ensures.cases.0

pub returns-in-Ok-text-clause-ok : goal.returns-in-Ok-text-clause-ok
returns-in-Ok-text-clause-ok c =
    let text = c.args.text.now in
    let plan = c.in-Ok-read.plan in
    let own = c.as_bytes.ensures.value ∙ c.in-Ok-text.ensures.ok in
    let eq : c.eq.result ≡ bytes_eq (text_of plan) text = c.eq.ensures ∙ ap (λ (l : List ℕ). bytes_eq l text) own in
    subst (λ (b : Bool). Decides b (IsCanonical text)) (sym eq)
    (spelled text plan c.one_answer.ensures.one_plan (subst (λ (t : List ℕ). PlanText t plan) c.in-Ok.ensures.cases.0 c.in-Ok-read.ensures.ok))

pub returns-in_default-refusal-clause-ok : goal.returns-in_default-refusal-clause-ok
returns-in_default-refusal-clause-ok c =
    let text = c.args.text.now in
    ⊎_elim (λ memory. absurd (c.in_default-refusal.not-Memory memory))
    (λ fault. not_spelled text c.in-Err.refusal c.one_answer.ensures.not_both (subst (λ (t : List ℕ). PlanFault t c.in-Err.refusal) c.in-Ok.ensures.cases.0 fault)) c.in-Err.ensures.refused
