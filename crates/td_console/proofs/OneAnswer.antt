-- An input has one answer, where a text has one plan or one refusal.
use Rattle.std.proofs.Common.{◌≡◌, ◌⊎◌, inl, inr, ℕ, List, Option, Some, None, Result, Err, refl, sym, ap, ◌∙◌}
use Rattle.td_plan.specs.declared.error.PlanError.{PlanError}
use Rattle.td_plan.specs.Lines.{Line as PlanLine}
use Rattle.td_plan.specs.Texts.{PlanText, PlanFault}
use Rattle.td_console.specs.declared.faults.Fault.{Fault}
use Rattle.td_console.specs.declared.faults.Fault.TheVariants.{Plan}
use Rattle.td_console.specs.Parts.{plan_text, data_lines, first_data_line, wide_fault}
use Rattle.td_calls.specs.Stored.{Stored}
use Rattle.td_console.specs.Answer.{plan_answer, IsAsciiAnswer, IsAnswerAt, IsAnswer}

-- the laws of plan texts
pub record PlanLaws : Type 0 where
  pub either : (text : List ℕ) → ((p : List PlanLine) × PlanText text p) ⊎ ((e : PlanError) × PlanFault text e)
  pub not_both : (text : List ℕ) (p : List PlanLine) (e : PlanError) → PlanText text p → PlanFault text e → ⊥
  pub one_plan : (text : List ℕ) (p q : List PlanLine) → PlanText text p → PlanText text q → p ≡ q
  pub one_refusal : (text : List ℕ) (d e : PlanError) → PlanFault text d → PlanFault text e → d ≡ e

module _ (laws : PlanLaws) (stored : Stored) (input : List ℕ) where
  some_ascii : (answer : Result (List ℕ) Fault) × IsAsciiAnswer stored input answer
  some_ascii = by (laws.either (plan_text input))
    where
      by : ((p : List PlanLine) × PlanText (plan_text input) p) ⊎ ((e : PlanError) × PlanFault (plan_text input) e) → (answer : Result (List ℕ) Fault) × IsAsciiAnswer stored input answer
      by (inl h) = (plan_answer stored h.0 (first_data_line input) (data_lines input), inl (h.0, h.1, refl))
      by (inr h) = (Err (Plan h.0), inr (h.0, h.1, refl))

  same_ascii : (a b : Result (List ℕ) Fault) → IsAsciiAnswer stored input a → IsAsciiAnswer stored input b → a ≡ b
  same_ascii a b (inl h) (inl k) = h.2 ∙ ap (λ plan. plan_answer stored plan (first_data_line input) (data_lines input)) (laws.one_plan (plan_text input) h.0 k.0 h.1 k.1) ∙ sym k.2
  same_ascii a b (inl h) (inr k) = absurd (laws.not_both (plan_text input) h.0 k.0 h.1 k.1)
  same_ascii a b (inr h) (inl k) = absurd (laws.not_both (plan_text input) k.0 h.0 k.1 h.1)
  same_ascii a b (inr h) (inr k) = h.2 ∙ ap (λ e. Err (Plan e)) (laws.one_refusal (plan_text input) h.0 k.0 h.1 k.1) ∙ sym k.2

  pub some_answer : (answer : Result (List ℕ) Fault) × IsAnswer stored input answer
  some_answer = by (wide_fault input)
    where
      by : (o : Option Fault) → (answer : Result (List ℕ) Fault) × IsAnswerAt stored input o answer
      by (Some fault) = (Err fault, refl)
      by None = some_ascii

  pub same_answer : (a b : Result (List ℕ) Fault) → IsAnswer stored input a → IsAnswer stored input b → a ≡ b
  same_answer a b = by (wide_fault input)
    where
      by : (o : Option Fault) → IsAnswerAt stored input o a → IsAnswerAt stored input o b → a ≡ b
      by (Some fault) h k = h ∙ sym k
      by None h k = same_ascii a b h k
