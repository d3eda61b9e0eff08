-- What an input asks: by its text, where it is ASCII.
use Rattle.std.proofs.Common.{◌≡◌, ◌⊎◌, inl, inr, ℕ, List, None, Result, Ok, Err, IfOk, IfErr, subst, sym}
use Rattle.td_console.specs.declared.faults.Fault.{Fault}
use Rattle.td_console.specs.declared.faults.Fault.TheVariants.{Memory}
use Rattle.td_console.specs.Parts.{wide_fault}
use Rattle.td_calls.specs.Stored.{Stored}
use Rattle.td_console.specs.Answer.{IsAsciiAnswer, IsAnswerAt, IsAnswer}

module _ (stored : Stored) (input text : List ℕ) (same : text ≡ input) (none : wide_fault input ≡ None) where
  of_text : (answer : Result (List ℕ) Fault) → IsAsciiAnswer stored text answer → IsAnswer stored input answer
  of_text answer h = subst (λ o. IsAnswerAt stored input o answer) (sym none) (subst (λ t. IsAsciiAnswer stored t answer) same h)

  pub refusal_of_text : {V : Type 0} (r : Result V Fault) → IfErr r (λ f. (f ≡ Memory) ⊎ IsAsciiAnswer stored text (Err f)) → IfErr r (λ f. (f ≡ Memory) ⊎ IsAnswer stored input (Err f))
  refusal_of_text (Ok v) h = tt
  refusal_of_text (Err f) (inl e) = inl e
  refusal_of_text (Err f) (inr h) = inr (of_text (Err f) h)

  pub answer_of_text : {V : Type 0} (text_of : V → List ℕ) (r : Result V Fault) → IfOk r (λ v. IsAsciiAnswer stored text (Ok (text_of v))) → IfOk r (λ v. IsAnswer stored input (Ok (text_of v)))
  answer_of_text text_of (Ok v) h = of_text (Ok (text_of v)) h
  answer_of_text text_of (Err f) h = tt
