-- Whether a text is canonical.
use Rattle.std.proofs.Common.{◌≡◌, ◌⊎◌, ⊎_elim, ℕ, Bool, false, List, sym, ap, ◌∙◌, subst}
use Rattle.std.specs.Prelude.{bytes_eq, Decides}
use Rattle.std.specs.Str.{IsUtf8}
use Rattle.std.proofs.lemmas.Slice.Eq.{bytes_eq-Decides}
use Rattle.td_plan.specs.declared.error.PlanError.{PlanError}
use Rattle.td_plan.specs.Lines.{Line, text_of}
use Rattle.td_plan.specs.Texts.{PlanText, PlanFault}
use Rattle.td_head.specs.Head.{IsCanonical}
use Rattle.td_head.proofs.Ascii.{utf8_text}

pub not_utf8 : (text : List ℕ) → (IsUtf8 text → ⊥) → Decides false (IsCanonical text)
not_utf8 text not = (λ e. absurd cc, λ c. absurd (not (subst IsUtf8 (sym c.2) (utf8_text c.0 c.1.lawful.formed))))

pub not_spelled : (text : List ℕ) (e : PlanError) → ((t : List ℕ) (p : List Line) (e : PlanError) → PlanText t p → PlanFault t e → ⊥) → PlanFault text e → Decides false (IsCanonical text)
not_spelled text e not_both fault = (λ h. absurd cc, λ c. absurd (not_both text c.0 e c.1 fault))

pub spelled : (text : List ℕ) (p : List Line) → ((t : List ℕ) (p q : List Line) → PlanText t p → PlanText t q → p ≡ q) → PlanText text p → Decides (bytes_eq (text_of p) text) (IsCanonical text)
spelled text p one_plan is =
    let test = bytes_eq-Decides (text_of p) text in
    (λ h. (p, is, sym (test.0 h)), λ c. test.1 (ap text_of (one_plan text p c.0 is c.1) ∙ sym c.2))

pub decided : (text : List ℕ) → ((t : List ℕ) → ((p : List Line) × PlanText t p) ⊎ ((e : PlanError) × PlanFault t e)) → ((t : List ℕ) (p : List Line) (e : PlanError) → PlanText t p → PlanFault t e → ⊥)
    → ((t : List ℕ) (p q : List Line) → PlanText t p → PlanText t q → p ≡ q) → (b : Bool) × Decides b (IsCanonical text)
decided text either not_both one_plan = ⊎_elim
    (λ p. (bytes_eq (text_of p.0) text, spelled text p.0 one_plan p.1))
    (λ f. (false, not_spelled text f.0 not_both f.1)) (either text)
