use Rattle.std.specs.Prelude.{◌≡◌, ◌-◌, ℕ, List, length, Bool, false, if◌then◌else◌, Option, Result, Err}
use Rattle.std.proofs.Common.{sym, ap, ◌∙◌}
use Rattle.std.specs.String.{string_bytes}
use Rattle.td_plan.specs.Text.{words}
use Rattle.td_formula.specs.declared.closure.ClosureKind.{ClosureKind}
use Rattle.td_closures.specs.declared.token.Token.{Token}
use Rattle.td_closures.specs.declared.words.Scope.{Scope}
use Rattle.td_closures.specs.declared.fault.Wrong.{Wrong}
use Rattle.td_closures.specs.declared.fault.Wrong.TheVariants as wrongs
use Rattle.td_closures.specs.Words.{spaced, scope_of, tokens_of, registers_after}
use Rattle.td_closures.specs.Drafts.{Draft, tokens_in, registers_in, is_long, after_words, kind_of}
use Rattle.td_closures.specs.Texts.{with_tokens, with_text}
use Rattle.td_closures.specs.Kept.{draft_by}
use Rattle.td_closures.proofs.Answered.{answers_along}
use Rattle.td_closures.proofs.draft.Draft.with_text.Goals as goal

read : (d : Draft) (line text : List ℕ) (kind : Option ClosureKind) (scope : Scope) (ts : List Token) (registers : List (List ℕ)) (bytes : ℕ)
    → is_long d line ≡ false → text ≡ spaced line → kind ≡ kind_of d → scope ≡ scope_of kind (words text)
    → ts ≡ tokens_of scope d.registers (words text) → registers ≡ registers_after scope d.registers (words text) → bytes ≡ d.bytes - length line - 1
    → with_text d line ≡ with_tokens (record d { registers = registers; bytes = bytes }) ts
unfolding tokens_in registers_in
read d line text kind scope ts registers bytes short t k s tokens regs b =
    let scope_is : scope ≡ scope_of (kind_of d) (words (spaced line)) = s ∙ (λ i. scope_of (k i) (words (t i))) in
    let tokens_are : ts ≡ tokens_in d line = tokens ∙ (λ i. tokens_of (scope_is i) d.registers (words (t i))) in
    let registers_are : registers ≡ registers_in d line = regs ∙ (λ i. registers_after (scope_is i) d.registers (words (t i))) in
    let back : with_tokens (record d { registers = registers; bytes = bytes }) ts ≡ with_tokens (after_words d line) (tokens_in d line) = (λ i. with_tokens (record d { registers = registers_are i; bytes = b i }) (tokens_are i)) in
    ap (λ (x : Bool). (let r : Result Draft Wrong = if x then Err wrongs.TooMany else with_tokens (after_words d line) (tokens_in d line) in r)) short ∙ sym back

pub returns : goal.returns
returns c =
    let text : List ℕ = string_bytes c.in_ok-text.text in
    let text_is : text ≡ spaced c.args.line.now = c.in_ok-text.ensures.ok ∙ ap spaced c.as_bytes.ensures.value in
    let bytes_are : c.saturating_sub.result ≡ c.args.self.bytes - length c.args.line.now - 1 = c.saturating_sub.ensures in
    answers_along draft_by c.with_tokens.result (with_text (draft_by c.args.self) c.args.line.now) _
    (read (draft_by c.args.self) c.args.line.now text c.kind.result c.line_scope-scope.result c.as_slice.result.now c.in_ok-tokens.registers c.saturating_sub.result
    (sym c.is_long.ensures ∙ c.if-is_long.false) text_is c.kind.ensures
    (c.line_scope-scope.ensures ∙ ap (λ (x : List ℕ). scope_of c.kind.result (words x)) c.as_str.ensures.value)
    (c.as_slice.ensures.value ∙ c.in_ok-tokens.ensures.tokens ∙ ap (λ (x : List ℕ). tokens_of c.line_scope-scope.result c.args.self.registers (words x)) c.as_str-2.ensures.value)
    (c.in_ok-tokens.ensures.registers ∙ ap (λ (x : List ℕ). registers_after c.line_scope-scope.result c.args.self.registers (words x)) c.as_str-2.ensures.value)
    bytes_are)
    c.with_tokens.ensures
