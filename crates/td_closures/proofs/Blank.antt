-- A line of no words adds nothing, and takes its bytes alone.
use Rattle.std.specs.Prelude.{◌≡◌, ℕ, ◌-◌, ◌==◌, Bool, true, false, if◌then◌else◌, List, [], ◌∷◌, length, Result, Ok, Err}
use Rattle.std.proofs.Common.{refl, ap, sym, ◌∙◌, arith, subst}
use Rattle.std.proofs.lemmas.Bool.Decides.{nat_tests}
use Rattle.td_plan.specs.Text.{words}
use Rattle.td_closures.specs.declared.fault.Wrong.{Wrong}
use Rattle.td_closures.specs.declared.fault.Wrong.TheVariants as wrongs
use Rattle.td_closures.specs.Words.{spaced, is_blank, scope_of, tokens_of, registers_after}
use Rattle.td_closures.specs.Drafts.{Draft, tokens_in, registers_in, is_long, kind_of}
use Rattle.td_closures.specs.Texts.{with_tokens, with_text}

-- a space begins no word
pub space : (bs : List ℕ) → words (spaced (32 ∷ bs)) ≡ words (spaced bs)
space [] = refl
space (c ∷ cs) = refl

first : (b : ℕ) (bs : List ℕ) (t : Bool) → (b == 32) ≡ t → ◌≡◌ {A = Bool} (if t then is_blank bs else (b == 35)) true
    → (is_blank bs ≡ true → words (spaced bs) ≡ []) → words (spaced (b ∷ bs)) ≡ []
first b bs true e h ih =
    let same : b ≡ 32 = grind (arith, nat_tests) in
    subst (λ (x : ℕ). words (spaced (x ∷ bs)) ≡ []) (sym same) (space bs ∙ ih h)
first b bs false e h ih = rw h refl

words_none : (bs : List ℕ) → is_blank bs ≡ true → words (spaced bs) ≡ []
words_none [] h = refl
words_none (b ∷ bs) h = first b bs (b == 32) refl h (λ k. words_none bs k)

-- what its words add
of_words : (d : Draft) (line : List ℕ) (ws : List (List ℕ)) → ws ≡ [] → (r : Result Draft Wrong)
    → r ≡ with_tokens (record d { registers = registers_after (scope_of (kind_of d) ws) d.registers ws; bytes = d.bytes - length line - 1 }) (tokens_of (scope_of (kind_of d) ws) d.registers ws)
    → r ≡ Ok (record d { bytes = d.bytes - length line - 1 })
of_words d line ws none r e = e ∙ ap (λ (us : List (List ℕ)). with_tokens (record d { registers = registers_after (scope_of (kind_of d) us) d.registers us; bytes = d.bytes - length line - 1 }) (tokens_of (scope_of (kind_of d) us) d.registers us)) none

pub blank_text : (d : Draft) (line : List ℕ) → is_blank line ≡ true → is_long d line ≡ false → with_text d line ≡ Ok (record d { bytes = d.bytes - length line - 1 })
unfolding tokens_in registers_in
blank_text d line blank short = of_words d line (words (spaced line)) (words_none line blank) (with_text d line)
    (ap (λ (x : Bool). (let r : Result Draft Wrong = if x then Err wrongs.TooMany else with_tokens (record d { registers = registers_after (scope_of (kind_of d) (words (spaced line))) d.registers (words (spaced line)); bytes = d.bytes - length line - 1 }) (tokens_of (scope_of (kind_of d) (words (spaced line))) d.registers (words (spaced line))) in r)) short)
