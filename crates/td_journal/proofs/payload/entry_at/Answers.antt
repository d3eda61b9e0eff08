use Rattle.std.proofs.Common.{◌≡◌, ℕ, ◌+◌, ◌==◌, false, refl, drop, FitsSigned, w64, to_z, of_z, rules, ap, sym, ◌∙◌, subst, arith}
use Rattle.std.specs.Prelude.{Option, Some, None, IfNone}
use Rattle.std.specs.List.{list_any}
use Rattle.std.specs.Int.{cast_signed}
use Rattle.std.proofs.lemmas.Int.{to_z-of_z}
use Rattle.td_gate.specs.Fields.{number_at, signed_at}
use Rattle.td_gate.specs.Reading.{number_dropped}
use Rattle.td_journal.proofs.payload.entry_at.Goals as goal

if_none : {X P : Type 0} (o : Option X) → ((x : X) → o ≡ Some x → ⊥) → IfNone o P → P
if_none None not p = p
if_none (Some x) not p = absurd (not x refl)

pub returns-in_default-clause-none : goal.returns-in_default-clause-none
returns-in_default-clause-none c =
    let at = c.args.at in
    let payload = c.args.payload.now in
    let place : at ≡ at + 0 = omega arith in
    let number : c.u64_at.result ≡ number_at 8 0 (drop at payload) = c.u64_at.ensures ∙ ap (λ (i : ℕ). number_at 8 i payload) place ∙ sym (number_dropped 8 at 0 payload) in
    subst (λ (n : ℕ). list_any (λ v. v == n) c.args.inputs.now ≡ false) number (if_none c.named.result c.in_default.not-Some c.named.ensures.none)

pub returns-clause-some : goal.returns-clause-some
returns-clause-some c =
    let at = c.args.at in
    let payload = c.args.payload.now in
    let place : at ≡ at + 0 = omega arith in
    let number : c.in-Some.input ≡ number_at 8 0 (drop at payload) = c.in-Some.ensures.some ∙ c.u64_at.ensures ∙ ap (λ (i : ℕ). number_at 8 i payload) place ∙ sym (number_dropped 8 at 0 payload) in
    let key : c.u64_at-2.result ≡ number_at 8 8 (drop at payload) = c.u64_at-2.ensures ∙ sym (number_dropped 8 at 8 payload) in
    let fits : FitsSigned w64 c.i64_at.result = search rules in
    let val : to_z w64 (of_z w64 c.i64_at.result) ≡ signed_at 16 (drop at payload) = to_z-of_z w64 c.i64_at.result fits ∙ c.i64_at.ensures ∙ ap (cast_signed w64) (sym (number_dropped 8 at 16 payload)) in
    λ i. record { input = number i; rec = record { key = key i; val = val i } }
