use Rattle.std.proofs.Common.{◌≡◌, drop, FitsSigned, w64, to_z, of_z, rules, ap, sym, ◌∙◌}
use Rattle.std.specs.Int.{cast_signed}
use Rattle.std.proofs.lemmas.Int.{to_z-of_z}
use Rattle.td_gate.specs.Fields.{signed_at}
use Rattle.td_gate.specs.Reading.{number_dropped}
use Rattle.td_slots.proofs.payload.state_at.Goals as goal

pub returns : goal.returns
returns c =
    let at = c.args.at in
    let payload = c.args.payload.now in
    let fits_a : FitsSigned w64 c.i64_at.result = search rules in
    let fits_b : FitsSigned w64 c.i64_at-2.result = search rules in
    let a : to_z w64 (of_z w64 c.i64_at.result) ≡ signed_at 16 (drop at payload) =
    to_z-of_z w64 c.i64_at.result fits_a ∙ c.i64_at.ensures ∙ ap (cast_signed w64) (sym (number_dropped 8 at 16 payload)) in
    let b : to_z w64 (of_z w64 c.i64_at-2.result) ≡ signed_at 24 (drop at payload) =
    to_z-of_z w64 c.i64_at-2.result fits_b ∙ c.i64_at-2.ensures ∙ ap (cast_signed w64) (sym (number_dropped 8 at 24 payload)) in
    λ i. record { a = a i; b = b i }
