use Rattle.std.proofs.Common.{ℕ, ◌+◌, ◌<◌, length, ap, sym, ◌∙◌, FitsSigned, w64, arith, rules}
use Rattle.std.proofs.lemmas.Int.{to_z-of_z}
use Rattle.std.proofs.lemmas.List.{length_push}
use Rattle.td_c.specs.Rows.{state_row}
use Rattle.td_c.proofs.Written.{place_more}
use Rattle.td_c.proofs.output.put_states.Goals as goal

pub loop-place-preserved : goal.loop-place-preserved
loop-place-preserved c =
    let inv = c.loop-place.invariant in
    let place = c.in-Some.place in
    let state = c.in-Some.state in
    let fits_a : FitsSigned w64 state.a = search rules in
    let fits_b : FitsSigned w64 state.b = search rules in
    let long = ap length c.in-Some.ensures.steps in
    let below : c.loop-place.at < length c.args.states.now = omega (arith, inv.count, inv.rest, long) in
    let low : c.loop-place.at < length c.loop-place.rows = search rules in
    let more = place_more state_row c.loop-place.rows c.args.rows.now c.loop-place.at (length c.args.states.now) c.loop-place.yielded (place, state) _ below low inv.written inv.others
    (λ i. record { vertex = c.from.ensures i; key = place.1; a = to_z-of_z w64 state.a fits_a i; b = to_z-of_z w64 state.b fits_b i }) in
    record {
      count = ap (λ (n : ℕ). n + 1) inv.count ∙ sym (length_push c.loop-place.yielded (place, state));
      rest = omega (arith, inv.rest, long, length_push c.loop-place.yielded (place, state));
      written = more.0;
      others = more.1;
    }
