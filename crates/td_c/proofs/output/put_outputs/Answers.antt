use Rattle.std.proofs.Common.{ℕ, ◌+◌, ◌<◌, length, ap, sym, ◌∙◌, FitsSigned, w64, arith, rules}
use Rattle.std.proofs.lemmas.Int.{to_z-of_z}
use Rattle.std.proofs.lemmas.List.{length_push}
use Rattle.td_c.specs.Rows.{output_row}
use Rattle.td_c.proofs.Written.{place_more}
use Rattle.td_c.proofs.output.put_outputs.Goals as goal

pub loop-output-preserved : goal.loop-output-preserved
loop-output-preserved c =
    let inv = c.loop-output.invariant in
    let output = c.in-Some.output in
    let fits : FitsSigned w64 output.rec.val = search rules in
    let long = ap length c.in-Some.ensures.steps in
    let below : c.loop-output.at < length c.args.outputs.now = omega (arith, inv.count, inv.rest, long) in
    let low : c.loop-output.at < length c.loop-output.rows = search rules in
    let more = place_more output_row c.loop-output.rows c.args.rows.now c.loop-output.at (length c.args.outputs.now) c.loop-output.yielded output _ below low inv.written inv.others
    (λ i. record { vertex = c.from.ensures i; key = output.rec.key; val = to_z-of_z w64 output.rec.val fits i }) in
    record {
      count = ap (λ (n : ℕ). n + 1) inv.count ∙ sym (length_push c.loop-output.yielded output);
      rest = omega (arith, inv.rest, long, length_push c.loop-output.yielded output);
      written = more.0;
      others = more.1;
    }
