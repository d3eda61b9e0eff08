use Rattle.std.proofs.Common.{◌∷◌, sym, ap, ◌∙◌, subst, arith, length}
use Rattle.td_plan.specs.Text.{text_lines}
use Rattle.td_console.specs.Plain.{IsPlain}
use Rattle.td_console.proofs.PlainLines.{seam, after_line, shorter}
use Rattle.td_console.proofs.epochs.first_data_line.Goals as goal

pub split_at-requires : goal.split_at-requires
split_at-requires c =
    let plain = subst (λ t. IsPlain t c.in-Some.input c.in-Some.rec c.in-Some.others.now) c.as_bytes.ensures.value c.in-Some.ensures in
    seam c.args.text.now plain.line c.in-Some.others.now plain.cut c.utf8.text

pub returns-in-Some : goal.returns-in-Some
returns-in-Some c =
    let plain = subst (λ t. IsPlain t c.in-Some.input c.in-Some.rec c.in-Some.others.now) c.as_bytes.ensures.value c.in-Some.ensures in
    let rest = c.split_at.ensures.back ∙ after_line c.args.text.now plain.line c.in-Some.others.now plain.cut in
    record {
      line = plain.line;
      lines = plain.lines ∙ ap (λ r. plain.line ∷ text_lines r) (sym rest);
      says = sym plain.says;
      shorter = omega (arith, ap length rest, shorter c.args.text.now plain.line c.in-Some.others.now plain.cut);
    }
