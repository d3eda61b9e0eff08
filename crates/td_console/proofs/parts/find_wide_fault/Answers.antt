use Rattle.std.proofs.Common.{◌+◌, ◌&&◌, ap, sym, ◌∙◌, arith, Some, true, false, ◌≡◌, ◌∷◌}
use Rattle.std.specs.List.{list_all}
use Rattle.std.specs.Char.{is_ascii}
use Rattle.td_plan.specs.Text.{text_lines}
use Rattle.td_console.specs.Parts.{is_separator}
use Rattle.td_console.proofs.Wide.{wide_from, wide_found, wide_next, ascii_lines}
use Rattle.td_console.proofs.parts.find_wide_fault.Goals as goal

pub returns-in_default-ascii_text-clause-first : goal.returns-in_default-ascii_text-clause-first
returns-in_default-ascii_text-clause-first c =
    c.loop-line.invariant.answer ∙ ap (wide_from c.loop-line.in_data (c.loop-line.number + 1)) c.in-Some.ensures.lines
    ∙ wide_found c.loop-line.in_data (c.loop-line.number + 1) c.in-Some.line.now (text_lines c.in-Some.others.now) (sym c.in_default-ascii_text.ensures.ascii)
    ∙ ap Some (sym c.wide_fault_at.ensures.fault)

pub unreachable-requires : goal.unreachable-requires
unreachable-requires c =
    let ascii : list_all is_ascii c.args.input.now ≡ true = ascii_lines c.args.input.now (c.loop-line.invariant.ascii ∙ ap (list_all (list_all is_ascii)) c.in_default.ensures.lines) in
    let wide = c.requires.wide in
    cc

pub loop-line-preserved : goal.loop-line-preserved
loop-line-preserved c =
    let ascii = sym c.in-Some-ascii_text.ensures.ascii in
    let shorter = c.in-Some.ensures.shorter in
    let bytes = c.loop-line.invariant.bytes in
    record {
      answer =
          c.loop-line.invariant.answer ∙ ap (wide_from c.loop-line.in_data (c.loop-line.number + 1)) c.in-Some.ensures.lines
          ∙ ap (λ b. wide_from b (c.loop-line.number + 1) (c.in-Some.line.now ∷ text_lines c.in-Some.others.now)) c.if-in_data.false
          ∙ wide_next false (c.loop-line.number + 1) c.in-Some.line.now (text_lines c.in-Some.others.now) ascii
          ∙ ap (λ b. wide_from b (c.loop-line.number + 1 + 1) (text_lines c.in-Some.others.now)) (sym (c.is_separator-in_data.ensures ∙ ap is_separator c.in-Some-ascii_text.ensures.some));
      ascii = c.loop-line.invariant.ascii ∙ ap (list_all (list_all is_ascii)) c.in-Some.ensures.lines ∙ ap (λ b. b && list_all (list_all is_ascii) (text_lines c.in-Some.others.now)) ascii;
      bytes = omega arith;
    }
