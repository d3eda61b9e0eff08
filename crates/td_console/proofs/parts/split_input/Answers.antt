use Rattle.std.proofs.Common.{◌∙◌, sym, arith, rules}
use Rattle.td_console.proofs.Separated.{boundary, plan_found, left_more}
use Rattle.td_console.proofs.parts.split_input.Goals as goal

pub split_at-requires : goal.split_at-requires
split_at-requires c = boundary c.args.input.now c.loop-line.rest.now c.in-Some.line.now c.in-Some.others.now c.loop-line.number c.in-Some.ensures.lines c.loop-line.invariant.left c.loop-line.invariant.text

pub returns-then-is_separator-clause-plan : goal.returns-then-is_separator-clause-plan
returns-then-is_separator-clause-plan c =
    c.split_at.ensures.front
    ∙ plan_found c.args.input.now c.loop-line.rest.now c.in-Some.line.now c.in-Some.others.now c.loop-line.number c.in-Some.ensures.lines (sym c.is_separator.ensures ∙ c.if-is_separator.true) c.loop-line.invariant.left

pub loop-line-preserved : goal.loop-line-preserved
loop-line-preserved c =
    let shorter = c.in-Some.ensures.shorter in
    let bytes = c.loop-line.invariant.bytes in
    record {
      text = search rules;
      left = left_more c.args.input.now c.loop-line.rest.now c.in-Some.line.now c.in-Some.others.now c.loop-line.number c.in-Some.ensures.lines (sym c.is_separator.ensures ∙ c.if-is_separator.false) c.in-Some.ensures.bytes c.loop-line.invariant.left;
      bytes = omega arith;
    }
