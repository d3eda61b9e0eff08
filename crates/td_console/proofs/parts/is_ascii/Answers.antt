use Rattle.std.proofs.Common.{◌&&◌, get_or, ap, sym, ◌∙◌, arith}
use Rattle.std.specs.Char.{is_ascii}
use Rattle.std.proofs.lemmas.List.Folds.{list_all_more}
use Rattle.td_console.proofs.Wide.{swept}
use Rattle.td_console.proofs.parts.is_ascii.Goals as goal

pub loop-byte-preserved : goal.loop-byte-preserved
loop-byte-preserved c =
    let byte = get_or c.args.bytes.now c.loop-byte.byte-index 0 in
    swept c.loop-byte.bits byte ∙ ap (λ b. b && is_ascii byte) c.loop-byte.invariant
    ∙ sym (list_all_more is_ascii c.args.bytes.now c.loop-byte.byte-index 0 (omega arith))
