use Rattle.std.proofs.Common.{◌+◌, take, drop, arith}
use Rattle.std.proofs.lemmas.Grind.{common_steps}
use Rattle.td_orders.proofs.line_reader.Unread.line_end.Goals as goal

pub returns-clause-some : goal.returns-clause-some
returns-clause-some c =
    let xs = c.args.self.now in
    let n = c.in_ok-end.end in
    let is = c.in_ok-end.ensures in
    record {
      line = take n xs;
      left = drop (n + 1) xs;
      lacks = grind (arith, common_steps);
      cut = grind (arith, common_steps);
      size = grind (arith, common_steps);
    }
