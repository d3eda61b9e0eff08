use Rattle.std.proofs.Common.{◌≡◌, inl, inr, ℕ, ◌+◌, ◌-◌, ◌≤◌, List, length, take, drop, ◌∙◌, ap, arith, rules}
use Rattle.std.proofs.lemmas.List.{places, length-take-le}
use Rattle.td_live.proofs.Pieces.{more_read, front, rest, lawful, same, other_piece, other_front, OneMore, same_more, other_more}
use Rattle.td_live.proofs.take.read_over.Goals.{then-not-branch, else-not-branch}
use Rattle.td_live.proofs.take.read_over.Goals as goal

pub loop-at-preserved : goal.loop-at-preserved
loop-at-preserved g c =
    let disk = g.D.Disk in
    let inv = c.loop-at.invariant in
    let put = c.in_ok-read_piece.ensures in
    let at = c.loop-at.at in
    let n = c.min-len.result in
    let old = c.loop-at.bytes in
    let ys = c.read_piece.new.bytes in
    let first = c.args.bytes.now in
    let k = at + n - at in
    let is : k ≡ n = omega arith in
    let fits : at ≤ length old = inv.within in
    let ends : at + n ≤ length old = omega (arith, c.loop-at-test.true) in
    let long : length ys ≡ n = search (rules, places) in
    let piece : length (take k (drop at old)) ≡ n = search (rules, places) in
    let step : OneMore c.loop-at.is_same c.in_ok-read_piece.field-0 c.if-not-branch.is_same = elim c.if-not-branch.branch [
      | then-not-branch w ↦ inl (search rules, w.is_same-is)
      | else-not-branch w ↦ inr (search rules, w.is_same-is)
    ] in
    let now = front at n k old ys first fits long is in
    record {
      within = search (rules, places);
      size = search (rules, places);
      some = search (rules, places);
      read = c.reads_in_turn.ensures.read c.args.disk.now c.loop-at.disk c.read_piece.new.disk inv.read put.read;
      count = put.failures.stays ∙ inv.count;
      reading = more_read disk.read_gives (take at old) ys _ at c.args.disk.now c.loop-at.disk c.read_piece.new.disk (length-take-le at old fits) now inv.reading put.gives;
      rest = rest at n k old ys first fits long is inv.rest;
      lawful = λ l. lawful at n k old ys first fits long is (disk.view c.args.disk.now).state.bytes (length (take k (drop at old))) piece (inv.lawful l)
          (put.lawful (inv.read.lawful.0 l) ∙ ap (λ (bs : List ℕ). take (length (take k (drop at old))) (drop at bs)) (inv.read.same l));
      same = same_more _ _ _ step inv.same put.same (λ a p. same at n k old ys first fits long is a inv.rest p);
      other = other_more _ _ _ step (λ e. other_front at n k old ys first fits long is (inv.other e)) (λ e. other_piece at n k old ys first fits long is inv.rest (put.other e));
    }
