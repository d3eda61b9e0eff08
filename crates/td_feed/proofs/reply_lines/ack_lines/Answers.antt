use Rattle.std.proofs.Common.{◌≡◌, ℕ, suc, ◌+◌, ◌-◌, ◌++◌, ◌∙◌, ap, sym, arith, List, append_assoc}
use Rattle.std.specs.Prelude.{string_bytes}
use Rattle.td_feed.specs.Said.{ack_line, ack_lines}
use Rattle.td_feed.proofs.reply_lines.ack_lines.Goals as goal

-- the line of the next epoch, and the lines of the rest
next_line : (e end : ℕ) → end - e ≡ suc (end - (e + 1)) → ack_lines e (end - e) ≡ ack_line e ++ ack_lines (e + 1) (end - (e + 1))
next_line e end left =
    let next : suc e ≡ e + 1 = omega arith in
    ap (ack_lines e) left ∙ ap (λ (n : ℕ). ack_line e ++ ack_lines n (end - (e + 1))) next

pub loop-epoch-preserved : goal.loop-epoch-preserved
loop-epoch-preserved c =
    let e = c.loop-epoch.epoch in
    let end = c.args.end in
    let lines = string_bytes c.loop-epoch.lines in
    let more = ack_lines (e + 1) (end - (e + 1)) in
    let left : end - e ≡ suc (end - (e + 1)) = omega (arith, c.loop-epoch-test.true) in
    record {
      so_far = ap (λ (l : List ℕ). l ++ more) c.in_ok-print_ack.ensures.ok
          ∙ (append_assoc lines (ack_line e) more ∙ (sym (ap (λ (l : List ℕ). lines ++ l) (next_line e end left)) ∙ c.loop-epoch.invariant.so_far));
    }
