use Rattle.std.proofs.Common.{◌≡◌, ◌≤◌, true, length, take, get_or, sym, ◌∙◌, arith, length-take}
use Rattle.std.specs.Char.{is_ascii_digit}
use Rattle.std.proofs.lemmas.List.Folds.{list_all_more}
use Rattle.std.proofs.lemmas.Int.Digits.{digits_value_more}
use Rattle.std.proofs.lemmas.Str.{digit_value_digit}
use Rattle.td_console.proofs.PlainLines.{few_digits, digit_range}
use Rattle.td_console.proofs.data_line.digits.Goals as goal

pub overflow_mul-number : goal.overflow_mul-number
overflow_mul-number c =
    let size : length (take c.loop-count.count c.args.bytes.now) ≤ 18 = omega (arith, length-take c.loop-count.count c.args.bytes.now) in
    omega (arith, few_digits (take c.loop-count.count c.args.bytes.now) 18 c.loop-count.invariant.digits size, c.loop-count.invariant.value)

pub overflow_add-number : goal.overflow_add-number
overflow_add-number c =
    let size : length (take c.loop-count.count c.args.bytes.now) ≤ 18 = omega (arith, length-take c.loop-count.count c.args.bytes.now) in
    let is : is_ascii_digit (get_or c.args.bytes.now c.loop-count.count 0) ≡ true = sym c.is_ascii_digit.ensures.value ∙ c.if-not-is_ascii_digit.false in
    let range = digit_range (get_or c.args.bytes.now c.loop-count.count 0) is in
    omega (arith, few_digits (take c.loop-count.count c.args.bytes.now) 18 c.loop-count.invariant.digits size, c.loop-count.invariant.value, c.from.ensures, range.0, range.1)

pub loop-count-preserved : goal.loop-count-preserved
loop-count-preserved c =
    let is : is_ascii_digit (get_or c.args.bytes.now c.loop-count.count 0) ≡ true = sym c.is_ascii_digit.ensures.value ∙ c.if-not-is_ascii_digit.false in
    let range = digit_range (get_or c.args.bytes.now c.loop-count.count 0) is in
    record {
      bound = omega arith;
      digits = list_all_more is_ascii_digit c.args.bytes.now c.loop-count.count 0 (omega arith) ∙ rw c.loop-count.invariant.digits is;
      value =
          omega (arith, c.loop-count.invariant.value, c.from.ensures, digits_value_more 10 c.args.bytes.now c.loop-count.count (omega arith), digit_value_digit (get_or c.args.bytes.now c.loop-count.count 0) range);
    }
