use Rattle.std.proofs.Common.{◌≡◌, ◌≤◌, ◌++◌, Some, true, length, sym, ap, ◌∙◌, arith}
use Rattle.std.specs.List.{list_all}
use Rattle.std.specs.Char.{is_ascii_digit}
use Rattle.std.specs.Str.Parse.{digits_value}
use Rattle.std.proofs.lemmas.List.{take-append-drop}
use Rattle.td_console.proofs.PlainLines.{few_digits, written}
use Rattle.td_console.proofs.data_line.front_number.Goals as goal

pub returns-then-has_no_leading_zero : goal.returns-then-has_no_leading_zero
returns-then-has_no_leading_zero c =
    let word = c.split_at.result.0.now in
    let is = c.split_at.ensures.front in
    let digits : list_all is_ascii_digit word ≡ true = ap (list_all is_ascii_digit) is ∙ c.digits-number.ensures.digits in
    let size : length word ≤ c.args.most = omega (arith, c.split_at.ensures.front_len, c.digits-number.ensures.most) in
    let value : digits_value 10 word ≡ c.digits-number.result.0 = ap (digits_value 10) is ∙ sym c.digits-number.ensures.value in
    let small = few_digits word c.args.most digits size in
    let fits = few_digits word 19 digits (omega arith) in
    record {
      word = word;
      cut = sym (take-append-drop c.digits-number.result.1 c.args.bytes.now) ∙ (λ i. sym is i ++ sym c.split_at.ensures.back i);
      digits = digits;
      written = written word digits (sym c.has_no_leading_zero.ensures ∙ c.if-has_no_leading_zero.true) (omega (arith, fits)) ∙ ap Some value;
      small = omega (arith, small, value);
    }
