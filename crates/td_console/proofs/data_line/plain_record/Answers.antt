use Rattle.std.proofs.Common.{sym, subst, w64}
use Rattle.std.proofs.lemmas.Int.{to_z-of_z}
use Rattle.td_console.specs.Plain.{IsPlain}
use Rattle.td_console.proofs.PlainLines.{is_plain}
use Rattle.td_console.proofs.data_line.plain_record.Goals as goal

pub returns : goal.returns
returns c =
    let input = c.in_ok-input.input in
    let key = c.in_ok-key.key in
    let rest = c.in_ok-rest.rest.now in
    subst (λ z. IsPlain c.args.bytes.now input (record { key = key; val = z }) rest) (sym (to_z-of_z w64 c.in_ok-val.val c.in_ok-val.ensures.fits))
    (is_plain c.args.bytes.now c.in_ok-input.rest.now c.in_ok-after.field-0.now c.in_ok-key.rest.now c.in_ok-after-2.field-0.now c.in_ok-val.rest.now rest input key c.in_ok-val.val
    c.in_ok-input.ensures c.in_ok-after.ensures c.in_ok-key.ensures c.in_ok-after-2.ensures c.in_ok-val.ensures c.in_ok-rest.ensures)
