use Rattle.std.proofs.Common.{◌≡◌, ◌++◌, List, ℕ, [], ◌∷◌, ap, ◌∙◌, append_assoc, arith, rules}
use Rattle.std.specs.Prelude.{string_bytes}
use Rattle.std.specs.Fmt.{decimal, signed_decimal}
use Rattle.td_console.proofs.answer.print_output.Goals as goal

-- a number behind a blank
next_number : (text number : List ℕ) → (text ++ (32 ∷ [])) ++ number ≡ text ++ (32 ∷ number)
next_number text number = append_assoc text (32 ∷ []) number

line : (text epoch vertex key val : List ℕ)
    → (((((((text ++ epoch) ++ (32 ∷ [])) ++ vertex) ++ (32 ∷ [])) ++ key) ++ (32 ∷ [])) ++ val) ++ (10 ∷ [])
    ≡ text ++ ((((epoch ++ (32 ∷ vertex)) ++ (32 ∷ key)) ++ (32 ∷ val)) ++ (10 ∷ []))
line text epoch vertex key val =
    let one : ((text ++ epoch) ++ (32 ∷ [])) ++ vertex ≡ text ++ (epoch ++ (32 ∷ vertex)) = next_number (text ++ epoch) vertex ∙ append_assoc text epoch (32 ∷ vertex) in
    let two : ((((text ++ epoch) ++ (32 ∷ [])) ++ vertex) ++ (32 ∷ [])) ++ key ≡ text ++ ((epoch ++ (32 ∷ vertex)) ++ (32 ∷ key)) =
    ap (λ l. (l ++ (32 ∷ [])) ++ key) one ∙ (next_number (text ++ (epoch ++ (32 ∷ vertex))) key ∙ append_assoc text (epoch ++ (32 ∷ vertex)) (32 ∷ key)) in
    ap (λ l. ((l ++ (32 ∷ [])) ++ val) ++ (10 ∷ [])) two
    ∙ (ap (λ l. l ++ (10 ∷ [])) (next_number (text ++ ((epoch ++ (32 ∷ vertex)) ++ (32 ∷ key))) val ∙ append_assoc text ((epoch ++ (32 ∷ vertex)) ++ (32 ∷ key)) (32 ∷ val))
    ∙ append_assoc text (((epoch ++ (32 ∷ vertex)) ++ (32 ∷ key)) ++ (32 ∷ val)) (10 ∷ []))

pub returns-clause-ok : goal.returns-clause-ok
returns-clause-ok c =
    let epoch = c.in_ok-push_str.ensures.bytes ∙ ap (λ l. string_bytes c.args.text.now ++ l) c.format.ensures.text in
    let first = c.in_ok-push.ensures.bytes ∙ (λ i. epoch i ++ c.in_ok-push.ensures.ascii (omega arith) i) in
    let vertex = c.in_ok-push_str-2.ensures.bytes ∙ (λ i. first i ++ c.format-2.ensures.text i) in
    let second = c.in_ok-push-2.ensures.bytes ∙ (λ i. vertex i ++ c.in_ok-push-2.ensures.ascii (omega arith) i) in
    let key = c.in_ok-push_str-3.ensures.bytes ∙ (λ i. second i ++ c.format-3.ensures.text i) in
    let third = c.in_ok-push-3.ensures.bytes ∙ (λ i. key i ++ c.in_ok-push-3.ensures.ascii (omega arith) i) in
    let digits : c.format-4.result.now ≡ signed_decimal c.args.output.rec.val = search rules in
    let val = c.in_ok-push_str-4.ensures.bytes ∙ (λ i. third i ++ digits i) in
    c.in_ok-push-4.ensures.bytes ∙ ((λ i. val i ++ c.in_ok-push-4.ensures.ascii (omega arith) i) ∙ line (string_bytes c.args.text.now) (decimal c.args.epoch) (decimal c.args.output.vertex) (decimal c.args.output.rec.key) (signed_decimal c.args.output.rec.val))
