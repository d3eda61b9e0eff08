use Rattle.std.proofs.Common.{◌≡◌, ◌++◌, ◌∷◌, List, ℕ, OnOk, map, ◌∙◌, subst}
use Rattle.std.specs.Prelude.{string_bytes}
use Rattle.std.specs.Fmt.{decimal}
use Rattle.td_closures.specs.Lines.{each, send}
use Rattle.td_closures.specs.Canonical.{kind_text, lines_text, let_line, item_line, keep_lines}
use Rattle.td_closures.specs.Kept.{assigned_by, paired_by}
use Rattle.td_closures.proofs.PrintedClosure.{printed_lines}
use Rattle.td_closures.proofs.printer.print_closure.Goals as goal

pub returns-clause-ok : goal.returns-clause-ok
returns-clause-ok c =
    let closure = c.args.closure.now in
    let before = string_bytes c.args.text.now in
    let first = kind_text closure.kind ++ decimal closure.code in
    let ks = keep_lines (paired_by closure.keep) in
    let a = c.as_slice.ensures.value in
    let b = c.as_slice-2.ensures.value in
    let d = c.as_slice-3.ensures.value in
    let e = c.as_slice-4.ensures.value in
    let printed = printed_lines before (string_bytes c.print_head.new.text) (string_bytes c.print_lets.new.text) (string_bytes c.print_items.new.text) (string_bytes c.print_all_each.new.text)
    (string_bytes c.print_sends.new.text) first (map let_line (map assigned_by c.as_slice.result.now)) (map item_line (map assigned_by c.as_slice-2.result.now))
    (map each (map paired_by c.as_slice-3.result.now)) (map send (map paired_by c.as_slice-4.result.now)) ks
    c.in_ok-print_head.ensures.ok c.in_ok-print_lets.ensures.ok c.in_ok-print_items.ensures.ok c.in_ok-print_all_each.ensures.ok c.in_ok-print_sends.ensures.ok in
    subst (λ (x : List ℕ). OnOk c.print_keep.result (string_bytes c.print_keep.new.text ≡ x))
    (printed ∙ (λ i. before ++ (first ++ 10 ∷ lines_text (map let_line (map assigned_by (a i)) ++ (map item_line (map assigned_by (b i)) ++ (map each (map paired_by (d i)) ++ (map send (map paired_by (e i)) ++ ks)))))))
    c.print_keep.ensures.ok
