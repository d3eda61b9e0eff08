-- One step of the loops over lines and over items.
use Rattle.std.proofs.Common.{◌≡◌, ℕ, ◌+◌, ◌<◌, ◌≤◌, min, List, [], ◌∷◌, ◌++◌, length, take, get_or, ℤ, ap, sym, ◌∙◌, arith, length-take}
use Rattle.std.specs.Prelude.{fold, flat_map, option_to_list}
use Rattle.std.proofs.lemmas.List.{append-nil}
use Rattle.std.proofs.lemmas.List.Sums.{fold_more}
use Rattle.std.proofs.lemmas.Grind.{fold-append, flat_map-append, take_at_read}
use Rattle.td_stamp.specs.declared.values.Rec.{Rec}
use Rattle.td_stamp.specs.declared.values.Item.{Item}
use Rattle.td_formula.specs.declared.expression.Name.{Name}
use Rattle.td_formula.specs.declared.expression.Name.TheVariants.{Lost}
use Rattle.td_formula.specs.declared.closure.Assignment.{Assignment}
use Rattle.td_formula.specs.declared.closure.Pair.{Pair}
use Rattle.td_formula.specs.declared.closure.Closure.{Closure}
use Rattle.td_formula.specs.Names.{with_name}
use Rattle.td_formula.specs.Closures.{assigned, with_lets, with_changes, with_item, record_of, records_of, after_item, after_items, sends, room, at_end, answer, state_of}
use Rattle.td_formula.specs.Room.{with_record, settled}
use Rattle.td_formula.specs.ProvedWritten.{records_few}
use Rattle.td_formula.proofs.Room.{settled_more, all_out}

-- one line of `let` more
pub one_let : (lines : List Assignment) (start before at next : Name → ℤ) (i : ℕ) (d : Assignment) → i < length lines
    → at ≡ with_lets (take i lines) start → before ≡ at → next ≡ assigned before at (get_or lines i d)
    → next ≡ with_lets (take (i + 1) lines) start
one_let lines start before at next i d h e same f =
    f ∙ (λ k. assigned (same k) at (get_or lines i d)) ∙ ap (λ at. assigned at at (get_or lines i d)) e
    ∙ sym (fold_more (λ at line. assigned at at line) start lines i d h)

-- one line of `item` more
pub one_change : (lines : List Assignment) (before after next : Name → ℤ) (i : ℕ) (d : Assignment) → i < length lines
    → after ≡ with_changes (take i lines) before → next ≡ assigned before after (get_or lines i d)
    → next ≡ with_changes (take (i + 1) lines) before
one_change lines before after next i d h e f =
    f ∙ ap (λ after. assigned before after (get_or lines i d)) e ∙ sym (fold_more (λ after line. assigned before after line) before lines i d h)

-- one line of `each` or `send` more
records_more : (lines : List Pair) (at : Name → ℤ) (i : ℕ) (d : Pair) → i < length lines
    → records_of (take (i + 1) lines) at ≡ records_of (take i lines) at ++ option_to_list (record_of at (get_or lines i d))
records_more lines at i d h =
    let each : Pair → List Rec = λ line. option_to_list (record_of at line) in
    ap (flat_map each) (take_at_read lines i d h).1
    ∙ flat_map-append each (take i lines) (get_or lines i d ∷ [])
    ∙ ap (λ xs. flat_map each (take i lines) ++ xs) (append-nil (each (get_or lines i d)))

pub one_sent : (room : ℕ) (lines : List Pair) (at : Name → ℤ) (start now next : List Rec × ℤ) (i : ℕ) (d : Pair) → i < length lines
    → now ≡ fold (with_record room) start (records_of (take i lines) at)
    → next ≡ fold (with_record room) now (option_to_list (record_of at (get_or lines i d)))
    → next ≡ fold (with_record room) start (records_of (take (i + 1) lines) at)
one_sent room lines at start now next i d h e f =
    f ∙ ap (λ now. fold (with_record room) now (option_to_list (record_of at (get_or lines i d)))) e
    ∙ sym (fold-append (with_record room) start (records_of (take i lines) at) (option_to_list (record_of at (get_or lines i d))))
    ∙ ap (fold (with_record room) start) (sym (records_more lines at i d h))

-- one item more
one_item : (closure : Closure) (start : Name → ℤ) (items : List Item) (i : ℕ) (d : Item) → i < length items
    → after_items closure start (take (i + 1) items) ≡ after_item closure (after_items closure start (take i items)) (get_or items i d)
one_item closure start items i d h = fold_more (after_item closure) (with_lets closure.lets.items start, []) items i d h

pub names_more : (closure : Closure) (start at next : Name → ℤ) (items : List Item) (i : ℕ) (d : Item) → i < length items
    → at ≡ (after_items closure start (take i items)).0
    → next ≡ with_changes closure.changes.items (with_item (get_or items i d).port (get_or items i d).val at)
    → next ≡ (after_items closure start (take (i + 1) items)).0
names_more closure start at next items i d h e f =
    f ∙ ap (λ at. with_changes closure.changes.items (with_item (get_or items i d).port (get_or items i d).val at)) e
    ∙ sym (ap (λ done. done.0) (one_item closure start items i d h))

pub sent_more : (closure : Closure) (room : ℕ) (start next : Name → ℤ) (items : List Item) (i : ℕ) (d : Item) (out sent : List Rec × ℤ) → i < length items
    → next ≡ (after_items closure start (take (i + 1) items)).0
    → out ≡ settled room (after_items closure start (take i items)).1
    → sent ≡ fold (with_record room) out (records_of closure.each.items next)
    → sent ≡ settled room (after_items closure start (take (i + 1) items)).1
sent_more closure room start next items i d out sent h names e f =
    let done : (Name → ℤ) × List Rec = after_items closure start (take i items) in
    let one = one_item closure start items i d h in
    let now : next ≡ (after_item closure done (get_or items i d)).0 = names ∙ ap (λ done. done.0) one in
    f ∙ (λ k. fold (with_record room) (e k) (records_of closure.each.items (now k)))
    ∙ settled_more room done.1 (records_of closure.each.items (after_item closure done (get_or items i d)).0)
    ∙ sym (ap (λ done. settled room done.1) one)

-- all that goes out at the end
pub at_the_end : (closure : Closure) (start at end : Name → ℤ) (items : List Item) (out few : List Rec) (lost rest : ℤ)
    → at ≡ (after_items closure start items).0
    → (out, lost) ≡ settled (room closure) (after_items closure start items).1
    → end ≡ with_name at Lost lost
    → (few, rest) ≡ fold (with_record 8) (out, lost) (records_of (sends closure) end)
    → (state_of closure.keep end, few) ≡ answer closure start items
at_the_end closure start at end items out few lost rest names sent last all =
    let done : (Name → ℤ) × List Rec = after_items closure start items in
    let outs : out ≡ take (room closure) done.1 = ap (λ s. s.0) sent in
    let ends : end ≡ at_end closure done = last ∙ (λ k. with_name (names k) Lost ((sent k).1)) in
    let length_out : length out ≡ min (room closure) (length done.1) = ap length outs ∙ length-take (room closure) done.1 in
    let eight = length-take 8 closure.sends.items in
    let fits : length out + length (records_of (sends closure) end) ≤ 8 = omega (arith, length_out, eight, records_few (sends closure) end) in
    let fews : few ≡ out ++ records_of (sends closure) end = ap (λ s. s.0) (all ∙ all_out (records_of (sends closure) end) out lost fits) in
    let last_few : few ≡ take (room closure) done.1 ++ records_of (sends closure) (at_end closure done) = fews ∙ (λ k. outs k ++ records_of (sends closure) (ends k)) in
    λ k. (state_of closure.keep (ends k), last_few k)
