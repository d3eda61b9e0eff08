use Rattle.std.proofs.Common.{◌≡◌, ℕ, List, ◌++◌, ap, ◌∙◌, append_assoc, Result, ℤ, FitsSigned, w64, to_z, of_z, rules}
use Rattle.std.proofs.lemmas.Int.{to_z-of_z}
use Rattle.std.specs.Prelude.{OnOk, Ok, Err}
use Rattle.td_gate.specs.Fields.{number_bytes, signed_bytes}
use Rattle.td_journal.proofs.payload.push_entry.Goals as goal

on_ok_from : {T E P Q : Type 0} (r : Result T E) → (P → Q) → OnOk r P → OnOk r Q
on_ok_from (Ok x) f p = f p
on_ok_from (Err e) f p = tt

in_turn : (o a b c p q r : List ℕ) → p ≡ o ++ a → q ≡ p ++ b → r ≡ q ++ c → r ≡ o ++ (a ++ (b ++ c))
in_turn o a b c p q r e f g = g ∙ ap (λ (l : List ℕ). l ++ c) (f ∙ ap (λ (l : List ℕ). l ++ b) e) ∙ simp append_assoc

pub returns-clause-ok : goal.returns-clause-ok
returns-clause-ok c =
    let val = c.args.entry.rec.val in
    let fits : FitsSigned w64 val = search rules in
    let second = c.push_u64-2.new.payload.items in
    on_ok_from c.push_i64.result
    (λ (e : c.push_i64.new.payload.items ≡ second ++ signed_bytes (to_z w64 (of_z w64 val))).
    in_turn c.args.payload.now.items (number_bytes 8 c.args.entry.input) (number_bytes 8 c.args.entry.rec.key) (signed_bytes val)
    c.push_u64.new.payload.items second c.push_i64.new.payload.items
    (c.in_ok-push_u64.ensures ∙ ap (λ (n : ℕ). c.args.payload.now.items ++ number_bytes 8 n) c.from.ensures) c.in_ok-push_u64-2.ensures
    (e ∙ ap (λ (z : ℤ). second ++ signed_bytes z) (to_z-of_z w64 val fits)))
    c.push_i64.ensures
