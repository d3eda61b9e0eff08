use Rattle.std.proofs.Common.{◌≡◌, ℕ, List, ◌++◌, ap, ◌∙◌, append_assoc, Result, ℤ, FitsSigned, w64, to_z, of_z, rules}
use Rattle.std.proofs.lemmas.Int.{to_z-of_z}
use Rattle.std.specs.Prelude.{OnOk, Ok, Err}
use Rattle.td_gate.specs.Fields.{number_bytes, signed_bytes}
use Rattle.td_slots.proofs.payload.push_state.Goals as goal

on_ok_from : {T E P Q : Type 0} (r : Result T E) → (P → Q) → OnOk r P → OnOk r Q
on_ok_from (Ok x) f p = f p
on_ok_from (Err e) f p = tt

in_turn : (o a b c d p q r s : List ℕ) → p ≡ o ++ a → q ≡ p ++ b → r ≡ q ++ c → s ≡ r ++ d → s ≡ o ++ (a ++ (b ++ (c ++ d)))
in_turn o a b c d p q r s e f g h = h ∙ ap (λ (l : List ℕ). l ++ d) (g ∙ ap (λ (l : List ℕ). l ++ c) (f ∙ ap (λ (l : List ℕ). l ++ b) e)) ∙ simp append_assoc

pub returns-clause-ok : goal.returns-clause-ok
returns-clause-ok c =
    let a = c.args.state.a in
    let b = c.args.state.b in
    let fits_a : FitsSigned w64 a = search rules in
    let fits_b : FitsSigned w64 b = search rules in
    let second = c.push_u64-2.new.payload.items in
    let third = c.push_i64.new.payload.items in
    on_ok_from c.push_i64-2.result
    (λ (e : c.push_i64-2.new.payload.items ≡ third ++ signed_bytes (to_z w64 (of_z w64 b))).
    in_turn c.args.payload.now.items (number_bytes 8 c.args.vertex) (number_bytes 8 c.args.key) (signed_bytes a) (signed_bytes b)
    c.push_u64.new.payload.items second third c.push_i64-2.new.payload.items
    (c.in_ok-push_u64.ensures ∙ ap (λ (n : ℕ). c.args.payload.now.items ++ number_bytes 8 n) c.from.ensures) c.in_ok-push_u64-2.ensures
    (c.in_ok-push_i64.ensures ∙ ap (λ (z : ℤ). second ++ signed_bytes z) (to_z-of_z w64 a fits_a))
    (e ∙ ap (λ (z : ℤ). third ++ signed_bytes z) (to_z-of_z w64 b fits_b)))
    c.push_i64-2.ensures
