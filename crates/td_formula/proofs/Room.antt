-- What goes out of many records, as far as there is room.
use Rattle.std.proofs.Common.{◌≡◌, ℕ, ◌+◌, ◌-◌, ◌^◌, ◌≤◌, ◌<◌, min, Bool, true, false, if◌then◌else◌, List, [], ◌∷◌, ◌++◌, length, take, ℤ, pos, ◌+ℤ◌, refl, ap, sym, ◌∙◌, append_assoc, arith, length-append, length-take, take_all}
use Rattle.std.specs.Prelude.{nat_lt, fold}
use Rattle.std.proofs.lemmas.Bool.{ltb-true, ltb-false, lt-ltb}
use Rattle.std.proofs.lemmas.List.{append-nil, take-append-le}
use Rattle.td_stamp.specs.declared.values.Rec.{Rec}
use Rattle.td_formula.specs.Meaning.{step}
use Rattle.td_formula.specs.Room.{with_record, settled}

counted : (most n m : ℕ) → m ≡ n + 1 → min (min n most + 1) most ≡ min m most
counted most n m e = omega arith

one_lost : (n m : ℕ) → m ≡ n + 1 → step (step (pos n) +ℤ pos 1) ≡ step (pos m)
one_lost n m e = ap pos (counted (2 ^ 127 - 1) n m e)

one_at : (room : ℕ) (all : List Rec) (r : Rec) (b : Bool) → nat_lt (length (take room all)) room ≡ b
    → (if b then (take room all ++ r ∷ [], step (pos (length all - room))) else (take room all, step (step (pos (length all - room)) +ℤ pos 1)))
    ≡ settled room (all ++ r ∷ [])
one_at room all r true e =
    let lt = ltb-true (length (take room all)) room e in
    let long = length-take room all in
    let longer = length-append all (r ∷ []) in
    let within : length all ≤ room = omega (arith, lt, long) in
    let still : length (all ++ r ∷ []) ≤ room = omega (arith, lt, long, longer) in
    let none : length all - room ≡ length (all ++ r ∷ []) - room = omega (arith, within, still) in
    let out : take room all ++ r ∷ [] ≡ take room (all ++ r ∷ []) = ap (λ xs. xs ++ r ∷ []) (take_all room all within) ∙ sym (take_all room (all ++ r ∷ []) still) in
    λ i. (out i, step (pos (none i)))
one_at room all r false e =
    let le = ltb-false (length (take room all)) room e in
    let long = length-take room all in
    let longer = length-append all (r ∷ []) in
    let full : room ≤ length all = omega (arith, le, long) in
    let more : length (all ++ r ∷ []) - room ≡ (length all - room) + 1 = omega (arith, full, longer) in
    let out : take room all ≡ take room (all ++ r ∷ []) = sym (take-append-le room all (r ∷ []) full) in
    let lost : step (step (pos (length all - room)) +ℤ pos 1) ≡ step (pos (length (all ++ r ∷ []) - room)) = one_lost _ _ more in
    λ i. (out i, lost i)

one_more : (room : ℕ) (all : List Rec) (r : Rec) → with_record room (settled room all) r ≡ settled room (all ++ r ∷ [])
one_more room all r = one_at room all r (nat_lt (length (take room all)) room) refl

pub settled_more : (room : ℕ) (first rest : List Rec) → fold (with_record room) (settled room first) rest ≡ settled room (first ++ rest)
settled_more room first [] = ap (settled room) (sym (append-nil first))
settled_more room first (r ∷ rest) =
    ap (λ s. fold (with_record room) s rest) (one_more room first r)
    ∙ settled_more room (first ++ r ∷ []) rest
    ∙ ap (settled room) (append_assoc first (r ∷ []) rest)

pub settled_none : (room : ℕ) → ([], pos 0) ≡ settled room []
settled_none room =
    let none : 0 ≡ 0 - room = omega arith in
    let all : take room [] ≡ [] = take_all room [] (omega arith) in
    λ i. (sym all i, step (pos (none i)))

one_out : (out : List Rec) (lost : ℤ) (r : Rec) → length out < 8 → with_record 8 (out, lost) r ≡ (out ++ r ∷ [], lost)
one_out out lost r h = ap (λ b. if b then (out ++ r ∷ [], lost) else (out, step (lost +ℤ pos 1))) (lt-ltb (length out) 8 h)

pub all_out : (rest out : List Rec) (lost : ℤ) → length out + length rest ≤ 8 → fold (with_record 8) (out, lost) rest ≡ (out ++ rest, lost)
all_out [] out lost h = λ i. (sym (append-nil out) i, lost)
all_out (r ∷ rest) out lost h =
    let longer = length-append out (r ∷ []) in
    ap (λ s. fold (with_record 8) s rest) (one_out out lost r (omega (arith, h)))
    ∙ all_out rest (out ++ r ∷ []) lost (omega (arith, h, longer))
    ∙ ap (λ xs. (xs, lost)) (append_assoc out (r ∷ []) rest)
