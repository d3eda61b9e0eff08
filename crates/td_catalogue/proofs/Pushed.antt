-- Lists with one more at the end.
use Rattle.std.proofs.Common.{◌≡◌, refl, ℕ, ◌+◌, ◌-◌, ◌*◌, ◌≤◌, List, [], ◌∷◌, ◌++◌, length, arith, flat_map, map, ap, ◌∙◌}
use Rattle.std.specs.Prelude.{Option, Some, None, option_to_list}
use Rattle.std.specs.List.{range_with_len}
use Rattle.std.proofs.lemmas.List.{append-nil}
use Rattle.std.proofs.lemmas.List.FromFn.{map-range_with_len_more}
use Rattle.std.proofs.lemmas.Grind.{flat_map-append}
use Rattle.td_stamp.specs.declared.values.Rec.{Rec}
use Rattle.td_catalogue.specs.Values.{eight_from}

-- those that there are of the numbers from the first up to the next
abbrev pub so_far : (ℕ → Option Rec) → ℕ → ℕ → List Rec
so_far f first next = flat_map option_to_list (map f (range_with_len first (next - first)))

one_more : (f : ℕ → Option Rec) (first n : ℕ)
    → flat_map option_to_list (map f (range_with_len first (n + 1)))
    ≡ flat_map option_to_list (map f (range_with_len first n)) ++ option_to_list (f (first + n))
one_more f first n =
    rw (map-range_with_len_more f first n (first + n) refl)
    (flat_map-append option_to_list (map f (range_with_len first n)) (f (first + n) ∷ [])
    ∙ ap (λ more. flat_map option_to_list (map f (range_with_len first n)) ++ more) (append-nil (option_to_list (f (first + n)))))

pub so_far_more : (f : ℕ → Option Rec) (first next : ℕ) → first ≤ next → so_far f first (next + 1) ≡ so_far f first next ++ option_to_list (f next)
so_far_more f first next least =
    let long : next + 1 - first ≡ (next - first) + 1 = omega (arith, least) in
    let here : first + (next - first) ≡ next = omega (arith, least) in
    ap (λ n. flat_map option_to_list (map f (range_with_len first n))) long
    ∙ one_more f first (next - first)
    ∙ ap (λ k. so_far f first next ++ option_to_list (f k)) here

pub so_far_eight : (f : ℕ → Option Rec) (i first next : ℕ) → first ≡ 8 * i → next ≡ first + 8 → so_far f first next ≡ eight_from i f
so_far_eight f i first next start end =
    let long : next - first ≡ 8 = omega (arith, end) in
    ap (λ n. flat_map option_to_list (map f (range_with_len first n))) long
    ∙ ap (λ at. flat_map option_to_list (map f (range_with_len at 8))) start

pub at_most_one : (x : Option Rec) → length (option_to_list x) ≤ 1
at_most_one None = omega arith
at_most_one (Some x) = omega arith
