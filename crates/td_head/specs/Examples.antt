-- Worked examples, by computation.
use Rattle.std.specs.Prelude.{◌≡◌, ℕ, List, [], ◌∷◌, length, Option, Some, None, true, take, Result, Ok, Err}
use Rattle.std.proofs.Common.{refl}
use Rattle.td_gate.specs.Fields.{number_at, number_bytes}
use Rattle.std.specs.Fmt.{digits}
use Rattle.td_plan.specs.Lines.{Line, text_of}
use Rattle.td_plan.specs.Named.{total_plan, count_plan}
use Rattle.td_head.specs.declared.head.Head.{Head}
use Rattle.td_head.specs.declared.error.HeadError.{HeadError}
use Rattle.td_head.specs.declared.error.HeadError.TheVariants.{NotFormatted, Damaged, WrongPlan}
use Rattle.td_head.specs.Layout.{Sizes, cells_at, size_of, is_shape}
use Rattle.td_head.specs.Head.{head_bytes, head_in, candidate, greater}

abbrev pub sizes_423 : Sizes
sizes_423 = record { m = 4; n = 2; k = 3 }

places : cells_at sizes_423 ∷ size_of sizes_423 ∷ [] ≡ 8500 ∷ 8742 ∷ []
places = refl

limits : is_shape sizes_423 ≡ true
limits = refl

begins : take 32 (head_bytes 2 1 sizes_423 (text_of total_plan))
    ≡ 84 ∷ 68 ∷ 70 ∷ 76 ∷ 0 ∷ 0 ∷ 0 ∷ 2 ∷ 0 ∷ 0 ∷ 0 ∷ 0 ∷ 0 ∷ 0 ∷ 0 ∷ 1 ∷ 0 ∷ 0 ∷ 0 ∷ 4 ∷ 0 ∷ 0 ∷ 0 ∷ 2 ∷ 0 ∷ 0 ∷ 0 ∷ 3 ∷ 0 ∷ 0 ∷ 0 ∷ 31 ∷ []
unfolding digits number_at number_bytes
begins = refl

whole : length (head_bytes 2 1 sizes_423 (text_of total_plan)) ≡ 4128
unfolding digits number_at number_bytes
whole = refl

-- a disk of 8,742 bytes, whose heads A and B are these
abbrev pub tells : List Line → ℕ → Option (List ℕ) → Option (List ℕ) → Result Head HeadError
tells plan size a b = head_in true plan size (greater (candidate 0 a) (candidate 1 b))

abbrev pub written : ℕ → ℕ → Option (List ℕ)
written version generation = Some (head_bytes version generation sizes_423 (text_of total_plan))

first : tells total_plan 8742 (written 2 1) None ≡ Ok (record { version = 2; side = 0; generation = 1; shape = sizes_423 })
unfolding digits number_at number_bytes
first = refl

-- version 1 is read, and a greater generation counts
upgraded : tells total_plan 8742 (written 1 1) (written 2 2) ≡ Ok (record { version = 2; side = 1; generation = 2; shape = sizes_423 })
unfolding digits number_at number_bytes
upgraded = refl

old : tells total_plan 8742 (written 1 1) None ≡ Ok (record { version = 1; side = 0; generation = 1; shape = sizes_423 })
unfolding digits number_at number_bytes
old = refl

-- a tie is head A
tie : tells total_plan 8742 (written 1 3) (written 2 3) ≡ Ok (record { version = 1; side = 0; generation = 3; shape = sizes_423 })
unfolding digits number_at number_bytes
tie = refl

strange : tells total_plan 8742 (written 9 1) None ≡ Err Damaged
unfolding digits number_at number_bytes
strange = refl

another : tells count_plan 8742 (written 2 1) None ≡ Err WrongPlan
unfolding digits number_at number_bytes
another = refl

cut_short : tells total_plan 8741 (written 2 1) None ≡ Err Damaged
unfolding digits number_at number_bytes
cut_short = refl

none : tells total_plan 8742 None None ≡ Err NotFormatted
none = refl
