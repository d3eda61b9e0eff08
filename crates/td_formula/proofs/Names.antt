-- The numbers of an environment.
use Rattle.std.proofs.Common.{◌≡◌, ℕ, ◌<◌, Bool, true, false, if◌then◌else◌, List, length, get_or, set, ℤ, pos, refl, ◌∙◌, lit<, arith}
use Rattle.std.specs.Prelude.{◌==◌}
use Rattle.std.proofs.lemmas.Bool.{eqb-true, eqb-false}
use Rattle.std.proofs.lemmas.Grind.{get_or-set_at}
use Rattle.std.proofs.lemmas.List.{get_or-set_other}
use Rattle.td_formula.specs.declared.expression.Name.{Name}
use Rattle.td_formula.specs.declared.expression.Name.TheVariants.{Key, Val, Port, A, B, BeforeA, BeforeB, Known, Items, Lost, Register}
use Rattle.td_formula.specs.Names.{place, is_same}

-- after a write at i
pub number_set : (xs : List ℤ) (i j : ℕ) (v : ℤ) (b : Bool) → i < length xs → (j == i) ≡ b
    → get_or (set xs i v) j (pos 0) ≡ (if b then v else get_or xs j (pos 0))
number_set xs i j v true h e = get_or-set_at xs i j v (pos 0) (eqb-true j i e) h
number_set xs i j v false h e = get_or-set_other xs i j v (pos 0) (eqb-false j i e)

pub place_within : (x : Name) → place x < 18
place_within Key = lit< tt
place_within Val = lit< tt
place_within Port = lit< tt
place_within A = lit< tt
place_within B = lit< tt
place_within BeforeA = lit< tt
place_within BeforeB = lit< tt
place_within Known = lit< tt
place_within Items = lit< tt
place_within Lost = lit< tt
place_within (Register r) = omega arith

-- what a name stands for after that of another one was written
pub all_set : (xs : List ℤ) (i : ℕ) (name x : Name) (v w : ℤ) → i ≡ place name → w ≡ v → i < length xs
    → get_or (set xs i w) (place x) (pos 0) ≡ (if is_same x name then v else get_or xs (place x) (pos 0))
all_set xs i name x v w e f h =
    let within : place name < length xs = omega (arith, e, h) in
    (λ k. get_or (set xs (e k) (f k)) (place x) (pos 0)) ∙ number_set xs (place name) (place x) v (is_same x name) within refl
