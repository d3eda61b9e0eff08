-- What each step of a hall and of a seat makes of the ledger.
use Rattle.std.proofs.Common.{◌≡◌, ℕ, ◌+◌, ◌*◌, ◌≤◌, ◌<◌, ◌^◌, List, [], ◌∷◌, ◌++◌, map, sum, cond, Bool, true, refl, ◌∙◌, arith}
use Rattle.std.specs.List.{list_all, sum_by}
use Rattle.std.proofs.lemmas.List.Sums.{sum-map, sum_by-cons, sum_by_push}
use Rattle.std.proofs.lemmas.Bool.{and_parts}
use Rattle.td_machine.specs.State.{HallState}
use Rattle.td_pool.specs.Counts.{counts, take_weight, IsCounted}

-- where neither count changes
pub as_before : (start total : ℕ) (S T : HallState) → IsCounted start S total → T.given ≡ S.given → T.taken ≡ S.taken → IsCounted start T total
as_before start total S T c given taken = record {
  gives = c.gives;
  takes = c.takes;
  total_is = c.total_is;
  given = given ∙ c.given;
  none_lost = omega (arith, c.none_lost, taken);
  bound = omega (arith, c.bound, given, taken);
}

-- a take
pub one_taken : (start total more : ℕ) (S T : HallState) → IsCounted start S total → T.given ≡ S.given → T.taken ≡ S.taken + 1
    → more ≡ total + take_weight → IsCounted start T more
one_taken start total more S T c given taken added = record {
  gives = c.gives;
  takes = c.takes + 1;
  total_is = omega (arith, c.total_is, added);
  given = given ∙ c.given;
  none_lost = omega (arith, c.none_lost, taken);
  bound = omega (arith, c.bound, given, taken);
}

-- a give of what a seat holds
pub one_given : (start total more : ℕ) (S T : HallState) → IsCounted start S total → T.given ≡ S.given + 1 → T.taken ≡ S.taken
    → more ≡ total + 1 → IsCounted start T more
one_given start total more S T c given taken added = record {
  gives = c.gives + 1;
  takes = c.takes;
  total_is = omega (arith, c.total_is, added);
  given = omega (arith, c.given, given);
  none_lost = omega (arith, c.none_lost, taken);
  bound = omega (arith, c.bound, given, taken);
}

-- a give of anything else, which counts as a take too
pub other_given : (start total more : ℕ) (S T : HallState) → IsCounted start S total → T.given ≡ S.given + 1 → T.taken ≡ S.taken
    → more ≡ total + 1 + take_weight → IsCounted start T more
other_given start total more S T c given taken added = record {
  gives = c.gives + 1;
  takes = c.takes + 1;
  total_is = omega (arith, c.total_is, added);
  given = omega (arith, c.given, given);
  none_lost = omega (arith, c.none_lost, taken);
  bound = omega (arith, c.bound, given, taken);
}

-- the ledger of a new pool has the tasks that are out
pub at_new : (start total out : ℕ) (S : HallState) → S.given ≡ start → S.given + out ≡ S.taken → total ≡ take_weight * out → IsCounted start S total
at_new start total out S given numbers total_is = record {
  gives = 0;
  takes = out;
  total_is = omega (arith, total_is);
  given = omega (arith, given);
  none_lost = omega (arith, given, numbers);
  bound = omega (arith, given, numbers);
}

-- a seat's counts have room for one more
pub has_room : (start total gives strays held : ℕ) (S : HallState) → IsCounted start S total → S.given < S.taken → S.taken ≤ 2 ^ 63
    → counts gives (gives + strays + held) ≤ total → gives + 1 < 2 ^ 64
has_room start total gives strays held S c some most bound = omega (arith, c.total_is, c.given, c.bound, some, most, bound)

-- all seats together
pub all_given : (start total out gives strays : ℕ) (S : HallState) → IsCounted start S total → S.given + out ≡ S.taken → S.taken ≤ 2 ^ 63
    → counts gives (gives + strays) ≡ total → S.given ≡ start + gives
all_given start total out gives strays S c numbers most whole =
    omega (arith, c.total_is, c.given, c.none_lost, c.bound, numbers, most, whole)

pub few_out : (start total out gives strays : ℕ) (S : HallState) → IsCounted start S total → S.given + out ≡ S.taken → S.taken ≤ 2 ^ 63
    → counts gives (gives + strays) ≡ total → out ≤ strays
few_out start total out gives strays S c numbers most whole =
    let same = all_given start total out gives strays S c numbers most whole in
    omega (arith, c.total_is, c.given, c.none_lost, c.bound, numbers, most, whole, same)

-- the sum of what seats count
module _ {X : Type 0} (amount gives strays held : X → ℕ) (each : (x : X) → amount x ≡ counts (gives x) (gives x + strays x + held x)) where
  by_recursion : (xs : List X) → sum_by amount xs ≡ counts (sum_by gives xs) (sum_by gives xs + sum_by strays xs + sum_by held xs)
  by_recursion [] = refl
  by_recursion (x ∷ xs) =
      let one : sum_by amount (x ∷ xs) ≡ amount x + sum_by amount xs = sum_by-cons amount x xs in
      let given : sum_by gives (x ∷ xs) ≡ gives x + sum_by gives xs = sum_by-cons gives x xs in
      let lost : sum_by strays (x ∷ xs) ≡ strays x + sum_by strays xs = sum_by-cons strays x xs in
      let kept : sum_by held (x ∷ xs) ≡ held x + sum_by held xs = sum_by-cons held x xs in
      omega (arith, each x, by_recursion xs, one, given, lost, kept)

  pub sums : (xs : List X) → sum (map amount xs) ≡ counts (sum (map gives xs)) (sum (map gives xs) + sum (map strays xs) + sum (map held xs))
  sums xs = rw (sum-map amount xs, sum-map gives xs, sum-map strays xs, sum-map held xs) (by_recursion xs)

-- where all hands are empty
module _ {X : Type 0} (test : X → Bool) where
  by_all : (xs : List X) → list_all test xs ≡ true → sum_by (λ x. cond (test x) 0 1) xs ≡ 0
  by_all [] e = refl
  by_all (x ∷ xs) e =
      let both = and_parts (test x) (list_all test xs) e in
      rw (both.0) (by_all xs both.1)

  pub none_held : (xs : List X) → list_all test xs ≡ true → sum (map (λ x. cond (test x) 0 1) xs) ≡ 0
  none_held xs e = sum-map (λ x. cond (test x) 0 1) xs ∙ by_all xs e

-- a seat more
pub one_more : {X : Type 0} (strays : X → ℕ) (xs : List X) (x : X) (left all : ℕ) → strays x ≡ left → sum (map strays xs) + left ≡ all
    → sum (map strays (xs ++ x ∷ [])) + 0 ≡ all
one_more strays xs x left all it so_far =
    let there = sum-map strays xs in
    let with_it = sum-map strays (xs ++ x ∷ []) ∙ sum_by_push strays xs x in
    omega (arith, there, with_it, it, so_far)

-- all seats, whose hands are empty
pub gathered : {X : Type 0} (amount gives strays : X → ℕ) (test : X → Bool) (each : (x : X) → amount x ≡ counts (gives x) (gives x + strays x + cond (test x) 0 1))
    → (xs : List X) → list_all test xs ≡ true → sum (map amount xs) ≡ counts (sum (map gives xs)) (sum (map gives xs) + sum (map strays xs))
gathered amount gives strays test each xs free =
    omega (arith, sums amount gives strays (λ x. cond (test x) 0 1) each xs, none_held test xs free)
