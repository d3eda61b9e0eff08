-- Batches that are released one after another.
use Rattle.std.proofs.Common.{◌≡◌, ℕ, suc, ◌+◌, ◌≤◌, ◌<◌, ◌==◌, false, List, [], ◌∷◌, ◌++◌, length, refl, sym, ◌∙◌, subst, arith}
use Rattle.std.proofs.lemmas.List.{append_assoc, append-nil}
use Rattle.td_stamp.specs.declared.values.Entry.{Entry}
use Rattle.td_machine.specs.State.{HallState}
use Rattle.td_machine.specs.Steps.{release_step, release_by, with_batch, ends}
use Rattle.td_keeper.specs.Halls.{with_released}

-- A HALL AFTER BATCHES: it has them, in order, and the rest of it that a keeper knows is as it was
pub record HasReleased (S : HallState) (xs : List (List Entry)) (T : HallState) : Type 0 where
  pub plan : T.plan ≡ S.plan
  pub closed : T.closed ≡ S.closed
  pub next : T.next ≡ S.next + length xs
  pub batches : T.batches ≡ S.batches ++ xs
  pub workers : T.workers ≡ S.workers
  pub out : T.out ≡ S.out
  pub base : T.base ≡ S.base
  pub base_states : T.base_states ≡ S.base_states
  pub collected : T.collected ≡ S.collected

below_ends : (n m : ℕ) → n + suc m ≤ ends → (n == ends) ≡ false
below_ends n m l = grind (arith, l)

-- a release into a hall that is open and has a number left
pub released_one : (S : HallState) (x : List Entry) → S.closed ≡ false → S.next < ends → (release_step S x).1 ≡ with_batch S x
released_one S x still l =
    let other : (S.next == ends) ≡ false = below_ends S.next 0 (omega (arith, l)) in
    λ i. (release_by S (still i) (other i) x).1

pub has_released : (S : HallState) (xs : List (List Entry)) → S.closed ≡ false → S.next + length xs ≤ ends → HasReleased S xs (with_released S xs)
has_released S [] still l = record { plan = refl; closed = refl; next = omega arith; batches = sym (append-nil S.batches); workers = refl; out = refl; base = refl; base_states = refl; collected = refl }
has_released S (x ∷ xs) still l =
    let one = released_one S x still (omega (arith, l)) in
    let many : S.next + 1 + length xs ≡ S.next + suc (length xs) = omega arith in
    let then = has_released (with_batch S x) xs still (omega (arith, l)) in
    subst (λ T. HasReleased S (x ∷ xs) (with_released T xs)) (sym one)
    (record {
      plan = then.plan;
      closed = then.closed;
      next = then.next ∙ many;
      batches = then.batches ∙ append_assoc S.batches (x ∷ []) xs;
      workers = then.workers;
      out = then.out;
      base = then.base;
      base_states = then.base_states;
      collected = then.collected;
    })

-- one batch more
pub released_more : (S : HallState) (xs : List (List Entry)) (x : List Entry) → with_released S (xs ++ x ∷ []) ≡ (release_step (with_released S xs) x).1
released_more S [] x = refl
released_more S (y ∷ ys) x = released_more (release_step S y).1 ys x
