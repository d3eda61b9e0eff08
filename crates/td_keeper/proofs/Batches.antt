-- Batches of the journal, released into a hall one after another.
use Rattle.std.proofs.Common.{◌≡◌, ℕ, ◌+◌, ◌-◌, ◌^◌, ◌≤◌, ◌<◌, false, true, Some, List, [], ◌∷◌, ◌++◌, take, drop, length, get_or, refl, sym, ap, ◌∙◌, arith}
use Rattle.std.specs.Prelude.{All, slice_index_or}
use Rattle.std.proofs.lemmas.List.{take_more, take_all, take-map, get_or-drop, length-drop, length-map, length-take, length-append, drop-drop, drop-map, drop_at, map-append}
use Rattle.std.proofs.lemmas.List.Elements.{All-get_or}
use Rattle.td_stamp.specs.declared.values.Entry.{Entry}
use Rattle.td_plan.specs.Blocks.{PlacedVertex, vertices}
use Rattle.td_plan.specs.LookedUp.{IsLookedUp}
use Rattle.std.specs.List.{slice_get}
use Rattle.td_journal.specs.Cell.{is_batch}
use Rattle.td_journal.specs.declared.payload.Submitted.{Submitted}
use Rattle.td_calls.specs.Answers.{Answers}
use Rattle.td_machine.specs.State.{HallState}
use Rattle.td_machine.specs.Steps.{Answer, accepts, release_step}
use Rattle.td_machine.specs.Sound.{Sound}
use Rattle.td_store.specs.standing.Standing.{batches_of}
use Rattle.td_store.specs.standing.Told.{inputs_of}
use Rattle.td_keeper.specs.Keeping.{Keeping, IsKeeping, since_base}
use Rattle.td_keeper.specs.Halls.{IsOwn, lacking, with_released}
use Rattle.td_keeper.proofs.Releasing.{HasReleased, has_released, released_more}
use Rattle.td_keeper.proofs.Accepted.{accepted}

-- THE FIRST SO MANY after those that the hall has
abbrev pub after_first : ℕ → ℕ → List Submitted → List (List Entry)
after_first has at xs = batches_of (take (at - has) (drop has xs))

pub none_after : (has : ℕ) (xs : List Submitted) → [] ≡ after_first has has xs
none_after has xs = let none : 0 ≡ has - has = omega arith in ap (λ n. batches_of (take n (drop has xs))) none

pub all_after : (has at : ℕ) (xs : List Submitted) → has ≤ at → length xs ≤ at → after_first has at xs ≡ batches_of (drop has xs)
all_after has at xs from to = let left = length-drop has xs in ap batches_of (take_all (at - has) (drop has xs) (omega (arith, left, to)))

pub as_many : (has at : ℕ) (xs : List Submitted) → has ≤ at → at ≤ length xs → at - has + (length xs - at) ≡ length (drop has xs)
as_many has at xs from to = let left = length-drop has xs in omega (arith, left, from, to)

next_after : (has at : ℕ) (xs : List Submitted) (s : Submitted) → has ≤ at → at < length xs → s ≡ slice_index_or xs at s → after_first has (at + 1) xs ≡ after_first has at xs ++ s.batch ∷ []
next_after has at xs s from before is =
    let left = length-drop has xs in
    let more : at + 1 - has ≡ at - has + 1 = omega (arith, from) in
    let place : has + (at - has) ≡ at = omega (arith, from) in
    ap (λ n. batches_of (take n (drop has xs))) more
    ∙ (ap batches_of (take_more (drop has xs) (at - has) s (omega (arith, left, from, before))) ∙ (map-append (λ x. x.batch) (take (at - has) (drop has xs)) _
    ∙ ap (λ x. after_first has at xs ++ x.batch ∷ []) (get_or-drop has xs (at - has) s ∙ (ap (λ n. get_or xs n s) place ∙ sym is))))

module _ (S : HallState) (has : ℕ) (xs : List Submitted) (unclosed : S.closed ≡ false) (numbers : S.next + length (drop has xs) ≤ 2 ^ 63) where
  so_far : (at : ℕ) → HasReleased S (after_first has at xs) (with_released S (after_first has at xs))
  so_far at =
      let many = length-map (take (at - has) (drop has xs)) (λ x. x.batch) in
      let few = length-take (at - has) (drop has xs) in
      has_released S (after_first has at xs) unclosed (omega (arith, many, few, numbers))

  -- the next one is accepted
  pub may_come : (looked_up : (v : ℕ) (p : PlacedVertex) → slice_get (vertices S.plan) v ≡ Some p → IsLookedUp S.plan v p) → All (λ s. is_batch (inputs_of S.plan) s.batch ≡ true) xs
      → (at : ℕ) (T : HallState) → T ≡ with_released S (after_first has at xs) → (s : Submitted) → at < length xs → s ≡ slice_index_or xs at s → (batch : List Entry) → batch ≡ s.batch
      → accepts T.plan batch ≡ true
  may_come looked_up all at T then s before is batch same =
      let here : is_batch (inputs_of S.plan) (get_or xs at s).batch ≡ true = All-get_or (λ s. is_batch (inputs_of S.plan) s.batch ≡ true) xs at s before all in
      let it : batch ≡ (get_or xs at s).batch = same ∙ ap (λ x. x.batch) is in
      let plan : T.plan ≡ S.plan = ap (λ U. U.plan) then ∙ (so_far at).plan in
      ap (λ q. accepts q batch) plan ∙ (ap (accepts S.plan) it ∙ accepted S.plan looked_up (get_or xs at s).batch here)

-- and then it is released too
pub comes : (S T U : HallState) (has at : ℕ) (xs : List Submitted) → has ≤ at → at < length xs → T ≡ with_released S (after_first has at xs)
    → (s : Submitted) → s ≡ slice_index_or xs at s → (batch : List Entry) → batch ≡ s.batch → (answer : Answer) → release_step T batch ≡ (answer, U)
    → U ≡ with_released S (after_first has (at + 1) xs)
comes S T U has at xs from before then s is batch same answer step =
    sym (ap (λ p. p.1) step)
    ∙ ((λ i. (release_step (then i) (same i)).1)
    ∙ (sym (released_more S (after_first has at xs) s.batch) ∙ ap (with_released S) (sym (next_after has at xs s from before is))))

-- the first so many of all
pub some_of_all : (has at : ℕ) (xs : List Submitted) → after_first has at xs ≡ take (at - has) (batches_of (drop has xs))
some_of_all has at xs = sym (take-map (λ x. x.batch) (at - has) (drop has xs))

-- OF A KEEPER AND A HALL OF ITS OWN: what the hall lacks is what was submitted after what it has
module _ {D : Type 0} (answers : Answers) (k : Keeping D) (keeping : IsKeeping k answers) (S : HallState) (own : IsOwn k S) (sound : Sound answers S) where
  pub lacks : batches_of (drop (k.base - k.standing.epoch + length S.batches) k.standing.submitted) ≡ lacking k S
  lacks = sym (drop-map (λ s. s.batch) (k.base - k.standing.epoch + length S.batches) k.standing.submitted) ∙ sym (drop-drop (length S.batches) (k.base - k.standing.epoch) (batches_of k.standing.submitted))

  pub left : lacking k S ≡ own.batches.0
  left = ap (drop (length S.batches)) own.batches.1 ∙ drop_at S.batches own.batches.0 (length S.batches) refl

  pub has_few : k.base - k.standing.epoch + length S.batches ≤ length k.standing.submitted
  has_few =
      let many = length-map k.standing.submitted (λ s. s.batch) in
      let parts = ap length own.batches.1 ∙ length-append S.batches own.batches.0 in
      let rest = length-drop (k.base - k.standing.epoch) (batches_of k.standing.submitted) in
      omega (arith, many, parts, rest, keeping.from_checkpoint, keeping.released)

  pub has_numbers : S.next + length (drop (k.base - k.standing.epoch + length S.batches) k.standing.submitted) ≤ 2 ^ 63
  has_numbers =
      let few = has_few in
      let rest = length-drop (k.base - k.standing.epoch + length S.batches) k.standing.submitted in
      omega (arith, few, rest, sound.released, own.base, keeping.small, keeping.from_checkpoint)

  pub all_then : S.closed ≡ false → (with_released S (lacking k S)).batches ≡ since_base k
  all_then unclosed =
      let many = ap length (sym lacks) ∙ length-map (drop (k.base - k.standing.epoch + length S.batches) k.standing.submitted) (λ s. s.batch) in
      let numbers = has_numbers in
      (has_released S (lacking k S) unclosed (omega (arith, many, numbers))).batches ∙ (ap (λ l. S.batches ++ l) left ∙ sym own.batches.1)
