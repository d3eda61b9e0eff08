-- How many bags there are after a turn of a block, and that it leaves those as they are that it finds.
use Rattle.std.proofs.Common.{◌≡◌, ℕ, zero, suc, ◌+◌, ◌<◌, List, [], ◌∷◌, ◌++◌, flat_map, length, Option, None, refl, ap, ◌∙◌, arith, length-append, add-zero}
use Rattle.std.proofs.lemmas.List.{get_or_append_left}
use Rattle.td_stamp.specs.Orders.{rec_cmp}
use Rattle.td_stamp.specs.Bag.{bag_of}
use Rattle.td_plan.specs.Tree.{Nodes, size}
use Rattle.td_plan.specs.Tree.Nodes.{done, node, block}
use Rattle.td_batch.specs.Meaning.{EpochInput, Bags, emitted, emission, turns, over_turns, turn}
use Rattle.td_batch.specs.Flow.{Flow}
use Rattle.td_batch.proofs.Lists.{all_map}
use Rattle.td_batch.proofs.Flows.{EndsAs, AllEndAs}

-- of so many vertices each has a bag
pub length-over_turns : (each : List Bags) (v n : ℕ) → length (over_turns each v n) ≡ n
length-over_turns each v zero = refl
length-over_turns each v (suc n) = ap suc (length-over_turns each (v + 1) n)

-- the bag over all turns
pub emitted-over_turns : (each : List Bags) (v n i : ℕ) → i < n → emitted (over_turns each v n) i ≡ bag_of rec_cmp (flat_map (λ bags. emitted bags (v + i)) each)
emitted-over_turns each v zero i h = absurd (omega arith)
emitted-over_turns each v (suc n) zero h = rw add-zero refl
emitted-over_turns each v (suc n) (suc i) h =
    let next : (v + 1) + i ≡ v + suc i = omega arith in
    rw next at (emitted-over_turns each (v + 1) n i (omega arith))

module _ (epoch : EpochInput) where
  -- the bags of a loop's vertices over all its turns, in a block that has these bags so far
  abbrev pub loop_bags : ℕ → Nodes → Bags → Bags
  loop_bags bound body bags = over_turns (turns (λ earlier. turn epoch body earlier bags) bound None) (length bags) (size body)

  pub length-loop_bags : (bound : ℕ) (body : Nodes) (bags : Bags) → length (loop_bags bound body bags) ≡ size body
  length-loop_bags bound body bags = length-over_turns (turns (λ earlier. turn epoch body earlier bags) bound None) (length bags) (size body)

  pub length-turn : (nodes : Nodes) (before : Option Bags) (bags : Bags) → length (turn epoch nodes before bags) ≡ length bags + size nodes
  length-turn done before bags = omega arith
  length-turn (node v rest) before bags =
      let more : Bags = emission epoch before bags v ∷ [] in
      let long : length (bags ++ more) ≡ length bags + 1 = length-append bags more in
      let whole : length (turn epoch rest before (bags ++ more)) ≡ length (bags ++ more) + size rest = length-turn rest before (bags ++ more) in
      omega arith
  length-turn (block bound body rest) before bags =
      let more : Bags = loop_bags bound body bags in
      let long : length (bags ++ more) ≡ length bags + length more = length-append bags more in
      let each : length more ≡ size body = length-loop_bags bound body bags in
      let whole : length (turn epoch rest before (bags ++ more)) ≡ length (bags ++ more) + size rest = length-turn rest before (bags ++ more) in
      omega arith

  pub turn_keeps : (nodes : Nodes) (before : Option Bags) (bags : Bags) (s : ℕ) → s < length bags → emitted (turn epoch nodes before bags) s ≡ emitted bags s
  turn_keeps done before bags s h = refl
  turn_keeps (node v rest) before bags s h =
      let more : Bags = emission epoch before bags v ∷ [] in
      let long : length (bags ++ more) ≡ length bags + 1 = length-append bags more in
      turn_keeps rest before (bags ++ more) s (omega arith) ∙ get_or_append_left bags more [] s h
  turn_keeps (block bound body rest) before bags s h =
      let more : Bags = loop_bags bound body bags in
      let long : length (bags ++ more) ≡ length bags + length more = length-append bags more in
      turn_keeps rest before (bags ++ more) s (omega arith) ∙ get_or_append_left bags more [] s h

-- bags that are those of a flow are so still when more come after them
pub ends_more : (flow : Flow) (counters : List ℕ) (bags more : Bags) (xs : List ℕ) → AllEndAs flow counters bags xs → AllEndAs flow counters (bags ++ more) xs
ends_more flow counters bags more xs h = all_map (EndsAs flow counters bags) (EndsAs flow counters (bags ++ more)) one xs h
  where
    one : (s : ℕ) → EndsAs flow counters bags s → EndsAs flow counters (bags ++ more) s
    one s e =
        let long : length (bags ++ more) ≡ length bags + length more = length-append bags more in
        let lt : s < length bags = e.0 in (omega arith, get_or_append_left bags more [] s e.0 ∙ e.1)

-- and after a turn
pub ends_later : (epoch : EpochInput) (flow : Flow) (counters : List ℕ) (nodes : Nodes) (before : Option Bags) (bags : Bags) (xs : List ℕ)
    → AllEndAs flow counters bags xs → AllEndAs flow counters (turn epoch nodes before bags) xs
ends_later epoch flow counters nodes before bags xs h = all_map (EndsAs flow counters bags) (EndsAs flow counters (turn epoch nodes before bags)) one xs h
  where
    one : (s : ℕ) → EndsAs flow counters bags s → EndsAs flow counters (turn epoch nodes before bags) s
    one s e =
        let long : length (turn epoch nodes before bags) ≡ length bags + size nodes = length-turn epoch nodes before bags in
        let lt : s < length bags = e.0 in (omega arith, turn_keeps epoch nodes before bags s e.0 ∙ e.1)
