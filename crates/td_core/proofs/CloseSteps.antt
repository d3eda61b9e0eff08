-- Inputs whose pointstamps are taken off one by one.
use Rattle.std.proofs.Common.{◌≡◌, ℕ, ◌+◌, ◌<◌, ◌≤◌, true, false, List, [], ◌∷◌, ◌++◌, map, take, drop, length, slice_index_or, refl, ap, sym, ◌∙◌, subst, arith}
use Rattle.std.proofs.lemmas.List.{map-append, take_more, take-append-drop}
use Rattle.td_calls.specs.Answers.{Answers}
use Rattle.td_reach.specs.declared.stamp.Stamp.{Stamp}
use Rattle.td_progress.specs.Bag.{occurrences, IsSameBag, input_stamp}
use Rattle.td_progress.specs.Bag.{Active}
use Rattle.td_machine.specs.Active.{active, stamp_of_message, stamp_of_asked, stamps_of_inputs, inputs_of}
use Rattle.td_machine.specs.Steps.{close_step}
use Rattle.td_machine.specs.Steps.Event.{close}
use Rattle.td_machine.specs.Steps.Answer.{has_closed}
use Rattle.td_core.specs.declared.hall.Parts.{Parts}
use Rattle.td_core.specs.Parts.{state_of, IsHall}
use Rattle.td_core.specs.Routes.{IsRoutes}
use Rattle.td_core.proofs.CollectSteps.{ReachedByStep}

-- how often a pointstamp occurs in two lists
abbrev pub CountsAppend : Type 0
CountsAppend = (p : Stamp) (xs ys : List Stamp) → occurrences p (xs ++ ys) ≡ occurrences p xs + occurrences p ys

module _ (append : CountsAppend) (epoch : ℕ) where
  -- the next input of a list
  pub one_more : (p : Stamp) (inputs : List ℕ) (i : ℕ) → i < length inputs
      → occurrences p (map (input_stamp epoch) (take (i + 1) inputs)) ≡ occurrences p (map (input_stamp epoch) (take i inputs)) + occurrences p (input_stamp epoch (slice_index_or inputs i 0) ∷ [])
  one_more p inputs i within =
      ap (occurrences p) (ap (map (input_stamp epoch)) (take_more inputs i 0 within) ∙ map-append (input_stamp epoch) (take i inputs) (slice_index_or inputs i 0 ∷ []))
      ∙ append p (map (input_stamp epoch) (take i inputs)) (input_stamp epoch (slice_index_or inputs i 0) ∷ [])

  -- a beginning occurs at most as often
  pub beginning : (p : Stamp) (inputs : List ℕ) (i : ℕ) → occurrences p (map (input_stamp epoch) (take i inputs)) ≤ occurrences p (map (input_stamp epoch) inputs)
  beginning p inputs i =
      let all = ap (λ l. occurrences p (map (input_stamp epoch) l)) (sym (take-append-drop i inputs)) in
      let two = ap (occurrences p) (map-append (input_stamp epoch) (take i inputs) (drop i inputs)) ∙ append p (map (input_stamp epoch) (take i inputs)) (map (input_stamp epoch) (drop i inputs)) in
      omega (arith, all, two)

  -- what is left when another is taken off
  pub next_off : (inputs : List ℕ) (i : ℕ) → i < length inputs → (old now left : List Stamp)
      → IsSameBag old (map (input_stamp epoch) (take i inputs) ++ now) → IsSameBag now (input_stamp epoch (slice_index_or inputs i 0) ∷ left)
      → IsSameBag old (map (input_stamp epoch) (take (i + 1) inputs) ++ left)
  next_off inputs i within old now left so_far off p =
      let x = input_stamp epoch (slice_index_or inputs i 0) in
      let before = append p (map (input_stamp epoch) (take i inputs)) now in
      let after = append p (map (input_stamp epoch) (take (i + 1) inputs)) left in
      let one = append p (x ∷ []) left in
      let more = one_more p inputs i within in
      let was = so_far p in
      let is = off p in
      omega (arith, before, after, one, more, was, is)

  -- it is there to be taken off
  pub is_there : (counts_one : (p : Stamp) → 0 < occurrences p (p ∷ [])) → (inputs : List ℕ) (i : ℕ) → i < length inputs → (old now : List Stamp)
      → ((p : Stamp) → occurrences p (map (input_stamp epoch) inputs) ≤ occurrences p old) → IsSameBag old (map (input_stamp epoch) (take i inputs) ++ now)
      → 0 < occurrences (input_stamp epoch (slice_index_or inputs i 0)) now
  is_there counts_one inputs i within old now enough so_far =
      let p = input_stamp epoch (slice_index_or inputs i 0) in
      let before = append p (map (input_stamp epoch) (take i inputs)) now in
      let more = one_more p inputs i within in
      let most = beginning p inputs (i + 1) in
      let some = counts_one p in
      let was = so_far p in
      let all = enough p in
      omega (arith, before, more, most, some, was, all)

-- A hall that is closed takes the machine's step: its table is without the inputs
module _ (append : CountsAppend) (parts : Parts) (closing : parts.closed ≡ false)
    (counted : IsSameBag parts.table.stamps (active (state_of parts)))
    (inputs : parts.inputs.items ≡ inputs_of parts.table.plan) where
  abbrev pub others : List Stamp
  others = map (stamp_of_message parts.table.plan) (state_of parts).messages ++ map stamp_of_asked (state_of parts).asked

  -- what is active beside the inputs
  pub parted : (p : Stamp) → occurrences p (active (state_of parts)) ≡ occurrences p others + occurrences p (map (input_stamp parts.next) parts.inputs.items)
  parted p =
      let on_edges = map (stamp_of_message parts.table.plan) (state_of parts).messages in
      let wanted = map stamp_of_asked (state_of parts).asked in
      let standing = ap (λ b. occurrences p (stamps_of_inputs parts.table.plan parts.next b)) closing ∙ sym (ap (λ l. occurrences p (map (input_stamp parts.next) l)) inputs) in
      let one = append p on_edges (wanted ++ stamps_of_inputs parts.table.plan parts.next parts.closed) in
      let two = append p wanted (stamps_of_inputs parts.table.plan parts.next parts.closed) in
      let both = append p on_edges wanted in
      omega (arith, standing, one, two, both)

  -- the inputs are there to be taken off
  pub enough : (p : Stamp) → occurrences p (map (input_stamp parts.next) parts.inputs.items) ≤ occurrences p parts.table.stamps
  enough p =
      let two = parted p in
      let are = counted p in
      omega (arith, two, are)

  -- with a table that is without them
  module _ (t : Active) (plan : t.plan ≡ parts.table.plan) (off : IsSameBag parts.table.stamps (map (input_stamp parts.next) parts.inputs.items ++ t.stamps)) where
    abbrev pub closed_parts : Parts
    closed_parts = record parts { table = t; closed = true }

    pub stepped : close_step (state_of parts) ≡ (has_closed, state_of closed_parts)
    stepped = λ i. (has_closed, record (state_of parts) { plan = sym plan i; closed = true })

    still_counted : IsSameBag t.stamps (active (record (state_of parts) { closed = true }))
    still_counted p =
        let are = counted p in
        let two = parted p in
        let gone = off p ∙ append p (map (input_stamp parts.next) parts.inputs.items) t.stamps in
        let on_edges = map (stamp_of_message parts.table.plan) (state_of parts).messages in
        let wanted = map stamp_of_asked (state_of parts).asked in
        let both = append p on_edges wanted in
        let end = append p on_edges (wanted ++ []) in
        let none = append p wanted [] in
        let zero : occurrences p [] ≡ 0 = refl in
        omega (arith, are, two, gone, both, end, none, zero)

    pub counted_then : IsSameBag t.stamps (active (state_of closed_parts))
    counted_then = subst (λ S. IsSameBag t.stamps (active S)) (λ i. record (state_of parts) { plan = sym plan i; closed = true }) still_counted

module _ (answers : Answers) (append : CountsAppend) (steps : ReachedByStep answers) (parts : Parts) (closing : parts.closed ≡ false) (t : Active) (plan : t.plan ≡ parts.table.plan)
    (inv : IsHall answers parts)
    (off : IsSameBag parts.table.stamps (map (input_stamp parts.next) parts.inputs.items ++ t.stamps)) where
  pub closes : IsHall answers (record parts { table = t; closed = true })
  closes = record {
    reached = steps (state_of parts) (state_of (record parts { table = t; closed = true })) close has_closed inv.reached (stepped append parts closing inv.counted inv.inputs t plan off);
    counted = counted_then append parts closing inv.counted inv.inputs t plan off;
    inputs = inv.inputs ∙ ap inputs_of (sym plan);
    shards = inv.shards;
    few = inv.few;
    next = inv.next;
    routes = subst (λ p. IsRoutes p parts.routes) (sym plan) inv.routes;
  }
