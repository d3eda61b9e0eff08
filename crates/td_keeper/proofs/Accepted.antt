-- What the journal has as a batch, the plan accepts.
use Rattle.std.proofs.Common.{◌≡◌, ℕ, suc, ◌==◌, Bool, true, false, ◌&&◌, ◌||◌, cond, List, [], ◌∷◌, map, filter, slice_get, Option, Some, None, refl, sym, ap, ◌∙◌, arith, true≢false}
use Rattle.std.specs.List.{list_all, list_any}
use Rattle.td_stamp.specs.declared.values.Entry.{Entry}
use Rattle.td_plan.specs.Lines.{Line}
use Rattle.td_plan.specs.Blocks.{PlacedVertex, vertices}
use Rattle.td_plan.specs.Faults.{is_input}
use Rattle.td_plan.specs.LookedUp.{IsLookedUp}
use Rattle.td_plan.specs.Inputs.{is_input_of}
use Rattle.td_journal.specs.Cell.{is_batch}
use Rattle.td_machine.specs.Steps.{accepts}
use Rattle.td_store.specs.standing.Told.{inputs_of}

both : (a b : Bool) → (a && b) ≡ true → (a ≡ true) × (b ≡ true)
both true b e = (refl, e)
both false b e = absurd (true≢false (sym e))

and_of : (a b : Bool) → a ≡ true → b ≡ true → (a && b) ≡ true
and_of a b e f = ap (λ x. x && b) e ∙ f

same_number : (a b : ℕ) → (a == b) ≡ true → a ≡ b
same_number a b h = grind (arith, h)

-- one of these vertices is an input of this number
named : (ps : List PlacedVertex) (n : ℕ) → list_any (λ v. v == n) (map (λ p. p.vertex.number) (filter (λ p. is_input p.vertex.kind) ps)) ≡ true
    → (i : ℕ) × (p : PlacedVertex) × (slice_get ps i ≡ Some p) × (is_input p.vertex.kind ≡ true) × (p.vertex.number ≡ n)
named [] n h = absurd (true≢false (sym h))
named (p ∷ ps) n h = by (is_input p.vertex.kind) refl h (named ps n)
  where
    rest : List ℕ
    rest = map (λ q. q.vertex.number) (filter (λ q. is_input q.vertex.kind) ps)

    later : ((i : ℕ) × (q : PlacedVertex) × (slice_get ps i ≡ Some q) × (is_input q.vertex.kind ≡ true) × (q.vertex.number ≡ n))
        → (i : ℕ) × (q : PlacedVertex) × (slice_get (p ∷ ps) i ≡ Some q) × (is_input q.vertex.kind ≡ true) × (q.vertex.number ≡ n)
    later there = (suc there.0, there.1, there.2, there.3, there.4)

    here_or : (b : Bool) → (p.vertex.number == n) ≡ b → is_input p.vertex.kind ≡ true → (b || list_any (λ v. v == n) rest) ≡ true
        → (list_any (λ v. v == n) rest ≡ true → (i : ℕ) × (q : PlacedVertex) × (slice_get ps i ≡ Some q) × (is_input q.vertex.kind ≡ true) × (q.vertex.number ≡ n))
        → (i : ℕ) × (q : PlacedVertex) × (slice_get (p ∷ ps) i ≡ Some q) × (is_input q.vertex.kind ≡ true) × (q.vertex.number ≡ n)
    here_or true e input h more = (0, p, refl, input, same_number p.vertex.number n e)
    here_or false e input h more = later (more h)

    by : (b : Bool) → is_input p.vertex.kind ≡ b
        → list_any (λ v. v == n) (map (λ q. q.vertex.number) (cond b (p ∷ filter (λ q. is_input q.vertex.kind) ps) (filter (λ q. is_input q.vertex.kind) ps))) ≡ true
        → (list_any (λ v. v == n) rest ≡ true → (i : ℕ) × (q : PlacedVertex) × (slice_get ps i ≡ Some q) × (is_input q.vertex.kind ≡ true) × (q.vertex.number ≡ n))
        → (i : ℕ) × (q : PlacedVertex) × (slice_get (p ∷ ps) i ≡ Some q) × (is_input q.vertex.kind ≡ true) × (q.vertex.number ≡ n)
    by true e h more = here_or (p.vertex.number == n) refl e h more
    by false e h more = later (more h)

module _ (plan : List Line) (looked_up : (v : ℕ) (p : PlacedVertex) → slice_get (vertices plan) v ≡ Some p → IsLookedUp plan v p) where
  is_named : (n : ℕ) → list_any (λ v. v == n) (inputs_of plan) ≡ true → is_input_of plan n ≡ true
  is_named n h =
      let at = named (vertices plan) n h in
      let number : at.0 ≡ n = sym (looked_up at.0 at.1 at.2).number ∙ at.4 in
      let there : slice_get (vertices plan) n ≡ Some at.1 = ap (slice_get (vertices plan)) (sym number) ∙ at.2 in
      ap (λ (o : Option PlacedVertex). elim o [ None ↦ false | Some p ↦ is_input p.vertex.kind ]) there ∙ at.3

  all_named : (batch : List Entry) → list_all (λ e. list_any (λ v. v == e.input) (inputs_of plan)) batch ≡ true → accepts plan batch ≡ true
  all_named [] h = refl
  all_named (e ∷ batch) h =
      let two = both (list_any (λ v. v == e.input) (inputs_of plan)) (list_all (λ d. list_any (λ v. v == d.input) (inputs_of plan)) batch) h in
      and_of (is_input_of plan e.input) (accepts plan batch) (is_named e.input two.0) (all_named batch two.1)

  pub accepted : (batch : List Entry) → is_batch (inputs_of plan) batch ≡ true → accepts plan batch ≡ true
  accepted batch h = all_named batch (both (list_all (λ e. list_any (λ v. v == e.input) (inputs_of plan)) batch) _ h).0
