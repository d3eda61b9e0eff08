-- What becomes of the states that an epoch asks for is all that it makes of its states, and all that depends on them.
use Rattle.std.proofs.Common.{◌≡◌, ℕ, ◌+◌, ◌<◌, Bool, true, false, List, [], ◌∷◌, ◌++◌, map, flat_map, fold, length, length-append, Option, Some, None, refl, ap, sym, ◌∙◌, subst, arith}
use Rattle.std.specs.List.{AllByRecursion}
use Rattle.std.proofs.lemmas.List.{length_push, get_or_append_left}
use Rattle.td_stamp.specs.declared.values.Rec.{Rec}
use Rattle.td_stamp.specs.declared.values.Item.{Item}
use Rattle.td_stamp.specs.declared.values.State.{State}
use Rattle.td_stamp.specs.declared.values.Arrival.{Arrival}
use Rattle.td_stamp.specs.Orders.{rec_cmp, output_cmp}
use Rattle.td_stamp.specs.Bag.{bag_of}
use Rattle.td_stamp.specs.Groups.{groups}
use Rattle.td_stamp.specs.States.{StateList, state_of}
use Rattle.td_plan.specs.declared.vertex.Kind.{Kind}
use Rattle.td_plan.specs.declared.vertex.Kind.TheVariants.{Input, Map, Distinct, Group, Fold, Enter, Feedback, Leave, Output}
use Rattle.td_plan.specs.Lines.{Vertex}
use Rattle.td_plan.specs.Blocks.{PlacedVertex}
use Rattle.td_plan.specs.Tree.{Nodes, size, placed_in}
use Rattle.td_plan.specs.Tree.Nodes.{done, node, block}
use Rattle.td_plan.specs.Placed.{IsPlacedTree}
use Rattle.td_plan.specs.Standing.{may_stand, StandsWell}
use Rattle.td_calls.specs.declared.error.CallsError.{CallsError}
use Rattle.td_calls.specs.declared.error.CallsError.TheVariants.{NoCall}
use Rattle.td_calls.specs.Fits.{lacking_code, first_lack}
use Rattle.td_calls.specs.Callbacks.{arrivals, on_notification}
use Rattle.td_calls.specs.Stored.{Codes}
use Rattle.td_batch.specs.declared.changes.Change.{Change}
use Rattle.td_batch.specs.Meaning.{EpochInput, Bags, emitted, answer, emission, bags_read, turn, turns, over_turns, epoch_result, outputs_in, with_kept, states_by, states_in}
use Rattle.td_batch.specs.Changes.{changes_by, changes_from, epoch_changes, with_change, from_states, AgreeAt}
use Rattle.td_batch.specs.Steps.Epoch.{IsOuter}
use Rattle.td_batch.proofs.Lists.{all_left, all_right, map_alike}
use Rattle.td_batch.proofs.Turns.{turn_keeps, loop_bags, length-loop_bags}
use Rattle.td_batch.proofs.Outer.{tree_is_outer}

-- what is kept by changes one after the other
fold_append : (states : StateList) (xs ys : List Change) → fold with_change states (xs ++ ys) ≡ fold with_change (fold with_change states xs) ys
fold_append states [] ys = refl
fold_append states (x ∷ xs) ys = fold_append (with_change states x) xs ys

-- the changes of a vertex are those that the definition makes
changes_are : (epoch : EpochInput) (v : Vertex) (kind : Kind) (arrived : List Arrival) (states : StateList)
    → fold with_change states (changes_by epoch.answers (state_of epoch.states v.number) v.number kind arrived) ≡ states_by epoch v kind arrived states
changes_are epoch v (Fold code) arrived states = each (groups arrived) states
  where
    each : (gs : List (ℕ × List Item)) (kept : StateList)
        → fold with_change kept (map (λ g. record { vertex = v.number; key = g.0; state = (epoch.answers.fold code g.0 (state_of epoch.states v.number g.0) g.1).0 }) gs)
        ≡ fold (λ k g. with_kept k v.number g.0 (on_notification epoch.answers (Fold code) g.0 (state_of epoch.states v.number g.0) g.1).0) kept gs
    each [] kept = refl
    each (g ∷ gs) kept = each gs (with_kept kept v.number g.0 (epoch.answers.fold code g.0 (state_of epoch.states v.number g.0) g.1).0)
changes_are epoch v Input arrived states = refl
changes_are epoch v (Map code) arrived states = refl
changes_are epoch v Distinct arrived states = refl
changes_are epoch v (Group code) arrived states = refl
changes_are epoch v Enter arrived states = refl
changes_are epoch v Feedback arrived states = refl
changes_are epoch v Leave arrived states = refl
changes_are epoch v Output arrived states = refl

-- WHAT IS KEPT: the changes of all vertices are what the definition makes of the states
kept_from : (epoch : EpochInput) (stored : Codes) (nodes : Nodes) (bags : Bags) (states : StateList) → IsOuter stored (length bags) nodes
    → fold with_change states (changes_from epoch nodes bags) ≡ states_in epoch (emitted (turn epoch nodes None bags)) nodes states
kept_from epoch stored done bags states lawful = refl
kept_from epoch stored (node v rest) bags states lawful =
    fold_append states (here (emitted bags)) (changes_from epoch rest more)
    ∙ ap (λ s. fold with_change s (changes_from epoch rest more)) (changes_are epoch v v.kind (arrivals (map (emitted bags) v.sources)) states)
    ∙ kept_from epoch stored rest more (states_by epoch v v.kind (arrivals (map (emitted bags) v.sources)) states) (subst (λ n. IsOuter stored n rest) (sym longer) lawful.2)
    ∙ ap (λ bs. states_in epoch last rest (states_by epoch v v.kind (arrivals bs) states)) (map_alike (emitted bags) last v.sources (read_last v.sources lawful.1))
  where
    here : (ℕ → List Rec) → List Change
    here bag = changes_by epoch.answers (state_of epoch.states v.number) v.number v.kind (arrivals (map bag v.sources))

    more : Bags
    more = bags ++ emission epoch None bags v ∷ []

    longer : length more ≡ length bags + 1
    longer = length_push bags (emission epoch None bags v)

    last : ℕ → List Rec
    last = emitted (turn epoch rest None more)

    read_last : (sources : List ℕ) → AllByRecursion (λ s. s < length bags) sources → AllByRecursion (λ s. emitted bags s ≡ last s) sources
    read_last [] b = tt
    read_last (s ∷ sources) b =
        let l : s < length bags = b.0 in
        let long : length more ≡ length bags + 1 = longer in
        let stays : last s ≡ emitted bags s = turn_keeps epoch rest None more s (omega (arith, l, long)) ∙ get_or_append_left bags (emission epoch None bags v ∷ []) [] s l in
        (sym stays, read_last sources b.1)
kept_from epoch stored (block bound body rest) bags states lawful =
    kept_from epoch stored rest (bags ++ loop_bags epoch bound body bags) states
    (subst (λ n. IsOuter stored n rest) (sym (length-append bags (loop_bags epoch bound body bags) ∙ ap (λ n. length bags + n) (length-loop_bags epoch bound body bags))) lawful.3)

pub changes_are_kept : (epoch : EpochInput) (stored : Codes) (nodes : Nodes) → IsOuter stored 0 nodes
    → fold with_change epoch.states (epoch_changes epoch nodes) ≡ (epoch_result epoch nodes).states
changes_are_kept epoch stored nodes lawful = kept_from epoch stored nodes [] epoch.states lawful

-- THE SAME FROM OTHER STATES
module _ (epoch : EpochInput) (others : StateList) where
  abbrev other : EpochInput
  other = from_states epoch others

  -- a vertex that is no fold asks for no state
  answer_elsewhere : (v : ℕ) (kind : Kind) (arrived : List Arrival) → may_stand true kind ≡ true → answer other v kind arrived ≡ answer epoch v kind arrived
  answer_elsewhere v Input arrived h = refl
  answer_elsewhere v (Map code) arrived h = refl
  answer_elsewhere v Distinct arrived h = refl
  answer_elsewhere v (Group code) arrived h = refl
  answer_elsewhere v (Fold code) arrived h = absurd (cc)
  answer_elsewhere v Enter arrived h = refl
  answer_elsewhere v Feedback arrived h = refl
  answer_elsewhere v Leave arrived h = refl
  answer_elsewhere v Output arrived h = refl

  turn_elsewhere : (nodes : Nodes) (before : Option Bags) (bags : Bags) → StandsWell true nodes → turn other nodes before bags ≡ turn epoch nodes before bags
  turn_elsewhere done before bags s = refl
  turn_elsewhere (node v rest) before bags s =
      turn_elsewhere rest before (bags ++ emission other before bags v ∷ []) s.1
      ∙ ap (λ e. turn epoch rest before (bags ++ e ∷ [])) (answer_elsewhere v.number v.kind (arrivals (map (emitted (bags_read v.kind before bags)) v.sources)) s.0)
  turn_elsewhere (block bound body rest) before bags s =
      let loops : loop_bags other bound body bags ≡ loop_bags epoch bound body bags =
      λ i. over_turns (turns (λ earlier. turn_elsewhere body earlier bags s.2 i) bound None) (length bags) (size body) in
      turn_elsewhere rest before (bags ++ loop_bags other bound body bags) s.3 ∙ ap (λ more. turn epoch rest before (bags ++ more)) loops

  loops_elsewhere : (bound : ℕ) (body : Nodes) (bags : Bags) → StandsWell true body → loop_bags other bound body bags ≡ loop_bags epoch bound body bags
  loops_elsewhere bound body bags s = λ i. over_turns (turns (λ earlier. turn_elsewhere body earlier bags s i) bound None) (length bags) (size body)

  -- a fold answers the same where the states of its keys are the same
  module _ (code v : ℕ) where
    abbrev of_key : StateList → ℕ × List Item → Option State × List Rec
    of_key states g = epoch.answers.fold code g.0 (state_of states v g.0) g.1

    abbrev change_of : StateList → ℕ × List Item → Change
    change_of states g = record { vertex = v; key = g.0; state = (of_key states g).0 }

    folds_alike : (gs : List (ℕ × List Item)) → AgreeAt (map (change_of epoch.states) gs) epoch.states others
        → (flat_map (λ g. (of_key others g).1) gs ≡ flat_map (λ g. (of_key epoch.states g).1) gs) × (map (change_of others) gs ≡ map (change_of epoch.states) gs)
    folds_alike [] h = (refl, refl)
    folds_alike (g ∷ gs) h =
        let each = folds_alike gs h.1 in
        let is : of_key others g ≡ of_key epoch.states g = ap (λ state. epoch.answers.fold code g.0 state g.1) h.0 in (
          (λ i. (is i).1 ++ each.0 i),
          (λ i. record { vertex = v; key = g.0; state = (is i).0 } ∷ each.1 i),
        )

  -- so does a vertex
  answers_alike : (v : ℕ) (kind : Kind) (arrived : List Arrival) → AgreeAt (changes_by epoch.answers (state_of epoch.states v) v kind arrived) epoch.states others
      → (answer other v kind arrived ≡ answer epoch v kind arrived)
      × (changes_by epoch.answers (state_of others v) v kind arrived ≡ changes_by epoch.answers (state_of epoch.states v) v kind arrived)
  answers_alike v (Fold code) arrived h = let each = folds_alike code v (groups arrived) h in (ap (bag_of rec_cmp) each.0, each.1)
  answers_alike v Input arrived h = (refl, refl)
  answers_alike v (Map code) arrived h = (refl, refl)
  answers_alike v Distinct arrived h = (refl, refl)
  answers_alike v (Group code) arrived h = (refl, refl)
  answers_alike v Enter arrived h = (refl, refl)
  answers_alike v Feedback arrived h = (refl, refl)
  answers_alike v Leave arrived h = (refl, refl)
  answers_alike v Output arrived h = (refl, refl)

  emission_alike : (v : Vertex) (bags : Bags) → AgreeAt (changes_by epoch.answers (state_of epoch.states v.number) v.number v.kind (arrivals (map (emitted bags) v.sources))) epoch.states others
      → emission other None bags v ≡ emission epoch None bags v
  emission_alike v bags h = by v.kind h
    where
      by : (k : Kind) → AgreeAt (changes_by epoch.answers (state_of epoch.states v.number) v.number k (arrivals (map (emitted bags) v.sources))) epoch.states others
          → answer other v.number k (arrivals (map (emitted (bags_read k None bags)) v.sources)) ≡ answer epoch v.number k (arrivals (map (emitted (bags_read k None bags)) v.sources))
      by (Fold code) a = (answers_alike v.number (Fold code) (arrivals (map (emitted bags) v.sources)) a).0
      by Input a = refl
      by (Map code) a = refl
      by Distinct a = refl
      by (Group code) a = refl
      by Enter a = refl
      by Feedback a = refl
      by Leave a = refl
      by Output a = refl

  -- and all vertices outside loops
  from_alike : (nodes : Nodes) (bags : Bags) → StandsWell false nodes → AgreeAt (changes_from epoch nodes bags) epoch.states others
      → (turn other nodes None bags ≡ turn epoch nodes None bags) × (changes_from other nodes bags ≡ changes_from epoch nodes bags)
  from_alike done bags s h = (refl, refl)
  from_alike (node v rest) bags s h =
      let arrived : List Arrival = arrivals (map (emitted bags) v.sources) in
      let now : List Change = changes_by epoch.answers (state_of epoch.states v.number) v.number v.kind arrived in
      let then : List Change = changes_from epoch rest (bags ++ emission epoch None bags v ∷ []) in
      let agree : AgreeAt now epoch.states others = all_left (λ c. state_of others c.vertex c.key ≡ state_of epoch.states c.vertex c.key) now then h in
      let sent : emission other None bags v ≡ emission epoch None bags v = emission_alike v bags agree in
      let later = from_alike rest (bags ++ emission epoch None bags v ∷ []) s.1 (all_right (λ c. state_of others c.vertex c.key ≡ state_of epoch.states c.vertex c.key) now then h) in (
        ap (λ e. turn other rest None (bags ++ e ∷ [])) sent ∙ later.0,
        (λ i. (answers_alike v.number v.kind arrived agree).1 i ++ changes_from other rest (bags ++ sent i ∷ [])) ∙ ap (λ cs. now ++ cs) later.1,
      )
  from_alike (block bound body rest) bags s h =
      let loops : loop_bags other bound body bags ≡ loop_bags epoch bound body bags = loops_elsewhere bound body bags s.2 in
      let later = from_alike rest (bags ++ loop_bags epoch bound body bags) s.3 h in
      (ap (λ more. turn other rest None (bags ++ more)) loops ∙ later.0, ap (λ more. changes_from other rest (bags ++ more)) loops ∙ later.1)

  epoch_alike : (nodes : Nodes) → StandsWell false nodes → ((stored : Codes) × IsOuter stored 0 nodes) → AgreeAt (epoch_changes epoch nodes) epoch.states others
      → ((epoch_result other nodes).outs ≡ (epoch_result epoch nodes).outs) × ((epoch_result other nodes).states ≡ fold with_change others (epoch_changes epoch nodes))
  epoch_alike nodes s outer h =
      let is = from_alike nodes [] s h in (
        ap (λ bags. bag_of output_cmp (outputs_in (emitted bags) nodes)) is.0,
        sym (changes_are_kept other outer.0 nodes outer.1) ∙ ap (fold with_change others) is.1,
      )

-- closures of all codes are stored for every plan
abbrev all_codes : Codes
all_codes = record { map = λ _. true; group = λ _. true; fold = λ _. true }

no_lack : (kind : Kind) → lacking_code all_codes kind ≡ None
no_lack (Map code) = refl
no_lack (Group code) = refl
no_lack (Fold code) = refl
no_lack Input = refl
no_lack Distinct = refl
no_lack Enter = refl
no_lack Feedback = refl
no_lack Leave = refl
no_lack Output = refl

all_fit : (ps : List PlacedVertex) → first_lack all_codes ps ≡ None
all_fit [] = refl
all_fit (p ∷ ps) = step (lacking_code all_codes p.vertex.kind) (no_lack p.vertex.kind) (all_fit ps)
  where
    step : (o : Option ℕ) → o ≡ None → first_lack all_codes ps ≡ None
        → ◌≡◌ {A = Option CallsError} (elim o [ None ↦ first_lack all_codes ps | Some code ↦ Some (NoCall p.vertex.number code) ]) None
    step None e rest = rest
    step (Some code) e rest = absurd (cc)

pub placed_alike : (epoch : EpochInput) (others : StateList) (nodes : Nodes) → IsPlacedTree nodes → StandsWell false nodes → AgreeAt (epoch_changes epoch nodes) epoch.states others
    → ((epoch_result (from_states epoch others) nodes).outs ≡ (epoch_result epoch nodes).outs) × ((epoch_result (from_states epoch others) nodes).states ≡ fold with_change others (epoch_changes epoch nodes))
placed_alike epoch others nodes placed stands h =
    epoch_alike epoch others nodes stands
    (all_codes, tree_is_outer all_codes nodes placed stands (all_fit (placed_in [] 0 nodes)))
    h
