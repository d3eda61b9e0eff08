-- A turn into which nothing enters and nothing comes back emits nothing, where no vertex is an input.
use Rattle.std.proofs.Common.{◌≡◌, ℕ, zero, suc, ◌+◌, ◌<◌, ◌≤◌, false, List, [], ◌∷◌, ◌++◌, map, flat_map, length, Option, Some, None, refl, ap, sym, ◌∙◌, subst, arith, length-append}
use Rattle.std.specs.List.{AllByRecursion, enumerate_from}
use Rattle.td_stamp.specs.declared.values.Rec.{Rec}
use Rattle.td_stamp.specs.Orders.{rec_cmp}
use Rattle.td_stamp.specs.Bag.{bag_of}
use Rattle.td_stamp.specs.Groups.{arrival_of}
use Rattle.td_plan.specs.declared.vertex.Kind.{Kind}
use Rattle.td_plan.specs.declared.vertex.Kind.TheVariants.{Input, Map, Distinct, Group, Fold, Enter, Feedback, Leave, Output}
use Rattle.td_plan.specs.Lines.{Vertex}
use Rattle.td_plan.specs.Faults.{is_input}
use Rattle.td_plan.specs.Tree.{Nodes, size}
use Rattle.td_plan.specs.Tree.Nodes.{done, node, block}
use Rattle.td_plan.specs.Placed.{read_in}
use Rattle.td_batch.specs.Meaning.{EpochInput, Bags, emitted, answer, entered, returned, bags_read, emission, turns, over_turns, turn}
use Rattle.td_batch.specs.Quiet.{HasNoInputs, fed_back_by, fed_back, entered_by, entered_from, NothingEnters, NothingReturns, IsLoopBody}
use Rattle.td_batch.proofs.Lists.{all_append, all_left, all_right, all_map}
use Rattle.td_batch.proofs.Turns.{length-over_turns, loop_bags}
use Rattle.td_batch.proofs.Ranges.{AllIn, AreSources, IsRanged, block_range, ranged}

-- where no source has records, none arrive
no_arrivals : (bag : ℕ → List Rec) (port : ℕ) (sources : List ℕ) → AllByRecursion (λ s. bag s ≡ []) sources
    → flat_map (λ b. map (arrival_of b.0) b.1) (enumerate_from port (map bag sources)) ≡ []
no_arrivals bag port [] h = refl
no_arrivals bag port (s ∷ sources) h = λ i. map (arrival_of port) (h.0 i) ++ no_arrivals bag (port + 1) sources h.1 i

-- and then nothing is sent
pub no_answer : (epoch : EpochInput) (v : ℕ) (kind : Kind) → is_input kind ≡ false → answer epoch v kind [] ≡ []
no_answer epoch v Input e = absurd (cc)
no_answer epoch v (Map code) e = refl
no_answer epoch v Distinct e = refl
no_answer epoch v (Group code) e = refl
no_answer epoch v (Fold code) e = refl
no_answer epoch v Enter e = refl
no_answer epoch v Feedback e = refl
no_answer epoch v Leave e = refl
no_answer epoch v Output e = refl

-- bags to which nothing is added
append_none : (bags more : Bags) (s : ℕ) → emitted bags s ≡ [] → ((i : ℕ) → emitted more i ≡ []) → emitted (bags ++ more) s ≡ []
append_none [] more s e h = h s
append_none (b ∷ bags) more zero e h = e
append_none (b ∷ bags) more (suc s) e h = append_none bags more s e h

push_none : (bag : List Rec) → bag ≡ [] → (i : ℕ) → emitted (bag ∷ []) i ≡ []
push_none bag e zero = e
push_none bag e (suc i) = refl

-- the sources of a vertex have nothing, where this is so of what enters, of what returns, and of the block so far
quiet_sources : (v : Vertex) (kind : Kind) (outer first total n : ℕ) (before : Option Bags) (bags : Bags) → is_input kind ≡ false → AreSources outer first total n kind v.sources
    → AllByRecursion (λ s. emitted (entered before bags) s ≡ []) (entered_by v kind) → ((s : ℕ) → first ≤ s → emitted bags s ≡ [])
    → AllByRecursion (λ s. emitted (returned before) s ≡ []) (fed_back_by v kind) → AllByRecursion (λ s. emitted (bags_read kind before bags) s ≡ []) v.sources
quiet_sources v Input outer first total n before bags i r enters so_far back = absurd (cc)
quiet_sources v Enter outer first total n before bags i r enters so_far back = enters
quiet_sources v Feedback outer first total n before bags i r enters so_far back = back
quiet_sources v (Map code) outer first total n before bags i r enters so_far back = all_map (λ s. (first ≤ s) × (s < n)) (λ s. emitted bags s ≡ []) (λ s b. so_far s b.0) v.sources r
quiet_sources v Distinct outer first total n before bags i r enters so_far back = all_map (λ s. (first ≤ s) × (s < n)) (λ s. emitted bags s ≡ []) (λ s b. so_far s b.0) v.sources r
quiet_sources v (Group code) outer first total n before bags i r enters so_far back = all_map (λ s. (first ≤ s) × (s < n)) (λ s. emitted bags s ≡ []) (λ s b. so_far s b.0) v.sources r
quiet_sources v (Fold code) outer first total n before bags i r enters so_far back = all_map (λ s. (first ≤ s) × (s < n)) (λ s. emitted bags s ≡ []) (λ s b. so_far s b.0) v.sources r
quiet_sources v Leave outer first total n before bags i r enters so_far back = all_map (λ s. (first ≤ s) × (s < n)) (λ s. emitted bags s ≡ []) (λ s b. so_far s b.0) v.sources r
quiet_sources v Output outer first total n before bags i r enters so_far back = all_map (λ s. (first ≤ s) × (s < n)) (λ s. emitted bags s ≡ []) (λ s b. so_far s b.0) v.sources r

both_in : (low high : ℕ) (xs ys : List ℕ) → AllIn low high xs → AllIn low high ys → AllIn low high (xs ++ ys)
both_in low high xs ys a b = all_append (λ s. (low ≤ s) × (s < high)) xs ys a b

fed_here : (v : Vertex) (kind : Kind) (outer first total n : ℕ) → AreSources outer first total n kind v.sources → AllIn first total (fed_back_by v kind)
fed_here v Feedback outer first total n r = r
fed_here v _ outer first total n r = tt

entered_here : (v : Vertex) (kind : Kind) (outer first total n : ℕ) → AreSources outer first total n kind v.sources → AllIn outer first (entered_by v kind)
entered_here v Enter outer first total n r = r
entered_here v _ outer first total n r = tt

-- the feedbacks of a block have their sources in it, and its enters before it
pub fed_back_in : (nodes : Nodes) (outer first total n : ℕ) → IsRanged outer first total n nodes → AllIn first total (fed_back nodes)
fed_back_in done outer first total n p = tt
fed_back_in (node v rest) outer first total n p =
    both_in first total (fed_back_by v v.kind) (fed_back rest) (fed_here v v.kind outer first total n p.1) (fed_back_in rest outer first total (n + 1) p.2)
fed_back_in (block bound body rest) outer first total n p = fed_back_in rest outer first total (n + size body) p.1

pub entered_in : (nodes : Nodes) (outer first total n : ℕ) → IsRanged outer first total n nodes → AllIn outer first (entered_from nodes)
entered_in done outer first total n p = tt
entered_in (node v rest) outer first total n p =
    both_in outer first (entered_by v v.kind) (entered_from rest) (entered_here v v.kind outer first total n p.1) (entered_in rest outer first total (n + 1) p.2)
entered_in (block bound body rest) outer first total n p = entered_in rest outer first total (n + size body) p.1

enters_more : (before : Option Bags) (bags more : Bags) (xs : List ℕ) → ((i : ℕ) → emitted more i ≡ [])
    → AllByRecursion (λ s. emitted (entered before bags) s ≡ []) xs → AllByRecursion (λ s. emitted (entered before (bags ++ more)) s ≡ []) xs
enters_more None bags more xs none h = all_map (λ s. emitted bags s ≡ []) (λ s. emitted (bags ++ more) s ≡ []) (λ s e. append_none bags more s e none) xs h
enters_more (Some earlier) bags more xs none h = h

none_over : (each : List Bags) (v n : ℕ) → ((t : ℕ) → v ≤ t → flat_map (λ bs. emitted bs t) each ≡ []) → (i : ℕ) → emitted (over_turns each v n) i ≡ []
none_over each v zero h i = refl
none_over each v (suc n) h zero = ap (bag_of rec_cmp) (h v (omega arith))
none_over each v (suc n) h (suc i) = none_over each (v + 1) n (λ t g. h t (omega arith)) i

pub nothing_yet : (xs : List ℕ) → AllByRecursion (λ t. emitted (returned None) t ≡ []) xs
nothing_yet [] = tt
nothing_yet (x ∷ xs) = (refl, nothing_yet xs)

pub past_end : (xs : Bags) (s : ℕ) → length xs ≤ s → emitted xs s ≡ []
past_end [] s g = refl
past_end (x ∷ xs) zero g = absurd (omega arith)
past_end (x ∷ xs) (suc s) g = past_end xs s (omega arith)

-- the numbers of the sources in the body of a loop
pub body_range : (body : Nodes) (outer : List ℕ) (n : ℕ) → IsLoopBody outer n body → IsRanged 0 n (n + size body) n body
body_range body outer n is =
    ranged body (read_in body) outer [] 0 n (n + size body) n (omega arith) (block_range body (read_in body) outer [] n (n + size body) (omega arith) is.1)
    (all_map (λ s. s < n) (λ s. (0 ≤ s) × (s < n)) (λ s l. (omega arith, l)) outer is.0) tt is.1

module _ (epoch : EpochInput) where
  -- turns of which each is quiet where nothing comes back
  quiet_turns : (body : Nodes) (bags : Bags) (n : ℕ) → AllByRecursion (λ s. n ≤ s) (fed_back body)
      → ((before : Option Bags) → NothingReturns before body → (s : ℕ) → n ≤ s → emitted (turn epoch body before bags) s ≡ [])
      → (count : ℕ) (before : Option Bags) → NothingReturns before body → (s : ℕ) → n ≤ s → flat_map (λ bs. emitted bs s) (turns (λ earlier. turn epoch body earlier bags) count before) ≡ []
  quiet_turns body bags n low quiet zero before back s h = refl
  quiet_turns body bags n low quiet (suc count) before back s h =
      let now : Bags = turn epoch body before bags in
      let next : NothingReturns (Some now) body = all_map (λ t. n ≤ t) (λ t. emitted now t ≡ []) (λ t l. quiet before back t l) (fed_back body) low in
      λ i. quiet before back s h i ++ quiet_turns body bags n low quiet count (Some now) next s h i

  pub quiet : (nodes : Nodes) (outer first total : ℕ) (before : Option Bags) (bags : Bags) → first ≤ length bags → IsRanged outer first total (length bags) nodes → HasNoInputs nodes
      → NothingEnters before bags nodes → ((s : ℕ) → first ≤ s → emitted bags s ≡ []) → NothingReturns before nodes
      → (s : ℕ) → first ≤ s → emitted (turn epoch nodes before bags) s ≡ []
  quiet done outer first total before bags l r none enters so_far back s h = so_far s h
  quiet (node v rest) outer first total before bags l r none enters so_far back s h =
      let sent : List Rec = emission epoch before bags v in
      let long : length (bags ++ sent ∷ []) ≡ length bags + 1 = length-append bags (sent ∷ []) in
      let empty : sent ≡ [] =
      ap (answer epoch v.number v.kind)
      (no_arrivals (emitted (bags_read v.kind before bags)) 0 v.sources (quiet_sources v v.kind outer first total (length bags) before bags none.0 r.1 (all_left (λ t. emitted (entered before bags) t ≡ []) (entered_by v v.kind) (entered_from rest) enters) so_far
      (all_left (λ t. emitted (returned before) t ≡ []) (fed_back_by v v.kind) (fed_back rest) back)))
      ∙ no_answer epoch v.number v.kind none.0 in
      quiet rest outer first total before (bags ++ sent ∷ []) (omega arith) (subst (λ n. IsRanged outer first total n rest) (sym long) r.2) none.1
      (enters_more before bags (sent ∷ []) (entered_from rest) (push_none sent empty) (all_right (λ t. emitted (entered before bags) t ≡ []) (entered_by v v.kind) (entered_from rest) enters))
      (λ t g. append_none bags (sent ∷ []) t (so_far t g) (push_none sent empty)) (all_right (λ t. emitted (returned before) t ≡ []) (fed_back_by v v.kind) (fed_back rest) back) s h
  quiet (block bound body rest) outer first total before bags l r none enters so_far back s h =
      let n = length bags in
      let more : Bags = loop_bags epoch bound body bags in
      let count : length more ≡ size body = length-over_turns (turns (λ earlier. turn epoch body earlier bags) bound None) n (size body) in
      let long : length (bags ++ more) ≡ n + size body = length-append bags more ∙ ap (λ m. n + m) count in
      let low : AllByRecursion (λ t. n ≤ t) (fed_back body) = all_map (λ t. (n ≤ t) × (t < n + size body)) (λ t. n ≤ t) (λ t b. b.0) (fed_back body) (fed_back_in body first n (n + size body) n r.0) in
      let inner : (earlier : Option Bags) → NothingReturns earlier body → (t : ℕ) → n ≤ t → emitted (turn epoch body earlier bags) t ≡ [] =
      λ earlier returns t g. quiet body first n (n + size body) earlier bags (omega arith) r.0 none.0 (enters_inside earlier) (λ u k. so_far u (omega arith)) returns t g in
      let empty : (i : ℕ) → emitted more i ≡ [] = none_over (turns (λ earlier. turn epoch body earlier bags) bound None) n (size body) (λ t g. quiet_turns body bags n low inner bound None (nothing_yet (fed_back body)) t g) in
      quiet rest outer first total before (bags ++ more) (omega arith) (subst (λ m. IsRanged outer first total m rest) (sym long) r.1) none.1 (enters_more before bags more (entered_from rest) empty enters)
      (λ t g. append_none bags more t (so_far t g) empty) back s h
    where
      within : AllIn first (length bags) (entered_from body)
      within = entered_in body first (length bags) (length bags + size body) (length bags) r.0

      enters_inside : (earlier : Option Bags) → NothingEnters earlier bags body
      enters_inside None = all_map (λ u. (first ≤ u) × (u < length bags)) (λ u. emitted bags u ≡ []) (λ u b. so_far u b.0) (entered_from body) within
      enters_inside (Some e) = nothing_yet (entered_from body)

  -- of the body of a loop, where its sources are read where their readers read
  pub quiet_turn : (body : Nodes) (outer : List ℕ) (before : Option Bags) (bags : Bags) → IsLoopBody outer (length bags) body → NothingEnters before bags body → NothingReturns before body
      → (v : ℕ) → length bags ≤ v → emitted (turn epoch body before bags) v ≡ []
  quiet_turn body outer before bags is enters returns v h =
      let n = length bags in
      quiet body 0 n (n + size body) before bags (omega arith) (body_range body outer (length bags) is) is.2 enters (λ s g. past_end bags s g) returns v h

  pub quiet_later : (body : Nodes) (outer : List ℕ) (before : Option Bags) (bags : Bags) → IsLoopBody outer (length bags) body → NothingEnters before bags body → NothingReturns before body
      → (count v : ℕ) → length bags ≤ v → flat_map (λ each. emitted each v) (turns (λ earlier. turn epoch body earlier bags) count before) ≡ []
  quiet_later body outer before bags is enters returns zero v h = refl
  quiet_later body outer before bags is enters returns (suc count) v h =
      let n = length bags in
      let now : Bags = turn epoch body before bags in
      let within : AllIn n (n + size body) (fed_back body) = fed_back_in body 0 n (n + size body) n (body_range body outer (length bags) is) in
      let next : NothingReturns (Some now) body =
      all_map (λ t. (n ≤ t) × (t < n + size body)) (λ t. emitted now t ≡ []) (λ t b. quiet_turn body outer before bags is enters returns t b.0) (fed_back body) within in
      λ i. quiet_turn body outer before bags is enters returns v h i ++ quiet_later body outer (Some now) bags is (nothing_yet (entered_from body)) next count v h i
