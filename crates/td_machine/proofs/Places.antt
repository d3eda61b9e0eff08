-- The places at which the vertices of a tree read: each vertex in each turn of the block on which it reads. A vertex and a time
-- have one place, and a sum over the places is one over the vertices of the plan.
use Rattle.std.proofs.Common.{◌≡◌, ℕ, ◌+◌, ◌<◌, ◌≤◌, ◌==◌, Bool, true, ◌⊎◌, inl, inr, List, [], ◌∷◌, ◌++◌, map, flat_map, filter, length, refl, ap, sym, ◌∙◌, subst, arith, false, sum_by, zero, suc}
use Rattle.std.specs.Prelude.{nat_lt}
use Rattle.std.specs.List.{AllByRecursion, enumerate_from}
use Rattle.std.proofs.lemmas.Bool.{ltb-true, ltb-false}
use Rattle.std.proofs.lemmas.List.Sums.{sum_by-cons, sum_by-append}
use Rattle.td_stamp.specs.declared.values.Arrival.{Arrival}
use Rattle.td_stamp.specs.Time.{Timestamp}
use Rattle.td_plan.specs.declared.vertex.Kind.{Kind}
use Rattle.td_plan.specs.declared.vertex.Kind.TheVariants.{Enter}
use Rattle.td_plan.specs.declared.vertex.Loop.{Loop}
use Rattle.td_plan.specs.Lines.{Vertex, Line}
use Rattle.td_plan.specs.Blocks.{PlacedVertex, edges, bounds, reading_loops, reading_loops_at}
use Rattle.td_plan.specs.Tree.{Nodes, size, placed_in, IsNumbered}
use Rattle.td_plan.specs.Tree.Nodes.{done, node, block}
use Rattle.td_plan.specs.Laid.{read_bounds}
use Rattle.td_batch.specs.Flow.{Flow, AreBelow, numbers_from}
use Rattle.td_batch.specs.SameFlow.{ReadAlike}
use Rattle.td_machine.specs.State.{is_there}
use Rattle.td_machine.specs.Active.{kind_of}
use Rattle.td_machine.proofs.Flows.{AreLaid, edge_to}
use Rattle.td_machine.specs.Work.{turns_of, comes_to}
use Rattle.td_machine.proofs.Orders.{there_is, there_itself}
use Rattle.td_machine.proofs.Lists.{filter_yes, all_app, all_map, all_weaken, all_everywhere}
use Rattle.td_machine.proofs.Sums.{sum_map, count, count_app, count_map, count_none, one_of, not_true}

-- a vertex, in a turn of the block on which it reads
abbrev pub Place : Type 0
Place = Vertex × List ℕ

abbrev pub places : List ℕ → Nodes → List Place
places own done = []
places own (node v rest) = map (λ counters. (v, counters)) (turns_of (read_bounds v.kind own)) ++ places own rest
places own (block bound body rest) = places (bound ∷ own) body ++ places own rest

-- what comes there
abbrev pub comes_at : Flow → Place → List Arrival
comes_at flow p = comes_to flow p.0 p.1

-- TURNS: each of a block is counted once
pub turn_once : (bs d : List ℕ) (q : List ℕ → Bool) → q d ≡ true → ((c : List ℕ) → (c ≡ d → ⊥) → q c ≡ false) → AreBelow d bs → count q (turns_of bs) ≡ 1
turn_once [] [] q is others under = ap length (filter_yes q [] [] is)
turn_once [] (k ∷ d) q is others under = absurd under
turn_once (b ∷ bs) [] q is others under = absurd under
turn_once (b ∷ bs) (k ∷ d) q is others under =
    one_of (λ k. map (λ c. k ∷ c) (turns_of bs)) q k
    (λ j other. count_map q (λ c. j ∷ c) (turns_of bs) ∙ count_none (λ c. q (j ∷ c)) (turns_of bs) (λ c. others (j ∷ c) (λ e. other (heads j k c d e))))
    0 b (count_map q (λ c. k ∷ c) (turns_of bs) ∙ turn_once bs d (λ c. q (k ∷ c)) is (λ c other. others (k ∷ c) (λ e. other (tails k k c d e))) under.1) (omega arith) (let l = under.0 in omega (arith, l))
  where
    heads : (j k : ℕ) (c d : List ℕ) → j ∷ c ≡ k ∷ d → j ≡ k
    heads j k c d e = ap (λ l. elim l [ [] ↦ j | x ∷ xs ↦ x ]) e

    tails : (j k : ℕ) (c d : List ℕ) → j ∷ c ≡ k ∷ d → c ≡ d
    tails j k c d e = ap (λ l. elim l [ [] ↦ c | x ∷ xs ↦ xs ]) e

-- PLACES: a vertex of the tree in one of its turns is counted once
module _ (plan : List Line) (e w : ℕ) (t : Timestamp) where
  abbrev pub is_place : Place → Bool
  is_place p = is_there p.0.number (record { epoch = e; turns = p.1 }) w t

  not_here : (v : Vertex) (cs : List (List ℕ)) → (v.number ≡ w → ⊥) → count is_place (map (λ c. (v, c)) cs) ≡ 0
  not_here v cs other = count_map is_place (λ c. (v, c)) cs ∙ count_none (λ c. is_place (v, c)) cs (λ c. not_true (is_place (v, c)) (λ h. other (sym (there_is v.number w (record { epoch = e; turns = c }) t h).0)))

  pub not_in : (nodes : Nodes) (own : List ℕ) (n : ℕ) → IsNumbered n nodes → (w < n) ⊎ (n + size nodes ≤ w) → count is_place (places own nodes) ≡ 0
  not_in done own n numbered h = refl
  not_in (node v rest) own n numbered h =
      let here = not_here v (turns_of (read_bounds v.kind own)) (other h) in
      let later = not_in rest own (n + 1) numbered.1 (next h) in
      count_app is_place (map (λ c. (v, c)) (turns_of (read_bounds v.kind own))) (places own rest) ∙ omega (arith, here, later)
    where
      other : (w < n) ⊎ (n + size (node v rest) ≤ w) → v.number ≡ w → ⊥
      other (inl l) s = absurd (omega (arith, l, s, numbered.0))
      other (inr l) s = absurd (omega (arith, l, s, numbered.0))

      next : (w < n) ⊎ (n + size (node v rest) ≤ w) → (w < n + 1) ⊎ (n + 1 + size rest ≤ w)
      next (inl l) = inl (omega (arith, l))
      next (inr l) = inr (omega (arith, l))
  not_in (block bound body rest) own n numbered h =
      let here = not_in body (bound ∷ own) n numbered.0 (first h) in
      let later = not_in rest own (n + size body) numbered.1 (next h) in
      count_app is_place (places (bound ∷ own) body) (places own rest) ∙ omega (arith, here, later)
    where
      first : (w < n) ⊎ (n + size (block bound body rest) ≤ w) → (w < n) ⊎ (n + size body ≤ w)
      first (inl l) = inl l
      first (inr l) = inr (omega (arith, l))

      next : (w < n) ⊎ (n + size (block bound body rest) ≤ w) → (w < n + size body) ⊎ (n + size body + size rest ≤ w)
      next (inl l) = inl (omega (arith, l))
      next (inr l) = inr (omega (arith, l))

  module _ (same : t.epoch ≡ e) (under : AreBelow t.turns (bounds (reading_loops_at plan w))) where
    here_once : (v : Vertex) (bs : List ℕ) → v.number ≡ w → bounds (reading_loops_at plan v.number) ≡ bs → count is_place (map (λ c. (v, c)) (turns_of bs)) ≡ 1
    here_once v bs at reads =
        count_map is_place (λ c. (v, c)) (turns_of bs)
        ∙ turn_once bs t.turns (λ c. is_place (v, c))
        (subst (λ n. is_there n (record { epoch = e; turns = t.turns }) w t ≡ true) (sym at) (subst (λ d. is_there w (record { epoch = d; turns = t.turns }) w t ≡ true) same (there_itself w t)))
        (λ c other. not_true (is_place (v, c)) (λ h. other (sym (ap (λ (u : Timestamp). u.turns) (there_is v.number w (record { epoch = e; turns = c }) t h).1))))
        (subst (AreBelow t.turns) (ap (λ n. bounds (reading_loops_at plan n)) (sym at) ∙ reads) under)

    pub place_once : (nodes : Nodes) (own : List ℕ) (n : ℕ) → IsNumbered n nodes → AreLaid plan own nodes → n ≤ w → w < n + size nodes → count is_place (places own nodes) ≡ 1
    place_once done own n numbered laid l m = absurd (omega (arith, l, m))
    place_once (node v rest) own n numbered laid l m = count_app is_place (map (λ c. (v, c)) (turns_of (read_bounds v.kind own))) (places own rest) ∙ by (nat_lt n w) refl (place_once rest own (n + 1) numbered.1 laid.1)
      where
        by : (b : Bool) → nat_lt n w ≡ b → (n + 1 ≤ w → w < n + 1 + size rest → count is_place (places own rest) ≡ 1) → count is_place (map (λ c. (v, c)) (turns_of (read_bounds v.kind own))) + count is_place (places own rest) ≡ 1
        by true f later =
            let lt = ltb-true n w f in
            let here = not_here v (turns_of (read_bounds v.kind own)) (λ s. absurd (omega (arith, lt, s, numbered.0))) in
            let more = later (omega (arith, lt)) (omega (arith, m)) in
            omega (arith, here, more)
        by false f later =
            let ge = ltb-false n w f in
            let here = here_once v (read_bounds v.kind own) (omega (arith, ge, l, numbered.0)) laid.0.reads in
            let more = not_in rest own (n + 1) numbered.1 (inl (omega (arith, ge))) in
            omega (arith, here, more)
    place_once (block bound body rest) own n numbered laid l m = count_app is_place (places (bound ∷ own) body) (places own rest) ∙ by (nat_lt w (n + size body)) refl (place_once body (bound ∷ own) n numbered.0 laid.0) (place_once rest own (n + size body) numbered.1 laid.1)
      where
        by : (b : Bool) → nat_lt w (n + size body) ≡ b → (n ≤ w → w < n + size body → count is_place (places (bound ∷ own) body) ≡ 1) → (n + size body ≤ w → w < n + size body + size rest → count is_place (places own rest) ≡ 1)
            → count is_place (places (bound ∷ own) body) + count is_place (places own rest) ≡ 1
        by true f inside later =
            let lt = ltb-true w (n + size body) f in
            let here = inside l lt in
            let more = not_in rest own (n + size body) numbered.1 (inl lt) in
            omega (arith, here, more)
        by false f inside later =
            let ge = ltb-false w (n + size body) f in
            let here = not_in body (bound ∷ own) n numbered.0 (inr ge) in
            let more = later ge (omega (arith, m)) in
            omega (arith, here, more)

-- SUMS over places, by the vertices of the plan
read_bounds_are : (kind : Kind) (loops : List Loop) → read_bounds kind (bounds loops) ≡ bounds (reading_loops kind loops)
read_bounds_are Enter [] = refl
read_bounds_are Enter (l ∷ loops) = refl
read_bounds_are _ loops = refl

module _ (h : Place → ℕ) where
  abbrev pub over_turns : PlacedVertex → ℕ
  over_turns p = sum_by (λ counters. h (p.vertex, counters)) (turns_of (bounds (reading_loops p.vertex.kind p.loops)))

  pub places_sum : (nodes : Nodes) (loops : List Loop) (n : ℕ) → sum_by h (places (bounds loops) nodes) ≡ sum_by over_turns (placed_in loops n nodes)
  places_sum done loops n = refl
  places_sum (node v rest) loops n =
      let turns : List (List ℕ) = turns_of (read_bounds v.kind (bounds loops)) in
      sum_by-append h (map (λ c. (v, c)) turns) (places (bounds loops) rest)
      ∙ (λ i. (sum_map h (λ c. (v, c)) turns ∙ ap (λ bs. sum_by (λ c. h (v, c)) (turns_of bs)) (read_bounds_are v.kind loops)) i + places_sum rest loops (n + 1) i)
      ∙ sym (sum_by-cons over_turns (record { vertex = v; loops = loops }) (placed_in loops (n + 1) rest))
  places_sum (block bound body rest) loops n =
      let inner : List Loop = record { first = n; bound = bound } ∷ loops in
      sum_by-append h (places (bounds inner) body) (places (bounds loops) rest)
      ∙ (λ i. places_sum body inner n i + places_sum rest loops (n + size body) i)
      ∙ sym (sum_by-append over_turns (placed_in inner n body) (placed_in loops (n + size body) rest))

-- WHAT IS KNOWN of a vertex is known at each of its places
module _ (plan : List Line) where
  -- the edges that lead to it
  abbrev pub Into : Place → Type 0
  Into p = filter (λ e. e.reader == p.0.number) (edges plan) ≡ map (edge_to p.0.number) (enumerate_from 0 p.0.sources)

  -- its kind
  abbrev pub IsKind : Place → Type 0
  IsKind p = kind_of plan p.0.number ≡ p.0.kind

  at_turns : (P : Place → Type 0) (v : Vertex) (turns : List (List ℕ)) → ((c : List ℕ) → P (v, c)) → AllByRecursion P (map (λ c. (v, c)) turns)
  at_turns P v turns h = all_map P (λ c. (v, c)) turns (all_everywhere (λ c. P (v, c)) h turns)

  pub places_into : (nodes : Nodes) (own : List ℕ) → AreLaid plan own nodes → AllByRecursion Into (places own nodes)
  places_into done own laid = tt
  places_into (node v rest) own laid = all_app Into (map (λ c. (v, c)) (turns_of (read_bounds v.kind own))) (places own rest) (at_turns Into v (turns_of (read_bounds v.kind own)) (λ c. laid.0.into)) (places_into rest own laid.1)
  places_into (block bound body rest) own laid = all_app Into (places (bound ∷ own) body) (places own rest) (places_into body (bound ∷ own) laid.0) (places_into rest own laid.1)

  pub places_kind : (nodes : Nodes) (own : List ℕ) → AreLaid plan own nodes → AllByRecursion IsKind (places own nodes)
  places_kind done own laid = tt
  places_kind (node v rest) own laid = all_app IsKind (map (λ c. (v, c)) (turns_of (read_bounds v.kind own))) (places own rest) (at_turns IsKind v (turns_of (read_bounds v.kind own)) (λ c. laid.0.kind)) (places_kind rest own laid.1)
  places_kind (block bound body rest) own laid = all_app IsKind (places (bound ∷ own) body) (places own rest) (places_kind body (bound ∷ own) laid.0) (places_kind rest own laid.1)

-- TWO FLOWS that are the same to all readers are so at each place
module _ (f g : Flow) where
  abbrev pub ReadsSame : Place → Type 0
  ReadsSame p = map (λ s. f s p.1) p.0.sources ≡ map (λ s. g s p.1) p.0.sources

  all_turns : (bounds : List ℕ) → AllByRecursion (λ c. AreBelow c bounds) (turns_of bounds)
  all_turns [] = (tt, tt)
  all_turns (bound ∷ bounds) = heads (all_turns bounds) 0 bound (omega arith)
    where
      heads : AllByRecursion (λ c. AreBelow c bounds) (turns_of bounds) → (k n : ℕ) → k + n ≤ bound → AllByRecursion (λ c. AreBelow c (bound ∷ bounds)) (flat_map (λ k. map (λ c. k ∷ c) (turns_of bounds)) (numbers_from k n))
      heads all k zero l = tt
      heads all k (suc n) l =
          let low : k < bound = omega (arith, l) in
          all_app (λ c. AreBelow c (bound ∷ bounds)) (map (λ c. k ∷ c) (turns_of bounds)) (flat_map (λ k. map (λ c. k ∷ c) (turns_of bounds)) (numbers_from (suc k) n))
          (all_map (λ c. AreBelow c (bound ∷ bounds)) (λ c. k ∷ c) (turns_of bounds) (all_weaken (λ c. AreBelow c bounds) (λ c. AreBelow (k ∷ c) (bound ∷ bounds)) (λ c h. (low, h)) (turns_of bounds) all))
          (heads all (suc k) n (omega (arith, l)))

  pub places_alike : (nodes : Nodes) (own : List ℕ) → ReadAlike f g own nodes → AllByRecursion ReadsSame (places own nodes)
  places_alike done own h = tt
  places_alike (node v rest) own h =
      let turns : List (List ℕ) = turns_of (read_bounds v.kind own) in
      all_app ReadsSame (map (λ c. (v, c)) turns) (places own rest)
      (all_map ReadsSame (λ c. (v, c)) turns (all_weaken (λ c. AreBelow c (read_bounds v.kind own)) (λ c. ReadsSame (v, c)) (λ c k. h.0 c k) turns (all_turns (read_bounds v.kind own)))) (places_alike rest own h.1)
  places_alike (block bound body rest) own h = all_app ReadsSame (places (bound ∷ own) body) (places own rest) (places_alike body (bound ∷ own) h.0) (places_alike rest own h.1)
