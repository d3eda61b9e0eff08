-- One turn of a block gives the bags of every flow.
use Rattle.std.proofs.Common.{◌≡◌, ℕ, zero, suc, ◌+◌, ◌<◌, ◌≤◌, ◌==◌, true, List, [], ◌∷◌, ◌++◌, flat_map, length, Option, Some, None, refl, ap, sym, ◌∙◌, subst, arith, length-append}
use Rattle.std.specs.List.{list_any}
use Rattle.std.proofs.lemmas.List.{get_or-append-add}
use Rattle.std.proofs.Math.Seq.{get_or-append_seam}
use Rattle.td_stamp.specs.declared.values.Rec.{Rec}
use Rattle.td_stamp.specs.Orders.{rec_cmp}
use Rattle.td_stamp.specs.Bag.{bag_of}
use Rattle.td_plan.specs.declared.vertex.Kind.{Kind}
use Rattle.td_plan.specs.declared.vertex.Kind.TheVariants.{Enter, Feedback, Leave}
use Rattle.td_plan.specs.Lines.{Vertex}
use Rattle.td_plan.specs.Tree.{Nodes, size}
use Rattle.td_plan.specs.Tree.Nodes.{done, node, block}
use Rattle.td_calls.specs.Callbacks.{arrivals}
use Rattle.td_batch.specs.Meaning.{EpochInput, Bags, emitted, answer, bags_read, emission, turns, over_turns, turn}
use Rattle.td_plan.specs.Placed.{leave_of, leaves_of, read_of, read_in, readable, IsWellPlaced}
use Rattle.td_batch.specs.Flow.{Flow, read_at, answer_at, leave_at, numbers_from}
use Rattle.td_batch.proofs.Lists.{AreAmong, pick, all_append, all_map, map_alike}
use Rattle.td_batch.proofs.Flows.{EndsAs, AllEndAs, Sends, SendsOut, LeavesSend, IsFlow}
use Rattle.td_batch.proofs.Turns.{length-over_turns, emitted-over_turns, length-turn, turn_keeps, loop_bags, length-loop_bags, ends_more, ends_later}

module _ (epoch : EpochInput) (flow : Flow) where
  -- how a turn begins: turn 0 of a loop finds what enters it, a later turn finds the turn before
  abbrev pub Begins : List ℕ → List ℕ → Option Bags → List ℕ → Bags → Type 0
  Begins all outer None [] bags = outer ≡ []
  Begins all outer None (zero ∷ counters) bags = AllEndAs flow counters bags outer
  Begins all outer None (suc k ∷ counters) bags = ⊥
  Begins all outer (Some earlier) [] bags = ⊥
  Begins all outer (Some earlier) (zero ∷ counters) bags = ⊥
  Begins all outer (Some earlier) (suc k ∷ counters) bags = AllEndAs flow (k ∷ counters) earlier all

  -- how it ends: each vertex emitted its answer, and each leave of a loop what the flow sends
  abbrev pub Ends : Nodes → List ℕ → Bags → Type 0
  Ends done counters last = Unit {0}
  Ends (node v rest) counters last = (v.number < length last) × (emitted last v.number ≡ answer_at epoch flow v counters) × Ends rest counters last
  Ends (block b body rest) counters last = AllEndAs flow counters last (leaves_of body) × Ends rest counters last

  pub begins_more : (all outer : List ℕ) (before : Option Bags) (counters : List ℕ) (bags more : Bags) → Begins all outer before counters bags → Begins all outer before counters (bags ++ more)
  begins_more all outer None [] bags more b = b
  begins_more all outer None (zero ∷ counters) bags more b = ends_more flow counters bags more outer b
  begins_more all outer None (suc k ∷ counters) bags more b = b
  begins_more all outer (Some earlier) [] bags more b = b
  begins_more all outer (Some earlier) (zero ∷ counters) bags more b = b
  begins_more all outer (Some earlier) (suc k ∷ counters) bags more b = b

  -- a source's bag is that of the flow
  source_alike : (kind : Kind) (all outer own : List ℕ) (before : Option Bags) (counters : List ℕ) (bags : Bags)
      → Begins all outer before counters bags → AllEndAs flow counters bags own
      → (s : ℕ) → list_any (λ x. x == s) (readable all outer own kind) ≡ true → emitted (bags_read kind before bags) s ≡ read_at flow kind counters s
  source_alike Enter all outer own None [] bags b o s found = let f : list_any (λ x. x == s) [] ≡ true = rw b at found in cc
  source_alike Enter all outer own None (zero ∷ counters) bags b o s found = (pick (EndsAs flow counters bags) outer s b found).1
  source_alike Enter all outer own None (suc k ∷ counters) bags b o s found = absurd b
  source_alike Enter all outer own (Some earlier) [] bags b o s found = absurd b
  source_alike Enter all outer own (Some earlier) (zero ∷ counters) bags b o s found = absurd b
  source_alike Enter all outer own (Some earlier) (suc k ∷ counters) bags b o s found = refl
  source_alike Feedback all outer own None [] bags b o s found = refl
  source_alike Feedback all outer own None (zero ∷ counters) bags b o s found = refl
  source_alike Feedback all outer own None (suc k ∷ counters) bags b o s found = absurd b
  source_alike Feedback all outer own (Some earlier) [] bags b o s found = absurd b
  source_alike Feedback all outer own (Some earlier) (zero ∷ counters) bags b o s found = absurd b
  source_alike Feedback all outer own (Some earlier) (suc k ∷ counters) bags b o s found = (pick (EndsAs flow (k ∷ counters) earlier) all s b found).1
  source_alike _ all outer own before counters bags b o s found = (pick (EndsAs flow counters bags) own s o found).1

  -- what a vertex emits is its answer to the flow
  emission_is : (v : Vertex) (all outer own : List ℕ) (before : Option Bags) (counters : List ℕ) (bags : Bags)
      → Begins all outer before counters bags → AllEndAs flow counters bags own
      → AreAmong (readable all outer own v.kind) v.sources → emission epoch before bags v ≡ answer_at epoch flow v counters
  emission_is v all outer own before counters bags b o found =
      let f : ℕ → List Rec = emitted (bags_read v.kind before bags) in
      let g : ℕ → List Rec = read_at flow v.kind counters in
      ap (λ read. answer epoch v.number v.kind (arrivals read)) (map_alike f g v.sources
      (all_map (λ s. list_any (λ x. x == s) (readable all outer own v.kind) ≡ true) (λ s. f s ≡ g s) (source_alike v.kind all outer own before counters bags b o) v.sources found))

  -- a vertex that is read on its block sends what it emits
  read_one : (v : Vertex) (kind : Kind) (counters : List ℕ) (last : Bags) → Sends epoch flow v kind counters → v.number < length last
      → emitted last v.number ≡ answer_at epoch flow v counters → AllEndAs flow counters last (read_of v kind)
  read_one v Leave counters last sends lt e = tt
  read_one v _ counters last sends lt e = ((lt, e ∙ sym sends), tt)

  pub ends_read : (nodes : Nodes) (counters : List ℕ) (last : Bags) → Ends nodes counters last → IsFlow epoch flow nodes counters → AllEndAs flow counters last (read_in nodes)
  ends_read done counters last e f = tt
  ends_read (node v rest) counters last e f =
      all_append (EndsAs flow counters last) (read_of v v.kind) (read_in rest) (read_one v v.kind counters last f.0 e.0 e.1) (ends_read rest counters last e.2 f.1)
  ends_read (block b body rest) counters last e f = all_append (EndsAs flow counters last) (leaves_of body) (read_in rest) e.0 (ends_read rest counters last e.1 f.2)

  -- each turn from turn k on ends so
  abbrev TurnsEnd : Nodes → ℕ → List ℕ → List Bags → Type 0
  TurnsEnd nodes k counters [] = Unit {0}
  TurnsEnd nodes k counters (last ∷ each) = Ends nodes (k ∷ counters) last × TurnsEnd nodes (suc k) counters each

  turns_end : (body : Nodes) (own : List ℕ) (counters : List ℕ) (bags : Bags) (bound : ℕ)
      → ((before : Option Bags) (k : ℕ) → k < bound → Begins (read_in body) own before (k ∷ counters) bags → Ends body (k ∷ counters) (turn epoch body before bags))
      → ((k : ℕ) → k < bound → IsFlow epoch flow body (k ∷ counters))
      → (n k : ℕ) (before : Option Bags) → k + n ≡ bound → Begins (read_in body) own before (k ∷ counters) bags
      → TurnsEnd body k counters (turns (λ earlier. turn epoch body earlier bags) n before)
  turns_end body own counters bags bound one flows zero k before within begins = tt
  turns_end body own counters bags bound one flows (suc n) k before within begins =
      let lt : k < bound = omega arith in
      let last : Bags = turn epoch body before bags in
      let e : Ends body (k ∷ counters) last = one before k lt begins in
      (e, turns_end body own counters bags bound one flows n (suc k) (Some last) (omega arith) (ends_read body (k ∷ counters) last e (flows k lt)))

  -- the bags of a vertex in all turns are its answers in all of them
  each_answers : (v : Vertex) (rest : Nodes) (counters : List ℕ) (f : Option Bags → Bags) (n k : ℕ) (before : Option Bags) → TurnsEnd (node v rest) k counters (turns f n before)
      → flat_map (λ bags. emitted bags v.number) (turns f n before) ≡ flat_map (λ j. answer_at epoch flow v (j ∷ counters)) (numbers_from k n)
  each_answers v rest counters f zero k before e = refl
  each_answers v rest counters f (suc n) k before e = λ i. e.0.1 i ++ each_answers v rest counters f n (suc k) (Some (f before)) e.1 i

  past_node : (v : Vertex) (rest : Nodes) (counters : List ℕ) (each : List Bags) (k : ℕ) → TurnsEnd (node v rest) k counters each → TurnsEnd rest k counters each
  past_node v rest counters [] k e = tt
  past_node v rest counters (last ∷ each) k e = (e.0.2, past_node v rest counters each (suc k) e.1)

  past_block : (b : ℕ) (body rest : Nodes) (counters : List ℕ) (each : List Bags) (k : ℕ) → TurnsEnd (block b body rest) k counters each → TurnsEnd rest k counters each
  past_block b body rest counters [] k e = tt
  past_block b body rest counters (last ∷ each) k e = (e.0.1, past_block b body rest counters each (suc k) e.1)

  leave_one : (v : Vertex) (kind : Kind) (bound : ℕ) (counters : List ℕ) (last : Bags) → SendsOut epoch flow bound v kind counters → v.number < length last
      → emitted last v.number ≡ leave_at epoch flow v bound counters → AllEndAs flow counters last (leave_of v kind)
  leave_one v Leave bound counters last sends lt e = ((lt, e ∙ sym sends), tt)
  leave_one v _ bound counters last sends lt e = tt

  -- after a loop, each of its leaves has what the flow sends
  leaves_end : (sub : Nodes) (all outer own : List ℕ) (counters : List ℕ) (bags : Bags) (f : Option Bags → Bags) (bound total i : ℕ)
      → TurnsEnd sub 0 counters (turns f bound None) → LeavesSend epoch flow bound sub counters → IsWellPlaced all outer own (length bags + i) sub → i + size sub ≤ total
      → AllEndAs flow counters (bags ++ over_turns (turns f bound None) (length bags) total) (leaves_of sub)
  leaves_end done all outer own counters bags f bound total i e sends placed fits = tt
  leaves_end (node v rest) all outer own counters bags f bound total i e sends placed fits =
      let each : List Bags = turns f bound None in
      let more : Bags = over_turns each (length bags) total in
      let long : length (bags ++ more) ≡ length bags + length more = length-append bags more in
      let l : length more ≡ total = length-over_turns each (length bags) total in
      let at : v.number ≡ length bags + i = placed.0 in
      let lt : v.number < length (bags ++ more) = omega arith in
      let there : emitted (bags ++ more) v.number ≡ emitted more i = ap (emitted (bags ++ more)) at ∙ get_or-append-add bags more i [] in
      let over : emitted more i ≡ bag_of rec_cmp (flat_map (λ b. emitted b (length bags + i)) each) = emitted-over_turns each (length bags) total i (omega arith) in
      let same : bag_of rec_cmp (flat_map (λ b. emitted b (length bags + i)) each) ≡ bag_of rec_cmp (flat_map (λ b. emitted b v.number) each) =
      ap (λ m. bag_of rec_cmp (flat_map (λ b. emitted b m) each)) (sym at) in
      let next : (length bags + i) + 1 ≡ length bags + (i + 1) = omega arith in
      let P : ℕ → Type 0 = λ m. IsWellPlaced all outer (own ++ read_of v v.kind) m rest in
      all_append (EndsAs flow counters (bags ++ more)) (leave_of v v.kind) (leaves_of rest)
      (leave_one v v.kind bound counters (bags ++ more) sends.0 lt (there ∙ over ∙ same ∙ ap (bag_of rec_cmp) (each_answers v rest counters f bound 0 None e)))
      (leaves_end rest all outer (own ++ read_of v v.kind) counters bags f bound total (i + 1) (past_node v rest counters each 0 e) sends.1 (subst P next placed.2) (omega arith))
  leaves_end (block b body rest) all outer own counters bags f bound total i e sends placed fits =
      let next : (length bags + i) + size body ≡ length bags + (i + size body) = omega arith in
      let P : ℕ → Type 0 = λ m. IsWellPlaced all outer (own ++ leaves_of body) m rest in
      leaves_end rest all outer (own ++ leaves_of body) counters bags f bound total (i + size body) (past_block b body rest counters (turns f bound None) 0 e) sends (subst P next placed.1) (omega arith)

  -- a turn that begins as a flow ends as it
  pub turn_ends : (nodes : Nodes) (all outer own : List ℕ) (before : Option Bags) (counters : List ℕ) (bags : Bags)
      → IsWellPlaced all outer own (length bags) nodes → IsFlow epoch flow nodes counters → Begins all outer before counters bags → AllEndAs flow counters bags own
      → Ends nodes counters (turn epoch nodes before bags)
  turn_ends done all outer own before counters bags placed flows begins o = tt
  turn_ends (node v rest) all outer own before counters bags placed flows begins o =
      let more : Bags = emission epoch before bags v ∷ [] in
      let long : length (bags ++ more) ≡ length bags + 1 = length-append bags more in
      let whole : length (turn epoch rest before (bags ++ more)) ≡ length (bags ++ more) + size rest = length-turn epoch rest before (bags ++ more) in
      let at : v.number ≡ length bags = placed.0 in
      let e : emission epoch before bags v ≡ answer_at epoch flow v counters = emission_is v all outer own before counters bags begins o placed.1 in
      let here : emitted (bags ++ more) v.number ≡ answer_at epoch flow v counters = ap (emitted (bags ++ more)) at ∙ get_or-append_seam bags (emission epoch before bags v) [] [] ∙ e in
      let lt : v.number < length (bags ++ more) = omega arith in
      let P : ℕ → Type 0 = λ m. IsWellPlaced all outer (own ++ read_of v v.kind) m rest in (
        omega arith,
        turn_keeps epoch rest before (bags ++ more) v.number lt ∙ here,
        turn_ends rest all outer (own ++ read_of v v.kind) before counters (bags ++ more) (subst P (sym long) placed.2) flows.1 (begins_more all outer before counters bags more begins)
            (all_append (EndsAs flow counters (bags ++ more)) own (read_of v v.kind) (ends_more flow counters bags more own o) (read_one v v.kind counters (bags ++ more) flows.0 lt here)),
      )
  turn_ends (block bound body rest) all outer own before counters bags placed flows begins o =
      let f : Option Bags → Bags = λ earlier. turn epoch body earlier bags in
      let more : Bags = loop_bags epoch bound body bags in
      let long : length (bags ++ more) ≡ length bags + length more = length-append bags more in
      let l : length more ≡ size body = length-loop_bags epoch bound body bags in
      let each : TurnsEnd body 0 counters (turns f bound None) =
      turns_end body own counters bags bound (λ earlier k lt b. turn_ends body (read_in body) own [] earlier (k ∷ counters) bags placed.0 (flows.0 k lt) b tt) flows.0 bound 0 None (omega arith) o in
      let none : length bags ≡ length bags + 0 = omega arith in
      let Q : ℕ → Type 0 = λ m. IsWellPlaced (read_in body) own [] m body in
      let leaves : AllEndAs flow counters (bags ++ more) (leaves_of body) =
      leaves_end body (read_in body) own [] counters bags f bound (size body) 0 each flows.1 (subst Q none placed.0) (omega arith) in
      let next : length bags + size body ≡ length (bags ++ more) = omega arith in
      let P : ℕ → Type 0 = λ m. IsWellPlaced all outer (own ++ leaves_of body) m rest in (
        ends_later epoch flow counters rest before (bags ++ more) (leaves_of body) leaves,
        turn_ends rest all outer (own ++ leaves_of body) before counters (bags ++ more) (subst P next placed.1) flows.2 (begins_more all outer before counters bags more begins)
            (all_append (EndsAs flow counters (bags ++ more)) own (leaves_of body) (ends_more flow counters bags more own o) leaves),
      )
