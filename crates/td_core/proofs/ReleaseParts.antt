-- What comes with a batch, input by input: its messages are those of the machine's step, and their pointstamps too.
use Rattle.std.proofs.Common.{◌≡◌, ℕ, ◌+◌, ◌==◌, Bool, true, false, cond, List, [], ◌∷◌, ◌++◌, map, flat_map, replicate, length, refl, ap, sym, ◌∙◌, subst, eqb-true, append-nil, arith}
use Rattle.std.specs.Prelude.{Some}
use Rattle.std.specs.List.{AllByRecursion, slice_get}
use Rattle.std.proofs.lemmas.Grind.{flat_map-append}
use Rattle.std.proofs.lemmas.List.{map-append}
use Rattle.td_stamp.specs.declared.values.Rec.{Rec}
use Rattle.td_stamp.specs.declared.values.Entry.{Entry}
use Rattle.td_stamp.specs.Batch.{records_for}
use Rattle.td_stamp.specs.Orders.{entry_cmp}
use Rattle.td_stamp.specs.Rises.{Rises}
use Rattle.td_stamp.specs.Time.{Timestamp}
use Rattle.td_plan.specs.declared.vertex.Edge.{Edge}
use Rattle.td_plan.specs.declared.vertex.Kind.TheVariants.{Input}
use Rattle.td_plan.specs.Lines.{Line}
use Rattle.td_plan.specs.Blocks.{PlacedVertex, vertices}
use Rattle.td_plan.specs.Faults.{IsPlan}
use Rattle.td_reach.specs.declared.stamp.Stamp.{Stamp}
use Rattle.td_reach.specs.Paths.{IsOf}
use Rattle.td_progress.specs.Bag.{occurrences, is_stamp, IsSameBag, input_stamp}
use Rattle.td_machine.specs.declared.records.Message.{Message}
use Rattle.td_machine.specs.Active.{kind_of, bound_of, inputs_of, stamp_of_message}
use Rattle.td_machine.specs.Steps.{accepts, entered, posts, stamped, on_edge, edges_from, sending_times}
use Rattle.td_machine.specs.Moves.{stamps_of}
use Rattle.td_machine.specs.ByEdge.{stamp_on, stamps_by_edge, StampsByEdge}
use Rattle.td_machine.specs.Sends.{SentOfPlan}
use Rattle.td_core.specs.declared.post.Change.{Change}
use Rattle.td_shard.specs.declared.outlet.Outlet.{Outlet}
use Rattle.td_core.specs.declared.hall.Routes.{Routes}
use Rattle.td_core.specs.Posted.{stamp_on_outlet, occurring}
use Rattle.td_shard.specs.Messages.{on_outlet, on_each}
use Rattle.td_core.specs.Released.{loads_in, messages_of, changes_of, start_of}
use Rattle.td_core.specs.Routes.{IsRoutes, outlet_of, outlets_of, outlets_in}
use Rattle.td_core.proofs.BatchParts.{of_input, batch_in_parts, inputs_are}
use Rattle.td_core.proofs.CloseSteps.{CountsAppend}

module _ (plan : List Line) (routes : Routes) (fits : IsRoutes plan routes) (epoch : ℕ) (batch : List Entry) where
  abbrev t : Timestamp
  t = start_of epoch

  -- THE MESSAGES of the entries of an input
  entered_here : (i : ℕ) (xs : List Entry) → map (entered epoch) (of_input i xs) ≡ stamped i t (records_for i xs)
  entered_here i [] = refl
  entered_here i (x ∷ xs) = by (x.input == i) refl (entered_here i xs)
    where
      by : (b : Bool) → (x.input == i) ≡ b → map (entered epoch) (of_input i xs) ≡ stamped i t (records_for i xs)
          → map (entered epoch) (cond b (x ∷ of_input i xs) (of_input i xs)) ≡ stamped i t (map (λ (e : Entry). e.rec) (cond b (x ∷ of_input i xs) (of_input i xs)))
      by true e rest = λ j. record { vertex = eqb-true x.input i e j; time = t; rec = x.rec } ∷ rest j
      by false e rest = rest

  abbrev sent_of : ℕ → List Message
  sent_of i = posts plan (stamped i t (records_for i batch))

  in_all : (is : List ℕ) → posts plan (map (entered epoch) (flat_map (λ i. of_input i batch) is)) ≡ flat_map sent_of is
  in_all [] = refl
  in_all (i ∷ is) =
      ap (posts plan) (map-append (entered epoch) (of_input i batch) (flat_map (λ i. of_input i batch) is))
      ∙ (flat_map-append _ (map (entered epoch) (of_input i batch)) (map (entered epoch) (flat_map (λ i. of_input i batch) is)) ∙ (λ j. posts plan (entered_here i batch j) ++ in_all is j))

  -- what an input sends, outlet by outlet
  out_on : (r : Rec) (es : List Edge) → map (on_edge t r) es ≡ map (on_outlet t r) (map (outlet_of plan) es)
  out_on r [] = refl
  out_on r (e ∷ es) = ap (λ l. on_edge t r e ∷ l) (out_on r es)

  sent_out : (i : ℕ) → kind_of plan i ≡ Input → (recs : List Rec) → posts plan (stamped i t recs) ≡ on_each (outlets_of plan i) t recs
  sent_out i k [] = refl
  sent_out i k (r ∷ recs) =
      let here : flat_map (λ later. map (on_edge later r) (edges_from plan i)) (sending_times (kind_of plan i) (bound_of plan i) t) ≡ map (on_outlet t r) (outlets_of plan i) =
      ap (λ kind. flat_map (λ later. map (on_edge later r) (edges_from plan i)) (sending_times kind (bound_of plan i) t)) k
      ∙ (append-nil (map (on_edge t r) (edges_from plan i)) ∙ out_on r (edges_from plan i)) in
      λ j. here j ++ sent_out i k recs j

  by_input : (is : List ℕ) → AllByRecursion (λ i. kind_of plan i ≡ Input) is → flat_map (messages_of routes epoch) (loads_in is batch) ≡ flat_map sent_of is
  by_input [] h = refl
  by_input (i ∷ is) h =
      let here : on_each (outlets_in routes i) t (records_for i batch) ≡ sent_of i =
      ap (λ o. on_each o t (records_for i batch)) (fits.outlets i) ∙ sym (sent_out i h.0 (records_for i batch)) in
      λ j. here j ++ by_input is h.1 j

  -- THEIR POINTSTAMPS
  module _ (append : CountsAppend) (by_edge : StampsByEdge) where
    occurring_on : (many : ℕ) (es : List Edge) → occurring (map (λ (o : Outlet). let r : Change = record { stamp = stamp_on_outlet t o; times = many } in r) (map (outlet_of plan) es)) ≡ flat_map (λ e. replicate many (stamp_on plan t e)) es
    occurring_on many [] = refl
    occurring_on many (e ∷ es) = ap (λ l. replicate many (stamp_on plan t e) ++ l) (occurring_on many es)

    edges_of : (i : ℕ) → kind_of plan i ≡ Input → (many : ℕ) → stamps_by_edge plan i t many ≡ flat_map (λ e. replicate many (stamp_on plan t e)) (edges_from plan i)
    edges_of i k many =
        ap (λ kind. flat_map (λ later. flat_map (λ e. replicate many (stamp_on plan later e)) (edges_from plan i)) (sending_times kind (bound_of plan i) t)) k
        ∙ append-nil (flat_map (λ e. replicate many (stamp_on plan t e)) (edges_from plan i))

    abbrev edge_changes : ℕ → List Change
    edge_changes i = map (λ o. record { stamp = stamp_on_outlet t o; times = length (records_for i batch) }) (outlets_in routes i)

    of_one : (i : ℕ) → kind_of plan i ≡ Input → (p : Stamp) → occurrences p (occurring (edge_changes i)) ≡ occurrences p (stamps_of plan (sent_of i))
    of_one i k p =
        let many = length (records_for i batch) in
        ap (occurrences p) (ap (λ os. occurring (map (λ o. record { stamp = stamp_on_outlet t o; times = many }) os)) (fits.outlets i) ∙ (occurring_on many (edges_from plan i) ∙ sym (edges_of i k many)))
        ∙ sym (by_edge plan i t (records_for i batch) (is_stamp p))

    abbrev all_changes : List ℕ → List Change
    all_changes is = flat_map (changes_of routes epoch) (loads_in is batch)

    occurring_two : (xs ys : List Change) → occurring (xs ++ ys) ≡ occurring xs ++ occurring ys
    occurring_two xs ys = flat_map-append (λ r. replicate r.times r.stamp) xs ys

    come_in : (is : List ℕ) → AllByRecursion (λ i. kind_of plan i ≡ Input) is → (p : Stamp)
        → occurrences p (occurring (all_changes is)) ≡ occurrences p (stamps_of plan (flat_map sent_of is)) + occurrences p (map (input_stamp (epoch + 1)) is)
    come_in [] h p = refl
    come_in (i ∷ is) h p =
        let last : Change = record { stamp = input_stamp (epoch + 1) i; times = 1 } in
        let one = of_one i h.0 p in
        let rest = come_in is h.1 p in
        let a = ap (occurrences p) (occurring_two (edge_changes i ++ last ∷ []) (all_changes is) ∙ ap (λ l. l ++ occurring (all_changes is)) (occurring_two (edge_changes i) (last ∷ []))) in
        let b = append p (occurring (edge_changes i) ++ input_stamp (epoch + 1) i ∷ []) (occurring (all_changes is)) in
        let c = append p (occurring (edge_changes i)) (input_stamp (epoch + 1) i ∷ []) in
        let d = ap (occurrences p) (map-append (stamp_of_message plan) (sent_of i) (flat_map sent_of is)) in
        let e = append p (stamps_of plan (sent_of i)) (stamps_of plan (flat_map sent_of is)) in
        let f = append p (input_stamp (epoch + 1) i ∷ []) (map (input_stamp (epoch + 1)) is) in
        omega (arith, one, rest, a, b, c, d, e, f)

  -- THEY ARE OF THE PLAN
  module _ (sends : SentOfPlan) (lawful : IsPlan plan) where
    all_two : {X : Type 0} (P : X → Type 0) (xs ys : List X) → AllByRecursion P xs → AllByRecursion P ys → AllByRecursion P (xs ++ ys)
    all_two P [] ys h k = k
    all_two P (x ∷ xs) ys h k = (h.0, all_two P xs ys h.1 k)

    on_edges : (many : ℕ) (es : List Edge) → AllByRecursion (IsOf plan) (flat_map (λ e. replicate 1 (stamp_on plan t e)) es ++ [])
        → AllByRecursion (λ r. IsOf plan r.stamp) (map (λ (o : Outlet). let r : Change = record { stamp = stamp_on_outlet t o; times = many } in r) (map (outlet_of plan) es))
    on_edges many [] h = tt
    on_edges many (e ∷ es) h = (h.0, on_edges many es h.1)

    pub changes_fit : (is : List ℕ) → AllByRecursion (λ i. kind_of plan i ≡ Input) is → AllByRecursion (λ i. IsOf plan (input_stamp (epoch + 1) i)) is
        → AllByRecursion (λ r. IsOf plan r.stamp) (flat_map (changes_of routes epoch) (loads_in is batch))
    changes_fit [] k h = tt
    changes_fit (i ∷ is) k h =
        let IsFit : Change → Type 0 = λ r. IsOf plan r.stamp in
        let last : Change = record { stamp = input_stamp (epoch + 1) i; times = 1 } in
        let many = length (records_for i batch) in
        let sent : AllByRecursion (IsOf plan) (flat_map (λ e. replicate 1 (stamp_on plan t e)) (edges_from plan i) ++ []) =
        subst (λ kind. AllByRecursion (IsOf plan) (flat_map (λ later. flat_map (λ e. replicate 1 (stamp_on plan later e)) (edges_from plan i)) (sending_times kind (bound_of plan i) t))) k.0 (sends plan i t lawful h.0 1) in
        let edges : AllByRecursion IsFit (map (λ o. record { stamp = stamp_on_outlet t o; times = many }) (outlets_in routes i)) =
        subst (λ os. AllByRecursion IsFit (map (λ o. record { stamp = stamp_on_outlet t o; times = many }) os)) (sym (fits.outlets i)) (on_edges many (edges_from plan i) sent) in
        all_two IsFit (changes_of routes epoch (i, records_for i batch)) (flat_map (changes_of routes epoch) (loads_in is batch))
        (all_two IsFit (map (λ o. record { stamp = stamp_on_outlet t o; times = many }) (outlets_in routes i)) (last ∷ []) edges (h.0, tt)) (changes_fit is k.1 h.1)

-- A BATCH THAT IS ACCEPTED
module _ (plan : List Line) (numbered : (v : ℕ) (p : PlacedVertex) → slice_get (vertices plan) v ≡ Some p → p.vertex.number ≡ v)
    (routes : Routes) (fits : IsRoutes plan routes) (epoch : ℕ) (batch : List Entry) (up : Rises entry_cmp batch) (accepted : accepts plan batch ≡ true) where
  in_parts : posts plan (map (entered epoch) batch) ≡ flat_map (sent_of plan routes fits epoch batch) (inputs_of plan)
  in_parts = ap (λ xs. posts plan (map (entered epoch) xs)) (sym (batch_in_parts plan numbered batch up accepted)) ∙ in_all plan routes fits epoch batch (inputs_of plan)

  pub batch_posts : flat_map (messages_of routes epoch) (loads_in (inputs_of plan) batch) ≡ posts plan (map (entered epoch) batch)
  batch_posts = by_input plan routes fits epoch batch (inputs_of plan) (inputs_are plan numbered) ∙ sym in_parts

  pub batch_changes : CountsAppend → StampsByEdge
      → IsSameBag (occurring (flat_map (changes_of routes epoch) (loads_in (inputs_of plan) batch))) (stamps_of plan (posts plan (map (entered epoch) batch)) ++ map (input_stamp (epoch + 1)) (inputs_of plan))
  batch_changes append by_edge p =
      come_in plan routes fits epoch batch append by_edge (inputs_of plan) (inputs_are plan numbered) p
      ∙ (ap (λ l. occurrences p (stamps_of plan l) + occurrences p (map (input_stamp (epoch + 1)) (inputs_of plan))) (sym in_parts)
      ∙ sym (append p (stamps_of plan (posts plan (map (entered epoch) batch))) (map (input_stamp (epoch + 1)) (inputs_of plan))))
