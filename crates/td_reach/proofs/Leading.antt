-- Whether any path leads from one place to another.
use Rattle.std.proofs.Common.{◌≡◌, ℕ, ◌<◌, ◌⊎◌, inl, inr, Bool, true, false, List, [], ◌∷◌, length, refl, ap, sym, ◌∙◌, subst, eqb-true, eq-eqb}
use Rattle.std.specs.Prelude.{Option, None, Some, ◌||◌, is_some}
use Rattle.td_plan.specs.declared.vertex.Edge.{Edge}
use Rattle.td_plan.specs.Lines.{Line}
use Rattle.td_plan.specs.Blocks.{vertices}
use Rattle.td_plan.specs.Faults.{IsPlan}
use Rattle.td_reach.specs.declared.stamp.Place.{Place}
use Rattle.td_reach.specs.declared.stamp.Place.TheVariants as places
use Rattle.td_reach.specs.declared.stamp.Stamp.{Stamp}
use Rattle.td_reach.specs.Paths.{IsEdge, IsPath, BeginsAt, EndsAt, Could, Leads, HasPlace, IsOfPlace, IsOf}
use Rattle.td_reach.specs.Summaries.{Effect}
use Rattle.td_reach.specs.Tables.{least_effect, reader_of, source_of, first_vertex, last_vertex, is_same_edge, is_path_between, leads_test}
use Rattle.td_reach.proofs.Order.{OrderLaws}
use Rattle.td_reach.proofs.Graph.{reads, has_reader, has_source}
use Rattle.td_reach.proofs.Could.{Way, Arrives, arrives, found, trip, same_edge, joins, first_is, way_on, way_covers}

pub could_leads : (plan : List Line) (p q : Stamp) → Could plan p q → Leads plan p.place q.place
could_leads plan p q k = record { first = k.first; path = k.path; begins = k.begins; is_path = k.is_path; ends = k.ends }

place_of : (plan : List Line) (place : Place) (t : _) → IsOfPlace plan place t → HasPlace plan place
place_of plan (places.Vertex v) t h = h.0
place_of plan (places.Edge e) t h = (h.0, h.1)

pub has_place : (plan : List Line) (p : Stamp) → IsOf plan p → HasPlace plan p.place
has_place plan p h = place_of plan p.place p.time h

module _ (plan : List Line) (lawful : IsPlan plan) where
  -- the vertices of which the table is asked are the plan's
  some_same : (u v : ℕ) → Some u ≡ Some v → u ≡ v
  some_same u v e = cc

  pub first_within : (place : Place) (u : ℕ) → HasPlace plan place → first_vertex plan place ≡ Some u → u < length (vertices plan)
  first_within (places.Vertex v) u h e = subst (λ w. w < length (vertices plan)) (some_same v u e) h
  first_within (places.Edge e) u h f =
      subst (λ w. w < length (vertices plan)) (some_same h.0.reader u (ap reader_of (sym h.1) ∙ f)) (has_reader plan lawful h.0.source h.0.reader (joins plan lawful e h.0 h.1))

  pub last_within : (place : Place) (u : ℕ) → HasPlace plan place → last_vertex plan place ≡ Some u → u < length (vertices plan)
  last_within (places.Vertex v) u h e = subst (λ w. w < length (vertices plan)) (some_same v u e) h
  last_within (places.Edge e) u h f =
      subst (λ w. w < length (vertices plan)) (some_same h.0.source u (ap source_of (sym h.1) ∙ f)) (has_source plan lawful h.0.source h.0.reader (joins plan lawful e h.0 h.1))

  -- A PATH BY THE TABLE
  by_table : (from to : Place) (u : ℕ) → BeginsAt plan from u → HasPlace plan to → is_path_between plan (Some u) (last_vertex plan to) ≡ true → Leads plan from to
  by_table from (places.Vertex w) u b has h = by (least_effect plan u w) refl h
    where
      by : (o : Option Effect) → least_effect plan u w ≡ o → is_some o ≡ true → Leads plan from (places.Vertex w)
      by None e h = absurd (cc)
      by (Some s) e h =
          let f = found plan lawful u w s e in
          let r = trip plan lawful u w f.way [] tt in
          let z = r.ends from b in
          record { first = u; path = r.path; begins = b; is_path = r.is_path; ends = inr (w, subst (λ x. BeginsAt plan x w) (sym z.2) z.1, refl) }
  by_table from (places.Edge e) u b has h = by (least_effect plan u edge.source) refl (subst (λ o. is_path_between plan (Some u) (source_of o) ≡ true) has.1 h)
    where
      edge : Edge
      edge = has.0

      by : (o : Option Effect) → least_effect plan u edge.source ≡ o → is_some o ≡ true → Leads plan from (places.Edge e)
      by None g h = absurd (cc)
      by (Some s) g h =
          let f = found plan lawful u edge.source s g in
          let r = trip plan lawful u edge.source f.way (e ∷ []) (edge, has.1, refl, tt) in
          let z = r.ends from b in
          record { first = u; path = r.path; begins = b; is_path = r.is_path; ends = inl z.2 }

  from_table : (from to : Place) → HasPlace plan from → HasPlace plan to → is_path_between plan (first_vertex plan from) (last_vertex plan to) ≡ true → Leads plan from to
  from_table (places.Vertex v) to hf ht h = by_table (places.Vertex v) to v refl ht h
  from_table (places.Edge e) to hf ht h =
      by_table (places.Edge e) to hf.0.reader (hf.0, hf.1, refl) ht (subst (λ o. is_path_between plan (reader_of o) (last_vertex plan to) ≡ true) hf.1 h)

  at_once : (from to : Place) → HasPlace plan from → is_same_edge from to ≡ true → Leads plan from to
  at_once (places.Vertex v) to hf h = absurd (cc)
  at_once (places.Edge e) (places.Vertex w) hf h = absurd (cc)
  at_once (places.Edge e) (places.Edge f) hf h = record { first = hf.0.reader; path = []; begins = (hf.0, hf.1, refl); is_path = tt; ends = inl (ap places.Edge (eqb-true e f h)) }

  pub leads_true : (from to : Place) → HasPlace plan from → HasPlace plan to → leads_test plan from to ≡ true → Leads plan from to
  leads_true from to hf ht h = by (is_same_edge from to) refl h
    where
      by : (b : Bool) → is_same_edge from to ≡ b → (b || is_path_between plan (first_vertex plan from) (last_vertex plan to)) ≡ true → Leads plan from to
      by true e h = at_once from to hf e
      by false e h = from_table from to hf ht h

  -- A PATH, so one by the table
  module _ (laws : OrderLaws) where
    -- of any path the table has an effect: that of the earliest time, whatever the time is at which it is asked
    way_known : (u v : ℕ) → Way plan lawful u v → is_some (least_effect plan u v) ≡ true
    way_known u v w = let c = way_covers plan lawful laws u v w (reads plan u) refl in ap is_some c.is

    vertex_known : (u w : ℕ) (to : Place) → to ≡ places.Vertex w → Way plan lawful u w → is_path_between plan (Some u) (last_vertex plan to) ≡ true
    vertex_known u w to e way = ap (λ x. is_path_between plan (Some u) (last_vertex plan x)) e ∙ way_known u w way

    edge_known : (u e : ℕ) (edge : Edge) (to : Place) → to ≡ places.Edge e → IsEdge plan e edge → Way plan lawful u edge.source → is_path_between plan (Some u) (last_vertex plan to) ≡ true
    edge_known u e edge to same at way =
        ap (λ x. is_path_between plan (Some u) (last_vertex plan x)) same ∙ (ap (λ o. is_path_between plan (Some u) (source_of o)) at ∙ way_known u edge.source way)

    or_true : (a b : Bool) → b ≡ true → (a || b) ≡ true
    or_true true b h = refl
    or_true false b h = h

    from_first : (from to : Place) (u : ℕ) → BeginsAt plan from u → is_path_between plan (Some u) (last_vertex plan to) ≡ true → leads_test plan from to ≡ true
    from_first from to u b h =
        or_true (is_same_edge from to) (is_path_between plan (first_vertex plan from) (last_vertex plan to)) (ap (λ o. is_path_between plan o (last_vertex plan to)) (first_is plan lawful from u b) ∙ h)

    stays : (from to : Place) → (from ≡ to) ⊎ ((w : ℕ) × BeginsAt plan from w × (to ≡ places.Vertex w)) → leads_test plan from to ≡ true
    stays from to (inr x) = from_first from to x.0 x.1 (vertex_known x.0 x.0 to x.2 (inl refl))
    stays (places.Vertex v) to (inl x) = from_first (places.Vertex v) to v refl (vertex_known v v to (sym x) (inl refl))
    stays (places.Edge e) to (inl x) =
        let here : is_same_edge (places.Edge e) to ≡ true = subst (λ y. is_same_edge (places.Edge e) y ≡ true) x (eq-eqb e e refl) in
        ap (λ b. b || is_path_between plan (first_vertex plan (places.Edge e)) (last_vertex plan to)) here

    moves : (from to : Place) (u e : ℕ) (path : List ℕ) → BeginsAt plan from u → IsPath plan u (e ∷ path) → EndsAt plan from (e ∷ path) to → leads_test plan from to ≡ true
    moves from to u e path b is_path ends = from_first from to u b (by ends)
      where
        r : Arrives plan lawful u (e ∷ path)
        r = arrives plan lawful path e u is_path

        by : EndsAt plan from (e ∷ path) to → is_path_between plan (Some u) (last_vertex plan to) ≡ true
        by (inl x) = edge_known u r.last r.edge to (sym x ∙ r.last_is from) r.is_edge r.way
        by (inr x) =
            let at : BeginsAt plan (places.Edge r.last) x.0 = subst (λ y. BeginsAt plan y x.0) (r.last_is from) x.1 in
            let own : at.0 ≡ r.edge = same_edge plan lawful r.last at.0 r.edge at.1 r.is_edge in
            let leads : r.edge.reader ≡ x.0 = sym (ap (λ (y : Edge). y.reader) own) ∙ at.2 in
            vertex_known u r.edge.reader to (x.2 ∙ ap places.Vertex (sym leads)) (way_on plan lawful laws u r.last r.edge r.is_edge r.way)

    pub true_if_leads : (from to : Place) → Leads plan from to → leads_test plan from to ≡ true
    true_if_leads from to k = by k.path k.is_path k.ends
      where
        by : (path : List ℕ) → IsPath plan k.first path → EndsAt plan from path to → leads_test plan from to ≡ true
        by [] is_path ends = stays from to ends
        by (e ∷ path) is_path ends = moves from to k.first e path k.begins is_path ends
