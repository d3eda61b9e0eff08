-- What the table answers is whether one pointstamp could result in another.
use Rattle.std.proofs.Common.{◌≡◌, ℕ, ◌⊎◌, inl, inr, Bool, true, false, ◌==◌, List, [], ◌∷◌, ◌++◌, length, refl, ap, sym, ◌∙◌, subst, arith, eq-eqb, eqb-true}
use Rattle.std.specs.Prelude.{Option, None, Some, ◌&&◌, ◌||◌}
use Rattle.std.specs.List.{slice_get}
use Rattle.std.proofs.lemmas.List.{length-map}
use Rattle.td_stamp.specs.Time.{Timestamp, depth, IsAtMost, time_le}
use Rattle.td_plan.specs.declared.vertex.Edge.{Edge}
use Rattle.td_plan.specs.declared.vertex.Loop.{Loop}
use Rattle.td_plan.specs.Lines.{Line}
use Rattle.td_plan.specs.Blocks.{edges, vertices, kind_at, reading_loops_at, read_loops_at}
use Rattle.td_plan.specs.Faults.{IsPlan}
use Rattle.td_reach.specs.declared.stamp.Place.{Place}
use Rattle.td_reach.specs.declared.stamp.Place.TheVariants as places
use Rattle.td_reach.specs.declared.stamp.Stamp.{Stamp}
use Rattle.td_reach.specs.Paths.{IsEdge, IsPath, adjust, over, BeginsAt, EndsAt, last_of, Could, HasDepth, IsOfPlace, IsOf}
use Rattle.td_reach.specs.Summaries.{Effect, apply, nothing, and_then, effect_by}
use Rattle.td_reach.specs.Tables.{least_effect, through, turns_to, reader_of, first_vertex, effect_onto, effect_to, turns_from, is_same_edge, could_test}
use Rattle.td_reach.proofs.Order.{OrderLaws, AreNotLater-length}
use Rattle.td_reach.proofs.Effects.{turned, raised-zero, and_then-apply, by-effect}
use Rattle.td_reach.proofs.Lawful.{both}
use Rattle.td_reach.proofs.Split.{AllBelow}
use Rattle.td_reach.proofs.Graph.{Joins, goes_over, reads, Fits, step-Fits, path-Fits, read_where_read, has_reader}
use Rattle.td_reach.proofs.Closed.{Path, turned_along, to_itself, sound, joined_paths, along_both, Covers, covers, through_covers}

module _ (plan : List Line) (lawful : IsPlan plan) where
  abbrev pub P : ℕ → List ℕ → ℕ → Type 0
  P u xs v = Path plan lawful u xs v

  abbrev pub A : ℕ → List ℕ → List ℕ → List ℕ
  A u xs cs = turned_along plan lawful u xs cs

  -- a path, or none at all
  abbrev pub Way : ℕ → ℕ → Type 0
  Way u v = (u ≡ v) ⊎ ((xs : List ℕ) × P u xs v)

  abbrev pub along_way : (u v : ℕ) → Way u v → List ℕ → List ℕ
  along_way u v (inl e) cs = cs
  along_way u v (inr w) cs = A u w.0 cs

  pub way-Fits : (u v : ℕ) (w : Way u v) (cs : List ℕ) → Fits plan u cs → Fits plan v (along_way u v w cs)
  way-Fits u v (inl e) cs f = subst (λ x. Fits plan x cs) e f
  way-Fits u v (inr w) cs f = path-Fits plan lawful w.0 u v cs w.1 f

  -- vertices on paths are vertices of the plan
  all_below : (xs : List ℕ) (u v : ℕ) → P u xs v → AllBelow (Joins plan) (goes_over plan) (length (vertices plan)) xs
  all_below [] u v p = tt
  all_below (x ∷ xs) u v p = (has_reader plan lawful u x p.0, all_below xs x v p.1)

  -- TIMES ALONG EDGES
  pub over_is : (e : ℕ) (edge : Edge) (t : Timestamp) → IsEdge plan e edge → over plan (slice_get (edges plan) e) t ≡ turned t (goes_over plan edge.source t.turns)
  over_is e edge t at = ap (λ o. over plan o t) at ∙ by-effect (kind_at plan edge.source) t

  pub joins : (e : ℕ) (edge : Edge) → IsEdge plan e edge → Joins plan edge.source edge.reader
  joins e edge at = (edge, (e, at), refl, refl)

  -- A PATH OF EDGES AS ONE OF VERTICES: to the source of its last edge, and over that
  pub record Arrives (u : ℕ) (path : List ℕ) : Type 0 where
    pub last : ℕ
    pub edge : Edge
    pub is_edge : IsEdge plan last edge
    pub last_is : (start : Place) → last_of plan start path ≡ places.Edge last
    pub way : Way u edge.source
    pub times : (t : Timestamp) → adjust plan path t ≡ turned t (goes_over plan edge.source (along_way u edge.source way t.turns))

  abbrev longer_way : (u x v : ℕ) → Joins plan u x → Way x v → Way u v
  longer_way u x v j (inl e) = inr ([], subst (λ w. Joins plan u w) e j)
  longer_way u x v j (inr w) = inr (x ∷ w.0, (j, w.1))

  longer_along : (u x v : ℕ) (j : Joins plan u x) (w : Way x v) (cs : List ℕ) → along_way u v (longer_way u x v j w) cs ≡ along_way x v w (goes_over plan u cs)
  longer_along u x v j (inl e) cs = refl
  longer_along u x v j (inr w) cs = refl

  pub arrives : (path : List ℕ) (e u : ℕ) → IsPath plan u (e ∷ path) → Arrives u (e ∷ path)
  arrives [] e u p = record { last = e; edge = p.0; is_edge = p.1; last_is = λ start. refl; way = inl (sym p.2); times = λ t. over_is e p.0 t p.1 }
  arrives (f ∷ path) e u p =
      let r : Arrives p.0.reader (f ∷ path) = arrives path f p.0.reader p.3 in
      let j : Joins plan u p.0.reader = (p.0, (e, p.1), p.2, refl) in
      record {
        last = r.last;
        edge = r.edge;
        is_edge = r.is_edge;
        last_is = λ start. r.last_is (places.Edge e);
        way = longer_way u p.0.reader r.edge.source j r.way;
        times = λ t.
            ap (adjust plan (f ∷ path)) (over_is e p.0 t p.1 ∙ ap (λ s. turned t (goes_over plan s t.turns)) p.2) ∙ (r.times (turned t (goes_over plan u t.turns))
            ∙ ap (λ ds. turned t (goes_over plan r.edge.source ds)) (sym (longer_along u p.0.reader r.edge.source j r.way t.turns)));
      }

  -- A PATH OF VERTICES AS ONE OF EDGES, and others after it
  record Goes (u : ℕ) (xs : List ℕ) (v : ℕ) (tail : List ℕ) : Type 0 where
    path : List ℕ
    is_path : IsPath plan u path
    times : (t : Timestamp) → adjust plan path t ≡ adjust plan tail (turned t (A u xs t.turns))
    last : ℕ
    edge : Edge
    is_last : IsEdge plan last edge
    leads : edge.reader ≡ v
    ends : (start : Place) → last_of plan start path ≡ last_of plan (places.Edge last) tail

  by_edges : (xs : List ℕ) (u v : ℕ) (tail : List ℕ) → P u xs v → IsPath plan v tail → Goes u xs v tail
  by_edges [] u v tail p more = record {
    path = p.1.0 ∷ tail;
    is_path = (p.0, p.1.1, p.2, subst (λ w. IsPath plan w tail) (sym p.3) more);
    times = λ t. ap (adjust plan tail) (over_is p.1.0 p.0 t p.1.1 ∙ ap (λ s. turned t (goes_over plan s t.turns)) p.2);
    last = p.1.0;
    edge = p.0;
    is_last = p.1.1;
    leads = p.3;
    ends = λ start. refl;
  }
  by_edges (x ∷ xs) u v tail p more =
      let r : Goes x xs v tail = by_edges xs x v tail p.1 more in
      let j = p.0 in
      record {
        path = j.1.0 ∷ r.path;
        is_path = (j.0, j.1.1, j.2, subst (λ w. IsPath plan w r.path) (sym j.3) r.is_path);
        times = λ t. ap (adjust plan r.path) (over_is j.1.0 j.0 t j.1.1 ∙ ap (λ s. turned t (goes_over plan s t.turns)) j.2) ∙ r.times (turned t (goes_over plan u t.turns));
        last = r.last;
        edge = r.edge;
        is_last = r.is_last;
        leads = r.leads;
        ends = λ start. r.ends (places.Edge j.1.0);
      }

  -- a way, and a path of edges after it
  pub record Trip (u v : ℕ) (way : Way u v) (tail : List ℕ) : Type 0 where
    pub path : List ℕ
    pub is_path : IsPath plan u path
    pub times : (t : Timestamp) → adjust plan path t ≡ adjust plan tail (turned t (along_way u v way t.turns))
    pub ends : (start : Place) → BeginsAt plan start u → (middle : Place) × BeginsAt plan middle v × (last_of plan start path ≡ last_of plan middle tail)

  pub trip : (u v : ℕ) (way : Way u v) (tail : List ℕ) → IsPath plan v tail → Trip u v way tail
  trip u v (inl e) tail more = record { path = tail; is_path = subst (λ w. IsPath plan w tail) (sym e) more; times = λ t. refl; ends = λ start b. (start, subst (BeginsAt plan start) e b, refl) }
  trip u v (inr w) tail more =
      let r = by_edges w.0 u v tail w.1 more in
      record { path = r.path; is_path = r.is_path; times = r.times; ends = λ start b. (places.Edge r.last, (r.edge, r.is_last, r.leads), r.ends start) }

  -- THE TABLE'S EFFECTS
  pub record Found (u v : ℕ) (s : Effect) : Type 0 where
    pub way : Way u v
    pub same : (cs : List ℕ) → apply s cs ≡ along_way u v way cs

  pub found : (u v : ℕ) (s : Effect) → least_effect plan u v ≡ Some s → Found u v s
  found u v s h = by (u == v) refl
    where
      by : (b : Bool) → (u == v) ≡ b → Found u v s
      by true e =
          let at : u ≡ v = eqb-true u v e in
          let own : least_effect plan u v ≡ Some nothing = subst (λ w. least_effect plan u w ≡ Some nothing) at (to_itself plan lawful (length (vertices plan)) u) in
          let same : nothing ≡ s = cc in
          record { way = inl at; same = λ cs. subst (λ r. apply r cs ≡ cs) same (raised-zero cs) }
      by false e = let k = sound plan lawful (length (vertices plan)) u v s e h in record { way = inr (k.between, k.path); same = k.same }

  -- TIMES OF PLACES
  pub same_edge : (e : ℕ) (a b : Edge) → IsEdge plan e a → IsEdge plan e b → a ≡ b
  same_edge e a b h k = by (sym h ∙ k)
    where
      by : Some a ≡ Some b → a ≡ b
      by s = cc

  pub edge_fits : (edge : Edge) (e : ℕ) (t : Timestamp) → IsEdge plan e edge → HasDepth plan (read_loops_at plan edge.source) t → Fits plan edge.reader t.turns
  edge_fits edge e t at h =
      let r = read_where_read plan lawful edge.source edge.reader (joins e edge at) in
      let d : depth t ≡ length r.there = subst (λ o. HasDepth plan o t) r.is h in
      d ∙ (sym (length-map r.there (λ (l : Loop). l.first)) ∙ ap length (sym r.same))

  pub stamp_fits : (place : Place) (t : Timestamp) (u : ℕ) → IsOfPlace plan place t → BeginsAt plan place u → Fits plan u t.turns
  stamp_fits (places.Vertex v) t u h b = subst (λ w. Fits plan w t.turns) b (h.1 ∙ sym (length-map (reading_loops_at plan v) (λ (l : Loop). l.first)))
  stamp_fits (places.Edge e) t u h b =
      let same : b.0 ≡ h.0 = same_edge e b.0 h.0 b.1 h.1 in
      subst (λ w. Fits plan w t.turns) (sym (ap (λ (x : Edge). x.reader) same) ∙ b.2) (edge_fits h.0 e t h.1 h.2)

  pub first_is : (place : Place) (u : ℕ) → BeginsAt plan place u → first_vertex plan place ≡ Some u
  first_is (places.Vertex v) u b = ap Some b
  first_is (places.Edge e) u b = ap reader_of b.1 ∙ ap Some b.2

  module _ (laws : OrderLaws) where
    pub way_covers : (u v : ℕ) (w : Way u v) (cs : List ℕ) → Fits plan u cs → Covers (least_effect plan u v) cs (along_way u v w cs)
    way_covers u v (inl e) cs f = subst (λ x. Covers (least_effect plan u x) cs cs) e (record { effect = nothing; is = to_itself plan lawful (length (vertices plan)) u; early = inr (raised-zero cs) })
    way_covers u v (inr w) cs f = covers plan lawful laws (length (vertices plan)) u v w.0 cs f w.1 (all_below w.0 u v w.1)

    -- IN TIME BY THE TABLE, so could result in
    in_time : (t u : Timestamp) (ds es : List ℕ) (after : Timestamp) → after ≡ turned t es → ds ≡ es → length es ≡ depth u → time_le (turned t ds) u ≡ true → IsAtMost after u
    in_time t u ds es after a same e h = subst (λ x. IsAtMost x u) (sym a) ((laws.tested (turned t es) u e).0 (subst (λ x. time_le (turned t x) u ≡ true) same h))

    could_by_table : (pp qp : Place) (t u : Timestamp) (first : ℕ) → IsOfPlace plan pp t → IsOfPlace plan qp u → BeginsAt plan pp first → turns_to (effect_to plan first qp) t u ≡ true
        → Could plan (record { time = t; place = pp }) (record { time = u; place = qp })
    could_by_table pp (places.Vertex w) t u first hp hq b h = by (least_effect plan first w) refl h
      where
        fits : Fits plan first t.turns
        fits = stamp_fits pp t first hp b

        by : (o : Option Effect) → least_effect plan first w ≡ o → turns_to o t u ≡ true → Could plan (record { time = t; place = pp }) (record { time = u; place = places.Vertex w })
        by None e h = absurd (cc)
        by (Some s) e h =
            let f = found first w s e in
            let r = trip first w f.way [] tt in
            let z = r.ends pp b in
            record {
              first = first;
              path = r.path;
              begins = b;
              is_path = r.is_path;
              ends = inr (w, subst (λ x. BeginsAt plan x w) (sym z.2) z.1, refl);
              in_time = in_time t u (apply s t.turns) (along_way first w f.way t.turns) (adjust plan r.path t) (r.times t) (f.same t.turns)
                  (way-Fits first w f.way t.turns fits ∙ sym (stamp_fits (places.Vertex w) u w hq refl)) h;
            }
    could_by_table pp (places.Edge e) t u first hp hq b h = by (least_effect plan first edge.source) refl (subst (λ o. turns_to (effect_onto plan first o) t u ≡ true) at h)
      where
        edge : Edge
        edge = hq.0

        at : IsEdge plan e edge
        at = hq.1

        by : (o : Option Effect) → least_effect plan first edge.source ≡ o → turns_to (through o (Some (effect_by (kind_at plan edge.source)))) t u ≡ true
            → Could plan (record { time = t; place = pp }) (record { time = u; place = places.Edge e })
        by None f h = absurd (cc)
        by (Some s) g h =
            let f = found first edge.source s g in
            let r = trip first edge.source f.way (e ∷ []) (edge, at, refl, tt) in
            let z = r.ends pp b in
            let fits = way-Fits first edge.source f.way t.turns (stamp_fits pp t first hp b) in
            record {
              first = first;
              path = r.path;
              begins = b;
              is_path = r.is_path;
              ends = inl z.2;
              in_time = in_time t u (apply (and_then s (effect_by (kind_at plan edge.source))) t.turns) (goes_over plan edge.source (along_way first edge.source f.way t.turns)) (adjust plan r.path t)
                  (r.times t ∙ over_is e edge (turned t (along_way first edge.source f.way t.turns)) at)
                  (and_then-apply s (effect_by (kind_at plan edge.source)) t.turns ∙ ap (goes_over plan edge.source) (f.same t.turns))
                  (step-Fits plan lawful edge.source edge.reader (along_way first edge.source f.way t.turns) (joins e edge at) fits ∙ sym (edge_fits edge e u at hq.2)) h;
            }

    could_at_once : (pp qp : Place) (t u : Timestamp) → IsOfPlace plan pp t → IsOfPlace plan qp u → is_same_edge pp qp ≡ true → time_le t u ≡ true → Could plan (record { time = t; place = pp }) (record { time = u; place = qp })
    could_at_once (places.Vertex v) qp t u hp hq s h = absurd (cc)
    could_at_once (places.Edge e) (places.Vertex w) t u hp hq s h = absurd (cc)
    could_at_once (places.Edge e) (places.Edge f) t u hp hq s h =
        let same : e ≡ f = eqb-true e f s in
        let here : IsEdge plan f hp.0 = subst (λ n. IsEdge plan n hp.0) same hp.1 in
        let edges_same : hp.0 ≡ hq.0 = same_edge f hp.0 hq.0 here hq.1 in
        let deep : depth t ≡ depth u = edge_fits hp.0 f t here hp.2 ∙ (ap (λ (x : Edge). length (reads plan x.reader)) edges_same ∙ sym (edge_fits hq.0 f u hq.1 hq.2)) in
        record { first = hp.0.reader; path = []; begins = (hp.0, hp.1, refl); is_path = tt; ends = inl (ap places.Edge same); in_time = (laws.tested t u deep).0 h }

    table_from : (pp qp : Place) (t u : Timestamp) → IsOfPlace plan pp t → IsOfPlace plan qp u → turns_from plan (first_vertex plan pp) (record { time = t; place = pp }) (record { time = u; place = qp }) ≡ true
        → Could plan (record { time = t; place = pp }) (record { time = u; place = qp })
    table_from (places.Vertex v) qp t u hp hq h = could_by_table (places.Vertex v) qp t u v hp hq refl h
    table_from (places.Edge e) qp t u hp hq h =
        could_by_table (places.Edge e) qp t u hp.0.reader hp hq (hp.0, hp.1, refl)
        (subst (λ o. turns_from plan (reader_of o) (record { time = t; place = places.Edge e }) (record { time = u; place = qp }) ≡ true) hp.1 h)

    pub could_true : (p q : Stamp) → IsOf plan p → IsOf plan q → could_test plan p q ≡ true → Could plan p q
    could_true p q hp hq h = by (is_same_edge p.place q.place && time_le p.time q.time) refl h
      where
        by : (b : Bool) → (is_same_edge p.place q.place && time_le p.time q.time) ≡ b → (b || turns_from plan (first_vertex plan p.place) p q) ≡ true → Could plan p q
        by true e h = let parts = both (is_same_edge p.place q.place) (time_le p.time q.time) e in could_at_once p.place q.place p.time q.time hp hq parts.0 parts.1
        by false e h = table_from p.place q.place p.time q.time hp hq h

    -- COULD RESULT IN, so in time by the table
    table_true : (o : Option Effect) (t u : Timestamp) (limit : List ℕ) → Covers o t.turns limit → length limit ≡ depth u → IsAtMost (turned t limit) u → turns_to o t u ≡ true
    table_true o t u limit c e h =
        let long : length (apply c.effect t.turns) ≡ length limit = AreNotLater-length (apply c.effect t.turns) limit c.early in
        let first : IsAtMost (turned t (apply c.effect t.turns)) (turned t limit) = record { epoch = omega arith; turns = c.early } in
        ap (λ x. turns_to x t u) c.is ∙ (laws.tested (turned t (apply c.effect t.turns)) u (long ∙ e)).1 (laws.times_transitive (turned t (apply c.effect t.turns)) (turned t limit) u first h)

    vertex_true : (t u : Timestamp) (first w : ℕ) (qp : Place) → Fits plan first t.turns → IsOfPlace plan qp u → qp ≡ places.Vertex w → (way : Way first w) → IsAtMost (turned t (along_way first w way t.turns)) u
        → turns_to (effect_to plan first qp) t u ≡ true
    vertex_true t u first w qp f hq e way h =
        let hw : IsOfPlace plan (places.Vertex w) u = subst (λ x. IsOfPlace plan x u) e hq in
        ap (λ x. turns_to (effect_to plan first x) t u) e
        ∙ table_true (least_effect plan first w) t u (along_way first w way t.turns) (way_covers first w way t.turns f) (way-Fits first w way t.turns f ∙ sym (stamp_fits (places.Vertex w) u w hw refl)) h

    edge_true : (t u : Timestamp) (first e : ℕ) (edge : Edge) (qp : Place) → Fits plan first t.turns → IsOfPlace plan qp u → qp ≡ places.Edge e → IsEdge plan e edge → (way : Way first edge.source)
        → IsAtMost (turned t (goes_over plan edge.source (along_way first edge.source way t.turns))) u → turns_to (effect_to plan first qp) t u ≡ true
    edge_true t u first e edge qp f hq same at way h =
        let he : IsOfPlace plan (places.Edge e) u = subst (λ x. IsOfPlace plan x u) same hq in
        let own : he.0 ≡ edge = same_edge e he.0 edge he.1 at in
        let ds = along_way first edge.source way t.turns in
        let deep : HasDepth plan (read_loops_at plan edge.source) u = subst (λ (x : Edge). HasDepth plan (read_loops_at plan x.source) u) own he.2 in
        let over_it : Covers (Some (effect_by (kind_at plan edge.source))) ds (goes_over plan edge.source ds) = record { effect = effect_by (kind_at plan edge.source); is = refl; early = inr refl } in
        ap (λ x. turns_to (effect_to plan first x) t u) same ∙ (ap (λ o. turns_to (effect_onto plan first o) t u) at
        ∙ table_true (through (least_effect plan first edge.source) (Some (effect_by (kind_at plan edge.source)))) t u (goes_over plan edge.source ds)
        (through_covers plan lawful laws (least_effect plan first edge.source) (Some (effect_by (kind_at plan edge.source))) t.turns ds (goes_over plan edge.source ds) (way_covers first edge.source way t.turns f) over_it)
        (step-Fits plan lawful edge.source edge.reader ds (joins e edge at) (way-Fits first edge.source way t.turns f) ∙ sym (edge_fits edge e u at deep)) h)

    or_true : (a b : Bool) → b ≡ true → (a || b) ≡ true
    or_true true b h = refl
    or_true false b h = h

    by_table : (p q : Stamp) (first : ℕ) → BeginsAt plan p.place first → turns_to (effect_to plan first q.place) p.time q.time ≡ true → could_test plan p q ≡ true
    by_table p q first b h = or_true (is_same_edge p.place q.place && time_le p.time q.time) (turns_from plan (first_vertex plan p.place) p q) (ap (λ o. turns_from plan o p q) (first_is p.place first b) ∙ h)

    -- a path of no edges
    stays_true : (pp qp : Place) (t u : Timestamp) (first : ℕ) → IsOfPlace plan pp t → IsOfPlace plan qp u → BeginsAt plan pp first → IsAtMost t u → EndsAt plan pp [] qp
        → could_test plan (record { time = t; place = pp }) (record { time = u; place = qp }) ≡ true
    stays_true pp qp t u first hp hq b h (inr x) =
        by_table (record { time = t; place = pp }) (record { time = u; place = qp }) x.0 x.1 (vertex_true t u x.0 x.0 qp (stamp_fits pp t x.0 hp x.1) hq x.2 (inl refl) h)
    stays_true (places.Vertex v) qp t u first hp hq b h (inl x) =
        by_table (record { time = t; place = places.Vertex v }) (record { time = u; place = qp }) v refl (vertex_true t u v v qp (stamp_fits (places.Vertex v) t v hp refl) hq (sym x) (inl refl) h)
    stays_true (places.Edge e) qp t u first hp hq b h (inl x) =
        let he : IsOfPlace plan (places.Edge e) u = subst (λ y. IsOfPlace plan y u) (sym x) hq in
        let own : hp.0 ≡ he.0 = same_edge e hp.0 he.0 hp.1 he.1 in
        let deep : depth t ≡ depth u = edge_fits hp.0 e t hp.1 hp.2 ∙ (ap (λ (y : Edge). length (reads plan y.reader)) own ∙ sym (edge_fits he.0 e u he.1 he.2)) in
        let here : (is_same_edge (places.Edge e) qp && time_le t u) ≡ true = subst (λ y. (is_same_edge (places.Edge e) y && time_le t u) ≡ true) x ((λ i. eq-eqb e e refl i && time_le t u) ∙ (laws.tested t u deep).1 h) in
        ap (λ c. c || turns_from plan (first_vertex plan (places.Edge e)) (record { time = t; place = places.Edge e }) (record { time = u; place = qp })) here

    -- on to the reader of an edge
    abbrev pub way_on : (u last : ℕ) (edge : Edge) → IsEdge plan last edge → Way u edge.source → Way u edge.reader
    way_on u last edge at (inl x) = inr ([], subst (λ w. Joins plan w edge.reader) (sym x) (joins last edge at))
    way_on u last edge at (inr x) = inr (x.0 ++ edge.source ∷ [], joined_paths plan lawful x.0 [] u edge.source edge.reader x.1 (joins last edge at))

    along_on : (u last : ℕ) (edge : Edge) (at : IsEdge plan last edge) (way : Way u edge.source) (cs : List ℕ) → goes_over plan edge.source (along_way u edge.source way cs) ≡ along_way u edge.reader (way_on u last edge at way) cs
    along_on u last edge at (inl x) cs = ap (λ w. goes_over plan w cs) (sym x)
    along_on u last edge at (inr x) cs = sym (along_both plan lawful x.0 [] u edge.source cs)

    -- a path of some
    moves_true : (pp qp : Place) (t u : Timestamp) (first e : ℕ) (path : List ℕ) → IsOfPlace plan pp t → IsOfPlace plan qp u → BeginsAt plan pp first → IsPath plan first (e ∷ path) → IsAtMost (adjust plan (e ∷ path) t) u
        → EndsAt plan pp (e ∷ path) qp → turns_to (effect_to plan first qp) t u ≡ true
    moves_true pp qp t u first e path hp hq b is_path h ends = by ends
      where
        r : Arrives first (e ∷ path)
        r = arrives path e first is_path

        fits : Fits plan first t.turns
        fits = stamp_fits pp t first hp b

        after : IsAtMost (turned t (goes_over plan r.edge.source (along_way first r.edge.source r.way t.turns))) u
        after = subst (λ x. IsAtMost x u) (r.times t) h

        by : EndsAt plan pp (e ∷ path) qp → turns_to (effect_to plan first qp) t u ≡ true
        by (inl x) = edge_true t u first r.last r.edge qp fits hq (sym x ∙ r.last_is pp) r.is_edge r.way after
        by (inr x) =
            let at : BeginsAt plan (places.Edge r.last) x.0 = subst (λ y. BeginsAt plan y x.0) (r.last_is pp) x.1 in
            let own : at.0 ≡ r.edge = same_edge r.last at.0 r.edge at.1 r.is_edge in
            let leads : r.edge.reader ≡ x.0 = sym (ap (λ (y : Edge). y.reader) own) ∙ at.2 in
            vertex_true t u first r.edge.reader qp fits hq (x.2 ∙ ap places.Vertex (sym leads)) (way_on first r.last r.edge r.is_edge r.way) (subst (λ ds. IsAtMost (turned t ds) u) (along_on first r.last r.edge r.is_edge r.way t.turns) after)

    pub true_if_could : (p q : Stamp) → IsOf plan p → IsOf plan q → Could plan p q → could_test plan p q ≡ true
    true_if_could p q hp hq k = by k.path k.is_path k.ends k.in_time
      where
        by : (path : List ℕ) → IsPath plan k.first path → EndsAt plan p.place path q.place → IsAtMost (adjust plan path p.time) q.time → could_test plan p q ≡ true
        by [] is_path ends h = stays_true p.place q.place p.time q.time k.first hp hq k.begins h ends
        by (e ∷ path) is_path ends h = by_table p q k.first k.begins (moves_true p.place q.place p.time q.time k.first e path hp hq k.begins is_path h ends)
