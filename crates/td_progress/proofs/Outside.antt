-- In no loop a path is enough: where one leads to the place of a pointstamp in no loop, whatever stands at its start could result in
-- that one, unless its epoch is later.
use Rattle.std.proofs.Common.{◌≡◌, ℕ, ◌≤◌, inl, inr, true, List, [], ◌∷◌, length, slice_get, Option, Some, None, refl, sym, ap, ◌∙◌, subst, true≢false, arith}
use Rattle.std.specs.Prelude.{drop, option_map}
use Rattle.td_stamp.specs.Time.{Timestamp, depth, outer_turns, raised}
use Rattle.td_plan.specs.declared.vertex.Kind.{Kind}
use Rattle.td_plan.specs.declared.vertex.Kind.TheVariants.{Enter, Feedback, Leave, Output}
use Rattle.td_plan.specs.declared.vertex.Loop.{Loop}
use Rattle.td_plan.specs.declared.vertex.Edge.{Edge}
use Rattle.td_plan.specs.Lines.{Line}
use Rattle.td_plan.specs.Blocks.{PlacedVertex, vertices, edges, reading_loops, read_loops, reading_loops_at, read_loops_at}
use Rattle.td_plan.specs.Faults.{is_in_loop}
use Rattle.td_plan.specs.LookedUp.{IsSourceAt}
use Rattle.td_plan.specs.Standing.{may_stand}
use Rattle.td_plan.specs.Times.{sent_at, sent_by}
use Rattle.td_reach.specs.declared.stamp.Place.{Place}
use Rattle.td_reach.specs.declared.stamp.Place.TheVariants as places
use Rattle.td_reach.specs.declared.stamp.Stamp.{Stamp}
use Rattle.td_reach.specs.Paths.{IsEdge, IsPath, over, adjust, BeginsAt, EndsAt, last_of, HasDepth, IsOfPlace, IsOf, Leads, Could}
use Rattle.td_progress.proofs.Counted.{none_is_some}

same_loops : {x y : List Loop} → Some x ≡ Some y → x ≡ y
same_loops e = cc

same_edge : {x y : Edge} → Some x ≡ Some y → x ≡ y
same_edge e = cc

no_counters : (xs ys : List ℕ) → length xs ≡ 0 → length ys ≡ 0 → xs ≡ ys
no_counters [] [] none also = refl
no_counters [] (y ∷ ys) none also = absurd (omega (arith, also))
no_counters (x ∷ xs) ys none also = absurd (omega (arith, none))

-- as many counters as loops
fewer : (cs : List ℕ) (loops : List Loop) → length cs ≡ length loops → length (outer_turns cs) ≡ length (drop 1 loops)
fewer [] [] deep = refl
fewer [] (l ∷ outer) deep = absurd (omega (arith, deep))
fewer (k ∷ cs) [] deep = absurd (omega (arith, deep))
fewer (k ∷ cs) (l ∷ outer) deep = omega (arith, deep)

as_many : (n : ℕ) (cs : List ℕ) → length (raised n cs) ≡ length cs
as_many n [] = refl
as_many n (k ∷ cs) = refl

sent_deep : (kind : Kind) (loops there : List Loop) (t : Timestamp) → may_stand (is_in_loop loops) kind ≡ true → read_loops kind loops ≡ Some there
    → depth t ≡ length (reading_loops kind loops) → depth (sent_at kind t) ≡ length there
sent_deep Enter [] there t stands read deep = absurd (true≢false (sym stands))
sent_deep Enter (l ∷ outer) there t stands read deep = let same = ap length (same_loops read) in omega (arith, deep, same)
sent_deep Leave loops there t stands read deep = fewer t.turns loops deep ∙ ap length (same_loops read)
sent_deep Feedback loops there t stands read deep = as_many 1 t.turns ∙ (deep ∙ ap length (same_loops read))
sent_deep Output loops there t stands read deep = absurd (none_is_some read)
sent_deep _ loops there t stands read deep = deep ∙ ap length (same_loops read)

-- The laws of a plan, as td_plan gives them
module _ (plan : List Line) (joined : (e : ℕ) (edge : Edge) → slice_get (edges plan) e ≡ Some edge → IsSourceAt plan edge.reader edge.port edge.source)
    (read_there : (reader port source : ℕ) → IsSourceAt plan reader port source → read_loops_at plan source ≡ Some (reading_loops_at plan reader))
    (stands : (v : ℕ) (p : PlacedVertex) → slice_get (vertices plan) v ≡ Some p → may_stand (is_in_loop p.loops) p.vertex.kind ≡ true) where
  -- a time that fits where an edge's source reads fits where its reader does, once it went over the edge
  step : (e : ℕ) (edge : Edge) → IsEdge plan e edge → (t : Timestamp) → depth t ≡ length (reading_loops_at plan edge.source)
      → depth (over plan (slice_get (edges plan) e) t) ≡ length (reading_loops_at plan edge.reader)
  step e edge at t deep =
      ap (λ o. depth (over plan o t)) at
      ∙ by (slice_get (vertices plan) edge.source) refl (read_there edge.reader edge.port edge.source (joined e edge at)) deep
    where
      by : (o : Option PlacedVertex) → slice_get (vertices plan) edge.source ≡ o
          → elim o [ None ↦ None | Some p ↦ read_loops p.vertex.kind p.loops ] ≡ Some (reading_loops_at plan edge.reader)
          → depth t ≡ length {A = Loop} (elim o [ None ↦ [] | Some p ↦ reading_loops p.vertex.kind p.loops ])
          → depth (sent_by (option_map (λ p. p.vertex.kind) o) t) ≡ length (reading_loops_at plan edge.reader)
      by None is read fits = absurd (none_is_some read)
      by (Some p) is read fits = sent_deep p.vertex.kind p.loops (reading_loops_at plan edge.reader) t (stands edge.source p is) read fits

  place_deep : (place : Place) (w : ℕ) (t : Timestamp) → BeginsAt plan place w → IsOfPlace plan place t → depth t ≡ length (reading_loops_at plan w)
  place_deep (places.Vertex v) w t begins of = of.1 ∙ ap (λ x. length (reading_loops_at plan x)) begins
  place_deep (places.Edge e) w t begins of =
      let same : of.0 ≡ begins.0 = same_edge (sym of.1 ∙ begins.1) in
      let deep : depth t ≡ length (reading_loops_at plan of.0.reader) =
      subst (λ o. HasDepth plan o t) (read_there of.0.reader of.0.port of.0.source (joined e of.0 of.1)) of.2 in
      deep ∙ (ap (λ (x : Edge). length (reading_loops_at plan x.reader)) same ∙ ap (λ x. length (reading_loops_at plan x)) begins.2)

  -- a time along a path
  along : (path : List ℕ) (start : Place) (v : ℕ) (t : Timestamp) → BeginsAt plan start v → IsPath plan v path → depth t ≡ length (reading_loops_at plan v)
      → (w : ℕ) × BeginsAt plan (last_of plan start path) w × (depth (adjust plan path t) ≡ length (reading_loops_at plan w))
  along [] start v t begins is deep = (v, begins, deep)
  along (e ∷ path) start v t begins is deep =
      along path (places.Edge e) is.0.reader (over plan (slice_get (edges plan) e) t) (is.0, is.1, refl) is.3
      (step e is.0 is.1 t (deep ∙ ap (λ x. length (reading_loops_at plan x)) (sym is.2)))

  begins_once : (place : Place) (v w : ℕ) → BeginsAt plan place v → BeginsAt plan place w → v ≡ w
  begins_once (places.Vertex x) v w one other = sym one ∙ other
  begins_once (places.Edge e) v w one other = sym one.2 ∙ (ap (λ (x : Edge). x.reader) (same_edge (sym one.1 ∙ other.1)) ∙ other.2)

  ends_deep : (start : Place) (path : List ℕ) (place : Place) (u : Timestamp) → EndsAt plan start path place → IsOfPlace plan place u
      → (w : ℕ) → BeginsAt plan (last_of plan start path) w → depth u ≡ length (reading_loops_at plan w)
  ends_deep start path place u (inl same) of w begins = place_deep place w u (subst (λ x. BeginsAt plan x w) same begins) of
  ends_deep start path place u (inr end) of w begins =
      let at : IsOfPlace plan (places.Vertex end.0) u = subst (λ x. IsOfPlace plan x u) end.2 of in
      at.1 ∙ ap (λ x. length (reading_loops_at plan x)) (begins_once (last_of plan start path) end.0 w end.1 begins)

  pub path_is_enough : ((path : List ℕ) (t : Timestamp) → (adjust plan path t).epoch ≡ t.epoch) → (p q : Stamp) → IsOf plan p → IsOf plan q
      → depth q.time ≡ 0 → p.time.epoch ≤ q.time.epoch → Leads plan p.place q.place → Could plan p q
  path_is_enough epochs p q of_p of_q flat in_time leads =
      let end = along leads.path p.place leads.first p.time leads.begins leads.is_path (place_deep p.place leads.first p.time leads.begins of_p) in
      let deep = ends_deep p.place leads.path q.place q.time leads.ends of_q end.0 end.1 in
      let none : length (adjust plan leads.path p.time).turns ≡ 0 = omega (arith, end.2, deep, flat) in
      record {
        first = leads.first;
        path = leads.path;
        begins = leads.begins;
        is_path = leads.is_path;
        ends = leads.ends;
        in_time = record {
          epoch = omega (arith, epochs leads.path p.time, in_time);
          turns = inr (no_counters (adjust plan leads.path p.time).turns q.time.turns none flat);
        };
      }
