-- What a message could result in: what it is given to, and what follows from that.
use Rattle.std.proofs.Common.{◌≡◌, ℕ, inl, inr, List, [], ◌∷◌, refl, ap, sym, ◌∙◌, subst}
use Rattle.std.specs.Prelude.{Option, Some, None}
use Rattle.std.specs.List.{AllByRecursion}
use Rattle.td_stamp.specs.Time.{Timestamp, IsAtMost, again}
use Rattle.std.specs.Prelude.{nat_lt, suc, Bool, true, false, if◌then◌else◌}
use Rattle.td_machine.proofs.Orders.{IsAtMost-refl}
use Rattle.td_plan.specs.declared.vertex.Kind.{Kind}
use Rattle.td_plan.specs.declared.vertex.Kind.TheVariants.{Input, Map, Distinct, Group, Fold, Enter, Feedback, Leave, Output}
use Rattle.td_plan.specs.declared.vertex.Edge.{Edge}
use Rattle.td_plan.specs.Lines.{Line}
use Rattle.td_plan.specs.Blocks.{edge_at, kind_at}
use Rattle.td_reach.specs.declared.stamp.Place.{Place}
use Rattle.td_reach.specs.declared.stamp.Place.TheVariants as places
use Rattle.td_reach.specs.declared.stamp.Stamp.{Stamp}
use Rattle.td_plan.specs.Times.{sent_at, sent_by}
use Rattle.td_reach.specs.Paths.{Could, IsPath, EndsAt, adjust, over}
use Rattle.td_machine.specs.declared.records.Message.{Message}
use Rattle.td_machine.specs.Active.{kind_or, kind_of, bound_of, stamp_of_message, stamp_at}
use Rattle.td_machine.specs.Steps.{sending_times, again_below}
use Rattle.td_machine.proofs.History.{IsOnEdge}
use Rattle.td_machine.proofs.PlanFacts.{IsFound}

-- a vertex sends at no other time than the one of paths
sends_again : (bound : ℕ) (t : Timestamp) (turns : List ℕ) → AllByRecursion (λ (later : Timestamp). later ≡ again t) (again_below bound t turns)
sends_again bound t [] = tt
sends_again bound t (k ∷ outer) = by (nat_lt (suc k) bound)
  where
    by : (b : Bool) → AllByRecursion (λ (later : Timestamp). later ≡ again t) (if b then again t ∷ [] else [])
    by true = (refl, tt)
    by false = tt

sends_when : (kind : Kind) (bound : ℕ) (t : Timestamp) → AllByRecursion (λ later. later ≡ sent_at kind t) (sending_times kind bound t)
sends_when Enter bound t = (refl, tt)
sends_when Leave bound t = (refl, tt)
sends_when Feedback bound t = sends_again bound t t.turns
sends_when Input bound t = (refl, tt)
sends_when (Map code) bound t = (refl, tt)
sends_when Distinct bound t = (refl, tt)
sends_when (Group code) bound t = (refl, tt)
sends_when (Fold code) bound t = (refl, tt)
sends_when Output bound t = (refl, tt)

sent_kind : (o : Option Kind) (t : Timestamp) → sent_at (kind_or o) t ≡ sent_by o t
sent_kind None t = refl
sent_kind (Some k) t = refl

pub sending_is : (plan : List Line) (v : ℕ) (t : Timestamp) → AllByRecursion (λ later. later ≡ sent_by (kind_at plan v) t) (sending_times (kind_of plan v) (bound_of plan v) t)
sending_is plan v t = subst (λ u. AllByRecursion (λ later. later ≡ u) (sending_times (kind_of plan v) (bound_of plan v) t)) (sent_kind (kind_at plan v) t) (sends_when (kind_of plan v) (bound_of plan v) t)

some_same : {X : Type 0} (x y : X) → Some x ≡ Some y → x ≡ y
some_same x y e = ap (λ o. elim o [ None ↦ x | Some z ↦ z ]) e

-- a place is an edge or a vertex
pub edge_not_vertex : (n v : ℕ) (t u : Timestamp) → ◌≡◌ {A = Stamp} (record { time = t; place = places.Edge n }) (record { time = u; place = places.Vertex v }) → ⊥
edge_not_vertex n v t u e = let p : places.Edge n ≡ places.Vertex v = ap (λ (s : Stamp). s.place) e in cc

module _ (plan : List Line) where
  -- a message could result in the notification of what it comes to
  pub could_arrive : (c : Message) → IsOnEdge plan c → Could plan (stamp_of_message plan c) (stamp_at c.vertex c.time)
  could_arrive c on = record { first = c.vertex; path = []; begins = on; is_path = tt; ends = inr (c.vertex, on, refl); in_time = IsAtMost-refl c.time }

  -- a path over an edge, and the path from there
  module _ (e : Edge) (later t : Timestamp) (found : IsFound plan e) (when : later ≡ sent_by (kind_at plan e.source) t) (q : Stamp) (k : Could plan (record { time = later; place = places.Edge (edge_at plan e.reader e.port) }) q) where
    abbrev number : ℕ
    number = edge_at plan e.reader e.port

    goes : IsPath plan e.source (number ∷ k.path)
    goes = (e, found, refl, subst (λ v. IsPath plan v k.path) (sym k.begins.2 ∙ ap (λ (x : Edge). x.reader) (some_same k.begins.0 e (sym k.begins.1 ∙ found))) k.is_path)

    turned : IsAtMost (adjust plan (number ∷ k.path) t) q.time
    turned = subst (λ u. IsAtMost (adjust plan k.path u) q.time) (when ∙ sym (ap (λ o. over plan o t) found)) k.in_time

    -- from the vertex at which the edge begins
    pub could_from_vertex : Could plan (stamp_at e.source t) q
    could_from_vertex = record { first = e.source; path = number ∷ k.path; begins = refl; is_path = goes; ends = k.ends; in_time = turned }

    -- from a message that comes there
    pub could_from_message : (c : Message) → IsOnEdge plan c → e.source ≡ c.vertex → c.time ≡ t → Could plan (stamp_of_message plan c) q
    could_from_message c on s same = record {
      first = c.vertex;
      path = number ∷ k.path;
      begins = on;
      is_path = subst (λ v. IsPath plan v (number ∷ k.path)) s goes;
      ends = k.ends;
      in_time = subst (λ u. IsAtMost (adjust plan (number ∷ k.path) u) q.time) (sym same) turned;
    }

  -- what a notification could result in, so could a message that comes there
  moved : (c : Message) → IsOnEdge plan c → (path : List ℕ) (place : Place) → EndsAt plan (places.Vertex c.vertex) path place → (v : ℕ) → place ≡ places.Vertex v → EndsAt plan (places.Edge (edge_at plan c.vertex c.port)) path place
  moved c on (e ∷ path) place ends v p = ends
  moved c on [] place (inl same) v p = inr (c.vertex, on, sym same)
  moved c on [] place (inr r) v p = inr (r.0, (on.0, on.1, on.2 ∙ r.1), r.2)

  pub could_through : (c : Message) → IsOnEdge plan c → (v : ℕ) (t : Timestamp) → Could plan (stamp_at c.vertex c.time) (stamp_at v t) → Could plan (stamp_of_message plan c) (stamp_at v t)
  could_through c on v t k = record {
    first = k.first;
    path = k.path;
    begins = (on.0, on.1, on.2 ∙ k.begins);
    is_path = k.is_path;
    ends = moved c on k.path (places.Vertex v) k.ends v refl;
    in_time = k.in_time;
  }
