-- Could-result-in is an order.
use Rattle.std.proofs.Common.{◌≡◌, ℕ, zero, suc, ◌<◌, ◌≤◌, ◌⊎◌, inl, inr, Bool, true, false, List, [], ◌∷◌, ◌++◌, length, refl, ap, sym, ◌∙◌, subst, arith}
use Rattle.std.specs.Prelude.{Option, None, Some}
use Rattle.std.specs.List.{slice_get}
use Rattle.td_stamp.specs.Time.{Timestamp, IsAtMost}
use Rattle.td_plan.specs.declared.vertex.Edge.{Edge}
use Rattle.td_plan.specs.Lines.{Line}
use Rattle.td_plan.specs.Blocks.{edges, kind_at}
use Rattle.td_plan.specs.Faults.{IsPlan}
use Rattle.td_reach.specs.declared.stamp.Place.{Place}
use Rattle.td_reach.specs.declared.stamp.Place.TheVariants as places
use Rattle.td_reach.specs.declared.stamp.Stamp.{Stamp}
use Rattle.td_reach.specs.Paths.{IsEdge, IsPath, adjust, over, BeginsAt, EndsAt, last_of, Could, IsOfPlace, IsOf}
use Rattle.td_reach.specs.Summaries.{apply, effect_by}
use Rattle.td_reach.specs.Tables.{could_test}
use Rattle.td_reach.specs.Laws.{IsLeast}
use Rattle.std.proofs.lemmas.List.{append-nil}
use Rattle.td_reach.proofs.Order.{OrderLaws, apply-AreNotLater}
use Rattle.td_reach.proofs.Graph.{Joins, goes_over, cycles, cycles_raise}
use Rattle.td_reach.proofs.Closed.{joined_paths, along_both}
use Rattle.td_reach.proofs.Could.{P, A, Way, along_way, joins, arrives, same_edge, stamp_fits, could_true, true_if_could}
use Rattle.td_reach.proofs.Effects.{turned, by-effect}

-- a step keeps the epoch and the order
over_turned : (plan : List Line) (o : Option Edge) (t : Timestamp) → (cs : List ℕ) × (over plan o t ≡ turned t cs)
over_turned plan None t = (t.turns, refl)
over_turned plan (Some edge) t = (apply (effect_by (kind_at plan edge.source)) t.turns, by-effect (kind_at plan edge.source) t)

pub adjust_epoch : (plan : List Line) (path : List ℕ) (t : Timestamp) → (adjust plan path t).epoch ≡ t.epoch
adjust_epoch plan [] t = refl
adjust_epoch plan (e ∷ path) t = let r = over_turned plan (slice_get (edges plan) e) t in adjust_epoch plan path (over plan (slice_get (edges plan) e) t) ∙ ap (λ (u : Timestamp). u.epoch) r.1

over_keeps : (plan : List Line) (o : Option Edge) (t u : Timestamp) → IsAtMost t u → IsAtMost (over plan o t) (over plan o u)
over_keeps plan None t u h = h
over_keeps plan (Some edge) t u h =
    let s = effect_by (kind_at plan edge.source) in
    let kept : IsAtMost (turned t (apply s t.turns)) (turned u (apply s u.turns)) = record { epoch = h.epoch; turns = apply-AreNotLater s t.turns u.turns h.turns } in
    subst (λ x. IsAtMost x (over plan (Some edge) u)) (sym (by-effect (kind_at plan edge.source) t)) (subst (λ x. IsAtMost (turned t (apply s t.turns)) x) (sym (by-effect (kind_at plan edge.source) u)) kept)

pub adjust_keeps : (plan : List Line) (path : List ℕ) (t u : Timestamp) → IsAtMost t u → IsAtMost (adjust plan path t) (adjust plan path u)
adjust_keeps plan [] t u h = h
adjust_keeps plan (e ∷ path) t u h = adjust_keeps plan path (over plan (slice_get (edges plan) e) t) (over plan (slice_get (edges plan) e) u) (over_keeps plan (slice_get (edges plan) e) t u h)

pub could_epochs : (plan : List Line) (p q : Stamp) → Could plan p q → p.time.epoch ≤ q.time.epoch
could_epochs plan p q k = let h = k.in_time in omega (arith, h.epoch, adjust_epoch plan k.path p.time)

-- REFLEXIVE
begins_somewhere : (plan : List Line) (place : Place) (t : Timestamp) → IsOfPlace plan place t → (u : ℕ) × BeginsAt plan place u
begins_somewhere plan (places.Vertex v) t h = (v, refl)
begins_somewhere plan (places.Edge e) t h = (h.0.reader, (h.0, h.1, refl))

pub could_itself : (plan : List Line) (p : Stamp) → IsOf plan p → Could plan p p
could_itself plan p h =
    let b = begins_somewhere plan p.place p.time h in
    record { first = b.0; path = []; begins = b.1; is_path = tt; ends = inl refl; in_time = record { epoch = omega arith; turns = inr refl } }

-- TRANSITIVE
begins_once : (plan : List Line) (place : Place) (u v : ℕ) → BeginsAt plan place u → BeginsAt plan place v → u ≡ v
begins_once plan (places.Vertex w) u v a b = sym a ∙ b
begins_once plan (places.Edge e) u v a b = sym a.2 ∙ (ap (λ (x : Edge). x.reader) (by (sym a.1 ∙ b.1)) ∙ b.2)
  where
    by : Some a.0 ≡ Some b.0 → a.0 ≡ b.0
    by s = cc

adjust_both : (plan : List Line) (xs ys : List ℕ) (t : Timestamp) → adjust plan (xs ++ ys) t ≡ adjust plan ys (adjust plan xs t)
adjust_both plan [] ys t = refl
adjust_both plan (e ∷ xs) ys t = adjust_both plan xs ys (over plan (slice_get (edges plan) e) t)

last_both : (plan : List Line) (xs ys : List ℕ) (start : Place) → last_of plan start (xs ++ ys) ≡ last_of plan (last_of plan start xs) ys
last_both plan [] ys start = refl
last_both plan (e ∷ xs) ys start = last_both plan xs ys (places.Edge e)

-- a path that begins where another one leads
paths_both : (plan : List Line) (xs ys : List ℕ) (start : Place) (u v : ℕ) → BeginsAt plan start u → IsPath plan u xs → BeginsAt plan (last_of plan start xs) v → IsPath plan v ys → IsPath plan u (xs ++ ys)
paths_both plan [] ys start u v a p b q = subst (λ w. IsPath plan w ys) (begins_once plan start v u b a) q
paths_both plan (e ∷ xs) ys start u v a p b q = (p.0, p.1, p.2, paths_both plan xs ys (places.Edge e) p.0.reader v (p.0, p.1, refl) p.3 b q)

-- where the next path begins, there the one before leads
leads_on : (plan : List Line) (last place : Place) (v : ℕ) → (last ≡ place) ⊎ ((w : ℕ) × BeginsAt plan last w × (place ≡ places.Vertex w)) → BeginsAt plan place v → BeginsAt plan last v
leads_on plan last place v (inl e) b = subst (λ x. BeginsAt plan x v) (sym e) b
leads_on plan last place v (inr w) b = let at : BeginsAt plan (places.Vertex w.0) v = subst (λ x. BeginsAt plan x v) w.2 b in subst (BeginsAt plan last) at w.1

ends_both : (plan : List Line) (start middle to : Place) (xs ys : List ℕ) → EndsAt plan start xs middle → EndsAt plan middle ys to → EndsAt plan start (xs ++ ys) to
ends_both plan start middle to xs [] a (inl e) = subst (λ l. EndsAt plan start l to) (sym (append-nil xs)) (subst (EndsAt plan start xs) e a)
ends_both plan start middle to xs [] a (inr w) = subst (λ l. EndsAt plan start l to) (sym (append-nil xs)) (inr (w.0, leads_on plan (last_of plan start xs) middle w.0 a w.1, w.2))
ends_both plan start middle to xs (e ∷ ys) a b = subst (λ x. (x ≡ to) ⊎ ((w : ℕ) × BeginsAt plan x w × (to ≡ places.Vertex w))) (sym (last_both plan xs (e ∷ ys) start)) b

pub could_both : OrderLaws → (plan : List Line) (p q r : Stamp) → Could plan p q → Could plan q r → Could plan p r
could_both laws plan p q r k m = record {
  first = k.first;
  path = k.path ++ m.path;
  begins = k.begins;
  is_path = paths_both plan k.path m.path p.place k.first m.first k.begins k.is_path (leads_on plan (last_of plan p.place k.path) q.place m.first k.ends m.begins) m.is_path;
  ends = ends_both plan p.place q.place r.place k.path m.path k.ends m.ends;
  in_time =
      subst (λ t. IsAtMost t r.time) (sym (adjust_both plan k.path m.path p.time))
      (laws.times_transitive (adjust plan m.path (adjust plan k.path p.time)) (adjust plan m.path q.time) r.time (adjust_keeps plan m.path (adjust plan k.path p.time) q.time k.in_time) m.in_time);
}

-- ANTISYMMETRIC
module _ (laws : OrderLaws) (plan : List Line) (lawful : IsPlan plan) where
  -- a path of edges on to the reader of its last one
  record Closes (u v : ℕ) (edge : Edge) (way : Way plan lawful u edge.source) (cs : List ℕ) : Type 0 where
    between : List ℕ
    path : P plan lawful u between v
    same : A plan lawful u between cs ≡ goes_over plan edge.source (along_way plan lawful u edge.source way cs)

  closes : (u last : ℕ) (edge : Edge) → IsEdge plan last edge → (way : Way plan lawful u edge.source) (cs : List ℕ) → Closes u edge.reader edge way cs
  closes u last edge at (inl x) cs = record { between = []; path = subst (λ w. Joins plan w edge.reader) (sym x) (joins plan lawful last edge at); same = ap (λ w. goes_over plan w cs) x }
  closes u last edge at (inr x) cs = record {
    between = x.0 ++ edge.source ∷ [];
    path = joined_paths plan lawful x.0 [] u edge.source edge.reader x.1 (joins plan lawful last edge at);
    same = along_both plan lawful x.0 [] u edge.source cs;
  }

  -- no path of edges leads from a pointstamp to itself
  no_return : (p : Stamp) (first e : ℕ) (path : List ℕ) → IsOf plan p → BeginsAt plan p.place first → IsPath plan first (e ∷ path) → EndsAt plan p.place (e ∷ path) p.place → IsAtMost (adjust plan (e ∷ path) p.time) p.time → ⊥
  no_return p first e path h b is_path ends in_time =
      let r = arrives plan lawful path e first is_path in
      let leads = leads_on plan (last_of plan p.place (e ∷ path)) p.place first ends b in
      let at : BeginsAt plan (places.Edge r.last) first = subst (λ y. BeginsAt plan y first) (r.last_is p.place) leads in
      let own : at.0 ≡ r.edge = same_edge plan lawful r.last at.0 r.edge at.1 r.is_edge in
      let home : r.edge.reader ≡ first = sym (ap (λ (y : Edge). y.reader) own) ∙ at.2 in
      let fits = stamp_fits plan lawful p.place p.time first h b in
      let c = closes first r.last r.edge r.is_edge r.way p.time.turns in
      let cycle : P plan lawful first c.between first = subst (λ w. P plan lawful first c.between w) home c.path in
      let after : IsAtMost (turned p.time (A plan lawful first c.between p.time.turns)) p.time = subst (λ t. IsAtMost t p.time) (r.times p.time ∙ ap (turned p.time) (sym c.same)) in_time in
      let same : p.time.turns ≡ A plan lawful first c.between p.time.turns =
      laws.antisymmetric p.time.turns (A plan lawful first c.between p.time.turns) (cycles plan lawful first c.between p.time.turns cycle fits) after.turns in
      cycles_raise plan lawful first c.between p.time.turns cycle fits same

  stamps_same : (p q : Stamp) → p.place ≡ q.place → p.time ≡ q.time → p ≡ q
  stamps_same p q a b = λ i. record { time = b i; place = a i }

  pub never_back : (p : Stamp) → IsOf plan p → (k : Could plan p p) → k.path ≡ []
  never_back p h k = by k.path k.is_path k.ends k.in_time
    where
      by : (path : List ℕ) → IsPath plan k.first path → EndsAt plan p.place path p.place → IsAtMost (adjust plan path p.time) p.time → path ≡ []
      by [] is_path ends in_time = refl
      by (e ∷ path) is_path ends in_time = absurd (no_return p k.first e path h k.begins is_path ends in_time)

  both_empty : (xs ys : List ℕ) → xs ++ ys ≡ [] → (xs ≡ []) × (ys ≡ [])
  both_empty [] ys h = (refl, h)
  both_empty (x ∷ xs) ys h = absurd (cc)

  places_same : (a b : Place) → EndsAt plan a [] b → EndsAt plan b [] a → a ≡ b
  places_same a b (inl e) y = e
  places_same a b (inr w) (inl e) = sym e
  places_same a b (inr w) (inr x) =
      let at : BeginsAt plan (places.Vertex x.0) w.0 = subst (λ y. BeginsAt plan y w.0) x.2 w.1 in
      x.2 ∙ (ap places.Vertex at ∙ sym w.2)

  pub could_each_other : (p q : Stamp) → IsOf plan p → IsOf plan q → Could plan p q → Could plan q p → p ≡ q
  unfolding could_both
  could_each_other p q hp hq k m =
      let none = both_empty k.path m.path (never_back p hp (could_both laws plan p q p k m)) in
      let there : EndsAt plan p.place [] q.place = subst (λ l. EndsAt plan p.place l q.place) none.0 k.ends in
      let back : EndsAt plan q.place [] p.place = subst (λ l. EndsAt plan q.place l p.place) none.1 m.ends in
      let earlier : IsAtMost p.time q.time = subst (λ l. IsAtMost (adjust plan l p.time) q.time) none.0 k.in_time in
      let later : IsAtMost q.time p.time = subst (λ l. IsAtMost (adjust plan l q.time) p.time) none.1 m.in_time in
      stamps_same p q (places_same p.place q.place there back) (laws.times_antisymmetric p.time q.time earlier later)

  -- NEVER STUCK
  abbrev AllOf : List Stamp → Type 0
  AllOf all = (i : ℕ) (p : Stamp) → slice_get all i ≡ Some p → IsOf plan p

  still_least : (x m : Stamp) (all : List Stamp) → IsLeast plan all m → (Could plan x m → ⊥) → IsLeast plan (x ∷ all) m
  still_least x m all l never = record { place = suc l.place; is = l.is; least = by }
    where
      by : (i : ℕ) (q : Stamp) → slice_get (x ∷ all) i ≡ Some q → Could plan q m → q ≡ m
      by zero q at k = let same : x ≡ q = cc in absurd (never (subst (λ y. Could plan y m) (sym same) k))
      by (suc i) q at k = l.least i q at k

  now_least : (x m : Stamp) (all : List Stamp) → IsOf plan x → IsOf plan m → IsLeast plan all m → Could plan x m → IsLeast plan (x ∷ all) x
  now_least x m all hx hm l k = record { place = zero; is = refl; least = by }
    where
      by : (i : ℕ) (q : Stamp) → slice_get (x ∷ all) i ≡ Some q → Could plan q x → q ≡ x
      by zero q at c = let same : x ≡ q = cc in sym same
      by (suc i) q at c =
          let q_is : q ≡ m = l.least i q at (could_both laws plan q x m c k) in
          let back : Could plan m x = subst (λ y. Could plan y x) q_is c in
          q_is ∙ could_each_other m x hm hx back k

  pub least_of : (all : List Stamp) → 0 < length all → AllOf all → (p : Stamp) × IsLeast plan all p
  least_of [] h of = absurd (omega (arith, h))
  least_of (x ∷ []) h of = (x, record { place = 0; is = refl; least = by })
    where
      by : (i : ℕ) (q : Stamp) → slice_get (x ∷ []) i ≡ Some q → Could plan q x → q ≡ x
      by zero q at k = let same : x ≡ q = cc in sym same
      by (suc i) q at k = absurd (cc)
  least_of (x ∷ y ∷ all) h of = by (least_of (y ∷ all) (omega arith) (λ i p at. of (suc i) p at))
    where
      choose : (m : Stamp) → IsLeast plan (y ∷ all) m → IsOf plan m → (b : Bool) → could_test plan x m ≡ b → (p : Stamp) × IsLeast plan (x ∷ y ∷ all) p
      choose m l hm true e = (x, now_least x m (y ∷ all) (of 0 x refl) hm l (could_true plan lawful laws x m (of 0 x refl) hm e))
      choose m l hm false e = (m, still_least x m (y ∷ all) l (λ k. absurd (let t = true_if_could plan lawful laws x m (of 0 x refl) hm k in cc)))

      by : (p : Stamp) × IsLeast plan (y ∷ all) p → (p : Stamp) × IsLeast plan (x ∷ y ∷ all) p
      by r = choose r.0 r.1 (of (suc r.1.place) r.0 r.1.is) (could_test plan x r.0) refl
