-- What a group or a fold sends does not come back to it at the same time.
use Rattle.std.proofs.Common.{◌≡◌, ℕ, suc, ◌<◌, List, [], ◌∷◌, length, refl, ap, sym, ◌∙◌, subst, true, false}
use Rattle.std.specs.Prelude.{Option, None, Some}
use Rattle.std.specs.List.{slice_get}
use Rattle.std.proofs.lemmas.List.{length-map}
use Rattle.std.proofs.lemmas.Option.{slice_get_within}
use Rattle.td_stamp.specs.Time.{Timestamp, IsAtMost}
use Rattle.td_plan.specs.declared.vertex.Kind.{Kind}
use Rattle.td_plan.specs.declared.vertex.Kind.TheVariants.{Input, Map, Distinct, Group, Fold, Enter, Feedback, Leave, Output}
use Rattle.td_plan.specs.declared.vertex.Edge.{Edge}
use Rattle.td_plan.specs.Lines.{Line}
use Rattle.td_plan.specs.Blocks.{PlacedVertex, vertices, edges, edge_at, kind_at, bounds, reading_loops_at}
use Rattle.td_plan.specs.Faults.{IsPlan}
use Rattle.td_calls.specs.Callbacks.{is_notified}
use Rattle.td_batch.specs.Flow.{AreBelow}
use Rattle.td_plan.specs.Times.{sent_at, sent_by}
use Rattle.td_reach.specs.Paths.{Could, IsOf, IsPath, adjust, over}
use Rattle.td_machine.specs.Active.{kind_of, kind_or, stamp_at}
use Rattle.td_machine.proofs.PlanFacts.{IsFound, LeadsAway}
use Rattle.td_machine.specs.Below.{Below}

module _ (below : Below) where
  pub as_many : (cs bs : List ℕ) → AreBelow cs bs → length cs ≡ length bs
  as_many [] [] h = refl
  as_many [] (b ∷ bs) h = absurd h
  as_many (c ∷ cs) [] h = absurd h
  as_many (c ∷ cs) (b ∷ bs) h = ap suc (as_many cs bs h.1)

  -- it sends at the time that it is given
  keeps_time : (kind : Kind) (t : Timestamp) → is_notified kind ≡ true → sent_at kind t ≡ t
  keeps_time (Group code) t g = refl
  keeps_time (Fold code) t g = refl
  keeps_time Input t g = absurd (cc)
  keeps_time (Map code) t g = absurd (cc)
  keeps_time Distinct t g = absurd (cc)
  keeps_time Enter t g = absurd (cc)
  keeps_time Feedback t g = absurd (cc)
  keeps_time Leave t g = absurd (cc)
  keeps_time Output t g = absurd (cc)

  module _ (plan : List Line) where
    -- a number that has no vertex is none of a group
    pub grouping_within : (v : ℕ) → is_notified (kind_of plan v) ≡ true → v < length (vertices plan)
    grouping_within v g = by (slice_get (vertices plan) v) refl
      where
        by : (o : Option PlacedVertex) → slice_get (vertices plan) v ≡ o → v < length (vertices plan)
        by None e = absurd (let none : is_notified (kind_of plan v) ≡ false = ap (λ (x : Option PlacedVertex). is_notified (kind_or (elim x [ None ↦ None | Some p ↦ Some p.vertex.kind ]))) e in cc)
        by (Some p) e = slice_get_within (vertices plan) v p e

    sent_same : (o : Option Kind) (t : Timestamp) → is_notified (kind_or o) ≡ true → sent_by o t ≡ t
    sent_same None t g = refl
    sent_same (Some kind) t g = keeps_time kind t g

    pub leads_away : IsPlan plan → (e : Edge) → IsFound plan e → LeadsAway plan e
    leads_away lawful e found t turn g k =
        let here : IsOf plan (stamp_at e.source t) = (grouping_within e.source g, as_many t.turns (bounds (reading_loops_at plan e.source)) turn ∙ length-map (reading_loops_at plan e.source) (λ l. l.bound)) in
        let same : over plan (slice_get (edges plan) (edge_at plan e.reader e.port)) t ≡ t = ap (λ o. over plan o t) found ∙ sent_same (kind_at plan e.source) t g in
        let first : e.reader ≡ k.first = ap (λ (o : Option Edge). elim o [ None ↦ 0 | Some x ↦ x.reader ]) (sym found ∙ k.begins.1) ∙ k.begins.2 in
        let round : Could plan (stamp_at e.source t) (stamp_at e.source t) = record {
          first = e.source;
          path = edge_at plan e.reader e.port ∷ k.path;
          begins = refl;
          is_path = (e, found, refl, subst (λ w. IsPath plan w k.path) (sym first) k.is_path);
          ends = k.ends;
          in_time = subst (λ u. IsAtMost (adjust plan k.path u) t) (sym same) k.in_time;
        } in
        let none : edge_at plan e.reader e.port ∷ k.path ≡ [] = below.no_way_back plan lawful (stamp_at e.source t) here round in absurd (cc)
