-- An epoch from vertex to vertex.
use Rattle.std.proofs.Common.{length-append, ◌≡◌, ℕ, ◌+◌, Bool, true, false, List, [], ◌∷◌, ◌++◌, map, length, None, refl, ap, sym, ◌∙◌, subst, arith}
use Rattle.std.proofs.lemmas.List.{length_push, append_assoc, append-nil}
use Rattle.std.proofs.Math.Seq.{get_or-append_seam}
use Rattle.td_stamp.specs.declared.values.Rec.{Rec}
use Rattle.td_stamp.specs.declared.values.Output.{Output as AnyOutput}
use Rattle.td_stamp.specs.States.{state_of}
use Rattle.td_plan.specs.declared.vertex.Kind.{Kind}
use Rattle.td_plan.specs.declared.vertex.Kind.TheVariants.{Input, Map, Distinct, Group, Fold, Enter, Feedback, Leave, Output}
use Rattle.td_plan.specs.Lines.{Vertex}
use Rattle.td_plan.specs.Faults.{is_output}
use Rattle.td_plan.specs.Tree.{Nodes, size}
use Rattle.td_plan.specs.Tree.Nodes.{done, node, block}
use Rattle.td_calls.specs.Callbacks.{arrivals}
use Rattle.td_calls.specs.Stored.{Codes}
use Rattle.td_batch.specs.declared.changes.Change.{Change}
use Rattle.td_batch.specs.Meaning.{EpochInput, Bags, emitted, emission, turn, epoch_bags, outputs_at, outputs_in}
use Rattle.td_batch.specs.Quiet.{fed_back_by, fed_back}
use Rattle.td_batch.specs.Steps.Epoch.{IsOuter}
use Rattle.td_batch.specs.Changes.{changes_by, changes_from, epoch_changes}
use Rattle.td_batch.specs.Steps.Tree.{read_by, reads, AreAlike}
use Rattle.td_batch.proofs.Lists.{all_append, all_left, all_right, map_alike}
use Rattle.td_batch.proofs.Turns.{turn_keeps, loop_bags, length-loop_bags}
use Rattle.td_batch.proofs.Alike.{alike_then, alike_push, alike_same, emission_alike, turn_alike}

-- an output has what its vertex emitted
output_emitted : (v : Vertex) (kind : Kind) (bag other : ℕ → List Rec) → bag v.number ≡ other v.number → outputs_at bag v kind ≡ outputs_at other v kind
output_emitted v Output bag other h = λ i. map (λ r. record { vertex = v.number; rec = r }) (h i)
output_emitted v Input bag other h = refl
output_emitted v (Map code) bag other h = refl
output_emitted v Distinct bag other h = refl
output_emitted v (Group code) bag other h = refl
output_emitted v (Fold code) bag other h = refl
output_emitted v Enter bag other h = refl
output_emitted v Feedback bag other h = refl
output_emitted v Leave bag other h = refl

-- which an output alone brings
pub no_outputs : (bag : ℕ → List Rec) (v : Vertex) (kind : Kind) → is_output kind ≡ false → outputs_at bag v kind ≡ []
no_outputs bag v Input e = refl
no_outputs bag v (Map code) e = refl
no_outputs bag v Distinct e = refl
no_outputs bag v (Group code) e = refl
no_outputs bag v (Fold code) e = refl
no_outputs bag v Enter e = refl
no_outputs bag v Feedback e = refl
no_outputs bag v Leave e = refl
no_outputs bag v Output e = absurd (cc)

pub all_outputs : (bag : ℕ → List Rec) (v : Vertex) (kind : Kind) → is_output kind ≡ true → outputs_at bag v kind ≡ map (λ r. record { vertex = v.number; rec = r }) (bag v.number)
all_outputs bag v Input e = absurd (cc)
all_outputs bag v (Map code) e = absurd (cc)
all_outputs bag v Distinct e = absurd (cc)
all_outputs bag v (Group code) e = absurd (cc)
all_outputs bag v (Fold code) e = absurd (cc)
all_outputs bag v Enter e = absurd (cc)
all_outputs bag v Feedback e = absurd (cc)
all_outputs bag v Leave e = absurd (cc)
all_outputs bag v Output e = refl

-- The vertices that are left, the bags that are kept for them, and what was brought so far; `exact` are all bags so far
pub record Going (epoch : EpochInput) (stored : Codes) (all left : Nodes) (bags : Bags) (outputs : List AnyOutput) (changes : List Change) : Type 0 where
  pub exact : Bags
  pub long : length bags ≡ length exact
  pub alike : AreAlike (reads true left) bags exact
  pub ends : turn epoch left None exact ≡ epoch_bags epoch all
  pub lawful : IsOuter stored (length bags) left
  pub outs : outputs ++ outputs_in (emitted (epoch_bags epoch all)) left ≡ outputs_in (emitted (epoch_bags epoch all)) all
  pub changed : changes ++ changes_from epoch left exact ≡ epoch_changes epoch all

pub begins : (epoch : EpochInput) (stored : Codes) (all : Nodes) (bags : Bags) (outputs : List AnyOutput) (changes : List Change)
    → IsOuter stored 0 all → bags ≡ [] → outputs ≡ [] → changes ≡ [] → Going epoch stored all all bags outputs changes
begins epoch stored all bags outputs changes lawful none no_outputs no_changes = record {
  exact = [];
  long = ap length none;
  alike = alike_same (reads true all) bags [] none;
  ends = refl;
  lawful = subst (λ (bs : Bags). IsOuter stored (length bs) all) (sym none) lawful;
  outs = ap (λ os. os ++ outputs_in (emitted (epoch_bags epoch all)) all) no_outputs;
  changed = ap (λ cs. cs ++ epoch_changes epoch all) no_changes;
}

module _ (epoch : EpochInput) (stored : Codes) (all rest : Nodes) (v : Vertex) (bags more : Bags) (outputs now : List AnyOutput) (changes made : List Change) where
  -- past a vertex
  pub past : Going epoch stored all (node v rest) bags outputs changes → length more ≡ length bags + 1 → AreAlike (reads true rest) more (bags ++ emission epoch None bags v ∷ [])
      → now ≡ outputs ++ outputs_at (λ _. emission epoch None bags v) v v.kind
      → made ≡ changes ++ changes_by epoch.answers (state_of epoch.states v.number) v.number v.kind (arrivals (map (emitted bags) v.sources)) → Going epoch stored all rest more now made
  past g longer kept put changed = record {
    exact = exact ++ sent ∷ [];
    long = longer ∙ ap (λ n. n + 1) g.long ∙ sym (length_push exact sent);
    alike = alike_then (reads true rest) more (bags ++ emission epoch None bags v ∷ []) (exact ++ sent ∷ []) kept
        (alike_push (reads true rest) bags exact (emission epoch None bags v) sent g.long is (all_right P (read_by true v.kind v.sources) (reads true rest) g.alike));
    ends = g.ends;
    lawful = subst (λ n. IsOuter stored n rest) (sym longer) g.lawful.2;
    outs = ap (λ os. os ++ outputs_in last rest) put ∙ append_assoc outputs (outputs_at (λ _. emission epoch None bags v) v v.kind) (outputs_in last rest)
        ∙ ap (λ os. outputs ++ (os ++ outputs_in last rest)) (sym (output_emitted v v.kind last (λ _. emission epoch None bags v) emitted_here)) ∙ g.outs;
    changed = ap (λ cs. cs ++ later) changed ∙ append_assoc changes (by (emitted bags)) later
        ∙ ap (λ cs. changes ++ (cs ++ later)) (by_alike v.kind (all_left P (read_by true v.kind v.sources) (reads true rest) g.alike)) ∙ g.changed;
  }
    where
      P : ℕ → Type 0
      P s = emitted bags s ≡ emitted g.exact s

      exact : Bags
      exact = g.exact

      last : ℕ → List Rec
      last = emitted (epoch_bags epoch all)

      sent : List Rec
      sent = emission epoch None g.exact v

      is : emission epoch None bags v ≡ sent
      is = emission_alike epoch v None None bags g.exact tt (all_left P (read_by true v.kind v.sources) (reads true rest) g.alike) (alike_same (fed_back_by v v.kind) [] [] refl)

      at : v.number ≡ length g.exact
      at = g.lawful.0.0 ∙ g.long

      emitted_here : last v.number ≡ emission epoch None bags v
      emitted_here =
          ap (λ bs. emitted bs v.number) (sym g.ends)
          ∙ turn_keeps epoch rest None (g.exact ++ sent ∷ []) v.number (let l : length (g.exact ++ sent ∷ []) ≡ length g.exact + 1 = length_push g.exact sent in omega (arith, l, at))
          ∙ ap (emitted (g.exact ++ sent ∷ [])) at ∙ get_or-append_seam g.exact sent [] [] ∙ sym is

      by : (ℕ → List Rec) → List Change
      by bag = changes_by epoch.answers (state_of epoch.states v.number) v.number v.kind (arrivals (map bag v.sources))

      later : List Change
      later = changes_from epoch rest (g.exact ++ sent ∷ [])

      by_alike : (k : Kind) → AreAlike (read_by true k v.sources) bags g.exact
          → changes_by epoch.answers (state_of epoch.states v.number) v.number k (arrivals (map (emitted bags) v.sources))
          ≡ changes_by epoch.answers (state_of epoch.states v.number) v.number k (arrivals (map (emitted g.exact) v.sources))
      by_alike (Fold code) a =
          ap (λ bs. changes_by epoch.answers (state_of epoch.states v.number) v.number (Fold code) (arrivals bs)) (map_alike (emitted bags) (emitted g.exact) v.sources a)
      by_alike Input a = refl
      by_alike (Map code) a = refl
      by_alike Distinct a = refl
      by_alike (Group code) a = refl
      by_alike Enter a = refl
      by_alike Feedback a = refl
      by_alike Leave a = refl
      by_alike Output a = refl

-- past a loop
pub past_loop : (epoch : EpochInput) (stored : Codes) (all body rest : Nodes) (bound : ℕ) (bags more : Bags) (outputs : List AnyOutput) (changes : List Change)
    → Going epoch stored all (block bound body rest) bags outputs changes → length more ≡ length bags + size body
    → AreAlike (reads true rest) more (bags ++ loop_bags epoch bound body bags) → Going epoch stored all rest more outputs changes
past_loop epoch stored all body rest bound bags more outputs changes g longer kept = record {
  exact = g.exact ++ loop_bags epoch bound body g.exact;
  long = longer ∙ ap (λ n. n + size body) g.long ∙ sym (length-append g.exact (loop_bags epoch bound body g.exact) ∙ ap (λ n. length g.exact + n) (length-loop_bags epoch bound body g.exact));
  alike = alike_then (reads true rest) more (bags ++ loop_bags epoch bound body bags) (g.exact ++ loop_bags epoch bound body g.exact) kept
      (turn_alike epoch (block bound body done) (reads true rest) None None bags g.exact g.long tt
      (all_append P inner [] (all_left P inner (reads true rest) g.alike) tt) (all_right P inner (reads true rest) g.alike) tt);
  ends = g.ends;
  lawful = subst (λ n. IsOuter stored n rest) (sym longer) g.lawful.3;
  outs = g.outs;
  changed = g.changed;
}
  where
    P : ℕ → Type 0
    P s = emitted bags s ≡ emitted g.exact s

    inner : List ℕ
    inner = reads true body ++ fed_back body

-- at the end
pub ends : (epoch : EpochInput) (stored : Codes) (all : Nodes) (bags : Bags) (outputs : List AnyOutput) (changes : List Change) → Going epoch stored all done bags outputs changes
    → (outputs ≡ outputs_in (emitted (epoch_bags epoch all)) all) × (changes ≡ epoch_changes epoch all)
ends epoch stored all bags outputs changes g = (sym (append-nil outputs) ∙ g.outs, sym (append-nil changes) ∙ g.changed)
