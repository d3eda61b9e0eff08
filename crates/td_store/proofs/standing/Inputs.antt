-- The inputs of a plan: by number, and as a list.
use Rattle.std.proofs.Common.{◌≡◌, ◌==◌, ◌||◌, ◌&&◌, ℕ, zero, suc, Bool, true, false, List, [], ◌∷◌, map, refl, sym, ap, ◌∙◌}
use Rattle.std.specs.Prelude.{Option, Some, None, filter, cond}
use Rattle.std.specs.List.{list_all, list_any, slice_get}
use Rattle.std.proofs.lemmas.Bool.{eq-eqb, eqb-true}
use Rattle.td_stamp.specs.declared.values.Entry.{Entry}
use Rattle.td_plan.specs.Lines.{Line}
use Rattle.td_plan.specs.Blocks.{PlacedVertex, vertices}
use Rattle.td_plan.specs.Faults.{is_input}
use Rattle.td_plan.specs.Inputs.{is_input_of}
use Rattle.td_store.specs.standing.Told.{inputs_of}

-- the inputs among some vertices
abbrev inputs : List PlacedVertex → List PlacedVertex
inputs vs = filter (λ p. is_input p.vertex.kind) vs

-- whether one of these has this number
abbrev has : ℕ → List PlacedVertex → Bool
has u vs = list_any (λ v. v == u) (map (λ p. p.vertex.number) vs)

more : (u : ℕ) (x : PlacedVertex) (vs : List PlacedVertex) → has u (inputs vs) ≡ true → has u (inputs (x ∷ vs)) ≡ true
more u x vs h =
    let rest : (x.vertex.number == u || has u (inputs vs)) ≡ true = elim (x.vertex.number == u) as (λ b. (b || has u (inputs vs)) ≡ true) [ true ↦ refl | false ↦ h ] in
    elim (is_input x.vertex.kind) as (λ b. has u (cond b (x ∷ inputs vs) (inputs vs)) ≡ true) [ true ↦ rest | false ↦ h ]

listed : (u : ℕ) (vs : List PlacedVertex) (i : ℕ) (p : PlacedVertex) → slice_get vs i ≡ Some p → is_input p.vertex.kind ≡ true → p.vertex.number ≡ u → has u (inputs vs) ≡ true
listed u [] i p at is number = absurd cc
listed u (x ∷ vs) zero p at is number =
    let same : x ≡ p = cc in
    let test : is_input x.vertex.kind ≡ true = ap (λ (q : PlacedVertex). is_input q.vertex.kind) same ∙ is in
    let here : (x.vertex.number == u) ≡ true = eq-eqb x.vertex.number u (ap (λ (q : PlacedVertex). q.vertex.number) same ∙ number) in
    ap (λ (b : Bool). has u (cond b (x ∷ inputs vs) (inputs vs))) test ∙ ap (λ (b : Bool). b || has u (inputs vs)) here
listed u (x ∷ vs) (suc i) p at is number = more u x vs (listed u vs i p at is number)

-- an input of this number, and where it stands
record IsInput (u : ℕ) (vs : List PlacedVertex) : Type 0 where
  pub place : ℕ
  pub vertex : PlacedVertex
  pub at : slice_get vs place ≡ Some vertex
  pub input : is_input vertex.vertex.kind ≡ true
  pub number : vertex.vertex.number ≡ u

later : (u : ℕ) (x : PlacedVertex) (vs : List PlacedVertex) → IsInput u vs → IsInput u (x ∷ vs)
later u x vs is = record { place = suc is.place; vertex = is.vertex; at = is.at; input = is.input; number = is.number }

found : (u : ℕ) (vs : List PlacedVertex) → has u (inputs vs) ≡ true → IsInput u vs
found u [] h = absurd cc
found u (x ∷ vs) h = by (λ z. found u vs z) (is_input x.vertex.kind) refl
  where
    which : (has u (inputs vs) ≡ true → IsInput u vs) → (c : Bool) → (x.vertex.number == u) ≡ c → is_input x.vertex.kind ≡ true → (c || has u (inputs vs)) ≡ true → IsInput u (x ∷ vs)
    which rest true same is h = record { place = zero; vertex = x; at = refl; input = is; number = eqb-true x.vertex.number u same }
    which rest false other is h = later u x vs (rest h)

    by : (has u (inputs vs) ≡ true → IsInput u vs) → (b : Bool) → is_input x.vertex.kind ≡ b → IsInput u (x ∷ vs)
    by rest false no_ = later u x vs (rest (sym (ap (λ (b : Bool). has u (cond b (x ∷ inputs vs) (inputs vs))) no_) ∙ h))
    by rest true is_so = which rest (x.vertex.number == u) refl is_so (sym (ap (λ (b : Bool). has u (cond b (x ∷ inputs vs) (inputs vs))) is_so) ∙ h)

module _ (plan : List Line) (numbered : (v : ℕ) (p : PlacedVertex) → slice_get (vertices plan) v ≡ Some p → p.vertex.number ≡ v) where
  abbrev test : Option PlacedVertex → Bool
  test None = false
  test (Some p) = is_input p.vertex.kind

  there : (u : ℕ) (o : Option PlacedVertex) → slice_get (vertices plan) u ≡ o → test o ≡ true → has u (inputs (vertices plan)) ≡ true
  there u None at is = absurd cc
  there u (Some p) at is = listed u (vertices plan) u p at is (numbered u p at)

  back : (u : ℕ) → has u (inputs (vertices plan)) ≡ true → test (slice_get (vertices plan) u) ≡ true
  back u h =
      let f = found u (vertices plan) h in
      let place : f.place ≡ u = sym (numbered f.place f.vertex f.at) ∙ f.number in
      ap test (sym (ap (slice_get (vertices plan)) place) ∙ f.at) ∙ f.input

  same : (u : ℕ) (a b : Bool) → test (slice_get (vertices plan) u) ≡ a → has u (inputs (vertices plan)) ≡ b → a ≡ b
  same u true true x y = refl
  same u false false x y = refl
  same u true false x y = let z = there u (slice_get (vertices plan) u) refl x in absurd cc
  same u false true x y = let z = back u y in absurd cc

  pub accepted : (batch : List Entry) → list_all (λ e. is_input_of plan e.input) batch ≡ list_all (λ e. list_any (λ v. v == e.input) (inputs_of plan)) batch
  accepted [] = refl
  accepted (e ∷ batch) = λ i. ◌&&◌ (same e.input (is_input_of plan e.input) (has e.input (inputs (vertices plan))) refl refl i) (accepted batch i)
