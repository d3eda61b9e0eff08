-- A run at a place, as its row and as contracts see it.
use Rattle.std.proofs.Common.{◌≡◌, ℕ, ◌+◌, ◌-◌, ◌<◌, ◌≤◌, List, map, length, get_or, sym, ap, ◌∙◌, arith}
use Rattle.std.proofs.lemmas.List.{length-map, get_or-map}
use Rattle.td_shard.specs.declared.runs.Run.{Run}
use Rattle.td_shard.specs.declared.runs.Runs.TheInside.{Inside}
use Rattle.td_shard.specs.Runs.{Part, Parts, part}
use Rattle.td_shard.specs.KeptRuns.{IsRuns}
use Rattle.td_shard.proofs.Ordered.{Stands, stands, length-part}

abbrev pub viewed : Inside → Parts
viewed m = record { first = m.first; parts = map (part m.start m.recs.items) m.runs.items; runs = m.runs_room; room = m.room }

pub record At (m : Inside) (v : Parts) (i : ℕ) (r : Run) : Type 0 where
  pub within : i < length m.runs.items
  pub where_it : Stands m.start (m.start + length m.recs.items) r
  pub its : (d : Part) → get_or v.parts i d ≡ part m.start m.recs.items r
  pub many : length (part m.start m.recs.items r).recs ≡ r.end - r.at
  -- its end has a number
  pub fits : r.end ≤ m.start + m.recs.len

pub placed : (m : Inside) (v : Parts) (i : ℕ) (r : Run) → IsRuns m → viewed m ≡ v → i < length v.parts → r ≡ get_or m.runs.items i r → At m v i r
placed m v i r kept seen h at =
    let within : i < length m.runs.items = omega (arith, h, ap (λ (w : Parts). length w.parts) seen, length-map m.runs.items (part m.start m.recs.items)) in
    let where_it = stands m.start (m.start + length m.recs.items) m.runs.items i r r within at kept.ordered in
    record {
      within = within;
      where_it = where_it;
      its = λ d. ap (λ (w : Parts). get_or w.parts i d) (sym seen) ∙ (get_or-map (part m.start m.recs.items) m.runs.items i r d within ∙ ap (part m.start m.recs.items) (sym at));
      many = length-part m.start m.start m.recs.items r (omega arith) where_it;
      fits = omega (arith, where_it.high, m.recs.ok.0);
    }

-- what is known to wait is in its row
pub enough : (m : Inside) (v : Parts) (i n : ℕ) (r : Run) → At m v i r → ((d : Part) → n ≤ length (get_or v.parts i d).recs) → n ≤ r.end - r.at
enough m v i n r at h =
    let p = part m.start m.recs.items r in
    omega (arith, h p, ap (λ (q : Part). length q.recs) (at.its p), at.many)

-- what is seen when the runs are changed
pub as_changed : (m v : Parts) (f : List Part → List Part) (ps : List Part) → m ≡ v → ps ≡ f m.parts → record m { parts = ps } ≡ record v { parts = f v.parts }
as_changed m v f ps h e = ap (λ (l : List Part). record m { parts = l }) e ∙ ap (λ (w : Parts). record w { parts = f w.parts }) h

pub as_same : (m v : Parts) (ps : List Part) → m ≡ v → ps ≡ m.parts → record m { parts = ps } ≡ v
as_same m v ps h e = ap (λ (l : List Part). record m { parts = l }) e ∙ h

pub as_posted : (m v : Parts) (n : ℕ) (f : List Part → List Part) (ps : List Part) → m ≡ v → ps ≡ f m.parts
    → ◌≡◌ {A = Parts} (record { first = m.first; parts = ps; runs = m.runs - 1; room = m.room - n }) (record { first = v.first; parts = f v.parts; runs = v.runs - 1; room = v.room - n })
as_posted m v n f ps h e =
    ap (λ (l : List Part). record { first = m.first; parts = l; runs = m.runs - 1; room = m.room - n }) e
    ∙ ap (λ (w : Parts). record { first = w.first; parts = f w.parts; runs = w.runs - 1; room = w.room - n }) h
