use Rattle.std.proofs.Common.{ℕ, ◌∙◌, ◌++◌, ◌∷◌, [], None, Some, ap, sym}
use Rattle.td_shard.specs.Versions.{with_changes_back}
use Rattle.td_shard.proofs.ChangesBack.{last_back}
use Rattle.td_shard.proofs.versions.take_changes_back.Goals as goal

pub loop-vertex-preserved-in-Some-was : goal.loop-vertex-preserved-in-Some-was
loop-vertex-preserved-in-Some-was c =
    let now = c.loop-vertex.states in
    let rest = c.pop.new.self.items in
    let place : ℕ × ℕ = (c.in-Some.vertex, c.in-Some.key) in
    ap (λ s. with_changes_back s rest) c.replace.ensures
    ∙ (sym (last_back now rest (place, Some c.in-Some-was.was))
    ∙ (ap (with_changes_back now) (sym (c.in-Some.ensures.items ∙ ap (λ o. rest ++ (place, o) ∷ []) c.in-Some-was.is)) ∙ c.loop-vertex.invariant))

pub loop-vertex-preserved : goal.loop-vertex-preserved
loop-vertex-preserved c =
    let now = c.loop-vertex.states in
    let rest = c.pop.new.self.items in
    let place : ℕ × ℕ = (c.in-Some.vertex, c.in-Some.key) in
    ap (λ s. with_changes_back s rest) c.remove.ensures.rest
    ∙ (sym (last_back now rest (place, None))
    ∙ (ap (with_changes_back now) (sym (c.in-Some.ensures.items ∙ ap (λ o. rest ++ (place, o) ∷ []) c.in-None.is)) ∙ c.loop-vertex.invariant))
