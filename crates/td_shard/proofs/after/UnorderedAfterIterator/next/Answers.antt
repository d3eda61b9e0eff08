use Rattle.std.proofs.Common.{Some, refl, sym, ap, ◌∙◌, subst}
use Rattle.td_stamp.specs.States.{state_of}
use Rattle.td_shard.specs.After.{AreFound, AreParts}
use Rattle.td_shard.specs.Versions.{version_or}
use Rattle.td_shard.proofs.UnorderedParts.{at_parts, rest_kept, kept_found, none_kept, rest_left, left_found, none_left}
use Rattle.td_shard.proofs.after.UnorderedAfterIterator.next.Goals as goal
use Rattle.td_shard.proofs.after.UnorderedAfterIterator.next.Goals.{in-Some-latest_at, in-None, in-Some-latest, in-None-latest}

pub loop-place-init : goal.loop-place-init
loop-place-init c = record {
  same = refl;
  parts = c.self.invariant;
}

pub invariant_of-self : goal.invariant_of-self
invariant_of-self c =
    let s = c.loop-place.self-inside in
    rest_kept s.epoch s.base.now s.versions.now c.in-Some.place c.in-Some.kept s.kept c.next.new.self s.left c.in-Some.ensures.steps c.loop-place.invariant.parts

pub returns-in-Some-found-clause-steps : goal.returns-in-Some-found-clause-steps
returns-in-Some-found-clause-steps c =
    let s = c.loop-place.self-inside in
    let kept = c.in-Some.kept in
    sym c.self.view_is ∙ (sym c.loop-place.invariant.same
    ∙ kept_found s.epoch s.base.now s.versions.now c.in-Some.place kept s.kept c.next.new.self s.left c.in-Some.ensures.steps c.loop-place.invariant.parts
    c.latest_at.result c.latest_at.ensures c.match-latest_at.found
    (elim c.match-latest_at.branch [
      | in-Some-latest_at w ↦ w.found-is ∙ sym (ap (λ o. version_or o (Some kept)) w.in-Some-latest_at.is)
      | in-None w ↦ w.found-is ∙ sym (ap (λ o. version_or o (Some kept)) w.in-None.is)
    ])
    c.in-Some-found.state c.in-Some-found.is)

pub loop-place-preserved : goal.loop-place-preserved
loop-place-preserved c =
    let s = c.loop-place.self-inside in
    let kept = c.in-Some.kept in
    record {
      same =
          none_kept s.epoch s.base.now s.versions.now c.in-Some.place kept s.kept c.next.new.self s.left c.in-Some.ensures.steps c.loop-place.invariant.parts
          c.latest_at.result c.latest_at.ensures c.match-latest_at.found
          (elim c.match-latest_at.branch [
            | in-Some-latest_at w ↦ w.found-is ∙ sym (ap (λ o. version_or o (Some kept)) w.in-Some-latest_at.is)
            | in-None w ↦ w.found-is ∙ sym (ap (λ o. version_or o (Some kept)) w.in-None.is)
          ])
          c.in_default-found.is
          ∙ c.loop-place.invariant.same;
      parts = rest_kept s.epoch s.base.now s.versions.now c.in-Some.place kept s.kept c.next.new.self s.left c.in-Some.ensures.steps c.loop-place.invariant.parts;
    }

pub loop-place-2-init : goal.loop-place-2-init
loop-place-2-init c =
    let p = c.loop-place.invariant.parts in
    record {
      same = refl;
      parts = (p.0, subst (AreFound c.loop-place.self-inside.base.now) (c.in_default.ensures.steps.0 ∙ sym c.in_default.ensures.steps.1) p.1, p.2);
      passed = c.in_default.ensures.steps.1;
    }

pub invariant_of-self-in-Some-found-2 : goal.invariant_of-self-in-Some-found-2
invariant_of-self-in-Some-found-2 c =
    let s = c.loop-place-2.self-inside in
    rest_left s.epoch s.base.now s.versions.now c.in-Some-next.place c.in-Some-next.latest s.kept s.left c.next-in-loop-place-2.new.self c.in-Some-next.ensures.steps c.loop-place-2.invariant.passed c.loop-place-2.invariant.parts

pub returns-in-Some-found-2-clause-steps : goal.returns-in-Some-found-2-clause-steps
returns-in-Some-found-2-clause-steps c =
    let f = c.loop-place.self-inside in
    let s = c.loop-place-2.self-inside in
    let before = state_of s.base.now c.in-Some-next.place.0 c.in-Some-next.place.1 in
    sym c.self.view_is ∙ (sym c.loop-place.invariant.same
    ∙ (ap (λ l. at_parts f.epoch f.base.now f.versions.now l f.left) (c.in_default.ensures.steps.0 ∙ sym c.in_default.ensures.steps.1)
    ∙ (sym c.loop-place-2.invariant.same
    ∙ left_found s.epoch s.base.now s.versions.now c.in-Some-next.place c.in-Some-next.latest s.kept s.left c.next-in-loop-place-2.new.self c.in-Some-next.ensures.steps c.loop-place-2.invariant.passed c.loop-place-2.invariant.parts
    c.match-latest.found
    (elim c.match-latest.branch [
      | in-Some-latest w ↦ w.found-is ∙ sym (ap (λ o. version_or o before) w.in-Some-latest.is)
      | in-None-latest w ↦ w.found-is ∙ (w.get-found.ensures ∙ sym (ap (λ o. version_or o before) w.in-None-latest.is))
    ])
    c.in-Some-found-2.state c.in-Some-found-2.is)))

pub loop-place-2-preserved : goal.loop-place-2-preserved
loop-place-2-preserved c =
    let s = c.loop-place-2.self-inside in
    let before = state_of s.base.now c.in-Some-next.place.0 c.in-Some-next.place.1 in
    record {
      same =
          none_left s.epoch s.base.now s.versions.now c.in-Some-next.place c.in-Some-next.latest s.kept s.left c.next-in-loop-place-2.new.self c.in-Some-next.ensures.steps c.loop-place-2.invariant.passed c.loop-place-2.invariant.parts
          c.match-latest.found
          (elim c.match-latest.branch [
            | in-Some-latest w ↦ w.found-is ∙ sym (ap (λ o. version_or o before) w.in-Some-latest.is)
            | in-None-latest w ↦ w.found-is ∙ (w.get-found.ensures ∙ sym (ap (λ o. version_or o before) w.in-None-latest.is))
          ])
          c.in_default-found-2.is
          ∙ c.loop-place-2.invariant.same;
      parts = rest_left s.epoch s.base.now s.versions.now c.in-Some-next.place c.in-Some-next.latest s.kept s.left c.next-in-loop-place-2.new.self c.in-Some-next.ensures.steps c.loop-place-2.invariant.passed c.loop-place-2.invariant.parts;
      passed = c.loop-place-2.invariant.passed;
    }

pub invariant_of-self-in_default-next : goal.invariant_of-self-in_default-next
invariant_of-self-in_default-next c =
    let s = c.loop-place-2.self-inside in
    subst (AreParts s.epoch s.base.now s.versions.now s.kept) (c.in_default-next.ensures.steps.0 ∙ sym c.in_default-next.ensures.steps.1) c.loop-place-2.invariant.parts

pub returns-clause-steps : goal.returns-clause-steps
returns-clause-steps c =
    let f = c.loop-place.self-inside in
    let s = c.loop-place-2.self-inside in
    let passed = c.loop-place-2.invariant.passed in
    let steps = c.in_default-next.ensures.steps in (
      sym c.self.view_is ∙ (sym c.loop-place.invariant.same
          ∙ (ap (λ l. at_parts f.epoch f.base.now f.versions.now l f.left) (c.in_default.ensures.steps.0 ∙ sym c.in_default.ensures.steps.1)
          ∙ (sym c.loop-place-2.invariant.same
          ∙ (λ i. at_parts s.epoch s.base.now s.versions.now (passed i) (steps.0 i))))),
      λ i. at_parts s.epoch s.base.now s.versions.now (passed i) (steps.1 i),
    )
