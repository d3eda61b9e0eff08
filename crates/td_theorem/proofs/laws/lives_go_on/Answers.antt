use Rattle.std.proofs.Common.{ℕ, List, inl, refl, sym, ◌∙◌, subst, arith}
use Rattle.std.specs.Prelude.{Result, Ok}
use Rattle.td_store.specs.declared.standing.error.KeeperError.{KeeperError}
use Rattle.td_store.specs.standing.Standing.{Standing}
use Rattle.td_store.specs.standing.Told.{Told}
use Rattle.td_theorem.proofs.laws.lives_go_on.Goals as goal

pub returns-clause-same : goal.returns-clause-same
returns-clause-same g c plan image disk just left t is told = subst (λ (b : List ℕ). Told plan b (Ok t)) (sym (just left is)) told

pub returns-clause-told : goal.returns-clause-told
returns-clause-told g c plan image disk s told each left t is other =
    subst (λ (r : Result Standing KeeperError). Told plan left r) (sym (c.told_in_parts.ensures.one_answer plan image (Ok t) (Ok s) other told)) (each left is)

pub returns-clause-begins : goal.returns-clause-begins
returns-clause-begins g c plan sizes image disk keeps left other s is told = subst (λ (b : List ℕ). Told plan b (Ok s)) (keeps.durable image left ∙ sym (keeps.durable other is)) told

pub returns-clause-own : goal.returns-clause-own
returns-clause-own g c disk lawful = record {
  later = omega arith;
  each = λ image since. (image, g.met.D.Disk.only_now disk image lawful since, refl);
  before = λ moment image le since. inl since;
}
