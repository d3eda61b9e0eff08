-- A task changes nothing of how a hall stands.
use Rattle.std.proofs.Common.{◌≡◌, ℕ, List, [], ◌∷◌, Option, None, Some, IfSome, refl, sym, ap, ◌∙◌}
use Rattle.td_calls.specs.Answers.{Answers}
use Rattle.td_plan.specs.declared.vertex.Kind.{Kind}
use Rattle.td_machine.specs.State.{HallState, Content, Task}
use Rattle.td_machine.specs.State.Content.{messages, notification}
use Rattle.td_machine.specs.declared.records.Message.{Message}
use Rattle.td_machine.specs.Steps.{Gives, Takes, delivered, all_delivered, effect, coming}
use Rattle.td_machine.specs.Steps.Answer.{has_given, has_taken}
use Rattle.td_pool.specs.Stands.{StandsAs}

-- the same hall
pub stands_still : (S T : HallState) → S ≡ T → StandsAs S T
stands_still S T e = record {
  plan = sym (ap (λ h. h.plan) e);
  base = sym (ap (λ h. h.base) e);
  base_states = sym (ap (λ h. h.base_states) e);
  batches = sym (ap (λ h. h.batches) e);
  closed = sym (ap (λ h. h.closed) e);
  collected = sym (ap (λ h. h.collected) e);
}

-- one after another
pub stands_then : (S T U : HallState) → StandsAs S T → StandsAs T U → StandsAs S U
stands_then S T U first second = record {
  plan = second.plan ∙ first.plan;
  base = second.base ∙ first.base;
  base_states = second.base_states ∙ first.base_states;
  batches = second.batches ∙ first.batches;
  closed = second.closed ∙ first.closed;
  collected = second.collected ∙ first.collected;
}

-- a course whose last entry stands as a hall does that goes on
pub course_stands : (course : Option HallState) (S T : HallState) → StandsAs S T → IfSome course (λ c. StandsAs c S) → IfSome course (λ c. StandsAs c T)
course_stands None S T stands it = tt
course_stands (Some c) S T stands it = stands_then c S T it stands

-- a course whose last entry is the hall
pub course_is : (course : Option HallState) (S : HallState) → IfSome course (λ c. c ≡ S) → IfSome course (λ c. StandsAs c S)
course_is None S it = tt
course_is (Some c) S it = stands_still c S it

-- a take
pub stands_taken : (S T : HallState) (s : ℕ) (task : Task) → Takes S s (has_taken (Some task)) T → StandsAs S T
stands_taken S T s task (Takes.takes free it may few) = record { plan = refl; base = refl; base_states = refl; batches = refl; closed = refl; collected = refl }

-- what a task does
by_records : (answers : Answers) (kind : Kind) (S : HallState) (cs : List Message) → StandsAs S (all_delivered answers kind S cs)
by_records answers kind S [] = stands_still S S refl
by_records answers kind S (c ∷ cs) =
    let rest = by_records answers kind (delivered answers S kind c) cs in
    record { plan = rest.plan; base = rest.base; base_states = rest.base_states; batches = rest.batches; closed = rest.closed; collected = rest.collected }

by_content : (answers : Answers) (S : HallState) (task : Task) (content : Content) → StandsAs S (effect answers S task content)
by_content answers S task (messages port recs) = by_records answers task.kind S (coming task.vertex port task.time recs)
by_content answers S task (notification items) = record { plan = refl; base = refl; base_states = refl; batches = refl; closed = refl; collected = refl }

-- a give
pub stands_given : (answers : Answers) (S T : HallState) (task : Task) → Gives answers S task has_given T → StandsAs S T
stands_given answers S T task (Gives.gives out) =
    let same = by_content answers S task task.content in
    record { plan = same.plan; base = same.base; base_states = same.base_states; batches = same.batches; closed = same.closed; collected = same.collected }
