-- The tasks that are out, and one of them: what it took up stands beside what the others did.
use Rattle.std.proofs.Common.{◌≡◌, ℕ, zero, suc, ◌==◌, Bool, true, false, not, cond, List, [], ◌∷◌, ◌++◌, filter, refl, ap, sym, ◌∙◌, subst, arith}
use Rattle.std.specs.List.{AllByRecursion, Contains}
use Rattle.std.proofs.lemmas.Bool.Decides.{nat_tests}
use Rattle.td_stamp.specs.Bag.{bag_of, join}
use Rattle.td_stamp.specs.BagLaws.{BagLaws}
use Rattle.td_machine.specs.declared.records.Message.{Message}
use Rattle.td_machine.specs.State.{Task, message_cmp}
use Rattle.td_machine.specs.InOrder.{OneAShard}
use Rattle.td_core.specs.Parts.{taken_up, with_tasks}

-- what holds of each holds of one
pub of_one : {X : Type 0} (P : X → Type 0) (xs : List X) (x : X) → AllByRecursion P xs → Contains xs x → P x
of_one P [] x h (k, l, e) = absurd (omega (arith, l))
of_one P (y ∷ ys) x h (zero, l, e) = subst P e h.0
of_one P (y ∷ ys) x h (suc k, l, e) = of_one P ys x h.1 (k, omega (arith, l), e)

pub same_number : (a b : ℕ) → (a == b) ≡ true → a ≡ b
same_number a b e = grind (arith, nat_tests)

pub is_itself : (a : ℕ) → (a == a) ≡ true
is_itself a = grind (arith, nat_tests)

module _ (task : Task) where
  -- the other tasks
  abbrev pub others : List Task → List Task
  others tasks = filter (λ t. not (t.shard == task.shard)) tasks

  -- what it took up
  abbrev pub its : List Message
  its = taken_up task.vertex task.time task.content

  all_stay : (tasks : List Task) → AllByRecursion (λ other. task.shard ≡ other.shard → ⊥) tasks → others tasks ≡ tasks
  all_stay [] h = refl
  all_stay (t ∷ ts) h = by (t.shard == task.shard) refl (all_stay ts h.1)
    where
      by : (b : Bool) → (t.shard == task.shard) ≡ b → others ts ≡ ts → cond (not b) (t ∷ others ts) (others ts) ≡ t ∷ ts
      by true e rest = absurd (h.0 (sym (same_number t.shard task.shard e)))
      by false e rest = ap (λ l. t ∷ l) rest

  one_stays : (t : Task) (ts : List Task) → (t.shard ≡ task.shard → ⊥) → others (t ∷ ts) ≡ t ∷ others ts
  one_stays t ts other = by (t.shard == task.shard) refl
    where
      by : (b : Bool) → (t.shard == task.shard) ≡ b → cond (not b) (t ∷ others ts) (others ts) ≡ t ∷ others ts
      by true e = absurd (other (same_number t.shard task.shard e))
      by false e = refl

  module _ (laws : BagLaws message_cmp) where
    taken_out : (tasks : List Task) (rest : List Message) → OneAShard tasks → Contains tasks task
        → join message_cmp (with_tasks tasks) rest ≡ join message_cmp its (join message_cmp (with_tasks (others tasks)) rest)
    taken_out [] rest once (k, l, e) = absurd (omega (arith, l))
    taken_out (t ∷ ts) rest once (zero, l, e) =
        let here : (t.shard == task.shard) ≡ true = ap (λ (u : Task). u.shard == task.shard) e ∙ is_itself task.shard in
        let left : others (t ∷ ts) ≡ ts = ap (λ b. cond (not b) (t ∷ others ts) (others ts)) here ∙ all_stay ts (subst (λ (u : Task). AllByRecursion (λ other. u.shard ≡ other.shard → ⊥) ts) e once.0) in
        laws.append (taken_up t.vertex t.time t.content) (with_tasks ts) rest
        ∙ (ap (λ (u : Task). join message_cmp (taken_up u.vertex u.time u.content) (join message_cmp (with_tasks ts) rest)) e
        ∙ ap (λ l. join message_cmp its (join message_cmp (with_tasks l) rest)) (sym left))
    taken_out (t ∷ ts) rest once (suc k, l, e) =
        let out : Contains ts task = (k, omega (arith, l), e) in
        let differs : t.shard ≡ task.shard → ⊥ = of_one (λ (u : Task). t.shard ≡ u.shard → ⊥) ts task once.0 out in
        let first = taken_up t.vertex t.time t.content in
        laws.append first (with_tasks ts) rest
        ∙ (ap (join message_cmp first) (taken_out ts rest once.1 out)
        ∙ (laws.swaps first its (join message_cmp (with_tasks (others ts)) rest)
        ∙ (ap (join message_cmp its) (sym (laws.append first (with_tasks (others ts)) rest))
        ∙ ap (λ l. join message_cmp its (join message_cmp (with_tasks l) rest)) (sym (one_stays t ts differs)))))

    -- ITS MESSAGES beside all others
    pub parted : (mail : List Message) (tasks : List Task) → OneAShard tasks → Contains tasks task
        → bag_of message_cmp (mail ++ with_tasks tasks) ≡ join message_cmp its (bag_of message_cmp (mail ++ with_tasks (others tasks)))
    parted mail tasks once out =
        laws.append mail (with_tasks tasks) []
        ∙ (ap (join message_cmp mail) (taken_out tasks [] once out)
        ∙ (laws.swaps mail its (join message_cmp (with_tasks (others tasks)) [])
        ∙ ap (join message_cmp its) (sym (laws.append mail (with_tasks (others tasks)) []))))
