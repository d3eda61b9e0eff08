-- Only a give changes how many tasks were given, and only a take how many were taken.
use Rattle.std.proofs.Common.{◌≡◌, ◌⊎◌, inl, inr, ℕ, zero, suc, ◌+◌, ◌++◌, ◌==◌, ◌&&◌, subst, Bool, true, false, List, [], ◌∷◌, Option, None, Some, refl, ap, sym, ◌∙◌, arith}
use Rattle.std.proofs.lemmas.Bool.{and_parts}
use Rattle.td_stamp.specs.declared.values.Entry.{Entry}
use Rattle.td_calls.specs.Answers.{Answers}
use Rattle.td_machine.specs.State.{HallState, Content, Task}
use Rattle.td_machine.specs.State.Content.{messages, notification}
use Rattle.td_machine.specs.declared.records.Message.{Message}
use Rattle.td_plan.specs.declared.vertex.Kind.{Kind}
use Rattle.td_batch.specs.Flow.{numbers_from}
use Rattle.td_machine.specs.Steps.{Answer, Refusal, Gives, Takes, ends, release_by, release_step, collect_step, cut_by, cut_at_by, close_step, delivered, all_delivered, effect, coming}
use Rattle.td_machine.specs.Steps.Answer.{has_given, has_taken, refused}
use Rattle.td_machine.specs.Steps.Refusal.{stranger}
use Rattle.td_core.specs.Refusals.{error_of}
use Rattle.td_core.specs.declared.error.HallError.{HallError}
use Rattle.td_core.specs.declared.error.HallError.TheVariants.{Memory, Stranger}

-- both numbers of a state
abbrev Same : HallState → HallState → Type 0
Same S T = (T.given ≡ S.given) × (T.taken ≡ S.taken)

-- a release
by_release : (S : HallState) (closed at_end : Bool) (batch : List Entry) → Same S (release_by S closed at_end batch).1
by_release S true at_end batch = (refl, refl)
by_release S false true batch = (refl, refl)
by_release S false false batch = (refl, refl)

pub released : (S T : HallState) (batch : List Entry) (answer : Answer) → release_step S batch ≡ (answer, T) → Same S T
released S T batch answer e = subst (λ r. Same S r.1) e (by_release S S.closed (S.next == ends) batch)

-- a collect
pub collected : (S T : HallState) (answer : Answer) → collect_step S ≡ (answer, T) → Same S T
collected S T answer e = subst (λ r. Same S r.1) e (refl, refl)

-- a cut
by_cut : (S : HallState) (first : Option ℕ) (last : ℕ) → Same S (cut_by S first last).1
by_cut S None last = (refl, refl)
by_cut S (Some e) last = (refl, refl)

pub cut : (S T : HallState) (first : Option ℕ) (last : ℕ) (answer : Answer) → cut_by S first last ≡ (answer, T) → Same S T
cut S T first last answer e = subst (λ r. Same S r.1) e (by_cut S first last)

by_cut_at : (S : HallState) (passed : Bool) (e : ℕ) → Same S (cut_at_by S passed e).1
by_cut_at S true e = (refl, refl)
by_cut_at S false e = (refl, refl)

pub cut_there : (S T : HallState) (passed : Bool) (epoch : ℕ) (answer : Answer) → cut_at_by S passed epoch ≡ (answer, T) → Same S T
cut_there S T passed epoch answer e = subst (λ r. Same S r.1) e (by_cut_at S passed epoch)

-- a close
pub closed : (S T : HallState) (answer : Answer) → close_step S ≡ (answer, T) → Same S T
closed S T answer e = subst (λ r. Same S r.1) e (refl, refl)

-- a take
pub none_taken : (S T : HallState) (s : ℕ) → Takes S s (has_taken None) T → T ≡ S
none_taken S T s (Takes.has_none free none) = refl

pub taken : (S T : HallState) (s : ℕ) (task : Task) → Takes S s (has_taken (Some task)) T → (T.given ≡ S.given) × (T.taken ≡ S.taken + 1)
taken S T s task (Takes.takes free it may few) = (refl, refl)

-- what a task does
by_records : (answers : Answers) (kind : Kind) (S : HallState) (cs : List Message) → Same S (all_delivered answers kind S cs)
by_records answers kind S [] = (refl, refl)
by_records answers kind S (c ∷ cs) = by_records answers kind (delivered answers S kind c) cs

by_content : (answers : Answers) (S : HallState) (task : Task) (content : Content) → Same S (effect answers S task content)
by_content answers S task (messages port recs) = by_records answers task.kind S (coming task.vertex port task.time recs)
by_content answers S task (notification items) = (refl, refl)

-- a give
pub by_give : (answers : Answers) (S T : HallState) (task : Task) → Gives answers S task has_given T → (T.given ≡ S.given + 1) × (T.taken ≡ S.taken)
by_give answers S T task (Gives.gives out) =
    let same = by_content answers S task task.content in
    (ap (λ n. n + 1) same.0, same.1)

-- numbers, and one more
one_more_number : (k n : ℕ) → numbers_from k (suc n) ≡ numbers_from k n ++ (k + n) ∷ []
one_more_number k zero = let same : k + 0 ≡ k = omega arith in ap (λ m. m ∷ []) (sym same)
one_more_number k (suc n) =
    let same : suc k + n ≡ k + suc n = omega arith in
    ap (λ l. k ∷ l) (one_more_number (suc k) n ∙ ap (λ m. numbers_from (suc k) n ++ m ∷ []) same)

pub next_number : (n : ℕ) → numbers_from 0 (n + 1) ≡ numbers_from 0 n ++ n ∷ []
next_number n =
    let one : n + 1 ≡ suc n = omega arith in
    let zero_too : 0 + n ≡ n = omega arith in
    ap (numbers_from 0) one ∙ (one_more_number 0 n ∙ ap (λ m. numbers_from 0 n ++ m ∷ []) zero_too)

-- as many, where both hold
pub as_many : (n m : ℕ) (b : Bool) → (n == m && b) ≡ true → n ≡ m
as_many n m b e = grind (arith, e)

-- a give is refused as a stranger's, and for no other reason of the machine
only_stranger : (answers : Answers) (S T : HallState) (task : Task) (r : Refusal) → Gives answers S task (refused r) T → r ≡ stranger
only_stranger answers S T task r (Gives.is_stranger none) = refl

pub give_refused : (answers : Answers) (S : HallState) (task : Task) (e : HallError) → (e ≡ Memory) ⊎ ((r : Refusal) × (e ≡ error_of r) × Gives answers S task (refused r) S)
    → (e ≡ Memory) ⊎ (e ≡ Stranger)
give_refused answers S task e (inl memory) = inl memory
give_refused answers S task e (inr (r, is, step)) = inr (is ∙ ap error_of (only_stranger answers S S task r step))

pub and_all : (n m : ℕ) (b : Bool) → (n == m && b) ≡ true → b ≡ true
and_all n m b e = (and_parts (n == m) b e).1
