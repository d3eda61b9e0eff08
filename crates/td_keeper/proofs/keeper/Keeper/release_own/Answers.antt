use Rattle.std.proofs.Common.{◌≡◌, ℕ, ◌+◌, ◌-◌, Result, Ok, Err, IfOk, IfErr, List, [], length, take, drop, refl, sym, ap, ◌∙◌, subst, arith}
use Rattle.std.proofs.lemmas.List.{length-map, append-nil, take-append-drop}
use Rattle.td_stamp.specs.declared.values.Entry.{Entry}
use Rattle.td_store.specs.declared.standing.error.KeeperError.{KeeperError}
use Rattle.td_machine.specs.State.{HallState}
use Rattle.td_store.specs.standing.Standing.{batches_of}
use Rattle.td_keeper.specs.Keeping.{Keeping, IsKeeping}
use Rattle.td_keeper.specs.Halls.{StaysOwn, with_released, lacking}
use Rattle.td_keeper.proofs.Owning.{stays_at, stays_released}
use Rattle.td_keeper.proofs.Batches.{lacks, has_few, has_numbers, all_then}
use Rattle.td_keeper.proofs.keeper.Keeper.release_own.Goals as goal

if_ok : {A E : Type 0} {P Q : A → Type 0} (r : Result A E) → ((a : A) → P a → Q a) → IfOk r P → IfOk r Q
if_ok (Ok a) f h = f a h
if_ok (Err e) f h = tt

if_err : {A E : Type 0} {P Q : E → Type 0} (r : Result A E) → ((e : E) → P e → Q e) → IfErr r P → IfErr r Q
if_err (Ok a) f h = tt
if_err (Err e) f h = f e h

pub overflow_add-has : goal.overflow_add-has
overflow_add-has g c =
    let keeping = subst (λ (q : Keeping g.row.D.Denot). IsKeeping q g.L.Law.answers) c.self.view_is c.self.invariant.1 in
    let few = has_few g.L.Law.answers c.args.self.now keeping (g.H.AnyHall.state c.args.hall.now) c.requires.own c.each_is_sound.ensures.sound in
    omega (arith, few, keeping.small, c.past.ensures, c.len.ensures, c.inputs.result.now.ok.0, ap length c.inputs.ensures, ap (λ (S : HallState). length S.batches) c.hall.ensures)

pub release_after-requires-clause-within : goal.release_after-requires-clause-within
release_after-requires-clause-within g c =
    let keeping = subst (λ (q : Keeping g.row.D.Denot). IsKeeping q g.L.Law.answers) c.self.view_is c.self.invariant.1 in
    let few = has_few g.L.Law.answers c.args.self.now keeping (g.H.AnyHall.state c.args.hall.now) c.requires.own c.each_is_sound.ensures.sound in
    let same = ap (λ (q : Keeping g.row.D.Denot). length q.standing.submitted) c.self.view_is in
    omega (arith, few, same, c.past.ensures, c.len.ensures, c.inputs.result.now.ok.0, ap length c.inputs.ensures, ap (λ (S : HallState). length S.batches) c.hall.ensures)

pub release_after-requires-clause-numbers : goal.release_after-requires-clause-numbers
release_after-requires-clause-numbers g c =
    let keeping = subst (λ (q : Keeping g.row.D.Denot). IsKeeping q g.L.Law.answers) c.self.view_is c.self.invariant.1 in
    let numbers = has_numbers g.L.Law.answers c.args.self.now keeping (g.H.AnyHall.state c.args.hall.now) c.requires.own c.each_is_sound.ensures.sound in
    let place : c.past.result + c.len.result ≡ c.args.self.now.base - c.args.self.now.standing.epoch + length (g.H.AnyHall.state c.args.hall.now).batches =
    omega (arith, c.past.ensures, c.len.ensures, c.inputs.result.now.ok.0, ap length c.inputs.ensures, ap (λ (S : HallState). length S.batches) c.hall.ensures) in
    let same = ap (λ (q : Keeping g.row.D.Denot). q.standing.submitted) c.self.view_is in
    let many : length (drop (c.past.result + c.len.result) c.self.inside.submitted.items) ≡ length (drop (c.args.self.now.base - c.args.self.now.standing.epoch + length (g.H.AnyHall.state c.args.hall.now).batches) c.args.self.now.standing.submitted) =
    λ i. length (drop (place i) (same i)) in
    omega (arith, numbers, many)

pub returns-clause-released : goal.returns-clause-released
returns-clause-released g c =
    let keeping = subst (λ (q : Keeping g.row.D.Denot). IsKeeping q g.L.Law.answers) c.self.view_is c.self.invariant.1 in
    let place : c.past.result + c.len.result ≡ c.args.self.now.base - c.args.self.now.standing.epoch + length (g.H.AnyHall.state c.args.hall.now).batches =
    omega (arith, c.past.ensures, c.len.ensures, c.inputs.result.now.ok.0, ap length c.inputs.ensures, ap (λ (S : HallState). length S.batches) c.hall.ensures) in
    let same = ap (λ (q : Keeping g.row.D.Denot). q.standing.submitted) c.self.view_is in
    let whole : batches_of (drop (c.past.result + c.len.result) c.self.inside.submitted.items) ≡ lacking c.args.self.now (g.H.AnyHall.state c.args.hall.now) =
    (λ i. batches_of (drop (place i) (same i))) ∙ lacks g.L.Law.answers c.args.self.now keeping (g.H.AnyHall.state c.args.hall.now) c.requires.own c.each_is_sound.ensures.sound in
    if_ok c.release_after.result (λ n h. (h.0 ∙ (sym (length-map (drop (c.past.result + c.len.result) c.self.inside.submitted.items) (λ s. s.batch)) ∙ ap length whole), h.1 ∙ ap (with_released (g.H.AnyHall.state c.args.hall.now)) whole)) c.release_after.ensures.released

pub returns-clause-all : goal.returns-clause-all
returns-clause-all g c =
    let keeping = subst (λ (q : Keeping g.row.D.Denot). IsKeeping q g.L.Law.answers) c.self.view_is c.self.invariant.1 in
    let place : c.past.result + c.len.result ≡ c.args.self.now.base - c.args.self.now.standing.epoch + length (g.H.AnyHall.state c.args.hall.now).batches =
    omega (arith, c.past.ensures, c.len.ensures, c.inputs.result.now.ok.0, ap length c.inputs.ensures, ap (λ (S : HallState). length S.batches) c.hall.ensures) in
    let same = ap (λ (q : Keeping g.row.D.Denot). q.standing.submitted) c.self.view_is in
    let whole : batches_of (drop (c.past.result + c.len.result) c.self.inside.submitted.items) ≡ lacking c.args.self.now (g.H.AnyHall.state c.args.hall.now) =
    (λ i. batches_of (drop (place i) (same i))) ∙ lacks g.L.Law.answers c.args.self.now keeping (g.H.AnyHall.state c.args.hall.now) c.requires.own c.each_is_sound.ensures.sound in
    if_ok c.release_after.result (λ n h. ap (λ U. U.batches) (h.1 ∙ ap (with_released (g.H.AnyHall.state c.args.hall.now)) whole)
    ∙ all_then g.L.Law.answers c.args.self.now keeping (g.H.AnyHall.state c.args.hall.now) c.requires.own c.each_is_sound.ensures.sound c.requires.not_closed)
    c.release_after.ensures.released

pub returns-clause-some : goal.returns-clause-some
returns-clause-some g c =
    let keeping = subst (λ (q : Keeping g.row.D.Denot). IsKeeping q g.L.Law.answers) c.self.view_is c.self.invariant.1 in
    let place : c.past.result + c.len.result ≡ c.args.self.now.base - c.args.self.now.standing.epoch + length (g.H.AnyHall.state c.args.hall.now).batches =
    omega (arith, c.past.ensures, c.len.ensures, c.inputs.result.now.ok.0, ap length c.inputs.ensures, ap (λ (S : HallState). length S.batches) c.hall.ensures) in
    let same = ap (λ (q : Keeping g.row.D.Denot). q.standing.submitted) c.self.view_is in
    let whole : batches_of (drop (c.past.result + c.len.result) c.self.inside.submitted.items) ≡ lacking c.args.self.now (g.H.AnyHall.state c.args.hall.now) =
    (λ i. batches_of (drop (place i) (same i))) ∙ lacks g.L.Law.answers c.args.self.now keeping (g.H.AnyHall.state c.args.hall.now) c.requires.own c.each_is_sound.ensures.sound in
    if_err c.release_after.result (λ e h. (h.0, h.1 ∙ ap (λ l. with_released (g.H.AnyHall.state c.args.hall.now) (take h.0 l)) whole)) c.release_after.ensures.some

module _ {D : Type 0} (k : Keeping D) (S T : HallState) (xs : List (List Entry)) where
  stays_after : (r : Result ℕ KeeperError) → IfOk r (λ n. (n ≡ length xs) × (T ≡ with_released S xs)) → IfErr r (λ e. (n : ℕ) × (T ≡ with_released S (take n xs)))
      → StaysOwn k S (with_released S xs) → ((n : ℕ) → StaysOwn k S (with_released S (take n xs))) → StaysOwn k S T
  stays_after (Ok n) ok err all some = stays_at k k S (with_released S xs) T refl ok.1 all
  stays_after (Err e) ok err all some = stays_at k k S (with_released S (take err.0 xs)) T refl err.1 (some err.0)

pub returns-clause-stays : goal.returns-clause-stays
returns-clause-stays g c =
    let k = c.args.self.now in
    let S = g.H.AnyHall.state c.args.hall.now in
    let lack = lacking k S in
    let keeping = subst (λ (q : Keeping g.row.D.Denot). IsKeeping q g.L.Law.answers) c.self.view_is c.self.invariant.1 in
    let stays = stays_released k S c.requires.own g.L.Law.answers keeping c.each_is_sound.ensures.sound c.requires.not_closed in
    stays_after k S (g.H.AnyHall.state c.release_after.new.hall) lack c.release_after.result (returns-clause-released g c) (returns-clause-some g c)
    (stays lack [] (sym (append-nil lack)))
    (λ n. stays (take n lack) (drop n lack) (sym (take-append-drop n lack)))
