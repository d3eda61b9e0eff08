use Rattle.std.proofs.Common.{◌≡◌, [], cond, None, unwrap_or, inr, sym, ap, ◌∙◌, subst, true≢false, arith}
use Rattle.std.specs.List.{IsDistinct}
use Rattle.std.specs.Map.{keys_of, lookup, remove_entry}
use Rattle.std.proofs.lemmas.Map.{lookup-remove_entry}
use Rattle.td_progress.specs.Bag.{is_stamp}
use Rattle.td_progress.specs.Held.{chain_at, IsPosition}
use Rattle.td_progress.proofs.Same.{same-is_stamp, is_stamp-equiv}
use Rattle.td_progress.proofs.HeldSteps.{found_at, empty_there}
use Rattle.td_progress.proofs.held.drop_empty.Goals as goal

pub returns-then-is_empty_at-clause-entries : goal.returns-then-is_empty_at-clause-entries
returns-then-is_empty_at-clause-entries c =
    let es = c.args.chains.now.entries in
    let k = c.args.class.now in
    let pos = subst (IsPosition k es) c.in-Some.is c.requires.position in
    let none : chain_at k es ≡ [] = ap (λ o. unwrap_or o []) (found_at k es c.in-Some.index c.requires.once pos ∙ c.is_empty_at.ensures.0 c.if-is_empty_at.true) in
    inr (omega (arith, c.depth.ensures.value, c.if-depth-eq0.false), none, c.shift_remove.ensures.entries ∙ ap (λ eq. remove_entry (eq k) es) same-is_stamp)

pub returns-then-is_empty_at-clause-none : goal.returns-then-is_empty_at-clause-none
returns-then-is_empty_at-clause-none c deep empty =
    let es = c.args.chains.now.entries in
    let k = c.args.class.now in
    ap (lookup (is_stamp k)) (c.shift_remove.ensures.entries ∙ ap (λ eq. remove_entry (eq k) es) same-is_stamp)
    ∙ (lookup-remove_entry is_stamp-equiv (is_stamp k) (λ x y e. is_stamp-equiv.congr k x y e) k es c.requires.once ∙ ap (λ b. cond b None (lookup (is_stamp k) es)) (is_stamp-equiv.refl k))

pub returns-else-is_empty_at-clause-none : goal.returns-else-is_empty_at-clause-none
returns-else-is_empty_at-clause-none c deep empty =
    let es = c.args.chains.now.entries in
    let k = c.args.class.now in
    let pos = subst (IsPosition k es) c.in-Some.is c.requires.position in
    absurd (true≢false (sym (c.is_empty_at.ensures.1 (empty_there k es c.in-Some.index c.requires.once pos empty)) ∙ c.if-is_empty_at.false))

pub returns-then-is_empty_at-clause-once : goal.returns-then-is_empty_at-clause-once
returns-then-is_empty_at-clause-once c = subst (λ eq. IsDistinct eq (keys_of c.shift_remove.new.self.entries)) same-is_stamp c.shift_remove.ensures.unique
