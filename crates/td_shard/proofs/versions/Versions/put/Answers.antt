use Rattle.std.proofs.Common.{◌≡◌, ◌∙◌, ℕ, Option, None, ◌++◌, ◌∷◌, [], List, ap, Ok, Err, Some, subst, sym, rules}
use Rattle.std.specs.declared.result.Result.{Result}
use Rattle.std.specs.Result.{OnErr, OnOk}
use Rattle.std.specs.List.Sorted.{IsPermutation}
use Rattle.std.specs.Map.{lookup}
use Rattle.std.specs.HashMap.{HashMap, PutsEntry}
use Rattle.td_stamp.specs.States.{same_place}
use Rattle.td_stamp.specs.Bag.{bag_insert}
use Rattle.td_machine.specs.State.{left_cmp}
use Rattle.td_shard.specs.declared.versions.Version.{Version}
use Rattle.td_shard.specs.Versions.{AreVersions, left_of, version_cmp}
use Rattle.td_shard.proofs.LeftBags.{found_by_order, set_by_order}
use Rattle.td_shard.proofs.KeptVersions.{as_before, one_more, first_one}
use Rattle.td_shard.proofs.EachKept.{kept-here, kept-more, kept-written, kept-put}
use Rattle.td_shard.proofs.versions.Versions.put.Goals as goal

-- one clause of the put follows from one of the call
if-ok : {A E P Q : Type 0} (r : Result A E) → (P → Q) → OnOk r P → OnOk r Q
if-ok (Ok a) f p = f p
if-ok (Err e) f p = p

if-err : {A E P Q : Type 0} (r : Result A E) → (P → Q) → OnErr r P → OnErr r Q
if-err (Ok a) f p = p
if-err (Err e) f p = f p

-- with one more, or as before, they are kept in order
either : {A E : Type 0} (r : Result A E) (v : Version) (old new : List Version) → AreVersions old → OnOk r (new ≡ bag_insert version_cmp v old) → OnErr r (new ≡ old) → AreVersions new
either (Ok a) v old new h p q = subst AreVersions (sym p) (kept-more v old h)
either (Err e) v old new h p q = subst AreVersions (sym q) h

-- an entry that is put where there is none comes among the others
among : {V S : Type 0} (m n : HashMap (ℕ × ℕ) V S) (place : ℕ × ℕ) (w : V) (old : Option V) → old ≡ None → PutsEntry same_place m n place w old → IsPermutation ((place, w) ∷ m.entries) n.entries
among m n place w None e h = h
among m n place w (Some x) e h = cc

put_first : (c : goal.Joined-branch-3) → IsPermutation ((c.placed.result.0, c.push_reserved.new.self) ∷ c.self.inside.versions.entries) c.insert.new.self.entries
put_first c =
    let place = c.placed.result.0 in
    let before = c.get_mut.follows.holds-at-none in
    let none : c.in_ok-insert-in-None.field-0 ≡ None = c.in_ok-insert-in-None.ensures.old ∙ ap (λ m. lookup (same_place place) m.entries) before ∙ sym c.in-None.ensures.value in
    subst (λ m. IsPermutation ((place, c.push_reserved.new.self) ∷ m.entries) c.insert.new.self.entries) before
    (among c.get_mut.follows.lender-at-none c.insert.new.self place c.push_reserved.new.self c.in_ok-insert-in-None.field-0 none c.in_ok-insert-in-None.ensures.entries)

pub put_in-requires : goal.put_in-requires
put_in-requires c = (kept-here (λ v. v.items) c.placed.result.0 c.self.inside.versions.entries c.self.inside.versions.entries c.self.invariant.1 c.in-Some.versions.now (found_by_order c.placed.result.0 c.self.inside.versions.entries (Some c.in-Some.versions.now) c.in-Some.ensures.value)).1

pub returns-in-Some-clause-ok : goal.returns-in-Some-clause-ok
returns-in-Some-clause-ok c =
    let es = c.self.inside.versions.entries in
    let new = c.put_in.new.versions in
    if-ok c.put_in.result
    (λ more. one_more (λ v. v.items) c.placed.result.0 es (c.get_mut.follows.lender new).entries c.version_laws.ensures c.placed.result.1 c.in-Some.versions.now new
    (found_by_order c.placed.result.0 c.self.inside.versions.entries (Some c.in-Some.versions.now) c.in-Some.ensures.value) (set_by_order c.placed.result.0 c.self.inside.versions.entries (c.get_mut.follows.lender new).entries new (c.get_mut.follows.holds new).0) more
    ∙ (λ i. bag_insert left_cmp (left_of (c.placed.ensures.place i) (c.placed.ensures.version i)) (c.self.view_is i)))
    c.put_in.ensures.ok

pub returns-in-Some-clause-err : goal.returns-in-Some-clause-err
returns-in-Some-clause-err c =
    let es = c.self.inside.versions.entries in
    let new = c.put_in.new.versions in
    if-err c.put_in.result
    (λ same. as_before (λ v. v.items) c.placed.result.0 es (c.get_mut.follows.lender new).entries c.in-Some.versions.now new (found_by_order c.placed.result.0 c.self.inside.versions.entries (Some c.in-Some.versions.now) c.in-Some.ensures.value) (set_by_order c.placed.result.0 c.self.inside.versions.entries (c.get_mut.follows.lender new).entries new (c.get_mut.follows.holds new).0) same ∙ c.self.view_is)
    c.put_in.ensures.err

pub returns-in_ok-insert-in-None-clause-ok : goal.returns-in_ok-insert-in-None-clause-ok
returns-in_ok-insert-in-None-clause-ok c =
    let es = c.self.inside.versions.entries in
    let new = c.push_reserved.new.self in
    first_one (λ v. v.items) c.placed.result.0 es c.insert.new.self.entries c.version_laws.ensures c.placed.result.1 new (put_first c)
    (c.push_reserved.ensures.items ∙ ap (λ l. l ++ c.placed.result.1 ∷ []) c.in_ok-versions-in-None.ensures.items)
    ∙ (λ i. bag_insert left_cmp (left_of (c.placed.ensures.place i) (c.placed.ensures.version i)) (c.self.view_is i))

pub invariant_of-self : goal.invariant_of-self
invariant_of-self c =
    let es = c.self.inside.versions.entries in
    let new = c.put_in.new.versions in
    let old = kept-here (λ v. v.items) c.placed.result.0 es es c.self.invariant.1 c.in-Some.versions.now (found_by_order c.placed.result.0 c.self.inside.versions.entries (Some c.in-Some.versions.now) c.in-Some.ensures.value) in (
      search rules,
      kept-written (λ v. v.items) c.placed.result.0 es (c.get_mut.follows.lender new).entries c.self.invariant.1 new (set_by_order c.placed.result.0 c.self.inside.versions.entries (c.get_mut.follows.lender new).entries new (c.get_mut.follows.holds new).0)
          (either c.put_in.result c.placed.result.1 c.in-Some.versions.now.items new.items old c.put_in.ensures.ok c.put_in.ensures.err),
    )

pub invariant_of-self-in-None : goal.invariant_of-self-in-None
invariant_of-self-in-None c =
    let one = c.push_reserved.ensures.items ∙ ap (λ l. l ++ c.placed.result.1 ∷ []) c.in_ok-versions-in-None.ensures.items in (
      search rules,
      kept-put (λ v. v.items) c.placed.result.0 c.self.inside.versions.entries c.insert.new.self.entries c.self.invariant.1 c.push_reserved.new.self (put_first c)
          (subst AreVersions (sym one) (λ e. cc, (tt, tt))),
    )
