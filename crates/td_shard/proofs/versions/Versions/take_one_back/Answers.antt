use Rattle.std.proofs.Common.{◌≡◌, ◌∙◌, ap, sym, subst, rules, true, false, Some, None}
use Rattle.td_stamp.specs.Bag.{bag_remove}
use Rattle.td_machine.specs.State.{left_cmp}
use Rattle.td_stamp.specs.Rises.{Rises}
use Rattle.td_shard.specs.Versions.{left_of, version_cmp}
use Rattle.td_shard.proofs.LeftBags.{are_apart, found_by_order, set_by_order, removed_by_order}
use Rattle.td_shard.proofs.KeptVersions.{none_out, one_out, last_out}
use Rattle.td_shard.proofs.EachKept.{kept-here, kept-written, kept-out}
use Rattle.td_shard.proofs.Rising.{rises-removed}
use Rattle.td_shard.proofs.versions.Versions.take_one_back.Goals as goal
use Rattle.td_shard.proofs.versions.Versions.take_one_back.Goals.{in-Some-1, in-None-1}

-- those of the place are kept in order
pub take_out-requires : goal.take_out-requires
take_out-requires c = (kept-here (λ v. v.items) c.placed.result.0 c.self.inside.versions.entries c.self.inside.versions.entries c.self.invariant.1 c.in-Some.versions.now (found_by_order c.placed.result.0 c.self.inside.versions.entries (Some c.in-Some.versions.now) c.in-Some.ensures.value)).1

pub returns-in_default : goal.returns-in_default
returns-in_default c =
    none_out (λ v. v.items) c.placed.result.0 c.self.inside.versions.entries c.get_mut.follows.lender-at-none.entries c.version_laws.ensures c.placed.result.1
    (found_by_order c.placed.result.0 c.self.inside.versions.entries None c.in_default.ensures.value) (ap (λ m. m.entries) c.get_mut.follows.holds-at-none)
    ∙ (λ i. bag_remove left_cmp (left_of (c.placed.ensures.place i) (c.placed.ensures.version i)) (c.self.view_is i))

pub returns-then-take_out : goal.returns-then-take_out
returns-then-take_out c =
    let es = c.self.inside.versions.entries in
    let new = c.take_out.new.versions in
    let out =
    last_out (λ v. v.items) c.placed.result.0 es (c.get_mut.follows.lender new).entries c.version_laws.ensures c.placed.result.1 c.in-Some.versions.now new c.remove.new.self.entries
    (are_apart c.self.inside.versions.entries c.self.invariant.0) (found_by_order c.placed.result.0 c.self.inside.versions.entries (Some c.in-Some.versions.now) c.in-Some.ensures.value) (set_by_order c.placed.result.0 c.self.inside.versions.entries (c.get_mut.follows.lender new).entries new (c.get_mut.follows.holds new).0) c.take_out.ensures.left (c.take_out.ensures.none.0 c.if-take_out.true) (removed_by_order c.placed.result.0 (c.get_mut.follows.lender new).entries c.remove.new.self.entries c.remove.ensures.entries)
    ∙ (λ i. bag_remove left_cmp (left_of (c.placed.ensures.place i) (c.placed.ensures.version i)) (c.self.view_is i)) in
    elim c.match-remove.branch [ in-Some-1 w ↦ w.self-is ∙ out | in-None-1 w ↦ w.self-is ∙ out ]

pub returns-else-take_out : goal.returns-else-take_out
returns-else-take_out c =
    let new = c.take_out.new.versions in
    one_out (λ v. v.items) c.placed.result.0 c.self.inside.versions.entries (c.get_mut.follows.lender new).entries c.version_laws.ensures c.placed.result.1 c.in-Some.versions.now new
    (are_apart c.self.inside.versions.entries c.self.invariant.0) (found_by_order c.placed.result.0 c.self.inside.versions.entries (Some c.in-Some.versions.now) c.in-Some.ensures.value) (set_by_order c.placed.result.0 c.self.inside.versions.entries (c.get_mut.follows.lender new).entries new (c.get_mut.follows.holds new).0) c.take_out.ensures.left
    ∙ (λ i. bag_remove left_cmp (left_of (c.placed.ensures.place i) (c.placed.ensures.version i)) (c.self.view_is i))

pub invariant_of-self-then-take_out : goal.invariant_of-self-then-take_out
invariant_of-self-then-take_out c = (
  search rules,
  kept-out (λ v. v.items) c.placed.result.0 c.self.inside.versions.entries (c.get_mut.follows.lender c.take_out.new.versions).entries c.self.invariant.1 c.take_out.new.versions
      c.remove.new.self.entries (set_by_order c.placed.result.0 c.self.inside.versions.entries (c.get_mut.follows.lender c.take_out.new.versions).entries c.take_out.new.versions (c.get_mut.follows.holds c.take_out.new.versions).0)
      (removed_by_order c.placed.result.0 (c.get_mut.follows.lender c.take_out.new.versions).entries c.remove.new.self.entries c.remove.ensures.entries),
)

pub invariant_of-self-else-take_out : goal.invariant_of-self-else-take_out
invariant_of-self-else-take_out c = (
  search rules,
  kept-written (λ v. v.items) c.placed.result.0 c.self.inside.versions.entries (c.get_mut.follows.lender c.take_out.new.versions).entries c.self.invariant.1 c.take_out.new.versions
      (set_by_order c.placed.result.0 c.self.inside.versions.entries (c.get_mut.follows.lender c.take_out.new.versions).entries c.take_out.new.versions (c.get_mut.follows.holds c.take_out.new.versions).0) (
        λ e. let no : true ≡ false = sym (c.take_out.ensures.none.1 e) ∙ c.if-take_out.false in cc,
        subst (Rises version_cmp) (sym c.take_out.ensures.left)
            (rises-removed version_cmp c.placed.result.1 c.in-Some.versions.now.items
            (kept-here (λ v. v.items) c.placed.result.0 c.self.inside.versions.entries c.self.inside.versions.entries c.self.invariant.1 c.in-Some.versions.now (found_by_order c.placed.result.0 c.self.inside.versions.entries (Some c.in-Some.versions.now) c.in-Some.ensures.value)).1),
      ),
)
