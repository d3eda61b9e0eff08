use Rattle.std.proofs.Common.{arith, ◌≡◌, ◌+◌, ◌-◌, ◌<◌, ◌++◌, ◌∷◌, [], ℕ, cond, Some, length, List, refl, sym, ap, ◌∙◌, subst}
use Rattle.td_stamp.specs.declared.values.Rec.{Rec}
use Rattle.td_shard.specs.declared.runs.Lane.{Lane}
use Rattle.td_shard.specs.Runs.{Part, Parts, lane_eq, last_on, AreLinked, FrontWaits, AreUpTo, AreOlder, AreGrouped, all_of, numbered}
use Rattle.td_shard.proofs.Lanes.{lane_equiv}
use Rattle.td_shard.proofs.Linked.{appended, linked-to_end, linked_appended, last-appended, messages-appended, last-below, front-appended, grouped-appended, older-appended, up_to-appended}
use Rattle.td_shard.proofs.Extended.{numbered_from, numbered_below}
use Rattle.td_shard.proofs.InOneList.{length-numbered}
use Rattle.td_shard.proofs.mailbox.append.Goals as goal
use Rattle.td_shard.proofs.mailbox.append.Goals.{in-Some, in_default}

below : (at : ℕ) (k : Lane) (ps : List Part) → Some at ≡ last_on lane_eq k ps → at < length ps
below at k ps e = last-below lane_eq k ps at (sym e)

pub overflow_sub-ahead : goal.overflow_sub-ahead
overflow_sub-ahead c = let h = below c.in-Some.at c.args.lane c.args.runs.now.parts (sym c.in-Some.is ∙ c.requires.last) in omega (arith, h, c.len.ensures)

pub link-requires : goal.link-requires
link-requires c = below c.in-Some.at c.args.lane c.args.runs.now.parts (sym c.in-Some.is ∙ c.requires.last)

-- the runs are the old ones with one more at the end, linked
abbrev new_part : Lane → ℕ → List Rec → Part
new_part k n rs = record { lane = k; base = n; ahead = 0; recs = numbered n rs }

parts-are : (c : goal.After-push) → c.push.new.self.parts ≡ appended (last_on lane_eq c.args.lane c.args.runs.now.parts) c.args.runs.now.parts (new_part c.args.lane c.args.number c.args.recs.now)
parts-are c =
    let old = c.args.runs.now.parts in
    let x : Part = new_part c.args.lane c.args.number c.args.recs.now in
    ap (λ (v : Parts). v.parts) c.push.ensures ∙ elim c.match-last.branch [
      | in-Some w ↦
          let at = w.in-Some.at in
          let h = below at c.args.lane old (sym w.in-Some.is ∙ c.requires.last) in
          let fits : w.len.result - at + at ≡ length old = omega (arith, h, w.len.ensures) in
          ap (λ (v : Parts). v.parts ++ x ∷ []) (w.runs-is ∙ w.link.ensures)
          ∙ (ap (λ l. l ++ x ∷ []) (linked-to_end at (w.len.result - at) old h fits)
          ∙ ap (λ o. appended o old x) (sym w.in-Some.is ∙ c.requires.last))
      | in_default w ↦ ap (λ (v : Parts). v.parts ++ x ∷ []) w.runs-is ∙ ap (λ o. appended o old x) (sym w.in_default.is ∙ c.requires.last)
    ]

pub returns-clause-linked : goal.returns-clause-linked
returns-clause-linked c = subst (AreLinked lane_eq) (sym (parts-are c)) (linked_appended lane_eq lane_equiv c.args.lane _ c.args.runs.now.parts (lane_equiv.refl c.args.lane) refl c.requires.linked)

pub returns-clause-lasts : goal.returns-clause-lasts
returns-clause-lasts c = λ q.
    let old = c.args.runs.now.parts in
    ap (last_on lane_eq q) (parts-are c)
    ∙ (last-appended lane_eq q (last_on lane_eq c.args.lane old) old (new_part c.args.lane c.args.number c.args.recs.now)
    ∙ ap (λ b. cond b (Some (length old)) (last_on lane_eq q old)) (lane_equiv.symm q c.args.lane))

pub returns-clause-appended : goal.returns-clause-appended
returns-clause-appended c =
    let old = c.args.runs.now.parts in
    let n = c.args.number in
    let rs = c.args.recs.now in
    let o = last_on lane_eq c.args.lane old in
    let x = new_part c.args.lane n rs in
    record {
      all = ap all_of (parts-are c) ∙ messages-appended o old x;
      first = ap (λ (v : Parts). v.first) c.push.ensures ∙ elim c.match-last.branch [
        | in-Some w ↦ ap (λ (v : Parts). v.first) (w.runs-is ∙ w.link.ensures)
        | in_default w ↦ ap (λ (v : Parts). v.first) w.runs-is
      ];
      front = λ f. subst FrontWaits (sym (parts-are c)) (front-appended o old x (omega (arith, c.requires.some, length-numbered n rs)) f);
      grouped = λ u g. subst AreGrouped (sym (parts-are c)) (grouped-appended o old x (numbered_from n rs n (omega arith)) u g);
      older = λ p. subst (AreOlder (n + length rs)) (sym (parts-are c)) (older-appended (n + length rs) o old x (omega (arith, c.requires.some), numbered_below n rs (n + length rs) (omega arith)) p);
    }

pub returns-clause-up_to : goal.returns-clause-up_to
returns-clause-up_to c u = subst (AreUpTo c.args.number) (sym (parts-are c)) (up_to-appended c.args.number (last_on lane_eq c.args.lane c.args.runs.now.parts) c.args.runs.now.parts (new_part c.args.lane c.args.number c.args.recs.now) refl u)
