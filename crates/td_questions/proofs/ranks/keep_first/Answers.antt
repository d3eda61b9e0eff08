use Rattle.std.proofs.Common.{◌≡◌, ◌+◌, ◌≤◌, length, take, ap, sym, ◌∙◌, subst, arith, None}
use Rattle.td_stamp.specs.Bag.{set_insert}
use Rattle.td_questions.specs.Asked.{at_most}
use Rattle.td_questions.specs.Ranks.{ranked_cmp}
use Rattle.td_questions.specs.Weighed.{IsFew}
use Rattle.td_questions.proofs.Firsts.{key_put, one_more, few_are_all, popped, without_last}
use Rattle.td_questions.proofs.ranks.keep_first.Goals as goal
use Rattle.td_questions.proofs.ranks.keep_first.Goals.{in_default-via-in-None-1, in_default-via-in-Some+else-most-len}

pub returns-then-most-len-clause-kept : goal.returns-then-most-len-clause-kept
returns-then-most-len-clause-kept c =
    let most = c.in-Some.most in
    let set = set_insert ranked_cmp c.args.one c.args.first.now.keys in
    let put : c.insert.new.self.keys ≡ set = c.in_ok-insert.ensures.keys ∙ key_put ranked_cmp c.args.one c.args.first.now.keys in
    let few : length c.args.first.now.keys ≤ most = subst (λ o. IsFew o c.args.first.now.keys) c.in-Some.is c.requires.few in
    let more = one_more ranked_cmp c.args.one c.args.first.now.keys in
    let size : length c.insert.new.self.keys ≡ length set = ap length put in
    let all : length c.insert.new.self.keys ≡ most + 1 = omega (arith, few, more, size, c.len.ensures.len, c.if-most-len.true) in
    let last = popped c.pop_last.result c.insert.new.self.keys c.pop_last.new.self.keys c.pop_last.ensures.removal c.pop_last.ensures.variant (omega (arith, all)) in
    without_last most c.insert.new.self.keys c.pop_last.new.self.keys last.0 last.1 all
    ∙ (ap (take most) put ∙ sym (ap (λ o. at_most o set) c.in-Some.is))

pub returns-in_default-clause-kept : goal.returns-in_default-clause-kept
returns-in_default-clause-kept c =
    let set = set_insert ranked_cmp c.args.one c.args.first.now.keys in
    let put : c.insert.new.self.keys ≡ set = c.in_ok-insert.ensures.keys ∙ key_put ranked_cmp c.args.one c.args.first.now.keys in
    put ∙ elim c.in_default.branch [
      | in_default-via-in-None-1 w ↦ (let none : c.args.count ≡ None = cc in sym (ap (λ o. at_most o set) none))
      | in_default-via-in-Some+else-most-len w ↦
          let size : length c.insert.new.self.keys ≡ length set = ap length put in
          sym (few_are_all c.args.count set (subst (λ o. IsFew o set) (sym w.in-Some.is) (omega (arith, size, w.len.ensures.len, w.if-most-len.false))))
    ]

pub returns-then-is_behind-clause-kept : goal.returns-then-is_behind-clause-kept
returns-then-is_behind-clause-kept c = sym c.if-is_behind.ensures
