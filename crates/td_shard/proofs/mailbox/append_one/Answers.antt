use Rattle.std.proofs.Common.{arith, ◌≡◌, ◌+◌, ℕ, length, Bool, true, false, cond, Option, Some, Result, Ok, Err, sym, ap, ◌∙◌}
use Rattle.std.specs.Option.{option_map}
use Rattle.std.specs.Result.{OnOk, IsOk}
use Rattle.std.specs.HashMap.{get}
use Rattle.td_shard.specs.declared.runs.Lane.{Lane}
use Rattle.td_shard.specs.Runs.{lane_eq, last_on}
use Rattle.td_shard.proofs.mailbox.append_one.Goals as goal

on_ok : {T E P : Type 0} (r : Result T E) → IsOk r → OnOk r P → P
on_ok (Ok x) h p = p
on_ok (Err e) h p = absurd (cc)

-- a lane's last is what was put in for it, and those of the others stay
placed : (f m n : ℕ) (b : Bool) (o p q : Option ℕ) → m ≡ f + n → p ≡ option_map (λ i. f + i) q → o ≡ cond b (Some n) q → cond b (Some m) p ≡ option_map (λ i. f + i) o
placed f m n true o p q r e h = ap Some r ∙ ap (option_map (λ i. f + i)) (sym h)
placed f m n false o p q r e h = e ∙ ap (option_map (λ i. f + i)) (sym h)

pub returns-clause-lasts : goal.returns-clause-lasts
returns-clause-lasts c q =
    let now = c.append.ensures in
    let old = c.args.runs.now in
    let k = c.args.lane in
    let number = c.first-first.result + c.len.result in
    (on_ok c.insert.result (c.insert.ensures.succeeds (omega (arith, c.requires.spare))) c.insert.ensures.updates).0 q
    ∙ (ap (λ (l : Lane). cond (lane_eq l q) (Some number) (get lane_eq c.args.lasts.now q)) c.copy.ensures
    ∙ (placed old.first number (length old.parts) (lane_eq k q) (last_on lane_eq q c.append.new.runs.parts) _ (last_on lane_eq q old.parts) (omega (arith, c.first-first.ensures.number, c.len.ensures)) (c.requires.lasts q) (now.lasts q)
    ∙ ap (λ n. option_map (λ i. n + i) (last_on lane_eq q c.append.new.runs.parts)) (sym now.appended.first)))
