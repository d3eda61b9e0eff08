use Rattle.std.proofs.Common.{◌+◌, ◌<◌, ◌++◌, ◌∷◌, Result, Ok, Err, length, take, drop, refl, ap, ◌∙◌, arith}
use Rattle.std.specs.Result.{OnOk, OnErr}
use Rattle.td_shard.proofs.InOneList.{moved}
use Rattle.td_shard.proofs.runs.move_down.Goals as goal

-- where it cannot be refused, it is done
done : {T E P Q : Type 0} (r : Result T E) → OnOk r P → OnErr r Q → (Q → ⊥) → P
done (Ok x) p q none = p
done (Err e) p q none = absurd (none q)

pub returns-in-Some-clause-items : goal.returns-in-Some-clause-items
returns-in-Some-clause-items c =
    let old = c.args.rows.now in
    let i = c.args.to + c.args.count in
    let within : i < length old.items = omega (arith, c.requires, old.ok) in
    let gone = c.in-Some.ensures in
    done c.insert.result c.insert.ensures.items c.insert.ensures.full (λ full. omega (arith, full, gone.len, c.remove.ensures.capacity, old.small))
    ∙ (ap (λ l. take c.args.to l ++ c.in-Some.rec ∷ drop c.args.to l) gone.items
    ∙ moved c.args.to c.args.count i old.items c.in-Some.rec refl within gone.value)
