use Rattle.std.proofs.Common.{◌≡◌, refl, ap, ◌∙◌}
use Rattle.std.specs.declared.cmp.Ordering.{Ordering}
use Rattle.std.specs.declared.cmp.Ordering.TheVariants.{Less, Equal, Greater}
use Rattle.std.specs.Ordering.{nat_cmp, ordering_then}
use Rattle.std.specs.Cmp.Lexicographic.{slice_cmp}
use Rattle.td_stamp.specs.Time.{Timestamp, counters_cmp}
use Rattle.td_stamp.proofs.time.Time.total_cmp.Goals as goal

-- the epochs decide where they differ, and the counters where they do not
decided : (r s : Ordering) → (r ≡ Equal → ⊥) → r ≡ ordering_then r s
decided Less s apart = refl
decided Equal s apart = absurd (apart refl)
decided Greater s apart = refl

pub returns-in-Equal : goal.returns-in-Equal
returns-in-Equal c =
    let mine : c.self.inside.epoch ≡ c.args.self.now.epoch = ap (λ (t : Timestamp). t.epoch) c.self.view_is in
    let others : c.other.inside.epoch ≡ c.args.other.now.epoch = ap (λ (t : Timestamp). t.epoch) c.other.view_is in
    let counters = counters_cmp c.args.self.now.turns c.args.other.now.turns in
    c.cmp-in-Equal.ensures ∙ ((λ i. slice_cmp nat_cmp (c.turns.ensures i) (c.turns-in-Equal.ensures i))
    ∙ ap (λ r. ordering_then r counters) (c.in-Equal.ensures ∙ (λ i. nat_cmp (mine i) (others i))))

pub returns-in_default : goal.returns-in_default
returns-in_default c =
    let mine : c.self.inside.epoch ≡ c.args.self.now.epoch = ap (λ (t : Timestamp). t.epoch) c.self.view_is in
    let others : c.other.inside.epoch ≡ c.args.other.now.epoch = ap (λ (t : Timestamp). t.epoch) c.other.view_is in
    let counters = counters_cmp c.args.self.now.turns c.args.other.now.turns in
    decided c.cmp.result counters c.in_default.not-Equal ∙ ap (λ r. ordering_then r counters) (c.cmp.ensures ∙ (λ i. nat_cmp (mine i) (others i)))
