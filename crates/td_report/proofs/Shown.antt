-- The lines of a standing, of the counts of its epochs alone.
use Rattle.std.proofs.Common.{◌≡◌, ℕ, ◌+◌, max, List, [], ◌∷◌, ◌++◌, map, length, refl, sym, ap, ◌∙◌}
use Rattle.std.proofs.lemmas.List.{length-map}
use Rattle.td_slots.specs.declared.slots.Checkpoint.{Checkpoint}
use Rattle.td_journal.specs.declared.payload.Submitted.{Submitted}
use Rattle.td_journal.specs.declared.payload.Counts.{Counts}
use Rattle.td_journal.specs.Counts.{counts_of, greatest_counted}
use Rattle.td_journal.specs.Numbers.{greatest}
use Rattle.td_store.specs.standing.Standing.{standing_from}
use Rattle.td_report.specs.Shown.{kept_line, told_line, last_line, head_lines, state_lines, epoch_line, epoch_lines, shown, counted_head, count_lines, counted_lines}

same_greatest : (q : ℕ) (w : List Submitted) → greatest_counted q (map counts_of w) ≡ greatest q w
same_greatest q [] = refl
same_greatest q (s ∷ w) = same_greatest (max q s.request) w

same_lines : (e : ℕ) (w : List Submitted) → count_lines e (map counts_of w) ≡ epoch_lines e w
same_lines e [] = refl
same_lines e (s ∷ w) = ap (λ (l : List ℕ). epoch_line e s ++ l) (same_lines (e + 1) w)

same_head : (at : Checkpoint) (w : List Submitted) → counted_head at (map counts_of w) ≡ head_lines (standing_from at w)
same_head at w =
    ap (λ (n : ℕ). kept_line at.epoch ++ told_line (at.epoch + n) ++ last_line (greatest_counted at.last (map counts_of w))) (length-map w counts_of)
    ∙ ap (λ (q : ℕ). kept_line at.epoch ++ told_line (at.epoch + length w) ++ last_line q) (same_greatest at.last w)

pub counted_is_shown : (at : Checkpoint) (w : List Submitted) (counts : List Counts) → map counts_of w ≡ counts → counted_lines at counts ≡ shown (standing_from at w)
counted_is_shown at w counts is =
    ap (counted_lines at) (sym is)
    ∙ ap (λ (l : List ℕ). l ++ state_lines at.states ++ count_lines (at.epoch + 1) (map counts_of w)) (same_head at w)
    ∙ ap (λ (l : List ℕ). head_lines (standing_from at w) ++ state_lines at.states ++ l) (same_lines (at.epoch + 1) w)
