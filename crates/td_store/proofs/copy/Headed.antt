-- The head comes last.
use Rattle.std.proofs.Common.{◌≡◌, ◌⊎◌, inl, inr, ⊎_elim, ℕ, ◌<◌, ◌≤◌, ◌&&◌, nat_le, true, List, length, ◌∙◌, arith, Option, Some, Ok}
use Rattle.std.proofs.lemmas.Bool.{and_parts, leb-true}
use Rattle.td_plan.specs.Lines.{Line, text_of}
use Rattle.td_plan.specs.Faults.{IsPlan}
use Rattle.td_gate.specs.Region.{opened, Puts}
use Rattle.td_gate.specs.Regions.{Apart}
use Rattle.td_head.specs.Layout.{Sizes, head_a, head_b, is_shape, size_of}
use Rattle.td_head.specs.Head.{headed, head_bytes, TellsCanonical}
use Rattle.td_head.specs.Images.{IsFirstHead}
use Rattle.td_slots.specs.Slot.{slot}
use Rattle.td_journal.specs.declared.journal.Journal.{Journal}
use Rattle.td_journal.specs.declared.payload.Submitted.{Submitted}
use Rattle.td_journal.specs.Cell.{cell}
use Rattle.td_journal.specs.Images.{SameCells}
use Rattle.td_journal.specs.Ring.{told_after}
use Rattle.td_store.specs.standing.Standing.{Standing}
use Rattle.td_store.specs.standing.Told.{inputs_of, folds_of, slots_of, ring_of}
use Rattle.td_store.specs.standing.Tells.{Tells, first_head}
use Rattle.td_store.specs.copy.Copied.{HasNoHead, HasParts}
use Rattle.td_store.proofs.copy.Steps.{LeavesOthers}
use Rattle.td_store.proofs.copy.Parts.{HeadsCells, SlotsTell}

-- the laws, as they are handed in
abbrev pub HeadsSlots : Type 0
HeadsSlots = (sizes : Sizes) (i : ℕ) → Apart head_a (slot (slots_of sizes) i) × Apart head_b (slot (slots_of sizes) i)

abbrev pub FirstHeadTells : Type 0
FirstHeadTells = (plan : List Line) (sizes : Sizes) (image : List ℕ) → IsPlan plan → IsFirstHead plan sizes image
    → (headed true plan image ≡ Ok (record { version = 2; side = 0; generation = 1; shape = sizes })) × TellsCanonical true image

abbrev pub CellsTell : Type 0
CellsTell = (inputs : List ℕ) (j : Journal) (old new : List ℕ) (floor : Option ℕ) (checkpoint : ℕ) (w : List Submitted)
    → 0 < j.n → SameCells j old new → told_after inputs j old floor checkpoint ≡ Ok w → told_after inputs j new floor checkpoint ≡ Ok w

-- while it is put, no head is open, or it is
pub head_is_put : LeavesOthers → Apart head_a head_b → (p old new : List ℕ) → Puts head_a p old new → HasNoHead old → HasNoHead new ⊎ (opened head_a new ≡ Some p)
head_is_put others apart p old new put none =
    let second = others head_a head_b p old new apart put ∙ none.second in
    ⊎_elim (λ same. inl (record { first = same ∙ none.first; second = second }))
    (λ more. ⊎_elim (λ gone. inl (record { first = gone; second = second })) (λ is. inr is) more) put.region

some_cells : (sizes : Sizes) → is_shape sizes ≡ true → 0 < sizes.n
some_cells sizes is =
    let one = and_parts (nat_le 1 sizes.m && nat_le sizes.m 65536 && (nat_le 1 sizes.n && nat_le sizes.n 65536)) (nat_le 1 sizes.k && nat_le sizes.k 1048576) is in
    let two = and_parts (nat_le 1 sizes.m && nat_le sizes.m 65536) (nat_le 1 sizes.n && nat_le sizes.n 65536) one.0 in
    leb-true 1 sizes.n (and_parts (nat_le 1 sizes.n) (nat_le sizes.n 65536) two.1).0

module _ (others : LeavesOthers) (apart : Apart head_a head_b) (slots : HeadsSlots) (cells : HeadsCells) (slots_tell : SlotsTell) (cells_tell : CellsTell) (first : FirstHeadTells)
    (plan : List Line) (lawful : IsPlan plan) (sizes : Sizes) (shape : is_shape sizes ≡ true) (s : Standing) where
  abbrev pub payload : List ℕ
  payload = head_bytes 2 1 sizes (text_of plan)

  -- once it is put, all that stands behind it is told
  pub headed_tells : (old new : List ℕ) → size_of sizes ≤ length old → HasParts plan sizes s old → Puts head_a payload old new → opened head_a new ≡ Some payload → Tells plan (first_head sizes) 0 s new
  headed_tells old new size parts put is =
      let large : size_of sizes ≤ length new = omega (arith, size, put.others.size) in
      let head : IsFirstHead plan sizes new = record { shape = shape; size = large; first = is; second = others head_a head_b payload old new apart put ∙ parts.no_head.second } in
      let tells = first plan sizes new lawful head in
      record {
        canonical = true;
        text = tells.1;
        head_is = tells.0;
        checkpoint = slots_tell 2 (folds_of plan) (slots_of sizes) old new (record {
          first = others head_a (slot (slots_of sizes) 0) payload old new (slots sizes 0).0 put;
          second = others head_a (slot (slots_of sizes) 1) payload old new (slots sizes 1).0 put;
        })
            ∙ parts.slot;
        submitted = cells_tell (inputs_of plan) (ring_of sizes s.epoch) old new (Some s.last) s.epoch s.submitted (some_cells sizes shape)
            (λ i lt. others head_a (cell (ring_of sizes s.epoch) i) payload old new (cells sizes s.epoch i).0 put) parts.cells;
      }

  -- and while it is put, that, or no head is open
  pub while_put : (old new : List ℕ) → size_of sizes ≤ length old → HasParts plan sizes s old → Puts head_a payload old new → HasNoHead new ⊎ Tells plan (first_head sizes) 0 s new
  while_put old new size parts put =
      ⊎_elim (λ none. inl none) (λ is. inr (headed_tells old new size parts put is)) (head_is_put others apart payload old new put parts.no_head)
