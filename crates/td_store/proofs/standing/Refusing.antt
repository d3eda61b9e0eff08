-- A refusal that is handed on, and what a ring told that was read after other parts.
use Rattle.std.proofs.Common.{◌≡◌, ◌⊎◌, inl, inr, ⊎_elim, ℕ, List, length, map, Option, Result, Ok, Err, IfErr, sym, ap, ◌∙◌, subst}
use Rattle.std.specs.Result.{IsErrAnd}
use Rattle.std.proofs.lemmas.List.{length-map}
use Rattle.td_journal.specs.declared.journal.Journal.{Journal}
use Rattle.td_journal.specs.declared.payload.Submitted.{Submitted}
use Rattle.td_journal.specs.declared.payload.Counts.{Counts}
use Rattle.td_journal.specs.Counts.{counts_of}
use Rattle.td_journal.specs.Ring.{told_after}

if_err : {T F : Type 0} (r : Result T F) (P Q : F → Type 0) → IsErrAnd r P → ((f : F) → P f → Q f) → IfErr r Q
if_err (Ok x) P Q is step = tt
if_err (Err f) P Q is step = step f is

-- a part's refusal as the keeper gives it: the device, memory, or what the part tells
module _ {T E F : Type 0} (r : Result T F) (of : E → F) (d device memory : E) (lawful : Type 0) (Told : F → Type 0) where
  pub refused_by : IsErrAnd r (λ f. f ≡ of d) → (d ≡ device) ⊎ ((d ≡ memory) ⊎ (lawful → Told (of d)))
      → IfErr r (λ f. (f ≡ of device) ⊎ ((f ≡ of memory) ⊎ (lawful → Told f)))
  refused_by gives why = if_err r (λ f. f ≡ of d) (λ f. (f ≡ of device) ⊎ ((f ≡ of memory) ⊎ (lawful → Told f))) gives
      (λ f is. ⊎_elim (λ e. inl (is ∙ ap of e)) (λ other. ⊎_elim (λ e. inr (inl (is ∙ ap of e))) (λ told. inr (inr (λ l. subst Told (sym is) (told l)))) other) why)

-- the inputs as they were read, and a disk that was only read meanwhile
pub same_ring : (v i old new : List ℕ) (j : Journal) (q : Option ℕ) (k : ℕ) → i ≡ v → new ≡ old → told_after v j old q k ≡ told_after i j new q k
same_ring v i old new j q k inputs bytes = ap (λ (x : List ℕ). told_after x j old q k) (sym inputs) ∙ ap (λ (b : List ℕ). told_after i j b q k) (sym bytes)

-- as many epochs as there are counts
pub as_many : (w : List Submitted) (counts : List Counts) → map counts_of w ≡ counts → length w ≡ length counts
as_many w counts is = sym (length-map w counts_of) ∙ ap length is
