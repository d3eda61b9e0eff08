-- What a feed counts of the failures of its disk.
use Rattle.std.proofs.Common.{◌≡◌, ◌⊎◌, inl, inr, ⊎_elim, ℕ, ◌≤◌, Bool, true, false, ◌||◌, [], ◌∷◌, refl, sym, ap, ◌∙◌, subst, arith}
use Rattle.std.specs.Prelude.{Result, Ok, Err, OnOk, IfErr}
use Rattle.std.specs.Result.{IsErrAnd}
use Rattle.td_disk.specs.Disk.{Rises, CountsDevice}
use Rattle.td_store.specs.declared.standing.error.KeeperError.{KeeperError}
use Rattle.td_store.specs.declared.standing.error.KeeperError.TheVariants as error
use Rattle.td_keeper.specs.declared.command.Reply.{Reply}
use Rattle.td_keeper.specs.declared.command.Reply.TheVariants.{Submitted, SubmittedAs, SubmittedAll, Released, Settled, Collected, Out, CutTaken, Answered, Written, Closed, Refused, RefusedAll}
use Rattle.td_keeper.specs.declared.submit_all.GroupError.TheVariants as group
use Rattle.td_keeper.specs.Driven.{is_device, some_failed}
use Rattle.td_core.specs.declared.error.HallError.TheVariants as hall
use Rattle.td_pool.specs.declared.error.PoolError.{PoolError}
use Rattle.td_pool.specs.declared.error.PoolError.TheVariants as pool
use Rattle.td_console.specs.declared.faults.Fault.{Fault}
use Rattle.td_console.specs.declared.faults.Fault.TheVariants.{Keeper, Memory}
use Rattle.td_console.specs.Refusals.{keeper_fault}
use Rattle.td_console.specs.Answer.{lack_fault}
use Rattle.td_calls.specs.declared.error.CallsError.{CallsError}
use Rattle.td_calls.specs.declared.error.CallsError.TheVariants as calls
use Rattle.td_feed.specs.Fed.{pool_fault}
use Rattle.td_feed.specs.Stepping.{outcome_of}
use Rattle.td_feed.proofs.Lines.{EndedAs}

-- a fault that is not the device's
pub other_fault : {T : Type 0} (result : Result T Fault) (P : Fault → Type 0) → IsErrAnd result P → (P (Keeper error.Device) → ⊥) → result ≡ Err (Keeper error.Device) → ⊥
other_fault (Ok x) P none not_so is = none
other_fault (Err f) P holds not_so is = not_so (subst (λ (r : Result _ Fault). IsErrAnd r P) is holds)

-- nothing failed
pub counts_same : {T : Type 0} (result : Result T Fault) (n m : ℕ) → (result ≡ Err (Keeper error.Device) → ⊥) → n ≡ m → CountsDevice result (Keeper error.Device) n m
counts_same result n m not_so is = record { later = omega (arith, is); rises = λ device. absurd (not_so device); stays = inr (sym is) }

-- the same fault is handed on
abbrev pub as_err : (T : Type 0) → Fault → Result T Fault
as_err T f = Err f

-- what fault an answer tells, or another where it tells none
abbrev fault_in_result : Fault → Result (Unit {0}) Fault → Fault
fault_in_result e (Ok x) = e
fault_in_result e (Err g) = g

-- the fault of a refusal is the one that is told
pub fault_of : (e f : Fault) → as_err (Unit {0}) e ≡ as_err (Unit {0}) f → e ≡ f
fault_of e f is = ap (λ (r : Result (Unit {0}) Fault). fault_in_result e r) is

pub counts_handed : {S T : Type 0} (result : Result T Fault) (e : Fault) (n m : ℕ) → IsErrAnd result (λ f. f ≡ e) → CountsDevice (as_err S e) (Keeper error.Device) n m
    → CountsDevice result (Keeper error.Device) n m
counts_handed (Ok x) e n m none counts = absurd none
counts_handed {S = S} {T = T} (Err f) e n m is counts = record {
  later = counts.later;
  rises = λ device. counts.rises (ap (as_err S) (sym is ∙ ap fault_at device));
  stays = elim counts.stays as (λ _. (as_err T f ≡ as_err T (Keeper error.Device)) ⊎ (m ≡ n)) [ inl device ↦ inl (ap (as_err T) (is ∙ ap fault_at device)) | inr same ↦ inr same ];
}
  where
    fault_at : {R : Type 0} → Result R Fault → Fault
    fault_at (Ok x) = e
    fault_at (Err g) = g

-- after what did not fail
pub counts_after : {T : Type 0} (result : Result T Fault) (k n m : ℕ) → n ≡ k → CountsDevice result (Keeper error.Device) n m → CountsDevice result (Keeper error.Device) k m
counts_after result k n m is counts = subst (λ (i : ℕ). CountsDevice result (Keeper error.Device) i m) is counts

abbrev done : Result (Unit {0}) Fault
done = Ok tt

-- what did not fail left the count
abbrev as_ok : {T : Type 0} → T → Result T Fault
as_ok x = Ok x

pub or_false : (b : Bool) → (b || false) ≡ b
or_false true = refl
or_false false = refl

pub same_count : {T : Type 0} (x : T) (n m : ℕ) → CountsDevice (as_ok x) (Keeper error.Device) n m → m ≡ n
same_count x n m counts = elim counts.stays as (λ _. m ≡ n) [ inl not_so ↦ absurd (let is = not_so in cc) | inr same ↦ same ]

-- the fault of a refusal
counts_error : (e : KeeperError) (n m : ℕ) → n ≤ m → (is_device e ≡ true → Rises n m) → (is_device e ≡ false → m ≡ n) → CountsDevice (as_err (Unit {0}) (keeper_fault e)) (Keeper error.Device) n m
counts_error error.Device n m later rose same = record { later = later; rises = λ device. rose refl; stays = inl refl }
counts_error _ n m later rose same = record { later = later; rises = λ device. absurd (let not_so = device in cc); stays = inr (same refl) }

-- what did not fail
counts_none : (n m : ℕ) → n ≤ m → m ≡ n → CountsDevice done (Keeper error.Device) n m
counts_none n m later same = record { later = later; rises = λ device. absurd (let not_so = device in cc); stays = inr same }

-- a reply, as a feed answers it
pub counts_of : (reply : Reply) (n m : ℕ) → n ≤ m → (some_failed (reply ∷ []) ≡ true → Rises n m) → (some_failed (reply ∷ []) ≡ false → m ≡ n) → CountsDevice (outcome_of reply) (Keeper error.Device) n m
counts_of (Refused e b) n m later rose same = counts_error e n m later (λ is. rose (or_false (is_device e) ∙ is)) (λ is. same (or_false (is_device e) ∙ is))
counts_of (RefusedAll (group.Keeper e) b) n m later rose same = counts_error e n m later (λ is. rose (or_false (is_device e) ∙ is)) (λ is. same (or_false (is_device e) ∙ is))
counts_of (RefusedAll group.Repeated b) n m later rose same = record { later = later; rises = λ device. absurd (let not_so = device in cc); stays = inr (same refl) }
counts_of (Submitted k) n m later rose same = counts_none n m later (same refl)
counts_of (SubmittedAs k) n m later rose same = counts_none n m later (same refl)
counts_of (SubmittedAll k i) n m later rose same = counts_none n m later (same refl)
counts_of (Released k) n m later rose same = counts_none n m later (same refl)
counts_of Settled n m later rose same = counts_none n m later (same refl)
counts_of (Collected k) n m later rose same = counts_none n m later (same refl)
counts_of (Out o) n m later rose same = counts_none n m later (same refl)
counts_of (CutTaken k) n m later rose same = counts_none n m later (same refl)
counts_of (Written w) n m later rose same = counts_none n m later (same refl)
counts_of (Answered k ys) n m later rose same = counts_none n m later (same refl)
counts_of Closed n m later rose same = counts_none n m later (same refl)

-- a worker's refusal is none of the device's
worker_no_device : (r : PoolError) → pool_fault r ≡ Keeper error.Device → ⊥
worker_no_device (pool.NoCall vertex code) is = absurd (let not_so = is in cc)
worker_no_device pool.Memory is = absurd (let not_so = is in cc)
worker_no_device pool.NotAll is = absurd (let not_so = is in cc)
worker_no_device (pool.Hall hall.Memory) is = absurd (let not_so = is in cc)
worker_no_device (pool.Hall hall.Spent) is = absurd (let not_so = is in cc)
worker_no_device (pool.Hall _) is = absurd (let not_so = is in cc)

-- what did not fail in a feed left the count
whole_count : (obeyed : Result (Unit {0}) Fault) (n m : ℕ) → CountsDevice obeyed (Keeper error.Device) n m → (obeyed ≡ Ok tt) ⊎ ((e : ℕ) × (obeyed ≡ Err (Keeper (error.NotPassed e)))) → m ≡ n
whole_count obeyed n m counts why =
    elim counts.stays as (λ _. m ≡ n) [
      | inl device ↦ ⊎_elim (λ done. absurd (let not_so = done in let is = device in cc)) (λ unpassed. absurd (let not_so = unpassed.1 in let is = device in cc)) why
      | inr same ↦ same
    ]

-- how a feed ended
pub ended_counts : (obeyed result : Result (Unit {0}) Fault) (worked : Result (Unit {0}) PoolError) (n m : ℕ) → OnOk result ((obeyed ≡ Ok tt) × (worked ≡ Ok tt)) → IfErr result (EndedAs obeyed worked)
    → CountsDevice obeyed (Keeper error.Device) n m → CountsDevice result (Keeper error.Device) n m
ended_counts obeyed (Ok done) worked n m ok err counts = subst (λ (r : Result (Unit {0}) Fault). CountsDevice r (Keeper error.Device) n m) ok.0 counts
ended_counts obeyed (Err f) worked n m ok err counts =
    ⊎_elim (λ same. subst (λ (r : Result (Unit {0}) Fault). CountsDevice r (Keeper error.Device) n m) same counts)
    (λ other. counts_same (as_err (Unit {0}) f) n m (λ is. worker_no_device other.1.0 (let not_so = is in let said = other.1.2 in cc)) (sym (whole_count obeyed n m counts other.0))) err

-- want of memory is none of the device's, nor is a last epoch
pub memory_no_device : as_err (Unit {0}) Memory ≡ as_err (Unit {0}) (Keeper error.Device) → ⊥
memory_no_device is = absurd (let not_so = is in cc)

pub epochs_no_device : as_err (Unit {0}) (Keeper error.Epochs) ≡ as_err (Unit {0}) (Keeper error.Device) → ⊥
epochs_no_device is = absurd (let not_so = is in cc)

pub opening_no_device : {T : Type 0} (f : Fault) → (f ≡ Memory) ⊎ ((f ≡ Keeper error.Epochs) × T) → as_err (Unit {0}) f ≡ as_err (Unit {0}) (Keeper error.Device) → ⊥
opening_no_device f (inl memory) is = memory_no_device (ap (as_err (Unit {0})) (sym memory) ∙ is)
opening_no_device f (inr epochs) is = epochs_no_device (ap (as_err (Unit {0})) (sym epochs.0) ∙ is)

-- which refusal of a keeper's the device's fault is
pub keeper_device : (e : KeeperError) → keeper_fault e ≡ Keeper error.Device → e ≡ error.Device
keeper_device error.Device is = refl
keeper_device _ is = absurd (let not_so = is in cc)

-- a closure that lacks is none
pub lack_no_device : (lack : CallsError) → as_err (Unit {0}) (lack_fault lack) ≡ as_err (Unit {0}) (Keeper error.Device) → ⊥
lack_no_device (calls.NoCall vertex code) is = absurd (let not_so = is in cc)
lack_no_device _ is = absurd (let not_so = is in cc)
