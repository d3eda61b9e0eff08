-- How a count of failures stands after an answer, and a vector that is written over.
use Rattle.std.proofs.Common.{◌≡◌, inl, inr, ℕ, ◌≤◌, List, ◌++◌, length, take, drop, Ok, Err, Result, arith}
use Rattle.std.proofs.lemmas.List.{take_at}
use Rattle.td_disk.specs.Disk.{CountsDevice, Rises}
use Rattle.td_live.specs.declared.error.LiveError.{LiveError}
use Rattle.td_live.specs.declared.error.LiveError.TheVariants.{Busy, Device}

pub counts_ok : {T : Type 0} (x : T) (old now : ℕ) → now ≡ old → CountsDevice (Ok x) Device old now
counts_ok x old now same = record { later = omega (arith, same); rises = λ failed. absurd (let both : Ok x ≡ Err Device = failed in cc); stays = inr same }

pub counts_busy : {T : Type 0} (old now : ℕ) → now ≡ old → CountsDevice {T = T} (Err Busy) Device old now
counts_busy {T} old now same =
    record { later = omega (arith, same); rises = λ failed. absurd (let both : ◌≡◌ {A = Result T LiveError} (Err Busy) (Err Device) = failed in cc); stays = inr same }

pub counts_device : {T : Type 0} (r : Result T LiveError) (old now : ℕ) → r ≡ Err Device → old ≤ now → Rises old now → CountsDevice r Device old now
counts_device r old now is later rises = record { later = later; rises = λ _. rises; stays = inl is }

-- a vector written over from its start on
pub rewritten : (old now : List ℕ) (n : ℕ) → length now ≡ n → take n (now ++ drop (length now) old) ≡ now
rewritten old now n is = take_at now (drop (length now) old) n is
