-- What an engine promises of a reader and a writer.
use Rattle.std.specs.Prelude.{◌≡◌, ◌≢◌, ◌⊎◌, ℕ, ◌^◌, List, [], Option, IfSome, IfErr, OnOk, Result}
use Rattle.td_console.specs.declared.faults.Fault.{Fault}
use Rattle.td_console.specs.declared.faults.Fault.TheVariants.{Input, Output}

-- AN ENGINE, of what it writes, of which text there is no room for, and of its faults; of what a reader gives and when it ends, of what a
-- writer holds and what it has room for; of both before and after; and of its answer
pub record Promises {S T U : Type 0} (Writes : Option (List ℕ) → Option (List ℕ) → List ℕ → Type 0) (Lacks : (ℕ → Type 0) → List ℕ → Type 0)
    (IsFault : Option (List ℕ) → Fault → Type 0) (remaining : S → Option (List ℕ)) (EndsWithin : S → ℕ → Type 0)
    (contents : T → Option (List ℕ)) (HasRoom : T → ℕ → Type 0) (reader read : S) (writer written : T) (result : Result U Fault) : Type 0 where
  -- it writes the answer to all that it reads
  pub ok : OnOk result (IfSome (remaining reader) (Writes (contents writer) (contents written)))
  pub end : OnOk result (IfSome (remaining read) (λ rest. rest ≡ []))
  pub fault : IfErr result (IsFault (remaining reader))
  -- where the end comes within 2^32 reads, and none fails but for an interruption, the fault is none of the reader's
  pub input : EndsWithin reader (2 ^ 32) → IfErr result (λ f. f ≢ Input)
  -- where the writer fails, there was an answer, and it had no room for it
  pub output : IfErr result (λ f. f ≡ Output → IfSome (remaining reader) (Lacks (HasRoom writer)))
  pub room : ((n : ℕ) → HasRoom writer n) → IfErr result (λ f. f ≢ Output)
  pub nothing : IfErr result (λ f. (f ≡ Output) ⊎ (written ≡ writer))
